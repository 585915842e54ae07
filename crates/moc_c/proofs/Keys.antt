-- Trees as finite maps, and the ids of a map after a change.
use Rattle.std.proofs.Common.{◌≡◌, ℕ, ◌+◌, Bool, true, false, cond, List, [], ◌∷◌, Option, None, Some, refl, sym, ap, ◌∙◌, arith, nat_eq, ne_eqb, is_some, inl, inr}
use Rattle.std.proofs.lemmas.Bool.Decides.{nat_tests}
use Rattle.std.specs.Ordering.{nat_cmp, eq_by_cmp}
use Rattle.std.specs.Cmp.{nat_cmp_total, eq_by_cmp_equiv, unsigned_tied}
use Rattle.std.specs.Map.{lookup}
use Rattle.std.specs.BTreeMap as tree
use Rattle.std.specs.BTreeMap.{BTreeMap, is_at}
use Rattle.std.specs.FinMap as map
use Rattle.std.specs.FinMap.{find}
use Rattle.moc_lists.specs.RangeList.{NumberSet}
use Rattle.moc_c.specs.Answers.{Frees}
use Rattle.moc_c.specs.Contents.{set_with_id, Contents, without_set}
use Rattle.moc_c.specs.Private.Storing.{IsEmptyFrom}
use Rattle.moc_c.specs.CallResults.{success, result_of}
use Rattle.moc_c.specs.declared.error.CallError.TheVariants.{NoSuchSet}
use Rattle.moc_c.specs.declared.call_result.CallResult.{CallResult}

find_is : {X : Type 0} (es : List (ℕ × X)) (q : ℕ) → find nat_cmp q es ≡ lookup (is_at (nat_cmp q)) es
find_is [] q = refl
find_is (e ∷ es) q = ap (cond (is_at (nat_cmp q) e.0) (Some e.1)) (find_is es q)

pub get_entries : {X : Type 0} (t : BTreeMap ℕ X) (q : ℕ) → map.get (map.from_entries {R = nat_cmp} t.entries) q ≡ tree.get nat_cmp t q
get_entries t q = map.get-from_entries nat_cmp_total t.entries q ∙ find_is t.entries q

-- inserting a value into the tree inserts it into the map
pub text_of_set : {X : Type 0} (m n : BTreeMap ℕ X) (k : ℕ) (w : X) → ((q : ℕ) → tree.get nat_cmp n q ≡ cond (is_at (nat_cmp k) q) (Some w) (tree.get nat_cmp m q))
    → map.from_entries {R = nat_cmp} n.entries ≡ map.insert (map.from_entries m.entries) k w
text_of_set m n k w h = map.same_map nat_cmp_total map.nat_cmp-IsAntisymmetric _ _ (λ q.
    get_entries n q ∙ h q ∙ ap (λ b. cond b (Some w) (tree.get nat_cmp m q)) ((eq_by_cmp_equiv nat_cmp_total).symm k q)
    ∙ sym (map.get-insert nat_cmp_total (map.from_entries m.entries) k w q ∙ ap (cond (eq_by_cmp nat_cmp q k) (Some w)) (get_entries m q)))

-- removing a value from the tree removes it from the map
pub get_after_removal : {X : Type 0} (m n : BTreeMap ℕ X) (k : ℕ) → ((q : ℕ) → tree.get nat_cmp n q ≡ cond (is_at (nat_cmp k) q) None (tree.get nat_cmp m q))
    → map.from_entries {R = nat_cmp} n.entries ≡ map.remove (map.from_entries m.entries) k
get_after_removal m n k h = map.same_map nat_cmp_total map.nat_cmp-IsAntisymmetric _ _ (λ q.
    get_entries n q ∙ h q ∙ ap (λ b. cond b None (tree.get nat_cmp m q)) ((eq_by_cmp_equiv nat_cmp_total).symm k q)
    ∙ sym (map.get-remove nat_cmp_total (map.from_entries m.entries) k q ∙ ap (cond (eq_by_cmp nat_cmp q k) None) (get_entries m q)))

pub none_at_first : (next : ℕ) → IsEmptyFrom next map.empty
none_at_first next = λ id le. map.get-empty nat_cmp id

pub empty_after_insert : (sets : map.FinMap nat_cmp NumberSet) (next : ℕ) (a : NumberSet) → IsEmptyFrom next sets → IsEmptyFrom (next + 1) (map.insert sets next a)
empty_after_insert sets next a none = λ id le.
    map.get-insert nat_cmp_total sets next a id
    ∙ ap (λ b. cond b (Some a) (map.get sets id)) (unsigned_tied id next ∙ ne_eqb id next (omega arith))
    ∙ none id (omega arith)

pub none_after_free : (sets : map.FinMap nat_cmp NumberSet) (next k : ℕ) → IsEmptyFrom next sets → IsEmptyFrom next (map.remove sets k)
none_after_free sets next k none = λ id le.
    map.get-remove nat_cmp_total sets k id ∙ ap (cond (eq_by_cmp nat_cmp id k) None) (none id le) ∙ gone (eq_by_cmp nat_cmp id k)
  where
    gone : (b : Bool) → cond {A = Option NumberSet} b None None ≡ None
    gone true = refl
    gone false = refl

-- ---- the result of `moc_free`

remove_none : (m : map.FinMap nat_cmp NumberSet) (k : ℕ) → map.get m k ≡ None → map.remove m k ≡ m
remove_none m k none = map.same_map nat_cmp_total map.nat_cmp-IsAntisymmetric _ _ (λ q.
    map.get-remove nat_cmp_total m k q ∙ ap (λ b. cond b None (map.get m q)) (unsigned_tied q k)
    ∙ elim (nat_eq q k) as (λ b. nat_eq q k ≡ b → cond b None (map.get m q) ≡ map.get m q) [
      | true ↦ λ e. let is : q ≡ k = grind (arith, nat_tests) in sym (ap (map.get m) is ∙ none)
      | false ↦ λ e. refl
    ] refl)

pub frees_set : (s d e : Contents) (id : ℕ) (found : Bool) (o : CallResult) → s ≡ d → e ≡ without_set s id → found ≡ is_some (set_with_id s id) → found ≡ true → o ≡ success → Frees d e id o
frees_set s d e id found o same is told some well =
    rest (set_with_id s id) refl
  where
    rest : (x : Option NumberSet) → set_with_id s id ≡ x → Frees d e id o
    rest (Some a) at = inl (a, sym (ap (λ (c : Contents). set_with_id c id) same) ∙ at, is ∙ ap (λ (c : Contents). without_set c id) same, well)
    rest None at = let clash : true ≡ false = sym some ∙ told ∙ ap is_some at in absurd cc

pub not_freed : (s d e : Contents) (id : ℕ) (found : Bool) (o : CallResult) → s ≡ d → e ≡ without_set s id → found ≡ is_some (set_with_id s id) → found ≡ false → o ≡ result_of (NoSuchSet id) → Frees d e id o
not_freed s d e id found o same is told none well =
    rest (set_with_id s id) refl
  where
    rest : (x : Option NumberSet) → set_with_id s id ≡ x → Frees d e id o
    rest (Some a) at = let clash : true ≡ false = sym (ap is_some at) ∙ sym told ∙ none in absurd cc
    rest None at =
        let kept : without_set s id ≡ s = λ i. record { sets = remove_none s.sets id at i; next = s.next; text = s.text } in
        inr (sym (ap (λ (c : Contents). set_with_id c id) same) ∙ at, is ∙ kept ∙ same, well)
