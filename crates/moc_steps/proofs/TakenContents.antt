-- The contents that a client has taken, with one more part.
use Rattle.std.proofs.Common.{◌≡◌, ℕ, zero, suc, ◌<◌, Bool, true, false, ◌||◌, inl, inr, List, [], ◌∷◌, ◌&&◌, length}
use Rattle.std.proofs.Common.{get_or, set as set_at, Option, None, Some, slice_get, take, nat_eq, option_map, IfSome}
use Rattle.std.proofs.Common.{is_some, refl, sym, ap, subst, ◌∙◌, arith, eq-eqb, eqb-true, ne_eqb}
use Rattle.std.specs.FinSet as set
use Rattle.moc_lists.specs.RangeList.{NumberSet}
use Rattle.moc_ranges.specs.Operations.{part_of, IsWithin, pixels}
use Rattle.moc_parts.specs.Objects.{base_pixel}
use Rattle.moc_parts.specs.Parts.{union_of, AreWithinParts}
use Rattle.moc_parts.specs.Batches.{footprint_of_all, set_after_all}
use Rattle.moc_parts.specs.Prepared.{content_or_empty, part_if, Preparation, IsPrepared}
use Rattle.moc_parts.specs.declared.command.Command.{Command}
use Rattle.moc_parts.specs.declared.reply.Reply.{Reply}
use Rattle.moc_steps.specs.Private.ClientState.{contents_of, UpdateResult, IsResultOf}
use Rattle.moc_steps.proofs.Cases.{is_in}
use Rattle.moc_steps.proofs.Sky.{within_of}
use Rattle.moc_steps.proofs.Headline.{of_union}
use Rattle.moc_steps.proofs.Basics.{has-union, has-empty, same_set, same_or, absurd_bool, not_true_false, and_true, and_is_true}
use Rattle.moc_steps.proofs.Basics.{or_left, or_right, get_set_same, get_set_other, length_set, length-map, or_assoc_right}
use Rattle.moc_steps.proofs.Basics.{or_false}
use Rattle.moc_steps.proofs.EditStep.{has_part}
use Rattle.moc_steps.proofs.TakingParts.{take_next}

pub get_less : {X : Type 0} (xs : List X) (n : ℕ) (x : X) → slice_get xs n ≡ Some x → n < length xs
get_less [] n x h = absurd (cc)
get_less (y ∷ xs) zero x h = omega arith
get_less (y ∷ xs) (suc n) x h = let l = get_less xs n x h in omega arith

pub contents_of-set : (xs : List (Option NumberSet)) (q : ℕ) (l : NumberSet) → contents_of (set_at xs q (Some l)) ≡ set_at (contents_of xs) q l
contents_of-set [] q l = refl
contents_of-set (x ∷ xs) zero l = refl
contents_of-set (None ∷ xs) (suc q) l = ap (λ ys. set.empty ∷ ys) (contents_of-set xs q l)
contents_of-set (Some a ∷ xs) (suc q) l = ap (λ ys. a ∷ ys) (contents_of-set xs q l)

or_swap : (x y : Bool) → (x || y) ≡ (y || x)
or_swap true true = refl
or_swap true false = refl
or_swap false true = refl
or_swap false false = refl

in_union : (As : List NumberSet) (b p : ℕ) → set.contains (get_or As b set.empty) p ≡ true → set.contains (union_of As) p ≡ true
in_union [] b p h = h
in_union (A ∷ As) zero p h = has-union A (union_of As) p ∙ or_left _ _ h
in_union (A ∷ As) (suc b) p h = has-union A (union_of As) p ∙ or_right _ _ (in_union As b p h)

union-set : (As : List NumberSet) (q : ℕ) (l : NumberSet) (p : ℕ) → q < length As → get_or As q set.empty ≡ set.empty → set.contains (union_of (set_at As q l)) p ≡ (set.contains (union_of As) p || set.contains l p)
union-set [] q l p h e = absurd (omega arith)
union-set (A ∷ As) zero l p h e = has-union l (union_of As) p ∙ or_swap (set.contains l p) (set.contains (union_of As) p) ∙ ap (λ x. x || set.contains l p) (sym (has-union A (union_of As) p ∙ ap (λ B. set.contains B p || set.contains (union_of As) p) e ∙ ap (λ x. x || set.contains (union_of As) p) (has-empty p)))
union-set (A ∷ As) (suc q) l p h e = has-union A (union_of (set_at As q l)) p ∙ ap (λ x. set.contains A p || x) (union-set As q l p (omega arith) e) ∙ or_assoc_right (set.contains A p) (set.contains (union_of As) p) (set.contains l p) ∙ ap (λ x. x || set.contains l p) (sym (has-union A (union_of As) p))

-- a part whose taken content is empty
part_is_empty : (As : List NumberSet) (q : ℕ) → part_of (get_or As q set.empty) q ≡ get_or As q set.empty → part_of (union_of As) q ≡ set.empty → get_or As q set.empty ≡ set.empty
part_is_empty As q own fresh = same_set _ _ (λ p. not_true_false _ (λ t.
    let a = and_true (set.contains (get_or As q set.empty) p) (nat_eq (base_pixel p) q) (sym (has_part (get_or As q set.empty) q p) ∙ ap (λ B. set.contains B p) own ∙ t) in
    absurd_bool (set.contains (set.empty) p) (ap (λ B. set.contains B p) (sym fresh) ∙ has_part (union_of As) q p ∙ and_is_true (in_union As q p t) a.1) (has-empty p)) ∙ sym (has-empty p))

pub previous_more : (xs : List (Option NumberSet)) (q : ℕ) (l : NumberSet) → AreWithinParts (contents_of xs) → q < 12 → part_of (union_of (contents_of xs)) q ≡ set.empty → union_of (contents_of (set_at xs q (Some l))) ≡ set.union (union_of (contents_of xs)) l
previous_more xs q l lie low fresh = same_set _ _ (λ p. ap (λ As. set.contains (union_of As) p) (contents_of-set xs q l)
    ∙ union-set (contents_of xs) q l p (subst (λ n. q < n) (sym lie.twelve) low) (part_is_empty (contents_of xs) q (lie.own q low) fresh) ∙ sym (has-union (union_of (contents_of xs)) l p))

pub contents_within_parts_next : (xs : List (Option NumberSet)) (q : ℕ) (l : NumberSet) → AreWithinParts (contents_of xs) → q < 12 → part_of l q ≡ l → AreWithinParts (contents_of (set_at xs q (Some l)))
contents_within_parts_next xs q l lie low own = subst AreWithinParts (sym (contents_of-set xs q l)) (record {
  twelve = length_set (contents_of xs) q l ∙ lie.twelve;
  own = λ b k. elim (same_or b q) [
    | inl e ↦ ap (λ i. part_of (get_or (set_at (contents_of xs) q l) i set.empty) i) e ∙ ap (λ B. part_of B q) (get_set_same (contents_of xs) q l set.empty (subst (λ n. q < n) (sym lie.twelve) low)) ∙ own
        ∙ sym (ap (λ i. get_or (set_at (contents_of xs) q l) i set.empty) e ∙ get_set_same (contents_of xs) q l set.empty (subst (λ n. q < n) (sym lie.twelve) low))
    | inr d ↦ ap (λ B. part_of B b) (get_set_other (contents_of xs) q b l set.empty d) ∙ lie.own b k ∙ sym (get_set_other (contents_of xs) q b l set.empty d)
  ];
})

-- one more part is taken
pub taken_contents_next : (xs : List (Option NumberSet)) (parts : List ℕ) (n q : ℕ) (l : NumberSet) → slice_get parts n ≡ Some q → q < length xs
    → ((b : ℕ) → b < 12 → is_some (get_or xs b None) ≡ is_in b (take n parts)) → (b : ℕ) → b < 12 → is_some (get_or (set_at xs q (Some l)) b None) ≡ is_in b (take (suc n) parts)
taken_contents_next xs parts n q l next low h b k = elim (same_or b q) [
  | inl e ↦ ap is_some (ap (λ i. get_or (set_at xs q (Some l)) i None) e ∙ get_set_same xs q (Some l) None low) ∙ sym (take_next b n q parts next ∙ or_right (is_in b (take n parts)) (nat_eq q b) (eq-eqb q b (sym e)))
  | inr d ↦ ap is_some (get_set_other xs q b (Some l) None d) ∙ h b k ∙ sym (take_next b n q parts next ∙ ap (λ t. is_in b (take n parts) || t) (ne_eqb q b (λ e. d (sym e))) ∙ or_false (is_in b (take n parts)))
]

pub no_index_no_update : (prepared_update : Option UpdateResult) (P : UpdateResult → Type 0) → option_map (λ (m : UpdateResult). m.entry_index) prepared_update ≡ None → IfSome prepared_update P
no_index_no_update None P h = tt
no_index_no_update (Some m) P h = absurd (cc)

-- an existing element does not depend on the default value
pub same_default : {X : Type 0} (xs : List X) (i : ℕ) (d e : X) → i < length xs → get_or xs i d ≡ get_or xs i e
same_default [] i d e h = absurd (omega arith)
same_default (x ∷ xs) zero d e h = refl
same_default (x ∷ xs) (suc i) d e h = same_default xs i d e (omega arith)

-- no part is taken yet
pub union_of_no_contents : (xs : List (Option NumberSet)) → ((b : ℕ) → get_or xs b None ≡ None) → union_of (contents_of xs) ≡ set.empty
union_of_no_contents [] h = refl
union_of_no_contents (x ∷ xs) h = same_set _ _ (λ p. has-union (content_or_empty x) (union_of (contents_of xs)) p
    ∙ ap (λ A. set.contains A p || set.contains (union_of (contents_of xs)) p) (ap content_or_empty (h 0))
    ∙ ap (λ t. t || set.contains (union_of (contents_of xs)) p) (has-empty p)
    ∙ ap (λ A. set.contains A p) (union_of_no_contents xs (λ b. h (suc b))))

get-contents_of : (xs : List (Option NumberSet)) (b : ℕ) → get_or (contents_of xs) b set.empty ≡ content_or_empty (get_or xs b None)
get-contents_of [] b = refl
get-contents_of (x ∷ xs) zero = refl
get-contents_of (x ∷ xs) (suc b) = get-contents_of xs b

part-empty : (b : ℕ) → part_of set.empty b ≡ set.empty
part-empty b = same_set _ _ (λ p. has_part set.empty b p ∙ ap (λ t. t && nat_eq (base_pixel p) b) (has-empty p) ∙ sym (has-empty p))

pub no_contents_within_parts : (xs : List (Option NumberSet)) → length xs ≡ 12 → ((b : ℕ) → get_or xs b None ≡ None) → AreWithinParts (contents_of xs)
no_contents_within_parts xs n h = record {
  twelve = length-map content_or_empty xs ∙ n;
  own = λ b l. let e : get_or (contents_of xs) b set.empty ≡ set.empty = get-contents_of xs b ∙ ap content_or_empty (h b) in ap (λ A. part_of A b) e ∙ part-empty b ∙ sym e;
}

-- the union of lists within their base pixels is within the sky
pub union_within_sky : (As : List NumberSet) → AreWithinParts As → IsWithin (union_of As) pixels
union_within_sky As lie = within_of (union_of As) (λ p t. let k = of_union As p t in
    let low : k.0 < 12 = subst (λ n. k.0 < n) lie.twelve k.1 in
    let own : set.contains (part_of (get_or As k.0 set.empty) k.0) p ≡ true = ap (λ A. set.contains A p) (lie.own k.0 low) ∙ k.2 in
    subst (λ b. b < 12) (sym (eqb-true (base_pixel p) k.0 (and_true _ _ (sym (has_part (get_or As k.0 set.empty) k.0 p) ∙ own)).1)) low)

-- the prepared result is that of the batch on the contents of the parts
pub result_from_prepared : (cs : List Command) (given : ℕ → Bool) (taken_content : NumberSet) (p : Preparation) (entry_index : ℕ) (lists : List (Option NumberSet)) (replies : List Reply) → IsWithin taken_content pixels → IsPrepared cs given taken_content p
    → ((b : ℕ) → b < 12 → given b ≡ footprint_of_all cs b) → ((b : ℕ) → b < 12 → get_or lists b None ≡ get_or p.lists b None) → replies ≡ p.replies → IsResultOf cs taken_content (record { entry_index = entry_index; lists = lists; replies = replies })
result_from_prepared cs given taken_content p entry_index lists replies within h whole same said = record {
  replied = said ∙ h.determined.replied taken_content within (λ q t. refl);
  parts = λ b l. same b l ∙ h.parts b l ∙ ap (λ t. part_if t (set_after_all taken_content cs) b) (whole b l);
}
