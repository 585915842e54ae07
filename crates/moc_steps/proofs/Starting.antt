-- The initial world of a set.
use Rattle.std.proofs.Common.{◌≡◌, ℕ, List, [], ◌∷◌, ◌++◌, Option, None, Some}
use Rattle.std.proofs.Common.{length, option_map, refl, sym, ap, subst, ◌∙◌, arith}
use Rattle.std.specs.Ordering.{nat_cmp}
use Rattle.std.specs.FinMap as map
use Rattle.moc_lists.specs.RangeList.{NumberSet}
use Rattle.moc_ranges.specs.Operations.{pixels, IsWithin}
use Rattle.moc_parts.specs.Batches.{batches}
use Rattle.moc_parts.specs.Parts.{parts_below}
use Rattle.moc_steps.specs.Theorems.{IsReachable}
use Rattle.moc_steps.specs.Machine.{start_world}
use Rattle.moc_steps.specs.Private.ClientState.{ClientState}
use Rattle.moc_steps.specs.Played.{entries_of}
use Rattle.moc_steps.specs.Private.Worlds.{IsWorld, world_of}
use Rattle.moc_steps.specs.declared.step.Entry.{Entry}
use Rattle.moc_steps.proofs.AnyObject.{start_reached}
use Rattle.moc_steps.proofs.Loops.{twelve_nones}
use Rattle.moc_steps.proofs.Values.{get-values, values-empty}
use Rattle.moc_steps.proofs.Preserved.{Table, clients_of, holder_nobody}

-- one more list has an owner
pub next_list_of_rest : {X : Type 0} (done next : List X) (list new : X) (left rest all : List X) → next ≡ done ++ new ∷ [] → new ≡ list → left ≡ list ∷ rest → done ++ left ≡ all → next ++ rest ≡ all
next_list_of_rest [] next list new left rest all add is more whole = (λ i. add i ++ rest) ∙ ap (λ x. x ∷ rest) is ∙ sym more ∙ whole
next_list_of_rest (x ∷ done) next list new left rest all add is more whole = (λ i. add i ++ rest) ∙ ap (λ xs. x ∷ xs) (next_list_of_rest done (done ++ new ∷ []) list new left rest (done ++ left) refl is more refl) ∙ whole

pub no_items : {X : Type 0} (xs : List X) → length xs ≡ 0 → xs ≡ []
no_items [] none = refl
no_items (x ∷ xs) none = absurd (omega arith)

-- no list remains
pub all_done_at_end : {X : Type 0} (done left all : List X) → left ≡ [] → done ++ left ≡ all → done ≡ all
all_done_at_end [] left all none whole = sym none ∙ whole
all_done_at_end (x ∷ done) left all none whole = ap (λ xs. x ∷ xs) (all_done_at_end done left (done ++ left) none refl) ∙ whole

abbrev pub no_holders : List (Option ℕ)
no_holders = None ∷ None ∷ None ∷ None ∷ None ∷ None ∷ None ∷ None ∷ None ∷ None ∷ None ∷ None ∷ []

module _ (m : Table) (ps : List NumberSet) (es : List Entry) (start : NumberSet) (idle : m ≡ map.empty) (parts : ps ≡ parts_below start 12) (none : es ≡ []) where
  pub starts : world_of 0 m ps es ≡ start_world batches start
  starts = λ i. record {
    locks = record { begun = 0; clients = (ap clients_of idle ∙ values-empty (λ (s : ClientState). s.running)) i };
    parts = parts i;
    taken_content = (ap (λ (t : Table). (world_of 0 t ps es).taken_content) idle ∙ values-empty (λ (s : ClientState). s.taken_content)) i;
    order = entries_of (none i);
  }

  not_there : {A : Type 0} (c : ℕ) (s : ClientState) → map.get m c ≡ Some s → A
  not_there c s h = let gone : map.get m c ≡ None = ap (λ (t : Table). map.get t c) idle ∙ map.get-empty nat_cmp c in absurd (cc (gone, h))

  pub start_kept : IsWithin start pixels → IsWorld 0 m ps no_holders es
  start_kept within = record {
    reached = subst (λ w. IsReachable batches w) (sym starts) (start_reached batches start within);
    held = λ b l. twelve_nones b ∙ sym (holder_nobody (clients_of m) b (λ c r h. (
        let gone : map.get (clients_of m) c ≡ None = get-values (λ (s : ClientState). s.running) m c ∙ ap (option_map (λ (s : ClientState). s.running)) (ap (λ (t : Table). map.get t c) idle ∙ map.get-empty nat_cmp c) in
        absurd (cc (gone, h)))));
    small = λ c r h. (
        let gone : map.get (clients_of m) c ≡ None = get-values (λ (s : ClientState). s.running) m c ∙ ap (option_map (λ (s : ClientState). s.running)) (ap (λ (t : Table). map.get t c) idle ∙ map.get-empty nat_cmp c) in
        absurd (cc (gone, h)));
    placed = λ c s h. not_there c s h;
  }
