use Rattle.std.proofs.Common.{◌≡◌, ◌+◌, ◌≤◌, ◌&&◌, ◌||◌, ℕ, Bool, true, false, nat_eq, nat_lt, inl, inr, refl, sym, ap, ◌∙◌, arith}
use Rattle.std.proofs.lemmas.Bool.{cases_lt, cases_eq}
use Rattle.std.proofs.lemmas.Bool.Decides.{nat_tests}
use Rattle.std.specs.FinSet as set
use Rattle.moc_ranges.specs.Operations.{part_of}
use Rattle.moc_parts.proofs.Members.{absurd_bool}
use Rattle.moc_parts.proofs.Counts.{parts_met_empty, parts_met_some}
use Rattle.moc_parts.proofs.Flags.{inserted, no_pixel_in_empty}
use Rattle.moc_parts.proofs.footprint.parts_met.Goals as goal

only_zero : (b : ℕ) (t : Bool) → t ≡ false → (nat_eq 0 b || t) ≡ nat_eq b 0
only_zero b t e = grind (arith, nat_tests)

pub returns-then-is_empty-clause-parts : goal.returns-then-is_empty-clause-parts
returns-then-is_empty-clause-parts c b l =
    inserted c.none-parts.result c.insert.new.self c.of.result b c.insert.ensures
    ∙ ap (λ n. nat_eq n b || set.contains c.none-parts.result b) c.of.ensures
    ∙ only_zero b _ (no_pixel_in_empty c.none-parts.result b c.none-parts.ensures)
    ∙ sym (parts_met_empty c.args.operand.now b (c.if-is_empty.ensures.empty.0 refl))

pub loop-b-init : goal.loop-b-init
loop-b-init c = (omega arith, λ k l. no_pixel_in_empty c.none-parts.result k c.none-parts.ensures ∙ none k _)
  where
    none : (k : ℕ) (t : Bool) → false ≡ (nat_lt k 0 && t)
    none k t = grind (arith, nat_tests)

-- the parts up to and including the next one with a pixel
hop : (from b k : ℕ) (x : Bool) → from ≤ b → (b ≡ k → x ≡ true) → (from ≤ k → x ≡ true → b ≤ k) → (nat_eq b k || (nat_lt k from && x)) ≡ (nat_lt k (b + 1) && x)
hop from b k true le here first = elim (cases_lt k from) [
  | inl lt ↦ grind (arith, nat_tests)
  | inr ge ↦ let least : b ≤ k = first ge refl in grind (arith, nat_tests)
]
hop from b k false le here first = elim (cases_eq b k) [
  | inl same ↦ absurd_bool false (here same) refl
  | inr apart ↦ grind (arith, nat_tests)
]

-- no further part if no part with a pixel remains
last_skip : (from k : ℕ) (x : Bool) → (from ≤ k → x ≡ true → ⊥) → (nat_lt k from && x) ≡ x
last_skip from k true none = elim (cases_lt k from) [
  | inl lt ↦ grind (arith, nat_tests)
  | inr ge ↦ absurd (none ge refl)
]
last_skip from k false none = grind (arith, nat_tests)

pub loop-b-preserved : goal.loop-b-preserved
loop-b-preserved c =
    let b : ℕ = c.in-Some.b in
    let has : ℕ → Bool = λ n. nat_lt 0 (set.len (part_of c.args.operand.now n)) in
    let before = c.in-Some.ensures.found in
    let low = before.1 in (
      omega arith,
      λ k l.
          inserted c.loop-b.parts c.insert-in-Some.new.self c.of-in-Some.result k c.insert-in-Some.ensures
          ∙ (λ i. nat_eq (c.of-in-Some.ensures i) k || c.loop-b.invariant.1 k l i)
          ∙ hop c.loop-b.from b k (has k) before.0 (λ e. ap has (sym e) ∙ before.2) (c.in-Some.ensures.first k),
    )

pub returns-clause-parts : goal.returns-clause-parts
returns-clause-parts c b l =
    c.loop-b.invariant.1 b l
    ∙ last_skip c.loop-b.from b _ (c.in_default.ensures.first b)
    ∙ sym (parts_met_some c.args.operand.now b (λ e. absurd_bool false (c.if-is_empty.ensures.empty.1 e) refl))
