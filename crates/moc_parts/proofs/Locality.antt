-- Each command is local: it reads and changes only the parts in its footprint.
use Rattle.std.proofs.Common.{◌≡◌, ℕ, ◌/◌, ◌<◌, ◌≤◌, Bool, true, false, cond, not, ◌&&◌, ◌||◌, inl, inr, Option, None, Some, IfSome, nat_lt, refl, sym, ap, subst, ◌∙◌, arith, lt-ltb}
use Rattle.std.specs.FinSet as set
use Rattle.std.proofs.lemmas.Bool.{cases_Bool}
use Rattle.std.specs.Option.{option_map_or}
use Rattle.moc_sphere.specs.CellNumber.{CellNumber, IsCell}
use Rattle.moc_lists.specs.RangeList.{NumberSet, pixel_count}
use Rattle.moc_lists.specs.Lemmas.Members.{same_members}
use Rattle.moc_ranges.specs.Lemmas.Members.{contains-pixels, contains-complement}
use Rattle.moc_ranges.specs.Operations.{pixels, base_pixel_size, IsWithin, part_of, meets}
use Rattle.moc_ranges.specs.Cells.{degrade}
use Rattle.moc_parts.specs.Objects.{Object, IsLocal, AgreeOn, base_pixel}
use Rattle.moc_parts.specs.declared.command.Operand.{Operand}
use Rattle.moc_parts.specs.declared.command.Command.{Command}
use Rattle.moc_parts.specs.declared.command.Command.TheVariants.{Add, Remove, Keep, Claim, Invert, Degrade, Count, Read, Near}
use Rattle.moc_parts.specs.declared.reply.Reply.TheVariants as reply
use Rattle.moc_parts.specs.Commands.{commands, operand_set, parts_met, surroundings, parts_around, IsCommand, IsOperand}
use Rattle.moc_parts.proofs.Members.{has-union, has-empty, has-intersection, has-difference, absurd_bool, and_true, or_true, not_true_false, same_test, some_member, is_some, in_part, of_part}
use Rattle.moc_parts.proofs.CellSurroundings.{around_surroundings, some_around}
use Rattle.moc_parts.proofs.DegradingParts.{of_degrade, one_part, part-degrade}
use Rattle.moc_parts.proofs.Counts.{in_degrade, parts_met_empty, parts_met_some}
use Rattle.moc_parts.proofs.Twelve.{within_base}

base_within : (a : NumberSet) → IsWithin a pixels → (p : ℕ) → set.contains a p ≡ true → base_pixel p < 12
unfolding base_pixel
base_within a w p h = within_base a w p h

or_false_right : (x y : Bool) → y ≡ false → (x || y) ≡ x
or_false_right true y e = refl
or_false_right false y e = e

and_not_false : (x y : Bool) → y ≡ false → (x && not y) ≡ x
and_not_false true y e = ap not e
and_not_false false y e = refl

and_congruence : (x a b : Bool) → (x ≡ true → a ≡ b) → (x && a) ≡ (x && b)
and_congruence true a b h = h refl
and_congruence false a b h = refl

and_congruence_left : (x a b : Bool) → (x ≡ true → a ≡ b) → (a && x) ≡ (b && x)
and_congruence_left true a b h = ap (λ t. t && true) (h refl)
and_congruence_left false true true h = refl
and_congruence_left false true false h = refl
and_congruence_left false false true h = refl
and_congruence_left false false false h = refl

both_false : (x y : Bool) → x ≡ false → y ≡ false → x ≡ y
both_false x y e f = e ∙ sym f

-- two sets that agree in all twelve parts are equal
set_determined_by_parts : (a b : NumberSet) → IsWithin a pixels → IsWithin b pixels → AgreeOn (λ b. nat_lt b 12) a b → a ≡ b
set_determined_by_parts a b v w same = same_members a b (λ p. elim (cases_Bool (nat_lt (base_pixel p) 12)) [
  | inl t ↦ same p t
  | inr f ↦ both_false _ _ (not_true_false _ (λ h. absurd_bool _ (lt-ltb (base_pixel p) 12 (base_within a v p h)) f)) (not_true_false _ (λ h. absurd_bool _ (lt-ltb (base_pixel p) 12 (base_within b w p h)) f))
])

-- an operation whose footprint is all twelve parts is local if it keeps sets within the sky
all_local : {Op Reply : Type 0} (o : Object Op Reply) (op : Op) → ((b : ℕ) → o.footprint op b ≡ nat_lt b 12) → ((a : NumberSet) → IsWithin a pixels → IsWithin (o.answer a op).0 pixels) → IsLocal o op
all_local o op all stays =
    let one : (a b : NumberSet) → IsWithin a pixels → IsWithin b pixels → AgreeOn (o.footprint op) a b → a ≡ b = λ a b v w same. set_determined_by_parts a b v w (λ p f. same p (all (base_pixel p) ∙ f)) in
    record {
      some = (0, omega arith, all 0);
      reply = λ a b v w same. ap (λ C. (o.answer C op).1) (one a b v w same);
      inside = λ a b v w same p f. ap (λ C. set.contains (o.answer C op).0 p) (one a b v w same);
      outside = λ a v p f.
          let past : nat_lt (base_pixel p) 12 ≡ false = sym (all (base_pixel p)) ∙ f in
          both_false _ _ (not_true_false _ (λ h. absurd_bool _ (lt-ltb (base_pixel p) 12 (base_within (o.answer a op).0 (stays a v) p h)) past)) (not_true_false _ (λ h. absurd_bool _ (lt-ltb (base_pixel p) 12 (base_within a v p h)) past));
      stays = stays;
    }

-- the intersection of S with two sets that agree on the parts of S
module _ (S : NumberSet) (f : ℕ → Bool) (in_f : (p : ℕ) → set.contains S p ≡ true → f (base_pixel p) ≡ true) where
  common : (a b : NumberSet) → AgreeOn f a b → set.intersection a S ≡ set.intersection b S
  common a b same = same_members _ _ (λ p. has-intersection a S p ∙ and_congruence_left (set.contains S p) (set.contains a p) (set.contains b p) (λ t. same p (in_f p t)) ∙ sym (has-intersection b S p))

  missing : (a b : NumberSet) → AgreeOn f a b → set.difference S a ≡ set.difference S b
  missing a b same = same_members _ _ (λ p. has-difference S a p ∙ and_congruence (set.contains S p) (not (set.contains a p)) (not (set.contains b p)) (λ t. ap not (same p (in_f p t))) ∙ sym (has-difference S b p))

  meets_alike : (a b : NumberSet) → AgreeOn f a b → meets a S ≡ meets b S
  unfolding meets
  meets_alike a b same = ap (λ (t : NumberSet). nat_lt 0 (set.len t)) (common a b same)

  not_in : (p : ℕ) → f (base_pixel p) ≡ false → set.contains S p ≡ false
  not_in p e = not_true_false _ (λ t. absurd_bool _ (in_f p t) e)

  union_inside : (a b : NumberSet) (p : ℕ) → set.contains a p ≡ set.contains b p → set.contains (set.union a S) p ≡ set.contains (set.union b S) p
  union_inside a b p e = has-union a S p ∙ ap (λ t. t || set.contains S p) e ∙ sym (has-union b S p)

  union_outside : (a : NumberSet) (p : ℕ) → f (base_pixel p) ≡ false → set.contains (set.union a S) p ≡ set.contains a p
  union_outside a p e = has-union a S p ∙ or_false_right _ _ (not_in p e)

  union_within : (a : NumberSet) → IsWithin S pixels → IsWithin a pixels → IsWithin (set.union a S) pixels
  union_within a s v = record { each = λ p h. elim (or_true (set.contains a p) (set.contains S p) (sym (has-union a S p) ∙ h)) [ inl e ↦ v.each p e | inr e ↦ s.each p e ] }

  -- an operation that leaves the set unchanged, and whose reply depends only on the intersection with S
  query_local : {Op Reply : Type 0} (o : Object Op Reply) (op : Op) (reply : NumberSet → Reply)
      → ((b : ℕ) → o.footprint op b ≡ f b) → ((a : NumberSet) → o.answer a op ≡ (a, reply (set.intersection a S))) → (b : ℕ) × (b < 12) × (f b ≡ true) → IsLocal o op
  query_local o op reply foot is some = record {
    some = (some.0, some.1, foot some.0 ∙ some.2);
    reply = λ a b v w same. ap (λ x. x.1) (is a) ∙ ap reply (common a b (λ p t. same p (foot (base_pixel p) ∙ t))) ∙ sym (ap (λ x. x.1) (is b));
    inside = λ a b v w same p t. ap (λ x. set.contains x.0 p) (is a) ∙ same p t ∙ sym (ap (λ x. set.contains x.0 p) (is b));
    outside = λ a v p t. ap (λ x. set.contains x.0 p) (is a);
    stays = λ a v. subst (λ s. IsWithin s pixels) (sym (ap (λ x. x.0) (is a))) v;
  }

-- The footprint depends only on the operand's original set: degrading keeps each pixel in its base pixel, and the
-- degraded empty set is empty.
pub operand_meets_part : (x : Operand) → IsOperand x → (p : ℕ) → set.contains (operand_set x) p ≡ true → parts_met x.set (base_pixel p) ≡ true
unfolding base_pixel
operand_meets_part x k p h = go x.coarse k.1 h
  where
    met_at : (q : ℕ) → set.contains x.set q ≡ true → (b : ℕ) → q / base_pixel_size ≡ b → parts_met x.set b ≡ true
    met_at q in_q b e = parts_met_some x.set b (λ none. absurd_bool _ (is_some x.set q in_q) (ap (λ (s : NumberSet). nat_lt 0 (set.len s)) none ∙ ap (λ n. nat_lt 0 n) (set.len-empty _)))
        ∙ is_some (part_of x.set b) q (in_part x.set b q in_q e)

    go : (coarse : Option ℕ) → IfSome coarse (λ order. order ≤ 29) → set.contains (option_map_or (degrade x.set) coarse x.set) p ≡ true → parts_met x.set (p / base_pixel_size) ≡ true
    go None l h = met_at p h (p / base_pixel_size) refl
    go (Some order) l h = let m = of_degrade x.set order p h in met_at m.0 m.1 (p / base_pixel_size) (one_part order p m.0 l m.2)

pub coarse_within : (x : Operand) → IsWithin x.set pixels → IsWithin (operand_set x) pixels
coarse_within x w = go x.coarse
  where
    go : (coarse : Option ℕ) → IsWithin (option_map_or (degrade x.set) coarse x.set) pixels
    go None = w
    go (Some order) = record { each = λ q h. contains-pixels q ∙ (of_degrade x.set order q h).3 }

none_len : (n : ℕ) → nat_lt 0 n ≡ false → n ≡ 0
none_len n f = grind arith

pub some_part_met : (s : NumberSet) → IsWithin s pixels → (b : ℕ) × (b < 12) × (parts_met s b ≡ true)
unfolding base_pixel
some_part_met s w = elim (cases_Bool (nat_lt 0 (set.len s))) [
  | inl t ↦
      let m = some_member s t in (
        m.0 / base_pixel_size,
        within_base s w m.0 m.1,
        parts_met_some s (m.0 / base_pixel_size) (λ none. absurd_bool _ t (ap (λ (s : NumberSet). nat_lt 0 (set.len s)) none ∙ ap (λ n. nat_lt 0 n) (set.len-empty _)))
            ∙ is_some (part_of s (m.0 / base_pixel_size)) m.0 (in_part s (m.0 / base_pixel_size) m.0 m.1 refl),
      )
  | inr f ↦ (0, omega arith, parts_met_empty s 0 (set.empty_of_len s (none_len (set.len s) f)))
]

-- the degraded empty set is empty
degrade-empty : (order : ℕ) → degrade set.empty order ≡ set.empty
degrade-empty order = same_members _ _ (λ q. not_true_false _ (λ h. let m = of_degrade set.empty order q h in absurd_bool _ m.1 (has-empty m.0)) ∙ sym (has-empty q))

-- a degraded set is empty if and only if the set is empty
some_degraded : (a : NumberSet) (order : ℕ) → IsWithin a pixels → nat_lt 0 (set.len (degrade a order)) ≡ nat_lt 0 (set.len a)
some_degraded a order w = same_test _ _
    (λ h. let m = some_member (degrade a order) h in let n = of_degrade a order m.0 m.1 in is_some a n.0 n.1)
    (λ h. let m = some_member a h in is_some (degrade a order) m.0 (in_degrade a order w m.0 m.1))

part_within : (a : NumberSet) (b : ℕ) → IsWithin a pixels → IsWithin (part_of a b) pixels
part_within a b w = record { each = λ q h. w.each q (of_part a b q h).0 }

-- an operand's original set and its degraded set have pixels in the same parts
pub degraded_meets_same_parts : (x : Operand) → IsOperand x → (b : ℕ) → parts_met (operand_set x) b ≡ parts_met x.set b
degraded_meets_same_parts x k b = go x.coarse k.1
  where
    filled : (a : NumberSet) → nat_lt 0 (set.len a) ≡ true → a ≡ set.empty → ⊥
    filled a t e = absurd_bool _ t (ap (λ (s : NumberSet). nat_lt 0 (set.len s)) e ∙ ap (λ n. nat_lt 0 n) (set.len-empty _))

    go : (coarse : Option ℕ) → IfSome coarse (λ order. order ≤ 29) → parts_met (option_map_or (degrade x.set) coarse x.set) b ≡ parts_met x.set b
    go None l = refl
    go (Some order) l = elim (cases_Bool (nat_lt 0 (set.len x.set))) [
      | inl t ↦
          parts_met_some (degrade x.set order) b (filled (degrade x.set order) (some_degraded x.set order k.0 ∙ t))
          ∙ ap (λ (s : NumberSet). nat_lt 0 (set.len s)) (part-degrade x.set order b l)
          ∙ some_degraded (part_of x.set b) order (part_within x.set b k.0)
          ∙ sym (parts_met_some x.set b (filled x.set t))
      | inr f ↦
          let none : x.set ≡ set.empty = set.empty_of_len x.set (none_len (set.len x.set) f) in
          ap (λ (s : NumberSet). parts_met s b) (ap (λ s. degrade s order) none ∙ degrade-empty order ∙ sym none)
    ]

-- whether the surroundings of a cell have a pixel depends only on the base pixels of the surroundings
near_local : (c : CellNumber) → IsCell c → IsLocal commands (Near c)
unfolding meets
near_local c k = query_local (surroundings c) (parts_around c) (around_surroundings c k) commands (Near c) (λ D. reply.Near (nat_lt 0 (set.len D))) (λ b. refl) (λ a. refl) (some_around c k)

claimed_set : (t : Bool) (a b : NumberSet) (p : ℕ) → cond t (set.contains a p) (set.contains b p) ≡ set.contains (cond {A = NumberSet} t a b) p
claimed_set true a b p = refl
claimed_set false a b p = refl

-- every command is local
pub command_local : (c : Command) → IsCommand c → IsLocal commands c
command_local (Add x) k =
    let S : NumberSet = operand_set x in
    let f : ℕ → Bool = parts_met x.set in
    let in_f = operand_meets_part x k in
    record {
      some = some_part_met x.set k.0;
      reply = λ a b v w same. ap (λ (D : NumberSet). reply.Changed (set.len D)) (missing S f in_f a b same);
      inside = λ a b v w same p t. union_inside S f in_f a b p (same p t);
      outside = λ a v p t. union_outside S f in_f a p t;
      stays = λ a v. union_within S f in_f a (coarse_within x k.0) v;
    }
command_local (Remove x) k =
    let S : NumberSet = operand_set x in
    let f : ℕ → Bool = parts_met x.set in
    let in_f = operand_meets_part x k in
    record {
      some = some_part_met x.set k.0;
      reply = λ a b v w same. ap (λ (D : NumberSet). reply.Changed (set.len D)) (common S f in_f a b same);
      inside = λ a b v w same p t. has-difference a S p ∙ ap (λ y. y && not (set.contains S p)) (same p t) ∙ sym (has-difference b S p);
      outside = λ a v p t. has-difference a S p ∙ and_not_false _ _ (not_in S f in_f p t);
      stays = λ a v. record { each = λ p h. v.each p (and_true (set.contains a p) (not (set.contains S p)) (sym (has-difference a S p) ∙ h)).0 };
    }
command_local (Keep x) k = all_local commands (Keep x) (λ b. refl) (λ a v. record { each = λ p h. v.each p (and_true (set.contains a p) (set.contains (operand_set x) p) (sym (has-intersection a (operand_set x) p) ∙ h)).0 })
command_local (Claim x) k =
    let S : NumberSet = operand_set x in
    let f : ℕ → Bool = parts_met x.set in
    let in_f = operand_meets_part x k in
    record {
      some = some_part_met x.set k.0;
      reply = λ a b v w same. ap (λ (t : Bool). cond t (reply.Taken (set.len (set.intersection a S))) reply.Claimed) (meets_alike S f in_f a b same)
          ∙ ap (λ (D : NumberSet). cond (meets b S) (reply.Taken (set.len D)) reply.Claimed) (common S f in_f a b same);
      inside = λ a b v w same p t. sym (claimed_set (meets a S) a (set.union a S) p)
          ∙ ap (λ (m : Bool). cond m (set.contains a p) (set.contains (set.union a S) p)) (meets_alike S f in_f a b same)
          ∙ ap (λ (y : Bool). cond (meets b S) y (set.contains (set.union a S) p)) (same p t)
          ∙ ap (λ (y : Bool). cond (meets b S) (set.contains b p) y) (union_inside S f in_f a b p (same p t))
          ∙ claimed_set (meets b S) b (set.union b S) p;
      outside = λ a v p t. sym (claimed_set (meets a S) a (set.union a S) p)
          ∙ ap (λ (y : Bool). cond (meets a S) (set.contains a p) y) (union_outside S f in_f a p t)
          ∙ elim (meets a S) as (λ y. cond y (set.contains a p) (set.contains a p) ≡ set.contains a p) [ true ↦ refl | false ↦ refl ];
      stays = λ a v. elim (meets a S) as (λ t. IsWithin (cond t a (set.union a S)) pixels) [ true ↦ v | false ↦ union_within S f in_f a (coarse_within x k.0) v ];
    }
command_local (Count x) k = query_local (operand_set x) (parts_met x.set) (operand_meets_part x k) commands (Count x) (λ D. reply.Total (set.len D)) (λ b. refl) (λ a. refl) (some_part_met x.set k.0)
command_local (Read x) k = query_local (operand_set x) (parts_met x.set) (operand_meets_part x k) commands (Read x) reply.Cover (λ b. refl) (λ a. refl) (some_part_met x.set k.0)
command_local (Near c) k = near_local c k
command_local Invert k = all_local commands Invert (λ b. refl) (λ a v. record { each = λ q h. contains-pixels q ∙ (and_true (nat_lt q pixel_count) (not (set.contains a q)) (sym (contains-complement a q) ∙ h)).0 })
command_local (Degrade order) k = all_local commands (Degrade order) (λ b. refl) (λ a v. record { each = λ q h. contains-pixels q ∙ (of_degrade a order q h).3 })
