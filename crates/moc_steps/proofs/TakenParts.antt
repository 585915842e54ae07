-- The parts that a client has taken, as a prefix of its list of parts.
use Rattle.std.proofs.Common.{◌≡◌, ℕ, List, take, nat_eq, slice_get, ap}
use Rattle.std.specs.List.{list_any}
use Rattle.moc_parts.specs.Batches.{batches}
use Rattle.moc_parts.specs.declared.command.Command.{Command}
use Rattle.moc_steps.specs.Machine.{Running, next_part, has_taken, footprint_parts}
use Rattle.moc_steps.proofs.Cases.{is_in}

pub next_is : (r : Running (List Command)) (parts : List ℕ) → parts ≡ footprint_parts batches r.operation → slice_get parts r.taken ≡ next_part batches r
unfolding next_part
next_is r parts e = ap (λ xs. slice_get xs r.taken) e

pub is_taken_iff : (r : Running (List Command)) (parts : List ℕ) (b : ℕ) → parts ≡ footprint_parts batches r.operation → list_any (λ x. nat_eq x b) (take r.taken parts) ≡ has_taken batches r b
unfolding has_taken
is_taken_iff r parts b e = ap (λ xs. is_in b (take r.taken xs)) e
