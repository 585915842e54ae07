-- A command on one cell is the command of its verb on the pixels of the cell.
use Rattle.std.proofs.Common.{◌≡◌, ℕ, ◌<◌, ◌≤◌, List, [], ◌∷◌, length, get_or, inl, inr, refl, sym, ap, subst, ◌∙◌, arith}
use Rattle.std.specs.FinSet as set
use Rattle.moc_sphere.specs.CellNumber.{CellNumber}
use Rattle.moc_ranges.specs.Cells.{span}
use Rattle.moc_parts.specs.declared.part_command.CellAction.{CellAction}
use Rattle.moc_parts.specs.declared.part_command.CellAction.TheVariants as action
use Rattle.moc_c.specs.CallResults.{number_result}
use Rattle.moc_c.specs.Commands.{ExecutesCommand}
use Rattle.moc_c.specs.Membership.{Membership}
use Rattle.moc_c.specs.Private.CellCommands.{ActsOnCells, ExecutesOnCell}
use Rattle.moc_c.specs.Sharing.{FailsTrying, MemberEnds}
use Rattle.moc_c.specs.declared.commands.Verb.{Verb}
use Rattle.moc_c.specs.declared.commands.Verb.TheVariants as verb
use Rattle.moc_c.specs.declared.call_result.CallResult.{CallResult}

pub only_item : (xs : List ℕ) → 1 ≤ length xs → length xs < 2 → xs ≡ get_or xs 0 0 ∷ []
only_item [] some short = absurd (omega arith)
only_item (x ∷ []) some short = refl
only_item (x ∷ (y ∷ ys)) some short = absurd (omega arith)

pub add_acts : ActsOnCells verb.Add action.Add
add_acts = record { command = λ c. refl; value = λ pixels r. refl }

pub remove_acts : ActsOnCells verb.Remove action.Remove
remove_acts = record { command = λ c. refl; value = λ pixels r. refl }

pub claim_acts : ActsOnCells verb.Claim action.Claim
claim_acts = record { command = λ c. refl; value = λ pixels r. refl }

pub count_acts : ActsOnCells verb.Count action.Count
count_acts = record { command = λ c. refl; value = λ pixels r. refl }

pub executes_verb : (m n : Membership) (v : Verb) (a : CellAction) (c : CellNumber) (o : CallResult) → ActsOnCells v a
    → ExecutesOnCell m n (record { action = a; cell = c }) o → ExecutesCommand m n v (span c.order c.index) o
executes_verb m n v a c o acts (inl (r, ends, is)) = inl (
  r,
  subst (λ k. MemberEnds m n (k ∷ []) (r ∷ [])) (acts.command c) ends,
  is ∙ ap number_result (sym (acts.value (set.len (span c.order c.index)) r)),
)
executes_verb m n v a c o acts (inr fails) = inr (subst (λ k. FailsTrying m n (k ∷ []) o) (acts.command c) fails)
