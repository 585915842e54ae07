-- Executing commands in order, with one more command at the end.
use Rattle.std.proofs.Common.{◌≡◌, ◌<◌, ℕ, zero, suc, List, [], ◌∷◌, ◌++◌, length, get_or, refl, sym, ap, subst, arith}
use Rattle.moc_lists.specs.RangeList.{NumberSet}
use Rattle.moc_ranges.specs.Operations.{pixels, IsWithin}
use Rattle.moc_parts.specs.Commands.{set_after, reply_on, operand_set, IsCommand, IsOperand}
use Rattle.moc_parts.specs.Batches.{set_after_all, replies_on, AreCommands}
use Rattle.moc_parts.specs.declared.command.Operand.{Operand}
use Rattle.moc_parts.specs.declared.command.Command.{Command}
use Rattle.moc_parts.proofs.Locality.{coarse_within}

pub set_after-last : (a : NumberSet) (cs : List Command) (c : Command) → set_after_all a (cs ++ (c ∷ [])) ≡ set_after (set_after_all a cs) c
set_after-last a [] c = refl
set_after-last a (d ∷ cs) c = set_after-last (set_after a d) cs c

pub replies-last : (a : NumberSet) (cs : List Command) (c : Command) → replies_on a (cs ++ (c ∷ [])) ≡ replies_on a cs ++ (reply_on (set_after_all a cs) c ∷ [])
replies-last a [] c = refl
replies-last a (d ∷ cs) c = ap (λ rs. reply_on a d ∷ rs) (replies-last (set_after a d) cs c)

pub command-at : (cs : List Command) (i : ℕ) (d : Command) → i < length cs → AreCommands cs → IsCommand (get_or cs i d)
command-at [] i d l are = absurd (omega arith)
command-at (c ∷ cs) zero d l are = are.0
command-at (c ∷ cs) (suc i) d l are = command-at cs i d (omega arith) are.1

-- the effective set of an operand is a set of pixels within the sky
pub operand_within : (x : Operand) (worked : NumberSet) → IsOperand x → worked ≡ operand_set x → IsWithin worked pixels
operand_within x worked is e = subst (λ s. IsWithin s pixels) (sym e) (coarse_within x is.0)
