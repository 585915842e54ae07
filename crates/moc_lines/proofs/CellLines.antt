-- A command on one cell.
use Rattle.std.proofs.Common.{◌≡◌, ℕ, Bool, true, false, cond, List, codes, Option, Some, None, Result, Ok, Err, refl, sym, subst, ap, ◌∙◌}
use Rattle.std.specs.Str.{bytes_eq}
use Rattle.std.proofs.lemmas.Slice.Eq.{bytes_eq-Decides}
use Rattle.moc_sphere.specs.CellNumber.{CellNumber}
use Rattle.moc_ranges.specs.Cells.{span}
use Rattle.moc_text.specs.Reading.{reading_of}
use Rattle.moc_parts.specs.CellCommands.{cell_operand, command_of_action}
use Rattle.moc_parts.specs.declared.command.Command.{Command}
use Rattle.moc_parts.specs.declared.part_command.CellAction.{CellAction}
use Rattle.moc_parts.specs.declared.part_command.CellAction.TheVariants.{Add, Remove, Claim, Count}
use Rattle.moc_lines.specs.Language.{word_of, after_word, plain_operand_of, operand_of, invert_of, degrade_of, near_of, command_with, command_of}
use Rattle.moc_lines.specs.Private.CellLines.{action_of_word}
use Rattle.moc_lines.specs.declared.error.LineError.{LineError}

-- the command with a word and a text
abbrev command_by_word : List ℕ → List ℕ → Result Command LineError
command_by_word word text =
    cond (bytes_eq word (codes "invert")) (invert_of text)
    (cond (bytes_eq word (codes "degrade")) (degrade_of text)
    (cond (bytes_eq word (codes "near")) (near_of text)
    (command_with operand_of word text)))

-- the command with one of the words
with_word : (this word text : List ℕ) (a b : CellAction) (c : CellNumber)
    → bytes_eq word this ≡ true → Some b ≡ Some a
    → command_by_word this text ≡ Ok (command_of_action b c) → command_by_word word text ≡ Ok (command_of_action a c)
with_word this word text a b c same is command =
    let e : word ≡ this = (bytes_eq-Decides word this).0 same in
    let k : b ≡ a = cc in
    subst (λ w. command_by_word w text ≡ Ok (command_of_action a c)) (sym e) (subst (λ d. command_by_word this text ≡ Ok (command_of_action d c)) k command)

command_of_word : (word text : List ℕ) (a : CellAction) (c : CellNumber)
    → action_of_word word ≡ Some a → operand_of text ≡ Ok (cell_operand c) → command_by_word word text ≡ Ok (command_of_action a c)
command_of_word word text a c is operand =
    (elim (bytes_eq word (codes "add")) as (λ v. bytes_eq word (codes "add") ≡ v → cond v (Some Add) (cond (bytes_eq word (codes "remove")) (Some Remove) (cond (bytes_eq word (codes "claim")) (Some Claim) (cond (bytes_eq word (codes "count")) (Some Count) None))) ≡ Some a → command_by_word word text ≡ Ok (command_of_action a c)) [
      | true ↦ λ same action. with_word (codes "add") word text a Add c same action (rw operand refl)
      | false ↦ λ no. elim (bytes_eq word (codes "remove")) as (λ v. bytes_eq word (codes "remove") ≡ v → cond v (Some Remove) (cond (bytes_eq word (codes "claim")) (Some Claim) (cond (bytes_eq word (codes "count")) (Some Count) None)) ≡ Some a → command_by_word word text ≡ Ok (command_of_action a c)) [
        | true ↦ λ same action. with_word (codes "remove") word text a Remove c same action (rw operand refl)
        | false ↦ λ no. elim (bytes_eq word (codes "claim")) as (λ v. bytes_eq word (codes "claim") ≡ v → cond v (Some Claim) (cond (bytes_eq word (codes "count")) (Some Count) None) ≡ Some a → command_by_word word text ≡ Ok (command_of_action a c)) [
          | true ↦ λ same action. with_word (codes "claim") word text a Claim c same action (rw operand refl)
          | false ↦ λ no. elim (bytes_eq word (codes "count")) as (λ v. bytes_eq word (codes "count") ≡ v → cond v (Some Count) None ≡ Some a → command_by_word word text ≡ Ok (command_of_action a c)) [
            | true ↦ λ same action. with_word (codes "count") word text a Count c same action (rw operand refl)
            | false ↦ λ no action. absurd cc
          ] refl
        ] refl
      ] refl
    ]) refl is

-- a text that the ASCII format reads as one cell is its operand
operand_of_cell : (text : List ℕ) (c : CellNumber)
    → operand_of text ≡ plain_operand_of text → reading_of text ≡ Ok (span c.order c.index, Some c.order) → operand_of text ≡ Ok (cell_operand c)
operand_of_cell text c plain read = plain ∙ rw read refl

-- a piece with one of the words and one cell
pub command_on_cell_of : (piece : List ℕ) (a : CellAction) (c : CellNumber)
    → action_of_word (word_of piece) ≡ Some a → operand_of (after_word piece) ≡ plain_operand_of (after_word piece)
    → reading_of (after_word piece) ≡ Ok (span c.order c.index, Some c.order) → command_of piece ≡ Ok (command_of_action a c)
command_on_cell_of piece a c is plain read = command_of_word (word_of piece) (after_word piece) a c is (operand_of_cell (after_word piece) c plain read)
