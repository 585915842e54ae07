-- A line without `@` has no order in it.
use Rattle.std.proofs.Common.{◌≡◌, ℕ, ◌||◌, Bool, true, false, cond, List, [], ◌∷◌, take, drop, length, Err, refl, sym}
use Rattle.std.proofs.Common.{ap, ◌∙◌, ltb}
use Rattle.std.specs.List.{list_any, onto_first, prefix_len, position_or_len, AllByRecursion}
use Rattle.std.proofs.lemmas.List.{take-append-drop}
use Rattle.std.proofs.lemmas.List.Folds.{list_any-append}
use Rattle.std.proofs.lemmas.List.Splits.{slice_split-cons_no, slice_split-cons_yes}
use Rattle.moc_lines.specs.Language.{is_blank_text, is_line_blank, without_blanks, word_of, after_word}
use Rattle.moc_lines.specs.Language.{plain_operand_of, operand_by, ordered_operand_of, command_by, command_of}
use Rattle.moc_lines.specs.Language.{piece_command, commands_of, batch_of, answer_to, after_batch}
use Rattle.moc_text.specs.Lines.{is_semicolon, pieces_of}
use Rattle.moc_script.proofs.Single.{first_then}
use Rattle.moc_script.specs.Theorems.{is_at_sign, LinesWithoutOrder}
use Rattle.moc_lines.specs.declared.error.LineError.TheVariants.{EmptyCommand, TooManyCommands}

pub both_false : (a b : Bool) → a || b ≡ false → (a ≡ false) × (b ≡ false)
both_false true b e = cc
both_false false b e = (refl, e)

module _ (p : ℕ → Bool) where
  none_in_parts : (n : ℕ) (xs : List ℕ) → list_any p xs ≡ false → (list_any p (take n xs) ≡ false) × (list_any p (drop n xs) ≡ false)
  none_in_parts n xs none = both_false _ _ (sym (list_any-append p (take n xs) (drop n xs)) ∙ ap (list_any p) (take-append-drop n xs) ∙ none)

  pub onto : (x : ℕ) (parts : List (List ℕ)) → p x ≡ false → AllByRecursion (λ l. list_any p l ≡ false) parts → AllByRecursion (λ l. list_any p l ≡ false) (onto_first x parts)
  onto x [] other each = (ap (λ b. b || false) other, tt)
  onto x (part ∷ parts) other each = (ap (λ b. b || list_any p part) other ∙ each.0, each.1)

  none_in_pieces : (line : List ℕ) → list_any p line ≡ false → AllByRecursion (λ l. list_any p l ≡ false) (pieces_of line)
  none_in_pieces [] none = (refl, tt)
  none_in_pieces (x ∷ line) none =
      let split = both_false (p x) (list_any p line) none in
      let later = none_in_pieces line split.1 in
      let P : List (List ℕ) → Type 0 = AllByRecursion (λ l. list_any p l ≡ false) in
      let step : (b : Bool) → is_semicolon x ≡ b → P (pieces_of (x ∷ line)) =
      λ b. elim b as (λ v. is_semicolon x ≡ v → P (pieces_of (x ∷ line))) [
        | true ↦ λ is. rw (slice_split-cons_yes is_semicolon x line is) (refl, later)
        | false ↦ λ is. rw (slice_split-cons_no is_semicolon x line is) (onto x (pieces_of line) split.0 later)
      ] in
      step (is_semicolon x) refl

pub none_after : (p : ℕ → Bool) (text : List ℕ) → list_any p text ≡ false → (list_any p (word_of text) ≡ false) × (list_any p (after_word text) ≡ false)
none_after p text none =
    let front = (none_in_parts p (prefix_len is_line_blank text) text none).1 in (
      (none_in_parts p (position_or_len is_line_blank (without_blanks text)) (without_blanks text) front).0,
      (none_in_parts p (length (word_of text)) (without_blanks text) front).1,
    )

operand_by-plain : (word text : List ℕ) → list_any is_at_sign word ≡ false → operand_by word text ≡ plain_operand_of text
operand_by-plain [] text none = refl
operand_by-plain (b ∷ field) text none =
    ap (λ c. cond c (ordered_operand_of field (after_word text)) (plain_operand_of text)) (both_false (is_at_sign b) (list_any is_at_sign field) none).0

denotes_plain : (piece : List ℕ) → list_any is_at_sign piece ≡ false → command_of piece ≡ command_by plain_operand_of piece
denotes_plain piece none =
    let text = after_word piece in
    let following = (none_after is_at_sign piece none).1 in
    let same = operand_by-plain (word_of text) text (none_after is_at_sign text following).0 in
    ap (λ r. command_by (λ _. r) piece) same

commands_plain : (pieces : List (List ℕ)) → AllByRecursion (λ l. list_any is_at_sign l ≡ false) pieces → commands_of command_of pieces ≡ commands_of (command_by plain_operand_of) pieces
commands_plain [] each = refl
commands_plain (piece ∷ pieces) each =
    ap (λ r. first_then (cond (is_blank_text piece) (Err EmptyCommand) r) (commands_of command_of pieces)) (denotes_plain piece each.0)
    ∙ ap (first_then (piece_command (command_by plain_operand_of) piece)) (commands_plain pieces each.1)

pub batch_plain : (line : List ℕ) → list_any is_at_sign line ≡ false → batch_of command_of line ≡ batch_of (command_by plain_operand_of) line
batch_plain line none = ap (λ r. cond (ltb 16 (length (pieces_of line))) (Err TooManyCommands) r) (commands_plain (pieces_of line) (none_in_pieces is_at_sign line none))

pub lines_without_order : LinesWithoutOrder
lines_without_order a line none = (
  ap (λ r. cond (is_blank_text line) [] (answer_to a r)) (batch_plain line none),
  ap (λ r. cond (is_blank_text line) a (after_batch a r)) (batch_plain line none),
)
