-- The place of an error among the pieces of the rest of a line.
use Rattle.std.proofs.Common.{◌≡◌, ◌∙◌, ℕ, zero, suc, ◌+◌, ◌-◌, ◌<◌, ◌≤◌, min, Bool, true, false, cond, not, is_err, List, [], ◌∷◌, length, get_or, take, drop, sum_by, length-drop, refl, sym, ap, arith, eq-eqb, ne_eqb}
use Rattle.std.specs.List.{position_or_len}
use Rattle.std.proofs.lemmas.List.{take_all}
use Rattle.std.proofs.lemmas.List.Sums.{sum_by-cons}
use Rattle.moc_text.specs.Lines.{is_semicolon, pieces_of}
use Rattle.moc_parts.specs.Batches.{max_commands}
use Rattle.moc_lines.specs.Language.{command_of, piece_command}
use Rattle.moc_lines.specs.Places.{error_place, offset_in_piece}
use Rattle.moc_lines.specs.Private.Placing.{is_error_of_piece, place_among}
use Rattle.moc_lines.specs.declared.error.LineError.{LineError}
use Rattle.moc_lines.specs.declared.error.LineError.TheVariants.{UnknownWord, EmptyCommand, TooManyCommands, WrongCount, BadNumber, OrderTooLarge, CellTooLarge, Coverage, ClientTooLarge, PartTooLarge, Memory}
use Rattle.moc_lines.specs.declared.places.LinePlace.{LinePlace}
use Rattle.moc_lines.proofs.Batching.{piece-first, pieces-found, pieces-none}

-- the place is in the first piece
abbrev pub here : LineError → ℕ → ℕ → List ℕ → LinePlace
here error number offset piece = record { command = number; byte = offset + offset_in_piece error piece }

-- the place after a piece that the error is not about
abbrev pub later : LineError → ℕ → ℕ → List ℕ → List (List ℕ) → LinePlace
later error number offset piece pieces = place_among error (suc number) (offset + length piece + 1) pieces

pub at_first_piece : (error : LineError) (number offset : ℕ) (rest piece : List ℕ) (at : ℕ) → at ≡ position_or_len is_semicolon rest → piece ≡ take at rest
    → is_error_of_piece error number piece ≡ true → here error number offset piece ≡ place_among error number offset (pieces_of rest)
at_first_piece error number offset rest piece at first same about =
    let found = piece-first rest in
    sym (ap (λ ps. place_among error number offset ps) found.1
    ∙ ap (λ l. place_among error number offset (l ∷ found.0)) (sym (same ∙ ap (λ n. take n rest) first))
    ∙ ap (λ b. cond b (here error number offset piece) (later error number offset piece found.0)) about)

skipped : (error : LineError) (number offset : ℕ) (piece : List ℕ) (pieces : List (List ℕ)) → is_error_of_piece error number piece ≡ false
    → place_among error number offset (piece ∷ pieces) ≡ place_among error (number + 1) (offset + (length piece + 1)) pieces
skipped error number offset piece pieces about =
    ap (λ b. cond b (here error number offset piece) (later error number offset piece pieces)) about
    ∙ ap (λ n. place_among error n (offset + length piece + 1) pieces) (omega arith)
    ∙ ap (λ n. place_among error (number + 1) n pieces) (omega arith)

pub after_last_piece : (error : LineError) (number offset : ℕ) (rest piece : List ℕ) (at : ℕ) → at ≡ position_or_len is_semicolon rest → length rest ≤ at
    → piece ≡ take at rest → is_error_of_piece error number piece ≡ false
    → record { command = number + 1; byte = offset + (length piece + 1) } ≡ place_among error number offset (pieces_of rest)
after_last_piece error number offset rest piece at first none same about =
    let whole : rest ≡ piece = sym (same ∙ take_all at rest none) in
    sym (ap (λ ps. place_among error number offset ps) (pieces-none rest (omega arith))
    ∙ ap (λ l. place_among error number offset (l ∷ [])) whole
    ∙ skipped error number offset piece [] about)

pub after_piece : (error : LineError) (number offset : ℕ) (rest piece back next : List ℕ) (at : ℕ) → at ≡ position_or_len is_semicolon rest → at < length rest
    → piece ≡ take at rest → back ≡ drop at rest → next ≡ take (length back - 1) (drop 1 back) → is_error_of_piece error number piece ≡ false
    → place_among error number offset (pieces_of rest) ≡ place_among error (number + 1) (offset + (length piece + 1)) (pieces_of next)
after_piece error number offset rest piece back next at first found same following_is next_is about =
    let following : next ≡ drop 1 (drop at rest) = next_is ∙ take_all _ (drop 1 back) (omega (arith, length-drop 1 back)) ∙ ap (drop 1) following_is in
    ap (λ ps. place_among error number offset ps) (pieces-found rest (omega arith))
    ∙ ap (λ l. place_among error number offset (l ∷ pieces_of (drop 1 (drop (position_or_len is_semicolon rest) rest)))) (sym (same ∙ ap (λ n. take n rest) first))
    ∙ skipped error number offset piece _ about
    ∙ ap (λ n. place_among error (number + 1) (offset + (length piece + 1)) (pieces_of (drop 1 (drop n rest)))) (sym first)
    ∙ ap (λ l. place_among error (number + 1) (offset + (length piece + 1)) (pieces_of l)) (sym following)

-- whether a piece is an invalid command
abbrev invalid : List ℕ → Bool
invalid piece = is_err (piece_command command_of piece)

-- the offset in a piece that does not exist
in_nothing : (error : LineError) → offset_in_piece error [] ≡ 0
in_nothing UnknownWord = refl
in_nothing EmptyCommand = refl
in_nothing TooManyCommands = refl
in_nothing WrongCount = refl
in_nothing BadNumber = refl
in_nothing OrderTooLarge = refl
in_nothing CellTooLarge = refl
in_nothing (Coverage error) = omega arith
in_nothing ClientTooLarge = refl
in_nothing PartTooLarge = refl
in_nothing Memory = refl

-- a place with these numbers
abbrev at : ℕ → ℕ → LinePlace
at command byte = record { command = command; byte = byte }

-- places with equal numbers
same_place : (command byte other_command other_byte : ℕ) → command ≡ other_command → byte ≡ other_byte → at command byte ≡ at other_command other_byte
same_place command byte other_command other_byte commands bytes = ap (λ n. at n byte) commands ∙ ap (λ n. at other_command n) bytes

-- the offset of the error of the piece with the number `skip` among the last pieces of a line
abbrev byte_among : LineError → ℕ → ℕ → List (List ℕ) → ℕ
byte_among error offset skip pieces = offset + (sum_by (λ piece. length piece + 1) (take skip pieces) + offset_in_piece error (get_or pieces skip []))

-- its place
abbrev placed : LineError → ℕ → ℕ → ℕ → List (List ℕ) → LinePlace
placed error number offset skip pieces = at (number + skip) (byte_among error offset skip pieces)

none_placed : (error : LineError) (number offset : ℕ) → at number offset ≡ placed error number offset 0 []
none_placed error number offset =
    same_place number offset (number + 0) (byte_among error offset 0 []) (omega arith) (omega (arith, in_nothing error))

first_placed : (error : LineError) (number offset : ℕ) (piece : List ℕ) (pieces : List (List ℕ)) → here error number offset piece ≡ placed error number offset 0 (piece ∷ pieces)
first_placed error number offset piece pieces =
    same_place number (offset + offset_in_piece error piece) (number + 0) (byte_among error offset 0 (piece ∷ pieces)) (omega arith) (omega arith)

next_placed : (error : LineError) (number offset skip : ℕ) (piece : List ℕ) (pieces : List (List ℕ))
    → placed error (suc number) (offset + length piece + 1) skip pieces ≡ placed error number offset (suc skip) (piece ∷ pieces)
next_placed error number offset skip piece pieces =
    let more : sum_by (λ (p : List ℕ). length p + 1) (take (suc skip) (piece ∷ pieces)) ≡ length piece + 1 + sum_by (λ (p : List ℕ). length p + 1) (take skip pieces) =
    sum_by-cons (λ (p : List ℕ). length p + 1) piece (take skip pieces) in
    same_place (suc number + skip) (byte_among error (offset + length piece + 1) skip pieces) (number + suc skip) (byte_among error offset (suc skip) (piece ∷ pieces))
    (omega arith) (omega (arith, more))

by_first : (error : LineError) (wrong : List ℕ → Bool) (number offset : ℕ) (piece : List ℕ) (pieces : List (List ℕ))
    → later error number offset piece pieces ≡ placed error (suc number) (offset + length piece + 1) (position_or_len wrong pieces) pieces
    → (b : Bool) → cond b (here error number offset piece) (later error number offset piece pieces)
    ≡ placed error number offset (cond (not b) (1 + position_or_len wrong pieces) 0) (piece ∷ pieces)
by_first error wrong number offset piece pieces rest true = first_placed error number offset piece pieces
by_first error wrong number offset piece pieces rest false =
    let n = position_or_len wrong pieces in
    let one_more : suc n ≡ 1 + n = omega arith in
    rest ∙ next_placed error number offset n piece pieces ∙ ap (λ k. placed error number offset k (piece ∷ pieces)) one_more

-- for errors other than too many commands, it is the first piece with an error
first_error : (error : LineError) (wrong : List ℕ → Bool) → ((number : ℕ) (piece : List ℕ) → is_error_of_piece error number piece ≡ wrong piece)
    → (number offset : ℕ) (pieces : List (List ℕ)) → place_among error number offset pieces ≡ placed error number offset (position_or_len wrong pieces) pieces
first_error error wrong same number offset [] = none_placed error number offset
first_error error wrong same number offset (piece ∷ pieces) =
    ap (λ b. cond b (here error number offset piece) (later error number offset piece pieces)) (same number piece)
    ∙ by_first error wrong number offset piece pieces (first_error error wrong same (suc number) (offset + length piece + 1) pieces) (wrong piece)

-- too many commands: the place is in the 17th piece, or after the last
too_many : (number offset skip : ℕ) (pieces : List (List ℕ)) → number + skip ≡ max_commands
    → place_among TooManyCommands number offset pieces ≡ placed TooManyCommands number offset (min skip (length pieces)) pieces
too_many number offset skip [] at = none_placed TooManyCommands number offset ∙ ap (λ k. placed TooManyCommands number offset k []) (omega arith)
too_many number offset zero (piece ∷ pieces) at =
    ap (λ b. cond b (here TooManyCommands number offset piece) (later TooManyCommands number offset piece pieces)) (eq-eqb number max_commands (omega (arith, at)))
    ∙ first_placed TooManyCommands number offset piece pieces
    ∙ let none : 0 ≡ min 0 (length (piece ∷ pieces)) = omega arith in ap (λ k. placed TooManyCommands number offset k (piece ∷ pieces)) none
too_many number offset (suc skip) (piece ∷ pieces) at =
    ap (λ b. cond b (here TooManyCommands number offset piece) (later TooManyCommands number offset piece pieces)) (ne_eqb number max_commands (λ e. omega (arith, at, e)))
    ∙ too_many (suc number) (offset + length piece + 1) skip pieces (omega (arith, at))
    ∙ next_placed TooManyCommands number offset (min skip (length pieces)) piece pieces
    ∙ let one_more : suc (min skip (length pieces)) ≡ min (suc skip) (length (piece ∷ pieces)) = omega arith in ap (λ k. placed TooManyCommands number offset k (piece ∷ pieces)) one_more

-- the offset of the error of the piece with a number
abbrev byte_of : LineError → ℕ → List (List ℕ) → ℕ
byte_of error number pieces = sum_by (λ piece. length piece + 1) (take number pieces) + offset_in_piece error (get_or pieces number [])

-- the place in a line, by the number of its command
whole : (error : LineError) (number : ℕ) (pieces : List (List ℕ))
    → at number (byte_of error number pieces) ≡ placed error 0 0 number pieces
whole error number pieces =
    same_place number (byte_of error number pieces) (0 + number) (byte_among error 0 number pieces)
    (omega arith) (omega arith)

first_invalid : (error : LineError) (line : List ℕ) → ((number : ℕ) (piece : List ℕ) → is_error_of_piece error number piece ≡ invalid piece)
    → at (position_or_len invalid (pieces_of line)) (byte_of error (position_or_len invalid (pieces_of line)) (pieces_of line)) ≡ place_among error 0 0 (pieces_of line)
first_invalid error line same =
    whole error (position_or_len invalid (pieces_of line)) (pieces_of line) ∙ sym (first_error error invalid same 0 0 (pieces_of line))

-- the place of the error of a line is that among all its pieces
pub from_first : (error : LineError) (line : List ℕ) → error_place error line ≡ place_among error 0 0 (pieces_of line)
from_first UnknownWord line = first_invalid UnknownWord line (λ n p. refl)
from_first EmptyCommand line = first_invalid EmptyCommand line (λ n p. refl)
from_first TooManyCommands line = whole TooManyCommands (min max_commands (length (pieces_of line))) (pieces_of line) ∙ sym (too_many 0 0 max_commands (pieces_of line) (omega arith))
from_first WrongCount line = first_invalid WrongCount line (λ n p. refl)
from_first BadNumber line = first_invalid BadNumber line (λ n p. refl)
from_first OrderTooLarge line = first_invalid OrderTooLarge line (λ n p. refl)
from_first CellTooLarge line = first_invalid CellTooLarge line (λ n p. refl)
from_first (Coverage error) line = first_invalid (Coverage error) line (λ n p. refl)
from_first ClientTooLarge line = first_invalid ClientTooLarge line (λ n p. refl)
from_first PartTooLarge line = first_invalid PartTooLarge line (λ n p. refl)
from_first Memory line = first_invalid Memory line (λ n p. refl)
