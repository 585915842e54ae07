-- The command language: the commands of a line of a script, and the texts of its answer.
use Rattle.std.specs.Prelude.{ℕ, Bool, ◌&&◌, ◌||◌, ◌==◌, nat_lt, List, length, drop, Option, Some, None, if◌then◌else◌}
use Rattle.std.specs.Prelude.{[], ◌∷◌, ◌++◌, codes, decimal, ◌≡◌, ◌⊎◌, Result, Ok, Err}
use Rattle.std.specs.List.{list_all, prefix_len, before_first, join_by}
use Rattle.std.specs.Char.{is_ascii_digit}
use Rattle.std.specs.Str.Parse.{digits_value}
use Rattle.moc_lines.specs.declared.error.LineError.{LineError}
use Rattle.moc_lines.specs.declared.error.LineError.TheVariants.{UnknownWord, EmptyCommand, TooManyCommands, WrongCount}
use Rattle.moc_lines.specs.declared.error.LineError.TheVariants.{BadNumber, OrderTooLarge, CellTooLarge, Coverage}
use Rattle.moc_lines.specs.declared.error.LineError.TheVariants.{ClientTooLarge, PartTooLarge, Memory}
use Rattle.std.specs.FinSet as set
use Rattle.moc_lists.specs.RangeList.{NumberSet}
use Rattle.moc_parts.specs.declared.reply.Reply.{Reply}
use Rattle.moc_parts.specs.declared.reply.Reply.TheVariants as reply
use Rattle.moc_text.specs.AsciiText.{ascii_text}
use Rattle.std.specs.Option.{ok_or}
use Rattle.std.specs.Result.{result_map_both}
use Rattle.std.specs.Str.{bytes_eq}
use Rattle.moc_sphere.specs.CellNumber.{cell_count, cell_number}
use Rattle.moc_parts.specs.declared.command.Operand.{Operand}
use Rattle.moc_parts.specs.declared.command.Command.{Command}
use Rattle.moc_parts.specs.declared.command.Command.TheVariants.{Add, Remove, Keep, Claim, Invert, Degrade, Count, Read}
use Rattle.moc_parts.specs.declared.command.Command.TheVariants.{Near}
use Rattle.moc_text.specs.Names.{name_of_text, fault_report}
use Rattle.moc_text.specs.Reading.{reading_of}
use Rattle.moc_parts.specs.Batches.{max_commands, replies_on, set_after_all}
use Rattle.moc_text.specs.Lines.{pieces_of}

-- The words of a line

-- space, tab or CR
abbrev pub is_line_blank : ℕ → Bool
is_line_blank b = b == 32 || b == 9 || b == 13

-- empty, or only blanks
abbrev pub is_blank_text : List ℕ → Bool
is_blank_text bytes = list_all is_line_blank bytes

-- a text without its leading blanks
abbrev pub without_blanks : List ℕ → List ℕ
without_blanks text = drop (prefix_len is_line_blank text) text

-- the first word of a text: from the first byte that is not a blank to the next blank
abbrev pub word_of : List ℕ → List ℕ
word_of text = before_first is_line_blank (without_blanks text)

-- the rest of a text after its first word
abbrev pub after_word : List ℕ → List ℕ
after_word text = drop (length (word_of text)) (without_blanks text)

-- the decimal number of a field: one digit or more
abbrev pub decimal_value : List ℕ → Option ℕ
decimal_value field =
    if nat_lt 0 (length field) && list_all is_ascii_digit field then Some (digits_value 10 field) else None

-- Errors

-- the name of the error of a line of a script or of a schedule, as an answer states it
abbrev pub name_of_line_error : LineError → List ℕ
name_of_line_error UnknownWord = codes "UnknownWord"
name_of_line_error EmptyCommand = codes "EmptyCommand"
name_of_line_error TooManyCommands = codes "TooManyCommands"
name_of_line_error WrongCount = codes "WrongCount"
name_of_line_error BadNumber = codes "BadNumber"
name_of_line_error OrderTooLarge = codes "OrderTooLarge"
name_of_line_error CellTooLarge = codes "CellTooLarge"
name_of_line_error (Coverage e) = name_of_text e
name_of_line_error ClientTooLarge = codes "ClientTooLarge"
name_of_line_error PartTooLarge = codes "PartTooLarge"
name_of_line_error Memory = codes "Memory"

-- Replies

-- `cover` and a set in the ASCII format of MOC 2.0, or `cover` alone for the empty set
abbrev pub cover_text : NumberSet → List ℕ
cover_text a = if set.len a == 0 then codes "cover" else codes "cover " ++ ascii_text a None

-- the text of a reply
abbrev pub reply_text : Reply → List ℕ
reply_text (reply.Changed pixels) = codes "changed " ++ decimal pixels
reply_text reply.Claimed = codes "claimed"
reply_text (reply.Taken pixels) = codes "taken " ++ decimal pixels
reply_text (reply.Total pixels) = codes "total " ++ decimal pixels
reply_text (reply.Cover a) = cover_text a
reply_text (reply.Near near) = if near then codes "near yes" else codes "near no"

-- the texts of replies, separated by ` ; `
abbrev pub replies_text : List Reply → List ℕ
replies_text replies = join_by reply_text (codes " ; ") replies

-- The result of parsing a line

-- the result, through the view, is what the text denotes, or its error, unless an allocation failed
abbrev pub ParsesAs : {X Y : Type 0} → (X → Y) → Result X LineError → Result Y LineError → Type 0
ParsesAs view (Ok x) denotes = denotes ≡ Ok (view x)
ParsesAs view (Err error) denotes = (error ≡ Memory) ⊎ (denotes ≡ Err error)

-- The command of a piece of a line

infixl 10 ◌>>=◌
-- the next result, or the error that came first
abbrev pub ◌>>=◌ : {A B F : Type 0} → Result A F → (A → Result B F) → Result B F
(Ok x) >>= f = f x
(Err error) >>= f = Err error

-- the field of a text with exactly one field
abbrev pub only_field : List ℕ → Result (List ℕ) LineError
only_field text =
    if is_blank_text text then Err WrongCount
    else (if is_blank_text (after_word text) then Ok (word_of text) else Err WrongCount)

-- the fields of a text with exactly two fields
abbrev pub two_fields : List ℕ → Result (List ℕ × List ℕ) LineError
two_fields text =
    let rest = after_word text in
    if is_blank_text rest then Err WrongCount
    else (if is_blank_text (after_word rest) then Ok (word_of text, word_of rest) else Err WrongCount)

-- the numbers of a text with exactly two fields
abbrev pub two_numbers : List ℕ → Result (ℕ × ℕ) LineError
two_numbers text = do
  fields ← two_fields text
  a ← ok_or (decimal_value fields.0) BadNumber
  b ← ok_or (decimal_value fields.1) BadNumber
  Ok (a, b)

-- the set of a text in the ASCII format of MOC 2.0, or its error
abbrev pub coverage_of : List ℕ → Result NumberSet LineError
coverage_of text = result_map_both (λ read. read.0) (λ e. Coverage e) (reading_of text)

-- the order of a field: a number from 0 to 29
abbrev pub order_of : List ℕ → Result ℕ LineError
order_of field = do
  order ← ok_or (decimal_value field) BadNumber
  if nat_lt 29 order then Err OrderTooLarge else Ok order

-- a coverage alone
abbrev pub plain_operand_of : List ℕ → Result Operand LineError
plain_operand_of text = do
  set ← coverage_of text
  Ok (record { set = set; coarse = None })

-- an order, and a coverage after it
abbrev pub ordered_operand_of : List ℕ → List ℕ → Result Operand LineError
ordered_operand_of field text = do
  order ← order_of field
  set ← coverage_of text
  Ok (record { set = set; coarse = Some order })

-- the operand of a text with this first word: `@` and an order, then a coverage; or a coverage alone
abbrev pub operand_by : List ℕ → List ℕ → Result Operand LineError
operand_by [] text = plain_operand_of text
operand_by (b ∷ field) text = if b == 64 then ordered_operand_of field (after_word text) else plain_operand_of text

-- the operand of a text
abbrev pub operand_of : List ℕ → Result Operand LineError
operand_of text = operand_by (word_of text) text

-- the command with this word, as a function of its operand
abbrev pub command_named : List ℕ → Result (Operand → Command) LineError
command_named word =
    if bytes_eq word (codes "add") then Ok (λ operand. Add operand)
    else (if bytes_eq word (codes "remove") then Ok (λ operand. Remove operand)
    else (if bytes_eq word (codes "keep") then Ok (λ operand. Keep operand)
    else (if bytes_eq word (codes "claim") then Ok (λ operand. Claim operand)
    else (if bytes_eq word (codes "count") then Ok (λ operand. Count operand)
    else (if bytes_eq word (codes "read") then Ok (λ operand. Read operand)
    else Err UnknownWord)))))

-- the command with a word and an operand, given a parser of operands
abbrev pub command_with : (List ℕ → Result Operand LineError) → List ℕ → List ℕ → Result Command LineError
command_with operand word text = do
  command ← command_named word
  operand ← operand text
  Ok (command operand)

-- the rest of `invert`: no field
abbrev pub invert_of : List ℕ → Result Command LineError
invert_of text = if is_blank_text text then Ok Invert else Err WrongCount

-- the rest of `degrade`: exactly one field, an order
abbrev pub degrade_of : List ℕ → Result Command LineError
degrade_of text = do
  field ← only_field text
  order ← order_of field
  Ok (Degrade order)

-- the rest of `near`: exactly two fields, an order and the index of one of its cells
abbrev pub near_of : List ℕ → Result Command LineError
near_of text = do
  (k, i) ← two_numbers text
  if nat_lt 29 k then Err OrderTooLarge
      else (if nat_lt i (cell_count k) then Ok (Near (cell_number k i)) else Err CellTooLarge)

-- the command of a piece, given a parser of operands
abbrev pub command_by : (List ℕ → Result Operand LineError) → List ℕ → Result Command LineError
command_by operand piece =
    let word = word_of piece in
    let text = after_word piece in
    if bytes_eq word (codes "invert") then invert_of text
    else (if bytes_eq word (codes "degrade") then degrade_of text
    else (if bytes_eq word (codes "near") then near_of text
    else command_with operand word text))

-- the command of a piece
abbrev pub command_of : List ℕ → Result Command LineError
command_of piece = command_by operand_of piece

-- A line as a batch of commands

-- the answer to a parsed line on a set
abbrev pub answer_to : NumberSet → Result (List Command) LineError → List ℕ
answer_to a (Ok commands) = replies_text (replies_on a commands) ++ 10 ∷ []
answer_to a (Err error) = fault_report (name_of_line_error error)

-- the set after a parsed line: an invalid line changes nothing
abbrev pub after_batch : NumberSet → Result (List Command) LineError → NumberSet
after_batch a (Ok commands) = set_after_all a commands
after_batch a (Err error) = a

module _ {S : Type 0} (executes : S → List Command → List Reply → S → Type 0) where
  -- a parsed line was answered: its commands were executed, and the answer is their replies; or, for an invalid line,
  -- the state is the same, and the answer is the error
  abbrev pub IsAnswer : S → S → Result (List Command) LineError → List ℕ → Type 0
  IsAnswer s s' (Ok commands) answer =
      (replies : List Reply) × executes s commands replies s' × (answer ≡ replies_text replies ++ 10 ∷ [])
  IsAnswer s s' (Err error) answer = (s' ≡ s) × (answer ≡ fault_report (name_of_line_error error))

  -- a parsed line was answered, and the answer is appended to a text
  abbrev pub AnswersLine : S → S → Result (List Command) LineError → List ℕ → List ℕ → Type 0
  AnswersLine s s' parsed text text' = (answer : List ℕ) × (text' ≡ text ++ answer) × IsAnswer s s' parsed answer

module _ (denotes : List ℕ → Result Command LineError) where
  -- the command of a piece; a blank piece is an error
  abbrev pub piece_command : List ℕ → Result Command LineError
  piece_command piece = if is_blank_text piece then Err EmptyCommand else denotes piece

  -- the commands of pieces, or the error of the first invalid one
  abbrev pub commands_of : List (List ℕ) → Result (List Command) LineError
  commands_of [] = Ok []
  commands_of (piece ∷ pieces) = do
    command ← piece_command piece
    commands ← commands_of pieces
    Ok (command ∷ commands)

  -- the commands of a line that is not blank: 1 to 16, or an error
  abbrev pub batch_of : List ℕ → Result (List Command) LineError
  batch_of line =
      if nat_lt max_commands (length (pieces_of line)) then Err TooManyCommands else commands_of (pieces_of line)

module _ (denotes : List ℕ → Result (List Command) LineError) where
  -- the answer to a line, with its line feed; the answer to a blank line is empty
  abbrev pub line_answer : NumberSet → List ℕ → List ℕ
  line_answer a line = if is_blank_text line then [] else answer_to a (denotes line)

  -- the set after a line
  abbrev pub after_line : NumberSet → List ℕ → NumberSet
  after_line a line = if is_blank_text line then a else after_batch a (denotes line)
