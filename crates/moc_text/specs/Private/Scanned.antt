-- Parsing the ASCII format as a function, defined by scanned words.
use Rattle.std.specs.Prelude.{ℕ, ◌+◌, List, [], ◌∷◌, length, Option, Some, None, Result, Ok, Err}
use Rattle.moc_lists.specs.RangeList.{NumberSet}
use Rattle.moc_text.specs.declared.ascii.number.WordNumbers.{WordNumbers}
use Rattle.moc_text.specs.declared.ascii.error.TextError.{TextError}
use Rattle.moc_text.specs.Ascii.{Word, words, current_order, error_of, pixels_of_words, deepest_of}
use Rattle.moc_text.specs.Private.Scan.{◌>>=◌, scan_word}

-- the numbers of a word, or the error of its shape
abbrev pub word_numbers : Word → Result WordNumbers TextError
word_numbers w = do
  scanned ← scan_word (w.at + length w.bytes) w.bytes
  Ok scanned.0

-- the numbers, or their error
abbrev pub without_error : Option TextError → WordNumbers → Result WordNumbers TextError
without_error (Some fault) n = Err fault
without_error None n = Ok n

-- the numbers of the words, or the first error
abbrev pub numbers_of : Option ℕ → List Word → Result (List WordNumbers) TextError
numbers_of before [] = Ok []
numbers_of before (w ∷ ws) = do
  found ← word_numbers w
  n ← without_error (error_of before w.at found) found
  ns ← numbers_of (current_order before n.mark) ws
  Ok (n ∷ ns)

-- the set and the MOC order that a text represents, or its first error
unfoldable pub reading_of : List ℕ → Result (NumberSet × Option ℕ) TextError
reading_of text = do
  ns ← numbers_of None (words text)
  Ok (pixels_of_words None ns, deepest_of ns)
