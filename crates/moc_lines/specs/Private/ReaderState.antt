-- The content of a line reader.
use Rattle.std.specs.Prelude.{◌≡◌, ℕ, List}
use Rattle.std.specs.List.{count_by}
use Rattle.moc_text.specs.Lines.{is_line_feed}

-- no byte is a line feed
abbrev pub HasNoLineFeed : List ℕ → Type 0
HasNoLineFeed bytes = count_by is_line_feed bytes ≡ 0

-- the bytes that were read and are not part of a line yet, and the bytes of the line so far
pub record ReaderState : Type 0 where
  pub unread : List ℕ
  pub line : List ℕ
