-- A script that is read whole, so far.
use Rattle.std.specs.Prelude.{◌≡◌, ℕ, ◌≤◌, List, [], ◌∷◌, ◌++◌, length, take, drop}
use Rattle.std.specs.List.{count_by}
use Rattle.moc_text.specs.Lines.{is_line_feed, lines_of}
use Rattle.moc_lines.specs.Private.ReaderState.{HasNoLineFeed}
use Rattle.moc_lines.specs.Runs.{AreShort, line_limit}

-- The lines of these bytes that a line feed ends are before the start, and within the limit; the unfinished line from
-- there on is within the limit too.
pub record IsScriptState (bytes : List ℕ) (start : ℕ) : Type 0 where
  pub lines : List (List ℕ)
  pub front : (more : List ℕ) → lines_of (bytes ++ more) ≡ lines ++ lines_of (drop start bytes ++ more)
  pub count : length lines ≡ count_by is_line_feed bytes
  pub within : AreShort line_limit lines
  pub unfinished_line : HasNoLineFeed (drop start bytes)
  pub short : length (drop start bytes) ≤ line_limit
  pub inside : start ≤ length bytes

-- the position is after the last line feed
pub record IsAfterLastFeed (bytes : List ℕ) (place : ℕ) : Type 0 where
  pub front : List ℕ
  pub ends : take place bytes ≡ front ++ 10 ∷ []
  pub unbroken : HasNoLineFeed (drop place bytes)
  pub inside : place ≤ length bytes
