use Rattle.std.proofs.Common.{◌≡◌, drop, ℕ, Bool}
use Rattle.std.specs.Prelude.{◌||◌}
use Rattle.std.specs.Char.{is_ascii_digit}
use Rattle.std.specs.List.{list_all}
use Rattle.moc_text.specs.Lines.{is_line_feed}
use Rattle.moc_forms.proofs.finding.is_digits_and_line_feeds.Given as goal

-- a digit or a line feed
abbrev is_allowed : ℕ → Bool
is_allowed b = is_ascii_digit b || is_line_feed b

abbrev pub invariant-loop-byte : goal.invariant-loop-byte
invariant-loop-byte l = list_all is_allowed (drop l.byte-index l.text) ≡ list_all is_allowed l.text
