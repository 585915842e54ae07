-- The characters so far are not control characters.
use Rattle.std.proofs.Common.{◌≡◌, length, drop}
use Rattle.std.specs.Char.{is_control}
use Rattle.std.specs.List.{list_any}
use Rattle.std.specs.Str.{chars}
use Rattle.moc_cli.proofs.explaining.contains_control.Given as goal

abbrev pub invariant-loop-character : goal.invariant-loop-character
invariant-loop-character l =
    list_any is_control (drop (length l.yielded) (chars l.text)) ≡ list_any is_control (chars l.text)
