-- The arguments so far have no control character.
use Rattle.std.proofs.Common.{◌≡◌, drop}
use Rattle.std.specs.Prelude.{map}
use Rattle.std.specs.List.{list_any}
use Rattle.moc_cli.specs.Explanations.{has_control}
use Rattle.moc_cli.proofs.explaining.has_control_character.Given as goal

abbrev pub invariant-loop-argument : goal.invariant-loop-argument
invariant-loop-argument g l =
    list_any has_control (map g.S.AsStr.text (drop l.argument-index l.arguments)) ≡ list_any has_control (map g.S.AsStr.text l.arguments)
