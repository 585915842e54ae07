-- The arguments so far are names.
use Rattle.std.proofs.Common.{◌≡◌, drop}
use Rattle.std.specs.Prelude.{map}
use Rattle.std.specs.List.{list_all}
use Rattle.moc_cli.specs.Endings.{is_name}
use Rattle.moc_cli.proofs.explaining.are_names.Given as goal

abbrev pub invariant-loop-argument : goal.invariant-loop-argument
invariant-loop-argument g l =
    list_all is_name (map g.S.AsStr.text (drop l.argument-index l.arguments)) ≡ list_all is_name (map g.S.AsStr.text l.arguments)
