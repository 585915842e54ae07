use Rattle.std.proofs.Common.{rules}
use Rattle.moc_cli.proofs.Names.{rest_is_invalid}
use Rattle.moc_cli.proofs.explaining.has_invalid_name.Goals as goal

pub returns-clause-invalid : goal.returns-clause-invalid
returns-clause-invalid g c = λ none. record {
  draws = search rules;
  invalid = rest_is_invalid g.S.AsStr.text c.args.arguments.now c.are_names.result c.are_names.ensures none;
}
