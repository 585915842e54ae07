use Rattle.std.proofs.Common.{codes, rules}
use Rattle.moc_forms.specs.Combining.{operation_name}
use Rattle.clap.specs.Words.{found_of}
use Rattle.moc_cli.proofs.Requests.{value_read}
use Rattle.moc_cli.proofs.action.operation.Goals as goal

pub returns : goal.returns
returns c = value_read operation_name _ (found_of c.args.values.now) (codes "OP") c.in_ok-get_str.field-0.now c.from_str.result c.ok.result (search rules) c.from_str.ensures c.ok.ensures.value
