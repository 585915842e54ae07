use Rattle.std.proofs.Common.{rules}
use Rattle.moc_forms.specs.Formats.{format_name}
use Rattle.clap.specs.Words.{found_of}
use Rattle.moc_cli.proofs.Requests.{value_read}
use Rattle.moc_cli.proofs.action.format.Goals as goal

pub returns : goal.returns
returns c = value_read format_name _ (found_of c.args.values.now) c.args.id.now c.in_ok-get_str.field-0.now c.from_str.result c.ok.result (search rules) c.from_str.ensures c.ok.ensures.value
