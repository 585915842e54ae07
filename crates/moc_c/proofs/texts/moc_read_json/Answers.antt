use Rattle.std.proofs.Common.{subst}
use Rattle.moc_forms.specs.declared.format.Format.TheVariants.{Json}
use Rattle.moc_c.specs.Contents.{Contents}
use Rattle.moc_c.specs.Texts.{Reads}
use Rattle.moc_c.proofs.texts.moc_read_json.Goals as goal

pub returns : goal.returns
returns c = subst (λ (d : Contents). Reads Json c.args.text.now d c.read.new.self c.read.result) c.table.ensures.value c.read.ensures
