use Rattle.std.proofs.Common.{◌∙◌, codes, sym}
use Rattle.clap.specs.Words.{found_of}
use Rattle.clap.proofs.WalkLemmas.{first_value-rows}
use Rattle.moc_cli.proofs.action.picture_names.Goals as goal

pub returns : goal.returns
returns c =
    let f = found_of c.args.values.now in
    (sym (first_value-rows f (codes "FIRST")) ∙ sym c.get_str.ensures, sym (first_value-rows f (codes "SECOND")) ∙ sym c.get_str-2.ensures)
