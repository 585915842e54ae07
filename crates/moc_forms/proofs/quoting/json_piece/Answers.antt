use Rattle.std.proofs.Common.{◌∙◌, ap, sym}
use Rattle.std.specs.Prelude.{option_map}
use Rattle.moc_text.specs.declared.json_format.error.JsonPlace.{JsonPlace}
use Rattle.moc_forms.proofs.Pieces.{text_at_error, no_json_error}
use Rattle.moc_forms.proofs.quoting.json_piece.Goals as goal

pub returns-in_default : goal.returns-in_default
returns-in_default c =
    no_json_error c.args.text.now c.args.error
    (sym (ap (option_map (λ (p : JsonPlace). (p.name, p.item))) c.in_default.is) ∙ c.place.ensures)

pub returns-in-Ok : goal.returns-in-Ok
returns-in-Ok c =
    text_at_error c.args.text.now c.args.error c.in-Some.place.name c.in-Some.place.item _
    (sym (ap (option_map (λ (p : JsonPlace). (p.name, p.item))) c.in-Some.is) ∙ c.place.ensures) c.in-Ok.ensures.text
