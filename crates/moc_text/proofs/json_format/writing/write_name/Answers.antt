use Rattle.std.proofs.Common.{List, ℕ, ◌++◌, ◌∷◌, [], ap, ◌∙◌, arith}
use Rattle.std.specs.Prelude.{decimal}
use Rattle.std.proofs.lemmas.Result.{on_ok_weaker}
use Rattle.json.specs.Print.{escape}
use Rattle.serde_json.specs.Written.{comma_if}
use Rattle.moc_text.proofs.JsonRuns.{escape-decimal, name_written}
use Rattle.moc_text.proofs.json_format.writing.write_name.Goals as goal

pub returns : goal.returns
returns c =
    let name = decimal c.args.depth in
    on_ok_weaker c.push_str.result (λ e. e
    ∙ ap (λ (t : List ℕ). t ++ 34 ∷ 58 ∷ []) (c.in_ok-push_number.ensures ∙ ap (λ n. c.push_comma.new.text ++ 34 ∷ decimal n) c.from.ensures ∙ ap (λ (t : List ℕ). t ++ 34 ∷ name) c.in_ok-push_comma.ensures)
    ∙ name_written c.args.text.now (comma_if c.args.has_previous) name (escape name) (escape-decimal c.args.depth (omega arith))) c.push_str.ensures
