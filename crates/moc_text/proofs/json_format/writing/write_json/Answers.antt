use Rattle.std.proofs.Common.{◌≡◌, ℕ, Option, true, false, ap, ◌∙◌}
use Rattle.std.specs.String.{string_bytes}
use Rattle.std.proofs.lemmas.Str.{IsUtf8-string_bytes}
use Rattle.serde_json.specs.Data.{object}
use Rattle.serde_json.specs.Written.{compact_text}
use Rattle.moc_ranges.specs.Cells.{cells_of}
use Rattle.moc_text.specs.AsciiText.{IsTooCoarse, deepest_cell, stated_if_deeper}
use Rattle.moc_text.specs.JsonText.{json_text}
use Rattle.moc_text.specs.Private.JsonWriting.{members_in_order, orders_by_name}
use Rattle.moc_text.proofs.JsonWritten.{written_text, written_read, written_represents}
use Rattle.moc_text.proofs.json_format.writing.write_json.Goals as goal
use Rattle.moc_text.proofs.json_format.writing.write_json.Goals.{In_ok-object_text}

text_is : (c : In_ok-object_text) → string_bytes c.in_ok-object_text.field-0 ≡ json_text c.args.set.now c.args.stated
text_is c =
    let cells = cells_of c.args.set.now in
    c.in_ok-object_text.ensures
    ∙ ap (λ (empty_order : Option ℕ). compact_text (object (members_in_order cells empty_order orders_by_name)))
    (c.if_deeper-empty_order.ensures ∙ ap (λ k. stated_if_deeper k c.depth_of-stated.result) c.deepest_of-deepest.ensures ∙ ap (stated_if_deeper (deepest_cell cells)) c.depth_of-stated.ensures.same)
    ∙ written_text c.args.set.now c.args.stated

pub returns-clause-text : goal.returns-clause-text
returns-clause-text c = text_is c

pub returns-clause-reads_back : goal.returns-clause-reads_back
returns-clause-reads_back c =
    let fine : IsTooCoarse c.args.set.now c.args.stated → ⊥ = λ deeper.
    let found : c.is_too_coarse.result ≡ true = (c.is_too_coarse.ensures c.args.set.now c.deepest_of-deepest.ensures).1 (rw c.depth_of-stated.ensures.same deeper) in
    let none : c.is_too_coarse.result ≡ false = c.if-is_too_coarse.false in
    absurd cc in
    written_represents c.args.set.now c.args.stated _ (IsUtf8-string_bytes c.in_ok-object_text.field-0) (written_read c.args.set.now c.args.stated _ (text_is c)) c.cell_orders-orders.ensures.within (rw c.depth_of-stated.ensures.same at c.depth_of-stated.ensures.small) fine
