use Rattle.std.proofs.Common.{ℕ, List, [], Some, None, ◌≡◌, ◌∷◌, length, arith, ap, sym, ◌∙◌}
use Rattle.std.specs.FinSet as set
use Rattle.std.specs.Map.Iter.{deref_pair}
use Rattle.std.specs.Prelude.{string_bytes, String}
use Rattle.std.specs.declared.alloc.Global.{Global}
use Rattle.serde_json.specs.Find.{as_array}
use Rattle.serde_json.specs.declared.value.Value.{Value}
use Rattle.std.proofs.lemmas.Map.Iter.{rest_more}
use Rattle.serde_json.specs.View.{view, members_view}
use Rattle.moc_ranges.specs.Lemmas.{union-empty}
use Rattle.moc_text.specs.Ascii.{deeper}
use Rattle.moc_text.specs.JsonFormat.{order_of_name, array_pixels, name_error, members_pixels, members_error, deepest_name}
use Rattle.moc_text.proofs.JsonMembers.{member_without_error, member_added, member_deepest}
use Rattle.moc_text.proofs.ReadWords.{deeper-None}
use Rattle.moc_text.proofs.json_format.reading.read_members.Goals as goal

pub loop-text-preserved : goal.loop-text-preserved
loop-text-preserved c =
    let e : c.loop-text.text-iterator ≡ (c.in-Some.text.now, c.in-Some.value.now) ∷ c.next.new.self = rest_more deref_pair c.loop-text.text-iterator c.next.new.self c.next.result (c.in-Some.text, c.in-Some.value) c.in-Some.is c.next.ensures.steps in
    let read = c.in_ok-order.ensures in
    let name = c.loop-text.name in
    let text = string_bytes c.in-Some.text.now in
    let d = view c.in-Some.value.now in
    let ms = members_view c.next.new.self in
    let same : c.as_str.result.now ≡ text = c.as_str.ensures.value in
    let order : order_of_name text ≡ Some c.in_ok-order.order = ap order_of_name (sym same) ∙ read.0 in
    let fine : name_error name (order_of_name text) (as_array d) ≡ None = ap (λ (t : List ℕ). name_error name (order_of_name t) (as_array d)) (sym same) ∙ read.1 in
    let added : c.read_member.new.cells ≡ set.union c.loop-text.cells (array_pixels (order_of_name text) (as_array d)) = read.2 ∙ ap (λ (t : List ℕ). set.union c.loop-text.cells (array_pixels (order_of_name t) (as_array d))) same in
    record {
      count = omega (arith, ap length e, c.loop-text.invariant.count);
      fault = member_without_error name text d ms fine ∙ ap (λ (it : List (String Global × Value)). members_error name (members_view it)) (sym e) ∙ c.loop-text.invariant.fault;
      set = member_added c.loop-text.cells c.read_member.new.cells text d ms added ∙ ap (λ (it : List (String Global × Value)). set.union c.loop-text.cells (members_pixels (members_view it))) (sym e) ∙ c.loop-text.invariant.set;
      moc_order = member_deepest c.loop-text.moc_order c.deeper-moc_order.result c.in_ok-order.order text d ms order c.deeper-moc_order.ensures ∙ ap (λ (it : List (String Global × Value)). deeper c.loop-text.moc_order (deepest_name (members_view it))) (sym e) ∙ c.loop-text.invariant.moc_order;
    }

pub returns : goal.returns
returns c =
    let none : c.loop-text.text-iterator ≡ [] = c.in-None.ensures.steps.0 in (
      sym c.loop-text.invariant.fault ∙ ap (λ (it : List (String Global × Value)). members_error c.loop-text.name (members_view it)) none,
      sym (union-empty c.loop-text.cells) ∙ ap (λ (it : List (String Global × Value)). set.union c.loop-text.cells (members_pixels (members_view it))) (sym none) ∙ c.loop-text.invariant.set,
      sym (deeper-None c.loop-text.moc_order) ∙ ap (λ (it : List (String Global × Value)). deeper c.loop-text.moc_order (deepest_name (members_view it))) (sym none) ∙ c.loop-text.invariant.moc_order,
    )
