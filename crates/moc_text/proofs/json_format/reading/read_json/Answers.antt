use Rattle.std.proofs.Common.{rules, ◌≡◌, Some, ap, ◌∙◌}
use Rattle.std.specs.FinSet as set
use Rattle.serde_json.specs.Find.{as_object}
use Rattle.serde_json.specs.View.{view, members_view}
use Rattle.moc_lists.specs.RangeList.{NumberSet}
use Rattle.moc_ranges.specs.Lemmas.{empty-union}
use Rattle.moc_text.specs.JsonFormat.{members_pixels, RepresentsJson}
use Rattle.moc_text.proofs.JsonMembers.{json_set_is_unique}
use Rattle.moc_text.proofs.json_format.reading.read_json.Goals as goal
use Rattle.moc_text.proofs.json_format.reading.read_json.Goals.{Joined-value-4}

represents : (c : Joined-value-4) → RepresentsJson c.args.text.now c.in_ok-set.set c.in_ok-moc_order.moc_order
represents c =
    let object : as_object (view c.in_ok-value.value) ≡ Some (members_view c.in-Some.members.now.entries) = search rules in
    let read = c.in_ok-moc_order.ensures in
    record {
      value = view c.in_ok-value.value;
      json = c.in_ok-value.ensures;
      members = members_view c.in-Some.members.now.entries;
      object = object;
      without_error = read.0;
      set_is = c.in_ok-set.ensures ∙ read.1 ∙ ap (λ (a : NumberSet). set.union a (members_pixels (members_view c.in-Some.members.now.entries))) c.new-cells.ensures ∙ empty-union (members_pixels (members_view c.in-Some.members.now.entries));
      moc_order_is = read.2;
    }

pub returns-clause-set : goal.returns-clause-set
returns-clause-set c = represents c

pub returns-clause-reading : goal.returns-clause-reading
returns-clause-reading c = λ a k said. json_set_is_unique c.args.text.now _ a _ k (represents c) said
