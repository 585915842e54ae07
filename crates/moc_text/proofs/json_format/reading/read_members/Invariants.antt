use Rattle.std.proofs.Common.{◌≡◌, ◌+◌, length}
use Rattle.std.specs.FinSet as set
use Rattle.serde_json.specs.View.{members_view}
use Rattle.moc_text.specs.Ascii.{deeper}
use Rattle.moc_text.specs.JsonFormat.{members_pixels, members_error, deepest_name}
use Rattle.moc_text.proofs.json_format.reading.read_members.Given as goal

abbrev pub invariant-loop-text : goal.invariant-loop-text
invariant-loop-text l = record {
  count : l.name + length l.text-iterator ≡ length l.members.entries;
  fault : members_error l.name (members_view l.text-iterator) ≡ members_error 0 (members_view l.members.entries);
  set : set.union l.cells (members_pixels (members_view l.text-iterator)) ≡ set.union l.fn.cells (members_pixels (members_view l.members.entries));
  moc_order : deeper l.moc_order (deepest_name (members_view l.text-iterator)) ≡ deepest_name (members_view l.members.entries);
}
