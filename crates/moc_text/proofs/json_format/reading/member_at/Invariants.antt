use Rattle.std.proofs.Common.{◌≡◌}
use Rattle.serde_json.specs.View.{members_view}
use Rattle.moc_text.specs.JsonFormat.{member_at}
use Rattle.moc_text.proofs.json_format.reading.member_at.Given as goal

abbrev pub invariant-loop-name : goal.invariant-loop-name
invariant-loop-name l =
    member_at l.before (members_view l.name-iterator) ≡ member_at l.number (members_view l.members.entries)
