use Rattle.std.proofs.Common.{◌≡◌, [], get_or, length}
use Rattle.std.specs.List.{slice_split}
use Rattle.moc_text.specs.Lines.{is_line_feed}
use Rattle.moc_forms.proofs.quoting.after_line_feeds.Given as goal

abbrev pub invariant-loop-left : goal.invariant-loop-left
invariant-loop-left l = get_or (slice_split is_line_feed l.rest) l.left [] ≡ get_or (slice_split is_line_feed l.text) l.feeds []

abbrev pub decreases-loop-left : goal.decreases-loop-left
decreases-loop-left l = length l.rest
