-- The place of the error of the line is that among the pieces of the rest.
use Rattle.std.proofs.Common.{◌≡◌, ◌+◌, ◌≤◌, length}
use Rattle.moc_lines.specs.Places.{error_place}
use Rattle.moc_lines.specs.Private.Placing.{place_among}
use Rattle.moc_text.specs.Lines.{pieces_of}
use Rattle.moc_lines.proofs.places.place_of_error.Given as goal

abbrev pub invariant-loop-place : goal.invariant-loop-place
invariant-loop-place l = record {
  same : error_place l.error l.line ≡ place_among l.error l.place.command l.place.byte (pieces_of l.rest);
  bytes : l.place.byte + length l.rest ≡ length l.line;
  commands : l.place.command ≤ l.place.byte;
}

abbrev pub decreases-loop-place : goal.decreases-loop-place
decreases-loop-place l = length l.rest
