-- The first line ends at a line feed, or is the last.
use Rattle.std.proofs.Common.{◌∙◌, sym}
use Rattle.moc_lines.proofs.WholeReading.{lines_split_at_line_feed, split_last}
use Rattle.moc_lines.proofs.reading.split_line.Goals as goal

pub returns-in-Some-clause-lines : goal.returns-in-Some-clause-lines
returns-in-Some-clause-lines c =
    lines_split_at_line_feed c.args.text.now c.split_at.result.0.now c.in-Some.rest.now c.in-Some.field-0-0.now c.first_or_len.result c.first_or_len.ensures.value c.split_at.ensures.front
    (sym c.split_at.ensures.back ∙ c.in-Some.ensures.cases.0)

pub returns-in-None-clause-lines : goal.returns-in-None-clause-lines
returns-in-None-clause-lines c =
    split_last c.args.text.now c.split_at.result.0.now c.split_at.result.1.now c.first_or_len.result c.requires c.first_or_len.ensures.value c.split_at.ensures.front c.split_at.ensures.back
    c.in-None.ensures.cases
