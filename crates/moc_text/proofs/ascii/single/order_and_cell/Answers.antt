use Rattle.std.proofs.Common.{rules}
use Rattle.moc_text.specs.Private.Scan.{scan_word, scan_marked, scan_item, finish_item}
use Rattle.moc_text.proofs.ascii.single.order_and_cell.Goals as goal

pub returns : goal.returns
unfolding scan_word scan_marked scan_item finish_item
returns c = search rules
