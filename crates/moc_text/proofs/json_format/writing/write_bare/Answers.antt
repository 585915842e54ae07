use Rattle.std.proofs.Common.{rules}
use Rattle.moc_text.proofs.JsonRuns.{empty_order_written}
use Rattle.moc_text.proofs.json_format.writing.write_bare.Goals as goal

pub returns : goal.returns
returns c = λ members.
    empty_order_written c.args.depth c.args.empty_order c.args.has_previous c.args.text.now c.write_name.new.text c.push_str.new.self members (search rules) c.in_ok-write_name.ensures c.in_ok-push_str.ensures
