-- The texts of all entries are appended.
use Rattle.std.proofs.Common.{sym, ap, ◌∙◌, ◌++◌, append-nil}
use Rattle.std.specs.List.{flat_map}
use Rattle.std.proofs.lemmas.List.{drop_all}
use Rattle.moc_script.proofs.Beginnings.{begin_of_entry, begin_lines_are}
use Rattle.moc_script.proofs.player.push_order.Goals as goal

pub returns : goal.returns
returns c =
    let begins = c.args.begins.now in
    let order = c.args.order.now in
    sym (ap (λ l. c.args.text.now.items ++ l) (begin_lines_are begins order)
    ∙ c.loop-entry.invariant
    ∙ ap (λ l. c.loop-entry.text.items ++ flat_map (begin_of_entry begins) l) (drop_all c.loop-entry.entry-index order c.loop-entry-test.false)
    ∙ append-nil c.loop-entry.text.items)
