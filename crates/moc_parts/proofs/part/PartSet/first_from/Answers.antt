-- The first part of the set from a number on is the head of the list of parts from that number on.
use Rattle.std.proofs.Common.{◌∙◌, sym, ap}
use Rattle.std.specs.FinSet as set
use Rattle.moc_parts.specs.Lemmas.{parts_from-in, parts_from-out}
use Rattle.moc_parts.proofs.part.PartSet.first_from.Goals as goal

pub returns-then-contains : goal.returns-then-contains
returns-then-contains c =
    rw c.of-part.ensures
    (sym c.loop-number.invariant
    ∙ parts_from-in c.args.self c.loop-number.number c.loop-number-test.true (ap (set.contains c.args.self) (sym c.of-part.ensures) ∙ sym c.if-contains.ensures))

pub loop-number-preserved : goal.loop-number-preserved
loop-number-preserved c =
    sym (parts_from-out c.args.self c.loop-number.number c.loop-number-test.true (ap (set.contains c.args.self) (sym c.of-part.ensures) ∙ sym c.if-contains.ensures))
    ∙ c.loop-number.invariant
