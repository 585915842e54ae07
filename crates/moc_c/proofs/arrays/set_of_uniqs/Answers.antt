use Rattle.std.proofs.Common.{◌≡◌, ◌≤◌, ◌<◌, ◌^◌, inr, rules, get_or}
use Rattle.moc_sphere.specs.CellNumber.{IsCell, uniq_of}
use Rattle.moc_c.proofs.Failing.{uniqs_none, uniqs_some}
use Rattle.moc_c.proofs.Gathering.{all_gathered, gathered_more, gathered_none, in_all}
use Rattle.moc_c.proofs.arrays.set_of_uniqs.Goals as goal

pub loop-at-init : goal.loop-at-init
loop-at-init c = gathered_none c.args.uniqs.now c.new-builder.result c.new-builder.ensures

pub loop-at-preserved : goal.loop-at-preserved
loop-at-preserved c =
    let n = get_or c.args.uniqs.now c.loop-at.at 0 in
    let number : IsCell c.in-Ok.cell × (uniq_of c.in-Ok.cell ≡ n) = c.in-Ok.ensures.number in
    let range : (4 ≤ n) × (n < 2 ^ 62) = search rules in
    gathered_more c.args.uniqs.now c.loop-at.at c.loop-at.builder c.add_cell.new.self c.in-Ok.cell c.loop-at.invariant c.loop-at-test.true number.0 number.1 range (search rules)

pub returns-in_default : goal.returns-in_default
returns-in_default c =
    let n = get_or c.args.uniqs.now c.loop-at.at 0 in
    let fails : (4 ≤ n) × (n < 2 ^ 62) → ⊥ = search rules in
    inr (uniqs_some c.args.uniqs.now c.loop-at.at c.loop-at-test.true c.loop-at.invariant.are_uniqs fails)

pub returns : goal.returns
returns c = (
  uniqs_none c.args.uniqs.now (in_all c.args.uniqs.now c.loop-at.at c.loop-at.builder c.loop-at.invariant c.loop-at-test.false),
  all_gathered c.args.uniqs.now c.loop-at.at c.loop-at.builder c.in_ok-build.field-0 c.loop-at.invariant c.loop-at-test.false c.in_ok-build.ensures,
)
