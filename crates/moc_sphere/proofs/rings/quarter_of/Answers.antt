use Rattle.std.proofs.Common.{◌≡◌, ℕ, ◌+◌, ◌-◌, ◌*◌, ◌/◌, ◌%◌, ◌<◌, arith}
use Rattle.std.proofs.Math.Nat.{div-add-mod'}
use Rattle.std.proofs.lemmas.Grind.{common_steps}
use Rattle.std.proofs.lemmas.Nat.{div_below, le-div}
use Rattle.moc_sphere.proofs.rings.quarter_of.Goals as goal

remainder_of_quarter : (q place row : ℕ) → q ≡ place / row → place - q * row ≡ place % row
remainder_of_quarter q place row e = rw e (omega (arith, div-add-mod' place row))

pub returns-clause-quarter : goal.returns-clause-quarter
returns-clause-quarter c =
    let p = c.args.place in
    let m = c.args.row in
    let some : 0 < m = omega (arith, c.requires.place) in
    grind (
      arith,
      common_steps,
      div_below p m 1 some,
      div_below p m 2 some,
      div_below p m 3 some,
      div_below p m 4 some,
      le-div 1 p m some,
      le-div 2 p m some,
      le-div 3 p m some,
    )

pub returns-clause-place : goal.returns-clause-place
returns-clause-place c =
    remainder_of_quarter (c.from.result + c.from-2.result + c.from-3.result) c.args.place c.args.row (returns-clause-quarter c)
