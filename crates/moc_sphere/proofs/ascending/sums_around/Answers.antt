use Rattle.std.proofs.Common.{◌≢◌, ℕ, ◌<◌, arith}
use Rattle.moc_sphere.specs.Private.Sums.{sum_at}
use Rattle.moc_sphere.proofs.SumsAround.{sums_are_ordered, sums_of_corners, has_sums, eight_ascending}
use Rattle.moc_sphere.proofs.ascending.sums_around.Goals as goal

pub returns-clause-ascending : goal.returns-clause-ascending
returns-clause-ascending c =
    let xs = c.args.across in
    let ys = c.args.up in
    let x01 = c.requires.across 0 (omega arith) in
    let x12 = c.requires.across 1 (omega arith) in
    let y01 = c.requires.up 0 (omega arith) in
    let y12 = c.requires.up 1 (omega arith) in
    let distinct : (d e : ℕ) → d < 9 → e < 9 → d ≢ e → sum_at xs ys d ≢ sum_at xs ys e = λ d e l m off same. off (c.requires.distinct d e l m same) in
    let o = sums_are_ordered (sum_at xs ys 0) (sum_at xs ys 1) (sum_at xs ys 3) (sum_at xs ys 2) (sum_at xs ys 6) (sum_at xs ys 5) (sum_at xs ys 7) (sum_at xs ys 8) _ _ _ _ _ _ _ _ _ _
    (omega arith) (omega arith) (omega arith) (omega arith) (omega arith) (omega arith) (omega arith) (omega arith) (omega arith) (omega arith) (omega arith) (omega arith)
    (distinct 1 3 (omega arith) (omega arith) (λ h. omega arith)) (distinct 2 6 (omega arith) (omega arith) (λ h. omega arith)) (distinct 5 7 (omega arith) (omega arith) (λ h. omega arith))
    (distinct 1 6 (omega arith) (omega arith) (λ h. omega arith)) (distinct 3 2 (omega arith) (omega arith) (λ h. omega arith)) (distinct 2 7 (omega arith) (omega arith) (λ h. omega arith)) (distinct 6 5 (omega arith) (omega arith) (λ h. omega arith))
    c.min_max-a.ensures.lesser c.min_max-a.ensures.greater c.min_max-c.ensures.lesser c.min_max-c.ensures.greater c.min_max-e.ensures.lesser
    c.min_max-e.ensures.greater c.min_max-b.ensures.lesser c.min_max-b.ensures.greater c.min_max-d.ensures.lesser c.min_max-d.ensures.greater in
    eight_ascending _ _ _ _ _ _ _ _ o.first o.second o.third o.fourth o.fifth o.sixth o.seventh

pub returns-clause-sums : goal.returns-clause-sums
returns-clause-sums c =
    has_sums c.args.across c.args.up _ (sums_of_corners _ _ _ _ _ _ _ _ _ _ _ _ _ _ _ _ _ _
    c.min_max-a.ensures.lesser c.min_max-a.ensures.greater c.min_max-c.ensures.lesser c.min_max-c.ensures.greater c.min_max-e.ensures.lesser
    c.min_max-e.ensures.greater c.min_max-b.ensures.lesser c.min_max-b.ensures.greater c.min_max-d.ensures.lesser c.min_max-d.ensures.greater)
