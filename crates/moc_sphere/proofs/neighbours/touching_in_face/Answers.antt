use Rattle.std.proofs.Common.{◌≡◌, ◌+◌, ◌-◌, ◌*◌, ◌/◌, ◌%◌, ◌^◌, ap, refl, arith, ◌∙◌}
use Rattle.moc_sphere.specs.Faces.{face_of, x_of, y_of}
use Rattle.moc_sphere.proofs.CellFacts.{face_code, spread_fits}
use Rattle.moc_sphere.proofs.RingCount.{face_in_range}
use Rattle.moc_sphere.proofs.Inside.{IsAround, in_word, across_fits, sums_fit, sums_apart, across_ascends, up_ascends, sums_touch}
use Rattle.moc_sphere.proofs.OffBorder.{off_border}
use Rattle.moc_sphere.proofs.SpreadSteps.{spread_of-below}
use Rattle.moc_sphere.proofs.neighbours.touching_in_face.Goals as goal

pub overflow_add-across : goal.overflow_add-across
overflow_add-across c =
    let k = c.args.cell.order in
    let i = c.args.cell.index in
    let j = c.get-digits.result in
    let level : j ≡ k = c.get-digits.ensures.value ∙ c.order.ensures in
    let v : c.index.result / 2 ^ (2 * j) ≡ face_of k i = ap (λ n. n / 2 ^ (2 * j)) c.index.ensures.value ∙ face_code k j i level in
    let f = face_in_range k i c.requires.cell.index_in_range in
    let o = off_border k i c.args.x c.args.y c.requires.x c.requires.y c.requires.x_above c.requires.x_below c.requires.y_above c.requires.y_below in
    omega (arith, across_fits k (face_of k i) (x_of k i - 1) _ j _ level c.get-digits.ensures.in_range v f (omega (arith, o.x_below)) (c.spread_decrement.ensures (x_of k i) o.x_above (omega (arith, in_word k (x_of k i) c.requires.cell.order_in_range o.x_below)) c.requires.x))

pub overflow_add-across-2 : goal.overflow_add-across-2
overflow_add-across-2 c =
    let k = c.args.cell.order in
    let i = c.args.cell.index in
    let j = c.get-digits.result in
    let level : j ≡ k = c.get-digits.ensures.value ∙ c.order.ensures in
    let v : c.index.result / 2 ^ (2 * j) ≡ face_of k i = ap (λ n. n / 2 ^ (2 * j)) c.index.ensures.value ∙ face_code k j i level in
    let f = face_in_range k i c.requires.cell.index_in_range in
    let o = off_border k i c.args.x c.args.y c.requires.x c.requires.y c.requires.x_above c.requires.x_below c.requires.y_above c.requires.y_below in
    omega (arith, across_fits k (face_of k i) (x_of k i) _ j _ level c.get-digits.ensures.in_range v f (omega (arith, o.x_below)) c.requires.x)

pub spread_increment-requires : goal.spread_increment-requires
spread_increment-requires c =
    let k = c.args.cell.order in
    let i = c.args.cell.index in
    let o = off_border k i c.args.x c.args.y c.requires.x c.requires.y c.requires.x_above c.requires.x_below c.requires.y_above c.requires.y_below in
    omega (arith, c.requires.x, spread_of-below (x_of k i) (in_word k (x_of k i) c.requires.cell.order_in_range o.x_below))

pub overflow_add-across-3 : goal.overflow_add-across-3
overflow_add-across-3 c =
    let k = c.args.cell.order in
    let i = c.args.cell.index in
    let j = c.get-digits.result in
    let level : j ≡ k = c.get-digits.ensures.value ∙ c.order.ensures in
    let v : c.index.result / 2 ^ (2 * j) ≡ face_of k i = ap (λ n. n / 2 ^ (2 * j)) c.index.ensures.value ∙ face_code k j i level in
    let f = face_in_range k i c.requires.cell.index_in_range in
    let o = off_border k i c.args.x c.args.y c.requires.x c.requires.y c.requires.x_above c.requires.x_below c.requires.y_above c.requires.y_below in
    omega (arith, across_fits k (face_of k i) (x_of k i + 1) _ j _ level c.get-digits.ensures.in_range v f o.x_below (c.spread_increment.ensures (x_of k i) (in_word k (x_of k i) c.requires.cell.order_in_range o.x_below) c.requires.x))

pub overflow_mul-up : goal.overflow_mul-up
overflow_mul-up c =
    let k = c.args.cell.order in
    let i = c.args.cell.index in
    let o = off_border k i c.args.x c.args.y c.requires.x c.requires.y c.requires.x_above c.requires.x_below c.requires.y_above c.requires.y_below in
    omega (arith, spread_fits _ (y_of k i - 1) (c.spread_decrement-2.ensures (y_of k i) o.y_above (omega (arith, in_word k (y_of k i) c.requires.cell.order_in_range o.y_below)) c.requires.y))

pub overflow_mul-up-2 : goal.overflow_mul-up-2
overflow_mul-up-2 c = omega (arith, spread_fits _ (y_of c.args.cell.order c.args.cell.index) c.requires.y)

pub spread_increment-requires-2 : goal.spread_increment-requires-2
spread_increment-requires-2 c =
    let k = c.args.cell.order in
    let i = c.args.cell.index in
    let o = off_border k i c.args.x c.args.y c.requires.x c.requires.y c.requires.x_above c.requires.x_below c.requires.y_above c.requires.y_below in
    omega (arith, c.requires.y, spread_of-below (y_of k i) (in_word k (y_of k i) c.requires.cell.order_in_range o.y_below))

pub overflow_mul-up-3 : goal.overflow_mul-up-3
overflow_mul-up-3 c =
    let k = c.args.cell.order in
    let i = c.args.cell.index in
    let o = off_border k i c.args.x c.args.y c.requires.x c.requires.y c.requires.x_above c.requires.x_below c.requires.y_above c.requires.y_below in
    omega (arith, spread_fits _ (y_of k i + 1) (c.spread_increment-2.ensures (y_of k i) (in_word k (y_of k i) c.requires.cell.order_in_range o.y_below) c.requires.y))

-- the numbers that the code computes
is_around_of_digits : (c : goal.After-spread_increment-2) → IsAround c.args.cell.order (face_of c.args.cell.order c.args.cell.index) (x_of c.args.cell.order c.args.cell.index) (y_of c.args.cell.order c.args.cell.index) (c.index.result / 2 ^ (2 * c.get-digits.result) * 2 ^ (2 * c.get-digits.result) % 2 ^ 64) c.spread_decrement.result c.args.x c.spread_increment.result c.spread_decrement-2.result c.args.y c.spread_increment-2.result
is_around_of_digits c =
    let k = c.args.cell.order in
    let i = c.args.cell.index in
    let j = c.get-digits.result in
    let level : j ≡ k = c.get-digits.ensures.value ∙ c.order.ensures in
    let v : c.index.result / 2 ^ (2 * j) ≡ face_of k i = ap (λ n. n / 2 ^ (2 * j)) c.index.ensures.value ∙ face_code k j i level in
    let o = off_border k i c.args.x c.args.y c.requires.x c.requires.y c.requires.x_above c.requires.x_below c.requires.y_above c.requires.y_below in
    let x_word = in_word k (x_of k i) c.requires.cell.order_in_range o.x_below in
    let y_word = in_word k (y_of k i) c.requires.cell.order_in_range o.y_below in
    record {
      order_in_range = c.requires.cell.order_in_range;
      face_in_range = face_in_range k i c.requires.cell.index_in_range;
      x_above = o.x_above;
      x_below = o.x_below;
      y_above = o.y_above;
      y_below = o.y_below;
      is_first = λ t. v t * 2 ^ (2 * level t) % 2 ^ 64;
      x_before = c.spread_decrement.ensures (x_of k i) o.x_above (omega arith) c.requires.x;
      x_here = c.requires.x;
      x_after = c.spread_increment.ensures (x_of k i) x_word c.requires.x;
      y_before = c.spread_decrement-2.ensures (y_of k i) o.y_above (omega arith) c.requires.y;
      y_here = c.requires.y;
      y_after = c.spread_increment-2.ensures (y_of k i) y_word c.requires.y;
    }

pub sums_around-requires-clause-across : goal.sums_around-requires-clause-across
sums_around-requires-clause-across c = across_ascends _ _ _ _ _ _ _ _ _ _ _ (is_around_of_digits c)

pub sums_around-requires-clause-up : goal.sums_around-requires-clause-up
sums_around-requires-clause-up c = up_ascends _ _ _ _ _ _ _ _ _ _ _ (is_around_of_digits c)

pub sums_around-requires-clause-fits : goal.sums_around-requires-clause-fits
sums_around-requires-clause-fits c = sums_fit _ _ _ _ _ _ _ _ _ _ _ (is_around_of_digits c)

pub sums_around-requires-clause-distinct : goal.sums_around-requires-clause-distinct
sums_around-requires-clause-distinct c = sums_apart _ _ _ _ _ _ _ _ _ _ _ (is_around_of_digits c)

pub returns-clause-ascending : goal.returns-clause-ascending
returns-clause-ascending c = rw c.from_buf.ensures.items c.sums_around.ensures.ascending

pub returns-clause-touch : goal.returns-clause-touch
returns-clause-touch c =
    sums_touch _ _ _ _ _ _ _ _ _ _ _ (is_around_of_digits c.before.before) c.args.cell.index c.from_buf.result.items c.requires.cell.index_in_range refl refl refl
    (rw c.from_buf.ensures.items c.sums_around.ensures.sums)
