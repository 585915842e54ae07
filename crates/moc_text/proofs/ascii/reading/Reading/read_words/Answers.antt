use Rattle.std.proofs.Common.{◌≡◌, length, get_or, ◌⊎◌, inl, inr, false, sym, ap, ◌∙◌, arith}
use Rattle.std.specs.FinSet as set
use Rattle.std.proofs.lemmas.Result.{err_from_is_err_and}
use Rattle.moc_lists.specs.RangeList.{NumberSet}
use Rattle.moc_text.specs.Ascii.{is_separator, item_error, item_pixels, IsFirstError}
use Rattle.moc_text.specs.declared.ascii.error.TextError.TheVariants.{Memory}
use Rattle.moc_text.proofs.Scanning.{Scanned}
use Rattle.moc_text.proofs.ReadWords.{progress_word, after_shorter, scanned_word, first_error_of_scan, first_error_in_mark, first_error_in_item, small_current_order}
use Rattle.moc_text.proofs.ascii.reading.Reading.read_words.Goals as goal
use Rattle.moc_text.proofs.ascii.reading.Reading.read_words.Goals.{In_ok-numbers}

pub returns-in_err-numbers : goal.returns-in_err-numbers
returns-in_err-numbers c = λ text whole fits start.
    let p = err_from_is_err_and c.from_residual.result c.from_residual.ensures.1 in
    let len : length text ≡ c.saturating_add-len.result = omega (arith, whole, fits, c.saturating_add-len.ensures) in
    let sep : is_separator (get_or c.loop-rest.rest.now 0 0) ≡ false = cc in
    rw (p.1, p.2) (inr (first_error_of_scan text c.loop-rest.rest.now _ _ _ c.in_err-numbers.field-0.0 (c.loop-rest.invariant.1 text len start) c.in-len1-up.len_at_least sep (rw len c.in_err-numbers.ensures)))

scanned : (c : In_ok-numbers) → Scanned c.saturating_add-len.result c.loop-rest.rest.now c.in_ok-numbers.numbers c.in_ok-numbers.after.now
scanned c =
    let sep : is_separator (get_or c.loop-rest.rest.now 0 0) ≡ false = cc in
    scanned_word c.saturating_add-len.result c.loop-rest.rest.now c.in_ok-numbers.numbers c.in_ok-numbers.after.now c.loop-rest.invariant.0 c.in-len1-up.len_at_least sep c.in_ok-numbers.ensures

pub returns-in_err-set_order : goal.returns-in_err-set_order
returns-in_err-set_order c = λ text whole fits start.
    let p = err_from_is_err_and c.from_residual-in_err-set_order.result c.from_residual-in_err-set_order.ensures.1 in
    let len : length text ≡ c.saturating_add-len.result = omega (arith, whole, fits, c.saturating_add-len.ensures) in
    let s = scanned (goal.at.returns-in_err-set_order c).In_ok-numbers in
    rw (p.1, p.2) (inr (first_error_in_mark text c.loop-rest.rest.now _ _ _ c.in_ok-numbers.numbers c.in_ok-numbers.after.now c.in_err-set_order.field-0.0 (c.loop-rest.invariant.1 text len start) (rw len s) c.in_err-set_order.ensures))

pub returns-in_err-add : goal.returns-in_err-add
returns-in_err-add c = λ text whole fits start.
    let p = err_from_is_err_and c.from_residual-in_err-add.result c.from_residual-in_err-add.ensures.1 in
    let len : length text ≡ c.saturating_add-len.result = omega (arith, whole, fits, c.saturating_add-len.ensures) in
    let s = scanned (goal.at.returns-in_err-add c).In_ok-numbers in
    let before = c.loop-rest.invariant.1 text len start in
    let entered = c.in_ok-set_order.ensures in
    rw (p.1, p.2) (elim (c.in_err-add.ensures) as (λ _. c.in_err-add.field-0.0 ≡ Memory ⊎ IsFirstError text c.in_err-add.field-0.0) [
      | inl memory ↦ inl memory
      | inr fault ↦ inr (first_error_in_item text c.loop-rest.rest.now _ _ _ c.in_ok-numbers.numbers c.in_ok-numbers.after.now c.set_order.new.self.order c.in_err-add.field-0.0 (small_current_order text c.loop-rest.rest.now _ _ _ before) before (rw len s) entered.0 entered.1 (ap (λ n. item_error c.set_order.new.self.order n c.in_ok-numbers.numbers.item) (rw len (sym c.place-at.ensures)) ∙ fault))
    ])

pub loop-rest-smaller : goal.loop-rest-smaller
loop-rest-smaller c = after_shorter c.saturating_add-len.result c.loop-rest.rest.now c.in_ok-numbers.numbers c.in_ok-numbers.after.now (scanned (goal.at.loop-rest-smaller c).In_ok-numbers)

pub loop-rest-preserved : goal.loop-rest-preserved
loop-rest-preserved c =
    let s = scanned (goal.at.loop-rest-preserved c).In_ok-numbers in
    let shorter = after_shorter c.saturating_add-len.result c.loop-rest.rest.now c.in_ok-numbers.numbers c.in_ok-numbers.after.now s in
    let entered = c.in_ok-set_order.ensures in
    let added = c.in_ok-add.ensures in (
      omega (arith, shorter, c.loop-rest.invariant.0),
      λ text len start.
          let before = c.loop-rest.invariant.1 text len start in
          progress_word text c.loop-rest.rest.now c.loop-rest.self.cells c.loop-rest.self.order c.loop-rest.self.moc_order c.in_ok-numbers.numbers c.in_ok-numbers.after.now
          c.add.new.self.cells c.add.new.self.order c.add.new.self.moc_order (small_current_order text c.loop-rest.rest.now _ _ _ before) before (rw len s)
          entered.0 (added.1 ∙ entered.1) (added.2 ∙ entered.2)
          (ap (λ n. item_error c.add.new.self.order n c.in_ok-numbers.numbers.item) (rw len (sym c.place-at.ensures)) ∙ ap (λ k. item_error k c.place-at.result c.in_ok-numbers.numbers.item) added.1 ∙ added.0)
          (added.3 ∙ ap (λ (a : NumberSet). set.union a (item_pixels c.set_order.new.self.order c.in_ok-numbers.numbers.item)) entered.3 ∙ ap (λ k. set.union c.loop-rest.self.cells (item_pixels k c.in_ok-numbers.numbers.item)) (sym added.1)),
    )
