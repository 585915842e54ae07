-- Texts of a single cell.
use Rattle.std.proofs.Common.{◌≡◌, ℕ, ◌-◌, ◌<◌, ◌≤◌, false, List, [], length, get_or, Option, Some, None, Ok, refl, subst, ◌∙◌, arith}
use Rattle.std.specs.FinSet as set
use Rattle.std.proofs.lemmas.Bool.{lt-ltb, le-ltb}
use Rattle.moc_sphere.specs.CellNumber.{cell_count}
use Rattle.moc_lists.specs.RangeList.{NumberSet}
use Rattle.moc_ranges.specs.Cells.{span}
use Rattle.moc_ranges.specs.Lemmas.{empty-union, spans-one}
use Rattle.moc_text.specs.Ascii.{is_separator, item_error, item_pixels, mark_error, Represents}
use Rattle.moc_text.specs.Private.AsciiReading.{Progress}
use Rattle.moc_text.specs.Private.Scan.{scan_word}
use Rattle.moc_text.specs.declared.ascii.number.Numeral.{Numeral}
use Rattle.moc_text.specs.declared.ascii.number.Item.{Item}
use Rattle.moc_text.specs.declared.ascii.number.WordNumbers.{WordNumbers}
use Rattle.moc_text.proofs.ReadWords.{progress_word, represents_at_end, scanned_word}

-- the first word is an order and a cell of it, and no other word follows
pub represents_cell : (text front after rest : List ℕ) (order cell : Numeral)
    → Progress text front set.empty None None → 0 < length front → is_separator (get_or front 0 0) ≡ false
    → scan_word (length text) front ≡ Ok (record { mark = Some order; item = Some (record { first = cell; last = None }) }, after)
    → order.value ≤ 29 → cell.value < cell_count order.value
    → ((a : NumberSet) (k moc_order : Option ℕ) → Progress text after a k moc_order → Progress text rest a k moc_order) → rest ≡ []
    → Represents text (span order.value cell.value) (Some order.value)
represents_cell text front after rest order cell p some first scanned small within skip none =
    let item : Item = record { first = cell; last = None } in
    let numbers : WordNumbers = record { mark = Some order; item = Some item } in
    let k : Option ℕ = Some order.value in
    let a : NumberSet = set.union set.empty (item_pixels k (Some item)) in
    let mark_fine : mark_error (Some order) ≡ None = rw (le-ltb 29 order.value small) refl in
    let element_without_error : item_error k (length text - length front) (Some item) ≡ None = rw (lt-ltb _ _ within, le-ltb cell.value cell.value (omega arith)) refl in
    let read = progress_word text front set.empty None None numbers after a k k (λ j e. absurd cc) p (scanned_word (length text) front numbers after p.within some first scanned) mark_fine refl refl element_without_error refl in
    let all = subst (λ (r : List ℕ). Progress text r a k k) none (skip a k k read) in
    subst (λ (b : NumberSet). Represents text b k) (empty-union _ ∙ spans-one order.value cell.value) (represents_at_end text a k k all)
