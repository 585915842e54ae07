-- The word extends to both sides of its position.
use Rattle.std.proofs.Common.{◌≡◌, ◌∙◌, ◌+◌, ◌-◌, ℕ, List, ap, arith, drop, length, take}
use Rattle.std.specs.Prelude.{min}
use Rattle.std.specs.List.{after_last, position_or_len}
use Rattle.moc_text.specs.Ascii.{is_separator}
use Rattle.moc_forms.proofs.Ends.{split_at_last}
use Rattle.moc_forms.proofs.quoting.word_around_place.Goals as goal

pub returns : goal.returns
returns c =
    let text = c.args.text.now in
    let k : ℕ = c.last_word_len.result in
    let j : ℕ = c.first_word_len.result in
    let least : c.min.result ≡ min c.args.at (length text) = omega arith in
    ap (λ m. take (m + j - (m - k)) (drop (m - k) text)) c.split_at.ensures.front_len
    ∙ split_at_last is_separator text c.args.at c.min.result k j least
    (c.last_word_len.ensures.count ∙ ap (λ (l : List ℕ). length (after_last is_separator l)) c.split_at.ensures.front)
    (c.first_word_len.ensures.count ∙ ap (position_or_len is_separator) c.split_at.ensures.back)
