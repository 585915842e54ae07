use Rattle.std.proofs.Common.{rules, ◌<◌, ◌^◌, length, arith}
use Rattle.std.proofs.lemmas.Result.{err_from_is_err_and}
use Rattle.moc_text.proofs.ReadWords.{represents_at_end}
use Rattle.moc_text.proofs.UniqueReading.{set_is_unique}
use Rattle.moc_text.proofs.Represented.{reading_is, error_is_reading, reading_matches_value}
use Rattle.moc_text.proofs.ascii.reading.read_any.Goals as goal

pub returns-in_err-read_words-clause-reported : goal.returns-in_err-read_words-clause-reported
returns-in_err-read_words-clause-reported c =
    let p = err_from_is_err_and c.from_residual.result c.from_residual.ensures.1 in
    let text = c.args.text.now in
    let fits : length text < 2 ^ 64 = search rules in
    rw (p.1, p.2) (error_is_reading text _ (c.in_err-read_words.ensures text (omega arith) fits (c.new-reading.ensures text)))

pub returns-in_err-read_words-clause-reading : goal.returns-in_err-read_words-clause-reading
returns-in_err-read_words-clause-reading c =
    let p = err_from_is_err_and c.from_residual.result c.from_residual.ensures.1 in
    let text = c.args.text.now in
    let fits : length text < 2 ^ 64 = search rules in
    reading_matches_value text _ (rw (p.1, p.2) (error_is_reading text _ (c.in_err-read_words.ensures text (omega arith) fits (c.new-reading.ensures text))))

pub returns-clause-reported : goal.returns-clause-reported
returns-clause-reported c =
    let text = c.args.text.now in
    let fits : length text < 2 ^ 64 = search rules in
    rw c.in_ok-set.ensures (reading_is text _ _ (represents_at_end text _ _ _ (c.in_ok-read_words.ensures text (omega arith) fits (c.new-reading.ensures text))))

pub returns-clause-reading : goal.returns-clause-reading
returns-clause-reading c = λ a k represents.
    let text = c.args.text.now in
    let fits : length text < 2 ^ 64 = search rules in
    rw c.in_ok-set.ensures (set_is_unique text _ a _ k (represents_at_end text _ _ _ (c.in_ok-read_words.ensures text (omega arith) fits (c.new-reading.ensures text))) represents)
