-- The first position that memchr returns, or the length if it returns none, is that of the byte.
use Rattle.std.proofs.Common.{sym, arith, eqb}
use Rattle.std.proofs.lemmas.List.Sums.{position_or_len_is}
use Rattle.moc_lines.proofs.LineLemmas.{not_true}
use Rattle.moc_lines.proofs.bytes.first_or_len.Goals as goal

pub returns-in-Some-clause-value : goal.returns-in-Some-clause-value
returns-in-Some-clause-value c =
    let found = c.in-Some.ensures in
    sym (position_or_len_is (λ b. eqb b c.args.byte) c.args.bytes.now c.in-Some.at 0 (omega arith)
    (λ k below. not_true _ (found.0.before k (omega arith) below))
    (λ _. found.1))

pub returns-in-None-clause-value : goal.returns-in-None-clause-value
returns-in-None-clause-value c =
    sym (position_or_len_is (λ b. eqb b c.args.byte) c.args.bytes.now _ 0 (omega arith)
    (λ k below. not_true _ (c.in-None.ensures k (omega arith) below))
    (λ past. absurd (omega arith)))
