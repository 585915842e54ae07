use Rattle.std.proofs.Common.{sym, subst, List, ℕ}
use Rattle.std.specs.Str.{IsAscii}
use Rattle.std.proofs.lemmas.Fmt.{IsAscii-decimal}
use Rattle.std.proofs.lemmas.Str.{IsAscii-append}
use Rattle.std.proofs.lemmas.Str.Ascii.{IsAscii-cons}
use Rattle.moc_text.proofs.text_writer.TextWriter.push_number.Goals as goal

pub invariant_of-self-2 : goal.invariant_of-self-2
invariant_of-self-2 g c =
    let w = c.write_number-self-inside in
    let ascii = IsAscii-append _ _ c.in_ok-len.ensures.ascii (IsAscii-cons c.args.before _ c.requires (IsAscii-decimal c.args.number c.ranges.number.fits)) in
    (w.array_long, w.ensures.within, subst (λ (l : List ℕ). IsAscii l) (sym w.ensures.written) ascii)
