use Rattle.std.proofs.Common.{◌≡◌, ◌∙◌, ap, arith, length, min, take}
use Rattle.std.proofs.lemmas.Grind.{common_steps}
use Rattle.std.proofs.lemmas.List.{take_min}
use Rattle.moc_forms.specs.Quotes.{bytes_quoted}
use Rattle.moc_forms.proofs.quoting.push_quoted.Goals as goal

pub returns : goal.returns
returns c =
    let bytes = c.args.bytes.now in
    let least : c.min.result ≡ min 40 (length bytes) = omega arith in
    let shown : bytes_quoted (take c.min.result bytes) ≡ bytes_quoted (take 40 bytes) = ap bytes_quoted (ap (λ n. take n bytes) least ∙ take_min 40 bytes) in
    grind (arith, common_steps, shown)
