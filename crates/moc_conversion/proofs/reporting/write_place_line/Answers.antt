-- The position with the quote, then the line feed.
use Rattle.std.proofs.Common.{◌++◌, codes, refl}
use Rattle.std.proofs.Common.{ℕ, List}
use Rattle.std.specs.Prelude.{option_map}
use Rattle.std.specs.Borrow.{Bor}
use Rattle.moc_forms.specs.Places.{place_text, quote_after}
use Rattle.moc_conversion.proofs.Sending.{writes_all, writes_first, writes_next}
use Rattle.moc_conversion.proofs.reporting.write_place_line.Goals as goal

pub returns-in_err-write_quoted_place : goal.returns-in_err-write_quoted_place
returns-in_err-write_quoted_place g c =
    writes_first _ _ (place_text c.args.place ++ quote_after (option_map (λ (q : Bor (List ℕ)). q.now) c.args.quote)) (codes "\n") _ _ _ _
    c.in_err-write_quoted_place.ensures refl c.from_residual.ensures.0

pub returns : goal.returns
returns g c =
    writes_next _ _ (place_text c.args.place ++ quote_after (option_map (λ (q : Bor (List ℕ)). q.now) c.args.quote)) (codes "\n") _ _ _ _ _
    c.in_ok-write_quoted_place.ensures (writes_all _ _ _ _ _ _ _ c.write_all.result c.write_all.ensures.written c.write_all.ensures.sends c.write_all.ensures.writes)
