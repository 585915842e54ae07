-- The position, then the quote if there is one.
use Rattle.std.proofs.Common.{◌++◌, [], Ok, Err, codes, refl}
use Rattle.moc_forms.specs.Places.{place_text}
use Rattle.moc_conversion.proofs.Sending.{writes_all, writes_as, writes_first, writes_next, writes_none}
use Rattle.moc_conversion.proofs.reporting.write_quoted_place.Goals as goal

pub returns-in_err-write_place : goal.returns-in_err-write_place
returns-in_err-write_place g c = writes_first _ _ (place_text c.args.place) _ _ _ _ _ c.in_err-write_place.ensures refl c.from_residual.ensures.0

pub returns-in_err-write_all-in-Some : goal.returns-in_err-write_all-in-Some
returns-in_err-write_all-in-Some g c =
    rw c.in-Some.is (writes_next _ _ (place_text c.args.place) (codes ": " ++ c.in-Some.quote.now) _ _ _ _ _ c.in_ok-write_place.ensures
    (writes_first _ _ (codes ": ") c.in-Some.quote.now _ _ _ _ (writes_all _ _ _ _ _ _ _ (Err _) tt c.in_err-write_all-in-Some.ensures.sends c.in_err-write_all-in-Some.ensures.writes) refl c.from_residual-in_err-write_all-in-Some.ensures.0))

pub returns-in_ok-write_all-in-Some : goal.returns-in_ok-write_all-in-Some
returns-in_ok-write_all-in-Some g c =
    rw c.in-Some.is (writes_next _ _ (place_text c.args.place) (codes ": " ++ c.in-Some.quote.now) _ _ _ _ _ c.in_ok-write_place.ensures
    (writes_next _ _ (codes ": ") c.in-Some.quote.now _ _ _ _ _ (writes_all _ _ _ _ _ _ _ (Ok tt) c.in_ok-write_all-in-Some.ensures.written c.in_ok-write_all-in-Some.ensures.sends c.in_ok-write_all-in-Some.ensures.writes)
    (writes_as _ _ _ _ _ _ _ c.as_bytes.ensures.value (writes_all _ _ _ _ _ _ _ c.write_all-in-Some.result c.write_all-in-Some.ensures.written c.write_all-in-Some.ensures.sends c.write_all-in-Some.ensures.writes))))

pub returns-in-None : goal.returns-in-None
returns-in-None g c = rw c.in-None.is (writes_next _ _ (place_text c.args.place) [] _ _ _ _ _ c.in_ok-write_place.ensures (writes_none _ _ _))
