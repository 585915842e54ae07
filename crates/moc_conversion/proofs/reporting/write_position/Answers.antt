-- The number of the text, then the position.
use Rattle.std.proofs.Common.{ℕ, List, ◌++◌, Ok, Err, codes, decimal, refl}
use Rattle.std.specs.Prelude.{option_map}
use Rattle.std.specs.Borrow.{Bor}
use Rattle.moc_forms.specs.Places.{place_text, quote_after}
use Rattle.moc_conversion.proofs.Sending.{writes_all, writes_first, writes_next, writes_none}
use Rattle.moc_conversion.proofs.reporting.write_position.Goals as goal

-- the number of a text
abbrev number_text : ℕ → List ℕ
number_text number = codes "text " ++ decimal number

pub returns-in-None-None : goal.returns-in-None-None
returns-in-None-None g c = rw (c.in-None-None.is-0, c.in-None-None.is-1) (writes_none _ _ _)

pub returns-in_err-write_number-in-Some-None : goal.returns-in_err-write_number-in-Some-None
returns-in_err-write_number-in-Some-None g c =
    rw (c.in-Some-None.is-0, c.in-Some-None.is-1) (writes_first _ _ (number_text c.in-Some-None.number) (codes "\n") _ _ _ _ c.in_err-write_number-in-Some-None.ensures
    refl c.from_residual.ensures.0)

pub returns-in_ok-write_number-in-Some-None : goal.returns-in_ok-write_number-in-Some-None
returns-in_ok-write_number-in-Some-None g c =
    rw (c.in-Some-None.is-0, c.in-Some-None.is-1) (writes_next _ _ (number_text c.in-Some-None.number) (codes "\n") _ _ _ _ _ c.in_ok-write_number-in-Some-None.ensures
    (writes_all _ _ _ _ _ _ _ c.write_all.result c.write_all.ensures.written c.write_all.ensures.sends c.write_all.ensures.writes))

pub returns-in_err-write_number-in-Some-Some : goal.returns-in_err-write_number-in-Some-Some
returns-in_err-write_number-in-Some-Some g c =
    let number = number_text c.in-Some-Some.number in
    let following = place_text c.in-Some-Some.place ++ quote_after (option_map (λ (q : Bor (List ℕ)). q.now) c.args.quote) ++ codes "\n" in
    let err = c.from_residual-in_err-write_number-in-Some-Some.ensures.0 in
    rw (c.in-Some-Some.is-0, c.in-Some-Some.is-1) (writes_first _ _ (number ++ codes ", ") following _ _ _ _
    (writes_first _ _ number (codes ", ") _ _ _ _ c.in_err-write_number-in-Some-Some.ensures refl err) err err)

pub returns-in_err-write_all-in-Some-Some : goal.returns-in_err-write_all-in-Some-Some
returns-in_err-write_all-in-Some-Some g c =
    let number = number_text c.in-Some-Some.number in
    let following = place_text c.in-Some-Some.place ++ quote_after (option_map (λ (q : Bor (List ℕ)). q.now) c.args.quote) ++ codes "\n" in
    rw (c.in-Some-Some.is-0, c.in-Some-Some.is-1) (writes_first _ _ (number ++ codes ", ") following _ _ _ _
    (writes_next _ _ number (codes ", ") _ _ _ _ _ c.in_ok-write_number-in-Some-Some.ensures (writes_all _ _ _ _ _ _ _ (Err _) tt c.in_err-write_all-in-Some-Some.ensures.sends c.in_err-write_all-in-Some-Some.ensures.writes))
    refl c.from_residual-in_err-write_all-in-Some-Some.ensures.0)

pub returns-in_ok-write_all-in-Some-Some : goal.returns-in_ok-write_all-in-Some-Some
returns-in_ok-write_all-in-Some-Some g c =
    let number = number_text c.in-Some-Some.number in
    let following = place_text c.in-Some-Some.place ++ quote_after (option_map (λ (q : Bor (List ℕ)). q.now) c.args.quote) ++ codes "\n" in
    rw (c.in-Some-Some.is-0, c.in-Some-Some.is-1) (writes_next _ _ (number ++ codes ", ") following _ _ _ _ _
    (writes_next _ _ number (codes ", ") _ _ _ _ (Ok tt) c.in_ok-write_number-in-Some-Some.ensures (writes_all _ _ _ _ _ _ _ (Ok tt) c.in_ok-write_all-in-Some-Some.ensures.written c.in_ok-write_all-in-Some-Some.ensures.sends c.in_ok-write_all-in-Some-Some.ensures.writes))
    c.write_place_line-in-Some-Some.ensures)
