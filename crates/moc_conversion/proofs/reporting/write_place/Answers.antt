-- The parts of a position with several numbers.
use Rattle.std.proofs.Common.{◌∙◌, ℕ, List, ◌++◌, Ok, ap, codes, decimal, refl}
use Rattle.moc_conversion.proofs.Sending.{writes_all, writes_as, writes_first, writes_next}
use Rattle.moc_conversion.proofs.reporting.write_place.Goals as goal

-- a label and a number
abbrev count_text : List ℕ → ℕ → List ℕ
count_text label number = label ++ decimal number

pub returns-in_err-write_number-in-Byte : goal.returns-in_err-write_number-in-Byte
returns-in_err-write_number-in-Byte g c =
    let at = count_text (codes "byte ") c.in-Byte.at in
    let line = count_text (codes ", line ") c.in-Byte.line in
    let column = count_text (codes ", byte ") c.in-Byte.column in
    let err = c.from_residual.ensures.0 in
    rw c.in-Byte.is (writes_first _ _ (at ++ line ++ column) (codes " of it") _ _ _ _ (writes_first _ _ (at ++ line) column _ _ _ _
    (writes_first _ _ at line _ _ _ _ c.in_err-write_number-in-Byte.ensures refl err) err err) err err)

pub returns-in_err-write_number-in-Byte-2 : goal.returns-in_err-write_number-in-Byte-2
returns-in_err-write_number-in-Byte-2 g c =
    let at = count_text (codes "byte ") c.in-Byte.at in
    let line = count_text (codes ", line ") c.in-Byte.line in
    let column = count_text (codes ", byte ") c.in-Byte.column in
    let err = c.from_residual-in_err-write_number-in-Byte-2.ensures.0 in
    rw c.in-Byte.is (writes_first _ _ (at ++ line ++ column) (codes " of it") _ _ _ _ (writes_first _ _ (at ++ line) column _ _ _ _
    (writes_next _ _ at line _ _ _ _ _ c.in_ok-write_number-in-Byte.ensures c.in_err-write_number-in-Byte-2.ensures) refl err) err err)

pub returns-in_err-write_number-in-Byte-3 : goal.returns-in_err-write_number-in-Byte-3
returns-in_err-write_number-in-Byte-3 g c =
    let at = count_text (codes "byte ") c.in-Byte.at in
    let line = count_text (codes ", line ") c.in-Byte.line in
    let column = count_text (codes ", byte ") c.in-Byte.column in
    let err = c.from_residual-in_err-write_number-in-Byte-3.ensures.0 in
    rw c.in-Byte.is (writes_first _ _ (at ++ line ++ column) (codes " of it") _ _ _ _ (writes_next _ _ (at ++ line) column _ _ _ _ _
    (writes_next _ _ at line _ _ _ _ (Ok tt) c.in_ok-write_number-in-Byte.ensures c.in_ok-write_number-in-Byte-2.ensures) c.in_err-write_number-in-Byte-3.ensures) refl err)

pub returns-in_ok-write_number-in-Byte-3 : goal.returns-in_ok-write_number-in-Byte-3
returns-in_ok-write_number-in-Byte-3 g c =
    let at = count_text (codes "byte ") c.in-Byte.at in
    let line = count_text (codes ", line ") c.in-Byte.line in
    let column = count_text (codes ", byte ") c.in-Byte.column in
    rw c.in-Byte.is (writes_next _ _ (at ++ line ++ column) (codes " of it") _ _ _ _ _ (writes_next _ _ (at ++ line) column _ _ _ _ (Ok tt)
    (writes_next _ _ at line _ _ _ _ (Ok tt) c.in_ok-write_number-in-Byte.ensures c.in_ok-write_number-in-Byte-2.ensures) c.in_ok-write_number-in-Byte-3.ensures)
    (writes_all _ _ _ _ _ _ _ c.write_all.result c.write_all.ensures.written c.write_all.ensures.sends c.write_all.ensures.writes))

pub returns-in_err-write_number-in-JsonSyntax : goal.returns-in_err-write_number-in-JsonSyntax
returns-in_err-write_number-in-JsonSyntax g c =
    rw c.in-JsonSyntax.is (writes_first _ _ (count_text (codes "line ") c.in-JsonSyntax.line) (count_text (codes ", column ") c.in-JsonSyntax.column) _ _ _ _
    c.in_err-write_number-in-JsonSyntax.ensures refl c.from_residual-in_err-write_number-in-JsonSyntax.ensures.0)

pub returns-in_ok-write_number-in-JsonSyntax : goal.returns-in_ok-write_number-in-JsonSyntax
returns-in_ok-write_number-in-JsonSyntax g c =
    rw c.in-JsonSyntax.is (writes_next _ _ (count_text (codes "line ") c.in-JsonSyntax.line) (count_text (codes ", column ") c.in-JsonSyntax.column) _ _ _ _ _
    c.in_ok-write_number-in-JsonSyntax.ensures c.write_number-in-JsonSyntax-2.ensures)

pub returns-in_err-write_number-in-Number : goal.returns-in_err-write_number-in-Number
returns-in_err-write_number-in-Number g c =
    rw c.in-Number.is (writes_first _ _ (count_text (codes "order ") c.in-Number.order) (count_text (codes ", number ") c.in-Number.number) _ _ _ _
    (writes_as _ _ _ _ _ _ _ (ap (λ (n : ℕ). count_text (codes "order ") n) (c.from-in-Number.ensures ∙ c.get-in-Number.ensures.value)) c.in_err-write_number-in-Number.ensures) refl
    c.from_residual-in_err-write_number-in-Number.ensures.0)

pub returns-in_ok-write_number-in-Number : goal.returns-in_ok-write_number-in-Number
returns-in_ok-write_number-in-Number g c =
    rw c.in-Number.is (writes_next _ _ (count_text (codes "order ") c.in-Number.order) (count_text (codes ", number ") c.in-Number.number) _ _ _ _ _
    (writes_as _ _ _ _ _ _ _ (ap (λ (n : ℕ). count_text (codes "order ") n) (c.from-in-Number.ensures ∙ c.get-in-Number.ensures.value)) c.in_ok-write_number-in-Number.ensures) c.write_number-in-Number-2.ensures)
