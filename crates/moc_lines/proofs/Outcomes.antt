-- Facts about results.
use Rattle.std.proofs.Common.{◌≡◌, Result, Ok, Err, Bool, true, false, refl, sym, subst}
use Rattle.std.specs.Bool.{IsTrue}
use Rattle.std.specs.Result.{is_err, OnOk, IsErrAnd}

-- what holds of a result that is Ok
pub at_ok : {T E P : Type 0} (r : Result T E) → is_err r ≡ false → OnOk r P → P
at_ok (Ok x) none p = p
at_ok (Err e) none p = cc

-- an error that is passed on as the result
pub error_passed_to_outcome : {T E : Type 0} (r : Result T E) (e : E) (Q : Result T E → Type 0) → IsErrAnd r (λ f. f ≡ e) → Q (Err e) → Q r
error_passed_to_outcome (Ok x) e Q same named = absurd same
error_passed_to_outcome {T} {E} (Err f) e Q same named = subst (λ (x : E). Q (Err x)) (sym same) named

-- a device that is marked only by a failure is not marked without one
pub mark_is_false : {P : Type 0} (mark : Bool) → (IsTrue mark → P) → (P → ⊥) → mark ≡ false
mark_is_false true fails none = absurd (none (fails refl))
mark_is_false false fails none = refl
