-- Texts that several calls of a sink write.
use Rattle.std.proofs.Common.{◌≡◌, ◌∙◌, ℕ, Bool, List, [], ◌++◌, Option, None, Some, Result, Ok, Err, refl, sym, ap, subst, append_assoc}
use Rattle.std.proofs.lemmas.Result.{on_ok_weaker}
use Rattle.std.specs.Option.{option_map_or}
use Rattle.std.specs.Prelude.{IsErr, OnOk, is_err}
use Rattle.moc_devices.specs.Devices.{SinkState, Accepts, OnlyWrites, Sends}
use Rattle.moc_devices.specs.Lemmas.{Accepts-nil, Accepts-trans}
use Rattle.moc_conversion.specs.Errors.{WritesText}

not_ok : {E : Type 0} (result : Result (Unit {0}) E) (P : Type 0) → IsErr result → OnOk result P
not_ok (Ok u) P err = absurd cc
not_ok (Err e) P err = tt

-- one call of `write_all`
pub writes_all : {S E : Type 0} (writing : S → SinkState) (mark flushed : S → Bool) (flushes : S → Option ℕ) (text : List ℕ) (a b : S) (result : Result (Unit {0}) E)
    → OnOk result (Accepts (writing a) (writing b) text) → Sends text (writing a) [] (writing b) result → OnlyWrites mark flushed flushes a b (is_err result)
    → WritesText writing mark text a b result
writes_all writing mark flushed flushes text a b result written sends writes = record { written = written; sends = sends; marks = writes.marks }

module _ {S : Type 0} (writing : S → SinkState) (mark : S → Bool) where
  -- no call
  pub writes_none : {E : Type 0} (a : S) → WritesText {E = E} writing mark [] a a (Ok tt)
  writes_none a = record {
    written = Accepts-nil (writing a);
    sends = record { sent = []; rest = []; parts = refl; appended = Accepts-nil (writing a); pending = refl };
    marks = λ unmarked. unmarked;
  }

  -- another form of the text
  pub writes_as : {E : Type 0} (text other : List ℕ) (a b : S) (result : Result (Unit {0}) E) → text ≡ other → WritesText writing mark text a b result
      → WritesText writing mark other a b result
  writes_as text other a b result same writes = subst (λ t. WritesText writing mark t a b result) same writes

  -- a text was written, and the next one as the result states
  pub writes_next : {E F : Type 0} (first second : List ℕ) (a b c : S) (u : Unit {0}) (result : Result (Unit {0}) F) → WritesText {E = E} writing mark first a b (Ok u)
      → WritesText writing mark second b c result → WritesText writing mark (first ++ second) a c result
  writes_next first second a b c u result before writes = record {
    written = on_ok_weaker result (λ written. Accepts-trans (writing a) (writing b) (writing c) first second before.written written) writes.written;
    sends = record {
      sent = first ++ writes.sends.sent;
      rest = writes.sends.rest;
      parts = ap (λ l. first ++ l) writes.sends.parts ∙ sym (append_assoc first writes.sends.sent writes.sends.rest);
      appended = Accepts-trans (writing a) (writing b) (writing c) first writes.sends.sent before.written writes.sends.appended;
      pending = writes.sends.pending;
    };
    marks = λ unmarked. writes.marks (before.marks unmarked);
  }

  -- a text was not written whole, and nothing after it
  pub writes_first : {E F : Type 0} (first second : List ℕ) (a b : S) (result : Result (Unit {0}) E) (failed : Result (Unit {0}) F) → WritesText writing mark first a b result → IsErr result
      → IsErr failed → WritesText writing mark (first ++ second) a b failed
  writes_first first second a b result failed writes is_err err = record {
    written = not_ok failed _ err;
    sends = record {
      sent = writes.sends.sent;
      rest = writes.sends.rest ++ second;
      parts = ap (λ l. l ++ second) writes.sends.parts ∙ append_assoc writes.sends.sent writes.sends.rest second;
      appended = writes.sends.appended;
      pending = not_ok failed _ err;
    };
    marks = λ unmarked. writes.marks unmarked ∙ is_err ∙ sym err;
  }

  -- after a text that was written: the text of an optional value
  module _ {T E : Type 0} (text_of : T → List ℕ) (first : List ℕ) (o : Option T) (a b : S) (u : Unit {0}) (before : WritesText {E = E} writing mark first a b (Ok u)) where
    pub writes_some : {F : Type 0} (t : T) (c : S) (result : Result (Unit {0}) F) → o ≡ Some t → WritesText writing mark (text_of t) b c result
        → WritesText writing mark (first ++ option_map_or text_of o []) a c result
    writes_some t c result is writes = rw is (writes_next first (text_of t) a b c u result before writes)

    pub writes_no_more : {F : Type 0} → o ≡ None → WritesText {E = F} writing mark (first ++ option_map_or text_of o []) a b (Ok tt)
    writes_no_more is = rw is (writes_next first [] a b b u (Ok tt) before (writes_none b))
