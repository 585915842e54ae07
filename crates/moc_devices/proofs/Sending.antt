-- Bytes that are written in several calls.
use Rattle.std.proofs.Common.{ℕ, List, [], ◌++◌, take, drop, Ok, refl, sym, ap, ◌∙◌, append_assoc}
use Rattle.std.proofs.lemmas.List.{take-append-drop}
use Rattle.moc_devices.specs.Devices.{SinkState, Accepts, Sends}
use Rattle.moc_devices.specs.Lemmas.{Accepts-nil, Accepts-trans}

-- nothing is sent yet
pub Sends-start : {E : Type 0} (bytes : List ℕ) (a : SinkState) → Sends {E = E} bytes a bytes a (Ok tt)
Sends-start bytes a = record { sent = []; rest = bytes; parts = refl; appended = Accepts-nil a; pending = refl }

-- a write took n more bytes
pub Sends-more : {E : Type 0} (bytes rest : List ℕ) (a b c : SinkState) (n : ℕ) → Sends {E = E} bytes a rest b (Ok tt) → Accepts b c (take n rest) → Sends {E = E} bytes a (drop n rest) c (Ok tt)
Sends-more bytes rest a b c n sends more = record {
  sent = sends.sent ++ take n rest;
  rest = drop n rest;
  parts = sends.parts ∙ ap (λ l. sends.sent ++ l) (sym sends.pending ∙ sym (take-append-drop n rest)) ∙ sym (append_assoc sends.sent (take n rest) (drop n rest));
  appended = Accepts-trans a b c sends.sent (take n rest) sends.appended more;
  pending = refl;
}
