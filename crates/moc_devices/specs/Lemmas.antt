-- Lemmas on deliveries, writes and flushes, for the proofs of callers.
use Rattle.std.proofs.Common.{◌≡◌, Bool, false, ℕ, List, [], ◌++◌, Option, Some, None, Ok, refl, sym, ap, ◌∙◌, arith}
use Rattle.std.proofs.Common.{append-nil, subst}
use Rattle.std.proofs.Common.{append_assoc}
use Rattle.std.proofs.KnownBytes.{Appends-nil, Appends-trans, Appends-kept, Consumes-nil, Consumes-trans, Keeps-refl}
use Rattle.moc_devices.specs.Devices.{SourceState, Delivers, SinkState, Accepts, AcceptsNone}
use Rattle.moc_devices.specs.Devices.{CallsMore, FlushesNothing, OnlyWrites, Sends}

-- nothing is delivered yet
pub Delivers-nil : (a : SourceState) → Delivers a a []
Delivers-nil a = record { delivered = sym (append-nil a.delivered); consumed = Consumes-nil a.left }

-- more is delivered
pub Delivers-trans : (a b c : SourceState) (bytes more : List ℕ) → Delivers a b bytes → Delivers b c more
    → Delivers a c (bytes ++ more)
Delivers-trans a b c bytes more first later = record {
  delivered = later.delivered ∙ ap (λ l. l ++ more) first.delivered ∙ append_assoc a.delivered bytes more;
  consumed = Consumes-trans a.left b.left c.left bytes more first.consumed later.consumed;
}

-- nothing is accepted yet
pub Accepts-nil : (a : SinkState) → Accepts a a []
Accepts-nil a = record { accepted = sym (append-nil a.accepted); appended = Appends-nil a.written }

-- more is accepted
pub Accepts-trans : (a b c : SinkState) (bytes more : List ℕ) → Accepts a b bytes → Accepts b c more
    → Accepts a c (bytes ++ more)
Accepts-trans a b c bytes more first later = record {
  accepted = later.accepted ∙ ap (λ l. l ++ more) first.accepted ∙ append_assoc a.accepted bytes more;
  appended = Appends-trans a.written b.written c.written bytes more first.appended later.appended;
}

-- nothing more is accepted
pub Accepts-kept : (a b c : SinkState) (bytes : List ℕ) → Accepts a b bytes → AcceptsNone b c → Accepts a c bytes
Accepts-kept a b c bytes first later = record {
  accepted = later.accepted ∙ first.accepted;
  appended = Appends-kept a.written b.written c.written bytes first.appended later.kept;
}

-- a sink that was not called
pub AcceptsNone-refl : (a : SinkState) → AcceptsNone a a
AcceptsNone-refl a = record { accepted = refl; kept = Keeps-refl a.written }

-- no more calls
pub CallsMore-none : (a : Option ℕ) → CallsMore a a 0
CallsMore-none None = tt
CallsMore-none (Some n) = omega arith

-- calls after no calls
pub CallsMore-later : (a b c : Option ℕ) (count : ℕ) → CallsMore a b 0 → CallsMore b c count → CallsMore a c count
CallsMore-later a b None count first later = tt
CallsMore-later a None (Some k) count first later = absurd later
CallsMore-later None (Some m) (Some k) count first later = absurd first
CallsMore-later (Some n) (Some m) (Some k) count first later = omega (arith, first, later)

-- nothing happened
pub FlushesNothing-none : {S : Type 0} {flushed : S → Bool} {flushes : S → Option ℕ} (a : S)
    → FlushesNothing flushed flushes a a
FlushesNothing-none {flushes = flushes} a = record { kept = λ is. is; none = CallsMore-none (flushes a) }

-- nothing happened twice
pub FlushesNothing-later : {S : Type 0} {flushed : S → Bool} {flushes : S → Option ℕ} {a b c : S}
    → FlushesNothing flushed flushes a b → FlushesNothing flushed flushes b c → FlushesNothing flushed flushes a c
FlushesNothing-later {flushes = flushes} {a = a} {b = b} {c = c} first later = record {
  kept = λ is. first.kept (later.kept is);
  none = CallsMore-later (flushes a) (flushes b) (flushes c) 0 first.none later.none;
}

-- nothing is written yet
pub OnlyWrites-none : {S : Type 0} {mark flushed : S → Bool} {flushes : S → Option ℕ} (a : S)
    → OnlyWrites mark flushed flushes a a false
OnlyWrites-none a = record { marks = λ free. free; unflushed = FlushesNothing-none a }

-- more is written, and that may fail
pub OnlyWrites-later : {S : Type 0} {mark flushed : S → Bool} {flushes : S → Option ℕ} {a b c : S} {failed : Bool}
    → OnlyWrites mark flushed flushes a b false → OnlyWrites mark flushed flushes b c failed
    → OnlyWrites mark flushed flushes a c failed
OnlyWrites-later first later = record {
  marks = λ free. later.marks (first.marks free);
  unflushed = FlushesNothing-later first.unflushed later.unflushed;
}

-- nothing is left
pub Sends-all : {E : Type 0} (bytes rest : List ℕ) (a b : SinkState) → Sends {E = E} bytes a rest b (Ok tt)
    → rest ≡ [] → Accepts a b bytes
Sends-all bytes rest a b sends none =
    let all : bytes ≡ sends.sent =
    sends.parts ∙ ap (λ l. sends.sent ++ l) (sym sends.pending ∙ none) ∙ append-nil sends.sent in
    subst (Accepts a b) (sym all) sends.appended
