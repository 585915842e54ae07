-- Each read appends bytes, until there are none.
use Rattle.std.proofs.Common.{◌≡◌, ◌∙◌, ◌≤◌, ◌||◌, Bool, true, false, ℕ, List, ◌++◌, length, take, drop, Vec, Global, Result, Ok, Err, IfErr, IsTrue, ◌↔◌, refl, sym, ap, subst, arith, length-take, length-append, length-drop, append-nil}
use Rattle.std.specs.Result.{IsErrOf}
use Rattle.moc_devices.specs.Devices.{Delivers}
use Rattle.moc_devices.specs.Lemmas.{Delivers-nil}
use Rattle.std.proofs.lemmas.List.{take-append-le, take-take}
use Rattle.std.proofs.lemmas.Bool.{false≢true}
use Rattle.moc_lines.specs.declared.run_error.RunError.{RunError}
use Rattle.moc_lines.specs.declared.run_error.RunError.TheVariants.{Read}
use Rattle.moc_lines.specs.Runs.{FailsOn}
use Rattle.moc_lines.proofs.Outcomes.{error_passed_to_outcome}
use Rattle.moc_lines.proofs.WholeReading.{script_new, script_short, delivers_more, delivers_all}
use Rattle.moc_lines.proofs.reading.read_all.Goals as goal

or_false : (new old : Bool) → new ≡ old || false → new ≡ old
or_false new true e = e
or_false new false e = e

equal_errors : {T : Type 0} (a b : RunError) → IsErrOf {T = T} (Err a) b → a ≡ b
equal_errors a b is = cc

not_both : {T : Type 0} (value : T) (e : RunError) → IsErrOf (Ok value) e → ⊥
not_both value e is = cc

or_true : (new old : Bool) → new ≡ old || true → new ≡ true
or_true new true e = e
or_true new false e = e

-- the front of a buffer that a slice was read into
take_written : (len count : ℕ) (buffer items : List ℕ) → count ≤ length buffer → length buffer ≤ len → take count (take len (buffer ++ drop (length buffer) items)) ≡ take count buffer
take_written len count buffer items few within =
    take-take count len (buffer ++ drop (length buffer) items) (omega arith) ∙ take-append-le count buffer (drop (length buffer) items) few

pub loop-script-init : goal.loop-script-init
loop-script-init g c = record {
  held = script_new c.new-script.result.bytes.items c.new-script.result.start c.new-script.ensures.0 c.new-script.ensures.1;
  given = subst (Delivers (g.R.Source.reading c.args.reader.now) (g.R.Source.reading c.args.reader.now)) (sym c.new-script.ensures.0) (Delivers-nil (g.R.Source.reading c.args.reader.now));
  reader = c.requires.reader;
  long = omega (arith, c.in-Ok.ensures.len, c.in-Ok.chunk.ok);
}

pub returns-in-Ok-eq0 : goal.returns-in-Ok-eq0
returns-in-Ok-eq0 g c =
    let was = c.loop-script.invariant in
    let none : g.R.Source.mark c.read.new.self ≡ false = or_false _ _ c.in-Ok-eq0.ensures.marks ∙ was.reader in
    record {
      all = (
        delivers_all _ _ _ c.loop-script.script.bytes.items c.read.new.buffer c.in-Ok-eq0.field-0 was.given c.in-Ok-eq0.ensures.bytes.0 c.in-Ok-eq0.field-0-test,
        c.in-Ok-eq0.ensures.bytes.1 c.in-Ok-eq0.field-0-test (omega (arith, was.long, c.deref_mut.ensures.len, c.read.auto.buffer, c.loop-script.chunk.ok)),
        script_short c.loop-script.script.bytes.items c.loop-script.script.start was.held,
      );
      fails = tt;
      read = (λ e. absurd (not_both _ _ e), λ is. absurd (false≢true (sym none ∙ is)));
    }

pub returns-in-Err : goal.returns-in-Err
returns-in-Err g c = record {
  all = tt;
  fails = (c.loop-script.script.bytes.items, delivers_more _ _ _ _ _ _ c.loop-script.invariant.given c.in-Err.ensures.bytes (sym (append-nil _)), tt);
  read = (λ _. or_true _ _ c.in-Err.ensures.marks, λ _. refl);
}

pub loop-script-preserved : goal.loop-script-preserved
loop-script-preserved g c =
    let was = c.loop-script.invariant in
    let buffer = c.read.new.buffer in
    let count : ℕ = c.in-Ok-read.count in
    let within : length buffer ≤ c.loop-script.chunk.len = omega (arith, c.deref_mut.ensures.len, c.read.auto.buffer) in
    let came : take count c.deref.result.now ≡ take count buffer = ap (take count) c.deref.ensures.value ∙ take_written c.loop-script.chunk.len count buffer c.loop-script.chunk.items c.in-Ok-read.ensures.count within in
    record {
      held = c.in_ok-add-in-Ok-read.ensures.held;
      given = delivers_more _ _ _ c.loop-script.script.bytes.items (take count buffer) c.add.new.self.bytes.items was.given c.in-Ok-read.ensures.bytes.0
          (c.in_ok-add-in-Ok-read.ensures.bytes ∙ ap (λ l. c.loop-script.script.bytes.items ++ l) came);
      reader = or_false _ _ c.in-Ok-read.ensures.marks ∙ was.reader;
      long = simp (length-take, length-append, length-drop) (omega (arith, was.long, c.loop-script.chunk.ok, within));
    }

pub returns-in_err-add-in-Ok-read-clause-fails : goal.returns-in_err-add-in-Ok-read-clause-fails
returns-in_err-add-in-Ok-read-clause-fails g c =
    let was = c.loop-script.invariant in
    let buffer = c.read.new.buffer in
    let count : ℕ = c.in-Ok-read.count in
    let within : length buffer ≤ c.loop-script.chunk.len = omega (arith, c.deref_mut.ensures.len, c.read.auto.buffer) in
    let came : take count c.deref.result.now ≡ take count buffer = ap (take count) c.deref.ensures.value ∙ take_written c.loop-script.chunk.len count buffer c.loop-script.chunk.items c.in-Ok-read.ensures.count within in
    error_passed_to_outcome c.from_residual.result c.in_err-add-in-Ok-read.field-0.0 (λ (r : Result (Vec ℕ Global) RunError). IfErr r (λ e.
    (given : List ℕ) × Delivers (g.R.Source.reading c.args.reader.now) (g.R.Source.reading c.read.new.self) given × FailsOn given e)) c.from_residual.ensures.1 (
      c.loop-script.script.bytes.items ++ take count c.deref.result.now,
      delivers_more _ _ _ c.loop-script.script.bytes.items (take count buffer) (c.loop-script.script.bytes.items ++ take count c.deref.result.now) was.given c.in-Ok-read.ensures.bytes.0
          (ap (λ l. c.loop-script.script.bytes.items ++ l) came),
      c.in_err-add-in-Ok-read.ensures.fails,
    )

pub returns-in_err-add-in-Ok-read-clause-read : goal.returns-in_err-add-in-Ok-read-clause-read
returns-in_err-add-in-Ok-read-clause-read g c =
    let none : g.R.Source.mark c.read.new.self ≡ false = or_false _ _ c.in-Ok-read.ensures.marks ∙ c.loop-script.invariant.reader in
    error_passed_to_outcome c.from_residual.result c.in_err-add-in-Ok-read.field-0.0 (λ (r : Result (Vec ℕ Global) RunError). IsErrOf r Read ↔ IsTrue (g.R.Source.mark c.read.new.self)) c.from_residual.ensures.1
    (λ e. absurd (c.in_err-add-in-Ok-read.ensures.read (ap Err (equal_errors _ _ e))), λ is. absurd (false≢true (sym none ∙ is)))
