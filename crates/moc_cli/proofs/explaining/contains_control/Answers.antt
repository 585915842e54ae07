-- One more character.
use Rattle.std.proofs.Common.{sym, ◌∙◌, arith}
use Rattle.std.proofs.lemmas.Iterator.{YieldsList-from_chars}
use Rattle.std.proofs.lemmas.List.{length_push}
use Rattle.std.proofs.lemmas.Iterator.Consumers.{YieldsList-turn, YieldsList-end}
use Rattle.std.specs.Char.{is_control}
use Rattle.std.specs.Str.{chars}
use Rattle.moc_cli.proofs.Controls.{any_at, any_after, any_end}
use Rattle.moc_cli.proofs.explaining.contains_control.Goals as goal

pub returns-then-is_control : goal.returns-then-is_control
returns-then-is_control c =
    let t = YieldsList-turn (YieldsList-from_chars c.args.text.now c.utf8.text cc) c.loop-character.yielded _ c.loop-character.yielded_by _ _ c.in-Some.character c.in-Some.is c.next.ensures.steps in
    any_at is_control (chars c.args.text.now) _ _ t.0 t.1 (sym c.is_control.ensures ∙ c.if-is_control.true) c.loop-character.invariant

pub loop-character-preserved : goal.loop-character-preserved
loop-character-preserved c =
    let t = YieldsList-turn (YieldsList-from_chars c.args.text.now c.utf8.text cc) c.loop-character.yielded _ c.loop-character.yielded_by _ _ c.in-Some.character c.in-Some.is c.next.ensures.steps in
    rw (length_push c.loop-character.yielded c.in-Some.character) (any_after is_control (chars c.args.text.now) _ _ t.0 t.1 (sym c.is_control.ensures ∙ c.if-is_control.false) c.loop-character.invariant)

pub returns : goal.returns
returns c =
    let t = YieldsList-end (YieldsList-from_chars c.args.text.now c.utf8.text cc) c.loop-character.yielded _ c.loop-character.yielded_by _ _ c.in-None.is c.next.ensures.steps in
    any_end is_control (chars c.args.text.now) _ (omega (arith, t.1)) c.loop-character.invariant
