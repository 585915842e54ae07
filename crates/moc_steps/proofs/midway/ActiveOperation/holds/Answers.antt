use Rattle.std.proofs.Common.{◌≡◌, ℕ, List, true, false, not, ◌&&◌, nat_eq, take, sym, ap, ◌∙◌}
use Rattle.std.specs.List.{list_any}
use Rattle.std.specs.FinSet as set
use Rattle.moc_parts.specs.Batches.{batches}
use Rattle.moc_parts.specs.declared.command.Command.{Command}
use Rattle.moc_steps.specs.Machine.{Running, holds, has_taken}
use Rattle.moc_steps.specs.Private.ClientState.{ClientState}
use Rattle.moc_steps.proofs.TakenParts.{is_taken_iff}
use Rattle.moc_steps.proofs.midway.ActiveOperation.holds.Goals as goal

pub returns-then-is_among : goal.returns-then-is_among
returns-then-is_among c =
    let i = c.self.inside in
    let b : ℕ = c.args.part in
    let r : Running (List Command) = record { number = i.number; operation = i.batch; taken = i.taken; edited = i.edited; given = i.given; quits = i.quits } in
    let taken : has_taken batches r b ≡ true =
    sym (is_taken_iff r i.parts.items b c.self.invariant.ascending) ∙ ap (λ xs. list_any (λ x. nat_eq x b) (take i.taken xs)) (sym c.deref.ensures.value) ∙ sym c.is_among.ensures ∙ c.if-is_among.true in
    ap not c.contains.ensures ∙ sym (ap (λ x. x && not (set.contains i.given b)) taken) ∙ ap (λ (z : ClientState). holds batches z.running b) c.self.view_is

pub returns-else-is_among : goal.returns-else-is_among
returns-else-is_among c =
    let i = c.self.inside in
    let b : ℕ = c.args.part in
    let r : Running (List Command) = record { number = i.number; operation = i.batch; taken = i.taken; edited = i.edited; given = i.given; quits = i.quits } in
    let taken : has_taken batches r b ≡ false =
    sym (is_taken_iff r i.parts.items b c.self.invariant.ascending) ∙ ap (λ xs. list_any (λ x. nat_eq x b) (take i.taken xs)) (sym c.deref.ensures.value) ∙ sym c.is_among.ensures ∙ c.if-is_among.false in
    c.if-is_among.false ∙ sym (ap (λ x. x && not (set.contains i.given b)) taken) ∙ ap (λ (z : ClientState). holds batches z.running b) c.self.view_is
