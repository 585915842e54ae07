use Rattle.std.proofs.Common.{rules, ℕ, List, [], ◌∷◌, map, Some, refl, ap, sym, ◌∙◌, arith}
use Rattle.std.specs.FinSet as set
use Rattle.moc_shared.specs.History.{call_by}
use Rattle.moc_shared.specs.Batches.{batch_answer}
use Rattle.moc_shared.specs.Seats.{table_index, ClientView}
use Rattle.moc_shared.specs.Private.Invariant.{parts_of_notes}
use Rattle.moc_shared.specs.Private.Seats.{content, part, IsInSky}
use Rattle.moc_shared.proofs.Basics.{nothing_in_empty_list}
use Rattle.moc_shared.proofs.Moves.{ends_call_as, ended_is}
use Rattle.moc_shared.proofs.CarriedSlots.{first_entry_of_keys, no_entries_of_no_keys, rest_parts}
use Rattle.moc_shared.proofs.table.steps.end_single.Goals as goal

pub exchange-requires : goal.exchange-requires
exchange-requires g c = (
  c.requires.place.0,
  first_entry_of_keys c.args.seat.now.me.1 c.index-index.result _
      (c.requires.carried ∙ ap (λ (l : List ℕ). map table_index l) c.requires.held
      ∙ (λ i. sym c.index-index.ensures.place i ∷ [])),
)

pub store-requires : goal.store-requires
store-requires g c = let v = c.args.seat.now.me.0 in (
  search rules,
  omega (arith, c.index-index.ensures.place, c.index-index.ensures.in_range, c.requires.place.1),
  ends_call_as 12 content part batch_answer IsInSky _ _ _ _ _ v _ _ (Some c.args.new) _
      (call_by v.mine.number (g.P.PartCommand.command c.args.command.now ∷ []) (c.args.reply.now ∷ [])) g.C.EndingCall.call
      [] g.C.EndingCall.notes c.index-index.ensures.place c.requires.call.0 c.requires.call.1
      c.exchange.ensures.3 c.requires.client refl c.requires.held (λ h. nothing_in_empty_list c.args.part h) c.requires.answered,
)

pub returns : goal.returns
returns g c = let v = c.args.seat.now.me.0 in
    let t = ended_is 12 content part batch_answer IsInSky set.empty 0 c.args.table.now.table_id.slots c.index-index.result _
    c.store.new.seat.me v (Some c.args.new) _
    (call_by v.mine.number (g.P.PartCommand.command c.args.command.now ∷ []) (c.args.reply.now ∷ [])) g.C.EndingCall.call
    [] g.C.EndingCall.notes c.requires.call.0 c.requires.call.1 c.exchange.ensures.3
    (rest_parts c.args.seat.now.me.1 (table_index c.args.part) _ (c.requires.carried ∙ ap (λ (l : List ℕ). map table_index l) c.requires.held)) c.store.ensures.2 in
    record {
      same = search rules;
      idle = no_entries_of_no_keys c.store.new.seat.me.1 (t.0 ∙ ap (λ (u : ClientView). map table_index (parts_of_notes u.holds)) t.1.1);
      ended = t.1;
    }
