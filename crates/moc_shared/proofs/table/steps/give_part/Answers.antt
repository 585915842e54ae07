use Rattle.std.proofs.Common.{rules, List, ◌∷◌, map, Option, Some, ap, ◌∙◌, subst, sym, arith}
use Rattle.atomic_table.specs.Table.{rest, Me}
use Rattle.moc_shared.specs.Seats.{table_index, Pointer, ClientView}
use Rattle.moc_shared.specs.Private.Invariant.{parts_of_notes}
use Rattle.moc_shared.specs.Private.Seats.{IsCarried, content, part, IsInSky, PartNote}
use Rattle.moc_shared.specs.Private.StepEffects.{with_holds, rest_of_list}
use Rattle.moc_shared.specs.Batches.{batch_answer}
use Rattle.moc_shared.proofs.Moves.{gives_part_as}
use Rattle.moc_shared.proofs.CarriedSlots.{first_entry_of_keys, rest_of_keys}
use Rattle.moc_shared.proofs.table.steps.give_part.Goals as goal

pub exchange-requires : goal.exchange-requires
exchange-requires c = let h = c.requires.held in (
  c.requires.place.0,
  first_entry_of_keys c.args.seat.now.me.1 c.index-index.result (map table_index (parts_of_notes h.0))
      (c.requires.carried ∙ ap (λ (l : List PartNote). map table_index (parts_of_notes l)) h.1
      ∙ (λ i. sym c.index-index.ensures.place i ∷ map table_index (parts_of_notes h.0))),
)

pub store-requires : goal.store-requires
store-requires c = let h = c.requires.held in let x = c.exchange.ensures in (
  search rules,
  omega (arith, c.index-index.ensures.place, c.index-index.ensures.in_range, c.requires.place.1),
  gives_part_as 12 content part batch_answer IsInSky _ _ _ _ _ c.args.seat.now.me.0 _ _ (Some c.args.new) _ h.0
      c.index-index.ensures.place x.3
      c.requires.client h.1 h.2,
)

pub returns-clause-given_back : goal.returns-clause-given_back
returns-clause-given_back c = (λ i. (c.store.ensures.2 i).0)
    ∙ (λ i. let m = c.exchange.ensures.3 i in with_holds m.0 (rest_of_list m.0.holds))

pub returns-clause-carried : goal.returns-clause-carried
returns-clause-carried c =
    subst (λ (m : Me (Option Pointer) ClientView). IsCarried m)
    (sym (c.store.ensures.2
    ∙ (λ i. let m = c.exchange.ensures.3 i in (with_holds m.0 (rest_of_list m.0.holds), rest m.1))))
    (rest_of_keys c.args.seat.now.me.1 c.args.seat.now.me.0.holds c.requires.carried)
