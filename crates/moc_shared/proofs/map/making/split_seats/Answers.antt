use Rattle.std.proofs.Common.{refl, ◌∙◌}
use Rattle.moc_shared.proofs.NewMaps.{each_of_map, view_of_new_record, rest_new, one_more}
use Rattle.moc_shared.specs.Clients.{start_of}
use Rattle.moc_shared.proofs.map.making.split_seats.Goals as goal

pub split-rest-requires-clause-client : goal.split-rest-requires-clause-client
split-rest-requires-clause-client c =
    view_of_new_record (start_of c.args.map.now) c.args.clients c.loop-number.number c.loop-number.seat.me.0
    c.loop-number.invariant.view c.loop-number-test.true

pub loop-number-preserved : goal.loop-number-preserved
loop-number-preserved c =
    let inv = c.loop-number.invariant in
    let s = c.split-rest.ensures in
    record {
      table = s.same.2 ∙ inv.table;
      view = rest_new (start_of c.args.map.now) c.args.clients c.loop-number.number c.loop-number.seat.me.0
          c.split-rest.result.me.0 inv.view c.loop-number-test.true (λ i. (s.given i).0);
      no_slot = λ i. (s.given i).1;
      dealt = one_more c.args.map.now c.args.clients c.loop-number.number c.loop-number.seat.me.0
          c.loop-number.all.items c.push.new.self.items record
          { number = c.loop-number.number; seat = c.split-rest.new.seat } c.requires.count inv.view
          c.loop-number-test.true (s.same.0 ∙ inv.table) (λ i. (s.kept i).0) ((λ i. (s.kept i).1) ∙ inv.no_slot) refl
          c.in_ok-push.ensures.items inv.dealt;
    }

pub returns-clause-of_map : goal.returns-clause-of_map
returns-clause-of_map c =
    each_of_map c.args.map.now c.loop-number.all.items c.loop-number.number c.loop-number.invariant.dealt
