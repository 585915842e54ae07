use Rattle.std.proofs.Common.{◌≡◌, ◌<◌, ◌+◌, ℕ, suc, List, None, Some, is_some, get_or, slice_get, take, length}
use Rattle.std.proofs.Common.{set as set_at, option_map, sym, ap, subst, ◌∙◌, rules, arith}
use Rattle.std.specs.FinSet as set
use Rattle.moc_ranges.specs.Operations.{part_of}
use Rattle.moc_parts.specs.Batches.{batches}
use Rattle.moc_parts.specs.Parts.{union_of}
use Rattle.moc_parts.specs.declared.command.Command.{Command}
use Rattle.moc_steps.specs.Machine.{Running, next_part}
use Rattle.moc_steps.specs.Private.ClientState.{ClientState, ClientInvariant, contents_of}
use Rattle.moc_steps.proofs.Cases.{is_in}
use Rattle.moc_steps.proofs.TakenParts.{next_is}
use Rattle.moc_steps.proofs.TakenContents.{get_less, taken_contents_next, previous_more, contents_within_parts_next, no_index_no_update}
use Rattle.moc_steps.proofs.midway.ActiveOperation.take.Goals as goal

pub overflow_add-self : goal.overflow_add-self
overflow_add-self c =
    let i = c.self.inside in
    let r : Running (List Command) = record { number = i.number; operation = i.batch; taken = i.taken; edited = i.edited; given = i.given; quits = i.quits } in
    let less : i.taken < length i.parts.items = get_less i.parts.items i.taken c.args.part (next_is r i.parts.items c.self.invariant.ascending ∙ ap (λ (z : ClientState). next_part batches z.running) c.self.view_is ∙ c.requires.next) in
    search rules

pub invariant_of-self : goal.invariant_of-self
invariant_of-self c =
    let i = c.self.inside in
    let v = c.self.invariant in
    let low : c.args.part < 12 = subst (λ b. b < 12) c.index.ensures.value c.index.ensures.in_range in
    let r : Running (List Command) = record { number = i.number; operation = i.batch; taken = i.taken; edited = i.edited; given = i.given; quits = i.quits } in
    let next : slice_get i.parts.items i.taken ≡ Some c.args.part = next_is r i.parts.items v.ascending ∙ ap (λ (z : ClientState). next_part batches z.running) c.self.view_is ∙ c.requires.next in
    let twelve : length i.taken_lists ≡ 12 = search rules in
    let more : i.taken + 1 ≡ suc i.taken = omega arith in
    subst (λ q. ClientInvariant i.batch (i.taken + 1) i.edited i.parts.items (set_at i.taken_lists q (Some c.args.list)) i.prepared_update) (sym c.index.ensures.value) (record {
      ascending = v.ascending;
      filled = subst (λ n. (b : ℕ) → b < 12 → is_some (get_or (set_at i.taken_lists c.args.part (Some c.args.list)) b None) ≡ is_in b (take n i.parts.items)) (sym more)
          (taken_contents_next i.taken_lists i.parts.items i.taken c.args.part c.args.list next (subst (λ n. c.args.part < n) (sym twelve) low) v.filled);
      own = contents_within_parts_next i.taken_lists c.args.part c.args.list v.own low c.requires.own;
      ready = no_index_no_update i.prepared_update _ (ap (λ (z : ClientState). z.entry_index) c.self.view_is ∙ c.requires.first);
      committed = v.committed;
    })

pub returns : goal.returns
returns c =
    let i = c.self.inside in
    let low : c.args.part < 12 = subst (λ b. b < 12) c.index.ensures.value c.index.ensures.in_range in
    let more : i.taken + 1 ≡ suc i.taken = omega arith in
    let previous_is : union_of (contents_of (set_at i.taken_lists c.index.result (Some c.args.list))) ≡ set.union (union_of (contents_of i.taken_lists)) c.args.list =
    ap (λ q. union_of (contents_of (set_at i.taken_lists q (Some c.args.list)))) c.index.ensures.value
    ∙ previous_more i.taken_lists c.args.part c.args.list c.self.invariant.own low (ap (λ (z : ClientState). part_of z.taken_content c.args.part) c.self.view_is ∙ c.requires.fresh) in
    (λ j. record {
      running = record { number = i.number; operation = i.batch; taken = more j; edited = i.edited; given = i.given; quits = i.quits };
      taken_content = previous_is j;
      entry_index = option_map (λ x. x.entry_index) i.prepared_update;
    })
    ∙ ap (λ (z : ClientState). record { running = record { number = z.running.number; operation = z.running.operation; taken = suc z.running.taken; edited = z.running.edited; given = z.running.given; quits = z.running.quits }; taken_content = set.union z.taken_content c.args.list; entry_index = z.entry_index }) c.self.view_is
