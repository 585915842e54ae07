-- Each step of a world in the program is a step of the machine and preserves the invariant.
use Rattle.std.proofs.Common.{◌≡◌, ℕ, suc, ◌<◌, ◌^◌, Bool, true, false, cond, not, ◌&&◌, ◌||◌, inl, inr, List, [], ◌∷◌}
use Rattle.std.proofs.Common.{◌++◌, length, Option, None, Some, IfSome, is_some, nat_eq, slice_get, get_or}
use Rattle.std.proofs.Common.{set as set_at, option_map, refl, sym, ap, subst, ◌∙◌, arith, eq-eqb, eqb-true, ne_eqb}
use Rattle.std.specs.Option.{unwrap_or}
use Rattle.std.specs.Ordering.{nat_cmp}
use Rattle.std.specs.FinSet as set
use Rattle.std.specs.FinMap as map
use Rattle.moc_lists.specs.RangeList.{NumberSet}
use Rattle.moc_ranges.specs.Operations.{part_of}
use Rattle.moc_parts.specs.Objects.{IsLocal, base_pixel}
use Rattle.moc_parts.specs.Batches.{batches, set_after_all, footprint_of_all}
use Rattle.moc_parts.specs.declared.command.Command.{Command}
use Rattle.moc_parts.specs.Prepared.{part_if as kept_part}
use Rattle.moc_steps.specs.Machine as machine
use Rattle.moc_steps.specs.Machine.{Running, Locks, new_running, holds, holder, is_nonempty}
use Rattle.moc_steps.specs.Machine.{refusal, has_taken, next_part, unless_idle, take_refusal, edit_refusal}
use Rattle.moc_steps.specs.Machine.{give_refusal, quit_refusal, end_refusal, world_after, client_at, taken_content_of, part_at}
use Rattle.moc_steps.specs.Orders.{operation_numbers, client_of}
use Rattle.moc_steps.specs.Private.ClientState.{ClientState}
use Rattle.moc_steps.specs.Private.Effects.{IsApplicable, client_after, changed_at, changed_table}
use Rattle.moc_steps.specs.declared.error.StepError.{StepError}
use Rattle.moc_steps.specs.declared.error.StepError.TheVariants.{Idle}
use Rattle.moc_steps.specs.declared.step.Step.{Step}
use Rattle.moc_steps.specs.declared.step.Step.TheVariants as step
use Rattle.moc_steps.specs.declared.table.Effect.{Effect}
use Rattle.moc_steps.specs.declared.table.Effect.TheVariants.{Take, Give, Quit}
use Rattle.moc_steps.specs.Played.{BatchWorld, entries_of, step_of}
use Rattle.moc_steps.specs.Private.Worlds.{HasEntryIndex, IsWorld, world_of}
use Rattle.moc_parts.specs.declared.reply.Reply.{Reply}
use Rattle.moc_steps.specs.declared.step.Entry.{Entry}
use Rattle.moc_steps.proofs.Cases.{previous_next, edited_parts, holds_in_call, appended}
use Rattle.moc_steps.proofs.Basics.{absurd_bool, some_same, true_or_false, not_true_false, not_of_false, is_some_of, or_false}
use Rattle.moc_steps.proofs.Basics.{or_right, and_true, and_is_true, same_or, same_set, has-empty, map_some_from, get_front}
use Rattle.moc_steps.proofs.Basics.{get_last, get-insert_same, get-insert_other, get_set_same, get_set_other}
use Rattle.moc_steps.proofs.Basics.{has-insert_same, has-insert_other}
use Rattle.moc_steps.proofs.TakingParts.{taken_alike, taken_footprint, taken-next, taken_below, next_footprint}
use Rattle.moc_steps.proofs.TakingParts.{nothing_taken}
use Rattle.moc_steps.proofs.Invariant.{is_any_of, not_any_empty}
use Rattle.moc_steps.proofs.Beginning.{idle_of}
use Rattle.moc_steps.proofs.Permitted.{midway_of, take_permitted, edit_permitted, give_permitted}
use Rattle.moc_steps.proofs.EditStep.{has_part, names_push}
use Rattle.moc_steps.proofs.AnyObject.{reached_explained}
use Rattle.moc_steps.proofs.Values.{get-values, values-insert}
use Rattle.moc_steps.proofs.Preserved.{Table, clients_of, taken_content_is, clients_changed, previous_same, holder_of, holder_nobody}
use Rattle.moc_steps.proofs.Preserved.{holder_same, same_on, next_world_invariant, at_each}

-- a step from one world to the next that preserves the invariant
abbrev pub Goes : ℕ → Table → List NumberSet → List Entry → machine.Step (List Command) → ℕ → Table → List NumberSet → List (Option ℕ) → List Entry → Type 0
Goes n m ps es step n' m' ps' hs' es' = (world_of n' m' ps' es' ≡ world_after batches (world_of n m ps es) step) × IsWorld n' m' ps' hs' es'

pub table_is : (m : Table) (c : ℕ) (s : ClientState) (change : Effect) → map.get m c ≡ Some s → changed_table m c change ≡ map.insert m c (client_after s change)
table_is m c s change h = ap (λ x. changed_at m c x change) h

-- the entry of the machine
abbrev pub entry_of : Entry → machine.Entry (List Reply)
entry_of e = record { begin = e.begin; client = e.client; reply = e.reply }

entries_push : (es : List Entry) (e : Entry) → entries_of (es ++ e ∷ []) ≡ entries_of es ++ entry_of e ∷ []
entries_push [] e = refl
entries_push (x ∷ es) e = ap (λ ys. entry_of x ∷ ys) (entries_push es e)

length-names : (es : List Entry) → length (operation_numbers (entries_of es)) ≡ length es
length-names [] = refl
length-names (x ∷ es) = ap suc (length-names es)

-- an entry keeps its index
later_place : (entry_index : Option ℕ) (ns : List ℕ) (k x : ℕ) (ns' : List ℕ) → ns' ≡ ns ++ k ∷ [] → IfSome entry_index (λ i. slice_get ns i ≡ Some x) → IfSome entry_index (λ i. slice_get ns' i ≡ Some x)
later_place None ns k x ns' is h = h
later_place (Some i) ns k x ns' is h = ap (λ ys. slice_get ys i) is ∙ get_front ns k x i h

module _ (n : ℕ) (m : Table) (ps : List NumberSet) (hs : List (Option ℕ)) (es : List Entry) (kept : IsWorld n m ps hs es) where
  w : BatchWorld
  w = world_of n m ps es

  -- a client that is midway
  pub client_state : (c : ℕ) (r : Running (List Command)) → client_at batches (world_of n m ps es) c ≡ Some r → (s : ClientState) × (map.get m c ≡ Some s) × (s.running ≡ r)
  client_state c r h = map_some_from (λ s. s.running) (map.get m c) r (sym (get-values (λ (s : ClientState). s.running) m c) ∙ h)

  pub runs : (c : ℕ) (s : ClientState) → map.get m c ≡ Some s → client_at batches (world_of n m ps es) c ≡ Some s.running
  runs c s h = get-values (λ (s : ClientState). s.running) m c ∙ ap (option_map (λ (s : ClientState). s.running)) h

  pub previous_is : (c : ℕ) (s : ClientState) → map.get m c ≡ Some s → taken_content_of batches (world_of n m ps es) c ≡ s.taken_content
  previous_is c s h = ap (λ x. unwrap_or x set.empty) (get-values (λ (s : ClientState). s.taken_content) m c ∙ ap (option_map (λ (s : ClientState). s.taken_content)) h)

  pub quit_goes : (c : ℕ) → refusal batches (world_of n m ps es).locks (machine.Step.Quit c) ≡ None → Goes n m ps es (machine.Step.Quit c) n (changed_table m c Quit) ps hs es
  quit_goes c h =
      let k = midway_of batches (client_at batches (world_of n m ps es) c) (quit_refusal batches) h in
      let t = client_state c k.0 k.1 in
      let s : ClientState = t.0 in
      let s' : ClientState = client_after s Quit in
      let is : world_of n (map.insert m c s') ps es ≡ world_after batches (world_of n m ps es) (machine.Step.Quit c) = (λ i. record {
        locks = clients_changed n m c s s' (λ r. record r { quits = true }) t.1 refl i;
        parts = ps;
        taken_content = previous_same m c s s' t.1 refl i;
        order = entries_of es;
      }) in
      subst (λ m'. Goes n m ps es (machine.Step.Quit c) n m' ps hs es) (sym (table_is m c s Quit t.1)) (
        is,
        next_world_invariant n n m (map.insert m c s') ps ps hs hs es es (machine.Step.Quit c) kept tt tt h is
            (λ reached b l. kept.held b l ∙ sym (holder_same (world_of n m ps es) (world_of n (map.insert m c s') ps es) reached b
            (same_on n n m ps ps es es c b s s' t.1 (ap (λ x. x && not (set.contains s.running.given b)) (taken_alike batches s'.running s.running refl refl b)))))
            (at_each m c s' (λ q z. HasEntryIndex (operation_numbers (entries_of es)) z.running z.entry_index) (kept.placed c s t.1) (λ q z d g. kept.placed q z g)),
      )

  pub give_goes : (c b : ℕ) → length hs ≡ 12 → refusal batches (world_of n m ps es).locks (machine.Step.Give c b) ≡ None → Goes n m ps es (machine.Step.Give c b) n (changed_table m c (Give b)) ps (set_at hs b None) es
  give_goes c b twelve_hs h =
      let k = midway_of batches (client_at batches (world_of n m ps es) c) (λ r. give_refusal batches r b) h in
      let t = client_state c k.0 k.1 in
      let s : ClientState = t.0 in
      let s' : ClientState = client_after s (Give b) in
      let g = give_permitted batches s.running b (ap (λ r. give_refusal batches r b) t.2 ∙ k.2) in
      let inv = reached_explained batches (world_of n m ps es) kept.reached in
      let is : world_of n (map.insert m c s') ps es ≡ world_after batches (world_of n m ps es) (machine.Step.Give c b) = (λ i. record {
        locks = clients_changed n m c s s' (λ r. record r { given = set.insert r.given b }) t.1 refl i;
        parts = ps;
        taken_content = previous_same m c s s' t.1 refl i;
        order = entries_of es;
      }) in
      let b_low : b < 12 = (taken_footprint batches s.running b (and_true _ _ g.0).0).0 in
      subst (λ m'. Goes n m ps es (machine.Step.Give c b) n m' ps (set_at hs b None) es) (sym (table_is m c s (Give b) t.1)) (
        is,
        next_world_invariant n n m (map.insert m c s') ps ps hs (set_at hs b None) es es (machine.Step.Give c b) kept tt tt h is
            (λ reached d l. elim (same_or d b) [
              | inl e ↦ ap (λ x. get_or (set_at hs b None) x None) e ∙ get_set_same hs b None None (subst (λ x. b < x) (sym twelve_hs) b_low)
                  ∙ sym (ap (holder batches (clients_of (map.insert m c s'))) e ∙ holder_nobody (clients_of (map.insert m c s')) b (λ q r at. elim (same_or q c) [
                    | inl f ↦ ap (λ z. holds batches z b) (some_same (map.get (clients_of (map.insert m c s')) c) r s'.running (ap (map.get (clients_of (map.insert m c s'))) (sym f) ∙ at)
                        (get-values (λ (s : ClientState). s.running) (map.insert m c s') c ∙ ap (option_map (λ (s : ClientState). s.running)) (get-insert_same m c s')))
                        ∙ ap (λ x. has_taken batches s'.running b && not x) (has-insert_same s.running.given b) ∙ and_false (has_taken batches s'.running b)
                    | inr f ↦ not_true_false (holds batches r b) (λ hr. f (inv.1.alone q c r s.running b
                        (get-values (λ (s : ClientState). s.running) m q ∙ ap (option_map (λ (s : ClientState). s.running)) (sym (get-insert_other m c s' q f)) ∙ sym (get-values (λ (s : ClientState). s.running) (map.insert m c s') q) ∙ at)
                        (runs c s t.1) hr g.0))
                  ]))
              | inr e ↦ get_set_other hs b d None None e ∙ kept.held d l ∙ sym (holder_same (world_of n m ps es) (world_of n (map.insert m c s') ps es) reached d
                  (same_on n n m ps ps es es c d s s' t.1 ((λ i. taken_alike batches s'.running s.running refl refl d i && not (has-insert_other s.running.given b d e i)))))
            ])
            (at_each m c s' (λ q z. HasEntryIndex (operation_numbers (entries_of es)) z.running z.entry_index) (kept.placed c s t.1) (λ q z d g. kept.placed q z g)),
      )
    where
      and_false : (x : Bool) → (x && false) ≡ false
      and_false true = refl
      and_false false = refl

  pub take_asks : (c q : ℕ) (s : ClientState) (list : NumberSet) → map.get m c ≡ Some s → next_part batches s.running ≡ Some q → list ≡ get_or ps q set.empty
      → IsApplicable s (Take q list)
  take_asks c q s list has next list_is =
      let inv = reached_explained batches (world_of n m ps es) kept.reached in
      let own = inv.1.client c s.running (runs c s has) in
      let entry_index : is_some s.entry_index ≡ false = sym (kept.placed c s has).0 ∙ not_true_false (is_nonempty s.running.edited) (λ any. absurd (cc (next, own.sound.all any))) in (
        next,
        same_set _ _ (λ p. has_part list q p ∙ ap (λ x. set.contains x p && nat_eq (base_pixel p) q) list_is ∙ elim (true_or_false (set.contains (get_or ps q set.empty) p)) [
          | inl t ↦ (λ i. t i && (eq-eqb (base_pixel p) q (inv.1.own q p t)) i) ∙ sym (ap (λ x. set.contains x p) list_is ∙ t)
          | inr f ↦ ap (λ x. x && nat_eq (base_pixel p) q) f ∙ sym (ap (λ x. set.contains x p) list_is ∙ f)
        ]),
        same_set _ _ (λ p. has_part s.taken_content q p ∙ not_true_false _ (λ t.
            let a = and_true (set.contains s.taken_content p) (nat_eq (base_pixel p) q) t in
            let taken : has_taken batches s.running q ≡ true = ap (has_taken batches s.running) (sym (eqb-true (base_pixel p) q a.1)) ∙ own.within p (ap (λ F. set.contains F p) (previous_is c s has) ∙ a.0) in
            let l : q < q = taken_below batches s.running q q next taken in absurd (omega arith)) ∙ sym (has-empty p)),
        is_some_of s.entry_index entry_index,
      )

  pub take_goes : (c q : ℕ) (s : ClientState) (list : NumberSet) → map.get m c ≡ Some s → next_part batches s.running ≡ Some q → list ≡ get_or ps q set.empty → length hs ≡ 12
      → refusal batches (world_of n m ps es).locks (machine.Step.Take c) ≡ None → Goes n m ps es (machine.Step.Take c) n (changed_table m c (Take q list)) ps (set_at hs q (Some c)) es
  take_goes c q s list has next list_is twelve_hs h =
      let r : Running (List Command) = s.running in
      let k = midway_of batches (client_at batches (world_of n m ps es) c) (take_refusal batches (world_of n m ps es).locks) h in
      let r_is : k.0 ≡ r = some_same (client_at batches (world_of n m ps es) c) k.0 r k.1 (runs c s has) in
      let p = take_permitted batches (world_of n m ps es).locks r (ap (take_refusal batches (world_of n m ps es).locks) (sym r_is) ∙ k.2) in
      let s' : ClientState = client_after s (Take q list) in
      let inv = reached_explained batches (world_of n m ps es) kept.reached in
      let own = inv.1.client c r (runs c s has) in
      let ungiven : set.contains r.given q ≡ false = not_true_false _ (λ g. elim (own.sound.why q g) [
        | inl e ↦ absurd (cc (next, own.sound.all (is_any_of r.edited q e)))
        | inr e ↦ absurd_bool r.quits e p.0
      ]) in
      let found_e : previous_next batches (world_of n m ps es) c (client_at batches (world_of n m ps es) c) ≡ set.union s.taken_content list =
      ap (previous_next batches (world_of n m ps es) c) (runs c s has)
      ∙ ap (λ F. set.union F (unwrap_or (option_map (part_at batches (world_of n m ps es)) (next_part batches r)) set.empty)) (previous_is c s has)
      ∙ ap (λ x. set.union s.taken_content (unwrap_or (option_map (part_at batches (world_of n m ps es)) x) set.empty)) next ∙ ap (set.union s.taken_content) (sym list_is) in
      let is : world_of n (map.insert m c s') ps es ≡ world_after batches (world_of n m ps es) (machine.Step.Take c) = (λ i. record {
        locks = clients_changed n m c s s' (λ r. record r { taken = suc r.taken }) has refl i;
        parts = ps;
        taken_content = (values-insert (λ (s : ClientState). s.taken_content) m c s' ∙ ap (map.insert (taken_content_is m) c) (sym found_e)) i;
        order = entries_of es;
      }) in
      subst (λ m'. Goes n m ps es (machine.Step.Take c) n m' ps (set_at hs q (Some c)) es) (sym (table_is m c s (Take q list) has)) (
        is,
        next_world_invariant n n m (map.insert m c s') ps ps hs (set_at hs q (Some c)) es es (machine.Step.Take c) kept tt tt h is
            (λ reached d l. elim (same_or d q) [
              | inl e ↦ ap (λ x. get_or (set_at hs q (Some c)) x None) e ∙ get_set_same hs q (Some c) None (subst (λ x. q < x) (sym twelve_hs) (next_footprint batches r q next).0)
                  ∙ sym (ap (holder batches (clients_of (map.insert m c s'))) e ∙ holder_of (world_of n (map.insert m c s') ps es) reached c q s'.running
                  (get-values (λ (s : ClientState). s.running) (map.insert m c s') c ∙ ap (option_map (λ (s : ClientState). s.running)) (get-insert_same m c s'))
                  (and_is_true (taken-next batches r q q next ∙ or_right (has_taken batches r q) _ (eq-eqb q q refl)) (not_of_false ungiven)))
              | inr e ↦ get_set_other hs q d (Some c) None e ∙ kept.held d l ∙ sym (holder_same (world_of n m ps es) (world_of n (map.insert m c s') ps es) reached d
                  (same_on n n m ps ps es es c d s s' has (ap (λ x. x && not (set.contains r.given d)) (taken-next batches r q d next ∙ ap (λ x. has_taken batches r d || x) (ne_eqb q d (λ x. e (sym x))) ∙ or_false (has_taken batches r d)))))
            ])
            (at_each m c s' (λ q z. HasEntryIndex (operation_numbers (entries_of es)) z.running z.entry_index) (kept.placed c s has) (λ q z d g. kept.placed q z g)),
      )

  pub edit_goes : (c b : ℕ) (s s' : ClientState) (list : NumberSet) (es' : List Entry) → map.get m c ≡ Some s → s'.running ≡ record s.running { edited = set.insert s.running.edited b } → s'.taken_content ≡ s.taken_content
      → list ≡ part_of (set_after_all s.taken_content s.running.operation) b → entries_of es' ≡ appended batches (entries_of es) c (Some s.running)
      → HasEntryIndex (operation_numbers (entries_of es')) s'.running s'.entry_index → ((q : ℕ) (z : ClientState) → map.get m q ≡ Some z → HasEntryIndex (operation_numbers (entries_of es')) z.running z.entry_index)
      → refusal batches (world_of n m ps es).locks (machine.Step.Edit c b) ≡ None → Goes n m ps es (machine.Step.Edit c b) n (map.insert m c s') (set_at ps b list) hs es'
  edit_goes c b s s' list es' has run_is found_e list_is order_is own others h =
      let v : BatchWorld = world_of n m ps es in
      let parts_are : set_at ps b list ≡ edited_parts batches v c (client_at batches v c) b =
      ap (set_at ps b) (list_is ∙ ap (λ F. part_of (set_after_all F s.running.operation) b) (sym (previous_is c s has))) ∙ sym (ap (λ x. edited_parts batches v c x b) (runs c s has)) in
      let is : world_of n (map.insert m c s') (set_at ps b list) es' ≡ world_after batches v (machine.Step.Edit c b) = (λ i. record {
        locks = clients_changed n m c s s' (λ r. record r { edited = set.insert r.edited b }) has run_is i;
        parts = parts_are i;
        taken_content = previous_same m c s s' has found_e i;
        order = (order_is ∙ sym (ap (appended batches (entries_of es) c) (runs c s has))) i;
      }) in (
        is,
        next_world_invariant n n m (map.insert m c s') ps (set_at ps b list) hs hs es es' (machine.Step.Edit c b) kept tt tt h is
            (λ reached d l. kept.held d l ∙ sym (holder_same v (world_of n (map.insert m c s') (set_at ps b list) es') reached d
            (same_on n n m ps (set_at ps b list) es es' c d s s' has
            (ap (λ r. holds batches r d) run_is ∙ ap (λ x. x && not (set.contains s.running.given d)) (taken_alike batches (record s.running { edited = set.insert s.running.edited b }) s.running refl refl d)))))
            (at_each m c s' (λ q z. HasEntryIndex (operation_numbers (entries_of es')) z.running z.entry_index) own (λ q z d g. others q z g)),
      )

  pub begin_goes : (c : ℕ) (op : List Command) → IsLocal batches op → c < 2 ^ 32 → refusal batches (world_of n m ps es).locks (machine.Step.Begin c op) ≡ None
      → Goes n m ps es (machine.Step.Begin c op) (suc n) (map.insert m c (record { running = new_running batches n op; taken_content = set.empty; entry_index = None })) ps hs es
  begin_goes c op local l h =
      let v : BatchWorld = world_of n m ps es in
      let s' : ClientState = record { running = new_running batches n op; taken_content = set.empty; entry_index = None } in
      let idle : client_at batches v c ≡ None = idle_of batches v.locks (client_at batches v c) h in
      let is : world_of (suc n) (map.insert m c s') ps es ≡ world_after batches v (machine.Step.Begin c op) = (λ i. record {
        locks = record { begun = suc n; clients = values-insert (λ (s : ClientState). s.running) m c s' i };
        parts = ps;
        taken_content = values-insert (λ (s : ClientState). s.taken_content) m c s' i;
        order = entries_of es;
      }) in (
        is,
        next_world_invariant n (suc n) m (map.insert m c s') ps ps hs hs es es (machine.Step.Begin c op) kept (local, tt) l h is
            (λ reached d k. kept.held d k ∙ sym (holder_same v (world_of (suc n) (map.insert m c s') ps es) reached d (λ q. elim (same_or q c) [
              | inl e ↦ ap (λ x. holds_in_call batches (client_at batches (world_of (suc n) (map.insert m c s') ps es) x) d) e
                  ∙ ap (λ x. holds_in_call batches x d) (get-values (λ (s : ClientState). s.running) (map.insert m c s') c ∙ ap (option_map (λ (s : ClientState). s.running)) (get-insert_same m c s'))
                  ∙ ap (λ x. x && not (set.contains (set.empty {R = nat_cmp}) d)) (nothing_taken batches n op set.empty set.empty false d)
                  ∙ sym (ap (λ x. holds_in_call batches (client_at batches v x) d) e ∙ ap (λ x. holds_in_call batches x d) idle)
              | inr f ↦ ap (λ x. holds_in_call batches x d) (get-values (λ (s : ClientState). s.running) (map.insert m c s') q ∙ ap (option_map (λ (s : ClientState). s.running)) (get-insert_other m c s' q f) ∙ sym (get-values (λ (s : ClientState). s.running) m q))
            ])))
            (at_each m c s' (λ q z. HasEntryIndex (operation_numbers (entries_of es)) z.running z.entry_index) (not_any_empty, tt) (λ q z d g. kept.placed q z g)),
      )

  edit_allowed : (c b : ℕ) (s : ClientState) → map.get m c ≡ Some s → refusal batches (world_of n m ps es).locks (machine.Step.Edit c b) ≡ None → edit_refusal batches s.running b ≡ None
  edit_allowed c b s has h =
      let k = midway_of batches (client_at batches (world_of n m ps es) c) (λ r. edit_refusal batches r b) h in
      let r_is : k.0 ≡ s.running = some_same (client_at batches (world_of n m ps es) c) k.0 s.running k.1 (runs c s has) in
      ap (λ r. edit_refusal batches r b) (sym r_is) ∙ k.2

  -- the client of a permitted Edit holds the part
  pub edit_footprint : (c b : ℕ) (s : ClientState) → map.get m c ≡ Some s → refusal batches (world_of n m ps es).locks (machine.Step.Edit c b) ≡ None → (b < 12) × (footprint_of_all s.running.operation b ≡ true)
  edit_footprint c b s has h = taken_footprint batches s.running b (and_true _ _ (edit_permitted batches s.running b (edit_allowed c b s has h)).2).0

  -- the client of a permitted Edit has taken all its parts
  pub edit_all : (c b : ℕ) (s : ClientState) → map.get m c ≡ Some s → refusal batches (world_of n m ps es).locks (machine.Step.Edit c b) ≡ None → next_part batches s.running ≡ None
  edit_all c b s has h = (edit_permitted batches s.running b (edit_allowed c b s has h)).1

  -- a committed client has the index of its entry
  pub has_place : (c : ℕ) (s : ClientState) → map.get m c ≡ Some s → is_nonempty s.running.edited ≡ true → is_some s.entry_index ≡ true
  has_place c s has any = sym (kept.placed c s has).0 ∙ any

  pub any_edited : (c : ℕ) (s : ClientState) (v : BatchWorld) → map.get m c ≡ Some s → world_of n m ps es ≡ v → IfSome (client_at batches v c) (λ r. is_nonempty r.edited ≡ true) → is_nonempty s.running.edited ≡ true
  any_edited c s v has is h = subst (λ x. IfSome x (λ r. is_nonempty r.edited ≡ true)) (ap (λ v. client_at batches v c) (sym is) ∙ runs c s has) h

  -- the client of a permitted step is midway
  pub is_midway : {A : Type 0} (c : ℕ) (test : Running (List Command) → Option StepError) → unless_idle batches (client_at batches (world_of n m ps es) c) test ≡ None → map.get m c ≡ None → A
  is_midway c test h none =
      let k = midway_of batches (client_at batches (world_of n m ps es) c) test h in
      let t = client_state c k.0 k.1 in absurd (cc (t.1, none))

  pub edited_place : (c b : ℕ) (s : ClientState) → map.get m c ≡ Some s → is_nonempty s.running.edited ≡ true → HasEntryIndex (operation_numbers (entries_of es)) (record s.running { edited = set.insert s.running.edited b }) s.entry_index
  edited_place c b s has any = let p = kept.placed c s has in (is_any_of (set.insert s.running.edited b) b (has-insert_same s.running.edited b) ∙ sym any ∙ p.0, p.1)

  -- a client whose Take is permitted can take its next part
  pub may_take : (c : ℕ) (s : ClientState) → map.get m c ≡ Some s → refusal batches (world_of n m ps es).locks (machine.Step.Take c) ≡ None → take_refusal batches (world_of n m ps es).locks s.running ≡ None
  may_take c s has h =
      let k = midway_of batches (client_at batches (world_of n m ps es) c) (take_refusal batches (world_of n m ps es).locks) h in
      let r_is : k.0 ≡ s.running = some_same (client_at batches (world_of n m ps es) c) k.0 s.running k.1 (runs c s has) in
      ap (take_refusal batches (world_of n m ps es).locks) (sym r_is) ∙ k.2

  -- the first Edit of a client: its entry is appended, and the client gets the index of the entry
  pub first_edit_goes : (c b : ℕ) (s : ClientState) (entry_index : ℕ) (list : NumberSet) (e : Entry) → map.get m c ≡ Some s → s.entry_index ≡ None → entry_index ≡ length es
      → e.begin ≡ s.running.number → e.client ≡ c → e.reply ≡ None
      → list ≡ part_of (set_after_all s.taken_content s.running.operation) b → refusal batches (world_of n m ps es).locks (machine.Step.Edit c b) ≡ None
      → Goes n m ps es (machine.Step.Edit c b) n (map.insert m c (record { running = record s.running { edited = set.insert s.running.edited b }; taken_content = s.taken_content; entry_index = Some entry_index })) (set_at ps b list) hs (es ++ e ∷ [])
  first_edit_goes c b s entry_index list e has none place_is begin_is client_is reply_is list_is h =
      let none_edited : is_nonempty s.running.edited ≡ false = (kept.placed c s has).0 ∙ ap is_some none in
      let order_is : entries_of (es ++ e ∷ []) ≡ appended batches (entries_of es) c (Some s.running) =
      entries_push es e ∙ (λ i. entries_of es ++ record { begin = begin_is i; client = client_is i; reply = reply_is i } ∷ [])
      ∙ sym (ap (λ (t : Bool). cond t (entries_of es) (entries_of es ++ record { begin = s.running.number; client = c; reply = None } ∷ [])) none_edited) in
      let names_are : operation_numbers (entries_of (es ++ e ∷ [])) ≡ operation_numbers (entries_of es) ++ e.begin ∷ [] = ap operation_numbers (entries_push es e) ∙ names_push (entries_of es) (entry_of e) in
      edit_goes c b s (record { running = record s.running { edited = set.insert s.running.edited b }; taken_content = s.taken_content; entry_index = Some entry_index }) list (es ++ e ∷ []) has refl refl list_is order_is (
        is_any_of (set.insert s.running.edited b) b (has-insert_same s.running.edited b),
        ap (λ ns. slice_get ns entry_index) names_are ∙ ap (slice_get (operation_numbers (entries_of es) ++ e.begin ∷ [])) (place_is ∙ sym (length-names es))
            ∙ get_last (operation_numbers (entries_of es)) e.begin ∙ ap (λ k. Some k) begin_is,
      )
      (λ q z g. let p = kept.placed q z g in (p.0, later_place z.entry_index (operation_numbers (entries_of es)) e.begin z.running.number (operation_numbers (entries_of (es ++ e ∷ []))) names_are p.1))
      h

  pub committed_at : (c : ℕ) (s : ClientState) (v : BatchWorld) → map.get m c ≡ Some s → world_of n m ps es ≡ v → is_some s.entry_index ≡ true → IfSome (client_at batches v c) (λ r. is_nonempty r.edited ≡ true)
  committed_at c s v has is some = subst (λ x. IfSome x (λ r. is_nonempty r.edited ≡ true)) (sym (ap (λ v. client_at batches v c) (sym is) ∙ runs c s has)) ((kept.placed c s has).0 ∙ some)

  pub kept_list : (cs : List Command) (taken_content list : NumberSet) (lists : List (Option NumberSet)) (b : ℕ) → b < 12 → footprint_of_all cs b ≡ true
      → ((b : ℕ) → b < 12 → get_or lists b None ≡ kept_part (footprint_of_all cs b) (set_after_all taken_content cs) b) → Some list ≡ get_or lists b None → list ≡ part_of (set_after_all taken_content cs) b
  kept_list cs taken_content list lists b low has each is =
      some_same (Some list) list (part_of (set_after_all taken_content cs) b) refl (is ∙ each b low ∙ ap (λ t. kept_part t (set_after_all taken_content cs) b) has)

  pub kept_some : {A : Type 0} (cs : List Command) (taken_content : NumberSet) (lists : List (Option NumberSet)) (b : ℕ) → b < 12 → footprint_of_all cs b ≡ true
      → ((b : ℕ) → b < 12 → get_or lists b None ≡ kept_part (footprint_of_all cs b) (set_after_all taken_content cs) b) → get_or lists b None ≡ None → A
  kept_some cs taken_content lists b low has each none =
      let is : None ≡ Some (part_of (set_after_all taken_content cs) b) = sym none ∙ each b low ∙ ap (λ t. kept_part t (set_after_all taken_content cs) b) has in absurd (cc (is))

  -- the client in the table, as a client of the machine
  pub seen_as : (k k' : ℕ) (v : BatchWorld) (x : Option ClientState) → world_of n m ps es ≡ v → k' ≡ k → map.get m k' ≡ x → client_at batches v k ≡ option_map (λ (s : ClientState). s.running) x
  seen_as k k' v x is same has = ap (λ v. client_at batches v k) (sym is) ∙ get-values (λ (s : ClientState). s.running) m k ∙ ap (λ j. option_map (λ (s : ClientState). s.running) (map.get m j)) (sym same) ∙ ap (option_map (λ (s : ClientState). s.running)) has

-- the step of an idle client, other than a Begin
pub idle_refusal : (l : Locks (List Command)) (s : Step) → ((c : ℕ) (op : List Command) → s ≡ step.Begin c op → ⊥) → map.get l.clients (client_of (step_of s)) ≡ None → Some Idle ≡ refusal batches l (step_of s)
idle_refusal l (step.Begin c op) not_begin h = absurd (not_begin c op refl)
idle_refusal l (step.Take c) not_begin h = sym (ap (λ x. unless_idle batches x (take_refusal batches l)) h)
idle_refusal l (step.Edit c b) not_begin h = sym (ap (λ x. unless_idle batches x (λ r. edit_refusal batches r b)) h)
idle_refusal l (step.Give c b) not_begin h = sym (ap (λ x. unless_idle batches x (λ r. give_refusal batches r b)) h)
idle_refusal l (step.Quit c) not_begin h = sym (ap (λ x. unless_idle batches x (quit_refusal batches)) h)
idle_refusal l (step.End c) not_begin h = sym (ap (λ x. unless_idle batches x (end_refusal batches)) h)
