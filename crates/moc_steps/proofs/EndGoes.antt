-- An End in a world of the program is an End of the machine.
use Rattle.std.proofs.Common.{◌≡◌, ℕ, zero, suc, ◌+◌, ◌<◌, true, false, cond, inl, inr, List, [], ◌∷◌, map as map_list}
use Rattle.std.proofs.Common.{length, Option, None, Some, IfSome, is_some, nat_eq, slice_get, get_or, set as set_at}
use Rattle.std.proofs.Common.{option_map, refl, sym, ap, subst, ◌∙◌, arith, eq-eqb}
use Rattle.std.specs.FinSet as set
use Rattle.std.specs.FinMap as map
use Rattle.moc_lists.specs.RangeList.{NumberSet}
use Rattle.moc_parts.specs.Batches.{batches, replies_on}
use Rattle.moc_parts.specs.declared.command.Command.{Command}
use Rattle.moc_parts.specs.declared.reply.Reply.{Reply}
use Rattle.moc_steps.specs.Machine as machine
use Rattle.moc_steps.specs.Machine.{Running, holds, refusal, is_nonempty, end_refusal, world_after}
use Rattle.moc_steps.specs.Machine.{client_at, answer_on_previous, with_reply, reply_to}
use Rattle.moc_steps.specs.Orders.{operation_numbers, occurrences, is_committed}
use Rattle.moc_steps.specs.Private.ClientState.{ClientState}
use Rattle.moc_steps.specs.Played.{BatchWorld, entries_of}
use Rattle.moc_steps.specs.Private.Worlds.{HasEntryIndex, IsWorld, world_of}
use Rattle.moc_steps.specs.declared.step.Entry.{Entry}
use Rattle.moc_steps.proofs.Cases.{ended_reply, holds_in_call, completed}
use Rattle.moc_steps.proofs.Basics.{absurd_bool, some_same, true_or_false, not_true_false, not_of_false, and_is_true, same_or}
use Rattle.moc_steps.proofs.Basics.{count-append, get-remove_same, get-remove_other}
use Rattle.moc_steps.proofs.TakingParts.{in_twelve, taken_footprint, took_one}
use Rattle.moc_steps.proofs.Invariant.{is_any_of}
use Rattle.moc_steps.proofs.Permitted.{midway_of, end_permitted, end_taken}
use Rattle.moc_steps.proofs.EndStep.{replied_begin, names_map}
use Rattle.moc_steps.proofs.AnyObject.{reached_explained}
use Rattle.moc_steps.proofs.Values.{get-values, values-remove}
use Rattle.moc_steps.proofs.Preserved.{Table, holder_same, next_world_invariant}
use Rattle.moc_steps.proofs.PreservedSteps.{Goes, entry_of, runs, previous_is}

-- an entry with its reply
abbrev pub entry_with_replies : Entry → List Reply → Entry
entry_with_replies e y = record { begin = e.begin; client = e.client; reply = Some y }

-- one if the numbers are equal, and zero otherwise
abbrev one_if_equal : ℕ → ℕ → ℕ
one_if_equal x n = cond (nat_eq x n) 1 0

one_if_equal_is_one : (x n : ℕ) → x ≡ n → one_if_equal x n ≡ 1
one_if_equal_is_one x n e = ap (λ b. cond b 1 0) (eq-eqb x n e)

one_if_equal_is_zero : (x n : ℕ) → nat_eq x n ≡ false → one_if_equal x n ≡ 0
one_if_equal_is_zero x n e = ap (λ b. cond b 1 0) e

times_next : (x n : ℕ) (ns : List ℕ) → occurrences n (x ∷ ns) ≡ one_if_equal x n + occurrences n ns
times_next x n ns = let head : 0 + one_if_equal x n ≡ one_if_equal x n = omega arith in count-append (λ z. nat_eq z n) (x ∷ []) ns ∙ ap (λ k. k + occurrences n ns) head

-- no reply is set if the number is not in the order
replied_none : (n : ℕ) (y : List Reply) (es : List Entry) → occurrences n (operation_numbers (entries_of es)) ≡ 0 → map_list (with_reply batches n y) (entries_of es) ≡ entries_of es
replied_none n y [] h = refl
replied_none n y (e ∷ es) h =
    let whole : occurrences n (operation_numbers (entries_of (e ∷ es))) ≡ one_if_equal e.begin n + occurrences n (operation_numbers (entries_of es)) = times_next e.begin n (operation_numbers (entries_of es)) in
    let rest : occurrences n (operation_numbers (entries_of es)) ≡ 0 = omega arith in
    elim (true_or_false (nat_eq e.begin n)) [
      | inl t ↦ (let o : one_if_equal e.begin n ≡ 1 = ap (λ b. cond b 1 0) t in absurd (omega arith))
      | inr f ↦ (λ i. cond (f i) (record { begin = e.begin; client = e.client; reply = Some y }) (entry_of e) ∷ replied_none n y es rest i)
    ]

-- a number at some index occurs at least once
occurs_at_index : (ns : List ℕ) (i n : ℕ) → slice_get ns i ≡ Some n → 0 < occurrences n ns
occurs_at_index [] i n h = absurd (cc)
occurs_at_index (x ∷ ns) zero n h =
    let o : one_if_equal x n ≡ 1 = one_if_equal_is_one x n (some_same (Some x) x n refl h) in
    let whole : occurrences n (x ∷ ns) ≡ one_if_equal x n + occurrences n ns = times_next x n ns in omega arith
occurs_at_index (x ∷ ns) (suc i) n h =
    let l : 0 < occurrences n ns = occurs_at_index ns i n h in
    let whole : occurrences n (x ∷ ns) ≡ one_if_equal x n + occurrences n ns = times_next x n ns in omega arith

-- the reply is set in the entry at the index of a number that occurs once
pub replied_at : (n : ℕ) (y : List Reply) (es : List Entry) (i : ℕ) (e : Entry) → slice_get es i ≡ Some e → slice_get (operation_numbers (entries_of es)) i ≡ Some n → occurrences n (operation_numbers (entries_of es)) ≡ 1
    → entries_of (set_at es i (entry_with_replies e y)) ≡ map_list (with_reply batches n y) (entries_of es)
replied_at n y [] i e is at once = absurd (cc)
replied_at n y (x ∷ es) zero e is at once =
    let same : x ≡ e = some_same (Some x) x e refl is in
    let named : x.begin ≡ n = some_same (Some x.begin) x.begin n refl at in
    let t : nat_eq x.begin n ≡ true = eq-eqb x.begin n named in
    let o : one_if_equal x.begin n ≡ 1 = one_if_equal_is_one x.begin n named in
    let whole : occurrences n (operation_numbers (entries_of (x ∷ es))) ≡ one_if_equal x.begin n + occurrences n (operation_numbers (entries_of es)) = times_next x.begin n (operation_numbers (entries_of es)) in
    let rest : occurrences n (operation_numbers (entries_of es)) ≡ 0 = omega arith in
    ap (λ (z : Entry). entry_of (entry_with_replies z y) ∷ entries_of es) (sym same)
    ∙ (λ j. cond (sym t j) (record { begin = x.begin; client = x.client; reply = Some y }) (entry_of x) ∷ sym (replied_none n y es rest) j)
replied_at n y (x ∷ es) (suc i) e is at once =
    let whole : occurrences n (operation_numbers (entries_of (x ∷ es))) ≡ one_if_equal x.begin n + occurrences n (operation_numbers (entries_of es)) = times_next x.begin n (operation_numbers (entries_of es)) in
    elim (true_or_false (nat_eq x.begin n)) [
      | inl t ↦ (let o : one_if_equal x.begin n ≡ 1 = ap (λ b. cond b 1 0) t in let l : 0 < occurrences n (operation_numbers (entries_of es)) = occurs_at_index (operation_numbers (entries_of es)) i n at in absurd (omega arith))
      | inr f ↦
          let o : one_if_equal x.begin n ≡ 0 = one_if_equal_is_zero x.begin n f in
          let rest : occurrences n (operation_numbers (entries_of es)) ≡ 1 = omega arith in
          (λ j. cond (sym f j) (record { begin = x.begin; client = x.client; reply = Some y }) (entry_of x) ∷ replied_at n y es i e is at rest j)
    ]

below_names : (es : List Entry) (i n : ℕ) → slice_get (operation_numbers (entries_of es)) i ≡ Some n → i < length es
below_names [] i n h = absurd (cc)
below_names (x ∷ es) zero n h = omega arith
below_names (x ∷ es) (suc i) n h = let l = below_names es i n h in omega arith

some_name : (entry_index : Option ℕ) (i : ℕ) (ns : List ℕ) (n : ℕ) → entry_index ≡ Some i → IfSome entry_index (λ j. slice_get ns j ≡ Some n) → slice_get ns i ≡ Some n
some_name entry_index i ns n e h = subst (λ x. IfSome x (λ j. slice_get ns j ≡ Some n)) e h

module _ (n : ℕ) (m : Table) (ps : List NumberSet) (hs : List (Option ℕ)) (es : List Entry) (kept : IsWorld n m ps hs es) where
  same_names : (c : ℕ) (r : Running (List Command)) → operation_numbers (completed batches (world_of n m ps es) c (Some r)) ≡ operation_numbers (entries_of es)
  same_names c r =
      let y : List Reply = (answer_on_previous batches (world_of n m ps es) c r).1 in
      elim (true_or_false r.quits) as (λ _. operation_numbers (cond r.quits (entries_of es) (map_list (with_reply batches r.number y) (entries_of es))) ≡ operation_numbers (entries_of es)) [
        | inl q ↦ ap (λ b. operation_numbers (cond b (entries_of es) (map_list (with_reply batches r.number y) (entries_of es)))) q
        | inr q ↦ ap (λ b. operation_numbers (cond b (entries_of es) (map_list (with_reply batches r.number y) (entries_of es)))) q ∙ names_map (with_reply batches r.number y) (λ e. replied_begin r.number y e) (entries_of es)
      ]

  refused_not : (c : ℕ) (s : ClientState) → map.get m c ≡ Some s → refusal batches (world_of n m ps es).locks (machine.Step.End c) ≡ None → end_refusal batches s.running ≡ None
  refused_not c s has h =
      let k = midway_of batches (client_at batches (world_of n m ps es) c) (end_refusal batches) h in
      ap (end_refusal batches) (some_same (client_at batches (world_of n m ps es) c) s.running k.0 (runs n m ps hs es kept c s has) k.1) ∙ k.2

  pub end_goes : (c : ℕ) (s : ClientState) (es' : List Entry) → map.get m c ≡ Some s → entries_of es' ≡ completed batches (world_of n m ps es) c (Some s.running)
      → refusal batches (world_of n m ps es).locks (machine.Step.End c) ≡ None → Goes n m ps es (machine.Step.End c) n (map.remove m c) ps hs es'
  end_goes c s es' has order_is h =
      let v : BatchWorld = world_of n m ps es in
      let none = end_permitted batches s.running (refused_not c s has h) in
      let is : world_of n (map.remove m c) ps es' ≡ world_after batches v (machine.Step.End c) = (λ i. record {
        locks = record { begun = n; clients = values-remove (λ (s : ClientState). s.running) m c i };
        parts = ps;
        taken_content = values-remove (λ (s : ClientState). s.taken_content) m c i;
        order = (order_is ∙ sym (ap (completed batches v c) (runs n m ps hs es kept c s has))) i;
      }) in (
        is,
        next_world_invariant n n m (map.remove m c) ps ps hs hs es es' (machine.Step.End c) kept tt tt h is
            (λ reached d l. kept.held d l ∙ sym (holder_same v (world_of n (map.remove m c) ps es') reached d (λ q. elim (same_or q c) [
              | inl e ↦ ap (λ x. holds_in_call batches (client_at batches (world_of n (map.remove m c) ps es') x) d) e
                  ∙ ap (λ x. holds_in_call batches x d) (get-values (λ (s : ClientState). s.running) (map.remove m c) c ∙ ap (option_map (λ (s : ClientState). s.running)) (get-remove_same m c))
                  ∙ sym (ap (λ x. holds_in_call batches (client_at batches v x) d) e ∙ ap (λ x. holds_in_call batches x d) (runs n m ps hs es kept c s has) ∙ none d (in_twelve d l))
              | inr f ↦ ap (λ x. holds_in_call batches x d) (get-values (λ (s : ClientState). s.running) (map.remove m c) q ∙ ap (option_map (λ (s : ClientState). s.running)) (get-remove_other m c q f) ∙ sym (get-values (λ (s : ClientState). s.running) m q))
            ])))
            (λ q z g. elim (same_or q c) [
              | inl e ↦ absurd (let gone : map.get (map.remove m c) q ≡ None = ap (map.get (map.remove m c)) e ∙ get-remove_same m c in cc (g, gone))
              | inr f ↦ subst (λ ns. HasEntryIndex ns z.running z.entry_index) (sym (ap operation_numbers order_is ∙ same_names c s.running)) (kept.placed q z (sym (get-remove_other m c q f) ∙ g))
            ]),
      )

  -- an operation that ends without quitting is committed
  pub ends_committed : (c : ℕ) (s : ClientState) → map.get m c ≡ Some s → refusal batches (world_of n m ps es).locks (machine.Step.End c) ≡ None → s.running.quits ≡ false → is_some s.entry_index ≡ true
  ends_committed c s has h q =
      let r : Running (List Command) = s.running in
      let inv = reached_explained batches (world_of n m ps es) kept.reached in
      let own = inv.1.client c r (runs n m ps hs es kept c s has) in
      let allowed = refused_not c s has h in
      let some = end_taken batches r allowed q in
      let f = own.local.some in
      let t = took_one batches r f.0 f.1 f.2 (λ zero. absurd_bool (nat_eq r.taken 0) (eq-eqb r.taken 0 zero) some) in
      let low = (taken_footprint batches r t.0 t.1).0 in
      let none : holds batches r t.0 ≡ false = end_permitted batches r allowed t.0 (in_twelve t.0 low) in
      sym (kept.placed c s has).0 ∙ elim (true_or_false (set.contains r.given t.0)) [
        | inl g ↦ elim (own.sound.why t.0 g) [
          | inl e ↦ is_any_of r.edited t.0 e
          | inr u ↦ absurd_bool r.quits u q
        ]
        | inr g ↦ absurd_bool (holds batches r t.0) (and_is_true t.1 (not_of_false g)) none
      ]

  -- an operation that quits is not committed
  pub quits_uncommitted : (c : ℕ) (s : ClientState) → map.get m c ≡ Some s → s.entry_index ≡ None → refusal batches (world_of n m ps es).locks (machine.Step.End c) ≡ None → s.running.quits ≡ true
  quits_uncommitted c s has none h = elim (true_or_false s.running.quits) [
    | inl q ↦ q
    | inr q ↦ absurd (let some : is_some s.entry_index ≡ true = ends_committed c s has h q in let not_some : is_some s.entry_index ≡ false = ap is_some none in absurd_bool (is_some s.entry_index) some not_some)
  ]

  pub committed_stays : (c : ℕ) (s : ClientState) → map.get m c ≡ Some s → is_some s.entry_index ≡ true → s.running.quits ≡ false
  committed_stays c s has some =
      let inv = reached_explained batches (world_of n m ps es) kept.reached in
      let own = inv.1.client c s.running (runs n m ps hs es kept c s has) in
      not_true_false s.running.quits (λ q. absurd_bool (is_nonempty s.running.edited) ((kept.placed c s has).0 ∙ some) (own.sound.clean q))

  pub quit_ends : (c : ℕ) (s : ClientState) → map.get m c ≡ Some s → s.entry_index ≡ None → refusal batches (world_of n m ps es).locks (machine.Step.End c) ≡ None
      → Goes n m ps es (machine.Step.End c) n (map.remove m c) ps hs es
  quit_ends c s has none h =
      let r : Running (List Command) = s.running in
      end_goes c s es has
      (sym (ap (λ b. cond b (entries_of es) (map_list (with_reply batches r.number (answer_on_previous batches (world_of n m ps es) c r).1) (entries_of es))) (quits_uncommitted c s has none h))) h

  pub quit_silent : (c : ℕ) (s : ClientState) → map.get m c ≡ Some s → s.entry_index ≡ None → refusal batches (world_of n m ps es).locks (machine.Step.End c) ≡ None
      → reply_to batches (world_of n m ps es) (machine.Step.End c) ≡ None
  quit_silent c s has none h =
      ap (ended_reply batches (world_of n m ps es) c) (runs n m ps hs es kept c s has)
      ∙ ap (λ b. cond b None (Some (answer_on_previous batches (world_of n m ps es) c s.running).1)) (quits_uncommitted c s has none h)

  -- the index of its entry
  pub entry_place : (c : ℕ) (s : ClientState) (i : ℕ) → map.get m c ≡ Some s → s.entry_index ≡ Some i → i < length es
  entry_place c s i has at = below_names es i s.running.number (some_name s.entry_index i (operation_numbers (entries_of es)) s.running.number at (kept.placed c s has).1)

  reply_is : (c : ℕ) (s : ClientState) → map.get m c ≡ Some s → (answer_on_previous batches (world_of n m ps es) c s.running).1 ≡ replies_on s.taken_content s.running.operation
  reply_is c s has = ap (λ F. replies_on F s.running.operation) (previous_is n m ps hs es kept c s has)

  pub done_ends : (c : ℕ) (s : ClientState) (i : ℕ) (e : Entry) (y : List Reply) → map.get m c ≡ Some s → s.entry_index ≡ Some i → slice_get es i ≡ Some e → y ≡ replies_on s.taken_content s.running.operation
      → refusal batches (world_of n m ps es).locks (machine.Step.End c) ≡ None → Goes n m ps es (machine.Step.End c) n (map.remove m c) ps hs (set_at es i (entry_with_replies e y))
  done_ends c s i e y has at there y_is h =
      let r : Running (List Command) = s.running in
      let inv = reached_explained batches (world_of n m ps es) kept.reached in
      let some : is_some s.entry_index ≡ true = ap is_some at in
      let own = inv.1.client c r (runs n m ps hs es kept c s has) in
      let once : occurrences r.number (operation_numbers (entries_of es)) ≡ 1 = inv.1.named r.number ∙ ap (λ x. cond (is_committed x) 1 0) own.opened ∙ ap (λ b. cond b 1 0) ((kept.placed c s has).0 ∙ some) in
      end_goes c s (set_at es i (entry_with_replies e y)) has
      (replied_at r.number y es i e there (some_name s.entry_index i (operation_numbers (entries_of es)) r.number at (kept.placed c s has).1) once
      ∙ ap (λ z. map_list (with_reply batches r.number z) (entries_of es)) (y_is ∙ sym (reply_is c s has))
      ∙ sym (ap (λ b. cond b (entries_of es) (map_list (with_reply batches r.number (answer_on_previous batches (world_of n m ps es) c r).1) (entries_of es))) (committed_stays c s has some))) h

  pub done_tells : (c : ℕ) (s : ClientState) (y : List Reply) → map.get m c ≡ Some s → is_some s.entry_index ≡ true → y ≡ replies_on s.taken_content s.running.operation
      → Some y ≡ reply_to batches (world_of n m ps es) (machine.Step.End c)
  done_tells c s y has some y_is =
      ap (λ z. Some z) (y_is ∙ sym (reply_is c s has))
      ∙ sym (ap (ended_reply batches (world_of n m ps es) c) (runs n m ps hs es kept c s has)
      ∙ ap (λ b. cond b None (Some (answer_on_previous batches (world_of n m ps es) c s.running).1)) (committed_stays c s has some))

pub read_at : {X : Type 0} (xs : List X) (i : ℕ) (x : X) → i < length xs → x ≡ get_or xs i x → slice_get xs i ≡ Some x
read_at [] i x l h = absurd (omega arith)
read_at (y ∷ xs) zero x l h = ap (λ z. Some z) (sym h)
read_at (y ∷ xs) (suc i) x l h = read_at xs i x (omega arith) h
