-- The invariant of worlds in the program, step by step.
use Rattle.std.proofs.Common.{◌≡◌, ◌≢◌, ℕ, suc, ◌<◌, ◌^◌, true, false, inl, inr, List, [], ◌∷◌, Option, None, Some}
use Rattle.std.proofs.Common.{get_or, option_map, refl, sym, ap, subst, ◌∙◌}
use Rattle.std.specs.Ordering.{nat_cmp}
use Rattle.std.specs.FinSet as set
use Rattle.std.specs.FinMap as map
use Rattle.moc_lists.specs.RangeList.{NumberSet}
use Rattle.moc_parts.specs.Batches.{batches}
use Rattle.moc_parts.specs.declared.command.Command.{Command}
use Rattle.moc_steps.specs.Machine as machine
use Rattle.moc_steps.specs.Machine.{Running, Locks, Clients, AreLocal, new_running, with_client, holds}
use Rattle.moc_steps.specs.Machine.{holder, refusal, world_after, client_at}
use Rattle.moc_steps.specs.Orders.{operation_numbers}
use Rattle.moc_steps.specs.Theorems.{IsReachable}
use Rattle.moc_steps.specs.Private.ClientState.{ClientState}
use Rattle.moc_steps.specs.Played.{BatchWorld, entries_of}
use Rattle.moc_steps.specs.Private.Worlds.{HasEntryIndex, IsWorld, map_values, world_of}
use Rattle.moc_steps.specs.declared.step.Entry.{Entry}
use Rattle.moc_steps.proofs.Cases.{changed, holds_in_call}
use Rattle.moc_steps.proofs.Basics.{absurd_bool, some_same, none_or_some, not_true_false, same_or, get-insert_same}
use Rattle.moc_steps.proofs.Basics.{get-insert_other, get-remove_same, get-remove_other}
use Rattle.moc_steps.proofs.Headline.{locks_are}
use Rattle.moc_steps.proofs.TakingParts.{nobody_holds, holder_holds}
use Rattle.moc_steps.proofs.AnyObject.{reached_explained, step_reached}
use Rattle.moc_steps.proofs.Values.{get-values, values-insert, insert_same_entry}

abbrev pub Table : Type 0
Table = map.FinMap nat_cmp ClientState

abbrev pub clients_of : Table → Clients (List Command)
clients_of m = map_values (λ s. s.running) m

abbrev pub taken_content_is : Table → map.FinMap nat_cmp NumberSet
taken_content_is m = map_values (λ s. s.taken_content) m

-- a changed client, among the clients of the machine
pub clients_changed : (n : ℕ) (m : Table) (c : ℕ) (s s' : ClientState) (f : Running (List Command) → Running (List Command)) → map.get m c ≡ Some s → s'.running ≡ f s.running
    → record { begun = n; clients = clients_of (map.insert m c s') } ≡ with_client batches (record { begun = n; clients = clients_of m }) c f
clients_changed n m c s s' f is e =
    let x : Option (Running (List Command)) = map.get (clients_of m) c in
    let x_is : x ≡ Some s.running = get-values (λ (s : ClientState). s.running) m c ∙ ap (option_map (λ (s : ClientState). s.running)) is in
    ap (λ (k : Clients (List Command)). record { begun = n; clients = k }) (values-insert (λ (s : ClientState). s.running) m c s' ∙ ap (map.insert (clients_of m) c) e)
    ∙ ap (λ y. record { begun = n; clients = changed batches (clients_of m) c y f }) (sym x_is)

-- a client whose taken contents do not change
pub previous_same : (m : Table) (c : ℕ) (s s' : ClientState) → map.get m c ≡ Some s → s'.taken_content ≡ s.taken_content → taken_content_is (map.insert m c s') ≡ taken_content_is m
previous_same m c s s' is e =
    values-insert (λ (s : ClientState). s.taken_content) m c s' ∙ ap (map.insert (taken_content_is m) c) e
    ∙ insert_same_entry (taken_content_is m) c s.taken_content (get-values (λ (s : ClientState). s.taken_content) m c ∙ ap (option_map (λ (s : ClientState). s.taken_content)) is)

-- the holder of a part
pub holder_of : (w : BatchWorld) → IsReachable batches w → (c b : ℕ) (r : Running (List Command)) → client_at batches w c ≡ Some r → holds batches r b ≡ true → holder batches w.locks.clients b ≡ Some c
holder_of w reached c b r is h =
    let inv = reached_explained batches w reached in
    elim (none_or_some (holder batches w.locks.clients b)) [
      | inl e ↦ absurd_bool (holds batches r b) h (nobody_holds batches w.locks.clients b c r e is)
      | inr e ↦ let k = holder_holds batches w.locks.clients b e.0 e.1 in e.1 ∙ ap (λ d. Some d) (inv.1.alone e.0 c k.0 r b k.1 is k.2 h)
    ]

pub holder_nobody : (m : Clients (List Command)) (b : ℕ) → ((c : ℕ) (r : Running (List Command)) → map.get m c ≡ Some r → holds batches r b ≡ false) → holder batches m b ≡ None
holder_nobody m b none = elim (none_or_some (holder batches m b)) [
  | inl e ↦ e
  | inr e ↦ let k = holder_holds batches m b e.0 e.1 in absurd_bool (holds batches k.0 b) k.2 (none e.0 k.0 k.1)
]

holds_now_of_running : (x : Option (Running (List Command))) (b : ℕ) (r : Running (List Command)) → x ≡ Some r → holds_in_call batches x b ≡ holds batches r b
holds_now_of_running x b r e = ap (λ y. holds_in_call batches y b) e

running_of_holds_now : (x : Option (Running (List Command))) (b : ℕ) → holds_in_call batches x b ≡ true → (r : Running (List Command)) × (x ≡ Some r) × (holds batches r b ≡ true)
running_of_holds_now None b h = absurd (cc)
running_of_holds_now (Some r) b h = (r, refl, h)

-- a step after which each client holds the part if and only if it held it before
pub holder_same : (w w' : BatchWorld) → IsReachable batches w' → (b : ℕ) → ((q : ℕ) → holds_in_call batches (client_at batches w' q) b ≡ holds_in_call batches (client_at batches w q) b)
    → holder batches w'.locks.clients b ≡ holder batches w.locks.clients b
holder_same w w' reached b same = elim (none_or_some (holder batches w.locks.clients b)) [
  | inl e ↦ holder_nobody w'.locks.clients b (λ q r is. not_true_false (holds batches r b) (λ h.
      let k = running_of_holds_now (client_at batches w q) b (sym (same q) ∙ holds_now_of_running (client_at batches w' q) b r is ∙ h) in absurd_bool (holds batches k.0 b) k.2 (nobody_holds batches w.locks.clients b q k.0 e k.1))) ∙ sym e
  | inr e ↦
      let k = holder_holds batches w.locks.clients b e.0 e.1 in
      let t = running_of_holds_now (client_at batches w' e.0) b (same e.0 ∙ holds_now_of_running (client_at batches w e.0) b k.0 k.1 ∙ k.2) in
      holder_of w' reached e.0 b t.0 t.1 t.2 ∙ sym e.1
]

-- the number of a client that begins is below 2^32
abbrev pub BeginsSmall : machine.Step (List Command) → Type 0
BeginsSmall (machine.Step.Begin c op) = c < 2 ^ 32
BeginsSmall (machine.Step.Take c) = Unit {0}
BeginsSmall (machine.Step.Edit c b) = Unit {0}
BeginsSmall (machine.Step.Give c b) = Unit {0}
BeginsSmall (machine.Step.Quit c) = Unit {0}
BeginsSmall (machine.Step.End c) = Unit {0}

-- the numbers of these clients are below 2^32
abbrev pub AreSmall : Clients (List Command) → Type 0
AreSmall m = (c : ℕ) (r : Running (List Command)) → map.get m c ≡ Some r → c < 2 ^ 32

small_insert : (m : Clients (List Command)) (c : ℕ) (t : Running (List Command)) → AreSmall m → c < 2 ^ 32 → AreSmall (map.insert m c t)
small_insert m c t h l q r is = elim (same_or q c) [
  | inl e ↦ subst (λ x. x < 2 ^ 32) (sym e) l
  | inr d ↦ h q r (sym (get-insert_other m c t q d) ∙ is)
]

small_change : (m : Clients (List Command)) (c : ℕ) (x : Option (Running (List Command))) (f : Running (List Command) → Running (List Command)) → map.get m c ≡ x → AreSmall m → AreSmall (changed batches m c x f)
small_change m c None f has h = h
small_change m c (Some r) f has h = small_insert m c (f r) h (h c r has)

small_step : (l : Locks (List Command)) (step : machine.Step (List Command)) → AreSmall l.clients → BeginsSmall step → AreSmall (machine.locks_after batches l step).clients
small_step l (machine.Step.Begin c op) h b = small_insert l.clients c (new_running batches l.begun op) h b
small_step l (machine.Step.Take c) h b = small_change l.clients c (map.get l.clients c) (λ r. record r { taken = suc r.taken }) refl h
small_step l (machine.Step.Edit c p) h b = small_change l.clients c (map.get l.clients c) (λ r. record r { edited = set.insert r.edited p }) refl h
small_step l (machine.Step.Give c p) h b = small_change l.clients c (map.get l.clients c) (λ r. record r { given = set.insert r.given p }) refl h
small_step l (machine.Step.Quit c) h b = small_change l.clients c (map.get l.clients c) (λ r. record r { quits = true }) refl h
small_step l (machine.Step.End c) h b = λ q r is. elim (same_or q c) [
  | inl e ↦ absurd (let gone : map.get (map.remove l.clients c) q ≡ None = ap (map.get (map.remove l.clients c)) e ∙ get-remove_same l.clients c in cc (gone, is))
  | inr d ↦ h q r (sym (get-remove_other l.clients c q d) ∙ is)
]

-- the invariant of the next world, from its holders and the indices of its entries
pub next_world_invariant : (n n' : ℕ) (m m' : Table) (ps ps' : List NumberSet) (hs hs' : List (Option ℕ)) (es es' : List Entry) (step : machine.Step (List Command))
    → IsWorld n m ps hs es → AreLocal batches (step ∷ []) → BeginsSmall step → refusal batches (world_of n m ps es).locks step ≡ None
    → world_of n' m' ps' es' ≡ world_after batches (world_of n m ps es) step
    → (IsReachable batches (world_of n' m' ps' es') → (b : ℕ) → b < 12 → get_or hs' b None ≡ holder batches (clients_of m') b)
    → ((c : ℕ) (s : ClientState) → map.get m' c ≡ Some s → HasEntryIndex (operation_numbers (entries_of es')) s.running s.entry_index)
    → IsWorld n' m' ps' hs' es'
next_world_invariant n n' m m' ps ps' hs hs' es es' step kept local small permitted is held placed =
    let reached : IsReachable batches (world_of n' m' ps' es') = subst (λ w. IsReachable batches w) (sym is) (step_reached batches (world_of n m ps es) step kept.reached local permitted) in
    record {
      reached = reached;
      held = held reached;
      small = subst (λ (w : BatchWorld). AreSmall w.locks.clients) (sym is) (subst (λ (l : Locks (List Command)). AreSmall l.clients) (locks_are batches (world_of n m ps es) step) (small_step (world_of n m ps es).locks step kept.small small));
      placed = placed;
    }

-- a property of the client that is inserted, and of all others
pub at_each : (m : Table) (c : ℕ) (s' : ClientState) (P : ℕ → ClientState → Type 0) → P c s' → ((q : ℕ) (s : ClientState) → q ≢ c → map.get m q ≡ Some s → P q s) → (q : ℕ) (s : ClientState) → map.get (map.insert m c s') q ≡ Some s → P q s
at_each m c s' P own others q s h = elim (same_or q c) [
  | inl e ↦ subst (λ d. P d s) (sym e) (subst (P c) (some_same (map.get (map.insert m c s') c) s' s (get-insert_same m c s') (ap (map.get (map.insert m c s')) (sym e) ∙ h)) own)
  | inr d ↦ others q s d (sym (get-insert_other m c s' q d) ∙ h)
]

pub running_of : (n : ℕ) (m : Table) (ps : List NumberSet) (es : List Entry) (q : ℕ) → client_at batches (world_of n m ps es) q ≡ option_map (λ (s : ClientState). s.running) (map.get m q)
running_of n m ps es q = get-values (λ (s : ClientState). s.running) m q

-- a client that still holds the same parts
pub same_on : (n n' : ℕ) (m : Table) (ps ps' : List NumberSet) (es es' : List Entry) (c b : ℕ) (s s' : ClientState) → map.get m c ≡ Some s → holds batches s'.running b ≡ holds batches s.running b
    → (q : ℕ) → holds_in_call batches (client_at batches (world_of n' (map.insert m c s') ps' es') q) b ≡ holds_in_call batches (client_at batches (world_of n m ps es) q) b
same_on n n' m ps ps' es es' c b s s' is same q =
    ap (λ x. holds_in_call batches x b) (running_of n' (map.insert m c s') ps' es' q)
    ∙ elim (same_or q c) [
      | inl e ↦ ap (λ x. holds_in_call batches (option_map (λ (s : ClientState). s.running) x) b) (ap (map.get (map.insert m c s')) e ∙ get-insert_same m c s') ∙ same
          ∙ sym (ap (λ x. holds_in_call batches (option_map (λ (s : ClientState). s.running) x) b) (ap (map.get m) e ∙ is))
      | inr d ↦ ap (λ x. holds_in_call batches (option_map (λ (s : ClientState). s.running) x) b) (get-insert_other m c s' q d)
    ]
    ∙ sym (ap (λ x. holds_in_call batches x b) (running_of n m ps es q))

-- a Quit
pub quits : ClientState → ClientState
quits s = record { running = record s.running { quits = true }; taken_content = s.taken_content; entry_index = s.entry_index }
