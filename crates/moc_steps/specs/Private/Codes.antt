-- Encodings of worlds and of the values of private types.
use Rattle.std.specs.Prelude.{ℕ, Bool, List, Option, refl}
use Rattle.std.specs.Ordering.{nat_cmp}
use Rattle.std.specs.FinSet as set
use Rattle.std.specs.FinMap as map
use Rattle.std.specs.Coded.{Coded, code_by, coded×, coded_ℕ, coded_bool, coded_list, coded_option}
use Rattle.moc_lists.specs.RangeList.{NumberSet}
use Rattle.moc_parts.specs.contracts.batch.Batch as batch
use Rattle.moc_parts.specs.contracts.reply.Replies as replies
use Rattle.moc_parts.specs.declared.command.Command.{Command}
use Rattle.moc_parts.specs.declared.reply.Reply.{Reply}
use Rattle.moc_steps.specs.Machine.{Running, Locks, Clients, World, Entry}
use Rattle.moc_steps.specs.Private.ClientState.{ClientState, UpdateResult}

-- a set of numbers
abbrev pub numbers_code : Coded NumberSet
numbers_code = set.code coded_ℕ

module _ {Op : Type 0} (op_code : Coded Op) where
  -- a client that is midway
  abbrev pub running_code : Coded (Running Op)
  running_code =
      code_by (ℕ × (Op × (ℕ × (NumberSet × (NumberSet × Bool)))))
      (coded× coded_ℕ (coded× op_code (coded× coded_ℕ (coded× numbers_code (coded× numbers_code coded_bool)))))
      (λ r. (r.number, (r.operation, (r.taken, (r.edited, (r.given, r.quits))))))
      (λ p. record {
        number = p.0;
        operation = p.1.0;
        taken = p.1.1.0;
        edited = p.1.1.1.0;
        given = p.1.1.1.1.0;
        quits = p.1.1.1.1.1;
      })
      (λ _. refl)

  -- the locks
  abbrev pub locks_code : Coded (Locks Op)
  locks_code =
      code_by (ℕ × Clients Op) (coded× coded_ℕ (map.code coded_ℕ running_code))
      (λ s. (s.begun, s.clients)) (λ p. record { begun = p.0; clients = p.1 }) (λ _. refl)

-- an entry of the order
abbrev pub entry_code : {Reply : Type 0} → Coded Reply → Coded (Entry Reply)
entry_code {Reply} reply_code =
    code_by (ℕ × (ℕ × Option Reply)) (coded× coded_ℕ (coded× coded_ℕ (coded_option reply_code)))
    (λ e. (e.begin, (e.client, e.reply))) (λ p. record { begin = p.0; client = p.1.0; reply = p.1.1 }) (λ _. refl)

-- a world
abbrev pub machine_code : {Op Reply : Type 0} → Coded Op → Coded Reply → Coded (World Op Reply)
machine_code {Op} {Reply} op_code reply_code =
    code_by (Locks Op × (List NumberSet × (map.FinMap nat_cmp NumberSet × List (Entry Reply))))
    (coded× (locks_code op_code) (coded× (coded_list numbers_code)
    (coded× (map.code coded_ℕ numbers_code) (coded_list (entry_code reply_code)))))
    (λ w. (w.locks, (w.parts, (w.taken_content, w.order))))
    (λ p. record { locks = p.0; parts = p.1.0; taken_content = p.1.1.0; order = p.1.1.1 }) (λ _. refl)

-- a world of batches
abbrev pub world_code : Coded (World (List Command) (List Reply))
world_code = machine_code batch.the_row.coded replies.the_row.coded

-- the state of a client
abbrev pub client_state_code : Coded ClientState
client_state_code =
    code_by (Running (List Command) × (NumberSet × Option ℕ))
    (coded× (running_code batch.the_row.coded) (coded× numbers_code (coded_option coded_ℕ)))
    (λ s. (s.running, (s.taken_content, s.entry_index)))
    (λ p. record { running = p.0; taken_content = p.1.0; entry_index = p.1.1 }) (λ _. refl)

-- the result of an operation
abbrev pub update_result_code : Coded UpdateResult
update_result_code =
    code_by (ℕ × (List (Option NumberSet) × List Reply))
    (coded× coded_ℕ (coded× (coded_list (coded_option numbers_code)) replies.the_row.coded))
    (λ m. (m.entry_index, (m.lists, m.replies)))
    (λ p. record { entry_index = p.0; lists = p.1.0; replies = p.1.1 }) (λ _. refl)

-- a table of clients
abbrev pub table_code : Coded (map.FinMap nat_cmp ClientState)
table_code = map.code coded_ℕ client_state_code
