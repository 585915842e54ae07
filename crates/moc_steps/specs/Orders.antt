-- The operations of a list of steps, and when an order of them explains the steps.
use Rattle.std.specs.Prelude.{ℕ, Bool, true, false, not, ◌&&◌, nat_eq, List, [], ◌∷◌, ◌++◌, map as map_list}
use Rattle.std.specs.Prelude.{if◌then◌else◌, count_by, fold, ◌≡◌, ◌<◌, ◌≤◌, length, Option, None, Some, option_map}
use Rattle.std.specs.Prelude.{slice_get, ◌+◌, ◌*◌, sum_by}
use Rattle.moc_steps.specs.Machine.{Step, Entry, Clients, twelve}
use Rattle.moc_steps.specs.Machine.Step.{Begin, Take, Edit, Give, Quit, End}
use Rattle.std.specs.Option.{option_map_or}
use Rattle.moc_lists.specs.RangeList.{NumberSet}
use Rattle.moc_parts.specs.Objects.{Object}
use Rattle.std.specs.List.{AllByRecursion}
use Rattle.std.specs.FinMap as map

-- The operations of steps

-- the state of an operation
pub record OperationState (Op : Type 0) : Type 0 where
  pub client : ℕ
  pub operation : Op
  -- the operation has edited a part
  pub committed : Bool
  pub quits : Bool
  pub ended : Bool

module _ {Op : Type 0} where
  -- an operation at its Begin
  abbrev pub new_operation : ℕ → Op → OperationState Op
  new_operation c op = record { client = c; operation = op; committed = false; quits = false; ended = false }

  -- an operation of the client that has not ended
  abbrev pub is_open : ℕ → OperationState Op → Bool
  is_open c x = nat_eq x.client c && not x.ended

  -- a change of the client's operation that has not ended
  abbrev pub with_open : ℕ → (OperationState Op → OperationState Op) → List (OperationState Op)
      → List (OperationState Op)
  with_open c f xs = map_list (λ x. if is_open c x then f x else x) xs

  -- the operations after one more step
  abbrev pub operations_after : List (OperationState Op) → Step Op → List (OperationState Op)
  operations_after xs (Begin c op) = xs ++ new_operation c op ∷ []
  operations_after xs (Edit c b) = with_open c (λ x. record x { committed = true }) xs
  operations_after xs (Quit c) = with_open c (λ x. record x { quits = true }) xs
  operations_after xs (End c) = with_open c (λ x. record x { ended = true }) xs
  operations_after xs step = xs

  -- the operations of steps; operation n is at index n
  abbrev pub operations : List (Step Op) → List (OperationState Op)
  operations steps = fold operations_after [] steps

  -- the number of operations that have not ended
  abbrev pub midway : List (Step Op) → ℕ
  midway steps = count_by (λ x. not x.ended) (operations steps)

-- Orders that explain steps

-- the number of occurrences of n in a list
abbrev pub occurrences : ℕ → List ℕ → ℕ
occurrences n ns = count_by (λ x. nat_eq x n) ns

-- the numbers of the operations in the order
abbrev pub operation_numbers : {Reply : Type 0} → List (Entry Reply) → List ℕ
operation_numbers order = map_list (λ e. e.begin) order

-- a comes before b
abbrev pub ComesBefore : ℕ → ℕ → List ℕ → Type 0
ComesBefore a b ns = (front back : List ℕ) × (ns ≡ front ++ back) × (0 < occurrences a front) × (0 < occurrences b back)

module _ {Op : Type 0} where
  -- the operation exists and has edited a part
  abbrev pub is_committed : Option (OperationState Op) → Bool
  is_committed o = option_map_or (λ x. x.committed) o false

  -- a's End comes before b's Begin: at some moment, a has ended and b has not begun
  abbrev pub EndsBefore : ℕ → ℕ → List (Step Op) → Type 0
  EndsBefore a b steps =
      (front back : List (Step Op)) × (steps ≡ front ++ back)
      × (option_map_or (λ x. x.ended) (slice_get (operations front) a) false ≡ true) × (length (operations front) ≤ b)

module _ {Op Reply : Type 0} (o : Object Op Reply) where
  -- the set after an operation that is executed alone, and its reply if it has ended and not quit
  abbrev pub executed_alone : NumberSet → Option (OperationState Op) → NumberSet × Option Reply
  executed_alone A None = (A, None)
  executed_alone A (Some x) =
      let answer = o.answer A x.operation in (answer.0, if x.ended && not x.quits then Some answer.1 else None)

  -- each entry has the client of its operation, and the reply of the operation executed after the preceding entries
  abbrev pub HaveReplies : List (OperationState Op) → List (Entry Reply) → NumberSet → Type 0
  HaveReplies xs [] A = Unit {0}
  HaveReplies xs (e ∷ order) A =
      (option_map (λ x. x.client) (slice_get xs e.begin) ≡ Some e.client)
      × (e.reply ≡ (executed_alone A (slice_get xs e.begin)).1)
      × HaveReplies xs order (executed_alone A (slice_get xs e.begin)).0

  -- the set after executing the operations one by one in the order
  abbrev pub set_by_order : List (Entry Reply) → List (Step Op) → NumberSet → NumberSet
  set_by_order order steps start =
      fold (λ A e. (executed_alone A (slice_get (operations steps) e.begin)).0) start order

  -- The order explains the steps: it has the committed operations in real-time order, with their replies.
  pub record Explains (order : List (Entry Reply)) (steps : List (Step Op)) (start : NumberSet) : Type 0 where
    -- each committed operation has one entry, and no other operation has an entry
    pub named : (n : ℕ)
        → occurrences n (operation_numbers order) ≡ (if is_committed (slice_get (operations steps) n) then 1 else 0)
    -- an operation that ended before another began comes first
    pub in_time : (a b : ℕ) → 0 < occurrences a (operation_numbers order)
        → 0 < occurrences b (operation_numbers order) → EndsBefore a b steps
        → ComesBefore a b (operation_numbers order)
    pub replies : HaveReplies (operations steps) order start

-- Steps that lead midway clients to their ends

module _ {Op : Type 0} where
  -- neither a Begin nor a Quit
  abbrev pub is_progress : Step Op → Bool
  is_progress (Begin c op) = false
  is_progress (Quit c) = false
  is_progress step = true

  -- the client of a step
  abbrev pub client_of : Step Op → ℕ
  client_of (Begin c op) = c
  client_of (Take c) = c
  client_of (Edit c b) = c
  client_of (Give c b) = c
  client_of (Quit c) = c
  client_of (End c) = c

  -- no step is a Begin or a Quit
  abbrev pub AreProgress : List (Step Op) → Type 0
  AreProgress steps = AllByRecursion (λ step. is_progress step ≡ true) steps

module _ {Op Reply : Type 0} (o : Object Op Reply) where
  -- three steps for each part in the footprints of midway clients (Take, Edit, Give), and an End for each client
  abbrev pub steps_left : Clients Op → ℕ
  steps_left m = sum_by
      (λ c. option_map_or (λ r. 3 * count_by (o.footprint r.operation) twelve + 1) (map.get m c) 0) (map.keys m)

-- an operation that is midway, has not quit and has not edited a part
abbrev pub is_pending : {Op : Type 0} → Option (OperationState Op) → Bool
is_pending o = option_map_or (λ x. not x.ended && (not x.quits && not x.committed)) o false
