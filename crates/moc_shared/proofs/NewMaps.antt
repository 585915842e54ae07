-- The slots and clients of a new map.
use Rattle.std.proofs.Common.{All, rules, ◌≡◌, ◌⊎◌, ℕ, zero, suc, ◌+◌, ◌-◌, ◌<◌, List, [], ◌∷◌, ◌++◌, map, length}
use Rattle.std.proofs.Common.{get_or, refl, sym, ap, ◌∙◌, subst, inl, inr, ⊎_elim, arith, length-append, Option, Some}
use Rattle.std.specs.Prelude.{slice_index}
use mathlib.Core.Option.{some, some-ne-none, some-injective}
use mathlib.Core.Logic.{dite}
use native.Mathlib.Decide.{ℕ_discrete}
use lib.ListN.{get_elem?}
use Rattle.std.proofs.lemmas.List.Elements.{All-from_get_or}
use Rattle.std.proofs.lemmas.List.{get_or_push, get_or_append_left}
use Rattle.atomic_table.specs.Table.{opening}
use Rattle.std.specs.Arc.{arc_value}
use Rattle.moc_lists.specs.RangeList.{NumberSet}
use Rattle.moc_ranges.specs.Operations.{part_of}
use Rattle.moc_parts.specs.declared.command.Command.{Command}
use Rattle.moc_parts.specs.declared.reply.Reply.{Reply}
use Rattle.moc_shared.specs.declared.map.SharedMap.{SharedMap}
use Rattle.moc_shared.specs.declared.client.Client.{Client}
use Rattle.moc_shared.specs.History.{StandsFor, new_client_record}
use Rattle.moc_shared.specs.Seats.{table_index, Pointer, ClientView}
use Rattle.moc_shared.specs.Private.Invariant.{TableInvariant}
use Rattle.moc_shared.specs.Private.Seats.{content, part, IsInSky}
use Rattle.moc_shared.specs.Private.StepEffects.{first_record}
use Rattle.moc_shared.specs.Private.InitialViews.{view_for, new_client_records, first_view, rest_view}
use Rattle.moc_shared.specs.Batches.{batch_answer}
use Rattle.moc_shared.specs.Private.InitialSlots.{ArePartsOf}
use Rattle.moc_shared.specs.Clients.{start_of, clients_of, IsClientOf, IsNewClient, AreNewClients}
use Rattle.moc_shared.proofs.InitialState.{begins, stood_same}

get_of_mapped : (xs : List (Option Pointer)) (b : ℕ) (x : Option Pointer) → get_elem? (map some xs) b ≡ some (some x)
    → get_elem? xs b ≡ some x
get_of_mapped [] b x e = absurd (some-ne-none (some x) (sym e))
get_of_mapped (y ∷ ys) zero x e = some-injective (some y) (some x) e
get_of_mapped (y ∷ ys) (suc b) x e = get_of_mapped ys b x e

pub made : (words : List ℕ) (start : NumberSet) (slots : List (Option Pointer)) (clients : ℕ) → length words ≡ table_index 12
    → ((b : ℕ) → slice_index words b ≡ 0) → ArePartsOf start slots (table_index 12) → IsInSky start
    → TableInvariant 12 content part batch_answer IsInSky start clients (opening words slots (first_view start clients))
made words start slots clients word_count zeros stand within =
    begins 12 content part batch_answer IsInSky start clients words slots word_count stand.0 zeros
    (λ b x e. stand.1 b x (get_of_mapped slots (table_index b) x e)) within

last_of_appended : (xs : List (Option Pointer)) (x y : Option Pointer) (b : ℕ) → get_elem? (xs ++ x ∷ []) b ≡ some y
    → (get_elem? xs b ≡ some y) ⊎ ((b ≡ length xs) × (x ≡ y))
last_of_appended [] x y zero e = inr (refl, some-injective x y e)
last_of_appended [] x y (suc b) e = absurd (some-ne-none y (sym e))
last_of_appended (z ∷ zs) x y zero e = inl e
last_of_appended (z ∷ zs) x y (suc b) e = ⊎_elim (λ l. inl l) (λ t. inr (ap suc t.0, t.1)) (last_of_appended zs x y b e)

pub one_slot : (a : NumberSet) (slots after : List (Option Pointer)) (k : ℕ) (x : Option Pointer)
    → after ≡ slots ++ x ∷ [] → ((b : ℕ) → table_index b ≡ k → content x ≡ part b a) → ArePartsOf a slots k
    → ArePartsOf a after (k + 1)
one_slot a slots after k x is new before = (
  ap (λ (l : List (Option Pointer)). length l) is ∙ length-append slots (x ∷ []) ∙ (let e = before.0 in omega arith),
  λ b y e. ⊎_elim (λ o. before.1 b y o) (λ t. ap content (sym t.1) ∙ new b (t.0 ∙ before.0))
      (last_of_appended slots x y (table_index b) (subst (λ (l : List (Option Pointer)). get_elem? l (table_index b) ≡ some y) is e)),
)

view_with_new_record : (start : NumberSet) (n c : ℕ) (v : ClientView) → v ≡ view_for start n (new_client_records c (n - c)) → c < n
    → v ≡ view_for start n (new_client_record c ∷ new_client_records (suc c) (n - (c + 1)))
view_with_new_record start n c v is l = is
    ∙ ap (λ (k : ℕ). let w : ClientView = view_for start n (new_client_records c k) in w)
    (let e : n - c ≡ suc (n - (c + 1)) = omega arith in e)

pub view_of_new_record : (start : NumberSet) (n c : ℕ) (v : ClientView) → v ≡ view_for start n (new_client_records c (n - c)) → c < n
    → StandsFor v.mine v.mine.number
view_of_new_record start n c v is l =
    subst (λ (w : ClientView). StandsFor w.mine w.mine.number) (sym (view_with_new_record start n c v is l))
    (let e = stood_same (List Command) (List Reply) c in omega arith)

pub rest_new : (start : NumberSet) (n c : ℕ) (v w : ClientView) → v ≡ view_for start n (new_client_records c (n - c)) → c < n
    → w ≡ rest_view v → w ≡ view_for start n (new_client_records (c + 1) (n - (c + 1)))
rest_new start n c v w is l e = e ∙ ap (λ (x : ClientView). rest_view x) (view_with_new_record start n c v is l)
    ∙ ap (λ (d : ℕ). let w : ClientView = view_for start n (new_client_records d (n - (c + 1))) in w)
    (let e : suc c ≡ c + 1 = omega arith in e)

new_client : (the : SharedMap) (n c : ℕ) (v : ClientView) (d : Client) → n ≡ clients_of the
    → v ≡ view_for (start_of the) n (new_client_records c (n - c)) → c < n → d.seat.table_id ≡ the.table.shared.table_id
    → d.seat.me.0 ≡ first_record v → d.seat.me.1 ≡ [] → d.number ≡ c → IsNewClient the c d
new_client the n c v d count is l table view no_slot number =
    let now : d.seat.me.0 ≡ first_record (view_for (start_of the) n (new_client_record c ∷ new_client_records (suc c) (n - (c + 1)))) =
    view ∙ ap (λ (x : ClientView). first_record x) (view_with_new_record (start_of the) n c v is l) in
    record {
      of_map = record {
        table = table;
        one = (
          (λ i. (now i).others),
          subst (λ (w : ClientView). StandsFor w.mine w.mine.number) (sym now)
              (let e = stood_same (List Command) (List Reply) c in omega arith),
        );
        number = number ∙ sym (λ i. (now i).mine.number);
        no_slot = no_slot;
        no_part = λ i. (now i).holds;
        start = λ i. (now i).start;
        clients = (λ i. (now i).clients) ∙ count;
      };
      number = number;
      fresh = λ i. (now i).mine;
    }

pub one_more : (the : SharedMap) (n c : ℕ) (v : ClientView) (all after : List Client) (d : Client) → n ≡ clients_of the
    → v ≡ view_for (start_of the) n (new_client_records c (n - c)) → c < n → d.seat.table_id ≡ the.table.shared.table_id
    → d.seat.me.0 ≡ first_record v → d.seat.me.1 ≡ [] → d.number ≡ c
    → after ≡ all ++ d ∷ [] → AreNewClients the all c → AreNewClients the after (c + 1)
one_more the n c v all after d count is l table view no_slot number pushed before =
    let new = new_client the n c v d count is l table view no_slot number in
    let long = before.0 in (
      ap (λ (x : List Client). length x) pushed ∙ (let e = length-append all (d ∷ []) in omega arith),
      λ k z less. subst (λ (x : List Client). IsNewClient the k (get_or x k z)) (sym pushed) (dite (ℕ_discrete k c)
          (λ same. subst (λ (x : ℕ × Client). IsNewClient the x.0 x.1)
          (λ i. (sym same i, sym (get_or_push all d z k (before.0 ∙ sym same)) i)) new)
          (λ other. subst (λ (x : Client). IsNewClient the k x)
          (sym (get_or_append_left all (d ∷ []) z k (omega (arith, before.0, less, other))))
          (before.1 k z (omega (arith, less, other))))),
    )

-- each new client is a client of the map
pub each_of_map : (the : SharedMap) (clients : List Client) (n : ℕ) → AreNewClients the clients n
    → All (λ c. IsClientOf the c) clients
each_of_map the [] n new = search rules
each_of_map the (c ∷ cs) n new =
    All-from_get_or (λ d. IsClientOf the d) (c ∷ cs) c (λ i l. (new.1 i c (subst (λ k. i < k) new.0 l)).of_map)

pub part_shared : (p : Pointer) (a : NumberSet) (b : ℕ) → arc_value p ≡ part_of a b → content (Some p) ≡ part b a
unfolding part
part_shared p a b e = ap (λ (s : NumberSet). Some s) e
