-- A command whose footprint is a single part.
use Rattle.std.proofs.Common.{◌≡◌, ℕ, ◌<◌, ◌≤◌, arith, slice_index_or, ◌&&◌, ◌||◌, Bool, true, false, not, true≢false, nat_eq, List, [], ◌∷◌, ◌++◌, length}
use Rattle.std.proofs.Common.{refl, sym, ap, ◌∙◌, subst, inl, eq-eqb, Contains, Option, Some, IsTrue}
use Rattle.std.proofs.Common.{Result, Ok, Err, IfOk, OnErr}
use Rattle.atomic_table.specs.Table.{Me}
use Rattle.std.specs.Cmp.{nat_cmp_total}
use Rattle.std.specs.FinSet as finset
use Rattle.std.specs.Ordering.{nat_cmp}
use Rattle.moc_lists.specs.RangeList.{NumberSet}
use Rattle.moc_lists.specs.Lemmas.Members.{same_members}
use Rattle.moc_ranges.specs.Operations.{part_of}
use Rattle.moc_parts.specs.Objects.{IsLocal}
use Rattle.moc_parts.specs.Lemmas.SingleParts.{same_reply, part_after, other_after}
use Rattle.moc_parts.specs.Commands.{footprint, reply_on, set_after}
use Rattle.moc_parts.specs.Batches.{batches, footprint_of_all}
use Rattle.moc_parts.specs.declared.command.Command.{Command}
use Rattle.moc_parts.specs.declared.reply.Reply.{Reply}
use Rattle.moc_shared.specs.declared.map.SharedMap.{SharedMap}
use Rattle.moc_shared.specs.History.{call_by, IsLegal, StandsFor}
use Rattle.moc_shared.specs.Seats.{note, Pointer, ClientView}
use Rattle.moc_shared.specs.Private.Invariant.{IsSingleClient}
use Rattle.moc_shared.specs.Private.Seats.{PartNote, IsCarried, part, IsInSky}
use Rattle.moc_shared.specs.Private.OperationEffects.{HasEffect}
use Rattle.moc_shared.specs.Private.Held.{HoldsOnly}
use Rattle.moc_shared.specs.Private.StepEffects.{with_part, with_parts, with_miss, with_misses, with_holds, with_mark}
use Rattle.moc_shared.specs.Private.Slots.{BatchTakesEffect, MissesTaking, AreWaits, is_only_part, in_footprint}
use Rattle.moc_shared.specs.Batches.{BatchCall, BatchRecord, batch_answer}
use Rattle.moc_shared.specs.Clients.{start_of, clients_of, TakesEffect, HasNoEffect}
use Rattle.moc_shared.specs.Clients.{TakesEffectAfterWaiting, FailsOutOfMemoryWaiting}
use Rattle.moc_shared.proofs.Basics.{here, nothing_in_empty_list, only}
use Rattle.moc_shared.proofs.Guarantees.{Stays, client_unchanged_with_parts, client_unchanged_after_call, client_unchanged_after_release, notes_at_end, notes_after_undo, undone_immediately}
use Rattle.moc_shared.proofs.WaitingViews.{waits_from, client_unchanged_after_waiting}

or_false : (x : Bool) → (x || false) ≡ x
or_false true = refl
or_false false = refl

some_is_injective : (a b : NumberSet) → Some a ≡ Some b → a ≡ b
some_is_injective a b e = cc

-- ---- the effect of the command, by locality

module _ (c : Command) (b : ℕ) (met : (k : ℕ) → footprint c k ≡ nat_eq b k) where
  abbrev cs : List Command
  cs = c ∷ []

  pub touched_alone : (k : ℕ) → footprint_of_all cs k ≡ nat_eq b k
  touched_alone k = or_false (footprint c k) ∙ met k

  touched_it : footprint_of_all cs b ≡ true
  touched_it = touched_alone b ∙ eq-eqb b b refl

  -- the content of the part determines the effect
  pub answers_alone : (x y : NumberSet) (r : Reply) → IsLocal batches cs → y ≡ set_after x c → r ≡ reply_on x c
      → HasEffect part batch_answer IsInSky cs (r ∷ []) (note b (Some x) ∷ []) (note b (Some y) ∷ [])
  unfolding batch_answer part
  answers_alone x y r local new determined s w noted =
      let is : x ≡ part_of s b = some_is_injective x (part_of s b) (noted b (Some x) (here (note b (Some x)) [])) in (
        same_reply batches cs b touched_alone local s w
            ∙ ap (λ (a : NumberSet). reply_on a c ∷ []) (sym is) ∙ ap (λ (q : Reply). q ∷ []) (sym determined),
        (λ k z h. let e : note b (Some y) ≡ note k z = only (note b (Some y)) (note k z) h in
            sym (ap (λ (t : PartNote). t.content) e)
            ∙ ap Some (new ∙ ap (λ (a : NumberSet). set_after a c) is ∙ part_after batches cs b touched_alone local s w)
            ∙ ap (λ (j : ℕ). Some (part_of (set_after s c) j)) (ap (λ (t : PartNote). t.part) e)),
        (λ k none. ap Some (other_after batches cs b touched_alone local s k
            (λ e. none (subst (λ (j : ℕ). Contains (b ∷ []) j) (sym e) (here b []))) w)),
        local.stays s w,
      )

  -- ---- the effect on the view

  pub noted_alone : (y : Option NumberSet) (p : ℕ) (z : Option NumberSet) → Contains (note b y ∷ []) (note p z)
      → IsTrue (footprint_of_all cs p)
  noted_alone y p z h = subst (λ (k : ℕ). footprint_of_all cs k ≡ true)
      (ap (λ (t : PartNote). t.part) (only (note b y) (note p z) h)) touched_it

  pub waits_alone : (v : ClientView) (waits : List (ℕ × ℕ)) → AreWaits (is_only_part b) v waits → AreWaits (in_footprint cs) v waits
  waits_alone v waits each h d i = let n = each h d i in
      let same : b ≡ d = n.0 in
      (subst (λ (k : ℕ). footprint_of_all cs k ≡ true) same touched_it, n.1, n.2)

  pub ended_alone : (the : SharedMap) (reply : Reply) (number : ℕ) (init u w : ClientView) (y : Option NumberSet)
      (waits : List (ℕ × ℕ)) → init.start ≡ start_of the → init.clients ≡ clients_of the → number ≡ init.mine.number
      → u ≡ with_parts (with_misses init waits) (note b y ∷ []) → AreWaits (is_only_part b) init waits
      → BatchTakesEffect cs (reply ∷ []) [] u w → TakesEffectAfterWaiting the (call_by number cs (reply ∷ [])) init.mine w.mine
  ended_alone the reply number init u w y waits start clients number_is held each determined = (
    (with_misses init waits).mine,
    waits_from the cs init waits clients (waits_alone init waits each),
    notes_at_end the cs (reply ∷ []) number (with_misses init waits) u w (note b y ∷ []) (noted_alone y) start clients
        number_is held determined,
  )

  pub undone_alone : (the : SharedMap) (init u w : ClientView) (y : Option NumberSet) (waits : List (ℕ × ℕ))
      → init.clients ≡ clients_of the → u ≡ with_parts (with_misses init waits) (note b y ∷ [])
      → AreWaits (is_only_part b) init waits → w ≡ with_holds u [] → FailsOutOfMemoryWaiting the cs init.mine w.mine
  undone_alone the init u w y waits clients held each gave = (
    (with_misses init waits).mine,
    waits_from the cs init waits clients (waits_alone init waits each),
    inl (notes_after_undo cs (with_misses init waits) u w (note b y ∷ []) (noted_alone y) held gave),
  )

  -- ---- the effect on the view of a call that does not wait

  pub tried_takes_effect : (the : SharedMap) (reply : Reply) (number : ℕ) (v u w : ClientView) (y : Option NumberSet)
      → v.start ≡ start_of the → v.clients ≡ clients_of the → number ≡ v.mine.number → u ≡ with_parts v (note b y ∷ [])
      → BatchTakesEffect cs (reply ∷ []) [] u w → TakesEffect the (call_by number cs (reply ∷ [])) v.mine w.mine
  tried_takes_effect the reply number v u w y start clients number_is held determined =
      notes_at_end the cs (reply ∷ []) number v u w (note b y ∷ []) (noted_alone y) start clients number_is held determined

  pub tried_has_no_effect : (v u w : ClientView) (y : Option NumberSet) → u ≡ with_parts v (note b y ∷ []) → w ≡ with_holds u []
      → HasNoEffect cs v.mine w.mine
  tried_has_no_effect v u w y held gave = notes_after_undo cs v u w (note b y ∷ []) (noted_alone y) held gave

  -- the only part of the command was held by another client
  pub missed_alone : (v w : ClientView) (h : ℕ) → b < 12 → v.holds ≡ [] → w ≡ with_miss v h b → h < v.clients
      → ¬ StandsFor v.mine h → MissesTaking cs b h v w
  missed_alone v w h below none is known other = (
    [],
    is ∙ (λ i. record (with_miss v h b) { holds = none i }),
    (λ p y i. absurd (nothing_in_empty_list (note p y) i)),
    touched_it,
    below,
    known,
    other,
  )

-- a client that held no part holds one part
pub single_client_holds : (v u : ClientView) (b : ℕ) (y : Option NumberSet) → v.holds ≡ [] → u ≡ with_part v b y
    → u ≡ with_parts v (note b y ∷ [])
single_client_holds v u b y none is = is
    ∙ (λ i. record {
      start = v.start;
      clients = v.clients;
      mine = with_mark b v.mine;
      others = v.others;
      holds = note b y ∷ none i;
    })

pub client_unchanged_alone : (init u w : ClientView) (b : ℕ) (y : Option NumberSet) (waits : List (ℕ × ℕ))
    → u ≡ with_parts (with_misses init waits) (note b y ∷ []) → Stays u w → Stays init w
client_unchanged_alone init u w b y waits held s =
    client_unchanged_after_waiting init w waits (client_unchanged_with_parts (with_misses init waits) u w (note b y ∷ []) held s)

pub client_unchanged_after_reply : {E : Type 0} (cs : List Command) (v w : ClientView) (r : Result Reply E)
    → IfOk r (λ x. BatchTakesEffect cs (x ∷ []) [] v w) → OnErr r (w ≡ with_holds v []) → Stays v w
client_unchanged_after_reply all v w (Ok x) ok err = client_unchanged_after_call (call_by v.mine.number all (x ∷ [])) v w ok
client_unchanged_after_reply all v w (Err e) ok err = client_unchanged_after_release v w err

pub holds_only_part : (init : ClientView) (me : Me (Option Pointer) ClientView) (b : ℕ) (a : NumberSet) (waits : List (ℕ × ℕ))
    → IsSingleClient init → me.0 ≡ with_parts (with_misses init waits) (note b (Some a) ∷ []) → IsCarried me
    → HoldsOnly b a me
holds_only_part init me b a waits one is carried = record {
  client = subst (λ (v : ClientView). IsSingleClient v) (sym is) (one.0, one.1);
  carried = carried;
  held = λ i. (is i).holds;
}

-- ---- a batch of one command

pub only_command : (cs : List Command) (c : Command) → 1 ≤ length cs → length cs < 2 → c ≡ slice_index_or cs 0 c
    → c ∷ [] ≡ cs
only_command [] c some one is = absurd (omega (arith, some))
only_command (x ∷ []) c some one is = ap (λ (y : Command). y ∷ []) is
only_command (x ∷ y ∷ ys) c some one is = absurd (omega (arith, one))

last_reply : (a : NumberSet) (log : List BatchCall) (e : BatchCall) → IsLegal batch_answer a (log ++ e ∷ [])
    → (s : NumberSet) × (e.reply ≡ (batch_answer s e.operation).1)
last_reply a [] e h = (a, h.0)
last_reply a (x ∷ xs) e h = last_reply (batch_answer a x.operation).0 xs e h.1

pub only_reply : (the : SharedMap) (c : Command) (replies : List Reply) (number : ℕ) (old new : BatchRecord)
    → TakesEffect the (call_by number (c ∷ []) replies) old new → length replies ≡ 1
unfolding batch_answer
only_reply the c replies number old new ends =
    let e : BatchCall = call_by number (c ∷ []) replies in
    let legal : IsLegal batch_answer (start_of the) ((old.seen ++ ends.between) ++ e ∷ []) =
    subst (λ (l : List BatchCall). IsLegal batch_answer (start_of the) l) ends.seen ends.history.0 in
    let r = last_reply (start_of the) (old.seen ++ ends.between) e legal in
    ap (λ (l : List Reply). length l) r.1

-- the call of one command, as a call of a batch and its replies
pub one_reply : (the : SharedMap) (number : ℕ) (batch : List Command) (c : Command) (replies : List Reply) (r : Reply)
    (old new : BatchRecord) → batch ≡ c ∷ [] → replies ≡ r ∷ [] → TakesEffectAfterWaiting the (call_by number batch replies) old new
    → TakesEffectAfterWaiting the (call_by number (c ∷ []) (r ∷ [])) old new
one_reply the number batch c replies r old new is determined ends =
    subst (λ (z : List Command × List Reply). TakesEffectAfterWaiting the (call_by number z.0 z.1) old new) (λ i. (is i, determined i)) ends

pub at_err : {T E P : Type 0} (r : Result T E) → P → OnErr r P
at_err (Ok x) p = tt
at_err (Err e) p = p

pub failed_at_once : (the : SharedMap) (cs : List Command) (r : BatchRecord) → FailsOutOfMemoryWaiting the cs r r
failed_at_once the cs r =
    (r, ([], refl, λ h b i. let x : ℕ × ℕ = (h, b) in absurd (nothing_in_empty_list x i)), inl (undone_immediately cs r))
