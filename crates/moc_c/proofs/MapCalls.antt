-- The contracts of calls on client handles follow from those of the calls below.
use Rattle.std.proofs.Common.{◌≡◌, ◌++◌, ◌∷◌, [], true, false, List, ℕ, Option, None, Some, Result, Ok, Err, refl, sym}
use Rattle.std.proofs.Common.{ap, ◌∙◌, subst, ◌⊎◌, inl, inr, is_some}
use Rattle.std.specs.Option.{ok_or}
use Rattle.moc_lists.specs.RangeList.{NumberSet}
use Rattle.moc_parts.specs.declared.command.Command.{Command}
use Rattle.moc_parts.specs.declared.reply.Reply.{Reply}
use Rattle.moc_parts.specs.declared.reply.Reply.TheVariants.{Cover}
use Rattle.moc_shared.specs.Batches.{batch_answer, BatchCall}
use Rattle.moc_shared.specs.Clients.{AfterTryApply, call_of, TakesEffect, FailsOutOfMemory, record_of, start_of}
use Rattle.moc_shared.specs.History.{call_by, IsLegal}
use Rattle.moc_shared.specs.declared.errors.TryError.{TryError}
use Rattle.moc_shared.specs.declared.errors.TryError.TheVariants as try
use Rattle.moc_lines.specs.Language.{batch_of, command_of}
use Rattle.moc_lines.specs.declared.error.LineError.{LineError}
use Rattle.moc_lines.specs.declared.error.LineError.TheVariants.{Memory}
use Rattle.moc_c.specs.Answers.{Makes}
use Rattle.moc_c.specs.Commands.{CallsWithSet, ExecutesCommand}
use Rattle.moc_c.specs.declared.commands.Verb.{Verb}
use Rattle.moc_c.specs.Contents.{Contents}
use Rattle.moc_c.specs.Membership.{Membership}
use Rattle.moc_c.specs.CallResults.{result_of}
use Rattle.moc_lines.specs.Places.{error_place}
use Rattle.moc_c.specs.Private.Making.{IsLineError, try_error, ReadsWholeSky}
use Rattle.moc_c.specs.Sharing.{Applies, BeginsMap, CallsMap, ExecutesLine, Gives, IsAfter, FailsTrying, Joins, StoresMapSet}
use Rattle.moc_c.specs.Sharing.{MemberEnds, member_of_handle, StoresMember, unless_in_use, whole_sky, with_member}
use Rattle.moc_c.specs.declared.error.CallError.{CallError}
use Rattle.moc_c.specs.declared.error.CallError.TheVariants as error
use Rattle.moc_c.specs.declared.call_result.CallResult.{CallResult}
use Rattle.moc_c.specs.declared.client_state.ClientState.{ClientState}

-- ---- a handle becomes a client

pub handle_in_use_at_begin : (m : Option Membership) (q : Option (List Reply)) (r : Result (NumberSet × ℕ) CallError) (o : CallResult) → is_some m ≡ true → o ≡ result_of error.HandleInUse
    → BeginsMap (record { member = m; replies = q }) (record { member = m; replies = q }) (unless_in_use m r) o
handle_in_use_at_begin (Some x) q r o some tells = (Err error.HandleInUse, inl refl, (refl, tells))
handle_in_use_at_begin None q r o some tells = let clash : false ≡ true = some in absurd cc

unused_handle : {X : Type 0} (m : Option Membership) (r : Result X CallError) → is_some m ≡ false → unless_in_use m r ≡ r
unused_handle None r none = refl
unused_handle (Some x) r none = let clash : true ≡ false = none in absurd cc

pub joined : (s t last : ClientState) (m n : Membership) (given : Result Membership CallError) (o : CallResult) → s.member ≡ Some m → is_some t.member ≡ false
    → Gives m n given → StoresMember t last given o → Joins s (with_member s n) t last (unless_in_use t.member (member_of_handle s)) o
joined s t last m n given o is none gives stores =
    subst (λ x. Joins s (with_member s n) t last x o) (sym (unused_handle t.member (member_of_handle s) none ∙ ap (λ x. ok_or x error.NoMap) is))
    (n, given, gives, refl, stores)

-- ---- calls

pub applies_commands : (s new : ClientState) (m n : Membership) (line : List ℕ) (cs : List Command) (o : CallResult) → s.member ≡ Some m → batch_of command_of line ≡ Ok cs
    → IsAfter m n → CallsMap s new m n cs o → Applies s new (member_of_handle s) line o
applies_commands s new m n line cs o is says after calls =
    subst (λ x. Applies s new (ok_or x error.NoMap) line o) (sym is)
    (subst (λ x. ExecutesLine s new m line x o) (sym says) (inl (n, after, calls)))

-- a line that was not parsed: it is invalid, or an allocation failed
pub not_parsed : (s : ClientState) (m : Membership) (line : List ℕ) (e : LineError) (error_seen : CallError) (o : CallResult) → s.member ≡ Some m → (e ≡ Memory) ⊎ (batch_of command_of line ≡ Err e)
    → IsLineError line e error_seen → o ≡ result_of error_seen → Applies s (with_member s m) (member_of_handle s) line o
not_parsed s m line e error_seen o is reads reported gives = subst (λ x. Applies s (with_member s m) (ok_or x error.NoMap) line o) (sym is) (by_line (batch_of command_of line) reads reported)
  where
    unchanged : with_member s m ≡ s
    unchanged = λ i. record { member = (sym is) i; replies = s.replies }

    by_line : (r : Result (List Command) LineError) → (e ≡ Memory) ⊎ (r ≡ Err e) → IsLineError line e error_seen → ExecutesLine s (with_member s m) m line r o
    by_line (Ok cs) reads (inl memory) = inr (unchanged, gives ∙ ap result_of memory)
    by_line (Ok cs) (inl is_memory) (inr (other, at)) = absurd (other is_memory)
    by_line (Ok cs) (inr same) (inr (other, at)) = absurd cc
    by_line (Err f) reads (inl memory) = (unchanged, inr (gives ∙ ap result_of memory))
    by_line (Err f) (inl is_memory) (inr (other, at)) = absurd (other is_memory)
    by_line (Err f) (inr same) (inr (other, at)) =
        let is_same : e ≡ f = cc in
        (unchanged, inl (gives ∙ ap result_of at ∙ ap (λ x. result_of (error.Line x (error_place x line))) is_same))

pub fails_trying : (m n : Membership) (cs : List Command) (e : TryError) (o : CallResult) → AfterTryApply m.map cs e (record_of m.client) (record_of n.client)
    → o ≡ result_of (try_error e) → FailsTrying m n cs o
fails_trying m n cs (try.Busy b) o after tells = inl (b, after, tells)
fails_trying m n cs try.Memory o after tells = inr (after, tells)

-- the command on a set was executed, or failed
pub called_with_set : (verb : Verb) (s new : ClientState) (m n : Membership) (r : Result NumberSet CallError) (a : NumberSet) (o : CallResult) → s.member ≡ Some m
    → r ≡ Ok a → IsAfter m n → new ≡ with_member s n → ExecutesCommand m n verb a o → CallsWithSet verb s new (member_of_handle s) r o
called_with_set verb s new m n r a o is says after same executed =
    subst (λ x. CallsWithSet verb s new (ok_or x error.NoMap) r o) (sym is)
    (subst (λ x. CallsWithSet verb s new (Ok m) x o) (sym says) (inl (n, after, same, executed)))

-- ---- the set of a map

legal_last : (a : NumberSet) (log : List BatchCall) (e : BatchCall) → IsLegal batch_answer a (log ++ e ∷ []) → (b : NumberSet) × (e.reply ≡ (batch_answer b e.operation).1)
legal_last a [] e h = (a, h.0)
legal_last a (x ∷ xs) e h = legal_last (batch_answer a x.operation).0 xs e h.1

-- a query of the whole sky has one reply, a cover
pub sky_reply : (m n : Membership) (cs : List Command) (r : List Reply) → cs ≡ whole_sky → MemberEnds m n cs r → (a : NumberSet) × (r ≡ Cover a ∷ [])
unfolding batch_answer
sky_reply m n cs r is ends =
    let last = legal_last (start_of m.map) ((record_of m.client).seen ++ ends.between) (call_of m.client cs r) (subst (IsLegal batch_answer (start_of m.map)) ends.seen ends.history.0) in
    (_, last.1 ∙ ap (λ x. (batch_answer last.0 x).1) is)

pub writes_whole_set : (s : ClientState) (m n : Membership) (store store' : Contents) (a : NumberSet) (o : CallResult) → s.member ≡ Some m → ReadsWholeSky m n (Ok a) → Makes store store' (Ok a) o
    → StoresMapSet s (with_member s n) store store' (member_of_handle s) o
writes_whole_set s m n store store' a o is reads (inl made) =
    subst (λ x. StoresMapSet s (with_member s n) store store' (ok_or x error.NoMap) o) (sym is)
    (inl (n, reads.0, refl, inl (a, reads.1, made.1, made.0)))
writes_whole_set s m n store store' a o is reads (inr none) =
    subst (λ x. StoresMapSet s (with_member s n) store store' (ok_or x error.NoMap) o) (sym is)
    (inl (n, reads.0, refl, inr (inr (unanswered, none.0), none.1)))
  where
    -- the query was executed, and its reply could not be copied
    unanswered : FailsOutOfMemory m.map whole_sky (record_of m.client) (record_of n.client)
    unanswered =
        inr (refl, (Cover a ∷ [], subst (λ k. TakesEffect m.map (call_by k whole_sky (Cover a ∷ [])) (record_of m.client) (record_of n.client)) (sym reads.0.own) reads.1))

pub whole_set_not_written : (s : ClientState) (m n : Membership) (store : Contents) (e : TryError) (o : CallResult) → s.member ≡ Some m → ReadsWholeSky m n (Err e) → o ≡ result_of (try_error e)
    → StoresMapSet s (with_member s n) store store (member_of_handle s) o
whole_set_not_written s m n store e o is (inl after) tells =
    subst (λ x. StoresMapSet s (with_member s n) store store (ok_or x error.NoMap) o) (sym is)
    (inl (n, after.0, refl, inr (fails_trying m n whole_sky e o after.1 tells, refl)))
whole_set_not_written s m n store e o is (inr same) tells =
    subst (λ x. StoresMapSet s (with_member s n) store store (ok_or x error.NoMap) o) (sym is)
    (inr ((λ i. record { member = (ap Some same.0 ∙ sym is) i; replies = s.replies }), refl, tells ∙ ap (λ x. result_of (try_error x)) same.1))
