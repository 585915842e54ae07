-- The results of a call of one command.
use Rattle.std.specs.Prelude.{◌≡◌, [], ◌∷◌, Result, IfOk, IfErr, OnErr}
use Rattle.moc_ranges.specs.declared.errors.Memory.{Memory}
use Rattle.moc_parts.specs.declared.command.Command.{Command}
use Rattle.moc_parts.specs.declared.reply.Reply.{Reply}
use Rattle.moc_shared.specs.declared.client.Client.{Client}
use Rattle.moc_shared.specs.declared.map.SharedMap.{SharedMap}
use Rattle.moc_shared.specs.declared.errors.TryError.{TryError}
use Rattle.moc_shared.specs.Clients.{number_of, record_of, call_of}
use Rattle.moc_shared.specs.Clients.{IsClientOf, TakesEffect, AfterTryApply}
use Rattle.moc_shared.specs.Clients.{TakesEffectAfterWaiting, FailsOutOfMemoryWaiting}

-- The client called the map with a command, and did not wait. The call took effect with this reply, another client held
-- a part, or an allocation failed.
pub record IsTryResult (the : SharedMap) (c : Command) (old new : Client) (result : Result Reply TryError)
    : Type 0 where
  pub map : IsClientOf the new
  pub number : number_of new ≡ number_of old
  pub ok : IfOk result
      (λ r. TakesEffect the (call_of old (c ∷ []) (r ∷ [])) (record_of old) (record_of new))
  pub err : IfErr result (λ e. AfterTryApply the (c ∷ []) e (record_of old) (record_of new))

-- The client called the map with a command, and may have waited for parts. The call took effect with this reply, or an
-- allocation failed.
pub record IsCommandResult (the : SharedMap) (c : Command) (old new : Client) (result : Result Reply Memory)
    : Type 0 where
  pub map : IsClientOf the new
  pub number : number_of new ≡ number_of old
  pub ok : IfOk result
      (λ r. TakesEffectAfterWaiting the (call_of old (c ∷ []) (r ∷ [])) (record_of old) (record_of new))
  pub err : OnErr result (FailsOutOfMemoryWaiting the (c ∷ []) (record_of old) (record_of new))
