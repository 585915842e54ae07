-- The encoding of the state of a schedule.
use Rattle.std.specs.Prelude.{ℕ, List, refl}
use Rattle.std.specs.Coded.{Coded, code_by, coded×, coded_ℕ, coded_list}
use Rattle.moc_parts.specs.declared.command.Command.{Command}
use Rattle.moc_parts.specs.declared.reply.Reply.{Reply}
use Rattle.moc_steps.specs.Machine.{World}
use Rattle.moc_steps.specs.contracts.world.World as world
use Rattle.moc_script.specs.Schedules.{Schedule}

-- the state of a schedule
abbrev pub schedule_code : Coded Schedule
schedule_code =
    code_by (World (List Command) (List Reply) × (ℕ × List ℕ))
    (coded× world.the_row.coded (coded× coded_ℕ (coded_list coded_ℕ)))
    (λ s. (s.world, (s.lines, s.begins))) (λ p. record { world = p.0; lines = p.1.0; begins = p.1.1 }) (λ _. refl)
