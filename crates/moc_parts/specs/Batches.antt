-- Batches: commands that are executed in order, as one operation.
use Rattle.std.specs.Prelude.{ℕ, Bool, List, [], ◌∷◌, fold}
use Rattle.std.specs.List.{list_any, AllByRecursion}
use Rattle.moc_lists.specs.RangeList.{NumberSet}
use Rattle.moc_parts.specs.Objects.{Object}
use Rattle.moc_parts.specs.Commands.{footprint, set_after, reply_on, IsCommand}
use Rattle.moc_parts.specs.declared.command.Command.{Command}
use Rattle.moc_parts.specs.declared.reply.Reply.{Reply}

-- the set after executing the commands in order
abbrev pub set_after_all : NumberSet → List Command → NumberSet
set_after_all a cs = fold set_after a cs

-- the replies to the commands, each computed on the set after the preceding commands
abbrev pub replies_on : NumberSet → List Command → List Reply
replies_on a [] = []
replies_on a (c ∷ cs) = reply_on a c ∷ replies_on (set_after a c) cs

-- the footprint of a batch: the parts that at least one of the commands reads or changes
abbrev pub footprint_of_all : List Command → ℕ → Bool
footprint_of_all cs b = list_any (λ c. footprint c b) cs

-- batches as a sequential object
abbrev pub batches : Object (List Command) (List Reply)
batches = record { footprint = footprint_of_all; answer = λ a cs. (set_after_all a cs, replies_on a cs) }

-- the maximal number of commands of a batch
abbrev pub max_commands : ℕ
max_commands = 16

-- every command is valid: its set is within the sky, its order or cell is valid
abbrev pub AreCommands : List Command → Type 0
AreCommands cs = AllByRecursion IsCommand cs
