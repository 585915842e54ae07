-- Calls of batches and their replies.
use Rattle.std.specs.Prelude.{List}
use Rattle.moc_lists.specs.RangeList.{NumberSet}
use Rattle.moc_parts.specs.Batches.{set_after_all, replies_on}
use Rattle.moc_parts.specs.declared.command.Command.{Command}
use Rattle.moc_parts.specs.declared.reply.Reply.{Reply}
use Rattle.moc_shared.specs.declared.record.Call.{Call}
use Rattle.moc_shared.specs.declared.record.Record.{Record}

-- a call of a batch, with its replies
abbrev pub BatchCall : Type 0
BatchCall = Call (List Command) (List Reply)

-- the record of a client: the history that it has seen, and its calls
abbrev pub BatchRecord : Type 0
BatchRecord = Record (List Command) (List Reply)

-- the set after a batch, and the replies of the batch
unfoldable pub batch_answer : NumberSet → List Command → NumberSet × List Reply
batch_answer a cs = (set_after_all a cs, replies_on a cs)
