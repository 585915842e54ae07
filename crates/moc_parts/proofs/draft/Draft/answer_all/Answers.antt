use Rattle.std.proofs.Common.{◌≡◌, ℕ, ◌+◌, ◌++◌, ◌∷◌, [], List, take, sym, ap, subst, ◌∙◌, rules}
use Rattle.std.proofs.lemmas.List.{take_more}
use Rattle.moc_lists.specs.RangeList.{NumberSet}
use Rattle.moc_parts.specs.declared.command.Command.{Command}
use Rattle.moc_parts.specs.Commands.{set_after, reply_on, IsCommand}
use Rattle.moc_parts.specs.Batches.{set_after_all, replies_on}
use Rattle.moc_parts.proofs.CommandsInOrder.{set_after-last, replies-last, command-at}
use Rattle.moc_parts.proofs.draft.Draft.answer_all.Goals as goal

pub answer-requires : goal.answer-requires
answer-requires c = subst IsCommand (sym c.command-item.is) (command-at c.args.commands.now c.loop-command.command-index c.command-item.result c.loop-command-test.true c.requires)

pub loop-command-preserved : goal.loop-command-preserved
loop-command-preserved c =
    let a : NumberSet = c.args.self.now.set in
    let cs : List Command = c.args.commands.now in
    let n : ℕ = c.loop-command.command-index in
    let command : Command = c.command-item.result in
    let more : take (n + 1) cs ≡ take n cs ++ (command ∷ []) = search (rules, take_more) in
    let now : c.loop-command.self.set ≡ set_after_all a (take n cs) = c.loop-command.invariant.0 in (
      c.in_ok-answer.ensures.set ∙ ap (λ s. set_after s command) now ∙ sym (ap (λ xs. set_after_all a xs) more ∙ set_after-last a (take n cs) command),
      c.in_ok-push.ensures ∙ (λ i. c.loop-command.invariant.1 i ++ ((c.in_ok-answer.ensures.reply ∙ ap (λ s. reply_on s command) now) i ∷ []))
          ∙ sym (ap (λ xs. replies_on a xs) more ∙ replies-last a (take n cs) command),
      c.answer.ensures.before ∙ c.loop-command.invariant.2,
    )
