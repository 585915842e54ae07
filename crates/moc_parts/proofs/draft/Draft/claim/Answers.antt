use Rattle.std.proofs.Common.{◌≡◌, cond, sym, ap, subst, ◌∙◌}
use Rattle.std.specs.FinSet as set
use Rattle.moc_lists.specs.RangeList.{NumberSet}
use Rattle.moc_parts.specs.declared.reply.Reply.{Reply}
use Rattle.moc_parts.specs.declared.reply.Reply.TheVariants.{Taken, Claimed}
use Rattle.moc_ranges.specs.Operations.{meets}
use Rattle.moc_parts.proofs.CommandsInOrder.{operand_within}
use Rattle.moc_parts.proofs.Counts.{meets_some_common, meets_no_common}
use Rattle.moc_parts.proofs.draft.Draft.claim.Goals as goal

pub change-requires : goal.change-requires
change-requires c = operand_within c.args.operand.now c.set-other.result.now c.requires (c.set-other.ensures ∙ c.in_ok-effective_set.ensures)

pub returns-then-common-gt0-clause-set : goal.returns-then-common-gt0-clause-set
returns-then-common-gt0-clause-set c =
    let a : NumberSet = c.args.self.now.set in
    let s : NumberSet = c.set-other.result.now in
    subst (λ (k : NumberSet). a ≡ cond (meets a k) a (set.union a k)) (c.set-other.ensures ∙ c.in_ok-effective_set.ensures)
    (sym (ap (λ b. cond b a (set.union a s)) (meets_some_common a s _ c.count_common-common.ensures c.if-common-gt0.true)))

pub returns-then-common-gt0-clause-reply : goal.returns-then-common-gt0-clause-reply
returns-then-common-gt0-clause-reply c =
    let a : NumberSet = c.args.self.now.set in
    let s : NumberSet = c.set-other.result.now in
    subst (λ (k : NumberSet). Taken c.count_common-common.result ≡ cond {A = Reply} (meets a k) (Taken (set.len (set.intersection a k))) Claimed) (c.set-other.ensures ∙ c.in_ok-effective_set.ensures)
    (ap Taken c.count_common-common.ensures
    ∙ sym (ap (λ b. cond {A = Reply} b (Taken (set.len (set.intersection a s))) Claimed) (meets_some_common a s _ c.count_common-common.ensures c.if-common-gt0.true)))

pub returns-clause-set : goal.returns-clause-set
returns-clause-set c =
    let a : NumberSet = c.args.self.now.set in
    let s : NumberSet = c.set-other.result.now in
    subst (λ (k : NumberSet). c.change.new.self.set ≡ cond (meets a k) a (set.union a k)) (c.set-other.ensures ∙ c.in_ok-effective_set.ensures)
    (c.in_ok-change.ensures.set
    ∙ sym (ap (λ b. cond b a (set.union a s)) (meets_no_common a s _ c.count_common-common.ensures c.if-common-gt0.false)))

pub returns-clause-reply : goal.returns-clause-reply
returns-clause-reply c =
    let a : NumberSet = c.args.self.now.set in
    let s : NumberSet = c.set-other.result.now in
    subst (λ (k : NumberSet). Claimed ≡ cond {A = Reply} (meets a k) (Taken (set.len (set.intersection a k))) Claimed) (c.set-other.ensures ∙ c.in_ok-effective_set.ensures)
    (sym (ap (λ b. cond {A = Reply} b (Taken (set.len (set.intersection a s))) Claimed) (meets_no_common a s _ c.count_common-common.ensures c.if-common-gt0.false)))
