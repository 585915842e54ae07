use Rattle.std.proofs.Common.{ap, ◌∙◌}
use Rattle.std.specs.FinSet as set
use Rattle.moc_parts.specs.declared.reply.Reply.TheVariants.{Changed}
use Rattle.moc_parts.proofs.ChangedPixels.{changed_pixels-degrade}
use Rattle.moc_parts.proofs.draft.Draft.degrade.Goals as goal

pub returns-clause-reply : goal.returns-clause-reply
returns-clause-reply c =
    ap Changed (c.in_ok-added.ensures.changed_pixels ∙ ap set.len (changed_pixels-degrade c.args.self.now.set c.args.order c.in_ok-added.ensures.within))
