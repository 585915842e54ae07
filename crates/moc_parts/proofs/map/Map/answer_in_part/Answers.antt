use Rattle.std.proofs.Common.{rules, ◌≡◌, ◌<◌, ◌∙◌, List, ap, sym, subst, arith, length, get_or}
use Rattle.std.proofs.lemmas.Result.{on_ok_weaker, IfOk-weaker}
use Rattle.std.specs.Prelude.{set as set_at}
use Rattle.moc_lists.specs.RangeList.{NumberSet}
use Rattle.moc_parts.specs.Commands.{reply_on, set_after}
use Rattle.moc_parts.specs.Private.Drafts.{AreParts}
use Rattle.moc_parts.proofs.Twelve.{parts_length, get-parts, union_of_parts_below}
use Rattle.moc_parts.proofs.SingleParts.{after_within, parts_after, entry_is_new, reply_there}
use Rattle.moc_parts.proofs.map.Map.answer_in_part.Goals as goal

pub index_mut-requires : goal.index_mut-requires
index_mut-requires g c = let twelve : length c.self.inside.parts.items ≡ 12 = parts_length c.self.inside.parts.items c.self.invariant in search rules

pub invariant_of-self : goal.invariant_of-self
invariant_of-self g c =
    let sets : List NumberSet = c.self.inside.parts.items in
    let b = c.args.part in
    let at : c.index.result ≡ b = c.index.ensures.value in
    let small : b < 12 = omega (arith, c.index.ensures.value, c.index.ensures.in_range) in
    let old = c.index_mut.result.now in
    subst (λ k. AreParts (set_at sets k c.execute_on.new.pixels)) (sym at)
    (parts_after (g.C.PartCommand.command c.args.command.now) b c.requires sets c.self.invariant small c.execute_on.result old old c.execute_on.new.pixels
    (c.index_mut.ensures.value ∙ ap (λ k. get_or sets k old) at) c.execute_on.ensures.set c.execute_on.ensures.unchanged)

pub returns-clause-set : goal.returns-clause-set
returns-clause-set g c =
    let sets : List NumberSet = c.self.inside.parts.items in
    let b = c.args.part in
    let at : c.index.result ≡ b = c.index.ensures.value in
    let small : b < 12 = omega (arith, c.index.ensures.value, c.index.ensures.in_range) in
    let old = c.index_mut.result.now in
    let new = c.execute_on.new.pixels in
    let was = c.index_mut.ensures.value ∙ ap (λ k. get_or sets k old) at ∙ get-parts sets b old c.self.invariant small in
    on_ok_weaker c.execute_on.result
    (λ is. union_of_parts_below (set_at sets c.index.result new) _
    (ap (λ k. set_at sets k new) at ∙ entry_is_new (g.C.PartCommand.command c.args.command.now) b c.requires sets c.self.invariant small old new was is)
    (after_within (g.C.PartCommand.command c.args.command.now) b c.requires sets c.self.invariant small)
    ∙ ap (λ (s : NumberSet). set_after s (g.C.PartCommand.command c.args.command.now)) c.self.view_is)
    c.execute_on.ensures.set

pub returns-clause-reply : goal.returns-clause-reply
returns-clause-reply g c =
    let sets : List NumberSet = c.self.inside.parts.items in
    let b = c.args.part in
    let small : b < 12 = omega (arith, c.index.ensures.value, c.index.ensures.in_range) in
    let old = c.index_mut.result.now in
    let was = c.index_mut.ensures.value ∙ ap (λ k. get_or sets k old) c.index.ensures.value ∙ get-parts sets b old c.self.invariant small in
    IfOk-weaker c.execute_on.result _ _
    (λ r is. is ∙ reply_there (g.C.PartCommand.command c.args.command.now) b c.requires sets c.self.invariant small old was
    ∙ ap (λ (s : NumberSet). reply_on s (g.C.PartCommand.command c.args.command.now)) c.self.view_is)
    c.execute_on.ensures.reply
