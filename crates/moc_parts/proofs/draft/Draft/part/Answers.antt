use Rattle.std.proofs.Common.{◌≡◌, ◌<◌, None, get_or, length, sym, ap, subst, ◌∙◌}
use Rattle.std.specs.Option.{unwrap_or}
use Rattle.std.proofs.lemmas.List.{length-map, get_or-map}
use Rattle.moc_ranges.specs.Operations.{part_of, IsWithin, pixels}
use Rattle.moc_parts.specs.Private.Drafts.{sets_of}
use Rattle.moc_parts.proofs.Twelve.{parts_within}
use Rattle.moc_parts.proofs.Drafting.{previous_twelve, current_part, copied_or}
use Rattle.moc_parts.proofs.draft.Draft.part.Goals as goal

pub returns : goal.returns
returns c =
    let lists = c.self.inside.before in
    let new_lists = c.self.inside.new_lists in
    let b = c.args.part in
    let list = c.index-before-index.result in
    let small : b < 12 = subst (λ n. n < 12) c.index.ensures.value c.index.ensures.in_range in
    let twelve : length lists ≡ 12 = sym (length-map lists (λ l. l.now)) ∙ previous_twelve (sets_of lists) new_lists c.self.invariant.0 in
    let at = c.index-before-index.is ∙ ap (λ n. get_or lists n list) c.index.ensures.value in
    let before : list.now ≡ get_or (sets_of lists) b list.now = ap (λ l. l.now) at ∙ sym (get_or-map (λ l. l.now) lists b list list.now (subst (λ n. b < n) (sym twelve) small)) in
    record {
      list = ap (λ l. l.now) c.unwrap_or.ensures ∙ copied_or c.get.result list
          ∙ (λ i. unwrap_or (c.get.ensures i) (before i))
          ∙ current_part (sets_of lists) new_lists b list.now None c.self.invariant.0 c.self.invariant.1 small
          ∙ ap (λ d. part_of d.set b) c.self.view_is;
      within = subst (λ d. IsWithin d.set pixels) c.self.view_is (parts_within _ c.self.invariant.0);
    }
