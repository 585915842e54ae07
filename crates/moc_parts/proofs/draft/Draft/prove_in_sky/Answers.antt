use Rattle.std.proofs.Common.{subst}
use Rattle.moc_ranges.specs.Operations.{pixels, IsWithin}
use Rattle.moc_parts.specs.Private.Drafts.{current_lists, sets_of}
use Rattle.moc_parts.proofs.Twelve.{parts_within}
use Rattle.moc_parts.proofs.draft.Draft.prove_in_sky.Goals as goal

pub returns : goal.returns
returns c = subst (λ d. IsWithin d.set pixels) c.self.view_is (parts_within (current_lists (sets_of c.self.inside.before) c.self.inside.new_lists) c.self.invariant.0)
