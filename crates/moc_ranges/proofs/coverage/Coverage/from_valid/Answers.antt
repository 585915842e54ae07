use Rattle.std.proofs.Common.{◌∙◌, List, ℕ, ap}
use Rattle.moc_blocks.specs.Lemmas.Members.{in_ranges}
use Rattle.moc_ranges.proofs.Views.{same_view}
use Rattle.moc_ranges.proofs.coverage.Coverage.from_valid.Goals as goal

pub returns : goal.returns
returns c = c.in_ok-build.ensures ∙ same_view c.deref.result.now c.args.pairs.now (λ q. ap (λ (l : List (ℕ × ℕ)). in_ranges l q) c.deref.ensures.value ∙ c.in_ok-pairs.ensures.set q)
