use Rattle.moc_ranges.specs.Lemmas.Members.{same_truth, is_same-equal, equal-is_same}
use Rattle.moc_ranges.proofs.coverage.CoveragePartialEq.eq.Goals as goal

pub returns : goal.returns
returns c = same_truth _ _ (λ found. equal-is_same c.args.self.now c.args.other.now (c.same.ensures.0 found)) (λ found. c.same.ensures.1 (is_same-equal c.args.self.now c.args.other.now found))
