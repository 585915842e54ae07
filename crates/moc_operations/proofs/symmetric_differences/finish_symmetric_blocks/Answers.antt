use Rattle.std.proofs.Common.{◌∙◌, List, ℕ, Option, ap, sym}
use Rattle.std.proofs.lemmas.Result.{IfOk-weaker}
use Rattle.moc_blocks.specs.Lemmas.Members.{in_ranges}
use Rattle.moc_operations.specs.Private.Walks.{from_current}
use Rattle.moc_operations.proofs.Walking.{from_current_of_steps}
use Rattle.moc_operations.proofs.Differing.{symmetric_first_empty, differed_normal, differing_swap, differs_swap}
use Rattle.moc_operations.proofs.Bounds.{ended_from_current, ended_restored_ranges, none_second}
use Rattle.moc_operations.proofs.symmetric_differences.finish_symmetric_blocks.Goals as goal

pub finish_symmetric-requires : goal.finish_symmetric-requires
finish_symmetric-requires c =
    let ex = from_current_of_steps _ _ _ c.next.ensures.steps in
    let ey = from_current_of_steps _ _ _ c.next-2.ensures.steps in
    let d = ended_restored_ranges _ _ _ _ _ _ _ _ _ _ _ _ _ _ ex ey c.restore_range-first.ensures c.restore_range-second.ensures c.requires.started.1.1 in
    differed_normal _ _ _ _ _ d (ap (λ (o : Option (ℕ × ℕ)). from_current o c.next.new.self) c.in-None.is)

pub returns-in-None : goal.returns-in-None
returns-in-None c =
    let ex = from_current_of_steps _ _ _ c.next.ensures.steps in
    let ey = from_current_of_steps _ _ _ c.next-2.ensures.steps in
    let none = ap (λ (o : Option (ℕ × ℕ)). from_current o c.next.new.self) c.in-None.is in
    IfOk-weaker c.finish_symmetric.result _ _ (λ written is wx wy s q. ap (λ (l : List (ℕ × ℕ)). in_ranges l q) is
    ∙ symmetric_first_empty _ _ _ _ _ (ended_restored_ranges _ _ _ _ _ _ _ _ _ _ _ _ wx wy ex ey c.restore_range-first.ensures c.restore_range-second.ensures s) none q) c.finish_symmetric.ensures

pub finish_symmetric-requires-in-Some : goal.finish_symmetric-requires-in-Some
finish_symmetric-requires-in-Some c =
    let ex = from_current_of_steps _ _ _ c.next.ensures.steps in
    let ey = from_current_of_steps _ _ _ c.next-2.ensures.steps in
    let d = ended_restored_ranges _ _ _ _ _ _ _ _ _ _ _ _ _ _ ex ey c.restore_range-first.ensures c.restore_range-second.ensures c.requires.started.1.1 in
    let none = c.restore_range-second.ensures ∙ none_second _ _ _ _ _ _ _ _ (ended_from_current _ _ _ _ _ _ ex ey c.requires.ended) (sym c.restore_range-first.ensures ∙ c.in-Some.is) in
    differed_normal _ _ _ _ _ (differing_swap _ _ _ _ _ d) (ap (λ (o : Option (ℕ × ℕ)). from_current o c.next-2.new.self) none)

pub returns-in-Some : goal.returns-in-Some
returns-in-Some c =
    let ex = from_current_of_steps _ _ _ c.next.ensures.steps in
    let ey = from_current_of_steps _ _ _ c.next-2.ensures.steps in
    let none = c.restore_range-second.ensures ∙ none_second _ _ _ _ _ _ _ _ (ended_from_current _ _ _ _ _ _ ex ey c.requires.ended) (sym c.restore_range-first.ensures ∙ c.in-Some.is) in
    IfOk-weaker c.finish_symmetric-in-Some.result _ _ (λ written is wx wy s q. ap (λ (l : List (ℕ × ℕ)). in_ranges l q) is
    ∙ symmetric_first_empty _ _ _ _ _ (differing_swap _ _ _ _ _ (ended_restored_ranges _ _ _ _ _ _ _ _ _ _ _ _ wx wy ex ey c.restore_range-first.ensures c.restore_range-second.ensures s)) (ap (λ (o : Option (ℕ × ℕ)). from_current o c.next-2.new.self) none) q
    ∙ differs_swap (in_ranges wy q) (in_ranges wx q)) c.finish_symmetric-in-Some.ensures
