use Rattle.std.proofs.Common.{◌≡◌, ◌≤◌, ◌<◌, ℕ, min, ◌∙◌, arith}
use Rattle.moc_ranges.proofs.Looking.{some_in_part, first_part, no_parts}
use Rattle.moc_ranges.proofs.coverage.Coverage.next_base_pixel.Goals as goal

low_is : (low from : ℕ) → low ≡ min from 12 → (low ≤ from) × (low ≤ 12) × (low < 12 → low ≡ from)
low_is low from e = (omega arith, omega arith, λ lt. omega arith)

pub returns-in_err-pixel-clause-first : goal.returns-in_err-pixel-clause-first
returns-in_err-pixel-clause-first c b le some =
    let low = low_is c.from.result c.args.from (c.from.ensures ∙ c.min.ensures) in
    absurd (no_parts c.args.self.now c.from.result b c.in_err-pixel.ensures.first (omega arith) some)

pub returns-clause-found : goal.returns-clause-found
returns-clause-found c =
    let low = low_is c.from.result c.args.from (c.from.ensures ∙ c.min.ensures) in
    let found = c.in_ok-pixel.ensures.found in
    let reached : c.from.result < 12 = (let at = found.0 in let within = found.1 in omega arith) in
    let same : c.from.result ≡ c.args.from = low.2 reached in
    let at = found.0 in
    let within = found.1 in
    (omega arith, omega arith, some_in_part c.args.self.now c.in_ok-pixel.pixel found.2)

pub returns-clause-first : goal.returns-clause-first
returns-clause-first c b le some =
    let low = low_is c.from.result c.args.from (c.from.ensures ∙ c.min.ensures) in
    first_part c.args.self.now c.from.result c.in_ok-pixel.pixel b c.in_ok-pixel.ensures.first (omega arith) some
