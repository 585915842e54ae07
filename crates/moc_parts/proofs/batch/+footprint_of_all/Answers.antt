use Rattle.std.proofs.Common.{rules, ◌≡◌, ◌||◌, ℕ, Bool, true, false, List, [], ◌∷◌, length, refl, sym, ap, arith, eqb-true, ◌∙◌}
use Rattle.moc_parts.specs.declared.command.Command.{Command}
use Rattle.moc_parts.specs.Commands.{footprint}
use Rattle.moc_parts.specs.Batches.{footprint_of_all}
use Rattle.moc_parts.proofs.Flags.{either_has, no_pixel_in_empty}
use Rattle.moc_parts.proofs.batch.+footprint_of_all.Goals as goal

no_pixels : (cs : List Command) (b : ℕ) → length cs ≡ 0 → false ≡ footprint_of_all cs b
no_pixels [] b none = refl
no_pixels (c ∷ cs) b none = absurd (omega arith)

or_with_false : (x : Bool) → x ≡ (x || false)
or_with_false true = refl
or_with_false false = refl

-- the footprint of a batch of one command is that of the command
footprint_of_one_command : (first : Command) (rest cs : List Command) (b : ℕ) → cs ≡ first ∷ rest → length rest ≡ 0
    → footprint first b ≡ footprint_of_all cs b
footprint_of_one_command first [] cs b is none = or_with_false (footprint first b) ∙ ap (λ xs. footprint_of_all xs b) (sym is)
footprint_of_one_command first (c ∷ rest) cs b is none = absurd (omega arith)

pub returns-in-Some : goal.returns-in-Some
returns-in-Some t c b l =
    c.footprint.ensures b l
    ∙ footprint_of_one_command c.in-Some.only.now c.in-Some.rest.now c.args.commands.now b c.in-Some.ensures.cases.0
    (eqb-true (length c.in-Some.rest.now) 0 (sym c.is_empty.ensures ∙ c.if-is_empty.true))

pub returns-in-Some-2 : goal.returns-in-Some-2
returns-in-Some-2 t c b l =
    either_has c.footprint-in-Some-2.result c.footprint_of_all.result c.union.result b c.union.ensures
    ∙ (λ i. c.footprint-in-Some-2.ensures b l i || c.footprint_of_all.ensures b l i)
    ∙ search rules

pub returns-in-None : goal.returns-in-None
returns-in-None t c b l = no_pixel_in_empty c.none.result b c.none.ensures ∙ no_pixels c.args.commands.now b c.in-None.ensures.cases
