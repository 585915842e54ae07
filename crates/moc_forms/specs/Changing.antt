-- Changes of one set, and the MOC order that is stated for the result.
use Rattle.std.specs.Prelude.{ℕ, min, Option, option_map}
use Rattle.moc_ranges.specs.Cells.{degrade}
use Rattle.moc_lists.specs.RangeList.{NumberSet}
use Rattle.moc_ranges.specs.Operations.{complement}
use Rattle.moc_forms.specs.declared.changing.Change.{Change}
use Rattle.moc_forms.specs.declared.changing.Change.TheVariants.{Degrade, Complement}

-- the set after a change
abbrev pub changed_set : Change → NumberSet → NumberSet
changed_set (Degrade order) a = degrade a order
changed_set Complement a = complement a

-- The MOC order that is stated after a change. For a degraded set, it is the coarser of the text's MOC order and the
-- order that the set is degraded to. For a complement, it is the text's MOC order. If the text states none, it is none.
abbrev pub changed_order : Change → Option ℕ → Option ℕ
changed_order (Degrade order) moc_order = option_map (λ k. min k order) moc_order
changed_order Complement moc_order = moc_order
