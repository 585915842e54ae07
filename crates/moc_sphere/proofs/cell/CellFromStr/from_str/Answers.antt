-- A text that lacks one of the two numbers is not a cell.
use Rattle.std.proofs.Common.{◌<◌, ◌^◌, subst, sym, refl, arith, lit<}
use Rattle.moc_sphere.specs.Names.{Spells}
use Rattle.moc_sphere.proofs.CellFacts.{index_small}
use Rattle.moc_sphere.proofs.cell.CellFromStr.from_str.Goals as goal

-- the text before the slash is not an order
pub returns-in_default-from_str : goal.returns-in_default-from_str
returns-in_default-from_str c = record {
  cell = tt;
  only = λ cell is spells. absurd (c.in_default-from_str.not-Ok cell.order
      (c.from_str.ensures.only cell.order is.order_in_range
      (subst (λ t. Spells t cell.order) (sym (c.in-Some.ensures.byte (lit< tt) (λ w o f. f)).0) spells.order)));
  error = refl;
}

-- the text after the slash is not a number of 64 bits
pub returns-in_default-from_str-2 : goal.returns-in_default-from_str-2
returns-in_default-from_str-2 c = record {
  cell = tt;
  only = λ cell is spells.
      let small : cell.index < 2 ^ 64 = omega (arith, index_small cell.order cell.index is.order_in_range is.index_in_range) in
      let spelled : Spells c.in-Some.index.now cell.index =
      subst (λ t. Spells t cell.index) (sym (c.in-Some.ensures.byte (lit< tt) (λ w o f. f)).1) spells.index in
      absurd (c.in_default-from_str-2.ensures.0 (spelled.0, subst (λ n. n < 2 ^ 64) (sym spelled.1) small));
  error = refl;
}
