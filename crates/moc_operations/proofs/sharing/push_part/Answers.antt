use Rattle.std.proofs.Common.{arith, refl}
use Rattle.moc_blocks.proofs.Merging.{EndsBelow-more}
use Rattle.moc_operations.proofs.InCommon.{common_below, empty_common_range}
use Rattle.moc_blocks.proofs.Basics.{common_same, from_two_ok}
use Rattle.moc_operations.proofs.sharing.push_part.Goals as goal

pub returns-then-to-from : goal.returns-then-to-from
returns-then-to-from c = record {
  built = c.requires.built;
  below = λ f le lt. EndsBelow-more _ f _ c.requires.after le;
  same = λ q. empty_common_range _ _ _ c.args.from c.args.to q refl refl (omega arith);
}

pub returns : goal.returns
returns c = from_two_ok c.push.result c.push.ensures.built c.push.ensures.appended (λ built kept. record {
  built = built;
  below = λ f le lt. common_below _ _ _ _ _ _ f c.requires.after kept refl refl le lt;
  same = λ q. common_same _ _ _ _ _ _ q kept refl refl;
})
