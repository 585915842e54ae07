use Rattle.std.proofs.Common.{arith, refl, subst, sym}
use Rattle.moc_blocks.specs.RangeList.{IsNormal}
use Rattle.moc_blocks.proofs.Merging.{EndsBelow-more}
use Rattle.moc_blocks.proofs.Building.{pushed_normal}
use Rattle.moc_operations.proofs.InCommon.{common_below, empty_common_range}
use Rattle.moc_blocks.proofs.Basics.{common_same}
use Rattle.moc_operations.proofs.slice.push_if_nonempty.Goals as goal

pub returns-then-to-from-clause-below : goal.returns-then-to-from-clause-below
returns-then-to-from-clause-below c = λ f le lt. EndsBelow-more _ f _ c.requires.after le

pub returns-then-to-from-clause-same : goal.returns-then-to-from-clause-same
returns-then-to-from-clause-same c = λ q. empty_common_range _ _ _ c.args.from c.args.to q refl refl (omega arith)

pub returns-clause-normal : goal.returns-clause-normal
returns-clause-normal c = subst IsNormal (sym c.in_ok-push.ensures.items) (pushed_normal c.args.kept.now.items (c.args.from, c.args.to) c.requires.normal (omega arith) c.requires.within c.requires.after)

pub returns-clause-below : goal.returns-clause-below
returns-clause-below c = λ f le lt. common_below _ _ _ _ _ _ f c.requires.after c.in_ok-push.ensures.items refl refl le lt

pub returns-clause-same : goal.returns-clause-same
returns-clause-same c = λ q. common_same _ _ _ _ _ _ q c.in_ok-push.ensures.items refl refl
