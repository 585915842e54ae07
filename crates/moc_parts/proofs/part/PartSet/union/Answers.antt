use Rattle.std.proofs.Common.{◌≡◌, ℕ, true, false, get_or, sym, ap, ◌∙◌, arith}
use Rattle.std.specs.FinSet as set
use Rattle.moc_parts.specs.Lemmas.{all_parts}
use Rattle.moc_parts.proofs.Flags.{flagged_until, until-none, until-all, until-set, until-unset}
use Rattle.moc_parts.proofs.part.PartSet.union.Goals as goal
use Rattle.moc_parts.proofs.part.PartSet.union.Goals.{then-other-index, else-other-index}

pub loop-part-init : goal.loop-part-init
loop-part-init c = until-none c.args.self c.other.inside.flags

pub loop-part-preserved : goal.loop-part-preserved
loop-part-preserved c =
    let a = c.args.self in
    let flags = c.other.inside.flags in
    let b : ℕ = c.loop-part.part-index in
    let part = all_parts b c.part-item.result c.loop-part-test.true in
    let at : c.index.result ≡ b = c.index.ensures.value ∙ part in
    elim c.if-other-index.branch [
      | then-other-index w ↦
          let is : get_or flags b false ≡ true = ap (λ n. get_or flags n false) (sym at) ∙ w.if-other-index.true in
          w.parts-is ∙ w.insert.ensures ∙ (λ i. set.insert (c.loop-part.invariant i) (part i)) ∙ until-set a flags b c.loop-part-test.true is
      | else-other-index w ↦
          let is : get_or flags b false ≡ false = ap (λ n. get_or flags n false) (sym at) ∙ w.if-other-index.false in
          w.parts-is ∙ c.loop-part.invariant ∙ until-unset a flags b is
    ]

pub returns : goal.returns
returns c =
    let a = c.args.self in
    let twelve : c.loop-part.part-index ≡ 12 = (let low = c.loop-part-test.false in let high = c.loop-part.auto.part-index-end in omega arith) in
    c.loop-part.invariant ∙ ap (λ n. set.union a (flagged_until c.other.inside.flags n)) twelve ∙ until-all a c.other.inside.flags ∙ ap (set.union a) c.other.view_is
