use Rattle.std.proofs.Common.{◌≡◌, false, None, is_some, length, ap, ◌∙◌, rules}
use Rattle.moc_steps.specs.Machine.{is_nonempty}
use Rattle.moc_steps.proofs.Basics.{absurd_bool}
use Rattle.moc_steps.proofs.Invariant.{not_any_empty}
use Rattle.moc_steps.proofs.TakenContents.{union_of_no_contents, no_contents_within_parts}
use Rattle.moc_steps.proofs.midway.ActiveOperation.new.Goals as goal

pub invariant_of-result : goal.invariant_of-result
invariant_of-result c =
    let twelve : length c.no_lists.result ≡ 12 = search rules in
    record {
      ascending = c.in_ok-parts.ensures;
      filled = λ b l. ap is_some (c.no_lists.ensures b);
      own = no_contents_within_parts c.no_lists.result twelve c.no_lists.ensures;
      ready = tt;
      committed = λ any. absurd_bool (is_nonempty c.none.result) any (ap is_nonempty c.none.ensures ∙ not_any_empty);
    }

pub returns : goal.returns
returns c = (λ i. record {
  running = record { number = c.args.number; operation = c.args.batch; taken = 0; edited = c.none.ensures i; given = c.none-2.ensures i; quits = false };
  taken_content = union_of_no_contents c.no_lists.result c.no_lists.ensures i;
  entry_index = None;
})
