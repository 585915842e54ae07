use Rattle.std.proofs.Common.{◌∙◌, set}
use Rattle.atomic_table.proofs.Lists.{at_longer, set_else}
use Rattle.moc_shared.proofs.theorems.abandoned_parts_stay_held.Goals as goal

pub returns : goal.returns
returns c = record {
  marked = λ start clients table seat v b y kept has holds.
      let held = (kept.each_view seat v has).holding b y holds in (held.word_is, held.out);
  steps = λ table seat other v w word number carried act has apart. set_else table.views other seat w apart ∙ has;
  joins = λ views seat first second v both spent has apart beside.
      set_else (set views first both) second seat spent beside ∙ set_else views first seat both apart ∙ has;
  splits = λ views seat other v left right has apart.
      at_longer (set views other left) _ seat v (set_else views other seat left apart ∙ has);
}
