-- The contents of a store.
use Rattle.std.specs.Prelude.{◌+◌, ℕ, List, [], Option}
use Rattle.std.specs.Ordering.{nat_cmp}
use Rattle.std.specs.FinMap as map
use Rattle.moc_lists.specs.RangeList.{NumberSet}

-- sets by id, the next id, and the last text
pub record Contents : Type 0 where
  pub sets : map.FinMap nat_cmp NumberSet
  pub next : ℕ
  pub text : List ℕ

-- no set and no text
abbrev pub empty_store : Contents
empty_store = record { sets = map.empty; next = 0; text = [] }

-- the set with this id, if there is one
abbrev pub set_with_id : Contents → ℕ → Option NumberSet
set_with_id d id = map.get d.sets id

-- with one more set, under the next id
abbrev pub with_set : Contents → NumberSet → Contents
with_set d a = record { sets = map.insert d.sets d.next a; next = d.next + 1; text = d.text }

-- without the set with this id
abbrev pub without_set : Contents → ℕ → Contents
without_set d id = record { sets = map.remove d.sets id; next = d.next; text = d.text }

-- with another text
abbrev pub with_text : Contents → List ℕ → Contents
with_text d text = record { sets = d.sets; next = d.next; text = text }
