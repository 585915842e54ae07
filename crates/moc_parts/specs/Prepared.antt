-- The result of a batch, computed from the content of its footprint alone.
use Rattle.std.specs.Prelude.{◌≡◌, ◌<◌, ℕ, Bool, true, false, get_or, Option, None, Some, is_some, List, map}
use Rattle.std.specs.Borrow.{Bor}
use Rattle.std.specs.Option.{option_copied, unwrap_or}
use Rattle.std.specs.FinSet as set
use Rattle.moc_lists.specs.RangeList.{NumberSet}
use Rattle.moc_ranges.specs.Operations.{pixels, IsWithin, part_of}
use Rattle.moc_parts.specs.Objects.{AgreeOn, base_pixel}
use Rattle.moc_parts.specs.Batches.{set_after_all, replies_on, footprint_of_all}
use Rattle.moc_parts.specs.declared.command.Command.{Command}
use Rattle.moc_parts.specs.declared.reply.Reply.{Reply}
use Rattle.moc_parts.specs.Parts.{part_count}

-- the content of a part; empty if the part was not read
abbrev pub content_or_empty : Option NumberSet → NumberSet
content_or_empty part = unwrap_or part set.empty

-- the contents of the twelve parts
abbrev pub given_sets : List (Option (Bor NumberSet)) → List NumberSet
given_sets before = map (λ part. content_or_empty (option_copied part)) before

-- whether the content of a part is given
abbrev pub is_given : List (Option (Bor NumberSet)) → ℕ → Bool
is_given before b = is_some (get_or before b None)

-- the new contents of parts that were not yet taken, and the replies
pub record Preparation : Type 0 where
  pub lists : List (Option NumberSet)
  pub replies : List Reply

-- the part of a set, if selected
abbrev pub part_if : Bool → NumberSet → ℕ → Option NumberSet
part_if true a b = Some (part_of a b)
part_if false a b = None

-- the replies are those on every set that agrees with the given content in the footprint
abbrev pub AreRepliesTo : List Command → NumberSet → List Reply → Type 0
AreRepliesTo cs before replies =
    (a : NumberSet) → IsWithin a pixels → AgreeOn (footprint_of_all cs) before a → replies ≡ replies_on a cs

-- The content of the footprint determines the batch. Every set that agrees there has the same replies and the same new
-- content in the footprint; parts outside do not change, and the result is within the sky.
pub record IsDeterminedBy (cs : List Command) (before : NumberSet) (replies : List Reply) : Type 0 where
  pub replied : AreRepliesTo cs before replies
  pub inside : (a : NumberSet) → IsWithin a pixels → AgreeOn (footprint_of_all cs) before a
      → (b : ℕ) → footprint_of_all cs b ≡ true → part_of (set_after_all before cs) b ≡ part_of (set_after_all a cs) b
  pub outside : (a : NumberSet) → IsWithin a pixels → (q : ℕ) → footprint_of_all cs (base_pixel q) ≡ false
      → set.contains (set_after_all a cs) q ≡ set.contains a q
  pub stays : (a : NumberSet) → IsWithin a pixels → IsWithin (set_after_all a cs) pixels

-- the replies, and the new contents of exactly the given parts
pub record IsPrepared (cs : List Command) (given : ℕ → Bool) (before : NumberSet) (p : Preparation) : Type 0 where
  pub determined : IsDeterminedBy cs before p.replies
  pub parts : (b : ℕ) → b < part_count → get_or p.lists b None ≡ part_if (given b) (set_after_all before cs) b

-- the replies, and the new contents of the parts that changed
pub record AreChanges (cs : List Command) (before : NumberSet) (p : Preparation) : Type 0 where
  pub determined : IsDeterminedBy cs before p.replies
  pub parts : (b : ℕ) → b < part_count
      → unwrap_or (get_or p.lists b None) (part_of before b) ≡ part_of (set_after_all before cs) b
