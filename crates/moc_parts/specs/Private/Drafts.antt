-- A set in twelve parts during the execution of a batch: the original lists and those that replace them.
use Rattle.std.specs.Prelude.{◌≡◌, ℕ, suc, ◌/◌, List, [], ◌∷◌, Option, None, Some, map, not, nat_eq, refl}
use Rattle.std.specs.Prelude.{if◌then◌else◌}
use Rattle.std.specs.List.{range_with_len}
use Rattle.std.specs.Coded.{Coded, code_by, coded×, coded_list, coded_ℕ}
use Rattle.std.specs.FinSet as set
use Rattle.std.specs.Borrow.{Bor}
use Rattle.std.specs.Option.{unwrap_or}
use Rattle.moc_lists.specs.RangeList.{NumberSet}
use Rattle.moc_ranges.specs.Operations.{base_pixel_size}
use Rattle.moc_parts.specs.Parts.{parts_below, union_of, part_count}

-- the sets of borrowed lists
abbrev pub sets_of : List (Bor NumberSet) → List NumberSet
sets_of lists = map (λ list. list.now) lists

-- the sets are the twelve parts of their union
abbrev pub AreParts : List NumberSet → Type 0
AreParts sets = sets ≡ parts_below (union_of sets) part_count

-- the current list of each part: the replacement if there is one, otherwise the original
abbrev pub current_lists : List NumberSet → List (Option NumberSet) → List NumberSet
current_lists [] new_lists = []
current_lists (part ∷ before) [] = part ∷ current_lists before []
current_lists (part ∷ before) (new ∷ new_lists) = unwrap_or new part ∷ current_lists before new_lists

-- the value of a draft: the original parts and the current set
pub record DraftState : Type 0 where
  pub before : List NumberSet
  pub set : NumberSet

-- a draft is encoded as the pair of its fields
abbrev pub draft_state_code : Coded DraftState
draft_state_code =
    code_by (List NumberSet × NumberSet) (coded× (coded_list (set.code coded_ℕ)) (set.code coded_ℕ))
    (λ d. (d.before, d.set)) (λ p. record { before = p.0; set = p.1 }) (λ _. refl)

-- a set whose part b is replaced
unfoldable pub with_part : NumberSet → ℕ → NumberSet → NumberSet
with_part a b part = set.union (set.retain a (λ p. not (nat_eq (p / base_pixel_size) b))) part

-- the list of part b: that of the first entry for this part
abbrev pub list_of_part : List (ℕ × Option NumberSet) → ℕ → Option NumberSet
list_of_part [] b = None
list_of_part (entry ∷ lists) b = if nat_eq entry.0 b then entry.1 else list_of_part lists b

-- the optional lists of all twelve parts
unfoldable pub twelve_lists : List (ℕ × Option NumberSet) → List (Option NumberSet)
twelve_lists lists = map (list_of_part lists) (range_with_len 0 part_count)

-- the index of the first entry for part b, counted from n
abbrev pub index_of_part_from : ℕ → List (ℕ × Option NumberSet) → ℕ → Option ℕ
index_of_part_from n [] b = None
index_of_part_from n (entry ∷ lists) b = if nat_eq entry.0 b then Some n else index_of_part_from (suc n) lists b
