-- Sets of parts as twelve flags. Only private contracts use this file.
use Rattle.std.specs.Prelude.{◌≡◌, ℕ, ◌<◌, Bool, false, ◌&&◌, List, length, get_or, map, nat_le, nat_lt}
use Rattle.std.specs.List.{range_with_len}
use Rattle.std.specs.Ordering.{nat_cmp}
use Rattle.std.specs.FinSet as set
use Rattle.std.proofs.Common.{sym, ap, subst, arith, ◌∙◌}
use Rattle.std.proofs.lemmas.Bool.{lt-ltb}
use Rattle.std.proofs.lemmas.Bool.Decides.{nat_tests}
use Rattle.std.proofs.lemmas.List.{ext_get_or}
use Rattle.std.proofs.lemmas.List.FromFn.{get_or-map-range_with_len, length-map-range_with_len}
use Rattle.moc_lists.specs.RangeList.{numbers}
use Rattle.moc_lists.specs.Lemmas.Members.{contains-numbers, contains-kept}
use Rattle.moc_parts.specs.Parts.{part_count}

-- the parts whose flags are set
unfoldable pub parts_of_flags : List Bool → set.FinSet nat_cmp
parts_of_flags flags = set.retain (numbers 0 part_count) (λ b. get_or flags b false)

-- the flags of the twelve parts
unfoldable pub flags_of : set.FinSet nat_cmp → List Bool
flags_of parts = map (λ b. set.contains parts b) (range_with_len 0 part_count)

from_none : (b : ℕ) → (nat_le 0 b && nat_lt b part_count) ≡ nat_lt b part_count
from_none b = grind (arith, nat_tests)

-- a number is a flagged part if and only if it is below twelve and its flag is set
pub contains-parts_of_flags : (flags : List Bool) (b : ℕ)
    → set.contains (parts_of_flags flags) b ≡ (nat_lt b part_count && get_or flags b false)
unfolding parts_of_flags
contains-parts_of_flags flags b =
    contains-kept (numbers 0 part_count) (λ k. get_or flags k false) b
    ∙ ap (λ t. t && get_or flags b false) (contains-numbers 0 part_count b ∙ from_none b)

-- a number below twelve is a flagged part if and only if its flag is set
pub contains-flagged_below : (flags : List Bool) (b : ℕ) → b < part_count
    → set.contains (parts_of_flags flags) b ≡ get_or flags b false
contains-flagged_below flags b l =
    contains-parts_of_flags flags b ∙ ap (λ t. t && get_or flags b false) (lt-ltb b part_count l)

length-flags_of : (parts : set.FinSet nat_cmp) → length (flags_of parts) ≡ part_count
unfolding flags_of
length-flags_of parts = length-map-range_with_len (λ b. set.contains parts b) 0 part_count

get-flags_of : (parts : set.FinSet nat_cmp) (b : ℕ) → b < part_count
    → get_or (flags_of parts) b false ≡ set.contains parts b
unfolding flags_of
get-flags_of parts b l = get_or-map-range_with_len (λ k. set.contains parts k) 0 part_count b b false l (omega arith)

-- converting flags to parts and back returns the same flags
pub flags_of-parts_of_flags : (flags : List Bool) → length flags ≡ part_count → flags_of (parts_of_flags flags) ≡ flags
flags_of-parts_of_flags flags twelve =
    ext_get_or false _ flags (length-flags_of (parts_of_flags flags) ∙ sym twelve) (λ b l.
    let below : b < part_count = subst (λ n. b < n) (length-flags_of (parts_of_flags flags)) l in
    get-flags_of (parts_of_flags flags) b below ∙ contains-flagged_below flags b below)
