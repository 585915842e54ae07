-- What queries of a store return, and what calls that make sets store.
use Rattle.std.specs.Prelude.{◌≡◌, ℕ, ◌⊎◌, None, Some, Result, Ok, Err, nat_le, if◌then◌else◌}
use Rattle.std.specs.Option.{ok_or}
use Rattle.std.specs.Result.{result_map_both}
use Rattle.moc_lists.specs.RangeList.{NumberSet}
use Rattle.moc_c.specs.Contents.{Contents, set_with_id, with_set, without_set}
use Rattle.moc_c.specs.CallResults.{success, memory, result_of, number_result}
use Rattle.moc_c.specs.declared.error.CallError.{CallError}
use Rattle.moc_c.specs.declared.error.CallError.TheVariants.{NoSuchSet, NoSuchOrder}
use Rattle.moc_c.specs.declared.call_result.CallResult.{CallResult}

-- the set with this id, or the error that there is none
abbrev pub set_at : Contents → ℕ → Result NumberSet CallError
set_at d id = ok_or (set_with_id d id) (NoSuchSet id)

-- both values, or the first error
abbrev pub both : {X Y : Type 0} → Result X CallError → Result Y CallError → Result (X × Y) CallError
both (Ok x) (Ok y) = Ok (x, y)
both (Ok x) (Err e) = Err e
both (Err e) r = Err e

-- the sets with two ids, or the error for the first id that no set has
abbrev pub sets_at : Contents → ℕ → ℕ → Result (NumberSet × NumberSet) CallError
sets_at d a b = both (set_at d a) (set_at d b)

-- the result is a number in this relation to the value, or the error
abbrev pub Answers : {X : Type 0} → (X → ℕ → Type 0) → Result X CallError → CallResult → Type 0
Answers Is (Ok x) o = (n : ℕ) × Is x n × (o ≡ number_result n)
Answers Is (Err e) o = o ≡ result_of e

-- 1 if a statement holds, and 0 if not
abbrev pub IsWhether : Type 0 → ℕ → Type 0
IsWhether P n = ((n ≡ 1) × P) ⊎ ((n ≡ 0) × (P → ⊥))

-- the set that an operation makes of a value, or the error
abbrev pub set_made_of : {X : Type 0} → (X → NumberSet) → Result X CallError → Result NumberSet CallError
set_made_of f r = result_map_both f (λ e. e) r

-- a pair as two arguments
abbrev pub of_two : {X Y Z : Type 0} → (X → Y → Z) → X × Y → Z
of_two f x = f x.0 x.1

-- the order with this number, if there is one
abbrev pub order_of_number : ℕ → Result ℕ CallError
order_of_number k = if nat_le k 29 then Ok k else Err (NoSuchOrder k)

-- the set is stored under the next id, which is the result; or the result is the error, or an allocation fails, and
-- nothing changes
abbrev pub Makes : Contents → Contents → Result NumberSet CallError → CallResult → Type 0
Makes old new (Ok a) o = ((o ≡ number_result old.next) × (new ≡ with_set old a)) ⊎ ((o ≡ memory) × (new ≡ old))
Makes old new (Err e) o = ((o ≡ result_of e) ⊎ (o ≡ memory)) × (new ≡ old)

-- the set with this id is removed; or there is none, and nothing changes
abbrev pub Frees : Contents → Contents → ℕ → CallResult → Type 0
Frees old new id o =
    ((a : NumberSet) × (set_with_id old id ≡ Some a) × (new ≡ without_set old id) × (o ≡ success))
    ⊎ ((set_with_id old id ≡ None) × (new ≡ old) × (o ≡ result_of (NoSuchSet id)))
