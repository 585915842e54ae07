-- A step of an operation makes its lists of ranges shorter.
use Rattle.std.proofs.Common.{◌≡◌, ℕ, ◌+◌, ◌<◌, ◌≤◌, List, length, ap, arith, length-append, Option, Some}
use Rattle.moc_blocks.specs.Private.Built.{MovesPrefix, GrowingList}
use Rattle.moc_operations.specs.Private.Taking.{MovesCommon, MovesNext}
use Rattle.moc_operations.specs.Private.Walks.{from_current}
use Rattle.moc_blocks.specs.Private.Walks.{Advances}
use Rattle.moc_operations.proofs.Walking.{from_current_of_steps}

-- a list from which a range was removed
pub length_from_current : (first : Option (ℕ × ℕ)) (x : ℕ × ℕ) (xs : List (ℕ × ℕ)) → first ≡ Some x → length (from_current first xs) ≡ length xs + 1
length_from_current first x xs is = omega (arith, ap (λ o. length (from_current o xs)) is)

pub advanced_shorter : (range : ℕ × ℕ) (xs t : List (ℕ × ℕ)) (r : Option (ℕ × ℕ)) (n : ℕ) → Advances range xs t r n → length (from_current r t) ≤ length xs
advanced_shorter range xs t r n a = omega (arith, ap length (from_current_of_steps a.rest r t a.step), ap length a.passed.parts, length-append a.passed.removed a.rest)

pub length_after_move : {ks ks' xs xs' : List (ℕ × ℕ)} {limit : ℕ} → MovesPrefix xs xs' limit ks ks' → length xs' ≤ length xs
length_after_move {xs' = xs'} c = omega (arith, ap length c.parts, length-append c.removed xs')

pub common_move_shortens : {ks ks' xs xs' : List (ℕ × ℕ)} {range : ℕ × ℕ} → MovesCommon xs xs' range ks ks' → length xs' ≤ length xs
common_move_shortens {xs' = xs'} t = omega (arith, ap length t.parts, length-append t.removed xs')

pub over_shorter : {b b' : GrowingList} {xs xs' : List (ℕ × ℕ)} {limit : ℕ} → MovesNext xs xs' limit b b' → length xs' < length xs
over_shorter {xs' = xs'} t = omega (arith, ap length t.parts, length-append t.removed xs', t.some)
