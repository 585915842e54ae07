-- The lists of a draft after one of them is replaced.
use Rattle.std.proofs.Common.{◌≡◌, ℕ, zero, suc, ◌+◌, ◌/◌, ◌<◌, ◌≤◌, Bool, true, false, not, ◌&&◌, ◌||◌, List, [], ◌∷◌, Option, None, Some, is_some, length, map, get_or, replicate, take, nat_lt, nat_eq, inl, inr, refl, sym, ap, subst, ◌∙◌, arith}
use Rattle.std.specs.Prelude.{set as set_at}
use Rattle.std.specs.Borrow.{Bor}
use Rattle.std.specs.Option.{unwrap_or, option_copied}
use Rattle.std.specs.FinSet as set
use Rattle.std.proofs.lemmas.Bool.Decides.{nat_tests}
use Rattle.std.proofs.lemmas.Bool.{cases_eq, cases_lt, lt-ltb}
use Rattle.std.proofs.lemmas.List.{ext_get_or, get_or-map, length-map, length-set, get_or-set_same, get_or-set_other}
use Rattle.moc_lists.specs.RangeList.{NumberSet}
use Rattle.moc_lists.specs.Lemmas.Members.{same_members, contains-kept}
use Rattle.moc_ranges.specs.Lemmas.Members.{contains-part_of, contains-pixels}
use Rattle.moc_ranges.specs.Lemmas.{is_pixel}
use Rattle.moc_ranges.specs.Operations.{pixels, base_pixel_size, part_of, IsWithin}
use Rattle.moc_parts.specs.declared.change.Change.{Change}
use Rattle.moc_parts.specs.Private.Changes.{set_after_change, changed_part, IsChange}
use Rattle.moc_parts.specs.Parts.{union_of, parts_below}
use Rattle.moc_parts.specs.Private.Drafts.{current_lists, sets_of, with_part, AreParts}
use Rattle.moc_parts.specs.Prepared.{content_or_empty}
use Rattle.moc_parts.proofs.Members.{has-union, has-difference, and_true, or_true}
use Rattle.moc_parts.proofs.PartTheorem.{part_theorem}
use Rattle.moc_parts.proofs.Twelve.{first_parts, has-first_parts, length-parts_below, get-parts_below, parts_length, get-parts, within_base}

-- ---- lists

pub length-current_lists : (before : List NumberSet) (made : List (Option NumberSet)) → length (current_lists before made) ≡ length before
length-current_lists [] made = refl
length-current_lists (part ∷ before) [] = ap suc (length-current_lists before [])
length-current_lists (part ∷ before) (new ∷ made) = ap suc (length-current_lists before made)

pub current_lists-no : (before : List NumberSet) → current_lists before [] ≡ before
current_lists-no [] = refl
current_lists-no (part ∷ before) = ap (λ parts. part ∷ parts) (current_lists-no before)

-- if no list was replaced, the current lists are the original ones
pub current_lists-none : (before : List NumberSet) (n : ℕ) → current_lists before (replicate n None) ≡ before
current_lists-none [] n = refl
current_lists-none (part ∷ before) zero = current_lists-no (part ∷ before)
current_lists-none (part ∷ before) (suc n) = ap (λ parts. part ∷ parts) (current_lists-none before n)

pub get-current_lists : (before : List NumberSet) (made : List (Option NumberSet)) (b : ℕ) (d : NumberSet) (e : Option NumberSet) → b < length before → b < length made → get_or (current_lists before made) b d ≡ unwrap_or (get_or made b e) (get_or before b d)
get-current_lists [] made b d e l m = absurd (omega arith)
get-current_lists (part ∷ before) [] b d e l m = absurd (omega arith)
get-current_lists (part ∷ before) (new ∷ made) zero d e l m = refl
get-current_lists (part ∷ before) (new ∷ made) (suc b) d e l m = get-current_lists before made b d e (omega arith) (omega arith)

pub set-current_lists : (before : List NumberSet) (made : List (Option NumberSet)) (b : ℕ) (part : NumberSet) → b < length before → b < length made → current_lists before (set_at made b (Some part)) ≡ set_at (current_lists before made) b part
set-current_lists [] made b part l m = absurd (omega arith)
set-current_lists (one ∷ before) [] b part l m = absurd (omega arith)
set-current_lists (one ∷ before) (new ∷ made) zero part l m = refl
set-current_lists (one ∷ before) (new ∷ made) (suc b) part l m = ap (λ parts. unwrap_or new one ∷ parts) (set-current_lists before made b part (omega arith) (omega arith))

-- one more list is replaced or left
pub current_lists-put : (before : List NumberSet) (made : List (Option NumberSet)) (b : ℕ) (part : NumberSet) → b < length before → b < length made → get_or made b None ≡ Some part → current_lists before (take (suc b) made) ≡ set_at (current_lists before (take b made)) b part
current_lists-put [] made b part l m e = absurd (omega arith)
current_lists-put (one ∷ before) [] b part l m e = absurd (omega arith)
current_lists-put (one ∷ before) (new ∷ made) zero part l m e = ap (λ o. unwrap_or o one ∷ current_lists before []) e
current_lists-put (one ∷ before) (new ∷ made) (suc b) part l m e = ap (λ parts. unwrap_or new one ∷ parts) (current_lists-put before made b part (omega arith) (omega arith) e)

pub current_lists-pass : (before : List NumberSet) (made : List (Option NumberSet)) (b : ℕ) → b < length before → b < length made → get_or made b None ≡ None → current_lists before (take (suc b) made) ≡ current_lists before (take b made)
current_lists-pass [] made b l m e = absurd (omega arith)
current_lists-pass (one ∷ before) [] b l m e = absurd (omega arith)
current_lists-pass (one ∷ before) (new ∷ made) zero l m e = ap (λ o. unwrap_or o one ∷ current_lists before []) e
current_lists-pass (one ∷ before) (new ∷ made) (suc b) l m e = ap (λ parts. unwrap_or new one ∷ parts) (current_lists-pass before made b (omega arith) (omega arith) e)

-- ---- a set whose part b is replaced

has-with_part : (a : NumberSet) (b : ℕ) (part : NumberSet) (q : ℕ) → set.contains (with_part a b part) q ≡ ((set.contains a q && not (nat_eq (q / base_pixel_size) b)) || set.contains part q)
unfolding with_part
has-with_part a b part q = has-union (set.retain a (λ p. not (nat_eq (p / base_pixel_size) b))) part q
    ∙ ap (λ t. t || set.contains part q) (contains-kept a (λ p. not (nat_eq (p / base_pixel_size) b)) q)

-- the pixels of a set that is within part b are in base pixel b
has-lying : (part : NumberSet) (b q : ℕ) → part_of part b ≡ part → set.contains part q ≡ (set.contains part q && nat_eq (q / base_pixel_size) b)
has-lying part b q lies = ap (λ c. set.contains c q) (sym lies) ∙ contains-part_of part b q

here : (a x e : Bool) → x ≡ (x && e) → (((a && not e) || x) && e) ≡ x
here true true true h = refl
here true false true h = refl
here true true false h = sym h
here true false false h = refl
here false true true h = refl
here false false true h = refl
here false true false h = sym h
here false false false h = refl

part-with_part : (a : NumberSet) (b : ℕ) (part : NumberSet) → part_of part b ≡ part → part_of (with_part a b part) b ≡ part
part-with_part a b part lies = same_members _ _ (λ q.
    contains-part_of (with_part a b part) b q ∙ ap (λ t. t && nat_eq (q / base_pixel_size) b) (has-with_part a b part q)
    ∙ here (set.contains a q) (set.contains part q) (nat_eq (q / base_pixel_size) b) (has-lying part b q lies))

in_part_or_added : (a x : Bool) (r b k : ℕ) → (k ≡ b → ⊥) → x ≡ (x && nat_eq r b) → (((a && not (nat_eq r b)) || x) && nat_eq r k) ≡ (a && nat_eq r k)
in_part_or_added true true r b k other h = grind (arith, nat_tests)
in_part_or_added true false r b k other h = grind (arith, nat_tests)
in_part_or_added false true r b k other h = grind (arith, nat_tests)
in_part_or_added false false r b k other h = refl

part-with_other : (a : NumberSet) (b : ℕ) (part : NumberSet) (k : ℕ) → (k ≡ b → ⊥) → part_of part b ≡ part → part_of (with_part a b part) k ≡ part_of a k
part-with_other a b part k other lies = same_members _ _ (λ q.
    contains-part_of (with_part a b part) k q ∙ ap (λ t. t && nat_eq (q / base_pixel_size) k) (has-with_part a b part q)
    ∙ in_part_or_added (set.contains a q) (set.contains part q) (q / base_pixel_size) b k other (has-lying part b q lies)
    ∙ sym (contains-part_of a k q))

pub set-parts : (a : NumberSet) (b : ℕ) (part : NumberSet) → b < 12 → part_of part b ≡ part → set_at (parts_below a 12) b part ≡ parts_below (with_part a b part) 12
set-parts a b part l lies =
    let len : length (parts_below a 12) ≡ 12 = length-parts_below a 12 in
    ext_get_or set.empty (set_at (parts_below a 12) b part) (parts_below (with_part a b part) 12)
    (length-set (parts_below a 12) b part ∙ len ∙ sym (length-parts_below (with_part a b part) 12))
    (λ k lt.
    let small : k < 12 = subst (λ n. k < n) (length-set (parts_below a 12) b part ∙ len) lt in
    elim (cases_eq k b) [
      | inl same ↦ ap (λ n. get_or (set_at (parts_below a 12) b part) n set.empty) same ∙ get_or-set_same (parts_below a 12) b part set.empty (subst (λ n. b < n) (sym len) l)
          ∙ sym (part-with_part a b part lies) ∙ ap (λ n. part_of (with_part a b part) n) (sym same) ∙ sym (get-parts_below (with_part a b part) 12 k set.empty small)
      | inr other ↦ get_or-set_other (parts_below a 12) b k part set.empty other ∙ get-parts_below a 12 k set.empty small
          ∙ sym (part-with_other a b part k other lies) ∙ sym (get-parts_below (with_part a b part) 12 k set.empty small)
    ])

-- ---- original lists

-- the first n elements are the given sets, seen through f
abbrev pub IsFilled : {X : Type 0} → (X → NumberSet) → List NumberSet → List X → ℕ → Type 0
IsFilled f lists before b = (length before ≡ 12) × ((k : ℕ) → k < b → get_or (map f before) k set.empty ≡ get_or lists k set.empty)

pub filled_lists_next : {X : Type 0} (f : X → NumberSet) (lists : List NumberSet) (before : List X) (b : ℕ) (list : X) → b < 12 → f list ≡ get_or lists b set.empty
    → IsFilled f lists before b → IsFilled f lists (set_at before b list) (b + 1)
filled_lists_next f lists before b list l is below =
    let many : length (set_at before b list) ≡ 12 = length-set before b list ∙ below.0 in
    let here : (k : ℕ) → k < 12 → get_or (map f (set_at before b list)) k set.empty ≡ f (get_or (set_at before b list) k list) =
    λ k lt. get_or-map f (set_at before b list) k list set.empty (subst (λ n. k < n) (sym many) lt) in (
      many,
      λ k lt. elim (cases_lt k b) [
        | inl earlier ↦
            here k (omega arith) ∙ ap f (get_or-set_other before b k list list (λ e. omega arith))
            ∙ sym (get_or-map f before k list set.empty (subst (λ n. k < n) (sym below.0) (omega arith))) ∙ below.1 k earlier
        | inr past ↦
            let at : k ≡ b = omega arith in
            here k (omega arith) ∙ ap (λ n. f (get_or (set_at before b list) n list)) at
            ∙ ap f (get_or-set_same before b list list (subst (λ n. b < n) (sym below.0) l)) ∙ is ∙ ap (λ n. get_or lists n set.empty) (sym at)
      ],
    )

pub filled_lists_are_all : {X : Type 0} (f : X → NumberSet) (lists : List NumberSet) (before : List X) (b : ℕ) → length lists ≡ 12 → 12 ≤ b → IsFilled f lists before b → map f before ≡ lists
filled_lists_are_all f lists before b twelve all filled =
    let many : length (map f before) ≡ 12 = length-map before f ∙ filled.0 in
    ext_get_or set.empty (map f before) lists (many ∙ sym twelve) (λ k lt. let small : k < 12 = subst (λ n. k < n) many lt in filled.1 k (omega arith))

-- the content of a part, or the empty set
pub content_of : (part : Option (Bor NumberSet)) (no_pixels : Bor NumberSet) → no_pixels.now ≡ set.empty → (unwrap_or part no_pixels).now ≡ content_or_empty (option_copied part)
content_of None no_pixels e = e
content_of (Some list) no_pixels e = refl

-- the replaced list, or otherwise the original list
pub copied_or : (list : Option (Bor NumberSet)) (before : Bor NumberSet) → (unwrap_or list before).now ≡ unwrap_or (option_copied list) before.now
copied_or None before = refl
copied_or (Some list) before = refl

-- ---- a draft

pub previous_twelve : (before : List NumberSet) (made : List (Option NumberSet)) → AreParts (current_lists before made) → length before ≡ 12
previous_twelve before made e = sym (length-current_lists before made) ∙ parts_length (current_lists before made) e

-- the list of one part
pub current_part : (before : List NumberSet) (made : List (Option NumberSet)) (b : ℕ) (d : NumberSet) (e : Option NumberSet) → AreParts (current_lists before made) → length made ≡ 12 → b < 12 → unwrap_or (get_or made b e) (get_or before b d) ≡ part_of (union_of (current_lists before made)) b
current_part before made b d e are twelve l =
    sym (get-current_lists before made b d e (subst (λ n. b < n) (sym (previous_twelve before made are)) l) (subst (λ n. b < n) (sym twelve) l)) ∙ get-parts (current_lists before made) b d are l

-- for each part, the replacement or otherwise the original is that part of the set
pub changed_part_is : (sets : List NumberSet) (made : List (Option NumberSet)) (after : NumberSet) (b : ℕ) → AreParts sets → length made ≡ 12 → current_lists sets made ≡ parts_below after 12 → b < 12
    → unwrap_or (get_or made b None) (part_of (union_of sets) b) ≡ part_of after b
changed_part_is sets made after b are twelve lists l =
    let before : get_or sets b set.empty ≡ part_of (union_of sets) b = ap (λ s. get_or s b set.empty) are ∙ get-parts_below (union_of sets) 12 b set.empty l in
    ap (λ d. unwrap_or (get_or made b None) d) (sym before)
    ∙ sym (get-current_lists sets made b set.empty None (subst (λ n. b < n) (sym (parts_length sets are)) l) (subst (λ n. b < n) (sym twelve) l))
    ∙ ap (λ s. get_or s b set.empty) lists ∙ get-parts_below after 12 b set.empty l

-- the lists below b have their final values, and the others are unchanged
abbrev pub AreDoneBelow : List (Option NumberSet) → List (Option NumberSet) → (ℕ → Option NumberSet) → ℕ → Type 0
AreDoneBelow made lists is b =
    (length lists ≡ 12) × ((k : ℕ) → k < b → get_or lists k None ≡ is k) × ((k : ℕ) → b ≤ k → get_or lists k None ≡ get_or made k None)

pub list_replaced : (made lists after : List (Option NumberSet)) (is : ℕ → Option NumberSet) (b : ℕ) (x : Option NumberSet) → b < 12 → after ≡ set_at lists b x
    → x ≡ is b → AreDoneBelow made lists is b → AreDoneBelow made after is (b + 1)
list_replaced made lists after is b x l put right below = (
  ap length put ∙ length-set lists b x ∙ below.0,
  λ k lt. elim (cases_lt k b) [
    | inl earlier ↦ ap (λ xs. get_or xs k None) put ∙ get_or-set_other lists b k x None (λ e. omega arith) ∙ below.1 k earlier
    | inr past ↦
        let at : k ≡ b = omega arith in
        ap (λ xs. get_or xs k None) put ∙ ap (λ n. get_or (set_at lists b x) n None) at
        ∙ get_or-set_same lists b x None (subst (λ n. b < n) (sym below.0) l) ∙ right ∙ ap is (sym at)
  ],
  λ k le. ap (λ xs. get_or xs k None) put ∙ get_or-set_other lists b k x None (λ e. omega arith) ∙ below.2 k (omega arith),
)

pub list_is_missing : (made lists after : List (Option NumberSet)) (is : ℕ → Option NumberSet) (b : ℕ) → after ≡ lists → get_or lists b None ≡ is b
    → AreDoneBelow made lists is b → AreDoneBelow made after is (b + 1)
list_is_missing made lists after is b same right below = (
  ap length same ∙ below.0,
  λ k lt. elim (cases_lt k b) [
    | inl earlier ↦ ap (λ xs. get_or xs k None) same ∙ below.1 k earlier
    | inr past ↦
        let at : k ≡ b = omega arith in
        ap (λ xs. get_or xs k None) same ∙ ap (λ n. get_or lists n None) at ∙ right ∙ ap is (sym at)
  ],
  λ k le. ap (λ xs. get_or xs k None) same ∙ below.2 k (omega arith),
)

-- if a part has no replacement, its original list is that part of the set
pub previous_part : (before : List (Bor NumberSet)) (made : List (Option NumberSet)) (b : ℕ) (item : Option NumberSet) (list : Bor NumberSet)
    → AreParts (current_lists (sets_of before) made) → length made ≡ 12 → b < 12 → item ≡ get_or made b None → is_some item ≡ false
    → list ≡ get_or before b list → list.now ≡ part_of (union_of (current_lists (sets_of before) made)) b
previous_part before made b None list are twelve l item_is none list_is =
    let many : length before ≡ 12 = sym (length-map before (λ x. x.now)) ∙ previous_twelve (sets_of before) made are in
    let found_is : list.now ≡ get_or (sets_of before) b list.now =
    ap (λ x. x.now) list_is ∙ sym (get_or-map (λ x. x.now) before b list list.now (subst (λ n. b < n) (sym many) l)) in
    (λ i. unwrap_or (item_is i) (found_is i)) ∙ current_part (sets_of before) made b list.now None are twelve l
previous_part before made b (Some x) list are twelve l item_is none list_is = absurd (cc)

-- a replacement is that part of the set
pub single_part : (before : List NumberSet) (made : List (Option NumberSet)) (b : ℕ) (item : Option NumberSet) → AreParts (current_lists before made) → length made ≡ 12
    → b < 12 → item ≡ get_or made b None → is_some item ≡ true → item ≡ Some (part_of (union_of (current_lists before made)) b)
single_part before made b None are twelve l item_is some = absurd (cc)
single_part before made b (Some x) are twelve l item_is some =
    ap Some (ap (λ o. unwrap_or o (get_or before b set.empty)) item_is ∙ current_part before made b set.empty None are twelve l)

pub some_copied : (item : Option (Bor NumberSet)) → is_some (option_copied item) ≡ is_some item
some_copied None = refl
some_copied (Some x) = refl

-- one more list is replaced
pub newest_set : (before : List NumberSet) (made : List (Option NumberSet)) (b : ℕ) (part : NumberSet) → AreParts (current_lists before made) → length made ≡ 12 → b < 12 → part_of part b ≡ part
    → current_lists before (set_at made b (Some part)) ≡ parts_below (with_part (union_of (current_lists before made)) b part) 12
newest_set before made b part e twelve l lies =
    set-current_lists before made b part (subst (λ n. b < n) (sym (previous_twelve before made e)) l) (subst (λ n. b < n) (sym twelve) l)
    ∙ ap (λ parts. set_at parts b part) e ∙ set-parts (union_of (current_lists before made)) b part l lies

base_pixel_below_twelve : (b q : ℕ) → b < 12 → nat_eq (q / base_pixel_size) b ≡ true → q / base_pixel_size < 12
base_pixel_below_twelve b q l e = grind (arith, nat_tests)

pub with_part_within : (a : NumberSet) (b : ℕ) (part : NumberSet) → b < 12 → IsWithin a pixels → part_of part b ≡ part → IsWithin (with_part a b part) pixels
with_part_within a b part l w lies = record {
  each = λ q h. elim (or_true (set.contains a q && not (nat_eq (q / base_pixel_size) b)) (set.contains part q) (sym (has-with_part a b part q) ∙ h)) [
    | inl old ↦ w.each q (and_true (set.contains a q) (not (nat_eq (q / base_pixel_size) b)) old).0
    | inr new ↦ contains-pixels q ∙ is_pixel q (base_pixel_below_twelve b q l (and_true (set.contains part q) (nat_eq (q / base_pixel_size) b) (sym (has-lying part b q lies) ∙ new)).1)
  ];
}

-- ---- a set whose first parts are changed

unfoldable pub half_changed : NumberSet → NumberSet → ℕ → NumberSet
half_changed new old n = set.union (first_parts new n) (set.difference old (first_parts old n))

has-half : (new old : NumberSet) (n q : ℕ) → set.contains (half_changed new old n) q ≡ ((set.contains new q && nat_lt (q / base_pixel_size) n) || (set.contains old q && not (set.contains old q && nat_lt (q / base_pixel_size) n)))
unfolding half_changed
has-half new old n q = has-union (first_parts new n) (set.difference old (first_parts old n)) q
    ∙ (λ i. has-first_parts new n q i || (has-difference old (first_parts old n) q ∙ ap (λ t. set.contains old q && not t) (has-first_parts old n q)) i)

half-start : (x y : Bool) (r : ℕ) → ((x && nat_lt r 0) || (y && not (y && nat_lt r 0))) ≡ y
half-start true true r = grind (arith, nat_tests)
half-start true false r = grind (arith, nat_tests)
half-start false true r = grind (arith, nat_tests)
half-start false false r = refl

pub half-none : (new old : NumberSet) → half_changed new old 0 ≡ old
half-none new old = same_members _ _ (λ q. has-half new old 0 q ∙ half-start (set.contains new q) (set.contains old q) (q / base_pixel_size))

half-end : (x y e : Bool) → (x ≡ true → e ≡ true) → (y ≡ true → e ≡ true) → ((x && e) || (y && not (y && e))) ≡ x
half-end true true true f g = refl
half-end true true false f g = refl
half-end true false true f g = refl
half-end true false false f g = f refl
half-end false true true f g = refl
half-end false true false f g = sym (g refl)
half-end false false e f g = refl

pub half-all : (new old : NumberSet) → IsWithin new pixels → IsWithin old pixels → half_changed new old 12 ≡ new
half-all new old v w = same_members _ _ (λ q. has-half new old 12 q ∙ half-end (set.contains new q) (set.contains old q) (nat_lt (q / base_pixel_size) 12)
    (λ h. lt-ltb (q / base_pixel_size) 12 (within_base new v q h)) (λ h. lt-ltb (q / base_pixel_size) 12 (within_base old w q h)))

half-here : (x y : Bool) (r n : ℕ) → (((x && nat_lt r n) || (y && not (y && nat_lt r n))) && nat_eq r n) ≡ (y && nat_eq r n)
half-here true true r n = grind (arith, nat_tests)
half-here true false r n = grind (arith, nat_tests)
half-here false true r n = grind (arith, nat_tests)
half-here false false r n = refl

-- the next part is not yet changed
pub part-half : (new old : NumberSet) (n : ℕ) → part_of (half_changed new old n) n ≡ part_of old n
part-half new old n = same_members _ _ (λ q. contains-part_of (half_changed new old n) n q ∙ ap (λ t. t && nat_eq (q / base_pixel_size) n) (has-half new old n q)
    ∙ half-here (set.contains new q) (set.contains old q) (q / base_pixel_size) n ∙ sym (contains-part_of old n q))

half-next : (x y : Bool) (r n : ℕ) → ((((x && nat_lt r n) || (y && not (y && nat_lt r n))) && not (nat_eq r n)) || (x && nat_eq r n)) ≡ ((x && nat_lt r (n + 1)) || (y && not (y && nat_lt r (n + 1))))
half-next true true r n = grind (arith, nat_tests)
half-next true false r n = grind (arith, nat_tests)
half-next false true r n = grind (arith, nat_tests)
half-next false false r n = refl

-- one more part is changed
pub with_next : (new old : NumberSet) (n : ℕ) → with_part (half_changed new old n) n (part_of new n) ≡ half_changed new old (n + 1)
with_next new old n = same_members _ _ (λ q. has-with_part (half_changed new old n) n (part_of new n) q
    ∙ (λ i. (has-half new old n q i && not (nat_eq (q / base_pixel_size) n)) || contains-part_of new n q i)
    ∙ half-next (set.contains new q) (set.contains old q) (q / base_pixel_size) n ∙ sym (has-half new old (n + 1) q))

or_of_complements : (x e : Bool) → ((x && not e) || (x && e)) ≡ x
or_of_complements true true = refl
or_of_complements true false = refl
or_of_complements false e = refl

-- replacing a part of a set by itself leaves the set unchanged
pub with_unchanged_part : (a : NumberSet) (b : ℕ) → with_part a b (part_of a b) ≡ a
with_unchanged_part a b = same_members _ _ (λ q. has-with_part a b (part_of a b) q ∙ ap (λ t. (set.contains a q && not (nat_eq (q / base_pixel_size) b)) || t) (contains-part_of a b q) ∙ or_of_complements (set.contains a q) (nat_eq (q / base_pixel_size) b))

-- a part is within its base pixel
pub part_of_part_same : (a : NumberSet) (b : ℕ) → part_of (part_of a b) b ≡ part_of a b
part_of_part_same a b = same_members _ _ (λ q. contains-part_of (part_of a b) b q ∙ ap (λ t. t && nat_eq (q / base_pixel_size) b) (contains-part_of a b q) ∙ again (set.contains a q) (nat_eq (q / base_pixel_size) b) ∙ sym (contains-part_of a b q))
  where
    again : (x e : Bool) → ((x && e) && e) ≡ (x && e)
    again true true = refl
    again true false = refl
    again false e = refl

-- the next part, and the effect of a change on it
pub part_was : (new old whole part : NumberSet) (b : ℕ) → whole ≡ half_changed new old b → part ≡ part_of whole b → part ≡ part_of old b
part_was new old whole part b half p = p ∙ ap (λ a. part_of a b) half ∙ part-half new old b

pub part_becomes : (change : Change) → IsChange change → (old part : NumberSet) (b : ℕ) → part ≡ part_of old b → changed_part change part b ≡ part_of (set_after_change change old) b
part_becomes change is old part b p = ap (λ q. changed_part change q b) p ∙ sym (part_theorem change is old b)
