-- The union of the given parts, with one more part.
use Rattle.std.proofs.Common.{◌≡◌, ℕ, ◌+◌, ◌<◌, List, length, get_or, take, sym, ap, subst, ◌∙◌}
use Rattle.std.proofs.lemmas.List.{take_more, get_or-map, length-map}
use Rattle.std.specs.Prelude.{Option}
use Rattle.std.specs.Option.{option_copied}
use Rattle.std.specs.Borrow.{Bor}
use Rattle.std.specs.FinSet as set
use Rattle.moc_lists.specs.RangeList.{NumberSet}
use Rattle.moc_lists.specs.Lemmas.Members.{same_members}
use Rattle.moc_parts.specs.Parts.{union_of}
use Rattle.moc_parts.specs.Prepared.{content_or_empty, given_sets}
use Rattle.moc_parts.proofs.Members.{has-union}
use Rattle.moc_parts.proofs.Twelve.{has-union_of_append}

-- one more set
union_next : (sets : List NumberSet) (i : ℕ) (d : NumberSet) → i < length sets → set.union (union_of (take i sets)) (get_or sets i d) ≡ union_of (take (i + 1) sets)
union_next sets i d l =
    same_members _ _ (λ q. has-union (union_of (take i sets)) (get_or sets i d) q ∙ sym (has-union_of_append (take i sets) (get_or sets i d) q))
    ∙ ap union_of (sym (take_more sets i d l))

-- the given content of one more part
pub united_next : (parts : List (Option (Bor NumberSet))) (i : ℕ) (part : Option (Bor NumberSet)) (before after : NumberSet) → i < 12 → length parts ≡ 12 → part ≡ get_or parts i part
    → before ≡ union_of (take i (given_sets parts)) → after ≡ set.union before (content_or_empty (option_copied part)) → after ≡ union_of (take (i + 1) (given_sets parts))
united_next parts i part before after l twelve is union more =
    let view : Option (Bor NumberSet) → NumberSet = λ x. content_or_empty (option_copied x) in
    let content : view part ≡ get_or (given_sets parts) i set.empty =
    ap view is ∙ sym (get_or-map view parts i part set.empty (subst (λ n. i < n) (sym twelve) l)) in
    more ∙ (λ j. set.union (union j) (content j))
    ∙ union_next (given_sets parts) i set.empty (subst (λ n. i < n) (sym (length-map parts view ∙ twelve)) l)
