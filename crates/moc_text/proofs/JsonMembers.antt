-- The members of an object, one by one.
use Rattle.std.proofs.Common.{◌≡◌, ℕ, ◌+◌, List, Option, Some, None, refl, sym, ap, ◌∙◌, inl, inr}
use Rattle.std.specs.Option.{option_map_or, option_or}
use Rattle.std.specs.FinSet as set
use Rattle.serde_json.specs.Data.{Data, Items, item, Members, member}
use Rattle.serde_json.specs.Find.{as_array, as_object}
use Rattle.serde_json.specs.Read.{read}
use Rattle.moc_lists.specs.RangeList.{NumberSet}
use Rattle.moc_ranges.specs.Lemmas.{union-assoc}
use Rattle.moc_text.specs.Ascii.{deeper}
use Rattle.moc_text.specs.Errors.{Fails}
use Rattle.moc_text.specs.JsonFormat.{order_of_name, whole_number, cell_pixels, element_error, items_pixels}
use Rattle.moc_text.specs.JsonFormat.{elements_error, array_pixels, name_error, members_pixels, members_error}
use Rattle.moc_text.specs.JsonFormat.{deepest_name, IsJson, RepresentsJson, IsJsonError}
use Rattle.moc_text.specs.declared.json_format.error.JsonError.{JsonError}
use Rattle.moc_text.specs.declared.json_format.error.JsonError.TheVariants.{NotObject}
use Rattle.moc_text.proofs.ReadWords.{deeper_assoc}

-- an error precedes later errors
pub first_fails : (m e : JsonError) (f later : Option JsonError) → Fails m f e → Fails m (option_or f later) e
first_fails m e f later (inl none) = inl none
first_fails m e f later (inr h) = inr (rw h refl)

-- ---- items

pub element_without_error : (k name place : ℕ) (d : Data) (ds : Items) → element_error k name place (whole_number d) ≡ None → elements_error k name (place + 1) ds ≡ elements_error k name place (item d ds)
element_without_error k name place d ds h = sym (ap (λ f. option_or f (elements_error k name (place + 1) ds)) h)

pub item_added : (k : ℕ) (old new : NumberSet) (d : Data) (ds : Items) → new ≡ set.union old (cell_pixels k (whole_number d)) → set.union new (items_pixels k ds) ≡ set.union old (items_pixels k (item d ds))
item_added k old new d ds h = ap (λ (a : NumberSet). set.union a (items_pixels k ds)) h ∙ union-assoc old (cell_pixels k (whole_number d)) (items_pixels k ds)

-- ---- members

pub member_without_error : (name : ℕ) (text : List ℕ) (d : Data) (ms : Members) → name_error name (order_of_name text) (as_array d) ≡ None → members_error (name + 1) ms ≡ members_error name (member text d ms)
member_without_error name text d ms h = sym (ap (λ f. option_or f (members_error (name + 1) ms)) h)

pub member_added : (old new : NumberSet) (text : List ℕ) (d : Data) (ms : Members) → new ≡ set.union old (array_pixels (order_of_name text) (as_array d)) → set.union new (members_pixels ms) ≡ set.union old (members_pixels (member text d ms))
member_added old new text d ms h = ap (λ (a : NumberSet). set.union a (members_pixels ms)) h ∙ union-assoc old (array_pixels (order_of_name text) (as_array d)) (members_pixels ms)

pub member_deepest : (old new : Option ℕ) (k : ℕ) (text : List ℕ) (d : Data) (ms : Members) → order_of_name text ≡ Some k → new ≡ deeper old (Some k) → deeper new (deepest_name ms) ≡ deeper old (deepest_name (member text d ms))
member_deepest old new k text d ms o h =
    ap (λ (x : Option ℕ). deeper x (deepest_name ms)) h ∙ deeper_assoc old (Some k) (deepest_name ms)
    ∙ ap (λ (x : Option ℕ). deeper old (deeper x (deepest_name ms))) (sym o)

-- ---- the text

-- a value is determined by its text
json_value_is_unique : (bytes : List ℕ) (c d : Data) → IsJson bytes c → IsJson bytes d → c ≡ d
json_value_is_unique bytes c d x y = let same : Some c ≡ Some d = sym x.value ∙ y.value in cc

pub json_set_is_unique : (bytes : List ℕ) (a b : NumberSet) (j k : Option ℕ) → RepresentsJson bytes a j → RepresentsJson bytes b k → (a ≡ b) × (j ≡ k)
json_set_is_unique bytes a b j k x y =
    let value = json_value_is_unique bytes x.value y.value x.json y.json in
    let found : Some x.members ≡ Some y.members = sym x.object ∙ ap as_object value ∙ y.object in
    let members : x.members ≡ y.members = cc in
    (x.set_is ∙ ap members_pixels members ∙ sym y.set_is, x.moc_order_is ∙ ap deepest_name members ∙ sym y.moc_order_is)

-- a text with an error does not represent a set
pub error_excludes_value : (bytes : List ℕ) (a : NumberSet) (k : Option ℕ) (e : JsonError) → RepresentsJson bytes a k → IsJsonError bytes e → ⊥
error_excludes_value bytes a k e s (inl nothing) =
    let none : read bytes ≡ None = nothing.1 s.json.utf8 in
    let some : read bytes ≡ Some s.value = s.json.value in
    absurd cc
error_excludes_value bytes a k e s (inr d) =
    let value = json_value_is_unique bytes s.value d.0 s.json d.1 in
    let fault : members_error 0 s.members ≡ Some e =
    ap (λ (o : Option Members). option_map_or (members_error 0) o (Some NotObject)) (sym s.object ∙ ap as_object value)
    ∙ d.2 in
    let none : members_error 0 s.members ≡ None = s.without_error in
    absurd cc
