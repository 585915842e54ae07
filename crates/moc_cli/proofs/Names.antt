-- The arguments of `draw` after the format.
use Rattle.std.proofs.Common.{◌≡◌, ◌∙◌, ◌-◌, Bool, true, false, not, List, ap, sym, refl, arith, length, take, drop, map}
use Rattle.std.specs.List.{list_all}
use Rattle.std.proofs.lemmas.List.{drop-map, length-drop, take_all}
use Rattle.clap.specs.Words.{Text}
use Rattle.moc_cli.specs.Endings.{is_name}

false_of_not : (b : Bool) → not b ≡ true → b ≡ false
false_of_not true e = cc
false_of_not false e = refl

pub rest_is_invalid : {X : Type 0} (text : X → Text) (xs : List X) (b : Bool)
    → b ≡ list_all is_name (map text (take (length xs - 2) (drop 2 xs))) → not b ≡ true → list_all is_name (drop 2 (map text xs)) ≡ false
rest_is_invalid text xs b is none =
    let all : take (length xs - 2) (drop 2 xs) ≡ drop 2 xs = take_all (length xs - 2) (drop 2 xs) (omega (arith, length-drop 2 xs)) in
    ap (list_all is_name) (drop-map text 2 xs ∙ ap (map text) (sym all)) ∙ sym is ∙ false_of_not b none
