-- The text in the order in which it is written consists of its words separated by spaces.
use Rattle.std.proofs.Common.{◌≡◌, ℕ, List, [], ◌∷◌, ◌++◌, Option, Some, None, option_map, option_to_list, refl, sym, ap, ◌∙◌}
use Rattle.std.specs.List.{join_with_byte}
use Rattle.std.proofs.lemmas.List.{append-nil}
use Rattle.moc_text.specs.AsciiText.{order_text, mark_text_of, run_text, stated_if_deeper, words_of}
use Rattle.moc_text.specs.Private.AsciiWriting.{run_part, with_leading_space, remaining_text}
use Rattle.moc_text.specs.declared.ascii.writing.Run.{Run}

-- words after a word
abbrev behind : List (List ℕ) → List ℕ
behind [] = []
behind (w ∷ ws) = 32 ∷ join_with_byte 32 (w ∷ ws)

join-cons : (w : List ℕ) (ws : List (List ℕ)) → join_with_byte 32 (w ∷ ws) ≡ w ++ behind ws
join-cons w [] = sym (append-nil w)
join-cons w (v ∷ ws) = refl

empty_order-behind : (j : ℕ) (empty_order : Option ℕ) → with_leading_space (Some j) (option_to_list (option_map order_text empty_order)) ≡ behind (option_to_list (option_map order_text empty_order))
empty_order-behind j None = refl
empty_order-behind j (Some k) = refl

remaining_text-behind : (stated : Option ℕ) (j : ℕ) (rs : List Run) → remaining_text stated (Some j) rs ≡ behind (words_of stated (Some j) rs)
remaining_text-behind stated j [] = empty_order-behind j (stated_if_deeper (Some j) stated)
remaining_text-behind stated j (r ∷ rs) =
    let w = mark_text_of (Some j) r.order ++ run_text r in
    ap (λ (t : List ℕ). run_part (Some j) r ++ t) (remaining_text-behind stated r.order rs)
    ∙ ap (λ (t : List ℕ). 32 ∷ t) (sym (join-cons w (words_of stated (Some r.order) rs)))

pub remaining_text-join : (stated : Option ℕ) (rs : List Run) → remaining_text stated None rs ≡ join_with_byte 32 (words_of stated None rs)
remaining_text-join None [] = refl
remaining_text-join (Some k) [] = refl
remaining_text-join stated (r ∷ rs) =
    ap (λ (t : List ℕ). (order_text r.order ++ run_text r) ++ t) (remaining_text-behind stated r.order rs)
    ∙ sym (join-cons (order_text r.order ++ run_text r) (words_of stated (Some r.order) rs))
