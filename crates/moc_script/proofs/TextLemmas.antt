-- Texts in one buffer.
use Rattle.std.proofs.Common.{◌≡◌, ℕ, ◌+◌, ◌≤◌, List, [], ◌∷◌, ◌++◌, length, take, drop, refl, ap, ◌∙◌, arith, length-drop}
use Rattle.std.proofs.lemmas.List.{take-append-le, take-append-drop, drop-append-le, take_all}
use Rattle.std.specs.List.{concat}
use Rattle.moc_script.specs.Private.Texts.{split_by_len, total}

-- one more text
pub split_by_len-push : (lens bytes text : List ℕ) → total lens ≡ length bytes → split_by_len (lens ++ length text ∷ []) (bytes ++ text) ≡ split_by_len lens bytes ++ text ∷ []
split_by_len-push [] [] text sum = ap (λ l. l ∷ []) (take_all (length text) text (omega arith))
split_by_len-push [] (b ∷ bytes) text sum = absurd (omega arith)
split_by_len-push (len ∷ lens) bytes text sum =
    let low : len ≤ length bytes = omega (arith, sum) in
    let rest : total lens ≡ length (drop len bytes) = omega (arith, sum, length-drop len bytes) in
    ap (λ l. l ∷ split_by_len (lens ++ length text ∷ []) (drop len (bytes ++ text))) (take-append-le len bytes text low)
    ∙ ap (λ l. take len bytes ∷ l) (ap (split_by_len (lens ++ length text ∷ [])) (drop-append-le len bytes text low) ∙ split_by_len-push lens (drop len bytes) text rest)

pub total-push : (lens : List ℕ) (len : ℕ) → total (lens ++ len ∷ []) ≡ total lens + len
total-push [] len = omega arith
total-push (first ∷ lens) len = omega (arith, total-push lens len)

-- the texts split from bytes are the bytes, one after another
pub merging-split_by_len : (lens bytes : List ℕ) → total lens ≡ length bytes → concat (split_by_len lens bytes) ≡ bytes
merging-split_by_len [] [] sum = refl
merging-split_by_len [] (b ∷ bytes) sum = absurd (omega arith)
merging-split_by_len (len ∷ lens) bytes sum =
    let rest : total lens ≡ length (drop len bytes) = omega (arith, sum, length-drop len bytes) in
    ap (λ l. take len bytes ++ l) (merging-split_by_len lens (drop len bytes) rest) ∙ take-append-drop len bytes
