-- Lists by the fill rule: each has 1 to `most` elements, and two adjacent lists together have more.
use Rattle.std.proofs.Common.{◌≡◌, ℕ, zero, suc, ◌+◌, ◌<◌, ◌≤◌, List, [], ◌∷◌, ◌++◌, length, get_or, refl, sym, ap}
use Rattle.std.proofs.Common.{subst, ◌∙◌, arith, append_assoc}
use Rattle.moc_blocks.specs.Blocks.{concat, ObeysFillRule}
use Rattle.moc_blocks.specs.Private.Built.{AreGrouped, first_length, last_length}
use Rattle.moc_blocks.proofs.Blocking.{concat-last, append_empty}

pub last_length-append : {X : Type 0} → (ls ms : List (List X)) → 0 < length ms → last_length (ls ++ ms) ≡ last_length ms
last_length-append [] ms some = refl
last_length-append (l ∷ []) [] some = absurd (omega arith)
last_length-append (l ∷ []) (m ∷ ms) some = refl
last_length-append (l ∷ (l' ∷ ls)) ms some = last_length-append (l' ∷ ls) ms some

pub last_length-get : {X : Type 0} → (ls : List (List X)) (d : List X) (i : ℕ) → i + 1 ≡ length ls → last_length ls ≡ length (get_or ls i d)
last_length-get [] d i e = absurd (omega arith)
last_length-get (l ∷ []) d zero e = refl
last_length-get (l ∷ []) d (suc i) e = absurd (omega arith)
last_length-get (l ∷ (m ∷ ls)) d zero e = absurd (omega arith)
last_length-get (l ∷ (m ∷ ls)) d (suc i) e = last_length-get (m ∷ ls) d i (omega arith)

pub length_read : {X : Type 0} → (ls : List (List X)) (last : List X) (i : ℕ) → i + 1 ≡ length ls → last ≡ get_or ls i last → length last ≡ last_length ls
length_read ls last i e is = ap length is ∙ sym (last_length-get ls last i e)

-- one more list at the end
pub fill_rule_add : {X : Type 0} → (most : ℕ) (ls : List (List X)) (l : List X) → ObeysFillRule most ls → (0 < last_length ls → most < last_length ls + length l) → 0 < length l → length l ≤ most → ObeysFillRule most (ls ++ l ∷ [])
fill_rule_add most [] l ok apart some le = (some, le, tt, tt)
fill_rule_add most (a ∷ []) l ok apart some le = (ok.0, ok.1, apart ok.0, (some, le, tt, tt))
fill_rule_add most (a ∷ (b ∷ ls)) l ok apart some le = (ok.0, ok.1, ok.2, fill_rule_add most (b ∷ ls) l ok.3 apart some le)

-- a longer list in place of the last
pub fill_rule_longer : {X : Type 0} → (most : ℕ) (ls : List (List X)) (last longer : List X) → ObeysFillRule most (ls ++ last ∷ []) → length last ≤ length longer → length longer ≤ most → ObeysFillRule most (ls ++ longer ∷ [])
fill_rule_longer most [] last longer ok more le = (omega arith, le, tt, tt)
fill_rule_longer most (a ∷ []) last longer ok more le = (ok.0, ok.1, omega arith, (omega arith, le, tt, tt))
fill_rule_longer most (a ∷ (b ∷ ls)) last longer ok more le = (ok.0, ok.1, ok.2, fill_rule_longer most (b ∷ ls) last longer ok.3 more le)

pub fill_rule_suffix : {X : Type 0} → (most : ℕ) (ls ms : List (List X)) → ObeysFillRule most (ls ++ ms) → ObeysFillRule most ms
fill_rule_suffix most [] ms ok = ok
fill_rule_suffix most (l ∷ ls) ms ok = fill_rule_suffix most ls ms ok.3

pub fill_rule_append : {X : Type 0} → (most : ℕ) (ls ms : List (List X)) → ObeysFillRule most ls → ObeysFillRule most ms → (0 < last_length ls → most < last_length ls + first_length ms) → ObeysFillRule most (ls ++ ms)
fill_rule_append most [] ms ok more seam = more
fill_rule_append most (l ∷ []) [] ok more seam = ok
fill_rule_append most (l ∷ []) (m ∷ ms) ok more seam = (ok.0, ok.1, seam ok.0, more)
fill_rule_append most (l ∷ (l' ∷ ls)) ms ok more seam = (ok.0, ok.1, ok.2, fill_rule_append most (l' ∷ ls) ms ok.3 more seam)

-- without the last list
pub fill_rule_init : {X : Type 0} → (most : ℕ) (ls : List (List X)) (last : List X) → ObeysFillRule most (ls ++ last ∷ []) → ObeysFillRule most ls
fill_rule_init most [] last ok = tt
fill_rule_init most (a ∷ []) last ok = (ok.0, ok.1, tt, tt)
fill_rule_init most (a ∷ (b ∷ ls)) last ok = (ok.0, ok.1, ok.2, fill_rule_init most (b ∷ ls) last ok.3)

-- the last list fits, and keeps the fill rule with the one before it
pub fill_rule_last : {X : Type 0} → (most : ℕ) (ls : List (List X)) (last : List X) → ObeysFillRule most (ls ++ last ∷ []) → (length last ≤ most) × (0 < last_length ls → most < last_length ls + length last)
fill_rule_last most [] last ok = (ok.1, λ some. absurd (omega (arith, some)))
fill_rule_last most (a ∷ []) last ok = (ok.3.1, λ some. ok.2)
fill_rule_last most (a ∷ (b ∷ ls)) last ok = fill_rule_last most (b ∷ ls) last ok.3

pub some_blocks : (bs : List (List (ℕ × ℕ))) → 0 < length (concat bs) → 0 < length bs
some_blocks [] some = some
some_blocks (b ∷ bs) some = omega arith

-- the blocks after the nodes, except the last, became a node
pub grouped_after_push : (ns ns' : List (List (List (ℕ × ℕ)))) (bs bs' node : List (List (ℕ × ℕ))) → AreGrouped ns bs → (0 < last_length ns → 16 < last_length ns + length bs) → ns' ≡ ns ++ node ∷ [] → node ≡ bs → bs' ≡ [] → 0 < length bs → AreGrouped ns' bs'
grouped_after_push ns ns' bs bs' node ok apart new is none some =
    let made : ns' ≡ ns ++ bs ∷ [] = new ∙ ap (λ (n : List (List (ℕ × ℕ))). ns ++ n ∷ []) is in
    record {
      sized = subst (λ (l : List (List (List (ℕ × ℕ)))). ObeysFillRule 16 l) (sym made) (fill_rule_add 16 ns bs ok.sized apart some ok.fits);
      fits = omega (arith, ap length none);
    }

-- the last node was removed, and its blocks are after the nodes
pub grouped_after_pop : (ns ns' : List (List (List (ℕ × ℕ)))) (bs bs' node : List (List (ℕ × ℕ))) → AreGrouped ns bs → ns ≡ ns' ++ node ∷ [] → length bs' ≤ 16 → AreGrouped ns' bs'
grouped_after_pop ns ns' bs bs' node ok old le = record {
  sized = fill_rule_init 16 ns' node (subst (λ (l : List (List (List (ℕ × ℕ)))). ObeysFillRule 16 l) old ok.sized);
  fits = le;
}

-- the last node fits, and keeps the fill rule with the one before it
pub nodes_last : (ns ns' : List (List (List (ℕ × ℕ)))) (bs node : List (List (ℕ × ℕ))) → AreGrouped ns bs → ns ≡ ns' ++ node ∷ [] → (length node ≤ 16) × (0 < last_length ns' → 16 < last_length ns' + length node)
nodes_last ns ns' bs node ok old = fill_rule_last 16 ns' node (subst (λ (l : List (List (List (ℕ × ℕ)))). ObeysFillRule 16 l) old ok.sized)

-- the blocks of the last node were put before the blocks after the nodes
pub nodes_widened : (ns ns' : List (List (List (ℕ × ℕ)))) (bs bs' node : List (List (ℕ × ℕ))) → ns ≡ ns' ++ node ∷ [] → bs' ≡ node ++ bs → concat ns' ++ bs' ≡ concat ns ++ bs
nodes_widened ns ns' bs bs' node old new =
    ap (λ (l : List (List (ℕ × ℕ))). concat ns' ++ l) new ∙ sym (append_assoc (concat ns') node bs)
    ∙ ap (λ (l : List (List (ℕ × ℕ))). l ++ bs) (sym (concat-last ns' node) ∙ ap concat (sym old))

-- a node was appended to nodes that have no blocks after them
pub nodes_added : (ns ns' : List (List (List (ℕ × ℕ)))) (bs node : List (List (ℕ × ℕ))) → AreGrouped ns bs → ns' ≡ ns ++ node ∷ [] → (0 < last_length ns → 16 < last_length ns + length node) → 0 < length node → length node ≤ 16 → AreGrouped ns' bs
nodes_added ns ns' bs node ok new apart some fits = record {
  sized = subst (λ (l : List (List (List (ℕ × ℕ)))). ObeysFillRule 16 l) (sym new) (fill_rule_add 16 ns node ok.sized apart some fits);
  fits = ok.fits;
}

pub nodes_added_all : (ns ns' : List (List (List (ℕ × ℕ)))) (bs node : List (List (ℕ × ℕ))) → bs ≡ [] → ns' ≡ ns ++ node ∷ [] → concat ns' ++ bs ≡ concat ns ++ node
nodes_added_all ns ns' bs node none new =
    ap (λ (l : List (List (ℕ × ℕ))). concat ns' ++ l) none ∙ append_empty (concat ns') ∙ ap concat new ∙ concat-last ns node
