-- Lists of blocks with one block replaced.
use Rattle.std.proofs.Common.{◌≡◌, ℕ, zero, suc, ◌+◌, ◌-◌, ◌<◌, ◌≤◌, List, [], ◌∷◌, ◌++◌, length, get_or, take, drop}
use Rattle.std.proofs.Common.{refl, sym, ap, subst, ◌∙◌, arith, length-append}
use Rattle.std.specs.Prelude.{slice_set, Option, None, Some, MatchOption}
use Rattle.moc_blocks.specs.RangeList.{pixel_count, IsNormal}
use Rattle.moc_blocks.specs.Blocks.{concat, ObeysFillRule, AreBlocks}
use Rattle.moc_blocks.specs.Private.Blocks.{width_of, starts_from, AreNodes, IsStored}
use Rattle.moc_blocks.specs.Private.Built.{first_length, last_length}
use Rattle.moc_blocks.specs.Private.Edits.{IsSplit, IsNodeEdit, IsBlockEdit, IsEdited}
use Rattle.moc_blocks.specs.declared.edits.rebuild.EditKind.{EditKind}
use Rattle.moc_blocks.proofs.Blocking.{width-append, width_bounded, range_count_bounded, append_empty, concat-append}
use Rattle.moc_blocks.proofs.Filling.{fill_rule_suffix}
use Rattle.moc_blocks.proofs.Editing.{node_blocks_sized, node_normal, node_edit_all, node_edit_stored, node_edit_edits, set_split}

pub width_replaced : (bs : List (List (ℕ × ℕ))) (i : ℕ) (old new : List (ℕ × ℕ)) → i < length bs → old ≡ get_or bs i old → width_of (concat (slice_set bs i new)) + width_of old ≡ width_of (concat bs) + width_of new
width_replaced [] i old new lt is = absurd (omega arith)
width_replaced (b ∷ bs) zero old new lt is = omega (arith, width-append new (concat bs), width-append b (concat bs), ap width_of is)
width_replaced (b ∷ bs) (suc i) old new lt is = omega (arith, width_replaced bs i old new (omega arith) is, width-append b (concat (slice_set bs i new)), width-append b (concat bs))

pub length_replaced : (bs : List (List (ℕ × ℕ))) (i : ℕ) (old new : List (ℕ × ℕ)) → i < length bs → old ≡ get_or bs i old → length (concat (slice_set bs i new)) + length old ≡ length (concat bs) + length new
length_replaced [] i old new lt is = absurd (omega arith)
length_replaced (b ∷ bs) zero old new lt is = omega (arith, length-append new (concat bs), length-append b (concat bs), ap length is)
length_replaced (b ∷ bs) (suc i) old new lt is = omega (arith, length_replaced bs i old new (omega arith) is, length-append b (concat (slice_set bs i new)), length-append b (concat bs))

pub as_many : {X : Type 0} (xs : List X) (i : ℕ) (x : X) → length (slice_set xs i x) ≡ length xs
as_many {X} [] i x = refl
as_many {X} (y ∷ ys) zero x = refl
as_many {X} (y ∷ ys) (suc i) x = ap suc (as_many ys i x)

-- ---- an element between others

set_between : {X : Type 0} (xs ys : List X) (x y : X) (n : ℕ) → n ≡ length xs → slice_set (xs ++ x ∷ ys) n y ≡ xs ++ y ∷ ys
set_between {X} [] ys x y zero e = refl
set_between {X} [] ys x y (suc n) e = absurd (omega arith)
set_between {X} (z ∷ xs) ys x y zero e = absurd (omega arith)
set_between {X} (z ∷ xs) ys x y (suc n) e = ap (λ (l : List X). z ∷ l) (set_between xs ys x y n (omega arith))

pub get_between : {X : Type 0} (xs ys : List X) (x d : X) (n : ℕ) → n ≡ length xs → get_or (xs ++ x ∷ ys) n d ≡ x
get_between {X} [] ys x d zero e = refl
get_between {X} [] ys x d (suc n) e = absurd (omega arith)
get_between {X} (z ∷ xs) ys x d zero e = absurd (omega arith)
get_between {X} (z ∷ xs) ys x d (suc n) e = get_between xs ys x d n (omega arith)

pub beside_last : {X : Type 0} (most : ℕ) (ls ms : List (List X)) (x : List X) → ObeysFillRule most (ls ++ x ∷ ms) → 0 < last_length ls → most < last_length ls + length x
beside_last {X} most [] ms x ok some = absurd (omega (arith, some))
beside_last {X} most (l ∷ []) ms x ok some = ok.2
beside_last {X} most (l ∷ (l' ∷ ls)) ms x ok some = beside_last most (l' ∷ ls) ms x ok.3 some

pub beside_next : {X : Type 0} (most : ℕ) (ms : List (List X)) (x : List X) → ObeysFillRule most (x ∷ ms) → 0 < first_length ms → most < length x + first_length ms
beside_next {X} most [] x ok some = absurd (omega (arith, some))
beside_next {X} most (m ∷ ms) x ok some = ok.2

-- ---- a block after an edit, in its place

pub block_edit_node : (edit : EditKind) (from to node block : ℕ) (nodes nodes' : List (List (List (ℕ × ℕ)))) (ranges : List (ℕ × ℕ)) (found : List (List (ℕ × ℕ))) → nodes' ≡ nodes → (s : IsBlockEdit edit from to nodes' node block ranges) → found ≡ get_or nodes node found → found ≡ s.old
block_edit_node edit from to node block nodes nodes' ranges found same s is =
    is ∙ ap (λ (l : List (List (List (ℕ × ℕ)))). get_or l node found) (sym same ∙ s.parts) ∙ get_between s.before s.after s.old found node s.at

-- the blocks of the node, with the new block
pub block_edit_blocks : (edit : EditKind) (from to node block : ℕ) (nodes nodes' : List (List (List (ℕ × ℕ)))) (ranges new : List (ℕ × ℕ)) (found : List (List (ℕ × ℕ))) → nodes' ≡ nodes → (s : IsBlockEdit edit from to nodes' node block ranges) → found ≡ get_or nodes node found → new ≡ ranges → slice_set found block new ≡ s.left ++ ranges ∷ s.right
block_edit_blocks edit from to node block nodes nodes' ranges new found same s is made =
    let whole = block_edit_node edit from to node block nodes nodes' ranges found same s is ∙ s.edited_block.parts in
    (λ i. slice_set (whole i) block (made i)) ∙ set_between s.left s.right s.run ranges block s.place

pub block_edit_normal : (edit : EditKind) (from to node block : ℕ) (nodes nodes' : List (List (List (ℕ × ℕ)))) (ranges new : List (ℕ × ℕ)) (found : List (List (ℕ × ℕ))) → nodes' ≡ nodes → IsBlockEdit edit from to nodes' node block ranges → found ≡ get_or nodes node found → new ≡ ranges → IsNormal (concat (slice_set found block new))
block_edit_normal edit from to node block nodes nodes' ranges new found same s is made =
    node_normal (concat s.before) (slice_set found block new) (s.left ++ ranges ∷ s.right) (concat s.after) (block_edit_blocks edit from to node block nodes nodes' ranges new found same s is made) s.edited_block.node_blocks.normal

pub block_edit_sized : (edit : EditKind) (from to node block : ℕ) (nodes nodes' : List (List (List (ℕ × ℕ)))) (ranges new : List (ℕ × ℕ)) (found : List (List (ℕ × ℕ))) → nodes' ≡ nodes → IsBlockEdit edit from to nodes' node block ranges → found ≡ get_or nodes node found → new ≡ ranges → AreBlocks (slice_set found block new)
block_edit_sized edit from to node block nodes nodes' ranges new found same s is made =
    let blocks = s.left ++ ranges ∷ s.right in
    subst AreBlocks (sym (block_edit_blocks edit from to node block nodes nodes' ranges new found same s is made))
    (node_blocks_sized edit from to (concat s.before) (concat s.after) s.old blocks s.edited_block.node_blocks)

-- the node has as many blocks as before, so the fill rule still holds between the others
block_edit_split : (edit : EditKind) (from to node block : ℕ) (nodes : List (List (List (ℕ × ℕ)))) (ranges : List (ℕ × ℕ)) → IsStored [] nodes → (s : IsBlockEdit edit from to nodes node block ranges) → IsSplit 16 (last_length s.before) (first_length s.after) (s.left ++ ranges ∷ s.right) (s.left ++ ranges ∷ s.right) []
block_edit_split edit from to node block nodes ranges stored s =
    let blocks = s.left ++ ranges ∷ s.right in
    let wide = subst (λ (l : List (List (List (ℕ × ℕ)))). ObeysFillRule 16 l) s.parts stored.wide in
    let here = fill_rule_suffix 16 s.before (s.old ∷ s.after) wide in
    let many : length blocks ≡ length s.old = omega (arith, ap length s.edited_block.parts, length-append s.left (ranges ∷ s.right), length-append s.left (s.run ∷ s.right)) in
    record {
      parts = append_empty blocks;
      filled = (omega (arith, s.edited_block.node_blocks.some), omega (arith, many, here.1), tt, tt);
      front = λ some. omega (arith, many, beside_last 16 s.before s.after s.old wide some);
      back = λ some. omega (arith, many, beside_next 16 s.after s.old here some);
    }

block_edit_in_node : (edit : EditKind) (from to node block : ℕ) (nodes : List (List (List (ℕ × ℕ)))) (ranges : List (ℕ × ℕ)) (put : List (List (ℕ × ℕ))) → IsStored [] nodes → (s : IsBlockEdit edit from to nodes node block ranges) → put ≡ s.left ++ ranges ∷ s.right → IsNodeEdit edit from to nodes node put None
block_edit_in_node edit from to node block nodes ranges put stored s is =
    let blocks = s.left ++ ranges ∷ s.right in
    subst (λ n. IsNodeEdit edit from to nodes n put None) (sym s.at)
    (node_edit_all edit from to nodes s.before s.after s.old blocks blocks [] put None _ _ stored s.parts s.edited_block.node_blocks refl refl (block_edit_split edit from to node block nodes ranges stored s) is refl)

place_inside : (edit : EditKind) (from to node block : ℕ) (nodes : List (List (List (ℕ × ℕ)))) (ranges : List (ℕ × ℕ)) → IsBlockEdit edit from to nodes node block ranges → node < length nodes
place_inside edit from to node block nodes ranges s = omega (arith, s.at, ap length s.parts, length-append s.before (s.old ∷ s.after))

-- the nodes, with the new block
pub stored_after_block_edit : (edit : EditKind) (from to node block : ℕ) (nodes nodes' : List (List (List (ℕ × ℕ)))) (ranges new : List (ℕ × ℕ)) (found put : List (List (ℕ × ℕ))) → IsStored [] nodes → nodes' ≡ nodes → IsBlockEdit edit from to nodes' node block ranges → found ≡ get_or nodes node found → new ≡ ranges → put ≡ slice_set found block new → IsStored [] (slice_set nodes node put) × IsEdited edit from to (concat (concat nodes)) (concat (concat (slice_set nodes node put)))
stored_after_block_edit edit from to node block nodes nodes' ranges new found put stored same s is made with_block_replaced =
    let stored' = subst (λ (l : List (List (List (ℕ × ℕ)))). IsStored [] l) (sym same) stored in
    let renewed = block_edit_in_node edit from to node block nodes' ranges put stored' s (with_block_replaced ∙ block_edit_blocks edit from to node block nodes nodes' ranges new found same s is made) in
    let split = set_split nodes node put (omega (arith, ap length same, place_inside edit from to node block nodes' ranges s)) in
    (node_edit_stored edit from to node nodes nodes' (slice_set nodes node put) put None same renewed split, node_edit_edits edit from to node nodes nodes' (slice_set nodes node put) put None same renewed split)

-- ---- when one block is not enough

pub none_matched : {X : Type 0} (P : X → Type 0) (Q : Type 0) (o : Option X) → ((x : X) → o ≡ Some x → ⊥) → MatchOption o Q P → Q
none_matched {X} P Q None lacks holds = holds
none_matched {X} P Q (Some x) lacks holds = absurd (lacks x refl)

-- ---- the number of ranges after a node was replaced

pub node_edit_count : (ns middle : List (List (List (ℕ × ℕ)))) (i n : ℕ) (old : List (List (ℕ × ℕ))) → i < length ns → n ≡ i + 1 → old ≡ get_or ns i old → length (concat (concat (take i ns ++ (middle ++ drop n ns)))) + length (concat old) ≡ length (concat (concat ns)) + length (concat (concat middle))
node_edit_count [] middle i n old lt e is = absurd (omega arith)
node_edit_count (x ∷ ns) middle i zero old lt e is = absurd (omega arith)
node_edit_count (x ∷ ns) middle zero (suc n) old lt e is =
    let none : n ≡ 0 = omega arith in
    let rest : concat (concat (middle ++ drop n ns)) ≡ concat (concat middle) ++ concat (concat ns) =
    ap (λ k. concat (concat (middle ++ drop k ns))) none ∙ ap concat (concat-append middle ns) ∙ concat-append (concat middle) (concat ns) in
    omega (arith, ap length rest, length-append (concat (concat middle)) (concat (concat ns)), ap length (concat-append x (concat ns)), length-append (concat x) (concat (concat ns)), ap (λ (l : List (List (ℕ × ℕ))). length (concat l)) is)
node_edit_count (x ∷ ns) middle (suc i) (suc n) old lt e is =
    let rest = take i ns ++ (middle ++ drop n ns) in
    omega (arith, node_edit_count ns middle i n old (omega arith) (omega arith) is, ap length (concat-append x (concat rest)), length-append (concat x) (concat (concat rest)), ap length (concat-append x (concat ns)), length-append (concat x) (concat (concat ns)))

pub node_set : (ns : List (List (List (ℕ × ℕ)))) (i : ℕ) (old new : List (List (ℕ × ℕ))) → i < length ns → old ≡ get_or ns i old → length (concat (concat (slice_set ns i new))) + length (concat old) ≡ length (concat (concat ns)) + length (concat new)
node_set ns i old new lt is =
    omega (arith, node_edit_count ns (new ∷ []) i (i + 1) old lt refl is, ap (λ (l : List (List (List (ℕ × ℕ)))). length (concat (concat l))) (set_split ns i new lt), ap (λ (l : List (List (ℕ × ℕ))). length (concat l)) (append_empty new))

pub node_part : (ns : List (List (List (ℕ × ℕ)))) (i n count : ℕ) (old : List (List (ℕ × ℕ))) → i < length ns → old ≡ get_or ns i old → n ≡ length (concat old) → count ≡ length (concat (concat ns)) → n ≤ count
node_part ns i n count old lt is is_n is_count = omega (arith, node_set ns i old [] lt is)

-- the same, for the number of pixels
node_edit_width : (ns middle : List (List (List (ℕ × ℕ)))) (i n : ℕ) (old : List (List (ℕ × ℕ))) → i < length ns → n ≡ i + 1 → old ≡ get_or ns i old → width_of (concat (concat (take i ns ++ (middle ++ drop n ns)))) + width_of (concat old) ≡ width_of (concat (concat ns)) + width_of (concat (concat middle))
node_edit_width [] middle i n old lt e is = absurd (omega arith)
node_edit_width (x ∷ ns) middle i zero old lt e is = absurd (omega arith)
node_edit_width (x ∷ ns) middle zero (suc n) old lt e is =
    let none : n ≡ 0 = omega arith in
    let rest : concat (concat (middle ++ drop n ns)) ≡ concat (concat middle) ++ concat (concat ns) =
    ap (λ k. concat (concat (middle ++ drop k ns))) none ∙ ap concat (concat-append middle ns) ∙ concat-append (concat middle) (concat ns) in
    omega (arith, ap width_of rest, width-append (concat (concat middle)) (concat (concat ns)), ap width_of (concat-append x (concat ns)), width-append (concat x) (concat (concat ns)), ap (λ (l : List (List (ℕ × ℕ))). width_of (concat l)) is)
node_edit_width (x ∷ ns) middle (suc i) (suc n) old lt e is =
    let rest = take i ns ++ (middle ++ drop n ns) in
    omega (arith, node_edit_width ns middle i n old (omega arith) (omega arith) is, ap width_of (concat-append x (concat rest)), width-append (concat x) (concat (concat rest)), ap width_of (concat-append x (concat ns)), width-append (concat x) (concat (concat ns)))

pub node_width : (ns : List (List (List (ℕ × ℕ)))) (i : ℕ) (old new : List (List (ℕ × ℕ))) → i < length ns → old ≡ get_or ns i old → width_of (concat (concat (slice_set ns i new))) + width_of (concat old) ≡ width_of (concat (concat ns)) + width_of (concat new)
node_width ns i old new lt is =
    omega (arith, node_edit_width ns (new ∷ []) i (i + 1) old lt refl is, ap (λ (l : List (List (List (ℕ × ℕ)))). width_of (concat (concat l))) (set_split ns i new lt), ap (λ (l : List (List (ℕ × ℕ))). width_of (concat l)) (append_empty new))

pub node_pixels : (ns : List (List (List (ℕ × ℕ)))) (i n size : ℕ) (old : List (List (ℕ × ℕ))) → i < length ns → old ≡ get_or ns i old → n ≡ width_of (concat old) → size ≡ width_of (concat (concat ns)) → n ≤ size
node_pixels ns i n size old lt is is_n is_size = omega (arith, node_width ns i old [] lt is)

pub set_same : {X : Type 0} (xs : List X) (i : ℕ) (old new : X) → old ≡ get_or xs i old → new ≡ old → slice_set xs i new ≡ xs
set_same {X} [] i old new is same = refl
set_same {X} (x ∷ xs) zero old new is same = ap (λ y. y ∷ xs) (same ∙ is)
set_same {X} (x ∷ xs) (suc i) old new is same = ap (λ (l : List X). x ∷ l) (set_same xs i old new is same)

set_then_get : {X : Type 0} (xs : List X) (i : ℕ) (x d : X) → i < length xs → get_or (slice_set xs i x) i d ≡ x
set_then_get {X} [] i x d lt = absurd (omega arith)
set_then_get {X} (y ∷ xs) zero x d lt = refl
set_then_get {X} (y ∷ xs) (suc i) x d lt = set_then_get xs i x d (omega arith)

-- the total count, from the counts of the node before and after
pub count_set : (ns : List (List (List (ℕ × ℕ)))) (i n m count : ℕ) (old again new : List (List (ℕ × ℕ))) → i < length ns → old ≡ get_or ns i old → again ≡ get_or (slice_set ns i new) i again → n ≡ length (concat old) → m ≡ length (concat again) → count ≡ length (concat (concat ns)) → count - n + m ≡ length (concat (concat (slice_set ns i new)))
count_set ns i n m count old again new lt is is_new is_n is_m is_count =
    let there : again ≡ new = is_new ∙ set_then_get ns i new again lt in
    omega (arith, node_set ns i old new lt is, ap (λ (l : List (List (ℕ × ℕ))). length (concat l)) there, node_part ns i n count old lt is is_n is_count)

-- the total width, from the widths of the node before and after
pub width_set : (ns : List (List (List (ℕ × ℕ)))) (i n m size : ℕ) (old again new : List (List (ℕ × ℕ))) → i < length ns → old ≡ get_or ns i old → again ≡ get_or (slice_set ns i new) i again → n ≡ width_of (concat old) → m ≡ width_of (concat again) → size ≡ width_of (concat (concat ns)) → size - n + m ≡ width_of (concat (concat (slice_set ns i new)))
width_set ns i n m size old again new lt is is_new is_n is_m is_size =
    let there : again ≡ new = is_new ∙ set_then_get ns i new again lt in
    omega (arith, node_width ns i old new lt is, ap (λ (l : List (List (ℕ × ℕ))). width_of (concat l)) there, node_pixels ns i n size old lt is is_n is_size)

pub block_edit_inside : (edit : EditKind) (from to node block : ℕ) (nodes nodes' : List (List (List (ℕ × ℕ)))) (ranges : List (ℕ × ℕ)) → nodes' ≡ nodes → IsBlockEdit edit from to nodes' node block ranges → node < length nodes
block_edit_inside edit from to node block nodes nodes' ranges same s = omega (arith, ap length same, place_inside edit from to node block nodes' ranges s)

-- the cached numbers of nodes after one was replaced
pub node_edit_index : (ns middle new : List (List (List (ℕ × ℕ)))) (starts starts' : List ℕ) (p size count n m a b : ℕ) (old again : List (List (ℕ × ℕ))) → AreNodes starts size count ns → p < length ns → old ≡ get_or ns p old → again ≡ get_or ns p again → n ≡ length (concat old) → m ≡ length (concat (concat middle)) → a ≡ width_of (concat again) → b ≡ width_of (concat (concat middle)) → new ≡ take p ns ++ (middle ++ drop (p + 1) ns) → starts' ≡ starts_from 0 (take p ns ++ (middle ++ drop (p + 1) ns)) → AreNodes starts' (size - a + b) (count - n + m) new
node_edit_index ns middle new starts starts' p size count n m a b old again kept lt there there' is_n is_m is_a is_b made placed =
    subst (λ (l : List (List (List (ℕ × ℕ)))). AreNodes starts' (size - a + b) (count - n + m) l) (sym made) (record {
      placed = placed;
      measured = omega (arith, node_edit_width ns middle p (p + 1) again lt refl there', node_pixels ns p a size again lt there' is_a kept.measured, kept.measured);
      counted = omega (arith, node_edit_count ns middle p (p + 1) old lt refl there, node_part ns p n count old lt there is_n kept.counted, kept.counted);
    })

pub one_count : (node : List (List (ℕ × ℕ))) (m : ℕ) → m ≡ length (concat node) → m ≡ length (concat (concat (node ∷ [])))
one_count node m is = is ∙ ap (λ (l : List (List (ℕ × ℕ))). length (concat l)) (sym (append_empty node))

pub two_count : (first second : List (List (ℕ × ℕ))) (m n : ℕ) → m ≡ length (concat first) → n ≡ length (concat second) → m + n ≡ length (concat (concat (first ∷ (second ∷ []))))
two_count first second m n is is' =
    omega (arith, ap length (concat-append first (second ++ [])), length-append (concat first) (concat (second ++ [])), ap (λ (l : List (List (ℕ × ℕ))). length (concat l)) (append_empty second))

pub one_width : (node : List (List (ℕ × ℕ))) (m : ℕ) → m ≡ width_of (concat node) → m ≡ width_of (concat (concat (node ∷ [])))
one_width node m is = is ∙ ap (λ (l : List (List (ℕ × ℕ))). width_of (concat l)) (sym (append_empty node))

pub two_width : (first second : List (List (ℕ × ℕ))) (m n : ℕ) → m ≡ width_of (concat first) → n ≡ width_of (concat second) → m + n ≡ width_of (concat (concat (first ∷ (second ∷ []))))
two_width first second m n is is' =
    omega (arith, ap width_of (concat-append first (second ++ [])), width-append (concat first) (concat (second ++ [])), ap (λ (l : List (List (ℕ × ℕ))). width_of (concat l)) (append_empty second))

-- their bounds
pub node_edit_bounds : (ns value middle : List (List (List (ℕ × ℕ)))) (p size count n m a b : ℕ) (starts : List ℕ) (old again : List (List (ℕ × ℕ))) → ns ≡ value → AreNodes starts size count ns → p < length ns → old ≡ get_or ns p old → again ≡ get_or ns p again → n ≡ length (concat old) → m ≡ length (concat (concat middle)) → a ≡ width_of (concat again) → b ≡ width_of (concat (concat middle)) → IsStored [] (take p value ++ (middle ++ drop (p + 1) value)) → (size - a + b ≤ pixel_count) × (count - n + m ≤ pixel_count)
node_edit_bounds ns value middle p size count n m a b starts old again same kept lt there there' is_n is_m is_a is_b stored =
    let k = node_edit_index ns middle _ starts _ p size count n m a b old again kept lt there there' is_n is_m is_a is_b refl refl in
    let normal = subst (λ (l : List (List (List (ℕ × ℕ)))). IsStored [] (take p l ++ (middle ++ drop (p + 1) l))) (sym same) stored in
    (omega (arith, k.measured, width_bounded _ normal.normal), omega (arith, k.counted, range_count_bounded _ normal.normal))
