-- Ranges, and their blocks and nodes.
use Rattle.std.proofs.Common.{◌≡◌, ℕ, zero, suc, ◌+◌, ◌-◌, ◌<◌, ◌≤◌, List, [], ◌∷◌, ◌++◌, length, get_or, take, drop}
use Rattle.std.proofs.Common.{refl, sym, ap, subst, ◌∙◌, arith, append_assoc, length-append}
use Rattle.std.proofs.lemmas.List.{take_more, take-append-drop, take_all}
use Rattle.std.proofs.lemmas.List.Sums.{sum_by-append, sum_by-cons}
use Rattle.moc_blocks.specs.RangeList.{pixel_count, IsNormal, BeginsAfter}
use Rattle.moc_blocks.specs.Lemmas.Ranges.{len_bounded, len-set_of}
use Rattle.moc_blocks.specs.Blocks.{concat}
use Rattle.moc_blocks.specs.Private.Blocks.{first_of, last_of, width_of, rest_of}

pub concat-append : {X : Type 0} (xs ys : List (List X)) → concat (xs ++ ys) ≡ concat xs ++ concat ys
concat-append {X} [] ys = refl
concat-append {X} (x ∷ xs) ys = ap (λ (l : List X). x ++ l) (concat-append xs ys) ∙ sym (append_assoc x (concat xs) (concat ys))

pub append_empty : {X : Type 0} (xs : List X) → xs ++ [] ≡ xs
append_empty {X} [] = refl
append_empty {X} (x ∷ xs) = ap (λ (l : List X). x ∷ l) (append_empty xs)

pub concat-last : {X : Type 0} (xs : List (List X)) (last : List X) → concat (xs ++ last ∷ []) ≡ concat xs ++ last
concat-last {X} xs last = concat-append xs (last ∷ []) ∙ ap (λ (l : List X). concat xs ++ l) (append_empty last)

-- a node that was entered
pub rest_of_first_node : (node : List (List (ℕ × ℕ))) (nodes : List (List (List (ℕ × ℕ)))) → rest_of [] [] (node ∷ nodes) ≡ concat node ++ concat (concat nodes)
rest_of_first_node node nodes = concat-append node (concat nodes)

pub rest_of_first_block : (block : List (ℕ × ℕ)) (blocks : List (List (ℕ × ℕ))) (nodes : List (List (List (ℕ × ℕ)))) → rest_of [] (block ∷ blocks) nodes ≡ block ++ rest_of [] blocks nodes
rest_of_first_block block blocks nodes = append_assoc block (concat blocks) (concat (concat nodes))

begins_prefix : (x : ℕ) (rs ss : List (ℕ × ℕ)) → BeginsAfter x (rs ++ ss) → BeginsAfter x rs
begins_prefix x [] ss after = tt
begins_prefix x (r ∷ rs) ss after = after

pub IsNormal-prefix : (rs ss : List (ℕ × ℕ)) → IsNormal (rs ++ ss) → IsNormal rs
IsNormal-prefix [] ss normal = tt
IsNormal-prefix (r ∷ rs) ss normal = (normal.0, normal.1, begins_prefix r.1 rs ss normal.2, IsNormal-prefix rs ss normal.3)

pub IsNormal-suffix : (rs ss : List (ℕ × ℕ)) → IsNormal (rs ++ ss) → IsNormal ss
IsNormal-suffix [] ss normal = normal
IsNormal-suffix (r ∷ rs) ss normal = IsNormal-suffix rs ss normal.3

-- the remaining ranges of a block, and the ranges after it
pub IsNormal-rest : (whole first rest after : List (ℕ × ℕ)) → whole ≡ first ++ rest → IsNormal (whole ++ after) → IsNormal (rest ++ after)
IsNormal-rest whole first rest after parts normal =
    IsNormal-suffix first (rest ++ after) (subst IsNormal (ap (λ (l : List (ℕ × ℕ)). l ++ after) parts ∙ append_assoc first rest after) normal)

-- sizes
pub range_at : (rs : List (ℕ × ℕ)) (i : ℕ) (d : ℕ × ℕ) → IsNormal rs → i < length rs → (get_or rs i d).0 < (get_or rs i d).1
range_at [] i d normal lt = absurd (omega arith)
range_at (r ∷ rs) zero d normal lt = normal.0
range_at (r ∷ rs) (suc i) d normal lt = range_at rs i d normal.3 (omega arith)

pub width_bounded : (rs : List (ℕ × ℕ)) → IsNormal rs → width_of rs ≤ pixel_count
width_bounded rs normal = omega (arith, len_bounded rs normal, len-set_of rs normal)

pub width-append : (rs ss : List (ℕ × ℕ)) → width_of (rs ++ ss) ≡ width_of rs + width_of ss
width-append rs ss = sum_by-append (λ range. range.1 - range.0) rs ss

width_next : (bs : List (List (ℕ × ℕ))) (i : ℕ) (b : List (ℕ × ℕ)) → i < length bs → b ≡ get_or bs i b → width_of (concat (take (i + 1) bs)) ≡ width_of (concat (take i bs)) + width_of b
width_next bs i b lt is =
    ap (λ (l : List (List (ℕ × ℕ))). width_of (concat l)) (take_more bs i b lt)
    ∙ ap width_of (concat-last (take i bs) (get_or bs i b))
    ∙ width-append (concat (take i bs)) (get_or bs i b)
    ∙ ap (λ (l : List (ℕ × ℕ)). width_of (concat (take i bs)) + width_of l) (sym is)

width_part : (bs : List (List (ℕ × ℕ))) (i : ℕ) → width_of (concat (take i bs)) ≤ width_of (concat bs)
width_part bs i =
    let parts : width_of (concat (take i bs)) + width_of (concat (drop i bs)) ≡ width_of (concat bs) =
    sym (width-append (concat (take i bs)) (concat (drop i bs))) ∙ ap width_of (sym (concat-append (take i bs) (drop i bs))) ∙ ap (λ (l : List (List (ℕ × ℕ))). width_of (concat l)) (take-append-drop i bs) in
    omega arith

pub count_step : (bs : List (List (ℕ × ℕ))) (i : ℕ) (b : List (ℕ × ℕ)) → IsNormal (concat bs) → i < length bs → b ≡ get_or bs i b → (width_of (concat (take (i + 1) bs)) ≡ width_of (concat (take i bs)) + width_of b) × (width_of (concat (take i bs)) + width_of b ≤ pixel_count)
count_step bs i b normal lt is =
    let more = width_next bs i b lt is in
    let part = width_part bs (i + 1) in
    let all = width_bounded (concat bs) normal in
    (more, omega arith)

pub width_complete : (bs : List (List (ℕ × ℕ))) (i : ℕ) → length bs ≤ i → width_of (concat (take i bs)) ≡ width_of (concat bs)
width_complete bs i le = ap (λ (l : List (List (ℕ × ℕ))). width_of (concat l)) (take_all i bs le)

pub first_of-get : (rs : List (ℕ × ℕ)) (d : ℕ × ℕ) → 0 < length rs → first_of rs ≡ (get_or rs 0 d).0
first_of-get [] d lt = absurd (omega arith)
first_of-get (r ∷ rs) d lt = refl

pub last_of-get : (rs : List (ℕ × ℕ)) (d : ℕ × ℕ) (i : ℕ) → i + 1 ≡ length rs → last_of rs ≡ (get_or rs i d).1
last_of-get [] d i e = absurd (omega arith)
last_of-get (r ∷ []) d zero e = refl
last_of-get (r ∷ []) d (suc i) e = absurd (omega arith)
last_of-get (r ∷ (s ∷ rs)) d zero e = absurd (omega arith)
last_of-get (r ∷ (s ∷ rs)) d (suc i) e = last_of-get (s ∷ rs) d i (omega arith)

pub first_of-append : (rs ss : List (ℕ × ℕ)) → 0 < length rs → first_of (rs ++ ss) ≡ first_of rs
first_of-append [] ss some = absurd (omega arith)
first_of-append (r ∷ rs) ss some = refl

pub last_of-append : (rs ss : List (ℕ × ℕ)) → 0 < length ss → last_of (rs ++ ss) ≡ last_of ss
last_of-append [] ss some = refl
last_of-append (r ∷ []) [] some = absurd (omega arith)
last_of-append (r ∷ []) (s ∷ ss) some = refl
last_of-append (r ∷ (r' ∷ rs)) ss some = last_of-append (r' ∷ rs) ss some

pub length_last : (bs : List (List (ℕ × ℕ))) (d : List (ℕ × ℕ)) (i : ℕ) → i < length bs → 0 < length (get_or bs i d) → 0 < length (concat bs)
length_last [] d i lt filled = absurd (omega arith)
length_last (b ∷ bs) d zero lt filled = omega (arith, length-append b (concat bs))
length_last (b ∷ bs) d (suc i) lt filled = omega (arith, length-append b (concat bs), length_last bs d i (omega arith) filled)

-- a node's bounds are those of its first and last block
pub first_of-concat : (bs : List (List (ℕ × ℕ))) (d : List (ℕ × ℕ)) → 0 < length bs → 0 < length (get_or bs 0 d) → first_of (concat bs) ≡ first_of (get_or bs 0 d)
first_of-concat [] d some filled = absurd (omega arith)
first_of-concat (b ∷ bs) d some filled = first_of-append b (concat bs) filled

pub last_of-concat : (bs : List (List (ℕ × ℕ))) (d : List (ℕ × ℕ)) (i : ℕ) → i + 1 ≡ length bs → 0 < length (get_or bs i d) → last_of (concat bs) ≡ last_of (get_or bs i d)
last_of-concat [] d i e filled = absurd (omega arith)
last_of-concat (b ∷ []) d zero e filled = ap last_of (append_empty b)
last_of-concat (b ∷ []) d (suc i) e filled = absurd (omega arith)
last_of-concat (b ∷ (b' ∷ bs)) d zero e filled = absurd (omega arith)
last_of-concat (b ∷ (b' ∷ bs)) d (suc i) e filled = last_of-append b (concat (b' ∷ bs)) (length_last (b' ∷ bs) d i (omega arith) filled) ∙ last_of-concat (b' ∷ bs) d i (omega arith) filled

-- a nonempty list is its first element and the rest
pub split_first : {X : Type 0} (xs : List X) (x : X) → 1 ≤ length xs → x ≡ get_or xs 0 x → xs ≡ x ∷ take (length xs - 1) (drop 1 xs)
split_first {X} [] x some is = absurd (omega arith)
split_first {X} (y ∷ ys) x some is =
    let e : suc (length ys) - 1 ≡ length ys = omega arith in
    let whole : take (suc (length ys) - 1) ys ≡ ys = ap (λ n. take n ys) e ∙ take_all (length ys) ys (omega arith) in
    λ i. sym is i ∷ sym whole i

pub node_split : (nodes : List (List (List (ℕ × ℕ)))) (node : List (List (ℕ × ℕ))) → 1 ≤ length nodes → node ≡ get_or nodes 0 node → concat (concat nodes) ≡ concat node ++ concat (concat (take (length nodes - 1) (drop 1 nodes)))
node_split nodes node some is =
    ap (λ (l : List (List (List (ℕ × ℕ)))). concat (concat l)) (split_first nodes node some is)
    ∙ rest_of_first_node node (take (length nodes - 1) (drop 1 nodes))

pub block_split : (blocks : List (List (ℕ × ℕ))) (nodes : List (List (List (ℕ × ℕ)))) (block : List (ℕ × ℕ)) → 1 ≤ length blocks → block ≡ get_or blocks 0 block → rest_of [] blocks nodes ≡ block ++ rest_of [] (take (length blocks - 1) (drop 1 blocks)) nodes
block_split blocks nodes block some is =
    ap (λ (l : List (List (ℕ × ℕ))). rest_of [] l nodes) (split_first blocks block some is)
    ∙ rest_of_first_block block (take (length blocks - 1) (drop 1 blocks)) nodes

pub none_there : {X : Type 0} (xs : List X) → length xs ≡ 0 → xs ≡ []
none_there {X} [] e = refl
none_there {X} (x ∷ xs) e = absurd (omega arith)

-- sizes of nodes
concat_nodes_next : (ns : List (List (List (ℕ × ℕ)))) (i : ℕ) (n : List (List (ℕ × ℕ))) → i < length ns → n ≡ get_or ns i n → concat (concat (take (i + 1) ns)) ≡ concat (concat (take i ns)) ++ concat n
concat_nodes_next ns i n lt is =
    ap (λ (l : List (List (List (ℕ × ℕ)))). concat (concat l)) (take_more ns i n lt)
    ∙ ap concat (concat-last (take i ns) (get_or ns i n))
    ∙ concat-append (concat (take i ns)) (get_or ns i n)
    ∙ ap (λ (l : List (List (ℕ × ℕ))). concat (concat (take i ns)) ++ concat l) (sym is)

pub node_step : (ns : List (List (List (ℕ × ℕ)))) (i : ℕ) (n : List (List (ℕ × ℕ))) → IsNormal (concat (concat ns)) → i < length ns → n ≡ get_or ns i n → (width_of (concat (concat (take (i + 1) ns))) ≡ width_of (concat (concat (take i ns))) + width_of (concat n)) × (width_of (concat (concat (take i ns))) + width_of (concat n) ≤ pixel_count)
node_step ns i n normal lt is =
    let more = ap width_of (concat_nodes_next ns i n lt is) ∙ width-append (concat (concat (take i ns))) (concat n) in
    let parts : concat (concat (take (i + 1) ns)) ++ concat (concat (drop (i + 1) ns)) ≡ concat (concat ns) =
    sym (concat-append (concat (take (i + 1) ns)) (concat (drop (i + 1) ns))) ∙ ap concat (sym (concat-append (take (i + 1) ns) (drop (i + 1) ns))) ∙ ap (λ (l : List (List (List (ℕ × ℕ)))). concat (concat l)) (take-append-drop (i + 1) ns) in
    let whole = width-append (concat (concat (take (i + 1) ns))) (concat (concat (drop (i + 1) ns))) in
    let all = width_bounded (concat (concat ns)) normal in
    (more, omega (arith, more, whole, ap width_of parts, all))

pub node_widths_complete : (ns : List (List (List (ℕ × ℕ)))) (i : ℕ) → length ns ≤ i → width_of (concat (concat (take i ns))) ≡ width_of (concat (concat ns))
node_widths_complete ns i le = ap (λ (l : List (List (List (ℕ × ℕ)))). width_of (concat (concat l))) (take_all i ns le)

-- the number of ranges
length_bounded : (rs : List (ℕ × ℕ)) → IsNormal rs → length rs ≤ width_of rs
length_bounded [] normal = omega arith
length_bounded (r ∷ rs) normal = omega (arith, length_bounded rs normal.3, normal.0, sum_by-cons (λ (range : ℕ × ℕ). range.1 - range.0) r rs)

pub range_count_bounded : (rs : List (ℕ × ℕ)) → IsNormal rs → length rs ≤ pixel_count
range_count_bounded rs normal = omega (arith, length_bounded rs normal, width_bounded rs normal)

pub length_step : (bs : List (List (ℕ × ℕ))) (i : ℕ) (b : List (ℕ × ℕ)) → IsNormal (concat bs) → i < length bs → b ≡ get_or bs i b → (length (concat (take (i + 1) bs)) ≡ length (concat (take i bs)) + length b) × (length (concat (take i bs)) + length b ≤ pixel_count)
length_step bs i b normal lt is =
    let more : length (concat (take (i + 1) bs)) ≡ length (concat (take i bs)) + length b =
    ap (λ (l : List (List (ℕ × ℕ))). length (concat l)) (take_more bs i b lt)
    ∙ ap length (concat-last (take i bs) (get_or bs i b))
    ∙ length-append (concat (take i bs)) (get_or bs i b)
    ∙ ap (λ (l : List (ℕ × ℕ)). length (concat (take i bs)) + length l) (sym is) in
    let parts : length (concat (take (i + 1) bs)) + length (concat (drop (i + 1) bs)) ≡ length (concat bs) =
    sym (length-append (concat (take (i + 1) bs)) (concat (drop (i + 1) bs))) ∙ ap length (sym (concat-append (take (i + 1) bs) (drop (i + 1) bs))) ∙ ap (λ (l : List (List (ℕ × ℕ))). length (concat l)) (take-append-drop (i + 1) bs) in
    (more, omega (arith, more, parts, range_count_bounded (concat bs) normal))

-- the length of a concatenation with one list more
pub concat_length_next : {X : Type 0} (ls : List (List X)) (i : ℕ) (l : List X) → i < length ls → l ≡ get_or ls i l → length (concat (take (i + 1) ls)) ≡ length (concat (take i ls)) + length l
concat_length_next {X} ls i l lt is =
    ap (λ (k : List (List X)). length (concat k)) (take_more ls i l lt) ∙ ap length (concat-last (take i ls) (get_or ls i l))
    ∙ length-append (concat (take i ls)) (get_or ls i l) ∙ ap (λ (k : List X). length (concat (take i ls)) + length k) (sym is)

pub length_complete : (bs : List (List (ℕ × ℕ))) (i : ℕ) → length bs ≤ i → length (concat (take i bs)) ≡ length (concat bs)
length_complete bs i le = ap (λ (l : List (List (ℕ × ℕ))). length (concat l)) (take_all i bs le)

pub length_node_step : (ns : List (List (List (ℕ × ℕ)))) (i : ℕ) (n : List (List (ℕ × ℕ))) → IsNormal (concat (concat ns)) → i < length ns → n ≡ get_or ns i n → (length (concat (concat (take (i + 1) ns))) ≡ length (concat (concat (take i ns))) + length (concat n)) × (length (concat (concat (take i ns))) + length (concat n) ≤ pixel_count)
length_node_step ns i n normal lt is =
    let more = ap length (concat_nodes_next ns i n lt is) ∙ length-append (concat (concat (take i ns))) (concat n) in
    let parts : concat (concat (take (i + 1) ns)) ++ concat (concat (drop (i + 1) ns)) ≡ concat (concat ns) =
    sym (concat-append (concat (take (i + 1) ns)) (concat (drop (i + 1) ns))) ∙ ap concat (sym (concat-append (take (i + 1) ns) (drop (i + 1) ns))) ∙ ap (λ (l : List (List (List (ℕ × ℕ)))). concat (concat l)) (take-append-drop (i + 1) ns) in
    let whole = length-append (concat (concat (take (i + 1) ns))) (concat (concat (drop (i + 1) ns))) in
    (more, omega (arith, more, whole, ap length parts, range_count_bounded (concat (concat ns)) normal))

pub node_lengths_complete : (ns : List (List (List (ℕ × ℕ)))) (i : ℕ) → length ns ≤ i → length (concat (concat (take i ns))) ≡ length (concat (concat ns))
node_lengths_complete ns i le = ap (λ (l : List (List (List (ℕ × ℕ)))). length (concat (concat l))) (take_all i ns le)

-- the parts of the remaining ranges of a traversal
pub rest_blocks : (rs : List (ℕ × ℕ)) (bs : List (List (ℕ × ℕ))) (ns : List (List (List (ℕ × ℕ)))) → IsNormal (rest_of rs bs ns) → IsNormal (concat bs)
rest_blocks rs bs ns normal = IsNormal-prefix (concat bs) (concat (concat ns)) (IsNormal-suffix rs (concat bs ++ concat (concat ns)) normal)

pub rest_nodes : (rs : List (ℕ × ℕ)) (bs : List (List (ℕ × ℕ))) (ns : List (List (List (ℕ × ℕ)))) → IsNormal (rest_of rs bs ns) → IsNormal (concat (concat ns))
rest_nodes rs bs ns normal = IsNormal-suffix (concat bs) (concat (concat ns)) (IsNormal-suffix rs (concat bs ++ concat (concat ns)) normal)

pub length-rest : (rs : List (ℕ × ℕ)) (bs : List (List (ℕ × ℕ))) (ns : List (List (List (ℕ × ℕ)))) → length (rest_of rs bs ns) ≡ length rs + (length (concat bs) + length (concat (concat ns)))
length-rest rs bs ns = omega (arith, length-append rs (concat bs ++ concat (concat ns)), length-append (concat bs) (concat (concat ns)))
