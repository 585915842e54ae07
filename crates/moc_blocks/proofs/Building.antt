-- The state of a builder, block by block.
use Rattle.std.proofs.Common.{◌≡◌, ℕ, zero, suc, ◌+◌, ◌<◌, ◌≤◌, Bool, true, false, ◌||◌, List, [], ◌∷◌, ◌++◌, length}
use Rattle.std.proofs.Common.{get_or, take, drop, max, refl, sym, ap, subst, ◌∙◌, arith, append_assoc, length-append}
use Rattle.std.proofs.lemmas.Bool.Decides.{nat_tests}
use Rattle.std.proofs.lemmas.Bool.{ltb-true, ltb-false}
use Rattle.std.specs.Bool.{OnTrue, OnFalse}
use Rattle.std.specs.Prelude.{nat_lt}
use Rattle.std.proofs.lemmas.List.{take_more, take-append-drop, length-take}
use Rattle.moc_blocks.specs.RangeList.{pixel_count, IsNormal}
use Rattle.moc_blocks.specs.Lemmas.Members.{in_range, in_ranges, in_ranges-append, or_false}
use Rattle.moc_blocks.specs.Blocks.{concat, AreBlocks}
use Rattle.moc_blocks.specs.Private.Blocks.{last_of}
use Rattle.moc_blocks.specs.Private.Built.{GrowingList, ranges_of, IsBuilderState, CanMerge, EndsBelow, BeginsBy}
use Rattle.moc_blocks.specs.Private.Built.{builder_ranges, last_length}
use Rattle.moc_blocks.proofs.Filling.{last_length-append, fill_rule_longer, some_blocks}
use Rattle.moc_blocks.proofs.Blocking.{IsNormal-prefix, IsNormal-suffix, append_empty, concat-append, concat-last}
use Rattle.moc_blocks.proofs.Blocking.{last_of-get}
use Rattle.moc_blocks.proofs.Merging.{ends_by_last, normal_append, EndsBelow-append, EndsBelow-first}
use Rattle.moc_blocks.proofs.Merging.{EndsBelow-more, ends_second, begins_of_ends, ends_next}

length_in : (ns : List (List (List (ℕ × ℕ)))) (d : List (List (ℕ × ℕ))) (i : ℕ) → i < length ns → 0 < length (get_or ns i d) → 0 < length (concat ns)
length_in [] d i lt filled = absurd (omega arith)
length_in (n ∷ ns) d zero lt filled = omega (arith, length-append n (concat ns))
length_in (n ∷ ns) d (suc i) lt filled = omega (arith, length-append n (concat ns), length_in ns d i (omega arith) filled)

pub last_length-nodes : (ns : List (List (List (ℕ × ℕ)))) (d : List (List (ℕ × ℕ))) (i : ℕ) → i + 1 ≡ length ns → 0 < length (get_or ns i d) → last_length (concat ns) ≡ last_length (get_or ns i d)
last_length-nodes [] d i e filled = absurd (omega arith)
last_length-nodes (n ∷ []) d zero e filled = ap last_length (append_empty n)
last_length-nodes (n ∷ []) d (suc i) e filled = absurd (omega arith)
last_length-nodes (n ∷ (m ∷ ns)) d zero e filled = absurd (omega arith)
last_length-nodes (n ∷ (m ∷ ns)) d (suc i) e filled = last_length-append n (concat (m ∷ ns)) (length_in (m ∷ ns) d i (omega arith) filled) ∙ last_length-nodes (m ∷ ns) d i (omega arith) filled

-- the last block was merged with another
pub blocks_after_append_to_last : (node init bs bs' : List (List (ℕ × ℕ))) (stack : List (List (ℕ × ℕ))) (last block : List (ℕ × ℕ)) → node ++ bs ≡ stack → AreBlocks stack → bs ≡ init ++ last ∷ [] → bs' ≡ init ++ (last ++ block) ∷ [] → last_length stack + length block ≤ 128 → AreBlocks (node ++ bs')
blocks_after_append_to_last node init bs bs' stack last block same ok old new capacity =
    let whole : stack ≡ (node ++ init) ++ last ∷ [] = sym same ∙ ap (λ (l : List (List (ℕ × ℕ))). node ++ l) old ∙ sym (append_assoc node init (last ∷ [])) in
    let len : last_length stack ≡ length last = ap last_length whole ∙ last_length-append (node ++ init) (last ∷ []) (omega arith) in
    let made : node ++ bs' ≡ (node ++ init) ++ (last ++ block) ∷ [] = ap (λ (l : List (List (ℕ × ℕ))). node ++ l) new ∙ sym (append_assoc node init ((last ++ block) ∷ [])) in
    subst AreBlocks (sym made) (fill_rule_longer 128 (node ++ init) last (last ++ block) (subst AreBlocks whole ok) (omega (arith, length-append last block)) (omega (arith, length-append last block)))

pub concat_after_append_to_last : (node init bs bs' : List (List (ℕ × ℕ))) (stack : List (List (ℕ × ℕ))) (last block : List (ℕ × ℕ)) → node ++ bs ≡ stack → bs ≡ init ++ last ∷ [] → bs' ≡ init ++ (last ++ block) ∷ [] → concat (node ++ bs') ≡ concat stack ++ block
concat_after_append_to_last node init bs bs' stack last block same old new =
    let whole : stack ≡ (node ++ init) ++ last ∷ [] = sym same ∙ ap (λ (l : List (List (ℕ × ℕ))). node ++ l) old ∙ sym (append_assoc node init (last ∷ [])) in
    let made : node ++ bs' ≡ (node ++ init) ++ (last ++ block) ∷ [] = ap (λ (l : List (List (ℕ × ℕ))). node ++ l) new ∙ sym (append_assoc node init ((last ++ block) ∷ [])) in
    ap concat made ∙ concat-last (node ++ init) (last ++ block) ∙ sym (append_assoc (concat (node ++ init)) last block)
    ∙ ap (λ (l : List (ℕ × ℕ)). l ++ block) (sym (concat-last (node ++ init) last) ∙ ap concat (sym whole))

pub suffix_normal : (node bs stack : List (List (ℕ × ℕ))) (block : List (ℕ × ℕ)) → node ++ bs ≡ stack → IsNormal (concat stack ++ block) → IsNormal (concat bs ++ block)
suffix_normal node bs stack block same normal =
    let parts : concat stack ++ block ≡ concat node ++ (concat bs ++ block) = ap (λ (l : List (ℕ × ℕ)). l ++ block) (ap concat (sym same) ∙ concat-append node bs) ∙ append_assoc (concat node) (concat bs) block in
    IsNormal-suffix (concat node) (concat bs ++ block) (subst IsNormal parts normal)

pub last_length-suffix : (node bs stack : List (List (ℕ × ℕ))) → node ++ bs ≡ stack → 0 < length bs → last_length bs ≡ last_length stack
last_length-suffix node bs stack same some = sym (last_length-append node bs some) ∙ ap last_length same

-- a block was pushed
pub pushed_all : (node bs bs' stack : List (List (ℕ × ℕ))) (block : List (ℕ × ℕ)) → node ++ bs ≡ stack → bs' ≡ bs ++ block ∷ [] → node ++ bs' ≡ stack ++ block ∷ []
pushed_all node bs bs' stack block same new = ap (λ (l : List (List (ℕ × ℕ))). node ++ l) new ∙ sym (append_assoc node bs (block ∷ [])) ∙ ap (λ (l : List (List (ℕ × ℕ))). l ++ block ∷ []) same

pub pushed_normal : (kept : List (ℕ × ℕ)) (range : ℕ × ℕ) → IsNormal kept → range.0 < range.1 → range.1 ≤ pixel_count → EndsBelow range.0 kept → IsNormal (kept ++ range ∷ [])
pushed_normal kept range normal filled within below = normal_append kept (range ∷ []) normal (filled, within, tt, tt) below

-- the last range was extended
pub longer_normal : (rs : List (ℕ × ℕ)) (last : ℕ × ℕ) (to : ℕ) → IsNormal (rs ++ last ∷ []) → last.1 ≤ to → to ≤ pixel_count → IsNormal (rs ++ (last.0, to) ∷ [])
longer_normal [] last to normal le within = (omega (arith, normal.0), within, tt, tt)
longer_normal (r ∷ []) last to normal le within = (normal.0, normal.1, normal.2, (omega (arith, normal.3.0), within, tt, tt))
longer_normal (r ∷ (r' ∷ rs)) last to normal le within = (normal.0, normal.1, normal.2, longer_normal (r' ∷ rs) last to normal.3 le within)

pub last_begins : (f : ℕ) (rs : List (ℕ × ℕ)) (last : ℕ × ℕ) → BeginsBy f (rs ++ last ∷ []) → last.0 ≤ f
last_begins f [] last all = all.0
last_begins f (r ∷ rs) last all = last_begins f rs last all.1

pub longer_begins : (f : ℕ) (rs : List (ℕ × ℕ)) (last : ℕ × ℕ) (to : ℕ) → BeginsBy f (rs ++ last ∷ []) → BeginsBy f (rs ++ (last.0, to) ∷ [])
longer_begins f [] last to all = (all.0, tt)
longer_begins f (r ∷ rs) last to all = (all.0, longer_begins f rs last to all.1)

pub last_of-last : (rs : List (ℕ × ℕ)) (last : ℕ × ℕ) → last_of (rs ++ last ∷ []) ≡ last.1
last_of-last [] last = refl
last_of-last (r ∷ []) last = refl
last_of-last (r ∷ (r' ∷ rs)) last = last_of-last (r' ∷ rs) last

pub longer_range : (a b from to q : ℕ) (k : Bool) → a ≤ from → from ≤ b → a < b → from < to → (k || (in_range (a, max b to) q || false)) ≡ ((k || (in_range (a, b) q || false)) || in_range (from, to) q)
longer_range a b from to q true af fb ab ft = refl
longer_range a b from to q false af fb ab ft = grind (arith, nat_tests)

pub last_range_nonempty : (rs : List (ℕ × ℕ)) (last : ℕ × ℕ) → IsNormal (rs ++ last ∷ []) → last.0 < last.1
last_range_nonempty rs last normal = (IsNormal-suffix rs (last ∷ []) normal).0

-- the last range was merged with one that begins in it
pub longer_same : (all init rs rs' : List (ℕ × ℕ)) (last : ℕ × ℕ) (from to : ℕ) → IsNormal (all ++ rs) → rs ≡ init ++ last ∷ [] → rs' ≡ init ++ (last.0, max last.1 to) ∷ [] → BeginsBy from rs → from ≤ last_of rs → from < to → (q : ℕ) → in_ranges (all ++ rs') q ≡ (in_ranges (all ++ rs) q || in_range (from, to) q)
longer_same all init rs rs' last from to normal old new begins reached filled q =
    let whole : all ++ rs ≡ (all ++ init) ++ last ∷ [] = ap (λ (l : List (ℕ × ℕ)). all ++ l) old ∙ sym (append_assoc all init (last ∷ [])) in
    let made : all ++ rs' ≡ (all ++ init) ++ (last.0, max last.1 to) ∷ [] = ap (λ (l : List (ℕ × ℕ)). all ++ l) new ∙ sym (append_assoc all init ((last.0, max last.1 to) ∷ [])) in
    let a : last.0 ≤ from = last_begins from init last (subst (λ (l : List (ℕ × ℕ)). BeginsBy from l) old begins) in
    let end : last_of rs ≡ last.1 = ap last_of old ∙ last_of-last init last in
    let b : from ≤ last.1 = omega arith in
    let ab : last.0 < last.1 = last_range_nonempty (all ++ init) last (subst IsNormal whole normal) in
    ap (λ (l : List (ℕ × ℕ)). in_ranges l q) made
    ∙ in_ranges-append (all ++ init) ((last.0, max last.1 to) ∷ []) q
    ∙ longer_range last.0 last.1 from to q (in_ranges (all ++ init) q) a b ab filled
    ∙ ap (λ x. x || in_range (from, to) q) (sym (in_ranges-append (all ++ init) (last ∷ []) q) ∙ ap (λ (l : List (ℕ × ℕ)). in_ranges l q) (sym whole))

pub builder_state_after_extension : (ns : List (List (List (ℕ × ℕ)))) (bs : List (List (ℕ × ℕ))) (rs rs' init : List (ℕ × ℕ)) (last : ℕ × ℕ) (to : ℕ) → IsBuilderState ns bs rs → rs ≡ init ++ last ∷ [] → rs' ≡ init ++ (last.0, max last.1 to) ∷ [] → to ≤ pixel_count → IsBuilderState ns bs rs'
builder_state_after_extension ns bs rs rs' init last to built old new within =
    let all : List (ℕ × ℕ) = concat (concat ns ++ bs) in
    let whole : all ++ rs ≡ (all ++ init) ++ last ∷ [] = ap (λ (l : List (ℕ × ℕ)). all ++ l) old ∙ sym (append_assoc all init (last ∷ [])) in
    let made : all ++ rs' ≡ (all ++ init) ++ (last.0, max last.1 to) ∷ [] = ap (λ (l : List (ℕ × ℕ)). all ++ l) new ∙ sym (append_assoc all init ((last.0, max last.1 to) ∷ [])) in
    let normal : IsNormal ((all ++ init) ++ last ∷ []) = subst IsNormal whole built.normal in
    let end : last.1 ≤ pixel_count = (IsNormal-suffix (all ++ init) (last ∷ []) normal).1 in
    record {
      sized = built.sized;
      wide = built.wide;
      fits = omega (arith, built.fits, ap length old, ap length new, length-append init (last ∷ []), length-append init ((last.0, max last.1 to) ∷ []));
      normal = subst IsNormal (sym made) (longer_normal (all ++ init) last (max last.1 to) normal (omega arith) (omega arith));
    }

pub longer_can : (u u' : GrowingList) (init : List (ℕ × ℕ)) (last : ℕ × ℕ) (to f : ℕ) → CanMerge u f → u'.closed ≡ u.closed → u.loose ≡ init ++ last ∷ [] → u'.loose ≡ init ++ (last.0, to) ∷ [] → CanMerge u' f
longer_can u u' init last to f can closed old new = record {
  before = subst (λ (l : List (ℕ × ℕ)). EndsBelow f l) (sym closed) can.before;
  begun = subst (λ (l : List (ℕ × ℕ)). BeginsBy f l) (sym new) (longer_begins f init last to (subst (λ (l : List (ℕ × ℕ)). BeginsBy f l) old can.begun));
}

begins_append : (f : ℕ) (rs ss : List (ℕ × ℕ)) → BeginsBy f rs → BeginsBy f ss → BeginsBy f (rs ++ ss)
begins_append f [] ss all more = more
begins_append f (r ∷ rs) ss all more = (all.0, begins_append f rs ss all.1 more)

-- ranges that can be merged in after a range was pushed
pub can_merge_after_push : (u : GrowingList) (init : List (ℕ × ℕ)) (range : ℕ × ℕ) → IsNormal (ranges_of u) → u.loose ≡ init ++ range ∷ [] → CanMerge u range.0
can_merge_after_push u init range built is =
    let whole : ranges_of u ≡ (u.closed ++ init) ++ range ∷ [] = ap (λ (l : List (ℕ × ℕ)). u.closed ++ l) is ∙ sym (append_assoc u.closed init (range ∷ [])) in
    let normal : IsNormal ((u.closed ++ init) ++ range ∷ []) = subst IsNormal whole built in
    let below = ends_next (u.closed ++ init) (range ∷ []) normal in
    let inner = IsNormal-suffix u.closed init (IsNormal-prefix (u.closed ++ init) (range ∷ []) normal) in
    record {
      before = EndsBelow-first range.0 u.closed init below;
      begun = subst (λ (l : List (ℕ × ℕ)). BeginsBy range.0 l) (sym is) (begins_append range.0 init (range ∷ []) (begins_of_ends range.0 init inner (ends_second range.0 u.closed init below)) (omega arith, tt));
    }

-- the first k ranges were appended to those in no block, which had room for k
pub fill_rule_of_builder : (ns : List (List (List (ℕ × ℕ)))) (bs : List (List (ℕ × ℕ))) (rs rs' kept ranges : List (ℕ × ℕ)) (k : ℕ) → IsBuilderState ns bs rs → builder_ranges ns bs rs ≡ kept → rs' ≡ rs ++ take k ranges → length rs + k ≤ 128 → IsNormal (kept ++ ranges) → IsBuilderState ns bs rs'
fill_rule_of_builder ns bs rs rs' kept ranges k built same new capacity normal =
    let all : List (ℕ × ℕ) = concat (concat ns ++ bs) in
    let made : builder_ranges ns bs rs' ≡ kept ++ take k ranges = ap (λ (l : List (ℕ × ℕ)). all ++ l) new ∙ sym (append_assoc all rs (take k ranges)) ∙ ap (λ (l : List (ℕ × ℕ)). l ++ take k ranges) same in
    let parts : kept ++ ranges ≡ (kept ++ take k ranges) ++ drop k ranges = ap (λ (l : List (ℕ × ℕ)). kept ++ l) (sym (take-append-drop k ranges)) ∙ sym (append_assoc kept (take k ranges) (drop k ranges)) in
    record {
      sized = built.sized;
      wide = built.wide;
      fits = omega (arith, ap length new, length-append rs (take k ranges), length-take k ranges);
      normal = subst IsNormal (sym made) (IsNormal-prefix (kept ++ take k ranges) (drop k ranges) (subst IsNormal parts normal));
    }

-- a range was pushed, and there was room for it
pub builder_state_after_push : (ns : List (List (List (ℕ × ℕ)))) (bs : List (List (ℕ × ℕ))) (rs rs' kept : List (ℕ × ℕ)) (range : ℕ × ℕ) → IsBuilderState ns bs rs → builder_ranges ns bs rs ≡ kept → length rs < 128 → rs' ≡ rs ++ range ∷ [] → range.0 < range.1 → range.1 ≤ pixel_count → EndsBelow range.0 kept → IsBuilderState ns bs rs'
builder_state_after_push ns bs rs rs' kept range built same capacity new filled within below =
    let made : builder_ranges ns bs rs' ≡ builder_ranges ns bs rs ++ range ∷ [] = ap (λ (l : List (ℕ × ℕ)). concat (concat ns ++ bs) ++ l) new ∙ sym (append_assoc (concat (concat ns ++ bs)) rs (range ∷ [])) in
    record {
      sized = built.sized;
      wide = built.wide;
      fits = omega (arith, ap length new, length-append rs (range ∷ []));
      normal = subst IsNormal (sym made) (pushed_normal (builder_ranges ns bs rs) range built.normal filled within (subst (λ (l : List (ℕ × ℕ)). EndsBelow range.0 l) (sym same) below));
    }

-- a node was appended
pub stack_with_node : (ns ns' : List (List (List (ℕ × ℕ)))) (node bs bs' stack : List (List (ℕ × ℕ))) → concat ns ++ bs ≡ stack → bs ≡ [] → concat ns' ++ bs' ≡ concat ns ++ node → concat ns' ++ bs' ≡ stack ++ node
stack_with_node ns ns' node bs bs' stack same none new =
    let all : concat ns ≡ stack = sym (append_empty (concat ns)) ∙ ap (λ (l : List (List (ℕ × ℕ))). concat ns ++ l) (sym none) ∙ same in
    new ∙ ap (λ (l : List (List (ℕ × ℕ))). l ++ node) all

pub builder_ranges_after_node : (ns : List (List (List (ℕ × ℕ)))) (bs stack node : List (List (ℕ × ℕ))) (rs kept : List (ℕ × ℕ)) → concat ns ++ bs ≡ stack ++ node → rs ≡ [] → concat stack ≡ kept → builder_ranges ns bs rs ≡ kept ++ concat node
builder_ranges_after_node ns bs stack node rs kept same none is =
    (λ i. concat (same i) ++ none i) ∙ append_empty (concat (stack ++ node)) ∙ concat-append stack node ∙ ap (λ (l : List (ℕ × ℕ)). l ++ concat node) is

-- one more of the blocks
pub each_more : (blocks : List (List (ℕ × ℕ))) (i : ℕ) (b : List (ℕ × ℕ)) (all now next : List (ℕ × ℕ)) → i < length blocks → b ≡ get_or blocks i b → now ≡ all ++ concat (take i blocks) → next ≡ now ++ b → next ≡ all ++ concat (take (i + 1) blocks)
each_more blocks i b all now next lt is before new =
    new ∙ ap (λ (l : List (ℕ × ℕ)). l ++ b) before ∙ append_assoc all (concat (take i blocks)) b
    ∙ ap (λ (l : List (ℕ × ℕ)). all ++ l) (ap (λ (l : List (ℕ × ℕ)). concat (take i blocks) ++ l) is ∙ sym (concat-last (take i blocks) (get_or blocks i b)) ∙ ap concat (sym (take_more blocks i b lt)))

pub each_normal : (blocks : List (List (ℕ × ℕ))) (i : ℕ) (b : List (ℕ × ℕ)) (all now : List (ℕ × ℕ)) → i < length blocks → b ≡ get_or blocks i b → now ≡ all ++ concat (take i blocks) → IsNormal (all ++ concat blocks) → IsNormal (now ++ b)
each_normal blocks i b all now lt is before normal =
    let next = each_more blocks i b all now (now ++ b) lt is before refl in
    let whole : all ++ concat blocks ≡ (all ++ concat (take (i + 1) blocks)) ++ concat (drop (i + 1) blocks) =
    ap (λ (l : List (ℕ × ℕ)). all ++ l) (ap concat (sym (take-append-drop (i + 1) blocks)) ∙ concat-append (take (i + 1) blocks) (drop (i + 1) blocks)) ∙ sym (append_assoc all (concat (take (i + 1) blocks)) (concat (drop (i + 1) blocks))) in
    subst IsNormal (sym next) (IsNormal-prefix (all ++ concat (take (i + 1) blocks)) (concat (drop (i + 1) blocks)) (subst IsNormal whole normal))

-- blocks became a node
pub concat_with_node : (ns ns' : List (List (List (ℕ × ℕ)))) (node blocks rest : List (List (ℕ × ℕ))) → ns' ≡ ns ++ node ∷ [] → node ≡ blocks → rest ≡ [] → concat ns' ++ rest ≡ concat ns ++ blocks
concat_with_node ns ns' node blocks rest new is none =
    (λ i. concat (new i) ++ none i) ∙ append_empty (concat (ns ++ node ∷ [])) ∙ concat-last ns node ∙ ap (λ (l : List (List (ℕ × ℕ))). concat ns ++ l) is

-- a node was reopened to blocks
pub concat_reopened_node : (ns ns' : List (List (List (ℕ × ℕ)))) (node blocks blocks' : List (List (ℕ × ℕ))) → ns ≡ ns' ++ node ∷ [] → blocks' ≡ node → blocks ≡ [] → concat ns' ++ blocks' ≡ concat ns ++ blocks
concat_reopened_node ns ns' node blocks blocks' old is none =
    ap (λ (l : List (List (ℕ × ℕ))). concat ns' ++ l) is ∙ sym (concat-last ns' node) ∙ ap concat (sym old) ∙ sym (append_empty (concat ns)) ∙ ap (λ (l : List (List (ℕ × ℕ))). concat ns ++ l) (sym none)

pub test_below : (f : ℕ) (rs : List (ℕ × ℕ)) (d : ℕ × ℕ) (i : ℕ) → IsNormal rs → i + 1 ≡ length rs → OnTrue (nat_lt (get_or rs i d).1 f) (EndsBelow f rs)
test_below f rs d i normal e =
    elim (nat_lt (get_or rs i d).1 f) as (λ b. nat_lt (get_or rs i d).1 f ≡ b → OnTrue b (EndsBelow f rs)) [
      | true ↦ λ t. let lt = ltb-true (get_or rs i d).1 f t in ends_by_last f rs normal (omega (arith, last_of-get rs d i e))
      | false ↦ λ t. tt
    ] refl

pub test_reached : (f : ℕ) (rs : List (ℕ × ℕ)) (d : ℕ × ℕ) (i : ℕ) → i + 1 ≡ length rs → OnFalse (nat_lt (get_or rs i d).1 f) (f ≤ last_of rs)
test_reached f rs d i e =
    elim (nat_lt (get_or rs i d).1 f) as (λ b. nat_lt (get_or rs i d).1 f ≡ b → OnFalse b (f ≤ last_of rs)) [
      | true ↦ λ t. tt
      | false ↦ λ t. let ge = ltb-false (get_or rs i d).1 f t in omega (arith, last_of-get rs d i e)
    ] refl

pub node_read : (ns : List (List (List (ℕ × ℕ)))) (last : List (List (ℕ × ℕ))) (i : ℕ) → i + 1 ≡ length ns → last ≡ get_or ns i last → 0 < length (concat last) → last_length last ≡ last_length (concat ns)
node_read ns last i e is some = ap last_length is ∙ sym (last_length-nodes ns last i e (subst (λ (l : List (List (ℕ × ℕ))). 0 < length l) is (some_blocks last some)))

-- an open range after the others
pub open_longer : (kept : List (ℕ × ℕ)) (last : ℕ × ℕ) (to end : ℕ) → IsNormal (kept ++ last ∷ []) → to ≤ pixel_count → end ≡ max last.1 to → IsNormal (kept ++ (last.0, end) ∷ [])
open_longer kept last to end opened within is =
    let last_in : last.1 ≤ pixel_count = (IsNormal-suffix kept (last ∷ []) opened).1 in
    longer_normal kept last end opened (omega (arith, is)) (omega (arith, is))

pub open_longer-same : (kept : List (ℕ × ℕ)) (last range : ℕ × ℕ) (end q : ℕ) → IsNormal (kept ++ last ∷ []) → end ≡ max last.1 range.1 → last.0 ≤ range.0 → range.0 ≤ last.1 → range.0 < range.1 → in_ranges (kept ++ (last.0, end) ∷ []) q ≡ (in_ranges (kept ++ last ∷ []) q || in_range range q)
open_longer-same kept last range end q normal is later reached filled =
    ap (λ t. in_ranges (kept ++ (last.0, t) ∷ []) q) is
    ∙ in_ranges-append kept ((last.0, max last.1 range.1) ∷ []) q
    ∙ longer_range last.0 last.1 range.0 range.1 q (in_ranges kept q) later reached (last_range_nonempty kept last normal) filled
    ∙ ap (λ x. x || in_range range q) (sym (in_ranges-append kept (last ∷ []) q))

pub last_open_nonempty : (kept : List (ℕ × ℕ)) (last : ℕ × ℕ) → IsNormal (kept ++ last ∷ []) → last.0 < last.1
last_open_nonempty kept last normal = last_range_nonempty kept last normal

pub open_within : (kept : List (ℕ × ℕ)) (last : ℕ × ℕ) → IsNormal (kept ++ last ∷ []) → last.1 ≤ pixel_count
open_within kept last normal = (IsNormal-suffix kept (last ∷ []) normal).1

pub open_after : (kept : List (ℕ × ℕ)) (last : ℕ × ℕ) → IsNormal (kept ++ last ∷ []) → EndsBelow last.0 kept
open_after kept last normal = ends_next kept (last ∷ []) normal

pub open_next : (kept kept' : List (ℕ × ℕ)) (last range : ℕ × ℕ) → IsNormal (kept ++ last ∷ []) → IsNormal kept' → kept' ≡ kept ++ last ∷ [] → last.1 < range.0 → range.0 < range.1 → range.1 ≤ pixel_count → IsNormal (kept' ++ range ∷ [])
open_next kept kept' last range opened built' is apart filled within =
    let fill_rule_last = last_range_nonempty kept last opened in
    let below = EndsBelow-append range.0 kept (last ∷ []) (EndsBelow-more last.0 range.0 kept (ends_next kept (last ∷ []) opened) (omega arith)) (apart, tt) in
    pushed_normal kept' range built' filled within (subst (λ (l : List (ℕ × ℕ)). EndsBelow range.0 l) (sym is) below)

pub open_next-same : (kept kept' : List (ℕ × ℕ)) (last range : ℕ × ℕ) (q : ℕ) → kept' ≡ kept ++ last ∷ [] → in_ranges (kept' ++ range ∷ []) q ≡ (in_ranges (kept ++ last ∷ []) q || in_range range q)
open_next-same kept kept' last range q is =
    in_ranges-append kept' (range ∷ []) q ∙ (λ i. in_ranges (is i) q || or_false (in_range range q) i)

-- the ranges that are in no block are normal
pub ranges_normal : (ns : List (List (List (ℕ × ℕ)))) (bs : List (List (ℕ × ℕ))) (rs : List (ℕ × ℕ)) → IsBuilderState ns bs rs → IsNormal rs
ranges_normal ns bs rs built = IsNormal-suffix (concat (concat ns ++ bs)) rs built.normal

-- ranges were removed at the end
pub builder_state_of_prefix : (ns : List (List (List (ℕ × ℕ)))) (bs : List (List (ℕ × ℕ))) (rs rs' removed : List (ℕ × ℕ)) → IsBuilderState ns bs rs → rs ≡ rs' ++ removed → IsBuilderState ns bs rs'
builder_state_of_prefix ns bs rs rs' removed built old =
    let all : List (ℕ × ℕ) = concat (concat ns ++ bs) in
    record {
      sized = built.sized;
      wide = built.wide;
      fits = omega (arith, built.fits, ap length old, length-append rs' removed);
      normal = IsNormal-prefix (all ++ rs') removed (subst IsNormal (ap (λ (l : List (ℕ × ℕ)). all ++ l) old ∙ sym (append_assoc all rs' removed)) built.normal);
    }
