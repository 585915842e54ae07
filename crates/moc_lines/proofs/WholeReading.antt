-- Lines that are read many at a time.
use Rattle.std.proofs.Common.{◌≡◌, inl, inr, ℕ, suc, ◌+◌, ◌-◌, ◌<◌, ◌≤◌, Bool, true, false, cond, List, [], ◌∷◌, ◌++◌, length, take, drop, get_or, refl, sym, ap, ◌∙◌, arith, append_assoc, append-nil, length-append, length-take, length-drop, subst}
use Rattle.std.specs.List.{count_by, position_or_len, before_first, after_first, onto_first, AllByRecursion}
use Rattle.std.proofs.Math.Seq.{drop-append-add}
use Rattle.std.proofs.lemmas.Bool.{cases_lt, eqb-true}
use Rattle.std.proofs.lemmas.List.{get_or-append-add, get_or-drop, take-append-drop, take_more, drop-append-le, drop-drop}
use Rattle.moc_text.specs.Lines.{is_line_feed, lines_of}
use Rattle.moc_lines.specs.Private.ReaderState.{HasNoLineFeed}
use Rattle.moc_lines.specs.Runs.{AreShort, IsTooLong, IsUnfinishedLine}
use Rattle.moc_devices.specs.Devices.{SourceState, Delivers}
use Rattle.moc_devices.specs.Lemmas.{Delivers-trans}
use Rattle.moc_lines.specs.Private.Input.{IsScriptState, IsAfterLastFeed}
use Rattle.moc_lines.proofs.LineLemmas.{not_true, count-append, count-cons, some-lines, lines_of-line, lines_of-last, lines_of-long, HasNoLineFeed-before_first, split_at_line_feed, before_first-none}

-- what holds of the elements of two lists
all_of_append : {X : Type 0} (P : X → Type 0) (xs ys : List X) → AllByRecursion P xs → AllByRecursion P ys → AllByRecursion P (xs ++ ys)
all_of_append P [] ys left right = right
all_of_append P (x ∷ xs) ys left right = (left.0, all_of_append P xs ys left.1 right)

short_with_larger_limit : (m n : ℕ) (lines : List (List ℕ)) → m ≤ n → AreShort m lines → AreShort n lines
short_with_larger_limit m n [] less within = tt
short_with_larger_limit m n (line ∷ lines) less within = (let low = within.0 in omega arith, short_with_larger_limit m n lines less within.1)

onto : (n b : ℕ) (lines : List (List ℕ)) → AreShort n lines → AreShort (suc n) (onto_first b lines)
onto n b [] within = (omega arith, tt)
onto n b (line ∷ lines) within = ((let low = within.0 in omega arith), short_with_larger_limit n (suc n) lines (omega arith) within.1)

-- no line is longer than the text
lines_fit : (text : List ℕ) → AreShort (length text) (lines_of text)
lines_fit [] = tt
lines_fit (b ∷ text) = elim (is_line_feed b) as (λ v. AreShort (suc (length text)) (cond v ([] ∷ lines_of text) (onto_first b (lines_of text)))) [
  | true ↦ (omega arith, short_with_larger_limit (length text) (suc (length text)) (lines_of text) (omega arith) (lines_fit text))
  | false ↦ onto (length text) b (lines_of text) (lines_fit text)
]

-- lines of a text that is no longer than the limit
pub lines_within : (limit : ℕ) (text : List ℕ) → length text ≤ limit → AreShort limit (lines_of text)
lines_within limit text short = short_with_larger_limit (length text) limit (lines_of text) short (lines_fit text)

onto-append : (b : ℕ) (lines more : List (List ℕ)) → 0 < length lines → onto_first b (lines ++ more) ≡ onto_first b lines ++ more
onto-append b [] more some = absurd (omega arith)
onto-append b (line ∷ lines) more some = refl

onto-length : (b : ℕ) (lines : List (List ℕ)) → 0 < length lines → length (onto_first b lines) ≡ length lines
onto-length b [] some = absurd (omega arith)
onto-length b (line ∷ lines) some = refl

-- lines after a line feed are separate lines
lines_of-following : (front rest : List ℕ) → lines_of ((front ++ 10 ∷ []) ++ rest) ≡ lines_of (front ++ 10 ∷ []) ++ lines_of rest
lines_of-following [] rest = refl
lines_of-following (b ∷ front) rest =
    let first = lines_of (front ++ 10 ∷ []) in
    let all = lines_of ((front ++ 10 ∷ []) ++ rest) in
    let by : (v : Bool) → cond v ([] ∷ all) (onto_first b all) ≡ cond v ([] ∷ first) (onto_first b first) ++ lines_of rest =
    λ v. elim v as (λ w. cond w ([] ∷ all) (onto_first b all) ≡ cond w ([] ∷ first) (onto_first b first) ++ lines_of rest) [
      | true ↦ ap (λ l. [] ∷ l) (lines_of-following front rest)
      | false ↦ ap (onto_first b) (lines_of-following front rest) ∙ onto-append b first (lines_of rest) (some-lines (front ++ 10 ∷ []) (omega (arith, length-append front (10 ∷ []))))
    ] in
    by (is_line_feed b)

-- as many lines as line feeds
lines_of-count : (front : List ℕ) → length (lines_of (front ++ 10 ∷ [])) ≡ count_by is_line_feed (front ++ 10 ∷ [])
lines_of-count [] = refl
lines_of-count (b ∷ front) =
    let some : 0 < length (lines_of (front ++ 10 ∷ [])) = some-lines (front ++ 10 ∷ []) (omega (arith, length-append front (10 ∷ []))) in
    let by : (v : Bool) → length (cond v ([] ∷ lines_of (front ++ 10 ∷ [])) (onto_first b (lines_of (front ++ 10 ∷ [])))) ≡ cond v 1 0 + count_by is_line_feed (front ++ 10 ∷ []) =
    λ v. elim v as (λ v. length (cond v ([] ∷ lines_of (front ++ 10 ∷ [])) (onto_first b (lines_of (front ++ 10 ∷ [])))) ≡ cond v 1 0 + count_by is_line_feed (front ++ 10 ∷ [])) [
      | true ↦ omega (arith, lines_of-count front)
      | false ↦ omega (arith, onto-length b (lines_of (front ++ 10 ∷ [])) some, lines_of-count front)
    ] in
    by (is_line_feed b) ∙ sym (count-cons b (front ++ 10 ∷ []))

front_of_both : {X : Type 0} (P : X → Type 0) (xs ys : List X) → AllByRecursion P (xs ++ ys) → AllByRecursion P xs
front_of_both P [] ys all = tt
front_of_both P (x ∷ xs) ys all = (all.0, front_of_both P xs ys all.1)

-- an unfinished line, and a text whose first line ends it within the limit
within_unfinished : (limit : ℕ) (part text : List ℕ) → HasNoLineFeed part → length part + position_or_len is_line_feed text ≤ limit → length text ≤ limit → AreShort limit (lines_of (part ++ text))
within_unfinished limit part text unbroken first short = elim (cases_lt (position_or_len is_line_feed text) (length text)) [
  | inl found ↦
      let before = before_first is_line_feed text in
      let after = after_first is_line_feed text in
      let line : HasNoLineFeed (part ++ before) = count-append part before ∙ omega (arith, unbroken, HasNoLineFeed-before_first text) in
      let parts : lines_of (part ++ text) ≡ (part ++ before) ∷ lines_of after =
      ap (λ l. lines_of (part ++ l)) (split_at_line_feed text found) ∙ ap lines_of (sym (append_assoc part before (10 ∷ after))) ∙ lines_of-line (part ++ before) after line in
      subst (AreShort limit) (sym parts) (
        omega (arith, first, length-append part before, length-take (position_or_len is_line_feed text) text),
        lines_within limit after (omega (arith, short, length-drop (position_or_len is_line_feed text + 1) text)),
      )
  | inr none ↦ lines_within limit (part ++ text) (omega (arith, none, first, length-append part text))
]

-- nothing is read yet
pub script_empty : IsScriptState [] 0
script_empty = record { lines = []; front = λ more. refl; count = refl; within = tt; unfinished_line = refl; short = omega arith; inside = omega arith }

module _ (bytes chunk : List ℕ) (start : ℕ) (held : IsScriptState bytes start) where
  front_with : (more : List ℕ) → lines_of ((bytes ++ chunk) ++ more) ≡ held.lines ++ lines_of (drop start bytes ++ (chunk ++ more))
  front_with more = ap lines_of (append_assoc bytes chunk more) ∙ held.front (chunk ++ more)

  -- bytes without a line feed continue the unfinished line
  pub script_more : length chunk ≤ position_or_len is_line_feed chunk → length (drop start bytes) + position_or_len is_line_feed chunk ≤ 1048576 → IsScriptState (bytes ++ chunk) start
  script_more none fits =
      let unfinished_line : drop start (bytes ++ chunk) ≡ drop start bytes ++ chunk = drop-append-le start bytes chunk held.inside in
      let unbroken : HasNoLineFeed chunk = ap (count_by is_line_feed) (sym (before_first-none chunk none)) ∙ HasNoLineFeed-before_first chunk in
      record {
        lines = held.lines;
        front = λ more. front_with more ∙ ap (λ l. held.lines ++ lines_of l) (sym (append_assoc (drop start bytes) chunk more)) ∙ ap (λ l. held.lines ++ lines_of (l ++ more)) (sym unfinished_line);
        count = held.count ∙ omega (arith, count-append bytes chunk, unbroken);
        within = held.within;
        unfinished_line = ap (count_by is_line_feed) unfinished_line ∙ count-append (drop start bytes) chunk ∙ omega (arith, held.unfinished_line, unbroken);
        short = omega (arith, none, fits, ap length unfinished_line, length-append (drop start bytes) chunk);
        inside = omega (arith, held.inside, length-append bytes chunk);
      }

  -- bytes with a line feed end lines, and start another after the last
  pub script_lines : (place : ℕ) → IsAfterLastFeed chunk place → length (drop start bytes) + position_or_len is_line_feed chunk ≤ 1048576 → length chunk ≤ 65536
      → IsScriptState (bytes ++ chunk) (length bytes + place)
  script_lines place last fits small =
      let ended : List ℕ = drop start bytes ++ last.front in
      let tail = drop place chunk in
      let unfinished_line : drop (length bytes + place) (bytes ++ chunk) ≡ tail = drop-append-add bytes chunk place in
      let cut : chunk ≡ (last.front ++ 10 ∷ []) ++ tail = sym (take-append-drop place chunk) ∙ ap (λ l. l ++ tail) last.ends in
      let parts : (more : List ℕ) → lines_of (drop start bytes ++ (chunk ++ more)) ≡ lines_of (ended ++ 10 ∷ []) ++ lines_of (tail ++ more) =
      λ more. ap (λ l. lines_of (drop start bytes ++ (l ++ more))) cut ∙ ap (λ l. lines_of (drop start bytes ++ l)) (append_assoc (last.front ++ 10 ∷ []) tail more)
      ∙ ap lines_of (sym (append_assoc (drop start bytes) (last.front ++ 10 ∷ []) (tail ++ more)))
      ∙ ap (λ l. lines_of (l ++ (tail ++ more))) (sym (append_assoc (drop start bytes) last.front (10 ∷ [])))
      ∙ lines_of-following ended (tail ++ more) in
      let all : AreShort 1048576 (lines_of (drop start bytes ++ chunk)) = within_unfinished 1048576 (drop start bytes) chunk held.unfinished_line fits (omega arith) in
      let whole : lines_of (drop start bytes ++ chunk) ≡ lines_of (ended ++ 10 ∷ []) ++ lines_of tail =
      ap (λ l. lines_of (drop start bytes ++ l)) (sym (append-nil chunk)) ∙ parts [] ∙ ap (λ l. lines_of (ended ++ 10 ∷ []) ++ lines_of l) (append-nil tail) in
      record {
        lines = held.lines ++ lines_of (ended ++ 10 ∷ []);
        front = λ more. front_with more ∙ ap (λ l. held.lines ++ l) (parts more) ∙ sym (append_assoc held.lines (lines_of (ended ++ 10 ∷ [])) (lines_of (tail ++ more)))
            ∙ ap (λ l. (held.lines ++ lines_of (ended ++ 10 ∷ [])) ++ lines_of (l ++ more)) (sym unfinished_line);
        count = length-append held.lines (lines_of (ended ++ 10 ∷ []))
            ∙ omega (
              arith,
              held.count,
              held.unfinished_line,
              last.unbroken,
              lines_of-count ended,
              count-append ended (10 ∷ []),
              count-append (drop start bytes) last.front,
              count-append last.front (10 ∷ []),
              count-append bytes chunk,
              ap (count_by is_line_feed) cut,
              count-append (last.front ++ 10 ∷ []) tail,
            );
        within = all_of_append (λ line. length line ≤ 1048576) held.lines (lines_of (ended ++ 10 ∷ [])) held.within
            (front_of_both (λ line. length line ≤ 1048576) (lines_of (ended ++ 10 ∷ [])) (lines_of tail) (subst (AreShort 1048576) whole all));
        unfinished_line = ap (count_by is_line_feed) unfinished_line ∙ last.unbroken;
        short = omega (arith, small, ap length unfinished_line, length-drop place chunk);
        inside = omega (arith, last.inside, length-append bytes chunk);
      }

  -- the unfinished line has bytes, if some came
  pub script_unfinished : 0 < length chunk → (number : ℕ) → number ≡ count_by is_line_feed bytes + 1 → IsUnfinishedLine number (bytes ++ chunk)
  script_unfinished some number is =
      let rest = drop start bytes ++ chunk in
      let lines : lines_of (bytes ++ chunk) ≡ held.lines ++ lines_of rest = held.front chunk in
      let one = some-lines rest (omega (arith, some, length-append (drop start bytes) chunk)) in
      let few : number ≤ length (lines_of (bytes ++ chunk)) = omega (arith, is, one, held.count, ap length lines, length-append held.lines (lines_of rest)) in
      record { none = λ e. absurd (omega (arith, e, is)); some = λ _. few; next = omega (arith, few) }

  -- the unfinished line goes over the limit
  pub script_too_long : 1048576 < length (drop start bytes) + position_or_len is_line_feed chunk → position_or_len is_line_feed chunk ≤ length chunk
      → (number : ℕ) → number ≡ count_by is_line_feed bytes + 1 → IsTooLong 1048576 (lines_of (bytes ++ chunk)) number
  script_too_long long inside number is =
      let place = position_or_len is_line_feed chunk in
      let before = before_first is_line_feed chunk in
      let line : HasNoLineFeed (drop start bytes ++ before) = count-append (drop start bytes) before ∙ omega (arith, held.unfinished_line, HasNoLineFeed-before_first chunk) in
      let parts : drop start bytes ++ chunk ≡ (drop start bytes ++ before) ++ drop place chunk =
      ap (λ l. drop start bytes ++ l) (sym (take-append-drop place chunk)) ∙ sym (append_assoc (drop start bytes) before (drop place chunk)) in
      let found = lines_of-long 1048576 (drop start bytes ++ before) (drop place chunk) line (omega (arith, long, inside, length-append (drop start bytes) before, length-take place chunk)) in
      let lines : lines_of (bytes ++ chunk) ≡ held.lines ++ found.0 ∷ found.1 = held.front chunk ∙ ap (λ l. held.lines ++ lines_of l) parts ∙ ap (λ l. held.lines ++ l) found.2 in
      let index : number - 1 ≡ length held.lines + 0 = omega (arith, held.count) in
      let at : get_or (lines_of (bytes ++ chunk)) (number - 1) [] ≡ found.0 =
      ap (λ l. get_or l (number - 1) []) lines ∙ ap (λ n. get_or (held.lines ++ found.0 ∷ found.1) n []) index ∙ get_or-append-add held.lines (found.0 ∷ found.1) 0 [] in
      (omega arith, subst (λ (l : List ℕ). 1048576 < length l) (sym at) found.3)

-- all lines are within the limit
pub script_short : (bytes : List ℕ) (start : ℕ) → IsScriptState bytes start → AreShort 1048576 (lines_of bytes)
script_short bytes start held =
    let part = drop start bytes in
    let lines : lines_of bytes ≡ held.lines ++ lines_of part = ap lines_of (sym (append-nil bytes)) ∙ held.front [] ∙ ap (λ l. held.lines ++ lines_of l) (append-nil part) in
    subst (AreShort 1048576) (sym lines) (all_of_append (λ line. length line ≤ 1048576) held.lines (lines_of part) held.within (lines_within 1048576 part held.short))

-- if no byte is a line feed, their number is zero
no_line_feed_by_index : (bytes : List ℕ) → ((k : ℕ) → k < length bytes → is_line_feed (get_or bytes k 0) ≡ true → ⊥) → HasNoLineFeed bytes
no_line_feed_by_index [] none = refl
no_line_feed_by_index (b ∷ bytes) none =
    count-cons b bytes ∙ omega (arith, no_line_feed_by_index bytes (λ k low is. none (suc k) (omega arith) is), ap {B = ℕ} (λ v. cond v 1 0) (not_true (is_line_feed b) (none 0 (omega arith))))

-- the position after the last line feed
pub after_last_feed : (bytes : List ℕ) (at : ℕ) → at < length bytes → is_line_feed (get_or bytes at 0) ≡ true → ((k : ℕ) → at + 1 ≤ k → k < length bytes → is_line_feed (get_or bytes k 0) ≡ true → ⊥)
    → IsAfterLastFeed bytes (at + 1)
after_last_feed bytes at inside here after = record {
  front = take at bytes;
  ends = take_more bytes at 0 inside ∙ ap (λ (b : ℕ). take at bytes ++ b ∷ []) (eqb-true _ _ here);
  unbroken = no_line_feed_by_index (drop (at + 1) bytes) (λ k low is.
      after (at + 1 + k) (omega arith) (omega (arith, low, length-drop (at + 1) bytes)) (ap is_line_feed (sym (get_or-drop (at + 1) bytes k 0)) ∙ is));
  inside = omega arith;
}

-- a line feed follows the first line
pub lines_split_at_line_feed : (text line rest : List ℕ) (x n : ℕ) → n ≡ position_or_len is_line_feed text → line ≡ take n text → drop n text ≡ x ∷ rest → lines_of text ≡ line ∷ lines_of rest
lines_split_at_line_feed text line rest x n place line_is following =
    let found : position_or_len is_line_feed text < length text = omega (arith, place, ap length following, length-drop n text) in
    let before : line ≡ before_first is_line_feed text = line_is ∙ ap (λ k. take k text) place in
    let after : rest ≡ after_first is_line_feed text = ap (drop 1) (sym following) ∙ drop-drop 1 n text ∙ ap (λ k. drop (k + 1) text) place in
    ap lines_of (split_at_line_feed text found) ∙ lines_of-line (before_first is_line_feed text) (after_first is_line_feed text) (HasNoLineFeed-before_first text)
    ∙ ap (λ l. l ∷ lines_of (after_first is_line_feed text)) (sym before) ∙ ap (λ l. line ∷ lines_of l) (sym after)

-- the first line is the last, and no line feed follows
pub split_last : (text line following : List ℕ) (n : ℕ) → 0 < length text → n ≡ position_or_len is_line_feed text → line ≡ take n text → following ≡ drop n text → length following ≡ 0
    → lines_of text ≡ line ∷ lines_of following
split_last text line following n some place line_is following_is none =
    let past : length text ≤ position_or_len is_line_feed text = omega (arith, place, ap length following_is, length-drop n text) in
    let whole : line ≡ text = line_is ∙ ap (λ k. take k text) place ∙ before_first-none text past in
    let empty : following ≡ [] = empty_by following none in
    lines_of-last text (ap (count_by is_line_feed) (sym (before_first-none text past)) ∙ HasNoLineFeed-before_first text) some
    ∙ ap (λ l. l ∷ []) (sym whole) ∙ ap (λ l. line ∷ lines_of l) (sym empty)
  where
    empty_by : (l : List ℕ) → length l ≡ 0 → l ≡ []
    empty_by [] e = refl
    empty_by (x ∷ l) e = absurd (omega arith)

-- nothing is read yet
pub script_new : (bytes : List ℕ) (start : ℕ) → bytes ≡ [] → start ≡ 0 → IsScriptState bytes start
script_new bytes start none first = subst (λ (b : List ℕ). IsScriptState b start) (sym none) (subst (λ (n : ℕ). IsScriptState [] n) (sym first) script_empty)

-- a line feed at a position is counted
some_line_feed : (bytes : List ℕ) → position_or_len is_line_feed bytes < length bytes → 0 < count_by is_line_feed bytes
some_line_feed bytes found =
    let before = before_first is_line_feed bytes in
    let after = after_first is_line_feed bytes in
    omega (arith, ap (count_by is_line_feed) (split_at_line_feed bytes found), count-append before (10 ∷ after), count-cons 10 after)

-- if no byte is a line feed, the search has no result
pub no_line_feed_until_end : (bytes : List ℕ) → ((k : ℕ) → k < length bytes → is_line_feed (get_or bytes k 0) ≡ true → ⊥) → length bytes ≤ position_or_len is_line_feed bytes
no_line_feed_until_end bytes none = elim (cases_lt (position_or_len is_line_feed bytes) (length bytes)) [
  | inl found ↦ absurd (omega (arith, some_line_feed bytes found, no_line_feed_by_index bytes none))
  | inr past ↦ past
]

-- more was given
pub delivers_more : (a b c : SourceState) (bytes chunk bytes' : List ℕ) → Delivers a b bytes → Delivers b c chunk → bytes' ≡ bytes ++ chunk → Delivers a c bytes'
delivers_more a b c bytes chunk bytes' given more is = subst (Delivers a c) (sym is) (Delivers-trans a b c bytes chunk given more)

-- the read that gave nothing was the last
pub delivers_all : (a b c : SourceState) (bytes buffer : List ℕ) (n : ℕ) → Delivers a b bytes → Delivers b c (take n buffer) → n ≡ 0 → Delivers a c bytes
delivers_all a b c bytes buffer n given none zero_read =
    let empty : take n buffer ≡ [] = ap (λ k. take k buffer) zero_read in
    delivers_more a b c bytes (take n buffer) bytes given none (sym (append-nil bytes) ∙ ap (λ l. bytes ++ l) (sym empty))
