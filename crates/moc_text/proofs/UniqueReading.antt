-- A text has at most one meaning: one set and order, or one first error.
use Rattle.std.proofs.Common.{◌≡◌, ℕ, ◌≤◌, Bool, true, false, eqb, List, [], ◌∷◌, ◌++◌, length, Option, Some, None, refl, sym, ap, subst, ◌∙◌, arith, length-append, append_assoc, inl, inr}
use Rattle.std.specs.Char.{is_ascii_digit}
use Rattle.std.specs.Str.{all_ascii_digits}
use Rattle.std.proofs.lemmas.List.{append-nil}
use Rattle.std.proofs.lemmas.Bool.Decides.{nat_tests}
use Rattle.moc_text.specs.Ascii.{Word, words, IsNumber, Mark, mark_prefix, ItemText, OneCell, CellRange, item_text, IsItemText, Shape}
use Rattle.moc_text.specs.Ascii.{JustMark, JustItem, MarkItem, shape_text, IsShape, IsValid, ShapeErrorAt}
use Rattle.moc_text.specs.Ascii.{HasShapeError, numbers_at, HasNumbers, current_order, order_after, error_of, AreNumbersOf}
use Rattle.moc_text.specs.Ascii.{IsError, IsFirstError, Represents, pixels_of_words, deepest_of}
use Rattle.moc_lists.specs.RangeList.{NumberSet}
use Rattle.moc_text.specs.Private.Scan.{leading_digits, after_digits, after_byte, starts_with_digit}
use Rattle.moc_text.specs.declared.ascii.number.WordNumbers.{WordNumbers}
use Rattle.moc_text.specs.declared.ascii.error.TextError.{TextError}
use Rattle.moc_text.proofs.Automaton.{both_true}

-- ---- a word has one shape

-- digits before a byte that is not a digit
front_all : (ds rest : List ℕ) → all_ascii_digits ds ≡ true → starts_with_digit rest ≡ false → leading_digits (ds ++ rest) ≡ ds
front_all [] [] h stop = refl
front_all [] (b ∷ rest) h stop = rw stop refl
front_all (d ∷ ds) rest h stop =
    let p = both_true (is_ascii_digit d) (all_ascii_digits ds) h in
    rw p.0 (ap (λ (r : List ℕ). d ∷ r) (front_all ds rest p.1 stop))

after_digits_of_append : (ds rest : List ℕ) → all_ascii_digits ds ≡ true → starts_with_digit rest ≡ false → after_digits (ds ++ rest) ≡ rest
after_digits_of_append [] [] h stop = refl
after_digits_of_append [] (b ∷ rest) h stop = rw stop refl
after_digits_of_append (d ∷ ds) rest h stop =
    let p = both_true (is_ascii_digit d) (all_ascii_digits ds) h in
    rw p.0 (after_digits_of_append ds rest p.1 stop)

front_whole : (ds : List ℕ) → all_ascii_digits ds ≡ true → leading_digits ds ≡ ds
front_whole ds h = ap leading_digits (sym (append-nil ds)) ∙ front_all ds [] h refl

after_digits_of_all : (ds : List ℕ) → all_ascii_digits ds ≡ true → after_digits ds ≡ []
after_digits_of_all ds h = ap after_digits (sym (append-nil ds)) ∙ after_digits_of_append ds [] h refl

digit_no_s : (d : ℕ) → is_ascii_digit d ≡ true → eqb d 115 ≡ false
digit_no_s d h = grind (arith, nat_tests)

number_no_s : (ds rest : List ℕ) → IsNumber ds → after_byte 115 (ds ++ rest) ≡ None
number_no_s [] rest h = absurd (omega (arith, h.0))
number_no_s (d ∷ ds) rest h =
    let p = both_true (is_ascii_digit d) (all_ascii_digits ds) h.1 in
    rw (digit_no_s d p.0) refl

-- the cells that a text denotes
abbrev cells_after : List ℕ → Option (List ℕ) → ItemText
cells_after a None = OneCell a
cells_after a (Some more) = CellRange a (leading_digits more)

abbrev cells_of : List ℕ → ItemText
cells_of bytes = cells_after (leading_digits bytes) (after_byte 45 (after_digits bytes))

cells_of-text : (c : ItemText) → IsItemText c → cells_of (item_text c) ≡ c
cells_of-text (OneCell a) h = ap (λ (r : List ℕ). cells_after (leading_digits a) (after_byte 45 r)) (after_digits_of_all a h.1) ∙ ap (λ (r : List ℕ). OneCell r) (front_whole a h.1)
cells_of-text (CellRange a b) h =
    ap (λ (r : List ℕ). cells_after (leading_digits (a ++ 45 ∷ b)) (after_byte 45 r)) (after_digits_of_append a (45 ∷ b) h.0.1 refl)
    ∙ ap (λ (r : List ℕ). CellRange r (leading_digits b)) (front_all a (45 ∷ b) h.0.1 refl)
    ∙ ap (λ (r : List ℕ). CellRange a r) (front_whole b h.1.1)

abbrev marked_of : Mark → List ℕ → Shape
marked_of m [] = JustMark m
marked_of m (b ∷ rest) = MarkItem m (cells_of (b ∷ rest))

abbrev mark_after : Bool → List ℕ → Option (List ℕ) → Shape → Shape
mark_after prefixed order None other = other
mark_after prefixed order (Some rest) other = marked_of (record { prefixed = prefixed; order = order }) rest

abbrev shape_after : List ℕ → Option (List ℕ) → Shape
shape_after bytes (Some more) = mark_after true (leading_digits more) (after_byte 47 (after_digits more)) (JustItem (OneCell []))
shape_after bytes None = mark_after false (leading_digits bytes) (after_byte 47 (after_digits bytes)) (JustItem (cells_of bytes))

abbrev shape_of : List ℕ → Shape
shape_of bytes = shape_after bytes (after_byte 115 bytes)

-- a mark and the bytes after it
shape_of-mark : (prefixed : Bool) (order rest : List ℕ) → IsNumber order → shape_of ((mark_prefix prefixed ++ order) ++ 47 ∷ rest) ≡ marked_of (record { prefixed = prefixed; order = order }) rest
shape_of-mark true order rest h =
    ap (λ (r : List ℕ). mark_after true (leading_digits (order ++ 47 ∷ rest)) (after_byte 47 r) (JustItem (OneCell []))) (after_digits_of_append order (47 ∷ rest) h.1 refl)
    ∙ ap (λ (r : List ℕ). marked_of (record { prefixed = true; order = r }) rest) (front_all order (47 ∷ rest) h.1 refl)
shape_of-mark false order rest h =
    ap (shape_after (order ++ 47 ∷ rest)) (number_no_s order (47 ∷ rest) h)
    ∙ ap (λ (r : List ℕ). mark_after false (leading_digits (order ++ 47 ∷ rest)) (after_byte 47 r) (JustItem (cells_of (order ++ 47 ∷ rest)))) (after_digits_of_append order (47 ∷ rest) h.1 refl)
    ∙ ap (λ (r : List ℕ). marked_of (record { prefixed = false; order = r }) rest) (front_all order (47 ∷ rest) h.1 refl)

-- cells begin with a number
first_number : (c : ItemText) → IsItemText c → (a : List ℕ) × (rest : List ℕ) × IsNumber a × (item_text c ≡ a ++ rest) × (starts_with_digit rest ≡ false) × (after_byte 47 rest ≡ None)
first_number (OneCell a) h = (a, [], h, sym (append-nil a), refl, refl)
first_number (CellRange a b) h = (a, 45 ∷ b, h.0, refl, refl, refl)

shape_of-cells : (c : ItemText) → IsItemText c → shape_of (item_text c) ≡ JustItem (cells_of (item_text c))
shape_of-cells c h =
    let f = first_number c h in
    let no_s : after_byte 115 (item_text c) ≡ None = ap (after_byte 115) f.3 ∙ number_no_s f.0 f.1 f.2 in
    let no_slash : after_byte 47 (after_digits (item_text c)) ≡ None = ap (λ (r : List ℕ). after_byte 47 (after_digits r)) f.3 ∙ ap (after_byte 47) (after_digits_of_append f.0 f.1 f.2.1 f.4) ∙ f.5 in
    ap (shape_after (item_text c)) no_s ∙ ap (λ o. mark_after false (leading_digits (item_text c)) o (JustItem (cells_of (item_text c)))) no_slash

marked_of-cells : (m : Mark) (c : ItemText) → IsItemText c → marked_of m (item_text c) ≡ MarkItem m (cells_of (item_text c))
marked_of-cells m (OneCell []) h = absurd (omega (arith, h.0))
marked_of-cells m (OneCell (d ∷ a)) h = refl
marked_of-cells m (CellRange [] b) h = absurd (omega (arith, h.0.0))
marked_of-cells m (CellRange (d ∷ a) b) h = refl

pub shape_of-text : (s : Shape) → IsShape s → shape_of (shape_text s) ≡ s
shape_of-text (JustMark m) h = shape_of-mark m.prefixed m.order [] h
shape_of-text (JustItem c) h = shape_of-cells c h ∙ ap (λ (d : ItemText). JustItem d) (cells_of-text c h)
shape_of-text (MarkItem m c) h =
    ap shape_of (append_assoc (mark_prefix m.prefixed ++ m.order) (47 ∷ []) (item_text c))
    ∙ shape_of-mark m.prefixed m.order (item_text c) h.0
    ∙ marked_of-cells m c h.1
    ∙ ap (λ (d : ItemText). MarkItem m d) (cells_of-text c h.1)

pub numbers_are_unique : (w : Word) (m n : WordNumbers) → HasNumbers w m → HasNumbers w n → m ≡ n
numbers_are_unique w m n x y =
    let e : x.0 ≡ y.0 = sym (shape_of-text x.0 x.1) ∙ ap shape_of (sym x.2 ∙ y.2) ∙ shape_of-text y.0 y.1 in
    x.3 ∙ ap (numbers_at w.at) e ∙ sym y.3

-- ---- a word has at most one error

same_parts : (p q x y : List ℕ) → p ++ x ≡ q ++ y → length p ≡ length q → (p ≡ q) × (x ≡ y)
same_parts [] [] x y e n = (refl, e)
same_parts [] (c ∷ q) x y e n = absurd (omega (arith, n))
same_parts (b ∷ p) [] x y e n = absurd (omega (arith, n))
same_parts (b ∷ p) (c ∷ q) x y e n =
    let h : b ≡ c = cc in
    let t : p ++ x ≡ q ++ y = cc in
    let k = same_parts p q x y t (omega (arith, n)) in
    (ap (λ n. n ∷ p) h ∙ ap (λ (r : List ℕ). c ∷ r) k.0, k.1)

shape_error_is_unique_at : (at : ℕ) (p rest : List ℕ) (f g : TextError) → ShapeErrorAt at p rest f → ShapeErrorAt at p rest g → f ≡ g
shape_error_is_unique_at at p [] f g x y = x.1 ∙ sym y.1
shape_error_is_unique_at at p (b ∷ rest) f g x y = x ∙ sym y

shape_error_is_unique : (w : Word) (f g : TextError) → HasShapeError w f → HasShapeError w g → f ≡ g
shape_error_is_unique w f g x y =
    let n : length x.0 ≡ length y.0 = omega (arith, x.2.longest y.0 y.1 y.2.parts y.2.begins, y.2.longest x.0 x.1 x.2.parts x.2.begins) in
    let k = same_parts x.0 y.0 x.1 y.1 (sym x.2.parts ∙ y.2.parts) n in
    shape_error_is_unique_at w.at y.0 y.1 f g (subst (λ (r : List ℕ). ShapeErrorAt w.at y.0 r f) k.1 (subst (λ (p : List ℕ). ShapeErrorAt w.at p x.1 f) k.0 x.3)) y.3

valid_word_has_no_error : (w : Word) (p rest : List ℕ) (f : TextError) → w.bytes ≡ p ++ rest → length w.bytes ≤ length p → IsValid w.bytes → ShapeErrorAt w.at p rest f → ⊥
valid_word_has_no_error w p [] f e le h x = x.0 (subst IsValid (e ∙ append-nil p) h)
valid_word_has_no_error w p (b ∷ rest) f e le h x = omega (arith, ap length e, length-append p (b ∷ rest))

numbers_exclude_shape_error : (w : Word) (n : WordNumbers) (f : TextError) → HasNumbers w n → HasShapeError w f → ⊥
numbers_exclude_shape_error w n f m x =
    let is_valid_shape : IsValid w.bytes = (m.0, m.1, m.2) in
    let itself : IsValid (w.bytes ++ []) = (m.0, m.1, append-nil w.bytes ∙ m.2) in
    valid_word_has_no_error w x.0 x.1 f x.2.parts (x.2.longest w.bytes [] (sym (append-nil w.bytes)) ([], itself)) is_valid_shape x.3

numbers_exclude_error : (before : Option ℕ) (w : Word) (n : WordNumbers) (f : TextError) → HasNumbers w n → error_of before w.at n ≡ None → IsError before w f → ⊥
numbers_exclude_error before w n f m none (inl x) = numbers_exclude_shape_error w n f m x
numbers_exclude_error before w n f m none (inr x) =
    let e : n ≡ x.0 = numbers_are_unique w n x.0 m x.1 in
    let z : None ≡ Some f = sym none ∙ ap (error_of before w.at) e ∙ x.2 in
    absurd cc

error_is_unique : (before : Option ℕ) (w : Word) (f g : TextError) → IsError before w f → IsError before w g → f ≡ g
error_is_unique before w f g (inl x) (inl y) = shape_error_is_unique w f g x y
error_is_unique before w f g (inl x) (inr y) = absurd (numbers_exclude_shape_error w y.0 f y.1 x)
error_is_unique before w f g (inr x) (inl y) = absurd (numbers_exclude_shape_error w x.0 g x.1 y)
error_is_unique before w f g (inr x) (inr y) =
    let e : x.0 ≡ y.0 = numbers_are_unique w x.0 y.0 x.1 y.1 in
    let z : Some f ≡ Some g = sym x.2 ∙ ap (error_of before w.at) e ∙ y.2 in
    cc

-- ---- a text has one meaning

readings_are_equal : (before : Option ℕ) (ws : List Word) (ms ns : List WordNumbers) → AreNumbersOf before ws ms → AreNumbersOf before ws ns → ms ≡ ns
readings_are_equal before [] [] [] x y = refl
readings_are_equal before [] [] (n ∷ ns) x y = absurd y
readings_are_equal before [] (m ∷ ms) ns x y = absurd x
readings_are_equal before (w ∷ ws) [] ns x y = absurd x
readings_are_equal before (w ∷ ws) (m ∷ ms) [] x y = absurd y
readings_are_equal before (w ∷ ws) (m ∷ ms) (n ∷ ns) x y =
    let e : m ≡ n = numbers_are_unique w m n x.0 y.0 in
    let t : ms ≡ ns = readings_are_equal (current_order before n.mark) ws ms ns (subst (λ (k : WordNumbers). AreNumbersOf (current_order before k.mark) ws ms) e x.2) y.2 in
    ap (λ (k : WordNumbers). k ∷ ms) e ∙ ap (λ (r : List WordNumbers). n ∷ r) t

read_words_exclude_error : (before : Option ℕ) (good : List Word) (w : Word) (others : List Word) (ms ns : List WordNumbers) (f : TextError) → AreNumbersOf before (good ++ w ∷ others) ns → AreNumbersOf before good ms → IsError (order_after before ms) w f → ⊥
read_words_exclude_error before [] w others [] [] f x y z = x
read_words_exclude_error before [] w others [] (n ∷ ns) f x y z = numbers_exclude_error before w n f x.0 x.1 z
read_words_exclude_error before [] w others (m ∷ ms) ns f x y z = y
read_words_exclude_error before (v ∷ good) w others [] ns f x y z = y
read_words_exclude_error before (v ∷ good) w others (m ∷ ms) [] f x y z = x
read_words_exclude_error before (v ∷ good) w others (m ∷ ms) (n ∷ ns) f x y z =
    let e : m ≡ n = numbers_are_unique v m n y.0 x.0 in
    read_words_exclude_error (current_order before n.mark) good w others ms ns f x.2 (subst (λ (k : WordNumbers). AreNumbersOf (current_order before k.mark) good ms) e y.2) (subst (λ (k : WordNumbers). IsError (order_after (current_order before k.mark) ms) w f) e z)

first_error_is_unique_in_word : (before : Option ℕ) (a b : List Word) (v w : Word) (x y : List Word) (ms ns : List WordNumbers) (f g : TextError) → a ++ v ∷ x ≡ b ++ w ∷ y → AreNumbersOf before a ms → AreNumbersOf before b ns → IsError (order_after before ms) v f → IsError (order_after before ns) w g → f ≡ g
first_error_is_unique_in_word before [] [] v w x y [] [] f g e ra rb p q =
    let h : v ≡ w = cc in
    error_is_unique before w f g (subst (λ (k : Word). IsError before k f) h p) q
first_error_is_unique_in_word before [] [] v w x y (m ∷ ms) ns f g e ra rb p q = absurd ra
first_error_is_unique_in_word before [] [] v w x y [] (n ∷ ns) f g e ra rb p q = absurd rb
first_error_is_unique_in_word before [] (c ∷ b) v w x y (m ∷ ms) ns f g e ra rb p q = absurd ra
first_error_is_unique_in_word before [] (c ∷ b) v w x y [] [] f g e ra rb p q = absurd rb
first_error_is_unique_in_word before [] (c ∷ b) v w x y [] (n ∷ ns) f g e ra rb p q =
    let h : v ≡ c = cc in
    absurd (numbers_exclude_error before c n f rb.0 rb.1 (subst (λ (k : Word). IsError before k f) h p))
first_error_is_unique_in_word before (c ∷ a) [] v w x y ms (n ∷ ns) f g e ra rb p q = absurd rb
first_error_is_unique_in_word before (c ∷ a) [] v w x y [] [] f g e ra rb p q = absurd ra
first_error_is_unique_in_word before (c ∷ a) [] v w x y (m ∷ ms) [] f g e ra rb p q =
    let h : w ≡ c = cc in
    absurd (numbers_exclude_error before c m g ra.0 ra.1 (subst (λ (k : Word). IsError before k g) h q))
first_error_is_unique_in_word before (c ∷ a) (d ∷ b) v w x y [] ns f g e ra rb p q = absurd ra
first_error_is_unique_in_word before (c ∷ a) (d ∷ b) v w x y (m ∷ ms) [] f g e ra rb p q = absurd rb
first_error_is_unique_in_word before (c ∷ a) (d ∷ b) v w x y (m ∷ ms) (n ∷ ns) f g e ra rb p q =
    let h : c ≡ d = cc in
    let t : a ++ v ∷ x ≡ b ++ w ∷ y = cc in
    let k : m ≡ n = numbers_are_unique d m n (subst (λ (z : Word). HasNumbers z m) h ra.0) rb.0 in
    first_error_is_unique_in_word (current_order before n.mark) a b v w x y ms ns f g t (subst (λ (z : WordNumbers). AreNumbersOf (current_order before z.mark) a ms) k ra.2) rb.2 (subst (λ (z : WordNumbers). IsError (order_after (current_order before z.mark) ms) v f) k p) q

pub set_is_unique : (text : List ℕ) (a b : NumberSet) (j k : Option ℕ) → Represents text a j → Represents text b k → (a ≡ b) × (j ≡ k)
set_is_unique text a b j k x y =
    let e : x.numbers ≡ y.numbers = readings_are_equal None (words text) x.numbers y.numbers x.read y.read in
    (x.set_is ∙ ap (pixels_of_words None) e ∙ sym y.set_is, x.moc_order_is ∙ ap deepest_of e ∙ sym y.moc_order_is)

pub first_error_is_unique : (text : List ℕ) (f g : TextError) → IsFirstError text f → IsFirstError text g → f ≡ g
first_error_is_unique text f g x y = first_error_is_unique_in_word None x.good y.good x.bad y.bad x.others y.others x.numbers y.numbers f g (sym x.parts ∙ y.parts) x.before y.before x.fault y.fault

pub value_excludes_error : (text : List ℕ) (a : NumberSet) (k : Option ℕ) (f : TextError) → Represents text a k → IsFirstError text f → ⊥
value_excludes_error text a k f x y = read_words_exclude_error None y.good y.bad y.others y.numbers x.numbers f (subst (λ (ws : List Word). AreNumbersOf None ws x.numbers) y.parts x.read) y.before y.fault
