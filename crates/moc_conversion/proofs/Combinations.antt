-- How a combination changes with the bytes that it processes.
use Rattle.std.proofs.Common.{◌≡◌, ◌≤◌, ◌<◌, ◌+◌, ◌-◌, ◌∙◌, ◌⊎◌, inl, inr, ℕ, zero, suc, Bool, true, false, List, [], ◌∷◌, ◌++◌, Option, None, Some, Result, Ok, Err, arith, length, refl, sym, ap, subst, append_assoc, append-nil, length-append}
use Rattle.std.specs.Prelude.{◌==◌, if◌then◌else◌, slice_index_or, IfErr, IsErrAnd, is_some}
use Rattle.std.specs.Char.{is_ascii_digit}
use Rattle.std.specs.List.{AllByRecursion, list_any, onto_first}
use Rattle.std.specs.Option.{option_or}
use Rattle.std.proofs.Common.{ap₂}
use Rattle.std.proofs.lemmas.List.Elements.{All-append, All-head, All-tail}
use Rattle.std.proofs.lemmas.List.Splits.{slice_split-cons_no, slice_split_at, slice_split_none, length-slice_split}
use Rattle.moc_devices.specs.Lemmas.{Delivers-trans}
use Rattle.moc_devices.specs.Devices.{SourceState, Delivers, IsEnded}
use Rattle.moc_forms.specs.Combining.{CombinesTexts, TextRepresents, are_blanks, combine_next, texts_among, texts_of}
use Rattle.moc_forms.specs.declared.combining.ParsedCoverage.{ParsedCoverage}
use Rattle.moc_forms.specs.Combining.{without_blank_end}
use Rattle.moc_text.specs.Lines.{is_semicolon, pieces_of}
use Rattle.moc_forms.specs.Finding.{format_for}
use Rattle.moc_forms.specs.declared.combining.Operation.{Operation}
use Rattle.moc_forms.specs.declared.finding.FormatChoice.{FormatChoice}
use Rattle.moc_conversion.specs.Combining.{FailsCombining, IsLongPiece, IsNotCombined, count_limit, FailsReadingTexts, IsInputCombination, ReportsFirstError}
use Rattle.moc_conversion.specs.Private.Pieces.{ReadsPiece, HasNoSemicolon, semicolon}
use Rattle.moc_conversion.specs.Conversion.{ReportsError, input_limit}
use Rattle.moc_conversion.specs.Notes.{AreNotesOn, combine_notes, first_without_cells}
use Rattle.moc_conversion.specs.Private.Running.{AreRejected, BeginsCombination, EndsCombination, FailsCombination, FailsWithin, IsLong, IsOpen, Processes, CombinesNext, RunsTo, TextsCombine, finished_without_cells, notes_after, notes_of, texts_after, texts_notes}
use Rattle.moc_conversion.specs.declared.combination.Combination.{Combination}
use Rattle.moc_conversion.specs.declared.error.InputError.{InputError}
use Rattle.moc_conversion.specs.declared.error.InputError.TheVariants.{Memory, TooLong}
use Rattle.moc_conversion.specs.declared.notes.Notes.{Notes}

-- ---- the texts of bytes

-- no text is too long
abbrev AreWithin : List (List ℕ) → Type 0
AreWithin texts = AllByRecursion (λ text. length text ≤ input_limit) texts

-- a part before others is a text
first_item_unchanged : (text : List ℕ) (parts : List (List ℕ)) → 0 < length parts → without_blank_end (text ∷ parts) ≡ text ∷ without_blank_end parts
first_item_unchanged text [] some = absurd (omega arith)
first_item_unchanged text (next ∷ parts) some = refl

-- what a semicolon ends is a text, and blanks after the last one are not
pub split_at_semicolon : (before : Option ParsedCoverage) (text rest : List ℕ) → HasNoSemicolon text → texts_after before (text ++ 59 ∷ rest) ≡ text ∷ without_blank_end (pieces_of rest)
split_at_semicolon None text rest no_semicolon = ap texts_among (slice_split_at is_semicolon text 59 rest no_semicolon refl)
split_at_semicolon (Some parsed) text rest no_semicolon =
    ap without_blank_end (slice_split_at is_semicolon text 59 rest no_semicolon refl)
    ∙ first_item_unchanged text (pieces_of rest) (omega (arith, length-slice_split is_semicolon rest))

-- bytes without a semicolon are one text, unless they are blanks after a semicolon
texts_after_single : (parsed : ParsedCoverage) (text : List ℕ) → HasNoSemicolon text → texts_after (Some parsed) text ≡ (if are_blanks text then [] else text ∷ [])
texts_after_single parsed text no_semicolon = ap without_blank_end (slice_split_none is_semicolon text no_semicolon)

pub text_without_semicolon : (before : Option ParsedCoverage) (text : List ℕ) → HasNoSemicolon text → (before ≡ None) ⊎ (are_blanks text ≡ false) → texts_after before text ≡ text ∷ []
text_without_semicolon None text no_semicolon why = ap texts_among (slice_split_none is_semicolon text no_semicolon)
text_without_semicolon (Some parsed) text no_semicolon (inl is_none) = absurd (cc)
text_without_semicolon (Some parsed) text no_semicolon (inr written) = texts_after_single parsed text no_semicolon ∙ ap (λ b. if b then [] else text ∷ []) written

module _ (operation : Operation) (choice : FormatChoice) (before : Option ParsedCoverage) (text : List ℕ) (parsed : ParsedCoverage)
    (no_semicolon : HasNoSemicolon text) (within : length text ≤ input_limit) (represents : TextRepresents choice text parsed) where
  -- a text that a semicolon ends is valid, and the texts after it continue from there
  text_before_semicolon : (rest : List ℕ) (after : Option ParsedCoverage) → TextsCombine operation choice (Some (combine_next operation before parsed)) rest after
      → TextsCombine operation choice before (text ++ 59 ∷ rest) after
  text_before_semicolon rest after later = record {
    represents = subst (λ texts. CombinesTexts operation choice before texts after) (sym (split_at_semicolon before text rest no_semicolon)) (parsed, represents, later.represents);
    within = subst AreWithin (sym (split_at_semicolon before text rest no_semicolon)) (within, later.within);
  }

  -- and the last text too
  last : texts_after before text ≡ text ∷ [] → TextsCombine operation choice before text (Some (combine_next operation before parsed))
  last one = record {
    represents = subst (λ texts. CombinesTexts operation choice before texts (Some (combine_next operation before parsed))) (sym one) (parsed, represents, refl);
    within = subst AreWithin (sym one) (within, tt);
  }

-- one more valid text before the invalid one
later_fails : (number : ℕ) (choice : FormatChoice) (text : List ℕ) (texts : List (List ℕ)) (c : InputError) → ((parsed : ParsedCoverage) × TextRepresents choice text parsed)
    → ReportsFirstError (number + 1) choice texts c → ReportsFirstError number choice (text ∷ texts) c
later_fails number choice text texts c represents fails = record {
  before = suc fails.before;
  text = fails.text;
  follows_valid = (represents, fails.follows_valid);
  reports = subst (λ n. ReportsError (format_for choice fails.text) fails.text (Some n) c) (omega arith) fails.reports;
}

-- the first text is invalid
first_fails : (number : ℕ) (choice : FormatChoice) (text : List ℕ) (texts : List (List ℕ)) (c : InputError) → ReportsError (format_for choice text) text (Some number) c
    → ReportsFirstError number choice (text ∷ texts) c
first_fails number choice text texts c diagnoses = record {
  before = zero;
  text = text;
  follows_valid = refl;
  reports = subst (λ n. ReportsError (format_for choice text) text (Some n) c) (omega arith) diagnoses;
}

-- ---- bytes that are too long

-- the first part has all bytes before the first semicolon
first_part : (front rest : List ℕ) → HasNoSemicolon front
    → (part : List ℕ) × (more : List (List ℕ)) × (pieces_of (front ++ rest) ≡ part ∷ more) × (length front ≤ length part)
first_part [] rest no_semicolon = by (pieces_of rest) _ refl (length-slice_split is_semicolon rest)
  where
    by : (parts : List (List ℕ)) (n : ℕ) → pieces_of rest ≡ parts → length parts ≡ n + 1
        → (part : List ℕ) × (more : List (List ℕ)) × (pieces_of rest ≡ part ∷ more) × (0 ≤ length part)
    by [] n none some = absurd (omega (arith, some))
    by (part ∷ more) n is some = (part, more, is, omega arith)
first_part (b ∷ front) rest no_semicolon =
    let following = first_part front rest (All-tail (λ x. is_semicolon x ≡ false) b front no_semicolon) in (
      b ∷ following.0,
      following.1,
      slice_split-cons_no is_semicolon b (front ++ rest) (All-head (λ x. is_semicolon x ≡ false) b front no_semicolon) ∙ ap (onto_first b) following.2,
      omega (arith, following.3),
    )

-- the piece at this index, counted from 0, is longer than a text may be
abbrev IsLongAt : ℕ → List ℕ → Type 0
IsLongAt k bytes = input_limit < length (slice_index_or (pieces_of bytes) k [])

-- the first piece is too long if these bytes begin it
pub long_front : (front rest : List ℕ) → HasNoSemicolon front → input_limit < length front → IsLongAt 0 (front ++ rest)
long_front front rest no_semicolon long =
    let first = first_part front rest no_semicolon in
    subst (λ (parts : List (List ℕ)). input_limit < length (slice_index_or parts 0 [])) (sym first.2) (omega (arith, long, first.3))

-- a piece after a semicolon is the next one
long_after : (text rest : List ℕ) (k : ℕ) → HasNoSemicolon text → IsLongAt k rest → IsLongAt (suc k) (text ++ 59 ∷ rest)
long_after text rest k no_semicolon long =
    subst (λ (parts : List (List ℕ)). input_limit < length (slice_index_or parts (suc k) [])) (sym (slice_split_at is_semicolon text 59 rest no_semicolon refl)) long

-- ---- notes

-- the next number is 2 exactly if this one is 1
next_is_2 : (n : ℕ) → (n + 1 == 2) ≡ (n == 1)
next_is_2 n = grind arith

or_none : (o : Option ℕ) → option_or o None ≡ o
or_none None = refl
or_none (Some n) = refl

-- one more text before the others
notes_of_next : (number : ℕ) (before : Option ℕ) (text : List ℕ) (texts : List (List ℕ))
    → texts_notes (number + 1) (option_or before (if list_any is_ascii_digit text then None else Some number)) texts ≡ texts_notes number before (text ∷ texts)
notes_of_next number before text texts =
    let count : (number + 1) + length texts ≡ number + length (text ∷ texts) = omega arith in
    ap₂ notes_of (ap (λ n. n == 2) count) (cells before (list_any is_ascii_digit text))
  where
    cells : (o : Option ℕ) (some : Bool)
        → option_or (option_or o (if some then None else Some number)) (first_without_cells (number + 1) texts) ≡ option_or o (if some then first_without_cells (number + 1) texts else Some number)
    cells (Some n) some = refl
    cells None true = refl
    cells None false = refl

-- the notes if the text ends here, and counts as a text
notes_on_last : (c : Combination) → IsOpen c → (c.before ≡ None) ⊎ (are_blanks c.text.items ≡ false) → notes_of (c.number == 1) (finished_without_cells c) ≡ notes_after c []
notes_on_last c opened why =
    ap₂ notes_of (sym (next_is_2 c.number) ∙ ap (λ n. n == 2) (omega arith)) (sym (or_none (finished_without_cells c)))
    ∙ notes_of_next c.number c.text_without_cells c.text.items []
    ∙ ap (texts_notes c.number c.text_without_cells)
    (sym (text_without_semicolon c.before c.text.items opened.no_semicolon why) ∙ ap (texts_after c.before) (sym (append-nil c.text.items)))

none_before : (o : Option ParsedCoverage) → is_some o ≡ false → o ≡ None
none_before None none = refl
none_before (Some before) none = absurd cc

pub notes_with_last : (c : Combination) → IsOpen c → (is_some c.before ≡ false) ⊎ (are_blanks c.text.items ≡ false) → notes_of (c.number == 1) (finished_without_cells c) ≡ notes_after c []
notes_with_last c opened (inl none) = notes_on_last c opened (inl (none_before c.before none))
notes_with_last c opened (inr written) = notes_on_last c opened (inr written)

-- blanks after the last semicolon do not count
notes_before_blanks : (c : Combination) (before : ParsedCoverage) → IsOpen c → c.before ≡ Some before → are_blanks c.text.items ≡ true → notes_of (c.number == 2) c.text_without_cells ≡ notes_after c []
notes_before_blanks c before opened is blank =
    ap₂ notes_of (ap (λ n. n == 2) (omega arith)) (sym (or_none c.text_without_cells))
    ∙ ap (texts_notes c.number c.text_without_cells)
    (sym (texts_after_single before c.text.items opened.no_semicolon ∙ ap (λ b. if b then [] else c.text.items ∷ []) blank)
    ∙ ap (λ o. texts_after o c.text.items) (sym is) ∙ ap (texts_after c.before) (sym (append-nil c.text.items)))

pub notes_without_last : (c : Combination) → IsOpen c → is_some c.before ≡ true → are_blanks c.text.items ≡ true → notes_of (c.number == 2) c.text_without_cells ≡ notes_after c []
notes_without_last c opened some blank = at c.before refl some
  where
    at : (o : Option ParsedCoverage) → c.before ≡ o → is_some o ≡ true → notes_of (c.number == 2) c.text_without_cells ≡ notes_after c []
    at None is some = absurd cc
    at (Some before) is some = notes_before_blanks c before opened is blank

-- ---- a combination

module _ (c d : Combination) (same_operation : d.operation ≡ c.operation) (same_choice : d.choice ≡ c.choice) (next : d.number ≡ c.number + 1) where
  -- a combination that has finished its text
  finishes_own_text : (after : ParsedCoverage) → IsOpen c → CombinesNext c c.before after → d.text.items ≡ [] → d.text_without_cells ≡ finished_without_cells c → d.before ≡ Some after
      → Processes c semicolon d
  finishes_own_text after opened more bare cells before = record {
    operation = same_operation;
    choice = same_choice;
    ends = λ rest end later.
        text_before_semicolon c.operation c.choice c.before c.text.items more.0 opened.no_semicolon opened.within more.1 rest end
        (subst (λ o. TextsCombine o c.choice (Some (combine_next c.operation c.before more.0)) rest end) same_operation
        (subst (λ f. TextsCombine d.operation f (Some (combine_next c.operation c.before more.0)) rest end) same_choice
        (subst (λ b. TextsCombine d.operation d.choice b rest end) (before ∙ ap (λ s. Some s) more.2)
        (subst (λ t. TextsCombine d.operation d.choice d.before (t ++ rest) end) bare later))));
    fails = λ rest error later.
        subst (λ texts. ReportsFirstError c.number c.choice texts error) (sym (split_at_semicolon c.before c.text.items rest opened.no_semicolon))
        (later_fails c.number c.choice c.text.items (without_blank_end (pieces_of rest)) error (more.0, more.1)
        (subst (λ n. ReportsFirstError n c.choice (without_blank_end (pieces_of rest)) error) next
        (subst (λ f. ReportsFirstError d.number f (without_blank_end (pieces_of rest)) error) same_choice
        (subst (λ b. ReportsFirstError d.number d.choice (texts_after b rest) error) before
        (subst (λ t. ReportsFirstError d.number d.choice (texts_after d.before (t ++ rest)) error) bare later)))));
    longer = λ rest number long. elim long [
      | inl piece ↦ inl (
        suc piece.0,
        omega (arith, piece.1, next),
        long_after c.text.items rest piece.0 opened.no_semicolon (subst (λ t. IsLongAt piece.0 (t ++ rest)) bare piece.2),
      )
      | inr many ↦ inr (omega (arith, many, next))
    ];
    notes = λ rest.
        ap (λ t. texts_notes d.number d.text_without_cells (texts_after d.before (t ++ rest))) bare
        ∙ ap (λ b. texts_notes d.number d.text_without_cells (texts_after b rest)) before
        ∙ ap₂ (λ n o. texts_notes n o (without_blank_end (pieces_of rest))) next cells
        ∙ notes_of_next c.number c.text_without_cells c.text.items (without_blank_end (pieces_of rest))
        ∙ ap (texts_notes c.number c.text_without_cells) (sym (split_at_semicolon c.before c.text.items rest opened.no_semicolon));
  }

  pub finishes_text : (before : Option ParsedCoverage) (after : ParsedCoverage) → before ≡ c.before → IsOpen c → CombinesNext c before after → d.text.items ≡ []
      → d.text_without_cells ≡ finished_without_cells c → d.before ≡ Some after → Processes c semicolon d
  finishes_text before after same opened more bare cells next_before =
      finishes_own_text after opened (subst (λ b. CombinesNext c b after) same more) bare cells next_before

-- a text that a semicolon ends is invalid
pub finished_text_fails : (c : Combination) (error : InputError) → IsOpen c → (error ≡ Memory) ⊎ ReportsError (format_for c.choice c.text.items) c.text.items (Some c.number) error
    → AreRejected c semicolon error ⊎ FailsWithin c semicolon error
finished_text_fails c error opened (inl memory) = inl (inl memory)
finished_text_fails c error opened (inr diagnoses) = inr (λ rest.
    subst (λ texts. ReportsFirstError c.number c.choice texts error) (sym (split_at_semicolon c.before c.text.items rest opened.no_semicolon))
    (first_fails c.number c.choice c.text.items (without_blank_end (pieces_of rest)) error diagnoses))

-- the last text is invalid
pub last_fails : (c : Combination) (error : InputError) → IsOpen c → (c.before ≡ None) ⊎ (are_blanks c.text.items ≡ false)
    → (error ≡ Memory) ⊎ ReportsError (format_for c.choice c.text.items) c.text.items (Some c.number) error → (error ≡ Memory) ⊎ FailsCombination c [] error
last_fails c error opened why (inl memory) = inl memory
last_fails c error opened why (inr diagnoses) = inr (
    subst (λ t. ReportsFirstError c.number c.choice (texts_after c.before t) error) (sym (append-nil c.text.items))
    (subst (λ texts. ReportsFirstError c.number c.choice texts error) (sym (text_without_semicolon c.before c.text.items opened.no_semicolon why))
    (first_fails c.number c.choice c.text.items [] error diagnoses)))

-- the last text is valid
last_combines : (c : Combination) (after : ParsedCoverage) → IsOpen c → (c.before ≡ None) ⊎ (are_blanks c.text.items ≡ false) → CombinesNext c c.before after → EndsCombination c [] (Some after)
last_combines c after opened why more =
    subst (λ t. TextsCombine c.operation c.choice c.before t (Some after)) (sym (append-nil c.text.items))
    (subst (λ s. TextsCombine c.operation c.choice c.before c.text.items (Some s)) (sym more.2)
    (last c.operation c.choice c.before c.text.items more.0 opened.no_semicolon opened.within more.1 (text_without_semicolon c.before c.text.items opened.no_semicolon why)))

pub last_valid : (c : Combination) (before : Option ParsedCoverage) (after : ParsedCoverage) → before ≡ c.before → IsOpen c → (c.before ≡ None) ⊎ (are_blanks c.text.items ≡ false)
    → CombinesNext c before after → EndsCombination c [] (Some after)
last_valid c before after same opened why more = last_combines c after opened why (subst (λ b. CombinesNext c b after) same more)

-- blanks after the last semicolon add nothing
pub blanks_are_ignored : (c : Combination) (after : ParsedCoverage) → IsOpen c → c.before ≡ Some after → are_blanks c.text.items ≡ true → EndsCombination c [] (Some after)
blanks_are_ignored c after opened before blank =
    let none : texts_after (Some after) c.text.items ≡ [] =
    texts_after_single after c.text.items opened.no_semicolon ∙ ap (λ b. if b then [] else c.text.items ∷ []) blank in
    subst (λ t. TextsCombine c.operation c.choice c.before t (Some after)) (sym (append-nil c.text.items))
    (subst (λ b. TextsCombine c.operation c.choice b c.text.items (Some after)) (sym before)
    (record {
      represents = subst (λ texts. CombinesTexts c.operation c.choice (Some after) texts (Some after)) (sym none) refl;
      within = subst AreWithin (sym none) tt;
    }))

-- no bytes change nothing
pub processes_none : (c : Combination) → Processes c [] c
processes_none c = record {
  operation = refl;
  choice = refl;
  ends = λ rest after end. end;
  fails = λ rest error fails. fails;
  longer = λ rest number long. long;
  notes = λ rest. refl;
}

-- one step after another
pub processes_both : (a b c : Combination) (xs ys : List ℕ) → Processes a xs b → Processes b ys c → Processes a (xs ++ ys) c
processes_both a b c xs ys first second = record {
  operation = second.operation ∙ first.operation;
  choice = second.choice ∙ first.choice;
  ends = λ rest after end.
      subst (λ bytes. EndsCombination a bytes after) (sym (append_assoc xs ys rest))
      (first.ends (ys ++ rest) after (second.ends rest after end));
  fails = λ rest error fails.
      subst (λ bytes. FailsCombination a bytes error) (sym (append_assoc xs ys rest))
      (first.fails (ys ++ rest) error (second.fails rest error fails));
  longer = λ rest number long. subst (λ bytes. IsLong a bytes number) (sym (append_assoc xs ys rest)) (first.longer (ys ++ rest) number (second.longer rest number long));
  notes = λ rest. second.notes rest ∙ first.notes (ys ++ rest) ∙ ap (notes_after a) (sym (append_assoc xs ys rest));
}

-- bytes without a semicolon are appended to the text
pub processes_appended : (c d : Combination) (bytes : List ℕ) → d.operation ≡ c.operation → d.choice ≡ c.choice → d.number ≡ c.number → d.text_without_cells ≡ c.text_without_cells → d.before ≡ c.before
    → d.text.items ≡ c.text.items ++ bytes → Processes c bytes d
processes_appended c d bytes operation choice number cells before text = record {
  operation = operation;
  choice = choice;
  ends = λ rest after end.
      subst (λ t. TextsCombine c.operation c.choice c.before t after) (following rest)
      (subst (λ b. TextsCombine c.operation c.choice b (d.text.items ++ rest) after) before
      (subst (λ f. TextsCombine c.operation f d.before (d.text.items ++ rest) after) choice
      (subst (λ o. TextsCombine o d.choice d.before (d.text.items ++ rest) after) operation end)));
  fails = λ rest error fails.
      subst (λ t. ReportsFirstError c.number c.choice (texts_after c.before t) error) (following rest)
      (subst (λ b. ReportsFirstError c.number c.choice (texts_after b (d.text.items ++ rest)) error) before
      (subst (λ f. ReportsFirstError c.number f (texts_after d.before (d.text.items ++ rest)) error) choice
      (subst (λ n. ReportsFirstError n d.choice (texts_after d.before (d.text.items ++ rest)) error) number fails)));
  longer = λ rest n long. elim long [
    | inl piece ↦ inl (piece.0, omega (arith, piece.1, number), subst (IsLongAt piece.0) (following rest) piece.2)
    | inr many ↦ inr (omega (arith, many, number, length-append bytes rest))
  ];
  notes = λ rest.
      ap₂ (λ n o. texts_notes n o (texts_after d.before (d.text.items ++ rest))) number cells
      ∙ ap₂ (λ b t. texts_notes c.number c.text_without_cells (texts_after b t)) before (following rest);
}
  where
    following : (rest : List ℕ) → d.text.items ++ rest ≡ c.text.items ++ (bytes ++ rest)
    following rest = ap (λ t. t ++ rest) text ∙ append_assoc c.text.items bytes rest

-- bytes that make the text too long are rejected
pub too_long : (c : Combination) (bytes : List ℕ) (error : InputError) → IsOpen c → HasNoSemicolon bytes → input_limit < length c.text.items + length bytes
    → error ≡ TooLong (Some c.number) → AreRejected c bytes error
too_long c bytes error opened no_semicolon long reports =
    let all : HasNoSemicolon (c.text.items ++ bytes) = All-append (λ b. is_semicolon b ≡ false) c.text.items bytes opened.no_semicolon no_semicolon in
    inr (
      c.number,
      reports,
      λ rest. inl (
        0,
        omega arith,
        subst (IsLongAt 0) (append_assoc c.text.items bytes rest)
            (long_front (c.text.items ++ bytes) rest all (omega (arith, long, length-append c.text.items bytes))),
      ),
    )

-- a text whose number does not fit is not finished
pub too_many : (c : Combination) (error : InputError) → count_limit ≤ c.number → error ≡ TooLong (Some c.number) → AreRejected c semicolon error
too_many c error many reports = inr (c.number, reports, λ rest. inr (omega (arith, many)))

-- bytes after processed ones are rejected
pub rejected_later : (a b : Combination) (xs ys following : List ℕ) (error : InputError) → Processes a xs b → AreRejected b ys error → AreRejected a (xs ++ (ys ++ following)) error
rejected_later a b xs ys following error processes (inl memory) = inl memory
rejected_later a b xs ys following error processes (inr (number, reports, long)) = inr (
  number,
  reports,
  λ rest.
      subst (λ bytes. IsLong a bytes number) (ap (λ more. xs ++ more) (sym (append_assoc ys following rest)) ∙ sym (append_assoc xs (ys ++ following) rest))
      (processes.longer (ys ++ (following ++ rest)) number (long (following ++ rest))),
)

-- an error after processed bytes
pub fails_later : (a b : Combination) (xs ys following : List ℕ) (error : InputError) → Processes a xs b → AreRejected b ys error ⊎ FailsWithin b ys error
    → AreRejected a (xs ++ (ys ++ following)) error ⊎ FailsWithin a (xs ++ (ys ++ following)) error
fails_later a b xs ys following error processes (inl not) = inl (rejected_later a b xs ys following error processes not)
fails_later a b xs ys following error processes (inr fails) = inr (λ rest.
    subst (λ bytes. FailsCombination a bytes error) (ap (λ more. xs ++ more) (sym (append_assoc ys following rest)) ∙ sym (append_assoc xs (ys ++ following) rest))
    (processes.fails (ys ++ (following ++ rest)) error (fails (following ++ rest))))

-- a new combination, in its result and in its errors
module _ (operation : Operation) (choice : FormatChoice) (c : Combination) (begins : BeginsCombination operation choice c) where
  pub begins_open : IsOpen c
  begins_open = record {
    no_semicolon = subst HasNoSemicolon (sym begins.text) (λ k d below. absurd (omega arith));
    within = subst (λ t. length t ≤ input_limit) (sym begins.text) (omega arith);
  }

  begins_texts : (bytes : List ℕ) → texts_after c.before (c.text.items ++ bytes) ≡ texts_of bytes
  begins_texts bytes = ap (λ b. texts_after b (c.text.items ++ bytes)) begins.before ∙ ap (λ t. texts_of (t ++ bytes)) begins.text

  -- all processed bytes, after the last text
  pub whole : (d : Combination) (bytes : List ℕ) (after : ParsedCoverage) → Processes c bytes d → EndsCombination d [] (Some after) → TextsCombine operation choice None bytes (Some after)
  whole d bytes after processes all =
      let reported = processes.ends [] (Some after) all in
      subst (λ o. TextsCombine o choice None bytes (Some after)) begins.operates
      (subst (λ f. TextsCombine c.operation f None bytes (Some after)) begins.chooses
      (subst (λ b. TextsCombine c.operation c.choice b bytes (Some after)) begins.before
      (subst (λ t. TextsCombine c.operation c.choice c.before t (Some after)) (ap (λ t. t ++ (bytes ++ [])) begins.text ∙ append-nil bytes) reported)))

  -- and for texts that are too long
  pub longer_from_1 : (bytes : List ℕ) (number : ℕ) → IsLong c bytes number → IsLongPiece number bytes ⊎ (count_limit ≤ length bytes)
  longer_from_1 bytes number (inl (k, is, long)) =
      let at : k ≡ number - 1 = omega (arith, is, begins.number) in
      inl (omega (arith, is, begins.number), subst (λ n. IsLongAt n bytes) at (subst (λ t. IsLongAt k (t ++ bytes)) begins.text long))
  longer_from_1 bytes number (inr many) = inr (omega (arith, many, begins.number))

  notes_from_1 : (bytes : List ℕ) → notes_after c bytes ≡ combine_notes bytes
  notes_from_1 bytes =
      ap₂ (λ n o. texts_notes n o (texts_after c.before (c.text.items ++ bytes))) begins.number begins.cells ∙ ap (texts_notes 1 None) (begins_texts bytes)
      ∙ ap (λ b. notes_of b (first_without_cells 1 (texts_of bytes))) (ap (λ n. n == 2) (omega arith) ∙ next_is_2 (length (texts_of bytes)))

  -- the notes on all processed bytes
  pub whole_notes : (d : Combination) (bytes : List ℕ) (notes : Notes) → Processes c bytes d → notes ≡ notes_after d [] → notes ≡ combine_notes bytes
  whole_notes d bytes notes processes are = are ∙ processes.notes [] ∙ ap (notes_after c) (append-nil bytes) ∙ notes_from_1 bytes

  pub fails_from_1 : (bytes : List ℕ) (error : InputError) → FailsCombination c bytes error → ReportsFirstError 1 choice (texts_of bytes) error
  fails_from_1 bytes error fails =
      subst (λ n. ReportsFirstError n choice (texts_of bytes) error) begins.number
      (subst (λ f. ReportsFirstError c.number f (texts_of bytes) error) begins.chooses
      (subst (λ texts. ReportsFirstError c.number c.choice texts error) (begins_texts bytes) fails))

-- why a combination of all bytes failed
module _ (operation : Operation) (choice : FormatChoice) (c : Combination) (begins : BeginsCombination operation choice c) (bytes : List ℕ) where
  -- while the bytes were processed
  pub fails_processing : (error : InputError) → AreRejected c bytes error ⊎ FailsWithin c bytes error → FailsCombining choice bytes error
  fails_processing error (inl (inl memory)) = inl memory
  fails_processing error (inl (inr (number, reports, long))) =
      inr (inl (number, reports, longer_from_1 operation choice c begins bytes number (subst (λ all. IsLong c all number) (append-nil bytes) (long []))))
  fails_processing error (inr fails) =
      inr (inr (subst (λ all. ReportsFirstError 1 choice (texts_of all) error) (append-nil bytes) (fails_from_1 operation choice c begins (bytes ++ []) error (fails []))))

  -- after the last byte
  pub fails_finishing : (d : Combination) (error : InputError) → Processes c bytes d → (error ≡ Memory) ⊎ FailsCombination d [] error → FailsCombining choice bytes error
  fails_finishing d error processes (inl memory) = inl memory
  fails_finishing d error processes (inr fails) =
      inr (inr (subst (λ all. ReportsFirstError 1 choice (texts_of all) error) (append-nil bytes) (fails_from_1 operation choice c begins (bytes ++ []) error (processes.fails [] error fails))))

-- an allocation failure for what is made from the texts of bytes
pub no_memory_combining : {T : Type 0} (r : Result T InputError) (choice : FormatChoice) (bytes : List ℕ)
    → IsErrAnd r (λ e. e ≡ Memory) → IfErr r (FailsCombining choice bytes)
no_memory_combining (Ok v) choice bytes memory = tt
no_memory_combining (Err e) choice bytes memory = inl memory

-- the piece that was read into an empty buffer
module _ (source source' : SourceState) (old new : List ℕ) (some : Bool) (bare : old ≡ []) (brings : ReadsPiece source old source' new some) where
  pub piece_is : Delivers source source' new
  piece_is = subst (Delivers source source') (sym (brings.text ∙ ap (λ o. o ++ brings.piece) bare)) brings.delivers

-- the processed bytes, and a piece after them; there are at least as many bytes as pieces
pub piece_processed : (a b c : SourceState) (start d e : Combination) (piece : List ℕ) (pieces : ℕ) → Delivers b c piece → Processes d piece e → 0 < length piece
    → (runs : RunsTo a b start d) × (pieces ≤ length runs.0) → (runs : RunsTo a c start e) × (pieces + 1 ≤ length runs.0)
piece_processed a b c start d e piece pieces consumed processes some ((processed, (before, processes_none)), counted) = (
  (processed ++ piece, (Delivers-trans a b c processed piece before consumed, processes_both start d e processed piece processes_none processes)),
  omega (arith, some, counted, length-append processed piece),
)

module _ (operation : Operation) (choice : FormatChoice) (a b c : SourceState) (start d : Combination) (piece : List ℕ)
    (begins : BeginsCombination operation choice start) (runs : RunsTo a b start d) (consumed : Delivers b c piece) where
  -- a piece was rejected
  pub piece_rejected : (error : InputError) → AreRejected d piece error → FailsReadingTexts a c error
  piece_rejected error (inl memory) = inr (inl memory)
  piece_rejected error (inr (number, reports, long)) =
      let longer = longer_from_1 operation choice start begins (runs.0 ++ piece) number
      (runs.1.1.longer piece number (subst (λ bytes. IsLong d bytes number) (append-nil piece) (long []))) in
      inr (inr (
        runs.0 ++ piece,
        Delivers-trans a b c runs.0 piece runs.1.0 consumed,
        elim longer [ inl long_piece ↦ inl (number, long_piece, reports) | inr many ↦ inr (Some number, reports, many) ],
      ))

  -- a text was invalid in a piece
  pub piece_fails : (error : InputError) → AreRejected d piece error ⊎ FailsWithin d piece error → IsNotCombined choice a c error
  piece_fails error (inl not) = inl (piece_rejected error not)
  piece_fails error (inr fails) = inr (
    runs.0 ++ piece,
    Delivers-trans a b c runs.0 piece runs.1.0 consumed,
    λ rest at_end.
        subst (λ bytes. ReportsFirstError 1 choice (texts_of bytes) error) (sym (append_assoc runs.0 piece rest))
        (fails_from_1 operation choice start begins (runs.0 ++ (piece ++ rest)) error (runs.1.1.fails (piece ++ rest) error (fails rest))),
  )

  -- the whole input was processed
  module _ (empty : piece ≡ []) (end : IsEnded c) where
    all_delivered : Delivers a c runs.0
    all_delivered = subst (Delivers a c) (ap (λ p. runs.0 ++ p) empty ∙ append-nil runs.0) (Delivers-trans a b c runs.0 piece runs.1.0 consumed)

    pub all_combined : (after : ParsedCoverage) → EndsCombination d [] (Some after) → IsInputCombination operation choice a c after
    all_combined after ends =
        let reported = whole operation choice start begins d runs.0 after runs.1.1 ends in
        (runs.0, all_delivered, (end, reported.within, reported.represents))

    pub all_noted : (notes : Notes) → notes ≡ notes_after d [] → AreNotesOn combine_notes a c notes
    all_noted notes are = (runs.0, all_delivered, (end, whole_notes operation choice start begins d runs.0 notes runs.1.1 are))

    -- the last text was invalid
    pub all_fails : (error : InputError) → (error ≡ Memory) ⊎ FailsCombination d [] error → IsNotCombined choice a c error
    all_fails error (inl memory) = inl (inr (inl memory))
    all_fails error (inr fails) = inr (
      runs.0,
      all_delivered,
      λ rest at_end.
          subst (λ r. ReportsFirstError 1 choice (texts_of (runs.0 ++ r)) error) (sym (at_end end))
          (fails_from_1 operation choice start begins (runs.0 ++ []) error (runs.1.1.fails [] error fails)),
    )
