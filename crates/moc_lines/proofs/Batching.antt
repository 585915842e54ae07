-- The pieces of a line, from the left.
use Rattle.std.proofs.Common.{◌≡◌, ℕ, suc, ◌+◌, ◌<◌, ◌≤◌, Bool, true, false, not, cond, ltb, List, [], ◌∷◌, ◌++◌}
use Rattle.std.proofs.Common.{length, take, drop, Result, Ok, Err, refl, sym, ap, ◌∙◌, arith, append_assoc, ◌⊎◌, inl, inr, ⊎_elim}
use Rattle.std.proofs.lemmas.Bool.{cases_lt, lt-ltb, le-ltb}
use Rattle.std.specs.Result.{is_err, is_ok}
use Rattle.std.specs.List.{count_by, position_or_len, onto_first}
use Rattle.std.proofs.lemmas.List.{drop-drop, take_all}
use Rattle.std.proofs.lemmas.List.Sums.{prefix_len-le-length}
use Rattle.std.proofs.lemmas.List.Splits.{slice_split_first, slice_split-cons_no, length-slice_split}
use Rattle.moc_parts.specs.declared.command.Command.{Command}
use Rattle.moc_lines.specs.Language.{◌>>=◌, piece_command, commands_of, batch_of, ParsesAs}
use Rattle.moc_text.specs.Lines.{is_semicolon, pieces_of}
use Rattle.moc_lines.specs.declared.error.LineError.TheVariants.{TooManyCommands, Memory}
use Rattle.moc_lines.specs.declared.error.LineError.{LineError}

pub pieces-found : (rest : List ℕ) → position_or_len is_semicolon rest < length rest
    → pieces_of rest ≡ take (position_or_len is_semicolon rest) rest ∷ pieces_of (drop 1 (drop (position_or_len is_semicolon rest) rest))
pieces-found rest found =
    slice_split_first is_semicolon rest 0 found ∙ ap (λ l. take (position_or_len is_semicolon rest) rest ∷ pieces_of l) (sym (drop-drop 1 (position_or_len is_semicolon rest) rest))

pub pieces-none : (rest : List ℕ) → length rest ≤ position_or_len is_semicolon rest → pieces_of rest ≡ rest ∷ []
pieces-none [] none = refl
pieces-none (x ∷ rest) none =
    let step : (b : Bool) → is_semicolon x ≡ b → pieces_of (x ∷ rest) ≡ (x ∷ rest) ∷ [] =
    λ b. elim b as (λ v. is_semicolon x ≡ v → pieces_of (x ∷ rest) ≡ (x ∷ rest) ∷ []) [
      | true ↦ λ is. let bad : suc (length rest) ≤ 0 = rw is at none in absurd (omega arith)
      | false ↦ λ is. let within : suc (length rest) ≤ 1 + position_or_len is_semicolon rest = rw is at none in
          slice_split-cons_no is_semicolon x rest is ∙ ap (onto_first x) (pieces-none rest (omega arith))
    ] in
    step (is_semicolon x) refl

pub piece-first : (rest : List ℕ) → (later : List (List ℕ)) × (pieces_of rest ≡ take (position_or_len is_semicolon rest) rest ∷ later)
piece-first rest = ⊎_elim
    (λ found. (pieces_of (drop 1 (drop (position_or_len is_semicolon rest) rest)), pieces-found rest found))
    (λ none. ([], pieces-none rest none ∙ ap (λ l. l ∷ []) (sym (take_all _ rest none))))
    (cases_lt (position_or_len is_semicolon rest) (length rest))

-- a line has a piece
pub some-pieces : (line : List ℕ) → 0 < length (pieces_of line)
some-pieces line = omega (arith, length-slice_split is_semicolon line)

-- one piece more than semicolons
pub pieces-counted : (line : List ℕ) (n : ℕ) → n ≡ count_by is_semicolon line → length (pieces_of line) ≡ n + 1
pieces-counted line n is = omega (arith, length-slice_split is_semicolon line)

-- the pieces after one
pub pieces-last : (rest : List ℕ) (at : ℕ) → at ≡ position_or_len is_semicolon rest → at ≡ length rest → length (pieces_of rest) ≡ 1
pieces-last rest at first none = ap length (pieces-none rest (omega arith))

pub first-within : (line : List ℕ) (at : ℕ) → at ≡ position_or_len is_semicolon line → at ≤ length line
first-within line at first = omega (arith, prefix_len-le-length (λ b. not (is_semicolon b)) line)

pub pieces-next : (rest back next : List ℕ) (at : ℕ) → at ≡ position_or_len is_semicolon rest → at < length rest → back ≡ drop at rest → next ≡ drop 1 back
    → length (pieces_of rest) ≡ suc (length (pieces_of next))
pieces-next rest back next at first found following_is next_is =
    ap length (pieces-found rest (omega arith)) ∙ ap (λ l. suc (length (pieces_of (drop 1 l)))) (ap (λ n. drop n rest) (sym first) ∙ sym following_is) ∙ ap (λ l. suc (length (pieces_of l))) (sym next_is)

-- a command and those after it, or the first error
abbrev pub first_then : Result Command LineError → Result (List Command) LineError → Result (List Command) LineError
first_then first later = first >>= (λ command. later >>= (λ commands. Ok (command ∷ commands)))

-- commands, and then the commands of the rest
abbrev pub following : List Command → Result (List Command) LineError → Result (List Command) LineError
following commands (Ok later) = Ok (commands ++ later)
following commands (Err error) = Err error

pub following-nothing : (commands : List Command) (r : Result (List Command) LineError) → commands ≡ [] → r ≡ following commands r
following-nothing commands (Ok later) none = rw none refl
following-nothing commands (Err error) none = refl

following_push : (commands : List Command) (command : Command) (later : Result (List Command) LineError) → following commands (first_then (Ok command) later) ≡ following (commands ++ command ∷ []) later
following_push commands command (Ok later) = ap {B = Result (List Command) LineError} (λ l. Ok l) (sym (append_assoc commands (command ∷ []) later))
following_push commands command (Err error) = refl

pub pushed_if_ok : {T E : Type 0} (r : Result T E) (new old more : List Command) → is_err r ≡ false → new ≡ cond (is_ok r) more old → new ≡ more
pushed_if_ok (Ok x) new old more none is = is
pushed_if_ok (Err e) new old more none is = cc

module _ (denotes : List ℕ → Result Command LineError) where
  -- a command and a rest
  pub following-found : (commands : List Command) (command : Command) (rest piece : List ℕ) (at : ℕ) → at ≡ position_or_len is_semicolon rest → at < length rest → piece ≡ take at rest
      → piece_command denotes piece ≡ Ok command
      → following commands (commands_of denotes (pieces_of rest)) ≡ following (commands ++ command ∷ []) (commands_of denotes (pieces_of (drop 1 (drop at rest))))
  following-found commands command rest piece at first found same is =
      let later = commands_of denotes (pieces_of (drop 1 (drop (position_or_len is_semicolon rest) rest))) in
      let denotes_so : piece_command denotes (take (position_or_len is_semicolon rest) rest) ≡ Ok command = ap (λ l. piece_command denotes l) (sym (same ∙ ap (λ n. take n rest) first)) ∙ is in
      ap (λ ps. following commands (commands_of denotes ps)) (pieces-found rest (omega arith))
      ∙ ap (λ r. following commands (first_then r later)) denotes_so
      ∙ following_push commands command later
      ∙ ap (λ n. following (commands ++ command ∷ []) (commands_of denotes (pieces_of (drop 1 (drop n rest))))) (sym first)

  -- the last command
  pub following-last : (commands : List Command) (command : Command) (rest piece : List ℕ) (at : ℕ) → at ≡ position_or_len is_semicolon rest → at ≡ length rest → piece ≡ take at rest
      → piece_command denotes piece ≡ Ok command
      → following commands (commands_of denotes (pieces_of rest)) ≡ Ok (commands ++ command ∷ [])
  following-last commands command rest piece at first none same is =
      let all : piece ≡ rest = same ∙ take_all at rest (omega arith) in
      let nothing : Result (List Command) LineError = Ok [] in
      ap (λ ps. following commands (commands_of denotes ps)) (pieces-none rest (omega arith))
      ∙ ap (λ l. following commands (first_then (piece_command denotes l) nothing)) (sym all)
      ∙ ap (λ r. following commands (first_then r nothing)) is

  -- an invalid piece
  pub following-error : {V : Type 0} (view : V → List Command) (commands : List Command) (rest piece : List ℕ) (at : ℕ) (all : Result (List Command) LineError) (e : LineError)
      → at ≡ position_or_len is_semicolon rest → piece ≡ take at rest → all ≡ following commands (commands_of denotes (pieces_of rest))
      → ParsesAs {X = Command} (λ x. x) (Err e) (piece_command denotes piece) → ParsesAs view (Err e) all
  following-error view commands rest piece at all error first same is (inl memory) = inl memory
  following-error view commands rest piece at all error first same is (inr denotes_error) =
      let found = piece-first rest in
      let later = commands_of denotes found.0 in
      let denotes_so : piece_command denotes (take (position_or_len is_semicolon rest) rest) ≡ Err error = ap (λ l. piece_command denotes l) (sym (same ∙ ap (λ n. take n rest) first)) ∙ denotes_error in
      inr (is ∙ ap (λ ps. following commands (commands_of denotes ps)) found.1 ∙ ap (λ r. following commands (first_then r later)) denotes_so)

  pub following-next : (commands new : List Command) (command : Command) (rest piece back next : List ℕ) (at : ℕ) (all : Result (List Command) LineError) → at ≡ position_or_len is_semicolon rest → at < length rest
      → piece ≡ take at rest → back ≡ drop at rest → next ≡ drop 1 back → new ≡ commands ++ command ∷ [] → all ≡ following commands (commands_of denotes (pieces_of rest))
      → piece_command denotes piece ≡ Ok command → all ≡ following new (commands_of denotes (pieces_of next))
  following-next commands new command rest piece back next at all first found same following_is next_is pushed is denotes_so =
      is ∙ following-found commands command rest piece at first found same denotes_so
      ∙ ap (λ l. following l (commands_of denotes (pieces_of (drop 1 (drop at rest))))) (sym pushed)
      ∙ ap (λ l. following new (commands_of denotes (pieces_of l))) (sym (next_is ∙ ap (drop 1) following_is))

  -- a line with too many pieces
  pub batch-many : (line : List ℕ) → 16 < length (pieces_of line) → batch_of denotes line ≡ Err TooManyCommands
  batch-many line many = ap (λ b. cond b (Err TooManyCommands) (commands_of denotes (pieces_of line))) (lt-ltb 16 (length (pieces_of line)) many)

  pub batch-few : (line : List ℕ) → length (pieces_of line) ≤ 16 → batch_of denotes line ≡ commands_of denotes (pieces_of line)
  batch-few line few = ap (λ b. cond b (Err TooManyCommands) (commands_of denotes (pieces_of line))) (le-ltb 16 (length (pieces_of line)) few)

  -- a line of one piece
  pub batch-alone : (line : List ℕ) → length line ≤ position_or_len is_semicolon line → batch_of denotes line ≡ first_then (piece_command denotes line) (Ok [])
  batch-alone line none = ap (λ ps. cond (ltb 16 (length ps)) (Err TooManyCommands) (commands_of denotes ps)) (pieces-none line none)

  pub reads-alone : (line : List ℕ) (read : Result Command LineError) → length line ≤ position_or_len is_semicolon line → ParsesAs {X = Command} (λ c. c) read (piece_command denotes line)
      → ParsesAs {X = Command} (λ c. c ∷ []) read (batch_of denotes line)
  reads-alone line (Ok command) none is = batch-alone line none ∙ ap (λ r. first_then r (Ok [])) is
  reads-alone line (Err error) none (inl memory) = inl memory
  reads-alone line (Err error) none (inr is) = inr (batch-alone line none ∙ ap (λ r. first_then r (Ok [])) is)

  -- the error of a line that has an invalid piece, or too many pieces
  pub batch-error : (line : List ℕ) (error reported : LineError) → (length (pieces_of line) ≤ 16 → (error ≡ Memory) ⊎ (commands_of denotes (pieces_of line) ≡ Err error))
      → reported ≡ cond (ltb 16 (length (pieces_of line))) TooManyCommands error → (reported ≡ Memory) ⊎ (batch_of denotes line ≡ Err reported)
  batch-error line error reported parsed is = ⊎_elim
      (λ many. inr (batch-many line many ∙ ap {B = Result (List Command) LineError} (λ f. Err f) (sym (is ∙ ap (λ b. cond b TooManyCommands error) (lt-ltb 16 (length (pieces_of line)) many)))))
      (λ few.
      let same : reported ≡ error = is ∙ ap (λ b. cond b TooManyCommands error) (le-ltb 16 (length (pieces_of line)) few) in
      ⊎_elim (λ memory. inl (same ∙ memory)) (λ denotes_error. inr (batch-few line few ∙ denotes_error ∙ ap {B = Result (List Command) LineError} (λ f. Err f) (sym same))) (parsed few))
      (cases_lt 16 (length (pieces_of line)))

  -- a command for each piece
  length-first_then : (parsed : Result Command LineError) (later : Result (List Command) LineError) (pieces : List (List ℕ)) (commands : List Command)
      → ((rest : List Command) → later ≡ Ok rest → length rest ≡ length pieces) → first_then parsed later ≡ Ok commands → length commands ≡ suc (length pieces)
  length-first_then (Err error) later pieces commands each e = absurd cc
  length-first_then (Ok command) (Err error) pieces commands each e = absurd cc
  length-first_then (Ok command) (Ok rest) pieces commands each e =
      let is : command ∷ rest ≡ commands = cc in
      omega (arith, each rest refl, ap length is)

  length-commands_of : (pieces : List (List ℕ)) (commands : List Command) → commands_of denotes pieces ≡ Ok commands → length commands ≡ length pieces
  length-commands_of [] commands e =
      let none : [] ≡ commands = cc in
      ap length (sym none)
  length-commands_of (piece ∷ pieces) commands e = length-first_then (piece_command denotes piece) (commands_of denotes pieces) pieces commands (length-commands_of pieces) e

  -- at most 16 of them are a batch
  pub batch-fits : (line : List ℕ) (commands : List Command) → length (pieces_of line) ≤ 16 → commands_of denotes (pieces_of line) ≡ Ok commands
      → (0 < length commands) × (length commands ≤ 16)
  batch-fits line commands few parsed =
      let pieces : length commands ≡ length (pieces_of line) = length-commands_of (pieces_of line) commands parsed in
      let some : 0 < length (pieces_of line) = some-pieces line in
      (omega arith, omega arith)
