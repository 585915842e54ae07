-- The values of a subcommand, and the action of the arguments.
use Rattle.std.proofs.Common.{◌≡◌, ◌∙◌, inl, inr, ℕ, List, Option, None, Some, Result, Ok, Err, refl, sym, ap, subst}
use Rattle.std.specs.Prelude.{IfSome}
use Rattle.std.specs.Option.{SomeIff}
use Rattle.std.specs.Result.{result_ok}
use Rattle.clap.specs.Words.{Text, ReadsOne, first_value, one_text, rows_of}
use Rattle.clap.specs.declared.parser.matches.Found.{Found}
use Rattle.clap.proofs.WalkLemmas.{first_value-rows, one_text-rows}
use Rattle.moc_devices.specs.Devices.{SourceState, SinkState}
use Rattle.moc_sphere.specs.Names.{ParsesName, Spells}
use Rattle.moc_sphere.specs.declared.invalid_name.InvalidName.{InvalidName}
use Rattle.clap.specs.declared.parser.matches.ArgMatches.{ArgMatches}
use Rattle.moc_conversion.specs.declared.notes.Notes.{Notes}
use Rattle.moc_cli.specs.Actions.{ActionEnds}
use Rattle.moc_cli.specs.Requests.{RequestAction, HasNumber, HasValue}
use Rattle.moc_cli.specs.Endings.{CanEndWith}
use Rattle.moc_cli.specs.Private.Matches.{AreParsedAs, IsRequestedIn, MatchedEnd}
use Rattle.moc_cli.specs.declared.action.Action.{Action}
use Rattle.moc_cli.specs.declared.status.ProgramError.{ProgramError}

-- the parsed number is one that the value spells
pub number_read : {E : Type 0} (gives : List ℕ → Result ℕ E → Type 0) (f : Found) (name : Text) (r : Option ℕ) → ((text : List ℕ) (n : ℕ) → gives text (Ok n) → Spells text n)
    → (one_text f name ≡ None → r ≡ None) → ((text : List ℕ) → one_text f name ≡ Some text → ReadsOne gives text r) → IfSome r (λ n. HasNumber name (rows_of f) n)
number_read gives f name None spells none value = tt
number_read gives f name (Some n) spells none value = at (one_text f name) refl
  where
    at : (o : Option (List ℕ)) → one_text f name ≡ o → HasNumber name (rows_of f) n
    at None e = absurd (let no = none e in cc)
    at (Some text) e = (text, sym (one_text-rows f name) ∙ e, spells text n (value text e))

-- the same if the result was some number
pub some_number_read : {E : Type 0} (gives : List ℕ → Result ℕ E → Type 0) (f : Found) (name : Text) (r : Option ℕ) (n : ℕ) → ((text : List ℕ) (n : ℕ) → gives text (Ok n) → Spells text n)
    → (one_text f name ≡ None → r ≡ None) → ((text : List ℕ) → one_text f name ≡ Some text → ReadsOne gives text r) → r ≡ Some n → HasNumber name (rows_of f) n
some_number_read gives f name r n spells none value is =
    subst (λ o. IfSome o (λ m. HasNumber name (rows_of f) m)) is (number_read gives f name r spells none value)

-- what a number gives, if anything
pub of_number : {T : Type 0} (o : Option T) (number : T → ℕ) (n : ℕ) (Q : ℕ → Type 0) → IfSome o (λ x. number x ≡ n) → Q n → IfSome o (λ x. Q (number x))
of_number None number n Q is here = tt
of_number (Some x) number n Q is here = subst Q (sym is) here

pub of_small_number : (o : Option ℕ) (P : Type 0) (n : ℕ) (Q : ℕ → Type 0) → SomeIff o P n → Q n → IfSome o Q
of_small_number None P n Q is here = tt
of_small_number (Some x) P n Q is here = subst Q (sym is.1) here

-- what was parsed from a value has the value as its name
pub value_read : {A : Type 0} (name_of : A → List ℕ) (names : List ℕ) (f : Found) (name value : Text) (r : Result A InvalidName) (o : Option A)
    → first_value f name ≡ Some value → ParsesName name_of names value r → o ≡ result_ok r → IfSome o (λ a. HasValue name (rows_of f) (name_of a))
value_read name_of names f name value (Ok a) o is read same =
    subst (λ x. IfSome x (λ a. HasValue name (rows_of f) (name_of a))) (sym same) (sym (first_value-rows f name) ∙ is ∙ ap (λ w. Some w) read.named)
value_read name_of names f name value (Err e) o is read same = subst (λ x. IfSome x (λ a. HasValue name (rows_of f) (name_of a))) (sym same) tt

-- ---- the action of the arguments

pub matched_action_end : (m : ArgMatches) (action : Action) (source source' : SourceState) (sink sink' : SinkState) (result : Result Notes ProgramError) → IsRequestedIn m action
    → ActionEnds action source source' sink sink' result → MatchedEnd m source source' sink sink' result
matched_action_end m action source source' sink sink' (Ok u) requested ends = (action, requested, ends)
matched_action_end m action source source' sink sink' (Err f) requested ends = inr (action, requested, ends)

named_subcommand : (arguments : List Text) (m : ArgMatches) (action : Action) → AreParsedAs arguments m → IsRequestedIn m action → RequestAction arguments action
named_subcommand arguments m action read requested = record {
  app = read.app;
  line = read.line;
  name = requested.0;
  values = requested.1;
  are = sym read.are ∙ requested.2;
  selects = requested.3;
}

pub arguments_are_matched : (arguments : List Text) (m : ArgMatches) (source source' : SourceState) (sink sink' : SinkState) (notes : Notes) → AreParsedAs arguments m → MatchedEnd m source source' sink sink' (Ok notes)
    → (action : Action) × RequestAction arguments action × ActionEnds action source source' sink sink' (Ok notes)
arguments_are_matched arguments m source source' sink sink' notes read ends = (ends.0, named_subcommand arguments m ends.0 read ends.1, ends.2)

pub arguments_end : (arguments : List Text) (m : ArgMatches) (source source' : SourceState) (sink sink' : SinkState) (error : ProgramError) → AreParsedAs arguments m → MatchedEnd m source source' sink sink' (Err error)
    → CanEndWith arguments source source' sink sink' error
arguments_end arguments m source source' sink sink' error read (inl memory) = inl memory
arguments_end arguments m source source' sink sink' error read (inr ends) = inr (inr (ends.0, named_subcommand arguments m ends.0 read ends.1, ends.2))
