-- Consequences of the result of parsing the arguments.
use Rattle.std.proofs.Common.{◌≡◌, ◌⊎◌, inl, inr, true, List, Result, Ok, Err, refl}
use Rattle.std.specs.Result.{IfErr, IfOk, OnOk}
use Rattle.std.proofs.lemmas.Bool.{false_from_ne_true}
use Rattle.clap.specs.Words.{App, HasMatchesOf, Text, takes, fault_of, is_simple, kind_of, is_simple_and_free, FailsBy}
use Rattle.clap.specs.declared.error.Error.{Error}
use Rattle.clap.specs.declared.parser.matches.ArgMatches.{ArgMatches}
use Rattle.clap.specs.declared.error.kind.ErrorKind.{ErrorKind}
use Rattle.clap.specs.declared.error.kind.ErrorKind.TheVariants.{OutOfMemory, DisplayHelp, DisplayVersion}
use Rattle.moc_command_line.specs.CommandLine.{IsCommandLine, Parsers, moc_app}
use Rattle.moc_cli.specs.Private.Matches.{AreParsedAs}
use Rattle.moc_cli.specs.Endings.{AreAlwaysInvalid, AreInvalid, RequestHelp, IsUsageError}

-- the command line is one whose errors `clap` names
pub app_is_simple_and_free : (parsers : Parsers) → is_simple_and_free (moc_app parsers) ≡ true
unfolding moc_app
app_is_simple_and_free parsers = refl

pub is_free : (app : App) → IsCommandLine app → is_simple_and_free app ≡ true
is_free app line = rw line.is (app_is_simple_and_free line.parsers)

-- and one for which it returns the matches
pub app_is_simple : (parsers : Parsers) → is_simple (moc_app parsers) ≡ true
unfolding moc_app
app_is_simple parsers = refl

pub read_as : (app : App) (arguments : List Text) → IsCommandLine app → (r : Result ArgMatches Error) → IfOk r (λ m. HasMatchesOf app arguments m)
    → IfOk r (λ m. AreParsedAs arguments m)
read_as app arguments line (Ok m) matches = record { app = app; line = line; are = (matches (rw line.is (app_is_simple line.parsers))).1 }
read_as app arguments line (Err e) matches = tt

no_help : (kind : ErrorKind) → kind ≡ OutOfMemory → (kind ≡ DisplayHelp) ⊎ (kind ≡ DisplayVersion) → ⊥
no_help kind memory (inl help) = cc
no_help kind memory (inr version) = cc

module _ {M : Type 0} (app : App) (arguments : List Text) (line : IsCommandLine app) where
  pub rejected_are_invalid : (r : Result M Error) → IfErr r (λ e. takes app arguments ≡ true → kind_of e ≡ OutOfMemory) → FailsBy (fault_of app arguments) r
      → IfErr r (λ e. IsUsageError (kind_of e) → AreInvalid arguments)
  rejected_are_invalid (Ok m) passes fails = tt
  rejected_are_invalid (Err e) passes (inl memory) = λ usage. absurd (usage.not_memory memory)
  rejected_are_invalid (Err e) passes (inr among) = λ usage. record {
    app = app;
    line = line;
    rejected = false_from_ne_true (takes app arguments) (λ taken. usage.not_memory (passes taken));
    kind = kind_of e;
    among = among;
    usage_error = usage;
  }

  pub helped : (r : Result M Error) → FailsBy (fault_of app arguments) r
      → IfErr r (λ e. (kind_of e ≡ DisplayHelp) ⊎ (kind_of e ≡ DisplayVersion) → RequestHelp arguments)
  helped (Ok m) fails = tt
  helped (Err e) (inl memory) = λ help. absurd (no_help (kind_of e) memory help)
  helped (Err e) (inr among) = λ help. record { app = app; line = line; kind = kind_of e; among = among; help = help }

  pub not_invalid : (r : Result M Error) → FailsBy (fault_of app arguments) r → OnOk r (AreAlwaysInvalid arguments → ⊥)
  not_invalid (Ok m) fails = λ always_invalid. always_invalid.some app line fails
  not_invalid (Err e) fails = tt

  pub always_invalid : (r : Result M Error) → FailsBy (fault_of app arguments) r → IfErr r (λ e. AreAlwaysInvalid arguments → (kind_of e ≡ OutOfMemory) ⊎ IsUsageError (kind_of e))
  always_invalid (Ok m) fails = tt
  always_invalid (Err e) (inl memory) = λ are. inl memory
  always_invalid (Err e) (inr among) = λ are. inr (are.all app line (kind_of e) among)
