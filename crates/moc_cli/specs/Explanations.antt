-- What standard error reports about an invalid command line.
use Rattle.std.specs.Prelude.{◌≡◌, ◌≢◌, ℕ, Bool, true, List, [], codes}
use Rattle.std.specs.Char.{is_control}
use Rattle.std.specs.List.{list_any}
use Rattle.std.specs.Str.{chars}
use Rattle.clap.specs.Words.{Text}

-- whether an argument has a control character: U+0000 to U+001F, or U+007F to U+009F
abbrev pub has_control : Text → Bool
has_control argument = list_any is_control (chars argument)

-- the text for a command line with a control character: it quotes no argument
abbrev pub control_text : List ℕ
control_text = codes "error: a word of the command line has a control character\n"

-- the text for a command line that is not UTF-8
abbrev pub not_utf8_text : List ℕ
not_utf8_text = codes "error: a word of the command line is not UTF-8\n"

-- a text for an invalid command line: it is not empty, and quotes no argument if one has a control character
pub record IsUsageErrorText (arguments : List Text) (text : List ℕ) : Type 0 where
  pub some : text ≢ []
  pub control : list_any has_control arguments ≡ true → text ≡ control_text
