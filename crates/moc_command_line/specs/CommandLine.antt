-- The command line of the program, as `clap` parses it.
use Rattle.std.specs.Prelude.{◌≡◌, ℕ, ◌-◌, ◌^◌, pos, true, false, List, [], ◌∷◌, map, Some, codes}
use Rattle.std.specs.Borrow.{Bor}
use Rattle.clap.specs.Words.{App, Rule, Shape, Text, new_rule}
use Rattle.clap.specs.Simple.{new_shape}
use Rattle.clap.specs.declared.builder.value_parser.ValueParser.{ValueParser}
use Rattle.clap.specs.declared.builder.value_parser.ValueParser.TheVariants.{Signed, Unsigned, Names, String}

-- a required argument with this name, whose value the parser accepts
abbrev pub required_rule : Text → ValueParser → Rule
required_rule name parser = record (new_rule name) { required = true; parser = Some parser }

-- an argument with this name and any value, which may be left out
abbrev pub optional_rule : Text → Rule
optional_rule name = record (new_rule name) { parser = Some String }

-- a required order, 0 to 29
abbrev pub order_rule : Rule
order_rule = required_rule (codes "ORDER") (Signed (pos 0) (pos 29))

-- a required number of 64 bits
abbrev pub number_rule : Text → Rule
number_rule name = required_rule name (Unsigned 0 (2 ^ 64 - 1))

-- a parser accepts exactly these words
abbrev pub AcceptsOnly : ValueParser → List Text → Type 0
AcceptsOnly parser texts =
    (subcommands : Bor (List (Bor (List ℕ)))) × (parser ≡ Names subcommands)
    × (map (λ word. word.now) subcommands.now ≡ texts)

-- the parsers of the arguments whose values are words
pub record Parsers : Type 0 where
  pub format : ValueParser
  pub choice : ValueParser
  pub operation : ValueParser
  pub numbering : ValueParser

-- they accept the names of the text formats, of these and `auto`, of the operations and of the numberings
pub record AcceptNames (parsers : Parsers) : Type 0 where
  pub format : AcceptsOnly parsers.format (codes "ascii" ∷ codes "json" ∷ codes "uniq" ∷ [])
  pub choice : AcceptsOnly parsers.choice (codes "ascii" ∷ codes "json" ∷ codes "uniq" ∷ codes "auto" ∷ [])
  pub operation : AcceptsOnly parsers.operation
      (codes "union" ∷ codes "intersection" ∷ codes "difference" ∷ codes "symmetric" ∷ [])
  pub numbering : AcceptsOnly parsers.numbering (codes "nest" ∷ codes "ring" ∷ codes "uniq" ∷ [])

-- a subcommand with the rules of its arguments
abbrev pub subcommand_shape : Text → List Rule → Shape
subcommand_shape name rules = record (new_shape name) { rules = rules }

-- the subcommands of the program
abbrev pub subcommand_shapes : Parsers → List Shape
subcommand_shapes parsers =
    let format : Text → Rule = λ name. required_rule name parsers.format in
    let choice : Rule = required_rule (codes "FORM") parsers.choice in
    let numbering : Text → Rule = λ name. required_rule name parsers.numbering in
    subcommand_shape (codes "convert") (format (codes "FROM") ∷ format (codes "TO") ∷ [])
    ∷ subcommand_shape (codes "check") (choice ∷ [])
    ∷ subcommand_shape (codes "describe") (choice ∷ [])
    ∷ subcommand_shape (codes "combine") (required_rule (codes "OP") parsers.operation ∷ choice ∷ [])
    ∷ subcommand_shape (codes "degrade") (order_rule ∷ choice ∷ [])
    ∷ subcommand_shape (codes "complement") (choice ∷ [])
    ∷ subcommand_shape (codes "draw") (choice ∷ optional_rule (codes "FIRST") ∷ optional_rule (codes "SECOND") ∷ [])
    ∷ subcommand_shape (codes "run") []
    ∷ subcommand_shape (codes "play") []
    ∷ subcommand_shape (codes "crew") (required_rule (codes "N") (Signed (pos 1) (pos 64)) ∷ [])
    ∷ subcommand_shape (codes "ring") (order_rule ∷ number_rule (codes "CELL") ∷ [])
    ∷ subcommand_shape (codes "nest") (order_rule ∷ number_rule (codes "RING") ∷ [])
    ∷ subcommand_shape (codes "uniq") (order_rule ∷ number_rule (codes "CELL") ∷ [])
    ∷ subcommand_shape (codes "near") (order_rule ∷ number_rule (codes "CELL") ∷ [])
    ∷ subcommand_shape (codes "cell") (number_rule (codes "UNIQ") ∷ [])
    ∷ subcommand_shape (codes "renumber") (numbering (codes "FROM") ∷ numbering (codes "TO") ∷ order_rule ∷ [])
    ∷ subcommand_shape (codes "faults") []
    ∷ []

-- the program: it has a version, its first argument is not its own name, and a subcommand is required
abbrev pub program_shape : Shape
program_shape = record (new_shape (codes "moc")) {
  has_version = true;
  no_binary_name = true;
  subcommand_required = true;
  is_leaf = false;
}

-- the program with its subcommands
unfoldable pub moc_app : Parsers → App
moc_app parsers = record { top = program_shape; subs = subcommand_shapes parsers }

-- the command line of the program
pub record IsCommandLine (app : App) : Type 0 where
  pub parsers : Parsers
  pub subcommands : AcceptNames parsers
  pub is : app ≡ moc_app parsers
