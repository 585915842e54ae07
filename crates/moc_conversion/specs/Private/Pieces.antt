-- An input, read piece by piece and split at semicolons.
use Rattle.std.specs.Prelude.{◌≡◌, ◌<◌, ℕ, Bool, true, false, List, ◌++◌, codes, length, Option, None, Some}
use Rattle.std.specs.Borrow.{Bor}
use Rattle.moc_devices.specs.Devices.{SourceState, Delivers, IsEnded}
use Rattle.std.specs.List.{All}
use Rattle.moc_text.specs.Lines.{is_semicolon}

-- if there was a piece before the end of the source, it was appended to the text
pub record ReadsPiece (source : SourceState) (old : List ℕ) (source' : SourceState) (new : List ℕ) (is_some : Bool)
    : Type 0 where
  pub piece : List ℕ
  pub delivers : Delivers source source' piece
  pub text : new ≡ old ++ piece
  pub more : is_some ≡ true → length old < length new
  pub none : is_some ≡ false → (new ≡ old) × IsEnded source'

-- the byte that ends a text
abbrev pub semicolon : List ℕ
semicolon = codes ";"

-- no byte is a semicolon
abbrev pub HasNoSemicolon : List ℕ → Type 0
HasNoSemicolon bytes = All (λ b. is_semicolon b ≡ false) bytes

-- the bytes before the first semicolon and after it, or nothing if there is no semicolon
abbrev pub IsSplit : List ℕ → Option (Bor (List ℕ) × Bor (List ℕ)) → Type 0
IsSplit bytes None = HasNoSemicolon bytes
IsSplit bytes (Some parts) = HasNoSemicolon parts.0.now × (bytes ≡ parts.0.now ++ (semicolon ++ parts.1.now))
