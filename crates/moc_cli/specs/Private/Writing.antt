-- The output of a text.
use Rattle.std.specs.Prelude.{◌≡◌, ℕ, List, ◌++◌, Result, Ok, Err}
use Rattle.moc_devices.specs.Devices.{SinkState, Accepts}
use Rattle.moc_conversion.specs.declared.notes.Notes.{Notes}
use Rattle.moc_cli.specs.declared.status.ProgramError.{ProgramError}
use Rattle.moc_cli.specs.declared.status.ProgramError.TheVariants.{Write}

-- the text was written, and the notes are the result; or a prefix of the text if the output failed
abbrev pub IsSent : List ℕ → Notes → SinkState → SinkState → Result Notes ProgramError → Type 0
IsSent text notes sink sink' (Ok result) = Accepts sink sink' text × (result ≡ notes)
IsSent text notes sink sink' (Err error) =
    (error ≡ Write) × (front rest : List ℕ) × (text ≡ front ++ rest) × Accepts sink sink' front
