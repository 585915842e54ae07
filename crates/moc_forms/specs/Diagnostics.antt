-- Diagnostics of invalid texts.
use Rattle.std.specs.Prelude.{◌≡◌, ℕ, List, option_map}
use Rattle.std.specs.String.{string_bytes}
use Rattle.moc_forms.specs.Expectations.{order_at_error}
use Rattle.moc_forms.specs.Finding.{hint_of}
use Rattle.moc_forms.specs.Places.{IsPlace}
use Rattle.moc_forms.specs.Quotes.{IsQuote}
use Rattle.moc_forms.specs.declared.diagnostic.Diagnostic.{Diagnostic}
use Rattle.moc_forms.specs.declared.format.Format.{Format}
use Rattle.moc_forms.specs.declared.format.FormatError.{FormatError}

-- The diagnostic has an error of a text that was read in a format, the position of the error, and its quote. It also
-- has the order of the cells there, and what else the text looks like.
pub record Diagnoses (format : Format) (text : List ℕ) (error : FormatError) (d : Diagnostic) : Type 0 where
  pub error_is : d.error ≡ error
  pub place_is : IsPlace text error d.place
  pub quote_is : IsQuote text error (option_map string_bytes d.quote)
  pub order_is : d.order ≡ order_at_error text error d.place
  pub hint_is : d.hint ≡ hint_of format text
