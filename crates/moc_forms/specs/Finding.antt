-- Detection of the format of a text by its first byte that is not a blank, and of what an invalid text looks like.
use Rattle.std.specs.Prelude.{ℕ, Bool, false, ◌==◌, ◌&&◌, ◌||◌, not, if◌then◌else◌, List, [], ◌∷◌, codes}
use Rattle.std.specs.Prelude.{Option, None, Some, option_and_then, option_map}
use Rattle.std.specs.Char.{is_ascii_digit}
use Rattle.std.specs.List.{find, list_all, list_any, starts_with}
use Rattle.std.specs.Option.{option_map_or, option_or}
use Rattle.moc_sphere.specs.Names.{is_slash}
use Rattle.moc_text.specs.Lines.{is_line_feed}
use Rattle.moc_forms.specs.Formats.{format_hint, format_name, same_format}
use Rattle.moc_forms.specs.declared.finding.Content.{Content}
use Rattle.moc_forms.specs.declared.finding.Content.TheVariants.{Coverage, MarkedUtf8, Utf16, Gzip, Fits, Markup}
use Rattle.moc_forms.specs.declared.finding.FormatChoice.{FormatChoice}
use Rattle.moc_forms.specs.declared.finding.FormatChoice.TheVariants.{Named, Auto}
use Rattle.moc_forms.specs.declared.format.Format.{Format}
use Rattle.moc_forms.specs.declared.format.Format.TheVariants.{Ascii, Json, Uniq}

-- a space, a tab, CR or LF
abbrev pub is_blank_byte : ℕ → Bool
is_blank_byte b = b == 32 || b == 9 || b == 13 || b == 10

-- the first byte that is not a blank, if there is one
abbrev pub first_nonblank_byte : List ℕ → Option ℕ
first_nonblank_byte text = find (λ b. not (is_blank_byte b)) text

-- the word for a choice of a format
abbrev pub choice_name : FormatChoice → List ℕ
choice_name (Named format) = format_name format
choice_name Auto = codes "auto"

-- the format that a text is read in: the given one; with `auto` JSON if the first byte that is not a blank is `{`, else
-- ASCII
abbrev pub format_for : FormatChoice → List ℕ → Format
format_for (Named format) text = format
format_for Auto text = option_map_or (λ b. if b == 123 then Json else Ascii) (first_nonblank_byte text) Ascii

-- whether bytes begin with some first bytes
abbrev pub begins_with : List ℕ → List ℕ → Bool
begins_with first bytes = starts_with (λ a b. a == b) bytes first

-- the first bytes of contents that no format has: UTF-8 and UTF-16 with a byte order mark (Unicode), gzip (RFC 1952),
-- FITS, and HTML or XML
abbrev pub first_bytes : List (List ℕ × Content)
first_bytes =
    (239 ∷ 187 ∷ 191 ∷ [], MarkedUtf8) ∷ (255 ∷ 254 ∷ [], Utf16) ∷ (254 ∷ 255 ∷ [], Utf16) ∷ (31 ∷ 139 ∷ [], Gzip)
    ∷ (codes "SIMPLE", Fits) ∷ (codes "<", Markup) ∷ []

-- the content whose first bytes a text begins with, if there is one
abbrev pub content_by_first_bytes : List ℕ → Option Content
content_by_first_bytes text = option_map (λ entry. entry.1) (find (λ entry. begins_with entry.0 text) first_bytes)

-- a digit, `s` or a comma: the first byte of an ASCII text after blanks
abbrev pub begins_word : ℕ → Bool
begins_word b = is_ascii_digit b || b == 115 || b == 44

-- whether a text looks like JSON: its first byte that is not a blank is `{`
abbrev pub looks_like_json : List ℕ → Bool
looks_like_json text = option_map_or (λ b. b == 123) (first_nonblank_byte text) false

-- whether a text looks like ASCII: its first byte that is not a blank begins a word, and it has a digit and a slash
abbrev pub looks_like_ascii : List ℕ → Bool
looks_like_ascii text =
    option_map_or begins_word (first_nonblank_byte text) false && list_any is_ascii_digit text
    && list_any is_slash text

-- whether a text looks like a NUNIQ list: it has digits and line feeds only, and at least one digit
abbrev pub looks_like_uniq : List ℕ → Bool
looks_like_uniq text =
    list_any is_ascii_digit text && list_all (λ b. is_ascii_digit b || is_line_feed b) text

-- the format that a text looks like, if it looks like one
abbrev pub likely_format : List ℕ → Option Format
likely_format text =
    if looks_like_json text then Some Json
    else (if looks_like_ascii text then Some Ascii else (if looks_like_uniq text then Some Uniq else None))

-- what a text looks like: the content whose first bytes it has; else the format that it looks like
abbrev pub looks_like : List ℕ → Option Content
looks_like text =
    option_or (content_by_first_bytes text) (option_map (λ format. Coverage format) (likely_format text))

-- whether a content is a coverage in this format
abbrev pub is_in_format : Format → Content → Bool
is_in_format format (Coverage detected) = same_format format detected
is_in_format format content = false

-- what a text looks like, if this is not the format that it is read in
abbrev pub hint_of : Format → List ℕ → Option Content
hint_of format text =
    option_and_then (λ content. if is_in_format format content then None else Some content) (looks_like text)

-- the line that states what a text looks like
abbrev pub hint_text : Content → List ℕ
hint_text (Coverage format) = format_hint format
hint_text MarkedUtf8 = codes "this looks like UTF-8 with a byte order mark\n"
hint_text Utf16 = codes "this looks like UTF-16\n"
hint_text Gzip = codes "this looks like gzip\n"
hint_text Fits = codes "this looks like FITS; python -m ploverchaise convert reads it\n"
hint_text Markup = codes "this looks like HTML or XML\n"
