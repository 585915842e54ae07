-- Parsing a text in segments. Callers need no definition of these relations. A new parser has parsed the empty text,
-- each segment is appended to it, and the contracts of `finish` and of later calls follow.
pub use Rattle.moc_text.specs.Private.AsciiSegments.{HasParsed, HasFailed}
pub use Rattle.moc_text.specs.Private.UniqSegments.{HasParsedUniq, HasFailedUniq}
