-- Definitions that only private contracts use.
pub mod Scan
pub mod Scanned
pub mod AsciiReading
pub mod AsciiSegments
pub mod AsciiWriting
pub mod UniqReading
pub mod UniqSegments
pub mod JsonReading
pub mod JsonWriting
