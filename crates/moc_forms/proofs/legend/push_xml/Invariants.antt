use Rattle.std.proofs.Common.{◌≡◌, ◌++◌, drop}
use Rattle.std.specs.String.{string_bytes}
use Rattle.moc_forms.specs.Drawing.{xml_text}
use Rattle.moc_forms.proofs.legend.push_xml.Given as goal

abbrev pub invariant-loop-byte : goal.invariant-loop-byte
invariant-loop-byte l =
    string_bytes l.text ++ xml_text (drop l.byte-index l.bytes) ≡ string_bytes l.fn.text ++ xml_text l.bytes
