-- The bytes so far are printable ASCII.
use Rattle.std.proofs.Common.{◌≡◌, drop}
use Rattle.std.specs.Prelude.{◌&&◌, nat_le, nat_lt}
use Rattle.std.specs.List.{list_all}
use Rattle.moc_cli.proofs.explaining.is_printable.Given as goal

abbrev pub invariant-loop-byte : goal.invariant-loop-byte
invariant-loop-byte l =
    list_all (λ b. nat_le 32 b && nat_lt b 127) (drop l.byte-index l.text) ≡ list_all (λ b. nat_le 32 b && nat_lt b 127) l.text
