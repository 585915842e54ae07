-- A text that becomes too long.
use Rattle.std.proofs.Common.{◌+◌, ◌<◌, arith, length}
use Rattle.moc_conversion.specs.Conversion.{input_limit}
use Rattle.moc_conversion.proofs.Combinations.{too_long}
use Rattle.moc_conversion.proofs.combination.Combination.extend.Goals as goal

pub returns-then-bytes-len-clause-error : goal.returns-then-bytes-len-clause-error
returns-then-bytes-len-clause-error c =
    let long : input_limit < length c.args.self.now.text.items + length c.args.bytes.now =
    omega (arith, c.if-bytes-len.true, c.len.ensures, c.args.self.now.text.ok, c.requires.open.within) in
    too_long c.args.self.now c.args.bytes.now c.too_long.result c.requires.open c.requires.no_semicolon long c.too_long.ensures
