use Rattle.std.proofs.Common.{codes, rules, sym}
use Rattle.std.specs.Str.Parse.{ParsesUnsigned, ExplainsUnsignedError, HasUnsignedDigitsIfOk}
use Rattle.moc_cli.specs.Requests.{HasNumber}
use Rattle.moc_cli.specs.Private.Matches.{values_of}
use Rattle.clap.specs.Words.{found_of}
use Rattle.moc_cli.proofs.Requests.{of_small_number, some_number_read}
use Rattle.moc_cli.proofs.action.order.Goals as goal

pub returns : goal.returns
returns c =
    let read : HasNumber (codes "ORDER") (values_of c.args.values.now) c.in_ok-get_one.field-0 =
    some_number_read (λ bs r. ParsesUnsigned 8 10 bs r × ExplainsUnsignedError 10 bs r × HasUnsignedDigitsIfOk bs r) (found_of c.args.values.now) (codes "ORDER") c.get_one.result _ (λ text n g. (g.0.0.0, sym g.0.1))
    c.get_one.ensures.none c.get_one.ensures.value (search rules) in
    of_small_number c.new.result _ _ (λ n. HasNumber (codes "ORDER") (values_of c.args.values.now) n) c.new.ensures read
