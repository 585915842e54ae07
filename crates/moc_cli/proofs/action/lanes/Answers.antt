use Rattle.std.proofs.Common.{codes, rules, sym}
use Rattle.std.specs.Str.Parse.{ParsesUnsigned, ExplainsUnsignedError, HasUnsignedDigitsIfOk}
use Rattle.moc_cli.specs.Requests.{HasNumber}
use Rattle.moc_cli.specs.Private.Matches.{values_of}
use Rattle.clap.specs.Words.{found_of}
use Rattle.moc_script.specs.Crews.{lane_count}
use Rattle.moc_cli.proofs.Requests.{of_number, some_number_read}
use Rattle.moc_cli.proofs.action.lanes.Goals as goal

pub returns : goal.returns
returns c =
    let read : HasNumber (codes "N") (values_of c.args.values.now) c.in_ok-get_one.field-0 =
    some_number_read (λ bs r. ParsesUnsigned 8 10 bs r × ExplainsUnsignedError 10 bs r × HasUnsignedDigitsIfOk bs r) (found_of c.args.values.now) (codes "N") c.get_one.result _ (λ text n g. (g.0.0.0, sym g.0.1))
    c.get_one.ensures.none c.get_one.ensures.value (search rules) in
    of_number c.new.result lane_count _ (λ n. HasNumber (codes "N") (values_of c.args.values.now) n) c.new.ensures.number read
