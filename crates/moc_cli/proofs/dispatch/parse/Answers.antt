-- The contract of `clap` states which arguments it accepts, what it matches, and the kinds of its errors.
use Rattle.moc_cli.proofs.Parsing.{always_invalid, helped, is_free, not_invalid, read_as, rejected_are_invalid}
use Rattle.moc_cli.proofs.dispatch.parse.Goals as goal

pub returns : goal.returns
returns g c =
    let line = c.in_ok-command_line.ensures in
    let parsed = c.try_get_matches_from.ensures in
    let fails = parsed.kinds (is_free _ line) in
    record {
      read = read_as _ _ line c.try_get_matches_from.result parsed.matches;
      failure = rejected_are_invalid _ _ line c.try_get_matches_from.result parsed.passes fails;
      help = helped _ _ line c.try_get_matches_from.result fails;
      not_invalid = not_invalid _ _ line c.try_get_matches_from.result fails;
      always_invalid = always_invalid _ _ line c.try_get_matches_from.result fails;
    }
