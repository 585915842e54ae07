-- The text is the list, byte for byte.
use Rattle.std.proofs.Common.{refl}
use Rattle.moc_cli.specs.Listing.{error_list}
use Rattle.moc_cli.proofs.execution.error_list_text.Goals as goal

pub returns : goal.returns
unfolding error_list
returns c = refl
