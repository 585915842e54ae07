use Rattle.std.proofs.Common.{subst}
use Rattle.moc_parts.specs.Commands.{IsCommand}
use Rattle.moc_parts.proofs.draft.Draft.answer.Goals as goal

pub add-requires : goal.add-requires
add-requires c = subst IsCommand c.in-Add.is c.requires

pub remove-requires : goal.remove-requires
remove-requires c = subst IsCommand c.in-Remove.is c.requires

pub keep-requires : goal.keep-requires
keep-requires c = subst IsCommand c.in-Keep.is c.requires

pub claim-requires : goal.claim-requires
claim-requires c = subst IsCommand c.in-Claim.is c.requires
