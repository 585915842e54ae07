use Rattle.moc_c.proofs.MapCalls.{sky_reply}
use Rattle.moc_c.proofs.member.Member.read.Goals as goal

pub cover_of-requires : goal.cover_of-requires
cover_of-requires c =
    sky_reply c.args.self.now c.apply.new.self c.in_ok-batch.batch c.in_ok-replies.replies c.in_ok-batch.ensures c.in_ok-replies.ensures.1
