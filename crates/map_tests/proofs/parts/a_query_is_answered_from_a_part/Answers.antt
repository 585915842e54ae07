use Rattle.map_tests.proofs.Alone.{first_alone, part_of_first_part}
use Rattle.map_tests.proofs.parts.a_query_is_answered_from_a_part.Goals as goal

pub reply_of-requires-clause-parts : goal.reply_of-requires-clause-parts
reply_of-requires-clause-parts g c = first_alone c.part.result.now (part_of_first_part _ c.part.result.now c.of.result c.part.ensures.part c.of.ensures)
