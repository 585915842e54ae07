use Rattle.map_tests.proofs.Alone.{first_alone, part_of_first_part}
use Rattle.map_tests.proofs.parts.a_batch_is_prepared_from_a_part.Goals as goal

pub prepare-requires : goal.prepare-requires
prepare-requires g c = first_alone c.part.result.now (part_of_first_part _ c.part.result.now c.of.result c.part.ensures.part c.of.ensures)
