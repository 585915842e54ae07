use Rattle.map_tests.proofs.Alone.{first_alone, part_of_first_part}
use Rattle.map_tests.proofs.parts.a_part_that_is_left_has_no_change.Goals as goal

pub prepare_changes-requires : goal.prepare_changes-requires
prepare_changes-requires g c = first_alone c.part.result.now (part_of_first_part _ c.part.result.now c.of.result c.part.ensures.part c.of.ensures)
