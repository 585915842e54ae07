use Rattle.std.proofs.Common.{◌+◌, ◌*◌, ◌-◌, ◌^◌, sym}
use Rattle.moc_sphere.proofs.RingPlaces.{belt_column_bounded, belt_by_shifts, with_face}
use Rattle.moc_sphere.proofs.rings.belt_place.Goals as goal

pub overflow_sub-descending : goal.overflow_sub-descending
overflow_sub-descending c =
    belt_column_bounded c.args.order c.get-k.result c.nside-n.result c.args.place c.get-k.ensures.value c.nside-n.ensures.value c.requires

pub face_of_strips-requires : goal.face_of_strips-requires
face_of_strips-requires c =
    let belt = belt_by_shifts c.args.order c.get-k.result c.nside-n.result c.args.place c.get-k.ensures.value c.nside-n.ensures.value c.requires in
    belt.face_in_range

pub returns : goal.returns
returns c =
    let n = 2 ^ c.args.order in
    with_face n (2 * n * (n - 1) + c.args.place) _ _ _ _ (sym c.face_of_strips.ensures)
    (belt_by_shifts c.args.order c.get-k.result c.nside-n.result c.args.place c.get-k.ensures.value c.nside-n.ensures.value c.requires)
