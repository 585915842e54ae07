use Rattle.std.proofs.Common.{◌≡◌, ℕ, zero, suc, replicate, refl}
use Rattle.std.specs.Prelude.{slice_index}
use Rattle.moc_shared.proofs.NewMaps.{made}
use Rattle.moc_shared.proofs.map.SharedMap.new.Goals as goal

replicated_zero : (n b : ℕ) → slice_index (replicate n 0) b ≡ 0
replicated_zero zero b = refl
replicated_zero (suc n) zero = refl
replicated_zero (suc n) (suc b) = replicated_zero n b

pub new-made-requires : goal.new-made-requires
new-made-requires c =
    made _ c.args.start c.in_ok-slots.slots.items c.from.result refl (replicated_zero 96) c.in_ok-slots.ensures
    c.is_empty.ensures.within
