-- The views of a client that waits.
use Rattle.std.proofs.Common.{◌≡◌, ℕ, suc, ◌<◌, List, [], ◌∷◌, ◌++◌, set, length, refl, sym, ap, ◌∙◌, subst, ⊎_elim}
use Rattle.std.proofs.Common.{Contains, Option, Some, append_assoc, true}
use Rattle.std.proofs.lemmas.List.Elements.{Contains-append_cases}
use Rattle.moc_parts.specs.declared.command.Command.{Command}
use Rattle.moc_shared.specs.declared.map.SharedMap.{SharedMap}
use Rattle.moc_shared.specs.History.{StandsFor}
use Rattle.moc_shared.specs.Seats.{Pointer, ClientView}
use Rattle.moc_shared.specs.Private.Seats.{shared, notes_below}
use Rattle.moc_shared.specs.Private.StepEffects.{with_part, with_parts, with_miss, with_misses}
use Rattle.moc_shared.specs.Private.Slots.{in_footprint, is_only_part, AreWaits}
use Rattle.moc_parts.specs.Batches.{footprint_of_all}
use Rattle.moc_shared.specs.Clients.{clients_of, Waits}
use Rattle.moc_shared.proofs.Basics.{nothing_in_empty_list, cons_cases}
use Rattle.moc_shared.proofs.SlotIndices.{view_with_taken_part}
use Rattle.moc_shared.proofs.Guarantees.{Stays}

pub no_wait : (parts : ℕ → Type 0) (v : ClientView) → AreWaits parts v []
no_wait parts v h b i = let x : ℕ × ℕ = (h, b) in absurd (nothing_in_empty_list x i)

abbrev Pair : ℕ × ℕ → ℕ × ℕ → Type 0
Pair x y = x ≡ y

-- one more wait
pub one_wait : (init v w : ClientView) (b h : ℕ) (waits : List (ℕ × ℕ)) → v ≡ with_misses init waits
    → AreWaits (is_only_part b) init waits → w ≡ with_miss v h b → h < v.clients → ¬ StandsFor v.mine h
    → (more : List (ℕ × ℕ)) × (w ≡ with_misses init more) × AreWaits (is_only_part b) init more
one_wait init v w b h waits is each misses_are_marks below apart = (
  (h, b) ∷ waits,
  misses_are_marks ∙ ap (λ (x : ClientView). with_miss x h b) is,
  λ g c i. ⊎_elim
      (λ (e : Pair (h, b) (g, c)). let known = subst (λ (x : ClientView). (h < x.clients) × ¬ StandsFor x.mine h) is
      (below, apart) in
      subst (λ (z : ℕ × ℕ). is_only_part b z.1 × (z.0 < init.clients) × ¬ StandsFor init.mine z.0) e
      (refl, known.0, known.1))
      (λ (t : Contains waits (g, c)). each g c t)
      (cons_cases (h, b) waits (g, c) i),
)

-- the part was taken after these waits
pub view_after_taking : (cs : List Command) (init v w : ClientView) (previous after : List (Option Pointer)) (b c : ℕ) (x : Pointer)
    (waits more : List (ℕ × ℕ))
    → v ≡ with_parts (with_misses init waits) (notes_below previous b) → AreWaits (in_footprint cs) init waits
    → w ≡ with_part (with_misses v more) b (shared x) → AreWaits (is_only_part b) v more
    → footprint_of_all cs b ≡ true → c ≡ suc b → after ≡ set previous b (Some x) → b < length previous
    → (all : List (ℕ × ℕ)) × (w ≡ with_parts (with_misses init all) (notes_below after c))
    × AreWaits (in_footprint cs) init all
view_after_taking cs init v w previous after b c x waits more is each taken_part new touched up put long =
    let all : List (ℕ × ℕ) = more ++ waits in
    let v' : ClientView = with_misses v more in
    let joined : v' ≡ with_parts (with_misses init all) (notes_below previous b) =
    ap (λ (u : ClientView). with_misses u more) is ∙ (λ i. with_parts (with_all i) (notes_below previous b)) in (
      all,
      view_with_taken_part (with_misses init all) v' w previous after b c x joined up taken_part put long,
      λ h d i. ⊎_elim
          (λ (m : Contains more (h, d)).
          let n = new h d m in
          let same : b ≡ d = n.0 in
          let known = subst (λ (u : ClientView). (h < u.clients) × ¬ StandsFor u.mine h) is (n.1, n.2) in
          (subst (λ (k : ℕ). footprint_of_all cs k ≡ true) same touched, known.0, known.1))
          (λ (t : Contains waits (h, d)). each h d t)
          (Contains-append_cases more waits (h, d) i),
    )
  where
    with_all : with_misses (with_misses init waits) more ≡ with_misses init (more ++ waits)
    with_all =
        λ i. record {
          start = init.start;
          clients = init.clients;
          mine = record {
            number = init.mine.number;
            seen = init.mine.seen;
            own = init.mine.own;
            marks = init.mine.marks;
            misses = sym (append_assoc more waits init.mine.misses) i;
          };
          others = init.others;
          holds = init.holds;
        }

pub waits_from : (the : SharedMap) (cs : List Command) (v : ClientView) (waits : List (ℕ × ℕ)) → v.clients ≡ clients_of the
    → AreWaits (in_footprint cs) v waits → Waits the cs v.mine (with_misses v waits).mine
waits_from the cs v waits clients each =
    (waits, refl, λ h b i. let w = each h b i in (w.0, subst (λ (n : ℕ). h < n) clients w.1, w.2))

pub client_unchanged_after_waiting : (v w : ClientView) (waits : List (ℕ × ℕ)) → Stays (with_misses v waits) w → Stays v w
client_unchanged_after_waiting v w waits t =
    record {
      others = t.others;
      no_part = t.no_part;
      start = t.start;
      clients = t.clients;
      number = t.number;
      stands = t.stands;
    }
