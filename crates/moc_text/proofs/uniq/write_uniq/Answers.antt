use Rattle.std.proofs.Common.{rules, ◌≡◌, ℕ, List, [], ◌∷◌, ◌++◌, decimal, sym, subst}
use Rattle.std.specs.List.{flat_map}
use Rattle.std.specs.String.{string_bytes}
use Rattle.moc_sphere.specs.CellNumber.{uniq_of}
use Rattle.moc_ranges.specs.Cells.{cells_of}
use Rattle.moc_text.specs.UniqList.{uniq_text, RepresentsUniq}
use Rattle.moc_text.proofs.UniqLines.{written_uniq_is_read}
use Rattle.moc_text.proofs.uniq.write_uniq.Goals as goal

pub returns-clause-reads_back : goal.returns-clause-reads_back
unfolding uniq_text
returns-clause-reads_back c =
    let text : string_bytes c.push_numbers.new.text ≡ flat_map (λ c. decimal (uniq_of c) ++ 10 ∷ []) (cells_of c.args.set.now) = search rules in
    subst (λ (t : List ℕ). RepresentsUniq t c.args.set.now) (sym text) (written_uniq_is_read c.args.set.now c.in_ok-cells.ensures.within)
