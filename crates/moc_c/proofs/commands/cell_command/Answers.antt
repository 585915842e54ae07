use Rattle.std.proofs.Common.{◌≡◌, List, ℕ, [], ◌∷◌, get_or, Ok, ap, subst, ◌∙◌}
use Rattle.moc_ranges.specs.Cells.{span}
use Rattle.moc_c.specs.Buffers.{set_of_cells_or_error}
use Rattle.moc_c.proofs.CellCommands.{only_item}
use Rattle.moc_c.proofs.commands.cell_command.Goals as goal

pub returns : goal.returns
returns c =
    let cells = c.args.cells.now in
    let cell = c.in-Ok.cell in
    record {
      acts = c.in_ok-action.ensures;
      only = ap (λ (l : List ℕ). set_of_cells_or_error c.args.order l) (only_item cells c.in-len1.len_at_least c.in-len1.len_below)
          ∙ subst (λ k. set_of_cells_or_error k (get_or cells 0 0 ∷ []) ≡ Ok (span cell.order cell.index)) c.in_ok-new.ensures.1 c.in-Ok.ensures;
    }
