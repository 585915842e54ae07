-- The words of commands on one cell.
use Rattle.std.specs.Prelude.{ℕ, List, codes, if◌then◌else◌, Option, Some, None}
use Rattle.std.specs.Str.{bytes_eq}
use Rattle.moc_parts.specs.declared.part_command.CellAction.{CellAction}
use Rattle.moc_parts.specs.declared.part_command.CellAction.TheVariants.{Add, Remove, Claim, Count}

-- the action of a command with this word on a cell, if there is one
abbrev pub action_of_word : List ℕ → Option CellAction
action_of_word word =
    if bytes_eq word (codes "add") then Some Add
    else (if bytes_eq word (codes "remove") then Some Remove
    else (if bytes_eq word (codes "claim") then Some Claim
    else (if bytes_eq word (codes "count") then Some Count
    else None)))
