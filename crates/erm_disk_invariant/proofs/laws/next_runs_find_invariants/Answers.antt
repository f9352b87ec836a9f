use Rattle.erm_node.specs.TreeMap.{map_of_rows}
use Rattle.erm_disk_invariant.proofs.laws.next_runs_find_invariants.Goals as goal

pub returns : goal.returns
returns g c invariant commits from found place holds keep fronts has =
    c.invariants_hold_below.ensures.states invariant commits (map_of_rows from.rows) holds keep fronts found.at (map_of_rows found.rows) has.map
