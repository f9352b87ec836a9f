-- A node on the way to a key, as the program has it.
use Rattle.std.specs.Prelude.{List, map}
use Rattle.erm_tree.specs.declared.plan.Step.{Step}
use Rattle.erm_tree.specs.Insert.{Place}

-- its object, and what its row says
abbrev pub place_of : Step → Place
place_of step = record { oid = step.oid; shape = record { leaf = step.leaf; pairs = step.pairs.items } }

-- so of each of a path
abbrev pub places_of : List Step → List Place
places_of path = map place_of path
