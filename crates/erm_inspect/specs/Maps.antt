-- The lines of a database map.
use Rattle.std.specs.Prelude.{◌≡◌, List, [], ◌∷◌, ◌++◌, length, map}
use Rattle.std.specs.FinMap.{from_entries}
use Rattle.erm_model.specs.Database.{AscendByKey, Database, entries_of}
use Rattle.erm_model.specs.declared.map.Pair.{Pair}
use Rattle.erm_report.specs.declared.line.Line.{Line}
use Rattle.erm_report.specs.declared.line.Line.TheVariants as line

-- these are the keys of a map that have a value, ascending, with their values
pub record ArePairs (m : Database) (pairs : List Pair) : Type 0 where
  pub ascend : AscendByKey pairs
  pub all : from_entries (entries_of pairs) ≡ m

-- the lines of these pairs, and the end
abbrev pub map_lines : List Pair → List Line
map_lines pairs = line.Map (length pairs) ∷ (map line.Pair pairs ++ line.End ∷ [])

-- the lines of a map, and the end, stand behind others
pub record EndsWithMap (m : Database) (before now : List Line) : Type 0 where
  pub pairs : List Pair
  pub are : ArePairs m pairs
  pub lines : now ≡ before ++ map_lines pairs
