-- What is printed of a replica.
use Rattle.std.specs.Prelude.{◌≡◌, ℕ, ◌≤◌, ◌++◌, List, [], length, codes, Option, Some, None, unwrap_or}
use Rattle.std.specs.Fmt.{decimal}
use Rattle.erm_model.specs.declared.map.Pair.{Pair}
use Rattle.erm_model.specs.Rows.{Rows}
use Rattle.erm_node.specs.TreeMap.{map_of_rows}
use Rattle.erm_inspect.specs.Maps.{ArePairs, map_lines}
use Rattle.erm_report.specs.declared.line.Line.{Line}
use Rattle.erm_report.specs.Texts.{text_of}
use Rattle.erm_follow_run.specs.Texts.{number_text}
use Rattle.erm_replica_rows.specs.Replica.{IsBadAt, IsReplicaOf, Shown}

-- the end of the last item, the safe stamp, and how many bytes are behind that item; 0 where there is no such stamp
abbrev pub head_text : Shown → List ℕ
head_text shown = codes "replica " ++ decimal shown.stamp ++ (codes " safe " ++ decimal (unwrap_or shown.safe 0)) ++ number_text (codes " rest ") shown.rest

-- the pairs of the map at the safe stamp; none where there is no such stamp
abbrev pub ArePairsAt : Option ℕ → Rows → List Pair → Type 0
ArePairsAt None rows pairs = pairs ≡ []
ArePairsAt (Some safe) rows pairs = ArePairs (map_of_rows rows) pairs

-- a text has what a replica answers: the line of its stamps, then the lines of the map at the safe one, and the end
pub record TellsShown (shown : Shown) (text : List ℕ) : Type 0 where
  pub pairs : List Pair
  pub are : ArePairsAt shown.safe shown.rows pairs
  pub text_is : text ≡ head_text shown ++ text_of (map_lines pairs)

-- what stands next is no item at no place
abbrev pub IsGood : List ℕ → Type 0
IsGood bytes = (place : ℕ) → IsBadAt bytes place → ⊥

-- In front of the last of these bytes, at most so many, nothing is met that is no item.
pub record IsGoodBut (most : ℕ) (bytes : List ℕ) : Type 0 where
  pub earlier : List ℕ
  pub last : List ℕ
  pub bytes_are : bytes ≡ earlier ++ last
  pub few : length last ≤ most
  pub good : IsGood earlier

-- a text has what a replica of these bytes answers, all of which may be items
pub record TellsReplica (bytes : List ℕ) (text : List ℕ) : Type 0 where
  pub shown : Shown
  pub is : IsReplicaOf bytes shown
  pub good : IsGood bytes
  pub tells : TellsShown shown text

-- the lines of the map at a replica's safe stamp
pub record TellsMap (shown : Shown) (lines : List Line) : Type 0 where
  pub pairs : List Pair
  pub are : ArePairsAt shown.safe shown.rows pairs
  pub lines_are : lines ≡ map_lines pairs
