-- Lines that touch each other: both name one table, and one of them writes there.
use Rattle.std.specs.Prelude.{◌≡◌, ◌≢◌, ℕ, ◌<◌, ◌≤◌, ◌⊎◌, Bool, true, false, List, Option, Some, IfSome}
use Rattle.std.specs.List.{slice_get}
use Rattle.std.specs.Option.{option_and_then, option_map_or}
use Rattle.erm_model.specs.Member.{◌∈◌}
use Rattle.erm_script.specs.declared.script.ScriptLine.{ScriptLine}
use Rattle.erm_good_report.specs.Transactions.{is_writer, table_of}
use Rattle.erm_explain.specs.declared.told.Ending.TheVariants as told
use Rattle.erm_explain.specs.declared.told.Told.{Told}
use Rattle.erm_explain.specs.declared.links.Link.{Link}
use Rattle.erm_explain.specs.declared.links.Touch.{Touch}
use Rattle.erm_explain.specs.declared.links.Touch.TheVariants.{Overwrites, Either}
use Rattle.erm_explain.specs.declared.links.Sought.{Sought}
use Rattle.erm_explain.specs.declared.links.Sought.TheVariants.{After, Before, Newer}

-- the table that the line at a place names
abbrev pub table_at : List ScriptLine → ℕ → Option ℕ
table_at script place = option_and_then (λ l. table_of l.command) (slice_get script place)

-- whether it writes there
abbrev pub writes_at : List ScriptLine → ℕ → Bool
writes_at script place = option_map_or (λ l. is_writer l.command) (slice_get script place) false

-- the other line writes; or one of both does
abbrev pub Writes : List ScriptLine → Touch → ℕ → ℕ → Type 0
Writes script Overwrites other own = writes_at script other ≡ true
Writes script Either other own = (writes_at script other ≡ true) ⊎ (writes_at script own ≡ true)

-- two lines touch each other
pub record Touches (script : List ScriptLine) (touch : Touch) (other own : ℕ) : Type 0 where
  pub table : ℕ
  pub of_other : table_at script other ≡ Some table
  pub of_own : table_at script own ≡ Some table
  pub writes : Writes script touch other own

-- a line of some and one of others touch each other
pub record Links (script : List ScriptLine) (touch : Touch) (others owns : List ℕ) (link : Link) : Type 0 where
  pub other : link.other ∈ others
  pub own : link.own ∈ owns
  pub touches : Touches script touch link.other link.own

-- none do
abbrev pub Apart : List ScriptLine → Touch → List ℕ → List ℕ → Type 0
Apart script touch others owns = (link : Link) → Links script touch others owns link → ⊥

-- A transaction that is over is one that is sought: a commit with this successor stamp, at or above a begin and below a bound; the commit
-- of a stamp; that of a stamp at or above a begin, of another session.
abbrev pub IsSought : Sought → Told → Type 0
IsSought (After begin bound succ) t = (own : ℕ) × (pred : ℕ) × (t.ending ≡ told.Commits own succ pred) × (begin ≤ own) × IfSome bound (λ stamp. own < stamp)
IsSought (Before stamp) t = (succ : ℕ) × (pred : ℕ) × (t.ending ≡ told.Commits stamp succ pred)
IsSought (Newer session begin stamp) t = (t.session ≢ session) × (begin ≤ stamp) × ((succ : ℕ) × (pred : ℕ) × (t.ending ≡ told.Commits stamp succ pred))

-- how its line and one of the own touch each other
abbrev pub touch_of : Sought → Touch
touch_of (After begin bound succ) = Overwrites
touch_of (Before stamp) = Either
touch_of (Newer session begin stamp) = Overwrites

-- one that is over is sought, and a line of it and one of some touch each other
pub record IsFound (script : List ScriptLine) (sought : Sought) (over : List Told) (owns : List ℕ) (link : Link) : Type 0 where
  pub by : Told
  pub of : by ∈ over
  pub is : IsSought sought by
  pub links : Links script (touch_of sought) by.lines.items owns link

-- none is so
abbrev pub NoneIsFound : List ScriptLine → Sought → List Told → List ℕ → Type 0
NoneIsFound script sought over owns = (t : Told) → t ∈ over → IsSought sought t → Apart script (touch_of sought) t.lines.items owns
