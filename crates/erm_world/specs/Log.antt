-- What a world's log means to a flusher: where it goes on, how far it is synced, and the blocks that were gathered so far.
use Rattle.std.specs.Prelude.{◌≡◌, ℕ, ◌+◌, ◌^◌, ◌<◌, ◌≤◌, ◌⊎◌, List, [], ◌∷◌, ◌++◌, take, Option, Some, None, IfSome, IsSome}
use Rattle.std.specs.List.{All, flat_map}
use Rattle.erm_model.specs.Member.{◌∈◌}
use Rattle.erm_model.specs.Rows.{Rows}
use Rattle.erm_block.specs.declared.block.Block.{Block}
use Rattle.erm_block.specs.LogList.{IsChain, rows_after_block}
use Rattle.erm_block.specs.Spelling.{spelling}
use Rattle.erm_world.specs.declared.gathered.Gathered.{Gathered}
use Rattle.erm_world.specs.declared.gathered.Gathered.TheVariants.{Empty, Unfilled, Words}
use Rattle.erm_world.specs.declared.gathered.SeatWait.{SeatWait}

-- where a log goes on: the place, the run in which it is written, and the rows that it goes on from
pub record Start : Type 0 where
  pub at : ℕ
  pub run : ℕ
  pub rows : Rows

-- a transaction that has its range of the log and isn't decided: its seat, and the objects that it has claimed
pub record Undecided : Type 0 where
  pub seat : ℕ
  pub claims : List ℕ

-- A log: where it goes on, its end, the place below which all is synced, the blocks gathered, in order from its start on, the
-- transaction whose range begins at a place, where that isn't decided, and the place as of which rows are read, where it is pinned.
pub record Log : Type 0 where
  pub opened : Start
  pub tail : ℕ
  pub flushed : ℕ
  pub gathered : List Block
  pub undecided : ℕ → Option Undecided
  pub pinned : Option ℕ

-- the place behind blocks that stand from a place on, and the rows after them
abbrev pub place_behind : ℕ → List Block → ℕ
place_behind at [] = at
place_behind at (block ∷ blocks) = place_behind (at + block.size) blocks

abbrev pub rows_behind : Rows → List Block → Rows
rows_behind rows [] = rows
rows_behind rows (block ∷ blocks) = rows_behind (rows_after_block block rows) blocks

-- the words of blocks
abbrev pub words_of : List Block → List ℕ
words_of blocks = flat_map spelling blocks

-- blocks stand one after another from a place on: the stamp of each is its place
abbrev pub StandFrom : ℕ → List Block → Type 0
StandFrom at [] = Unit {0}
StandFrom at (block ∷ blocks) = (block.stamp ≡ at) × StandFrom (at + block.size) blocks

-- a list of blocks is a front of another
abbrev pub IsFrontOf : List Block → List Block → Type 0
IsFrontOf xs ys = (rest : List Block) × (ys ≡ xs ++ rest)

-- a place is the end of one of the blocks gathered, or the log's start
pub record IsEnd (log : Log) (place : ℕ) : Type 0 where
  pub front : List Block
  pub rest : List Block
  pub split : log.gathered ≡ front ++ rest
  pub behind : place ≡ place_behind log.opened.at front

-- the place behind all that was gathered
abbrev pub gathered_to : Log → ℕ
gathered_to log = place_behind log.opened.at log.gathered

-- Nothing is gathered beyond a place where nothing is to gather: the log's end, or a range that isn't decided.
abbrev pub IsStop : Log → ℕ → Type 0
IsStop log place = (place ≡ log.tail) ⊎ IsSome (log.undecided place)

-- so many words from the place flushed on were gathered: they are those of the blocks from there on to the first stop
pub record DidGather (l m : Log) (at count : ℕ) (words : List ℕ) : Type 0 where
  pub at_is : at ≡ l.flushed
  pub some : 0 < count
  pub front : List Block
  pub blocks : List Block
  pub flushed_is : l.flushed ≡ place_behind l.opened.at front
  pub gathered : m ≡ record l { gathered = front ++ blocks }
  pub more : (rest : List Block) × (front ++ blocks ≡ l.gathered ++ rest)
  pub words_are : take count words ≡ words_of blocks
  pub count_is : gathered_to m ≡ l.flushed + count
  pub stops : IsStop m (gathered_to m)

-- What a gather answers: nothing exactly where the log's end is flushed, or a range that isn't decided begins there.
abbrev pub Gathers : Gathered → Log → Log → List ℕ → Type 0
Gathers (Empty at) l m words = (m ≡ l) × (at ≡ l.flushed) × (l.tail ≡ l.flushed)
Gathers (Unfilled at) l m words = (m ≡ l) × (at ≡ l.flushed) × (l.flushed < l.tail) × IsSome (l.undecided l.flushed)
Gathers (Words at count) l m words = DidGather l m at count words

-- the row of an object as of the pin, where what was gathered comes up to it
abbrev pub IsRowAt : Log → ℕ → List ℕ → Type 0
IsRowAt log oid row = (front rest : List Block) → log.gathered ≡ front ++ rest → log.pinned ≡ Some (place_behind log.opened.at front)
    → row ≡ rows_behind log.opened.rows front oid

-- and so it is of a later log as of the same pin, whatever is gathered by then
abbrev pub IsRowAsPinned : Log → Log → ℕ → List ℕ → Type 0
IsRowAsPinned log later oid row = later.pinned ≡ log.pinned → IsRowAt later oid row

-- a transaction of this seat that isn't decided is sealed with this stamp, below the pin, and has claimed the object
pub record IsWait (log : Log) (oid : ℕ) (wait : SeatWait) : Type 0 where
  pub by : Undecided
  pub undecided : log.undecided wait.seen ≡ Some by
  pub seat : by.seat ≡ wait.seat
  pub claims : oid ∈ by.claims
  pub below : IfSome log.pinned (λ place. wait.seen < place)

-- nobody who isn't decided is sealed below the pin and has claimed the object
abbrev pub IsUnwaited : Log → ℕ → Type 0
IsUnwaited log oid = (wait : SeatWait) → IsWait log oid wait → ⊥

-- What is so of every log: the blocks gathered are a chain of the grammar from its start on, each written in its run, with rows that are sound
-- after each; it is synced up to the end of one of them; below their end all is decided; it is pinned at a place of the log, and where that
-- was gathered at the end of a block. Places have 64 bits.
pub record IsLog (sound : Rows → Type 0) (log : Log) : Type 0 where
  pub opening : sound log.opened.rows
  pub chain : IsChain sound (record { words = words_of log.gathered; at = log.opened.at; run = log.opened.run; rows = log.opened.rows }) log.gathered
  pub one_run : All (λ block. block.run ≡ log.opened.run) log.gathered
  pub flushed : IsEnd log log.flushed
  pub within : gathered_to log ≤ log.tail
  pub places : log.tail < 2 ^ 64
  pub decided : (place : ℕ) → place < gathered_to log → log.undecided place ≡ None
  pub pinned : IfSome log.pinned (λ place. (log.opened.at ≤ place) × (place ≤ log.tail) × (place ≤ gathered_to log → IsEnd log place))
