-- The log of a state of the machine as blocks: those of the ranges below a place, in order.
use Rattle.std.specs.Prelude.{◌≡◌, ◌≢◌, ℕ, ◌+◌, ◌<◌, ◌≤◌, nat_lt, List, [], ◌∷◌, ◌++◌, map}
use Rattle.std.specs.List.{filter, flat_map}
use Rattle.erm_model.specs.declared.history.TransactionRecord.{TransactionRecord}
use Rattle.erm_model.specs.History.{HasNewestRows}
use Rattle.erm_model.specs.Member.{◌∈◌}
use Rattle.erm_model.specs.RowTransaction.{Law}
use Rattle.erm_model.specs.Rows.{Rows}
use Rattle.erm_machine.specs.declared.attempt.Attempt.{Attempt}
use Rattle.erm_machine.specs.declared.attempt.Decision.TheVariants.{Undecided}
use Rattle.erm_machine.specs.declared.version.Span.{Span}
use Rattle.erm_machine.specs.Core.{Core}
use Rattle.erm_machine.specs.Decided.{history_of}
use Rattle.erm_machine.specs.Facts.{all_of}
use Rattle.erm_machine.specs.Lawful.{opening_rows}
use Rattle.erm_block.specs.declared.block.Block.{Block}
use Rattle.erm_block.specs.declared.block.Kind.TheVariants.{Commit}
use Rattle.erm_block.specs.Block.{IsBlock}
use Rattle.erm_block.specs.LogList.{End, IsChain, end_of}
use Rattle.erm_block.specs.Spelling.{spelling}
use Rattle.erm_core_blocks.specs.Spelled.{HasBlock, IsBlockOf}

-- Each range of the log that starts below this place is decided, and ends at or below it.
pub record IsDecidedUpTo (c : Core) (to : ℕ) : Type 0 where
  pub from : c.shared.opening ≤ to
  pub within : to ≤ c.shared.tail
  pub decided : (seat : ℕ) (t : Attempt) → t ∈ all_of (c.seats seat) → 0 < t.stamp → t.stamp < to
      → (t.decision ≢ Undecided) × (t.stamp + t.size ≤ to)

-- the ranges that start below a place, in order
abbrev pub ranges_below : ℕ → List Span → List Span
ranges_below to log = filter (λ r. nat_lt r.start to) log

-- a block is that of the transaction whose range this is, and spells its words; it keeps the log's grammar behind a block of the run
pub record IsBlockIn (c : Core) (r : Span) (b : Block) : Type 0 where
  pub attempt : Attempt
  pub stands : attempt ∈ all_of (c.seats r.seat)
  pub start : attempt.stamp ≡ r.start
  pub size : attempt.size ≡ r.size
  pub decided : HasBlock attempt.decision
  pub is_of : IsBlockOf c.shared.run r.seat attempt b
  pub keeps : IsBlock b r.start c.shared.run
  pub spelled : attempt.header ∷ attempt.block ≡ spelling b

-- each range has its block, in order
abbrev pub AreBlocksIn : Core → List Span → List Block → Type 0
AreBlocksIn c [] [] = Unit {0}
AreBlocksIn c (r ∷ rs) (b ∷ bs) = IsBlockIn c r b × AreBlocksIn c rs bs
AreBlocksIn c rs bs = ⊥

-- a block is that of a committed transaction: its name, its stamps, and the rows of its claims, in order
pub record IsCommitOf (u : TransactionRecord) (b : Block) : Type 0 where
  pub kind_is : b.kind ≡ Commit
  pub of_seat : b.seat ≡ u.seat
  pub number : b.number ≡ u.number
  pub stamp : b.stamp ≡ u.stamp
  pub succ : b.succ ≡ u.succ
  pub rows : b.rows.items ≡ map (λ w. (w.oid, w.row)) u.writes

-- the words of blocks, one after another
abbrev pub words_of : List Block → List ℕ
words_of blocks = flat_map spelling blocks

-- where the log of the opening begins, on these words
abbrev pub log_start : Core → List ℕ → End
log_start c words = record { words = words; at = c.shared.opening; run = c.shared.run; rows = opening_rows c.shared }

-- The blocks are the log below a place, whatever words follow: a chain from the opening's place, which ends there. Its commits are
-- the history's below the place, and it leaves these rows, the newest below it, which meet the law.
pub record IsLogUpTo (law : Law) (c : Core) (to : ℕ) (blocks : List Block) : Type 0 where
  pub of_ranges : AreBlocksIn c (ranges_below to c.shared.log) blocks
  pub chain : (rest : List ℕ) → IsChain law.meets (log_start c (words_of blocks ++ rest)) blocks
  pub rows : Rows
  pub ends : (rest : List ℕ)
      → end_of (log_start c (words_of blocks ++ rest)) blocks ≡ record { words = rest; at = to; run = c.shared.run; rows = rows }
  pub newest : HasNewestRows (history_of c.seats) (opening_rows c.shared) to rows
  pub meets : law.meets rows
  pub each : (u : TransactionRecord) → u ∈ history_of c.seats → u.stamp < to → (b : Block) × (b ∈ blocks) × IsCommitOf u b
  pub only : (b : Block) → b ∈ blocks → b.kind ≡ Commit
      → (u : TransactionRecord) × (u ∈ history_of c.seats) × (u.stamp < to) × IsCommitOf u b
