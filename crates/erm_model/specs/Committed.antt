-- Committed transactions as sessions see them: their serial order, the state below a stamp, and snapshot replies.
use Rattle.std.specs.Prelude.{◌≡◌, ℕ, List, [], ◌∷◌, map}
use Rattle.erm_model.specs.Database.{Database}
use Rattle.erm_model.specs.Run.{Step, ops_of, after_all, RunsOne, RunsAll}
use Rattle.erm_model.specs.SerialOrder.{Rank, IsSerialOrder, below_by}

-- a committed transaction: its name, its stamps, and its operations with their replies
pub record Committed : Type 0 where
  pub session : ℕ
  pub number : ℕ
  pub begin : ℕ
  pub stamp : ℕ
  pub succ : ℕ
  pub pred : ℕ
  pub steps : List Step

-- what places it in the serial order
abbrev pub rank_of : Committed → Rank
rank_of c = record { succ = c.succ; stamp = c.stamp }

-- those of them with a stamp below a bound
abbrev pub below : ℕ → List Committed → List Committed
below bound commits = below_by rank_of bound commits

-- the database map after transactions, one after another
abbrev pub state_after : List Committed → Database → Database
state_after [] m = m
state_after (c ∷ cs) m = state_after cs (after_all (ops_of c.steps) m)

-- the state below a stamp: the map after the serial order of the commits below it
pub record IsStateBelow (commits : List Committed) (opening : Database) (bound : ℕ) (m : Database) : Type 0 where
  pub order : List Committed
  pub serial : IsSerialOrder rank_of (below bound commits) order
  pub state : m ≡ state_after order opening

-- Snapshot replies: each reply of a transaction is that on the state below its begin stamp, after its own earlier
-- operations that were answered.
pub record HasSnapshotReplies (commits : List Committed) (opening : Database) (begin : ℕ) (steps : List Step) : Type 0 where
  pub snapshot : Database
  pub below_begin : IsStateBelow commits opening begin snapshot
  pub replies : RunsOne snapshot steps

-- The equivalent serial run: the commits, run one after another in this order from the opening's map, give their replies
-- and end in the map m.
pub record RunsInOrder (order : List Committed) (opening m : Database) : Type 0 where
  pub run : RunsAll opening (map (λ c. c.steps) order) m
