-- Invariants of a database that commits change, run in their serial order: in all of it, and in that of the commits below a stamp.
use Rattle.std.specs.Prelude.{ℕ, List, map}
use Rattle.std.specs.List.{All}
use Rattle.erm_model.specs.Committed.{Committed, HasSnapshotReplies, IsStateBelow, RunsInOrder, below, rank_of, state_after}
use Rattle.erm_model.specs.Database.{Database}
use Rattle.erm_model.specs.Run.{Step}
use Rattle.erm_model.specs.SerialOrder.{IsSerialOrder}
use Rattle.erm_invariant.specs.Invariant.{Keeps, Lasts, Sees}

-- each of these commits keeps an invariant
abbrev pub AllKeep : (Database → Type 0) → List Committed → Type 0
AllKeep Invariant commits = All (λ c. Keeps Invariant c.steps) commits

-- the operations of commits with their replies, one transaction after another
abbrev pub transactions_in : List Committed → List (List Step)
transactions_in order = map (λ c. c.steps) order

-- Each front is a serial run: whatever the stamp, the commits below it, run one after another in their serial order from the opening's
-- map, give their replies.
abbrev pub EachFrontRuns : List Committed → Database → Type 0
EachFrontRuns commits opening = (bound : ℕ) (order : List Committed) → IsSerialOrder rank_of (below bound commits) order → RunsInOrder order opening (state_after order opening)

-- where commits that keep an invariant run in their serial order from a map that has it, it lasts
abbrev pub LastsInOrder : (Database → Type 0) → Type 0
LastsInOrder Invariant = (commits order : List Committed) (opening m : Database) → Invariant opening → AllKeep Invariant commits
    → IsSerialOrder rank_of commits order → RunsInOrder order opening m → Lasts Invariant (transactions_in order) opening m

-- where each front of them is a serial run, the state below each stamp has it
abbrev pub HoldsBelow : (Database → Type 0) → Type 0
HoldsBelow Invariant = (commits : List Committed) (opening : Database) → Invariant opening → AllKeep Invariant commits → EachFrontRuns commits opening
    → (bound : ℕ) (m : Database) → IsStateBelow commits opening bound m → Invariant m

-- a transaction's replies are those on some map that has the invariant
abbrev pub SeesSome : (Database → Type 0) → List Step → Type 0
SeesSome Invariant steps = (m : Database) × Sees Invariant m steps

-- And each transaction that is answered from a snapshot sees it, whether or not it commits.
abbrev pub SnapshotsSee : (Database → Type 0) → Type 0
SnapshotsSee Invariant = (commits : List Committed) (opening : Database) → Invariant opening → AllKeep Invariant commits → EachFrontRuns commits opening
    → (begin : ℕ) (steps : List Step) → HasSnapshotReplies commits opening begin steps → SeesSome Invariant steps
