-- Invariants of the database map, and transactions that keep them. The field calls an invariant an integrity constraint, and says of
-- transactions that keep it that they preserve consistency.
use Rattle.std.specs.Prelude.{◌≡◌, ℕ, List, [], ◌∷◌, ◌++◌, take}
use Rattle.std.specs.List.{All}
use Rattle.erm_model.specs.Database.{Database}
use Rattle.erm_model.specs.declared.operation.Op.{Op}
use Rattle.erm_model.specs.declared.operation.Op.TheVariants.{Back, Del, Get, Next, Put, Save, Scan}
use Rattle.erm_model.specs.Run.{RunsAll, RunsOne, Step, after_all, ops_of}

-- A transaction keeps an invariant: run alone on a map that has it, and answered as on that map, it leaves a map that has it.
abbrev pub Keeps : (Database → Type 0) → List Step → Type 0
Keeps Invariant steps = (m : Database) → Invariant m → RunsOne m steps → Invariant (after_all (ops_of steps) m)

-- the database map after transactions, one after another
abbrev pub map_after : List (List Step) → Database → Database
map_after [] m = m
map_after (steps ∷ transactions) m = map_after transactions (after_all (ops_of steps) m)

-- The invariant holds throughout: in the map before the first transaction, and in the map after each one.
abbrev pub HoldsThroughout : (Database → Type 0) → List (List Step) → Database → Type 0
HoldsThroughout Invariant transactions m = (n : ℕ) → Invariant (map_after (take n transactions) m)

-- A transaction sees the invariant: it is answered as on a map that has it.
pub record Sees (Invariant : Database → Type 0) (m : Database) (steps : List Step) : Type 0 where
  pub holds : Invariant m
  pub run : RunsOne m steps

-- each transaction sees the invariant, on the map that those before it leave
abbrev pub EachSees : (Database → Type 0) → List (List Step) → Database → Type 0
EachSees Invariant transactions m = (front rest : List (List Step)) (steps : List Step) → transactions ≡ front ++ steps ∷ rest → Sees Invariant (map_after front m) steps

-- what an invariant gives of transactions that are run one after another, from one map to another
pub record Lasts (Invariant : Database → Type 0) (transactions : List (List Step)) (m n : Database) : Type 0 where
  pub throughout : HoldsThroughout Invariant transactions m
  pub seen : EachSees Invariant transactions m
  pub last : Invariant n

-- Where transactions are run one after another from a map with an invariant, and each keeps it, the invariant lasts.
abbrev pub InvariantsLast : (Database → Type 0) → Type 0
InvariantsLast Invariant = (m n : Database) (transactions : List (List Step)) → Invariant m → All (Keeps Invariant) transactions → RunsAll m transactions n
    → Lasts Invariant transactions m n

-- an operation sets no key's value: it reads, or it saves the map or goes back to one that was saved
abbrev pub IsRead : Op → Type 0
IsRead (Get table key) = Unit {0}
IsRead (Put table key value) = ⊥
IsRead (Del table key) = ⊥
IsRead (Next table from) = Unit {0}
IsRead (Scan table low high) = Unit {0}
IsRead Save = Unit {0}
IsRead (Back n) = Unit {0}

-- A transaction that sets no value keeps an invariant, whatever it is.
abbrev pub ReadersKeep : (Database → Type 0) → Type 0
ReadersKeep Invariant = (steps : List Step) → All (λ step. IsRead step.op) steps → Keeps Invariant steps
