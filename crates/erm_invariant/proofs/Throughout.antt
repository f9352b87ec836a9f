-- An invariant that each transaction keeps lasts throughout a serial run.
use Rattle.std.proofs.Common.{zero, suc, List, [], ◌∷◌, ◌++◌, sym, subst}
use Rattle.std.specs.List.{All}
use Rattle.std.proofs.lemmas.List.Elements.{All-head, All-tail}
use Rattle.erm_model.specs.Database.{Database}
use Rattle.erm_model.specs.Run.{RunsAll, RunsOne, Step, after_all, ops_of}
use Rattle.erm_invariant.specs.Invariant.{HoldsThroughout, InvariantsLast, Keeps, Sees, map_after}

module _ (Invariant : Database → Type 0) where
  abbrev AreKept : List (List Step) → Type 0
  AreKept transactions = All (Keeps Invariant) transactions

  -- the first of them leaves a map with the invariant
  first_leaves : (m : Database) (steps : List Step) (transactions : List (List Step)) → Invariant m → RunsOne m steps → AreKept (steps ∷ transactions)
      → Invariant (after_all (ops_of steps) m)
  first_leaves m steps transactions holds run keep = All-head (Keeps Invariant) steps transactions keep m holds run

  throughout : (m n : Database) (transactions : List (List Step)) → Invariant m → AreKept transactions → RunsAll m transactions n → HoldsThroughout Invariant transactions m
  throughout m n transactions holds keep run zero = holds
  throughout m n [] holds keep run (suc k) = holds
  throughout m n (steps ∷ transactions) holds keep run (suc k) =
      throughout (after_all (ops_of steps) m) n transactions (first_leaves m steps transactions holds run.0 keep) (All-tail (Keeps Invariant) steps transactions keep) run.1 k

  last : (m n : Database) (transactions : List (List Step)) → Invariant m → AreKept transactions → RunsAll m transactions n → Invariant n
  last m n [] holds keep run = subst Invariant (sym run) holds
  last m n (steps ∷ transactions) holds keep run =
      last (after_all (ops_of steps) m) n transactions (first_leaves m steps transactions holds run.0 keep) (All-tail (Keeps Invariant) steps transactions keep) run.1

  -- a transaction that others stand before is answered on what these leave
  seen : (m n : Database) (front rest : List (List Step)) (steps : List Step) → Invariant m → AreKept (front ++ steps ∷ rest) → RunsAll m (front ++ steps ∷ rest) n
      → Sees Invariant (map_after front m) steps
  seen m n [] rest steps holds keep run = record { holds = holds; run = run.0 }
  seen m n (first ∷ front) rest steps holds keep run =
      seen (after_all (ops_of first) m) n front rest steps (first_leaves m first (front ++ steps ∷ rest) holds run.0 keep)
      (All-tail (Keeps Invariant) first (front ++ steps ∷ rest) keep) run.1

  pub invariants_last : InvariantsLast Invariant
  invariants_last m n transactions holds keep run = record {
    throughout = throughout m n transactions holds keep run;
    seen = λ front rest steps split. seen m n front rest steps holds (subst AreKept split keep) (subst (λ list. RunsAll m list n) split run);
    last = last m n transactions holds keep run;
  }
