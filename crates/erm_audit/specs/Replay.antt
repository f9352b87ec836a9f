-- Transactions run one after another, with their replies.
use Rattle.std.specs.Prelude.{◌≡◌, ℕ, List, [], ◌∷◌, length, map, slice_index_or, take, Vec}
use Rattle.std.specs.declared.alloc.Global.{Global}
use Rattle.erm_model.specs.declared.operation.Op.{Op}
use Rattle.erm_model.specs.declared.operation.Reply.{Reply}
use Rattle.erm_model.specs.Database.{Database}
use Rattle.erm_model.specs.InTurn.{in_turn}
use Rattle.erm_model.specs.Run.{Step, after_all, steps_of}

-- the items of each vector
abbrev pub lists_of : {X : Type 0} → List (Vec X Global) → List (List X)
lists_of vectors = map (λ v. v.items) vectors

-- each transaction has as many replies as operations
abbrev pub AnswersEach : List (List Op) → List (List Reply) → Type 0
AnswersEach transactions replies = map length replies ≡ map length transactions

-- transactions with their replies, each as its steps
abbrev pub steps_of_each : List (List Op) → List (List Reply) → List (List Step)
steps_of_each [] replies = []
steps_of_each (ops ∷ transactions) [] = []
steps_of_each (ops ∷ transactions) (r ∷ replies) = steps_of ops r ∷ steps_of_each transactions replies

-- the database map after transactions, one after another
abbrev pub after_each : List (List Op) → Database → Database
after_each transactions m = in_turn after_all transactions m

-- Some of the transactions are done, and of the next one some of its operations: this is the map then.
pub record IsDoneInPart (transactions : List (List Op)) (m n : Database) : Type 0 where
  -- how many transactions, and how many operations of the next
  pub whole : ℕ
  pub count : ℕ
  pub after : n ≡ after_all (take count (slice_index_or transactions whole [])) (after_each (take whole transactions) m)
