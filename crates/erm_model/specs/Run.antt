-- What operations do to a database map and what they are answered: one transaction, which may save the map and go back, and one
-- transaction after another.
use Rattle.std.specs.Prelude.{◌≡◌, ℕ, zero, suc, List, [], ◌∷◌, ◌++◌, map, take, Option, Some, None}
use Rattle.std.specs.List.{slice_get}
use Rattle.std.specs.FinMap.{insert, remove}
use Rattle.erm_model.specs.declared.operation.Op.{Op}
use Rattle.erm_model.specs.declared.operation.Op.TheVariants.{Get, Put, Del, Next, Scan, Save, Back}
use Rattle.erm_model.specs.declared.operation.Reply.{Reply}
use Rattle.erm_model.specs.declared.operation.Reply.TheVariants as reply
use Rattle.erm_model.specs.InTurn.{in_turn}
use Rattle.erm_model.specs.Database.{Database, at, value_at, AreFound, IsNextAt}

-- an operation and the reply to it
pub record Step : Type 0 where
  pub op : Op
  pub reply : Reply

-- an operation on the database map, and none on savepoints
abbrev pub IsOnMap : Op → Type 0
IsOnMap (Get table key) = Unit {0}
IsOnMap (Put table key value) = Unit {0}
IsOnMap (Del table key) = Unit {0}
IsOnMap (Next table from) = Unit {0}
IsOnMap (Scan table low high) = Unit {0}
IsOnMap Save = ⊥
IsOnMap (Back n) = ⊥

-- steps of such operations alone
abbrev pub AreOnMap : List Step → Type 0
AreOnMap [] = Unit {0}
AreOnMap (step ∷ steps) = IsOnMap step.op × AreOnMap steps

-- what an operation does to the database map alone
abbrev pub change : Op → Database → Database
change (Get table key) m = m
change (Put table key value) m = insert m (at table key) value
change (Del table key) m = remove m (at table key)
change (Next table from) m = m
change (Scan table low high) m = m
change Save m = m
change (Back n) m = m

-- what operations do so, one after the other
abbrev pub change_all : List Op → Database → Database
change_all ops m = in_turn change ops m

-- the reply to an operation on a database map
abbrev pub IsReplyOn : Database → Op → Reply → Type 0
IsReplyOn m (Get table key) r = r ≡ reply.Value (value_at m table key)
IsReplyOn m (Put table key value) r = r ≡ reply.Done
IsReplyOn m (Del table key) r = r ≡ reply.Done
IsReplyOn m (Next table from) r = (found : Option (ℕ × List ℕ)) × (r ≡ reply.Pair found) × IsNextAt m table from found
IsReplyOn m (Scan table low high) r = (found : List (ℕ × List ℕ)) × (r ≡ reply.Found found) × AreFound m table low high found
IsReplyOn m Save r = r ≡ reply.Done
IsReplyOn m (Back n) r = r ≡ reply.Done

-- steps that change the map alone: each operation's reply is that on the map after the operations before it
abbrev pub RunsOn : Database → List Step → Type 0
RunsOn m [] = Unit {0}
RunsOn m (step ∷ steps) = IsReplyOn m step.op step.reply × RunsOn (change step.op m) steps

-- what is worked on, and what was saved of it, the oldest first
pub record Saving (X : Type 0) : Type 0 where
  pub now : X
  pub saved : List X

-- nothing is saved yet
abbrev pub begins : {X : Type 0} → X → Saving X
begins x = record { now = x; saved = [] }

-- what was saved as the n-th, from 1
abbrev pub saved_as : {X : Type 0} → ℕ → List X → Option X
saved_as zero saved = None
saved_as (suc k) saved = slice_get saved k

-- What was saved as the n-th is worked on again, and what was saved later isn't saved any more; with no n-th nothing changes.
abbrev pub back_to : {X : Type 0} → ℕ → Option X → Saving X → Saving X
back_to n (Some x) s = record { now = x; saved = take n s.saved }
back_to n None s = s

-- what is worked on has become this, and what was saved stays
abbrev pub going_on : {X : Type 0} → X → Saving X → Saving X
going_on x s = record { now = x; saved = s.saved }

-- what is left after an operation, where one on the map does this
abbrev pub after_by : {X : Type 0} → (Op → X → X) → Op → Saving X → Saving X
after_by does (Get table key) s = going_on (does (Get table key) s.now) s
after_by does (Put table key value) s = going_on (does (Put table key value) s.now) s
after_by does (Del table key) s = going_on (does (Del table key) s.now) s
after_by does (Next table from) s = going_on (does (Next table from) s.now) s
after_by does (Scan table low high) s = going_on (does (Scan table low high) s.now) s
after_by does Save s = record { now = s.now; saved = s.saved ++ s.now ∷ [] }
after_by does (Back n) s = back_to n (saved_as n s.saved) s

-- a database map, and the maps saved
abbrev pub maps : Database → List Database → Saving Database
maps now saved = record { now = now; saved = saved }

-- the database map and those saved, after an operation
abbrev pub after : Op → Saving Database → Saving Database
after op s = after_by change op s

-- the same after operations, one after the other
abbrev pub after_from : List Op → Saving Database → Saving Database
after_from ops s = in_turn after ops s

-- the database map after all operations of a transaction
abbrev pub after_all : List Op → Database → Database
after_all ops m = (after_from ops (begins m)).now

-- the reply to an operation: it is that on the map as it is
abbrev pub IsReply : Saving Database → Op → Reply → Type 0
IsReply s op r = IsReplyOn s.now op r

-- each operation's reply is that after the operations before it
abbrev pub RunsFrom : Saving Database → List Step → Type 0
RunsFrom s [] = Unit {0}
RunsFrom s (step ∷ steps) = IsReply s step.op step.reply × RunsFrom (after step.op s) steps

-- one transaction: it begins on this map, and has no savepoint yet
abbrev pub RunsOne : Database → List Step → Type 0
RunsOne m steps = RunsFrom (begins m) steps

-- operations with their replies, in turn
abbrev pub steps_of : List Op → List Reply → List Step
steps_of [] replies = []
steps_of (op ∷ ops) [] = []
steps_of (op ∷ ops) (r ∷ replies) = record { op = op; reply = r } ∷ steps_of ops replies

-- the operations of some steps
abbrev pub ops_of : List Step → List Op
ops_of steps = map (λ step. step.op) steps

-- transactions one after another, from one database map to another
abbrev pub RunsAll : Database → List (List Step) → Database → Type 0
RunsAll m [] n = n ≡ m
RunsAll m (steps ∷ transactions) n = RunsOne m steps × RunsAll (after_all (ops_of steps) m) transactions n

-- steps on one database map that do the same operations are answered the same
abbrev pub RepliesAreDetermined : Type 0
RepliesAreDetermined = (m : Database) (xs ys : List Step) → ops_of xs ≡ ops_of ys → RunsOne m xs → RunsOne m ys → xs ≡ ys
