-- The workload that is made, as the lines of a script.
use Rattle.std.specs.Prelude.{◌≡◌, ℕ, ◌+◌, ◌-◌, ◌*◌, ◌%◌, ◌==◌, if◌then◌else◌, min, List, [], ◌∷◌, ◌++◌, length, map, codes}
use Rattle.std.specs.Fmt.{decimal}
use Rattle.std.specs.Int.{div_ceil, to_be_bytes, w64}
use Rattle.std.specs.List.{flat_map, range_with_len}
use Rattle.erm_script.specs.declared.script.Command.{Command}
use Rattle.erm_script.specs.declared.script.Command.TheVariants.{Begin, Commit, Flush, Get, Put}
use Rattle.erm_script.specs.declared.script.ScriptLine.{ScriptLine}
use Rattle.erm_script.specs.declared.script.TheConstants.{NO_SESSION}
use Rattle.erm_make.specs.Draws.{draw}

-- what a line asks for: a session, by its seat, and a command
abbrev pub Request : Type 0
Request = ℕ × Command

-- the lines that ask for these, numbered from a number on
abbrev pub numbered : ℕ → List Request → List ScriptLine
numbered n [] = []
numbered n (r ∷ rs) = record { line = n; session = r.0; command = r.1 } ∷ numbered (n + 1) rs

-- lines come behind those that are there, and go on with their numbers
pub record Adds (requests : List Request) (old new : List ScriptLine) : Type 0 where
  pub is : new ≡ old ++ numbered (length old + 1) requests

-- so many keys, from this one on, are set to the value without bytes
unfoldable pub loaded : ℕ → ℕ → List Request
loaded first n = map (λ key. (1, Put 0 key [])) (range_with_len first n)

-- a transaction that loads four keys, by its number from 0
unfoldable pub load_transaction : ℕ → List Request
load_transaction i = (1, Begin) ∷ loaded (4 * i) 4 ++ (1, Commit) ∷ []

-- the first of these transactions
unfoldable pub loads : ℕ → List Request
loads n = flat_map load_transaction (range_with_len 0 n)

-- the load: sixteen of them, and a flush
unfoldable pub load : List Request
load = loads 16 ++ (NO_SESSION, Flush) ∷ []

-- what a transaction reads and writes, by its session's seat and its number from 0: two drawn keys, and its number over the first of them
unfoldable pub accesses : ℕ → ℕ → List Request
accesses seat i =
    (seat, Get 0 (draw (2 * i))) ∷ (seat, Get 0 (draw (2 * i + 1))) ∷ (seat, Put 0 (draw (2 * i)) (to_be_bytes w64 i)) ∷ []

-- these commands of the first sessions, one each
unfoldable pub by_each : ℕ → Command → List Request
by_each size command = map (λ seat. (seat, command)) (range_with_len 1 size)

-- what the transactions of a batch read and write, by the number of the first one and how many they are
unfoldable pub all_accesses : ℕ → ℕ → List Request
all_accesses first size = flat_map (λ place. accesses (place + 1) (first + place)) (range_with_len 0 size)

-- a batch: all begin, each reads and writes, and all commit
unfoldable pub batch : ℕ → ℕ → List Request
batch first size = by_each size Begin ++ all_accesses first size ++ by_each size Commit

-- the flush that comes after every 64th batch, by a batch's number from 0
unfoldable pub flush_after : ℕ → List Request
flush_after b = if (b + 1) % 64 == 0 then (NO_SESSION, Flush) ∷ [] else []

-- a batch of the workload, by its number from 0: one transaction for each session, as far as there are so many
unfoldable pub batch_of : ℕ → ℕ → ℕ → List Request
batch_of count sessions b = batch (b * sessions) (min sessions (count - b * sessions)) ++ flush_after b

-- the first batches
unfoldable pub batches : ℕ → ℕ → ℕ → List Request
batches count sessions n = flat_map (batch_of count sessions) (range_with_len 0 n)

-- the workload of so many transactions and sessions: the load, and as many batches as it takes
unfoldable pub workload : ℕ → ℕ → List Request
workload count sessions = load ++ batches count sessions (div_ceil count sessions)

-- the name of a session
abbrev pub session_name : ℕ → List ℕ
session_name seat = codes "s" ++ decimal seat

-- the names of the first sessions
unfoldable pub first_names : ℕ → List (List ℕ)
first_names n = map session_name (range_with_len 1 n)

-- the names of the workload's sessions: of those that have a transaction
abbrev pub names_of : ℕ → ℕ → List (List ℕ)
names_of count sessions = first_names (min count sessions)
