-- What the lines of a report tell of the transactions of its script, in numbers.
use Rattle.std.specs.Prelude.{ℕ, Bool, true, false, List, [], ◌∷◌, length}
use Rattle.std.specs.List.{filter}
use Rattle.erm_report.specs.declared.answer.Answer.{Answer}
use Rattle.erm_report.specs.declared.answer.Answer.TheVariants as answer
use Rattle.erm_report.specs.declared.line.Line.{Line}
use Rattle.erm_report.specs.declared.line.Line.TheVariants as line
use Rattle.erm_made.specs.declared.counts.Made.{Made}

-- whether an answer tells that a transaction committed; that it was excluded, before its seal or after it; that it met an owner
abbrev pub is_commit : Answer → Bool
is_commit (answer.Committed stamp succ pred) = true
is_commit a = false

abbrev pub is_exclusion : Answer → Bool
is_exclusion (answer.Excluded stamp succ pred) = true
is_exclusion (answer.ExcludedEarly succ pred) = true
is_exclusion a = false

abbrev pub meets_owner : Answer → Bool
meets_owner (answer.Owned seat number) = true
meets_owner a = false

-- that it met a newer version; and whether an answer leaves it to later lines what becomes of a transaction, or begins none
abbrev pub meets_newer : Answer → Bool
meets_newer (answer.Newer stamp) = true
meets_newer a = false

abbrev pub leaves_open : Answer → Bool
leaves_open (answer.WaitSeat seat seen) = true
leaves_open (answer.WaitRing flushed) = true
leaves_open (answer.LogEnd tail) = true
leaves_open a = false

-- whether a line has such an answer: one to a line of the script, or to a session at the end
abbrev pub tells : (Answer → Bool) → Line → Bool
tells such (line.Answer place a) = such a
tells such (line.Close session a) = such a
tells such l = false

-- whether a line tells a key's value in the end
abbrev pub is_pair : Line → Bool
is_pair (line.Pair pair) = true
is_pair l = false

-- how many are such
abbrev pub count : {X : Type 0} → (X → Bool) → List X → ℕ
count such xs = length (filter such xs)

-- the lines that tell the counts of a workload of so many transactions and sessions
abbrev pub made_lines : ℕ → ℕ → Made → List Line
made_lines transactions sessions made =
    line.Made transactions sessions ∷ line.Committed made.committed ∷ line.Excluded made.excluded ∷ line.Owned made.owned
    ∷ line.Pairs made.pairs ∷ line.End ∷ []
