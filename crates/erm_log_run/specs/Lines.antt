-- The lines of a script that a world can run, and the receipts of its sessions meanwhile.
use Rattle.std.specs.Prelude.{◌≡◌, ℕ, ◌+◌, ◌<◌, List, Option, None, IfSome, length, slice_index_or}
use Rattle.erm_model.specs.declared.limits.TheConstants.{TABLES}
use Rattle.erm_model.specs.declared.outcome.Receipt.{Receipt}
use Rattle.erm_model.specs.Member.{◌∈◌}
use Rattle.erm_script.specs.declared.script.Command.{Command}
use Rattle.erm_script.specs.declared.script.Command.TheVariants as command
use Rattle.erm_script.specs.declared.script.ScriptLine.{ScriptLine}
use Rattle.erm_world.specs.World.{IsSession, View}
use Rattle.erm_good_report.specs.Transactions.{table_of}
use Rattle.erm_lines.specs.Answers.{IsReceiptOf}

-- a line of the log names no session, any other one of the world
abbrev pub Names : View → Command → ℕ → Type 0
Names v command.Flush session = session ≡ 0
Names v command.Checkpoint session = session ≡ 0
Names v c session = IsSession v session

-- a line names a session as its command asks, and one of the tables, where it names one
pub record IsLineOf (v : View) (l : ScriptLine) : Type 0 where
  pub session : Names v l.command l.session
  pub table : IfSome (table_of l.command) (λ table. table < TABLES)

abbrev pub AreLinesOf : View → List ScriptLine → Type 0
AreLinesOf v script = (l : ScriptLine) → l ∈ script → IsLineOf v l

-- the receipt of each session's last commit, by its seat
pub record AreReceipts (v : View) (receipts : List (Option Receipt)) : Type 0 where
  pub many : length receipts ≡ v.opening.sessions
  pub each : (place : ℕ) → place < length receipts → IsReceiptOf (v.session (place + 1)).over (slice_index_or receipts place None)
