-- Logs that keep what their safe stamps promise. Where a run opens, the place is a safe stamp.
use Rattle.std.specs.Prelude.{◌≡◌, ℕ, ◌+◌, ◌<◌, ◌≤◌, List, Option}
use Rattle.erm_model.specs.declared.history.Commit.{Commit}
use Rattle.erm_model.specs.declared.limits.TheConstants.{LEAST_BLOCK}
use Rattle.erm_model.specs.Committed.{Committed}
use Rattle.erm_model.specs.Member.{◌∈◌}
use Rattle.erm_model.specs.SerialOrder.{ComesBefore, rank_of_commit}
use Rattle.erm_block.specs.declared.block.Block.{Block}
use Rattle.erm_block.specs.declared.block.Kind.TheVariants as kind
use Rattle.erm_outside.specs.Disk.{Step, Tells, contents}
use Rattle.erm_ckpt.specs.Recovered.{Pair, Recovers, State}
use Rattle.erm_recover.specs.Lists.{commits_of}
use Rattle.erm_node.specs.Sound.{sound_law}
use Rattle.erm_report.specs.declared.answer.Answer.{Answer}
use Rattle.erm_report.specs.declared.line.Line.{Line}
use Rattle.erm_script.specs.declared.script.ScriptLine.{ScriptLine}
use Rattle.erm_good_report.specs.GoodReport.{OwesToAnswers}
use Rattle.erm_good_report.specs.Opening.{Mode, Opening}
use Rattle.erm_good_report.specs.Transactions.{Transaction, history_of}
use Rattle.erm_disk_run.specs.Found.{IsFound}
use Rattle.erm_disk_run.specs.Limits.{Limits}
use Rattle.erm_disk_run.specs.Runs.{WasRunOn}
use Rattle.erm_disk_at_once.specs.Runs.{WasRunAtOnce}

-- A log keeps what its safe stamps promise: each commit at or above the place where a run opened has a successor stamp at or above it. Such a log can be
-- shipped: what a replica shows up to that place stays a front of the serial order.
abbrev pub IsShipped : List Block → Type 0
IsShipped blocks = (opener : Block) (c : Commit) → opener ∈ blocks → opener.kind ≡ kind.Open → c ∈ commits_of blocks → opener.stamp ≤ c.stamp → opener.stamp ≤ c.succ

-- the log that recovery meets on a disk as it reads does
abbrev pub HasShipped : List Step → Type 0
HasShipped steps = (pair : Pair) (blocks : List Block) → Recovers sound_law.meets (contents steps) pair blocks → IsShipped blocks

-- where it does at first, it does at the end
abbrev pub KeepsShipped : List Step → List Step → Type 0
KeepsShipped old new = HasShipped old → HasShipped new

-- the commits that a report tells have successor stamps at or above the end of the opening's block
abbrev pub CommitsStayBehind : Type 0
CommitsStayBehind = (mode : Mode) (opening : Opening) (script : List ScriptLine) (answers : List Answer) (told : List Transaction) → OwesToAnswers mode opening script answers told
    → (c : Committed) → c ∈ history_of told → opening.stamp + LEAST_BLOCK ≤ c.succ

-- a script run to its end keeps it, its lines in turn or its sessions at once
abbrev pub RunsKeepSafeStamps : Type 0
RunsKeepSafeStamps = (limits : Limits) (before after : Option (List Step)) (state : State) (names : List (List ℕ)) (script : List ScriptLine) (lines : List Line)
    → IsFound before state → WasRunOn limits before after state names script lines → Tells KeepsShipped before after

abbrev pub RunsAtOnceKeepSafeStamps : Type 0
RunsAtOnceKeepSafeStamps = (before after : Option (List Step)) (state : State) (names : List (List ℕ)) (script : List ScriptLine) (lines : List Line)
    → IsFound before state → WasRunAtOnce before after state names script lines → Tells KeepsShipped before after

-- commits below a safe stamp come before those at or above it
abbrev pub SafeStampsDivide : Type 0
SafeStampsDivide = (blocks : List Block) → IsShipped blocks → ((c : Commit) → c ∈ commits_of blocks → c.succ ≤ c.stamp) → (opener : Block) → opener ∈ blocks → opener.kind ≡ kind.Open
    → (c d : Commit) → c ∈ commits_of blocks → d ∈ commits_of blocks → c.stamp < opener.stamp → opener.stamp ≤ d.stamp → ComesBefore (rank_of_commit c) (rank_of_commit d)
