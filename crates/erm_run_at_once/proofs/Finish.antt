-- How a script at once ends, whether its sessions ran or not.
use Rattle.std.proofs.Common.{◌≡◌, ℕ, ◌++◌, List, Vec, length, Option, Result, Ok, Err, IfOk, inl, sym, subst}
use Rattle.std.specs.Prelude.{IfErr}
use Rattle.std.specs.declared.alloc.Global.{Global}
use Rattle.erm_model.specs.Rows.{rows_of}
use Rattle.erm_node.specs.Sound.{sound_law}
use Rattle.erm_outside.specs.Disk.{Step}
use Rattle.erm_ckpt.specs.Recovered.{State}
use Rattle.erm_report.specs.declared.line.Line.{Line}
use Rattle.erm_script.specs.declared.script.ScriptLine.{ScriptLine}
use Rattle.erm_start.specs.Recovered.{IsFirstObject}
use Rattle.erm_run_beside.specs.declared.work.Ran.{Ran}
use Rattle.erm_run_beside.specs.Runs.{RanBeside}
use Rattle.erm_disk_run.specs.Runs.{AreInTables}
use Rattle.erm_disk_run.specs.declared.log.OpenedLog.{OpenedLog}
use Rattle.erm_disk_run.specs.declared.stops.RunStop.{RunStop}
use Rattle.erm_disk_run.specs.declared.stops.RunStop.TheVariants as run
use Rattle.erm_disk_at_once.specs.Runs.{CountsAtOnce, EndsAtOnce, LeavesUntoldAtOnce}
use Rattle.erm_run_at_once.specs.declared.room.Room.{Room}
use Rattle.erm_run_at_once.specs.Laws.{EndLaws}
use Rattle.erm_run_at_once.specs.Room.{MayRun, spare_names}
use Rattle.erm_run_at_once.specs.Told.{MayTell, ToldOf}
use Rattle.erm_run_at_once.proofs.Opened.{opening_on}
use Rattle.erm_run_at_once.proofs.Parts.{lines_of}
use Rattle.erm_run_at_once.proofs.Ends.{Starved, counts, ends, may_tell, opened_left, starved, tables, untold_of}

-- what is answered of sessions that ran, or had no memory
abbrev pub AnswersRan : {E : Type 0} → Result (Vec Line Global) RunStop → OpenedLog → Room → List ScriptLine → Result Ran E → Type 0
AnswersRan r opened room script (Ok ran) = ToldOf r opened.start room.names.items script ran.failed ran.sessions.items
AnswersRan r opened room script (Err lack) = r ≡ Err run.Memory

pub answers_ok : {E : Type 0} (r told : Result (Vec Line Global) RunStop) (opened : OpenedLog) (room : Room) (script : List ScriptLine) (gave : Result Ran E) (ran : Ran) (names : List (List ℕ))
    → gave ≡ Ok ran → r ≡ told → names ≡ room.names.items → ToldOf told opened.start names script ran.failed ran.sessions.items → AnswersRan r opened room script gave
answers_ok r told opened room script gave ran names is same named so =
    subst (AnswersRan r opened room script) (sym is)
    (subst (λ (a : Result (Vec Line Global) RunStop). ToldOf a opened.start room.names.items script ran.failed ran.sessions.items) (sym same)
    (subst (λ (all : List (List ℕ)). ToldOf told opened.start all script ran.failed ran.sessions.items) named so))

pub answers_err : {E : Type 0} (r : Result (Vec Line Global) RunStop) (opened : OpenedLog) (room : Room) (script : List ScriptLine) (gave : Result Ran E) (lack : E)
    → gave ≡ Err lack → r ≡ Err run.Memory → AnswersRan r opened room script gave
answers_err r opened room script gave lack is same = subst (AnswersRan r opened room script) (sym is) same

module _ (laws : EndLaws) (before mid : Option (List Step)) (state : State) (opened : OpenedLog) (names : List (List ℕ)) (script : List ScriptLine) (room : Room)
    (may : MayRun before mid state opened names script room) (first : ℕ) (is_first : IsFirstObject (rows_of opened.rows.items) first)
    (faults now : ℕ) (after : Option (List Step)) where
  -- what is known of the sessions where they ran, and where memory ran out before
  abbrev pub DidRun : {E : Type 0} → Result Ran E → Type 0
  DidRun ran = IfOk ran (λ ran. RanBeside sound_law (opening_on opened first) mid faults (lines_of room.parts.items) after now ran.failed ran.sessions.items)

  abbrev pub HadNoMemory : {E : Type 0} → Result Ran E → Type 0
  HadNoMemory ran = IfErr ran (λ _. (after ≡ mid) × (now ≡ faults))

  told_names : (r : Result (Vec Line Global) RunStop) (ran : Ran) → ToldOf r opened.start room.names.items script ran.failed ran.sessions.items
      → ToldOf r opened.start (names ++ spare_names (length names)) script ran.failed ran.sessions.items
  told_names r ran told = subst (λ (all : List (List ℕ)). ToldOf r opened.start all script ran.failed ran.sessions.items) may.has_room.names_are told

  pub may_report : {E : Type 0} (ran : Result Ran E) → DidRun ran → IfOk ran (λ ran. MayTell ran.failed script ran.sessions.items)
  may_report (Ok ran) did = may_tell laws before mid state opened names script room may first is_first did.begins did.book ran.sessions.items ran.failed did.have_run
  may_report (Err lack) did = tt

  all_starved : {E : Type 0} (ran : Result Ran E) → DidRun ran → HadNoMemory ran → Starved before after names script
  all_starved (Ok ran) did none = starved laws before mid state opened names script room may first is_first did.begins faults now after did.book ran.failed did.desk ran.sessions.items did.have_run
  all_starved (Err lack) did none = opened_left laws.left before mid state opened may.opens first is_first names script after none.0

  pub ended : {E : Type 0} (r : Result (Vec Line Global) RunStop) (ran : Result Ran E) → DidRun ran → HadNoMemory ran → AnswersRan r opened room script ran
      → EndsAtOnce r before after names script
  ended r (Ok ran) did none told =
      ends laws before mid state opened names script room may first is_first did.begins faults now after did.book r ran.failed ran.sessions.items did.desk did.have_run (told_names r ran told)
  ended r (Err lack) did none is =
      subst (λ (a : Result (Vec Line Global) RunStop). EndsAtOnce a before after names script) (sym is) (opened_left laws.left before mid state opened may.opens first is_first names script after none.0)

  pub untold : {E : Type 0} (r : Result (Vec Line Global) RunStop) (ran : Result Ran E) → DidRun ran → HadNoMemory ran → LeavesUntoldAtOnce r before after names script
  untold r ran did none = untold_of r before after names script (all_starved ran did none)

  pub in_tables : {E : Type 0} (r : Result (Vec Line Global) RunStop) (ran : Result Ran E) → AnswersRan r opened room script ran → AreInTables r
  in_tables r (Ok ran) told = tables laws before mid state opened names script room may first is_first r ran.failed ran.sessions.items (told_names r ran told)
  in_tables r (Err lack) is = subst AreInTables (sym is) tt

  pub counted : {E : Type 0} (r : Result (Vec Line Global) RunStop) (ran : Result Ran E) → DidRun ran → HadNoMemory ran → AnswersRan r opened room script ran → CountsAtOnce r faults now
  counted r (Ok ran) did none told =
      counts laws before mid state opened names script room may first is_first did.begins faults now after did.book r ran.failed ran.sessions.items did.desk (told_names r ran told)
  counted r (Err lack) did none is = subst (λ (a : Result (Vec Line Global) RunStop). CountsAtOnce a faults now) (sym is) (inl none.1)
