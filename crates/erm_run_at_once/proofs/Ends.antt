-- How a script at once ends on a disk, by what its sessions did on threads and what is told of them.
use Rattle.std.proofs.Common.{◌≡◌, ℕ, ◌≤◌, ◌++◌, Bool, true, false, List, [], ◌∷◌, Vec, length, map, Option, Result, Ok, Err, inl, inr, refl, sym, ap, ◌∙◌, subst, arith}
use Rattle.std.specs.List.{All}
use Rattle.std.specs.declared.alloc.Global.{Global}
use Rattle.std.proofs.lemmas.List.{append-nil}
use Rattle.std.proofs.lemmas.List.Elements.{All-cons}
use Rattle.erm_model.specs.Database.{Database, value_at}
use Rattle.erm_model.specs.Rows.{rows_of}
use Rattle.erm_model.specs.declared.limits.TheConstants.{SESSIONS}
use Rattle.erm_block.specs.declared.block.Block.{Block}
use Rattle.erm_node.specs.Sound.{sound_law}
use Rattle.erm_outside.specs.Disk.{Step}
use Rattle.erm_ckpt.specs.Recovered.{State}
use Rattle.erm_report.specs.declared.answer.Answer.{Answer}
use Rattle.erm_report.specs.declared.line.Line.{Line}
use Rattle.erm_report.specs.declared.line.Line.TheVariants as line
use Rattle.erm_report.specs.Printable.{FitsTypes, IsInTables}
use Rattle.erm_script.specs.declared.script.ScriptLine.{ScriptLine}
use Rattle.erm_world.specs.Laws.{IsSerializable}
use Rattle.erm_world.specs.World.{View}
use Rattle.erm_good_report.specs.GoodReport.{answer_lines}
use Rattle.erm_good_at_once.specs.CutReports.{answered_of}
use Rattle.erm_lines.specs.Executions.{count_rows}
use Rattle.erm_summary.specs.Tables.{KeysAreInTables}
use Rattle.erm_start.specs.Recovered.{IsFirstObject}
use Rattle.erm_joined.specs.Merged.{closes_from, counts_of, told_when_cut}
use Rattle.erm_works.specs.Works.{IsSplit}
use Rattle.erm_rule.specs.declared.view.Book.{Book}
use Rattle.erm_rule.specs.declared.view.Opening.{Opening}
use Rattle.erm_rule.specs.Openings.{start_of}
use Rattle.erm_engine.specs.Ended.{world_of}
use Rattle.erm_desk.specs.Desk.{IsDesk, Sees}
use Rattle.erm_run_beside.specs.declared.work.SessionWork.{SessionWork}
use Rattle.erm_run_beside.specs.Runs.{HaveRun}
use Rattle.erm_cut_at_once.specs.Laws.{TellsCutAtOnce}
use Rattle.erm_report_at_once.specs.Laws.{TellsAtOnce}
use Rattle.erm_disk_run.specs.Found.{IsFound}
use Rattle.erm_disk_run.specs.Opened.{WasLogOpened}
use Rattle.erm_disk_run.specs.Runs.{AreInTables}
use Rattle.erm_disk_run.specs.declared.log.OpenedLog.{OpenedLog}
use Rattle.erm_disk_run.specs.declared.stops.RunStop.{RunStop}
use Rattle.erm_disk_run.specs.declared.stops.RunStop.TheVariants as run
use Rattle.erm_disk_at_once.specs.Desks.{HasDesk, HasLogged, StartsReport}
use Rattle.erm_disk_at_once.specs.Laws.{OpeningsAreLeft}
use Rattle.erm_disk_at_once.specs.Runs.{CountsAtOnce, EndsAtOnce, LeavesUntoldAtOnce, WasCutAtOnce, WasRunAtOnce, WasStarvedAtOnce}
use Rattle.erm_run_at_once.specs.Ran.{NoneLacked, answers_of, closes_of}
use Rattle.erm_run_at_once.specs.declared.room.Room.{Room}
use Rattle.erm_run_at_once.specs.Laws.{EndLaws}
use Rattle.erm_run_at_once.specs.Room.{MayRun, spare_names}
use Rattle.erm_run_at_once.specs.Told.{MayTell, TellsCut, TellsWhole, ToldOf}
use Rattle.erm_run_at_once.proofs.Opened.{begun_on, opening_on, opens_table, starts_from, starts_report, told_on}
use Rattle.erm_run_at_once.proofs.Parts.{lines_of, list_parts}

-- answers, and a fault, name no table
cut_lines : (script : List ScriptLine) (answers : List Answer) → All IsInTables (answer_lines script answers ++ line.DiskFault ∷ [])
cut_lines [] answers = All-cons IsInTables line.DiskFault [] tt (λ k d within. absurd (omega (arith, within)))
cut_lines (l ∷ script) [] = All-cons IsInTables line.DiskFault [] tt (λ k d within. absurd (omega (arith, within)))
cut_lines (l ∷ script) (a ∷ answers) = All-cons IsInTables (line.Answer l.line a) (answer_lines script answers ++ line.DiskFault ∷ []) tt (cut_lines script answers)

-- what is so of the state found where nothing is told
abbrev pub Starved : Option (List Step) → Option (List Step) → List (List ℕ) → List ScriptLine → Type 0
Starved before after names script = (state : State) × IsFound before state × WasStarvedAtOnce before after state names script

-- so nothing is told of it, whatever the answer
pub untold_of : (r : Result (Vec Line Global) RunStop) (before after : Option (List Step)) (names : List (List ℕ)) (script : List ScriptLine) → Starved before after names script
    → LeavesUntoldAtOnce r before after names script
untold_of (Ok lines) before after names script starved = starved
untold_of (Err (run.DiskFault lines)) before after names script starved = starved
untold_of (Err (run.Unopened stop)) before after names script starved = tt
untold_of (Err run.Memory) before after names script starved = starved

-- where no session ran
pub opened_left : OpeningsAreLeft → (before mid : Option (List Step)) (state : State) (opened : OpenedLog) → WasLogOpened before mid state opened → (first : ℕ) → IsFirstObject (rows_of opened.rows.items) first
    → (names : List (List ℕ)) (script : List ScriptLine) (after : Option (List Step)) → after ≡ mid → Starved before after names script
opened_left left before mid state opened was first is_first names script after same =
    subst (λ (now : Option (List Step)). Starved before now names script) (sym same) (
      state,
      was.found,
      left state opened.slots (start_of (opening_on opened first)) before mid (opens_table before mid state opened was first) was.disk (told_on opened first)
          (starts_from before mid state opened was first is_first) names script,
    )

module _ (laws : EndLaws) (before mid : Option (List Step)) (state : State) (opened : OpenedLog) (names : List (List ℕ)) (script : List ScriptLine) (room : Room)
    (may : MayRun before mid state opened names script room) (first : ℕ) (is_first : IsFirstObject (rows_of opened.rows.items) first) where
  abbrev o : Opening
  o = opening_on opened first

  abbrev v : View
  v = begun_on opened first

  abbrev all_names : List (List ℕ)
  all_names = names ++ spare_names (length names)

  abbrev parts : List (List ScriptLine)
  parts = lines_of room.parts.items

  few : length parts ≤ SESSIONS
  few =
      let many = (list_parts (length names) script room.parts.items may.has_room.parts).many in
      let most = may.is_script.few in
      omega (arith, many, most)

  module _ (begins : IsSerializable sound_law v) where
    split : IsSplit v script parts
    split = laws.split o names script parts begins may.is_script (list_parts (length names) script room.parts.items may.has_room.parts)

    -- what may be told of the works
    module _ (desk : Book) (works : List SessionWork) where
      as_many : length works ≡ length parts → length works ≡ length names
      as_many same = same ∙ (list_parts (length names) script room.parts.items may.has_room.parts).many

      pub may_tell : (failed : Bool) → HaveRun sound_law o failed desk parts works → MayTell failed script works
      may_tell false ran = record {
        few = (let many = as_many ran.many in let most = may.is_script.few in omega (arith, many, most));
        seats = λ l m. (let is = (may.is_script.each l m).session in (is.0, let high = is.1 in let many = as_many ran.many in omega (arith, high, many)));
        first = λ none. laws.first v (world_of ran.core) script parts (answers_of works) (closes_of works) split (laws.did o false desk parts works ran none few);
        all = λ sound none. laws.all v (world_of ran.core) script parts (answers_of works) (closes_of works) split (laws.did o false desk parts works ran none few)
            (laws.complete o desk parts works ran none).0;
      }
      may_tell true ran = record {
        few = (let many = as_many ran.many in let most = may.is_script.few in omega (arith, many, most));
        seats = λ l m. (let is = (may.is_script.each l m).session in (is.0, let high = is.1 in let many = as_many ran.many in omega (arith, high, many)));
        first = λ none. laws.first v (world_of ran.core) script parts (answers_of works) (closes_of works) split (laws.did o true desk parts works ran none few);
        all = λ no. absurd (cc);
      }

    -- HOW IT ENDS, by what its desk did
    module _ (faults now : ℕ) (after : Option (List Step)) (book : Book) where
      abbrev sees : Bool → Sees
      sees failed = record { book = book; told = after; faults = now; failed = failed }

      abbrev Desk : Bool → Type 0
      Desk failed = IsDesk sound_law (start_of o) mid faults (sees failed)

      abbrev has_desk : (failed : Bool) (desk : Desk failed) → HasDesk state opened.slots (start_of o) before mid faults (sees failed)
      has_desk failed desk = record { table = opens_table before mid state opened may.opens first; opens = may.opens.disk; desk = desk; tells = desk.onward }

      starts : StartsReport state names (spare_names (length names)) script (told_on opened first) v
      starts = starts_report before mid state opened may.opens first is_first laws.maps begins names script may.is_script

      whole : (desk : Desk false) (works : List SessionWork) → HaveRun sound_law o false book parts works → NoneLacked works → (lines : List Line)
          → TellsWhole opened.start all_names script (answers_of works) (closes_of works) lines → All FitsTypes lines → WasRunAtOnce before after state names script lines
      whole desk works ran none lines tells fits =
          let f = world_of ran.core in
          let left = laws.logs o mid faults (sees false) parts works desk ran in
          let complete = laws.complete o book parts works ran none in
          let blocks : desk.blocks ++ desk.tried ≡ desk.blocks = ap (λ (bs : List Block). desk.blocks ++ bs) (desk.holds refl).0 ∙ append-nil desk.blocks in
          let logged : HasLogged (start_of o) desk.blocks f = subst (λ (bs : List Block). HasLogged (start_of o) bs f) blocks left.0 in
          let told : TellsAtOnce v f (told_on opened first) all_names script lines = record {
            answers = tells.answers;
            closed = closes_from 1 (closes_of works);
            run = laws.runs v f script parts (answers_of works) (closes_of works) tells.answers split (laws.did o false book parts works ran none few) complete.0 tells.merged;
            told = tells.told (count_rows v.opening.rows) v.opening.first;
          } in
          laws.ends state opened.slots (start_of o) before mid faults (sees false) (has_desk false desk) refl names (spare_names (length names)) script (told_on opened first) v f lines
          starts fits left.1 complete.1 logged told

      cut : (failed : Bool) (desk : Desk failed) (works : List SessionWork) → HaveRun sound_law o failed book parts works → NoneLacked works → (lines : List Line)
          → TellsCut opened.start.stamp opened.start.run script (answers_of works) lines → All FitsTypes lines → WasCutAtOnce before after state names script lines
      cut failed desk works ran none lines tells fits =
          let f = world_of ran.core in
          let left = laws.logs o mid faults (sees failed) parts works desk ran in
          let told : TellsCutAtOnce v f (told_on opened first) script lines = record {
            counts = counts_of (answers_of works);
            answers = tells.answers;
            closed = closes_from 1 (map told_when_cut (closes_of works));
            run = laws.cuts v f script parts (answers_of works) (closes_of works) tells.answers split (laws.did o failed book parts works ran none few) tells.merged;
            told = tells.told;
          } in
          laws.cut_ends state opened.slots (start_of o) before mid faults (sees failed) (has_desk failed desk) names (spare_names (length names)) script (told_on opened first) v f lines
          starts fits left.1 left.0 told

      -- whether memory ran out or not, the first lines of each session were answered so
      pub starved : (failed : Bool) → Desk failed → (works : List SessionWork) → HaveRun sound_law o failed book parts works → Starved before after names script
      starved failed desk works ran =
          let f = world_of ran.core in
          let left = laws.logs o mid faults (sees failed) parts works desk ran in
          let (merged, run) = laws.starved v f script parts (answers_of works) (closes_of works) split (laws.did_some o failed book parts works ran few) in (
            state,
            may.opens.found,
            laws.starved_ends state opened.slots (start_of o) before mid faults (sees failed) (has_desk failed desk) names (spare_names (length names)) script (told_on opened first) v f
                (counts_of (answers_of works)) merged (closes_from 1 (map told_when_cut (closes_of works))) starts left.1 left.0 run,
          )

      pub ends : (r : Result (Vec Line Global) RunStop) (failed : Bool) (works : List SessionWork) → Desk failed → HaveRun sound_law o failed book parts works
          → ToldOf r opened.start all_names script failed works → EndsAtOnce r before after names script
      ends (Ok lines) false works desk ran (sound, none, tells) = λ fits. (state, may.opens.found, whole desk works ran none lines.items tells fits)
      ends (Ok lines) true works desk ran (sound, none, tells) = absurd (cc)
      ends (Err (run.DiskFault lines)) failed works desk ran (fault, none, tells) = λ fits. (state, may.opens.found, cut failed desk works ran none lines.items tells fits)
      ends (Err (run.Unopened stop)) failed works desk ran told = absurd told
      ends (Err run.Memory) failed works desk ran told = starved failed desk works ran

      pub counts : (r : Result (Vec Line Global) RunStop) (failed : Bool) (works : List SessionWork) → Desk failed
          → ToldOf r opened.start all_names script failed works → CountsAtOnce r faults now
      counts (Ok lines) failed works desk (sound, none, tells) = desk.sound sound
      counts (Err (run.DiskFault lines)) failed works desk (fault, none, tells) = desk.rose fault
      counts (Err (run.Unopened stop)) failed works desk told = absurd told
      counts (Err run.Memory) false works desk told = inl (desk.sound refl)
      counts (Err run.Memory) true works desk told = inr (desk.rose refl)

  keys_found : KeysAreInTables opened.start.map
  keys_found table key above = ap (λ (m : Database). value_at m table key) may.opens.map ∙ laws.keys state.rows table key may.opens.found.are_sound above

  pub tables : (r : Result (Vec Line Global) RunStop) (failed : Bool) (works : List SessionWork) → ToldOf r opened.start all_names script failed works → AreInTables r
  tables (Ok lines) failed works (sound, none, tells) =
      laws.tables (told_on opened first) all_names script tells.answers (closes_from 1 (closes_of works)) lines.items (tells.told (count_rows v.opening.rows) v.opening.first) keys_found
      (λ l m. (may.is_script.each l m).range)
  tables (Err (run.DiskFault lines)) failed works (fault, none, tells) =
      subst (All IsInTables) (sym tells.told)
      (All-cons IsInTables (line.Open opened.start.stamp opened.start.run) (answer_lines (answered_of (counts_of (answers_of works)) script) tells.answers ++ line.DiskFault ∷ []) tt
      (cut_lines (answered_of (counts_of (answers_of works)) script) tells.answers))
  tables (Err (run.Unopened stop)) failed works told = absurd told
  tables (Err run.Memory) failed works told = tt
