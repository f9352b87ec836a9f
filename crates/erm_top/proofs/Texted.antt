-- What there is to tell of a run, by how it ended.
use Rattle.std.proofs.Common.{◌≡◌, ℕ, ◌⊎◌, List, [], Option, Result, Ok, Err, Vec, ap, refl, sym, ◌∙◌, subst, inl, inr}
use Rattle.std.specs.List.{All}
use Rattle.std.specs.declared.alloc.Global.{Global}
use Rattle.erm_ckpt.specs.Recovered.{State}
use Rattle.erm_outside.specs.Disk.{Step}
use Rattle.erm_outside.specs.Faults.{Rose}
use Rattle.erm_make.specs.Workload.{names_of}
use Rattle.erm_report.specs.Printable.{FitsTypes, IsInTables}
use Rattle.erm_report.specs.Texts.{text_of}
use Rattle.erm_report.specs.declared.line.Line.{Line}
use Rattle.erm_script.specs.declared.script.ScriptLine.{ScriptLine}
use Rattle.erm_disk_run.specs.declared.stops.DiskStop.{DiskStop}
use Rattle.erm_disk_run.specs.declared.stops.RunStop.{RunStop}
use Rattle.erm_disk_run.specs.declared.stops.RunStop.TheVariants as run
use Rattle.erm_disk_run.specs.Limits.{in_lists, in_table}
use Rattle.erm_disk_at_once.specs.Runs.{CountsAtOnce, EndsAtOnce, LeavesUntoldAtOnce}
use Rattle.erm_disk_run.specs.Found.{IsFound}
use Rattle.erm_disk_run.specs.Runs.{AreInTables, CountsRun, EndsRun, LeavesUntold}
use Rattle.erm_disk_run.specs.Stops.{CountsStop, StopsRun}
use Rattle.erm_top.specs.Makes.{lines_of}
use Rattle.erm_top.specs.Running.{Running, running_at_once, running_in_turn, running_over}
use Rattle.erm_top.specs.Stopped.{LeavesScript, NotOpened, TellsCounted, TellsCounts, TellsEnded, TellsMaking, TellsRan}
use Rattle.erm_top.specs.declared.printing.Stop.{Stop}
use Rattle.erm_top.specs.declared.printing.Stop.TheVariants as stop

-- a run that was begun
abbrev pub Begun : Result (Vec Line Global) RunStop → Type 0
Begun (Err (run.Unopened stop)) = ⊥
Begun ended = Unit {0}

-- lines that are read as a slice fit their types
abbrev pub FitAs : List Line → Type 0
FitAs lines = All IsInTables lines → All FitsTypes lines

-- what there is to tell of lines, made of a slice of them
module _ (ended : Result (Vec Line Global) RunStop) (tables : AreInTables ended) (lines : Vec Line Global) (slice : List Line) (same : slice ≡ lines.items) (fits : FitAs slice) (text : List ℕ)
    (text_is : text ≡ text_of slice) where
  pub told_text : ended ≡ Ok lines → TellsEnded ended (Ok text)
  told_text is =
      subst (λ (e : Result (Vec Line Global) RunStop). TellsEnded e (Ok text)) (sym is)
      (inl (subst FitAs same fits (subst AreInTables is tables), ap (λ (t : List ℕ). Ok t) (text_is ∙ ap text_of same)))

  pub told_cut : ended ≡ Err (run.DiskFault lines) → TellsEnded ended (Err (stop.Cut text))
  told_cut is =
      subst (λ (e : Result (Vec Line Global) RunStop). TellsEnded e (Err (stop.Cut text))) (sym is)
      (inl (subst FitAs same fits (subst AreInTables is tables), ap (λ (t : List ℕ). Err (stop.Cut t)) (text_is ∙ ap text_of same)))

-- or no memory was left for them
pub told_none : (e ended : Result (Vec Line Global) RunStop) → ended ≡ e → Begun e → TellsEnded ended (Err stop.Memory)
told_none e ended is begun = subst (λ (r : Result (Vec Line Global) RunStop). TellsEnded r (Err stop.Memory)) (sym is) (of e begun)
  where
    of : (e : Result (Vec Line Global) RunStop) → Begun e → TellsEnded e (Err stop.Memory)
    of (Ok lines) begun = inr refl
    of (Err (run.DiskFault lines)) begun = inr refl
    of (Err run.Memory) begun = refl
    of (Err (run.Unopened stop)) begun = absurd begun

-- or nothing was run
pub told_why : (ended : Result (Vec Line Global) RunStop) (opened : DiskStop) → ended ≡ Err (run.Unopened opened) → (why : Stop)
    → ((before after : Option (List Step)) (faults now : ℕ) → StopsRun opened before after → CountsStop opened faults now → NotOpened why before after faults now) → TellsEnded ended (Err why)
told_why ended opened is why tells = subst (λ (e : Result (Vec Line Global) RunStop). TellsEnded e (Err why)) (sym is) (why, refl, tells)

-- the lines of a whole report, or of one that was cut off, are told, or no memory is left for them
module _ (r : Running) (names : List (List ℕ)) (script : List ScriptLine) (before after : Option (List Step)) (faults now : ℕ) (lines : List Line) (told : Result (List ℕ) Stop)
    (left : (state : State) × IsFound before state × r.starved before after state names script) where
  abbrev Told : Result (List ℕ) Stop → Type 0
  Told t = TellsRan r t names script before after faults now

  untold : told ≡ Err stop.Memory → (now ≡ faults) ⊎ Rose faults now → Told told
  untold is counts = subst Told (sym is) (inr left, counts)

  pub tells_whole : (All FitsTypes lines × (told ≡ Ok (text_of lines))) ⊎ (told ≡ Err stop.Memory)
      → (All FitsTypes lines → (state : State) × IsFound before state × r.ran before after state names script lines) → now ≡ faults → Told told
  tells_whole (inl text) ends counts =
      let ran = ends text.0 in
      subst Told (sym text.1) (record { state = ran.0; found = ran.1; lines = lines; ran = ran.2; text_is = refl }, counts)
  tells_whole (inr is) ends counts = untold is (inl counts)

  pub tells_cut : (All FitsTypes lines × (told ≡ Err (stop.Cut (text_of lines)))) ⊎ (told ≡ Err stop.Memory)
      → (All FitsTypes lines → (state : State) × IsFound before state × r.cut before after state names script lines) → Rose faults now → Told told
  tells_cut (inl text) ends counts =
      let ran = ends text.0 in
      subst Told (sym text.1) (record { state = ran.0; found = ran.1; lines = lines; cut = ran.2; text_is = refl }, counts)
  tells_cut (inr is) ends counts = untold is (inr counts)

  pub tells_starved : told ≡ Err stop.Memory → (now ≡ faults) ⊎ Rose faults now → Told told
  tells_starved is counts = untold is counts

-- why nothing was run is told
tells_why : (r : Running) (names : List (List ℕ)) (script : List ScriptLine) (before after : Option (List Step)) (faults now : ℕ) (why : Stop)
    → NotOpened why before after faults now → TellsRan r (Err why) names script before after faults now
tells_why r names script before after faults now stop.Memory is = (inl is.0, inl is.1)
tells_why r names script before after faults now (stop.Cut text) is = absurd is
tells_why r names script before after faults now why is = is

tells_unopened : (r : Running) (names : List (List ℕ)) (script : List ScriptLine) (before after : Option (List Step)) (faults now : ℕ) (opened : DiskStop) (told : Result (List ℕ) Stop)
    → TellsEnded (Err (run.Unopened opened)) told → StopsRun opened before after → CountsStop opened faults now → TellsRan r told names script before after faults now
tells_unopened r names script before after faults now opened told (why, is, tells) stops counts =
    subst (λ (t : Result (List ℕ) Stop). TellsRan r t names script before after faults now) (sym is) (tells_why r names script before after faults now why (tells before after faults now stops counts))

-- so what there is to tell of a script is told of one that was run in turn, and of one whose sessions ran at once
module _ (names : List (List ℕ)) (script : List ScriptLine) (before after : Option (List Step)) (faults now : ℕ) (told : Result (List ℕ) Stop) where
  pub tells_in_turn : (ended : Result (Vec Line Global) RunStop) → TellsEnded ended told → EndsRun in_table ended before after names script → LeavesUntold in_table ended before after names script
      → CountsRun ended faults now → TellsRan running_in_turn told names script before after faults now
  tells_in_turn (Ok lines) tells ends left counts = tells_whole running_in_turn names script before after faults now lines.items told left tells ends counts
  tells_in_turn (Err (run.DiskFault lines)) tells ends left counts = tells_cut running_in_turn names script before after faults now lines.items told left tells ends counts
  tells_in_turn (Err (run.Unopened opened)) tells ends left counts = tells_unopened running_in_turn names script before after faults now opened told tells ends counts
  tells_in_turn (Err run.Memory) tells ends left counts = tells_starved running_in_turn names script before after faults now [] told left tells (inl counts)

  pub tells_at_once : (ended : Result (Vec Line Global) RunStop) → TellsEnded ended told → EndsAtOnce ended before after names script → LeavesUntoldAtOnce ended before after names script
      → CountsAtOnce ended faults now → TellsRan running_at_once told names script before after faults now
  tells_at_once (Ok lines) tells ends left counts = tells_whole running_at_once names script before after faults now lines.items told left tells ends counts
  tells_at_once (Err (run.DiskFault lines)) tells ends left counts = tells_cut running_at_once names script before after faults now lines.items told left tells ends counts
  tells_at_once (Err (run.Unopened opened)) tells ends left counts = tells_unopened running_at_once names script before after faults now opened told tells ends counts
  tells_at_once (Err run.Memory) tells ends left counts = tells_starved running_at_once names script before after faults now [] told left tells counts

-- no memory was left for what there is to tell of a workload that was run
pub untold_run : (e ended : Result (Vec Line Global) RunStop) → ended ≡ e → (before after : Option (List Step)) (faults now : ℕ) (names : List (List ℕ)) (script : List ScriptLine)
    → LeavesUntold in_lists ended before after names script → CountsRun ended faults now → Begun e → LeavesScript (running_over in_lists) names script before after × ((now ≡ faults) ⊎ Rose faults now)
untold_run e ended is before after faults now names script left counts begun =
    of e begun (subst (λ (r : Result (Vec Line Global) RunStop). LeavesUntold in_lists r before after names script) is left) (subst (λ (r : Result (Vec Line Global) RunStop). CountsRun r faults now) is counts)
  where
    of : (e : Result (Vec Line Global) RunStop) → Begun e → LeavesUntold in_lists e before after names script → CountsRun e faults now → LeavesScript (running_over in_lists) names script before after × ((now ≡ faults) ⊎ Rose faults now)
    of (Ok lines) begun left counts = (inr left, inl counts)
    of (Err (run.DiskFault lines)) begun left counts = (inr left, inr counts)
    of (Err run.Memory) begun left counts = (inr left, inl counts)
    of (Err (run.Unopened stop)) begun left counts = absurd begun

module _ (ended : Result (Vec Line Global) RunStop) (tables : AreInTables ended) (before after : Option (List Step)) (faults now : ℕ) where
  -- the script was run to its end
  module _ (lines : Vec Line Global) (is : ended ≡ Ok lines) (slice : List Line) (same : slice ≡ lines.items) (fits : FitAs slice) (counts : CountsRun ended faults now) where
    sound : now ≡ faults
    sound = subst (λ (r : Result (Vec Line Global) RunStop). CountsRun r faults now) is counts

    fit : All FitsTypes lines.items
    fit = subst FitAs same fits (subst AreInTables is tables)

    pub tells_counts : (transactions sessions : ℕ) (text : List ℕ) → TellsCounted transactions sessions slice text
        → EndsRun in_lists ended before after (names_of transactions sessions) (lines_of transactions sessions)
        → TellsCounts transactions sessions before after text × (now ≡ faults)
    tells_counts transactions sessions text counted ends =
        let ran = subst (λ (r : Result (Vec Line Global) RunStop). EndsRun in_lists r before after (names_of transactions sessions) (lines_of transactions sessions)) is ends fit in (
          record {
            state = ran.0;
            found = ran.1;
            lines = lines.items;
            ran = ran.2;
            counted = subst (λ (ls : List Line). TellsCounted transactions sessions ls text) same counted;
          },
          sound,
        )

  -- the disk failed on the way
  module _ (lines : Vec Line Global) (is : ended ≡ Err (run.DiskFault lines)) (slice : List Line) (same : slice ≡ lines.items) (fits : FitAs slice) (counts : CountsRun ended faults now) where
    rose : Rose faults now
    rose = subst (λ (r : Result (Vec Line Global) RunStop). CountsRun r faults now) is counts

    fit_cut : All FitsTypes lines.items
    fit_cut = subst FitAs same fits (subst AreInTables is tables)

    pub tells_failed : (transactions sessions : ℕ) → EndsRun in_lists ended before after (names_of transactions sessions) (lines_of transactions sessions)
        → TellsMaking transactions sessions (Err stop.DiskFault) before after faults now
    tells_failed transactions sessions ends =
        let ran = subst (λ (r : Result (Vec Line Global) RunStop). EndsRun in_lists r before after (names_of transactions sessions) (lines_of transactions sessions)) is ends fit_cut in
        (inr (ran.0, ran.1, lines.items, ran.2), rose)

  -- nothing was run
  module _ (opened : DiskStop) (is : ended ≡ Err (run.Unopened opened)) (told : Stop)
      (tells : StopsRun opened before after → CountsStop opened faults now → NotOpened told before after faults now) (counts : CountsRun ended faults now) where
    pub tells_unmade : (transactions sessions : ℕ) → EndsRun in_lists ended before after (names_of transactions sessions) (lines_of transactions sessions)
        → TellsMaking transactions sessions (Err told) before after faults now
    tells_unmade transactions sessions ends =
        of_making told (tells
        (subst (λ (r : Result (Vec Line Global) RunStop). EndsRun in_lists r before after (names_of transactions sessions) (lines_of transactions sessions)) is ends)
        (subst (λ (r : Result (Vec Line Global) RunStop). CountsRun r faults now) is counts))
      where
        of_making : (s : Stop) → NotOpened s before after faults now → TellsMaking transactions sessions (Err s) before after faults now
        of_making stop.Memory why = (inl why.0, inl why.1)
        of_making stop.DiskFault why = (inl why.0, why.1)
        of_making s why = why
