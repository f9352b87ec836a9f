-- How the commands `run` and `threads` end.
use Rattle.std.proofs.Common.{◌≡◌, ◌≢◌, ℕ, ◌+◌, ◌<◌, ◌≤◌, ◌⊎◌, List, [], length, drop, Option, Some, IfSome, Result, Ok, Err, subst, inl, inr, arith}
use Rattle.erm_outside.specs.Faults.{Rose}
use Rattle.erm_script.specs.Faults.{IsFirstBadLine}
use Rattle.erm_script.specs.Script.{IsScript}
use Rattle.erm_script.specs.declared.script.ScriptLine.{ScriptLine}
use Rattle.erm_disk_run.specs.declared.stops.DiskStop.TheVariants as disk
use Rattle.erm_disk_run.specs.Stops.{StopsFor}
use Rattle.erm_top.specs.Around.{Around, PrintsText, TakesMore, WasReadWith}
use Rattle.erm_top.specs.Running.{Running}
use Rattle.erm_top.specs.Runs.{IsAtEnd, LeftByMemory, NothingFailed, Refused, Reports, ReportsCut, ScriptEnds, SpellScript, Starved}
use Rattle.erm_top.specs.Stopped.{LeavesScript, NotRead, TellsEnd, TellsRan}
use Rattle.erm_top.specs.Told.{TookAtMost, WasRead}
use Rattle.erm_top.specs.declared.printing.Stop.{Stop}
use Rattle.erm_top.specs.declared.printing.Stop.TheVariants as stop
use Rattle.erm_top.specs.declared.reading.TheConstants.{SCRIPT_BYTES}
use Rattle.erm_top.proofs.Printed.{PutsAround, at_end, bad_line, disk_fault, known, no_base, no_memory, of_disk, of_sound, read_fault, sink_fault, success, too_long}
use Rattle.erm_top.proofs.Rooms.{OneRecovery, has_room}

-- the line of an end that was found, printed
pub end_printed : (text : List ℕ) (a : Around) → TellsEnd text a.told_before a.told_after → PrintsText text a → IsAtEnd a
end_printed text a (inl (run, is, stops)) put = inl (run, subst (λ (t : List ℕ). PrintsText t a) is put, stops)
end_printed text a (inr (tail, is, stops)) put = inr (tail, subst (λ (t : List ℕ). PrintsText t a) is put, stops)

-- bytes that were read are those that the source told
told_bytes : (Such : List ℕ → Type 0) (a : Around) (bytes : List ℕ) → a.left_before ≡ Some bytes → (read : WasReadWith Such a) → Such bytes
told_bytes Such a bytes is read =
    let told : IfSome (Some bytes) (λ left. (read.bytes ≡ left) × (a.left_after ≡ Some [])) = subst (λ (o : Option (List ℕ)). IfSome o (λ left. (read.bytes ≡ left) × (a.left_after ≡ Some []))) is read.read.all in
    subst Such told.0 read.such

not_refused : (r : Running) (a : Around) (bytes : List ℕ) → a.left_before ≡ Some bytes → SpellScript r bytes → Refused r a → ⊥
not_refused r a bytes is spelled refused =
    (told_bytes (λ bytes. IsFirstBadLine r.grammar bytes refused.number refused.kind) a bytes is refused.read).none spelled.0 spelled.1 spelled.2

not_more : (a : Around) (bytes : List ℕ) → a.left_before ≡ Some bytes → length bytes ≤ SCRIPT_BYTES → TakesMore SCRIPT_BYTES a → ⊥
not_more a bytes is short more =
    let told : IfSome (Some bytes) (λ bytes. (n : ℕ) × (SCRIPT_BYTES < n) × (n ≤ length bytes) × (a.left_after ≡ Some (drop n bytes))) =
    subst (λ (o : Option (List ℕ)). IfSome o (λ bytes. (n : ℕ) × (SCRIPT_BYTES < n) × (n ≤ length bytes) × (a.left_after ≡ Some (drop n bytes)))) is more in
    omega (arith, told.1, told.2, short)

module _ (one : OneRecovery) (r : Running) (status : ℕ) (a : Around) (taken : TookAtMost (SCRIPT_BYTES + 1) a.left_before a.left_after) where
  abbrev Ran : Result (List ℕ) Stop → List (List ℕ) → List ScriptLine → Type 0
  Ran told names script = TellsRan r told names script a.told_before a.told_after a.disk_before a.disk_after

  -- the disk did not fail with another status, where memory did not run out
  ran_soundly : (told : Result (List ℕ) Stop) (names : List (List ℕ)) (script : List ScriptLine) → Ran told names script → PutsAround told status a → status ≢ 6
      → (a.disk_after ≡ a.disk_before) ⊎ ((status ≡ 8) × Rose a.disk_before a.disk_after)
  ran_soundly (Ok text) names script ran put other = inl ran.1
  ran_soundly (Err (stop.Cut text)) names script ran put other = absurd (other put.0)
  ran_soundly (Err stop.DiskFault) names script ran put other = absurd (other put.0)
  ran_soundly (Err stop.NoBase) names script ran put other = inl ran.1
  ran_soundly (Err (stop.AtEnd text)) names script ran put other = inl ran.1
  ran_soundly (Err stop.Memory) names script (left, inl same) put other = inl same
  ran_soundly (Err stop.Memory) names script (left, inr rose) put other = inr (put.0, rose)
  ran_soundly (Err s) names script ran put other = absurd ran

  -- a script was read, and run or not
  module _ (told : Result (List ℕ) Stop) (bytes : List ℕ) (names : List (List ℕ)) (script : List ScriptLine) (read : WasRead bytes a.left_before a.left_after)
      (is : IsScript r.grammar bytes names script) (ran : Ran told names script) (put : PutsAround told status a) where
    at : (t : Result (List ℕ) Stop) → told ≡ t → Ran t names script
    at t e = subst (λ (x : Result (List ℕ) Stop). Ran x names script) e ran

    reading : (Such : List ℕ → Type 0) → Such bytes → WasReadWith Such a
    reading Such such = record { bytes = bytes; read = read; such = such }

    spelled : WasReadWith (SpellScript r) a
    spelled = reading (SpellScript r) (names, script, is)

    reports : (text : List ℕ) → told ≡ Ok text → WasReadWith (λ bytes. Reports r a bytes text) a
    reports text e = let t = (at (Ok text) e).0 in
        reading (λ bytes. Reports r a bytes text) (record { names = names; script = script; spelled = is; state = t.state; found = t.found; lines = t.lines; ran = t.ran; text_is = t.text_is })

    reports_cut : (text : List ℕ) → told ≡ Err (stop.Cut text) → WasReadWith (λ bytes. ReportsCut r a bytes text) a
    reports_cut text e = let t = (at (Err (stop.Cut text)) e).0 in
        reading (λ bytes. ReportsCut r a bytes text) (record { names = names; script = script; spelled = is; state = t.state; found = t.found; lines = t.lines; cut = t.cut; text_is = t.text_is })

    starved : LeavesScript r names script a.told_before a.told_after → LeftByMemory r a
    starved (inl keeps) = inl keeps
    starved (inr was) = inr (reading (Starved r a) (record { names = names; script = script; spelled = is; state = was.0; found = was.1; was = was.2 }))

    not_three : status ≢ 3
    not_three e = let p = bad_line status a told put e in at (Err (stop.BadLine p.0)) p.1

    not_four : status ≢ 4
    not_four e = at (Err stop.ReadFault) (read_fault status a told put e).0

    not_nine : status ≢ 9
    not_nine e = at (Err stop.TooLong) (too_long status a told put e).0

    seven : status ≡ 7 → StopsFor disk.NoBase a.told_before a.told_after
    seven e = (at (Err stop.NoBase) (no_base status a told put e).0).0

    ten : status ≡ 10 → IsAtEnd a
    ten e = let p = at_end status a told put e in end_printed p.0 a (at (Err (stop.AtEnd p.0)) p.1).0 p.2

    six : status ≡ 6 → Rose a.disk_before a.disk_after
    six e = elim (disk_fault status a told put e) [ inl p ↦ (at (Err stop.DiskFault) p.0).1 | inr p ↦ (at (Err (stop.Cut p.0)) p.1).1 ]

    pub ran_ends : a.source_after ≡ a.source_before → ScriptEnds r status a
    ran_ends sound = record {
      known = known status a told put;
      success = λ e. let p = success status a told put e in (p.0, reports p.0 p.1, p.2);
      sink_fault = λ e. let p = sink_fault status a told put e in (p.0, reports p.0 p.1, p.2);
      bad_line = λ e. absurd (not_three e);
      read_fault = λ e. absurd (not_four e);
      disk_fault = λ e. (
        six e,
        elim (disk_fault status a told put e) [
          | inl p ↦ inl (spelled, p.1, (at (Err stop.DiskFault) p.0).0)
          | inr p ↦ inr (p.0, reports_cut p.0 p.1, p.2)
        ],
      );
      no_base = λ e. (spelled, (no_base status a told put e).1, seven e);
      no_memory = λ e. let p = no_memory status a told put e in (p.1, starved (at (Err stop.Memory) p.0).0);
      too_long = λ e. absurd (not_nine e);
      at_end = λ e. (spelled, ten e);
      source_sound = λ _. sound;
      disk_sound = ran_soundly told names script ran put;
      taken = taken;
      complete = λ others left short spell calm. of_sound status (of_disk status (known status a told put) not_three not_four not_nine)
          (λ e. calm.sink (sink_fault status a told put e).2.failed) (λ e. calm.disk (six e));
      room = has_room one status a seven ten;
    }

  -- no script was read
  abbrev Unread : Result (List ℕ) Stop → Type 0
  Unread (Ok text) = ⊥
  Unread (Err s) = NotRead r.grammar s a.left_before a.left_after a.source_before a.source_after

  unread_soundly : (told : Result (List ℕ) Stop) → Unread told → PutsAround told status a → status ≢ 4 → a.source_after ≡ a.source_before
  unread_soundly (Ok text) unread put other = absurd unread
  unread_soundly (Err (stop.BadLine text)) unread put other = unread.1
  unread_soundly (Err stop.ReadFault) unread put other = absurd (other put.0)
  unread_soundly (Err stop.TooLong) unread put other = unread.1
  unread_soundly (Err stop.Memory) unread put other = unread
  unread_soundly (Err s) unread put other = absurd unread

  module _ (told : Result (List ℕ) Stop) (unread : Unread told) (put : PutsAround told status a) where
    why : (t : Result (List ℕ) Stop) → told ≡ t → Unread t
    why t e = subst Unread e unread

    none_reported : status ≢ 0
    none_reported e = let p = success status a told put e in why (Ok p.0) p.1

    none_cut : status ≢ 5
    none_cut e = let p = sink_fault status a told put e in why (Ok p.0) p.1

    not_six : status ≢ 6
    not_six e = elim (disk_fault status a told put e) [ inl p ↦ why (Err stop.DiskFault) p.0 | inr p ↦ why (Err (stop.Cut p.0)) p.1 ]

    not_seven : status ≢ 7
    not_seven e = why (Err stop.NoBase) (no_base status a told put e).0

    not_ten : status ≢ 10
    not_ten e = let p = at_end status a told put e in why (Err (stop.AtEnd p.0)) p.1

    refused : status ≡ 3 → Refused r a
    refused e =
        let p = bad_line status a told put e in
        let t = (why (Err (stop.BadLine p.0)) p.1).0 in
        record {
          number = t.2.0;
          kind = t.2.1;
          read = record { bytes = t.0; read = t.1; such = t.2.3 };
          printed = subst (λ (text : List ℕ). PrintsText text a) t.2.2 p.2;
        }

    too_many : status ≡ 9 → TakesMore SCRIPT_BYTES a
    too_many e = (why (Err stop.TooLong) (too_long status a told put e).0).0

    source_failed : status ≡ 4 → Rose a.source_before a.source_after
    source_failed e = why (Err stop.ReadFault) (read_fault status a told put e).0

    completes : (bytes : List ℕ) → a.left_before ≡ Some bytes → length bytes ≤ SCRIPT_BYTES → SpellScript r bytes → NothingFailed a
        → (status ≡ 0) ⊎ (status ≡ 7) ⊎ (status ≡ 8) ⊎ (status ≡ 10)
    completes bytes left short spell calm =
        of_sound status (of_disk status (known status a told put) (λ e. not_refused r a bytes left spell (refused e)) (λ e. calm.source (source_failed e)) (λ e. not_more a bytes left short (too_many e)))
        none_cut not_six

    pub unread_ends : a.told_after ≡ a.told_before → a.disk_after ≡ a.disk_before → ScriptEnds r status a
    unread_ends still sound = record {
      known = known status a told put;
      success = λ e. absurd (none_reported e);
      sink_fault = λ e. absurd (none_cut e);
      bad_line = λ e. (refused e, record { told = still; sound = sound });
      read_fault = λ e. (source_failed e, (read_fault status a told put e).1, record { told = still; sound = sound });
      disk_fault = λ e. absurd (not_six e);
      no_base = λ e. absurd (not_seven e);
      no_memory = λ e. ((no_memory status a told put e).1, inl (inl still));
      too_long = λ e. (too_many e, (too_long status a told put e).1, record { told = still; sound = sound });
      at_end = λ e. absurd (not_ten e);
      source_sound = unread_soundly told unread put;
      disk_sound = λ _. inl sound;
      taken = taken;
      complete = completes;
      room = λ room. (not_seven, not_ten);
    }
