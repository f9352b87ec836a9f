-- How the commands end that read no source.
use Rattle.std.proofs.Common.{◌≡◌, ◌≢◌, ℕ, ◌≤◌, ◌⊎◌, List, Result, Ok, Err, subst, inl, inr, arith}
use Rattle.erm_made.specs.Law.{CountsAddUp}
use Rattle.erm_outside.specs.Faults.{Rose}
use Rattle.erm_disk_run.specs.declared.stops.DiskStop.TheVariants as disk
use Rattle.erm_disk_run.specs.Stops.{StopsFor}
use Rattle.erm_top.specs.Around.{Around, LeavesSource}
use Rattle.erm_top.specs.Inspections.{CheckpointEnds, TellsCheckpoint}
use Rattle.erm_top.specs.Makes.{FailsMaking, MakeEnds, TellsMade}
use Rattle.erm_top.specs.Runs.{IsAtEnd}
use Rattle.erm_top.specs.Stopped.{TellsMaking, TellsSaved}
use Rattle.erm_top.specs.declared.printing.Stop.{Stop}
use Rattle.erm_top.specs.declared.printing.Stop.TheVariants as stop
use Rattle.erm_top.proofs.Printed.{PutsAround, at_end, bad_line, disk_fault, known, no_base, no_memory, of_disk, of_sound, read_fault, sink_fault, success, too_long}
use Rattle.erm_top.proofs.Ran.{end_printed}
use Rattle.erm_top.proofs.Rooms.{OneRecovery, has_room}

-- a checkpoint
module _ (one : OneRecovery) (status : ℕ) (a : Around) (source : LeavesSource a) where
  abbrev Saved : Result (List ℕ) Stop → Type 0
  Saved told = TellsSaved told a.told_before a.told_after a.disk_before a.disk_after

  saved_soundly : (told : Result (List ℕ) Stop) → Saved told → PutsAround told status a → status ≢ 6 → a.disk_after ≡ a.disk_before
  saved_soundly (Ok text) saved put other = saved.1
  saved_soundly (Err stop.DiskFault) saved put other = absurd (other put.0)
  saved_soundly (Err stop.NoBase) saved put other = saved.1
  saved_soundly (Err (stop.AtEnd text)) saved put other = saved.1
  saved_soundly (Err stop.Memory) saved put other = saved.1
  saved_soundly (Err s) saved put other = absurd saved

  module _ (told : Result (List ℕ) Stop) (saved : Saved told) (put : PutsAround told status a) where
    at : (t : Result (List ℕ) Stop) → told ≡ t → Saved t
    at t e = subst Saved e saved

    tells_it : (text : List ℕ) → told ≡ Ok text → TellsCheckpoint a text
    tells_it text e = let t = (at (Ok text) e).0 in record { state = t.0; found = t.1; lines = t.2; was = t.3; text_is = t.4 }

    seven : status ≡ 7 → StopsFor disk.NoBase a.told_before a.told_after
    seven e = (at (Err stop.NoBase) (no_base status a told put e).0).0

    ten : status ≡ 10 → IsAtEnd a
    ten e = let p = at_end status a told put e in end_printed p.0 a (at (Err (stop.AtEnd p.0)) p.1).0 p.2

    six : status ≡ 6 → Rose a.disk_before a.disk_after
    six e = elim (disk_fault status a told put e) [ inl p ↦ (at (Err stop.DiskFault) p.0).1 | inr p ↦ absurd (at (Err (stop.Cut p.0)) p.1) ]

    one_of : (status ≡ 0) ⊎ (status ≡ 5) ⊎ (status ≡ 6) ⊎ (status ≡ 7) ⊎ (status ≡ 8) ⊎ (status ≡ 10)
    one_of = of_disk status (known status a told put) (λ e. let p = bad_line status a told put e in at (Err (stop.BadLine p.0)) p.1)
        (λ e. at (Err stop.ReadFault) (read_fault status a told put e).0) (λ e. at (Err stop.TooLong) (too_long status a told put e).0)

    pub checkpoint_ends : CheckpointEnds status a
    checkpoint_ends = record {
      known = one_of;
      success = λ e. let p = success status a told put e in (p.0, tells_it p.0 p.1, p.2);
      sink_fault = λ e. let p = sink_fault status a told put e in (p.0, tells_it p.0 p.1, p.2);
      disk_fault = λ e. elim (disk_fault status a told put e) [
        | inl p ↦ (six e, p.1, (at (Err stop.DiskFault) p.0).0)
        | inr p ↦ absurd (at (Err (stop.Cut p.0)) p.1)
      ];
      no_base = λ e. ((no_base status a told put e).1, seven e);
      no_memory = λ e. let p = no_memory status a told put e in (p.1, (at (Err stop.Memory) p.0).0);
      at_end = ten;
      source = source;
      disk_sound = saved_soundly told saved put;
      complete = λ calm. of_sound status one_of (λ e. calm.sink (sink_fault status a told put e).2.failed) (λ e. calm.disk (six e));
      room = has_room one status a seven ten;
    }

-- a workload that is run
module _ (one : OneRecovery) (sum : CountsAddUp) (transactions sessions : ℕ) (some : 1 ≤ sessions) (status : ℕ) (a : Around) (source : LeavesSource a) where
  abbrev Making : Result (List ℕ) Stop → Type 0
  Making told = TellsMaking transactions sessions told a.told_before a.told_after a.disk_before a.disk_after

  made_soundly : (told : Result (List ℕ) Stop) → Making told → PutsAround told status a → status ≢ 6 → (a.disk_after ≡ a.disk_before) ⊎ ((status ≡ 8) × Rose a.disk_before a.disk_after)
  made_soundly (Ok text) made put other = inl made.1
  made_soundly (Err stop.DiskFault) made put other = absurd (other put.0)
  made_soundly (Err stop.NoBase) made put other = inl made.1
  made_soundly (Err (stop.AtEnd text)) made put other = inl made.1
  made_soundly (Err stop.Memory) (left, inl same) put other = inl same
  made_soundly (Err stop.Memory) (left, inr rose) put other = inr (put.0, rose)
  made_soundly (Err s) made put other = absurd made

  module _ (told : Result (List ℕ) Stop) (making : Making told) (put : PutsAround told status a) where
    by : (t : Result (List ℕ) Stop) → told ≡ t → Making t
    by t e = subst Making e making

    tells_made : (text : List ℕ) → told ≡ Ok text → TellsMade transactions sessions a text
    tells_made text e =
        let t = (by (Ok text) e).0 in
        record {
          state = t.state;
          found = t.found;
          lines = t.lines;
          ran = t.ran;
          made = t.counted.made;
          counts = t.counted.counts;
          adds_up = λ decided.
              let all = sum t.ran.opening transactions sessions t.lines (record { some = some; good = t.ran.tight.good; decided = decided }) in
              omega (arith, all, t.counted.counts.committed, t.counted.counts.excluded, t.counted.counts.owned);
          text_is = t.counted.text_is;
        }

    fails : told ≡ Err stop.DiskFault → FailsMaking transactions sessions a
    fails e = elim (by (Err stop.DiskFault) e).0 [ inl stops ↦ inl stops | inr cut ↦ inr (cut.0, cut.1, (cut.2, cut.3)) ]

    no_seven : status ≡ 7 → StopsFor disk.NoBase a.told_before a.told_after
    no_seven e = (by (Err stop.NoBase) (no_base status a told put e).0).0

    no_ten : status ≡ 10 → IsAtEnd a
    no_ten e = let p = at_end status a told put e in end_printed p.0 a (by (Err (stop.AtEnd p.0)) p.1).0 p.2

    rose : status ≡ 6 → Rose a.disk_before a.disk_after
    rose e = elim (disk_fault status a told put e) [ inl p ↦ (by (Err stop.DiskFault) p.0).1 | inr p ↦ absurd (by (Err (stop.Cut p.0)) p.1) ]

    one_made : (status ≡ 0) ⊎ (status ≡ 5) ⊎ (status ≡ 6) ⊎ (status ≡ 7) ⊎ (status ≡ 8) ⊎ (status ≡ 10)
    one_made = of_disk status (known status a told put) (λ e. let p = bad_line status a told put e in by (Err (stop.BadLine p.0)) p.1)
        (λ e. by (Err stop.ReadFault) (read_fault status a told put e).0) (λ e. by (Err stop.TooLong) (too_long status a told put e).0)

    pub make_ends : MakeEnds transactions sessions status a
    make_ends = record {
      known = one_made;
      success = λ e. let p = success status a told put e in (p.0, tells_made p.0 p.1, p.2);
      sink_fault = λ e. let p = sink_fault status a told put e in (p.0, tells_made p.0 p.1, p.2);
      disk_fault = λ e. elim (disk_fault status a told put e) [
        | inl p ↦ (rose e, p.1, fails p.0)
        | inr p ↦ absurd (by (Err (stop.Cut p.0)) p.1)
      ];
      no_base = λ e. ((no_base status a told put e).1, no_seven e);
      no_memory = λ e. let p = no_memory status a told put e in (p.1, (by (Err stop.Memory) p.0).0);
      at_end = no_ten;
      source = source;
      disk_sound = made_soundly told making put;
      complete = λ calm. of_sound status one_made (λ e. calm.sink (sink_fault status a told put e).2.failed) (λ e. calm.disk (rose e));
      room = has_room one status a no_seven no_ten;
    }
