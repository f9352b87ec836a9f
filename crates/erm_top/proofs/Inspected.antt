-- How the commands end that tell what is on a disk.
use Rattle.std.proofs.Common.{◌≡◌, ◌≢◌, ℕ, ◌⊎◌, List, IfSome, IfOk, Result, Ok, Err, Vec, refl, sym, subst, inl, inr}
use Rattle.std.specs.declared.alloc.Global.{Global}
use Rattle.erm_recover.specs.declared.stop.RecoverStop.{RecoverStop}
use Rattle.erm_recover.specs.declared.stop.RecoverStop.TheVariants as recover
use Rattle.erm_node.specs.Sound.{sound_law}
use Rattle.erm_outside.specs.Disk.{Step}
use Rattle.erm_outside.specs.Faults.{Rose}
use Rattle.erm_recover.specs.Recovering.{NoBaseTold}
use Rattle.erm_report.specs.declared.line.Line.{Line}
use Rattle.erm_top.specs.Around.{Around, LeavesSource}
use Rattle.erm_top.specs.Inspections.{InspectionEnds, TellsDisk}
use Rattle.erm_top.specs.Stopped.{TellsFound}
use Rattle.erm_top.specs.declared.printing.Stop.{Stop}
use Rattle.erm_top.specs.declared.printing.Stop.TheVariants as stop
use Rattle.erm_top.proofs.Printed.{PutsAround, at_end, bad_line, disk_fault, known, no_base, no_memory, of_disk, read_fault, sink_fault, success, too_long}
use Rattle.erm_top.proofs.Rooms.{recovers_from_some}

module _ (Tells : List Step → List Line → Type 0) (HasForm : List Line → Type 0) (status : ℕ) (a : Around) where
  -- what there is to tell, by cases
  abbrev Inspected : Result (List ℕ) Stop → Type 0
  Inspected (Ok text) = TellsDisk Tells HasForm a text × (a.disk_after ≡ a.disk_before)
  Inspected (Err stop.DiskFault) = Rose a.disk_before a.disk_after
  Inspected (Err stop.NoBase) = NoBaseTold sound_law.meets a.told_before × (a.disk_after ≡ a.disk_before)
  Inspected (Err stop.Memory) = a.disk_after ≡ a.disk_before
  Inspected (Err s) = ⊥

  pub inspected : (found : Result (Vec Line Global) RecoverStop) → IfOk found (λ lines. IfSome a.told_before (λ steps. Tells steps lines.items)) → IfOk found (λ lines. HasForm lines.items)
      → (found ≡ Err recover.NoBase → NoBaseTold sound_law.meets a.told_before) → (found ≢ Err recover.DiskFault → a.disk_after ≡ a.disk_before)
      → (found ≡ Err recover.DiskFault → Rose a.disk_before a.disk_after) → (told : Result (List ℕ) Stop) → TellsFound found told → Inspected told
  inspected (Ok lines) ok form none sound fault told (inl e) =
      subst Inspected (sym e) (record { lines = lines.items; tells = ok; form = form; text_is = refl }, sound (λ x. cc))
  inspected (Ok lines) ok form none sound fault told (inr e) = subst Inspected (sym e) (sound (λ x. cc))
  inspected (Err recover.DiskFault) ok form none sound fault told e = subst Inspected (sym e) (fault refl)
  inspected (Err recover.NoBase) ok form none sound fault told e = subst Inspected (sym e) (none refl, sound (λ x. cc))
  inspected (Err recover.Memory) ok form none sound fault told e = subst Inspected (sym e) (sound (λ x. cc))

  soundly : (told : Result (List ℕ) Stop) → Inspected told → PutsAround told status a → status ≢ 6 → a.disk_after ≡ a.disk_before
  soundly (Ok text) is put other = is.1
  soundly (Err stop.DiskFault) is put other = absurd (other put.0)
  soundly (Err stop.NoBase) is put other = is.1
  soundly (Err stop.Memory) is put other = is
  soundly (Err s) is put other = absurd is

  module _ (told : Result (List ℕ) Stop) (is : Inspected told) (put : PutsAround told status a) where
    at : (t : Result (List ℕ) Stop) → told ≡ t → Inspected t
    at t e = subst Inspected e is

    six : status ≡ 6 → Rose a.disk_before a.disk_after
    six e = elim (disk_fault status a told put e) [ inl p ↦ at (Err stop.DiskFault) p.0 | inr p ↦ absurd (at (Err (stop.Cut p.0)) p.1) ]

    not_ten : status ≢ 10
    not_ten e = let p = at_end status a told put e in at (Err (stop.AtEnd p.0)) p.1

    but_ten : (status ≡ 0) ⊎ (status ≡ 5) ⊎ (status ≡ 6) ⊎ (status ≡ 7) ⊎ (status ≡ 8) ⊎ (status ≡ 10) → (status ≡ 0) ⊎ (status ≡ 5) ⊎ (status ≡ 6) ⊎ (status ≡ 7) ⊎ (status ≡ 8)
    but_ten (inl e) = inl e
    but_ten (inr (inl e)) = inr (inl e)
    but_ten (inr (inr (inl e))) = inr (inr (inl e))
    but_ten (inr (inr (inr (inl e)))) = inr (inr (inr (inl e)))
    but_ten (inr (inr (inr (inr (inl e))))) = inr (inr (inr (inr e)))
    but_ten (inr (inr (inr (inr (inr e))))) = absurd (not_ten e)

    one_of : (status ≡ 0) ⊎ (status ≡ 5) ⊎ (status ≡ 6) ⊎ (status ≡ 7) ⊎ (status ≡ 8)
    one_of = but_ten (of_disk status (known status a told put) (λ e. let p = bad_line status a told put e in at (Err (stop.BadLine p.0)) p.1)
        (λ e. at (Err stop.ReadFault) (read_fault status a told put e).0) (λ e. at (Err stop.TooLong) (too_long status a told put e).0))

    unfailed : (status ≡ 0) ⊎ (status ≡ 5) ⊎ (status ≡ 6) ⊎ (status ≡ 7) ⊎ (status ≡ 8) → status ≢ 5 → status ≢ 6 → (status ≡ 0) ⊎ (status ≡ 7) ⊎ (status ≡ 8)
    unfailed (inl e) five six = inl e
    unfailed (inr (inl e)) five six = absurd (five e)
    unfailed (inr (inr (inl e))) five six = absurd (six e)
    unfailed (inr (inr (inr more))) five six = inr more

    none : status ≡ 7 → NoBaseTold sound_law.meets a.told_before
    none e = (at (Err stop.NoBase) (no_base status a told put e).0).0

    pub inspection_ends : LeavesSource a → a.told_after ≡ a.told_before → InspectionEnds Tells HasForm status a
    inspection_ends source still = record {
      known = one_of;
      success = λ e. let p = success status a told put e in (p.0, (at (Ok p.0) p.1).0, p.2);
      sink_fault = λ e. let p = sink_fault status a told put e in (p.0, (at (Ok p.0) p.1).0, p.2);
      disk_fault = λ e. elim (disk_fault status a told put e) [ inl p ↦ (six e, p.1) | inr p ↦ absurd (at (Err (stop.Cut p.0)) p.1) ];
      no_base = λ e. (none e, (no_base status a told put e).1);
      no_memory = λ e. (no_memory status a told put e).1;
      source = source;
      still = still;
      disk_sound = soundly told is put;
      complete = λ calm. unfailed one_of (λ e. calm.sink (sink_fault status a told put e).2.failed) (λ e. calm.disk (six e));
      recovers = λ state r e. recovers_from_some state a r (none e);
    }
