-- What there is to tell where nothing comes behind what a disk holds, or where no memory was left for what was done to it.
use Rattle.std.proofs.Common.{◌≡◌, ℕ, ◌⊎◌, List, Option, Result, Ok, Err, Vec, refl, sym, subst, inl, inr}
use Rattle.std.specs.declared.alloc.Global.{Global}
use Rattle.erm_outside.specs.Disk.{Step}
use Rattle.erm_report.specs.Texts.{line_text}
use Rattle.erm_report.specs.declared.line.Line.{Line}
use Rattle.erm_report.specs.declared.line.Line.TheVariants as line
use Rattle.erm_disk_run.specs.declared.stops.DiskStop.{DiskStop}
use Rattle.erm_disk_run.specs.declared.stops.DiskStop.TheVariants as disk
use Rattle.erm_disk_run.specs.Saved.{CountsCheckpoint, EndsCheckpoint}
use Rattle.erm_disk_run.specs.Stops.{StopsFor}
use Rattle.erm_disk_run.proofs.Opened.{map_kept, once_told}
use Rattle.erm_disk_run.proofs.SlotsLeft.{older_saved}
use Rattle.erm_top.specs.Stopped.{NotOpened, NotSaved, TellsSaved}
use Rattle.erm_top.specs.declared.printing.Stop.{Stop}
use Rattle.erm_top.specs.declared.printing.Stop.TheVariants as stop

-- an end that was found leaves the disk as it was, whether it is told or not
module _ (told : Stop) (before after : Option (List Step)) (faults now : ℕ) (same : now ≡ faults) where
  abbrev Tells : Stop → Type 0
  Tells s = NotOpened s before after faults now

  pub tells_runs_end : (run : ℕ) → (told ≡ stop.AtEnd (line_text (line.RunsEnd run))) ⊎ (told ≡ stop.Memory) → StopsFor (disk.RunsEnd run) before after → Tells told
  tells_runs_end run (inl is) stops = subst Tells (sym is) (inl (run, refl, stops), same)
  tells_runs_end run (inr is) stops = subst Tells (sym is) (inl stops.2, same)

  pub tells_log_end : (tail : ℕ) → (told ≡ stop.AtEnd (line_text (line.LogEnd tail))) ⊎ (told ≡ stop.Memory) → StopsFor (disk.LogEnd tail) before after → Tells told
  tells_log_end tail (inl is) stops = subst Tells (sym is) (inr (tail, refl, stops), same)
  tells_log_end tail (inr is) stops = subst Tells (sym is) (inl stops.2, same)

-- where nothing was run no checkpoint is told
pub not_saved : (told : Stop) (before after : Option (List Step)) (faults now : ℕ) → NotOpened told before after faults now → NotSaved told before after faults now
not_saved stop.DiskFault before after faults now why = (map_kept before after why.0, why.1)
not_saved stop.Memory before after faults now why = (map_kept before after why.0, why.1)
not_saved told before after faults now why = why

-- a checkpoint that was taken keeps the map found
pub saved_untold : (ended : Result (Vec Line Global) DiskStop) (lines : Vec Line Global) → ended ≡ Ok lines → (before after : Option (List Step)) (faults now : ℕ)
    → EndsCheckpoint ended before after → CountsCheckpoint ended faults now → TellsSaved (Err stop.Memory) before after faults now
saved_untold ended lines is before after faults now ends counts =
    let was = subst (λ (r : Result (Vec Line Global) DiskStop). EndsCheckpoint r before after) is ends in
    (inr (was.0, was.1, once_told was.0 before after was.2.keeps, older_saved was.0 before after was.2.saved), subst (λ (r : Result (Vec Line Global) DiskStop). CountsCheckpoint r faults now) is counts)
