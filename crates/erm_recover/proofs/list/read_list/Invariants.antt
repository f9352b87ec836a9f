use Rattle.std.proofs.Common.{◌≡◌, ℕ, ◌-◌, ◌≤◌, List, Option}
use Rattle.std.specs.Prelude.{IfSome}
use Rattle.erm_model.specs.declared.limits.TheConstants.{LOG_END}
use Rattle.erm_model.specs.Rows.{Rows}
use Rattle.erm_outside.specs.Disk.{Step, contents}
use Rattle.erm_recover.specs.declared.tail.Tail.{Tail}
use Rattle.erm_recover.specs.Lists.{IsWithin, Progress, Reaches, progress_at}
use Rattle.erm_recover.proofs.list.read_list.Given as goal

-- parts were taken up to here; the disk tells what it told, and did not fail
pub record Listing (sound : Rows → Type 0) (told_old told_new : Option (List Step)) (faults_old faults_new : ℕ) (start now : Progress) (first tail : Tail) : Type 0 where
  pub reaches : IfSome told_old (λ steps. Reaches sound (contents steps) start now)
  pub told : told_new ≡ told_old
  pub faults : faults_new ≡ faults_old
  pub meets : sound now.state.rows
  pub within : IsWithin tail
  pub low : first.at ≤ tail.at

abbrev pub invariant-loop-next : goal.invariant-loop-next
invariant-loop-next g l =
    Listing g.T.RowLaw.law.meets (g.D.Disk.told l.fn.disk) (g.D.Disk.told l.disk) (g.D.Disk.faults l.fn.disk) (g.D.Disk.faults l.disk)
    (progress_at l.fn.start l.fn.rows l.fn.commits.items) (progress_at l.tail l.rows l.commits.items) l.fn.start l.tail

abbrev pub decreases-loop-next : goal.decreases-loop-next
decreases-loop-next g l = LOG_END - l.tail.at
