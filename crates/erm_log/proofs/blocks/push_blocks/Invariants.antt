use Rattle.std.proofs.Common.{◌≡◌, ℕ, ◌-◌, List, Option}
use Rattle.std.specs.Prelude.{IfSome}
use Rattle.erm_outside.specs.Disk.{Step, contents}
use Rattle.erm_recover.specs.declared.tail.Tail.{Tail}
use Rattle.erm_log.proofs.Walking.{WalksOn}
use Rattle.erm_log.proofs.blocks.push_blocks.Given as goal

-- blocks were told up to here; the disk tells what it told
pub record Walking (told_old told_new : Option (List Step)) (start tail : Tail) (end : ℕ) (old now : List ℕ) : Type 0 where
  pub walks : IfSome told_old (λ steps. WalksOn (contents steps) start tail end old now)
  pub told : told_new ≡ told_old

abbrev pub invariant-loop-tail : goal.invariant-loop-tail
invariant-loop-tail g l = Walking (g.D.Disk.told l.fn.disk) (g.D.Disk.told l.disk) l.fn.start l.tail l.end l.fn.out.items l.out.items

abbrev pub decreases-loop-tail : goal.decreases-loop-tail
decreases-loop-tail g l = l.end - l.tail.at
