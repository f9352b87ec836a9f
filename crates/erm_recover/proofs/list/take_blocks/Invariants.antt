use Rattle.std.proofs.Common.{ℕ, List, ◌+◌, ◌-◌, ◌≤◌, length}
use Rattle.erm_model.specs.declared.limits.TheConstants.{LOG_END}
use Rattle.erm_model.specs.Rows.{Rows}
use Rattle.erm_recover.specs.declared.tail.Tail.{Tail}
use Rattle.erm_recover.specs.Lists.{Goes, IsWithin, Progress, progress_at}
use Rattle.erm_recover.proofs.list.take_blocks.Given as goal

-- blocks were taken up to here
pub record Taking (sound : Rows → Type 0) (words : List ℕ) (start now : Progress) (first tail : Tail) : Type 0 where
  pub goes : Goes sound words start now
  pub meets : sound now.state.rows
  pub within : IsWithin tail
  pub low : first.at ≤ tail.at
  pub there : tail.at ≤ first.at + length words

abbrev pub invariant-loop-next : goal.invariant-loop-next
invariant-loop-next g l = Taking g.T.RowLaw.law.meets l.words (progress_at l.start l.fn.rows l.fn.commits.items) (progress_at l.tail l.rows l.commits.items) l.start l.tail

abbrev pub decreases-loop-next : goal.decreases-loop-next
decreases-loop-next g l = LOG_END - l.tail.at
