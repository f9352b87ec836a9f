-- What comes of the jobs of programs.
use Rattle.std.specs.Prelude.{◌≡◌, List, None, Some}
use Rattle.erm_client.specs.declared.client.Finished.{Finished}
use Rattle.erm_client_beside.specs.declared.ran.ProgramRun.{ProgramRun}
use Rattle.erm_client_beside.specs.Lists.{AreTripled}
use Rattle.erm_client_threads.specs.declared.job.Job.{Job}

-- its client was closed, or left
pub record HasFinished {S T P X : Type 0} (j : Job S T P X) : Type 0 where
  pub gone : j.client ≡ None
  pub left : Finished S T
  pub is : j.finished ≡ Some left

-- A session and a program are those of a job behind its thread.
pub record IsBack {S T P X : Type 0} (j : Job S T P X) (s : S) (r : ProgramRun P) : Type 0 where
  pub left : Finished S T
  pub is : j.finished ≡ Some left
  pub session_is : s ≡ left.session
  pub run_is : r ≡ record { program = j.program; transcript = left.transcript; closed = left.closed }

-- so are all, in order
abbrev pub AreBack : {S T P X : Type 0} → List (Job S T P X) → List S → List (ProgramRun P) → Type 0
AreBack jobs sessions runs = AreTripled (λ k j s r. IsBack j s r) jobs sessions runs
