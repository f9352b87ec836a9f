-- The jobs of the sessions' workers, and what is asked of their lines.
use Rattle.std.specs.Prelude.{◌≡◌, ℕ, ◌+◌, ◌≤◌, List, [], length, map, Some, Vec, vec_capacity, vec_len}
use Rattle.std.specs.declared.alloc.Global.{Global}
use Rattle.std.specs.List.{All, slice_get}
use Rattle.erm_model.specs.Member.{◌∈◌}
use Rattle.erm_script.specs.declared.script.ScriptLine.{ScriptLine}
use Rattle.erm_threads.specs.declared.job.Job.{Job}
use Rattle.erm_worker.specs.Work.{MayBeAsked}
use Rattle.erm_run_beside.specs.declared.jobs.Part.{Part}
use Rattle.erm_run_beside.specs.declared.jobs.Room.{Room}

-- the lines of each session, in the order of the seats, from 1 on: each may be asked of a session
abbrev pub AreLines : List (List ScriptLine) → Type 0
AreLines parts = (k : ℕ) (lines : List ScriptLine) → slice_get parts k ≡ Some lines → (l : ScriptLine) → l ∈ lines → (l.session ≡ k + 1) × MayBeAsked l.command

-- none of its lines is answered, and there is room for an answer to each of them
pub record HasRoom (p : Part) : Type 0 where
  pub none : p.answers.items ≡ []
  pub room : length p.lines.items ≤ vec_capacity p.answers

-- There is room for the work of sessions with the lines of these parts: for their answers, for a job for each, and for what comes of it. None has a job yet.
pub record HasAllRoom {S T : Type 0} (parts : Vec (Vec ScriptLine Global) Global) (r : Room S T) : Type 0 where
  pub lines : map (λ p. p.lines.items) r.parts.items ≡ map (λ p. p.items) parts.items
  pub many : vec_len r.parts ≡ vec_len parts
  pub answers : All HasRoom r.parts.items
  pub no_job : r.jobs.items ≡ []
  pub none_done : r.done.items ≡ []
  pub jobs : vec_len r.parts ≤ vec_capacity r.jobs
  pub done : vec_len r.parts ≤ vec_capacity r.done

-- the job of a session with these lines, with room for their answers
pub record IsJobOf {S T : Type 0} (session : S) (lines : List ScriptLine) (j : Job S T) : Type 0 where
  pub session_is : j.session ≡ session
  pub lines_are : j.lines.items ≡ lines
  pub none : j.answers.items ≡ []
  pub room : length lines ≤ vec_capacity j.answers

-- so many sessions have a job each, in order
pub record AreJobs {S T : Type 0} (sessions : List S) (parts : List (List ScriptLine)) (jobs : List (Job S T)) : Type 0 where
  pub many : length jobs ≡ length sessions
  pub lines : length jobs ≡ length parts
  pub each : (k : ℕ) (s : S) (ls : List ScriptLine) (j : Job S T) → slice_get sessions k ≡ Some s → slice_get parts k ≡ Some ls → slice_get jobs k ≡ Some j → IsJobOf s ls j
