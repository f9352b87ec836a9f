-- What is so of a whole run, by how its parts ended.
use Rattle.std.proofs.Common.{◌≡◌, ℕ, ◌≤◌, List, length, Option, Ok, Err, IfOk, IfSome, OnOk, Vec, sym, ◌∙◌, subst, arith}
use Rattle.std.specs.Prelude.{Result}
use Rattle.std.specs.List.{slice_get}
use Rattle.std.specs.declared.alloc.Global.{Global}
use Rattle.std.proofs.lemmas.Option.{slice_get_past}
use Rattle.erm_model.specs.declared.outcome.Phase.TheVariants.{Idle}
use Rattle.erm_model.specs.Rows.{Rows}
use Rattle.erm_outside.specs.Faults.{Rose}
use Rattle.erm_report.specs.declared.answer.Answer.{Answer}
use Rattle.erm_script.specs.declared.script.ScriptLine.{ScriptLine}
use Rattle.erm_world.specs.World.{IsSession, View, phase_at}
use Rattle.erm_lines.specs.Executions.{IsExecution, line_moves}
use Rattle.erm_log_run.specs.declared.stops.LineStop.{LineStop}
use Rattle.erm_log_run.specs.declared.stops.LineStop.TheVariants.{DiskFault, Memory}
use Rattle.erm_log_run.specs.Closing.{IsClosing}
use Rattle.erm_log_run.specs.Keeping.{CountsFaults, Keeper, Keeps, KeepsOn}
use Rattle.erm_good_report.specs.GoodReport.{IsLineOfLog}
use Rattle.erm_log_run.specs.Runs.{ClosesOnFault, Ran, RanAll}
use Rattle.erm_log_run.proofs.Leaving.{moments_then, on_then}

-- behind all lines there is none
none_behind : (script : List ScriptLine) (n : ℕ) → length script ≤ n → IfSome (slice_get script n) IsLineOfLog
none_behind script n past = subst (λ (o : Option ScriptLine). IfSome o IsLineOfLog) (sym (slice_get_past script n past)) tt

-- the lines were run, and then the sessions closed, or not
pub all_ran : (r : Result (Vec (Option Answer) Global) LineStop) (v u t : View) (n : ℕ) (script : List ScriptLine) (answers : List Answer) → length answers ≡ length script
    → IsExecution v (line_moves script answers) u → IfOk r (λ ends. IsClosing u n ends.items t) → OnOk r ((seat : ℕ) → IsSession t seat → phase_at t seat ≡ Idle)
    → OnOk r (t.flushed ≡ t.tail) → ClosesOnFault r u t → RanAll r v n script answers t
all_ran (Ok ends) v u t n script answers each ran closing idle flushed closes = (each, (u, ran, closing), idle, flushed)
all_ran (Err DiskFault) v u t n script answers each ran closing idle flushed closes =
    (omega (arith, each), (closes.0, record { between = u; lines = ran; last = closes.1; closes = closes.2 }, λ fewer. absurd (omega (arith, each, fewer))), none_behind script (length answers) (omega (arith, each)))
all_ran (Err Memory) v u t n script answers each ran closing idle flushed closes = tt

-- a line wasn't answered
pub cut_ran : (T : Type 0) (stop : LineStop) (v t : View) (n : ℕ) (script : List ScriptLine) (answers : List Answer) → Ran {T = T} (Err stop) v script answers t → RanAll (Err stop) v n script answers t
cut_ran T DiskFault v t n script answers ran = (let fewer = ran.0 in omega (arith, fewer), (ran.1.0, ran.1.1, λ less. ran.1.2), ran.2)
cut_ran T Memory v t n script answers ran = tt

-- the log was kept on up to a call, and by this one
pub keeps_then : {T : Type 0} (r : Result T LineStop) (sound : Rows → Type 0) (k l m : Keeper) → KeepsOn sound k l → Keeps sound r l m → Keeps sound r k m
keeps_then (Ok x) sound k l m on keeps = (keeps.0, on_then sound k l m on keeps.1)
keeps_then (Err DiskFault) sound k l m on keeps = moments_then sound k l m on keeps
keeps_then (Err Memory) sound k l m on keeps = tt

pub counts_then : {T : Type 0} (r : Result T LineStop) (a b c : ℕ) → b ≡ a → CountsFaults r b c → CountsFaults r a c
counts_then (Ok x) a b c same counts = counts ∙ same
counts_then (Err DiskFault) a b c same counts = subst (λ (n : ℕ). Rose n c) same counts
counts_then (Err Memory) a b c same counts = counts ∙ same
