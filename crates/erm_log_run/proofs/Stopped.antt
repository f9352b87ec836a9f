-- What is so where a call isn't answered, of the calls before it too.
use Rattle.std.proofs.Common.{◌≡◌, ℕ, ◌<◌, ◌++◌, List, [], ◌∷◌, length, Option, Some, Ok, Err, IfOk, IfSome, OnOk, refl, sym, ◌∙◌, subst, arith}
use Rattle.std.specs.Prelude.{Result}
use Rattle.std.specs.List.{All, slice_get}
use Rattle.erm_model.specs.Rows.{Rows}
use Rattle.erm_node.specs.Sound.{sound_law}
use Rattle.erm_outside.specs.Faults.{Rose}
use Rattle.erm_report.specs.declared.answer.Answer.{Answer}
use Rattle.erm_script.specs.declared.script.ScriptLine.{ScriptLine}
use Rattle.erm_world.specs.Laws.{IsSerializable}
use Rattle.erm_world.specs.World.{View}
use Rattle.erm_lines.specs.Executions.{flush, IsExecution, IsLast, line_moves}
use Rattle.erm_log_run.specs.declared.stops.LineStop.{LineStop}
use Rattle.erm_log_run.specs.declared.stops.LineStop.TheVariants.{DiskFault, Memory}
use Rattle.erm_log_run.specs.Closing.{IsClosing}
use Rattle.erm_log_run.specs.Keeping.{CountsFaults, Keeper, Keeps, KeepsOn}
use Rattle.erm_good_report.specs.GoodReport.{IsLineOfLog}
use Rattle.erm_log_run.specs.Runs.{ClosesOnFault, FailsOfLog, FlushesOnFault, Ran}
use Rattle.erm_log_run.proofs.Closing.{all_last, execution_more}
use Rattle.erm_log_run.proofs.Leaving.{moments_then}

-- one flush
only_flush : All IsLast (flush ∷ [])
only_flush = all_last [] flush (λ k d within. absurd (omega (arith, within))) tt

-- the log was kept on up to the call
pub stop_keeps : (T U : Type 0) (sound : Rows → Type 0) (stop : LineStop) (k l m : Keeper) → KeepsOn sound k l → Keeps {T = T} sound (Err stop) l m → Keeps {T = U} sound (Err stop) k m
stop_keeps T U sound DiskFault k l m on keeps = moments_then sound k l m on keeps
stop_keeps T U sound Memory k l m on keeps = tt

-- no fault came before it
pub stop_counts : (T U : Type 0) (stop : LineStop) (a b c : ℕ) → b ≡ a → CountsFaults {T = T} (Err stop) b c → CountsFaults {T = U} (Err stop) a c
stop_counts T U DiskFault a b c same counts = subst (λ (n : ℕ). Rose n c) same counts
stop_counts T U Memory a b c same counts = counts ∙ same

-- a line of the log may be that at which the disk failed
pub fails_of_log : {T : Type 0} (r : Result T LineStop) (l : ScriptLine) → IsLineOfLog l → FailsOfLog r l
fails_of_log (Ok x) l of = tt
fails_of_log (Err DiskFault) l of = of
fails_of_log (Err Memory) l of = tt

-- the lines before it were run, and the log may have been flushed further
pub stop_ran : (T U : Type 0) (stop : LineStop) (v u t : View) (script : List ScriptLine) (answers : List Answer) → length answers < length script
    → (l : ScriptLine) → slice_get script (length answers) ≡ Some l → FailsOfLog {T = T} (Err stop) l
    → IsExecution v (line_moves script answers) u → FlushesOnFault {T = T} (Err stop) u t → IsSerializable sound_law t → Ran {T = U} (Err stop) v script answers t
stop_ran T U DiskFault v u t script answers fewer l at of ran did serial =
    (fewer, (flush ∷ [], record { between = u; lines = ran; last = only_flush; closes = (t, did, serial, refl) }, refl), subst (λ (o : Option ScriptLine). IfSome o IsLineOfLog) (sym at) of)
stop_ran T U Memory v u t script answers fewer l at of ran did serial = tt

-- sessions were closed before it
pub stop_closes : (T U : Type 0) (stop : LineStop) (v u t : View) (n : ℕ) (ends : List (Option Answer)) → IsClosing v n ends u → FlushesOnFault {T = T} (Err stop) u t → IsSerializable sound_law t
    → ClosesOnFault {T = U} (Err stop) v t
stop_closes T U DiskFault v u t n ends is did serial = (is.closing ++ flush ∷ [], all_last is.closing flush is.last tt, execution_more v u t is.closing flush is.closes did serial)
stop_closes T U Memory v u t n ends is did serial = tt

-- what follows from each answer, follows where there is one
pub ok_then : {T E : Type 0} (r : Result T E) (P : T → Type 0) (Q : Type 0) → ((x : T) → P x → Q) → IfOk r P → OnOk r Q
ok_then (Ok x) P Q so p = so x p
ok_then (Err e) P Q so p = tt
