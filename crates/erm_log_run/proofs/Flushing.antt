-- A flush: how far the log is flushed behind it.
use Rattle.std.proofs.Common.{inl, inr, ◌≡◌, ◌≤◌, true, Option, Some, None, Ok, Err, refl, sym, ap, ◌∙◌, subst, arith}
use Rattle.std.specs.Prelude.{is_some, Result}
use Rattle.erm_model.specs.RowTransaction.{Law}
use Rattle.erm_model.specs.declared.outcome.Phase.TheVariants.{Idle, Sealed}
use Rattle.erm_world.specs.Laws.{IsSerializable}
use Rattle.erm_world.specs.Log.{IsStop, Log}
use Rattle.erm_world.specs.Whole.{IsLogOf, KeepsSessions}
use Rattle.erm_world.specs.World.{IsSession, Opening, View, phase_of}
use Rattle.erm_lines.specs.Executions.{DidFlush}
use Rattle.erm_log_run.specs.declared.stops.LineStop.{LineStop}
use Rattle.erm_log_run.specs.declared.stops.LineStop.TheVariants.{DiskFault, Memory}
use Rattle.erm_log_run.specs.Closing.{IsFlushedUp, IsFlushedWhenIdle}
use Rattle.erm_log_run.specs.Runs.{FlushesOnFault}

-- where an option is something
pub some_of : {X : Type 0} (o : Option X) → is_some o ≡ true → (x : X) × (o ≡ Some x)
some_of None is = absurd (let no = is in cc)
some_of (Some x) is = (x, refl)

-- all is flushed up to a place where nothing is to gather
pub up_from : (law : Law) (v : View) (log : Log) → IsSerializable law v → IsLogOf v log → IsStop log log.flushed → IsFlushedUp v
up_from law v log serial of (inl ends) seat stamp w session sealed least =
    let within = (serial.stamps seat w stamp session (inr sealed)).1 in
    let tail = of.tail in
    let flushed = of.flushed in
    omega (arith, within, tail, flushed, ends)
up_from law v log serial of (inr busy) seat stamp w session sealed least =
    let found = some_of (log.undecided log.flushed) busy in
    let at = (of.undecided log.flushed found.0).0 found.1 in
    let low = least found.0.seat log.flushed at.work at.session at.stand in
    let flushed = of.flushed in
    omega (arith, low, flushed)

-- a flush after which the flushed place is that of the log
pub did_flush : (v t : View) (l m : Log) → IsLogOf v l → IsLogOf t m → KeepsSessions v t → l.flushed ≤ m.flushed → DidFlush v t
did_flush v t l m before after keeps goes = record {
  session = keeps.session;
  saves = keeps.saves;
  opening = keeps.opening;
  tail = keeps.tail;
  above = let old = before.flushed in let new = after.flushed in omega (arith, old, new, goes);
}

-- one flush behind another
pub flushed_then : (v u t : View) → DidFlush v u → DidFlush u t → DidFlush v t
flushed_then v u t first second = record {
  session = λ seat session. second.session seat (subst (λ (o : Opening). IsSession (record v { opening = o }) seat) (sym first.opening) session) ∙ first.session seat session;
  saves = λ seat session. second.saves seat (subst (λ (o : Opening). IsSession (record v { opening = o }) seat) (sym first.opening) session) ∙ first.saves seat session;
  opening = second.opening ∙ first.opening;
  tail = second.tail ∙ first.tail;
  above = let low = first.above in let high = second.above in omega (arith, low, high);
}

pub flushes_then : {T : Type 0} (r : Result T LineStop) (v u t : View) → DidFlush v u → FlushesOnFault r u t → FlushesOnFault r v t
flushes_then (Ok x) v u t first second = tt
flushes_then (Err DiskFault) v u t first second = flushed_then v u t first second
flushes_then (Err Memory) v u t first second = tt

-- where nobody is sealed, a place where nothing is to gather is the log's end
pub all_when_idle : (v : View) (log : Log) → IsLogOf v log → IsStop log log.flushed → IsFlushedWhenIdle v
all_when_idle v log of (inl ends) idle = sym of.flushed ∙ ends ∙ of.tail
all_when_idle v log of (inr busy) idle =
    let found = some_of (log.undecided log.flushed) busy in
    let at = (of.undecided log.flushed found.0).0 found.1 in
    absurd (let no : Sealed ≡ Idle = sym (ap phase_of at.stand) ∙ idle found.0.seat at.session in cc)
