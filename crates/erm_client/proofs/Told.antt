-- What a client's line is answered: what it asked for, or a refusal. It is never answered that it waits.
use Rattle.std.proofs.Common.{◌≡◌, ℕ, Option, Some, None, refl, sym, subst}
use Rattle.erm_client.specs.Refusals.{IsOfClient, MayTell, TellsAbort, TellsBegin, TellsCommit, TellsDone, TellsDurable, TellsFound, TellsPair, TellsSafe, TellsValue}
use Rattle.erm_good_report.specs.Phases.{FitsPhase, IsAnswerTo, refusal_of}
use Rattle.erm_lines_at_once.specs.Answers.{DidAskSafeBeside, DidAskSnapshotBeside, DidAskedBeside, DidCommandBeside, DidInBeside, DidLineBeside, DidOfSnapshotBeside}
use Rattle.erm_lines_at_once.specs.Operations.{DidOperationBeside, told_at_once}
use Rattle.erm_model.specs.declared.operation.Reply.TheVariants as reply
use Rattle.erm_model.specs.declared.outcome.Phase.{Phase}
use Rattle.erm_model.specs.declared.outcome.Phase.TheVariants.{Active, Idle, Sealed, Pending, Safe}
use Rattle.erm_model.specs.declared.row_stop.RowStop.{RowStop}
use Rattle.erm_model.specs.declared.row_stop.RowStop.TheVariants as stop
use Rattle.erm_report.specs.declared.answer.Answer.{Answer}
use Rattle.erm_report.specs.declared.answer.Answer.TheVariants as answer
use Rattle.erm_script.specs.declared.script.Command.{Command}
use Rattle.erm_script.specs.declared.script.Command.TheVariants as command
use Rattle.erm_script.specs.declared.script.ScriptLine.{ScriptLine}
use Rattle.erm_world.specs.World.{View, phase_at}

-- no refusal is told as a wait
never_waits : (why : RowStop) (other seen : ℕ) → told_at_once why ≡ Some (answer.WaitSeat other seen) → ⊥
never_waits (stop.NotYet seat at) other seen is = cc
never_waits stop.ReadsFull other seen is = cc
never_waits (stop.Owned seat number) other seen is = cc
never_waits (stop.Newer stamp) other seen is = cc
never_waits stop.WritesFull other seen is = cc
never_waits (stop.CellsFull drawn) other seen is = cc
never_waits (stop.OidsFull drawn) other seen is = cc
never_waits (stop.Excluded succ pred) other seen is = cc
never_waits stop.Memory other seen is = cc

module _ (f : View) (seat : ℕ) (v t : View) where
  waits : (c : Command) (other seen : ℕ) → DidOperationBeside f seat c (answer.WaitSeat other seen) v t → ⊥
  waits c other seen did = let once = did.once in never_waits once.0 other seen once.1

  begin : (a : Answer) → IsAnswerTo command.Begin a → TellsBegin a
  begin (answer.Began stamp) fits = tt
  begin (answer.LogEnd tail) fits = refl
  begin answer.NumbersEnd fits = refl
  begin a fits = absurd fits

  value : (table key : ℕ) (a : Answer) → IsAnswerTo (command.Get table key) a → DidCommandBeside f seat (command.Get table key) a v t → TellsValue a
  value table key (answer.Replied (reply.Value found)) fits did = tt
  value table key (answer.WaitSeat other seen) fits did = absurd (waits (command.Get table key) other seen did)
  value table key answer.ReadsFull fits did = refl
  value table key (answer.ExcludedEarly succ pred) fits did = refl
  value table key a fits did = absurd fits

  put : (table key : ℕ) (value : _) (a : Answer) → IsAnswerTo (command.Put table key value) a → DidCommandBeside f seat (command.Put table key value) a v t → TellsDone a
  put table key value (answer.Replied reply.Done) fits did = tt
  put table key value (answer.OidsFull drawn) fits did = refl
  put table key value (answer.Owned other number) fits did = refl
  put table key value (answer.Newer stamp) fits did = refl
  put table key value answer.WritesFull fits did = refl
  put table key value (answer.CellsFull drawn) fits did = refl
  put table key value (answer.WaitSeat other seen) fits did = absurd (waits (command.Put table key value) other seen did)
  put table key value answer.ReadsFull fits did = refl
  put table key value (answer.ExcludedEarly succ pred) fits did = refl
  put table key value a fits did = absurd fits

  del : (table key : ℕ) (a : Answer) → IsAnswerTo (command.Del table key) a → DidCommandBeside f seat (command.Del table key) a v t → TellsDone a
  del table key (answer.Replied reply.Done) fits did = tt
  del table key (answer.Owned other number) fits did = refl
  del table key (answer.Newer stamp) fits did = refl
  del table key answer.WritesFull fits did = refl
  del table key (answer.CellsFull drawn) fits did = refl
  del table key (answer.WaitSeat other seen) fits did = absurd (waits (command.Del table key) other seen did)
  del table key answer.ReadsFull fits did = refl
  del table key (answer.ExcludedEarly succ pred) fits did = refl
  del table key a fits did = absurd fits

  next : (table from : ℕ) (a : Answer) → IsAnswerTo (command.Next table from) a → DidCommandBeside f seat (command.Next table from) a v t → TellsPair a
  next table from (answer.Replied (reply.Pair found)) fits did = tt
  next table from (answer.WaitSeat other seen) fits did = absurd (waits (command.Next table from) other seen did)
  next table from answer.ReadsFull fits did = refl
  next table from (answer.ExcludedEarly succ pred) fits did = refl
  next table from a fits did = absurd fits

  scan : (table low high : ℕ) (a : Answer) → IsAnswerTo (command.Scan table low high) a → DidCommandBeside f seat (command.Scan table low high) a v t → TellsFound a
  scan table low high (answer.Replied (reply.Found found)) fits did = tt
  scan table low high (answer.WaitSeat other seen) fits did = absurd (waits (command.Scan table low high) other seen did)
  scan table low high answer.ReadsFull fits did = refl
  scan table low high (answer.ExcludedEarly succ pred) fits did = refl
  scan table low high a fits did = absurd fits

  commit : (a : Answer) → IsAnswerTo command.Commit a → DidCommandBeside f seat command.Commit a v t → TellsCommit a
  commit (answer.Committed stamp succ pred) fits did = tt
  commit (answer.Excluded stamp succ pred) fits did = refl
  commit (answer.WaitSeat other seen) fits did = absurd did.decided
  commit (answer.WaitRing flushed) fits did = absurd did.decided
  commit answer.Ended fits did = absurd did.decided
  commit a fits did = absurd fits

  abort : (a : Answer) → IsAnswerTo command.Abort a → TellsAbort a
  abort answer.Aborted fits = tt
  abort a fits = absurd fits

  durable : (a : Answer) → IsAnswerTo command.Durable a → DidCommandBeside f seat command.Durable a v t → TellsDurable a
  durable (answer.Durable stamp) fits did = tt
  durable answer.NoReceipt fits did = refl
  durable (answer.NotFlushed flushed) fits did = absurd did
  durable a fits did = absurd fits

  -- a snapshot that was begun, and asked
  asked : (u : View) (a : Answer) → DidAskSafeBeside f seat a u t → TellsSafe a
  asked u (answer.Safe stamp) did = tt
  asked u (answer.Unsafe other stamp) did = refl
  asked u a did = absurd did

  snapshot : (a : Answer) → DidAskSnapshotBeside f seat a v t → TellsSafe a
  snapshot (answer.LogEnd tail) did = refl
  snapshot answer.NumbersEnd did = refl
  snapshot a did = asked did.between a did.asked

  -- of a session with a snapshot
  value_seen : (table key : ℕ) (a : Answer) → IsAnswerTo (command.Get table key) a → DidOfSnapshotBeside f seat (command.Get table key) a v t → TellsValue a
  value_seen table key (answer.Replied (reply.Value found)) fits did = tt
  value_seen table key (answer.Replied r) fits did = absurd fits
  value_seen table key a fits did = absurd did

  next_seen : (table from : ℕ) (a : Answer) → IsAnswerTo (command.Next table from) a → DidOfSnapshotBeside f seat (command.Next table from) a v t → TellsPair a
  next_seen table from (answer.Replied (reply.Pair found)) fits did = tt
  next_seen table from (answer.Replied r) fits did = absurd fits
  next_seen table from a fits did = absurd did

  scan_seen : (table low high : ℕ) (a : Answer) → IsAnswerTo (command.Scan table low high) a → DidOfSnapshotBeside f seat (command.Scan table low high) a v t → TellsFound a
  scan_seen table low high (answer.Replied (reply.Found found)) fits did = tt
  scan_seen table low high (answer.Replied r) fits did = absurd fits
  scan_seen table low high a fits did = absurd did

  ended : (a : Answer) → DidOfSnapshotBeside f seat command.Commit a v t → TellsCommit a
  ended answer.Ended did = tt
  ended a did = absurd did

  durable_seen : (a : Answer) → DidOfSnapshotBeside f seat command.Durable a v t → TellsDurable a
  durable_seen (answer.Durable stamp) did = tt
  durable_seen answer.NoReceipt did = refl
  durable_seen a did = absurd did

  -- what its phase refuses
  refused : (Tells : Answer → Type 0) (refusal a : Answer) → Tells refusal → a ≡ refusal → Tells a
  refused Tells refusal a so is = subst (λ (x : Answer). Tells x) (sym is) so

  -- what a phase that allows a command knows of it
  abbrev DidAskedIn : Phase → Option Answer → Command → Answer → Type 0
  DidAskedIn phase None c a = DidInBeside phase f seat c a v t
  DidAskedIn phase (Some refusal) c a = Unit {0}

  asked_in : (refusal : Option Answer) (c : Command) (a : Answer) → DidAskedBeside refusal f seat c a v t → DidAskedIn (phase_at v seat) refusal c a
  asked_in None c a did = did
  asked_in (Some refusal) c a passes = tt

  may_tell : (phase : Phase) (c : Command) (a : Answer) → IsOfClient c → FitsPhase phase c a → DidAskedIn phase (refusal_of phase c) c a → MayTell c a
  may_tell Idle command.Begin a of fits did = begin a fits
  may_tell Active command.Begin a of fits did = refused TellsBegin answer.NotIdle a refl fits
  may_tell Sealed command.Begin a of fits did = refused TellsBegin answer.NotIdle a refl fits
  may_tell Pending command.Begin a of fits did = refused TellsBegin answer.NotIdle a refl fits
  may_tell Safe command.Begin a of fits did = refused TellsBegin answer.NotIdle a refl fits
  may_tell Idle command.Safe a of fits did = snapshot a did
  may_tell Active command.Safe a of fits did = refused TellsSafe answer.NotIdle a refl fits
  may_tell Sealed command.Safe a of fits did = refused TellsSafe answer.NotIdle a refl fits
  may_tell Pending command.Safe a of fits did = asked v a did
  may_tell Safe command.Safe a of fits did = refused TellsSafe answer.NotIdle a refl fits
  may_tell Idle (command.Get table key) a of fits did = refused TellsValue answer.NoTransaction a refl fits
  may_tell Active (command.Get table key) a of fits did = value table key a fits did
  may_tell Sealed (command.Get table key) a of fits did = refused TellsValue answer.IsSealed a refl fits
  may_tell Pending (command.Get table key) a of fits did = refused TellsValue answer.NotSafe a refl fits
  may_tell Safe (command.Get table key) a of fits did = value_seen table key a fits did
  may_tell Idle (command.Put table key value) a of fits did = refused TellsDone answer.NoTransaction a refl fits
  may_tell Active (command.Put table key value) a of fits did = put table key value a fits did
  may_tell Sealed (command.Put table key value) a of fits did = refused TellsDone answer.IsSealed a refl fits
  may_tell Pending (command.Put table key value) a of fits did = refused TellsDone answer.ReadOnly a refl fits
  may_tell Safe (command.Put table key value) a of fits did = refused TellsDone answer.ReadOnly a refl fits
  may_tell Idle (command.Del table key) a of fits did = refused TellsDone answer.NoTransaction a refl fits
  may_tell Active (command.Del table key) a of fits did = del table key a fits did
  may_tell Sealed (command.Del table key) a of fits did = refused TellsDone answer.IsSealed a refl fits
  may_tell Pending (command.Del table key) a of fits did = refused TellsDone answer.ReadOnly a refl fits
  may_tell Safe (command.Del table key) a of fits did = refused TellsDone answer.ReadOnly a refl fits
  may_tell Idle (command.Next table from) a of fits did = refused TellsPair answer.NoTransaction a refl fits
  may_tell Active (command.Next table from) a of fits did = next table from a fits did
  may_tell Sealed (command.Next table from) a of fits did = refused TellsPair answer.IsSealed a refl fits
  may_tell Pending (command.Next table from) a of fits did = refused TellsPair answer.NotSafe a refl fits
  may_tell Safe (command.Next table from) a of fits did = next_seen table from a fits did
  may_tell Idle (command.Scan table low high) a of fits did = refused TellsFound answer.NoTransaction a refl fits
  may_tell Active (command.Scan table low high) a of fits did = scan table low high a fits did
  may_tell Sealed (command.Scan table low high) a of fits did = refused TellsFound answer.IsSealed a refl fits
  may_tell Pending (command.Scan table low high) a of fits did = refused TellsFound answer.NotSafe a refl fits
  may_tell Safe (command.Scan table low high) a of fits did = scan_seen table low high a fits did
  may_tell Idle command.Commit a of fits did = refused TellsCommit answer.NoTransaction a refl fits
  may_tell Active command.Commit a of fits did = commit a fits did
  may_tell Sealed command.Commit a of fits did = refused TellsCommit answer.IsSealed a refl fits
  may_tell Pending command.Commit a of fits did = refused TellsCommit answer.NotSafe a refl fits
  may_tell Safe command.Commit a of fits did = ended a did
  may_tell Idle command.Abort a of fits did = refused TellsAbort answer.NoTransaction a refl fits
  may_tell Active command.Abort a of fits did = abort a fits
  may_tell Sealed command.Abort a of fits did = refused TellsAbort answer.IsSealed a refl fits
  may_tell Pending command.Abort a of fits did = abort a fits
  may_tell Safe command.Abort a of fits did = abort a fits
  may_tell Idle command.Durable a of fits did = durable a fits did
  may_tell Active command.Durable a of fits did = durable a fits did
  may_tell Sealed command.Durable a of fits did = durable a fits did
  may_tell Pending command.Durable a of fits did = durable_seen a did
  may_tell Safe command.Durable a of fits did = durable_seen a did
  may_tell phase c a of fits did = absurd of

pub line_tells : (f : View) (l : ScriptLine) (a : Answer) (v t : View) → IsOfClient l.command → DidLineBeside f l a v t → MayTell l.command a
line_tells f l a v t of did =
    may_tell f l.session v t (phase_at v l.session) l.command a of did.fits
    (asked_in f l.session v t (refusal_of (phase_at v l.session) l.command) l.command a did.did)
