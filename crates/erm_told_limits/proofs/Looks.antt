-- Each line of a session, whatever its answer: what its transaction has read more, and what its own lines then may have read.
use Rattle.std.proofs.Common.{◌≡◌, ℕ, ◌+◌, ◌<◌, ◌≤◌, ◌⊎◌, List, [], length, Some, None, refl, ap, subst, inl, inr, arith}
use Rattle.std.proofs.lemmas.List.Sums.{sum_by_push}
use Rattle.erm_model.specs.declared.limits.TheConstants.{OID_LIMIT, READ_LIMIT}
use Rattle.erm_model.specs.declared.outcome.Phase.TheVariants.{Active, Idle}
use Rattle.erm_model.specs.Run.{Step}
use Rattle.erm_node.specs.Sound.{sound_law}
use Rattle.erm_world.specs.Laws.{IsSerializable}
use Rattle.erm_world.specs.World.{IsSession, View, Work, phase_at, work_at}
use Rattle.erm_world.specs.World as world
use Rattle.erm_report.specs.declared.answer.Answer.{Answer}
use Rattle.erm_report.specs.declared.answer.Answer.TheVariants as answer
use Rattle.erm_script.specs.declared.script.Command.{Command}
use Rattle.erm_script.specs.declared.script.Command.TheVariants as command
use Rattle.erm_script.specs.Script.{IsInRange}
use Rattle.erm_good_report.specs.Phases.{HasNoSnapshot, NeedsReader, NeedsWriter, refusal_of}
use Rattle.erm_good_report.specs.Refusals.{reads_of}
use Rattle.erm_good_report.specs.Transactions.{Exchange, Progress, Transaction, heard, with_line}
use Rattle.erm_lines.specs.Answers.{DidCommand, DidOperation}
use Rattle.erm_lines.specs.Operations.{DidCalls, WholeOf}
use Rattle.erm_lines.proofs.Moved.{active_where, asked_still}
use Rattle.erm_lines.proofs.Watched.{idle_where, start_where}
use Rattle.erm_told_limits.proofs.Arrays.{HaveRowsBelow}
use Rattle.erm_told_limits.proofs.Grown.{Apart}
use Rattle.erm_told_limits.proofs.Heard.{Was, began_none, heard_line, heard_was, is_operated, may_read, was_line}
use Rattle.erm_told_limits.proofs.Lines.{HasRun, Known, Looked, begun_turned, cut_looked, cut_of, done_as_was, whole_looked}
use Rattle.erm_told_limits.proofs.Moved.{Turned, turned_nothing, turned_then}
use Rattle.erm_told_limits.proofs.Pigeons.{reads_grow}
use Rattle.erm_told_limits.proofs.Reached.{Ways}
use Rattle.erm_told_limits.proofs.Saved.{back_turned, saved_turned}
use Rattle.erm_told_limits.proofs.Turns.{decided, idle_stand, sealed, snapshot_turned}

-- a line of this command may read all that there are, or its transaction has read no more than the command may
abbrev pub Looks : Command → View → ℕ → View → Type 0
Looks c v seat t = (OID_LIMIT ≤ reads_of c) ⊎ Looked (reads_of c) v seat t

-- it has read nothing
abbrev Never : ℕ → Type 0
Never x = ⊥

looked_nothing : (v : View) (seat : ℕ) (t : View) (most m k o : ℕ) → Turned Never m k o v seat t → Looked most v seat t
looked_nothing v seat t most m k o turned = record {
  more = [];
  few = omega arith;
  reads = λ x read. elim (turned.own.reads x read) [ inl before ↦ inl before | inr never ↦ absurd never ];
}

module _ (rows_below : HaveRowsBelow) (ways : Ways) (v : View) (seat : ℕ) (t : View) (session : IsSession v seat) (holds : IsSerializable sound_law t) where
  module _ (c : Command) (range : IsInRange c) (active : phase_at v seat ≡ Active) (has_run : HasRun v seat) where
    answered : (a : Answer) (steps : List Step) → DidCalls v seat steps (WholeOf c a) t → Looks c v seat t
    answered a steps did =
        let whole = whole_looked rows_below ways c v seat t session holds active has_run a steps did in
        elim whole.0 [ inl seeks ↦ inr (whole.1 range seeks) | inr walks ↦ inl walks ]

    operated : (a : Answer) → DidOperation v seat c a t → Looks c v seat t
    operated (answer.Replied r) did = answered (answer.Replied r) _ did.2
    operated (answer.Cut cells) did = answered (answer.Cut cells) [] did.2
    operated a did =
        let cut = cut_of rows_below ways c v seat t session holds active has_run did.0 did.2 in
        elim cut.kind [ inl seeks ↦ inr (cut_looked (Known c t) c v seat did.0 t cut range seeks) | inr walks ↦ inl walks ]

  began : (a : Answer) → phase_at v seat ≡ Idle → DidCommand v seat command.Begin a t → Looked 0 v seat t
  began (answer.Began stamp) idle did = looked_nothing v seat t 0 0 0 0 (begun_turned Never v seat t _ stamp (idle_stand (v.session seat).stand idle) did.3)
  began (answer.LogEnd tail) idle did = looked_nothing v seat t 0 0 0 0 (turned_nothing Never v seat t did.0)
  began answer.NumbersEnd idle did = looked_nothing v seat t 0 0 0 0 (turned_nothing Never v seat t did.0)
  began a idle did = absurd did

  module _ (has_run : phase_at v seat ≡ Active → HasRun v seat) where
    pub command_looks : (c : Command) (a : Answer) → refusal_of (phase_at v seat) c ≡ None → HasNoSnapshot (phase_at v seat) → IsInRange c → DidCommand v seat c a t → Looks c v seat t
    command_looks command.Begin a allowed plain range did = inr (began a (idle_where (phase_at v seat) command.Begin allowed refl) did)
    command_looks (command.Get table key) a allowed plain range did = let active = active_where NeedsReader (phase_at v seat) tt plain allowed in operated (command.Get table key) range active (has_run active) a did
    command_looks (command.Put table key value) a allowed plain range did = let active = active_where NeedsWriter (phase_at v seat) tt plain allowed in operated (command.Put table key value) range active (has_run active) a did
    command_looks (command.Del table key) a allowed plain range did = let active = active_where NeedsWriter (phase_at v seat) tt plain allowed in operated (command.Del table key) range active (has_run active) a did
    command_looks (command.Next table from) a allowed plain range did = inl (omega arith)
    command_looks (command.Scan table low high) a allowed plain range did = inl (omega arith)
    command_looks (command.Tidy table key) a allowed plain range did = let active = active_where NeedsWriter (phase_at v seat) tt plain allowed in operated (command.Tidy table key) range active (has_run active) a did
    command_looks command.Save a allowed plain range did = inr (looked_nothing v seat t 0 0 0 0 (saved_turned Never v seat t a did))
    command_looks (command.Back n) a allowed plain range did = inr (looked_nothing v seat t 0 0 0 0 (back_turned Never v seat t n a did))
    command_looks command.Safe a allowed plain range did = inr (looked_nothing v seat t 0 0 0 1 (snapshot_turned Never v seat t a (start_where (phase_at v seat) command.Safe allowed refl plain) did))
    command_looks command.Seal (answer.Sealed stamp) allowed plain range did = inr (looked_nothing v seat t 0 0 0 0 (sealed Never v seat t stamp did))
    command_looks command.Settle a allowed plain range did = inr (looked_nothing v seat t 0 0 0 1 (decided Never v seat t a did))
    command_looks command.Commit a allowed plain range did =
        inr (looked_nothing v seat t 0 0 0 1
        (turned_then Never 0 0 0 0 0 1 v seat did.between t (sealed Never v seat did.between did.stamp did.sealed) (decided Never did.between seat t a did.decided)))
    command_looks command.Abort answer.Aborted allowed plain range did = inr (looked_nothing v seat t 0 0 0 1 (done_as_was Never v seat t (work_at v seat) world.aborts refl did))
    command_looks command.Durable a allowed plain range did = inr (looked_nothing v seat t 0 0 0 0 (turned_nothing Never v seat t (asked_still v t seat a did)))
    command_looks c a allowed plain range did = absurd did

-- A TRANSACTION has read no more than its lines may, or they may read more than one transaction does.
abbrev pub MayHaveRead : Work → Transaction → Type 0
MayHaveRead w t = (length w.reads ≤ may_read t) ⊎ (READ_LIMIT < may_read t)

-- a line counts for what it may read
pub reads_line : (c : Command) (a : Answer) (u : Transaction) → may_read u + reads_of c ≤ may_read (with_line (Some c) a u)
reads_line (command.Get table key) a u = let one = sum_by_push (λ (x : Exchange). reads_of x.asked) u.lines (record { asked = command.Get table key; answer = a }) in omega (arith, one)
reads_line (command.Put table key value) a u = let one = sum_by_push (λ (x : Exchange). reads_of x.asked) u.lines (record { asked = command.Put table key value; answer = a }) in omega (arith, one)
reads_line (command.Del table key) a u = let one = sum_by_push (λ (x : Exchange). reads_of x.asked) u.lines (record { asked = command.Del table key; answer = a }) in omega (arith, one)
reads_line (command.Next table from) a u = let one = sum_by_push (λ (x : Exchange). reads_of x.asked) u.lines (record { asked = command.Next table from; answer = a }) in omega (arith, one)
reads_line (command.Scan table low high) a u = let one = sum_by_push (λ (x : Exchange). reads_of x.asked) u.lines (record { asked = command.Scan table low high; answer = a }) in omega (arith, one)
reads_line (command.Tidy table key) a u = let one = sum_by_push (λ (x : Exchange). reads_of x.asked) u.lines (record { asked = command.Tidy table key; answer = a }) in omega (arith, one)
reads_line c a u = was_line reads_of c a u

-- it was heard so
module _ (c : Command) (a : Answer) (p : Progress) (v : View) (seat : ℕ) (t : View) (u : Transaction) where
  heard_operation : DidOperation v seat c a t → (heard seat (Some c) a p).current ≡ Some u → Was reads_of p.current u (reads_of c)
  heard_operation by e = heard_line reads_of seat c p u a (is_operated v seat c a t by) (λ w. reads_line c a w) e

heard_reads : (c : Command) (a : Answer) (p : Progress) (v : View) (seat : ℕ) (t : View) (u : Transaction) → DidCommand v seat c a t → (heard seat (Some c) a p).current ≡ Some u
    → ((stamp : ℕ) × (a ≡ answer.Began stamp)) ⊎ Was reads_of p.current u (reads_of c)
heard_reads (command.Get table key) a p v seat t u by e = inr (heard_operation (command.Get table key) a p v seat t u by e)
heard_reads (command.Put table key value) a p v seat t u by e = inr (heard_operation (command.Put table key value) a p v seat t u by e)
heard_reads (command.Del table key) a p v seat t u by e = inr (heard_operation (command.Del table key) a p v seat t u by e)
heard_reads (command.Next table from) a p v seat t u by e = inr (heard_operation (command.Next table from) a p v seat t u by e)
heard_reads (command.Scan table low high) a p v seat t u by e = inr (heard_operation (command.Scan table low high) a p v seat t u by e)
heard_reads (command.Tidy table key) a p v seat t u by e = inr (heard_operation (command.Tidy table key) a p v seat t u by e)
heard_reads c a p v seat t u by e = heard_was reads_of seat c p u a e

module _ (c : Command) (a : Answer) (p : Progress) (v : View) (seat : ℕ) (t : View) (u : Transaction) (apart : Apart (work_at t seat).reads) (looks : Looks c v seat t)
    (before : (w : Transaction) → p.current ≡ Some w → MayHaveRead (work_at v seat) w) where
  from_before : Was reads_of p.current u (reads_of c) → MayHaveRead (work_at t seat) u
  from_before was = elim (before was.before was.is) as (λ _. MayHaveRead (work_at t seat) u) [
    | inl few ↦ elim looks as (λ _. MayHaveRead (work_at t seat) u) [
      | inl walks ↦ inr (omega (arith, walks, was.lines))
      | inr looked ↦
          let grown = reads_grow (work_at t seat).reads (work_at v seat).reads looked.more apart looked.reads in
          inl (omega (arith, grown, few, looked.few, was.lines))
    ]
    | inr many ↦ inr (omega (arith, many, was.lines))
  ]

  pub own_reads : DidCommand v seat c a t → (heard seat (Some c) a p).current ≡ Some u → MayHaveRead (work_at t seat) u
  own_reads by e = elim (heard_reads c a p v seat t u by e) as (λ _. MayHaveRead (work_at t seat) u) [
    | inl began ↦
        let new = began_none v seat t began.0 c (subst (λ (x : Answer). DidCommand v seat c x t) began.1 by) in
        inl (omega (arith, ap (λ (w : Work). length w.reads) new.1))
    | inr was ↦ from_before was
  ]
