-- Which lines may be refused for what other sessions do.
use Rattle.std.proofs.Common.{◌≡◌, ℕ, Option, Some, None, refl, sym, ap, ◌∙◌, subst}
use Rattle.erm_model.specs.declared.outcome.Phase.{Phase}
use Rattle.erm_model.specs.declared.outcome.Phase.TheVariants.{Active}
use Rattle.erm_model.specs.declared.row_stop.RowStop.{RowStop}
use Rattle.erm_model.specs.declared.row_stop.RowStop.TheVariants as stop
use Rattle.erm_report.specs.declared.answer.Answer.{Answer}
use Rattle.erm_report.specs.declared.answer.Answer.TheVariants as answer
use Rattle.erm_script.specs.declared.script.Command.{Command}
use Rattle.erm_script.specs.declared.script.Command.TheVariants as command
use Rattle.erm_script.specs.declared.script.ScriptLine.{ScriptLine}
use Rattle.erm_world.specs.declared.stops.Wait.{Wait}
use Rattle.erm_world.specs.declared.stops.Wait.TheVariants as wait
use Rattle.erm_world.specs.Calls.{DidNotSettle, DidSeal}
use Rattle.erm_world.specs.World.{Stand, View, phase_at}
use Rattle.erm_good_report.specs.Phases.{FitsRefusal, HasNoSnapshot, IsAnswerTo, NeedsReader, NeedsWriter, need_of, refusal_in, refusal_of}
use Rattle.erm_good_report.proofs.Phases.{phase_refuses}
use Rattle.erm_good_report.specs.Transactions.{Transaction, table_of}
use Rattle.erm_lines.specs.Answers.{DidAsked, DidCommand, DidIn, DidDecide, DidLine, WasRefusedAs, stop_told}
use Rattle.erm_lines.specs.Told.{TellsNow}
use Rattle.erm_lines.proofs.Moved.{active_where}
use Rattle.erm_lines.proofs.Watched.{start_where}
use Rattle.erm_told.proofs.Lines.{in_either}
use Rattle.erm_told.proofs.Sessions.{now_none, now_watching}
use Rattle.erm_causes.proofs.Quiet.{idle_with}

-- a line that names a table is allowed in an active session alone, where there is no snapshot
pub named_active : (phase : Phase) (c : Command) (k : ℕ) → table_of c ≡ Some k → HasNoSnapshot phase → refusal_of phase c ≡ None → phase ≡ Active
named_active phase (command.Get n key) k named plain free = active_where NeedsReader phase tt plain free
named_active phase (command.Put n key value) k named plain free = active_where NeedsWriter phase tt plain free
named_active phase (command.Del n key) k named plain free = active_where NeedsWriter phase tt plain free
named_active phase (command.Next n from) k named plain free = active_where NeedsReader phase tt plain free
named_active phase (command.Scan n low high) k named plain free = active_where NeedsReader phase tt plain free
named_active phase (command.Tidy n key) k named plain free = active_where NeedsWriter phase tt plain free
named_active phase c k named plain free = let no : None ≡ Some k = named in cc

-- A line whose transaction waits: it names a table; or it decides the transaction, which it may have sealed first.
pub data Waited (v : View) (seat : ℕ) (c : Command) (a : Answer) (w : Wait) (t : View) : Type 0 where
  named : (k : ℕ) → table_of c ≡ Some k → WasRefusedAs v seat c a t → Waited v seat c a w t
  settled : c ≡ command.Settle → DidNotSettle v seat w t → Waited v seat c a w t
  committed : c ≡ command.Commit → (stamp : ℕ) (between : View) → DidSeal v seat stamp between → DidNotSettle between seat w t → Waited v seat c a w t

pub waited_seat : (v t : View) (seat : ℕ) (c : Command) (other seen : ℕ) → (c ≡ command.Safe → ⊥) → DidCommand v seat c (answer.WaitSeat other seen) t
    → Waited v seat c (answer.WaitSeat other seen) (wait.Seat other seen) t
waited_seat v t seat command.Safe other seen never did = absurd (never refl)
waited_seat v t seat command.Settle other seen never did = settled refl did
waited_seat v t seat command.Commit other seen never did = committed refl did.stamp did.between did.sealed did.decided
waited_seat v t seat (command.Get n key) other seen never did = named n refl did
waited_seat v t seat (command.Put n key value) other seen never did = named n refl did
waited_seat v t seat (command.Del n key) other seen never did = named n refl did
waited_seat v t seat (command.Next n from) other seen never did = named n refl did
waited_seat v t seat (command.Scan n low high) other seen never did = named n refl did
waited_seat v t seat (command.Tidy n key) other seen never did = named n refl did
waited_seat v t seat c other seen never did = absurd did

pub waited_ring : (v t : View) (seat : ℕ) (c : Command) (flushed : ℕ) → DidCommand v seat c (answer.WaitRing flushed) t → Waited v seat c (answer.WaitRing flushed) (wait.Ring flushed) t
waited_ring v t seat command.Safe flushed did = absurd did.asked
waited_ring v t seat command.Settle flushed did = settled refl did
waited_ring v t seat command.Commit flushed did = committed refl did.stamp did.between did.sealed did.decided
waited_ring v t seat (command.Get n key) flushed did = named n refl did
waited_ring v t seat (command.Put n key value) flushed did = named n refl did
waited_ring v t seat (command.Del n key) flushed did = named n refl did
waited_ring v t seat (command.Next n from) flushed did = named n refl did
waited_ring v t seat (command.Scan n low high) flushed did = named n refl did
waited_ring v t seat (command.Tidy n key) flushed did = named n refl did
waited_ring v t seat c flushed did = absurd did

-- An outcome: that of a line that decides the transaction, which it may have sealed first.
abbrev pub IsDecision : Answer → Type 0
IsDecision (answer.Committed stamp succ pred) = Unit {0}
IsDecision (answer.Excluded stamp succ pred) = Unit {0}
IsDecision a = ⊥

pub data Decides (v : View) (seat : ℕ) (c : Command) (a : Answer) (t : View) : Type 0 where
  settles : c ≡ command.Settle → DidDecide v seat a t → Decides v seat c a t
  commits : c ≡ command.Commit → (stamp : ℕ) (between : View) → DidSeal v seat stamp between → DidDecide between seat a t → Decides v seat c a t

pub committed_by : (v t : View) (seat : ℕ) (c : Command) (stamp succ pred : ℕ) → IsAnswerTo c (answer.Committed stamp succ pred) → DidCommand v seat c (answer.Committed stamp succ pred) t
    → Decides v seat c (answer.Committed stamp succ pred) t
committed_by v t seat command.Settle stamp succ pred fits did = settles refl did
committed_by v t seat command.Commit stamp succ pred fits did = commits refl did.stamp did.between did.sealed did.decided
committed_by v t seat c stamp succ pred fits did = absurd fits

pub excluded_by : (v t : View) (seat : ℕ) (c : Command) (stamp succ pred : ℕ) → IsAnswerTo c (answer.Excluded stamp succ pred) → DidCommand v seat c (answer.Excluded stamp succ pred) t
    → Decides v seat c (answer.Excluded stamp succ pred) t
excluded_by v t seat command.Settle stamp succ pred fits did = settles refl did
excluded_by v t seat command.Commit stamp succ pred fits did = commits refl did.stamp did.between did.sealed did.decided
excluded_by v t seat c stamp succ pred fits did = absurd fits

-- no refusal of a call waits for the ring
pub none_for_ring : (why : RowStop) (flushed : ℕ) → stop_told why ≡ Some (answer.WaitRing flushed) → ⊥
none_for_ring (stop.NotYet q n) flushed told = cc
none_for_ring stop.ReadsFull flushed told = cc
none_for_ring (stop.Owned q n) flushed told = cc
none_for_ring (stop.Newer s) flushed told = cc
none_for_ring stop.WritesFull flushed told = cc
none_for_ring (stop.CellsFull d) flushed told = cc
none_for_ring (stop.OidsFull d) flushed told = cc
none_for_ring (stop.Excluded s p) flushed told = cc
none_for_ring stop.Memory flushed told = cc

-- a line that was refused by a call's refusal names a table
pub record NamedRefused (v : View) (seat : ℕ) (c : Command) (a : Answer) (t : View) : Type 0 where
  pub table : ℕ
  pub names : table_of c ≡ Some table
  pub refused : WasRefusedAs v seat c a t

pub owned_named : (v t : View) (seat : ℕ) (c : Command) (other number : ℕ) → DidCommand v seat c (answer.Owned other number) t → NamedRefused v seat c (answer.Owned other number) t
owned_named v t seat command.Safe other number did = absurd did.asked
owned_named v t seat command.Settle other number did = absurd did
owned_named v t seat command.Commit other number did = absurd did.decided
owned_named v t seat (command.Get n key) other number did = record { table = n; names = refl; refused = did }
owned_named v t seat (command.Put n key value) other number did = record { table = n; names = refl; refused = did }
owned_named v t seat (command.Del n key) other number did = record { table = n; names = refl; refused = did }
owned_named v t seat (command.Next n from) other number did = record { table = n; names = refl; refused = did }
owned_named v t seat (command.Scan n low high) other number did = record { table = n; names = refl; refused = did }
owned_named v t seat (command.Tidy n key) other number did = record { table = n; names = refl; refused = did }
owned_named v t seat c other number did = absurd did

pub newer_named : (v t : View) (seat : ℕ) (c : Command) (stamp : ℕ) → DidCommand v seat c (answer.Newer stamp) t → NamedRefused v seat c (answer.Newer stamp) t
newer_named v t seat command.Safe stamp did = absurd did.asked
newer_named v t seat command.Settle stamp did = absurd did
newer_named v t seat command.Commit stamp did = absurd did.decided
newer_named v t seat (command.Get n key) stamp did = record { table = n; names = refl; refused = did }
newer_named v t seat (command.Put n key value) stamp did = record { table = n; names = refl; refused = did }
newer_named v t seat (command.Del n key) stamp did = record { table = n; names = refl; refused = did }
newer_named v t seat (command.Next n from) stamp did = record { table = n; names = refl; refused = did }
newer_named v t seat (command.Scan n low high) stamp did = record { table = n; names = refl; refused = did }
newer_named v t seat (command.Tidy n key) stamp did = record { table = n; names = refl; refused = did }
newer_named v t seat c stamp did = absurd did

pub excluded_named : (v t : View) (seat : ℕ) (c : Command) (succ pred : ℕ) → DidCommand v seat c (answer.ExcludedEarly succ pred) t → NamedRefused v seat c (answer.ExcludedEarly succ pred) t
excluded_named v t seat command.Safe succ pred did = absurd did.asked
excluded_named v t seat command.Settle succ pred did = absurd did
excluded_named v t seat command.Commit succ pred did = absurd did.decided
excluded_named v t seat (command.Get n key) succ pred did = record { table = n; names = refl; refused = did }
excluded_named v t seat (command.Put n key value) succ pred did = record { table = n; names = refl; refused = did }
excluded_named v t seat (command.Del n key) succ pred did = record { table = n; names = refl; refused = did }
excluded_named v t seat (command.Next n from) succ pred did = record { table = n; names = refl; refused = did }
excluded_named v t seat (command.Scan n low high) succ pred did = record { table = n; names = refl; refused = did }
excluded_named v t seat (command.Tidy n key) succ pred did = record { table = n; names = refl; refused = did }
excluded_named v t seat c succ pred did = absurd did

-- an answer that is no refusal by a phase is that of a command which the phase allowed
pub record Allowed (v : View) (seat : ℕ) (c : Command) (a : Answer) (t : View) : Type 0 where
  pub free : refusal_of (phase_at v seat) c ≡ None
  pub did : DidIn (phase_at v seat) v seat c a t

pub allowed : (v : View) (l : ScriptLine) (a : Answer) (t : View) → refusal_in a ≡ None → DidLine v l a t → Allowed v l.session l.command a t
allowed v l a t none did = by (refusal_of (phase_at v l.session) l.command) refl did.fits did.did
  where
    by : (r : Option Answer) → refusal_of (phase_at v l.session) l.command ≡ r → FitsRefusal r l.command a → DidAsked r v l.session l.command a t → Allowed v l.session l.command a t
    by None is fits did = record { free = is; did = did }
    by (Some refusal) is fits did =
        let no : None ≡ Some refusal = sym none ∙ ap refusal_in fits ∙ phase_refuses (need_of l.command) (phase_at v l.session) refusal is in cc

-- That of a transaction is one of a session without a snapshot, and no `safe`.
pub record Commanded (v : View) (seat : ℕ) (c : Command) (a : Answer) (t : View) : Type 0 where
  pub free : refusal_of (phase_at v seat) c ≡ None
  pub plain : HasNoSnapshot (phase_at v seat)
  pub never : c ≡ command.Safe → ⊥
  pub did : DidCommand v seat c a t

none_current : (current : Option Transaction) (u : Transaction) (P : Type 0) → current ≡ None → current ≡ Some u → P
none_current current u P none some = let no : None ≡ Some u = sym none ∙ some in absurd (cc)

pub commanded : (v : View) (seat : ℕ) (c : Command) (a : Answer) (t : View) (current : Option Transaction) (u : Transaction) → TellsNow seat current (v.session seat).stand → current ≡ Some u
    → Allowed v seat c a t → Commanded v seat c a t
commanded v seat c a t current u tells is it =
    in_either (Commanded v seat c a t) v t seat c a
    (λ plain done. record {
      free = it.free;
      plain = plain;
      never = λ asks.
          let idle = idle_with (v.session seat).stand (start_where (phase_at v seat) c it.free asks plain) in
          none_current current u ⊥ (now_none seat current (subst (λ (at : Stand). TellsNow seat current at) idle tells)) is;
      did = done;
    })
    (λ has done. none_current current u (Commanded v seat c a t) (now_watching seat current has.0 (subst (λ (at : Stand). TellsNow seat current at) has.1 tells)) is)
    it.did
