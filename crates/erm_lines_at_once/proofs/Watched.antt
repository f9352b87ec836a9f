-- A snapshot of a session that shares its world: begun, asked whether it is safe, and in which phases its lines are run.
use Rattle.std.proofs.Common.{◌≡◌, ℕ, true, Option, Some, None, refl, sym, ap, ◌∙◌, subst}
use Rattle.erm_model.specs.declared.outcome.Phase.{Phase}
use Rattle.erm_model.specs.declared.outcome.Phase.TheVariants.{Active, Idle, Sealed, Pending, Safe}
use Rattle.erm_report.specs.declared.answer.Answer.{Answer}
use Rattle.erm_report.specs.declared.answer.Answer.TheVariants as answer
use Rattle.erm_script.specs.declared.script.Command.{Command}
use Rattle.erm_script.specs.declared.script.ScriptLine.{ScriptLine}
use Rattle.erm_world.specs.declared.stops.SafeStop.{SafeStop}
use Rattle.erm_world.specs.declared.stops.SafeStop.TheVariants as stop
use Rattle.erm_world.specs.Safe.{IsSafeIn, WentBack}
use Rattle.erm_world.specs.World.{Session, View, phase_at, phase_of, work_at, work_of}
use Rattle.erm_good_report.specs.Phases.{FitsRefusal, HasNoSnapshot, refusal_of}
use Rattle.erm_lines.specs.Whole.{is_snapshot}
use Rattle.erm_beside.specs.Calls.{After, Passes}
use Rattle.erm_beside.specs.Safe.{DidBeginSafeBeside, DidSafeBeside, NotSafeBeside, NotSafeMet}
use Rattle.erm_beside.specs.Onward.{passes_itself, passes_then}
use Rattle.erm_lines_at_once.specs.Answers.{DidAskSafeBeside, DidAskSnapshotBeside, DidAskedBeside, DidCommandBeside, DidInBeside, DidLineBeside, DidOfSnapshotBeside, TriedSafe, TriedSnapshot, WasAnsweredBeside, WasWatchedBeside}

-- ASKED. Others went on where it waits.
pub waits_pass : (seat other seen : ℕ) (why : SafeStop) (v t : View) → why ≡ stop.NotYet other seen → After seat (NotSafeBeside seat why) v t → Passes seat v t
waits_pass seat other seen why v t is did = from (subst (λ (s : SafeStop). After seat (NotSafeBeside seat s) v t) is did)
  where
    from : After seat (NotSafeBeside seat (stop.NotYet other seen)) v t → Passes seat v t
    from (u, passes, waits) = subst (λ (x : View). Passes seat v x) (sym waits.0) passes

-- it isn't safe
pub is_unsafe : (f : View) (seat other stamp : ℕ) (why : SafeStop) (v t : View) → why ≡ stop.Unsafe other stamp → After seat (NotSafeBeside seat why) v t → NotSafeMet f seat why v t
    → TriedSafe f seat (Some (answer.Unsafe other stamp)) v t
is_unsafe f seat other stamp why v t is did met = record {
  fits = tt;
  did = (subst (λ (s : SafeStop). After seat (NotSafeBeside seat s) v t) is did, subst (λ (s : SafeStop). NotSafeMet f seat s v t) is met);
}

-- it is safe, and its begin stamp was known
pub is_safe : (f : View) (seat begin : ℕ) (v t : View) → begin ≡ (work_at v seat).begin → After seat (DidSafeBeside seat) v t → IsSafeIn f (work_at v seat).begin
    → TriedSafe f seat (Some (answer.Safe begin)) v t
is_safe f seat begin v t is did so = record { fits = tt; did = (did, is, subst (λ (n : ℕ). IsSafeIn f n) (sym is) so) }

-- others went on before it was asked
pub asked_passes : (f : View) (seat : ℕ) (a : Answer) (v u t : View) → Passes seat v u → DidAskSafeBeside f seat a u t → DidAskSafeBeside f seat a v t
asked_passes f seat (answer.Safe stamp) v u t passes ((w, more, did), is, so) =
    ((w, passes_then seat seat v u w refl passes more, did), is ∙ ap (λ (s : Session). (work_of s.stand).begin) passes.own, so)
asked_passes f seat (answer.Unsafe other stamp) v u t passes ((w, more, did), met) = (
  (w, passes_then seat seat v u w refl passes more, did),
  (subst (λ (s : Session). WentBack f seat (work_of s.stand).begin other stamp) passes.own met.0, met.1),
)
asked_passes f seat a v u t passes did = absurd did

-- BEGUN. It is pending then.
pub begun_pending : (seat mid begin : ℕ) (v u : View) → mid ≡ seat → After seat (DidBeginSafeBeside seat begin) v u → phase_at u mid ≡ Pending
begun_pending seat mid begin v u is (w, passes, did) = ap (λ (n : ℕ). phase_at u n) is ∙ ap (λ (s : Session). phase_of s.stand) did.2.own

-- and was asked
pub asked_behind : (f : View) (seat begin : ℕ) (a : Answer) (v u t : View) → After seat (DidBeginSafeBeside seat begin) v u → DidAskSafeBeside f seat a u t → DidAskSnapshotBeside f seat a v t
asked_behind f seat begin (answer.Safe stamp) v u t began did = record { begin = begin; between = u; began = began; asked = did }
asked_behind f seat begin (answer.Unsafe other stamp) v u t began did = record { begin = begin; between = u; began = began; asked = did }
asked_behind f seat begin a v u t began did = absurd did

pub tried_behind : (f : View) (seat mid begin : ℕ) (tried : Option Answer) (v u t : View) → mid ≡ seat → After seat (DidBeginSafeBeside seat begin) v u → TriedSafe f mid tried u t
    → TriedSnapshot f seat tried v t
tried_behind f seat mid begin None v u t is began tried = (begin, u, began, subst (λ (n : ℕ). Passes n u t) is tried)
tried_behind f seat mid begin (Some a) v u t is began tried = record {
  fits = tried.fits;
  did = asked_behind f seat begin a v u t began (subst (λ (n : ℕ). DidAskSafeBeside f n a u t) is tried.did);
}

-- LINES. One that isn't refused is one of a session without a snapshot, or with one.
pub in_phase : (Q : Type 0) (f : View) (seat : ℕ) (c : Command) (a : Answer) (v t : View) → (HasNoSnapshot (phase_at v seat) → DidCommandBeside f seat c a v t → Q)
    → (is_snapshot (phase_at v seat) ≡ true → DidOfSnapshotBeside f seat c a v t → Q) → DidInBeside (phase_at v seat) f seat c a v t → Q
in_phase Q f seat c a v t plain watches did = by (phase_at v seat) refl did
  where
    by : (p : Phase) → phase_at v seat ≡ p → DidInBeside p f seat c a v t → Q
    by Idle is did = plain (subst HasNoSnapshot (sym is) tt) did
    by Active is did = plain (subst HasNoSnapshot (sym is) tt) did
    by Sealed is did = plain (subst HasNoSnapshot (sym is) tt) did
    by Pending is did = watches (ap is_snapshot is) did
    by Safe is did = watches (ap is_snapshot is) did

pub in_plain : (f : View) (seat : ℕ) (c : Command) (a : Answer) (v t : View) (p : Phase) → HasNoSnapshot p → DidCommandBeside f seat c a v t → DidInBeside p f seat c a v t
in_plain f seat c a v t Idle plain did = did
in_plain f seat c a v t Active plain did = did
in_plain f seat c a v t Sealed plain did = did
in_plain f seat c a v t Pending plain did = absurd plain
in_plain f seat c a v t Safe plain did = absurd plain

pub in_snapshot : (f : View) (seat : ℕ) (c : Command) (a : Answer) (v t : View) (p : Phase) → is_snapshot p ≡ true → DidOfSnapshotBeside f seat c a v t → DidInBeside p f seat c a v t
in_snapshot f seat c a v t Idle is did = absurd (cc)
in_snapshot f seat c a v t Active is did = absurd (cc)
in_snapshot f seat c a v t Sealed is did = absurd (cc)
in_snapshot f seat c a v t Pending is did = did
in_snapshot f seat c a v t Safe is did = did

-- The phase refused it; or it allowed it, of a session without a snapshot, or with one.
pub refused_line : (f : View) (l : ScriptLine) (a : Answer) (v : View) → refusal_of (phase_at v l.session) l.command ≡ Some a → DidLineBeside f l a v v
refused_line f l a v refuses = record {
  fits = subst (λ (o : Option Answer). FitsRefusal o l.command a) (sym refuses) refl;
  did = subst (λ (o : Option Answer). DidAskedBeside o f l.session l.command a v v) (sym refuses) (passes_itself l.session v);
}

pub plain_line : (f : View) (l : ScriptLine) (a : Answer) (v t : View) → HasNoSnapshot (phase_at v l.session) → refusal_of (phase_at v l.session) l.command ≡ None
    → WasAnsweredBeside f l.session l.command a v t → DidLineBeside f l a v t
plain_line f l a v t plain allows it = record {
  fits = subst (λ (o : Option Answer). FitsRefusal o l.command a) (sym allows) it.fits;
  did = subst (λ (o : Option Answer). DidAskedBeside o f l.session l.command a v t) (sym allows) (in_plain f l.session l.command a v t (phase_at v l.session) plain it.did);
}

pub snapshot_line : (f : View) (l : ScriptLine) (a : Answer) (v t : View) → is_snapshot (phase_at v l.session) ≡ true → refusal_of (phase_at v l.session) l.command ≡ None
    → WasWatchedBeside f l.session l.command a v t → DidLineBeside f l a v t
snapshot_line f l a v t has allows it = record {
  fits = subst (λ (o : Option Answer). FitsRefusal o l.command a) (sym allows) it.fits;
  did = subst (λ (o : Option Answer). DidAskedBeside o f l.session l.command a v t) (sym allows) (in_snapshot f l.session l.command a v t (phase_at v l.session) has it.did);
}
