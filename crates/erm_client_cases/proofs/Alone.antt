-- A client whose session begins a snapshot by itself, or may not begin one: it is a client still, once it has room for the line that gives one up.
use Rattle.std.proofs.Common.{◌≡◌, ◌⊎◌, ℕ, false, List, length, Option, IfSome, Result, Ok, Err, OnOk, is_err, inl, inr, sym, ap, ◌∙◌, subst}
use Rattle.erm_beside.specs.Calls.{After, MayNotBeginBeside}
use Rattle.erm_beside.specs.Safe.{DidBeginSafeBeside}
use Rattle.erm_client.proofs.Dealt.{dealt_same}
use Rattle.erm_client.proofs.Grown.{same_transcript}
use Rattle.erm_client.proofs.Watched.{none_current, none_watched}
use Rattle.erm_client.specs.Clients.{IsClient, IsInPhase}
use Rattle.erm_client.specs.Dealings.{AllCommitted, AllOver, dealings_of}
use Rattle.erm_client.specs.declared.client.Client.{Client}
use Rattle.erm_client.specs.declared.transcript.Standing.{Standing}
use Rattle.erm_client.specs.declared.transcript.Transcript.{Transcript}
use Rattle.erm_client.specs.Transcripts.{HasAnswers, HasRoom, IsSame}
use Rattle.erm_good_report.specs.Transactions.{Progress, Snapshot, Transaction}
use Rattle.erm_model.specs.declared.outcome.Phase.{Phase}
use Rattle.erm_model.specs.declared.outcome.Phase.TheVariants.{Active, Idle, Pending, Safe}
use Rattle.erm_model.specs.declared.outcome.Receipt.{Receipt}
use Rattle.erm_model.specs.Run.{Step}
use Rattle.erm_worker.specs.Work.{IsReady}
use Rattle.erm_worker.proofs.Kept.{same_ready}
use Rattle.erm_world.specs.declared.stops.BeginStop.{BeginStop}
use Rattle.erm_world.specs.declared.stops.BeginStop.TheVariants as begin
use Rattle.erm_world.specs.World.{Session, View, phase_at, phase_of}

still : (seat : ℕ) (stop : BeginStop) (u t : View) → MayNotBeginBeside seat stop u t → t ≡ u
still seat begin.NumbersEnd u t did = did.0
still seat (begin.LogEnd tail) u t did = did.0
still seat begin.Memory u t did = did

pub begun_ready : (seat at : ℕ) (v t : View) (r : Option Receipt) → After seat (DidBeginSafeBeside seat at) v t → IsReady v seat r → IsReady t seat r
begun_ready seat at v t r (u, passes, (few, is, now)) ready =
    let there = (same_ready v u seat r passes.own passes.saves ready).receipt in
    record {
      run = λ active. let pending : phase_of (t.session seat).stand ≡ Pending = ap (λ (s : Session). phase_of s.stand) now.own in absurd (cc);
      receipt = rw now.own there;
    }

pub refused_ready : (seat : ℕ) (stop : BeginStop) (v t : View) (r : Option Receipt) → After seat (MayNotBeginBeside seat stop) v t → IsReady v seat r → IsReady t seat r
refused_ready seat stop v t r (u, passes, did) ready = subst (λ (x : View). IsReady x seat r) (sym (still seat stop u t did)) (same_ready v u seat r passes.own passes.saves ready)

-- its snapshot isn't known to be safe, or it is idle still
pub begun_phase : (seat at : ℕ) (v t : View) → After seat (DidBeginSafeBeside seat at) v t → (phase_at t seat ≡ Idle) ⊎ (phase_at t seat ≡ Pending)
begun_phase seat at v t (u, passes, (few, is, now)) = inr (ap (λ (s : Session). phase_of s.stand) now.own)

pub refused_phase : (seat : ℕ) (stop : BeginStop) (v t : View) → After seat (MayNotBeginBeside seat stop) v t → phase_at v seat ≡ Idle → (phase_at t seat ≡ Idle) ⊎ (phase_at t seat ≡ Pending)
refused_phase seat stop v t (u, passes, did) idle =
    inl (ap (λ (x : View). phase_at x seat) (still seat stop u t did) ∙ ap (λ (s : Session). phase_of s.stand) passes.own ∙ idle)

-- nothing is told to be in progress where the session was idle
none_told : (phase next : Phase) (p : Progress) → IsInPhase phase p → phase ≡ Idle → (next ≡ Idle) ⊎ (next ≡ Pending) → IsInPhase next p
none_told phase next p so idle now = record {
  active = subst (λ (o : Option Transaction). IfSome o (λ _. next ≡ Active)) (sym (none_current phase p so idle)) tt;
  safe = subst (λ (o : Option Snapshot). IfSome o (λ _. next ≡ Safe)) (sym (none_watched phase p so idle)) tt;
  idle = λ _ _. now;
}

inactive : (phase : Phase) → (phase ≡ Idle) ⊎ (phase ≡ Pending) → phase ≡ Active → ⊥
inactive phase (inl is) active = cc
inactive phase (inr is) active = cc

-- room was made where that told no error
pub room_made : {Y E : Type 0} (r : Result Y E) (X : Type 0) → OnOk r X → is_err r ≡ false → X
room_made (Ok y) X so none = so
room_made (Err e) X so none = cc

-- a transcript with room made
pub same_kept : (Kind : List Step → Type 0) (c d : Transcript) → IsSame c d → AllCommitted Kind c → AllCommitted Kind d
same_kept Kind c d same all = subst (λ (p : Progress). AllOver Kind p) (sym (dealt_same c d same)) all

module _ {S T X : Type 0} (stands : X → S → Type 0) (seat : S → ℕ) (own : S → View) (c : Client S T X) (t : Transcript) (client : IsClient stands seat own c) (same : IsSame c.transcript t) where
  each : HasAnswers t.standing (length c.transcript.lines.items) (length c.transcript.answers.items)
  each = subst (λ (s : Standing). HasAnswers s (length c.transcript.lines.items) (length c.transcript.answers.items)) (sym same.standing_so) client.transcript_ok.each

  pub roomy : ((spare : ℕ) → HasRoom spare c.transcript → HasRoom spare t) → IsClient stands seat own (record c { transcript = t })
  roomy kept = record {
    stands_so = client.stands_so;
    seat_is = same.seat ∙ client.seat_is;
    transcript_ok = same_transcript c.transcript t client.transcript_ok same.seat same.lines same.answers each;
    ready = λ opened. client.ready (sym same.standing_so ∙ opened);
    in_phase = λ opened. subst (λ (p : Progress). IsInPhase (phase_at (own c.session) (seat c.session)) p) (sym (dealt_same c.transcript t same)) (client.in_phase (sym same.standing_so ∙ opened));
    room = λ opened busy. kept 1 (client.room (sym same.standing_so ∙ opened) busy);
    left = λ stopped. client.left (sym same.standing_so ∙ stopped);
  }

  pub alone : (s : S) → phase_at (own c.session) (seat c.session) ≡ Idle → stands c.shared.now s → seat s ≡ seat c.session
      → (IsReady (own c.session) (seat c.session) c.receipt → IsReady (own s) (seat c.session) c.receipt)
      → (phase_at (own s) (seat c.session) ≡ Idle) ⊎ (phase_at (own s) (seat c.session) ≡ Pending) → HasRoom 1 t → IsClient stands seat own (record c { session = s; transcript = t })
  alone s idle so is ready now room =
      let next : (phase_at (own s) (seat s) ≡ Idle) ⊎ (phase_at (own s) (seat s) ≡ Pending) = subst (λ (n : ℕ). (phase_at (own s) n ≡ Idle) ⊎ (phase_at (own s) n ≡ Pending)) (sym is) now in
      record {
        stands_so = so;
        seat_is = same.seat ∙ client.seat_is ∙ sym is;
        transcript_ok = same_transcript c.transcript t client.transcript_ok same.seat same.lines same.answers each;
        ready = λ opened. subst (λ (n : ℕ). IsReady (own s) n c.receipt) (sym is) (ready (client.ready (sym same.standing_so ∙ opened)));
        in_phase = λ opened. subst (λ (p : Progress). IsInPhase (phase_at (own s) (seat s)) p) (sym (dealt_same c.transcript t same))
            (none_told (phase_at (own c.session) (seat c.session)) (phase_at (own s) (seat s)) (dealings_of c.transcript) (client.in_phase (sym same.standing_so ∙ opened)) idle next);
        room = λ opened busy. room;
        left = λ stopped. inactive (phase_at (own s) (seat s)) next;
      }
