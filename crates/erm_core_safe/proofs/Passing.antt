-- A safe snapshot has passed all sessions, and what is passed stays passed.
use Rattle.std.proofs.Common.{◌≡◌, ℕ, ◌<◌, ◌≤◌, ⊎_elim, true, List, Some, inl, refl, sym, ap, subst, arith}
use Rattle.std.proofs.lemmas.Bool.{cases_eq}
use Rattle.erm_model.specs.Member.{◌∈◌}
use Rattle.erm_machine.specs.declared.attempt.Attempt.{Attempt}
use Rattle.erm_machine.specs.declared.event.Event.{Event}
use Rattle.erm_machine.specs.declared.event.Kind.{Kind}
use Rattle.erm_machine.specs.declared.part.Part.{Part}
use Rattle.erm_machine.specs.declared.place.Place.{Place}
use Rattle.erm_machine.specs.declared.place.Place.TheVariants.{Active, Sealed, Decided}
use Rattle.erm_machine.specs.declared.task.Task.{Task}
use Rattle.erm_machine.specs.declared.task.Task.TheVariants as task
use Rattle.erm_machine.specs.Back.{IsLeaving, IsSafeCommit, Back, passed_to}
use Rattle.erm_machine.specs.Core.{Core}
use Rattle.erm_machine.specs.Facts.{HasBegun}
use Rattle.erm_machine.specs.Lives.{in_progress}
use Rattle.erm_machine.specs.Seat.{is_safe}
use Rattle.erm_machine.specs.Sound.{Sound}
use Rattle.erm_machine.specs.Step.{after_event}
use Rattle.erm_machine.specs.Tasks.{InEnd, InSettle, TaskFits}
use Rattle.erm_machine.specs.Words.{is_session}
use Rattle.erm_machine.proofs.Backs.{safe_passed, session_within}
use Rattle.erm_core_back.proofs.Goes.{Goes, Marked}
use Rattle.erm_core_si.proofs.SnapshotSteps.{current_stands}
use Rattle.erm_core_stays.specs.Runs.{Runs}
use Rattle.erm_core_stays.proofs.Numbers.{rises}
use Rattle.erm_core_stays.proofs.Running.{KeepsSound, at_end}
use Rattle.erm_core_safe.specs.Passed.{ArePassed, IsPassed}
use Rattle.erm_core_safe.proofs.Each.{each_goes}

-- a safe snapshot is one of an active transaction
not_at_rest : (u : Task) → u ≡ task.Rest → is_safe u ≡ true → ⊥
not_at_rest u rest safe = absurd (cc)

not_in_settle : (u : Task) → InSettle u → is_safe u ≡ true → ⊥
not_in_settle task.Safe fits safe = fits
not_in_settle (task.SafeWalks version) fits safe = fits
not_in_settle (task.SafePassed version) fits safe = fits
not_in_settle (task.SafeFound version) fits safe = fits
not_in_settle _ fits safe = absurd (cc)

not_in_end : (t : Attempt) (u : Task) → InEnd t u → is_safe u ≡ true → ⊥
not_in_end t (task.Ends raised ended step cleared) fits safe = absurd (cc)
not_in_end t _ fits safe = fits

active_at : (pl : Place) (t : Attempt) (u : Task) → TaskFits pl t u → is_safe u ≡ true → (tail : ℕ) × (pl ≡ Active tail)
active_at (Active tail) t u fits safe = (tail, refl)
active_at (Sealed tail stamp) t u fits safe = absurd (not_in_settle u fits safe)
active_at (Decided tail stamp) t u fits safe = absurd (not_in_end t u fits safe)
active_at _ t u fits safe = absurd (not_at_rest u fits safe)

module _ (c : Core) (p : ℕ) (sound : Sound c) (safe : is_safe (c.seats p).task ≡ true) where
  abbrev x : Part
  x = c.seats p

  active : (tail : ℕ) × (x.place ≡ Active tail)
  active = active_at x.place x.current x.task (sound.own p).task.fits safe

  -- its own commits lie below its begin stamp
  own_passed : IsPassed x.current.begin x
  own_passed = record {
    begun = λ _. omega arith;
    over = λ t m _ _ above. let before = (sound.own p).lives.earlier t m (ap in_progress active.1) in absurd (omega (arith, before, above));
    leaving = λ leaves. absurd (subst IsLeaving active.1 leaves);
  }

  other_passed : (q : ℕ) → (q ≡ p → ⊥) → is_session q ≡ true → IsPassed x.current.begin (c.seats q)
  other_passed q other session =
      let back : Back x q (c.seats q) = (sound.both p q (λ e. other (sym e))).back in
      let within = (session_within q session).1 in
      let all = safe_passed x.task safe in
      let below : q < passed_to x.task = omega (arith, within, all) in
      record { begun = λ begun. back.late (inl below) session begun; over = λ t m. back.over below session t m; leaving = λ leaves. back.leaving below session leaves }

  pub safe_passes : ArePassed x.current.begin c
  safe_passes = record {
    past = ((sound.own p).snapshot.past x.current (current_stands x)).past;
    sessions = λ q session.
        ⊎_elim (λ (own : q ≡ p). subst (λ (n : ℕ). IsPassed x.current.begin (c.seats n)) (sym own) own_passed) (λ (other : q ≡ p → ⊥). other_passed q other session) (cases_eq q p);
  }

-- a step leaves a seat passed
passed_on : (tail b : ℕ) (x y : Part) → Goes tail x y → b ≤ tail → IsPassed b x → IsPassed b y
passed_on tail b x y goes below passed = record {
  begun = λ begun.
      ⊎_elim (λ (was : HasBegun x.place × (y.current.begin ≡ x.current.begin)). let h = passed.begun was.0 in let e = was.1 in omega (arith, h, e))
      (λ (new : tail ≤ y.current.begin). omega (arith, below, new)) (goes.on begun);
  over = λ t m commit.
      ⊎_elim (λ (before : t ∈ x.over). passed.over t before commit)
      (λ (left : IsLeaving x.place × (t ≡ x.current)). subst (IsSafeCommit b) (sym left.1) (passed.leaving left.0) commit) (goes.over t m commit);
  leaving = λ leaves.
      let now = goes.leaving leaves in
      subst (IsSafeCommit b) (sym now.0)
      (⊎_elim (λ (was : IsLeaving x.place). passed.leaving was)
      (λ (cleared : HasBegun x.place × Marked x). λ _ before _. let late = passed.begun cleared.0 in absurd (omega (arith, late, before))) now.1);
}

pub event_passed : (b : ℕ) (c d : Core) (p : ℕ) (k : Kind) → Sound c → after_event c p k ≡ Some d → ArePassed b c → ArePassed b d
event_passed b c d p k sound e passed = record {
  past = let up = (rises c d p k sound e).tail in let low = passed.past in omega (arith, up, low);
  sessions = λ q session. passed_on c.shared.tail b (c.seats q) (d.seats q) (each_goes c p k d sound e q) passed.past (passed.sessions q session);
}

pub run_passed : KeepsSound → (b : ℕ) (es : List Event) (c d : Core) → Sound c → Runs es c d → ArePassed b c → ArePassed b d
run_passed keeps b es c d sound run passed = at_end keeps (ArePassed b) (event_passed b) es c d sound run passed
