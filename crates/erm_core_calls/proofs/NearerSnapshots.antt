-- The calls of snapshots come nearer to their ends.
use Rattle.std.proofs.Common.{◌≡◌, ℕ, ◌+◌, ◌-◌, ◌*◌, ◌<◌, ◌≤◌, true, eqb, leb, ltb, refl, sym, ap, subst, arith}
use Rattle.std.specs.Prelude.{if◌then◌else◌, ◌||◌}
use Rattle.std.proofs.lemmas.Bool.{ltb-true}
use Rattle.erm_machine.specs.declared.limits.TheConstants.{SESSIONS}
use Rattle.erm_machine.specs.declared.attempt.Attempt.{Attempt}
use Rattle.erm_machine.specs.declared.event.Kind.TheVariants as kind
use Rattle.erm_machine.specs.declared.place.Place.TheVariants.{Active}
use Rattle.erm_machine.specs.declared.task.Task.{Task}
use Rattle.erm_machine.specs.declared.task.Task.TheVariants as task
use Rattle.erm_machine.specs.declared.version.CellWord.TheVariants as word
use Rattle.erm_machine.specs.declared.version.VersionAt.{VersionAt}
use Rattle.erm_machine.specs.Core.{Core}
use Rattle.erm_machine.specs.Life.{after_passed, load_back, load_begin}
use Rattle.erm_machine.specs.Reading.{load_walked_link, load_walked_stamp}
use Rattle.erm_machine.specs.Seat.{is_active, with_task}
use Rattle.erm_machine.specs.Sound.{Sound}
use Rattle.erm_machine.specs.Words.{begin_of}
use Rattle.erm_machine.proofs.Guards.{either_way}
use Rattle.erm_core_calls.specs.Ending.{IsLess, ComesNearer, ahead, ahead_active, ahead_at, ahead_by, fewer_stages, less_left}
use Rattle.erm_core_calls.specs.Going.{MovesOn}
use Rattle.erm_core_calls.proofs.BoundsFrames.{second}
use Rattle.erm_core_calls.proofs.GoesActive.{bound_at}
use Rattle.erm_core_calls.proofs.Moving.{branch}
use Rattle.erm_core_calls.proofs.Nearer.{Elsewhere, from_to, nears, nowhere}

-- a session that is passed leaves less than its begin word and its back word, or its back word
passed_less : (t : Attempt) (next left : ℕ) → next ≤ SESSIONS → 2 * (SESSIONS + 1 - next) ≤ left → IsLess (ahead_active t (after_passed next)) (ahead_by 1 left)
passed_less t next left low more =
    either_way (λ (u : Task). IsLess (ahead_active t u) (ahead_by 1 left)) (eqb next SESSIONS) task.Safe (task.Surveys (next + 1)) (λ _. fewer_stages (omega arith))
    (λ _. less_left refl (fewer next left low more))
  where
    fewer : (n m : ℕ) → n ≤ SESSIONS → 2 * (SESSIONS + 1 - n) ≤ m → 2 * (SESSIONS + 1 - (n + 1)) + 1 < m
    fewer n m low more = omega (arith, low, more)

module _ (c : Core) (p : ℕ) (sound : Sound c) (tail : ℕ) (pl : (c.seats p).place ≡ Active tail) where
  active : is_active (c.seats p).place ≡ true
  active = ap is_active pl

  -- less lies ahead of the seat at another task
  here : (u w : Task) → (c.seats p).task ≡ u → IsLess (ahead_active (c.seats p).current w) (ahead_active (c.seats p).current u) → IsLess (ahead (with_task w (c.seats p))) (ahead (c.seats p))
  here u w at less =
      let x = c.seats p in
      subst (λ q. IsLess (ahead_at x.current x.back q w) (ahead_at x.current x.back q x.task)) (sym pl)
      (subst (λ v. IsLess (ahead_active x.current w) (ahead_active x.current v)) (sym at) less)

  -- a task that stays
  stays : (u : Task) → (c.seats p).task ≡ u → Elsewhere (c.seats p) (with_task u (c.seats p)) → ⊥
  stays u at moved = nowhere (c.seats p) (subst (λ (v : Task). Elsewhere (c.seats p) (with_task v (c.seats p))) (sym at) moved)

  pub n_surveys : (next : ℕ) → (c.seats p).task ≡ task.Surveys next → (m : MovesOn c p (kind.LoadBegin next)) → ComesNearer c p (kind.LoadBegin next) m
  n_surveys next at m =
      let x = c.seats p in
      let found = begin_of (c.seats next).place in
      let b = bound_at c p sound (task.Surveys next) at in
      let looks : Task = if eqb found 0 || leb x.current.begin found then task.Behind next else task.Surveys next in
      nears c p (kind.LoadBegin next) tt m _ _ (ap (load_begin p next found x) at) (λ _.
      either_way (λ (w : Task). Elsewhere x (with_task w x) → IsLess (ahead (with_task w x)) (ahead x)) (eqb next p) (after_passed next) looks
      (λ _ _. here (task.Surveys next) (after_passed next) at (passed_less x.current next (2 * (SESSIONS + 1 - next) + 1) b.1 (omega arith)))
      (λ _.
      either_way (λ (w : Task). Elsewhere x (with_task w x) → IsLess (ahead (with_task w x)) (ahead x)) (eqb found 0 || leb x.current.begin found) (task.Behind next) (task.Surveys next)
      (λ _ _. here (task.Surveys next) (task.Behind next) at (less_left refl (omega arith)))
      (λ _ moved. absurd (stays (task.Surveys next) at moved))))

  pub n_behind : (next : ℕ) → (c.seats p).task ≡ task.Behind next → (m : MovesOn c p (kind.LoadBack next)) → ComesNearer c p (kind.LoadBack next) m
  n_behind next at m =
      let x = c.seats p in
      let found = (c.seats next).back in
      let b = bound_at c p sound (task.Behind next) at in
      nears c p (kind.LoadBack next) tt m _ _ (ap (load_back next found x) at) (λ _.
      either_way (λ (w : Task). Elsewhere x (with_task w x) → IsLess (ahead (with_task w x)) (ahead x)) (ltb found x.current.begin) (after_passed next) (task.Behind next)
      (λ _ _. here (task.Behind next) (after_passed next) at (passed_less x.current next (2 * (SESSIONS + 1 - next)) b.2 (omega arith)))
      (λ _ moved. absurd (stays (task.Behind next) at moved)))

  pub n_safe_walks : (v : VersionAt) → (c.seats p).task ≡ task.SafeWalks v → (m : MovesOn c p (kind.LoadCell v word.Stamp)) → ComesNearer c p (kind.LoadCell v word.Stamp) m
  n_safe_walks v at m =
      from_to c p (Active tail) (Active tail) (task.SafeWalks v) pl at (kind.LoadCell v word.Stamp) tt m _ _ (branch _ _ _ _ active (ap (load_walked_stamp _ v (c.seats p)) at)) pl
      (λ _. either_way (λ (w : Task). IsLess (ahead_active (c.seats p).current w) (ahead_active (c.seats p).current (task.SafeWalks v))) _ (task.SafeFound v) (task.SafePassed v)
      (λ _. fewer_stages (omega arith)) (λ _. less_left refl (omega arith)))

  pub n_safe_passed : (v : VersionAt) → (c.seats p).task ≡ task.SafePassed v → (m : MovesOn c p (kind.LoadCell v word.Link)) → ComesNearer c p (kind.LoadCell v word.Link) m
  n_safe_passed v at m =
      from_to c p (Active tail) (Active tail) (task.SafePassed v) pl at (kind.LoadCell v word.Link) tt m _ _ (branch _ _ _ _ active (ap (load_walked_link _ v (c.seats p)) at)) pl
      (λ g. let older_left : 0 < v.place = ltb-true 0 v.place (second _ (ltb 0 v.place) g) in less_left refl (omega (arith, older_left)))
