-- The calls of snapshots go on.
use Rattle.std.proofs.Common.{◌≡◌, ℕ, ◌+◌, ◌<◌, ◌⊎◌, ⊎_elim, true, false, cond, eqb, leb, ltb, length, refl, sym, ap, ◌∙◌, subst, inl, inr, arith}
use Rattle.std.specs.Prelude.{◌||◌}
use Rattle.std.proofs.lemmas.Bool.{and_from, or_parts, cases_Bool, eq-eqb, eqb-false, leb-false, lt-ltb, ltb-false, cond-true, cond-false}
use Rattle.erm_machine.specs.declared.limits.TheConstants.{OBJECT_LIMIT, SESSIONS}
use Rattle.erm_machine.specs.declared.attempt.Attempt.{Attempt}
use Rattle.erm_machine.specs.declared.attempt.Decision.TheVariants.{Abort}
use Rattle.erm_machine.specs.declared.event.Kind.TheVariants as kind
use Rattle.erm_machine.specs.declared.part.Part.{Part}
use Rattle.erm_machine.specs.declared.place.Place.{Place}
use Rattle.erm_machine.specs.declared.place.Place.TheVariants.{Idle, Active, Sealed, Decided}
use Rattle.erm_machine.specs.declared.task.Task.{Task}
use Rattle.erm_machine.specs.declared.task.Task.TheVariants as task
use Rattle.erm_machine.specs.declared.version.CellWord.TheVariants as word
use Rattle.erm_machine.specs.declared.version.VersionAt.{VersionAt}
use Rattle.erm_machine.specs.Back.{passed_to}
use Rattle.erm_machine.specs.Bounds.{IsBounded}
use Rattle.erm_machine.specs.Core.{Core, blank}
use Rattle.erm_machine.specs.Life.{after_passed, after_survey, has_ended, load_back, load_begin, store_begin}
use Rattle.erm_machine.specs.Reading.{load_walked_link, load_walked_stamp}
use Rattle.erm_machine.specs.Seat.{is_active, is_snapshot, over}
use Rattle.erm_machine.specs.Snapshot.{InHand}
use Rattle.erm_machine.specs.Sound.{Sound}
use Rattle.erm_machine.specs.Tasks.{TaskFits}
use Rattle.erm_machine.specs.Words.{begin_of, is_flusher}
use Rattle.erm_machine.proofs.Backs.{new_is, session_from, snapshot_ends}
use Rattle.erm_machine.proofs.Guards.{either_way}
use Rattle.erm_core_calls.specs.Going.{IsUnsafe, MovesOn, Waits, for_begin}
use Rattle.erm_core_calls.proofs.GoesActive.{bound_at, leads_on, named_at}
use Rattle.erm_core_calls.proofs.Moving.{Apart, unlike, unlike_if, placed, next_at, more, to_task, to_place, same_self, branch}

-- a number that isn't 0
not_zero : (n : ℕ) → eqb n 0 ≡ false → 0 < n
not_zero n e = let ne = eqb-false n 0 e in grind arith

-- a session that is passed leads to another task
passed_other : (t : Task) (next : ℕ) → Apart t task.Safe → Apart t (task.Surveys (next + 1)) → Apart t (after_passed next)
passed_other t next safe on = unlike_if t (eqb next SESSIONS) task.Safe (task.Surveys (next + 1)) safe on

next_other : (next : ℕ) → Apart (task.Surveys next) (task.Surveys (next + 1))
next_other next = record { apart = λ e. more next (ap next_at e) }

-- a snapshot has passed its own seat's number or more
some_passed : (seat : ℕ) (t : Attempt) (u : Task) → is_snapshot u ≡ true → IsBounded seat t u → 0 < passed_to u
some_passed seat t (task.Surveys next) e b = b.0
some_passed seat t (task.Behind next) e b = b.1
some_passed seat t task.Safe e b = omega arith
some_passed seat t (task.SafeWalks version) e b = omega arith
some_passed seat t (task.SafePassed version) e b = omega arith
some_passed seat t (task.SafeFound version) e b = omega arith
some_passed seat t u e b = absurd (cc)

module _ (c : Core) (p : ℕ) (sound : Sound c) where
  module _ (tail : ℕ) (pl : (c.seats p).place ≡ Active tail) where
    active : is_active (c.seats p).place ≡ true
    active = ap is_active pl

    -- the begin word that is loaded leads elsewhere
    surveyed : (next : ℕ) → (c.seats p).task ≡ task.Surveys next → Apart (task.Surveys next) (after_survey p (c.seats p).current.begin (begin_of (c.seats next).place) next) → MovesOn c p (kind.LoadBegin next)
    surveyed next at other =
        to_task c p (kind.LoadBegin next) (task.Surveys next) _ _ at tt refl (ap (load_begin p next (begin_of (c.seats next).place) (c.seats p)) at) (and_from _ _ active (eq-eqb next next refl)) other

    pub g_surveys : (next : ℕ) → (c.seats p).task ≡ task.Surveys next → MovesOn c p (kind.LoadBegin next) ⊎ Waits c p
    g_surveys next at =
        let t = task.Surveys next in
        let begin = (c.seats p).current.begin in
        let found = begin_of (c.seats next).place in
        let looks : Task = cond (eqb found 0 || leb begin found) (task.Behind next) t in
        ⊎_elim
        (λ (own : eqb next p ≡ true).
        inl (surveyed next at (subst (Apart t) (sym (cond-true (eqb next p) (after_passed next) looks own)) (passed_other t next (unlike t task.Safe refl) (next_other next)))))
        (λ (other : eqb next p ≡ false).
        ⊎_elim
        (λ (late : (eqb found 0 || leb begin found) ≡ true).
        inl (surveyed next at
        (subst (Apart t) (sym (cond-false (eqb next p) (after_passed next) looks other ∙ cond-true (eqb found 0 || leb begin found) (task.Behind next) t late)) (unlike t (task.Behind next) refl))))
        (λ (early : (eqb found 0 || leb begin found) ≡ false).
        let parts = or_parts (eqb found 0) (leb begin found) early in
        inr (for_begin next at (eqb-false next p other) (not_zero found parts.0) (leb-false begin found parts.1)))
        (cases_Bool (eqb found 0 || leb begin found)))
        (cases_Bool (eqb next p))

    pub g_behind : (next : ℕ) → (c.seats p).task ≡ task.Behind next → MovesOn c p (kind.LoadBack next) ⊎ IsUnsafe c p
    g_behind next at =
        let t = task.Behind next in
        let begin = (c.seats p).current.begin in
        let found = (c.seats next).back in
        let b = bound_at c p sound t at in
        ⊎_elim
        (λ (below : ltb found begin ≡ true).
        inl (to_task c p (kind.LoadBack next) t _ _ at tt (session_from next b.1 b.2) (ap (load_back next found (c.seats p)) at) (and_from _ _ active (eq-eqb next next refl))
        (subst (Apart t) (sym (cond-true (ltb found begin) (after_passed next) t below)) (passed_other t next (unlike t task.Safe refl) (unlike t (task.Surveys (next + 1)) refl)))))
        (λ (above : ltb found begin ≡ false). inr (record { other = next; behind = at; back = ltb-false found begin above }))
        (cases_Bool (ltb found begin))

    pub g_safe_walks : (v : VersionAt) → (c.seats p).task ≡ task.SafeWalks v → MovesOn c p (kind.LoadCell v word.Stamp)
    g_safe_walks v at =
        let known = (named_at c p sound (task.SafeWalks v) at).object in
        to_task c p (kind.LoadCell v word.Stamp) (task.SafeWalks v) _ _ at tt (and_from _ _ (lt-ltb v.oid OBJECT_LIMIT known) refl)
        (branch _ _ _ _ active (ap (load_walked_stamp _ v (c.seats p)) at)) (same_self v)
        (search (unlike_if, unlike))

    pub g_safe_passed : (v : VersionAt) → (c.seats p).task ≡ task.SafePassed v → MovesOn c p (kind.LoadCell v word.Link)
    g_safe_passed v at =
        let named = named_at c p sound (task.SafePassed v) at in
        let in_hand : InHand c.shared (c.seats p).current.begin (task.SafePassed v) = subst (InHand c.shared (c.seats p).current.begin) at (sound.own p).snapshot.in_hand in
        to_task c p (kind.LoadCell v word.Link) (task.SafePassed v) _ _ at tt (and_from _ _ (lt-ltb v.oid OBJECT_LIMIT named.object) refl)
        (branch _ _ _ _ active (ap (load_walked_link _ v (c.seats p)) at))
        (leads_on c p sound tail pl v named in_hand)
        (search unlike)

    -- a snapshot, which has claimed and read nothing, ends
    ends_active : is_snapshot (c.seats p).task ≡ true → MovesOn c p (kind.StoreBegin 0)
    ends_active is =
        let none = new_is (c.seats p).current ((sound.own p).back.snapshot (some_passed p (c.seats p).current (c.seats p).task is (sound.own p).bounds.bounded)) in
        let writes = none.writes in
        let reads = none.reads in
        to_place c p (kind.StoreBegin 0) (Active tail) _ _ pl tt refl (ap (store_begin p 0 (c.seats p)) pl)
        (ap (has_ended (c.seats p).current) (snapshot_ends (c.seats p).task is)
        ∙ and_from (eqb 0 (length (c.seats p).current.writes)) (eqb 0 (length (c.seats p).current.reads)) (eq-eqb 0 (length (c.seats p).current.writes) (sym writes)) (eq-eqb 0 (length (c.seats p).current.reads) (sym reads)))
        (either_way (λ (y : Part). eqb (placed y.place) 4 ≡ false) (is_flusher p) (record (c.seats p) { place = Idle; task = task.Rest; current = blank })
        (over Abort (record (c.seats p) { place = Idle; task = task.Rest })) (λ _. refl) (λ _. refl))

  ends_at : (pl : Place) → (c.seats p).place ≡ pl → TaskFits pl (c.seats p).current (c.seats p).task → is_snapshot (c.seats p).task ≡ true → MovesOn c p (kind.StoreBegin 0)
  ends_at (Active tail) at fits is = ends_active tail at is
  ends_at (Sealed tail stamp) at fits is = absurd (not_settling (c.seats p).task is fits)
    where
      not_settling : (u : Task) → is_snapshot u ≡ true → TaskFits (Sealed tail stamp) (c.seats p).current u → ⊥
      not_settling (task.Surveys next) e f = f
      not_settling (task.Behind next) e f = f
      not_settling task.Safe e f = f
      not_settling (task.SafeWalks version) e f = f
      not_settling (task.SafePassed version) e f = f
      not_settling (task.SafeFound version) e f = f
      not_settling u e f = absurd (cc)
  ends_at (Decided tail stamp) at fits is = absurd (not_ending (c.seats p).task is fits)
    where
      not_ending : (u : Task) → is_snapshot u ≡ true → TaskFits (Decided tail stamp) (c.seats p).current u → ⊥
      not_ending (task.Ends raised ended step cleared) e f = absurd (cc)
      not_ending u e f = f
  ends_at pl at fits is = absurd (let rest : (c.seats p).task ≡ task.Rest = fits in let never = sym (ap is_snapshot rest) ∙ is in cc)

  -- A snapshot may end wherever it stands.
  pub snapshot_over : is_snapshot (c.seats p).task ≡ true → MovesOn c p (kind.StoreBegin 0)
  snapshot_over is = ends_at (c.seats p).place refl (sound.own p).task.fits is
