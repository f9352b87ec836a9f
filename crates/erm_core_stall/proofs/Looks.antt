-- Who waits doesn't go on.
use Rattle.std.proofs.Common.{◌≡◌, ◌≢◌, ℕ, ◌<◌, ◌≤◌, ◌⊎◌, ⊎_elim, Bool, true, false, ◌||◌, eqb, leb, ltb, refl, sym, ap, ◌∙◌, subst, inl, inr, arith}
use Rattle.std.specs.Prelude.{if◌then◌else◌}
use Rattle.std.specs.Int.{w64, trailing_zeros}
use Rattle.std.proofs.lemmas.Bool.{and_right, cond-false, le-ltb, lt-leb, ne_eqb}
use Rattle.erm_machine.specs.declared.attempt.Attempt.{Attempt}
use Rattle.erm_machine.specs.declared.event.Kind.{Kind}
use Rattle.erm_machine.specs.declared.event.Kind.TheVariants as kind
use Rattle.erm_machine.specs.declared.part.Flushing.TheVariants.{Still}
use Rattle.erm_machine.specs.declared.part.Part.{Part}
use Rattle.erm_machine.specs.declared.place.Place.{Place}
use Rattle.erm_machine.specs.declared.place.Place.TheVariants.{Active, Sealed, Decided}
use Rattle.erm_machine.specs.declared.task.Task.{Task}
use Rattle.erm_machine.specs.declared.task.Task.TheVariants as task
use Rattle.erm_machine.specs.Core.{Core}
use Rattle.erm_machine.specs.Flushing.{load_flushed}
use Rattle.erm_machine.specs.Life.{after_clear, after_passed, after_survey, load_back, load_begin}
use Rattle.erm_machine.specs.Seat.{is_sealed, with_task}
use Rattle.erm_machine.specs.Settling.{has_room, load_flushed_to_settle}
use Rattle.erm_machine.specs.Sound.{Sound}
use Rattle.erm_machine.specs.Tasks.{TaskFits}
use Rattle.erm_machine.specs.Words.{begin_of, is_clear, state_of}
use Rattle.erm_machine.proofs.Frames.{put_same}
use Rattle.erm_machine.proofs.Guards.{when_then}
use Rattle.erm_machine.proofs.QuietKinds.{MeetsOne, moves}
use Rattle.erm_core_calls.specs.Going.{IsInCall, IsUnsafe, MovesOn, Waits, Written, for_begin, for_owner, for_overwriter, for_reader, next_at, next_kind}
use Rattle.erm_core_calls.proofs.Goes.{some_fits}
use Rattle.erm_core_calls.proofs.Nearer.{Elsewhere, Leads}
use Rattle.erm_core_stall.specs.Waiting.{Actor, GoesOn, MayChoose, MayRead, WaitsFor, between_calls, ends_unsafe, in_call, reads_safely, seat_of, to_settle}
use Rattle.erm_core_stall.specs.Waiting.{for_begin as waits_begin, for_block as waits_block, for_owner as waits_owner, for_overwriter as waits_overwriter, for_reader as waits_reader, for_ring as waits_ring}
use Rattle.erm_core_stall.proofs.Places.{fits_at, least_reader, sealed_not_active, sealed_session}

-- a sealed one whose block has no room in the ring
pub record IsFull (c : Core) (p : ℕ) : Type 0 where
  pub sealed : is_sealed (c.seats p).place ≡ true
  pub rest : (c.seats p).task ≡ task.Rest
  pub full : has_room c.shared.flushed (c.seats p).current ≡ false

-- whom a seat waits for, another seat or the turn
pub waits_for : (c : Core) (p : ℕ) → Waits c p → (b : Actor) × WaitsFor c (seat_of p) b
waits_for c p (for_owner oid owner at e) = (seat_of owner, waits_owner p oid owner refl refl at e)
waits_for c p (for_overwriter read owner at e) = (seat_of owner, waits_overwriter p read owner refl refl at e)
waits_for c p (for_reader write bits reader at least e) = (seat_of reader, waits_reader p write bits reader refl refl at least e)
waits_for c p (for_begin other at ne some low) = (seat_of other, waits_begin p other refl refl at ne some low)

seat_waits : (c : Core) (p : ℕ) (a b : Actor) → a ≡ seat_of p → WaitsFor c a b → Waits c p ⊎ IsFull c p
seat_waits c p a b is (waits_owner r oid owner is_a is_b at e) = let same : r ≡ p = cc in subst (λ n. Waits c n ⊎ IsFull c n) same (inl (for_owner oid owner at e))
seat_waits c p a b is (waits_overwriter r read owner is_a is_b at e) = let same : r ≡ p = cc in subst (λ n. Waits c n ⊎ IsFull c n) same (inl (for_overwriter read owner at e))
seat_waits c p a b is (waits_reader r write bits reader is_a is_b at least e) =
    let same : r ≡ p = cc in subst (λ n. Waits c n ⊎ IsFull c n) same (inl (for_reader write bits reader at least e))
seat_waits c p a b is (waits_ring r is_a is_b sealed rest full) =
    let same : r ≡ p = cc in subst (λ n. Waits c n ⊎ IsFull c n) same (inr (record { sealed = sealed; rest = rest; full = full }))
seat_waits c p a b is (waits_begin r other is_a is_b at ne some low) = let same : r ≡ p = cc in subst (λ n. Waits c n ⊎ IsFull c n) same (inl (for_begin other at ne some low))
seat_waits c p a b is (waits_block q is_a is_b starts none) = absurd (cc)

-- the looks of calls that wait, by their tasks
owned_next : (b : Written) (x : Part) (pl : Place) (t : Attempt) (oid owner : ℕ) → TaskFits pl t (task.Owned oid owner) → next_at b x pl (task.Owned oid owner) ≡ kind.LoadState owner x.current.begin
owned_next b x (Active tail) t oid owner fits = refl
owned_next b x (Sealed tail stamp) t oid owner fits = absurd fits
owned_next b x (Decided tail stamp) t oid owner fits = absurd fits
owned_next b x pl t oid owner fits = absurd (cc)

read_owned_next : (b : Written) (x : Part) (pl : Place) (t : Attempt) (read owner : ℕ) → TaskFits pl t (task.ReadOwned read owner) →
    next_at b x pl (task.ReadOwned read owner) ≡ kind.LoadState owner x.current.stamp
read_owned_next b x (Active tail) t read owner fits = absurd fits
read_owned_next b x (Sealed tail stamp) t read owner fits = refl
read_owned_next b x (Decided tail stamp) t read owner fits = absurd fits
read_owned_next b x pl t read owner fits = absurd (cc)

readers_left_next : (b : Written) (x : Part) (pl : Place) (t : Attempt) (write bits : ℕ) → TaskFits pl t (task.ReadersLeft write bits) →
    next_at b x pl (task.ReadersLeft write bits) ≡ kind.LoadState (trailing_zeros w64 bits) x.current.stamp
readers_left_next b x (Active tail) t write bits fits = absurd fits
readers_left_next b x (Sealed tail stamp) t write bits fits = refl
readers_left_next b x (Decided tail stamp) t write bits fits = absurd fits
readers_left_next b x pl t write bits fits = absurd (cc)

surveys_next : (b : Written) (x : Part) (pl : Place) (t : Attempt) (next : ℕ) → TaskFits pl t (task.Surveys next) → next_at b x pl (task.Surveys next) ≡ kind.LoadBegin next
surveys_next b x (Active tail) t next fits = refl
surveys_next b x (Sealed tail stamp) t next fits = absurd fits
surveys_next b x (Decided tail stamp) t next fits = absurd fits
surveys_next b x pl t next fits = absurd (cc)

behind_next : (b : Written) (x : Part) (pl : Place) (t : Attempt) (next : ℕ) → TaskFits pl t (task.Behind next) → next_at b x pl (task.Behind next) ≡ kind.LoadBack next
behind_next b x (Active tail) t next fits = refl
behind_next b x (Sealed tail stamp) t next fits = absurd fits
behind_next b x (Decided tail stamp) t next fits = absurd fits
behind_next b x pl t next fits = absurd (cc)

or_none : (a b : Bool) → a ≡ false → b ≡ false → (a || b) ≡ false
or_none true b h k = absurd (cc)
or_none false b h k = k

-- at a task where one waits its caller has nothing to choose
no_choice : (p : ℕ) (u v : Task) → u ≡ v → (MayChoose p v → ⊥) → MayChoose p u → ⊥
no_choice p u v same none may = none (subst (MayChoose p) same may)

no_read : (u v : Task) → u ≡ v → (MayRead v → ⊥) → MayRead u → ⊥
no_read u v same none may = none (subst MayRead same may)

module _ (c : Core) (p : ℕ) (sound : Sound c) where
  -- a step whose guard leads to the same place, task and back word moves nobody on
  stays : (k : Kind) → MeetsOne k → (m : MovesOn c p k) (b : Bool) (z : Part) → Leads c p k b z → (z.place ≡ (c.seats p).place) × (z.task ≡ (c.seats p).task) × (z.back ≡ (c.seats p).back) → ⊥
  stays k one m b z leads same =
      let step = moves c p k m.after one m.taken in
      let part : m.after.seats p ≡ step.part = ap (λ (d : Core). d.seats p) step.is ∙ put_same c.seats p step.part in
      when_then (λ y. Elsewhere (c.seats p) y → ⊥) b z step.part (sym leads ∙ step.after) (λ _ there.
      ⊎_elim (λ ne. ne same.0) (λ rest. ⊎_elim (λ ne. ne same.1) (λ ne. ne same.2) rest) there)
      (subst (Elsewhere (c.seats p)) part m.moved)

  -- a look that doesn't find its seat clear
  look_stays : (other bound : ℕ) → is_clear (state_of (c.seats other).place) bound ≡ false → MovesOn c p (kind.LoadState other bound) → ⊥
  look_stays other bound e m = stays (kind.LoadState other bound) tt m _ _ refl (refl, cond-false _ (after_clear other bound (c.seats p) (c.seats p).task) (c.seats p).task e, refl)

  -- a look that finds a begin word standing below the begin stamp
  begin_stays : (other : ℕ) → (c.seats p).task ≡ task.Surveys other → other ≢ p → 0 < begin_of (c.seats other).place → begin_of (c.seats other).place < (c.seats p).current.begin →
      MovesOn c p (kind.LoadBegin other) → ⊥
  begin_stays other at ne some low m =
      let x = c.seats p in
      let found = begin_of (c.seats other).place in
      let begin = x.current.begin in
      let looks : Task = if eqb found 0 || leb begin found then task.Behind other else task.Surveys other in
      let early : (eqb found 0 || leb begin found) ≡ false = or_none _ _ (ne_eqb found 0 (λ none. omega (arith, some, none))) (lt-leb begin found low) in
      let waits : after_survey p begin found other ≡ task.Surveys other =
      cond-false (eqb other p) (after_passed other) looks (ne_eqb other p ne) ∙ cond-false (eqb found 0 || leb begin found) (task.Behind other) (task.Surveys other) early in
      stays (kind.LoadBegin other) tt m _ _ (ap (load_begin p other found x) at) (refl, waits ∙ sym at, refl)

  -- a back word at or above the begin stamp
  back_stays : (other : ℕ) → (c.seats p).task ≡ task.Behind other → (c.seats p).current.begin ≤ (c.seats other).back → MovesOn c p (kind.LoadBack other) → ⊥
  back_stays other at above m =
      let x = c.seats p in
      let found = (c.seats other).back in
      let begin = x.current.begin in
      let ends : (if ltb found begin then after_passed other else task.Behind other) ≡ task.Behind other = cond-false (ltb found begin) (after_passed other) (task.Behind other) (le-ltb found begin above) in
      stays (kind.LoadBack other) tt m _ _ (ap (load_back other found x) at) (refl, ends ∙ sym at, refl)

  -- a load of flushed that finds no room
  full_stays : IsFull c p → MovesOn c p kind.LoadFlushed → ⊥
  full_stays f m =
      let x = c.seats p in
      let still : x.flushing ≡ Still = (sound.own p).log.still (sealed_session c sound p f.sealed) in
      let same : load_flushed_to_settle c.shared.flushed x ≡ x = cond-false _ (with_task (task.Settles 0 0) x) x (and_right _ _ f.full) in
      stays kind.LoadFlushed tt m _ _ (ap (load_flushed c.shared.flushed x) still) (ap (λ (y : Part). y.place) same, ap (λ (y : Part). y.task) same, ap (λ (y : Part). y.back) same)

  -- the next step of a call that waits
  pub call_stays : (b : Written) → Waits c p → MovesOn c p (next_kind b (c.seats p)) → ⊥
  call_stays b (for_owner oid owner at e) m =
      let x = c.seats p in
      let next = ap (next_at b x x.place) at ∙ owned_next b x x.place x.current oid owner (subst (TaskFits x.place x.current) at (fits_at c sound p)) in
      look_stays owner x.current.begin e (subst (MovesOn c p) next m)
  call_stays b (for_overwriter read owner at e) m =
      let x = c.seats p in
      let next = ap (next_at b x x.place) at ∙ read_owned_next b x x.place x.current read owner (subst (TaskFits x.place x.current) at (fits_at c sound p)) in
      look_stays owner x.current.stamp e (subst (MovesOn c p) next m)
  call_stays b (for_reader write bits reader at least e) m =
      let x = c.seats p in
      let next = ap (next_at b x x.place) at ∙ readers_left_next b x x.place x.current write bits (subst (TaskFits x.place x.current) at (fits_at c sound p)) in
      let who = least_reader c sound bits reader least in
      look_stays (trailing_zeros w64 bits) x.current.stamp (subst (λ q. is_clear (state_of (c.seats q).place) x.current.stamp ≡ false) who e) (subst (MovesOn c p) next m)
  call_stays b (for_begin other at ne some low) m =
      let x = c.seats p in
      let next = ap (next_at b x x.place) at ∙ surveys_next b x x.place x.current other (subst (TaskFits x.place x.current) at (fits_at c sound p)) in
      begin_stays other at ne some low (subst (MovesOn c p) next m)

  -- the next step of a snapshot that was found unsafe
  pub unsafe_stays : (b : Written) → IsUnsafe c p → MovesOn c p (next_kind b (c.seats p)) → ⊥
  unsafe_stays b u m =
      let x = c.seats p in
      let next = ap (next_at b x x.place) u.behind ∙ behind_next b x x.place x.current u.other (subst (TaskFits x.place x.current) u.behind (fits_at c sound p)) in
      back_stays u.other u.behind u.back (subst (MovesOn c p) next m)

  -- where a call waits, its seat isn't between calls, nor a snapshot unsafe
  no_rest : Waits c p → (c.seats p).task ≡ task.Rest → ⊥
  no_rest (for_owner oid owner at e) rest = absurd (cc)
  no_rest (for_overwriter read owner at e) rest = absurd (cc)
  no_rest (for_reader write bits reader at least e) rest = absurd (cc)
  no_rest (for_begin other at ne some low) rest = absurd (cc)

  not_between : Waits c p → MayChoose p (c.seats p).task → ⊥
  not_between (for_owner oid owner at e) may = no_choice p (c.seats p).task (task.Owned oid owner) at (λ none. none) may
  not_between (for_overwriter read owner at e) may = no_choice p (c.seats p).task (task.ReadOwned read owner) at (λ none. none) may
  not_between (for_reader write bits reader at least e) may = no_choice p (c.seats p).task (task.ReadersLeft write bits) at (λ none. none) may
  not_between (for_begin other at ne some low) may = no_choice p (c.seats p).task (task.Surveys other) at (λ none. none) may

  not_safe : Waits c p → MayRead (c.seats p).task → ⊥
  not_safe (for_owner oid owner at e) may = no_read (c.seats p).task (task.Owned oid owner) at (λ none. none) may
  not_safe (for_overwriter read owner at e) may = no_read (c.seats p).task (task.ReadOwned read owner) at (λ none. none) may
  not_safe (for_reader write bits reader at least e) may = no_read (c.seats p).task (task.ReadersLeft write bits) at (λ none. none) may
  not_safe (for_begin other at ne some low) may = no_read (c.seats p).task (task.Surveys other) at (λ none. none) may

  not_unsafe : Waits c p → IsUnsafe c p → ⊥
  not_unsafe (for_owner oid owner at e) u = let behind = u.behind in absurd (cc)
  not_unsafe (for_overwriter read owner at e) u = let behind = u.behind in absurd (cc)
  not_unsafe (for_reader write bits reader at least e) u = let behind = u.behind in absurd (cc)
  not_unsafe (for_begin other at ne some low) u = let behind = u.behind in absurd (cc)

  waiting_stays : Waits c p → GoesOn c p → ⊥
  waiting_stays w (in_call call on) = let f = some_fits c p sound in call_stays f.0 w (on f.0 f.1)
  waiting_stays w (to_settle sealed rest on) = no_rest w rest
  waiting_stays w (between_calls active may reads seals) = not_between w may
  waiting_stays w (reads_safely active may reads ends) = not_safe w may
  waiting_stays w (ends_unsafe u ends) = not_unsafe w u

  full_call : (pl : Place) (u : Task) → is_sealed pl ≡ true → u ≡ task.Rest → IsInCall pl u → ⊥
  full_call (Sealed tail stamp) u e rest call = subst (IsInCall (Sealed tail stamp)) rest call
  full_call pl u e rest call = absurd (cc)

  full_waits : IsFull c p → GoesOn c p → ⊥
  full_waits f (in_call call on) = full_call (c.seats p).place (c.seats p).task f.sealed f.rest call
  full_waits f (to_settle sealed rest on) = full_stays f on
  full_waits f (between_calls active may reads seals) = sealed_not_active (c.seats p).place f.sealed active
  full_waits f (reads_safely active may reads ends) = sealed_not_active (c.seats p).place f.sealed active
  full_waits f (ends_unsafe u ends) = let rest = f.rest in let behind = u.behind in absurd (cc)

  pub not_both : (b : Actor) → WaitsFor c (seat_of p) b → GoesOn c p → ⊥
  not_both b w on = ⊎_elim (λ (h : Waits c p). waiting_stays h on) (λ (h : IsFull c p). full_waits h on) (seat_waits c p (seat_of p) b refl w)
