-- Calls go on: the step that each takes, by its place and its task.
use Rattle.std.proofs.Common.{◌≡◌, ℕ, ◌<◌, ◌⊎◌, ⊎_elim, true, length, refl, sym, ap, subst, inl, inr, arith, []}
use Rattle.std.proofs.lemmas.Bool.{and_from, eq-eqb, le-leb, lt-ltb, not_from_false}
use Rattle.erm_machine.specs.declared.limits.TheConstants.{GREATEST_BLOCK, LEAST_BLOCK, OBJECT_LIMIT, READ_LIMIT, WRITE_LIMIT}
use Rattle.erm_machine.specs.declared.event.Kind.{Kind}
use Rattle.erm_machine.specs.declared.event.Kind.TheVariants as kind
use Rattle.erm_machine.specs.declared.event.TailUse.TheVariants as purpose
use Rattle.erm_machine.specs.declared.part.Part.{Part}
use Rattle.erm_machine.specs.declared.place.Place.{Place}
use Rattle.erm_machine.specs.declared.place.Place.TheVariants.{Vacant, Idle, Begun, Announced, Active, Sealing, Drawn, Sealed, Decided, Leaving}
use Rattle.erm_machine.specs.declared.task.Task.{Task}
use Rattle.erm_machine.specs.declared.task.Task.TheVariants as task
use Rattle.erm_machine.specs.Chains.{NamedInHand}
use Rattle.erm_machine.specs.Core.{Core}
use Rattle.erm_machine.specs.Life.{load_tail_to_begin, add_tail, store_begin, store_state}
use Rattle.erm_machine.specs.Lives.{IsBeginning}
use Rattle.erm_machine.specs.Reading.{claim, set_reader}
use Rattle.erm_machine.specs.Sound.{Sound}
use Rattle.erm_machine.specs.Tasks.{TaskFits, InActive, InSettle, InEnd}
use Rattle.erm_machine.specs.Words.{is_session}
use Rattle.erm_machine.proofs.Frames.{put_same}
use Rattle.erm_core_calls.specs.Going.{FitsAt, IsInCall, IsUnsafe, MovesOn, Waits, MayRegister, Registers, MayClaim, MayWrite, Claims, Written, next_active, next_at, next_end, next_kind, next_settle}
use Rattle.erm_core_calls.proofs.GoesActive.{g_owned, g_cleared, g_walks, g_passed, g_registered, g_overtaken, g_leaves_numbers, g_numbers, g_claimed, g_horizon, g_cut_walks, g_cut_passed, g_cut_found, g_detaches}
use Rattle.erm_core_calls.proofs.GoesClaims.{g_draws, g_pool, g_fetched, g_refused, g_copies, g_writes}
use Rattle.erm_core_calls.proofs.GoesEnds.{aborts, ends}
use Rattle.erm_core_calls.proofs.GoesSnapshots.{g_surveys, g_behind, g_safe_walks, g_safe_passed}
use Rattle.erm_core_calls.proofs.GoesSettled.{header_fits, header_for, sizes, s_settles, s_read_owned, s_read_clear, s_read_overtaken, s_readers_left, s_write_clear, s_write_made, s_fills}
use Rattle.erm_core_calls.proofs.Moving.{taken, met, to_place, same_self}

-- a call goes on, or waits: so it goes on, waits or is unsafe
or_waits : (c : Core) (p : ℕ) (k : Kind) → MovesOn c p k ⊎ Waits c p → MovesOn c p k ⊎ Waits c p ⊎ IsUnsafe c p
or_waits c p k h = ⊎_elim (λ (m : MovesOn c p k). inl m) (λ (w : Waits c p). inr (inl w)) h

module _ (c : Core) (p : ℕ) (sound : Sound c) where
  -- the calls of an active transaction
  active_goes : (b : Written) → ((c.seats p).task ≡ task.Numbers → is_session p ≡ true) → (tail : ℕ) (u : Task) → (c.seats p).place ≡ Active tail → (c.seats p).task ≡ u → InActive u → IsInCall (Active tail) u →
      MovesOn c p (next_active b (c.seats p) u) ⊎ Waits c p ⊎ IsUnsafe c p
  active_goes b numbers tail task.Rest pl at fits call = absurd call
  active_goes b numbers tail (task.Owned oid owner) pl at fits call = or_waits c p _ (g_owned c p sound tail pl oid owner at)
  active_goes b numbers tail (task.Cleared oid) pl at fits call = inl (g_cleared c p sound tail pl oid at)
  active_goes b numbers tail (task.Walks v head) pl at fits call = inl (g_walks c p sound tail pl v head at)
  active_goes b numbers tail (task.Passed v) pl at fits call = inl (g_passed c p sound tail pl v at)
  active_goes b numbers tail (task.Found v stamp head) pl at fits call = absurd call
  active_goes b numbers tail (task.Registered v) pl at fits call = inl (g_registered c p sound tail pl v at)
  active_goes b numbers tail (task.Overtaken v overwriter) pl at fits call = inl (g_overtaken c p sound tail pl v overwriter at)
  active_goes b numbers tail (task.Rated v) pl at fits call = absurd call
  active_goes b numbers tail task.Numbers pl at fits call = inl (g_numbers c p sound tail pl (numbers at) at)
  active_goes b numbers tail (task.Surveys next) pl at fits call = or_waits c p _ (g_surveys c p sound tail pl next at)
  active_goes b numbers tail (task.Behind next) pl at fits call =
      ⊎_elim (λ (m : MovesOn c p (kind.LoadBack next)). inl m) (λ (u : IsUnsafe c p). inr (inr u)) (g_behind c p sound tail pl next at)
  active_goes b numbers tail task.Safe pl at fits call = absurd call
  active_goes b numbers tail (task.SafeWalks v) pl at fits call = inl (g_safe_walks c p sound tail pl v at)
  active_goes b numbers tail (task.SafePassed v) pl at fits call = inl (g_safe_passed c p sound tail pl v at)
  active_goes b numbers tail (task.SafeFound v) pl at fits call = absurd call
  active_goes b numbers tail (task.Claimed v) pl at fits call = inl (g_claimed c p sound tail pl v at)
  active_goes b numbers tail (task.Horizon v least next) pl at fits call = inl (g_horizon c p sound tail pl v least next at)
  active_goes b numbers tail (task.CutWalks v horizon) pl at fits call = inl (g_cut_walks c p sound tail pl v horizon at)
  active_goes b numbers tail (task.CutPassed v horizon) pl at fits call = inl (g_cut_passed c p sound tail pl v horizon at)
  active_goes b numbers tail (task.CutFound v horizon) pl at fits call = inl (g_cut_found c p sound tail pl v horizon at)
  active_goes b numbers tail (task.Detaches v) pl at fits call = inl (g_detaches c p sound tail pl v at)
  active_goes b numbers tail task.Draws pl at fits call = inl (g_draws c p sound tail pl at)
  active_goes b numbers tail task.Pool pl at fits call = inl (g_pool c p sound tail pl at)
  active_goes b numbers tail task.Fetched pl at fits call = inl (g_fetched c p sound tail pl at)
  active_goes b numbers tail task.Refused pl at fits call = inl (g_refused c p sound tail pl at)
  active_goes b numbers tail (task.Copies w) pl at fits call = inl (g_copies c p sound tail pl w at)
  active_goes b numbers tail (task.Writes k w) pl at fits call = inl (g_writes c p sound tail pl b.row k w at)
  active_goes b numbers tail (task.Ends raised ended step cleared) pl at fits call = inl (aborts c p sound raised ended step cleared at tail pl)
  active_goes b numbers tail u pl at fits call = absurd fits

  -- settle
  sealed_goes : (b : Written) (tail stamp : ℕ) (u : Task) → (c.seats p).place ≡ Sealed tail stamp → (c.seats p).task ≡ u → InSettle u → IsInCall (Sealed tail stamp) u →
      FitsAt b (c.seats p).current (c.seats p).run (Sealed tail stamp) u → MovesOn c p (next_settle b (c.seats p).current u) ⊎ Waits c p
  sealed_goes b tail stamp task.Rest pl at fits call block = absurd call
  sealed_goes b tail stamp (task.Settles r w) pl at fits call block = inl (s_settles c p sound tail stamp pl b r w at)
  sealed_goes b tail stamp (task.ReadOwned read owner) pl at fits call block = s_read_owned c p sound tail stamp pl read owner at
  sealed_goes b tail stamp (task.ReadClear read) pl at fits call block = inl (s_read_clear c p sound tail stamp pl read at)
  sealed_goes b tail stamp (task.ReadOvertaken read overwriter) pl at fits call block = inl (s_read_overtaken c p sound tail stamp pl read overwriter at)
  sealed_goes b tail stamp (task.ReadersLeft write bits) pl at fits call block = s_readers_left c p sound tail stamp pl write bits at
  sealed_goes b tail stamp (task.WriteClear write) pl at fits call block = inl (s_write_clear c p sound tail stamp pl write at)
  sealed_goes b tail stamp (task.WriteMade write) pl at fits call block = inl (s_write_made c p sound tail stamp pl write at)
  sealed_goes b tail stamp (task.Fills n) pl at fits call block = inl (s_fills c p sound tail stamp pl b n at block)
  sealed_goes b tail stamp u pl at fits call block = absurd fits

  -- the end of a decided transaction
  decided_goes : (tail stamp : ℕ) (u : Task) → (c.seats p).place ≡ Decided tail stamp → (c.seats p).task ≡ u → InEnd (c.seats p).current u → MovesOn c p (next_end (c.seats p).current (c.seats p).back u)
  decided_goes tail stamp (task.Ends raised ended step cleared) pl at fits = ends c p sound raised ended step cleared at tail stamp pl fits.0
  decided_goes tail stamp u pl at fits = absurd fits

  -- Each call goes on, where a seat that is to draw its range is a session's.
  goes_where : (b : Written) → ((tail : ℕ) → (c.seats p).place ≡ Sealing tail → is_session p ≡ true) → ((c.seats p).task ≡ task.Numbers → is_session p ≡ true) →
      (pl : Place) (u : Task) → (c.seats p).place ≡ pl → (c.seats p).task ≡ u → TaskFits pl (c.seats p).current u → IsInCall pl u → FitsAt b (c.seats p).current (c.seats p).run pl u →
      MovesOn c p (next_at b (c.seats p) pl u) ⊎ Waits c p ⊎ IsUnsafe c p
  goes_where b session numbers Vacant u is at fits call block = absurd call
  goes_where b session numbers Idle u is at fits call block = absurd call
  goes_where b session numbers (Begun tail) u is at fits call block =
      inl (to_place c p (kind.StoreBegin tail) (Begun tail) _ _ is tt refl (ap (store_begin p tail (c.seats p)) is) (eq-eqb tail tail refl) refl)
  goes_where b session numbers (Announced tail) u is at fits call block =
      inl (to_place c p (kind.LoadTail purpose.Begin) (Announced tail) _ _ is tt refl (ap (load_tail_to_begin p c.shared.tail (c.seats p)) is)
      ((sound.own p).lives.left (subst IsBeginning (sym is) tt)) refl)
  goes_where b session numbers (Active tail) u is at fits call block = active_goes b numbers tail u is at fits call
  goes_where b session numbers (Sealing tail) u is at fits call block =
      inl (to_place c p (kind.AddTail b.size) (Sealing tail) _ _ is tt refl (ap (add_tail p b.size c.shared.tail (c.seats p)) is)
      (and_from _ _ (and_from _ _ (session tail is) (le-leb LEAST_BLOCK b.size block.0)) (le-leb b.size GREATEST_BLOCK block.1)) refl)
  goes_where b session numbers (Drawn tail stamp) u is at fits call block =
      inl (to_place c p (kind.StoreState stamp) (Drawn tail stamp) _ _ is tt refl (ap (store_state p stamp (c.seats p)) is) (eq-eqb stamp stamp refl) refl)
  goes_where b session numbers (Sealed tail stamp) u is at fits call block = or_waits c p _ (sealed_goes b tail stamp u is at fits call block)
  goes_where b session numbers (Decided tail stamp) u is at fits call block = inl (decided_goes tail stamp u is at fits)
  goes_where b session numbers (Leaving stamp) u is at fits call block =
      inl (to_place c p (kind.StoreState 0) (Leaving stamp) _ _ is tt refl (ap (store_state p 0 (c.seats p)) is) refl refl)

  pub goes_from : (b : Written) → ((tail : ℕ) → (c.seats p).place ≡ Sealing tail → is_session p ≡ true) → ((c.seats p).task ≡ task.Numbers → is_session p ≡ true) →
      IsInCall (c.seats p).place (c.seats p).task → MayWrite b (c.seats p) → MovesOn c p (next_kind b (c.seats p)) ⊎ Waits c p ⊎ IsUnsafe c p
  goes_from b session numbers call block = goes_where b session numbers (c.seats p).place (c.seats p).task refl refl (sound.own p).task.fits call block

  -- a block that fits: of the least size, with the header that the exclusion window wants
  fitting : Written
  fitting = record { row = []; size = LEAST_BLOCK; word = λ _. 0; header = header_for (c.seats p).current (c.seats p).run }

  fits_at : (pl : Place) (u : Task) → (c.seats p).place ≡ pl → FitsAt fitting (c.seats p).current (c.seats p).run pl u
  unfolding fitting
  fits_at (Sealing tail) u is = (omega arith, omega arith)
  fits_at (Sealed tail stamp) (task.Fills words) is = λ _. header_fits (c.seats p).current (c.seats p).run (sizes c p sound tail stamp is).1
  fits_at pl u is = tt

  pub some_fits : (b : Written) × MayWrite b (c.seats p)
  some_fits = (fitting, fits_at (c.seats p).place (c.seats p).task refl)

  -- a seat that has seen the counter of objects can read an object in place of raising it
  leaves_at : (oid : ℕ) → oid < OBJECT_LIMIT → (pl : Place) → (c.seats p).place ≡ pl → TaskFits pl (c.seats p).current task.Numbers → (c.seats p).task ≡ task.Numbers → MovesOn c p (kind.LoadEntry oid)
  leaves_at oid known (Active tail) is fits at = g_leaves_numbers c p sound tail is oid known at
  leaves_at oid known (Sealed tail stamp) is fits at = absurd fits
  leaves_at oid known (Decided tail stamp) is fits at = absurd fits
  leaves_at oid known pl is fits at = absurd (cc)

  pub leaves_numbers : (oid : ℕ) → (c.seats p).task ≡ task.Numbers → oid < OBJECT_LIMIT → MovesOn c p (kind.LoadEntry oid)
  leaves_numbers oid at known = leaves_at oid known (c.seats p).place refl (subst (TaskFits (c.seats p).place (c.seats p).current) at (sound.own p).task.fits) at

  -- a version that is found is registered
  pub registers : MayRegister p (c.seats p) → Registers c p
  registers m =
      let named = subst (NamedInHand c.shared) m.found (sound.own p).chains.named in
      let v = m.version in
      let step = met _ _ _ (ap (set_reader p v (c.shared.objects v.oid) (c.seats p)) m.found)
      (and_from _ _ (and_from _ _ (and_from _ _ (and_from _ _ m.active m.session) (same_self v)) (lt-ltb (length (c.seats p).current.reads) READ_LIMIT m.room)) (not_from_false _ m.unread)) in
      (v, _, taken c p (kind.SetReader v) _ tt (lt-ltb v.oid OBJECT_LIMIT named.object) step, ap (λ (y : Part). y.task) (put_same c.seats p _))

  -- a head that is found is claimed
  pub claims : (m : MayClaim p (c.seats p)) → Claims c p m.version.oid m.entry
  claims m =
      let named = subst (NamedInHand c.shared) m.found (sound.own p).chains.named in
      let v = m.version in
      let number = (c.seats p).current.number in
      let step = met _ _ _ (ap (claim p v.oid m.entry number (c.shared.objects v.oid).entry (c.shared.objects v.oid) (c.seats p)) m.found)
      (and_from _ _ (and_from _ _ (and_from _ _ (and_from _ _ (and_from _ _ m.active m.session) (eq-eqb v.oid v.oid refl)) (eq-eqb m.entry m.entry refl)) (eq-eqb number number refl))
      (lt-ltb (length (c.seats p).current.writes) WRITE_LIMIT m.room)) in
      (_, taken c p (kind.Claim v.oid m.entry number) _ tt (lt-ltb v.oid OBJECT_LIMIT named.object) step)
