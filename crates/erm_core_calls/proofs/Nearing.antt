-- Each step of a call leaves less ahead of its seat, and other seats' steps leave its part as it was.
use Rattle.std.proofs.Common.{◌≡◌, ◌≢◌, ℕ, ⊎_elim, Bool, true, false, not, Option, Some, None, refl, sym, ap, ◌∙◌, subst, arith}
use Rattle.std.specs.Prelude.{if◌then◌else◌}
use Rattle.std.proofs.lemmas.Bool.{and_right, cases_eq}
use Rattle.std.proofs.lemmas.Option.{same_Some}
use Rattle.erm_machine.specs.declared.event.Kind.{Kind}
use Rattle.erm_machine.specs.declared.event.Kind.TheVariants as kind
use Rattle.erm_machine.specs.declared.event.TailUse.TheVariants as purpose
use Rattle.erm_machine.specs.declared.part.Part.{Part}
use Rattle.erm_machine.specs.declared.place.Place.{Place}
use Rattle.erm_machine.specs.declared.place.Place.TheVariants.{Vacant, Idle, Begun, Announced, Active, Sealing, Drawn, Sealed, Decided, Leaving}
use Rattle.erm_machine.specs.declared.task.Task.{Task}
use Rattle.erm_machine.specs.declared.task.Task.TheVariants as task
use Rattle.erm_machine.specs.Core.{Core}
use Rattle.erm_machine.specs.Life.{load_tail_to_begin, add_tail, store_begin, store_state, split}
use Rattle.erm_machine.specs.Seat.{is_vacant, over, when}
use Rattle.erm_machine.specs.Sound.{Sound}
use Rattle.erm_machine.specs.Step.{after_event, with_part}
use Rattle.erm_machine.specs.Tasks.{TaskFits, InActive, InSettle, InEnd}
use Rattle.erm_machine.proofs.Frames.{put_other}
use Rattle.erm_machine.proofs.QuietKinds.{moves}
use Rattle.erm_core_calls.specs.Ending.{IsLess, ComesNearer, ahead_sealed, fewer_stages}
use Rattle.erm_core_calls.specs.Going.{IsInCall, MovesOn, Written, next_active, next_at, next_end, next_kind, next_settle}
use Rattle.erm_core_calls.proofs.Nearer.{from_to}
use Rattle.erm_core_calls.proofs.NearerActive.{n_owned, n_cleared, n_walks, n_passed, n_registered, n_overtaken, n_numbers, n_claimed, n_horizon, n_cut_walks, n_cut_passed, n_cut_found, n_detaches, n_draws, n_pool, n_fetched, n_refused, n_copies, n_writes}
use Rattle.erm_core_calls.proofs.NearerSnapshots.{n_surveys, n_behind, n_safe_walks, n_safe_passed}
use Rattle.erm_core_calls.proofs.NearerEnds.{n_aborts, n_ends}
use Rattle.erm_core_calls.proofs.NearerSettled.{n_settles, n_read_owned, n_read_clear, n_read_overtaken, n_readers_left, n_write_clear, n_write_made, n_fills}

module _ (c : Core) (p : ℕ) (sound : Sound c) (b : Written) where
  -- the calls of an active transaction
  active_nears : (tail : ℕ) (u : Task) → (c.seats p).place ≡ Active tail → (c.seats p).task ≡ u → InActive u → IsInCall (Active tail) u → (m : MovesOn c p (next_active b (c.seats p) u)) →
      ComesNearer c p (next_active b (c.seats p) u) m
  active_nears tail task.Rest pl at fits call = absurd call
  active_nears tail (task.Owned oid owner) pl at fits call = n_owned c p sound tail pl oid owner at
  active_nears tail (task.Cleared oid) pl at fits call = n_cleared c p sound tail pl oid at
  active_nears tail (task.Walks v head) pl at fits call = n_walks c p sound tail pl v head at
  active_nears tail (task.Passed v) pl at fits call = n_passed c p sound tail pl v at
  active_nears tail (task.Found v stamp head) pl at fits call = absurd call
  active_nears tail (task.Registered v) pl at fits call = n_registered c p sound tail pl v at
  active_nears tail (task.Overtaken v overwriter) pl at fits call = n_overtaken c p sound tail pl v overwriter at
  active_nears tail (task.Rated v) pl at fits call = absurd call
  active_nears tail task.Numbers pl at fits call = n_numbers c p sound tail pl at
  active_nears tail (task.Surveys next) pl at fits call = n_surveys c p sound tail pl next at
  active_nears tail (task.Behind next) pl at fits call = n_behind c p sound tail pl next at
  active_nears tail task.Safe pl at fits call = absurd call
  active_nears tail (task.SafeWalks v) pl at fits call = n_safe_walks c p sound tail pl v at
  active_nears tail (task.SafePassed v) pl at fits call = n_safe_passed c p sound tail pl v at
  active_nears tail (task.SafeFound v) pl at fits call = absurd call
  active_nears tail (task.Claimed v) pl at fits call = n_claimed c p sound tail pl v at
  active_nears tail (task.Horizon v least next) pl at fits call = n_horizon c p sound tail pl v least next at
  active_nears tail (task.CutWalks v horizon) pl at fits call = n_cut_walks c p sound tail pl v horizon at
  active_nears tail (task.CutPassed v horizon) pl at fits call = n_cut_passed c p sound tail pl v horizon at
  active_nears tail (task.CutFound v horizon) pl at fits call = n_cut_found c p sound tail pl v horizon at
  active_nears tail (task.Detaches v) pl at fits call = n_detaches c p sound tail pl v at
  active_nears tail task.Draws pl at fits call = n_draws c p sound tail pl at
  active_nears tail task.Pool pl at fits call = n_pool c p sound tail pl at
  active_nears tail task.Fetched pl at fits call = n_fetched c p sound tail pl at
  active_nears tail task.Refused pl at fits call = n_refused c p sound tail pl at
  active_nears tail (task.Copies w) pl at fits call = n_copies c p sound tail pl w at
  active_nears tail (task.Writes k w) pl at fits call = n_writes c p sound tail pl b.row k w at
  active_nears tail (task.Ends raised ended step cleared) pl at fits call = n_aborts c p raised ended step cleared at tail pl fits.1
  active_nears tail u pl at fits call = absurd fits

  -- settle
  sealed_nears : (tail stamp : ℕ) (u : Task) → (c.seats p).place ≡ Sealed tail stamp → (c.seats p).task ≡ u → InSettle u → IsInCall (Sealed tail stamp) u → (m : MovesOn c p (next_settle b (c.seats p).current u)) →
      ComesNearer c p (next_settle b (c.seats p).current u) m
  sealed_nears tail stamp task.Rest pl at fits call = absurd call
  sealed_nears tail stamp (task.Settles r w) pl at fits call = n_settles c p sound tail stamp pl b r w at
  sealed_nears tail stamp (task.ReadOwned read owner) pl at fits call = n_read_owned c p sound tail stamp pl read owner at
  sealed_nears tail stamp (task.ReadClear read) pl at fits call = n_read_clear c p sound tail stamp pl read at
  sealed_nears tail stamp (task.ReadOvertaken read overwriter) pl at fits call = n_read_overtaken c p sound tail stamp pl read overwriter at
  sealed_nears tail stamp (task.ReadersLeft write bits) pl at fits call = n_readers_left c p sound tail stamp pl write bits at
  sealed_nears tail stamp (task.WriteClear write) pl at fits call = n_write_clear c p sound tail stamp pl write at
  sealed_nears tail stamp (task.WriteMade write) pl at fits call = n_write_made c p sound tail stamp pl write at
  sealed_nears tail stamp (task.Fills n) pl at fits call = n_fills c p sound tail stamp pl b n at
  sealed_nears tail stamp u pl at fits call = absurd fits

  -- the end of a decided transaction
  decided_nears : (tail stamp : ℕ) (u : Task) → (c.seats p).place ≡ Decided tail stamp → (c.seats p).task ≡ u → InEnd (c.seats p).current u → (m : MovesOn c p (next_end (c.seats p).current (c.seats p).back u)) →
      ComesNearer c p (next_end (c.seats p).current (c.seats p).back u) m
  decided_nears tail stamp (task.Ends raised ended step cleared) pl at fits = n_ends c p raised ended step cleared at tail stamp pl fits.0
  decided_nears tail stamp u pl at fits = absurd fits

  -- the stamp is stored: the seat is sealed, between two calls
  sealed_rests : (tail stamp : ℕ) (u : Task) → (c.seats p).place ≡ Drawn tail stamp → (c.seats p).task ≡ u → u ≡ task.Rest → (m : MovesOn c p (kind.StoreState stamp)) → ComesNearer c p (kind.StoreState stamp) m
  sealed_rests tail stamp u is at rest m =
      from_to c p (Drawn tail stamp) (Sealed tail stamp) u is at (kind.StoreState stamp) tt m _ _ (ap (store_state p stamp (c.seats p)) is) refl
      (λ _. subst (λ w. IsLess (ahead_sealed (c.seats p).current w) (record { stages = 1; left = 0 })) (sym (at ∙ rest)) (fewer_stages (omega arith)))

  nears_where : (pl : Place) (u : Task) → (c.seats p).place ≡ pl → (c.seats p).task ≡ u → TaskFits pl (c.seats p).current u → IsInCall pl u → (m : MovesOn c p (next_at b (c.seats p) pl u)) →
      ComesNearer c p (next_at b (c.seats p) pl u) m
  nears_where Vacant u is at fits call m = absurd call
  nears_where Idle u is at fits call m = absurd call
  nears_where (Begun tail) u is at fits call m =
      from_to c p (Begun tail) (Announced tail) u is at (kind.StoreBegin tail) tt m _ _ (ap (store_begin p tail (c.seats p)) is) refl (λ _. fewer_stages (omega arith))
  nears_where (Announced tail) u is at fits call m =
      from_to c p (Announced tail) (Active tail) u is at (kind.LoadTail purpose.Begin) tt m _ _ (ap (load_tail_to_begin p c.shared.tail (c.seats p)) is) refl (λ _. fewer_stages (omega arith))
  nears_where (Active tail) u is at fits call m = active_nears tail u is at fits call m
  nears_where (Sealing tail) u is at fits call m =
      from_to c p (Sealing tail) (Drawn tail c.shared.tail) u is at (kind.AddTail b.size) tt m _ _ (ap (add_tail p b.size c.shared.tail (c.seats p)) is) refl (λ _. fewer_stages (omega arith))
  nears_where (Drawn tail stamp) u is at fits call m = sealed_rests tail stamp u is at fits m
  nears_where (Sealed tail stamp) u is at fits call m = sealed_nears tail stamp u is at fits call m
  nears_where (Decided tail stamp) u is at fits call m = decided_nears tail stamp u is at fits m
  nears_where (Leaving stamp) u is at fits call m =
      let leaves : Part = over (c.seats p).current.decision (record (c.seats p) { place = Idle }) in
      from_to c p (Leaving stamp) Idle u is at (kind.StoreState 0) tt m true leaves (ap (store_state p 0 (c.seats p)) is) refl (λ _. fewer_stages (omega arith))

  pub comes_nearer : IsInCall (c.seats p).place (c.seats p).task → (m : MovesOn c p (next_kind b (c.seats p))) → ComesNearer c p (next_kind b (c.seats p)) m
  comes_nearer call m = nears_where (c.seats p).place (c.seats p).task refl refl (sound.own p).task.fits call m

-- a part of another seat is changed
with_part_keeps : (c d : Core) (q p : ℕ) (o : Option Part) → p ≢ q → with_part c q o ≡ Some d → d.seats p ≡ c.seats p
with_part_keeps c d q p (Some y) ne e = ap (λ (k : Core). k.seats p) (sym (same_Some _ _ e)) ∙ put_other c.seats q y p ne
with_part_keeps c d q p None ne e = absurd (cc)

changes_none : (c d : Core) (q : ℕ) (o : Option Part) → o ≡ None → with_part c q o ≡ Some d → ⊥
changes_none c d q (Some y) none e = absurd (cc)
changes_none c d q None none e = absurd (cc)

-- a seat in a call isn't vacant, and so no split takes it
not_vacant : (pl : Place) (u : Task) → IsInCall pl u → is_vacant pl ≡ false
not_vacant Vacant u call = absurd call
not_vacant pl u call = refl

no_split : (x y : Part) → is_vacant y.place ≡ false → split x y ≡ None
no_split x y there = ap (λ b. when b (record y { place = Idle; seen = x.seen })) (and_right (not (is_vacant x.place)) (is_vacant y.place) there)

-- what is chosen is one of the two
chosen : (b : Bool) (l : Option Core) (d : Core) → (if b then l else None) ≡ Some d → l ≡ Some d
chosen true l d e = e
chosen false l d e = absurd (cc)

other_chosen : (b : Bool) (r : Option Core) (d : Core) → (if b then None else r) ≡ Some d → r ≡ Some d
other_chosen true r d e = absurd (cc)
other_chosen false r d e = e

-- an event of another seat leaves the part of a seat in a call as it was
pub keeps_call : (c d : Core) (p q : ℕ) (k : Kind) → q ≢ p → IsInCall (c.seats p).place (c.seats p).task → after_event c q k ≡ Some d → d.seats p ≡ c.seats p
keeps_call c d p q (kind.Split r) ne call e =
    let taken = chosen _ _ d e in
    ⊎_elim
    (λ (same : r ≡ p). absurd (changes_none c d r _ (no_split (c.seats q) (c.seats r) (subst (λ n. is_vacant (c.seats n).place ≡ false) (sym same) (not_vacant (c.seats p).place (c.seats p).task call))) taken))
    (λ (other : r ≢ p). with_part_keeps c d r p _ (λ same. other (sym same)) taken)
    (cases_eq r p)
keeps_call c d p q (kind.Join r) ne call e = with_part_keeps c d q p _ (λ same. ne (sym same)) (other_chosen _ _ d e)
keeps_call c d p q k ne call e =
    let step = moves c q k d tt e in
    ap (λ (h : Core). h.seats p) step.is ∙ put_other c.seats q step.part p (λ same. ne (sym same))
