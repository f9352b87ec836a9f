-- Each event keeps how far a call may have come.
use Rattle.std.proofs.Common.{◌≡◌, ℕ, ◌+◌, ◌-◌, ◌<◌, ◌≤◌, ⊎_elim, Bool, true, false, not, eqb, ltb, List, [], ◌∷◌, ◌++◌, length, Option, Some, None, refl, sym, ap, ◌∙◌, subst, arith}
use Rattle.std.specs.Int.{bit_at}
use Rattle.std.specs.Prelude.{if◌then◌else◌}
use Rattle.std.proofs.lemmas.Bool.{eqb-true, eqb-false, ltb-true, true_from_ne_false, false≢true}
use Rattle.std.proofs.lemmas.Option.{same_Some}
use Rattle.erm_model.specs.Member.{◌∈◌}
use Rattle.erm_model.proofs.Members.{∈-push, ∈-at}
use Rattle.erm_machine.specs.declared.limits.TheConstants.{ANNOUNCERS, OBJECT_LIMIT, SESSIONS}
use Rattle.erm_machine.specs.declared.attempt.Attempt.{Attempt}
use Rattle.erm_machine.specs.declared.attempt.Decision.TheVariants.{Abort}
use Rattle.erm_machine.specs.declared.event.Kind.{Kind}
use Rattle.erm_machine.specs.declared.event.Kind.TheVariants as kind
use Rattle.erm_machine.specs.declared.event.TailUse.{TailUse}
use Rattle.erm_machine.specs.declared.event.TailUse.TheVariants as purpose
use Rattle.erm_machine.specs.declared.part.Flushing.{Flushing}
use Rattle.erm_machine.specs.declared.part.Flushing.TheVariants as flushing
use Rattle.erm_machine.specs.declared.part.Part.{Part}
use Rattle.erm_machine.specs.declared.place.Place.{Place}
use Rattle.erm_machine.specs.declared.place.Place.TheVariants.{Vacant, Idle, Begun, Announced, Active, Sealing, Drawn, Sealed, Decided, Leaving}
use Rattle.erm_machine.specs.declared.task.Task.{Task}
use Rattle.erm_machine.specs.declared.task.Task.TheVariants as task
use Rattle.erm_machine.specs.declared.version.CellWord.{CellWord}
use Rattle.erm_machine.specs.declared.version.VersionAt.{VersionAt}
use Rattle.erm_machine.specs.Bounds.{IsOther, IsBounded, words_stored, OwnBounds}
use Rattle.erm_machine.specs.Cells.{WantsCell}
use Rattle.erm_machine.specs.Decided.{MarkInHand}
use Rattle.erm_machine.specs.Core.{Core, Shared, spot_of, word_at, version_at, claim_at, blank}
use Rattle.erm_machine.specs.Facts.{IsCurrent}
use Rattle.erm_machine.specs.Flushing.{load_flushed, gathered_word, load_ring, clear_ring, store_flushed}
use Rattle.erm_machine.specs.Life.{load_tail_to_begin, load_tail_for_horizon, load_tail, add_tail, store_begin, store_state, load_begin, load_back, store_back, after_passed, after_clear, load_state, split, join, decide}
use Rattle.erm_machine.specs.Reading.{load_entry}
use Rattle.erm_machine.specs.Seat.{end_of, no_read, over, with_range, is_active, is_sealed, is_vacant, read_at, same_version}
use Rattle.erm_machine.specs.Settling.{load_read_entry, load_stamp, store_cell, install, filled}
use Rattle.erm_machine.specs.Sound.{Sound}
use Rattle.erm_machine.specs.Step.{part_after, after_event, is_known, with_part}
use Rattle.erm_machine.specs.Tasks.{TaskFits}
use Rattle.erm_machine.specs.Words.{put, is_clear, is_flusher, is_seat, refuses, state_of, without_bit}
use Rattle.erm_machine.proofs.Frames.{each_seat}
use Rattle.erm_machine.proofs.Backs.{active_begin_then, decided_begin_then}
use Rattle.erm_machine.proofs.Guards.{when_then, some_then, if_then, either_way, unless_some}
use Rattle.erm_machine.proofs.Holders.{stands_in}
use Rattle.erm_machine.proofs.QuietKinds.{MeetsOne, moves}
use Rattle.erm_core_calls.proofs.Bits.{bit_left, left_other}
use Rattle.erm_core_calls.proofs.Seats.{seat_low, last_member, owner_seat, reader_seat, range_size}
use Rattle.erm_core_calls.proofs.BoundsFrames.{first, second, positive_of, Early, FillsNone, none_stored, Ready, ready_from, ready_active, Bound, bound_from, task_on}
use Rattle.erm_core_calls.proofs.BoundsActive.{b_load_entry, b_claim, b_set_reader, b_load_cell, b_swap_link, b_load_detached, b_load_counter, b_add_counter, b_active_stamp, b_active_word, b_unset, b_unclaim}
use Rattle.erm_core_calls.proofs.BoundsSettled.{b_to_settle, b_load_read_entry, b_load_readers, b_settled_stamp, b_store_ring, b_raise_reader, b_mark, b_head_word, b_install_claim, b_clear_reader}

-- a seat that moves on with no word stored
moves_on : (p : ℕ) (x y : Part) → Ready p x → Early y.place → FillsNone y.task → y.over ≡ x.over → y.current.block ≡ x.current.block → IsBounded p y.current y.task →
    y.current.begin ≤ y.seen → y.current.stamp ≤ y.seen → OwnBounds p y
moves_on p x y ready early none over block bounded begin stamp = record {
  bounded = bounded;
  stored = ap length block ∙ ready.empty ∙ sym (none_stored y.place y.task y.current.size early none);
  blocks = λ t m. ready.bounds.blocks t (subst (λ (ts : List Attempt). t ∈ ts) over m);
  begin_seen = begin;
  stamp_seen = stamp;
}

-- the same words are stored at each task at which none are
same_stored : (pl : Place) (u v : Task) (size : ℕ) → FillsNone u → FillsNone v → words_stored pl u size ≡ words_stored pl v size
same_stored (Decided tail stamp) u v size f g = refl
same_stored (Leaving stamp) u v size f g = refl
same_stored Vacant u v size f g = none_stored Vacant u size tt f ∙ sym (none_stored Vacant v size tt g)
same_stored Idle u v size f g = none_stored Idle u size tt f ∙ sym (none_stored Idle v size tt g)
same_stored (Begun tail) u v size f g = none_stored (Begun tail) u size tt f ∙ sym (none_stored (Begun tail) v size tt g)
same_stored (Announced tail) u v size f g = none_stored (Announced tail) u size tt f ∙ sym (none_stored (Announced tail) v size tt g)
same_stored (Active tail) u v size f g = none_stored (Active tail) u size tt f ∙ sym (none_stored (Active tail) v size tt g)
same_stored (Sealing tail) u v size f g = none_stored (Sealing tail) u size tt f ∙ sym (none_stored (Sealing tail) v size tt g)
same_stored (Drawn tail stamp) u v size f g = none_stored (Drawn tail stamp) u size tt f ∙ sym (none_stored (Drawn tail stamp) v size tt g)
same_stored (Sealed tail stamp) u v size f g = none_stored (Sealed tail stamp) u size tt f ∙ sym (none_stored (Sealed tail stamp) v size tt g)

-- a transaction that is over, and whose block is whole where it has a range
goes_over : (p : ℕ) (x : Part) (t : Attempt) → OwnBounds p x → (0 < t.stamp → length t.block + 1 ≡ t.size) → (u : Attempt) → u ∈ (x.over ++ t ∷ []) → 0 < u.stamp → length u.block + 1 ≡ u.size
goes_over p x t own whole u m positive =
    ⊎_elim (λ (before : u ∈ x.over). own.blocks u before positive)
    (λ (same : u ≡ t). subst (λ (v : Attempt). 0 < v.stamp → length v.block + 1 ≡ v.size) (sym same) whole positive)
    (∈-push x.over t u m)

module _ (c : Core) (p : ℕ) (sound : Sound c) where
  own : OwnBounds p (c.seats p)
  own = (sound.own p).bounds

  -- at a place where no call is in progress
  resting : (pl : Place) → (c.seats p).place ≡ pl → TaskFits pl (c.seats p).current (c.seats p).task
  resting pl is = subst (λ q. TaskFits q (c.seats p).current (c.seats p).task) is (sound.own p).task.fits

  current_at : (pl : Place) → (c.seats p).place ≡ pl → IsCurrent pl (c.seats p).current
  current_at pl is = subst (λ q. IsCurrent q (c.seats p).current) is (sound.own p).ranges.current

  ready_at : (pl : Place) → (c.seats p).place ≡ pl → Early pl → (c.seats p).task ≡ task.Rest → Ready p (c.seats p)
  ready_at pl is early rest = ready_from p (c.seats p) own (subst Early (sym is) early) (subst FillsNone (sym rest) tt)

  -- what was seen lies below the tail
  seen_low : (c.seats p).seen ≤ c.shared.tail
  seen_low = (sound.own p).clear.seen

  begin_low : (c.seats p).current.begin ≤ c.shared.tail
  begin_low = let a = own.begin_seen in let b = seen_low in omega (arith, a, b)

  stamp_low : (c.seats p).current.stamp ≤ c.shared.tail
  stamp_low = let a = own.stamp_seen in let b = seen_low in omega (arith, a, b)

  k_begin : (pl : Place) (y : Part) → (c.seats p).place ≡ pl → load_tail_to_begin p c.shared.tail (c.seats p) pl ≡ Some y → OwnBounds p y
  k_begin Idle y is e =
      let rest : (c.seats p).task ≡ task.Rest = resting Idle is in
      when_then (OwnBounds p) _ _ y e (λ _.
      moves_on p (c.seats p) _ (ready_at Idle is tt rest) (either_way Early (refuses p c.shared.tail) Idle (Begun c.shared.tail) (λ _. tt) (λ _. tt)) (subst FillsNone (sym rest) tt) refl refl
      own.bounded begin_low stamp_low)
  k_begin (Announced tail) y is e =
      let rest : (c.seats p).task ≡ task.Rest = resting (Announced tail) is in
      when_then (OwnBounds p) _ _ y e (λ _. record { bounded = tt; stored = refl; blocks = own.blocks; begin_seen = omega arith; stamp_seen = omega arith })
  k_begin _ y is e = absurd (cc)

  k_horizon : (t : Task) (y : Part) → load_tail_for_horizon c.shared.tail (c.seats p) t ≡ Some y → OwnBounds p y
  k_horizon (task.Claimed version) y e =
      when_then (OwnBounds p) _ _ y e (λ g. moves_on p (c.seats p) _ (ready_active p (c.seats p) own (sound.own p).task g) (ready_active p (c.seats p) own (sound.own p).task g).early tt refl refl
      (omega arith) begin_low stamp_low)
  k_horizon _ y e = absurd (cc)

  k_load_tail : (reason : TailUse) (y : Part) → load_tail p reason c.shared.tail (c.seats p) ≡ Some y → OwnBounds p y
  k_load_tail purpose.Begin y e = k_begin (c.seats p).place y refl e
  k_load_tail purpose.Horizon y e = k_horizon (c.seats p).task y e
  k_load_tail purpose.Gather y e =
      when_then (OwnBounds p) _ _ y e (λ _. record { bounded = own.bounded; stored = own.stored; blocks = own.blocks; begin_seen = begin_low; stamp_seen = stamp_low })

  k_add_tail : (size : ℕ) (pl : Place) (y : Part) → (c.seats p).place ≡ pl → add_tail p size c.shared.tail (c.seats p) pl ≡ Some y → OwnBounds p y
  k_add_tail size (Sealing tail) y is e =
      let rest : (c.seats p).task ≡ task.Rest = resting (Sealing tail) is in
      when_then (OwnBounds p) _ _ y e (λ _.
      moves_on p (c.seats p) _ (ready_at (Sealing tail) is tt rest) tt (subst FillsNone (sym rest) tt) refl refl
      (subst (IsBounded p (with_range c.shared.tail size (c.seats p).current)) (sym rest) tt) begin_low (omega arith))
  k_add_tail size _ y is e = absurd (cc)

  k_store_begin : (value : ℕ) (pl : Place) (y : Part) → (c.seats p).place ≡ pl → store_begin p value (c.seats p) pl ≡ Some y → OwnBounds p y
  k_store_begin value (Begun tail) y is e =
      let rest : (c.seats p).task ≡ task.Rest = resting (Begun tail) is in
      when_then (OwnBounds p) _ _ y e (λ _.
      moves_on p (c.seats p) _ (ready_at (Begun tail) is tt rest) tt (subst FillsNone (sym rest) tt) refl refl own.bounded own.begin_seen own.stamp_seen)
  k_store_begin value (Active tail) y is e =
      let low = (current_at (Active tail) is).stamp in
      active_begin_then (OwnBounds p) p value tail (c.seats p) y e
      (λ _ _.
      either_way (OwnBounds p) (is_flusher p) (record (c.seats p) { place = Idle; task = task.Rest; current = blank }) (over Abort (record (c.seats p) { place = Idle; task = task.Rest }))
      (λ _. record { bounded = tt; stored = refl; blocks = own.blocks; begin_seen = omega arith; stamp_seen = omega arith })
      (λ _. record {
        bounded = tt;
        stored = refl;
        blocks = goes_over p (c.seats p) (record (c.seats p).current { decision = Abort }) own (λ (positive : 0 < (c.seats p).current.stamp). absurd (omega (arith, low, positive)));
        begin_seen = omega arith;
        stamp_seen = omega arith;
      }))
      (λ _ _ _ _.
      moves_on p (c.seats p) _ (ready_active p (c.seats p) own (sound.own p).task (ap is_active is)) tt tt refl refl (omega arith, omega arith) own.begin_seen own.stamp_seen)
  k_store_begin value (Decided tail stamp) y is e =
      decided_begin_then (OwnBounds p) p value tail stamp (c.seats p) y e (λ _ _ _. record {
        bounded = tt;
        stored = subst (λ (pl : Place). length (c.seats p).current.block ≡ words_stored pl (c.seats p).task (c.seats p).current.size) is own.stored;
        blocks = own.blocks;
        begin_seen = own.begin_seen;
        stamp_seen = own.stamp_seen;
      })
  k_store_begin value _ y is e = absurd (cc)

  k_store_state : (value : ℕ) (pl : Place) (y : Part) → (c.seats p).place ≡ pl → store_state p value (c.seats p) pl ≡ Some y → OwnBounds p y
  k_store_state value (Active tail) y is e =
      when_then (OwnBounds p) _ _ y e (λ _.
      moves_on p (c.seats p) _ (ready_active p (c.seats p) own (sound.own p).task (ap is_active is)) tt tt refl refl tt own.begin_seen own.stamp_seen)
  k_store_state value (Drawn tail stamp) y is e =
      let rest : (c.seats p).task ≡ task.Rest = resting (Drawn tail stamp) is in
      when_then (OwnBounds p) _ _ y e (λ _.
      moves_on p (c.seats p) _ (ready_at (Drawn tail stamp) is tt rest) tt (subst FillsNone (sym rest) tt) refl refl own.bounded own.begin_seen own.stamp_seen)
  k_store_state value (Leaving stamp) y is e =
      let rest : (c.seats p).task ≡ task.Rest = resting (Leaving stamp) is in
      let stored : length (c.seats p).current.block ≡ (c.seats p).current.size - 1 = subst (λ (pl : Place). length (c.seats p).current.block ≡ words_stored pl (c.seats p).task (c.seats p).current.size) is own.stored in
      when_then (OwnBounds p) _ _ y e (λ _. record {
        bounded = subst (IsBounded p blank) (sym rest) tt;
        stored = sym (none_stored Idle (c.seats p).task 0 tt (subst FillsNone (sym rest) tt));
        blocks = goes_over p (c.seats p) (record (c.seats p).current { decision = (c.seats p).current.decision }) own
            (λ (positive : 0 < (c.seats p).current.stamp). let some = (range_size c sound p positive).0 in omega (arith, stored, some));
        begin_seen = omega arith;
        stamp_seen = omega arith;
      })
  k_store_state value _ y is e = absurd (cc)

  -- a session that is passed, of those up to the last
  passed_bound : (next : ℕ) → next ≤ SESSIONS → Bound p (c.seats p).current (after_passed next)
  passed_bound next low =
      either_way (Bound p (c.seats p).current) (eqb next SESSIONS) task.Safe (task.Surveys (next + 1)) (λ _. search (bound_from))
      (λ more. bound_from p (c.seats p).current (task.Surveys (next + 1)) (omega arith, below next low (eqb-false next SESSIONS more)) tt)
    where
      below : (n : ℕ) → n ≤ SESSIONS → (n ≡ SESSIONS → ⊥) → n + 1 ≤ SESSIONS
      below n low ne = grind arith

  k_load_begin : (other found : ℕ) (t : Task) (y : Part) → (c.seats p).task ≡ t → load_begin p other found (c.seats p) t ≡ Some y → OwnBounds p y
  k_load_begin other found (task.Horizon version least next) y is e =
      when_then (OwnBounds p) _ _ y e (λ g.
      let active : is_active (c.seats p).place ≡ true = first _ _ (first _ _ g) in
      let low : next < ANNOUNCERS = ltb-true next ANNOUNCERS (second _ (ltb next ANNOUNCERS) g) in
      task_on p (c.seats p) _ (ready_active p (c.seats p) own (sound.own p).task active)
      (either_way (Bound p (c.seats p).current) (eqb (next + 1) ANNOUNCERS) _ _ (λ _. search (bound_from))
      (λ more. search (bound_from, below next low (eqb-false (next + 1) ANNOUNCERS more)))))
    where
      below : (n : ℕ) → n < ANNOUNCERS → (n + 1 ≡ ANNOUNCERS → ⊥) → n + 1 < ANNOUNCERS
      below n low ne = grind arith
  k_load_begin other found (task.Surveys next) y is e =
      when_then (OwnBounds p) _ _ y e (λ g.
      let active : is_active (c.seats p).place ≡ true = first _ _ g in
      let old : IsBounded p (c.seats p).current (task.Surveys next) = subst (IsBounded p (c.seats p).current) is own.bounded in
      task_on p (c.seats p) _ (ready_active p (c.seats p) own (sound.own p).task active)
      (either_way (Bound p (c.seats p).current) (eqb next p) (after_passed next) _ (λ _. passed_bound next old.1)
      (λ other. either_way (Bound p (c.seats p).current) _ (task.Behind next) (task.Surveys next)
      (λ _. bound_from p (c.seats p).current (task.Behind next) (eqb-false next p other, old.0, old.1) tt)
      (λ _. bound_from p (c.seats p).current (task.Surveys next) old tt))))
  k_load_begin other found _ y is e = absurd (cc)

  k_load_back : (other found : ℕ) (t : Task) (y : Part) → (c.seats p).task ≡ t → load_back other found (c.seats p) t ≡ Some y → OwnBounds p y
  k_load_back other found (task.Behind next) y is e =
      when_then (OwnBounds p) _ _ y e (λ g.
      let active : is_active (c.seats p).place ≡ true = first _ _ g in
      let old : IsBounded p (c.seats p).current (task.Behind next) = subst (IsBounded p (c.seats p).current) is own.bounded in
      task_on p (c.seats p) _ (ready_active p (c.seats p) own (sound.own p).task active)
      (either_way (Bound p (c.seats p).current) _ (after_passed next) (task.Behind next) (λ _. passed_bound next old.2)
      (λ _. bound_from p (c.seats p).current (task.Behind next) old tt)))
  k_load_back other found _ y is e = absurd (cc)

  -- the back word alone changes
  k_store_back : (value : ℕ) (pl : Place) (y : Part) → store_back value (c.seats p) pl ≡ Some y → OwnBounds p y
  k_store_back value (Decided tail stamp) y e =
      when_then (OwnBounds p) _ _ y e (λ _.
      record { bounded = own.bounded; stored = own.stored; blocks = own.blocks; begin_seen = own.begin_seen; stamp_seen = own.stamp_seen })
  k_store_back value _ y e = absurd (cc)

  k_decide : (at header : ℕ) (pl : Place) (t : Task) (y : Part) → (c.seats p).place ≡ pl → (c.seats p).task ≡ t → decide at header (c.seats p) pl t ≡ Some y → OwnBounds p y
  k_decide at header (Sealed tail stamp) (task.Fills words) y is on e =
      let stored : length (c.seats p).current.block ≡ words =
      subst (λ (u : Task). length (c.seats p).current.block ≡ words_stored (Sealed tail stamp) u (c.seats p).current.size) on
      (subst (λ (pl : Place). length (c.seats p).current.block ≡ words_stored pl (c.seats p).task (c.seats p).current.size) is own.stored) in
      when_then (OwnBounds p) _ _ y e (λ g.
      let all : words + 1 ≡ (c.seats p).current.size = eqb-true (words + 1) (c.seats p).current.size (second _ (eqb (words + 1) (c.seats p).current.size) (first _ _ g)) in
      record {
        bounded = (omega arith, omega arith, omega arith);
        stored = omega (arith, stored, all);
        blocks = own.blocks;
        begin_seen = own.begin_seen;
        stamp_seen = own.stamp_seen;
      })
  k_decide at header _ _ y is on e = absurd (cc)

  -- a look that finds the seat clear
  record Looks (u : Task) : Type 0 where
    pub bounded : IsBounded p (c.seats p).current u
    pub stored : words_stored (c.seats p).place u (c.seats p).current.size ≡ words_stored (c.seats p).place (c.seats p).task (c.seats p).current.size

  looks_same : (t : Task) → (c.seats p).task ≡ t → Looks t
  looks_same t is = record { bounded = subst (IsBounded p (c.seats p).current) is own.bounded; stored = ap (λ (u : Task). words_stored (c.seats p).place u (c.seats p).current.size) (sym is) }

  looks_on : (t u : Task) → (c.seats p).task ≡ t → FillsNone t → FillsNone u → IsBounded p (c.seats p).current u → Looks u
  looks_on t u is f g b = record { bounded = b; stored = same_stored (c.seats p).place u (c.seats p).task (c.seats p).current.size g (subst FillsNone (sym is) f) }

  look_after : (other bound : ℕ) (t : Task) → (c.seats p).task ≡ t → Looks (after_clear other bound (c.seats p) t)
  look_after other bound (task.Owned oid owner) is =
      either_way Looks _ (task.Cleared oid) (task.Owned oid owner) (λ _. looks_on _ (task.Cleared oid) is tt tt tt) (λ _. looks_same _ is)
  look_after other bound (task.ReadOwned read owner) is =
      let old = (looks_same _ is).bounded in
      either_way Looks _ (task.ReadClear read) (task.ReadOwned read owner) (λ _. looks_on _ (task.ReadClear read) is tt tt old.0) (λ _. looks_same _ is)
  look_after other bound (task.ReadersLeft write bits) is =
      let old = (looks_same _ is).bounded in
      either_way Looks _ (if eqb (without_bit bits other) 0 then task.WriteClear write else task.ReadersLeft write (without_bit bits other)) (task.ReadersLeft write bits)
      (λ _. either_way Looks (eqb (without_bit bits other) 0) (task.WriteClear write) (task.ReadersLeft write (without_bit bits other))
      (λ _. looks_on _ (task.WriteClear write) is tt tt old.0)
      (λ some. looks_on _ (task.ReadersLeft write (without_bit bits other)) is tt tt (old.0, positive_of (without_bit bits other) some, λ q one. old.2 q (bit_left bits other q one))))
      (λ _. looks_same _ is)
  look_after other bound t is = looks_same t is

  k_load_state : (other bound found : ℕ) (y : Part) → load_state p other bound found (c.seats p) ≡ Some y → OwnBounds p y
  k_load_state other bound found y e =
      when_then (OwnBounds p) _ _ y e (λ _.
      let l = either_way Looks (is_clear found bound) (after_clear other bound (c.seats p) (c.seats p).task) (c.seats p).task (λ _. look_after other bound (c.seats p).task refl) (λ _. looks_same (c.seats p).task refl) in
      record { bounded = l.bounded; stored = own.stored ∙ sym l.stored; blocks = own.blocks; begin_seen = own.begin_seen; stamp_seen = own.stamp_seen })

  -- a step of the flush seat leaves the place, the transaction and the call
  flushes : (f : Flushing) (to : ℕ) → OwnBounds p (record (c.seats p) { flushing = f; gathered_to = to })
  flushes f to = record { bounded = own.bounded; stored = own.stored; blocks = own.blocks; begin_seen = own.begin_seen; stamp_seen = own.stamp_seen }

  own_if : (b : Bool) (l r : Part) → OwnBounds p l → OwnBounds p r → OwnBounds p (if b then l else r)
  own_if b l r f g = either_way (OwnBounds p) b l r (λ _. f) (λ _. g)

  k_load_flushed : (found : ℕ) (f : Flushing) (y : Part) → load_flushed found (c.seats p) f ≡ Some y → OwnBounds p y
  k_load_flushed found (flushing.Tail tail) y e = some_then (OwnBounds p) _ y e (flushes _ _)
  k_load_flushed found _ y e = when_then (OwnBounds p) _ _ y e (λ _. b_to_settle p (c.seats p) own (sound.own p).task found)

  k_gathered : (tail from block next end : ℕ) → OwnBounds p (gathered_word tail from block next end (c.seats p))
  k_gathered tail from block next end = either_way (OwnBounds p) _ _ _ (λ _. flushes _ _) (λ _. flushes _ _)

  k_load_ring : (at found : ℕ) (f : Flushing) (y : Part) → load_ring at found (c.seats p) f ≡ Some y → OwnBounds p y
  k_load_ring at found (flushing.Gathers tail from block next end) y e =
      when_then (OwnBounds p) _ _ y e (λ _. own_if _ _ _ (k_gathered tail from block next end) (own_if _ _ _ own (k_gathered tail from next next _)))
  k_load_ring at found _ y e = absurd (cc)

  k_clear_ring : (at : ℕ) (f : Flushing) (y : Part) → clear_ring at (c.seats p) f ≡ Some y → OwnBounds p y
  k_clear_ring at (flushing.Gathers tail from block next end) y e = when_then (OwnBounds p) _ _ y e (λ _. flushes _ _)
  k_clear_ring at (flushing.Clears next to) y e = when_then (OwnBounds p) _ _ y e (λ _. flushes _ _)
  k_clear_ring at _ y e = absurd (cc)

  k_store_flushed : (value : ℕ) (f : Flushing) (y : Part) → store_flushed value (c.seats p) f ≡ Some y → OwnBounds p y
  k_store_flushed value (flushing.Clears next to) y e = when_then (OwnBounds p) _ _ y e (λ _. flushes _ _)
  k_store_flushed value _ y e = absurd (cc)

  -- settle looks up an object of a version read
  read_known : (oid : ℕ) (read : ℕ) → read < length (c.seats p).current.reads → oid ≡ (read_at (c.seats p).current read).version.oid → oid < OBJECT_LIMIT
  read_known oid read within is =
      let known = ((sound.own p).snapshot.reads (c.seats p).current (read_at (c.seats p).current read) (last_member (c.seats p).over (c.seats p).current)
      (∈-at (c.seats p).current.reads read no_read within)).named.object in
      omega (arith, known, is)

  -- a seat that settles has words
  sealed_seat : is_sealed (c.seats p).place ≡ true → is_seat p ≡ true
  sealed_seat at = true_from_ne_false (is_seat p) (λ none. let e = ap is_sealed ((sound.own p).ranges.seat_of none) in false≢true (sym e ∙ at))

  -- the others among the readers of a version overwritten
  readers_other : (v : VersionAt) (write : ℕ) → write < length (c.seats p).current.writes → same_version v (claim_at (c.seats p).current write).version ≡ true → is_sealed (c.seats p).place ≡ true →
      (q : ℕ) → bit_at (without_bit (version_at (c.shared.objects v.oid) v.place).words.readers p) q ≡ 1 → IsOther p q
  readers_other v write within same at q one =
      let w = claim_at (c.seats p).current write in
      let written = (sound.own p).marks.written (c.seats p).current w (last_member (c.seats p).over (c.seats p).current) (stands_in (c.seats p).current write within) in
      let oid : v.oid ≡ w.version.oid = eqb-true v.oid w.version.oid (first _ _ (first _ _ same)) in
      let place : v.place ≡ w.version.place = eqb-true v.place w.version.place (second _ (eqb v.place w.version.place) (first _ _ same)) in
      let object : v.oid < OBJECT_LIMIT = subst (λ n. n < OBJECT_LIMIT) (sym oid) written.object in
      let there : v.place < length (c.shared.objects v.oid).versions =
      subst (λ n. n < length (c.shared.objects v.oid).versions) (sym place) (subst (λ n. w.version.place < length (c.shared.objects n).versions) (sym oid) written.within) in
      let low = seat_low p (sealed_seat at) in
      let readers = (version_at (c.shared.objects v.oid) v.place).words.readers in
      record {
        another = left_other readers p q (omega (arith, low)) one;
        has_words = reader_seat c sound q v.oid v.place object there (bit_left readers p q one);
      }

  k_load_entry : (oid : ℕ) (y : Part) → oid < OBJECT_LIMIT → part_after p (kind.LoadEntry oid) (c.shared.objects oid).entry c.shared (c.seats p) ≡ Some y → OwnBounds p y
  k_load_entry oid y known e =
      if_then (OwnBounds p) (is_sealed (c.seats p).place) (load_read_entry p oid (c.shared.objects oid).entry (c.seats p) (c.seats p).task)
      (load_entry p oid (c.shared.objects oid).entry (c.shared.objects oid) (c.seats p) (c.seats p).task) y e
      (λ _ h. b_load_read_entry p (c.seats p) own (sound.own p).task oid _ (c.seats p).task y refl (λ read within is. owner_seat c sound oid (read_known oid read within is)) h)
      (λ _ h. b_load_entry p (c.seats p) own (sound.own p).task oid _ (c.shared.objects oid) (c.seats p).task y (owner_seat c sound oid known) h)

  k_load_stamp : (found : ℕ) (v : VersionAt) (w : CellWord) (y : Part) → load_stamp found v w (c.seats p) ≡ Some y → OwnBounds p y
  k_load_stamp found v w y e =
      if_then (OwnBounds p) _ _ _ y e (λ at h. b_active_stamp p (c.seats p) own (sound.own p).task found v w (c.seats p).task y draws fetched at h)
      (λ _ rest. if_then (OwnBounds p) _ _ _ y rest (λ at h. b_settled_stamp p (c.seats p) own (sound.own p).task found v w (c.seats p).task y refl at h) (λ _ h. absurd (cc)))
    where
      draws : (c.seats p).task ≡ task.Draws → 0 < length (c.seats p).current.writes
      draws is = (subst (λ (u : Task). WantsCell (c.seats p) u) is (sound.own p).cells.wants).0

      fetched : (c.seats p).task ≡ task.Fetched → 0 < length (c.seats p).current.writes
      fetched is = (subst (λ (u : Task). MarkInHand c.shared (c.seats p).current u) is (sound.own p).decided.in_hand).0

  k_store_cell : (place cell : ℕ) (w : CellWord) (value : ℕ) (y : Part) → store_cell place cell w value (c.seats p) ≡ Some y → OwnBounds p y
  k_store_cell place cell w value y e =
      if_then (OwnBounds p) _ _ _ y e (λ at h. b_active_word p (c.seats p) own (sound.own p).task place cell w value y at h)
      (λ _ h. b_head_word p (c.seats p) own (sound.own p).task place cell w value (c.seats p).task y refl h)

  k_install : (oid head : ℕ) (t : Task) (y : Part) → (c.seats p).task ≡ t → install oid head (c.seats p) t ≡ Some y → OwnBounds p y
  k_install oid head task.Refused y is e = b_unclaim p (c.seats p) own (sound.own p).task oid head y e
  k_install oid head t y is e = b_install_claim p (c.seats p) own (sound.own p).task oid head (end_of t) y (ap end_of is) e

  -- each kind of step
  bounds_after : (k : Kind) (y : Part) → is_known k ≡ true → part_after p k (word_at c (spot_of p k)) c.shared (c.seats p) ≡ Some y → OwnBounds p y
  bounds_after (kind.LoadTail reason) y known e = k_load_tail reason y e
  bounds_after (kind.AddTail size) y known e = k_add_tail size (c.seats p).place y refl e
  bounds_after (kind.StoreBegin value) y known e = k_store_begin value (c.seats p).place y refl e
  bounds_after (kind.StoreState value) y known e = k_store_state value (c.seats p).place y refl e
  bounds_after (kind.LoadBegin other) y known e = k_load_begin other _ (c.seats p).task y refl e
  bounds_after (kind.LoadState other bound) y known e = k_load_state other bound (state_of (c.seats other).place) y e
  bounds_after (kind.Split other) y known e = absurd (cc)
  bounds_after (kind.Join other) y known e = absurd (cc)
  bounds_after (kind.LoadEntry oid) y known e = k_load_entry oid y (ltb-true oid OBJECT_LIMIT known) e
  bounds_after (kind.Claim oid seen number) y known e =
      b_claim p (c.seats p) own (sound.own p).task oid seen number _ (c.shared.objects oid) (c.seats p).task y (owner_seat c sound oid (ltb-true oid OBJECT_LIMIT known)) e
  bounds_after (kind.Install oid head) y known e = k_install oid head (c.seats p).task y refl e
  bounds_after (kind.LoadCell v w) y known e = b_load_cell p (c.seats p) own (sound.own p).task _ v w y (unless_some _ _ y e)
  bounds_after (kind.StoreCell place cell w value) y known e = k_store_cell place cell w value y e
  bounds_after (kind.LoadCounter counter) y known e = b_load_counter p (c.seats p) own (sound.own p).task _ counter _ (c.seats p).task y e
  bounds_after (kind.AddCounter counter) y known e = b_add_counter p (c.seats p) own (sound.own p).task _ counter _ (c.seats p).task y e
  bounds_after (kind.SetReader v) y known e = b_set_reader p (c.seats p) own (sound.own p).task v (c.shared.objects v.oid) (c.seats p).task y e
  bounds_after (kind.ClearReader v) y known e = b_clear_reader p (c.seats p) own (sound.own p).task v (end_of (c.seats p).task) y refl e
  bounds_after (kind.LoadReaders v) y known e = b_load_readers p (c.seats p) own (sound.own p).task v _ (c.seats p).task y refl (readers_other v) e
  bounds_after (kind.LoadStamp v w) y known e = k_load_stamp _ v w y e
  bounds_after (kind.RaiseReader v value) y known e = b_raise_reader p (c.seats p) own (sound.own p).task v value (c.seats p).task y refl e
  bounds_after (kind.StoreSucc v value) y known e = b_mark p (c.seats p) own (sound.own p).task 6 v value (c.seats p).current.succ (c.seats p).task y refl e
  bounds_after (kind.StoreOverwriter v value) y known e = b_mark p (c.seats p) own (sound.own p).task 7 v value (c.seats p).current.stamp (c.seats p).task y refl e
  bounds_after (kind.StoreRing at value) y known e = b_store_ring p (c.seats p) own (sound.own p).task at value (filled (c.seats p).current (c.seats p).task) y refl e
  bounds_after (kind.Decide at header) y known e = k_decide at header (c.seats p).place (c.seats p).task y refl refl e
  bounds_after (kind.LoadRing at) y known e = k_load_ring at _ (c.seats p).flushing y e
  bounds_after (kind.ClearRing at) y known e = k_clear_ring at (c.seats p).flushing y e
  bounds_after (kind.StoreFlushed value) y known e = k_store_flushed value (c.seats p).flushing y e
  bounds_after kind.LoadFlushed y known e = k_load_flushed _ (c.seats p).flushing y e
  bounds_after (kind.SwapLink v) y known e = b_swap_link p (c.seats p) own (sound.own p).task _ v (c.shared.objects v.oid) (c.seats p).task y e
  bounds_after (kind.LoadDetached v) y known e = b_load_detached p (c.seats p) own (sound.own p).task _ v (c.seats p).task y e
  bounds_after (kind.StoreBack value) y known e = k_store_back value (c.seats p).place y e
  bounds_after (kind.LoadBack other) y known e = k_load_back other _ (c.seats p).task y refl e
  bounds_after (kind.Unset place) y known e = b_unset p (c.seats p) own (sound.own p).task place y e

  -- a seat that takes in another
  join_bounds : (other y : Part) → join (c.seats p) other ≡ Some y → OwnBounds p y
  join_bounds other y e =
      when_then (OwnBounds p) _ _ y e (λ _.
      let begin = own.begin_seen in
      let stamp = own.stamp_seen in
      record { bounded = own.bounded; stored = own.stored; blocks = own.blocks; begin_seen = omega (arith, begin); stamp_seen = omega (arith, stamp) })

  -- a vacant seat is taken
  taken_bounds : (x y : Part) → split x (c.seats p) ≡ Some y → OwnBounds p y
  taken_bounds x y e =
      when_then (OwnBounds p) _ _ y e (λ g.
      let at : (c.seats p).place ≡ Vacant = vacant_is (c.seats p).place (second (not (is_vacant x.place)) (is_vacant (c.seats p).place) g) in
      let rest : (c.seats p).task ≡ task.Rest = resting Vacant at in
      let none : (c.seats p).current ≡ blank = current_at Vacant at in
      let begin = ap (λ (t : Attempt). t.begin) none in
      let stamp = ap (λ (t : Attempt). t.stamp) none in
      moves_on p (c.seats p) _ (ready_at Vacant at tt rest) tt (subst FillsNone (sym rest) tt) refl refl own.bounded (omega (arith, begin)) (omega (arith, stamp)))
    where
      vacant_is : (pl : Place) → is_vacant pl ≡ true → pl ≡ Vacant
      vacant_is Vacant e = refl
      vacant_is _ e = absurd (cc)

-- a step that is taken names an object and a seat that there are
known_if : (b : Bool) (o : Option Core) (d : Core) → (if b then o else None) ≡ Some d → b ≡ true
known_if true o d e = refl
known_if false o d e = absurd (cc)

known_from : (c : Core) (p : ℕ) (k : Kind) (d : Core) → MeetsOne k → after_event c p k ≡ Some d → is_known k ≡ true
known_from c p (kind.Split other) d one e = absurd one
known_from c p (kind.Join other) d one e = absurd one
known_from c p k d one e = known_if (is_known k) _ d e

-- one seat's part after the event
part_kept : (c : Core) (s : Shared) (p : ℕ) (y : Part) (d : Core) → Sound c → OwnBounds p y → record { shared = s; seats = put c.seats p y } ≡ d → (q : ℕ) → OwnBounds q (d.seats q)
part_kept c s p y d sound own is q =
    subst (λ (b : Core). OwnBounds q (b.seats q)) is (each_seat (λ r (z : Part). OwnBounds r z) c.seats p y own (λ r _. (sound.own r).bounds) q)

split_kept : (c : Core) (p other : ℕ) (d : Core) → Sound c → after_event c p (kind.Split other) ≡ Some d → (q : ℕ) → OwnBounds q (d.seats q)
split_kept c p other d sound e = by_test _ e
  where
    from : (o : Option Part) → split (c.seats p) (c.seats other) ≡ o → with_part c other o ≡ Some d → (q : ℕ) → OwnBounds q (d.seats q)
    from None at e = absurd (cc)
    from (Some y) at e = part_kept c c.shared other y d sound (taken_bounds c other sound (c.seats p) y at) (same_Some _ _ e)

    by_test : (b : Bool) → (if b then with_part c other (split (c.seats p) (c.seats other)) else None) ≡ Some d → (q : ℕ) → OwnBounds q (d.seats q)
    by_test true e = from _ refl e
    by_test false e = absurd (cc)

join_kept : (c : Core) (p other : ℕ) (d : Core) → Sound c → after_event c p (kind.Join other) ≡ Some d → (q : ℕ) → OwnBounds q (d.seats q)
join_kept c p other d sound e = by_test _ e
  where
    from : (o : Option Part) → join (c.seats p) (c.seats other) ≡ o → with_part c p o ≡ Some d → (q : ℕ) → OwnBounds q (d.seats q)
    from None at e = absurd (cc)
    from (Some y) at e = part_kept c c.shared p y d sound (join_bounds c p sound (c.seats other) y at) (same_Some _ _ e)

    by_test : (b : Bool) → (if b then None else with_part c p (join (c.seats p) (c.seats other))) ≡ Some d → (q : ℕ) → OwnBounds q (d.seats q)
    by_test true e = absurd (cc)
    by_test false e = from _ refl e

moved_kept : (c : Core) (p : ℕ) (k : Kind) (d : Core) → MeetsOne k → Sound c → after_event c p k ≡ Some d → (q : ℕ) → OwnBounds q (d.seats q)
moved_kept c p k d one sound e =
    let m = moves c p k d one e in
    part_kept c _ p m.part d sound (bounds_after c p sound k m.part (known_from c p k d one e) m.after) (sym m.is)

-- Each event keeps how far the calls have come.
pub kept : (c : Core) (p : ℕ) (k : Kind) (d : Core) → Sound c → after_event c p k ≡ Some d → (q : ℕ) → OwnBounds q (d.seats q)
kept c p (kind.Split other) d sound e = split_kept c p other d sound e
kept c p (kind.Join other) d sound e = join_kept c p other d sound e
kept c p k d sound e = moved_kept c p k d tt sound e
