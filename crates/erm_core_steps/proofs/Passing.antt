-- Settle passes the versions read and overwritten: each step loads a word, is taken, and leads on.
use Rattle.std.proofs.Common.{◌≡◌, ◌≢◌, ℕ, ◌^◌, ◌<◌, ◌≤◌, ⊎_elim, true, false, length, [], Some, refl, sym, ap, ◌∙◌, subst, arith}
use Rattle.std.specs.Int.{w64, trailing_zeros}
use Rattle.std.specs.Prelude.{if◌then◌else◌, nat_lt}
use Rattle.std.proofs.lemmas.Bool.{and_from, and_parts, eqb-true, le-leb, ne_eqb, not_from_false}
use Rattle.erm_machine.specs.declared.attempt.Attempt.{Attempt}
use Rattle.erm_machine.specs.declared.event.Kind.{Kind}
use Rattle.erm_machine.specs.declared.event.Kind.TheVariants as kind
use Rattle.erm_machine.specs.declared.part.Part.{Part}
use Rattle.erm_machine.specs.declared.place.Place.{Place}
use Rattle.erm_machine.specs.declared.place.Place.TheVariants.{Sealed}
use Rattle.erm_machine.specs.declared.task.Task.{Task}
use Rattle.erm_machine.specs.declared.task.Task.TheVariants as task
use Rattle.erm_machine.specs.Core.{Core, spot_of, word_at}
use Rattle.erm_machine.specs.Seat.{is_sealed, is_vacant, read_at}
use Rattle.erm_machine.specs.Sound.{Sound}
use Rattle.erm_machine.specs.Bounds.{IsBounded}
use Rattle.erm_machine.specs.Step.{after_event}
use Rattle.erm_machine.specs.Words.{is_clear, is_seat, state_of}
use Rattle.erm_machine.proofs.QuietKinds.{Moves, moves}
use Rattle.erm_core_calls.specs.Ending.{ComesNearer, IsLess, ahead, ahead_at}
use Rattle.erm_core_calls.specs.Going.{MovesOn, Waits, Written, next_settle, overwrites, for_begin, for_owner, for_overwriter, for_reader}
use Rattle.erm_core_calls.proofs.Bits.{least_bit}
use Rattle.erm_core_calls.proofs.GoesActive.{bound_at}
use Rattle.erm_core_calls.proofs.GoesSettled.{s_read_clear, s_read_overtaken, s_read_owned, s_readers_left, s_settles, s_write_clear, s_write_made}
use Rattle.erm_core_calls.proofs.Moving.{below_way, bits_left, met, taken}
use Rattle.erm_core_calls.proofs.NearerSettled.{n_read_clear, n_read_overtaken, n_read_owned, n_readers_left, n_settles, n_write_clear, n_write_made}
use Rattle.erm_core_calls.proofs.Seats.{seat_low}
use Rattle.erm_core_view.proofs.Moved.{calm_shows, own_after}
use Rattle.erm_core_steps.specs.Settles.{AreAllBehind, IsClearFor, IsPassing, IsWaiting, LooksAt, PassesBy, Stays, StopsAt, is_passing, at_owner, at_reader}
use Rattle.erm_core_steps.specs.Steps.{IsTaken, IsUnseen}
use Rattle.erm_core_steps.proofs.Unseen.{others_stay, unseen_both, unseen_step}
use Rattle.erm_core_steps.proofs.Weights.{lighter, weight, word_from_bits}
use Rattle.erm_world.specs.declared.stops.Wait.{Wait}
use Rattle.erm_core_turns.proofs.Turns.{one_after}
use Rattle.erm_core_view.proofs.Moved.{meets_one}
use Rattle.erm_core_steps.proofs.Places.{sealed_there}
use Rattle.erm_core_steps.proofs.Loads.{Loads, load_shared, loads, loads_word}
use Rattle.erm_core_steps.proofs.Passes.{Next, load_next, look_stays}
use Rattle.erm_core_steps.specs.Reads.{IsLoad}

-- the owner that a task looks at
abbrev owner_at : Task → ℕ
owner_at (task.ReadOwned read owner) = owner
owner_at u = 0

-- some block
abbrev pub some_block : Written
some_block = record { row = []; size = 0; word = λ _. 0; header = 0 }

module _ (c : Core) (seat : ℕ) (sealed : is_sealed (c.seats seat).place ≡ true) where
  abbrev x : Part
  x = c.seats seat

  abbrev k_of : Task → Kind
  k_of u = next_settle some_block x.current u

  look_waits : (other : ℕ) → other ≢ seat → (w : Wait) → StopsAt (kind.LoadState other x.current.stamp) (state_of (c.seats other).place) w → (d : Core) → after_event c seat (kind.LoadState other x.current.stamp) ≡ Some d
      → ((y : Part) → y.task ≡ x.task → LooksAt y other) → IsWaiting d seat w
  look_waits other another w stop d e looks =
      let seen = state_of (c.seats other).place in
      let m = moves c seat (kind.LoadState other x.current.stamp) d tt e in
      let own : d.seats seat ≡ m.part = own_after c seat (kind.LoadState other x.current.stamp) d m in
      let stays = look_stays x seat other x.current.stamp seen m.part stop.1 m.after in
      let same : (d.seats other).place ≡ (c.seats other).place = ap (λ (y : Part). y.place) (others_stay c d seat (kind.LoadState other x.current.stamp) tt e other another) in
      let stamp : (d.seats seat).current.stamp ≡ x.current.stamp = ap (λ (y : Part). y.current.stamp) own ∙ ap (λ (t : Attempt). t.stamp) stays.1 in
      subst (λ (v : Wait). IsWaiting d seat v) (sym stop.0)
      (looks (d.seats seat) (ap (λ (y : Part). y.task) own ∙ stays.0), ap state_of (sym same), subst (λ n. is_clear seen n ≡ false) (sym stamp) stop.1)

  -- the kinds of steps
  loads_at : (u : Task) → is_passing u ≡ true → (AreAllBehind x.current u → ⊥) → IsLoad (k_of u)
  loads_at (task.Settles r w) p some =
      below_way IsLoad r (length x.current.reads) (kind.LoadEntry (read_at x.current r).version.oid) (if nat_lt w (length x.current.writes) then kind.LoadReaders (overwrites x.current w) else _) (λ _. tt)
      (λ behind. below_way IsLoad w (length x.current.writes) (kind.LoadReaders (overwrites x.current w)) _ (λ _. tt) (λ past. absurd (some (behind, past))))
  loads_at (task.ReadOwned read owner) p some = tt
  loads_at (task.ReadClear read) p some = tt
  loads_at (task.ReadOvertaken read overwriter) p some = tt
  loads_at (task.ReadersLeft write bits) p some = tt
  loads_at (task.WriteClear write) p some = tt
  loads_at (task.WriteMade write) p some = tt
  loads_at u p some = absurd (cc)

  -- a look at another seat with a bound that isn't above the tail seen
  look_taken : (other bound : ℕ) → is_seat other ≡ true → other ≢ seat → bound ≤ x.seen → IsTaken c seat (kind.LoadState other bound)
  look_taken other bound words another low =
      let there : is_vacant x.place ≡ false = sealed_there x.place sealed in (
        _,
        taken c seat (kind.LoadState other bound) _ tt words
            (met _ _ _ refl (and_from _ _ (and_from _ _ (not_from_false _ there) (not_from_false _ (ne_eqb other seat another))) (le-leb bound x.seen low))),
      )

  moves_taken : (k : Kind) → MovesOn c seat k → IsTaken c seat k
  moves_taken k m = (m.after, m.taken)

  module _ (sound : Sound c) (tail stamp : ℕ) (pl : (c.seats seat).place ≡ Sealed tail stamp) where
    -- each step is taken
    takes : (u : Task) → x.task ≡ u → is_passing u ≡ true → IsTaken c seat (k_of u)
    takes (task.Settles r w) at p = moves_taken _ (s_settles c seat sound tail stamp pl some_block r w at)
    takes (task.ReadOwned read owner) at p =
        let b = bound_at c seat sound (task.ReadOwned read owner) at in
        look_taken owner x.current.stamp b.1.has_words b.1.another (sound.own seat).bounds.stamp_seen
    takes (task.ReadClear read) at p = moves_taken _ (s_read_clear c seat sound tail stamp pl read at)
    takes (task.ReadOvertaken read overwriter) at p = moves_taken _ (s_read_overtaken c seat sound tail stamp pl read overwriter at)
    takes (task.ReadersLeft write bits) at p =
        let b = bound_at c seat sound (task.ReadersLeft write bits) at in
        let least = least_bit bits b.1 (λ q one. seat_low q (b.2 q one).has_words) in
        let other = b.2 (trailing_zeros w64 bits) least.set in
        look_taken (trailing_zeros w64 bits) x.current.stamp other.has_words other.another (sound.own seat).bounds.stamp_seen
    takes (task.WriteClear write) at p = moves_taken _ (s_write_clear c seat sound tail stamp pl write at)
    takes (task.WriteMade write) at p = moves_taken _ (s_write_made c seat sound tail stamp pl write at)
    takes u at p = absurd (cc)

    no_owner : (read owner : ℕ) → Waits c seat → x.task ≡ task.ReadOwned read owner → is_clear (state_of (c.seats owner).place) x.current.stamp ≡ true → ⊥
    no_owner read owner (for_owner oid other is none) at clear = absurd (cc)
    no_owner read owner (for_overwriter r other is none) at clear =
        let same : owner ≡ other = ap owner_at (sym at ∙ is) in absurd (let found = subst (λ n. is_clear (state_of (c.seats n).place) x.current.stamp ≡ true) same clear in cc)
    no_owner read owner (for_reader write bits other is least none) at clear = absurd (cc)
    no_owner read owner (for_begin other is another some below) at clear = absurd (cc)

    no_reader : (write bits : ℕ) → Waits c seat → x.task ≡ task.ReadersLeft write bits → is_clear (state_of (c.seats (trailing_zeros w64 bits)).place) x.current.stamp ≡ true → ⊥
    no_reader write bits (for_owner oid other is none) at clear = absurd (cc)
    no_reader write bits (for_overwriter r other is none) at clear = absurd (cc)
    no_reader write bits (for_begin other is another some below) at clear = absurd (cc)
    no_reader write bits (for_reader w more other is least none) at clear =
        let bits_same : bits ≡ more = ap bits_left (sym at ∙ is) in
        let same : trailing_zeros w64 bits ≡ other = ap (trailing_zeros w64) bits_same ∙ eqb-true (trailing_zeros w64 more) other (and_parts _ _ least).0 in
        absurd (let found = subst (λ n. is_clear (state_of (c.seats n).place) x.current.stamp ≡ true) same clear in cc)

    -- and moves the seat on, where a look finds the other seat clear
    abbrev ClearAt : Kind → Type 0
    ClearAt k = IsClearFor k (word_at c (spot_of seat k))

    nears : (u : Task) → x.task ≡ u → is_passing u ≡ true → ClearAt (k_of u) → (m : MovesOn c seat (k_of u)) × ComesNearer c seat (k_of u) m
    nears (task.Settles r w) at p clear = let m = s_settles c seat sound tail stamp pl some_block r w at in (m, n_settles c seat sound tail stamp pl some_block r w at m)
    nears (task.ReadOwned read owner) at p clear =
        ⊎_elim (λ (m : MovesOn c seat (k_of (task.ReadOwned read owner))). (m, n_read_owned c seat sound tail stamp pl read owner at m)) (λ (w : Waits c seat). absurd (no_owner read owner w at clear))
        (s_read_owned c seat sound tail stamp pl read owner at)
    nears (task.ReadClear read) at p clear = let m = s_read_clear c seat sound tail stamp pl read at in (m, n_read_clear c seat sound tail stamp pl read at m)
    nears (task.ReadOvertaken read overwriter) at p clear =
        let m = s_read_overtaken c seat sound tail stamp pl read overwriter at in (m, n_read_overtaken c seat sound tail stamp pl read overwriter at m)
    nears (task.ReadersLeft write bits) at p clear =
        ⊎_elim (λ (m : MovesOn c seat (k_of (task.ReadersLeft write bits))). (m, n_readers_left c seat sound tail stamp pl write bits at m)) (λ (w : Waits c seat). absurd (no_reader write bits w at clear))
        (s_readers_left c seat sound tail stamp pl write bits at)
    nears (task.WriteClear write) at p clear = let m = s_write_clear c seat sound tail stamp pl write at in (m, n_write_clear c seat sound tail stamp pl write at m)
    nears (task.WriteMade write) at p clear = let m = s_write_made c seat sound tail stamp pl write at in (m, n_write_made c seat sound tail stamp pl write at m)
    nears u at p clear = absurd (cc)

  -- whom the seat waits for where a look finds the other seat not clear
  waits_at : (u : Task) → x.task ≡ u → is_passing u ≡ true → Sound c → (w : Wait) → StopsAt (k_of u) (word_at c (spot_of seat (k_of u))) w → (d : Core) → after_event c seat (k_of u) ≡ Some d → IsWaiting d seat w
  waits_at (task.ReadOwned read other) at p sound w stop d e =
      let b = bound_at c seat sound (task.ReadOwned read other) at in
      look_waits other b.1.another w stop d e (λ y same. at_owner read (same ∙ at))
  waits_at (task.ReadersLeft write bits) at p sound w stop d e =
      let b = bound_at c seat sound (task.ReadersLeft write bits) at in
      let least = least_bit bits b.1 (λ q one. seat_low q (b.2 q one).has_words) in
      look_waits (trailing_zeros w64 bits) (b.2 (trailing_zeros w64 bits) least.set).another w stop d e (λ y same. at_reader write bits (same ∙ at) least.least)
  waits_at (task.Settles r w) at p sound wait stop d e =
      absurd (below_way (λ k. StopsAt k (word_at c (spot_of seat k)) wait → ⊥) r (length x.current.reads) (kind.LoadEntry (read_at x.current r).version.oid) (if nat_lt w (length x.current.writes) then kind.LoadReaders (overwrites x.current w) else _) (λ _ s. s)
      (λ _. below_way (λ k. StopsAt k (word_at c (spot_of seat k)) wait → ⊥) w (length x.current.writes) (kind.LoadReaders (overwrites x.current w)) _ (λ _ s. s) (λ _ s. s)) stop)
  waits_at (task.ReadClear read) at p sound w stop d e = absurd stop
  waits_at (task.ReadOvertaken read overwriter) at p sound w stop d e = absurd stop
  waits_at (task.WriteClear write) at p sound w stop d e = absurd stop
  waits_at (task.WriteMade write) at p sound w stop d e = absurd stop
  waits_at u at p sound w stop d e = absurd (cc)

-- what lies ahead of a seat that passes versions
left_at : (seat : ℕ) (t : Attempt) (back : ℕ) (pl : Place) (u : Task) → is_sealed pl ≡ true → is_passing u ≡ true → IsBounded seat t u → (ahead_at t back pl u).left < 2 ^ 64
left_at seat t back (Sealed tail stamp) (task.Settles r w) e p b = omega arith
left_at seat t back (Sealed tail stamp) (task.ReadOwned read owner) e p b = omega arith
left_at seat t back (Sealed tail stamp) (task.ReadClear read) e p b = omega arith
left_at seat t back (Sealed tail stamp) (task.ReadOvertaken read overwriter) e p b = omega arith
left_at seat t back (Sealed tail stamp) (task.ReadersLeft write bits) e p b = word_from_bits bits (λ q one. let h = seat_low q (b.2 q one).has_words in omega (arith, h))
left_at seat t back (Sealed tail stamp) (task.WriteClear write) e p b = omega arith
left_at seat t back (Sealed tail stamp) (task.WriteMade write) e p b = omega arith
left_at seat t back (Sealed tail stamp) u e p b = absurd (cc)
left_at seat t back _ u e p b = absurd (cc)

-- Of a seat that passes versions: what is said of the next step.
module _ (c : Core) (seat : ℕ) (sound : Sound c) (passing : IsPassing c.shared (c.seats seat)) (k : Kind) (by : PassesBy (c.seats seat).current (c.seats seat).task k) where
  by_kind : next_settle some_block (c.seats seat).current (c.seats seat).task ≡ k
  by_kind = sym (by.next some_block)

  pub is_load : IsLoad k
  is_load = subst IsLoad by_kind (loads_at c seat passing.sealed (c.seats seat).task passing.passing by.some)

  sealed_at : (pl : Place) → (c.seats seat).place ≡ pl → is_sealed pl ≡ true → IsTaken c seat (next_settle some_block (c.seats seat).current (c.seats seat).task)
  sealed_at (Sealed tail stamp) at e = takes c seat passing.sealed sound tail stamp at (c.seats seat).task refl passing.passing
  sealed_at _ at e = absurd (cc)

  pub is_taken : IsTaken c seat k
  is_taken = subst (IsTaken c seat) by_kind (sealed_at (c.seats seat).place refl passing.sealed)

  pub loads_one : Loads k
  loads_one = loads k is_load

  module _ (d : Core) (after : after_event c seat k ≡ Some d) where
    step : Moves c seat k d
    step = moves c seat k d (meets_one k loads_one.one) after

    own : d.seats seat ≡ step.part
    own = own_after c seat k d step

    shared_same : d.shared ≡ c.shared
    shared_same = load_shared c d seat k is_load after

    next_part : Next c.shared (c.seats seat) (d.seats seat)
    next_part =
        subst (Next c.shared (c.seats seat)) (sym own) (load_next c seat k step.part (loads_word k is_load) passing step.after)

    pub still_passing : IsPassing d.shared (d.seats seat)
    still_passing = record {
      sealed = ap is_sealed next_part.place ∙ passing.sealed;
      passing = next_part.passing;
      stays = subst (λ s. Stays s (d.seats seat).current (d.seats seat).task) (sym shared_same) next_part.stays;
    }

    pub still_size : (d.seats seat).current.size ≡ (c.seats seat).current.size
    still_size = next_part.size

    pub still_unseen : (sessions : ℕ) (b : Core) → IsUnseen sessions seat b c → IsUnseen sessions seat b d
    still_unseen sessions b unseen =
        unseen_both sessions seat b c d unseen
        (unseen_step sessions seat c d k sound loads_one.one loads_one.drawn (loads_one.flushed c.shared.flushed) after (calm_shows seat c d k (loads_one.calm (c.seats seat).task) after))

    pub now_waits : (w : Wait) (word : ℕ) → word ≡ word_at c (spot_of seat k) → StopsAt k word w → IsWaiting d seat w
    now_waits w word is stop =
        waits_at c seat passing.sealed (c.seats seat).task refl passing.passing sound w
        (subst (λ j. StopsAt j (word_at c (spot_of seat j)) w) (sym by_kind) (subst (λ n. StopsAt k n w) is stop)) d (subst (λ j. after_event c seat j ≡ Some d) (sym by_kind) after)

    pub less : Sound d → (word : ℕ) → word ≡ word_at c (spot_of seat k) → IsClearFor k word → weight (d.seats seat) < weight (c.seats seat)
    less after_sound word is clear =
        let low = left_at seat (d.seats seat).current (d.seats seat).back (d.seats seat).place (d.seats seat).task still_passing.sealed still_passing.passing (after_sound.own seat).bounds.bounded in
        let n = nears_at (c.seats seat).place refl passing.sealed in
        let same : d ≡ n.0.after = one_after c d n.0.after seat k (subst (λ j. after_event c seat j ≡ Some n.0.after) by_kind n.0.taken) after in
        lighter (ahead (d.seats seat)) (ahead (c.seats seat)) low (subst (λ (to : Core). IsLess (ahead (to.seats seat)) (ahead (c.seats seat))) (sym same) n.1)
      where
        nears_at : (pl : Place) → (c.seats seat).place ≡ pl → is_sealed pl ≡ true
            → (m : MovesOn c seat (next_settle some_block (c.seats seat).current (c.seats seat).task)) × ComesNearer c seat (next_settle some_block (c.seats seat).current (c.seats seat).task) m
        nears_at (Sealed tail stamp) at e =
            nears c seat passing.sealed sound tail stamp at (c.seats seat).task refl passing.passing
            (subst (λ i. IsClearFor i (word_at c (spot_of seat i))) (sym by_kind) (subst (IsClearFor k) is clear))
        nears_at _ at e = absurd (cc)
