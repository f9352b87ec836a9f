-- What a sound state says of a seat by its place: its stamp, its level, and what a look at it finds.
use Rattle.std.proofs.Common.{◌≡◌, ℕ, ◌+◌, ◌*◌, ◌<◌, ◌≤◌, ◌⊎◌, ⊎_elim, true, false, eqb, leb, not, refl, sym, ap, subst, inl, inr, arith}
use Rattle.std.proofs.lemmas.Bool.{and_from, and_parts, cases_eq, cases_lt, cases_Bool, eqb-true, le-leb, ne_eqb, not_from_false, or_right}
use Rattle.std.specs.Int.{w64, trailing_zeros}
use Rattle.erm_machine.specs.declared.attempt.Attempt.{Attempt}
use Rattle.erm_machine.specs.declared.attempt.Decision.TheVariants.{Undecided}
use Rattle.erm_machine.specs.declared.limits.TheConstants.{RING_WORDS}
use Rattle.erm_machine.specs.declared.place.Place.{Place}
use Rattle.erm_machine.specs.declared.place.Place.TheVariants.{Vacant, Idle, Active, Sealing, Drawn, Sealed, Decided, Leaving}
use Rattle.erm_machine.specs.declared.task.Task.{Task}
use Rattle.erm_machine.specs.declared.task.Task.TheVariants as task
use Rattle.erm_machine.specs.Back.{passed_to}
use Rattle.erm_machine.specs.Bounds.{IsBounded, IsOther}
use Rattle.erm_machine.specs.Core.{Core}
use Rattle.erm_machine.specs.Facts.{IsCurrent}
use Rattle.erm_machine.specs.Lives.{IsPin}
use Rattle.erm_machine.specs.Seat.{is_active, is_sealed, is_vacant}
use Rattle.erm_machine.specs.Settling.{has_room}
use Rattle.erm_machine.specs.Sound.{Sound}
use Rattle.erm_machine.specs.Tasks.{TaskFits}
use Rattle.erm_machine.specs.Words.{begin_of, is_clear, is_flusher, is_least_bit, state_of}
use Rattle.erm_core_calls.proofs.Bits.{least_bit}
use Rattle.erm_core_calls.proofs.GoesActive.{bound_at}
use Rattle.erm_core_calls.proofs.Seats.{last_member, range_size, seat_low}
use Rattle.erm_core_stall.specs.Waiting.{IsPending, IsSealedAt, IsSealing, IsUnfinished, level_at}

-- a stamp that isn't clear for a bound is 1, as if sealing, or lies below it
unclear_stamp : (s bound : ℕ) → is_clear s bound ≡ false → (s ≡ 1) ⊎ (s < bound)
unclear_stamp s bound e =
    ⊎_elim
    (λ (one : s ≡ 1). inl one)
    (λ (other : s ≡ 1 → ⊥).
    ⊎_elim
    (λ (less : s < bound). inr less)
    (λ (up : bound ≤ s).
    let clear : is_clear s bound ≡ true = or_right (eqb s 0) _ (and_from (not (eqb s 1)) (leb bound s) (not_from_false _ (ne_eqb s 1 other)) (le-leb bound s up)) in
    absurd (cc))
    (cases_lt s bound))
    (cases_eq s 1)

-- whom a look doesn't find clear: one that seals, or is sealed below the bound
pub data Unclear (bound : ℕ) (pl : Place) : Type 0 where
  found_sealing : IsSealing pl → Unclear bound pl
  found_sealed : (s : ℕ) → IsSealedAt s pl → (s ≡ 1) ⊎ (s < bound) → Unclear bound pl

pub unclear : (pl : Place) (bound : ℕ) → is_clear (state_of pl) bound ≡ false → Unclear bound pl
unclear (Sealing tail) bound e = found_sealing tt
unclear (Drawn tail stamp) bound e = found_sealing tt
unclear (Sealed tail stamp) bound e = found_sealed stamp refl (unclear_stamp stamp bound e)
unclear (Decided tail stamp) bound e = found_sealed stamp refl (unclear_stamp stamp bound e)
unclear (Leaving stamp) bound e = found_sealed stamp refl (unclear_stamp stamp bound e)
unclear pl bound e = absurd (cc)

-- who seals or is sealed isn't over
pub sealing_up : (pl : Place) → IsSealing pl → IsUnfinished pl
sealing_up (Sealing tail) h = tt
sealing_up (Drawn tail stamp) h = tt
sealing_up pl h = absurd h

-- nor is one whose begin word stands
pub begun_up : (pl : Place) → 0 < begin_of pl → IsUnfinished pl
begun_up Vacant some = absurd (omega (arith, some))
begun_up Idle some = absurd (omega (arith, some))
begun_up pl some = tt

pub sealed_up : (pl : Place) (s : ℕ) → IsSealedAt s pl → IsUnfinished pl
sealed_up (Sealed tail stamp) s h = tt
sealed_up (Decided tail stamp) s h = tt
sealed_up (Leaving stamp) s h = tt
sealed_up pl s h = absurd h

-- levels by places
pub sealing_level : (now begin : ℕ) (pl : Place) (u : Task) → IsSealing pl → level_at now begin pl u ≡ 0
sealing_level now begin (Sealing tail) u h = refl
sealing_level now begin (Drawn tail stamp) u h = refl
sealing_level now begin pl u h = absurd h

pub stamped_level : (now begin : ℕ) (pl : Place) (u : Task) (s : ℕ) → IsSealedAt s pl → level_at now begin pl u ≡ 2 * s
stamped_level now begin (Sealed tail stamp) u s h = ap (λ n. 2 * n) (sym h)
stamped_level now begin (Decided tail stamp) u s h = ap (λ n. 2 * n) (sym h)
stamped_level now begin (Leaving stamp) u s h = ap (λ n. 2 * n) (sym h)
stamped_level now begin pl u s h = absurd h

pub owned_level : (now begin : ℕ) (pl : Place) (oid owner : ℕ) → is_active pl ≡ true → level_at now begin pl (task.Owned oid owner) ≡ 2 * now
owned_level now begin (Active tail) oid owner e = refl
owned_level now begin pl oid owner e = absurd (cc)

pub surveys_level : (now begin : ℕ) (pl : Place) (next : ℕ) → is_active pl ≡ true → level_at now begin pl (task.Surveys next) ≡ 2 * now + begin
surveys_level now begin (Active tail) next e = refl
surveys_level now begin pl next e = absurd (cc)

-- a level is at most that of a snapshot with this begin word for its begin stamp
pub most_level : (now begin : ℕ) (pl : Place) (u : Task) → ((s : ℕ) → IsSealedAt s pl → s < now) → (IsPending u → begin_of pl ≡ begin) → level_at now begin pl u ≤ 2 * now + begin_of pl
most_level now begin (Sealing tail) u low raised = omega arith
most_level now begin (Drawn tail stamp) u low raised = omega arith
most_level now begin (Sealed tail stamp) u low raised = let h = low stamp refl in omega (arith, h)
most_level now begin (Decided tail stamp) u low raised = let h = low stamp refl in omega (arith, h)
most_level now begin (Leaving stamp) u low raised = let h = low stamp refl in omega (arith, h)
most_level now begin (Active tail) (task.Surveys next) low raised = let h : tail ≡ begin = raised tt in omega (arith, h)
most_level now begin (Active tail) (task.Behind next) low raised = let h : tail ≡ begin = raised tt in omega (arith, h)
most_level now begin (Active tail) u low raised = omega arith
most_level now begin pl u low raised = omega arith

-- the place by a test
pub sealed_place : (pl : Place) → is_sealed pl ≡ true → (s : ℕ) × IsSealedAt s pl
sealed_place (Sealed tail stamp) e = (stamp, refl)
sealed_place pl e = absurd (cc)

pub active_place : (pl : Place) → is_active pl ≡ true → (tail : ℕ) × (pl ≡ Active tail)
active_place (Active tail) e = (tail, refl)
active_place pl e = absurd (cc)

pub sealed_taken : (pl : Place) → is_sealed pl ≡ true → is_vacant pl ≡ false
sealed_taken (Sealed tail stamp) e = refl
sealed_taken pl e = absurd (cc)

pub sealed_not_active : (pl : Place) → is_sealed pl ≡ true → is_active pl ≡ true → ⊥
sealed_not_active (Sealed tail stamp) e a = absurd (cc)
sealed_not_active pl e a = absurd (cc)

pub no_pin : (pl : Place) → is_sealed pl ≡ true → IsPin pl → ⊥
no_pin (Sealed tail stamp) e pin = pin
no_pin pl e pin = absurd (cc)

-- the place by the task
pub owned_place : (pl : Place) (t : Attempt) (oid owner : ℕ) → TaskFits pl t (task.Owned oid owner) → is_active pl ≡ true
owned_place (Active tail) t oid owner fits = refl
owned_place (Sealed tail stamp) t oid owner fits = absurd fits
owned_place (Decided tail stamp) t oid owner fits = absurd fits
owned_place pl t oid owner fits = absurd (cc)

pub read_owned_place : (pl : Place) (t : Attempt) (read owner : ℕ) → TaskFits pl t (task.ReadOwned read owner) → is_sealed pl ≡ true
read_owned_place (Active tail) t read owner fits = absurd fits
read_owned_place (Sealed tail stamp) t read owner fits = refl
read_owned_place (Decided tail stamp) t read owner fits = absurd fits
read_owned_place pl t read owner fits = absurd (cc)

pub readers_left_place : (pl : Place) (t : Attempt) (write bits : ℕ) → TaskFits pl t (task.ReadersLeft write bits) → is_sealed pl ≡ true
readers_left_place (Active tail) t write bits fits = absurd fits
readers_left_place (Sealed tail stamp) t write bits fits = refl
readers_left_place (Decided tail stamp) t write bits fits = absurd fits
readers_left_place pl t write bits fits = absurd (cc)

pub surveys_place : (pl : Place) (t : Attempt) (next : ℕ) → TaskFits pl t (task.Surveys next) → is_active pl ≡ true
surveys_place (Active tail) t next fits = refl
surveys_place (Sealed tail stamp) t next fits = absurd fits
surveys_place (Decided tail stamp) t next fits = absurd fits
surveys_place pl t next fits = absurd (cc)

-- one that is sealed has no snapshot
pub sealed_no_snapshot : (pl : Place) (t : Attempt) (u : Task) (s : ℕ) → IsSealedAt s pl → TaskFits pl t u → IsPending u → ⊥
sealed_no_snapshot (Sealed tail stamp) t (task.Surveys next) s h fits pending = fits
sealed_no_snapshot (Sealed tail stamp) t (task.Behind next) s h fits pending = fits
sealed_no_snapshot (Decided tail stamp) t (task.Surveys next) s h fits pending = fits
sealed_no_snapshot (Decided tail stamp) t (task.Behind next) s h fits pending = fits
sealed_no_snapshot (Leaving stamp) t u s h fits pending = subst IsPending fits pending
sealed_no_snapshot (Sealed tail stamp) t u s h fits pending = absurd pending
sealed_no_snapshot (Decided tail stamp) t u s h fits pending = absurd pending
sealed_no_snapshot pl t u s h fits pending = absurd h

-- a snapshot that looks has passed its own seat's number, or more
pending_passed : (seat : ℕ) (t : Attempt) (u : Task) → IsBounded seat t u → IsPending u → 0 < passed_to u
pending_passed seat t (task.Surveys next) b pending = b.0
pending_passed seat t (task.Behind next) b pending = b.1
pending_passed seat t u b pending = absurd pending

-- the stamp of one that is sealed
stamp_of : (pl : Place) (t : Attempt) (s : ℕ) → IsCurrent pl t → IsSealedAt s pl → (t.stamp ≡ s) × (0 < s)
stamp_of (Sealed tail stamp) t s cur h = let a = cur.stamp_is in let b = cur.positive in (omega (arith, a, h), omega (arith, b, h))
stamp_of (Decided tail stamp) t s cur h = let a = cur.stamp_is in let b = cur.positive in (omega (arith, a, h), omega (arith, b, h))
stamp_of (Leaving stamp) t s cur h = let a = cur.stamp_is in let b = cur.positive in (omega (arith, a, h), omega (arith, b, h))
stamp_of pl t s cur h = absurd h

-- a range that isn't decided is drawn, or sealed at its stamp
open_place : (pl : Place) (t : Attempt) → IsCurrent pl t → 0 < t.stamp → t.decision ≡ Undecided → IsSealing pl ⊎ IsSealedAt t.stamp pl
open_place (Drawn tail stamp) t cur drawn none = inl tt
open_place (Sealed tail stamp) t cur drawn none = inr cur.stamp_is
open_place (Decided tail stamp) t cur drawn none = absurd (cur.decision none)
open_place (Leaving stamp) t cur drawn none = absurd (cur.decision none)
open_place (Active tail) t cur drawn none = let e = cur.stamp in absurd (omega (arith, e, drawn))
open_place (Sealing tail) t cur drawn none = let e = cur.stamp in absurd (omega (arith, e, drawn))
open_place pl t cur drawn none = let e = ap (λ (u : Attempt). u.stamp) cur in absurd (omega (arith, e, drawn))

module _ (c : Core) (sound : Sound c) where
  -- the places of the log in order
  pub flushed_positive : 0 < c.shared.flushed
  flushed_positive = let a = sound.common.ranges.positive in let b = sound.common.log.gathered.onward.0 in omega (arith, a, b)

  pub tail_positive : 0 < c.shared.tail
  tail_positive = let o = sound.common.log.gathered.onward in let a = o.1 in let b = o.2 in let f = flushed_positive in omega (arith, a, b, f)

  pub current_at : (p : ℕ) → IsCurrent (c.seats p).place (c.seats p).current
  current_at p = (sound.own p).ranges.current

  pub fits_at : (p : ℕ) → TaskFits (c.seats p).place (c.seats p).current (c.seats p).task
  fits_at p = (sound.own p).task.fits

  -- the stamp of one that is sealed, which lies below the tail
  pub stamped : (p s : ℕ) → IsSealedAt s (c.seats p).place → ((c.seats p).current.stamp ≡ s) × (0 < s) × (s < c.shared.tail)
  stamped p s h =
      let t = (c.seats p).current in
      let a = stamp_of (c.seats p).place t s (current_at p) h in
      let same = a.0 in
      let below = (sound.own p).decided.drawn t (last_member (c.seats p).over t) in
      (same, a.1, omega (arith, same, below))

  -- the begin word of a snapshot that looks is its begin stamp
  pub raised_at : (p : ℕ) → IsPending (c.seats p).task → begin_of (c.seats p).place ≡ (c.seats p).current.begin
  raised_at p pending = (sound.own p).raised.raised (pending_passed p (c.seats p).current (c.seats p).task (sound.own p).bounds.bounded pending)

  pub open_at : (p : ℕ) → 0 < (c.seats p).current.stamp → (c.seats p).current.decision ≡ Undecided → IsSealing (c.seats p).place ⊎ IsSealedAt (c.seats p).current.stamp (c.seats p).place
  open_at p drawn none = open_place (c.seats p).place (c.seats p).current (current_at p) drawn none

  -- stamps of two seats differ
  pub apart : (p q s r : ℕ) → IsSealedAt s (c.seats p).place → IsSealedAt r (c.seats q).place → (q ≡ p → ⊥) → s ≡ r → ⊥
  apart p q s r here there other same =
      let a = stamped p s here in
      let b = stamped q r there in
      let ea = a.0 in
      let eb = b.0 in
      let up = a.1 in
      let t = (c.seats p).current in
      let u = (c.seats q).current in
      (sound.both p q (λ (e : p ≡ q). other (sym e))).decided.apart t u (last_member (c.seats p).over t) (last_member (c.seats q).over u) (omega (arith, ea, up)) (omega (arith, ea, eb, same))

  -- a sealed one for whose block the ring has no room has a stamp above the place flushed
  pub full_above : (p s : ℕ) → IsSealedAt s (c.seats p).place → has_room c.shared.flushed (c.seats p).current ≡ false → c.shared.flushed < s
  full_above p s h full =
      let a = stamped p s h in
      let same = a.0 in
      let up = a.1 in
      let t = (c.seats p).current in
      let sizes = range_size c sound p (omega (arith, same, up)) in
      let high = sizes.1 in
      ⊎_elim
      (λ (below : c.shared.flushed < s). below)
      (λ (past : s ≤ c.shared.flushed).
      let room : has_room c.shared.flushed t ≡ true = and_from _ _ (le-leb t.size RING_WORDS (omega (arith, high))) (le-leb _ c.shared.flushed (omega (arith, same, past))) in
      absurd (cc))
      (cases_lt c.shared.flushed s)

  -- a sealed seat is a session's, and no turn of it is in progress
  pub sealed_session : (p : ℕ) → is_sealed (c.seats p).place ≡ true → is_flusher p ≡ false
  sealed_session p sealed =
      ⊎_elim (λ (flusher : is_flusher p ≡ true). absurd (no_pin (c.seats p).place sealed ((sound.own p).lives.pinned flusher))) (λ (other : is_flusher p ≡ false). other) (cases_Bool (is_flusher p))

  -- whom a settle looks at
  pub least_reader : (bits reader : ℕ) → is_least_bit bits reader ≡ true → reader ≡ trailing_zeros w64 bits
  least_reader bits reader e = sym (eqb-true (trailing_zeros w64 bits) reader (and_parts _ _ e).0)

  pub other_reader : (p write bits reader : ℕ) → (c.seats p).task ≡ task.ReadersLeft write bits → is_least_bit bits reader ≡ true → IsOther p reader
  other_reader p write bits reader at least =
      let b = bound_at c p sound (task.ReadersLeft write bits) at in
      let first = least_bit bits b.1 (λ q one. seat_low q (b.2 q one).has_words) in
      subst (IsOther p) (sym (least_reader bits reader least)) (b.2 (trailing_zeros w64 bits) first.set)
