-- Blocks in the ring: those of which words are stored end within it.
use Rattle.std.proofs.Common.{◌≡◌, ◌≢◌, ℕ, ◌+◌, ◌<◌, ◌≤◌, ◌⊎◌, ⊎_elim, refl, sym, ap, ◌∙◌, subst, inl, inr, arith}
use Rattle.erm_model.specs.Member.{◌∈◌}
use Rattle.erm_model.proofs.Members.{∈-push}
use Rattle.erm_machine.specs.declared.attempt.Attempt.{Attempt}
use Rattle.erm_machine.specs.declared.attempt.Decision.TheVariants.{Undecided}
use Rattle.erm_machine.specs.declared.limits.TheConstants.{RING_WORDS, FLUSH_SEAT}
use Rattle.erm_machine.specs.declared.place.Place.{Place}
use Rattle.erm_machine.specs.declared.place.Place.TheVariants.{Vacant, Idle, Begun, Announced, Active, Sealing, Drawn, Sealed, Decided, Leaving}
use Rattle.erm_machine.specs.declared.task.Task.{Task}
use Rattle.erm_machine.specs.declared.task.Task.TheVariants as task
use Rattle.erm_machine.specs.declared.version.Span.{Span}
use Rattle.erm_machine.specs.Bounds.{words_stored}
use Rattle.erm_machine.specs.Core.{Core}
use Rattle.erm_machine.specs.Facts.{IsCurrent, all_of}
use Rattle.erm_machine.specs.Log.{HasRoom, IsEnd, block_word}
use Rattle.erm_machine.specs.Sound.{Sound}
use Rattle.erm_machine.specs.Tasks.{TaskFits}
use Rattle.erm_core_ring.proofs.Ring.{bare_word}
use Rattle.erm_core_ring.proofs.Spans.{range_held}

-- the current transaction, once it is decided, has found room
decided_room : (pl : Place) (t : Attempt) (u : Task) → IsCurrent pl t → 0 < t.stamp → t.decision ≢ Undecided → HasRoom pl u
decided_room Vacant t u cur drawn decided = absurd (let e = ap (λ (v : Attempt). v.stamp) cur in omega (arith, e, drawn))
decided_room Idle t u cur drawn decided = absurd (let e = ap (λ (v : Attempt). v.stamp) cur in omega (arith, e, drawn))
decided_room (Begun tail) t u cur drawn decided = absurd (let e = ap (λ (v : Attempt). v.stamp) cur in omega (arith, e, drawn))
decided_room (Announced tail) t u cur drawn decided = absurd (let e = ap (λ (v : Attempt). v.stamp) cur in omega (arith, e, drawn))
decided_room (Active tail) t u cur drawn decided = absurd (decided cur.decision)
decided_room (Sealing tail) t u cur drawn decided = absurd (decided cur.decision)
decided_room (Drawn tail stamp) t u cur drawn decided = absurd (decided cur.decision)
decided_room (Sealed tail stamp) t u cur drawn decided = absurd (decided cur.decision)
decided_room (Decided tail stamp) t u cur drawn decided = tt
decided_room (Leaving stamp) t u cur drawn decided = tt

-- nothing of its block is stored
record IsBare (pl : Place) (t : Attempt) (u : Task) : Type 0 where
  undecided : t.decision ≡ Undecided
  none : words_stored pl u t.size ≡ 0

-- a transaction with a range has found room, or nothing of its block is stored
room_or_bare : (pl : Place) (t : Attempt) (u : Task) → IsCurrent pl t → TaskFits pl t u → 0 < t.stamp → HasRoom pl u ⊎ IsBare pl t u
room_or_bare Vacant t u cur fits drawn = absurd (let e = ap (λ (v : Attempt). v.stamp) cur in omega (arith, e, drawn))
room_or_bare Idle t u cur fits drawn = absurd (let e = ap (λ (v : Attempt). v.stamp) cur in omega (arith, e, drawn))
room_or_bare (Begun tail) t u cur fits drawn = absurd (let e = ap (λ (v : Attempt). v.stamp) cur in omega (arith, e, drawn))
room_or_bare (Announced tail) t u cur fits drawn = absurd (let e = ap (λ (v : Attempt). v.stamp) cur in omega (arith, e, drawn))
room_or_bare (Active tail) t u cur fits drawn = absurd (let e = cur.stamp in omega (arith, e, drawn))
room_or_bare (Sealing tail) t u cur fits drawn = absurd (let e = cur.stamp in omega (arith, e, drawn))
room_or_bare (Drawn tail stamp) t u cur fits drawn = inr (record { undecided = cur.decision; none = ap (λ v. words_stored (Drawn tail stamp) v t.size) fits })
room_or_bare (Sealed tail stamp) t task.Rest cur fits drawn = inr (record { undecided = cur.decision; none = refl })
room_or_bare (Sealed tail stamp) t _ cur fits drawn = inl tt
room_or_bare (Decided tail stamp) t u cur fits drawn = inl tt
room_or_bare (Leaving stamp) t u cur fits drawn = inl tt

module _ (c : Core) (sound : Sound c) where
  -- a decided range ends within the ring
  pub decided_fits : (q : ℕ) (t : Attempt) → t ∈ all_of (c.seats q) → 0 < t.stamp → t.decision ≢ Undecided → t.stamp + t.size ≤ c.shared.flushed + RING_WORDS
  decided_fits q t m drawn decided =
      ⊎_elim
      (λ (over : t ∈ (c.seats q).over). (sound.own q).log.fits t over drawn)
      (λ (now : t ≡ (c.seats q).current).
      let x = c.seats q in
      let room = decided_room x.place x.current x.task (sound.own q).ranges.current (subst (λ (v : Attempt). 0 < v.stamp) now drawn) (λ e. decided (ap (λ (v : Attempt). v.decision) now ∙ e)) in
      subst (λ (v : Attempt). v.stamp + v.size ≤ c.shared.flushed + RING_WORDS) (sym now) ((sound.own q).log.fits_now room))
      (∈-push (c.seats q).over (c.seats q).current t m)

  -- a range ends within the ring, or nothing of its block is stored
  pub fits_or_bare : (q : ℕ) (t : Attempt) → t ∈ all_of (c.seats q) → 0 < t.stamp → (t.stamp + t.size ≤ c.shared.flushed + RING_WORDS) ⊎ ((k : ℕ) → block_word t k ≡ 0)
  fits_or_bare q t m drawn =
      ⊎_elim
      (λ (over : t ∈ (c.seats q).over). inl ((sound.own q).log.fits t over drawn))
      (λ (now : t ≡ (c.seats q).current).
      let x = c.seats q in
      subst (λ (v : Attempt). (v.stamp + v.size ≤ c.shared.flushed + RING_WORDS) ⊎ ((k : ℕ) → block_word v k ≡ 0)) (sym now)
      (⊎_elim
      (λ (room : HasRoom x.place x.task). inl ((sound.own q).log.fits_now room))
      (λ (bare : IsBare x.place x.current x.task). inr (λ k. bare_word x.current ((sound.own q).log.undecided bare.undecided) ((sound.own q).bounds.stored ∙ bare.none) k))
      (room_or_bare x.place x.current x.task (sound.own q).ranges.current (sound.own q).task.fits (subst (λ (v : Attempt). 0 < v.stamp) now drawn))))
      (∈-push (c.seats q).over (c.seats q).current t m)

  -- what is gathered lies within the ring
  pub gathered_fits : (place : ℕ) → IsEnd c.shared place → place ≤ (c.seats FLUSH_SEAT).gathered_to → place ≤ c.shared.flushed + RING_WORDS
  gathered_fits place end low =
      ⊎_elim
      (λ (first : place ≡ c.shared.opening). let h = sound.common.log.gathered.onward.0 in omega (arith, first, h))
      (λ (r : (r : Span) × (r ∈ c.shared.log) × (r.start + r.size ≡ place)).
      let held = range_held c.shared r.0 (c.seats r.0.seat) (sound.own r.0.seat).ranges r.1 in
      let long = (sound.common.ranges.sizes r.0 r.1).0 in
      let starts = held.starts in
      let size = held.long in
      let is = r.2 in
      let decided = sound.common.log.gathered.decided r.0.seat held.holder held.stands held.drawn (omega (arith, long, starts, is, low)) in
      let fits = decided_fits r.0.seat held.holder held.stands held.drawn decided.0 in
      omega (arith, fits, starts, size, is))
      end
