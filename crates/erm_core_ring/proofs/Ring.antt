-- A word of the ring is stored: those of the other places that the ring has stay.
use Rattle.std.proofs.Common.{◌≡◌, ◌≢◌, ℕ, zero, suc, ◌+◌, ◌%◌, ◌<◌, ◌≤◌, ◌⊎◌, ⊎_elim, List, [], ◌∷◌, ◌++◌, length, get_or, refl, sym, ap, ◌∙◌, subst, inl, inr, arith}
use Rattle.std.proofs.lemmas.Bool.{cases_eq}
use Rattle.std.proofs.lemmas.List.{get_or_past}
use Rattle.erm_model.specs.Member.{◌∈◌}
use Rattle.erm_model.proofs.Members.{∈-push}
use Rattle.erm_machine.specs.declared.attempt.Attempt.{Attempt}
use Rattle.erm_machine.specs.declared.limits.TheConstants.{RING_WORDS}
use Rattle.erm_machine.specs.declared.part.Part.{Part}
use Rattle.erm_machine.specs.declared.version.Span.{Span}
use Rattle.erm_machine.specs.Core.{Core, Shared}
use Rattle.erm_machine.specs.Facts.{all_of}
use Rattle.erm_machine.specs.Log.{InRing, RingFits, block_word, ring_at}
use Rattle.erm_machine.specs.Sound.{Sound}
use Rattle.erm_machine.specs.Step.{with_ring}
use Rattle.erm_machine.specs.Words.{put}
use Rattle.erm_machine.proofs.Frames.{at_cases, put_other, put_same}
use Rattle.erm_core_ring.proofs.Own.{current_stands, over_stands}
use Rattle.erm_core_ring.proofs.Spans.{range_in, span_of, span_once, span_within}

-- two places that the ring has are one where their words are
one_place : (flushed a b : ℕ) → flushed ≤ a → a < flushed + RING_WORDS → flushed ≤ b → b < flushed + RING_WORDS → a % RING_WORDS ≡ b % RING_WORDS → a ≡ b
one_place flushed a b low high low' high' e = grind arith

pub ring_other : (s : Shared) (at value place : ℕ) → InRing s at → InRing s place → place ≢ at → ring_at (with_ring at value s) place ≡ ring_at s place
ring_other s at value place here there ne =
    put_other s.ring (at % RING_WORDS) value (place % RING_WORDS) (λ e. ne (one_place s.flushed place at there.0 there.1 here.0 here.1 e))

pub ring_same : (s : Shared) (at value : ℕ) → ring_at (with_ring at value s) at ≡ value
ring_same s at value = put_same s.ring (at % RING_WORDS) value

-- a block none of whose words are stored
pub bare_word : (t : Attempt) → t.header ≡ 0 → length t.block ≡ 0 → (k : ℕ) → block_word t k ≡ 0
bare_word t header none zero = header
bare_word t header none (suc k) = get_or_past t.block k 0 (omega (arith, none))

-- a word is put behind a block
pub word_put : (xs : List ℕ) (value : ℕ) → get_or (xs ++ value ∷ []) (length xs) 0 ≡ value
word_put [] value = refl
word_put (x ∷ xs) value = word_put xs value

pub word_else : (xs : List ℕ) (value k : ℕ) → k ≢ length xs → get_or (xs ++ value ∷ []) k 0 ≡ get_or xs k 0
word_else [] value zero ne = absurd (ne refl)
word_else [] value (suc k) ne = refl
word_else (x ∷ xs) value zero ne = refl
word_else (x ∷ xs) value (suc k) ne = word_else xs value k (λ e. ne (omega (arith, e)))

module _ (c : Core) (sound : Sound c) (p : ℕ) (drawn : 0 < (c.seats p).current.stamp) where
  -- the range in the log of the current transaction
  pub own_range : ◌∈◌ {X = Span} (span_of p (c.seats p).current) c.shared.log
  own_range = range_in c.shared p (c.seats p) (sound.own p).ranges (c.seats p).current (current_stands (c.seats p)) drawn

  pub own_end : (c.seats p).current.stamp + (c.seats p).current.size ≤ c.shared.tail
  own_end = (span_within c.shared.opening c.shared.tail c.shared.log sound.common.ranges.end_to_end (span_of p (c.seats p).current) own_range).1

  -- no other transaction's range meets it
  pub others_apart : (q : ℕ) (t : Attempt) → t ∈ all_of (c.seats q) → 0 < t.stamp → (q ≢ p) ⊎ (t ∈ (c.seats p).over) →
      (k j : ℕ) → k < t.size → j < (c.seats p).current.size → t.stamp + k ≢ (c.seats p).current.stamp + j
  others_apart q t m positive other k j less within same =
      let x = c.seats p in
      let one = span_once c.shared.opening c.shared.tail c.shared.log sound.common.ranges.end_to_end (span_of q t) (span_of p x.current)
      (range_in c.shared q (c.seats q) (sound.own q).ranges t m positive) own_range (omega (arith, less, within, same)) (omega (arith, less, within, same))
      in
      ⊎_elim (λ (ne : q ≢ p). ne (ap (λ (r : Span). r.seat) one))
      (λ (over : t ∈ x.over). let e : t.stamp ≡ x.current.stamp = ap (λ (r : Span). r.start) one in let h = (sound.own p).decided.earlier t over drawn in omega (arith, e, h)) other

  module _ (cleared j value : ℕ) (y : Part) (old : RingFits c.shared c.seats cleared) (within : j < (c.seats p).current.size)
      (in_ring : InRing c.shared ((c.seats p).current.stamp + j)) (behind : cleared ≤ (c.seats p).current.stamp + j)
      (over : y.over ≡ (c.seats p).over) (stamp : y.current.stamp ≡ (c.seats p).current.stamp) (size : y.current.size ≡ (c.seats p).current.size)
      (here : block_word y.current j ≡ value) (there : (k : ℕ) → k ≢ j → block_word y.current k ≡ block_word (c.seats p).current k) where
    -- the own block's words
    own_word : (k : ℕ) → k < y.current.size → InRing c.shared (y.current.stamp + k) → cleared ≤ y.current.stamp + k
        → ring_at (with_ring ((c.seats p).current.stamp + j) value c.shared) (y.current.stamp + k) ≡ block_word y.current k
    own_word k less is above =
        let x = c.seats p in
        let at = x.current.stamp + j in
        ⊎_elim
        (λ (e : k ≡ j).
        let place : y.current.stamp + k ≡ at = omega (arith, e, stamp) in
        ap (ring_at (with_ring at value c.shared)) place ∙ ring_same c.shared at value ∙ sym here ∙ ap (block_word y.current) (sym e))
        (λ (ne : k ≡ j → ⊥).
        let place : y.current.stamp + k ≡ x.current.stamp + k = omega (arith, stamp) in
        ap (ring_at (with_ring at value c.shared)) place
        ∙ ring_other c.shared at value (x.current.stamp + k) in_ring (subst (InRing c.shared) place is) (λ e. ne (omega (arith, e)))
        ∙ old.blocks p x.current (current_stands x) drawn k (omega (arith, less, size)) (subst (InRing c.shared) place is) (omega (arith, above, place))
        ∙ sym (there k ne))
        (cases_eq k j)

    -- those of another
    other_word : (q : ℕ) (u : Attempt) → u ∈ all_of (c.seats q) → 0 < u.stamp → (q ≢ p) ⊎ (u ∈ (c.seats p).over) → (k : ℕ) → k < u.size → InRing c.shared (u.stamp + k)
        → cleared ≤ u.stamp + k → ring_at (with_ring ((c.seats p).current.stamp + j) value c.shared) (u.stamp + k) ≡ block_word u k
    other_word q u m positive other k less is above =
        ring_other c.shared ((c.seats p).current.stamp + j) value (u.stamp + k) in_ring is (others_apart q u m positive other k j less within) ∙ old.blocks q u m positive k less is above

    -- a word of the own block is stored at its place
    pub ring_stored : RingFits (with_ring ((c.seats p).current.stamp + j) value c.shared) (put c.seats p y) cleared
    ring_stored = record {
      beyond = λ place is above.
          ring_other c.shared ((c.seats p).current.stamp + j) value place in_ring is (λ e. let h = own_end in omega (arith, e, above, within, h)) ∙ old.beyond place is above;
      gone = λ place is below. ring_other c.shared ((c.seats p).current.stamp + j) value place in_ring is (λ e. omega (arith, e, below, behind)) ∙ old.gone place is below;
      blocks = λ q u m positive k less is above.
          at_cases (λ (z : Part). u ∈ all_of z → ring_at (with_ring ((c.seats p).current.stamp + j) value c.shared) (u.stamp + k) ≡ block_word u k) c.seats p y q
          (λ self n.
          ⊎_elim
          (λ (earlier : u ∈ y.over).
          let was : u ∈ (c.seats p).over = subst (λ (ts : List Attempt). u ∈ ts) over earlier in
          other_word p u (over_stands (c.seats p) u was) positive (inr was) k less is above)
          (λ (now : u ≡ y.current).
          subst (λ (v : Attempt). k < v.size → InRing c.shared (v.stamp + k) → cleared ≤ v.stamp + k
          → ring_at (with_ring ((c.seats p).current.stamp + j) value c.shared) (v.stamp + k) ≡ block_word v k) (sym now) (own_word k) less is above)
          (∈-push y.over y.current u n))
          (λ ne n. other_word q u n positive (inl ne) k less is above)
          m;
    }
