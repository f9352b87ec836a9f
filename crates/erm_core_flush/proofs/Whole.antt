-- What is gathered is whole: decided ranges end to end, whose words are the log's.
use Rattle.std.proofs.Common.{◌≡◌, ◌≢◌, ℕ, ◌+◌, ◌-◌, ◌<◌, ◌≤◌, ⊎_elim, List, [], ◌∷◌, length, get_or, refl, sym, ap, ◌∙◌, subst, inl, inr, arith, length-append}
use Rattle.std.proofs.lemmas.Bool.{cases_eq, cases_lt}
use Rattle.std.proofs.lemmas.List.{ext_get_or, get_or_append_left, get_or-append_right}
use Rattle.erm_model.specs.Member.{◌∈◌}
use Rattle.erm_model.proofs.Members.{none_in_nil, ∈-behind, ∈-push}
use Rattle.erm_machine.specs.declared.attempt.Attempt.{Attempt}
use Rattle.erm_machine.specs.declared.attempt.Decision.TheVariants.{Undecided}
use Rattle.erm_machine.specs.declared.limits.TheConstants.{FLUSH_SEAT}
use Rattle.erm_machine.specs.declared.place.Place.{Place}
use Rattle.erm_machine.specs.declared.place.Place.TheVariants.{Vacant, Idle, Begun, Announced, Active, Sealing, Drawn, Sealed, Decided, Leaving}
use Rattle.erm_machine.specs.declared.task.Task.{Task}
use Rattle.erm_machine.specs.declared.version.Span.{Span}
use Rattle.erm_machine.specs.Bounds.{words_stored}
use Rattle.erm_machine.specs.Core.{Core}
use Rattle.erm_machine.specs.Facts.{IsCurrent, all_of}
use Rattle.erm_machine.specs.Log.{IsEnd}
use Rattle.erm_machine.specs.Ranges.{EndToEnd}
use Rattle.erm_machine.specs.Sound.{Sound}
use Rattle.erm_machine.proofs.Listed.{∈-cons, ∈-head}
use Rattle.erm_core_ring.proofs.Spans.{Ends, range_held, span_within}
use Rattle.erm_core_flush.specs.Turns.{Blocks, IsDecidedRange, LogWord, words_of}
use Rattle.erm_core_flush.proofs.Stays.{one_word}

-- the ranges from a place on where one ends
record Suffix (place to : ℕ) (rs : List Span) : Type 0 where
  rest : List Span
  lie : EndToEnd place rest to
  among : (r : Span) → r ∈ rest → r ∈ rs
  keeps : (r : Span) → r ∈ rs → place < r.start + r.size → r ∈ rest

-- one more range in front
ends_later : (from to : ℕ) (q : Span) (rs : List Span) → EndToEnd from (q ∷ rs) to → (place : ℕ) → (r : Span) → r ∈ (q ∷ rs) → r.start + r.size ≡ place → Ends (from + q.size) rs place
ends_later from to q rs e place r m is =
    ⊎_elim
    (λ (same : q ≡ r). inl (sym is ∙ sym (ap (λ (u : Span). u.start + u.size) same) ∙ ap (λ n. n + q.size) e.0))
    (λ (there : r ∈ rs). inr (r, there, is))
    (∈-cons r q rs m)

ends_above : (from to : ℕ) (rs : List Span) → EndToEnd from rs to → (place : ℕ) → Ends from rs place → from ≤ place
ends_above from to rs e place end =
    ⊎_elim (λ (first : place ≡ from). omega (arith, first))
    (λ (r : (r : Span) × (r ∈ rs) × (r.start + r.size ≡ place)). let h = (span_within from to rs e r.0 r.1).0 in let is = r.2 in omega (arith, h, is)) end

suffix_from : (from to : ℕ) (rs : List Span) → EndToEnd from rs to → (place : ℕ) → Ends from rs place → Suffix place to rs
suffix_from from to [] e place end =
    ⊎_elim
    (λ (first : place ≡ from). record { rest = []; lie = first ∙ e; among = λ r m. m; keeps = λ r m less. m })
    (λ (r : (r : Span) × (r ∈ []) × (r.start + r.size ≡ place)). absurd (none_in_nil r.0 r.1)) end
suffix_from from to (q ∷ rs) e place end =
    ⊎_elim
    (λ (first : place ≡ from). record { rest = q ∷ rs; lie = subst (λ n. EndToEnd n (q ∷ rs) to) (sym first) e; among = λ r m. m; keeps = λ r m less. m })
    (λ (r : (r : Span) × (r ∈ (q ∷ rs)) × (r.start + r.size ≡ place)).
    let later = ends_later from to q rs e place r.0 r.1 r.2 in
    let s = suffix_from (from + q.size) to rs e.1 place later in
    let above = ends_above (from + q.size) to rs e.1 place later in
    record {
      rest = s.rest;
      lie = s.lie;
      among = λ u m. ∈-behind q rs u (s.among u m);
      keeps = λ u m less.
          ⊎_elim
          (λ (same : q ≡ u). absurd (let f = ap (λ (v : Span). v.start + v.size) same in let at = e.0 in omega (arith, f, at, above, less)))
          (λ (there : u ∈ rs). s.keeps u there less)
          (∈-cons u q rs m);
    })
    end

-- as many words as its range has
long_at : (pl : Place) (t : Attempt) (u : Task) → IsCurrent pl t → 0 < t.stamp → t.decision ≢ Undecided → words_stored pl u t.size ≡ t.size - 1
long_at Vacant t u cur drawn decided = absurd (let e = ap (λ (v : Attempt). v.stamp) cur in omega (arith, e, drawn))
long_at Idle t u cur drawn decided = absurd (let e = ap (λ (v : Attempt). v.stamp) cur in omega (arith, e, drawn))
long_at (Begun tail) t u cur drawn decided = absurd (let e = ap (λ (v : Attempt). v.stamp) cur in omega (arith, e, drawn))
long_at (Announced tail) t u cur drawn decided = absurd (let e = ap (λ (v : Attempt). v.stamp) cur in omega (arith, e, drawn))
long_at (Active tail) t u cur drawn decided = absurd (decided cur.decision)
long_at (Sealing tail) t u cur drawn decided = absurd (decided cur.decision)
long_at (Drawn tail stamp) t u cur drawn decided = absurd (decided cur.decision)
long_at (Sealed tail stamp) t u cur drawn decided = absurd (decided cur.decision)
long_at (Decided tail stamp) t u cur drawn decided = refl
long_at (Leaving stamp) t u cur drawn decided = refl

-- decided ranges from one place to another, with their words
record Gathers (c : Core) (from to : ℕ) : Type 0 where
  blocks : List Attempt
  lie : Blocks c.seats from blocks to
  long : from + length (words_of blocks) ≡ to
  at : (k : ℕ) → k < length (words_of blocks) → LogWord c.seats (from + k) (get_or (words_of blocks) k 0)

module _ (c : Core) (sound : Sound c) where
  block_long : (q : ℕ) (t : Attempt) → t ∈ all_of (c.seats q) → 0 < t.stamp → 0 < t.size → t.decision ≢ Undecided → length (t.header ∷ t.block) ≡ t.size
  block_long q t m drawn some decided =
      ⊎_elim
      (λ (over : t ∈ (c.seats q).over). let h = (sound.own q).bounds.blocks t over drawn in omega (arith, h))
      (λ (now : t ≡ (c.seats q).current).
      let x = c.seats q in
      let stored = (sound.own q).bounds.stored in
      let long = long_at x.place x.current x.task (sound.own q).ranges.current (subst (λ (v : Attempt). 0 < v.stamp) now drawn) (λ e. decided (ap (λ (v : Attempt). v.decision) now ∙ e)) in
      let size = ap (λ (v : Attempt). v.size) now in
      let block : length t.block ≡ length x.current.block = ap (λ (v : Attempt). length v.block) now in
      omega (arith, stored, long, size, block, some))
      (∈-push (c.seats q).over (c.seats q).current t m)

  nothing : (from to : ℕ) → to ≡ from → Gathers c from to
  nothing from to same = record { blocks = []; lie = sym same; long = omega (arith, same); at = λ k none. absurd (omega (arith, none)) }

  one_more : (from to : ℕ) (t : Attempt) (is : IsDecidedRange c.seats t) → t.stamp ≡ from → 0 < t.size → Gathers c (from + t.size) to → Gathers c from to
  one_more from to t is starts some rest =
      let n = block_long is.seat t is.stands is.drawn some is.decided in
      let long = rest.long in
      let all : length (words_of (t ∷ rest.blocks)) ≡ length (t.header ∷ t.block) + length (words_of rest.blocks) = length-append (t.header ∷ t.block) (words_of rest.blocks) in
      record {
        blocks = t ∷ rest.blocks;
        lie = (is, starts, rest.lie);
        long = omega (arith, all, n, long);
        at = λ k less.
            ⊎_elim
            (λ (here : k < t.size).
            subst (LogWord c.seats (from + k)) (sym (get_or_append_left (t.header ∷ t.block) (words_of rest.blocks) 0 k (omega (arith, here, n))))
            (record { holder = t; decided = is; at = k; within = here; place_is = omega (arith, starts); word_is = refl }))
            (λ (behind : t.size ≤ k).
            let place : from + t.size + (k - t.size) ≡ from + k = omega (arith, behind) in
            subst (LogWord c.seats (from + k)) (sym (get_or-append_right (t.header ∷ t.block) (words_of rest.blocks) t.size k 0 n behind))
            (subst (λ p. LogWord c.seats p (get_or (words_of rest.blocks) (k - t.size) 0)) place (rest.at (k - t.size) (omega (arith, less, all, n, behind)))))
            (cases_lt k t.size);
      }

  gathers_from : (rest : List Span) (from to tail : ℕ) → EndToEnd from rest tail → ((r : Span) → r ∈ rest → r ∈ c.shared.log) → Ends from rest to →
      to ≤ (c.seats FLUSH_SEAT).gathered_to → Gathers c from to
  gathers_from [] from to tail e among end low =
      ⊎_elim (λ (same : to ≡ from). nothing from to same) (λ (r : (r : Span) × (r ∈ []) × (r.start + r.size ≡ to)). absurd (none_in_nil r.0 r.1)) end
  gathers_from (q ∷ qs) from to tail e among end low =
      ⊎_elim
      (λ (same : to ≡ from). nothing from to same)
      (λ (r : (r : Span) × (r ∈ (q ∷ qs)) × (r.start + r.size ≡ to)).
      let later = ends_later from tail q qs e to r.0 r.1 r.2 in
      let above = ends_above (from + q.size) tail qs e.1 to later in
      let there = among q (∈-head q qs) in
      let held = range_held c.shared q (c.seats q.seat) (sound.own q.seat).ranges there in
      let t = held.holder in
      let big = (sound.common.ranges.sizes q there).0 in
      let starts : t.stamp ≡ from = held.starts ∙ e.0 in
      let size = held.long in
      let decided = sound.common.log.gathered.decided q.seat t held.stands held.drawn (omega (arith, starts, above, big, low)) in
      one_more from to t (record { seat = q.seat; stands = held.stands; drawn = held.drawn; decided = decided.0 }) starts (omega (arith, size, big))
      (subst (λ n. Gathers c (from + n) to) (sym size) (gathers_from qs (from + q.size) to tail e.1 (λ u m. among u (∈-behind q qs u m)) later low)))
      end

  pub whole : (from to : ℕ) → IsEnd c.shared from → IsEnd c.shared to → from ≤ to → to ≤ (c.seats FLUSH_SEAT).gathered_to →
      (ts : List Attempt) × Blocks c.seats from ts to × ((words : List ℕ) → from + length words ≡ to → ((k : ℕ) → k < length words → LogWord c.seats (from + k) (get_or words k 0)) → words ≡ words_of ts)
  whole from to begin end onward low =
      let s = suffix_from c.shared.opening c.shared.tail c.shared.log sound.common.ranges.end_to_end from begin in
      let ends : Ends from s.rest to =
      ⊎_elim
      (λ (same : to ≡ from). inl same)
      (λ (ne : to ≡ from → ⊥).
      ⊎_elim
      (λ (first : to ≡ c.shared.opening).
      absurd (let a = ends_above c.shared.opening c.shared.tail c.shared.log sound.common.ranges.end_to_end from begin in ne (omega (arith, a, first, onward))))
      (λ (r : (r : Span) × (r ∈ c.shared.log) × (r.start + r.size ≡ to)). inr (r.0, s.keeps r.0 r.1 (let is = r.2 in omega (arith, is, onward, ne)), r.2))
      end)
      (cases_eq to from)
      in
      let g = gathers_from s.rest from to c.shared.tail s.lie s.among ends low in (
        g.blocks,
        g.lie,
        λ words long at.
            let long_too = g.long in
            ext_get_or 0 words (words_of g.blocks) (omega (arith, long, long_too)) (λ k less.
            one_word c (from + k) (get_or words k 0) (get_or (words_of g.blocks) k 0) sound (at k less) (g.at k (omega (arith, less, long, long_too)))),
      )
