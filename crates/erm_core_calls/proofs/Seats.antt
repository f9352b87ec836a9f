-- Which seats have words: those that own an entry, and those whose reader bits stand. How many words a range has.
use Rattle.std.proofs.Common.{◌≡◌, ℕ, zero, suc, ◌<◌, ◌≤◌, ⊎_elim, Bool, true, false, cond, eqb, leb, ltb, List, [], ◌∷◌, ◌++◌, filter, length, Some, refl, sym, ap, ◌∙◌, subst, arith}
use Rattle.std.specs.Int.{bit_at}
use Rattle.std.specs.List.{slice_get}
use Rattle.std.proofs.lemmas.Bool.{and_parts, or_cases, eqb-true, leb-true, lt-ltb, true_from_ne_false}
use Rattle.erm_model.specs.Member.{◌∈◌}
use Rattle.erm_model.proofs.Members.{∈-behind}
use Rattle.erm_machine.specs.declared.limits.TheConstants.{ANNOUNCERS, SESSIONS, FLUSH_SEAT, OBJECT_LIMIT, LEAST_BLOCK, GREATEST_BLOCK}
use Rattle.erm_machine.specs.declared.attempt.Attempt.{Attempt}
use Rattle.erm_machine.specs.declared.place.Place.{Place}
use Rattle.erm_machine.specs.declared.place.Place.TheVariants.{Vacant, Sealing}
use Rattle.erm_machine.specs.declared.version.Span.{Span}
use Rattle.erm_machine.specs.Core.{Core, blank, version_at}
use Rattle.erm_machine.specs.Facts.{IsCurrent}
use Rattle.erm_machine.specs.Lives.{IsPin}
use Rattle.erm_machine.specs.Ranges.{range_at, ranges_of}
use Rattle.erm_machine.specs.Sound.{Sound}
use Rattle.erm_machine.specs.Words.{is_seat, is_session, is_flusher, owner_of}
use Rattle.erm_machine.proofs.Holders.{holds_at}

-- a seat that has words is one of the first
pub seat_low : (seat : ℕ) → is_seat seat ≡ true → seat < ANNOUNCERS
seat_low seat e = ⊎_elim
    (λ (session : is_session seat ≡ true). let h : seat ≤ SESSIONS = leb-true seat SESSIONS (and_parts (ltb 0 seat) (leb seat SESSIONS) session).1 in omega (arith, h))
    (λ (flusher : is_flusher seat ≡ true). let h = eqb-true seat FLUSH_SEAT flusher in omega (arith, h))
    (or_cases (is_session seat) (is_flusher seat) e)

-- what a filter finds in a list stands in it
behind : {X : Type 0} (x z : X) (kept xs : List X) → (z ∈ kept → z ∈ xs) → (k : ℕ) → slice_get (x ∷ kept) k ≡ Some z → z ∈ (x ∷ xs)
behind x z kept xs f zero e = (zero, e)
behind x z kept xs f (suc k) e = ∈-behind x xs z (f (k, e))

kept_member : {X : Type 0} (b : Bool) (x z : X) (kept xs : List X) → (z ∈ kept → z ∈ xs) → z ∈ cond b (x ∷ kept) kept → z ∈ (x ∷ xs)
kept_member true x z kept xs f h = behind x z kept xs f h.0 h.1
kept_member false x z kept xs f h = ∈-behind x xs z (f h)

filter_member : {X : Type 0} (f : X → Bool) (xs : List X) (z : X) → z ∈ filter f xs → z ∈ xs
filter_member f [] z m = m
filter_member f (x ∷ xs) z m = kept_member (f x) x z (filter f xs) xs (filter_member f xs z) m

-- the last one of a list
pub last_member : {X : Type 0} (xs : List X) (z : X) → z ∈ (xs ++ z ∷ [])
last_member [] z = (zero, refl)
last_member (x ∷ xs) z = ∈-behind x (xs ++ z ∷ []) z (last_member xs z)

module _ (c : Core) (sound : Sound c) where
  -- a seat whose current transaction isn't blank has words
  pub busy_seat : (q : ℕ) → ((c.seats q).current ≡ blank → ⊥) → is_seat q ≡ true
  busy_seat q busy = true_from_ne_false (is_seat q) (λ none.
      let at : (c.seats q).place ≡ Vacant = (sound.own q).ranges.seat_of none in
      busy (subst (λ (pl : Place). IsCurrent pl (c.seats q).current) at (sound.own q).ranges.current))

  -- the owner of an entry
  pub owner_seat : (oid : ℕ) → oid < OBJECT_LIMIT → 0 < owner_of (c.shared.objects oid).entry → is_seat (owner_of (c.shared.objects oid).entry) ≡ true
  owner_seat oid known some =
      let q = owner_of (c.shared.objects oid).entry in
      let at = holds_at c q oid ((sound.own q).claims.owned oid some known refl) in
      busy_seat q (λ e. let none = ap (λ (t : Attempt). length t.writes) e in let within = at.within in omega (arith, none, within))

  -- a reader of a version
  pub reader_seat : (q oid place : ℕ) → oid < OBJECT_LIMIT → place < length (c.shared.objects oid).versions →
      bit_at (version_at (c.shared.objects oid) place).words.readers q ≡ 1 → is_seat q ≡ true
  reader_seat q oid place known within one =
      let at = (sound.own q).readers.only oid place known within one in
      let low = at.2 in
      busy_seat q (λ e. let none = ap (λ (t : Attempt). length t.reads) e in omega (arith, none, low))

  -- a range that is drawn has as many words as a block may have
  pub range_size : (p : ℕ) → 0 < (c.seats p).current.stamp → (LEAST_BLOCK ≤ (c.seats p).current.size) × ((c.seats p).current.size ≤ GREATEST_BLOCK)
  range_size p drawn =
      let t = (c.seats p).current in
      let range : Span = record { seat = p; start = t.stamp; size = t.size } in
      let some : range_at p t.stamp t.size ≡ range ∷ [] = ap (λ b. cond b (range ∷ []) []) (lt-ltb 0 t.stamp drawn) in
      let all : filter (λ r. eqb r.seat p) c.shared.log ≡ ranges_of p (c.seats p).over ++ range ∷ [] = (sound.own p).ranges.ranges ∙ ap (λ (rs : List Span). ranges_of p (c.seats p).over ++ rs) some in
      sound.common.ranges.sizes range (filter_member (λ (r : Span). eqb r.seat p) c.shared.log range
      (subst (λ (rs : List Span). range ∈ rs) (sym all) (last_member (ranges_of p (c.seats p).over) range)))

  -- a seat that is to draw its range is a session's
  pub sealing_session : (p tail : ℕ) → (c.seats p).place ≡ Sealing tail → is_session p ≡ true
  sealing_session p tail is =
      ⊎_elim
      (λ (session : is_session p ≡ true). session)
      (λ (flusher : is_flusher p ≡ true). absurd (subst IsPin is ((sound.own p).lives.pinned flusher)))
      (or_cases (is_session p) (is_flusher p) (true_from_ne_false (is_seat p) (λ none. let at = sym ((sound.own p).ranges.seat_of none) ∙ is in absurd (cc))))
