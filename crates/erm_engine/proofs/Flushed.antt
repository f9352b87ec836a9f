-- All of the log is flushed, where no session is sealed and a turn behind all joins flushed nothing.
use Rattle.std.proofs.Common.{◌≡◌, ◌≢◌, ℕ, ◌<◌, ◌≤◌, ◌⊎◌, ⊎_elim, List, [], length, refl, sym, ap, ◌∙◌, subst, arith}
use Rattle.std.proofs.lemmas.Bool.{cases_eq, cases_lt, ne_eqb}
use Rattle.erm_model.specs.declared.limits.TheConstants.{SESSIONS}
use Rattle.erm_model.specs.declared.outcome.Phase.TheVariants as phase
use Rattle.erm_model.specs.Member.{◌∈◌}
use Rattle.erm_model.specs.RowTransaction.{Law}
use Rattle.erm_model.proofs.Members.{none_in_nil, ∈-push}
use Rattle.erm_machine.specs.declared.attempt.Attempt.{Attempt}
use Rattle.erm_machine.specs.declared.attempt.Decision.TheVariants.{Undecided}
use Rattle.erm_machine.specs.declared.limits.TheConstants.{FLUSH_SEAT}
use Rattle.erm_machine.specs.declared.part.Part.{Part}
use Rattle.erm_machine.specs.declared.place.Place.{Place}
use Rattle.erm_machine.specs.declared.place.Place.TheVariants.{Active, Announced, Begun, Idle, Sealed, Vacant}
use Rattle.erm_machine.specs.declared.task.Task.{Task}
use Rattle.erm_machine.specs.Core.{Core}
use Rattle.erm_machine.specs.Facts.{IsCurrent, all_of}
use Rattle.erm_machine.specs.Lives.{IsPin}
use Rattle.erm_core_flush.specs.Turns.{IsOpenAt}
use Rattle.erm_core_shown.specs.Shown.{HasOnly, shown_stand}
use Rattle.erm_core_shown.proofs.Only.{none_after, only_sessions}
use Rattle.erm_core_view.specs.Views.{IsBetween}
use Rattle.erm_gathered.proofs.Lasting.{BlocksStay}
use Rattle.erm_own_view.proofs.Along.{none_of, was_itself}
use Rattle.erm_own_view.proofs.Own.{session_in}
use Rattle.erm_ring.specs.Turns.{Began}
use Rattle.erm_rule.specs.declared.rule.Table.{Table}
use Rattle.erm_rule.specs.declared.view.Book.{Book}
use Rattle.erm_rule.specs.declared.view.Opening.{Opening}
use Rattle.erm_rule.specs.Books.{IsBookOf, WasMet}
use Rattle.erm_rule.specs.Views.{EachOnce}
use Rattle.erm_shared_session.specs.declared.session.TableSession.{TableSession}
use Rattle.erm_shared_session.specs.Stands.{seat_of}
use Rattle.erm_world.specs.World.{phase_at, phase_of}
use Rattle.erm_engine.specs.Closed.{AreJoined, HaveClosed}
use Rattle.erm_engine.specs.Ended.{world_of}
use Rattle.erm_engine.proofs.Ranges.{begins_there, ends_no_later, rises_later, sound_earlier, stays_decided}
use Rattle.erm_engine.proofs.Resting.{none_over}
use Rattle.erm_engine.proofs.Seats.{idle_part, rests, session_at, session_part}

abbrev F : ℕ
F = FLUSH_SEAT

-- no session waits for its commit to be decided
abbrev pub NoneSealed : Core → Type 0
NoneSealed core = (q : ℕ) → 0 < q → q ≤ SESSIONS → phase_at (world_of core) q ≡ phase.Sealed → ⊥

-- STAMPS. A seat between two calls that isn't sealed has no range in progress, nor has a pin, nor a vacant seat.
between_none : (pl : Place) (u : Task) (t : Attempt) → IsBetween pl u → (phase_of (shown_stand pl u t) ≡ phase.Sealed → ⊥) → IsCurrent pl t → t.stamp ≡ 0
between_none Idle u t between unsealed current = ap (λ (a : Attempt). a.stamp) current
between_none (Active tail) u t between unsealed current = current.stamp
between_none (Sealed tail stamp) u t between unsealed current = absurd (unsealed refl)
between_none _ u t between unsealed current = absurd between

pin_none : (pl : Place) (t : Attempt) → IsPin pl → IsCurrent pl t → t.stamp ≡ 0
pin_none Vacant t pin current = ap (λ (a : Attempt). a.stamp) current
pin_none Idle t pin current = ap (λ (a : Attempt). a.stamp) current
pin_none (Begun tail) t pin current = ap (λ (a : Attempt). a.stamp) current
pin_none (Announced tail) t pin current = ap (λ (a : Attempt). a.stamp) current
pin_none (Active tail) t pin current = current.stamp
pin_none _ t pin current = absurd pin

vacant_none : (pl : Place) (t : Attempt) → pl ≡ Vacant → IsCurrent pl t → t.stamp ≡ 0
vacant_none Vacant t at current = ap (λ (a : Attempt). a.stamp) current
vacant_none _ t at current = absurd (cc)

-- a seat is a session's, one of so many or behind them, or another
by_seat : (many : ℕ) (X : Type 0) (q : ℕ) → (0 < q → q ≤ many → X) → (0 < q → many < q → q ≤ SESSIONS → X) → ((0 < q → q ≤ SESSIONS → ⊥) → X) → X
by_seat many X q among above other =
    ⊎_elim (λ (none : q ≡ 0). other (λ some within. omega (arith, none, some)))
    (λ (some : q ≡ 0 → ⊥).
    ⊎_elim
    (λ (beyond : SESSIONS < q). other (λ _ within. omega (arith, beyond, within)))
    (λ (within : q ≤ SESSIONS). ⊎_elim (λ (behind : many < q). above (omega (arith, some)) behind within) (λ (front : q ≤ many). among (omega (arith, some)) front) (cases_lt many q))
    (cases_lt SESSIONS q))
    (cases_eq q 0)

module _ {L : Type 0} (law : Law) (t : Table L) (ss : List (TableSession L)) where
  -- A STATE of a book that has taken in all seats
  module _ (b : Book) (joined : AreJoined law t ss b) (once : EachOnce b.view.held) (c : Core) (is : IsBookOf b c) where
    only : HasOnly SESSIONS c
    only = only_sessions c is.sound (none_of none_after b c (λ q plain. refl) (was_itself b c is))

    other_over : (q : ℕ) → (0 < q → q ≤ SESSIONS → ⊥) → (c.seats q).over ≡ []
    other_over q out =
        ⊎_elim (λ (flusher : q ≡ F). subst (λ (n : ℕ). (c.seats n).over ≡ []) (sym flusher) (none_over (c.seats F).over ((is.sound.own F).lives.pins refl)))
        (λ (other : q ≡ F → ⊥). only.unused q out (ne_eqb q F other)) (cases_eq q F)

    other_none : (q : ℕ) → (0 < q → q ≤ SESSIONS → ⊥) → (c.seats q).current.stamp ≡ 0
    other_none q out =
        ⊎_elim
        (λ (flusher : q ≡ F).
        let own = is.sound.own F in
        subst (λ (n : ℕ). (c.seats n).current.stamp ≡ 0) (sym flusher) (pin_none (c.seats F).place (c.seats F).current (own.lives.pinned refl) own.ranges.current))
        (λ (other : q ≡ F → ⊥). vacant_none (c.seats q).place (c.seats q).current (only.vacant q out (ne_eqb q F other)) (is.sound.own q).ranges.current) (cases_eq q F)

    idle_over : (q : ℕ) → length ss < q → q ≤ SESSIONS → ((c.seats q).over ≡ []) × ((c.seats q).current.stamp ≡ 0)
    idle_over q above within =
        let i = idle_part law t ss b joined once c is.is_view q above within in
        (ap (λ (x : Part). x.over) i.2, ap (λ (x : Part). x.current.stamp) i.2)

    -- a range of such a seat
    none_drawn : (q : ℕ) (a : Attempt) → (c.seats q).over ≡ [] → (c.seats q).current.stamp ≡ 0 → a ∈ all_of (c.seats q) → 0 < a.stamp → ⊥
    none_drawn q a none blank there drawn =
        ⊎_elim (λ (old : a ∈ (c.seats q).over). none_in_nil a (subst (λ (ts : List Attempt). a ∈ ts) none old))
        (λ (now : a ≡ (c.seats q).current). let at = ap (λ (x : Attempt). x.stamp) now in omega (arith, at, blank, drawn)) (∈-push (c.seats q).over (c.seats q).current a there)

  -- TWO STATES, of such books
  module _ (b : Book) (joined : AreJoined law t ss b) (once : EachOnce b.view.held) (c : Core) (is : IsBookOf b c) (e : Book) (too : AreJoined law t ss e) (as_once : EachOnce e.view.held) (d : Core)
      (is_too : IsBookOf e d)
    where
      same_part : (q : ℕ) → 0 < q → q ≤ length ss → c.seats q ≡ d.seats q
      same_part q some among =
          let s = session_at law t ss b joined once c is.is_view q some among in
          s.4 ∙ sym (session_part law t ss e too as_once d is_too.is_view s.0 s.1 s.2) ∙ ap (λ (n : ℕ). d.seats n) s.3

      -- they have the same ranges
      same_ranges : (q : ℕ) (a : Attempt) → a ∈ all_of (c.seats q) → 0 < a.stamp → a ∈ all_of (d.seats q)
      same_ranges q a there drawn =
          by_seat (length ss) (a ∈ all_of (d.seats q)) q (λ some among. subst (λ (x : Part). a ∈ all_of x) (same_part q some among) there)
          (λ some above within. let i = idle_over b joined once c is q above within in absurd (none_drawn b joined once c is q a i.0 i.1 there drawn))
          (λ out. absurd (none_drawn b joined once c is q a (other_over b joined once c is q out) (other_none b joined once c is q out) there drawn))

      -- all are decided in the first, where none is sealed in the second
      all_decided : NoneSealed d → (q : ℕ) (a : Attempt) → a ∈ all_of (c.seats q) → 0 < a.stamp → a.decision ≢ Undecided
      all_decided unsealed q a there drawn =
          ⊎_elim (λ (old : a ∈ (c.seats q).over). (is.sound.own q).ranges.decided a old)
          (λ (now : a ≡ (c.seats q).current). absurd (let at = ap (λ (x : Attempt). x.stamp) now in let none = blank in omega (arith, at, none, drawn))) (∈-push (c.seats q).over (c.seats q).current a there)
        where
          blank : (c.seats q).current.stamp ≡ 0
          blank =
              by_seat (length ss) ((c.seats q).current.stamp ≡ 0) q
              (λ some among.
              let x = d.seats q in
              let within : q ≤ SESSIONS = few q some among in
              let none = between_none x.place x.task x.current (rests law t ss e too as_once d is_too.is_view q some within).between (unsealed q some within) (is_too.sound.own q).ranges.current in
              ap (λ (y : Part). y.current.stamp) (same_part q some among) ∙ none)
              (λ some above within. (idle_over b joined once c is q above within).1) (other_none b joined once c is q)
            where
              few : (n : ℕ) → 0 < n → n ≤ length ss → n ≤ SESSIONS
              few n some among =
                  let s = session_at law t ss b joined once c is.is_view n some among in
                  let low = (session_in (seat_of s.1) (joined.done s.0 s.1 s.2).0.may.session).1 in
                  let at = s.3 in
                  omega (arith, low, at)

-- THE END. All is flushed: a turn behind all joins had met the log's end at the place flushed, or a range there that wasn't decided, and then the
-- log ended behind it.
pub all_flushed : BlocksStay → {L : Type 0} (law : Law) (t : Table L) (o : Opening) (ss : List (TableSession L)) (b e : Book) (tail : ℕ) (closed : HaveClosed law o ss e tail)
    → AreJoined law t ss b → AreJoined law t ss e → EachOnce b.view.held → NoneSealed closed.ended.core → (at end : ℕ) → Began b end at closed.ended.core
    → (end ≡ at) ⊎ ((at < end) × WasMet b (λ s. IsOpenAt s.seats at) closed.ended.core) → closed.ended.core.shared.flushed ≡ closed.ended.core.shared.tail
all_flushed stay {L} law t o ss b e tail closed joined too once unsealed at end began stops =
    let core = closed.ended.core in
    let c = began.state in
    let up = rises_later c core began.later in
    let no_later = ends_no_later c core began.is.sound closed.is.sound up.opening (same_ranges law t ss e too closed.once core closed.is b joined once c began.is) in
    let flushed = began.flushed_is in
    let ends = began.tail_is in
    let further = up.flushed in
    let within = closed.is.sound.common.log.gathered.onward in
    let mid = within.1 in
    let last = within.2 in
    ⊎_elim (λ (empty : end ≡ at). omega (arith, empty, no_later, flushed, ends, further, mid, last))
    (λ (unfilled : (at < end) × WasMet b (λ s. IsOpenAt s.seats at) core).
    let less = unfilled.0 in
    let w = unfilled.1 in
    let a = begins_there c at began.is.sound flushed (omega (arith, less, ends)) in
    let there = same_ranges law t ss b joined once c began.is b joined once w.start w.is a.0 a.1 a.2 a.3 in
    let decided = all_decided law t ss b joined once w.start w.is e too closed.once core closed.is unsealed a.0 a.1 there a.3 in
    absurd
    (stays_decided stay w.start w.state a.1 at (record { seat = a.0; stands = there; drawn = a.3; decided = decided }) a.4 a.5 w.since (sound_earlier w.state core w.later closed.is.sound)
    w.met))
    stops
