-- The first state of a world.
use Rattle.std.proofs.Common.{◌≡◌, ℕ, suc, zero, ◌+◌, ◌<◌, ◌≤◌, ⊎_elim, inl, Bool, true, false, List, [], length, get_or, IfSome, refl, sym, ap, ◌∙◌, subst, arith}
use Rattle.std.specs.Prelude.{replicate, if◌then◌else◌}
use Rattle.std.proofs.lemmas.List.{get_or_default}
use Rattle.erm_model.specs.declared.limits.TheConstants.{LAST_RUN, SESSIONS, TABLE_CELLS}
use Rattle.erm_model.specs.Rows.{rows_of}
use Rattle.erm_model.specs.RowTransaction.{Law, RespectsRows}
use Rattle.erm_machine.specs.declared.limits.TheConstants.{FLUSH_SEAT, OBJECT_LIMIT}
use Rattle.erm_machine.specs.declared.place.Place.TheVariants.{Idle, Vacant}
use Rattle.erm_machine.specs.Core.{fresh_part, is_taken}
use Rattle.erm_machine.specs.Words.{is_seat}
use Rattle.erm_sound.specs.Kept.{SoundUnder}
use Rattle.erm_core_steps.proofs.Quiet.{opening_quiet}
use Rattle.erm_core_view.specs.Views.{pin_of}
use Rattle.erm_rule.specs.declared.view.Held.{Held}
use Rattle.erm_rule.specs.declared.view.Opening.{Opening}
use Rattle.erm_rule.specs.Rule.{first_book, first_core, first_rows, first_view, sessions_from}
use Rattle.erm_rule.specs.Views.{EachOnce, IsInOrder, IsView}
use Rattle.erm_rule.proofs.Opens.{first_all, session_in}
use Rattle.erm_rule.proofs.Parts.{found_among, split_at}
use Rattle.erm_session.specs.declared.session.Session.{Session}
use Rattle.erm_session.specs.Session.{IsSession}
use Rattle.erm_table_world.specs.Flusher.{pin_in}
use Rattle.erm_table_world.specs.Stands.{AreNew, AreSessions, IsStateful, StandsAt}

once_sessions : (o : Opening) (n : ℕ) → EachOnce (sessions_from o n)
once_sessions o zero = tt
once_sessions o (suc n) = ((λ h m. λ same. let high = (session_in o n h m).1 in omega (arith, high, same)), once_sessions o n)

module _ (o : Opening) where
  flusher_is : (h : Held) → record { seat = FLUSH_SEAT; part = fresh_part Idle o.run o.tail } ≡ h → (first_core o).seats h.seat ≡ h.part
  flusher_is h same =
      subst (λ (g : Held). (first_core o).seats g.seat ≡ g.part) same
      (ap (λ (b : Bool). fresh_part (if b then Idle else Vacant) o.run o.tail) (let is : is_taken o.sessions FLUSH_SEAT ≡ true = grind arith in is))

  first_is_view : IsView (first_view o) (first_core o)
  unfolding first_view
  first_is_view q x is =
      let h = found_among q (first_view o).held x is in
      let part : (first_core o).seats h.0.seat ≡ h.0.part =
      ⊎_elim (flusher_is h.0) (λ later. sym (session_in o SESSIONS h.0 later).2) (split_at _ h.0 (sessions_from o SESSIONS) h.1)
      in
      ap (λ (n : ℕ). (first_core o).seats n) (sym h.2) ∙ part ∙ h.3

  seat_in : (q : ℕ) → 1 ≤ q → q ≤ SESSIONS → is_seat q ≡ true
  seat_in q low high = grind arith

  first_in_order : IsInOrder (first_view o)
  unfolding first_view
  first_in_order = record {
    once = ((λ h m same. let high = (session_in o SESSIONS h m).1 in omega (arith, high, same)), once_sessions o SESSIONS);
    seats = λ h m.
        ⊎_elim (λ (same : record { seat = FLUSH_SEAT; part = fresh_part Idle o.run o.tail } ≡ h). subst (λ (g : Held). is_seat g.seat ≡ true) same refl)
        (λ later. let is = session_in o SESSIONS h later in seat_in h.seat is.0 is.1) (split_at _ h (sessions_from o SESSIONS) m);
  }

  pub first_stateful : (law : Law) → SoundUnder law (first_core o) → IsStateful law (first_book o)
  first_stateful law sound = record {
    whole = first_all o;
    sound = sound;
    is_view = first_is_view;
    in_order = first_in_order;
    cuts = λ q. tt;
    limit = refl;
  }

  pub first_stands : (law : Law) → SoundUnder law (first_core o) → o.sessions ≤ SESSIONS → 13 ≤ o.tail → o.run ≤ LAST_RUN → StandsAt law o.sessions (first_book o)
  first_stands law sound few behind short = record {
    state = first_stateful law sound;
    quiet = opening_quiet o.sessions (first_rows o) o.tail o.run o.first TABLE_CELLS few (omega (arith, behind)) short;
    covered = inl (omega arith);
    starts = refl;
  }

  -- nothing is pinned
  pinned_at : (b : Bool) (n : ℕ) → IfSome (pin_of (fresh_part (if b then Idle else Vacant) o.run o.tail).place (fresh_part (if b then Idle else Vacant) o.run o.tail).current) (λ place. n ≡ place)
  pinned_at true n = tt
  pinned_at false n = tt

  pub first_unpinned : (n : ℕ) → IfSome (pin_in (first_book o)) (λ place. n ≡ place)
  first_unpinned n = pinned_at (is_taken o.sessions FLUSH_SEAT) n

  module _ (count : length o.rows.items ≡ OBJECT_LIMIT) where
    -- the rows are those of the opening, for the objects
    pub row_is : (oid : ℕ) → oid < OBJECT_LIMIT → rows_of o.rows.items oid ≡ first_rows o oid
    row_is oid known = sym (get_or_default o.rows.items oid (replicate 16 0) [] (omega (arith, known, count)))

    pub row_wide : ((oid : ℕ) → oid < length o.rows.items → length (get_or o.rows.items oid []) ≡ 16) → (oid : ℕ) → oid < OBJECT_LIMIT → length (first_rows o oid) ≡ 16
    row_wide wide oid known = ap (λ (l : List ℕ). length l) (sym (row_is oid known)) ∙ wide oid (omega (arith, known, count))

    pub first_meets : (law : Law) → RespectsRows law → law.meets (rows_of o.rows.items) → law.meets (first_rows o)
    first_meets law respects meets = (respects.meets (rows_of o.rows.items) (first_rows o) row_is).0 meets

    pub first_unreached : (law : Law) → RespectsRows law → law.meets (rows_of o.rows.items) → ((oid : ℕ) → o.first ≤ oid → law.reach (rows_of o.rows.items) oid ≡ 0)
        → (oid : ℕ) → o.first ≤ oid → law.reach (first_rows o) oid ≡ 0
    first_unreached law respects meets unreached oid above = sym (respects.reach (rows_of o.rows.items) (first_rows o) oid row_is meets) ∙ unreached oid above

  -- the sessions are those of the first state
  pub first_sessions : (ss : List Session) → length ss ≡ o.sessions → o.sessions ≤ SESSIONS → AreNew o.run ss → AreSessions ss (first_core o)
  first_sessions ss long few all k d within =
      let is = all k d within in
      let taken : is_taken o.sessions (k + 1) ≡ true = (let low : k + 1 ≤ o.sessions = omega (arith, within, long) in grind (arith, low)) in
      record {
        seat_is = is.0;
        is = subst (λ (b : Bool). IsSession (get_or ss k d) (fresh_part (if b then Idle else Vacant) o.run o.tail)) (sym taken) (is.1 o.tail);
      }
