-- The savepoints of the world's sessions after a call of one of them.
use Rattle.std.proofs.Common.{◌≡◌, ◌≢◌, ◌⊎◌, ⊎_elim, ℕ, zero, suc, ◌-◌, ◌<◌, Bool, List, [], ◌∷◌, length, get_or, set, Option, None, Some, inl, inr, refl, sym, ap, ◌∙◌, subst, arith}
use Rattle.std.specs.List.{slice_get}
use Rattle.std.specs.Prelude.{◌==◌, if◌then◌else◌, IfErr, IfOk, OnOk, Result, Ok, Err}
use Rattle.std.proofs.lemmas.Bool.{cases_eq, eq-eqb, ne_eqb}
use Rattle.std.proofs.lemmas.List.{get_or-set_same, length-set}
use Rattle.std.proofs.lemmas.Option.{get_or_from_slice_get, slice_get-get_or, slice_get_within}
use Rattle.atomic_table.specs.declared.shared.Seat.{Seat}
use Rattle.erm_core_view.specs.Views.{view_of}
use Rattle.erm_machine.specs.declared.part.Part.{Part}
use Rattle.erm_machine.specs.Core.{Core}
use Rattle.erm_model.specs.declared.outcome.Phase.{Phase}
use Rattle.erm_model.specs.declared.outcome.Phase.TheVariants as phase
use Rattle.erm_model.specs.RowTransaction.{Law}
use Rattle.erm_rule.specs.declared.view.Book.{Book}
use Rattle.erm_rule.specs.Books.{book}
use Rattle.erm_rule.specs.Views.{part_of, view}
use Rattle.erm_rule.specs.Went.{core_of}
use Rattle.erm_session.specs.declared.session.Session.{Session}
use Rattle.erm_session.specs.Safe.{IsStoppedPhase}
use Rattle.erm_session.specs.Saves.{saves_of}
use Rattle.erm_session.specs.Saving.{StaySaved}
use Rattle.erm_session.specs.Session.{IsSession, phase_of}
use Rattle.erm_session.proofs.Saved.{none_shown}
use Rattle.erm_world.specs.declared.stops.SafeStop.{SafeStop}
use Rattle.erm_world.specs.declared.stops.SafeStop.TheVariants as safe
use Rattle.erm_world.specs.World as world
use Rattle.erm_table_world.specs.declared.table_world.TableWorld.{TableWorld}
use Rattle.erm_table_world.specs.Saves.{KeepsSaves, saves_by, saves_in, table_saves}
use Rattle.erm_table_world.specs.Stands.{Stands, table_view}
use Rattle.erm_table_world.proofs.Sessions.{after_call, here, phase_shown, Here}
use Rattle.erm_table_world.proofs.Wholly.{part_is, Ran}

-- those of a session that stands in the list
pub saves_there : (ss : List Session) (c : Core) (q : ℕ) (s : Session) → 0 < q → q - 1 < length ss → s ≡ get_or ss (q - 1) s → saves_in ss c q ≡ saves_of s (c.seats q)
saves_there ss c q s some within at =
    ap (λ (b : Bool). if b then [] else saves_by (slice_get ss (q - 1)) (c.seats q)) (ne_eqb q 0 (λ none. omega (arith, some, none)))
    ∙ ap (λ (o : Option Session). saves_by o (c.seats q)) (slice_get-get_or ss (q - 1) s within ∙ ap (λ (z : Session). Some z) (sym at))

-- an element stays where another is set
slice_get_other : (ss : List Session) (i j : ℕ) (t : Session) → j ≢ i → slice_get (set ss i t) j ≡ slice_get ss j
slice_get_other [] i j t other = refl
slice_get_other (s ∷ ss) zero zero t other = absurd (other refl)
slice_get_other (s ∷ ss) zero (suc j) t other = refl
slice_get_other (s ∷ ss) (suc i) zero t other = refl
slice_get_other (s ∷ ss) (suc i) (suc j) t other = slice_get_other ss i j t (λ same. other (ap (λ (n : ℕ). suc n) same))

-- after a call of one session the others have theirs
saves_others : (ss : List Session) (c d : Core) (who : ℕ) (t : Session) (q : ℕ) → 0 < who → q ≢ who → d.seats q ≡ c.seats q → saves_in (set ss (who - 1) t) d q ≡ saves_in ss c q
saves_others ss c d who t q some other same =
    ⊎_elim
    (λ (none : q ≡ 0).
    ap (λ (b : Bool). if b then [] else saves_by (slice_get (set ss (who - 1) t) (q - 1)) (d.seats q)) (eq-eqb q 0 none)
    ∙ sym (ap (λ (b : Bool). if b then [] else saves_by (slice_get ss (q - 1)) (c.seats q)) (eq-eqb q 0 none)))
    (λ (more : q ≢ 0).
    ap (λ (o : Option Session). if q == 0 then [] else saves_by o (d.seats q)) (slice_get_other ss (who - 1) (q - 1) t (λ at. other (omega (arith, at, some, more))))
    ∙ ap (λ (x : Part). if q == 0 then [] else saves_by (slice_get ss (q - 1)) x) same)
    (cases_eq q 0)

-- one is active, or it isn't
active_or : (p : Phase) → (p ≡ phase.Active) ⊎ (p ≡ phase.Active → ⊥)
active_or phase.Active = inl refl
active_or phase.Idle = inr (λ e. absurd (cc))
active_or phase.Sealed = inr (λ e. absurd (cc))
active_or phase.Pending = inr (λ e. absurd (cc))
active_or phase.Safe = inr (λ e. absurd (cc))

-- a session whose transaction wasn't ended shows its savepoints still
pub kept_where : (s t : Session) (x y : Part) → StaySaved s x t y → (phase_of s.stage ≡ phase.Active → phase_of t.stage ≡ phase.Active) → saves_of t y ≡ saves_of s x
kept_where s t x y stay still =
    ⊎_elim stay
    (λ (none : phase_of t.stage ≡ phase.Active → ⊥).
    none_shown t.stage t.saves.points y none ∙ sym (none_shown s.stage s.saves.points x (λ at. none (still at)))) (active_or (phase_of t.stage))

-- A CALL of a session, whose steps leave all seats but its own
module _ {L : Type 0} (law : Law) (w : TableWorld L) (who : ℕ) (s : Session) (stands : Stands law w) (session : world.IsSession (table_view w) who)
    (at : s ≡ get_or w.sessions.items (who - 1) s) (pass : Seat (Unit {0}) Book) (ran : Ran law w.count who (book w.pass) (book pass)) where
  there : Here law w who s
  there = here law w who s stands session at

  within : who - 1 < length w.sessions.items
  within = let some = session.0 in let low = session.1 in let count = stands.count in omega (arith, some, low, count)

  abbrev x : Part
  x = part_of (view w.pass) s.seat

  abbrev y : Part
  y = part_of (view pass) s.seat

  pub part_then : part_of (view pass) s.seat ≡ (core_of (book pass)).seats who
  part_then = ap (λ (n : ℕ). part_of (view pass) n) there.seat ∙ part_is law (book pass) who ran.state there.seated

  pub own_before : table_saves w who ≡ saves_of s (part_of (view w.pass) s.seat)
  own_before = saves_there w.sessions.items (core_of (book w.pass)) who s session.0 within at ∙ ap (λ (z : Part). saves_of s z) (sym there.part)

  phase_then : (t : Session) → IsSession t (part_of (view pass) s.seat) → phase_of t.stage ≡ world.phase_at (view_of w.count (core_of (book pass))) who
  phase_then t is = phase_shown t.stage ((core_of (book pass)).seats who) (subst (IsSession t) part_then is).kept.stage

  -- it may be another session then
  module _ (t : Session) (is : IsSession t (part_of (view pass) s.seat)) where
    pub own_after : table_saves (after_call w who pass t) who ≡ saves_of t (part_of (view pass) s.seat)
    own_after =
        saves_there (set w.sessions.items (who - 1) t) (core_of (book pass)) who t session.0 (let long = length-set w.sessions.items (who - 1) t in let low = within in omega (arith, long, low))
        (sym (get_or-set_same w.sessions.items (who - 1) t t within))
        ∙ ap (λ (z : Part). saves_of t z) (sym part_then)

    pub others_after : (q : ℕ) → q ≢ who → table_saves (after_call w who pass t) q ≡ table_saves w q
    others_after q other = saves_others w.sessions.items (core_of (book w.pass)) (core_of (book pass)) who t q session.0 other (ran.others q other)

    pub keeps_saves : StaySaved s (part_of (view w.pass) s.seat) t (part_of (view pass) s.seat) → KeepsSaves w who (after_call w who pass t)
    keeps_saves stay = record {
      own = λ still. own_after ∙ kept_where s t x y stay (λ on. phase_then t is ∙ still (sym there.phase ∙ on)) ∙ sym own_before;
      others = others_after;
    }

  -- or the same
  pub keeps_same : IsSession s (part_of (view pass) s.seat) → saves_of s (part_of (view pass) s.seat) ≡ saves_of s (part_of (view w.pass) s.seat) → KeepsSaves w who (record w { pass = pass })
  keeps_same is same = record {
    own = λ still.
        saves_there w.sessions.items (core_of (book pass)) who s session.0 within at ∙ ap (λ (z : Part). saves_of s z) (sym part_then) ∙ same ∙ sym own_before;
    others = λ q other. ap (λ (z : Part). if q == 0 then [] else saves_by (slice_get w.sessions.items (q - 1)) z) (ran.others q other);
  }

-- a session that isn't active shows none
pub none_held : {L : Type 0} (law : Law) (w : TableWorld L) (who : ℕ) → Stands law w → world.IsSession (table_view w) who → (world.phase_at (table_view w) who ≡ phase.Active → ⊥) → table_saves w who ≡ []
none_held law w who stands session none = by (slice_get w.sessions.items (who - 1)) refl
  where
    by : (o : Option Session) → slice_get w.sessions.items (who - 1) ≡ o → table_saves w who ≡ []
    by None is =
        ap (λ (b : Bool). if b then [] else saves_by (slice_get w.sessions.items (who - 1)) ((core_of (book w.pass)).seats who)) (ne_eqb who 0 (λ at. let some = session.0 in omega (arith, some, at)))
        ∙ ap (λ (p : Option Session). saves_by p ((core_of (book w.pass)).seats who)) is
    by (Some s) is =
        let at : s ≡ get_or w.sessions.items (who - 1) s = sym (get_or_from_slice_get w.sessions.items (who - 1) s s is) in
        let h = here law w who s stands session at in
        saves_there w.sessions.items (core_of (book w.pass)) who s session.0 (slice_get_within w.sessions.items (who - 1) s is) at
        ∙ none_shown s.stage s.saves.points ((core_of (book w.pass)).seats who) (λ on. none (sym h.phase ∙ on))

-- a session that has begun a snapshot, or has looked whether it is safe, isn't active
pub past_begun_safe : {A B : Type 0} (r : Result A B) (p : Phase) → IfOk r (λ z. p ≡ phase.Pending) → IfErr r (λ z. p ≡ phase.Idle) → p ≡ phase.Active → ⊥
past_begun_safe (Ok z) p pending idle on = absurd (cc)
past_begun_safe (Err z) p pending idle on = absurd (cc)

stopped_past : (why : SafeStop) (p : Phase) → IsStoppedPhase why p → p ≡ phase.Active → ⊥
stopped_past (safe.NotYet seat seen) p is on = absurd (cc)
stopped_past (safe.Unsafe seat stamp) p is on = absurd (cc)

pub past_safe : {A : Type 0} (r : Result A SafeStop) (p : Phase) → OnOk r (p ≡ phase.Safe) → IfErr r (λ why. IsStoppedPhase why p) → p ≡ phase.Active → ⊥
past_safe (Ok z) p is stopped on = absurd (cc)
past_safe (Err why) p is stopped on = stopped_past why p stopped on
