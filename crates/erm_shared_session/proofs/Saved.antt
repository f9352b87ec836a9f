-- A session's savepoints after one of its calls.
use Rattle.std.proofs.Common.{◌≡◌, ◌≢◌, ℕ, Bool, [], refl, sym, ap, ◌∙◌, subst}
use Rattle.std.specs.Prelude.{if◌then◌else◌, IfErr, IfOk, Result, Ok, Err}
use Rattle.std.proofs.lemmas.Bool.{eq-eqb, ne_eqb}
use Rattle.erm_model.specs.declared.outcome.Phase.{Phase}
use Rattle.erm_model.specs.declared.outcome.Phase.TheVariants as phase
use Rattle.erm_rule.specs.Views.{part_of, view}
use Rattle.erm_session.specs.Saves.{saves_of}
use Rattle.erm_session.specs.Saving.{StaySaved}
use Rattle.erm_session.specs.Session.{IsSession}
use Rattle.erm_session.proofs.Saved.{none_shown}
use Rattle.erm_table_world.proofs.Held.{kept_where}
use Rattle.erm_world.specs.World.{phase_at}
use Rattle.erm_shared_session.specs.declared.session.TableSession.{TableSession}
use Rattle.erm_shared_session.specs.Stands.{bare_of, own_saves, seat_of}
use Rattle.erm_shared_session.proofs.Standing.{own_phase}

-- A session whose transaction wasn't ended has its savepoints still.
pub record KeepsOwn {L : Type 0} (s t : TableSession L) : Type 0 where
  pub own : (phase_at (bare_of s) (seat_of s) ≡ phase.Active → phase_at (bare_of t) (seat_of s) ≡ phase.Active) → own_saves t (seat_of s) ≡ own_saves s (seat_of s)
  pub others : (q : ℕ) → q ≢ seat_of s → own_saves t q ≡ own_saves s q

-- they are its own, and of its seat alone
pub saves_here : {L : Type 0} (s : TableSession L) → own_saves s (seat_of s) ≡ saves_of s.session (part_of (view s.pass) s.session.seat)
saves_here s = ap (λ (b : Bool). if b then saves_of s.session (part_of (view s.pass) s.session.seat) else []) (eq-eqb s.session.seat s.session.seat refl)

saves_there : {L : Type 0} (s : TableSession L) (q : ℕ) → q ≢ s.session.seat → own_saves s q ≡ []
saves_there s q other = ap (λ (b : Bool). if b then saves_of s.session (part_of (view s.pass) s.session.seat) else []) (ne_eqb q s.session.seat other)

module _ {L : Type 0} (s t : TableSession L) (same : t.session.seat ≡ s.session.seat) where
  pub saves_then : own_saves t (seat_of s) ≡ saves_of t.session (part_of (view t.pass) s.session.seat)
  saves_then = ap (λ (n : ℕ). own_saves t n) (sym same) ∙ saves_here t ∙ ap (λ (n : ℕ). saves_of t.session (part_of (view t.pass) n)) same

  pub others_then : (q : ℕ) → q ≢ seat_of s → own_saves t q ≡ own_saves s q
  others_then q other = saves_there t q (λ (is : q ≡ t.session.seat). other (is ∙ same)) ∙ sym (saves_there s q other)

  module _ (is : IsSession s.session (part_of (view s.pass) s.session.seat)) (and_is : IsSession t.session (part_of (view t.pass) s.session.seat)) where
    pub keeps_own : StaySaved s.session (part_of (view s.pass) s.session.seat) t.session (part_of (view t.pass) s.session.seat) → KeepsOwn s t
    keeps_own stay = record {
      own = λ still.
          saves_then
          ∙ kept_where s.session t.session (part_of (view s.pass) s.session.seat) (part_of (view t.pass) s.session.seat) stay (λ on.
          own_phase t (subst (λ (n : ℕ). IsSession t.session (part_of (view t.pass) n)) (sym same) and_is) ∙ ap (λ (n : ℕ). phase_at (bare_of t) n) same
          ∙ still (sym (own_phase s is) ∙ on))
          ∙ sym (saves_here s);
      others = others_then;
    }

-- a session that isn't active shows none
pub none_saved : {L : Type 0} (s : TableSession L) → IsSession s.session (part_of (view s.pass) s.session.seat) → (phase_at (bare_of s) (seat_of s) ≡ phase.Active → ⊥) → own_saves s (seat_of s) ≡ []
none_saved s is none =
    saves_here s ∙ none_shown s.session.stage s.session.saves.points (part_of (view s.pass) s.session.seat) (λ on. none (sym (own_phase s is) ∙ on))

-- one that has looked whether its transaction is decided isn't active
pub past_settled : {A B : Type 0} (r : Result A B) (p : Phase) → IfOk r (λ z. p ≡ phase.Idle) → IfErr r (λ z. p ≡ phase.Sealed) → p ≡ phase.Active → ⊥
past_settled (Ok z) p idle sealed on = absurd (cc)
past_settled (Err z) p idle sealed on = absurd (cc)
