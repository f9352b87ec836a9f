use Rattle.std.proofs.Common.{◌≡◌, ℕ, ◌<◌, ◌≤◌, ⊎_elim, Option, Some, subst}
use Rattle.std.proofs.lemmas.Bool.{cases_eq}
use Rattle.erm_machine.specs.declared.limits.TheConstants.{ANNOUNCERS}
use Rattle.erm_machine.specs.declared.place.Place.{Place}
use Rattle.erm_machine.specs.Begins.{horizon_of, IsBelowBegin}
use Rattle.erm_machine.specs.Core.{Core}
use Rattle.erm_machine.specs.Facts.{HasBegun}
use Rattle.erm_machine.specs.Sound.{Sound}
use Rattle.erm_cut.proofs.laws.horizons_bound_begins.Goals as goal

bound_by : (o : Option (ℕ × ℕ)) (q horizon begin : ℕ) (pl : Place) → o ≡ Some (horizon, ANNOUNCERS) → q < ANNOUNCERS → HasBegun pl → IsBelowBegin o q pl begin → horizon ≤ begin
bound_by o q horizon begin pl is below begun bound = (subst (λ (z : Option (ℕ × ℕ)). IsBelowBegin z q pl begin) is bound) below begun

bound_at : (c : Core) (p q horizon : ℕ) → Sound c → horizon_of (c.seats p).task ≡ Some (horizon, ANNOUNCERS) → q < ANNOUNCERS → HasBegun (c.seats q).place → horizon ≤ (c.seats q).current.begin
bound_at c p q horizon sound is below begun =
    ⊎_elim
    (λ (same : p ≡ q).
    bound_by (horizon_of (c.seats p).task) q horizon (c.seats q).current.begin (c.seats q).place is below begun
    (subst (λ n. IsBelowBegin (horizon_of (c.seats p).task) n (c.seats n).place (c.seats n).current.begin) same (sound.own p).begins.own))
    (λ (ne : p ≡ q → ⊥). bound_by (horizon_of (c.seats p).task) q horizon (c.seats q).current.begin (c.seats q).place is below begun (sound.both p q ne).begins.passed)
    (cases_eq p q)

pub returns : goal.returns
returns c core p q horizon sound is below begun = bound_at core p q horizon sound is below begun
