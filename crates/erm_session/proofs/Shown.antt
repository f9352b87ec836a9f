-- What is shown of a session's savepoints: the transaction still has what it had claimed, and its claims go back to those of then.
use Rattle.std.proofs.Common.{◌≡◌, ℕ, zero, suc, ◌≤◌, ◌<◌, List, [], ◌∷◌, ◌++◌, length, map, get_or, Option, None, Some, refl, sym, ap, ◌∙◌, subst}
use Rattle.std.specs.List.{slice_get}
use Rattle.std.specs.Option.{option_map}
use Rattle.std.proofs.lemmas.Option.{slice_get-get_or, slice_get-map}
use Rattle.erm_machine.specs.declared.attempt.Attempt.{Attempt}
use Rattle.erm_machine.specs.declared.attempt.Claim.{Claim}
use Rattle.erm_machine.specs.declared.part.Part.{Part}
use Rattle.erm_machine.specs.Core.{Core, no_claim}
use Rattle.erm_machine.specs.Decided.{written_of}
use Rattle.erm_machine.specs.Sound.{Sound}
use Rattle.erm_model.specs.declared.history.VersionWritten.{VersionWritten}
use Rattle.erm_model.specs.declared.limits.TheConstants.{SAVES}
use Rattle.erm_model.specs.declared.outcome.Phase.TheVariants as phase
use Rattle.erm_model.specs.Member.{◌∈◌}
use Rattle.erm_model.proofs.Members.{∈-at, ∈-behind}
use Rattle.erm_world.specs.Going.{found_by}
use Rattle.erm_world.specs.Saves.{HasClaimed, restored}
use Rattle.erm_session.specs.declared.session.Stage.{Stage}
use Rattle.erm_session.specs.declared.session.Stage.TheVariants as stage
use Rattle.erm_session.specs.Saves.{claim_saved, claims_saved, saves_at}
use Rattle.erm_session.specs.Saving.{HasRows, claim_back, claims_back}
use Rattle.erm_session.specs.Session.{phase_of}
use Rattle.erm_session.proofs.Saved.{Rows, shown_long}

last_stands : (ts : List Attempt) (t : Attempt) → t ∈ (ts ++ t ∷ [])
last_stands [] t = (zero, refl)
last_stands (u ∷ ts) t = ∈-behind u (ts ++ t ∷ []) t (last_stands ts t)

-- in a sound state a claim that no write has set has the row that it found
pub has_rows : (c : Core) → Sound c → (q : ℕ) → HasRows (c.seats q)
has_rows c sound q k within unset =
    ((sound.own q).written.rows (c.seats q).current (get_or (c.seats q).current.writes k no_claim) (last_stands (c.seats q).over (c.seats q).current) (∈-at (c.seats q).current.writes k no_claim within)).kept unset

-- a saved claim found what it found
saved_found : (s : Option (List ℕ)) (c : VersionWritten) → found_by (claim_saved s c) ≡ found_by c
saved_found (Some row) c = refl
saved_found None c = refl

same_claim : (c d : VersionWritten) → ◌≡◌ {A = Option VersionWritten} (Some c) (Some d) → c ≡ d
same_claim c d same = cc

no_claim_there : {X : Type 0} (d : VersionWritten) → ◌≡◌ {A = Option VersionWritten} None (Some d) → X
no_claim_there d same = absurd (cc)

pub still_claimed : (saved : Rows) (claims : List VersionWritten) → HasClaimed (claims_saved saved claims) claims
still_claimed [] claims k d at = no_claim_there d at
still_claimed (s ∷ saved) [] k d at = no_claim_there d at
still_claimed (s ∷ saved) (c ∷ claims) zero d at = (c, refl, sym (saved_found s c) ∙ ap found_by (same_claim (claim_saved s c) d at))
still_claimed (s ∷ saved) (c ∷ claims) (suc k) d at = still_claimed saved claims k d at

-- so it is of each savepoint that is shown
pub shown_claimed : (g : Stage) (points : List Rows) (x : Part) (j : ℕ) (saved : List VersionWritten) → slice_get (saves_at g points x) j ≡ Some saved → HasClaimed saved (map written_of x.current.writes)
shown_claimed (stage.Active t) points x j saved at =
    by (slice_get points j) (sym (slice_get-map (λ (rows : Rows). claims_saved rows (map written_of x.current.writes)) points j) ∙ at)
  where
    by : (o : Option Rows) → option_map (λ (rows : Rows). claims_saved rows (map written_of x.current.writes)) o ≡ Some saved → HasClaimed saved (map written_of x.current.writes)
    by None is = absurd (cc)
    by (Some rows) is = subst (λ (cs : List VersionWritten). HasClaimed cs (map written_of x.current.writes)) (cc) (still_claimed rows (map written_of x.current.writes))
shown_claimed stage.Idle points x j saved at = absurd (cc)
shown_claimed (stage.Sealed t) points x j saved at = absurd (cc)
shown_claimed (stage.Pending begin next) points x j saved at = absurd (cc)
shown_claimed (stage.Safe begin) points x j saved at = absurd (cc)

-- a savepoint that is held is shown
pub shown_there : (g : Stage) (points : List Rows) (x : Part) (j : ℕ) → phase_of g ≡ phase.Active → j < length points
    → slice_get (saves_at g points x) j ≡ Some (claims_saved (get_or points j []) (map written_of x.current.writes))
shown_there (stage.Active t) points x j at within =
    slice_get-map (λ (rows : Rows). claims_saved rows (map written_of x.current.writes)) points j
    ∙ ap (λ (o : Option Rows). option_map (λ (rows : Rows). claims_saved rows (map written_of x.current.writes)) o) (slice_get-get_or points j [] within)
shown_there stage.Idle points x j at within = absurd (cc)
shown_there (stage.Sealed t) points x j at within = absurd (cc)
shown_there (stage.Pending begin next) points x j at within = absurd (cc)
shown_there (stage.Safe begin) points x j at within = absurd (cc)

-- no more are shown than may be held
pub shown_few : (g : Stage) (points : List Rows) (x : Part) → phase_of g ≡ phase.Active → length points ≤ SAVES → length (saves_at g points x) ≤ SAVES
shown_few g points x at few = subst (λ (n : ℕ). n ≤ SAVES) (sym (shown_long g points x at)) few

-- the claims gone back are those of then
one_back : (s : Option (List ℕ)) (w : Claim) → written_of (claim_back s w) ≡ claim_saved s (written_of w)
one_back (Some row) w = refl
one_back None w = refl

pub back_shown : (saved : Rows) (ws : List Claim) → map written_of (claims_back saved ws) ≡ restored (claims_saved saved (map written_of ws)) (map written_of ws)
back_shown [] [] = refl
back_shown (s ∷ saved) [] = refl
back_shown [] (w ∷ ws) = ap (λ (cs : List VersionWritten). claim_saved None (written_of w) ∷ cs) (back_shown [] ws)
back_shown (s ∷ saved) (w ∷ ws) =
    ap (λ (c : VersionWritten). c ∷ map written_of (claims_back saved ws)) (one_back s w) ∙ ap (λ (cs : List VersionWritten). claim_saved s (written_of w) ∷ cs) (back_shown saved ws)
