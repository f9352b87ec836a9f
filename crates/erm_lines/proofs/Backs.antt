-- A transaction that went back to a savepoint: it may have begun on rows on which it may have begun before, and with the claims that it had at the
-- savepoint; it sees what it saw there; and it has claimed what it had.
use Rattle.std.proofs.Common.{◌≡◌, ℕ, ◌==◌, Bool, ◌||◌, List, [], ◌∷◌, Some, append-nil, map, refl, sym, ap, ◌∙◌, subst}
use Rattle.std.specs.List.{list_any, slice_get}
use Rattle.erm_model.specs.declared.history.VersionWritten.{VersionWritten}
use Rattle.erm_model.specs.Rows.{Rows}
use Rattle.erm_model.specs.Run.{Step}
use Rattle.erm_node.specs.Sound.{sound_law}
use Rattle.erm_world.specs.Going.{Extends, found_by}
use Rattle.erm_world.specs.Laws.{FitsWork}
use Rattle.erm_world.specs.Saves.{HasClaimed, restored, with_claims}
use Rattle.erm_world.specs.Works.{is_claimed, seen_by}
use Rattle.erm_world.specs.World.{Work}
use Rattle.erm_world.proofs.Restored.{extends_restored, found_restored}
use Rattle.erm_maps.specs.Runs.{IsRunOf, Kept}
use Rattle.erm_maps.proofs.Extended.{fitted_before}
use Rattle.erm_maps.proofs.Seen.{seen_restored}

-- CLAIMS that found the same are of the same objects.
any_found : (claims : List VersionWritten) (x : ℕ) → is_claimed claims x ≡ list_any (λ (f : ℕ × ℕ × List ℕ). f.0 == x) (map found_by claims)
any_found [] x = refl
any_found (c ∷ claims) x = ap (λ (b : Bool). (c.oid == x) || b) (any_found claims x)

pub claimed_found : (claims others : List VersionWritten) (x : ℕ) → map found_by claims ≡ map found_by others → is_claimed claims x ≡ is_claimed others x
claimed_found claims others x same =
    any_found claims x ∙ ap (λ (fs : List (ℕ × ℕ × List ℕ)). list_any (λ (f : ℕ × ℕ × List ℕ). f.0 == x) fs) same ∙ sym (any_found others x)

-- with the same claims as before it has gone on too
extends_with : (claims : List VersionWritten) (w u : Work) → Extends w u → Extends (with_claims claims w) (with_claims claims u)
extends_with claims w u more = record {
  number = more.number;
  begin = more.begin;
  read = more.read;
  reads = more.reads;
  claimed = [];
  claims = sym (append-nil (map found_by claims));
  more = more.more;
  made = more.made;
}

-- ROWS on which it may have begun where it has gone on: with the claims of a savepoint too.
pub fits_with : (saved : List VersionWritten) (w u : Work) → Extends w u → (rows : Rows) → FitsWork sound_law (with_claims saved u) rows → FitsWork sound_law (with_claims saved w) rows
fits_with saved w u more rows fits = fitted_before sound_law (with_claims saved w) (with_claims saved u) (extends_with saved w u more) rows fits

module _ (w : Work) (saved : List VersionWritten) (has : HasClaimed saved w.claims) where
  pub fits_before : (rows : Rows) → FitsWork sound_law (with_claims (restored saved w.claims) w) rows → FitsWork sound_law w rows
  fits_before rows fits = fitted_before sound_law w (with_claims (restored saved w.claims) w) (extends_restored w saved has) rows fits

  pub fits_saved : (rows : Rows) → FitsWork sound_law (with_claims (restored saved w.claims) w) rows → FitsWork sound_law (with_claims saved w) rows
  fits_saved rows fits = record {
    meets = fits.meets;
    reads = fits.reads;
    claims = λ s (k, at). let there = has k s at in subst (λ (f : ℕ × ℕ × List ℕ). rows f.0 ≡ f.2) there.2 ((fits_before rows fits).claims there.0 (k, there.1));
    unreached = fits.unreached;
  }

  pub claimed_back : (x : ℕ) → is_claimed (restored saved w.claims) x ≡ is_claimed w.claims x
  claimed_back x = claimed_found (restored saved w.claims) w.claims x (found_restored saved w.claims has)

-- and what it sees there
pub seen_back : (k : Kept) (steps : List Step) → IsRunOf k steps → (n : ℕ) (saved : List VersionWritten) → slice_get k.saves n ≡ Some saved → (rows : Rows)
    → FitsWork sound_law (with_claims (restored saved k.work.claims) k.work) rows
    → seen_by (with_claims (restored saved k.work.claims) k.work) rows ≡ seen_by (with_claims saved k.work) rows
seen_back k steps run n saved at rows fits =
    seen_restored saved k.work.claims rows (run.saves n saved at) run.once (fits_before k.work saved (run.saves n saved at) rows fits).claims
