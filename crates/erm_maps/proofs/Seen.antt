-- The rows that a transaction sees after it has gone back are those that it saw at the savepoint.
use Rattle.std.proofs.Common.{◌≡◌, refl, ℕ, zero, suc, Bool, true, false, eqb, cond, List, [], ◌∷◌, Some, Option, map, sym, ap, ◌∙◌, subst, arith, eqb-true}
use Rattle.erm_model.specs.declared.history.VersionWritten.{VersionWritten}
use Rattle.erm_model.specs.History.{after_writes}
use Rattle.erm_model.specs.Rows.{Rows, set_row}
use Rattle.erm_world.specs.Going.{found_by}
use Rattle.erm_world.specs.Saves.{HasClaimed, OnceOf, restored, undone}
use Rattle.erm_world.proofs.Restored.{at_restored}
use Rattle.erm_maps.specs.Runs.{Agree}

same_oid : (c d : VersionWritten) → found_by c ≡ found_by d → c.oid ≡ d.oid
same_oid c d same = ap (λ (f : ℕ × ℕ × List ℕ). f.0) same

-- an array that has what a claim found has what one found that found the same
same_base : (rows : Rows) (c d : VersionWritten) → found_by c ≡ found_by d → rows c.oid ≡ c.base → rows d.oid ≡ d.base
same_base rows c d same at =
    let base : c.base ≡ d.base = ap (λ (f : ℕ × ℕ × List ℕ). f.2) same in
    subst (λ (oid : ℕ). rows oid ≡ d.base) (same_oid c d same) (at ∙ base)

-- an array that has what the claims found after one goes back has what they found before
pub Agree-before : (rows : Rows) (saved claims : List VersionWritten) → HasClaimed saved claims → Agree rows (restored saved claims) → Agree rows claims
Agree-before rows saved claims has agree c (k, at) =
    let kept = at_restored saved claims has k c at in
    same_base rows kept.0 c kept.2 (agree kept.0 (k, kept.1))

-- and what those of the savepoint found
pub Agree-saved : (rows : Rows) (saved claims : List VersionWritten) → HasClaimed saved claims → Agree rows claims → Agree rows saved
Agree-saved rows saved claims has agree s (k, at) =
    let there = has k s at in
    same_base rows there.0 s there.2 (agree there.0 (k, there.1))

set_same : (rows : Rows) (oid : ℕ) (row : List ℕ) → rows oid ≡ row → (x : ℕ) → set_row rows oid row x ≡ rows x
set_same rows oid row is x =
    elim (eqb x oid) as (λ (b : Bool). eqb x oid ≡ b → cond b row (rows x) ≡ rows x) [
      | true ↦ λ same. sym is ∙ ap rows (sym (eqb-true x oid same))
      | false ↦ λ other. refl
    ] refl

-- where a row is set that is there already, nothing changes
set_row-same : (rows : Rows) (oid : ℕ) (row : List ℕ) → rows oid ≡ row → set_row rows oid row ≡ rows
set_row-same rows oid row is = λ i x. set_same rows oid row is x i

set_other : (rows : Rows) (oid : ℕ) (row : List ℕ) (x : ℕ) → (x ≡ oid → ⊥) → set_row rows oid row x ≡ rows x
set_other rows oid row x other =
    elim (eqb x oid) as (λ (b : Bool). eqb x oid ≡ b → cond b row (rows x) ≡ rows x) [
      | true ↦ λ same. absurd (other (eqb-true x oid same))
      | false ↦ λ none. refl
    ] refl

undone_seen : (claims : List VersionWritten) (rows : Rows) → Agree rows claims → after_writes (map undone claims) rows ≡ rows
undone_seen [] rows agree = refl
undone_seen (c ∷ claims) rows agree =
    ap (after_writes (map undone claims)) (set_row-same rows c.oid c.base (agree c (zero, refl)))
    ∙ undone_seen claims rows (λ d there. agree d (suc there.0, there.1))

-- an object that is claimed once is none of the later claims'
later_claims : (s c : VersionWritten) (claims : List VersionWritten) (rows : Rows) → found_by c ≡ found_by s → OnceOf (c ∷ claims) → Agree rows (c ∷ claims) → Agree (set_row rows s.oid s.row) claims
later_claims s c claims rows same once agree d (k, at) =
    set_other rows s.oid s.row d.oid (λ (equal : d.oid ≡ s.oid).
    let twice : suc k ≡ zero = once (suc k) zero d c at refl (equal ∙ sym (same_oid c s same)) in absurd (omega (arith, twice)))
    ∙ agree d (suc k, at)

OnceOf-rest : (c : VersionWritten) (claims : List VersionWritten) → OnceOf (c ∷ claims) → OnceOf claims
OnceOf-rest c claims once i j d e at_i at_j same = let next : suc i ≡ suc j = once (suc i) (suc j) d e at_i at_j same in omega (arith, next)

one_at : (c d : VersionWritten) → ◌≡◌ {A = Option VersionWritten} (Some c) (Some d) → c ≡ d
one_at c d same = cc

-- the rows seen after one goes back are those seen at the savepoint
pub seen_restored : (saved claims : List VersionWritten) (rows : Rows) → HasClaimed saved claims → OnceOf claims → Agree rows claims → after_writes (restored saved claims) rows ≡ after_writes saved rows
seen_restored [] claims rows has once agree = undone_seen claims rows agree
seen_restored (s ∷ saved) [] rows has once agree = let first = has zero s refl in absurd (cc (first.1))
seen_restored (s ∷ saved) (c ∷ claims) rows has once agree =
    let first = has zero s refl in
    let found : found_by c ≡ found_by s = subst (λ (d : VersionWritten). found_by d ≡ found_by s) (sym (one_at c first.0 first.1)) first.2 in
    seen_restored saved claims (set_row rows s.oid s.row) (λ k d at. has (suc k) d at) (OnceOf-rest c claims once) (later_claims s c claims rows found once agree)
