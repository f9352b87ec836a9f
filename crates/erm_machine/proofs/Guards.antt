-- Guards of steps, and how they are read.
use Rattle.std.proofs.Common.{◌≡◌, Bool, true, false, cond, Option, Some, None, refl, subst}
use Rattle.std.specs.Prelude.{if◌then◌else◌}
use Rattle.erm_machine.specs.declared.part.Part.{Part}

-- what holds of the part where the guard is met holds of the part after
pub when_then : (P : Part → Type 0) (b : Bool) (z y : Part) → cond b (Some z) None ≡ Some y → (b ≡ true → P z) → P y
when_then P true z y e f = let same : z ≡ y = cc in subst P same (f refl)
when_then P false z y e f = absurd (cc)

-- the same where there is no guard
pub some_then : (P : Part → Type 0) (z y : Part) → ◌≡◌ {A = Option Part} (Some z) (Some y) → P z → P y
some_then P z y e f = let same : z ≡ y = cc in subst P same f

-- what isn't ruled out
pub unless_some : (b : Bool) (o : Option Part) (y : Part) → cond b None o ≡ Some y → o ≡ Some y
unless_some true o y e = absurd (cc)
unless_some false o y e = e

-- one of two branches
pub if_then : (P : Part → Type 0) (b : Bool) (l r : Option Part) (y : Part) → (if b then l else r) ≡ Some y → (b ≡ true → l ≡ Some y → P y) → (b ≡ false → r ≡ Some y → P y) → P y
if_then P true l r y e f g = f refl e
if_then P false l r y e f g = g refl e

-- what holds of both branches holds of the choice
pub either_way : {X : Type 0} (P : X → Type 0) (b : Bool) (l r : X) → (b ≡ true → P l) → (b ≡ false → P r) → P (if b then l else r)
either_way P true l r f g = f refl
either_way P false l r f g = g refl
