-- Membership through maps and filters.
use Rattle.std.proofs.Common.{◌≡◌, ℕ, zero, suc, Bool, true, false, cond, List, [], ◌∷◌, map, slice_get, Option, Some, None, refl, ap, ◌∙◌}
use Rattle.std.specs.List.{cons_option, filter, filter_map}
use Rattle.erm_model.specs.Member.{◌∈◌}
use Rattle.erm_model.proofs.Members.{none_in_nil}

pub in_filter_map : {X Y : Type 0} (f : X → Option Y) (xs : List X) (x : X) (y : Y) → x ∈ xs → f x ≡ Some y → y ∈ filter_map f xs
in_filter_map f [] x y m is = absurd (none_in_nil x m)
in_filter_map {X} {Y} f (z ∷ xs) x y (zero, at) is = let same : z ≡ x = cc in first (f z) (ap f same ∙ is)
  where
    first : (o : Option Y) → o ≡ Some y → y ∈ cons_option o (filter_map f xs)
    first None e = absurd (cc)
    first (Some w) e = (zero, e)
in_filter_map {X} {Y} f (z ∷ xs) x y (suc k, at) is = behind (f z) (in_filter_map f xs x y (k, at) is)
  where
    behind : (o : Option Y) → y ∈ filter_map f xs → y ∈ cons_option o (filter_map f xs)
    behind None m = m
    behind (Some w) m = (suc m.0, m.1)

pub of_filter_map : {X Y : Type 0} (f : X → Option Y) (xs : List X) (y : Y) → y ∈ filter_map f xs → (x : X) × (x ∈ xs) × (f x ≡ Some y)
of_filter_map f [] y m = absurd (none_in_nil y m)
of_filter_map {X} {Y} f (z ∷ xs) y m = either (λ k at. of_filter_map f xs y (k, at)) (f z) refl m
  where
    either : ((k : ℕ) → slice_get (filter_map f xs) k ≡ Some y → (x : X) × (x ∈ xs) × (f x ≡ Some y)) → (o : Option Y) → f z ≡ o → y ∈ cons_option o (filter_map f xs)
        → (x : X) × (x ∈ (z ∷ xs)) × (f x ≡ Some y)
    either later None e within = let r = later within.0 within.1 in (r.0, (suc r.1.0, r.1.1), r.2)
    either later (Some w) e (zero, at) = (z, (zero, refl), e ∙ at)
    either later (Some w) e (suc k, at) = let r = later k at in (r.0, (suc r.1.0, r.1.1), r.2)

pub in_filter : {X : Type 0} (p : X → Bool) (xs : List X) (x : X) → x ∈ xs → p x ≡ true → x ∈ filter p xs
in_filter p [] x m is = absurd (none_in_nil x m)
in_filter {X} p (z ∷ xs) x (zero, at) is = let same : z ≡ x = cc in first (p z) (ap p same ∙ is)
  where
    first : (b : Bool) → b ≡ true → x ∈ cond b (z ∷ filter p xs) (filter p xs)
    first true e = (zero, at)
    first false e = absurd (cc)
in_filter {X} p (z ∷ xs) x (suc k, at) is = behind (p z) (in_filter p xs x (k, at) is)
  where
    behind : (b : Bool) → x ∈ filter p xs → x ∈ cond b (z ∷ filter p xs) (filter p xs)
    behind true m = (suc m.0, m.1)
    behind false m = m

pub of_filter : {X : Type 0} (p : X → Bool) (xs : List X) (x : X) → x ∈ filter p xs → x ∈ xs
of_filter p [] x m = absurd (none_in_nil x m)
of_filter {X} p (z ∷ xs) x m = either (λ k at. of_filter p xs x (k, at)) (p z) m
  where
    either : ((k : ℕ) → slice_get (filter p xs) k ≡ Some x → x ∈ xs) → (b : Bool) → x ∈ cond b (z ∷ filter p xs) (filter p xs) → x ∈ (z ∷ xs)
    either later true (zero, at) = (zero, at)
    either later true (suc k, at) = let r = later k at in (suc r.0, r.1)
    either later false within = let r = later within.0 within.1 in (suc r.0, r.1)

pub in_map : {X Y : Type 0} (f : X → Y) (xs : List X) (x : X) → x ∈ xs → f x ∈ map f xs
in_map f [] x m = absurd (none_in_nil x m)
in_map {X} {Y} f (z ∷ xs) x (zero, at) = let same : z ≡ x = cc in (zero, ap Some (ap f same))
in_map f (z ∷ xs) x (suc k, at) = let r = in_map f xs x (k, at) in (suc r.0, r.1)

pub of_map : {X Y : Type 0} (f : X → Y) (xs : List X) (y : Y) → y ∈ map f xs → (x : X) × (x ∈ xs) × (f x ≡ y)
of_map f [] y m = absurd (none_in_nil y m)
of_map f (z ∷ xs) y (zero, at) = (z, (zero, refl), cc)
of_map f (z ∷ xs) y (suc k, at) = let r = of_map f xs y (k, at) in (r.0, (suc r.1.0, r.1.1), r.2)

-- the one of a list of one
pub the_one : {X : Type 0} (y x : X) → x ∈ (y ∷ []) → x ≡ y
the_one y x (zero, at) = cc
the_one y x (suc k, at) = absurd (cc)
