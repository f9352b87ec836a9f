-- Objects that are made, and rows that are claimed and set, one after another.
use Rattle.std.proofs.Common.{◌≡◌, ℕ, ◌+◌, ◌-◌, ◌<◌, ◌≤◌, List, [], ◌∷◌, ◌++◌, map, take, drop, replicate, length, get_or, refl, sym, ap, ◌∙◌, subst, arith}
use Rattle.std.proofs.lemmas.List.{take_more, map-append, length-append, length-replicate, take-append-drop}
use Rattle.erm_model.specs.RowTransaction.{Event, did_read, did_claim, did_write, did_make, made_by_all, Face, Does}
use Rattle.erm_tree.specs.Calls.{Ran, AreFirstMakes, IsPrefixOf}
use Rattle.erm_tree.proofs.Calls.{Ran-more}

-- events that neither read nor set a row
abbrev pub AreQuiet : List Event → Type 0
AreQuiet [] = Unit {0}
AreQuiet (did_read oid row ∷ events) = ⊥
AreQuiet (did_claim oid ∷ events) = AreQuiet events
AreQuiet (did_write oid row ∷ events) = ⊥
AreQuiet (did_make oid ∷ events) = AreQuiet events

-- events that claim alone
abbrev pub AreClaims : List Event → Type 0
AreClaims [] = Unit {0}
AreClaims (did_read oid row ∷ events) = ⊥
AreClaims (did_claim oid ∷ events) = AreClaims events
AreClaims (did_write oid row ∷ events) = ⊥
AreClaims (did_make oid ∷ events) = ⊥

-- the first ones of quiet events are quiet
AreQuiet-front : (es fs : List Event) → AreQuiet (es ++ fs) → AreQuiet es
AreQuiet-front [] fs quiet = tt
AreQuiet-front (did_read oid row ∷ es) fs quiet = absurd quiet
AreQuiet-front (did_claim oid ∷ es) fs quiet = AreQuiet-front es fs quiet
AreQuiet-front (did_write oid row ∷ es) fs quiet = absurd quiet
AreQuiet-front (did_make oid ∷ es) fs quiet = AreQuiet-front es fs quiet

-- those of claims are claims
AreClaims-front : (es fs : List Event) → AreClaims (es ++ fs) → AreClaims es
AreClaims-front [] fs claims = tt
AreClaims-front (did_read oid row ∷ es) fs claims = absurd claims
AreClaims-front (did_claim oid ∷ es) fs claims = AreClaims-front es fs claims
AreClaims-front (did_write oid row ∷ es) fs claims = absurd claims
AreClaims-front (did_make oid ∷ es) fs claims = absurd claims

-- makes are quiet
pub AreQuiet-makes : (made : List ℕ) → AreQuiet (map did_make made)
AreQuiet-makes [] = tt
AreQuiet-makes (o ∷ os) = AreQuiet-makes os

-- so are claims
pub AreQuiet-claims : (es : List Event) → AreClaims es → AreQuiet es
AreQuiet-claims [] claims = tt
AreQuiet-claims (did_read oid row ∷ es) claims = absurd claims
AreQuiet-claims (did_claim oid ∷ es) claims = AreQuiet-claims es claims
AreQuiet-claims (did_write oid row ∷ es) claims = absurd claims
AreQuiet-claims (did_make oid ∷ es) claims = absurd claims

-- which make nothing
pub AreClaims-made : (es : List Event) (x : ℕ) → AreClaims es → made_by_all es x ≡ 0
AreClaims-made [] x claims = refl
AreClaims-made (did_read oid row ∷ es) x claims = absurd claims
AreClaims-made (did_claim oid ∷ es) x claims = omega (arith, AreClaims-made es x claims)
AreClaims-made (did_write oid row ∷ es) x claims = absurd claims
AreClaims-made (did_make oid ∷ es) x claims = absurd claims

-- claims of the objects of rows
pub AreClaims-rows : (ws : List (ℕ × List ℕ)) → AreClaims (map (λ w. did_claim w.0) ws)
AreClaims-rows [] = tt
AreClaims-rows (w ∷ ws) = AreClaims-rows ws

-- the first ones of which are claims too
pub AreClaims-prefix : (ws : List (ℕ × List ℕ)) (es : List Event) → IsPrefixOf (map (λ w. did_claim w.0) ws) es → AreClaims es
AreClaims-prefix ws es is = AreClaims-front es is.0 (subst AreClaims is.1 (AreClaims-rows ws))

-- the first ones of makes are quiet
pub AreQuiet-first_makes : (count : ℕ) (es : List Event) → AreFirstMakes count es → AreQuiet es
AreQuiet-first_makes count es (made, many, first) = AreQuiet-front es first.0 (subst AreQuiet first.1 (AreQuiet-makes made))

-- and so is what is quiet in two parts
pub AreQuiet-append : (es fs : List Event) → AreQuiet es → AreQuiet fs → AreQuiet (es ++ fs)
AreQuiet-append [] fs a b = b
AreQuiet-append (did_read oid row ∷ es) fs a b = absurd a
AreQuiet-append (did_claim oid ∷ es) fs a b = AreQuiet-append es fs a b
AreQuiet-append (did_write oid row ∷ es) fs a b = absurd a
AreQuiet-append (did_make oid ∷ es) fs a b = AreQuiet-append es fs a b

-- objects made are the first ones of so many, where they aren't more
pub AreFirstMakes-some : (count : ℕ) (made : List ℕ) → length made ≤ count → AreFirstMakes count (map did_make made)
AreFirstMakes-some count made few =
    let rest : List ℕ = replicate (count - length made) 0 in
    (made ++ rest, omega (arith, length-append made rest, length-replicate {A = ℕ} (count - length made) 0), (map did_make rest, map-append did_make made rest))

-- and with one object more, where they are fewer
pub AreFirstMakes-next : (count : ℕ) (made : List ℕ) (oid : ℕ) → length made < count → AreFirstMakes count (map did_make made ++ did_make oid ∷ [])
AreFirstMakes-next count made oid fewer =
    subst (AreFirstMakes count) (map-append did_make made (oid ∷ [])) (AreFirstMakes-some count (made ++ oid ∷ []) (omega (arith, length-append made (oid ∷ []))))

-- the events for the first rows are the first ones of those for all
pub IsPrefixOf-rows : (f : ℕ × List ℕ → Event) (ws : List (ℕ × List ℕ)) (i : ℕ) → IsPrefixOf (map f ws) (map f (take i ws))
IsPrefixOf-rows f ws i = (map f (drop i ws), ap (map f) (sym (take-append-drop i ws)) ∙ map-append f (take i ws) (drop i ws))

-- and with that for the next
pub IsPrefixOf-next : (f : ℕ × List ℕ → Event) (ws : List (ℕ × List ℕ)) (i : ℕ) (d : ℕ × List ℕ) → i < length ws → IsPrefixOf (map f ws) (map f (take i ws) ++ f (get_or ws i d) ∷ [])
IsPrefixOf-next f ws i d inside =
    subst (IsPrefixOf (map f ws)) (ap (map f) (take_more ws i d inside) ∙ map-append f (take i ws) (get_or ws i d ∷ [])) (IsPrefixOf-rows f ws (i + 1))

module _ {S : Type 0} (face : Face S) (goes_on : (a b c : S) → face.follows a b → face.follows b c → face.follows a c) where
  -- one row more
  pub Ran-row : (f : ℕ × List ℕ → Event) (ws : List (ℕ × List ℕ)) (i : ℕ) (d : ℕ × List ℕ) (s t u : S) → i < length ws → Ran face s (map f (take i ws)) t → Does face t (f (get_or ws i d)) u → Ran face s (map f (take (i + 1) ws)) u
  Ran-row f ws i d s t u inside ran does =
      let more : map f (take i ws) ++ f (get_or ws i d) ∷ [] ≡ map f (take (i + 1) ws) = sym (ap (map f) (take_more ws i d inside) ∙ map-append f (take i ws) (get_or ws i d ∷ [])) in
      subst (λ (es : List Event). Ran face s es u) more (Ran-more face goes_on s t u (map f (take i ws)) (f (get_or ws i d)) ran does)

  -- one object more
  pub Ran-object : (made : List ℕ) (oid : ℕ) (s t u : S) → Ran face s (map did_make made) t → Does face t (did_make oid) u → Ran face s (map did_make (made ++ oid ∷ [])) u
  Ran-object made oid s t u ran does =
      subst (λ (es : List Event). Ran face s es u) (sym (map-append did_make made (oid ∷ []))) (Ran-more face goes_on s t u (map did_make made) (did_make oid) ran does)
