-- Claims that go back one after another, in order.
use Rattle.std.proofs.Common.{◌≡◌, ℕ, zero, suc, ◌<◌, ◌≤◌, Bool, Option, Some, None, List, [], ◌∷◌, ◌++◌, length, map, take, drop, set, get_or, cond, eqb, true, false, refl, sym, ap, ◌∙◌, arith, append-nil}
use Rattle.std.specs.List.{slice_get}
use Rattle.std.proofs.lemmas.Bool.{cond-true, cond-false, eq-eqb, ne_eqb}
use Rattle.std.proofs.lemmas.List.{drop_all, take_all}
use Rattle.std.proofs.lemmas.Option.{slice_get-get_or}
use Rattle.erm_model.specs.declared.history.VersionWritten.{VersionWritten}
use Rattle.erm_world.specs.Going.{found_by}
use Rattle.erm_world.specs.Saves.{OnceOf, restored, undone}
use Rattle.erm_world.specs.Works.{with_row}

-- a claim as it was saved, or undone where it wasn't
abbrev pub claim_back : Option VersionWritten → VersionWritten → VersionWritten
claim_back (Some s) c = s
claim_back None c = undone c

-- one that found what the one saved did, and has its row and counts as set as it does, is that one
as_saved : (s c : VersionWritten) → found_by c ≡ found_by s → record c { row = s.row; is_set = s.is_set } ≡ s
as_saved s c same =
    ap (λ (f : ℕ × ℕ × List ℕ). let claim : VersionWritten = record { oid = f.0; stamp = f.1; base = f.2; row = s.row; is_set = s.is_set } in claim) same

pub saved_set : (s c : VersionWritten) → found_by c ≡ found_by s → s.is_set ≡ true → record c { row = s.row; is_set = true } ≡ s
saved_set s c same set_so = ap (λ (b : Bool). let claim : VersionWritten = record c { row = s.row; is_set = b } in claim) (sym set_so) ∙ as_saved s c same

pub saved_unset : (s c : VersionWritten) → found_by c ≡ found_by s → s.is_set ≡ false → s.row ≡ s.base → undone c ≡ s
saved_unset s c same unset kept =
    let base : c.base ≡ s.row = ap (λ (f : ℕ × ℕ × List ℕ). f.2) same ∙ sym kept in
    ap (λ (row : List ℕ). let claim : VersionWritten = record c { row = row; is_set = false } in claim) base
    ∙ ap (λ (b : Bool). let claim : VersionWritten = record c { row = s.row; is_set = b } in claim) (sym unset) ∙ as_saved s c same

-- claims of which those before a place have gone back
abbrev pub halfway : (saved claims : List VersionWritten) → ℕ → List VersionWritten
halfway saved claims i = restored saved (take i claims) ++ drop i claims

pub halfway-none : (saved claims : List VersionWritten) → halfway saved claims 0 ≡ claims
halfway-none [] claims = refl
halfway-none (s ∷ saved) claims = refl

pub halfway-all : (saved claims : List VersionWritten) (i : ℕ) → length claims ≤ i → halfway saved claims i ≡ restored saved claims
halfway-all saved claims i all =
    ap (λ (rest : List VersionWritten). restored saved (take i claims) ++ rest) (drop_all i claims all) ∙ append-nil (restored saved (take i claims)) ∙ ap (restored saved) (take_all i claims all)

-- the claim at the place is as it was
pub halfway-at : (saved claims : List VersionWritten) (i : ℕ) (d : VersionWritten) → get_or (halfway saved claims i) i d ≡ get_or claims i d
halfway-at [] [] zero d = refl
halfway-at [] [] (suc i) d = refl
halfway-at (s ∷ saved) [] zero d = refl
halfway-at (s ∷ saved) [] (suc i) d = refl
halfway-at [] (c ∷ claims) zero d = refl
halfway-at (s ∷ saved) (c ∷ claims) zero d = refl
halfway-at [] (c ∷ claims) (suc i) d = halfway-at [] claims i d
halfway-at (s ∷ saved) (c ∷ claims) (suc i) d = halfway-at saved claims i d

-- and then it goes back
pub halfway-set : (saved claims : List VersionWritten) (i : ℕ) (d : VersionWritten) → i < length claims
    → set (halfway saved claims i) i (claim_back (slice_get saved i) (get_or claims i d)) ≡ halfway saved claims (suc i)
halfway-set saved [] i d within = absurd (omega arith)
halfway-set [] (c ∷ claims) zero d within = refl
halfway-set (s ∷ saved) (c ∷ claims) zero d within = ap (λ (rest : List VersionWritten). s ∷ rest) (sym (halfway-none saved claims))
halfway-set [] (c ∷ claims) (suc i) d within = ap (λ (rest : List VersionWritten). undone c ∷ rest) (halfway-set [] claims i d (omega arith))
halfway-set (s ∷ saved) (c ∷ claims) (suc i) d within = ap (λ (rest : List VersionWritten). s ∷ rest) (halfway-set saved claims i d (omega arith))

pub halfway-length : (saved claims : List VersionWritten) (i : ℕ) → length (halfway saved claims i) ≡ length claims
halfway-length saved [] zero = ap length (halfway-none saved [])
halfway-length [] [] (suc i) = refl
halfway-length (s ∷ saved) [] (suc i) = refl
halfway-length saved (c ∷ claims) zero = ap length (halfway-none saved (c ∷ claims))
halfway-length [] (c ∷ claims) (suc i) = ap suc (halfway-length [] claims i)
halfway-length (s ∷ saved) (c ∷ claims) (suc i) = ap suc (halfway-length saved claims i)

-- THE ROW of a claimed object is set, where each object is claimed once: that of the claim at its place.
hit : (oid : ℕ) (row : List ℕ) (c : VersionWritten) → c.oid ≡ oid → with_row oid row c ≡ record c { row = row; is_set = true }
hit oid row c same =
    let is : eqb c.oid oid ≡ true = eq-eqb c.oid oid same in
    let one : cond (eqb c.oid oid) row c.row ≡ row = cond-true (eqb c.oid oid) row c.row is in
    let two : cond (eqb c.oid oid) true c.is_set ≡ true = cond-true (eqb c.oid oid) true c.is_set is in
    cc

miss : (oid : ℕ) (row : List ℕ) (c : VersionWritten) → (c.oid ≡ oid → ⊥) → with_row oid row c ≡ c
miss oid row c other =
    let is : eqb c.oid oid ≡ false = ne_eqb c.oid oid other in
    let one : cond (eqb c.oid oid) row c.row ≡ c.row = cond-false (eqb c.oid oid) row c.row is in
    let two : cond (eqb c.oid oid) true c.is_set ≡ c.is_set = cond-false (eqb c.oid oid) true c.is_set is in
    cc

missed : (oid : ℕ) (row : List ℕ) (claims : List VersionWritten) → ((k : ℕ) (c : VersionWritten) → slice_get claims k ≡ Some c → c.oid ≡ oid → ⊥)
    → map (with_row oid row) claims ≡ claims
missed oid row [] none = refl
missed oid row (c ∷ claims) none = λ i. miss oid row c (none zero c refl) i ∷ missed oid row claims (λ k d at. none (suc k) d at) i

once_rest : (c : VersionWritten) (claims : List VersionWritten) → OnceOf (c ∷ claims) → OnceOf claims
once_rest c claims once i j d e at_i at_j same = let next : suc i ≡ suc j = once (suc i) (suc j) d e at_i at_j same in omega (arith, next)

pub setting-once : (claims : List VersionWritten) (place oid : ℕ) (row : List ℕ) (d : VersionWritten) → OnceOf claims → place < length claims → (get_or claims place d).oid ≡ oid
    → map (with_row oid row) claims ≡ set claims place (record (get_or claims place d) { row = row; is_set = true })
setting-once [] place oid row d once within is = absurd (omega arith)
setting-once (c ∷ claims) zero oid row d once within is = λ i. hit oid row c is i ∷ missed oid row claims others i
  where
    others : (k : ℕ) (e : VersionWritten) → slice_get claims k ≡ Some e → e.oid ≡ oid → ⊥
    others k e at same = let twice : suc k ≡ zero = once (suc k) zero e c at refl (same ∙ sym is) in absurd (omega (arith, twice))
setting-once (c ∷ claims) (suc place) oid row d once within is =
    let rest = setting-once claims place oid row d (once_rest c claims once) (omega arith) is in
    λ i. miss oid row c other i ∷ rest i
  where
    other : c.oid ≡ oid → ⊥
    other same =
        let there = slice_get-get_or claims place d (omega arith) in
        let twice : zero ≡ suc place = once zero (suc place) c (get_or claims place d) refl there (same ∙ sym is) in
        absurd (omega (arith, twice))
