-- The words that are read as long options.
use Rattle.std.proofs.Common.{◌≡◌, ◌≢◌, ◌⊎◌, ◌==◌, ◌+◌, ◌<◌, ℕ, zero, suc, Bool, true, false, List, [], ◌∷◌, ◌++◌, length, get_or, Option, Some, None, refl, sym, ap, ◌∙◌, inl, inr, subst, arith}
use Rattle.std.specs.Prelude.{if◌then◌else◌}
use Rattle.std.proofs.lemmas.Bool.Decides.{eqb_tells, nat_tests}
use Rattle.std.proofs.lemmas.Grind.{common_steps}
use Rattle.clap.specs.Walk.{Text}
use Rattle.clap.specs.Lexer.{long_of, long_of_rest, name_and_value}
use Rattle.clap.proofs.CutLemmas.{Lacks, after_first-at, before_first-Lacks, before_first-at, list_any-Lacks, list_any-at}

-- the bytes of a long option, behind its two hyphens
abbrev pub spelling : Text → Option Text → Text
spelling name None = name
spelling name (Some value) = name ++ 61 ∷ value

-- a text has no `=`, or is cut at the first
lacks_more : (x : ℕ) (xs : Text) → x ≢ 61 → Lacks 61 xs → Lacks 61 (x ∷ xs)
lacks_more x xs other lacks zero within = other
lacks_more x xs other lacks (suc i) within = lacks i (omega (arith, within))

cut : (t : Text) → Lacks 61 t ⊎ ((name value : Text) × Lacks 61 name × (t ≡ name ++ 61 ∷ value))
cut [] = inl (λ i within. absurd (omega (arith, within)))
cut (x ∷ xs) = elim (eqb_tells x 61) [
  | inl is ↦ inr ([], xs, (λ i within. absurd (omega (arith, within))), ap (λ (y : ℕ). y ∷ xs) is.1)
  | inr other ↦ elim (cut xs) [
    | inl lacks ↦ inl (lacks_more x xs other.1 lacks)
    | inr found ↦ inr (x ∷ found.0, found.1, lacks_more x found.0 other.1 found.2, ap (λ (more : Text). x ∷ more) found.3)
  ]
]

named : (t name : Text) (value : Option Text) → ◌≡◌ {A = Text × Option Text} (name_and_value t) (name, value) → t ≡ spelling name value
named t name value is = elim (cut t) [
  | inl lacks ↦
      let whole : ◌≡◌ {A = Text × Option Text} (name_and_value t) (t, None) = rw (before_first-Lacks 61 t lacks, list_any-Lacks 61 t lacks) refl in
      alone t name value (sym whole ∙ is)
  | inr found ↦
      let parts : ◌≡◌ {A = Text × Option Text} (name_and_value (found.0 ++ 61 ∷ found.1)) (found.0, Some found.1) = rw (before_first-at 61 found.0 found.1 found.2, list_any-at 61 found.0 found.1, after_first-at 61 found.0 found.1 found.2) refl in
      found.3 ∙ valued found.0 found.1 name value (sym parts ∙ sym (ap (λ (u : Text). name_and_value u) found.3) ∙ is)
]
  where
    alone : (t name : Text) (value : Option Text) → ◌≡◌ {A = Text × Option Text} (t, None) (name, value) → t ≡ spelling name value
    alone t name None same = ap (λ (p : Text × Option Text). p.0) same
    alone t name (Some v) same = absurd (let bad : None ≡ Some v = ap (λ (p : Text × Option Text). p.1) same in cc)

    valued : (first second name : Text) (value : Option Text) → ◌≡◌ {A = Text × Option Text} (first, Some second) (name, value) → first ++ 61 ∷ second ≡ spelling name value
    valued first second name None same = absurd (let bad : Some second ≡ None = ap (λ (p : Text × Option Text). p.1) same in cc)
    valued first second name (Some v) same =
        let values : second ≡ v = (let both : Some second ≡ Some v = ap (λ (p : Text × Option Text). p.1) same in cc) in
        ap (λ (u : Text). u ++ 61 ∷ second) (ap (λ (p : Text × Option Text). p.0) same) ∙ ap (λ (u : Text). name ++ 61 ∷ u) values

-- a word that is read as a long option spells it
pub long_spelled : (word name : Text) (value : Option Text) → long_of word ≡ Some (name, value) → word ≡ 45 ∷ 45 ∷ spelling name value
long_spelled [] name value is = absurd (cc)
long_spelled (x ∷ xs) name value is = elim (eqb_tells x 45) [
  | inl hyphen ↦ behind_one x xs name value hyphen.0 hyphen.1 is
  | inr other ↦ absurd (let none : long_of (x ∷ xs) ≡ None = rw other.0 refl in let bad : None ≡ Some (name, value) = sym none ∙ is in cc)
]
  where
    behind_two : (ys name : Text) (value : Option Text) → long_of_rest ys ≡ Some (name, value) → ys ≡ spelling name value
    behind_two [] name value is = absurd (cc)
    behind_two (y ∷ ys) name value is = named (y ∷ ys) name value (let same : Some (name_and_value (y ∷ ys)) ≡ Some (name, value) = is in cc)

    behind_one : (x : ℕ) (xs name : Text) (value : Option Text) → (x == 45) ≡ true → x ≡ 45 → long_of (x ∷ xs) ≡ Some (name, value) → x ∷ xs ≡ 45 ∷ 45 ∷ spelling name value
    behind_one x [] name value test hyphen is = absurd (let none : long_of (x ∷ []) ≡ None = rw test refl in let bad : None ≡ Some (name, value) = sym none ∙ is in cc)
    behind_one x (y ∷ ys) name value test hyphen is = elim (eqb_tells y 45) [
      | inl second ↦
          let read : long_of (x ∷ y ∷ ys) ≡ long_of_rest ys = rw (test, second.0) refl in
          ap (λ (u : ℕ). u ∷ y ∷ ys) hyphen ∙ ap (λ (u : ℕ). 45 ∷ u ∷ ys) second.1 ∙ ap (λ (u : Text). 45 ∷ 45 ∷ u) (behind_two ys name value (sym read ∙ is))
      | inr other ↦ absurd (let none : long_of (x ∷ y ∷ ys) ≡ None = rw (test, other.0) refl in let bad : None ≡ Some (name, value) = sym none ∙ is in cc)
    ]
