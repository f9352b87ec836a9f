-- Lists place by place: one more at the end of each.
use Rattle.std.proofs.Common.{◌≡◌, ℕ, List, [], ◌∷◌, ◌++◌, length, Some, inl, inr, sym, subst, arith}
use Rattle.std.specs.List.{slice_get}
use Rattle.erm_client_beside.specs.Lists.{ArePaired, AreTripled}
use Rattle.erm_model.proofs.Members.{slice_get-push}
use Rattle.erm_run_beside.proofs.More.{longer}
use Rattle.erm_threads.proofs.Jobs.{there_is}

-- WHAT IS SO OF EACH
pub each_then : {X : Type 0} {Q R : X → Type 0} (xs : List X) (x : X) → ((k : ℕ) (y : X) → slice_get xs k ≡ Some y → Q y) → ((y : X) → Q y → R y) → R x
    → (k : ℕ) (y : X) → slice_get (xs ++ x ∷ []) k ≡ Some y → R y
each_then {X} {Q} {R} xs x each then one k y at = elim (slice_get-push xs x y k at) [
  | inl before ↦ then y (each k y before.1)
  | inr here ↦ subst R here.1 one
]

pub whole_each : {X : Type 0} {R : X → Type 0} (gone all : List X) → gone ≡ all → ((k : ℕ) (y : X) → slice_get gone k ≡ Some y → R y) → (k : ℕ) (y : X) → slice_get all k ≡ Some y → R y
whole_each {X} {R} gone all whole each k y at = each k y (subst (λ (l : List X). slice_get l k ≡ Some y) (sym whole) at)

-- PAIRS
pub none_paired : {X Y : Type 0} (So : ℕ → X → Y → Type 0) (ys : List Y) → ys ≡ [] → ArePaired So [] ys
none_paired {X} {Y} So ys none = subst (λ (l : List Y). ArePaired So [] l) (sym none) (record { many = omega arith; each = λ k x y at at_y. absurd (let less = there_is [] k x at in omega (arith, less)) })

pub more_paired : {X Y : Type 0} (So : ℕ → X → Y → Type 0) (xs : List X) (ys now : List Y) (x : X) (y : Y) → now ≡ ys ++ y ∷ [] → ArePaired So xs ys → So (length xs) x y
    → ArePaired So (xs ++ x ∷ []) now
more_paired {X} {Y} So xs ys now x y is are one = subst (λ (l : List Y). ArePaired So (xs ++ x ∷ []) l) (sym is) (record {
  many = let a = longer xs x in let b = longer ys y in let many = are.many in omega (arith, a, b, many);
  each = λ k u w at_u at_w. elim (slice_get-push xs x u k at_u) [
    | inl before ↦ elim (slice_get-push ys y w k at_w) [
      | inl earlier ↦ are.each k u w before.1 earlier.1
      | inr last ↦ absurd (let less = before.0 in let is = last.0 in let many = are.many in omega (arith, less, is, many))
    ]
    | inr here ↦ elim (slice_get-push ys y w k at_w) [
      | inl earlier ↦ absurd (let is = here.0 in let less = earlier.0 in let many = are.many in omega (arith, less, is, many))
      | inr last ↦ subst (λ (z : X). So k z w) here.1 (subst (λ (z : Y). So k x z) last.1 (subst (λ (n : ℕ). So n x y) (sym here.0) one))
    ]
  ];
})

-- TRIPLES
pub none_tripled : {X Y Z : Type 0} (So : ℕ → X → Y → Z → Type 0) (ys : List Y) (zs : List Z) → ys ≡ [] → zs ≡ [] → AreTripled So [] ys zs
none_tripled {X} {Y} {Z} So ys zs none too =
    subst (λ (l : List Y). AreTripled So [] l zs) (sym none) (subst (λ (l : List Z). AreTripled So [] [] l) (sym too)
    (record { many = omega arith; as_many = omega arith; each = λ k x y z at at_y at_z. absurd (let less = there_is [] k x at in omega (arith, less)) }))

pub more_tripled : {X Y Z : Type 0} (So : ℕ → X → Y → Z → Type 0) (xs : List X) (ys : List Y) (zs : List Z) (x : X) (y : Y) (z : Z) (now : List Y) (then : List Z)
    → now ≡ ys ++ y ∷ [] → then ≡ zs ++ z ∷ [] → AreTripled So xs ys zs → So (length xs) x y z → AreTripled So (xs ++ x ∷ []) now then
more_tripled {X} {Y} {Z} So xs ys zs x y z now then is so are one =
    subst (λ (l : List Y). AreTripled So (xs ++ x ∷ []) l then) (sym is) (subst (λ (l : List Z). AreTripled So (xs ++ x ∷ []) (ys ++ y ∷ []) l) (sym so) (record {
      many = let a = longer xs x in let b = longer ys y in let many = are.many in omega (arith, a, b, many);
      as_many = let a = longer xs x in let b = longer zs z in let many = are.as_many in omega (arith, a, b, many);
      each = λ k u v w at_u at_v at_w. elim (slice_get-push xs x u k at_u) [
        | inl before ↦ elim (slice_get-push ys y v k at_v) [
          | inl earlier ↦ elim (slice_get-push zs z w k at_w) [
            | inl third ↦ are.each k u v w before.1 earlier.1 third.1
            | inr last ↦ absurd (let less = before.0 in let is = last.0 in let many = are.as_many in omega (arith, less, is, many))
          ]
          | inr last ↦ absurd (let less = before.0 in let is = last.0 in let many = are.many in omega (arith, less, is, many))
        ]
        | inr here ↦ elim (slice_get-push ys y v k at_v) [
          | inl earlier ↦ absurd (let is = here.0 in let less = earlier.0 in let many = are.many in omega (arith, less, is, many))
          | inr last ↦ elim (slice_get-push zs z w k at_w) [
            | inl third ↦ absurd (let is = here.0 in let less = third.0 in let many = are.as_many in omega (arith, less, is, many))
            | inr end ↦
                subst (λ (a : X). So k a v w) here.1 (subst (λ (a : Y). So k x a w) last.1 (subst (λ (a : Z). So k x y a) end.1 (subst (λ (n : ℕ). So n x y z) (sym here.0) one)))
          ]
        ]
      ];
    }))

pub whole_tripled : {X Y Z : Type 0} (So : ℕ → X → Y → Z → Type 0) (gone all : List X) (ys : List Y) (zs : List Z) → gone ≡ all → AreTripled So gone ys zs → AreTripled So all ys zs
whole_tripled {X} {Y} {Z} So gone all ys zs whole are = subst (λ (l : List X). AreTripled So l ys zs) whole are
