-- Bytes taken, a part after a part.
use Rattle.std.proofs.Common.{◌≡◌, ℕ, ◌+◌, ◌≤◌, List, [], ◌++◌, length, take, drop, Option, Some, None, IfSome, refl, sym, ap, ◌∙◌, subst, arith, length-append, length-drop}
use Rattle.std.proofs.Math.Seq.{take-add}
use Rattle.std.proofs.lemmas.List.{drop-drop, length-take-le, take_all}
use Rattle.erm_outside.specs.Source.{Takes}

-- the bytes so far are the front of those that were left at first
abbrev pub IsFront : List ℕ → List ℕ → Option (List ℕ) → Type 0
IsFront bytes left now = (length bytes ≤ length left) × (bytes ≡ take (length bytes) left) × (now ≡ Some (drop (length bytes) left))

-- bytes taken are the front of those left, and some more after them too
front_more : (bytes left more : List ℕ) (n : ℕ) (buffer : List ℕ) (mid now : Option (List ℕ)) → IsFront bytes left mid → IfSome mid (λ rest. Takes rest n buffer now) →
    more ≡ bytes ++ take n buffer → IsFront more left now
front_more bytes left more n buffer mid now f t is =
    let k = length bytes in
    let told : Takes (drop k left) n buffer now = subst (λ o. IfSome o (λ rest. Takes rest n buffer now)) f.2 t in
    let room = length-drop k left in
    let there : n ≤ length (drop k left) = told.there in
    let within : k + n ≤ length left = omega (arith, room, there, f.0) in
    let long : length more ≡ k + n = ap length is ∙ length-append bytes (take n buffer) ∙ ap (λ m. k + m) (ap length told.front ∙ length-take-le n (drop k left) there) in (
      omega (arith, long, within),
      is ∙ ap (λ x. bytes ++ x) told.front ∙ ap (λ x. x ++ take n (drop k left)) f.1 ∙ sym (take-add k n left) ∙ ap (λ m. take m left) (sym long),
      told.rest ∙ ap (λ x. Some x) (drop-drop n k left ∙ ap (λ m. drop m left) (sym long)),
    )

-- the same, where the source tells
pub fronts_more : (at_first : Option (List ℕ)) (bytes more : List ℕ) (n : ℕ) (buffer : List ℕ) (mid now : Option (List ℕ)) →
    IfSome at_first (λ left. IsFront bytes left mid) → IfSome mid (λ rest. Takes rest n buffer now) →
    more ≡ bytes ++ take n buffer → IfSome at_first (λ left. IsFront more left now)
fronts_more None bytes more n buffer mid now f t is = tt
fronts_more (Some left) bytes more n buffer mid now f t is = front_more bytes left more n buffer mid now f t is

end_of : (bytes left : List ℕ) (n : ℕ) (buffer : List ℕ) (mid now : Option (List ℕ)) → IsFront bytes left mid → IfSome mid (λ rest. Takes rest n buffer now) → n ≡ 0 →
    (bytes ≡ left) × (now ≡ Some [])
end_of bytes left n buffer mid now f t none =
    let k = length bytes in
    let told : Takes (drop k left) n buffer now = subst (λ o. IfSome o (λ rest. Takes rest n buffer now)) f.2 t in
    let nothing_left : drop k left ≡ [] = told.end none in
    let all : length left ≤ k = omega (arith, length-drop k left, ap length nothing_left, length-nil) in
    (f.1 ∙ take_all k left all, told.rest ∙ ap (λ m. Some (drop m (drop k left))) none ∙ ap (λ x. Some x) nothing_left)
  where
    length-nil : length {A = ℕ} [] ≡ 0
    length-nil = refl

-- where nothing more comes, all that was left was taken
pub fronts_end : (at_first : Option (List ℕ)) (bytes : List ℕ) (n : ℕ) (buffer : List ℕ) (mid now : Option (List ℕ)) →
    IfSome at_first (λ left. IsFront bytes left mid) → IfSome mid (λ rest. Takes rest n buffer now) → n ≡ 0 →
    IfSome at_first (λ left. (bytes ≡ left) × (now ≡ Some []))
fronts_end None bytes n buffer mid now f t none = tt
fronts_end (Some left) bytes n buffer mid now f t none = end_of bytes left n buffer mid now f t none
