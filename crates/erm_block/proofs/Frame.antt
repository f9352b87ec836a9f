-- Four words, a payload and a last word, laid out at the front of a list.
use Rattle.std.proofs.Common.{◌≡◌, ℕ, ◌+◌, ◌-◌, ◌<◌, ◌≤◌, List, [], ◌∷◌, ◌++◌, length, get_or, set, take, drop, sym, ap, ◌∙◌, arith, length-append}
use Rattle.std.proofs.lemmas.List.{append_assoc, set_at, take_at, drop_at, drop_more, drop-drop}
use borrow.Rule.Slice.PartMut.{put_mid}

-- the list with the four words and the payload in place
abbrev pub laid : List ℕ → ℕ → ℕ → ℕ → ℕ → ℕ → List ℕ → List ℕ
laid out h s u m n payload = put_mid 4 n (set (set (set (set out 0 h) 1 s) 2 u) 3 m) payload

-- they stand in front of what was behind them
pub laid_lem : (out : List ℕ) (h s u m n : ℕ) (payload : List ℕ) → 4 ≤ length out → laid out h s u m n payload ≡ (h ∷ s ∷ u ∷ m ∷ payload) ++ drop (4 + n) out
laid_lem [] h s u m n payload room = absurd (omega arith)
laid_lem (a ∷ []) h s u m n payload room = absurd (omega arith)
laid_lem (a ∷ b ∷ []) h s u m n payload room = absurd (omega arith)
laid_lem (a ∷ b ∷ c ∷ []) h s u m n payload room = absurd (omega arith)
laid_lem (a ∷ b ∷ c ∷ d ∷ out) h s u m n payload room =
    let behind : drop n out ≡ drop (4 + n) (a ∷ b ∷ c ∷ d ∷ out) = drop-drop n 4 (a ∷ b ∷ c ∷ d ∷ out) in
    ap (λ (rest : List ℕ). h ∷ s ∷ u ∷ m ∷ (payload ++ rest)) behind

-- a last word set behind the front takes the place of one
pub set-last : (front out : List ℕ) (k d : ℕ) → length front ≡ k → k < length out → set (front ++ drop k out) k d ≡ (front ++ d ∷ []) ++ drop (k + 1) out
set-last front out k d len room =
    ap (λ (rest : List ℕ). set (front ++ rest) k d) (drop_more out k 0 room)
    ∙ set_at front (get_or out k 0) (drop (k + 1) out) d k len
    ∙ sym (append_assoc front (d ∷ []) (drop (k + 1) out))

-- the front, and what follows it
pub record IsFramed (out : List ℕ) (size : ℕ) (body : List ℕ) (d : ℕ) (before now : List ℕ) : Type 0 where
  pub body_is : take (size - 1) before ≡ body
  pub whole : take size now ≡ body ++ d ∷ []
  pub behind : drop size now ≡ drop size out

-- the four words, the payload and a last word are laid out at the front
pub framed : (out : List ℕ) (h s u m d size : ℕ) (payload : List ℕ) → length payload + 5 ≡ size → size ≤ length out
    → IsFramed out size (h ∷ s ∷ u ∷ m ∷ payload) d (laid out h s u m (size - 1 - 4) payload) (set (laid out h s u m (size - 1 - 4) payload) (size - 1) d)
framed out h s u m d size payload len room =
    let body : List ℕ = h ∷ s ∷ u ∷ m ∷ payload in
    let n : 4 + (size - 1 - 4) ≡ size - 1 = omega arith in
    let k : length body ≡ size - 1 = omega arith in
    let end : size - 1 + 1 ≡ size = omega arith in
    let placed : laid out h s u m (size - 1 - 4) payload ≡ body ++ drop (size - 1) out = laid_lem out h s u m (size - 1 - 4) payload (omega arith) ∙ ap (λ (j : ℕ). body ++ drop j out) n in
    let done : set (laid out h s u m (size - 1 - 4) payload) (size - 1) d ≡ (body ++ d ∷ []) ++ drop size out =
    ap (λ (l : List ℕ). set l (size - 1) d) placed ∙ set-last body out (size - 1) d k (omega arith) ∙ ap (λ (j : ℕ). (body ++ d ∷ []) ++ drop j out) end in
    let long : length (body ++ d ∷ []) ≡ size = length-append body (d ∷ []) ∙ omega arith in
    record {
      body_is = ap (take (size - 1)) placed ∙ take_at body (drop (size - 1) out) (size - 1) k;
      whole = ap (take size) done ∙ take_at (body ++ d ∷ []) (drop size out) size long;
      behind = ap (drop size) done ∙ drop_at (body ++ d ∷ []) (drop size out) size long;
    }
