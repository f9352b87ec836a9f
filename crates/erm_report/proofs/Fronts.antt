-- A text that stands in front of another.
use Rattle.std.proofs.Common.{◌≡◌, ℕ, List, ◌++◌, length, take, drop, sym, ap, ◌∙◌, append_assoc}
use Rattle.std.proofs.Math.Seq.{take-append_seam}
use Rattle.std.proofs.lemmas.List.{take-append-drop}

-- what stands in front of a text stands in front of what that text is in front of
pub take_front : (old new mid text : List ℕ) → mid ≡ old ++ text → take (length mid) new ≡ mid → take (length old) new ≡ old
take_front old new mid text is front =
    let rest = drop (length mid) new in
    let whole : old ++ (text ++ rest) ≡ new =
    sym (append_assoc old text rest) ∙ ap (λ m. m ++ rest) (sym is) ∙ ap (λ m. m ++ rest) (sym front) ∙ take-append-drop (length mid) new in
    ap (take (length old)) (sym whole) ∙ take-append_seam old (text ++ rest)
