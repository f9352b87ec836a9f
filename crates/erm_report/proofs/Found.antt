-- The keys that a scan found, one after the other.
use Rattle.std.proofs.Common.{◌≡◌, ℕ, ◌+◌, ◌<◌, List, [], ◌∷◌, ◌++◌, length, take, get_or, decimal, sym, ap, ◌∙◌, append_assoc, codes}
use Rattle.std.specs.List.{All, flat_map}
use Rattle.std.proofs.lemmas.List.{flat_map_more, take_more}
use Rattle.std.proofs.lemmas.List.Elements.{All-push}
use Rattle.erm_model.specs.Spelling.{value_word}
use Rattle.erm_report.specs.Printable.{FitsFound}
use Rattle.erm_report.specs.Texts.{found_text}

-- a text of some keys, and the text of the next one
pub one_more : (front out after : List ℕ) (words count : List ℕ) (pairs : List (ℕ × List ℕ)) (k : ℕ) (found : ℕ × List ℕ) → k < length pairs → found ≡ get_or pairs k found
    → out ≡ front ++ (words ++ count ++ flat_map found_text (take k pairs)) × All FitsFound (take k pairs)
    → after ≡ out ++ (codes " " ++ decimal found.0 ++ codes " " ++ value_word found.1) → FitsFound found
    → after ≡ front ++ (words ++ count ++ flat_map found_text (take (k + 1) pairs)) × All FitsFound (take (k + 1) pairs)
one_more front out after words count pairs k found within is so_far more fits =
    let next : take (k + 1) pairs ≡ take k pairs ++ found ∷ [] = take_more pairs k found within ∙ ap (λ (p : ℕ × List ℕ). take k pairs ++ p ∷ []) (sym is) in
    rw next (
      more ∙ ap (λ (t : List ℕ). t ++ found_text found) so_far.0 ∙ append_assoc front (words ++ count ++ flat_map found_text (take k pairs)) (found_text found)
          ∙ ap (λ (t : List ℕ). front ++ t) (flat_map_more found_text (words ++ count) (take k pairs) found),
      All-push FitsFound (take k pairs) found so_far.1 fits,
    )
