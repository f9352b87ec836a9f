-- The text of lines, one after the other.
use Rattle.std.proofs.Common.{◌≡◌, ℕ, ◌+◌, ◌<◌, List, [], ◌∷◌, ◌++◌, length, take, get_or, sym, ap, ◌∙◌}
use Rattle.std.specs.List.{All}
use Rattle.std.proofs.lemmas.List.{flat_map_more, take_more}
use Rattle.std.proofs.lemmas.List.Elements.{All-push}
use Rattle.erm_report.specs.declared.line.Line.{Line}
use Rattle.erm_report.specs.Printable.{FitsTypes, IsInTables}
use Rattle.erm_report.specs.Texts.{line_text, text_of}

-- a line fits its types, where its table is one of those that there are
abbrev pub Fits : Line → Type 0
Fits l = IsInTables l → FitsTypes l

-- a text of some lines, and the text of the next one
pub line_more : (text more : List ℕ) (lines : List Line) (k : ℕ) (l : Line) → k < length lines → l ≡ get_or lines k l
    → (text ≡ text_of (take k lines)) × All Fits (take k lines) → more ≡ text ++ line_text l → Fits l
    → (more ≡ text_of (take (k + 1) lines)) × All Fits (take (k + 1) lines)
line_more text more lines k l within is so_far added fits =
    let next : take (k + 1) lines ≡ take k lines ++ l ∷ [] = take_more lines k l within ∙ ap (λ (x : Line). take k lines ++ x ∷ []) (sym is) in
    rw next (
      added ∙ ap (λ (t : List ℕ). t ++ line_text l) so_far.0 ∙ flat_map_more line_text [] (take k lines) l,
      All-push Fits (take k lines) l so_far.1 fits,
    )

-- the same of lines that fit alone
pub fits_more : (lines : List Line) (k : ℕ) (l : Line) → k < length lines → l ≡ get_or lines k l → All Fits (take k lines) → Fits l → All Fits (take (k + 1) lines)
fits_more lines k l within is so_far fits =
    let next : take (k + 1) lines ≡ take k lines ++ l ∷ [] = take_more lines k l within ∙ ap (λ (x : Line). take k lines ++ x ∷ []) (sym is) in
    rw next (All-push Fits (take k lines) l so_far fits)
