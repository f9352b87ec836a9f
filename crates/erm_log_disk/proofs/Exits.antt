-- What is so where a call fails, and lists of pieces cut at an index.
use Rattle.std.proofs.Common.{◌≡◌, ℕ, suc, ◌<◌, List, ◌∷◌, ◌++◌, length, get_or, take, drop, Result, Ok, Err, OnErr, sym, ap, ◌∙◌, drop-cons}
use Rattle.std.proofs.lemmas.List.{take-append-drop}
use Rattle.erm_outside.specs.declared.disk.File.TheVariants.{Slot0}
use Rattle.erm_segment.specs.declared.Piece.{Piece}

pub on_err : {T E : Type 0} (r : Result T E) (P : Type 0) → P → OnErr r P
on_err (Ok x) P p = tt
on_err (Err e) P p = p

-- what stands past the end of pieces, where there is none
abbrev pub no_piece : Piece
no_piece = record { file = Slot0; at = 0; from = 0; count = 0 }

-- the pieces before one, it, and those behind it
pub cut_at : (ps : List Piece) (n : ℕ) → n < length ps → ps ≡ take n ps ++ get_or ps n no_piece ∷ drop (suc n) ps
cut_at ps n lt = sym (take-append-drop n ps) ∙ ap (λ (qs : List Piece). take n ps ++ qs) (drop-cons ps n no_piece lt)
