-- Streams that are read piece by piece.
use Rattle.std.proofs.Common.{◌≡◌, ℕ, ◌+◌, ◌*◌, ◌≤◌, List, [], ◌∷◌, ◌++◌, length, Option, Some, refl, sym, ap, ◌∙◌, append_assoc, append-nil, subst}
use Rattle.std.specs.List.{flat_map}
use Rattle.std.proofs.lemmas.List.{drop-append-le}
use Rattle.erm_replica.specs.declared.item.LogPlace.{LogPlace}
use Rattle.erm_replica.specs.Cuts.{Drains, FeedsAll, Reads}
use Rattle.erm_replica.specs.Stream.{HasNext, Part, StandsFirst, Streamed, behind, fed, log_behind, part_words}

-- no part is next
abbrev HasNone : Streamed → Type 0
HasNone s = (part : Part) → HasNext s part → ⊥

-- pieces, one behind another
abbrev whole : List (List ℕ) → List ℕ
whole pieces = flat_map (λ piece. piece) pieces

pub fed_twice : (s : Streamed) (xs ys : List ℕ) → fed (fed s xs) ys ≡ fed s (xs ++ ys)
fed_twice s xs ys = ap (λ (rest : List ℕ). let t : Streamed = record { place = s.place; log = s.log; rest = rest } in t) (append_assoc s.rest xs ys)

fed_nothing : (s : Streamed) → fed s [] ≡ s
fed_nothing s = ap (λ (rest : List ℕ). let t : Streamed = record { place = s.place; log = s.log; rest = rest } in t) (append-nil s.rest)

pub reads_join : (s t u : Streamed) (ps qs : List Part) → Reads s ps t → Reads t qs u → Reads s (ps ++ qs) u
reads_join s t u [] qs e rest = subst (λ (x : Streamed). Reads x qs u) e rest
reads_join s t u (p ∷ ps) qs reads rest = (reads.0, reads_join (behind p s) t u ps qs reads.1 rest)

module _ (one : (log : Option LogPlace) (bytes : List ℕ) (a b : Part) → StandsFirst log bytes a → StandsFirst log bytes b → a ≡ b) where
  pub one_reading : (s t u : Streamed) (ps qs : List Part) → Reads s ps t → HasNone t → Reads s qs u → HasNone u → (ps ≡ qs) × (t ≡ u)
  one_reading s t u [] [] e none_t f none_u = (refl, e ∙ sym f)
  one_reading s t u [] (q ∷ qs) e none_t f none_u = absurd (none_t q (subst (λ (x : Streamed). HasNext x q) (sym e) f.0))
  one_reading s t u (p ∷ ps) [] e none_t f none_u = absurd (none_u p (subst (λ (x : Streamed). HasNext x p) (sym f) e.0))
  one_reading s t u (p ∷ ps) (q ∷ qs) e none_t f none_u =
      let same : q ≡ p = one s.log s.rest q p f.0 e.0 in
      let rest = one_reading (behind p s) t u ps qs e.1 none_t (subst (λ (x : Part). Reads (behind x s) qs u) same f.1) none_u in (
        ap (λ (x : Part). x ∷ ps) (sym same) ∙ ap (λ (xs : List Part). q ∷ xs) rest.0,
        rest.1,
      )

module _ (stays : (log : Option LogPlace) (bytes more : List ℕ) (part : Part) → StandsFirst log bytes part → StandsFirst log (bytes ++ more) part)
    (within : (log : Option LogPlace) (bytes : List ℕ) (part : Part) → StandsFirst log bytes part → 8 * length (part_words part) ≤ length bytes) where
  behind_fed : (s : Streamed) (part : Part) (more : List ℕ) → HasNext s part → fed (behind part s) more ≡ behind part (fed s more)
  behind_fed s part more there =
      ap (λ (rest : List ℕ). let t : Streamed = record { place = s.place + length (part_words part); log = Some (log_behind part); rest = rest } in t)
      (sym (drop-append-le (8 * length (part_words part)) s.rest more (within s.log s.rest part there)))

  pub reads_more : (s t : Streamed) (parts : List Part) (more : List ℕ) → Reads s parts t → Reads (fed s more) parts (fed t more)
  reads_more s t [] more e = ap (λ (x : Streamed). fed x more) e
  reads_more s t (p ∷ ps) more reads = (
    stays s.log s.rest more p reads.0,
    subst (λ (x : Streamed). Reads x ps (fed t more)) (behind_fed s p more reads.0) (reads_more (behind p s) t ps more reads.1),
  )

  -- what is taken piece by piece is what all of them at once give
  pub feeds_drain : (s t : Streamed) (pieces : List (List ℕ)) (parts : List Part) → HasNone s → FeedsAll s pieces parts t → Drains (fed s (whole pieces)) parts t
  feeds_drain s t [] parts none feeds = record {
    reads = subst (λ (ps : List Part). Reads (fed s []) ps t) (sym feeds.0) (feeds.1 ∙ sym (fed_nothing s));
    last = subst HasNone (sym feeds.1) none;
  }
  feeds_drain s t (piece ∷ pieces) parts none feeds =
      let first : List Part = feeds.0 in
      let rest : List Part = feeds.1 in
      let u : Streamed = feeds.2 in
      let drains : Drains (fed s piece) first u = feeds.3 in
      let later = feeds_drain u t pieces rest drains.last feeds.4 in
      let all : Reads (fed (fed s piece) (whole pieces)) (first ++ rest) t =
      reads_join (fed (fed s piece) (whole pieces)) (fed u (whole pieces)) t first rest (reads_more (fed s piece) u first (whole pieces) drains.reads) later.reads in
      record {
        reads = subst (λ (ps : List Part). Reads (fed s (piece ++ whole pieces)) ps t) (sym feeds.5)
            (subst (λ (x : Streamed). Reads x (first ++ rest) t) (fed_twice s piece (whole pieces)) all);
        last = later.last;
      }
