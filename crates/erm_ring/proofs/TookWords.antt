-- The steps of a gather, word by word.
use Rattle.std.proofs.Common.{◌≡◌, ◌≢◌, ℕ, zero, suc, ◌+◌, ◌<◌, ◌≤◌, ⊎_elim, List, ◌∷◌, length, get_or, set, refl, sym, ap, ◌∙◌, subst, inl, inr, arith, get_or-set_same, get_or-set_other}
use Rattle.std.proofs.lemmas.Bool.{cases_eq, cases_lt}
use Rattle.erm_machine.specs.declared.event.Kind.{Kind}
use Rattle.erm_machine.specs.declared.event.Kind.TheVariants as kind
use Rattle.erm_machine.specs.declared.event.TailUse.TheVariants as purpose
use Rattle.erm_machine.specs.declared.limits.TheConstants.{FLUSH_SEAT, RING_WORDS}
use Rattle.erm_model.specs.RowTransaction.{Law}
use Rattle.erm_rule.specs.declared.view.Book.{Book}
use Rattle.erm_rule.specs.Steps.{Booked}
use Rattle.erm_rule.specs.Went.{Took}
use Rattle.erm_world.specs.declared.gathered.Gathered.{Gathered}
use Rattle.erm_world.specs.declared.gathered.Gathered.TheVariants.{Empty, Unfilled, Words}
use Rattle.erm_ring.specs.Took.{TookGather, TookGathered, TookWords, ring_steps}

abbrev F : ℕ
F = FLUSH_SEAT

-- the first words stay where a later one is set
steps_set : (from word : ℕ) (words : List ℕ) (i n : ℕ) → n ≤ i → ring_steps from (set words i word) n ≡ ring_steps from words n
steps_set from word words i zero low = refl
steps_set from word words i (suc n) low =
    let other : n ≢ i = λ same. absurd (omega (arith, low, same)) in
    ap (λ (w : ℕ). let steps : List (Kind × ℕ) = (kind.LoadRing (from + n), w) ∷ ring_steps from (set words i word) n in steps) (get_or-set_other words i n word 0 other)
    ∙ ap (λ (steps : List (Kind × ℕ)). let more : List (Kind × ℕ) = (kind.LoadRing (from + n), get_or words n 0) ∷ steps in more) (steps_set from word words i n (omega (arith, low)))

module _ (law : Law) (tail from : ℕ) (b : Book) where
  -- none yet, and one more
  pub words_none : (words : List ℕ) (m e : Book) → Booked law b F (kind.LoadTail purpose.Gather) tail m → Booked law m F kind.LoadFlushed from e → TookWords law tail from 0 words b e
  words_none words m e one two = record { began = e; begins = (m, (b, refl, one), two); loads = refl }

  pub words_more : (count word : ℕ) (words : List ℕ) (m e : Book) → count < length words → TookWords law tail from count words b m → Booked law m F (kind.LoadRing (from + count)) word e
      → TookWords law tail from (count + 1) (set words count word) b e
  words_more count word words m e less took booked = record {
    began = took.began;
    begins = took.begins;
    loads = subst (λ (n : ℕ). Took law F (ring_steps from (set words count word) n) took.began e) next (m, before, here);
  }
    where
      next : suc count ≡ count + 1
      next = omega arith

      before : Took law F (ring_steps from (set words count word) count) took.began m
      before = subst (λ (steps : List (Kind × ℕ)). Took law F steps took.began m) (sym (steps_set from word words count count (omega arith))) took.loads

      here : Booked law m F (kind.LoadRing (from + count)) (get_or (set words count word) count 0) e
      here = subst (λ (w : ℕ). Booked law m F (kind.LoadRing (from + count)) w e) (sym (get_or-set_same words count word 0 less)) booked

  -- what the gather answers
  pub took_gather : (count : ℕ) (words : List ℕ) (e : Book) → TookGathered law tail from count words b e → (r : Gathered) → (0 < count → r ≡ Words from count)
      → (count ≡ 0 → tail ≤ from → r ≡ Empty from) → (count ≡ 0 → from < tail → r ≡ Unfilled from) → TookGather law r words b e
  took_gather count words e took r some empty unfilled =
      ⊎_elim
      (λ (none : count ≡ 0).
      let at_once : TookGathered law tail from 0 words b e = subst (λ (n : ℕ). TookGathered law tail from n words b e) none took in
      ⊎_elim (λ (low : from < tail). subst (λ (g : Gathered). TookGather law g words b e) (sym (unfilled none low)) (tail, low, at_once))
      (λ (high : tail ≤ from). subst (λ (g : Gathered). TookGather law g words b e) (sym (empty none high)) (tail, high, at_once))
      (cases_lt from tail))
      (λ (ne : count ≡ 0 → ⊥).
      let many : 0 < count = omega (arith, ne) in
      subst (λ (g : Gathered). TookGather law g words b e) (sym (some many)) (tail, many, took))
      (cases_eq count 0)

  -- and where the ring's end is reached
  pub took_full : (count : ℕ) (words : List ℕ) (e : Book) → count ≡ RING_WORDS → length words ≡ RING_WORDS → TookWords law tail from count words b e → (r : Gathered)
      → (0 < length words → r ≡ Words from (length words)) → (length words ≡ 0 → tail ≤ from → r ≡ Empty from) → (length words ≡ 0 → from < tail → r ≡ Unfilled from)
      → TookGather law r words b e
  took_full count words e full room took r some empty unfilled =
      let all : length words ≡ count = room ∙ sym full in
      took_gather count words e (record { few = (omega (arith, full)); gathered = e; loads = took; stop = inl (inr full, refl) }) r (subst (λ (n : ℕ). 0 < n → r ≡ Words from n) all some)
      (λ none. empty (all ∙ none)) (λ none. unfilled (all ∙ none))
