-- What the places of a report may have drawn, made or claimed, by session and in all.
use Rattle.std.proofs.Common.{◌≡◌, ℕ, zero, suc, ◌+◌, ◌<◌, ◌≤◌, ◌==◌, Bool, cond, List, [], ◌∷◌, map, sum_by, Option, Some, None, refl, ap, inl, inr, ne_eqb, arith}
use Rattle.std.proofs.lemmas.Bool.Decides.{eqb_tells}
use Rattle.std.proofs.lemmas.List.Sums.{sum_by-append, sum_by-cons}
use Rattle.erm_report.specs.declared.answer.Answer.{Answer}
use Rattle.erm_script.specs.declared.script.Command.{Command}
use Rattle.erm_script.specs.declared.script.ScriptLine.{ScriptLine}
use Rattle.erm_good_report.specs.GoodReport.{places_of}
use Rattle.erm_good_report.specs.Phases.{Closed}
use Rattle.erm_good_report.specs.Refusals.{total_of}
use Rattle.erm_good_report.specs.Transactions.{Said, said_of}
use Rattle.erm_told.proofs.Closing.{close_said}

module _ (count : Command → ℕ) where
  -- how much a place counts; of a session's own places
  abbrev pub count_asked : Option Command → ℕ
  count_asked None = 0
  count_asked (Some c) = count c

  abbrev pub own_count : ℕ → Said → ℕ
  own_count seat s = cond (s.session == seat) (count_asked s.asked) 0

  abbrev pub own_total : ℕ → List Said → ℕ
  own_total seat said = sum_by (λ s. own_count seat s) said

  -- of those of the sessions up to a number
  unfoldable pub counted_upto : ℕ → List Said → ℕ
  counted_upto zero said = 0
  counted_upto (suc n) said = counted_upto n said + own_total (suc n) said

  place_upto : ℕ → Said → ℕ
  place_upto zero s = 0
  place_upto (suc n) s = place_upto n s + own_count (suc n) s

  -- a place is that of one session
  place_none : (n : ℕ) (s : Said) → n < s.session → place_upto n s ≡ 0
  unfolding place_upto
  place_none zero s above = refl
  place_none (suc n) s above =
      let none : own_count (suc n) s ≡ 0 = ap (λ (b : Bool). cond b (count_asked s.asked) 0) (ne_eqb s.session (suc n) (λ is. omega (arith, is, above))) in
      omega (arith, place_none n s (omega (arith, above)), none)

  place_most : (n : ℕ) (s : Said) → place_upto n s ≤ count_asked s.asked
  unfolding place_upto
  place_most zero s = omega arith
  place_most (suc n) s = elim (eqb_tells s.session (suc n)) as (λ _. place_upto (suc n) s ≤ count_asked s.asked) [
    | inl is ↦
        let here : own_count (suc n) s ≡ count_asked s.asked = ap (λ (b : Bool). cond b (count_asked s.asked) 0) is.0 in
        omega (arith, place_none n s (omega (arith, is.1)), here)
    | inr another ↦
        let none : own_count (suc n) s ≡ 0 = ap (λ (b : Bool). cond b (count_asked s.asked) 0) another.0 in
        omega (arith, place_most n s, none)
  ]

  counted_none : (n : ℕ) → counted_upto n [] ≡ 0
  unfolding counted_upto
  counted_none zero = refl
  counted_none (suc n) = omega (arith, counted_none n)

  counted_more : (n : ℕ) (s : Said) (said : List Said) → counted_upto n (s ∷ said) ≡ place_upto n s + counted_upto n said
  unfolding counted_upto place_upto
  counted_more zero s said = refl
  counted_more (suc n) s said = omega (arith, counted_more n s said, sum_by-cons (λ (x : Said). own_count (suc n) x) s said)

  -- in all
  abbrev all_total : List Said → ℕ
  all_total said = sum_by (λ s. count_asked s.asked) said

  counted_most : (n : ℕ) (said : List Said) → counted_upto n said ≤ all_total said
  counted_most n [] = omega (arith, counted_none n)
  counted_most n (s ∷ said) = omega (arith, counted_more n s said, place_most n s, counted_most n said, sum_by-cons (λ (x : Said). count_asked x.asked) s said)

  said_most : (script : List ScriptLine) (answers : List Answer) → all_total (said_of script answers) ≤ total_of count script
  said_most [] answers = omega arith
  said_most (l ∷ script) [] = omega arith
  said_most (l ∷ script) (a ∷ answers) =
      let s : Said = record { session = l.session; asked = Some l.command; answer = a } in
      omega (arith, said_most script answers, sum_by-cons (λ (x : Said). count_asked x.asked) s (said_of script answers), sum_by-cons (λ (k : ScriptLine). count k.command) l script)

  closes_none : (closed : List Closed) → all_total (map close_said closed) ≡ 0
  closes_none [] = refl
  closes_none (c ∷ closed) = omega (arith, closes_none closed, sum_by-cons (λ (x : Said). count_asked x.asked) (close_said c) (map close_said closed))

  -- so the sessions' places count no more than the script's lines
  pub counted_few : (n : ℕ) (script : List ScriptLine) (answers : List Answer) (closed : List Closed) → counted_upto n (places_of script answers closed) ≤ total_of count script
  counted_few n script answers closed =
      let most = counted_most n (places_of script answers closed) in
      let parts = sum_by-append (λ (x : Said). count_asked x.asked) (said_of script answers) (map close_said closed) in
      omega (arith, most, parts, said_most script answers, closes_none closed)
