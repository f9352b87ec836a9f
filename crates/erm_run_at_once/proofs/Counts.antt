-- The lines answered where sessions have so many answers, as counts are taken down line by line.
use Rattle.std.proofs.Common.{◌≡◌, ℕ, zero, suc, ◌+◌, ◌-◌, ◌<◌, ◌≤◌, List, [], ◌∷◌, ◌++◌, length, map, drop, get_or, set, append_assoc, inl, inr, refl, sym, ap, ◌∙◌, arith}
use Rattle.std.proofs.lemmas.List.{get_or-set_other, get_or-set_same, set-get_or}
use Rattle.erm_model.specs.Member.{◌∈◌}
use Rattle.erm_model.proofs.Members.{∈-behind}
use Rattle.erm_report.specs.declared.answer.Answer.{Answer}
use Rattle.erm_report.specs.declared.line.Line.{Line}
use Rattle.erm_report.specs.declared.line.Line.TheVariants as line
use Rattle.erm_script.specs.declared.script.ScriptLine.{ScriptLine}
use Rattle.erm_good_report.specs.GoodReport.{answer_lines}
use Rattle.erm_good_at_once.specs.CutReports.{answered_of, less}
use Rattle.erm_threads.specs.Parts.{IsSeatOf}
use Rattle.erm_joined.proofs.Answered.{answers_it, less_other, less_own, lt_tells, seats_differ, skips_it}

-- how many answers are left by seat from 1 on, as a list
abbrev pub left_of : List ℕ → ℕ → ℕ
left_of counts seat = get_or counts (seat - 1) 0

-- each line names a session
abbrev pub NameSeats : List ScriptLine → Type 0
NameSeats ls = (l : ScriptLine) → l ∈ ls → 1 ≤ l.session

pub behind_names : (l : ScriptLine) (ls : List ScriptLine) → NameSeats (l ∷ ls) → NameSeats ls
behind_names l ls seats = λ k m. seats k (∈-behind l ls k m)

-- the same lines are answered where counts are the same for each seat
pub answered_same : (a b : ℕ → ℕ) (ls : List ScriptLine) → ((seat : ℕ) → 1 ≤ seat → a seat ≡ b seat) → NameSeats ls → answered_of a ls ≡ answered_of b ls
answered_same a b [] same seats = refl
answered_same a b (l ∷ ls) same seats =
    let here : 1 ≤ l.session = seats l (zero, refl) in
    elim (lt_tells 0 (a l.session)) [
      | inl more ↦
          let has = more.1 in
          let equal = same l.session here in
          answers_it a l ls has ∙ ap (λ (ks : List ScriptLine). l ∷ ks) (answered_same (less l.session a) (less l.session b) ls (less_same l.session) (behind_names l ls seats))
          ∙ sym (answers_it b l ls (omega (arith, has, equal)))
      | inr over ↦
          let none = over.1 in
          let equal = same l.session here in
          skips_it a l ls none ∙ answered_same a b ls same (behind_names l ls seats) ∙ sym (skips_it b l ls (omega (arith, none, equal)))
    ]
  where
    less_same : (s seat : ℕ) → 1 ≤ seat → less s a seat ≡ less s b seat
    less_same s seat some = elim (seats_differ seat s) [
      | inl is ↦ less_own s a seat is.1 ∙ ap (λ (n : ℕ). n - 1) (same seat some) ∙ sym (less_own s b seat is.1)
      | inr isnt ↦ less_other s a seat isnt.1 ∙ same seat some ∙ sym (less_other s b seat isnt.1)
    ]

-- one answer less of a session, in the list
pub taken_same : (counts : List ℕ) (s : ℕ) → 1 ≤ s → s ≤ length counts → (seat : ℕ) → 1 ≤ seat
    → less s (left_of counts) seat ≡ left_of (set counts (s - 1) (left_of counts s - 1)) seat
taken_same counts s low high seat some = elim (seats_differ seat s) [
  | inl is ↦
      let place : s - 1 ≡ seat - 1 = ap (λ (n : ℕ). n - 1) (sym is.1) in
      less_own s (left_of counts) seat is.1 ∙ ap (λ (n : ℕ). left_of counts n - 1) is.1
      ∙ sym (ap (λ (k : ℕ). get_or (set counts (s - 1) (left_of counts s - 1)) k 0) (sym place) ∙ get_or-set_same counts (s - 1) (left_of counts s - 1) 0 (omega (arith, low, high)))
  | inr isnt ↦
      let differ = isnt.1 in
      less_other s (left_of counts) seat isnt.1
      ∙ sym (get_or-set_other counts (s - 1) (seat - 1) (left_of counts s - 1) 0 (λ same. differ (omega (arith, low, some, same))))
]

-- no answer, no line
pub answer_lines_none : (ls : List ScriptLine) → answer_lines ls [] ≡ []
answer_lines_none [] = refl
answer_lines_none (l ∷ ls) = refl

-- lines that are left name sessions too
pub drop_names : (n : ℕ) (ls : List ScriptLine) → NameSeats ls → NameSeats (drop n ls)
drop_names zero ls seats = seats
drop_names (suc n) [] seats = seats
drop_names (suc n) (l ∷ ls) seats = drop_names n ls (behind_names l ls seats)

module _ (script : List ScriptLine) (i : ℕ) (l : ScriptLine) (counts after : List ℕ) (lines now end : List Line) (names : NameSeats script)
    (seat : IsSeatOf (length counts) l) (front : drop i script ≡ l ∷ drop (i + 1) script) (taken : after ≡ set counts (l.session - 1) (left_of counts l.session - 1)) where
  abbrev rest : List ScriptLine
  rest = drop (i + 1) script

  rest_names : NameSeats rest
  rest_names = drop_names (i + 1) script names

  -- the lines of answers that are left before this line, and behind it
  abbrev Before : List Answer → Type 0
  Before xs = lines ++ answer_lines (answered_of (left_of counts) (drop i script)) xs ≡ end

  abbrev Behind : List Answer → Type 0
  Behind ys = now ++ answer_lines (answered_of (left_of after) rest) ys ≡ end

  -- where the line has an answer
  pub told_one : (a : Answer) (xs ys : List Answer) → 0 < left_of counts l.session → xs ≡ a ∷ ys → now ≡ lines ++ line.Answer l.line a ∷ [] → Before xs → Behind ys
  told_one a xs ys has first more before =
      let fewer : answered_of (left_of after) rest ≡ answered_of (less l.session (left_of counts)) rest =
      ap (λ (cs : List ℕ). answered_of (left_of cs) rest) taken
      ∙ sym (answered_same (less l.session (left_of counts)) (left_of (set counts (l.session - 1) (left_of counts l.session - 1))) rest (taken_same counts l.session seat.0 seat.1) rest_names)
      in
      ap (λ (ls : List Line). ls ++ answer_lines (answered_of (left_of after) rest) ys) more
      ∙ append_assoc lines (line.Answer l.line a ∷ []) (answer_lines (answered_of (left_of after) rest) ys)
      ∙ ap (λ (ks : List ScriptLine). lines ++ line.Answer l.line a ∷ answer_lines ks ys) fewer
      ∙ ap (λ (ks : List ScriptLine). lines ++ answer_lines ks (a ∷ ys)) (sym (answers_it (left_of counts) l rest has))
      ∙ ap (λ (ks : List ScriptLine). lines ++ answer_lines (answered_of (left_of counts) ks) (a ∷ ys)) (sym front)
      ∙ ap (λ (zs : List Answer). lines ++ answer_lines (answered_of (left_of counts) (drop i script)) zs) (sym first)
      ∙ before

  -- where no answer is left
  pub told_none : (xs ys : List Answer) → xs ≡ [] → ys ≡ [] → now ≡ lines → Before xs → Behind ys
  told_none xs ys none still same before =
      ap (λ (ls : List Line). ls ++ answer_lines (answered_of (left_of after) rest) ys) same
      ∙ ap (λ (zs : List Answer). lines ++ answer_lines (answered_of (left_of after) rest) zs) still
      ∙ ap (λ (ls : List Line). lines ++ ls) (answer_lines_none (answered_of (left_of after) rest) ∙ sym (answer_lines_none (answered_of (left_of counts) (drop i script))))
      ∙ ap (λ (zs : List Answer). lines ++ answer_lines (answered_of (left_of counts) (drop i script)) zs) (sym none)
      ∙ before

  -- where its session has none left
  pub told_skip : (xs : List Answer) → left_of counts l.session ≡ 0 → now ≡ lines → Before xs → Behind xs
  told_skip xs none same before =
      let stay : after ≡ counts = taken ∙ ap (λ (n : ℕ). set counts (l.session - 1) n) (omega (arith, none)) ∙ set-get_or counts (l.session - 1) 0 in
      ap (λ (ls : List Line). ls ++ answer_lines (answered_of (left_of after) rest) xs) same
      ∙ ap (λ (cs : List ℕ). lines ++ answer_lines (answered_of (left_of cs) rest) xs) stay
      ∙ ap (λ (ks : List ScriptLine). lines ++ answer_lines ks xs) (sym (skips_it (left_of counts) l rest (omega (arith, none))) ∙ ap (answered_of (left_of counts)) (sym front))
      ∙ before

-- the counts of parts are how many answers each has
pub counted : {X : Type 0} (items : X → List Answer) (parts : List X) (k : ℕ) → get_or (map (λ p. length (items p)) parts) k 0 ≡ length (get_or (map items parts) k [])
counted items [] k = refl
counted items (p ∷ parts) zero = refl
counted items (p ∷ parts) (suc k) = counted items parts k
