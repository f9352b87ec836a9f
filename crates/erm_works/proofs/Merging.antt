-- The answers of sessions to their first lines, put in the order of a script's lines.
use Rattle.std.proofs.Common.{◌≡◌, ℕ, suc, ◌+◌, ◌-◌, ◌<◌, ◌≤◌, ◌==◌, Bool, if◌then◌else◌, List, [], ◌∷◌, length, slice_index_or, inl, inr, refl, sym, ap, ◌∙◌, subst, arith}
use Rattle.std.proofs.lemmas.Option.{get_or_from_slice_get}
use Rattle.erm_report.specs.declared.answer.Answer.{Answer}
use Rattle.erm_script.specs.declared.script.ScriptLine.{ScriptLine}
use Rattle.erm_good_at_once.specs.CutReports.{answered_of, less}
use Rattle.erm_threads.specs.Merged.{own_answers}
use Rattle.erm_threads.specs.Parts.{own_lines}
use Rattle.erm_joined.specs.Merged.{AreFirst, AreMerged, counts_of}
use Rattle.erm_joined.proofs.Answered.{answers_it, less_other, less_own, long_other, long_own, seats_differ, skips_it}
use Rattle.erm_joined.proofs.Closes.{other_seat, same_seat}

-- all but the first one
abbrev behind : List Answer → List Answer
behind [] = []
behind (a ∷ others) = others

-- what is left of each session's answers where the next one of a session is taken
abbrev taken : ℕ → (ℕ → List Answer) → ℕ → List Answer
taken session rest other = if other == session then behind (rest other) else rest other

-- a line has its session's next answer, where one is left
abbrev pick : List Answer → List Answer → List Answer → List Answer
pick [] none some = none
pick (a ∷ others) none some = a ∷ some

abbrev in_order : (ℕ → List Answer) → List ScriptLine → List Answer
in_order rest [] = []
in_order rest (l ∷ ls) = pick (rest l.session) (in_order rest ls) (in_order (taken l.session rest) ls)

taken_own : (session : ℕ) (rest : ℕ → List Answer) (s : ℕ) → s ≡ session → taken session rest s ≡ behind (rest s)
taken_own session rest s is = ap (λ (b : Bool). if b then behind (rest s) else rest s) (same_seat s session is)

taken_other : (session : ℕ) (rest : ℕ → List Answer) (s : ℕ) → (s ≡ session → ⊥) → taken session rest s ≡ rest s
taken_other session rest s isnt = ap (λ (b : Bool). if b then behind (rest s) else rest s) (other_seat s session isnt)

-- so many answers has each session
abbrev Counts : (ℕ → ℕ) → (ℕ → List Answer) → Type 0
Counts counts rest = (s : ℕ) → counts s ≡ length (rest s)

long_behind : (xs : List Answer) → length (behind xs) ≡ length xs - 1
long_behind [] = refl
long_behind (a ∷ others) = omega arith

counts_less : (counts : ℕ → ℕ) (rest : ℕ → List Answer) (session : ℕ) → Counts counts rest → Counts (less session counts) (taken session rest)
counts_less counts rest session same s = elim (seats_differ s session) [
  | inl is ↦
      let fewer = less_own session counts s is.1 in
      let long = ap length (taken_own session rest s is.1) in
      let here = same s in
      omega (arith, fewer, long, here, long_behind (rest s))
  | inr isnt ↦ less_other session counts s isnt.1 ∙ same s ∙ sym (ap length (taken_other session rest s isnt.1))
]

-- AS MANY as lines that are answered
many_step : (l : ScriptLine) (ls : List ScriptLine) (counts : ℕ → ℕ) (rest : ℕ → List Answer) → Counts counts rest → length (in_order rest ls) ≡ length (answered_of counts ls)
    → length (in_order (taken l.session rest) ls) ≡ length (answered_of (less l.session counts) ls) → (xs : List Answer) → rest l.session ≡ xs
    → length (in_order rest (l ∷ ls)) ≡ length (answered_of counts (l ∷ ls))
many_step l ls counts rest same without more [] is =
    let none : counts l.session ≤ 0 = (let here = same l.session in let long = ap length is in omega (arith, here, long)) in
    ap (λ (xs : List Answer). length (pick xs (in_order rest ls) (in_order (taken l.session rest) ls))) is
    ∙ without ∙ sym (ap length (skips_it counts l ls none))
many_step l ls counts rest same without more (a ∷ others) is =
    let some : 0 < counts l.session = (let here = same l.session in let long = ap length is in omega (arith, here, long)) in
    ap (λ (xs : List Answer). length (pick xs (in_order rest ls) (in_order (taken l.session rest) ls))) is
    ∙ ap suc more ∙ sym (ap length (answers_it counts l ls some))

many_in_order : (ls : List ScriptLine) (counts : ℕ → ℕ) (rest : ℕ → List Answer) → Counts counts rest → length (in_order rest ls) ≡ length (answered_of counts ls)
many_in_order [] counts rest same = refl
many_in_order (l ∷ ls) counts rest same =
    many_step l ls counts rest same (many_in_order ls counts rest same)
    (many_in_order ls (less l.session counts) (taken l.session rest) (counts_less counts rest l.session same)) (rest l.session) refl

-- of answers to these lines a session's own are those left of it
abbrev OwnAre : ℕ → (ℕ → List Answer) → List ScriptLine → List Answer → Type 0
OwnAre s rest lines answers = own_answers s lines answers ≡ rest s

-- OF EACH SESSION they are its answers, where it has no more than lines
none_left : (xs : List Answer) → length xs ≤ 0 → [] ≡ xs
none_left [] few = refl
none_left (x ∷ xs) few = absurd (omega (arith, few))

own_step : (s : ℕ) (l : ScriptLine) (ls : List ScriptLine) (counts : ℕ → ℕ) (rest : ℕ → List Answer) → Counts counts rest → length (rest s) ≤ length (own_lines s (l ∷ ls))
    → (length (rest s) ≤ length (own_lines s ls) → OwnAre s rest (answered_of counts ls) (in_order rest ls))
    → (length (taken l.session rest s) ≤ length (own_lines s ls) → OwnAre s (taken l.session rest) (answered_of (less l.session counts) ls) (in_order (taken l.session rest) ls))
    → (xs : List Answer) → rest l.session ≡ xs → OwnAre s rest (answered_of counts (l ∷ ls)) (in_order rest (l ∷ ls))
own_step s l ls counts rest same most without more [] is =
    let none : counts l.session ≤ 0 = (let here = same l.session in let long = ap length is in omega (arith, here, long)) in
    let few : length (rest s) ≤ length (own_lines s ls) = elim (seats_differ s l.session) [
      | inl here ↦ (let long : length (rest s) ≡ 0 = ap (λ (q : ℕ). length (rest q)) here.1 ∙ ap length is in omega (arith, long))
      | inr other ↦ (let equal = long_other s l ls (λ e. other.1 (sym e)) in omega (arith, equal, most))
    ] in
    subst (λ (lines : List ScriptLine). OwnAre s rest lines (in_order rest (l ∷ ls))) (sym (skips_it counts l ls none))
    (subst (λ (xs : List Answer). OwnAre s rest (answered_of counts ls) (pick xs (in_order rest ls) (in_order (taken l.session rest) ls))) (sym is) (without few))
own_step s l ls counts rest same most without more (a ∷ others) is =
    let some : 0 < counts l.session = (let here = same l.session in let long = ap length is in omega (arith, here, long)) in
    let given = in_order (taken l.session rest) ls in
    let lines = answered_of (less l.session counts) ls in
    let one : OwnAre s rest (l ∷ lines) (a ∷ given) = elim (seats_differ l.session s) [
      | inl here ↦ (
          let own : rest s ≡ a ∷ others = ap rest (sym here.1) ∙ is in
          let left : taken l.session rest s ≡ others = taken_own l.session rest s (sym here.1) ∙ ap behind own in
          let long = ap length left in
          let longer = ap length own in
          let lines_more = long_own s l ls here.1 in
          ap (λ (b : Bool). if b then a ∷ own_answers s lines given else own_answers s lines given) here.0
          ∙ ap (λ (xs : List Answer). a ∷ xs) (more (omega (arith, long, longer, lines_more, most)) ∙ left) ∙ sym own)
      | inr other ↦ (
          let left : taken l.session rest s ≡ rest s = taken_other l.session rest s (λ e. other.1 (sym e)) in
          let long = ap length left in
          let equal = long_other s l ls other.1 in
          ap (λ (b : Bool). if b then a ∷ own_answers s lines given else own_answers s lines given) other.0 ∙ more (omega (arith, long, equal, most)) ∙ left)
    ] in
    subst (λ (ks : List ScriptLine). OwnAre s rest ks (in_order rest (l ∷ ls))) (sym (answers_it counts l ls some))
    (subst (λ (xs : List Answer). OwnAre s rest (l ∷ lines) (pick xs (in_order rest ls) given)) (sym is) one)

own_in_order : (s : ℕ) (ls : List ScriptLine) (counts : ℕ → ℕ) (rest : ℕ → List Answer) → Counts counts rest → length (rest s) ≤ length (own_lines s ls)
    → OwnAre s rest (answered_of counts ls) (in_order rest ls)
own_in_order s [] counts rest same most = none_left (rest s) most
own_in_order s (l ∷ ls) counts rest same most =
    own_step s l ls counts rest same most (λ few. own_in_order s ls counts rest same few)
    (λ few. own_in_order s ls (less l.session counts) (taken l.session rest) (counts_less counts rest l.session same) few) (rest l.session) refl

-- so answers to first lines may be put together
pub merged_first : (script : List ScriptLine) (parts : List (List Answer)) → AreFirst script parts → (merged : List Answer) × AreMerged (answered_of (counts_of parts) script) parts merged
merged_first script parts first =
    let rest : ℕ → List Answer = λ seat. slice_index_or parts (seat - 1) [] in (
      in_order rest script,
      record {
        many = many_in_order script (counts_of parts) rest (λ s. refl);
        own = λ k part at.
            let place : k + 1 - 1 ≡ k = omega arith in
            let is : rest ((k + 1)) ≡ part = ap (λ (i : ℕ). slice_index_or parts i []) place ∙ get_or_from_slice_get parts k part [] at in
            let most = first k part at in
            let long = ap length is in
            own_in_order ((k + 1)) script (counts_of parts) rest (λ s. refl) (omega (arith, long, most)) ∙ is;
      },
    )
