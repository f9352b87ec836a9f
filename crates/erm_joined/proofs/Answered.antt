-- The lines answered where each session has so many answers.
use Rattle.std.proofs.Common.{◌≡◌, ◌≢◌, ℕ, zero, suc, ◌-◌, ◌<◌, ◌≤◌, ◌==◌, nat_lt, Bool, true, false, if◌then◌else◌, List, [], ◌∷◌, ◌++◌, length, ◌⊎◌, inl, inr, refl, sym, ap, ◌∙◌, subst, arith}
use Rattle.std.proofs.lemmas.Bool.Decides.{eqb_tells, nat_tests}
use Rattle.erm_model.specs.Member.{◌∈◌}
use Rattle.erm_model.proofs.Members.{∈-behind}
use Rattle.erm_report.specs.declared.answer.Answer.{Answer}
use Rattle.erm_script.specs.declared.script.ScriptLine.{ScriptLine}
use Rattle.erm_good_at_once.specs.CutReports.{answered_of, less}
use Rattle.erm_threads.specs.Merged.{own_answers}
use Rattle.erm_threads.specs.Parts.{own_lines}
use Rattle.erm_joined.proofs.Closes.{other_seat, same_seat}

pub lt_tells : (a b : ℕ) → ((nat_lt a b ≡ true) × (a < b)) ⊎ ((nat_lt a b ≡ false) × (b ≤ a))
lt_tells a b = grind (arith, nat_tests)

pub seats_differ : (a b : ℕ) → (((a == b) ≡ true) × (a ≡ b)) ⊎ (((a == b) ≡ false) × (a ≢ b))
seats_differ a b = eqb_tells a b

-- LINES. Own lines with one more in front.
own_more : (s : ℕ) (l : ScriptLine) (ls : List ScriptLine) (b : Bool) → (l.session == s) ≡ b → own_lines s (l ∷ ls) ≡ (if b then l ∷ own_lines s ls else own_lines s ls)
own_more s l ls b is = ap (λ (c : Bool). if c then l ∷ own_lines s ls else own_lines s ls) is

pub long_own : (s : ℕ) (l : ScriptLine) (ls : List ScriptLine) → l.session ≡ s → length (own_lines s (l ∷ ls)) ≡ suc (length (own_lines s ls))
long_own s l ls is = ap (λ (xs : List ScriptLine). length xs) (own_more s l ls true (same_seat l.session s is))

pub long_other : (s : ℕ) (l : ScriptLine) (ls : List ScriptLine) → l.session ≢ s → length (own_lines s (l ∷ ls)) ≡ length (own_lines s ls)
long_other s l ls isnt = ap (λ (xs : List ScriptLine). length xs) (own_more s l ls false (other_seat l.session s isnt))

-- COUNTS. One line less of a session.
pub less_own : (s : ℕ) (counts : ℕ → ℕ) (t : ℕ) → t ≡ s → less s counts t ≡ counts t - 1
less_own s counts t is = ap (λ (b : Bool). if b then counts t - 1 else counts t) (same_seat t s is)

pub less_other : (s : ℕ) (counts : ℕ → ℕ) (t : ℕ) → t ≢ s → less s counts t ≡ counts t
less_other s counts t isnt = ap (λ (b : Bool). if b then counts t - 1 else counts t) (other_seat t s isnt)

-- a line that is answered, and one that isn't
pub answers_it : (counts : ℕ → ℕ) (l : ScriptLine) (ls : List ScriptLine) → 0 < counts l.session → answered_of counts (l ∷ ls) ≡ l ∷ answered_of (less l.session counts) ls
answers_it counts l ls has = elim (lt_tells 0 (counts l.session)) [
  | inl more ↦ ap (λ (b : Bool). if b then l ∷ answered_of (less l.session counts) ls else answered_of counts ls) more.0
  | inr over ↦ absurd (let none = over.1 in omega (arith, has, none))
]

pub skips_it : (counts : ℕ → ℕ) (l : ScriptLine) (ls : List ScriptLine) → counts l.session ≤ 0 → answered_of counts (l ∷ ls) ≡ answered_of counts ls
skips_it counts l ls none = elim (lt_tells 0 (counts l.session)) [
  | inl more ↦ absurd (let has = more.1 in omega (arith, has, none))
  | inr over ↦ ap (λ (b : Bool). if b then l ∷ answered_of (less l.session counts) ls else answered_of counts ls) over.0
]

-- ONE MORE LINE. It is answered where its session has an answer left.
pub more_answered : (counts : ℕ → ℕ) (xs : List ScriptLine) (l : ScriptLine) → length (own_lines l.session (answered_of counts xs)) < counts l.session
    → answered_of counts (xs ++ l ∷ []) ≡ answered_of counts xs ++ l ∷ []
more_answered counts [] l left = answers_it counts l [] (omega (arith, left))
more_answered counts (x ∷ xs) l left = elim (lt_tells 0 (counts x.session)) [
  | inl more ↦
      let one = answers_it counts x xs more.1 in
      let now : length (own_lines l.session (x ∷ answered_of (less x.session counts) xs)) < counts l.session = subst (λ (ls : List ScriptLine). length (own_lines l.session ls) < counts l.session) one left in
      let still : length (own_lines l.session (answered_of (less x.session counts) xs)) < less x.session counts l.session = elim (seats_differ l.session x.session) [
        | inl same ↦ (let fewer = less_own x.session counts l.session same.1 in let longer = long_own l.session x (answered_of (less x.session counts) xs) (sym same.1) in omega (arith, fewer, longer, now))
        | inr other ↦ (let equal = less_other x.session counts l.session other.1 in let equals = long_other l.session x (answered_of (less x.session counts) xs) (λ is. other.1 (sym is)) in omega (arith, equal, equals, now))
      ] in
      answers_it counts x (xs ++ l ∷ []) more.1 ∙ ap (λ (ls : List ScriptLine). x ∷ ls) (more_answered (less x.session counts) xs l still) ∙ ap (λ (ls : List ScriptLine). ls ++ l ∷ []) (sym one)
  | inr over ↦
      let none = skips_it counts x xs over.1 in
      skips_it counts x (xs ++ l ∷ []) over.1
      ∙ more_answered counts xs l (subst (λ (ls : List ScriptLine). length (own_lines l.session ls) < counts l.session) none left) ∙ ap (λ (ls : List ScriptLine). ls ++ l ∷ []) (sym none)
]

pub more_skipped : (counts : ℕ → ℕ) (xs : List ScriptLine) (l : ScriptLine) → counts l.session ≤ length (own_lines l.session (answered_of counts xs))
    → answered_of counts (xs ++ l ∷ []) ≡ answered_of counts xs
more_skipped counts [] l past = skips_it counts l [] (omega (arith, past))
more_skipped counts (x ∷ xs) l past = elim (lt_tells 0 (counts x.session)) [
  | inl more ↦
      let one = answers_it counts x xs more.1 in
      let now : counts l.session ≤ length (own_lines l.session (x ∷ answered_of (less x.session counts) xs)) = subst (λ (ls : List ScriptLine). counts l.session ≤ length (own_lines l.session ls)) one past in
      let still : less x.session counts l.session ≤ length (own_lines l.session (answered_of (less x.session counts) xs)) = elim (seats_differ l.session x.session) [
        | inl same ↦ (let fewer = less_own x.session counts l.session same.1 in let longer = long_own l.session x (answered_of (less x.session counts) xs) (sym same.1) in omega (arith, fewer, longer, now))
        | inr other ↦ (let equal = less_other x.session counts l.session other.1 in let equals = long_other l.session x (answered_of (less x.session counts) xs) (λ is. other.1 (sym is)) in omega (arith, equal, equals, now))
      ] in
      answers_it counts x (xs ++ l ∷ []) more.1 ∙ ap (λ (ls : List ScriptLine). x ∷ ls) (more_skipped (less x.session counts) xs l still) ∙ sym one
  | inr over ↦
      let none = skips_it counts x xs over.1 in
      skips_it counts x (xs ++ l ∷ []) over.1
      ∙ more_skipped counts xs l (subst (λ (ls : List ScriptLine). counts l.session ≤ length (own_lines l.session ls)) none past) ∙ sym none
]

-- ALL LINES. So many of a session's are answered as it has answers, where it has no more than lines.
pub long_answered : (s : ℕ) (counts : ℕ → ℕ) (xs : List ScriptLine) → counts s ≤ length (own_lines s xs) → length (own_lines s (answered_of counts xs)) ≡ counts s
long_answered s counts [] most = omega (arith, most)
long_answered s counts (x ∷ xs) most = elim (lt_tells 0 (counts x.session)) [
  | inl more ↦
      let has = more.1 in
      ap (λ (ls : List ScriptLine). length (own_lines s ls)) (answers_it counts x xs has) ∙ elim (seats_differ s x.session) [
        | inl same ↦ (
            let fewer = less_own x.session counts s same.1 in
            let long = long_own s x xs (sym same.1) in
            let longer = long_own s x (answered_of (less x.session counts) xs) (sym same.1) in
            let rest = long_answered s (less x.session counts) xs (omega (arith, fewer, long, most)) in
            let here : 0 < counts s = subst (λ (t : ℕ). 0 < counts t) (sym same.1) has in
            omega (arith, fewer, longer, rest, here))
        | inr other ↦ (
            let equal = less_other x.session counts s other.1 in
            let equals = long_other s x xs (λ is. other.1 (sym is)) in
            let equals_then = long_other s x (answered_of (less x.session counts) xs) (λ is. other.1 (sym is)) in
            let rest = long_answered s (less x.session counts) xs (omega (arith, equal, equals, most)) in
            omega (arith, equal, equals_then, rest))
      ]
  | inr over ↦
      let none = over.1 in
      ap (λ (ls : List ScriptLine). length (own_lines s ls)) (skips_it counts x xs none) ∙ long_answered s counts xs (elim (seats_differ s x.session) [
        | inl same ↦ (let here : counts s ≤ 0 = subst (λ (t : ℕ). counts t ≤ 0) (sym same.1) none in omega (arith, here))
        | inr other ↦ (let equals = long_other s x xs (λ is. other.1 (sym is)) in omega (arith, equals, most))
      ])
]

-- where each session has an answer to each of its lines, all are answered
pub all_answered : (counts : ℕ → ℕ) (xs : List ScriptLine) → ((l : ScriptLine) → l ∈ xs → length (own_lines l.session xs) ≤ counts l.session) → answered_of counts xs ≡ xs
all_answered counts [] enough = refl
all_answered counts (x ∷ xs) enough =
    let long = long_own x.session x xs refl in
    let here = enough x (zero, refl) in
    answers_it counts x xs (omega (arith, long, here)) ∙ ap (λ (ls : List ScriptLine). x ∷ ls) (all_answered (less x.session counts) xs (λ l m.
    let there = enough l (∈-behind x xs l m) in elim (seats_differ l.session x.session) [
      | inl same ↦ (let fewer = less_own x.session counts l.session same.1 in let longer = long_own l.session x xs (sym same.1) in omega (arith, fewer, longer, there))
      | inr other ↦ (let equal = less_other x.session counts l.session other.1 in let equals = long_other l.session x xs (λ is. other.1 (sym is)) in omega (arith, equal, equals, there))
    ]))

-- ANSWERS. One more behind.
pub own_behind : (s : ℕ) (ls : List ScriptLine) (answers : List Answer) (l : ScriptLine) (a : Answer) → length answers ≡ length ls
    → own_answers s (ls ++ l ∷ []) (answers ++ a ∷ []) ≡ own_answers s ls answers ++ own_answers s (l ∷ []) (a ∷ [])
own_behind s [] [] l a same = refl
own_behind s [] (b ∷ answers) l a same = absurd (omega (arith, same))
own_behind s (k ∷ ls) [] l a same = absurd (omega (arith, same))
own_behind s (k ∷ ls) (b ∷ answers) l a same = behind (k.session == s) (own_behind s ls answers l a (omega (arith, same)))
  where
    behind : (t : Bool) → own_answers s (ls ++ l ∷ []) (answers ++ a ∷ []) ≡ own_answers s ls answers ++ own_answers s (l ∷ []) (a ∷ [])
        → (if t then b ∷ own_answers s (ls ++ l ∷ []) (answers ++ a ∷ []) else own_answers s (ls ++ l ∷ []) (answers ++ a ∷ []))
        ≡ (if t then b ∷ own_answers s ls answers else own_answers s ls answers) ++ own_answers s (l ∷ []) (a ∷ [])
    behind true is = ap (λ (xs : List Answer). b ∷ xs) is
    behind false is = is

-- as many as own lines
pub long_answers : (s : ℕ) (ls : List ScriptLine) (answers : List Answer) → length answers ≡ length ls → length (own_answers s ls answers) ≡ length (own_lines s ls)
long_answers s [] answers same = refl
long_answers s (k ∷ ls) [] same = absurd (omega (arith, same))
long_answers s (k ∷ ls) (b ∷ answers) same = both (k.session == s) (long_answers s ls answers (omega (arith, same)))
  where
    both : (t : Bool) → length (own_answers s ls answers) ≡ length (own_lines s ls)
        → length (if t then b ∷ own_answers s ls answers else own_answers s ls answers) ≡ length (if t then k ∷ own_lines s ls else own_lines s ls)
    both true is = ap suc is
    both false is = is
