-- The lines of transcripts one behind another: each session's own, and those that were answered.
use Rattle.std.proofs.Common.{◌≡◌, ◌≢◌, ℕ, zero, suc, ◌+◌, ◌-◌, ◌<◌, ◌≤◌, ◌==◌, Bool, if◌then◌else◌, List, [], ◌∷◌, ◌++◌, length, take, Some, inl, inr, append-nil, refl, sym, ap, ◌∙◌, arith}
use Rattle.std.proofs.lemmas.List.{length-append}
use Rattle.std.proofs.lemmas.List.Elements.{filter-append}
use Rattle.std.specs.List.{slice_get}
use Rattle.erm_client.proofs.Joined.{among}
use Rattle.erm_client.specs.declared.transcript.Standing.{Standing}
use Rattle.erm_client.specs.declared.transcript.Standing.TheVariants as standing
use Rattle.erm_client.specs.declared.transcript.Transcript.{Transcript}
use Rattle.erm_client.specs.Laws.{AreFrom, answers_of, lines_of}
use Rattle.erm_client.specs.Transcripts.{HasAnswers, IsTranscript}
use Rattle.erm_good_at_once.specs.CutReports.{answered_of, less}
use Rattle.erm_joined.proofs.Answered.{answers_it, less_other, less_own, lt_tells, skips_it}
use Rattle.erm_joined.proofs.Closes.{other_seat, same_seat}
use Rattle.erm_model.proofs.Members.{∈-behind}
use Rattle.erm_model.specs.Member.{◌∈◌}
use Rattle.erm_report.specs.declared.answer.Answer.{Answer}
use Rattle.erm_script.specs.declared.script.ScriptLine.{ScriptLine}
use Rattle.erm_threads.specs.Merged.{own_answers}
use Rattle.erm_threads.specs.Parts.{own_lines}
use Rattle.erm_works.proofs.Moves.{no_lines}

-- NO MORE ANSWERS than lines
most_answers : (s : Standing) (lines answers : ℕ) → HasAnswers s lines answers → answers ≤ lines
most_answers standing.Open lines answers is = omega (arith, is)
most_answers standing.Stopped lines answers is = omega (arith, is)
most_answers standing.Starved lines answers is = omega (arith, is)

pub few_answers : (c : Transcript) → IsTranscript c → length c.answers.items ≤ length c.lines.items
few_answers c ok = most_answers c.standing (length c.lines.items) (length c.answers.items) ok.each

-- the first of some
pub take_length : {X : Type 0} (n : ℕ) (xs : List X) → n ≤ length xs → length (take n xs) ≡ n
take_length zero xs most = refl
take_length (suc n) [] most = absurd (omega (arith, most))
take_length (suc n) (x ∷ xs) most = let rest = take_length n xs (omega (arith, most)) in omega (arith, rest)

pub in_take : {X : Type 0} (n : ℕ) (xs : List X) (x : X) (k : ℕ) → slice_get (take n xs) k ≡ Some x → slice_get xs k ≡ Some x
in_take zero xs x k at = absurd (let none : slice_get [] k ≡ Some x = at in cc)
in_take (suc n) [] x k at = at
in_take (suc n) (y ∷ xs) x zero at = at
in_take (suc n) (y ∷ xs) x (suc k) at = in_take n xs x k at

-- OF ONE SESSION
all_own : (q : ℕ) (ls : List ScriptLine) → ((l : ScriptLine) → l ∈ ls → l.session ≡ q) → own_lines q ls ≡ ls
all_own q [] own = refl
all_own q (l ∷ ls) own =
    ap (λ (b : Bool). if b then l ∷ own_lines q ls else own_lines q ls) (same_seat l.session q (own l (zero, refl)))
    ∙ ap (λ (xs : List ScriptLine). l ∷ xs) (all_own q ls (λ x there. own x (∈-behind l ls x there)))

-- a session's answers among those of lines and of more lines
answers_own : (q : ℕ) (ls more : List ScriptLine) (gs bs : List Answer) → length gs ≡ length ls → ((l : ScriptLine) → l ∈ ls → l.session ≡ q)
    → own_answers q (ls ++ more) (gs ++ bs) ≡ gs ++ own_answers q more bs
answers_own q [] more [] bs each own = refl
answers_own q [] more (a ∷ gs) bs each own = absurd (omega arith)
answers_own q (l ∷ ls) more [] bs each own = absurd (omega arith)
answers_own q (l ∷ ls) more (a ∷ gs) bs each own =
    ap (λ (b : Bool). if b then a ∷ own_answers q (ls ++ more) (gs ++ bs) else own_answers q (ls ++ more) (gs ++ bs)) (same_seat l.session q (own l (zero, refl)))
    ∙ ap (λ (xs : List Answer). a ∷ xs) (answers_own q ls more gs bs (omega arith) (λ x there. own x (∈-behind l ls x there)))

answers_other : (q : ℕ) (ls more : List ScriptLine) (gs bs : List Answer) → length gs ≡ length ls → ((l : ScriptLine) → l ∈ ls → l.session ≢ q)
    → own_answers q (ls ++ more) (gs ++ bs) ≡ own_answers q more bs
answers_other q [] more [] bs each other = refl
answers_other q [] more (a ∷ gs) bs each other = absurd (omega arith)
answers_other q (l ∷ ls) more [] bs each other = absurd (omega arith)
answers_other q (l ∷ ls) more (a ∷ gs) bs each other =
    ap (λ (b : Bool). if b then a ∷ own_answers q (ls ++ more) (gs ++ bs) else own_answers q (ls ++ more) (gs ++ bs)) (other_seat l.session q (other l (zero, refl)))
    ∙ answers_other q ls more gs bs (omega arith) (λ x there. other x (∈-behind l ls x there))

-- OF ALL. A session before them has none of their lines, and each has its own.
pub others_behind : (q s : ℕ) (all : List Transcript) → q < s → AreFrom s all → (l : ScriptLine) → l ∈ lines_of all → l.session ≢ q
others_behind q s all below are l there own = let so = among s all l are there in omega (arith, so.above, below, own)

pub lines_at : (q s k : ℕ) (all : List Transcript) (c : Transcript) → q ≡ s + k → AreFrom s all → slice_get all k ≡ Some c → own_lines q (lines_of all) ≡ c.lines.items
lines_at q s k [] c is are at = cc
lines_at q s zero (d ∷ all) c is are at =
    let same : d ≡ c = cc in
    filter-append (λ (l : ScriptLine). l.session == q) d.lines.items (lines_of all)
    ∙ ap (λ (ls : List ScriptLine). ls ++ own_lines q (lines_of all)) (all_own q d.lines.items (λ l there. let line = are.1.own l there in let seat = are.0 in omega (arith, line.own, seat, is)))
    ∙ ap (λ (ls : List ScriptLine). d.lines.items ++ ls) (no_lines q (lines_of all) (others_behind q (s + 1) all (omega (arith, is)) are.2))
    ∙ append-nil d.lines.items ∙ ap (λ (x : Transcript). x.lines.items) same
lines_at q s (suc k) (d ∷ all) c is are at =
    filter-append (λ (l : ScriptLine). l.session == q) d.lines.items (lines_of all)
    ∙ ap (λ (ls : List ScriptLine). ls ++ own_lines q (lines_of all)) (no_lines q d.lines.items (λ l there own. let line = are.1.own l there in let seat = are.0 in omega (arith, line.own, seat, is, own)))
    ∙ lines_at q (s + 1) k all c (omega (arith, is)) are.2 at

-- ANSWERED. Only the counts of their sessions count.
pub answered_same : (counts other : ℕ → ℕ) (ls : List ScriptLine) → ((l : ScriptLine) → l ∈ ls → counts l.session ≡ other l.session) → answered_of counts ls ≡ answered_of other ls
answered_same counts other [] same = refl
answered_same counts other (l ∷ ls) same =
    let here : counts l.session ≡ other l.session = same l (zero, refl) in
    elim (lt_tells 0 (counts l.session)) as (λ _. answered_of counts (l ∷ ls) ≡ answered_of other (l ∷ ls)) [
      | inl more ↦
          answers_it counts l ls more.1
          ∙ ap (λ (xs : List ScriptLine). l ∷ xs)
          (answered_same (less l.session counts) (less l.session other) ls (λ x there. ap (λ (n : ℕ). if x.session == l.session then n - 1 else n) (same x (∈-behind l ls x there))))
          ∙ sym (answers_it other l ls (let some = more.1 in omega (arith, some, here)))
      | inr over ↦
          skips_it counts l ls over.1 ∙ answered_same counts other ls (λ x there. same x (∈-behind l ls x there)) ∙ sym (skips_it other l ls (let none = over.1 in omega (arith, none, here)))
    ]

-- of one session its first ones, and then those of others
pub answered_part : (q n : ℕ) (ls more : List ScriptLine) (counts : ℕ → ℕ) → ((l : ScriptLine) → l ∈ ls → l.session ≡ q) → ((l : ScriptLine) → l ∈ more → l.session ≢ q)
    → counts q ≡ n → n ≤ length ls → answered_of counts (ls ++ more) ≡ take n ls ++ answered_of counts more
answered_part q zero [] more counts own other is most = refl
answered_part q (suc n) [] more counts own other is most = absurd (omega (arith, most))
answered_part q zero (l ∷ ls) more counts own other is most =
    let here : l.session ≡ q = own l (zero, refl) in
    skips_it counts l (ls ++ more) (let none = ap counts here in omega (arith, none, is))
    ∙ answered_part q zero ls more counts (λ x there. own x (∈-behind l ls x there)) other is (omega arith)
answered_part q (suc n) (l ∷ ls) more counts own other is most =
    let here : l.session ≡ q = own l (zero, refl) in
    answers_it counts l (ls ++ more) (let some = ap counts here in omega (arith, some, is))
    ∙ ap (λ (xs : List ScriptLine). l ∷ xs)
    (answered_part q n ls more (less l.session counts) (λ x there. own x (∈-behind l ls x there)) other (let left = less_own l.session counts q (sym here) in omega (arith, left, is)) (omega (arith, most)))
    ∙ ap (λ (xs : List ScriptLine). l ∷ take n ls ++ xs)
    (answered_same (less l.session counts) counts more (λ x there. less_other l.session counts x.session (λ so. other x there (so ∙ here))))

-- the lines of all transcripts that were answered
abbrev pub answered_lines : List Transcript → List ScriptLine
answered_lines [] = []
answered_lines (c ∷ all) = take (length c.answers.items) c.lines.items ++ answered_lines all

pub answered_all : (s : ℕ) (all : List Transcript) (counts : ℕ → ℕ) → AreFrom s all → ((k : ℕ) (c : Transcript) → slice_get all k ≡ Some c → counts (s + k) ≡ length c.answers.items)
    → answered_of counts (lines_of all) ≡ answered_lines all
answered_all s [] counts are each = refl
answered_all s (c ∷ all) counts are each =
    let seat : c.seat ≡ s = are.0 in
    answered_part s (length c.answers.items) c.lines.items (lines_of all) counts (λ l there. let line = are.1.own l there in omega (arith, line.own, seat)) (others_behind s (s + 1) all (omega arith) are.2)
    (ap counts (omega arith) ∙ each zero c refl) (few_answers c are.1)
    ∙ ap (λ (ls : List ScriptLine). take (length c.answers.items) c.lines.items ++ ls) (answered_all (s + 1) all counts are.2 (λ k d at. ap counts (omega arith) ∙ each (suc k) d at))

-- there is an answer to each of them
pub even_all : (s : ℕ) (all : List Transcript) → AreFrom s all → length (answers_of all) ≡ length (answered_lines all)
even_all s [] are = refl
even_all s (c ∷ all) are =
    let here = take_length (length c.answers.items) c.lines.items (few_answers c are.1) in
    let rest = even_all (s + 1) all are.2 in
    omega (arith, here, rest, length-append c.answers.items (answers_of all), length-append (take (length c.answers.items) c.lines.items) (answered_lines all))

answered_of_own : (s : ℕ) (c : Transcript) (all : List Transcript) → AreFrom s (c ∷ all) → (l : ScriptLine) → l ∈ take (length c.answers.items) c.lines.items → l.session ≡ s
answered_of_own s c all are l there =
    let line = are.1.own l (there.0, in_take (length c.answers.items) c.lines.items l there.0 there.1) in
    let seat = are.0 in
    omega (arith, line.own, seat)

answers_before : (q s : ℕ) (all : List Transcript) → q < s → AreFrom s all → own_answers q (answered_lines all) (answers_of all) ≡ []
answers_before q s [] below are = refl
answers_before q s (c ∷ all) below are =
    answers_other q (take (length c.answers.items) c.lines.items) (answered_lines all) c.answers.items (answers_of all) (sym (take_length (length c.answers.items) c.lines.items (few_answers c are.1)))
    (λ l there own. let seat = answered_of_own s c all are l there in omega (arith, seat, own, below))
    ∙ answers_before q (s + 1) all (omega (arith, below)) are.2

pub answers_at : (q s k : ℕ) (all : List Transcript) (c : Transcript) → q ≡ s + k → AreFrom s all → slice_get all k ≡ Some c → own_answers q (answered_lines all) (answers_of all) ≡ c.answers.items
answers_at q s k [] c is are at = cc
answers_at q s zero (d ∷ all) c is are at =
    let same : d ≡ c = cc in
    answers_own q (take (length d.answers.items) d.lines.items) (answered_lines all) d.answers.items (answers_of all) (sym (take_length (length d.answers.items) d.lines.items (few_answers d are.1)))
    (λ l there. let seat = answered_of_own s d all are l there in omega (arith, seat, is))
    ∙ ap (λ (gs : List Answer). d.answers.items ++ gs) (answers_before q (s + 1) all (omega (arith, is)) are.2)
    ∙ append-nil d.answers.items ∙ ap (λ (x : Transcript). x.answers.items) same
answers_at q s (suc k) (d ∷ all) c is are at =
    answers_other q (take (length d.answers.items) d.lines.items) (answered_lines all) d.answers.items (answers_of all) (sym (take_length (length d.answers.items) d.lines.items (few_answers d are.1)))
    (λ l there own. let seat = answered_of_own s d all are l there in omega (arith, seat, is, own))
    ∙ answers_at q (s + 1) k all c (omega (arith, is)) are.2 at
