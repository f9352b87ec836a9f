-- Transcripts one behind another: each session's own lines and answers in the script of all.
use Rattle.std.proofs.Common.{◌≡◌, ℕ, zero, suc, ◌+◌, ◌<◌, ◌≤◌, ◌==◌, ◌⊎◌, Bool, cond, List, [], ◌∷◌, ◌++◌, length, filter, map, Some, inl, inr, append-nil, refl, sym, ap, ◌∙◌, subst, arith}
use Rattle.std.proofs.lemmas.Bool.Decides.{eqb_tells}
use Rattle.std.proofs.lemmas.List.{length-append}
use Rattle.std.proofs.lemmas.List.Elements.{filter-append}
use Rattle.std.specs.List.{slice_get}
use Rattle.erm_client.specs.declared.transcript.Transcript.{Transcript}
use Rattle.erm_client.specs.Laws.{AreFrom, TranscriptsAreARun, answers_of, lines_of}
use Rattle.erm_client.specs.Transcripts.{IsLine}
use Rattle.erm_model.proofs.Members.{none_in_nil, ∈-behind}
use Rattle.erm_model.specs.Member.{◌∈◌}
use Rattle.erm_report.specs.declared.answer.Answer.{Answer}
use Rattle.erm_script.specs.declared.script.ScriptLine.{ScriptLine}
use Rattle.erm_threads.proofs.Jobs.{map_from}
use Rattle.erm_threads.specs.Merged.{own_answers}
use Rattle.erm_threads.specs.Parts.{own_lines}
use Rattle.erm_works.proofs.Runs.{are_a_run}

-- MEMBERS of lists behind one another
split_at : {X : Type 0} (xs ys : List X) (x : X) (k : ℕ) → slice_get (xs ++ ys) k ≡ Some x → (x ∈ xs) ⊎ (x ∈ ys)
split_at [] ys x k at = inr (k, at)
split_at (z ∷ xs) ys x zero at = inl (zero, at)
split_at (z ∷ xs) ys x (suc k) at = elim (split_at xs ys x k at) [ inl here ↦ inl (suc here.0, here.1) | inr there ↦ inr there ]

pub in_either : {X : Type 0} (xs ys : List X) (x : X) → x ∈ (xs ++ ys) → (x ∈ xs) ⊎ (x ∈ ys)
in_either xs ys x there = split_at xs ys x there.0 there.1

-- OF ONE SESSION
one_own : (q : ℕ) (l : ScriptLine) (ls : List ScriptLine) → l.session ≡ q → filter (λ l. l.session == q) (l ∷ ls) ≡ l ∷ filter (λ l. l.session == q) ls
one_own q l ls own = elim (eqb_tells l.session q) as (λ _. filter (λ l. l.session == q) (l ∷ ls) ≡ l ∷ filter (λ l. l.session == q) ls) [
  | inl here ↦ ap (λ (b : Bool). cond b (l ∷ filter (λ (l : ScriptLine). l.session == q) ls) (filter (λ (l : ScriptLine). l.session == q) ls)) here.0
  | inr there ↦ absurd (there.1 own)
]

one_other : (q : ℕ) (l : ScriptLine) (ls : List ScriptLine) → (l.session ≡ q → ⊥) → filter (λ l. l.session == q) (l ∷ ls) ≡ filter (λ l. l.session == q) ls
one_other q l ls other = elim (eqb_tells l.session q) as (λ _. filter (λ l. l.session == q) (l ∷ ls) ≡ filter (λ l. l.session == q) ls) [
  | inl here ↦ absurd (other here.1)
  | inr there ↦ ap (λ (b : Bool). cond b (l ∷ filter (λ (l : ScriptLine). l.session == q) ls) (filter (λ (l : ScriptLine). l.session == q) ls)) there.0
]

all_own : (q : ℕ) (ls : List ScriptLine) → ((l : ScriptLine) → l ∈ ls → l.session ≡ q) → filter (λ l. l.session == q) ls ≡ ls
all_own q [] own = refl
all_own q (l ∷ ls) own = one_own q l ls (own l (zero, refl)) ∙ ap (λ (xs : List ScriptLine). l ∷ xs) (all_own q ls (λ x there. own x (∈-behind l ls x there)))

none_own : (q : ℕ) (ls : List ScriptLine) → ((l : ScriptLine) → l ∈ ls → l.session ≡ q → ⊥) → filter (λ l. l.session == q) ls ≡ []
none_own q [] other = refl
none_own q (l ∷ ls) other = one_other q l ls (other l (zero, refl)) ∙ none_own q ls (λ x there. other x (∈-behind l ls x there))

answer_own : (q : ℕ) (l : ScriptLine) (a : Answer) (ls : List ScriptLine) (gs : List Answer) → l.session ≡ q → own_answers q (l ∷ ls) (a ∷ gs) ≡ a ∷ own_answers q ls gs
answer_own q l a ls gs own = elim (eqb_tells l.session q) as (λ _. own_answers q (l ∷ ls) (a ∷ gs) ≡ a ∷ own_answers q ls gs) [
  | inl here ↦ ap (λ (b : Bool). cond b (a ∷ own_answers q ls gs) (own_answers q ls gs)) here.0
  | inr there ↦ absurd (there.1 own)
]

answer_other : (q : ℕ) (l : ScriptLine) (a : Answer) (ls : List ScriptLine) (gs : List Answer) → (l.session ≡ q → ⊥) → own_answers q (l ∷ ls) (a ∷ gs) ≡ own_answers q ls gs
answer_other q l a ls gs other = elim (eqb_tells l.session q) as (λ _. own_answers q (l ∷ ls) (a ∷ gs) ≡ own_answers q ls gs) [
  | inl here ↦ absurd (other here.1)
  | inr there ↦ ap (λ (b : Bool). cond b (a ∷ own_answers q ls gs) (own_answers q ls gs)) there.0
]

-- a session's answers among those of lines and of more lines
answers_own : (q : ℕ) (ls more : List ScriptLine) (gs bs : List Answer) → length gs ≡ length ls → ((l : ScriptLine) → l ∈ ls → l.session ≡ q)
    → own_answers q (ls ++ more) (gs ++ bs) ≡ gs ++ own_answers q more bs
answers_own q [] more [] bs each own = refl
answers_own q [] more (a ∷ gs) bs each own = absurd (omega arith)
answers_own q (l ∷ ls) more [] bs each own = absurd (omega arith)
answers_own q (l ∷ ls) more (a ∷ gs) bs each own =
    answer_own q l a (ls ++ more) (gs ++ bs) (own l (zero, refl))
    ∙ ap (λ (xs : List Answer). a ∷ xs) (answers_own q ls more gs bs (omega arith) (λ x there. own x (∈-behind l ls x there)))

answers_other : (q : ℕ) (ls more : List ScriptLine) (gs bs : List Answer) → length gs ≡ length ls → ((l : ScriptLine) → l ∈ ls → l.session ≡ q → ⊥)
    → own_answers q (ls ++ more) (gs ++ bs) ≡ own_answers q more bs
answers_other q [] more [] bs each other = refl
answers_other q [] more (a ∷ gs) bs each other = absurd (omega arith)
answers_other q (l ∷ ls) more [] bs each other = absurd (omega arith)
answers_other q (l ∷ ls) more (a ∷ gs) bs each other =
    answer_other q l a (ls ++ more) (gs ++ bs) (other l (zero, refl)) ∙ answers_other q ls more gs bs (omega arith) (λ x there. other x (∈-behind l ls x there))

no_answers : (q : ℕ) (ls : List ScriptLine) → own_answers q ls [] ≡ []
no_answers q [] = refl
no_answers q (l ∷ ls) = refl

-- OF ALL. Each line is one of a session from the first seat on.
pub record IsAmong (from below : ℕ) (l : ScriptLine) : Type 0 where
  pub line : IsLine l.session l
  pub above : from ≤ l.session
  pub within : l.session < below

pub among : (s : ℕ) (all : List Transcript) (l : ScriptLine) → AreFrom s all → l ∈ lines_of all → IsAmong s (s + length all) l
among s [] l are there = absurd (none_in_nil l there)
among s (c ∷ all) l are there = elim (in_either c.lines.items (lines_of all) l there) [
  | inl here ↦
      let line = are.1.own l here in let seat = are.0 in record {
        line = subst (λ (n : ℕ). IsLine n l) (sym line.own) line;
        above = omega (arith, line.own, seat);
        within = omega (arith, line.own, seat);
      }
  | inr later ↦
      let so = among (s + 1) all l are.2 later in record {
        line = so.line;
        above = omega (arith, so.above);
        within = omega (arith, so.within);
      }
]

-- each has an answer to each of its lines
abbrev AreEven : List Transcript → Type 0
AreEven all = (k : ℕ) (c : Transcript) → slice_get all k ≡ Some c → length c.answers.items ≡ length c.lines.items

even_all : (all : List Transcript) → AreEven all → length (answers_of all) ≡ length (lines_of all)
even_all [] even = refl
even_all (c ∷ all) even =
    let here = even zero c refl in
    let rest = even_all all (λ k d at. even (suc k) d at) in
    omega (arith, here, rest, length-append c.answers.items (answers_of all), length-append c.lines.items (lines_of all))

-- a session before them has none of their lines
lines_before : (q s : ℕ) (all : List Transcript) → q < s → AreFrom s all → own_lines q (lines_of all) ≡ []
lines_before q s all below are = none_own q (lines_of all) (λ l there own. let so = among s all l are there in omega (arith, so.above, below, own))

answers_before : (q s : ℕ) (all : List Transcript) → q < s → AreFrom s all → AreEven all → own_answers q (lines_of all) (answers_of all) ≡ []
answers_before q s [] below are even = refl
answers_before q s (c ∷ all) below are even =
    answers_other q c.lines.items (lines_of all) c.answers.items (answers_of all) (even zero c refl)
    (λ l there own. let line = are.1.own l there in let seat = are.0 in omega (arith, line.own, seat, below, own))
    ∙ answers_before q (s + 1) all (omega (arith, below)) are.2 (λ k d at. even (suc k) d at)

-- and each has its own
lines_at : (q s k : ℕ) (all : List Transcript) (c : Transcript) → q ≡ s + k → AreFrom s all → slice_get all k ≡ Some c → own_lines q (lines_of all) ≡ c.lines.items
lines_at q s k [] c is are at = cc
lines_at q s zero (d ∷ all) c is are at =
    let same : d ≡ c = cc in
    filter-append (λ (l : ScriptLine). l.session == q) d.lines.items (lines_of all)
    ∙ ap (λ (ls : List ScriptLine). ls ++ filter (λ (l : ScriptLine). l.session == q) (lines_of all)) (all_own q d.lines.items (λ l there. let line = are.1.own l there in let seat = are.0 in omega (arith, line.own, seat, is)))
    ∙ ap (λ (ls : List ScriptLine). d.lines.items ++ ls) (lines_before q (s + 1) all (omega (arith, is)) are.2)
    ∙ append-nil d.lines.items ∙ ap (λ (x : Transcript). x.lines.items) same
lines_at q s (suc k) (d ∷ all) c is are at =
    filter-append (λ (l : ScriptLine). l.session == q) d.lines.items (lines_of all)
    ∙ ap (λ (ls : List ScriptLine). ls ++ filter (λ (l : ScriptLine). l.session == q) (lines_of all)) (none_own q d.lines.items (λ l there own. let line = are.1.own l there in let seat = are.0 in omega (arith, line.own, seat, is, own)))
    ∙ lines_at q (s + 1) k all c (omega (arith, is)) are.2 at

answers_at : (q s k : ℕ) (all : List Transcript) (c : Transcript) → q ≡ s + k → AreFrom s all → AreEven all → slice_get all k ≡ Some c
    → own_answers q (lines_of all) (answers_of all) ≡ c.answers.items
answers_at q s k [] c is are even at = cc
answers_at q s zero (d ∷ all) c is are even at =
    let same : d ≡ c = cc in
    answers_own q d.lines.items (lines_of all) d.answers.items (answers_of all) (even zero d refl) (λ l there. let line = are.1.own l there in let seat = are.0 in omega (arith, line.own, seat, is))
    ∙ ap (λ (gs : List Answer). d.answers.items ++ gs) (answers_before q (s + 1) all (omega (arith, is)) are.2 (λ k x at. even (suc k) x at))
    ∙ append-nil d.answers.items ∙ ap (λ (x : Transcript). x.answers.items) same
answers_at q s (suc k) (d ∷ all) c is are even at =
    answers_other q d.lines.items (lines_of all) d.answers.items (answers_of all) (even zero d refl) (λ l there own. let line = are.1.own l there in let seat = are.0 in omega (arith, line.own, seat, is, own))
    ∙ answers_at q (s + 1) k all c (omega (arith, is)) are.2 (λ j x at. even (suc j) x at) at

map_at : {X Y : Type 0} (f : X → Y) (xs : List X) (k : ℕ) (x : X) → slice_get xs k ≡ Some x → slice_get (map f xs) k ≡ Some (f x)
map_at f [] k x at = cc
map_at f (y ∷ xs) zero x at = cc
map_at f (y ∷ xs) (suc k) x at = map_at f xs k x at

map_length : {X Y : Type 0} (f : X → Y) (xs : List X) → length (map f xs) ≡ length xs
map_length f [] = refl
map_length f (x ∷ xs) = let rest = map_length f xs in omega (arith, rest)

-- THE LAW
pub are_run : TranscriptsAreARun
are_run v f all closed opened are few sessions works complete =
    let even : (k : ℕ) (c : Transcript) → slice_get all k ≡ Some c → length c.answers.items ≡ length c.lines.items =
    λ k c at. (complete k c.lines.items c.answers.items (map_at (λ (c : Transcript). c.lines.items) all k c at) (map_at (λ (c : Transcript). c.answers.items) all k c at)).0 in
    let many = map_length (λ (c : Transcript). c.lines.items) all in
    are_a_run v f (lines_of all) (map (λ (c : Transcript). c.lines.items) all) (map (λ (c : Transcript). c.answers.items) all) closed (answers_of all)
    (record {
      opened = opened;
      ranges = λ l there. (among 1 all l are there).line.range;
      few = few;
      seats = λ l there. let so = among 1 all l are there in (so.above, omega (arith, so.within, many));
      sessions = omega (arith, sessions, many);
      own = λ k lines at. let it = map_from (λ (c : Transcript). c.lines.items) all k lines at in
          sym it.2 ∙ sym (lines_at (k + 1) 1 k all it.0 (omega arith) are it.1);
    })
    works complete
    (record {
      many = even_all all even;
      own = λ k part at. let it = map_from (λ (c : Transcript). c.answers.items) all k part at in
          answers_at (k + 1) 1 k all it.0 (omega arith) are even it.1 ∙ it.2;
    })
