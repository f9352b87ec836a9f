-- The first bad line of a script.
use Rattle.std.proofs.Common.{◌≡◌, ◌==◌, ℕ, ◌+◌, ◌<◌, false, List, ◌∷◌, [], ◌++◌, length, take, drop, get_or, ap, sym, ◌∙◌, arith, refl, ◌⊎◌, inl, inr}
use Rattle.std.specs.List.{slice_split}
use Rattle.std.proofs.lemmas.Bool.{cases_lt}
use Rattle.std.proofs.lemmas.List.{length-take-le, append_assoc, take-append-drop, drop_more}
use Rattle.erm_script.specs.declared.fault.FaultKind.{FaultKind}
use Rattle.erm_script.specs.declared.fault.FaultKind.TheVariants.{Threads, Name, Sessions, Command, Args, Number, Value}
use Rattle.erm_script.specs.declared.grammar.Grammar.{Grammar}
use Rattle.erm_script.specs.declared.script.ScriptLine.{ScriptLine}
use Rattle.erm_script.specs.Faults.{IsFirstFault, IsFirstBadLine, turn_of}
use Rattle.erm_script.specs.Script.{AreScript, is_skipped, kept_lines}
use Rattle.erm_script.specs.Words.{words_of}
use Rattle.erm_script.proofs.Faults.{no_fault}
use Rattle.erm_script.proofs.Readings.{AreScript-unique}
use Rattle.erm_script.proofs.Scripts.{kept_from, kept_from-append, kept_from-kept, no_script_after}

-- the first line with a fault, after those before it
pub first_bad_line : (g : Grammar) (bytes : List ℕ) (n : ℕ) (line : List ℕ) (names : List (List ℕ)) (lines : List ScriptLine) (kind : FaultKind)
    → n < length (slice_split (λ b. b == 10) bytes) → line ≡ get_or (slice_split (λ b. b == 10) bytes) n line → is_skipped line ≡ false
    → AreScript g (kept_from 1 (take n (slice_split (λ b. b == 10) bytes))) names lines → IsFirstFault g names (words_of line) kind
    → IsFirstBadLine g bytes (n + 1) kind
first_bad_line g bytes n line names lines kind within is kept good fault =
    let all = slice_split (λ b. b == 10) bytes in
    let before = kept_from 1 (take n all) in
    let rest = kept_from (n + 1 + 1) (drop (n + 1) all) in
    let number : 1 + length (take n all) ≡ n + 1 = let long = length-take-le n all (omega arith) in omega arith in
    let split : all ≡ take n all ++ line ∷ drop (n + 1) all =
    sym (take-append-drop n all) ∙ ap (λ (ls : List (List ℕ)). take n all ++ ls) (drop_more all n line within)
    ∙ ap (λ (l : List ℕ). take n all ++ l ∷ drop (n + 1) all) (sym is) in
    let cut : kept_lines bytes ≡ before ++ (n + 1, line) ∷ rest =
    ap (λ (ls : List (List ℕ)). kept_from 1 ls) split ∙ kept_from-append 1 (take n all) (line ∷ drop (n + 1) all)
    ∙ ap (λ m. before ++ kept_from m (line ∷ drop (n + 1) all)) number
    ∙ ap (λ (ks : List (ℕ × List ℕ)). before ++ ks) (kept_from-kept (n + 1) line (drop (n + 1) all) kept) in
    record {
      before = before;
      bad = line;
      rest = rest;
      cut = cut;
      names = names;
      script = lines;
      good = good;
      fault = fault;
      wrong = wrong before good;
      none = λ others more whole. no_script_after g (before ++ (n + 1, line) ∷ []) rest (wrong before good) others more (rw append_assoc (rw cut at whole));
    }
  where
    wrong : (before : List (ℕ × List ℕ)) → AreScript g before names lines → (others : List (List ℕ)) (more : List ScriptLine)
        → AreScript g (before ++ (n + 1, line) ∷ []) others more → ⊥
    wrong before was others more is = no_fault g before (n + 1) line others names more lines kind is was fault.applies

-- the kind of a turn
kind_of : ℕ → FaultKind
kind_of n = get_or (Threads ∷ Name ∷ Sessions ∷ Command ∷ Args ∷ Number ∷ Value ∷ []) n Value

kind_of-turn_of : (kind : FaultKind) → kind_of (turn_of kind) ≡ kind
unfolding kind_of
kind_of-turn_of Threads = refl
kind_of-turn_of Name = refl
kind_of-turn_of Sessions = refl
kind_of-turn_of Command = refl
kind_of-turn_of Args = refl
kind_of-turn_of Number = refl
kind_of-turn_of Value = refl

-- a line has one first kind of fault
pub first_fault-unique : (g : Grammar) (names words : List (List ℕ)) (kind other : FaultKind)
    → IsFirstFault g names words kind → IsFirstFault g names words other → kind ≡ other
first_fault-unique g names words kind other one two = elim (cases_lt (turn_of kind) (turn_of other)) [
  | inl before ↦ absurd (two.first kind before one.applies)
  | inr not_before ↦ elim (cases_lt (turn_of other) (turn_of kind)) [
    | inl after ↦ absurd (one.first other after two.applies)
    | inr not_after ↦
        let same : turn_of kind ≡ turn_of other = omega arith in
        sym (kind_of-turn_of kind) ∙ ap (λ n. kind_of n) same ∙ kind_of-turn_of other
  ]
]

-- where one list is cut at an element in two ways, the cuts are the same, or one is in the front of the other
cuts : {X : Type 0} (xs ys others more : List X) (x y : X) → xs ++ x ∷ ys ≡ others ++ y ∷ more
    → ((xs ≡ others) × (x ≡ y)) ⊎ ((zs : List X) × (others ≡ (xs ++ x ∷ []) ++ zs)) ⊎ ((zs : List X) × (xs ≡ (others ++ y ∷ []) ++ zs))
cuts [] ys [] more x y e = inl (refl, cc)
cuts [] ys (o ∷ others) more x y e = inr (inl (others, cc))
cuts (z ∷ xs) ys [] more x y e = inr (inr (xs, cc))
cuts (z ∷ xs) ys (o ∷ others) more x y e =
    let same : z ≡ o = cc in
    elim (cuts xs ys others more x y (cc)) [
      | inl here ↦ inl (let fronts = here.0 in cc, here.1)
      | inr (inl later) ↦ inr (inl (later.0, let behind = later.1 in cc))
      | inr (inr earlier) ↦ inr (inr (earlier.0, let behind = earlier.1 in cc))
    ]

-- a bad line is not among the lines of a script
not_before : (g : Grammar) (before front : List (ℕ × List ℕ)) (k : ℕ × List ℕ) (rest : List (ℕ × List ℕ)) (names : List (List ℕ)) (script : List ScriptLine)
    → ((others : List (List ℕ)) (more : List ScriptLine) → AreScript g (before ++ k ∷ []) others more → ⊥)
    → front ≡ (before ++ k ∷ []) ++ rest → AreScript g front names script → ⊥
not_before g before front k rest names script wrong are is = no_script_after g (before ++ k ∷ []) rest wrong names script (rw are at is)

-- bytes have one first bad line, with one kind
pub first_bad_line-unique : (g : Grammar) (bytes : List ℕ) (number other_number : ℕ) (kind other : FaultKind)
    → IsFirstBadLine g bytes number kind → IsFirstBadLine g bytes other_number other → (number ≡ other_number) × (kind ≡ other)
first_bad_line-unique g bytes number other_number kind other one two =
    elim (cuts one.before one.rest two.before two.rest (number, one.bad) (other_number, two.bad) (sym one.cut ∙ two.cut)) [
      | inl same ↦
          let line : one.bad ≡ two.bad = ap (λ (k : ℕ × List ℕ). k.1) same.1 in
          let names = (AreScript-unique g two.before one.names two.names one.script two.script (rw same.0 at one.good) two.good).0 in
          let fault : IsFirstFault g two.names (words_of two.bad) kind = rw (names, line) at one.fault in
          (ap (λ (k : ℕ × List ℕ). k.0) same.1, first_fault-unique g two.names (words_of two.bad) kind other fault two.fault)
      | inr (inl later) ↦ absurd (not_before g one.before two.before (number, one.bad) later.0 two.names two.script one.wrong later.1 two.good)
      | inr (inr earlier) ↦ absurd (not_before g two.before one.before (other_number, two.bad) earlier.0 one.names one.script two.wrong earlier.1 one.good)
    ]
