-- What a report owes of its snapshots, by tests.
use Rattle.std.proofs.Common.{◌≡◌, ℕ, suc, ◌+◌, ◌<◌, ◌≤◌, ◌⊎◌, ◌==◌, Bool, true, false, cond, ◌&&◌, ◌||◌, not, nat_lt, nat_le, List, [], ◌∷◌, ◌++◌, fold, take, Option, Some, None, refl, sym, ap, ◌∙◌, subst, inl, inr, arith}
use Rattle.std.specs.List.{AllByRecursion, slice_get}
use Rattle.std.specs.Option.{option_to_list}
use Rattle.std.proofs.lemmas.Bool.{eqb-true}
use Rattle.std.proofs.lemmas.Bool.Decides.{nat_tests}
use Rattle.erm_model.specs.declared.limits.TheConstants.{LEAST_BLOCK, STOP}
use Rattle.erm_model.specs.Member.{◌∈◌}
use Rattle.erm_report.specs.declared.answer.Answer.{Answer}
use Rattle.erm_report.specs.declared.answer.Answer.TheVariants as answer
use Rattle.erm_script.specs.declared.script.ScriptLine.{ScriptLine}
use Rattle.erm_good_report.specs.Phases.{asks_safe}
use Rattle.erm_good_report.specs.Refusals.{Moment, most_end}
use Rattle.erm_good_report.specs.Snapshots.{BeginsRightly, BeginsSnapshot, IsOfSnapshot, IsSafeThere, IsToldBefore, IsToldBehind}
use Rattle.erm_good_report.specs.Stamps.{DrawsUntold, begin_told, stamp_drawn, stamp_printed}
use Rattle.erm_good_report.specs.Transactions.{HasSnapshot, Progress, Said, Snapshot, Transaction, heard, next_number, nothing, progress_of, said_of}
use Rattle.erm_good_report.proofs.Parts.{all_pass, each_in}
use Rattle.erm_good_report.proofs.Places.{Place, place_at, said_by}
use Rattle.erm_good_report.proofs.Snapshots.{both_true}
use Rattle.erm_good_report.proofs.StampTests.{Side, at_pass, at_place, below_pass, each_from_test, first_true, least_from, less_to, lies_below, places_from_test, places_pass, second_of, second_true, some_from_test, some_pass, untold_from, untold_pass}

-- ---- lines that begin a snapshot
abbrev pub is_of_snapshot : Answer → Bool
is_of_snapshot (answer.Safe begin) = true
is_of_snapshot (answer.WaitSeat seat seen) = true
is_of_snapshot (answer.Unsafe seat stamp) = true
is_of_snapshot a = false

of_snapshot : (a : Answer) → IsOfSnapshot a → is_of_snapshot a ≡ true
of_snapshot (answer.Safe begin) is = refl
of_snapshot (answer.WaitSeat seat seen) is = refl
of_snapshot (answer.Unsafe seat stamp) is = refl
of_snapshot a is = absurd is

abbrev pub has_none : Option Snapshot → Bool
has_none None = true
has_none (Some x) = false

abbrev pub begins_by : List Said → ℕ → Said → Bool
begins_by said i s = asks_safe s.asked && (is_of_snapshot s.answer && has_none (progress_of s.session (take i said)).snapshot)

begins_there : (said : List Said) (i session number : ℕ) (b : BeginsSnapshot said i session number) → begins_by said i b.line ≡ true
begins_there said i session number b =
    let none : has_none (progress_of b.line.session (take i said)).snapshot ≡ true =
    ap (λ (q : ℕ). has_none (progress_of q (take i said)).snapshot) b.of ∙ ap has_none b.none
    in
    both_true (asks_safe b.line.asked) (is_of_snapshot b.line.answer && has_none (progress_of b.line.session (take i said)).snapshot) (ap asks_safe b.asks)
    (both_true (is_of_snapshot b.line.answer) (has_none (progress_of b.line.session (take i said)).snapshot) (of_snapshot b.line.answer b.answered) none)

-- ---- where one may begin: what the lines before and behind tell
abbrev pub before_pass : Said → ℕ → Bool
before_pass s begin = some_pass (λ stamp. nat_lt stamp begin) (stamp_printed s.answer) && below_pass s begin

abbrev pub behind_pass : Said → ℕ → Bool
behind_pass s begin = some_pass (λ later. nat_le begin later) (begin_told s.answer) && some_pass (λ stamp. nat_le begin stamp) (stamp_drawn s.asked s.answer)

abbrev pub later_pass : (ℕ → ℕ → ℕ) → List Said → ℕ → ℕ → Said → Bool
later_pass begins said begin j s = not (begins_by said j s) || nat_le begin (begins s.session (next_number (progress_of s.session (take j said))))

abbrev pub beside_pass : (ℕ → ℕ → ℕ) → List Said → (i begin j : ℕ) → Said → Bool
beside_pass begins said i begin j s = (not (nat_lt j i) || before_pass s begin) && (not (nat_lt i j) || (behind_pass s begin && later_pass begins said begin j s))

abbrev pub untold_side : (i begin : ℕ) → Side
untold_side i begin k line stamp j s = (not (nat_lt k i) || nat_le (stamp + LEAST_BLOCK) begin) && (not (nat_lt i k) || nat_le begin stamp)

abbrev pub start_pass : Moment → ℕ → Bool
start_pass m begin = nat_le (m.opening.stamp + LEAST_BLOCK) begin && (nat_lt begin STOP && nat_le begin (most_end m))

abbrev pub snapshot_pass : (ℕ → ℕ → ℕ) → Moment → List Said → (i begin : ℕ) → Bool
snapshot_pass begins m said i begin = start_pass m begin && (at_pass (beside_pass begins said i begin) 0 said && untold_pass (untold_side i begin) m.all said)

less_from : (m n : ℕ) → nat_lt m n ≡ true → m < n
less_from m n pass = grind (arith, nat_tests)

told_before : (s : Said) (begin : ℕ) → before_pass s begin ≡ true → IsToldBefore s begin
told_before s begin pass =
    let printed = some_pass (λ stamp. nat_lt stamp begin) (stamp_printed s.answer) in record {
      printed = some_from_test (λ stamp. stamp < begin) (λ stamp. nat_lt stamp begin) (λ stamp. less_from stamp begin) (stamp_printed s.answer) (first_true printed (below_pass s begin) pass);
      lies = lies_below s begin (second_true printed (below_pass s begin) pass);
    }

told_behind : (s : Said) (begin : ℕ) → behind_pass s begin ≡ true → IsToldBehind s begin
told_behind s begin pass =
    let begun = some_pass (λ later. nat_le begin later) (begin_told s.answer) in
    let drawn = some_pass (λ stamp. nat_le begin stamp) (stamp_drawn s.asked s.answer) in record {
      begin_is = some_from_test (λ later. begin ≤ later) (λ later. nat_le begin later) (λ later. least_from begin later) (begin_told s.answer) (first_true begun drawn pass);
      drawn = some_from_test (λ stamp. begin ≤ stamp) (λ stamp. nat_le begin stamp) (λ stamp. least_from begin stamp) (stamp_drawn s.asked s.answer) (second_true begun drawn pass);
    }

rightly : (begins : ℕ → ℕ → ℕ) (m : Moment) (said : List Said) (i begin : ℕ) → snapshot_pass begins m said i begin ≡ true → BeginsRightly m said begins i begin
rightly begins m said i begin pass =
    let beside = at_pass (beside_pass begins said i begin) 0 said in
    let untold = untold_pass (untold_side i begin) m.all said in
    let start = first_true (start_pass m begin) (beside && untold) pass in
    let rest = second_true (start_pass m begin) (beside && untold) pass in
    let least = nat_le (m.opening.stamp + LEAST_BLOCK) begin in
    let stop = nat_lt begin STOP in
    let reach = nat_le begin (most_end m) in
    let others = second_true least (stop && reach) start in record {
      least = least_from (m.opening.stamp + LEAST_BLOCK) begin (first_true least (stop && reach) start);
      stops = λ in_turn. less_from begin STOP (first_true stop reach others);
      reach = least_from begin (most_end m) (second_true stop reach others);
      before = λ j s before at first.
          told_before s begin (second_of (nat_lt j i) (before_pass s begin)
          (first_true (not (nat_lt j i) || before_pass s begin) (not (nat_lt i j) || (behind_pass s begin && later_pass begins said begin j s)) (here_at j s at)) (less_to j i before));
      behind = λ j s behind at first. told_behind s begin (first_true (behind_pass s begin) (later_pass begins said begin j s) (behind_at j s behind at));
      ascends = λ j session number behind b first.
          let there = second_true (behind_pass b.line begin) (later_pass begins said begin j b.line) (behind_at j b.line behind b.at) in
          let where_it = second_of (begins_by said j b.line) (nat_le begin (begins b.line.session (next_number (progress_of b.line.session (take j said))))) there (begins_there said j session number b) in
          let its : nat_le begin (begins session (next_number (progress_of session (take j said)))) ≡ true =
          subst (λ (q : ℕ). nat_le begin (begins q (next_number (progress_of q (take j said)))) ≡ true) b.of where_it
          in
          least_from begin (begins session number) (subst (λ (n : ℕ). nat_le begin (begins session n) ≡ true) (sym b.next) its);
      untold_before = λ k stamp drawn before first.
          least_from (stamp + LEAST_BLOCK) begin (second_of (nat_lt k i) (nat_le (stamp + LEAST_BLOCK) begin)
          (first_true (not (nat_lt k i) || nat_le (stamp + LEAST_BLOCK) begin) (not (nat_lt i k) || nat_le begin stamp) (untold_at k stamp drawn)) (less_to k i before));
      untold_behind = λ k stamp drawn behind first.
          least_from begin stamp (second_of (nat_lt i k) (nat_le begin stamp)
          (second_true (not (nat_lt k i) || nat_le (stamp + LEAST_BLOCK) begin) (not (nat_lt i k) || nat_le begin stamp) (untold_at k stamp drawn)) (less_to i k behind));
    }
  where
    beside_true : at_pass (beside_pass begins said i begin) 0 said ≡ true
    beside_true =
        first_true (at_pass (beside_pass begins said i begin) 0 said) (untold_pass (untold_side i begin) m.all said)
        (second_true (start_pass m begin) (at_pass (beside_pass begins said i begin) 0 said && untold_pass (untold_side i begin) m.all said) pass)

    here_at : (j : ℕ) (s : Said) → slice_get said j ≡ Some s → beside_pass begins said i begin j s ≡ true
    here_at j s = at_place (beside_pass begins said i begin) said beside_true j s

    behind_at : (j : ℕ) (s : Said) → i < j → slice_get said j ≡ Some s → (behind_pass s begin && later_pass begins said begin j s) ≡ true
    behind_at j s behind there =
        second_of (nat_lt i j) (behind_pass s begin && later_pass begins said begin j s)
        (second_true (not (nat_lt j i) || before_pass s begin) (not (nat_lt i j) || (behind_pass s begin && later_pass begins said begin j s)) (here_at j s there)) (less_to i j behind)

    untold_at : (k stamp : ℕ) (drawn : DrawsUntold m.all said k stamp) → untold_side i begin k drawn.line stamp k drawn.line ≡ true
    untold_at k stamp drawn =
        untold_from (untold_side i begin) m.all said
        (second_true (at_pass (beside_pass begins said i begin) 0 said) (untold_pass (untold_side i begin) m.all said)
        (second_true (start_pass m begin) (at_pass (beside_pass begins said i begin) 0 said && untold_pass (untold_side i begin) m.all said) pass)) k stamp drawn k drawn.line drawn.at

-- at each line that begins one
abbrev pub begun_at : (ℕ → ScriptLine → Moment) → (ℕ → ℕ → ℕ) → List Said → ℕ → ScriptLine → Answer → Bool
begun_at moment begins said i l a =
    not (begins_by said i (said_by l a)) || snapshot_pass begins (moment i l) said i (begins l.session (next_number (progress_of l.session (take i said))))

abbrev pub begun_pass : (ℕ → ScriptLine → Moment) → (ℕ → ℕ → ℕ) → List ScriptLine → List Answer → Bool
begun_pass moment begins script answers = places_pass (begun_at moment begins (said_of script answers)) 0 script answers

pub begun_from_test : (moment : ℕ → ScriptLine → Moment) (begins : ℕ → ℕ → ℕ) (script : List ScriptLine) (answers : List Answer) → begun_pass moment begins script answers ≡ true → (i number : ℕ) (l : ScriptLine)
    → slice_get script i ≡ Some l → BeginsSnapshot (said_of script answers) i l.session number → BeginsRightly (moment i l) (said_of script answers) begins i (begins l.session number)
begun_from_test moment begins script answers pass i number l at b =
    let said = said_of script answers in
    let place : Place script answers i b.line = place_at script answers i b.line b.at in
    let own : place.line ≡ l = let both : Some place.line ≡ Some l = sym place.at ∙ at in cc in
    let is : said_by l place.given ≡ b.line = ap (λ (k : ScriptLine). said_by k place.given) (sym own) ∙ place.is in
    let here = places_from_test (λ i l a. begun_at moment begins said i l a ≡ true) (begun_at moment begins said) (λ i l a is. is) script answers pass i l place.given at place.answered in
    let there : begins_by said i (said_by l place.given) ≡ true = subst (λ (s : Said). begins_by said i s ≡ true) (sym is) (begins_there said i l.session number b) in
    let its = second_of (begins_by said i (said_by l place.given)) (snapshot_pass begins (moment i l) said i (begins l.session (next_number (progress_of l.session (take i said))))) here there in
    rightly begins (moment i l) said i (begins l.session number) (subst (λ (n : ℕ). snapshot_pass begins (moment i l) said i (begins l.session n) ≡ true) (sym b.next) its)

-- ---- sessions of which something is said
abbrev progress_from : ℕ → Progress → List Said → Progress
progress_from q p said = fold (λ x s. cond (s.session == q) (heard q s.asked s.answer x) x) p said

abbrev IsSaid : ℕ → List Said → Type 0
IsSaid q said = (s : Said) × (s ∈ said) × (s.session ≡ q)

said_or_not : (q : ℕ) (said : List Said) (p : Progress) → (progress_from q p said ≡ p) ⊎ IsSaid q said
said_or_not q [] p = inl refl
said_or_not q (s ∷ said) p = by_test (s.session == q) refl (said_or_not q said p)
  where
    by_test : (b : Bool) → (s.session == q) ≡ b → (progress_from q p said ≡ p) ⊎ IsSaid q said
        → (progress_from q (cond (s.session == q) (heard q s.asked s.answer p) p) said ≡ p) ⊎ IsSaid q (s ∷ said)
    by_test true is rest = inr (s, (0, refl), eqb-true s.session q is)
    by_test false is (inl same) = inl (ap (λ (b : Bool). progress_from q (cond b (heard q s.asked s.answer p) p) said) is ∙ same)
    by_test false is (inr found) = inr (found.0, (suc found.1.0, found.1.1), found.2)

-- what is so of each session of a place, is so of each that has a transaction, or a snapshot
pub of_current : (P : ℕ → Transaction → Type 0) (said : List Said) → ((s : Said) → s ∈ said → (t : Transaction) → (progress_of s.session said).current ≡ Some t → P s.session t)
    → (session : ℕ) (t : Transaction) → (progress_of session said).current ≡ Some t → P session t
of_current P said each session t is = elim (said_or_not session said nothing) as (λ _. P session t) [
  | inl none ↦ absurd (let no : None ≡ Some t = sym (ap (λ (p : Progress). p.current) none) ∙ is in cc)
  | inr found ↦ subst (λ (q : ℕ). P q t) found.2 (each found.0 found.1 t (ap (λ (q : ℕ). (progress_of q said).current) found.2 ∙ is))
]

abbrev pub snapshots_at : List Said → ℕ → List Snapshot
snapshots_at said session = (progress_of session said).snapshots ++ option_to_list (progress_of session said).snapshot

pub of_snapshots : (P : ℕ → Snapshot → Type 0) (said : List Said) → AllByRecursion (λ s. AllByRecursion (P s.session) (snapshots_at said s.session)) said → (session : ℕ) (x : Snapshot)
    → HasSnapshot said session x → P session x
of_snapshots P said each session x has = elim (said_or_not session said nothing) as (λ _. P session x) [
  | inl none ↦ absurd (nothing_in (subst (λ (xs : List Snapshot). x ∈ xs) (ap (λ (p : Progress). p.snapshots ++ option_to_list p.snapshot) none) has))
  | inr found ↦
      let there = each_in (λ (s : Said). AllByRecursion (P s.session) (snapshots_at said s.session)) said each found.0 found.1 in
      subst (λ (q : ℕ). P q x) found.2
      (each_in (P found.0.session) (snapshots_at said found.0.session) there x (subst (λ (q : ℕ). x ∈ snapshots_at said q) (sym found.2) has))
]
  where
    nothing_in : x ∈ [] → ⊥
    nothing_in (k, at) = cc

-- ---- a snapshot is safe, beside the transactions that aren't over
abbrev pub begun_above : ℕ → Option Transaction → Bool
begun_above begin None = true
begun_above begin (Some t) = nat_le begin t.begin

abbrev pub rest_pass : Moment → ℕ → Bool
rest_pass m begin = all_pass (λ s. begun_above begin (progress_of s.session m.before).current) m.before

pub safe_there : (m : Moment) (begin : ℕ) → rest_pass m begin ≡ true → IsSafeThere m begin
safe_there m begin pass = record {
  rest = λ in_turn. of_current (λ session t. begin ≤ t.begin) m.before (λ s within t is.
      let here = each_from_test (λ s. begun_above begin (progress_of s.session m.before).current ≡ true) (λ s. begun_above begin (progress_of s.session m.before).current) (λ s is. is) m.before pass s within in
      least_from begin t.begin (subst (λ (o : Option Transaction). begun_above begin o ≡ true) is here));
}
