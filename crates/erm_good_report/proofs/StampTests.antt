-- Stamps of a report by tests: begins, stamps that lines draw, their reach, and commits that wait.
use Rattle.std.proofs.Common.{◌≡◌, ◌≢◌, ℕ, zero, suc, ◌+◌, ◌*◌, ◌<◌, ◌≤◌, ◌==◌, Bool, true, false, ◌&&◌, ◌||◌, not, nat_lt, nat_le, List, [], ◌∷◌, take, slice_get, Option, Some, None, refl, ap, ◌∙◌, subst, eq-eqb, ne_eqb, arith}
use Rattle.std.specs.Prelude.{IfSome}
use Rattle.std.specs.List.{AllPairs}
use Rattle.std.proofs.lemmas.Bool.Decides.{nat_tests}
use Rattle.erm_model.specs.declared.limits.TheConstants.{GREATEST_BLOCK, LEAST_BLOCK, STOP}
use Rattle.erm_model.specs.Member.{◌∈◌}
use Rattle.erm_report.specs.declared.answer.Answer.{Answer}
use Rattle.erm_report.specs.declared.answer.Answer.TheVariants as answer
use Rattle.erm_script.specs.declared.script.Command.{Command}
use Rattle.erm_script.specs.declared.script.Command.TheVariants as command
use Rattle.erm_script.specs.declared.script.ScriptLine.{ScriptLine}
use Rattle.erm_good_report.specs.Opening.{InTurn, Mode, Opening, is_before}
use Rattle.erm_good_report.specs.Refusals.{IsInReach, Moment, draws_of, lines_by, moment_at, most_end, total_of}
use Rattle.erm_good_report.specs.Stamps.{DrawsUntold, IsWait, LiesAbove, LiesBelow, Told, begin_told, place_told, stamp_drawn, stamp_printed}
use Rattle.erm_good_report.specs.Transactions.{Said, Transaction, progress_of, said_of, stamp_of}
use Rattle.erm_good_report.proofs.Parts.{all_pairs_from_test, all_pass, pairs_pass, told_from_test, told_pass}

pub least_from : (m n : ℕ) → nat_le m n ≡ true → m ≤ n
least_from m n pass = grind (arith, nat_tests)

less_from : (m n : ℕ) → nat_lt m n ≡ true → m < n
less_from m n pass = grind (arith, nat_tests)

pub first_true : (a b : Bool) → (a && b) ≡ true → a ≡ true
first_true true b both = refl
first_true false b both = both

pub second_true : (a b : Bool) → (a && b) ≡ true → b ≡ true
second_true true b both = both
second_true false b both = cc

-- whether a test passes of a number that is told
abbrev pub some_pass : (ℕ → Bool) → Option ℕ → Bool
some_pass test None = true
some_pass test (Some n) = test n

pub some_from_test : (P : ℕ → Type 0) (test : ℕ → Bool) → ((n : ℕ) → test n ≡ true → P n) → (o : Option ℕ) → some_pass test o ≡ true → IfSome o P
some_from_test P test sound None pass = tt
some_from_test P test sound (Some n) pass = sound n pass

-- what is so of each element, by a test
pub each_from_test : {X : Type 0} (P : X → Type 0) (test : X → Bool) → ((x : X) → test x ≡ true → P x) → (xs : List X) → all_pass test xs ≡ true → (x : X) → x ∈ xs → P x
each_from_test P test sound [] pass x (k, at) = cc
each_from_test P test sound (y ∷ ys) pass x (zero, at) = let same : y ≡ x = cc in subst P same (sound y (first_true (test y) (all_pass test ys) pass))
each_from_test P test sound (y ∷ ys) pass x (suc k, at) = each_from_test P test sound ys (second_true (test y) (all_pass test ys) pass) x (k, at)

-- and at each place of two lists side by side
abbrev pub places_pass : {X Y : Type 0} → (ℕ → X → Y → Bool) → ℕ → List X → List Y → Bool
places_pass test k [] ys = true
places_pass test k (x ∷ xs) [] = true
places_pass test k (x ∷ xs) (y ∷ ys) = test k x y && places_pass test (k + 1) xs ys

places_from : {X Y : Type 0} (P : ℕ → X → Y → Type 0) (test : ℕ → X → Y → Bool) → ((i : ℕ) (x : X) (y : Y) → test i x y ≡ true → P i x y) → (k : ℕ) (xs : List X) (ys : List Y)
    → places_pass test k xs ys ≡ true → (i : ℕ) (x : X) (y : Y) → slice_get xs i ≡ Some x → slice_get ys i ≡ Some y → P (k + i) x y
places_from P test sound k [] ys pass i x y at beside = cc
places_from P test sound k (a ∷ xs) [] pass i x y at beside = cc
places_from P test sound k (a ∷ xs) (b ∷ ys) pass zero x y at beside =
    let one : a ≡ x = cc in
    let other : b ≡ y = cc in
    let place : k ≡ k + zero = omega arith in
    let here = sound k a b (first_true (test k a b) (places_pass test (k + 1) xs ys) pass) in
    subst (λ n. P n x y) place (subst (λ c. P k x c) other (subst (λ c. P k c b) one here))
places_from P test sound k (a ∷ xs) (b ∷ ys) pass (suc i) x y at beside =
    let place : k + 1 + i ≡ k + suc i = omega arith in
    subst (λ n. P n x y) place (places_from P test sound (k + 1) xs ys (second_true (test k a b) (places_pass test (k + 1) xs ys) pass) i x y at beside)

pub places_from_test : {X Y : Type 0} (P : ℕ → X → Y → Type 0) (test : ℕ → X → Y → Bool) → ((i : ℕ) (x : X) (y : Y) → test i x y ≡ true → P i x y) → (xs : List X) (ys : List Y)
    → places_pass test 0 xs ys ≡ true → (i : ℕ) (x : X) (y : Y) → slice_get xs i ≡ Some x → slice_get ys i ≡ Some y → P i x y
places_from_test P test sound xs ys pass i x y at beside =
    let place : 0 + i ≡ i = omega arith in
    subst (λ n. P n x y) place (places_from P test sound 0 xs ys pass i x y at beside)

-- STAMPS IN TURN. Those printed lie below later begins, and those drawn ascend with their blocks.
pub stamps_begin : (said : List Said) → pairs_pass (λ a b. told_pass nat_lt (stamp_printed a.answer) (begin_told b.answer)) said ≡ true
    → AllPairs (λ a b. is_before InTurn a.session b.session ≡ true → Told (λ stamp begin. stamp < begin) (stamp_printed a.answer) (begin_told b.answer)) said
stamps_begin said pass = all_pairs_from_test (λ a b. is_before InTurn a.session b.session ≡ true → Told (λ stamp begin. stamp < begin) (stamp_printed a.answer) (begin_told b.answer))
    (λ a b. told_pass nat_lt (stamp_printed a.answer) (begin_told b.answer))
    (λ a b pass before. told_from_test (λ m n. m < n) nat_lt less_from (stamp_printed a.answer) (begin_told b.answer) pass) said pass

pub stamps_ascend : (said : List Said) → pairs_pass (λ a b. told_pass (λ m n. nat_le (m + LEAST_BLOCK) n) (stamp_drawn a.asked a.answer) (stamp_drawn b.asked b.answer)) said ≡ true
    → AllPairs (λ a b. is_before InTurn a.session b.session ≡ true → Told (λ first later. first + LEAST_BLOCK ≤ later) (stamp_drawn a.asked a.answer) (stamp_drawn b.asked b.answer)) said
stamps_ascend said pass = all_pairs_from_test (λ a b. is_before InTurn a.session b.session ≡ true → Told (λ first later. first + LEAST_BLOCK ≤ later) (stamp_drawn a.asked a.answer) (stamp_drawn b.asked b.answer))
    (λ a b. told_pass (λ m n. nat_le (m + LEAST_BLOCK) n) (stamp_drawn a.asked a.answer) (stamp_drawn b.asked b.answer))
    (λ a b pass before. told_from_test (λ m n. m + LEAST_BLOCK ≤ n) (λ m n. nat_le (m + LEAST_BLOCK) n) (λ m n. least_from (m + LEAST_BLOCK) n) (stamp_drawn a.asked a.answer) (stamp_drawn b.asked b.answer) pass) said pass

-- begins ascend, below the place where the log stops
pub begins_ascend : (said : List Said) → pairs_pass (λ a b. told_pass nat_le (begin_told a.answer) (begin_told b.answer)) said ≡ true
    → AllPairs (λ a b. is_before InTurn a.session b.session ≡ true → Told (λ first later. first ≤ later) (begin_told a.answer) (begin_told b.answer)) said
begins_ascend said pass = all_pairs_from_test (λ a b. is_before InTurn a.session b.session ≡ true → Told (λ first later. first ≤ later) (begin_told a.answer) (begin_told b.answer))
    (λ a b. told_pass nat_le (begin_told a.answer) (begin_told b.answer))
    (λ a b pass before. told_from_test (λ m n. m ≤ n) nat_le least_from (begin_told a.answer) (begin_told b.answer) pass) said pass

pub begins_stop : (said : List Said) → all_pass (λ s. some_pass (λ begin. nat_lt begin STOP) (begin_told s.answer)) said ≡ true → (s : Said) → s ∈ said → IfSome (begin_told s.answer) (λ begin. begin < STOP)
begins_stop said pass = each_from_test (λ s. IfSome (begin_told s.answer) (λ begin. begin < STOP)) (λ s. some_pass (λ begin. nat_lt begin STOP) (begin_told s.answer))
    (λ s pass. some_from_test (λ begin. begin < STOP) (λ begin. nat_lt begin STOP) (λ begin. less_from begin STOP) (begin_told s.answer) pass) said pass

-- REACH
abbrev pub reach_pass : Moment → Command → Answer → Bool
reach_pass m c a = some_pass (λ begin. nat_le begin (most_end m)) (begin_told a) && some_pass (λ stamp. nat_le (stamp + GREATEST_BLOCK) (most_end m)) (stamp_drawn (Some c) a)

in_reach : (m : Moment) (c : Command) (a : Answer) → reach_pass m c a ≡ true → IsInReach m c a
in_reach m c a pass =
    let begins = some_pass (λ begin. nat_le begin (most_end m)) (begin_told a) in
    let draws = some_pass (λ stamp. nat_le (stamp + GREATEST_BLOCK) (most_end m)) (stamp_drawn (Some c) a) in record {
      begin = some_from_test (λ begin. begin ≤ most_end m) (λ begin. nat_le begin (most_end m)) (λ begin. least_from begin (most_end m)) (begin_told a) (first_true begins draws pass);
      drawn = some_from_test (λ stamp. stamp + GREATEST_BLOCK ≤ most_end m) (λ stamp. nat_le (stamp + GREATEST_BLOCK) (most_end m)) (λ stamp. least_from (stamp + GREATEST_BLOCK) (most_end m)) (stamp_drawn (Some c) a)
          (second_true begins draws pass);
    }

pub reach_from_test : (moment : ℕ → ScriptLine → Moment) (script : List ScriptLine) (answers : List Answer) → places_pass (λ i l a. reach_pass (moment i l) l.command a) 0 script answers ≡ true
    → (i : ℕ) (l : ScriptLine) (a : Answer) → slice_get script i ≡ Some l → slice_get answers i ≡ Some a → IsInReach (moment i l) l.command a
reach_from_test moment script answers pass =
    places_from_test (λ i l a. IsInReach (moment i l) l.command a) (λ i l a. reach_pass (moment i l) l.command a) (λ i l a. in_reach (moment i l) l.command a) script answers pass

-- COMMITS THAT WAIT
abbrev pub waits_by : Answer → Bool
waits_by (answer.WaitSeat seat seen) = true
waits_by (answer.WaitRing flushed) = true
waits_by a = false

abbrev pub untold_by : Option Command → Answer → Bool
untold_by (Some command.Commit) a = waits_by a
untold_by asked a = false

waiting : (a : Answer) → IsWait a → waits_by a ≡ true
waiting (answer.WaitSeat seat seen) is = refl
waiting (answer.WaitRing flushed) is = refl
waiting a is = absurd is

-- of an alternative whose first part fails the second one holds
pub second_of : (a b : Bool) → (not a || b) ≡ true → a ≡ true → b ≡ true
second_of true b pass is = pass
second_of false b pass is = cc

-- whether a test passes at each place of a list, the first of which has this number
abbrev pub at_pass : {X : Type 0} → (ℕ → X → Bool) → ℕ → List X → Bool
at_pass test k [] = true
at_pass test k (x ∷ xs) = test k x && at_pass test (k + 1) xs

at_from : {X : Type 0} (test : ℕ → X → Bool) (k : ℕ) (xs : List X) → at_pass test k xs ≡ true → (i : ℕ) (x : X) → slice_get xs i ≡ Some x → test (k + i) x ≡ true
at_from test k [] pass i x at = cc
at_from test k (y ∷ xs) pass zero x at =
    let same : y ≡ x = cc in
    let place : k ≡ k + zero = omega arith in
    subst (λ n. test n x ≡ true) place (subst (λ z. test k z ≡ true) same (first_true (test k y) (at_pass test (k + 1) xs) pass))
at_from test k (y ∷ xs) pass (suc i) x at =
    let place : k + 1 + i ≡ k + suc i = omega arith in
    subst (λ n. test n x ≡ true) place (at_from test (k + 1) xs (second_true (test k y) (at_pass test (k + 1) xs) pass) i x at)

pub at_place : {X : Type 0} (test : ℕ → X → Bool) (xs : List X) → at_pass test 0 xs ≡ true → (i : ℕ) (x : X) → slice_get xs i ≡ Some x → test i x ≡ true
at_place test xs pass i x at =
    let place : 0 + i ≡ i = omega arith in
    subst (λ n. test n x ≡ true) place (at_from test 0 xs pass i x at)

-- Whether a test passes of each commit that waits, with the stamp that is told of it: of its place and line, and of each other place and line.
abbrev pub Side : Type 0
Side = ℕ → Said → ℕ → ℕ → Said → Bool

abbrev pub stamp_pass : Side → List Said → ℕ → Said → Option ℕ → Bool
stamp_pass side said i line None = true
stamp_pass side said i line (Some stamp) = at_pass (side i line stamp) 0 said

abbrev pub own_pass : Side → List Transaction → List Said → ℕ → Said → Option Transaction → Bool
own_pass side transactions said i line None = true
own_pass side transactions said i line (Some own) =
    all_pass (λ w. not (w.session == own.session) || (not (w.number == own.number) || stamp_pass side said i line (stamp_of w))) transactions

abbrev pub untold_pass : Side → List Transaction → List Said → Bool
untold_pass side transactions said =
    at_pass (λ i line. not (untold_by line.asked line.answer) || own_pass side transactions said i line (progress_of line.session (take i said)).current) 0 said

pub untold_from : (side : Side) (transactions : List Transaction) (said : List Said) → untold_pass side transactions said ≡ true → (i stamp : ℕ) (drawn : DrawsUntold transactions said i stamp) → (j : ℕ) (s : Said)
    → slice_get said j ≡ Some s → side i drawn.line stamp j s ≡ true
untold_from side transactions said pass i stamp drawn j s at =
    let line = drawn.line in
    let untold : untold_by line.asked line.answer ≡ true = ap (λ o. untold_by o line.answer) drawn.asks ∙ waiting line.answer drawn.waits in
    let here = at_place (λ i line. not (untold_by line.asked line.answer) || own_pass side transactions said i line (progress_of line.session (take i said)).current) said pass i line drawn.at in
    let of_line = second_of (untold_by line.asked line.answer) (own_pass side transactions said i line (progress_of line.session (take i said)).current) here untold in
    let of_own : own_pass side transactions said i line (Some drawn.own) ≡ true = subst (λ o. own_pass side transactions said i line o ≡ true) drawn.current of_line in
    let of_each = each_from_test (λ (w : Transaction). (not (w.session == drawn.own.session) || (not (w.number == drawn.own.number) || stamp_pass side said i line (stamp_of w))) ≡ true)
    (λ w. not (w.session == drawn.own.session) || (not (w.number == drawn.own.number) || stamp_pass side said i line (stamp_of w))) (λ w is. is) transactions of_own drawn.whole drawn.of in
    let numbered = second_of (drawn.whole.session == drawn.own.session) (not (drawn.whole.number == drawn.own.number) || stamp_pass side said i line (stamp_of drawn.whole)) of_each
    (eq-eqb drawn.whole.session drawn.own.session drawn.same.0) in
    let stamped = second_of (drawn.whole.number == drawn.own.number) (stamp_pass side said i line (stamp_of drawn.whole)) numbered (eq-eqb drawn.whole.number drawn.own.number drawn.same.1) in
    let told : at_pass (side i line stamp) 0 said ≡ true = subst (λ o. stamp_pass side said i line o ≡ true) drawn.told stamped in
    at_place (side i line stamp) said told j s at

-- what other sessions' lines before it tell lies below, and what lines behind it tell above
abbrev pub below_pass : Said → ℕ → Bool
below_pass s stamp = some_pass (λ begin. nat_le begin stamp) (begin_told s.answer)
    && (some_pass (λ place. nat_le place stamp) (place_told s.answer) && some_pass (λ first. nat_le (first + LEAST_BLOCK) stamp) (stamp_drawn s.asked s.answer))

abbrev pub above_pass : Said → ℕ → Bool
above_pass s stamp = some_pass (λ begin. nat_le (stamp + LEAST_BLOCK) begin) (begin_told s.answer) && some_pass (λ later. nat_le (stamp + LEAST_BLOCK) later) (stamp_drawn s.asked s.answer)

abbrev pub after_side : Side
after_side i line stamp j s = not (nat_lt j i) || (not (not (s.session == line.session)) || below_pass s stamp)

abbrev pub before_side : Side
before_side i line stamp j s = not (nat_lt i j) || above_pass s stamp

pub lies_below : (s : Said) (stamp : ℕ) → below_pass s stamp ≡ true → LiesBelow s stamp
lies_below s stamp pass =
    let begins = some_pass (λ begin. nat_le begin stamp) (begin_told s.answer) in
    let places = some_pass (λ place. nat_le place stamp) (place_told s.answer) in
    let draws = some_pass (λ first. nat_le (first + LEAST_BLOCK) stamp) (stamp_drawn s.asked s.answer) in
    let others = second_true begins (places && draws) pass in record {
      begin = some_from_test (λ begin. begin ≤ stamp) (λ begin. nat_le begin stamp) (λ begin. least_from begin stamp) (begin_told s.answer) (first_true begins (places && draws) pass);
      place = some_from_test (λ place. place ≤ stamp) (λ place. nat_le place stamp) (λ place. least_from place stamp) (place_told s.answer) (first_true places draws others);
      drawn = some_from_test (λ first. first + LEAST_BLOCK ≤ stamp) (λ first. nat_le (first + LEAST_BLOCK) stamp) (λ first. least_from (first + LEAST_BLOCK) stamp) (stamp_drawn s.asked s.answer)
          (second_true places draws others);
    }

lies_above : (s : Said) (stamp : ℕ) → above_pass s stamp ≡ true → LiesAbove s stamp
lies_above s stamp pass =
    let begins = some_pass (λ begin. nat_le (stamp + LEAST_BLOCK) begin) (begin_told s.answer) in
    let draws = some_pass (λ later. nat_le (stamp + LEAST_BLOCK) later) (stamp_drawn s.asked s.answer) in record {
      begin = some_from_test (λ begin. stamp + LEAST_BLOCK ≤ begin) (λ begin. nat_le (stamp + LEAST_BLOCK) begin) (λ begin. least_from (stamp + LEAST_BLOCK) begin) (begin_told s.answer) (first_true begins draws pass);
      drawn = some_from_test (λ later. stamp + LEAST_BLOCK ≤ later) (λ later. nat_le (stamp + LEAST_BLOCK) later) (λ later. least_from (stamp + LEAST_BLOCK) later) (stamp_drawn s.asked s.answer)
          (second_true begins draws pass);
    }

pub less_to : (m n : ℕ) → m < n → nat_lt m n ≡ true
less_to m n less = grind (arith, nat_tests)

other_to : (m n : ℕ) → m ≢ n → not (m == n) ≡ true
other_to m n other = ap not (ne_eqb m n other)

pub untold_after : (mode : Mode) (transactions : List Transaction) (said : List Said) → untold_pass after_side transactions said ≡ true → (i j stamp : ℕ) (s : Said)
    (drawn : DrawsUntold transactions said i stamp) → j < i → slice_get said j ≡ Some s → is_before mode s.session drawn.line.session ≡ true → s.session ≢ drawn.line.session → LiesBelow s stamp
untold_after mode transactions said pass i j stamp s drawn before at first other =
    let there = second_of (nat_lt j i) (not (not (s.session == drawn.line.session)) || below_pass s stamp) (untold_from after_side transactions said pass i stamp drawn j s at) (less_to j i before) in
    lies_below s stamp (second_of (not (s.session == drawn.line.session)) (below_pass s stamp) there (other_to s.session drawn.line.session other))

pub untold_before : (mode : Mode) (transactions : List Transaction) (said : List Said) → untold_pass before_side transactions said ≡ true → (i j stamp : ℕ) (s : Said)
    (drawn : DrawsUntold transactions said i stamp) → i < j → slice_get said j ≡ Some s → is_before mode drawn.line.session s.session ≡ true → LiesAbove s stamp
untold_before mode transactions said pass i j stamp s drawn behind at first =
    lies_above s stamp (second_of (nat_lt i j) (above_pass s stamp) (untold_from before_side transactions said pass i stamp drawn j s at) (less_to i j behind))

-- and that it is in reach
abbrev pub reach_side : Mode → Opening → List ScriptLine → Side
reach_side mode opening script i line stamp j s = nat_le (stamp + GREATEST_BLOCK) (opening.stamp + LEAST_BLOCK + GREATEST_BLOCK * total_of draws_of (lines_by mode i script))

pub untold_in_reach : (mode : Mode) (opening : Opening) (script : List ScriptLine) (answers : List Answer) (all : List Transaction) → untold_pass (reach_side mode opening script) all (said_of script answers) ≡ true
    → (i stamp : ℕ) (l : ScriptLine) → slice_get script i ≡ Some l → DrawsUntold all (said_of script answers) i stamp → stamp + GREATEST_BLOCK ≤ most_end (moment_at mode opening script answers all i l)
untold_in_reach mode opening script answers all pass i stamp l at drawn =
    least_from (stamp + GREATEST_BLOCK) (most_end (moment_at mode opening script answers all i l)) (untold_from (reach_side mode opening script) all (said_of script answers) pass i stamp drawn i drawn.line drawn.at)
