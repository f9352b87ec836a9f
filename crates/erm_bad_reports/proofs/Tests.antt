-- Stamps that agree by a test, and what is so of transactions without lines.
use Rattle.std.proofs.Common.{◌≡◌, ◌≢◌, ℕ, ◌<◌, ◌≤◌, Bool, true, false, cond, not, ◌==◌, ◌&&◌, nat_lt, nat_le, List, [], ◌∷◌, ◌++◌, length, Some, None, inl, inr, refl, sym, subst, take, ◌∙◌, ◌+◌, arith}
use Rattle.std.specs.Prelude.{IfSome}
use Rattle.std.specs.List.{AllByRecursion, AllPairs}
use Rattle.std.proofs.lemmas.Bool.Decides.{nat_tests}
use Rattle.std.proofs.lemmas.List.Sorted.{IsPermutation-refl}
use Rattle.erm_model.specs.Committed.{Committed, HasSnapshotReplies, below, rank_of}
use Rattle.erm_model.specs.Database.{AscendByKey, Database, key_cmp}
use Rattle.erm_model.specs.Member.{◌∈◌}
use Rattle.erm_model.specs.Run.{RunsOne, Step}
use Rattle.erm_model.specs.SerialOrder.{ComesBefore, IsSerialOrder}
use Rattle.erm_model.proofs.Stays.{staying_among}
use Rattle.std.specs.declared.cmp.Ordering.TheVariants.{Less}
use Rattle.erm_report.specs.declared.answer.Answer.{Answer}
use Rattle.erm_report.specs.declared.answer.Answer.TheVariants as answer
use Rattle.erm_script.specs.Script.{IsValue}
use Rattle.erm_script.specs.declared.script.Command.{Command}
use Rattle.erm_script.specs.declared.script.Command.TheVariants as command
use Rattle.erm_model.specs.declared.limits.TheConstants.{LEAST_BLOCK, RING_WORDS, STOP}
use Rattle.std.proofs.lemmas.List.Elements.{All-cons, All-nil}
use Rattle.erm_good_report.specs.GoodReport.{places_of}
use Rattle.erm_good_report.specs.Phases.{FitsPhase, phase_of}
use Rattle.erm_good_report.specs.Refusals.{HasCause, HasLogCause, HasRefusalCause, HasSaveCause, HasUnfilledCause, MayHaveStamp, Moment, flushed_at, moment_at, most_words}
use Rattle.erm_good_report.specs.Opening.{InTurn, Opening, is_before}
use Rattle.erm_good_report.specs.Stamps.{Told, StampsAgree, begin_told, place_told, stamp_drawn, stamp_printed}
use Rattle.erm_good_report.specs.Transactions.{Exchange, Ending, Unfinished, Commits, Excludes, Aborts, Progress, Said, Transaction, heard, held_of, history_of, nothing, op_done, progress_of, said_of, stamp_of, stamp_of_ending}
use Rattle.erm_good_report.specs.Windows.{HasKept, HasLine, IsHighEnd, IsLowEnd, OverwritesKey, PutsKey}
use Rattle.erm_bad_reports.specs.Clauses.{Case, Meets, Phases, Refusals, Safe, placed_of, told_of, IsLowAt, IsHighAt}
pub use Rattle.erm_good_report.proofs.Snapshots.{no_looks, none_agree, serial_alone, tell_none}
pub use Rattle.erm_good_report.proofs.StampTests.{after_side, before_side, begins_ascend, begins_stop, first_true, places_pass, reach_from_test, reach_pass, reach_side, second_true, some_pass, stamps_ascend, stamps_begin, untold_after, untold_before, untold_in_reach, untold_pass}
use Rattle.erm_good_report.proofs.Parts.{EachPlace, each_in, each_place, all_pairs_from_test, all_pairs_of_none, all_pass, told_pass, told_from_test, pairs_pass}

pub less_from : (m n : ℕ) → nat_lt m n ≡ true → m < n
less_from m n pass = grind (arith, nat_tests)

pub most_from : (m n : ℕ) → nat_le m n ≡ true → m ≤ n
most_from m n pass = grind (arith, nat_tests)

other_from : (m n : ℕ) → not (m == n) ≡ true → m ≢ n
other_from m n pass same = grind (arith, nat_tests)

-- stamps that differ, and places of a report in turn, by tests
pub stamps_differ : (told : List Transaction) → pairs_pass (λ t u. told_pass (λ m n. not (m == n)) (stamp_of t) (stamp_of u)) told ≡ true → AllPairs (λ t u. Told (λ a b. a ≢ b) (stamp_of t) (stamp_of u)) told
stamps_differ told pass = all_pairs_from_test (λ t u. Told (λ a b. a ≢ b) (stamp_of t) (stamp_of u)) (λ t u. told_pass (λ m n. not (m == n)) (stamp_of t) (stamp_of u))
    (λ t u pass. told_from_test (λ a b. a ≢ b) (λ m n. not (m == n)) other_from (stamp_of t) (stamp_of u) pass) told pass

pub stamps_drawn : (said : List Said) → pairs_pass (λ a b. told_pass nat_le (begin_told a.answer) (stamp_drawn b.asked b.answer)) said ≡ true
    → AllPairs (λ a b. is_before InTurn a.session b.session ≡ true → Told (λ begin stamp. begin ≤ stamp) (begin_told a.answer) (stamp_drawn b.asked b.answer)) said
stamps_drawn said pass = all_pairs_from_test (λ a b. is_before InTurn a.session b.session ≡ true → Told (λ begin stamp. begin ≤ stamp) (begin_told a.answer) (stamp_drawn b.asked b.answer))
    (λ a b. told_pass nat_le (begin_told a.answer) (stamp_drawn b.asked b.answer))
    (λ a b pass before. told_from_test (λ m n. m ≤ n) nat_le most_from (begin_told a.answer) (stamp_drawn b.asked b.answer) pass) said pass

pub flushed_begin : (said : List Said) → pairs_pass (λ a b. told_pass nat_le (place_told a.answer) (begin_told b.answer)) said ≡ true
    → AllPairs (λ a b. is_before InTurn a.session b.session ≡ true → Told (λ place begin. place ≤ begin) (place_told a.answer) (begin_told b.answer)) said
flushed_begin said pass = all_pairs_from_test (λ a b. is_before InTurn a.session b.session ≡ true → Told (λ place begin. place ≤ begin) (place_told a.answer) (begin_told b.answer))
    (λ a b. told_pass nat_le (place_told a.answer) (begin_told b.answer))
    (λ a b pass before. told_from_test (λ m n. m ≤ n) nat_le most_from (place_told a.answer) (begin_told b.answer) pass) said pass

pub flushed_drawn : (said : List Said) → pairs_pass (λ a b. told_pass nat_le (place_told a.answer) (stamp_drawn b.asked b.answer)) said ≡ true
    → AllPairs (λ a b. is_before InTurn a.session b.session ≡ true → Told (λ place stamp. place ≤ stamp) (place_told a.answer) (stamp_drawn b.asked b.answer)) said
flushed_drawn said pass = all_pairs_from_test (λ a b. is_before InTurn a.session b.session ≡ true → Told (λ place stamp. place ≤ stamp) (place_told a.answer) (stamp_drawn b.asked b.answer))
    (λ a b. told_pass nat_le (place_told a.answer) (stamp_drawn b.asked b.answer))
    (λ a b pass before. told_from_test (λ m n. m ≤ n) nat_le most_from (place_told a.answer) (stamp_drawn b.asked b.answer) pass) said pass

-- begins lie above the stamps printed before, ascend, and stop in time; and commits that wait draw their stamps between their places
abbrev pub begins_alone_pass : List Said → Bool
begins_alone_pass said =
    pairs_pass (λ a b. told_pass nat_lt (stamp_printed a.answer) (begin_told b.answer)) said
    && (pairs_pass (λ a b. told_pass nat_le (begin_told a.answer) (begin_told b.answer)) said && all_pass (λ s. some_pass (λ begin. nat_lt begin STOP) (begin_told s.answer)) said)

abbrev pub begins_pass : List Transaction → List Said → Bool
begins_pass told said = begins_alone_pass said && (untold_pass after_side told said && untold_pass before_side told said)

-- stamps agree, where each transaction's own do
pub stamps_agree : (opening : Opening) (told : List Transaction) (said : List Said)
    → pairs_pass (λ t u. told_pass (λ m n. not (m == n)) (stamp_of t) (stamp_of u)) told ≡ true
    → begins_pass told said ≡ true
    → pairs_pass (λ a b. told_pass nat_le (begin_told a.answer) (stamp_drawn b.asked b.answer)) said ≡ true
    → pairs_pass (λ a b. told_pass (λ m n. nat_le (m + LEAST_BLOCK) n) (stamp_drawn a.asked a.answer) (stamp_drawn b.asked b.answer)) said ≡ true
    → pairs_pass (λ a b. told_pass nat_le (place_told a.answer) (begin_told b.answer)) said ≡ true
    → pairs_pass (λ a b. told_pass nat_le (place_told a.answer) (stamp_drawn b.asked b.answer)) said ≡ true
    → ((t : Transaction) → t ∈ told → opening.stamp + 5 ≤ t.begin)
    → ((t : Transaction) → t ∈ told → IfSome (stamp_of t) (λ stamp. t.begin ≤ stamp))
    → ((t : Transaction) → t ∈ told → Told (λ a b. a ≡ b) t.sealed (stamp_of_ending t.ending))
    → StampsAgree InTurn opening told said
stamps_agree opening told said differ begins draws ascends flushes flushes_first least begun sealed =
    let printed = pairs_pass (λ a b. told_pass nat_lt (stamp_printed a.answer) (begin_told b.answer)) said in
    let ascending = pairs_pass (λ a b. told_pass nat_le (begin_told a.answer) (begin_told b.answer)) said in
    let stopped = all_pass (λ s. some_pass (λ begin. nat_lt begin STOP) (begin_told s.answer)) said in
    let after = untold_pass after_side told said in
    let before = untold_pass before_side told said in
    let alone = first_true (begins_alone_pass said) (after && before) begins in
    let others = second_true printed (ascending && stopped) alone in
    let untold = second_true (begins_alone_pass said) (after && before) begins in record {
      differ = stamps_differ told differ;
      least = least;
      begun = begun;
      sealed = sealed;
      begins = stamps_begin said (first_true printed (ascending && stopped) alone);
      draws = stamps_drawn said draws;
      ascends = stamps_ascend said ascends;
      flushes = flushed_begin said flushes;
      flushes_first = flushed_drawn said flushes_first;
      begins_ascend = begins_ascend said (first_true ascending stopped others);
      stops = λ in_turn. begins_stop said (second_true ascending stopped others);
      untold_after = untold_after InTurn told said (first_true after before untold);
      untold_before = untold_before InTurn told said (second_true after before untold);
    }

-- a line that stays is a line
pub line_of_kept : (P : Exchange → Type 0) (t : Transaction) → HasKept P t → HasLine P t
line_of_kept P t has = (has.0, staying_among op_done t.lines has.0 has.1, has.2)

-- where no commit's put stays, no key has a record, and no commit overwrites one
pub none_overwrites : (told : List Transaction) → ((u : Transaction) → u ∈ told → (table key : ℕ) → HasKept (PutsKey table key) u → ⊥) → (u : Transaction) → u ∈ told → (table key : ℕ)
    → OverwritesKey told table key u → ⊥
none_overwrites told none u within table key (inl puts) = none u within table key puts
none_overwrites told none u within table key (inr (line, was)) = none was.by was.commit.of table key was.puts

-- ---- a transaction without lines has any window
no_line : (t : Transaction) (P : Exchange → Type 0) → t.lines ≡ [] → HasLine P t → ⊥
no_line t P none has = nothing_in has.0 (subst (λ (es : List Exchange). has.0 ∈ es) none has.1)
  where
    nothing_in : (e : Exchange) → e ∈ [] → ⊥
    nothing_in e (k, at) = cc

no_split : (before after : List Exchange) (line : Exchange) → [] ≡ before ++ line ∷ after → ⊥
no_split [] after line same = cc
no_split (b ∷ before) after line same = cc

low_without_lines : (told : List Transaction) (t : Transaction) (pred : ℕ) → t.lines ≡ [] → IsLowEnd told t pred
low_without_lines told t pred none = λ table key stamp succ u touches commit less overwrites. absurd (no_line t _ none touches)

high_without_lines : (told : List Transaction) (t : Transaction) (own succ : ℕ) → t.lines ≡ [] → IsHighEnd told t own succ
high_without_lines told t own succ none = λ table key stamp next v gets put next_writer less. absurd (let first = gets in no_split first.before first.after first.line (sym none ∙ first.split))

low_at : (told : List Transaction) (t : Transaction) (ending : Ending) → t.lines ≡ [] → IsLowAt ending told t
low_at told t Unfinished none = tt
low_at told t (Commits stamp succ pred) none = low_without_lines told t pred none
low_at told t (Excludes None succ pred) none = tt
low_at told t (Excludes (Some stamp) succ pred) none = low_without_lines told t pred none
low_at told t Aborts none = tt

high_at : (told : List Transaction) (t : Transaction) (ending : Ending) → t.lines ≡ [] → IsHighAt ending told t
high_at told t Unfinished none = tt
high_at told t (Commits stamp succ pred) none = high_without_lines told t stamp succ none
high_at told t (Excludes None succ pred) none = tt
high_at told t (Excludes (Some stamp) succ pred) none = high_without_lines told t stamp succ none
high_at told t Aborts none = tt

pub low_ends : (told : List Transaction) → AllByRecursion (λ t. t.lines ≡ []) told → (t : Transaction) → t ∈ told → IsLowAt t.ending told t
low_ends told none t at = low_at told t t.ending (each_in (λ t. t.lines ≡ []) told none t at)

pub high_ends : (told : List Transaction) → AllByRecursion (λ t. t.lines ≡ []) told → (t : Transaction) → t ∈ told → IsHighAt t.ending told t
high_ends told none t at = high_at told t t.ending (each_in (λ t. t.lines ≡ []) told none t at)

-- of no transaction, and of one, all is so
pub in_none : (P : Transaction → Type 0) (t : Transaction) → t ∈ [] → P t
in_none P = each_in P [] tt

pub in_one : (P : Transaction → Type 0) (u : Transaction) → P u → (t : Transaction) → t ∈ u ∷ [] → P t
in_one P u is = each_in P (u ∷ []) (is, tt)

-- no commit, no order
pub no_commit_ordered : IsSerialOrder rank_of [] []
no_commit_ordered = record { same = IsPermutation-refl []; ascends = all_pairs_of_none (λ a b. ComesBefore (rank_of a) (rank_of b)) }

pub one_commit_ordered : (c : Committed) → IsSerialOrder rank_of (c ∷ []) (c ∷ [])
one_commit_ordered c = record { same = IsPermutation-refl (c ∷ []); ascends = λ i j d less within. absurd (omega arith) }

pub no_pair_ascends : AscendByKey []
no_pair_ascends = all_pairs_of_none (λ a b. key_cmp a.key b.key ≡ Less)

-- an answer without a cause of its own
pub no_cause_needed : (m : Moment) (c : Command) (a : Answer) → ((t : Transaction) → HasRefusalCause m c t a) → ((held : ℕ) → HasSaveCause held c a) → HasLogCause m a → HasUnfilledCause m c a → HasCause m c a
no_cause_needed m c a own saves log unfilled = record { own = λ t is. own t; saves = λ t is. saves (held_of t); log = log; unfilled = unfilled }

-- ---- snapshots
-- where no commit lies below the begin
pub first_snapshot : (commits : List Committed) (opening : Database) (begin : ℕ) (steps : List Step) → below begin commits ≡ [] → RunsOne opening steps → HasSnapshotReplies commits opening begin steps
first_snapshot commits opening begin steps none runs = record {
  snapshot = opening;
  below_begin = record { order = []; serial = record { same = rw none (IsPermutation-refl []); ascends = all_pairs_of_none (λ a b. ComesBefore (rank_of a) (rank_of b)) }; state = refl };
  replies = runs;
}

-- ---- a first line
-- behind the begin of the first session no transaction of any is over
pub begin_over : (session : ℕ) → (progress_of session (record { session = 1; asked = Some command.Begin; answer = answer.Began 13 } ∷ [])).over ≡ []
begin_over session = either_over (1 == session) (heard session (Some command.Begin) (answer.Began 13) nothing) nothing refl refl
  where
    either_over : (b : Bool) (p q : Progress) → p.over ≡ [] → q.over ≡ [] → (cond b p q).over ≡ []
    either_over true p q first second = first
    either_over false p q first second = second

-- nor behind those of two
abbrev pub said_begun : ℕ → Said
said_begun session = record { session = session; asked = Some command.Begin; answer = answer.Began 13 }

pub begins_over : (session : ℕ) → (progress_of session (said_begun 1 ∷ said_begun 2 ∷ [])).over ≡ []
begins_over session = then (2 == session) (cond (1 == session) (heard session (Some command.Begin) (answer.Began 13) nothing) nothing) (begin_over session)
  where
    then : (b : Bool) (p : Progress) → p.over ≡ [] → (cond b (heard session (Some command.Begin) (answer.Began 13) p) p).over ≡ []
    then true p none = none
    then false p none = none

-- ---- phases and causes, place by place
pub phases_kept : (k : Case) → EachPlace (λ i l a. FitsPhase (phase_of l.session (take i (said_of k.script k.report.answers))) l.command a) 0 k.script k.report.answers
    → tell_none (said_of k.script k.report.answers) ≡ true → Meets Phases k
phases_kept k each calm = record {
  fits = each_place (λ i l a. FitsPhase (phase_of l.session (take i (said_of k.script k.report.answers))) l.command a) k.script k.report.answers each;
  snapshots = no_looks k.script k.report.answers calm;
}

-- ---- no line asks for a snapshot that only reads
pub safe_kept : (k : Case) → tell_none (said_of k.script k.report.answers) ≡ true → Meets Safe k
safe_kept k calm = none_agree (moment_at k.mode k.opening k.script k.report.answers (told_of k)) k.opening k.script k.report.answers (told_of k) calm

pub placed_alone : (k : Case) (order : List Committed) → tell_none (places_of k.script k.report.answers k.report.closed) ≡ true → IsSerialOrder rank_of (history_of (told_of k)) order
    → IsSerialOrder rank_of (placed_of k) order
placed_alone k order calm serial =
    subst (λ (cs : List Committed). IsSerialOrder rank_of cs order) (sym (serial_alone (length k.names) (places_of k.script k.report.answers k.report.closed) calm)) serial

-- no stamp is out of reach: none that its line tells, nor that of a commit that waits
abbrev pub reaches_at : Case → Bool
reaches_at k = places_pass (λ i l a. reach_pass (moment_at k.mode k.opening k.script k.report.answers (told_of k) i l) l.command a) 0 k.script k.report.answers

abbrev pub reaches_later : Case → Bool
reaches_later k = untold_pass (reach_side k.mode k.opening k.script) (told_of k) (said_of k.script k.report.answers)

abbrev pub reaches : Case → Bool
reaches k = reaches_at k && reaches_later k

pub refusals_kept : (k : Case) → reaches k ≡ true → EachPlace (λ i l a. HasCause (moment_at k.mode k.opening k.script k.report.answers (told_of k) i l) l.command a) 0 k.script k.report.answers → Meets Refusals k
refusals_kept k pass each = record {
  each = each_place (λ i l a. HasCause (moment_at k.mode k.opening k.script k.report.answers (told_of k) i l) l.command a) k.script k.report.answers each;
  reach = reach_from_test (moment_at k.mode k.opening k.script k.report.answers (told_of k)) k.script k.report.answers (first_true (reaches_at k) (reaches_later k) pass);
  untold = untold_in_reach k.mode k.opening k.script k.report.answers (told_of k) (second_true (reaches_at k) (reaches_later k) pass);
}

-- a wait for the ring of a transaction whose stamp may be 40000
pub ring_wait : (m : Moment) → m.mode ≡ InTurn → 13 ≡ flushed_at m → ((t : Transaction) → MayHaveStamp m t 40000) → HasCause m command.Commit (answer.WaitRing 13)
ring_wait m in_turn flushed stamp = record {
  own = λ t is. (in_turn, record { flushed_is = flushed; own = 40000; own_is = stamp t; full = enough (most_words t) });
  saves = λ t is. tt;
  log = tt;
  unfilled = tt;
}
  where
    enough : (words : ℕ) → 13 + RING_WORDS < 40000 + words
    enough words = omega arith

-- a value of one byte
pub byte : (b : ℕ) → b < 256 → IsValue (b ∷ [])
byte b small = (omega arith, All-cons (λ n. n < 256) b [] small (All-nil (λ n. n < 256)))
