-- The snapshots of a good report only read: so the map that it prints is the one behind its commits alone.
use Rattle.std.proofs.Common.{◌≡◌, ℕ, ◌+◌, ◌*◌, ◌<◌, ◌≤◌, ⊎_elim, Bool, true, false, nat_lt, cond, List, [], ◌∷◌, ◌++◌, length, filter, Option, Some, None, IfSome, refl, sym, ap, ◌∙◌, subst, arith}
use Rattle.std.specs.FinMap.{from_entries}
use Rattle.std.specs.List.{All, cons_option, filter_map}
use Rattle.std.specs.Option.{option_map}
use Rattle.std.proofs.lemmas.Bool.{cases_Bool, cond-false, cond-true, lt-ltb, ltb-false, ltb-true}
use Rattle.std.proofs.lemmas.List.Sorted.{IsPermutation-sym}
use Rattle.std.proofs.lemmas.List.Sums.{sum_by-cons}
use Rattle.erm_model.specs.declared.limits.TheConstants.{GREATEST_BLOCK, LAST_NUMBER, LEAST_BLOCK, LOG_END, SESSIONS, STOP}
use Rattle.erm_model.specs.Committed.{Committed, rank_of, state_after}
use Rattle.erm_model.specs.Database.{Database, entries_of}
use Rattle.erm_model.specs.Member.{◌∈◌}
use Rattle.erm_model.specs.Run.{Step, after_all, ops_of}
use Rattle.erm_model.specs.SerialOrder.{IsSerialOrder}
use Rattle.erm_model.proofs.Members.{none_in_nil, ∈-behind}
use Rattle.erm_machine.proofs.Listed.{∈-cons, ∈-either, ∈-filter, ∈-filter_from, ∈-first, ∈-head}
use Rattle.erm_core_ssn.proofs.Members.{∈-permutation}
use Rattle.erm_core_ssn.proofs.OneOrder.{Ascends-once}
use Rattle.erm_core_ssn.proofs.Orders.{Ascends, Ascends-from_AllPairs}
use Rattle.erm_invariant.proofs.Reading.{reads_leave}
use Rattle.erm_invariant.specs.Invariant.{IsRead}
use Rattle.erm_maps.proofs.Commits.{run_ends}
use Rattle.erm_report.specs.declared.line.Line.{Line}
use Rattle.erm_script.specs.declared.script.Command.{Command}
use Rattle.erm_script.specs.declared.script.Command.TheVariants as command
use Rattle.erm_script.specs.declared.script.ScriptLine.{ScriptLine}
use Rattle.erm_good_report.specs.GoodReport.{IsGoodReport, places_of}
use Rattle.erm_good_report.specs.InReach.{IsDrawnAt}
use Rattle.erm_good_report.specs.Opening.{AtOnce, Opening}
use Rattle.erm_good_report.specs.Phases.{phase_of}
use Rattle.erm_good_report.specs.Refusals.{draws_of, total_of}
use Rattle.erm_good_report.specs.Transactions.{Aborts, Commits, Ending, Excludes, Said, Snapshot, Transaction, Unfinished, committed_as, ended_as, ended_of, history_of, looks_of, placed_at, progress_of, said_of, stamp_of, transactions_of}
use Rattle.erm_good_report.proofs.InReach.{good_in_reach}
use Rattle.erm_good_report.proofs.Placed.{ended_above}
use Rattle.erm_log_run.proofs.Good.{OrdersExist}
use Rattle.erm_log_run.proofs.Taken.{next_few}
use Rattle.erm_report_invariant.proofs.Looks.{only_read}
use Rattle.erm_told.proofs.Differing.{of_history, stamps_differ}
use Rattle.erm_told_order.proofs.Places.{stands_at}

-- ---- what only reads
abbrev Reads : Step → Type 0
Reads step = IsRead step.op

-- ---- the order of all, and that of the commits alone
ascends_filter : (p : Committed → Bool) (xs : List Committed) → Ascends rank_of xs → Ascends rank_of (filter p xs)
ascends_filter p [] all = tt
ascends_filter p (x ∷ xs) all =
    let rest = ascends_filter p xs all.1 in
    ⊎_elim
    (λ (kept : p x ≡ true).
    subst (Ascends rank_of) (sym (cond-true (p x) (x ∷ filter p xs) (filter p xs) kept)) ((λ y m. all.0 y (∈-filter p y xs m).0), rest))
    (λ (left : p x ≡ false). subst (Ascends rank_of) (sym (cond-false (p x) (x ∷ filter p xs) (filter p xs) left)) rest)
    (cases_Bool (p x))

-- where the stamps of commits lie within the log, and those of the others above it
module _ (commits others own order : List Committed) (low : (c : Committed) → c ∈ commits → c.stamp < LOG_END) (high : (c : Committed) → c ∈ others → LOG_END ≤ c.stamp)
    (serial : IsSerialOrder rank_of commits own) (all : IsSerialOrder rank_of (commits ++ others) order) where
  abbrev is_commit : Committed → Bool
  is_commit c = nat_lt c.stamp LOG_END

  of_order : (c : Committed) → c ∈ order → c ∈ (commits ++ others)
  of_order c m = ∈-permutation c order (commits ++ others) (IsPermutation-sym (commits ++ others) order all.same) m

  commit_by : (c : Committed) → c ∈ order → is_commit c ≡ true → c ∈ commits
  commit_by c m is =
      ⊎_elim (λ (here : c ∈ commits). here)
      (λ (there : c ∈ others). let up = high c there in let less = ltb-true c.stamp LOG_END is in absurd (omega (arith, up, less)))
      (∈-either commits others c (of_order c m))

  other_by : (c : Committed) → c ∈ order → is_commit c ≡ false → c ∈ others
  other_by c m is =
      ⊎_elim
      (λ (here : c ∈ commits). let less = low c here in let up = ltb-false c.stamp LOG_END is in absurd (omega (arith, up, less)))
      (λ (there : c ∈ others). there)
      (∈-either commits others c (of_order c m))

  own_order : filter is_commit order ≡ own
  own_order =
      Ascends-once rank_of (filter is_commit order) own (ascends_filter is_commit order (Ascends-from_AllPairs rank_of order all.ascends)) (Ascends-from_AllPairs rank_of own serial.ascends)
      (λ c m. let there = ∈-filter is_commit c order m in ∈-permutation c commits own serial.same (commit_by c there.0 there.1))
      (λ c m.
      let here = ∈-permutation c own commits (IsPermutation-sym commits own serial.same) m in
      ∈-filter_from is_commit c order (∈-permutation c (commits ++ others) order all.same (∈-first commits others c here)) (lt-ltb c.stamp LOG_END (low c here)))

  module _ (reads : (c : Committed) → c ∈ others → All Reads c.steps) where
    without : (cs : List Committed) (m : Database) → ((c : Committed) → c ∈ cs → c ∈ order) → state_after cs m ≡ state_after (filter is_commit cs) m
    without [] m in_order = refl
    without (c ∷ cs) m in_order =
        let there = in_order c (∈-head c cs) in
        let rest = without cs (after_all (ops_of c.steps) m) (λ d k. in_order d (∈-behind c cs d k)) in
        ⊎_elim
        (λ (is : is_commit c ≡ true). rest ∙ ap (λ (ds : List Committed). state_after ds m) (sym (cond-true (is_commit c) (c ∷ filter is_commit cs) (filter is_commit cs) is)))
        (λ (is : is_commit c ≡ false).
        rest ∙ ap (λ (n : Database). state_after (filter is_commit cs) n) (reads_leave c.steps m (reads c (other_by c there is)))
        ∙ ap (λ (ds : List Committed). state_after ds m) (sym (cond-false (is_commit c) (c ∷ filter is_commit cs) (filter is_commit cs) is)))
        (cases_Bool (is_commit c))

    -- the map behind all is the one behind the commits
    state_alone : (m : Database) → state_after order m ≡ state_after own m
    state_alone m = without order m (λ c k. k) ∙ ap (λ (cs : List Committed). state_after cs m) own_order

-- ---- each line draws one block at most
one_draw : (c : Command) → draws_of c ≤ 1
one_draw command.Seal = omega arith
one_draw command.Commit = omega arith
one_draw c = omega arith

few_draws : (script : List ScriptLine) → total_of draws_of script ≤ length script
few_draws [] = omega arith
few_draws (l ∷ ls) = let cons = sum_by-cons (λ (k : ScriptLine). draws_of k.command) l ls in omega (arith, cons, one_draw l.command, few_draws ls)

-- a commit has the stamp of its transaction
stamp_as : (t : Transaction) (e : Ending) (c : Committed) → t.ending ≡ e → committed_as e t ≡ Some c → stamp_of t ≡ Some c.stamp
stamp_as t Unfinished c at is = absurd (let no : None ≡ Some c = is in cc)
stamp_as t (Commits stamp succ pred) c at is = ap (λ (e : Ending). stamp_of (record t { ending = e })) at ∙ ap (λ (o : Option Committed). stamp_in o) is
  where
    stamp_in : Option Committed → Option ℕ
    stamp_in None = None
    stamp_in (Some d) = Some d.stamp
stamp_as t (Excludes stamp succ pred) c at is = absurd (let no : None ≡ Some c = is in cc)
stamp_as t Aborts c at is = absurd (let no : None ≡ Some c = is in cc)

-- ---- what ended only read
ended_read : (seat : ℕ) (ss : List Snapshot) → ((s : Snapshot) → s ∈ ss → All Reads (looks_of s)) → (c : Committed) → c ∈ filter_map (ended_as seat) ss → All Reads c.steps
ended_read seat [] reads c m = absurd (none_in_nil c m)
ended_read seat (s ∷ ss) reads c m =
    by s.placed s.begin (λ there. ended_read seat ss (λ r k. reads r (∈-behind s ss r k)) c there) m
  where
    placed : Bool → Option ℕ → Option Committed
    placed b begin = cond b (option_map (placed_at seat s) begin) None

    by : (b : Bool) (begin : Option ℕ) → (c ∈ filter_map (ended_as seat) ss → All Reads c.steps) → c ∈ cons_option (placed b begin) (filter_map (ended_as seat) ss) → All Reads c.steps
    by true None rest m = rest m
    by true (Some begin) rest m =
        ⊎_elim (λ (here : placed_at seat s begin ≡ c). subst (λ (x : Committed). All Reads x.steps) here (reads s (∈-head s ss)))
        rest (∈-cons c (placed_at seat s begin) (filter_map (ended_as seat) ss) m)
    by false begin rest m = rest m

module _ (opening : Opening) (names : List (List ℕ)) (script : List ScriptLine) (lines : List Line) (good : IsGoodReport AtOnce opening names script lines)
    (sessions : length names ≤ SESSIONS) (short : length script ≤ LAST_NUMBER) (low : opening.stamp < STOP) where
  abbrev said : List Said
  said = places_of script good.report.answers good.report.closed

  abbrev told : List Transaction
  told = transactions_of (length names) said

  in_log : (c : Committed) → c ∈ history_of told → c.stamp < LOG_END
  in_log c m =
      let from = of_history told c m in
      let drawn : IsDrawnAt AtOnce opening script good.report.answers told c.stamp =
      subst (λ (o : Option ℕ). IfSome o (IsDrawnAt AtOnce opening script good.report.answers told)) (stamp_as from.0 from.0.ending c refl from.2)
      (good_in_reach AtOnce opening names script lines good from.0 from.1)
      in
      let within : c.stamp + GREATEST_BLOCK ≤ opening.stamp + LEAST_BLOCK + GREATEST_BLOCK * total_of draws_of script = drawn.within in
      omega (arith, within, few_draws script, short, low)

  above_log : (c : Committed) → c ∈ ended_of (length names) said → LOG_END ≤ c.stamp
  above_log = ended_above (length names) said (omega (arith, sessions))
      (λ session. let next = next_few (λ seat. phase_of seat (said_of script good.report.answers)) script good.report.answers good.report.closed good.closes.fits session in omega (arith, next, short))

  only_reads : (c : Committed) → c ∈ ended_of (length names) said → All Reads c.steps
  only_reads c m =
      let there = stands_at (λ seat. filter_map (ended_as seat) (progress_of seat said).snapshots) 1 (length names) c m in
      ended_read there.at (progress_of there.at said).snapshots (only_read there.at script good.report.answers good.report.closed good.owes.phases good.closes.fits) c there.stands

  -- the commits have a serial order, and behind it is the map printed
  pub own_order_of : OrdersExist → (own : List Committed) × IsSerialOrder rank_of (history_of told) own × (from_entries (entries_of good.report.pairs) ≡ state_after own opening.map)
  own_order_of orders =
      let own = orders (history_of told) (stamps_differ told good.owes.stamps.differ) in (
        own.0,
        own.1,
        run_ends good.report.order opening.map (from_entries (entries_of good.report.pairs)) good.order.run.run
            ∙ state_alone (history_of told) (ended_of (length names) said) own.0 good.report.order in_log above_log own.1 good.order.serial only_reads opening.map,
      )
