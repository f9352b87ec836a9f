-- The table of each object of an execution: that of the line that made it, or that whose tree reaches it at the opening.
use Rattle.std.proofs.Common.{◌≡◌, ℕ, zero, suc, ◌<◌, ◌≤◌, ◌⊎◌, ◌==◌, nat_lt, cond, List, [], ◌∷◌, Option, Some, fold, inl, inr, refl, sym, ap, ◌∙◌, subst, arith}
use Rattle.std.specs.Option.{option_map_or}
use Rattle.std.proofs.lemmas.Bool.{cases_eq, le-ltb, lt-ltb}
use Rattle.erm_model.specs.declared.limits.TheConstants.{TABLES}
use Rattle.erm_model.specs.declared.history.TransactionRecord.{TransactionRecord}
use Rattle.erm_model.specs.Member.{◌∈◌}
use Rattle.erm_model.specs.Rows.{Rows}
use Rattle.erm_model.specs.Run.{Step}
use Rattle.erm_node.specs.Sound.{IsSound, reached, sound_law}
use Rattle.erm_tree.specs.Tables.{ObjectsHaveOneTable, reached_by}
use Rattle.erm_tree.proofs.Standing.{reached-table}
use Rattle.erm_world.specs.Going.{Extends}
use Rattle.erm_world.specs.Laws.{IsSerializable}
use Rattle.erm_world.specs.World.{Session, View, Work, history_of, made_by_all}
use Rattle.erm_world.specs.World as world
use Rattle.erm_maps.specs.Runs.{IsAnswered}
use Rattle.erm_good_report.specs.Transactions.{Progress, Said, heard, nothing}
use Rattle.erm_lines.proofs.Keeping.{NoneRuns}
use Rattle.erm_lines.specs.Executions.{IsExecution, IsOpened, Move, close, flush, line, log, said_in}
use Rattle.erm_causes.specs.Touched.{AreOfTables}
use Rattle.erm_causes.proofs.Fine.{IsFine}
use Rattle.erm_causes.proofs.Moves.{AllFine, AllTold, IsMoveInRange, heard_move, move_fine, move_history, move_made, move_opening, move_told, table_in}
use Rattle.erm_causes.proofs.Own.{TreeLaws}
use Rattle.erm_told_limits.proofs.Given.{HistoryLaws}

-- the last table below a number whose tree reaches the object
abbrev pub table_from : Rows → ℕ → ℕ → ℕ
table_from rows zero x = 0
table_from rows (suc k) x = cond (nat_lt 0 (reached_by rows k x)) k (table_from rows k x)

module _ (one : ObjectsHaveOneTable) (rows : Rows) (sound : IsSound rows) where
  found_from : (n k x : ℕ) → k < n → n ≤ TABLES → 0 < reached_by rows k x → table_from rows n x ≡ k
  found_from zero k x below within some = absurd (omega (arith, below))
  found_from (suc n) k x below within some = elim (cases_eq k n) as (λ _. cond (nat_lt 0 (reached_by rows n x)) n (table_from rows n x) ≡ k) [
    | inl is ↦ rw (lt-ltb 0 (reached_by rows n x) (omega (arith, some, ap (λ (j : ℕ). reached_by rows j x) is))) (sym is)
    | inr another ↦
        let none : reached_by rows n x ≡ 0 = one rows k n x sound (omega (arith, below, within)) (omega (arith, within)) (λ is. another (sym is)) some in
        rw (le-ltb 0 (reached_by rows n x) (omega (arith, none))) (found_from n k x (omega (arith, below, another)) (omega (arith, within)) some)
  ]

  pub opened_of : AreOfTables (table_from rows TABLES) rows
  opened_of k x below some = found_from TABLES k x below (omega arith) some

-- where a table was not reached first, it keeps what it had
abbrev pub made_now : View → View → ℕ → ℕ → ℕ → ℕ
made_now v t there before x = cond (nat_lt (made_by_all v x) (made_by_all t x)) there before

-- a table of objects is right for an execution: each that a line made is of the line's table
abbrev pub AreRight : (ℕ → ℕ) → (moves : List Move) (v t : View) → IsExecution v moves t → Type 0
AreRight table [] v t run = Unit {0}
AreRight table (m ∷ moves) v t (u, did, holds, rest) =
    ((k : ℕ) → table_in m ≡ Some k → (x : ℕ) → made_by_all v x < made_by_all u x → table x ≡ k) × AreRight table moves u t rest

-- there is such a table, which has objects not made as they were
pub record Tabled (base : ℕ → ℕ) (moves : List Move) (v t : View) (run : IsExecution v moves t) : Type 0 where
  pub table : ℕ → ℕ
  pub kept : (x : ℕ) → 0 < made_by_all v x → table x ≡ base x
  pub unmade : (x : ℕ) → made_by_all t x ≡ 0 → table x ≡ base x
  pub right : AreRight table moves v t run
  pub grows : (x : ℕ) → made_by_all v x ≤ made_by_all t x

-- the table of what a move made, where it counts so before it and behind it
abbrev pub table_then : (ℕ → ℕ) → (ℕ → ℕ) → Move → (ℕ → ℕ) → ℕ → ℕ
table_then base before m after x = cond (nat_lt (before x) (after x)) (option_map_or (λ k. k) (table_in m) (base x)) (base x)

pub then_made : (base before : ℕ → ℕ) (m : Move) (after : ℕ → ℕ) (k x : ℕ) → table_in m ≡ Some k → before x < after x → table_then base before m after x ≡ k
then_made base before m after k x names less =
    rw (lt-ltb (before x) (after x) less) (ap (λ (r : Option ℕ). option_map_or (λ j. j) r (base x)) names)

pub then_unmade : (base before : ℕ → ℕ) (m : Move) (after : ℕ → ℕ) (x : ℕ) → after x ≤ before x → table_then base before m after x ≡ base x
then_unmade base before m after x none = rw (le-ltb (before x) (after x) none) refl

pub tabled : (moves : List Move) (v t : View) (base : ℕ → ℕ) (run : IsExecution v moves t) → Tabled base moves v t run
tabled [] v t base run = record {
  table = base;
  kept = λ x some. refl;
  unmade = λ x none. refl;
  right = tt;
  grows = λ x. omega (arith, ap (λ (y : View). made_by_all y x) run);
}
tabled (m ∷ moves) v t base (u, did, holds, rest) =
    let later = tabled moves u t (table_then base (made_by_all v) m (made_by_all u)) rest in
    let grew = move_made v m u did in
    record {
      table = later.table;
      kept = λ x some. later.kept x (omega (arith, grew x, some)) ∙ then_unmade base (made_by_all v) m (made_by_all u) x (omega (arith, holds.made_once x, some));
      unmade = λ x none. later.unmade x none ∙ then_unmade base (made_by_all v) m (made_by_all u) x (omega (arith, later.grows x, none));
      right = (
        λ k names x less. later.kept x (omega (arith, less)) ∙ then_made base (made_by_all v) m (made_by_all u) k x names less,
        later.right,
      );
      grows = λ x. omega (arith, grew x, later.grows x);
    }

pub run_opening : (moves : List Move) (v t : View) → IsExecution v moves t → t.opening ≡ v.opening
run_opening [] v t run = ap (λ (x : View). x.opening) run
run_opening (m ∷ moves) v t (u, did, holds, rest) = run_opening moves u t rest ∙ move_opening v m u did

pub run_holds : (moves : List Move) (v t : View) → IsSerializable sound_law v → IsExecution v moves t → IsSerializable sound_law t
run_holds [] v t holds run = subst (IsSerializable sound_law) (sym run) holds
run_holds (m ∷ moves) v t holds (u, did, then_holds, rest) = run_holds moves u t then_holds rest

pub run_history : (moves : List Move) (v t : View) → IsExecution v moves t → (r : TransactionRecord) → r ∈ history_of v → r ∈ history_of t
run_history [] v t run r within = subst (λ (x : View). r ∈ history_of x) (sym run) within
run_history (m ∷ moves) v t (u, did, holds, rest) r within = run_history moves u t rest r (move_history v m u did r within)

zero_or_more : (n : ℕ) → (n ≡ 0) ⊎ (0 < n)
zero_or_more zero = inl refl
zero_or_more (suc n) = inr (omega arith)

-- what the opening's rows reach is never made
pub reached_unmade : (t : View) → IsSerializable sound_law t → (x : ℕ) → 0 < reached t.opening.rows x → made_by_all t x ≡ 0
reached_unmade t holds x there = elim (zero_or_more (made_by_all t x)) as (λ _. made_by_all t x ≡ 0) [
  | inl none ↦ none
  | inr some ↦ absurd (omega (arith, there, holds.opening_reach x (holds.made_new x some)))
]

-- The table of an execution from a world that was just opened.
pub record TableOf (moves : List Move) (v t : View) (run : IsExecution v moves t) : Type 0 where
  pub table : ℕ → ℕ
  pub opened : AreOfTables table v.opening.rows
  pub right : AreRight table moves v t run

pub table_of_run : ObjectsHaveOneTable → (moves : List Move) (v t : View) (run : IsExecution v moves t) → IsSerializable sound_law v → TableOf moves v t run
table_of_run one moves v t run holds =
    let it = tabled moves v t (table_from v.opening.rows TABLES) run in
    let holds_t = run_holds moves v t holds run in
    let opening = run_opening moves v t run in
    let first_of = opened_of one v.opening.rows holds.opening_meets in
    record {
      table = it.table;
      opened = λ k x below some.
          let there : 0 < reached v.opening.rows x = omega (arith, reached-table v.opening.rows k x below, some) in
          it.unmade x (reached_unmade t holds_t x (subst (λ (o : world.Opening). 0 < reached o.rows x) (sym opening) there)) ∙ first_of k x below some;
      right = it.right;
    }

-- EXECUTIONS. What is heard of moves.
abbrev pub heard_moves : List Move → (ℕ → Progress) → ℕ → Progress
heard_moves [] p = p
heard_moves (m ∷ moves) p = heard_moves moves (heard_move m p)

abbrev pub AreMovesInRange : List Move → Type 0
AreMovesInRange [] = Unit {0}
AreMovesInRange (m ∷ moves) = IsMoveInRange m × AreMovesInRange moves

module _ (tree : TreeLaws) (laws : HistoryLaws) (begun : NoneRuns)
    (stay : (w u : Work) (steps : List Step) → Extends w u → IsAnswered w steps → IsAnswered u steps) (table : ℕ → ℕ) where
  pub run_fine : (moves : List Move) (p : ℕ → Progress) (v t : View) (run : IsExecution v moves t) → AreMovesInRange moves → AreOfTables table v.opening.rows
      → AreRight table moves v t run → AllTold p v → AllFine table p v → AllFine table (heard_moves moves p) t
  run_fine [] p v t run range opened right told fine = subst (AllFine table p) (sym run) fine
  run_fine (m ∷ moves) p v t (u, did, holds, rest) range opened right told fine =
      let opened_u : AreOfTables table u.opening.rows = subst (λ (o : world.Opening). AreOfTables table o.rows) (sym (move_opening v m u did)) opened in
      run_fine moves (heard_move m p) u t rest range.1 opened_u right.1 (move_told begun stay p v m u told did)
      (move_fine tree laws begun table p v u holds opened_u told fine m did range.0 right.0)

  -- in a world that was just opened nothing was touched
  pub opened_fine : (v : View) → IsOpened v → AllFine table (λ q. nothing) v
  opened_fine v opened q session = subst (λ (s : Session). IsFine table (history_of v) nothing (v.saves q) s) (sym (opened.idle q session)) (record { over = refl; now = tt })

-- what is heard of moves is what they say
pub heard_said : (moves : List Move) (p : ℕ → Progress) (q : ℕ)
    → heard_moves moves p q ≡ fold (λ (r : Progress) (s : Said). cond (s.session == q) (heard q s.asked s.answer r) r) (p q) (said_in moves)
heard_said [] p q = refl
heard_said (line l a ∷ moves) p q = heard_said moves (heard_move (line l a) p) q
heard_said (log l a ∷ moves) p q = heard_said moves (heard_move (log l a) p) q
heard_said (close seat a ∷ moves) p q = heard_said moves (heard_move (close seat a) p) q
heard_said (flush ∷ moves) p q = heard_said moves p q
