-- A line that names a table: what its calls touch is of that table.
use Rattle.std.proofs.Common.{◌≡◌, ℕ, ◌+◌, ◌<◌, ◌≤◌, Bool, true, cond, List, [], ◌++◌, Some, None, sum_by, append-nil, inl, inr, refl, sym, ap, ◌∙◌, subst, arith}
use Rattle.std.specs.Option.{option_to_list}
use Rattle.erm_model.specs.declared.history.VersionWritten.{VersionWritten}
use Rattle.erm_model.specs.declared.limits.TheConstants.{TABLES}
use Rattle.erm_model.specs.declared.outcome.Phase.TheVariants.{Active}
use Rattle.erm_model.specs.declared.row_stop.RowStop.{RowStop}
use Rattle.erm_model.specs.Lawful.{times_made}
use Rattle.erm_model.specs.Member.{◌∈◌}
use Rattle.erm_model.specs.RowTransaction.{Agrees, Asked, Event, KeepsLaw, WritesNothing, asked_claim, made_by_all}
use Rattle.erm_model.specs.Rows.{Rows}
use Rattle.erm_model.specs.Run.{Step}
use Rattle.erm_node.specs.Sound.{IsSound, sound_law}
use Rattle.erm_tree.specs.Tables.{AreClaiming}
use Rattle.erm_world.specs.Laws.{FitsWork, IsLawfulWork, IsSerializable}
use Rattle.erm_world.specs.Works.{seen_by}
use Rattle.erm_world.specs.World.{Finished, Has, IsSession, Session, Stand, View, Work, made_in, phase_at, stamp_of, work_at, work_of}
use Rattle.erm_world.specs.World as world
use Rattle.std.proofs.lemmas.Bool.{cases_eq}
use Rattle.erm_model.proofs.Members.{none_in_nil}
use Rattle.erm_world.proofs.Lists.{∈-before, ∈-last, ∈-parts}
use Rattle.erm_maps.specs.Runs.{kept_at}
use Rattle.erm_report.specs.declared.answer.Answer.{Answer}
use Rattle.erm_script.specs.declared.script.Command.{Command}
use Rattle.erm_script.specs.declared.script.Command.TheVariants as command
use Rattle.erm_script.specs.Script.{IsInRange}
use Rattle.erm_good_report.specs.Causes.{NamesTable, WritesTable}
use Rattle.erm_good_report.specs.Transactions.{Exchange, Transaction, is_writer, table_of, with_line, works_on_map}
use Rattle.erm_lines.specs.Operations.{AsksOf, DidCalls, FrontOf, WereCutOff, WholeOf}
use Rattle.erm_causes.specs.Touched.{AreOfTables, Touches}
use Rattle.erm_causes.proofs.Begun.{BeganOn, CommitsKeep, began_on}
use Rattle.erm_causes.proofs.Coloured.{AskedOf, KeepsTables, after_events, agrees_with, asked_of, claims_of, reads_of}
use Rattle.erm_causes.proofs.Fine.{FineAt, FineNow, KeepsSaved, Turned, names_more, saved_more, still_session, writes_more}
use Rattle.erm_causes.proofs.Made.{made_by_one, made_within}
use Rattle.erm_causes.proofs.Own.{StaysIn, TreeLaws, asks_stay, asks_write, front_stays, front_writes, table_below, whole_stays, whole_writes}
use Rattle.erm_told_limits.proofs.Ran.{MovesAll, Stays, ran}
use Rattle.erm_told_limits.proofs.Given.{HistoryLaws}

-- a command that names a table works on the map
pub named_works : (c : Command) (k : ℕ) → table_of c ≡ Some k → works_on_map c ≡ true
named_works (command.Get table key) k named = refl
named_works (command.Put table key value) k named = refl
named_works (command.Del table key) k named = refl
named_works (command.Next table from) k named = refl
named_works (command.Scan table low high) k named = refl
named_works (command.Tidy table key) k named = refl
named_works c k named = absurd (cc)

-- LINES. A line that names a table is one of its transaction's, behind the earlier ones.
pub line_in : (c : Command) (a : Answer) (t : Transaction) (k : ℕ) → table_of c ≡ Some k → record { asked = c; answer = a } ∈ (with_line (Some c) a t).lines
line_in c a t k named =
    let it : Exchange = record { asked = c; answer = a } in
    subst (λ (b : Bool). it ∈ (t.lines ++ option_to_list (cond b (Some it) None))) (sym (named_works c k named)) (∈-last t.lines it)

pub lines_before : (c : Command) (a : Answer) (t : Transaction) (e : Exchange) → e ∈ t.lines → e ∈ (with_line (Some c) a t).lines
lines_before c a t e within = ∈-before t.lines _ e within

pub names_line : (c : Command) (a : Answer) (t : Transaction) (k : ℕ) → table_of c ≡ Some k → NamesTable (with_line (Some c) a t) k
names_line c a t k named = record { line = record { asked = c; answer = a }; of = line_in c a t k named; names = named }

pub writes_line : (c : Command) (a : Answer) (t : Transaction) (k : ℕ) → table_of c ≡ Some k → is_writer c ≡ true → WritesTable (with_line (Some c) a t) k
writes_line c a t k named writes = record { line = record { asked = c; answer = a }; of = line_in c a t k named; names = named; writes = writes }

-- WORKS. Events of one table.
module _ (table : ℕ → ℕ) (k : ℕ) (below : k < TABLES) (w u : Work) (events : List Event) (moves : MovesAll sound_law w events u) (lawful : IsLawfulWork sound_law w)
    (once : (x : ℕ) → times_made u.made x ≤ 1) (made : (x : ℕ) → 0 < made_by_all events x → table x ≡ k)
    (stays : (rows : Rows) → IsSound rows → Agrees sound_law events rows → StaysIn k rows events) (keeps : KeepsTables table w) where
  -- they leave each object to its table
  pub keeps_more : KeepsTables table u
  keeps_more rows sound fits are =
      let on = agrees_with w u events moves lawful once rows fits in
      subst (λ (at : Rows). AreOfTables table at) (sym (moves.seen rows fits))
      (after_events table k (seen_by w rows) events (stays (seen_by w rows) on.0 on.1) made (keeps rows sound (moves.fitted rows fits) are))

  module _ (t : Transaction) (c : Command) (a : Answer) (named : table_of c ≡ Some k) (writes : (rows : Rows) → IsSound rows → Agrees sound_law events rows → (x : ℕ) → AreClaiming events x → is_writer c ≡ true)
      (touches : Touches table t w) (rows : Rows) (sound : IsSound rows) (fits : FitsWork sound_law u rows) (are : AreOfTables table rows) where
    -- and what they read and claim is of the table of this line
    pub touches_then : Touches table (with_line (Some c) a t) u
    touches_then =
        let on = agrees_with w u events moves lawful once rows fits in
        let array_are : AreOfTables table (seen_by w rows) = keeps rows sound (moves.fitted rows fits) are in
        let staying = stays (seen_by w rows) on.0 on.1 in
        record {
          reads = λ x is. elim (moves.reads x is) as (λ _. NamesTable (with_line (Some c) a t) (table x)) [
            | inl before ↦ names_more t (with_line (Some c) a t) (table x) (lines_before c a t) (touches.reads x before)
            | inr here ↦ subst (λ (n : ℕ). NamesTable (with_line (Some c) a t) n) (sym (reads_of table k (seen_by w rows) events below staying array_are x here)) (names_line c a t k named)
          ];
          claims = λ x is. elim (moves.claims x is) as (λ _. WritesTable (with_line (Some c) a t) (table x)) [
            | inl before ↦ writes_more t (with_line (Some c) a t) (table x) (lines_before c a t) (touches.claims x before)
            | inr here ↦ subst (λ (n : ℕ). WritesTable (with_line (Some c) a t) n) (sym (claims_of table k (seen_by w rows) events below staying made array_are x here))
                (writes_line c a t k named (writes (seen_by w rows) on.0 on.1 x here))
          ];
        }

-- VIEWS. What the calls made is made by all.
pub ran_made : (v t : View) (seat : ℕ) (events : List Event) → IsSession v seat → Stays v seat t → MovesAll sound_law (work_at v seat) events (work_at t seat) → (x : ℕ)
    → world.made_by_all t x ≡ world.made_by_all v x + made_by_all events x
ran_made v t seat events session stays moves x =
    let over : sum_by (λ f. times_made f.work.made x) (t.session seat).over ≡ sum_by (λ f. times_made f.work.made x) (v.session seat).over =
    ap (λ (fs : List Finished). sum_by (λ f. times_made f.work.made x) fs) stays.over in
    omega (arith, made_by_one v t seat x session stays.others stays.opening, moves.made x, over)

pub made_at_once : (t : View) (seat x : ℕ) → IsSession t seat → world.made_by_all t x ≤ 1 → times_made (work_at t seat).made x ≤ 1
made_at_once t seat x session once = omega (arith, made_within t.opening.sessions t.session seat x session.0 session.1, once)

pub turned_by : (v t : View) (seat : ℕ) → Stays v seat t → Turned v seat t
turned_by v t seat stays = record { others = stays.others; saves = stays.saves; opening = stays.opening; more = []; over = stays.over ∙ sym (append-nil (v.session seat).over) }

-- and were it back at a savepoint it would keep to its tables still
pub still_saved : (table : ℕ → ℕ) (v t : View) (seat : ℕ) → Stays v seat t → KeepsSaved table (kept_at v seat) → KeepsSaved table (kept_at t seat)
still_saved table v t seat stays keeps =
    subst (λ (held : List (List VersionWritten)). KeepsSaved table (record { work = work_at t seat; saves = held })) (sym stays.held)
    (saved_more table (work_at v seat) (work_at t seat) (v.saves seat) stays.more keeps)

-- what is sealed keeps to its tables still
pub commits_keep : (table : ℕ → ℕ) (v t : View) (seat : ℕ) (turned : Turned v seat t) → ((f : Finished) (stamp : ℕ) → f ∈ turned.more → stamp_of f.fate ≡ Some stamp → KeepsTables table f.work)
    → CommitsKeep table v → CommitsKeep table t
commits_keep table v t seat turned more keep q f stamp session within is = elim (cases_eq q seat) as (λ _. KeepsTables table f.work) [
  | inl own ↦
      let there : f ∈ ((v.session seat).over ++ turned.more) = subst (λ (fs : List Finished). f ∈ fs) turned.over (subst (λ (n : ℕ). f ∈ (t.session n).over) own within) in
      elim (∈-parts (v.session seat).over turned.more f there) as (λ _. KeepsTables table f.work) [
        | inl before ↦ keep seat f stamp (subst (λ (n : ℕ). IsSession v n) own (back session)) before is
        | inr new ↦ more f stamp new is
      ]
  | inr another ↦ keep q f stamp (back session) (subst (λ (s : Session). f ∈ s.over) (turned.others q another) within) is
]
  where
    back : IsSession t q → IsSession v q
    back in_t = subst (λ (o : world.Opening). (0 < q) × (q ≤ o.sessions)) turned.opening in_t

pub stays_keep : (table : ℕ → ℕ) (v t : View) (seat : ℕ) → Stays v seat t → CommitsKeep table v → CommitsKeep table t
unfolding turned_by
stays_keep table v t seat stays keep = commits_keep table v t seat (turned_by v t seat stays) (λ f stamp none is. absurd (none_in_nil f none)) keep

pub current_in : (stand : Stand) (w : Work) → stand ≡ world.active w → world.IsCurrent stand w
current_in stand w is = subst (λ (at : Stand). world.IsCurrent at w) (sym is) refl

-- A transaction with a line that was cut off, where its calls left it: what it asked for is of this table.
pub record CutFine (table : ℕ → ℕ) (k : ℕ) (c : Command) (t : Transaction) (w : Work) (asked : Asked) : Type 0 where
  pub touches : Touches table t w
  pub keeps : KeepsTables table w
  pub asked_is : AskedOf table k asked
  pub writes : (oid : ℕ) → asked ≡ asked_claim oid → is_writer c ≡ true

-- WORKS. Calls of a line, of a transaction that began on such rows.
module _ (tree : TreeLaws) (table : ℕ → ℕ) (w u : Work) (events : List Event) (moves : MovesAll sound_law w events u) (once : (x : ℕ) → times_made u.made x ≤ 1) (c : Command) (a : Answer) (k : ℕ)
    (named : table_of c ≡ Some k) (range : IsInRange c) (made : (x : ℕ) → 0 < made_by_all events x → table x ≡ k) (t : Transaction) (touches : Touches table t w) (keeps : KeepsTables table w)
    (lawful : IsLawfulWork sound_law w) (began : BeganOn table u) where
  -- a line that was answered
  pub whole_work : ((rows : Rows) → IsSound rows → Agrees sound_law events rows → WholeOf c a rows events × KeepsLaw sound_law events rows) → Touches table (with_line (Some c) a t) u × KeepsTables table u
  whole_work of =
      let below = table_below c k named range in
      let stays : (rows : Rows) → IsSound rows → Agrees sound_law events rows → StaysIn k rows events = λ rows sound agrees.
      let it = of rows sound agrees in whole_stays tree c a k rows events named range sound agrees it.1 it.0 in (
        touches_then table k below w u events moves lawful once made stays keeps t c a named (λ rows sound agrees. whole_writes c a rows events (of rows sound agrees).0) touches
            began.rows began.sound began.fits began.are,
        keeps_more table k below w u events moves lawful once made stays keeps,
      )

  -- one that was cut off
  pub cut_work : (asked : Asked) → WritesNothing events → ((rows : Rows) → IsSound rows → Agrees sound_law events rows → FrontOf c rows events)
      → ((rows : Rows) → IsSound rows → Agrees sound_law events rows → AsksOf c events rows asked) → CutFine table k c (with_line (Some c) a t) u asked
  cut_work asked none of asks_so =
      let below = table_below c k named range in
      let stays : (rows : Rows) → IsSound rows → Agrees sound_law events rows → StaysIn k rows events = λ rows sound agrees.
      front_stays tree c k rows events named range sound none (of rows sound agrees) in
      let on = agrees_with w u events moves lawful once began.rows began.fits in
      let asks = asks_so (seen_by w began.rows) on.0 on.1 in
      record {
        touches = touches_then table k below w u events moves lawful once made stays keeps t c a named
            (λ rows sound agrees. front_writes c rows events (of rows sound agrees)) touches began.rows began.sound began.fits began.are;
        keeps = keeps_more table k below w u events moves lawful once made stays keeps;
        asked_is = asked_of table k (seen_by w began.rows) events asked below
            (asks_stay tree c k (seen_by w began.rows) events asked named range on.0 asks) made (keeps began.rows began.sound (moves.fitted began.rows began.fits) began.are);
        writes = λ oid is. asks_write c (seen_by w began.rows) events oid (subst (λ (q : Asked). AsksOf c events (seen_by w began.rows) q) is asks);
      }

-- a line that was answered leaves its transaction so
module _ (tree : TreeLaws) (laws : HistoryLaws) (table : ℕ → ℕ) (v u : View) (seat : ℕ) (c : Command) (a : Answer) (k : ℕ) (session : IsSession v seat) (active : phase_at v seat ≡ Active)
    (named : table_of c ≡ Some k) (range : IsInRange c) (holds : IsSerializable sound_law u) (opened : AreOfTables table u.opening.rows) (keep : CommitsKeep table v)
    (made : (x : ℕ) → world.made_by_all v x < world.made_by_all u x → table x ≡ k) (t : Transaction) (was : FineAt table t (kept_at v seat)) where
  pub whole_fine : (steps : List Step) → DidCalls v seat steps (WholeOf c a) u → FineNow table (Some (with_line (Some c) a t)) (u.saves seat) (u.session seat).stand
  whole_fine steps did =
      let gone = ran sound_law did.events v u seat active did.ran in
      let in_u = still_session v u seat gone.0.opening session in
      let once : (x : ℕ) → times_made (work_at u seat).made x ≤ 1 = λ x. made_at_once u seat x in_u (holds.made_once x) in
      let made_here : (x : ℕ) → 0 < made_by_all did.events x → table x ≡ k = λ x some. made x (omega (arith, ran_made v u seat did.events session gone.0 gone.1 x, some)) in
      let began = began_on laws table u holds opened (stays_keep table v u seat gone.0 keep) seat (work_at u seat) in_u
      (inr (current_in (u.session seat).stand (work_at u seat) gone.0.stand)) in
      let fine = whole_work tree table (work_at v seat) (work_at u seat) did.events gone.1 once c a k named range made_here t was.touches was.keeps was.run.lawful began did.of in
      subst (λ (stand : Stand). FineNow table (Some (with_line (Some c) a t)) (u.saves seat) stand) (sym gone.0.stand) (record {
        touches = fine.0;
        keeps = fine.1;
        saved = still_saved table v u seat gone.0 was.saved;
        steps = was.steps ++ steps;
        run = did.run was.steps was.run;
      })

  module _ (stop : RowStop) (did : WereCutOff v seat (FrontOf c) (AsksOf c) stop u) (w : Work) (has : Has u seat w) (fitted : (rows : Rows) → FitsWork sound_law w rows → FitsWork sound_law (work_at did.at seat) rows)
      (opening : u.opening ≡ v.opening) (same : (x : ℕ) → world.made_by_all u x ≡ world.made_by_all did.at x) (keep_after : CommitsKeep table u) where
    pub cut_fine : CutFine table k c (with_line (Some c) a t) (work_at did.at seat) did.asked
    cut_fine =
        let gone = ran sound_law did.events v did.at seat active did.ran in
        let in_at = still_session v did.at seat gone.0.opening session in
        let once : (x : ℕ) → times_made (work_at did.at seat).made x ≤ 1 = λ x. made_at_once did.at seat x in_at (omega (arith, same x, holds.made_once x)) in
        let made_here : (x : ℕ) → 0 < made_by_all did.events x → table x ≡ k = λ x some. made x (omega (arith, ran_made v did.at seat did.events session gone.0 gone.1 x, some, same x)) in
        let last = began_on laws table u holds opened keep_after seat w (still_session v u seat opening session) has in
        let began : BeganOn table (work_at did.at seat) = record { rows = last.rows; sound = last.sound; fits = fitted last.rows last.fits; are = last.are } in
        cut_work tree table (work_at v seat) (work_at did.at seat) did.events gone.1 once c a k named range made_here t was.touches was.keeps was.run.lawful began did.asked did.none did.of did.asks_so
