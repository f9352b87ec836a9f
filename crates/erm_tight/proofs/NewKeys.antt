-- A put of a key that a commit below the begin had put makes no object.
use Rattle.std.proofs.Common.{◌≡◌, ℕ, ◌+◌, ◌<◌, ◌≤◌, List, [], ◌∷◌, ◌++◌, Option, Some, None, cond, eqb, inl, inr, refl, sym, ap, ◌∙◌, subst, arith}
use Rattle.std.specs.Prelude.{MatchOption}
use Rattle.std.proofs.lemmas.List.Sums.{sum_by-append}
use Rattle.erm_model.specs.declared.history.TransactionRecord.{TransactionRecord}
use Rattle.erm_model.specs.declared.limits.TheConstants.{PUT_OBJECTS}
use Rattle.erm_model.specs.declared.outcome.Phase.TheVariants.{Active}
use Rattle.erm_model.specs.declared.row_stop.RowStop.{RowStop}
use Rattle.erm_model.specs.Lawful.{times_made}
use Rattle.erm_model.specs.Member.{◌∈◌}
use Rattle.erm_model.specs.Rows.{Rows}
use Rattle.erm_model.specs.RowTransaction.{Agrees, Asked, Event, asked_make, did_make, did_write}
use Rattle.erm_node.specs.Sound.{IsSound, sound_law}
use Rattle.erm_node.specs.TreeMap.{record_in}
use Rattle.erm_record.specs.Record.{value_row}
use Rattle.erm_tree.specs.Change.{AreReadsThen, IsPut, IsPutOfNew, count_claims, count_makes, count_writes}
use Rattle.erm_tree.specs.Reads.{IsOnWay}
use Rattle.erm_world.specs.Face.{Grows}
use Rattle.erm_world.specs.Face as face
use Rattle.erm_world.specs.Going.{Extends}
use Rattle.erm_world.specs.Laws.{FitsWork, IsLawfulWork, IsSerializable}
use Rattle.erm_world.specs.Works.{seen_by}
use Rattle.erm_world.specs.World.{Finished, Has, IsCurrent, IsSession, Session, Stand, View, Work, history_of, phase_at, phase_of, work_at, work_of}
use Rattle.erm_world.specs.World as world
use Rattle.erm_world.proofs.Lists.{∈-last}
use Rattle.erm_world.proofs.Txns.{stopped}
use Rattle.erm_maps.proofs.Extended.{fitted_before}
use Rattle.erm_maps.proofs.Histories.{work_in}
use Rattle.erm_maps.proofs.Lawful.{begins_above}
use Rattle.erm_maps.proofs.Made.{made_beside}
use Rattle.erm_script.specs.declared.script.Command.TheVariants as command
use Rattle.erm_good_report.specs.Transactions.{Exchange}
use Rattle.erm_lines.specs.Operations.{AsksOf, FrontOf, Ran, WereCutOff}
use Rattle.erm_causes.proofs.Coloured.{agrees_with}
use Rattle.erm_causes.proofs.Fine.{still_session}
use Rattle.erm_told_limits.proofs.Bounds.{counted_grows, front_makes}
use Rattle.erm_told_limits.proofs.Grown.{all_active, makes-append, only_none}
use Rattle.erm_told_limits.proofs.Lines.{ends_so, stays_turned}
use Rattle.erm_told_limits.proofs.Ran.{MovesAll, ran, same_work}
use Rattle.erm_told_limits.proofs.Totals.{mades_by_all, mades_turned}
use Rattle.erm_told_limits.proofs.Given.{HistoryLaws}
use Rattle.erm_tight.proofs.Marks.{Marks, Puts}
use Rattle.erm_tight.proofs.Serial.{IsTold, RowsBelow, rows_below}

-- what is so of each object
abbrev Any : ℕ → Type 0
Any x = Unit {0}

-- a put of a key that has a record makes no object
put_makes : (rows : Rows) (table key : ℕ) (row : List ℕ) (events : List Event) (x : ℕ) (found : Option ℕ) → found ≡ Some x
    → MatchOption found (IsPutOfNew rows table key row events) (λ oid. AreReadsThen (IsOnWay table key rows) (did_write oid row ∷ []) events) → count_makes events ≡ 0
put_makes rows table key row events x None is put = absurd (cc is)
put_makes rows table key row events x (Some oid) is put =
    let parts = makes-append put.reads (did_write oid row ∷ []) in
    let none = only_none put.reads put.only in
    omega (arith, ap count_makes put.split, parts, none.0)

made_less : (w u : Work) → Extends w u → (x : ℕ) → times_made w.made x ≤ times_made u.made x
made_less w u more x =
    let all : times_made u.made x ≡ times_made (w.made ++ more.more) x = ap (λ (os : List ℕ). times_made os x) more.made in
    let sum : times_made (w.made ++ more.more) x ≡ times_made w.made x + times_made more.more x = sum_by-append (λ (oid : ℕ). cond (eqb oid x) 1 0) w.made more.more in
    omega (arith, all, sum)

-- THE ARRAY on which calls of a transaction ran that is one of a world later
module _ (laws : HistoryLaws) (t : View) (holds : IsSerializable sound_law t) (told : (r : TransactionRecord) → r ∈ history_of t → IsTold r) (seat : ℕ) (u : Work) (session : IsSession t seat) (has : Has t seat u) where
  pub began : RowsBelow t u.begin
  began = rows_below laws t holds told u.begin (begins_above sound_law t holds seat u session has)

  once : (x : ℕ) → times_made u.made x ≤ 1
  once x =
      let beside = made_beside t u.begin x seat u session has (λ stamp stamped. (holds.stamps seat u stamp session stamped).0) in
      let all = holds.made_once x in
      omega (arith, beside, all)

  module _ (w y : Work) (events : List Event) (lawful : IsLawfulWork sound_law w) (moves : MovesAll sound_law w events y) (more : Extends y u) where
    fits_later : FitsWork sound_law y began.rows
    fits_later = fitted_before sound_law y u more began.rows (began.fits seat u session has refl)

    abbrev pub array : Rows
    array = seen_by w began.rows

    pub ran_on : IsSound array × Agrees sound_law events array
    ran_on = agrees_with w y events moves lawful (λ x. let less = made_less y u more x in let one = once x in omega (arith, less, one)) began.rows fits_later

    -- a key that a commit below the begin put has its record there
    pub has_record : (lines : List Exchange) → Marks lines w → (by : TransactionRecord) → by ∈ history_of t → by.stamp < u.begin → (table key : ℕ) (puts : Puts (work_in by) table key)
        → record_in array table key ≡ Some puts.1.0
    has_record lines marks by within below table key puts =
        marks.kept began.rows began.sound (moves.fitted began.rows fits_later) table key puts.1.0 puts.0 (began.put by within below table key puts).0

-- what a refusal leaves of a work: it stands, or is over after it has gone on
pub record Later (t : View) (seat : ℕ) (w : Work) : Type 0 where
  pub work : Work
  pub has : Has t seat work
  pub more : Extends w work

pub later_of : (s : Session) (t : View) (seat : ℕ) (w : Work) → s.stand ≡ world.active w → Grows s (t.session seat) → Later t seat w
later_of s t seat w stands (face.same e) =
    record { work = w; has = inr (subst (λ (at : Stand). IsCurrent at w) (sym (ap (λ (x : Session). x.stand) e ∙ stands)) refl); more = same_work w }
later_of s t seat w stands (face.works x u begins over then more) =
    let same : x ≡ w = ap work_of (sym begins ∙ stands) in
    record { work = u; has = inr (subst (λ (at : Stand). IsCurrent at u) (sym then) refl); more = subst (λ (y : Work). Extends y u) same more }
later_of s t seat w stands (face.ends x u begins over then more) =
    let same : x ≡ w = ap work_of (sym begins ∙ stands) in
    let f : Finished = record { work = u; fate = world.aborts } in
    record { work = u; has = inl (f, subst (λ (fs : List Finished). f ∈ fs) (sym over) (∈-last s.over f), refl); more = subst (λ (y : Work). Extends y u) same more }

module _ (laws : HistoryLaws) (v t : View) (seat : ℕ) (session : IsSession v seat) (active : phase_at v seat ≡ Active) (holds : IsSerializable sound_law t)
    (told : (r : TransactionRecord) → r ∈ history_of t → IsTold r) (lines : List Exchange) (marks : Marks lines (work_at v seat)) (lawful : IsLawfulWork sound_law (work_at v seat)) where
  -- THE PUT was answered
  module _ (events : List Event) (calls : Ran v seat events t) where
    grows_by : count_makes events ≡ 0 → mades_by_all t ≤ mades_by_all v
    grows_by none =
        let both = ran sound_law events v t seat active calls in
        let k = count_claims events + count_writes events in
        let turned = stays_turned Any v seat t events 0 k both.0 both.1 (counted_grows v seat t active events 0 k (omega (arith, none)) (omega arith) calls) (λ x by. tt) in
        omega (arith, mades_turned Any 0 k 0 v seat t session turned)

    pub whole_none : (table key : ℕ) (value : List ℕ) → ((rows : Rows) → IsSound rows → Agrees sound_law events rows → IsPut rows table key (value_row value) events)
        → (by : TransactionRecord) → by ∈ history_of t → by.stamp < (work_at v seat).begin → (puts : Puts (work_in by) table key) → mades_by_all t ≤ mades_by_all v
    whole_none table key value of by within below puts =
        let both = ran sound_law events v t seat active calls in
        let w = work_at v seat in
        let u = work_at t seat in
        let in_t = still_session v t seat both.0.opening session in
        let has : Has t seat u = inr (subst (λ (at : Stand). IsCurrent at u) (sym both.0.stand) refl) in
        let same : u.begin ≡ w.begin = both.0.more.begin in
        let on = ran_on laws t holds told seat u in_t has w u events lawful both.1 (same_work u) in
        let there = has_record laws t holds told seat u in_t has w u events lawful both.1 (same_work u) lines marks by within (omega (arith, below, same)) table key puts in
        let rows = array laws t holds told seat u in_t has w u events lawful both.1 (same_work u) in
        grows_by (put_makes rows table key (value_row value) events puts.1.0 (record_in rows table key) there (of rows on.0 on.1))

  -- or cut off
  module _ (table key : ℕ) (value : List ℕ) (why : RowStop) (cut : WereCutOff v seat (FrontOf (command.Put table key value)) (AsksOf (command.Put table key value)) why t) where
    pub grows_to : mades_by_all t ≤ mades_by_all v + count_makes cut.events
    grows_to =
        let both = ran sound_law cut.events v cut.at seat active cut.ran in
        let k = count_claims cut.events + count_writes cut.events in
        let first = stays_turned Any v seat cut.at cut.events (count_makes cut.events) k both.0 both.1
        (counted_grows v seat cut.at active cut.events (count_makes cut.events) k (omega arith) (omega arith) cut.ran) (λ x by. tt) in
        let end = ends_so Any seat cut.at t cut.asked why 1 (λ oid is. omega arith) cut.refused in
        let in_at = still_session v cut.at seat both.0.opening session in
        omega (arith, mades_turned Any (count_makes cut.events) k 0 v seat cut.at session first, mades_turned Any 0 end.more 1 cut.at seat t in_at end.turned)

    -- the array on which it ran, by what is left of its transaction
    abbrev pub later : Later t seat (work_at cut.at seat)
    later =
        let both = ran sound_law cut.events v cut.at seat active cut.ran in
        let end = stopped cut.at seat cut.asked why t (all_active cut.events v seat cut.at active cut.ran) cut.refused in
        later_of (cut.at.session seat) t seat (work_at cut.at seat) both.0.stand end.goes.own

    abbrev pub in_later : IsSession t seat
    in_later =
        let both = ran sound_law cut.events v cut.at seat active cut.ran in
        let end = stopped cut.at seat cut.asked why t (all_active cut.events v seat cut.at active cut.ran) cut.refused in
        still_session v t seat (end.goes.opening ∙ both.0.opening) session

    pub moves_cut : MovesAll sound_law (work_at v seat) cut.events (work_at cut.at seat)
    moves_cut = (ran sound_law cut.events v cut.at seat active cut.ran).1

    begins_alike : later.work.begin ≡ (work_at v seat).begin
    begins_alike = later.more.begin ∙ (ran sound_law cut.events v cut.at seat active cut.ran).0.more.begin

    abbrev pub cut_array : Rows
    cut_array = array laws t holds told seat later.work in_later later.has (work_at v seat) (work_at cut.at seat) cut.events lawful moves_cut later.more

    cut_on : IsSound cut_array × Agrees sound_law cut.events cut_array
    cut_on = ran_on laws t holds told seat later.work in_later later.has (work_at v seat) (work_at cut.at seat) cut.events lawful moves_cut later.more

    cut_front : FrontOf (command.Put table key value) cut_array cut.events
    cut_front = cut.of cut_array cut_on.0 cut_on.1

    cut_asks : AsksOf (command.Put table key value) cut.events cut_array cut.asked
    cut_asks = cut.asks_so cut_array cut_on.0 cut_on.1

    module _ (by : TransactionRecord) (within : by ∈ history_of t) (below : by.stamp < (work_at v seat).begin) (puts : Puts (work_in by) table key) where
      cut_record : record_in cut_array table key ≡ Some puts.1.0
      cut_record =
          has_record laws t holds told seat later.work in_later later.has (work_at v seat) (work_at cut.at seat) cut.events lawful moves_cut later.more lines marks by within
          (omega (arith, below, begins_alike)) table key puts

      none_made : (others : List Event) → IsPut cut_array table key (value_row value) (cut.events ++ others) → count_makes cut.events + count_makes others ≡ 0
      none_made others put =
          let none = put_makes cut_array table key (value_row value) (cut.events ++ others) puts.1.0 (record_in cut_array table key) cut_record put in
          omega (arith, none, makes-append cut.events others)

      -- it made none
      pub cut_none : mades_by_all t ≤ mades_by_all v
      cut_none = let none = none_made cut_front.1.0 cut_front.1.1 in omega (arith, grows_to, none)

      -- and asked for none
      pub cut_asks_none : cut.asked ≡ asked_make → ⊥
      cut_asks_none is =
          let asks = subst (λ (asked : Asked). AsksOf (command.Put table key value) cut.events cut_array asked) is cut_asks in
          let none = none_made (did_make asks.0 ∷ asks.1) asks.2 in
          absurd (omega (arith, none))

    -- one that asked for an object made fewer than a put may
    pub cut_less : cut.asked ≡ asked_make → count_makes cut.events + 1 ≤ PUT_OBJECTS
    cut_less is =
        front_makes (command.Put table key value) cut_array cut.events cut_front (subst (λ (asked : Asked). AsksOf (command.Put table key value) cut.events cut_array asked) is cut_asks)
