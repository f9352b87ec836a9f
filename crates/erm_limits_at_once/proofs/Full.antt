-- A line of an execution at once that was refused for want of reads, claims, cells or objects shows the cause.
use Rattle.std.proofs.Common.{◌≡◌, ℕ, zero, suc, ◌+◌, ◌<◌, ◌≤◌, ◌⊎◌, ◌==◌, ◌||◌, Bool, true, false, List, ◌++◌, map, take, slice_get, length, replicate, Some, None, is_some, inl, inr, refl, sym, ap, ◌∙◌, subst, arith}
use Rattle.std.specs.List.{list_any}
use Rattle.std.proofs.lemmas.Bool.{cases_eq}
use Rattle.std.proofs.lemmas.Bool.Decides.{eqb_tells}
use Rattle.std.proofs.lemmas.List.{length-append, length-map}
use Rattle.erm_model.specs.declared.history.VersionRead.{VersionRead}
use Rattle.erm_model.specs.declared.limits.TheConstants.{OID_LIMIT, READ_LIMIT, TABLES, WRITE_LIMIT}
use Rattle.erm_model.specs.Member.{◌∈◌}
use Rattle.erm_model.specs.declared.TheConstants.{ROW_WORDS}
use Rattle.erm_model.specs.declared.outcome.Phase.TheVariants.{Idle}
use Rattle.erm_model.specs.declared.row_stop.RowStop.{RowStop}
use Rattle.erm_model.specs.declared.row_stop.RowStop.TheVariants as stop
use Rattle.erm_model.specs.RowTransaction.{Asked, asked_claim, asked_make, asked_read, ends}
use Rattle.erm_model.specs.Rows.{Rows}
use Rattle.erm_model.specs.Run.{Step}
use Rattle.erm_node.specs.Sound.{IsSound, reached}
use Rattle.erm_report.specs.declared.answer.Answer.{Answer}
use Rattle.erm_report.specs.declared.answer.Answer.TheVariants as answer
use Rattle.erm_script.specs.declared.script.ScriptLine.{ScriptLine}
use Rattle.erm_world.specs.Calls.{AreAllDrawn, AreAllMade, IsJustAbove}
use Rattle.erm_world.specs.Going.{Extends}
use Rattle.erm_world.specs.Works.{row_read}
use Rattle.erm_world.specs.World.{IsSession, Session, View, Work, claims_by_all, claims_in, claims_upto, work_at, work_of}
use Rattle.erm_world.specs.World as world
use Rattle.erm_maps.specs.Runs.{IsAnswered}
use Rattle.erm_good_report.specs.GoodReport.{places_of}
use Rattle.erm_good_report.specs.Opening.{Opening}
use Rattle.erm_good_report.specs.Phases.{Closed}
use Rattle.erm_told_limits.proofs.Causes.{line_there}
use Rattle.erm_good_report.specs.Refusals.{HasRefusalCause, IsCounted, IsOwn, claims_of, makes_of, total_of}
use Rattle.erm_good_report.specs.Transactions.{Said, Transaction, nothing, progress_of, said_of, transactions_of, with_line}
use Rattle.erm_good_at_once.specs.CutReports.{moment_in}
use Rattle.erm_lines.specs.Executions.{IsOpeningOf, count_rows}
use Rattle.erm_lines.specs.Told.{Continues}
use Rattle.erm_lines.proofs.Keeping.{NoneRuns}
use Rattle.erm_beside.specs.Calls.{After, RefusedBeside}
use Rattle.erm_beside.specs.Ends.{MetBeside}
use Rattle.erm_lines_at_once.specs.Executions.{all_moves}
use Rattle.erm_lines_at_once.specs.Parts.{IsRunInPart}
use Rattle.erm_told.proofs.Executed.{still_session}
use Rattle.erm_told.proofs.Going.{continues_itself}
use Rattle.erm_told_at_once.proofs.Runs.{all_say, at_first, close_of}
use Rattle.erm_causes.proofs.Runs.{lines_range}
use Rattle.erm_causes_at_once.proofs.Refused.{IsStop, Stopped, cut_by, once_cut, stop_in, stopped}
use Rattle.erm_causes_at_once.proofs.Totals.{counted_few, counted_upto, own_total}
use Rattle.erm_causes_at_once.proofs.Touched.{closes_range}
use Rattle.erm_told_limits.proofs.Grown.{Apart}
use Rattle.erm_told_limits.proofs.Heard.{may_claim, may_read}
use Rattle.erm_told_limits.proofs.Holds.{Laws}
use Rattle.erm_told_limits.proofs.Limits.{claims_line}
use Rattle.erm_told_limits.proofs.Looks.{reads_line}
use Rattle.erm_told_limits.proofs.Moved.{mades_in}
use Rattle.erm_told_limits.proofs.Pigeons.{Has, filled, has_first, has_made, has_reached, has_read, has_second, length_filled, length_roots, made_few, oids_read, read_before, read_few, roots}
use Rattle.erm_told_limits.proofs.Totals.{all_made, length_all, mades_by_all, times_all, total_upto}
use Rattle.erm_told_limits.specs.Limits.{IsFull}
use Rattle.erm_limits_at_once.proofs.Chained.{Few, few_idle, run_counts}
use Rattle.erm_limits_at_once.proofs.Looked.{named_kind}
use Rattle.erm_limits_at_once.proofs.Placed.{LineCounts, line_counts}
use Rattle.erm_limits_at_once.proofs.Tried.{MayBe, NoRoom, no_room}

-- WHAT A REFUSAL SAYS.
reads_at : (seat : ℕ) (asked : Asked) (at t : View) → After seat (RefusedBeside seat asked stop.ReadsFull) at t
    → (oid : ℕ) × (asked ≡ asked_read oid) × (row_read (work_at at seat).reads oid ≡ None) × (length (work_at at seat).reads ≡ READ_LIMIT)
reads_at seat (asked_read oid) at t (u, passes, refused) = (
  oid,
  refl,
  subst (λ (s : Session). row_read (work_of s.stand).reads oid ≡ None) passes.own refused.1.unread,
  sym (ap (λ (s : Session). length (work_of s.stand).reads) passes.own) ∙ refused.2,
)
reads_at seat (asked_claim oid) at t (u, passes, refused) = absurd refused
reads_at seat asked_make at t (u, passes, refused) = absurd refused

writes_at : (seat : ℕ) (asked : Asked) (at t : View) → After seat (RefusedBeside seat asked stop.WritesFull) at t → (oid : ℕ) × (asked ≡ asked_claim oid) × (length (work_at at seat).claims ≡ WRITE_LIMIT)
writes_at seat (asked_read oid) at t (u, passes, refused) = absurd refused
writes_at seat (asked_claim oid) at t (u, passes, refused) =
    (oid, refl, sym (ap (λ (s : Session). length (work_of s.stand).claims) passes.own) ∙ refused.2)
writes_at seat asked_make at t (u, passes, refused) = absurd refused

cells_at : (f : View) (seat drawn : ℕ) (asked : Asked) (at t : View) → After seat (RefusedBeside seat asked (stop.CellsFull drawn)) at t → MetBeside f seat asked (stop.CellsFull drawn) at t
    → (oid : ℕ) × (asked ≡ asked_claim oid) × IsJustAbove f.opening.cells drawn × AreAllDrawn f
cells_at f seat drawn (asked_read oid) at t (u, passes, refused) met = absurd refused
cells_at f seat drawn (asked_claim oid) at t refused met = (oid, refl, met.0, met.1)
cells_at f seat drawn asked_make at t (u, passes, refused) met = absurd refused

oids_at : (f : View) (seat drawn : ℕ) (asked : Asked) (at t : View) → After seat (RefusedBeside seat asked (stop.OidsFull drawn)) at t → MetBeside f seat asked (stop.OidsFull drawn) at t
    → (asked ≡ asked_make) × IsJustAbove OID_LIMIT drawn × AreAllMade f
oids_at f seat drawn (asked_read oid) at t (u, passes, refused) met = absurd refused
oids_at f seat drawn (asked_claim oid) at t (u, passes, refused) met = absurd refused
oids_at f seat drawn asked_make at t (u, passes, refused) met = (refl, refused.1, met)

-- SUMS over the sessions up to a number, where each has no more, and one fewer.
mades_most : (n : ℕ) (session : ℕ → Session) (said : List Said) → ((q : ℕ) → 0 < q → q ≤ n → mades_in (session q) ≤ own_total makes_of q said) → total_upto mades_in n session ≤ counted_upto makes_of n said
unfolding total_upto counted_upto
mades_most zero session said most = omega arith
mades_most (suc n) session said most = omega (arith, mades_most n session said (λ q above within. most q above (omega (arith, within))), most (suc n) (omega arith) (omega arith))

mades_fewer : (n seat : ℕ) (session : ℕ → Session) (said : List Said) → 0 < seat → seat ≤ n → ((q : ℕ) → 0 < q → q ≤ n → mades_in (session q) ≤ own_total makes_of q said)
    → mades_in (session seat) + 1 ≤ own_total makes_of seat said → total_upto mades_in n session + 1 ≤ counted_upto makes_of n said
unfolding total_upto counted_upto
mades_fewer zero seat session said above within most fewer = absurd (omega (arith, above, within))
mades_fewer (suc n) seat session said above within most fewer = elim (cases_eq seat (suc n)) as (λ _. total_upto mades_in (suc n) session + 1 ≤ counted_upto makes_of (suc n) said) [
  | inl is ↦
      let here = subst (λ (q : ℕ). mades_in (session q) + 1 ≤ own_total makes_of q said) is fewer in
      omega (arith, mades_most n session said (λ q some less. most q some (omega (arith, less))), here)
  | inr another ↦
      omega (arith, mades_fewer n seat session said above (omega (arith, within, another)) (λ q some less. most q some (omega (arith, less))) fewer, most (suc n) (omega arith) (omega arith))
]

claims_most : (n : ℕ) (session : ℕ → Session) (said : List Said) → ((q : ℕ) → 0 < q → q ≤ n → claims_in (session q) ≤ own_total claims_of q said) → claims_upto n session ≤ counted_upto claims_of n said
unfolding claims_upto counted_upto
claims_most zero session said most = omega arith
claims_most (suc n) session said most = omega (arith, claims_most n session said (λ q above within. most q above (omega (arith, within))), most (suc n) (omega arith) (omega arith))

claims_fewer : (n seat : ℕ) (session : ℕ → Session) (said : List Said) → 0 < seat → seat ≤ n → ((q : ℕ) → 0 < q → q ≤ n → claims_in (session q) ≤ own_total claims_of q said)
    → claims_in (session seat) + 1 ≤ own_total claims_of seat said → claims_upto n session + 1 ≤ counted_upto claims_of n said
unfolding claims_upto counted_upto
claims_fewer zero seat session said above within most fewer = absurd (omega (arith, above, within))
claims_fewer (suc n) seat session said above within most fewer = elim (cases_eq seat (suc n)) as (λ _. claims_upto (suc n) session + 1 ≤ counted_upto claims_of (suc n) said) [
  | inl is ↦
      let here = subst (λ (q : ℕ). claims_in (session q) + 1 ≤ own_total claims_of q said) is fewer in
      omega (arith, claims_most n session said (λ q some less. most q some (omega (arith, less))), here)
  | inr another ↦
      omega (arith, claims_fewer n seat session said above (omega (arith, within, another)) (λ q some less. most q some (omega (arith, less))) fewer, most (suc n) (omega arith) (omega arith))
]

-- OBJECTS READ, and one that was asked for and isn't read yet, are no more than a list that has them all.
asked_few : (rs : List VersionRead) (oid : ℕ) (ys : List ℕ) → Apart rs → row_read rs oid ≡ None → Has ys oid → ((x : ℕ) → is_some (row_read rs x) ≡ true → Has ys x) → length rs + 1 ≤ length ys
asked_few rs oid ys apart none wanted all = read_few rs oid ys apart none (λ q has. elim (eqb_tells q oid) as (λ _. Has ys q) [
  | inl here ↦ subst (λ (x : ℕ). Has ys x) (sym here.1) wanted
  | inr there ↦ all q (read_before rs q (sym (ap (λ (b : Bool). b || list_any (λ x. q == x) (oids_read rs)) there.0) ∙ has))
])

module _ (laws : Laws) (zeros : (rows : Rows) (x : ℕ) → IsSound rows → TABLES ≤ x → rows x ≡ replicate ROW_WORDS 0 → reached rows x ≡ 0) (begun : NoneRuns)
    (stay : (w u : Work) (steps : List Step) → Extends w u → IsAnswered w steps → IsAnswered u steps)
    (v f : View) (whole script : List ScriptLine) (answers : List Answer) (closed : List Closed) (run : IsRunInPart v whole script answers closed f) where
  abbrev said : List Said
  said = places_of script answers closed

  goes_last : (seat : ℕ) (session : IsSession v seat) → Continues ((run.own seat session).last.session seat) (f.session seat)
  goes_last seat session = let part = run.own seat session in continues_itself (part.last.session seat) (f.session seat) (sym part.ends)

  none_first : (seat : ℕ) → IsSession v seat → (mades_in (v.session seat) ≡ 0) × (claims_in (v.session seat) ≡ 0)
  none_first seat session = (ap mades_in (run.opened.idle seat session), ap claims_in (run.opened.idle seat session))

  few_first : (seat : ℕ) → IsSession v seat → Few f nothing (v.session seat)
  few_first seat session = few_idle f (v.session seat) (run.opened.idle seat session)

  session_first : (q : ℕ) → 0 < q → q ≤ f.opening.sessions → IsSession v q
  session_first q above within = (above, omega (arith, within, ap (λ (o : world.Opening). o.sessions) run.opening))

  -- a session's own part
  seat_counts : (seat : ℕ) (session : IsSession v seat) → (mades_in (f.session seat) ≤ own_total makes_of seat said) × (claims_in (f.session seat) ≤ own_total claims_of seat said)
  seat_counts seat session =
      let part = run.own seat session in
      let range = lines_range script answers (map close_of closed) run.ranges (closes_range closed) in
      let all = run_counts laws begun stay f seat (still_session v f seat run.opening session) run.ends.serializable (all_moves script answers closed) nothing Idle v part.last part.run range
      (goes_last seat session) (at_first begun stay v f whole script answers closed run seat session) (few_first seat session) in
      let first = none_first seat session in
      let says = all_say script answers closed in (
        omega (arith, all.mades, first.0, ap (λ (s : Session). mades_in s) part.ends, ap (λ (list : List Said). own_total makes_of seat list) says),
        omega (arith, all.claims_are, first.1, ap (λ (s : Session). claims_in s) part.ends, ap (λ (list : List Said). own_total claims_of seat list) says),
      )

  -- THE OBJECTS that there may be: the tables' roots, those whose rows aren't zero in the opening, and those made.
  abbrev there_may_be : List ℕ
  there_may_be = (roots ++ filled f.opening.rows) ++ all_made f

  is_there : (x : ℕ) → MayBe f x → Has there_may_be x
  is_there x some = by_count (positive (reached f.opening.rows x))
    where
      positive : (n : ℕ) → (n ≡ 0) ⊎ (0 < n)
      positive zero = inl refl
      positive (suc n) = inr (omega arith)

      by_count : (reached f.opening.rows x ≡ 0) ⊎ (0 < reached f.opening.rows x) → Has ((roots ++ filled f.opening.rows) ++ all_made f) x
      by_count (inl none) = has_second (roots ++ filled f.opening.rows) (all_made f) x (has_made (all_made f) x (omega (arith, none, some, times_all f x)))
      by_count (inr more) = has_first (roots ++ filled f.opening.rows) (all_made f) x (has_reached zeros f.opening.rows x run.ends.serializable.opening_meets more)

  -- those made are no more than the script's lines may make
  mades_few : mades_by_all f ≤ total_of makes_of script
  mades_few =
      let most = mades_most f.opening.sessions f.session said (λ q above within. (seat_counts q (session_first q above within)).0) in
      omega (arith, most, counted_few makes_of f.opening.sessions script answers closed)

  -- A LINE of it that found no room.
  module _ (i : ℕ) (l : ScriptLine) (a : Answer) (at : slice_get script i ≡ Some l) (answered : slice_get answers i ≡ Some a) where
    session : IsSession v l.session
    session = run.named l (i, at)

    abbrev in_f : IsSession f l.session
    in_f = still_session v f l.session run.opening session

    abbrev there : LineCounts laws begun stay f l.session in_f run.ends.serializable script answers (all_moves script answers closed) nothing v (run.own l.session session).last i l a
    there = line_counts laws begun stay f l.session in_f run.ends.serializable script answers (map close_of closed) nothing Idle v (run.own l.session session).last i l a (run.own l.session session).run
        (lines_range script answers (map close_of closed) run.ranges (closes_range closed)) (λ k j found. run.ranges k (j, found)) (goes_last l.session session)
        (at_first begun stay v f whole script answers closed run l.session session) (few_first l.session session) refl at answered

    module _ (why : RowStop) (stays : ends why ≡ false) (stopping : IsStop a) (is : stop_in a ≡ Some why) where
      here : Stopped f l.session l.command a there.before there.after
      here = stopped f l a there.before there.after stopping there.did

      room : NoRoom laws f l.session in_f run.ends.serializable l.command (run.ranges l (i, at)) why there.before there.after
      room =
          let cut = cut_by f l.session l.command a why here.did.at there.after is (once_cut f l.session l.command a here.did.at there.after stopping here.did.once) in
          let r = there.run here.active in
          no_room laws f l.session in_f run.ends.serializable l.command (run.ranges l (i, at)) why stays here.did.times there.before here.did.at there.after here.active here.did.tried cut r.0 r.1 there.goes

      -- so its session has claimed fewer than its lines may, or made fewer
      claims_less : (oid : ℕ) → room.asked ≡ asked_claim oid → claims_by_all f + 1 ≤ total_of claims_of script
      claims_less oid asks =
          let less = room.less_claims oid asks in
          let part = run.own l.session session in
          let own : claims_in (f.session l.session) + 1 ≤ own_total claims_of l.session said =
          omega (
            arith,
            there.claims,
            room.moved.claims,
            less,
            ap (λ (s : Session). claims_in s) room.same,
            (none_first l.session session).1,
            ap (λ (s : Session). claims_in s) part.ends,
            ap (λ (list : List Said). own_total claims_of l.session list) (all_say script answers closed),
          ) in
          let fewer = claims_fewer f.opening.sessions l.session f.session said in_f.0 in_f.1 (λ q above within. (seat_counts q (session_first q above within)).1) own in
          omega (arith, fewer, counted_few claims_of f.opening.sessions script answers closed)

      mades_less : room.asked ≡ asked_make → mades_by_all f + 1 ≤ total_of makes_of script
      mades_less asks =
          let less = room.less_makes asks in
          let part = run.own l.session session in
          let own : mades_in (f.session l.session) + 1 ≤ own_total makes_of l.session said =
          omega (
            arith,
            there.mades,
            room.moved.mades,
            less,
            ap (λ (s : Session). mades_in s) room.same,
            (none_first l.session session).0,
            ap (λ (s : Session). mades_in s) part.ends,
            ap (λ (list : List Said). own_total makes_of l.session list) (all_say script answers closed),
          ) in
          let fewer = mades_fewer f.opening.sessions l.session f.session said in_f.0 in_f.1 (λ q above within. (seat_counts q (session_first q above within)).0) own in
          omega (arith, fewer, counted_few makes_of f.opening.sessions script answers closed)

    -- reads: of all objects, and of those that the own lines may read
    module _ (stopping : IsStop a) (is : stop_in a ≡ Some stop.ReadsFull) where
      abbrev no_more : NoRoom laws f l.session in_f run.ends.serializable l.command (run.ranges l (i, at)) stop.ReadsFull there.before there.after
      no_more = room stop.ReadsFull refl stopping is

      abbrev read_now : List VersionRead
      read_now = (work_at no_more.at l.session).reads

      reads_apart : Apart (work_at (room stop.ReadsFull refl stopping is).at l.session).reads
      reads_apart = no_more.moved.now.apart there.few.apart

      reads_cause : READ_LIMIT < TABLES + count_rows v.opening.rows + total_of makes_of whole
      reads_cause =
          let what = reads_at l.session no_more.asked no_more.at there.after no_more.refused in
          let most : length read_now + 1 ≤ length there_may_be =
          asked_few read_now what.0 there_may_be reads_apart what.2 (is_there what.0 (no_more.may_be what.0 what.1))
          (λ x read. elim (no_more.moved.reads x read) as (λ _. Has there_may_be x) [ inl before ↦ is_there x (there.few.known x before) | inr new ↦ is_there x new ]) in
          let parts = length-append (roots ++ filled f.opening.rows) (all_made f) in
          let front = length-append roots (filled f.opening.rows) in
          let rows : count_rows f.opening.rows ≡ count_rows v.opening.rows = ap (λ (o : world.Opening). count_rows o.rows) run.opening in
          omega (arith, most, what.3, parts, front, length_roots, length_filled f.opening.rows, length_all f, mades_few, rows, run.counts makes_of)

      own_reads : (u : Transaction) → (progress_of l.session (take i (said_of script answers))).current ≡ Some u → READ_LIMIT < may_read (with_line (Some l.command) a u)
      own_reads u current =
          let stops = here stop.ReadsFull refl stopping is in
          let what = reads_at l.session no_more.asked no_more.at there.after no_more.refused in
          let counts = reads_line l.command a u in
          let old = (work_at there.before l.session).reads in
          elim (there.few.reads u current) as (λ _. READ_LIMIT < may_read (with_line (Some l.command) a u)) [
            | inr many ↦ omega (arith, many, counts)
            | inl few ↦ elim (named_kind l.command stops.table stops.names) as (λ _. READ_LIMIT < may_read (with_line (Some l.command) a u)) [
              | inr walks ↦ omega (arith, walks, counts)
              | inl seeks ↦
                  let looked = no_more.looked seeks in
                  let ys = oids_read old ++ looked.looked.more in
                  let most : length read_now + 1 ≤ length ys =
                  asked_few read_now what.0 ys reads_apart what.2 (has_second (oids_read old) looked.looked.more what.0 (looked.asks what.0 what.1))
                  (λ x read. elim (looked.looked.reads x read) as (λ _. Has ys x) [
                    | inl before ↦ has_first (oids_read old) looked.looked.more x (has_read old x before)
                    | inr new ↦ has_second (oids_read old) looked.looked.more x new
                  ]) in
                  let parts = length-append (oids_read old) looked.looked.more in
                  let same = length-map old (λ (r : VersionRead). r.oid) in
                  omega (arith, most, what.3, parts, same, few, looked.looked.few, counts)
            ]
          ]

    -- claims
    writes_cause : (stopping : IsStop a) → stop_in a ≡ Some stop.WritesFull → (u : Transaction) → (progress_of l.session (take i (said_of script answers))).current ≡ Some u
        → WRITE_LIMIT < may_claim (with_line (Some l.command) a u)
    writes_cause stopping is u current =
        let r = room stop.WritesFull refl stopping is in
        let what = writes_at l.session r.asked r.at there.after r.refused in
        let less = r.less_claims what.0 what.1 in
        let counts = claims_line l.command a u (omega (arith, less)) in
        omega (arith, what.2, r.moved.now.claimed, less, there.few.claims u current, counts)

    -- cells
    cells_cause : (drawn : ℕ) (stopping : IsStop a) → stop_in a ≡ Some (stop.CellsFull drawn) → IsJustAbove v.opening.cells drawn × (v.opening.cells < OID_LIMIT + total_of claims_of whole)
    cells_cause drawn stopping is =
        let r = room (stop.CellsFull drawn) refl stopping is in
        let what = cells_at f l.session drawn r.asked r.at there.after r.refused r.met in
        let cells : f.opening.cells ≡ v.opening.cells = ap (λ (o : world.Opening). o.cells) run.opening in
        (subst (λ (limit : ℕ). IsJustAbove limit drawn) cells what.2, omega (arith, cells, what.3, claims_less (stop.CellsFull drawn) refl stopping is what.0 what.1, run.counts claims_of))

    -- objects
    oids_cause : (drawn : ℕ) (stopping : IsStop a) → stop_in a ≡ Some (stop.OidsFull drawn) → IsJustAbove OID_LIMIT drawn × (OID_LIMIT < v.opening.first + total_of makes_of whole)
    oids_cause drawn stopping is =
        let r = room (stop.OidsFull drawn) refl stopping is in
        let what = oids_at f l.session drawn r.asked r.at there.after r.refused r.met in
        let first : f.opening.first ≡ v.opening.first = ap (λ (o : world.Opening). o.first) run.opening in
        let most : OID_LIMIT ≤ v.opening.first + length (all_made f) =
        made_few v.opening.first OID_LIMIT (all_made f)
        (λ q above below. has_made (all_made f) q (let some = what.2 q (omega (arith, first, above)) below in omega (arith, some, times_all f q))) in
        (what.1, omega (arith, most, length_all f, mades_less (stop.OidsFull drawn) refl stopping is what.0, run.counts makes_of))

  -- cells are full at their number
  pub cells_full : (drawn : ℕ) → answer.CellsFull drawn ∈ answers → length answers ≤ length script → IsCounted v.opening.cells v.opening.cells drawn × (v.opening.cells < OID_LIMIT + total_of claims_of whole)
  cells_full drawn (i, answered) many =
      let line = line_there script answers many i (answer.CellsFull drawn) answered in
      let most = cells_cause i line.0 (answer.CellsFull drawn) line.1 answered drawn tt refl in
      ((most.0.0, omega (arith, most.0.1)), most.1)

  -- EACH SUCH ANSWER
  pub for_room : (opening : Opening) → IsOpeningOf v opening → (i : ℕ) (l : ScriptLine) (a : Answer) → slice_get script i ≡ Some l → slice_get answers i ≡ Some a → IsFull a
      → (t : Transaction) → IsOwn (moment_in opening whole script answers (transactions_of v.opening.sessions said) i l) l.command a t
      → HasRefusalCause (moment_in opening whole script answers (transactions_of v.opening.sessions said) i l) l.command t a
  for_room opening of i l answer.ReadsFull at answered full t own =
      let most = reads_cause i l answer.ReadsFull at answered tt refl in
      let own_most = own_reads i l answer.ReadsFull at answered tt refl own.0 own.1 in
      (omega (arith, most, of.rows), omega (arith, own_most, ap may_read own.2))
  for_room opening of i l answer.WritesFull at answered full t own =
      let most = writes_cause i l answer.WritesFull at answered tt refl own.0 own.1 in
      omega (arith, most, ap may_claim own.2)
  for_room opening of i l (answer.CellsFull drawn) at answered full t own =
      let most = cells_cause i l (answer.CellsFull drawn) at answered drawn tt refl in
      ((omega (arith, most.0.0, of.cells.0), omega (arith, most.0.1, of.cells.1)), omega (arith, most.1, of.cells.0))
  for_room opening of i l (answer.OidsFull drawn) at answered full t own =
      let most = oids_cause i l (answer.OidsFull drawn) at answered drawn tt refl in
      (most.0, omega (arith, most.1, of.first))
  for_room opening of i l a at answered full t own = absurd full
