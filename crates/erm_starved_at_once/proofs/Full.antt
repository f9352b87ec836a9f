-- A line that was refused for want of claims, or of reads, shows that its transaction's own lines may have claimed, or read, so many.
use Rattle.std.proofs.Common.{◌≡◌, ℕ, ◌+◌, ◌<◌, ◌≤◌, ◌==◌, ◌||◌, Bool, true, false, List, [], ◌++◌, map, take, slice_get, length, Some, None, is_some, inl, inr, refl, sym, ap, ◌∙◌, subst, arith}
use Rattle.std.specs.List.{list_any}
use Rattle.std.proofs.lemmas.Bool.Decides.{eqb_tells}
use Rattle.std.proofs.lemmas.List.{length-append, length-map}
use Rattle.erm_model.specs.declared.history.VersionRead.{VersionRead}
use Rattle.erm_model.specs.declared.limits.TheConstants.{READ_LIMIT, WRITE_LIMIT}
use Rattle.erm_model.specs.declared.outcome.Phase.TheVariants.{Idle}
use Rattle.erm_model.specs.declared.row_stop.RowStop.{RowStop}
use Rattle.erm_model.specs.declared.row_stop.RowStop.TheVariants as stop
use Rattle.erm_model.specs.Member.{◌∈◌}
use Rattle.erm_model.specs.RowTransaction.{Asked, asked_claim, asked_make, asked_read, ends}
use Rattle.erm_model.specs.Run.{Step}
use Rattle.erm_node.specs.Sound.{sound_law}
use Rattle.erm_report.specs.declared.answer.Answer.{Answer}
use Rattle.erm_script.specs.declared.script.ScriptLine.{ScriptLine}
use Rattle.erm_script.specs.Script.{IsInRange}
use Rattle.erm_world.specs.Going.{Extends}
use Rattle.erm_world.specs.Laws.{IsSerializable}
use Rattle.erm_world.specs.Works.{row_read}
use Rattle.erm_world.specs.World.{IsSession, Session, View, Work, work_at, work_of}
use Rattle.erm_world.specs.World as world
use Rattle.erm_maps.specs.Runs.{IsAnswered}
use Rattle.erm_good_report.specs.Phases.{Closed}
use Rattle.erm_good_report.specs.Transactions.{Transaction, nothing, progress_of, said_of, with_line}
use Rattle.erm_lines.specs.Told.{Continues}
use Rattle.erm_lines.proofs.Keeping.{NoneRuns}
use Rattle.erm_beside.specs.Calls.{After, RefusedBeside}
use Rattle.erm_lines_at_once.specs.Executions.{IsOwnRun, all_moves}
use Rattle.erm_told_at_once.proofs.Runs.{close_of, first_known}
use Rattle.erm_causes.proofs.Runs.{lines_range}
use Rattle.erm_causes_at_once.proofs.Refused.{IsStop, Stopped, cut_by, once_cut, stop_in, stopped}
use Rattle.erm_causes_at_once.proofs.Touched.{closes_range}
use Rattle.erm_told_limits.proofs.Grown.{Apart}
use Rattle.erm_told_limits.proofs.Heard.{may_claim, may_read}
use Rattle.erm_told_limits.proofs.Holds.{Laws}
use Rattle.erm_told_limits.proofs.Limits.{claims_line}
use Rattle.erm_told_limits.proofs.Looks.{reads_line}
use Rattle.erm_told_limits.proofs.Pigeons.{Has, has_first, has_read, has_second, oids_read, read_before, read_few}
use Rattle.erm_limits_at_once.proofs.Chained.{few_idle}
use Rattle.erm_limits_at_once.proofs.Looked.{named_kind}
use Rattle.erm_limits_at_once.proofs.Placed.{LineCounts, line_counts}
use Rattle.erm_limits_at_once.proofs.Tried.{NoRoom, no_room}

-- WHAT A REFUSAL SAYS.
writes_at : (seat : ℕ) (asked : Asked) (at t : View) → After seat (RefusedBeside seat asked stop.WritesFull) at t → (oid : ℕ) × (asked ≡ asked_claim oid) × (length (work_at at seat).claims ≡ WRITE_LIMIT)
writes_at seat (asked_read oid) at t (u, passes, refused) = absurd refused
writes_at seat (asked_claim oid) at t (u, passes, refused) =
    (oid, refl, sym (ap (λ (s : Session). length (work_of s.stand).claims) passes.own) ∙ refused.2)
writes_at seat asked_make at t (u, passes, refused) = absurd refused

reads_at : (seat : ℕ) (asked : Asked) (at t : View) → After seat (RefusedBeside seat asked stop.ReadsFull) at t
    → (oid : ℕ) × (asked ≡ asked_read oid) × (row_read (work_at at seat).reads oid ≡ None) × (length (work_at at seat).reads ≡ READ_LIMIT)
reads_at seat (asked_read oid) at t (u, passes, refused) = (
  oid,
  refl,
  subst (λ (s : Session). row_read (work_of s.stand).reads oid ≡ None) passes.own refused.1.unread,
  sym (ap (λ (s : Session). length (work_of s.stand).reads) passes.own) ∙ refused.2,
)
reads_at seat (asked_claim oid) at t (u, passes, refused) = absurd refused
reads_at seat asked_make at t (u, passes, refused) = absurd refused

-- objects read, and one that was asked for and isn't read yet, are no more than a list that has them all
asked_few : (rs : List VersionRead) (oid : ℕ) (ys : List ℕ) → Apart rs → row_read rs oid ≡ None → Has ys oid → ((x : ℕ) → is_some (row_read rs x) ≡ true → Has ys x) → length rs + 1 ≤ length ys
asked_few rs oid ys apart none wanted all = read_few rs oid ys apart none (λ q has. elim (eqb_tells q oid) as (λ _. Has ys q) [
  | inl here ↦ subst (λ (x : ℕ). Has ys x) (sym here.1) wanted
  | inr there ↦ all q (read_before rs q (sym (ap (λ (b : Bool). b || list_any (λ x. q == x) (oids_read rs)) there.0) ∙ has))
])

-- A LINE of a session's own run, from a world just opened, that goes on to the one in which all end.
module _ (laws : Laws) (begun : NoneRuns)
    (stay : (w u : Work) (steps : List Step) → Extends w u → IsAnswered w steps → IsAnswered u steps) (v f : View) (script : List ScriptLine) (answers : List Answer) (closed : List Closed)
    (ranges : (k : ScriptLine) → k ∈ script → IsInRange k.command) (holds : IsSerializable sound_law f) (i : ℕ) (l : ScriptLine) (a : Answer) (at : slice_get script i ≡ Some l)
    (answered : slice_get answers i ≡ Some a) (session : IsSession f l.session) (idle : v.session l.session ≡ record { over = []; stand = world.idle }) (last : View)
    (run : IsOwnRun f l.session v (all_moves script answers closed) last) (goes : Continues (last.session l.session) (f.session l.session)) where
  abbrev there : LineCounts laws begun stay f l.session session holds script answers (all_moves script answers closed) nothing v last i l a
  there = line_counts laws begun stay f l.session session holds script answers (map close_of closed) nothing Idle v last i l a run
      (lines_range script answers (map close_of closed) ranges (closes_range closed)) (λ k j found. ranges k (j, found)) goes (first_known l.session v idle) (few_idle f (v.session l.session) idle) refl at answered

  module _ (why : RowStop) (stays : ends why ≡ false) (stopping : IsStop a) (is : stop_in a ≡ Some why) where
    here : Stopped f l.session l.command a there.before there.after
    here = stopped f l a there.before there.after stopping there.did

    room : NoRoom laws f l.session session holds l.command (ranges l (i, at)) why there.before there.after
    room =
        let cut = cut_by f l.session l.command a why here.did.at there.after is (once_cut f l.session l.command a here.did.at there.after stopping here.did.once) in
        let r = there.run here.active in
        no_room laws f l.session session holds l.command (ranges l (i, at)) why stays here.did.times there.before here.did.at there.after here.active here.did.tried cut r.0 r.1 there.goes

  -- claims
  pub own_claims : (stopping : IsStop a) → stop_in a ≡ Some stop.WritesFull → (u : Transaction) → (progress_of l.session (take i (said_of script answers))).current ≡ Some u
      → WRITE_LIMIT < may_claim (with_line (Some l.command) a u)
  own_claims stopping is u current =
      let r = room stop.WritesFull refl stopping is in
      let what = writes_at l.session r.asked r.at there.after r.refused in
      let less = r.less_claims what.0 what.1 in
      let counts = claims_line l.command a u (omega (arith, less)) in
      omega (arith, what.2, r.moved.now.claimed, less, there.few.claims u current, counts)

  -- reads
  pub own_reads : (stopping : IsStop a) → stop_in a ≡ Some stop.ReadsFull → (u : Transaction) → (progress_of l.session (take i (said_of script answers))).current ≡ Some u
      → READ_LIMIT < may_read (with_line (Some l.command) a u)
  own_reads stopping is u current =
      let stops = here stop.ReadsFull refl stopping is in
      let r = room stop.ReadsFull refl stopping is in
      let now = (work_at r.at l.session).reads in
      let what = reads_at l.session r.asked r.at there.after r.refused in
      let apart : Apart now = r.moved.now.apart there.few.apart in
      let counts = reads_line l.command a u in
      let old = (work_at there.before l.session).reads in
      elim (there.few.reads u current) as (λ _. READ_LIMIT < may_read (with_line (Some l.command) a u)) [
        | inr many ↦ omega (arith, many, counts)
        | inl few ↦ elim (named_kind l.command stops.table stops.names) as (λ _. READ_LIMIT < may_read (with_line (Some l.command) a u)) [
          | inr walks ↦ omega (arith, walks, counts)
          | inl seeks ↦
              let looked = r.looked seeks in
              let ys = oids_read old ++ looked.looked.more in
              let most : length now + 1 ≤ length ys =
              asked_few now what.0 ys apart what.2 (has_second (oids_read old) looked.looked.more what.0 (looked.asks what.0 what.1))
              (λ x read. elim (looked.looked.reads x read) as (λ _. Has ys x) [
                | inl before ↦ has_first (oids_read old) looked.looked.more x (has_read old x before)
                | inr new ↦ has_second (oids_read old) looked.looked.more x new
              ]) in
              let parts = length-append (oids_read old) looked.looked.more in
              let same = length-map old (λ (x : VersionRead). x.oid) in
              omega (arith, most, what.3, parts, same, few, looked.looked.few, counts)
        ]
      ]
