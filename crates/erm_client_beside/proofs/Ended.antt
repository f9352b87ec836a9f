-- What programs did, once the table of their sessions is closed.
use Rattle.std.proofs.Common.{◌≡◌, ℕ, ◌+◌, Bool, true, false, List, Option, Some, None, refl, sym, ◌∙◌, subst, arith}
use Rattle.std.specs.List.{slice_get}
use Rattle.erm_client.proofs.Grown.{open_each}
use Rattle.erm_client.specs.declared.transcript.Standing.{Standing}
use Rattle.erm_client.specs.declared.transcript.Standing.TheVariants as standing
use Rattle.erm_client.specs.declared.transcript.Transcript.{Transcript}
use Rattle.erm_client_beside.specs.declared.ran.ProgramRun.{ProgramRun}
use Rattle.erm_client_beside.specs.Left.{AreLeft, IsLeft}
use Rattle.erm_client_beside.specs.Ran.{HaveRun, IsRun, RanBeside}
use Rattle.erm_engine.proofs.Joined.{at_within}
use Rattle.erm_engine.specs.Closed.{AllRest, AreDone}
use Rattle.erm_engine.specs.Ended.{HasEnded, world_of}
use Rattle.erm_engine.specs.Opened.{opened_view}
use Rattle.erm_model.specs.declared.outcome.Phase.TheVariants.{Active, Idle, Sealed}
use Rattle.erm_model.specs.RowTransaction.{Law}
use Rattle.erm_outside.specs.Disk.{Step}
use Rattle.erm_report.specs.declared.answer.Answer.{Answer}
use Rattle.erm_rule.specs.Books.{book}
use Rattle.erm_rule.specs.declared.rule.Table.{Table}
use Rattle.erm_rule.specs.declared.view.Opening.{Opening}
use Rattle.erm_rule.specs.Openings.{start_of}
use Rattle.erm_run_beside.proofs.Ends.{ends_so}
use Rattle.erm_run_beside.proofs.Failed.{not_both}
use Rattle.erm_run_beside.specs.Closing.{ClosesDesk}
use Rattle.erm_shared_session.specs.declared.session.TableSession.{TableSession}
use Rattle.erm_shared_session.specs.Stands.{own_of, seat_of}
use Rattle.erm_threads.proofs.Closed.{closed_idle}
use Rattle.erm_threads.proofs.Jobs.{there_is}
use Rattle.erm_threads.specs.Work.{DidWork}
use Rattle.erm_world.specs.Laws.{IsSerializable}
use Rattle.erm_world.specs.World.{View, phase_at}

module _ {L P : Type 0} (law : Law) (table : Table L) (o : Opening) (promises : P → P → Transcript → Type 0) (so : Type 0) where
  -- ALL SESSIONS may be closed
  module _ (programs : List P) (ss : List (TableSession L)) (rs : List (ProgramRun P)) (are : AreLeft law table o promises so programs ss rs) where
    at_place : (k : ℕ) (s : TableSession L) → slice_get ss k ≡ Some s → (p : P) × (r : ProgramRun P) × IsLeft law table o promises so (k + 1) p s r
    at_place k s at =
        let less = there_is ss k s at in
        let many = are.many in
        let as_many = are.as_many in
        let p = at_within programs k (omega (arith, less, many)) in
        let r = at_within rs k (omega (arith, less, many, as_many)) in
        (p.0, r.0, are.each k p.0 s r.0 p.1 at r.1)

    pub all_done : AreDone law table ss
    all_done k s at = let is = (at_place k s at).2 in (is.stands, is.seat_is)

    pub all_rest : AllRest ss
    all_rest k s at active = let is = (at_place k s at).2 in is.rests (subst (λ (q : ℕ). phase_at (own_of s) q ≡ Active) is.seat_is active)

  -- ONE PROGRAM at the end
  module _ (failed : Bool) (why : so → failed ≡ true) where
    is_open : (seat : ℕ) (p : P) (s : TableSession L) (r : ProgramRun P) → IsLeft law table o promises so seat p s r → failed ≡ false → (r.transcript.standing ≡ standing.Starved → ⊥)
        → (now : Standing) → r.transcript.standing ≡ now → r.transcript.standing ≡ standing.Open
    is_open seat p s r is sound had standing.Open now = now
    is_open seat p s r is sound had standing.Stopped now = absurd (not_both failed (why (is.stops now)) sound)
    is_open seat p s r is sound had standing.Starved now = absurd (had now)

    is_decided : (seat : ℕ) (p : P) (s : TableSession L) (r : ProgramRun P) (f : View) (closed : Option Answer) → r.closed ≡ closed → IsLeft law table o promises so seat p s r → failed ≡ false
        → r.transcript.standing ≡ standing.Open
        → DidWork f seat r.transcript.lines.items r.transcript.answers.items closed (opened_view (start_of o)) (own_of s) → phase_at (own_of s) seat ≡ Sealed → ⊥
    is_decided seat p s r f None at is sound opened did sealed = not_both failed (why (is.waits opened at sealed)) sound
    is_decided seat p s r f (Some a) at is sound opened did sealed =
        let idle = closed_idle f seat r.transcript.lines.items r.transcript.answers.items a (opened_view (start_of o)) (own_of s) did (open_each r.transcript is.transcript_ok opened) in
        let same : Sealed ≡ Idle = sym sealed ∙ idle in
        cc

    pub one_run : (seat : ℕ) (p : P) (s : TableSession L) (r : ProgramRun P) (f : View) → IsLeft law table o promises so seat p s r → HasEnded law (seat_of s) (book s.pass) (own_of s) f
        → IsRun promises failed f seat (opened_view (start_of o)) p r
    one_run seat p s r f is e =
        let here = subst (λ (q : ℕ). HasEnded law q (book s.pass) (own_of s) f) is.seat_is e in
        let ends = ends_so law s f e in
        record {
          place = is.place;
          transcript_ok = is.transcript_ok;
          promised = is.promised;
          last = own_of s;
          at_end = record { own = sym here.session; given_up = sym here.given_up; tail = here.tail; flushed = here.flushed };
          rests = is.rests;
          did = λ some. is.did some f ends;
          starved = λ lacked. is.starved lacked f ends;
          stopped = λ sound was. not_both failed (why (is.stops was)) sound;
          whole = λ sound had.
              let opened = is_open seat p s r is sound had r.transcript.standing refl in
              (opened, is_decided seat p s r f r.closed refl is sound opened (is.did had f ends));
        }

    -- and all
    pub have_run : (began : Option (List Step)) (first : ℕ) (told : Option (List Step)) (faults : ℕ) (programs : List P) (ss : List (TableSession L)) (rs : List (ProgramRun P))
        → (closes : ClosesDesk law o began first ss told faults failed) → AreLeft law table o promises so programs ss rs → HaveRun promises law o failed closes.book programs rs
    have_run began first told faults programs ss rs closes are =
        let end = closes.ended in
        let f = world_of end.core in
        record {
          core = end.core;
          tail = closes.tail;
          closed = end.closed;
          each = record {
            many = are.as_many;
            each = λ k p r at_p at_r.
                let less = there_is programs k p at_p in
                let many = are.many in
                let s = at_within ss k (omega (arith, less, many)) in
                one_run (k + 1) p s.0 r f (are.each k p s.0 r at_p s.1 at_r) (end.each k s.0 s.1);
          };
          flushed = closes.flushed;
          others = λ seat above within. end.others seat (let many = are.many in let as_many = are.as_many in omega (arith, above, many, as_many)) within;
        }

    -- so the desk's disk is that of programs that ran
    pub ran_beside : (began : Option (List Step)) (first : ℕ) (told : Option (List Step)) (faults : ℕ) (programs : List P) (ss : List (TableSession L)) (rs : List (ProgramRun P))
        → IsSerializable law (opened_view (start_of o)) → ClosesDesk law o began first ss told faults failed → AreLeft law table o promises so programs ss rs
        → RanBeside promises law o began first programs told faults failed rs
    ran_beside began first told faults programs ss rs begins closes are =
        record { begins = begins; book = closes.book; desk = closes.desk; have_run = have_run began first told faults programs ss rs closes are }
