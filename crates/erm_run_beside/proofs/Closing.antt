-- The last turns of a desk, whose pass has taken in all others, and the close.
use Rattle.std.proofs.Common.{◌≡◌, ℕ, false, List, Option, Some, None, Err, unwrap_or, inl, inr, refl, sym, ap, ◌∙◌, subst}
use Rattle.erm_cells.specs.Calls.{starts_anew}
use Rattle.erm_flush.specs.declared.stops.FlushStop.{FlushStop}
use Rattle.erm_flush.specs.declared.stops.FlushStop.TheVariants as stop
use Rattle.erm_gathered.proofs.Lasting.{BlocksStay}
use Rattle.erm_machine.specs.declared.limits.TheConstants.{FLUSH_SEAT}
use Rattle.erm_machine.specs.declared.part.Part.{Part}
use Rattle.erm_machine.specs.declared.place.Place.TheVariants.{Vacant}
use Rattle.erm_machine.specs.Core.{fresh_part}
use Rattle.erm_machine.specs.Seat.{is_active, saw}
use Rattle.erm_model.specs.RowTransaction.{Law}
use Rattle.erm_outside.specs.Disk.{Step}
use Rattle.erm_ring.specs.Turns.{MayGather}
use Rattle.erm_ring.proofs.Gathering.{has_part}
use Rattle.erm_rule.specs.declared.rule.Table.{Table}
use Rattle.erm_rule.specs.declared.view.Book.{Book}
use Rattle.erm_rule.specs.declared.view.Opening.{Opening}
use Rattle.erm_rule.specs.declared.view.Start.{Start}
use Rattle.erm_rule.specs.declared.view.View.{View}
use Rattle.erm_rule.specs.Openings.{start_of}
use Rattle.erm_rule.specs.Views.{EachOnce, part_in, part_of}
use Rattle.erm_shared_session.specs.declared.session.TableSession.{TableSession}
use Rattle.erm_desk.specs.All.{TurnsAll}
use Rattle.erm_desk.specs.Desk.{IsDesk, PinStays, Sees, TakesIn, TurnsTo}
use Rattle.erm_engine.specs.Closed.{AreJoined, HaveClosed}
use Rattle.erm_engine.specs.Taken.{HasTaken}
use Rattle.erm_engine.proofs.Flushed.{NoneSealed, all_flushed}
use Rattle.erm_engine.proofs.Seats.{joined_after, took_keeps}
use Rattle.erm_engine.proofs.Taken.{gathers_stay}
use Rattle.erm_run_beside.specs.Closing.{ClosesDesk}

-- THE PIN. The flush seat is as it was, but for what it has seen.
flush_is : (v w : View) → MayGather v → ((q : ℕ) (x : Part) → part_in v q ≡ Some x → (seen : ℕ) × (part_in w q ≡ Some (saw seen x)))
    → (seen : ℕ) × (part_of w FLUSH_SEAT ≡ saw seen (part_of v FLUSH_SEAT))
flush_is v w may stay =
    let now = stay FLUSH_SEAT (part_of v FLUSH_SEAT) (has_part v may.held) in
    (now.0, ap (λ (o : Option Part). unwrap_or o (fresh_part Vacant 0 0)) now.1)

pin_stays : (b e : Book) (seen : ℕ) → part_of e.view FLUSH_SEAT ≡ saw seen (part_of b.view FLUSH_SEAT) → PinStays b e
pin_stays b e seen is None pin = ap (λ (x : Part). x.place) is ∙ pin
pin_stays b e seen is (Some place) pin = (
  record {
    active = ap (λ (x : Part). is_active x.place) is ∙ pin.0.active;
    reads = ap (λ (x : Part). x.current.reads) is ∙ pin.0.reads;
    writes = ap (λ (x : Part). x.current.writes) is ∙ pin.0.writes;
    starts = ap (λ (x : Part). starts_anew x.task) is ∙ pin.0.starts;
  },
  ap (λ (x : Part). x.current.begin) is ∙ pin.1,
)

pub takes_in : (ms : List Book) (b e : Book) → MayGather b.view → HasTaken ms b e → TakesIn b e
takes_in ms b e may taken =
    let flush = flush_is b.view e.view may taken.parts in
    record {
      start = taken.start;
      goes = taken.goes;
      gathers = gathers_stay b.view e.view taken.parts may;
      joins = taken.joins;
      pin = pin_stays b e flush.0 flush.1;
      flushed = taken.flushed may;
    }

-- ALL IS FLUSHED where the last turn flushed nothing, and the disk hasn't failed.
last_flushed : BlocksStay → {L : Type 0} (law : Law) (t : Table L) (o : Opening) (start : Start) (ss : List (TableSession L)) (cause : FlushStop) (b e : Sees) (tail : ℕ) (closed : HaveClosed law o ss e.book tail)
    → AreJoined law t ss b.book → AreJoined law t ss e.book → EachOnce b.book.view.held → TurnsTo law start (Err cause) b e → e.failed ≡ false → NoneSealed closed.ended.core
    → closed.ended.core.shared.flushed ≡ closed.ended.core.shared.tail
last_flushed stay law t o start ss (stop.Empty at) b e tail closed joined too once did fine unsealed =
    all_flushed stay law t o ss b.book e.book tail closed joined too once unsealed at at (did.3.began closed.ended.core closed.is) (inl refl)
last_flushed stay law t o start ss (stop.Unfilled at) b e tail closed joined too once did fine unsealed =
    let looks = did.3 in
    all_flushed stay law t o ss b.book e.book tail closed joined too once unsealed at looks.0 (looks.2.began closed.ended.core closed.is) (inr (looks.1, did.4 closed.ended.core closed.is))
last_flushed stay law t o start ss stop.DiskFault b e tail closed joined too once did fine unsealed = let failed = did.1 in absurd (cc)
last_flushed stay law t o start ss stop.Failed b e tail closed joined too once did fine unsealed =
    let had = did.0 in
    let same : e.failed ≡ b.failed = ap (λ (s : Sees). s.failed) did.1 in
    absurd (cc)

pub turns_flush : BlocksStay → {L : Type 0} (law : Law) (t : Table L) (o : Opening) (start : Start) (ss : List (TableSession L)) (turns : ℕ) (cause : FlushStop) (b e : Sees) (tail : ℕ)
    (all : TurnsAll law start turns cause b e) (closed : HaveClosed law o ss e.book tail) → AreJoined law t ss b.book → e.failed ≡ false → NoneSealed closed.ended.core
    → closed.ended.core.shared.flushed ≡ closed.ended.core.shared.tail
turns_flush stay law t o start ss turns cause b e tail all closed joined fine unsealed =
    let first = took_keeps law all.before.0 b.book all.last.book all.before.1 in
    let then = took_keeps law all.behind.0 all.last.book e.book all.behind.1 in
    let mid = joined_after law t ss b.book all.last.book first joined in
    last_flushed stay law t o start ss cause all.last e tail closed mid (joined_after law t ss all.last.book e.book then mid) (then.once closed.once) all.stops fine unsealed

pub still_joined : {L : Type 0} (law : Law) (t : Table L) (start : Start) (ss : List (TableSession L)) (turns : ℕ) (cause : FlushStop) (b e : Sees) → TurnsAll law start turns cause b e → AreJoined law t ss b.book
    → AreJoined law t ss e.book
still_joined law t start ss turns cause b e all joined =
    let first = took_keeps law all.before.0 b.book all.last.book all.before.1 in
    let then = took_keeps law all.behind.0 all.last.book e.book all.behind.1 in
    joined_after law t ss all.last.book e.book then (joined_after law t ss b.book all.last.book first joined)

-- THE CLOSE, by the pass of the desk, behind its last turns
pub closes_desk : BlocksStay → {L : Type 0} (law : Law) (t : Table L) (o : Opening) (start : Start) (began : Option (List Step)) (first : ℕ) (ss : List (TableSession L)) (turns : ℕ) (cause : FlushStop) (b e : Sees) (tail : ℕ)
    → start_of o ≡ start → IsDesk law start began first e → TurnsAll law start turns cause b e → AreJoined law t ss b.book → HaveClosed law o ss e.book tail → ClosesDesk law o began first ss e.told e.faults e.failed
closes_desk stay law t o start began first ss turns cause b e tail same desk all joined closed = record {
  book = e.book;
  desk = subst (λ (s : Start). IsDesk law s began first e) (sym same) desk;
  tail = tail;
  ended = closed.ended;
  flushed = λ fine unsealed. turns_flush stay law t o start ss turns cause b e tail all closed joined fine (λ q some within sealed. unsealed q (some, within) sealed);
}
