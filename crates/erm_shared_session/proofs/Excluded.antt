-- A claim of a session of the word table after which its window was closed: by whose commits, in each world in which all may end.
use Rattle.std.proofs.Common.{◌≡◌, ℕ, ◌^◌, ◌<◌, ◌⊎◌, List, [], ◌∷◌, ◌++◌, Some, sym, ap, ◌∙◌, subst, arith, lt_of_lt_of_le}
use Rattle.erm_model.specs.declared.history.TransactionRecord.{TransactionRecord}
use Rattle.erm_model.specs.declared.row_stop.RowStop.TheVariants as stop
use Rattle.erm_model.specs.History.{OverwritesFrom, OverwritesReadOf, ReadsFrom}
use Rattle.erm_model.specs.Member.{◌∈◌}
use Rattle.erm_model.specs.RowTransaction.{Law}
use Rattle.erm_machine.specs.declared.part.Part.{Part}
use Rattle.erm_machine.specs.Core.{Core}
use Rattle.erm_machine.specs.Decided.{counted}
use Rattle.erm_machine.specs.Decided as machine
use Rattle.erm_cells.specs.Took.{IsEndStep}
use Rattle.erm_core_view.specs.Views.{work_of}
use Rattle.erm_rows.specs.Claims as rows
use Rattle.erm_rows.specs.Took.{IsClosedIn}
use Rattle.erm_rule.specs.declared.view.Book.{Book}
use Rattle.erm_rule.specs.Books.{IsAfter, IsBookOf}
use Rattle.erm_rule.specs.Views.{part_in, part_of}
use Rattle.erm_rule.proofs.Wents.{went_goes}
use Rattle.erm_beside.specs.Ends.{Aborted}
use Rattle.erm_session.specs.Took.{TookClaimStop}
use Rattle.erm_world.specs.Calls.{IsShut}
use Rattle.erm_world.specs.Works.{claiming}
use Rattle.erm_world.specs.World.{Finished, Session, View, Work}
use Rattle.erm_world.specs.World as world
use Rattle.erm_own_view.specs.Own.{EndsIn, own_view}
use Rattle.erm_own_view.proofs.Along.{of_later, was_before, was_itself}
use Rattle.erm_shared_session.proofs.Claiming as claiming_of
use Rattle.erm_shared_session.proofs.Claiming.{AtWork}
use Rattle.erm_shared_session.proofs.Meeting.{Shows, commit_met, counts_all, stamp_low}
use Rattle.erm_shared_session.proofs.Reading.{aborted_with, last_one, same_work}
use Rattle.erm_shared_session.proofs.Standing.{Rise}

module _ (law : Law) (shows : Shows) (seat tail flushed : ℕ) (b e : Book) (start : e.start ≡ b.start) (held : part_in b.view seat ≡ Some (part_of b.view seat)) (at : AtWork (part_of b.view seat)) (oid : ℕ) where
  abbrev next : View
  next = own_view seat tail flushed e

  module _ (succ pred : ℕ) (m : Book) (row : List ℕ) (did : rows.DidClaim b.view seat oid row m.view) (closed : IsClosedIn m.view seat succ pred) (since : IsAfter m e) where
    abbrev part : Part
    part = claiming_of.grown seat tail flushed b e start held at oid row m.view did

    abbrev work : Work
    work = claiming (claiming_of.version seat tail flushed b e start held at oid row m.view did) (claiming_of.work seat tail flushed b e start held at)

    work_is : work_of part.current ≡ work
    work_is = (claiming_of.grown_leaves seat tail flushed b e start held at oid row m.view did).work_is

    seat_there : (c : Core) → IsBookOf m c → c.seats seat ≡ part
    seat_there c is =
        let grown_is = claiming_of.grown_is seat tail flushed b e start held at oid row m.view did in
        is.is_view seat (part_of m.view seat) (claiming_of.held_then seat tail flushed b e start held at m.view part grown_is at.active) ∙ grown_is

    abbrev Over : TransactionRecord → Type 0
    Over u = OverwritesReadOf u (world.record_of seat work 0 0 0) × (succ ≡ u.succ)

    abbrev Before : TransactionRecord → Type 0
    Before u =
        (pred ≡ u.stamp)
        × (ReadsFrom (world.record_of seat work 0 0 0) u ⊎ OverwritesFrom (world.record_of seat work 0 0 0) u ⊎ OverwritesReadOf (world.record_of seat work 0 0 0) u)

    over_in : (c : Core) → IsBookOf m c → (u : TransactionRecord) × (u ∈ machine.history_of c.seats) × Over u
    over_in c is =
        let o = (closed c is.sound is.is_view).overwriter in
        let there : OverwritesReadOf o.0 (world.record_of seat (work_of part.current) 0 0 0) =
        subst (λ (p : Part). OverwritesReadOf o.0 (machine.record_of seat p.current)) (seat_there c is) o.2
        in
        (o.0, o.1, (subst (λ (w : Work). OverwritesReadOf o.0 (world.record_of seat w 0 0 0)) work_is there, o.3))

    before_in : (c : Core) → IsBookOf m c → (u : TransactionRecord) × (u ∈ machine.history_of c.seats) × Before u
    before_in c is =
        let o = (closed c is.sound is.is_view).predecessor in
        let counts = counts_all seat part.current o.0
        (subst
        (λ (p : Part). ReadsFrom (machine.record_of seat (counted p.current)) o.0 ⊎ OverwritesFrom (machine.record_of seat (counted p.current)) o.0 ⊎ OverwritesReadOf (machine.record_of seat (counted p.current)) o.0)
        (seat_there c is) o.3)
        in (
          o.0,
          o.1,
          (
            o.2,
            subst (λ (w : Work). ReadsFrom (world.record_of seat w 0 0 0) o.0 ⊎ OverwritesFrom (world.record_of seat w 0 0 0) o.0 ⊎ OverwritesReadOf (world.record_of seat w 0 0 0) o.0) work_is counts,
          ),
        )

    pub shut : (f : View) (v : View) → EndsIn law seat e v f → IsShut f seat work succ pred
    shut f v end =
        let over = commit_met law seat m e v f since end shows Over over_in in
        let before = commit_met law seat m e v f since end shows Before before_in in
        record {
          over = over.0;
          over_committed = over.1;
          overwrites = over.2.0;
          succ_is = sym over.2.1;
          before = before.0;
          before_committed = before.1;
          counts = before.2.1;
          pred_is = sym before.2.0;
          closed = (closed did.known.core did.known.sound did.known.is_view).closed;
        }

    pub pred_below : Rise → (c : Core) → IsBookOf e c → pred < c.shared.tail
    pred_below rises c is =
        of_later (λ (d : Core). pred < d.shared.tail) (λ d z passes low. lt_of_lt_of_le low (rises d z passes.1.0 passes.1.1 passes.0 passes.1.2).tail) m c
        (λ d of. let o = before_in d of in let low = stamp_low d o.0 of.sound o.1 in let at_is = o.2.0 in omega (arith, low, at_is)) (was_before m e c since (was_itself e c is))

  module _ (succ pred : ℕ) (took : TookClaimStop law seat oid (stop.Excluded succ pred) b e) where
    abbrev m : Book
    m = took.between

    abbrev did : rows.DidClaim b.view seat oid took.refused.1.row m.view
    did = took.refused.1.claim

    since : IsAfter m e
    since = went_goes law seat IsEndStep m e took.ends

    pub shut_met : (v f : View) → EndsIn law seat e v f → (w : Work) → Aborted next seat w → IsShut f seat w succ pred
    shut_met v f end w was =
        let own = claiming_of.own seat tail flushed b e start held at in
        let w1 = work succ pred m took.refused.1.row did took.refused.0.2 since in
        let done = claiming_of.done_now seat tail flushed b e start held at (claiming_of.grown seat tail flushed b e start held at oid took.refused.1.row m.view did) w1 m.view
        (claiming_of.grown_leaves seat tail flushed b e start held at oid took.refused.1.row m.view did) (claiming_of.grown_is seat tail flushed b e start held at oid took.refused.1.row m.view did) took.aborted in
        let over : (next.session seat).over ≡ (own.session seat).over ++ aborted_with w1 ∷ [] = ap (λ (s : Session). s.over) done.own in
        subst (λ (x : Work). IsShut f seat x succ pred) (same_work w w1 (last_one was.0 (own.session seat).over (aborted_with w) (aborted_with w1) (sym was.1 ∙ over)))
        (shut succ pred m took.refused.1.row did took.refused.0.2 since f v end)

    pub shut_below : Rise → (c : Core) → IsBookOf e c → pred < c.shared.tail
    shut_below = pred_below succ pred m took.refused.1.row did took.refused.0.2 since

    pub shut_low : pred < 2 ^ 61
    shut_low =
        let c = did.known.core in
        let o = (took.refused.0.2 c did.known.sound did.known.is_view).predecessor in
        let low = stamp_low c o.0 did.known.sound o.1 in
        let is = o.2 in
        let below = did.known.sound.common.ranges.below in
        omega (arith, low, is, below)
