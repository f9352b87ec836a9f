-- A read of a session of the word table, beside others.
use Rattle.std.proofs.Common.{◌≡◌, ℕ, ◌+◌, ◌^◌, ◌≤◌, ◌<◌, ◌⊎◌, true, false, eqb, List, [], ◌∷◌, ◌++◌, append-nil, length, get_or, map, Some, None, Result, Ok, Err, IfOk, IfErr, refl, sym, ap, ◌∙◌, subst, arith, lt_of_lt_of_le}
use Rattle.std.specs.Prelude.{max}
use Rattle.std.proofs.lemmas.List.{length-append, length-map, map-append}
use Rattle.std.proofs.Math.Seq.{get_or-append_seam}
use Rattle.erm_model.specs.declared.history.TransactionRecord.{TransactionRecord}
use Rattle.erm_model.specs.declared.history.VersionRead.{VersionRead}
use Rattle.erm_model.specs.declared.limits.TheConstants.{READ_LIMIT}
use Rattle.erm_model.specs.declared.outcome.Phase.TheVariants as phase
use Rattle.erm_model.specs.declared.row_stop.RowStop.{RowStop}
use Rattle.erm_model.specs.declared.row_stop.RowStop.TheVariants as stop
use Rattle.erm_model.specs.History.{OverwritesFrom, OverwritesReadOf, ReadsFrom}
use Rattle.erm_model.specs.Member.{◌∈◌}
use Rattle.erm_model.specs.RowTransaction.{Law, asked_read}
use Rattle.erm_machine.specs.declared.attempt.Attempt.{Attempt}
use Rattle.erm_machine.specs.declared.attempt.Decision.TheVariants.{Abort}
use Rattle.erm_machine.specs.declared.attempt.Read.{Read}
use Rattle.erm_machine.specs.declared.event.Kind.{Kind}
use Rattle.erm_machine.specs.declared.part.Part.{Part}
use Rattle.erm_machine.specs.declared.task.Task.TheVariants as task
use Rattle.erm_machine.specs.declared.version.Cell.{Cell}
use Rattle.erm_machine.specs.Core.{Core, no_claim}
use Rattle.erm_machine.specs.Decided.{counted, read_of}
use Rattle.erm_machine.specs.Decided as machine
use Rattle.erm_machine.specs.Seat.{is_active, with_pred, with_succ, with_task}
use Rattle.erm_machine.specs.Sound.{Own, Sound}
use Rattle.erm_machine.specs.Step.{after_event}
use Rattle.erm_machine.proofs.Guards.{either_way}
use Rattle.erm_core_stays.specs.Staying.{Rises}
use Rattle.erm_core_steps.proofs.Stored.{claimed_from}
use Rattle.erm_core_view.proofs.Calm.{plainly}
use Rattle.erm_core_view.proofs.Snapshots.{starts_plain}
use Rattle.erm_core_view.specs.Views.{finished_of, session_of, stand_of, work_of}
use Rattle.erm_core_view.proofs.Shown.{shows_work}
use Rattle.erm_ends.specs.Ends.{left_part, released_all}
use Rattle.erm_ends.specs.Ends as ends
use Rattle.erm_readers.specs.Calls.{rated, words_of}
use Rattle.erm_rows.specs.Reads as rows
use Rattle.erm_rows.specs.Reads.{read_part}
use Rattle.erm_rows.specs.Took.{IsClosedIn}
use Rattle.erm_cells.specs.Took.{IsEndStep}
use Rattle.erm_rule.specs.declared.view.Book.{Book}
use Rattle.erm_rule.specs.Books.{IsAfter, IsBookOf}
use Rattle.erm_rule.specs.Views.{part_in, part_of}
use Rattle.erm_rule.proofs.Telling.{changed_here, part_of-changed}
use Rattle.erm_rule.proofs.Wents.{went_goes}
use Rattle.erm_session.specs.Calls.{HasClaimed, HasRead, IsUnclaimed, IsUnread, ReadsRow, RefusesRead}
use Rattle.erm_session.specs.Calls as session_calls
use Rattle.erm_session.specs.Took.{TookReadStop}
use Rattle.erm_session.proofs.Listed.{own_row_is, row_read_is, unclaimed, unread}
use Rattle.erm_beside.specs.Calls.{After, NotReadBeside}
use Rattle.erm_beside.specs.Ends.{MetBeside}
use Rattle.erm_beside.specs.Later.{IsLater}
use Rattle.erm_lone.proofs.Later.{world_goes, world_same}
use Rattle.erm_world.specs.Calls as calls
use Rattle.erm_world.specs.Calls.{DidRead, IsDone, IsNew, IsShut, Works}
use Rattle.erm_world.specs.Face.{Goes, works}
use Rattle.erm_world.specs.Face as face
use Rattle.erm_world.specs.Going.{Extends, found_by}
use Rattle.erm_world.specs.Works.{is_claimed, own_row, reading, row_read}
use Rattle.erm_world.specs.World.{Finished, Session, View, Work, phase_at, work_at}
use Rattle.erm_world.specs.World as world
use Rattle.erm_own_view.specs.Own.{EndsIn, MayCall, own_view}
use Rattle.erm_own_view.proofs.Along.{of_later, was_before, was_itself}
use Rattle.erm_own_view.proofs.Own.{own_becomes, own_is, own_passes, own_same}
use Rattle.erm_shared_session.specs.Seen.{IsLowStop, tail_met, tail_past}
use Rattle.erm_shared_session.proofs.Aborting.{aborted_given, aborted_shown, gone}
use Rattle.erm_shared_session.proofs.Meeting.{Shows, commit_met, counts_all, stamp_low}
use Rattle.erm_shared_session.proofs.Own as own_seat
use Rattle.erm_shared_session.proofs.Own.{in_way}
use Rattle.erm_shared_session.proofs.Standing.{IsSeen}
use Rattle.erm_core_shown.specs.Shown.{given_up_of}
use Rattle.erm_core_shown.proofs.Given.{given_by, given_stays}

-- what a version's words make of the running numbers doesn't show
rated_work : (words : Cell) (t : Attempt) → work_of (rated words t) ≡ work_of t
rated_work words t =
    either_way (λ (u : Attempt). work_of u ≡ work_of t) (eqb words.overwriter 0) t (with_succ words.overwriter_succ words.overwriter t) (λ _. refl) (λ _. refl)

rated_reads : (words : Cell) (t : Attempt) → (rated words t).reads ≡ t.reads
rated_reads words t =
    either_way (λ (u : Attempt). u.reads ≡ t.reads) (eqb words.overwriter 0) t (with_succ words.overwriter_succ words.overwriter t) (λ _. refl) (λ _. refl)

-- the transaction of a seat that has read a version
read_work : (r : Read) (words : Cell) (notes : List ℕ) (x : Part) → work_of (read_part r words notes x).current ≡ reading (read_of r) (work_of x.current)
read_work r words notes x =
    let more : map read_of (x.current.reads ++ r ∷ []) ≡ map read_of x.current.reads ++ read_of r ∷ [] = map-append read_of x.current.reads (r ∷ []) in
    rated_work words _ ∙ ap (λ (rs : List VersionRead). let w : Work = record (work_of x.current) { reads = rs } in w) more

-- and gives up nothing
read_given : (r : Read) (words : Cell) (notes : List ℕ) (x : Part) → given_up_of (read_part r words notes x) ≡ given_up_of x
read_given r words notes x =
    let t : Attempt = record (with_pred r.stamp x.current) { reads = x.current.reads ++ r ∷ [] } in
    given_stays x (read_part r words notes x) refl
    (either_way (λ (u : Attempt). given_by u ≡ given_by x.current) (eqb words.overwriter 0) t (with_succ words.overwriter_succ words.overwriter t) (λ _. refl) (λ _. refl))

read_shows : (r : Read) (words : Cell) (notes : List ℕ) (x : Part) → is_active x.place ≡ true → session_of (read_part r words notes x) ≡ record {
  over = map finished_of x.over;
  stand = world.active (reading (read_of r) (work_of x.current));
}
read_shows r words notes x active = (shows_work x (reading (read_of r) (work_of x.current)) (read_part r words notes x) refl active refl (read_work r words notes x)).shows

one_read : (r : VersionRead) (w : Work) → Extends w (reading r w)
one_read r w = record {
  number = refl;
  begin = refl;
  read = r ∷ [];
  reads = refl;
  claimed = [];
  claims = sym (append-nil (map found_by w.claims));
  more = [];
  made = sym (append-nil w.made);
}

-- the last of two lists that are one
pub last_one : (fs gs : List Finished) (f g : Finished) → fs ++ f ∷ [] ≡ gs ++ g ∷ [] → f ≡ g
last_one fs gs f g same =
    let long : length fs + 1 ≡ length gs + 1 = sym (length-append fs (f ∷ [])) ∙ ap (λ (l : List Finished). length l) same ∙ length-append gs (g ∷ []) in
    let here : length fs ≡ length gs = omega (arith, long) in
    sym (get_or-append_seam fs f [] g) ∙ ap (λ (l : List Finished). get_or l (length fs) g) same ∙ ap (λ (n : ℕ). get_or (gs ++ g ∷ []) n g) here ∙ get_or-append_seam gs g [] g

abbrev pub aborted_with : Work → Finished
aborted_with w = record { work = w; fate = world.aborts }

pub same_work : (w v : Work) → aborted_with w ≡ aborted_with v → v ≡ w
same_work w v same = sym (ap (λ (f : Finished). f.work) same)

module _ (law : Law) (seat tail flushed : ℕ) (b : Book) (may : MayCall law seat tail flushed b) (held : part_in b.view seat ≡ Some (part_of b.view seat))
    (active : phase_at (own_view seat tail flushed b) seat ≡ phase.Active) (oid : ℕ) where
  abbrev x : Part
  x = part_of b.view seat

  abbrev own : View
  own = own_view seat tail flushed b

  abbrev w0 : Work
  w0 = work_at own seat

  work : w0 ≡ work_of x.current
  work = own_seat.own_work law seat tail flushed b may active

  at_work : is_active x.place ≡ true
  at_work = own_seat.own_place law seat tail flushed b may active

  facts : Own may.core.shared seat x
  facts = own_seat.own law seat tail flushed b may

  is_unclaimed : IsUnclaimed x oid → is_claimed w0.claims oid ≡ false
  is_unclaimed none = ap (λ (w : Work). is_claimed w.claims oid) work ∙ unclaimed x.current.writes oid none

  is_unread : IsUnread x oid → row_read w0.reads oid ≡ None
  is_unread none = ap (λ (w : Work). row_read w.reads oid) work ∙ unread x.current.reads oid none

  is_new : IsUnclaimed x oid → IsUnread x oid → IsNew w0 oid
  is_new none not_read = record { unclaimed = is_unclaimed none; unread = is_unread not_read }

  reads_are : length w0.reads ≡ length x.current.reads
  reads_are = ap (λ (w : Work). length w.reads) work ∙ length-map x.current.reads read_of

  -- A READ that registers a version: there was room for it, and the session shows it
  record Registers (row : List ℕ) (m : Book) : Type 0 where
    read : VersionRead
    oid_is : read.oid ≡ oid
    is : read ≡ record { oid = oid; stamp = read.stamp; row = row }
    part : Part
    held_then : part_in m.view seat ≡ Some part
    part_is : part_of m.view seat ≡ part
    work_is : work_of part.current ≡ reading read w0
    given : given_up_of part ≡ given_up_of x
    few : length w0.reads < READ_LIMIT
    shows : session_of part ≡ record { over = (own.session seat).over; stand = world.active (reading read w0) }

  registers : (row : List ℕ) (m : Book) → rows.DidRead b.view seat oid row m.view → Registers row m
  registers row m did =
      let words = words_of did.known.core did.read.version in
      let y : Part = read_part did.read words did.notes x in
      let there = changed_here b.view seat m.view y x held did.view_is in
      let seats : did.known.core.seats seat ≡ y = did.known.is_view seat y there in
      let room = (did.known.sound.own seat).ranges.few_reads in
      let long : length (did.known.core.seats seat).current.reads ≡ length x.current.reads + 1 =
      ap (λ (p : Part). length p.current.reads) seats ∙ ap (λ (rs : List Read). length rs) (rated_reads words _) ∙ length-append x.current.reads (did.read ∷ [])
      in
      let all = reads_are in
      let over : (own.session seat).over ≡ map finished_of x.over = ap (λ (r : Session). r.over) (own_is seat tail flushed b) in
      record {
        read = read_of did.read;
        oid_is = did.oid_is;
        is =
            ap (λ (n : ℕ). let r : VersionRead = record { oid = n; stamp = did.read.stamp; row = did.read.row } in r) did.oid_is
            ∙ ap (λ (l : List ℕ). let r : VersionRead = record { oid = oid; stamp = did.read.stamp; row = l } in r) did.row_is;
        part = y;
        held_then = there;
        part_is = part_of-changed b.view seat m.view y x held did.view_is;
        work_is = read_work did.read words did.notes x ∙ ap (λ (w : Work). reading (read_of did.read) w) (sym work);
        given = read_given did.read words did.notes x;
        few = omega (arith, long, room, all);
        shows =
            read_shows did.read words did.notes x at_work
            ∙ ap (λ (fs : List Finished). let s : Session = record { over = fs; stand = world.active (reading (read_of did.read) (work_of x.current)) } in s) (sym over)
            ∙ ap (λ (w : Work). let s : Session = record { over = (own.session seat).over; stand = world.active (reading (read_of did.read) w) } in s) (sym work);
      }

  -- READ
  pub record Reads (row : List ℕ) (e : Book) : Type 0 where
    pub did : DidRead own seat oid row (own_view seat tail flushed e)
    pub later : IsLater (own.session seat) ((own_view seat tail flushed e).session seat)

  module _ (e : Book) (start : e.start ≡ b.start) (stand : (own.session seat).stand ≡ world.active w0) where
    as_before : (at : ℕ) → session_of (part_of e.view seat) ≡ session_of x → given_up_of (part_of e.view seat) ≡ given_up_of x → own_view seat at flushed e ≡ own_view seat at flushed b
    as_before at same given = own_same seat at flushed b e start same given

    same_later : (at : ℕ) → own_view seat at flushed e ≡ own_view seat at flushed b → IsLater (own.session seat) ((own_view seat at flushed e).session seat)
    same_later at same = subst (λ (v : View). IsLater (own.session seat) (v.session seat)) (sym same) ((world_same own own refl).session seat)

    pub reads : (row : List ℕ) → ReadsRow b.view seat oid row e.view → Reads row e
    reads row (session_calls.own same has) =
        let now = as_before tail (ap (λ v. session_of (part_of v seat)) same) (ap (λ v. given_up_of (part_of v seat)) same) in record {
          did =
              calls.own now (ap (λ (w : Work). is_claimed w.claims oid) work ∙ claimed_from x.current.writes has.place no_claim oid has.claimed.within has.claimed.oid_is)
              (has.row_is ∙ sym (own_row_is x.current.writes has.place oid [] facts.claims.once has.claimed.within has.claimed.oid_is) ∙ ap (λ (w : Work). own_row w.claims oid []) (sym work));
          later = same_later tail now;
        }
    reads row (session_calls.again same none has) =
        let now = as_before tail (ap (λ v. session_of (part_of v seat)) same) (ap (λ v. given_up_of (part_of v seat)) same) in record {
          did =
              calls.again now (is_unclaimed none)
              (ap (λ (w : Work). row_read w.reads oid) work ∙ row_read_is x.current.reads has.place oid facts.readers.once has.within has.oid_is ∙ ap (λ (l : List ℕ). Some l) (sym has.row_is));
          later = same_later tail now;
        }
    reads row (session_calls.first none not_read did) =
        let r = registers row e did in
        let w = reading (record { oid = oid; stamp = r.read.stamp; row = row }) w0 in
        let s : Session = record { over = (own.session seat).over; stand = world.active w } in
        let next = own_view seat tail flushed e in
        let shows : Works own seat w next =
        own_becomes seat tail flushed b e s start
        (ap session_of r.part_is ∙ r.shows ∙ ap (λ (v : VersionRead). let t : Session = record { over = (own.session seat).over; stand = world.active (reading v w0) } in t) r.is)
        (ap given_up_of r.part_is ∙ r.given)
        in
        let goes : Goes own seat next = record {
          own = works w0 w stand (ap (λ (t : Session). t.over) shows.own) (ap (λ (t : Session). t.stand) shows.own) (one_read (record { oid = oid; stamp = r.read.stamp; row = row }) w0);
          others = shows.others;
          opening = shows.opening;
          tail = shows.tail;
          flushed = shows.flushed;
          pinned = shows.pinned;
          saves = λ now_active. refl;
          saves_of_others = λ q other. refl;
        } in
        record { did = calls.first r.read.stamp (is_unclaimed none) (is_unread not_read) r.few shows; later = (world_goes own next seat goes).session seat }

  -- NOT READ
  module _ (e : Book) (start : e.start ≡ b.start) (stand : (own.session seat).stand ≡ world.active w0)
      (rises : (c d : Core) (q : ℕ) (k : Kind) → Sound c → after_event c q k ≡ Some d → Rises c.shared d.shared)
      (seen : (z : Book) → IsAfter b z → IsSeen tail flushed z) (goes : IsAfter b e) (shows : Shows) where
    pub record NotRead (why : RowStop) : Type 0 where
      pub more : tail ≤ tail_past tail why
      pub seen_now : IsSeen (tail_past tail why) flushed e
      pub did : After seat (NotReadBeside seat oid why) own (own_view seat (tail_past tail why) flushed e)
      pub later : IsLater (own.session seat) ((own_view seat (tail_past tail why) flushed e).session seat)
      pub met : (f : View) → EndsIn law seat e (own_view seat (tail_past tail why) flushed e) f → MetBeside f seat (asked_read oid) why own (own_view seat (tail_past tail why) flushed e)

    -- whose window was closed: by commits that stay so
    module _ (succ pred : ℕ) (m : Book) (row : List ℕ) (did : rows.DidRead b.view seat oid row m.view) (closed : IsClosedIn m.view seat succ pred) (since : IsAfter m e) where
      abbrev r : Registers row m
      r = registers row m did

      abbrev w1 : Work
      w1 = reading r.read w0

      abbrev Over : TransactionRecord → Type 0
      Over u = OverwritesReadOf u (world.record_of seat w1 0 0 0) × (succ ≡ u.succ)

      abbrev Before : TransactionRecord → Type 0
      Before u =
          (pred ≡ u.stamp)
          × (ReadsFrom (world.record_of seat w1 0 0 0) u ⊎ OverwritesFrom (world.record_of seat w1 0 0 0) u ⊎ OverwritesReadOf (world.record_of seat w1 0 0 0) u)

      seat_there : (c : Core) → IsBookOf m c → c.seats seat ≡ r.part
      seat_there c is = is.is_view seat r.part r.held_then

      over_in : (c : Core) → IsBookOf m c → (u : TransactionRecord) × (u ∈ machine.history_of c.seats) × Over u
      over_in c is =
          let o = (closed c is.sound is.is_view).overwriter in
          let there : OverwritesReadOf o.0 (world.record_of seat (work_of r.part.current) 0 0 0) =
          subst (λ (p : Part). OverwritesReadOf o.0 (machine.record_of seat p.current)) (seat_there c is) o.2
          in
          (o.0, o.1, (subst (λ (w : Work). OverwritesReadOf o.0 (world.record_of seat w 0 0 0)) r.work_is there, o.3))

      before_in : (c : Core) → IsBookOf m c → (u : TransactionRecord) × (u ∈ machine.history_of c.seats) × Before u
      before_in c is =
          let o = (closed c is.sound is.is_view).predecessor in
          let counts = counts_all seat r.part.current o.0
          (subst
          (λ (p : Part). ReadsFrom (machine.record_of seat (counted p.current)) o.0 ⊎ OverwritesFrom (machine.record_of seat (counted p.current)) o.0 ⊎ OverwritesReadOf (machine.record_of seat (counted p.current)) o.0)
          (seat_there c is) o.3)
          in (
            o.0,
            o.1,
            (
              o.2,
              subst (λ (w : Work). ReadsFrom (world.record_of seat w 0 0 0) o.0 ⊎ OverwritesFrom (world.record_of seat w 0 0 0) o.0 ⊎ OverwritesReadOf (world.record_of seat w 0 0 0) o.0) r.work_is counts,
            ),
          )

      shut : (f : View) (v : View) → EndsIn law seat e v f → IsShut f seat w1 succ pred
      shut f v end =
          let over = commit_met law seat m e v f since end shows Over over_in in
          let before = commit_met law seat m e v f since end shows Before before_in in
          record {
            over = over.0;
            over_committed = over.1;
            overwrites = over.2.0;
            succ_is = sym over.2.1;
            before = before.0;
            before_committed = before.1;
            counts = before.2.1;
            pred_is = sym before.2.0;
            closed = (closed did.known.core did.known.sound did.known.is_view).closed;
          }

      pred_low : (c : Core) → IsBookOf e c → pred < c.shared.tail
      pred_low c is =
          of_later (λ (d : Core). pred < d.shared.tail) (λ d z passes low. lt_of_lt_of_le low (rises d z passes.1.0 passes.1.1 passes.0 passes.1.2).tail) m c
          (λ d of. let o = before_in d of in let low = stamp_low d o.0 of.sound o.1 in let at = o.2.0 in omega (arith, low, at)) (was_before m e c since (was_itself e c is))

      -- then the transaction ended
      excluded : IsNew w0 oid → ends.DidAbort m.view seat e.view → NotRead (stop.Excluded succ pred)
      excluded new ended =
          let at : ℕ = max tail (pred + 1) in
          let next = own_view seat at flushed e in
          let now : world.phase_of (stand_of r.part.place r.part.task r.part.current) ≡ phase.Active = ap (λ (s : Session). world.phase_of s.stand) r.shows in
          let after : part_of e.view seat ≡ left_part Abort (released_all (part_of m.view seat)) =
          part_of-changed m.view seat e.view (left_part Abort (released_all (part_of m.view seat))) r.part r.held_then ended.view_is
          in
          let shown : session_of (part_of e.view seat) ≡ record { over = (own.session seat).over ++ record { work = w1; fate = world.aborts } ∷ []; stand = world.idle } =
          ap session_of after ∙ ap (λ (p : Part). session_of (left_part Abort (released_all p))) r.part_is ∙ aborted_shown r.part now ∙ ap gone r.shows
          in
          let done : (n : ℕ) → IsDone (own_view seat n flushed b) seat w1 world.aborts (own_view seat n flushed e) =
          λ n. own_becomes seat n flushed b e (record { over = (own.session seat).over ++ record { work = w1; fate = world.aborts } ∷ []; stand = world.idle }) start shown
          (ap given_up_of after ∙ ap (λ (p : Part). given_up_of (left_part Abort (released_all p))) r.part_is ∙ aborted_given r.part ∙ r.given)
          in
          let over : (next.session seat).over ≡ (own.session seat).over ++ record { work = w1; fate = world.aborts } ∷ [] = ap (λ (s : Session). s.over) (done at).own in
          let over_then : ((own_view seat tail flushed e).session seat).over ≡ (own.session seat).over ++ record { work = w1; fate = world.aborts } ∷ [] = ap (λ (s : Session). s.over) (done tail).own in
          let goes_idle : Goes own seat (own_view seat tail flushed e) = record {
            own = face.ends w0 w1 stand over_then (ap (λ (s : Session). s.stand) (done tail).own) (one_read r.read w0);
            others = (done tail).others;
            opening = (done tail).opening;
            tail = (done tail).tail;
            flushed = (done tail).flushed;
            pinned = (done tail).pinned;
            saves = λ now_active. refl;
            saves_of_others = λ q other. refl;
          } in
          record {
            more = grind arith;
            seen_now = λ c is. let low = pred_low c is in let old = (seen e goes c is).0 in (grind arith, (seen e goes c is).1);
            did = (own_view seat at flushed b, own_passes seat tail flushed at flushed b (grind arith) (omega arith), (new, r.few, (r.read, r.oid_is, done at)));
            later = (world_goes own (own_view seat tail flushed e) seat goes_idle).session seat;
            met = λ f end. (
              grind arith,
              λ w was. subst (λ (v : Work). IsShut f seat v succ pred) (same_work w w1 (last_one was.0 (own.session seat).over (aborted_with w) (aborted_with w1) (sym was.1 ∙ over))) (shut f next end),
            );
          }

    pub not_read : (why : RowStop) → RefusesRead b.view seat oid why e.view → TookReadStop law seat oid why b e → NotRead why
    not_read stop.ReadsFull refuses took =
        let same : session_of (part_of e.view seat) ≡ session_of x = ap (λ v. session_of (part_of v seat)) refuses.refused.1 in
        let now = as_before e start stand tail same (ap (λ v. given_up_of (part_of v seat)) refuses.refused.1) in
        record {
          more = omega arith;
          seen_now = seen e goes;
          did = (own, own_passes seat tail flushed tail flushed b (omega arith) (omega arith), (now, is_new refuses.unclaimed refuses.unread, reads_are ∙ refuses.refused.0));
          later = same_later e start stand tail now;
          met = λ f end. tt;
        }
    not_read (stop.NotYet other met) refuses took =
        let wait = refuses.refused in
        let p : Part = with_task (task.Owned oid other) x in
        let plain = starts_plain x.task (own_seat.own_starts law seat tail flushed b may active) in
        let same : session_of (part_of e.view seat) ≡ session_of x =
        ap session_of (part_of-changed b.view seat e.view p x held wait.view_is) ∙ (plainly x.task x p plain refl refl refl refl).same
        in
        let now = as_before e start stand tail same (ap given_up_of (part_of-changed b.view seat e.view p x held wait.view_is)) in
        let way = in_way seat other met x.current.begin tail flushed b e.view wait.other.another wait.finds wait.unclear (own_seat.own_begin law seat tail flushed b may active) in
        let few = took.0.0 in
        let all = reads_are in
        let below = way.below in
        let begin : w0.begin ≡ x.current.begin = ap (λ (w : Work). w.begin) work in
        record {
          more = omega arith;
          seen_now = seen e goes;
          did = (
            own,
            own_passes seat tail flushed tail flushed b (omega arith) (omega arith),
            (now, is_new refuses.unclaimed refuses.unread, omega (arith, few, all), way.is, way.some, omega (arith, below, begin)),
          );
          later = same_later e start stand tail now;
          met = λ f end. tt;
        }
    not_read (stop.Excluded succ pred) refuses took =
        excluded succ pred took.between took.refused.1.row took.refused.1.read took.refused.0.1 (went_goes law seat IsEndStep took.between e took.ends)
        (is_new refuses.unclaimed refuses.unread) took.aborted
    not_read (stop.Owned other number) refuses took = absurd took.refused.0
    not_read (stop.Newer stamp) refuses took = absurd took.refused.0
    not_read stop.WritesFull refuses took = absurd took.0
    not_read (stop.CellsFull drawn) refuses took = absurd took.0
    not_read (stop.OidsFull drawn) refuses took = absurd took.0
    not_read stop.Memory refuses took = absurd took.0

    -- what became of a read
    pub record Told (r : Result (List ℕ) RowStop) : Type 0 where
      pub more : tail ≤ tail_met tail r
      pub seen_now : IsSeen (tail_met tail r) flushed e
      pub ok : IfOk r (λ row. After seat (λ u t. DidRead u seat oid row t) own (own_view seat (tail_met tail r) flushed e))
      pub err : IfErr r (λ why. After seat (NotReadBeside seat oid why) own (own_view seat (tail_met tail r) flushed e))
      pub later : IsLater (own.session seat) ((own_view seat (tail_met tail r) flushed e).session seat)
      pub met : IfErr r (λ why. (f : View) → EndsIn law seat e (own_view seat (tail_met tail r) flushed e) f → MetBeside f seat (asked_read oid) why own (own_view seat (tail_met tail r) flushed e))

    pub told : (r : Result (List ℕ) RowStop) → IfOk r (λ row. ReadsRow b.view seat oid row e.view) → IfErr r (λ why. RefusesRead b.view seat oid why e.view)
        → IfErr r (λ why. TookReadStop law seat oid why b e) → Told r
    told (Ok row) did refuses took =
        let done = reads e start stand row did in
        record {
          more = omega arith;
          seen_now = seen e goes;
          ok = (own, own_passes seat tail flushed tail flushed b (omega arith) (omega arith), done.did);
          err = tt;
          later = done.later;
          met = tt;
        }
    told (Err why) did refuses took =
        let done = not_read why refuses took in
        record { more = done.more; seen_now = done.seen_now; ok = tt; err = done.did; later = done.later; met = done.met }

-- the stamp of a commit that closed the window lies below 2 ^ 61
pred_within : (law : Law) (seat oid succ pred : ℕ) (row : List ℕ) (b m : Book) → rows.DidRead b.view seat oid row m.view → IsClosedIn m.view seat succ pred → pred < 2 ^ 61
pred_within law seat oid succ pred row b m did closed =
    let c = did.known.core in
    let o = (closed c did.known.sound did.known.is_view).predecessor in
    let low = stamp_low c o.0 did.known.sound o.1 in
    let at = o.2 in
    let below = did.known.sound.common.ranges.below in
    omega (arith, low, at, below)

pub low_stop : (law : Law) (seat oid : ℕ) (b e : Book) (r : Result (List ℕ) RowStop) → IfErr r (λ why. TookReadStop law seat oid why b e) → IfErr r IsLowStop
low_stop law seat oid b e (Ok row) took = tt
low_stop law seat oid b e (Err (stop.Excluded succ pred)) took = pred_within law seat oid succ pred took.refused.1.row b took.between took.refused.1.read took.refused.0.1
low_stop law seat oid b e (Err (stop.Newer stamp)) took = absurd took.refused.0
low_stop law seat oid b e (Err (stop.Owned other number)) took = tt
low_stop law seat oid b e (Err (stop.NotYet other seen)) took = tt
low_stop law seat oid b e (Err stop.ReadsFull) took = tt
low_stop law seat oid b e (Err stop.WritesFull) took = tt
low_stop law seat oid b e (Err (stop.CellsFull drawn)) took = tt
low_stop law seat oid b e (Err (stop.OidsFull drawn)) took = tt
low_stop law seat oid b e (Err stop.Memory) took = tt
