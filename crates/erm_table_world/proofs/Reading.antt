-- A read: what the pass's view says of it, as the world shows it.
use Rattle.std.proofs.Common.{◌≡◌, ◌≢◌, ℕ, ◌+◌, ◌<◌, ⊎_elim, true, false, eqb, List, [], ◌∷◌, ◌++◌, length, map, Some, None, refl, sym, ap, ◌∙◌, subst, arith}
use Rattle.std.proofs.lemmas.Bool.{cases_eq}
use Rattle.std.proofs.lemmas.List.{length-append, length-map, map-append}
use Rattle.std.proofs.Math.Path.{fun_ext}
use Rattle.erm_model.specs.declared.history.VersionRead.{VersionRead}
use Rattle.erm_model.specs.declared.limits.TheConstants.{READ_LIMIT}
use Rattle.erm_model.specs.declared.outcome.Phase.TheVariants as phase
use Rattle.erm_model.specs.RowTransaction.{Law}
use Rattle.erm_machine.specs.declared.attempt.Attempt.{Attempt}
use Rattle.erm_machine.specs.declared.attempt.Read.{Read}
use Rattle.erm_machine.specs.declared.limits.TheConstants.{FLUSH_SEAT}
use Rattle.erm_machine.specs.declared.part.Part.{Part}
use Rattle.erm_machine.specs.declared.version.Cell.{Cell}
use Rattle.erm_machine.specs.Core.{no_claim}
use Rattle.erm_machine.specs.Decided.{read_of}
use Rattle.erm_machine.specs.Seat.{is_active, may_start, with_succ}
use Rattle.erm_machine.specs.Words.{is_seat}
use Rattle.erm_machine.proofs.Guards.{either_way}
use Rattle.erm_core_view.specs.Views.{session_of, view_of, work_of}
use Rattle.erm_core_view.proofs.Shown.{shows_work, work_active}
use Rattle.erm_core_view.proofs.Snapshots.{starts_new}
use Rattle.erm_core_steps.proofs.Aborts.{no_flusher}
use Rattle.erm_core_steps.proofs.Quiet.{IsActive, active_seat}
use Rattle.erm_core_steps.proofs.Stored.{claimed_from}
use Rattle.erm_core_steps.proofs.Unseen.{same_view}
use Rattle.erm_readers.specs.Calls.{rated, words_of}
use Rattle.erm_rows.specs.Reads as rows
use Rattle.erm_rows.specs.Reads.{read_part}
use Rattle.erm_rule.specs.declared.view.Book.{Book}
use Rattle.erm_rule.specs.Views.{part_of}
use Rattle.erm_rule.specs.Went.{core_of}
use Rattle.erm_session.specs.Calls.{HasClaimed, HasRead, IsUnclaimed, IsUnread, ReadsRow}
use Rattle.erm_session.specs.Calls as session_calls
use Rattle.erm_session.proofs.Listed.{own_row_is, row_read_is, unclaimed, unread}
use Rattle.erm_world.specs.Calls as calls
use Rattle.erm_world.specs.Calls.{Becomes, DidRead, IsNew, Works}
use Rattle.erm_world.specs.Works.{is_claimed, own_row, reading, row_read}
use Rattle.erm_world.specs.World.{IsSession, Session, View, Work, phase_at, work_at}
use Rattle.erm_world.specs.World as world
use Rattle.erm_table_world.specs.Stands.{StandsAt}
use Rattle.erm_table_world.proofs.Still.{Stayed, becomes}
use Rattle.erm_table_world.proofs.Wholly.{Ran, part_is, part_set}

-- a session that is as it was, and nothing else changed: the world is as it was
pub same_world : (law : Law) (sessions seat : ℕ) (b e : Book) → seat ≢ FLUSH_SEAT → Ran law sessions seat b e → Stayed sessions seat (core_of b) (core_of e)
    → session_of ((core_of e).seats seat) ≡ session_of ((core_of b).seats seat) → view_of sessions (core_of e) ≡ view_of sessions (core_of b)
same_world law sessions seat b e plain ran stayed own =
    same_view (view_of sessions (core_of b)) (view_of sessions (core_of e)) ran.opening
    (fun_ext (λ q. ⊎_elim
    (λ (here : q ≡ seat). subst (λ n. session_of ((core_of e).seats n) ≡ session_of ((core_of b).seats n)) (sym here) own)
    (λ (there : q ≡ seat → ⊥). ap session_of (ran.others q there))
    (cases_eq q seat)))
    stayed.tail stayed.flushed (stayed.pinned plain) refl refl

-- what a version's words make of the running numbers doesn't show
rated_work : (words : Cell) (t : Attempt) → work_of (rated words t) ≡ work_of t
rated_work words t =
    either_way (λ (u : Attempt). work_of u ≡ work_of t) (eqb words.overwriter 0) t (with_succ words.overwriter_succ words.overwriter t) (λ _. refl) (λ _. refl)

rated_reads : (words : Cell) (t : Attempt) → (rated words t).reads ≡ t.reads
rated_reads words t =
    either_way (λ (u : Attempt). u.reads ≡ t.reads) (eqb words.overwriter 0) t (with_succ words.overwriter_succ words.overwriter t) (λ _. refl) (λ _. refl)

pub read_shows : (r : Read) (words : Cell) (notes : List ℕ) (x : Part) → is_active x.place ≡ true → session_of (read_part r words notes x) ≡ record {
  over = (session_of x).over;
  stand = world.active (reading (read_of r) (work_of x.current));
}
read_shows r words notes x active =
    let t : Attempt = record x.current { pred = (read_part r words notes x).current.pred; reads = x.current.reads ++ r ∷ [] } in
    let more : map read_of (x.current.reads ++ r ∷ []) ≡ map read_of x.current.reads ++ read_of r ∷ [] = map-append read_of x.current.reads (r ∷ []) in
    let work : work_of (read_part r words notes x).current ≡ reading (read_of r) (work_of x.current) =
    rated_work words _ ∙ ap (λ (rs : List VersionRead). let w : Work = record (work_of x.current) { reads = rs } in w) more
    in
    (shows_work x (reading (read_of r) (work_of x.current)) (read_part r words notes x) refl active refl work).shows

module _ (law : Law) (sessions seat : ℕ) (b e : Book) (at : StandsAt law sessions b) (session : IsSession (view_of sessions (core_of b)) seat) (active : phase_at (view_of sessions (core_of b)) seat ≡ phase.Active)
    (seated : is_seat seat ≡ true) where
  pub at_seat : IsActive seat (core_of b)
  at_seat = active_seat sessions seat (core_of b) at.quiet session active

  abbrev pub own : Part
  own = (core_of b).seats seat

  pub work : work_at (view_of sessions (core_of b)) seat ≡ work_of own.current
  work = work_active own.place own.task own.current at_seat.active (starts_new own.task own.current at_seat.starts)

  pub part : part_of b.view seat ≡ own
  part = part_is law b seat at.state seated

  -- the object's claims and reads as the world shows them
  pub is_unclaimed : (oid : ℕ) → IsUnclaimed (part_of b.view seat) oid → is_claimed (work_at (view_of sessions (core_of b)) seat).claims oid ≡ false
  is_unclaimed oid none =
      ap (λ (w : Work). is_claimed w.claims oid) work ∙ unclaimed own.current.writes oid (subst (λ (x : Part). IsUnclaimed x oid) part none)

  pub is_unread : (oid : ℕ) → IsUnread (part_of b.view seat) oid → row_read (work_at (view_of sessions (core_of b)) seat).reads oid ≡ None
  is_unread oid none = ap (λ (w : Work). row_read w.reads oid) work ∙ unread own.current.reads oid (subst (λ (x : Part). IsUnread x oid) part none)

  pub is_new : (oid : ℕ) → IsUnclaimed (part_of b.view seat) oid → IsUnread (part_of b.view seat) oid → IsNew (work_at (view_of sessions (core_of b)) seat) oid
  is_new oid none not_read = record { unclaimed = is_unclaimed oid none; unread = is_unread oid not_read }

  pub reads_are : length (work_at (view_of sessions (core_of b)) seat).reads ≡ length own.current.reads
  reads_are = ap (λ (w : Work). length w.reads) work ∙ length-map own.current.reads read_of

  -- A READ that registers a version
  pub record Registers (oid : ℕ) (row : List ℕ) : Type 0 where
    pub stamp : ℕ
    pub few : length (work_at (view_of sessions (core_of b)) seat).reads < READ_LIMIT
    pub shows : Works (view_of sessions (core_of b)) seat (reading (record { oid = oid; stamp = stamp; row = row }) (work_at (view_of sessions (core_of b)) seat)) (view_of sessions (core_of e))
    pub at_work : is_active ((core_of e).seats seat).place ≡ true
    pub starts : may_start ((core_of e).seats seat).task ≡ true

  pub registers : (oid : ℕ) (row : List ℕ) → Ran law sessions seat b e → Stayed sessions seat (core_of b) (core_of e) → rows.DidRead b.view seat oid row e.view → Registers oid row
  registers oid row ran stayed did =
      let r = did.read in
      let words = words_of did.known.core r.version in
      let y : Part = read_part r words did.notes own in
      let set : (core_of e).seats seat ≡ y =
      part_set law b e seat (read_part r words did.notes (part_of b.view seat)) at.state ran.state seated did.view_is ∙ ap (λ (x : Part). read_part r words did.notes x) part
      in
      let made : ℕ → List ℕ → Work → Session = λ n l w. record { over = (session_of own).over; stand = world.active (reading (record { oid = n; stamp = r.stamp; row = l }) w) } in
      let shows : session_of ((core_of e).seats seat) ≡ made oid row (work_at (view_of sessions (core_of b)) seat) =
      ap session_of set ∙ read_shows r words did.notes own at_seat.active ∙ ap (λ (n : ℕ). made n r.row (work_of own.current)) did.oid_is
      ∙ ap (λ (l : List ℕ). made oid l (work_of own.current)) did.row_is ∙ ap (λ (w : Work). made oid row w) (sym work)
      in
      let long : length ((core_of e).seats seat).current.reads ≡ length own.current.reads + 1 =
      ap (λ (x : Part). length x.current.reads) set ∙ ap (λ (rs : List Read). length rs) (rated_reads words _) ∙ length-append own.current.reads (r ∷ [])
      in
      let few = (ran.state.sound.sound.own seat).ranges.few_reads in
      let all = reads_are in
      record {
        stamp = r.stamp;
        few = omega (arith, long, few, all);
        shows = becomes law sessions seat b e (made oid row (work_at (view_of sessions (core_of b)) seat)) (no_flusher seat at_seat.session) ran stayed shows;
        at_work = ap (λ (x : Part). is_active x.place) set ∙ at_seat.active;
        starts = ap (λ (x : Part). may_start x.task) set;
      }

  -- the same part: the world is as it was
  pub as_it_was : Ran law sessions seat b e → Stayed sessions seat (core_of b) (core_of e) → e.view ≡ b.view → view_of sessions (core_of e) ≡ view_of sessions (core_of b)
  as_it_was ran stayed same =
      let now : (core_of e).seats seat ≡ own =
      sym (part_is law e seat ran.state seated) ∙ ap (λ v. part_of v seat) same ∙ part
      in
      same_world law sessions seat b e (no_flusher seat at_seat.session) ran stayed (ap session_of now)

  pub did_read : (oid : ℕ) (row : List ℕ) → Ran law sessions seat b e → Stayed sessions seat (core_of b) (core_of e) → ReadsRow b.view seat oid row e.view
      → DidRead (view_of sessions (core_of b)) seat oid row (view_of sessions (core_of e))
  did_read oid row ran stayed (session_calls.own same has) =
      let mine : HasClaimed own oid row = subst (λ (x : Part). HasClaimed x oid row) part has in
      let once = (at.state.sound.sound.own seat).claims.once in
      calls.own (as_it_was ran stayed same)
      (ap (λ (w : Work). is_claimed w.claims oid) work ∙ claimed_from own.current.writes mine.place no_claim oid mine.claimed.within mine.claimed.oid_is)
      (mine.row_is ∙ sym (own_row_is own.current.writes mine.place oid [] once mine.claimed.within mine.claimed.oid_is) ∙ ap (λ (w : Work). own_row w.claims oid []) (sym work))
  did_read oid row ran stayed (session_calls.again same none has) =
      let mine : HasRead own oid row = subst (λ (x : Part). HasRead x oid row) part has in
      let once = (at.state.sound.sound.own seat).readers.once in
      calls.again (as_it_was ran stayed same) (is_unclaimed oid none)
      (ap (λ (w : Work). row_read w.reads oid) work ∙ row_read_is own.current.reads mine.place oid once mine.within mine.oid_is ∙ ap (λ (l : List ℕ). Some l) (sym mine.row_is))
  did_read oid row ran stayed (session_calls.first none not_read did) =
      let r = registers oid row ran stayed did in
      calls.first r.stamp (is_unclaimed oid none) (is_unread oid not_read) r.few r.shows
