-- A session's read: the seat's part after it, and what the session keeps.
use Rattle.std.proofs.Common.{◌≡◌, ℕ, ◌<◌, ◌≤◌, Bool, true, false, List, [], ◌∷◌, ◌++◌, length, map, refl, sym, ap, ◌∙◌, subst, eqb, arith}
use Rattle.std.specs.Prelude.{if◌then◌else◌, IfErr, IfOk, Result, Ok, Err}
use Rattle.std.proofs.lemmas.List.{length-map, length_push, map-append}
use Rattle.erm_cells.specs.Calls.{starts_anew}
use Rattle.erm_cells.specs.Spare.{SpareIs}
use Rattle.erm_cells.proofs.Heads.{has}
use Rattle.erm_ends.specs.Ends.{DidAbort}
use Rattle.erm_machine.specs.declared.attempt.Attempt.{Attempt}
use Rattle.erm_machine.specs.declared.attempt.Claim.{Claim}
use Rattle.erm_machine.specs.declared.attempt.Read.{Read}
use Rattle.erm_machine.specs.declared.limits.TheConstants.{READ_LIMIT}
use Rattle.erm_machine.specs.declared.part.Part.{Part}
use Rattle.erm_machine.specs.declared.task.Task.TheVariants as task
use Rattle.erm_machine.specs.declared.version.Cell.{Cell}
use Rattle.erm_machine.specs.Seat.{is_active, with_pred, with_succ, with_task}
use Rattle.erm_model.specs.declared.row_stop.RowStop.{RowStop}
use Rattle.erm_model.specs.declared.row_stop.RowStop.TheVariants as stop
use Rattle.erm_readers.specs.Calls.{rated, words_of}
use Rattle.erm_rows.specs.Reads.{read_part, DidNotRead, DidRead, WasOwnerMet}
use Rattle.erm_rule.specs.declared.view.Book.{Book}
use Rattle.erm_rule.specs.declared.view.View.{View}
use Rattle.erm_rule.specs.Books.{WasState}
use Rattle.erm_rule.specs.Hands.{IsKnown}
use Rattle.erm_rule.specs.Views.{part_of}
use Rattle.erm_rule.proofs.Telling.{changed_here, part_of-changed}
use Rattle.erm_session.specs.Calls.{is_end, IsUnclaimed, IsUnread, RefusesRead}
use Rattle.erm_session.proofs.Goes.{ends_where, goes_same, Goes}

-- a refusal after which the transaction goes on leaves the book
pub owner_met : (b m e : Book) (why : RowStop) → WasOwnerMet b why m → (is_end why ≡ false → e ≡ m) → WasOwnerMet b why e
owner_met b m e (stop.NotYet seat seen) met same = subst (λ (z : Book). WasState b seat seen z) (sym (same refl)) met
owner_met b m e _ met same = tt

-- what a transaction has read and claimed, once a version is rated
module _ (words : Cell) (t : Attempt) where
  number_as : (none : Bool) → (if none then t else with_succ words.overwriter_succ words.overwriter t).number ≡ t.number
  number_as true = refl
  number_as false = refl

  reads_as : (none : Bool) → (if none then t else with_succ words.overwriter_succ words.overwriter t).reads ≡ t.reads
  reads_as true = refl
  reads_as false = refl

  writes_as : (none : Bool) → (if none then t else with_succ words.overwriter_succ words.overwriter t).writes ≡ t.writes
  writes_as true = refl
  writes_as false = refl

  number_rated : (rated words t).number ≡ t.number
  number_rated = number_as (eqb words.overwriter 0)

  reads_rated : (rated words t).reads ≡ t.reads
  reads_rated = reads_as (eqb words.overwriter 0)

  writes_rated : (rated words t).writes ≡ t.writes
  writes_rated = writes_as (eqb words.overwriter 0)

module _ (v : View) (who oid : ℕ) (active : is_active (part_of v who).place ≡ true) where
  abbrev x : Part
  x = part_of v who

  -- a version was read
  module _ (row : List ℕ) (w : View) (did : DidRead v who oid row w) where
    abbrev r : Read
    r = did.read

    abbrev words : Cell
    words = words_of did.known.core r.version

    abbrev so : Attempt
    so = record (with_pred r.stamp x.current) { reads = x.current.reads ++ r ∷ [] }

    abbrev y : Part
    y = read_part r words did.notes x

    here : part_of w who ≡ y
    here = part_of-changed v who w y x (has v who active) did.view_is

    pub goes_read : Goes x (part_of w who)
    goes_read =
        subst (λ (z : Part). Goes x z) (sym here)
        (record { place = refl; starts = refl; number = refl; run = refl; current = number_rated words so })

    pub spare_read : (cells : List ℕ) → SpareIs cells x → SpareIs cells (part_of w who)
    spare_read cells is = subst (λ (z : Part). SpareIs cells z) (sym here) is

    reads_now : (part_of w who).current.reads ≡ x.current.reads ++ r ∷ []
    reads_now = ap (λ (z : Part). z.current.reads) here ∙ reads_rated words so

    pub rows_read : (old new : List (List ℕ)) → old ≡ map (λ (s : Read). s.row) x.current.reads → new ≡ old ++ row ∷ [] → new ≡ map (λ (s : Read). s.row) (part_of w who).current.reads
    rows_read old new old_is new_is =
        new_is
        ∙ ap (λ (rs : List (List ℕ)). rs ++ row ∷ []) old_is
        ∙ ap (λ (n : List ℕ). map (λ (s : Read). s.row) x.current.reads ++ n ∷ []) (sym did.row_is)
        ∙ sym (map-append (λ (s : Read). s.row) x.current.reads (r ∷ []))
        ∙ ap (map (λ (s : Read). s.row)) (sym reads_now)

    pub rows_stay : (rows : List (List ℕ)) → rows ≡ map (λ (c : Claim). c.row) x.current.writes → rows ≡ map (λ (c : Claim). c.row) (part_of w who).current.writes
    rows_stay rows is = is ∙ ap (map (λ (c : Claim). c.row)) (sym (ap (λ (z : Part). z.current.writes) here ∙ writes_rated words so))

    pub writes_read : (part_of w who).current.writes ≡ x.current.writes
    writes_read = ap (λ (z : Part). z.current.writes) here ∙ writes_rated words so

    few : length (part_of w who).current.reads ≤ READ_LIMIT
    few = subst (λ (z : Part). length z.current.reads ≤ READ_LIMIT) (did.known.is_view who y (changed_here v who w y x (has v who active) did.view_is) ∙ sym here) (did.known.sound.own who).ranges.few_reads

    -- there is room for its row
    pub room_read : (rows : List (List ℕ)) (room : ℕ) → rows ≡ map (λ (s : Read). s.row) x.current.reads → READ_LIMIT ≤ room → length rows < room
    room_read rows room is enough =
        let count = ap (λ (rs : List (List ℕ)). length rs) is in
        let all = length-map x.current.reads (λ (s : Read). s.row) in
        let more = length_push x.current.reads r in
        let now = ap (λ (rs : List Read). length rs) reads_now in
        let most = few in
        omega (arith, count, all, more, now, most, enough)

  -- it is refused
  pub known_unread : IsKnown v → (why : RowStop) (w : View) → DidNotRead v who oid why w → IsKnown w
  known_unread known (stop.NotYet seat seen) w did = did.known
  known_unread known stop.ReadsFull w did = subst IsKnown (sym did.1) known
  known_unread known (stop.Excluded succ pred) w did = did.read.known
  known_unread known _ w did = absurd did

  pub goes_unread : starts_anew x.task ≡ true → (why : RowStop) (w : View) → DidNotRead v who oid why w → Goes x (part_of w who)
  goes_unread starts (stop.NotYet seat seen) w did =
      subst (λ (z : Part). Goes x z) (sym (part_of-changed v who w (with_task (task.Owned oid seat) x) x (has v who active) did.view_is))
      (record { place = refl; starts = refl; number = refl; run = refl; current = refl })
  goes_unread starts stop.ReadsFull w did = subst (λ (u : View). Goes x (part_of u who)) (sym did.1) (goes_same x starts)
  goes_unread starts (stop.Excluded succ pred) w did = goes_read did.row w did.read
  goes_unread starts _ w did = absurd did

  -- it is read or refused
  pub goes_either : starts_anew x.task ≡ true → (result : Result (List ℕ) RowStop) (w : View) → IfOk result (λ row. DidRead v who oid row w) → IfErr result (λ why. DidNotRead v who oid why w)
      → Goes x (part_of w who)
  goes_either starts (Ok row) w did stopped = goes_read row w did
  goes_either starts (Err why) w did stopped = goes_unread starts why w stopped

  pub spare_unread : (cells : List ℕ) → SpareIs cells x → (why : RowStop) (w : View) → DidNotRead v who oid why w → SpareIs cells (part_of w who)
  spare_unread cells is (stop.NotYet seat seen) w did =
      subst (λ (z : Part). SpareIs cells z) (sym (part_of-changed v who w (with_task (task.Owned oid seat) x) x (has v who active) did.view_is)) is
  spare_unread cells is stop.ReadsFull w did = subst (λ (u : View). SpareIs cells (part_of u who)) (sym did.1) is
  spare_unread cells is (stop.Excluded succ pred) w did = spare_read did.row w did.read cells is
  spare_unread cells is _ w did = absurd did

  pub same_unread : (why : RowStop) (w : View) → DidNotRead v who oid why w → is_end why ≡ false → (part_of w who).current ≡ x.current
  same_unread (stop.NotYet seat seen) w did on =
      ap (λ (z : Part). z.current) (part_of-changed v who w (with_task (task.Owned oid seat) x) x (has v who active) did.view_is)
  same_unread stop.ReadsFull w did on = ap (λ (u : View). (part_of u who).current) did.1
  same_unread (stop.Excluded succ pred) w did on = absurd (cc)
  same_unread _ w did on = absurd did

  pub refuses_read : IsUnclaimed x oid → IsUnread x oid → (why : RowStop) (between w : View) → DidNotRead v who oid why between → (is_end why ≡ true → DidAbort between who w)
      → (is_end why ≡ false → w ≡ between) → RefusesRead v who oid why w
  refuses_read unclaimed unread why between w did ended stays = record {
    unclaimed = unclaimed;
    unread = unread;
    refused = ends_where (is_end why) (λ (u : View). DidNotRead v who oid why u) who between w did ended stays;
  }
