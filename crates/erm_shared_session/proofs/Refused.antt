-- What a claim, a write or a tidy of a session of the word table leaves of its own view, where it is answered and where it is refused, and what a
-- refusal says of each world in which all may end.
use Rattle.std.proofs.Common.{◌≡◌, ℕ, ◌+◌, ◌<◌, ◌≤◌, Result, Ok, Err, IfErr, IfOk, Some, sym, ap, subst, arith}
use Rattle.std.specs.Prelude.{OnOk, max, true}
use Rattle.erm_model.specs.declared.row_stop.RowStop.{RowStop}
use Rattle.erm_model.specs.declared.row_stop.RowStop.TheVariants as stop
use Rattle.erm_model.specs.RowTransaction.{Law, asked_claim}
use Rattle.erm_machine.specs.declared.limits.TheConstants.{OBJECT_LIMIT}
use Rattle.erm_machine.specs.Core.{Core}
use Rattle.erm_machine.specs.Words.{is_session}
use Rattle.erm_rows.specs.Claims.{TellsCount}
use Rattle.erm_rule.specs.declared.view.Book.{Book}
use Rattle.erm_rule.specs.Books.{IsAfter, IsBookOf}
use Rattle.erm_rule.specs.Views.{part_in, part_of}
use Rattle.erm_session.specs.Calls.{RefusesClaim}
use Rattle.erm_session.specs.Took.{TookClaimStop}
use Rattle.erm_beside.specs.Calls.{After, NotClaimedBeside}
use Rattle.erm_beside.specs.Ends.{MetBeside, WasNewer}
use Rattle.erm_beside.specs.Later.{IsLater}
use Rattle.erm_world.specs.World.{View, Work, work_at}
use Rattle.erm_own_view.specs.Own.{EndsIn, own_view}
use Rattle.erm_own_view.proofs.Own.{own_passes}
use Rattle.erm_shared_session.specs.Seen.{IsLowStop, done_of, tail_met, tail_past}
use Rattle.erm_shared_session.proofs.Claiming.{AtWork, own_work}
use Rattle.erm_shared_session.proofs.Claimed.{Returned, refused, refused_later}
use Rattle.erm_shared_session.proofs.Excluded.{shut_below, shut_low, shut_met}
use Rattle.erm_shared_session.proofs.Full.{AllDrawn, cells_met}
use Rattle.erm_shared_session.proofs.Meeting.{Shows}
use Rattle.erm_shared_session.proofs.Newer.{newer_below, newer_low, newer_met, newer_was}
use Rattle.erm_shared_session.proofs.Owned.{EndsHaveOwners, OwnersAreSessions, owned_met}
use Rattle.erm_shared_session.proofs.Standing.{IsSeen, Rise, SeenThen}

-- the stamps that a refusal tells lie below 2 ^ 61
module _ (law : Law) (shows : Shows) (seat tail flushed : ℕ) (b e : Book) (start : e.start ≡ b.start) (held : part_in b.view seat ≡ Some (part_of b.view seat)) (at : AtWork (part_of b.view seat)) (oid : ℕ) where
  low_refused : (why : RowStop) → TookClaimStop law seat oid why b e → IsLowStop why
  low_refused (stop.Excluded succ pred) took = shut_low law shows seat tail flushed b e start held at oid succ pred took
  low_refused (stop.Newer stamp) took = newer_low law seat (part_of b.view seat).current.begin oid stamp e (newer_met law seat b e held at oid stamp took)
  low_refused (stop.Owned other number) took = tt
  low_refused (stop.NotYet other seen) took = tt
  low_refused stop.ReadsFull took = tt
  low_refused stop.WritesFull took = tt
  low_refused (stop.CellsFull drawn) took = tt
  low_refused (stop.OidsFull drawn) took = tt
  low_refused stop.Memory took = tt

  pub low_claim : {X : Type 0} (r : Result X RowStop) → IfErr r (λ why. TookClaimStop law seat oid why b e) → IfErr r IsLowStop
  low_claim (Ok x) took = tt
  low_claim (Err why) took = low_refused why took

module _ (law : Law) (shows : Shows) (ended : EndsHaveOwners law) (owners : OwnersAreSessions) (rises : Rise) (drawn : AllDrawn law) (seat tail flushed : ℕ) (b e : Book) (start : e.start ≡ b.start)
    (held : part_in b.view seat ≡ Some (part_of b.view seat)) (at : AtWork (part_of b.view seat)) (mine : is_session seat ≡ true) (oid : ℕ) (known : oid < OBJECT_LIMIT) (seen : SeenThen tail flushed b) (goes : IsAfter b e) where
  abbrev own : View
  own = own_view seat tail flushed b

  abbrev next_at : ℕ → View
  next_at place = own_view seat place flushed e

  -- how far the log was seen then
  more : (why : RowStop) → tail ≤ tail_past tail why
  more (stop.Excluded succ pred) = grind arith
  more (stop.Newer stamp) = grind arith
  more (stop.Owned other number) = omega arith
  more (stop.NotYet other met) = omega arith
  more stop.ReadsFull = omega arith
  more stop.WritesFull = omega arith
  more (stop.CellsFull count) = omega arith
  more (stop.OidsFull count) = omega arith
  more stop.Memory = omega arith

  seen_past : (stamp : ℕ) → ((c : Core) → IsBookOf e c → stamp < c.shared.tail) → IsSeen (max tail (stamp + 1)) flushed e
  seen_past stamp below c is = let low = below c is in let old = (seen e goes c is).0 in (grind arith, (seen e goes c is).1)

  seen_now : (why : RowStop) → TookClaimStop law seat oid why b e → IsSeen (tail_past tail why) flushed e
  seen_now (stop.Excluded succ pred) took = seen_past pred (shut_below law shows seat tail flushed b e start held at oid succ pred took rises)
  seen_now (stop.Newer stamp) took = seen_past stamp (newer_below law seat (part_of b.view seat).current.begin oid stamp e (newer_met law seat b e held at oid stamp took))
  seen_now (stop.Owned other number) took = seen e goes
  seen_now (stop.NotYet other met) took = seen e goes
  seen_now stop.ReadsFull took = seen e goes
  seen_now stop.WritesFull took = seen e goes
  seen_now (stop.CellsFull count) took = seen e goes
  seen_now (stop.OidsFull count) took = seen e goes
  seen_now stop.Memory took = seen e goes

  met : (why : RowStop) → RefusesClaim b.view seat oid why e.view → TookClaimStop law seat oid why b e → TellsCount b why e → (f : View) → EndsIn law seat e (next_at (tail_past tail why)) f
      → MetBeside f seat (asked_claim oid) why own (next_at (tail_past tail why))
  met (stop.Owned other number) refuses took count f end =
      owned_met law ended owners rises seat b e held at mine oid known (work_at own seat).number (ap (λ (w : Work). w.number) (own_work seat tail flushed b e start held at)) other number refuses took (next_at tail) f tail end
  met (stop.Newer stamp) refuses took count f end =
      let was = newer_met law seat b e held at oid stamp took in
      let begin = ap (λ (w : Work). w.begin) (own_work seat tail flushed b e start held at) in (
        subst (λ (n : ℕ). WasNewer f seat n oid stamp) (sym begin) (newer_was law seat (part_of b.view seat).current.begin oid stamp e was shows (next_at (max tail (stamp + 1))) f end),
        grind arith,
      )
  met (stop.CellsFull count) refuses took was f end = cells_met law rises drawn seat tail flushed oid count b e refuses was f end
  met (stop.Excluded succ pred) refuses took count f end = (
    grind arith,
    shut_met law shows seat (max tail (pred + 1)) flushed b e start held at oid succ pred took (next_at (max tail (pred + 1))) f end,
  )
  met (stop.NotYet other seen_at) refuses took count f end = tt
  met stop.ReadsFull refuses took count f end = tt
  met stop.WritesFull refuses took count f end = tt
  met (stop.OidsFull all) refuses took count f end = tt
  met stop.Memory refuses took count f end = tt

  -- WHAT BECAME of a call that claims
  pub record Told (Did : View → View → Type 0) {X : Type 0} (r : Result X RowStop) : Type 0 where
    pub more : tail ≤ tail_met tail r
    pub seen_now : IsSeen (tail_met tail r) flushed e
    pub ok : OnOk r (After seat Did own (next_at (tail_met tail r)))
    pub err : IfErr r (λ why. After seat (NotClaimedBeside seat oid why) own (next_at (tail_met tail r)))
    pub later : IsLater (own.session seat) ((next_at (tail_met tail r)).session seat)
    pub met : IfErr r (λ why. (f : View) → EndsIn law seat e (next_at (tail_met tail r)) f → MetBeside f seat (asked_claim oid) why own (next_at (tail_met tail r)))

  pub told : (Did : View → View → Type 0) {X : Type 0} (r : Result X RowStop) → OnOk r (Returned law seat tail flushed b e start held at (After seat Did own (next_at tail)))
      → IfErr r (λ why. RefusesClaim b.view seat oid why e.view) → IfErr r (λ why. TookClaimStop law seat oid why b e) → IfErr r (λ why. TellsCount b why e) → Told Did r
  told Did (Ok x) did refuses took count = record { more = omega arith; seen_now = seen e goes; ok = did.did; err = tt; later = did.later; met = tt }
  told Did (Err why) did refuses took count =
      let place : ℕ = tail_past tail why in record {
        more = more why;
        seen_now = seen_now why took;
        ok = tt;
        err = (own_view seat place flushed b, own_passes seat tail flushed place flushed b (more why) (omega arith), refused law seat place flushed b e start held at oid why refuses took);
        later = refused_later law seat place flushed b e start held at oid why refuses took;
        met = λ f end. met why refuses took count f end;
      }

-- WHAT A CALL RETURNS that tells nothing where it is answered
pub done_err : {X : Type 0} (r : Result X RowStop) (P : RowStop → Type 0) → IfErr r P → IfErr (done_of r) P
done_err (Ok x) P so = tt
done_err (Err why) P so = so

pub done_ok : {X : Type 0} (r : Result X RowStop) (P : Type 0) → OnOk r P → OnOk (done_of r) P
done_ok (Ok x) P so = so
done_ok (Err why) P so = tt

-- of a call that was answered
pub on_ok : {X : Type 0} (r : Result X RowStop) (P Q : Type 0) → (P → Q) → OnOk r P → OnOk r Q
on_ok (Ok x) P Q gives so = gives so
on_ok (Err why) P Q gives so = tt

pub if_ok : {X : Type 0} (r : Result X RowStop) (P : X → Type 0) (Q : Type 0) → ((x : X) → P x → Q) → IfOk r P → OnOk r Q
if_ok (Ok x) P Q gives so = gives x so
if_ok (Err why) P Q gives so = tt
