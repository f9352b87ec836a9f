-- A session beside others as a transaction: what each call is to its own part, and what a refusal leaves.
use Rattle.std.proofs.Common.{◌≡◌, ℕ, true, false, [], ◌∷◌, map, is_some, refl, sym, ap, ◌∙◌, subst, arith, append-nil, Result, Ok, Err, IfOk, IfErr}
use Rattle.std.proofs.lemmas.List.{map-append}
use Rattle.erm_model.specs.declared.history.VersionRead.{VersionRead}
use Rattle.erm_model.specs.declared.history.VersionWritten.{VersionWritten}
use Rattle.erm_model.specs.declared.outcome.Phase.TheVariants.{Active}
use Rattle.erm_model.specs.declared.row_stop.RowStop.{RowStop}
use Rattle.erm_model.specs.declared.row_stop.RowStop.TheVariants as stop
use Rattle.erm_model.specs.Lawful.{times_made}
use Rattle.erm_model.specs.RowTransaction.{Asked, Does, Event, Face, IsRefused, Law, SameView, Stays, Steps, StopsClaim, StopsMake, StopsRead, asked_claim, asked_make, asked_read}
use Rattle.erm_model.specs.RowTransaction as rows
use Rattle.erm_world.specs.Calls.{IsDone}
use Rattle.erm_world.specs.Face.{Answered, Goes, Grows, same}
use Rattle.erm_world.specs.Face as face
use Rattle.erm_world.specs.Going.{Extends, found_by}
use Rattle.erm_world.specs.Laws.{FitsWork}
use Rattle.erm_world.specs.Onward.{goes_itself}
use Rattle.erm_world.specs.Snapshots.{snapshot_not_active}
use Rattle.erm_world.specs.Works.{claiming, is_claimed, reading, row_read, seen_by}
use Rattle.erm_world.specs.World.{Session, Stand, View, Work, phase_at, phase_of, work_at, work_of}
use Rattle.erm_world.specs.World as world
use Rattle.erm_world.proofs.Txns.{MayStop, Went, went}
use Rattle.erm_world.proofs.Works.{Moves}
use Rattle.erm_beside.specs.Calls.{After, GivesUp, NotClaimedBeside, NotMadeBeside, NotReadBeside, Passes, RefusedBeside}
use Rattle.erm_beside.specs.Ends.{MetBeside}
use Rattle.erm_beside.specs.Face.{AnsweredAfter, GoesBeside, beside_face}
use Rattle.erm_beside.specs.Laws.{GoesOnward, IsSound}

-- THE SESSION. Where it is active, it is so with its work.
active_with : (stand : Stand) → phase_of stand ≡ Active → stand ≡ world.active (work_of stand)
active_with world.idle active = cc
active_with (world.active w) active = refl
active_with (world.sealed w stamp) active = cc
active_with (world.snapshot s) active = absurd (snapshot_not_active s active)

-- what one call more than was answered adds to a work
same_work : (w : Work) → Extends w w
same_work w = record {
  number = refl;
  begin = refl;
  read = [];
  reads = sym (append-nil w.reads);
  claimed = [];
  claims = sym (append-nil (map found_by w.claims));
  more = [];
  made = sym (append-nil w.made);
}

one_read_more : (r : VersionRead) (w : Work) → Extends w (reading r w)
one_read_more r w = record {
  number = refl;
  begin = refl;
  read = r ∷ [];
  reads = refl;
  claimed = [];
  claims = sym (append-nil (map found_by w.claims));
  more = [];
  made = sym (append-nil w.made);
}

one_claimed_more : (c : VersionWritten) (w : Work) → Extends w (claiming c w)
one_claimed_more c w = record {
  number = refl;
  begin = refl;
  read = [];
  reads = sym (append-nil w.reads);
  claimed = found_by c ∷ [];
  claims = map-append found_by w.claims (c ∷ []);
  more = [];
  made = sym (append-nil w.made);
}

-- GOES. Others went on, and then the session did.
from_goes : (seat : ℕ) (v u t : View) → Passes seat v u → Goes u seat t → GoesBeside seat v t
from_goes seat v u t passes goes = record {
  own = subst (λ (s : Session). Grows s (t.session seat)) passes.own goes.own;
  opening = goes.opening ∙ passes.opening;
  tail = omega (arith, passes.tail, goes.tail);
  flushed = omega (arith, passes.flushed, goes.flushed);
  saves = λ active. goes.saves active ∙ passes.saves;
}

goes_out : (seat : ℕ) (v t : View) (u : Work) → phase_at v seat ≡ Active → IsDone v seat u world.aborts t → Extends (work_at v seat) u → Goes v seat t
goes_out seat v t u active now more = record {
  own = face.ends (work_at v seat) u (active_with (v.session seat).stand active) (ap (λ (s : Session). s.over) now.own) (ap (λ (s : Session). s.stand) now.own) more;
  others = now.others;
  opening = now.opening;
  tail = now.tail;
  flushed = now.flushed;
  pinned = now.pinned;
  saves = λ then. let idle = ap (λ (s : Session). phase_of s.stand) now.own in absurd (cc);
  saves_of_others = now.saves.others;
}

-- REFUSED. A refusal is one that the call may have; by one that ends the session is idle, and another leaves its part.
pub record Stopped (seat : ℕ) (may : RowStop → Type 0) (why : RowStop) (v t : View) : Type 0 where
  pub named : may why
  pub goes : GoesBeside seat v t
  pub ended : rows.ends why ≡ true → (t.session seat).stand ≡ world.idle
  pub stays : rows.ends why ≡ false → t.session seat ≡ v.session seat

module _ (seat : ℕ) (may : RowStop → Type 0) (v u t : View) (passes : Passes seat v u) where
  there : (why : RowStop) → may why → rows.ends why ≡ false → t ≡ u → Stopped seat may why v t
  there why named stays is = record {
    named = named;
    goes = from_goes seat v u t passes (subst (λ (w : View). Goes u seat w) (sym is) (goes_itself u seat));
    ended = λ ended. cc;
    stays = λ still. ap (λ (w : View). w.session seat) is ∙ passes.own;
  }

  given : (why : RowStop) (oid : ℕ) → may why → rows.ends why ≡ false → GivesUp u seat oid t → Stopped seat may why v t
  given why oid named stays gives =
      let own : t.session seat ≡ u.session seat = ap (λ (w : View). w.session seat) gives.is in record {
        named = named;
        goes = record {
          own = subst (λ (s : Session). Grows s (t.session seat)) passes.own (same own);
          opening = ap (λ (w : View). w.opening) gives.is ∙ passes.opening;
          tail = omega (arith, passes.tail, ap (λ (w : View). w.tail) gives.is);
          flushed = omega (arith, passes.flushed, ap (λ (w : View). w.flushed) gives.is);
          saves = λ active. ap (λ (w : View). w.saves seat) gives.is ∙ passes.saves;
        };
        ended = λ ended. cc;
        stays = λ still. own ∙ passes.own;
      }

  out : (why : RowStop) (w : Work) → may why → rows.ends why ≡ true → phase_at u seat ≡ Active → Extends (work_at u seat) w → IsDone u seat w world.aborts t → Stopped seat may why v t
  out why w named ends active more done = record {
    named = named;
    goes = from_goes seat v u t passes (goes_out seat u t w active done more);
    ended = λ ended. ap (λ (s : Session). s.stand) done.own;
    stays = λ stays. cc;
  }

module _ (seat : ℕ) (v u t : View) (passes : Passes seat v u) (active : phase_at u seat ≡ Active) where
  stopped_read : (oid : ℕ) (why : RowStop) → NotReadBeside seat oid why u t → Stopped seat StopsRead why v t
  stopped_read oid (stop.NotYet other seen) did = there seat StopsRead v u t passes (stop.NotYet other seen) tt refl did.0
  stopped_read oid stop.ReadsFull did = there seat StopsRead v u t passes stop.ReadsFull tt refl did.0
  stopped_read oid (stop.Owned other number) did = absurd did
  stopped_read oid (stop.Newer stamp) did = absurd did
  stopped_read oid stop.WritesFull did = absurd did
  stopped_read oid (stop.CellsFull drawn) did = absurd did
  stopped_read oid (stop.OidsFull drawn) did = absurd did
  stopped_read oid (stop.Excluded succ pred) (new, few, (r, at, done)) =
      out seat StopsRead v u t passes (stop.Excluded succ pred) (reading r (work_at u seat)) tt refl active (one_read_more r (work_at u seat)) done
  stopped_read oid stop.Memory did = there seat StopsRead v u t passes stop.Memory tt refl did.0

  stopped_claim : (oid : ℕ) (why : RowStop) → NotClaimedBeside seat oid why u t → Stopped seat StopsClaim why v t
  stopped_claim oid (stop.NotYet other seen) did = absurd did
  stopped_claim oid stop.ReadsFull did = absurd did
  stopped_claim oid (stop.Owned other number) did =
      out seat StopsClaim v u t passes (stop.Owned other number) (work_at u seat) tt refl active (same_work (work_at u seat)) did.1
  stopped_claim oid (stop.Newer stamp) did =
      out seat StopsClaim v u t passes (stop.Newer stamp) (work_at u seat) tt refl active (same_work (work_at u seat)) did.1
  stopped_claim oid stop.WritesFull did = there seat StopsClaim v u t passes stop.WritesFull tt refl did.0
  stopped_claim oid (stop.CellsFull drawn) did = given seat StopsClaim v u t passes (stop.CellsFull drawn) oid tt refl did.1
  stopped_claim oid (stop.OidsFull drawn) did = absurd did
  stopped_claim oid (stop.Excluded succ pred) (may, (c, at, done)) =
      out seat StopsClaim v u t passes (stop.Excluded succ pred) (claiming c (work_at u seat)) tt refl active (one_claimed_more c (work_at u seat)) done
  stopped_claim oid stop.Memory did = there seat StopsClaim v u t passes stop.Memory tt refl did.0

  stopped_make : (why : RowStop) → NotMadeBeside seat why u t → Stopped seat StopsMake why v t
  stopped_make (stop.NotYet other seen) did = absurd did
  stopped_make stop.ReadsFull did = absurd did
  stopped_make (stop.Owned other number) did = absurd did
  stopped_make (stop.Newer stamp) did = absurd did
  stopped_make stop.WritesFull did = absurd did
  stopped_make (stop.CellsFull drawn) did = absurd did
  stopped_make (stop.OidsFull drawn) did = there seat StopsMake v u t passes (stop.OidsFull drawn) tt refl did.0
  stopped_make (stop.Excluded succ pred) did = absurd did
  stopped_make stop.Memory did = there seat StopsMake v u t passes stop.Memory tt refl did

pub stopped_after : (seat : ℕ) (asked : Asked) (why : RowStop) (v t : View) → phase_at v seat ≡ Active → After seat (RefusedBeside seat asked why) v t → Stopped seat (MayStop asked) why v t
stopped_after seat (asked_read oid) why v t active (u, passes, did) =
    stopped_read seat v u t passes (ap (λ (s : Session). phase_of s.stand) passes.own ∙ active) oid why did
stopped_after seat (asked_claim oid) why v t active (u, passes, did) =
    stopped_claim seat v u t passes (ap (λ (s : Session). phase_of s.stand) passes.own ∙ active) oid why did
stopped_after seat asked_make why v t active (u, passes, did) =
    stopped_make seat v u t passes (ap (λ (s : Session). phase_of s.stand) passes.own ∙ active) why did

-- ANSWERED. The session goes on with what the event makes of its work.
pub record WentAfter (law : Law) (seat : ℕ) (event : Event) (v t : View) : Type 0 where
  pub work : Work
  pub stand : (t.session seat).stand ≡ world.active work
  pub goes : GoesBeside seat v t
  pub moves : Moves law (work_at v seat) event work

pub went_after : (law : Law) (seat : ℕ) (event : Event) (v t : View) → phase_at v seat ≡ Active → AnsweredAfter seat event v t → WentAfter law seat event v t
went_after law seat event v t active (u, passes, did) =
    let after : Went law u seat event t = went law u seat event t (ap (λ (s : Session). phase_of s.stand) passes.own ∙ active) did in record {
      work = after.work;
      stand = after.stand;
      goes = from_goes seat v u t passes after.goes;
      moves = subst (λ (w : Work). Moves law w event after.work) (ap (λ (s : Session). work_of s.stand) passes.own) after.moves;
    }

-- an idle session isn't active
no_longer : (stand : Stand) → stand ≡ world.idle → phase_of stand ≡ Active → ⊥
no_longer stand idle active = let at = ap phase_of idle in cc

-- THE FACE.
module _ {S : Type 0} (law : Law) (own : S → View) (seat : S → ℕ) (stands : S → Type 0) (ends : S → View → Type 0) (one : S → S → Type 0)
    (sound : (s : S) → stands s → IsSound law (own s) (seat s)) where
  abbrev pub shared_face : Face S
  shared_face = beside_face law own seat stands ends one

  steps : (s t : S) (event : Event) → stands t → GoesOnward (seat s) (seat t) (ends s) (ends t) → AnsweredAfter (seat s) event (own s) (own t)
      → (u : Work) → work_at (own t) (seat t) ≡ u → Moves law (work_at (own s) (seat s)) event u → Steps shared_face s event t
  steps s t event standing onward answered u is moves =
      let at : Moves law (work_at (own s) (seat s)) event (work_at (own t) (seat t)) =
      subst (λ (w : Work). Moves law (work_at (own s) (seat s)) event w) (sym is) moves in record {
        answered = (onward, answered);
        fitted = at.fitted;
        told = at.told;
        seen = at.seen;
        made = at.made;
        once = (sound t standing).once;
        claims = at.claims;
        reads = at.reads;
      }

  -- a call that was answered
  pub does : (s t : S) (event : Event) → shared_face.active s → stands t → one s t → GoesOnward (seat s) (seat t) (ends s) (ends t) → AnsweredAfter (seat s) event (own s) (own t) → Does shared_face s event t
  does s t event active standing same_one onward answered =
      let after : WentAfter law (seat s) event (own s) (own t) = went_after law (seat s) event (own s) (own t) active.1 answered in
      let stand : ((own t).session (seat t)).stand ≡ world.active after.work = ap (λ (q : ℕ). ((own t).session q).stand) onward.seat_is ∙ after.stand in record {
        step = steps s t event standing onward answered after.work (ap work_of stand) after.moves;
        active = (standing, ap phase_of stand);
        possible = (sound t standing).possible (ap phase_of stand);
        follows = (same_one, λ before. standing, onward, after.goes);
      }

  same_view : (s t : S) → work_at (own t) (seat t) ≡ work_at (own s) (seat s) → SameView shared_face s t
  same_view s t e = record {
    fitted = λ begun fits. subst (λ (w : Work). FitsWork law w begun) e fits;
    seen = λ begun fits. ap (λ (w : Work). seen_by w begun) e;
    made = λ x. ap (λ (w : Work). times_made w.made x) e;
    claims = λ x. (
      λ claims. subst (λ (w : Work). is_claimed w.claims x ≡ true) e claims,
      λ claims. subst (λ (w : Work). is_claimed w.claims x ≡ true) (sym e) claims,
    );
    reads = λ x. (
      λ reads. subst (λ (w : Work). is_some (row_read w.reads x) ≡ true) e reads,
      λ reads. subst (λ (w : Work). is_some (row_read w.reads x) ≡ true) (sym e) reads,
    );
  }

  stays : (s t : S) → shared_face.active s → stands t → (own t).session (seat t) ≡ (own s).session (seat s) → Stays shared_face s t
  stays s t active standing there =
      let phase : phase_at (own t) (seat t) ≡ Active = ap (λ (x : Session). phase_of x.stand) there ∙ active.1 in record {
        same = same_view s t (ap (λ (x : Session). work_of x.stand) there);
        active = (standing, phase);
        possible = (sound t standing).possible phase;
      }

  -- a call that was refused
  pub refused : (s t : S) (asked : Asked) (why : RowStop) → shared_face.active s → stands t → one s t → GoesOnward (seat s) (seat t) (ends s) (ends t)
      → After (seat s) (RefusedBeside (seat s) asked why) (own s) (own t) → ((f : View) → ends t f → MetBeside f (seat s) asked why (own s) (own t))
      → IsRefused shared_face (MayStop asked) s asked why t
  refused s t asked why active standing same_one onward was met =
      let after : Stopped (seat s) (MayStop asked) why (own s) (own t) = stopped_after (seat s) asked why (own s) (own t) active.1 was in record {
        named = after.named;
        stopped = (onward, was, met);
        follows = (same_one, λ before. standing, onward, after.goes);
        ended = λ ends still. no_longer (((own t).session (seat t)).stand) (ap (λ (q : ℕ). ((own t).session q).stand) onward.seat_is ∙ after.ended ends) still.1;
        stays = λ on. stays s t active standing (ap (λ (q : ℕ). (own t).session q) onward.seat_is ∙ after.stays on);
      }

  -- the same of what a call returned
  pub does_ok : {X : Type 0} (r : Result X RowStop) (s t : S) (event : X → Event) → shared_face.active s → stands t → one s t → GoesOnward (seat s) (seat t) (ends s) (ends t)
      → IfOk r (λ x. AnsweredAfter (seat s) (event x) (own s) (own t)) → IfOk r (λ x. Does shared_face s (event x) t)
  does_ok (Ok x) s t event active standing same_one onward did = does s t (event x) active standing same_one onward did
  does_ok (Err why) s t event active standing same_one onward did = tt

  pub refused_err : {X : Type 0} (r : Result X RowStop) (s t : S) (asked : Asked) → shared_face.active s → stands t → one s t → GoesOnward (seat s) (seat t) (ends s) (ends t)
      → IfErr r (λ why. After (seat s) (RefusedBeside (seat s) asked why) (own s) (own t)) → IfErr r (λ why. (f : View) → ends t f → MetBeside f (seat s) asked why (own s) (own t))
      → IfErr r (λ why. IsRefused shared_face (MayStop asked) s asked why t)
  refused_err (Ok x) s t asked active standing same_one onward was met = tt
  refused_err (Err why) s t asked active standing same_one onward was met = refused s t asked why active standing same_one onward was met
