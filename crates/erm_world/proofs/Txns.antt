-- A session of a world as a transaction: what each call is to the view, and what a refusal leaves.
use Rattle.std.proofs.Common.{◌≡◌, ℕ, zero, suc, ◌+◌, ◌<◌, ◌≤◌, true, false, List, [], ◌∷◌, map, is_some, inl, inr, refl, sym, ap, ◌∙◌, subst, arith, append-nil, Result, Ok, Err, IfOk, IfErr}
use Rattle.std.proofs.lemmas.Bool.{cases_eq}
use Rattle.std.proofs.lemmas.List.{map-append}
use Rattle.erm_model.specs.declared.history.VersionRead.{VersionRead}
use Rattle.erm_model.specs.declared.history.VersionWritten.{VersionWritten}
use Rattle.erm_model.specs.declared.outcome.Phase.TheVariants.{Active}
use Rattle.erm_model.specs.declared.row_stop.RowStop.{RowStop}
use Rattle.erm_model.specs.declared.row_stop.RowStop.TheVariants as stop
use Rattle.erm_model.specs.Lawful.{times_made}
use Rattle.erm_model.specs.RowTransaction.{Asked, Does, Event, Face, IsPossible, IsRefused, Law, SameView, Stays, Steps, StopsClaim, StopsMake, StopsRead, asked_claim, asked_make, asked_read, did_claim, did_make, did_read, did_write}
use Rattle.erm_model.specs.RowTransaction as rows
use Rattle.erm_world.specs.Calls.{DidClaim, DidMake, DidNotClaim, DidNotMake, DidNotRead, DidRead, DidWrite, IsDone, Works}
use Rattle.erm_world.specs.Calls as calls
use Rattle.erm_world.specs.Face.{Answered, Goes, Grows, WasRefused, world_face}
use Rattle.erm_world.specs.Face as face
use Rattle.erm_world.specs.Going.{Extends, found_by}
use Rattle.erm_world.specs.Laws.{FitsWork, IsPossibleIn, IsSerializable}
use Rattle.erm_world.specs.Snapshots.{snapshot_not_active}
use Rattle.erm_world.specs.Works.{claiming, is_claimed, making, reading, row_read, seen_by, setting, with_row}
use Rattle.erm_world.specs.World.{Finished, Has, IsCurrent, IsSession, Session, Stand, View, Work, made_by_all, made_in, made_upto, phase_at, phase_of, work_at, work_of}
use Rattle.erm_world.specs.World as world
use Rattle.erm_world.proofs.Saves.{kept_by}
use Rattle.erm_world.proofs.Works.{Moves, Moves-again, Moves-before, Moves-claim, Moves-first, Moves-make, Moves-own, Moves-write}

-- THE SESSION. Where it is active, it is so with its work.
active_with : (stand : Stand) → phase_of stand ≡ Active → stand ≡ world.active (work_of stand)
active_with world.idle active = cc
active_with (world.active w) active = refl
active_with (world.sealed w stamp) active = cc
active_with (world.snapshot s) active = absurd (snapshot_not_active s active)

-- the transaction in progress is one of the session's
current_of : (stand : Stand) (w : Work) → stand ≡ world.active w → IsCurrent stand (work_of stand)
current_of stand w is = subst (λ (at : Stand). IsCurrent at (work_of at)) (sym is) refl

-- what a session made is made by all
made_among : (n : ℕ) (session : ℕ → Session) (seat x : ℕ) → 0 < seat → seat ≤ n → made_in (session seat) x ≤ made_upto n session x
unfolding made_upto
made_among zero session seat x above within = absurd (omega arith)
made_among (suc n) session seat x above within = elim (cases_eq seat (suc n)) as (λ _. made_in (session seat) x ≤ made_upto n session x + made_in (session (suc n)) x) [
  | inl is ↦ omega (arith, ap (λ (q : ℕ). made_in (session q) x) is)
  | inr another ↦ omega (arith, made_among n session seat x above (omega arith))
]

made_once : (law : Law) (v : View) (seat x : ℕ) → IsSerializable law v → IsSession v seat → times_made (work_at v seat).made x ≤ 1
made_once law v seat x serializable session =
    let among : made_in (v.session seat) x ≤ made_by_all v x = made_among v.opening.sessions v.session seat x session.0 session.1 in
    omega (arith, among, serializable.made_once x)

-- EXTENDS. What one call adds to a work.
same_work : (w : Work) → Extends w w
same_work w = record {
  number = refl;
  begin = refl;
  read = [];
  reads = sym (append-nil w.reads);
  claimed = [];
  claims = sym (append-nil (map found_by w.claims));
  more = [];
  made = sym (append-nil w.made);
}

one_read_more : (r : VersionRead) (w : Work) → Extends w (reading r w)
one_read_more r w = record {
  number = refl;
  begin = refl;
  read = r ∷ [];
  reads = refl;
  claimed = [];
  claims = sym (append-nil (map found_by w.claims));
  more = [];
  made = sym (append-nil w.made);
}

one_claimed_more : (c : VersionWritten) (w : Work) → Extends w (claiming c w)
one_claimed_more c w = record {
  number = refl;
  begin = refl;
  read = [];
  reads = sym (append-nil w.reads);
  claimed = found_by c ∷ [];
  claims = map-append found_by w.claims (c ∷ []);
  more = [];
  made = sym (append-nil w.made);
}

one_made_more : (oid : ℕ) (w : Work) → Extends w (making oid w)
one_made_more oid w = record {
  number = refl;
  begin = refl;
  read = [];
  reads = sym (append-nil w.reads);
  claimed = [];
  claims = sym (append-nil (map found_by w.claims));
  more = oid ∷ [];
  made = refl;
}

found_still : (oid : ℕ) (row : List ℕ) (cs : List VersionWritten) → map found_by (map (with_row oid row) cs) ≡ map found_by cs
found_still oid row [] = refl
found_still oid row (c ∷ cs) = ap (λ (rest : List (ℕ × ℕ × List ℕ)). found_by c ∷ rest) (found_still oid row cs)

one_set : (oid : ℕ) (row : List ℕ) (w u : Work) → Extends w u → Extends w (setting oid row u)
one_set oid row w u goes = record {
  number = goes.number;
  begin = goes.begin;
  read = goes.read;
  reads = goes.reads;
  claimed = goes.claimed;
  claims = found_still oid row u.claims ∙ goes.claims;
  more = goes.more;
  made = goes.made;
}

-- GOES. A session whose work went on, or that was aborted after it had.
goes_on : (v t : View) (seat : ℕ) (w u : Work) → (v.session seat).stand ≡ world.active w → Works v seat u t → Extends w u → Goes v seat t
goes_on v t seat w u is now more = record {
  own = face.works w u is (ap (λ (s : Session). s.over) now.own) (ap (λ (s : Session). s.stand) now.own) more;
  others = now.others;
  opening = now.opening;
  tail = now.tail;
  flushed = now.flushed;
  pinned = now.pinned;
  saves = λ then. kept_by (v.session seat).stand u (t.saves seat) (v.saves seat) (ap phase_of is) now.saves.own;
  saves_of_others = now.saves.others;
}

goes_out : (v t : View) (seat : ℕ) (w u : Work) → (v.session seat).stand ≡ world.active w → IsDone v seat u world.aborts t → Extends w u → Goes v seat t
goes_out v t seat w u is now more = record {
  own = face.ends w u is (ap (λ (s : Session). s.over) now.own) (ap (λ (s : Session). s.stand) now.own) more;
  others = now.others;
  opening = now.opening;
  tail = now.tail;
  flushed = now.flushed;
  pinned = now.pinned;
  saves = λ then. let idle = ap (λ (s : Session). phase_of s.stand) now.own in absurd (cc);
  saves_of_others = now.saves.others;
}

goes_nowhere : (v t : View) (seat : ℕ) → t ≡ v → Goes v seat t
goes_nowhere v t seat is = record {
  own = face.same (ap (λ (u : View). u.session seat) is);
  others = λ q another. ap (λ (u : View). u.session q) is;
  opening = ap (λ (u : View). u.opening) is;
  tail = ap (λ (u : View). u.tail) is;
  flushed = ap (λ (u : View). u.flushed) is;
  pinned = ap (λ (u : View). u.pinned) is;
  saves = λ then. ap (λ (u : View). u.saves seat) is;
  saves_of_others = λ q another. ap (λ (u : View). u.saves q) is;
}

-- ANSWERED. After a call that was answered the session is active, and its work is what the event makes of it.
pub record Went (law : Law) (v : View) (seat : ℕ) (event : Event) (t : View) : Type 0 where
  pub work : Work
  pub stand : (t.session seat).stand ≡ world.active work
  pub more : Extends (work_at v seat) work
  pub goes : Goes v seat t
  pub moves : Moves law (work_at v seat) event work

-- where nothing changed
went_nowhere : (law : Law) (v : View) (seat : ℕ) (event : Event) (t : View) → phase_at v seat ≡ Active → t ≡ v
    → Moves law (work_at v seat) event (work_at v seat) → Went law v seat event t
went_nowhere law v seat event t active is moves = record {
  work = work_at v seat;
  stand = ap (λ (u : View). (u.session seat).stand) is ∙ active_with (v.session seat).stand active;
  more = same_work (work_at v seat);
  goes = goes_nowhere v t seat is;
  moves = moves;
}

went_on : (law : Law) (v : View) (seat : ℕ) (event : Event) (t : View) (u : Work) → phase_at v seat ≡ Active → Works v seat u t
    → Extends (work_at v seat) u → Moves law (work_at v seat) event u → Went law v seat event t
went_on law v seat event t u active now more moves = record {
  work = u;
  stand = ap (λ (s : Session). s.stand) now.own;
  more = more;
  goes = goes_on v t seat (work_at v seat) u (active_with (v.session seat).stand active) now more;
  moves = moves;
}

went_read : (law : Law) (v : View) (seat oid : ℕ) (row : List ℕ) (t : View) → phase_at v seat ≡ Active → DidRead v seat oid row t → Went law v seat (did_read oid row) t
went_read law v seat oid row t active (calls.own is claimed row_is) =
    went_nowhere law v seat (did_read oid row) t active is (Moves-own law (work_at v seat) oid row claimed row_is)
went_read law v seat oid row t active (calls.again is none found) =
    went_nowhere law v seat (did_read oid row) t active is (Moves-again law (work_at v seat) oid row none found)
went_read law v seat oid row t active (calls.first stamp none unread few now) =
    went_on law v seat (did_read oid row) t (reading (record { oid = oid; stamp = stamp; row = row }) (work_at v seat)) active now
    (one_read_more (record { oid = oid; stamp = stamp; row = row }) (work_at v seat))
    (Moves-first law (work_at v seat) oid stamp row none)

went_claim : (law : Law) (v : View) (seat oid : ℕ) (t : View) → phase_at v seat ≡ Active → DidClaim v seat oid t → Went law v seat (did_claim oid) t
went_claim law v seat oid t active (calls.before is claimed) =
    went_nowhere law v seat (did_claim oid) t active is (Moves-before law (work_at v seat) oid claimed)
went_claim law v seat oid t active (calls.now stamp base none few free newest now) =
    let c : VersionWritten = record { oid = oid; stamp = stamp; base = base; row = base; is_set = false } in
    went_on law v seat (did_claim oid) t (claiming c (work_at v seat)) active now (one_claimed_more c (work_at v seat))
    (Moves-claim law (work_at v seat) oid stamp base none)

went_write : (law : Law) (v : View) (seat oid : ℕ) (row : List ℕ) (t : View) → phase_at v seat ≡ Active → DidWrite v seat oid row t → Went law v seat (did_write oid row) t
went_write law v seat oid row t active did =
    let claim = went_claim law v seat oid did.between active did.claim in
    let is : work_at did.between seat ≡ claim.work = ap work_of claim.stand in
    let set : Works v seat (setting oid row claim.work) t = subst (λ (w : Work). Works v seat (setting oid row w) t) is did.set in
    went_on law v seat (did_write oid row) t (setting oid row claim.work) active set (one_set oid row (work_at v seat) claim.work claim.more)
    (Moves-write law (work_at v seat) claim.work oid row claim.moves)

went_make : (law : Law) (v : View) (seat oid : ℕ) (t : View) → phase_at v seat ≡ Active → DidMake v seat oid t → Went law v seat (did_make oid) t
went_make law v seat oid t active now =
    went_on law v seat (did_make oid) t (making oid (work_at v seat)) active now (one_made_more oid (work_at v seat)) (Moves-make law (work_at v seat) oid)

pub went : (law : Law) (v : View) (seat : ℕ) (event : Event) (t : View) → phase_at v seat ≡ Active → Answered v seat event t → Went law v seat event t
went law v seat (did_read oid row) t active answered = went_read law v seat oid row t active answered
went law v seat (did_claim oid) t active answered = went_claim law v seat oid t active answered
went law v seat (did_write oid row) t active answered = went_write law v seat oid row t active answered
went law v seat (did_make oid) t active answered = went_make law v seat oid t active answered

-- REFUSED. A refusal is one that the call may have; by one that ends the session is idle, and by another nothing changed.
pub record Stopped (v : View) (seat : ℕ) (may : RowStop → Type 0) (why : RowStop) (t : View) : Type 0 where
  pub named : may why
  pub goes : Goes v seat t
  pub ended : rows.ends why ≡ true → (t.session seat).stand ≡ world.idle
  pub stays : rows.ends why ≡ false → t ≡ v

stopped_there : (v : View) (seat : ℕ) (may : RowStop → Type 0) (why : RowStop) (t : View) → may why → rows.ends why ≡ false → t ≡ v → Stopped v seat may why t
stopped_there v seat may why t named stays is = record { named = named; goes = goes_nowhere v t seat is; ended = λ ended. cc; stays = λ still. is }

stopped_out : (v : View) (seat : ℕ) (may : RowStop → Type 0) (why : RowStop) (t : View) (u : Work) → phase_at v seat ≡ Active → may why → rows.ends why ≡ true
    → Extends (work_at v seat) u → IsDone v seat u world.aborts t → Stopped v seat may why t
stopped_out v seat may why t u active named ends more done = record {
  named = named;
  goes = goes_out v t seat (work_at v seat) u (active_with (v.session seat).stand active) done more;
  ended = λ ended. ap (λ (s : Session). s.stand) done.own;
  stays = λ stays. cc;
}

stopped_read : (v : View) (seat oid : ℕ) (why : RowStop) (t : View) → phase_at v seat ≡ Active → DidNotRead v seat oid why t → Stopped v seat StopsRead why t
stopped_read v seat oid (stop.NotYet other seen) t active did = stopped_there v seat StopsRead (stop.NotYet other seen) t tt refl did.0
stopped_read v seat oid stop.ReadsFull t active did = stopped_there v seat StopsRead stop.ReadsFull t tt refl did.0
stopped_read v seat oid (stop.Owned other number) t active did = absurd did
stopped_read v seat oid (stop.Newer stamp) t active did = absurd did
stopped_read v seat oid stop.WritesFull t active did = absurd did
stopped_read v seat oid (stop.CellsFull drawn) t active did = absurd did
stopped_read v seat oid (stop.OidsFull drawn) t active did = absurd did
stopped_read v seat oid (stop.Excluded succ pred) t active (new, few, clear, (r, at, done, shut)) =
    stopped_out v seat StopsRead (stop.Excluded succ pred) t (reading r (work_at v seat)) active tt refl (one_read_more r (work_at v seat)) done
stopped_read v seat oid stop.Memory t active did = stopped_there v seat StopsRead stop.Memory t tt refl did.0

stopped_claim : (v : View) (seat oid : ℕ) (why : RowStop) (t : View) → phase_at v seat ≡ Active → DidNotClaim v seat oid why t → Stopped v seat StopsClaim why t
stopped_claim v seat oid (stop.NotYet other seen) t active did = absurd did
stopped_claim v seat oid stop.ReadsFull t active did = absurd did
stopped_claim v seat oid (stop.Owned other number) t active did =
    stopped_out v seat StopsClaim (stop.Owned other number) t (work_at v seat) active tt refl (same_work (work_at v seat)) did.1
stopped_claim v seat oid (stop.Newer stamp) t active did =
    stopped_out v seat StopsClaim (stop.Newer stamp) t (work_at v seat) active tt refl (same_work (work_at v seat)) did.1
stopped_claim v seat oid stop.WritesFull t active did = stopped_there v seat StopsClaim stop.WritesFull t tt refl did.0
stopped_claim v seat oid (stop.CellsFull drawn) t active did = stopped_there v seat StopsClaim (stop.CellsFull drawn) t tt refl did.1
stopped_claim v seat oid (stop.OidsFull drawn) t active did = absurd did
stopped_claim v seat oid (stop.Excluded succ pred) t active (may, unowned, current, (c, at, done, shut)) =
    stopped_out v seat StopsClaim (stop.Excluded succ pred) t (claiming c (work_at v seat)) active tt refl (one_claimed_more c (work_at v seat)) done
stopped_claim v seat oid stop.Memory t active did = stopped_there v seat StopsClaim stop.Memory t tt refl did.0

stopped_make : (v : View) (seat : ℕ) (why : RowStop) (t : View) → phase_at v seat ≡ Active → DidNotMake v seat why t → Stopped v seat StopsMake why t
stopped_make v seat (stop.NotYet other seen) t active did = absurd did
stopped_make v seat stop.ReadsFull t active did = absurd did
stopped_make v seat (stop.Owned other number) t active did = absurd did
stopped_make v seat (stop.Newer stamp) t active did = absurd did
stopped_make v seat stop.WritesFull t active did = absurd did
stopped_make v seat (stop.CellsFull drawn) t active did = absurd did
stopped_make v seat (stop.OidsFull drawn) t active did = stopped_there v seat StopsMake (stop.OidsFull drawn) t tt refl did.0
stopped_make v seat (stop.Excluded succ pred) t active did = absurd did
stopped_make v seat stop.Memory t active did = stopped_there v seat StopsMake stop.Memory t tt refl did

-- the refusals that a call may have, by what it asked for
abbrev pub MayStop : Asked → RowStop → Type 0
MayStop (asked_read oid) why = StopsRead why
MayStop (asked_claim oid) why = StopsClaim why
MayStop asked_make why = StopsMake why

pub stopped : (v : View) (seat : ℕ) (asked : Asked) (why : RowStop) (t : View) → phase_at v seat ≡ Active → WasRefused v seat asked why t → Stopped v seat (MayStop asked) why t
stopped v seat (asked_read oid) why t active refused = stopped_read v seat oid why t active refused
stopped v seat (asked_claim oid) why t active refused = stopped_claim v seat oid why t active refused
stopped v seat asked_make why t active refused = stopped_make v seat why t active refused

-- an idle session isn't active
no_longer : (stand : Stand) → stand ≡ world.idle → phase_of stand ≡ Active → ⊥
no_longer stand idle active = let at = ap phase_of idle in cc

-- THE FACE. What the view says, said of the object that is called.
module _ {S : Type 0} (law : Law) (view : S → View) (seat : S → ℕ) (stands : S → Type 0) (one : S → S → Type 0)
    (serializable : (s : S) → stands s → IsSerializable law (view s)) (possible : (s : S) → stands s → IsPossibleIn law (view s)) where
  -- a session of the world is one in the next state too
  still_session : (s t : S) → seat t ≡ seat s → Goes (view s) (seat s) (view t) → IsSession (view s) (seat s) → IsSession (view t) (seat t)
  still_session s t same goes session =
      subst (λ (q : ℕ). IsSession (view t) q) (sym same) (session.0, omega (arith, session.1, ap (λ (o : world.Opening). o.sessions) goes.opening))

  -- with a work in progress the transaction may have begun on some array
  possible_with : (t : S) (w : Work) → stands t → IsSession (view t) (seat t) → ((view t).session (seat t)).stand ≡ world.active w
      → IsPossible (world_face law view seat stands one) t
  possible_with t w standing session is =
      possible t standing (seat t) (work_at (view t) (seat t)) session (inr (current_of ((view t).session (seat t)).stand w is))

  steps : (s t : S) (event : Event) → stands t → IsSession (view t) (seat t) → seat t ≡ seat s → Answered (view s) (seat s) event (view t)
      → (u : Work) → work_at (view t) (seat t) ≡ u → Moves law (work_at (view s) (seat s)) event u → Steps (world_face law view seat stands one) s event t
  steps s t event standing session same answered u is moves =
      let at : Moves law (work_at (view s) (seat s)) event (work_at (view t) (seat t)) =
      subst (λ (w : Work). Moves law (work_at (view s) (seat s)) event w) (sym is) moves in record {
        answered = (same, answered);
        fitted = at.fitted;
        told = at.told;
        seen = at.seen;
        made = at.made;
        once = λ x. made_once law (view t) (seat t) x (serializable t standing) session;
        claims = at.claims;
        reads = at.reads;
      }

  -- a call that was answered
  pub does : (s t : S) (event : Event) → (world_face law view seat stands one).active s → stands t → one s t → seat t ≡ seat s
      → Answered (view s) (seat s) event (view t) → Does (world_face law view seat stands one) s event t
  does s t event active standing same_world same answered =
      let after = went law (view s) (seat s) event (view t) active.2 answered in
      let stand : ((view t).session (seat t)).stand ≡ world.active after.work = ap (λ (q : ℕ). ((view t).session q).stand) same ∙ after.stand in
      let session : IsSession (view t) (seat t) = still_session s t same after.goes active.1 in record {
        step = steps s t event standing session same answered after.work (ap work_of stand) after.moves;
        active = (standing, session, ap phase_of stand);
        possible = possible_with t after.work standing session stand;
        follows = (same_world, same, λ before. standing, after.goes);
      }

  same_view : (s t : S) → work_at (view t) (seat t) ≡ work_at (view s) (seat s) → SameView (world_face law view seat stands one) s t
  same_view s t e = record {
    fitted = λ begun fits. subst (λ (w : Work). FitsWork law w begun) e fits;
    seen = λ begun fits. ap (λ (w : Work). seen_by w begun) e;
    made = λ x. ap (λ (w : Work). times_made w.made x) e;
    claims = λ x. (
      λ claims. subst (λ (w : Work). is_claimed w.claims x ≡ true) e claims,
      λ claims. subst (λ (w : Work). is_claimed w.claims x ≡ true) (sym e) claims,
    );
    reads = λ x. (
      λ reads. subst (λ (w : Work). is_some (row_read w.reads x) ≡ true) e reads,
      λ reads. subst (λ (w : Work). is_some (row_read w.reads x) ≡ true) (sym e) reads,
    );
  }

  stays : (s t : S) → (world_face law view seat stands one).active s → stands t → seat t ≡ seat s → IsSession (view t) (seat t) → view t ≡ view s
      → Stays (world_face law view seat stands one) s t
  stays s t active standing same session is =
      let there : (view t).session (seat t) ≡ (view s).session (seat s) =
      ap (λ (q : ℕ). (view t).session q) same ∙ ap (λ (v : View). v.session (seat s)) is in
      let stand : ((view t).session (seat t)).stand ≡ world.active (work_at (view s) (seat s)) =
      ap (λ (x : Session). x.stand) there ∙ active_with ((view s).session (seat s)).stand active.2 in record {
        same = same_view s t (ap (λ (x : Session). work_of x.stand) there);
        active = (standing, session, ap phase_of stand);
        possible = possible_with t (work_at (view s) (seat s)) standing session stand;
      }

  -- a call that was refused
  pub refused : (s t : S) (asked : Asked) (why : RowStop) → (world_face law view seat stands one).active s → stands t → one s t → seat t ≡ seat s
      → WasRefused (view s) (seat s) asked why (view t) → IsRefused (world_face law view seat stands one) (MayStop asked) s asked why t
  refused s t asked why active standing same_world same was =
      let after = stopped (view s) (seat s) asked why (view t) active.2 was in
      let session : IsSession (view t) (seat t) = still_session s t same after.goes active.1 in record {
        named = after.named;
        stopped = was;
        follows = (same_world, same, λ before. standing, after.goes);
        ended = λ ends still. no_longer (((view t).session (seat t)).stand) (ap (λ (q : ℕ). ((view t).session q).stand) same ∙ after.ended ends) still.2;
        stays = λ on. stays s t active standing same session (after.stays on);
      }

  -- the same of what a call returned
  pub does_ok : {X : Type 0} (r : Result X RowStop) (s t : S) (event : X → Event) → (world_face law view seat stands one).active s → stands t → one s t → seat t ≡ seat s
      → IfOk r (λ x. Answered (view s) (seat s) (event x) (view t)) → IfOk r (λ x. Does (world_face law view seat stands one) s (event x) t)
  does_ok (Ok x) s t event active standing same_world same did = does s t (event x) active standing same_world same did
  does_ok (Err why) s t event active standing same_world same did = tt

  pub refused_err : {X : Type 0} (r : Result X RowStop) (s t : S) (asked : Asked) → (world_face law view seat stands one).active s → stands t → one s t → seat t ≡ seat s
      → IfErr r (λ why. WasRefused (view s) (seat s) asked why (view t)) → IfErr r (λ why. IsRefused (world_face law view seat stands one) (MayStop asked) s asked why t)
  refused_err (Ok x) s t asked active standing same_world same was = tt
  refused_err (Err why) s t asked active standing same_world same was = refused s t asked why active standing same_world same was
