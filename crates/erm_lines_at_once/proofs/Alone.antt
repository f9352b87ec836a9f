-- A session's own part as a world of its own: what its calls did is so there, whatever others did meanwhile.
use Rattle.std.proofs.Common.{◌≡◌, ◌≢◌, ℕ, ◌==◌, Bool, true, false, cond, List, [], ◌∷◌, length, Option, Some, None, is_some, refl, sym, ap, ◌∙◌, subst, inl, inr, eq-eqb, ne_eqb, arith}
use Rattle.std.proofs.lemmas.Bool.{cases_eq}
use Rattle.erm_model.specs.declared.history.TransactionRecord.{TransactionRecord}
use Rattle.erm_model.specs.declared.history.VersionWritten.{VersionWritten}
use Rattle.erm_model.specs.Lawful.{times_made}
use Rattle.erm_model.specs.Member.{◌∈◌}
use Rattle.erm_model.specs.RowTransaction.{Does, Event, Face, GoesOn, IsPossible, Law, Runs, Stays, Steps, did_claim, did_make, did_read, did_write}
use Rattle.erm_model.specs.Rows.{Rows}
use Rattle.erm_model.proofs.Members.{none_in_nil}
use Rattle.erm_tree.specs.Calls.{DidBy, SawIn}
use Rattle.erm_world.specs.Calls.{Becomes, DidClaim, DidMake, DidRead, DidWrite, HasNoNewer, IsUnowned, KeepsOwnSaves, KeepsSaves, Works}
use Rattle.erm_world.specs.Calls as calls
use Rattle.erm_world.specs.Face.{Answered, Grows, world_face}
use Rattle.erm_world.specs.Laws.{FitsWork, IsCommitOf}
use Rattle.erm_world.specs.Works.{claiming, is_claimed, making, own_row, reading, row_read, seen_by, setting}
use Rattle.erm_world.specs.World.{Finished, IsCurrent, Opening, Session, Stand, View, Work, history_of, phase_at, phase_of, work_at, work_of}
use Rattle.erm_world.specs.World as world
use Rattle.erm_world.proofs.Commits.{tells_commits}
use Rattle.erm_world.proofs.Works.{Moves}
use Rattle.erm_maps.specs.Runs.{Kept, kept_at}
use Rattle.erm_beside.specs.Face.{AnsweredAfter, beside_face}
use Rattle.erm_beside.specs.Laws.{IsSound}
use Rattle.erm_beside.proofs.Given.{given_after}

-- a session that has done nothing
abbrev pub unused : Session
unused = record { over = []; stand = world.idle }

abbrev pub alone_of : ℕ → Opening → Session → List (List VersionWritten) → View
alone_of seat opening s saves = record {
  opening = opening;
  session = λ q. cond (q == seat) s unused;
  tail = 0;
  flushed = 0;
  pinned = None;
  given_up = λ q. [];
  saves = λ q. cond (q == seat) saves [];
}

-- the world in which this session alone has done anything
abbrev pub alone : ℕ → View → View
alone seat v = alone_of seat v.opening (v.session seat) (v.saves seat)

pub alone_own : (seat : ℕ) (v : View) → (alone seat v).session seat ≡ v.session seat
alone_own seat v = ap (λ (b : Bool). cond b (v.session seat) unused) (eq-eqb seat seat refl)

pub alone_other : (seat : ℕ) (v : View) (q : ℕ) → q ≢ seat → (alone seat v).session q ≡ unused
alone_other seat v q another = ap (λ (b : Bool). cond b (v.session seat) unused) (ne_eqb q seat another)

pub alone_saves : (seat : ℕ) (v : View) → (alone seat v).saves seat ≡ v.saves seat
alone_saves seat v = ap (λ (b : Bool). cond b (v.saves seat) []) (eq-eqb seat seat refl)

no_saves : (seat : ℕ) (v : View) (q : ℕ) → q ≢ seat → (alone seat v).saves q ≡ []
no_saves seat v q another = ap (λ (b : Bool). cond b (v.saves seat) []) (ne_eqb q seat another)

pub alone_work : (seat : ℕ) (v : View) → work_at (alone seat v) seat ≡ work_at v seat
alone_work seat v = ap (λ (s : Session). work_of s.stand) (alone_own seat v)

kept_same : (w u : Work) (xs ys : List (List VersionWritten)) → w ≡ u → xs ≡ ys → let k : Kept = record { work = w; saves = xs } in k ≡ record { work = u; saves = ys }
kept_same w u xs ys first second = cc

-- it is a transaction with the same savepoints
pub alone_kept : (seat : ℕ) (v : View) → kept_at (alone seat v) seat ≡ kept_at v seat
alone_kept seat v = kept_same (work_at (alone seat v) seat) (work_at v seat) ((alone seat v).saves seat) (v.saves seat) (alone_work seat v) (alone_saves seat v)

alone_same : (seat : ℕ) (v u : View) → u.session seat ≡ v.session seat → u.saves seat ≡ v.saves seat → u.opening ≡ v.opening → alone seat u ≡ alone seat v
alone_same seat v u own saves opening =
    ap (λ (s : Session). alone_of seat u.opening s (u.saves seat)) own
    ∙ ap (λ (held : List (List VersionWritten)). alone_of seat u.opening (v.session seat) held) saves
    ∙ ap (λ (o : Opening). alone_of seat o (v.session seat) (v.saves seat)) opening

-- THE CALLS. One session became another.
alone_keeps : (seat : ℕ) (s : Session) (v t : View) → KeepsSaves v seat s t → KeepsSaves (alone seat v) seat s (alone seat t)
alone_keeps seat s v t keeps = record {
  own = subst (λ (r : Session). KeepsOwnSaves s.stand r.stand ((alone seat t).saves seat) ((alone seat v).saves seat)) (sym (alone_own seat v))
      (subst (λ (held : List (List VersionWritten)). KeepsOwnSaves s.stand (v.session seat).stand held ((alone seat v).saves seat)) (sym (alone_saves seat t))
      (subst (λ (held : List (List VersionWritten)). KeepsOwnSaves s.stand (v.session seat).stand (t.saves seat) held) (sym (alone_saves seat v)) keeps.own));
  others = λ q another. no_saves seat t q another ∙ sym (no_saves seat v q another);
}

alone_becomes : (seat : ℕ) (s : Session) (v t : View) → Becomes v seat s t → Becomes (alone seat v) seat s (alone seat t)
alone_becomes seat s v t now = record {
  own = alone_own seat t ∙ now.own;
  others = λ q another. alone_other seat t q another ∙ sym (alone_other seat v q another);
  opening = now.opening;
  tail = refl;
  flushed = refl;
  pinned = refl;
  given_up = refl;
  saves = alone_keeps seat s v t now.saves;
}

-- its work became what this makes of it
alone_works : (make : Work → Work) (seat : ℕ) (v t : View) → Works v seat (make (work_at v seat)) t → Works (alone seat v) seat (make (work_at (alone seat v) seat)) (alone seat t)
alone_works make seat v t now =
    subst (λ (r : Session). Becomes (alone seat v) seat (record { over = r.over; stand = world.active (make (work_of r.stand)) }) (alone seat t)) (sym (alone_own seat v))
    (alone_becomes seat (record { over = (v.session seat).over; stand = world.active (make (work_at v seat)) }) v t now)

alone_still : (seat : ℕ) (v t : View) → t ≡ v → alone seat t ≡ alone seat v
alone_still seat v t is = ap (λ (u : View). alone seat u) is

alone_unclaimed : (seat : ℕ) (v : View) (oid : ℕ) (b : Bool) → is_claimed (work_at v seat).claims oid ≡ b → is_claimed (work_at (alone seat v) seat).claims oid ≡ b
alone_unclaimed seat v oid b is = ap (λ (w : Work). is_claimed w.claims oid) (alone_work seat v) ∙ is

alone_unread : (seat : ℕ) (v : View) (oid : ℕ) (o : Option (List ℕ)) → row_read (work_at v seat).reads oid ≡ o → row_read (work_at (alone seat v) seat).reads oid ≡ o
alone_unread seat v oid o is = ap (λ (w : Work). row_read w.reads oid) (alone_work seat v) ∙ is

alone_read : (seat oid : ℕ) (row : List ℕ) (v t : View) → DidRead v seat oid row t → DidRead (alone seat v) seat oid row (alone seat t)
alone_read seat oid row v t (calls.own is claimed row_is) =
    calls.own (alone_still seat v t is) (alone_unclaimed seat v oid true claimed) (row_is ∙ ap (λ (w : Work). own_row w.claims oid []) (sym (alone_work seat v)))
alone_read seat oid row v t (calls.again is none found) =
    calls.again (alone_still seat v t is) (alone_unclaimed seat v oid false none) (alone_unread seat v oid (Some row) found)
alone_read seat oid row v t (calls.first stamp none unread few now) =
    calls.first stamp (alone_unclaimed seat v oid false none) (alone_unread seat v oid None unread)
    (omega (arith, few, ap (λ (w : Work). length w.reads) (alone_work seat v)))
    (alone_works (reading (record { oid = oid; stamp = stamp; row = row })) seat v t now)

-- nobody else has claimed or committed anything there
alone_unowned : (seat oid : ℕ) (v : View) → IsUnowned (alone seat v) seat oid
alone_unowned seat oid v other number owned = subst (λ (s : Session). IsCurrent s.stand owned.work) (alone_other seat v other owned.another) owned.current

alone_newest : (seat oid : ℕ) (v : View) → HasNoNewer (alone seat v) seat oid
alone_newest seat oid v stamp newer =
    let one : IsCommitOf (alone seat v) newer.by = (tells_commits (alone seat v)).only newer.by newer.committed in
    let g : Finished = record { work = one.work; fate = world.commits one.stamp one.succ one.pred } in
    elim (cases_eq one.seat seat) as (λ _. ⊥) [
      | inl own ↦ newer.another (ap (λ (r : TransactionRecord). r.seat) one.is ∙ own)
      | inr another ↦ none_in_nil g (subst (λ (s : Session). g ∈ s.over) (alone_other seat v one.seat another) one.over)
    ]

alone_claim : (seat oid : ℕ) (v t : View) → DidClaim v seat oid t → DidClaim (alone seat v) seat oid (alone seat t)
alone_claim seat oid v t (calls.before is claimed) = calls.before (alone_still seat v t is) (alone_unclaimed seat v oid true claimed)
alone_claim seat oid v t (calls.now stamp base none few free newest now) =
    calls.now stamp base (alone_unclaimed seat v oid false none) (omega (arith, few, ap (λ (w : Work). length w.claims) (alone_work seat v))) (alone_unowned seat oid v) (alone_newest seat oid v)
    (alone_works (claiming (record { oid = oid; stamp = stamp; base = base; row = base; is_set = false })) seat v t now)

-- the work set is that after the claim
alone_sets : (make : Work → Work) (seat : ℕ) (v u t : View) → Works v seat (make (work_at u seat)) t → Works (alone seat v) seat (make (work_at (alone seat u) seat)) (alone seat t)
alone_sets make seat v u t now =
    subst (λ (w : Work). Works (alone seat v) seat (make w) (alone seat t)) (sym (alone_work seat u)) (alone_works (λ x. make (work_at u seat)) seat v t now)

alone_answered : (seat : ℕ) (event : Event) (v t : View) → Answered v seat event t → Answered (alone seat v) seat event (alone seat t)
alone_answered seat (did_read oid row) v t did = alone_read seat oid row v t did
alone_answered seat (did_claim oid) v t did = alone_claim seat oid v t did
alone_answered seat (did_write oid row) v t did = record {
  between = alone seat did.between;
  claim = alone_claim seat oid v did.between did.claim;
  set = alone_sets (setting oid row) seat v did.between t did.set;
}
alone_answered seat (did_make oid) v t did = alone_works (making oid) seat v t did

alone_after : (seat : ℕ) (event : Event) (v t : View) → AnsweredAfter seat event v t → Answered (alone seat v) seat event (alone seat t)
alone_after seat event v t (u, passes, did) =
    subst (λ (x : View). Answered x seat event (alone seat t)) (alone_same seat v u passes.own passes.saves passes.opening) (alone_answered seat event u t did)

-- THE FACE of the session alone, beside that of the session that shares.
module _ {S : Type 0} (law : Law) (own : S → View) (seat : S → ℕ) (stands : S → Type 0) (ends : S → View → Type 0) (one : S → S → Type 0)
    (sound : (s : S) → stands s → IsSound law (own s) (seat s)) where
  abbrev pub Shared : Face S
  Shared = beside_face law own seat stands ends one

  abbrev pub view : S → View
  view s = alone (seat s) (own s)

  abbrev pub any : S → S → Type 0
  any s t = Unit {0}

  abbrev pub Alone : Face S
  Alone = world_face law (λ (s : S). alone (seat s) (own s)) seat stands (λ (s t : S). Unit {0})

  pub work_there : (s : S) → work_at (view s) (seat s) ≡ work_at (own s) (seat s)
  work_there s = alone_work (seat s) (own s)

  pub kept_there : (s : S) → kept_at (view s) (seat s) ≡ kept_at (own s) (seat s)
  kept_there s = alone_kept (seat s) (own s)

  -- another state's view, by the first one's seat
  pub view_at : (s t : S) → seat t ≡ seat s → view t ≡ alone (seat s) (own t)
  view_at s t same = ap (λ (q : ℕ). alone q (own t)) same

  active_alone : (s : S) → Shared.active s → Alone.active s
  active_alone s active = (active.0, (sound s active.0).session, ap (λ (x : Session). phase_of x.stand) (alone_own (seat s) (own s)) ∙ active.1)

  possible_alone : (s : S) → IsPossible Shared s → IsPossible Alone s
  possible_alone s (rows, meets, fits) = (rows, meets, subst (λ (w : Work). FitsWork law w rows) (sym (work_there s)) fits)

  steps_alone : (s t : S) (event : Event) → Steps Shared s event t → Steps Alone s event t
  steps_alone s t event step =
      let onward = step.answered.0 in
      let did : Answered (view s) (seat s) event (view t) =
      subst (λ (x : View). Answered (view s) (seat s) event x) (sym (view_at s t onward.seat_is)) (alone_after (seat s) event (own s) (own t) step.answered.1) in
      let own_moves : Moves law (work_at (own s) (seat s)) event (work_at (own t) (seat t)) =
      record { fitted = step.fitted; told = step.told; seen = step.seen; made = step.made; claims = step.claims; reads = step.reads } in
      let moves : Moves law (work_at (view s) (seat s)) event (work_at (view t) (seat t)) =
      subst (λ (w : Work). Moves law w event (work_at (view t) (seat t))) (sym (work_there s))
      (subst (λ (w : Work). Moves law (work_at (own s) (seat s)) event w) (sym (work_there t)) own_moves) in record {
        answered = (onward.seat_is, did);
        fitted = moves.fitted;
        told = moves.told;
        seen = moves.seen;
        made = moves.made;
        once = λ x. omega (arith, step.once x, ap (λ (w : Work). times_made w.made x) (work_there t));
        claims = moves.claims;
        reads = moves.reads;
      }

  pub runs_alone : (events : List Event) (s t : S) → Runs Shared s events t → Runs Alone s events t
  runs_alone [] s t is = is
  runs_alone (event ∷ events) s t (u, step, rest) = (u, steps_alone s u event step, runs_alone events u t rest)

  -- events in turn give no claim up
  pub given_along : (events : List Event) (s t : S) → Runs Shared s events t → (own t).given_up (seat s) ≡ (own s).given_up (seat s)
  given_along [] s t is = ap (λ (x : S). (own x).given_up (seat s)) is
  given_along (event ∷ events) s t (u, step, rest) =
      subst (λ (q : ℕ). (own t).given_up q ≡ (own u).given_up q) step.answered.0.seat_is (given_along events u t rest) ∙ given_after (seat s) event (own s) (own u) step.answered.1

  pub goes_alone : (events : List Event) (s t : S) → GoesOn Shared s events t → GoesOn Alone s events t
  goes_alone events s t goes = record { runs = runs_alone events s t goes.runs; active = active_alone t goes.active; possible = possible_alone t goes.possible }

  -- all is as it was
  pub stays_alone : (s t : S) → (own t).session (seat t) ≡ (own s).session (seat s) → Stays Shared s t → Stays Alone s t
  stays_alone s t there stays =
      let e : work_at (view t) (seat t) ≡ work_at (view s) (seat s) = work_there t ∙ ap (λ (x : Session). work_of x.stand) there ∙ sym (work_there s) in record {
        same = record {
          fitted = λ begun fits. subst (λ (w : Work). FitsWork law w begun) e fits;
          seen = λ begun fits. ap (λ (w : Work). seen_by w begun) e;
          made = λ x. ap (λ (w : Work). times_made w.made x) e;
          claims = λ x. (
            λ claims. subst (λ (w : Work). is_claimed w.claims x ≡ true) e claims,
            λ claims. subst (λ (w : Work). is_claimed w.claims x ≡ true) (sym e) claims,
          );
          reads = λ x. (
            λ reads. subst (λ (w : Work). is_some (row_read w.reads x) ≡ true) e reads,
            λ reads. subst (λ (w : Work). is_some (row_read w.reads x) ≡ true) (sym e) reads,
          );
        };
        active = active_alone t stays.active;
        possible = possible_alone t stays.possible;
      }

  pub follows_alone : (s t : S) → Shared.follows s t → Alone.follows s t
  follows_alone s t (same_one, standing, onward, goes) =
      let there : (view t).session (seat s) ≡ (own t).session (seat s) = ap (λ (x : View). x.session (seat s)) (view_at s t onward.seat_is) ∙ alone_own (seat s) (own t) in
      let there_saves : (view t).saves (seat s) ≡ (own t).saves (seat s) = ap (λ (x : View). x.saves (seat s)) (view_at s t onward.seat_is) ∙ alone_saves (seat s) (own t) in (
        tt,
        onward.seat_is,
        standing,
        record {
          own = subst (λ (r : Session). Grows r ((view t).session (seat s))) (sym (alone_own (seat s) (own s))) (subst (λ (r : Session). Grows ((own s).session (seat s)) r) (sym there) goes.own);
          others = λ q another.
              ap (λ (x : View). x.session q) (view_at s t onward.seat_is) ∙ alone_other (seat s) (own t) q another ∙ sym (alone_other (seat s) (own s) q another);
          opening = goes.opening;
          tail = refl;
          flushed = refl;
          pinned = refl;
          saves = λ active. there_saves ∙ goes.saves (sym (ap (λ (x : Session). phase_of x.stand) there) ∙ active) ∙ sym (alone_saves (seat s) (own s));
          saves_of_others = λ q another.
              ap (λ (x : View). x.saves q) (view_at s t onward.seat_is) ∙ no_saves (seat s) (own t) q another ∙ sym (no_saves (seat s) (own s) q another);
        },
      )

  pub saw_alone : (objects : Rows → ℕ → Type 0) (fact : Rows → Type 0) (s t : S) → SawIn Shared objects s t fact → SawIn Alone objects s t fact
  saw_alone objects fact s t did = record {
    saw = record {
      events = did.saw.events;
      reads = did.saw.reads;
      goes_on = goes_alone did.saw.events s t did.saw.goes_on;
      follows = follows_alone s t did.saw.follows;
      saw = did.saw.saw;
    };
    reads = did.reads;
  }

  pub did_alone : (kind : Rows → List Event → Type 0) (change : Rows → Rows → Type 0) (s t : S) → DidBy Shared kind s t change → DidBy Alone kind s t change
  did_alone kind change s t did = record {
    did = record {
      events = did.did.events;
      goes_on = goes_alone did.did.events s t did.did.goes_on;
      follows = follows_alone s t did.did.follows;
      lawful = did.did.lawful;
      did = did.did.did;
    };
    by = did.by;
  }

  -- a call that was answered
  pub does_alone : (event : Event) (s t : S) → Does Shared s event t → Does Alone s event t
  does_alone event s t does = record {
    step = steps_alone s t event does.step;
    active = active_alone t does.active;
    possible = possible_alone t does.possible;
    follows = follows_alone s t does.follows;
  }
