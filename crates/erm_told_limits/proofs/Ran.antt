-- Calls of a session's transaction that were answered in turn: what they leave of its work, and of its session.
use Rattle.std.proofs.Common.{◌≡◌, ◌≢◌, ℕ, ◌+◌, ◌≤◌, ◌⊎◌, true, is_some, List, [], ◌∷◌, map, append-nil, inl, inr, refl, sym, ap, ◌∙◌, subst, arith}
use Rattle.erm_model.specs.declared.outcome.Phase.TheVariants.{Active}
use Rattle.erm_model.specs.Lawful.{times_made}
use Rattle.erm_model.specs.RowTransaction.{Event, Law, ReadBy, Tells, TellsAll, after_all, did_claim, did_make, did_read, did_write, made_by_all}
use Rattle.erm_model.specs.Rows.{Rows}
use Rattle.erm_model.proofs.RowCalls.{made_by-itself}
use Rattle.erm_tree.specs.Tables.{AreClaiming}
use Rattle.erm_world.specs.Face.{Goes, Grows}
use Rattle.erm_world.specs.Face as face
use Rattle.erm_world.specs.Going.{Extends, found_by}
use Rattle.erm_world.specs.Laws.{FitsWork}
use Rattle.erm_world.specs.Onward.{extends_then}
use Rattle.erm_world.specs.Snapshots.{snapshot_not_active}
use Rattle.erm_world.specs.Works.{is_claimed, row_read, seen_by}
use Rattle.erm_world.specs.World.{Session, Stand, View, Work, phase_at, phase_of, work_at, work_of}
use Rattle.erm_world.specs.World as world
use Rattle.erm_world.proofs.Txns.{Went, went}
use Rattle.erm_world.proofs.Works.{Moves, work_face}
use Rattle.erm_lines.specs.Operations.{Ran}

-- an active session is so with its work
pub active_with : (stand : Stand) → phase_of stand ≡ Active → stand ≡ world.active (work_of stand)
active_with world.idle active = cc
active_with (world.active w) active = refl
active_with (world.sealed w stamp) active = cc
active_with (world.snapshot s) active = absurd (snapshot_not_active s active)

-- a work that has not gone on
pub same_work : (w : Work) → Extends w w
same_work w = record {
  number = refl;
  begin = refl;
  read = [];
  reads = sym (append-nil w.reads);
  claimed = [];
  claims = sym (append-nil (map found_by w.claims));
  more = [];
  made = sym (append-nil w.made);
}

-- some of these events reads the object
abbrev pub AreReading : List Event → ℕ → Type 0
AreReading [] x = ⊥
AreReading (did_read oid row ∷ events) x = (x ≡ oid) ⊎ AreReading events x
AreReading (did_claim oid ∷ events) x = AreReading events x
AreReading (did_write oid row ∷ events) x = AreReading events x
AreReading (did_make oid ∷ events) x = AreReading events x

-- what events in turn make of a work
pub record MovesAll (law : Law) (w : Work) (events : List Event) (u : Work) : Type 0 where
  pub fitted : (rows : Rows) → FitsWork law u rows → FitsWork law w rows
  pub seen : (rows : Rows) → FitsWork law u rows → seen_by u rows ≡ after_all events (seen_by w rows)
  pub made : (x : ℕ) → times_made u.made x ≡ times_made w.made x + made_by_all events x
  pub claims : (x : ℕ) → is_claimed u.claims x ≡ true → (is_claimed w.claims x ≡ true) ⊎ AreClaiming events x
  pub reads : (x : ℕ) → is_some (row_read u.reads x) ≡ true → (is_some (row_read w.reads x) ≡ true) ⊎ AreReading events x
  -- where no object was made twice, they tell what is so of an array that reaches no more than the one begun on and what was made before
  pub told : (rows array : Rows) → FitsWork law u rows → ((x : ℕ) → times_made u.made x ≤ 1) → ((x : ℕ) → law.reach array x ≤ law.reach rows x + times_made w.made x)
      → TellsAll law events array (seen_by w rows)

pub moves_nothing : (law : Law) (w : Work) → MovesAll law w [] w
moves_nothing law w = record {
  fitted = λ rows fits. fits;
  seen = λ rows fits. refl;
  made = λ x. omega arith;
  claims = λ x is. inl is;
  reads = λ x is. inl is;
  told = λ rows array fits once near. tt;
}

reading_first : (law : Law) (w : Work) (event : Event) (events : List Event) (x : ℕ) → ReadBy (work_face law) w event x → AreReading (event ∷ events) x
reading_first law w (did_read oid row) events x by = inl by.0
reading_first law w (did_claim oid) events x by = absurd by
reading_first law w (did_write oid row) events x by = absurd by
reading_first law w (did_make oid) events x by = absurd by

reading_later : (event : Event) (events : List Event) (x : ℕ) → AreReading events x → AreReading (event ∷ events) x
reading_later (did_read oid row) events x by = inr by
reading_later (did_claim oid) events x by = by
reading_later (did_write oid row) events x by = by
reading_later (did_make oid) events x by = by

tells_first : (law : Law) (w u : Work) (event : Event) → Moves law w event u → (rows array : Rows) → FitsWork law u rows → ((x : ℕ) → times_made u.made x ≤ 1)
    → ((x : ℕ) → law.reach array x ≤ law.reach rows x + times_made w.made x) → Tells law event array (seen_by w rows)
tells_first law w u (did_read oid row) moves rows array fits once near = moves.told rows fits
tells_first law w u (did_claim oid) moves rows array fits once near = tt
tells_first law w u (did_write oid row) moves rows array fits once near = tt
tells_first law w u (did_make oid) moves rows array fits once near =
    let unreached : law.reach rows oid ≡ 0 = moves.told rows fits in
    omega (arith, near oid, unreached, moves.made oid, once oid, made_by-itself oid)

pub moves_on : (law : Law) (w u : Work) (event : Event) (events : List Event) (x : Work) → Moves law w event x → MovesAll law x events u → MovesAll law w (event ∷ events) u
moves_on law w u event events x first rest = record {
  fitted = λ rows fits. first.fitted rows (rest.fitted rows fits);
  seen = λ rows fits. rest.seen rows fits ∙ ap (after_all events) (first.seen rows (rest.fitted rows fits));
  made = λ y. omega (arith, first.made y, rest.made y);
  claims = λ y is. elim (rest.claims y is) [
    | inl before ↦ elim ((first.claims y).0 before) [ inl older ↦ inl older | inr here ↦ inr (inl here) ]
    | inr later ↦ inr (inr later)
  ];
  reads = λ y is. elim (rest.reads y is) [
    | inl before ↦ elim ((first.reads y).0 before) [ inl older ↦ inl older | inr here ↦ inr (reading_first law w event events y here) ]
    | inr later ↦ inr (reading_later event events y later)
  ];
  told = λ rows array fits once near.
      let fits_first = rest.fitted rows fits in (
        tells_first law w x event first rows array fits_first (λ y. omega (arith, rest.made y, once y)) near,
        subst (λ (seen : Rows). TellsAll law events array seen) (first.seen rows fits_first)
            (rest.told rows array fits once (λ y. omega (arith, near y, first.made y))),
      );
}

-- the session has the transaction still, with its savepoints, and nothing else changed
pub record Stays (v : View) (seat : ℕ) (t : View) : Type 0 where
  pub stand : (t.session seat).stand ≡ world.active (work_at t seat)
  pub over : (t.session seat).over ≡ (v.session seat).over
  pub others : (q : ℕ) → q ≢ seat → t.session q ≡ v.session q
  pub saves : (q : ℕ) → q ≢ seat → t.saves q ≡ v.saves q
  pub held : t.saves seat ≡ v.saves seat
  pub opening : t.opening ≡ v.opening
  pub more : Extends (work_at v seat) (work_at t seat)

over_kept : (s t : Session) (w : Work) → Grows s t → t.stand ≡ world.active w → t.over ≡ s.over
over_kept s t w (face.same e) is = ap (λ (at : Session). at.over) e
over_kept s t w (face.works x u begins over stands more) is = over
over_kept s t w (face.ends x u begins over stands more) is = let no : world.idle ≡ world.active w = sym stands ∙ is in cc

pub stays_one : (law : Law) (v : View) (seat : ℕ) (event : Event) (t : View) → phase_at v seat ≡ Active → Went law v seat event t → Stays v seat t
stays_one law v seat event t active it =
    let is : work_at t seat ≡ it.work = ap work_of it.stand in record {
      stand = it.stand ∙ ap world.active (sym is);
      over = over_kept (v.session seat) (t.session seat) it.work it.goes.own it.stand;
      others = it.goes.others;
      saves = it.goes.saves_of_others;
      held = it.goes.saves (ap phase_of it.stand);
      opening = it.goes.opening;
      more = subst (λ (w : Work). Extends (work_at v seat) w) (sym is) it.more;
    }

pub stays_then : (v t u : View) (seat : ℕ) → Stays v seat t → Stays t seat u → Stays v seat u
stays_then v t u seat first second = record {
  stand = second.stand;
  over = second.over ∙ first.over;
  others = λ q another. second.others q another ∙ first.others q another;
  saves = λ q another. second.saves q another ∙ first.saves q another;
  held = second.held ∙ first.held;
  opening = second.opening ∙ first.opening;
  more = extends_then (work_at v seat) (work_at t seat) (work_at u seat) first.more second.more;
}

stays_itself : (v t : View) (seat : ℕ) → phase_at v seat ≡ Active → t ≡ v → Stays v seat t
stays_itself v t seat active is =
    let same : t.session seat ≡ v.session seat = ap (λ (x : View). x.session seat) is in record {
      stand = active_with (t.session seat).stand (ap (λ (s : Session). phase_of s.stand) same ∙ active);
      over = ap (λ (s : Session). s.over) same;
      others = λ q another. ap (λ (x : View). x.session q) is;
      saves = λ q another. ap (λ (x : View). x.saves q) is;
      held = ap (λ (x : View). x.saves seat) is;
      opening = ap (λ (x : View). x.opening) is;
      more = subst (λ (s : Session). Extends (work_at v seat) (work_of s.stand)) (sym same) (same_work (work_at v seat));
    }

-- calls in turn leave the transaction in progress, with what the events make of its work
pub ran : (law : Law) (events : List Event) (v t : View) (seat : ℕ) → phase_at v seat ≡ Active → Ran v seat events t
    → Stays v seat t × MovesAll law (work_at v seat) events (work_at t seat)
ran law [] v t seat active is = (
  stays_itself v t seat active is,
  subst (λ (w : Work). MovesAll law (work_at v seat) [] w) (ap (λ (x : View). work_at x seat) (sym is)) (moves_nothing law (work_at v seat)),
)
ran law (event ∷ events) v t seat active (u, answered, rest) =
    let it = went law v seat event u active answered in
    let is : work_at u seat ≡ it.work = ap work_of it.stand in
    let first : Moves law (work_at v seat) event (work_at u seat) = subst (λ (w : Work). Moves law (work_at v seat) event w) (sym is) it.moves in
    let there = stays_one law v seat event u active it in
    let later = ran law events u t seat (ap phase_of it.stand) rest in
    (stays_then v u t seat there later.0, moves_on law (work_at v seat) (work_at t seat) event events (work_at u seat) first later.1)
