-- Steps that move cells: an install or a release of an entry, a cut, and a draw from the counter.
use Rattle.std.proofs.Common.{◌≡◌, ℕ, ◌+◌, ◌<◌, ⊎_elim, Bool, true, false, cond, eqb, ltb, ◌&&◌, ◌||◌, List, [], ◌++◌, count_by, drop, take, get_or, set, length, length-set, length-take, Option, Some, None, refl, sym, ap, subst, arith}
use Rattle.std.specs.Prelude.{if◌then◌else◌}
use Rattle.std.proofs.lemmas.Bool.{and_parts, cases_eq, ltb-true, eqb-true}
use Rattle.std.proofs.lemmas.Grind.{get_or-set_at}
use Rattle.std.proofs.lemmas.List.{get_or-set_other, get_or-take}
use Rattle.std.proofs.lemmas.List.Sums.{sum_by-cons, sum_by-append}
use Rattle.erm_machine.specs.declared.limits.TheConstants.{OBJECT_LIMIT}
use Rattle.erm_machine.specs.declared.attempt.Claim.{Claim}
use Rattle.erm_machine.specs.declared.attempt.OwnCell.{OwnCell}
use Rattle.erm_machine.specs.declared.event.Counter.{Counter}
use Rattle.erm_machine.specs.declared.event.Counter.TheVariants.{Objects, Cells}
use Rattle.erm_machine.specs.declared.part.Part.{Part}
use Rattle.erm_machine.specs.declared.place.Place.{Place}
use Rattle.erm_machine.specs.declared.place.Place.TheVariants.{Active, Decided}
use Rattle.erm_machine.specs.declared.task.Task.{Task}
use Rattle.erm_machine.specs.declared.task.Task.TheVariants as task
use Rattle.erm_machine.specs.declared.version.Version.{Version}
use Rattle.erm_machine.specs.declared.version.VersionAt.{VersionAt}
use Rattle.erm_machine.specs.Cells.{own_times, MayWant, WantsCell}
use Rattle.erm_machine.specs.Core.{Object, claim_at, no_claim, own_words}
use Rattle.erm_machine.specs.Facts.{HasBegun}
use Rattle.erm_machine.specs.Reading.{detached, cut_off, swap_link, load_counter, add_counter, with_cell}
use Rattle.erm_machine.specs.Seat.{end_of, is_active, is_decided, is_commit, is_own, cells_of, last_claim, same_version}
use Rattle.erm_machine.specs.Settling.{unclaim, install_claim, adds_version, installs, install_new, release_old, install}
use Rattle.erm_machine.specs.Step.{added}
use Rattle.erm_machine.specs.Words.{blank_cell}
use Rattle.erm_machine.proofs.Guards.{when_then, if_then, either_way}
use Rattle.erm_machine.proofs.QuietKinds.{begun_active, begun_decided}
use Rattle.erm_core_cells.proofs.CellsCounts.{count_set, count_last, count_map}
use Rattle.erm_core_cells.proofs.CellsCalls.{EndIs, ends_bare, none_own, detached_keeps, starts_bare}
use Rattle.erm_core_cells.proofs.CellsLeaves.{times_in, BareAt, bare_given, bare_quits, bare_wants, no_more_same, KeepsCells, wants_as}

begun_ending : (p : Place) → (is_decided p || is_active p) ≡ true → HasBegun p
begun_ending (Active tail) e = tt
begun_ending (Decided tail stamp) e = tt
begun_ending _ e = absurd (cc)

-- how often a cell stands in a version that an install adds
abbrev pub gained : ℕ → Option Version → ℕ
gained cell None = 0
gained cell (Some v) = cond (eqb v.cell cell) 1 0

-- what an install or a release leaves of the seat's cells: they go to the chain, or stay
pub record Installs (x : Part) (v : Option Version) (y : Part) : Type 0 where
  pub begun : HasBegun x.place
  pub times : (cell : ℕ) → own_times cell y + gained cell v ≡ own_times cell x
  pub wants : WantsCell y y.task
  pub bare : BareAt y.current.writes y.task

-- an own cell
own_is : (head cell : ℕ) (o : Option OwnCell) → is_own head o ≡ true → is_own cell o ≡ eqb head cell
own_is head cell None e = absurd (cc)
own_is head cell (Some own) e = ap (λ n. eqb n cell) (eqb-true own.cell head e)

cells_of_count : (cell : ℕ) (o : Option OwnCell) → count_by (λ (own : OwnCell). eqb own.cell cell) (cells_of o) ≡ cond (is_own cell o) 1 0
cells_of_count cell None = refl
cells_of_count cell (Some own) = let e = sum_by-cons (λ (z : OwnCell). cond (eqb z.cell cell) 1 0) own [] in omega (arith, e)

-- the claim at a place gives its cell up
given_up : (cell : ℕ) (x : Part) (place : ℕ) → place < length x.current.writes →
    times_in cell (set x.current.writes place (record (claim_at x.current place) { held = false; own = None })) + cond (is_own cell (claim_at x.current place).own) 1 0 ≡ times_in cell x.current.writes
given_up cell x place within =
    let sum = count_set (λ (w : Claim). is_own cell w.own) x.current.writes place (record (claim_at x.current place) { held = false; own = None }) no_claim within in
    omega (arith, sum)

unclaim_moves : (oid head : ℕ) (x : Part) (y : Part) → WantsCell x task.Refused → BareAt x.current.writes task.Refused → unclaim oid head x ≡ Some y → Installs x None y
unclaim_moves oid head x y wants bare e =
    when_then (Installs x None) _ _ y e (λ g. record {
      begun = begun_active x.place (and_parts _ _ (and_parts _ _ (and_parts _ _ g).0).0).0;
      times = λ cell.
          let sum = count_last (λ (w : Claim). is_own cell w.own) x.current.writes no_claim wants.0 in
          let bare : ◌≡◌ {A = ℕ} (cond (is_own cell (claim_at x.current (last_claim x.current)).own) 1 0) 0 = ap (λ (b : Bool). cond b 1 0) (none_own cell _ wants.1) in
          omega (arith, sum, bare);
      wants = tt;
      bare = λ k within held none.
          let size = length-take (last_claim x.current) x.current.writes in
          let before : k < last_claim x.current = omega (arith, size, within) in
          let e : get_or (take (last_claim x.current) x.current.writes) k no_claim ≡ get_or x.current.writes k no_claim = get_or-take (last_claim x.current) x.current.writes k no_claim before in
          let last : k ≡ last_claim x.current = (bare k (omega (arith, before)) (subst (λ (z : Claim). z.held ≡ true) e held) (subst (λ (z : Claim). z.own ≡ None) e none)).0 in
          absurd (omega (arith, before, last));
    })

-- the claim at a place is over
bare_over : (x : Part) (t u : Task) (place : ℕ) → (MayWant t → ⊥) → BareAt x.current.writes t
    → BareAt (set x.current.writes place (record (claim_at x.current place) { held = false; own = None })) u
bare_over x t u place quits b = λ k within held none.
    let w : Claim = record (claim_at x.current place) { held = false; own = None } in
    let size = length-set x.current.writes place w in
    ⊎_elim
    (λ (same : k ≡ place).
    let e : get_or (set x.current.writes place w) k no_claim ≡ w = get_or-set_at x.current.writes place k w no_claim same (omega (arith, size, within, same)) in
    let gone : (get_or (set x.current.writes place w) k no_claim).held ≡ false = ap (λ (z : Claim). z.held) e in
    absurd (cc))
    (λ (other : k ≡ place → ⊥).
    let e : get_or (set x.current.writes place w) k no_claim ≡ get_or x.current.writes k no_claim = get_or-set_other x.current.writes place k w no_claim other in
    absurd (quits (b k (omega (arith, size, within)) (subst (λ (z : Claim). z.held ≡ true) e held) (subst (λ (z : Claim). z.own ≡ None) e none)).1))
    (cases_eq k place)

install_new_moves : (oid head : ℕ) (x : Part) (t : Task) (c : ℕ × ℕ × ℕ × ℕ) (y : Part) → (MayWant t → ⊥) → BareAt x.current.writes t → adds_version x ≡ true → install_new oid head x c ≡ Some y → Installs x (added head x (Some c)) y
install_new_moves oid head x t c y quits bare adds e =
    when_then (Installs x (added head x (Some c))) _ _ y e (λ g.
    let guard = and_parts _ _ g in
    let ready : installs c.0 c.1 c.2 x ≡ true = (and_parts _ _ (and_parts _ _ guard.0).0).0 in
    let within : c.1 < length x.current.writes = ltb-true c.1 (length x.current.writes) (and_parts (is_decided x.place && is_commit x.current.decision && eqb c.0 (length x.current.reads)) (ltb c.1 (length x.current.writes)) ready).1 in
    record {
      begun = begun_decided x.place (and_parts _ _ adds).0;
      times = λ cell.
          let left = given_up cell x c.1 within in
          let v : Version = record { cell = head; words = own_words (claim_at x.current c.1).own } in
          let gain : gained cell (added head x (Some c)) ≡ cond (eqb head cell) 1 0 = ap (λ (b : Bool). gained cell (if b then Some v else None)) adds in
          let own : ◌≡◌ {A = ℕ} (cond (is_own cell (claim_at x.current c.1).own) 1 0) (cond (eqb head cell) 1 0) = ap (λ (b : Bool). cond b 1 0) (own_is head cell (claim_at x.current c.1).own guard.1) in
          omega (arith, left, gain, own);
      wants = tt;
      bare = bare_over x t (task.Ends c.0 (c.1 + 1) 0 c.3) c.1 quits bare;
    })

release_moves : (oid head : ℕ) (x : Part) (t : Task) (c : ℕ × ℕ × ℕ × ℕ) (y : Part) → (MayWant t → ⊥) → BareAt x.current.writes t → adds_version x ≡ false → release_old oid head x c ≡ Some y → Installs x (added head x (Some c)) y
release_moves oid head x t c y quits bare adds e =
    when_then (Installs x (added head x (Some c))) _ _ y e (λ g.
    let guard = and_parts _ _ (and_parts _ _ (and_parts _ _ g).0).0 in
    let within : c.1 < length x.current.writes = ltb-true _ _ guard.1 in
    record {
      begun = begun_ending x.place guard.0;
      times = λ cell.
          let left = given_up cell x c.1 within in
          let v : Version = record { cell = head; words = own_words (claim_at x.current c.1).own } in
          let gain : gained cell (added head x (Some c)) ≡ 0 = ap (λ (b : Bool). gained cell (if b then Some v else None)) adds in
          let both : count_by (λ (own : OwnCell). eqb own.cell cell) (x.spare ++ cells_of (claim_at x.current c.1).own) ≡ count_by (λ (own : OwnCell). eqb own.cell cell) x.spare + count_by (λ (own : OwnCell). eqb own.cell cell) (cells_of (claim_at x.current c.1).own) =
          sum_by-append (λ (own : OwnCell). cond (eqb own.cell cell) 1 0) x.spare (cells_of (claim_at x.current c.1).own) in
          let back = cells_of_count cell (claim_at x.current c.1).own in
          omega (arith, left, gain, both, back);
      wants = tt;
      bare = bare_over x t (task.Ends c.0 (c.1 + 1) 0 c.3) c.1 quits bare;
    })

install_claim_moves : (oid head : ℕ) (x : Part) (t : Task) (o : Option (ℕ × ℕ × ℕ × ℕ)) (y : Part) → end_of t ≡ o → BareAt x.current.writes t → install_claim oid head x o ≡ Some y → Installs x (added head x o) y
install_claim_moves oid head x t None y is bare e = absurd (cc)
install_claim_moves oid head x t (Some c) y is bare e =
    let quits = ends_bare t (subst EndIs (sym is) tt) in
    if_then (Installs x (added head x (Some c))) (adds_version x) (install_new oid head x c) (release_old oid head x c) y e
    (λ adds h. install_new_moves oid head x t c y quits bare adds h) (λ not_adds h. release_moves oid head x t c y quits bare not_adds h)

install_other_moves : (oid head : ℕ) (x : Part) (t : Task) (y : Part) → BareAt x.current.writes t → install_claim oid head x (end_of t) ≡ Some y → Installs x (added head x (end_of t)) y
install_other_moves oid head x t y bare e = install_claim_moves oid head x t (end_of t) y refl bare e

pub install_moves : (oid head : ℕ) (x : Part) (t : Task) (y : Part) → WantsCell x t → BareAt x.current.writes t → install oid head x t ≡ Some y → Installs x (added head x (end_of t)) y
install_moves oid head x task.Refused y wants bare e = unclaim_moves oid head x y wants bare e
install_moves oid head x t y wants bare e = install_other_moves oid head x t y bare e

-- what a cut leaves: the cells cut off are spare ones
pub record CutsOff (x : Part) (o : Object) (v : VersionAt) (version : VersionAt) (y : Part) : Type 0 where
  pub begun : HasBegun x.place
  pub same : same_version v version ≡ true
  pub times : (cell : ℕ) → own_times cell y ≡ own_times cell x + count_by (λ u. eqb u.cell cell) (drop o.cut (take version.place o.versions))
  pub wants : WantsCell y y.task
  pub bare : BareAt x.current.writes (task.CutFound version 0) → BareAt y.current.writes y.task

pub swap_moves : (found : ℕ) (v : VersionAt) (o : Object) (x : Part) (version : VersionAt) (horizon : ℕ) (y : Part) → 0 < length x.current.writes
    → swap_link found v o x (task.CutFound version horizon) ≡ Some y → CutsOff x o v version y
swap_moves found v o x version horizon y some e =
    when_then (CutsOff x o v version) _ _ y e (λ g. record {
      begun = begun_active x.place (and_parts _ _ g).0;
      same = (and_parts _ _ g).1;
      times = λ cell.
          let off : List Version = drop o.cut (take version.place o.versions) in
          let both : count_by (λ (own : OwnCell). eqb own.cell cell) (x.spare ++ cut_off version.place o) ≡ count_by (λ (own : OwnCell). eqb own.cell cell) x.spare + count_by (λ (own : OwnCell). eqb own.cell cell) (cut_off version.place o) =
          sum_by-append (λ (own : OwnCell). cond (eqb own.cell cell) 1 0) x.spare (cut_off version.place o) in
          let mapped : count_by (λ (own : OwnCell). eqb own.cell cell) (cut_off version.place o) ≡ count_by (λ (u : Version). eqb u.cell cell) off =
          count_map (λ (own : OwnCell). eqb own.cell cell) (λ (u : Version). record { cell = u.cell; words = u.words }) off in
          omega (arith, both, mapped);
      wants = wants_as x (record x { task = detached found version x; spare = x.spare ++ cut_off version.place o }) (detached found version x) (λ b. b)
          ((detached_keeps found version x (task.CutFound version horizon) some).wants tt);
      bare = (detached_keeps found version x (task.CutFound version horizon) some).bare;
    })

-- a counter is loaded
pub load_counter_cells : (cells : ℕ) (counter : Counter) (found : ℕ) (x : Part) (t : Task) (y : Part) → load_counter cells counter found x t ≡ Some y → KeepsCells x t y
load_counter_cells cells Objects found x t y e =
    when_then (KeepsCells x t) _ _ y e (λ g.
    let u : Task = if ltb found OBJECT_LIMIT then task.Numbers else task.Rest in
    record {
      times = λ _. refl;
      wants = λ _. either_way (λ (v : Task). WantsCell (record x { task = u }) v) (ltb found OBJECT_LIMIT) task.Numbers task.Rest (λ _. tt) (λ _. tt);
      bare = bare_quits x.current.writes x.current.writes t u (starts_bare t (and_parts _ _ g).1) (no_more_same x.current.writes);
    })
load_counter_cells cells Cells found x task.Draws y e =
    when_then (KeepsCells x task.Draws) _ _ y e (λ _.
    let u : Task = if ltb found cells then task.Pool else task.Refused in
    record {
      times = λ _. refl;
      wants = λ w. either_way (λ (v : Task). WantsCell (record x { task = u }) v) (ltb found cells) task.Pool task.Refused (λ _. w) (λ _. w);
      bare = bare_wants x.current.writes task.Draws u (either_way MayWant (ltb found cells) task.Pool task.Refused (λ _. tt) (λ _. tt));
    })
load_counter_cells cells Cells found x _ y e = absurd (cc)

-- the counter of objects is raised
pub add_object_cells : (cells : ℕ) (seat found : ℕ) (x : Part) (t : Task) (y : Part) → add_counter cells seat Objects found x t ≡ Some y → KeepsCells x t y
add_object_cells cells seat found x task.Numbers y e = when_then (KeepsCells x task.Numbers) _ _ y e (λ _.
    record { times = λ _. refl; wants = λ _. tt; bare = bare_quits x.current.writes x.current.writes task.Numbers task.Rest (λ h. h) (no_more_same x.current.writes) })
add_object_cells cells seat found x _ y e = absurd (cc)

-- The counter of cells is raised: the cell found is the newest claim's, where it lies below the limit.
pub record DrawsCell (x : Part) (found : ℕ) (low : Bool) (y : Part) : Type 0 where
  pub begun : HasBegun x.place
  pub times : (cell : ℕ) → own_times cell y ≡ own_times cell x + cond low (cond (eqb found cell) 1 0) 0
  pub wants : WantsCell y y.task
  pub bare : BareAt y.current.writes y.task

drawn_times : (cell found : ℕ) (x : Part) → WantsCell x task.Pool → times_in cell (with_cell (record { cell = found; words = blank_cell }) x.current).writes ≡ times_in cell x.current.writes + cond (eqb found cell) 1 0
drawn_times cell found x wants =
    let w : Claim = record (claim_at x.current (last_claim x.current)) { own = Some (record { cell = found; words = blank_cell }) } in
    let first = wants.0 in
    let sum = count_set (λ (v : Claim). is_own cell v.own) x.current.writes (last_claim x.current) w no_claim (omega (arith, first)) in
    let bare : ◌≡◌ {A = ℕ} (cond (is_own cell (claim_at x.current (last_claim x.current)).own) 1 0) 0 = ap (λ (b : Bool). cond b 1 0) (none_own cell _ wants.1) in
    omega (arith, sum, bare)

-- the part after, where the cell found lies below the limit or not
abbrev with_drawn : ℕ → Part → Bool → Part
with_drawn found x low = record x {
  task = if low then task.Fetched else task.Refused;
  current = record x.current { writes = if low then (with_cell (record { cell = found; words = blank_cell }) x.current).writes else x.current.writes };
}

draws_cell : (found : ℕ) (x : Part) (low : Bool) → WantsCell x task.Pool → BareAt x.current.writes task.Pool → HasBegun x.place → DrawsCell x found low (with_drawn found x low)
draws_cell found x true wants bare begun = record {
  begun = begun;
  times = λ cell. let sum = drawn_times cell found x wants in omega (arith, sum);
  wants = tt;
  bare = bare_given x.current.writes (record { cell = found; words = blank_cell }) task.Pool task.Fetched wants.0 bare;
}
draws_cell found x false wants bare begun = record { begun = begun; times = λ cell. omega arith; wants = wants; bare = bare_wants x.current.writes task.Pool task.Refused tt bare }

pub add_cell_moves : (cells : ℕ) (seat found : ℕ) (x : Part) (t : Task) (y : Part) → WantsCell x t → BareAt x.current.writes t → add_counter cells seat Cells found x t ≡ Some y
    → DrawsCell x found (ltb found cells) y
add_cell_moves cells seat found x task.Pool y wants bare e =
    when_then (DrawsCell x found (ltb found cells)) _ _ y e (λ g. draws_cell found x (ltb found cells) wants bare (begun_active x.place g))
add_cell_moves cells seat found x _ y wants bare e = absurd (cc)
