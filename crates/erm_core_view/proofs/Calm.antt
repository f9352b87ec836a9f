-- Steps that a seat's session shows nothing of.
use Rattle.std.proofs.Common.{◌≡◌, ℕ, ◌+◌, Bool, true, false, eqb, ltb, List, Option, Some, None, map, refl, sym, ap, ◌∙◌}
use Rattle.std.proofs.lemmas.Bool.{and_parts, cond-false}
use Rattle.std.specs.Prelude.{if◌then◌else◌}
use Rattle.std.proofs.Math.Seq.{map-set_same}
use Rattle.erm_model.specs.declared.history.VersionWritten.{VersionWritten}
use Rattle.erm_machine.specs.declared.attempt.Attempt.{Attempt}
use Rattle.erm_machine.specs.declared.attempt.Claim.{Claim}
use Rattle.erm_machine.specs.declared.attempt.OwnCell.{OwnCell}
use Rattle.erm_machine.specs.declared.event.Counter.{Counter}
use Rattle.erm_machine.specs.declared.event.Counter.TheVariants.{Objects, Cells}
use Rattle.erm_machine.specs.declared.event.Kind.{Kind}
use Rattle.erm_machine.specs.declared.event.Kind.TheVariants as kind
use Rattle.erm_machine.specs.declared.event.TailUse.TheVariants as purpose
use Rattle.erm_machine.specs.declared.limits.TheConstants.{ANNOUNCERS, OBJECT_LIMIT}
use Rattle.erm_machine.specs.declared.part.Flushing.{Flushing}
use Rattle.erm_machine.specs.declared.part.Flushing.TheVariants as flushing
use Rattle.erm_machine.specs.declared.part.Part.{Part}
use Rattle.erm_machine.specs.declared.place.Place.{Place}
use Rattle.erm_machine.specs.declared.place.Place.TheVariants.{Active, Sealed, Decided}
use Rattle.erm_machine.specs.declared.task.Task.{Task}
use Rattle.erm_machine.specs.declared.task.Task.TheVariants as task
use Rattle.erm_machine.specs.declared.version.CellWord.{CellWord}
use Rattle.erm_machine.specs.declared.version.CellWord.TheVariants as word
use Rattle.erm_machine.specs.declared.version.VersionAt.{VersionAt}
use Rattle.erm_machine.specs.Core.{Object, Shared, claim_at, no_claim}
use Rattle.erm_machine.specs.Decided.{written_of}
use Rattle.erm_machine.specs.Flushing.{load_flushed, gathered_word, load_ring, clear_ring, store_flushed}
use Rattle.erm_machine.specs.Life.{after_clear, load_tail_for_horizon, load_begin, load_state, lower, store_back}
use Rattle.erm_machine.specs.Reading.{after_cut, detached, entered, head_version, older, load_entry, load_walked_stamp, load_walked_link, load_cell, swap_link, load_detached, load_counter, add_counter, load_active_stamp, with_cell}
use Rattle.erm_machine.specs.Seat.{end_of, is_active, is_safe, is_sealed, is_snapshot, last_claim, may_start, with_claim, with_task}
use Rattle.erm_machine.specs.Settling.{load_read_entry, load_readers, load_settled_stamp, load_stamp, store_ring, raise_reader, mark_overwritten, install_claim, adds_version, install_new, release_old, install, clear_reader, filled}
use Rattle.erm_machine.specs.Step.{part_after}
use Rattle.erm_machine.specs.Words.{blank_cell, is_clear, owner_of, without_bit}
use Rattle.erm_machine.proofs.Backs.{entry_then}
use Rattle.erm_machine.proofs.Guards.{when_then, some_then, if_then, either_way, unless_some}
use Rattle.erm_world.specs.World.{Finished, Session, Stand, Work}
use Rattle.erm_world.specs.World as world
use Rattle.erm_core_view.specs.Steps.{IsCalm, IsEnding}
use Rattle.erm_core_view.specs.Views.{finished_of, session_of, shown_by, stand_of, work_of}
use Rattle.erm_core_view.proofs.Snapshots.{shown_safe, shown_same, starts_plain}

-- What a part shows is what another would by this task.
pub record Same (u : Task) (x y : Part) : Type 0 where
  pub same : session_of y ≡ session_of (record x { task = u })

-- where a session stands depends on what its task shows and on its transaction's work alone
stand_by : (pl : Place) (u v : Task) (t r : Attempt) → shown_by v r ≡ shown_by u t → work_of r ≡ work_of t → stand_of pl v r ≡ stand_of pl u t
stand_by (Active tail) u v t r shown e = shown
stand_by (Sealed tail stamp) u v t r shown e = ap (λ (w : Work). world.sealed w stamp) e
stand_by _ u v t r shown e = refl

-- the transaction in progress, and its task, change in what doesn't show
shows_task : (u : Task) (x y : Part) → shown_by y.task y.current ≡ shown_by u y.current → y.over ≡ x.over → y.place ≡ x.place → work_of y.current ≡ work_of x.current → Same u x y
shows_task u x y shown over place work =
    let stand : stand_of y.place y.task y.current ≡ stand_of x.place u x.current =
    ap (λ (pl : Place). stand_of pl y.task y.current) place ∙ stand_by x.place u y.task x.current y.current (shown ∙ shown_same u x.current y.current work) work in
    record {
      same = ap (λ (ts : List Attempt). let r : Session = record { over = map finished_of ts; stand = stand_of y.place y.task y.current } in r) over
          ∙ ap (λ (at : Stand). let r : Session = record { over = map finished_of x.over; stand = at } in r) stand;
    }

-- the task stays
pub shows_same : (x y : Part) → y.task ≡ x.task → y.over ≡ x.over → y.place ≡ x.place → work_of y.current ≡ work_of x.current → Same x.task x y
shows_same x y stays over place work = shows_task x.task x y (ap (λ (v : Task). shown_by v y.current) stays) over place work

-- neither task is one of a snapshot
pub plainly : (u : Task) (x y : Part) → is_snapshot u ≡ false → is_snapshot y.task ≡ false → y.over ≡ x.over → y.place ≡ x.place → work_of y.current ≡ work_of x.current → Same u x y
plainly u x y was is over place work =
    shows_task u x y (cond-false (is_snapshot y.task) _ (world.active (work_of y.current)) is ∙ sym (cond-false (is_snapshot u) _ (world.active (work_of y.current)) was)) over place work

-- a sealed seat shows its task nowhere
sealed_stand : (pl : Place) (u v : Task) (t r : Attempt) → is_sealed pl ≡ true → work_of r ≡ work_of t → stand_of pl v r ≡ stand_of pl u t
sealed_stand (Sealed tail stamp) u v t r is e = ap (λ (w : Work). world.sealed w stamp) e
sealed_stand _ u v t r is e = absurd (cc)

sealed_same : (u : Task) (x y : Part) → is_sealed x.place ≡ true → y.over ≡ x.over → y.place ≡ x.place → work_of y.current ≡ work_of x.current → Same u x y
sealed_same u x y is over place work =
    let stand : stand_of y.place y.task y.current ≡ stand_of x.place u x.current =
    ap (λ (pl : Place). stand_of pl y.task y.current) place ∙ sealed_stand x.place u y.task x.current y.current is work in
    record {
      same = ap (λ (ts : List Attempt). let r : Session = record { over = map finished_of ts; stand = stand_of y.place y.task y.current } in r) over
          ∙ ap (λ (at : Stand). let r : Session = record { over = map finished_of x.over; stand = at } in r) stand;
    }

pub plain_if : (b : Bool) (v w : Task) → is_snapshot v ≡ false → is_snapshot w ≡ false → is_snapshot (if b then v else w) ≡ false
plain_if b v w first second = either_way (λ (t : Task). is_snapshot t ≡ false) b v w (λ _. first) (λ _. second)

-- a claim is changed in its cell, or is over
pub claim_same : (t : Attempt) (place : ℕ) (w : Claim) → written_of w ≡ written_of (claim_at t place) → work_of (with_claim place w t) ≡ work_of t
claim_same t place w e = ap (λ (ws : List VersionWritten). record (work_of t) { claims = ws }) (map-set_same written_of t.writes place w no_claim e)

s_if : (u : Task) (x : Part) (b : Bool) (l r : Part) → Same u x l → Same u x r → Same u x (if b then l else r)
s_if u x b l r f g = either_way (Same u x) b l r (λ _. f) (λ _. g)

s_horizon : (found : ℕ) (x : Part) (t : Task) (y : Part) → load_tail_for_horizon found x t ≡ Some y → Same t x y
s_horizon found x (task.Claimed version) y e = when_then (Same (task.Claimed version) x) _ _ y e (λ _. plainly (task.Claimed version) x _ refl refl refl refl refl)
s_horizon found x _ y e = absurd (cc)

s_load_begin : (seat other found : ℕ) (x : Part) (t : Task) (y : Part) → is_snapshot t ≡ false → load_begin seat other found x t ≡ Some y → Same t x y
s_load_begin seat other found x (task.Horizon version least next) y plain e =
    when_then (Same (task.Horizon version least next) x) _ _ y e (λ _.
    plainly (task.Horizon version least next) x _ refl (plain_if (eqb (next + 1) ANNOUNCERS) (task.CutWalks version (lower least found)) (task.Horizon version (lower least found) (next + 1)) refl refl) refl refl refl)
s_load_begin seat other found x (task.Surveys next) y plain e = absurd (cc)
s_load_begin seat other found x _ y plain e = absurd (cc)

s_store_back : (value : ℕ) (x : Part) (p : Place) (y : Part) → store_back value x p ≡ Some y → Same x.task x y
s_store_back value x (Decided tail stamp) y e = when_then (Same x.task x) _ _ y e (λ _. record { same = refl })
s_store_back value x _ y e = absurd (cc)

-- one that was found clear
clear_shows : (other bound : ℕ) (x : Part) (u : Task) (r : Attempt) → shown_by (after_clear other bound x u) r ≡ shown_by u r
clear_shows other bound x (task.Owned oid owner) r =
    cond-false (is_snapshot (after_clear other bound x (task.Owned oid owner))) _ (world.active (work_of r)) (plain_if _ (task.Cleared oid) (task.Owned oid owner) refl refl)
clear_shows other bound x (task.ReadOwned read owner) r =
    cond-false (is_snapshot (after_clear other bound x (task.ReadOwned read owner))) _ (world.active (work_of r)) (plain_if _ (task.ReadClear read) (task.ReadOwned read owner) refl refl)
clear_shows other bound x (task.ReadersLeft write bits) r =
    cond-false (is_snapshot (after_clear other bound x (task.ReadersLeft write bits))) _ (world.active (work_of r))
    (plain_if _ (if eqb (without_bit bits other) 0 then task.WriteClear write else task.ReadersLeft write (without_bit bits other)) (task.ReadersLeft write bits)
    (plain_if _ (task.WriteClear write) (task.ReadersLeft write (without_bit bits other)) refl refl) refl)
clear_shows other bound x u r = refl

s_load_state : (seat other bound found : ℕ) (x y : Part) → load_state seat other bound found x ≡ Some y → Same x.task x y
s_load_state seat other bound found x y e =
    when_then (Same x.task x) _ _ y e (λ _.
    shows_task x.task x _
    (either_way (λ (v : Task). shown_by v x.current ≡ shown_by x.task x.current) (is_clear found bound) (after_clear other bound x x.task) x.task (λ _. clear_shows other bound x x.task x.current)
    (λ _. refl)) refl refl refl)

-- what an entry leads to is none of a snapshot
entered_plain : (seat oid found : ℕ) (o : Object) → is_snapshot (entered seat oid found o) ≡ false
entered_plain seat oid found o =
    plain_if (eqb (owner_of found) 0) (task.Walks (head_version oid found o) (Some found)) (if eqb (owner_of found) seat then task.Claimed (head_version oid found o) else task.Owned oid (owner_of found)) refl
    (plain_if (eqb (owner_of found) seat) (task.Claimed (head_version oid found o)) (task.Owned oid (owner_of found)) refl refl)

safe_shows : (u v : Task) (r : Attempt) → is_safe u ≡ true → is_safe v ≡ true → shown_by v r ≡ shown_by u r
safe_shows u v r was is = shown_safe v r is ∙ sym (shown_safe u r was)

s_load_entry : (seat oid found : ℕ) (o : Object) (x : Part) (t : Task) (y : Part) → load_entry seat oid found o x t ≡ Some y → Same t x y
s_load_entry seat oid found o x (task.Cleared cleared) y e =
    let to : Task = if eqb oid cleared then task.Walks (head_version oid found o) None else entered seat oid found o in
    when_then (Same (task.Cleared cleared) x) (is_active x.place) (with_task to x) y e (λ _.
    plainly (task.Cleared cleared) x (with_task to x) refl (plain_if (eqb oid cleared) (task.Walks (head_version oid found o) None) (entered seat oid found o) refl (entered_plain seat oid found o)) refl refl refl)
s_load_entry seat oid found o x t y e =
    entry_then (Same t x) seat oid found o x t y e (λ safe _. shows_task t x _ (safe_shows t (task.SafeWalks (head_version oid found o)) x.current safe refl) refl refl refl)
    (λ g. plainly t x _ (starts_plain t (and_parts (is_active x.place) (may_start t) g).1) (entered_plain seat oid found o) refl refl refl)

s_walked_stamp : (found : ℕ) (v : VersionAt) (x : Part) (t : Task) (y : Part) → load_walked_stamp found v x t ≡ Some y → Same t x y
s_walked_stamp found v x (task.Walks version head) y e =
    when_then (Same (task.Walks version head) x) _ _ y e (λ _.
    plainly (task.Walks version head) x _ refl (plain_if (ltb found x.current.begin) (task.Found version found head) (task.Passed version) refl refl) refl refl refl)
s_walked_stamp found v x (task.CutWalks version horizon) y e =
    when_then (Same (task.CutWalks version horizon) x) _ _ y e (λ _.
    plainly (task.CutWalks version horizon) x _ refl (plain_if (ltb found horizon) (task.CutFound version horizon) (task.CutPassed version horizon) refl refl) refl refl refl)
s_walked_stamp found v x (task.SafeWalks version) y e =
    when_then (Same (task.SafeWalks version) x) _ _ y e (λ _.
    shows_task (task.SafeWalks version) x _
    (safe_shows (task.SafeWalks version) (if ltb found x.current.begin then task.SafeFound version else task.SafePassed version) x.current refl
    (either_way (λ (u : Task). is_safe u ≡ true) (ltb found x.current.begin) (task.SafeFound version) (task.SafePassed version) (λ _. refl) (λ _. refl))) refl refl refl)
s_walked_stamp found v x (task.Passed version) y e = when_then (Same (task.Passed version) x) _ _ y e (λ _. plainly (task.Passed version) x _ refl refl refl refl refl)
s_walked_stamp found v x _ y e = absurd (cc)

-- a chain that was cut is done, or its claim wants a cell
after_cut_plain : (x : Part) → is_snapshot (after_cut x) ≡ false
after_cut_plain x = plain_if _ task.Draws task.Rest refl refl

s_walked_link : (found : ℕ) (v : VersionAt) (x : Part) (t : Task) (y : Part) → load_walked_link found v x t ≡ Some y → Same t x y
s_walked_link found v x (task.Passed version) y e = when_then (Same (task.Passed version) x) _ _ y e (λ _. plainly (task.Passed version) x _ refl refl refl refl refl)
s_walked_link found v x (task.SafePassed version) y e =
    when_then (Same (task.SafePassed version) x) _ _ y e (λ _. shows_task (task.SafePassed version) x _ (safe_shows (task.SafePassed version) (task.SafeWalks (older version found)) x.current refl refl) refl refl refl)
s_walked_link found v x (task.CutPassed version horizon) y e =
    when_then (Same (task.CutPassed version horizon) x) _ _ y e (λ _.
    plainly (task.CutPassed version horizon) x _ refl (plain_if (eqb found 0) (after_cut x) (task.CutWalks (older version found) horizon) (after_cut_plain x) refl) refl refl refl)
s_walked_link found v x _ y e = absurd (cc)

s_load_cell : (found : ℕ) (v : VersionAt) (w : CellWord) (x : Part) (y : Part) → load_cell found v w x ≡ Some y → Same x.task x y
s_load_cell found v word.Stamp x y e =
    if_then (Same x.task x) (is_active x.place) (load_walked_stamp found v x x.task) None y e (λ _ h. s_walked_stamp found v x x.task y h) (λ _ h. absurd (cc))
s_load_cell found v word.Link x y e =
    if_then (Same x.task x) (is_active x.place) (load_walked_link found v x x.task) None y e (λ _ h. s_walked_link found v x x.task y h) (λ _ h. absurd (cc))
s_load_cell found v (word.Row k) x y e = when_then (Same x.task x) _ _ y e (λ _. record { same = refl })
s_load_cell found v _ x y e = absurd (cc)

detached_plain : (found : ℕ) (version : VersionAt) (x : Part) → is_snapshot (detached found version x) ≡ false
detached_plain found version x = plain_if (eqb found 0) (after_cut x) (task.Detaches (older version found)) (after_cut_plain x) refl

s_swap_link : (found : ℕ) (v : VersionAt) (o : Object) (x : Part) (t : Task) (y : Part) → swap_link found v o x t ≡ Some y → Same t x y
s_swap_link found v o x (task.CutFound version horizon) y e =
    when_then (Same (task.CutFound version horizon) x) _ _ y e (λ _. plainly (task.CutFound version horizon) x _ refl (detached_plain found version x) refl refl refl)
s_swap_link found v o x _ y e = absurd (cc)

s_load_detached : (found : ℕ) (v : VersionAt) (x : Part) (t : Task) (y : Part) → load_detached found v x t ≡ Some y → Same t x y
s_load_detached found v x (task.Detaches version) y e =
    when_then (Same (task.Detaches version) x) _ _ y e (λ _. plainly (task.Detaches version) x _ refl (detached_plain found version x) refl refl refl)
s_load_detached found v x _ y e = absurd (cc)

s_load_counter : (cells : ℕ) (c : Counter) (found : ℕ) (x : Part) (t : Task) (y : Part) → load_counter cells c found x t ≡ Some y → Same t x y
s_load_counter cells Objects found x t y e =
    when_then (Same t x) _ _ y e (λ g. plainly t x _ (starts_plain t (and_parts _ _ g).1) (plain_if (ltb found OBJECT_LIMIT) task.Numbers task.Rest refl refl) refl refl refl)
s_load_counter cells Cells found x task.Draws y e =
    when_then (Same task.Draws x) _ _ y e (λ _. plainly task.Draws x _ refl (plain_if (ltb found cells) task.Pool task.Refused refl refl) refl refl refl)
s_load_counter cells Cells found x _ y e = absurd (cc)

s_add_cells : (cells : ℕ) (seat : ℕ) (found : ℕ) (x : Part) (t : Task) (y : Part) → add_counter cells seat Cells found x t ≡ Some y → Same t x y
s_add_cells cells seat found x task.Pool y e =
    let own : OwnCell = record { cell = found; words = blank_cell } in
    let claims : map written_of (if ltb found cells then (with_cell own x.current).writes else x.current.writes) ≡ map written_of x.current.writes =
    either_way (λ (ws : List Claim). map written_of ws ≡ map written_of x.current.writes) (ltb found cells) (with_cell own x.current).writes x.current.writes
    (λ _. map-set_same written_of x.current.writes (last_claim x.current) (record (claim_at x.current (last_claim x.current)) { own = Some own }) no_claim refl)
    (λ _. refl) in
    when_then (Same task.Pool x) _ _ y e (λ _.
    plainly task.Pool x _ refl (plain_if (ltb found cells) task.Fetched task.Refused refl refl) refl refl
    (ap (λ (ws : List VersionWritten). record (work_of x.current) { claims = ws }) claims))
s_add_cells cells seat found x _ y e = absurd (cc)

s_active_stamp : (found : ℕ) (v : VersionAt) (w : CellWord) (x : Part) (t : Task) (y : Part) → load_active_stamp found v w x t ≡ Some y → Same t x y
s_active_stamp found v word.Overwriter x (task.Registered version) y e =
    when_then (Same (task.Registered version) x) _ _ y e (λ _.
    plainly (task.Registered version) x _ refl (plain_if (eqb found 0) (task.Rated version) (task.Overtaken version found) refl refl) refl refl refl)
s_active_stamp found v word.OverwriterSucc x (task.Overtaken version overwriter) y e =
    when_then (Same (task.Overtaken version overwriter) x) _ _ y e (λ _. plainly (task.Overtaken version overwriter) x _ refl refl refl refl refl)
s_active_stamp found v word.ReaderStamp x task.Draws y e =
    when_then (Same task.Draws x) _ _ y e (λ _. plainly task.Draws x _ refl refl refl refl (claim_same x.current _ _ refl))
s_active_stamp found v word.ReaderStamp x task.Fetched y e =
    when_then (Same task.Fetched x) _ _ y e (λ _. plainly task.Fetched x _ refl refl refl refl refl)
s_active_stamp found v _ x _ y e = absurd (cc)

s_settled_stamp : (found : ℕ) (v : VersionAt) (w : CellWord) (x : Part) (t : Task) (y : Part) → load_settled_stamp found v w x t ≡ Some y → Same t x y
s_settled_stamp found v word.Overwriter x (task.ReadClear read) y e =
    when_then (Same (task.ReadClear read) x) _ _ y e (λ _.
    plainly (task.ReadClear read) x _ refl (plain_if _ (task.ReadOvertaken read found) (task.Settles (read + 1) 0) refl refl) refl refl refl)
s_settled_stamp found v word.OverwriterSucc x (task.ReadOvertaken read overwriter) y e =
    when_then (Same (task.ReadOvertaken read overwriter) x) _ _ y e (λ _. plainly (task.ReadOvertaken read overwriter) x _ refl refl refl refl refl)
s_settled_stamp found v word.Stamp x (task.WriteClear write) y e =
    when_then (Same (task.WriteClear write) x) _ _ y e (λ _. plainly (task.WriteClear write) x _ refl refl refl refl refl)
s_settled_stamp found v word.ReaderStamp x (task.WriteMade write) y e =
    when_then (Same (task.WriteMade write) x) _ _ y e (λ _. plainly (task.WriteMade write) x _ refl refl refl refl refl)
s_settled_stamp found v _ x _ y e = absurd (cc)

s_load_stamp : (found : ℕ) (v : VersionAt) (w : CellWord) (x : Part) (y : Part) → load_stamp found v w x ≡ Some y → Same x.task x y
s_load_stamp found v w x y e =
    if_then (Same x.task x) _ _ _ y e (λ _ h. s_active_stamp found v w x x.task y h)
    (λ _ rest. if_then (Same x.task x) (is_sealed x.place) (load_settled_stamp found v w x x.task) None y rest (λ _ h. s_settled_stamp found v w x x.task y h) (λ _ h. absurd (cc)))

s_load_read_entry : (seat oid found : ℕ) (x : Part) (t : Task) (y : Part) → load_read_entry seat oid found x t ≡ Some y → Same t x y
s_load_read_entry seat oid found x (task.Settles reads writes) y e =
    when_then (Same (task.Settles reads writes) x) _ _ y e (λ _.
    plainly (task.Settles reads writes) x _ refl (plain_if _ (task.ReadOwned reads (owner_of found)) (task.ReadClear reads) refl refl) refl refl refl)
s_load_read_entry seat oid found x _ y e = absurd (cc)

s_load_readers : (seat : ℕ) (v : VersionAt) (found : ℕ) (x : Part) (t : Task) (y : Part) → load_readers seat v found x t ≡ Some y → Same t x y
s_load_readers seat v found x (task.Settles reads writes) y e =
    when_then (Same (task.Settles reads writes) x) _ _ y e (λ _.
    plainly (task.Settles reads writes) x _ refl (plain_if _ (task.WriteClear writes) (task.ReadersLeft writes (without_bit found seat)) refl refl) refl refl refl)
s_load_readers seat v found x _ y e = absurd (cc)

s_store_ring : (at value : ℕ) (x : Part) (o : Option ℕ) (y : Part) → store_ring at value x o ≡ Some y → Same x.task x y
s_store_ring at value x None y e = absurd (cc)
s_store_ring at value x (Some words) y e =
    when_then (Same x.task x) _ _ y e (λ g. sealed_same x.task x _ (and_parts _ _ (and_parts _ _ (and_parts _ _ (and_parts _ _ g).0).0).0).0 refl refl refl)

s_raise_reader : (v : VersionAt) (value : ℕ) (x : Part) (t : Task) (y : Part) → raise_reader v value x t ≡ Some y → Same t x y
s_raise_reader v value x (task.Ends raised ended step cleared) y e =
    when_then (Same (task.Ends raised ended step cleared) x) _ _ y e (λ _. plainly (task.Ends raised ended step cleared) x _ refl refl refl refl refl)
s_raise_reader v value x _ y e = absurd (cc)

s_mark : (nth : ℕ) (v : VersionAt) (value wanted : ℕ) (x : Part) (t : Task) (y : Part) → mark_overwritten nth v value wanted x t ≡ Some y → Same t x y
s_mark nth v value wanted x (task.Ends raised ended step cleared) y e =
    when_then (Same (task.Ends raised ended step cleared) x) _ _ y e (λ _. plainly (task.Ends raised ended step cleared) x _ refl refl refl refl refl)
s_mark nth v value wanted x _ y e = absurd (cc)

s_clear_reader : (v : VersionAt) (x : Part) (e : Option (ℕ × ℕ × ℕ × ℕ)) (y : Part) → is_snapshot x.task ≡ false → clear_reader v x e ≡ Some y → Same x.task x y
s_clear_reader v x None y plain e = absurd (cc)
s_clear_reader v x (Some c) y plain e = when_then (Same x.task x) _ _ y e (λ _. plainly x.task x _ plain refl refl refl refl)

s_load_flushed : (found : ℕ) (x : Part) (f : Flushing) (y : Part) → load_flushed found x f ≡ Some y → Same x.task x y
s_load_flushed found x (flushing.Tail tail) y e = some_then (Same x.task x) _ y e (record { same = refl })
s_load_flushed found x _ y e =
    when_then (Same x.task x) _ _ y e (λ _.
    either_way (Same x.task x) _ (record x { task = task.Settles 0 0 }) x (λ g. sealed_same x.task x _ (and_parts _ _ (and_parts _ _ g).0).0 refl refl refl) (λ _. record { same = refl }))

s_gathered : (tail from block next end : ℕ) (x : Part) → Same x.task x (gathered_word tail from block next end x)
s_gathered tail from block next end x = either_way (Same x.task x) _ _ _ (λ _. record { same = refl }) (λ _. record { same = refl })

s_load_ring : (at found : ℕ) (x : Part) (f : Flushing) (y : Part) → load_ring at found x f ≡ Some y → Same x.task x y
s_load_ring at found x (flushing.Gathers tail from block next end) y e =
    when_then (Same x.task x) _ _ y e (λ _.
    s_if x.task x _ _ _ (s_gathered tail from block next end x) (s_if x.task x _ _ _ (record { same = refl }) (s_gathered tail from next next _ x)))
s_load_ring at found x _ y e = absurd (cc)

s_clear_ring : (at : ℕ) (x : Part) (f : Flushing) (y : Part) → clear_ring at x f ≡ Some y → Same x.task x y
s_clear_ring at x (flushing.Gathers tail from block next end) y e = when_then (Same x.task x) _ _ y e (λ _. record { same = refl })
s_clear_ring at x (flushing.Clears next to) y e = when_then (Same x.task x) _ _ y e (λ _. record { same = refl })
s_clear_ring at x _ y e = absurd (cc)

s_store_flushed : (value : ℕ) (x : Part) (f : Flushing) (y : Part) → store_flushed value x f ≡ Some y → Same x.task x y
s_store_flushed value x (flushing.Clears next to) y e = when_then (Same x.task x) _ _ y e (λ _. record { same = refl })
s_store_flushed value x _ y e = absurd (cc)

-- a claim is installed, or released with its cell
pub ends_same : (oid head : ℕ) (x : Part) (e : Option (ℕ × ℕ × ℕ × ℕ)) (y : Part) → is_snapshot x.task ≡ false → install_claim oid head x e ≡ Some y → Same x.task x y
ends_same oid head x None y plain e = absurd (cc)
ends_same oid head x (Some c) y plain e =
    if_then (Same x.task x) (adds_version x) (install_new oid head x c) (release_old oid head x c) y e
    (λ _ h. when_then (Same x.task x) _ _ y h (λ _. plainly x.task x _ plain refl refl refl (claim_same x.current c.1 _ refl)))
    (λ _ h. when_then (Same x.task x) _ _ y h (λ _. plainly x.task x _ plain refl refl refl (claim_same x.current c.1 _ refl)))

ending_plain : (t : Task) → IsEnding t → is_snapshot t ≡ false
ending_plain task.Refused ending = absurd ending
ending_plain t ending = ending

installs_so : (oid head : ℕ) (x : Part) (t : Task) (y : Part) → IsEnding t → install oid head x t ≡ Some y → install_claim oid head x (end_of t) ≡ Some y
installs_so oid head x task.Refused y ending e = absurd ending
installs_so oid head x t y ending e = e

pub install_same : (oid head : ℕ) (x y : Part) → IsEnding x.task → install oid head x x.task ≡ Some y → Same x.task x y
install_same oid head x y ending e = ends_same oid head x (end_of x.task) y (ending_plain x.task ending) (installs_so oid head x x.task y ending e)

pub calm_kind : (p : ℕ) (k : Kind) (found : ℕ) (s : Shared) (x y : Part) → IsCalm k x.task → part_after p k found s x ≡ Some y → Same x.task x y
calm_kind p (kind.LoadTail purpose.Begin) found s x y q e = absurd q
calm_kind p (kind.LoadTail purpose.Horizon) found s x y q e = s_horizon found x x.task y e
calm_kind p (kind.LoadTail purpose.Gather) found s x y q e = when_then (Same x.task x) _ _ y e (λ _. record { same = refl })
calm_kind p (kind.AddTail size) found s x y q e = absurd q
calm_kind p (kind.StoreBegin value) found s x y q e = absurd q
calm_kind p (kind.StoreState value) found s x y q e = absurd q
calm_kind p (kind.LoadBegin other) found s x y q e = s_load_begin p other found x x.task y q e
calm_kind p (kind.LoadState other bound) found s x y q e = s_load_state p other bound found x y e
calm_kind p (kind.Split other) found s x y q e = absurd q
calm_kind p (kind.Join other) found s x y q e = absurd q
calm_kind p (kind.LoadEntry oid) found s x y q e =
    if_then (Same x.task x) (is_sealed x.place) (load_read_entry p oid found x x.task) (load_entry p oid found (s.objects oid) x x.task) y e
    (λ _ h. s_load_read_entry p oid found x x.task y h) (λ _ h. s_load_entry p oid found (s.objects oid) x x.task y h)
calm_kind p (kind.Claim oid seen number) found s x y q e = absurd q
calm_kind p (kind.Install oid head) found s x y q e = absurd q
calm_kind p (kind.LoadCell v w) found s x y q e = s_load_cell found v w x y (unless_some _ _ y e)
calm_kind p (kind.StoreCell place cell w value) found s x y q e = absurd q
calm_kind p (kind.LoadCounter counter) found s x y q e = s_load_counter _ counter found x x.task y e
calm_kind p (kind.AddCounter Objects) found s x y q e = absurd q
calm_kind p (kind.AddCounter Cells) found s x y q e = s_add_cells _ p found x x.task y e
calm_kind p (kind.SetReader v) found s x y q e = absurd q
calm_kind p (kind.ClearReader v) found s x y q e = s_clear_reader v x (end_of x.task) y q e
calm_kind p (kind.LoadReaders v) found s x y q e = s_load_readers p v found x x.task y e
calm_kind p (kind.LoadStamp v w) found s x y q e = s_load_stamp found v w x y e
calm_kind p (kind.RaiseReader v value) found s x y q e = s_raise_reader v value x x.task y e
calm_kind p (kind.StoreSucc v value) found s x y q e = s_mark 6 v value x.current.succ x x.task y e
calm_kind p (kind.StoreOverwriter v value) found s x y q e = s_mark 7 v value x.current.stamp x x.task y e
calm_kind p (kind.StoreRing at value) found s x y q e = s_store_ring at value x (filled x.current x.task) y e
calm_kind p (kind.Decide at header) found s x y q e = absurd q
calm_kind p (kind.LoadRing at) found s x y q e = s_load_ring at found x x.flushing y e
calm_kind p (kind.ClearRing at) found s x y q e = s_clear_ring at x x.flushing y e
calm_kind p (kind.StoreFlushed value) found s x y q e = s_store_flushed value x x.flushing y e
calm_kind p kind.LoadFlushed found s x y q e = s_load_flushed found x x.flushing y e
calm_kind p (kind.SwapLink v) found s x y q e = s_swap_link found v (s.objects v.oid) x x.task y e
calm_kind p (kind.LoadDetached v) found s x y q e = s_load_detached found v x x.task y e
calm_kind p (kind.StoreBack value) found s x y q e = s_store_back value x x.place y e
calm_kind p (kind.LoadBack other) found s x y q e = absurd q
calm_kind p (kind.Unset claim) found s x y q e = absurd q
