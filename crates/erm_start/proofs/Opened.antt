-- The view and the log of a world that was just opened.
use Rattle.std.proofs.Common.{◌≡◌, ℕ, ◌≤◌, Result, Ok, Err, IfOk, Bool, true, false, if◌then◌else◌, [], None, refl, sym, ◌∙◌, subst, arith}
use Rattle.std.proofs.lemmas.Bool.{lt-ltb}
use Rattle.erm_model.specs.declared.limits.TheConstants.{MOST_CELLS, OID_LIMIT}
use Rattle.erm_model.specs.Rows.{Rows}
use Rattle.erm_model.specs.RowTransaction.{SameRows}
use Rattle.erm_machine.specs.declared.limits.TheConstants.{FLUSH_SEAT}
use Rattle.erm_machine.specs.declared.place.Place.TheVariants.{Idle, Vacant}
use Rattle.erm_machine.specs.Core.{Core, fresh_part, is_taken, no_object, opened_object, opening_state}
use Rattle.erm_machine.specs.Lawful.{opening_rows}
use Rattle.erm_core_turns.specs.Turns.{log_of}
use Rattle.erm_core_view.specs.Views.{pin_of, session_of, view_of}
use Rattle.erm_node.specs.Sound.{reached, sound_law}
use Rattle.erm_world.specs.Laws.{IsSerializable}
use Rattle.erm_world.specs.World as world
use Rattle.erm_world.specs.World.{View}
use Rattle.erm_core.specs.Cores.{core_of}
use Rattle.erm_world.proofs.Restored.{AreSavesOf-none}
use Rattle.erm_world.proofs.WithSaves.{serializable}
use Rattle.erm_lists.specs.Stands.{lists_view}
use Rattle.erm_plain.specs.Logs.{plain_log}
use Rattle.erm_plain.specs.Stands.{IsWorld, plain_view}
use Rattle.erm_plain.specs.declared.plain.Plain.{Plain}
use Rattle.erm_start.specs.Recovered.{IsFirstObject, IsOpenedLog, IsOpenedOn, IsOpenedWith}

-- a session is idle at first, and nothing is pinned
idle_at : (b : Bool) (run tail : ℕ) → session_of (fresh_part (if b then Idle else Vacant) run tail) ≡ record { over = []; stand = world.idle }
idle_at true run tail = refl
idle_at false run tail = refl

unpinned_at : (b : Bool) (run tail : ℕ) → pin_of (fresh_part (if b then Idle else Vacant) run tail).place (fresh_part (if b then Idle else Vacant) run tail).current ≡ None
unpinned_at true run tail = refl
unpinned_at false run tail = refl

-- the rows are those that it was opened on
row_at : (rows : Rows) (b : Bool) (oid : ℕ) → b ≡ true → opening_rows (record (opening_state 0 rows 0 0 0 0).shared { objects = λ o. if b then opened_object rows o else no_object }) oid ≡ rows oid
row_at rows true oid is = refl
row_at rows false oid is = absurd (cc)

rows_opened : (sessions : ℕ) (rows : Rows) (tail run first cells : ℕ) → SameRows (opening_rows (opening_state sessions rows tail run first cells).shared) rows
rows_opened sessions rows tail run first cells oid below = row_at rows _ oid (lt-ltb oid OID_LIMIT below)

-- the view and the log of the opening's state, for rows that were found and are the same for each object that there may be
module _ (found : Rows) (sessions : ℕ) (rows : Rows) (same_rows : SameRows rows found) (tail run first cells : ℕ) where
  abbrev start : Core
  start = opening_state sessions rows tail run first cells

  rows_are : SameRows (opening_rows start.shared) found
  rows_are oid below = rows_opened sessions rows tail run first cells oid below ∙ same_rows oid below

  view_at : IsFirstObject found first → IsSerializable sound_law (view_of sessions start) → ((oid : ℕ) → start.shared.first ≤ oid → reached (opening_rows start.shared) oid ≡ 0)
      → IsOpenedWith found tail run sessions cells 0 (view_of sessions start)
  view_at is serializable unreached = record {
    opened = record {
      idle = λ seat session. idle_at (is_taken sessions seat) run tail;
      tail = refl;
      flushed = refl;
      pinned = unpinned_at (is_taken sessions FLUSH_SEAT) run tail;
      given_up = λ seat. refl;
      serializable = serializable;
    };
    rows = rows_are;
    tail = refl;
    run = refl;
    sessions = refl;
    first = is;
    cells = refl;
    cuts = refl;
    unreached = unreached;
  }

  log_at : IsOpenedLog found tail run (log_of sessions start)
  log_at = record {
    at = refl;
    run = refl;
    rows = rows_are;
    tail = refl;
    flushed = refl;
    gathered = refl;
    pinned = unpinned_at (is_taken sessions FLUSH_SEAT) run tail;
  }

  -- a world that was opened so has them
  pub view_is : (many : ℕ) (c : Core) → many ≡ sessions → c ≡ start → IsFirstObject found first → IsSerializable sound_law (view_of many c)
      → ((oid : ℕ) → c.shared.first ≤ oid → reached (opening_rows c.shared) oid ≡ 0) → IsOpenedWith found tail run sessions cells 0 (view_of many c)
  view_is many c same at is =
      subst
      (λ (n : ℕ). IsSerializable sound_law (view_of n c) → ((oid : ℕ) → c.shared.first ≤ oid → reached (opening_rows c.shared) oid ≡ 0) → IsOpenedWith found tail run sessions cells 0 (view_of n c))
      (sym same)
      (subst
      (λ (d : Core). IsSerializable sound_law (view_of sessions d) → ((oid : ℕ) → d.shared.first ≤ oid → reached (opening_rows d.shared) oid ≡ 0) → IsOpenedWith found tail run sessions cells 0 (view_of sessions d))
      (sym at) (view_at is))

  pub log_is : (many : ℕ) (c : Core) → many ≡ sessions → c ≡ start → IsOpenedLog found tail run (log_of many c)
  log_is many c same at =
      subst (λ (n : ℕ). IsOpenedLog found tail run (log_of n c)) (sym same) (subst (λ (d : Core). IsOpenedLog found tail run (log_of sessions d)) (sym at) log_at)

-- the world in lists, which holds no savepoint
module _ (sessions : ℕ) (rows : Rows) (tail run first : ℕ) where
  held_beside : {L : Type 0} (p : Plain L) → IsSerializable sound_law (plain_view p) → IsOpenedOn rows tail run sessions (lists_view p.lists) → IsOpenedOn rows tail run sessions (plain_view p)
  held_beside p serializable is = record {
    opened = record {
      idle = is.opened.idle;
      tail = is.opened.tail;
      flushed = is.opened.flushed;
      pinned = is.opened.pinned;
      given_up = is.opened.given_up;
      serializable = serializable;
    };
    rows = is.rows;
    tail = is.tail;
    run = is.run;
    sessions = is.sessions;
    first = is.first;
    cells = is.cells;
    cuts = is.cuts;
    unreached = is.unreached;
  }

  pub opened_on : {L E : Type 0} (r : Result (Plain L) E) → IsFirstObject rows first → IfOk r (λ p. IsWorld sound_law p)
      → IfOk r (λ p. core_of p.lists.state ≡ opening_state sessions rows tail run first MOST_CELLS) → IfOk r (λ p. p.lists.sessions ≡ sessions)
      → IfOk r (λ p. IsOpenedOn rows tail run sessions (plain_view p))
  opened_on (Ok p) is world opened many =
      held_beside p world.serializable
      (view_is rows sessions rows (λ oid below. refl) tail run first MOST_CELLS p.lists.sessions (core_of p.lists.state) many opened is
      (serializable (λ q. []) sound_law (plain_view p) (λ seat w session stand. AreSavesOf-none w) (λ seat session active. omega arith) world.serializable) world.stands.lists.sound.lawful.below)
  opened_on (Err e) is world opened many = tt

  pub opened_log : {L E : Type 0} (r : Result (Plain L) E) → IfOk r (λ p. core_of p.lists.state ≡ opening_state sessions rows tail run first MOST_CELLS) → IfOk r (λ p. p.lists.sessions ≡ sessions)
      → IfOk r (λ p. IsOpenedLog rows tail run (plain_log p))
  opened_log (Ok p) opened many = log_is rows sessions rows (λ oid below. refl) tail run first MOST_CELLS p.lists.sessions (core_of p.lists.state) many opened
  opened_log (Err e) opened many = tt
