-- The view and the log of a world over the word table that was just opened.
use Rattle.std.proofs.Common.{◌≡◌, [], Result, Ok, Err, IfOk, length, refl, sym, arith}
use Rattle.std.proofs.lemmas.Result.{IfOk-weaker}
use Rattle.erm_model.specs.declared.limits.TheConstants.{OID_LIMIT, TABLE_CELLS}
use Rattle.erm_model.specs.Rows.{rows_of}
use Rattle.erm_model.specs.RowTransaction.{SameRows}
use Rattle.erm_node.specs.Sound.{sound_law}
use Rattle.erm_world.proofs.Restored.{AreSavesOf-none}
use Rattle.erm_world.proofs.WithSaves as saves
use Rattle.erm_rule.specs.declared.view.Opening.{Opening}
use Rattle.erm_rule.specs.Books.{book}
use Rattle.erm_rule.specs.Rule.{first_core, first_rows}
use Rattle.erm_rule.specs.Went.{core_of}
use Rattle.erm_start.specs.Recovered.{IsFirstObject, IsOpenedLog, IsOpenedWith}
use Rattle.erm_start.proofs.Opened.{log_is, view_is}
use Rattle.erm_table_world.specs.declared.table_world.TableWorld.{TableWorld}
use Rattle.erm_table_world.specs.Stands.{IsTableWorld, Stands, table_log, table_view, world_view}
use Rattle.erm_table_world.proofs.Cuts.{cut, serializable}
use Rattle.erm_table_world.proofs.Opening.{row_is}

module _ (o : Opening) (count : length o.rows.items ≡ OID_LIMIT) where
  -- the rows that it opens on are those given, for the objects
  same_rows : SameRows (first_rows o) (rows_of o.rows.items)
  same_rows oid below = sym (row_is o count oid below)

  -- a call cuts off no more versions than there are cells
  with_cuts : {L : Type 0} (w : TableWorld L) → IsTableWorld sound_law w → IsOpenedWith (rows_of o.rows.items) o.tail o.run o.sessions TABLE_CELLS 0 (table_view w)
      → IsOpenedWith (rows_of o.rows.items) o.tail o.run o.sessions TABLE_CELLS TABLE_CELLS (world_view w)
  with_cuts w world is = record {
    opened = record {
      idle = is.opened.idle;
      tail = is.opened.tail;
      flushed = is.opened.flushed;
      pinned = is.opened.pinned;
      given_up = is.opened.given_up;
      serializable = world.serializable;
    };
    rows = is.rows;
    tail = is.tail;
    run = is.run;
    sessions = is.sessions;
    first = is.first;
    cells = is.cells;
    cuts = refl;
    unreached = is.unreached;
  }

  pub opened_with : {L : Type 0} (w : TableWorld L) → IsFirstObject (rows_of o.rows.items) o.first → IsTableWorld sound_law w → core_of (book w.pass) ≡ first_core o → w.count ≡ o.sessions
      → IsOpenedWith (rows_of o.rows.items) o.tail o.run o.sessions TABLE_CELLS TABLE_CELLS (world_view w)
  opened_with w first world opened many =
      with_cuts w world
      (view_is (rows_of o.rows.items) o.sessions (first_rows o) same_rows o.tail o.run o.first TABLE_CELLS w.count (core_of (book w.pass)) many opened first
      (saves.serializable (λ q. []) sound_law (cut 0 (world_view w)) (λ seat x session stand. AreSavesOf-none x) (λ seat session active. omega arith)
      (serializable 0 sound_law (world_view w) world.serializable)) world.stands.at.state.sound.lawful.below)

  pub opened_log : {L : Type 0} (w : TableWorld L) → core_of (book w.pass) ≡ first_core o → w.count ≡ o.sessions → IsOpenedLog (rows_of o.rows.items) o.tail o.run (table_log w)
  opened_log w opened many = log_is (rows_of o.rows.items) o.sessions (first_rows o) same_rows o.tail o.run o.first TABLE_CELLS w.count (core_of (book w.pass)) many opened

-- so it is of what an opening answers
pub stands_in : {L E : Type 0} (r : Result (TableWorld L) E) → ((w : TableWorld L) → Stands sound_law w → IsTableWorld sound_law w) → IfOk r (λ w. Stands sound_law w) → IfOk r (λ w. IsTableWorld sound_law w)
stands_in r laws stands = IfOk-weaker r _ _ laws stands

module _ (o : Opening) (count : length o.rows.items ≡ OID_LIMIT) where
  pub world_in : {L E : Type 0} (r : Result (TableWorld L) E) → IsFirstObject (rows_of o.rows.items) o.first → IfOk r (λ w. IsTableWorld sound_law w)
      → IfOk r (λ w. core_of (book w.pass) ≡ first_core o) → IfOk r (λ w. w.count ≡ o.sessions)
      → IfOk r (λ w. IsOpenedWith (rows_of o.rows.items) o.tail o.run o.sessions TABLE_CELLS TABLE_CELLS (world_view w))
  world_in (Ok w) first world opened many = opened_with o count w first world opened many
  world_in (Err why) first world opened many = tt

  pub log_in : {L E : Type 0} (r : Result (TableWorld L) E) → IfOk r (λ w. core_of (book w.pass) ≡ first_core o) → IfOk r (λ w. w.count ≡ o.sessions)
      → IfOk r (λ w. IsOpenedLog (rows_of o.rows.items) o.tail o.run (table_log w))
  log_in (Ok w) opened many = opened_log o count w opened many
  log_in (Err why) opened many = tt
