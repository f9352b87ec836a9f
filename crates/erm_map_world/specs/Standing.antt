-- The world of one session as its program keeps it.
use Rattle.std.specs.Prelude.{List, Vec, map}
use Rattle.erm_model.specs.declared.history.VersionWritten.{VersionWritten}
use Rattle.erm_model.specs.RowTransaction.{Law}
use Rattle.erm_model.specs.Rows.{rows_of}
use Rattle.erm_map_world.specs.declared.map_world.MapWorld.{MapWorld}
use Rattle.erm_map_world.specs.MapWorks.{done_of, work_in}
use Rattle.erm_map_world.specs.MapWorld.{IsWorld, Map, map_view, stand_of}
use Rattle.erm_world.specs.World.{View}

-- the claims that savepoints keep
abbrev pub saves_in : {A : Type 0} → List (Vec VersionWritten A) → List (List VersionWritten)
saves_in saves = map (λ saved. saved.items) saves

abbrev pub map_of : {L : Type 0} → MapWorld L → Map
map_of w = record {
  start = w.start;
  rows = rows_of w.rows.items;
  first = w.first;
  next = w.next;
  tail = w.tail;
  begun = w.begun;
  over = map done_of w.over.items;
  stand = stand_of w.phase (work_in w.work);
  saves = saves_in w.saves.items;
}

abbrev pub view_of : {L : Type 0} → MapWorld L → View
view_of w = map_view (map_of w)

abbrev pub Stands : {L : Type 0} → Law → MapWorld L → Type 0
Stands law w = IsWorld law (map_of w)
