use Rattle.std.proofs.Common.{map, ap, refl, List}
use Rattle.erm_model.specs.Rows.{rows_of}
use Rattle.erm_map_world.specs.MapWorks.{done_of}
use Rattle.erm_world.specs.World.{Finished}
use Rattle.erm_world.specs.World as world
use Rattle.erm_map_world.proofs.MapClauses.{map_opened}
use Rattle.erm_map_world.proofs.map_world.MapWorld.new.Goals as goal

pub returns-clause-stands : goal.returns-clause-stands
returns-clause-stands g c =
    map_opened g.L.RowLaw.law c.args.start (rows_of c.args.rows.items) c.args.first _ _ c.requires.start c.requires.meets c.requires.reach (ap (map done_of) c.new.ensures.items)

pub returns-clause-opened : goal.returns-clause-opened
returns-clause-opened g c = record {
  rows_are = refl;
  first_is = refl;
  start_is = refl;
  one = refl;
  tail = refl;
  idle = ap (λ (over : List Finished). record { over = over; stand = world.idle }) (ap (map done_of) c.new.ensures.items);
}
