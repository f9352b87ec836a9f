use Rattle.erm_sound.proofs.Openings.{opening_begins}
use Rattle.erm_sound.proofs.openings_are_lawful.Goals as goal

pub returns : goal.returns
returns g c sessions rows tail run first cells sound meets below = record {
  sound = sound;
  lawful = c.openings_are_lawful.ensures sessions rows tail run first cells meets below;
  spelled = c.openings_are_spelled.ensures sessions rows tail run first cells;
  begins = opening_begins sessions rows tail run first cells;
}
