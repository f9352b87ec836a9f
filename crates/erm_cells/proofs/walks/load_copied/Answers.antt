use Rattle.std.proofs.Common.{refl}
use Rattle.std.proofs.lemmas.Bool.{lt-ltb}
use Rattle.erm_machine.specs.declared.version.CellWord.TheVariants as word
use Rattle.erm_cells.specs.Hands.{newest_claimed, copied_kind}
use Rattle.erm_rule.specs.Views.{part_of}
use Rattle.erm_cells.proofs.Views.{both}
use Rattle.erm_cells.proofs.Walking.{known_object, met_at, number_at}
use Rattle.erm_cells.proofs.walks.load_copied.Goals as goal

pub step_as-requires-clause-met : goal.step_as-requires-clause-met
step_as-requires-clause-met g c = met_at (newest_claimed (part_of c.args.p.now.me.0.view c.args.who)) (word.Row c.args.place) c.args.cell c.requires.cell

pub step_as-requires-clause-numbered : goal.step_as-requires-clause-numbered
step_as-requires-clause-numbered g c =
    number_at c.args.p.now.me.0.view c.args.who (copied_kind (part_of c.args.p.now.me.0.view c.args.who) c.args.place) (newest_claimed (part_of c.args.p.now.me.0.view c.args.who)) (word.Row c.args.place) c.args.cell c.requires.known c.requires.held tt c.requires.ready refl c.requires.place c.requires.cell

pub step_as-requires-clause-known : goal.step_as-requires-clause-known
step_as-requires-clause-known g c = both _ _ (known_object (newest_claimed (part_of c.args.p.now.me.0.view c.args.who)).oid c.requires.object) (lt-ltb c.args.place 16 c.requires.place)
