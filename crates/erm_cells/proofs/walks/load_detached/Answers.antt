use Rattle.std.proofs.Common.{refl}
use Rattle.erm_machine.specs.declared.version.CellWord.TheVariants as word
use Rattle.erm_cells.specs.Hands.{detached_kind}
use Rattle.erm_rule.specs.Hands.{in_hand}
use Rattle.erm_rule.specs.Views.{part_of}
use Rattle.erm_cells.proofs.Walking.{known_object, met_at, number_at}
use Rattle.erm_cells.proofs.walks.load_detached.Goals as goal

pub step_as-requires-clause-met : goal.step_as-requires-clause-met
step_as-requires-clause-met g c = met_at (in_hand (part_of c.args.p.now.me.0.view c.args.who).task) word.Link c.args.cell c.requires.cell

pub step_as-requires-clause-numbered : goal.step_as-requires-clause-numbered
step_as-requires-clause-numbered g c =
    number_at c.args.p.now.me.0.view c.args.who (detached_kind (part_of c.args.p.now.me.0.view c.args.who)) (in_hand (part_of c.args.p.now.me.0.view c.args.who).task) word.Link c.args.cell c.requires.known c.requires.held tt c.requires.ready refl tt c.requires.cell

pub step_as-requires-clause-known : goal.step_as-requires-clause-known
step_as-requires-clause-known g c = known_object (in_hand (part_of c.args.p.now.me.0.view c.args.who).task).oid c.requires.object
