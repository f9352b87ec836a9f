use Rattle.std.proofs.Common.{refl}
use Rattle.erm_machine.specs.declared.version.CellWord.TheVariants as word
use Rattle.erm_rule.specs.Views.{part_of}
use Rattle.erm_cells.specs.Hands.{mark_kind, ended_claim}
use Rattle.erm_cells.proofs.Walking.{known_object, met_at, number_at}
use Rattle.erm_cells.proofs.settles.store_overwriter.Goals as goal

pub step_as-requires-clause-known : goal.step_as-requires-clause-known
step_as-requires-clause-known g c = known_object (ended_claim (part_of c.args.p.now.me.0.view c.args.who)).oid c.requires.object

pub step_as-requires-clause-met : goal.step_as-requires-clause-met
step_as-requires-clause-met g c = met_at (ended_claim (part_of c.args.p.now.me.0.view c.args.who)) word.Overwriter c.args.cell c.requires.cell

pub step_as-requires-clause-numbered : goal.step_as-requires-clause-numbered
step_as-requires-clause-numbered g c =
    number_at c.args.p.now.me.0.view c.args.who (mark_kind (part_of c.args.p.now.me.0.view c.args.who) c.args.value) (ended_claim (part_of c.args.p.now.me.0.view c.args.who)) word.Overwriter c.args.cell c.requires.known c.requires.held tt c.requires.ready refl tt c.requires.cell
