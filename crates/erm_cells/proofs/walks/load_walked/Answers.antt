use Rattle.std.proofs.Common.{refl}
use Rattle.erm_rule.specs.Hands.{in_hand, walk_kind}
use Rattle.erm_rule.specs.Views.{part_of}
use Rattle.erm_rule.proofs.Numbered.{has_place}
use Rattle.erm_cells.proofs.Views.{both}
use Rattle.erm_cells.proofs.Walking.{known_object, met_at, number_at}
use Rattle.erm_cells.proofs.walks.load_walked.Goals as goal

pub step_as-requires-clause-met : goal.step_as-requires-clause-met
step_as-requires-clause-met g c = met_at (in_hand (part_of c.args.p.now.me.0.view c.args.who).task) c.args.word c.args.cell c.requires.cell

pub step_as-requires-clause-numbered : goal.step_as-requires-clause-numbered
step_as-requires-clause-numbered g c =
    number_at c.args.p.now.me.0.view c.args.who (walk_kind (part_of c.args.p.now.me.0.view c.args.who) c.args.word) (in_hand (part_of c.args.p.now.me.0.view c.args.who).task) c.args.word c.args.cell c.requires.known c.requires.held tt c.requires.ready refl (has_place c.args.word c.requires.word) c.requires.cell

pub step_as-requires-clause-known : goal.step_as-requires-clause-known
step_as-requires-clause-known g c = both _ _ (known_object (in_hand (part_of c.args.p.now.me.0.view c.args.who).task).oid c.requires.object) c.requires.word
