use Rattle.std.proofs.Common.{[], sym, ap, ◌∙◌}
use Rattle.std.proofs.lemmas.List.{get_or_past}
use Rattle.erm_node.specs.Node.{first_child}
use Rattle.erm_node.proofs.Levels.{node_of-nil, first_child-no_node}
use Rattle.erm_node.proofs.soundness.child_of.Goals as goal

pub returns-in-None : goal.returns-in-None
returns-in-None c =
    sym (ap first_child (get_or_past c.args.rows.now c.args.oid [] c.in-None.ensures.lookup.3) ∙ first_child-no_node [] node_of-nil)
