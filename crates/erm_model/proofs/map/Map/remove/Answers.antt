use Rattle.std.proofs.Common.{ap, ◌∙◌}
use Rattle.std.specs.FinMap.{remove}
use Rattle.erm_model.specs.Database.{at}
use Rattle.erm_model.proofs.Keys.{one_taken}
use Rattle.erm_model.proofs.map.Map.remove.Goals as goal

pub returns : goal.returns
returns c =
    one_taken c.self.inside.entries.entries c.remove.new.self.entries (at c.args.table c.args.key) c.remove.ensures.updates.0
    ∙ ap (λ m. remove m (at c.args.table c.args.key)) c.self.view_is
