use Rattle.std.proofs.Common.{sym, ap, ◌∙◌}
use Rattle.erm_model.specs.Database.{at, value_at}
use Rattle.erm_model.proofs.Keys.{get_key}
use Rattle.erm_model.proofs.map.Map.get.Goals as goal

pub returns : goal.returns
returns c =
    c.get.ensures.value
    ∙ sym (get_key c.self.inside.entries.entries (at c.args.table c.args.key))
    ∙ ap (λ m. value_at m c.args.table c.args.key) c.self.view_is
