use Rattle.erm_model.specs.Member.{◌∈◌}
use Rattle.erm_good_report.specs.Causes.{HasCauseOf}
use Rattle.erm_good_report.specs.Transactions.{Transaction}
use Rattle.erm_lines_at_once.proofs.Parts.{whole_of}
use Rattle.erm_causes_at_once.proofs.runs_at_once_have_causes.Goals as goal

pub returns : goal.returns
returns c = whole_of (λ opening whole part answers told. (t : Transaction) → t ∈ told → HasCauseOf t.ending told t) c.runs_in_part_have_causes.ensures.causes
