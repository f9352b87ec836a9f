use Rattle.erm_causes_at_once.specs.Laws.{RefusesForOthersIn}
use Rattle.erm_lines_at_once.proofs.Parts.{whole_of}
use Rattle.erm_causes_at_once.proofs.runs_at_once_refuse_for_others.Goals as goal

pub returns : goal.returns
returns c = whole_of (λ opening whole part answers told. RefusesForOthersIn opening whole part answers told) c.runs_in_part_have_causes.ensures.others
