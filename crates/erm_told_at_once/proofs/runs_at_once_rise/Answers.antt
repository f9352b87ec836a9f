use Rattle.erm_good_report.specs.Opening.{AtOnce}
use Rattle.erm_good_report.specs.Transactions.{said_of}
use Rattle.erm_good_at_once.specs.Rising.{StampsRise}
use Rattle.erm_lines_at_once.proofs.Parts.{whole_of}
use Rattle.erm_told_at_once.proofs.runs_at_once_rise.Goals as goal

pub returns : goal.returns
returns c = whole_of (λ opening whole part answers told. StampsRise AtOnce told (said_of part answers)) c.runs_in_part_are_told.ensures.rise
