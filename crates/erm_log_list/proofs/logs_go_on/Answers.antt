use Rattle.erm_log_list.proofs.Later.{goes_on, one_log}
use Rattle.erm_log_list.proofs.logs_go_on.Goals as goal

pub returns-clause-one : goal.returns-clause-one
returns-clause-one g c core to these bs sound one other = one_log c.one_spelling.ensures core sound to these bs one.of_ranges other.of_ranges

pub returns-clause-more : goal.returns-clause-more
returns-clause-more g c core from to these bs sound less one other = goes_on c.one_spelling.ensures core sound from to these bs less one.of_ranges other.of_ranges
