use Rattle.std.proofs.Common.{◌∙◌, ap}
use Rattle.erm_machine.specs.declared.limits.TheConstants.{FLUSH_SEAT}
use Rattle.erm_rule.specs.declared.view.View.{View}
use Rattle.erm_rule.specs.Views.{part_of}
use Rattle.erm_word_cases.proofs.Racing.{flush_idle}
use Rattle.erm_word_cases.proofs.seats.begin_both.Goals as goal

pub begin_steps-pin-requires-clause-idle : goal.begin_steps-pin-requires-clause-idle
begin_steps-pin-requires-clause-idle c = ap (λ (v : View). (part_of v FLUSH_SEAT).place) c.requires.rest ∙ flush_idle c.args.opening.now
