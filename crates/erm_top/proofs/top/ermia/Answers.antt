use Rattle.std.proofs.Common.{Ok, ap, refl, ◌∙◌}
use Rattle.erm_top.proofs.Asked.{is_sized, one_asked}
use Rattle.erm_top.proofs.Whole.{ends, ends_misused, ends_starved}
use Rattle.erm_top.proofs.top.ermia.Goals as goal

pub run_command-requires-clause-sized : goal.run_command-requires-clause-sized
run_command-requires-clause-sized g c κs within =
    is_sized c.args.words.now c.in-Ok-Some.command (c.command_of.ensures.asked c.in-Ok-Some.command (c.in-Ok-Some.is ∙ ap (λ o. Ok o) c.in-Ok-Some.field-0-is))

pub returns-in-Ok-Some : goal.returns-in-Ok-Some
returns-in-Ok-Some g c =
    let is = c.in-Ok-Some.is ∙ ap (λ o. Ok o) c.in-Ok-Some.field-0-is in
    ends c.args.words.now c.in-Ok-Some.command c.run_command.result.status _ (c.command_of.ensures.asked c.in-Ok-Some.command is)
    (λ other also. one_asked c.args.words.now c.command_of.result c.in-Ok-Some.command other is (c.command_of.ensures.found other also)) c.run_command.ensures

pub returns-in-Ok-None : goal.returns-in-Ok-None
returns-in-Ok-None g c =
    ends_misused c.args.words.now _ (c.command_of.ensures.none (c.in-Ok-None.is ∙ ap (λ o. Ok o) c.in-Ok-None.field-0-is)) (record { left = refl; sound = refl }) (record { told = refl; sound = refl }) c.print.ensures

pub returns-in-Err : goal.returns-in-Err
returns-in-Err g c =
    ends_starved c.one_recovery.ensures c.each_transaction_is_counted.ensures.sum c.starving_is_an_end.ensures c.starved_replicas_end.ensures c.args.words.now _ (record { left = refl; sound = refl }) (record { told = refl; sound = refl }) c.print-in-Err.ensures
