use Rattle.std.proofs.Common.{arith}
use Rattle.erm_disk_run.proofs.Spelled.{can_be_run}
use Rattle.erm_disk_cases.proofs.worlds.is_told_alike.Goals as goal

pub run_on_disk-over_words-requires-clause-script : goal.run_on_disk-over_words-requires-clause-script
run_on_disk-over_words-requires-clause-script c =
    rw c.deref.ensures.value (rw c.deref-2.ensures.value
    (can_be_run c.run_grammar.result c.args.bytes.now c.in-Ok.script.names.items c.in-Ok.script.lines.items (omega (arith, c.run_grammar.ensures)) c.in-Ok.ensures.script
    (omega (arith, c.in-Ok.ensures.short, c.requires))))

pub run_in_lists-in_lists-requires-clause-script : goal.run_in_lists-in_lists-requires-clause-script
run_in_lists-in_lists-requires-clause-script c =
    rw c.deref-3.ensures.value (rw c.deref-4.ensures.value
    (can_be_run c.run_grammar.result c.args.bytes.now c.in-Ok.script.names.items c.in-Ok.script.lines.items (omega (arith, c.run_grammar.ensures)) c.in-Ok.ensures.script
    (omega (arith, c.in-Ok.ensures.short, c.requires))))
