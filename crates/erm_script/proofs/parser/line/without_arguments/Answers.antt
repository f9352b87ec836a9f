use Rattle.std.proofs.Common.{sym, ◌∙◌}
use Rattle.erm_script.proofs.Lines.{words_after-some}
use Rattle.erm_script.proofs.parser.line.without_arguments.Goals as goal

pub returns-then-is_some-clause-fault : goal.returns-then-is_some-clause-fault
returns-then-is_some-clause-fault c = words_after-some c.args.words (sym c.is_some.ensures ∙ c.if-is_some.true)
