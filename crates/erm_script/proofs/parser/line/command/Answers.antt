use Rattle.std.proofs.Common.{◌∷◌, ◌≡◌}
use Rattle.std.proofs.lemmas.Result.{IfErr-weaker}
use Rattle.erm_script.specs.Keywords.{word_of}
use Rattle.erm_script.specs.Words.{words_after}
use Rattle.erm_script.proofs.Faults.{arguments_fault}
use Rattle.erm_script.proofs.Lines.{words_after-of}
use Rattle.erm_script.proofs.parser.line.command.Goals as goal

pub returns-clause-fault : goal.returns-clause-fault
returns-clause-fault c =
    let keyword = c.in-Some-session_keyword.keyword in
    let is = c.in-Some-session_keyword.ensures.word in
    let are = words_after-of c.args.words c.in-Some.words (c.first.result.0.now ∷ words_after c.first.result.1) c.in-Some.is c.first.ensures in
    let words : words_after c.args.words ≡ word_of keyword ∷ words_after c.first.result.1 = rw is.0 at are in
    IfErr-weaker c.with_arguments.result _ _
    (λ kind fault. arguments_fault c.args.grammar (words_after c.args.words) keyword (words_after c.first.result.1) kind words is.1 is.2 fault)
    c.with_arguments.ensures.fault
