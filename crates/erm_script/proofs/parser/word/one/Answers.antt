use Rattle.std.proofs.Common.{◌≡◌, ◌∷◌}
use Rattle.erm_script.specs.Words.{words_of, words_after}
use Rattle.erm_script.proofs.Lines.{more_than_one}
use Rattle.erm_script.proofs.parser.word.one.Goals as goal

pub returns-in-Some-clause-others : goal.returns-in-Some-clause-others
returns-in-Some-clause-others c =
    let first = c.first.ensures in
    let given = c.in_ok-words.was in
    let more = c.in-Some.is in
    let are : words_after c.args.words ≡ c.first.result.0.now ∷ words_of c.in-Some.field-0.now = cc in
    more_than_one (words_after c.args.words) c.first.result.0.now c.in-Some.field-0.now are
