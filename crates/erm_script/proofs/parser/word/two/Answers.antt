use Rattle.std.proofs.Common.{◌≡◌, ◌∷◌}
use Rattle.erm_script.specs.Words.{words_of, words_after}
use Rattle.erm_script.proofs.Lines.{more_than_two}
use Rattle.erm_script.proofs.parser.word.two.Goals as goal

pub returns-in-Some-clause-others : goal.returns-in-Some-clause-others
returns-in-Some-clause-others c =
    let first = c.first.ensures in
    let second = c.first-2.ensures in
    let given = c.in_ok-words.was in
    let more = c.in_ok-rest.was in
    let third = c.in-Some.is in
    let are : words_after c.args.words ≡ c.first.result.0.now ∷ c.first-2.result.0.now ∷ words_of c.in-Some.field-0.now = cc in
    more_than_two (words_after c.args.words) c.first.result.0.now c.first-2.result.0.now c.in-Some.field-0.now are
