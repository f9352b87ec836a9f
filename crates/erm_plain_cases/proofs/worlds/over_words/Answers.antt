use Rattle.std.proofs.lemmas.Result.{IfOk-weaker}
use Rattle.erm_plain_cases.proofs.worlds.over_words.Goals as goal

pub returns-clause-stands : goal.returns-clause-stands
returns-clause-stands c = IfOk-weaker c.open.result _ _ (λ w stands. c.standing_worlds_have_laws.ensures w stands) c.open.ensures.stands
