use Rattle.std.proofs.Common.{sym, ◌∙◌}
use Rattle.erm_desk_cases.proofs.Items.{first_of, second_of}
use Rattle.erm_desk_cases.proofs.steps.two_of.Goals as goal

pub returns-clause-first : goal.returns-clause-first
returns-clause-first c = (c.requires.new.1.each 0 c.in-Some.first (first_of _ _ _ (sym c.into_iter-left.ensures.rest ∙ c.in-Some.ensures.items))).stands

pub returns-clause-second : goal.returns-clause-second
returns-clause-second c =
    (c.requires.new.1.each 1 c.in-Some-next.second (second_of _ _ _ _ _ (sym c.into_iter-left.ensures.rest ∙ c.in-Some.ensures.items) c.in-Some-next.ensures.items)).stands
