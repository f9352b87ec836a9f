use Rattle.erm_word_cases.proofs.Racing.{gives_one, one_given, gives_two, two_given, rest_given}
use Rattle.erm_word_cases.proofs.seats.open_two.Goals as goal

pub split-first-requires-clause-gives : goal.split-first-requires-clause-gives
split-first-requires-clause-gives c = gives_one c.sessions_are_handed_out.ensures.first c.sessions_are_handed_out.ensures.more c.args.opening.now _ c.in_ok-table.ensures.view c.requires.none

pub split-second-requires-clause-gives : goal.split-second-requires-clause-gives
split-second-requires-clause-gives c = gives_two c.sessions_are_handed_out.ensures.first c.sessions_are_handed_out.ensures.more c.args.opening.now _ c.in_ok-table.ensures.view c.requires.none _ c.split-first.ensures.kept

pub returns-clause-rest : goal.returns-clause-rest
returns-clause-rest c = rest_given c.sessions_are_handed_out.ensures.first c.sessions_are_handed_out.ensures.more c.args.opening.now _ c.in_ok-table.ensures.view c.requires.none _ c.split-first.ensures.kept _ c.split-second.ensures.kept

pub returns-clause-first : goal.returns-clause-first
returns-clause-first c = one_given c.sessions_are_handed_out.ensures.first c.sessions_are_handed_out.ensures.more c.args.opening.now _ c.in_ok-table.ensures.view c.requires.none _ c.split-first.ensures.given

pub returns-clause-second : goal.returns-clause-second
returns-clause-second c = two_given c.sessions_are_handed_out.ensures.first c.sessions_are_handed_out.ensures.more c.args.opening.now _ c.in_ok-table.ensures.view c.requires.none _ c.split-first.ensures.kept _ c.split-second.ensures.given
