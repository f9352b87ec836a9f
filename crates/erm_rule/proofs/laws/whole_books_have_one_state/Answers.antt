use Rattle.std.proofs.Common.{refl}
use Rattle.erm_rule.proofs.Opens.{first_all}
use Rattle.erm_rule.proofs.Whole.{one_state, took_runs, took_whole}
use Rattle.erm_rule.proofs.laws.whole_books_have_one_state.Goals as goal

pub returns-clause-first : goal.returns-clause-first
returns-clause-first g c o = (first_all o, refl)

pub returns-clause-state : goal.returns-clause-state
returns-clause-state g c b d whole course = one_state b d whole course

pub returns-clause-steps : goal.returns-clause-steps
returns-clause-steps g c who steps b e took whole = (took_whole g.L.RowLaw.law who steps b e took whole, took_runs g.L.RowLaw.law who steps b e took whole)
