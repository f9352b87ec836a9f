use Rattle.erm_core_calls.proofs.Lasting.{not_for_ever}
use Rattle.erm_core_calls.proofs.Nearing.{comes_nearer, keeps_call}
use Rattle.erm_core_calls.proofs.calls_end.Goals as goal

pub returns-clause-nearer : goal.returns-clause-nearer
returns-clause-nearer c = λ b core seat sound call m. comes_nearer core seat sound b call m

pub returns-clause-kept : goal.returns-clause-kept
returns-clause-kept c = λ core d seat other k another call e. keeps_call core d seat other k another call e

pub returns-clause-ends : goal.returns-clause-ends
returns-clause-ends c = λ seat run on. not_for_ever seat run on
