use Rattle.erm_desk.proofs.Unflushed.{first_unflushed, first_unpinned, left_unflushed, left_unpinned}
use Rattle.erm_desk.proofs.laws.first_passes_are_unflushed.Goals as goal

pub returns-clause-unpinned : goal.returns-clause-unpinned
returns-clause-unpinned c opening = first_unpinned opening

pub returns-clause-first : goal.returns-clause-first
returns-clause-first c opening = first_unflushed opening

pub returns-clause-left : goal.returns-clause-left
returns-clause-left c b place may flushed = left_unflushed b place may flushed

pub returns-clause-left_unpinned : goal.returns-clause-left_unpinned
returns-clause-left_unpinned c b may idle = left_unpinned b may idle
