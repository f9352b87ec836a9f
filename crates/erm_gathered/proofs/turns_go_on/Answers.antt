use Rattle.erm_ring.proofs.Between.{clear_leaves, gathered_stays, gathers_clears, gathers_leaves, gathers_low}
use Rattle.erm_gathered.proofs.Turns.{clear_joins, gather_joins}
use Rattle.erm_gathered.proofs.turns_go_on.Goals as goal

pub returns-clause-anew : goal.returns-clause-anew
returns-clause-anew c gathered words b e may did = gathers_leaves gathered b words e may did

pub returns-clause-clears : goal.returns-clause-clears
returns-clause-clears c at count words b e may did = gathers_clears at count b words e may did

pub returns-clause-low : goal.returns-clause-low
returns-clause-low c at count words b e may did = gathers_low at count b words e may did

pub returns-clause-again : goal.returns-clause-again
returns-clause-again c to b e may did = clear_leaves to b e may did

pub returns-clause-gather_joins : goal.returns-clause-gather_joins
returns-clause-gather_joins c gathered words b e may did = gather_joins gathered words b e may did

pub returns-clause-clear_joins : goal.returns-clause-clear_joins
returns-clause-clear_joins c to b e may did = clear_joins to b e may did

pub returns-clause-still : goal.returns-clause-still
returns-clause-still c tail from to words b e may did core is = gathered_stays tail from to words b e may did core is
