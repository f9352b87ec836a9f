use Rattle.erm_rows.proofs.Chain.{active_there, at_head, did_cut_chain, head_claimed, spare_there}
use Rattle.erm_rows.proofs.claiming.cut_chain.Goals as goal

pub horizon-bound-requires-clause-claimed : goal.horizon-bound-requires-clause-claimed
horizon-bound-requires-clause-claimed g c = head_claimed _ c.args.head c.requires.claimed

pub cut-requires-clause-active : goal.cut-requires-clause-active
cut-requires-clause-active g c = active_there c.args.p.now.me.0.view c.args.who c.args.head c.requires.active c.requires.claimed c.horizon-bound.result _ c.horizon-bound.ensures.found

pub cut-requires-clause-at : goal.cut-requires-clause-at
cut-requires-clause-at g c = at_head c.args.p.now.me.0.view c.args.who c.args.head c.requires.active c.requires.claimed c.horizon-bound.result _ c.horizon-bound.ensures.found

pub cut-requires-clause-spare : goal.cut-requires-clause-spare
cut-requires-clause-spare g c = spare_there c.args.p.now.me.0.view c.args.who c.args.head c.requires.active c.requires.claimed c.horizon-bound.result _ c.horizon-bound.ensures.found c.args.spare.now c.requires.spare

pub returns-clause-cut : goal.returns-clause-cut
returns-clause-cut g c = did_cut_chain c.args.p.now.me.0.view c.args.who c.args.head c.requires.active c.requires.claimed c.horizon-bound.result _ c.horizon-bound.ensures.found c.cut.result _ c.cut.ensures.cut

pub returns-clause-took : goal.returns-clause-took
returns-clause-took g c = record { horizon = c.horizon-bound.result; at = c.horizon-bound.new.p.me.0; found = c.horizon-bound.ensures.took; cut = c.cut.ensures.took; did = returns-clause-cut g c }
