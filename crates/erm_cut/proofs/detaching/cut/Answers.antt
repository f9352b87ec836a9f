use Rattle.std.proofs.Common.{inl, inr, refl}
use Rattle.erm_cut.proofs.Cutting.{active_found, at_found, spare_found, did_cut, cut_none, spare_none}
use Rattle.erm_cut.proofs.detaching.cut.Goals as goal

pub detach-requires-clause-active : goal.detach-requires-clause-active
detach-requires-clause-active g c = active_found c.args.p.now.me.0.view c.args.who c.args.horizon c.requires.active c.in-Some.cell c.find_cut.new.p.me.0.view c.in-Some.ensures.found

pub detach-requires-clause-known : goal.detach-requires-clause-known
detach-requires-clause-known g c = c.in-Some.ensures.found.known

pub detach-requires-clause-found : goal.detach-requires-clause-found
detach-requires-clause-found g c = at_found c.args.p.now.me.0.view c.args.who c.args.horizon c.requires.active c.in-Some.cell c.find_cut.new.p.me.0.view c.in-Some.ensures.found

pub detach-requires-clause-spare : goal.detach-requires-clause-spare
detach-requires-clause-spare g c =
    spare_found c.args.p.now.me.0.view c.args.who c.args.horizon c.requires.active c.in-Some.cell c.find_cut.new.p.me.0.view c.in-Some.ensures.found c.args.spare.now c.requires.spare

pub returns-in-Some-clause-cut : goal.returns-in-Some-clause-cut
returns-in-Some-clause-cut g c =
    did_cut c.args.p.now.me.0.view c.args.who c.args.horizon c.requires.active c.in-Some.cell c.find_cut.new.p.me.0.view c.in-Some.ensures.found c.detach.result c.detach.new.p.me.0.view c.detach.ensures.detached

pub returns-in-Some-clause-spare : goal.returns-in-Some-clause-spare
returns-in-Some-clause-spare g c = c.detach.ensures.spare

pub returns-in-None-clause-cut : goal.returns-in-None-clause-cut
returns-in-None-clause-cut g c = cut_none c.args.p.now.me.0.view c.args.who c.args.horizon c.requires.active c.find_cut.new.p.me.0.view c.in-None.ensures.found

pub returns-in-None-clause-spare : goal.returns-in-None-clause-spare
returns-in-None-clause-spare g c = spare_none c.args.p.now.me.0.view c.args.who c.args.horizon c.requires.active c.find_cut.new.p.me.0.view c.in-None.ensures.found c.args.spare.now c.requires.spare

pub returns-in-Some-clause-took : goal.returns-in-Some-clause-took
returns-in-Some-clause-took g c = inr (c.find_cut.new.p.me.0, c.find_cut.ensures.loads, c.detach.ensures.took)

pub returns-in-None-clause-took : goal.returns-in-None-clause-took
returns-in-None-clause-took g c = inl (refl, c.find_cut.ensures.loads)
