use Rattle.std.proofs.Common.{sym, ◌∙◌}
use Rattle.erm_rule.specs.Views.{part_of}
use Rattle.erm_cells.proofs.Rating.{bare_list, draw_counted, draw_refused, draw_spare, err_then, ok_then}
use Rattle.erm_cells.proofs.draws.draw.Goals as goal
use Rattle.erm_cells.proofs.Took.{drawn_counted, drawn_spare}

pub draw_counted-requires-clause-bare : goal.draw_counted-requires-clause-bare
draw_counted-requires-clause-bare g c = bare_list c.args.spare.now (part_of c.args.p.now.me.0.view c.args.who) c.requires.spare c.in-None.ensures.0

pub returns-in-Some-clause-drawn : goal.returns-in-Some-clause-drawn
returns-in-Some-clause-drawn g c =
    draw_spare c.args.p.now.me.0.view c.args.who c.requires.active c.requires.known c.requires.draws c.pop.new.self c.in-Some.cell (sym c.in-Some.ensures ∙ c.requires.spare)

pub returns-in-None-clause-drawn : goal.returns-in-None-clause-drawn
returns-in-None-clause-drawn g c =
    ok_then c.draw_counted.result c.draw_counted.ensures.counted
    (λ cell did. draw_counted c.args.p.now.me.0.view c.args.who c.requires.active c.requires.known c.requires.draws c.pop.new.self cell _ (bare_list c.args.spare.now (part_of c.args.p.now.me.0.view c.args.who) c.requires.spare c.in-None.ensures.0) c.in-None.ensures.1 did)

pub returns-in-None-clause-refused : goal.returns-in-None-clause-refused
returns-in-None-clause-refused g c =
    err_then c.draw_counted.result c.draw_counted.ensures.refused
    (λ seen did. draw_refused c.args.p.now.me.0.view c.args.who c.requires.active c.requires.known c.requires.draws c.pop.new.self seen _ (bare_list c.args.spare.now (part_of c.args.p.now.me.0.view c.args.who) c.requires.spare c.in-None.ensures.0) c.in-None.ensures.1 did)

pub returns-in-Some-clause-took : goal.returns-in-Some-clause-took
returns-in-Some-clause-took g c = drawn_spare g.L.RowLaw.law c.args.who c.args.spare.now c.pop.new.self c.in-Some.cell c.args.p.now.me.0 c.in-Some.ensures

pub returns-in-None-clause-took : goal.returns-in-None-clause-took
returns-in-None-clause-took g c =
    ok_then c.draw_counted.result c.draw_counted.ensures.took
    (λ cell took. drawn_counted g.L.RowLaw.law c.args.who c.args.spare.now cell c.args.p.now.me.0 c.draw_counted.new.p.me.0 c.in-None.ensures.0 took)
