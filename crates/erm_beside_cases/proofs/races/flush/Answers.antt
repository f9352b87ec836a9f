use Rattle.std.proofs.Common.{◌+◌, ◌^◌, ◌<◌, arith}
use Rattle.erm_ring.proofs.Between.{clear_leaves, gathers_clears, gathers_leaves, gathers_low}
use Rattle.erm_beside_cases.proofs.races.flush.Goals as goal

pub overflow_add-at : goal.overflow_add-at
overflow_add-at c =
    let low : c.in-Words.at + c.in-Words.count < 2 ^ 61 =
    gathers_low c.in-Words.at c.in-Words.count c.args.pass.now.me.0 c.gather.new.words c.gather.new.p.me.0 c.requires.may c.in-Words.ensures.gathers in
    omega (arith, low)

pub clear-requires-clause-may : goal.clear-requires-clause-may
clear-requires-clause-may c =
    gathers_clears c.in-Words.at c.in-Words.count c.args.pass.now.me.0 c.gather.new.words c.gather.new.p.me.0 c.requires.may c.in-Words.ensures.gathers

pub returns-in-Words-clause-may : goal.returns-in-Words-clause-may
returns-in-Words-clause-may c =
    clear_leaves (c.in-Words.at + c.in-Words.count) c.gather.new.p.me.0 c.clear.new.p.me.0
    (gathers_clears c.in-Words.at c.in-Words.count c.args.pass.now.me.0 c.gather.new.words c.gather.new.p.me.0 c.requires.may c.in-Words.ensures.gathers)
    c.clear.ensures.cleared

pub returns-in_default-clause-may : goal.returns-in_default-clause-may
returns-in_default-clause-may c = gathers_leaves c.gather.result c.args.pass.now.me.0 c.gather.new.words c.gather.new.p.me.0 c.requires.may c.gather.ensures.gathers
