use Rattle.std.proofs.Common.{◌≡◌, ◌-◌, ◌∙◌, refl, sym, ap, arith}
use Rattle.erm_recover.proofs.Reading.{rest_of}
use Rattle.erm_ship.proofs.Leading.{blocks_are, going_ends, going_nowhere, going_on, leads_nowhere}
use Rattle.erm_ship.proofs.lead.last_place.Goals as goal

pub loop-next-init : goal.loop-next-init
loop-next-init c = going_nowhere c.args.words.now c.args.start c.args.end c.requires

pub loop-next-preserved : goal.loop-next-preserved
loop-next-preserved c =
    going_on c.args.words.now _ c.args.start c.loop-next.place c.in-Some.next c.args.end (rest_of c.args.words.now (c.loop-next.place.at - c.args.start.at)) c.loop-next.invariant c.in-Some.ensures.some

pub returns : goal.returns
returns c =
    let going = c.loop-next.invariant in
    going_ends c.args.words.now _ c.args.start c.loop-next.place c.args.end (rest_of c.args.words.now (c.loop-next.place.at - c.args.start.at)) going c.in_default.ensures.none
    (λ same. (leads_nowhere c.spelling_size.ensures.size c.args.start c.loop-next.place going.blocks (blocks_are c.args.words.now _ going.blocks going.chain) going.lead same).1)
