use Rattle.std.proofs.Common.{rules}
use Rattle.erm_replica.proofs.Finding.{finds_base, finds_block}
use Rattle.erm_replica.proofs.Sizes.{part_announced}
use Rattle.erm_replica.proofs.front.find.Goals as goal

pub returns-in_ok-slot-in-None-clause-found : goal.returns-in_ok-slot-in-None-clause-found
returns-in_ok-slot-in-None-clause-found c =
    let found = c.in_ok-slot-in-None.ensures.found in
    finds_base (part_announced c.slots_are_bounded.ensures.most c.spelling_size.ensures.size c.spelling_size.ensures.most) c.args.log c.args.bytes.now found.0 c.in_ok-slot-in-None.slot c.in_ok-slot-in-None.size c.find_base.new.rows
    c.in-None.is found.1 found.2 found.3 found.4

pub returns-in_ok-block-in-Some-clause-found : goal.returns-in_ok-block-in-Some-clause-found
returns-in_ok-block-in-Some-clause-found c =
    finds_block (part_announced c.slots_are_bounded.ensures.most c.spelling_size.ensures.size c.spelling_size.ensures.most) c.spelling_size.ensures.size c.args.log c.in-Some.log c.args.bytes.now c.in_ok-block-in-Some.block
    c.from.result c.from-in-Some.result c.args.rows.now c.in-Some.is c.in_ok-block-in-Some.ensures.found (search rules) (search rules)
