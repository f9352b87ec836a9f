use Rattle.std.proofs.Common.{subst, ◌≡◌, List}
use Rattle.erm_block.specs.declared.block.Block.{Block}
use Rattle.erm_log_list.specs.LogOf.{IsLogUpTo}
use Rattle.erm_log_list.proofs.Later.{below_after, blocks_later, decided_later, one_log}
use Rattle.erm_log_list.proofs.logs_stay.Goals as goal

pub returns-clause-decided : goal.returns-clause-decided
returns-clause-decided g c core d seat kind to sound e upto =
    decided_later core d to (below_after core seat kind d to upto.within e) (c.decided_transactions_stay.ensures core d seat kind sound e) sound
    (c.events_keep_sound.ensures core d seat kind sound e) upto

pub returns-clause-blocks : goal.returns-clause-blocks
returns-clause-blocks g c core d seat kind to blocks under keeps e upto is =
    let same = below_after core seat kind d to upto.within e in
    let stay = c.decided_transactions_stay.ensures core d seat kind under.sound e in
    let later = c.events_keep_law.ensures core d seat kind under keeps e in
    let found = c.blocks_are_a_log_list.ensures d to later (decided_later core d to same stay under.sound later.sound upto) in
    let one : found.0 ≡ blocks = one_log c.one_spelling.ensures d later.sound to found.0 blocks found.1.of_ranges (blocks_later core d to same stay blocks is.of_ranges) in
    subst (λ (bs : List Block). IsLogUpTo g.L.RowLaw.law d to bs) one found.1
