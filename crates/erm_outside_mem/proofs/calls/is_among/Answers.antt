use Rattle.std.proofs.Common.{rules}
use Rattle.erm_outside_mem.proofs.Searches.{IsOk-searched}
use Rattle.erm_outside_mem.proofs.calls.is_among.Goals as goal

pub returns : goal.returns
returns c =
    let s = IsOk-searched c.args.numbers.now c.args.number c.binary_search.result c.requires c.binary_search.ensures.position in
    search rules
