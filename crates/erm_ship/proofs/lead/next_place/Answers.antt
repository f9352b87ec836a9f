use Rattle.std.proofs.Common.{ℕ, ◌+◌, length, refl, ap, arith, length-append}
use Rattle.erm_block.specs.Spelling.{spelling}
use Rattle.erm_ship.proofs.Leading.{size_some}
use Rattle.erm_ship.proofs.lead.next_place.Goals as goal

pub returns-then-next-end-clause-some : goal.returns-then-next-end-clause-some
returns-then-next-end-clause-some c =
    let stands = c.in_ok-block.ensures.found in
    let b = c.in_ok-block.block in
    let size = c.spelling_size.ensures.size b c.args.place.at c.args.place.run stands.is in
    let some = size_some c.spelling_size.ensures.size b c.args.place.at c.args.place.run stands.is in
    let from = c.from.ensures in
    record {
      block = b;
      stands = stands;
      at = ap (λ (n : ℕ). c.args.place.at + n) from;
      run = refl;
      above = omega (arith, some, from);
      there = omega (arith, from, size, ap length stands.spelled.1, length-append (spelling b) stands.spelled.0);
      high = c.if-next-end.true;
    }
