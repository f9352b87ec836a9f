use Rattle.std.proofs.Common.{◌≡◌, ℕ, subst, arith}
use mathlib.Core.Option.{some}
use lib.ListN.{get_elem?}
use Rattle.std.specs.Slots.{slots_items}
use Rattle.erm_rule.proofs.Joins.{ends}
use Rattle.erm_rule.proofs.passes.close.Goals as goal

pub free-requires : goal.free-requires
free-requires g c k low = absurd (let none = c.requires.fits.slots in let counts = c.close_with-closed.ensures.counts.1 in omega (arith, none, counts, low))

pub returns : goal.returns
returns g c = record {
  ends =
      ends g.L.RowLaw.law c.args.t.words.shared.key c.args.p.id c.args.p.me.0 (slots_items c.close_with-closed.result.words) (slots_items c.close_with-closed.result.slots) c.word-tail.result
      c.close_with-closed.ensures.values.2
      (subst (λ (i : ℕ). get_elem? (slots_items c.close_with-closed.result.words) i ≡ some c.word-tail.result) c.index.ensures.number c.word-tail.ensures);
}
