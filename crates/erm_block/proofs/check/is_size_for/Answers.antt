use Rattle.std.proofs.Common.{rules, ◌≡◌, ◌≤◌, ◌↔◌, IsTrue, ◌+◌, ◌*◌, nat_eq}
use Rattle.erm_block.specs.declared.block.Form.TheVariants.{Whole, Stored}
use Rattle.erm_block.proofs.Sizes.{IsSizeFor-from_test}
use Rattle.erm_block.proofs.check.is_size_for.Goals as goal

pub returns-in-Whole : goal.returns-in-Whole
returns-in-Whole c =
    let told : IsTrue (nat_eq c.from-size.result (5 + 17 * c.from-n.result)) ↔ (c.args.size ≡ 5 + 17 * c.args.n) = search rules in
    IsSizeFor-from_test c.stored_words_tell_the_row.ensures.short c.args.form Whole c.args.n c.args.size _ c.in-Whole.is told

pub returns-in-Stored : goal.returns-in-Stored
returns-in-Stored c =
    let told : IsTrue c.contains.result ↔ ((5 + c.args.n ≤ c.args.size) × (c.args.size ≤ 5 + 17 * c.args.n)) = search rules in
    IsSizeFor-from_test c.stored_words_tell_the_row.ensures.short c.args.form Stored c.args.n c.args.size c.contains.result c.in-Stored.is told
