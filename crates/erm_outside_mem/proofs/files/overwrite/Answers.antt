use Rattle.std.proofs.Common.{◌≡◌, ◌+◌, length, ◌∙◌, ap, take, drop, ◌++◌, rules}
use Rattle.erm_outside_mem.proofs.Zeros.{copied_to_vector}
use Rattle.erm_outside_mem.proofs.files.overwrite.Goals as goal

pub returns-clause-done : goal.returns-clause-done
returns-clause-done c =
    let bytes = c.args.bytes.now in
    let grown = c.grow.new.contents.items in
    let copied = c.copy_to.new.contents in
    let copy : copied ≡ take c.args.at grown ++ bytes ++ drop (c.args.at + length bytes) grown =
    (c.copy_to.ensures ∙ ap (λ xs. take c.args.at xs ++ bytes ++ drop (c.args.at + length bytes) xs) c.deref_mut.ensures.value) in
    let end : c.in-Some.end ≡ c.args.at + length bytes = search rules in
    let long : c.grow.new.contents.len ≡ length copied = search rules in
    let all : length grown ≡ c.grow.new.contents.len = search rules in
    copied_to_vector c.args.contents.now.items bytes grown copied c.args.at c.in-Some.end c.grow.new.contents.len end c.in_ok-grow.ensures.grown copy long all
