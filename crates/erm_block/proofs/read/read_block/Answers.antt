use Rattle.std.proofs.Common.{◌≡◌, ℕ, take, Some, refl, sym, ap, subst, ◌∙◌, arith}
use Rattle.std.proofs.lemmas.Bool.{false≢true}
use Rattle.std.proofs.lemmas.List.{length-take-le}
use Rattle.erm_block.specs.Block.{IsBlock}
use Rattle.erm_block.specs.declared.block.Block.{Block}
use Rattle.erm_block.specs.Spelling.{spelling, Spells}
use Rattle.erm_block.proofs.Found.{IfSome-then_some, Some-then_some, Spells-from_starts_with, starts_with-from_Spells}
use Rattle.erm_block.proofs.Reading.{Some≡Some, in_range}
use Rattle.erm_block.proofs.read.read_block.Goals as goal

pub returns-then-not-is_block-clause-given : goal.returns-then-not-is_block-clause-given
returns-then-not-is_block-clause-given c = λ other stands.
    let block = c.in_ok-block.block in
    let same : block ≡ other = Some≡Some c.candidate.result block other c.in_ok-block.was (c.candidate.ensures other c.args.at c.args.run_before stands) in
    let is : IsBlock block c.args.at c.args.run_before = subst (λ (b : Block). IsBlock b c.args.at c.args.run_before) (sym same) stands.is in
    absurd (false≢true (c.if-not-is_block.ensures.1 is))

pub encode_into-size-requires-clause-room : goal.encode_into-size-requires-clause-room
encode_into-size-requires-clause-room c =
    let block = c.in_ok-block.block in
    (in_range c.stored_words_tell_the_row.ensures.short block.kind block c.args.run_before (c.if-not-is_block.ensures.0 refl).rules).size

pub slice_bounds-spelled-end : goal.slice_bounds-spelled-end
slice_bounds-spelled-end c =
    let block = c.in_ok-block.block in
    let range = in_range c.stored_words_tell_the_row.ensures.short block.kind block c.args.run_before (c.if-not-is_block.ensures.0 refl).rules in
    let few = range.size in
    omega (arith, few)

pub slice_bounds-starts_with-end : goal.slice_bounds-starts_with-end
slice_bounds-starts_with-end c =
    let block = c.in_ok-block.block in
    let range = in_range c.stored_words_tell_the_row.ensures.short block.kind block c.args.run_before (c.if-not-is_block.ensures.0 refl).rules in
    let few = range.size in
    sym (length-take-le c.encode_into-size.result c.encode_into-size.new.out (omega (arith, few)))

pub returns-clause-found : goal.returns-clause-found
returns-clause-found c =
    let block = c.in_ok-block.block in
    let kept = c.if-not-is_block.ensures in
    let front : take c.encode_into-size.result c.encode_into-size.new.out ≡ spelling block = ap (λ (n : ℕ). take n c.encode_into-size.new.out) c.encode_into-size.ensures.size ∙ c.encode_into-size.ensures.spelled in
    IfSome-then_some c.starts_with.result block c.then_some.result _ c.then_some.ensures (λ yes. record { is = kept.0 refl; spelled = Spells-from_starts_with c.args.words.now _ block c.starts_with.result c.starts_with.ensures.value front yes })

pub returns-clause-given : goal.returns-clause-given
returns-clause-given c = λ other stands.
    let block = c.in_ok-block.block in
    let front : take c.encode_into-size.result c.encode_into-size.new.out ≡ spelling block = ap (λ (n : ℕ). take n c.encode_into-size.new.out) c.encode_into-size.ensures.size ∙ c.encode_into-size.ensures.spelled in
    let same : block ≡ other = Some≡Some c.candidate.result block other c.in_ok-block.was (c.candidate.ensures other c.args.at c.args.run_before stands) in
    let spells_it : Spells c.args.words.now block = subst (λ (b : Block). Spells c.args.words.now b) (sym same) stands.spelled in
    let begins = starts_with-from_Spells c.args.words.now _ block c.starts_with.result c.starts_with.ensures.value front spells_it in
    Some-then_some c.starts_with.result block c.then_some.result c.then_some.ensures begins ∙ ap (λ (b : Block). Some b) same
