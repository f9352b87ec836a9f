use Rattle.std.proofs.Common.{◌==◌, ◌+◌, rules, tests}
use Rattle.std.proofs.lemmas.List.{take_rest}
use Rattle.std.proofs.lemmas.Iterator.{YieldsList-from_slice}
use Rattle.std.proofs.lemmas.Iterator.Search.{position_from_yields_List}
use Rattle.erm_script.proofs.Words.{slice_split-no_position, slice_split-position}
use Rattle.erm_script.proofs.parser.word.cut.Goals as goal

pub returns-in_err-space-clause-whole : goal.returns-in_err-space-clause-whole
returns-in_err-space-clause-whole c =
    let e = position_from_yields_List (λ b. b == 32) _ _ c.position.result c.position.ensures.ran (YieldsList-from_slice c.args.bytes.now cc) (λ x b q k. search (rules, tests)) in
    rw c.from_residual.ensures (slice_split-no_position (λ b. b == 32) c.args.bytes.now (cc))

pub returns-clause-cut : goal.returns-clause-cut
returns-clause-cut c =
    let e = position_from_yields_List (λ b. b == 32) _ _ c.position.result c.position.ensures.ran (YieldsList-from_slice c.args.bytes.now cc) (λ x b q k. search (rules, tests)) in
    rw (take_rest c.args.bytes.now (c.in_ok-space.space + 1)) (slice_split-position (λ b. b == 32) c.args.bytes.now c.in_ok-space.space (cc))
