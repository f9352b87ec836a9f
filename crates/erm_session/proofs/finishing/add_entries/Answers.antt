use Rattle.std.proofs.Common.{◌∙◌, ap, arith, List, length, get_or, ◌++◌, ◌∷◌, []}
use Rattle.erm_block.specs.Block.{Entry}
use Rattle.erm_precommit.specs.Pre.{no_claim_kept}
use Rattle.erm_session.proofs.Storing.{entries_count, entries_more}
use Rattle.erm_session.proofs.finishing.add_entries.Goals as goal

pub push-requires : goal.push-requires
push-requires c =
    let few = c.requires.few in
    let each = c.requires.each in
    let less = c.loop-k-test.true in
    let count = ap (λ (es : List Entry). length es) c.loop-k.invariant ∙ entries_count c.args.claims.now c.args.rows.now c.loop-k.k (omega (arith, less)) each in
    (omega arith, omega (arith, few, less, count))

pub loop-k-preserved : goal.loop-k-preserved
loop-k-preserved c =
    let claims = c.args.claims.now in
    let rows = c.args.rows.now in
    let k = c.loop-k.k in
    let less = c.loop-k-test.true in
    c.push.ensures.items ∙ ap (λ (es : List Entry). es ++ ((get_or claims k no_claim_kept).oid, get_or rows k []) ∷ []) c.loop-k.invariant
    ∙ entries_more claims rows k (omega (arith, less)) c.requires.each
