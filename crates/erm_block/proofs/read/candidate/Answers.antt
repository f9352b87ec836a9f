use Rattle.std.proofs.Common.{◌≡◌, ◌∙◌, ◌∷◌, ◌++◌, Some, sym, ap, subst, arith}
use Rattle.erm_block.specs.declared.block.Kind.{Kind}
use Rattle.erm_block.specs.Block.{KeepsRulesOf}
use Rattle.erm_bytes.specs.Digest.{digest_of}
use Rattle.erm_block.specs.Spelling.{payload_of, body_of}
use Rattle.erm_block.proofs.Reading.{front_of, in_range, None≢Some, Some≡Some, same_block}
use Rattle.erm_block.proofs.read.candidate.Goals as goal

pub returns-in_err-kind : goal.returns-in_err-kind
returns-in_err-kind c = λ block at run_before stands.
    let small = (in_range c.stored_words_tell_the_row.ensures.short block.kind block run_before stands.is.rules).size in
    let header = c.header_parts.ensures block.kind block.size block.run (omega arith) (front_of c.args.words.now block stands.spelled).header in
    None≢Some c.header_parts.result _ c.in_err-kind.was header

pub returns-in_err-rows : goal.returns-in_err-rows
returns-in_err-rows c = λ block at run_before stands.
    let front = front_of c.args.words.now block stands.spelled in
    let range = in_range c.stored_words_tell_the_row.ensures.short block.kind block run_before stands.is.rules in
    let header = c.header_parts.ensures block.kind block.size block.run (omega (arith, range.size)) front.header in
    let name = c.name_parts-seat.ensures block.seat block.n block.number range.seat range.n range.number front.name in
    let parts = Some≡Some c.header_parts.result (c.in_ok-kind.kind, c.in_ok-kind.size, c.in_ok-kind.run') (block.kind, block.size, block.run) c.in_ok-kind.was header in
    let kind : c.in_ok-kind.kind ≡ block.kind = ap (λ p. p.0) parts in
    let rules = subst (λ (k : Kind). KeepsRulesOf k block run_before) (sym kind) stands.is.rules in
    let paid = front.payload ∙ ap (λ (k : Kind). payload_of k block ++ (digest_of (body_of block) ∷ stands.spelled.0)) (sym kind) in
    None≢Some c.read_payload.result block.rows c.in_err-rows.was (c.read_payload.ensures block run_before _ rules (ap (λ r. r.1) name) paid)

pub returns : goal.returns
returns c = λ block at run_before stands.
    let front = front_of c.args.words.now block stands.spelled in
    let range = in_range c.stored_words_tell_the_row.ensures.short block.kind block run_before stands.is.rules in
    let header = c.header_parts.ensures block.kind block.size block.run (omega (arith, range.size)) front.header in
    let name = c.name_parts-seat.ensures block.seat block.n block.number range.seat range.n range.number front.name in
    let parts = Some≡Some c.header_parts.result (c.in_ok-kind.kind, c.in_ok-kind.size, c.in_ok-kind.run') (block.kind, block.size, block.run) c.in_ok-kind.was header in
    let kind : c.in_ok-kind.kind ≡ block.kind = ap (λ p. p.0) parts in
    let rules = subst (λ (k : Kind). KeepsRulesOf k block run_before) (sym kind) stands.is.rules in
    let paid = front.payload ∙ ap (λ (k : Kind). payload_of k block ++ (digest_of (body_of block) ∷ stands.spelled.0)) (sym kind) in
    let read = c.read_payload.ensures block run_before _ rules (ap (λ r. r.1) name) paid in
    let rows = Some≡Some c.read_payload.result c.in_ok-rows.rows block.rows c.in_ok-rows.was read in
    ap (λ b. Some b) (same_block c.in_ok-kind.kind c.in_ok-kind.run' _ _ _ _ _ c.in_ok-kind.size c.in_ok-rows.rows block kind (ap (λ p. p.2) parts) front.stamp front.succ (ap (λ r. r.0) name) (ap (λ r. r.2) name) (ap (λ r. r.1) name) (ap (λ p. p.1) parts) rows)
