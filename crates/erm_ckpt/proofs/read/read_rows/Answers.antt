use Rattle.std.proofs.Common.{◌≡◌, ℕ, List, Some, length, ap, sym, subst, arith}
use Rattle.std.proofs.lemmas.List.{take_rest}
use Rattle.erm_block.specs.Block.{Entry}
use Rattle.erm_block.specs.Spelling.{entry_words}
use Rattle.erm_block.proofs.Reading.{Some≡Some, None≢Some}
use Rattle.erm_ckpt.specs.Reading.{BeginsWithEntry, BeginsWithRows}
use Rattle.erm_ckpt.proofs.ReadRows.{all_read, next, next_above, next_begins, none_read, one_more}
use Rattle.erm_ckpt.proofs.read.read_rows.Goals as goal

pub loop-row-init : goal.loop-row-init
loop-row-init c = none_read c.args.form c.args.words.now c.clear_rows.new.rows c.clear_rows.ensures

pub returns-in_err-oid-clause-given : goal.returns-in_err-oid-clause-given
returns-in_err-oid-clause-given c = λ size begins.
    let form = c.args.form in
    let words = c.args.words.now in
    let loop = c.loop-row in
    let behind = next_begins form words loop.rows loop._row loop.at loop.least loop.invariant c.args.count size begins (omega arith) (omega arith) in
    let entry = next form words loop.rows loop._row loop.at loop.least loop.invariant c.args.count size begins (omega arith) (omega arith) in
    let there = subst (λ (ws : List ℕ). BeginsWithEntry form ws entry (length (entry_words form entry))) (sym (take_rest words loop.at)) behind in
    None≢Some c.read_entry.result (entry, length (entry_words form entry)) c.in_err-oid.was (c.read_entry.ensures.given entry (length (entry_words form entry)) there)

pub returns-then-oid-least-clause-given : goal.returns-then-oid-least-clause-given
returns-then-oid-least-clause-given c = λ size begins.
    let form = c.args.form in
    let words = c.args.words.now in
    let loop = c.loop-row in
    let behind = next_begins form words loop.rows loop._row loop.at loop.least loop.invariant c.args.count size begins (omega arith) (omega arith) in
    let entry = next form words loop.rows loop._row loop.at loop.least loop.invariant c.args.count size begins (omega arith) (omega arith) in
    let there = subst (λ (ws : List ℕ). BeginsWithEntry form ws entry (length (entry_words form entry))) (sym (take_rest words loop.at)) behind in
    let read = c.read_entry.ensures.given entry (length (entry_words form entry)) there in
    let same = Some≡Some c.read_entry.result ((c.in_ok-oid.oid, c.in_ok-oid.row), c.in_ok-oid.size) (entry, length (entry_words form entry)) c.in_ok-oid.was read in
    let oid : c.in_ok-oid.oid ≡ entry.0 = ap (λ p. p.0.0) same in
    let above = next_above form words loop.rows loop._row loop.at loop.least loop.invariant c.args.count size begins (omega arith) (omega arith) in
    absurd (omega (arith, c.if-oid-least.true, oid, above))

pub loop-row-preserved : goal.loop-row-preserved
loop-row-preserved c =
    let form = c.args.form in
    let words = c.args.words.now in
    let loop = c.loop-row in
    let entry : Entry = (c.in_ok-oid.oid, c.in_ok-oid.row) in
    let behind = subst (λ (ws : List ℕ). BeginsWithEntry form ws entry c.in_ok-oid.size) (take_rest words loop.at) c.in_ok-oid.ensures.found in
    one_more form words loop.rows loop._row loop.at loop.least loop.invariant entry c.in_ok-oid.size (omega (arith, loop.auto.rows)) behind c.if-oid-least.false

pub returns-clause-found : goal.returns-clause-found
returns-clause-found c =
    let loop = c.loop-row in
    let all : loop._row ≡ c.args.count = omega arith in
    subst (λ (n : ℕ). BeginsWithRows c.args.form c.args.words.now loop.rows n loop.at) all (record { has = loop.invariant.read; rows_are = loop.invariant.rows_are })

pub returns-clause-given : goal.returns-clause-given
returns-clause-given c = λ size begins.
    let loop = c.loop-row in
    ap (λ (n : ℕ). Some n) (all_read c.args.form c.args.words.now loop.rows loop._row loop.at loop.least loop.invariant c.args.count size begins (omega arith) (omega arith))
