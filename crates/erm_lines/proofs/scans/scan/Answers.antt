use Rattle.std.proofs.Common.{◌∙◌, ◌+◌, sym, subst, arith, ℕ, List}
use Rattle.erm_model.specs.RowTransaction.{StopsRead}
use Rattle.erm_lines.proofs.Scanning.{Looks, Scanned, Scans, scan_beyond, scan_last, scan_more, scan_ready, scan_start, scan_stopped, scan_whole}
use Rattle.erm_lines.proofs.scans.scan.Goals as goal

pub loop-pair-init : goal.loop-pair-init
loop-pair-init g c =
    subst (λ (found : List (ℕ × List ℕ)). Scans g.T.RowRead.face c.args.txn.now c.args.txn.now c.args.table c.args.low c.args.high c.args.low found) (sym c.new-found.ensures.items)
    (scan_start g.T.RowRead.face g.met.T.RowRead.goes_on c.args.table c.args.low c.args.high c.ranges.low.fits c.ranges.high.fits c.args.txn.now c.requires.ready (g.met.T.RowRead.stands c.args.txn.now))

pub next-requires-clause-ready : goal.next-requires-clause-ready
next-requires-clause-ready g c =
    scan_ready g.T.RowRead.face g.met.T.RowRead.goes_on c.args.table c.args.low c.args.high c.ranges.low.fits c.ranges.high.fits c.args.txn.now c.loop-pair.txn c.loop-pair.from c.loop-pair.found.items c.requires.ready.lawful c.loop-pair.invariant

pub returns-in-Ok-None-clause-ok : goal.returns-in-Ok-None-clause-ok
returns-in-Ok-None-clause-ok g c =
    subst (Scanned g.T.RowRead.face c.args.table c.args.low c.args.high c.args.txn.now c.next.new.txn) (sym c.new.ensures)
    (scan_last g.T.RowRead.face g.met.T.RowRead.goes_on c.args.table c.args.low c.args.high c.ranges.low.fits c.ranges.high.fits c.args.txn.now c.loop-pair.txn c.next.new.txn c.loop-pair.from c.loop-pair.found.items c.loop-pair.invariant
    (subst (Looks g.T.RowRead.face c.args.table c.loop-pair.from c.loop-pair.txn c.next.new.txn) c.in-Ok-None.field-0-is c.in-Ok-None.ensures.ok))

pub returns-in-Err-clause-err : goal.returns-in-Err-clause-err
returns-in-Err-clause-err g c =
    scan_stopped g.T.RowRead.face g.met.T.RowRead.goes_on c.args.table c.args.low c.args.high c.ranges.low.fits c.ranges.high.fits c.args.txn.now c.loop-pair.txn c.next.new.txn c.loop-pair.from c.loop-pair.found.items c.loop-pair.invariant StopsRead c.in-Err.stop c.in-Err.ensures.err

pub returns-then-key-high-clause-ok : goal.returns-then-key-high-clause-ok
returns-then-key-high-clause-ok g c =
    subst (Scanned g.T.RowRead.face c.args.table c.args.low c.args.high c.args.txn.now c.next.new.txn) (sym c.new-then-key-high.ensures)
    (scan_beyond g.T.RowRead.face g.met.T.RowRead.goes_on c.args.table c.args.low c.args.high c.ranges.low.fits c.ranges.high.fits c.args.txn.now c.loop-pair.txn c.next.new.txn c.loop-pair.from c.loop-pair.found.items c.loop-pair.invariant c.in-Ok-Some.pair c.if-key-high.true
    (subst (Looks g.T.RowRead.face c.args.table c.loop-pair.from c.loop-pair.txn c.next.new.txn) c.in-Ok-Some.field-0-is c.in-Ok-Some.ensures.ok))

pub returns-then-key-clause-ok : goal.returns-then-key-clause-ok
returns-then-key-clause-ok g c =
    let more = scan_more g.T.RowRead.face g.met.T.RowRead.goes_on c.args.table c.args.low c.args.high c.ranges.low.fits c.ranges.high.fits c.args.txn.now c.loop-pair.txn c.next.new.txn c.loop-pair.from c.loop-pair.found.items c.loop-pair.invariant c.in-Ok-Some.pair c.requires.ready.lawful
    (subst (Looks g.T.RowRead.face c.args.table c.loop-pair.from c.loop-pair.txn c.next.new.txn) c.in-Ok-Some.field-0-is c.in-Ok-Some.ensures.ok) c.if-key-high.false in
    let under = c.if-key-high.false in
    let greatest = c.if-key.true in
    let few = c.ranges.high.fits in
    subst (Scanned g.T.RowRead.face c.args.table c.args.low c.args.high c.args.txn.now c.next.new.txn) (sym (c.new-then-key.ensures ∙ c.in_ok-push.ensures.items))
    (scan_whole g.T.RowRead.face g.met.T.RowRead.goes_on c.args.table c.args.low c.args.high c.ranges.low.fits c.ranges.high.fits c.args.txn.now c.next.new.txn (c.in-Ok-Some.pair.0 + 1) _ (omega arith) more.0)

pub loop-pair-smaller : goal.loop-pair-smaller
loop-pair-smaller g c =
    let more = scan_more g.T.RowRead.face g.met.T.RowRead.goes_on c.args.table c.args.low c.args.high c.ranges.low.fits c.ranges.high.fits c.args.txn.now c.loop-pair.txn c.next.new.txn c.loop-pair.from c.loop-pair.found.items c.loop-pair.invariant c.in-Ok-Some.pair c.requires.ready.lawful
    (subst (Looks g.T.RowRead.face c.args.table c.loop-pair.from c.loop-pair.txn c.next.new.txn) c.in-Ok-Some.field-0-is c.in-Ok-Some.ensures.ok) c.if-key-high.false in
    let up = more.1 in
    let under = c.if-key-high.false in
    let few = c.ranges.high.fits in
    omega arith

pub loop-pair-preserved : goal.loop-pair-preserved
loop-pair-preserved g c =
    let more = scan_more g.T.RowRead.face g.met.T.RowRead.goes_on c.args.table c.args.low c.args.high c.ranges.low.fits c.ranges.high.fits c.args.txn.now c.loop-pair.txn c.next.new.txn c.loop-pair.from c.loop-pair.found.items c.loop-pair.invariant c.in-Ok-Some.pair c.requires.ready.lawful
    (subst (Looks g.T.RowRead.face c.args.table c.loop-pair.from c.loop-pair.txn c.next.new.txn) c.in-Ok-Some.field-0-is c.in-Ok-Some.ensures.ok) c.if-key-high.false in
    subst (λ (found : List (ℕ × List ℕ)). Scans g.T.RowRead.face c.args.txn.now c.next.new.txn c.args.table c.args.low c.args.high (c.in-Ok-Some.pair.0 + 1) found) (sym c.in_ok-push.ensures.items) more.0
