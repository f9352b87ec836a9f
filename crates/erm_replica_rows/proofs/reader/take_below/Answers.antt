use Rattle.std.proofs.Common.{◌∙◌}
use Rattle.erm_replica_rows.proofs.Moving.{moves_more, never_stuck}
use Rattle.erm_replica_rows.proofs.reader.take_below.Goals as goal

pub loop-reader-preserved : goal.loop-reader-preserved
loop-reader-preserved c = record {
  moves =
      moves_more c.fronts_are_one.ensures.part c.args.stamp c.args.bytes.now c.args.reader.now c.loop-reader.reader c.advance.new.reader _ c.loop-reader.invariant.moves
      (c.is_before.ensures.before c.loop-reader-test.true) c.in-Ok.ensures.takes;
  ready = c.in-Ok.ensures.ready;
  words = c.advance.auto.words ∙ c.loop-reader.invariant.words;
}

pub returns-in-Err-clause-moves : goal.returns-in-Err-clause-moves
returns-in-Err-clause-moves c = λ parts end reads from.
    absurd (never_stuck c.fronts_are_one.ensures.short c.fronts_are_one.ensures.unreadable c.args.stamp c.args.bytes.now c.args.reader.now c.loop-reader.reader c.advance.new.reader c.advance.result c.in-Err._lack
    c.loop-reader.invariant.moves (c.is_before.ensures.before c.loop-reader-test.true) c.in-Err.is c.in-Err.ensures.stays c.advance.ensures.short c.advance.ensures.stuck parts end reads from)
