use Rattle.std.proofs.Common.{◌∙◌, rules}
use Rattle.erm_top.proofs.Streams.{fronts_more, fronts_end}
use Rattle.erm_top.proofs.reading.read_all.Goals as goal

pub returns-then-count-eq0-clause-all : goal.returns-then-count-eq0-clause-all
returns-then-count-eq0-clause-all g c =
    fronts_end (g.S.Source.left c.args.source.now) c.loop-chunk.bytes.items c.in_ok-count.count c.take.new.buf (g.S.Source.left c.loop-chunk.source) (g.S.Source.left c.take.new.self)
    c.loop-chunk.invariant.front c.in_ok-count.ensures.taken c.if-count-eq0.true

pub loop-chunk-preserved : goal.loop-chunk-preserved
loop-chunk-preserved g c = record {
  short = search rules;
  front =
      fronts_more (g.S.Source.left c.args.source.now) c.loop-chunk.bytes.items c.extend_from_slice.new.self.items c.in_ok-count.count c.take.new.buf
      (g.S.Source.left c.loop-chunk.source) (g.S.Source.left c.take.new.self) c.loop-chunk.invariant.front c.in_ok-count.ensures.taken c.in_ok-extend_from_slice.ensures.items;
  sound = c.in_ok-count.ensures.sound ∙ c.loop-chunk.invariant.sound;
}
