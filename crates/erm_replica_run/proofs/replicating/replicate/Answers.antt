use Rattle.std.proofs.Common.{ℕ, ◌∙◌, arith, refl, subst, take}
use Rattle.std.specs.Prelude.{IfSome}
use Rattle.erm_outside.specs.Faults.{Rose}
use Rattle.erm_outside.specs.Source.{Takes}
use Rattle.erm_follow_run.specs.Ends.{EndsWith}
use Rattle.erm_follow_run.specs.Texts.{bad_text}
use Rattle.erm_replica_rows.specs.declared.feed_stop.FeedStop.{FeedStop}
use Rattle.erm_replica_rows.specs.Keeping.{StopsFor}
use Rattle.erm_replica_run.proofs.Ending.{ends_bad, ends_read_fault, ends_starved, ends_starved_first, ends_too_long, ends_whole, runs_more}
use Rattle.erm_replica_run.proofs.replicating.replicate.Goals as goal

pub returns-in-Ok-take_chunk : goal.returns-in-Ok-take_chunk
returns-in-Ok-take_chunk g c =
    ends_whole c.kept_replicas_answer.ensures.answers c.kept_replicas_answer.ensures.bad c.kept_replicas_answer.ensures.good _ c.finish.result (g.S.Source.left c.chunks.source) (g.K.Sink.written c.chunks.sink) c.take_chunk.new.chunk
    c.chunks.taken (g.K.Sink.faults c.chunks.sink) c.chunks.replica c.chunks.invariant.runs (omega arith)
    (subst (λ (n : ℕ). IfSome (g.S.Source.left c.chunks.source) (λ left. Takes left n c.take_chunk.new.chunk (g.S.Source.left c.take_chunk.new.source))) c.if-count-eq0.true c.in-Ok-take_chunk.ensures.takes)
    (c.in-Ok-take_chunk.ensures.sound ∙ c.chunks.invariant.source) c.chunks.invariant.written c.chunks.invariant.sink c.finish.ensures

pub chunks-preserved : goal.chunks-preserved
chunks-preserved g c = record {
  runs =
      runs_more (g.S.Source.left c.args.source.now) (g.S.Source.left c.chunks.source) (g.S.Source.left c.take_chunk.new.source) c.chunks.taken c.in-Ok-take_chunk.count c.take_chunk.new.chunk c.chunks.replica c.feed.new.self
      c.chunks.invariant.runs c.in-Ok-take_chunk.ensures.within c.in-Ok-take_chunk.ensures.takes c.in-Ok-feed.ensures.takes c.in-Ok-feed.ensures.good;
  source = c.in-Ok-take_chunk.ensures.sound ∙ c.chunks.invariant.source;
  written = c.chunks.invariant.written;
  sink = c.chunks.invariant.sink;
  few = c.in-Ok-take_chunk.ensures.room;
}

pub returns-in-Err-Bad : goal.returns-in-Err-Bad
returns-in-Err-Bad g c =
    let stops = subst (λ (stop : FeedStop). StopsFor c.chunks.replica (take c.in-Ok-take_chunk.count c.take_chunk.new.chunk) stop c.feed.new.self) c.in-Err-Bad.field-0-is c.in-Err-Bad.ensures.stops in
    ends_bad c.kept_replicas_answer.ensures.answers c.kept_replicas_answer.ensures.bad c.kept_replicas_answer.ensures.good _ c.put_bad.result (g.S.Source.left c.chunks.source) (g.K.Sink.written c.chunks.sink) c.take_chunk.new.chunk
    c.chunks.taken c.in-Ok-take_chunk.count (g.K.Sink.faults c.chunks.sink) c.in-Err-Bad.place c.chunks.replica c.feed.new.self c.chunks.invariant.runs c.in-Ok-take_chunk.ensures.within c.in-Ok-take_chunk.ensures.most c.in-Ok-take_chunk.ensures.room
    c.in-Ok-take_chunk.ensures.takes (c.in-Ok-take_chunk.ensures.sound ∙ c.chunks.invariant.source) c.chunks.invariant.written c.chunks.invariant.sink stops.0 stops.1 stops.2
    (subst (λ (p : ℕ). EndsWith 11 (bad_text p) c.put_bad.result (g.K.Sink.written c.chunks.sink) (g.K.Sink.written c.put_bad.new.sink) (g.K.Sink.faults c.chunks.sink) (g.K.Sink.faults c.put_bad.new.sink)) c.in-Err-Bad.place-is
    c.put_bad.ensures)

pub returns-in-Err-Memory : goal.returns-in-Err-Memory
returns-in-Err-Memory g c =
    ends_starved c.kept_replicas_answer.ensures.answers c.kept_replicas_answer.ensures.bad c.kept_replicas_answer.ensures.good _ c.starve-in-Err-Memory.result (g.S.Source.left c.chunks.source) (g.K.Sink.written c.chunks.sink)
    c.take_chunk.new.chunk c.chunks.taken c.in-Ok-take_chunk.count (g.K.Sink.faults c.chunks.sink) c.chunks.replica c.chunks.invariant.runs c.in-Ok-take_chunk.ensures.within c.in-Ok-take_chunk.ensures.most c.in-Ok-take_chunk.ensures.room
    c.in-Ok-take_chunk.ensures.takes (c.in-Ok-take_chunk.ensures.sound ∙ c.chunks.invariant.source) c.chunks.invariant.written c.chunks.invariant.sink c.starve-in-Err-Memory.ensures.status c.starve-in-Err-Memory.ensures.printed

pub returns-in_default : goal.returns-in_default
returns-in_default g c =
    ends_starved_first c.kept_replicas_answer.ensures.answers c.kept_replicas_answer.ensures.bad c.kept_replicas_answer.ensures.good _ c.starve.result c.starve.ensures.status
    (record { left = refl; sound = refl; printed = c.starve.ensures.printed })

pub returns-in-Err : goal.returns-in-Err
returns-in-Err g c =
    ends_read_fault c.kept_replicas_answer.ensures.answers c.kept_replicas_answer.ensures.bad c.kept_replicas_answer.ensures.good _ (g.S.Source.left c.chunks.source) (g.K.Sink.written c.chunks.sink) c.chunks.taken
    (g.K.Sink.faults c.chunks.sink) c.chunks.replica c.chunks.invariant.runs c.chunks.invariant.few c.in-Err.ensures.kept
    (subst (λ (n : ℕ). Rose n (g.S.Source.faults c.take_chunk.new.source)) c.chunks.invariant.source c.in-Err.ensures.failed) c.chunks.invariant.written c.chunks.invariant.sink c.print.ensures

pub returns : goal.returns
returns g c =
    ends_too_long c.kept_replicas_answer.ensures.answers c.kept_replicas_answer.ensures.bad c.kept_replicas_answer.ensures.good _ (g.K.Sink.written c.chunks.sink) c.chunks.taken (g.K.Sink.faults c.chunks.sink) c.chunks.replica
    c.chunks.invariant.runs (omega arith) c.chunks.invariant.few c.chunks.invariant.source c.chunks.invariant.written c.chunks.invariant.sink c.print-2.ensures
