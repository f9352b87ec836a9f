use Rattle.std.proofs.Common.{ℕ, List, Option, ◌∙◌, refl, sym, subst, arith}
use Rattle.std.specs.Prelude.{IfSome}
use Rattle.erm_follow.specs.Follow.{Followed}
use Rattle.erm_outside.specs.Faults.{Rose}
use Rattle.erm_outside.specs.Source.{Takes}
use Rattle.erm_replica.specs.Stream.{Streamed, start}
use Rattle.erm_follow_run.specs.Ends.{Runs}
use Rattle.erm_follow_run.proofs.Ending.{ends_piece, ends_read_fault, ends_too_long, ends_whole, runs_first, runs_more}
use Rattle.erm_follow_run.proofs.following.follow.Goals as goal

pub chunks-init : goal.chunks-init
chunks-init g c =
    let left : Option (List ℕ) = g.S.Source.left c.args.source.now in
    let written : Option (List ℕ) = g.K.Sink.written c.args.sink.now in
    record {
      runs = subst (λ (s : Streamed). Runs left left written written 0 0 s c.new-follow.result) (sym c.new-stream.ensures)
          (subst (λ (f : Followed). Runs left left written written 0 0 start f) (sym c.new-follow.ensures) (runs_first (c.takes_go_on.ensures.first 8) left written));
      source = refl;
      sink = refl;
      few = omega arith;
    }

pub returns-in-Ok : goal.returns-in-Ok
returns-in-Ok g c =
    ends_whole c.fronts_stay.ensures.part (λ log bytes part stands. (c.parts_are_announced.ensures log bytes part stands).1) _ c.finish.result (g.S.Source.left c.chunks.source) (g.K.Sink.written c.chunks.sink) c.take_chunk.new.chunk
    c.chunks.taken c.chunks.rest c.pending.result (g.K.Sink.faults c.chunks.sink) c.chunks.stream c.chunks.follow c.chunks.invariant.runs (omega arith)
    (subst (λ (n : ℕ). IfSome (g.S.Source.left c.chunks.source) (λ left. Takes left n c.take_chunk.new.chunk (g.S.Source.left c.take_chunk.new.source))) c.if-count-eq0.true c.in-Ok.ensures.takes)
    c.pending.ensures (c.in-Ok.ensures.sound ∙ c.chunks.invariant.source) c.chunks.invariant.sink c.finish.ensures

pub chunks-preserved : goal.chunks-preserved
chunks-preserved g c =
    let hears = c.in-Ok-hear_piece.ensures.hears in
    record {
      runs =
          runs_more c.fronts_stay.ensures.part (λ log bytes part stands. (c.parts_are_announced.ensures log bytes part stands).1) (g.S.Source.left c.args.source.now) (g.S.Source.left c.chunks.source) (g.S.Source.left c.take_chunk.new.source)
          (g.K.Sink.written c.args.sink.now) (g.K.Sink.written c.chunks.sink) (g.K.Sink.written c.hear_piece.new.sink) c.chunks.taken c.chunks.rest c.in-Ok-hear_piece.left c.in-Ok.count
          (g.K.Sink.faults c.chunks.sink) (g.K.Sink.faults c.hear_piece.new.sink) c.take_chunk.new.chunk c.chunks.stream c.hear_piece.new.stream c.chunks.follow c.hear_piece.new.follow c.chunks.invariant.runs c.in-Ok.ensures.within
          c.in-Ok.ensures.takes hears;
      source = c.in-Ok.ensures.sound ∙ c.chunks.invariant.source;
      sink = hears.sound ∙ c.chunks.invariant.sink;
      few = c.in-Ok.ensures.room;
    }

pub returns-in-Err-hear_piece : goal.returns-in-Err-hear_piece
returns-in-Err-hear_piece g c =
    ends_piece c.fronts_stay.ensures.part (λ log bytes part stands. (c.parts_are_announced.ensures log bytes part stands).1) _ c.in-Err-hear_piece.status (g.S.Source.left c.chunks.source) (g.K.Sink.written c.chunks.sink) c.take_chunk.new.chunk
    c.chunks.taken c.chunks.rest c.in-Ok.count (g.K.Sink.faults c.chunks.sink) c.chunks.stream c.chunks.follow c.chunks.invariant.runs c.in-Ok.ensures.within c.in-Ok.ensures.most c.in-Ok.ensures.room c.in-Ok.ensures.takes (c.in-Ok.ensures.sound ∙ c.chunks.invariant.source) c.chunks.invariant.sink
    c.in-Err-hear_piece.ensures.ends

pub returns-in-Err : goal.returns-in-Err
returns-in-Err g c =
    ends_read_fault c.fronts_stay.ensures.part (λ log bytes part stands. (c.parts_are_announced.ensures log bytes part stands).1) _ (g.S.Source.left c.chunks.source) (g.K.Sink.written c.chunks.sink)
    c.chunks.taken c.chunks.rest (g.K.Sink.faults c.chunks.sink) c.chunks.stream c.chunks.follow c.chunks.invariant.runs c.chunks.invariant.few c.in-Err.ensures.kept
    (subst (λ (n : ℕ). Rose n (g.S.Source.faults c.take_chunk.new.source)) c.chunks.invariant.source c.in-Err.ensures.failed) c.chunks.invariant.sink c.print.ensures

pub returns : goal.returns
returns g c =
    ends_too_long c.fronts_stay.ensures.part (λ log bytes part stands. (c.parts_are_announced.ensures log bytes part stands).1) _ (g.K.Sink.written c.chunks.sink)
    c.chunks.taken c.chunks.rest (g.K.Sink.faults c.chunks.sink) c.chunks.stream c.chunks.follow c.chunks.invariant.runs (omega arith) c.chunks.invariant.few
    c.chunks.invariant.source c.chunks.invariant.sink c.print-2.ensures
