use Rattle.std.proofs.Common.{◌≡◌, ℕ, ◌+◌, [], ◌∷◌, Err, sym, ap, ◌∙◌, subst, inr, arith}
use Rattle.std.proofs.lemmas.Result.{err_from_is_err_and}
use Rattle.erm_checkpoint.specs.declared.stops.CheckpointStop.{CheckpointStop}
use Rattle.erm_checkpoint.specs.Taken.{Counts, HoldsLog}
use Rattle.erm_log_run.proofs.Held.{told_after}
use Rattle.erm_node.specs.Sound.{sound_law}
use Rattle.erm_outside.specs.Faults.{Rose}
use Rattle.erm_report.specs.declared.line.Line.TheVariants as line
use Rattle.erm_table_world.specs.Stands.{table_log, world_view}
use Rattle.erm_disk_run.specs.Limits.{AreLimits, in_table}
use Rattle.erm_disk_run.specs.Opened.{OpensLog}
use Rattle.erm_disk_run.proofs.Opened.{once_told, stops_for}
use Rattle.erm_disk_run.proofs.SavedAt.{commits_told, goes_on, older_kept, only_faults, saved_told, tail_is, turned_world}
use Rattle.erm_disk_run.proofs.checkpoint.open_and_save.Goals as goal

-- the table has cells enough
table_limits : AreLimits in_table
table_limits = record { least = omega arith; most = omega arith }

pub checkpoint_turn-requires-clause-holds : goal.checkpoint_turn-requires-clause-holds
checkpoint_turn-requires-clause-holds g c = λ well.
    let o = c.in_ok-world.field-0 in
    let was = c.in_ok-world.ensures.opened.1 in
    told_after (HoldsLog sound_law.meets (table_log o.world) o.slots) (OpensLog c.in_ok-world.ensures.opened.0 (table_log o.world) o.slots) (g.D.Disk.told c.args.disk.now) (g.D.Disk.told c.open_disk.new.disk)
    (λ old new opens. opens.holds) was.disk

pub returns-in_err-world-clause-ended : goal.returns-in_err-world-clause-ended
returns-in_err-world-clause-ended g c =
    let p = err_from_is_err_and c.from_residual-in_err-world.result c.from_residual-in_err-world.ensures.1 in
    rw (p.1, p.2) (stops_for c.in_err-world.field-0.0 (g.D.Disk.told c.args.disk.now) (g.D.Disk.told c.open_disk.new.disk) c.in_err-world.ensures.stops)

pub returns-in-Ok-clause-ended : goal.returns-in-Ok-clause-ended
returns-in-Ok-clause-ended g c =
    let o = c.in_ok-world.field-0 in
    let new = c.checkpoint_turn.new.world in
    let state = c.in_ok-world.ensures.opened.0 in
    let was = c.in_ok-world.ensures.opened.1 in
    let before = g.D.Disk.told c.args.disk.now in
    let mid = g.D.Disk.told c.open_disk.new.disk in
    let after = g.D.Disk.told c.checkpoint_turn.new.disk in
    let did = c.in-Ok.ensures.checkpoints in
    let v = world_view o.world in
    let t = world_view new in
    let l = table_log o.world in
    let m = table_log new in
    let stands = c.checkpoint_turn.ensures.stands in
    let turned = turned_world in_table table_limits state v t l m was.world c.in_ok-world.ensures.stands.log_of_view stands.log_of_view stands.log c.checkpoint_turn.ensures.keeps.sessions did.2 in
    let keeps = commits_told state v t l m turned before mid after o.slots was.disk c.checkpoints_keep.ensures c.kept_images_may_open.ensures was.found.low o.start.run (c.in-Ok.ensures.any_moment was.well) in
    let place : c.in-Ok.place ≡ state.at + 5 = sym did.3 ∙ tail_is state v t l m turned in (
      state,
      was.found,
      record {
        low = was.world.low;
        run_low = was.world.run_low;
        lines_ok =
            c.checkpoint_lines.ensures
            ∙ ap (λ (at : ℕ). line.Open at o.start.run ∷ line.Checkpointed c.in-Ok.place ∷ line.End ∷ []) was.stamp
            ∙ ap (λ (run : ℕ). line.Open state.at run ∷ line.Checkpointed c.in-Ok.place ∷ line.End ∷ []) was.run
            ∙ ap (λ (at : ℕ). line.Open state.at (state.run + 1) ∷ line.Checkpointed at ∷ line.End ∷ []) place;
        keeps = keeps;
        saved = saved_told state v t l m turned before mid after o.slots was.disk c.same_rows_same_map.ensures was.found.are_sound c.checkpoint_turn.new.slots o.start.run c.in-Ok.place
            c.in-Ok.ensures.put did.3 c.in-Ok.ensures.saved c.in-Ok.ensures.lasts;
      },
    )

pub returns-in-Err-clause-ended : goal.returns-in-Err-clause-ended
returns-in-Err-clause-ended g c =
    let o = c.in_ok-world.field-0 in
    let new = c.checkpoint_turn.new.world in
    let state = c.in_ok-world.ensures.opened.0 in
    let was = c.in_ok-world.ensures.opened.1 in
    let v = world_view o.world in
    let t = world_view new in
    let l = table_log o.world in
    let m = table_log new in
    let goes = goes_on l m c.in-Err.field-0 o.flusher c.checkpoint_turn.new.flusher was.well c.in-Err.ensures.checkpoints in
    let stands = c.checkpoint_turn.ensures.stands in
    let turned = turned_world in_table table_limits state v t l m was.world c.in_ok-world.ensures.stands.log_of_view stands.log_of_view stands.log c.checkpoint_turn.ensures.keeps.sessions goes in
    inr (
      state,
      was.found,
      once_told state (g.D.Disk.told c.args.disk.now) (g.D.Disk.told c.checkpoint_turn.new.disk)
          (commits_told state v t l m turned (g.D.Disk.told c.args.disk.now) (g.D.Disk.told c.open_disk.new.disk) (g.D.Disk.told c.checkpoint_turn.new.disk) o.slots was.disk c.checkpoints_keep.ensures
          c.kept_images_may_open.ensures was.found.low o.start.run (c.in-Err.ensures.any_moment was.well)),
      older_kept state v t l m turned (g.D.Disk.told c.args.disk.now) (g.D.Disk.told c.open_disk.new.disk) (g.D.Disk.told c.checkpoint_turn.new.disk) o.slots was.disk o.start.run (c.in-Err.ensures.any_moment was.well),
    )

pub returns-in-Err-clause-counts : goal.returns-in-Err-clause-counts
returns-in-Err-clause-counts g c =
    let o = c.in_ok-world.field-0 in
    let new = c.checkpoint_turn.new.world in
    let state = c.in_ok-world.ensures.opened.0 in
    let was = c.in_ok-world.ensures.opened.1 in
    let v = world_view o.world in
    let t = world_view new in
    let l = table_log o.world in
    let m = table_log new in
    let goes = goes_on l m c.in-Err.field-0 o.flusher c.checkpoint_turn.new.flusher was.well c.in-Err.ensures.checkpoints in
    let stands = c.checkpoint_turn.ensures.stands in
    let turned = turned_world in_table table_limits state v t l m was.world c.in_ok-world.ensures.stands.log_of_view stands.log_of_view stands.log c.checkpoint_turn.ensures.keeps.sessions goes in
    let fault = only_faults state v t l m turned c.in-Err.field-0 o.flusher c.checkpoint_turn.new.flusher was.well c.in-Err.ensures.checkpoints in
    subst (λ (n : ℕ). Rose n (g.D.Disk.faults c.checkpoint_turn.new.disk)) c.in_ok-world.ensures.sound
    (subst (λ (cause : CheckpointStop). Counts {T = ℕ} (Err cause) (g.D.Disk.faults c.open_disk.new.disk) (g.D.Disk.faults c.checkpoint_turn.new.disk)) fault c.in-Err.ensures.counts)
