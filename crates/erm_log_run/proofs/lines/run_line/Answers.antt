use Rattle.std.proofs.Common.{◌≡◌, IfOk, None, inl, inr, refl, sym, subst}
use Rattle.std.proofs.lemmas.Result.{IfOk-weaker}
use Rattle.erm_script.specs.declared.script.Command.{Command}
use Rattle.erm_script.specs.declared.script.Command.TheVariants as command
use Rattle.erm_ckpt.specs.Slots.{removal_end}
use Rattle.erm_lines.specs.Executions.{DidLogLine}
use Rattle.erm_lines.proofs.Moved.{line_moved, log_flushes}
use Rattle.erm_told.proofs.Lines.{turn_line}
use Rattle.erm_log_run.specs.Keeping.{Keeper, keeper_of}
use Rattle.erm_log_run.specs.Lines.{Names}
use Rattle.erm_log_run.specs.Saving.{RemovesTo, end_by, end_of_command}
use Rattle.erm_log_run.proofs.Leaving.{SessionLaws, session_keeps, turn_leaves}
use Rattle.erm_log_run.proofs.Lined.{checkpoint_moved, flush_moved, log_line, names_session}
use Rattle.erm_log_run.proofs.Older.{session_older}
use Rattle.erm_log_run.proofs.Receipts.{receipts_stay}
use Rattle.erm_log_run.proofs.Saving.{session_removes, session_saved}
use Rattle.erm_world.proofs.Serial.{serializable_too}
use Rattle.erm_log_run.proofs.Starving.{starved_weaker}
use Rattle.erm_log_run.proofs.Stopped.{fails_of_log, ok_then}
use Rattle.erm_log_run.proofs.lines.run_line.Goals as goal

pub returns-in-Flush : goal.returns-in-Flush
returns-in-Flush g c =
    let v = g.W.RowWorld.view c.args.world.now in
    let t = g.W.RowWorld.view c.flush_line.new.world in
    let l = c.args.line.now in
    let rs = c.args.receipts.now in
    let is : l.command ≡ command.Flush = c.in-Flush.is in
    let none : l.session ≡ 0 = subst (λ (d : Command). Names v d l.session) is c.requires.line.session in
    let r = c.flush_line.result in
    let older_is = λ (d : Command) (same : l.command ≡ d).
    subst (λ (x : Command). RemovesTo r (end_by c.args.store.now.slots None) (end_of_command x (removal_end c.args.store.now.slots)) (g.W.LogWorld.log c.args.world.now).flushed (g.W.LogWorld.log c.flush_line.new.world).flushed
    (g.D.Disk.told c.args.store.now.disk) (g.D.Disk.told c.flush_line.new.store.disk)) (sym same)
    in
    let logged : IfOk r (λ a. DidLogLine v l a t) = IfOk-weaker r _ _ (λ a did. log_line v l a t command.Flush is none did) c.flush_line.ensures.answered in
    record {
      stands = c.flush_line.ensures.stands;
      moved = IfOk-weaker r _ _ (λ a did. flush_moved v l a t is did) logged;
      runs = ok_then r (λ a. DidLogLine v l a t) _ (λ a did. (c.lines_keep_runs.ensures.logs v t l a c.requires.runs did).0) logged;
      opening = ok_then r (λ a. DidLogLine v l a t) _ (λ a did. (c.lines_keep_runs.ensures.logs v t l a c.requires.runs did).1) logged;
      receipts = ok_then r (λ a. DidLogLine v l a t) _ (λ a did. let f = log_flushes v t l a did in receipts_stay v t rs f.opening f.session c.requires.receipts) logged;
      flushes = c.flush_line.ensures.flushes;
      of_log = fails_of_log r l (inl is);
      keeps = c.flush_line.ensures.keeps;
      saves = c.flush_line.ensures.saves;
      removes = c.flush_line.ensures.removes;
      older = older_is command.Flush is c.flush_line.ensures.older;
      counts = c.flush_line.ensures.counts;
      spared = starved_weaker r ⊥ (c.flush_line.new.store ≡ c.args.store.now) (λ no. absurd no) c.flush_line.ensures.fed;
    }

pub returns-in-Checkpoint : goal.returns-in-Checkpoint
returns-in-Checkpoint g c =
    let v = g.W.RowWorld.view c.args.world.now in
    let t = g.W.RowWorld.view c.checkpoint_line.new.world in
    let l = c.args.line.now in
    let rs = c.args.receipts.now in
    let is : l.command ≡ command.Checkpoint = c.in-Checkpoint.is in
    let none : l.session ≡ 0 = subst (λ (d : Command). Names v d l.session) is c.requires.line.session in
    let r = c.checkpoint_line.result in
    let older_is = λ (d : Command) (same : l.command ≡ d).
    subst (λ (x : Command). RemovesTo r (end_by c.args.store.now.slots None) (end_of_command x (removal_end c.args.store.now.slots)) (g.W.LogWorld.log c.args.world.now).flushed (g.W.LogWorld.log c.checkpoint_line.new.world).flushed
    (g.D.Disk.told c.args.store.now.disk) (g.D.Disk.told c.checkpoint_line.new.store.disk)) (sym same)
    in
    let logged : IfOk r (λ a. DidLogLine v l a t) = IfOk-weaker r _ _ (λ a did. log_line v l a t command.Checkpoint is none did) c.checkpoint_line.ensures.answered in
    record {
      stands = c.checkpoint_line.ensures.stands;
      moved = IfOk-weaker r _ _ (λ a did. checkpoint_moved v l a t is did) logged;
      runs = ok_then r (λ a. DidLogLine v l a t) _ (λ a did. (c.lines_keep_runs.ensures.logs v t l a c.requires.runs did).0) logged;
      opening = ok_then r (λ a. DidLogLine v l a t) _ (λ a did. (c.lines_keep_runs.ensures.logs v t l a c.requires.runs did).1) logged;
      receipts = ok_then r (λ a. DidLogLine v l a t) _ (λ a did. let f = log_flushes v t l a did in receipts_stay v t rs f.opening f.session c.requires.receipts) logged;
      flushes = c.checkpoint_line.ensures.flushes;
      of_log = fails_of_log r l (inr is);
      keeps = c.checkpoint_line.ensures.keeps;
      saves = c.checkpoint_line.ensures.saves;
      removes = c.checkpoint_line.ensures.removes;
      older = older_is command.Checkpoint is c.checkpoint_line.ensures.older;
      counts = c.checkpoint_line.ensures.counts;
      spared = starved_weaker r ⊥ (c.checkpoint_line.new.store ≡ c.args.store.now) (λ no. absurd no) c.checkpoint_line.ensures.fed;
    }

pub session_line-requires : goal.session_line-requires
session_line-requires g c = record {
  stands = c.requires.stands;
  law = c.requires.law;
  runs = c.requires.runs;
  session = names_session (g.W.RowWorld.view c.args.world.now) c.args.line.now.command c.args.line.now.session c.in_default.not-Flush c.in_default.not-Checkpoint c.requires.line.session;
  no_flush = c.in_default.not-Flush;
  no_checkpoint = c.in_default.not-Checkpoint;
  table = c.requires.line.table;
  receipts = c.requires.receipts;
}

pub returns-in_ok-session_line-in_default : goal.returns-in_ok-session_line-in_default
returns-in_ok-session_line-in_default g c =
    let w = c.args.world.now in
    let new = c.session_line.new.world in
    let v = g.W.RowWorld.view w in
    let t = g.W.RowWorld.view new in
    let s = c.args.store.now in
    let l = c.args.line.now in
    let a = c.in_ok-session_line-in_default.field-0 in
    let law = g.W.LogWorld.rows_law in
    let did = c.in_ok-session_line-in_default.ensures.answered in
    let turn = turn_line c.begun_transactions_are_runs.ensures c.answers_stay.ensures v l a t did in
    let stands = c.session_line.ensures.stands in
    let serial = serializable_too g.W.RowWorld.law law t g.met.W.ScriptWorld.one_law (g.met.W.RowWorld.serializable new stands) in
    let laws : SessionLaws law = record { held = c.held_logs_stay.ensures; kept = c.kept_logs_stay.ensures; met = c.met_logs_stay.ensures } in
    let k : Keeper = keeper_of (g.W.LogWorld.log w) s (g.D.Disk.told s.disk) in
    let m : Keeper = keeper_of (g.W.LogWorld.log new) s (g.D.Disk.told s.disk) in
    let runs = c.lines_keep_runs.ensures.lines v t l a c.requires.runs did in
    record {
      stands = stands;
      moved = line_moved v l a t did;
      flushes = tt;
      of_log = tt;
      runs = runs.0;
      opening = runs.1;
      receipts = c.in_ok-session_line-in_default.ensures.receipts;
      keeps = session_keeps law laws v t k m serial (turn_leaves v t l.session _ a turn (c.lines_leave_the_log.ensures.lines v t l a did))
          (g.met.W.ScriptWorld.one_log w c.requires.stands) (g.met.W.ScriptWorld.one_log new stands)
          (g.met.W.LogWorld.is_log w (g.met.W.ScriptWorld.may_flush w c.requires.stands)) (g.met.W.LogWorld.is_log new (g.met.W.ScriptWorld.may_flush new stands))
          c.requires.held refl refl refl refl;
      saves = session_saved v t l a (g.D.Disk.told s.disk) s.slots did;
      removes = session_removes law.meets v t l a (g.D.Disk.told s.disk) s.slots did;
      older = session_older v t l a s.slots k.log.flushed m.log.flushed (g.D.Disk.told s.disk) did;
      counts = refl;
      spared = tt;
    }
