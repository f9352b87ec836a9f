use Rattle.std.proofs.Common.{◌≡◌, Option, Vec, refl, sym, ap, ◌∙◌, arith}
use Rattle.std.proofs.lemmas.Result.{err_from_is_err_and}
use Rattle.std.specs.declared.alloc.Global.{Global}
use Rattle.erm_model.specs.declared.outcome.Phase.TheVariants.{Active, Idle}
use Rattle.erm_report.specs.declared.answer.Answer.{Answer}
use Rattle.erm_world.specs.World.{Opening, Session, phase_of}
use Rattle.erm_log_run.specs.Keeping.{Keeper, keeper_of}
use Rattle.erm_log_run.specs.Saving.{removed_to, removing_to, saved_at}
use Rattle.erm_log_run.specs.Starving.{Starves}
use Rattle.erm_log_run.proofs.Older.{removed_below, stay_behind, stop_removes_too}
use Rattle.erm_log_run.proofs.Receipts.{none_received}
use Rattle.erm_log_run.proofs.Leaving.{on_itself}
use Rattle.erm_log_run.proofs.Results.{all_ran, counts_then, cut_ran, keeps_then}
use Rattle.erm_log_run.proofs.Saving.{saved_then}
use Rattle.erm_log_run.proofs.Starving.{starved_behind, starved_first, starved_so, starved_weaker, stop_starves}
use Rattle.erm_log_run.proofs.Stopped.{stop_counts, stop_keeps}
use Rattle.erm_log_run.proofs.Told.{stop_told_too, told_then}
use Rattle.erm_log_run.proofs.whole.run_all.Goals as goal

pub answer_all-requires-clause-runs : goal.answer_all-requires-clause-runs
answer_all-requires-clause-runs g c = λ seat session active.
    absurd (let no : Idle ≡ Active = sym (ap (λ (s : Session). phase_of s.stand) (c.requires.opened.idle seat session)) ∙ active in cc)

pub answer_all-requires-clause-receipts : goal.answer_all-requires-clause-receipts
answer_all-requires-clause-receipts g c =
    none_received (g.W.RowWorld.view c.args.world.now) c.args.sessions _ c.requires.opened c.requires.sessions
    (c.deref_mut.ensures.value ∙ c.in_ok-receipts.ensures)

pub returns-in_err-answer_all : goal.returns-in_err-answer_all
returns-in_err-answer_all g c =
    let v = g.W.RowWorld.view c.args.world.now in
    let t = g.W.RowWorld.view c.answer_all.new.world in
    let stop = c.in_err-answer_all.field-0.0 in
    let first : Keeper = keeper_of (g.W.LogWorld.log c.args.world.now) c.args.store.now (g.D.Disk.told c.args.store.now.disk) in
    let mid : Keeper = keeper_of (g.W.LogWorld.log c.answer_all.new.world) c.answer_all.new.store (g.D.Disk.told c.answer_all.new.store.disk) in
    let sound = g.W.LogWorld.rows_law.meets in
    let p = err_from_is_err_and c.from_residual-in_err-answer_all.result c.from_residual-in_err-answer_all.ensures.1 in
    record {
      stands = c.answer_all.ensures.stands;
      ran = rw (p.1, p.2) (cut_ran (Unit {0}) stop v t c.args.sessions c.args.script.now c.answer_all.new.answers.items c.in_err-answer_all.ensures.ran);
      keeps = rw (p.1, p.2) (stop_keeps (Unit {0}) (Vec (Option Answer) Global) sound stop first first mid (on_itself sound first) c.in_err-answer_all.ensures.keeps);
      told = rw (p.1, p.2) (stop_told_too (Unit {0}) (Vec (Option Answer) Global) sound stop first.told c.answer_all.new.answers.items mid c.in_err-answer_all.ensures.told);
      saves = rw p.1 tt;
      older = rw (p.1, p.2) (stop_removes_too (Unit {0}) (Vec (Option Answer) Global) stop (λ x. removed_to first.slots c.answer_all.new.answers.items) (λ x. removed_to first.slots c.answer_all.new.answers.items) (removing_to first.slots c.args.script.now c.answer_all.new.answers.items)
          first.log.flushed mid.log.flushed first.told mid.told c.in_err-answer_all.ensures.older);
      starved = rw (p.1, p.2) (stop_starves (Unit {0}) (Vec (Option Answer) Global) stop (Starves sound v c.args.script.now first mid.told) (Starves sound v c.args.script.now first mid.told) (λ starved. starved) c.in_err-answer_all.ensures.starved);
      counts = rw (p.1, p.2) (stop_counts (Unit {0}) (Vec (Option Answer) Global) stop (g.D.Disk.faults c.args.store.now.disk) (g.D.Disk.faults c.args.store.now.disk) (g.D.Disk.faults c.answer_all.new.store.disk) refl c.in_err-answer_all.ensures.counts);
    }

pub close_all-requires : goal.close_all-requires
close_all-requires g c = record {
  stands = c.answer_all.ensures.stands;
  law = c.requires.law;
  sessions = ap (λ (o : Opening). o.sessions) c.in_ok-answer_all.ensures.ran.1 ∙ c.requires.sessions;
  held = c.in_ok-answer_all.ensures.keeps.0;
}

pub returns : goal.returns
returns g c =
    let v = g.W.RowWorld.view c.args.world.now in
    let u = g.W.RowWorld.view c.answer_all.new.world in
    let t = g.W.RowWorld.view c.close_all.new.world in
    let r = c.close_all.result in
    let ran = c.in_ok-answer_all.ensures.ran in
    let first : Keeper = keeper_of (g.W.LogWorld.log c.args.world.now) c.args.store.now (g.D.Disk.told c.args.store.now.disk) in
    let mid : Keeper = keeper_of (g.W.LogWorld.log c.answer_all.new.world) c.answer_all.new.store (g.D.Disk.told c.answer_all.new.store.disk) in
    let sound = g.W.LogWorld.rows_law.meets in
    let stands = c.answer_all.ensures.stands in
    let last : Keeper = keeper_of (g.W.LogWorld.log c.close_all.new.world) c.close_all.new.store (g.D.Disk.told c.close_all.new.store.disk) in
    record {
      stands = c.close_all.ensures.stands;
      ran = all_ran r v u t c.args.sessions c.args.script.now c.answer_all.new.answers.items ran.0 ran.2 c.close_all.ensures.closing c.close_all.ensures.idle c.close_all.ensures.flushed c.close_all.ensures.closes;
      keeps = keeps_then r g.W.LogWorld.rows_law.meets first mid last c.in_ok-answer_all.ensures.keeps.1 c.close_all.ensures.keeps;
      told = told_then r g.W.LogWorld.rows_law.meets first.told c.answer_all.new.answers.items mid last c.in_ok-answer_all.ensures.told c.close_all.ensures.keeps;
      saves = saved_then r (saved_at c.answer_all.new.answers.items) first.told first.slots mid.slots last.slots c.in_ok-answer_all.ensures.saves c.close_all.ensures.slots;
      older = stay_behind r sound mid last (removed_to first.slots c.answer_all.new.answers.items) (removing_to first.slots c.args.script.now c.answer_all.new.answers.items) first.log.flushed first.told (removed_below first.slots c.args.script.now c.answer_all.new.answers.items) c.in_ok-answer_all.ensures.keeps.1.further
          c.close_all.ensures.keeps c.in_ok-answer_all.ensures.older c.close_all.ensures.older;
      counts = counts_then r _ _ _ c.in_ok-answer_all.ensures.counts c.close_all.ensures.counts;
      starved = starved_weaker r (c.close_all.new.store ≡ c.answer_all.new.store) (Starves sound v c.args.script.now first last.told)
          (λ same.
          starved_behind sound v u c.args.script.now c.answer_all.new.answers.items first mid last.told (let each = ran.0 in omega (arith, each)) ran.2
          (g.met.W.ScriptWorld.one_log c.answer_all.new.world stands) (g.met.W.LogWorld.is_log c.answer_all.new.world (g.met.W.ScriptWorld.may_flush c.answer_all.new.world stands))
          (rw same) c.in_ok-answer_all.ensures.keeps.1 c.in_ok-answer_all.ensures.older)
          c.close_all.ensures.spared;
    }

pub returns-in_err-receipts-clause-starved : goal.returns-in_err-receipts-clause-starved
returns-in_err-receipts-clause-starved g c =
    let w = c.args.world.now in
    let first : Keeper = keeper_of (g.W.LogWorld.log w) c.args.store.now (g.D.Disk.told c.args.store.now.disk) in
    let sound = g.W.LogWorld.rows_law.meets in
    let v = g.W.RowWorld.view w in
    starved_so _ (Starves sound v c.args.script.now first first.told)
    (starved_first sound v c.args.script.now first (g.met.W.ScriptWorld.one_log w c.requires.stands) (g.met.W.LogWorld.is_log w (g.met.W.ScriptWorld.may_flush w c.requires.stands)))
