use Rattle.std.proofs.Common.{◌≡◌, ℕ, ◌+◌, ◌∷◌, [], ◌++◌, List, length, take, None, Some, refl, ap, sym, ◌∙◌, subst, arith}
use Rattle.std.specs.List.{slice_get}
use Rattle.std.proofs.lemmas.List.{take_more, length-append, length-take}
use Rattle.std.proofs.lemmas.Option.{slice_get-get_or}
use Rattle.std.proofs.lemmas.Result.{err_from_is_err_and}
use Rattle.erm_model.specs.Member.{◌∈◌}
use Rattle.erm_model.proofs.Members.{none_in_nil}
use Rattle.erm_node.specs.Sound.{sound_law}
use Rattle.erm_report.specs.declared.answer.Answer.{Answer}
use Rattle.erm_script.specs.declared.script.ScriptLine.{ScriptLine}
use Rattle.erm_lines.specs.Executions.{IsExecution, Move, line_moves, move_of}
use Rattle.erm_good_report.specs.Stamps.{place_told}
use Rattle.erm_ckpt.specs.Slots.{removal_end}
use Rattle.erm_outside.specs.Disk.{Tells}
use Rattle.erm_log_run.specs.Acknowledged.{EndsAt}
use Rattle.erm_log_run.specs.Keeping.{Keeper, KeepsOn, keeper_of}
use Rattle.erm_log_run.specs.Lines.{IsLineOf}
use Rattle.erm_log_run.specs.Saving.{AreRemoved, AreSaved, end_by, end_of_command, removed_to, removing_to, saved_at}
use Rattle.erm_log_run.specs.Starving.{Starves}
use Rattle.erm_log_run.proofs.Answering.{line_moves_front, line_moves_more}
use Rattle.erm_log_run.proofs.Closing.{execution_more}
use Rattle.erm_log_run.proofs.Leaving.{on_itself, on_then}
use Rattle.erm_log_run.proofs.Lined.{line_of_too}
use Rattle.erm_world.proofs.Serial.{serializable_too}
use Rattle.erm_log_run.proofs.Older.{most_next, older_itself, removed_below, stay_more, stop_removes}
use Rattle.erm_log_run.proofs.Saving.{saved_more}
use Rattle.erm_log_run.proofs.Starving.{starved_behind, starved_so, stop_starves}
use Rattle.erm_log_run.proofs.Stopped.{stop_keeps, stop_ran}
use Rattle.erm_log_run.proofs.Reached.{move_reaches}
use Rattle.erm_log_run.proofs.Told.{AreKept, all_kept_more, stop_told}
use Rattle.erm_log_run.proofs.answers.answer_all.Goals as goal

pub loop-line-init : goal.loop-line-init
loop-line-init g c = record {
  stands = c.requires.stands;
  many = ap (λ (xs : List Answer). length xs) c.requires.none;
  runs = c.requires.runs;
  opening = refl;
  receipts = c.requires.receipts;
  ran = subst (λ (xs : List Answer). IsExecution (g.W.RowWorld.view c.args.world.now) (line_moves (take 0 c.args.script.now) xs) (g.W.RowWorld.view c.args.world.now)) (sym c.requires.none) refl;
  held = c.requires.held;
  keeps = on_itself g.W.LogWorld.rows_law.meets _;
  told = λ place is. absurd (none_in_nil is.answer (subst (λ (xs : List Answer). is.answer ∈ xs) c.requires.none is.given));
  saves = subst (λ (xs : List Answer). AreSaved (saved_at xs) (g.D.Disk.told c.args.store.now.disk) c.args.store.now.slots c.args.store.now.slots) (sym c.requires.none) refl;
  older = subst (λ (xs : List Answer). Tells (AreRemoved (removed_to c.args.store.now.slots xs) (g.W.LogWorld.log c.args.world.now).flushed (g.W.LogWorld.log c.args.world.now).flushed) (g.D.Disk.told c.args.store.now.disk) (g.D.Disk.told c.args.store.now.disk)) (sym c.requires.none)
      (older_itself (g.W.LogWorld.log c.args.world.now).flushed (g.W.LogWorld.log c.args.world.now).flushed (g.D.Disk.told c.args.store.now.disk));
  faults = refl;
}

pub run_line-requires : goal.run_line-requires
run_line-requires g c =
    let script = c.args.script.now in
    let k = c.loop-line.line-index in
    let l = c.line-item.result in
    let kept = c.loop-line.invariant in
    let v = g.W.RowWorld.view c.args.world.now in
    let one : IsLineOf v l = c.requires.lines l (k, slice_get-get_or script k l c.loop-line-test.true ∙ ap (λ (x : ScriptLine). Some x) (sym c.line-item.is)) in
    record {
      stands = kept.stands;
      law = c.requires.law;
      runs = kept.runs;
      line = line_of_too v (g.W.RowWorld.view c.loop-line.world) l kept.opening one;
      receipts = kept.receipts;
      held = kept.held;
    }

pub loop-line-preserved : goal.loop-line-preserved
loop-line-preserved g c =
    let v = g.W.RowWorld.view c.args.world.now in
    let before = g.W.RowWorld.view c.loop-line.world in
    let after = g.W.RowWorld.view c.run_line.new.world in
    let script = c.args.script.now in
    let k = c.loop-line.line-index in
    let l = c.line-item.result in
    let a = c.in_ok-answer.answer in
    let kept = c.loop-line.invariant in
    let front = take k script in
    let longer : take (k + 1) script ≡ front ++ l ∷ [] = take_more script k l c.loop-line-test.true ∙ ap (λ (x : ScriptLine). front ++ x ∷ []) (sym c.line-item.is) in
    let pushed : c.push.new.self.items ≡ c.loop-line.answers.items ++ a ∷ [] = c.in_ok-push.ensures.items in
    let many : length c.loop-line.answers.items ≡ length front = (let size = length-take k script in let within = c.loop-line-test.true in let counted = kept.many in omega (arith, size, within, counted)) in
    let serial = serializable_too g.W.RowWorld.law sound_law after c.requires.law (g.met.W.RowWorld.serializable c.run_line.new.world c.run_line.ensures.stands) in
    let goes : IsExecution v (line_moves front c.loop-line.answers.items ++ move_of l a ∷ []) after =
    execution_more v before after (line_moves front c.loop-line.answers.items) (move_of l a) kept.ran c.in_ok-answer.ensures.moved serial
    in
    let moves : line_moves (take (k + 1) script) c.push.new.self.items ≡ line_moves front c.loop-line.answers.items ++ move_of l a ∷ [] =
    ap (λ (ls : List ScriptLine). line_moves ls c.push.new.self.items) longer ∙ ap (λ (xs : List Answer). line_moves (front ++ l ∷ []) xs) pushed ∙ line_moves_more front c.loop-line.answers.items l a many
    in
    let keeps = c.in_ok-answer.ensures.keeps in
    let first : Keeper = keeper_of (g.W.LogWorld.log c.args.world.now) c.args.store.now (g.D.Disk.told c.args.store.now.disk) in
    let was : Keeper = keeper_of (g.W.LogWorld.log c.loop-line.world) c.loop-line.store (g.D.Disk.told c.loop-line.store.disk) in
    let is : Keeper = keeper_of (g.W.LogWorld.log c.run_line.new.world) c.run_line.new.store (g.D.Disk.told c.run_line.new.store.disk) in
    let sound = g.W.LogWorld.rows_law.meets in
    let further : KeepsOn sound first is = on_then sound first was is kept.keeps keeps.1 in
    let of = g.met.W.ScriptWorld.one_log c.run_line.new.world c.run_line.ensures.stands in
    let reaches : (place : ℕ) → place_told a ≡ Some place → EndsAt a place is.log.flushed =
    λ place told. subst (EndsAt a place) (sym of.flushed) (move_reaches before after l a place c.in_ok-answer.ensures.moved told)
    in
    record {
      stands = c.run_line.ensures.stands;
      many = (let size = ap (λ (xs : List Answer). length xs) pushed ∙ length-append c.loop-line.answers.items (a ∷ []) in let counted = kept.many in omega (arith, size, counted));
      runs = c.in_ok-answer.ensures.runs;
      opening = c.in_ok-answer.ensures.opening ∙ kept.opening;
      receipts = c.in_ok-answer.ensures.receipts;
      ran = subst (λ (ms : List Move). IsExecution v ms after) (sym moves) goes;
      held = keeps.0;
      keeps = further;
      told = subst (λ (xs : List Answer). AreKept sound first.told xs is) (sym pushed)
          (all_kept_more sound c.kept_logs_begin.ensures first was is c.loop-line.answers.items a c.requires.held kept.keeps keeps.1 further keeps.0 reaches c.in_ok-answer.ensures.saves c.in_ok-answer.ensures.removes kept.told);
      saves = subst (λ (xs : List Answer). AreSaved (saved_at xs) first.told first.slots is.slots) (sym pushed)
          (saved_more sound c.kept_logs_begin.ensures first was is c.loop-line.answers.items a c.requires.held further kept.saves c.in_ok-answer.ensures.saves);
      older = subst (λ (xs : List Answer). Tells (AreRemoved (removed_to first.slots xs) first.log.flushed is.log.flushed) first.told is.told) (sym pushed)
          (stay_more first.slots was.slots c.loop-line.answers.items a first.log.flushed was.log.flushed is.log.flushed first.told was.told is.told kept.keeps.further keeps.1.further kept.saves kept.older c.in_ok-answer.ensures.older);
      faults = c.in_ok-answer.ensures.counts ∙ kept.faults;
    }

pub returns-in_err-answer-clause-ran : goal.returns-in_err-answer-clause-ran
returns-in_err-answer-clause-ran g c =
    let v = g.W.RowWorld.view c.args.world.now in
    let before = g.W.RowWorld.view c.loop-line.world in
    let script = c.args.script.now in
    let answers = c.loop-line.answers.items in
    let k = c.loop-line.line-index in
    let l = c.line-item.result in
    let kept = c.loop-line.invariant in
    let fewer = c.loop-line-test.true in
    let many = kept.many in
    let p = err_from_is_err_and c.from_residual.result c.from_residual.ensures.1 in
    let after = g.W.RowWorld.view c.run_line.new.world in
    let serial = serializable_too g.W.RowWorld.law sound_law after c.requires.law (g.met.W.RowWorld.serializable c.run_line.new.world c.run_line.ensures.stands) in
    let at : slice_get script (length answers) ≡ Some l =
    ap (λ (n : ℕ). slice_get script n) many ∙ slice_get-get_or script k l fewer ∙ ap (λ (x : ScriptLine). Some x) (sym c.line-item.is)
    in
    rw (p.1, p.2) (stop_ran Answer (Unit {0}) c.in_err-answer.field-0.0 v before after script answers (omega (arith, fewer, many)) l at c.in_err-answer.ensures.of_log (subst (λ (ms : List Move). IsExecution v ms before) (line_moves_front script c.loop-line.line-index answers many) kept.ran) c.in_err-answer.ensures.flushes serial)

pub returns-in_err-answer-clause-keeps : goal.returns-in_err-answer-clause-keeps
returns-in_err-answer-clause-keeps g c =
    let kept = c.loop-line.invariant in
    let first : Keeper = keeper_of (g.W.LogWorld.log c.args.world.now) c.args.store.now (g.D.Disk.told c.args.store.now.disk) in
    let was : Keeper = keeper_of (g.W.LogWorld.log c.loop-line.world) c.loop-line.store (g.D.Disk.told c.loop-line.store.disk) in
    let is : Keeper = keeper_of (g.W.LogWorld.log c.run_line.new.world) c.run_line.new.store (g.D.Disk.told c.run_line.new.store.disk) in
    let p = err_from_is_err_and c.from_residual.result c.from_residual.ensures.1 in
    rw (p.1, p.2) (stop_keeps Answer (Unit {0}) g.W.LogWorld.rows_law.meets c.in_err-answer.field-0.0 first was is kept.keeps c.in_err-answer.ensures.keeps)

pub returns-in_err-answer-clause-told : goal.returns-in_err-answer-clause-told
returns-in_err-answer-clause-told g c =
    let kept = c.loop-line.invariant in
    let first : Keeper = keeper_of (g.W.LogWorld.log c.args.world.now) c.args.store.now (g.D.Disk.told c.args.store.now.disk) in
    let was : Keeper = keeper_of (g.W.LogWorld.log c.loop-line.world) c.loop-line.store (g.D.Disk.told c.loop-line.store.disk) in
    let is : Keeper = keeper_of (g.W.LogWorld.log c.run_line.new.world) c.run_line.new.store (g.D.Disk.told c.run_line.new.store.disk) in
    let p = err_from_is_err_and c.from_residual.result c.from_residual.ensures.1 in
    rw (p.1, p.2) (stop_told Answer (Unit {0}) g.W.LogWorld.rows_law.meets c.in_err-answer.field-0.0 first.told c.loop-line.answers.items was is kept.told c.in_err-answer.ensures.keeps)

pub returns-in_err-answer-clause-older : goal.returns-in_err-answer-clause-older
returns-in_err-answer-clause-older g c =
    let kept = c.loop-line.invariant in
    let first : Keeper = keeper_of (g.W.LogWorld.log c.args.world.now) c.args.store.now (g.D.Disk.told c.args.store.now.disk) in
    let was : Keeper = keeper_of (g.W.LogWorld.log c.loop-line.world) c.loop-line.store (g.D.Disk.told c.loop-line.store.disk) in
    let is : Keeper = keeper_of (g.W.LogWorld.log c.run_line.new.world) c.run_line.new.store (g.D.Disk.told c.run_line.new.store.disk) in
    let answers = c.loop-line.answers.items in
    let script = c.args.script.now in
    let k = c.loop-line.line-index in
    let l = c.line-item.result in
    let p = err_from_is_err_and c.from_residual.result c.from_residual.ensures.1 in
    let at : slice_get script (length answers) ≡ Some l =
    ap (λ (n : ℕ). slice_get script n) kept.many ∙ slice_get-get_or script k l c.loop-line-test.true ∙ ap (λ (x : ScriptLine). Some x) (sym c.line-item.is)
    in
    rw (p.1, p.2)
    (stop_removes Answer (Unit {0}) c.in_err-answer.field-0.0 (end_by was.slots None) (λ x. removed_to first.slots answers) (removed_to first.slots answers) (end_of_command l.command (removal_end was.slots))
    (removing_to first.slots script answers) first.log.flushed was.log.flushed is.log.flushed first.told was.told is.told (removed_below first.slots script answers)
    (most_next first.slots was.slots script l answers first.told at kept.saves) kept.keeps.further kept.older c.in_err-answer.ensures.older)

pub returns-in_err-answer-clause-starved : goal.returns-in_err-answer-clause-starved
returns-in_err-answer-clause-starved g c =
    let v = g.W.RowWorld.view c.args.world.now in
    let before = g.W.RowWorld.view c.loop-line.world in
    let script = c.args.script.now in
    let answers = c.loop-line.answers.items in
    let kept = c.loop-line.invariant in
    let fewer = c.loop-line-test.true in
    let many = kept.many in
    let sound = g.W.LogWorld.rows_law.meets in
    let first : Keeper = keeper_of (g.W.LogWorld.log c.args.world.now) c.args.store.now (g.D.Disk.told c.args.store.now.disk) in
    let was : Keeper = keeper_of (g.W.LogWorld.log c.loop-line.world) c.loop-line.store (g.D.Disk.told c.loop-line.store.disk) in
    let told = g.D.Disk.told c.run_line.new.store.disk in
    let p = err_from_is_err_and c.from_residual.result c.from_residual.ensures.1 in
    rw (p.1, p.2)
    (stop_starves Answer (Unit {0}) c.in_err-answer.field-0.0 (c.run_line.new.store ≡ c.loop-line.store) (Starves sound v script first told)
    (λ same.
    starved_behind sound v before script answers first was told (omega (arith, fewer, many)) (subst (λ (ms : List Move). IsExecution v ms before) (line_moves_front script c.loop-line.line-index answers many) kept.ran)
    (g.met.W.ScriptWorld.one_log c.loop-line.world kept.stands) (g.met.W.LogWorld.is_log c.loop-line.world (g.met.W.ScriptWorld.may_flush c.loop-line.world kept.stands))
    (rw same) kept.keeps kept.older)
    c.in_err-answer.ensures.spared)

pub returns-in_err-push-clause-starved : goal.returns-in_err-push-clause-starved
returns-in_err-push-clause-starved g c =
    let v = g.W.RowWorld.view c.args.world.now in
    let before = g.W.RowWorld.view c.loop-line.world in
    let new = c.run_line.new.world in
    let after = g.W.RowWorld.view new in
    let script = c.args.script.now in
    let k = c.loop-line.line-index in
    let l = c.line-item.result in
    let a = c.in_ok-answer.answer in
    let kept = c.loop-line.invariant in
    let front = take k script in
    let answers = c.loop-line.answers.items ++ a ∷ [] in
    let fewer = c.loop-line-test.true in
    let counted = kept.many in
    let longer : take (k + 1) script ≡ front ++ l ∷ [] = take_more script k l fewer ∙ ap (λ (x : ScriptLine). front ++ x ∷ []) (sym c.line-item.is) in
    let many : length c.loop-line.answers.items ≡ length front = (let size = length-take k script in omega (arith, size, fewer, counted)) in
    let more : length answers ≡ k + 1 = (let size = length-append c.loop-line.answers.items (a ∷ []) in omega (arith, size, counted)) in
    let stands = c.run_line.ensures.stands in
    let serial = serializable_too g.W.RowWorld.law sound_law after c.requires.law (g.met.W.RowWorld.serializable new stands) in
    let goes : IsExecution v (line_moves front c.loop-line.answers.items ++ move_of l a ∷ []) after =
    execution_more v before after (line_moves front c.loop-line.answers.items) (move_of l a) kept.ran c.in_ok-answer.ensures.moved serial
    in
    let moves : line_moves script answers ≡ line_moves front c.loop-line.answers.items ++ move_of l a ∷ [] =
    sym (line_moves_front script (k + 1) answers more) ∙ ap (λ (ls : List ScriptLine). line_moves ls answers) longer ∙ line_moves_more front c.loop-line.answers.items l a many
    in
    let first : Keeper = keeper_of (g.W.LogWorld.log c.args.world.now) c.args.store.now (g.D.Disk.told c.args.store.now.disk) in
    let was : Keeper = keeper_of (g.W.LogWorld.log c.loop-line.world) c.loop-line.store (g.D.Disk.told c.loop-line.store.disk) in
    let is : Keeper = keeper_of (g.W.LogWorld.log new) c.run_line.new.store (g.D.Disk.told c.run_line.new.store.disk) in
    let sound = g.W.LogWorld.rows_law.meets in
    starved_so _ (Starves sound v script first is.told)
    (starved_behind sound v after script answers first is is.told (omega (arith, fewer, more)) (subst (λ (ms : List Move). IsExecution v ms after) (sym moves) goes)
    (g.met.W.ScriptWorld.one_log new stands) (g.met.W.LogWorld.is_log new (g.met.W.ScriptWorld.may_flush new stands)) refl
    (on_then sound first was is kept.keeps c.in_ok-answer.ensures.keeps.1)
    (stay_more first.slots was.slots c.loop-line.answers.items a first.log.flushed was.log.flushed is.log.flushed first.told was.told is.told kept.keeps.further c.in_ok-answer.ensures.keeps.1.further kept.saves kept.older c.in_ok-answer.ensures.older))
