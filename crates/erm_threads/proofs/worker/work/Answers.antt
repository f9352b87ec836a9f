use Rattle.std.proofs.Common.{◌≡◌, ℕ, ◌<◌, ◌≤◌, List, length, None, true, false, inl, inr, refl, ◌∙◌, subst, sym}
use Rattle.erm_model.specs.declared.outcome.Phase.TheVariants.{Active}
use Rattle.erm_script.specs.declared.script.ScriptLine.{ScriptLine}
use Rattle.erm_world.specs.World.{phase_at}
use Rattle.erm_beside.specs.Onward.{onward_then}
use Rattle.erm_worker.specs.Work.{GaveUp, RanShort, WasGivenUp}
use Rattle.erm_worker.proofs.Short.{given_up_short}
use Rattle.erm_threads.specs.Work.{DidWork}
use Rattle.erm_threads.proofs.worker.work.Goals as goal

never : (P : Type 0) → true ≡ false → P
never P lacked = absurd (cc lacked)

pub returns-in-Ok : goal.returns-in-Ok
returns-in-Ok g c =
    let seat = g.S.SharedSession.seat c.args.job.now.session in
    let v = g.S.SharedSession.own c.args.job.now.session in
    let t = g.S.SharedSession.own c.run.new.session in
    let answers = c.run.new.answers.items in
    record {
      worked = record {
        stands_so = c.run.ensures.stands;
        onward = c.run.ensures.onward;
        rests = c.in-Ok.ensures.rests;
        most = subst (λ (ls : List ScriptLine). length answers ≤ length ls) c.as_slice.ensures.value c.run.ensures.most;
        some = λ f end. inl (subst (λ (ls : List ScriptLine). DidWork f seat ls answers c.in-Ok.closed v t) c.as_slice.ensures.value (c.in-Ok.ensures.did f end));
        did = λ whole f end. subst (λ (ls : List ScriptLine). DidWork f seat ls answers c.in-Ok.closed v t) c.as_slice.ensures.value (c.in-Ok.ensures.did f end);
      };
      told = record {
        left = λ whole fewer. (c.in-Ok.ensures.left (subst (λ (ls : List ScriptLine). length answers < length ls) (sym c.as_slice.ensures.value) fewer), sym c.is_starved-job.ensures.told ∙ whole);
        waits = λ whole none sealed. (c.in-Ok.ensures.waits none sealed, sym c.is_starved-job.ensures.told ∙ whole);
      };
    }

pub returns-in-Err-clause-worked : goal.returns-in-Err-clause-worked
returns-in-Err-clause-worked g c =
    let seat = g.S.SharedSession.seat c.args.job.now.session in
    let mid = g.S.SharedSession.seat c.run.new.session in
    let there = g.S.SharedSession.seat c.leave.new.session in
    let v = g.S.SharedSession.own c.args.job.now.session in
    let u = g.S.SharedSession.own c.run.new.session in
    let t = g.S.SharedSession.own c.leave.new.session in
    let answers = c.run.new.answers.items in
    let is : mid ≡ seat = c.run.ensures.onward.seat_is in
    let gave : GaveUp (phase_at u seat) seat u t = subst (λ (q : ℕ). GaveUp (phase_at u q) q u t) is c.leave.ensures.gave in
    record {
      stands_so = c.leave.ensures.stands;
      onward = onward_then seat mid there (g.S.SharedSession.ends c.args.job.now.session) (g.S.SharedSession.ends c.run.new.session) (g.S.SharedSession.ends c.leave.new.session) c.run.ensures.onward c.leave.ensures.onward;
      rests = λ active. c.leave.ensures.rests (subst (λ (q : ℕ). phase_at t q ≡ Active) (sym is) active);
      most = subst (λ (ls : List ScriptLine). length answers ≤ length ls) c.as_slice.ensures.value c.run.ensures.most;
      did = λ no f end. never (DidWork f seat c.args.job.now.lines.items answers None v t) no;
      some = λ f end. inr (
        refl,
        subst (λ (ls : List ScriptLine). RanShort WasGivenUp f seat ls answers v t) c.as_slice.ensures.value
            (given_up_short f seat c.as_slice.result.now answers v u t (c.in-Err.ensures.short f (c.leave.ensures.onward.ends_so f end)) gave),
      );
    }
