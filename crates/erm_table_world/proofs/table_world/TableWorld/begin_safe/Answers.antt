use Rattle.std.proofs.Common.{ℕ, IfErr, IfOk, ◌∙◌, subst}
use Rattle.erm_core_steps.proofs.Results.{never}
use Rattle.erm_rule.specs.Books.{book}
use Rattle.erm_seats.specs.Safe.{TookBeginSafe}
use Rattle.erm_session.specs.Took.{TookNoBegin}
use Rattle.erm_world.specs.declared.stops.BeginStop.TheVariants as stop
use Rattle.erm_table_world.proofs.Beginning.{at_last}
use Rattle.erm_table_world.proofs.Held.{keeps_saves, past_begun_safe}
use Rattle.erm_table_world.proofs.Sessions.{called, here, is_now, quiet_still}
use Rattle.erm_table_world.proofs.SafeShows.{began_safe}
use Rattle.erm_table_world.proofs.table_world.TableWorld.begin_safe.Goals as goal

pub begin_safe-requires-clause-stands : goal.begin_safe-requires-clause-stands
begin_safe-requires-clause-stands g c =
    (here g.L.RowLaw.law c.args.self.now c.args.seat c.index_mut.result.now c.requires.stands c.requires.session c.index_mut.ensures.value).stands

pub begin_safe-requires-clause-idle : goal.begin_safe-requires-clause-idle
begin_safe-requires-clause-idle g c =
    (here g.L.RowLaw.law c.args.self.now c.args.seat c.index_mut.result.now c.requires.stands c.requires.session c.index_mut.ensures.value).phase ∙ c.requires.idle

pub returns : goal.returns
returns g c =
    let law = g.L.RowLaw.law in
    let w = c.args.self.now in
    let seat = c.args.seat in
    let s = c.index_mut.result.now in
    let stands = c.requires.stands in
    let at = here law w seat s stands c.requires.session c.index_mut.ensures.value in
    let b = book w.pass in
    let e = book c.begin_safe.new.p in
    let r = c.begin_safe.result in
    let took = subst (λ (n : ℕ). IfOk r (λ begin. TookBeginSafe law n begin b e)) at.seat c.begin_safe.ensures.took in
    let none = subst (λ (n : ℕ). IfErr r (λ stop. TookNoBegin law n stop b e)) at.seat c.begin_safe.ensures.took_none in
    let last = at_last b.view e.view s.seat _ r at.part c.begin_safe.ensures.refused in
    let done = began_safe law w.count seat b e stands.at c.requires.session c.requires.idle at.session r took none last in
    let is = is_now law e seat s.seat c.begin_safe.new.self done.ran.state at.seated at.seat c.begin_safe.ensures.stands in
    record {
      stands =
          called law w seat c.begin_safe.new.p c.begin_safe.new.self stands c.requires.session
          (record {
            fits = c.begin_safe.ensures.fits;
            ran = done.ran;
            quiet = quiet_still law w.count seat b e c.begin_safe.new.self stands.at.quiet c.requires.session done.ran done.stayed is;
            seat = c.begin_safe.ensures.seat ∙ at.seat;
            is = is;
          });
      saves = keeps_saves law w seat s stands c.requires.session c.index_mut.ensures.value c.begin_safe.new.p done.ran c.begin_safe.new.self c.begin_safe.ensures.stands (λ on. absurd (past_begun_safe r _ c.begin_safe.ensures.pending c.begin_safe.ensures.idle on));
      ok = done.ok;
      err = done.err;
      memory = never r (λ why. TookNoBegin law seat why b e) stop.Memory (λ none. none) none;
    }
