use Rattle.std.proofs.Common.{ℕ, IfErr, IfOk, ◌∙◌, subst}
use Rattle.erm_rule.specs.Books.{book}
use Rattle.erm_session.proofs.Saved.{stays_begun}
use Rattle.erm_seats.specs.Took.{TookBegin}
use Rattle.erm_session.specs.Took.{TookNoBegin}
use Rattle.erm_world.specs.declared.stops.BeginStop.TheVariants as stop
use Rattle.erm_table_world.proofs.Beginning.{at_last, began}
use Rattle.erm_core_steps.proofs.Results.{never}
use Rattle.erm_table_world.proofs.Held.{keeps_saves}
use Rattle.erm_table_world.proofs.Sessions.{called, here, is_now}
use Rattle.erm_table_world.proofs.table_world.TableWorld.begin.Goals as goal

pub begin-requires-clause-stands : goal.begin-requires-clause-stands
begin-requires-clause-stands g c =
    (here g.L.RowLaw.law c.args.self.now c.args.seat c.index_mut.result.now c.requires.stands c.requires.session c.index_mut.ensures.value).stands

pub begin-requires-clause-idle : goal.begin-requires-clause-idle
begin-requires-clause-idle g c =
    (here g.L.RowLaw.law c.args.self.now c.args.seat c.index_mut.result.now c.requires.stands c.requires.session c.index_mut.ensures.value).phase ∙ c.requires.idle

pub returns : goal.returns
returns g c =
    let law = g.L.RowLaw.law in
    let w = c.args.self.now in
    let seat = c.args.seat in
    let s = c.index_mut.result.now in
    let at = here law w seat s c.requires.stands c.requires.session c.index_mut.ensures.value in
    let b = book w.pass in
    let e = book c.begin.new.p in
    let r = c.begin.result in
    let took = subst (λ (n : ℕ). IfOk r (λ begin. TookBegin law n begin b e)) at.seat c.begin.ensures.took in
    let none = subst (λ (n : ℕ). IfErr r (λ stop. TookNoBegin law n stop b e)) at.seat c.begin.ensures.took_none in
    let last = at_last b.view e.view s.seat _ r at.part c.begin.ensures.refused in
    let done = began law w.count seat b e c.requires.stands.at c.requires.session c.requires.idle r took none last in
    record {
      stands =
          called law w seat c.begin.new.p c.begin.new.self c.requires.stands c.requires.session
          (record {
            fits = c.begin.ensures.fits;
            ran = done.ran;
            quiet = done.quiet;
            seat = c.begin.ensures.seat ∙ at.seat;
            is = is_now law e seat s.seat c.begin.new.self done.ran.state at.seated at.seat c.begin.ensures.stands;
          });
      saves = keeps_saves law w seat s c.requires.stands c.requires.session c.index_mut.ensures.value c.begin.new.p done.ran c.begin.new.self c.begin.ensures.stands (stays_begun r s c.begin.new.self _ _ (at.phase ∙ c.requires.idle) c.begin.ensures.unsaved c.begin.ensures.idle);
      ok = done.ok;
      err = done.err;
      memory = never r (λ why. TookNoBegin law seat why b e) stop.Memory (λ none. none) none;
    }
