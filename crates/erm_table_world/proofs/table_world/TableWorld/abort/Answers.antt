use Rattle.std.proofs.Common.{ℕ, ◌∙◌, subst}
use Rattle.erm_cells.specs.Took.{IsEndStep}
use Rattle.erm_ends.specs.Ends.{DidAbort}
use Rattle.erm_rule.specs.Books.{book}
use Rattle.erm_rule.specs.Went.{IsStillStep, Went, core_of}
use Rattle.erm_rule.specs.Views.{view}
use Rattle.erm_core_steps.proofs.Quiet.{active_seat}
use Rattle.erm_table_world.proofs.Aborting.{aborted}
use Rattle.erm_model.specs.declared.outcome.Phase.TheVariants.{Idle}
use Rattle.erm_session.proofs.Saved.{stays_past}
use Rattle.erm_table_world.proofs.Held.{keeps_saves}
use Rattle.erm_table_world.proofs.Sessions.{called, here, is_now, quiet_still}
use Rattle.erm_table_world.proofs.Still.{went_ran, went_stayed}
use Rattle.erm_table_world.proofs.table_world.TableWorld.abort.Goals as goal
use Rattle.erm_cells.proofs.Took.{ends_still}

pub abort-requires : goal.abort-requires
abort-requires g c =
    let at = here g.L.RowLaw.law c.args.self.now c.args.seat c.index_mut.result.now c.requires.stands c.requires.session c.index_mut.ensures.value in
    record { fits = c.requires.stands.fits; known = at.known; stands = at.stands; active = at.phase ∙ c.requires.active }

pub returns : goal.returns
returns g c =
    let law = g.L.RowLaw.law in
    let w = c.args.self.now in
    let seat = c.args.seat in
    let s = c.index_mut.result.now in
    let stands = c.requires.stands in
    let at = here law w seat s stands c.requires.session c.index_mut.ensures.value in
    let b = book w.pass in
    let e = book c.abort.new.p in
    let active = active_seat w.count seat (core_of b) stands.at.quiet c.requires.session c.requires.active in
    let went = ends_still law seat b e (subst (λ (n : ℕ). Went law n IsEndStep b e) at.seat c.abort.ensures.ends) in
    let ran = went_ran law w.count seat IsStillStep b e went stands.at.state in
    let stayed = went_stayed law w.count seat b e went stands.at.state in
    let is = is_now law e seat s.seat c.abort.new.self ran.state at.seated at.seat c.abort.ensures.stands in
    let ended = subst (λ (n : ℕ). DidAbort (view w.pass) n (view c.abort.new.p)) at.seat c.abort.ensures.aborted in
    record {
      stands =
          called law w seat c.abort.new.p c.abort.new.self stands c.requires.session
          (record {
            fits = c.abort.ensures.fits;
            ran = ran;
            quiet = quiet_still law w.count seat b e c.abort.new.self stands.at.quiet c.requires.session ran stayed is;
            seat = c.abort.ensures.seat ∙ at.seat;
            is = is;
          });
      saves = keeps_saves law w seat s stands c.requires.session c.index_mut.ensures.value c.abort.new.p ran c.abort.new.self c.abort.ensures.stands (stays_past s c.abort.new.self _ _ Idle c.abort.ensures.idle (λ e. absurd (cc)));
      aborted = aborted law w.count seat b e stands.at.state at.session at.seated active.active (subst (λ (n : ℕ). Went law n IsEndStep b e) at.seat c.abort.ensures.ends) ended;
    }
