use Rattle.std.proofs.Common.{◌≡◌, ℕ, ◌∙◌, subst, sym}
use Rattle.erm_model.specs.declared.outcome.Phase.TheVariants as phase
use Rattle.erm_rows.specs.Safe.{DidReadSafe}
use Rattle.erm_rule.specs.Books.{book}
use Rattle.erm_rule.specs.Went.{IsLoadStep, Went, core_of}
use Rattle.erm_session.specs.Session.{phase_of}
use Rattle.erm_session.proofs.Saved.{none_shown}
use Rattle.erm_table_world.proofs.SafeReading.{read_ran, read_row, read_same, read_stayed, safe_of}
use Rattle.erm_table_world.proofs.Held.{keeps_same}
use Rattle.erm_table_world.proofs.Sessions.{called_same, here, is_now, quiet_still}
use Rattle.erm_table_world.proofs.table_world.TableWorld.safe_read.Goals as goal

pub safe_read-requires : goal.safe_read-requires
safe_read-requires g c =
    let at = here g.L.RowLaw.law c.args.self.now c.args.seat c.index.result.now c.requires.stands c.requires.session c.index.ensures in
    record { fits = c.requires.stands.fits; stands = at.stands; safe = at.phase ∙ c.requires.safe; object = c.requires.object }

pub returns : goal.returns
returns g c =
    let law = g.L.RowLaw.law in
    let w = c.args.self.now in
    let seat = c.args.seat in
    let oid = c.args.oid in
    let s = c.index.result.now in
    let stands = c.requires.stands in
    let at = here law w seat s stands c.requires.session c.index.ensures in
    let b = book w.pass in
    let e = book c.safe_read.new.p in
    let row = c.safe_read.result in
    let rests = safe_of s.stage ((core_of b).seats seat) at.is.kept.stage (at.phase ∙ c.requires.safe) in
    let loads = subst (λ (n : ℕ). Went law n IsLoadStep b e) at.seat c.safe_read.ensures.loads in
    let did = subst (λ (n : ℕ). DidReadSafe b n oid row e) at.seat c.safe_read.ensures.read in
    let ran = read_ran law w.count seat b e stands.at at.session at.seated rests.active rests.safe oid row loads did in
    let stayed = read_stayed law w.count seat b e stands.at at.session at.seated rests.active rests.safe oid row loads did in
    let is = is_now law e seat s.seat s ran.state at.seated at.seat c.safe_read.ensures.stands in
    let none : phase_of s.stage ≡ phase.Active → ⊥ = λ on. absurd (let safe = at.phase ∙ c.requires.safe in cc) in
    let quiet = quiet_still law w.count seat b e s stands.at.quiet c.requires.session ran stayed is in
    record {
      stands =
          called_same law w seat c.safe_read.new.p s stands c.requires.session c.index.ensures
          (record { fits = c.safe_read.ensures.fits; ran = ran; quiet = quiet; seat = at.seat; is = is });
      saves =
          keeps_same law w seat s stands c.requires.session c.index.ensures c.safe_read.new.p ran c.safe_read.ensures.stands
          (none_shown s.stage s.saves.points _ none ∙ sym (none_shown s.stage s.saves.points _ none));
      same = read_same law w.count seat b e stands.at at.session at.seated rests.active rests.safe oid row loads did;
      row =
          read_row law w.count seat b e stands.at at.session at.seated rests.active rests.safe oid row loads did c.safe_rows_are_snapshots.ensures quiet c.requires.object;
    }
