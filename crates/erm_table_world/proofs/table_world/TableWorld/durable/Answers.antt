use Rattle.std.proofs.Common.{◌≤◌, [], ◌∷◌, ℕ, IfErr, OnOk, subst}
use Rattle.erm_machine.specs.declared.event.Kind.TheVariants.{LoadFlushed}
use Rattle.erm_rule.specs.Books.{book}
use Rattle.erm_rule.specs.Went.{Took}
use Rattle.erm_table_world.proofs.Held.{keeps_same}
use Rattle.erm_table_world.proofs.Sessions.{called_same, here, is_now, quiet_still}
use Rattle.erm_table_world.proofs.Unseen.{durable_told}
use Rattle.erm_table_world.proofs.table_world.TableWorld.durable.Goals as goal

pub durable-requires : goal.durable-requires
durable-requires g c =
    let at = here g.L.RowLaw.law c.args.self.now c.args.seat c.index.result.now c.requires.stands c.requires.session c.index.ensures in
    record { fits = c.requires.stands.fits; stands = at.stands }

pub returns : goal.returns
returns g c =
    let law = g.L.RowLaw.law in
    let w = c.args.self.now in
    let seat = c.args.seat in
    let s = c.index.result.now in
    let stands = c.requires.stands in
    let at = here law w seat s stands c.requires.session c.index.ensures in
    let b = book w.pass in
    let e = book c.durable.new.p in
    let r = c.durable.result in
    let end = c.args.receipt.now.end in
    let ok = subst (λ (n : ℕ). OnOk r ((flushed : ℕ) × (end ≤ flushed) × Took law n ((LoadFlushed, flushed) ∷ []) b e)) at.seat c.durable.ensures.took in
    let none = subst (λ (n : ℕ). IfErr r (λ stop. Took law n ((LoadFlushed, stop.flushed) ∷ []) b e)) at.seat c.durable.ensures.took_none in
    let done = durable_told law w.count seat end b e r stands.at.state ok none c.durable.ensures.unsynced in
    let is = is_now law e seat s.seat s done.ran.state at.seated at.seat c.durable.ensures.stands in
    record {
      stands =
          called_same law w seat c.durable.new.p s stands c.requires.session c.index.ensures
          (record {
            fits = c.durable.ensures.fits;
            ran = done.ran;
            quiet = quiet_still law w.count seat b e s stands.at.quiet c.requires.session done.ran done.stayed is;
            seat = at.seat;
            is = is;
          });
      saves = keeps_same law w seat s stands c.requires.session c.index.ensures c.durable.new.p done.ran c.durable.ensures.stands c.durable.ensures.saves;
      same = done.same;
      ok = done.told.ok;
      err = done.told.err;
    }
