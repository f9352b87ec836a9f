use Rattle.std.proofs.Common.{ℕ, ◌<◌, List, length, sym, subst}
use Rattle.erm_rule.specs.Views.{part_of}
use Rattle.erm_rule.proofs.Telling.{is_held}
use Rattle.erm_session.specs.Saving.{TookRowAt}
use Rattle.erm_session.proofs.Backs.{has_active}
use Rattle.erm_session.proofs.Unsets.{back, found_there, held, ready, stands}
use Rattle.erm_session.proofs.session.Session.unset_row.Goals as goal

pub found-row-requires : goal.found-row-requires
found-row-requires g c =
    let s = c.args.self.now in
    let x = part_of c.args.p.now.me.0.view s.seat in
    found_there s.saves x c.args.place (has_active s.stage s.saves x c.requires.active c.requires.stands.saves) c.requires.place

pub unset-requires-clause-held : goal.unset-requires-clause-held
unset-requires-clause-held g c =
    let s = c.args.self.now in
    let v = c.args.p.now.me.0.view in
    is_held _ s.seat _ (held s v c.requires.stands c.requires.active c.args.place c.requires.place c.found-row.result c.found-row.ensures _ c.set_row.ensures.back)

pub unset-requires-clause-ready : goal.unset-requires-clause-ready
unset-requires-clause-ready g c =
    let s = c.args.self.now in
    let v = c.args.p.now.me.0.view in
    ready s v c.requires.stands c.requires.active c.args.place c.requires.place c.found-row.result c.found-row.ensures _ c.set_row.ensures.back

pub mark-requires : goal.mark-requires
mark-requires g c =
    let s = c.args.self.now in
    let x = part_of c.args.p.now.me.0.view s.seat in
    subst (λ (rs : List (List ℕ)). c.args.place < length rs) (sym c.set_row.ensures.found) (found_there s.saves x c.args.place (has_active s.stage s.saves x c.requires.active c.requires.stands.saves) c.requires.place)

pub returns-clause-stands : goal.returns-clause-stands
returns-clause-stands g c =
    let s = c.args.self.now in
    let v = c.args.p.now.me.0.view in
    stands s v c.requires.stands c.requires.active c.args.place c.requires.place c.found-row.result c.found-row.ensures _ c.set_row.ensures.back _ c.unset.ensures.told.told c.set_row.new.self c.mark.new.self c.set_row.ensures.stands
    c.set_row.ensures.active c.mark.ensures

pub returns-clause-back : goal.returns-clause-back
returns-clause-back g c =
    let s = c.args.self.now in
    let v = c.args.p.now.me.0.view in
    back s v c.requires.stands c.requires.active c.args.place c.requires.place c.found-row.result c.found-row.ensures _ c.set_row.ensures.back _ c.unset.ensures.told.told

pub returns-clause-took : goal.returns-clause-took
returns-clause-took g c = record {
  stored = c.set_row.new.p.me.0;
  stores = subst (λ (row : List ℕ). TookRowAt g.L.RowLaw.law c.args.self.now.seat c.args.place row c.args.p.now.me.0 c.set_row.new.p.me.0) c.found-row.ensures
      (record { cell = c.set_row.ensures.stores.0; of = c.set_row.ensures.stores.1; stores = c.set_row.ensures.stores.2 });
  unset = c.unset.ensures.booked;
}
