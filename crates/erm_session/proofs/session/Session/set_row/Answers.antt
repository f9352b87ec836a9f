use Rattle.std.proofs.Common.{List, ap, get_or, refl}
use Rattle.erm_precommit.specs.declared.pre.KeptClaim.{KeptClaim}
use Rattle.erm_precommit.specs.Pre.{no_claim_kept}
use Rattle.erm_rule.specs.Views.{part_of}
use Rattle.erm_session.proofs.Goes.{active, goes_on, kept, not_active, stage_goes, starts, with_rows}
use Rattle.erm_session.proofs.RowSet.{go_set_row, goes_back, goes_set, saves_set_row, kept_set, may_store, open_set, placed, rows_set, rows_stay, sets, spare_set}
use Rattle.erm_session.proofs.Sought.{in_box}
use Rattle.std.proofs.Common.{sym, subst}
use Rattle.erm_savepoints.specs.Saves.{KeptSaves}
use Rattle.erm_session.specs.Saves.{AreSaves}
use Rattle.erm_session.proofs.Saved.{saves_on, shows_on}
use Rattle.erm_session.proofs.session.Session.set_row.Goals as goal

pub store_row-requires-clause-may : goal.store_row-requires-clause-may
store_row-requires-clause-may g c =
    let s = c.args.self.now in
    let v = c.args.p.now.me.0.view in
    let x = part_of v s.seat in
    let is = c.requires.stands.kept in
    let t = c.in-Active.txn in
    let at = c.in-Active.is in
    may_store v s.seat (active s x is t at) c.requires.known t (kept s x is t at) (starts s x is t at) c.args.place c.requires.place.1.within _
    (ap (λ (l : List KeptClaim). (get_or l c.args.place no_claim_kept).own) (in_box c.deref-2.ensures.0 c.deref.ensures)) c.args.row.now

pub returns-clause-stands : goal.returns-clause-stands
returns-clause-stands g c =
    let s = c.args.self.now in
    let v = c.args.p.now.me.0.view in
    let x = part_of v s.seat in
    let is = c.requires.stands.kept in
    let t = c.in-Active.txn in
    let at = c.in-Active.is in
    let on = active s x is t at in
    let acts = kept s x is t at in
    let anew = starts s x is t at in
    let inside = c.requires.place.1.within in
    let own = ap (λ (l : List KeptClaim). (get_or l c.args.place no_claim_kept).own) (in_box c.deref-2.ensures.0 c.deref.ensures) in
    let did = c.store_row.ensures.stored in
    let goes = goes_set v s.seat on c.requires.known t acts anew c.args.place inside _ own c.args.row.now _ did in
    with_rows _ _
    (goes_on s _ x _ is goes (stage_goes s x is t at _ goes (kept_set v s.seat on c.requires.known t acts anew c.args.place inside _ own c.args.row.now _ did))
    c.requires.active (spare_set v s.seat on c.requires.known t acts anew c.args.place inside _ own c.args.row.now _ did s.spare is.spare) refl refl refl is.room_read is.room_claimed refl)
    (rows_stay v s.seat on c.requires.known t acts anew c.args.place inside _ own c.args.row.now _ did s.rows_read.items c.requires.stands.rows_read)
    (rows_set v s.seat on c.requires.known t acts anew c.args.place inside _ own c.args.row.now _ did s.rows_claimed.items _ c.requires.stands.rows_claimed refl)
    (open_set v s.seat on c.requires.known t acts anew c.args.place inside _ own c.args.row.now _ did s.stage c.requires.active c.requires.stands.window)
    (saves_on s.stage s.stage s.saves _ x _ c.requires.active c.requires.stands.saves (λ saves. subst (λ (n : KeptSaves). AreSaves n (part_of c.store_row.new.p.me.0.view s.seat)) (sym c.mark.ensures) (saves_set_row v s.seat on c.requires.known t acts anew c.args.place inside _ own c.args.row.now _ did s.saves saves)))

pub returns-clause-set : goal.returns-clause-set
returns-clause-set g c =
    let s = c.args.self.now in
    let v = c.args.p.now.me.0.view in
    let x = part_of v s.seat in
    let is = c.requires.stands.kept in
    let t = c.in-Active.txn in
    let at = c.in-Active.is in
    sets v s.seat (active s x is t at) c.requires.known t (kept s x is t at) (starts s x is t at) c.args.place c.requires.place.1.within _
    (ap (λ (l : List KeptClaim). (get_or l c.args.place no_claim_kept).own) (in_box c.deref-2.ensures.0 c.deref.ensures)) c.args.row.now _ c.store_row.ensures.stored

pub returns-clause-stores : goal.returns-clause-stores
returns-clause-stores g c =
    let s = c.args.self.now in
    let v = c.args.p.now.me.0.view in
    let x = part_of v s.seat in
    let is = c.requires.stands.kept in
    let t = c.in-Active.txn in
    let at = c.in-Active.is in (
      _,
      placed v s.seat (active s x is t at) c.requires.known t (kept s x is t at) (starts s x is t at) c.args.place c.requires.place.1.within _
          (ap (λ (l : List KeptClaim). (get_or l c.args.place no_claim_kept).own) (in_box c.deref-2.ensures.0 c.deref.ensures)),
      c.store_row.ensures.stores,
    )

pub unreachable-requires : goal.unreachable-requires
unreachable-requires g c = not_active c.args.self.now.stage c.requires.active c.in_default.not-Active

pub returns-clause-saves : goal.returns-clause-saves
returns-clause-saves g c = λ still.
    let s = c.args.self.now in
    let v = c.args.p.now.me.0.view in
    let x = part_of v s.seat in
    let is = c.requires.stands.kept in
    let t = c.in-Active.txn in
    let at = c.in-Active.is in
    let own = ap (λ (l : List KeptClaim). (get_or l c.args.place no_claim_kept).own) (in_box c.deref-2.ensures.0 c.deref.ensures) in
    shows_on s.stage s.stage s.saves c.mark.new.self x (part_of c.store_row.new.p.me.0.view s.seat) c.requires.active c.requires.stands.saves (ap (λ (n : KeptSaves). n.points) c.mark.ensures)
    (go_set_row v s.seat (active s x is t at) c.requires.known t (kept s x is t at) (starts s x is t at) c.args.place c.requires.place.1.within _ own c.args.row.now _ c.store_row.ensures.stored) still

pub returns-clause-back : goal.returns-clause-back
returns-clause-back g c =
    let s = c.args.self.now in
    let v = c.args.p.now.me.0.view in
    let x = part_of v s.seat in
    let is = c.requires.stands.kept in
    let t = c.in-Active.txn in
    let at = c.in-Active.is in
    let own = ap (λ (l : List KeptClaim). (get_or l c.args.place no_claim_kept).own) (in_box c.deref-2.ensures.0 c.deref.ensures) in
    goes_back v s.seat (active s x is t at) c.requires.known t (kept s x is t at) (starts s x is t at) c.args.place c.requires.place.1.within _ own c.args.row.now _ c.store_row.ensures.stored
