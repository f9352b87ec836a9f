use Rattle.std.proofs.Common.{◌≡◌, ◌<◌, ℕ, List, [], length, set, ap, sym, subst, ◌∙◌, arith}
use Rattle.std.proofs.lemmas.Result.{err_from_is_err_and}
use Rattle.erm_model.specs.declared.history.VersionWritten.{VersionWritten}
use Rattle.erm_world.specs.declared.stops.BeginStop.{BeginStop}
use Rattle.erm_world.specs.Calls.{MayNotBegin}
use Rattle.erm_world.specs.Saves.{with_saves}
use Rattle.erm_world.proofs.WithSaves.{did_begin, may_not_begin}
use Rattle.erm_lists.specs.Stands.{lists_view}
use Rattle.erm_plain.specs.Stands.{Stands, held_by, plain_view}
use Rattle.erm_plain.proofs.Holding.{held_else, held_now, holding_stands, idle_with, kept_stands, may_begin, not_begun}
use Rattle.erm_plain.proofs.world.PlainRowWorld.begin.Goals as goal

pub returns-in_err-stamp-clause-stands : goal.returns-in_err-stamp-clause-stands
returns-in_err-stamp-clause-stands g c =
    let p = c.args.self.now in
    c.standing_worlds_have_laws.ensures _
    (kept_stands g.L.RowLaw.law p c.begin.new.self c.requires.stands.stands c.begin.ensures.stands
    (not_begun (lists_view p.lists) (lists_view c.begin.new.self) c.args.seat (held_by p.saves) _ c.in_err-stamp.ensures.err))

pub returns-in_err-stamp-clause-err : goal.returns-in_err-stamp-clause-err
returns-in_err-stamp-clause-err g c =
    let p = c.args.self.now in
    let error = err_from_is_err_and c.from_residual.result c.from_residual.ensures.1 in
    let t = lists_view c.begin.new.self in
    rw error.1
    (subst (λ (why : BeginStop). MayNotBegin (plain_view p) c.args.seat why (with_saves (held_by p.saves) t)) (sym error.2)
    (may_not_begin (held_by p.saves) (lists_view p.lists) t c.args.seat c.in_err-stamp.field-0.0 c.in_err-stamp.ensures.err))

pub returns-clause-stands : goal.returns-clause-stands
returns-clause-stands g c =
    let p = c.args.self.now in
    let works = c.in_ok-stamp.ensures.ok.3 in
    let within : c.args.seat < length p.saves = let low = c.requires.session.1 in let room = c.requires.stands.stands.room in omega (arith, low, room) in
    c.standing_worlds_have_laws.ensures _
    (subst (λ (saves : List (List (List VersionWritten))). Stands g.L.RowLaw.law (record { lists = c.begin.new.self; saves = saves })) (sym c.cut.ensures)
    (holding_stands g.L.RowLaw.law p c.begin.new.self c.args.seat [] c.requires.stands.stands c.begin.ensures.stands works.opening works.others within (λ w session stand. may_begin w)))

pub returns-clause-ok : goal.returns-clause-ok
returns-clause-ok g c =
    let p = c.args.self.now in
    let v = lists_view p.lists in
    let seat = c.args.seat in
    let within : seat < length p.saves = let low = c.requires.session.1 in let room = c.requires.stands.stands.room in omega (arith, low, room) in
    let cut : (q : ℕ) → held_by c.cut.new.self q ≡ held_by (set p.saves seat []) q = λ q. ap (λ (saves : List (List (List VersionWritten))). held_by saves q) c.cut.ensures in
    did_begin (held_by p.saves) (held_by c.cut.new.self) v (lists_view c.begin.new.self) seat c.in_ok-stamp.stamp (λ q another. cut q ∙ held_else p.saves seat [] q another)
    (cut seat ∙ held_now p.saves seat [] within) (idle_with (v.session seat).stand c.requires.idle) c.in_ok-stamp.ensures.ok
