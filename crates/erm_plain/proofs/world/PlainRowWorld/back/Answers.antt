use Rattle.std.proofs.Common.{◌≡◌, ◌-◌, ◌<◌, ℕ, suc, List, length, set, take, refl, ap, sym, subst, ◌∙◌, arith, inl, inr}
use Rattle.erm_model.specs.declared.history.VersionWritten.{VersionWritten}
use Rattle.erm_world.specs.Saves.{WentBack, restored, with_claims, with_saves}
use Rattle.erm_world.specs.World.{Session, Work, work_at}
use Rattle.erm_world.proofs.WithSaves.{went_back}
use Rattle.erm_lists.specs.Stands.{lists_view}
use Rattle.erm_plain.specs.Stands.{MayGoBack, Stands, held_by, plain_view}
use Rattle.erm_plain.proofs.Holding.{active_with, held_else, held_now, holding_stands, may_restored, one_active, saved_at}
use Rattle.erm_plain.proofs.world.PlainRowWorld.back.Goals.{then-n-eq0-via-then-n-eq0, then-n-eq0-via-else-n-eq0+then-n-held}
use Rattle.erm_plain.proofs.world.PlainRowWorld.back.Goals as goal

pub returns-then-n-eq0-clause-err : goal.returns-then-n-eq0-clause-err
returns-then-n-eq0-clause-err g c = (
  refl,
  c.held-held.ensures,
  elim c.then-n-eq0.branch [
    | then-n-eq0-via-then-n-eq0 w ↦ inl w.if-n-eq0.true
    | then-n-eq0-via-else-n-eq0+then-n-held w ↦ inr w.if-n-held.true
  ],
)

pub restore-requires-clause-claimed : goal.restore-requires-clause-claimed
restore-requires-clause-claimed g c =
    let p = c.args.self.now in
    let v = lists_view p.lists in
    let held = held_by p.saves c.args.seat in
    let stand = active_with (v.session c.args.seat).stand c.requires.active in
    let below : c.args.n - 1 < length held = let all = c.held-held.ensures in let some = c.if-n-eq0.false in let few = c.if-n-held.false in omega (arith, all, some, few) in
    (c.requires.stands.stands.held c.args.seat (work_at v c.args.seat) c.requires.session stand).saves (c.args.n - 1) c.saved-saved.result.now
    (saved_at held (c.args.n - 1) c.saved-saved.result.now c.saved-saved.ensures below)

pub restore-requires-clause-kept : goal.restore-requires-clause-kept
restore-requires-clause-kept g c =
    let p = c.args.self.now in
    let v = lists_view p.lists in
    let held = held_by p.saves c.args.seat in
    let stand = active_with (v.session c.args.seat).stand c.requires.active in
    let below : c.args.n - 1 < length held = let all = c.held-held.ensures in let some = c.if-n-eq0.false in let few = c.if-n-held.false in omega (arith, all, some, few) in
    (c.requires.stands.stands.held c.args.seat (work_at v c.args.seat) c.requires.session stand).kept (c.args.n - 1) c.saved-saved.result.now
    (saved_at held (c.args.n - 1) c.saved-saved.result.now c.saved-saved.ensures below)

pub returns-clause-stands : goal.returns-clause-stands
returns-clause-stands g c =
    let p = c.args.self.now in
    let v = lists_view p.lists in
    let seat = c.args.seat in
    let n = c.args.n in
    let saved = c.saved-saved.result.now in
    let w = work_at v seat in
    let held = held_by p.saves seat in
    let within : seat < length p.saves = let low = c.requires.session.1 in let room = c.requires.stands.stands.room in omega (arith, low, room) in
    let stand = active_with (v.session seat).stand c.requires.active in
    let below : n - 1 < length held = let all = c.held-held.ensures in let some = c.if-n-eq0.false in let few = c.if-n-held.false in omega (arith, all, some, few) in
    let may = may_restored w held n (n - 1) saved (saved_at held (n - 1) saved c.saved-saved.ensures below) (c.requires.stands.stands.held seat w c.requires.session stand) in
    let works = c.restore.ensures.restored in
    c.standing_worlds_have_laws.ensures _
    (subst (λ (saves : List (List (List VersionWritten))). Stands g.L.RowLaw.law (record { lists = c.restore.new.self; saves = saves })) (sym c.cut.ensures)
    (holding_stands g.L.RowLaw.law p c.restore.new.self seat (take n held) c.requires.stands.stands c.restore.ensures.stands works.opening works.others within
    (λ u session now. subst (λ (x : Work). MayGoBack x (take n held)) (one_active ((lists_view c.restore.new.self).session seat).stand (with_claims (restored saved w.claims) w) u
    (ap (λ (s : Session). s.stand) works.own) now) may)))

pub returns-clause-ok : goal.returns-clause-ok
returns-clause-ok g c =
    let p = c.args.self.now in
    let v = lists_view p.lists in
    let t = lists_view c.restore.new.self in
    let seat = c.args.seat in
    let n = c.args.n in
    let saved = c.saved-saved.result.now in
    let held = held_by p.saves seat in
    let within : seat < length p.saves = let low = c.requires.session.1 in let room = c.requires.stands.stands.room in omega (arith, low, room) in
    let below : n - 1 < length held = let all = c.held-held.ensures in let some = c.if-n-eq0.false in let few = c.if-n-held.false in omega (arith, all, some, few) in
    let next : suc (n - 1) ≡ n = let some = c.if-n-eq0.false in omega (arith, some) in
    let now : (q : ℕ) → held_by c.cut.new.self q ≡ held_by (set p.saves seat (take n held)) q = λ q. ap (λ (saves : List (List (List VersionWritten))). held_by saves q) c.cut.ensures in
    subst (λ (k : ℕ). WentBack (plain_view p) seat k (with_saves (held_by c.cut.new.self) t)) next
    (went_back (held_by p.saves) (held_by c.cut.new.self) v t seat (n - 1) saved c.requires.active (saved_at held (n - 1) saved c.saved-saved.ensures below)
    (now seat ∙ held_now p.saves seat (take n held) within ∙ ap (λ (k : ℕ). take k held) (sym next)) (λ q another. now q ∙ held_else p.saves seat (take n held) q another) c.restore.ensures.restored)
