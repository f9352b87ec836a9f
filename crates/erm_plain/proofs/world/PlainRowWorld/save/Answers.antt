use Rattle.std.proofs.Common.{◌≡◌, ◌+◌, ◌<◌, ℕ, List, [], ◌∷◌, ◌++◌, length, set, refl, ap, sym, subst, ◌∙◌, arith}
use Rattle.erm_model.specs.declared.history.VersionWritten.{VersionWritten}
use Rattle.erm_model.specs.declared.limits.TheConstants.{SAVES}
use Rattle.erm_world.specs.Saves.{DidSave, with_saves}
use Rattle.erm_world.specs.World.{Work, work_at}
use Rattle.erm_world.proofs.WithSaves.{did_save}
use Rattle.erm_lists.specs.Stands.{lists_view}
use Rattle.erm_plain.specs.Stands.{IsWorld, MayGoBack, Stands, held_by, plain_view}
use Rattle.erm_plain.proofs.Holding.{active_with, claims_kept, held_else, held_now, holding_stands, may_more, one_active}
use Rattle.erm_plain.proofs.world.PlainRowWorld.save.Goals as goal

pub returns-in-Err-clause-stands : goal.returns-in-Err-clause-stands
returns-in-Err-clause-stands g c =
    let p = c.args.self.now in
    subst (λ (saves : List (List (List VersionWritten))). IsWorld g.L.RowLaw.law (record { lists = p.lists; saves = saves })) (sym c.in-Err.ensures.err) c.requires.stands

pub returns-in-Err-clause-err : goal.returns-in-Err-clause-err
returns-in-Err-clause-err g c =
    let p = c.args.self.now in (
      ap (λ (saves : List (List (List VersionWritten))). with_saves (held_by saves) (lists_view p.lists)) c.in-Err.ensures.err,
      let held = c.held-held.ensures in let room = c.if-held-ge-SAVES.false in omega (arith, held, room),
    )

pub returns-in-Ok-clause-stands : goal.returns-in-Ok-clause-stands
returns-in-Ok-clause-stands g c =
    let p = c.args.self.now in
    let v = lists_view p.lists in
    let seat = c.args.seat in
    let held = held_by p.saves seat in
    let claims = (work_at v seat).claims in
    let within : seat < length p.saves = let low = c.requires.session.1 in let room = c.requires.stands.stands.room in omega (arith, low, room) in
    let room : length held < SAVES = let all = c.held-held.ensures in let few = c.if-held-ge-SAVES.false in omega (arith, all, few) in
    let is : c.save.new.self ≡ set p.saves seat (held ++ claims ∷ []) =
    c.in-Ok.ensures.ok ∙ ap (λ (list : List VersionWritten). set p.saves seat (held ++ list ∷ [])) c.claims_made.ensures
    in
    let stand = active_with (v.session seat).stand c.requires.active in
    let may = may_more (work_at v seat) held (c.requires.stands.stands.held seat (work_at v seat) c.requires.session stand) room
    (claims_kept g.L.RowLaw.law (plain_view p) seat c.requires.stands.serializable c.requires.session c.requires.active)
    in
    c.standing_worlds_have_laws.ensures _
    (subst (λ (saves : List (List (List VersionWritten))). Stands g.L.RowLaw.law (record { lists = p.lists; saves = saves })) (sym is)
    (holding_stands g.L.RowLaw.law p p.lists seat (held ++ claims ∷ []) c.requires.stands.stands c.requires.stands.stands.lists refl (λ q another. refl) within
    (λ w session now. subst (λ (u : Work). MayGoBack u (held ++ claims ∷ [])) (one_active (v.session seat).stand (work_at v seat) w stand now) may)))

pub returns-in-Ok-clause-ok : goal.returns-in-Ok-clause-ok
returns-in-Ok-clause-ok g c =
    let p = c.args.self.now in
    let v = lists_view p.lists in
    let seat = c.args.seat in
    let held = held_by p.saves seat in
    let claims = (work_at v seat).claims in
    let within : seat < length p.saves = let low = c.requires.session.1 in let room = c.requires.stands.stands.room in omega (arith, low, room) in
    let room : length held < SAVES = let all = c.held-held.ensures in let few = c.if-held-ge-SAVES.false in omega (arith, all, few) in
    let is : c.save.new.self ≡ set p.saves seat (held ++ claims ∷ []) =
    c.in-Ok.ensures.ok ∙ ap (λ (list : List VersionWritten). set p.saves seat (held ++ list ∷ [])) c.claims_made.ensures
    in
    let now : (q : ℕ) → held_by c.save.new.self q ≡ held_by (set p.saves seat (held ++ claims ∷ [])) q = λ q. ap (λ (saves : List (List (List VersionWritten))). held_by saves q) is in
    subst (λ (n : ℕ). DidSave (plain_view p) seat (n + 1) (with_saves (held_by c.save.new.self) v)) (sym c.held-held.ensures)
    (did_save (held_by p.saves) (held_by c.save.new.self) v v seat room (now seat ∙ held_now p.saves seat (held ++ claims ∷ []) within)
    (λ q another. now q ∙ held_else p.saves seat (held ++ claims ∷ []) q another) refl)
