use Rattle.std.proofs.Common.{◌≡◌, ◌-◌, ◌∙◌, ◌<◌, ℕ, [], List, Option, add-one, ap, arith, inl, inr, length, refl, slice_index_or, subst, sym}
use Rattle.erm_rule.specs.Views.{part_of}
use Rattle.erm_savepoints.specs.Saves.{row_saved, KeptSaves}
use Rattle.erm_machine.specs.Core.{claim_at}
use Rattle.erm_session.specs.Session.{IsSession}
use Rattle.erm_session.specs.Saves.{AreSaves, saves_at}
use Rattle.erm_session.specs.Saving.{ClaimGoesBack, TookBacks, TookClaimBack}
use Rattle.erm_session.proofs.Backs.{all_back, backs_went, base_so, cut_saves, cut_shows, go_so, has_active, long_so, none_yet, one_more, rows_claims, seat_active, seat_starts, with_saves, SoFar}
use Rattle.erm_session.proofs.Saved.{Rows}
use Rattle.erm_session.proofs.Unsets.{found_is}
use Rattle.erm_session.proofs.session.Session.back.Goals.{then-n-eq0-via-then-n-eq0, then-n-eq0-via-else-n-eq0+then-n-held}
use Rattle.erm_session.proofs.session.Session.back.Goals as goal

pub returns-then-n-eq0-clause-none : goal.returns-then-n-eq0-clause-none
returns-then-n-eq0-clause-none g c =
    elim c.then-n-eq0.branch [
      | then-n-eq0-via-then-n-eq0 w ↦ (c.held-held.ensures.held, inl w.if-n-eq0.true)
      | then-n-eq0-via-else-n-eq0+then-n-held w ↦ (c.held-held.ensures.held, inr w.if-n-held.true)
    ]

pub loop-place-init : goal.loop-place-init
loop-place-init g c =
    let s = c.args.self.now in
    let v = c.args.p.now.me.0.view in
    let x = part_of v s.seat in
    record {
      fits = c.requires.fits;
      seat = refl;
      stands = c.requires.stands;
      active = c.requires.active;
      points = refl;
      sofar = none_yet v s.seat (seat_active s x c.requires.stands c.requires.active) (slice_index_or s.saves.points (c.args.n - 1) []) c.requires.known (seat_starts s x c.requires.stands c.requires.active);
      took = refl;
    }

pub claim_back-requires-clause-place : goal.claim_back-requires-clause-place
claim_back-requires-clause-place g c =
    let s = c.args.self.now in
    let v = c.args.p.now.me.0.view in
    let x = part_of v s.seat in
    let inv = c.loop-place.invariant in
    let all = rows_claims s x c.requires.stands in
    let count = s.rows_claimed.ok.0 in
    let long = long_so v s.seat (seat_active s x c.requires.stands c.requires.active) (slice_index_or s.saves.points (c.args.n - 1) []) c.loop-place.place c.loop-place.p.me.0.view inv.sofar in
    subst (λ (q : ℕ). c.loop-place.place < length (part_of c.loop-place.p.me.0.view q).current.writes) (sym inv.seat) (omega (arith, all, count, long, c.len-place-end.ensures, c.loop-place-test.true))

pub loop-place-preserved : goal.loop-place-preserved
loop-place-preserved g c =
    let s = c.args.self.now in
    let v = c.args.p.now.me.0.view in
    let x = part_of v s.seat in
    let saved = slice_index_or s.saves.points (c.args.n - 1) [] in
    let inv = c.loop-place.invariant in
    let m = c.loop-place.self in
    let u = c.loop-place.p.me.0.view in
    let k = c.loop-place.place in
    let on = seat_active s x c.requires.stands c.requires.active in
    let all = rows_claims s x c.requires.stands in
    let count = s.rows_claimed.ok.0 in
    let within : k < length x.current.writes = omega (arith, all, count, c.len-place-end.ensures, c.loop-place-test.true) in
    let long = long_so v s.seat on saved k u inv.sofar in
    let same : row_saved (slice_index_or m.saves.points (c.args.n - 1) []) k ≡ row_saved saved k = ap (λ (ps : List Rows). row_saved (slice_index_or ps (c.args.n - 1) []) k) inv.points in
    let base = found_is m.saves (part_of u s.seat) k (has_active m.stage m.saves (part_of u s.seat) inv.active inv.stands.saves) (omega (arith, within, long)) ∙ base_so v s.seat on saved k u inv.sofar within in
    let did : ClaimGoesBack u s.seat k (row_saved saved k) c.claim_back.new.p.me.0.view =
    subst (λ (q : ℕ). ClaimGoesBack u q k (row_saved saved k) c.claim_back.new.p.me.0.view) inv.seat (subst (λ (o : Option (List ℕ)). ClaimGoesBack u m.seat k o c.claim_back.new.p.me.0.view) same c.claim_back.ensures.back)
    in
    let steps : TookClaimBack g.L.RowLaw.law s.seat k (row_saved saved k) (claim_at x.current k).base c.loop-place.p.me.0 c.claim_back.new.p.me.0 =
    subst (λ (q : ℕ). TookClaimBack g.L.RowLaw.law q k (row_saved saved k) (claim_at x.current k).base c.loop-place.p.me.0 c.claim_back.new.p.me.0) inv.seat
    (subst (λ (r : List ℕ). TookClaimBack g.L.RowLaw.law m.seat k (row_saved saved k) r c.loop-place.p.me.0 c.claim_back.new.p.me.0) base
    (subst (λ (o : Option (List ℕ)). TookClaimBack g.L.RowLaw.law m.seat k o (slice_index_or m.saves.found k []) c.loop-place.p.me.0 c.claim_back.new.p.me.0) same c.claim_back.ensures.took))
    in
    record {
      fits = c.claim_back.ensures.fits;
      seat = c.claim_back.ensures.seat ∙ inv.seat;
      stands = subst (λ (q : ℕ). IsSession c.claim_back.new.self (part_of c.claim_back.new.p.me.0.view q)) inv.seat c.claim_back.ensures.stands;
      active = c.claim_back.ensures.active;
      points = c.claim_back.ensures.points ∙ inv.points;
      sofar = subst (λ (n : ℕ). SoFar v s.seat saved n c.claim_back.new.p.me.0.view) (sym (add-one k)) (one_more v s.seat on saved k u inv.sofar c.claim_back.new.p.me.0.view within did);
      took = subst (λ (n : ℕ). TookBacks g.L.RowLaw.law s.seat saved n c.args.p.now.me.0 c.claim_back.new.p.me.0) (sym (add-one k)) (c.loop-place.p.me.0, inv.took, steps);
    }

pub returns-clause-stands : goal.returns-clause-stands
returns-clause-stands g c =
    let inv = c.loop-place.invariant in
    let m = c.loop-place.self in
    with_saves m c.cut.new.self (part_of c.loop-place.p.me.0.view c.args.self.now.seat) inv.stands
    (λ saves. subst (λ (n : KeptSaves). AreSaves n (part_of c.loop-place.p.me.0.view c.args.self.now.seat)) (sym c.cut.ensures) (cut_saves m.saves c.args.n (part_of c.loop-place.p.me.0.view c.args.self.now.seat) saves))

pub returns-clause-back : goal.returns-clause-back
returns-clause-back g c =
    let s = c.args.self.now in
    let v = c.args.p.now.me.0.view in
    let x = part_of v s.seat in
    all_back v s.seat (seat_active s x c.requires.stands c.requires.active) (slice_index_or s.saves.points (c.args.n - 1) []) c.loop-place.place c.loop-place.p.me.0.view c.loop-place.invariant.sofar
    (let all = rows_claims s x c.requires.stands in let count = s.rows_claimed.ok.0 in omega (arith, all, count, c.len-place-end.ensures, c.loop-place-test.false, c.loop-place.auto.place-end))

pub returns-clause-saves : goal.returns-clause-saves
returns-clause-saves g c =
    let s = c.args.self.now in
    let v = c.args.p.now.me.0.view in
    let x = part_of v s.seat in
    let inv = c.loop-place.invariant in
    let m = c.loop-place.self in
    ap (λ (n : KeptSaves). saves_at m.stage n.points (part_of c.loop-place.p.me.0.view s.seat)) c.cut.ensures
    ∙ cut_shows s.stage m.stage s.saves m.saves.points c.args.n x (part_of c.loop-place.p.me.0.view s.seat) c.requires.active inv.active c.requires.stands.saves inv.points
    (go_so v s.seat (seat_active s x c.requires.stands c.requires.active) (slice_index_or s.saves.points (c.args.n - 1) []) c.loop-place.place c.loop-place.p.me.0.view inv.sofar)

pub returns-clause-took : goal.returns-clause-took
returns-clause-took g c =
    let s = c.args.self.now in
    let x = part_of c.args.p.now.me.0.view s.seat in
    subst (λ (n : ℕ). TookBacks g.L.RowLaw.law s.seat (slice_index_or s.saves.points (c.args.n - 1) []) n c.args.p.now.me.0 c.loop-place.p.me.0)
    (let all = rows_claims s x c.requires.stands in let count = s.rows_claimed.ok.0 in omega (arith, all, count, c.len-place-end.ensures, c.loop-place-test.false, c.loop-place.auto.place-end)) c.loop-place.invariant.took

pub returns-clause-goes : goal.returns-clause-goes
returns-clause-goes g c =
    backs_went g.L.RowLaw.law c.args.self.now.seat (slice_index_or c.args.self.now.saves.points (c.args.n - 1) []) c.loop-place.place c.args.p.now.me.0 c.loop-place.p.me.0 c.loop-place.invariant.took
