use Rattle.std.proofs.Common.{◌≡◌, ◌<◌, ◌≤◌, ℕ, List, Option, Some, None, Bor, MatchOption, IfSome, get_or, length, refl, ap, ◌∙◌, sym, subst, arith}
use Rattle.std.specs.List.{HoldsAt, slice_get}
use Rattle.std.specs.Option.{option_copied}
use Rattle.std.proofs.lemmas.Option.{slice_get-get_or, slice_get_past}
use Rattle.erm_core.specs.Cores.{core_of}
use Rattle.erm_core_steps.proofs.Exchanges.{claims_count}
use Rattle.erm_core_steps.proofs.Quiet.{active_seat}
use Rattle.erm_machine.specs.Core.{claim_at}
use Rattle.erm_machine.specs.Decided.{written_of}
use Rattle.erm_model.specs.declared.history.VersionWritten.{VersionWritten}
use Rattle.erm_world.specs.Calls.{Works}
use Rattle.erm_world.specs.World.{work_at}
use Rattle.erm_lists.specs.Restores.{WasFound, restored_claim, with_claim}
use Rattle.erm_world.specs.Saves.{with_claims}
use Rattle.erm_lists.specs.Stands.{lists_view}
use Rattle.erm_lists.proofs.Restoring.{next_found, next_restored, none_restored, within_so_far}
use Rattle.erm_world.proofs.Halfway.{halfway-all}
use Rattle.erm_lists.proofs.lists.Lists.restore.Goals as goal

-- what `get` finds
got_at : (saved : List VersionWritten) (i : ℕ) (o : Option (Bor VersionWritten)) → IfSome o (λ x. x.now ≡ get_or saved i x.now)
    → MatchOption o (length saved ≤ i) (λ x. (i < length saved) × HoldsAt (λ y. x.now ≡ y) saved i) → option_copied o ≡ slice_get saved i
got_at saved i None is past = sym (slice_get_past saved i past)
got_at saved i (Some x) is within = ap Some is ∙ sym (slice_get-get_or saved i x.now within.0)

pub claims-place-end-requires : goal.claims-place-end-requires
claims-place-end-requires g c =
    let at = active_seat c.args.self.now.sessions c.args.seat (core_of c.args.self.now.state) c.requires.stands.quiet c.requires.session c.requires.active in
    record { session = at.session }

pub loop-place-init : goal.loop-place-init
loop-place-init g c = none_restored g.L.RowLaw.law c.args.self.now c.args.seat c.args.saved.now c.requires.stands c.requires.active

pub restore_at-requires-clause-within : goal.restore_at-requires-clause-within
restore_at-requires-clause-within g c =
    let p = c.args.self.now in
    let at = active_seat p.sessions c.args.seat (core_of p.state) c.requires.stands.quiet c.requires.session c.requires.active in
    let count = claims_count p.sessions c.args.seat (core_of p.state) (lists_view p) at refl in
    let below : c.loop-place.place < length (work_at (lists_view p) c.args.seat).claims = let low = c.loop-place-test.true in let all = c.claims-place-end.ensures in omega (arith, low, all, count) in
    within_so_far g.L.RowLaw.law p c.loop-place.self c.args.seat c.loop-place.place c.args.saved.now c.requires.stands c.requires.session c.requires.active c.loop-place.invariant below

pub restore_at-requires-clause-found : goal.restore_at-requires-clause-found
restore_at-requires-clause-found g c =
    let p = c.args.self.now in
    let at = active_seat p.sessions c.args.seat (core_of p.state) c.requires.stands.quiet c.requires.session c.requires.active in
    let count = claims_count p.sessions c.args.seat (core_of p.state) (lists_view p) at refl in
    let below : c.loop-place.place < length (work_at (lists_view p) c.args.seat).claims = let low = c.loop-place-test.true in let all = c.claims-place-end.ensures in omega (arith, low, all, count) in
    let got = got_at c.args.saved.now c.loop-place.place c.get.result c.get.ensures.lookup.1 c.get.ensures.lookup.3 in
    subst (λ (o : Option VersionWritten). WasFound o (written_of (claim_at ((core_of c.loop-place.self.state).seats c.args.seat).current c.loop-place.place))) (sym got)
    (next_found g.L.RowLaw.law p c.loop-place.self c.args.seat c.loop-place.place c.args.saved.now c.requires.stands c.requires.session c.requires.active c.loop-place.invariant below c.requires.claimed
    c.requires.kept)

pub loop-place-preserved : goal.loop-place-preserved
loop-place-preserved g c =
    let p = c.args.self.now in
    let q = c.loop-place.self in
    let at = active_seat p.sessions c.args.seat (core_of p.state) c.requires.stands.quiet c.requires.session c.requires.active in
    let count = claims_count p.sessions c.args.seat (core_of p.state) (lists_view p) at refl in
    let below : c.loop-place.place < length (work_at (lists_view p) c.args.seat).claims = let low = c.loop-place-test.true in let all = c.claims-place-end.ensures in omega (arith, low, all, count) in
    let got = got_at c.args.saved.now c.loop-place.place c.get.result c.get.ensures.lookup.1 c.get.ensures.lookup.3 in
    next_restored g.L.RowLaw.law p q c.args.seat c.loop-place.place c.args.saved.now c.requires.stands c.requires.session c.requires.active c.loop-place.invariant below c.restore_at.new.self
    c.restore_at.ensures.stands
    (subst (λ (o : Option VersionWritten). Works (lists_view q) c.args.seat
    (with_claim c.loop-place.place (restored_claim o (written_of (claim_at ((core_of q.state).seats c.args.seat).current c.loop-place.place))) (work_at (lists_view q) c.args.seat))
    (lists_view c.restore_at.new.self)) got c.restore_at.ensures.restored)

pub returns-clause-restored : goal.returns-clause-restored
returns-clause-restored g c =
    let p = c.args.self.now in
    let at = active_seat p.sessions c.args.seat (core_of p.state) c.requires.stands.quiet c.requires.session c.requires.active in
    let count = claims_count p.sessions c.args.seat (core_of p.state) (lists_view p) at refl in
    let all : length (work_at (lists_view p) c.args.seat).claims ≤ c.loop-place.place = let last = c.loop-place-test.false in let end = c.claims-place-end.ensures in omega (arith, last, end, count) in
    subst (λ (claims : List VersionWritten). Works (lists_view p) c.args.seat (with_claims claims (work_at (lists_view p) c.args.seat)) (lists_view c.loop-place.self))
    (halfway-all c.args.saved.now (work_at (lists_view p) c.args.seat).claims c.loop-place.place all) c.loop-place.invariant.works
