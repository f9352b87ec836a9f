use Rattle.std.proofs.Common.{◌≡◌, ◌≤◌, ◌<◌, ℕ, add-one, false, List, [], Option, Some, None, Bor, MatchOption, IfSome, get_or, length, ap, sym, ◌∙◌, arith}
use Rattle.std.specs.Option.{option_copied}
use Rattle.std.specs.List.{HoldsAt, slice_get}
use Rattle.std.proofs.lemmas.Option.{slice_get-get_or, slice_get_past}
use Rattle.erm_model.specs.declared.history.VersionWritten.{VersionWritten}
use Rattle.erm_map_world.specs.MapWorks.{restored_claim}
use Rattle.erm_world.proofs.Halfway.{halfway-at, halfway-none}
use Rattle.erm_map_world.proofs.MapSaves.{restored_next}
use Rattle.erm_map_world.proofs.works.restore.Goals as goal

saved_there : (saved : List VersionWritten) (i : ℕ) (o : Option (Bor VersionWritten)) → IfSome o (λ x. x.now ≡ get_or saved i x.now)
    → MatchOption o (length saved ≤ i) (λ x. (i < length saved) × HoldsAt (λ y. x.now ≡ y) saved i) → option_copied o ≡ slice_get saved i
saved_there saved i None is past = sym (slice_get_past saved i past)
saved_there saved i (Some x) is within = ap Some is ∙ sym (slice_get-get_or saved i x.now within.0)

pub loop-i-init : goal.loop-i-init
loop-i-init c = c.deref_mut-c-items.ensures.value ∙ sym (halfway-none c.args.saved.now c.args.claims.now.items)

pub loop-i-preserved : goal.loop-i-preserved
loop-i-preserved c =
    let i = c.loop-i.i in
    let saved = c.args.saved.now in
    let claims = c.args.claims.now.items in
    let none : VersionWritten = record { oid = 0; stamp = 0; base = []; row = []; is_set = false } in
    let kept = saved_there saved i c.get.result c.get.ensures.lookup.1 c.get.ensures.lookup.3 in
    let there : get_or c.loop-i.c-items i none ≡ get_or claims i none = ap (λ (now : List VersionWritten). get_or now i none) c.loop-i.invariant ∙ halfway-at saved claims i none in
    let within : i < length claims = let below = c.loop-i-test.true in let all = ap length c.deref_mut-c-items.ensures.value in omega (arith, below, all) in
    let went : c.restore_one.new.claim ≡ restored_claim (slice_get saved i) (get_or claims i none) = rw (← kept, ← there) c.restore_one.ensures in
    rw (went, c.loop-i.invariant, add-one) (restored_next saved claims i none within)
