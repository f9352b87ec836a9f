-- The steps of a claim up to its cut, and how many cells that cut made spare ones.
use Rattle.std.proofs.Common.{◌≡◌, ℕ, ◌+◌, ◌<◌, ◌≤◌, ⊎_elim, true, List, [], ◌∷◌, length, ap, ◌∙◌, arith}
use Rattle.std.proofs.lemmas.List.{length-append}
use Rattle.erm_model.specs.declared.limits.TheConstants.{TABLE_CELLS}
use Rattle.erm_model.specs.RowTransaction.{Law}
use Rattle.erm_machine.specs.declared.attempt.OwnCell.{OwnCell}
use Rattle.erm_machine.specs.declared.event.Kind.TheVariants as kind
use Rattle.erm_machine.specs.declared.limits.TheConstants.{ANNOUNCERS}
use Rattle.erm_machine.specs.declared.part.Part.{Part}
use Rattle.erm_machine.specs.declared.version.CellWord.TheVariants as word
use Rattle.erm_machine.specs.Core.{Core}
use Rattle.erm_machine.specs.Sound.{Sound}
use Rattle.erm_machine.specs.Words.{is_seat}
use Rattle.erm_cut.proofs.Took.{cut_still, horizon_loads_alone}
use Rattle.erm_rows.specs.Claims.{DidCutChain, tidied_part}
use Rattle.erm_rows.specs.Tidies.{TookTidy}
use Rattle.erm_rows.specs.Took.{TookClaim, TookCutChain, TookEntry, TookFree}
use Rattle.erm_rule.specs.declared.view.Book.{Book}
use Rattle.erm_rule.specs.Views.{part_of}
use Rattle.erm_rule.specs.Went.{IsLoadStep, IsStillStep, Went, core_of}
use Rattle.erm_rule.proofs.Allowed.{of_seat}
use Rattle.erm_rule.proofs.Wents.{loads_still, went_more, went_step}
use Rattle.erm_session.specs.Calls.{IsUnclaimed}
use Rattle.erm_session.specs.Took.{TookAnyClaim, TookAnyTidy}
use Rattle.erm_table_world.specs.Stands.{IsStateful}
use Rattle.erm_table_world.proofs.Still.{went_ran}
use Rattle.erm_table_world.proofs.Wholly.{part_set, runs}

-- in a sound state a seat has no more spare cells than there are cells
abbrev pub SparesFit : Type 0
SparesFit = (c : Core) (p : ℕ) → Sound c → c.shared.cell_limit ≡ TABLE_CELLS → p < ANNOUNCERS → length (c.seats p).spare ≤ TABLE_CELLS

free_loads : (law : Law) (who oid entry : ℕ) (b e : Book) → TookFree law who oid entry b e → Went law who IsLoadStep b e
free_loads law who oid entry b e took = record {
  steps = (kind.LoadCell took.head.version word.Stamp, took.stamp) ∷ (kind.LoadEntry oid, entry) ∷ [];
  took = took.head.took;
  all = (tt, (tt, tt));
}

pub entry_went : (law : Law) (who oid head : ℕ) (b e : Book) → TookEntry law who oid head b e → Went law who IsStillStep b e
entry_went law who oid head b e took =
    went_step law who IsStillStep b took.at e (kind.Claim oid took.entry took.number) took.entry
    (loads_still law who b took.at (free_loads law who oid took.entry b took.at took.free)) tt took.step

pub cut_went : (law : Law) (who count : ℕ) (b e : Book) → TookCutChain law who count b e → Went law who IsStillStep b e
cut_went law who count b e took =
    went_more law who IsStillStep b took.at e (loads_still law who b took.at (horizon_loads_alone law who ANNOUNCERS took.horizon b took.at took.found))
    (cut_still law who count took.at e took.cut)

-- the cells that were cut off are among the seat's spare ones
pub cut_few : (fit : SparesFit) (law : Law) (who count : ℕ) (b e : Book) → IsStateful law b → IsStateful law e → is_seat who ≡ true → DidCutChain b.view who count e.view → count ≤ TABLE_CELLS
cut_few fit law who count b e before after seat did =
    let cut : List OwnCell = did.done.cut in
    let set : (core_of e).seats who ≡ tidied_part did.found.tail cut (part_of b.view who) =
    part_set law b e who (tidied_part did.found.tail cut (part_of b.view who)) before after seat did.view_is
    in
    let long : length ((core_of e).seats who).spare ≡ length (part_of b.view who).spare + length cut =
    ap (λ (x : Part). length x.spare) set ∙ length-append (part_of b.view who).spare cut
    in
    let few = fit (core_of e) who after.sound.sound after.limit (of_seat who seat) in
    let is = did.done.count_is in
    omega (arith, long, few, is)

pub claim_few : (fit : SparesFit) (law : Law) (who oid count : ℕ) (b e : Book) → IsStateful law b → is_seat who ≡ true → TookClaim law who oid count b e → count ≤ TABLE_CELLS
claim_few fit law who oid count b e state seat took =
    let taken = (went_ran law 0 who IsStillStep b took.taken (entry_went law who oid took.head b took.taken took.entry) state).state in
    let tidied = (went_ran law 0 who IsStillStep took.taken took.tidied (cut_went law who count took.taken took.tidied took.cut) taken).state in
    cut_few fit law who count took.taken took.tidied taken tidied seat took.cut.did

tidy_few : (fit : SparesFit) (law : Law) (who oid count : ℕ) (b e : Book) → IsStateful law b → IsStateful law e → is_seat who ≡ true → TookTidy law who oid count b e → count ≤ TABLE_CELLS
tidy_few fit law who oid count b e state after seat took =
    let one = runs law b who (kind.LoadEntry oid) took.entry took.at took.step state in
    cut_few fit law who count took.at e one.state after seat took.cut.did

-- how many cells a call's cut made spare ones
pub any_few : (fit : SparesFit) (law : Law) (who oid count : ℕ) (b e : Book) → IsStateful law b → IsStateful law e → is_seat who ≡ true → TookAnyTidy law who oid count b e → count ≤ TABLE_CELLS
any_few fit law who oid count b e state after seat took =
    ⊎_elim (λ (t : TookTidy law who oid count b e). tidy_few fit law who oid count b e state after seat t)
    (λ (t : IsUnclaimed (part_of b.view who) oid × TookAnyClaim law who oid count b e).
    ⊎_elim (λ (none : (count ≡ 0) × (e ≡ b)). let n = none.0 in omega (arith, n)) (λ (s : TookClaim law who oid count b e). claim_few fit law who oid count b e state seat s) t.1)
    took
