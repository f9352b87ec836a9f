-- The swap of a link leaves all stamps, so the newest version below a bound stays the newest.
use Rattle.std.proofs.Common.{◌≡◌, ℕ, refl, sym, ap, arith}
use Rattle.erm_machine.specs.declared.version.CellWord.TheVariants as word
use Rattle.erm_machine.specs.Core.{Object, version_at, with_version}
use Rattle.erm_machine.specs.Snapshot.{NewerFrom}
use Rattle.erm_machine.specs.Words.{set_word}
use Rattle.erm_machine.proofs.Objects.{at_word}
use Rattle.erm_core_cells.proofs.ChainsFrames.{long_word}

-- the object whose chain is cut behind the version at a place
abbrev pub cut_behind : Object → ℕ → Object
cut_behind o place = record (with_version o place (set_word word.Link 0 (version_at o place).words)) { cut = place }

pub stamp_stays : (o : Object) (place k : ℕ) → (version_at (cut_behind o place) k).words.stamp ≡ (version_at o k).words.stamp
stamp_stays o place k =
    at_word (λ v. v.words.stamp ≡ (version_at o k).words.stamp) o place (set_word word.Link 0 (version_at o place).words) k (λ same. ap (λ n. (version_at o n).words.stamp) (sym same)) refl

pub newer_stays : (o : Object) (place bound : ℕ) → NewerFrom o place bound → NewerFrom (cut_behind o place) place bound
newer_stays o place bound newer k above below =
    let long = long_word o place (set_word word.Link 0 (version_at o place).words) in
    let old = newer k above (omega (arith, below, long)) in
    let same = stamp_stays o place k in
    omega (arith, old, same)
