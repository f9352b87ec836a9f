-- Loads of words: what each of them is, and what it leaves.
use Rattle.std.proofs.Common.{◌≡◌, ℕ, Some, refl, ap, ◌∙◌}
use Rattle.erm_core.specs.declared.need.Need.{Need}
use Rattle.erm_core.specs.declared.need.Need.TheVariants as need
use Rattle.erm_core.specs.Rooms.{AddsNothing, IsOfNone, LeavesChain, LeavesNeed, ranges_in}
use Rattle.erm_core_steps.specs.Reads.{IsLoad}
use Rattle.erm_core_steps.specs.Steps.{IsFree, IsUnpromised, LoadsWord, found_in}
use Rattle.erm_core_view.proofs.Moved.{meets_one}
use Rattle.erm_core_view.specs.Steps.{IsCalm, MeetsOne, drawn_by, flushed_by}
use Rattle.erm_machine.proofs.QuietKinds.{moves}
use Rattle.erm_machine.specs.Core.{Core, Shared, spot_of, word_at}
use Rattle.erm_machine.specs.Step.{after_event, shared_after, told}
use Rattle.erm_machine.specs.declared.event.Kind.{Kind}
use Rattle.erm_machine.specs.declared.event.Kind.TheVariants as kind
use Rattle.erm_machine.specs.declared.part.Part.{Part}
use Rattle.erm_machine.specs.declared.task.Task.{Task}

-- It meets one word, which it tells, doesn't show, and needs no room.
pub record Loads (k : Kind) : Type 0 where
  pub one : MeetsOne k
  pub calm : (u : Task) → IsCalm k u
  pub unpromised : IsUnpromised k
  pub ranges : ranges_in k ≡ 0
  pub none : IsOfNone k
  pub drawn : drawn_by k ≡ 0
  pub flushed : (n : ℕ) → flushed_by k n ≡ n
  pub adds : AddsNothing k
  pub chain : (oid : ℕ) → LeavesChain k oid
  pub tells : (n : ℕ) → found_in (told k n) ≡ n

pub loads : (k : Kind) → IsLoad k → Loads k
loads (kind.LoadState other bound) e = record {
  one = tt;
  calm = λ u. tt;
  unpromised = tt;
  ranges = refl;
  none = tt;
  drawn = refl;
  flushed = λ n. refl;
  adds = tt;
  chain = λ oid. record { versions = refl; cut = tt };
  tells = λ n. refl;
}
loads (kind.LoadEntry n) e = record {
  one = tt;
  calm = λ u. tt;
  unpromised = tt;
  ranges = refl;
  none = tt;
  drawn = refl;
  flushed = λ n. refl;
  adds = tt;
  chain = λ oid. record { versions = refl; cut = tt };
  tells = λ n. refl;
}
loads (kind.LoadCell v w) e = record {
  one = tt;
  calm = λ u. tt;
  unpromised = tt;
  ranges = refl;
  none = tt;
  drawn = refl;
  flushed = λ n. refl;
  adds = tt;
  chain = λ oid. record { versions = refl; cut = tt };
  tells = λ n. refl;
}
loads (kind.LoadStamp v w) e = record {
  one = tt;
  calm = λ u. tt;
  unpromised = tt;
  ranges = refl;
  none = tt;
  drawn = refl;
  flushed = λ n. refl;
  adds = tt;
  chain = λ oid. record { versions = refl; cut = tt };
  tells = λ n. refl;
}
loads (kind.LoadReaders v) e = record {
  one = tt;
  calm = λ u. tt;
  unpromised = tt;
  ranges = refl;
  none = tt;
  drawn = refl;
  flushed = λ n. refl;
  adds = tt;
  chain = λ oid. record { versions = refl; cut = tt };
  tells = λ n. refl;
}
loads _ e = absurd e

pub loads_word : (k : Kind) → IsLoad k → LoadsWord k
loads_word (kind.LoadState other bound) e = tt
loads_word (kind.LoadEntry oid) e = tt
loads_word (kind.LoadCell v w) e = tt
loads_word (kind.LoadStamp v w) e = tt
loads_word (kind.LoadReaders v) e = tt
loads_word _ e = absurd e

pub load_free : (k : Kind) → IsLoad k → IsFree k
load_free k e = let l = loads k e in record { one = l.unpromised; ranges = l.ranges; none = l.none }

pub load_leaves : (k : Kind) (n : Need) → IsLoad k → LeavesNeed k n
load_leaves k (need.Claim oid) e = (loads k e).chain oid
load_leaves k _ e = tt

-- nothing that is shared changes
pub word_leaves : (seat : ℕ) (k : Kind) (found : ℕ) (x : Part) (s : Shared) → LoadsWord k → shared_after seat k found x s ≡ s
word_leaves seat (kind.LoadTail purpose) found x s e = refl
word_leaves seat (kind.LoadBegin other) found x s e = refl
word_leaves seat (kind.LoadState other bound) found x s e = refl
word_leaves seat (kind.LoadEntry oid) found x s e = refl
word_leaves seat (kind.LoadCell v w) found x s e = refl
word_leaves seat (kind.LoadCounter counter) found x s e = refl
word_leaves seat (kind.LoadReaders v) found x s e = refl
word_leaves seat (kind.LoadStamp v w) found x s e = refl
word_leaves seat (kind.LoadRing at) found x s e = refl
word_leaves seat kind.LoadFlushed found x s e = refl
word_leaves seat (kind.LoadDetached v) found x s e = refl
word_leaves seat (kind.LoadBack other) found x s e = refl
word_leaves seat _ found x s e = absurd e

pub load_shared : (c d : Core) (seat : ℕ) (k : Kind) → IsLoad k → after_event c seat k ≡ Some d → d.shared ≡ c.shared
load_shared c d seat k e after =
    let m = moves c seat k d (meets_one k (loads k e).one) after in
    ap (λ (to : Core). to.shared) m.is ∙ word_leaves seat k (word_at c (spot_of seat k)) (c.seats seat) c.shared (loads_word k e)
