-- What each step but a successor stamp's leaves of objects, and that an install's version is new.
use Rattle.std.proofs.Common.{◌≡◌, ℕ, ◌+◌, ◌<◌, length, Option, Some, None, refl, sym, ap, ◌∙◌, subst, arith}
use Rattle.erm_machine.specs.declared.event.Kind.{Kind}
use Rattle.erm_machine.specs.declared.event.Kind.TheVariants as kind
use Rattle.erm_machine.specs.declared.part.Part.{Part}
use Rattle.erm_machine.specs.declared.version.CellWord.TheVariants as word
use Rattle.erm_machine.specs.declared.version.Cell.{Cell}
use Rattle.erm_machine.specs.declared.version.Version.{Version}
use Rattle.erm_machine.specs.Core.{Object, Shared, version_at, with_version, newest}
use Rattle.erm_machine.specs.Seat.{end_of}
use Rattle.erm_machine.specs.Step.{installed, added, shared_after}
use Rattle.erm_machine.specs.Words.{put, set_word}
use Rattle.erm_machine.proofs.Versions.{AddsNone, as_many}
use Rattle.erm_machine.proofs.Frames.{at_cases}
use Rattle.erm_machine.proofs.Objects.{extends, extends_refl, at_word, at_push-old, same_objects}
use Rattle.erm_core_ssn.proofs.MarksSteps.{Grown, Made}

pub made_none : (p : ℕ) (k : Kind) (found : ℕ) (x : Part) (s : Shared) (seats : ℕ → Part) → AddsNone k → Made s (shared_after p k found x s) seats
made_none p k found x s seats none = record {
  made = λ oid place known late within. absurd (let e = as_many p k found x s oid none in omega (arith, late, within, e));
}

pub made_refl : (s : Shared) (seats : ℕ → Part) → Made s s seats
made_refl s seats = record { made = λ oid place known late within. absurd (omega (arith, late, within)) }

pub grown_refl : (s : Shared) → Grown s s
grown_refl s = record { extends = λ oid. extends_refl (s.objects oid); succ = λ oid place within. refl }

-- one object is changed
pub succ_put : (f : ℕ → Object) (at : ℕ) (u : Object)
    → ((k : ℕ) → k + 1 < length (f at).versions → (version_at u k).words.overwriter_succ ≡ (version_at (f at) k).words.overwriter_succ)
    → (oid k : ℕ) → k + 1 < length (f oid).versions → (version_at (put f at u oid) k).words.overwriter_succ ≡ (version_at (f oid) k).words.overwriter_succ
succ_put f at u here oid k =
    at_cases (λ z. k + 1 < length (f oid).versions → (version_at z k).words.overwriter_succ ≡ (version_at (f oid) k).words.overwriter_succ) f at u oid
    (λ same. subst (λ n. k + 1 < length (f n).versions → (version_at u k).words.overwriter_succ ≡ (version_at (f n) k).words.overwriter_succ) (sym same) (here k))
    (λ _ _. refl)

-- a word of one version is changed, of which the successor stamp is none; it is the newest
succ_words : (o : Object) (place : ℕ) (words : Cell) → words.overwriter_succ ≡ (version_at o place).words.overwriter_succ → (k : ℕ)
    → (version_at (with_version o place words) k).words.overwriter_succ ≡ (version_at o k).words.overwriter_succ
succ_words o place words e k =
    at_word (λ v. v.words.overwriter_succ ≡ (version_at o k).words.overwriter_succ) o place words k
    (λ same. e ∙ ap (λ n. (version_at o n).words.overwriter_succ) (sym same)) refl

pub succ_newest : (o : Object) (place : ℕ) (words : Cell) → place ≡ newest o → (k : ℕ) → k + 1 < length o.versions
    → (version_at (with_version o place words) k).words.overwriter_succ ≡ (version_at o k).words.overwriter_succ
succ_newest o place words e k within =
    at_word (λ v. v.words.overwriter_succ ≡ (version_at o k).words.overwriter_succ) o place words k
    (λ same. absurd (omega (arith, same, e, within))) refl

succ_installed : (head : ℕ) (v : Option Version) (o : Object) (k : ℕ) → k + 1 < length o.versions
    → (version_at (installed head v o) k).words.overwriter_succ ≡ (version_at o k).words.overwriter_succ
succ_installed head None o k within = refl
succ_installed head (Some v) o k within = ap (λ (z : Version). z.words.overwriter_succ) (at_push-old head v o k (omega (arith, within)))

-- kinds that store no successor stamp
abbrev pub StoresNone : Kind → Type 0
StoresNone (kind.StoreSucc v value) = ⊥
StoresNone _ = Unit {0}

succ_kind : (p : ℕ) (k : Kind) (found : ℕ) (x : Part) (s : Shared) → StoresNone k → (oid place : ℕ) → place + 1 < length (s.objects oid).versions
    → (version_at ((shared_after p k found x s).objects oid) place).words.overwriter_succ ≡ (version_at (s.objects oid) place).words.overwriter_succ
succ_kind p (kind.StoreSucc v value) found x s none oid place within = absurd none
succ_kind p (kind.Install at head) found x s none oid place within =
    succ_put s.objects at _ (succ_installed head (added head x (end_of x.task)) (s.objects at)) oid place within
succ_kind p (kind.Claim at seen number) found x s none oid place within = succ_put s.objects at _ (λ k _. refl) oid place within
succ_kind p (kind.SetReader v) found x s none oid place within = succ_put s.objects v.oid _ (λ k _. succ_words (s.objects v.oid) v.place _ refl k) oid place within
succ_kind p (kind.ClearReader v) found x s none oid place within = succ_put s.objects v.oid _ (λ k _. succ_words (s.objects v.oid) v.place _ refl k) oid place within
succ_kind p (kind.RaiseReader v value) found x s none oid place within = succ_put s.objects v.oid _ (λ k _. succ_words (s.objects v.oid) v.place _ refl k) oid place within
succ_kind p (kind.StoreOverwriter v value) found x s none oid place within = succ_put s.objects v.oid _ (λ k _. succ_words (s.objects v.oid) v.place _ refl k) oid place within
succ_kind p (kind.SwapLink v) found x s none oid place within =
    succ_put s.objects v.oid _ (λ k _. succ_words (s.objects v.oid) v.place (set_word word.Link 0 (version_at (s.objects v.oid) v.place).words) refl k) oid place within
succ_kind p k found x s none oid place within =
    ap (λ (f : ℕ → Object). (version_at (f oid) place).words.overwriter_succ) (same_objects p k found x s tt)

pub grown_kind : (p : ℕ) (k : Kind) (found : ℕ) (x : Part) (s : Shared) → StoresNone k → Grown s (shared_after p k found x s)
grown_kind p k found x s none = record { extends = extends p k found x s; succ = succ_kind p k found x s none }
