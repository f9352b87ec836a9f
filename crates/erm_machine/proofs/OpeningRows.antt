-- The rows found at opening, and the number of the first object made, are the same after every step.
use Rattle.std.proofs.Common.{◌≡◌, ℕ, ◌<◌, Bool, true, false, ltb, List, length, max, Option, Some, None, refl, sym, ap, ◌∙◌, arith}
use Rattle.std.specs.Prelude.{if◌then◌else◌}
use Rattle.std.proofs.lemmas.Bool.{ltb-true}
use Rattle.erm_machine.specs.declared.limits.TheConstants.{OBJECT_LIMIT}
use Rattle.erm_machine.specs.declared.event.Counter.{Counter}
use Rattle.erm_machine.specs.declared.event.Counter.TheVariants.{Objects, Cells}
use Rattle.erm_machine.specs.declared.event.Kind.{Kind}
use Rattle.erm_machine.specs.declared.event.Kind.TheVariants as kind
use Rattle.erm_machine.specs.declared.part.Part.{Part}
use Rattle.erm_machine.specs.declared.version.Cell.{Cell}
use Rattle.erm_machine.specs.declared.version.CellWord.TheVariants as word
use Rattle.erm_machine.specs.declared.version.Version.{Version}
use Rattle.erm_machine.specs.Core.{Core, Object, Shared, version_at, with_version}
use Rattle.erm_machine.specs.Seat.{end_of}
use Rattle.erm_machine.specs.Sound.{Sound}
use Rattle.erm_machine.specs.Step.{added, after_event, installed, shared_after, stored, with_counter}
use Rattle.erm_machine.specs.Words.{put, set_word, with_bit, without_bit}
use Rattle.erm_machine.proofs.Frames.{at_cases}
use Rattle.erm_machine.proofs.Objects.{at_push-old, at_word, same_objects}

-- the row of an object's first version
abbrev pub first_row : Object → List ℕ
first_row o = (version_at o 0).words.row

put_row : (f : ℕ → Object) (at : ℕ) (u : Object) → first_row u ≡ first_row (f at) → (oid : ℕ) → first_row (put f at u oid) ≡ first_row (f oid)
put_row f at u e oid = at_cases (λ z. first_row z ≡ first_row (f oid)) f at u oid (λ same. e ∙ ap (λ n. first_row (f n)) (sym same)) (λ _. refl)

word_row : (o : Object) (place : ℕ) (words : Cell) → words.row ≡ (version_at o place).words.row → first_row (with_version o place words) ≡ first_row o
word_row o place words e = at_word (λ (v : Version). v.words.row ≡ first_row o) o place words 0 (λ same. e ∙ ap (λ n. (version_at o n).words.row) (sym same)) refl

installed_row : (head : ℕ) (v : Option Version) (o : Object) → 0 < length o.versions → first_row (installed head v o) ≡ first_row o
installed_row head None o some = refl
installed_row head (Some v) o some = ap (λ (u : Version). u.words.row) (at_push-old head v o 0 some)

-- an object that is installed has a version
abbrev pub HasVersion : Kind → Shared → Type 0
HasVersion (kind.Install oid head) s = 0 < length (s.objects oid).versions
HasVersion _ s = Unit {0}

-- the rows found at opening stay
pub rows_stay : (p : ℕ) (k : Kind) (found : ℕ) (x : Part) (s : Shared) (oid : ℕ) → HasVersion k s → first_row ((shared_after p k found x s).objects oid) ≡ first_row (s.objects oid)
rows_stay p (kind.Claim at seen number) found x s oid h = put_row s.objects at (record (s.objects at) { entry = stored p (kind.Claim at seen number) found }) refl oid
rows_stay p (kind.Install at head) found x s oid h =
    put_row s.objects at (installed head (added head x (end_of x.task)) (s.objects at)) (installed_row head (added head x (end_of x.task)) (s.objects at) h) oid
rows_stay p (kind.SetReader v) found x s oid h =
    put_row s.objects v.oid _ (word_row (s.objects v.oid) v.place (set_word word.Readers (with_bit found p) (version_at (s.objects v.oid) v.place).words) refl) oid
rows_stay p (kind.ClearReader v) found x s oid h =
    put_row s.objects v.oid _ (word_row (s.objects v.oid) v.place (set_word word.Readers (without_bit found p) (version_at (s.objects v.oid) v.place).words) refl) oid
rows_stay p (kind.RaiseReader v value) found x s oid h =
    put_row s.objects v.oid _ (word_row (s.objects v.oid) v.place (set_word word.ReaderStamp (max found value) (version_at (s.objects v.oid) v.place).words) refl) oid
rows_stay p (kind.StoreSucc v value) found x s oid h =
    put_row s.objects v.oid _ (word_row (s.objects v.oid) v.place (set_word word.OverwriterSucc value (version_at (s.objects v.oid) v.place).words) refl) oid
rows_stay p (kind.StoreOverwriter v value) found x s oid h =
    put_row s.objects v.oid _ (word_row (s.objects v.oid) v.place (set_word word.Overwriter value (version_at (s.objects v.oid) v.place).words) refl) oid
rows_stay p (kind.SwapLink v) found x s oid h =
    put_row s.objects v.oid
    (record (with_version (s.objects v.oid) v.place (set_word word.Link 0 (version_at (s.objects v.oid) v.place).words)) { cut = v.place })
    (word_row (s.objects v.oid) v.place (set_word word.Link 0 (version_at (s.objects v.oid) v.place).words) refl) oid
rows_stay p k found x s oid h = ap (λ (f : ℕ → Object). first_row (f oid)) (same_objects p k found x s tt)

-- the opening's first number stays
counter_first : (c : Counter) (n : ℕ) (s : Shared) → (with_counter c n s).first ≡ s.first
counter_first Objects n s = refl
counter_first Cells n s = refl

pub first_stays : (p : ℕ) (k : Kind) (found : ℕ) (x : Part) (s : Shared) → (shared_after p k found x s).first ≡ s.first
first_stays p (kind.AddCounter counter) found x s = counter_first counter _ s
first_stays p _ found x s = refl

known_from : (b : Bool) (o : Option Core) (d : Core) → (if b then o else None) ≡ Some d → b ≡ true
known_from true o d e = refl
known_from false o d e = absurd (cc)

pub installs_version : (c : Core) (p oid head : ℕ) (d : Core) → Sound c → after_event c p (kind.Install oid head) ≡ Some d → 0 < length (c.shared.objects oid).versions
installs_version c p oid head d sound e =
    let attached = (sound.common.chains.linked oid (ltb-true oid OBJECT_LIMIT (known_from (ltb oid OBJECT_LIMIT) _ d e))).attached in omega (arith, attached)
