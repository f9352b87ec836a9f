-- What a step leaves of objects: versions stay, with their stamps, rows and cells, and at most one is added.
use Rattle.std.proofs.Common.{◌≡◌, ℕ, ◌+◌, ◌<◌, ◌≤◌, ⊎_elim, [], ◌∷◌, length, set, get_or, max, Option, Some, None, refl, sym, ap, ◌∙◌, subst, arith, length-set, get_or-set_same, get_or-set_other}
use Rattle.std.proofs.lemmas.Bool.{cases_eq, cases_lt}
use Rattle.std.proofs.lemmas.List.{get_or_past, length_push, get_or_push, get_or_append_left}
use Rattle.erm_machine.specs.declared.event.Counter.{Counter}
use Rattle.erm_machine.specs.declared.event.Counter.TheVariants.{Objects, Cells}
use Rattle.erm_machine.specs.declared.event.Kind.{Kind}
use Rattle.erm_machine.specs.declared.event.Kind.TheVariants as kind
use Rattle.erm_machine.specs.declared.part.Part.{Part}
use Rattle.erm_machine.specs.declared.version.Cell.{Cell}
use Rattle.erm_machine.specs.declared.version.CellWord.{CellWord}
use Rattle.erm_machine.specs.declared.version.CellWord.TheVariants as word
use Rattle.erm_machine.specs.declared.version.Version.{Version}
use Rattle.erm_machine.specs.Core.{Object, Shared, no_version, version_at, with_version}
use Rattle.erm_machine.specs.Seat.{end_of}
use Rattle.erm_machine.specs.Step.{stored, installed, added, with_counter, shared_after}
use Rattle.erm_machine.specs.Words.{put, set_word, with_bit, without_bit}
use Rattle.erm_machine.proofs.Frames.{at_cases}

-- a version of an object of which one version's words are changed: the changed one at that place, and else the old one
pub at_word : (P : Version → Type 0) (o : Object) (place : ℕ) (words : Cell) (k : ℕ)
    → (k ≡ place → P (record (version_at o place) { words = words })) → P (version_at o k) → P (version_at (with_version o place words) k)
at_word P o place words k here there =
    ⊎_elim
    (λ (same : k ≡ place).
    ⊎_elim
    (λ (within : place < length o.versions). subst P (sym (ap (λ n. get_or (set o.versions place (record (version_at o place) { words = words })) n no_version) same
    ∙ get_or-set_same o.versions place (record (version_at o place) { words = words }) no_version within)) (here same))
    (λ (past : length o.versions ≤ place).
    let low : length o.versions ≤ k = omega (arith, past, same) in
    let low_too : length (set o.versions place (record (version_at o place) { words = words })) ≤ k = let n = length-set o.versions place (record (version_at o place) { words = words }) in omega (arith, low, n) in
    subst P (get_or_past o.versions k no_version low ∙ sym (get_or_past (set o.versions place (record (version_at o place) { words = words })) k no_version low_too)) there)
    (cases_lt place (length o.versions)))
    (λ (other : k ≡ place → ⊥). subst P (sym (get_or-set_other o.versions place k (record (version_at o place) { words = words }) no_version other)) there)
    (cases_eq k place)

-- an object with one more version
pub at_push-old : (head : ℕ) (v : Version) (o : Object) (k : ℕ) → k < length o.versions → version_at (installed head (Some v) o) k ≡ version_at o k
at_push-old head v o k within = get_or_append_left o.versions (v ∷ []) no_version k within

pub at_push-new : (head : ℕ) (v : Version) (o : Object) (k : ℕ) → k ≡ length o.versions → version_at (installed head (Some v) o) k ≡ v
at_push-new head v o k e = get_or_push o.versions v no_version k (sym e)

pub length_installed : (head : ℕ) (v : Version) (o : Object) → length (installed head (Some v) o).versions ≡ length o.versions + 1
length_installed head v o = length_push o.versions v

-- the versions stay, with their stamps, rows and cells
pub record Extends (o u : Object) : Type 0 where
  pub grows : length o.versions ≤ length u.versions
  pub stamp : (k : ℕ) → k < length o.versions → (version_at u k).words.stamp ≡ (version_at o k).words.stamp
  pub row : (k : ℕ) → k < length o.versions → (version_at u k).words.row ≡ (version_at o k).words.row
  pub cell : (k : ℕ) → k < length o.versions → (version_at u k).cell ≡ (version_at o k).cell

pub extends_refl : (o : Object) → Extends o o
extends_refl o = record { grows = omega arith; stamp = λ k w. refl; row = λ k w. refl; cell = λ k w. refl }

-- words that a step changes in an installed version: none of them is its stamp or its row
abbrev pub Stays : CellWord → Type 0
Stays word.Stamp = ⊥
Stays (word.Row k) = ⊥
Stays _ = Unit {0}

stays_stamp : (w : CellWord) (value : ℕ) (c : Cell) → Stays w → (set_word w value c).stamp ≡ c.stamp
stays_stamp word.Stamp value c s = absurd s
stays_stamp (word.Row k) value c s = absurd s
stays_stamp _ value c s = refl

stays_row : (w : CellWord) (value : ℕ) (c : Cell) → Stays w → (set_word w value c).row ≡ c.row
stays_row word.Stamp value c s = absurd s
stays_row (word.Row k) value c s = absurd s
stays_row _ value c s = refl

pub extends_word : (o : Object) (place : ℕ) (w : CellWord) (value : ℕ) → Stays w → Extends o (with_version o place (set_word w value (version_at o place).words))
extends_word o place w value stays =
    let words = set_word w value (version_at o place).words in
    record {
      grows = let n = length-set o.versions place (record (version_at o place) { words = words }) in omega (arith, n);
      stamp = λ k _. at_word (λ v. v.words.stamp ≡ (version_at o k).words.stamp) o place words k
          (λ same. stays_stamp w value (version_at o place).words stays ∙ ap (λ n. (version_at o n).words.stamp) (sym same)) refl;
      row = λ k _. at_word (λ v. v.words.row ≡ (version_at o k).words.row) o place words k
          (λ same. stays_row w value (version_at o place).words stays ∙ ap (λ n. (version_at o n).words.row) (sym same)) refl;
      cell = λ k _. at_word (λ v. v.cell ≡ (version_at o k).cell) o place words k (λ same. ap (λ n. (version_at o n).cell) (sym same)) refl;
    }

pub extends_installed : (head : ℕ) (v : Option Version) (o : Object) → Extends o (installed head v o)
extends_installed head None o = record { grows = omega arith; stamp = λ k w. refl; row = λ k w. refl; cell = λ k w. refl }
extends_installed head (Some v) o = record {
  grows = let n = length_installed head v o in omega (arith, n);
  stamp = λ k w. ap (λ (u : Version). u.words.stamp) (at_push-old head v o k w);
  row = λ k w. ap (λ (u : Version). u.words.row) (at_push-old head v o k w);
  cell = λ k w. ap (λ (u : Version). u.cell) (at_push-old head v o k w);
}

-- the objects with one of them changed
pub extends_put : (f : ℕ → Object) (at : ℕ) (u : Object) → Extends (f at) u → (oid : ℕ) → Extends (f oid) (put f at u oid)
extends_put f at u e oid = at_cases (λ z. Extends (f oid) z) f at u oid (λ same. subst (λ n. Extends (f n) u) (sym same) e) (λ _. extends_refl (f oid))

-- kinds that change no object
abbrev pub KeepsObjects : Kind → Type 0
KeepsObjects (kind.Claim oid seen number) = ⊥
KeepsObjects (kind.Install oid head) = ⊥
KeepsObjects (kind.SetReader v) = ⊥
KeepsObjects (kind.ClearReader v) = ⊥
KeepsObjects (kind.RaiseReader v value) = ⊥
KeepsObjects (kind.StoreSucc v value) = ⊥
KeepsObjects (kind.StoreOverwriter v value) = ⊥
KeepsObjects (kind.SwapLink v) = ⊥
KeepsObjects _ = Unit {0}

counter_keeps : (c : Counter) (n : ℕ) (s : Shared) → (with_counter c n s).objects ≡ s.objects
counter_keeps Objects n s = refl
counter_keeps Cells n s = refl

pub same_objects : (p : ℕ) (k : Kind) (found : ℕ) (x : Part) (s : Shared) → KeepsObjects k → (shared_after p k found x s).objects ≡ s.objects
same_objects p (kind.Claim oid seen number) found x s q = absurd q
same_objects p (kind.Install oid head) found x s q = absurd q
same_objects p (kind.SetReader v) found x s q = absurd q
same_objects p (kind.ClearReader v) found x s q = absurd q
same_objects p (kind.RaiseReader v value) found x s q = absurd q
same_objects p (kind.StoreSucc v value) found x s q = absurd q
same_objects p (kind.StoreOverwriter v value) found x s q = absurd q
same_objects p (kind.SwapLink v) found x s q = absurd q
same_objects p (kind.AddCounter counter) found x s q = counter_keeps counter _ s
same_objects p _ found x s q = refl

-- each step leaves the versions that there are
pub extends : (p : ℕ) (k : Kind) (found : ℕ) (x : Part) (s : Shared) (oid : ℕ) → Extends (s.objects oid) ((shared_after p k found x s).objects oid)
extends p (kind.Claim at seen number) found x s oid =
    extends_put s.objects at (record (s.objects at) { entry = stored p (kind.Claim at seen number) found }) (record { grows = omega arith; stamp = λ k w. refl; row = λ k w. refl; cell = λ k w. refl }) oid
extends p (kind.Install at head) found x s oid =
    extends_put s.objects at (installed head (added head x (end_of x.task)) (s.objects at)) (extends_installed head (added head x (end_of x.task)) (s.objects at)) oid
extends p (kind.SetReader v) found x s oid = extends_put s.objects v.oid _ (extends_word (s.objects v.oid) v.place word.Readers (with_bit found p) tt) oid
extends p (kind.ClearReader v) found x s oid = extends_put s.objects v.oid _ (extends_word (s.objects v.oid) v.place word.Readers (without_bit found p) tt) oid
extends p (kind.RaiseReader v value) found x s oid = extends_put s.objects v.oid _ (extends_word (s.objects v.oid) v.place word.ReaderStamp (max found value) tt) oid
extends p (kind.StoreSucc v value) found x s oid = extends_put s.objects v.oid _ (extends_word (s.objects v.oid) v.place word.OverwriterSucc value tt) oid
extends p (kind.StoreOverwriter v value) found x s oid = extends_put s.objects v.oid _ (extends_word (s.objects v.oid) v.place word.Overwriter value tt) oid
extends p (kind.SwapLink v) found x s oid =
    let e = extends_word (s.objects v.oid) v.place word.Link 0 tt in
    extends_put s.objects v.oid _ (record { grows = e.grows; stamp = e.stamp; row = e.row; cell = e.cell }) oid
extends p k found x s oid = subst (λ (f : ℕ → Object). Extends (s.objects oid) (f oid)) (sym (same_objects p k found x s tt)) (extends_refl (s.objects oid))
