-- What each step leaves of the words of readers.
use Rattle.std.proofs.Common.{◌≡◌, ℕ, ◌<◌, ◌≤◌, Bool, true, false, length, Option, Some, None, refl, sym, ap, ◌∙◌, subst, inl, arith, length-set}
use Rattle.std.specs.Prelude.{if◌then◌else◌}
use Rattle.std.specs.Int.{bit_at}
use Rattle.std.proofs.lemmas.Bool.{and_parts, eqb-true, ltb-true}
use Rattle.erm_machine.specs.declared.event.Kind.{Kind}
use Rattle.erm_machine.specs.declared.event.Kind.TheVariants as kind
use Rattle.erm_machine.specs.declared.part.Part.{Part}
use Rattle.erm_machine.specs.declared.task.Task.{Task}
use Rattle.erm_machine.specs.declared.task.Task.TheVariants as task
use Rattle.erm_machine.specs.declared.version.Cell.{Cell}
use Rattle.erm_machine.specs.declared.version.CellWord.{CellWord}
use Rattle.erm_machine.specs.declared.version.CellWord.TheVariants as word
use Rattle.erm_machine.specs.declared.version.Version.{Version}
use Rattle.erm_machine.specs.Core.{Core, Object, Shared, version_at, with_version, claim_at, own_words}
use Rattle.erm_machine.specs.Seat.{end_of}
use Rattle.erm_machine.specs.Settling.{install, install_claim, install_new, release_old, adds_version}
use Rattle.erm_machine.specs.Sound.{Sound}
use Rattle.erm_machine.specs.Step.{installed, added, shared_after}
use Rattle.erm_machine.specs.Words.{put, set_word}
use Rattle.erm_machine.proofs.Versions.{at_last, branch_true}
use Rattle.erm_machine.proofs.Frames.{at_cases}
use Rattle.erm_machine.proofs.Guards.{when_then}
use Rattle.erm_machine.proofs.Objects.{Extends, extends, at_word, at_push-old, at_push-new, length_installed, same_objects}
use Rattle.erm_core_ssn.proofs.ReadersSteps.{IsUnread, Grown, Bits}

-- a relation of objects of which one is changed
pub put_related : (R : ℕ → Object → Object → Type 0) → ((n : ℕ) (o : Object) → R n o o) → (f : ℕ → Object) (at : ℕ) (u : Object) → R at (f at) u → (oid : ℕ) → R oid (f oid) (put f at u oid)
put_related R same f at u r oid = at_cases (λ z. R oid (f oid) z) f at u oid (λ is. subst (λ n. R n (f n) u) (sym is) r) (λ _. same oid (f oid))

-- the words of readers stay, and a new version has none
pub record Gentle (o u : Object) : Type 0 where
  pub readers : (k : ℕ) → k < length o.versions → (version_at u k).words.readers ≡ (version_at o k).words.readers
  pub reader_stamp : (k : ℕ) → k < length o.versions → (version_at u k).words.reader_stamp ≡ (version_at o k).words.reader_stamp
  pub new : (k : ℕ) → length o.versions ≤ k → k < length u.versions → IsUnread (version_at u k)

pub gentle_many : (o u : Object) → u.versions ≡ o.versions → Gentle o u
gentle_many o u e = record {
  readers = λ k _. ap (λ vs. (version_at (record o { versions = vs }) k).words.readers) e;
  reader_stamp = λ k _. ap (λ vs. (version_at (record o { versions = vs }) k).words.reader_stamp) e;
  new = λ k late within. absurd (let many = ap length e in omega (arith, late, within, many));
}

pub gentle_refl : (o : Object) → Gentle o o
gentle_refl o = gentle_many o o refl

-- words other than those of readers
abbrev pub Unread : CellWord → Type 0
Unread word.Readers = ⊥
Unread word.ReaderStamp = ⊥
Unread _ = Unit {0}

unread_bits : (w : CellWord) (value : ℕ) (c : Cell) → Unread w → (set_word w value c).readers ≡ c.readers
unread_bits word.Readers value c s = absurd s
unread_bits word.ReaderStamp value c s = absurd s
unread_bits _ value c s = refl

unread_stamp : (w : CellWord) (value : ℕ) (c : Cell) → Unread w → (set_word w value c).reader_stamp ≡ c.reader_stamp
unread_stamp word.Readers value c s = absurd s
unread_stamp word.ReaderStamp value c s = absurd s
unread_stamp _ value c s = refl

pub as_many : (o : Object) (place : ℕ) (words : Cell) → length (with_version o place words).versions ≡ length o.versions
as_many o place words = length-set o.versions place (record (version_at o place) { words = words })

gentle_word : (o : Object) (place : ℕ) (w : CellWord) (value : ℕ) → Unread w → Gentle o (with_version o place (set_word w value (version_at o place).words))
gentle_word o place w value unread =
    let words = set_word w value (version_at o place).words in
    record {
      readers = λ k _. at_word (λ v. v.words.readers ≡ (version_at o k).words.readers) o place words k
          (λ same. unread_bits w value (version_at o place).words unread ∙ ap (λ n. (version_at o n).words.readers) (sym same)) refl;
      reader_stamp = λ k _. at_word (λ v. v.words.reader_stamp ≡ (version_at o k).words.reader_stamp) o place words k
          (λ same. unread_stamp w value (version_at o place).words unread ∙ ap (λ n. (version_at o n).words.reader_stamp) (sym same)) refl;
      new = λ k late within. absurd (let many = as_many o place words in omega (arith, late, within, many));
    }

-- where all objects are gentle
pub gentle_grown : (s t : Shared) (x : Part) → ((oid : ℕ) → Extends (s.objects oid) (t.objects oid)) → ((oid : ℕ) → Gentle (s.objects oid) (t.objects oid)) → Grown s t x
gentle_grown s t x extends gentle = record {
  extends = extends;
  rises = λ oid k within. let e = (gentle oid).reader_stamp k within in omega (arith, e);
  rated = λ oid k within. inl ((gentle oid).reader_stamp k within);
  new = λ oid k late within. (gentle oid).new k late within;
}

pub gentle_bits : (s t : Shared) → ((oid : ℕ) → Gentle (s.objects oid) (t.objects oid)) → (q : ℕ) → Bits s t q
gentle_bits s t gentle q = record {
  stay = λ _ oid k within set. ap (λ n. bit_at n q) ((gentle oid).readers k within) ∙ set;
  old = λ oid k within set. ap (λ n. bit_at n q) (sym ((gentle oid).readers k within)) ∙ set;
}

-- kinds that leave the words of readers
abbrev pub Leaves : Kind → Type 0
Leaves (kind.Install oid head) = ⊥
Leaves (kind.SetReader v) = ⊥
Leaves (kind.ClearReader v) = ⊥
Leaves (kind.RaiseReader v value) = ⊥
Leaves _ = Unit {0}

pub gentle : (p : ℕ) (k : Kind) (found : ℕ) (x : Part) (s : Shared) → Leaves k → (oid : ℕ) → Gentle (s.objects oid) ((shared_after p k found x s).objects oid)
gentle p (kind.Install at head) found x s leaves oid = absurd leaves
gentle p (kind.SetReader v) found x s leaves oid = absurd leaves
gentle p (kind.ClearReader v) found x s leaves oid = absurd leaves
gentle p (kind.RaiseReader v value) found x s leaves oid = absurd leaves
gentle p (kind.Claim at seen number) found x s leaves oid = put_related (λ _. Gentle) (λ _. gentle_refl) s.objects at _ (gentle_many (s.objects at) _ refl) oid
gentle p (kind.StoreSucc v value) found x s leaves oid = put_related (λ _. Gentle) (λ _. gentle_refl) s.objects v.oid _ (gentle_word (s.objects v.oid) v.place word.OverwriterSucc value tt) oid
gentle p (kind.StoreOverwriter v value) found x s leaves oid = put_related (λ _. Gentle) (λ _. gentle_refl) s.objects v.oid _ (gentle_word (s.objects v.oid) v.place word.Overwriter value tt) oid
gentle p (kind.SwapLink v) found x s leaves oid =
    let e = gentle_word (s.objects v.oid) v.place word.Link 0 tt in
    put_related (λ _. Gentle) (λ _. gentle_refl) s.objects v.oid _ (record { readers = e.readers; reader_stamp = e.reader_stamp; new = e.new }) oid
gentle p k found x s leaves oid = subst (λ (f : ℕ → Object). Gentle (s.objects oid) (f oid)) (sym (same_objects p k found x s tt)) (gentle_refl (s.objects oid))

-- the version that an install adds
unread_own : (c : Core) (p oid head : ℕ) (e : ℕ × ℕ × ℕ × ℕ) (y : Part) → Sound c → end_of (c.seats p).task ≡ Some e →
    install_new oid head (c.seats p) e ≡ Some y → IsUnread (record { cell = head; words = own_words (claim_at (c.seats p).current e.1).own })
unread_own c p oid head e y sound at h =
    let x = c.seats p in
    when_then (λ _. IsUnread (record { cell = head; words = own_words (claim_at x.current e.1).own })) _ _ y h (λ g.
    let parts = and_parts _ _ (and_parts _ _ g).0 in
    let installs = (and_parts _ _ parts.0).0 in
    let within = ltb-true _ _ (and_parts _ _ installs).1 in
    let decided = (and_parts _ _ (and_parts _ _ (and_parts _ _ installs).0).0).0 in
    let last = at_last x.place x.task (length x.current.writes) e decided at (eqb-true e.2 8 (and_parts _ _ parts.0).1) in
    let over = last.over in
    let step = last.step in
    let held = (sound.own p).claims.held e.1 within (omega (arith, over)) in
    let fits = (sound.own p).claims.install e.1 within held in
    record {
      readers = fits.unread (omega (arith, step));
      reader_stamp = fits.reader_stamp (omega (arith, step)) ∙ sym (fits.stamp (omega (arith, step)));
    })

-- an object whose entry is installed or released
gentle_installed : (head : ℕ) (v : Version) (o : Object) (b : Bool) → (b ≡ true → IsUnread v) → Gentle o (installed head (if b then Some v else None) o)
gentle_installed head v o true unread = record {
  readers = λ k within. ap (λ (u : Version). u.words.readers) (at_push-old head v o k within);
  reader_stamp = λ k within. ap (λ (u : Version). u.words.reader_stamp) (at_push-old head v o k within);
  new = λ k late within.
      let many = length_installed head v o in
      subst IsUnread (sym (at_push-new head v o k (omega (arith, many, late, within)))) (unread refl);
}
gentle_installed head v o false unread = gentle_many o _ refl

installed_claim : (c : Core) (p oid head : ℕ) (e : Option (ℕ × ℕ × ℕ × ℕ)) (y : Part) → Sound c → end_of (c.seats p).task ≡ e →
    install_claim oid head (c.seats p) e ≡ Some y → Gentle (c.shared.objects oid) (installed head (added head (c.seats p) e) (c.shared.objects oid))
installed_claim c p oid head None y sound at h = absurd (cc)
installed_claim c p oid head (Some e) y sound at h =
    gentle_installed head (record { cell = head; words = own_words (claim_at (c.seats p).current e.1).own }) (c.shared.objects oid) (adds_version (c.seats p))
    (λ adds. unread_own c p oid head e y sound at (branch_true (adds_version (c.seats p)) (install_new oid head (c.seats p) e) (release_old oid head (c.seats p) e) y adds h))

installed_from : (c : Core) (p oid head : ℕ) (u : Task) (y : Part) → Sound c → (c.seats p).task ≡ u → install oid head (c.seats p) u ≡ Some y →
    Gentle (c.shared.objects oid) (installed head (added head (c.seats p) (end_of u)) (c.shared.objects oid))
installed_from c p oid head task.Refused y sound at h = gentle_many (c.shared.objects oid) _ refl
installed_from c p oid head u y sound at h = installed_claim c p oid head (end_of u) y sound (ap end_of at) h

pub gentle_install : (c : Core) (p oid head : ℕ) (y : Part) (found : ℕ) → Sound c → install oid head (c.seats p) (c.seats p).task ≡ Some y → (at : ℕ) →
    Gentle (c.shared.objects at) ((shared_after p (kind.Install oid head) found (c.seats p) c.shared).objects at)
gentle_install c p oid head y found sound h at = put_related (λ _. Gentle) (λ _. gentle_refl) c.shared.objects oid _ (installed_from c p oid head (c.seats p).task y sound refl h) at
