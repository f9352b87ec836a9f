-- What the steps on the words of readers leave: a bit is set or cleared, a reader stamp raised.
use Rattle.std.proofs.Common.{◌≡◌, ◌≢◌, ℕ, ◌<◌, ◌≤◌, ◌⊎◌, ⊎_elim, length, max, get_or-set_same, get_or-set_other, refl, sym, ap, ◌∙◌, subst, inl, inr, arith}
use Rattle.std.specs.Int.{bit_at}
use Rattle.std.proofs.lemmas.Bool.{cases_eq, cases_lt}
use Rattle.erm_machine.specs.declared.part.Part.{Part}
use Rattle.erm_machine.specs.declared.version.CellWord.TheVariants as word
use Rattle.erm_machine.specs.declared.version.Version.{Version}
use Rattle.erm_machine.specs.declared.version.VersionAt.{VersionAt}
use Rattle.erm_machine.specs.Core.{Object, Shared, no_version, version_at, with_version}
use Rattle.erm_machine.specs.Readers.{bit_of}
use Rattle.erm_machine.specs.Step.{with_version_word}
use Rattle.erm_machine.specs.Words.{set_word, with_bit, without_bit}
use Rattle.erm_machine.proofs.Frames.{put_same, put_other}
use Rattle.erm_machine.proofs.Objects.{extends_put, extends_word, at_word}
use Rattle.erm_core_ssn.proofs.ReadersBits.{bit_set_other, bit_cleared_other, bit_left}
use Rattle.erm_core_ssn.proofs.ReadersSteps.{RatedBy, Grown, Bits}
use Rattle.erm_core_ssn.proofs.ReadersGrown.{put_related, as_many}

-- the object with the reader bits of one version changed
abbrev pub rebitten : Object → ℕ → ℕ → Object
rebitten o place bits = with_version o place (set_word word.Readers bits (version_at o place).words)

-- the versions are as many, with their reader stamps
record SameStamps (o u : Object) : Type 0 where
  pub many : length u.versions ≡ length o.versions
  pub reader_stamp : (k : ℕ) → (version_at u k).words.reader_stamp ≡ (version_at o k).words.reader_stamp

same_stamps : (o : Object) (place bits : ℕ) → SameStamps o (rebitten o place bits)
same_stamps o place bits =
    let words = set_word word.Readers bits (version_at o place).words in
    record {
      many = as_many o place words;
      reader_stamp = λ k. at_word (λ v. v.words.reader_stamp ≡ (version_at o k).words.reader_stamp) o place words k (λ same. ap (λ n. (version_at o n).words.reader_stamp) (sym same)) refl;
    }

all_same_stamps : (s : Shared) (v : VersionAt) (bits oid : ℕ) → SameStamps (s.objects oid) ((with_version_word v word.Readers bits s).objects oid)
all_same_stamps s v bits oid =
    put_related (λ _. SameStamps) (λ _ o. record { many = refl; reader_stamp = λ k. refl }) s.objects v.oid _ (same_stamps (s.objects v.oid) v.place bits) oid

-- reader bits are changed
pub rebit_grown : (s : Shared) (v : VersionAt) (bits : ℕ) (x : Part) → Grown s (with_version_word v word.Readers bits s) x
rebit_grown s v bits x = record {
  extends = extends_put s.objects v.oid _ (extends_word (s.objects v.oid) v.place word.Readers bits tt);
  rises = λ oid k _. let e = (all_same_stamps s v bits oid).reader_stamp k in omega (arith, e);
  rated = λ oid k _. inl ((all_same_stamps s v bits oid).reader_stamp k);
  new = λ oid k late within. absurd (let many = (all_same_stamps s v bits oid).many in omega (arith, late, within, many));
}

-- the bits of a seat in an object
record SameBit (q : ℕ) (o u : Object) : Type 0 where
  pub stay : q < 64 → (k : ℕ) → bit_at (version_at o k).words.readers q ≡ 1 → bit_at (version_at u k).words.readers q ≡ 1
  pub old : (k : ℕ) → bit_at (version_at u k).words.readers q ≡ 1 → bit_at (version_at o k).words.readers q ≡ 1

same_bit : (o : Object) (place bits q : ℕ) → (q < 64 → bit_at (version_at o place).words.readers q ≡ 1 → bit_at bits q ≡ 1) →
    (bit_at bits q ≡ 1 → bit_at (version_at o place).words.readers q ≡ 1) → SameBit q o (rebitten o place bits)
same_bit o place bits q stay old =
    let words = set_word word.Readers bits (version_at o place).words in
    record {
      stay = λ small k. at_word (λ v. bit_at (version_at o k).words.readers q ≡ 1 → bit_at v.words.readers q ≡ 1) o place words k
          (λ same set. stay small (ap (λ n. bit_at (version_at o n).words.readers q) (sym same) ∙ set)) (λ set. set);
      old = λ k. at_word (λ v. bit_at v.words.readers q ≡ 1 → bit_at (version_at o k).words.readers q ≡ 1) o place words k
          (λ same set. ap (λ n. bit_at (version_at o n).words.readers q) same ∙ old set) (λ set. set);
    }

pub rebit_bits : (s : Shared) (v : VersionAt) (bits q : ℕ) → (q < 64 → bit_of s q v.oid v.place ≡ 1 → bit_at bits q ≡ 1) →
    (bit_at bits q ≡ 1 → bit_of s q v.oid v.place ≡ 1) → Bits s (with_version_word v word.Readers bits s) q
rebit_bits s v bits q stay old = record {
  stay = λ small oid k _. (all oid).stay small k;
  old = λ oid k _. (all oid).old k;
}
  where
    all : (oid : ℕ) → SameBit q (s.objects oid) ((with_version_word v word.Readers bits s).objects oid)
    all oid = put_related (λ _. SameBit q) (λ _ o. record { stay = λ _ k set. set; old = λ k set. set }) s.objects v.oid _ (same_bit (s.objects v.oid) v.place bits q stay old) oid

-- the bit of a seat at a version: at the one that is changed as it is changed, at another as it was
pub bit_there : (s : Shared) (v : VersionAt) (bits q : ℕ) → v.place < length (s.objects v.oid).versions → bit_of (with_version_word v word.Readers bits s) q v.oid v.place ≡ bit_at bits q
bit_there s v bits q within =
    let o = s.objects v.oid in
    let words = set_word word.Readers bits (version_at o v.place).words in
    ap (λ (z : Object). bit_at (version_at z v.place).words.readers q) (put_same s.objects v.oid (rebitten o v.place bits))
    ∙ ap (λ (u : Version). bit_at u.words.readers q) (get_or-set_same o.versions v.place (record (version_at o v.place) { words = words }) no_version within)

pub bit_cases : (s : Shared) (v : VersionAt) (bits q oid k : ℕ) → ((oid ≡ v.oid) × (k ≡ v.place)) ⊎ (bit_of (with_version_word v word.Readers bits s) q oid k ≡ bit_of s q oid k)
bit_cases s v bits q oid k =
    ⊎_elim
    (λ (same : oid ≡ v.oid).
    ⊎_elim (λ (here : k ≡ v.place). inl (same, here))
    (λ (other : k ≡ v.place → ⊥).
    inr (ap (λ n. bit_of (with_version_word v word.Readers bits s) q n k) same
    ∙ (ap (λ (z : Object). bit_at (version_at z k).words.readers q) (put_same s.objects v.oid (rebitten (s.objects v.oid) v.place bits))
    ∙ (ap (λ (u : Version). bit_at u.words.readers q) (get_or-set_other (s.objects v.oid).versions v.place k _ no_version other)
    ∙ ap (λ n. bit_of s q n k) (sym same)))))
    (cases_eq k v.place))
    (λ (other : oid ≡ v.oid → ⊥). inr (ap (λ (z : Object). bit_at (version_at z k).words.readers q) (put_other s.objects v.oid (rebitten (s.objects v.oid) v.place bits) oid other)))
    (cases_eq oid v.oid)

-- a bit of a seat is set: those of others stay, and the own ones that were set
pub set_others : (s : Shared) (v : VersionAt) (p q : ℕ) → q ≢ p → Bits s (with_version_word v word.Readers (with_bit (version_at (s.objects v.oid) v.place).words.readers p) s) q
set_others s v p q ne =
    let bits = (version_at (s.objects v.oid) v.place).words.readers in
    rebit_bits s v (with_bit bits p) q (λ _ set. bit_set_other bits p q ne ∙ set) (λ set. sym (bit_set_other bits p q ne) ∙ set)

-- a bit of a seat is cleared: those of others stay
pub clear_others : (s : Shared) (v : VersionAt) (p q : ℕ) → p < 64 → q ≢ p → Bits s (with_version_word v word.Readers (without_bit (version_at (s.objects v.oid) v.place).words.readers p) s) q
clear_others s v p q seat ne =
    let bits = (version_at (s.objects v.oid) v.place).words.readers in
    rebit_bits s v (without_bit bits p) q (λ small set. bit_cleared_other bits p q seat small ne ∙ set) (bit_left bits p q)

-- a reader stamp is raised
record Raised (x : Part) (oid : ℕ) (o u : Object) : Type 0 where
  pub many : length u.versions ≡ length o.versions
  pub readers : (k : ℕ) → (version_at u k).words.readers ≡ (version_at o k).words.readers
  pub rises : (k : ℕ) → (version_at o k).words.reader_stamp ≤ (version_at u k).words.reader_stamp
  pub rated : (k : ℕ) → ((version_at u k).words.reader_stamp ≡ (version_at o k).words.reader_stamp) ⊎ RatedBy x oid k (version_at u k).words.reader_stamp

greater : (a b : ℕ) → (max a b ≡ a) ⊎ (max a b ≡ b)
greater a b = ⊎_elim (λ (less : a < b). inr (omega (arith, less))) (λ (more : b ≤ a). inl (omega (arith, more))) (cases_lt a b)

raised_object : (x : Part) (oid : ℕ) (o : Object) (place value : ℕ) → RatedBy x oid place value →
    Raised x oid o (with_version o place (set_word word.ReaderStamp (max (version_at o place).words.reader_stamp value) (version_at o place).words))
raised_object x oid o place value by =
    let words = set_word word.ReaderStamp (max (version_at o place).words.reader_stamp value) (version_at o place).words in
    record {
      many = as_many o place words;
      readers = λ k. at_word (λ v. v.words.readers ≡ (version_at o k).words.readers) o place words k (λ same. ap (λ n. (version_at o n).words.readers) (sym same)) refl;
      rises = λ k. at_word (λ v. (version_at o k).words.reader_stamp ≤ v.words.reader_stamp) o place words k
          (λ same. let e = ap (λ n. (version_at o n).words.reader_stamp) same in omega (arith, e)) (omega arith);
      rated = λ k. at_word (λ v. (v.words.reader_stamp ≡ (version_at o k).words.reader_stamp) ⊎ RatedBy x oid k v.words.reader_stamp) o place words k
          (λ same. ⊎_elim
          (λ (stays : max (version_at o place).words.reader_stamp value ≡ (version_at o place).words.reader_stamp). inl (stays ∙ ap (λ n. (version_at o n).words.reader_stamp) (sym same)))
          (λ (raised : max (version_at o place).words.reader_stamp value ≡ value). inr (subst (RatedBy x oid k) (sym raised) (subst (λ n. RatedBy x oid n value) (sym same) by)))
          (greater (version_at o place).words.reader_stamp value)) (inl refl);
    }

module _ (s : Shared) (v : VersionAt) (value : ℕ) (x : Part) (by : RatedBy x v.oid v.place value) where
  -- what is shared after
  abbrev pub with_raised : Shared
  with_raised = with_version_word v word.ReaderStamp (max (version_at (s.objects v.oid) v.place).words.reader_stamp value) s

  raised_all : (oid : ℕ) → Raised x oid (s.objects oid) (with_raised.objects oid)
  raised_all oid =
      put_related (Raised x) (λ _ o. record { many = refl; readers = λ k. refl; rises = λ k. omega arith; rated = λ k. inl refl }) s.objects v.oid _
      (raised_object x v.oid (s.objects v.oid) v.place value by) oid

  pub raised_grown : Grown s with_raised x
  raised_grown = record {
    extends = extends_put s.objects v.oid _ (extends_word (s.objects v.oid) v.place word.ReaderStamp (max (version_at (s.objects v.oid) v.place).words.reader_stamp value) tt);
    rises = λ oid k _. (raised_all oid).rises k;
    rated = λ oid k _. (raised_all oid).rated k;
    new = λ oid k late within. absurd (let many = (raised_all oid).many in omega (arith, late, within, many));
  }

  pub raised_bits : (q : ℕ) → Bits s with_raised q
  raised_bits q = record {
    stay = λ _ oid k _ set. ap (λ n. bit_at n q) ((raised_all oid).readers k) ∙ set;
    old = λ oid k _ set. ap (λ n. bit_at n q) (sym ((raised_all oid).readers k)) ∙ set;
  }

  -- the reader stamp of that version is at least the value
  pub raised_to : v.place < length (s.objects v.oid).versions → value ≤ (version_at (with_raised.objects v.oid) v.place).words.reader_stamp
  raised_to within =
      let o = s.objects v.oid in
      let words = set_word word.ReaderStamp (max (version_at o v.place).words.reader_stamp value) (version_at o v.place).words in
      let is = ap (λ (z : Object). (version_at z v.place).words.reader_stamp) (put_same s.objects v.oid (with_version o v.place words))
      ∙ ap (λ (u : Version). u.words.reader_stamp) (get_or-set_same o.versions v.place (record (version_at o v.place) { words = words }) no_version within) in
      omega (arith, is)
