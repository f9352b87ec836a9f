-- What the facts on claims see of an object, and what changes of an object leave of them.
use Rattle.std.proofs.Common.{◌≡◌, ◌≢◌, ℕ, ◌+◌, ◌-◌, ◌^◌, ◌<◌, ◌≤◌, ⊎_elim, length, Some, refl, sym, ap, ◌∙◌, subst, arith, length-set}
use Rattle.std.proofs.lemmas.Bool.{cases_eq, cases_lt}
use Rattle.erm_machine.specs.declared.attempt.Attempt.{Attempt}
use Rattle.erm_machine.specs.declared.attempt.Claim.{Claim}
use Rattle.erm_machine.specs.declared.version.Cell.{Cell}
use Rattle.erm_machine.specs.declared.version.CellWord.{CellWord}
use Rattle.erm_machine.specs.declared.version.CellWord.TheVariants as word
use Rattle.erm_machine.specs.declared.version.Version.{Version}
use Rattle.erm_machine.specs.Claims.{ObjectFits, ClaimFits, InstallFits}
use Rattle.erm_machine.specs.Core.{Object, version_at, with_version, newest}
use Rattle.erm_machine.specs.Step.{installed}
use Rattle.erm_machine.specs.Words.{put, set_word, head_of, owner_of, number_of, claimed}
use Rattle.erm_machine.proofs.Frames.{at_cases}
use Rattle.erm_machine.proofs.Objects.{at_word, at_push-old, at_push-new, length_installed}

-- what the facts on claims see of an object stays
pub record Alike (o u : Object) : Type 0 where
  pub entry : u.entry ≡ o.entry
  pub many : length u.versions ≡ length o.versions
  pub stamp : (k : ℕ) → (version_at u k).words.stamp ≡ (version_at o k).words.stamp
  pub row : (k : ℕ) → (version_at u k).words.row ≡ (version_at o k).words.row
  pub cell : (k : ℕ) → (version_at u k).cell ≡ (version_at o k).cell
  pub overwriter : (k : ℕ) → (version_at u k).words.overwriter ≡ (version_at o k).words.overwriter
  pub succ : (k : ℕ) → (version_at u k).words.overwriter_succ ≡ (version_at o k).words.overwriter_succ

pub alike_refl : (o : Object) → Alike o o
alike_refl o = record { entry = refl; many = refl; stamp = λ k. refl; row = λ k. refl; cell = λ k. refl; overwriter = λ k. refl; succ = λ k. refl }

pub alike_same : (o u : Object) → u ≡ o → Alike o u
alike_same o u e = subst (λ (z : Object). Alike o z) (sym e) (alike_refl o)

-- the objects with one of them changed
pub alike_put : (f : ℕ → Object) (at : ℕ) (u : Object) → Alike (f at) u → (oid : ℕ) → Alike (f oid) (put f at u oid)
alike_put f at u a oid = at_cases (λ z. Alike (f oid) z) f at u oid (λ same. subst (λ n. Alike (f n) u) (sym same) a) (λ _. alike_refl (f oid))

-- what is read of each version stays where one version's words are changed in others
pub seen_same : {X : Type 0} (f : Version → X) (o : Object) (place : ℕ) (words : Cell) → f (record (version_at o place) { words = words }) ≡ f (version_at o place)
    → (k : ℕ) → f (version_at (with_version o place words) k) ≡ f (version_at o k)
seen_same f o place words e k = at_word (λ v. f v ≡ f (version_at o k)) o place words k (λ same. e ∙ ap (λ n. f (version_at o n)) (sym same)) refl

pub many_same : (o : Object) (place : ℕ) (words : Cell) → length (with_version o place words).versions ≡ length o.versions
many_same o place words = length-set o.versions place (record (version_at o place) { words = words })

alike_words : (o : Object) (place : ℕ) (words : Cell) → words.stamp ≡ (version_at o place).words.stamp → words.row ≡ (version_at o place).words.row
    → words.overwriter ≡ (version_at o place).words.overwriter → words.overwriter_succ ≡ (version_at o place).words.overwriter_succ
    → Alike o (with_version o place words)
alike_words o place words stamp row overwriter succ = record {
  entry = refl;
  many = many_same o place words;
  stamp = seen_same (λ (v : Version). v.words.stamp) o place words stamp;
  row = seen_same (λ (v : Version). v.words.row) o place words row;
  cell = seen_same (λ (v : Version). v.cell) o place words refl;
  overwriter = seen_same (λ (v : Version). v.words.overwriter) o place words overwriter;
  succ = seen_same (λ (v : Version). v.words.overwriter_succ) o place words succ;
}

-- words of a version that no fact on claims sees
abbrev pub Unseen : CellWord → Type 0
Unseen word.Link = Unit {0}
Unseen word.Readers = Unit {0}
Unseen word.ReaderStamp = Unit {0}
Unseen _ = ⊥

pub alike_word : (o : Object) (place : ℕ) (w : CellWord) (value : ℕ) → Unseen w → Alike o (with_version o place (set_word w value (version_at o place).words))
alike_word o place word.Link value q = alike_words o place _ refl refl refl refl
alike_word o place word.Readers value q = alike_words o place _ refl refl refl refl
alike_word o place word.ReaderStamp value q = alike_words o place _ refl refl refl refl
alike_word o place _ value q = absurd q

-- an object alike fits, also below a later tail
pub object_alike : (now later : ℕ) (o u : Object) → now ≤ later → Alike o u → ObjectFits now o → ObjectFits later u
object_alike now later o u grows a f =
    let n = a.many in
    record {
      some = let h = f.some in omega (arith, n, h);
      ascend = λ i j less within.
          let h = f.ascend i j less (omega (arith, n, within)) in let p = a.stamp i in let q = a.stamp j in omega (arith, h, p, q);
      below = λ i within. let h = f.below i (omega (arith, n, within)) in let p = a.stamp i in omega (arith, h, p, grows);
      cells = λ i within. let h = f.cells i (omega (arith, n, within)) in let p = a.cell i in omega (arith, h, p);
      head = ap head_of a.entry ∙ f.head ∙ sym (a.cell (newest o)) ∙ ap (λ m. (version_at u (m - 1)).cell) (sym n);
      plain = λ free. a.entry ∙ f.plain (ap owner_of (sym a.entry) ∙ free) ∙ ap head_of (sym a.entry);
      marked = λ i within. a.overwriter i ∙ f.marked i (omega (arith, n, within)) ∙ sym (a.stamp (i + 1));
      unmarked = λ free. ap (λ m. (version_at u (m - 1)).words.overwriter) n ∙ a.overwriter (newest o) ∙ f.unmarked (ap owner_of (sym a.entry) ∙ free);
      unset = λ free. ap (λ m. (version_at u (m - 1)).words.overwriter_succ) n ∙ a.succ (newest o) ∙ f.unset (ap owner_of (sym a.entry) ∙ free);
    }

pub claim_alike : (seat number begin : ℕ) (o u : Object) (w : Claim) → Alike o u → ClaimFits seat number begin o w → ClaimFits seat number begin u w
claim_alike seat number begin o u w a f = record {
  owner = ap owner_of a.entry ∙ f.owner;
  numbered = ap number_of a.entry ∙ f.numbered;
  place = f.place ∙ ap (λ m. m - 1) (sym a.many);
  cell = f.cell ∙ ap head_of (sym a.entry);
  stamp = f.stamp ∙ sym (a.stamp w.version.place);
  base = f.base ∙ sym (a.row w.version.place);
  first = f.first;
}

pub install_alike : (t : Attempt) (o u : Object) (w : Claim) (step : ℕ) → Alike o u → InstallFits t o w step → InstallFits t u w step
install_alike t o u w step a f = record {
  stamp = f.stamp;
  link = f.link;
  unread = f.unread;
  reader_stamp = f.reader_stamp;
  unmarked = f.unmarked;
  unset = f.unset;
  succ = λ h. a.succ w.version.place ∙ f.succ h;
  mark = λ h. a.overwriter w.version.place ∙ f.mark h;
  no_succ = λ h. a.succ w.version.place ∙ f.no_succ h;
  no_mark = λ h. a.overwriter w.version.place ∙ f.no_mark h;
}

-- an install that hasn't begun asks only that the version overwritten isn't marked, and has no overwriter's successor stamp
pub install_waits : (t : Attempt) (o : Object) (w : Claim) (step : ℕ) → step ≡ 0 → (version_at o w.version.place).words.overwriter ≡ 0
    → (version_at o w.version.place).words.overwriter_succ ≡ 0 → InstallFits t o w step
install_waits t o w step zero_is e unset = record {
  stamp = λ h. absurd (omega (arith, h, zero_is));
  link = λ h. absurd (omega (arith, h, zero_is));
  unread = λ h. absurd (omega (arith, h, zero_is));
  reader_stamp = λ h. absurd (omega (arith, h, zero_is));
  unmarked = λ h. absurd (omega (arith, h, zero_is));
  unset = λ h. absurd (omega (arith, h, zero_is));
  succ = λ h. absurd (omega (arith, h, zero_is));
  mark = λ h. absurd (omega (arith, h, zero_is));
  no_succ = λ _. unset;
  no_mark = λ _. e;
}

-- the words of an entry that a seat's transaction owns
pub claimed_head : (entry seat number : ℕ) → seat < 256 → head_of (claimed entry seat number) ≡ head_of entry
claimed_head entry seat number low = omega arith

pub claimed_owner : (entry seat number : ℕ) → seat < 256 → owner_of (claimed entry seat number) ≡ seat
claimed_owner entry seat number low = omega arith

pub claimed_number : (entry seat number : ℕ) → seat < 256 → number_of (claimed entry seat number) ≡ number
claimed_number entry seat number low = omega arith

-- an entry without owner that is a cell
pub plain_head : (cell : ℕ) → cell < 2 ^ 24 → head_of cell ≡ cell
plain_head cell low = omega arith

pub plain_owner : (cell : ℕ) → cell < 2 ^ 24 → owner_of cell ≡ 0
plain_owner cell low = omega arith

-- the entry gets an owner
pub object_claimed : (now : ℕ) (o : Object) (entry : ℕ) → head_of entry ≡ head_of o.entry → owner_of entry ≢ 0 → ObjectFits now o → ObjectFits now (record o { entry = entry })
object_claimed now o entry head owned f = record {
  some = f.some;
  ascend = f.ascend;
  below = f.below;
  cells = f.cells;
  head = head ∙ f.head;
  plain = λ free. absurd (owned free);
  marked = f.marked;
  unmarked = λ free. absurd (owned free);
  unset = λ free. absurd (owned free);
}

-- the newest place
pub newest_within : (now : ℕ) (o : Object) → ObjectFits now o → newest o < length o.versions
newest_within now o f = let h = f.some in omega (arith, h)

-- the entry is released with its old head
pub object_released : (now : ℕ) (o : Object) (head : ℕ) → head ≡ (version_at o (newest o)).cell → (version_at o (newest o)).words.overwriter ≡ 0
    → (version_at o (newest o)).words.overwriter_succ ≡ 0 → ObjectFits now o → ObjectFits now (record o { entry = head })
object_released now o head is unmarked unset f =
    let low : head < 2 ^ 24 = let h = f.cells (newest o) (newest_within now o f) in omega (arith, h, is) in
    record {
      some = f.some;
      ascend = f.ascend;
      below = f.below;
      cells = f.cells;
      head = plain_head head low ∙ is;
      plain = λ _. sym (plain_head head low);
      marked = f.marked;
      unmarked = λ _. unmarked;
      unset = λ _. unset;
    }

-- words of a version are changed: its stamp stays, and its marks do where they count
pub object_words : (now : ℕ) (o : Object) (place : ℕ) (words : Cell) → words.stamp ≡ (version_at o place).words.stamp
    → ((i : ℕ) → i + 1 < length o.versions → i ≡ place → words.overwriter ≡ (version_at o place).words.overwriter)
    → (owner_of o.entry ≡ 0 → words.overwriter ≡ (version_at o place).words.overwriter)
    → (owner_of o.entry ≡ 0 → words.overwriter_succ ≡ (version_at o place).words.overwriter_succ)
    → ObjectFits now o → ObjectFits now (with_version o place words)
object_words now o place words same marked unmarked unset f =
    let n = many_same o place words in
    let stamp = seen_same (λ (v : Version). v.words.stamp) o place words same in
    let cell = seen_same (λ (v : Version). v.cell) o place words refl in
    record {
      some = let h = f.some in omega (arith, n, h);
      ascend = λ i j less within.
          let h = f.ascend i j less (omega (arith, n, within)) in let p = stamp i in let q = stamp j in omega (arith, h, p, q);
      below = λ i within. let h = f.below i (omega (arith, n, within)) in let p = stamp i in omega (arith, h, p);
      cells = λ i within. let h = f.cells i (omega (arith, n, within)) in let p = cell i in omega (arith, h, p);
      head = f.head ∙ sym (cell (newest o)) ∙ ap (λ m. (version_at (with_version o place words) (m - 1)).cell) (sym n);
      plain = f.plain;
      marked = λ i within.
          let low : i + 1 < length o.versions = omega (arith, n, within) in
          let old = f.marked i low in
          let next = stamp (i + 1) in
          at_word (λ (v : Version). v.words.overwriter ≡ (version_at (with_version o place words) (i + 1)).words.stamp) o place words i
          (λ is. marked i low is ∙ ap (λ m. (version_at o m).words.overwriter) (sym is) ∙ old ∙ sym next) (old ∙ sym next);
      unmarked = λ free.
          ap (λ m. (version_at (with_version o place words) (m - 1)).words.overwriter) n
          ∙ at_word (λ (v : Version). v.words.overwriter ≡ 0) o place words (newest o)
          (λ is. unmarked free ∙ ap (λ m. (version_at o m).words.overwriter) (sym is) ∙ f.unmarked free) (f.unmarked free);
      unset = λ free.
          ap (λ m. (version_at (with_version o place words) (m - 1)).words.overwriter_succ) n
          ∙ at_word (λ (v : Version). v.words.overwriter_succ ≡ 0) o place words (newest o)
          (λ is. unset free ∙ ap (λ m. (version_at o m).words.overwriter_succ) (sym is) ∙ f.unset free) (f.unset free);
    }

-- a version of an object that has one more
at_installed : (P : Version → Type 0) (head : ℕ) (v : Version) (o : Object) (k : ℕ) → k < length (installed head (Some v) o).versions
    → (k < length o.versions → P (version_at o k)) → (k ≡ length o.versions → P v) → P (version_at (installed head (Some v) o) k)
at_installed P head v o k within old new =
    let n = length_installed head v o in
    ⊎_elim
    (λ (low : k < length o.versions). subst P (sym (at_push-old head v o k low)) (old low))
    (λ (high : length o.versions ≤ k).
    let is : k ≡ length o.versions = omega (arith, n, within, high) in
    subst P (sym (at_push-new head v o k is)) (new is))
    (cases_lt k (length o.versions))

-- all stamps are at most the newest one's
pub stamp_le_newest : (now : ℕ) (o : Object) (i : ℕ) → ObjectFits now o → i < length o.versions → (version_at o i).words.stamp ≤ (version_at o (newest o)).words.stamp
stamp_le_newest now o i f within =
    ⊎_elim
    (λ (e : i ≡ newest o). let h = ap (λ k. (version_at o k).words.stamp) e in omega (arith, h))
    (λ (ne : i ≡ newest o → ⊥). let h = f.ascend i (newest o) (omega (arith, within, ne)) (newest_within now o f) in omega (arith, h))
    (cases_eq i (newest o))

-- a version is installed on the newest one, which is marked with its stamp
pub object_installed : (now : ℕ) (o : Object) (head : ℕ) (v : Version) → head < 2 ^ 24 → v.cell ≡ head
    → (version_at o (newest o)).words.stamp < v.words.stamp → v.words.stamp < now → (version_at o (newest o)).words.overwriter ≡ v.words.stamp → v.words.overwriter ≡ 0
    → v.words.overwriter_succ ≡ 0 → ObjectFits now o → ObjectFits now (installed head (Some v) o)
object_installed now o head v low cell above below mark unmarked unset f =
    let u = installed head (Some v) o in
    let n : length u.versions ≡ length o.versions + 1 = length_installed head v o in
    let last : version_at u (length o.versions) ≡ v = at_push-new head v o (length o.versions) refl in
    let top : newest u ≡ length o.versions = omega (arith, n) in
    record {
      some = omega (arith, n);
      ascend = λ i j less within.
          let small : i < length o.versions = omega (arith, n, less, within) in
          let e = ap (λ (w : Version). w.words.stamp) (at_push-old head v o i small) in
          at_installed (λ (w : Version). (version_at u i).words.stamp < w.words.stamp) head v o j within
          (λ inside. let h = f.ascend i j less inside in omega (arith, h, e))
          (λ _. let h = stamp_le_newest now o i f small in omega (arith, h, e, above));
      below = λ i within. at_installed (λ (w : Version). w.words.stamp < now) head v o i within (f.below i) (λ _. below);
      cells = λ i within. at_installed (λ (w : Version). w.cell < 2 ^ 24) head v o i within (f.cells i) (λ _. omega (arith, cell, low));
      head = plain_head head low ∙ sym cell ∙ sym (ap (λ (w : Version). w.cell) last) ∙ ap (λ k. (version_at u k).cell) (sym top);
      plain = λ _. sym (plain_head head low);
      marked = λ i within.
          let small : i < length o.versions = omega (arith, n, within) in
          ap (λ (w : Version). w.words.overwriter) (at_push-old head v o i small)
          ∙ at_installed (λ (w : Version). (version_at o i).words.overwriter ≡ w.words.stamp) head v o (i + 1) within
          (f.marked i)
          (λ is. let top_is : i ≡ newest o = omega (arith, is) in ap (λ k. (version_at o k).words.overwriter) top_is ∙ mark);
      unmarked = λ _. ap (λ k. (version_at u k).words.overwriter) top ∙ ap (λ (w : Version). w.words.overwriter) last ∙ unmarked;
      unset = λ _. ap (λ k. (version_at u k).words.overwriter_succ) top ∙ ap (λ (w : Version). w.words.overwriter_succ) last ∙ unset;
    }
