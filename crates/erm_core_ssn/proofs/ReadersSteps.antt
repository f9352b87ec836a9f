-- A step and the reader bits: what a step leaves of the words of readers, of its seat's bits, and of what commits have read.
use Rattle.std.proofs.Common.{◌≡◌, ◌≢◌, ℕ, ◌<◌, ◌≤◌, ◌⊎◌, ⊎_elim, false, length, sym, ap, ◌∙◌, subst, inl, inr, arith}
use Rattle.std.proofs.lemmas.Bool.{cases_eq, cases_lt}
use Rattle.std.proofs.lemmas.Nat.Bits.{bit_at-zero}
use Rattle.std.specs.Int.{bit_at}
use Rattle.erm_model.specs.Member.{◌∈◌}
use Rattle.erm_machine.specs.declared.attempt.Attempt.{Attempt}
use Rattle.erm_machine.specs.declared.attempt.Read.{Read}
use Rattle.erm_machine.specs.declared.attempt.Decision.TheVariants.{Commit}
use Rattle.erm_machine.specs.declared.limits.TheConstants.{OBJECT_LIMIT}
use Rattle.erm_machine.specs.declared.part.Part.{Part}
use Rattle.erm_machine.specs.declared.place.Place.TheVariants.{Vacant}
use Rattle.erm_machine.specs.declared.version.Version.{Version}
use Rattle.erm_machine.specs.declared.version.VersionAt.{VersionAt}
use Rattle.erm_machine.specs.Core.{Core, Shared, version_at, blank}
use Rattle.erm_machine.specs.Facts.{all_of, IsCurrent}
use Rattle.erm_machine.specs.Readers.{Readers, OwnReaders, HasRead, bit_of, raised}
use Rattle.erm_machine.specs.Seat.{read_at}
use Rattle.erm_machine.specs.Sound.{Sound}
use Rattle.erm_machine.specs.Words.{put, is_seat}
use Rattle.erm_machine.proofs.Frames.{each_seat, put_same, put_other}
use Rattle.erm_machine.proofs.Objects.{Extends}
use Rattle.erm_core_ssn.proofs.ReadersLists.{∈-last, ∈-front, read_in}

-- what the law says of a state
pub record Kept (d : Core) : Type 0 where
  pub common : Readers d.shared d.seats
  pub own : (p : ℕ) → OwnReaders d.shared p (d.seats p)

-- a new version has no readers but its creator
pub record IsUnread (v : Version) : Type 0 where
  pub readers : v.words.readers ≡ 0
  pub reader_stamp : v.words.reader_stamp ≡ v.words.stamp

-- the current transaction committed with this stamp and has read the version
pub record RatedBy (x : Part) (at place stamp : ℕ) : Type 0 where
  pub commit : x.current.decision ≡ Commit
  pub stamp_is : x.current.stamp ≡ stamp
  pub read : Read
  pub stands : read ∈ x.current.reads
  pub oid_is : read.version.oid ≡ at
  pub place_is : read.version.place ≡ place

-- what a seat's step leaves of versions and their reader stamps
pub record Grown (s t : Shared) (x : Part) : Type 0 where
  pub extends : (oid : ℕ) → Extends (s.objects oid) (t.objects oid)
  pub rises : (oid k : ℕ) → k < length (s.objects oid).versions → (version_at (s.objects oid) k).words.reader_stamp ≤ (version_at (t.objects oid) k).words.reader_stamp
  pub rated : (oid k : ℕ) → k < length (s.objects oid).versions
      → ((version_at (t.objects oid) k).words.reader_stamp ≡ (version_at (s.objects oid) k).words.reader_stamp)
      ⊎ RatedBy x oid k (version_at (t.objects oid) k).words.reader_stamp
  pub new : (oid k : ℕ) → length (s.objects oid).versions ≤ k → k < length (t.objects oid).versions → IsUnread (version_at (t.objects oid) k)

-- the reader bits of a seat stay
pub record Bits (s t : Shared) (q : ℕ) : Type 0 where
  pub stay : q < 64 → (oid k : ℕ) → k < length (s.objects oid).versions → bit_of s q oid k ≡ 1 → bit_of t q oid k ≡ 1
  pub old : (oid k : ℕ) → k < length (s.objects oid).versions → bit_of t q oid k ≡ 1 → bit_of s q oid k ≡ 1

-- a seat that has read something has words
no_words : (q : ℕ) → 64 ≤ q → is_seat q ≡ false
no_words q far = grind arith

pub reader_seat : (c : Core) (q k : ℕ) → Sound c → k < length (c.seats q).current.reads → q < 64
reader_seat c q k sound within =
    ⊎_elim (λ (near : q < 64). near)
    (λ (far : 64 ≤ q).
    let vacant : (c.seats q).place ≡ Vacant = (sound.own q).ranges.seat_of (no_words q far) in
    let current : (c.seats q).current ≡ blank = subst (λ pl. IsCurrent pl (c.seats q).current) vacant (sound.own q).ranges.current in
    let none : length (c.seats q).current.reads ≡ 0 = ap (λ (t : Attempt). length t.reads) current in
    absurd (omega (arith, within, none)))
    (cases_lt q 64)

-- the current transaction is one of all
pub current_stands : (x : Part) → x.current ∈ all_of x
current_stands x = ∈-last x.over x.current

-- what a transaction has read is a version of its object
pub read_within : (c : Core) (q : ℕ) (u : Attempt) (r : Read) → Sound c → u ∈ all_of (c.seats q) → r ∈ u.reads → r.version.place < length (c.shared.objects r.version.oid).versions
read_within c q u r sound m n = ((sound.own q).snapshot.reads u r m n).named.within

pub current_within : (c : Core) (q k : ℕ) → Sound c → k < length (c.seats q).current.reads →
    (read_at (c.seats q).current k).version.place < length (c.shared.objects (read_at (c.seats q).current k).version.oid).versions
current_within c q k sound within = read_within c q (c.seats q).current (read_at (c.seats q).current k) sound (current_stands (c.seats q)) (read_in (c.seats q).current k within)

-- a bit of a version that was there before
pub record OldBit (s t : Shared) (q oid k : ℕ) : Type 0 where
  pub within : k < length (s.objects oid).versions
  pub set : bit_of t q oid k ≡ 1

pub old_bit : (s t : Shared) (x : Part) (q oid k : ℕ) → Grown s t x → k < length (t.objects oid).versions → bit_of t q oid k ≡ 1 → OldBit s t q oid k
old_bit s t x q oid k g within set =
    ⊎_elim (λ (old : k < length (s.objects oid).versions). record { within = old; set = set })
    (λ (late : length (s.objects oid).versions ≤ k).
    let none = ap (λ n. bit_at n q) (g.new oid k late within).readers ∙ bit_at-zero q in
    absurd (omega (arith, none, set)))
    (cases_lt k (length (s.objects oid).versions))

-- what is over, and what is being raised, stays raised
pub over_stays : (c : Core) (t : Shared) (x : Part) (q : ℕ) → Sound c → Grown c.shared t x → (u : Attempt) (r : Read) → u ∈ (c.seats q).over → u.decision ≡ Commit → r ∈ u.reads →
    u.stamp ≤ (version_at (t.objects r.version.oid) r.version.place).words.reader_stamp
over_stays c t x q sound g u r m commit n =
    let was = (sound.own q).readers.over u r m commit n in
    let rises = g.rises r.version.oid r.version.place (read_within c q u r sound (∈-front (c.seats q).over (c.seats q).current u m) n) in
    omega (arith, was, rises)

pub raising_stays : (c : Core) (t : Shared) (x : Part) (q : ℕ) → Sound c → Grown c.shared t x → (c.seats q).current.decision ≡ Commit → (k : ℕ) → k < raised (c.seats q) → k < length (c.seats q).current.reads →
    (c.seats q).current.stamp ≤ (version_at (t.objects (read_at (c.seats q).current k).version.oid) (read_at (c.seats q).current k).version.place).words.reader_stamp
raising_stays c t x q sound g commit k low within =
    let r = (read_at (c.seats q).current k).version in
    let was = (sound.own q).readers.raising commit k low within in
    let rises = g.rises r.oid r.place (current_within c q k sound within) in
    omega (arith, was, rises)

-- the facts on a seat whose part stays
pub own_stays : (c : Core) (t : Shared) (x : Part) (q : ℕ) → Sound c → Grown c.shared t x → Bits c.shared t q → OwnReaders t q (c.seats q)
own_stays c t x q sound g bits =
    let o = (sound.own q).readers in
    record {
      once = o.once;
      stands = λ k from within.
          let r = (read_at (c.seats q).current k).version in
          bits.stay (reader_seat c q k sound within) r.oid r.place (current_within c q k sound within) (o.stands k from within);
      only = λ oid place known within set.
          let b = old_bit c.shared t x q oid place g within set in
          o.only oid place known b.within (bits.old oid place b.within b.set);
      before = o.before;
      raising = raising_stays c t x q sound g;
      over = over_stays c t x q sound g;
    }

-- a transaction that committed stays, with what it has read
pub record Recalled (y : Part) (u : Attempt) : Type 0 where
  pub attempt : Attempt
  pub stands : attempt ∈ all_of y
  pub commit : attempt.decision ≡ Commit
  pub stamp : attempt.stamp ≡ u.stamp
  pub reads : attempt.reads ≡ u.reads

pub record Recalls (x y : Part) : Type 0 where
  pub recalled : (u : Attempt) → u ∈ all_of x → u.decision ≡ Commit → Recalled y u

-- what a step of a seat leaves of its own part
pub record Left (c : Core) (t : Shared) (p : ℕ) (y : Part) : Type 0 where
  pub own : OwnReaders t p y
  pub recalls : Recalls (c.seats p) y

-- a commit that has read a version still has
read_stays : (seats : ℕ → Part) (p : ℕ) (y : Part) (v : VersionAt) (stamp : ℕ) → Recalls (seats p) y → HasRead seats v stamp → HasRead (put seats p y) v stamp
read_stays seats p y v stamp recalls h = at h.0 h.1 h.2 h.3 h.4 h.5 h.6 h.7 h.8 (cases_eq h.0 p)
  where
    at : (q : ℕ) (u : Attempt) (r : Read) → u ∈ all_of (seats q) → u.decision ≡ Commit → u.stamp ≡ stamp → r ∈ u.reads → r.version.oid ≡ v.oid → r.version.place ≡ v.place →
        (q ≡ p) ⊎ (q ≡ p → ⊥) → HasRead (put seats p y) v stamp
    at q u r m commit is n oid place (inl same) =
        let a = recalls.recalled u (subst (λ k. u ∈ all_of (seats k)) same m) commit in (
          p,
          a.attempt,
          r,
          subst (λ z. a.attempt ∈ all_of z) (sym (put_same seats p y)) a.stands,
          a.commit,
          a.stamp ∙ is,
          subst (λ rs. r ∈ rs) (sym a.reads) n,
          oid,
          place,
        )
    at q u r m commit is n oid place (inr other) = (q, u, r, subst (λ z. u ∈ all_of z) (sym (put_other seats p y q other)) m, commit, is, n, oid, place)

-- a version's reader stamp is its creator's or that of a committed reader
abbrev Attained : Shared → (ℕ → Part) → VersionAt → Type 0
Attained s seats v = ((version_at (s.objects v.oid) v.place).words.reader_stamp ≡ (version_at (s.objects v.oid) v.place).words.stamp)
    ⊎ HasRead seats v (version_at (s.objects v.oid) v.place).words.reader_stamp

-- What a step leaves makes the law hold of the state after.
pub kept_from : (c : Core) (p : ℕ) (y : Part) (t : Shared) (d : Core) → Sound c → Grown c.shared t (c.seats p) → ((q : ℕ) → q ≢ p → Bits c.shared t q) →
    Left c t p y → record { shared = t; seats = put c.seats p y } ≡ d → Kept d
kept_from c p y t d sound g bits left is =
    subst Kept is (record {
      common = record { least = least; attained = attained };
      own = each_seat (OwnReaders t) c.seats p y left.own (λ q ne. own_stays c t (c.seats p) q sound g (bits q ne));
    })
  where
    least : (oid place : ℕ) → oid < OBJECT_LIMIT → place < length (t.objects oid).versions → (version_at (t.objects oid) place).words.stamp ≤ (version_at (t.objects oid) place).words.reader_stamp
    least oid place known within =
        ⊎_elim
        (λ (old : place < length (c.shared.objects oid).versions).
        let was = sound.common.readers.least oid place known old in
        let same = (g.extends oid).stamp place old in
        let rises = g.rises oid place old in
        omega (arith, was, same, rises))
        (λ (late : length (c.shared.objects oid).versions ≤ place). let e = (g.new oid place late within).reader_stamp in omega (arith, e))
        (cases_lt place (length (c.shared.objects oid).versions))

    by_own : (v : VersionAt) → RatedBy (c.seats p) v.oid v.place (version_at (t.objects v.oid) v.place).words.reader_stamp → Attained t (put c.seats p y) v
    by_own v r = inr (read_stays c.seats p y v _ left.recalls (p, (c.seats p).current, r.read, current_stands (c.seats p), r.commit, r.stamp_is, r.stands, r.oid_is, r.place_is))

    as_before : (v : VersionAt) → v.oid < OBJECT_LIMIT → v.place < length (c.shared.objects v.oid).versions →
        (version_at (t.objects v.oid) v.place).words.reader_stamp ≡ (version_at (c.shared.objects v.oid) v.place).words.reader_stamp → Attained t (put c.seats p y) v
    as_before v known old same =
        ⊎_elim
        (λ (made : (version_at (c.shared.objects v.oid) v.place).words.reader_stamp ≡ (version_at (c.shared.objects v.oid) v.place).words.stamp).
        inl (same ∙ (made ∙ sym ((g.extends v.oid).stamp v.place old))))
        (λ (read : HasRead c.seats v (version_at (c.shared.objects v.oid) v.place).words.reader_stamp).
        inr (subst (HasRead (put c.seats p y) v) (sym same) (read_stays c.seats p y v _ left.recalls read)))
        (sound.common.readers.attained v known old)

    attained : (v : VersionAt) → v.oid < OBJECT_LIMIT → v.place < length (t.objects v.oid).versions → Attained t (put c.seats p y) v
    attained v known within =
        ⊎_elim
        (λ (old : v.place < length (c.shared.objects v.oid).versions). ⊎_elim (as_before v known old) (by_own v) (g.rated v.oid v.place old))
        (λ (late : length (c.shared.objects v.oid).versions ≤ v.place). inl (g.new v.oid v.place late within).reader_stamp)
        (cases_lt v.place (length (c.shared.objects v.oid).versions))
