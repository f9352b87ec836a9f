-- What the bits of readers say in a sound state, and what a settle sees of them.
use Rattle.std.proofs.Common.{◌≡◌, ◌≢◌, ◌⊎◌, ⊎_elim, ℕ, ◌<◌, ◌≤◌, ◌∷◌, [], inl, inr, length, refl, subst, arith}
use Rattle.std.specs.Int.{bit_at}
use Rattle.std.proofs.lemmas.Bool.{cases_lt, cases_eq}
use Rattle.std.proofs.lemmas.Nat.Bits.{bit_at-lt}
use Rattle.erm_machine.specs.declared.attempt.Decision.TheVariants.{Commit}
use Rattle.erm_machine.specs.declared.limits.TheConstants.{OBJECT_LIMIT}
use Rattle.erm_machine.specs.declared.part.Part.{Part}
use Rattle.erm_machine.specs.declared.task.Task.{Task}
use Rattle.erm_machine.specs.declared.task.Task.TheVariants as task
use Rattle.erm_machine.specs.declared.version.VersionAt.{VersionAt}
use Rattle.erm_machine.specs.Core.{Core, claim_at}
use Rattle.erm_machine.specs.Decided.{NoneReadsLeft, Reading, writes_passed}
use Rattle.erm_machine.specs.Facts.{all_of}
use Rattle.erm_machine.specs.Readers.{bit_of, cleared}
use Rattle.erm_machine.specs.Seat.{read_at}
use Rattle.erm_machine.specs.Sound.{Sound}
use Rattle.erm_machine.proofs.Listed.{∈-head, ∈-second}
use Rattle.erm_model.specs.Member.{◌∈◌}
use Rattle.erm_readers.specs.Calls.{words_of}
use Rattle.erm_readers.specs.Laws.{IsReaderOf}

pub has_bit : (c : Core) (p : ℕ) (v : VersionAt) → Sound c → IsReaderOf (c.seats p) v → bit_of c.shared p v.oid v.place ≡ 1
has_bit c p v sound reader =
    subst (λ (n : ℕ). bit_of c.shared p v.oid n ≡ 1) reader.place_is
    (subst (λ (n : ℕ). bit_of c.shared p n (read_at (c.seats p).current reader.read).version.place ≡ 1) reader.oid_is
    ((sound.own p).readers.stands reader.read reader.uncleared reader.within))

pub is_reader : (c : Core) (p : ℕ) (v : VersionAt) → Sound c → v.oid < OBJECT_LIMIT → v.place < length (c.shared.objects v.oid).versions
    → bit_of c.shared p v.oid v.place ≡ 1 → IsReaderOf (c.seats p) v
is_reader c p v sound object within set =
    let r = (sound.own p).readers.only v.oid v.place object within set in
    record { read = r.0; uncleared = r.1; within = r.2; oid_is = r.3; place_is = r.4 }

pub bit_or_stamp : (c : Core) (p k : ℕ) → Sound c → (c.seats p).current.decision ≡ Commit → k < length (c.seats p).current.reads
    → IsReaderOf (c.seats p) (read_at (c.seats p).current k).version ⊎ ((c.seats p).current.stamp ≤ (words_of c (read_at (c.seats p).current k).version).reader_stamp)
bit_or_stamp c p k sound committed within =
    ⊎_elim
    (λ (gone : k < cleared (c.seats p)).
    let all = (sound.own p).readers.before committed (omega (arith, gone)) in
    inr ((sound.own p).readers.raising committed k (omega (arith, all, within)) within))
    (λ (left : cleared (c.seats p) ≤ k). inl (record { read = k; uncleared = left; within = within; oid_is = refl; place_is = refl }))
    (cases_lt k (cleared (c.seats p)))

-- a reader with a stamp below a bound
reading : (y : Part) (v : VersionAt) (bound : ℕ) → IsReaderOf y v → 0 < y.current.stamp → y.current.stamp < bound → Reading y v bound
reading y v bound reader drawn below = (drawn, below, (reader.read, reader.uncleared, reader.within, reader.oid_is, reader.place_is))

a_bit : (n : ℕ) → n < 2 → (n ≡ 0 → ⊥) → n ≡ 1
a_bit n low ne = omega (arith, low, ne)

pub looked_at : (c : Core) (p q write bits : ℕ) → Sound c → p ≢ q → (c.seats p).task ≡ task.ReadersLeft write bits
    → IsReaderOf (c.seats q) (claim_at (c.seats p).current write).version → 0 < (c.seats q).current.stamp → (c.seats q).current.stamp < (c.seats p).current.stamp
    → bit_at bits q ≡ 1
looked_at c p q write bits sound other at reader drawn below =
    let none = subst (λ (t : Task). NoneReadsLeft (c.seats p) t q (c.seats q)) at (sound.both p q other).decided.left in
    a_bit (bit_at bits q) (bit_at-lt bits q)
    (λ zero. none zero (reading (c.seats q) (claim_at (c.seats p).current write).version (c.seats p).current.stamp reader drawn below))

later : (s t : ℕ) → (0 < t → t < s → ⊥) → t ≢ 0 → s ≢ t → s < t
later s t none drawn other = omega (arith, none, drawn, other)

pub passed_later : (c : Core) (p q write : ℕ) → Sound c → p ≢ q → 0 < (c.seats p).current.stamp
    → write < writes_passed (c.seats p).task (length (c.seats p).current.writes) → write < length (c.seats p).current.writes
    → IsReaderOf (c.seats q) (claim_at (c.seats p).current write).version
    → (((c.seats q).current.stamp ≡ 0) × ((c.seats p).current.stamp < c.shared.tail)) ⊎ ((c.seats p).current.stamp < (c.seats q).current.stamp)
passed_later c p q write sound other drawn passed within reader =
    let x = c.seats p in
    let y = c.seats q in
    let mine : x.current ∈ all_of x = ∈-second x.over (x.current ∷ []) x.current (∈-head x.current []) in
    let its : y.current ∈ all_of y = ∈-second y.over (y.current ∷ []) y.current (∈-head y.current []) in
    ⊎_elim
    (λ (none : y.current.stamp ≡ 0). inl (none, (sound.own p).decided.drawn x.current mine))
    (λ (some : y.current.stamp ≢ 0).
    inr (later x.current.stamp y.current.stamp
    (λ positive below. (sound.both p q other).decided.passed write passed within (reading y (claim_at x.current write).version x.current.stamp reader positive below))
    some ((sound.both p q other).decided.apart x.current y.current mine its drawn)))
    (cases_eq y.current.stamp 0)
