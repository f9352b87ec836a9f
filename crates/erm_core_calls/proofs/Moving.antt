-- A step that is taken, and that it moves its seat on.
use Rattle.std.proofs.Common.{◌≡◌, ◌≢◌, ℕ, ◌+◌, Bool, true, false, eqb, ltb, Option, Some, None, refl, sym, ap, ◌∙◌, subst, inl, inr, arith}
use Rattle.std.specs.Prelude.{if◌then◌else◌, nat_lt, ◌==◌, ◌<◌, ◌≤◌}
use Rattle.std.proofs.lemmas.Bool.{and_from, eq-eqb, eqb-false, eqb-true, ltb-false, ltb-true}
use Rattle.erm_machine.specs.declared.event.Kind.{Kind}
use Rattle.erm_machine.specs.declared.event.Kind.TheVariants as kind
use Rattle.erm_machine.specs.declared.part.Part.{Part}
use Rattle.erm_machine.specs.declared.place.Place.{Place}
use Rattle.erm_machine.specs.declared.place.Place.TheVariants.{Vacant, Idle, Begun, Announced, Active, Sealing, Drawn, Sealed, Decided, Leaving}
use Rattle.erm_machine.specs.declared.task.Task.{Task}
use Rattle.erm_machine.specs.declared.task.Task.TheVariants as task
use Rattle.erm_machine.specs.declared.version.VersionAt.{VersionAt}
use Rattle.erm_machine.specs.Core.{Core, spot_of, word_at}
use Rattle.erm_machine.specs.Seat.{same_version, when}
use Rattle.erm_machine.specs.Step.{part_after, shared_after, after_event, moved, is_known}
use Rattle.erm_machine.specs.Words.{put}
use Rattle.erm_machine.proofs.Frames.{put_same}
use Rattle.erm_machine.proofs.Guards.{either_way}
use Rattle.erm_machine.proofs.QuietKinds.{MeetsOne}
use Rattle.erm_core_calls.specs.Going.{MovesOn}

-- the state after a step that is taken
abbrev pub stepped : Core → ℕ → Kind → Part → Core
stepped c p k y = record { shared = shared_after p k (word_at c (spot_of p k)) (c.seats p) c.shared; seats = put c.seats p y }

taken_if : (c : Core) (p : ℕ) (k : Kind) (y : Part) (b : Bool) (o : Option Part) → b ≡ true → o ≡ Some y →
    (if b then moved p k (word_at c (spot_of p k)) c o else None) ≡ Some (stepped c p k y)
taken_if c p k y true o known e = ap (moved p k (word_at c (spot_of p k)) c) e
taken_if c p k y false o known e = absurd (cc)

pub taken : (c : Core) (p : ℕ) (k : Kind) (y : Part) → MeetsOne k → is_known k ≡ true →
    part_after p k (word_at c (spot_of p k)) c.shared (c.seats p) ≡ Some y → after_event c p k ≡ Some (stepped c p k y)
taken c p (kind.Split other) y one known e = absurd one
taken c p (kind.Join other) y one known e = absurd one
taken c p k y one known e = taken_if c p k y (is_known k) _ known e

-- which task it is, whatever it has come to
abbrev pub rank : Task → ℕ
rank task.Rest = 0
rank (task.Owned oid owner) = 1
rank (task.Cleared oid) = 2
rank (task.Walks version head) = 3
rank (task.Passed version) = 4
rank (task.Found version stamp head) = 5
rank (task.Registered version) = 6
rank (task.Overtaken version overwriter) = 7
rank (task.Rated version) = 8
rank task.Numbers = 9
rank (task.Claimed version) = 10
rank (task.Horizon version least next) = 11
rank (task.CutWalks version horizon) = 12
rank (task.CutPassed version horizon) = 13
rank (task.CutFound version horizon) = 14
rank (task.Detaches version) = 15
rank task.Draws = 16
rank task.Pool = 17
rank task.Fetched = 18
rank task.Refused = 19
rank (task.Copies word) = 20
rank (task.Writes claim word) = 21
rank (task.Settles reads writes) = 22
rank (task.ReadOwned read owner) = 23
rank (task.ReadClear read) = 24
rank (task.ReadOvertaken read overwriter) = 25
rank (task.ReadersLeft write bits) = 26
rank (task.WriteClear write) = 27
rank (task.WriteMade write) = 28
rank (task.Fills words) = 29
rank (task.Ends raised ended step cleared) = 30
rank (task.Surveys next) = 31
rank (task.Behind next) = 32
rank task.Safe = 33
rank (task.SafeWalks version) = 34
rank (task.SafePassed version) = 35
rank (task.SafeFound version) = 36

-- which place it is
abbrev pub placed : Place → ℕ
placed Vacant = 0
placed Idle = 1
placed (Begun tail) = 2
placed (Announced tail) = 3
placed (Active tail) = 4
placed (Sealing tail) = 5
placed (Drawn tail stamp) = 6
placed (Sealed tail stamp) = 7
placed (Decided tail stamp) = 8
placed (Leaving stamp) = 9

-- another task than this one: one of another name, or one that has come to another place
pub record Apart (t u : Task) : Type 0 where
  pub apart : u ≢ t

pub unlike : (t u : Task) → eqb (rank u) (rank t) ≡ false → Apart t u
unlike t u e = record { apart = λ same. eqb-false (rank u) (rank t) e (ap rank same) }

pub unlike_if : (t : Task) (b : Bool) (u v : Task) → Apart t u → Apart t v → Apart t (if b then u else v)
unlike_if t b u v f g = either_way (Apart t) b u v (λ _. f) (λ _. g)

-- what a task has come to: its version's place, the next seat, the word, the claims that are over, the reader stamps that are
-- raised, the steps of an install and the bits that are cleared; of settle the words that are stored
abbrev pub place_at : Task → ℕ
place_at (task.Detaches version) = version.place
place_at _ = 0

abbrev pub next_at : Task → ℕ
next_at (task.Horizon version least next) = next
next_at (task.Surveys next) = next
next_at _ = 0

abbrev pub word_come : Task → ℕ
word_come (task.Copies word) = word
word_come (task.Writes claim word) = word
word_come (task.Fills words) = words
word_come _ = 0

abbrev pub bits_left : Task → ℕ
bits_left (task.ReadersLeft write bits) = bits
bits_left _ = 0

abbrev pub ends_at : Task → ℕ × ℕ × ℕ × ℕ
ends_at (task.Ends raised ended step cleared) = (raised, ended, step, cleared)
ends_at _ = (0, 0, 0, 0)

-- one more isn't as many
pub more : (n : ℕ) → n + 1 ≢ n
more n = λ e. absurd (omega (arith, e))

-- what a met guard leads to
pub met : (o : Option Part) (b : Bool) (z : Part) → o ≡ when b z → b ≡ true → o ≡ Some z
met o true z e g = e
met o false z e g = absurd (cc)

-- a step whose guard is met moves its seat to another task
pub to_task : (c : Core) (p : ℕ) (k : Kind) (t : Task) (b : Bool) (z : Part) → (c.seats p).task ≡ t → MeetsOne k → is_known k ≡ true →
    part_after p k (word_at c (spot_of p k)) c.shared (c.seats p) ≡ when b z → b ≡ true → Apart t z.task → MovesOn c p k
to_task c p k t b z at one known e guard other = record {
  after = stepped c p k z;
  taken = taken c p k z one known (met _ b z e guard);
  moved = inr (inl (subst (λ (y : Part). y.task ≢ (c.seats p).task) (sym (put_same c.seats p z)) (λ same. other.apart (same ∙ at))));
}

-- or to another place
pub to_place : (c : Core) (p : ℕ) (k : Kind) (pl : Place) (b : Bool) (z : Part) → (c.seats p).place ≡ pl → MeetsOne k → is_known k ≡ true →
    part_after p k (word_at c (spot_of p k)) c.shared (c.seats p) ≡ when b z → b ≡ true → eqb (placed z.place) (placed pl) ≡ false → MovesOn c p k
to_place c p k pl b z at one known e guard other = record {
  after = stepped c p k z;
  taken = taken c p k z one known (met _ b z e guard);
  moved = inl (subst (λ (y : Part). y.place ≢ (c.seats p).place) (sym (put_same c.seats p z)) (λ same. eqb-false (placed z.place) (placed pl) other (ap placed (same ∙ at))));
}

-- or changes its back word
pub to_back : (c : Core) (p : ℕ) (k : Kind) (b : Bool) (z : Part) → MeetsOne k → is_known k ≡ true →
    part_after p k (word_at c (spot_of p k)) c.shared (c.seats p) ≡ when b z → b ≡ true → z.back ≢ (c.seats p).back → MovesOn c p k
to_back c p k b z one known e guard other = record {
  after = stepped c p k z;
  taken = taken c p k z one known (met _ b z e guard);
  moved = inr (inr (subst (λ (y : Part). y.back ≢ (c.seats p).back) (sym (put_same c.seats p z)) other));
}

-- one of two by a test whether a number is below another
pub below_way : {X : Type 0} (P : X → Type 0) (m n : ℕ) (l r : X) → (m < n → P l) → (n ≤ m → P r) → P (if nat_lt m n then l else r)
below_way P m n l r f g = either_way P (ltb m n) l r (λ e. f (ltb-true m n e)) (λ e. g (ltb-false m n e))

-- or whether it is that number
pub same_way : {X : Type 0} (P : X → Type 0) (m n : ℕ) (l r : X) → (m ≡ n → P l) → ((m ≡ n → ⊥) → P r) → P (if m == n then l else r)
same_way P m n l r f g = either_way P (eqb m n) l r (λ e. f (eqb-true m n e)) (λ e. g (eqb-false m n e))

-- a version is named as itself
pub same_self : (v : VersionAt) → same_version v v ≡ true
same_self v = and_from _ (eqb v.cell v.cell) (and_from (eqb v.oid v.oid) (eqb v.place v.place) (eq-eqb v.oid v.oid refl) (eq-eqb v.place v.place refl)) (eq-eqb v.cell v.cell refl)

-- the first of two branches
pub branch : (b : Bool) (l r o : Option Part) → b ≡ true → l ≡ o → (if b then l else r) ≡ o
branch true l r o e f = f
branch false l r o e f = absurd (cc)

pub other_branch : (b : Bool) (l r o : Option Part) → b ≡ false → r ≡ o → (if b then l else r) ≡ o
other_branch true l r o e f = absurd (cc)
other_branch false l r o e f = f
