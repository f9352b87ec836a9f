-- Steps that leave what a seat has read, its begin stamp and its range.
use Rattle.std.proofs.Common.{◌≡◌, ◌≢◌, ℕ, ◌<◌, ◌≤◌, ◌⊎◌, ⊎_elim, Bool, true, List, [], length, set, refl, sym, ap, ◌∙◌, subst, inl, arith}
use Rattle.std.specs.Prelude.{if◌then◌else◌}
use Rattle.erm_model.specs.Member.{◌∈◌}
use Rattle.erm_model.proofs.Members.{∈-push, none_in_nil}
use Rattle.erm_machine.specs.declared.attempt.Attempt.{Attempt}
use Rattle.erm_machine.specs.declared.attempt.Claim.{Claim}
use Rattle.erm_machine.specs.declared.attempt.Read.{Read}
use Rattle.erm_machine.specs.declared.part.Part.{Part}
use Rattle.erm_machine.specs.declared.place.Place.{Place}
use Rattle.erm_machine.specs.declared.place.Place.TheVariants.{Active}
use Rattle.erm_machine.specs.declared.task.Task.{Task}
use Rattle.erm_machine.specs.declared.task.Task.TheVariants as task
use Rattle.erm_machine.specs.declared.version.VersionAt.{VersionAt}
use Rattle.erm_machine.specs.Core.{Core, Shared, claim_at}
use Rattle.erm_machine.specs.Facts.{all_of, HoldsBelow, IsCurrent}
use Rattle.erm_machine.specs.Seat.{is_active, read_at}
use Rattle.erm_machine.specs.Snapshot.{OwnSnapshot, InHand, ReadFits, NoneInHand, Overwriting, passed_of, NoneLeft}
use Rattle.erm_machine.specs.Sound.{Sound}
use Rattle.erm_machine.proofs.Guards.{either_way}
use Rattle.erm_machine.proofs.Holders.{stands_in}
use Rattle.erm_core_si.proofs.SnapshotLists.{∈-last, ∈-front, ∈-set}
use Rattle.erm_core_si.proofs.SnapshotClaims.{ClaimedIn, claimed_same, claimed_set}
use Rattle.erm_core_si.proofs.SnapshotSteps.{HeldBefore, Covers, HandWithin, named_within, Hand, Settle, Recalls}

-- tasks with no version in hand of a read
abbrev pub Handless : Task → Type 0
Handless (task.Owned oid owner) = ⊥
Handless (task.Cleared oid) = ⊥
Handless (task.Walks version head) = ⊥
Handless (task.Passed version) = ⊥
Handless (task.Found version stamp head) = ⊥
Handless (task.SafeWalks version) = ⊥
Handless (task.SafePassed version) = ⊥
Handless (task.SafeFound version) = ⊥
Handless _ = Unit {0}

-- tasks in which settle has passed nothing
abbrev pub Unsettled : Task → Type 0
Unsettled (task.Settles reads writes) = reads ≡ 0
Unsettled (task.ReadOwned read owner) = ⊥
Unsettled (task.ReadClear read) = ⊥
Unsettled (task.ReadOvertaken read overwriter) = ⊥
Unsettled (task.ReadersLeft write bits) = ⊥
Unsettled (task.WriteClear write) = ⊥
Unsettled (task.WriteMade write) = ⊥
Unsettled (task.Fills words) = ⊥
Unsettled _ = Unit {0}

-- tasks of which neither a hand nor a settle says anything
pub record Free (t : Task) : Type 0 where
  pub hand : Handless t
  pub settled : Unsettled t

pub free_if : (b : Bool) (t u : Task) → Free t → Free u → Free (if b then t else u)
free_if b t u f g = either_way Free b t u (λ _. f) (λ _. g)

pub free_from : (t : Task) → Handless t → Unsettled t → Free t
free_from t h u = record { hand = h; settled = u }

-- no claim is of a version that is new, and no held claim of a range is new
pub record KeepsClaims (x y : Part) : Type 0 where
  pub known : (w : Claim) → w ∈ y.current.writes → ClaimedIn x.current w
  pub kept : 0 < x.current.stamp → (w : Claim) → w ∈ y.current.writes → w.held ≡ true → HeldBefore x w

-- what a seat has read, its begin stamp and its range stay
pub record Same (x y : Part) : Type 0 where
  pub over : y.over ≡ x.over
  pub begin : y.current.begin ≡ x.current.begin
  pub stamp : y.current.stamp ≡ x.current.stamp
  pub reads : y.current.reads ≡ x.current.reads
  pub claims : KeepsClaims x y

-- the same claims; claims before the seal; claims of which one is changed
pub keeps_same : (x y : Part) → y.current.writes ≡ x.current.writes → KeepsClaims x y
keeps_same x y e = record {
  known = claimed_same x.current y.current.writes e;
  kept = λ _ w m held. record { claim = w; stands = subst (λ (ws : List Claim). w ∈ ws) e m; held = held; version = refl };
}

pub keeps_unsealed : (x y : Part) → x.current.stamp ≡ 0 → ((w : Claim) → w ∈ y.current.writes → ClaimedIn x.current w) → KeepsClaims x y
keeps_unsealed x y e known = record { known = known; kept = λ positive w m held. absurd (omega (arith, positive, e)) }

pub keeps_set : (x y : Part) (place : ℕ) (v : Claim) → y.current.writes ≡ set x.current.writes place v → v.version ≡ (claim_at x.current place).version
    → (v.held ≡ true → (claim_at x.current place).held ≡ true) → KeepsClaims x y
keeps_set x y place v e version held = record {
  known = λ w m. claimed_set x.current place v version w (subst (λ (ws : List Claim). w ∈ ws) e m);
  kept = λ _ w m is.
      ⊎_elim
      (λ (old : w ∈ x.current.writes). record { claim = w; stands = old; held = is; version = refl })
      (λ (new : (w ≡ v) × (place < length x.current.writes)). record {
        claim = claim_at x.current place;
        stands = stands_in x.current place new.1;
        held = held (ap (λ (u : Claim). u.held) (sym new.0) ∙ is);
        version = sym version ∙ ap (λ (u : Claim). u.version) (sym new.0);
      })
      (∈-set x.current.writes place v w (subst (λ (ws : List Claim). w ∈ ws) e m));
}

-- an active transaction has no range
pub active_unsealed : (pl : Place) (t : Attempt) → IsCurrent pl t → is_active pl ≡ true → t.stamp ≡ 0
active_unsealed (Active tail) t cur e = cur.stamp
active_unsealed _ t cur e = absurd (cc)

pub covers_same : (now : ℕ) (x y : Part) → Same x y → Covers now x y
covers_same now x y same = record {
  stamp = λ _ _. same.stamp;
  claims = λ positive _ w m held. same.claims.kept (let e = same.stamp in omega (arith, positive, e)) w m held;
}

-- a transaction without a range holds no claim of one
pub covers_none : (now : ℕ) (x y : Part) → y.current.stamp ≡ 0 → Covers now x y
covers_none now x y e = record {
  stamp = λ positive _. absurd (omega (arith, positive, e));
  claims = λ positive _ w m held. absurd (omega (arith, positive, e));
}

-- a transaction that the seat had before, with what it has read; one that has read nothing
pub record Remembered (x : Part) (u : Attempt) : Type 0 where
  pub attempt : Attempt
  pub stands : attempt ∈ all_of x
  pub begin : u.begin ≡ attempt.begin
  pub reads : u.reads ≡ attempt.reads

pub record Fresh (now : ℕ) (x y : Part) (u : Attempt) : Type 0 where
  pub past : u.begin ≤ now
  pub drawn : 0 < y.current.stamp → u.begin ≤ y.current.stamp
  pub late : 0 < x.current.stamp → u.begin ≤ x.current.stamp
  pub reads : u.reads ≡ []

-- a range that is new starts at the tail
pub record Draws (now : ℕ) (x y : Part) : Type 0 where
  pub stamp : (y.current.stamp ≡ x.current.stamp) ⊎ ((y.current.stamp ≡ 0) ⊎ (y.current.stamp ≡ now))

pub recalls_from : (c : Core) (p : ℕ) (y : Part) → Sound c → Draws c.shared.tail (c.seats p) y →
    ((u : Attempt) → u ∈ all_of y → Remembered (c.seats p) u ⊎ Fresh c.shared.tail (c.seats p) y u) → Recalls c p y
recalls_from c p y sound draws from = record {
  past = λ u m. ⊎_elim
      (λ (r : Remembered (c.seats p) u). let a = (old.past r.attempt r.stands).past in let e = r.begin in omega (arith, a, e))
      (λ (f : Fresh c.shared.tail (c.seats p) y u). f.past) (from u m);
  drawn = λ u m positive. ⊎_elim
      (λ (r : Remembered (c.seats p) u). let a = old.past r.attempt r.stands in let e = r.begin in drawn_from u.begin r.attempt.begin e a.past a.drawn_later positive)
      (λ (f : Fresh c.shared.tail (c.seats p) y u). f.drawn positive) (from u m);
  late = λ u m positive. ⊎_elim
      (λ (r : Remembered (c.seats p) u). let a = (old.past r.attempt r.stands).drawn_later positive in let e = r.begin in omega (arith, a, e))
      (λ (f : Fresh c.shared.tail (c.seats p) y u). f.late positive) (from u m);
  reads = λ u r m n. ⊎_elim
      (λ (b : Remembered (c.seats p) u). subst (λ k. ReadFits c.shared k r) (sym b.begin) (old.reads b.attempt r b.stands (subst (λ (rs : List Read). r ∈ rs) b.reads n)))
      (λ (f : Fresh c.shared.tail (c.seats p) y u). absurd (none_in_nil r (subst (λ (rs : List Read). r ∈ rs) f.reads n))) (from u m);
  apart = λ u r m n q ne h. ⊎_elim
      (λ (b : Remembered (c.seats p) u). (sound.both p q (λ e. ne (sym e))).snapshot.reads b.attempt r b.stands (subst (λ (rs : List Read). r ∈ rs) b.reads n)
      (subst (λ k. HoldsBelow (c.seats q) r.version.oid k) b.begin h))
      (λ (f : Fresh c.shared.tail (c.seats p) y u). none_in_nil r (subst (λ (rs : List Read). r ∈ rs) f.reads n)) (from u m);
}
  where
    old : OwnSnapshot c.shared (c.seats p)
    old = (sound.own p).snapshot

    drawn_from : (begin before : ℕ) → begin ≡ before → before ≤ c.shared.tail → (0 < (c.seats p).current.stamp → before ≤ (c.seats p).current.stamp) → 0 < y.current.stamp → begin ≤ y.current.stamp
    drawn_from begin before e past drawn positive =
        ⊎_elim (λ (same : y.current.stamp ≡ (c.seats p).current.stamp). let h = drawn (omega (arith, positive, same)) in omega (arith, h, same, e))
        (λ (new : (y.current.stamp ≡ 0) ⊎ (y.current.stamp ≡ c.shared.tail)).
        ⊎_elim (λ (none : y.current.stamp ≡ 0). absurd (omega (arith, none, positive))) (λ (at : y.current.stamp ≡ c.shared.tail). omega (arith, at, e, past)) new)
        draws.stamp

-- the transactions of a seat whose current one changes in nothing that was read
pub remembers : (x y : Part) → y.over ≡ x.over → y.current.begin ≡ x.current.begin → y.current.reads ≡ x.current.reads → (u : Attempt) → u ∈ all_of y → Remembered x u
remembers x y over begin reads u m =
    ⊎_elim
    (λ (before : u ∈ y.over). record { attempt = u; stands = ∈-front x.over x.current u (subst (λ (ts : List Attempt). u ∈ ts) over before); begin = refl; reads = refl })
    (λ (now : u ≡ y.current). record {
      attempt = x.current;
      stands = ∈-last x.over x.current;
      begin = ap (λ (t : Attempt). t.begin) now ∙ begin;
      reads = ap (λ (t : Attempt). t.reads) now ∙ reads;
    })
    (∈-push y.over y.current u m)

pub recalls_stay : (c : Core) (p : ℕ) (y : Part) → Sound c → y.over ≡ (c.seats p).over → y.current.begin ≡ (c.seats p).current.begin →
    y.current.stamp ≡ (c.seats p).current.stamp → y.current.reads ≡ (c.seats p).current.reads → Recalls c p y
recalls_stay c p y sound over begin stamp reads = recalls_from c p y sound (record { stamp = inl stamp }) (λ u m. inl (remembers (c.seats p) y over begin reads u m))

pub recalls_same : (c : Core) (p : ℕ) (y : Part) → Sound c → Same (c.seats p) y → Recalls c p y
recalls_same c p y sound same = recalls_stay c p y sound same.over same.begin same.stamp same.reads

-- a task without a version in hand
hand_in : (s : Shared) (begin : ℕ) (u : Task) → Handless u → InHand s begin u
hand_in s begin (task.Walks version head) f = absurd f
hand_in s begin (task.Passed version) f = absurd f
hand_in s begin (task.Found version stamp head) f = absurd f
hand_in s begin (task.SafeWalks version) f = absurd f
hand_in s begin (task.SafePassed version) f = absurd f
hand_in s begin (task.SafeFound version) f = absurd f
hand_in s begin _ f = tt

hand_within : (s : Shared) (u : Task) → Handless u → HandWithin s u
hand_within s (task.Passed version) f = absurd f
hand_within s (task.SafePassed version) f = absurd f
hand_within s _ f = tt

hand_none : (begin : ℕ) (u : Task) (q : ℕ) (z : Part) → Handless u → NoneInHand begin u q z
hand_none begin (task.Owned oid owner) q z f = absurd f
hand_none begin (task.Cleared oid) q z f = absurd f
hand_none begin (task.Walks version head) q z f = absurd f
hand_none begin (task.Passed version) q z f = absurd f
hand_none begin (task.Found version stamp head) q z f = absurd f
hand_none begin (task.SafeWalks version) q z f = absurd f
hand_none begin (task.SafePassed version) q z f = absurd f
hand_none begin (task.SafeFound version) q z f = absurd f
hand_none begin _ q z f = tt

pub free_hand : (c : Core) (p begin : ℕ) (u : Task) → Free u → Hand c p begin u
free_hand c p begin u f = record { in_hand = hand_in c.shared begin u f.hand; within = hand_within c.shared u f.hand; none = λ q _. hand_none begin u q (c.seats q) f.hand }

passed_none : (u : Task) (all : ℕ) → Unsettled u → passed_of u all ≡ 0
passed_none (task.Settles reads writes) all f = f
passed_none (task.ReadOwned read owner) all f = absurd f
passed_none (task.ReadClear read) all f = absurd f
passed_none (task.ReadOvertaken read overwriter) all f = absurd f
passed_none (task.ReadersLeft write bits) all f = absurd f
passed_none (task.WriteClear write) all f = absurd f
passed_none (task.WriteMade write) all f = absurd f
passed_none (task.Fills words) all f = absurd f
passed_none _ all f = refl

left_none : (x : Part) (u : Task) (q : ℕ) (z : Part) → Unsettled u → NoneLeft x u q z
left_none x (task.ReadOwned read owner) q z f = absurd f
left_none x _ q z f = tt

-- a task in which settle has passed nothing
pub unsettled : (c : Core) (p : ℕ) (y : Part) → Unsettled y.task → Settle c p y
unsettled c p y f = record {
  passed = λ q _ k a b h. let e = passed_none y.task (length y.current.reads) f in omega (arith, a, e);
  left = λ q _. left_none y y.task q (c.seats q) f;
}

-- the hand, and what settle has passed, of a task that stays
pub hand_same : (c : Core) (p : ℕ) → Sound c → Hand c p (c.seats p).current.begin (c.seats p).task
hand_same c p sound = record {
  in_hand = (sound.own p).snapshot.in_hand;
  within = named_within c.shared (c.seats p).task (sound.own p).chains.named;
  none = λ q ne. (sound.both p q (λ e. ne (sym e))).snapshot.in_hand;
}

-- other seats' claims on a version read, where reads and the range stay
pub over_same : (x y z : Part) (k : ℕ) → y.current.reads ≡ x.current.reads → y.current.stamp ≡ x.current.stamp →
    Overwriting z (read_at y.current k).version y.current.stamp → Overwriting z (read_at x.current k).version x.current.stamp
over_same x y z k reads stamp h = subst (λ n. Overwriting z (read_at x.current k).version n) stamp (subst (λ (v : VersionAt). Overwriting z v y.current.stamp) (same_read x.current y.current k reads) h)
  where
    same_read : (t u : Attempt) (k : ℕ) → u.reads ≡ t.reads → (read_at u k).version ≡ (read_at t k).version
    same_read t u k e = cc

pub settle_passed : (c : Core) (p : ℕ) (y : Part) → Sound c → Same (c.seats p) y → (k : ℕ) → k < passed_of (c.seats p).task (length (c.seats p).current.reads) → k < length y.current.reads →
    (q : ℕ) → q ≢ p → Overwriting (c.seats q) (read_at y.current k).version y.current.stamp → ⊥
settle_passed c p y sound same k a b q ne h =
    (sound.both p q (λ e. ne (sym e))).snapshot.passed k a (subst (λ (rs : List Read). k < length rs) same.reads b) (over_same (c.seats p) y (c.seats q) k same.reads same.stamp h)

left_same : (x y : Part) (u : Task) (q : ℕ) (z : Part) → Same x y → NoneLeft x u q z → NoneLeft y u q z
left_same x y (task.ReadOwned read owner) q z same left = λ ne h. left ne (over_same x y z read same.reads same.stamp h)
left_same x y _ q z same left = tt

pub settle_same : (c : Core) (p : ℕ) (y : Part) → Sound c → Same (c.seats p) y → y.task ≡ (c.seats p).task → Settle c p y
settle_same c p y sound same task = record {
  passed = λ q ne k a b h. settle_passed c p y sound same k (passed_same y.task (c.seats p).task y.current.reads (c.seats p).current.reads k task same.reads a) b q ne h;
  left = λ q ne. subst (λ (u : Task). NoneLeft y u q (c.seats q)) (sym task) (left_same (c.seats p) y (c.seats p).task q (c.seats q) same (sound.both p q (λ e. ne (sym e))).snapshot.left);
}
  where
    passed_same : (t u : Task) (rs qs : List Read) (k : ℕ) → t ≡ u → rs ≡ qs → k < passed_of t (length rs) → k < passed_of u (length qs)
    passed_same t u rs qs k e f h = subst (λ (ws : List Read). k < passed_of u (length ws)) f (subst (λ (w : Task). k < passed_of w (length rs)) e h)
