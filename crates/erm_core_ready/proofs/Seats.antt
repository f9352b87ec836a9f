-- A seat that has no words is vacant, so a search needn't come to it.
use Rattle.std.proofs.Common.{◌≡◌, ℕ, ◌+◌, ◌<◌, ◌≤◌, ◌⊎◌, ⊎_elim, Option, Some, None, MatchOption, refl, sym, ◌∙◌, subst, inl, inr, arith}
use Rattle.std.proofs.lemmas.Bool.{cases_lt, false_from_ne_true}
use Rattle.erm_machine.specs.declared.limits.TheConstants.{ANNOUNCERS}
use Rattle.erm_machine.specs.declared.place.Place.{Place}
use Rattle.erm_machine.specs.declared.place.Place.TheVariants.{Vacant, Sealed, Decided, Leaving}
use Rattle.erm_machine.specs.declared.task.Task.{Task}
use Rattle.erm_machine.specs.declared.task.Task.TheVariants as task
use Rattle.erm_machine.specs.Core.{Core}
use Rattle.erm_machine.specs.Sound.{Sound}
use Rattle.erm_machine.specs.Words.{is_seat}
use Rattle.erm_core_calls.proofs.Seats.{seat_low}
use Rattle.erm_core_stall.specs.Waiting.{IsLeastPending, IsLeastSealed, IsPending, IsSealedAt, IsUnfinished, NoneSealed, OnlyPending}
use Rattle.erm_core_ready.specs.declared.Least.{Least}
use Rattle.erm_core_ready.specs.Next.{AllOver, FoundBelow, HasBegin, HasStamp, IsActing}

pub vacant_above : (c : Core) → Sound c → (q : ℕ) → ANNOUNCERS ≤ q → (c.seats q).place ≡ Vacant
vacant_above c sound q above = (sound.own q).ranges.seat_of (false_from_ne_true (is_seat q) (λ seat. let low = seat_low q seat in omega (arith, low, above)))

-- what no seat below a number is, and no vacant one, none is
pub none_anywhere : (c : Core) → Sound c → (P : Place → Type 0) → (P Vacant → ⊥) → ((q : ℕ) → q < ANNOUNCERS → P (c.seats q).place → ⊥) → (q : ℕ) → P (c.seats q).place → ⊥
none_anywhere c sound P never none q h =
    ⊎_elim (λ (low : q < ANNOUNCERS). none q low h) (λ (above : ANNOUNCERS ≤ q). never (subst P (vacant_above c sound q above) h)) (cases_lt q ANNOUNCERS)

-- one more seat isn't it either
pub one_more : (P : ℕ → Type 0) (n : ℕ) → ((q : ℕ) → q < n → P q → ⊥) → (P n → ⊥) → (q : ℕ) → q < n + 1 → P q → ⊥
one_more P n before never q low h =
    ⊎_elim (λ (less : q < n). before q less h) (λ (past : n ≤ q). let same : q ≡ n = omega (arith, low, past) in never (subst P same h)) (cases_lt q n)

-- where no seat has anything to do but to look whether a snapshot is safe
pending_or_not : (u : Task) → IsPending u ⊎ (IsPending u → ⊥)
pending_or_not (task.Surveys next) = inl tt
pending_or_not (task.Behind next) = inl tt
pending_or_not _ = inr (λ h. h)

pub only_pending : (c : Core) → Sound c → (n : ℕ) → ANNOUNCERS ≤ n → ((q : ℕ) → q < n → IsActing c q → ⊥) → OnlyPending c
only_pending c sound n all none q up =
    ⊎_elim (λ (pending : IsPending (c.seats q).task). pending)
    (λ (other : IsPending (c.seats q).task → ⊥).
    ⊎_elim (λ (low : q < n). absurd (none q low (up, other)))
    (λ (above : n ≤ q). absurd (subst IsUnfinished (vacant_above c sound q (omega (arith, above, all))) up)) (cases_lt q n))
    (pending_or_not (c.seats q).task)

-- the state word of a place is one
one_stamp : (pl : Place) (s r : ℕ) → IsSealedAt s pl → IsSealedAt r pl → s ≡ r
one_stamp (Sealed tail stamp) s r h k = h ∙ sym k
one_stamp (Decided tail stamp) s r h k = h ∙ sym k
one_stamp (Leaving stamp) s r h k = h ∙ sym k
one_stamp pl s r h k = absurd h

module _ (has : ℕ → ℕ → Type 0) (n : ℕ) (one : (s r : ℕ) → has n s → has n r → s ≡ r) where
  -- a stamp at most those of the seats before, and at most that of this one, where it has one
  least_on : (b : ℕ) → ((q s : ℕ) → q < n → has q s → b ≤ s) → ((s : ℕ) → has n s → b ≤ s) → (q s : ℕ) → q < n + 1 → has q s → b ≤ s
  least_on b before here q s low h =
      ⊎_elim (λ (less : q < n). before q s less h)
      (λ (past : n ≤ q). let same : q ≡ n = omega (arith, low, past) in here s (subst (λ k. has k s) same h))
      (cases_lt q n)

  none_on : ((q s : ℕ) → q < n → has q s → ⊥) → ((s : ℕ) → has n s → ⊥) → (q s : ℕ) → q < n + 1 → has q s → ⊥
  none_on before here q s low h = one_more (λ k. has k s) n (λ r less. before r s less) (here s) q low h

  -- a seat that is the lowest with a stamp
  lowest_on : (p b : ℕ) → ((q : ℕ) → q < n → has q b → p ≤ q) → (has n b → p ≤ n) → (q : ℕ) → q < n + 1 → has q b → p ≤ q
  lowest_on p b before here q low h =
      ⊎_elim (λ (less : q < n). before q less h)
      (λ (past : n ≤ q). let same : q ≡ n = omega (arith, low, past) in let last = here (subst (λ k. has k b) same h) in omega (arith, last, same))
      (cases_lt q n)

  pub stays_found : (found : Option Least) → ((s : ℕ) → has n s → ⊥) → FoundBelow has n found → FoundBelow has (n + 1) found
  stays_found None none before = none_on before none
  stays_found (Some b) none before = record {
    within = before.within;
    below = let low = before.below in omega (arith, low);
    there = before.there;
    least = least_on b.stamp before.least (λ s h. absurd (none s h));
    lowest = lowest_on b.seat b.stamp before.lowest (λ h. absurd (none b.stamp h));
  }

  pub first_found : (stamp : ℕ) → n < ANNOUNCERS → has n stamp → FoundBelow has n None → FoundBelow has (n + 1) (Some (record { seat = n; stamp = stamp }))
  first_found stamp low here before = record {
    within = low;
    below = omega arith;
    there = here;
    least = least_on stamp (λ q s less h. absurd (before q s less h)) (λ s h. let same = one stamp s here h in omega (arith, same));
    lowest = lowest_on n stamp (λ q less h. absurd (before q stamp less h)) (λ _. omega arith);
  }

  pub kept_found : (b : Least) (stamp : ℕ) → has n stamp → b.stamp ≤ stamp → FoundBelow has n (Some b) → FoundBelow has (n + 1) (Some b)
  kept_found b stamp here less before = record {
    within = before.within;
    below = let low = before.below in omega (arith, low);
    there = before.there;
    least = least_on b.stamp before.least (λ s h. let same = one stamp s here h in omega (arith, same, less));
    lowest = lowest_on b.seat b.stamp before.lowest (λ _. let low = before.below in omega (arith, low));
  }

  pub lower_found : (b : Least) (stamp : ℕ) → n < ANNOUNCERS → has n stamp → stamp < b.stamp → FoundBelow has n (Some b) → FoundBelow has (n + 1) (Some (record { seat = n; stamp = stamp }))
  lower_found b stamp low here less before = record {
    within = low;
    below = omega arith;
    there = here;
    least = least_on stamp (λ q s below h. let up = before.least q s below h in omega (arith, up, less)) (λ s h. let same = one stamp s here h in omega (arith, same));
    lowest = lowest_on n stamp (λ q below h. let up = before.least q stamp below h in absurd (omega (arith, up, less))) (λ _. omega arith);
  }

pub one_sealed : (c : Core) (n s r : ℕ) → HasStamp c n s → HasStamp c n r → s ≡ r
one_sealed c n s r h k = one_stamp (c.seats n).place s r h k

pub one_begun : (c : Core) (n s r : ℕ) → HasBegin c n s → HasBegin c n r → s ≡ r
one_begun c n s r h k = h.1 ∙ sym k.1

-- the whole search
pub all_found : (c : Core) → Sound c → (n : ℕ) → ANNOUNCERS ≤ n → (found : Option Least) → FoundBelow (HasStamp c) n found →
    MatchOption found (NoneSealed c) (λ (b : Least). (b.seat < ANNOUNCERS) × IsLeastSealed c b.seat b.stamp)
all_found c sound n all None before = λ q s h. none_anywhere c sound (IsSealedAt s) (λ never. never) (λ r low. before r s (omega (arith, low, all))) q h
all_found c sound n all (Some b) before = (
  before.within,
  record {
    sealed = before.there;
    least = λ q s h.
        ⊎_elim (λ (low : q < n). before.least q s low h)
        (λ (above : n ≤ q). absurd (subst (IsSealedAt s) (vacant_above c sound q (omega (arith, above, all))) h))
        (cases_lt q n);
  },
)

-- one that isn't over is below the number
up_below : (c : Core) → Sound c → (n : ℕ) → ANNOUNCERS ≤ n → (q : ℕ) → IsUnfinished (c.seats q).place → q < n
up_below c sound n all q up =
    ⊎_elim (λ (low : q < n). low) (λ (above : n ≤ q). absurd (subst IsUnfinished (vacant_above c sound q (omega (arith, above, all))) up)) (cases_lt q n)

pub all_begun : (c : Core) → Sound c → (n : ℕ) → ANNOUNCERS ≤ n → (found : Option Least) → FoundBelow (HasBegin c) n found →
    MatchOption found (AllOver c) (λ (b : Least). IsLeastPending c b.seat)
all_begun c sound n all None before = λ p up. before p (c.seats p).current.begin (up_below c sound n all p up) (up, refl)
all_begun c sound n all (Some b) before =
    let begin = before.there.1 in
    record {
      unfinished = before.there.0;
      least = λ q up. let h = before.least q (c.seats q).current.begin (up_below c sound n all q up) (up, refl) in omega (arith, h, begin);
      lowest = λ q up same. before.lowest q (up_below c sound n all q up) (up, begin ∙ sym same);
    }
