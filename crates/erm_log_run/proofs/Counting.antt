-- How many sessions aren't idle, while they are closed.
use Rattle.std.proofs.Common.{inl, inr, ◌≡◌, ℕ, zero, suc, ◌+◌, ◌<◌, ◌≤◌, refl, sym, ap, ◌∙◌, subst, arith}
use Rattle.std.specs.Prelude.{◌⊎◌}
use Rattle.erm_world.specs.World.{Session, Stand, Work}
use Rattle.erm_world.specs.World as world
use Rattle.erm_log_run.specs.Closing.{count_open, open_in}

open_one : (s : Stand) → open_in s ≤ 1
open_one world.idle = omega arith
open_one (world.active w) = omega arith
open_one (world.sealed w stamp) = omega arith
open_one (world.snapshot s) = omega arith

pub count_most : (n : ℕ) (s : ℕ → Session) → count_open n s ≤ n
count_most zero s = omega arith
count_most (suc n) s = let rest = count_most n s in let one = open_one (s (suc n)).stand in omega (arith, rest, one)

pub count_less : (n : ℕ) (s t : ℕ → Session) → ((q : ℕ) → 0 < q → q ≤ n → open_in (t q).stand ≤ open_in (s q).stand) → count_open n t ≤ count_open n s
count_less zero s t each = omega arith
count_less (suc n) s t each =
    let rest = count_less n s t (λ q positive few. each q positive (omega (arith, few))) in let one = each (suc n) (omega arith) (omega arith) in omega (arith, rest, one)

pub count_down : (n p : ℕ) (s t : ℕ → Session) → ((q : ℕ) → 0 < q → q ≤ n → open_in (t q).stand ≤ open_in (s q).stand)
    → 0 < p → p ≤ n → open_in (t p).stand < open_in (s p).stand → count_open n t < count_open n s
count_down zero p s t each positive few less = absurd (omega (arith, positive, few))
count_down (suc n) p s t each positive few less =
    let one = each (suc n) (omega arith) (omega arith) in
    elim (last p n few) [
      | inl low ↦ let rest = count_down n p s t (λ q pos le. each q pos (omega (arith, le))) positive low less in omega (arith, rest, one)
      | inr is ↦ let rest = count_less n s t (λ q pos le. each q pos (omega (arith, le))) in
          let here = subst (λ (q : ℕ). open_in (t q).stand < open_in (s q).stand) is less in omega (arith, rest, here)
    ]
  where
    last : (p n : ℕ) → p ≤ suc n → (p ≤ n) ⊎ (p ≡ suc n)
    last p n few = grind arith

pub none_open : (n : ℕ) (s : ℕ → Session) → count_open n s ≡ 0 → (q : ℕ) → 0 < q → q ≤ n → open_in (s q).stand ≡ 0
none_open zero s none q positive few = absurd (omega (arith, positive, few))
none_open (suc n) s none q positive few =
    let sum : count_open n s + open_in (s (suc n)).stand ≡ 0 = none in
    elim (last q n few) [
      | inl low ↦ none_open n s (omega (arith, sum)) q positive low
      | inr is ↦ ap (λ (p : ℕ). open_in (s p).stand) is ∙ omega (arith, sum)
    ]
  where
    last : (p n : ℕ) → p ≤ suc n → (p ≤ n) ⊎ (p ≡ suc n)
    last p n few = grind arith

-- a session isn't idle
pub record IsOpen (n : ℕ) (s : ℕ → Session) : Type 0 where
  pub seat : ℕ
  pub positive : 0 < seat
  pub few : seat ≤ n
  pub busy : 0 < open_in (s seat).stand

pub some_open : (n : ℕ) (s : ℕ → Session) → 0 < count_open n s → IsOpen n s
some_open zero s some = absurd (let all : 0 < 0 = some in omega (arith, all))
some_open (suc n) s some =
    let sum : 0 < count_open n s + open_in (s (suc n)).stand = some in
    elim (either (count_open n s) (open_in (s (suc n)).stand) sum) [
      | inl low ↦ let rest = some_open n s low in record { seat = rest.seat; positive = rest.positive; few = let f = rest.few in omega (arith, f); busy = rest.busy }
      | inr here ↦ record { seat = suc n; positive = omega arith; few = omega arith; busy = here }
    ]
  where
    either : (a b : ℕ) → 0 < a + b → (0 < a) ⊎ (0 < b)
    either a b sum = grind arith

-- the least stamp of those that are sealed
pub record IsLeastUpto (n : ℕ) (s : ℕ → Session) : Type 0 where
  pub seat : ℕ
  pub positive : 0 < seat
  pub few : seat ≤ n
  pub work : Work
  pub stamp : ℕ
  pub sealed : (s seat).stand ≡ world.sealed work stamp
  pub least : (q seen : ℕ) (w : Work) → 0 < q → q ≤ n → (s q).stand ≡ world.sealed w seen → stamp ≤ seen

-- none is sealed
abbrev pub NoneIsSealed : ℕ → (ℕ → Session) → Type 0
NoneIsSealed n s = (q seen : ℕ) (w : Work) → 0 < q → q ≤ n → (s q).stand ≡ world.sealed w seen → ⊥

pub least_upto : (n : ℕ) (s : ℕ → Session) → NoneIsSealed n s ⊎ IsLeastUpto n s
least_upto zero s = inl (λ q seen w positive few. absurd (omega (arith, positive, few)))
least_upto (suc n) s = one_more n s (s (suc n)).stand refl (least_upto n s)
  where
    last : (p n : ℕ) → p ≤ suc n → (p ≤ n) ⊎ (p ≡ suc n)
    last p n few = grind arith

    not_sealed : (stand : Stand) (w : Work) (seen : ℕ) → stand ≡ world.sealed w seen → ((u : Work) (c : ℕ) → stand ≡ world.sealed u c → ⊥) → ⊥
    not_sealed stand w seen is none = none w seen is

    stamp_is : (stand : Stand) (w u : Work) (c d : ℕ) → stand ≡ world.sealed w c → stand ≡ world.sealed u d → c ≡ d
    stamp_is stand w u c d first second = cc

    extends_none : (n : ℕ) (s : ℕ → Session) → ((u : Work) (c : ℕ) → (s (suc n)).stand ≡ world.sealed u c → ⊥) → NoneIsSealed n s ⊎ IsLeastUpto n s → NoneIsSealed (suc n) s ⊎ IsLeastUpto (suc n) s
    extends_none n s busy (inl none) = inl (λ q seen w positive few is. elim (last q n few) [
      | inl low ↦ none q seen w positive low is
      | inr e ↦ busy w seen (subst (λ (p : ℕ). (s p).stand ≡ world.sealed w seen) e is)
    ])
    extends_none n s busy (inr l) = inr (record {
      seat = l.seat;
      positive = l.positive;
      few = let f = l.few in omega (arith, f);
      work = l.work;
      stamp = l.stamp;
      sealed = l.sealed;
      least = λ q seen w positive few is. elim (last q n few) [
        | inl low ↦ l.least q seen w positive low is
        | inr e ↦ absurd (busy w seen (subst (λ (p : ℕ). (s p).stand ≡ world.sealed w seen) e is))
      ];
    })

    here : (n : ℕ) (s : ℕ → Session) (w : Work) (c : ℕ) → (s (suc n)).stand ≡ world.sealed w c → NoneIsSealed n s ⊎ IsLeastUpto n s → IsLeastUpto (suc n) s
    here n s w c is (inl none) = record {
      seat = suc n;
      positive = omega arith;
      few = omega arith;
      work = w;
      stamp = c;
      sealed = is;
      least = λ q seen u positive few at. elim (last q n few) [
        | inl low ↦ absurd (none q seen u positive low at)
        | inr e ↦ (let same = stamp_is (s (suc n)).stand w u c seen is (subst (λ (p : ℕ). (s p).stand ≡ world.sealed u seen) e at) in omega (arith, same))
      ];
    }
    here n s w c is (inr l) = elim (compare c l.stamp) [
      | inl low ↦ record {
        seat = suc n;
        positive = omega arith;
        few = omega arith;
        work = w;
        stamp = c;
        sealed = is;
        least = λ q seen u positive few at. elim (last q n few) [
          | inl le ↦ (let rest = l.least q seen u positive le at in omega (arith, rest, low))
          | inr e ↦ (let same = stamp_is (s (suc n)).stand w u c seen is (subst (λ (p : ℕ). (s p).stand ≡ world.sealed u seen) e at) in omega (arith, same))
        ];
      }
      | inr above ↦ record {
        seat = l.seat;
        positive = l.positive;
        few = let f = l.few in omega (arith, f);
        work = l.work;
        stamp = l.stamp;
        sealed = l.sealed;
        least = λ q seen u positive few at. elim (last q n few) [
          | inl le ↦ l.least q seen u positive le at
          | inr e ↦ (let same = stamp_is (s (suc n)).stand w u c seen is (subst (λ (p : ℕ). (s p).stand ≡ world.sealed u seen) e at) in omega (arith, same, above))
        ];
      }
    ]
      where
        compare : (a b : ℕ) → (a ≤ b) ⊎ (b ≤ a)
        compare a b = grind arith

    one_more : (n : ℕ) (s : ℕ → Session) (stand : Stand) → stand ≡ (s (suc n)).stand → NoneIsSealed n s ⊎ IsLeastUpto n s → NoneIsSealed (suc n) s ⊎ IsLeastUpto (suc n) s
    one_more n s world.idle e upto = extends_none n s (λ u c is. let no : world.idle ≡ world.sealed u c = e ∙ is in cc) upto
    one_more n s (world.active w) e upto = extends_none n s (λ u c is. let no : world.active w ≡ world.sealed u c = e ∙ is in cc) upto
    one_more n s (world.snapshot x) e upto = extends_none n s (λ u c is. let no : world.snapshot x ≡ world.sealed u c = e ∙ is in cc) upto
    one_more n s (world.sealed w c) e upto = inr (here n s w c (sym e) upto)
