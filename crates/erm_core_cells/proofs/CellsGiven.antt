-- What a sound state gives a seat's step, and sums over seats where one part changes.
use Rattle.std.proofs.Common.{◌≡◌, ℕ, zero, suc, ◌<◌, ◌≤◌, ⊎_elim, Bool, true, false, ltb, leb, List, [], ◌∷◌, ◌++◌, length, refl, sym, subst, arith}
use Rattle.std.proofs.lemmas.Bool.{and_parts, or_cases, leb-true, eqb-true}
use Rattle.erm_machine.specs.declared.limits.TheConstants.{ANNOUNCERS, SESSIONS, FLUSH_SEAT}
use Rattle.erm_machine.specs.declared.part.Part.{Part}
use Rattle.erm_machine.specs.declared.task.Task.{Task}
use Rattle.erm_machine.specs.declared.task.Task.TheVariants as task
use Rattle.erm_machine.specs.Chains.{CutInHand}
use Rattle.erm_machine.specs.Core.{Core, Shared}
use Rattle.erm_machine.specs.Facts.{total, HasBegun, Holds}
use Rattle.erm_machine.specs.Sound.{Sound}
use Rattle.erm_machine.specs.Words.{put, is_seat, is_session, is_flusher}
use Rattle.erm_machine.proofs.Frames.{at_cases}
use Rattle.erm_machine.proofs.Holders.{stands_at}
use Rattle.erm_core_cells.proofs.CellsCalls.{Cutting}
use Rattle.erm_core_cells.proofs.CellsSteps.{Given}

-- a seat that holds an object has a claim
pub has_claim : (x : Part) (oid : ℕ) → Holds x oid → 0 < length x.current.writes
has_claim x oid h = let at = stands_at x.current h.0 h.1 in let within = at.within in omega (arith, within)

cutting_from : (s : Shared) (x : Part) (t : Task) → CutInHand s x t → Cutting x t
cutting_from s x (task.CutPassed version horizon) h = has_claim x _ h.claimed
cutting_from s x (task.CutFound version horizon) h = has_claim x _ h.0.claimed
cutting_from s x (task.Detaches version) h = has_claim x _ h.claimed
cutting_from s x _ h = tt

-- the flush seat is no session
flusher_apart : (p : ℕ) → is_flusher p ≡ true → is_session p ≡ false
flusher_apart p e = grind arith

none_behind : (ms ns : List ℕ) → ms ++ ns ≡ [] → ns ≡ []
none_behind [] ns e = e
none_behind (m ∷ ms) ns e = absurd (cc)

pub given : (c : Core) (p : ℕ) → Sound c → Given p (c.seats p)
given c p sound = record {
  current = (sound.own p).ranges.current;
  fits = (sound.own p).task.fits;
  wants = (sound.own p).cells.wants;
  cutting = cutting_from c.shared (c.seats p) (c.seats p).task (sound.own p).chains.cut;
  none = (sound.own p).claims.none;
  unmade = λ flusher. none_behind _ (c.seats p).current.made ((sound.own p).made.maker (flusher_apart p flusher));
}

-- a seat that has begun is one of those that are counted
seat_below : (p : ℕ) → is_seat p ≡ true → p < ANNOUNCERS
seat_below p e =
    ⊎_elim (λ (s : is_session p ≡ true). let h = leb-true p SESSIONS (and_parts (ltb 0 p) (leb p SESSIONS) s).1 in omega (arith, h)) (λ (f : is_flusher p ≡ true). let h = eqb-true p FLUSH_SEAT f in omega (arith, h))
    (or_cases (is_session p) (is_flusher p) e)

pub begun_below : (c : Core) (p : ℕ) → Sound c → HasBegun (c.seats p).place → p < ANNOUNCERS
begun_below c p sound begun = by_test (is_seat p) refl
  where
    by_test : (b : Bool) → is_seat p ≡ b → p < ANNOUNCERS
    by_test true e = seat_below p e
    by_test false e = absurd (subst HasBegun ((sound.own p).ranges.seat_of e) begun)

-- a sum where one value falls
pub total_falls : {X : Type 0} (g : X → ℕ) (n : ℕ) (f : ℕ → X) (k : ℕ) (v : X) → g v ≤ g (f k) → total g n (put f k v) ≤ total g n f
unfolding total
total_falls g zero f k v less = omega arith
total_falls g (suc n) f k v less =
    let before = total_falls g n f k v less in
    let here : g (put f k v n) ≤ g (f n) = at_cases (λ w. g w ≤ g (f n)) f k v n (λ is. subst (λ m. g v ≤ g (f m)) (sym is) less) (λ _. omega arith) in
    omega (arith, before, here)

-- a sum of values of 0 and 1
pub total_ones : {X : Type 0} (g : X → ℕ) (n : ℕ) (f : ℕ → X) → ((x : X) → g x ≤ 1) → total g n f ≤ n
unfolding total
total_ones g zero f few = omega arith
total_ones g (suc n) f few = let rest = total_ones g n f few in let here = few (f n) in omega (arith, rest, here)
