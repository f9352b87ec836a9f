-- What a sound state says of a seat's own blocks, after a step that leaves each block as it was.
use Rattle.std.proofs.Common.{◌≡◌, ◌≢◌, ℕ, ◌+◌, ◌<◌, ◌≤◌, ⊎_elim, true, List, ◌∷◌, ◌++◌, [], refl, sym, ap, ◌∙◌, subst, arith}
use Rattle.erm_model.specs.Member.{◌∈◌}
use Rattle.erm_model.proofs.Members.{∈-push}
use Rattle.erm_machine.specs.declared.attempt.Attempt.{Attempt}
use Rattle.erm_machine.specs.declared.attempt.Decision.TheVariants.{Undecided}
use Rattle.erm_machine.specs.declared.limits.TheConstants.{RING_WORDS}
use Rattle.erm_machine.specs.declared.part.Part.{Part}
use Rattle.erm_machine.specs.declared.place.Place.TheVariants.{Vacant}
use Rattle.erm_machine.specs.declared.task.Task.{Task}
use Rattle.erm_machine.specs.Core.{Shared}
use Rattle.erm_machine.specs.Facts.{all_of}
use Rattle.erm_machine.specs.Log.{HasRoom, HeaderFits, OwnLog}
use Rattle.erm_machine.specs.Words.{is_flusher}
use Rattle.erm_machine.proofs.Listed.{∈-first, ∈-second, ∈-head}
use Rattle.erm_machine.proofs.Quiet.{Steady}
use Rattle.erm_core_ring.proofs.Onward.{Before, SameBlock, header_from, same_block}
use Rattle.erm_core_ring.proofs.Stays.{Stays}

-- a transaction that is over stands among a seat's, and so does the current one
pub over_stands : (x : Part) (t : Attempt) → t ∈ x.over → t ∈ all_of x
over_stands x t m = ∈-first x.over (x.current ∷ []) t m

pub current_stands : (x : Part) → x.current ∈ all_of x
current_stands x = ∈-second x.over (x.current ∷ []) x.current (∈-head x.current [])

-- another seat's facts stay: the place flushed never falls
pub other_own : (s t : Shared) (q : ℕ) (x : Part) → t.run ≡ s.run → s.flushed ≤ t.flushed → OwnLog s q x → OwnLog t q x
other_own s t q x run less own = record {
  undecided = own.undecided;
  headers = λ u m drawn decided. subst (λ n. HeaderFits n u) (sym run) (own.headers u m drawn decided);
  fits = λ u m drawn. let h = own.fits u m drawn in omega (arith, h, less);
  fits_now = λ room. let h = own.fits_now room in omega (arith, h, less);
  still = own.still;
  taken = own.taken;
}

-- each range of a seat was one with the same block
abbrev pub KeepsBlocks : Part → Part → Type 0
KeepsBlocks x y = (u : Attempt) → u ∈ all_of y → 0 < u.stamp → Before x u SameBlock

-- the transactions that are over stay, and so does the range of the current one, if it has one
pub keeps_current : (x y : Part) → y.over ≡ x.over → (0 < y.current.stamp → SameBlock x.current y.current) → KeepsBlocks x y
keeps_current x y over same u m drawn =
    ⊎_elim
    (λ (before : u ∈ y.over). record { old = u; stands = over_stands x u (subst (λ (ts : List Attempt). u ∈ ts) over before); is = same_block u u refl })
    (λ (is : u ≡ y.current). record {
      old = x.current;
      stands = current_stands x;
      is = subst (SameBlock x.current) (sym is) (same (subst (λ (v : Attempt). 0 < v.stamp) is drawn));
    })
    (∈-push y.over y.current u m)

pub steady_blocks : (x : Part) (t : Task) (y : Part) → Steady x y → Stays x t y → KeepsBlocks x y
steady_blocks x t y steady stays =
    keeps_current x y steady.over (λ _. record { stamp = steady.stamp; size = steady.size; decision = steady.decision; header = stays.header; block = stays.block })

-- one more transaction is over
pub keeps_ended : (x y : Part) (t : Attempt) → y.over ≡ x.over ++ t ∷ [] → (0 < t.stamp → SameBlock x.current t) → y.current.stamp ≡ 0 → KeepsBlocks x y
keeps_ended x y t over same none u m drawn =
    ⊎_elim
    (λ (before : u ∈ y.over).
    ⊎_elim
    (λ (earlier : u ∈ x.over). record { old = u; stands = over_stands x u earlier; is = same_block u u refl })
    (λ (is : u ≡ t). record { old = x.current; stands = current_stands x; is = subst (SameBlock x.current) (sym is) (same (subst (λ (v : Attempt). 0 < v.stamp) is drawn)) })
    (∈-push x.over t u (subst (λ (ts : List Attempt). u ∈ ts) over before)))
    (λ (is : u ≡ y.current). absurd (let n : u.stamp ≡ y.current.stamp = ap (λ (v : Attempt). v.stamp) is in omega (arith, n, none, drawn)))
    (∈-push y.over y.current u m)

module _ (s : Shared) (p : ℕ) (x : Part) (own : OwnLog s p x) where
  -- the headers of blocks that stay
  pub headers_from : (y : Part) → KeepsBlocks x y → (u : Attempt) → u ∈ all_of y → 0 < u.stamp → u.decision ≢ Undecided → HeaderFits s.run u
  headers_from y keeps u m drawn decided =
      let b = keeps u m drawn in
      header_from s.run b.old u b.is (own.headers b.old b.stands (let h = b.is.stamp in omega (arith, h, drawn)) (λ e. decided (b.is.decision ∙ e)))

  -- a step that leaves the seat at its place
  pub steady_own : (t : Task) (y : Part) → Steady x y → Stays x t y → t ≡ x.task → OwnLog s p y
  steady_own t y steady stays at = record {
    undecided = λ e. stays.header ∙ own.undecided (sym steady.decision ∙ e);
    headers = headers_from y (steady_blocks x t y steady stays);
    fits = λ u m drawn. own.fits u (subst (λ (ts : List Attempt). u ∈ ts) steady.over m) drawn;
    fits_now = λ room.
        let h = own.fits_now (subst (HasRoom x.place) at (stays.room room)) in
        let a = steady.stamp in
        let b = steady.size in
        omega (arith, h, a, b);
    still = λ other. stays.flushing ∙ own.still other;
    taken = λ flusher vacant. own.taken flusher (sym steady.place ∙ vacant);
  }

  -- a step of another kind, where the transactions that are over stay, and no room is looked for
  pub moved_own : (y : Part) → y.over ≡ x.over → (0 < y.current.stamp → SameBlock x.current y.current) → (y.current.decision ≡ Undecided → y.current.header ≡ 0) →
      (HasRoom y.place y.task → (HasRoom x.place x.task) × (y.current ≡ x.current)) → y.flushing ≡ x.flushing → (is_flusher p ≡ true → y.place ≢ Vacant) → OwnLog s p y
  moved_own y over same undecided room flushing taken = record {
    undecided = undecided;
    headers = headers_from y (keeps_current x y over same);
    fits = λ u m drawn. own.fits u (subst (λ (ts : List Attempt). u ∈ ts) over m) drawn;
    fits_now = λ found. let r = room found in subst (λ (t : Attempt). t.stamp + t.size ≤ s.flushed + RING_WORDS) (sym r.1) (own.fits_now r.0);
    still = λ other. flushing ∙ own.still other;
    taken = taken;
  }

  -- the current transaction is over
  pub ended_own : (y : Part) (t : Attempt) → y.over ≡ x.over ++ t ∷ [] → (0 < t.stamp → SameBlock x.current t) → y.current.stamp ≡ 0 → y.current.header ≡ 0 →
      (0 < t.stamp → HasRoom x.place x.task) → (HasRoom y.place y.task → ⊥) → y.flushing ≡ x.flushing → y.place ≢ Vacant → OwnLog s p y
  ended_own y t over same none blank room unsettled flushing taken = record {
    undecided = λ _. blank;
    headers = headers_from y (keeps_ended x y t over same none);
    fits = λ u m drawn.
        ⊎_elim
        (λ (earlier : u ∈ x.over). own.fits u earlier drawn)
        (λ (is : u ≡ t).
        let positive = subst (λ (v : Attempt). 0 < v.stamp) is drawn in
        let h = own.fits_now (room positive) in
        let a : u.stamp ≡ x.current.stamp = ap (λ (v : Attempt). v.stamp) is ∙ (same positive).stamp in
        let b : u.size ≡ x.current.size = ap (λ (v : Attempt). v.size) is ∙ (same positive).size in
        omega (arith, h, a, b))
        (∈-push x.over t u (subst (λ (ts : List Attempt). u ∈ ts) over m));
    fits_now = λ found. absurd (unsettled found);
    still = λ other. flushing ∙ own.still other;
    taken = λ _. taken;
  }
