-- Claims that are over: installed, released, or dropped.
use Rattle.std.proofs.Common.{◌≡◌, ◌≢◌, ℕ, ◌+◌, ◌^◌, ◌<◌, ⊎_elim, Bool, true, false, cond, eqb, List, length, get_or, set, take, None, refl, sym, ap, ◌∙◌, subst, inr, arith, length-set, length-take, get_or-take, get_or-set_same, get_or-set_other}
use Rattle.std.proofs.lemmas.Bool.{cases_eq}
use Rattle.erm_machine.specs.declared.limits.TheConstants.{OBJECT_LIMIT}
use Rattle.erm_machine.specs.declared.attempt.Claim.{Claim}
use Rattle.erm_machine.specs.declared.part.Part.{Part}
use Rattle.erm_machine.specs.declared.task.Task.{Task}
use Rattle.erm_machine.specs.declared.task.Task.TheVariants as task
use Rattle.erm_machine.specs.Claims.{ObjectFits, OwnClaims, claims_over, step_of}
use Rattle.erm_machine.specs.Core.{Core, Shared, Object, claim_at, no_claim}
use Rattle.erm_machine.specs.Facts.{Holds}
use Rattle.erm_machine.specs.Seat.{last_claim}
use Rattle.erm_machine.specs.Sound.{Sound}
use Rattle.erm_machine.specs.Step.{with_object}
use Rattle.erm_machine.specs.Words.{put, owner_of}
use Rattle.erm_machine.proofs.Frames.{put_same, put_other}
use Rattle.erm_machine.proofs.Holders.{held_once}
use Rattle.erm_core_si.proofs.ClaimsObjects.{Alike, alike_same, plain_owner}
use Rattle.erm_core_si.proofs.ClaimsOwn.{ClaimOk, ok_at, own_from, ok_goes, held_at, holds_of, Changes, changed_own, Kept, kept_changed}
use Rattle.erm_core_si.proofs.ClaimsGentle.{ended_of, NoEnd, NotLeaving, over_known}
use Rattle.erm_core_si.proofs.ClaimsRefilled.{step_there}

-- no install has begun
pub step_zero : (raised ended cleared k : ℕ) → step_of (task.Ends raised ended 0 cleared) k ≡ 0
step_zero raised ended cleared k = none (eqb k ended) 0
  where
    none : (b : Bool) (n : ℕ) → cond b n n ≡ n
    none true n = refl
    none false n = refl

-- the claim that an end has come to is over
pub record Ended (s r : Shared) (x y : Part) (n : ℕ × ℕ × ℕ × ℕ) : Type 0 where
  pub within : n.1 < length x.current.writes
  pub writes : y.current.writes ≡ set x.current.writes n.1 (record (claim_at x.current n.1) { held = false; own = None })
  pub number : y.current.number ≡ x.current.number
  pub begin : y.current.begin ≡ x.current.begin
  pub from : NotLeaving x.place
  pub place : y.place ≡ x.place
  pub old : ended_of x.task ≡ n.1
  pub steps : (k : ℕ) → step_of x.task k ≡ step_of (task.Ends n.0 n.1 n.2 n.3) k
  pub task_is : y.task ≡ task.Ends n.0 (n.1 + 1) 0 n.3
  pub objects : (oid : ℕ) → oid ≢ (claim_at x.current n.1).version.oid → Alike (s.objects oid) (r.objects oid)
  pub unowned : owner_of (r.objects (claim_at x.current n.1).version.oid).entry ≡ 0

pub ended_own : (s r : Shared) (seat : ℕ) (x y : Part) (n : ℕ × ℕ × ℕ × ℕ) → Ended s r x y n → OwnClaims s seat x → OwnClaims r seat y
ended_own s r seat x y n f own =
    changed_own s r seat x y n.1 f.within changes ok (λ positive owner. let u = f.unowned in absurd (omega (arith, positive, owner, u))) own
  where
    here : claim_at y.current n.1 ≡ record (claim_at x.current n.1) { held = false; own = None }
    here = ap (λ ws. get_or ws n.1 no_claim) f.writes
        ∙ get_or-set_same x.current.writes n.1 (record (claim_at x.current n.1) { held = false; own = None }) no_claim f.within

    over_was : claims_over x ≡ n.1
    over_was = over_known x.place x.task (length x.current.writes) f.from ∙ f.old

    over_is : claims_over y ≡ n.1 + 1
    over_is = over_known y.place y.task (length y.current.writes) (subst NotLeaving (sym f.place) f.from) ∙ ap ended_of f.task_is

    ok : ClaimOk r seat y.current (claims_over y) (step_of y.task n.1) n.1 (claim_at y.current n.1)
    ok = subst (λ w. ClaimOk r seat y.current (claims_over y) (step_of y.task n.1) n.1 w) (sym here) (record {
      known = own.objects n.1 f.within;
      over = λ _. refl;
      none = λ _. refl;
      held = λ high. let e = over_is in absurd (omega (arith, e, high));
      fit = λ h. absurd (cc);
      install = λ h. absurd (cc);
    })

    changes : Changes s r x y n.1
    changes = record {
      many = ap (λ (ws : List Claim). length ws) f.writes ∙ length-set x.current.writes n.1 (record (claim_at x.current n.1) { held = false; own = None });
      same = λ k ne.
          ap (λ ws. get_or ws k no_claim) f.writes ∙ get_or-set_other x.current.writes n.1 k (record (claim_at x.current n.1) { held = false; own = None }) no_claim ne;
      oid_is = ap (λ (w : Claim). w.version.oid) here;
      objects = f.objects;
      goes = λ k ne. record {
        number = f.number;
        begin = f.begin;
        less = λ low. let a = over_was in let b = over_is in omega (arith, a, b, low, ne);
        more = λ high. let a = over_was in let b = over_is in omega (arith, a, b, high);
        step = λ _.
            let z : step_of x.task k ≡ 0 = f.steps k ∙ step_there n.0 n.1 n.2 n.3 k ne in
            inr (ap (λ (t : Task). step_of t k) f.task_is ∙ step_zero n.0 (n.1 + 1) n.3 k, omega (arith, z));
      };
    }

-- the newest claim is dropped
pub record Drops (s r : Shared) (x y : Part) : Type 0 where
  pub some : 0 < length x.current.writes
  pub writes : y.current.writes ≡ take (last_claim x.current) x.current.writes
  pub number : y.current.number ≡ x.current.number
  pub begin : y.current.begin ≡ x.current.begin
  pub from : NotLeaving x.place
  pub place : y.place ≡ x.place
  pub old : NoEnd x.task
  pub new : NoEnd y.task
  pub objects : (oid : ℕ) → oid ≢ (claim_at x.current (last_claim x.current)).version.oid → Alike (s.objects oid) (r.objects oid)
  pub unowned : owner_of (r.objects (claim_at x.current (last_claim x.current)).version.oid).entry ≡ 0

pub drops_own : (s r : Shared) (seat : ℕ) (x y : Part) → Drops s r x y → OwnClaims s seat x → OwnClaims r seat y
drops_own s r seat x y f own = own_from r seat y ok once owned
  where
    many : length y.current.writes ≡ last_claim x.current
    many =
        let n = length-take (last_claim x.current) x.current.writes in
        let e = ap (λ (ws : List Claim). length ws) f.writes in
        omega (arith, n, e)

    same : (k : ℕ) → k < last_claim x.current → claim_at y.current k ≡ claim_at x.current k
    same k low = ap (λ ws. get_or ws k no_claim) f.writes ∙ get_or-take (last_claim x.current) x.current.writes k no_claim low

    none_over : claims_over x ≡ 0
    none_over = over_known x.place x.task (length x.current.writes) f.from ∙ f.old.ended

    none_over_now : claims_over y ≡ 0
    none_over_now = over_known y.place y.task (length y.current.writes) (subst NotLeaving (sym f.place) f.from) ∙ f.new.ended

    last_inside : last_claim x.current < length x.current.writes
    last_inside = let h = f.some in omega (arith, h)

    ok : (k : ℕ) → k < length y.current.writes → ClaimOk r seat y.current (claims_over y) (step_of y.task k) k (claim_at y.current k)
    ok k within =
        let n = many in
        let low : k < last_claim x.current = omega (arith, n, within) in
        let inside : k < length x.current.writes = let h = last_inside in omega (arith, low, h) in
        subst (λ w. ClaimOk r seat y.current (claims_over y) (step_of y.task k) k w) (sym (same k low))
        (ok_goes s r seat x.current y.current (claims_over x) (claims_over y) (step_of x.task k) (step_of y.task k) k (claim_at x.current k)
        (record {
          number = f.number;
          begin = f.begin;
          less = λ h. let a = none_over_now in absurd (omega (arith, a, h));
          more = λ h. let a = none_over in omega (arith, a);
          step = λ _. let z = f.old.step k in inr (f.new.step k, omega (arith, z));
        })
        (λ _. f.objects (claim_at x.current k).version.oid (own.once k (last_claim x.current) low last_inside)) (ok_at s seat x own k inside))

    once : (j k : ℕ) → j < k → k < length y.current.writes → (claim_at y.current j).version.oid ≢ (claim_at y.current k).version.oid
    once j k less within =
        let n = many in
        let low : k < last_claim x.current = omega (arith, n, within) in
        let inside : k < length x.current.writes = let h = last_inside in omega (arith, low, h) in
        λ e. own.once j k less inside
        (ap (λ (w : Claim). w.version.oid) (sym (same j (omega (arith, low, less)))) ∙ e ∙ ap (λ (w : Claim). w.version.oid) (same k low))

    owned : (oid : ℕ) → 0 < seat → oid < OBJECT_LIMIT → owner_of (r.objects oid).entry ≡ seat → Holds y oid
    owned oid positive known owner =
        ⊎_elim
        (λ (e : oid ≡ (claim_at x.current (last_claim x.current)).version.oid).
        let zero_is : owner_of (r.objects oid).entry ≡ 0 = ap (λ n. owner_of (r.objects n).entry) e ∙ f.unowned in
        absurd (omega (arith, zero_is, owner, positive)))
        (λ (ne : oid ≡ (claim_at x.current (last_claim x.current)).version.oid → ⊥).
        let h = held_at x oid (own.owned oid positive known (ap owner_of (sym (f.objects oid ne).entry) ∙ owner)) in
        let other : h.place ≢ last_claim x.current = λ e. ne (sym h.oid_is ∙ ap (λ k. (claim_at x.current k).version.oid) e) in
        let low : h.place < last_claim x.current = let w = h.within in omega (arith, w, other) in
        let is = same h.place low in
        let n = many in
        holds_of y oid (record {
          place = h.place;
          within = omega (arith, n, low);
          held = ap (λ (w : Claim). w.held) is ∙ h.held;
          oid_is = ap (λ (w : Claim). w.version.oid) is ∙ h.oid_is;
        }))
        (cases_eq oid (claim_at x.current (last_claim x.current)).version.oid)

-- a step that takes the owner off the entry of an object that the seat holds
pub freed_kept : (c : Core) (p : ℕ) (y : Part) (d : Core) (oid head : ℕ) (u : Object) → Sound c → Holds (c.seats p) oid → head < 2 ^ 24 → u.entry ≡ head
    → ObjectFits c.shared.tail u → OwnClaims (with_object oid u c.shared) p y → record { shared = with_object oid u c.shared; seats = put c.seats p y } ≡ d → Kept d
freed_kept c p y d oid head u sound holds low entry fits own is =
    kept_changed c p y (with_object oid u c.shared) d oid sound refl
    (λ o ne. alike_same (c.shared.objects o) (put c.shared.objects oid u o) (put_other c.shared.objects oid u o ne))
    (λ _. subst (λ z. ObjectFits c.shared.tail z) (sym (put_same c.shared.objects oid u)) fits)
    (λ q ne h. ne (held_once c q p oid sound h holds))
    (λ q ne positive owner.
    let same : owner_of (put c.shared.objects oid u oid).entry ≡ owner_of u.entry = ap (λ (z : Object). owner_of z.entry) (put_same c.shared.objects oid u) in
    let free : owner_of u.entry ≡ 0 = ap owner_of entry ∙ plain_owner head low in
    omega (arith, positive, owner, same, free))
    own is
