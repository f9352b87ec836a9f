-- The facts on a seat's claims, claim by claim, and how they go on where one claim, or its object, changes.
use Rattle.std.proofs.Common.{◌≡◌, ◌≢◌, ℕ, ◌<◌, ◌≤◌, ◌⊎◌, ⊎_elim, Bool, true, false, List, [], length, get_or, None, refl, sym, ap, ◌∙◌, subst, inl, arith}
use Rattle.std.proofs.lemmas.Bool.{cases_eq, cases_lt}
use Rattle.erm_model.specs.Member.{◌∈◌}
use Rattle.erm_machine.specs.declared.limits.TheConstants.{OBJECT_LIMIT}
use Rattle.erm_machine.specs.declared.attempt.Attempt.{Attempt}
use Rattle.erm_machine.specs.declared.attempt.Claim.{Claim}
use Rattle.erm_machine.specs.declared.part.Part.{Part}
use Rattle.erm_machine.specs.Claims.{Claims, ObjectFits, ClaimFits, InstallFits, OwnClaims, claims_over, step_of}
use Rattle.erm_machine.specs.Core.{Core, Shared, Object, claim_at, no_claim}
use Rattle.erm_machine.specs.Facts.{Holds}
use Rattle.erm_machine.specs.Sound.{Sound}
use Rattle.erm_machine.specs.Words.{put, owner_of}
use Rattle.erm_machine.proofs.Frames.{each_seat}
use Rattle.erm_machine.proofs.Holders.{stands_at, stands_in}
use Rattle.erm_core_si.proofs.ClaimsObjects.{Alike, object_alike, claim_alike, install_alike, install_waits}

-- the claim at a place of a transaction of which so many claims are over, and whose install has come so far
pub record ClaimOk (s : Shared) (seat : ℕ) (t : Attempt) (ended step k : ℕ) (w : Claim) : Type 0 where
  pub known : w.version.oid < OBJECT_LIMIT
  pub over : k < ended → w.held ≡ false
  pub none : k < ended → w.own ≡ None
  pub held : ended ≤ k → w.held ≡ true
  pub fit : w.held ≡ true → ClaimFits seat t.number t.begin (s.objects w.version.oid) w
  pub install : w.held ≡ true → InstallFits t (s.objects w.version.oid) w step

pub ok_at : (s : Shared) (seat : ℕ) (x : Part) → OwnClaims s seat x → (k : ℕ) → k < length x.current.writes
    → ClaimOk s seat x.current (claims_over x) (step_of x.task k) k (claim_at x.current k)
ok_at s seat x own k within = record {
  known = own.objects k within;
  over = own.over k within;
  none = own.none k within;
  held = own.held k within;
  fit = own.fit k within;
  install = own.install k within;
}

pub own_from : (s : Shared) (seat : ℕ) (x : Part)
    → ((k : ℕ) → k < length x.current.writes → ClaimOk s seat x.current (claims_over x) (step_of x.task k) k (claim_at x.current k))
    → ((j k : ℕ) → j < k → k < length x.current.writes → (claim_at x.current j).version.oid ≢ (claim_at x.current k).version.oid)
    → ((oid : ℕ) → 0 < seat → oid < OBJECT_LIMIT → owner_of (s.objects oid).entry ≡ seat → Holds x oid)
    → OwnClaims s seat x
own_from s seat x ok once owned = record {
  objects = λ k within. (ok k within).known;
  over = λ k within. (ok k within).over;
  none = λ k within. (ok k within).none;
  held = λ k within. (ok k within).held;
  fit = λ k within. (ok k within).fit;
  install = λ k within. (ok k within).install;
  once = once;
  owned = owned;
}

-- what a transaction holds, by the claim's place
pub record HeldAt (t : Attempt) (oid : ℕ) : Type 0 where
  pub place : ℕ
  pub within : place < length t.writes
  pub held : (claim_at t place).held ≡ true
  pub oid_is : (claim_at t place).version.oid ≡ oid

pub held_at : (x : Part) (oid : ℕ) → Holds x oid → HeldAt x.current oid
held_at x oid h =
    let at = stands_at x.current h.0 h.1 in
    record { place = at.place; within = at.within; held = ap (λ (w : Claim). w.held) at.is ∙ h.2; oid_is = ap (λ (w : Claim). w.version.oid) at.is ∙ h.3 }

pub holds_of : (x : Part) (oid : ℕ) → HeldAt x.current oid → Holds x oid
holds_of x oid h = (claim_at x.current h.place, stands_in x.current h.place h.within, h.held, h.oid_is)

pub holds_claim : (x : Part) (k : ℕ) → k < length x.current.writes → (claim_at x.current k).held ≡ true → Holds x (claim_at x.current k).version.oid
holds_claim x k within held = (claim_at x.current k, stands_in x.current k within, held, refl)

-- an install stays where it was, or hasn't begun and had stored no word of the version overwritten
abbrev pub StepStays : Attempt → Attempt → ℕ → ℕ → Type 0
StepStays t u old new = ((new ≡ old) × (u.stamp ≡ t.stamp) × (u.succ ≡ t.succ)) ⊎ ((new ≡ 0) × (old < 7))

pub install_stays : (t u : Attempt) (o : Object) (w : Claim) (old new : ℕ) → StepStays t u old new → InstallFits t o w old → InstallFits u o w new
install_stays t u o w old new stays f =
    ⊎_elim
    (λ (same : (new ≡ old) × (u.stamp ≡ t.stamp) × (u.succ ≡ t.succ)).
    let e = same.0 in
    record {
      stamp = λ h. f.stamp (omega (arith, e, h)) ∙ sym same.1;
      link = λ h. f.link (omega (arith, e, h));
      unread = λ h. f.unread (omega (arith, e, h));
      reader_stamp = λ h. f.reader_stamp (omega (arith, e, h)) ∙ sym same.1;
      unmarked = λ h. f.unmarked (omega (arith, e, h));
      unset = λ h. f.unset (omega (arith, e, h));
      succ = λ h. f.succ (omega (arith, e, h)) ∙ sym same.2;
      mark = λ h. f.mark (omega (arith, e, h)) ∙ sym same.1;
      no_succ = λ h. f.no_succ (omega (arith, e, h));
      no_mark = λ h. f.no_mark (omega (arith, e, h));
    })
    (λ (waits : (new ≡ 0) × (old < 7)). let early = waits.1 in install_waits u o w new waits.0 (f.no_mark (omega (arith, early))) (f.no_succ early))
    stays

-- a claim that goes on as it is
pub record Goes (t u : Attempt) (ended later old new k : ℕ) (held : Bool) : Type 0 where
  pub number : u.number ≡ t.number
  pub begin : u.begin ≡ t.begin
  pub less : k < later → k < ended
  pub more : later ≤ k → ended ≤ k
  pub step : held ≡ true → StepStays t u old new

pub ok_goes : (s r : Shared) (seat : ℕ) (t u : Attempt) (ended later old new k : ℕ) (w : Claim) → Goes t u ended later old new k w.held
    → (w.held ≡ true → Alike (s.objects w.version.oid) (r.objects w.version.oid)) → ClaimOk s seat t ended old k w → ClaimOk r seat u later new k w
ok_goes s r seat t u ended later old new k w goes alike ok = record {
  known = ok.known;
  over = λ h. ok.over (goes.less h);
  none = λ h. ok.none (goes.less h);
  held = λ h. ok.held (goes.more h);
  fit = λ h.
      subst (λ n. ClaimFits seat n u.begin (r.objects w.version.oid) w) (sym goes.number)
      (subst (λ n. ClaimFits seat t.number n (r.objects w.version.oid) w) (sym goes.begin)
      (claim_alike seat t.number t.begin (s.objects w.version.oid) (r.objects w.version.oid) w (alike h) (ok.fit h)));
  install = λ h. install_alike u (s.objects w.version.oid) (r.objects w.version.oid) w new (alike h)
      (install_stays t u (s.objects w.version.oid) w old new (goes.step h) (ok.install h));
}

-- a claim that is held isn't over
held_not_over : (ended k : ℕ) (b : Bool) → (k < ended → b ≡ false) → b ≡ true → ended ≤ k
held_not_over ended k b over held =
    ⊎_elim (λ (low : k < ended). let no = over low in absurd (cc)) (λ (high : ended ≤ k). high) (cases_lt k ended)

-- a seat whose claims stay, with their installs
pub record Stands (x y : Part) : Type 0 where
  pub writes : y.current.writes ≡ x.current.writes
  pub number : y.current.number ≡ x.current.number
  pub begin : y.current.begin ≡ x.current.begin
  pub over : claims_over y ≡ claims_over x
  pub step : (k : ℕ) → claims_over x ≤ k → k < length x.current.writes → StepStays x.current y.current (step_of x.task k) (step_of y.task k)

pub stands_own : (s r : Shared) (seat : ℕ) (x y : Part) → ((oid : ℕ) → Alike (s.objects oid) (r.objects oid)) → Stands x y → OwnClaims s seat x → OwnClaims r seat y
stands_own s r seat x y alike stands own = own_from r seat y ok once owned
  where
    same : (k : ℕ) → claim_at y.current k ≡ claim_at x.current k
    same k = ap (λ ws. get_or ws k no_claim) stands.writes

    inside : (k : ℕ) → k < length y.current.writes → k < length x.current.writes
    inside k within = let n = ap (λ (ws : List Claim). length ws) stands.writes in omega (arith, n, within)

    ok : (k : ℕ) → k < length y.current.writes → ClaimOk r seat y.current (claims_over y) (step_of y.task k) k (claim_at y.current k)
    ok k within =
        let old = ok_at s seat x own k (inside k within) in
        let over = stands.over in
        subst (λ w. ClaimOk r seat y.current (claims_over y) (step_of y.task k) k w) (sym (same k))
        (ok_goes s r seat x.current y.current (claims_over x) (claims_over y) (step_of x.task k) (step_of y.task k) k (claim_at x.current k)
        (record {
          number = stands.number;
          begin = stands.begin;
          less = λ h. omega (arith, h, over);
          more = λ h. omega (arith, h, over);
          step = λ held. stands.step k (held_not_over (claims_over x) k (claim_at x.current k).held old.over held) (inside k within);
        })
        (λ _. alike (claim_at x.current k).version.oid) old)

    once : (j k : ℕ) → j < k → k < length y.current.writes → (claim_at y.current j).version.oid ≢ (claim_at y.current k).version.oid
    once j k less within = λ e.
        own.once j k less (inside k within) (ap (λ (w : Claim). w.version.oid) (sym (same j)) ∙ e ∙ ap (λ (w : Claim). w.version.oid) (same k))

    owned : (oid : ℕ) → 0 < seat → oid < OBJECT_LIMIT → owner_of (r.objects oid).entry ≡ seat → Holds y oid
    owned oid positive known owner =
        let h = own.owned oid positive known (ap owner_of (sym (alike oid).entry) ∙ owner) in
        (h.0, subst (λ ws. h.0 ∈ ws) (sym stands.writes) h.1, h.2, h.3)

-- a seat that claims nothing
pub none_own : (s : Shared) (seat : ℕ) (y : Part) → y.current.writes ≡ []
    → ((oid : ℕ) → 0 < seat → oid < OBJECT_LIMIT → owner_of (s.objects oid).entry ≡ seat → ⊥) → OwnClaims s seat y
none_own s seat y none free =
    own_from s seat y (λ k within. absurd (empty k within)) (λ j k less within. absurd (empty k within)) (λ oid positive known owner. absurd (free oid positive known owner))
  where
    empty : (k : ℕ) → k < length y.current.writes → ⊥
    empty k within = let n : length y.current.writes ≡ 0 = ap (λ (ws : List Claim). length ws) none in omega (arith, n, within)

-- one claim changes, or its object
pub record Changes (s r : Shared) (x y : Part) (at : ℕ) : Type 0 where
  pub many : length y.current.writes ≡ length x.current.writes
  pub same : (k : ℕ) → k ≢ at → claim_at y.current k ≡ claim_at x.current k
  pub oid_is : (claim_at y.current at).version.oid ≡ (claim_at x.current at).version.oid
  pub objects : (oid : ℕ) → oid ≢ (claim_at x.current at).version.oid → Alike (s.objects oid) (r.objects oid)
  pub goes : (k : ℕ) → k ≢ at → Goes x.current y.current (claims_over x) (claims_over y) (step_of x.task k) (step_of y.task k) k (claim_at x.current k).held

pub changed_own : (s r : Shared) (seat : ℕ) (x y : Part) (at : ℕ) → at < length x.current.writes → Changes s r x y at
    → ClaimOk r seat y.current (claims_over y) (step_of y.task at) at (claim_at y.current at)
    → (0 < seat → owner_of (r.objects (claim_at x.current at).version.oid).entry ≡ seat → (claim_at y.current at).held ≡ true)
    → OwnClaims s seat x → OwnClaims r seat y
changed_own s r seat x y at inside ch here still own = own_from r seat y ok once owned
  where
    within_old : (k : ℕ) → k < length y.current.writes → k < length x.current.writes
    within_old k within = let n = ch.many in omega (arith, n, within)

    apart : (k : ℕ) → k ≢ at → k < length x.current.writes → (claim_at x.current k).version.oid ≢ (claim_at x.current at).version.oid
    apart k ne within = λ e.
        ⊎_elim (λ (less : k < at). own.once k at less inside e)
        (λ (more : at ≤ k). own.once at k (omega (arith, more, ne)) within (sym e)) (cases_lt k at)

    ok : (k : ℕ) → k < length y.current.writes → ClaimOk r seat y.current (claims_over y) (step_of y.task k) k (claim_at y.current k)
    ok k within =
        ⊎_elim
        (λ (e : k ≡ at). subst (λ n. ClaimOk r seat y.current (claims_over y) (step_of y.task n) n (claim_at y.current n)) (sym e) here)
        (λ (ne : k ≡ at → ⊥).
        let low = within_old k within in
        subst (λ w. ClaimOk r seat y.current (claims_over y) (step_of y.task k) k w) (sym (ch.same k ne))
        (ok_goes s r seat x.current y.current (claims_over x) (claims_over y) (step_of x.task k) (step_of y.task k) k (claim_at x.current k) (ch.goes k ne)
        (λ _. ch.objects (claim_at x.current k).version.oid (apart k ne low)) (ok_at s seat x own k low)))
        (cases_eq k at)

    oid_same : (k : ℕ) → (claim_at y.current k).version.oid ≡ (claim_at x.current k).version.oid
    oid_same k =
        ⊎_elim
        (λ (e : k ≡ at). subst (λ n. (claim_at y.current n).version.oid ≡ (claim_at x.current n).version.oid) (sym e) ch.oid_is)
        (λ (ne : k ≡ at → ⊥). ap (λ (w : Claim). w.version.oid) (ch.same k ne))
        (cases_eq k at)

    once : (j k : ℕ) → j < k → k < length y.current.writes → (claim_at y.current j).version.oid ≢ (claim_at y.current k).version.oid
    once j k less within = λ e. own.once j k less (within_old k within) (sym (oid_same j) ∙ e ∙ oid_same k)

    owned : (oid : ℕ) → 0 < seat → oid < OBJECT_LIMIT → owner_of (r.objects oid).entry ≡ seat → Holds y oid
    owned oid positive known owner =
        ⊎_elim
        (λ (e : oid ≡ (claim_at x.current at).version.oid).
        let n = ch.many in
        holds_of y oid (record {
          place = at;
          within = omega (arith, n, inside);
          held = still positive (subst (λ m. owner_of (r.objects m).entry ≡ seat) e owner);
          oid_is = ch.oid_is ∙ sym e;
        }))
        (λ (ne : oid ≡ (claim_at x.current at).version.oid → ⊥).
        let h = held_at x oid (own.owned oid positive known (ap owner_of (sym (ch.objects oid ne).entry) ∙ owner)) in
        let n = ch.many in
        let other : h.place ≢ at = λ e. ne (sym h.oid_is ∙ ap (λ k. (claim_at x.current k).version.oid) e) in
        let same = ch.same h.place other in
        holds_of y oid (record {
          place = h.place;
          within = let low = h.within in omega (arith, n, low);
          held = ap (λ (w : Claim). w.held) same ∙ h.held;
          oid_is = ap (λ (w : Claim). w.version.oid) same ∙ h.oid_is;
        }))
        (cases_eq oid (claim_at x.current at).version.oid)

-- a seat that doesn't hold the object that changes
pub others_own : (s r : Shared) (seat : ℕ) (x : Part) (oid : ℕ) → ((o : ℕ) → o ≢ oid → Alike (s.objects o) (r.objects o)) → (Holds x oid → ⊥)
    → (0 < seat → owner_of (r.objects oid).entry ≡ seat → ⊥) → OwnClaims s seat x → OwnClaims r seat x
others_own s r seat x oid alike free unowned own =
    own_from r seat x
    (λ k within.
    ok_goes s r seat x.current x.current (claims_over x) (claims_over x) (step_of x.task k) (step_of x.task k) k (claim_at x.current k)
    (record { number = refl; begin = refl; less = λ h. h; more = λ h. h; step = λ _. inl (refl, refl, refl) })
    (λ held. alike (claim_at x.current k).version.oid (λ e. free (subst (λ n. Holds x n) e (holds_claim x k within held))))
    (ok_at s seat x own k within))
    own.once
    (λ o positive known owner.
    ⊎_elim
    (λ (e : o ≡ oid). absurd (unowned positive (subst (λ n. owner_of (r.objects n).entry ≡ seat) e owner)))
    (λ (ne : o ≡ oid → ⊥). own.owned o positive known (ap owner_of (sym (alike o ne).entry) ∙ owner))
    (cases_eq o oid))

-- what the law says of a state
pub record Kept (d : Core) : Type 0 where
  pub common : Claims d.shared
  pub own : (p : ℕ) → OwnClaims d.shared p (d.seats p)

-- a step whose objects stay alike
pub kept_alike : (c : Core) (p : ℕ) (y : Part) (r : Shared) (d : Core) → Sound c → c.shared.tail ≤ r.tail
    → ((oid : ℕ) → Alike (c.shared.objects oid) (r.objects oid)) → OwnClaims r p y → record { shared = r; seats = put c.seats p y } ≡ d → Kept d
kept_alike c p y r d sound grows alike own is =
    subst Kept is (record {
      common = record { objects = λ oid known. object_alike c.shared.tail r.tail (c.shared.objects oid) (r.objects oid) grows (alike oid) (sound.common.claims.objects oid known) };
      own = each_seat (λ q (z : Part). OwnClaims r q z) c.seats p y own
          (λ q _. stands_own c.shared r q (c.seats q) (c.seats q) alike
          (record { writes = refl; number = refl; begin = refl; over = refl; step = λ k _ _. inl (refl, refl, refl) }) (sound.own q).claims);
    })

-- a step that changes one object, which no other seat holds or owns then
pub kept_changed : (c : Core) (p : ℕ) (y : Part) (r : Shared) (d : Core) (oid : ℕ) → Sound c → r.tail ≡ c.shared.tail
    → ((o : ℕ) → o ≢ oid → Alike (c.shared.objects o) (r.objects o)) → (oid < OBJECT_LIMIT → ObjectFits c.shared.tail (r.objects oid))
    → ((q : ℕ) → q ≢ p → Holds (c.seats q) oid → ⊥) → ((q : ℕ) → q ≢ p → 0 < q → owner_of (r.objects oid).entry ≡ q → ⊥)
    → OwnClaims r p y → record { shared = r; seats = put c.seats p y } ≡ d → Kept d
kept_changed c p y r d oid sound tail alike fits free unowned own is =
    subst Kept is (record {
      common = record {
        objects = λ o known.
            ⊎_elim
            (λ (e : o ≡ oid). subst (λ n. ObjectFits n (r.objects o)) (sym tail) (subst (λ n. ObjectFits c.shared.tail (r.objects n)) (sym e) (fits (subst (λ n. n < OBJECT_LIMIT) e known))))
            (λ (ne : o ≡ oid → ⊥). object_alike c.shared.tail r.tail (c.shared.objects o) (r.objects o) (omega (arith, tail)) (alike o ne) (sound.common.claims.objects o known))
            (cases_eq o oid);
      };
      own = each_seat (λ q (z : Part). OwnClaims r q z) c.seats p y own
          (λ q ne. others_own c.shared r q (c.seats q) oid alike (free q ne) (unowned q ne) (sound.own q).claims);
    })
