-- Steps that change the own cell or the row of one claim.
use Rattle.std.proofs.Common.{◌≡◌, ◌≢◌, ℕ, ◌+◌, ◌<◌, ◌≤◌, ◌⊎◌, ⊎_elim, Bool, true, false, cond, eqb, ltb, List, length, set, get_or, Option, Some, None, refl, sym, ap, ◌∙◌, subst, inl, inr, arith, length-set, get_or-set_same, get_or-set_other}
use Rattle.std.specs.Prelude.{if◌then◌else◌}
use Rattle.std.proofs.lemmas.Bool.{and_parts, cases_lt, eqb-true, eq-eqb, ltb-true, ne_eqb}
use Rattle.std.proofs.lemmas.List.{get_or_past}
use Rattle.erm_machine.specs.declared.attempt.Attempt.{Attempt}
use Rattle.erm_machine.specs.declared.attempt.Claim.{Claim}
use Rattle.erm_machine.specs.declared.attempt.OwnCell.{OwnCell}
use Rattle.erm_machine.specs.declared.event.Counter.{Counter}
use Rattle.erm_machine.specs.declared.event.Counter.TheVariants.{Objects, Cells}
use Rattle.erm_machine.specs.declared.part.Part.{Part}
use Rattle.erm_machine.specs.declared.place.Place.{Place}
use Rattle.erm_machine.specs.declared.place.Place.TheVariants.{Active, Decided}
use Rattle.erm_machine.specs.declared.task.Task.{Task}
use Rattle.erm_machine.specs.declared.task.Task.TheVariants as task
use Rattle.erm_machine.specs.declared.version.Cell.{Cell}
use Rattle.erm_machine.specs.declared.version.CellWord.{CellWord}
use Rattle.erm_machine.specs.declared.version.CellWord.TheVariants as word
use Rattle.erm_machine.specs.declared.version.VersionAt.{VersionAt}
use Rattle.erm_machine.specs.Cells.{WantsCell}
use Rattle.erm_machine.specs.Claims.{ClaimFits, InstallFits, OwnClaims, claims_over, step_of}
use Rattle.erm_machine.specs.Core.{Object, Shared, version_at, claim_at, no_claim, own_words}
use Rattle.erm_machine.specs.Facts.{over_of}
use Rattle.erm_machine.specs.Reading.{with_own_word, with_cell, add_counter, load_active_stamp, start_row, store_row_word, unset}
use Rattle.erm_machine.specs.Seat.{is_active, is_sealed, is_decided, is_own, last_claim}
use Rattle.erm_machine.specs.Settling.{head_word, head_value, installs, load_settled_stamp, load_stamp, store_head_word, store_active_word, store_cell}
use Rattle.erm_machine.proofs.Backs.{rest_is}
use Rattle.erm_machine.proofs.Guards.{when_then, if_then}
use Rattle.erm_core_si.proofs.ClaimsObjects.{Alike, claim_alike, install_alike, install_waits}
use Rattle.erm_core_si.proofs.ClaimsOwn.{ClaimOk, ok_at, Changes, changed_own, install_stays, stands_own}
use Rattle.erm_core_si.proofs.ClaimsGentle.{ended_of, NoEnd, no_end, start_no_end, NotLeaving, over_known, Gentle, gentle_stands, gentle_current, gentle_task, both_no_end, g_settled_stamp}

-- one claim is changed in its own cell and its row, and its install is at most one step further
pub record Refills (x : Part) (t : Task) (y : Part) : Type 0 where
  pub at : ℕ
  pub claim : Claim
  pub within : at < length x.current.writes
  pub stays : NotLeaving x.place
  pub place : y.place ≡ x.place
  pub number : y.current.number ≡ x.current.number
  pub begin : y.current.begin ≡ x.current.begin
  pub writes : y.current.writes ≡ set x.current.writes at claim
  pub version : claim.version ≡ (claim_at x.current at).version
  pub stamp : claim.stamp ≡ (claim_at x.current at).stamp
  pub base : claim.base ≡ (claim_at x.current at).base
  pub held : claim.held ≡ (claim_at x.current at).held
  pub waits : ended_of t ≤ at
  pub ended : ended_of y.task ≡ ended_of t
  pub others : (k : ℕ) → k ≢ at → (step_of t k ≡ 0) × (step_of y.task k ≡ 0)
  pub install : (o : Object) → InstallFits x.current o (claim_at x.current at) (step_of t at) → InstallFits y.current o claim (step_of y.task at)

-- a claim that differs in its own cell and its row alone fits the object as well
fits_refilled : (seat number begin : ℕ) (o : Object) (w v : Claim) → v.version ≡ w.version → v.stamp ≡ w.stamp → v.base ≡ w.base
    → ClaimFits seat number begin o w → ClaimFits seat number begin o v
fits_refilled seat number begin o w v version stamp base f = record {
  owner = f.owner;
  numbered = f.numbered;
  place = ap (λ (n : VersionAt). n.place) version ∙ f.place;
  cell = ap (λ (n : VersionAt). n.cell) version ∙ f.cell;
  stamp = stamp ∙ f.stamp ∙ ap (λ (n : VersionAt). (version_at o n.place).words.stamp) (sym version);
  base = base ∙ f.base ∙ ap (λ (n : VersionAt). (version_at o n.place).words.row) (sym version);
  first = let h = f.first in omega (arith, h, stamp);
}

pub refills_own : (s r : Shared) (seat : ℕ) (x y : Part) → ((oid : ℕ) → Alike (s.objects oid) (r.objects oid)) → Refills x x.task y → OwnClaims s seat x → OwnClaims r seat y
refills_own s r seat x y alike f own = changed_own s r seat x y f.at f.within changes ok (λ _ _. ap (λ (w : Claim). w.held) here ∙ still) own
  where
    here : claim_at y.current f.at ≡ f.claim
    here = ap (λ ws. get_or ws f.at no_claim) f.writes ∙ get_or-set_same x.current.writes f.at f.claim no_claim f.within

    over_was : claims_over x ≡ ended_of x.task
    over_was = over_known x.place x.task (length x.current.writes) f.stays

    over_is : claims_over y ≡ claims_over x
    over_is =
        ap (λ (p : Place). over_of p y.task (length y.current.writes)) f.place
        ∙ over_known x.place y.task (length y.current.writes) f.stays ∙ f.ended ∙ sym over_was

    not_yet : f.at < claims_over y → ⊥
    not_yet low = let a = over_was in let b = over_is in let h = f.waits in omega (arith, a, b, h, low)

    old : ClaimOk s seat x.current (claims_over x) (step_of x.task f.at) f.at (claim_at x.current f.at)
    old = ok_at s seat x own f.at f.within

    still : f.claim.held ≡ true
    still = f.held ∙ old.held (let a = over_was in let h = f.waits in omega (arith, a, h))

    oid_is : f.claim.version.oid ≡ (claim_at x.current f.at).version.oid
    oid_is = ap (λ (n : VersionAt). n.oid) f.version

    fits : ClaimFits seat y.current.number y.current.begin (r.objects f.claim.version.oid) f.claim
    fits =
        subst (λ n. ClaimFits seat n y.current.begin (r.objects f.claim.version.oid) f.claim) (sym f.number)
        (subst (λ n. ClaimFits seat x.current.number n (r.objects f.claim.version.oid) f.claim) (sym f.begin)
        (subst (λ n. ClaimFits seat x.current.number x.current.begin (r.objects n) f.claim) (sym oid_is)
        (claim_alike seat x.current.number x.current.begin (s.objects (claim_at x.current f.at).version.oid) (r.objects (claim_at x.current f.at).version.oid) f.claim
        (alike (claim_at x.current f.at).version.oid)
        (fits_refilled seat x.current.number x.current.begin (s.objects (claim_at x.current f.at).version.oid) (claim_at x.current f.at) f.claim
        f.version f.stamp f.base (old.fit (sym f.held ∙ still))))))

    installs_on : InstallFits y.current (r.objects f.claim.version.oid) f.claim (step_of y.task f.at)
    installs_on =
        subst (λ n. InstallFits y.current (r.objects n) f.claim (step_of y.task f.at)) (sym oid_is)
        (install_alike y.current (s.objects (claim_at x.current f.at).version.oid) (r.objects (claim_at x.current f.at).version.oid) f.claim (step_of y.task f.at)
        (alike (claim_at x.current f.at).version.oid)
        (f.install (s.objects (claim_at x.current f.at).version.oid) (old.install (sym f.held ∙ still))))

    ok : ClaimOk r seat y.current (claims_over y) (step_of y.task f.at) f.at (claim_at y.current f.at)
    ok = subst (λ w. ClaimOk r seat y.current (claims_over y) (step_of y.task f.at) f.at w) (sym here) (record {
      known = let h = old.known in let e = oid_is in omega (arith, h, e);
      over = λ low. absurd (not_yet low);
      none = λ low. absurd (not_yet low);
      held = λ _. still;
      fit = λ _. fits;
      install = λ _. installs_on;
    })

    changes : Changes s r x y f.at
    changes = record {
      many = ap (λ (ws : List Claim). length ws) f.writes ∙ length-set x.current.writes f.at f.claim;
      same = λ k ne. ap (λ ws. get_or ws k no_claim) f.writes ∙ get_or-set_other x.current.writes f.at k f.claim no_claim ne;
      oid_is = ap (λ (w : Claim). w.version.oid) here ∙ oid_is;
      objects = λ oid _. alike oid;
      goes = λ k ne. record {
        number = f.number;
        begin = f.begin;
        less = λ low. let e = over_is in omega (arith, e, low);
        more = λ low. let e = over_is in omega (arith, e, low);
        step = λ _. let z = (f.others k ne).0 in inr ((f.others k ne).1, omega (arith, z));
      };
    }

-- a step is gentle, or changes one claim so
abbrev pub Soft : Part → Task → Part → Type 0
Soft x t y = Gentle x t y ⊎ Refills x t y

pub soft_own : (s r : Shared) (seat : ℕ) (x y : Part) → ((oid : ℕ) → Alike (s.objects oid) (r.objects oid)) → Soft x x.task y → OwnClaims s seat x → OwnClaims r seat y
soft_own s r seat x y alike soft own =
    ⊎_elim (λ (g : Gentle x x.task y). stands_own s r seat x y alike (gentle_stands x y g) own) (λ (f : Refills x x.task y). refills_own s r seat x y alike f own) soft

-- a claim of a transaction that isn't in the middle of an end is changed
refills_plain : (x : Part) (t u : Task) (c : Attempt) (spare : List OwnCell) (at : ℕ) (own : Option OwnCell) (row : List ℕ) (is_set : Bool)
    → NoEnd t → NoEnd u → at < length x.current.writes → NotLeaving x.place → c.number ≡ x.current.number → c.begin ≡ x.current.begin
    → c.writes ≡ set x.current.writes at (record (claim_at x.current at) { own = own; row = row; is_set = is_set })
    → Refills x t (record x { task = u; current = c; spare = spare })
refills_plain x t u c spare at own row is_set from to within stays number begin writes = record {
  at = at;
  claim = record (claim_at x.current at) { own = own; row = row; is_set = is_set };
  within = within;
  stays = stays;
  place = refl;
  number = number;
  begin = begin;
  writes = writes;
  version = refl;
  stamp = refl;
  base = refl;
  held = refl;
  waits = let z = from.ended in omega (arith, z);
  ended = to.ended ∙ sym from.ended;
  others = λ k _. (from.step k, to.step k);
  install = λ o f.
      let z = from.step at in
      install_waits c o (record (claim_at x.current at) { own = own; row = row; is_set = is_set }) (step_of u at) (to.step at) (f.no_mark (omega (arith, z)))
      (f.no_succ (omega (arith, z)));
}

-- a claim with an own cell is one of the transaction's
pub own_within : (cell : ℕ) (t : Attempt) (k : ℕ) → is_own cell (claim_at t k).own ≡ true → k < length t.writes
own_within cell t k own =
    ⊎_elim (λ (low : k < length t.writes). low)
    (λ (high : length t.writes ≤ k).
    let none : is_own cell None ≡ true = subst (λ (w : Claim). is_own cell w.own ≡ true) (get_or_past t.writes k no_claim high) own in
    absurd (cc))
    (cases_lt k (length t.writes))

pub active_stays : (p : Place) → is_active p ≡ true → NotLeaving p
active_stays (Active tail) e = tt
active_stays _ e = absurd (cc)

pub decided_stays : (p : Place) → is_decided p ≡ true → NotLeaving p
decided_stays (Decided tail stamp) e = tt
decided_stays _ e = absurd (cc)

last_within : (t : Attempt) → 0 < length t.writes → last_claim t < length t.writes
last_within t some = omega (arith, some)

-- a cell drawn goes to the newest claim
pool_soft : (b : Bool) (found : ℕ) (x : Part) → NotLeaving x.place → 0 < length x.current.writes → (own : OwnCell) →
    Soft x task.Pool (record x {
      task = if b then task.Fetched else task.Refused;
      current = record x.current { writes = if b then (with_cell own x.current).writes else x.current.writes };
    })
pool_soft true found x stays some own =
    inr (refills_plain x _ _ _ x.spare (last_claim x.current) (Some own) (claim_at x.current (last_claim x.current)).row (claim_at x.current (last_claim x.current)).is_set
    (no_end _ tt) (no_end _ tt) (last_within x.current some) stays refl refl refl)
pool_soft false found x stays some own =
    inl (gentle_current x _ _ _ x.spare (no_end _ tt) (no_end _ tt) (record { number = refl; begin = refl; stamp = refl; writes = refl }))

pub s_add_counter : (cells : ℕ) (seat : ℕ) (c : Counter) (found : ℕ) (x : Part) (t : Task) (y : Part) → WantsCell x t → add_counter cells seat c found x t ≡ Some y → Soft x t y
s_add_counter cells seat Objects found x task.Numbers y wants e =
    when_then (Soft x _) _ _ y e (λ _. inl (gentle_current x _ _ _ x.spare (no_end _ tt) (no_end _ tt) (record { number = refl; begin = refl; stamp = refl; writes = refl })))
s_add_counter cells seat Cells found x task.Pool y wants e =
    when_then (Soft x _) _ _ y e (λ active. pool_soft (ltb found cells) found x (active_stays x.place active) wants.0 _)
s_add_counter cells seat Objects found x _ y wants e = absurd (cc)
s_add_counter cells seat Cells found x _ y wants e = absurd (cc)

-- the newest claim is rated, and may get a spare cell before
s_active_stamp : (found : ℕ) (v : VersionAt) (w : CellWord) (x : Part) (t : Task) (y : Part) → NotLeaving x.place → WantsCell x t → load_active_stamp found v w x t ≡ Some y → Soft x t y
s_active_stamp found v word.Overwriter x (task.Registered version) y stays wants e =
    when_then (Soft x _) _ _ y e (λ _. inl (gentle_task x _ _ (both_no_end _ _ (no_end _ tt) (if_no_end _))))
  where
    if_no_end : (b : Bool) → NoEnd (if b then task.Rated version else task.Overtaken version found)
    if_no_end true = no_end _ tt
    if_no_end false = no_end _ tt
s_active_stamp found v word.OverwriterSucc x (task.Overtaken version overwriter) y stays wants e =
    when_then (Soft x _) _ _ y e (λ _.
    inl (gentle_current x _ _ _ x.spare (no_end _ tt) (no_end _ tt) (record { number = refl; begin = refl; stamp = refl; writes = refl })))
s_active_stamp found v word.ReaderStamp x task.Draws y stays wants e =
    when_then (Soft x _) _ _ y e (λ _.
    inr (refills_plain x _ _ _ _ (last_claim x.current) _ (claim_at x.current (last_claim x.current)).row (claim_at x.current (last_claim x.current)).is_set
    (no_end _ tt) (no_end _ tt) (last_within x.current wants.0) stays refl refl refl))
s_active_stamp found v word.ReaderStamp x task.Fetched y stays wants e =
    when_then (Soft x _) _ _ y e (λ _.
    inl (gentle_current x _ _ _ x.spare (no_end _ tt) (no_end _ tt) (record { number = refl; begin = refl; stamp = refl; writes = refl })))
s_active_stamp found v _ x _ y stays wants e = absurd (cc)

pub s_load_stamp : (found : ℕ) (v : VersionAt) (w : CellWord) (x y : Part) → WantsCell x x.task → load_stamp found v w x ≡ Some y → Soft x x.task y
s_load_stamp found v w x y wants e =
    if_then (Soft x x.task) _ _ _ y e (λ active h. s_active_stamp found v w x x.task y (active_stays x.place active) wants h)
    (λ _ rest. if_then (Soft x x.task) (is_sealed x.place) (load_settled_stamp found v w x x.task) None y rest (λ _ h. inl (g_settled_stamp found v w x x.task y h)) (λ _ h. absurd (cc)))

s_start_row : (place cell k value : ℕ) (x : Part) (t : Task) (y : Part) → NotLeaving x.place → start_row place cell k value x t ≡ Some y → Soft x t y
s_start_row place cell k value x t y stays e =
    when_then (Soft x t) _ _ y e (λ g.
    let own : is_own cell (claim_at x.current place).own ≡ true = (and_parts _ _ (and_parts _ _ g).0).1 in
    let start = (and_parts _ _ (and_parts _ _ (and_parts _ _ g).0).0).0 in
    inr (refills_plain x t _ _ x.spare place _ _ _ (start_no_end t start) (no_end _ tt) (own_within cell x.current place own) stays refl refl refl))

next_no_end : (b : Bool) (u : Task) → NoEnd u → NoEnd (if b then task.Rest else u)
next_no_end true u n = no_end _ tt
next_no_end false u n = n

s_row_word : (place cell k value : ℕ) (x : Part) (t : Task) (y : Part) → NotLeaving x.place → store_row_word place cell k value x t ≡ Some y → Soft x t y
s_row_word place cell k value x (task.Copies w) y stays e =
    when_then (Soft x _) _ _ y e (λ g.
    let own : is_own cell (claim_at x.current place).own ≡ true = (and_parts _ _ (and_parts _ _ (and_parts _ _ (and_parts _ _ g).0).0).0).1 in
    inr (refills_plain x _ _ _ x.spare place _ _ _ (no_end _ tt) (next_no_end (eqb (w + 1) 16) (task.Copies (w + 1)) (no_end (task.Copies (w + 1)) tt)) (own_within cell x.current place own) stays refl refl refl))
s_row_word place cell k value x (task.Writes claim w) y stays e =
    when_then (Soft x _) _ _ y e (λ g.
    let own : is_own cell (claim_at x.current place).own ≡ true = (and_parts _ _ (and_parts _ _ (and_parts _ _ g).0).0).1 in
    inr (refills_plain x _ _ _ x.spare place _ _ _ (no_end _ tt) (next_no_end (eqb (w + 1) 16) (task.Writes claim (w + 1)) (no_end (task.Writes claim (w + 1)) tt)) (own_within cell x.current place own) stays refl refl refl))
s_row_word place cell k value x t y stays e = s_start_row place cell k value x t y stays e

s_active_word : (place cell : ℕ) (w : CellWord) (value : ℕ) (x y : Part) → NotLeaving x.place → store_active_word place cell w value x ≡ Some y → Soft x x.task y
s_active_word place cell (word.Row k) value x y stays e = s_row_word place cell k value x x.task y stays e
s_active_word place cell _ value x y stays e = absurd (cc)

-- the step of an install in progress
pub step_here : (raised ended step cleared k : ℕ) → k ≡ ended → step_of (task.Ends raised ended step cleared) k ≡ step
step_here raised ended step cleared k e = ap (λ (b : Bool). cond b step 0) (eq-eqb k ended e)

pub step_there : (raised ended step cleared k : ℕ) → k ≢ ended → step_of (task.Ends raised ended step cleared) k ≡ 0
step_there raised ended step cleared k ne = ap (λ (b : Bool). cond b step 0) (ne_eqb k ended ne)

-- a word of the own cell that was stored before
was : (field : Cell → ℕ) (w : Claim) (own : OwnCell) (n : ℕ) → w.own ≡ Some own → field (own_words w.own) ≡ n → field own.words ≡ n
was field w own n at e = ap (λ (m : Option OwnCell). field (own_words m)) (sym at) ∙ e

-- one more word of the new version is stored
install_word : (t : Attempt) (o : Object) (w : Claim) (value step cell : ℕ) (changed : CellWord) (own : Option OwnCell) → w.own ≡ own → is_own cell own ≡ true
    → head_word step changed ≡ true → value ≡ head_value t w changed → InstallFits t o w step
    → InstallFits t o (record w { own = with_own_word changed value own }) (step + 1)
install_word t o w value step cell changed None at is_it turn same f = absurd (cc)
install_word t o w value step cell word.Stamp (Some own) at is_it turn same f =
    let n : step ≡ 0 = eqb-true step 0 turn in
    record {
      stamp = λ _. same;
      link = λ h. absurd (omega (arith, n, h));
      unread = λ h. absurd (omega (arith, n, h));
      reader_stamp = λ h. absurd (omega (arith, n, h));
      unmarked = λ h. absurd (omega (arith, n, h));
      unset = λ h. absurd (omega (arith, n, h));
      succ = λ h. absurd (omega (arith, n, h));
      mark = λ h. absurd (omega (arith, n, h));
      no_succ = λ h. f.no_succ (omega (arith, h));
      no_mark = λ h. f.no_mark (omega (arith, h));
    }
install_word t o w value step cell word.Link (Some own) at is_it turn same f =
    let n : step ≡ 1 = eqb-true step 1 turn in
    record {
      stamp = λ _. was (λ c. c.stamp) w own t.stamp at (f.stamp (omega (arith, n)));
      link = λ _. same;
      unread = λ h. absurd (omega (arith, n, h));
      reader_stamp = λ h. absurd (omega (arith, n, h));
      unmarked = λ h. absurd (omega (arith, n, h));
      unset = λ h. absurd (omega (arith, n, h));
      succ = λ h. absurd (omega (arith, n, h));
      mark = λ h. absurd (omega (arith, n, h));
      no_succ = λ h. f.no_succ (omega (arith, h));
      no_mark = λ h. f.no_mark (omega (arith, h));
    }
install_word t o w value step cell word.Readers (Some own) at is_it turn same f =
    let n : step ≡ 2 = eqb-true step 2 turn in
    record {
      stamp = λ _. was (λ c. c.stamp) w own t.stamp at (f.stamp (omega (arith, n)));
      link = λ _. was (λ c. c.link) w own (w.version.cell + 1) at (f.link (omega (arith, n)));
      unread = λ _. same;
      reader_stamp = λ h. absurd (omega (arith, n, h));
      unmarked = λ h. absurd (omega (arith, n, h));
      unset = λ h. absurd (omega (arith, n, h));
      succ = λ h. absurd (omega (arith, n, h));
      mark = λ h. absurd (omega (arith, n, h));
      no_succ = λ h. f.no_succ (omega (arith, h));
      no_mark = λ h. f.no_mark (omega (arith, h));
    }
install_word t o w value step cell word.ReaderStamp (Some own) at is_it turn same f =
    let n : step ≡ 3 = eqb-true step 3 turn in
    record {
      stamp = λ _. was (λ c. c.stamp) w own t.stamp at (f.stamp (omega (arith, n)));
      link = λ _. was (λ c. c.link) w own (w.version.cell + 1) at (f.link (omega (arith, n)));
      unread = λ _. was (λ c. c.readers) w own 0 at (f.unread (omega (arith, n)));
      reader_stamp = λ _. same;
      unmarked = λ h. absurd (omega (arith, n, h));
      unset = λ h. absurd (omega (arith, n, h));
      succ = λ h. absurd (omega (arith, n, h));
      mark = λ h. absurd (omega (arith, n, h));
      no_succ = λ h. f.no_succ (omega (arith, h));
      no_mark = λ h. f.no_mark (omega (arith, h));
    }
install_word t o w value step cell word.Overwriter (Some own) at is_it turn same f =
    let n : step ≡ 4 = eqb-true step 4 turn in
    record {
      stamp = λ _. was (λ c. c.stamp) w own t.stamp at (f.stamp (omega (arith, n)));
      link = λ _. was (λ c. c.link) w own (w.version.cell + 1) at (f.link (omega (arith, n)));
      unread = λ _. was (λ c. c.readers) w own 0 at (f.unread (omega (arith, n)));
      reader_stamp = λ _. was (λ c. c.reader_stamp) w own t.stamp at (f.reader_stamp (omega (arith, n)));
      unmarked = λ _. same;
      unset = λ h. absurd (omega (arith, n, h));
      succ = λ h. absurd (omega (arith, n, h));
      mark = λ h. absurd (omega (arith, n, h));
      no_succ = λ h. f.no_succ (omega (arith, h));
      no_mark = λ h. f.no_mark (omega (arith, h));
    }
install_word t o w value step cell word.OverwriterSucc (Some own) at is_it turn same f =
    let n : step ≡ 5 = eqb-true step 5 turn in
    record {
      stamp = λ _. was (λ c. c.stamp) w own t.stamp at (f.stamp (omega (arith, n)));
      link = λ _. was (λ c. c.link) w own (w.version.cell + 1) at (f.link (omega (arith, n)));
      unread = λ _. was (λ c. c.readers) w own 0 at (f.unread (omega (arith, n)));
      reader_stamp = λ _. was (λ c. c.reader_stamp) w own t.stamp at (f.reader_stamp (omega (arith, n)));
      unmarked = λ _. was (λ c. c.overwriter) w own 0 at (f.unmarked (omega (arith, n)));
      unset = λ _. same;
      succ = λ h. absurd (omega (arith, n, h));
      mark = λ h. absurd (omega (arith, n, h));
      no_succ = λ h. f.no_succ (omega (arith, h));
      no_mark = λ h. f.no_mark (omega (arith, h));
    }
install_word t o w value step cell (word.Row k) (Some own) at is_it turn same f = absurd (cc)

s_head_word : (place cell : ℕ) (w : CellWord) (value : ℕ) (x : Part) (t : Task) (y : Part) → store_head_word place cell w value x t ≡ Some y → Refills x t y
s_head_word place cell w value x (task.Ends raised ended step cleared) y e =
    when_then (Refills x _) _ _ y e (λ g.
    let front = and_parts _ _ (and_parts _ _ (and_parts _ _ g).0).0 in
    let turn : head_word step w ≡ true = front.1 in
    let own : is_own cell (claim_at x.current place).own ≡ true = (and_parts _ _ front.0).1 in
    let here : place ≡ ended = eqb-true place ended (and_parts _ _ (and_parts _ _ front.0).0).1 in
    let commits : installs raised ended step x ≡ true = (and_parts _ _ (and_parts _ _ front.0).0).0 in
    let value_is : value ≡ head_value x.current (claim_at x.current place) w = eqb-true _ _ (and_parts _ _ g).1 in
    record {
      at = place;
      claim = record (claim_at x.current place) { own = with_own_word w value (claim_at x.current place).own };
      within = own_within cell x.current place own;
      stays = decided_stays x.place (and_parts _ _ (and_parts _ _ (and_parts _ _ commits).0).0).0;
      place = refl;
      number = refl;
      begin = refl;
      writes = refl;
      version = refl;
      stamp = refl;
      base = refl;
      held = refl;
      waits = omega (arith, here);
      ended = refl;
      others = λ k ne. (step_there raised ended step cleared k (λ e. ne (e ∙ sym here)), step_there raised ended (step + 1) cleared k (λ e. ne (e ∙ sym here)));
      install = λ o f.
          let claim = record (claim_at x.current place) { own = with_own_word w value (claim_at x.current place).own } in
          let old : InstallFits x.current o (claim_at x.current place) step =
          subst (λ n. InstallFits x.current o (claim_at x.current place) n) (step_here raised ended step cleared place here) f in
          let new : InstallFits x.current o claim (step + 1) =
          install_word x.current o (claim_at x.current place) value step cell w (claim_at x.current place).own refl own turn value_is old in
          install_stays x.current _ o claim (step + 1) _ (inl (step_here raised ended (step + 1) cleared place here, refl, refl)) new;
    })
s_head_word place cell w value x _ y e = absurd (cc)

pub s_store_cell : (place cell : ℕ) (w : CellWord) (value : ℕ) (x y : Part) → store_cell place cell w value x ≡ Some y → Soft x x.task y
s_store_cell place cell w value x y e =
    if_then (Soft x x.task) (is_active x.place) (store_active_word place cell w value x) (store_head_word place cell w value x x.task) y e
    (λ active h. s_active_word place cell w value x y (active_stays x.place active) h) (λ _ h. inr (s_head_word place cell w value x x.task y h))

-- the row of a claim is that of the version overwritten again
pub s_unset : (place : ℕ) (x y : Part) → unset place x ≡ Some y → Soft x x.task y
s_unset place x y e =
    when_then (Soft x x.task) _ _ y e (λ g.
    let two = and_parts _ _ (and_parts _ _ g).0 in
    let one = and_parts _ _ two.0 in
    let none : NoEnd x.task = subst NoEnd (sym (rest_is x.task one.1)) (no_end task.Rest tt) in
    inr (refills_plain x x.task x.task _ x.spare place (claim_at x.current place).own _ _ none none (ltb-true _ _ two.1) (active_stays x.place one.0) refl refl refl))
