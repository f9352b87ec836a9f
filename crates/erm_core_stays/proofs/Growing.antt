-- What quiet steps leave of a transaction that its seat works on: what it has read and made stands first among what it has, and its
-- firm claims stay.
use Rattle.std.proofs.Common.{◌≡◌, ℕ, ◌-◌, ◌<◌, ◌⊎◌, ⊎_elim, Bool, true, false, List, [], ◌++◌, length, set, take, Option, Some, None, is_none, refl, sym, ap, ◌∙◌, subst, inl, inr, ◌&&◌, arith, length-append, length-set, length-take}
use Rattle.std.specs.Prelude.{if◌then◌else◌}
use Rattle.std.proofs.lemmas.Bool.{and_parts, cases_eq}
use Rattle.std.proofs.lemmas.List.{append-nil, get_or-set_other, get_or-set_same, get_or-take, get_or_append_left}
use Rattle.erm_model.specs.Member.{◌∈◌}
use Rattle.erm_machine.specs.declared.attempt.Attempt.{Attempt}
use Rattle.erm_machine.specs.declared.attempt.Claim.{Claim}
use Rattle.erm_machine.specs.declared.attempt.OwnCell.{OwnCell}
use Rattle.erm_machine.specs.declared.event.Counter.{Counter}
use Rattle.erm_machine.specs.declared.event.Counter.TheVariants.{Objects, Cells}
use Rattle.erm_machine.specs.declared.event.Kind.{Kind}
use Rattle.erm_machine.specs.declared.event.Kind.TheVariants as kind
use Rattle.erm_machine.specs.declared.part.Flushing.{Flushing}
use Rattle.erm_machine.specs.declared.part.Flushing.TheVariants as flushing
use Rattle.erm_machine.specs.declared.part.Part.{Part}
use Rattle.erm_machine.specs.declared.place.Place.{Place}
use Rattle.erm_machine.specs.declared.place.Place.TheVariants.{Decided}
use Rattle.erm_machine.specs.declared.task.Task.{Task}
use Rattle.erm_machine.specs.declared.task.Task.TheVariants as task
use Rattle.erm_machine.specs.declared.version.CellWord.{CellWord}
use Rattle.erm_machine.specs.declared.version.CellWord.TheVariants as word
use Rattle.erm_machine.specs.declared.version.VersionAt.{VersionAt}
use Rattle.erm_machine.specs.Core.{Object, Shared, claim_at, no_claim}
use Rattle.erm_machine.specs.Flushing.{load_flushed, gathered_word, load_ring, clear_ring, store_flushed}
use Rattle.erm_machine.specs.Life.{load_back, store_back}
use Rattle.erm_machine.specs.Reading.{load_entry, claim, set_reader, load_walked_stamp, load_walked_link, load_cell, swap_link, load_detached, load_counter, add_counter, load_active_stamp, start_row, store_row_word, unset, with_own_word}
use Rattle.erm_machine.specs.Seat.{end_of, is_active, is_sealed, last_claim}
use Rattle.erm_machine.specs.Settling.{load_flushed_to_settle, load_read_entry, load_readers, load_settled_stamp, load_stamp, store_ring, raise_reader, store_head_word, store_active_word, store_cell, mark_overwritten, install_claim, adds_version, install_new, release_old, unclaim, without_newest, install, clear_reader, filled}
use Rattle.erm_machine.specs.Step.{part_after}
use Rattle.erm_machine.proofs.Backs.{entry_then}
use Rattle.erm_machine.proofs.Guards.{when_then, some_then, if_then, either_way, unless_some}
use Rattle.erm_machine.proofs.QuietKinds.{IsQuiet}
use Rattle.erm_core_lives.proofs.LivesLists.{∈-front, ∈-last}
use Rattle.erm_core_stays.specs.Staying.{ClaimStays, HasTried, IsAmong, IsFirm, claim_in}

-- the first list stands first in the second
pub record Front {X : Type 0} (xs ys : List X) : Type 0 where
  pub more : List X
  pub is : ys ≡ xs ++ more

pub front_same : {X : Type 0} (xs ys : List X) → ys ≡ xs → Front xs ys
front_same xs ys e = record { more = []; is = e ∙ sym (append-nil xs) }

front_more : {X : Type 0} (xs more : List X) → Front xs (xs ++ more)
front_more xs more = record { more = more; is = refl }

front_if : {X : Type 0} (xs : List X) (b : Bool) (l r : List X) → Front xs l → Front xs r → Front xs (if b then l else r)
front_if xs b l r f g = either_way (Front xs) b l r (λ _. f) (λ _. g)

-- each firm claim stays
pub record WritesStay (ws vs : List Claim) : Type 0 where
  pub stay : (place : ℕ) → place < length ws → IsFirm (claim_in ws place) → ClaimStays place ws vs

writes_from : (place : ℕ) (ws vs : List Claim) (v : Claim) → place < length vs → claim_in vs place ≡ v → v.version ≡ (claim_in ws place).version → v.stamp ≡ (claim_in ws place).stamp →
    v.base ≡ (claim_in ws place).base → IsFirm v → ClaimStays place ws vs
writes_from place ws vs v within is version stamp base firm = record {
  within = within;
  version = ap (λ (w : Claim). w.version) is ∙ version;
  stamp = ap (λ (w : Claim). w.stamp) is ∙ stamp;
  base = ap (λ (w : Claim). w.base) is ∙ base;
  firm = subst IsFirm (sym is) firm;
}

stands_same : (place : ℕ) (ws vs : List Claim) → place < length vs → claim_in vs place ≡ claim_in ws place → IsFirm (claim_in ws place) → ClaimStays place ws vs
stands_same place ws vs within is firm = writes_from place ws vs (claim_in ws place) within is refl refl refl firm

-- each firm claim stays, and each object that is claimed
pub record AllStay (ws vs : List Claim) : Type 0 where
  pub firm : WritesStay ws vs
  pub objects : (oid : ℕ) → IsAmong ws oid → IsAmong vs oid

pub writes_same : (ws vs : List Claim) → vs ≡ ws → AllStay ws vs
writes_same ws vs e = record {
  firm = record { stay = λ place within firm. stands_same place ws vs (subst (λ (us : List Claim). place < length us) (sym e) within) (ap (λ (us : List Claim). claim_in us place) e) firm };
  objects = λ oid among. subst (λ (us : List Claim). IsAmong us oid) (sym e) among;
}

writes_push : (ws more : List Claim) → AllStay ws (ws ++ more)
writes_push ws more = record {
  firm = record { stay = λ place within firm. stands_same place ws (ws ++ more) (omega (arith, within, length-append ws more)) (get_or_append_left ws more no_claim place within) firm };
  objects = λ oid among.
      let within = among.1 in (
        among.0,
        omega (arith, within, length-append ws more),
        ap (λ (w : Claim). w.version.oid) (get_or_append_left ws more no_claim among.0 within) ∙ among.2,
      );
}

writes_if : (ws : List Claim) (b : Bool) (l r : List Claim) → AllStay ws l → AllStay ws r → AllStay ws (if b then l else r)
writes_if ws b l r f g = either_way (AllStay ws) b l r (λ _. f) (λ _. g)

-- one claim is changed, which overwrites the same version and stays firm
firm_set : (ws : List Claim) (at : ℕ) (v : Claim) → v.version ≡ (claim_in ws at).version → v.stamp ≡ (claim_in ws at).stamp → v.base ≡ (claim_in ws at).base →
    (IsFirm (claim_in ws at) → IsFirm v) → WritesStay ws (set ws at v)
firm_set ws at v version stamp base keeps = record {
  stay = λ place within firm.
      let long : place < length (set ws at v) = omega (arith, within, length-set ws at v) in
      ⊎_elim
      (λ (here : place ≡ at).
      subst (λ n. ClaimStays n ws (set ws at v)) (sym here)
      (writes_from at ws (set ws at v) v (omega (arith, long, here)) (get_or-set_same ws at v no_claim (omega (arith, within, here))) version stamp base
      (keeps (subst (λ n. IsFirm (claim_in ws n)) here firm))))
      (λ (other : place ≡ at → ⊥). stands_same place ws (set ws at v) long (get_or-set_other ws at place v no_claim other) firm)
      (cases_eq place at);
}

objects_set : (ws : List Claim) (at : ℕ) (v : Claim) → v.version ≡ (claim_in ws at).version → (oid : ℕ) → IsAmong ws oid → IsAmong (set ws at v) oid
objects_set ws at v version oid among =
    let place = among.0 in
    let within = among.1 in
    let long : place < length (set ws at v) = omega (arith, within, length-set ws at v) in
    ⊎_elim
    (λ (here : place ≡ at). (
      place,
      long,
      ap (λ n. (claim_in (set ws at v) n).version.oid) here
          ∙ ap (λ (w : Claim). w.version.oid) (get_or-set_same ws at v no_claim (omega (arith, within, here)))
          ∙ ap (λ (u : VersionAt). u.oid) version
          ∙ ap (λ n. (claim_in ws n).version.oid) (sym here)
          ∙ among.2,
    ))
    (λ (other : place ≡ at → ⊥). (place, long, ap (λ (w : Claim). w.version.oid) (get_or-set_other ws at place v no_claim other) ∙ among.2))
    (cases_eq place at)

writes_set : (ws : List Claim) (at : ℕ) (v : Claim) → v.version ≡ (claim_in ws at).version → v.stamp ≡ (claim_in ws at).stamp → v.base ≡ (claim_in ws at).base →
    (IsFirm (claim_in ws at) → IsFirm v) → AllStay ws (set ws at v)
writes_set ws at v version stamp base keeps = record { firm = firm_set ws at v version stamp base keeps; objects = objects_set ws at v version }

-- its cell alone is changed
own_kept : (w : CellWord) (value : ℕ) (own : Option OwnCell) → is_none own ≡ false → is_none (with_own_word w value own) ≡ false
own_kept w value None e = e
own_kept w value (Some own) e = refl

firm_from : (w v : Claim) → v.held ≡ w.held → (is_none w.own ≡ false → is_none v.own ≡ false) → IsFirm w → IsFirm v
firm_from w v held own firm = ⊎_elim (λ (h : w.held ≡ false). inl (held ∙ h)) (λ (h : is_none w.own ≡ false). inr (own h)) firm

writes_own : (ws : List Claim) (at : ℕ) (v : Claim) → v.version ≡ (claim_in ws at).version → v.stamp ≡ (claim_in ws at).stamp → v.base ≡ (claim_in ws at).base → v.held ≡ (claim_in ws at).held →
    (is_none (claim_in ws at).own ≡ false → is_none v.own ≡ false) → AllStay ws (set ws at v)
writes_own ws at v version stamp base held own = writes_set ws at v version stamp base (firm_from (claim_in ws at) v held own)

-- a claim before the newest one
before_newest : (k n : ℕ) → k < n → (k ≡ n - 1 → ⊥) → k < n - 1
before_newest k n less ne = grind arith

-- the newest claim is given up
writes_taken : (ws : List Claim) → (IsFirm (claim_in ws (length ws - 1)) → ⊥) → WritesStay ws (take (length ws - 1) ws)
writes_taken ws gives = record {
  stay = λ place within firm.
      ⊎_elim
      (λ (last : place ≡ length ws - 1). absurd (gives (subst (λ n. IsFirm (claim_in ws n)) last firm)))
      (λ (other : place ≡ length ws - 1 → ⊥).
      let below : place < length ws - 1 = before_newest place (length ws) within other in
      stands_same place ws (take (length ws - 1) ws) (let n = length-take (length ws - 1) ws in omega (arith, n, below)) (get_or-take (length ws - 1) ws place no_claim below) firm)
      (cases_eq place (length ws - 1));
}

tried_then : (t : Attempt) (oid : ℕ) → HasTried t oid → HasTried (without_newest t) oid
tried_then t oid tried =
    ⊎_elim
    (λ (among : IsAmong t.writes oid).
    let place = among.0 in
    let within = among.1 in
    ⊎_elim
    (λ (last : place ≡ length t.writes - 1).
    let is : (claim_at t (last_claim t)).version.oid ≡ oid = ap (λ n. (claim_in t.writes n).version.oid) (sym last) ∙ among.2 in
    inr (subst (λ n. n ∈ (without_newest t).given_up) is (∈-last t.given_up (claim_at t (last_claim t)).version.oid)))
    (λ (other : place ≡ length t.writes - 1 → ⊥).
    let below : place < length t.writes - 1 = before_newest place (length t.writes) within other in
    let count = length-take (length t.writes - 1) t.writes in
    inl (place, omega (arith, count, below), ap (λ (w : Claim). w.version.oid) (get_or-take (length t.writes - 1) t.writes place no_claim below) ∙ among.2))
    (cases_eq place (length t.writes - 1)))
    (λ (given : oid ∈ t.given_up). inr (∈-front t.given_up (claim_at t (last_claim t)).version.oid oid given))
    tried

-- What a transaction has claimed and given up goes on: its firm claims stay, what it gave up stands first among what it has given up, and what
-- it had claimed or given up it has claimed or given up.
pub record TriesStay (t u : Attempt) : Type 0 where
  pub claims : WritesStay t.writes u.writes
  pub given_up : Front t.given_up u.given_up
  pub tried : (oid : ℕ) → HasTried t oid → HasTried u oid

pub tries_from : (t u : Attempt) → u.given_up ≡ t.given_up → AllStay t.writes u.writes → TriesStay t u
tries_from t u given claims = record {
  claims = claims.firm;
  given_up = front_same t.given_up u.given_up given;
  tried = λ oid tried.
      ⊎_elim (λ (among : IsAmong t.writes oid). inl (claims.objects oid among)) (λ (m : oid ∈ t.given_up). inr (subst (λ (ns : List ℕ). oid ∈ ns) (sym given) m)) tried;
}

-- what a quiet step leaves of the current transaction: its predecessor stamp changes where it is active or settles alone, and it gives a claim
-- up where it is active alone
pub record Grows (x y : Part) : Type 0 where
  pub reads : Front x.current.reads y.current.reads
  pub made : Front x.current.made y.current.made
  pub tries : TriesStay x.current y.current
  pub gives : (is_active x.place ≡ true) ⊎ (y.current.given_up ≡ x.current.given_up)
  pub pred : (is_active x.place ≡ true) ⊎ (is_sealed x.place ≡ true) ⊎ (y.current.pred ≡ x.current.pred)

-- the transaction stays; it is active; it settles; its claims change elsewhere
rests : (x y : Part) → y.current ≡ x.current → Grows x y
rests x y e = record {
  reads = front_same x.current.reads y.current.reads (ap (λ (t : Attempt). t.reads) e);
  made = front_same x.current.made y.current.made (ap (λ (t : Attempt). t.made) e);
  tries = tries_from x.current y.current (ap (λ (t : Attempt). t.given_up) e) (writes_same x.current.writes y.current.writes (ap (λ (t : Attempt). t.writes) e));
  gives = inr (ap (λ (t : Attempt). t.given_up) e);
  pred = inr (inr (ap (λ (t : Attempt). t.pred) e));
}

works : (x y : Part) → is_active x.place ≡ true → Front x.current.reads y.current.reads → Front x.current.made y.current.made → TriesStay x.current y.current → Grows x y
works x y active reads made tries = record { reads = reads; made = made; tries = tries; gives = inl active; pred = inl active }

-- of one that is active the claims alone change
claims_more : (x y : Part) → is_active x.place ≡ true → y.current.reads ≡ x.current.reads → y.current.made ≡ x.current.made → TriesStay x.current y.current → Grows x y
claims_more x y active reads made tries = works x y active (front_same x.current.reads y.current.reads reads) (front_same x.current.made y.current.made made) tries

settles : (x y : Part) → is_sealed x.place ≡ true → y.current.reads ≡ x.current.reads → y.current.made ≡ x.current.made → y.current.given_up ≡ x.current.given_up → y.current.writes ≡ x.current.writes → Grows x y
settles x y sealed reads made given writes = record {
  reads = front_same x.current.reads y.current.reads reads;
  made = front_same x.current.made y.current.made made;
  tries = tries_from x.current y.current given (writes_same x.current.writes y.current.writes writes);
  gives = inr given;
  pred = inr (inl sealed);
}

touches : (x y : Part) → y.current.reads ≡ x.current.reads → y.current.made ≡ x.current.made → y.current.pred ≡ x.current.pred → y.current.given_up ≡ x.current.given_up → AllStay x.current.writes y.current.writes → Grows x y
touches x y reads made pred given claims = record {
  reads = front_same x.current.reads y.current.reads reads;
  made = front_same x.current.made y.current.made made;
  tries = tries_from x.current y.current given claims;
  gives = inr given;
  pred = inr (inr pred);
}

-- the first part of a test
first : (a b : Bool) → (a && b) ≡ true → a ≡ true
first a b h = (and_parts a b h).0

g_load_entry : (seat oid found : ℕ) (o : Object) (x : Part) (t : Task) (y : Part) → load_entry seat oid found o x t ≡ Some y → Grows x y
g_load_entry seat oid found o x (task.Cleared cleared) y e = when_then (Grows x) _ _ y e (λ _. rests x _ refl)
g_load_entry seat oid found o x t y e =
    entry_then (Grows x) seat oid found o x t y e (λ _ _. rests x _ refl) (λ _. rests x _ refl)

g_claim : (seat oid seen number found : ℕ) (o : Object) (x : Part) (t : Task) (y : Part) → claim seat oid seen number found o x t ≡ Some y → Grows x y
g_claim seat oid seen number found o x (task.Found version stamp (Some entry)) y e =
    when_then (Grows x) _ _ y e (λ g. claims_more x _ (first _ _ (first _ _ (first _ _ (first _ _ (first _ _ g))))) refl refl (tries_from x.current _ refl (writes_if x.current.writes _ _ _ (writes_push x.current.writes _) (writes_same x.current.writes x.current.writes refl))))
g_claim seat oid seen number found o x _ y e = absurd (cc)

g_set_reader : (seat : ℕ) (v : VersionAt) (o : Object) (x : Part) (t : Task) (y : Part) → set_reader seat v o x t ≡ Some y → Grows x y
g_set_reader seat v o x (task.Found version stamp head) y e =
    when_then (Grows x) _ _ y e (λ g. works x _ (first _ _ (first _ _ (first _ _ (first _ _ g)))) (front_more x.current.reads _) (front_same x.current.made x.current.made refl) (tries_from x.current _ refl (writes_same x.current.writes x.current.writes refl)))
g_set_reader seat v o x _ y e = absurd (cc)

g_walked_stamp : (found : ℕ) (v : VersionAt) (x : Part) (t : Task) (y : Part) → load_walked_stamp found v x t ≡ Some y → Grows x y
g_walked_stamp found v x (task.Walks version head) y e = when_then (Grows x) _ _ y e (λ _. rests x _ refl)
g_walked_stamp found v x (task.CutWalks version horizon) y e = when_then (Grows x) _ _ y e (λ _. rests x _ refl)
g_walked_stamp found v x (task.SafeWalks version) y e = when_then (Grows x) _ _ y e (λ _. rests x _ refl)
g_walked_stamp found v x (task.Passed version) y e = when_then (Grows x) _ _ y e (λ _. rests x _ refl)
g_walked_stamp found v x _ y e = absurd (cc)

g_walked_link : (found : ℕ) (v : VersionAt) (x : Part) (t : Task) (y : Part) → load_walked_link found v x t ≡ Some y → Grows x y
g_walked_link found v x (task.Passed version) y e = when_then (Grows x) _ _ y e (λ _. rests x _ refl)
g_walked_link found v x (task.SafePassed version) y e = when_then (Grows x) _ _ y e (λ _. rests x _ refl)
g_walked_link found v x (task.CutPassed version horizon) y e = when_then (Grows x) _ _ y e (λ _. rests x _ refl)
g_walked_link found v x _ y e = absurd (cc)

g_load_cell : (found : ℕ) (v : VersionAt) (w : CellWord) (x : Part) (y : Part) → load_cell found v w x ≡ Some y → Grows x y
g_load_cell found v word.Stamp x y e =
    if_then (Grows x) (is_active x.place) (load_walked_stamp found v x x.task) None y e (λ _ h. g_walked_stamp found v x x.task y h) (λ _ h. absurd (cc))
g_load_cell found v word.Link x y e =
    if_then (Grows x) (is_active x.place) (load_walked_link found v x x.task) None y e (λ _ h. g_walked_link found v x x.task y h) (λ _ h. absurd (cc))
g_load_cell found v (word.Row k) x y e = when_then (Grows x) _ _ y e (λ _. rests x x refl)
g_load_cell found v _ x y e = absurd (cc)

g_swap_link : (found : ℕ) (v : VersionAt) (o : Object) (x : Part) (t : Task) (y : Part) → swap_link found v o x t ≡ Some y → Grows x y
g_swap_link found v o x (task.CutFound version horizon) y e = when_then (Grows x) _ _ y e (λ _. rests x _ refl)
g_swap_link found v o x _ y e = absurd (cc)

g_load_detached : (found : ℕ) (v : VersionAt) (x : Part) (t : Task) (y : Part) → load_detached found v x t ≡ Some y → Grows x y
g_load_detached found v x (task.Detaches version) y e = when_then (Grows x) _ _ y e (λ _. rests x _ refl)
g_load_detached found v x _ y e = absurd (cc)

g_load_counter : (cells : ℕ) (c : Counter) (found : ℕ) (x : Part) (t : Task) (y : Part) → load_counter cells c found x t ≡ Some y → Grows x y
g_load_counter cells Objects found x t y e = when_then (Grows x) _ _ y e (λ _. rests x _ refl)
g_load_counter cells Cells found x task.Draws y e = when_then (Grows x) _ _ y e (λ _. rests x _ refl)
g_load_counter cells Cells found x _ y e = absurd (cc)

g_add_counter : (cells : ℕ) (seat : ℕ) (c : Counter) (found : ℕ) (x : Part) (t : Task) (y : Part) → add_counter cells seat c found x t ≡ Some y → Grows x y
g_add_counter cells seat Objects found x task.Numbers y e = when_then (Grows x) _ _ y e (λ g. works x _ (first _ _ g) (front_same x.current.reads x.current.reads refl) (front_if x.current.made _ _ _ (front_more x.current.made _) (front_same x.current.made x.current.made refl)) (tries_from x.current _ refl (writes_same x.current.writes x.current.writes refl)))
g_add_counter cells seat Cells found x task.Pool y e = when_then (Grows x) _ _ y e (λ g. claims_more x _ g refl refl (tries_from x.current _ refl (writes_if x.current.writes _ _ _ (writes_set x.current.writes (last_claim x.current) _ refl refl refl (λ _. inr refl)) (writes_same x.current.writes x.current.writes refl))))
g_add_counter cells seat Objects found x _ y e = absurd (cc)
g_add_counter cells seat Cells found x _ y e = absurd (cc)

g_active_stamp : (found : ℕ) (v : VersionAt) (w : CellWord) (x : Part) (t : Task) (y : Part) → is_active x.place ≡ true → load_active_stamp found v w x t ≡ Some y → Grows x y
g_active_stamp found v word.Overwriter x (task.Registered version) y b e = when_then (Grows x) _ _ y e (λ _. rests x _ refl)
g_active_stamp found v word.OverwriterSucc x (task.Overtaken version overwriter) y b e = when_then (Grows x) _ _ y e (λ _. claims_more x _ b refl refl (tries_from x.current _ refl (writes_same x.current.writes x.current.writes refl)))
g_active_stamp found v word.ReaderStamp x task.Draws y b e =
    when_then (Grows x) _ _ y e (λ _. claims_more x _ b refl refl (tries_from x.current _ refl (writes_set x.current.writes (last_claim x.current) _ refl refl refl (λ _. inr refl))))
g_active_stamp found v word.ReaderStamp x task.Fetched y b e = when_then (Grows x) _ _ y e (λ _. claims_more x _ b refl refl (tries_from x.current _ refl (writes_same x.current.writes x.current.writes refl)))
g_active_stamp found v _ x _ y b e = absurd (cc)

g_settled_stamp : (found : ℕ) (v : VersionAt) (w : CellWord) (x : Part) (t : Task) (y : Part) → is_sealed x.place ≡ true → load_settled_stamp found v w x t ≡ Some y → Grows x y
g_settled_stamp found v word.Overwriter x (task.ReadClear read) y b e = when_then (Grows x) _ _ y e (λ _. rests x _ refl)
g_settled_stamp found v word.OverwriterSucc x (task.ReadOvertaken read overwriter) y b e = when_then (Grows x) _ _ y e (λ _. settles x _ b refl refl refl refl)
g_settled_stamp found v word.Stamp x (task.WriteClear write) y b e = when_then (Grows x) _ _ y e (λ _. settles x _ b refl refl refl refl)
g_settled_stamp found v word.ReaderStamp x (task.WriteMade write) y b e = when_then (Grows x) _ _ y e (λ _. settles x _ b refl refl refl refl)
g_settled_stamp found v _ x _ y b e = absurd (cc)

g_load_stamp : (found : ℕ) (v : VersionAt) (w : CellWord) (x : Part) (y : Part) → load_stamp found v w x ≡ Some y → Grows x y
g_load_stamp found v w x y e =
    if_then (Grows x) _ _ _ y e (λ active h. g_active_stamp found v w x x.task y active h)
    (λ _ rest. if_then (Grows x) (is_sealed x.place) (load_settled_stamp found v w x x.task) None y rest (λ sealed h. g_settled_stamp found v w x x.task y sealed h) (λ _ h. absurd (cc)))

g_load_read_entry : (seat oid found : ℕ) (x : Part) (t : Task) (y : Part) → load_read_entry seat oid found x t ≡ Some y → Grows x y
g_load_read_entry seat oid found x (task.Settles reads writes) y e = when_then (Grows x) _ _ y e (λ _. rests x _ refl)
g_load_read_entry seat oid found x _ y e = absurd (cc)

g_load_readers : (seat : ℕ) (v : VersionAt) (found : ℕ) (x : Part) (t : Task) (y : Part) → load_readers seat v found x t ≡ Some y → Grows x y
g_load_readers seat v found x (task.Settles reads writes) y e = when_then (Grows x) _ _ y e (λ _. rests x _ refl)
g_load_readers seat v found x _ y e = absurd (cc)

g_store_ring : (at value : ℕ) (x : Part) (o : Option ℕ) (y : Part) → store_ring at value x o ≡ Some y → Grows x y
g_store_ring at value x None y e = absurd (cc)
g_store_ring at value x (Some words) y e =
    when_then (Grows x) _ _ y e (λ g. settles x _ (first _ _ (first _ _ (first _ _ (first _ _ g)))) refl refl refl refl)

g_raise_reader : (v : VersionAt) (value : ℕ) (x : Part) (t : Task) (y : Part) → raise_reader v value x t ≡ Some y → Grows x y
g_raise_reader v value x (task.Ends raised ended step cleared) y e = when_then (Grows x) _ _ y e (λ _. rests x _ refl)
g_raise_reader v value x _ y e = absurd (cc)

g_mark : (nth : ℕ) (v : VersionAt) (value wanted : ℕ) (x : Part) (t : Task) (y : Part) → mark_overwritten nth v value wanted x t ≡ Some y → Grows x y
g_mark nth v value wanted x (task.Ends raised ended step cleared) y e = when_then (Grows x) _ _ y e (λ _. rests x _ refl)
g_mark nth v value wanted x _ y e = absurd (cc)

g_head_word : (place cell : ℕ) (w : CellWord) (value : ℕ) (x : Part) (t : Task) (y : Part) → store_head_word place cell w value x t ≡ Some y → Grows x y
g_head_word place cell w value x (task.Ends raised ended step cleared) y e = when_then (Grows x) _ _ y e (λ _. touches x _ refl refl refl refl (writes_own x.current.writes place _ refl refl refl refl (own_kept w value (claim_at x.current place).own)))
g_head_word place cell w value x _ y e = absurd (cc)

-- a word of a claim's row is stored, and of its own cell
row_stays : (x : Part) (place k value : ℕ) (row : List ℕ) (is_set : Bool) → AllStay x.current.writes
    (set x.current.writes place (record (claim_at x.current place) { row = row; own = with_own_word (word.Row k) value (claim_at x.current place).own; is_set = is_set }))
row_stays x place k value row is_set =
    writes_own x.current.writes place _ refl refl refl refl (own_kept (word.Row k) value (claim_at x.current place).own)

g_start_row : (place cell k value : ℕ) (x : Part) (t : Task) (y : Part) → is_active x.place ≡ true → start_row place cell k value x t ≡ Some y → Grows x y
g_start_row place cell k value x t y b e = when_then (Grows x) _ _ y e (λ _. claims_more x _ b refl refl (tries_from x.current _ refl (row_stays x place k value _ _)))

g_row_word : (place cell k value : ℕ) (x : Part) (t : Task) (y : Part) → is_active x.place ≡ true → store_row_word place cell k value x t ≡ Some y → Grows x y
g_row_word place cell k value x (task.Copies w) y b e = when_then (Grows x) _ _ y e (λ _. claims_more x _ b refl refl (tries_from x.current _ refl (row_stays x place k value _ _)))
g_row_word place cell k value x (task.Writes claim w) y b e = when_then (Grows x) _ _ y e (λ _. claims_more x _ b refl refl (tries_from x.current _ refl (row_stays x place k value _ _)))
g_row_word place cell k value x t y b e = g_start_row place cell k value x t y b e

g_active_word : (place cell : ℕ) (w : CellWord) (value : ℕ) (x : Part) (y : Part) → is_active x.place ≡ true → store_active_word place cell w value x ≡ Some y → Grows x y
g_active_word place cell (word.Row k) value x y b e = g_row_word place cell k value x x.task y b e
g_active_word place cell _ value x y b e = absurd (cc)

g_store_cell : (place cell : ℕ) (w : CellWord) (value : ℕ) (x : Part) (y : Part) → store_cell place cell w value x ≡ Some y → Grows x y
g_store_cell place cell w value x y e =
    if_then (Grows x) _ _ _ y e (λ active h. g_active_word place cell w value x y active h) (λ _ h. g_head_word place cell w value x x.task y h)

g_unclaim : (oid head : ℕ) (x : Part) (y : Part) → (IsFirm (claim_at x.current (last_claim x.current)) → ⊥) → unclaim oid head x ≡ Some y → Grows x y
g_unclaim oid head x y gives e =
    when_then (Grows x) _ _ y e (λ g. claims_more x _ (first _ _ (first _ _ (first _ _ g))) refl refl
    (record { claims = writes_taken x.current.writes gives; given_up = front_more x.current.given_up _; tried = tried_then x.current }))

g_install_claim : (oid head : ℕ) (x : Part) (e : Option (ℕ × ℕ × ℕ × ℕ)) (y : Part) → install_claim oid head x e ≡ Some y → Grows x y
g_install_claim oid head x None y e = absurd (cc)
g_install_claim oid head x (Some c) y e =
    if_then (Grows x) (adds_version x) (install_new oid head x c) (release_old oid head x c) y e
    (λ _ h. when_then (Grows x) _ _ y h (λ _. touches x _ refl refl refl refl (writes_set x.current.writes c.1 _ refl refl refl (λ _. inl refl))))
    (λ _ h. when_then (Grows x) _ _ y h (λ _. touches x _ refl refl refl refl (writes_set x.current.writes c.1 _ refl refl refl (λ _. inl refl))))

g_install_other : (oid head : ℕ) (x : Part) (t : Task) (y : Part) → install_claim oid head x (end_of t) ≡ Some y → Grows x y
g_install_other oid head x t y e = g_install_claim oid head x (end_of t) y e

-- a claim is given up where it has no cell
abbrev pub GivesUp : Part → Type 0
GivesUp x = x.task ≡ task.Refused → IsFirm (claim_at x.current (last_claim x.current)) → ⊥

g_install : (oid head : ℕ) (x : Part) (t : Task) (y : Part) → GivesUp x → x.task ≡ t → install oid head x t ≡ Some y → Grows x y
g_install oid head x task.Refused y gives at e = g_unclaim oid head x y (gives at) e
g_install oid head x t y gives at e = g_install_other oid head x t y e

g_clear_reader : (v : VersionAt) (x : Part) (e : Option (ℕ × ℕ × ℕ × ℕ)) (y : Part) → clear_reader v x e ≡ Some y → Grows x y
g_clear_reader v x None y e = absurd (cc)
g_clear_reader v x (Some c) y e = when_then (Grows x) _ _ y e (λ _. rests x _ refl)

g_to_settle : (found : ℕ) (x : Part) → Grows x (load_flushed_to_settle found x)
g_to_settle found x = either_way (Grows x) _ _ _ (λ _. rests x (record x { task = task.Settles 0 0 }) refl) (λ _. rests x x refl)

g_load_flushed : (found : ℕ) (x : Part) (f : Flushing) (y : Part) → load_flushed found x f ≡ Some y → Grows x y
g_load_flushed found x (flushing.Tail tail) y e = some_then (Grows x) _ y e (rests x _ refl)
g_load_flushed found x _ y e = when_then (Grows x) _ _ y e (λ _. g_to_settle found x)

g_if : (x : Part) (b : Bool) (l r : Part) → Grows x l → Grows x r → Grows x (if b then l else r)
g_if x b l r f g = either_way (Grows x) b l r (λ _. f) (λ _. g)

-- the flush seat's own fields change
g_flushing : (x : Part) (f : Flushing) (to : ℕ) → Grows x (record x { flushing = f; gathered_to = to })
g_flushing x f to = rests x _ refl

g_gathered : (tail from block next end : ℕ) (x : Part) → Grows x (gathered_word tail from block next end x)
g_gathered tail from block next end x = either_way (Grows x) _ _ _ (λ _. g_flushing x _ _) (λ _. g_flushing x _ _)

g_load_ring : (at found : ℕ) (x : Part) (f : Flushing) (y : Part) → load_ring at found x f ≡ Some y → Grows x y
g_load_ring at found x (flushing.Gathers tail from block next end) y e =
    when_then (Grows x) _ _ y e (λ _. g_if x _ _ _ (g_gathered tail from block next end x) (g_if x _ _ _ (rests x x refl) (g_gathered tail from next next _ x)))
g_load_ring at found x _ y e = absurd (cc)

g_clear_ring : (at : ℕ) (x : Part) (f : Flushing) (y : Part) → clear_ring at x f ≡ Some y → Grows x y
g_clear_ring at x (flushing.Gathers tail from block next end) y e = when_then (Grows x) _ _ y e (λ _. rests x _ refl)
g_clear_ring at x (flushing.Clears next to) y e = when_then (Grows x) _ _ y e (λ _. rests x _ refl)
g_clear_ring at x _ y e = absurd (cc)

g_store_flushed : (value : ℕ) (x : Part) (f : Flushing) (y : Part) → store_flushed value x f ≡ Some y → Grows x y
g_store_flushed value x (flushing.Clears next to) y e = when_then (Grows x) _ _ y e (λ _. rests x _ refl)
g_store_flushed value x _ y e = absurd (cc)

g_store_back : (value : ℕ) (x : Part) (p : Place) (y : Part) → store_back value x p ≡ Some y → Grows x y
g_store_back value x (Decided tail stamp) y e = when_then (Grows x) _ _ y e (λ _. rests x _ refl)
g_store_back value x _ y e = absurd (cc)

g_load_back : (other found : ℕ) (x : Part) (t : Task) (y : Part) → load_back other found x t ≡ Some y → Grows x y
g_load_back other found x (task.Behind next) y e = when_then (Grows x) _ _ y e (λ _. rests x _ refl)
g_load_back other found x _ y e = absurd (cc)

g_unset : (place : ℕ) (x y : Part) → unset place x ≡ Some y → Grows x y
g_unset place x y e =
    when_then (Grows x) _ _ y e (λ g.
    claims_more x _ (first _ _ (first _ _ (first _ _ g))) refl refl
    (tries_from x.current _ refl (writes_own x.current.writes place _ refl refl refl refl (λ own. own))))

pub growing_kind : (p : ℕ) (k : Kind) (found : ℕ) (s : Shared) (x y : Part) → GivesUp x → IsQuiet k → part_after p k found s x ≡ Some y → Grows x y
growing_kind p (kind.LoadTail reason) found s x y gives q e = absurd q
growing_kind p (kind.AddTail size) found s x y gives q e = absurd q
growing_kind p (kind.StoreBegin value) found s x y gives q e = absurd q
growing_kind p (kind.StoreState value) found s x y gives q e = absurd q
growing_kind p (kind.LoadBegin other) found s x y gives q e = absurd q
growing_kind p (kind.LoadState other bound) found s x y gives q e = absurd q
growing_kind p (kind.Split other) found s x y gives q e = absurd q
growing_kind p (kind.Join other) found s x y gives q e = absurd q
growing_kind p (kind.LoadEntry oid) found s x y gives q e =
    if_then (Grows x) (is_sealed x.place) (load_read_entry p oid found x x.task) (load_entry p oid found (s.objects oid) x x.task) y e
    (λ _ h. g_load_read_entry p oid found x x.task y h) (λ _ h. g_load_entry p oid found (s.objects oid) x x.task y h)
growing_kind p (kind.Claim oid seen number) found s x y gives q e = g_claim p oid seen number found (s.objects oid) x x.task y e
growing_kind p (kind.Install oid head) found s x y gives q e = g_install oid head x x.task y gives refl e
growing_kind p (kind.LoadCell v w) found s x y gives q e = g_load_cell found v w x y (unless_some _ _ y e)
growing_kind p (kind.StoreCell place cell w value) found s x y gives q e = g_store_cell place cell w value x y e
growing_kind p (kind.LoadCounter counter) found s x y gives q e = g_load_counter _ counter found x x.task y e
growing_kind p (kind.AddCounter counter) found s x y gives q e = g_add_counter _ p counter found x x.task y e
growing_kind p (kind.SetReader v) found s x y gives q e = g_set_reader p v (s.objects v.oid) x x.task y e
growing_kind p (kind.ClearReader v) found s x y gives q e = g_clear_reader v x (end_of x.task) y e
growing_kind p (kind.LoadReaders v) found s x y gives q e = g_load_readers p v found x x.task y e
growing_kind p (kind.LoadStamp v w) found s x y gives q e = g_load_stamp found v w x y e
growing_kind p (kind.RaiseReader v value) found s x y gives q e = g_raise_reader v value x x.task y e
growing_kind p (kind.StoreSucc v value) found s x y gives q e = g_mark 6 v value x.current.succ x x.task y e
growing_kind p (kind.StoreOverwriter v value) found s x y gives q e = g_mark 7 v value x.current.stamp x x.task y e
growing_kind p (kind.StoreRing at value) found s x y gives q e = g_store_ring at value x (filled x.current x.task) y e
growing_kind p (kind.Decide at header) found s x y gives q e = absurd q
growing_kind p (kind.LoadRing at) found s x y gives q e = g_load_ring at found x x.flushing y e
growing_kind p (kind.ClearRing at) found s x y gives q e = g_clear_ring at x x.flushing y e
growing_kind p (kind.StoreFlushed value) found s x y gives q e = g_store_flushed value x x.flushing y e
growing_kind p kind.LoadFlushed found s x y gives q e = g_load_flushed found x x.flushing y e
growing_kind p (kind.SwapLink v) found s x y gives q e = g_swap_link found v (s.objects v.oid) x x.task y e
growing_kind p (kind.LoadDetached v) found s x y gives q e = g_load_detached found v x x.task y e
growing_kind p (kind.StoreBack value) found s x y gives q e = g_store_back value x x.place y e
growing_kind p (kind.LoadBack other) found s x y gives q e = g_load_back other found x x.task y e
growing_kind p (kind.Unset place) found s x y gives q e = g_unset place x y e
