-- Steps after which the claims of a seat's transactions are as before.
use Rattle.std.proofs.Common.{◌≡◌, ℕ, ◌+◌, ◌<◌, ⊎_elim, true, false, List, [], ◌∷◌, ◌++◌, length, set, refl, sym, ap, ◌∙◌, subst}
use Rattle.erm_model.specs.Member.{◌∈◌}
use Rattle.erm_machine.specs.declared.attempt.Attempt.{Attempt}
use Rattle.erm_machine.specs.declared.attempt.Claim.{Claim}
use Rattle.erm_machine.specs.declared.attempt.Decision.{Decision}
use Rattle.erm_machine.specs.declared.attempt.Decision.TheVariants.{Commit}
use Rattle.erm_machine.specs.declared.part.Part.{Part}
use Rattle.erm_machine.specs.declared.place.Place.{Place}
use Rattle.erm_machine.specs.declared.place.Place.TheVariants.{Active, Sealed}
use Rattle.erm_machine.specs.declared.limits.TheConstants.{OBJECT_LIMIT}
use Rattle.erm_machine.specs.declared.version.VersionAt.{VersionAt}
use Rattle.erm_machine.specs.Core.{Shared, blank, version_at, claim_at, no_claim}
use Rattle.erm_machine.specs.Facts.{IsCurrent}
use Rattle.erm_machine.specs.Marks.{OwnMarks}
use Rattle.erm_machine.specs.Seat.{is_active, is_sealed, is_commit}
use Rattle.erm_machine.proofs.Holders.{stands_in}
use Rattle.erm_core_ssn.proofs.MarksLists.{∈-last, ∈-set, ∈-before}
use Rattle.erm_core_ssn.proofs.MarksSteps.{Grown, Goes, goes_same, Ahead, ahead_current, ahead_over, ClaimOk, ok_of, ok_stays, own_current, own_over}

-- what a step leaves of a seat's part, whatever it leaves of objects
pub record Left (s : Shared) (x y : Part) : Type 0 where
  pub ahead : Ahead x y
  pub own : (r : Shared) → Grown s r → OwnMarks r y

-- a claim that the transaction had before
pub record Before (t u : Attempt) (w : Claim) : Type 0 where
  pub claim : Claim
  pub stands : claim ∈ t.writes
  pub version : w.version ≡ claim.version
  pub stamp : w.stamp ≡ claim.stamp
  pub held : u.decision ≡ Commit → w.held ≡ false → claim.held ≡ false

-- no claim is new, and where the transaction committed its stamps stay
pub record Same (x y : Part) : Type 0 where
  pub over : y.over ≡ x.over
  pub back : (w : Claim) → w ∈ y.current.writes → Before x.current y.current w
  pub commits : y.current.decision ≡ Commit → Goes x.current y.current × (x.current.decision ≡ Commit)
  pub goes : x.current.decision ≡ Commit → Goes x.current y.current

before_ok : (s : Shared) (t u : Attempt) (w : Claim) → (b : Before t u w) → (u.decision ≡ Commit → Goes t u × (t.decision ≡ Commit)) → ClaimOk s t b.claim → ClaimOk s u w
before_ok s t u w b commits f = record {
  written = record {
    object = subst (λ (v : VersionAt). v.oid < OBJECT_LIMIT) (sym b.version) f.written.object;
    within = subst (λ (v : VersionAt). v.place < length (s.objects v.oid).versions) (sym b.version) f.written.within;
    stamp = subst (λ (v : VersionAt). (version_at (s.objects v.oid) v.place).words.stamp ≡ w.stamp) (sym b.version) (f.written.stamp ∙ sym b.stamp);
  };
  installed = λ committed over.
      let both = commits committed in
      let go = both.0 in
      let i = f.installed both.1 (b.held committed over) in
      record {
        next = subst (λ (v : VersionAt). v.place + 1 < length (s.objects v.oid).versions) (sym b.version) i.next;
        stamp = subst (λ (v : VersionAt). (version_at (s.objects v.oid) (v.place + 1)).words.stamp ≡ u.stamp) (sym b.version) (i.stamp ∙ sym go.stamp);
        succ = subst (λ (v : VersionAt). (version_at (s.objects v.oid) v.place).words.overwriter_succ ≡ u.succ) (sym b.version) (i.succ ∙ sym go.succ);
      };
}

pub left_same : (s : Shared) (x y : Part) → OwnMarks s x → Same x y → Left s x y
left_same s x y own same = record {
  ahead = ahead_current x y same.over same.goes;
  own = λ r g. own_current s r x y g own same.over (λ w m.
      let b = same.back w m in
      ok_stays s r y.current w g (before_ok s x.current y.current w b same.commits (ok_of s x own x.current b.claim (∈-last x.over x.current) b.stands)));
}

-- the current transaction is over
pub left_over : (s : Shared) (x y : Part) (d : Decision) → OwnMarks s x → y.over ≡ x.over ++ record x.current { decision = d } ∷ [] → y.current ≡ blank
    → (d ≡ Commit → x.current.decision ≡ Commit) → (x.current.decision ≡ Commit → d ≡ Commit) → ((w : Claim) → w ∈ x.current.writes → w.held ≡ false) → Left s x y
left_over s x y d own over current back ahead ended = record {
  ahead = ahead_over x y d over ahead;
  own = λ r g. own_over s r x y d g own over current back ended;
}

-- the same claims; of which one is changed; the newest is dropped
pub before_same : (t u : Attempt) → u.writes ≡ t.writes → (w : Claim) → w ∈ u.writes → Before t u w
before_same t u e w m = record { claim = w; stands = subst (λ (ws : List Claim). w ∈ ws) e m; version = refl; stamp = refl; held = λ _ h. h }

pub before_set : (t u : Attempt) (place : ℕ) (v : Claim) → u.writes ≡ set t.writes place v → v.version ≡ (claim_at t place).version → v.stamp ≡ (claim_at t place).stamp
    → (u.decision ≡ Commit → v.held ≡ false → (claim_at t place).held ≡ false) → (w : Claim) → w ∈ u.writes → Before t u w
before_set t u place v e version stamp held w m =
    ⊎_elim
    (λ (old : w ∈ t.writes). record { claim = w; stands = old; version = refl; stamp = refl; held = λ _ h. h })
    (λ (new : (w ≡ v) × (place < length t.writes)). record {
      claim = claim_at t place;
      stands = stands_in t place new.1;
      version = ap (λ (z : Claim). z.version) new.0 ∙ version;
      stamp = ap (λ (z : Claim). z.stamp) new.0 ∙ stamp;
      held = λ commits over. held commits (ap (λ (z : Claim). z.held) (sym new.0) ∙ over);
    })
    (∈-set t.writes place v w (subst (λ (ws : List Claim). w ∈ ws) e m))

pub goes_set : (t u : Attempt) (place : ℕ) (v : Claim) → u.writes ≡ set t.writes place v → v.version ≡ (claim_at t place).version → u.decision ≡ Commit → u.stamp ≡ t.stamp → u.succ ≡ t.succ → Goes t u
goes_set t u place v e version decision stamp succ = record {
  decision = decision;
  stamp = stamp;
  succ = succ;
  writes = λ w m.
      ⊎_elim
      (λ (stays : w ∈ set t.writes place v). (w, subst (λ (ws : List Claim). w ∈ ws) (sym e) stays, refl))
      (λ (here : (w ≡ claim_at t place) × (v ∈ set t.writes place v)).
      (v, subst (λ (ws : List Claim). v ∈ ws) (sym e) here.1, version ∙ ap (λ (z : Claim). z.version) (sym here.0)))
      (∈-before t.writes place v no_claim w m);
}

-- the transactions stay; the current one has the same claims and stamps
pub same_claims : (x y : Part) → y.over ≡ x.over → y.current.decision ≡ x.current.decision → y.current.stamp ≡ x.current.stamp → y.current.succ ≡ x.current.succ
    → y.current.writes ≡ x.current.writes → Same x y
same_claims x y over decision stamp succ writes = record {
  over = over;
  back = before_same x.current y.current writes;
  commits = λ committed. (goes_same x.current y.current committed stamp succ writes, sym decision ∙ committed);
  goes = λ committed. goes_same x.current y.current (decision ∙ committed) stamp succ writes;
}

pub same_current : (x y : Part) → y.over ≡ x.over → y.current ≡ x.current → Same x y
same_current x y over current =
    same_claims x y over (ap (λ (t : Attempt). t.decision) current) (ap (λ (t : Attempt). t.stamp) current) (ap (λ (t : Attempt). t.succ) current)
    (ap (λ (t : Attempt). t.writes) current)

-- the current transaction, of which one claim is changed in other words than what it overwrites and whether it is held
pub same_set : (x y : Part) (place : ℕ) (v : Claim) → y.over ≡ x.over → y.current.decision ≡ x.current.decision → y.current.stamp ≡ x.current.stamp → y.current.succ ≡ x.current.succ
    → y.current.writes ≡ set x.current.writes place v → v.version ≡ (claim_at x.current place).version → v.stamp ≡ (claim_at x.current place).stamp
    → (x.current.decision ≡ Commit → v.held ≡ false → (claim_at x.current place).held ≡ false) → Same x y
same_set x y place v over decision stamp succ writes version of held = record {
  over = over;
  back = before_set x.current y.current place v writes version of (λ committed. held (sym decision ∙ committed));
  commits = λ committed. (goes_set x.current y.current place v writes version committed stamp succ, sym decision ∙ committed);
  goes = λ committed. goes_set x.current y.current place v writes version (decision ∙ committed) stamp succ;
}

-- a transaction that hasn't committed, with no new claim
pub same_open : (x y : Part) → y.over ≡ x.over → (x.current.decision ≡ Commit → ⊥) → (y.current.decision ≡ Commit → ⊥) → ((w : Claim) → w ∈ y.current.writes → Before x.current y.current w) → Same x y
same_open x y over old new back = record { over = over; back = back; commits = λ committed. absurd (new committed); goes = λ committed. absurd (old committed) }

-- at these places nothing is decided
pub active_open : (pl : Place) (t : Attempt) → IsCurrent pl t → is_active pl ≡ true → t.decision ≡ Commit → ⊥
active_open (Active tail) t cur e committed = let d = cur.decision in absurd (cc)
active_open _ t cur e committed = absurd (cc)

pub sealed_open : (pl : Place) (t : Attempt) → IsCurrent pl t → is_sealed pl ≡ true → t.decision ≡ Commit → ⊥
sealed_open (Sealed tail stamp) t cur e committed = let d = cur.decision in absurd (cc)
sealed_open _ t cur e committed = absurd (cc)

pub commit_is : (d : Decision) → is_commit d ≡ true → d ≡ Commit
commit_is Commit e = refl
commit_is _ e = absurd (cc)
