-- A step and marks: what a step leaves of objects and of its seat's transactions, and that the law holds after.
use Rattle.std.proofs.Common.{◌≡◌, ℕ, ◌+◌, ◌<◌, ◌≤◌, ◌⊎◌, ⊎_elim, false, List, [], ◌∷◌, ◌++◌, length, refl, sym, ap, ◌∙◌, subst, arith}
use Rattle.std.proofs.lemmas.Bool.{cases_eq, cases_lt}
use Rattle.erm_model.specs.Member.{◌∈◌}
use Rattle.erm_model.proofs.Members.{none_in_nil, ∈-push}
use Rattle.erm_machine.specs.declared.limits.TheConstants.{OBJECT_LIMIT}
use Rattle.erm_machine.specs.declared.attempt.Attempt.{Attempt}
use Rattle.erm_machine.specs.declared.attempt.Claim.{Claim}
use Rattle.erm_machine.specs.declared.attempt.Decision.{Decision}
use Rattle.erm_machine.specs.declared.attempt.Decision.TheVariants.{Commit}
use Rattle.erm_machine.specs.declared.part.Part.{Part}
use Rattle.erm_machine.specs.declared.version.VersionAt.{VersionAt}
use Rattle.erm_machine.specs.Core.{Core, Shared, blank, version_at}
use Rattle.erm_machine.specs.Facts.{all_of}
use Rattle.erm_machine.specs.Marks.{HasOverwritten, Marks, IsWritten, IsInstalled, OwnMarks}
use Rattle.erm_machine.specs.Sound.{Sound}
use Rattle.erm_machine.specs.Words.{put}
use Rattle.erm_machine.proofs.Frames.{each_seat, put_same, put_other}
use Rattle.erm_machine.proofs.Objects.{Extends}
use Rattle.erm_core_ssn.proofs.MarksLists.{∈-last, ∈-front}

-- what the law says of a state
pub record Kept (d : Core) : Type 0 where
  pub common : Marks d.shared d.seats
  pub own : (p : ℕ) → OwnMarks d.shared (d.seats p)

-- what a step leaves of objects: versions stay, and the successor stamps at those behind which a newer one stands
pub record Grown (s r : Shared) : Type 0 where
  pub extends : (oid : ℕ) → Extends (s.objects oid) (r.objects oid)
  pub succ : (oid place : ℕ) → place + 1 < length (s.objects oid).versions
      → (version_at (r.objects oid) place).words.overwriter_succ ≡ (version_at (s.objects oid) place).words.overwriter_succ

-- each new version was made by a commit
pub record Made (s r : Shared) (seats : ℕ → Part) : Type 0 where
  pub made : (oid place : ℕ) → oid < OBJECT_LIMIT → length (s.objects oid).versions ≤ place + 1 → place + 1 < length (r.objects oid).versions
      → HasOverwritten seats oid place (version_at (r.objects oid) (place + 1)).words.stamp (version_at (r.objects oid) place).words.overwriter_succ

-- a committed transaction goes on, with its stamps and with the versions that it overwrote
pub record Goes (t u : Attempt) : Type 0 where
  pub decision : u.decision ≡ Commit
  pub stamp : u.stamp ≡ t.stamp
  pub succ : u.succ ≡ t.succ
  pub writes : (w : Claim) → w ∈ t.writes → (v : Claim) × (v ∈ u.writes) × (v.version ≡ w.version)

pub goes_same : (t u : Attempt) → u.decision ≡ Commit → u.stamp ≡ t.stamp → u.succ ≡ t.succ → u.writes ≡ t.writes → Goes t u
goes_same t u decision stamp succ writes = record {
  decision = decision;
  stamp = stamp;
  succ = succ;
  writes = λ w m. (w, subst (λ (ws : List Claim). w ∈ ws) (sym writes) m, refl);
}

-- so does each one of a seat
pub record Ahead (x y : Part) : Type 0 where
  pub goes : (t : Attempt) → t ∈ all_of x → t.decision ≡ Commit → (u : Attempt) × (u ∈ all_of y) × Goes t u

-- the current transaction goes on; it is over
pub ahead_current : (x y : Part) → y.over ≡ x.over → (x.current.decision ≡ Commit → Goes x.current y.current) → Ahead x y
ahead_current x y over goes = record {
  goes = λ t m commits.
      ⊎_elim
      (λ (before : t ∈ x.over).
      (t, ∈-front y.over y.current t (subst (λ (ts : List Attempt). t ∈ ts) (sym over) before), goes_same t t commits refl refl refl))
      (λ (now : t ≡ x.current).
      (y.current, ∈-last y.over y.current, subst (λ u. Goes u y.current) (sym now) (goes (ap (λ (u : Attempt). u.decision) (sym now) ∙ commits))))
      (∈-push x.over x.current t m);
}

pub ahead_over : (x y : Part) (d : Decision) → y.over ≡ x.over ++ record x.current { decision = d } ∷ [] → (x.current.decision ≡ Commit → d ≡ Commit) → Ahead x y
ahead_over x y d over commit = record {
  goes = λ t m commits.
      ⊎_elim
      (λ (before : t ∈ x.over).
      (t, ∈-front y.over y.current t (subst (λ (ts : List Attempt). t ∈ ts) (sym over) (∈-front x.over _ t before)), goes_same t t commits refl refl refl))
      (λ (now : t ≡ x.current). (
        record x.current { decision = d },
        ∈-front y.over y.current _ (subst (λ (ts : List Attempt). record x.current { decision = d } ∈ ts) (sym over) (∈-last x.over _)),
        goes_same t _ (commit (ap (λ (u : Attempt). u.decision) (sym now) ∙ commits)) (ap (λ (u : Attempt). u.stamp) (sym now)) (ap (λ (u : Attempt). u.succ) (sym now))
            (ap (λ (u : Attempt). u.writes) (sym now)),
      ))
      (∈-push x.over x.current t m);
}

-- what has overwritten a version has done so after the step
pub overwritten_stays : (seats : ℕ → Part) (p : ℕ) (y : Part) (oid place stamp succ : ℕ) → Ahead (seats p) y → HasOverwritten seats oid place stamp succ
    → HasOverwritten (put seats p y) oid place stamp succ
overwritten_stays seats p y oid place stamp succ ahead (q, t, w, m, commits, stamp_is, succ_is, n, oid_is, place_is) =
    ⊎_elim
    (λ (same : q ≡ p).
    let on = ahead.goes t (subst (λ k. t ∈ all_of (seats k)) same m) commits in
    let go = on.2 in
    let there = go.writes w n in
    let e = there.2 in (
      p,
      on.0,
      there.0,
      subst (λ z. on.0 ∈ all_of z) (sym (put_same seats p y)) on.1,
      go.decision,
      go.stamp ∙ stamp_is,
      go.succ ∙ succ_is,
      there.1,
      ap (λ (v : VersionAt). v.oid) e ∙ oid_is,
      ap (λ (v : VersionAt). v.place) e ∙ place_is,
    ))
    (λ (other : q ≡ p → ⊥).
    (q, t, w, subst (λ z. t ∈ all_of z) (sym (put_other seats p y q other)) m, commits, stamp_is, succ_is, n, oid_is, place_is))
    (cases_eq q p)

-- what a claim overwrites is still there, and so is what a commit has installed
pub written_stays : (s r : Shared) (w : Claim) → Grown s r → IsWritten s w → IsWritten r w
written_stays s r w g f = record {
  object = f.object;
  within = let a = f.within in let b = (g.extends w.version.oid).grows in omega (arith, a, b);
  stamp = (g.extends w.version.oid).stamp w.version.place f.within ∙ f.stamp;
}

pub installed_stays : (s r : Shared) (t : Attempt) (w : Claim) → Grown s r → IsInstalled s t w → IsInstalled r t w
installed_stays s r t w g f = record {
  next = let a = f.next in let b = (g.extends w.version.oid).grows in omega (arith, a, b);
  stamp = (g.extends w.version.oid).stamp (w.version.place + 1) f.next ∙ f.stamp;
  succ = g.succ w.version.oid w.version.place f.next ∙ f.succ;
}

-- a claim of a transaction, as the law wants it
pub record ClaimOk (s : Shared) (t : Attempt) (w : Claim) : Type 0 where
  pub written : IsWritten s w
  pub installed : t.decision ≡ Commit → w.held ≡ false → IsInstalled s t w

pub ok_stays : (s r : Shared) (t : Attempt) (w : Claim) → Grown s r → ClaimOk s t w → ClaimOk r t w
ok_stays s r t w g f = record {
  written = written_stays s r w g f.written;
  installed = λ commits over. installed_stays s r t w g (f.installed commits over);
}

pub ok_of : (s : Shared) (x : Part) → OwnMarks s x → (t : Attempt) (w : Claim) → t ∈ all_of x → w ∈ t.writes → ClaimOk s t w
ok_of s x own t w m n = record { written = own.written t w m n; installed = λ commits over. own.installed t w m commits n over }

own_from : (s : Shared) (x : Part) → ((t : Attempt) (w : Claim) → t ∈ all_of x → w ∈ t.writes → ClaimOk s t w)
    → ((t : Attempt) (w : Claim) → t ∈ x.over → w ∈ t.writes → w.held ≡ false) → OwnMarks s x
own_from s x ok over = record {
  written = λ t w m n. (ok t w m n).written;
  installed = λ t w m commits n held. (ok t w m n).installed commits held;
  over = over;
}

pub own_stays : (s r : Shared) (x : Part) → Grown s r → OwnMarks s x → OwnMarks r x
own_stays s r x g own = own_from r x (λ t w m n. ok_stays s r t w g (ok_of s x own t w m n)) own.over

-- the current transaction changes; it is over
pub own_current : (s r : Shared) (x y : Part) → Grown s r → OwnMarks s x → y.over ≡ x.over → ((w : Claim) → w ∈ y.current.writes → ClaimOk r y.current w) → OwnMarks r y
own_current s r x y g own over ok = own_from r y claims (λ t w m n. own.over t w (subst (λ (ts : List Attempt). t ∈ ts) over m) n)
  where
    claims : (t : Attempt) (w : Claim) → t ∈ all_of y → w ∈ t.writes → ClaimOk r t w
    claims t w m n =
        ⊎_elim
        (λ (before : t ∈ y.over).
        ok_stays s r t w g (ok_of s x own t w (∈-front x.over x.current t (subst (λ (ts : List Attempt). t ∈ ts) over before)) n))
        (λ (now : t ≡ y.current). subst (λ u. ClaimOk r u w) (sym now) (ok w (subst (λ (u : Attempt). w ∈ u.writes) now n)))
        (∈-push y.over y.current t m)

pub own_over : (s r : Shared) (x y : Part) (d : Decision) → Grown s r → OwnMarks s x → y.over ≡ x.over ++ record x.current { decision = d } ∷ [] → y.current ≡ blank
    → (d ≡ Commit → x.current.decision ≡ Commit) → ((w : Claim) → w ∈ x.current.writes → w.held ≡ false) → OwnMarks r y
own_over s r x y d g own over current commit ended = own_from r y claims unheld
  where
    last : (t : Attempt) → t ∈ y.over → (t ∈ x.over) ⊎ (t ≡ record x.current { decision = d })
    last t m = ∈-push x.over _ t (subst (λ (ts : List Attempt). t ∈ ts) over m)

    old : (w : Claim) → w ∈ x.current.writes → ClaimOk r (record x.current { decision = d }) w
    old w n =
        let f = ok_of s x own x.current w (∈-last x.over x.current) n in
        record {
          written = written_stays s r w g f.written;
          installed = λ commits held.
              let i = installed_stays s r x.current w g (f.installed (commit commits) held) in
              record { next = i.next; stamp = i.stamp; succ = i.succ };
        }

    claims : (t : Attempt) (w : Claim) → t ∈ all_of y → w ∈ t.writes → ClaimOk r t w
    claims t w m n =
        ⊎_elim
        (λ (before : t ∈ y.over).
        ⊎_elim
        (λ (long : t ∈ x.over). ok_stays s r t w g (ok_of s x own t w (∈-front x.over x.current t long) n))
        (λ (now : t ≡ record x.current { decision = d }). subst (λ u. ClaimOk r u w) (sym now) (old w (subst (λ (u : Attempt). w ∈ u.writes) now n)))
        (last t before))
        (λ (new : t ≡ y.current). absurd (none_in_nil w (subst (λ (u : Attempt). w ∈ u.writes) (new ∙ current) n)))
        (∈-push y.over y.current t m)

    unheld : (t : Attempt) (w : Claim) → t ∈ y.over → w ∈ t.writes → w.held ≡ false
    unheld t w m n =
        ⊎_elim
        (λ (long : t ∈ x.over). own.over t w long n)
        (λ (now : t ≡ record x.current { decision = d }). ended w (subst (λ (u : Attempt). w ∈ u.writes) now n))
        (last t m)

-- What a step leaves makes the law hold of the state after.
pub kept_from : (c : Core) (p : ℕ) (y : Part) (r : Shared) (d : Core) → Sound c → Grown c.shared r → Made c.shared r (put c.seats p y) → Ahead (c.seats p) y
    → OwnMarks r y → record { shared = r; seats = put c.seats p y } ≡ d → Kept d
kept_from c p y r d sound g new ahead own is =
    subst Kept is (record {
      common = record {
        made = λ oid place known within.
            ⊎_elim
            (λ (old : place + 1 < length (c.shared.objects oid).versions).
            subst (λ n. HasOverwritten (put c.seats p y) oid place (version_at (r.objects oid) (place + 1)).words.stamp n) (sym (g.succ oid place old))
            (subst (λ n. HasOverwritten (put c.seats p y) oid place n (version_at (c.shared.objects oid) place).words.overwriter_succ)
            (sym ((g.extends oid).stamp (place + 1) old))
            (overwritten_stays c.seats p y oid place _ _ ahead (sound.common.marks.made oid place known old))))
            (λ (late : length (c.shared.objects oid).versions ≤ place + 1). new.made oid place known late within)
            (cases_lt (place + 1) (length (c.shared.objects oid).versions));
        opened = λ oid known. (g.extends oid).stamp 0 (sound.common.claims.objects oid known).some ∙ sound.common.marks.opened oid known;
      };
      own = each_seat (λ _ (z : Part). OwnMarks r z) c.seats p y own (λ q _. own_stays c.shared r (c.seats q) g (sound.own q).marks);
    })
