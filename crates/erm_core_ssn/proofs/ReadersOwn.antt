-- What a seat's own facts on readers become where its part changes and nothing that is shared.
use Rattle.std.proofs.Common.{◌≡◌, ◌≢◌, ℕ, ◌<◌, ◌≤◌, ⊎_elim, List, [], ◌∷◌, ◌++◌, length, get_or, refl, sym, ap, ◌∙◌, subst, arith}
use Rattle.erm_model.specs.Member.{◌∈◌}
use Rattle.erm_model.proofs.Members.{∈-push}
use Rattle.erm_machine.specs.declared.attempt.Attempt.{Attempt}
use Rattle.erm_machine.specs.declared.attempt.Read.{Read}
use Rattle.erm_machine.specs.declared.attempt.Decision.{Decision}
use Rattle.erm_machine.specs.declared.attempt.Decision.TheVariants.{Undecided, Commit}
use Rattle.erm_machine.specs.declared.limits.TheConstants.{OBJECT_LIMIT}
use Rattle.erm_machine.specs.declared.part.Part.{Part}
use Rattle.erm_machine.specs.declared.place.Place.{Place}
use Rattle.erm_machine.specs.declared.place.Place.TheVariants.{Leaving}
use Rattle.erm_machine.specs.declared.task.Task.{Task}
use Rattle.erm_machine.specs.declared.task.Task.TheVariants as task
use Rattle.erm_machine.specs.Core.{Core, Shared, version_at}
use Rattle.erm_machine.specs.Readers.{OwnReaders, bit_of, cleared, raised, cleared_of, raised_of}
use Rattle.erm_machine.specs.Seat.{no_read}
use Rattle.erm_machine.proofs.Quiet.{Steady}
use Rattle.erm_core_ssn.proofs.ReadersLists.{∈-last, ∈-front, read_stands}
use Rattle.erm_core_ssn.proofs.ReadersSteps.{Recalls, Left}
use Rattle.erm_core_ssn.proofs.ReadersCalm.{bits_cleared, stamps_raised, Even, Calm}

-- the facts, of the versions read and of how many bits are cleared
abbrev pub Once : List Read → Type 0
Once rs = (j k : ℕ) → j < k → k < length rs → (get_or rs j no_read).version.oid ≢ (get_or rs k no_read).version.oid

abbrev pub Stands : Shared → ℕ → ℕ → List Read → Type 0
Stands s seat cleared rs = (k : ℕ) → cleared ≤ k → k < length rs → bit_of s seat (get_or rs k no_read).version.oid (get_or rs k no_read).version.place ≡ 1

abbrev pub Only : Shared → ℕ → ℕ → List Read → Type 0
Only s seat cleared rs = (oid place : ℕ) → oid < OBJECT_LIMIT → place < length (s.objects oid).versions → bit_of s seat oid place ≡ 1
    → (k : ℕ) × (cleared ≤ k) × (k < length rs) × ((get_or rs k no_read).version.oid ≡ oid) × ((get_or rs k no_read).version.place ≡ place)

abbrev pub Raising : Shared → (stamp raised : ℕ) → List Read → Type 0
Raising s stamp raised rs = (k : ℕ) → k < raised → k < length rs
    → stamp ≤ (version_at (s.objects (get_or rs k no_read).version.oid) (get_or rs k no_read).version.place).words.reader_stamp

abbrev pub Over : Shared → List Attempt → Type 0
Over s ts = (t : Attempt) (r : Read) → t ∈ ts → t.decision ≡ Commit → r ∈ t.reads → t.stamp ≤ (version_at (s.objects r.version.oid) r.version.place).words.reader_stamp

-- a committed transaction has raised what it has to
pub record Raises (s : Shared) (y : Part) : Type 0 where
  pub before : y.current.decision ≡ Commit → 0 < cleared y → length y.current.reads ≤ raised y
  pub raising : y.current.decision ≡ Commit → Raising s y.current.stamp (raised y) y.current.reads

-- one that didn't commit; one that has raised nothing yet
pub raises_undecided : (s : Shared) (y : Part) → y.current.decision ≢ Commit → Raises s y
raises_undecided s y ne = record { before = λ e. absurd (ne e); raising = λ e. absurd (ne e) }

pub raises_none : (s : Shared) (y : Part) → cleared y ≡ 0 → raised y ≡ 0 → Raises s y
raises_none s y c r = record {
  before = λ _ some. absurd (omega (arith, some, c));
  raising = λ _ k low. absurd (omega (arith, low, r));
}

-- what was read, and how many bits are cleared, stay
pub record Holds (x y : Part) : Type 0 where
  pub over : y.over ≡ x.over
  pub reads : y.current.reads ≡ x.current.reads
  pub cleared : cleared y ≡ cleared x

pub own_holds : (s : Shared) (p : ℕ) (x y : Part) → Holds x y → Raises s y → OwnReaders s p x → OwnReaders s p y
own_holds s p x y h raises o = record {
  once = subst Once (sym h.reads) o.once;
  stands = subst (λ n. Stands s p n y.current.reads) (sym h.cleared) (subst (Stands s p (cleared x)) (sym h.reads) o.stands);
  only = subst (λ n. Only s p n y.current.reads) (sym h.cleared) (subst (Only s p (cleared x)) (sym h.reads) o.only);
  before = raises.before;
  raising = raises.raising;
  over = subst (Over s) (sym h.over) o.over;
}

-- the decision stays, and what was raised
pub raises_same : (s : Shared) (p : ℕ) (x y : Part) → Holds x y → y.current.decision ≡ x.current.decision → y.current.stamp ≡ x.current.stamp → raised y ≡ raised x → OwnReaders s p x → Raises s y
raises_same s p x y h decision stamp up o = record {
  before = λ commit some.
      let many = ap length h.reads in
      let less = h.cleared in
      let was = o.before (sym decision ∙ commit) (omega (arith, some, less)) in
      omega (arith, was, many, up);
  raising = λ commit.
      subst (λ n. Raising s n (raised y) y.current.reads) (sym stamp)
      (subst (λ n. Raising s x.current.stamp n y.current.reads) (sym up)
      (subst (Raising s x.current.stamp (raised x)) (sym h.reads) (o.raising (sym decision ∙ commit))));
}

-- nothing is read, and all bits that were set are cleared
pub own_empty : (s : Shared) (p : ℕ) (x y : Part) → y.current.reads ≡ [] → length x.current.reads ≤ cleared x → Over s y.over → OwnReaders s p x → OwnReaders s p y
own_empty s p x y none all over o =
    let many : length y.current.reads ≡ 0 = ap length none in
    record {
      once = λ j k less within. absurd (omega (arith, within, many));
      stands = λ k from within. absurd (omega (arith, within, many));
      only = λ oid place known within set.
          let was = o.only oid place known within set in
          let low = was.1 in
          let high = was.2 in
          absurd (omega (arith, low, high, all));
      before = λ _ _. omega (arith, many);
      raising = λ _ k low within. absurd (omega (arith, within, many));
      over = over;
    }

-- the transactions that are over, with one more
pub over_push : (s : Shared) (p : ℕ) (x : Part) (decision : Decision) → (decision ≡ Commit → (x.current.decision ≡ Commit) × (length x.current.reads ≤ raised x)) → OwnReaders s p x →
    Over s (x.over ++ record x.current { decision = decision } ∷ [])
over_push s p x decision commits o t r m commit n =
    ⊎_elim (λ (old : t ∈ x.over). o.over t r old commit n)
    (λ (new : t ≡ record x.current { decision = decision }).
    let c = commits (sym (ap (λ (u : Attempt). u.decision) new) ∙ commit) in
    let at = read_stands x.current r (subst (λ rs. r ∈ rs) (ap (λ (u : Attempt). u.reads) new) n) in
    let all = c.1 in
    let low = at.within in
    let was = o.raising c.0 at.place (omega (arith, low, all)) low in
    let stamp = ap (λ (u : Attempt). u.stamp) new in
    let same = ap (λ (b : Read). (version_at (s.objects b.version.oid) b.version.place).words.reader_stamp) at.is in
    omega (arith, was, stamp, same))
    (∈-push x.over (record x.current { decision = decision }) t m)

-- commits stay
pub recalls_from : (x y : Part) → y.over ≡ x.over → (x.current.decision ≡ Commit → (y.current.decision ≡ Commit) × (y.current.stamp ≡ x.current.stamp) × (y.current.reads ≡ x.current.reads)) → Recalls x y
recalls_from x y over current = record {
  recalled = λ u m commit.
      ⊎_elim
      (λ (old : u ∈ x.over). record { attempt = u; stands = ∈-front y.over y.current u (subst (λ ts. u ∈ ts) (sym over) old); commit = commit; stamp = refl; reads = refl })
      (λ (now : u ≡ x.current).
      let c = current (sym (ap (λ (t : Attempt). t.decision) now) ∙ commit) in
      record {
        attempt = y.current;
        stands = ∈-last y.over y.current;
        commit = c.0;
        stamp = c.1 ∙ sym (ap (λ (t : Attempt). t.stamp) now);
        reads = c.2 ∙ sym (ap (λ (t : Attempt). t.reads) now);
      })
      (∈-push x.over x.current u m);
}

pub recalls_over : (x y : Part) (decision : Decision) → y.over ≡ x.over ++ record x.current { decision = decision } ∷ [] → (x.current.decision ≡ Commit → decision ≡ Commit) → Recalls x y
recalls_over x y decision over stays = record {
  recalled = λ u m commit.
      ⊎_elim
      (λ (old : u ∈ x.over). record {
        attempt = u;
        stands = ∈-front y.over y.current u (subst (λ ts. u ∈ ts) (sym over) (∈-front x.over (record x.current { decision = decision }) u old));
        commit = commit;
        stamp = refl;
        reads = refl;
      })
      (λ (now : u ≡ x.current). record {
        attempt = record x.current { decision = decision };
        stands = ∈-front y.over y.current (record x.current { decision = decision })
            (subst (λ ts. record x.current { decision = decision } ∈ ts) (sym over) (∈-last x.over (record x.current { decision = decision })));
        commit = stays (sym (ap (λ (t : Attempt). t.decision) now) ∙ commit);
        stamp = sym (ap (λ (t : Attempt). t.stamp) now);
        reads = sym (ap (λ (t : Attempt). t.reads) now);
      })
      (∈-push x.over x.current u m);
}

-- a transaction that isn't decided isn't a commit
pub not_commit : (d : Decision) → d ≡ Undecided → d ≢ Commit
not_commit d e commit = let is : Undecided ≡ Commit = sym e ∙ commit in absurd (cc)

-- what a task says of how many are cleared and raised, at each place but the last
abbrev pub Stays : Place → Type 0
Stays (Leaving stamp) = ⊥
Stays _ = Unit {0}

pub cleared_in : (pl : Place) (t : Task) (n : ℕ) → Stays pl → cleared_of pl t n ≡ bits_cleared t
cleared_in (Leaving stamp) t n stays = absurd stays
cleared_in pl (task.Ends raised ended step cleared) n stays = refl
cleared_in pl _ n stays = refl

pub raised_in : (pl : Place) (t : Task) (n : ℕ) → Stays pl → raised_of pl t n ≡ stamps_raised t
raised_in (Leaving stamp) t n stays = absurd stays
raised_in pl (task.Ends raised ended step cleared) n stays = refl
raised_in pl _ n stays = refl

even_cleared : (pl : Place) (t u : Task) (n : ℕ) → Even t u → cleared_of pl u n ≡ cleared_of pl t n
even_cleared (Leaving stamp) t u n even = refl
even_cleared pl t u n even = cleared_in pl u n tt ∙ (even.cleared ∙ sym (cleared_in pl t n tt))

even_raised : (pl : Place) (t u : Task) (n : ℕ) → Even t u → raised_of pl u n ≡ raised_of pl t n
even_raised (Leaving stamp) t u n even = refl
even_raised pl t u n even = raised_in pl u n tt ∙ (even.raised ∙ sym (raised_in pl t n tt))

-- a calm step of a seat that stays at its place
pub left_calm : (c : Core) (t : Shared) (p : ℕ) (y : Part) → OwnReaders t p (c.seats p) → Steady (c.seats p) y → Calm (c.seats p) (c.seats p).task y → Left c t p y
left_calm c t p y o steady calm =
    let x = c.seats p in
    let clears : cleared y ≡ cleared x =
    ap (λ n. cleared_of y.place y.task n) (ap length calm.reads) ∙ (ap (λ pl. cleared_of pl y.task (length x.current.reads)) steady.place ∙ even_cleared x.place x.task y.task (length x.current.reads) calm.task) in
    let raises : raised y ≡ raised x =
    ap (λ n. raised_of y.place y.task n) (ap length calm.reads) ∙ (ap (λ pl. raised_of pl y.task (length x.current.reads)) steady.place ∙ even_raised x.place x.task y.task (length x.current.reads) calm.task) in
    let holds : Holds x y = record { over = steady.over; reads = calm.reads; cleared = clears } in
    record {
      own = own_holds t p x y holds (raises_same t p x y holds steady.decision steady.stamp raises o) o;
      recalls = recalls_from x y steady.over (λ commit. (steady.decision ∙ commit, steady.stamp, calm.reads));
    }
