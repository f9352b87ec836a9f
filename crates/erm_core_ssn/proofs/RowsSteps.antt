-- A step and rows: the facts on a seat's rows, transaction by transaction, and how they go on where its part changes.
use Rattle.std.proofs.Common.{◌≡◌, ◌≢◌, ℕ, ◌+◌, ◌-◌, ◌<◌, ◌≤◌, ◌⊎◌, ⊎_elim, Bool, true, false, cond, eqb, List, [], ◌∷◌, ◌++◌, length, get_or, set, Some, None, sym, ap, ◌∙◌, subst, arith, length-set, get_or-set_same, get_or-set_other}
use Rattle.std.proofs.lemmas.Bool.{cases_eq, cases_lt}
use Rattle.std.proofs.lemmas.List.{get_or_append_left, get_or_push, length_push}
use Rattle.erm_model.specs.Member.{◌∈◌}
use Rattle.erm_model.proofs.Members.{∈-push}
use Rattle.erm_machine.specs.declared.attempt.Attempt.{Attempt}
use Rattle.erm_machine.specs.declared.attempt.Claim.{Claim}
use Rattle.erm_machine.specs.declared.attempt.Decision.TheVariants.{Commit}
use Rattle.erm_machine.specs.declared.attempt.OwnCell.{OwnCell}
use Rattle.erm_machine.specs.declared.part.Part.{Part}
use Rattle.erm_machine.specs.declared.task.Task.{Task}
use Rattle.erm_machine.specs.Core.{Core, Shared, claim_at, no_claim, version_at}
use Rattle.erm_machine.specs.Marks.{OwnMarks}
use Rattle.erm_machine.specs.Seat.{last_claim}
use Rattle.erm_machine.specs.Sound.{Sound}
use Rattle.erm_machine.specs.Words.{put}
use Rattle.erm_machine.specs.Written.{Rowed, copied, copied_at, CellFits, RowFits, Copying, OwnWritten}
use Rattle.erm_machine.proofs.Frames.{each_seat}
use Rattle.erm_machine.proofs.Holders.{stands_at, stands_in}
use Rattle.erm_machine.proofs.Objects.{Extends}
use Rattle.erm_core_ssn.proofs.MarksLists.{∈-last, ∈-front}
use Rattle.erm_core_ssn.proofs.RowsLists.{front_less}

-- what the law says of a state
pub record Kept (d : Core) : Type 0 where
  pub common : Rowed d.shared
  pub own : (p : ℕ) → OwnWritten d.shared (d.seats p)

-- the row of the version that a claim's commit installed
abbrev pub Left : Shared → Claim → Type 0
Left s w = (version_at (s.objects w.version.oid) (w.version.place + 1)).words.row ≡ w.row

-- a transaction that is over
pub record OverOk (s : Shared) (t : Attempt) : Type 0 where
  pub rows : (w : Claim) → w ∈ t.writes → RowFits s w
  pub first : (w : Claim) → w ∈ t.writes → w.stamp < t.begin
  pub sealed : t.decision ≡ Commit → (0 < t.begin) × (t.begin ≤ t.stamp)
  pub once : (j k : ℕ) → j < k → k < length t.writes → (claim_at t j).version.oid ≢ (claim_at t k).version.oid
  pub installed : t.decision ≡ Commit → (w : Claim) → w ∈ t.writes → w.held ≡ false → Left s w

-- a claim of the current transaction, of whose row so many words are copied
pub record ClaimOk (s : Shared) (t : Attempt) (words : ℕ) (w : Claim) : Type 0 where
  pub cell : (own : OwnCell) → w.own ≡ Some own → CellFits words w own
  pub bare : w.held ≡ true → w.own ≡ None → w.is_set ≡ false
  pub rows : RowFits s w
  pub first : w.stamp < t.begin
  pub installed : t.decision ≡ Commit → w.held ≡ false → Left s w

pub ok_at : (s : Shared) (x : Part) → OwnWritten s x → (k : ℕ) → k < length x.current.writes → ClaimOk s x.current (copied_at x k) (claim_at x.current k)
ok_at s x own k within =
    let here = ∈-last x.over x.current in
    let stands = stands_in x.current k within in
    record {
      cell = own.cells k within;
      bare = own.bare k within;
      rows = own.rows x.current (claim_at x.current k) here stands;
      first = own.first x.current (claim_at x.current k) here stands;
      installed = λ commits held. own.installed x.current (claim_at x.current k) here commits stands held;
    }

pub over_at : (s : Shared) (x : Part) → OwnWritten s x → (t : Attempt) → t ∈ x.over → OverOk s t
over_at s x own t m =
    let here = ∈-front x.over x.current t m in
    record {
      rows = λ w n. own.rows t w here n;
      first = λ w n. own.first t w here n;
      sealed = own.sealed t here;
      once = own.once t m;
      installed = λ commits w n held. own.installed t w here commits n held;
    }

-- what is said of all claims of the current transaction, and of those of the transactions that are over
module _ (s : Shared) (x : Part)
    (spare : (own : OwnCell) → own ∈ x.spare → length own.words.row ≡ 16)
    (ok : (k : ℕ) → k < length x.current.writes → ClaimOk s x.current (copied_at x k) (claim_at x.current k))
    (copying : Copying x.task → (claim_at x.current (last_claim x.current)).is_set ≡ false)
    (sealed : x.current.decision ≡ Commit → (0 < x.current.begin) × (x.current.begin ≤ x.current.stamp))
    (over : (t : Attempt) → t ∈ x.over → OverOk s t) where
  current_ok : (w : Claim) → w ∈ x.current.writes → (n : ℕ) × ClaimOk s x.current n w
  current_ok w m =
      let at = stands_at x.current w m in
      (copied_at x at.place, subst (λ v. ClaimOk s x.current (copied_at x at.place) v) at.is (ok at.place at.within))

  pub own_from : OwnWritten s x
  own_from = record {
    spare = spare;
    cells = λ k within. (ok k within).cell;
    bare = λ k within. (ok k within).bare;
    copying = copying;
    rows = λ t w m n. ⊎_elim
        (λ (before : t ∈ x.over). (over t before).rows w n)
        (λ (now : t ≡ x.current). (current_ok w (subst (λ (u : Attempt). w ∈ u.writes) now n)).1.rows)
        (∈-push x.over x.current t m);
    first = λ t w m n. ⊎_elim
        (λ (before : t ∈ x.over). (over t before).first w n)
        (λ (now : t ≡ x.current). subst (λ (u : Attempt). w.stamp < u.begin) (sym now) (current_ok w (subst (λ (u : Attempt). w ∈ u.writes) now n)).1.first)
        (∈-push x.over x.current t m);
    sealed = λ t m. ⊎_elim
        (λ (before : t ∈ x.over). (over t before).sealed)
        (λ (now : t ≡ x.current). subst (λ (u : Attempt). u.decision ≡ Commit → (0 < u.begin) × (u.begin ≤ u.stamp)) (sym now) sealed)
        (∈-push x.over x.current t m);
    once = λ t m. (over t m).once;
    installed = λ t w m commits n held. ⊎_elim
        (λ (before : t ∈ x.over). (over t before).installed commits w n held)
        (λ (now : t ≡ x.current).
        (current_ok w (subst (λ (u : Attempt). w ∈ u.writes) now n)).1.installed (subst (λ (u : Attempt). u.decision ≡ Commit) now commits) held)
        (∈-push x.over x.current t m);
  }

-- versions stay: so do the facts on a seat
pub own_stays : (s r : Shared) (x : Part) → ((oid : ℕ) → Extends (s.objects oid) (r.objects oid)) → OwnMarks s x → OwnWritten s x → OwnWritten r x
own_stays s r x extends marks own = record {
  spare = own.spare;
  cells = own.cells;
  bare = own.bare;
  copying = own.copying;
  rows = λ t w m n.
      let f = own.rows t w m n in
      record { size = f.size; base = f.base ∙ sym ((extends w.version.oid).row w.version.place (marks.written t w m n).within); kept = f.kept };
  first = own.first;
  sealed = own.sealed;
  once = own.once;
  installed = λ t w m commits n held.
      (extends w.version.oid).row (w.version.place + 1) (marks.installed t w m commits n held).next ∙ own.installed t w m commits n held;
}

-- fewer words copied
pub cell_less : (m n : ℕ) (w : Claim) (own : OwnCell) → m ≤ n → CellFits n w own → CellFits m w own
cell_less m n w own h f = record { size = f.size; row = front_less m n own.words.row w.row h f.row }

pub ok_less : (s : Shared) (t u : Attempt) (m n : ℕ) (w : Claim) → m ≤ n → u.begin ≡ t.begin → (u.decision ≡ Commit → w.held ≡ false → t.decision ≡ Commit)
    → ClaimOk s t n w → ClaimOk s u m w
ok_less s t u m n w h begin commits ok = record {
  cell = λ own e. cell_less m n w own h (ok.cell own e);
  bare = ok.bare;
  rows = ok.rows;
  first = subst (λ k. w.stamp < k) (sym begin) ok.first;
  installed = λ c held. ok.installed (commits c held) held;
}

-- the claims and what is over stay, and no more words count as copied
pub record Goes (x : Part) (t : Task) (y : Part) : Type 0 where
  pub over : y.over ≡ x.over
  pub spare : (own : OwnCell) → own ∈ y.spare → (own ∈ x.spare) ⊎ (length own.words.row ≡ 16)
  pub writes : y.current.writes ≡ x.current.writes
  pub begin : y.current.begin ≡ x.current.begin
  pub commits : y.current.decision ≡ Commit → (x.current.decision ≡ Commit) × (y.current.stamp ≡ x.current.stamp)
  pub copied : copied y.place y.task ≤ copied x.place t
  pub copying : Copying y.task → Copying t

-- the place of the newest claim among places
pub at_less : (b : Bool) (m n : ℕ) → m ≤ n → cond b m 16 ≤ cond b n 16
at_less true m n h = h
at_less false m n h = omega arith

pub goes_own : (r : Shared) (x y : Part) → Goes x x.task y → OwnWritten r x → OwnWritten r y
goes_own r x y g own =
    own_from r y
    (λ o m. ⊎_elim (λ (old : o ∈ x.spare). own.spare o old) (λ (new : length o.words.row ≡ 16). new) (g.spare o m))
    (λ k within.
    subst (λ w. ClaimOk r y.current (copied_at y k) w) (sym (same k))
    (ok_less r x.current y.current (copied_at y k) (copied_at x k) (claim_at x.current k) (less k) g.begin (λ c _. (g.commits c).0) (ok_at r x own k (inside k within))))
    (λ h. ap (λ (w : Claim). w.is_set) (ap (λ ws. get_or ws (length ws - 1) no_claim) g.writes) ∙ own.copying (g.copying h))
    (λ c.
    let was = g.commits c in
    let s = own.sealed x.current (∈-last x.over x.current) was.0 in
    let a = s.0 in
    let b = s.1 in
    let e = g.begin in
    let f = was.1 in
    (omega (arith, a, e), omega (arith, b, e, f)))
    (λ t m. over_at r x own t (subst (λ (ts : List Attempt). t ∈ ts) g.over m))
  where
    same : (k : ℕ) → claim_at y.current k ≡ claim_at x.current k
    same k = ap (λ ws. get_or ws k no_claim) g.writes

    inside : (k : ℕ) → k < length y.current.writes → k < length x.current.writes
    inside k within = let n = ap (λ (ws : List Claim). length ws) g.writes in omega (arith, n, within)

    less : (k : ℕ) → copied_at y k ≤ copied_at x k
    less k =
        let last : last_claim y.current ≡ last_claim x.current = ap (λ (ws : List Claim). length ws - 1) g.writes in
        subst (λ n. cond (eqb k n) (copied y.place y.task) 16 ≤ copied_at x k) (sym last)
        (at_less (eqb k (last_claim x.current)) (copied y.place y.task) (copied x.place x.task) g.copied)

-- one claim changes
pub record Sets (r : Shared) (x y : Part) (at : ℕ) (w : Claim) : Type 0 where
  pub over : y.over ≡ x.over
  pub spare : (own : OwnCell) → own ∈ y.spare → (own ∈ x.spare) ⊎ (length own.words.row ≡ 16)
  pub writes : y.current.writes ≡ set x.current.writes at w
  pub begin : y.current.begin ≡ x.current.begin
  pub decision : y.current.decision ≡ x.current.decision
  pub stamp : y.current.stamp ≡ x.current.stamp
  pub here : at < length x.current.writes → ClaimOk r y.current (copied_at y at) w
  pub less : (k : ℕ) → k ≢ at → copied_at y k ≤ copied_at x k
  pub copying : Copying y.task → (claim_at y.current (last_claim y.current)).is_set ≡ false

pub sets_own : (r : Shared) (x y : Part) (at : ℕ) (w : Claim) → Sets r x y at w → OwnWritten r x → OwnWritten r y
sets_own r x y at w g own =
    own_from r y
    (λ o m. ⊎_elim (λ (old : o ∈ x.spare). own.spare o old) (λ (new : length o.words.row ≡ 16). new) (g.spare o m))
    ok
    g.copying
    (λ c.
    let s = own.sealed x.current (∈-last x.over x.current) (sym g.decision ∙ c) in
    let a = s.0 in
    let b = s.1 in
    let e = g.begin in
    let f = g.stamp in
    (omega (arith, a, e), omega (arith, b, e, f)))
    (λ t m. over_at r x own t (subst (λ (ts : List Attempt). t ∈ ts) g.over m))
  where
    inside : (k : ℕ) → k < length y.current.writes → k < length x.current.writes
    inside k within = let n = ap (λ (ws : List Claim). length ws) g.writes in let m = length-set x.current.writes at w in omega (arith, n, m, within)

    ok : (k : ℕ) → k < length y.current.writes → ClaimOk r y.current (copied_at y k) (claim_at y.current k)
    ok k within =
        ⊎_elim
        (λ (e : k ≡ at).
        let low : at < length x.current.writes = let h = inside k within in omega (arith, h, e) in
        let is : claim_at y.current k ≡ w = ap (λ ws. get_or ws k no_claim) g.writes ∙ ap (λ n. get_or (set x.current.writes at w) n no_claim) e ∙ get_or-set_same x.current.writes at w no_claim low in
        subst (λ v. ClaimOk r y.current (copied_at y k) v) (sym is) (subst (λ n. ClaimOk r y.current (copied_at y n) w) (sym e) (g.here low)))
        (λ (ne : k ≡ at → ⊥).
        let is : claim_at y.current k ≡ claim_at x.current k = ap (λ ws. get_or ws k no_claim) g.writes ∙ get_or-set_other x.current.writes at k w no_claim ne in
        subst (λ v. ClaimOk r y.current (copied_at y k) v) (sym is)
        (ok_less r x.current y.current (copied_at y k) (copied_at x k) (claim_at x.current k) (g.less k ne) g.begin (λ c _. sym g.decision ∙ c) (ok_at r x own k (inside k within))))
        (cases_eq k at)

-- one claim more
pub record Adds (r : Shared) (x y : Part) (w : Claim) : Type 0 where
  pub over : y.over ≡ x.over
  pub spare : y.spare ≡ x.spare
  pub writes : y.current.writes ≡ x.current.writes ++ w ∷ []
  pub begin : y.current.begin ≡ x.current.begin
  pub decision : y.current.decision ≢ Commit
  pub old : (k : ℕ) → copied_at x k ≡ 16
  pub new : (n : ℕ) → ClaimOk r y.current n w
  pub most : (k : ℕ) → copied_at y k ≤ 16
  pub copying : Copying y.task → ⊥

pub adds_own : (r : Shared) (x y : Part) (w : Claim) → Adds r x y w → OwnWritten r x → OwnWritten r y
adds_own r x y w g own =
    own_from r y
    (λ o m. own.spare o (subst (λ (os : List OwnCell). o ∈ os) g.spare m))
    ok
    (λ h. absurd (g.copying h))
    (λ c. absurd (g.decision c))
    (λ t m. over_at r x own t (subst (λ (ts : List Attempt). t ∈ ts) g.over m))
  where
    many : length y.current.writes ≡ length x.current.writes + 1
    many = ap (λ (ws : List Claim). length ws) g.writes ∙ length_push x.current.writes w

    ok : (k : ℕ) → k < length y.current.writes → ClaimOk r y.current (copied_at y k) (claim_at y.current k)
    ok k within =
        ⊎_elim
        (λ (low : k < length x.current.writes).
        let is : claim_at y.current k ≡ claim_at x.current k = ap (λ ws. get_or ws k no_claim) g.writes ∙ get_or_append_left x.current.writes (w ∷ []) no_claim k low in
        let full = g.old k in
        let most = g.most k in
        subst (λ v. ClaimOk r y.current (copied_at y k) v) (sym is)
        (ok_less r x.current y.current (copied_at y k) (copied_at x k) (claim_at x.current k) (omega (arith, full, most)) g.begin (λ c _. absurd (g.decision c)) (ok_at r x own k low)))
        (λ (high : length x.current.writes ≤ k).
        let e : k ≡ length x.current.writes = let n = many in omega (arith, n, high, within) in
        let is : claim_at y.current k ≡ w = ap (λ ws. get_or ws k no_claim) g.writes ∙ get_or_push x.current.writes w no_claim k (sym e) in
        subst (λ v. ClaimOk r y.current (copied_at y k) v) (sym is) (g.new (copied_at y k)))
        (cases_lt k (length x.current.writes))

-- a seat whose current transaction claims nothing
pub none_own : (r : Shared) (y : Part) → y.current.writes ≡ [] → y.current.decision ≢ Commit → (Copying y.task → ⊥) → ((own : OwnCell) → own ∈ y.spare → length own.words.row ≡ 16)
    → ((t : Attempt) → t ∈ y.over → OverOk r t) → OwnWritten r y
none_own r y none undecided copying spare over =
    own_from r y spare (λ k within. absurd (let n : length y.current.writes ≡ 0 = ap (λ (ws : List Claim). length ws) none in omega (arith, n, within))) (λ h. absurd (copying h))
    (λ c. absurd (undecided c)) over

-- What a step leaves makes the law hold of the state after.
pub kept_from : (c : Core) (p : ℕ) (y : Part) (r : Shared) (d : Core) → Sound c → ((oid : ℕ) → Extends (c.shared.objects oid) (r.objects oid))
    → ((oid k : ℕ) → length (c.shared.objects oid).versions ≤ k → k < length (r.objects oid).versions → length (version_at (r.objects oid) k).words.row ≡ 16)
    → (OwnWritten r (c.seats p) → OwnWritten r y) → record { shared = r; seats = put c.seats p y } ≡ d → Kept d
kept_from c p y r d sound extends new step is =
    subst Kept is (record {
      common = record {
        rows = λ oid k known within.
            ⊎_elim
            (λ (old : k < length (c.shared.objects oid).versions). ap (λ (row : List ℕ). length row) ((extends oid).row k old) ∙ sound.common.rowed.rows oid k known old)
            (λ (late : length (c.shared.objects oid).versions ≤ k). new oid k late within)
            (cases_lt k (length (c.shared.objects oid).versions));
      };
      own = each_seat (λ _ (z : Part). OwnWritten r z) c.seats p y (step (stays p)) (λ q _. stays q);
    })
  where
    stays : (q : ℕ) → OwnWritten r (c.seats q)
    stays q = own_stays c.shared r (c.seats q) extends (sound.own q).marks (sound.own q).written
