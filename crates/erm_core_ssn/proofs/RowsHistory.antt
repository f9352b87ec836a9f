-- What a sound state has committed is a snapshot history; all of its transactions read and claim by snapshots of it.
use Rattle.std.proofs.Common.{◌≡◌, ◌≢◌, ℕ, zero, suc, ◌+◌, ◌<◌, ◌≤◌, ◌⊎◌, ⊎_elim, Bool, true, false, List, [], ◌∷◌, length, get_or, map, Some, slice_get, refl, sym, ap, ◌∙◌, subst, inl, inr, arith}
use Rattle.std.proofs.lemmas.Bool.{cases_eq, cases_lt}
use Rattle.std.proofs.lemmas.Option.{same_Some}
use Rattle.erm_model.specs.declared.history.TransactionRecord.{TransactionRecord}
use Rattle.erm_model.specs.declared.history.VersionRead.{VersionRead}
use Rattle.erm_model.specs.declared.history.VersionWritten.{VersionWritten}
use Rattle.erm_model.specs.History.{Makes, IsVersion, IsNewestBelow, OverwritesNewest, ReadsSnapshot, IsSnapshot}
use Rattle.erm_model.specs.Member.{◌∈◌}
use Rattle.erm_model.proofs.Members.{∈-push}
use Rattle.erm_machine.specs.declared.limits.TheConstants.{OBJECT_LIMIT}
use Rattle.erm_machine.specs.declared.attempt.Attempt.{Attempt}
use Rattle.erm_machine.specs.declared.attempt.Claim.{Claim}
use Rattle.erm_machine.specs.declared.attempt.Read.{Read}
use Rattle.erm_machine.specs.declared.attempt.Decision.TheVariants.{Commit}
use Rattle.erm_machine.specs.Claims.{ObjectFits}
use Rattle.erm_machine.specs.Core.{Core, Object, version_at, newest, claim_at, no_claim}
use Rattle.erm_machine.specs.Decided.{read_of, written_of, record_of, history_of}
use Rattle.erm_machine.specs.Facts.{all_of, Holds, HoldsBelow}
use Rattle.erm_machine.specs.Lawful.{opening_rows}
use Rattle.erm_machine.specs.Snapshot.{NewerFrom}
use Rattle.erm_machine.specs.Sound.{Sound}
use Rattle.erm_machine.proofs.Holders.{stands_at, held_once}
use Rattle.erm_machine.proofs.Histories.{history_has, in_history}
use Rattle.erm_machine.proofs.Listed.{∈-map, ∈-map_from}

-- what stands at a place of a list that was mapped
at_map : {X Y : Type 0} (f : X → Y) (xs : List X) (i : ℕ) (v : Y) (d : X) → slice_get (map f xs) i ≡ Some v → (i < length xs) × (f (get_or xs i d) ≡ v)
at_map f [] i v d e = absurd (cc)
at_map f (x ∷ xs) zero v d e = (omega arith, same_Some _ _ e)
at_map f (x ∷ xs) (suc i) v d e = let r = at_map f xs i v d e in (let h = r.0 in omega (arith, h), r.1)

-- stamps of an object's versions ascend
ascends : (now : ℕ) (o : Object) (i j : ℕ) → ObjectFits now o → i ≤ j → j < length o.versions → (version_at o i).words.stamp ≤ (version_at o j).words.stamp
ascends now o i j fits up within =
    ⊎_elim
    (λ (same : i ≡ j). let e = ap (λ n. (version_at o n).words.stamp) same in omega (arith, e))
    (λ (ne : i ≡ j → ⊥). let h = fits.ascend i j (omega (arith, up, ne)) within in omega (arith, h))
    (cases_eq i j)

module _ (c : Core) (sound : Sound c) where
  -- where the claim of a commit is: at the newest version, still held, or behind the version that it has installed
  record AtNewest (q : ℕ) (t : Attempt) (w : Claim) (oid : ℕ) : Type 0 where
    current : t ≡ (c.seats q).current
    place : w.version.place ≡ newest (c.shared.objects oid)
    holds : Holds (c.seats q) oid

  record Behind (t : Attempt) (w : Claim) (oid : ℕ) : Type 0 where
    next : w.version.place + 1 < length (c.shared.objects oid).versions
    stamp : (version_at (c.shared.objects oid) (w.version.place + 1)).words.stamp ≡ t.stamp

  -- a claim of a commit
  record Claims (q : ℕ) (t : Attempt) (w : Claim) (oid : ℕ) : Type 0 where
    stands : t ∈ all_of (c.seats q)
    commit : t.decision ≡ Commit
    writes : w ∈ t.writes
    oid_is : w.version.oid ≡ oid

  held_at : (q : ℕ) (t : Attempt) (w : Claim) (oid : ℕ) → Claims q t w oid → w.held ≡ true → AtNewest q t w oid
  held_at q t w oid k held =
      ⊎_elim
      (λ (before : t ∈ (c.seats q).over). absurd (let no_more = (sound.own q).marks.over t w before k.writes in cc))
      (λ (now : t ≡ (c.seats q).current).
      let here : w ∈ (c.seats q).current.writes = subst (λ (u : Attempt). w ∈ u.writes) now k.writes in
      let at = stands_at (c.seats q).current w here in
      let fit = (sound.own q).claims.fit at.place at.within (ap (λ (v : Claim). v.held) at.is ∙ held) in
      record {
        current = now;
        place = subst (λ n. w.version.place ≡ newest (c.shared.objects n)) k.oid_is
            (subst (λ (v : Claim). v.version.place ≡ newest (c.shared.objects v.version.oid)) at.is fit.place);
        holds = (w, here, held, k.oid_is);
      })
      (∈-push (c.seats q).over (c.seats q).current t k.stands)

  where_is : (q : ℕ) (t : Attempt) (w : Claim) (oid : ℕ) → Claims q t w oid → AtNewest q t w oid ⊎ Behind t w oid
  where_is q t w oid k = by_held w.held refl
    where
      by_held : (b : Bool) → w.held ≡ b → AtNewest q t w oid ⊎ Behind t w oid
      by_held true held = inl (held_at q t w oid k held)
      by_held false over =
          let i = (sound.own q).marks.installed t w k.stands k.commit k.writes over in
          inr (record {
            next = subst (λ n. w.version.place + 1 < length (c.shared.objects n).versions) k.oid_is i.next;
            stamp = subst (λ n. (version_at (c.shared.objects n) (w.version.place + 1)).words.stamp ≡ t.stamp) k.oid_is i.stamp;
          })

  -- a claim that has a next version isn't held
  not_held : (q : ℕ) (t : Attempt) (w : Claim) (oid : ℕ) → Claims q t w oid → w.version.place + 1 < length (c.shared.objects oid).versions → w.held ≡ false
  not_held q t w oid k next = by_held w.held refl
    where
      by_held : (b : Bool) → w.held ≡ b → w.held ≡ false
      by_held true held = absurd (let place = (held_at q t w oid k held).place in omega (arith, place, next))
      by_held false over = over

  -- each version is the opening's, or a commit made it with its row
  version_of : (oid place : ℕ) → oid < OBJECT_LIMIT → place < length (c.shared.objects oid).versions
      → IsVersion (history_of c.seats) (opening_rows c.shared) oid (version_at (c.shared.objects oid) place).words.stamp (version_at (c.shared.objects oid) place).words.row
  version_of oid zero known within = inl (sound.common.marks.opened oid known, refl)
  version_of oid (suc place) known within =
      let same : place + 1 ≡ suc place = omega arith in
      let next : place + 1 < length (c.shared.objects oid).versions = omega (arith, within) in
      let h = sound.common.marks.made oid place known next in
      let p = h.0 in
      let t = h.1 in
      let w = h.2 in
      let k : Claims p t w oid = record { stands = h.3; commit = h.4; writes = h.7; oid_is = h.8 } in
      let at : w.version.place ≡ place = h.9 in
      let over = not_held p t w oid k (omega (arith, at, next)) in
      let row : (version_at (c.shared.objects oid) (place + 1)).words.row ≡ w.row =
      subst (λ n. (version_at (c.shared.objects oid) (n + 1)).words.row ≡ w.row) at
      (subst (λ n. (version_at (c.shared.objects n) (w.version.place + 1)).words.row ≡ w.row) k.oid_is ((sound.own p).written.installed t w h.3 h.4 h.7 over)) in
      subst (λ n. IsVersion (history_of c.seats) (opening_rows c.shared) oid (version_at (c.shared.objects oid) n).words.stamp (version_at (c.shared.objects oid) n).words.row) same
      (inr (record_of p t, written_of w, in_history c.seats p t (sound.common.decided.seats_of p t h.3 h.4) h.3 h.4, h.5, ∈-map_from written_of t.writes w h.7, h.8, sym row))

  -- a commit that made a version of an object, by its claim
  record Maker (u : TransactionRecord) (oid : ℕ) : Type 0 where
    seat : ℕ
    attempt : Attempt
    claim : Claim
    claims : Claims seat attempt claim oid
    stamp : u.stamp ≡ attempt.stamp

  maker : (u : TransactionRecord) (oid : ℕ) → u ∈ history_of c.seats → Makes u oid → Maker u oid
  maker u oid m makes =
      let h = history_has c.seats u m in
      let v = makes.0 in
      let at = ∈-map written_of h.attempt.writes v (subst (λ (z : TransactionRecord). v ∈ z.writes) (sym h.is) makes.1) in
      record {
        seat = h.seat;
        attempt = h.attempt;
        claim = at.0;
        claims = record { stands = h.stands; commit = h.commit; writes = at.1; oid_is = ap (λ (z : VersionWritten). z.oid) at.2 ∙ makes.2 };
        stamp = ap (λ (z : TransactionRecord). z.stamp) (sym h.is);
      }

  -- a version that a transaction read or claimed: all newer ones, and all that other seats are about to install, lie at or
  -- above its begin stamp
  pub record StaysNewest (q : ℕ) (t : Attempt) (oid place stamp : ℕ) : Type 0 where
    pub known : oid < OBJECT_LIMIT
    pub within : place < length (c.shared.objects oid).versions
    pub stamp_is : (version_at (c.shared.objects oid) place).words.stamp ≡ stamp
    pub newer : NewerFrom (c.shared.objects oid) place t.begin
    pub apart : (p : ℕ) → q ≢ p → HoldsBelow (c.seats p) oid t.begin → ⊥

  read_stays : (q : ℕ) (t : Attempt) (r : Read) → t ∈ all_of (c.seats q) → r ∈ t.reads → StaysNewest q t r.version.oid r.version.place r.stamp
  read_stays q t r m n =
      let f = (sound.own q).snapshot.reads t r m n in
      record {
        known = f.named.object;
        within = f.newest.within;
        stamp_is = f.newest.stamp_is;
        newer = f.newest.newer;
        apart = λ p e. (sound.both q p e).snapshot.reads t r m n;
      }

  claim_stays : (q : ℕ) (t : Attempt) (w : Claim) → t ∈ all_of (c.seats q) → w ∈ t.writes → StaysNewest q t w.version.oid w.version.place w.stamp
  claim_stays q t w m n =
      let f = (sound.own q).marks.written t w m n in
      record {
        known = f.object;
        within = f.within;
        stamp_is = f.stamp;
        newer = (sound.own q).snapshot.claims t w m n;
        apart = λ p e. (sound.both q p e).snapshot.claims t w m n;
      }

  -- no commit below the begin stamp made a newer version than that one
  none_newer : (q : ℕ) (t : Attempt) (oid place stamp : ℕ) → t ∈ all_of (c.seats q) → StaysNewest q t oid place stamp → (p : ℕ) (b : Attempt) (w : Claim) → Claims p b w oid → b.stamp < t.begin →
      b.stamp ≤ stamp
  none_newer q t oid place stamp m stays p b w k less = ⊎_elim held behind (where_is p b w oid k)
    where
      fits : ObjectFits c.shared.tail (c.shared.objects oid)
      fits = sound.common.claims.objects oid stays.known

      positive : 0 < b.stamp
      positive = (sound.own p).decided.positive b k.stands k.commit

      held : AtNewest p b w oid → b.stamp ≤ stamp
      held a =
          let drawn : b.stamp ≡ (c.seats p).current.stamp = ap (λ (z : Attempt). z.stamp) a.current in
          ⊎_elim
          (λ (same : p ≡ q).
          let own : b.stamp ≡ (c.seats q).current.stamp = drawn ∙ ap (λ i. (c.seats i).current.stamp) same in
          let late = ((sound.own q).snapshot.past t m).drawn_later (let g = positive in omega (arith, own, g)) in
          absurd (omega (arith, own, late, less)))
          (λ (other : p ≡ q → ⊥).
          absurd (stays.apart p (λ e. other (sym e)) ((let g = positive in omega (arith, drawn, g)), omega (arith, drawn, less), a.holds)))
          (cases_eq p q)

      behind : Behind b w oid → b.stamp ≤ stamp
      behind a =
          let made = a.stamp in
          let is = stays.stamp_is in
          ⊎_elim
          (λ (newer : place < w.version.place + 1).
          let late = stays.newer (w.version.place + 1) newer a.next in
          absurd (omega (arith, made, late, less)))
          (λ (older : w.version.place + 1 ≤ place).
          let up = ascends c.shared.tail (c.shared.objects oid) (w.version.place + 1) place fits older stays.within in
          omega (arith, made, is, up))
          (cases_lt place (w.version.place + 1))

  -- so it is the newest one below the begin stamp
  pub newest_below : (q : ℕ) (t : Attempt) (oid place stamp : ℕ) (row : List ℕ) → t ∈ all_of (c.seats q) → StaysNewest q t oid place stamp → stamp < t.begin →
      (version_at (c.shared.objects oid) place).words.row ≡ row → IsNewestBelow (history_of c.seats) (opening_rows c.shared) oid t.begin stamp row
  newest_below q t oid place stamp row m stays low is_row = record {
    version =
        subst (λ v. IsVersion (history_of c.seats) (opening_rows c.shared) oid stamp v) is_row
        (subst (λ n. IsVersion (history_of c.seats) (opening_rows c.shared) oid n (version_at (c.shared.objects oid) place).words.row) stays.stamp_is (version_of oid place stays.known stays.within));
    below = low;
    newest = λ u mu makes less.
        let by = maker u oid mu makes in
        let is = by.stamp in
        let h = none_newer q t oid place stamp m stays by.seat by.attempt by.claim by.claims (omega (arith, is, less)) in
        omega (arith, is, h);
  }

  -- what a claim overwrites, at its object
  claim_stamp : (q : ℕ) (t : Attempt) (w : Claim) (oid : ℕ) → Claims q t w oid → (version_at (c.shared.objects oid) w.version.place).words.stamp ≡ w.stamp
  claim_stamp q t w oid k = subst (λ n. (version_at (c.shared.objects n) w.version.place).words.stamp ≡ w.stamp) k.oid_is ((sound.own q).marks.written t w k.stands k.writes).stamp

  claim_within : (q : ℕ) (t : Attempt) (w : Claim) (oid : ℕ) → Claims q t w oid → w.version.place < length (c.shared.objects oid).versions
  claim_within q t w oid k = subst (λ n. w.version.place < length (c.shared.objects n).versions) k.oid_is ((sound.own q).marks.written t w k.stands k.writes).within

  -- what a commit overwrites lies below its stamp
  below_stamp : (q : ℕ) (t : Attempt) (w : Claim) (oid : ℕ) → Claims q t w oid → w.stamp < t.stamp
  below_stamp q t w oid k =
      let first = (sound.own q).written.first t w k.stands k.writes in
      let sealed = ((sound.own q).written.sealed t k.stands k.commit).1 in
      omega (arith, first, sealed)

  -- no commit below a commit's stamp made a newer version than the one that this one overwrote
  written_newest : (q : ℕ) (t : Attempt) (w : Claim) (oid : ℕ) → oid < OBJECT_LIMIT → Claims q t w oid → (p : ℕ) (b : Attempt) (v : Claim) → Claims p b v oid → b.stamp < t.stamp → b.stamp ≤ w.stamp
  written_newest q t w oid known k p b v j less =
      ⊎_elim
      (λ (mine : AtNewest q t w oid). ⊎_elim (λ (others : AtNewest p b v oid). both_held mine others) (λ (others : Behind b v oid). held_behind mine others) (where_is p b v oid j))
      (λ (mine : Behind t w oid). ⊎_elim (λ (others : AtNewest p b v oid). behind_held mine others) (λ (others : Behind b v oid). both_behind mine others) (where_is p b v oid j))
      (where_is q t w oid k)
    where
      o : Object
      o = c.shared.objects oid

      fits : ObjectFits c.shared.tail o
      fits = sound.common.claims.objects oid known

      both_held : AtNewest q t w oid → AtNewest p b v oid → b.stamp ≤ w.stamp
      both_held mine others =
          let same = held_once c p q oid sound others.holds mine.holds in
          let stamp : b.stamp ≡ t.stamp = ap (λ (z : Attempt). z.stamp) others.current ∙ ap (λ i. (c.seats i).current.stamp) same ∙ ap (λ (z : Attempt). z.stamp) (sym mine.current) in
          absurd (omega (arith, stamp, less))

      held_behind : AtNewest q t w oid → Behind b v oid → b.stamp ≤ w.stamp
      held_behind mine others =
          let place = mine.place in
          let next = others.next in
          let stamp = others.stamp in
          let is = claim_stamp q t w oid k in
          let up = ascends c.shared.tail o (v.version.place + 1) w.version.place fits (omega (arith, place, next)) (claim_within q t w oid k) in
          omega (arith, stamp, is, up)

      behind_held : Behind t w oid → AtNewest p b v oid → b.stamp ≤ w.stamp
      behind_held mine others =
          let place = others.place in
          let next = mine.next in
          let stamp = mine.stamp in
          let is = claim_stamp p b v oid j in
          let low = below_stamp p b v oid j in
          let up = ascends c.shared.tail o (w.version.place + 1) v.version.place fits (omega (arith, place, next)) (claim_within p b v oid j) in
          absurd (omega (arith, stamp, is, up, low, less))

      both_behind : Behind t w oid → Behind b v oid → b.stamp ≤ w.stamp
      both_behind mine others =
          let mine_is = mine.stamp in
          let others_is = others.stamp in
          let is = claim_stamp q t w oid k in
          ⊎_elim
          (λ (newer : w.version.place < v.version.place + 1).
          let up = ascends c.shared.tail o (w.version.place + 1) (v.version.place + 1) fits (omega (arith, newer)) others.next in
          absurd (omega (arith, mine_is, others_is, up, less)))
          (λ (older : v.version.place + 1 ≤ w.version.place).
          let up = ascends c.shared.tail o (v.version.place + 1) w.version.place fits older (claim_within q t w oid k) in
          omega (arith, others_is, is, up))
          (cases_lt w.version.place (v.version.place + 1))

  -- each transaction reads and claims by the rules of snapshot isolation, whether it commits or not
  pub read_snapshot : (q : ℕ) (t : Attempt) (r : Read) → t ∈ all_of (c.seats q) → r ∈ t.reads
      → IsNewestBelow (history_of c.seats) (opening_rows c.shared) r.version.oid t.begin r.stamp r.row
  read_snapshot q t r m n =
      let f = (sound.own q).snapshot.reads t r m n in
      newest_below q t r.version.oid r.version.place r.stamp r.row m (read_stays q t r m n) f.newest.below f.row

  pub claim_snapshot : (q : ℕ) (t : Attempt) (w : Claim) → t ∈ all_of (c.seats q) → w ∈ t.writes
      → IsNewestBelow (history_of c.seats) (opening_rows c.shared) w.version.oid t.begin w.stamp w.base
  claim_snapshot q t w m n =
      newest_below q t w.version.oid w.version.place w.stamp w.base m (claim_stays q t w m n) ((sound.own q).written.first t w m n) (sym ((sound.own q).written.rows t w m n).base)

  -- a claim that isn't set has the row that it overwrites
  pub claim_kept : (q : ℕ) (t : Attempt) (w : Claim) → t ∈ all_of (c.seats q) → w ∈ t.writes → w.is_set ≡ false → w.row ≡ w.base
  claim_kept q t w m n = ((sound.own q).written.rows t w m n).kept

  -- a commit overwrites by those rules
  write_snapshot : (q : ℕ) (t : Attempt) (w : Claim) → t ∈ all_of (c.seats q) → t.decision ≡ Commit → w ∈ t.writes
      → OverwritesNewest (history_of c.seats) (opening_rows c.shared) (record_of q t) (written_of w)
  write_snapshot q t w m commit n =
      let k : Claims q t w w.version.oid = record { stands = m; commit = commit; writes = n; oid_is = refl } in
      let f = (sound.own q).marks.written t w m n in
      let rows = (sound.own q).written.rows t w m n in
      record {
        row = (version_at (c.shared.objects w.version.oid) w.version.place).words.row;
        newest = record {
          version =
              subst (λ stamp. IsVersion (history_of c.seats) (opening_rows c.shared) w.version.oid stamp (version_at (c.shared.objects w.version.oid) w.version.place).words.row) f.stamp
              (version_of w.version.oid w.version.place f.object f.within);
          below = below_stamp q t w w.version.oid k;
          newest = λ u mu makes less.
              let by = maker u w.version.oid mu makes in
              let is = by.stamp in
              let h = written_newest q t w w.version.oid f.object k by.seat by.attempt by.claim by.claims (omega (arith, is, less)) in
              omega (arith, is, h);
        };
        first = (sound.own q).written.first t w m n;
        kept = λ e. rows.kept e ∙ rows.base;
      }

  -- each object is claimed once
  claims_apart : (q : ℕ) (t : Attempt) → t ∈ all_of (c.seats q) → (j k : ℕ) → j < k → k < length t.writes → (claim_at t j).version.oid ≢ (claim_at t k).version.oid
  claims_apart q t m =
      ⊎_elim
      (λ (before : t ∈ (c.seats q).over). (sound.own q).written.once t before)
      (λ (now : t ≡ (c.seats q).current).
      subst (λ (u : Attempt). (j k : ℕ) → j < k → k < length u.writes → (claim_at u j).version.oid ≢ (claim_at u k).version.oid) (sym now) (sound.own q).claims.once)
      (∈-push (c.seats q).over (c.seats q).current t m)

  write_once : (q : ℕ) (t : Attempt) → t ∈ all_of (c.seats q) → (i j : ℕ) (v w : VersionWritten)
      → slice_get (map written_of t.writes) i ≡ Some v → slice_get (map written_of t.writes) j ≡ Some w → v.oid ≡ w.oid → i ≡ j
  write_once q t m i j v w at_i at_j same =
      let a = at_map written_of t.writes i v no_claim at_i in
      let b = at_map written_of t.writes j w no_claim at_j in
      let oids : (claim_at t i).version.oid ≡ (claim_at t j).version.oid = ap (λ (z : VersionWritten). z.oid) a.1 ∙ same ∙ ap (λ (z : VersionWritten). z.oid) (sym b.1) in
      ⊎_elim
      (λ (less : i < j). absurd (claims_apart q t m i j less b.0 oids))
      (λ (most : j ≤ i).
      ⊎_elim (λ (more : j < i). absurd (claims_apart q t m j i more a.0 (sym oids))) (λ (least : i ≤ j). omega (arith, most, least)) (cases_lt j i))
      (cases_lt i j)

  commit_snapshot : (q : ℕ) (t : Attempt) → t ∈ all_of (c.seats q) → t.decision ≡ Commit → ReadsSnapshot (history_of c.seats) (opening_rows c.shared) (record_of q t)
  commit_snapshot q t m commit =
      let sealed = (sound.own q).written.sealed t m commit in
      record {
        begun = sealed.0;
        sealed = sealed.1;
        reads = λ r n.
            let at = ∈-map read_of t.reads r n in
            subst (λ (z : VersionRead). IsNewestBelow (history_of c.seats) (opening_rows c.shared) z.oid t.begin z.stamp z.row) at.2 (read_snapshot q t at.0 m at.1);
        writes = λ w n.
            let at = ∈-map written_of t.writes w n in
            subst (λ (z : VersionWritten). OverwritesNewest (history_of c.seats) (opening_rows c.shared) (record_of q t) z) at.2 (write_snapshot q t at.0 m commit at.1);
        once = write_once q t m;
      }

  -- What a sound state has committed is a snapshot history.
  pub snapshot_history : IsSnapshot (history_of c.seats) (opening_rows c.shared)
  snapshot_history u m =
      let h = history_has c.seats u m in
      subst (ReadsSnapshot (history_of c.seats) (opening_rows c.shared)) h.is (commit_snapshot h.seat h.attempt h.stands h.commit)
