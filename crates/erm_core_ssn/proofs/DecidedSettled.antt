-- What a settling transaction knows of commits below its stamp that overwrote what it read, or read what it overwrites.
use Rattle.std.proofs.Common.{◌≡◌, ◌≢◌, ℕ, ◌<◌, ◌≤◌, ⊎_elim, Bool, true, false, length, map, refl, sym, ap, ◌∙◌, subst, inl, arith}
use Rattle.std.proofs.lemmas.Bool.{cases_lt, cases_eq}
use Rattle.erm_model.specs.declared.history.TransactionRecord.{TransactionRecord}
use Rattle.erm_model.specs.declared.history.VersionRead.{VersionRead}
use Rattle.erm_model.specs.declared.history.VersionWritten.{VersionWritten}
use Rattle.erm_model.specs.History.{Makes, Overwrites}
use Rattle.erm_model.specs.Member.{◌∈◌}
use Rattle.erm_model.proofs.Members.{∈-push, ∈-at}
use Rattle.erm_machine.specs.declared.attempt.Attempt.{Attempt}
use Rattle.erm_machine.specs.declared.attempt.Claim.{Claim}
use Rattle.erm_machine.specs.declared.attempt.Decision.TheVariants.{Undecided, Commit}
use Rattle.erm_machine.specs.Core.{Core, Object, claim_at, version_at}
use Rattle.erm_machine.specs.Decided.{read_of, written_of, record_of, history_of, IsOpen, writes_passed}
use Rattle.erm_machine.specs.Facts.{all_of}
use Rattle.erm_machine.specs.Readers.{cleared, raised}
use Rattle.erm_machine.specs.Seat.{read_at, no_read}
use Rattle.erm_machine.specs.Snapshot.{passed_of}
use Rattle.erm_machine.specs.Sound.{Sound}
use Rattle.erm_machine.proofs.Holders.{stands_in}
use Rattle.erm_machine.proofs.Histories.{history_has}
use Rattle.erm_machine.proofs.Listed.{∈-map, ∈-map_from}
use Rattle.erm_core_ssn.proofs.DecidedVersions.{current_stands, claim_of_read}
use Rattle.erm_core_ssn.proofs.DecidedOpen.{read_place, open_held}
use Rattle.erm_core_ssn.proofs.DecidedWitness.{From}

-- what an overwriter that has installed left at the version
pub record MarksOf (o : Object) (place stamp succ : ℕ) : Type 0 where
  pub mark : (version_at o place).words.overwriter ≡ stamp
  pub succ_is : (version_at o place).words.overwriter_succ ≡ succ

module _ (c : Core) (p : ℕ) (sound : Sound c) (is_open : IsOpen (c.seats p).current) where
  -- a commit isn't the transaction that settles
  not_current : (q : ℕ) (t : Attempt) → t.decision ≡ Commit → t ≡ (c.seats q).current → q ≢ p
  not_current q t commit now same =
      let un : (c.seats q).current.decision ≡ Undecided = ap (λ n. (c.seats n).current.decision) same ∙ is_open.1 in
      let e = ap (λ (w : Attempt). w.decision) now in
      cc

  installed_marks : (q : ℕ) (t : Attempt) (w : Claim) (oid place : ℕ) → t ∈ all_of (c.seats q) → t.decision ≡ Commit → w ∈ t.writes → w.held ≡ false → w.version.oid ≡ oid → w.version.place ≡ place →
      MarksOf (c.shared.objects oid) place t.stamp t.succ
  installed_marks q t w oid place m commit n free is at =
      let h = (sound.own q).marks.installed t w m commit n free in
      let written = (sound.own q).marks.written t w m n in
      let mark = (sound.common.claims.objects w.version.oid written.object).marked w.version.place h.next ∙ h.stamp in
      subst (λ k. MarksOf (c.shared.objects k) place t.stamp t.succ) is
      (subst (λ k. MarksOf (c.shared.objects w.version.oid) k t.stamp t.succ) at (record { mark = mark; succ_is = h.succ }))

  -- a commit below the stamp that overwrote a version read which settle has passed
  pub marks_of : (u : TransactionRecord) (k : ℕ) → u ∈ history_of c.seats → u.stamp < (c.seats p).current.stamp → k < passed_of (c.seats p).task (length (c.seats p).current.reads) →
      k < length (c.seats p).current.reads → Overwrites u (read_at (c.seats p).current k).version.oid (read_at (c.seats p).current k).stamp →
      MarksOf (c.shared.objects (read_at (c.seats p).current k).version.oid) (read_at (c.seats p).current k).version.place u.stamp u.succ
  marks_of u k m low passed within over =
      let r = history_has c.seats u m in
      from r.seat r.attempt r.stands r.commit r.is
      (subst (λ (v : TransactionRecord). Overwrites v (read_at (c.seats p).current k).version.oid (read_at (c.seats p).current k).stamp) (sym r.is) over)
    where
      from : (q : ℕ) (t : Attempt) → t ∈ all_of (c.seats q) → t.decision ≡ Commit → record_of q t ≡ u →
          Overwrites (record_of q t) (read_at (c.seats p).current k).version.oid (read_at (c.seats p).current k).stamp →
          MarksOf (c.shared.objects (read_at (c.seats p).current k).version.oid) (read_at (c.seats p).current k).version.place u.stamp u.succ
      from q t stands commit is wrote =
          let w = ∈-map written_of t.writes wrote.0 wrote.1 in
          let n = ∈-at (c.seats p).current.reads k no_read within in
          let oid : w.0.version.oid ≡ (read_at (c.seats p).current k).version.oid = ap (λ (v : VersionWritten). v.oid) w.2 ∙ wrote.2 in
          let stamp : w.0.stamp ≡ (read_at (c.seats p).current k).stamp = ap (λ (v : VersionWritten). v.stamp) w.2 ∙ wrote.3 in
          let place = claim_of_read c sound q p t (c.seats p).current w.0 (read_at (c.seats p).current k) stands (current_stands (c.seats p)) w.1 n oid stamp in
          let free : w.0.held ≡ false = not_held q t w.0 stands commit w.1 oid place (ap (λ (v : TransactionRecord). v.stamp) is) in
          let marks = installed_marks q t w.0 (read_at (c.seats p).current k).version.oid (read_at (c.seats p).current k).version.place stands commit w.1 free oid place in
          record { mark = marks.mark ∙ ap (λ (v : TransactionRecord). v.stamp) is; succ_is = marks.succ_is ∙ ap (λ (v : TransactionRecord). v.succ) is }
        where
          not_held : (q : ℕ) (t : Attempt) (w : Claim) → t ∈ all_of (c.seats q) → t.decision ≡ Commit → w ∈ t.writes → w.version.oid ≡ (read_at (c.seats p).current k).version.oid →
              w.version.place ≡ (read_at (c.seats p).current k).version.place → t.stamp ≡ u.stamp → w.held ≡ false
          not_held q t w stands commit n oid place e = by_held w.held refl
            where
              holds : w.held ≡ true → ⊥
              holds held =
                  ⊎_elim
                  (λ (before : t ∈ (c.seats q).over). let no = (sound.own q).marks.over t w before n in cc)
                  (λ (now : t ≡ (c.seats q).current).
                  let positive = (sound.own q).decided.positive t stands commit in
                  let s = ap (λ (a : Attempt). a.stamp) now in
                  (sound.both p q (λ same. not_current q t commit now (sym same))).snapshot.passed k passed within
                  (omega (arith, positive, s), omega (arith, low, e, s), (w, subst (λ (a : Attempt). w ∈ a.writes) now n, held, oid, place)))
                  (∈-push (c.seats q).over (c.seats q).current t stands)

              by_held : (b : Bool) → w.held ≡ b → w.held ≡ false
              by_held true h = absurd (holds h)
              by_held false h = h

  -- a commit below the stamp that has read a version overwritten which settle has passed
  pub read_raised : (u : TransactionRecord) (k found : ℕ) → u ∈ history_of c.seats → u.stamp < (c.seats p).current.stamp → k < writes_passed (c.seats p).task (length (c.seats p).current.writes) →
      k < length (c.seats p).current.writes →
      found ≡ (version_at (c.shared.objects (claim_at (c.seats p).current k).version.oid) (claim_at (c.seats p).current k).version.place).words.reader_stamp →
      ((r : VersionRead) × (r ∈ u.reads) × (r.oid ≡ (claim_at (c.seats p).current k).version.oid) × (r.stamp ≡ (claim_at (c.seats p).current k).stamp)) → u.stamp ≤ found
  read_raised u k found m low passed within is has =
      let r = history_has c.seats u m in
      from r.seat r.attempt r.stands r.commit (ap (λ (v : TransactionRecord). v.stamp) r.is)
      (subst (λ (v : TransactionRecord). (r : VersionRead) × (r ∈ v.reads) × (r.oid ≡ (claim_at (c.seats p).current k).version.oid) × (r.stamp ≡ (claim_at (c.seats p).current k).stamp)) (sym r.is) has)
    where
      from : (q : ℕ) (t : Attempt) → t ∈ all_of (c.seats q) → t.decision ≡ Commit → t.stamp ≡ u.stamp →
          ((r : VersionRead) × (r ∈ map read_of t.reads) × (r.oid ≡ (claim_at (c.seats p).current k).version.oid) × (r.stamp ≡ (claim_at (c.seats p).current k).stamp)) → u.stamp ≤ found
      from q t stands commit e read =
          let j = read_place t read.0 read.1 in
          let w = claim_at (c.seats p).current k in
          let b = read_at t j.place in
          let mb = ∈-at t.reads j.place no_read j.within in
          let oid : b.version.oid ≡ w.version.oid = ap (λ (v : VersionRead). v.oid) j.is ∙ read.2 in
          let stamp : b.stamp ≡ w.stamp = ap (λ (v : VersionRead). v.stamp) j.is ∙ read.3 in
          let place : b.version.place ≡ w.version.place =
          sym (claim_of_read c sound p q (c.seats p).current t w b (current_stands (c.seats p)) stands (stands_in (c.seats p).current k within) mb (sym oid) (sym stamp)) in
          let there : (version_at (c.shared.objects b.version.oid) b.version.place).words.reader_stamp ≡ found =
          ap (λ n. (version_at (c.shared.objects n) b.version.place).words.reader_stamp) oid ∙ (ap (λ n. (version_at (c.shared.objects w.version.oid) n).words.reader_stamp) place ∙ sym is) in
          ⊎_elim
          (λ (before : t ∈ (c.seats q).over). let h = (sound.own q).readers.over t b before commit mb in omega (arith, h, there, e))
          (λ (now : t ≡ (c.seats q).current).
          current q t now commit (j.place) (subst (λ (a : Attempt). j.place < length a.reads) now j.within) (not_current q t commit now)
          (subst (λ (a : Attempt). (read_at a j.place).version.oid ≡ w.version.oid) now oid) (subst (λ (a : Attempt). (read_at a j.place).version.place ≡ w.version.place) now place)
          (subst (λ (a : Attempt). (version_at (c.shared.objects (read_at a j.place).version.oid) (read_at a j.place).version.place).words.reader_stamp ≡ found) now there) stands e)
          (∈-push (c.seats q).over (c.seats q).current t stands)
        where
          above : (n : ℕ) → (n ≡ 0 → ⊥) → 0 < n
          above n f = omega (arith, f)

          current : (q : ℕ) (t : Attempt) → t ≡ (c.seats q).current → t.decision ≡ Commit → (i : ℕ) → i < length (c.seats q).current.reads → q ≢ p →
              (read_at (c.seats q).current i).version.oid ≡ (claim_at (c.seats p).current k).version.oid → (read_at (c.seats q).current i).version.place ≡ (claim_at (c.seats p).current k).version.place →
              (version_at (c.shared.objects (read_at (c.seats q).current i).version.oid) (read_at (c.seats q).current i).version.place).words.reader_stamp ≡ found → t ∈ all_of (c.seats q) → t.stamp ≡ u.stamp → u.stamp ≤ found
          current q t now commit i inside ne oid place there stands e =
              let decides : (c.seats q).current.decision ≡ Commit = sym (ap (λ (a : Attempt). a.decision) now) ∙ commit in
              let s = ap (λ (a : Attempt). a.stamp) now in
              let positive = (sound.own q).decided.positive t stands commit in
              ⊎_elim
              (λ (done : i < raised (c.seats q)). let h = (sound.own q).readers.raising decides i done inside in omega (arith, h, there, s, e))
              (λ (left : raised (c.seats q) ≤ i).
              ⊎_elim
              (λ (none : cleared (c.seats q) ≡ 0).
              absurd ((sound.both p q (λ same. ne (sym same))).decided.passed k passed within
              (omega (arith, positive, s), omega (arith, low, s, e), (i, omega (arith, none), inside, oid, place))))
              (λ (some : cleared (c.seats q) ≡ 0 → ⊥).
              let all = (sound.own q).readers.before decides (above (cleared (c.seats q)) some) in absurd (omega (arith, all, left, inside)))
              (cases_eq (cleared (c.seats q)) 0))
              (cases_lt i (raised (c.seats q)))

  -- whose stamp counts for the predecessor stamp has a smaller one
  pub from_below : (u : TransactionRecord) (k : ℕ) → u ∈ history_of c.seats → k < length (c.seats p).current.writes → From (claim_at (c.seats p).current k) u → u.stamp < (c.seats p).current.stamp
  from_below u k m within from =
      ⊎_elim
      (λ (made : ((claim_at (c.seats p).current k).stamp ≡ u.stamp) × Makes u (claim_at (c.seats p).current k).version.oid). created made.0)
      (λ (read : (r : VersionRead) × (r ∈ u.reads) × (r.oid ≡ (claim_at (c.seats p).current k).version.oid) × (r.stamp ≡ (claim_at (c.seats p).current k).stamp)).
      let r = history_has c.seats u m in
      reads r.seat r.attempt r.stands r.commit (ap (λ (v : TransactionRecord). v.stamp) r.is)
      (subst (λ (v : TransactionRecord). (r : VersionRead) × (r ∈ v.reads) × (r.oid ≡ (claim_at (c.seats p).current k).version.oid) × (r.stamp ≡ (claim_at (c.seats p).current k).stamp)) (sym r.is) read))
      from
    where
      created : (claim_at (c.seats p).current k).stamp ≡ u.stamp → u.stamp < (c.seats p).current.stamp
      created e =
          let first = ((sound.own p).claims.fit k within (open_held c sound p k is_open within)).first in
          let begun = ((sound.own p).snapshot.past (c.seats p).current (current_stands (c.seats p))).drawn_later is_open.0 in
          omega (arith, e, first, begun)

      reads : (q : ℕ) (t : Attempt) → t ∈ all_of (c.seats q) → t.decision ≡ Commit → t.stamp ≡ u.stamp →
          ((r : VersionRead) × (r ∈ map read_of t.reads) × (r.oid ≡ (claim_at (c.seats p).current k).version.oid) × (r.stamp ≡ (claim_at (c.seats p).current k).stamp)) → u.stamp < (c.seats p).current.stamp
      reads q t stands commit e read =
          ⊎_elim
          (λ (less : u.stamp < (c.seats p).current.stamp). less)
          (λ (more : (c.seats p).current.stamp ≤ u.stamp).
          ⊎_elim
          (λ (same : q ≡ p).
          let t_in : t ∈ all_of (c.seats p) = subst (λ n. t ∈ all_of (c.seats n)) same stands in
          ⊎_elim
          (λ (before : t ∈ (c.seats p).over). let h = (sound.own p).decided.earlier t before is_open.0 in omega (arith, h, e))
          (λ (now : t ≡ (c.seats p).current). absurd (not_current p t commit now refl))
          (∈-push (c.seats p).over (c.seats p).current t t_in))
          (λ (ne : q ≡ p → ⊥).
          let old = (sound.both q p ne).decided in
          let positive = (sound.own q).decided.positive t stands commit in
          let differ = old.apart t (c.seats p).current stands (current_stands (c.seats p)) positive in
          absurd (old.decided t stands positive (decided_by t commit) is_open (
            strictly (c.seats p).current.stamp t.stamp u.stamp more e differ,
            inl (read.0, read.1, (written_of (claim_at (c.seats p).current k), ∈-map_from written_of (c.seats p).current.writes (claim_at (c.seats p).current k) (stands_in (c.seats p).current k within), sym read.2, sym read.3)),
          )))
          (cases_eq q p))
          (cases_lt u.stamp (c.seats p).current.stamp)
        where
          decided_by : (t : Attempt) → t.decision ≡ Commit → t.decision ≢ Undecided
          decided_by t commit un = cc

          strictly : (a b n : ℕ) → a ≤ n → b ≡ n → (b ≡ a → ⊥) → a < b
          strictly a b n h e f = omega (arith, h, e, f)
