-- Rows in a serial run: at each turn every object has the newest row of those that have had theirs.
use Rattle.std.proofs.Common.{◌≡◌, ℕ, ◌<◌, ◌≤◌, ◌⊎◌, ⊎_elim, inl, inr, List, [], ◌∷◌, eqb, refl, sym, ap, ◌∙◌, subst, arith}
use Rattle.std.proofs.lemmas.Bool.{cases_order, cases_eq, cases_lt, cond-true, cond-false, ne_eqb, eq-eqb}
use Rattle.erm_model.specs.declared.history.TransactionRecord.{TransactionRecord}
use Rattle.erm_model.specs.declared.history.VersionWritten.{VersionWritten}
use Rattle.erm_model.specs.Member.{◌∈◌}
use Rattle.erm_model.specs.SerialOrder.{ComesBefore, IsSerialOrder}
use Rattle.erm_model.specs.History.{History, IsSnapshot, IsCertified, IsMade, IsVersion, IsNewestBelow, HasNewestRows, FindsItsRows, RunsSerially, Makes, after_writes, rows_after, rank_of}
use Rattle.erm_model.specs.Rows.{Rows, set_row}
use Rattle.erm_model.proofs.Members.{none_in_nil, ∈-behind}
use Rattle.erm_machine.proofs.Listed.{∈-cons, ∈-head}
use Rattle.erm_core_ssn.proofs.Members.{TellsApart, TellsApart-tail, TellsApart-head, one_element}
use Rattle.erm_core_ssn.proofs.Orders.{ComesBefore-asym, IsCut, first_cut, next_cut, has_had_turn, no_turn_twice}
use Rattle.erm_core_ssn.proofs.Forward.{Reads, goes_forward, read_below}
use Rattle.erm_core_ssn.proofs.Chains.{HasMaker, maker_of, one_transaction, writers_in_order, reader_in_order, read_maker, no_newer, overwritten_maker, overwritten_before}

-- a write sets the row of its object and no other
pub after_writes-other : (ws : List VersionWritten) (rows : Rows) (oid : ℕ) → ((w : VersionWritten) → w ∈ ws → w.oid ≡ oid → ⊥) → after_writes ws rows oid ≡ rows oid
after_writes-other [] rows oid none = refl
after_writes-other (w ∷ ws) rows oid none =
    after_writes-other ws (set_row rows w.oid w.row) oid (λ v there. none v (∈-behind w ws v there))
    ∙ cond-false (eqb oid w.oid) w.row (rows oid) (ne_eqb oid w.oid (λ e. none w (∈-head w ws) (sym e)))

pub after_writes-written : (ws : List VersionWritten) (rows : Rows) → TellsApart (λ w. w.oid) ws → (w : VersionWritten) → w ∈ ws → after_writes ws rows w.oid ≡ w.row
after_writes-written [] rows apart w there = absurd (none_in_nil w there)
after_writes-written (v ∷ ws) rows apart w there =
    ⊎_elim
    (λ (e : v ≡ w).
    subst (λ x. after_writes (v ∷ ws) rows x.oid ≡ x.row) e
    (after_writes-other ws (set_row rows v.oid v.row) v.oid (λ x of_x same. TellsApart-head (λ w. w.oid) v ws apart x of_x (sym same))
    ∙ cond-true (eqb v.oid v.oid) v.row (rows v.oid) (eq-eqb v.oid v.oid refl)))
    (λ (later : w ∈ ws). after_writes-written ws (set_row rows v.oid v.row) (TellsApart-tail (λ w. w.oid) v ws apart) w later)
    (∈-cons w v ws there)

-- an object is written or it is not
pub written_or_not : (ws : List VersionWritten) (oid : ℕ) → ((w : VersionWritten) × (w ∈ ws) × (w.oid ≡ oid)) ⊎ ((w : VersionWritten) → w ∈ ws → w.oid ≡ oid → ⊥)
written_or_not [] oid = inr (λ w there _. none_in_nil w there)
written_or_not (v ∷ ws) oid =
    ⊎_elim
    (λ (same : v.oid ≡ oid). inl (v, ∈-head v ws, same))
    (λ (other : v.oid ≡ oid → ⊥).
    ⊎_elim
    (λ (found : (w : VersionWritten) × (w ∈ ws) × (w.oid ≡ oid)). inl (found.0, ∈-behind v ws found.0 found.1, found.2))
    (λ (none : (w : VersionWritten) → w ∈ ws → w.oid ≡ oid → ⊥).
    inr (λ w there same.
    ⊎_elim (λ (e : v ≡ w). other (ap (λ (x : VersionWritten). x.oid) e ∙ same)) (λ (later : w ∈ ws). none w later same) (∈-cons w v ws there)))
    (written_or_not ws oid))
    (cases_eq v.oid oid)

-- of these transactions, none made a newer version of the object than the one that has this stamp and this row
pub record IsNewestOf (done : History) (opening : Rows) (oid stamp : ℕ) (row : List ℕ) : Type 0 where
  pub version : IsVersion done opening oid stamp row
  pub newest : (u : TransactionRecord) → u ∈ done → Makes u oid → u.stamp ≤ stamp

-- each object has the newest row that these transactions made
abbrev pub HoldsNewest : History → Rows → Rows → Type 0
HoldsNewest done opening rows = (oid : ℕ) → (stamp : ℕ) × IsNewestOf done opening oid stamp (rows oid)

-- a version of some transactions is one of more
version_of_more : (done all : History) (opening : Rows) → ((u : TransactionRecord) → u ∈ done → u ∈ all) → (oid stamp : ℕ) (row : List ℕ) → IsVersion done opening oid stamp row → IsVersion all opening oid stamp row
version_of_more done all opening within oid stamp row version =
    ⊎_elim
    (λ (first : (stamp ≡ 0) × (row ≡ opening oid)). inl first)
    (λ (made : IsMade done oid stamp row).
    inr (made.0, made.1, within made.0 made.2, made.3, made.4, made.5, made.6))
    version

module _ (h : History) (opening : Rows) (snapshot : IsSnapshot h opening) (certified : IsCertified h) where
  -- a stamp is above 0
  stamp_above : (t : TransactionRecord) → t ∈ h → 0 < t.stamp
  stamp_above t of_t = omega (arith, (snapshot t of_t).begun, (snapshot t of_t).sealed)

  -- a version has one row
  one_write : (oid stamp : ℕ) (row other : List ℕ) → IsMade h oid stamp row → IsMade h oid stamp other → row ≡ other
  one_write oid stamp row other first second =
      let same : first.0 ≡ second.0 = one_transaction h opening snapshot certified first.0 second.0 first.2 second.2 (first.3 ∙ sym second.3) in
      let there : second.1 ∈ first.0.writes = subst (λ x. second.1 ∈ x.writes) (sym same) second.4 in
      let one : first.1 ≡ second.1 =
      one_element (λ w. w.oid) first.0.writes (snapshot first.0 first.2).once first.1 second.1 first.4 there (first.5 ∙ sym second.5)
      in
      sym first.6 ∙ ap (λ (w : VersionWritten). w.row) one ∙ second.6

  pub one_row : (oid stamp : ℕ) (row other : List ℕ) → IsVersion h opening oid stamp row → IsVersion h opening oid stamp other → row ≡ other
  one_row oid stamp row other first second =
      ⊎_elim
      (λ (a : (stamp ≡ 0) × (row ≡ opening oid)).
      ⊎_elim
      (λ (b : (stamp ≡ 0) × (other ≡ opening oid)). a.1 ∙ sym b.1)
      (λ (b : IsMade h oid stamp other). absurd (omega (arith, a.0, b.3, stamp_above b.0 b.2)))
      second)
      (λ (a : IsMade h oid stamp row).
      ⊎_elim
      (λ (b : (stamp ≡ 0) × (other ≡ opening oid)). absurd (omega (arith, b.0, a.3, stamp_above a.0 a.2)))
      (λ (b : IsMade h oid stamp other). one_write oid stamp row other a b)
      second)
      first

  no_later : (oid bound s z : ℕ) (one other : List ℕ) → IsNewestBelow h opening oid bound s one → IsNewestBelow h opening oid bound z other → s ≤ z
  no_later oid bound s z one other first second =
      ⊎_elim
      (λ (e : s ≡ 0). omega (arith, e))
      (λ (m : HasMaker h oid s). omega (arith, m.2, first.below, second.newest m.0 m.1 m.3 (omega (arith, m.2, first.below))))
      (maker_of h opening oid s one first.version)

  pub one_newest : (oid bound s z : ℕ) (one other : List ℕ) → IsNewestBelow h opening oid bound s one → IsNewestBelow h opening oid bound z other → (s ≡ z) × (one ≡ other)
  one_newest oid bound s z one other first second =
      let same : s ≡ z = omega (arith, no_later oid bound s z one other first second, no_later oid bound z s other one second first) in
      (same, one_row oid z one other (subst (λ n. IsVersion h opening oid n one) same first.version) second.version)

  -- after one more turn
  turn_holds : (done : History) (t : TransactionRecord) (rest : History) (rows : Rows) → IsCut rank_of h done (t ∷ rest) → HoldsNewest done opening rows → HoldsNewest (t ∷ done) opening (after_writes t.writes rows)
  turn_holds done t rest rows cut holds oid =
      ⊎_elim
      (λ (w : (w : VersionWritten) × (w ∈ t.writes) × (w.oid ≡ oid)).
      let set : w.0.row ≡ after_writes t.writes rows oid =
      sym (subst (λ x. after_writes t.writes rows x ≡ w.0.row) w.2 (after_writes-written t.writes rows (snapshot t of_t).once w.0 w.1))
      in (
        t.stamp,
        record {
          version = inr (t, w.0, ∈-head t done, refl, w.1, w.2, set);
          newest = λ u there makes.
              ⊎_elim
              (λ (e : t ≡ u). subst (λ x. x.stamp ≤ t.stamp) e (omega arith))
              (λ (earlier : u ∈ done).
              ⊎_elim
              (λ (above : t.stamp < u.stamp).
              absurd (no_turn_twice rank_of h done t rest cut u earlier
              (writers_in_order h opening snapshot certified t u of_t (cut.of_done u earlier) oid w makes above)))
              (λ (upto : u.stamp ≤ t.stamp). upto)
              (cases_lt t.stamp u.stamp))
              (∈-cons u t done there);
        },
      ))
      (λ (none : (w : VersionWritten) → w ∈ t.writes → w.oid ≡ oid → ⊥).
      let old = holds oid in (
        old.0,
        record {
          version =
              subst (λ row. IsVersion (t ∷ done) opening oid old.0 row) (sym (after_writes-other t.writes rows oid none))
              (version_of_more done (t ∷ done) opening (λ u. ∈-behind t done u) oid old.0 (rows oid) old.1.version);
          newest = λ u there makes.
              ⊎_elim
              (λ (e : t ≡ u). absurd (none makes.0 (subst (λ x. makes.0 ∈ x.writes) (sym e) makes.1) makes.2))
              (λ (earlier : u ∈ done). old.1.newest u earlier makes)
              (∈-cons u t done there);
        },
      ))
      (written_or_not t.writes oid)
    where
      of_t : t ∈ h
      of_t = cut.of_rest t (∈-head t rest)

  module _ (done : History) (t : TransactionRecord) (rest : History) (rows : Rows) (cut : IsCut rank_of h done (t ∷ rest)) (holds : HoldsNewest done opening rows) where
    first_of_rest : t ∈ h
    first_of_rest = cut.of_rest t (∈-head t rest)

    -- the version that an object has at the turn, as one of the whole history
    version_now : (oid : ℕ) → IsVersion h opening oid (holds oid).0 (rows oid)
    version_now oid = version_of_more done h opening cut.of_done oid (holds oid).0 (rows oid) (holds oid).1.version

    -- the makers of what it read and overwrote have had their turn
    reaches_read : (oid stamp : ℕ) → Reads t oid stamp → stamp ≤ (holds oid).0
    reaches_read oid stamp read =
        ⊎_elim
        (λ (first : stamp ≡ 0). omega (arith, first))
        (λ (m : HasMaker h oid stamp).
        let before : ComesBefore (rank_of m.0) (rank_of t) =
        goes_forward h opening snapshot certified m.0 t m.1 first_of_rest
        ((λ same. omega (arith, same, m.2, read_below h opening snapshot certified t oid stamp first_of_rest read, (snapshot t first_of_rest).sealed)), inl (read.0, read.1, read.3 ∙ sym m.2, (m.3.0, m.3.1, m.3.2 ∙ sym read.2)))
        in
        omega (arith, m.2, (holds oid).1.newest m.0 (has_had_turn rank_of h done t rest cut m.0 m.1 before) m.3))
        (read_maker h opening snapshot certified t first_of_rest oid stamp read)

    reaches_overwritten : (oid : ℕ) (makes : Makes t oid) → makes.0.stamp ≤ (holds oid).0
    reaches_overwritten oid makes =
        ⊎_elim
        (λ (first : makes.0.stamp ≡ 0). omega (arith, first))
        (λ (m : HasMaker h oid makes.0.stamp).
        let before = overwritten_before h opening snapshot certified t first_of_rest oid makes m in
        omega (arith, m.2, (holds oid).1.newest m.0 (has_had_turn rank_of h done t rest cut m.0 m.1 before) m.3))
        (overwritten_maker h opening snapshot certified t first_of_rest oid makes)

    -- it has not had its own turn
    other_stamp : (u : TransactionRecord) → u ∈ done → t.stamp ≡ u.stamp → ⊥
    other_stamp u earlier same =
        let e : t ≡ u = one_transaction h opening snapshot certified t u first_of_rest (cut.of_done u earlier) same in
        let before : ComesBefore (rank_of u) (rank_of t) = cut.before u t earlier (∈-head t rest) in
        ComesBefore-asym (rank_of u) (rank_of t) before (subst (λ x. ComesBefore (rank_of x) (rank_of u)) (sym e) (subst (λ x. ComesBefore (rank_of u) (rank_of x)) e before))

    -- nobody who made a later version has had a turn
    passes_none_read : (oid stamp : ℕ) → Reads t oid stamp → (holds oid).0 ≤ stamp
    passes_none_read oid stamp read =
        ⊎_elim
        (λ (above : stamp < (holds oid).0).
        ⊎_elim
        (λ (first : (holds oid).0 ≡ 0). absurd (omega (arith, first, above)))
        (λ (m : HasMaker done oid (holds oid).0).
        absurd (no_turn_twice rank_of h done t rest cut m.0 m.1
        (reader_in_order h opening snapshot certified t m.0 first_of_rest (cut.of_done m.0 m.1) oid stamp read m.3 (omega (arith, m.2, above)) (other_stamp m.0 m.1))))
        (maker_of done opening oid (holds oid).0 (rows oid) (holds oid).1.version))
        (λ (upto : (holds oid).0 ≤ stamp). upto)
        (cases_lt stamp (holds oid).0)

    passes_none_overwritten : (oid : ℕ) (makes : Makes t oid) → (holds oid).0 ≤ makes.0.stamp
    passes_none_overwritten oid makes =
        ⊎_elim
        (λ (above : makes.0.stamp < (holds oid).0).
        ⊎_elim
        (λ (first : (holds oid).0 ≡ 0). absurd (omega (arith, first, above)))
        (λ (m : HasMaker done oid (holds oid).0).
        ⊎_elim
        (λ (same : t.stamp ≡ m.0.stamp). absurd (other_stamp m.0 m.1 same))
        (⊎_elim
        (λ (later : t.stamp < m.0.stamp).
        absurd (no_turn_twice rank_of h done t rest cut m.0 m.1
        (writers_in_order h opening snapshot certified t m.0 first_of_rest (cut.of_done m.0 m.1) oid makes m.3 later)))
        (λ (less : m.0.stamp < t.stamp).
        omega (arith, m.2, no_newer h opening snapshot certified t first_of_rest oid makes m.0 (cut.of_done m.0 m.1) m.3 less)))
        (cases_order t.stamp m.0.stamp))
        (maker_of done opening oid (holds oid).0 (rows oid) (holds oid).1.version))
        (λ (upto : (holds oid).0 ≤ makes.0.stamp). upto)
        (cases_lt makes.0.stamp (holds oid).0)

    -- the row now is that of the version overwritten
    finds_overwritten : (w : VersionWritten) → w ∈ t.writes → IsVersion h opening w.oid w.stamp (rows w.oid)
    finds_overwritten w of_w =
        let same : (holds w.oid).0 ≡ w.stamp =
        omega (arith, reaches_overwritten w.oid (w, of_w, refl), passes_none_overwritten w.oid (w, of_w, refl))
        in
        subst (λ s. IsVersion h opening w.oid s (rows w.oid)) same (version_now w.oid)

    -- it finds the rows that it read, and those that it overwrote
    finds : FindsItsRows h opening rows t
    finds = record {
      reads = λ r of_r.
          let same : (holds r.oid).0 ≡ r.stamp =
          omega (arith, reaches_read r.oid r.stamp (r, of_r, refl, refl), passes_none_read r.oid r.stamp (r, of_r, refl, refl))
          in
          one_row r.oid r.stamp (rows r.oid) r.row
          (subst (λ s. IsVersion h opening r.oid s (rows r.oid)) same (version_now r.oid))
          ((snapshot t first_of_rest).reads r of_r).version;
      writes = finds_overwritten;
      kept = λ w of_w unset.
          let over = (snapshot t first_of_rest).writes w of_w in
          one_row w.oid w.stamp (rows w.oid) over.row (finds_overwritten w of_w) over.newest.version ∙ sym (over.kept unset);
    }

  runs : (rest done : History) (rows : Rows) → IsCut rank_of h done rest → HoldsNewest done opening rows → RunsSerially h opening rows rest × HoldsNewest h opening (rows_after rest rows)
  runs [] done rows cut holds = (
    tt,
    λ oid.
        let old = holds oid in (
          old.0,
          record {
            version = version_of_more done h opening cut.of_done oid old.0 (rows oid) old.1.version;
            newest = λ u of_u. old.1.newest u (⊎_elim (λ (d : u ∈ done). d) (λ (n : u ∈ []). absurd (none_in_nil u n)) (cut.each u of_u));
          },
        ),
  )
  runs (t ∷ rest) done rows cut holds =
      let next = runs rest (t ∷ done) (after_writes t.writes rows) (next_cut rank_of h done t rest cut) (turn_holds done t rest rows cut holds) in
      ((finds done t rest rows cut holds, next.0), next.1)

  -- before the first turn
  opening_holds : HoldsNewest [] opening opening
  opening_holds oid = (
    0,
    record {
      version = inl (refl, refl);
      newest = λ u there _. absurd (none_in_nil u there);
    },
  )

  pub runs_in_order : (order : History) → IsSerialOrder rank_of h order → RunsSerially h opening opening order × HoldsNewest h opening (rows_after order opening)
  runs_in_order order serial = runs order [] opening (first_cut rank_of h order serial) opening_holds

  -- the newest rows of all are the newest below a bound above all stamps
  newest_below_all : (rows : Rows) (bound : ℕ) → 0 < bound → ((t : TransactionRecord) → t ∈ h → t.stamp < bound) → HoldsNewest h opening rows → HasNewestRows h opening bound rows
  newest_below_all rows bound positive above holds oid =
      let old = holds oid in (
        old.0,
        record {
          version = old.1.version;
          below =
              ⊎_elim
              (λ (first : old.0 ≡ 0). omega (arith, first, positive))
              (λ (m : HasMaker h oid old.0). omega (arith, m.2, above m.0 m.1))
              (maker_of h opening oid old.0 (rows oid) old.1.version);
          newest = λ u of_u makes _. old.1.newest u of_u makes;
        },
      )

  pub newest_in_order : (order : History) → IsSerialOrder rank_of h order → (bound : ℕ) → 0 < bound → ((t : TransactionRecord) → t ∈ h → t.stamp < bound) → HasNewestRows h opening bound (rows_after order opening)
  newest_in_order order serial bound positive above =
      newest_below_all (rows_after order opening) bound positive above (runs_in_order order serial).1
