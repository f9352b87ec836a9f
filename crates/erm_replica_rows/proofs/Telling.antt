-- What a replica tells of its bytes.
use Rattle.std.proofs.Common.{◌≡◌, ℕ, ◌*◌, ◌≤◌, ◌⊎◌, append-nil, Bool, true, false, List, [], ◌∷◌, ◌++◌, length, Option, None, Some, refl, sym, ap, ◌∙◌, subst, inl, inr}
use Rattle.std.specs.Prelude.{IfSome, if◌then◌else◌}
use Rattle.std.specs.List.{All}
use Rattle.erm_model.specs.InTurn.{in_turn}
use Rattle.erm_model.specs.Rows.{Rows, rows_of}
use Rattle.erm_model.specs.RowTransaction.{SameRows}
use Rattle.erm_ckpt.specs.Checkpoint.{zero_rows}
use Rattle.erm_node.specs.Sound.{IsSound}
use Rattle.erm_replica.specs.declared.item.LogPlace.{LogPlace}
use Rattle.erm_replica.specs.Cuts.{Reads}
use Rattle.erm_replica.specs.Ready.{last_place}
use Rattle.erm_replica.specs.Stream.{HasNext, IsShort, IsUnreadable, Part, StandsFirst, Streamed, behind, fed, part_words, start}
use Rattle.erm_replica.proofs.Cuts.{fed_twice, reads_join, reads_more}
use Rattle.erm_replica_rows.specs.Keeping.{Keeps, Replicated, shown}
use Rattle.erm_replica_rows.specs.Moving.{IsFrom}
use Rattle.erm_replica_rows.specs.Replica.{AreSound, HasRead, IsBad, IsBadAt, IsReplicaOf, IsSafeOf, SameShown, Shown, is_below, rows_after, rows_at, rows_behind}
use Rattle.erm_replica_rows.proofs.Rows.{none_below, rows_at-split, same_sym, same_trans}
use Rattle.erm_replica_rows.proofs.Safe.{one_safe}

-- ---- one reading

-- no part is next after which the rows are sound
abbrev HasNone : Rows → Streamed → Type 0
HasNone rows s = (part : Part) → HasNext s part → IsSound (rows_after part rows) → ⊥

module _ (one : (log : Option LogPlace) (bytes : List ℕ) (a b : Part) → StandsFirst log bytes a → StandsFirst log bytes b → a ≡ b) where
  one_reading : (s t u : Streamed) (ps qs : List Part) (rows : Rows) → Reads s ps t → AreSound rows ps → HasNone (in_turn rows_after ps rows) t
      → Reads s qs u → AreSound rows qs → HasNone (in_turn rows_after qs rows) u → (ps ≡ qs) × (t ≡ u)
  one_reading s t u [] [] rows e sound none f other last = (refl, e ∙ sym f)
  one_reading s t u [] (q ∷ qs) rows e sound none f other last = absurd (none q (subst (λ (x : Streamed). HasNext x q) (sym e) f.0) other.0)
  one_reading s t u (p ∷ ps) [] rows e sound none f other last = absurd (last p (subst (λ (x : Streamed). HasNext x p) (sym f) e.0) sound.0)
  one_reading s t u (p ∷ ps) (q ∷ qs) rows e sound none f other last =
      let same : q ≡ p = one s.log s.rest q p f.0 e.0 in
      let rest =
      one_reading (behind p s) t u ps qs (rows_after p rows) e.1 sound.1 none (subst (λ (x : Part). Reads (behind x s) qs u) same f.1) (subst (λ (x : Part). AreSound (rows_after x rows) qs) same other.1)
      (subst (λ (x : Part). HasNone (in_turn rows_after qs (rows_after x rows)) u) same last) in (
        ap (λ (x : Part). x ∷ ps) (sym same) ∙ ap (λ (xs : List Part). q ∷ xs) rest.0,
        rest.1,
      )

  module _ (short : (log : Option LogPlace) (bytes : List ℕ) (part : Part) → StandsFirst log bytes part → IsShort log bytes → ⊥)
      (unreadable : (log : Option LogPlace) (bytes : List ℕ) (part : Part) → StandsFirst log bytes part → IsUnreadable log bytes → ⊥)
      (either : (log : Option LogPlace) (bytes : List ℕ) → IsShort log bytes → IsUnreadable log bytes → ⊥) where
    short_none : (rows : Rows) (s : Streamed) → IsShort s.log s.rest → HasNone rows s
    short_none rows s is part next sound = short s.log s.rest part next is

    bad_none : (parts : List Part) (s : Streamed) → IsBad parts s → HasNone (rows_behind parts) s
    bad_none parts s bad part next sound = elim bad [
      | inl un ↦ unreadable s.log s.rest part next un
      | inr at ↦ at.2 (subst (λ (p : Part). IsSound (rows_after p (rows_behind parts))) (one s.log s.rest part at.0 next at.1) sound)
    ]

    not_both : (parts : List Part) (s : Streamed) → IsShort s.log s.rest → IsBad parts s → ⊥
    not_both parts s is bad = elim bad [
      | inl un ↦ either s.log s.rest is un
      | inr at ↦ short s.log s.rest at.0 at.1 is
    ]

    one_read : (bytes : List ℕ) (ps qs : List Part) (t u : Streamed) → HasRead bytes ps t → HasNone (rows_behind ps) t → HasRead bytes qs u → HasNone (rows_behind qs) u → (ps ≡ qs) × (t ≡ u)
    one_read bytes ps qs t u a none b last = one_reading (fed start bytes) t u ps qs zero_rows a.reads a.sound none b.reads b.sound last

    pub one_place : (bytes : List ℕ) (a b : ℕ) → IsBadAt bytes a → IsBadAt bytes b → a ≡ b
    one_place bytes a b p q =
        let same = one_read bytes p.parts q.parts p.s q.s p.read (bad_none p.parts p.s p.bad) q.read (bad_none q.parts q.s q.bad) in
        p.place_is ∙ ap (λ (x : Streamed). x.place) same.1 ∙ sym q.place_is

    replica_none : (bytes : List ℕ) (a : Shown) (r : IsReplicaOf bytes a) → HasNone (rows_behind r.parts) r.s
    replica_none bytes a r = elim r.rest [
      | inl is ↦ short_none (rows_behind r.parts) r.s is.0
      | inr is ↦ bad_none r.parts r.s is.0
    ]

    same_rows : (o p : Option ℕ) (a b : Rows) (ps qs : List Part) → o ≡ p → ps ≡ qs → IfSome o (λ safe. SameRows a (rows_at safe ps)) → IfSome p (λ safe. SameRows b (rows_at safe qs)) → IfSome o (λ safe. SameRows a b)
    same_rows None p a b ps qs same parts first second = tt
    same_rows (Some x) None a b ps qs same parts first second = absurd (cc)
    same_rows (Some x) (Some y) a b ps qs same parts first second =
        let equal : y ≡ x = cc in
        same_trans a (rows_at x ps) b first
        (same_sym b (rows_at x ps) (subst (λ (n : ℕ). SameRows b (rows_at n ps)) equal (subst (λ (l : List Part). SameRows b (rows_at y l)) (sym parts) second)))

    pub one_answer : (bytes : List ℕ) (a b : Shown) → IsReplicaOf bytes a → IsReplicaOf bytes b → SameShown a b
    one_answer bytes a b p q =
        let same = one_read bytes p.parts q.parts p.s q.s p.read (replica_none bytes a p) q.read (replica_none bytes b q) in
        let safe : a.safe ≡ b.safe = one_safe q.parts a.safe b.safe (subst (λ (ps : List Part). IsSafeOf ps a.safe) same.0 p.safe) q.safe in
        record {
          stamp = p.stamp ∙ ap (λ (x : Streamed). last_place x.log) same.1 ∙ sym q.stamp;
          safe = safe;
          rest = elim p.rest [
            | inl is ↦ elim q.rest [
              | inl other ↦ is.1 ∙ ap (λ (x : Streamed). length x.rest) same.1 ∙ sym other.1
              | inr bad ↦ absurd (not_both q.parts q.s (subst (λ (x : Streamed). IsShort x.log x.rest) same.1 is.0) bad.0)
            ]
            | inr bad ↦ elim q.rest [
              | inl other ↦ absurd (not_both p.parts p.s (subst (λ (x : Streamed). IsShort x.log x.rest) (sym same.1) other.0) bad.0)
              | inr other ↦ bad.1 ∙ sym other.1
            ]
          ];
          rows = same_rows a.safe b.safe a.rows b.rows p.parts q.parts safe same.0 p.rows q.rows;
        }

    module _ (stays : (log : Option LogPlace) (bytes more : List ℕ) (part : Part) → StandsFirst log bytes part → StandsFirst log (bytes ++ more) part)
        (unreadable_stays : (log : Option LogPlace) (bytes more : List ℕ) → IsUnreadable log bytes → IsUnreadable log (bytes ++ more))
        (within : (log : Option LogPlace) (bytes : List ℕ) (part : Part) → StandsFirst log bytes part → 8 * length (part_words part) ≤ length bytes) where
      -- what was read of the bytes that were taken was read of all
      read_all : (bytes : List ℕ) (r : Replicated) (k : Keeps bytes r) → HasRead bytes (k.holds.below ++ k.holds.others) (fed r.kept.stream k.passed)
      read_all bytes r k =
          let taken : Reads (fed start k.taken) (k.holds.below ++ k.holds.others) r.kept.stream =
          reads_join (fed start k.taken) r.kept.since r.kept.stream k.holds.below k.holds.others k.holds.reads k.holds.goes_on in
          record {
            reads =
                subst (λ (xs : List ℕ). Reads (fed start xs) (k.holds.below ++ k.holds.others) (fed r.kept.stream k.passed)) (sym k.bytes_are)
                (subst (λ (s : Streamed). Reads s (k.holds.below ++ k.holds.others) (fed r.kept.stream k.passed)) (fed_twice start k.taken k.passed)
                (reads_more stays within (fed start k.taken) r.kept.stream (k.holds.below ++ k.holds.others) k.passed taken));
            sound = k.holds.sound;
          }

      bad_stays : (parts : List Part) (s : Streamed) (more : List ℕ) → IsBad parts s → IsBad parts (fed s more)
      bad_stays parts s more bad = elim bad [
        | inl un ↦ inl (unreadable_stays s.log s.rest more un)
        | inr at ↦ inr (at.0, stays s.log s.rest more at.0 at.1, at.2)
      ]

      pub bad_at_stays : (bytes more : List ℕ) (place : ℕ) → IsBadAt bytes place → IsBadAt (bytes ++ more) place
      bad_at_stays bytes more place at = record {
        parts = at.parts;
        s = fed at.s more;
        read = record {
          reads = subst (λ (s : Streamed). Reads s at.parts (fed at.s more)) (fed_twice start bytes more) (reads_more stays within (fed start bytes) at.s at.parts more at.read.reads);
          sound = at.read.sound;
        };
        bad = bad_stays at.parts at.s more at.bad;
        place_is = at.place_is;
      }

      -- where all bytes were taken the next item isn't there yet
      still_short : (s : Streamed) (passed : List ℕ) → passed ≡ [] → IsShort s.log s.rest → (t : Streamed) × (t ≡ fed s passed) × IsShort t.log t.rest × (length t.rest ≡ length s.rest)
      still_short s passed none short_now =
          let rest : s.rest ++ passed ≡ s.rest = ap (λ (xs : List ℕ). s.rest ++ xs) none ∙ append-nil s.rest in
          (fed s passed, refl, subst (λ (xs : List ℕ). IsShort s.log xs) (sym rest) short_now, ap length rest)

      rows_are : (o : Option ℕ) (log : Option LogPlace) (rows below : Rows) → IfSome o (λ b. IsFrom b log) → IfSome log (λ _. SameRows rows below) → IfSome o (λ b. SameRows rows below)
      rows_are None log rows below from same = tt
      rows_are (Some b) None rows below from same = absurd from
      rows_are (Some b) (Some log) rows below from same = same

      safe_rows : (bytes : List ℕ) (r : Replicated) (k : Keeps bytes r) → IfSome r.kept.safe (λ b. SameRows (rows_of r.kept.safe_rows) (rows_at b (k.holds.below ++ k.holds.others)))
      safe_rows bytes r k = at_safe r.kept.safe k.holds.are_below k.holds.from (rows_are r.kept.safe r.kept.since.log (rows_of r.kept.safe_rows) (rows_behind k.holds.below) k.holds.from k.holds.safe_rows)
        where
          at_safe : (o : Option ℕ) → IfSome o (λ b. All (λ part. is_below b part ≡ true) k.holds.below) → IfSome o (λ b. IsFrom b r.kept.since.log) → IfSome o (λ b. SameRows (rows_of r.kept.safe_rows) (rows_behind k.holds.below))
              → IfSome o (λ b. SameRows (rows_of r.kept.safe_rows) (rows_at b (k.holds.below ++ k.holds.others)))
          at_safe None below from same = tt
          at_safe (Some b) below from same =
              subst (λ (x : Rows). SameRows (rows_of r.kept.safe_rows) x)
              (sym (rows_at-split b k.holds.below k.holds.others below (none_below b r.kept.since r.kept.stream k.holds.others k.holds.goes_on from))) same

      pub keeps_bad_at : (bytes : List ℕ) (r : Replicated) → Keeps bytes r → r.is_bad ≡ true → IsBadAt bytes r.kept.stream.place
      keeps_bad_at bytes r k is = record {
        parts = k.holds.below ++ k.holds.others;
        s = fed r.kept.stream k.passed;
        read = read_all bytes r k;
        bad = bad_stays (k.holds.below ++ k.holds.others) r.kept.stream k.passed (k.bad is);
        place_is = refl;
      }

      pub keeps_good_at : (bytes : List ℕ) (r : Replicated) (place : ℕ) → Keeps bytes r → r.is_bad ≡ false → IsBadAt bytes place → ⊥
      keeps_good_at bytes r place k is at =
          let parts : List Part = k.holds.below ++ k.holds.others in
          let here = still_short r.kept.stream k.passed (k.good is).0 (k.good is).1 in
          let same = one_read bytes parts at.parts here.0 at.s (subst (λ (s : Streamed). HasRead bytes parts s) (sym here.1) (read_all bytes r k)) (short_none (rows_behind parts) here.0 here.2) at.read (bad_none at.parts at.s at.bad) in
          not_both at.parts at.s (subst (λ (s : Streamed). IsShort s.log s.rest) same.1 here.2) at.bad

      pub keeps_answers : (bytes : List ℕ) (r : Replicated) → Keeps bytes r → IsReplicaOf bytes (shown r)
      keeps_answers bytes r k = record {
        parts = k.holds.below ++ k.holds.others;
        s = fed r.kept.stream k.passed;
        read = read_all bytes r k;
        stamp = refl;
        safe = k.holds.safe;
        rest = by_case r.is_bad k.good k.bad;
        rows = safe_rows bytes r k;
      }
        where
          by_case : (is_bad : Bool) → (is_bad ≡ false → (k.passed ≡ []) × IsShort r.kept.stream.log r.kept.stream.rest) → (is_bad ≡ true → IsBad (k.holds.below ++ k.holds.others) r.kept.stream)
              → (IsShort r.kept.stream.log (r.kept.stream.rest ++ k.passed) × ((if is_bad then 0 else length r.kept.stream.rest) ≡ length (r.kept.stream.rest ++ k.passed)))
              ⊎ (IsBad (k.holds.below ++ k.holds.others) (fed r.kept.stream k.passed) × ((if is_bad then 0 else length r.kept.stream.rest) ≡ 0))
          by_case false good bad =
              let now = good refl in
              let rest : r.kept.stream.rest ++ k.passed ≡ r.kept.stream.rest = ap (λ (xs : List ℕ). r.kept.stream.rest ++ xs) now.0 ∙ append-nil r.kept.stream.rest in
              inl (subst (λ (xs : List ℕ). IsShort r.kept.stream.log xs) (sym rest) now.1, ap length (sym rest))
          by_case true good bad = inr (bad_stays (k.holds.below ++ k.holds.others) r.kept.stream k.passed (bad refl), refl)
