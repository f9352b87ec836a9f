-- Each event keeps a law of rows, where a range is drawn for a lawful transaction alone.
use Rattle.std.proofs.Common.{◌≡◌, ℕ, ◌+◌, ◌<◌, ◌≤◌, ⊎_elim, Bool, true, false, List, map, Option, Some, None, refl, sym, ap, subst, arith}
use Rattle.std.specs.Prelude.{if◌then◌else◌}
use Rattle.std.proofs.Math.Path.{fun_ext}
use Rattle.std.proofs.lemmas.Option.{same_Some}
use Rattle.erm_model.specs.declared.history.TransactionRecord.{TransactionRecord}
use Rattle.erm_model.specs.declared.history.VersionRead.{VersionRead}
use Rattle.erm_model.specs.declared.history.VersionWritten.{VersionWritten}
use Rattle.erm_model.specs.History.{after_writes}
use Rattle.erm_model.specs.Lawful.{Fits, IsLawfulRecord, times_made}
use Rattle.erm_model.specs.Member.{◌∈◌}
use Rattle.erm_model.specs.RowTransaction.{Law}
use Rattle.erm_model.specs.Rows.{Rows}
use Rattle.erm_model.proofs.Members.{∈-push}
use Rattle.erm_machine.specs.declared.attempt.Attempt.{Attempt}
use Rattle.erm_machine.specs.declared.event.Kind.{Kind}
use Rattle.erm_machine.specs.declared.event.Kind.TheVariants as kind
use Rattle.erm_machine.specs.declared.part.Part.{Part}
use Rattle.erm_machine.specs.declared.place.Place.{Place}
use Rattle.erm_machine.specs.declared.place.Place.TheVariants.{Sealing}
use Rattle.erm_machine.specs.Core.{Core, Shared, spot_of, word_at}
use Rattle.erm_machine.specs.Decided.{read_of, record_of}
use Rattle.erm_machine.specs.Facts.{all_of}
use Rattle.erm_machine.specs.Lawful.{DrawsLawfully, Lawful, opening_rows}
use Rattle.erm_machine.specs.Life.{add_tail, split, join}
use Rattle.erm_machine.specs.Seat.{with_range}
use Rattle.erm_machine.specs.Sound.{Sound}
use Rattle.erm_machine.specs.Step.{after_event, shared_after, with_part}
use Rattle.erm_machine.specs.Words.{put}
use Rattle.erm_machine.proofs.Frames.{each_seat}
use Rattle.erm_machine.proofs.Guards.{when_then}
use Rattle.erm_machine.proofs.OpeningRows.{HasVersion, first_row, first_stays, installs_version, rows_stay}
use Rattle.erm_machine.proofs.QuietKinds.{IsQuiet, MeetsOne, Moves, moves, quiet_kind}
use Rattle.erm_core_lives.proofs.Lasting.{SameRecord, lasting_kind}
use Rattle.erm_core_lives.proofs.LivesLists.{∈-front}
use Rattle.erm_core_lives.proofs.Recalls.{Recalled, Recalls, recalls_steady, r_load_tail, r_store_begin, r_store_state, r_load_begin, r_load_state, r_split, r_join, r_decide}

module _ (law : Law) where
  -- A record is as lawful as one with the same reads, writes and objects made.
  fits_same : (r u : TransactionRecord) (rows : Rows) → u.reads ≡ r.reads → u.writes ≡ r.writes → u.made ≡ r.made → Fits law u rows → Fits law r rows
  fits_same r u rows reads writes made f = record {
    meets = f.meets;
    reads = subst (λ (vs : List VersionRead). (v : VersionRead) → v ∈ vs → rows v.oid ≡ v.row) reads f.reads;
    claims = subst (λ (ws : List VersionWritten). (w : VersionWritten) → w ∈ ws → rows w.oid ≡ w.base) writes f.claims;
    unreached = subst (λ (ms : List ℕ). (x : ℕ) → 0 < times_made ms x → law.reach rows x ≡ 0) made f.unreached;
  }

  lawful_same : (r u : TransactionRecord) → u.reads ≡ r.reads → u.writes ≡ r.writes → u.made ≡ r.made → IsLawfulRecord law r → IsLawfulRecord law u
  lawful_same r u reads writes made l = record {
    meets = λ rows f. subst (λ (ws : List VersionWritten). law.meets (after_writes ws rows)) (sym writes) (l.meets rows (fits_same r u rows reads writes made f));
    reach = λ rows x f.
        subst (λ (ws : List VersionWritten). law.reach (after_writes ws rows) x ≤ law.reach rows x + times_made u.made x) (sym writes)
        (subst (λ (ms : List ℕ). law.reach (after_writes r.writes rows) x ≤ law.reach rows x + times_made ms x) (sym made) (l.reach rows x (fits_same r u rows reads writes made f)));
  }

  record_same : (seat : ℕ) (t u : Attempt) → SameRecord t u → IsLawfulRecord law (record_of seat t) → IsLawfulRecord law (record_of seat u)
  record_same seat t u same l = lawful_same (record_of seat t) (record_of seat u) (ap (λ rs. map read_of rs) same.reads) same.writes same.made l

  -- the transactions of a seat that have a stamp are lawful
  abbrev AllLawful : ℕ → Part → Type 0
  AllLawful seat x = (t : Attempt) → t ∈ all_of x → 0 < t.stamp → IsLawfulRecord law (record_of seat t)

  recalled_lawful : (seat : ℕ) (x y : Part) → Recalls x y → AllLawful seat x → AllLawful seat y
  recalled_lawful seat x y r old t m drawn =
      ⊎_elim (λ (none : t.stamp ≡ 0). absurd (omega (arith, none, drawn)))
      (λ (b : Recalled x t). let stamp = b.stamp in record_same seat b.attempt t b.same (old b.attempt b.stands (omega (arith, stamp, drawn))))
      (r.recalls t m)

  -- a state whose rows found at opening are those of a lawful one
  law_from : (c : Core) (p : ℕ) (y : Part) (t : Shared) (d : Core) → Lawful law c.shared c.seats → t.first ≡ c.shared.first
      → ((oid : ℕ) → first_row (t.objects oid) ≡ first_row (c.shared.objects oid)) → AllLawful p y → record { shared = t; seats = put c.seats p y } ≡ d → Lawful law d.shared d.seats
  law_from c p y t d old first rows new is =
      let same : opening_rows t ≡ opening_rows c.shared = fun_ext rows in
      subst (λ (e : Core). Lawful law e.shared e.seats) is (record {
        opening = subst (λ (r : Rows). law.meets r) (sym same) old.opening;
        below = λ oid above. subst (λ (r : Rows). law.reach r oid ≡ 0) (sym same) (old.below oid (omega (arith, above, first)));
        lawful = each_seat (λ q (z : Part). AllLawful q z) c.seats p y new (λ q _. old.lawful q);
      })

  -- a step that meets one word and draws no range
  law_moved : (c : Core) (p : ℕ) (k : Kind) (d : Core) → Lawful law c.shared c.seats → HasVersion k c.shared → (m : Moves c p k d) → Recalls (c.seats p) m.part → Lawful law d.shared d.seats
  law_moved c p k d old has m r =
      let found : ℕ = word_at c (spot_of p k) in
      law_from c p m.part (shared_after p k found (c.seats p) c.shared) d old (first_stays p k found (c.seats p) c.shared)
      (λ oid. rows_stay p k found (c.seats p) c.shared oid has) (recalled_lawful p (c.seats p) m.part r (old.lawful p)) (sym m.is)

  -- a part of one seat changes, and nothing that is shared
  law_part : (c : Core) (p : ℕ) (y : Part) (d : Core) → Lawful law c.shared c.seats → Recalls (c.seats p) y → record c { seats = put c.seats p y } ≡ d → Lawful law d.shared d.seats
  law_part c p y d old r is = law_from c p y c.shared d old refl (λ oid. refl) (recalled_lawful p (c.seats p) y r (old.lawful p)) is

  -- the transaction that draws is lawful, by its caller's promise
  drawn_lawful : (c : Core) (p size found : ℕ) (x : Part) (pl : Place) (y : Part) → AllLawful p x → IsLawfulRecord law (record_of p x.current) → add_tail p size found x pl ≡ Some y → AllLawful p y
  drawn_lawful c p size found x (Sealing tail) y old lawful e =
      when_then (AllLawful p) _ _ y e (λ _ t m drawn.
      ⊎_elim (λ (before : t ∈ x.over). old t (∈-front x.over x.current t before) drawn)
      (λ (same : t ≡ with_range found size x.current).
      subst (λ (a : Attempt). IsLawfulRecord law (record_of p a)) (sym same) (record_same p x.current (with_range found size x.current) (record { reads = refl; writes = refl; made = refl }) lawful))
      (∈-push x.over (with_range found size x.current) t m))
  drawn_lawful c p size found x _ y old lawful e = absurd (cc)

  draw_kept : (c : Core) (p size : ℕ) (d : Core) → Lawful law c.shared c.seats → IsLawfulRecord law (record_of p (c.seats p).current) → Moves c p (kind.AddTail size) d → Lawful law d.shared d.seats
  draw_kept c p size d old lawful m =
      law_from c p m.part (shared_after p (kind.AddTail size) c.shared.tail (c.seats p) c.shared) d old refl (λ oid. refl)
      (drawn_lawful c p size c.shared.tail (c.seats p) (c.seats p).place m.part (old.lawful p) lawful m.after) (sym m.is)

  split_kept : (c : Core) (p other : ℕ) (d : Core) → Lawful law c.shared c.seats → after_event c p (kind.Split other) ≡ Some d → Lawful law d.shared d.seats
  split_kept c p other d old e = by_test _ e
    where
      from : (o : Option Part) → split (c.seats p) (c.seats other) ≡ o → with_part c other o ≡ Some d → Lawful law d.shared d.seats
      from None at e = absurd (cc)
      from (Some y) at e = law_part c other y d old (r_split (c.seats p) (c.seats other) y at) (same_Some _ _ e)

      by_test : (b : Bool) → (if b then with_part c other (split (c.seats p) (c.seats other)) else None) ≡ Some d → Lawful law d.shared d.seats
      by_test true e = from _ refl e
      by_test false e = absurd (cc)

  join_kept : (c : Core) (p other : ℕ) (d : Core) → Lawful law c.shared c.seats → after_event c p (kind.Join other) ≡ Some d → Lawful law d.shared d.seats
  join_kept c p other d old e = by_test _ e
    where
      from : (o : Option Part) → join (c.seats p) (c.seats other) ≡ o → with_part c p o ≡ Some d → Lawful law d.shared d.seats
      from None at e = absurd (cc)
      from (Some y) at e = law_part c p y d old (r_join (c.seats p) (c.seats other) y at) (same_Some _ _ e)

      by_test : (b : Bool) → (if b then None else with_part c p (join (c.seats p) (c.seats other))) ≡ Some d → Lawful law d.shared d.seats
      by_test true e = absurd (cc)
      by_test false e = from _ refl e

  quiet_kept : (c : Core) (p : ℕ) (k : Kind) (d : Core) → IsQuiet k → MeetsOne k → HasVersion k c.shared → Sound c → Lawful law c.shared c.seats → after_event c p k ≡ Some d → Lawful law d.shared d.seats
  quiet_kept c p k d quiet one has sound old e =
      let m = moves c p k d one e in
      let found : ℕ = word_at c (spot_of p k) in
      law_moved c p k d old has m
      (recalls_steady (c.seats p) m.part (sound.own p).ranges.current (quiet_kind p k found c.shared (c.seats p) m.part quiet m.after).steady
      (lasting_kind p k found c.shared (c.seats p) m.part quiet m.after))

  -- Each event keeps the law.
  pub law_kept : (c : Core) (p : ℕ) (k : Kind) (d : Core) → Sound c → Lawful law c.shared c.seats → DrawsLawfully law c p k → after_event c p k ≡ Some d → Lawful law d.shared d.seats
  law_kept c p (kind.LoadTail reason) d sound old draws e =
      let m = moves c p (kind.LoadTail reason) d tt e in law_moved c p (kind.LoadTail reason) d old tt m (r_load_tail p reason c.shared.tail (c.seats p) m.part m.after)
  law_kept c p (kind.AddTail size) d sound old draws e = draw_kept c p size d old draws (moves c p (kind.AddTail size) d tt e)
  law_kept c p (kind.StoreBegin value) d sound old draws e =
      let m = moves c p (kind.StoreBegin value) d tt e in law_moved c p (kind.StoreBegin value) d old tt m (r_store_begin p value (c.seats p) (c.seats p).place m.part m.after)
  law_kept c p (kind.StoreState value) d sound old draws e =
      let m = moves c p (kind.StoreState value) d tt e in law_moved c p (kind.StoreState value) d old tt m (r_store_state p value (c.seats p) (c.seats p).place m.part m.after)
  law_kept c p (kind.LoadBegin other) d sound old draws e =
      let m = moves c p (kind.LoadBegin other) d tt e in law_moved c p (kind.LoadBegin other) d old tt m (r_load_begin p other (word_at c (spot_of p (kind.LoadBegin other))) (c.seats p) (c.seats p).task m.part m.after)
  law_kept c p (kind.LoadState other bound) d sound old draws e =
      let m = moves c p (kind.LoadState other bound) d tt e in law_moved c p (kind.LoadState other bound) d old tt m (r_load_state p other bound (word_at c (spot_of p (kind.LoadState other bound))) (c.seats p) m.part m.after)
  law_kept c p (kind.Split other) d sound old draws e = split_kept c p other d old e
  law_kept c p (kind.Join other) d sound old draws e = join_kept c p other d old e
  law_kept c p (kind.Decide at header) d sound old draws e =
      let m = moves c p (kind.Decide at header) d tt e in law_moved c p (kind.Decide at header) d old tt m (r_decide at header (c.seats p) (c.seats p).place (c.seats p).task m.part m.after)
  law_kept c p (kind.Install oid head) d sound old draws e = quiet_kept c p (kind.Install oid head) d tt tt (installs_version c p oid head d sound e) sound old e
  law_kept c p k d sound old draws e = quiet_kept c p k d tt tt tt sound old e
