-- Steps of an active transaction that change its running numbers: a read is registered and rated, a claim is rated.
use Rattle.std.proofs.Common.{◌≡◌, ℕ, ◌-◌, ◌<◌, ◌≤◌, ◌⊎◌, ⊎_elim, Bool, true, false, not, is_none, eqb, ltb, cond, max, List, [], ◌∷◌, ◌++◌, length, get_or, map, Some, refl, sym, ap, ◌∙◌, subst, inl, inr, arith, length-set, get_or-set_same}
use Rattle.std.specs.Prelude.{if◌then◌else◌, slice_index_or}
use Rattle.std.proofs.lemmas.Bool.{and_parts, cases_lt}
use Rattle.std.proofs.lemmas.List.{get_or_append_left, get_or_push, length_push, map-append}
use Rattle.erm_model.specs.declared.history.TransactionRecord.{TransactionRecord}
use Rattle.erm_model.specs.declared.history.VersionRead.{VersionRead}
use Rattle.erm_model.specs.History.{History, Makes, OverwritesReadOf, ReadsFrom}
use Rattle.erm_model.specs.Member.{◌∈◌}
use Rattle.erm_model.proofs.Members.{∈-at}
use Rattle.erm_machine.specs.declared.limits.TheConstants.{OBJECT_LIMIT}
use Rattle.erm_machine.specs.declared.attempt.Attempt.{Attempt}
use Rattle.erm_machine.specs.declared.attempt.Claim.{Claim}
use Rattle.erm_machine.specs.declared.attempt.OwnCell.{OwnCell}
use Rattle.erm_machine.specs.declared.attempt.Read.{Read}
use Rattle.erm_machine.specs.declared.event.Counter.{Counter}
use Rattle.erm_machine.specs.declared.event.Counter.TheVariants.{Objects, Cells}
use Rattle.erm_machine.specs.declared.event.Kind.TheVariants as kind
use Rattle.erm_machine.specs.declared.part.Part.{Part}
use Rattle.erm_machine.specs.declared.task.Task.{Task}
use Rattle.erm_machine.specs.declared.task.Task.TheVariants as task
use Rattle.erm_machine.specs.declared.version.CellWord.{CellWord}
use Rattle.erm_machine.specs.declared.version.CellWord.TheVariants as word
use Rattle.erm_machine.specs.declared.version.VersionAt.{VersionAt}
use Rattle.erm_machine.specs.Cells.{WantsCell}
use Rattle.erm_machine.specs.Chains.{IsNamed, NamedInHand}
use Rattle.erm_machine.specs.Core.{Core, claim_at, no_claim, version_at, spot_of, word_at}
use Rattle.erm_machine.specs.Decided.{bare, read_of, history_of, MarkInHand, IsRead}
use Rattle.erm_machine.specs.Reading.{set_reader, load_active_stamp, add_counter, with_cell}
use Rattle.erm_machine.specs.Seat.{is_active, is_least, with_pred, with_succ, last_claim, read_at, no_read}
use Rattle.erm_machine.specs.Snapshot.{InHand, IsNewestAt, ReadFits}
use Rattle.erm_machine.specs.Sound.{Sound}
use Rattle.erm_machine.specs.Words.{blank_cell}
use Rattle.erm_machine.proofs.Guards.{when_then, either_way}
use Rattle.erm_machine.proofs.Listed.{∈-first, ∈-head, ∈-map_from, ∈-second}
use Rattle.erm_core_ssn.proofs.DecidedVersions.{current_stands, read_stamp, marked_by, made_by, Maker}
use Rattle.erm_core_ssn.proofs.DecidedSteady.{Leaves}
use Rattle.erm_core_ssn.proofs.DecidedActive.{has_cell, ActiveFits, ClaimFrom, ClaimRead, active_moves}
use Rattle.erm_core_ssn.proofs.DecidedBuild.{NotEnds, active_fits, works, retask, none_passing}
use Rattle.erm_core_ssn.proofs.DecidedCalm.{free_from, first}
use Rattle.erm_core_ssn.proofs.DecidedEnds.{claims_same, claims_set, writes_leaves}
use Rattle.erm_core_ssn.proofs.DecidedWitness.{same_is, picks, greater, seats_low, below_tail, From, IsFrom, reader_from}

-- a commit whose stamp counts for the predecessor stamp
abbrev pub IsCounted : History → ℕ → Attempt → ℕ → Type 0
IsCounted h now t found = (found ≡ 0) ⊎ ((u : TransactionRecord) × (u ∈ h) × (u.stamp < now) × (found ≡ u.stamp) × (ReadsFrom (bare t) u ⊎ ClaimFrom t u ⊎ ClaimRead t u))

-- one more stamp counts for the predecessor stamp
raised : (h : History) (now : ℕ) (t : Attempt) (found : ℕ) → IsCounted h now t found → ActiveFits h now t → ActiveFits h now (with_pred found t)
raised h now t found from f =
    ⊎_elim
    (λ (old : (max t.pred found ≡ t.pred) × (found ≤ t.pred)). record {
      succ = f.succ;
      reads = λ k within. let a = f.reads k within in let e = old.0 in omega (arith, a, e);
      pred = ⊎_elim (λ none. inl (old.0 ∙ none)) (λ each. inr (each.0, each.1, each.2, old.0 ∙ each.3, each.4)) f.pred;
    })
    (λ (new : (max t.pred found ≡ found) × (t.pred ≤ found)). record {
      succ = f.succ;
      reads = λ k within. let a = f.reads k within in let e = new.0 in let b = new.1 in omega (arith, a, e, b);
      pred = ⊎_elim (λ none. inl (new.0 ∙ none)) (λ each. inr (each.0, each.1, each.2, new.0 ∙ each.3, each.4)) from;
    })
    (greater t.pred found)

-- one more version is read, whose stamp counts for the predecessor stamp
gained : (h : History) (now : ℕ) (t : Attempt) (r : Read) (stamp : ℕ) → r.stamp ≡ stamp →
    ((stamp ≡ 0) ⊎ ((u : TransactionRecord) × (u ∈ h) × (u.stamp < now) × (stamp ≡ u.stamp) × Makes u r.version.oid)) →
    ActiveFits h now t → ActiveFits h now (record t { pred = max t.pred stamp; reads = t.reads ++ r ∷ [] })
gained h now t r stamp is from f = record {
  succ = ⊎_elim (λ none. inl none) (λ each. inr (each.0, each.1, each.2, (each.3.0, stays each.3.0 each.3.1, each.3.2), each.4)) f.succ;
  reads = λ k within.
      let many = length_push t.reads r in
      let more : t.pred ≤ max t.pred stamp = omega arith in
      let most : stamp ≤ max t.pred stamp = omega arith in
      ⊎_elim
      (λ (old : k < length t.reads).
      let e : (get_or (t.reads ++ r ∷ []) k no_read).stamp ≡ (read_at t k).stamp = ap (λ (b : Read). b.stamp) (get_or_append_left t.reads (r ∷ []) no_read k old) in
      let a = f.reads k old in bounded (get_or (t.reads ++ r ∷ []) k no_read).stamp (read_at t k).stamp t.pred (max t.pred stamp) e a more)
      (λ (late : length t.reads ≤ k).
      let last : length t.reads ≡ k = omega (arith, late, within, many) in
      let e : (get_or (t.reads ++ r ∷ []) k no_read).stamp ≡ r.stamp = ap (λ (b : Read). b.stamp) (get_or_push t.reads r no_read k last) in
      bounded (get_or (t.reads ++ r ∷ []) k no_read).stamp r.stamp stamp (max t.pred stamp) e (omega (arith, is)) most)
      (cases_lt k (length t.reads));
  pred = ⊎_elim
      (λ (old : (max t.pred stamp ≡ t.pred) × (stamp ≤ t.pred)).
      ⊎_elim (λ none. inl (old.0 ∙ none))
      (λ each. inr (
        each.0,
        each.1,
        each.2,
        old.0 ∙ each.3,
        ⊎_elim (λ (from : ReadsFrom (bare t) each.0). inl (from.0, stays from.0 from.1, from.2, from.3)) (λ rest. inr rest) each.4,
      ))
      f.pred)
      (λ (new : (max t.pred stamp ≡ stamp) × (t.pred ≤ stamp)).
      ⊎_elim (λ none. inl (new.0 ∙ none))
      (λ each. inr (
        each.0,
        each.1,
        each.2,
        new.0 ∙ each.3,
        inl (
          read_of r,
          subst (λ (vs : List VersionRead). read_of r ∈ vs) (sym (map-append read_of t.reads (r ∷ []))) (∈-second (map read_of t.reads) (map read_of (r ∷ [])) (read_of r) (∈-head (read_of r) [])),
          is ∙ each.3,
          each.4,
        ),
      ))
      from)
      (greater t.pred stamp);
}
  where
    stays : (v : VersionRead) → v ∈ map read_of t.reads → v ∈ map read_of (t.reads ++ r ∷ [])
    stays v m = subst (λ (vs : List VersionRead). v ∈ vs) (sym (map-append read_of t.reads (r ∷ []))) (∈-first (map read_of t.reads) (map read_of (r ∷ [])) v m)

    bounded : (a b m n : ℕ) → a ≡ b → b ≤ m → m ≤ n → a ≤ n
    bounded a b m n e f g = omega (arith, e, f, g)

not_zero : (n : ℕ) → eqb n 0 ≡ false → 0 < n
not_zero n h = grind arith

-- one more successor stamp is found
chosen : (h : History) (now : ℕ) (t : Attempt) (found from : ℕ) → ((u : TransactionRecord) × (u ∈ h) × (u.stamp < now) × OverwritesReadOf u (bare t) × (found ≡ u.succ)) →
    ActiveFits h now t → ActiveFits h now (with_succ found from t)
chosen h now t found from witness f = record {
  succ = ⊎_elim
      (λ (new : cond (is_least found t) found t.succ ≡ found). inr (witness.0, witness.1, witness.2, witness.3, new ∙ witness.4))
      (λ (old : (cond (is_least found t) found t.succ ≡ t.succ) × (0 < t.succ)).
      ⊎_elim (λ (none : t.succ ≡ 0). absurd (let a = old.1 in omega (arith, a, none))) (λ each. inr (each.0, each.1, each.2, each.3, old.0 ∙ each.4)) f.succ)
      (picks t found).either;
  reads = f.reads;
  pred = f.pred;
}

module _ (c : Core) (p : ℕ) (sound : Sound c) where
  -- what is known of a version in hand that is read
  hand : (t : Task) → (c.seats p).task ≡ t → MarkInHand c.shared (c.seats p).current t
  hand t at = subst (λ (u : Task). MarkInHand c.shared (c.seats p).current u) at (sound.own p).decided.in_hand

  read_fits : (k : ℕ) → k < length (c.seats p).current.reads → ReadFits c.shared (c.seats p).current.begin (read_at (c.seats p).current k)
  read_fits k within = (sound.own p).snapshot.reads (c.seats p).current (read_at (c.seats p).current k) (current_stands (c.seats p)) (∈-at (c.seats p).current.reads k no_read within)

  -- the mark of a version that is read
  registered_leaves : (found : ℕ) (v version : VersionAt) (y : Part) → found ≡ (version_at (c.shared.objects v.oid) v.place).words.overwriter → (c.seats p).task ≡ task.Registered version →
      load_active_stamp found v word.Overwriter (c.seats p) (task.Registered version) ≡ Some y → Leaves c p y
  registered_leaves found v version y is at e =
      when_then (Leaves c p) _ _ y e (λ g.
      let same : v ≡ version = same_is v version g in
      let on : NotEnds (c.seats p).task = subst NotEnds (sym at) tt in
      either_way (λ (u : Task). Leaves c p (record (c.seats p) { task = u })) (eqb found 0) (task.Rated version) (task.Overtaken version found)
      (λ _. retask c p sound _ (task.Rated version) refl refl refl refl on tt (omega arith) (omega arith) (hand (task.Registered version) at)
      (λ q _. none_passing (c.seats q) (task.Rated version) (c.seats p).current (λ _. refl)) (λ q _. tt))
      (λ some. retask c p sound _ (task.Overtaken version found) refl refl refl refl on tt (omega arith) (omega arith)
      (sym (is ∙ ap (λ (w : VersionAt). (version_at (c.shared.objects w.oid) w.place).words.overwriter) same), not_zero found some, hand (task.Registered version) at)
      (λ q _. none_passing (c.seats q) (task.Overtaken version found) (c.seats p).current (λ _. refl)) (λ q _. tt)))

  -- who overwrote a version that is read
  pub overtaker : (v : VersionAt) (mark : ℕ) → (version_at (c.shared.objects v.oid) v.place).words.overwriter ≡ mark → 0 < mark → IsRead (c.seats p).current v →
      (u : TransactionRecord) × (u ∈ history_of c.seats) × (u.stamp ≡ mark) × OverwritesReadOf u (bare (c.seats p).current)
      × ((version_at (c.shared.objects v.oid) v.place).words.overwriter_succ ≡ u.succ)
  overtaker v mark is positive read =
      let k = read.0 in
      let r = read_at (c.seats p).current k in
      let fits = read_fits k read.1 in
      let known = subst (λ (w : VersionAt). w.oid < OBJECT_LIMIT) read.2 fits.named.object in
      let within = subst (λ (w : VersionAt). w.place < length (c.shared.objects w.oid).versions) read.2 fits.named.within in
      let o = marked_by c sound (seats_low c sound) v.oid v.place mark known within is positive in
      let m = ∈-at (c.seats p).current.reads k no_read read.1 in
      let stamp = read_stamp c sound p (c.seats p).current r v.oid v.place (current_stands (c.seats p)) m (ap (λ (w : VersionAt). w.oid) read.2) (ap (λ (w : VersionAt). w.place) read.2) in (
        o.commit,
        o.stands,
        o.stamp_is,
        (
          read_of r,
          ∈-map_from read_of (c.seats p).current.reads r m,
          (o.overwrites.0, o.overwrites.1, o.overwrites.2 ∙ sym (ap (λ (w : VersionAt). w.oid) read.2), o.overwrites.3 ∙ sym stamp),
        ),
        sym o.succ_is,
      )

  overtaken_leaves : (found mark : ℕ) (v version : VersionAt) (y : Part) → is_active (c.seats p).place ≡ true → found ≡ (version_at (c.shared.objects v.oid) v.place).words.overwriter_succ →
      (c.seats p).task ≡ task.Overtaken version mark → load_active_stamp found v word.OverwriterSucc (c.seats p) (task.Overtaken version mark) ≡ Some y → Leaves c p y
  overtaken_leaves found mark v version y active is at e =
      when_then (Leaves c p) _ _ y e (λ g.
      let same : v ≡ version = same_is v version g in
      let h = hand (task.Overtaken version mark) at in
      let o = overtaker version mark h.0 h.1 h.2 in
      works c p sound _ active refl refl refl h.2 (λ _. refl) (λ _. refl) (λ q. tt)
      (λ _. chosen (history_of c.seats) c.shared.tail (c.seats p).current found mark
      (o.0, o.1, below_tail c sound o.0 o.1, o.3, is ∙ (ap (λ (w : VersionAt). (version_at (c.shared.objects w.oid) w.place).words.overwriter_succ) same ∙ o.4))
      (active_fits c p sound active (subst NotEnds (sym at) tt))))

  -- the reader stamp of the version that the newest claim overwrites, in its transaction with the cell
  counted_from : (t : Attempt) (k found : ℕ) → k < length t.writes → has_cell (claim_at t k) ≡ true → (claim_at t k).version ≡ (claim_at (c.seats p).current k).version →
      (claim_at t k).stamp ≡ (claim_at (c.seats p).current k).stamp → IsFrom c (claim_at (c.seats p).current k) found → IsCounted (history_of c.seats) c.shared.tail t found
  counted_from t k found within cell version stamp from =
      ⊎_elim
      (λ (none : found ≡ 0). inl none)
      (λ (each : (u : TransactionRecord) × (u ∈ history_of c.seats) × (found ≡ u.stamp) × From (claim_at (c.seats p).current k) u).
      inr (
        each.0,
        each.1,
        below_tail c sound each.0 each.1,
        each.2,
        inr (⊎_elim
            (λ made. inl (k, within, cell, stamp ∙ made.0, (made.1.0, made.1.1, made.1.2 ∙ sym (ap (λ (v : VersionAt). v.oid) version))))
            (λ read. inr (k, within, cell, (read.0, read.1, read.2 ∙ sym (ap (λ (v : VersionAt). v.oid) version), read.3 ∙ sym stamp)))
            each.3),
      ))
      from

  wants : (t : Task) → (c.seats p).task ≡ t → WantsCell (c.seats p) t
  wants t at = subst (λ (u : Task). WantsCell (c.seats p) u) at (sound.own p).cells.wants

  last_within : 0 < length (c.seats p).current.writes → last_claim (c.seats p).current < length (c.seats p).current.writes
  last_within h = omega (arith, h)

  -- the claim that gets a cell
  cell_at : (own : OwnCell) → 0 < length (c.seats p).current.writes → claim_at (with_cell own (c.seats p).current) (last_claim (c.seats p).current) ≡ record (claim_at (c.seats p).current (last_claim (c.seats p).current)) { own = Some own }
  cell_at own h = get_or-set_same (c.seats p).current.writes (last_claim (c.seats p).current) (record (claim_at (c.seats p).current (last_claim (c.seats p).current)) { own = Some own }) no_claim (last_within h)

  -- a claim is rated as it gets a spare cell
  draws_leaves : (found : ℕ) (v : VersionAt) (y : Part) → is_active (c.seats p).place ≡ true → found ≡ (version_at (c.shared.objects v.oid) v.place).words.reader_stamp →
      (c.seats p).task ≡ task.Draws → load_active_stamp found v word.ReaderStamp (c.seats p) task.Draws ≡ Some y → Leaves c p y
  draws_leaves found v y active is at e =
      let own : OwnCell = slice_index_or (c.seats p).spare (length (c.seats p).spare - 1) (record { cell = 0; words = blank_cell }) in
      let n = last_claim (c.seats p).current in
      when_then (Leaves c p) _ _ y e (λ g.
      let same : v ≡ (claim_at (c.seats p).current n).version = same_is v _ (first _ _ g) in
      let some : 0 < length (c.seats p).current.writes = (wants task.Draws at).0 in
      let within = last_within some in
      let new = cell_at own some in
      let many = length-set (c.seats p).current.writes n (record (claim_at (c.seats p).current n) { own = Some own }) in
      let from = reader_from c p n sound within found (is ∙ ap (λ (w : VersionAt). (version_at (c.shared.objects w.oid) w.place).words.reader_stamp) same) in
      works c p sound _ active refl refl refl tt (λ _. refl) (λ _. refl) (λ q. tt)
      (λ _. raised (history_of c.seats) c.shared.tail (with_cell own (c.seats p).current) found
      (counted_from (with_cell own (c.seats p).current) n found (omega (arith, within, many)) (ap has_cell new) (ap (λ (w : Claim). w.version) new) (ap (λ (w : Claim). w.stamp) new) from)
      (active_moves (history_of c.seats) c.shared.tail (c.seats p).current (with_cell own (c.seats p).current) refl refl refl
      (claims_set (c.seats p).current (with_cell own (c.seats p).current) n (record (claim_at (c.seats p).current n) { own = Some own }) refl (λ _. refl) refl refl) (active_fits c p sound active (subst NotEnds (sym at) tt)))))

  fetched_leaves : (found : ℕ) (v : VersionAt) (y : Part) → is_active (c.seats p).place ≡ true → found ≡ (version_at (c.shared.objects v.oid) v.place).words.reader_stamp →
      (c.seats p).task ≡ task.Fetched → load_active_stamp found v word.ReaderStamp (c.seats p) task.Fetched ≡ Some y → Leaves c p y
  fetched_leaves found v y active is at e =
      let n = last_claim (c.seats p).current in
      when_then (Leaves c p) _ _ y e (λ g.
      let same : v ≡ (claim_at (c.seats p).current n).version = same_is v _ g in
      let h = hand task.Fetched at in
      let within = last_within h.0 in
      let from = reader_from c p n sound within found (is ∙ ap (λ (w : VersionAt). (version_at (c.shared.objects w.oid) w.place).words.reader_stamp) same) in
      works c p sound _ active refl refl refl tt (λ _. refl) (λ _. refl) (λ q. tt)
      (λ _. raised (history_of c.seats) c.shared.tail (c.seats p).current found
      (counted_from (c.seats p).current n found within (ap not h.1) refl refl from) (active_fits c p sound active (subst NotEnds (sym at) tt))))

  pub active_stamp_leaves : (found : ℕ) (v : VersionAt) (w : CellWord) (t : Task) (y : Part) → is_active (c.seats p).place ≡ true → found ≡ word_at c (spot_of p (kind.LoadStamp v w)) → (c.seats p).task ≡ t →
      load_active_stamp found v w (c.seats p) t ≡ Some y → Leaves c p y
  active_stamp_leaves found v word.Overwriter (task.Registered version) y active is at e = registered_leaves found v version y is at e
  active_stamp_leaves found v word.OverwriterSucc (task.Overtaken version mark) y active is at e = overtaken_leaves found mark v version y active is at e
  active_stamp_leaves found v word.ReaderStamp task.Draws y active is at e = draws_leaves found v y active is at e
  active_stamp_leaves found v word.ReaderStamp task.Fetched y active is at e = fetched_leaves found v y active is at e
  active_stamp_leaves found v _ _ y active is at e = absurd (cc)

  -- a counter is raised: an object's number, a cell
  pool_leaves : (found : ℕ) (b : Bool) → is_active (c.seats p).place ≡ true → (c.seats p).task ≡ task.Pool → Leaves c p (record (c.seats p) {
    task = if b then task.Fetched else task.Refused;
    current = record (c.seats p).current {
      writes = if b then (with_cell (record { cell = found; words = blank_cell }) (c.seats p).current).writes else (c.seats p).current.writes;
    };
  })
  pool_leaves found true active at =
      let own : OwnCell = record { cell = found; words = blank_cell } in
      let n = last_claim (c.seats p).current in
      let some : 0 < length (c.seats p).current.writes = (wants task.Pool at).0 in
      let many = length-set (c.seats p).current.writes n (record (claim_at (c.seats p).current n) { own = Some own }) in
      let last : last_claim (with_cell own (c.seats p).current) ≡ n = ap (λ k. k - 1) many in
      works c p sound _ active refl refl refl
      (omega (arith, some, many), ap (λ k. is_none (claim_at (with_cell own (c.seats p).current) k).own) last ∙ ap (λ (w : Claim). is_none w.own) (cell_at own some))
      (λ _. refl) (λ _. refl) (λ q. tt)
      (λ _. active_moves (history_of c.seats) c.shared.tail (c.seats p).current (with_cell own (c.seats p).current) refl refl refl
      (claims_set (c.seats p).current (with_cell own (c.seats p).current) n (record (claim_at (c.seats p).current n) { own = Some own }) refl (λ _. refl) refl refl) (active_fits c p sound active (subst NotEnds (sym at) tt)))
  pool_leaves found false active at =
      writes_leaves c p sound _ active (subst NotEnds (sym at) tt) refl refl refl refl refl refl (claims_same (c.seats p).current _ refl) (free_from _ tt)

  pub add_counter_leaves : (cells : ℕ) (n : Counter) (found : ℕ) (t : Task) (y : Part) → (c.seats p).task ≡ t → add_counter cells p n found (c.seats p) t ≡ Some y → Leaves c p y
  add_counter_leaves cells Objects found task.Numbers y at e =
      when_then (Leaves c p) _ _ y e (λ g.
      writes_leaves c p sound _ (first _ _ g) (subst NotEnds (sym at) tt) refl refl refl refl refl refl (claims_same (c.seats p).current _ refl) (free_from _ tt))
  add_counter_leaves cells Cells found task.Pool y at e = when_then (Leaves c p) _ _ y e (λ g. pool_leaves found (ltb found cells) g at)
  add_counter_leaves cells Objects found _ y at e = absurd (cc)
  add_counter_leaves cells Cells found _ y at e = absurd (cc)

  -- a version is registered
  pub set_reader_leaves : (v : VersionAt) (t : Task) (y : Part) → (c.seats p).task ≡ t → set_reader p v (c.shared.objects v.oid) (c.seats p) t ≡ Some y → Leaves c p y
  set_reader_leaves v (task.Found version stamp head) y at e =
      let t = (c.seats p).current in
      let new : Read = record { version = v; stamp = stamp; row = (version_at (c.shared.objects v.oid) v.place).words.row } in
      when_then (Leaves c p) _ _ y e (λ g.
      let active : is_active (c.seats p).place ≡ true = first _ _ (first _ _ (first _ _ (first _ _ g))) in
      let same : version ≡ v = sym (same_is v version (and_parts _ _ (and_parts _ _ (first _ _ g)).0).1) in
      let named = subst (λ (w : VersionAt). IsNamed c.shared w) same (subst (λ (u : Task). NamedInHand c.shared u) at (sound.own p).chains.named) in
      let newest = subst (λ (w : VersionAt). IsNewestAt (c.shared.objects w.oid) w.place t.begin stamp) same (subst (λ (u : Task). InHand c.shared t.begin u) at (sound.own p).snapshot.in_hand) in
      let fits = active_fits c p sound active (subst NotEnds (sym at) tt) in
      let many = length_push t.reads new in
      works c p sound _ active refl refl refl
      (length t.reads, omega (arith, many), ap (λ (r : Read). r.version) (get_or_push t.reads new no_read (length t.reads) refl))
      (λ _. refl) (λ _. refl) (λ q. tt)
      (λ _. gained (history_of c.seats) c.shared.tail t new stamp refl (creator v stamp named newest) fits))
    where
      creator : (v : VersionAt) (stamp : ℕ) → IsNamed c.shared v → IsNewestAt (c.shared.objects v.oid) v.place (c.seats p).current.begin stamp →
          (stamp ≡ 0) ⊎ ((u : TransactionRecord) × (u ∈ history_of c.seats) × (u.stamp < c.shared.tail) × (stamp ≡ u.stamp) × Makes u v.oid)
      creator v stamp named newest =
          ⊎_elim
          (λ (none : (version_at (c.shared.objects v.oid) v.place).words.stamp ≡ 0). inl (sym newest.stamp_is ∙ none))
          (λ (m : Maker c v.oid (version_at (c.shared.objects v.oid) v.place).words.stamp). inr (m.commit, m.stands, below_tail c sound m.commit m.stands, sym newest.stamp_is ∙ sym m.stamp_is, m.makes))
          (made_by c sound (seats_low c sound) v.oid v.place named.object newest.within)
  set_reader_leaves v _ y at e = absurd (cc)
