-- A whole write: after all words of a row its claim has that row.
use Rattle.std.proofs.Common.{◌≡◌, ◌≢◌, ℕ, ◌+◌, ◌<◌, ◌≤◌, ◌==◌, eqb, ◌++◌, ⊎_elim, true, false, cond, List, [], ◌∷◌, length, get_or, set, take, map, Option, Some, None, refl, sym, ap, ◌∙◌, subst, arith, length-set, get_or-set_same, get_or-set_other, append-nil, append_assoc}
use Rattle.std.specs.Prelude.{if◌then◌else◌}
use Rattle.std.proofs.Math.ListN as listn
use Rattle.std.proofs.lemmas.Bool.{and_from, cases_eq, cases_lt, cond-false, cond-true, eq-eqb, lt-ltb, ne_eqb}
use Rattle.std.proofs.lemmas.List.{ext_get_or, get_or-map, length-map, set-set, take_all, take_more_set}
use Rattle.std.proofs.Math.Seq.{map-set}
use Rattle.erm_model.specs.declared.TheConstants.{ROW_WORDS}
use Rattle.erm_model.specs.declared.history.VersionWritten.{VersionWritten}
use Rattle.erm_machine.specs.declared.attempt.Claim.{Claim}
use Rattle.erm_machine.specs.declared.attempt.OwnCell.{OwnCell}
use Rattle.erm_machine.specs.declared.event.Kind.TheVariants as kind
use Rattle.erm_machine.specs.declared.part.Part.{Part}
use Rattle.erm_machine.specs.declared.task.Task.{Task}
use Rattle.erm_machine.specs.declared.task.Task.TheVariants as task
use Rattle.erm_machine.specs.declared.version.CellWord.TheVariants as word
use Rattle.erm_machine.specs.Core.{Core, claim_at, no_claim, spot_of, word_at}
use Rattle.erm_machine.specs.Decided.{written_of}
use Rattle.erm_machine.specs.Reading.{start_row, store_row_word, stored_row, with_own_word}
use Rattle.erm_machine.specs.Seat.{is_active, is_own, may_start, with_claim}
use Rattle.erm_machine.specs.Settling.{store_cell, store_head_word}
use Rattle.erm_machine.specs.Sound.{Sound}
use Rattle.erm_machine.specs.Step.{after_event, moved, run_from}
use Rattle.erm_machine.specs.Words.{put}
use Rattle.erm_machine.proofs.Frames.{put_same}
use Rattle.erm_machine.proofs.Holders.{stands_in}
use Rattle.erm_world.specs.Calls.{Works}
use Rattle.erm_world.specs.Saves.{with_claims}
use Rattle.erm_world.specs.Works.{setting, with_row}
use Rattle.erm_world.specs.World.{Work, work_at}
use Rattle.erm_core_view.specs.Steps.{MayWrite, RestsAt, stores_from}
use Rattle.erm_core_view.specs.Views.{view_of, work_of}
use Rattle.erm_core_view.proofs.Chained.{Alone, alone_put, alone_shows, alone_then, pin_same, taken}
use Rattle.erm_core_view.proofs.Parts.{current_stands}
use Rattle.erm_core_view.proofs.Shown.{shows_work, work_active, working}
use Rattle.erm_core_view.proofs.Snapshots.{starts_new}

-- a write has come to this word
abbrev pub Ready : (place k : ℕ) → Task → Type 0
Ready place k (task.Writes claim w) = (place ≡ claim) × (k ≡ w)
Ready place k t = (may_start t ≡ true) × (k ≡ 0)

-- what it does next
abbrev pub next_word : (place k : ℕ) → Task
next_word place k = if (k + 1) == 16 then task.Rest else task.Writes place (k + 1)

-- the part after one word
abbrev pub after_word : (place k value : ℕ) → Part → Part
after_word place k value x = record x { task = next_word place k; current = stored_row place k value true x.current }

starts_word : (place cell k value : ℕ) (x : Part) (t : Task) → may_start t ≡ true → k ≡ 0 → place < length x.current.writes → is_own cell (claim_at x.current place).own ≡ true
    → start_row place cell k value x t ≡ Some (after_word place k value x)
starts_word place cell k value x t starts is within own =
    cond-true _ _ _ (and_from _ _ (and_from _ _ (and_from _ _ starts (lt-ltb _ _ within)) own) (eq-eqb k 0 is))
    ∙ ap (λ (n : ℕ). Some (record x { task = next_word place n; current = stored_row place k value true x.current })) (sym is)

takes_word : (place cell k value : ℕ) (x : Part) (t : Task) → Ready place k t → k < 16 → place < length x.current.writes → is_own cell (claim_at x.current place).own ≡ true
    → store_row_word place cell k value x t ≡ Some (after_word place k value x)
takes_word place cell k value x (task.Writes claim w) ready below within own =
    cond-true _ _ _ (and_from _ _ (and_from _ _ (and_from _ _ (eq-eqb place claim ready.0) own) (eq-eqb k w ready.1)) (lt-ltb k 16 below))
    ∙ ap (λ (u : Task). Some (record x { task = u; current = stored_row place k value true x.current })) (same_task claim w ready.0 ready.1)
  where
    same_task : (claim w : ℕ) → place ≡ claim → k ≡ w → (if (w + 1) == 16 then task.Rest else task.Writes claim (w + 1)) ≡ next_word place k
    same_task claim w one two = cc
takes_word place cell k value x (task.Copies w) ready below within own = absurd (cc)
takes_word place cell k value x t ready below within own = starts_word place cell k value x t ready.0 ready.1 within own

takes_cell : (place cell k value : ℕ) (x : Part) → is_active x.place ≡ true → Ready place k x.task → k < 16 → place < length x.current.writes → is_own cell (claim_at x.current place).own ≡ true
    → store_cell place cell (word.Row k) value x ≡ Some (after_word place k value x)
takes_cell place cell k value x active ready below within own =
    cond-true (is_active x.place) (store_row_word place cell k value x x.task) (store_head_word place cell (word.Row k) value x x.task) active
    ∙ takes_word place cell k value x x.task ready below within own

-- the own cell stays
pub still_own : (cell k value : ℕ) (own : Option OwnCell) → is_own cell own ≡ true → is_own cell (with_own_word (word.Row k) value own) ≡ true
still_own cell k value None is = absurd (cc)
still_own cell k value (Some own) is = is

-- a row with words set from the k-th on
abbrev words_set : ℕ → List ℕ → List ℕ → List ℕ
words_set k [] row = row
words_set k (v ∷ vs) row = words_set (k + 1) vs (set row k v)

words_set_all : (k : ℕ) (vs row : List ℕ) → length row ≡ k + length vs → words_set k vs row ≡ take k row ++ vs
words_set_all k [] row long = sym (append-nil (take k row) ∙ take_all k row (omega (arith, long)))
words_set_all k (v ∷ vs) row long =
    let within : k < length row = omega (arith, long) in
    let long_still : length (set row k v) ≡ k + 1 + length vs = let n = length-set row k v in omega (arith, n, long) in
    words_set_all (k + 1) vs (set row k v) long_still ∙ ap (λ (front : List ℕ). front ++ vs) (take_more_set row k v within) ∙ append_assoc (take k row) (v ∷ []) vs

-- a claim whose row is this one, set by a write
record HasRow (w : Claim) (row : List ℕ) (new : Claim) : Type 0 where
  has : written_of new ≡ record (written_of w) { row = row; is_set = true }

-- the claim at a place has become one with this row, and the seat rests
record RowStored (seat place : ℕ) (row : List ℕ) (c : Core) (x : Part) (d : Core) : Type 0 where
  new : Claim
  has : HasRow (claim_at x.current place) row new
  alone : Alone seat c (record x { task = task.Rest; current = with_claim place new x.current }) d

-- the state after one word
abbrev pub after_one : (seat place k value : ℕ) → Core → Part → Core
after_one seat place k value c x = record { shared = c.shared; seats = put c.seats seat (after_word place k value x) }

pub goes_one : (seat place cell k value : ℕ) (c : Core) (x : Part) → c.seats seat ≡ x → is_active x.place ≡ true → Ready place k x.task → k < 16
    → place < length x.current.writes → is_own cell (claim_at x.current place).own ≡ true
    → after_event c seat (kind.StoreCell place cell (word.Row k) value) ≡ Some (after_one seat place k value c x)
goes_one seat place cell k value c x is active ready below within own =
    let found : ℕ = word_at c (spot_of seat (kind.StoreCell place cell (word.Row k) value)) in
    ap (λ (o : Option Part). moved seat (kind.StoreCell place cell (word.Row k) value) found c o)
    (ap (λ (y : Part). store_cell place cell (word.Row k) value y) is ∙ takes_cell place cell k value x active ready below within own)

-- the claim after one word
abbrev pub claim_then : (k value : ℕ) → Claim → Claim
claim_then k value w = record w { row = set w.row k value; own = with_own_word (word.Row k) value w.own; is_set = true }

-- after the last word the write is done
last_word : (seat place k value : ℕ) (c : Core) (x : Part) → k + 1 ≡ 16 → RowStored seat place (set (claim_at x.current place).row k value) c x (after_one seat place k value c x)
last_word seat place k value c x last =
    let rests : next_word place k ≡ task.Rest = cond-true (eqb (k + 1) 16) task.Rest (task.Writes place (k + 1)) (eq-eqb (k + 1) 16 last) in
    record {
      new = claim_then k value (claim_at x.current place);
      has = record { has = refl };
      alone = subst (λ (u : Task). Alone seat c (record x { task = u; current = stored_row place k value true x.current }) (after_one seat place k value c x)) rests
          (alone_put seat c (after_word place k value x));
    }

-- the words that follow one
words_follow : (seat place k value : ℕ) (vs : List ℕ) (c : Core) (x : Part) (d : Core) → place < length x.current.writes
    → RowStored seat place (words_set (k + 1) vs (claim_at (after_word place k value x).current place).row) (after_one seat place k value c x) (after_word place k value x) d
    → RowStored seat place (words_set k (value ∷ vs) (claim_at x.current place).row) c x d
words_follow seat place k value vs c x d within rest =
    let w = claim_at x.current place in
    let here : claim_at (after_word place k value x).current place ≡ claim_then k value w = get_or-set_same x.current.writes place (claim_then k value w) no_claim within in
    record {
      new = rest.new;
      has = record { has = subst (λ (u : Claim). written_of rest.new ≡ record (written_of u) { row = words_set (k + 1) vs u.row; is_set = true }) here rest.has.has };
      alone = subst (λ (ws : List Claim). Alone seat c (record x { task = task.Rest; current = record x.current { writes = ws } }) d) (set-set x.current.writes place (claim_then k value w) rest.new)
          (alone_then seat c (after_word place k value x) (after_one seat place k value c x) (record (after_word place k value x) { task = task.Rest; current = with_claim place rest.new (after_word place k value x).current }) d
          (alone_put seat c (after_word place k value x)) rest.alone);
    }

-- the words of a row from the k-th on, one after another
stores : (seat place cell value : ℕ) (vs : List ℕ) (k : ℕ) (c : Core) (x : Part) → c.seats seat ≡ x → is_active x.place ≡ true → Ready place k x.task → k + 1 + length vs ≡ 16
    → place < length x.current.writes → is_own cell (claim_at x.current place).own ≡ true
    → RowStored seat place (words_set k (value ∷ vs) (claim_at x.current place).row) c x (run_from c (stores_from seat place cell k (value ∷ vs)))
stores seat place cell value [] k c x is active ready long within own =
    let goes = goes_one seat place cell k value c x is active ready (omega (arith, long)) within own in
    subst (λ (d : Core). RowStored seat place (set (claim_at x.current place).row k value) c x d)
    (sym (taken c (after_one seat place k value c x) seat (kind.StoreCell place cell (word.Row k) value) [] goes))
    (last_word seat place k value c x (omega (arith, long)))
stores seat place cell value (v ∷ vs) k c x is active ready long within own =
    let goes = goes_one seat place cell k value c x is active ready (omega (arith, long)) within own in
    let y = after_word place k value x in
    let d = after_one seat place k value c x in
    let w = claim_at x.current place in
    let here : claim_at y.current place ≡ claim_then k value w = get_or-set_same x.current.writes place (claim_then k value w) no_claim within in
    let more : eqb (k + 1) 16 ≡ false = ne_eqb (k + 1) 16 (λ (e : k + 1 ≡ 16). omega (arith, e, long)) in
    let writes : next_word place k ≡ task.Writes place (k + 1) = cond-false (eqb (k + 1) 16) task.Rest (task.Writes place (k + 1)) more in
    let ready_next : Ready place (k + 1) y.task = subst (Ready place (k + 1)) (sym writes) (refl, refl) in
    let within_next : place < length y.current.writes = let n = length-set x.current.writes place (claim_then k value w) in omega (arith, n, within) in
    let own_next : is_own cell (claim_at y.current place).own ≡ true = subst (λ (u : Claim). is_own cell u.own ≡ true) (sym here) (still_own cell k value w.own own) in
    subst (λ (e : Core). RowStored seat place (words_set k (value ∷ v ∷ vs) w.row) c x e)
    (sym (taken c d seat (kind.StoreCell place cell (word.Row k) value) (stores_from seat place cell (k + 1) (v ∷ vs)) goes))
    (words_follow seat place k value (v ∷ vs) c x (run_from d (stores_from seat place cell (k + 1) (v ∷ vs))) within
    (stores seat place cell v vs (k + 1) d y (put_same c.seats seat y) active ready_next (omega (arith, long)) within_next own_next))

-- where a call may start a write may, at its first word
pub ready_first : (place : ℕ) (t : Task) → may_start t ≡ true → Ready place 0 t
ready_first place (task.Writes claim w) starts = absurd (cc)
ready_first place t starts = (starts, refl)

whole_row : (seat place cell : ℕ) (row : List ℕ) (c : Core) → MayWrite (c.seats seat) place cell → length row ≡ ROW_WORDS
    → RowStored seat place (words_set 0 row (claim_at (c.seats seat).current place).row) c (c.seats seat) (run_from c (stores_from seat place cell 0 row))
whole_row seat place cell [] c may words = absurd (omega (arith, words))
whole_row seat place cell (value ∷ vs) c may words =
    stores seat place cell value vs 0 c (c.seats seat) refl may.active (ready_first place (c.seats seat).task may.starts) (omega (arith, words)) may.claimed may.own

pub writes_rest : (seat place cell : ℕ) (row : List ℕ) (c : Core) → MayWrite (c.seats seat) place cell → length row ≡ ROW_WORDS
    → RestsAt seat (c.seats seat).place (run_from c (stores_from seat place cell 0 row))
writes_rest seat place cell row c may words =
    let own = (whole_row seat place cell row c may words).alone.own in
    record { place = ap (λ (y : Part). y.place) own; rests = ap (λ (y : Part). y.task) own }

-- the claim of an object has this row now, and the others are as they were
pub hit : (oid : ℕ) (row : List ℕ) (v : VersionWritten) → v.oid ≡ oid → with_row oid row v ≡ record v { row = row; is_set = true }
hit oid row v same =
    let is : eqb v.oid oid ≡ true = eq-eqb v.oid oid same in
    let one : cond (eqb v.oid oid) row v.row ≡ row = cond-true (eqb v.oid oid) row v.row is in
    let two : cond (eqb v.oid oid) true v.is_set ≡ true = cond-true (eqb v.oid oid) true v.is_set is in
    cc

pub miss : (oid : ℕ) (row : List ℕ) (v : VersionWritten) → (v.oid ≡ oid → ⊥) → with_row oid row v ≡ v
miss oid row v other =
    let is : eqb v.oid oid ≡ false = ne_eqb v.oid oid other in
    let one : cond (eqb v.oid oid) row v.row ≡ v.row = cond-false (eqb v.oid oid) row v.row is in
    let two : cond (eqb v.oid oid) true v.is_set ≡ v.is_set = cond-false (eqb v.oid oid) true v.is_set is in
    cc

-- of different objects
abbrev Apart : List Claim → Type 0
Apart ws = (j k : ℕ) → j < length ws → k < length ws → j ≢ k → (get_or ws j no_claim).version.oid ≢ (get_or ws k no_claim).version.oid

set_one : (ws : List Claim) (place : ℕ) (row : List ℕ) (new : Claim) → place < length ws → Apart ws → HasRow (get_or ws place no_claim) row new
    → map written_of (set ws place new) ≡ map (with_row (get_or ws place no_claim).version.oid row) (map written_of ws)
set_one ws place row new within apart has =
    let none : VersionWritten = written_of no_claim in
    let oid = (get_or ws place no_claim).version.oid in
    let left : length (map written_of (set ws place new)) ≡ length ws = length-map (set ws place new) written_of ∙ length-set ws place new in
    let right : length (map (with_row oid row) (map written_of ws)) ≡ length ws = length-map (map written_of ws) (with_row oid row) ∙ length-map ws written_of in
    ext_get_or none (map written_of (set ws place new)) (map (with_row oid row) (map written_of ws)) (left ∙ sym right)
    (λ i inside.
    let inside_too : i < length ws = omega (arith, left, inside) in
    let inside_map : i < length (map written_of ws) = let n = length-map ws written_of in omega (arith, n, inside_too) in
    let old : get_or (map written_of ws) i none ≡ written_of (get_or ws i no_claim) = listn.get_or-map written_of ws i no_claim in
    listn.get_or-map written_of (set ws place new) i no_claim ∙ at_one i inside_too
    ∙ ap (λ (v : VersionWritten). with_row oid row v) (sym old) ∙ sym (get_or-map (with_row oid row) (map written_of ws) i none none inside_map))
  where
    at_one : (i : ℕ) → i < length ws → written_of (get_or (set ws place new) i no_claim) ≡ with_row (get_or ws place no_claim).version.oid row (written_of (get_or ws i no_claim))
    at_one i inside =
        ⊎_elim
        (λ (same : i ≡ place).
        subst (λ (n : ℕ). written_of (get_or (set ws place new) n no_claim) ≡ with_row (get_or ws place no_claim).version.oid row (written_of (get_or ws n no_claim))) (sym same)
        (ap written_of (get_or-set_same ws place new no_claim within) ∙ has.has ∙ sym (hit (get_or ws place no_claim).version.oid row (written_of (get_or ws place no_claim)) refl)))
        (λ (other : i ≡ place → ⊥).
        ap written_of (get_or-set_other ws place i new no_claim other) ∙ sym (miss (get_or ws place no_claim).version.oid row (written_of (get_or ws i no_claim)) (apart i place inside within other)))
        (cases_eq i place)

claims_apart : (seat : ℕ) (c : Core) → Sound c → Apart (c.seats seat).current.writes
claims_apart seat c sound j k within_j within_k differ =
    let once = (sound.own seat).claims.once in
    ⊎_elim (λ (less : j < k). once j k less within_k) (λ (more : k ≤ j). λ same. once k j (omega (arith, more, differ)) within_j (sym same)) (cases_lt j k)

-- the claim at the place has the row, set by a write
pub stores_claim : (sessions seat place cell : ℕ) (row : List ℕ) (c : Core) → Sound c → MayWrite (c.seats seat) place cell → length row ≡ ROW_WORDS
    → Works (view_of sessions c) seat
    (with_claims (set (work_at (view_of sessions c) seat).claims place (record (written_of (claim_at (c.seats seat).current place)) { row = row; is_set = true })) (work_at (view_of sessions c) seat))
    (view_of sessions (run_from c (stores_from seat place cell 0 row)))
stores_claim sessions seat place cell row c sound may words =
    let x = c.seats seat in
    let w = claim_at x.current place in
    let d = run_from c (stores_from seat place cell 0 row) in
    let size = ((sound.own seat).written.rows x.current w (current_stands x) (stands_in x.current place may.claimed)).size in
    let all : words_set 0 row w.row ≡ row = words_set_all 0 row w.row (omega (arith, size, words)) in
    let stored = subst (λ (r : List ℕ). RowStored seat place r c x d) all (whole_row seat place cell row c may words) in
    let y : Part = record x { task = task.Rest; current = with_claim place stored.new x.current } in
    let stored_in : Work → Work = λ u. with_claims (set u.claims place (record (written_of w) { row = row; is_set = true })) u in
    let work : work_of y.current ≡ stored_in (work_of x.current) =
    ap (λ (ws : List VersionWritten). with_claims ws (work_of x.current))
    (map-set written_of x.current.writes place stored.new ∙ ap (λ (v : VersionWritten). set (map written_of x.current.writes) place v) stored.has.has)
    in
    let now : work_at (view_of sessions c) seat ≡ work_of x.current = work_active x.place x.task x.current may.active (starts_new x.task x.current may.starts) in
    subst (λ (u : Work). Works (view_of sessions c) seat (stored_in u) (view_of sessions d)) (sym now)
    (alone_shows sessions seat c y d (working x (stored_in (work_of x.current))) stored.alone (λ _. pin_same x.place x.current y.current refl)
    (shows_work x (stored_in (work_of x.current)) y refl may.active refl work).shows)

pub writes : (sessions seat place cell : ℕ) (row : List ℕ) (c : Core) → Sound c → MayWrite (c.seats seat) place cell → length row ≡ ROW_WORDS
    → Works (view_of sessions c) seat (setting (claim_at (c.seats seat).current place).version.oid row (work_at (view_of sessions c) seat))
    (view_of sessions (run_from c (stores_from seat place cell 0 row)))
writes sessions seat place cell row c sound may words =
    let x = c.seats seat in
    let w = claim_at x.current place in
    let size = ((sound.own seat).written.rows x.current w (current_stands x) (stands_in x.current place may.claimed)).size in
    let all : words_set 0 row w.row ≡ row = words_set_all 0 row w.row (omega (arith, size, words)) in
    let stored = subst (λ (r : List ℕ). RowStored seat place r c x (run_from c (stores_from seat place cell 0 row))) all (whole_row seat place cell row c may words) in
    let y : Part = record x { task = task.Rest; current = with_claim place stored.new x.current } in
    let work : work_of y.current ≡ setting w.version.oid row (work_of x.current) =
    ap (λ (ws : List VersionWritten). record (work_of x.current) { claims = ws }) (set_one x.current.writes place row stored.new may.claimed (claims_apart seat c sound) stored.has) in
    let now : work_at (view_of sessions c) seat ≡ work_of x.current = work_active x.place x.task x.current may.active (starts_new x.task x.current may.starts) in
    subst (λ (u : Work). Works (view_of sessions c) seat (setting w.version.oid row u) (view_of sessions (run_from c (stores_from seat place cell 0 row)))) (sym now)
    (alone_shows sessions seat c y (run_from c (stores_from seat place cell 0 row)) (working x (setting w.version.oid row (work_of x.current))) stored.alone (λ _. pin_same x.place x.current y.current refl)
    (shows_work x (setting w.version.oid row (work_of x.current)) y refl may.active refl work).shows)
