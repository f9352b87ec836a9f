-- What a word of a claim's own cell shows where it is stored.
use Rattle.std.proofs.Common.{◌≡◌, ℕ, ◌+◌, ◌<◌, eqb, true, false, List, length, get_or, set, map, Some, refl, sym, ap, ◌∙◌, subst, arith, eqb-true}
use Rattle.std.proofs.lemmas.Bool.{and_parts}
use Rattle.std.proofs.lemmas.List.{map-set, set-get_or}
use Rattle.erm_model.specs.declared.history.VersionWritten.{VersionWritten}
use Rattle.erm_machine.specs.declared.attempt.Attempt.{Attempt}
use Rattle.erm_machine.specs.declared.attempt.Claim.{Claim}
use Rattle.erm_machine.specs.declared.event.Kind.TheVariants as kind
use Rattle.erm_machine.specs.declared.part.Part.{Part}
use Rattle.erm_machine.specs.declared.task.Task.{Task}
use Rattle.erm_machine.specs.declared.task.Task.TheVariants as task
use Rattle.erm_machine.specs.declared.version.CellWord.{CellWord}
use Rattle.erm_machine.specs.declared.version.CellWord.TheVariants as word
use Rattle.erm_machine.specs.Bounds.{IsBounded}
use Rattle.erm_machine.specs.Core.{Core, claim_at}
use Rattle.erm_machine.specs.Decided.{written_of}
use Rattle.erm_machine.specs.Reading.{start_row, store_row_word, stored_row, unset, without_row}
use Rattle.erm_machine.specs.Seat.{is_active, is_snapshot, last_claim}
use Rattle.erm_machine.specs.Settling.{store_active_word, store_cell, store_head_word}
use Rattle.erm_machine.specs.Sound.{Sound}
use Rattle.erm_machine.specs.Step.{after_event}
use Rattle.erm_machine.specs.Written.{Copying}
use Rattle.erm_machine.proofs.Backs.{rest_is}
use Rattle.erm_machine.proofs.Guards.{if_then, when_then}
use Rattle.erm_machine.proofs.Holders.{stands_in}
use Rattle.erm_machine.proofs.QuietKinds.{moves}
use Rattle.erm_world.specs.World.{Work}
use Rattle.erm_world.specs.Saves.{undone}
use Rattle.erm_core_view.specs.Steps.{IsWriting, with_word}
use Rattle.erm_core_view.specs.Views.{session_of, work_of}
use Rattle.erm_core_view.proofs.Calm.{Same, claim_same, plain_if, plainly}
use Rattle.erm_core_view.proofs.Moved.{own_after}
use Rattle.erm_core_view.proofs.Parts.{current_stands}
use Rattle.erm_core_view.proofs.Shown.{Shows, shows_work, working}

-- the transaction's work with one word of a claim's row set
abbrev pub word_set : (place k value : ℕ) → Attempt → Work
word_set place k value t = record (work_of t) { claims = set (map written_of t.writes) place (with_word k value (written_of (claim_at t place))) }

stored_work : (place k value : ℕ) (t : Attempt) → work_of (stored_row place k value true t) ≡ word_set place k value t
stored_work place k value t =
    ap (λ (ws : List VersionWritten). record (work_of t) { claims = ws }) (map-set written_of t.writes place _)

w_start : (place cell k value : ℕ) (x : Part) (t : Task) (y : Part) → is_active x.place ≡ true → start_row place cell k value x t ≡ Some y → Shows x (word_set place k value x.current) y
w_start place cell k value x t y active e =
    when_then (Shows x (word_set place k value x.current)) _ _ y e (λ _. shows_work x _ _ refl active refl (stored_work place k value x.current))

w_row : (place cell k value : ℕ) (x : Part) (t : Task) (y : Part) → is_active x.place ≡ true → IsWriting t → store_row_word place cell k value x t ≡ Some y
    → Shows x (word_set place k value x.current) y
w_row place cell k value x (task.Copies w) y active writes e = absurd writes
w_row place cell k value x (task.Writes claim w) y active writes e =
    when_then (Shows x (word_set place k value x.current)) _ _ y e (λ _.
    shows_work x _ _ refl active (plain_if (eqb (w + 1) 16) task.Rest (task.Writes claim (w + 1)) refl refl) (stored_work place k value x.current))
w_row place cell k value x t y active writes e = w_start place cell k value x t y active e

w_cell : (place cell k value : ℕ) (x y : Part) → is_active x.place ≡ true → IsWriting x.task → store_cell place cell (word.Row k) value x ≡ Some y
    → Shows x (word_set place k value x.current) y
w_cell place cell k value x y active writes e =
    if_then (Shows x (word_set place k value x.current)) (is_active x.place) (store_row_word place cell k value x x.task)
    (store_head_word place cell (word.Row k) value x x.task) y e
    (λ _ h. w_row place cell k value x x.task y active writes h) (λ no _. absurd (cc))

-- a word of a write
pub word_shows : (seat place cell k value : ℕ) (c d : Core) → is_active (c.seats seat).place ≡ true → IsWriting (c.seats seat).task
    → after_event c seat (kind.StoreCell place cell (word.Row k) value) ≡ Some d
    → session_of (d.seats seat) ≡ working (c.seats seat) (word_set place k value (c.seats seat).current)
word_shows seat place cell k value c d active writes e =
    let m = moves c seat (kind.StoreCell place cell (word.Row k) value) d tt e in
    ap session_of (own_after c seat (kind.StoreCell place cell (word.Row k) value) d m)
    ∙ (w_cell place cell k value (c.seats seat) m.part active writes m.after).shows

-- the transaction's work with a claim's row undone
abbrev pub row_undone : ℕ → Attempt → Work
row_undone place t = record (work_of t) { claims = set (map written_of t.writes) place (undone (written_of (claim_at t place))) }

undone_work : (place : ℕ) (t : Attempt) → work_of (without_row place t) ≡ row_undone place t
undone_work place t = ap (λ (ws : List VersionWritten). record (work_of t) { claims = ws }) (map-set written_of t.writes place _)

u_unset : (place : ℕ) (x y : Part) → unset place x ≡ Some y → Shows x (row_undone place x.current) y
u_unset place x y e =
    when_then (Shows x (row_undone place x.current)) _ _ y e (λ g.
    let first = and_parts _ _ (and_parts _ _ (and_parts _ _ g).0).0 in
    shows_work x _ _ refl first.0 (ap is_snapshot (rest_is x.task first.1)) (undone_work place x.current))

-- a row that is undone
pub undo_shows : (seat place : ℕ) (c d : Core) → after_event c seat (kind.Unset place) ≡ Some d
    → session_of (d.seats seat) ≡ working (c.seats seat) (row_undone place (c.seats seat).current)
undo_shows seat place c d e =
    let m = moves c seat (kind.Unset place) d tt e in
    ap session_of (own_after c seat (kind.Unset place) d m) ∙ (u_unset place (c.seats seat) m.part m.after).shows

-- a word of a row that is copied is the one that the claim has
copied_same : (place k value : ℕ) (t : Attempt) → (claim_at t place).is_set ≡ false → (claim_at t place).row ≡ (claim_at t place).base
    → value ≡ get_or (claim_at t place).base k 0 → work_of (stored_row place k value false t) ≡ work_of t
copied_same place k value t unset kept is =
    let w = claim_at t place in
    let value_is : value ≡ get_or w.row k 0 = is ∙ ap (λ (row : List ℕ). get_or row k 0) (sym kept) in
    let row : set w.row k value ≡ w.row = ap (λ (v : ℕ). set w.row k v) value_is ∙ set-get_or w.row k 0 in
    claim_same t place _ (written_same w (set w.row k value) row unset)
  where
    written_same : (w : Claim) (row : List ℕ) → row ≡ w.row → w.is_set ≡ false
        → ◌≡◌ {A = VersionWritten} (record { oid = w.version.oid; stamp = w.stamp; base = w.base; row = row; is_set = false }) (written_of w)
    written_same w row same unset = cc

copy_same : (place cell k value w : ℕ) (x y : Part) → (claim_at x.current (last_claim x.current)).is_set ≡ false
    → (claim_at x.current (last_claim x.current)).row ≡ (claim_at x.current (last_claim x.current)).base
    → store_row_word place cell k value x (task.Copies w) ≡ Some y → Same (task.Copies w) x y
copy_same place cell k value w x y unset kept e =
    when_then (Same (task.Copies w) x) _ _ y e (λ g.
    let parts = and_parts _ _ g in
    let last : place ≡ last_claim x.current = eqb-true place (last_claim x.current) (and_parts _ _ (and_parts _ _ (and_parts _ _ parts.0).0).0).0 in
    let value_is : value ≡ get_or (claim_at x.current place).base k 0 = eqb-true value _ parts.1 in
    plainly (task.Copies w) x _ refl (plain_if (eqb (w + 1) 16) task.Rest (task.Copies (w + 1)) refl refl) refl refl
    (copied_same place k value x.current (subst (λ (n : ℕ). (claim_at x.current n).is_set ≡ false) (sym last) unset)
    (subst (λ (n : ℕ). (claim_at x.current n).row ≡ (claim_at x.current n).base) (sym last) kept) value_is))

copied_cell : (place cell k value w : ℕ) (x y : Part) → is_active x.place ≡ true → x.task ≡ task.Copies w → (claim_at x.current (last_claim x.current)).is_set ≡ false
    → (claim_at x.current (last_claim x.current)).row ≡ (claim_at x.current (last_claim x.current)).base
    → store_cell place cell (word.Row k) value x ≡ Some y → Same x.task x y
copied_cell place cell k value w x y active copies unset kept e =
    if_then (Same x.task x) (is_active x.place) (store_row_word place cell k value x x.task) (store_head_word place cell (word.Row k) value x x.task) y e
    (λ _ h.
    subst (λ (t : Task). Same t x y) (sym copies) (copy_same place cell k value w x y unset kept (subst (λ (t : Task). store_row_word place cell k value x t ≡ Some y) copies h)))
    (λ no _. absurd (cc))

-- a word that a claim copies
pub copy_shows : (seat place cell k value w : ℕ) (c d : Core) → Sound c → is_active (c.seats seat).place ≡ true → (c.seats seat).task ≡ task.Copies w
    → after_event c seat (kind.StoreCell place cell (word.Row k) value) ≡ Some d → session_of (d.seats seat) ≡ session_of (c.seats seat)
copy_shows seat place cell k value w c d sound active copies e =
    let m = moves c seat (kind.StoreCell place cell (word.Row k) value) d tt e in
    let x = c.seats seat in
    let some : 0 < length x.current.writes = (subst (IsBounded seat x.current) copies (sound.own seat).bounds.bounded).0 in
    let unset = (sound.own seat).written.copying (subst Copying (sym copies) tt) in
    let stands = stands_in x.current (last_claim x.current) (omega (arith, some)) in
    let fits = (sound.own seat).written.rows x.current (claim_at x.current (last_claim x.current)) (current_stands x) stands in
    ap session_of (own_after c seat (kind.StoreCell place cell (word.Row k) value) d m)
    ∙ (copied_cell place cell k value w x m.part active copies unset (fits.kept unset) m.after).same

-- a word before the row, of a version that is to be installed
head_same : (place cell value : ℕ) (w : CellWord) (x : Part) (t : Task) (y : Part) → store_head_word place cell w value x t ≡ Some y → Same t x y
head_same place cell value w x (task.Ends raised ended step cleared) y e =
    when_then (Same (task.Ends raised ended step cleared) x) _ _ y e (λ _. plainly (task.Ends raised ended step cleared) x _ refl refl refl refl (claim_same x.current place _ refl))
head_same place cell value w x _ y e = absurd (cc)

head_cell : (place cell value : ℕ) (w : CellWord) (x y : Part) → is_active x.place ≡ false → store_cell place cell w value x ≡ Some y → Same x.task x y
head_cell place cell value w x y inactive e =
    if_then (Same x.task x) (is_active x.place) (store_active_word place cell w value x) (store_head_word place cell w value x x.task) y e
    (λ active _. absurd (cc)) (λ _ h. head_same place cell value w x x.task y h)

pub head_shows : (seat place cell value : ℕ) (w : CellWord) (c d : Core) → is_active (c.seats seat).place ≡ false
    → after_event c seat (kind.StoreCell place cell w value) ≡ Some d → session_of (d.seats seat) ≡ session_of (c.seats seat)
head_shows seat place cell value w c d inactive e =
    let m = moves c seat (kind.StoreCell place cell w value) d tt e in
    ap session_of (own_after c seat (kind.StoreCell place cell w value) d m) ∙ (head_cell place cell value w (c.seats seat) m.part inactive m.after).same
