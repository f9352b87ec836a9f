-- A claim and a write go on: they have their cells.
use Rattle.std.proofs.Common.{◌≡◌, ℕ, ◌+◌, ◌<◌, ◌≤◌, true, eqb, length, List, Option, Some, None, refl, ap, ◌∙◌, subst, arith}
use Rattle.std.specs.Prelude.{slice_index}
use Rattle.std.proofs.lemmas.Bool.{and_from, eq-eqb, lt-ltb}
use Rattle.erm_machine.specs.declared.limits.TheConstants.{OBJECT_LIMIT}
use Rattle.erm_machine.specs.declared.attempt.OwnCell.{OwnCell}
use Rattle.erm_machine.specs.declared.event.Kind.TheVariants as kind
use Rattle.erm_machine.specs.declared.event.Counter.TheVariants.{Cells}
use Rattle.erm_machine.specs.declared.place.Place.TheVariants.{Active}
use Rattle.erm_machine.specs.declared.task.Task.{Task}
use Rattle.erm_machine.specs.declared.task.Task.TheVariants as task
use Rattle.erm_machine.specs.declared.version.CellWord.TheVariants as word
use Rattle.erm_machine.specs.declared.version.VersionAt.{VersionAt}
use Rattle.erm_machine.specs.Cells.{WantsCell, MayWant}
use Rattle.erm_machine.specs.Claims.{claims_over}
use Rattle.erm_machine.specs.Core.{Core, claim_at}
use Rattle.erm_machine.specs.Decided.{MarkInHand}
use Rattle.erm_machine.specs.Facts.{over_of}
use Rattle.erm_machine.specs.Reading.{load_counter, add_counter, load_active_stamp, store_row_word}
use Rattle.erm_machine.specs.Seat.{is_active, is_own, last_claim}
use Rattle.erm_machine.specs.Settling.{install}
use Rattle.erm_machine.specs.Sound.{Sound}
use Rattle.erm_core_calls.specs.Going.{MovesOn, newest_of, next_copy, next_draw, own_at, own_number}
use Rattle.erm_core_calls.proofs.GoesActive.{bound_at}
use Rattle.erm_core_calls.proofs.Moving.{unlike, unlike_if, word_come, more, to_task, below_way, same_self, branch}

-- a cell that is there has its number
pub owns_cell : (own : Option OwnCell) → (own ≡ None → ⊥) → is_own (own_number own) own ≡ true
owns_cell None some = absurd (some refl)
owns_cell (Some own) some = eq-eqb own.cell own.cell refl

module _ (c : Core) (p : ℕ) (sound : Sound c) where
  -- a claim that isn't over has its cell, but where it may still be wanted
  pub claim_cell : (t : Task) (k : ℕ) → (c.seats p).task ≡ t → (MayWant t → ⊥) → k < length (c.seats p).current.writes → claims_over (c.seats p) ≤ k → is_own (own_at (c.seats p).current k) (claim_at (c.seats p).current k).own ≡ true
  claim_cell t k at none within held =
      owns_cell _ (λ bare. none (subst MayWant at ((sound.own p).cells.bare k within ((sound.own p).claims.held k within held) bare).1))

  module _ (tail : ℕ) (pl : (c.seats p).place ≡ Active tail) where
    active : is_active (c.seats p).place ≡ true
    active = ap is_active pl

    -- none of an active transaction's claims is over but in its end
    none_over : (t : Task) → (c.seats p).task ≡ t → over_of (Active tail) t (length (c.seats p).current.writes) ≡ 0 → claims_over (c.seats p) ≡ 0
    none_over t at none = ap (λ q. over_of q (c.seats p).task (length (c.seats p).current.writes)) pl ∙ ap (λ u. over_of (Active tail) u (length (c.seats p).current.writes)) at ∙ none

    abbrev newest_claim : VersionAt
    newest_claim = newest_of (c.seats p).current

    newest_known : 0 < length (c.seats p).current.writes → newest_claim.oid < OBJECT_LIMIT
    newest_known some = (sound.own p).claims.objects (last_claim (c.seats p).current) (omega (arith, some))

    wants : (t : Task) → (c.seats p).task ≡ t → WantsCell (c.seats p) t
    wants t at = subst (WantsCell (c.seats p)) at (sound.own p).cells.wants

    pub g_draws : (c.seats p).task ≡ task.Draws → MovesOn c p (next_draw (c.seats p))
    g_draws at =
        below_way (MovesOn c p) 0 (length (c.seats p).spare) (kind.LoadStamp newest_claim word.ReaderStamp) (kind.LoadCounter Cells)
        (λ (spare : 0 < length (c.seats p).spare).
        to_task c p (kind.LoadStamp newest_claim word.ReaderStamp) task.Draws _ _ at tt (lt-ltb newest_claim.oid OBJECT_LIMIT (newest_known (wants task.Draws at).0))
        (branch _ _ _ _ active (ap (load_active_stamp _ newest_claim word.ReaderStamp (c.seats p)) at))
        (and_from _ _ (same_self newest_claim) (lt-ltb 0 (length (c.seats p).spare) spare)) (search unlike))
        (λ (none : length (c.seats p).spare ≤ 0).
        to_task c p (kind.LoadCounter Cells) task.Draws _ _ at tt refl (ap (load_counter c.shared.cell_limit Cells c.shared.cells_drawn (c.seats p)) at)
        (and_from _ _ active (eq-eqb (length (c.seats p).spare) 0 (omega (arith, none)))) (search (unlike_if, unlike)))

    pub g_pool : (c.seats p).task ≡ task.Pool → MovesOn c p (kind.AddCounter Cells)
    g_pool at =
        to_task c p (kind.AddCounter Cells) task.Pool _ _ at tt refl (ap (add_counter c.shared.cell_limit p Cells c.shared.cells_drawn (c.seats p)) at) active (search (unlike_if, unlike))

    pub g_fetched : (c.seats p).task ≡ task.Fetched → MovesOn c p (kind.LoadStamp newest_claim word.ReaderStamp)
    g_fetched at =
        let some = (subst (λ (u : Task). MarkInHand c.shared (c.seats p).current u) at (sound.own p).decided.in_hand).0 in
        to_task c p (kind.LoadStamp newest_claim word.ReaderStamp) task.Fetched _ _ at tt (lt-ltb newest_claim.oid OBJECT_LIMIT (newest_known some))
        (branch _ _ _ _ active (ap (load_active_stamp _ newest_claim word.ReaderStamp (c.seats p)) at)) (same_self newest_claim) (search unlike)

    pub g_refused : (c.seats p).task ≡ task.Refused → MovesOn c p (kind.Install newest_claim.oid newest_claim.cell)
    g_refused at =
        let some = (wants task.Refused at).0 in
        to_task c p (kind.Install newest_claim.oid newest_claim.cell) task.Refused _ _ at tt (lt-ltb newest_claim.oid OBJECT_LIMIT (newest_known some))
        (ap (install newest_claim.oid newest_claim.cell (c.seats p)) at)
        (and_from _ _ (and_from _ _ (and_from _ _ active (lt-ltb 0 (length (c.seats p).current.writes) some)) (eq-eqb newest_claim.oid newest_claim.oid refl)) (eq-eqb newest_claim.cell newest_claim.cell refl))
        (search unlike)

    pub g_copies : (w : ℕ) → (c.seats p).task ≡ task.Copies w → MovesOn c p (next_copy (c.seats p).current w)
    g_copies w at =
        let b = bound_at c p sound (task.Copies w) at in
        let some = b.0 in
        let low = b.1 in
        let last = last_claim (c.seats p).current in
        let number = own_at (c.seats p).current last in
        let value = slice_index (claim_at (c.seats p).current last).base w in
        let none = none_over (task.Copies w) at refl in
        let own = claim_cell (task.Copies w) last at (λ never. never) (omega (arith, some)) (omega (arith, none)) in
        to_task c p (kind.StoreCell last number (word.Row w) value) (task.Copies w) _ _ at tt refl
        (branch _ _ _ _ active (ap (store_row_word last number w value (c.seats p)) at))
        (and_from _ _ (and_from _ _ (and_from _ _ (and_from _ _ (eq-eqb last last refl) own) (eq-eqb w w refl)) (lt-ltb w 16 (omega (arith, low)))) (eq-eqb value value refl))
        (unlike_if (task.Copies w) (eqb (w + 1) 16) task.Rest (task.Copies (w + 1)) (search unlike) (record { apart = λ e. more w (ap word_come e) }))

    pub g_writes : (row : List ℕ) (k w : ℕ) → (c.seats p).task ≡ task.Writes k w → MovesOn c p (kind.StoreCell k (own_at (c.seats p).current k) (word.Row w) (slice_index row w))
    g_writes row k w at =
        let b = bound_at c p sound (task.Writes k w) at in
        let within = b.0 in
        let low = b.1 in
        let number = own_at (c.seats p).current k in
        let value = slice_index row w in
        let none = none_over (task.Writes k w) at refl in
        let own = claim_cell (task.Writes k w) k at (λ never. never) within (omega (arith, none)) in
        to_task c p (kind.StoreCell k number (word.Row w) value) (task.Writes k w) _ _ at tt refl
        (branch _ _ _ _ active (ap (store_row_word k number w value (c.seats p)) at))
        (and_from _ _ (and_from _ _ (and_from _ _ (eq-eqb k k refl) own) (eq-eqb w w refl)) (lt-ltb w 16 (omega (arith, low))))
        (unlike_if (task.Writes k w) (eqb (w + 1) 16) task.Rest (task.Writes k (w + 1)) (search unlike) (record { apart = λ e. more w (ap word_come e) }))
