-- What most steps leave of a seat's own cells: each that it has afterwards it had before, with the same words.
use Rattle.std.proofs.Common.{◌≡◌, ℕ, ◌+◌, ◌-◌, ◌<◌, ◌≤◌, ⊎_elim, Bool, ◌&&◌, max, eqb, List, [], ◌∷◌, ◌++◌, take, get_or, set, length, length-take, Option, Some, None, refl, sym, ap, subst, arith}
use Rattle.std.specs.Prelude.{if◌then◌else◌}
use Rattle.std.proofs.lemmas.Bool.{and_parts, cases_eq, cases_lt, ltb-true}
use Rattle.std.proofs.lemmas.Grind.{get_or-set_at}
use Rattle.std.proofs.lemmas.List.{get_or-set_other, get_or-take, get_or_past, get_or_append_left, get_or_push, length_push, set_past}
use Rattle.std.proofs.lemmas.Option.{same_Some}
use Rattle.erm_model.specs.Member.{◌∈◌}
use Rattle.erm_model.proofs.Members.{none_in_nil, ∈-at}
use Rattle.erm_machine.specs.declared.attempt.Claim.{Claim}
use Rattle.erm_machine.specs.declared.attempt.OwnCell.{OwnCell}
use Rattle.erm_machine.specs.declared.attempt.Decision.TheVariants.{Abort}
use Rattle.erm_machine.specs.declared.event.Counter.{Counter}
use Rattle.erm_machine.specs.declared.event.Counter.TheVariants.{Objects, Cells}
use Rattle.erm_machine.specs.declared.event.Kind.{Kind}
use Rattle.erm_machine.specs.declared.event.Kind.TheVariants as kind
use Rattle.erm_machine.specs.declared.event.TailUse.TheVariants as purpose
use Rattle.erm_machine.specs.declared.part.Flushing.{Flushing}
use Rattle.erm_machine.specs.declared.part.Flushing.TheVariants as flushing
use Rattle.erm_machine.specs.declared.part.Part.{Part}
use Rattle.erm_machine.specs.declared.place.Place.{Place}
use Rattle.erm_machine.specs.declared.place.Place.TheVariants.{Idle, Begun, Announced, Active, Sealing, Drawn, Sealed, Decided, Leaving}
use Rattle.erm_machine.specs.declared.task.Task.{Task}
use Rattle.erm_machine.specs.declared.task.Task.TheVariants as task
use Rattle.erm_machine.specs.declared.version.Cell.{Cell}
use Rattle.erm_machine.specs.declared.version.CellWord.{CellWord}
use Rattle.erm_machine.specs.declared.version.CellWord.TheVariants as word
use Rattle.erm_machine.specs.declared.version.VersionAt.{VersionAt}
use Rattle.erm_machine.specs.Core.{Object, Shared, blank, claim_at, no_claim}
use Rattle.erm_machine.specs.Flushing.{with_flushing, load_flushed, gathered_word, load_ring, clear_ring, store_flushed}
use Rattle.erm_machine.specs.Life.{load_tail_to_begin, load_tail_for_horizon, load_tail_to_gather, add_tail, aborted, store_begin, store_state, load_begin, load_back, store_back, load_state, decide}
use Rattle.erm_machine.specs.Reading.{load_entry, claim, set_reader, load_walked_stamp, load_walked_link, load_cell, load_detached, load_counter, add_counter, with_spare, rated_claim, load_active_stamp, unset}
use Rattle.erm_machine.specs.Seat.{with_current, with_task, over, end_of, last_claim, cells_of, is_active, is_sealed}
use Rattle.erm_machine.specs.Settling.{may_settle, has_room, load_flushed_to_settle, load_read_entry, load_readers, load_settled_stamp, load_stamp, store_ring, filled, raise_reader, mark_overwritten, adds_version, install_new, release_old, install_claim, unclaim, install, clear_reader}
use Rattle.erm_machine.specs.Step.{part_after}
use Rattle.erm_machine.specs.Words.{blank_cell, is_flusher}
use Rattle.erm_machine.proofs.Backs.{active_begin_then, entry_then}
use Rattle.erm_machine.proofs.Guards.{when_then, some_then, if_then, either_way, unless_some}
use Rattle.erm_machine.proofs.Listed.{∈-cons, ∈-either}
use Rattle.erm_rule.specs.Cells.{SeatCells}
use Rattle.erm_rule.proofs.Parts.{in_front}

-- whatever the map is that agrees with the part before, it agrees with the part after
pub record Carries (x y : Part) : Type 0 where
  pub kept : (cells : ℕ → Cell) → SeatCells cells x → SeatCells cells y

-- the own cells of a list of claims have these words
abbrev pub OwnsOf : (ℕ → Cell) → List Claim → Type 0
OwnsOf cells ws = (k : ℕ) (own : OwnCell) → (get_or ws k no_claim).own ≡ Some own → cells own.cell ≡ own.words

-- claims and spare cells stay
pub carry : (x y : Part) → y.current.writes ≡ x.current.writes → y.spare ≡ x.spare → Carries x y
carry x y writes spare = record {
  kept = λ cells h. record {
    owns = subst (λ (ws : List Claim). OwnsOf cells ws) (sym writes) h.owns;
    spares = λ own m. h.spares own (subst (λ (ss : List OwnCell). own ∈ ss) spare m);
  };
}

pub carry_refl : (x : Part) → Carries x x
carry_refl x = carry x x refl refl

pub carry_if : (x : Part) (b : Bool) (l r : Part) → Carries x l → Carries x r → Carries x (if b then l else r)
carry_if x b l r f g = either_way (Carries x) b l r (λ _. f) (λ _. g)

bare : (cells : ℕ → Cell) (w : Claim) (own : OwnCell) → w.own ≡ None → w.own ≡ Some own → cells own.cell ≡ own.words
bare cells w own none is = absurd (cc)

-- no claims are left, and spare cells stay
pub carry_none : (x y : Part) → y.current.writes ≡ [] → y.spare ≡ x.spare → Carries x y
carry_none x y writes spare = record {
  kept = λ cells h. record {
    owns = subst (λ (ws : List Claim). OwnsOf cells ws) (sym writes) (λ k own is. bare cells no_claim own refl is);
    spares = λ own m. h.spares own (subst (λ (ss : List OwnCell). own ∈ ss) spare m);
  };
}

-- one more claim, without a cell
owns_push : (cells : ℕ → Cell) (ws : List Claim) (w : Claim) → w.own ≡ None → OwnsOf cells ws → OwnsOf cells (ws ++ w ∷ [])
owns_push cells ws w none h k own is =
    ⊎_elim
    (λ (old : k < length ws). h k own (subst (λ (z : Claim). z.own ≡ Some own) (get_or_append_left ws (w ∷ []) no_claim k old) is))
    (λ (past : length ws ≤ k).
    ⊎_elim
    (λ (last : k ≡ length ws). bare cells w own none (subst (λ (z : Claim). z.own ≡ Some own) (get_or_push ws w no_claim k (sym last)) is))
    (λ (ne : k ≡ length ws → ⊥).
    let size = length_push ws w in
    bare cells no_claim own refl (subst (λ (z : Claim). z.own ≡ Some own) (get_or_past (ws ++ w ∷ []) k no_claim (omega (arith, size, past, ne))) is))
    (cases_eq k (length ws)))
    (cases_lt k (length ws))

-- one claim changes
pub owns_set : (cells : ℕ → Cell) (ws : List Claim) (place : ℕ) (w : Claim) → ((own : OwnCell) → w.own ≡ Some own → cells own.cell ≡ own.words) → OwnsOf cells ws → OwnsOf cells (set ws place w)
owns_set cells ws place w new h k own is =
    ⊎_elim
    (λ (within : place < length ws).
    ⊎_elim (λ (same : k ≡ place). new own (subst (λ (z : Claim). z.own ≡ Some own) (get_or-set_at ws place k w no_claim same within) is))
    (λ (other : k ≡ place → ⊥). h k own (subst (λ (z : Claim). z.own ≡ Some own) (get_or-set_other ws place k w no_claim other) is)) (cases_eq k place))
    (λ (past : length ws ≤ place). h k own (subst (λ (us : List Claim). (get_or us k no_claim).own ≡ Some own) (set_past ws place w past) is))
    (cases_lt place (length ws))

-- the newest claim is dropped
owns_take : (cells : ℕ → Cell) (ws : List Claim) (n : ℕ) → OwnsOf cells ws → OwnsOf cells (take n ws)
owns_take cells ws n h k own is =
    ⊎_elim (λ (within : k < n). h k own (subst (λ (z : Claim). z.own ≡ Some own) (get_or-take n ws k no_claim within) is))
    (λ (past : n ≤ k).
    let size = length-take n ws in
    bare cells no_claim own refl (subst (λ (z : Claim). z.own ≡ Some own) (get_or_past (take n ws) k no_claim (omega (arith, size, past))) is))
    (cases_lt k n)

pub in_both : {X : Type 0} (xs ys : List X) (P : X → Type 0) → ((x : X) → x ∈ xs → P x) → ((x : X) → x ∈ ys → P x) → (x : X) → x ∈ (xs ++ ys) → P x
in_both xs ys P f g x m = ⊎_elim (λ (a : x ∈ xs). f x a) (λ (b : x ∈ ys). g x b) (∈-either xs ys x m)

one_cell : (o : Option OwnCell) (own : OwnCell) → own ∈ cells_of o → o ≡ Some own
one_cell None own m = absurd (none_in_nil own m)
one_cell (Some it) own m =
    ⊎_elim (λ (e : it ≡ own). ap Some e) (λ (none : own ∈ []). absurd (none_in_nil own none)) (∈-cons own it [] m)

-- the claim at a place gives its cell up, to the spare ones
pub carry_back : (x y : Part) (place : ℕ) (w : Claim) → w.own ≡ None → y.current.writes ≡ set x.current.writes place w → y.spare ≡ x.spare ++ cells_of (claim_at x.current place).own → Carries x y
carry_back x y place w none writes spare = record {
  kept = λ cells h. record {
    owns = subst (λ (ws : List Claim). OwnsOf cells ws) (sym writes) (owns_set cells x.current.writes place w (λ own is. bare cells w own none is) h.owns);
    spares = λ own m.
        in_both x.spare (cells_of (claim_at x.current place).own) (λ z. cells z.cell ≡ z.words) h.spares
        (λ z there. h.owns place z (one_cell (claim_at x.current place).own z there)) own (subst (λ (ss : List OwnCell). own ∈ ss) spare m);
  };
}

-- the claim at a place has no cell any more
pub carry_over : (x y : Part) (place : ℕ) (w : Claim) → w.own ≡ None → y.current.writes ≡ set x.current.writes place w → y.spare ≡ x.spare → Carries x y
carry_over x y place w none writes spare = record {
  kept = λ cells h. record {
    owns = subst (λ (ws : List Claim). OwnsOf cells ws) (sym writes) (owns_set cells x.current.writes place w (λ own is. bare cells w own none is) h.owns);
    spares = λ own m. h.spares own (subst (λ (ss : List OwnCell). own ∈ ss) spare m);
  };
}

-- the last spare cell goes to a claim
carry_spare : (x : Part) → 0 < length x.spare → Carries x (with_spare x)
carry_spare x some = record {
  kept = λ cells h.
      let blank_own : OwnCell = record { cell = 0; words = blank_cell } in
      let last : OwnCell = get_or x.spare (length x.spare - 1) blank_own in
      let place = last_claim x.current in
      record {
        owns = owns_set cells x.current.writes place (record (claim_at x.current place) { own = Some last })
            (λ own is. subst (λ (z : OwnCell). cells z.cell ≡ z.words) (same_Some last own is) (h.spares last (∈-at x.spare (length x.spare - 1) blank_own (omega (arith, some))))) h.owns;
        spares = λ own m. h.spares own (in_front (length x.spare - 1) x.spare own m);
      };
}

-- LIFE
c_tail : (p found : ℕ) (x : Part) (pl : Place) (y : Part) → load_tail_to_begin p found x pl ≡ Some y → Carries x y
c_tail p found x Idle y e = when_then (Carries x) _ _ y e (λ _. carry x _ refl refl)
c_tail p found x (Announced tail) y e = when_then (Carries x) _ _ y e (λ _. carry_none x _ refl refl)
c_tail p found x _ y e = absurd (cc)

c_horizon : (found : ℕ) (x : Part) (t : Task) (y : Part) → load_tail_for_horizon found x t ≡ Some y → Carries x y
c_horizon found x (task.Claimed version) y e = when_then (Carries x) _ _ y e (λ _. carry x _ refl refl)
c_horizon found x _ y e = absurd (cc)

c_gather : (p found : ℕ) (x y : Part) → load_tail_to_gather p found x ≡ Some y → Carries x y
c_gather p found x y e = when_then (Carries x) _ _ y e (λ _. carry x _ refl refl)

c_drawn : (p size found : ℕ) (x : Part) (pl : Place) (y : Part) → add_tail p size found x pl ≡ Some y → Carries x y
c_drawn p size found x (Sealing tail) y e = when_then (Carries x) _ _ y e (λ _. carry x _ refl refl)
c_drawn p size found x _ y e = absurd (cc)

c_aborted : (p : ℕ) (x z : Part) → z.spare ≡ x.spare → Carries x (aborted p z)
c_aborted p x z spare = carry_if x (is_flusher p) (with_current blank z) (over Abort z) (carry_none x _ refl spare) (carry_none x _ refl spare)

c_begin : (p value : ℕ) (x : Part) (pl : Place) (y : Part) → store_begin p value x pl ≡ Some y → Carries x y
c_begin p value x (Begun tail) y e = when_then (Carries x) _ _ y e (λ _. carry x _ refl refl)
c_begin p value x (Active tail) y e =
    active_begin_then (Carries x) p value tail x y e (λ _ _. c_aborted p x (record x { place = Idle; task = task.Rest }) refl) (λ _ _ _ _. carry x _ refl refl)
c_begin p value x (Decided tail stamp) y e = when_then (Carries x) _ _ y e (λ _. carry x _ refl refl)
c_begin p value x _ y e = absurd (cc)

c_state : (p value : ℕ) (x : Part) (pl : Place) (y : Part) → store_state p value x pl ≡ Some y → Carries x y
c_state p value x (Active tail) y e = when_then (Carries x) _ _ y e (λ _. carry x _ refl refl)
c_state p value x (Drawn tail stamp) y e = when_then (Carries x) _ _ y e (λ _. carry x _ refl refl)
c_state p value x (Leaving stamp) y e = when_then (Carries x) _ _ y e (λ _. carry_none x _ refl refl)
c_state p value x _ y e = absurd (cc)

c_load_begin : (p other found : ℕ) (x : Part) (t : Task) (y : Part) → load_begin p other found x t ≡ Some y → Carries x y
c_load_begin p other found x (task.Horizon version least next) y e = when_then (Carries x) _ _ y e (λ _. carry x _ refl refl)
c_load_begin p other found x (task.Surveys next) y e = when_then (Carries x) _ _ y e (λ _. carry x _ refl refl)
c_load_begin p other found x _ y e = absurd (cc)

c_load_back : (other found : ℕ) (x : Part) (t : Task) (y : Part) → load_back other found x t ≡ Some y → Carries x y
c_load_back other found x (task.Behind next) y e = when_then (Carries x) _ _ y e (λ _. carry x _ refl refl)
c_load_back other found x _ y e = absurd (cc)

c_store_back : (value : ℕ) (x : Part) (pl : Place) (y : Part) → store_back value x pl ≡ Some y → Carries x y
c_store_back value x (Decided tail stamp) y e = when_then (Carries x) _ _ y e (λ _. carry x _ refl refl)
c_store_back value x _ y e = absurd (cc)

c_load_state : (p other bound found : ℕ) (x y : Part) → load_state p other bound found x ≡ Some y → Carries x y
c_load_state p other bound found x y e = when_then (Carries x) _ _ y e (λ _. carry x _ refl refl)

c_decided : (at header : ℕ) (x : Part) (pl : Place) (t : Task) (y : Part) → decide at header x pl t ≡ Some y → Carries x y
c_decided at header x (Sealed tail stamp) (task.Fills words) y e = when_then (Carries x) _ _ y e (λ _. carry x _ refl refl)
c_decided at header x _ _ y e = absurd (cc)

-- READ, CLAIM, CUT
c_load_entry : (seat oid found : ℕ) (o : Object) (x : Part) (t : Task) (y : Part) → load_entry seat oid found o x t ≡ Some y → Carries x y
c_load_entry seat oid found o x (task.Cleared cleared) y e = when_then (Carries x) _ _ y e (λ _. carry x _ refl refl)
c_load_entry seat oid found o x t y e = entry_then (Carries x) seat oid found o x t y e (λ _ _. carry x _ refl refl) (λ _. carry x _ refl refl)

c_read_entry : (seat oid found : ℕ) (x : Part) (t : Task) (y : Part) → load_read_entry seat oid found x t ≡ Some y → Carries x y
c_read_entry seat oid found x (task.Settles reads writes) y e = when_then (Carries x) _ _ y e (λ _. carry x _ refl refl)
c_read_entry seat oid found x _ y e = absurd (cc)

carry_claimed : (x y : Part) (b : Bool) (w : Claim) → w.own ≡ None → y.current.writes ≡ (if b then x.current.writes ++ w ∷ [] else x.current.writes) → y.spare ≡ x.spare → Carries x y
carry_claimed x y b w none writes spare = record {
  kept = λ cells h. record {
    owns = subst (λ (ws : List Claim). OwnsOf cells ws) (sym writes)
        (either_way (OwnsOf cells) b (x.current.writes ++ w ∷ []) x.current.writes (λ _. owns_push cells x.current.writes w none h.owns) (λ _. h.owns));
    spares = λ own m. h.spares own (subst (λ (ss : List OwnCell). own ∈ ss) spare m);
  };
}

c_claim : (seat oid seen number found : ℕ) (o : Object) (x : Part) (t : Task) (y : Part) → claim seat oid seen number found o x t ≡ Some y → Carries x y
c_claim seat oid seen number found o x (task.Found version stamp (Some entry)) y e = when_then (Carries x) _ _ y e (λ _. carry_claimed x _ _ _ refl refl refl)
c_claim seat oid seen number found o x _ y e = absurd (cc)

c_set_reader : (seat : ℕ) (v : VersionAt) (o : Object) (x : Part) (t : Task) (y : Part) → set_reader seat v o x t ≡ Some y → Carries x y
c_set_reader seat v o x (task.Found version stamp head) y e = when_then (Carries x) _ _ y e (λ _. carry x _ refl refl)
c_set_reader seat v o x _ y e = absurd (cc)

c_walked_stamp : (found : ℕ) (v : VersionAt) (x : Part) (t : Task) (y : Part) → load_walked_stamp found v x t ≡ Some y → Carries x y
c_walked_stamp found v x (task.Walks version head) y e = when_then (Carries x) _ _ y e (λ _. carry x _ refl refl)
c_walked_stamp found v x (task.CutWalks version horizon) y e = when_then (Carries x) _ _ y e (λ _. carry x _ refl refl)
c_walked_stamp found v x (task.SafeWalks version) y e = when_then (Carries x) _ _ y e (λ _. carry x _ refl refl)
c_walked_stamp found v x (task.Passed version) y e = when_then (Carries x) _ _ y e (λ _. carry x _ refl refl)
c_walked_stamp found v x _ y e = absurd (cc)

c_walked_link : (found : ℕ) (v : VersionAt) (x : Part) (t : Task) (y : Part) → load_walked_link found v x t ≡ Some y → Carries x y
c_walked_link found v x (task.Passed version) y e = when_then (Carries x) _ _ y e (λ _. carry x _ refl refl)
c_walked_link found v x (task.SafePassed version) y e = when_then (Carries x) _ _ y e (λ _. carry x _ refl refl)
c_walked_link found v x (task.CutPassed version horizon) y e = when_then (Carries x) _ _ y e (λ _. carry x _ refl refl)
c_walked_link found v x _ y e = absurd (cc)

c_load_cell : (found : ℕ) (v : VersionAt) (w : CellWord) (x : Part) (y : Part) → load_cell found v w x ≡ Some y → Carries x y
c_load_cell found v word.Stamp x y e = if_then (Carries x) (is_active x.place) (load_walked_stamp found v x x.task) None y e (λ _ h. c_walked_stamp found v x x.task y h) (λ _ h. absurd (cc))
c_load_cell found v word.Link x y e = if_then (Carries x) (is_active x.place) (load_walked_link found v x x.task) None y e (λ _ h. c_walked_link found v x x.task y h) (λ _ h. absurd (cc))
c_load_cell found v (word.Row k) x y e = when_then (Carries x) _ _ y e (λ _. carry_refl x)
c_load_cell found v _ x y e = absurd (cc)

c_load_detached : (found : ℕ) (v : VersionAt) (x : Part) (t : Task) (y : Part) → load_detached found v x t ≡ Some y → Carries x y
c_load_detached found v x (task.Detaches version) y e = when_then (Carries x) _ _ y e (λ _. carry x _ refl refl)
c_load_detached found v x _ y e = absurd (cc)

c_load_counter : (cells : ℕ) (c : Counter) (found : ℕ) (x : Part) (t : Task) (y : Part) → load_counter cells c found x t ≡ Some y → Carries x y
c_load_counter cells Objects found x t y e = when_then (Carries x) _ _ y e (λ _. carry x _ refl refl)
c_load_counter cells Cells found x task.Draws y e = when_then (Carries x) _ _ y e (λ _. carry x _ refl refl)
c_load_counter cells Cells found x _ y e = absurd (cc)

pub c_add_object : (cells seat found : ℕ) (x : Part) (t : Task) (y : Part) → add_counter cells seat Objects found x t ≡ Some y → Carries x y
c_add_object cells seat found x task.Numbers y e = when_then (Carries x) _ _ y e (λ _. carry x _ refl refl)
c_add_object cells seat found x _ y e = absurd (cc)

c_active_stamp : (found : ℕ) (v : VersionAt) (w : CellWord) (x : Part) (t : Task) (y : Part) → load_active_stamp found v w x t ≡ Some y → Carries x y
c_active_stamp found v word.Overwriter x (task.Registered version) y e = when_then (Carries x) _ _ y e (λ _. carry x _ refl refl)
c_active_stamp found v word.OverwriterSucc x (task.Overtaken version overwriter) y e = when_then (Carries x) _ _ y e (λ _. carry x _ refl refl)
c_active_stamp found v word.ReaderStamp x task.Draws y e =
    when_then (Carries x) _ _ y e (λ g.
    let given = carry_spare x (ltb-true _ _ (and_parts _ _ g).1) in
    record { kept = λ cells h. (carry (with_spare x) (rated_claim found (with_spare x)) refl refl).kept cells (given.kept cells h) })
c_active_stamp found v word.ReaderStamp x task.Fetched y e = when_then (Carries x) _ _ y e (λ _. carry x _ refl refl)
c_active_stamp found v _ x _ y e = absurd (cc)

-- a claim whose row is undone keeps its cell
c_unset : (place : ℕ) (x y : Part) → unset place x ≡ Some y → Carries x y
c_unset place x y e =
    when_then (Carries x) _ _ y e (λ _. record {
      kept = λ cells h. record { owns = owns_set cells x.current.writes place _ (λ own is. h.owns place own is) h.owns; spares = h.spares };
    })

-- SETTLE
c_settled_stamp : (found : ℕ) (v : VersionAt) (w : CellWord) (x : Part) (t : Task) (y : Part) → load_settled_stamp found v w x t ≡ Some y → Carries x y
c_settled_stamp found v word.Overwriter x (task.ReadClear read) y e = when_then (Carries x) _ _ y e (λ _. carry x _ refl refl)
c_settled_stamp found v word.OverwriterSucc x (task.ReadOvertaken read overwriter) y e = when_then (Carries x) _ _ y e (λ _. carry x _ refl refl)
c_settled_stamp found v word.Stamp x (task.WriteClear write) y e = when_then (Carries x) _ _ y e (λ _. carry x _ refl refl)
c_settled_stamp found v word.ReaderStamp x (task.WriteMade write) y e = when_then (Carries x) _ _ y e (λ _. carry x _ refl refl)
c_settled_stamp found v _ x _ y e = absurd (cc)

c_load_stamp : (found : ℕ) (v : VersionAt) (w : CellWord) (x : Part) (y : Part) → load_stamp found v w x ≡ Some y → Carries x y
c_load_stamp found v w x y e =
    if_then (Carries x) _ _ _ y e (λ _ h. c_active_stamp found v w x x.task y h)
    (λ _ rest. if_then (Carries x) (is_sealed x.place) (load_settled_stamp found v w x x.task) None y rest (λ _ h. c_settled_stamp found v w x x.task y h) (λ _ h. absurd (cc)))

c_load_readers : (seat : ℕ) (v : VersionAt) (found : ℕ) (x : Part) (t : Task) (y : Part) → load_readers seat v found x t ≡ Some y → Carries x y
c_load_readers seat v found x (task.Settles reads writes) y e = when_then (Carries x) _ _ y e (λ _. carry x _ refl refl)
c_load_readers seat v found x _ y e = absurd (cc)

c_store_ring : (at value : ℕ) (x : Part) (o : Option ℕ) (y : Part) → store_ring at value x o ≡ Some y → Carries x y
c_store_ring at value x None y e = absurd (cc)
c_store_ring at value x (Some words) y e = when_then (Carries x) _ _ y e (λ _. carry x _ refl refl)

-- END
c_raise_reader : (v : VersionAt) (value : ℕ) (x : Part) (t : Task) (y : Part) → raise_reader v value x t ≡ Some y → Carries x y
c_raise_reader v value x (task.Ends raised ended step cleared) y e = when_then (Carries x) _ _ y e (λ _. carry x _ refl refl)
c_raise_reader v value x _ y e = absurd (cc)

c_mark : (nth : ℕ) (v : VersionAt) (value wanted : ℕ) (x : Part) (t : Task) (y : Part) → mark_overwritten nth v value wanted x t ≡ Some y → Carries x y
c_mark nth v value wanted x (task.Ends raised ended step cleared) y e = when_then (Carries x) _ _ y e (λ _. carry x _ refl refl)
c_mark nth v value wanted x _ y e = absurd (cc)

c_unclaim : (oid head : ℕ) (x y : Part) → unclaim oid head x ≡ Some y → Carries x y
c_unclaim oid head x y e =
    when_then (Carries x) _ _ y e (λ _. record {
      kept = λ cells h. record { owns = owns_take cells x.current.writes (last_claim x.current) h.owns; spares = h.spares };
    })

c_install_claim : (oid head : ℕ) (x : Part) (o : Option (ℕ × ℕ × ℕ × ℕ)) (y : Part) → install_claim oid head x o ≡ Some y → Carries x y
c_install_claim oid head x None y e = absurd (cc)
c_install_claim oid head x (Some c) y e =
    if_then (Carries x) (adds_version x) (install_new oid head x c) (release_old oid head x c) y e
    (λ _ h. when_then (Carries x) _ _ y h (λ _. carry_over x _ c.1 _ refl refl refl))
    (λ _ h. when_then (Carries x) _ _ y h (λ _. carry_back x _ c.1 _ refl refl refl))

c_install_other : (oid head : ℕ) (x : Part) (t : Task) (y : Part) → install_claim oid head x (end_of t) ≡ Some y → Carries x y
c_install_other oid head x t y e = c_install_claim oid head x (end_of t) y e

c_install : (oid head : ℕ) (x : Part) (t : Task) (y : Part) → install oid head x t ≡ Some y → Carries x y
c_install oid head x task.Refused y e = c_unclaim oid head x y e
c_install oid head x t y e = c_install_other oid head x t y e

c_clear_reader : (v : VersionAt) (x : Part) (o : Option (ℕ × ℕ × ℕ × ℕ)) (y : Part) → clear_reader v x o ≡ Some y → Carries x y
c_clear_reader v x None y e = absurd (cc)
c_clear_reader v x (Some c) y e = when_then (Carries x) _ _ y e (λ _. carry x _ refl refl)

-- FLUSH
c_to_settle : (found : ℕ) (x : Part) → Carries x (load_flushed_to_settle found x)
c_to_settle found x =
    carry_if x (is_sealed x.place && may_settle x.task && has_room found x.current) (with_task (task.Settles 0 0) x) x (carry x (with_task (task.Settles 0 0) x) refl refl) (carry_refl x)

c_load_flushed : (found : ℕ) (x : Part) (f : Flushing) (y : Part) → load_flushed found x f ≡ Some y → Carries x y
c_load_flushed found x (flushing.Tail tail) y e = some_then (Carries x) _ y e (carry x _ refl refl)
c_load_flushed found x _ y e = when_then (Carries x) _ _ y e (λ _. c_to_settle found x)

c_gathered : (tail from block next end : ℕ) (x : Part) → Carries x (gathered_word tail from block next end x)
c_gathered tail from block next end x =
    let whole : Part = record x { flushing = flushing.Gathers tail from end end end; gathered_to = max x.gathered_to end } in
    let more : Part = with_flushing (flushing.Gathers tail from block (next + 1) end) x in
    carry_if x (eqb (next + 1) end) whole more (carry x whole refl refl) (carry x more refl refl)

c_load_ring : (at found : ℕ) (x : Part) (f : Flushing) (y : Part) → load_ring at found x f ≡ Some y → Carries x y
c_load_ring at found x (flushing.Gathers tail from block next end) y e =
    when_then (Carries x) _ _ y e (λ _.
    search (carry_if, c_gathered, carry_refl))
c_load_ring at found x _ y e = absurd (cc)

c_clear_ring : (at : ℕ) (x : Part) (f : Flushing) (y : Part) → clear_ring at x f ≡ Some y → Carries x y
c_clear_ring at x (flushing.Gathers tail from block next end) y e = when_then (Carries x) _ _ y e (λ _. carry x _ refl refl)
c_clear_ring at x (flushing.Clears next to) y e = when_then (Carries x) _ _ y e (λ _. carry x _ refl refl)
c_clear_ring at x _ y e = absurd (cc)

c_store_flushed : (value : ℕ) (x : Part) (f : Flushing) (y : Part) → store_flushed value x f ≡ Some y → Carries x y
c_store_flushed value x (flushing.Clears next to) y e = when_then (Carries x) _ _ y e (λ _. carry x _ refl refl)
c_store_flushed value x _ y e = absurd (cc)

-- kinds that change no word of a seat's own cell, and give it none that it didn't have
abbrev pub IsGentle : Kind → Type 0
IsGentle (kind.Split other) = ⊥
IsGentle (kind.Join other) = ⊥
IsGentle (kind.StoreCell place cell w value) = ⊥
IsGentle (kind.AddCounter counter) = ⊥
IsGentle (kind.SwapLink v) = ⊥
IsGentle _ = Unit {0}

pub carries : (p : ℕ) (k : Kind) (found : ℕ) (s : Shared) (x y : Part) → IsGentle k → part_after p k found s x ≡ Some y → Carries x y
carries p (kind.LoadTail purpose.Begin) found s x y q e = c_tail p found x x.place y e
carries p (kind.LoadTail purpose.Horizon) found s x y q e = c_horizon found x x.task y e
carries p (kind.LoadTail purpose.Gather) found s x y q e = c_gather p found x y e
carries p (kind.AddTail size) found s x y q e = c_drawn p size found x x.place y e
carries p (kind.StoreBegin value) found s x y q e = c_begin p value x x.place y e
carries p (kind.StoreState value) found s x y q e = c_state p value x x.place y e
carries p (kind.LoadBegin other) found s x y q e = c_load_begin p other found x x.task y e
carries p (kind.LoadState other bound) found s x y q e = c_load_state p other bound found x y e
carries p (kind.Split other) found s x y q e = absurd q
carries p (kind.Join other) found s x y q e = absurd q
carries p (kind.LoadEntry oid) found s x y q e =
    if_then (Carries x) (is_sealed x.place) (load_read_entry p oid found x x.task) (load_entry p oid found (s.objects oid) x x.task) y e
    (λ _ h. c_read_entry p oid found x x.task y h) (λ _ h. c_load_entry p oid found (s.objects oid) x x.task y h)
carries p (kind.Claim oid seen number) found s x y q e = c_claim p oid seen number found (s.objects oid) x x.task y e
carries p (kind.Install oid head) found s x y q e = c_install oid head x x.task y e
carries p (kind.LoadCell v w) found s x y q e = c_load_cell found v w x y (unless_some _ _ y e)
carries p (kind.StoreCell place cell w value) found s x y q e = absurd q
carries p (kind.LoadCounter counter) found s x y q e = c_load_counter _ counter found x x.task y e
carries p (kind.AddCounter counter) found s x y q e = absurd q
carries p (kind.SetReader v) found s x y q e = c_set_reader p v (s.objects v.oid) x x.task y e
carries p (kind.ClearReader v) found s x y q e = c_clear_reader v x (end_of x.task) y e
carries p (kind.LoadReaders v) found s x y q e = c_load_readers p v found x x.task y e
carries p (kind.LoadStamp v w) found s x y q e = c_load_stamp found v w x y e
carries p (kind.RaiseReader v value) found s x y q e = c_raise_reader v value x x.task y e
carries p (kind.StoreSucc v value) found s x y q e = c_mark 6 v value x.current.succ x x.task y e
carries p (kind.StoreOverwriter v value) found s x y q e = c_mark 7 v value x.current.stamp x x.task y e
carries p (kind.StoreRing at value) found s x y q e = c_store_ring at value x (filled x.current x.task) y e
carries p (kind.Decide at header) found s x y q e = c_decided at header x x.place x.task y e
carries p (kind.LoadRing at) found s x y q e = c_load_ring at found x x.flushing y e
carries p (kind.ClearRing at) found s x y q e = c_clear_ring at x x.flushing y e
carries p (kind.StoreFlushed value) found s x y q e = c_store_flushed value x x.flushing y e
carries p kind.LoadFlushed found s x y q e = c_load_flushed found x x.flushing y e
carries p (kind.SwapLink v) found s x y q e = absurd q
carries p (kind.LoadDetached v) found s x y q e = c_load_detached found v x x.task y e
carries p (kind.StoreBack value) found s x y q e = c_store_back value x x.place y e
carries p (kind.LoadBack other) found s x y q e = c_load_back other found x x.task y e
carries p (kind.Unset place) found s x y q e = c_unset place x y e
