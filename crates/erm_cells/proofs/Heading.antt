-- The words of a new version before its row, stored one after another.
use Rattle.std.proofs.Common.{◌≡◌, ℕ, zero, suc, ◌+◌, ◌<◌, true, false, ◌&&◌, List, length, Some, None, Option, refl, sym, ap, ◌∙◌, subst, arith, eqb, ltb, add-one}
use Rattle.std.proofs.lemmas.Bool.{and_parts, eq-eqb, lt-ltb}
use Rattle.std.proofs.lemmas.List.{set-get_or}
use Rattle.erm_layout.specs.Layout.{IsInCell}
use Rattle.erm_machine.specs.declared.attempt.Attempt.{Attempt}
use Rattle.erm_machine.specs.declared.attempt.Claim.{Claim}
use Rattle.erm_machine.specs.declared.attempt.OwnCell.{OwnCell}
use Rattle.erm_machine.specs.declared.part.Part.{Part}
use Rattle.erm_machine.specs.declared.place.Place.{Place}
use Rattle.erm_machine.specs.declared.place.Place.TheVariants.{Decided}
use Rattle.erm_machine.specs.declared.task.Task.{Task}
use Rattle.erm_machine.specs.declared.task.Task.TheVariants as task
use Rattle.erm_machine.specs.declared.version.Cell.{Cell}
use Rattle.erm_machine.specs.declared.version.CellWord.{CellWord}
use Rattle.erm_machine.specs.declared.version.CellWord.TheVariants as word
use Rattle.erm_machine.specs.Core.{claim_at, no_claim}
use Rattle.erm_machine.specs.Reading.{stored_own, with_own_word}
use Rattle.erm_machine.specs.Seat.{is_active, is_commit, is_decided, is_own, is_vacant, with_claim}
use Rattle.erm_machine.specs.Settling.{head_value, head_word, installs, store_active_word, store_cell, store_head_word}
use Rattle.erm_machine.specs.Words.{set_word}
use Rattle.erm_rule.specs.declared.view.View.{View}
use Rattle.erm_rule.specs.Hands.{IsKnown}
use Rattle.erm_rule.specs.Steps.{Ready, Told}
use Rattle.erm_rule.specs.Views.{part_in, part_of, with_part}
use Rattle.erm_rule.proofs.Numbered.{known_after}
use Rattle.erm_rule.proofs.Parts.{with_part-same}
use Rattle.erm_rule.proofs.Stored.{own_within}
use Rattle.erm_rule.proofs.Telling.{changed_here, held_part, part_of-changed}
use Rattle.erm_cells.specs.Heads.{DidStoreHead, MayStoreHead, after_head, head_value_at, head_word_at, headed_part, link_of, with_own_head}
use Rattle.erm_cells.specs.Placed.{Owns, own_kind, place_of}
use Rattle.erm_cells.proofs.Claimed.{claim_again, claim_set, claims_set}
use Rattle.erm_cells.proofs.Placing.{known_owns, known_place, owns_now, place_kept, placed_is, ready_placed}
use Rattle.erm_cells.proofs.Views.{when_true, both, other_branch}

-- WORDS. The words of a cell after so many steps.
unfoldable pub headed : ℕ → ℕ → ℕ → Cell → Cell
headed zero stamp link ws = ws
headed (suc n) stamp link ws = set_word (head_word_at n) (head_value_at stamp link (head_word_at n)) (headed n stamp link ws)

abbrev pub with_own_words : (Cell → Cell) → Option OwnCell → Option OwnCell
with_own_words f None = None
with_own_words f (Some own) = Some (record own { words = f own.words })

own_words_kept : (cell : ℕ) (f : Cell → Cell) (o : Option OwnCell) → is_own cell (with_own_words f o) ≡ is_own cell o
own_words_kept cell f None = refl
own_words_kept cell f (Some own) = refl

own_words_more : (w : CellWord) (value : ℕ) (f : Cell → Cell) (o : Option OwnCell) → with_own_word w value (with_own_words f o) ≡ with_own_words (λ ws. set_word w value (f ws)) o
own_words_more w value f None = refl
own_words_more w value f (Some own) = refl

own_words_none : (stamp link : ℕ) (o : Option OwnCell) → with_own_words (headed 0 stamp link) o ≡ o
unfolding headed
own_words_none stamp link None = refl
own_words_none stamp link (Some own) = refl

own_words_all : (t : Attempt) (claim : Claim) (stamp link : ℕ) (o : Option OwnCell) → stamp ≡ t.stamp → link ≡ claim.version.cell + 1 → with_own_words (headed 6 stamp link) o ≡ with_own_head t claim o
unfolding headed
own_words_all t claim stamp link None a b = refl
own_words_all t claim stamp link (Some own) a b =
    ap (λ (n : ℕ). Some (record own { words = record own.words { stamp = n; link = link; readers = 0; reader_stamp = n; overwriter = 0; overwriter_succ = 0 } })) a
    ∙ ap (λ (n : ℕ). Some (record own { words = record own.words { stamp = t.stamp; link = n; readers = 0; reader_stamp = t.stamp; overwriter = 0; overwriter_succ = 0 } })) b

-- the word of each step, and its value
in_turn : (n : ℕ) → n < 6 → head_word n (head_word_at n) ≡ true
in_turn zero low = refl
in_turn (suc zero) low = refl
in_turn (suc (suc zero)) low = refl
in_turn (suc (suc (suc zero))) low = refl
in_turn (suc (suc (suc (suc zero)))) low = refl
in_turn (suc (suc (suc (suc (suc zero))))) low = refl
in_turn (suc (suc (suc (suc (suc (suc n)))))) low = absurd (omega (arith, low))

within_cell : (n : ℕ) → IsInCell (head_word_at n)
within_cell zero = tt
within_cell (suc zero) = tt
within_cell (suc (suc zero)) = tt
within_cell (suc (suc (suc zero))) = tt
within_cell (suc (suc (suc (suc zero)))) = tt
within_cell (suc (suc (suc (suc (suc n))))) = tt

value_is : (t : Attempt) (claim : Claim) (stamp link : ℕ) (w : CellWord) → stamp ≡ t.stamp → link ≡ claim.version.cell + 1 → head_value_at stamp link w ≡ head_value t claim w
value_is t claim stamp link word.Stamp a b = a
value_is t claim stamp link word.Link a b = b
value_is t claim stamp link word.ReaderStamp a b = a
value_is t claim stamp link _ a b = refl

-- TASKS
abbrev pub head_task : ℕ → Task → Task
head_task n (task.Ends raised ended step cleared) = task.Ends raised ended n cleared
head_task n t = t

last_task : (t : Task) → head_task 6 t ≡ after_head t
last_task (task.Ends raised ended step cleared) = refl
last_task t = refl

decided_only : (pl : Place) → is_decided pl ≡ true → (is_active pl ≡ false) × (is_vacant pl ≡ false)
decided_only (Decided tail stamp) e = (refl, refl)
decided_only _ e = absurd (cc)

-- the head may be stored at the place of a claim, in the terms of the guards
pub record HeadAt (cell place stamp link : ℕ) (x : Part) : Type 0 where
  pub raised : ℕ
  pub cleared : ℕ
  pub at : x.task ≡ task.Ends raised place 0 cleared
  pub installs_is : installs raised place 0 x ≡ true
  pub own : is_own cell (claim_at x.current place).own ≡ true
  pub stamp_is : stamp ≡ x.current.stamp
  pub link_is : link ≡ (claim_at x.current place).version.cell + 1

-- THE PART after so many steps
abbrev pub heading : ℕ → ℕ → ℕ → ℕ → Part → Part
heading place stamp link n x = record x {
  task = head_task n x.task;
  current = with_claim place (record (claim_at x.current place) { own = with_own_words (headed n stamp link) (claim_at x.current place).own }) x.current;
}

module _ (cell place stamp link : ℕ) (x : Part) (may : HeadAt cell place stamp link x) (placed : place_of cell x ≡ place) where
  within : place < length x.current.writes
  within = own_within cell x place may.own

  abbrev now : ℕ → Part
  now n = heading place stamp link n x

  module _ (n : ℕ) where
    abbrev w : Claim
    w = record (claim_at x.current place) { own = with_own_words (headed n stamp link) (claim_at x.current place).own }

    claim_is : claim_at (now n).current place ≡ w
    claim_is = claim_set x.current place w within

    pub head_owned : is_own cell (claim_at (now n).current place).own ≡ true
    head_owned = ap (λ (u : Claim). is_own cell u.own) claim_is ∙ own_words_kept cell (headed n stamp link) (claim_at x.current place).own ∙ may.own

    pub head_placed : place_of cell (now n) ≡ place
    head_placed = place_kept cell place x (now n) w refl (own_words_kept cell (headed n stamp link) (claim_at x.current place).own) ∙ placed

    abbrev value : ℕ
    value = head_value_at stamp link (head_word_at n)

    abbrev stored : Part
    stored = record (now n) { task = task.Ends may.raised place (n + 1) may.cleared; current = stored_own place (head_word_at n) value (now n).current }

    installing : installs may.raised place n (now n) ≡ true
    installing =
        subst (λ (m : ℕ). (is_decided x.place && is_commit x.current.decision && (eqb may.raised (length x.current.reads)) && ltb place m) ≡ true) (sym (claims_set x.current place w)) may.installs_is

    head_guard : n < 6 → store_head_word place cell (head_word_at n) value (now n) (task.Ends may.raised place n may.cleared) ≡ Some stored
    head_guard low =
        when_true _ stored
        (both _ _ (both _ _ (both _ _ (both _ _ (both _ _ installing (eq-eqb place place refl)) head_owned) (in_turn n low)) (lt-ltb n 6 low))
        (eq-eqb value _ (value_is x.current w stamp link (head_word_at n) may.stamp_is may.link_is ∙ ap (λ (u : Claim). head_value x.current u (head_word_at n)) (sym claim_is))))

    task_now : (now n).task ≡ task.Ends may.raised place n may.cleared
    task_now = ap (head_task n) may.at

    stored_is : stored ≡ now (n + 1)
    unfolding headed
    stored_is =
        ap (λ (u : Claim). record (now n) { task = task.Ends may.raised place (n + 1) may.cleared; current = with_claim place (record u { own = with_own_word (head_word_at n) value u.own }) (now n).current }) claim_is
        ∙ ap (λ (c : Attempt). record x { task = task.Ends may.raised place (n + 1) may.cleared; current = c }) (claim_again x.current place w (record w { own = with_own_word (head_word_at n) value w.own }))
        ∙ ap (λ (o : Option OwnCell). record x { task = task.Ends may.raised place (n + 1) may.cleared; current = with_claim place (record (claim_at x.current place) { own = o }) x.current })
        (own_words_more (head_word_at n) value (headed n stamp link) (claim_at x.current place).own)
        ∙ ap (λ (t : Task). record x { task = t; current = with_claim place (record (claim_at x.current place) { own = with_own_words (headed (suc n) stamp link) (claim_at x.current place).own }) x.current }) (sym (ap (head_task (n + 1)) may.at))
        ∙ ap (λ (m : ℕ). record x { task = head_task (n + 1) x.task; current = with_claim place (record (claim_at x.current place) { own = with_own_words (headed m stamp link) (claim_at x.current place).own }) x.current }) (sym (add-one n))

    pub head_stored : n < 6 → store_cell place cell (head_word_at n) value (now n) ≡ Some (now (n + 1))
    head_stored low =
        other_branch (is_active x.place) (store_active_word place cell (head_word_at n) value (now n)) (store_head_word place cell (head_word_at n) value (now n) (now n).task) _
        (decided_only x.place (and_parts _ _ (and_parts _ _ (and_parts _ _ may.installs_is).0).0).0).0
        (subst (λ (t : Task). store_head_word place cell (head_word_at n) value (now n) t ≡ Some (now (n + 1))) (sym task_now) (head_guard low ∙ ap Some stored_is))

  pub none_headed : now 0 ≡ x
  none_headed =
      ap (λ (o : Option OwnCell). record x { task = head_task 0 x.task; current = with_claim place (record (claim_at x.current place) { own = o }) x.current })
      (own_words_none stamp link (claim_at x.current place).own)
      ∙ ap (λ (ws : List Claim). record x { task = head_task 0 x.task; current = record x.current { writes = ws } }) (set-get_or x.current.writes place no_claim)
      ∙ ap (λ (t : Task). record x { task = t }) (ap (head_task 0) may.at ∙ sym may.at)

  pub all_headed : now 6 ≡ headed_part place x
  all_headed =
      ap (λ (o : Option OwnCell). record x { task = head_task 6 x.task; current = with_claim place (record (claim_at x.current place) { own = o }) x.current })
      (own_words_all x.current (claim_at x.current place) stamp link (claim_at x.current place).own may.stamp_is may.link_is)
      ∙ ap (λ (t : Task). record x { task = t; current = with_claim place (record (claim_at x.current place) { own = with_own_head x.current (claim_at x.current place) (claim_at x.current place).own }) x.current })
      (last_task x.task)

-- A VIEW in which a head may be stored
module _ (v : View) (who : ℕ) (x : Part) (has : part_in v who ≡ Some x) (known : IsKnown v) (cell stamp : ℕ) (link : Option ℕ) (older : ℕ) (older_is : older ≡ link_of link) where
  head_at : (t : Task) → x.task ≡ t → MayStoreHead cell stamp link x t → HeadAt cell (place_of cell x) stamp older x
  head_at (task.Ends raised ended step cleared) is may =
      let there : place_of cell x ≡ ended = known_place v who x has known cell ended may.2 in
      record {
        raised = raised;
        cleared = cleared;
        at = is ∙ ap (λ (n : ℕ). task.Ends raised ended n cleared) may.0 ∙ ap (λ (n : ℕ). task.Ends raised n 0 cleared) (sym there);
        installs_is = subst (λ (n : ℕ). installs raised n 0 x ≡ true) (sym there) may.1;
        own = known_owns v who x has known cell ended may.2;
        stamp_is = may.3;
        link_is = older_is ∙ ap link_of may.4 ∙ ap (λ (n : ℕ). (claim_at x.current n).version.cell + 1) (sym there);
      }
  head_at _ is may = absurd may

decided_there : (x : Part) (cell stamp : ℕ) (link : Option ℕ) (t : Task) → MayStoreHead cell stamp link x t → is_vacant x.place ≡ false
decided_there x cell stamp link (task.Ends raised ended step cleared) may =
    (decided_only x.place (and_parts _ _ (and_parts _ _ (and_parts _ _ may.1).0).0).0).1
decided_there x cell stamp link _ may = absurd may

-- A LOOP over the words
pub record HeadLoop (v : View) (who : ℕ) (part : Part) (u : View) : Type 0 where
  pub known : IsKnown u
  pub view_is : u ≡ with_part who part v

module _ (v : View) (who cell stamp : ℕ) (link : Option ℕ) (older : ℕ) (older_is : older ≡ link_of link) (known : IsKnown v) (may : MayStoreHead cell stamp link (part_of v who) (part_of v who).task) where
  abbrev x : Part
  x = part_of v who

  has : part_in v who ≡ Some x
  has = held_part v who (decided_there x cell stamp link x.task may)

  at : HeadAt cell (place_of cell x) stamp older x
  at = head_at v who x has known cell stamp link older older_is x.task refl may

  abbrev pub so_far : ℕ → Part
  so_far n = heading (place_of cell x) stamp older n x

  pub head_starts : (u : View) → u ≡ v → HeadLoop v who (so_far 0) u
  head_starts u same = record {
    known = subst IsKnown (sym same) known;
    view_is = same ∙ sym (ap (λ (y : Part). with_part who y v) (none_headed cell (place_of cell x) stamp older x at refl) ∙ with_part-same who x v known.in_order has);
  }

  module _ (u : View) (n : ℕ) (low : n < 6) (loop : HeadLoop v who (so_far n) u) where
    abbrev told_value : ℕ
    told_value = head_value_at stamp older (head_word_at n)

    guarded : store_cell (place_of cell x) cell (head_word_at n) told_value (so_far n) ≡ Some (so_far (n + 1))
    guarded = head_stored cell (place_of cell x) stamp older x at refl n low

    there : place_of cell (so_far n) ≡ place_of cell x
    there = head_placed cell (place_of cell x) stamp older x at refl n

    pub head_held : part_in u who ≡ Some (so_far n)
    head_held = changed_here v who u (so_far n) x has loop.view_is

    pub head_place : place_of cell (part_of u who) ≡ place_of cell x
    head_place = ap (place_of cell) (part_of-changed v who u (so_far n) x has loop.view_is) ∙ there

    pub head_owns : Owns cell (part_of u who)
    head_owns =
        owns_now v who x has u (so_far n) loop.view_is cell (head_word_at n) told_value (place_of cell x) there (so_far (n + 1)) guarded
        (head_owned cell (place_of cell x) stamp older x at refl n)

    -- the word that is stored, and its value
    module _ (w : CellWord) (w_is : w ≡ head_word_at n) (number : ℕ) (number_is : number ≡ head_value_at stamp older (head_word_at n)) where
      pub head_within : IsInCell w
      head_within = subst IsInCell (sym w_is) (within_cell n)

      pub head_ready : Ready u who (own_kind (part_of u who) cell w number)
      head_ready =
          subst (λ (m : ℕ). Ready u who (own_kind (part_of u who) cell w m)) (sym number_is)
          (subst (λ (z : CellWord). Ready u who (own_kind (part_of u who) cell z told_value)) (sym w_is)
          (ready_placed v who x has u (so_far n) loop.view_is cell (head_word_at n) told_value (place_of cell x) there (so_far (n + 1)) guarded))

      pub head_goes_on : (t : View) → (found : ℕ) × Told u who (own_kind (part_of u who) cell w number) found t → HeadLoop v who (so_far (n + 1)) t
      head_goes_on t told = record {
        known = known_after u who (own_kind (part_of u who) cell w number) told.0 t told.1;
        view_is = placed_is v who x has u (so_far n) loop.view_is cell (head_word_at n) told_value (place_of cell x) there (so_far (n + 1)) guarded told.0 t
            (subst (λ (z : CellWord). Told u who (own_kind (part_of u who) cell z told_value) told.0 t) w_is
            (subst (λ (m : ℕ). Told u who (own_kind (part_of u who) cell w m) told.0 t) number_is told.1));
      }

  pub did_head : (u : View) (n : ℕ) → n ≡ 6 → HeadLoop v who (so_far n) u → DidStoreHead v who cell u
  did_head u n all loop = record {
    view_is = loop.view_is ∙ ap (λ (m : ℕ). with_part who (so_far m) v) all ∙ ap (λ (y : Part). with_part who y v) (all_headed cell (place_of cell x) stamp older x at refl);
    known = loop.known;
  }
