-- The row of a version in hand, or of the one that the newest claim overwrites, loaded word after word.
use Rattle.std.proofs.Common.{◌≡◌, ℕ, ◌+◌, ◌<◌, ◌≤◌, Bool, true, false, ◌&&◌, ◌||◌, List, [], ◌∷◌, length, set, get_or, take, Some, refl, sym, ap, ◌∙◌, subst, arith}
use Rattle.std.proofs.lemmas.List.{get_or-set_same, length-set, take-set, take_all, take_more_same}
use Rattle.erm_model.specs.Member.{◌∈◌}
use Rattle.erm_model.proofs.Members.{∈-at}
use Rattle.erm_machine.specs.declared.attempt.Claim.{Claim}
use Rattle.erm_machine.specs.declared.attempt.Read.{Read}
use Rattle.erm_machine.specs.declared.limits.TheConstants.{OBJECT_LIMIT}
use Rattle.erm_machine.specs.declared.part.Part.{Part}
use Rattle.erm_machine.specs.declared.task.Task.{Task}
use Rattle.erm_machine.specs.declared.task.Task.TheVariants as task
use Rattle.erm_machine.specs.declared.version.CellWord.TheVariants as word
use Rattle.erm_machine.specs.declared.version.VersionAt.{VersionAt}
use Rattle.erm_machine.specs.Chains.{NamedInHand}
use Rattle.erm_machine.specs.Bounds.{IsBounded}
use Rattle.erm_machine.specs.Core.{Core, Shared, claim_at, no_claim, version_word, word_at}
use Rattle.erm_machine.specs.Decided.{IsRead, MarkInHand}
use Rattle.erm_machine.specs.Facts.{all_of}
use Rattle.erm_machine.specs.Reading.{may_load_row, may_copy_row}
use Rattle.erm_machine.specs.Seat.{is_active, last_claim, when}
use Rattle.erm_machine.specs.Sound.{Sound}
use Rattle.erm_machine.specs.Step.{reads_early, unless}
use Rattle.erm_machine.specs.Written.{Copying}
use Rattle.erm_machine.proofs.Listed.{∈-head, ∈-second}
use Rattle.erm_rule.specs.declared.view.View.{View}
use Rattle.erm_rule.specs.Hands.{IsKnown, in_hand, walk_kind}
use Rattle.erm_rule.specs.Steps.{Ready, Told}
use Rattle.erm_rule.specs.Views.{part_in, part_of}
use Rattle.erm_rule.proofs.Parts.{with_part-same}
use Rattle.erm_cells.specs.Hands.{copied_kind, newest_claimed}
use Rattle.erm_cells.specs.Rows.{DidLoadBase, DidLoadRow, MayLoadRow}
use Rattle.erm_cells.proofs.Heads.{has, same_self}
use Rattle.erm_cells.proofs.Views.{when_true, both, ready_at, told_is}

-- GUARDS. The load of a word of the row leaves the part.
either : (a b : Bool) → a ≡ true → (a || b) ≡ true
either a b e = cc

or_else : (a b : Bool) → b ≡ true → (a || b) ≡ true
or_else true b e = refl
or_else false b e = e

row_loads : (seat k : ℕ) (x : Part) (t : Task) → is_active x.place ≡ true → MayLoadRow t
    → unless (reads_early seat (word.Row k) t) (when (is_active x.place && (may_load_row (in_hand t) t || may_copy_row (in_hand t) x t)) x) ≡ Some x
row_loads seat k x (task.Registered version) active may = when_true _ x (both _ _ active (either _ _ (same_self version)))
row_loads seat k x (task.Overtaken version overwriter) active may = when_true _ x (both _ _ active (either _ _ (same_self version)))
row_loads seat k x (task.Rated version) active may = when_true _ x (both _ _ active (either _ _ (same_self version)))
row_loads seat k x _ active may = absurd may

base_loads : (seat k : ℕ) (x : Part) (t : Task) → is_active x.place ≡ true → t ≡ task.Copies 0
    → unless (reads_early seat (word.Row k) t) (when (is_active x.place && (may_load_row (newest_claimed x) t || may_copy_row (newest_claimed x) x t)) x) ≡ Some x
base_loads seat k x t active at =
    subst (λ (u : Task). unless (reads_early seat (word.Row k) u) (when (is_active x.place && (may_load_row (newest_claimed x) u || may_copy_row (newest_claimed x) x u)) x) ≡ Some x) (sym at)
    (when_true _ x (both _ _ active (same_self (newest_claimed x))))

-- A SOUND STATE. A version read has the row of the read, and one overwritten the base of the claim; both have 16 words.
module _ (c : Core) (p : ℕ) (sound : Sound c) where
  now_in : (c.seats p).current ∈ all_of (c.seats p)
  now_in = ∈-second (c.seats p).over ((c.seats p).current ∷ []) (c.seats p).current (∈-head (c.seats p).current [])

  pub read_word : (r : Read) (k : ℕ) → r ∈ (c.seats p).current.reads → get_or r.row k 0 ≡ word_at c (version_word r.version (word.Row k))
  read_word r k m = ap (λ (l : List ℕ). get_or l k 0) (sym ((sound.own p).snapshot.reads (c.seats p).current r now_in m).row)

  pub read_size : (r : Read) → r ∈ (c.seats p).current.reads → length r.row ≡ 16
  read_size r m =
      let fits = (sound.own p).snapshot.reads (c.seats p).current r now_in m in
      ap (λ (l : List ℕ). length l) (sym fits.row) ∙ sound.common.rowed.rows r.version.oid r.version.place fits.named.object fits.named.within

  module _ (k : ℕ) (within : k < length (c.seats p).current.writes) where
    abbrev w : Claim
    w = claim_at (c.seats p).current k

    pub base_word : (j : ℕ) → get_or w.base j 0 ≡ word_at c (version_word w.version (word.Row j))
    base_word j = ap (λ (l : List ℕ). get_or l j 0) ((sound.own p).written.rows (c.seats p).current w now_in (∈-at (c.seats p).current.writes k no_claim within)).base

    pub base_size : Copying (c.seats p).task → k ≡ last_claim (c.seats p).current → length w.base ≡ 16
    base_size copying last =
        let fits = (sound.own p).written.rows (c.seats p).current w now_in (∈-at (c.seats p).current.writes k no_claim within) in
        let bare : w.is_set ≡ false = ap (λ n. (claim_at (c.seats p).current n).is_set) last ∙ (sound.own p).written.copying copying in
        ap (λ (l : List ℕ). length l) (sym (fits.kept bare)) ∙ fits.size

-- the rows that are meant: those of the reads of the version in hand, or the one that the newest claim overwrites
abbrev pub RowOfRead : Part → List ℕ → Type 0
RowOfRead x row = (r : Read) × (r ∈ x.current.reads) × (r.version ≡ in_hand x.task) × (row ≡ r.row)

abbrev pub RowOfBase : Part → List ℕ → Type 0
RowOfBase x row = row ≡ (claim_at x.current (last_claim x.current)).base

-- A LOOP over a row's words: those loaded so far are those of each row that is meant.
pub record LoadLoop (v : View) (k : ℕ) (meant : List ℕ → Type 0) (row : List ℕ) (u : View) : Type 0 where
  pub same : u ≡ v
  pub size : length row ≡ 16
  pub front : (r : List ℕ) → meant r → take k row ≡ take k r

-- none yet
pub load_starts : (v : View) (meant : List ℕ → Type 0) (row : List ℕ) → length row ≡ 16 → LoadLoop v 0 meant row v
load_starts v meant row size = record { same = refl; size = size; front = λ r m. refl }

-- one more word, and all
more : (row r : List ℕ) (k found : ℕ) → length row ≡ 16 → length r ≡ 16 → k < 16 → take k row ≡ take k r → get_or r k 0 ≡ found → take (k + 1) (set row k found) ≡ take (k + 1) r
more row r k found size all low front is =
    let n = length-set row k found in
    take_more_same (set row k found) r k 0 (omega (arith, n, size, low)) (omega (arith, all, low)) (take-set row k found ∙ front) (get_or-set_same row k found 0 (omega (arith, size, low)) ∙ sym is)

full : (row r : List ℕ) (k : ℕ) → 16 ≤ k → length row ≡ 16 → length r ≡ 16 → take k row ≡ take k r → row ≡ r
full row r k high size all front = sym (take_all k row (omega (arith, size, high))) ∙ front ∙ take_all k r (omega (arith, all, high))

module _ (v : View) (who : ℕ) (active : is_active (part_of v who).place ≡ true) (known : IsKnown v) where
  abbrev x : Part
  x = part_of v who

  here : known.core.seats who ≡ x
  here = known.is_view who x (has v who active)

  -- the row of a version in hand
  module _ (may : MayLoadRow (part_of v who).task) where
    meant_size : (row : List ℕ) → RowOfRead x row → length row ≡ 16
    meant_size row m =
        ap (λ (l : List ℕ). length l) m.3
        ∙ subst (λ (z : Part). m.0 ∈ z.current.reads → length m.0.row ≡ 16) here (λ among. read_size known.core who known.sound m.0 among) m.1

    object_of : (t : Task) → MayLoadRow t → (s : Shared) → NamedInHand s t → (in_hand t).oid < OBJECT_LIMIT
    object_of (task.Registered version) m s named = named.object
    object_of (task.Overtaken version overwriter) m s named = named.object
    object_of (task.Rated version) m s named = named.object
    object_of _ m s named = absurd m

    module _ (u : View) (k : ℕ) (low : k < 16) (row : List ℕ) (loop : LoadLoop v k (RowOfRead x) row u) where
      pub load_held : part_in u who ≡ Some x
      load_held = ap (λ (w : View). part_in w who) loop.same ∙ has v who active

      pub load_object : (in_hand (part_of u who).task).oid < OBJECT_LIMIT
      load_object =
          subst (λ (u : View). (in_hand (part_of u who).task).oid < OBJECT_LIMIT) (sym loop.same)
          (object_of x.task may known.core.shared (subst (λ (z : Part). NamedInHand known.core.shared z.task) here (known.sound.own who).chains.named))

      ready_here : Ready v who (walk_kind x (word.Row k))
      ready_here = ready_at v who (walk_kind x (word.Row k)) x (has v who active) (λ c. x) (λ c sound. row_loads who k x x.task active may)

      pub load_ready : Ready u who (walk_kind (part_of u who) (word.Row k))
      load_ready = subst (λ (u : View). Ready u who (walk_kind (part_of u who) (word.Row k))) (sym loop.same) ready_here

      module _ (found : ℕ) (t : View) (told : Told u who (walk_kind (part_of u who) (word.Row k)) found t) where
        told_here : Told v who (walk_kind x (word.Row k)) found t
        told_here = subst (λ (u : View). Told u who (walk_kind (part_of u who) (word.Row k)) found t) loop.same told

        same_now : t ≡ v
        same_now =
            told_is v who (walk_kind x (word.Row k)) found t x x (has v who active) told_here (row_loads who k x x.task active may)
            ∙ with_part-same who x v known.in_order (has v who active)

        word_is : (r : List ℕ) → RowOfRead x r → get_or r k 0 ≡ found
        word_is r m =
            let before : told_here.before.seats who ≡ x = told_here.is_view who x (has v who active) in
            let in_state = subst (λ (z : Part). m.0 ∈ z.current.reads → get_or m.0.row k 0 ≡ word_at told_here.before (version_word m.0.version (word.Row k))) before
            (λ among. read_word told_here.before who told_here.sound m.0 k among) m.1 in
            ap (λ (l : List ℕ). get_or l k 0) m.3 ∙ in_state ∙ ap (λ (u : VersionAt). word_at told_here.before (version_word u (word.Row k))) m.2 ∙ told_here.met

        pub load_goes_on : LoadLoop v (k + 1) (RowOfRead x) (set row k found) t
        load_goes_on = record {
          same = same_now;
          size = length-set row k found ∙ loop.size;
          front = λ r m. more row r k found loop.size (meant_size r m) low (loop.front r m) (word_is r m);
        }

    is_read : (t : Task) → MayLoadRow t → (s : Shared) → MarkInHand s x.current t → IsRead x.current (in_hand t)
    is_read (task.Registered version) m s mark = mark
    is_read (task.Overtaken version overwriter) m s mark = mark.2
    is_read (task.Rated version) m s mark = mark
    is_read _ m s mark = absurd m

    read : IsRead x.current (in_hand x.task)
    read = is_read x.task may known.core.shared (subst (λ (z : Part). MarkInHand known.core.shared z.current z.task) here (known.sound.own who).decided.in_hand)

    pub did_load : (u : View) (row : List ℕ) (k : ℕ) → 16 ≤ k → LoadLoop v k (RowOfRead x) row u → DidLoadRow v who row u
    did_load u row k all loop = record {
      view_is = loop.same;
      known = subst IsKnown (sym loop.same) known;
      read = read;
      row_is = λ r among is. full row r.row k all loop.size (meant_size r.row (r, among, is, refl)) (loop.front r.row (r, among, is, refl));
    }

  -- the row that the newest claim overwrites
  module _ (copies : (part_of v who).task ≡ task.Copies 0) where
    abbrev newest : Claim
    newest = claim_at x.current (last_claim x.current)

    some : 0 < length x.current.writes
    some = (subst (IsBounded who x.current) copies (subst (λ (z : Part). IsBounded who z.current z.task) here (known.sound.own who).bounds.bounded)).0

    last_within : last_claim x.current < length x.current.writes
    last_within = omega (arith, some)

    base_all : length newest.base ≡ 16
    base_all =
        subst (λ (z : Part). last_claim z.current < length z.current.writes → Copying z.task → length (claim_at z.current (last_claim z.current)).base ≡ 16) here
        (λ within copying. base_size known.core who known.sound (last_claim (known.core.seats who).current) within copying refl) last_within (subst Copying (sym copies) tt)

    pub base_object : newest.version.oid < OBJECT_LIMIT
    base_object =
        subst (λ (z : Part). last_claim z.current < length z.current.writes → (newest_claimed z).oid < OBJECT_LIMIT) here
        (λ within. (known.sound.own who).claims.objects (last_claim (known.core.seats who).current) within) last_within

    module _ (u : View) (k : ℕ) (low : k < 16) (row : List ℕ) (loop : LoadLoop v k (RowOfBase x) row u) where
      pub copied_ready : Ready u who (copied_kind (part_of u who) k)
      copied_ready =
          subst (λ (u : View). Ready u who (copied_kind (part_of u who) k)) (sym loop.same)
          (ready_at v who (copied_kind x k) x (has v who active) (λ c. x) (λ c sound. base_loads who k x x.task active copies))

      pub copied_held : part_in u who ≡ Some x
      copied_held = ap (λ (w : View). part_in w who) loop.same ∙ has v who active

      pub copied_object : (newest_claimed (part_of u who)).oid < OBJECT_LIMIT
      copied_object = subst (λ (u : View). (newest_claimed (part_of u who)).oid < OBJECT_LIMIT) (sym loop.same) base_object

      module _ (found : ℕ) (t : View) (told : Told u who (copied_kind (part_of u who) k) found t) where
        copied_here : Told v who (copied_kind x k) found t
        copied_here = subst (λ (u : View). Told u who (copied_kind (part_of u who) k) found t) loop.same told

        copied_same : t ≡ v
        copied_same =
            told_is v who (copied_kind x k) found t x x (has v who active) copied_here (base_loads who k x x.task active copies)
            ∙ with_part-same who x v known.in_order (has v who active)

        base_is : get_or newest.base k 0 ≡ found
        base_is =
            let before : copied_here.before.seats who ≡ x = copied_here.is_view who x (has v who active) in
            subst (λ (z : Part). last_claim z.current < length z.current.writes
            → get_or (claim_at z.current (last_claim z.current)).base k 0 ≡ word_at copied_here.before (version_word (newest_claimed z) (word.Row k))) before
            (λ within. base_word copied_here.before who copied_here.sound (last_claim (copied_here.before.seats who).current) within k) last_within
            ∙ copied_here.met

        pub base_goes_on : LoadLoop v (k + 1) (RowOfBase x) (set row k found) t
        base_goes_on = record {
          same = copied_same;
          size = length-set row k found ∙ loop.size;
          front = λ r is. more row r k found loop.size (ap (λ (l : List ℕ). length l) is ∙ base_all) low (loop.front r is) (ap (λ (l : List ℕ). get_or l k 0) is ∙ base_is);
        }

    pub did_base : (u : View) (row : List ℕ) (k : ℕ) → 16 ≤ k → LoadLoop v k (RowOfBase x) row u → DidLoadBase v who row u
    did_base u row k all loop = record {
      view_is = loop.same;
      known = subst IsKnown (sym loop.same) known;
      row_is = full row newest.base k all loop.size base_all (loop.front newest.base refl);
    }
