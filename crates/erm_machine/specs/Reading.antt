-- Steps of a read and of a claim, of a cut, and of a write into an own cell.
use Rattle.std.specs.Cmp.Lexicographic.{pointwise}
use Rattle.std.specs.List.{list_any}
use Rattle.std.specs.Prelude.{ℕ, ◌+◌, ◌-◌, ◌%◌, ◌^◌, Bool, true, false, not, ◌&&◌, ◌||◌, ◌==◌, nat_eq, nat_lt, if◌then◌else◌, List, [], ◌∷◌, ◌++◌, length, slice_index, slice_index_or, slice_set, take, drop, map, Option, Some, None, is_none}
use Rattle.erm_machine.specs.declared.limits.TheConstants.{OBJECT_LIMIT, READ_LIMIT, WRITE_LIMIT}
use Rattle.erm_machine.specs.declared.attempt.Attempt.{Attempt}
use Rattle.erm_machine.specs.declared.attempt.Claim.{Claim}
use Rattle.erm_machine.specs.declared.attempt.OwnCell.{OwnCell}
use Rattle.erm_machine.specs.declared.event.Counter.{Counter}
use Rattle.erm_machine.specs.declared.event.Counter.TheVariants.{Objects, Cells}
use Rattle.erm_machine.specs.declared.part.Part.{Part}
use Rattle.erm_machine.specs.declared.task.Task.{Task}
use Rattle.erm_machine.specs.declared.task.Task.TheVariants as task
use Rattle.erm_machine.specs.declared.version.CellWord.{CellWord}
use Rattle.erm_machine.specs.declared.version.CellWord.TheVariants as word
use Rattle.erm_machine.specs.declared.version.VersionAt.{VersionAt}
use Rattle.erm_machine.specs.Core.{Object, newest, version_at, claim_at}
use Rattle.erm_machine.specs.Seat.{when, with_task, with_current, is_active, is_rest, is_safe, may_start, with_pred, with_succ, with_claim, last_claim, same_version, is_own}
use Rattle.erm_machine.specs.Words.{head_of, owner_of, set_word, blank_cell, is_session}

-- the version at the head of an object's chain, by the entry that names its cell
abbrev pub head_version : ℕ → ℕ → Object → VersionAt
head_version oid entry o = record { oid = oid; place = newest o; cell = head_of entry }

-- the next older version, by the link that was found
abbrev pub older : VersionAt → ℕ → VersionAt
older v link = record { oid = v.oid; place = v.place - 1; cell = (link - 1) % 2 ^ 32 }

-- An entry was loaded: another owner is to be looked at; under the own one the chain may be cut once more; else the head is
-- in hand.
abbrev pub entered : ℕ → ℕ → ℕ → Object → Task
entered seat oid entry o =
    if owner_of entry == 0 then task.Walks (head_version oid entry o) (Some entry)
    else if owner_of entry == seat then task.Claimed (head_version oid entry o)
    else task.Owned oid (owner_of entry)

-- READ of a safe snapshot: the head is in hand, whoever owns the entry
abbrev pub load_safe_entry : ℕ → ℕ → Object → Part → Option Part
load_safe_entry oid found o x = when (is_active x.place) (with_task (task.SafeWalks (head_version oid found o)) x)

-- READ, CLAIM: load the entry; once its owner was found clear, the second load is used whoever owns it then
abbrev pub load_entry : ℕ → ℕ → ℕ → Object → Part → Task → Option Part
load_entry seat oid found o x (task.Cleared cleared) =
    when (is_active x.place)
    (with_task (if oid == cleared then task.Walks (head_version oid found o) None else entered seat oid found o) x)
load_entry seat oid found o x t =
    if is_safe t then load_safe_entry oid found o x else when (is_active x.place && may_start t) (with_task (entered seat oid found o) x)

-- a new claim: it overwrites this version, and its row stays until a write sets it
abbrev pub new_claim : VersionAt → ℕ → List ℕ → Claim
new_claim version stamp base = record { version = version; stamp = stamp; base = base; row = base; own = None; is_set = false; held = true }

-- An exchange met another entry than that of the version seen. A version in another cell, whose entry has no owner, became the head
-- since then, so its stamp isn't below the begin stamp: it is passed. Else the entry is as if loaded.
abbrev pub lost : ℕ → ℕ → ℕ → VersionAt → Object → Task
lost seat oid entry v o =
    if owner_of entry == 0 && not (head_of entry == v.cell) then task.Passed (head_version oid entry o) else entered seat oid entry o

-- CLAIM: the exchange, where the entry still is the one seen
abbrev pub claim : ℕ → ℕ → ℕ → ℕ → ℕ → Object → Part → Task → Option Part
claim seat oid seen number found o x (task.Found version stamp (Some entry)) =
    when
    (is_active x.place && is_session seat && (oid == version.oid) && (seen == entry) && (number == x.current.number) && nat_lt (length x.current.writes) WRITE_LIMIT)
    (record x {
      task = if found == seen then task.Claimed version else lost seat oid found version o;
      current = record x.current {
        writes = if found == seen then x.current.writes ++ new_claim version stamp (version_at o version.place).words.row ∷ [] else x.current.writes;
      };
    })
claim seat oid seen number found o x _ = None

-- the transaction has read some version of the object
abbrev pub has_read : ℕ → Attempt → Bool
has_read oid t = list_any (λ r. r.version.oid == oid) t.reads

-- READ: the own bit is set, and the version counts as read. Of each object one version is read, once.
abbrev pub set_reader : ℕ → VersionAt → Object → Part → Task → Option Part
set_reader seat version o x (task.Found found stamp head) =
    when (is_active x.place && is_session seat && same_version version found && nat_lt (length x.current.reads) READ_LIMIT
    && not (has_read version.oid x.current))
    (record x {
      task = task.Registered version;
      current = record (with_pred stamp x.current) {
        reads = x.current.reads ++ record { version = version; stamp = stamp; row = (version_at o version.place).words.row } ∷ [];
      };
    })
set_reader seat version o x _ = None

-- after the cut a new claim wants a cell; a chain that was cut once more is done
abbrev pub after_cut : Part → Task
after_cut x = if is_none (claim_at x.current (last_claim x.current)).own then task.Draws else task.Rest

-- the version in hand, whose row may be loaded
abbrev pub may_load_row : VersionAt → Task → Bool
may_load_row v (task.Found version stamp head) = same_version v version
may_load_row v (task.Registered version) = same_version v version
may_load_row v (task.Overtaken version overwriter) = same_version v version
may_load_row v (task.Rated version) = same_version v version
may_load_row v (task.SafeFound version) = same_version v version
may_load_row v _ = false

-- the row of the version that the newest claim overwrites may be loaded, to be copied
abbrev pub may_copy_row : VersionAt → Part → Task → Bool
may_copy_row v x (task.Copies w) = same_version v (claim_at x.current (last_claim x.current)).version
may_copy_row v x _ = false

-- READ, CUT: the stamp of the version in hand. The walk ends at the newest version below its bound. That of a version that was passed may
-- be loaded again.
abbrev pub load_walked_stamp : ℕ → VersionAt → Part → Task → Option Part
load_walked_stamp found v x (task.Walks version head) =
    when (same_version v version) (with_task (if nat_lt found x.current.begin then task.Found version found head else task.Passed version) x)
load_walked_stamp found v x (task.CutWalks version horizon) =
    when (same_version v version) (with_task (if nat_lt found horizon then task.CutFound version horizon else task.CutPassed version horizon) x)
load_walked_stamp found v x (task.SafeWalks version) =
    when (same_version v version) (with_task (if nat_lt found x.current.begin then task.SafeFound version else task.SafePassed version) x)
load_walked_stamp found v x (task.Passed version) = when (same_version v version) (with_task (task.Passed version) x)
load_walked_stamp found v x _ = None

-- READ, CUT: the link of a version that was passed. A cut whose chain ends there cuts nothing.
abbrev pub load_walked_link : ℕ → VersionAt → Part → Task → Option Part
load_walked_link found v x (task.Passed version) =
    when (same_version v version && nat_lt 0 found && nat_lt 0 version.place) (with_task (task.Walks (older version found) None) x)
load_walked_link found v x (task.SafePassed version) =
    when (same_version v version && nat_lt 0 found && nat_lt 0 version.place) (with_task (task.SafeWalks (older version found)) x)
load_walked_link found v x (task.CutPassed version horizon) =
    when (same_version v version) (with_task (if found == 0 then after_cut x else task.CutWalks (older version found) horizon) x)
load_walked_link found v x _ = None

abbrev pub load_cell : ℕ → VersionAt → CellWord → Part → Option Part
load_cell found v word.Stamp x = if is_active x.place then load_walked_stamp found v x x.task else None
load_cell found v word.Link x = if is_active x.place then load_walked_link found v x x.task else None
load_cell found v (word.Row k) x = when (is_active x.place && (may_load_row v x.task || may_copy_row v x x.task)) x
load_cell found v _ x = None

-- CUT goes on to the next version cut off, or has come to the chain's end
abbrev pub detached : ℕ → VersionAt → Part → Task
detached found version x = if found == 0 then after_cut x else task.Detaches (older version found)

-- the cells of the versions that a cut at a place takes off the chain
abbrev pub cut_off : ℕ → Object → List OwnCell
cut_off place o = map (λ v. record { cell = v.cell; words = v.words }) (drop o.cut (take place o.versions))

-- CUT: the link is swapped with 0. The versions behind are cut off, and their cells are spare ones.
abbrev pub swap_link : ℕ → VersionAt → Object → Part → Task → Option Part
swap_link found v o x (task.CutFound version horizon) =
    when (is_active x.place && same_version v version) (record x { task = detached found version x; spare = x.spare ++ cut_off version.place o })
swap_link found v o x _ = None

-- CUT: the links of the versions cut off, one after another, name these cells
abbrev pub load_detached : ℕ → VersionAt → Part → Task → Option Part
load_detached found v x (task.Detaches version) = when (is_active x.place && same_version v version) (with_task (detached found version x) x)
load_detached found v x _ = None

-- the newest claim gets this cell
abbrev pub with_cell : OwnCell → Attempt → Attempt
with_cell own t = with_claim (last_claim t) (record (claim_at t (last_claim t)) { own = Some own }) t

-- FRESH, CLAIM: a counter is loaded before it is raised. There are so many cells.
abbrev pub load_counter : ℕ → Counter → ℕ → Part → Task → Option Part
load_counter cells Objects found x t = when (is_active x.place && may_start t) (with_task (if nat_lt found OBJECT_LIMIT then task.Numbers else task.Rest) x)
load_counter cells Cells found x task.Draws =
    when (is_active x.place && (length x.spare == 0)) (with_task (if nat_lt found cells then task.Pool else task.Refused) x)
load_counter cells Cells found x _ = None

-- FRESH, CLAIM: the number found is this transaction's, where it lies below the limit
abbrev pub add_counter : ℕ → ℕ → Counter → ℕ → Part → Task → Option Part
add_counter cells seat Objects found x task.Numbers =
    when (is_active x.place && is_session seat)
    (record x { task = task.Rest; current = record x.current { made = if nat_lt found OBJECT_LIMIT then x.current.made ++ found ∷ [] else x.current.made } })
add_counter cells seat Cells found x task.Pool =
    when (is_active x.place)
    (record x {
      task = if nat_lt found cells then task.Fetched else task.Refused;
      current = record x.current {
        writes = if nat_lt found cells then (with_cell (record { cell = found; words = blank_cell }) x.current).writes else x.current.writes;
      };
    })
add_counter cells seat _ found x _ = None

-- the last spare cell, if there is one, goes to the newest claim
abbrev pub with_spare : Part → Part
with_spare x = record x {
  spare = take (length x.spare - 1) x.spare;
  current = with_cell (slice_index_or x.spare (length x.spare - 1) (record { cell = 0; words = blank_cell })) x.current;
}

-- CLAIM: the reader stamp of the version overwritten, which is at least its creator's stamp, counts for the predecessor stamp;
-- then its row is copied. A claim without a cell counts for nothing.
abbrev pub rated_claim : ℕ → Part → Part
rated_claim found x = record x { task = task.Copies 0; current = with_pred found x.current }

-- READ: the overwriter's stamp and its successor stamp, which counts for the own one; CLAIM: the reader stamp
abbrev pub load_active_stamp : ℕ → VersionAt → CellWord → Part → Task → Option Part
load_active_stamp found v word.Overwriter x (task.Registered version) =
    when (same_version v version) (with_task (if found == 0 then task.Rated version else task.Overtaken version found) x)
load_active_stamp found v word.OverwriterSucc x (task.Overtaken version overwriter) =
    when (same_version v version) (record x { task = task.Rated version; current = with_succ found overwriter x.current })
load_active_stamp found v word.ReaderStamp x task.Draws =
    when (same_version v (claim_at x.current (last_claim x.current)).version && nat_lt 0 (length x.spare)) (rated_claim found (with_spare x))
load_active_stamp found v word.ReaderStamp x task.Fetched =
    when (same_version v (claim_at x.current (last_claim x.current)).version) (rated_claim found x)
load_active_stamp found v _ x _ = None

-- the words of a claim's own cell after one is stored
abbrev pub with_own_word : CellWord → ℕ → Option OwnCell → Option OwnCell
with_own_word w value None = None
with_own_word w value (Some own) = Some (record own { words = set_word w value own.words })

-- a word is stored into the own cell of the claim at a place
abbrev pub stored_own : ℕ → CellWord → ℕ → Attempt → Attempt
stored_own place w value t = with_claim place (record (claim_at t place) { own = with_own_word w value (claim_at t place).own }) t

-- a word of the new row is stored, which is set from then on where a write stores it
abbrev pub stored_row : ℕ → ℕ → ℕ → Bool → Attempt → Attempt
stored_row place k value is_set t =
    with_claim place (record (claim_at t place) {
      row = slice_set (claim_at t place).row k value;
      own = with_own_word (word.Row k) value (claim_at t place).own;
      is_set = is_set;
    }) t

-- WRITE starts to store a row
abbrev pub start_row : ℕ → ℕ → ℕ → ℕ → Part → Task → Option Part
start_row place cell k value x t =
    when (may_start t && nat_lt place (length x.current.writes) && is_own cell (claim_at x.current place).own && (k == 0))
    (record x { task = task.Writes place 1; current = stored_row place k value true x.current })

-- CLAIM copies the row of the version overwritten; WRITE stores a row, word after word
abbrev pub store_row_word : ℕ → ℕ → ℕ → ℕ → Part → Task → Option Part
store_row_word place cell k value x (task.Copies w) =
    when ((place == last_claim x.current) && is_own cell (claim_at x.current place).own && (k == w) && nat_lt k 16 && (value == slice_index (claim_at x.current place).base k))
    (record x { task = if (w + 1) == 16 then task.Rest else task.Copies (w + 1); current = stored_row place k value false x.current })
store_row_word place cell k value x (task.Writes claim w) =
    when ((place == claim) && is_own cell (claim_at x.current place).own && (k == w) && nat_lt k 16)
    (record x { task = if (w + 1) == 16 then task.Rest else task.Writes claim (w + 1); current = stored_row place k value true x.current })
store_row_word place cell k value x t = start_row place cell k value x t

-- the own cell has the row of the version that the claim overwrites
abbrev pub has_base : List ℕ → Option OwnCell → Bool
has_base base None = false
has_base base (Some own) = pointwise nat_eq own.words.row base

-- the row of the claim at a place is that of the version overwritten, and no write has set it
abbrev pub without_row : ℕ → Attempt → Attempt
without_row place t = with_claim place (record (claim_at t place) { row = (claim_at t place).base; is_set = false }) t

-- BACK: a claim whose own cell has got the row of the version overwritten again is as if no write had set its row
abbrev pub unset : ℕ → Part → Option Part
unset place x =
    when
    (is_active x.place && is_rest x.task && nat_lt place (length x.current.writes)
    && has_base (claim_at x.current place).base (claim_at x.current place).own)
    (with_current (without_row place x.current) x)
