-- Steps of settle: what counts for the exclusion window, the block's words, what a decided transaction leaves behind; and
-- the end of one that aborts.
use Rattle.std.specs.Prelude.{◌-◌, ℕ, ◌+◌, Bool, true, false, not, ◌&&◌, ◌||◌, ◌==◌, nat_lt, nat_le, if◌then◌else◌, [], ◌∷◌, ◌++◌, length, take, Option, Some, None}
use Rattle.erm_machine.specs.declared.limits.TheConstants.{RING_WORDS}
use Rattle.erm_machine.specs.declared.attempt.Attempt.{Attempt}
use Rattle.erm_machine.specs.declared.attempt.Claim.{Claim}
use Rattle.erm_machine.specs.declared.part.Part.{Part}
use Rattle.erm_machine.specs.declared.task.Task.{Task}
use Rattle.erm_machine.specs.declared.task.Task.TheVariants as task
use Rattle.erm_machine.specs.declared.version.CellWord.{CellWord}
use Rattle.erm_machine.specs.declared.version.CellWord.TheVariants as word
use Rattle.erm_machine.specs.declared.version.VersionAt.{VersionAt}
use Rattle.erm_machine.specs.Core.{claim_at}
use Rattle.erm_machine.specs.Reading.{stored_own, load_active_stamp, store_row_word}
use Rattle.erm_machine.specs.Seat.{when, with_task, is_active, is_sealed, is_decided, is_commit, end_of, with_pred, with_succ, with_claim, last_claim, read_at, same_version, cells_of, is_own}
use Rattle.erm_machine.specs.Words.{head_of, owner_of, without_bit}

-- SETTLE: the ring has room for the block
abbrev pub has_room : ℕ → Attempt → Bool
has_room flushed t = nat_le t.size RING_WORDS && nat_le (t.stamp - (RING_WORDS - t.size)) flushed

-- settle may begin, or begin anew: it stores no words of the block yet
abbrev pub may_settle : Task → Bool
may_settle task.Rest = true
may_settle (task.Settles reads writes) = true
may_settle (task.ReadOwned read owner) = true
may_settle (task.ReadClear read) = true
may_settle (task.ReadOvertaken read overwriter) = true
may_settle (task.ReadersLeft write bits) = true
may_settle (task.WriteClear write) = true
may_settle (task.WriteMade write) = true
may_settle _ = false

-- SETTLE begins, or begins anew where it waited, once the ring has room for the block
abbrev pub load_flushed_to_settle : ℕ → Part → Part
load_flushed_to_settle found x = if is_sealed x.place && may_settle x.task && has_room found x.current then with_task (task.Settles 0 0) x else x

-- SETTLE, a version read: the entry of a version read. Where its head is that version and another seat owns it, that one is looked at.
abbrev pub load_read_entry : ℕ → ℕ → ℕ → Part → Task → Option Part
load_read_entry seat oid found x (task.Settles reads writes) =
    when (is_sealed x.place && nat_lt reads (length x.current.reads) && (oid == (read_at x.current reads).version.oid))
    (with_task
    (if (head_of found == (read_at x.current reads).version.cell) && not (owner_of found == 0) && not (owner_of found == seat)
    then task.ReadOwned reads (owner_of found)
    else task.ReadClear reads) x)
load_read_entry seat oid found x _ = None

-- SETTLE, a version overwritten: the reader bits of a version overwritten. The other seats among them are looked at.
abbrev pub load_readers : ℕ → VersionAt → ℕ → Part → Task → Option Part
load_readers seat v found x (task.Settles reads writes) =
    when (is_sealed x.place && (reads == length x.current.reads) && nat_lt writes (length x.current.writes) && same_version v (claim_at x.current writes).version)
    (with_task (if without_bit found seat == 0 then task.WriteClear writes else task.ReadersLeft writes (without_bit found seat)) x)
load_readers seat v found x _ = None

-- SETTLE, a version read: the overwriter's stamp counts where it isn't 0 and below the own one, by the overwriter's successor stamp.
-- SETTLE, a version overwritten: the creator's stamp and the reader stamp count for the predecessor stamp.
abbrev pub load_settled_stamp : ℕ → VersionAt → CellWord → Part → Task → Option Part
load_settled_stamp found v word.Overwriter x (task.ReadClear read) =
    when (same_version v (read_at x.current read).version && nat_lt read (length x.current.reads))
    (with_task (if nat_lt 0 found && nat_lt found x.current.stamp then task.ReadOvertaken read found else task.Settles (read + 1) 0) x)
load_settled_stamp found v word.OverwriterSucc x (task.ReadOvertaken read overwriter) =
    when (same_version v (read_at x.current read).version && nat_lt read (length x.current.reads))
    (record x { task = task.Settles (read + 1) 0; current = with_succ found overwriter x.current })
load_settled_stamp found v word.Stamp x (task.WriteClear write) =
    when (same_version v (claim_at x.current write).version) (record x { task = task.WriteMade write; current = with_pred found x.current })
load_settled_stamp found v word.ReaderStamp x (task.WriteMade write) =
    when (same_version v (claim_at x.current write).version && nat_lt write (length x.current.writes))
    (record x { task = task.Settles (length x.current.reads) (write + 1); current = with_pred found x.current })
load_settled_stamp found v _ x _ = None

abbrev pub load_stamp : ℕ → VersionAt → CellWord → Part → Option Part
load_stamp found v w x =
    if is_active x.place then load_active_stamp found v w x x.task
    else if is_sealed x.place then load_settled_stamp found v w x x.task
    else None

-- how many words of the block are stored, where all versions are passed
abbrev pub filled : Attempt → Task → Option ℕ
filled t (task.Settles reads writes) = if (reads == length t.reads) && (writes == length t.writes) then Some 0 else None
filled t (task.Fills words) = Some words
filled t _ = None

-- SETTLE: the words of the block behind its header, in order
abbrev pub store_ring : ℕ → ℕ → Part → Option ℕ → Option Part
store_ring at value x None = None
store_ring at value x (Some words) =
    when
    (is_sealed x.place && nat_lt x.current.stamp at && ((at - x.current.stamp - 1) == words) && nat_lt words x.current.size
    && nat_lt (words + 1) x.current.size)
    (record x { task = task.Fills (words + 1); current = record x.current { block = x.current.block ++ value ∷ [] } })

-- END: a committed transaction raises the reader stamp of each version read to its stamp
abbrev pub raise_reader : VersionAt → ℕ → Part → Task → Option Part
raise_reader v value x (task.Ends raised ended step cleared) =
    when
    (is_decided x.place && is_commit x.current.decision && nat_lt raised (length x.current.reads)
    && same_version v (read_at x.current raised).version && (value == x.current.stamp))
    (with_task (task.Ends (raised + 1) ended step cleared) x)
raise_reader v value x _ = None

-- a committed transaction installs its claims, one after another, once all reader stamps are raised
abbrev pub installs : ℕ → ℕ → ℕ → Part → Bool
installs raised ended step x =
    is_decided x.place && is_commit x.current.decision && (raised == length x.current.reads) && nat_lt ended (length x.current.writes)

-- the words of a new version before its row, in the order in which they are stored, with their values
abbrev pub head_word : ℕ → CellWord → Bool
head_word step word.Stamp = step == 0
head_word step word.Link = step == 1
head_word step word.Readers = step == 2
head_word step word.ReaderStamp = step == 3
head_word step word.Overwriter = step == 4
head_word step word.OverwriterSucc = step == 5
head_word step (word.Row k) = false

abbrev pub head_value : Attempt → Claim → CellWord → ℕ
head_value t claim word.Stamp = t.stamp
head_value t claim word.Link = claim.version.cell + 1
head_value t claim word.ReaderStamp = t.stamp
head_value t claim _ = 0

abbrev pub store_head_word : ℕ → ℕ → CellWord → ℕ → Part → Task → Option Part
store_head_word place cell w value x (task.Ends raised ended step cleared) =
    when
    (installs raised ended step x && (place == ended) && is_own cell (claim_at x.current place).own && head_word step w && nat_lt step 6
    && (value == head_value x.current (claim_at x.current place) w))
    (record x {
      task = task.Ends raised ended (step + 1) cleared;
      current = stored_own place w value x.current;
    })
store_head_word place cell w value x _ = None

abbrev pub store_active_word : ℕ → ℕ → CellWord → ℕ → Part → Option Part
store_active_word place cell (word.Row k) value x = store_row_word place cell k value x x.task
store_active_word place cell _ value x = None

abbrev pub store_cell : ℕ → ℕ → CellWord → ℕ → Part → Option Part
store_cell place cell w value x =
    if is_active x.place then store_active_word place cell w value x else store_head_word place cell w value x x.task

-- END: the overwritten cell gets the successor stamp, and then the stamp
abbrev pub mark_overwritten : ℕ → VersionAt → ℕ → ℕ → Part → Task → Option Part
mark_overwritten nth v value wanted x (task.Ends raised ended step cleared) =
    when (installs raised ended step x && (step == nth) && same_version v (claim_at x.current ended).version && (value == wanted))
    (with_task (task.Ends raised ended (step + 1) cleared) x)
mark_overwritten nth v value wanted x _ = None

abbrev pub store_succ : VersionAt → ℕ → Part → Option Part
store_succ v value x = mark_overwritten 6 v value x.current.succ x x.task

abbrev pub store_overwriter : VersionAt → ℕ → Part → Option Part
store_overwriter v value x = mark_overwritten 7 v value x.current.stamp x x.task

-- the claim at a place is over: its entry and its cell are no longer this transaction's
abbrev pub without_entry : ℕ → Attempt → Attempt
without_entry place t = with_claim place (record (claim_at t place) { held = false; own = None }) t

-- the claim at a place is over, and its cell is a spare one
abbrev pub given_back : ℕ → Part → Part
given_back place x = record x {
  current = without_entry place x.current;
  spare = x.spare ++ cells_of (claim_at x.current place).own;
}

-- whether an install adds a version: the transaction committed
abbrev pub adds_version : Part → Bool
adds_version x = is_decided x.place && is_commit x.current.decision

-- END: a committed transaction stores the entry with the own cell for its head
abbrev pub install_new : ℕ → ℕ → Part → (ℕ × ℕ × ℕ × ℕ) → Option Part
install_new oid head x e =
    when
    (installs e.0 e.1 e.2 x && (e.2 == 8) && (oid == (claim_at x.current e.1).version.oid) && is_own head (claim_at x.current e.1).own)
    (record x { task = task.Ends e.0 (e.1 + 1) 0 e.3; current = without_entry e.1 x.current })

-- END: another stores it with its old head
abbrev pub release_old : ℕ → ℕ → Part → (ℕ × ℕ × ℕ × ℕ) → Option Part
release_old oid head x e =
    when
    ((is_decided x.place || is_active x.place) && nat_lt e.1 (length x.current.writes) && (oid == (claim_at x.current e.1).version.oid)
    && (head == (claim_at x.current e.1).version.cell))
    (with_task (task.Ends e.0 (e.1 + 1) 0 e.3) (given_back e.1 x))

abbrev pub install_claim : ℕ → ℕ → Part → Option (ℕ × ℕ × ℕ × ℕ) → Option Part
install_claim oid head x None = None
install_claim oid head x (Some e) = if adds_version x then install_new oid head x e else release_old oid head x e

-- the newest claim is none any more, and its object is noted
abbrev pub without_newest : Attempt → Attempt
without_newest t = record t {
  writes = take (last_claim t) t.writes;
  given_up = t.given_up ++ (claim_at t (last_claim t)).version.oid ∷ [];
}

-- CLAIM: where there is no cell the entry is released again, and the claim is given up
abbrev pub unclaim : ℕ → ℕ → Part → Option Part
unclaim oid head x =
    when
    (is_active x.place && nat_lt 0 (length x.current.writes) && (oid == (claim_at x.current (last_claim x.current)).version.oid)
    && (head == (claim_at x.current (last_claim x.current)).version.cell))
    (record x { task = task.Rest; current = without_newest x.current })

abbrev pub install : ℕ → ℕ → Part → Task → Option Part
install oid head x task.Refused = unclaim oid head x
install oid head x t = install_claim oid head x (end_of t)

-- END: the own reader bits are cleared, once all claims are over
abbrev pub clear_reader : VersionAt → Part → Option (ℕ × ℕ × ℕ × ℕ) → Option Part
clear_reader v x None = None
clear_reader v x (Some e) =
    when
    ((is_decided x.place || is_active x.place) && (e.1 == length x.current.writes) && nat_lt e.3 (length x.current.reads)
    && (not (is_commit x.current.decision) || (e.0 == length x.current.reads)) && same_version v (read_at x.current e.3).version)
    (with_task (task.Ends e.0 e.1 e.2 (e.3 + 1)) x)
