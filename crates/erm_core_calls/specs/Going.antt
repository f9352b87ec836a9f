-- What it means that a call of several steps goes on, and by which step.
use Rattle.std.specs.Int.{w64, trailing_zeros}
use Rattle.std.specs.Prelude.{◌≡◌, ◌≢◌, ◌⊎◌, ℕ, ◌+◌, ◌<◌, ◌≤◌, Bool, ◌&&◌, not, ◌==◌, nat_lt, if◌then◌else◌, true, false, List, [], ◌∷◌, length, slice_index, slice_index_or, Option, Some, None}
use Rattle.erm_machine.specs.declared.attempt.Attempt.{Attempt}
use Rattle.erm_machine.specs.declared.attempt.OwnCell.{OwnCell}
use Rattle.erm_machine.specs.declared.event.Counter.TheVariants.{Objects, Cells}
use Rattle.erm_machine.specs.declared.event.Kind.{Kind}
use Rattle.erm_machine.specs.declared.event.Kind.TheVariants as kind
use Rattle.erm_machine.specs.declared.event.TailUse.TheVariants as purpose
use Rattle.erm_machine.specs.declared.limits.TheConstants.{GREATEST_BLOCK, LEAST_BLOCK, READ_LIMIT, WRITE_LIMIT}
use Rattle.erm_machine.specs.declared.part.Part.{Part}
use Rattle.erm_machine.specs.declared.place.Place.{Place}
use Rattle.erm_machine.specs.declared.place.Place.TheVariants.{Vacant, Idle, Begun, Announced, Active, Sealing, Drawn, Sealed, Decided, Leaving}
use Rattle.erm_machine.specs.declared.task.Task.{Task}
use Rattle.erm_machine.specs.declared.task.Task.TheVariants as task
use Rattle.erm_machine.specs.declared.version.CellWord.{CellWord}
use Rattle.erm_machine.specs.declared.version.CellWord.TheVariants as word
use Rattle.erm_machine.specs.declared.version.VersionAt.{VersionAt}
use Rattle.erm_machine.specs.Back.{goes_back}
use Rattle.erm_machine.specs.Core.{Core, claim_at}
use Rattle.erm_machine.specs.Life.{is_header}
use Rattle.erm_machine.specs.Reading.{has_read}
use Rattle.erm_machine.specs.Seat.{is_active, is_commit, last_claim, read_at}
use Rattle.erm_machine.specs.Settling.{head_value}
use Rattle.erm_machine.specs.Step.{after_event}
use Rattle.erm_machine.specs.Words.{begin_of, is_clear, is_least_bit, is_session, state_of}

-- The seat is in a call that has a next step of its own. Between calls it isn't; nor where a version is found, which its caller
-- may register or claim, or is rated, so that the read is answered; nor where a snapshot is safe, or has found a version.
abbrev pub IsInCall : Place → Task → Type 0
IsInCall Vacant u = ⊥
IsInCall Idle u = ⊥
IsInCall (Active tail) task.Rest = ⊥
IsInCall (Active tail) (task.Found version stamp head) = ⊥
IsInCall (Active tail) (task.Rated version) = ⊥
IsInCall (Active tail) task.Safe = ⊥
IsInCall (Active tail) (task.SafeFound version) = ⊥
IsInCall (Sealed tail stamp) task.Rest = ⊥
IsInCall p u = Unit {0}

-- What a transaction is to write: the words of a row, and its block of the log, of this size, with these words behind this
-- header.
pub record Written : Type 0 where
  pub row : List ℕ
  pub size : ℕ
  pub word : ℕ → ℕ
  pub header : ℕ

-- The block fits where its step comes to it: a range is drawn of as many words as a block may have, and the header that is
-- stored last is of this transaction, as the exclusion window decides.
abbrev pub FitsAt : Written → Attempt → (run : ℕ) → Place → Task → Type 0
FitsAt b t run (Sealing tail) u = (LEAST_BLOCK ≤ b.size) × (b.size ≤ GREATEST_BLOCK)
FitsAt b t run (Sealed tail stamp) (task.Fills words) = words + 1 ≡ t.size → is_header t run b.header ≡ true
FitsAt b t run p u = Unit {0}

abbrev pub MayWrite : Written → Part → Type 0
MayWrite b x = FitsAt b x.current x.run x.place x.task

-- The number of a claim's own cell, or 0 for none.
abbrev pub own_number : Option OwnCell → ℕ
own_number None = 0
own_number (Some own) = own.cell

-- the number of the own cell of the claim at a place
abbrev pub own_at : Attempt → ℕ → ℕ
own_at t place = own_number (claim_at t place).own

-- the version that the claim at a place overwrites, and the one that the newest claim overwrites
abbrev pub overwrites : Attempt → ℕ → VersionAt
overwrites t place = (claim_at t place).version

abbrev pub newest_of : Attempt → VersionAt
newest_of t = overwrites t (last_claim t)

-- CLAIM: a spare cell is taken with the load of the reader stamp; where there is none the counter is loaded
abbrev pub next_draw : Part → Kind
next_draw x = if nat_lt 0 (length x.spare) then kind.LoadStamp (newest_of x.current) word.ReaderStamp else kind.LoadCounter Cells

-- CLAIM: the next word of the row overwritten is copied into the own cell
abbrev pub next_copy : Attempt → ℕ → Kind
next_copy t k = kind.StoreCell (last_claim t) (own_at t (last_claim t)) (word.Row k) (slice_index (claim_at t (last_claim t)).base k)

-- END: the last steps of each: the own reader bits are cleared, and then the begin word
abbrev pub next_clear : Attempt → ℕ → Kind
next_clear t cleared = if nat_lt cleared (length t.reads) then kind.ClearReader (read_at t cleared).version else kind.StoreBegin 0

-- END of one that doesn't commit: each entry is stored with its old head
abbrev pub next_release : Attempt → (ended cleared : ℕ) → Kind
next_release t ended cleared =
    if nat_lt ended (length t.writes) then kind.Install (overwrites t ended).oid (overwrites t ended).cell else next_clear t cleared

-- the six words of a cell before its row, in the order in which they are stored
abbrev pub head_words : List CellWord
head_words = word.Stamp ∷ word.Link ∷ word.Readers ∷ word.ReaderStamp ∷ word.Overwriter ∷ word.OverwriterSucc ∷ []

abbrev pub next_head_word : Attempt → ℕ → CellWord → Kind
next_head_word t ended w = kind.StoreCell ended (own_at t ended) w (head_value t (claim_at t ended) w)

-- END of a commit: the nine steps of an install
abbrev pub next_install : Attempt → (ended step : ℕ) → Kind
next_install t ended step =
    if nat_lt step 6 then next_head_word t ended (slice_index_or head_words step word.Stamp)
    else if step == 6 then kind.StoreSucc (overwrites t ended) t.succ
    else if step == 7 then kind.StoreOverwriter (overwrites t ended) t.stamp
    else kind.Install (overwrites t ended).oid (own_at t ended)

-- END of a commit that goes back: its stamp is to be stored in the own back word, where it doesn't stand there
abbrev pub wants_back : Attempt → (back : ℕ) → Bool
wants_back t back = goes_back t && not (back == t.stamp)

abbrev pub next_back : Attempt → (back cleared : ℕ) → Kind
next_back t back cleared = if wants_back t back then kind.StoreBack t.stamp else next_clear t cleared

-- END of a commit: reader stamps are raised, then claims are installed, and then the own back word may be stored
abbrev pub next_commit : Attempt → (back raised ended step cleared : ℕ) → Kind
next_commit t back raised ended step cleared =
    if nat_lt raised (length t.reads) then kind.RaiseReader (read_at t raised).version t.stamp
    else if nat_lt ended (length t.writes) then next_install t ended step
    else next_back t back cleared

-- the next step of a decided transaction
abbrev pub next_end : Attempt → (back : ℕ) → Task → Kind
next_end t back (task.Ends raised ended step cleared) =
    if is_commit t.decision then next_commit t back raised ended step cleared else next_release t ended cleared
next_end t back u = kind.LoadFlushed

-- SETTLE: the next word of the block behind its header, so many of which are stored
abbrev pub next_word : Written → Attempt → ℕ → Kind
next_word b t words = kind.StoreRing (t.stamp + 1 + words) (b.word words)

-- SETTLE: the next version read, then the next one overwritten; all passed, the first word of the block
abbrev pub next_passing : Written → Attempt → (reads writes : ℕ) → Kind
next_passing b t reads writes =
    if nat_lt reads (length t.reads) then kind.LoadEntry (read_at t reads).version.oid
    else if nat_lt writes (length t.writes) then kind.LoadReaders (overwrites t writes)
    else next_word b t 0

-- the next step of a sealed transaction
abbrev pub next_settle : Written → Attempt → Task → Kind
next_settle b t (task.Settles reads writes) = next_passing b t reads writes
next_settle b t (task.ReadOwned read owner) = kind.LoadState owner t.stamp
next_settle b t (task.ReadClear read) = kind.LoadStamp (read_at t read).version word.Overwriter
next_settle b t (task.ReadOvertaken read overwriter) = kind.LoadStamp (read_at t read).version word.OverwriterSucc
next_settle b t (task.ReadersLeft write bits) = kind.LoadState (trailing_zeros w64 bits) t.stamp
next_settle b t (task.WriteClear write) = kind.LoadStamp (overwrites t write) word.Stamp
next_settle b t (task.WriteMade write) = kind.LoadStamp (overwrites t write) word.ReaderStamp
next_settle b t (task.Fills words) = if nat_lt (words + 1) t.size then next_word b t words else kind.Decide t.stamp b.header
next_settle b t u = kind.LoadFlushed

-- the next step of an active transaction
abbrev pub next_active : Written → Part → Task → Kind
next_active b x (task.Owned oid owner) = kind.LoadState owner x.current.begin
next_active b x (task.Cleared oid) = kind.LoadEntry oid
next_active b x (task.Walks version head) = kind.LoadCell version word.Stamp
next_active b x (task.Passed version) = kind.LoadCell version word.Link
next_active b x (task.Registered version) = kind.LoadStamp version word.Overwriter
next_active b x (task.Overtaken version overwriter) = kind.LoadStamp version word.OverwriterSucc
next_active b x task.Numbers = kind.AddCounter Objects
next_active b x (task.Surveys next) = kind.LoadBegin next
next_active b x (task.Behind next) = kind.LoadBack next
next_active b x (task.SafeWalks version) = kind.LoadCell version word.Stamp
next_active b x (task.SafePassed version) = kind.LoadCell version word.Link
next_active b x (task.Claimed version) = kind.LoadTail purpose.Horizon
next_active b x (task.Horizon version least next) = kind.LoadBegin next
next_active b x (task.CutWalks version horizon) = kind.LoadCell version word.Stamp
next_active b x (task.CutPassed version horizon) = kind.LoadCell version word.Link
next_active b x (task.CutFound version horizon) = kind.SwapLink version
next_active b x (task.Detaches version) = kind.LoadDetached version
next_active b x task.Draws = next_draw x
next_active b x task.Pool = kind.AddCounter Cells
next_active b x task.Fetched = kind.LoadStamp (newest_of x.current) word.ReaderStamp
next_active b x task.Refused = kind.Install (newest_of x.current).oid (newest_of x.current).cell
next_active b x (task.Copies k) = next_copy x.current k
next_active b x (task.Writes claim k) = kind.StoreCell claim (own_at x.current claim) (word.Row k) (slice_index b.row k)
next_active b x (task.Ends raised ended step cleared) = next_release x.current ended cleared
next_active b x u = kind.LoadFlushed

-- The next step, by the seat's place and task. Where it is in no call, this is a load of what is flushed, of which nothing is
-- said.
abbrev pub next_at : Written → Part → Place → Task → Kind
next_at b x Vacant u = kind.LoadFlushed
next_at b x Idle u = kind.LoadFlushed
next_at b x (Begun tail) u = kind.StoreBegin tail
next_at b x (Announced tail) u = kind.LoadTail purpose.Begin
next_at b x (Active tail) u = next_active b x u
next_at b x (Sealing tail) u = kind.AddTail b.size
next_at b x (Drawn tail stamp) u = kind.StoreState stamp
next_at b x (Sealed tail stamp) u = next_settle b x.current u
next_at b x (Decided tail stamp) u = next_end x.current x.back u
next_at b x (Leaving stamp) u = kind.StoreState 0

abbrev pub next_kind : Written → Part → Kind
next_kind b x = next_at b x x.place x.task

-- the seat's step of this kind is taken, and moves it to another place or task, or changes its back word
pub record MovesOn (c : Core) (seat : ℕ) (step : Kind) : Type 0 where
  pub after : Core
  pub taken : after_event c seat step ≡ Some after
  pub moved : ((after.seats seat).place ≢ (c.seats seat).place) ⊎ ((after.seats seat).task ≢ (c.seats seat).task)
      ⊎ ((after.seats seat).back ≢ (c.seats seat).back)

-- The seat waits for another one that isn't clear for its bound: the owner of the entry that it reads, the one that may
-- overwrite a version that it has read, or a reader of a version that it overwrites. A snapshot that looks whether it is safe waits for
-- a session in which a transaction has begun below its begin stamp.
pub data Waits (c : Core) (seat : ℕ) : Type 0 where
  for_owner : (oid owner : ℕ) → (c.seats seat).task ≡ task.Owned oid owner
      → is_clear (state_of (c.seats owner).place) (c.seats seat).current.begin ≡ false → Waits c seat
  for_overwriter : (read owner : ℕ) → (c.seats seat).task ≡ task.ReadOwned read owner
      → is_clear (state_of (c.seats owner).place) (c.seats seat).current.stamp ≡ false → Waits c seat
  for_reader : (write bits reader : ℕ) → (c.seats seat).task ≡ task.ReadersLeft write bits → is_least_bit bits reader ≡ true
      → is_clear (state_of (c.seats reader).place) (c.seats seat).current.stamp ≡ false → Waits c seat
  for_begin : (other : ℕ) → (c.seats seat).task ≡ task.Surveys other → other ≢ seat → 0 < begin_of (c.seats other).place
      → begin_of (c.seats other).place < (c.seats seat).current.begin → Waits c seat

-- The seat's snapshot is unsafe: this session's back word, which tells a commit that goes back, is at or above its begin stamp.
pub record IsUnsafe (c : Core) (seat : ℕ) : Type 0 where
  pub other : ℕ
  pub behind : (c.seats seat).task ≡ task.Behind other
  pub back : (c.seats seat).current.begin ≤ (c.seats other).back

-- a version is found, which the transaction has room to register
pub record MayRegister (seat : ℕ) (x : Part) : Type 0 where
  pub session : is_session seat ≡ true
  pub active : is_active x.place ≡ true
  pub version : VersionAt
  pub stamp : ℕ
  pub head : Option ℕ
  pub found : x.task ≡ task.Found version stamp head
  pub room : length x.current.reads < READ_LIMIT
  pub unread : has_read version.oid x.current ≡ false

-- it is registered
abbrev pub Registers : Core → ℕ → Type 0
Registers c seat = (version : VersionAt) × (d : Core) × (after_event c seat (kind.SetReader version) ≡ Some d)
    × ((d.seats seat).task ≡ task.Registered version)

-- a head is found whose entry had no owner, which the transaction has room to claim
pub record MayClaim (seat : ℕ) (x : Part) : Type 0 where
  pub session : is_session seat ≡ true
  pub active : is_active x.place ≡ true
  pub version : VersionAt
  pub stamp : ℕ
  pub entry : ℕ
  pub found : x.task ≡ task.Found version stamp (Some entry)
  pub room : length x.current.writes < WRITE_LIMIT

-- this entry of the object is exchanged for an own one, or found to be another by now
abbrev pub Claims : Core → (seat oid entry : ℕ) → Type 0
Claims c seat oid entry = (d : Core) × (after_event c seat (kind.Claim oid entry (c.seats seat).current.number) ≡ Some d)
