-- The core step: one atomic step of one seat. Its guard reads the seat's own part and the one word
-- that it meets.
use Rattle.std.specs.Prelude.{true, false, ℕ, ◌+◌, ◌%◌, ◌^◌, Bool, not, ◌&&◌, ◌==◌, nat_lt, if◌then◌else◌, max, List, [], ◌∷◌, ◌++◌, Option, Some, None}
use Rattle.erm_machine.specs.declared.limits.TheConstants.{OBJECT_LIMIT, RING_WORDS}
use Rattle.erm_machine.specs.declared.event.Answer.{Answer}
use Rattle.erm_machine.specs.declared.event.Answer.TheVariants as answer
use Rattle.erm_machine.specs.declared.event.Counter.{Counter}
use Rattle.erm_machine.specs.declared.event.Counter.TheVariants.{Objects, Cells}
use Rattle.erm_machine.specs.declared.event.Event.{Event}
use Rattle.erm_machine.specs.declared.event.Kind.{Kind}
use Rattle.erm_machine.specs.declared.event.Kind.TheVariants as kind
use Rattle.erm_machine.specs.declared.part.Part.{Part}
use Rattle.erm_machine.specs.declared.task.Task.{Task}
use Rattle.erm_machine.specs.declared.task.Task.TheVariants as task
use Rattle.erm_machine.specs.declared.version.Version.{Version}
use Rattle.erm_machine.specs.declared.version.VersionAt.{VersionAt}
use Rattle.erm_machine.specs.declared.version.CellWord.{CellWord}
use Rattle.erm_machine.specs.declared.version.CellWord.TheVariants as word
use Rattle.erm_machine.specs.Core.{Object, Shared, Core, spot_of, word_at, version_at, with_version, own_words, claim_at}
use Rattle.erm_machine.specs.Seat.{end_of}
use Rattle.erm_machine.specs.Life.{load_tail, add_tail, store_begin, store_state, load_begin, load_back, store_back, load_state, split, join, decide}
use Rattle.erm_machine.specs.Reading.{load_entry, claim, set_reader, load_cell, swap_link, load_detached, load_counter, add_counter, unset}
use Rattle.erm_machine.specs.Settling.{load_read_entry, load_readers, load_stamp, filled, store_ring, raise_reader, store_cell, store_succ, store_overwriter, install, adds_version, clear_reader}
use Rattle.erm_machine.specs.Flushing.{load_flushed, load_ring, clear_ring, store_flushed}
use Rattle.erm_machine.specs.Seat.{is_sealed}
use Rattle.erm_machine.specs.Words.{put, claimed, with_bit, without_bit, set_word, is_seat, is_session}

-- the part after, unless the step is ruled out
abbrev pub unless : Bool → Option Part → Option Part
unless out after = if out then None else after

-- a session loads no word of a row before its own bit is set; the flush seat sets none
abbrev pub reads_early : ℕ → CellWord → Task → Bool
reads_early seat (word.Row k) (task.Found version stamp head) = is_session seat
reads_early seat w t = false

-- The seat's own part after its step, where the guard is met; a word found may lead to different parts. Of what is shared
-- the part takes besides the word how many versions the object has, the row of a version, which never changes, the cells
-- that it cuts off, and how many cells there are.
abbrev pub part_after : ℕ → Kind → ℕ → Shared → Part → Option Part
part_after seat (kind.LoadTail purpose) found s x = load_tail seat purpose found x
part_after seat (kind.AddTail size) found s x = add_tail seat size found x x.place
part_after seat (kind.StoreBegin value) found s x = store_begin seat value x x.place
part_after seat (kind.StoreState value) found s x = store_state seat value x x.place
part_after seat (kind.LoadBegin other) found s x = load_begin seat other found x x.task
part_after seat (kind.LoadState other bound) found s x = load_state seat other bound found x
part_after seat (kind.Split other) found s x = None
part_after seat (kind.Join other) found s x = None
part_after seat (kind.LoadEntry oid) found s x =
    if is_sealed x.place then load_read_entry seat oid found x x.task else load_entry seat oid found (s.objects oid) x x.task
part_after seat (kind.Claim oid seen number) found s x = claim seat oid seen number found (s.objects oid) x x.task
part_after seat (kind.Install oid head) found s x = install oid head x x.task
part_after seat (kind.LoadCell v w) found s x = unless (reads_early seat w x.task) (load_cell found v w x)
part_after seat (kind.StoreCell place cell w value) found s x = store_cell place cell w value x
part_after seat (kind.LoadCounter counter) found s x = load_counter s.cell_limit counter found x x.task
part_after seat (kind.AddCounter counter) found s x = add_counter s.cell_limit seat counter found x x.task
part_after seat (kind.SetReader v) found s x = set_reader seat v (s.objects v.oid) x x.task
part_after seat (kind.ClearReader v) found s x = clear_reader v x (end_of x.task)
part_after seat (kind.LoadReaders v) found s x = load_readers seat v found x x.task
part_after seat (kind.LoadStamp v w) found s x = load_stamp found v w x
part_after seat (kind.RaiseReader v value) found s x = raise_reader v value x x.task
part_after seat (kind.StoreSucc v value) found s x = store_succ v value x
part_after seat (kind.StoreOverwriter v value) found s x = store_overwriter v value x
part_after seat (kind.StoreRing at value) found s x = store_ring at value x (filled x.current x.task)
part_after seat (kind.Decide at header) found s x = decide at header x x.place x.task
part_after seat (kind.LoadRing at) found s x = load_ring at found x x.flushing
part_after seat (kind.ClearRing at) found s x = clear_ring at x x.flushing
part_after seat (kind.StoreFlushed value) found s x = store_flushed value x x.flushing
part_after seat kind.LoadFlushed found s x = load_flushed found x x.flushing
part_after seat (kind.SwapLink v) found s x = swap_link found v (s.objects v.oid) x x.task
part_after seat (kind.LoadDetached v) found s x = load_detached found v x x.task
part_after seat (kind.StoreBack value) found s x = store_back value x x.place
part_after seat (kind.LoadBack other) found s x = load_back other found x x.task
part_after seat (kind.Unset place) found s x = unset place x

-- the word met as a step of this kind leaves it
abbrev pub stored : ℕ → Kind → ℕ → ℕ
stored seat (kind.AddTail size) found = found + size
stored seat (kind.StoreBegin value) found = value
stored seat (kind.StoreState value) found = value
stored seat (kind.Claim oid seen number) found = if found == seen then claimed seen seat number else found
stored seat (kind.Install oid head) found = head
stored seat (kind.StoreCell place cell w value) found = value
stored seat (kind.AddCounter counter) found = (found + 1) % 2 ^ 64
stored seat (kind.SetReader v) found = with_bit found seat
stored seat (kind.ClearReader v) found = without_bit found seat
stored seat (kind.RaiseReader v value) found = max found value
stored seat (kind.StoreSucc v value) found = value
stored seat (kind.StoreOverwriter v value) found = value
stored seat (kind.StoreRing at value) found = value
stored seat (kind.Decide at header) found = header
stored seat (kind.ClearRing at) found = 0
stored seat (kind.StoreFlushed value) found = value
stored seat (kind.SwapLink v) found = 0
stored seat (kind.StoreBack value) found = value
stored seat _ found = found

-- an object is changed
abbrev pub with_object : ℕ → Object → Shared → Shared
with_object oid o s = record s { objects = put s.objects oid o }

-- a word of a version is changed
abbrev pub with_version_word : VersionAt → CellWord → ℕ → Shared → Shared
with_version_word v w value s =
    with_object v.oid (with_version (s.objects v.oid) v.place (set_word w value (version_at (s.objects v.oid) v.place).words)) s

-- a word of the ring is changed
abbrev pub with_ring : ℕ → ℕ → Shared → Shared
with_ring at value s = record s { ring = put s.ring (at % RING_WORDS) value }

-- a counter is changed
abbrev pub with_counter : Counter → ℕ → Shared → Shared
with_counter Objects n s = record s { objects_drawn = n }
with_counter Cells n s = record s { cells_drawn = n }

-- the version that an install adds: the one in the own cell of a commit's claim that is over
abbrev pub added : ℕ → Part → Option (ℕ × ℕ × ℕ × ℕ) → Option Version
added head x None = None
added head x (Some e) = if adds_version x then Some (record { cell = head; words = own_words (claim_at x.current e.1).own }) else None

-- the object after its entry is installed or released
abbrev pub installed : ℕ → Option Version → Object → Object
installed head None o = record o { entry = head }
installed head (Some v) o = record o { entry = head; versions = o.versions ++ v ∷ [] }

-- What the seats share after a step of this kind, where its guard is met: the word met is changed, and where the step draws a
-- range, adds a version or cuts a chain, the list to which that word belongs.
abbrev pub shared_after : ℕ → Kind → ℕ → Part → Shared → Shared
shared_after seat (kind.AddTail size) found x s =
    record s { tail = found + size; log = s.log ++ record { seat = seat; start = found; size = size } ∷ [] }
shared_after seat (kind.Claim oid seen number) found x s =
    with_object oid (record (s.objects oid) { entry = stored seat (kind.Claim oid seen number) found }) s
shared_after seat (kind.Install oid head) found x s = with_object oid (installed head (added head x (end_of x.task)) (s.objects oid)) s
shared_after seat (kind.AddCounter counter) found x s = with_counter counter ((found + 1) % 2 ^ 64) s
shared_after seat (kind.SetReader v) found x s = with_version_word v word.Readers (with_bit found seat) s
shared_after seat (kind.ClearReader v) found x s = with_version_word v word.Readers (without_bit found seat) s
shared_after seat (kind.RaiseReader v value) found x s = with_version_word v word.ReaderStamp (max found value) s
shared_after seat (kind.StoreSucc v value) found x s = with_version_word v word.OverwriterSucc value s
shared_after seat (kind.StoreOverwriter v value) found x s = with_version_word v word.Overwriter value s
shared_after seat (kind.StoreRing at value) found x s = with_ring at value s
shared_after seat (kind.Decide at header) found x s = with_ring at header s
shared_after seat (kind.ClearRing at) found x s = with_ring at 0 s
shared_after seat (kind.StoreFlushed value) found x s = record s { flushed = value }
shared_after seat (kind.SwapLink v) found x s =
    with_object v.oid (record (with_version (s.objects v.oid) v.place (set_word word.Link 0 (version_at (s.objects v.oid) v.place).words)) { cut = v.place }) s
shared_after seat _ found x s = s

-- the state after a step of one seat
abbrev pub moved : ℕ → Kind → ℕ → Core → Option Part → Option Core
moved seat kind found c None = None
moved seat kind found c (Some y) =
    Some (record { shared = shared_after seat kind found (c.seats seat) c.shared; seats = put c.seats seat y })

-- a part of another seat, or of the own one, is changed, and nothing that is shared
abbrev pub with_part : Core → ℕ → Option Part → Option Core
with_part c seat None = None
with_part c seat (Some y) = Some (record c { seats = put c.seats seat y })

-- a cell has this word
abbrev pub has_word : CellWord → Bool
has_word (word.Row k) = nat_lt k 16
has_word w = true

-- The object that a kind names is one below the limit, the seat that is looked at has words, or a back word, and so has a cell.
abbrev pub is_known : Kind → Bool
is_known (kind.LoadState other bound) = is_seat other
is_known (kind.LoadEntry oid) = nat_lt oid OBJECT_LIMIT
is_known (kind.Claim oid seen number) = nat_lt oid OBJECT_LIMIT
is_known (kind.Install oid head) = nat_lt oid OBJECT_LIMIT
is_known (kind.LoadCell v w) = nat_lt v.oid OBJECT_LIMIT && has_word w
is_known (kind.SetReader v) = nat_lt v.oid OBJECT_LIMIT
is_known (kind.ClearReader v) = nat_lt v.oid OBJECT_LIMIT
is_known (kind.LoadReaders v) = nat_lt v.oid OBJECT_LIMIT
is_known (kind.LoadStamp v w) = nat_lt v.oid OBJECT_LIMIT
is_known (kind.RaiseReader v value) = nat_lt v.oid OBJECT_LIMIT
is_known (kind.StoreSucc v value) = nat_lt v.oid OBJECT_LIMIT
is_known (kind.StoreOverwriter v value) = nat_lt v.oid OBJECT_LIMIT
is_known (kind.SwapLink v) = nat_lt v.oid OBJECT_LIMIT
is_known (kind.LoadDetached v) = nat_lt v.oid OBJECT_LIMIT
is_known (kind.LoadBack other) = is_session other
is_known _ = true

-- the state after an event, where its guard is met: a split and a join read both seats' parts
abbrev pub after_event : Core → ℕ → Kind → Option Core
after_event c seat (kind.Split other) = if not (other == seat) && is_seat other then with_part c other (split (c.seats seat) (c.seats other)) else None
after_event c seat (kind.Join other) = if other == seat then None else with_part c seat (join (c.seats seat) (c.seats other))
after_event c seat k =
    let found = word_at c (spot_of seat k) in
    if is_known k then moved seat k found c (part_after seat k found c.shared (c.seats seat)) else None

-- what a step of this kind answers, where its guard is met
abbrev pub told : Kind → ℕ → Answer
told (kind.LoadTail purpose) found = answer.Word found
told (kind.AddTail size) found = answer.Word found
told (kind.LoadBegin other) found = answer.Word found
told (kind.LoadState other bound) found = answer.Word found
told (kind.LoadEntry oid) found = answer.Word found
told (kind.Claim oid seen number) found = answer.Word found
told (kind.LoadCell v w) found = answer.Word found
told (kind.LoadCounter counter) found = answer.Word found
told (kind.AddCounter counter) found = answer.Word found
told (kind.LoadReaders v) found = answer.Word found
told (kind.LoadStamp v w) found = answer.Word found
told (kind.LoadRing at) found = answer.Word found
told kind.LoadFlushed found = answer.Word found
told (kind.SwapLink v) found = answer.Word found
told (kind.LoadDetached v) found = answer.Word found
told (kind.LoadBack other) found = answer.Word found
told _ found = answer.Done

-- The core step. Where the guard isn't met, the answer is Failed and the state is the old one.
abbrev pub step_to : Core → Answer → Option Core → Answer × Core
step_to c a None = (answer.Failed, c)
step_to c a (Some d) = (a, d)

abbrev pub core_step : Core → Event → Answer × Core
core_step c e = step_to c (told e.kind (word_at c (spot_of e.seat e.kind))) (after_event c e.seat e.kind)

-- the state after events, one after another
abbrev pub run_from : Core → List Event → Core
run_from c [] = c
run_from c (e ∷ es) = run_from (core_step c e).1 es
