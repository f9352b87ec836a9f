-- Which steps leave the version in hand, or let it go; and when a seat begins.
use Rattle.std.proofs.Common.{◌≡◌, ℕ, ◌⊎◌, Bool, Option, Some, None, refl, sym, subst, inl, inr}
use Rattle.std.specs.Prelude.{if◌then◌else◌}
use Rattle.std.proofs.lemmas.Bool.{and_parts}
use Rattle.erm_machine.specs.declared.event.Counter.{Counter}
use Rattle.erm_machine.specs.declared.event.Counter.TheVariants.{Objects, Cells}
use Rattle.erm_machine.specs.declared.event.Kind.{Kind}
use Rattle.erm_machine.specs.declared.event.Kind.TheVariants as kind
use Rattle.erm_machine.specs.declared.event.TailUse.{TailUse}
use Rattle.erm_machine.specs.declared.event.TailUse.TheVariants as purpose
use Rattle.erm_machine.specs.declared.part.Flushing.{Flushing}
use Rattle.erm_machine.specs.declared.part.Flushing.TheVariants as flushing
use Rattle.erm_machine.specs.declared.part.Part.{Part}
use Rattle.erm_machine.specs.declared.place.Place.{Place}
use Rattle.erm_machine.specs.declared.place.Place.TheVariants.{Idle, Begun, Announced, Active, Sealing, Drawn, Sealed, Decided, Leaving}
use Rattle.erm_machine.specs.declared.task.Task.{Task}
use Rattle.erm_machine.specs.declared.task.Task.TheVariants as task
use Rattle.erm_machine.specs.declared.version.CellWord.{CellWord}
use Rattle.erm_machine.specs.declared.version.CellWord.TheVariants as word
use Rattle.erm_machine.specs.declared.version.VersionAt.{VersionAt}
use Rattle.erm_machine.specs.Chains.{NamedInHand, CutInHand, HeadInHand, OwnChains}
use Rattle.erm_machine.specs.Core.{Core, Shared, spot_of, word_at}
use Rattle.erm_machine.specs.Facts.{HasBegun}
use Rattle.erm_machine.specs.Flushing.{load_flushed, gathered_word, load_ring, clear_ring, store_flushed}
use Rattle.erm_machine.specs.Life.{load_tail_to_begin, load_tail_for_horizon, load_tail_to_gather, load_tail, add_tail, after_passed, store_begin, store_state, load_begin, load_back, store_back, load_state, decide}
use Rattle.erm_machine.specs.Reading.{load_counter, add_counter, start_row, store_row_word, unset}
use Rattle.erm_machine.specs.Seat.{end_of, with_task}
use Rattle.erm_machine.specs.Settling.{load_flushed_to_settle, load_read_entry, load_readers, load_settled_stamp, store_ring, raise_reader, store_head_word, store_active_word, store_cell, mark_overwritten, install_claim, adds_version, install_new, release_old, unclaim, install, clear_reader, filled}
use Rattle.erm_machine.specs.Step.{part_after}
use Rattle.erm_machine.specs.Tasks.{TaskFits, OwnTask}
use Rattle.erm_machine.specs.Words.{is_flusher}
use Rattle.erm_machine.proofs.Backs.{active_begin_then, rest_is}
use Rattle.erm_machine.proofs.Guards.{when_then, some_then, if_then, either_way}
use Rattle.erm_machine.proofs.Quiet.{Quiet}
use Rattle.erm_machine.proofs.QuietKinds.{IsQuiet, quiet_kind}

-- a call with no version in hand
abbrev pub IsBare : Task → Type 0
IsBare (task.Owned oid owner) = ⊥
IsBare (task.Cleared oid) = ⊥
IsBare (task.Walks version head) = ⊥
IsBare (task.Passed version) = ⊥
IsBare (task.Found version stamp head) = ⊥
IsBare (task.Registered version) = ⊥
IsBare (task.Overtaken version overwriter) = ⊥
IsBare (task.Rated version) = ⊥
IsBare (task.Claimed version) = ⊥
IsBare (task.Horizon version least next) = ⊥
IsBare (task.CutWalks version horizon) = ⊥
IsBare (task.CutPassed version horizon) = ⊥
IsBare (task.CutFound version horizon) = ⊥
IsBare (task.Detaches version) = ⊥
IsBare (task.SafeWalks version) = ⊥
IsBare (task.SafePassed version) = ⊥
IsBare (task.SafeFound version) = ⊥
IsBare _ = Unit {0}

pub record Bare (t : Task) : Type 0 where
  pub bare : IsBare t

pub bare_if : (b : Bool) (t u : Task) → Bare t → Bare u → Bare (if b then t else u)
bare_if b t u f g = either_way Bare b t u (λ _. f) (λ _. g)

pub bare_from : (t : Task) → IsBare t → Bare t
bare_from t f = record { bare = f }

-- nothing is asked of such a call
bare_named : (s : Shared) (t : Task) → IsBare t → NamedInHand s t
bare_named s (task.Owned oid owner) b = absurd b
bare_named s (task.Cleared oid) b = absurd b
bare_named s (task.Walks version head) b = absurd b
bare_named s (task.Passed version) b = absurd b
bare_named s (task.Found version stamp head) b = absurd b
bare_named s (task.Registered version) b = absurd b
bare_named s (task.Overtaken version overwriter) b = absurd b
bare_named s (task.Rated version) b = absurd b
bare_named s (task.Claimed version) b = absurd b
bare_named s (task.Horizon version least next) b = absurd b
bare_named s (task.CutWalks version horizon) b = absurd b
bare_named s (task.CutPassed version horizon) b = absurd b
bare_named s (task.CutFound version horizon) b = absurd b
bare_named s (task.Detaches version) b = absurd b
bare_named s (task.SafeWalks version) b = absurd b
bare_named s (task.SafePassed version) b = absurd b
bare_named s (task.SafeFound version) b = absurd b
bare_named s _ b = tt

bare_cut : (s : Shared) (x : Part) (t : Task) → IsBare t → CutInHand s x t
bare_cut s x (task.Claimed version) b = absurd b
bare_cut s x (task.Horizon version least next) b = absurd b
bare_cut s x (task.CutWalks version horizon) b = absurd b
bare_cut s x (task.CutPassed version horizon) b = absurd b
bare_cut s x (task.CutFound version horizon) b = absurd b
bare_cut s x (task.Detaches version) b = absurd b
bare_cut s x _ b = tt

bare_head : (s : Shared) (t : Task) → IsBare t → HeadInHand s t
bare_head s (task.Walks version head) b = absurd b
bare_head s (task.Found version stamp head) b = absurd b
bare_head s _ b = tt

pub bare_chains : (s : Shared) (y : Part) → Bare y.task → OwnChains s y
bare_chains s y b = record { named = bare_named s y.task b.bare; cut = bare_cut s y y.task b.bare; head = bare_head s y.task b.bare }

-- a step that leaves the call, the claims and the spare cells, or has no version in hand from then on
pub record Stays (x y : Part) : Type 0 where
  pub stays : (Bare y.task) ⊎ ((y.task ≡ x.task) × (y.current.writes ≡ x.current.writes) × (y.spare ≡ x.spare))

stays_same : (x y : Part) → y.task ≡ x.task → y.current.writes ≡ x.current.writes → y.spare ≡ x.spare → Stays x y
stays_same x y t w o = record { stays = inr (t, w, o) }

lets_go : (x y : Part) → Bare y.task → Stays x y
lets_go x y b = record { stays = inl b }

lets_go_from : (x y : Part) → IsBare y.task → Stays x y
lets_go_from x y b = record { stays = inl (record { bare = b }) }

pub s_load_read_entry : (seat oid found : ℕ) (x : Part) (t : Task) (y : Part) → load_read_entry seat oid found x t ≡ Some y → Stays x y
s_load_read_entry seat oid found x (task.Settles reads writes) y e = when_then (Stays x) _ _ y e (λ _. lets_go x _ (search (bare_if, bare_from)))
s_load_read_entry seat oid found x _ y e = absurd (cc)

s_load_readers : (seat : ℕ) (v : VersionAt) (found : ℕ) (x : Part) (t : Task) (y : Part) → load_readers seat v found x t ≡ Some y → Stays x y
s_load_readers seat v found x (task.Settles reads writes) y e = when_then (Stays x) _ _ y e (λ _. lets_go x _ (search (bare_if, bare_from)))
s_load_readers seat v found x _ y e = absurd (cc)

pub s_settled_stamp : (found : ℕ) (v : VersionAt) (w : CellWord) (x : Part) (t : Task) (y : Part) → load_settled_stamp found v w x t ≡ Some y → Stays x y
s_settled_stamp found v word.Overwriter x (task.ReadClear read) y e = when_then (Stays x) _ _ y e (λ _. lets_go x _ (search (bare_if, bare_from)))
s_settled_stamp found v word.OverwriterSucc x (task.ReadOvertaken read overwriter) y e = when_then (Stays x) _ _ y e (λ _. lets_go_from x _ tt)
s_settled_stamp found v word.Stamp x (task.WriteClear write) y e = when_then (Stays x) _ _ y e (λ _. lets_go_from x _ tt)
s_settled_stamp found v word.ReaderStamp x (task.WriteMade write) y e = when_then (Stays x) _ _ y e (λ _. lets_go_from x _ tt)
s_settled_stamp found v _ x _ y e = absurd (cc)

s_load_counter : (cells : ℕ) (c : Counter) (found : ℕ) (x : Part) (t : Task) (y : Part) → load_counter cells c found x t ≡ Some y → Stays x y
s_load_counter cells Objects found x t y e = when_then (Stays x) _ _ y e (λ _. lets_go x _ (search (bare_if, bare_from)))
s_load_counter cells Cells found x task.Draws y e = when_then (Stays x) _ _ y e (λ _. lets_go x _ (search (bare_if, bare_from)))
s_load_counter cells Cells found x _ y e = absurd (cc)

s_add_counter : (cells : ℕ) (seat : ℕ) (c : Counter) (found : ℕ) (x : Part) (t : Task) (y : Part) → add_counter cells seat c found x t ≡ Some y → Stays x y
s_add_counter cells seat Objects found x task.Numbers y e = when_then (Stays x) _ _ y e (λ _. lets_go_from x _ tt)
s_add_counter cells seat Cells found x task.Pool y e = when_then (Stays x) _ _ y e (λ _. lets_go x _ (search (bare_if, bare_from)))
s_add_counter cells seat Objects found x _ y e = absurd (cc)
s_add_counter cells seat Cells found x _ y e = absurd (cc)

s_store_ring : (at value : ℕ) (x : Part) (o : Option ℕ) (y : Part) → store_ring at value x o ≡ Some y → Stays x y
s_store_ring at value x None y e = absurd (cc)
s_store_ring at value x (Some words) y e = when_then (Stays x) _ _ y e (λ _. lets_go_from x _ tt)

s_raise_reader : (v : VersionAt) (value : ℕ) (x : Part) (t : Task) (y : Part) → raise_reader v value x t ≡ Some y → Stays x y
s_raise_reader v value x (task.Ends raised ended step cleared) y e = when_then (Stays x) _ _ y e (λ _. lets_go_from x _ tt)
s_raise_reader v value x _ y e = absurd (cc)

s_mark : (nth : ℕ) (v : VersionAt) (value wanted : ℕ) (x : Part) (t : Task) (y : Part) → mark_overwritten nth v value wanted x t ≡ Some y → Stays x y
s_mark nth v value wanted x (task.Ends raised ended step cleared) y e = when_then (Stays x) _ _ y e (λ _. lets_go_from x _ tt)
s_mark nth v value wanted x _ y e = absurd (cc)

s_head_word : (place cell : ℕ) (w : CellWord) (value : ℕ) (x : Part) (t : Task) (y : Part) → store_head_word place cell w value x t ≡ Some y → Stays x y
s_head_word place cell w value x (task.Ends raised ended step cleared) y e = when_then (Stays x) _ _ y e (λ _. lets_go_from x _ tt)
s_head_word place cell w value x _ y e = absurd (cc)

s_start_row : (place cell k value : ℕ) (x : Part) (t : Task) (y : Part) → start_row place cell k value x t ≡ Some y → Stays x y
s_start_row place cell k value x t y e = when_then (Stays x) _ _ y e (λ _. lets_go_from x _ tt)

s_row_word : (place cell k value : ℕ) (x : Part) (t : Task) (y : Part) → store_row_word place cell k value x t ≡ Some y → Stays x y
s_row_word place cell k value x (task.Copies w) y e = when_then (Stays x) _ _ y e (λ _. lets_go x _ (search (bare_if, bare_from)))
s_row_word place cell k value x (task.Writes claim w) y e = when_then (Stays x) _ _ y e (λ _. lets_go x _ (search (bare_if, bare_from)))
s_row_word place cell k value x t y e = s_start_row place cell k value x t y e

s_active_word : (place cell : ℕ) (w : CellWord) (value : ℕ) (x : Part) (y : Part) → store_active_word place cell w value x ≡ Some y → Stays x y
s_active_word place cell (word.Row k) value x y e = s_row_word place cell k value x x.task y e
s_active_word place cell _ value x y e = absurd (cc)

s_store_cell : (place cell : ℕ) (w : CellWord) (value : ℕ) (x : Part) (y : Part) → store_cell place cell w value x ≡ Some y → Stays x y
s_store_cell place cell w value x y e =
    if_then (Stays x) _ _ _ y e (λ _ h. s_active_word place cell w value x y h) (λ _ h. s_head_word place cell w value x x.task y h)

-- a claim that is over leaves no version in hand
abbrev pub IsBareAfter : Part → Type 0
IsBareAfter y = Bare y.task

over_unclaim : (oid head : ℕ) (x : Part) (y : Part) → unclaim oid head x ≡ Some y → Bare y.task
over_unclaim oid head x y e = when_then IsBareAfter _ _ y e (λ _. record { bare = tt })

over_install_claim : (oid head : ℕ) (x : Part) (o : Option (ℕ × ℕ × ℕ × ℕ)) (y : Part) → install_claim oid head x o ≡ Some y → Bare y.task
over_install_claim oid head x None y e = absurd (cc)
over_install_claim oid head x (Some n) y e =
    if_then IsBareAfter (adds_version x) (install_new oid head x n) (release_old oid head x n) y e
    (λ _ h. when_then IsBareAfter _ _ y h (λ _. record { bare = tt })) (λ _ h. when_then IsBareAfter _ _ y h (λ _. record { bare = tt }))

pub over_install : (oid head : ℕ) (x : Part) (t : Task) (y : Part) → install oid head x t ≡ Some y → Bare y.task
over_install oid head x task.Refused y e = over_unclaim oid head x y e
over_install oid head x t y e = over_install_claim oid head x (end_of t) y e

s_clear_reader : (v : VersionAt) (x : Part) (o : Option (ℕ × ℕ × ℕ × ℕ)) (y : Part) → clear_reader v x o ≡ Some y → Stays x y
s_clear_reader v x None y e = absurd (cc)
s_clear_reader v x (Some n) y e = when_then (Stays x) _ _ y e (λ _. lets_go_from x _ tt)

s_to_settle : (found : ℕ) (x : Part) → Stays x (load_flushed_to_settle found x)
s_to_settle found x = either_way (Stays x) _ (with_task (task.Settles 0 0) x) x (λ _. lets_go_from x (with_task (task.Settles 0 0) x) tt) (λ _. stays_same x x refl refl refl)

s_load_flushed : (found : ℕ) (x : Part) (f : Flushing) (y : Part) → load_flushed found x f ≡ Some y → Stays x y
s_load_flushed found x (flushing.Tail tail) y e = some_then (Stays x) _ y e (stays_same x _ refl refl refl)
s_load_flushed found x _ y e = when_then (Stays x) _ _ y e (λ _. s_to_settle found x)

s_if : (x : Part) (b : Bool) (l r : Part) → Stays x l → Stays x r → Stays x (if b then l else r)
s_if x b l r f g = either_way (Stays x) b l r (λ _. f) (λ _. g)

-- the flush seat's own fields change
s_flushing : (x : Part) (f : Flushing) (to : ℕ) → Stays x (record x { flushing = f; gathered_to = to })
s_flushing x f to = stays_same x _ refl refl refl

s_gathered : (tail from block next end : ℕ) (x : Part) → Stays x (gathered_word tail from block next end x)
s_gathered tail from block next end x = either_way (Stays x) _ _ _ (λ _. s_flushing x _ _) (λ _. s_flushing x _ _)

s_load_ring : (at found : ℕ) (x : Part) (f : Flushing) (y : Part) → load_ring at found x f ≡ Some y → Stays x y
s_load_ring at found x (flushing.Gathers tail from block next end) y e =
    when_then (Stays x) _ _ y e (λ _. s_if x _ _ _ (s_gathered tail from block next end x) (s_if x _ _ _ (stays_same x x refl refl refl) (s_gathered tail from next next _ x)))
s_load_ring at found x _ y e = absurd (cc)

s_clear_ring : (at : ℕ) (x : Part) (f : Flushing) (y : Part) → clear_ring at x f ≡ Some y → Stays x y
s_clear_ring at x (flushing.Gathers tail from block next end) y e = when_then (Stays x) _ _ y e (λ _. stays_same x _ refl refl refl)
s_clear_ring at x (flushing.Clears next to) y e = when_then (Stays x) _ _ y e (λ _. stays_same x _ refl refl refl)
s_clear_ring at x _ y e = absurd (cc)

s_store_flushed : (value : ℕ) (x : Part) (f : Flushing) (y : Part) → store_flushed value x f ≡ Some y → Stays x y
s_store_flushed value x (flushing.Clears next to) y e = when_then (Stays x) _ _ y e (λ _. stays_same x _ refl refl refl)
s_store_flushed value x _ y e = absurd (cc)

-- a back word is stored, or loaded; a row is undone between calls
s_store_back : (value : ℕ) (x : Part) (pl : Place) (y : Part) → store_back value x pl ≡ Some y → Stays x y
s_store_back value x (Decided tail stamp) y e = when_then (Stays x) _ _ y e (λ _. stays_same x _ refl refl refl)
s_store_back value x _ y e = absurd (cc)

after_passed_bare : (next : ℕ) → Bare (after_passed next)
after_passed_bare next = search (bare_if, bare_from)

s_load_back : (other found : ℕ) (x : Part) (t : Task) (y : Part) → load_back other found x t ≡ Some y → Stays x y
s_load_back other found x (task.Behind next) y e = when_then (Stays x) _ _ y e (λ _. lets_go x _ (search (bare_if, bare_from, after_passed_bare)))
s_load_back other found x _ y e = absurd (cc)

s_unset : (place : ℕ) (x y : Part) → unset place x ≡ Some y → Stays x y
s_unset place x y e =
    when_then (Stays x) _ _ y e (λ g.
    lets_go_from x _ (subst IsBare (sym (rest_is x.task (and_parts _ _ (and_parts _ _ (and_parts _ _ g).0).0).1)) tt))

-- steps that move the seat on in its life
s_begin : (seat found : ℕ) (x : Part) (pl : Place) (y : Part) → load_tail_to_begin seat found x pl ≡ Some y → Stays x y
s_begin seat found x Idle y e = when_then (Stays x) _ _ y e (λ _. stays_same x _ refl refl refl)
s_begin seat found x (Announced tail) y e = when_then (Stays x) _ _ y e (λ _. lets_go_from x _ tt)
s_begin seat found x _ y e = absurd (cc)

s_gather : (seat found : ℕ) (x : Part) (y : Part) → load_tail_to_gather seat found x ≡ Some y → Stays x y
s_gather seat found x y e = when_then (Stays x) _ _ y e (λ _. stays_same x _ refl refl refl)

s_add_tail : (seat size found : ℕ) (x : Part) (pl : Place) (y : Part) → add_tail seat size found x pl ≡ Some y → Stays x y
s_add_tail seat size found x (Sealing tail) y e = when_then (Stays x) _ _ y e (λ _. stays_same x _ refl refl refl)
s_add_tail seat size found x _ y e = absurd (cc)

s_store_begin : (seat value : ℕ) (x : Part) (pl : Place) (y : Part) → store_begin seat value x pl ≡ Some y → Stays x y
s_store_begin seat value x (Begun tail) y e = when_then (Stays x) _ _ y e (λ _. stays_same x _ refl refl refl)
s_store_begin seat value x (Active tail) y e =
    active_begin_then (Stays x) seat value tail x y e (λ _ _. either_way (Stays x) (is_flusher seat) _ _ (λ _. lets_go_from x _ tt) (λ _. lets_go_from x _ tt))
    (λ _ _ _ _. lets_go_from x _ tt)
s_store_begin seat value x (Decided tail stamp) y e = when_then (Stays x) _ _ y e (λ _. lets_go_from x _ tt)
s_store_begin seat value x _ y e = absurd (cc)

s_store_state : (seat value : ℕ) (x : Part) (pl : Place) (y : Part) → TaskFits pl x.current x.task → store_state seat value x pl ≡ Some y → Stays x y
s_store_state seat value x (Active tail) y rests e = when_then (Stays x) _ _ y e (λ _. lets_go_from x _ tt)
s_store_state seat value x (Drawn tail stamp) y rests e = when_then (Stays x) _ _ y e (λ _. stays_same x _ refl refl refl)
s_store_state seat value x (Leaving stamp) y rests e = when_then (Stays x) _ _ y e (λ _. lets_go_from x _ (subst IsBare (sym rests) tt))
s_store_state seat value x _ y rests e = absurd (cc)

s_decide : (at header : ℕ) (x : Part) (pl : Place) (t : Task) (y : Part) → decide at header x pl t ≡ Some y → Stays x y
s_decide at header x (Sealed tail stamp) (task.Fills words) y e = when_then (Stays x) _ _ y e (λ _. lets_go_from x _ tt)
s_decide at header x _ _ y e = absurd (cc)

-- kinds that leave the version in hand, the claims and the spare cells, or let the version go
abbrev pub KeepsHand : Kind → Type 0
KeepsHand (kind.LoadTail purpose.Horizon) = ⊥
KeepsHand (kind.LoadTail _) = Unit {0}
KeepsHand (kind.LoadBegin other) = ⊥
KeepsHand (kind.LoadState other bound) = ⊥
KeepsHand (kind.Split other) = ⊥
KeepsHand (kind.Join other) = ⊥
KeepsHand (kind.LoadEntry oid) = ⊥
KeepsHand (kind.Claim oid seen number) = ⊥
KeepsHand (kind.LoadCell v w) = ⊥
KeepsHand (kind.SetReader v) = ⊥
KeepsHand (kind.LoadStamp v w) = ⊥
KeepsHand (kind.SwapLink v) = ⊥
KeepsHand (kind.LoadDetached v) = ⊥
KeepsHand _ = Unit {0}

pub stays_kind : (p : ℕ) (k : Kind) (found : ℕ) (s : Shared) (x y : Part) → KeepsHand k → OwnTask x → part_after p k found s x ≡ Some y → Stays x y
stays_kind p (kind.LoadTail purpose.Begin) found s x y n own e = s_begin p found x x.place y e
stays_kind p (kind.LoadTail purpose.Horizon) found s x y n own e = absurd n
stays_kind p (kind.LoadTail purpose.Gather) found s x y n own e = s_gather p found x y e
stays_kind p (kind.AddTail size) found s x y n own e = s_add_tail p size found x x.place y e
stays_kind p (kind.StoreBegin value) found s x y n own e = s_store_begin p value x x.place y e
stays_kind p (kind.StoreState value) found s x y n own e = s_store_state p value x x.place y own.fits e
stays_kind p (kind.LoadBegin other) found s x y n own e = absurd n
stays_kind p (kind.LoadState other bound) found s x y n own e = absurd n
stays_kind p (kind.Split other) found s x y n own e = absurd n
stays_kind p (kind.Join other) found s x y n own e = absurd n
stays_kind p (kind.LoadEntry oid) found s x y n own e = absurd n
stays_kind p (kind.Claim oid seen number) found s x y n own e = absurd n
stays_kind p (kind.Install oid head) found s x y n own e = lets_go x y (over_install oid head x x.task y e)
stays_kind p (kind.LoadCell v w) found s x y n own e = absurd n
stays_kind p (kind.StoreCell place cell w value) found s x y n own e = s_store_cell place cell w value x y e
stays_kind p (kind.LoadCounter counter) found s x y n own e = s_load_counter _ counter found x x.task y e
stays_kind p (kind.AddCounter counter) found s x y n own e = s_add_counter _ p counter found x x.task y e
stays_kind p (kind.SetReader v) found s x y n own e = absurd n
stays_kind p (kind.ClearReader v) found s x y n own e = s_clear_reader v x (end_of x.task) y e
stays_kind p (kind.LoadReaders v) found s x y n own e = s_load_readers p v found x x.task y e
stays_kind p (kind.LoadStamp v w) found s x y n own e = absurd n
stays_kind p (kind.RaiseReader v value) found s x y n own e = s_raise_reader v value x x.task y e
stays_kind p (kind.StoreSucc v value) found s x y n own e = s_mark 6 v value x.current.succ x x.task y e
stays_kind p (kind.StoreOverwriter v value) found s x y n own e = s_mark 7 v value x.current.stamp x x.task y e
stays_kind p (kind.StoreRing at value) found s x y n own e = s_store_ring at value x (filled x.current x.task) y e
stays_kind p (kind.Decide at header) found s x y n own e = s_decide at header x x.place x.task y e
stays_kind p (kind.LoadRing at) found s x y n own e = s_load_ring at found x x.flushing y e
stays_kind p (kind.ClearRing at) found s x y n own e = s_clear_ring at x x.flushing y e
stays_kind p (kind.StoreFlushed value) found s x y n own e = s_store_flushed value x x.flushing y e
stays_kind p kind.LoadFlushed found s x y n own e = s_load_flushed found x x.flushing y e
stays_kind p (kind.SwapLink v) found s x y n own e = absurd n
stays_kind p (kind.LoadDetached v) found s x y n own e = absurd n
stays_kind p (kind.StoreBack value) found s x y n own e = s_store_back value x x.place y e
stays_kind p (kind.LoadBack other) found s x y n own e = s_load_back other found x x.task y e
stays_kind p (kind.Unset place) found s x y n own e = s_unset place x y e

-- a seat begins with a begin stamp that is the tail
pub record Starts (now : ℕ) (x y : Part) : Type 0 where
  pub starts : HasBegun y.place → (HasBegun x.place × (y.current.begin ≡ x.current.begin)) ⊎ (y.current.begin ≡ now)

pub starts_same : (now : ℕ) (x y : Part) → y.place ≡ x.place → y.current.begin ≡ x.current.begin → Starts now x y
starts_same now x y place begin = record { starts = λ h. inl (subst HasBegun place h, begin) }

starts_quiet : (now : ℕ) (x y : Part) → Quiet x x.task y → Starts now x y
starts_quiet now x y q = starts_same now x y q.steady.place q.steady.begin

b_begin : (seat now : ℕ) (x : Part) (pl : Place) (y : Part) → load_tail_to_begin seat now x pl ≡ Some y → Starts now x y
b_begin seat now x Idle y e =
    when_then (Starts now x) _ _ y e (λ _. record {
      starts = either_way (λ pl. HasBegun pl → (HasBegun x.place × (x.current.begin ≡ x.current.begin)) ⊎ (x.current.begin ≡ now)) _ Idle (Begun now) (λ _ h. absurd h) (λ _ h. absurd h);
    })
b_begin seat now x (Announced tail) y e = when_then (Starts now x) _ _ y e (λ _. record { starts = λ _. inr refl })
b_begin seat now x _ y e = absurd (cc)

b_horizon : (now : ℕ) (x : Part) (t : Task) (y : Part) → load_tail_for_horizon now x t ≡ Some y → Starts now x y
b_horizon now x (task.Claimed version) y e = when_then (Starts now x) _ _ y e (λ _. starts_same now x _ refl refl)
b_horizon now x _ y e = absurd (cc)

b_load_tail : (seat : ℕ) (reason : TailUse) (now : ℕ) (x : Part) (y : Part) → load_tail seat reason now x ≡ Some y → Starts now x y
b_load_tail seat purpose.Begin now x y e = b_begin seat now x x.place y e
b_load_tail seat purpose.Horizon now x y e = b_horizon now x x.task y e
b_load_tail seat purpose.Gather now x y e = when_then (Starts now x) _ _ y e (λ _. starts_same now x _ refl refl)

b_add_tail : (seat size now found : ℕ) (x : Part) (pl : Place) (y : Part) → x.place ≡ pl → add_tail seat size found x pl ≡ Some y → Starts now x y
b_add_tail seat size now found x (Sealing tail) y is e = when_then (Starts now x) _ _ y e (λ _. record { starts = λ _. inl (subst HasBegun (sym is) tt, refl) })
b_add_tail seat size now found x _ y is e = absurd (cc)

b_store_begin : (seat value now : ℕ) (x : Part) (pl : Place) (y : Part) → x.place ≡ pl → store_begin seat value x pl ≡ Some y → Starts now x y
b_store_begin seat value now x (Begun tail) y is e = when_then (Starts now x) _ _ y e (λ _. record { starts = λ h. absurd h })
b_store_begin seat value now x (Active tail) y is e =
    active_begin_then (Starts now x) seat value tail x y e
    (λ _ _. either_way (Starts now x) (is_flusher seat) _ _ (λ _. record { starts = λ h. absurd h }) (λ _. record { starts = λ h. absurd h }))
    (λ _ _ _ _. record { starts = λ _. inl (subst HasBegun (sym is) tt, refl) })
b_store_begin seat value now x (Decided tail stamp) y is e = when_then (Starts now x) _ _ y e (λ _. record { starts = λ h. absurd h })
b_store_begin seat value now x _ y is e = absurd (cc)

b_store_state : (seat value now : ℕ) (x : Part) (pl : Place) (y : Part) → x.place ≡ pl → store_state seat value x pl ≡ Some y → Starts now x y
b_store_state seat value now x (Active tail) y is e = when_then (Starts now x) _ _ y e (λ _. record { starts = λ _. inl (subst HasBegun (sym is) tt, refl) })
b_store_state seat value now x (Drawn tail stamp) y is e = when_then (Starts now x) _ _ y e (λ _. record { starts = λ _. inl (subst HasBegun (sym is) tt, refl) })
b_store_state seat value now x (Leaving stamp) y is e = when_then (Starts now x) _ _ y e (λ _. record { starts = λ h. absurd h })
b_store_state seat value now x _ y is e = absurd (cc)

b_load_begin : (seat other found now : ℕ) (x : Part) (t : Task) (y : Part) → load_begin seat other found x t ≡ Some y → Starts now x y
b_load_begin seat other found now x (task.Horizon version least next) y e = when_then (Starts now x) _ _ y e (λ _. starts_same now x _ refl refl)
b_load_begin seat other found now x (task.Surveys next) y e = when_then (Starts now x) _ _ y e (λ _. starts_same now x _ refl refl)
b_load_begin seat other found now x _ y e = absurd (cc)

b_load_state : (seat other bound found now : ℕ) (x : Part) (y : Part) → load_state seat other bound found x ≡ Some y → Starts now x y
b_load_state seat other bound found now x y e = when_then (Starts now x) _ _ y e (λ _. starts_same now x _ refl refl)

b_decide : (at header now : ℕ) (x : Part) (pl : Place) (t : Task) (y : Part) → x.place ≡ pl → decide at header x pl t ≡ Some y → Starts now x y
b_decide at header now x (Sealed tail stamp) (task.Fills words) y is e = when_then (Starts now x) _ _ y e (λ _. record { starts = λ _. inl (subst HasBegun (sym is) tt, refl) })
b_decide at header now x _ _ y is e = absurd (cc)

b_quiet : (p : ℕ) (k : Kind) (now found : ℕ) (s : Shared) (x y : Part) → IsQuiet k → part_after p k found s x ≡ Some y → Starts now x y
b_quiet p k now found s x y q e = starts_quiet now x y (quiet_kind p k found s x y q e)

pub starts_kind : (p : ℕ) (k : Kind) (c : Core) (y : Part) → part_after p k (word_at c (spot_of p k)) c.shared (c.seats p) ≡ Some y → Starts c.shared.tail (c.seats p) y
starts_kind p (kind.LoadTail reason) c y e = b_load_tail p reason c.shared.tail (c.seats p) y e
starts_kind p (kind.AddTail size) c y e = b_add_tail p size c.shared.tail c.shared.tail (c.seats p) (c.seats p).place y refl e
starts_kind p (kind.StoreBegin value) c y e = b_store_begin p value c.shared.tail (c.seats p) (c.seats p).place y refl e
starts_kind p (kind.StoreState value) c y e = b_store_state p value c.shared.tail (c.seats p) (c.seats p).place y refl e
starts_kind p (kind.LoadBegin other) c y e = b_load_begin p other (word_at c (spot_of p (kind.LoadBegin other))) c.shared.tail (c.seats p) (c.seats p).task y e
starts_kind p (kind.LoadState other bound) c y e = b_load_state p other bound (word_at c (spot_of p (kind.LoadState other bound))) c.shared.tail (c.seats p) y e
starts_kind p (kind.Split other) c y e = absurd (cc)
starts_kind p (kind.Join other) c y e = absurd (cc)
starts_kind p (kind.Decide at header) c y e = b_decide at header c.shared.tail (c.seats p) (c.seats p).place (c.seats p).task y refl e
starts_kind p k c y e = b_quiet p k c.shared.tail (word_at c (spot_of p k)) c.shared (c.seats p) y tt e
