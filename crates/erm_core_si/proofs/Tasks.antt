-- Each event keeps which call a seat may be in the middle of at each place.
use Rattle.std.proofs.Common.{◌≡◌, ℕ, ◌+◌, ◌<◌, Bool, true, false, ◌&&◌, ◌||◌, length, Option, Some, None, refl, sym, ap, ◌∙◌, subst, arith, length-set}
use Rattle.std.specs.Prelude.{if◌then◌else◌}
use Rattle.std.proofs.lemmas.Bool.{and_parts, eqb-true, ltb-true}
use Rattle.std.proofs.lemmas.Option.{same_Some}
use Rattle.erm_machine.specs.declared.attempt.Attempt.{Attempt}
use Rattle.erm_machine.specs.declared.attempt.Claim.{Claim}
use Rattle.erm_machine.specs.declared.attempt.Decision.{Decision}
use Rattle.erm_machine.specs.declared.attempt.Decision.TheVariants.{Commit}
use Rattle.erm_machine.specs.declared.event.Counter.{Counter}
use Rattle.erm_machine.specs.declared.event.Counter.TheVariants.{Objects, Cells}
use Rattle.erm_machine.specs.declared.event.Kind.{Kind}
use Rattle.erm_machine.specs.declared.event.Kind.TheVariants as kind
use Rattle.erm_machine.specs.declared.event.TailUse.{TailUse}
use Rattle.erm_machine.specs.declared.event.TailUse.TheVariants as purpose
use Rattle.erm_machine.specs.declared.part.Flushing.{Flushing}
use Rattle.erm_machine.specs.declared.part.Flushing.TheVariants as flushing
use Rattle.erm_machine.specs.declared.part.Part.{Part}
use Rattle.erm_machine.specs.declared.place.Place.{Place}
use Rattle.erm_machine.specs.declared.place.Place.TheVariants.{Vacant, Idle, Begun, Announced, Active, Sealing, Drawn, Sealed, Decided, Leaving}
use Rattle.erm_machine.specs.declared.task.Task.{Task}
use Rattle.erm_machine.specs.declared.task.Task.TheVariants as task
use Rattle.erm_machine.specs.declared.version.CellWord.{CellWord}
use Rattle.erm_machine.specs.declared.version.CellWord.TheVariants as word
use Rattle.erm_machine.specs.declared.version.VersionAt.{VersionAt}
use Rattle.erm_machine.specs.Core.{Core, Object, Shared, spot_of, word_at}
use Rattle.erm_machine.specs.Flushing.{load_flushed, gathered_word, load_ring, clear_ring, store_flushed}
use Rattle.erm_machine.specs.Life.{load_tail_to_begin, load_tail_for_horizon, load_tail, add_tail, store_begin, store_state, after_passed, load_begin, load_back, store_back, after_clear, load_state, split, join, decide}
use Rattle.erm_machine.specs.Reading.{entered, after_cut, detached, load_entry, claim, set_reader, load_walked_stamp, load_walked_link, load_cell, swap_link, load_detached, load_counter, add_counter, load_active_stamp, start_row, store_row_word, unset}
use Rattle.erm_machine.specs.Seat.{end_of, may_start, is_active, is_sealed, is_decided, is_snapshot, is_vacant, is_commit}
use Rattle.erm_machine.specs.Settling.{load_flushed_to_settle, load_read_entry, load_readers, load_settled_stamp, load_stamp, store_ring, raise_reader, installs, store_head_word, store_active_word, store_cell, mark_overwritten, install_claim, adds_version, install_new, release_old, unclaim, install, clear_reader, filled}
use Rattle.erm_machine.specs.Sound.{Sound}
use Rattle.erm_machine.specs.Step.{part_after, after_event, with_part}
use Rattle.erm_machine.specs.Tasks.{InActive, InSettle, InEnd, TaskFits, OwnTask}
use Rattle.erm_machine.specs.Words.{put, is_clear, is_flusher}
use Rattle.erm_machine.proofs.Backs.{active_begin_then, entry_then, rest_is}
use Rattle.erm_machine.proofs.Frames.{each_seat}
use Rattle.erm_machine.proofs.Guards.{when_then, some_then, if_then, either_way, unless_some}
use Rattle.erm_machine.proofs.QuietKinds.{MeetsOne, moves}

-- the first part of a test
first : (a b : Bool) → (a && b) ≡ true → a ≡ true
first a b h = (and_parts a b h).0

second : (a b : Bool) → (a && b) ≡ true → b ≡ true
second a b h = (and_parts a b h).1

-- a call of an active transaction; a step of a settle
record Works (t : Task) : Type 0 where
  pub works : InActive t

record Settles (t : Task) : Type 0 where
  pub settles : InSettle t

works_if : (b : Bool) (t u : Task) → Works t → Works u → Works (if b then t else u)
works_if b t u f g = either_way Works b t u (λ _. f) (λ _. g)

works_from : (t : Task) → InActive t → Works t
works_from t f = record { works = f }

settles_if : (b : Bool) (t u : Task) → Settles t → Settles u → Settles (if b then t else u)
settles_if b t u f g = either_way Settles b t u (λ _. f) (λ _. g)

settles_from : (t : Task) → InSettle t → Settles t
settles_from t f = record { settles = f }

fits_active : (pl : Place) (t : Attempt) (u : Task) → is_active pl ≡ true → InActive u → TaskFits pl t u
fits_active (Active tail) t u at f = f
fits_active _ t u at f = absurd (cc)

fits_sealed : (pl : Place) (t : Attempt) (u : Task) → is_sealed pl ≡ true → InSettle u → TaskFits pl t u
fits_sealed (Sealed tail stamp) t u at f = f
fits_sealed _ t u at f = absurd (cc)

fits_decided : (pl : Place) (t : Attempt) (u : Task) → is_decided pl ≡ true → InEnd t u → TaskFits pl t u
fits_decided (Decided tail stamp) t u at f = f
fits_decided _ t u at f = absurd (cc)

at_decided : (pl : Place) (t : Attempt) (u : Task) → is_decided pl ≡ true → TaskFits pl t u → InEnd t u
at_decided (Decided tail stamp) t u at f = f
at_decided _ t u at f = absurd (cc)

-- a part in such a call
working : (y : Part) → is_active y.place ≡ true → Works y.task → OwnTask y
working y at w = record { fits = fits_active y.place y.current y.task at w.works }

settling : (y : Part) → is_sealed y.place ≡ true → Settles y.task → OwnTask y
settling y at s = record { fits = fits_sealed y.place y.current y.task at s.settles }

ending : (y : Part) → is_decided y.place ≡ true → InEnd y.current y.task → OwnTask y
ending y at f = record { fits = fits_decided y.place y.current y.task at f }

entered_works : (seat oid entry : ℕ) (o : Object) → Works (entered seat oid entry o)
entered_works seat oid entry o = search (works_if, works_from)

after_cut_works : (x : Part) → Works (after_cut x)
after_cut_works x = search (works_if, works_from)

detached_works : (found : ℕ) (v : VersionAt) (x : Part) → Works (detached found v x)
detached_works found v x = search (works_if, works_from, after_cut_works)

t_load_entry : (seat oid found : ℕ) (o : Object) (x : Part) (t : Task) (y : Part) → load_entry seat oid found o x t ≡ Some y → OwnTask y
t_load_entry seat oid found o x (task.Cleared cleared) y e =
    when_then OwnTask _ _ y e (λ g. working _ g (search (works_if, works_from, entered_works)))
t_load_entry seat oid found o x t y e =
    entry_then OwnTask seat oid found o x t y e (λ _ at. working _ at (works_from _ tt)) (λ g. working _ (first _ _ g) (entered_works seat oid found o))

t_claim : (seat oid seen number found : ℕ) (o : Object) (x : Part) (t : Task) (y : Part) → claim seat oid seen number found o x t ≡ Some y → OwnTask y
t_claim seat oid seen number found o x (task.Found version stamp (Some entry)) y e =
    when_then OwnTask _ _ y e (λ g.
    working _ (first _ _ (first _ _ (first _ _ (first _ _ (first _ _ g))))) (search (works_if, works_from, entered_works)))
t_claim seat oid seen number found o x _ y e = absurd (cc)

t_set_reader : (seat : ℕ) (v : VersionAt) (o : Object) (x : Part) (t : Task) (y : Part) → set_reader seat v o x t ≡ Some y → OwnTask y
t_set_reader seat v o x (task.Found version stamp head) y e =
    when_then OwnTask _ _ y e (λ g. working _ (first _ _ (first _ _ (first _ _ (first _ _ g)))) (works_from _ tt))
t_set_reader seat v o x _ y e = absurd (cc)

t_walked_stamp : (found : ℕ) (v : VersionAt) (x : Part) (t : Task) (y : Part) → is_active x.place ≡ true → load_walked_stamp found v x t ≡ Some y → OwnTask y
t_walked_stamp found v x (task.Walks version head) y at e = when_then OwnTask _ _ y e (λ _. working _ at (search (works_if, works_from)))
t_walked_stamp found v x (task.CutWalks version horizon) y at e = when_then OwnTask _ _ y e (λ _. working _ at (search (works_if, works_from)))
t_walked_stamp found v x (task.SafeWalks version) y at e = when_then OwnTask _ _ y e (λ _. working _ at (search (works_if, works_from)))
t_walked_stamp found v x (task.Passed version) y at e = when_then OwnTask _ _ y e (λ _. working _ at (works_from _ tt))
t_walked_stamp found v x _ y at e = absurd (cc)

t_walked_link : (found : ℕ) (v : VersionAt) (x : Part) (t : Task) (y : Part) → is_active x.place ≡ true → load_walked_link found v x t ≡ Some y → OwnTask y
t_walked_link found v x (task.Passed version) y at e = when_then OwnTask _ _ y e (λ _. working _ at (works_from _ tt))
t_walked_link found v x (task.SafePassed version) y at e = when_then OwnTask _ _ y e (λ _. working _ at (works_from _ tt))
t_walked_link found v x (task.CutPassed version horizon) y at e =
    when_then OwnTask _ _ y e (λ _. working _ at (search (works_if, works_from, after_cut_works)))
t_walked_link found v x _ y at e = absurd (cc)

t_load_cell : (found : ℕ) (v : VersionAt) (w : CellWord) (x : Part) (y : Part) → OwnTask x → load_cell found v w x ≡ Some y → OwnTask y
t_load_cell found v word.Stamp x y own e = if_then OwnTask (is_active x.place) (load_walked_stamp found v x x.task) None y e (λ at h. t_walked_stamp found v x x.task y at h) (λ _ h. absurd (cc))
t_load_cell found v word.Link x y own e = if_then OwnTask (is_active x.place) (load_walked_link found v x x.task) None y e (λ at h. t_walked_link found v x x.task y at h) (λ _ h. absurd (cc))
t_load_cell found v (word.Row k) x y own e = when_then OwnTask _ _ y e (λ _. own)
t_load_cell found v _ x y own e = absurd (cc)

t_swap_link : (found : ℕ) (v : VersionAt) (o : Object) (x : Part) (t : Task) (y : Part) → swap_link found v o x t ≡ Some y → OwnTask y
t_swap_link found v o x (task.CutFound version horizon) y e = when_then OwnTask _ _ y e (λ g. working _ (first _ _ g) (detached_works found version x))
t_swap_link found v o x _ y e = absurd (cc)

t_load_detached : (found : ℕ) (v : VersionAt) (x : Part) (t : Task) (y : Part) → load_detached found v x t ≡ Some y → OwnTask y
t_load_detached found v x (task.Detaches version) y e = when_then OwnTask _ _ y e (λ g. working _ (first _ _ g) (detached_works found version x))
t_load_detached found v x _ y e = absurd (cc)

t_load_counter : (cells : ℕ) (c : Counter) (found : ℕ) (x : Part) (t : Task) (y : Part) → load_counter cells c found x t ≡ Some y → OwnTask y
t_load_counter cells Objects found x t y e = when_then OwnTask _ _ y e (λ g. working _ (first _ _ g) (search (works_if, works_from)))
t_load_counter cells Cells found x task.Draws y e = when_then OwnTask _ _ y e (λ g. working _ (first _ _ g) (search (works_if, works_from)))
t_load_counter cells Cells found x _ y e = absurd (cc)

t_add_counter : (cells : ℕ) (seat : ℕ) (c : Counter) (found : ℕ) (x : Part) (t : Task) (y : Part) → add_counter cells seat c found x t ≡ Some y → OwnTask y
t_add_counter cells seat Objects found x task.Numbers y e = when_then OwnTask _ _ y e (λ g. working _ (first _ _ g) (works_from _ tt))
t_add_counter cells seat Cells found x task.Pool y e = when_then OwnTask _ _ y e (λ g. working _ g (search (works_if, works_from)))
t_add_counter cells seat Objects found x _ y e = absurd (cc)
t_add_counter cells seat Cells found x _ y e = absurd (cc)

t_active_stamp : (found : ℕ) (v : VersionAt) (w : CellWord) (x : Part) (t : Task) (y : Part) → is_active x.place ≡ true → load_active_stamp found v w x t ≡ Some y → OwnTask y
t_active_stamp found v word.Overwriter x (task.Registered version) y at e = when_then OwnTask _ _ y e (λ _. working _ at (search (works_if, works_from)))
t_active_stamp found v word.OverwriterSucc x (task.Overtaken version overwriter) y at e = when_then OwnTask _ _ y e (λ _. working _ at (works_from _ tt))
t_active_stamp found v word.ReaderStamp x task.Draws y at e = when_then OwnTask _ _ y e (λ _. working _ at (works_from _ tt))
t_active_stamp found v word.ReaderStamp x task.Fetched y at e = when_then OwnTask _ _ y e (λ _. working _ at (works_from _ tt))
t_active_stamp found v _ x _ y at e = absurd (cc)

t_settled_stamp : (found : ℕ) (v : VersionAt) (w : CellWord) (x : Part) (t : Task) (y : Part) → is_sealed x.place ≡ true → load_settled_stamp found v w x t ≡ Some y → OwnTask y
t_settled_stamp found v word.Overwriter x (task.ReadClear read) y at e = when_then OwnTask _ _ y e (λ _. settling _ at (search (settles_if, settles_from)))
t_settled_stamp found v word.OverwriterSucc x (task.ReadOvertaken read overwriter) y at e = when_then OwnTask _ _ y e (λ _. settling _ at (settles_from _ tt))
t_settled_stamp found v word.Stamp x (task.WriteClear write) y at e = when_then OwnTask _ _ y e (λ _. settling _ at (settles_from _ tt))
t_settled_stamp found v word.ReaderStamp x (task.WriteMade write) y at e = when_then OwnTask _ _ y e (λ _. settling _ at (settles_from _ tt))
t_settled_stamp found v _ x _ y at e = absurd (cc)

t_load_stamp : (found : ℕ) (v : VersionAt) (w : CellWord) (x : Part) (y : Part) → load_stamp found v w x ≡ Some y → OwnTask y
t_load_stamp found v w x y e =
    if_then OwnTask _ _ _ y e (λ at h. t_active_stamp found v w x x.task y at h)
    (λ _ rest. if_then OwnTask _ _ _ y rest (λ at h. t_settled_stamp found v w x x.task y at h) (λ _ h. absurd (cc)))

t_load_read_entry : (seat oid found : ℕ) (x : Part) (t : Task) (y : Part) → load_read_entry seat oid found x t ≡ Some y → OwnTask y
t_load_read_entry seat oid found x (task.Settles reads writes) y e =
    when_then OwnTask _ _ y e (λ g. settling _ (first _ _ (first _ _ g)) (search (settles_if, settles_from)))
t_load_read_entry seat oid found x _ y e = absurd (cc)

t_load_readers : (seat : ℕ) (v : VersionAt) (found : ℕ) (x : Part) (t : Task) (y : Part) → load_readers seat v found x t ≡ Some y → OwnTask y
t_load_readers seat v found x (task.Settles reads writes) y e =
    when_then OwnTask _ _ y e (λ g. settling _ (first _ _ (first _ _ (first _ _ g))) (search (settles_if, settles_from)))
t_load_readers seat v found x _ y e = absurd (cc)

t_store_ring : (at value : ℕ) (x : Part) (o : Option ℕ) (y : Part) → store_ring at value x o ≡ Some y → OwnTask y
t_store_ring at value x None y e = absurd (cc)
t_store_ring at value x (Some words) y e = when_then OwnTask _ _ y e (λ g. settling _ (first _ _ (first _ _ (first _ _ (first _ _ g)))) (settles_from _ tt))

-- a step of an end that raises a reader stamp or clears a bit
t_raise_reader : (v : VersionAt) (value : ℕ) (x : Part) (t : Task) (y : Part) → x.task ≡ t → OwnTask x → raise_reader v value x t ≡ Some y → OwnTask y
t_raise_reader v value x (task.Ends raised ended step cleared) y is own e =
    when_then OwnTask _ _ y e (λ g.
    let at : is_decided x.place ≡ true = first _ _ (first _ _ (first _ _ (first _ _ g))) in
    let old : InEnd x.current (task.Ends raised ended step cleared) = subst (λ u. InEnd x.current u) is (at_decided x.place x.current x.task at own.fits) in
    ending _ at old)
t_raise_reader v value x _ y is own e = absurd (cc)

commit_of : (d : Decision) → is_commit d ≡ true → d ≡ Commit
commit_of Commit e = refl
commit_of _ e = absurd (cc)

-- what an install's guard says
record Installs (x : Part) (ended : ℕ) : Type 0 where
  pub decided : is_decided x.place ≡ true
  pub commits : x.current.decision ≡ Commit
  pub within : ended < length x.current.writes

installs_then : (raised ended step : ℕ) (x : Part) → installs raised ended step x ≡ true → Installs x ended
installs_then raised ended step x g = record {
  decided = first _ _ (first _ _ (first _ _ g));
  commits = commit_of x.current.decision (second _ _ (first _ _ (first _ _ g)));
  within = ltb-true _ _ (second _ _ g);
}

t_mark : (nth : ℕ) (v : VersionAt) (value wanted : ℕ) (x : Part) (t : Task) (y : Part) → nth < 8 → mark_overwritten nth v value wanted x t ≡ Some y → OwnTask y
t_mark nth v value wanted x (task.Ends raised ended step cleared) y few e =
    when_then OwnTask _ _ y e (λ g.
    let i = installs_then raised ended step x (first _ _ (first _ _ (first _ _ g))) in
    let is : step ≡ nth = eqb-true _ _ (second _ _ (first _ _ (first _ _ g))) in
    ending _ i.decided (omega (arith, is, few), λ _. (i.commits, i.within)))
t_mark nth v value wanted x _ y few e = absurd (cc)

t_head_word : (place cell : ℕ) (w : CellWord) (value : ℕ) (x : Part) (t : Task) (y : Part) → store_head_word place cell w value x t ≡ Some y → OwnTask y
t_head_word place cell w value x (task.Ends raised ended step cleared) y e =
    when_then OwnTask _ _ y e (λ g.
    let i = installs_then raised ended step x (first _ _ (first _ _ (first _ _ (first _ _ (first _ _ g))))) in
    let below : step < 6 = ltb-true _ _ (second _ _ (first _ _ g)) in
    ending _ i.decided (omega (arith, below), λ _. (i.commits, let n = i.within in omega (arith, n, length-set {A = Claim}))))
t_head_word place cell w value x _ y e = absurd (cc)

t_start_row : (place cell k value : ℕ) (x : Part) (t : Task) (y : Part) → is_active x.place ≡ true → start_row place cell k value x t ≡ Some y → OwnTask y
t_start_row place cell k value x t y at e = when_then OwnTask _ _ y e (λ _. working _ at (works_from _ tt))

t_row_word : (place cell k value : ℕ) (x : Part) (t : Task) (y : Part) → is_active x.place ≡ true → store_row_word place cell k value x t ≡ Some y → OwnTask y
t_row_word place cell k value x (task.Copies w) y at e = when_then OwnTask _ _ y e (λ _. working _ at (search (works_if, works_from)))
t_row_word place cell k value x (task.Writes claim w) y at e = when_then OwnTask _ _ y e (λ _. working _ at (search (works_if, works_from)))
t_row_word place cell k value x t y at e = t_start_row place cell k value x t y at e

t_active_word : (place cell : ℕ) (w : CellWord) (value : ℕ) (x : Part) (y : Part) → is_active x.place ≡ true → store_active_word place cell w value x ≡ Some y → OwnTask y
t_active_word place cell (word.Row k) value x y at e = t_row_word place cell k value x x.task y at e
t_active_word place cell _ value x y at e = absurd (cc)

t_store_cell : (place cell : ℕ) (w : CellWord) (value : ℕ) (x : Part) (y : Part) → store_cell place cell w value x ≡ Some y → OwnTask y
t_store_cell place cell w value x y e =
    if_then OwnTask _ _ _ y e (λ at h. t_active_word place cell w value x y at h) (λ _ h. t_head_word place cell w value x x.task y h)

-- how far the end of an active transaction has come
zero_if : (b : Bool) (e : ℕ × ℕ × ℕ × ℕ) → ◌≡◌ {A = Option (ℕ × ℕ × ℕ × ℕ)} (if b then Some (0, 0, 0, 0) else None) (Some e) → (e.0 ≡ 0) × (e.2 ≡ 0)
zero_if true e h = let same : ◌≡◌ {A = ℕ × ℕ × ℕ × ℕ} (0, 0, 0, 0) e = same_Some _ _ h in (sym (ap (λ (q : ℕ × ℕ × ℕ × ℕ). q.0) same), sym (ap (λ (q : ℕ × ℕ × ℕ × ℕ). q.2) same))
zero_if false e h = absurd (cc)

end_active : (t : Task) (e : ℕ × ℕ × ℕ × ℕ) → end_of t ≡ Some e → InActive t → (e.0 ≡ 0) × (e.2 ≡ 0)
end_active (task.Ends raised ended step cleared) e h f =
    let same : ◌≡◌ {A = ℕ × ℕ × ℕ × ℕ} (raised, ended, step, cleared) e = same_Some _ _ h in
    (sym (ap (λ (q : ℕ × ℕ × ℕ × ℕ). q.0) same) ∙ f.0, sym (ap (λ (q : ℕ × ℕ × ℕ × ℕ). q.2) same) ∙ f.1)
end_active (task.Copies w) e h f = zero_if true e h
end_active (task.Writes claim w) e h f = zero_if true e h
end_active t e h f = zero_if (may_start t || is_snapshot t) e h

-- how far that of a decided one has come
end_decided : (t : Attempt) (u : Task) (e : ℕ × ℕ × ℕ × ℕ) (cleared : ℕ) → end_of u ≡ Some e → InEnd t u → InEnd t (task.Ends e.0 e.1 e.2 cleared)
end_decided t (task.Ends raised ended step all) e cleared h f =
    let same : ◌≡◌ {A = ℕ × ℕ × ℕ × ℕ} (raised, ended, step, all) e = same_Some _ _ h in
    subst (λ (q : ℕ × ℕ × ℕ × ℕ). InEnd t (task.Ends q.0 q.1 q.2 cleared)) same f
end_decided t _ e cleared h f = absurd f

-- a step of an end
ends_fit : (pl : Place) (t u : Attempt) (before after : Task) → (is_decided pl || is_active pl) ≡ true → TaskFits pl t before →
    (InActive before → InActive after) → (InEnd t before → InEnd u after) → TaskFits pl u after
ends_fit (Active tail) t u before after at old in_active in_end = in_active old
ends_fit (Decided tail stamp) t u before after at old in_active in_end = in_end old
ends_fit _ t u before after at old in_active in_end = absurd (cc)

t_unclaim : (oid head : ℕ) (x : Part) (y : Part) → unclaim oid head x ≡ Some y → OwnTask y
t_unclaim oid head x y e = when_then OwnTask _ _ y e (λ g. working _ (first _ _ (first _ _ (first _ _ g))) (works_from _ tt))

t_install_claim : (oid head : ℕ) (x : Part) (o : Option (ℕ × ℕ × ℕ × ℕ)) (y : Part) → end_of x.task ≡ o → OwnTask x → install_claim oid head x o ≡ Some y → OwnTask y
t_install_claim oid head x None y is own e = absurd (cc)
t_install_claim oid head x (Some n) y is own e =
    if_then OwnTask (adds_version x) (install_new oid head x n) (release_old oid head x n) y e
    (λ commits h. when_then OwnTask _ _ y h (λ _. ending _ (first _ _ commits) (omega arith, λ (some : 0 < 0). absurd (omega arith))))
    (λ _ h. when_then OwnTask _ _ y h (λ g. record {
      fits = ends_fit x.place x.current _ x.task _ (first _ _ (first _ _ (first _ _ g))) own.fits
          (λ f. ((end_active x.task n is f).0, refl)) (λ _. (omega arith, λ (some : 0 < 0). absurd (omega arith)));
    }))

t_install : (oid head : ℕ) (x : Part) (t : Task) (y : Part) → x.task ≡ t → OwnTask x → install oid head x t ≡ Some y → OwnTask y
t_install oid head x task.Refused y is own e = t_unclaim oid head x y e
t_install oid head x t y is own e = t_install_claim oid head x (end_of t) y (ap end_of is) own e

t_clear_reader : (v : VersionAt) (x : Part) (o : Option (ℕ × ℕ × ℕ × ℕ)) (y : Part) → end_of x.task ≡ o → OwnTask x → clear_reader v x o ≡ Some y → OwnTask y
t_clear_reader v x None y is own e = absurd (cc)
t_clear_reader v x (Some n) y is own e =
    when_then OwnTask _ _ y e (λ g. record {
      fits = ends_fit x.place x.current x.current x.task _ (first _ _ (first _ _ (first _ _ (first _ _ g)))) own.fits
          (λ f. end_active x.task n is f) (λ f. end_decided x.current x.task n (n.3 + 1) is f);
    })

-- what the flush seat does leaves the place, the transaction and the call
t_to_settle : (found : ℕ) (x : Part) → OwnTask x → OwnTask (load_flushed_to_settle found x)
t_to_settle found x own =
    either_way OwnTask _ _ _ (λ g. record { fits = begins_settle x.place x.current (first _ _ (first _ _ g)) }) (λ _. own)
  where
    begins_settle : (pl : Place) (t : Attempt) → is_sealed pl ≡ true → TaskFits pl t (task.Settles 0 0)
    begins_settle (Sealed tail stamp) t e = tt
    begins_settle _ t e = absurd (cc)

t_load_flushed : (found : ℕ) (x : Part) (f : Flushing) (y : Part) → OwnTask x → load_flushed found x f ≡ Some y → OwnTask y
t_load_flushed found x (flushing.Tail tail) y own e = some_then OwnTask _ y e (record { fits = own.fits })
t_load_flushed found x _ y own e = when_then OwnTask _ _ y e (λ _. t_to_settle found x own)

own_if : (b : Bool) (l r : Part) → OwnTask l → OwnTask r → OwnTask (if b then l else r)
own_if b l r f g = either_way OwnTask b l r (λ _. f) (λ _. g)

t_gathered : (tail from block next end : ℕ) (x : Part) → OwnTask x → OwnTask (gathered_word tail from block next end x)
t_gathered tail from block next end x own = either_way OwnTask _ _ _ (λ _. record { fits = own.fits }) (λ _. record { fits = own.fits })

t_load_ring : (at found : ℕ) (x : Part) (f : Flushing) (y : Part) → OwnTask x → load_ring at found x f ≡ Some y → OwnTask y
t_load_ring at found x (flushing.Gathers tail from block next end) y own e = when_then OwnTask _ _ y e (λ _. own_if _ _ _ (t_gathered tail from block next end x own) (own_if _ _ _ own (t_gathered tail from next next _ x own)))
t_load_ring at found x _ y own e = absurd (cc)

t_clear_ring : (at : ℕ) (x : Part) (f : Flushing) (y : Part) → OwnTask x → clear_ring at x f ≡ Some y → OwnTask y
t_clear_ring at x (flushing.Gathers tail from block next end) y own e = when_then OwnTask _ _ y e (λ _. record { fits = own.fits })
t_clear_ring at x (flushing.Clears next to) y own e = when_then OwnTask _ _ y e (λ _. record { fits = own.fits })
t_clear_ring at x _ y own e = absurd (cc)

t_store_flushed : (value : ℕ) (x : Part) (f : Flushing) (y : Part) → OwnTask x → store_flushed value x f ≡ Some y → OwnTask y
t_store_flushed value x (flushing.Clears next to) y own e = when_then OwnTask _ _ y e (λ _. record { fits = own.fits })
t_store_flushed value x _ y own e = absurd (cc)

-- steps that move the seat on in its life: no call is in progress at most places
t_begin : (seat found : ℕ) (x : Part) (pl : Place) (y : Part) → x.place ≡ pl → OwnTask x → load_tail_to_begin seat found x pl ≡ Some y → OwnTask y
t_begin seat found x Idle y is own e =
    let rest : x.task ≡ task.Rest = subst (λ q. TaskFits q x.current x.task) is own.fits in
    when_then OwnTask _ _ y e (λ _. record { fits = either_way (λ q. TaskFits q x.current x.task) _ Idle (Begun found) (λ _. rest) (λ _. rest) })
t_begin seat found x (Announced tail) y is own e = when_then OwnTask _ _ y e (λ _. record { fits = tt })
t_begin seat found x _ y is own e = absurd (cc)

t_horizon : (found : ℕ) (x : Part) (t : Task) (y : Part) → load_tail_for_horizon found x t ≡ Some y → OwnTask y
t_horizon found x (task.Claimed version) y e = when_then OwnTask _ _ y e (λ g. working _ g (works_from _ tt))
t_horizon found x _ y e = absurd (cc)

t_load_tail : (seat : ℕ) (reason : TailUse) (found : ℕ) (x : Part) (y : Part) → OwnTask x → load_tail seat reason found x ≡ Some y → OwnTask y
t_load_tail seat purpose.Begin found x y own e = t_begin seat found x x.place y refl own e
t_load_tail seat purpose.Horizon found x y own e = t_horizon found x x.task y e
t_load_tail seat purpose.Gather found x y own e = when_then OwnTask _ _ y e (λ _. record { fits = own.fits })

t_add_tail : (seat size found : ℕ) (x : Part) (pl : Place) (y : Part) → x.place ≡ pl → OwnTask x → add_tail seat size found x pl ≡ Some y → OwnTask y
t_add_tail seat size found x (Sealing tail) y is own e =
    let rest : x.task ≡ task.Rest = subst (λ q. TaskFits q x.current x.task) is own.fits in
    when_then OwnTask _ _ y e (λ _. record { fits = rest })
t_add_tail seat size found x _ y is own e = absurd (cc)

t_store_begin : (seat value : ℕ) (x : Part) (pl : Place) (y : Part) → x.place ≡ pl → OwnTask x → store_begin seat value x pl ≡ Some y → OwnTask y
t_store_begin seat value x (Begun tail) y is own e =
    let rest : x.task ≡ task.Rest = subst (λ q. TaskFits q x.current x.task) is own.fits in
    when_then OwnTask _ _ y e (λ _. record { fits = rest })
t_store_begin seat value x (Active tail) y is own e =
    active_begin_then OwnTask seat value tail x y e
    (λ _ _. either_way OwnTask (is_flusher seat) _ _ (λ _. record { fits = refl }) (λ _. record { fits = refl }))
    (λ _ _ _ _. record { fits = tt })
t_store_begin seat value x (Decided tail stamp) y is own e = when_then OwnTask _ _ y e (λ _. record { fits = refl })
t_store_begin seat value x _ y is own e = absurd (cc)

t_store_state : (seat value : ℕ) (x : Part) (pl : Place) (y : Part) → x.place ≡ pl → OwnTask x → store_state seat value x pl ≡ Some y → OwnTask y
t_store_state seat value x (Active tail) y is own e = when_then OwnTask _ _ y e (λ _. record { fits = refl })
t_store_state seat value x (Drawn tail stamp) y is own e =
    let rest : x.task ≡ task.Rest = subst (λ q. TaskFits q x.current x.task) is own.fits in
    when_then OwnTask _ _ y e (λ _. record { fits = subst InSettle (sym rest) tt })
t_store_state seat value x (Leaving stamp) y is own e =
    let rest : x.task ≡ task.Rest = subst (λ q. TaskFits q x.current x.task) is own.fits in
    when_then OwnTask _ _ y e (λ _. record { fits = rest })
t_store_state seat value x _ y is own e = absurd (cc)

after_passed_works : (next : ℕ) → Works (after_passed next)
after_passed_works next = search (works_if, works_from)

t_load_begin : (seat other found : ℕ) (x : Part) (t : Task) (y : Part) → load_begin seat other found x t ≡ Some y → OwnTask y
t_load_begin seat other found x (task.Horizon version least next) y e =
    when_then OwnTask _ _ y e (λ g. working _ (first _ _ (first _ _ g)) (search (works_if, works_from)))
t_load_begin seat other found x (task.Surveys next) y e =
    when_then OwnTask _ _ y e (λ g. working _ (first _ _ g) (search (works_if, works_from, after_passed_works)))
t_load_begin seat other found x _ y e = absurd (cc)

t_load_back : (other found : ℕ) (x : Part) (t : Task) (y : Part) → load_back other found x t ≡ Some y → OwnTask y
t_load_back other found x (task.Behind next) y e =
    when_then OwnTask _ _ y e (λ g. working _ (first _ _ g) (search (works_if, works_from, after_passed_works)))
t_load_back other found x _ y e = absurd (cc)

t_store_back : (value : ℕ) (x : Part) (pl : Place) (y : Part) → OwnTask x → store_back value x pl ≡ Some y → OwnTask y
t_store_back value x (Decided tail stamp) y own e = when_then OwnTask _ _ y e (λ _. record { fits = own.fits })
t_store_back value x _ y own e = absurd (cc)

t_unset : (place : ℕ) (x y : Part) → unset place x ≡ Some y → OwnTask y
t_unset place x y e =
    when_then OwnTask _ _ y e (λ g.
    let front = first _ _ (first _ _ g) in
    working _ (first _ _ front) (subst Works (sym (rest_is x.task (second _ _ front))) (works_from task.Rest tt)))

t_decide : (at header : ℕ) (x : Part) (pl : Place) (t : Task) (y : Part) → decide at header x pl t ≡ Some y → OwnTask y
t_decide at header x (Sealed tail stamp) (task.Fills words) y e =
    when_then OwnTask _ _ y e (λ _. record { fits = (omega arith, λ (some : 0 < 0). absurd (omega arith)) })
t_decide at header x _ _ y e = absurd (cc)

-- a look
look_works : (other bound : ℕ) (x : Part) (t : Task) → InActive t → Works (after_clear other bound x t)
look_works other bound x (task.Owned oid owner) f = search (works_if, works_from)
look_works other bound x (task.ReadOwned read owner) f = absurd f
look_works other bound x (task.ReadersLeft write bits) f = absurd f
look_works other bound x _ f = record { works = f }

look_settles : (other bound : ℕ) (x : Part) (t : Task) → InSettle t → Settles (after_clear other bound x t)
look_settles other bound x (task.Owned oid owner) f = absurd f
look_settles other bound x (task.ReadOwned read owner) f = search (settles_if, settles_from)
look_settles other bound x (task.ReadersLeft write bits) f = search (settles_if, settles_from)
look_settles other bound x _ f = record { settles = f }

look_ends : (other bound : ℕ) (x : Part) (t : Attempt) (u : Task) → InEnd t u → InEnd t (after_clear other bound x u)
look_ends other bound x t (task.Ends raised ended step cleared) f = f
look_ends other bound x t _ f = absurd f

look_rests : (other bound : ℕ) (x : Part) (t : Task) → t ≡ task.Rest → after_clear other bound x t ≡ task.Rest
look_rests other bound x t is = ap (after_clear other bound x) is

look_fits : (other bound : ℕ) (x : Part) (pl : Place) (t : Attempt) (u : Task) → TaskFits pl t u → TaskFits pl t (after_clear other bound x u)
look_fits other bound x (Active tail) t u f = (look_works other bound x u f).works
look_fits other bound x (Sealed tail stamp) t u f = (look_settles other bound x u f).settles
look_fits other bound x (Decided tail stamp) t u f = look_ends other bound x t u f
look_fits other bound x _ t u f = look_rests other bound x u f

t_load_state : (seat other bound found : ℕ) (x : Part) (y : Part) → OwnTask x → load_state seat other bound found x ≡ Some y → OwnTask y
t_load_state seat other bound found x y own e =
    when_then OwnTask _ _ y e (λ _. record {
      fits = either_way (λ u. TaskFits x.place x.current u) (is_clear found bound) (after_clear other bound x x.task) x.task
          (λ _. look_fits other bound x x.place x.current x.task own.fits) (λ _. own.fits);
    })

-- each kind of step
task_after : (p : ℕ) (k : Kind) (found : ℕ) (s : Shared) (x y : Part) → OwnTask x → part_after p k found s x ≡ Some y → OwnTask y
task_after p (kind.LoadTail reason) found s x y own e = t_load_tail p reason found x y own e
task_after p (kind.AddTail size) found s x y own e = t_add_tail p size found x x.place y refl own e
task_after p (kind.StoreBegin value) found s x y own e = t_store_begin p value x x.place y refl own e
task_after p (kind.StoreState value) found s x y own e = t_store_state p value x x.place y refl own e
task_after p (kind.LoadBegin other) found s x y own e = t_load_begin p other found x x.task y e
task_after p (kind.LoadState other bound) found s x y own e = t_load_state p other bound found x y own e
task_after p (kind.Split other) found s x y own e = absurd (cc)
task_after p (kind.Join other) found s x y own e = absurd (cc)
task_after p (kind.LoadEntry oid) found s x y own e =
    if_then OwnTask (is_sealed x.place) (load_read_entry p oid found x x.task) (load_entry p oid found (s.objects oid) x x.task) y e
    (λ _ h. t_load_read_entry p oid found x x.task y h) (λ _ h. t_load_entry p oid found (s.objects oid) x x.task y h)
task_after p (kind.Claim oid seen number) found s x y own e = t_claim p oid seen number found (s.objects oid) x x.task y e
task_after p (kind.Install oid head) found s x y own e = t_install oid head x x.task y refl own e
task_after p (kind.LoadCell v w) found s x y own e = t_load_cell found v w x y own (unless_some _ _ y e)
task_after p (kind.StoreCell place cell w value) found s x y own e = t_store_cell place cell w value x y e
task_after p (kind.LoadCounter counter) found s x y own e = t_load_counter _ counter found x x.task y e
task_after p (kind.AddCounter counter) found s x y own e = t_add_counter _ p counter found x x.task y e
task_after p (kind.SetReader v) found s x y own e = t_set_reader p v (s.objects v.oid) x x.task y e
task_after p (kind.ClearReader v) found s x y own e = t_clear_reader v x (end_of x.task) y refl own e
task_after p (kind.LoadReaders v) found s x y own e = t_load_readers p v found x x.task y e
task_after p (kind.LoadStamp v w) found s x y own e = t_load_stamp found v w x y e
task_after p (kind.RaiseReader v value) found s x y own e = t_raise_reader v value x x.task y refl own e
task_after p (kind.StoreSucc v value) found s x y own e = t_mark 6 v value x.current.succ x x.task y (omega arith) e
task_after p (kind.StoreOverwriter v value) found s x y own e = t_mark 7 v value x.current.stamp x x.task y (omega arith) e
task_after p (kind.StoreRing at value) found s x y own e = t_store_ring at value x (filled x.current x.task) y e
task_after p (kind.Decide at header) found s x y own e = t_decide at header x x.place x.task y e
task_after p (kind.LoadRing at) found s x y own e = t_load_ring at found x x.flushing y own e
task_after p (kind.ClearRing at) found s x y own e = t_clear_ring at x x.flushing y own e
task_after p (kind.StoreFlushed value) found s x y own e = t_store_flushed value x x.flushing y own e
task_after p kind.LoadFlushed found s x y own e = t_load_flushed found x x.flushing y own e
task_after p (kind.SwapLink v) found s x y own e = t_swap_link found v (s.objects v.oid) x x.task y e
task_after p (kind.LoadDetached v) found s x y own e = t_load_detached found v x x.task y e
task_after p (kind.StoreBack value) found s x y own e = t_store_back value x x.place y own e
task_after p (kind.LoadBack other) found s x y own e = t_load_back other found x x.task y e
task_after p (kind.Unset place) found s x y own e = t_unset place x y e

-- one seat's part after the event
part_kept : (c : Core) (s : Shared) (p : ℕ) (y : Part) (d : Core) → Sound c → OwnTask y → record { shared = s; seats = put c.seats p y } ≡ d → (q : ℕ) → OwnTask (d.seats q)
part_kept c s p y d sound own is q =
    subst (λ (b : Core). OwnTask (b.seats q)) is (each_seat (λ _ (z : Part). OwnTask z) c.seats p y own (λ r _. (sound.own r).task) q)

split_task : (x other y : Part) → OwnTask other → split x other ≡ Some y → OwnTask y
split_task x other y own e =
    when_then OwnTask _ _ y e (λ g. record { fits = vacant_rests other.place (second _ _ g) own.fits })
  where
    vacant_rests : (pl : Place) → is_vacant pl ≡ true → TaskFits pl other.current other.task → other.task ≡ task.Rest
    vacant_rests Vacant at f = f
    vacant_rests _ at f = absurd (cc)

join_task : (x other y : Part) → OwnTask x → join x other ≡ Some y → OwnTask y
join_task x other y own e = when_then OwnTask _ _ y e (λ _. record { fits = own.fits })

split_kept : (c : Core) (p other : ℕ) (d : Core) → Sound c → after_event c p (kind.Split other) ≡ Some d → (q : ℕ) → OwnTask (d.seats q)
split_kept c p other d sound e = by_test _ e
  where
    from : (o : Option Part) → split (c.seats p) (c.seats other) ≡ o → with_part c other o ≡ Some d → (q : ℕ) → OwnTask (d.seats q)
    from None at e = absurd (cc)
    from (Some y) at e = part_kept c c.shared other y d sound (split_task (c.seats p) (c.seats other) y (sound.own other).task at) (same_Some _ _ e)

    by_test : (b : Bool) → (if b then with_part c other (split (c.seats p) (c.seats other)) else None) ≡ Some d → (q : ℕ) → OwnTask (d.seats q)
    by_test true e = from _ refl e
    by_test false e = absurd (cc)

join_kept : (c : Core) (p other : ℕ) (d : Core) → Sound c → after_event c p (kind.Join other) ≡ Some d → (q : ℕ) → OwnTask (d.seats q)
join_kept c p other d sound e = by_test _ e
  where
    from : (o : Option Part) → join (c.seats p) (c.seats other) ≡ o → with_part c p o ≡ Some d → (q : ℕ) → OwnTask (d.seats q)
    from None at e = absurd (cc)
    from (Some y) at e = part_kept c c.shared p y d sound (join_task (c.seats p) (c.seats other) y (sound.own p).task at) (same_Some _ _ e)

    by_test : (b : Bool) → (if b then None else with_part c p (join (c.seats p) (c.seats other))) ≡ Some d → (q : ℕ) → OwnTask (d.seats q)
    by_test true e = absurd (cc)
    by_test false e = from _ refl e

moved_kept : (c : Core) (p : ℕ) (k : Kind) (d : Core) → MeetsOne k → Sound c → after_event c p k ≡ Some d → (q : ℕ) → OwnTask (d.seats q)
moved_kept c p k d one sound e =
    let m = moves c p k d one e in
    part_kept c _ p m.part d sound (task_after p k (word_at c (spot_of p k)) c.shared (c.seats p) m.part (sound.own p).task m.after) (sym m.is)

-- Each event keeps which call a seat may be in the middle of.
pub kept : (c : Core) (p : ℕ) (k : Kind) (d : Core) → Sound c → after_event c p k ≡ Some d → (q : ℕ) → OwnTask (d.seats q)
kept c p (kind.Split other) d sound e = split_kept c p other d sound e
kept c p (kind.Join other) d sound e = join_kept c p other d sound e
kept c p k d sound e = moved_kept c p k d tt sound e
