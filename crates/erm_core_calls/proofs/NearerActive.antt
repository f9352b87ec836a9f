-- The calls of an active transaction come nearer to their ends.
use Rattle.std.proofs.Common.{◌≡◌, ℕ, ◌+◌, ◌-◌, ◌*◌, ◌<◌, ◌≤◌, Bool, true, false, eqb, ltb, leb, length, List, Option, None, refl, ap, subst, arith}
use Rattle.std.specs.Prelude.{if◌then◌else◌, ◌&&◌, slice_index}
use Rattle.std.proofs.lemmas.Bool.{and_from, eq-eqb, eqb-false, le-leb, ltb-true, cond-true}
use Rattle.erm_machine.specs.declared.attempt.Attempt.{Attempt}
use Rattle.erm_machine.specs.declared.limits.TheConstants.{ANNOUNCERS}
use Rattle.erm_machine.specs.declared.event.Kind.TheVariants as kind
use Rattle.erm_machine.specs.declared.event.Kind.{Kind}
use Rattle.erm_machine.specs.declared.event.Counter.TheVariants.{Objects, Cells}
use Rattle.erm_machine.specs.declared.event.TailUse.TheVariants as purpose
use Rattle.erm_machine.specs.declared.part.Part.{Part}
use Rattle.erm_machine.specs.declared.place.Place.TheVariants.{Active}
use Rattle.erm_machine.specs.declared.task.Task.{Task}
use Rattle.erm_machine.specs.declared.task.Task.TheVariants as task
use Rattle.erm_machine.specs.declared.version.CellWord.TheVariants as word
use Rattle.erm_machine.specs.declared.version.VersionAt.{VersionAt}
use Rattle.erm_machine.specs.Chains.{CutInHand, IsAttached, IsDetached}
use Rattle.erm_machine.specs.Core.{Core, version_at, claim_at}
use Rattle.erm_machine.specs.Life.{load_tail_for_horizon, load_begin, lower}
use Rattle.erm_machine.specs.Reading.{head_version, entered, load_entry, load_walked_stamp, load_walked_link, older, after_cut, swap_link, load_detached, add_counter, load_counter, load_active_stamp, store_row_word}
use Rattle.erm_machine.specs.Seat.{is_active, is_sealed, last_claim}
use Rattle.erm_machine.specs.Settling.{install}
use Rattle.erm_machine.specs.Sound.{Sound}
use Rattle.erm_machine.specs.Words.{begin_of}
use Rattle.erm_machine.proofs.Guards.{either_way}
use Rattle.erm_machine.proofs.QuietKinds.{MeetsOne}
use Rattle.erm_core_calls.specs.Ending.{Ahead, IsLess, ComesNearer, ahead_active, fewer_stages, less_left}
use Rattle.erm_core_calls.specs.Going.{MovesOn, newest_of, next_copy, next_draw, own_at}
use Rattle.erm_core_calls.proofs.BoundsFrames.{first, second}
use Rattle.erm_core_calls.proofs.GoesActive.{named_at}
use Rattle.erm_core_calls.proofs.Moving.{below_way, branch, other_branch}
use Rattle.erm_core_calls.proofs.Nearer.{Leads, from_to, looks}

module _ (c : Core) (p : ℕ) (sound : Sound c) (tail : ℕ) (pl : (c.seats p).place ≡ Active tail) where
  active : is_active (c.seats p).place ≡ true
  active = ap is_active pl

  not_sealed : is_sealed (c.seats p).place ≡ false
  not_sealed = ap is_sealed pl

  -- a step that leaves the seat active
  stays : (u : Task) → (c.seats p).task ≡ u → (k : Kind) → MeetsOne k → (m : MovesOn c p k) (b : Bool) (z : Part) → Leads c p k b z → z.place ≡ Active tail →
      ((t : Attempt) → b ≡ true → IsLess (ahead_active t z.task) (ahead_active (c.seats p).current u)) → ComesNearer c p k m
  stays u at k one m b z leads there less = from_to c p (Active tail) (Active tail) u pl at k one m b z leads there (less z.current)

  -- what lies ahead at either of two tasks
  either : (t : Attempt) (a : Ahead) (b : Bool) (u v : Task) → (b ≡ true → IsLess (ahead_active t u) a) → (b ≡ false → IsLess (ahead_active t v) a) → IsLess (ahead_active t (if b then u else v)) a
  either t a b u v f g = either_way (λ (w : Task). IsLess (ahead_active t w) a) b u v f g

  pub n_owned : (oid owner : ℕ) → (c.seats p).task ≡ task.Owned oid owner → (m : MovesOn c p (kind.LoadState owner (c.seats p).current.begin)) → ComesNearer c p (kind.LoadState owner (c.seats p).current.begin) m
  n_owned oid owner at m =
      let begin = (c.seats p).current.begin in
      looks c p owner begin (Active tail) (task.Owned oid owner) (task.Cleared oid) pl at m
      (cond-true (eqb owner owner && leb begin begin) (task.Cleared oid) (task.Owned oid owner) (and_from _ _ (eq-eqb owner owner refl) (le-leb begin begin (omega arith)))) (fewer_stages (omega arith))

  pub n_cleared : (oid : ℕ) → (c.seats p).task ≡ task.Cleared oid → (m : MovesOn c p (kind.LoadEntry oid)) → ComesNearer c p (kind.LoadEntry oid) m
  n_cleared oid at m =
      let o = c.shared.objects oid in
      stays (task.Cleared oid) at (kind.LoadEntry oid) tt m _ _ (other_branch _ _ _ _ not_sealed (ap (load_entry p oid o.entry o (c.seats p)) at)) pl
      (λ t _. either t _ (eqb oid oid) (task.Walks (head_version oid o.entry o) None) (entered p oid o.entry o) (λ _. fewer_stages (omega arith))
      (λ other. absurd (eqb-false oid oid other refl)))

  pub n_walks : (v : VersionAt) (head : Option ℕ) → (c.seats p).task ≡ task.Walks v head → (m : MovesOn c p (kind.LoadCell v word.Stamp)) → ComesNearer c p (kind.LoadCell v word.Stamp) m
  n_walks v head at m =
      let found = (version_at (c.shared.objects v.oid) v.place).words.stamp in
      stays (task.Walks v head) at (kind.LoadCell v word.Stamp) tt m _ _ (branch _ _ _ _ active (ap (load_walked_stamp found v (c.seats p)) at)) pl
      (λ t _. either t _ _ (task.Found v found head) (task.Passed v) (λ _. fewer_stages (omega arith)) (λ _. less_left refl (omega arith)))

  pub n_passed : (v : VersionAt) → (c.seats p).task ≡ task.Passed v → (m : MovesOn c p (kind.LoadCell v word.Link)) → ComesNearer c p (kind.LoadCell v word.Link) m
  n_passed v at m =
      stays (task.Passed v) at (kind.LoadCell v word.Link) tt m _ _ (branch _ _ _ _ active (ap (load_walked_link _ v (c.seats p)) at)) pl
      (λ _ g. let older_left : 0 < v.place = ltb-true 0 v.place (second _ (ltb 0 v.place) g) in less_left refl (omega (arith, older_left)))

  pub n_registered : (v : VersionAt) → (c.seats p).task ≡ task.Registered v → (m : MovesOn c p (kind.LoadStamp v word.Overwriter)) → ComesNearer c p (kind.LoadStamp v word.Overwriter) m
  n_registered v at m =
      let found = (version_at (c.shared.objects v.oid) v.place).words.overwriter in
      stays (task.Registered v) at (kind.LoadStamp v word.Overwriter) tt m _ _ (branch _ _ _ _ active (ap (load_active_stamp found v word.Overwriter (c.seats p)) at)) pl
      (λ t _. either t _ _ (task.Rated v) (task.Overtaken v found) (λ _. fewer_stages (omega arith)) (λ _. fewer_stages (omega arith)))

  pub n_overtaken : (v : VersionAt) (overwriter : ℕ) → (c.seats p).task ≡ task.Overtaken v overwriter → (m : MovesOn c p (kind.LoadStamp v word.OverwriterSucc)) → ComesNearer c p (kind.LoadStamp v word.OverwriterSucc) m
  n_overtaken v overwriter at m =
      stays (task.Overtaken v overwriter) at (kind.LoadStamp v word.OverwriterSucc) tt m _ _ (branch _ _ _ _ active (ap (load_active_stamp _ v word.OverwriterSucc (c.seats p)) at)) pl
      (λ _ _. fewer_stages (omega arith))

  pub n_numbers : (c.seats p).task ≡ task.Numbers → (m : MovesOn c p (kind.AddCounter Objects)) → ComesNearer c p (kind.AddCounter Objects) m
  n_numbers at m =
      stays task.Numbers at (kind.AddCounter Objects) tt m _ _ (ap (add_counter c.shared.cell_limit p Objects c.shared.objects_drawn (c.seats p)) at) pl (λ _ _. fewer_stages (omega arith))

  pub n_claimed : (v : VersionAt) → (c.seats p).task ≡ task.Claimed v → (m : MovesOn c p (kind.LoadTail purpose.Horizon)) → ComesNearer c p (kind.LoadTail purpose.Horizon) m
  n_claimed v at m = stays (task.Claimed v) at (kind.LoadTail purpose.Horizon) tt m _ _ (ap (load_tail_for_horizon _ (c.seats p)) at) pl (λ _ _. fewer_stages (omega arith))

  pub n_horizon : (v : VersionAt) (least next : ℕ) → (c.seats p).task ≡ task.Horizon v least next → (m : MovesOn c p (kind.LoadBegin next)) → ComesNearer c p (kind.LoadBegin next) m
  n_horizon v least next at m =
      let now = lower least (begin_of (c.seats next).place) in
      stays (task.Horizon v least next) at (kind.LoadBegin next) tt m _ _ (ap (load_begin p next _ (c.seats p)) at) pl
      (λ t g. either t _ (eqb (next + 1) ANNOUNCERS) (task.CutWalks v now) (task.Horizon v now (next + 1)) (λ _. fewer_stages (omega arith))
      (λ _. let low : next < ANNOUNCERS = ltb-true next ANNOUNCERS (second _ (ltb next ANNOUNCERS) g) in less_left refl (omega (arith, low))))

  pub n_cut_walks : (v : VersionAt) (horizon : ℕ) → (c.seats p).task ≡ task.CutWalks v horizon → (m : MovesOn c p (kind.LoadCell v word.Stamp)) → ComesNearer c p (kind.LoadCell v word.Stamp) m
  n_cut_walks v horizon at m =
      stays (task.CutWalks v horizon) at (kind.LoadCell v word.Stamp) tt m _ _ (branch _ _ _ _ active (ap (load_walked_stamp _ v (c.seats p)) at)) pl
      (λ t _. either t _ _ (task.CutFound v horizon) (task.CutPassed v horizon) (λ _. fewer_stages (omega arith)) (λ _. less_left refl (omega arith)))

  -- a cut that is done has five stages left at most
  after_cut_less : (t : Attempt) (a : Ahead) → 5 < a.stages → IsLess (ahead_active t (after_cut (c.seats p))) a
  after_cut_less t a more = either t a _ task.Draws task.Rest (λ _. fewer_stages more) (λ _. fewer_stages (omega (arith, more)))

  -- the last version of a chain has no link
  pub n_cut_passed : (v : VersionAt) (horizon : ℕ) → (c.seats p).task ≡ task.CutPassed v horizon → (m : MovesOn c p (kind.LoadCell v word.Link)) → ComesNearer c p (kind.LoadCell v word.Link) m
  n_cut_passed v horizon at m =
      let known = (named_at c p sound (task.CutPassed v horizon) at).object in
      let here : IsAttached c.shared (c.seats p) v = subst (CutInHand c.shared (c.seats p)) at (sound.own p).chains.cut in
      let oldest = (sound.common.chains.linked v.oid known).oldest in
      let from = here.attached in
      let link = (version_at (c.shared.objects v.oid) v.place).words.link in
      stays (task.CutPassed v horizon) at (kind.LoadCell v word.Link) tt m _ _ (branch _ _ _ _ active (ap (load_walked_link _ v (c.seats p)) at)) pl
      (λ t _. either t _ (eqb link 0) (after_cut (c.seats p)) (task.CutWalks (older v link) horizon) (λ _. after_cut_less t _ (omega arith))
      (λ some.
      let not_last : (c.shared.objects v.oid).cut ≡ v.place → ⊥ = λ same. eqb-false link 0 some (subst (λ n. (version_at (c.shared.objects v.oid) n).words.link ≡ 0) same oldest) in
      less_left refl (below (c.shared.objects v.oid).cut v.place from not_last)))
    where
      below : (m n : ℕ) → m ≤ n → (m ≡ n → ⊥) → 2 * (n - 1) + 1 < 2 * n
      below m n le ne = grind arith

  pub n_cut_found : (v : VersionAt) (horizon : ℕ) → (c.seats p).task ≡ task.CutFound v horizon → (m : MovesOn c p (kind.SwapLink v)) → ComesNearer c p (kind.SwapLink v) m
  n_cut_found v horizon at m =
      let link = (version_at (c.shared.objects v.oid) v.place).words.link in
      stays (task.CutFound v horizon) at (kind.SwapLink v) tt m _ _ (ap (swap_link _ v (c.shared.objects v.oid) (c.seats p)) at) pl
      (λ t _. either t _ (eqb link 0) (after_cut (c.seats p)) (task.Detaches (older v link)) (λ _. after_cut_less t _ (omega arith)) (λ _. fewer_stages (omega arith)))

  pub n_detaches : (v : VersionAt) → (c.seats p).task ≡ task.Detaches v → (m : MovesOn c p (kind.LoadDetached v)) → ComesNearer c p (kind.LoadDetached v) m
  n_detaches v at m =
      let cut : IsDetached c.shared (c.seats p) v = subst (CutInHand c.shared (c.seats p)) at (sound.own p).chains.cut in
      let link = (version_at (c.shared.objects v.oid) v.place).words.link in
      let from = cut.below in
      stays (task.Detaches v) at (kind.LoadDetached v) tt m _ _ (ap (load_detached _ v (c.seats p)) at) pl
      (λ t _. either t _ (eqb link 0) (after_cut (c.seats p)) (task.Detaches (older v link)) (λ _. after_cut_less t _ (omega arith))
      (λ some.
      let not_last : cut.last ≡ v.place → ⊥ = λ same. eqb-false link 0 some (subst (λ n. (version_at (c.shared.objects v.oid) n).words.link ≡ 0) same cut.ends) in
      less_left refl (below cut.last v.place from not_last)))
    where
      below : (m n : ℕ) → m ≤ n → (m ≡ n → ⊥) → n - 1 < n
      below m n le ne = grind arith

  pub n_draws : (c.seats p).task ≡ task.Draws → (m : MovesOn c p (next_draw (c.seats p))) → ComesNearer c p (next_draw (c.seats p)) m
  n_draws at =
      let v = newest_of (c.seats p).current in
      below_way (λ k. (m : MovesOn c p k) → ComesNearer c p k m) 0 (length (c.seats p).spare) (kind.LoadStamp v word.ReaderStamp) (kind.LoadCounter Cells)
      (λ _ m.
      stays task.Draws at (kind.LoadStamp v word.ReaderStamp) tt m _ _ (branch _ _ _ _ active (ap (load_active_stamp _ v word.ReaderStamp (c.seats p)) at)) pl (λ _ _. fewer_stages (omega arith)))
      (λ _ m.
      stays task.Draws at (kind.LoadCounter Cells) tt m _ _ (ap (load_counter c.shared.cell_limit Cells c.shared.cells_drawn (c.seats p)) at) pl
      (λ t _. either t _ _ task.Pool task.Refused (λ _. fewer_stages (omega arith)) (λ _. fewer_stages (omega arith))))

  pub n_pool : (c.seats p).task ≡ task.Pool → (m : MovesOn c p (kind.AddCounter Cells)) → ComesNearer c p (kind.AddCounter Cells) m
  n_pool at m =
      stays task.Pool at (kind.AddCounter Cells) tt m _ _ (ap (add_counter c.shared.cell_limit p Cells c.shared.cells_drawn (c.seats p)) at) pl
      (λ t _. either t _ _ task.Fetched task.Refused (λ _. fewer_stages (omega arith)) (λ _. fewer_stages (omega arith)))

  pub n_fetched : (c.seats p).task ≡ task.Fetched → (m : MovesOn c p (kind.LoadStamp (newest_of (c.seats p).current) word.ReaderStamp)) → ComesNearer c p (kind.LoadStamp (newest_of (c.seats p).current) word.ReaderStamp) m
  n_fetched at m =
      let v = newest_of (c.seats p).current in
      stays task.Fetched at (kind.LoadStamp v word.ReaderStamp) tt m _ _ (branch _ _ _ _ active (ap (load_active_stamp _ v word.ReaderStamp (c.seats p)) at)) pl (λ _ _. fewer_stages (omega arith))

  pub n_refused : (c.seats p).task ≡ task.Refused → (m : MovesOn c p (kind.Install (newest_of (c.seats p).current).oid (newest_of (c.seats p).current).cell)) →
      ComesNearer c p (kind.Install (newest_of (c.seats p).current).oid (newest_of (c.seats p).current).cell) m
  n_refused at m =
      let v = newest_of (c.seats p).current in
      stays task.Refused at (kind.Install v.oid v.cell) tt m _ _ (ap (install v.oid v.cell (c.seats p)) at) pl (λ _ _. fewer_stages (omega arith))

  pub n_copies : (w : ℕ) → (c.seats p).task ≡ task.Copies w → (m : MovesOn c p (next_copy (c.seats p).current w)) → ComesNearer c p (next_copy (c.seats p).current w) m
  n_copies w at m =
      let last = last_claim (c.seats p).current in
      let value = slice_index (claim_at (c.seats p).current last).base w in
      stays (task.Copies w) at (next_copy (c.seats p).current w) tt m _ _ (branch _ _ _ _ active (ap (store_row_word last (own_at (c.seats p).current last) w value (c.seats p)) at)) pl
      (λ t g. either t _ (eqb (w + 1) 16) task.Rest (task.Copies (w + 1)) (λ _. fewer_stages (omega arith))
      (λ _. let low : w < 16 = ltb-true w 16 (second _ (ltb w 16) (first _ _ g)) in less_left refl (omega (arith, low))))

  pub n_writes : (row : List ℕ) (k w : ℕ) → (c.seats p).task ≡ task.Writes k w → (m : MovesOn c p (kind.StoreCell k (own_at (c.seats p).current k) (word.Row w) (slice_index row w))) →
      ComesNearer c p (kind.StoreCell k (own_at (c.seats p).current k) (word.Row w) (slice_index row w)) m
  n_writes row k w at m =
      let number = own_at (c.seats p).current k in
      let value = slice_index row w in
      stays (task.Writes k w) at (kind.StoreCell k number (word.Row w) value) tt m _ _ (branch _ _ _ _ active (ap (store_row_word k number w value (c.seats p)) at)) pl
      (λ t g. either t _ (eqb (w + 1) 16) task.Rest (task.Writes k (w + 1)) (λ _. fewer_stages (omega arith))
      (λ _. let low : w < 16 = ltb-true w 16 (second _ (ltb w 16) g) in less_left refl (omega (arith, low))))
