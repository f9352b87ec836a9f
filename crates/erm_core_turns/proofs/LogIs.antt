-- What is so of the log of each state.
use Rattle.std.proofs.Common.{◌≡◌, ℕ, ◌<◌, ◌≤◌, List, [], ◌∷◌, ◌++◌, Option, Some, None, IfSome, refl, sym, ap, ◌∙◌, subst, arith}
use Rattle.std.proofs.lemmas.List.{append-nil}
use Rattle.std.proofs.lemmas.List.Elements.{All-map}
use Rattle.erm_model.specs.RowTransaction.{Law}
use Rattle.erm_machine.specs.declared.attempt.Attempt.{Attempt}
use Rattle.erm_machine.specs.declared.attempt.Decision.TheVariants.{Undecided}
use Rattle.erm_machine.specs.declared.limits.TheConstants.{FLUSH_SEAT}
use Rattle.erm_machine.specs.declared.place.Place.{Place}
use Rattle.erm_machine.specs.declared.place.Place.TheVariants.{Active, Sealed}
use Rattle.erm_machine.specs.declared.version.Span.{Span}
use Rattle.erm_machine.specs.Core.{Core}
use Rattle.erm_machine.specs.Facts.{HasBegun, IsCurrent}
use Rattle.erm_machine.specs.Lawful.{opening_rows}
use Rattle.erm_machine.specs.Lives.{in_progress}
use Rattle.erm_machine.specs.Sound.{Sound}
use Rattle.erm_machine.specs.declared.task.Task.{Task}
use Rattle.erm_machine.proofs.Listed.{∈-head, ∈-second}
use Rattle.erm_block.specs.declared.block.Block.{Block}
use Rattle.erm_block.specs.LogList.{End, IsChain, end_after, end_of}
use Rattle.erm_core_view.specs.Views.{IsQuiet, pin_of, session_of, stand_of, view_of, work_of}
use Rattle.erm_core_view.proofs.Snapshots.{never_sealed}
use Rattle.erm_log_list.specs.LogOf.{IsDecidedUpTo, IsLogUpTo, log_start, ranges_below, words_of}
use Rattle.erm_sound.specs.Kept.{SoundUnder}
use Rattle.erm_world.specs.Log.{IsEnd, IsLog, place_behind, rows_behind}
use Rattle.erm_world.specs.Log as log
use Rattle.erm_world.specs.World.{Session, Stand, Work}
use Rattle.erm_world.specs.World as world
use Rattle.erm_core_turns.specs.Turns.{block_of, blocks_below, log_of, started_at, undecided_at}
use Rattle.erm_core_turns.proofs.Undecided.{none_undecided, undecided_is}
use Rattle.erm_core_turns.proofs.Blocks.{blocks_are, in_log, place_of, place_upto, flushed_upto, decided_upto}

abbrev F : ℕ
F = FLUSH_SEAT

-- the end of a chain
pub end_place : (bs : List Block) (e : End) → (end_of e bs).at ≡ place_behind e.at bs
end_place [] e = refl
end_place (b ∷ bs) e = end_place bs (end_after b e)

pub end_rows : (bs : List Block) (e : End) → (end_of e bs).rows ≡ rows_behind e.rows bs
end_rows [] e = refl
end_rows (b ∷ bs) e = end_rows bs (end_after b e)

-- what the crate below says of a log up to a place
abbrev pub Lists : Law → Type 0
Lists law = (c : Core) (to : ℕ) → SoundUnder law c → IsDecidedUpTo c to → (blocks : List Block) × IsLogUpTo law c to blocks

abbrev pub More : Law → Type 0
More law = (c : Core) (from to : ℕ) (a b : List Block) → Sound c → from ≤ to → IsLogUpTo law c from a → IsLogUpTo law c to b → (more : List Block) × (b ≡ a ++ more)

-- a session that is sealed with a stamp has its range there, which isn't decided
same_stamp : (w u : Work) (m n : ℕ) → world.sealed w m ≡ world.sealed u n → m ≡ n
same_stamp w u m n e = cc

sealed_stamp : (pl : Place) (u : Task) (t : Attempt) (w : Work) (place : ℕ) → IsCurrent pl t → stand_of pl u t ≡ world.sealed w place → (t.stamp ≡ place) × (0 < t.stamp) × (t.decision ≡ Undecided)
sealed_stamp (Active tail) u t w place cur e = absurd (never_sealed u t w place e)
sealed_stamp (Sealed tail stamp) u t w place cur e =
    let same = same_stamp (work_of t) w stamp place e in let is = cur.stamp_is in let some = cur.positive in (omega (arith, is, same), omega (arith, is, some), cur.decision)
sealed_stamp _ u t w place cur e = absurd (cc)

only_none : (o : Option log.Undecided) → ((u : log.Undecided) → o ≡ Some u → ⊥) → o ≡ None
only_none (Some u) none = absurd (none u refl)
only_none None none = refl

module _ (law : Law) (lists : Lists law) (sessions : ℕ) (c : Core) (under : SoundUnder law c) (quiet : IsQuiet sessions c) where
  -- the blocks below a place that is decided up to
  pub log_upto : (to : ℕ) → IsDecidedUpTo c to → IsLogUpTo law c to (blocks_below c to)
  log_upto to upto =
      let found = lists c to under upto in
      let is : found.0 ≡ blocks_below c to = blocks_are sessions c under.sound quiet (ranges_below to c.shared.log) found.0 (in_log c to) found.1.of_ranges in
      subst (IsLogUpTo law c to) is found.1

  pub behind_upto : (to : ℕ) (bs : List Block) → IsLogUpTo law c to bs → place_behind c.shared.opening bs ≡ to
  behind_upto to bs is = sym (end_place bs (log_start c (words_of bs ++ []))) ∙ ap (λ (e : End). e.at) (is.ends [])

  pub rows_upto : (to : ℕ) (bs : List Block) → (is : IsLogUpTo law c to bs) → rows_behind (opening_rows c.shared) bs ≡ is.rows
  rows_upto to bs is = sym (end_rows bs (log_start c (words_of bs ++ []))) ∙ ap (λ (e : End). e.rows) (is.ends [])

  pub gathered_behind : place_behind c.shared.opening (blocks_below c (place_of c)) ≡ place_of c
  gathered_behind = behind_upto (place_of c) (blocks_below c (place_of c)) (log_upto (place_of c) (place_upto c under.sound).0)

  -- an end of a range within it is an end of its blocks
  pub end_within : (more : More law) → (p : ℕ) → IsDecidedUpTo c p → p ≤ place_of c → IsEnd (log_of sessions c) p
  end_within more p upto low =
      let front = log_upto p upto in
      let rest = more c p (place_of c) (blocks_below c p) (blocks_below c (place_of c)) under.sound low front (log_upto (place_of c) (place_upto c under.sound).0) in
      record { front = blocks_below c p; rest = rest.0; split = rest.1; behind = sym (behind_upto p (blocks_below c p) front) }

  -- no session is sealed with a stamp below it
  not_sealed : (q place : ℕ) → place < place_of c → undecided_at place q (session_of (c.seats q)).stand ≡ None
  not_sealed q place low =
      only_none (undecided_at place q (session_of (c.seats q)).stand)
      (λ u sealed.
      let so = undecided_is place q (session_of (c.seats q)).stand u sealed in
      let is = sealed_stamp (c.seats q).place (c.seats q).task (c.seats q).current so.work place (under.sound.own q).ranges.current so.stand in
      let stamp = is.0 in
      let most = (place_upto c under.sound).2 in
      let decided = (under.sound.common.log.gathered.decided q (c.seats q).current (∈-second (c.seats q).over ((c.seats q).current ∷ []) (c.seats q).current (∈-head (c.seats q).current [])) is.1
      (omega (arith, stamp, low, most))).0 in
      decided is.2)

  pub all_decided : (place : ℕ) → place < place_of c → (log_of sessions c).undecided place ≡ None
  all_decided place low = none_undecided sessions (view_of sessions c).session place (λ q. not_sealed q place low)

  pub log_is : More law → IsLog law.meets (log_of sessions c)
  log_is more =
      let sound = under.sound in
      let upto = place_upto c sound in
      let whole = log_upto (place_of c) upto.0 in
      let blocks : List Block = blocks_below c (place_of c) in
      let behind = gathered_behind in
      let within = upto.0.within in
      record {
        opening = under.lawful.opening;
        chain = subst (λ (ws : List ℕ). IsChain law.meets (log_start c ws) blocks) (append-nil (words_of blocks)) (whole.chain []);
        one_run = All-map (λ (b : Block). b.run ≡ c.shared.run) (λ (r : Span). block_of c.shared.run r.seat (started_at r.start (c.seats r.seat).over))
            (ranges_below (place_of c) c.shared.log) (λ k d within. refl);
        flushed = end_within more c.shared.flushed (flushed_upto c sound) upto.1;
        within = omega (arith, behind, within);
        places = let low = sound.common.ranges.below in omega (arith, low);
        decided = λ place low. all_decided place (omega (arith, low, behind));
        pinned = pin_at (c.seats F).place (c.seats F).current refl;
      }
    where
      pin_at : (pl : Place) (t : Attempt) → pl ≡ (c.seats F).place
          → IfSome (pin_of pl (c.seats F).current) (λ place. (c.shared.opening ≤ place) × (place ≤ c.shared.tail) × (place ≤ place_behind c.shared.opening (blocks_below c (place_of c)) → IsEnd (log_of sessions c) place))
      pin_at (Active tail) t e =
          let sound = under.sound in
          let b = (c.seats F).current.begin in
          let low = (sound.own F).lives.opened_now (ap in_progress (sym e)) in
          let past = ((sound.own F).snapshot.past (c.seats F).current (∈-second (c.seats F).over ((c.seats F).current ∷ []) (c.seats F).current (∈-head (c.seats F).current []))).past in
          let ends = (under.begins F).ends (subst HasBegun e tt) in
          let behind = gathered_behind in
          let most = (place_upto c sound).2 in
          (low, past, λ gathered. end_within more b (decided_upto c b sound ends (omega (arith, gathered, behind, most))) (omega (arith, gathered, behind)))
      pin_at _ t e = tt
