-- The blocks of decided ranges, as words and as a log of the opening.
use Rattle.std.proofs.Common.{◌≡◌, ℕ, zero, suc, ◌+◌, ◌<◌, ◌≤◌, ⊎_elim, List, [], ◌∷◌, ◌++◌, length, refl, sym, ap, ◌∙◌, subst, arith}
use Rattle.std.specs.List.{All}
use Rattle.std.specs.Prelude.{slice_index_or}
use Rattle.std.proofs.lemmas.Bool.{cases_eq}
use Rattle.std.proofs.lemmas.List.{append-nil}
use Rattle.erm_block.specs.declared.block.Block.{Block}
use Rattle.erm_block.specs.LogList.{End, IsChain}
use Rattle.erm_block.specs.Spelling.{spelling}
use Rattle.erm_core_flush.specs.Turns.{Blocks}
use Rattle.erm_core_flush.specs.Turns as flush
use Rattle.erm_core_turns.proofs.Blocks.{in_log}
use Rattle.erm_core_turns.proofs.LogIs.{end_place}
use Rattle.erm_core_turns.proofs.Words.{NoneAcross, ranges_between}
use Rattle.erm_core_view.proofs.Lives.{one_attempt}
use Rattle.erm_log_list.specs.LogOf.{AreBlocksIn, IsDecidedUpTo, IsLogUpTo, log_start, ranges_below, words_of}
use Rattle.erm_log_list.proofs.Ranges.{attempt_of, none_below, range_stands, span_of, starts_from}
use Rattle.erm_machine.specs.declared.attempt.Attempt.{Attempt}
use Rattle.erm_machine.specs.declared.version.Span.{Span}
use Rattle.erm_machine.specs.Core.{Core}
use Rattle.erm_machine.specs.Facts.{all_of}
use Rattle.erm_machine.specs.Lawful.{opening_rows}
use Rattle.erm_machine.specs.Ranges.{EndToEnd}
use Rattle.erm_machine.specs.Sound.{Sound}
use Rattle.erm_machine.proofs.Listed.{∈-head}
use Rattle.erm_model.specs.Member.{◌∈◌}
use Rattle.erm_model.specs.RowTransaction.{Law}
use Rattle.erm_model.specs.Rows.{Rows}
use Rattle.erm_model.proofs.Members.{∈-behind}
use Rattle.erm_rule.specs.declared.view.Start.{Start}
use Rattle.erm_sound.specs.Kept.{SoundUnder}
use Rattle.erm_world.specs.Log.{IsLog, place_behind}
use Rattle.erm_desk.specs.Known.{flushed_log, opened_at}
use Rattle.erm_desk.proofs.Opened.{IsOf}

-- WORDS
module _ (c : Core) (sound : Sound c) where
  -- two transactions with one stamp are one
  same_attempt : (p q : ℕ) (t u : Attempt) → t ∈ all_of (c.seats p) → u ∈ all_of (c.seats q) → 0 < t.stamp → t.stamp ≡ u.stamp → t ≡ u
  same_attempt p q t u at also drawn same =
      ⊎_elim (λ (one : p ≡ q). one_attempt c p t u sound at (subst (λ (k : ℕ). u ∈ all_of (c.seats k)) (sym one) also) drawn same)
      (λ (two : p ≡ q → ⊥). absurd ((sound.both p q two).decided.apart t u at also drawn same)) (cases_eq p q)

  some_size : (r : Span) → r ∈ c.shared.log → 0 < r.size
  some_size r m = let low = (sound.common.ranges.sizes r m).0 in omega (arith, low)

  block_size : (t : Attempt) → flush.IsDecidedRange c.seats t → 0 < t.size
  block_size t is = some_size (span_of is.seat t) (range_stands c is.seat t sound is.stands is.drawn)

  ranges_rise : (at to : ℕ) (rs : List Span) → EndToEnd at rs to → at ≤ to
  ranges_rise at to [] lie = let is : at ≡ to = lie in omega (arith, is)
  ranges_rise at to (r ∷ rs) lie = let rest = ranges_rise (at + r.size) to rs lie.1 in omega (arith, rest)

  blocks_rise : (at to : ℕ) (ts : List Attempt) → Blocks c.seats at ts to → at ≤ to
  blocks_rise at to [] lie = let is : at ≡ to = lie in omega (arith, is)
  blocks_rise at to (t ∷ ts) lie = let rest = blocks_rise (at + t.size) to ts lie.2 in omega (arith, rest)

  -- decided ranges that lie end to end are those of the log between
  pub words_same : (ts : List Attempt) (rs : List Span) (bs : List Block) (at to : ℕ) → Blocks c.seats at ts to → EndToEnd at rs to → ((r : Span) → r ∈ rs → r ∈ c.shared.log)
      → AreBlocksIn c rs bs → flush.words_of ts ≡ words_of bs
  words_same [] [] [] at to lie ends within are = refl
  words_same [] [] (b ∷ bs) at to lie ends within are = absurd are
  words_same [] (r ∷ rs) bs at to lie ends within are =
      let some = some_size r (within r (∈-head r rs)) in
      let rest = ranges_rise (at + r.size) to rs ends.1 in
      let is : at ≡ to = lie in
      absurd (omega (arith, is, some, rest))
  words_same (t ∷ ts) [] bs at to lie ends within are =
      let some = block_size t lie.0 in
      let rest = blocks_rise (at + t.size) to ts lie.2 in
      let is : at ≡ to = ends in
      absurd (omega (arith, is, some, rest))
  words_same (t ∷ ts) (r ∷ rs) [] at to lie ends within are = absurd are
  words_same (t ∷ ts) (r ∷ rs) (b ∷ bs) at to lie ends within are =
      let one = are.0 in
      let is : t ≡ one.attempt = same_attempt lie.0.seat r.seat t one.attempt lie.0.stands one.stands lie.0.drawn (lie.1 ∙ sym ends.0 ∙ sym one.start) in
      let size : t.size ≡ r.size = ap (λ (u : Attempt). u.size) is ∙ one.size in
      ap (λ (u : Attempt). (u.header ∷ u.block) ++ flush.words_of ts) is
      ∙ ap (λ (ws : List ℕ). ws ++ flush.words_of ts) one.spelled
      ∙ ap (λ (ws : List ℕ). spelling b ++ ws)
      (words_same ts rs bs (at + t.size) to lie.2 (subst (λ (n : ℕ). EndToEnd (at + n) rs to) (sym size) ends.1) (λ s m. within s (∈-behind r rs s m)) are.1)

  -- those below a place that is decided up to lie end to end from the log's beginning on
  none_across : (p : ℕ) → IsDecidedUpTo c p → NoneAcross c.shared.log p
  none_across p all r m low =
      let by = attempt_of c r sound m in
      let begins = by.start in
      let size = by.size in
      let whole = (all.decided r.seat by.attempt by.stands by.drawn (omega (arith, begins, low))).1 in
      omega (arith, whole, begins, size)

  none_before : NoneAcross c.shared.log c.shared.opening
  none_before r m low = let above = starts_from c.shared.opening c.shared.tail c.shared.log r sound.common.ranges.end_to_end m in absurd (omega (arith, above, low))

  pub words_upto : (law : Law) (to : ℕ) → IsDecidedUpTo c to → (bs : List Block) → IsLogUpTo law c to bs → (ts : List Attempt) → Blocks c.seats c.shared.opening ts to
      → flush.words_of ts ≡ words_of bs
  words_upto law to upto bs is ts lie =
      let ranges = sound.common.ranges in
      let start = c.shared.opening in
      let low = upto.from in
      let between = ranges_between start to start c.shared.tail c.shared.log ranges.end_to_end none_before (none_across to upto) (omega arith) low upto.within in
      let none = none_below start start c.shared.tail c.shared.log ranges.end_to_end (omega arith) in
      let all : ranges_below to c.shared.log ≡ between.ranges = between.is ∙ ap (λ (rs : List Span). rs ++ between.ranges) none in
      words_same ts between.ranges bs start to lie between.end_to_end (λ r m. in_log c to r (between.within r m)) (subst (λ (rs : List Span). AreBlocksIn c rs bs) all is.of_ranges)

-- A LOG of the opening
runs_at : (c : Core) (rs : List Span) (bs : List Block) → AreBlocksIn c rs bs → (k : ℕ) (d : Block) → k < length bs → (slice_index_or bs k d).run ≡ c.shared.run
runs_at c [] [] are k d within = absurd (omega (arith, within))
runs_at c [] (b ∷ bs) are k d within = absurd are
runs_at c (r ∷ rs) [] are k d within = absurd are
runs_at c (r ∷ rs) (b ∷ bs) are zero d within = are.0.is_of.run_is
runs_at c (r ∷ rs) (b ∷ bs) are (suc k) d within = runs_at c rs bs are.1 k d (omega (arith, within))

runs_same : (c : Core) (rs : List Span) (bs : List Block) (run : ℕ) → c.shared.run ≡ run → AreBlocksIn c rs bs → All (λ (b : Block). b.run ≡ run) bs
runs_same c rs bs run same are k d within = runs_at c rs bs are k d within ∙ same

abbrev end_with : List ℕ → ℕ → ℕ → Rows → End
end_with words at run rows = record { words = words; at = at; run = run; rows = rows }

chain_of : (sound : Rows → Type 0) (words : List ℕ) (bs : List Block) (a at r run : ℕ) (q rows : Rows) → a ≡ at → r ≡ run → q ≡ rows
    → IsChain sound (end_with words a r q) bs → IsChain sound (end_with words at run rows) bs
chain_of sound words bs a at r run q rows one two three chain =
    subst (λ (x : Rows). IsChain sound (end_with words at run x) bs) three
    (subst (λ (n : ℕ). IsChain sound (end_with words at n q) bs) two (subst (λ (n : ℕ). IsChain sound (end_with words n r q) bs) one chain))

module _ (law : Law) (o : Start) (c : Core) (under : SoundUnder law c) (of : IsOf o c) (to : ℕ) (bs : List Block) (is : IsLogUpTo law c to bs) where
  pub ends_at : place_behind o.tail bs ≡ to
  ends_at =
      ap (λ (at : ℕ). place_behind at bs) (sym of.opening) ∙ sym (end_place bs (log_start c (words_of bs ++ []))) ∙ ap (λ (e : End). e.at) (is.ends [])

  pub log_is : to ≤ c.shared.tail → IsLog law.meets (flushed_log o bs)
  log_is within = record {
    opening = subst (λ (rows : Rows). law.meets rows) of.rows under.lawful.opening;
    chain = chain_of law.meets (words_of bs) bs c.shared.opening o.tail c.shared.run o.run (opening_rows c.shared) (opened_at o).rows of.opening of.run of.rows
        (subst (λ (ws : List ℕ). IsChain law.meets (log_start c ws) bs) (append-nil (words_of bs)) (is.chain []));
    one_run = runs_same c (ranges_below to c.shared.log) bs o.run of.run is.of_ranges;
    flushed = record { front = bs; rest = []; split = sym (append-nil bs); behind = refl };
    within = omega arith;
    places = let low = under.sound.common.ranges.below in let here = ends_at in omega (arith, low, here, within);
    decided = λ place low. refl;
    pinned = tt;
  }
