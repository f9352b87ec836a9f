-- The log at a later time, and at a later place: what was decided below a place stays, and goes on.
use Rattle.std.proofs.Common.{◌≡◌, ◌≢◌, ℕ, ◌+◌, ◌<◌, ◌≤◌, ⊎_elim, Bool, true, false, List, [], ◌∷◌, ◌++◌, cond, nat_lt, Option, Some, None, refl, sym, ap, ◌∙◌, subst, arith}
use Rattle.std.specs.Prelude.{if◌then◌else◌}
use Rattle.std.proofs.lemmas.Bool.{cases_lt, le-ltb, lt-ltb}
use Rattle.std.proofs.lemmas.Option.{same_Some}
use Rattle.erm_model.specs.Member.{◌∈◌}
use Rattle.erm_model.proofs.Members.{∈-behind}
use Rattle.erm_machine.specs.declared.attempt.Attempt.{Attempt}
use Rattle.erm_machine.specs.declared.attempt.Decision.{Decision}
use Rattle.erm_machine.specs.declared.attempt.Decision.TheVariants.{Undecided}
use Rattle.erm_machine.specs.declared.event.Kind.{Kind}
use Rattle.erm_machine.specs.declared.event.Kind.TheVariants as kind
use Rattle.erm_machine.specs.declared.part.Part.{Part}
use Rattle.erm_machine.specs.declared.version.Span.{Span}
use Rattle.erm_machine.specs.Core.{Core, Shared, spot_of, word_at}
use Rattle.erm_machine.specs.Facts.{all_of}
use Rattle.erm_machine.specs.Life.{join, split}
use Rattle.erm_machine.specs.Ranges.{EndToEnd}
use Rattle.erm_machine.specs.Sound.{Sound}
use Rattle.erm_machine.specs.Step.{after_event, shared_after, with_part}
use Rattle.erm_machine.proofs.Listed.{∈-filter, ∈-filter_from, ∈-head}
use Rattle.erm_machine.proofs.QuietKinds.{DrawsNone, Moves, keeps_log, moves}
use Rattle.erm_core_lives.proofs.LivesKept.{same_opening}
use Rattle.erm_core_view.proofs.Lives.{one_attempt}
use Rattle.erm_block.specs.declared.block.Block.{Block}
use Rattle.erm_block.specs.Block.{IsBlock}
use Rattle.erm_block.specs.Spelling.{spelling}
use Rattle.erm_core_blocks.specs.Spelled.{HasBlock, IsBlockOf, SameBlock}
use Rattle.erm_core_blocks.proofs.Same.{block_same, words_same}
use Rattle.erm_log_list.specs.LogOf.{AreBlocksIn, IsBlockIn, IsDecidedUpTo, ranges_below}
use Rattle.erm_log_list.proofs.Ranges.{attempt_of, has_block, none_below, one_below, range_stands, span_of, starts_from}

-- the log below a place is as it was
pub record SameBelow (s t : Shared) (to : ℕ) : Type 0 where
  pub opening : t.opening ≡ s.opening
  pub run : t.run ≡ s.run
  pub tail : s.tail ≤ t.tail
  pub ranges : ranges_below to t.log ≡ ranges_below to s.log

ranges_push : (to : ℕ) (rs : List Span) (r : Span) → to ≤ r.start → ranges_below to (rs ++ r ∷ []) ≡ ranges_below to rs
ranges_push to [] r above = ap (λ b. cond b (r ∷ []) []) (le-ltb r.start to above)
ranges_push to (s ∷ rs) r above = ap (λ l. cond (nat_lt s.start to) (s ∷ l) l) (ranges_push to rs r above)

same_below : (s : Shared) (to : ℕ) → SameBelow s s to
same_below s to = record { opening = refl; run = refl; tail = omega arith; ranges = refl }

drawn_below : (p size found to : ℕ) (x : Part) (s : Shared) → to ≤ found → s.tail ≤ found → SameBelow s (shared_after p (kind.AddTail size) found x s) to
drawn_below p size found to x s low past = record {
  opening = refl;
  run = refl;
  tail = omega (arith, past);
  ranges = ranges_push to s.log (record { seat = p; start = found; size = size }) low;
}

quiet_below : (c : Core) (p : ℕ) (k : Kind) (to : ℕ) → DrawsNone k → SameBelow c.shared (shared_after p k (word_at c (spot_of p k)) (c.seats p) c.shared) to
quiet_below c p k to none =
    let found : ℕ = word_at c (spot_of p k) in
    let log = keeps_log p k found (c.seats p) c.shared none in
    let tail = log.tail in
    record {
      opening = log.opening;
      run = (same_opening p k found (c.seats p) c.shared).run;
      tail = omega (arith, tail);
      ranges = ap (λ (rs : List Span). ranges_below to rs) log.log;
    }

moved_below : (c : Core) (p : ℕ) (k : Kind) (d : Core) (to : ℕ) → Moves c p k d → SameBelow c.shared (shared_after p k (word_at c (spot_of p k)) (c.seats p) c.shared) to → SameBelow c.shared d.shared to
moved_below c p k d to m same = subst (λ (e : Core). SameBelow c.shared e.shared to) (sym m.is) same

part_below : (c : Core) (p : ℕ) (o : Option Part) (d : Core) (to : ℕ) → with_part c p o ≡ Some d → SameBelow c.shared d.shared to
part_below c p None d to e = absurd (cc)
part_below c p (Some y) d to e = subst (λ (f : Core). SameBelow c.shared f.shared to) (same_Some _ _ e) (same_below c.shared to)

split_below : (c : Core) (p other : ℕ) (d : Core) (to : ℕ) → after_event c p (kind.Split other) ≡ Some d → SameBelow c.shared d.shared to
split_below c p other d to e = by_test _ e
  where
    by_test : (b : Bool) → (if b then with_part c other (split (c.seats p) (c.seats other)) else None) ≡ Some d → SameBelow c.shared d.shared to
    by_test true e = part_below c other _ d to e
    by_test false e = absurd (cc)

join_below : (c : Core) (p other : ℕ) (d : Core) (to : ℕ) → after_event c p (kind.Join other) ≡ Some d → SameBelow c.shared d.shared to
join_below c p other d to e = by_test _ e
  where
    by_test : (b : Bool) → (if b then None else with_part c p (join (c.seats p) (c.seats other))) ≡ Some d → SameBelow c.shared d.shared to
    by_test true e = absurd (cc)
    by_test false e = part_below c p _ d to e

pub below_after : (c : Core) (p : ℕ) (k : Kind) (d : Core) (to : ℕ) → to ≤ c.shared.tail → after_event c p k ≡ Some d → SameBelow c.shared d.shared to
below_after c p (kind.AddTail size) d to low e =
    moved_below c p (kind.AddTail size) d to (moves c p (kind.AddTail size) d tt e) (drawn_below p size c.shared.tail to (c.seats p) c.shared low (omega arith))
below_after c p (kind.Split other) d to low e = split_below c p other d to e
below_after c p (kind.Join other) d to low e = join_below c p other d to e
below_after c p k d to low e = moved_below c p k d to (moves c p k d tt e) (quiet_below c p k to tt)

-- each decided transaction stays
abbrev pub TheyStay : Core → Core → Type 0
TheyStay c d = (q : ℕ) (t : Attempt) → t ∈ all_of (c.seats q) → HasBlock t.decision → (u : Attempt) × (u ∈ all_of (d.seats q)) × SameBlock t u

module _ (c d : Core) (to : ℕ) (same : SameBelow c.shared d.shared to) (stay : TheyStay c d) where
  -- a transaction that was decided below the place, as it is now
  decided_now : Sound c → Sound d → IsDecidedUpTo c to → (seat : ℕ) (t : Attempt) → t ∈ all_of (d.seats seat) → 0 < t.stamp → t.stamp < to
      → (t.decision ≢ Undecided) × (t.stamp + t.size ≤ to)
  decided_now sound later upto seat t m drawn low =
      let now : span_of seat t ∈ ranges_below to d.shared.log =
      ∈-filter_from (λ (r : Span). nat_lt r.start to) (span_of seat t) d.shared.log (range_stands d seat t later m drawn) (lt-ltb t.stamp to low)
      in
      let before = (∈-filter (λ (r : Span). nat_lt r.start to) (span_of seat t) c.shared.log (subst (λ (rs : List Span). span_of seat t ∈ rs) same.ranges now)).0 in
      let by = attempt_of c (span_of seat t) sound before in
      let start = by.start in
      let size = by.size in
      let decided = upto.decided seat by.attempt by.stands by.drawn (omega (arith, start, low)) in
      let found = stay seat by.attempt by.stands (has_block c seat by.attempt sound by.stands by.drawn decided.0) in
      let stamp = found.2.stamp in
      let one : found.0 ≡ t = one_attempt d seat found.0 t later found.1 m (omega (arith, stamp, start, drawn)) (stamp ∙ start) in
      let decision : by.attempt.decision ≡ t.decision = sym found.2.decision ∙ ap (λ (a : Attempt). a.decision) one in
      let whole = decided.1 in
      (subst (λ (e : Decision). e ≢ Undecided) decision decided.0, omega (arith, whole, start, size))

  pub decided_later : Sound c → Sound d → IsDecidedUpTo c to → IsDecidedUpTo d to
  decided_later sound later upto = record {
    from = (let o = same.opening in let f = upto.from in omega (arith, o, f));
    within = (let t = same.tail in let w = upto.within in omega (arith, t, w));
    decided = decided_now sound later upto;
  }

  block_later : (r : Span) (b : Block) → IsBlockIn c r b → IsBlockIn d r b
  block_later r b is =
      let found = stay r.seat is.attempt is.stands is.decided in
      let block = found.2 in
      record {
        attempt = found.0;
        stands = found.1;
        start = block.stamp ∙ is.start;
        size = block.size ∙ is.size;
        decided = subst HasBlock (sym block.decision) is.decided;
        is_of = subst (λ (n : ℕ). IsBlockOf n r.seat found.0 b) (sym same.run) (block_same c.shared.run r.seat is.attempt found.0 b block is.is_of);
        keeps = subst (λ (n : ℕ). IsBlock b r.start n) (sym same.run) is.keeps;
        spelled = words_same is.attempt found.0 (spelling b) block is.spelled;
      }

  blocks_in : (rs : List Span) (bs : List Block) → AreBlocksIn c rs bs → AreBlocksIn d rs bs
  blocks_in [] [] are = tt
  blocks_in (r ∷ rs) (b ∷ bs) are = (block_later r b are.0, blocks_in rs bs are.1)
  blocks_in [] (b ∷ bs) are = absurd are
  blocks_in (r ∷ rs) [] are = absurd are

  pub blocks_later : (bs : List Block) → AreBlocksIn c (ranges_below to c.shared.log) bs → AreBlocksIn d (ranges_below to d.shared.log) bs
  blocks_later bs are = subst (λ (rs : List Span). AreBlocksIn d rs bs) (sym same.ranges) (blocks_in (ranges_below to c.shared.log) bs are)

module _ (one_spelling : (a b : Block) (at_a run_a at_b run_b : ℕ) (x y : List ℕ) → IsBlock a at_a run_a → IsBlock b at_b run_b → spelling a ++ x ≡ spelling b ++ y → a ≡ b)
    (c : Core) (sound : Sound c) where
  -- a range has one block
  one_block_in : (r : Span) (a b : Block) → r ∈ c.shared.log → IsBlockIn c r a → IsBlockIn c r b → a ≡ b
  one_block_in r a b m one other =
      let above = starts_from c.shared.opening c.shared.tail c.shared.log r sound.common.ranges.end_to_end m in
      let positive = sound.common.ranges.positive in
      let start = one.start in
      let attempt : one.attempt ≡ other.attempt = one_attempt c r.seat one.attempt other.attempt sound one.stands other.stands (omega (arith, above, positive, start)) (one.start ∙ sym other.start) in
      let words : spelling a ≡ spelling b = sym one.spelled ∙ ap (λ (t : Attempt). t.header ∷ t.block) attempt ∙ other.spelled in
      one_spelling a b r.start c.shared.run r.start c.shared.run [] [] one.keeps other.keeps (ap (λ (ws : List ℕ). ws ++ []) words)

  pub one_list : (rs : List Span) (these bs : List Block) → ((r : Span) → r ∈ rs → r ∈ c.shared.log) → AreBlocksIn c rs these → AreBlocksIn c rs bs → these ≡ bs
  one_list [] [] [] within one other = refl
  one_list (r ∷ rs) (a ∷ these) (b ∷ bs) within one other =
      ap (λ (x : Block). x ∷ these) (one_block_in r a b (within r (∈-head r rs)) one.0 other.0)
      ∙ ap (λ (xs : List Block). b ∷ xs) (one_list rs these bs (λ s m. within s (∈-behind r rs s m)) one.1 other.1)
  one_list [] (a ∷ these) bs within one other = absurd one
  one_list [] [] (b ∷ bs) within one other = absurd other
  one_list (r ∷ rs) [] bs within one other = absurd one
  one_list (r ∷ rs) (a ∷ these) [] within one other = absurd other

  in_log : (to : ℕ) (r : Span) → r ∈ ranges_below to c.shared.log → r ∈ c.shared.log
  in_log to r m = (∈-filter (λ (s : Span). nat_lt s.start to) r c.shared.log m).0

  -- the log below a place has one list of blocks
  pub one_log : (to : ℕ) (these bs : List Block) → AreBlocksIn c (ranges_below to c.shared.log) these → AreBlocksIn c (ranges_below to c.shared.log) bs → these ≡ bs
  one_log to these bs one other = one_list (ranges_below to c.shared.log) these bs (in_log to) one other

  -- the ranges below a later place are those below an earlier one, and more
  more_ranges : (from to at end : ℕ) (rs : List Span) → from ≤ to → EndToEnd at rs end → (more : List Span) × (ranges_below to rs ≡ ranges_below from rs ++ more)
  more_ranges from to at end [] less e = ([], refl)
  more_ranges from to at end (r ∷ rs) less e =
      ⊎_elim
      (λ (low : r.start < from).
      let rest = more_ranges from to (at + r.size) end rs less e.1 in (
        rest.0,
        one_below to r rs (omega (arith, low, less)) ∙ ap (λ (ss : List Span). r ∷ ss) rest.1 ∙ ap (λ (ss : List Span). ss ++ rest.0) (sym (one_below from r rs low)),
      ))
      (λ (above : from ≤ r.start).
      let start = e.0 in (
        ranges_below to (r ∷ rs),
        ap (λ (ss : List Span). ss ++ ranges_below to (r ∷ rs)) (sym (none_below from at end (r ∷ rs) e (omega (arith, above, start)))),
      ))
      (cases_lt r.start from)

  -- the blocks of some ranges and more
  more_blocks : (rs more : List Span) (these bs : List Block) → ((r : Span) → r ∈ rs → r ∈ c.shared.log) → AreBlocksIn c rs these → AreBlocksIn c (rs ++ more) bs → (rest : List Block) × (bs ≡ these ++ rest)
  more_blocks [] more [] bs within one other = (bs, refl)
  more_blocks (r ∷ rs) more (a ∷ these) (b ∷ bs) within one other =
      let rest = more_blocks rs more these bs (λ s m. within s (∈-behind r rs s m)) one.1 other.1 in
      (rest.0, ap (λ (x : Block). x ∷ bs) (sym (one_block_in r a b (within r (∈-head r rs)) one.0 other.0)) ∙ ap (λ (xs : List Block). a ∷ xs) rest.1)
  more_blocks [] more (a ∷ these) bs within one other = absurd one
  more_blocks (r ∷ rs) more [] bs within one other = absurd one
  more_blocks (r ∷ rs) more (a ∷ these) [] within one other = absurd other

  pub goes_on : (from to : ℕ) (these bs : List Block) → from ≤ to → AreBlocksIn c (ranges_below from c.shared.log) these → AreBlocksIn c (ranges_below to c.shared.log) bs → (rest : List Block) × (bs ≡ these ++ rest)
  goes_on from to these bs less one other =
      let more = more_ranges from to c.shared.opening c.shared.tail c.shared.log less sound.common.ranges.end_to_end in
      more_blocks (ranges_below from c.shared.log) more.0 these bs (in_log from) one (subst (λ (rs : List Span). AreBlocksIn c rs bs) more.1 other)
