-- The ring's words between two places up to which all is decided are those of the blocks between.
use Rattle.std.proofs.Common.{◌≡◌, ℕ, zero, suc, ◌+◌, ◌-◌, ◌<◌, ◌≤◌, ⊎_elim, List, [], ◌∷◌, ◌++◌, length, refl, sym, ap, ◌∙◌, subst, arith}
use Rattle.std.specs.Prelude.{slice_index_or}
use Rattle.std.proofs.lemmas.Bool.{cases_lt}
use Rattle.erm_model.specs.Member.{◌∈◌}
use Rattle.erm_model.proofs.Members.{∈-behind}
use Rattle.erm_machine.specs.declared.attempt.Attempt.{Attempt}
use Rattle.erm_machine.specs.declared.limits.TheConstants.{FLUSH_SEAT, RING_WORDS}
use Rattle.erm_machine.specs.declared.version.Span.{Span}
use Rattle.erm_machine.specs.Core.{Core, Shared}
use Rattle.erm_machine.specs.Log.{cleared_to, ring_at}
use Rattle.erm_machine.specs.Ranges.{EndToEnd}
use Rattle.erm_machine.specs.Sound.{Sound}
use Rattle.erm_machine.proofs.Listed.{∈-head}
use Rattle.erm_block.specs.declared.block.Block.{Block}
use Rattle.erm_block.specs.Spelling.{spelling}
use Rattle.erm_core_view.specs.Views.{IsQuiet}
use Rattle.erm_log_list.specs.LogOf.{AreBlocksIn, IsBlockIn, ranges_below, words_of}
use Rattle.erm_log_list.proofs.Ranges.{none_below, one_below, starts_from}
use Rattle.erm_core_turns.specs.Turns.{blocks_in, ring_words}
use Rattle.erm_core_turns.proofs.Blocks.{is_over}
use Rattle.erm_core_log.proofs.Lists.{end_to_end_ascends}

abbrev F : ℕ
F = FLUSH_SEAT

pub words_add : (s : Shared) (from n m : ℕ) → ring_words s from (n + m) ≡ ring_words s from n ++ ring_words s (from + n) m
unfolding ring_words
words_add s from zero m =
    let here : from ≡ from + 0 = omega arith in
    let all : 0 + m ≡ m = omega arith in
    ap (λ (k : ℕ). ring_words s from k) all ∙ ap (λ (at : ℕ). ring_words s at m) here
words_add s from (suc n) m =
    let all : suc n + m ≡ suc (n + m) = omega arith in
    let there : from + 1 + n ≡ from + suc n = omega arith in
    ap (λ (k : ℕ). ring_words s from k) all ∙ ap (λ (ws : List ℕ). ring_at s from ∷ ws) (words_add s (from + 1) n m)
    ∙ ap (λ (at : ℕ). ring_at s from ∷ (ring_words s (from + 1) n ++ ring_words s at m)) there

pub no_words : (s : Shared) (from : ℕ) → ring_words s from 0 ≡ []
unfolding ring_words
no_words s from = refl

-- one word more
pub words_more : (s : Shared) (from n : ℕ) → ring_words s from (n + 1) ≡ ring_words s from n ++ ring_at s (from + n) ∷ []
unfolding ring_words
words_more s from n = words_add s from n 1

words_each : (s : Shared) (from : ℕ) (ws : List ℕ) → ((k : ℕ) → k < length ws → ring_at s (from + k) ≡ slice_index_or ws k 0) → ring_words s from (length ws) ≡ ws
unfolding ring_words
words_each s from [] each = refl
words_each s from (w ∷ ws) each =
    let here : from ≡ from + 0 = omega arith in
    ap (λ (v : ℕ). v ∷ ring_words s (from + 1) (length ws)) (ap (ring_at s) here ∙ each 0 (omega arith))
    ∙ ap (λ (vs : List ℕ). w ∷ vs)
    (words_each s (from + 1) ws
    (λ k low. let there : from + 1 + k ≡ from + suc k = omega arith in ap (ring_at s) there ∙ each (suc k) (omega (arith, low))))

-- RANGES between two places that are ends of ranges
abbrev pub NoneAcross : List Span → ℕ → Type 0
NoneAcross rs p = (r : Span) → r ∈ rs → r.start < p → r.start + r.size ≤ p

ranges_from : (p at end : ℕ) (rs : List Span) → EndToEnd at rs end → NoneAcross rs p → at ≤ p → p ≤ end → EndToEnd at (ranges_below p rs) p
ranges_from p at end [] e none low high = let is : at ≡ end = e in omega (arith, is, low, high)
ranges_from p at end (r ∷ rs) e none low high =
    let start = e.0 in
    ⊎_elim
    (λ (below : r.start < p).
    let whole = none r (∈-head r rs) below in
    subst (λ (ss : List Span). EndToEnd at ss p) (sym (one_below p r rs below))
    (start, ranges_from p (at + r.size) end rs e.1 (λ s m. none s (∈-behind r rs s m)) (omega (arith, whole, start)) high))
    (λ (above : p ≤ r.start).
    subst (λ (ss : List Span). EndToEnd at ss p) (sym (none_below p at end (r ∷ rs) e (omega (arith, above, start)))) (omega (arith, above, start, low)))
    (cases_lt r.start p)

pub record Between (f p : ℕ) (rs : List Span) : Type 0 where
  pub ranges : List Span
  pub is : ranges_below p rs ≡ ranges_below f rs ++ ranges
  pub end_to_end : EndToEnd f ranges p
  pub within : (r : Span) → r ∈ ranges → r ∈ ranges_below p rs

pub ranges_between : (f p at end : ℕ) (rs : List Span) → EndToEnd at rs end → NoneAcross rs f → NoneAcross rs p → at ≤ f → f ≤ p → p ≤ end → Between f p rs
ranges_between f p at end [] e none_f none_p low on high =
    let is : at ≡ end = e in record { ranges = []; is = refl; end_to_end = omega (arith, is, low, on, high); within = λ r m. m }
ranges_between f p at end (r ∷ rs) e none_f none_p low on high =
    let start = e.0 in
    ⊎_elim
    (λ (below : at < f).
    let whole = none_f r (∈-head r rs) (omega (arith, below, start)) in
    let rest =
    ranges_between f p (at + r.size) end rs e.1 (λ s m. none_f s (∈-behind r rs s m)) (λ s m. none_p s (∈-behind r rs s m)) (omega (arith, whole, start)) on high
    in
    let first : ranges_below p (r ∷ rs) ≡ r ∷ ranges_below p rs = one_below p r rs (omega (arith, below, start, on)) in
    record {
      ranges = rest.ranges;
      is = first ∙ ap (λ (ss : List Span). r ∷ ss) rest.is ∙ ap (λ (ss : List Span). ss ++ rest.ranges) (sym (one_below f r rs (omega (arith, below, start))));
      end_to_end = rest.end_to_end;
      within = λ s m. subst (λ (ss : List Span). s ∈ ss) (sym first) (∈-behind r (ranges_below p rs) s (rest.within s m));
    })
    (λ (above : f ≤ at).
    let here : at ≡ f = omega (arith, above, low) in
    record {
      ranges = ranges_below p (r ∷ rs);
      is = ap (λ (ss : List Span). ss ++ ranges_below p (r ∷ rs)) (sym (none_below f at end (r ∷ rs) e above));
      end_to_end = subst (λ (n : ℕ). EndToEnd n (ranges_below p (r ∷ rs)) p) here (ranges_from p at end (r ∷ rs) e none_p (omega (arith, low, on)) high);
      within = λ s m. m;
    })
    (cases_lt at f)

-- the blocks of the later ranges
pub are_later : (c : Core) (rs more : List Span) (run : ℕ) (over : ℕ → List Attempt) → AreBlocksIn c (rs ++ more) (blocks_in run over (rs ++ more)) → AreBlocksIn c more (blocks_in run over more)
are_later c [] more run over are = are
are_later c (r ∷ rs) more run over are = are_later c rs more run over are.1

-- WORDS of a range's block, in the ring
module _ (sessions : ℕ) (c : Core) (sound : Sound c) (quiet : IsQuiet sessions c) (calm : cleared_to c.shared.flushed (c.seats F).flushing ≡ c.shared.flushed) where
  one_range : (r : Span) (b : Block) → r ∈ c.shared.log → IsBlockIn c r b → c.shared.flushed ≤ r.start → r.start + r.size ≤ c.shared.flushed + RING_WORDS
      → ring_words c.shared r.start r.size ≡ spelling b
  one_range r b m is low high =
      let t : Attempt = is.attempt in
      let above = starts_from c.shared.opening c.shared.tail c.shared.log r sound.common.ranges.end_to_end m in
      let positive = sound.common.ranges.positive in
      let start = is.start in
      let size = is.size in
      let drawn : 0 < t.stamp = omega (arith, above, positive, start) in
      let over = is_over sessions c sound quiet r.seat t is.stands is.decided in
      let long = (sound.own r.seat).bounds.blocks t over drawn in
      let whole : length (t.header ∷ t.block) ≡ r.size = omega (arith, long, size) in
      let each : (k : ℕ) → k < length (t.header ∷ t.block) → ring_at c.shared (r.start + k) ≡ slice_index_or (t.header ∷ t.block) k 0 =
      λ k less.
      ap (λ (n : ℕ). ring_at c.shared (n + k)) (sym is.start)
      ∙ sound.common.log.ring.blocks r.seat t is.stands drawn k (omega (arith, less, whole, size)) (omega (arith, low, start), omega (arith, high, start, less, whole))
      (omega (arith, low, start, calm))
      in
      ap (λ (n : ℕ). ring_words c.shared r.start n) (sym whole) ∙ words_each c.shared r.start (t.header ∷ t.block) each ∙ is.spelled

  pub ranges_words : (at p n : ℕ) (rs : List Span) (bs : List Block) → EndToEnd at rs p → ((r : Span) → r ∈ rs → r ∈ c.shared.log) → AreBlocksIn c rs bs
      → c.shared.flushed ≤ at → p ≤ c.shared.flushed + RING_WORDS → at + n ≡ p → ring_words c.shared at n ≡ words_of bs
  ranges_words at p n [] [] e within are low high count =
      let is : at ≡ p = e in
      let none : n ≡ 0 = omega (arith, is, count) in
      ap (λ (k : ℕ). ring_words c.shared at k) none ∙ no_words c.shared at
  ranges_words at p n (r ∷ rs) (b ∷ bs) e within are low high count =
      let start = e.0 in
      let most = end_to_end_ascends (at + r.size) p rs e.1 in
      let m : ℕ = p - (at + r.size) in
      let parts : n ≡ r.size + m = omega (arith, most, count) in
      let first : ring_words c.shared at r.size ≡ spelling b =
      ap (λ (k : ℕ). ring_words c.shared k r.size) (sym start) ∙ one_range r b (within r (∈-head r rs)) are.0 (omega (arith, low, start)) (omega (arith, start, most, high))
      in
      let rest = ranges_words (at + r.size) p m rs bs e.1 (λ s k. within s (∈-behind r rs s k)) are.1 (omega (arith, low)) high (omega (arith, most)) in
      ap (λ (k : ℕ). ring_words c.shared at k) parts ∙ words_add c.shared at r.size m ∙ ap (λ (ws : List ℕ). ws ++ ring_words c.shared (at + r.size) m) first
      ∙ ap (λ (ws : List ℕ). spelling b ++ ws) rest
  ranges_words at p n [] (b ∷ bs) e within are low high count = absurd are
  ranges_words at p n (r ∷ rs) [] e within are low high count = absurd are
