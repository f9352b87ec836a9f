-- The ranges of the log that a quiet state's transactions have stand apart.
use Rattle.std.proofs.Common.{◌≡◌, ℕ, ◌+◌, ◌<◌, ◌≤◌, ⊎_elim, List, [], ◌∷◌, map, sym, ap, ◌∙◌, refl, subst, arith}
use Rattle.erm_core_blocks.specs.Spelled.{entries_of}
use Rattle.erm_core_shown.specs.Shown.{shown_of}
use Rattle.erm_core_shown.proofs.Parts.{has_stamp}
use Rattle.erm_core_view.specs.Views.{IsQuiet, work_of}
use Rattle.erm_core_view.proofs.Parts.{IsStamped}
use Rattle.erm_log_list.proofs.Ranges.{has_block, range_stands, span_of, starts_from}
use Rattle.erm_block.specs.Block.{Entry}
use Rattle.erm_machine.specs.declared.attempt.Attempt.{Attempt}
use Rattle.erm_machine.specs.declared.attempt.Decision.TheVariants.{Commit}
use Rattle.erm_machine.specs.declared.version.Span.{Span}
use Rattle.erm_machine.specs.Core.{Core}
use Rattle.erm_machine.specs.Decided.{written_of}
use Rattle.erm_machine.specs.Facts.{all_of}
use Rattle.erm_machine.specs.Ranges.{EndToEnd}
use Rattle.erm_machine.proofs.Listed.{∈-cons}
use Rattle.erm_model.specs.declared.history.VersionWritten.{VersionWritten}
use Rattle.erm_model.specs.Member.{◌∈◌}
use Rattle.erm_model.specs.RowTransaction.{Law}
use Rattle.erm_model.proofs.Members.{none_in_nil, ∈-push}
use Rattle.erm_record.specs.Stored.{block_words}
use Rattle.erm_sound.specs.Kept.{SoundUnder}
use Rattle.erm_world.specs.World.{HasStamp, IsSession, Work, size_of}

-- RANGES. Of two that lie end to end with others, the one that starts first ends where the other starts, or before.
pub ranges_apart : (at end : ℕ) (rs : List Span) (r s : Span) → EndToEnd at rs end → r ∈ rs → s ∈ rs → r.start < s.start → r.start + r.size ≤ s.start
ranges_apart at end [] r s e m n less = absurd (none_in_nil r m)
ranges_apart at end (q ∷ rs) r s e m n less =
    let start = e.0 in
    ⊎_elim
    (λ (here : q ≡ r).
    ⊎_elim (λ (too : q ≡ s). let same : r.start ≡ s.start = ap (λ (u : Span). u.start) (sym here ∙ too) in absurd (omega (arith, same, less)))
    (λ (later : s ∈ rs).
    let above = starts_from (at + q.size) end rs s e.1 later in
    subst (λ (u : Span). u.start + u.size ≤ s.start) here (omega (arith, start, above)))
    (∈-cons s q rs n))
    (λ (behind : r ∈ rs).
    let after = starts_from (at + q.size) end rs r e.1 behind in
    ⊎_elim
    (λ (too : q ≡ s). let same : q.start ≡ s.start = ap (λ (u : Span). u.start) too in absurd (omega (arith, start, after, same, less)))
    (λ (later : s ∈ rs). ranges_apart (at + q.size) end rs r s e.1 behind later less)
    (∈-cons s q rs n))
    (∈-cons r q rs m)

pub range_ends : (at end : ℕ) (rs : List Span) → EndToEnd at rs end → at ≤ end
range_ends at end [] e = let is : at ≡ end = e in omega (arith, is)
range_ends at end (q ∷ rs) e = let rest = range_ends (at + q.size) end rs e.1 in omega (arith, rest)

pub range_within : (at end : ℕ) (rs : List Span) (r : Span) → EndToEnd at rs end → r ∈ rs → r.start + r.size ≤ end
range_within at end [] r e m = absurd (none_in_nil r m)
range_within at end (q ∷ rs) r e m =
    ⊎_elim
    (λ (here : q ≡ r).
    let start = e.0 in
    let rest = range_ends (at + q.size) end rs e.1 in
    subst (λ (u : Span). u.start + u.size ≤ end) here (omega (arith, start, rest)))
    (λ (behind : r ∈ rs). range_within (at + q.size) end rs r e.1 behind) (∈-cons r q rs m)

-- SIZES. The rows of a commit's entries are those of its claims.
pub rows_of_entries : (ws : List VersionWritten) → map (λ (e : Entry). e.1) (entries_of Commit ws) ≡ map (λ (w : VersionWritten). w.row) ws
rows_of_entries [] = refl
rows_of_entries (w ∷ ws) = ap (λ (rows : List (List ℕ)). w.row ∷ rows) (rows_of_entries ws)

module _ (law : Law) (sessions : ℕ) (c : Core) (under : SoundUnder law c) (quiet : IsQuiet sessions c) where
  -- a transaction that has a range has as many words as its block takes
  range_sized : (q : ℕ) → 0 < q → q ≤ sessions → (t : Attempt) → t ∈ all_of (c.seats q) → 0 < t.stamp → t.size ≡ size_of (work_of t)
  range_sized q some low t stands drawn =
      ⊎_elim
      (λ (over : t ∈ (c.seats q).over).
      let has = has_block c q t under.sound stands drawn ((under.sound.own q).ranges.decided t over) in
      (under.spelled q t stands has).sized ∙ ap block_words (rows_of_entries (map written_of t.writes)))
      (λ (now : t ≡ (c.seats q).current).
      subst (λ (u : Attempt). u.size ≡ size_of (work_of u)) (sym now) (quiet.sized q some low (subst (λ (u : Attempt). 0 < u.stamp) now drawn)))
      (∈-push (c.seats q).over (c.seats q).current t stands)

  -- the range of a session's transaction with a stamp
  pub record HasRange (q : ℕ) (w : Work) (stamp : ℕ) : Type 0 where
    pub range : Span
    pub drawn : range ∈ c.shared.log
    pub start : range.start ≡ stamp
    pub size : range.size ≡ size_of w

  has_range : (q : ℕ) (w : Work) (stamp : ℕ) → IsSession (shown_of sessions c) q → HasStamp (shown_of sessions c) q w stamp → HasRange q w stamp
  has_range q w stamp session has =
      let at : IsStamped (c.seats q) w stamp = has_stamp sessions c q w stamp under.sound has in
      record {
        range = span_of q at.attempt;
        drawn = range_stands c q at.attempt under.sound at.stands at.drawn;
        start = at.stamp_is;
        size = range_sized q session.0 session.1 at.attempt at.stands at.drawn ∙ ap size_of at.is;
      }

  pub stamps_apart : (p q : ℕ) (w u : Work) (a b : ℕ) → IsSession (shown_of sessions c) p → IsSession (shown_of sessions c) q → HasStamp (shown_of sessions c) p w a
      → HasStamp (shown_of sessions c) q u b → a < b → a + size_of w ≤ b
  stamps_apart p q w u a b of_p of_q first second less =
      let one = has_range p w a of_p first in
      let two = has_range q u b of_q second in
      let start = one.start in
      let size = one.size in
      let next = two.start in
      let apart =
      ranges_apart c.shared.opening c.shared.tail c.shared.log one.range two.range under.sound.common.ranges.end_to_end one.drawn two.drawn (omega (arith, start, next, less))
      in
      omega (arith, apart, start, size, next)

  pub stamp_within : (q : ℕ) (w : Work) (stamp : ℕ) → IsSession (shown_of sessions c) q → HasStamp (shown_of sessions c) q w stamp → stamp + size_of w ≤ c.shared.tail
  stamp_within q w stamp session has =
      let one = has_range q w stamp session has in
      let start = one.start in
      let size = one.size in
      let within = range_within c.shared.opening c.shared.tail c.shared.log one.range under.sound.common.ranges.end_to_end one.drawn in
      omega (arith, within, start, size)
