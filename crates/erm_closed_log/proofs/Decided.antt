-- Decided ranges that lie end to end from where the log begins: no other lies below their end, so all is decided there.
use Rattle.std.proofs.Common.{◌≡◌, ◌≢◌, ℕ, ◌+◌, ◌<◌, ◌≤◌, ⊎_elim, List, [], ◌∷◌, Option, Some, None, refl, sym, ap, ◌∙◌, subst, arith}
use Rattle.std.proofs.lemmas.Bool.{cases_eq, cases_lt}
use Rattle.erm_closed_log.proofs.Apart.{range_ends, range_within, ranges_apart}
use Rattle.erm_core_flush.specs.Turns.{Blocks, IsDecidedRange}
use Rattle.erm_core_turns.specs.Turns.{log_of, undecided_at}
use Rattle.erm_core_turns.proofs.Undecided.{none_undecided, undecided_is}
use Rattle.erm_core_view.specs.Views.{session_of, stand_of, view_of, work_of}
use Rattle.erm_core_view.proofs.Lives.{one_attempt}
use Rattle.erm_core_view.proofs.Snapshots.{never_sealed}
use Rattle.erm_log_list.specs.LogOf.{IsDecidedUpTo}
use Rattle.erm_log_list.proofs.Ranges.{attempt_of, range_stands, span_of, starts_from}
use Rattle.erm_machine.specs.declared.attempt.Attempt.{Attempt}
use Rattle.erm_machine.specs.declared.attempt.Decision.TheVariants.{Undecided}
use Rattle.erm_machine.specs.declared.place.Place.{Place}
use Rattle.erm_machine.specs.declared.place.Place.TheVariants.{Active, Sealed}
use Rattle.erm_machine.specs.declared.version.Span.{Span}
use Rattle.erm_machine.specs.Core.{Core}
use Rattle.erm_machine.specs.Facts.{IsCurrent, all_of}
use Rattle.erm_machine.specs.Log.{IsEnd}
use Rattle.erm_machine.specs.Ranges.{EndToEnd}
use Rattle.erm_machine.specs.Sound.{Sound}
use Rattle.erm_machine.specs.declared.task.Task.{Task}
use Rattle.erm_machine.proofs.Listed.{∈-cons, ∈-head, ∈-second}
use Rattle.erm_model.specs.Member.{◌∈◌}
use Rattle.erm_model.proofs.Members.{none_in_nil, ∈-behind}
use Rattle.erm_world.specs.Log as log
use Rattle.erm_world.specs.World.{Work}
use Rattle.erm_world.specs.World as world

-- a session that is sealed with a stamp has its range there, which isn't decided
same_stamp : (w u : Work) (m n : ℕ) → world.sealed w m ≡ world.sealed u n → m ≡ n
same_stamp w u m n e = cc

sealed_stamp : (pl : Place) (u : Task) (t : Attempt) (w : Work) (place : ℕ) → IsCurrent pl t → stand_of pl u t ≡ world.sealed w place → (t.stamp ≡ place) × (0 < t.stamp) × (t.decision ≡ Undecided)
sealed_stamp (Active tail) u t w place cur e = absurd (never_sealed u t w place e)
sealed_stamp (Sealed tail stamp) u t w place cur e =
    let same = same_stamp (work_of t) w stamp place e in let is = cur.stamp_is in let some = cur.positive in (omega (arith, is, same), omega (arith, is, some), cur.decision)
sealed_stamp _ u t w place cur e = absurd (cc)

only_none : (o : Option log.Undecided) → ((u : log.Undecided) → o ≡ Some u → ⊥) → o ≡ None
only_none (Some u) none = absurd (none u refl)
only_none None none = refl

module _ (c : Core) (sound : Sound c) where
  -- two transactions with one stamp are one
  same_attempt : (p q : ℕ) (t u : Attempt) → t ∈ all_of (c.seats p) → u ∈ all_of (c.seats q) → 0 < t.stamp → t.stamp ≡ u.stamp → t ≡ u
  same_attempt p q t u at also drawn same =
      ⊎_elim (λ (one : p ≡ q). one_attempt c p t u sound at (subst (λ (k : ℕ). u ∈ all_of (c.seats k)) (sym one) also) drawn same)
      (λ (two : p ≡ q → ⊥). absurd ((sound.both p q two).decided.apart t u at also drawn same)) (cases_eq p q)

  blocks_rise : (at to : ℕ) (ts : List Attempt) → Blocks c.seats at ts to → at ≤ to
  blocks_rise at to [] lie = let is : at ≡ to = lie in omega (arith, is)
  blocks_rise at to (t ∷ ts) lie = let rest = blocks_rise (at + t.size) to ts lie.2 in omega (arith, rest)

  -- they end within the log
  blocks_within : (at to : ℕ) (ts : List Attempt) → at ≤ c.shared.tail → Blocks c.seats at ts to → to ≤ c.shared.tail
  blocks_within at to [] low lie = let is : at ≡ to = lie in omega (arith, is, low)
  blocks_within at to (t ∷ ts) low lie =
      let there = range_stands c lie.0.seat t sound lie.0.stands lie.0.drawn in
      let ends = range_within c.shared.opening c.shared.tail c.shared.log (span_of lie.0.seat t) sound.common.ranges.end_to_end there in
      let start : t.stamp ≡ at = lie.1 in
      blocks_within (at + t.size) to ts (omega (arith, ends, start)) lie.2

  -- a range of the log is that of one of them
  record IsOneOf (to : ℕ) (r : Span) : Type 0 where
    attempt : Attempt
    decided : IsDecidedRange c.seats attempt
    start : attempt.stamp ≡ r.start
    ends : r.start + r.size ≤ to

  one_of : (ts : List Attempt) (rs : List Span) (at to end : ℕ) → Blocks c.seats at ts to → EndToEnd at rs end → ((r : Span) → r ∈ rs → r ∈ c.shared.log)
      → (r : Span) → r ∈ rs → r.start < to → IsOneOf to r
  one_of [] rs at to end lie ends within r m low =
      let is : at ≡ to = lie in
      let above = starts_from at end rs r ends m in
      absurd (omega (arith, is, above, low))
  one_of (t ∷ ts) [] at to end lie ends within r m low = absurd (none_in_nil r m)
  one_of (t ∷ ts) (q ∷ rs) at to end lie ends within r m low =
      let by = attempt_of c q sound (within q (∈-head q rs)) in
      let is : t ≡ by.attempt = same_attempt lie.0.seat q.seat t by.attempt lie.0.stands by.stands lie.0.drawn (lie.1 ∙ sym ends.0 ∙ sym by.start) in
      let size : t.size ≡ q.size = ap (λ (u : Attempt). u.size) is ∙ by.size in
      let rest = blocks_rise (at + t.size) to ts lie.2 in
      let start : q.start ≡ at = ends.0 in
      ⊎_elim
      (λ (here : q ≡ r). subst (IsOneOf to) here (record { attempt = t; decided = lie.0; start = lie.1 ∙ sym ends.0; ends = omega (arith, rest, start, size) }))
      (λ (later : r ∈ rs).
      one_of ts rs (at + t.size) to end lie.2 (subst (λ (n : ℕ). EndToEnd (at + n) rs end) (sym size) ends.1) (λ s n. within s (∈-behind q rs s n)) r later low)
      (∈-cons r q rs m)

  pub all_upto : (ts : List Attempt) (to : ℕ) → Blocks c.seats c.shared.opening ts to → IsDecidedUpTo c to
  all_upto ts to lie =
      let end_to_end = sound.common.ranges.end_to_end in
      record {
        from = blocks_rise c.shared.opening to ts lie;
        within = blocks_within c.shared.opening to ts (range_ends c.shared.opening c.shared.tail c.shared.log end_to_end) lie;
        decided = λ seat t m drawn less.
            let there = range_stands c seat t sound m drawn in
            let at = one_of ts c.shared.log c.shared.opening to c.shared.tail lie end_to_end (λ r n. n) (span_of seat t) there less in
            let is : at.attempt ≡ t = same_attempt at.decided.seat seat at.attempt t at.decided.stands m at.decided.drawn at.start in
            (subst (λ (u : Attempt). u.decision ≢ Undecided) is at.decided.decided, at.ends);
      }

  -- a range that starts below another's end ends there or before
  ends_low : (seat : ℕ) (t : Attempt) (r : Span) → t ∈ all_of (c.seats seat) → 0 < t.stamp → r ∈ c.shared.log → t.stamp < r.start + r.size → t.stamp + t.size ≤ r.start + r.size
  ends_low seat t r m drawn there less =
      let own = range_stands c seat t sound m drawn in
      let apart = ranges_apart c.shared.opening c.shared.tail c.shared.log in
      let end_to_end = sound.common.ranges.end_to_end in
      ⊎_elim (λ (first : t.stamp < r.start). let low = apart (span_of seat t) r end_to_end own there first in omega (arith, low))
      (λ (from : r.start ≤ t.stamp).
      ⊎_elim (λ (later : r.start < t.stamp). let low = apart r (span_of seat t) end_to_end there own later in absurd (omega (arith, low, less)))
      (λ (most : t.stamp ≤ r.start).
      let by = attempt_of c r sound there in
      let start = by.start in
      let is : t ≡ by.attempt = same_attempt seat r.seat t by.attempt m by.stands drawn (omega (arith, from, most, start)) in
      let size : t.size ≡ r.size = ap (λ (u : Attempt). u.size) is ∙ by.size in
      omega (arith, size, most))
      (cases_lt r.start t.stamp))
      (cases_lt t.stamp r.start)

  -- so it is up to the end of a range below
  pub upto_end : (to p : ℕ) → IsDecidedUpTo c to → IsEnd c.shared p → p ≤ to → IsDecidedUpTo c p
  upto_end to p upto ends low =
      let end_to_end = sound.common.ranges.end_to_end in
      record {
        from = ⊎_elim (λ (e : p ≡ c.shared.opening). omega (arith, e))
            (λ (at : (r : Span) × (r ∈ c.shared.log) × (r.start + r.size ≡ p)).
            let above = starts_from c.shared.opening c.shared.tail c.shared.log at.0 end_to_end at.1 in let is = at.2 in omega (arith, above, is))
            ends;
        within = let high = upto.within in omega (arith, low, high);
        decided = λ seat t m drawn less. (
          (upto.decided seat t m drawn (omega (arith, less, low))).0,
          ⊎_elim
              (λ (e : p ≡ c.shared.opening).
              let above = starts_from c.shared.opening c.shared.tail c.shared.log (span_of seat t) end_to_end (range_stands c seat t sound m drawn) in
              absurd (omega (arith, e, above, less)))
              (λ (at : (r : Span) × (r ∈ c.shared.log) × (r.start + r.size ≡ p)).
              let is = at.2 in
              let most = ends_low seat t at.0 m drawn at.1 (omega (arith, less, is)) in
              omega (arith, most, is))
              ends,
        );
      }

  -- no session is sealed with a stamp below
  not_sealed : (to : ℕ) → IsDecidedUpTo c to → (q place : ℕ) → place < to → undecided_at place q (session_of (c.seats q)).stand ≡ None
  not_sealed to upto q place low =
      only_none (undecided_at place q (session_of (c.seats q)).stand)
      (λ u sealed.
      let so = undecided_is place q (session_of (c.seats q)).stand u sealed in
      let is = sealed_stamp (c.seats q).place (c.seats q).task (c.seats q).current so.work place (sound.own q).ranges.current so.stand in
      let stamp = is.0 in
      let decided = (upto.decided q (c.seats q).current (∈-second (c.seats q).over ((c.seats q).current ∷ []) (c.seats q).current (∈-head (c.seats q).current [])) is.1 (omega (arith, stamp, low))).0 in
      decided is.2)

  pub none_open : (sessions to : ℕ) → IsDecidedUpTo c to → (place : ℕ) → place < to → (log_of sessions c).undecided place ≡ None
  none_open sessions to upto place low = none_undecided sessions (view_of sessions c).session place (λ q. not_sealed to upto q place low)
