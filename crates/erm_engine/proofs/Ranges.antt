-- Ranges of the log between a state and a later one.
use Rattle.std.proofs.Common.{◌≡◌, ℕ, zero, suc, ◌+◌, ◌<◌, ◌≤◌, ◌⊎◌, ⊎_elim, inl, inr, List, [], ◌∷◌, refl, sym, ap, ◌∙◌, subst, arith}
use Rattle.std.proofs.lemmas.Bool.{cases_lt}
use Rattle.erm_model.specs.Member.{◌∈◌}
use Rattle.erm_model.proofs.Members.{none_in_nil, ∈-behind}
use Rattle.erm_machine.specs.declared.attempt.Attempt.{Attempt}
use Rattle.erm_machine.specs.declared.limits.TheConstants.{LEAST_BLOCK}
use Rattle.erm_machine.specs.declared.version.Span.{Span}
use Rattle.erm_machine.specs.Core.{Core}
use Rattle.erm_machine.specs.Facts.{all_of}
use Rattle.erm_machine.specs.Ranges.{EndToEnd}
use Rattle.erm_machine.specs.Sound.{Sound}
use Rattle.erm_machine.proofs.Listed.{∈-cons, ∈-head}
use Rattle.erm_core_flush.specs.Turns.{Blocks, IsDecidedRange, IsOpenAt, words_of}
use Rattle.erm_core_stays.specs.Staying.{Rises}
use Rattle.erm_core_stays.proofs.Numbers.{rises, rises_after, rises_refl}
use Rattle.erm_core_view.proofs.Lives.{one_attempt}
use Rattle.erm_gathered.proofs.Lasting.{BlocksStay, has_later}
use Rattle.erm_log_list.proofs.Ranges.{attempt_of, range_stands, span_of, starts_from}
use Rattle.erm_ring.specs.Turns.{HasBlocks}
use Rattle.erm_rule.specs.Books.{IsLater, PassesIn}

-- RANGES END TO END
goes_up : (from to : ℕ) (rs : List Span) → EndToEnd from rs to → from ≤ to
goes_up from to [] e = omega (arith, e)
goes_up from to (r ∷ rs) e = let up = goes_up (from + r.size) to rs e.1 in omega (arith, up)

ends_within : (from to : ℕ) (rs : List Span) (r : Span) → EndToEnd from rs to → r ∈ rs → r.start + r.size ≤ to
ends_within from to [] r e m = absurd (none_in_nil r m)
ends_within from to (s ∷ rs) r e m =
    ⊎_elim
    (λ (here : s ≡ r).
    let start = e.0 in
    let up = goes_up (from + s.size) to rs e.1 in
    subst (λ (u : Span). u.start + u.size ≤ to) here (omega (arith, start, up)))
    (λ (later : r ∈ rs). ends_within (from + s.size) to rs r e.1 later)
    (∈-cons r s rs m)

last_range : (from to : ℕ) (rs : List Span) → EndToEnd from rs to → from < to → (r : Span) × (r ∈ rs) × (r.start + r.size ≡ to)
last_range from to [] e less = absurd (omega (arith, e, less))
last_range from to (r ∷ rs) e less =
    ⊎_elim
    (λ (more : from + r.size < to).
    let last : (s : Span) × (s ∈ rs) × (s.start + s.size ≡ to) = last_range (from + r.size) to rs e.1 more in
    (last.0, ∈-behind r rs last.0 last.1, last.2))
    (λ (none : to ≤ from + r.size).
    let up = goes_up (from + r.size) to rs e.1 in
    let start = e.0 in
    (r, ∈-head r rs, omega (arith, none, up, start)))
    (cases_lt (from + r.size) to)

-- a range begins where another ends, or where they begin, unless all end there
range_from : (from to place : ℕ) (rs : List Span) → EndToEnd from rs to → (place ≡ from) ⊎ ((r : Span) × (r ∈ rs) × (r.start + r.size ≡ place)) → place < to
    → (r : Span) × (r ∈ rs) × (r.start ≡ place)
range_from from to place [] e ends less =
    ⊎_elim (λ (at : place ≡ from). absurd (omega (arith, e, at, less))) (λ (r : (r : Span) × (r ∈ []) × (r.start + r.size ≡ place)). absurd (none_in_nil r.0 r.1)) ends
range_from from to place (s ∷ rs) e ends less =
    let start = e.0 in
    ⊎_elim (λ (at : place ≡ from). (s, ∈-head s rs, omega (arith, start, at)))
    (λ (r : (r : Span) × (r ∈ (s ∷ rs)) × (r.start + r.size ≡ place)).
    let behind : (place ≡ from + s.size) ⊎ ((r : Span) × (r ∈ rs) × (r.start + r.size ≡ place)) =
    ⊎_elim (λ (here : s ≡ r.0). let is = subst (λ (u : Span). u.start + u.size ≡ place) (sym here) r.2 in inl (omega (arith, is, start))) (λ (later : r.0 ∈ rs). inr (r.0, later, r.2)) (∈-cons r.0 s rs r.1)
    in
    let rest : (q : Span) × (q ∈ rs) × (q.start ≡ place) = range_from (from + s.size) to place rs e.1 behind less in
    (rest.0, ∈-behind s rs rest.0 rest.1, rest.2))
    ends

-- two that begin at one place are the same
one_start : (from to : ℕ) (rs : List Span) (r s : Span) → EndToEnd from rs to → ((u : Span) → u ∈ rs → 0 < u.size) → r ∈ rs → s ∈ rs → r.start ≡ s.start → r ≡ s
one_start from to [] r s e some m n same = absurd (none_in_nil r m)
one_start from to (q ∷ rs) r s e some m n same =
    let start = e.0 in
    let long = some q (∈-head q rs) in
    ⊎_elim
    (λ (here : q ≡ r).
    ⊎_elim (λ (too : q ≡ s). sym here ∙ too)
    (λ (later : s ∈ rs).
    let above = starts_from (from + q.size) to rs s e.1 later in
    let at = subst (λ (u : Span). u.start ≡ s.start) (sym here) same in
    absurd (omega (arith, start, long, above, at)))
    (∈-cons s q rs n))
    (λ (behind : r ∈ rs).
    let after = starts_from (from + q.size) to rs r e.1 behind in
    ⊎_elim
    (λ (too : q ≡ s). let at = subst (λ (u : Span). r.start ≡ u.start) (sym too) same in absurd (omega (arith, start, long, after, at)))
    (λ (later : s ∈ rs). one_start (from + q.size) to rs r s e.1 (λ u there. some u (∈-behind q rs u there)) behind later same)
    (∈-cons s q rs n))
    (∈-cons r q rs m)

-- LATER STATES
sound_before : (n : ℕ) (c d : Core) → PassesIn n c d → Sound d → Sound c
sound_before zero c d same sound = subst Sound (sym same) sound
sound_before (suc n) c d leads sound = sound_before n c leads.0 leads.1 leads.2.0

pub sound_earlier : (c d : Core) → IsLater c d → Sound d → Sound c
sound_earlier c d later sound = sound_before later.0 c d later.1 sound

rises_in : (n : ℕ) (c d : Core) → PassesIn n c d → Rises c.shared d.shared
rises_in zero c d same = subst (λ (z : Core). Rises c.shared z.shared) same (rises_refl c.shared)
rises_in (suc n) c d leads =
    let passes = leads.2 in
    rises_after c.shared (leads.0).shared d.shared (rises_in n c leads.0 leads.1) (rises leads.0 d passes.1.0 passes.1.1 passes.0 passes.1.2)

pub rises_later : (c d : Core) → IsLater c d → Rises c.shared d.shared
rises_later c d later = rises_in later.0 c d later.1

-- A RANGE isn't decided and undecided at once.
open_and_decided : (s : Core) (place : ℕ) (u : Attempt) → Sound s → (decided : IsDecidedRange s.seats u) → u.stamp ≡ place → IsOpenAt s.seats place → ⊥
open_and_decided s place u sound decided at open_here =
    let ranges = sound.common.ranges in
    let holder = open_here.holder in
    let one = range_stands s decided.seat u sound decided.stands decided.drawn in
    let other = range_stands s open_here.seat holder sound open_here.stands open_here.drawn in
    let stamps : u.stamp ≡ holder.stamp = at ∙ sym open_here.starts in
    let same : span_of decided.seat u ≡ span_of open_here.seat holder =
    one_start s.shared.opening s.shared.tail s.shared.log (span_of decided.seat u) (span_of open_here.seat holder) ranges.end_to_end
    (λ r there. let least = (ranges.sizes r there).0 in let l : LEAST_BLOCK ≡ 5 = refl in omega (arith, least, l)) one other stamps
    in
    let seat : decided.seat ≡ open_here.seat = ap (λ (r : Span). r.seat) same in
    let is : u ≡ holder =
    one_attempt s open_here.seat u holder sound (subst (λ (q : ℕ). u ∈ all_of (s.seats q)) seat decided.stands) open_here.stands decided.drawn stamps
    in
    decided.decided (ap (λ (a : Attempt). a.decision) is ∙ open_here.undecided)

-- what is decided stays so
pub stays_decided : BlocksStay → (c s : Core) (t : Attempt) (place : ℕ) → IsDecidedRange c.seats t → t.stamp ≡ place → 0 < t.size → IsLater c s → Sound s → IsOpenAt s.seats place → ⊥
stays_decided stay c s t place decided at some later sound open_here =
    let to = place + t.size in
    let has : HasBlocks place to (words_of (t ∷ [])) c = record { ranges = t ∷ []; blocks = (decided, at, refl); words_are = refl } in
    let on = has_later stay place to (words_of (t ∷ [])) c s later has in
    by_ranges on.ranges on.blocks
  where
    by_ranges : (us : List Attempt) → Blocks s.seats place us (place + t.size) → ⊥
    by_ranges [] e = omega (arith, e, some)
    by_ranges (u ∷ us) e = open_and_decided s place u sound e.0 e.1 open_here

-- THE LOG'S END is where the last range ends.
pub ends_no_later : (c d : Core) → Sound c → Sound d → d.shared.opening ≡ c.shared.opening → ((q : ℕ) (t : Attempt) → t ∈ all_of (d.seats q) → 0 < t.stamp → t ∈ all_of (c.seats q)) → d.shared.tail ≤ c.shared.tail
ends_no_later c d sound after opening stands =
    ⊎_elim
    (λ (beyond : c.shared.tail < d.shared.tail).
    let up = goes_up c.shared.opening c.shared.tail c.shared.log sound.common.ranges.end_to_end in
    let last = last_range d.shared.opening d.shared.tail d.shared.log after.common.ranges.end_to_end (omega (arith, beyond, up, opening)) in
    let of = attempt_of d last.0 after last.1 in
    let t = of.attempt in
    let there = range_stands c last.0.seat t sound (stands last.0.seat t of.stands of.drawn) of.drawn in
    let low = ends_within c.shared.opening c.shared.tail c.shared.log (span_of last.0.seat t) sound.common.ranges.end_to_end there in
    let start = of.start in
    let size = of.size in
    let end = last.2 in
    absurd (omega (arith, beyond, low, start, size, end)))
    (λ (within : d.shared.tail ≤ c.shared.tail). within)
    (cases_lt c.shared.tail d.shared.tail)

-- where a range ends below the log's end another begins
pub begins_there : (c : Core) (place : ℕ) → Sound c → c.shared.flushed ≡ place → place < c.shared.tail → (seat : ℕ) × (t : Attempt) × (t ∈ all_of (c.seats seat)) × (0 < t.stamp) × (t.stamp ≡ place) × (0 < t.size)
begins_there c place sound at less =
    let ranges = sound.common.ranges in
    let r = range_from c.shared.opening c.shared.tail c.shared.flushed c.shared.log ranges.end_to_end sound.common.log.gathered.flushed (omega (arith, at, less)) in
    let of = attempt_of c r.0 sound r.1 in
    let least = (ranges.sizes r.0 r.1).0 in
    let size = of.size in
    let l : LEAST_BLOCK ≡ 5 = refl in
    (r.0.seat, of.attempt, of.stands, of.drawn, of.start ∙ r.2 ∙ at, omega (arith, least, size, l))
