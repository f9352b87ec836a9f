-- No more cells are drawn than objects and claims: each claim draws one at most.
use Rattle.std.proofs.Common.{◌≡◌, ℕ, zero, suc, ◌+◌, ◌<◌, ◌≤◌, ⊎_elim, inl, inr, Bool, true, false, List, [], ◌∷◌, length, map, count_by, sum_by, Some, refl, sym, ap, ◌∙◌, subst, arith}
use Rattle.std.proofs.lemmas.Bool.{cases_eq, cases_lt}
use Rattle.std.proofs.lemmas.List.{length-map}
use Rattle.std.proofs.lemmas.List.Sums.{sum_by-cons}
use Rattle.erm_model.specs.declared.limits.TheConstants.{OID_LIMIT}
use Rattle.erm_machine.specs.declared.attempt.Attempt.{Attempt}
use Rattle.erm_machine.specs.declared.event.Counter.TheVariants.{Cells, Objects}
use Rattle.erm_machine.specs.declared.event.Kind.{Kind}
use Rattle.erm_machine.specs.declared.event.Kind.TheVariants as kind
use Rattle.erm_machine.specs.declared.limits.TheConstants.{ANNOUNCERS, FLUSH_SEAT, OBJECT_LIMIT}
use Rattle.erm_machine.specs.declared.part.Part.{Part}
use Rattle.erm_machine.specs.declared.place.Place.{Place}
use Rattle.erm_machine.specs.declared.place.Place.TheVariants.{Active, Idle, Sealed, Vacant}
use Rattle.erm_machine.specs.declared.task.Task.{Task}
use Rattle.erm_machine.specs.declared.task.Task.TheVariants as task
use Rattle.erm_machine.specs.Core.{Core, blank, spot_of, word_at}
use Rattle.erm_machine.specs.Decided.{written_of}
use Rattle.erm_machine.specs.Facts.{IsCurrent, total}
use Rattle.erm_machine.specs.Reading.{add_counter}
use Rattle.erm_machine.specs.Sound.{Sound}
use Rattle.erm_machine.specs.Step.{after_event}
use Rattle.erm_machine.specs.Words.{is_flusher, is_session, put}
use Rattle.erm_machine.proofs.Frames.{total-put}
use Rattle.erm_machine.proofs.QuietKinds.{moves}
use Rattle.erm_core_cells.proofs.NumbersKept.{LeavesCounters, cells_raised, same_drawn}
use Rattle.erm_core_view.proofs.Moved.{meets_one}
use Rattle.erm_core_view.proofs.Snapshots.{IsNewSnapshot, shown_work, snapshots_new}
use Rattle.erm_core_turns.specs.Turns.{Flushes}
use Rattle.erm_core_view.specs.Steps.{MeetsOne}
use Rattle.erm_core_view.specs.Views.{IsBetween, IsQuiet, finished_of, session_of, stand_of, view_of}
use Rattle.erm_world.specs.World.{Finished, Session, claims_by_all, claims_in, claims_upto}
use Rattle.erm_world.specs.World as world
use Rattle.erm_table_world.specs.Covered.{IsCovered, firm_in, firm_in_all, is_firm}
use Rattle.erm_table_world.proofs.Firm.{firm_few, firm_kept, firm_more}

seat_low : (p : ℕ) → is_session p ≡ true → p < ANNOUNCERS
seat_low p session = grind (arith, session)

-- claims that are there to stay grow no fewer, and the counter stays
grows : (c d : Core) (p : ℕ) (y : Part) → p < ANNOUNCERS → firm_in (c.seats p) ≤ firm_in y → d.seats ≡ put c.seats p y → d.shared.cells_drawn ≡ c.shared.cells_drawn → d.shared.cell_limit ≡ c.shared.cell_limit
    → IsCovered c → IsCovered d
grows c d p y within less seats drawn limit covered =
    let sum = total-put firm_in ANNOUNCERS c.seats p y within in
    let all : firm_in_all d ≡ total firm_in ANNOUNCERS (put c.seats p y) = ap (λ (f : ℕ → Part). total firm_in ANNOUNCERS f) seats in
    ⊎_elim
    (λ (low : c.shared.cells_drawn ≤ OBJECT_LIMIT + firm_in_all c). inl (omega (arith, low, sum, all, drawn, less)))
    (λ (low : c.shared.cell_limit ≤ OBJECT_LIMIT + firm_in_all c). inr (omega (arith, low, sum, all, limit, less)))
    covered

module _ (c d : Core) (p : ℕ) (session : is_session p ≡ true) (sound : Sound c) (covered : IsCovered c) where
  -- a step that raises no counter
  other_covered : (k : Kind) → LeavesCounters k → MeetsOne k → after_event c p k ≡ Some d → IsCovered d
  other_covered k counters one e =
      let m = moves c p k d (meets_one k one) e in
      let same = same_drawn p k (word_at c (spot_of p k)) (c.seats p) c.shared counters in
      grows c d p m.part (seat_low p session) (firm_kept c sound p k (word_at c (spot_of p k)) m.part session one m.after) (ap (λ (z : Core). z.seats) m.is)
      (ap (λ (z : Core). z.shared.cells_drawn) m.is ∙ same.1) (ap (λ (z : Core). z.shared.cell_limit) m.is ∙ same.2) covered

  object_covered : after_event c p (kind.AddCounter Objects) ≡ Some d → IsCovered d
  object_covered e =
      let m = moves c p (kind.AddCounter Objects) d tt e in
      grows c d p m.part (seat_low p session) (firm_kept c sound p (kind.AddCounter Objects) (word_at c (spot_of p (kind.AddCounter Objects))) m.part session tt m.after)
      (ap (λ (z : Core). z.seats) m.is) (ap (λ (z : Core). z.shared.cells_drawn) m.is) (ap (λ (z : Core). z.shared.cell_limit) m.is) covered

  pool_needed : (found : ℕ) (x y : Part) (t : Task) → add_counter c.shared.cell_limit p Cells found x t ≡ Some y → t ≡ task.Pool
  pool_needed found x y task.Pool e = refl
  pool_needed found x y _ e = absurd (cc)

  -- a cell is drawn, or there is none
  cell_covered : after_event c p (kind.AddCounter Cells) ≡ Some d → IsCovered d
  cell_covered e =
      let m = moves c p (kind.AddCounter Cells) d tt e in
      let at = pool_needed c.shared.cells_drawn (c.seats p) m.part (c.seats p).task m.after in
      let pool = subst (λ (t : Task). add_counter c.shared.cell_limit p Cells c.shared.cells_drawn (c.seats p) t ≡ Some m.part) at m.after in
      let is = sym (cells_raised c p m.part d sound (sym m.is)) in
      let sum = total-put firm_in ANNOUNCERS c.seats p m.part (seat_low p session) in
      let all : firm_in_all d ≡ total firm_in ANNOUNCERS (put c.seats p m.part) = ap (λ (z : Core). firm_in_all z) is in
      let drawn : d.shared.cells_drawn ≡ c.shared.cells_drawn + 1 = ap (λ (z : Core). z.shared.cells_drawn) is in
      let limit : d.shared.cell_limit ≡ c.shared.cell_limit = ap (λ (z : Core). z.shared.cell_limit) is in
      ⊎_elim
      (λ (below : c.shared.cells_drawn < c.shared.cell_limit).
      let more = firm_more c sound p c.shared.cells_drawn m.part at below pool in
      ⊎_elim
      (λ (low : c.shared.cells_drawn ≤ OBJECT_LIMIT + firm_in_all c). inl (omega (arith, low, sum, all, drawn, more)))
      (λ (low : c.shared.cell_limit ≤ OBJECT_LIMIT + firm_in_all c). inr (omega (arith, low, sum, all, limit, more)))
      covered)
      (λ (above : c.shared.cell_limit ≤ c.shared.cells_drawn).
      let less = firm_kept c sound p (kind.AddCounter Cells) c.shared.cells_drawn m.part session tt m.after in
      ⊎_elim
      (λ (low : c.shared.cells_drawn ≤ OBJECT_LIMIT + firm_in_all c). inr (omega (arith, low, above, sum, all, limit, less)))
      (λ (low : c.shared.cell_limit ≤ OBJECT_LIMIT + firm_in_all c). inr (omega (arith, low, sum, all, limit, less)))
      covered)
      (cases_lt c.shared.cells_drawn c.shared.cell_limit)

  -- each step of a session
  pub step_covered : (k : Kind) → MeetsOne k → after_event c p k ≡ Some d → IsCovered d
  step_covered (kind.AddCounter Objects) one e = object_covered e
  step_covered (kind.AddCounter Cells) one e = cell_covered e
  step_covered k one e = other_covered k tt one e

-- BETWEEN TWO CALLS a session shows all its claims.
over_shown : (ts : List Attempt) → sum_by (λ (f : Finished). length f.work.claims) (map finished_of ts) ≡ sum_by (λ (t : Attempt). length t.writes) ts
over_shown [] = refl
over_shown (t ∷ ts) =
    let shown = sum_by-cons (λ (f : Finished). length f.work.claims) (finished_of t) (map finished_of ts) in
    let is = sum_by-cons (λ (a : Attempt). length a.writes) t ts in
    let one : length (finished_of t).work.claims ≡ length t.writes = length-map t.writes written_of in
    let rest = over_shown ts in
    omega (arith, shown, is, one, rest)

current_shown : (pl : Place) (u : Task) (t : Attempt) → IsNewSnapshot u t → IsBetween pl u → IsCurrent pl t → count_by is_firm t.writes ≤ length (world.work_of (stand_of pl u t)).claims
current_shown Idle u t new between none = let empty : count_by is_firm t.writes ≡ 0 = ap (λ (a : Attempt). count_by is_firm a.writes) none in omega (arith, empty)
current_shown (Active tail) u t new between current =
    let few = firm_few t.writes in
    let all = length-map t.writes written_of in
    let shown = ap (λ (w : world.Work). length w.claims) (shown_work u t new) in
    omega (arith, few, all, shown)
current_shown (Sealed tail stamp) u t new between current = let few = firm_few t.writes in let all = length-map t.writes written_of in omega (arith, few, all)
current_shown _ u t new between current = absurd between

session_shown : (x : Part) → IsNewSnapshot x.task x.current → IsBetween x.place x.task → IsCurrent x.place x.current → firm_in x ≤ claims_in (session_of x)
session_shown x new between current = let past = over_shown x.over in let now = current_shown x.place x.task x.current new between current in omega (arith, past, now)

-- a seat without a transaction, and with none that is over, has no claims
none_firm : (x : Part) → x.over ≡ [] → x.current.writes ≡ [] → firm_in x ≡ 0
none_firm x over none =
    let past : sum_by (λ (t : Attempt). length t.writes) x.over ≡ 0 = ap (λ (ts : List Attempt). sum_by (λ (t : Attempt). length t.writes) ts) over in
    let now : count_by is_firm x.current.writes ≡ 0 = ap (λ ws. count_by is_firm ws) none in
    omega (arith, past, now)

vacant_none : (pl : Place) (t : Attempt) → pl ≡ Vacant → IsCurrent pl t → t.writes ≡ []
vacant_none pl t at current = let none : t ≡ blank = subst (λ (q : Place). IsCurrent q t) at current in ap (λ (a : Attempt). a.writes) none

module _ (sessions : ℕ) (c : Core) (sound : Sound c) (quiet : IsQuiet sessions c) where
  -- sessions alone have claimed anything
  outside : (q : ℕ) → (0 < q → q ≤ sessions → ⊥) → firm_in (c.seats q) ≡ 0
  outside q none = by_test (is_flusher q) refl
    where
      by_test : (b : Bool) → is_flusher q ≡ b → firm_in (c.seats q) ≡ 0
      by_test true flusher = let still = quiet.flusher q flusher in none_firm (c.seats q) still.over still.writes
      by_test false other =
          none_firm (c.seats q) (quiet.unused q none other)
          (vacant_none (c.seats q).place (c.seats q).current (quiet.others q none other) (sound.own q).ranges.current)

  within : (n : ℕ) → n ≤ sessions → total firm_in (suc n) c.seats ≤ claims_upto n (λ q. session_of (c.seats q))
  unfolding total claims_upto
  within zero low = let none = outside 0 (λ some _. omega (arith, some)) in omega (arith, none)
  within (suc n) low =
      let before = within n (omega (arith, low)) in
      let last = session_shown (c.seats (suc n)) (snapshots_new c (suc n) sound) (quiet.between (suc n) (omega arith) low) (sound.own (suc n)).ranges.current in
      omega (arith, before, last)

  beyond : (m : ℕ) → sessions < m → total firm_in m c.seats ≤ claims_upto sessions (λ q. session_of (c.seats q))
  unfolding total
  beyond zero past = absurd (omega (arith, past))
  beyond (suc m) past =
      ⊎_elim
      (λ (last : m ≡ sessions). subst (λ (n : ℕ). total firm_in (suc n) c.seats ≤ claims_upto sessions (λ q. session_of (c.seats q))) (sym last) (within sessions (omega arith)))
      (λ (other : m ≡ sessions → ⊥).
      let before = beyond m (omega (arith, past, other)) in
      let none = outside m (λ _ low. omega (arith, low, past, other)) in
      omega (arith, before, none))
      (cases_eq m sessions)

  few : sessions < FLUSH_SEAT
  few =
      ⊎_elim (λ (below : sessions < FLUSH_SEAT). below) (λ (above : FLUSH_SEAT ≤ sessions). absurd (let no = quiet.few FLUSH_SEAT above in let is : is_flusher FLUSH_SEAT ≡ true = grind arith in cc))
      (cases_lt sessions FLUSH_SEAT)

  all_shown : firm_in_all c ≤ claims_by_all (view_of sessions c)
  all_shown = let low = few in beyond ANNOUNCERS (omega (arith, low))

  -- where all cells are drawn there are as many claims as there are cells more than objects
  pub drawn_claims : IsCovered c → c.shared.cell_limit ≤ c.shared.cells_drawn → c.shared.cell_limit ≤ OID_LIMIT + claims_by_all (view_of sessions c)
  drawn_claims covered drawn =
      let shown = all_shown in
      ⊎_elim (λ (low : c.shared.cells_drawn ≤ OBJECT_LIMIT + firm_in_all c). omega (arith, low, drawn, shown)) (λ (low : c.shared.cell_limit ≤ OBJECT_LIMIT + firm_in_all c). omega (arith, low, shown)) covered

-- THE FLUSH SEAT has no claims, and draws no cell.
firm_less : (n : ℕ) (f g : ℕ → Part) → ((q : ℕ) → firm_in (f q) ≤ firm_in (g q)) → total firm_in n f ≤ total firm_in n g
unfolding total
firm_less zero f g less = omega arith
firm_less (suc n) f g less = let before = firm_less n f g less in let last = less n in omega (arith, before, last)

-- so its steps keep what is so of the cells
pub turn_covered : (sessions : ℕ) (c d : Core) → IsQuiet sessions c → Flushes c d → IsCovered c → IsCovered d
turn_covered sessions c d quiet flushes covered =
    let still = quiet.flusher FLUSH_SEAT refl in
    let none = none_firm (c.seats FLUSH_SEAT) still.over still.writes in
    let all : firm_in_all c ≤ firm_in_all d =
    firm_less ANNOUNCERS c.seats d.seats
    (λ q.
    ⊎_elim (λ (here : q ≡ FLUSH_SEAT). subst (λ (n : ℕ). firm_in (c.seats n) ≤ firm_in (d.seats n)) (sym here) (omega (arith, none)))
    (λ (ne : q ≡ FLUSH_SEAT → ⊥). let same : firm_in (d.seats q) ≡ firm_in (c.seats q) = ap firm_in (flushes.others q ne) in omega (arith, same)) (cases_eq q FLUSH_SEAT))
    in
    let drawn = flushes.shared.drawn in
    let limit = flushes.shared.cells in
    ⊎_elim (λ (low : c.shared.cells_drawn ≤ OBJECT_LIMIT + firm_in_all c). inl (omega (arith, low, all, drawn)))
    (λ (low : c.shared.cell_limit ≤ OBJECT_LIMIT + firm_in_all c). inr (omega (arith, low, all, limit))) covered
