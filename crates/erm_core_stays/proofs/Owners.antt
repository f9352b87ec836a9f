-- A session that owned an entry goes on, and its transaction has claimed the object or given the claim up.
use Rattle.std.proofs.Common.{◌≡◌, ℕ, ◌<◌, ◌≤◌, true, false, length, List, inl, ◌∙◌, arith, eqb-true, leb, ltb}
use Rattle.std.proofs.lemmas.Bool.{and_parts, false_from_ne_true, leb-true, ltb-true}
use Rattle.erm_model.specs.Member.{◌∈◌}
use Rattle.erm_machine.specs.declared.attempt.Attempt.{Attempt}
use Rattle.erm_machine.specs.declared.event.Event.{Event}
use Rattle.erm_machine.specs.declared.limits.TheConstants.{FLUSH_SEAT, OBJECT_LIMIT, SESSIONS}
use Rattle.erm_machine.specs.Core.{Core}
use Rattle.erm_machine.specs.Facts.{all_of}
use Rattle.erm_machine.specs.Sound.{Sound}
use Rattle.erm_machine.specs.Words.{is_flusher, is_session}
use Rattle.erm_machine.proofs.Holders.{holds_at}
use Rattle.erm_core_lives.proofs.LivesLists.{∈-last}
use Rattle.erm_core_met.proofs.Others.{owner_is}
use Rattle.erm_core_stays.specs.Runs.{Runs}
use Rattle.erm_core_stays.specs.Staying.{HasTried, IsOwnedBy}
use Rattle.erm_core_stays.proofs.Commits.{run_continues}
use Rattle.erm_core_stays.proofs.Running.{KeepsSound}

pub owner_goes_on : KeepsSound → (es : List Event) (c d : Core) (oid owner number : ℕ) → Sound c → Runs es c d → oid < OBJECT_LIMIT → is_session owner ≡ true → IsOwnedBy c.shared oid owner number
    → (t : Attempt) × (t ∈ all_of (d.seats owner)) × (t.number ≡ number) × HasTried t oid
owner_goes_on keeps es c d oid owner number sound run known session owned =
    let x = c.seats owner in
    let bounds = and_parts (ltb 0 owner) (leb owner SESSIONS) session in
    let low = leb-true owner SESSIONS bounds.1 in
    let own = owner_is c oid owner sound known (ltb-true 0 owner bounds.0) owned.owner_is in
    let at = holds_at c owner oid own.claims in
    let other : is_flusher owner ≡ false = false_from_ne_true (is_flusher owner) (λ (f : is_flusher owner ≡ true). let h = eqb-true owner FLUSH_SEAT f in omega (arith, low, h)) in
    let begun : 0 < x.current.number =
    let lives = (sound.own owner).lives in
    let number = lives.number other in
    let busy = own.in_progress in
    let current = lives.current busy in
    omega (arith, number, busy, current)
    in
    let on = run_continues keeps es c d sound run owner x.current other (∈-last x.over x.current) begun in
    (on.0, on.1, on.2.number ∙ own.number_is ∙ owned.number_is, on.2.tried oid (inl (at.place, at.within, at.oid_is)))
