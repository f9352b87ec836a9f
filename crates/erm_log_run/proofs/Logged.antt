-- What a flush says of a world's view.
use Rattle.std.proofs.Common.{inl, inr, ◌≡◌, ℕ, ◌<◌, ◌≤◌, true, Some, None, refl, sym, ap, ◌∙◌, subst, arith, map}
use Rattle.std.specs.Prelude.{is_some, ◌⊎◌}
use Rattle.erm_model.specs.Rows.{Rows}
use Rattle.erm_checkpoint.specs.Taken.{GoesOnTo, pinned_at_end}
use Rattle.erm_flush.specs.Turns.{DidGather}
use Rattle.erm_report.specs.declared.answer.Answer.{Answer}
use Rattle.erm_report.specs.declared.answer.Answer.TheVariants as answer
use Rattle.erm_script.specs.declared.script.Command.TheVariants as command
use Rattle.erm_world.specs.declared.gathered.SeatWait.{SeatWait}
use Rattle.erm_world.specs.Log.{IsLog, IsStop, IsWait, Log, Undecided, gathered_to}
use Rattle.erm_world.specs.Whole.{IsLogOf, KeepsSessions}
use Rattle.erm_world.specs.World.{IsSession, Opening, Session, View}
use Rattle.erm_lines.specs.Executions.{DidFlush, DidLog, FlushesTo, IsDecidedTo, IsPendingAt}
use Rattle.erm_log_run.proofs.Flushing.{did_flush, flushed_then, some_of}
use Rattle.erm_log_run.proofs.Held.{flushed_within}

-- a range that isn't decided is that of a transaction that is sealed
pub pending : (v : View) (log : Log) (place : ℕ) → IsLogOf v log → is_some (log.undecided place) ≡ true → IsPendingAt v place
pending v log place of busy =
    let found = some_of (log.undecided place) busy in
    let at = (of.undecided place found.0).0 found.1 in
    record { seat = found.0.seat; session = at.session; work = at.work; sealed = at.stand }

-- all below a place that was gathered is decided
none_below : (sound : Rows → Type 0) (v : View) (log : Log) (stamp : ℕ) → IsLogOf v log → IsLog sound log → stamp < gathered_to log → IsPendingAt v stamp → ⊥
none_below sound v log stamp of is low p =
    let u : Undecided = record { seat = p.seat; claims = map (λ w. w.oid) p.work.claims } in
    let at : log.undecided stamp ≡ Some u = (of.undecided stamp u).1 (record { session = p.session; work = p.work; stand = p.sealed; claims = refl }) in
    let no : None ≡ Some u = sym (is.decided stamp low) ∙ at in
    absurd (cc)

pub decided_to : (sound : Rows → Type 0) (v : View) (log : Log) → IsLogOf v log → IsLog sound log → IsStop log log.flushed → IsDecidedTo v log.flushed
decided_to sound v log of is stops = record {
  stop = by stops;
  least = λ stamp p. least stamp p (either stamp log.flushed);
}
  where
    by : IsStop log log.flushed → (log.flushed ≡ v.tail) ⊎ IsPendingAt v log.flushed
    by (inl ends) = inl (ends ∙ of.tail)
    by (inr busy) = inr (pending v log log.flushed of busy)

    either : (a b : ℕ) → (a < b) ⊎ (b ≤ a)
    either a b = grind arith

    least : (stamp : ℕ) → IsPendingAt v stamp → (stamp < log.flushed) ⊎ (log.flushed ≤ stamp) → log.flushed ≤ stamp
    least stamp p (inl low) = absurd (none_below sound v log stamp of is (let within = flushed_within sound log is in omega (arith, low, within)) p)
    least stamp p (inr high) = high

module _ (v t : View) (keeps : KeepsSessions v t) where
  there : (seat : ℕ) → IsSession t seat → IsSession v seat
  there seat session = subst (λ (o : Opening). (0 < seat) × (seat ≤ o.sessions)) keeps.opening session

  here : (seat : ℕ) → IsSession v seat → IsSession t seat
  here seat session = subst (λ (o : Opening). (0 < seat) × (seat ≤ o.sessions)) (sym keeps.opening) session

  pub pending_before : (stamp : ℕ) → IsPendingAt t stamp → IsPendingAt v stamp
  pending_before stamp p =
      let session = there p.seat p.session in
      record { seat = p.seat; session = session; work = p.work; sealed = ap (λ (s : Session). s.stand) (sym (keeps.session p.seat session)) ∙ p.sealed }

  pending_after : (stamp : ℕ) → IsPendingAt v stamp → IsPendingAt t stamp
  pending_after stamp p = record { seat = p.seat; session = here p.seat p.session; work = p.work; sealed = ap (λ (s : Session). s.stand) (keeps.session p.seat p.session) ∙ p.sealed }

  -- what was decided before was
  pub decided_before : (place : ℕ) → IsDecidedTo t place → IsDecidedTo v place
  decided_before place is = record {
    stop = by is.stop;
    least = λ stamp p. is.least stamp (pending_after stamp p);
  }
    where
      by : (place ≡ t.tail) ⊎ IsPendingAt t place → (place ≡ v.tail) ⊎ IsPendingAt v place
      by (inl ends) = inl (ends ∙ keeps.tail)
      by (inr p) = inr (pending_before place p)

  pub flushes_to : (l m : Log) (place : ℕ) → IsLogOf v l → IsLogOf t m → l.flushed ≤ m.flushed → m.flushed ≡ place → FlushesTo v place t
  flushes_to l m place before after goes up = record { flushes = did_flush v t l m before after keeps goes; up = sym after.flushed ∙ up }

module _ (sound : Rows → Type 0) (v t : View) (l m : Log) (before : IsLogOf v l) (after : IsLogOf t m) (is : IsLog sound m) (keeps : KeepsSessions v t) where
  decided_at : (place : ℕ) → m.flushed ≡ place → IsStop m m.flushed → IsDecidedTo v place
  decided_at place up stops = decided_before v t keeps place (subst (IsDecidedTo t) up (decided_to sound t m after is stops))

  pub flushed_did : (place : ℕ) → DidGather l m → m.flushed ≡ place → place ≡ gathered_to m → DidLog v command.Flush (answer.Flushed place) t
  flushed_did place did up all = (
    flushes_to v t keeps l m place before after did.goes_on.further up,
    (let above = did.above in let flushed = before.flushed in omega (arith, above, flushed, all)),
    decided_at place up (subst (IsStop m) (sym (up ∙ all)) did.stops),
  )

  pub empty_did : (place : ℕ) → m ≡ l → place ≡ l.flushed → l.tail ≡ l.flushed → DidLog v command.Flush (answer.Empty place) t
  empty_did place same at ends = (
    flushes_to v t keeps l m place before after (let e = ap (λ (x : Log). x.flushed) same in omega (arith, e)) (ap (λ (x : Log). x.flushed) same ∙ sym at),
    at ∙ before.flushed,
    at ∙ sym ends ∙ before.tail,
  )

  pub unfilled_did : (place : ℕ) → m ≡ l → place ≡ l.flushed → is_some (l.undecided l.flushed) ≡ true → DidLog v command.Flush (answer.Unfilled place) t
  unfilled_did place same at busy = (
    flushes_to v t keeps l m place before after (let e = ap (λ (x : Log). x.flushed) same in omega (arith, e)) (ap (λ (x : Log). x.flushed) same ∙ sym at),
    at ∙ before.flushed,
    subst (IsPendingAt v) (sym at) (pending v l l.flushed before busy),
    decided_at place (ap (λ (x : Log). x.flushed) same ∙ sym at) (inr (subst (λ (x : Log). is_some (x.undecided x.flushed) ≡ true) (sym same) busy)),
  )

  -- CHECKPOINT.
  pub checkpointed_did : (place : ℕ) → GoesOnTo l m → m.tail ≡ place → m.flushed ≡ place → DidLog v command.Checkpoint (answer.Checkpointed place) t
  checkpointed_did place goes ends up = (
    flushes_to v t keeps l m place before after goes.further up,
    sym ends ∙ after.tail ∙ keeps.tail,
    decided_at place up (inl (up ∙ sym ends)),
  )

  pub unfinished_did : (place : ℕ) → l.flushed ≤ m.flushed → m.flushed ≡ place → is_some (m.undecided place) ≡ true → DidLog v command.Checkpoint (answer.Unfilled place) t
  unfinished_did place goes up busy = (
    flushes_to v t keeps l m place before after goes up,
    pending_before v t keeps place (pending t m place after busy),
    decided_at place up (inr (subst (λ (n : ℕ). is_some (m.undecided n) ≡ true) (sym up) busy)),
  )

flushes_behind : (v u t : View) (place : ℕ) → DidFlush v u → FlushesTo u place t → FlushesTo v place t
flushes_behind v u t place first did = record { flushes = flushed_then v u t first did.flushes; up = did.up }

-- where all of the log was flushed, nothing is left to decide
pub all_decided : (v t : View) (l m : Log) → IsLogOf v l → IsLogOf t m → KeepsSessions v t → l.flushed ≡ l.tail → GoesOnTo l m → (place : ℕ) → m.flushed ≡ place → place < m.tail → ⊥
all_decided v t l m before after keeps ends goes place up low =
    let old = before.tail in
    let new = after.tail in
    let same = keeps.tail in
    let further = goes.further in
    omega (arith, ends, old, new, same, further, up, low)

-- a checkpoint behind a flush
pub checkpoint_behind : (v u t : View) → DidFlush v u → KeepsSessions v u → (a : Answer) → DidLog u command.Checkpoint a t → DidLog v command.Checkpoint a t
checkpoint_behind v u t first keeps (answer.Checkpointed place) did = (flushes_behind v u t place first did.0, did.1 ∙ keeps.tail, decided_before v u keeps place did.2)
checkpoint_behind v u t first keeps (answer.Unfilled place) did = (flushes_behind v u t place first did.0, pending_before v u keeps place did.1, decided_before v u keeps place did.2)
checkpoint_behind v u t first keeps a did = absurd did

-- a row that isn't known yet is that of a transaction below the log's end, which isn't decided; where all is flushed there is none
pub none_waits : (sound : Rows → Type 0) (m : Log) (oid : ℕ) (wait : SeatWait) → IsLog sound m → m.flushed ≡ m.tail → IsWait (pinned_at_end m) oid wait → ⊥
none_waits sound m oid wait is up w =
    let low : wait.seen < m.tail = w.below in
    let within = flushed_within sound m is in
    let no : None ≡ Some w.by = sym (is.decided wait.seen (omega (arith, low, within, up))) ∙ w.undecided in
    absurd (cc)
