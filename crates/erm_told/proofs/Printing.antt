-- A stamp that a refusal prints, that of a session waited for or of a newer commit, lies below the end of the log.
use Rattle.std.proofs.Common.{◌≡◌, ◌≢◌, ℕ, ◌<◌, ◌≤◌, Option, Some, None, refl, sym, ap, ◌∙◌, inl, inr, subst, arith}
use Rattle.erm_model.specs.RowTransaction.{Asked, asked_claim, asked_make, asked_read}
use Rattle.erm_model.specs.declared.history.TransactionRecord.{TransactionRecord}
use Rattle.erm_model.specs.declared.row_stop.RowStop.{RowStop}
use Rattle.erm_model.specs.declared.row_stop.RowStop.TheVariants as stop
use Rattle.erm_model.specs.Member.{◌∈◌}
use Rattle.erm_node.specs.Sound.{sound_law}
use Rattle.erm_report.specs.declared.answer.Answer.{Answer}
use Rattle.erm_world.specs.Calls.{DidNotSettle, IsAhead, IsDone, IsInTheWay, IsNewer, IsSealedBelow, has_read, overwrites}
use Rattle.erm_world.specs.declared.stops.Wait.TheVariants as wait
use Rattle.erm_world.specs.Face.{WasRefused}
use Rattle.erm_world.specs.Laws.{IsSerializable}
use Rattle.erm_world.specs.World.{Finished, IsSession, Session, View, Work, history_of, work_at}
use Rattle.erm_world.specs.World as world
use Rattle.erm_world.proofs.Commits.{tells_commits}
use Rattle.erm_good_report.specs.Stamps.{stamp_printed}
use Rattle.erm_lines.specs.Answers.{stop_told}

-- a transaction that is sealed has its stamp below the end
sealed_below : (v t : View) (seat stamp : ℕ) (w : Work) → t ≡ v → IsSerializable sound_law t → IsSession v seat → (v.session seat).stand ≡ world.sealed w stamp → stamp < t.tail
sealed_below v t seat stamp w same lawful session stand =
    (lawful.stamps seat w stamp (subst (λ (x : View). IsSession x seat) (sym same) session)
    (inr (subst (λ (x : View). (x.session seat).stand ≡ world.sealed w stamp) (sym same) stand))).1

ahead_below : (v t : View) (seat oid bound other seen : ℕ) → t ≡ v → IsSerializable sound_law t → IsAhead v seat oid bound other seen → seen < t.tail
ahead_below v t seat oid bound other seen same lawful ahead = sealed_below v t other seen ahead.work same lawful ahead.session ahead.stand

-- and so has a commit of another session
pub committed_below : (v t : View) (seat : ℕ) (by : TransactionRecord) → IsDone v seat (work_at v seat) world.aborts t → IsSerializable sound_law t → by ∈ history_of v → by.seat ≢ seat
    → by.stamp < t.tail
committed_below v t seat by done lawful committed another =
    let commit = (tells_commits v).only by committed in
    let by_seat : by.seat ≡ commit.seat = ap (λ (r : TransactionRecord). r.seat) commit.is in
    let by_stamp : by.stamp ≡ commit.stamp = ap (λ (r : TransactionRecord). r.stamp) commit.is in
    let session : IsSession t commit.seat = subst (λ (o : world.Opening). (0 < commit.seat) × (commit.seat ≤ o.sessions)) (sym done.opening) commit.session in
    let f : Finished = record { work = commit.work; fate = world.commits commit.stamp commit.succ commit.pred } in
    let over : f ∈ (t.session commit.seat).over =
    subst (λ (s : Session). f ∈ s.over) (sym (done.others commit.seat (λ same. another (by_seat ∙ same)))) commit.over in
    let below = (lawful.stamps commit.seat commit.work commit.stamp session (inl (f, over, refl, refl))).1 in
    omega (arith, below, by_stamp)

newer_below : (v t : View) (seat oid stamp : ℕ) → IsDone v seat (work_at v seat) world.aborts t → IsSerializable sound_law t → IsNewer v seat oid stamp → stamp < t.tail
newer_below v t seat oid stamp done lawful newer =
    let below = committed_below v t seat newer.by done lawful newer.committed newer.another in omega (arith, below, newer.stamp_is)

printed_one : (m n : ℕ) → Some m ≡ Some n → m ≡ n
printed_one m n is = cc

module _ (v t : View) (seat : ℕ) (lawful : IsSerializable sound_law t) where
  not_yet_below : (other seen : ℕ) (asked : Asked) → WasRefused v seat asked (stop.NotYet other seen) t → seen < t.tail
  not_yet_below other seen (asked_read oid) refused = ahead_below v t seat oid (work_at v seat).begin other seen refused.0 lawful refused.3
  not_yet_below other seen (asked_claim oid) refused = absurd refused
  not_yet_below other seen asked_make refused = absurd refused

  newer_refused : (stamp : ℕ) (asked : Asked) → WasRefused v seat asked (stop.Newer stamp) t → stamp < t.tail
  newer_refused stamp (asked_read oid) refused = absurd refused
  newer_refused stamp (asked_claim oid) refused = newer_below v t seat oid stamp refused.1 lawful refused.3
  newer_refused stamp asked_make refused = absurd refused

  -- what a refusal prints
  abbrev IsPrintedBelow : Option Answer → Type 0
  IsPrintedBelow None = Unit {0}
  IsPrintedBelow (Some a) = (n : ℕ) → stamp_printed a ≡ Some n → n < t.tail

  refused_below : (asked : Asked) (why : RowStop) → WasRefused v seat asked why t → IsPrintedBelow (stop_told why)
  refused_below asked (stop.NotYet other seen) refused = λ n is. let same = printed_one seen n is in let below = not_yet_below other seen asked refused in omega (arith, below, same)
  refused_below asked (stop.Newer stamp) refused = λ n is. let same = printed_one stamp n is in let below = newer_refused stamp asked refused in omega (arith, below, same)
  refused_below asked stop.ReadsFull refused = λ n is. absurd (cc)
  refused_below asked (stop.Owned other number) refused = λ n is. absurd (cc)
  refused_below asked stop.WritesFull refused = λ n is. absurd (cc)
  refused_below asked (stop.CellsFull drawn) refused = λ n is. absurd (cc)
  refused_below asked (stop.OidsFull drawn) refused = λ n is. absurd (cc)
  refused_below asked (stop.Excluded succ pred) refused = λ n is. absurd (cc)
  refused_below asked stop.Memory refused = tt

  pub refusal_below : (asked : Asked) (why : RowStop) (a : Answer) → stop_told why ≡ Some a → WasRefused v seat asked why t → (n : ℕ) → stamp_printed a ≡ Some n → n < t.tail
  refusal_below asked why a told refused =
      let printed : IsPrintedBelow (Some a) = subst IsPrintedBelow told (refused_below asked why refused) in printed

  -- and the wait of one that was sealed
  in_the_way : (w : Work) (bound other seen : ℕ) → IsInTheWay v seat w bound other seen → (u : Work) × IsSealedBelow v seat bound other seen u
  in_the_way w bound other seen (overwrites before after r split ready may) = (may.work, may.is)
  in_the_way w bound other seen (has_read before after c split reads ready readers may) = (may.work, may.is)

  pub wait_below : (other seen : ℕ) → DidNotSettle v seat (wait.Seat other seen) t → seen < t.tail
  wait_below other seen (same, (w, stamp, stand, (room, way))) =
      let found = in_the_way w stamp other seen way in
      sealed_below v t other seen found.0 same lawful found.1.session found.1.stand
