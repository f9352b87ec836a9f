-- For whom a settle waits, seen from an earlier moment of it.
use Rattle.std.specs.Int.{bit_at}
use Rattle.std.proofs.Common.{◌≡◌, ℕ, ◌<◌, ◌⊎◌, ⊎_elim, true, false, length, sym, ap, ◌∙◌, subst, inl, inr}
use Rattle.erm_machine.specs.declared.part.Part.{Part}
use Rattle.erm_machine.specs.declared.task.Task.TheVariants as task
use Rattle.erm_machine.specs.declared.version.VersionAt.{VersionAt}
use Rattle.erm_machine.specs.Core.{claim_at, version_at}
use Rattle.erm_machine.specs.Seat.{is_sealed, read_at}
use Rattle.erm_machine.specs.Words.{head_of, is_clear, owner_of}
use Rattle.erm_rule.specs.declared.view.View.{View}
use Rattle.erm_rule.specs.Views.{part_of}
use Rattle.erm_seats.specs.Calls.{FindsState}
use Rattle.erm_precommit.specs.declared.answer.SeatWait.{SeatWait}
use Rattle.erm_precommit.specs.Settle.{HasRead, IsSealedBelow, OwnsRead, StopsAt, task_of, version_overwritten, version_read, WaitsForOwner, WaitsForReader, WaitsForSeat, WentOn}
use Rattle.erm_precommit.proofs.Standing.{part_is, then_on}

module _ (v : View) (who : ℕ) (sealed : is_sealed (part_of v who).place ≡ true) (u : View) (on : WentOn v who u) where
  read_same : (place : ℕ) → version_read u who place ≡ version_read v who place
  read_same place = ap (λ (z : Part). (read_at z.current place).version) (part_is v who sealed u on)

  claim_same : (place : ℕ) → version_overwritten u who place ≡ version_overwritten v who place
  claim_same place = ap (λ (z : Part). (claim_at z.current place).version) (part_is v who sealed u on)

  owner_since : (place seat : ℕ) → OwnsRead u who place seat → OwnsRead v who place seat
  owner_since place seat o = record {
    within = subst (λ (z : Part). place < length z.current.reads) (part_is v who sealed u on) o.within;
    came = o.came;
    went = then_on v who sealed u o.came on o.went;
    core = o.core;
    sound = o.sound;
    is_view = o.is_view;
    head_is = subst (λ (n : VersionAt). head_of (o.core.shared.objects n.oid).entry ≡ n.cell) (read_same place) o.head_is;
    owner_is = subst (λ (n : VersionAt). owner_of (o.core.shared.objects n.oid).entry ≡ seat) (read_same place) o.owner_is;
  }

  reader_since : (place seat : ℕ) → HasRead u who place seat → HasRead v who place seat
  reader_since place seat o = record {
    within = subst (λ (z : Part). place < length z.current.writes) (part_is v who sealed u on) o.within;
    came = o.came;
    went = then_on v who sealed u o.came on o.went;
    core = o.core;
    sound = o.sound;
    is_view = o.is_view;
    bit_is = subst (λ (n : VersionAt). bit_at (version_at (o.core.shared.objects n.oid) n.place).words.readers seat ≡ 1) (claim_same place) o.bit_is;
  }

  clear_since : (seen : ℕ) → is_clear seen (part_of u who).current.stamp ≡ false → is_clear seen (part_of v who).current.stamp ≡ false
  clear_since seen h = subst (λ (z : Part). is_clear seen z.current.stamp ≡ false) (part_is v who sealed u on) h

  -- what a later part of the settle waits for
  pub waits_since : (seat seen : ℕ) (w : View) → WaitsForSeat u who seat seen w → WaitsForSeat v who seat seen w
  waits_since seat seen w h = record {
    another = h.another;
    cause = ⊎_elim
        (λ (o : WaitsForOwner u who seat w). inl (record { place = o.place; owns = owner_since o.place seat o.owns; at = o.at }))
        (λ (o : WaitsForReader u who seat w). inr (record { place = o.place; bits = o.bits; has = reader_since o.place seat o.has; at = o.at; left = o.left })) h.cause;
    finds = h.finds;
    unclear = clear_since seen h.unclear;
  }

  -- a look stopped the settle, at a seat for which it has a cause to wait
  stopped : (seat seen : ℕ) (w : View) → WaitsForOwner v who seat w ⊎ WaitsForReader v who seat w → IsSealedBelow u who seat seen w → WaitsForSeat v who seat seen w
  stopped seat seen w cause h = record {
    another = h.another;
    cause = cause;
    finds = subst (λ (t : View). FindsState t seat seen) (sym h.same) h.finds;
    unclear = clear_since seen h.unclear;
  }

  pub stopped_by_owner : (place other : ℕ) (wait : SeatWait) (w : View) → OwnsRead v who place other → task_of u who ≡ task.ReadOwned place other → StopsAt u who other wait w
      → WaitsForSeat v who wait.seat wait.seen w
  stopped_by_owner place other wait w o at stop =
      let cause : WaitsForOwner v who other w = record { place = place; owns = o; at = ap (λ (t : View). task_of t who) stop.1.same ∙ at } in
      stopped wait.seat wait.seen w (inl (subst (λ (q : ℕ). WaitsForOwner v who q w) (sym stop.0) cause)) stop.1

  pub stopped_by_reader : (place bits other : ℕ) (wait : SeatWait) (w : View) → HasRead v who place other → task_of u who ≡ task.ReadersLeft place bits → bit_at bits other ≡ 1
      → StopsAt u who other wait w → WaitsForSeat v who wait.seat wait.seen w
  stopped_by_reader place bits other wait w o at left stop =
      let cause : WaitsForReader v who other w = record { place = place; bits = bits; has = o; at = ap (λ (t : View). task_of t who) stop.1.same ∙ at; left = left } in
      stopped wait.seat wait.seen w (inr (subst (λ (q : ℕ). WaitsForReader v who q w) (sym stop.0) cause)) stop.1
