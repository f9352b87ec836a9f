-- The snapshots that ended run among the commits told.
use Rattle.std.proofs.Common.{◌≡◌, ℕ, ◌<◌, ◌≤◌, Bool, true, false, if◌then◌else◌, List, [], ◌∷◌, ◌++◌, Option, Some, None, IfSome, option_map, filter_map, refl, ap, ◌∙◌, subst, inl, ⊎_elim, arith}
use Rattle.std.specs.List.{cons_option}
use Rattle.erm_model.specs.declared.limits.TheConstants.{LAST_NUMBER, LOG_END, SESSIONS}
use Rattle.erm_model.specs.Committed.{Committed, RunsInOrder, rank_of, state_after}
use Rattle.erm_model.specs.Database.{Database}
use Rattle.erm_model.specs.Member.{◌∈◌}
use Rattle.erm_model.specs.SerialOrder.{IsSerialOrder}
use Rattle.erm_model.proofs.Members.{none_in_nil, ∈-behind}
use Rattle.erm_machine.proofs.Listed.{∈-cons, ∈-first, ∈-head, ∈-map}
use Rattle.erm_safe_laws.specs.Safe.{AreCommits, IsSafeSnapshot}
use Rattle.erm_world.specs.World.{IsSession, View}
use Rattle.erm_world.specs.World as world
use Rattle.erm_maps.specs.Runs.{told_commit, told_commits}
use Rattle.erm_good_report.specs.Transactions.{Said, Snapshot, ended_as, ended_of, history_of, placed_at, progress_of, rank_stamp}
use Rattle.erm_told.proofs.Reported.{ended_at}
use Rattle.erm_told_order.specs.Told.{IsTold, ToldAreSerial, ToldAreSerialWithSnapshots, ToldHaveSafeSnapshots, told_in}
use Rattle.erm_told_order.proofs.Orders.{commits_told}
use Rattle.erm_told_order.proofs.Places.{stands_at, told_by}
use Rattle.std.specs.Option.{option_to_list}

abbrev pub RunAmong : Type 0
RunAmong = (commits safes serial order : List Committed) (opening m : Database) (limit : ℕ)
    → AreCommits commits limit
    → ((s : Committed) → s ∈ safes → IsSafeSnapshot commits opening limit s)
    → IsSerialOrder rank_of commits serial → RunsInOrder serial opening m
    → IsSerialOrder rank_of (commits ++ safes) order → RunsInOrder order opening m

-- a snapshot that ended, as the serial order has it
record HasEnded (seat : ℕ) (ss : List Snapshot) (c : Committed) : Type 0 where
  own : Snapshot
  begin : ℕ
  of : own ∈ ss
  told : own.begin ≡ Some begin
  is : placed_at seat own begin ≡ c

the_one : (x y : Committed) → Some x ≡ Some y → x ≡ y
the_one x y is = cc

ended_is : (seat : ℕ) (ss : List Snapshot) (s : Snapshot) (c : Committed) → s ∈ ss → ended_as seat s ≡ Some c → HasEnded seat ss c
ended_is seat ss s c m is = by_place s.placed s.begin refl is
  where
    by_place : (b : Bool) (o : Option ℕ) → s.begin ≡ o → (if b then option_map (placed_at seat s) o else None) ≡ Some c → HasEnded seat ss c
    by_place false o at is = absurd (let no : None ≡ Some c = is in cc)
    by_place true None at is = absurd (let no : None ≡ Some c = is in cc)
    by_place true (Some begin) at is = record { own = s; begin = begin; of = m; told = at; is = the_one (placed_at seat s begin) c is }

ended_in : (seat : ℕ) (ss : List Snapshot) (c : Committed) → c ∈ filter_map (ended_as seat) ss → HasEnded seat ss c
ended_in seat [] c m = absurd (none_in_nil c m)
ended_in seat (s ∷ ss) c m = by_one (λ there. ended_in seat ss c there) (ended_as seat s) refl m
  where
    later : HasEnded seat ss c → HasEnded seat (s ∷ ss) c
    later found = record { own = found.own; begin = found.begin; of = ∈-behind s ss found.own found.of; told = found.told; is = found.is }

    by_one : (c ∈ filter_map (ended_as seat) ss → HasEnded seat ss c) → (o : Option Committed) → ended_as seat s ≡ o → c ∈ cons_option o (filter_map (ended_as seat) ss) → HasEnded seat (s ∷ ss) c
    by_one rest None at m = later (rest m)
    by_one rest (Some d) at m =
        ⊎_elim (λ (here : d ≡ c). ended_is seat (s ∷ ss) s c (∈-head s ss) (at ∙ ap (λ (x : Committed). Some x) here))
        (λ (there : c ∈ filter_map (ended_as seat) ss). later (rest there))
        (∈-cons c d (filter_map (ended_as seat) ss) m)

-- its stamp lies above the log
above_log : (seat number : ℕ) → seat ≤ SESSIONS → number ≤ LAST_NUMBER → LOG_END ≤ rank_stamp seat number
above_log seat number few most = omega (arith, few, most)

module _ (f : View) (said : List Said) (told : IsTold f said) where
  abbrev commits_in : List Committed
  commits_in = history_of (told_in f said)

  are_commits : ((c : Committed) → c ∈ commits_in → c.stamp < LOG_END) → AreCommits commits_in LOG_END
  are_commits below = record {
    below = below;
    succ = λ c m.
        let progress = λ (seat : ℕ). progress_of seat said in
        let in_world : c ∈ told_commits (told_by progress) (world.history_of f) =
        subst (λ (cs : List Committed). c ∈ cs) (commits_told f progress told.serializable told.tells) m in
        let from = ∈-map (told_commit (told_by progress)) (world.history_of f) c in_world in
        let own = (told.serializable.certified.succ from.0 from.1).at_most_own in
        omega (arith, own, ap (λ (x : Committed). x.stamp) from.2, ap (λ (x : Committed). x.succ) from.2);
  }

  begins_above : (seat : ℕ) → IsSession f seat → (s : Snapshot) (begin : ℕ) → s ∈ (progress_of seat said).snapshots → s.begin ≡ Some begin → 0 < begin
  begins_above seat session s begin m is =
      let p = progress_of seat said in
      let found = ended_at seat p.over p.snapshots (f.session seat).over s (told.tells seat session).over m in
      let same : begin ≡ found.0.work.begin = subst (λ (o : Option ℕ). IfSome o (λ stamp. stamp ≡ found.0.work.begin)) is found.2.snapshot.begin_is in
      let above = (told.serializable.begins seat found.0.work session (inl (found.0, found.1, refl))).0 in
      omega (arith, told.serializable.opened, above, same)

pub serial_among : ToldAreSerial → ToldHaveSafeSnapshots → RunAmong → ToldAreSerialWithSnapshots
serial_among serial safe among f said told kept opening same few numbers below commits order own all =
    among (history_of (told_in f said)) (ended_of f.opening.sessions said) commits order opening (state_after commits opening) LOG_END (are_commits f said told below)
    (λ c m.
    let at = stands_at (λ seat. filter_map (ended_as seat) (progress_of seat said).snapshots) 1 f.opening.sessions c m in
    let above = at.above in
    let within = at.below in
    let session : IsSession f at.at = (omega (arith, above), omega (arith, within)) in
    let p = progress_of at.at said in
    let e = ended_in at.at p.snapshots c at.stands in
    let keeps = kept at.at session e.begin e.own (∈-first p.snapshots (option_to_list p.snapshot) e.own e.of) e.told in
    let replied = safe f said told opening same e.begin e.own (begins_above f said told at.at session e.own e.begin e.of e.told) keeps in
    let number = numbers at.at e.own session e.of in
    subst (λ (x : Committed). IsSafeSnapshot (history_of (told_in f said)) opening LOG_END x) e.is (record {
      placed = refl;
      above = above_log at.at e.own.number (omega (arith, within, few)) number;
      safe = replied.safe;
      reads = keeps.reads;
      replies = replied.replies;
    }))
    own (serial f said told opening same commits own) all
