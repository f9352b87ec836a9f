-- Clients that ran to their end, all of whose log is flushed.
use Rattle.std.proofs.Common.{◌≡◌, ℕ, ◌<◌, ◌++◌, Bool, true, cond, nat_lt, List, [], ◌∷◌, Option, append-nil, inl, refl, sym, ap, ◌∙◌, subst, arith}
use Rattle.std.proofs.lemmas.Bool.Decides.{nat_tests}
use Rattle.erm_block.specs.declared.block.Block.{Block}
use Rattle.erm_ckpt.specs.Recovered.{State}
use Rattle.erm_client.specs.declared.transcript.Transcript.{Transcript}
use Rattle.erm_client.specs.Laws.{TranscriptsAreARun}
use Rattle.erm_client_disk.proofs.Outlive.{StarvedLaws, commits, fronts, stand, states}
use Rattle.erm_client_disk.specs.Laws.{EndedClientsAreDone, HaveEnded}
use Rattle.erm_client_told.specs.Starved.{DidForClient}
use Rattle.erm_client_told.specs.Told.{WholeTranscriptsTellCommits, all_commits}
use Rattle.erm_desk.specs.Known.{flushed_log}
use Rattle.erm_disk_at_once.specs.Desks.{HasLogged}
use Rattle.erm_disk_at_once.specs.Laws.{CommitsAreLeft}
use Rattle.erm_good_report.specs.Opening.{Opening}
use Rattle.erm_joined.specs.Merged.{closes_from}
use Rattle.erm_machine.proofs.Listed.{∈-head}
use Rattle.erm_model.proofs.Members.{∈-behind}
use Rattle.erm_model.specs.Committed.{Committed, IsStateBelow, RunsInOrder, below, rank_of, state_after}
use Rattle.erm_model.specs.Member.{◌∈◌}
use Rattle.erm_model.specs.SerialOrder.{IsSerialOrder}
use Rattle.erm_node.specs.TreeMap.{map_of_rows}
use Rattle.erm_report.specs.declared.answer.Answer.{Answer}
use Rattle.erm_rule.specs.declared.view.Start.{Start}
use Rattle.erm_threads.specs.Work.{DidWork}
use Rattle.erm_told_crash.specs.Logged.{HasCommits}
use Rattle.erm_world.specs.Log.{gathered_to, place_behind}
use Rattle.erm_world.specs.Log as world
use Rattle.erm_world.specs.World.{View}

-- where all commits have their stamps below a bound
all_below : (bound : ℕ) (cs : List Committed) → ((c : Committed) → c ∈ cs → c.stamp < bound) → below bound cs ≡ cs
all_below bound [] less = refl
all_below bound (c ∷ cs) less =
    ap (λ (b : Bool). cond b (c ∷ below bound cs) (below bound cs)) (yes c.stamp bound (less c (∈-head c cs)))
    ∙ ap (λ (ds : List Committed). c ∷ ds) (all_below bound cs (λ d m. less d (∈-behind c cs d m)))
  where
    yes : (m n : ℕ) → m < n → nat_lt m n ≡ true
    yes m n less = grind (arith, nat_tests)

-- THE LOG that the desk knows, all of which is flushed
module _ (o : Start) (blocks : List Block) (f : View) (has : HasLogged o blocks f) (ends : f.flushed ≡ f.tail) (flushed : f.flushed ≡ place_behind o.tail blocks) where
  at : has.log.opened.at ≡ o.tail
  at = ap (λ (s : world.Start). s.at) has.opened

  to : gathered_to has.log ≡ place_behind o.tail blocks
  to = ap (λ (n : ℕ). place_behind n has.log.gathered) at ∙ ap (λ (bs : List Block). place_behind o.tail bs) has.gathered

  tail : has.log.tail ≡ place_behind o.tail blocks
  tail = has.of_view.tail ∙ sym ends ∙ flushed

  -- has the commits that the world's log has
  has_flushed : (told : List Committed) → HasCommits has.log told → HasCommits (flushed_log o blocks) told
  has_flushed told commits = record {
    each = λ b m. commits.each b (subst (λ (bs : List Block). b ∈ bs) (sym has.gathered) m);
    all = λ c m less.
        let found = commits.all c m (subst (λ (n : ℕ). c.stamp < n) (sym to) less) in
        (found.0, subst (λ (bs : List Block). found.0 ∈ bs) has.gathered found.1, found.2);
    within = λ c m. let within = commits.within c m in (let low = within.0 in omega (arith, low, at), let high = within.1 in omega (arith, high, tail));
  }

  -- behind it are all
  within_all : (told : List Committed) → HasCommits has.log told → (c : Committed) → c ∈ told → c.stamp < gathered_to has.log
  within_all told commits c m = let high = (commits.within c m).1 in omega (arith, high, tail, to)

-- Sessions that did their work are sessions of clients.
for_clients : (state : State) (o : Start) (flushed blocks : List Block) (v f : View) (opening : Opening) (all : List Transcript) (closed : List (Option Answer))
    → HaveEnded DidWork state o flushed blocks v f opening all closed → HaveEnded DidForClient state o flushed blocks v f opening all closed
for_clients state o flushed blocks v f opening all closed e = record {
  starts = e.starts;
  view = e.view;
  opened = e.opened;
  from_first = e.from_first;
  few = e.few;
  sessions = e.sessions;
  works = record {
    as_many = e.works.as_many;
    each = λ k lines own end at_p at_a at_c.
        let it = e.works.each k lines own end at_p at_a at_c in
        record { last = it.last; at_end = it.at_end; rests = it.rests; most = it.most; did = inl it.did };
    ends_so = e.works.ends_so;
    beyond = e.works.beyond;
    others = e.works.others;
  };
  logged = e.logged;
  synced = e.synced;
}

-- THE END
module _ (laws : StarvedLaws) (state : State) (o : Start) (flushed blocks : List Block) (v f : View) (opening : Opening) (all : List Transcript) (closed : List (Option Answer))
    (e : HaveEnded DidForClient state o flushed blocks v f opening all closed) (ends : f.flushed ≡ f.tail) (synced : f.flushed ≡ place_behind o.tail blocks) where
  -- there is a serial order of all commits
  ordered : (order : List Committed) × IsSerialOrder rank_of (all_commits all) order
  ordered =
      let is : IsStateBelow (all_commits all) opening.map (gathered_to e.logged.log) _ =
      states laws state o flushed blocks v f opening all closed e e.logged.log.gathered [] (sym (append-nil e.logged.log.gathered)) in (
        is.order,
        subst (λ (cs : List Committed). IsSerialOrder rank_of cs is.order)
            (all_below (gathered_to e.logged.log) (all_commits all) (within_all o blocks f e.logged ends synced (all_commits all) (commits laws state o flushed blocks v f opening all closed e))) is.serial,
      )

  -- by which they run
  runs : RunsInOrder ordered.0 (map_of_rows state.rows) (state_after ordered.0 (map_of_rows state.rows))
  runs = fronts laws state o flushed blocks v f opening all closed e (gathered_to e.logged.log) ordered.0
      (subst (λ (cs : List Committed). IsSerialOrder rank_of cs ordered.0)
      (sym (all_below (gathered_to e.logged.log) (all_commits all) (within_all o blocks f e.logged ends synced (all_commits all) (commits laws state o flushed blocks v f opening all closed e)))) ordered.1)

  logged : HasCommits (flushed_log o blocks) (all_commits all)
  logged = has_flushed o blocks f e.logged ends synced (all_commits all) (commits laws state o flushed blocks v f opening all closed e)

pub done : CommitsAreLeft → TranscriptsAreARun → WholeTranscriptsTellCommits → StarvedLaws → EndedClientsAreDone
done left a_run whole laws state slots o before mid faults d has sound v f opening all closed e opened complete ends =
    let blocks = has.desk.blocks in
    let none : has.desk.blocks ++ has.desk.tried ≡ blocks = ap (λ (bs : List Block). blocks ++ bs) (has.desk.holds sound).0 ∙ append-nil blocks in
    let all_did : HaveEnded DidWork state o blocks blocks v f opening all closed = subst (λ (bs : List Block). HaveEnded DidWork state o blocks bs v f opening all closed) none e in
    let e = for_clients state o blocks blocks v f opening all closed all_did in
    let order = ordered laws state o blocks blocks v f opening all closed e ends e.synced in
    let run = a_run v f all closed e.opened e.from_first e.few e.sessions.0 all_did.works complete in
    record {
      v = v;
      f = f;
      opening = opening;
      starts = e.starts;
      view = e.view;
      sessions = e.sessions;
      run = run;
      commits = whole v f all (closes_from 1 closed) e.from_first opened e.sessions.0 run;
      order = order.0;
      serial = order.1;
      runs = runs laws state o blocks blocks v f opening all closed e ends e.synced;
      leaves = left state slots o before mid faults d has sound (all_commits all) (stand laws state o blocks blocks v f opening all closed e has.table) order.0
          (state_after order.0 (map_of_rows state.rows)) order.1 (runs laws state o blocks blocks v f opening all closed e ends e.synced)
          (logged laws state o blocks blocks v f opening all closed e ends e.synced);
    }
