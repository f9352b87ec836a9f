-- What a refusal says of the other sessions stays so, in each world in which all may end.
use Rattle.std.specs.List.{list_any}
use Rattle.std.proofs.Common.{◌≡◌, ℕ, ◌<◌, ◌≤◌, ◌||◌, ◌==◌, Bool, true, false, List, [], ◌∷◌, ◌++◌, map, refl, sym, ap, ◌∙◌, subst, inl, inr, arith, Result, Ok, Err, IfErr}
use Rattle.erm_model.specs.declared.history.TransactionRecord.{TransactionRecord}
use Rattle.erm_model.specs.declared.history.VersionWritten.{VersionWritten}
use Rattle.erm_model.specs.declared.row_stop.RowStop.{RowStop}
use Rattle.erm_model.specs.declared.row_stop.RowStop.TheVariants as stop
use Rattle.erm_model.specs.Member.{◌∈◌}
use Rattle.erm_model.specs.RowTransaction.{Asked, Law, asked_claim, asked_make, asked_read}
use Rattle.erm_world.specs.Calls.{AreAllDrawn, AreAllMade, IsDone, IsNewer, IsOwned, IsShut}
use Rattle.erm_world.specs.Face.{WasRefused}
use Rattle.erm_world.specs.Going.{Extends, found_by}
use Rattle.erm_world.specs.Laws.{IsCommitOf, IsSerializable, TellsCommits}
use Rattle.erm_world.specs.Works.{claiming, is_claimed, reading}
use Rattle.erm_world.specs.World.{Finished, Has, HasStamp, IsCurrent, IsSession, Opening, Session, View, Work, history_of, work_at}
use Rattle.erm_world.specs.World as world
use Rattle.erm_world.proofs.Lists.{∈-after, ∈-before}
use Rattle.erm_beside.specs.Ends.{Aborted, MetBeside, WasNewer, WasOwned}
use Rattle.erm_beside.specs.Later.{WentOn}
use Rattle.erm_lone.specs.Later.{EndsIn, IsLaterWorld}
use Rattle.erm_lone.proofs.Later.{claims_up, made_up, world_then}

-- THE CLAIMS of a transaction that went on
abbrev names : ℕ → ℕ × ℕ × List ℕ → Bool
names oid found = found.0 == oid

claimed_found : (cs : List VersionWritten) (oid : ℕ) → is_claimed cs oid ≡ list_any (names oid) (map found_by cs)
claimed_found [] oid = refl
claimed_found (c ∷ cs) oid = ap (λ (rest : Bool). (c.oid == oid) || rest) (claimed_found cs oid)

either_way : (b rest more : Bool) → (rest ≡ true → more ≡ true) → (b || rest) ≡ true → (b || more) ≡ true
either_way true rest more gives is = refl
either_way false rest more gives is = gives is

any_before : (xs ys : List (ℕ × ℕ × List ℕ)) (oid : ℕ) → list_any (names oid) xs ≡ true → list_any (names oid) (xs ++ ys) ≡ true
any_before [] ys oid any = cc
any_before (x ∷ xs) ys oid any = either_way (names oid x) (list_any (names oid) xs) (list_any (names oid) (xs ++ ys)) (any_before xs ys oid) any

pub claimed_still : (w u : Work) (oid : ℕ) → Extends w u → is_claimed w.claims oid ≡ true → is_claimed u.claims oid ≡ true
claimed_still w u oid goes claimed =
    claimed_found u.claims oid ∙ ap (λ (list : List (ℕ × ℕ × List ℕ)). list_any (names oid) list) goes.claims
    ∙ any_before (map found_by w.claims) goes.claimed oid (sym (claimed_found w.claims oid) ∙ claimed)

-- IN THE END.
module _ (tells : (u : View) → TellsCommits u) (v f : View) (later : IsLaterWorld v f) where
  still_session : (q : ℕ) → IsSession v q → IsSession f q
  still_session q session = (session.0, subst (λ (o : Opening). q ≤ o.sessions) (sym later.opening) session.1)

  -- a transaction in progress is one of the session's
  has_later : (q : ℕ) (w : Work) → IsCurrent (v.session q).stand w → (u : Work) × Has f q u × Extends w u
  has_later q w now = from ((later.session q).current w now)
    where
      from : WentOn w (later.session q).more (f.session q).stand → (u : Work) × Has f q u × Extends w u
      from (u, goes, inl (fate, m)) =
          (u, inl (record { work = u; fate = fate }, subst (λ (fs : List Finished). record { work = u; fate = fate } ∈ fs) (sym (later.session q).over) (∈-after (v.session q).over (later.session q).more (record { work = u; fate = fate }) m), refl), goes)
      from (u, goes, inr at) = (u, inr at, goes)

  pub owned_later : (law : Law) (seat oid other number own place : ℕ) → IsSerializable law v → v.tail ≤ place → IsOwned v seat oid other number → WasOwned f seat oid other number own place
  owned_later law seat oid other number own place lawful up owned =
      let (u, has, goes) = has_later other owned.work owned.current in record {
        session = still_session other owned.session;
        another = owned.another;
        work = u;
        has = has;
        number_is = goes.number ∙ owned.number_is;
        tried = inl (claimed_still owned.work u oid goes owned.claims);
        begun = inl (omega (arith, goes.begin, (lawful.begins other owned.work owned.session (inr owned.current)).1, up));
      }

  -- what is committed stays so
  pub committed_later : (r : TransactionRecord) → r ∈ history_of v → r ∈ history_of f
  committed_later r m =
      let one : IsCommitOf v r = (tells v).only r m in
      (tells f).each r (record {
        seat = one.seat;
        session = still_session one.seat one.session;
        work = one.work;
        stamp = one.stamp;
        succ = one.succ;
        pred = one.pred;
        over = subst (λ (fs : List Finished). record { work = one.work; fate = world.commits one.stamp one.succ one.pred } ∈ fs) (sym (later.session one.seat).over)
            (∈-before (v.session one.seat).over (later.session one.seat).more (record { work = one.work; fate = world.commits one.stamp one.succ one.pred }) one.over);
        is = one.is;
      })

  pub stamp_below : (law : Law) (r : TransactionRecord) → IsSerializable law v → r ∈ history_of v → r.stamp < v.tail
  stamp_below law r lawful m =
      let one : IsCommitOf v r = (tells v).only r m in
      let g : Finished = record { work = one.work; fate = world.commits one.stamp one.succ one.pred } in
      let has : HasStamp v one.seat one.work one.stamp = inl (g, one.over, refl, refl) in
      omega (arith, (lawful.stamps one.seat one.work one.stamp one.session has).1, ap (λ (t : TransactionRecord). t.stamp) one.is)

  pub newer_later : (law : Law) (seat oid stamp : ℕ) → IsSerializable law v → IsNewer v seat oid stamp → WasNewer f seat (work_at v seat).begin oid stamp × (stamp < v.tail)
  newer_later law seat oid stamp lawful newer = (
    record { by = newer.by; committed = committed_later newer.by newer.committed; another = newer.another; stamp_is = newer.stamp_is; makes = newer.makes; above = newer.above },
    omega (arith, stamp_below law newer.by lawful newer.committed, newer.stamp_is),
  )

  pub drawn_later : AreAllDrawn v → AreAllDrawn f
  drawn_later drawn =
      let up = claims_up v.opening.sessions v.session f.session (λ q. (later.session q).claims) in
      omega (arith, drawn, up, ap (λ (o : Opening). o.cells) later.opening, ap (λ (o : Opening). world.claims_upto o.sessions f.session) later.opening)

  pub all_made_later : AreAllMade v → AreAllMade f
  all_made_later made x above below =
      let up = made_up v.opening.sessions v.session f.session x (λ q. (later.session q).made x) in
      omega (arith, made x (omega (arith, above, ap (λ (o : Opening). o.first) later.opening)) below, up, ap (λ (o : Opening). world.made_upto o.sessions f.session x) later.opening)

  pub shut_later : (law : Law) (seat : ℕ) (w : Work) (succ pred : ℕ) → IsSerializable law v → IsShut v seat w succ pred → IsShut f seat w succ pred × (pred < v.tail)
  shut_later law seat w succ pred lawful shut = (
    record {
      over = shut.over;
      over_committed = committed_later shut.over shut.over_committed;
      overwrites = shut.overwrites;
      succ_is = shut.succ_is;
      before = shut.before;
      before_committed = committed_later shut.before shut.before_committed;
      counts = shut.counts;
      pred_is = shut.pred_is;
      closed = shut.closed;
    },
    omega (arith, stamp_below law shut.before lawful shut.before_committed, shut.pred_is),
  )

-- the transaction that has ended is the last one that is over
last_of : (xs ys : List Finished) (a b : Finished) → xs ++ a ∷ [] ≡ ys ++ b ∷ [] → a ≡ b
last_of [] [] a b is = cc
last_of [] (y ∷ []) a b is = cc
last_of [] (y ∷ z ∷ ys) a b is = cc
last_of (x ∷ []) [] a b is = cc
last_of (x ∷ z ∷ xs) [] a b is = cc
last_of (x ∷ xs) (y ∷ ys) a b is = last_of xs ys a b (the_rest is)
  where
    the_rest : x ∷ (xs ++ a ∷ []) ≡ y ∷ (ys ++ b ∷ []) → xs ++ a ∷ [] ≡ ys ++ b ∷ []
    the_rest same = cc

ended_with : (v t : View) (seat : ℕ) (u w : Work) → IsDone v seat u world.aborts t → Aborted t seat w → u ≡ w
ended_with v t seat u w done (front, over) =
    ap (λ (g : Finished). g.work)
    (last_of (v.session seat).over front (record { work = u; fate = world.aborts }) (record { work = w; fate = world.aborts })
    (sym (ap (λ (s : Session). s.over) done.own) ∙ over))

-- THE REFUSALS
module _ (tells : (u : View) → TellsCommits u) (law : Law) (v t f : View) (seat : ℕ) (lawful : IsSerializable law v) (later : IsLaterWorld v f) where
  met_claim : (oid : ℕ) (why : RowStop) → WasRefused v seat (asked_claim oid) why t → MetBeside f seat (asked_claim oid) why v t
  met_claim oid (stop.NotYet other seen) did = tt
  met_claim oid stop.ReadsFull did = tt
  met_claim oid (stop.Owned other number) did = owned_later tells v f later law seat oid other number (work_at v seat).number t.tail lawful (omega (arith, did.1.tail)) did.2
  met_claim oid (stop.Newer stamp) did =
      let newer = newer_later tells v f later law seat oid stamp lawful did.3 in (newer.0, omega (arith, newer.1, did.1.tail))
  met_claim oid stop.WritesFull did = tt
  met_claim oid (stop.CellsFull drawn) did =
      let cells : f.opening.cells ≡ v.opening.cells = ap (λ (o : Opening). o.cells) later.opening in
      ((omega (arith, did.4.0, cells), omega (arith, did.4.1, cells)), drawn_later tells v f later did.5)
  met_claim oid (stop.OidsFull drawn) did = tt
  met_claim oid (stop.Excluded succ pred) (may, unowned, current, (c, at, done, shut)) =
      let ended = shut_later tells v f later law seat (claiming c (work_at v seat)) succ pred lawful shut in (
        omega (arith, ended.1, done.tail),
        λ w aborted. subst (λ (x : Work). IsShut f seat x succ pred) (ended_with v t seat (claiming c (work_at v seat)) w done aborted) ended.0,
      )
  met_claim oid stop.Memory did = tt

  met_read : (oid : ℕ) (why : RowStop) → WasRefused v seat (asked_read oid) why t → MetBeside f seat (asked_read oid) why v t
  met_read oid (stop.NotYet other seen) did = tt
  met_read oid stop.ReadsFull did = tt
  met_read oid (stop.Owned other number) did = absurd did
  met_read oid (stop.Newer stamp) did = absurd did
  met_read oid stop.WritesFull did = tt
  met_read oid (stop.CellsFull drawn) did = absurd did
  met_read oid (stop.OidsFull drawn) did = tt
  met_read oid (stop.Excluded succ pred) (new, few, clear, (r, at, done, shut)) =
      let ended = shut_later tells v f later law seat (reading r (work_at v seat)) succ pred lawful shut in (
        omega (arith, ended.1, done.tail),
        λ w aborted. subst (λ (x : Work). IsShut f seat x succ pred) (ended_with v t seat (reading r (work_at v seat)) w done aborted) ended.0,
      )
  met_read oid stop.Memory did = tt

  met_make : (why : RowStop) → WasRefused v seat asked_make why t → MetBeside f seat asked_make why v t
  met_make (stop.OidsFull drawn) did = all_made_later tells v f later did.2
  met_make why did = tt

  pub met : (asked : Asked) (why : RowStop) → WasRefused v seat asked why t → MetBeside f seat asked why v t
  met (asked_read oid) why did = met_read oid why did
  met (asked_claim oid) why did = met_claim oid why did
  met asked_make why did = met_make why did

-- of what a call returned
pub met_err : {X : Type 0} (r : Result X RowStop) (tells : (u : View) → TellsCommits u) (law : Law) (v t : View) (seat : ℕ) (asked : Asked) → IsSerializable law v → IsLaterWorld v t
    → IfErr r (λ why. WasRefused v seat asked why t) → IfErr r (λ why. (f : View) → EndsIn law t seat f → MetBeside f seat asked why v t)
met_err (Ok x) tells law v t seat asked lawful went was = tt
met_err (Err why) tells law v t seat asked lawful went was = λ f end. met tells law v t f seat lawful (world_then v t f went end.1) asked why was
