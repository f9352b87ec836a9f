-- One claim of a commit is installed.
use Rattle.std.proofs.Common.{◌≡◌, ℕ, ◌+◌, ◌<◌, true, false, length, Option, Some, None, refl, sym, ap, ◌∙◌, subst, arith}
use Rattle.std.proofs.lemmas.Bool.{eq-eqb, lt-ltb}
use Rattle.erm_machine.specs.declared.attempt.Attempt.{Attempt}
use Rattle.erm_machine.specs.declared.attempt.Claim.{Claim}
use Rattle.erm_machine.specs.declared.attempt.Decision.TheVariants.{Commit}
use Rattle.erm_machine.specs.declared.attempt.OwnCell.{OwnCell}
use Rattle.erm_machine.specs.declared.limits.TheConstants.{OBJECT_LIMIT}
use Rattle.erm_machine.specs.declared.part.Part.{Part}
use Rattle.erm_machine.specs.declared.task.Task.{Task}
use Rattle.erm_machine.specs.declared.task.Task.TheVariants as task
use Rattle.erm_machine.specs.Core.{claim_at, own_words}
use Rattle.erm_machine.specs.Seat.{is_commit, is_decided, is_own, with_claim, with_task}
use Rattle.erm_machine.specs.Settling.{installs}
use Rattle.erm_rule.specs.declared.view.View.{View}
use Rattle.erm_rule.specs.Hands.{IsKnown}
use Rattle.erm_rule.specs.Views.{part_in, part_of, with_part}
use Rattle.erm_rule.proofs.Telling.{held_part, part_of-changed}
use Rattle.erm_cells.specs.Hands.{ended_claim}
use Rattle.erm_cells.specs.Heads.{after_head, DidStoreHead, headed_part, MayStoreHead, with_own_head}
use Rattle.erm_cells.specs.Placed.{place_of}
use Rattle.erm_cells.proofs.Claimed.{claim_again, claim_set, claims_set}
use Rattle.erm_cells.proofs.Placing.{known_place}
use Rattle.erm_cells.proofs.Views.{both}
use Rattle.erm_entries.specs.Ends.{DidInstall, installed_part, IsNextInstall, next_install}
use Rattle.erm_readers.specs.Calls.{DidMark, IsMarking, marked}
use Rattle.erm_precommit.specs.declared.pre.KeptClaim.{KeptClaim}
use Rattle.erm_ends.specs.Commits.{DidInstallClaim, IsNextCommit}
use Rattle.erm_ends.proofs.Going.{chain, claim_object, ending_taken}
use Rattle.erm_ends.proofs.Leaves.{decided_ends}

own_kept : (cell : ℕ) (t : Attempt) (w : Claim) (o : Option OwnCell) → is_own cell (with_own_head t w o) ≡ is_own cell o
own_kept cell t w None = refl
own_kept cell t w (Some own) = refl

module _ (v : View) (who : ℕ) (kept : KeptClaim) (stamp succ : ℕ) (known : IsKnown v) (next : IsNextCommit kept stamp succ (part_of v who)) where
  abbrev x : Part
  x = part_of v who

  pub has : part_in v who ≡ Some x
  has = held_part v who (ending_taken x.place (decided_ends x.place next.decided))

  abbrev pub n : ℕ
  n = next.ended

  abbrev pub claim : Claim
  claim = claim_at x.current n

  installing : installs (length x.current.reads) n 0 x ≡ true
  installing = both _ _ (both _ _ (both _ _ next.decided (ap is_commit next.committed)) (eq-eqb (length x.current.reads) (length x.current.reads) refl)) (lt-ltb n (length x.current.writes) next.within)

  -- THE HEAD
  pub head_may : (link : Option ℕ) → link ≡ Some kept.overwritten → MayStoreHead kept.own stamp link x x.task
  head_may link is =
      subst (λ (t : Task). MayStoreHead kept.own stamp link x t) (sym next.ends)
      (refl, installing, next.claim.own, sym next.stamp_is, is ∙ ap (λ (m : ℕ). Some m) next.claim.overwritten)

  abbrev pub new : Claim
  new = record claim { own = with_own_head x.current claim claim.own }

  -- the part once so many steps of the install are taken
  abbrev pub at_step : ℕ → Part
  at_step step = record x { task = task.Ends (length x.current.reads) n step next.cleared; current = with_claim n new x.current }

  headed : headed_part (place_of kept.own x) x ≡ at_step 6
  headed =
      ap (λ (m : ℕ). headed_part m x) (known_place v who x has known kept.own n next.claim.own)
      ∙ ap (λ (t : Task). record x { task = after_head t; current = with_claim n new x.current }) next.ends

  pub new_there : (step : ℕ) → claim_at (at_step step).current n ≡ new
  new_there step = claim_set x.current n new next.within

  module _ (u : View) (did : DidStoreHead v who kept.own u) where
    is_headed : u ≡ with_part who (at_step 6) v
    is_headed = did.view_is ∙ ap (λ (y : Part). with_part who y v) headed

    here : part_of u who ≡ at_step 6
    here = part_of-changed v who u (at_step 6) x has is_headed

    -- THE MARK
    pub mark_decided : is_decided (part_of u who).place ≡ true
    mark_decided = ap (λ (z : Part). is_decided z.place) here ∙ next.decided

    pub mark_committed : (part_of u who).current.decision ≡ Commit
    mark_committed = ap (λ (z : Part). z.current.decision) here ∙ next.committed

    more : length (with_claim n new x.current).writes ≡ length x.current.writes
    more = claims_set x.current n new

    pub mark_marking : IsMarking (part_of u who).current (part_of u who).task
    mark_marking = subst (λ (z : Part). IsMarking z.current z.task) (sym here) (refl, (let m = more in let w = next.within in omega (arith, m, w)), refl)

    pub mark_cell : (ended_claim (part_of u who)).cell ≡ kept.overwritten
    mark_cell = ap (λ (z : Part). (ended_claim z).cell) here ∙ ap (λ (w : Claim). w.version.cell) (new_there 6) ∙ sym next.claim.overwritten

    pub mark_version : ended_claim (part_of u who) ≡ claim.version
    mark_version = ap (λ (z : Part). ended_claim z) here ∙ ap (λ (w : Claim). w.version) (new_there 6)

    pub mark_stamp : (part_of u who).current.stamp ≡ stamp
    mark_stamp = ap (λ (z : Part). z.current.stamp) here ∙ next.stamp_is

    pub mark_succ : (part_of u who).current.succ ≡ succ
    mark_succ = ap (λ (z : Part). z.current.succ) here ∙ next.succ_is

    module _ (t : View) (mark : DidMark u who t) where
      pub is_marked : t ≡ with_part who (at_step 8) v
      is_marked = chain v who u t x (at_step 6) (λ z. with_task (marked z.task) z) has is_headed mark.view_is

      there : part_of t who ≡ at_step 8
      there = part_of-changed v who t (at_step 8) x has is_marked

      -- THE ENTRY
      pub install_object : kept.oid < OBJECT_LIMIT
      install_object = subst (λ m. m < OBJECT_LIMIT) (sym next.claim.oid) (claim_object v who known has n next.within)

      pub install_next : IsNextInstall (part_of t who) kept.oid kept.own
      install_next =
          subst (λ (z : Part). IsNextInstall z kept.oid kept.own) (sym there)
          (record {
            commits = both _ _ next.decided (ap is_commit next.committed);
            task_is = refl;
            within = let m = more in let w = next.within in omega (arith, m, w);
            oid_is = ap (λ (w : Claim). w.version.oid) (new_there 8) ∙ sym next.claim.oid;
            own = ap (λ (w : Claim). is_own kept.own w.own) (new_there 8) ∙ own_kept kept.own x.current claim claim.own ∙ next.claim.own;
          })

      done : installed_part (at_step 8) ≡ installed_part x
      done =
          ap (λ (w : Claim). record x { task = task.Ends (length x.current.reads) (n + 1) 0 next.cleared; current = with_claim n (record w { held = false; own = None }) (with_claim n new x.current) }) (new_there 8)
          ∙ ap (λ (c : Attempt). record x { task = task.Ends (length x.current.reads) (n + 1) 0 next.cleared; current = c }) (claim_again x.current n new (record claim { held = false; own = None }))
          ∙ sym (ap (λ (k : Task). installed_part (record x { task = k })) next.ends)

      pub next_is : next_install x ≡ claim
      next_is = ap (λ (k : Task). next_install (record x { task = k })) next.ends

      pub did_install : (w : View) → DidInstall t who kept.oid kept.own w → DidInstallClaim v who kept.oid kept.own w
      did_install w last = record {
        view_is = chain v who t w x (at_step 8) installed_part has is_marked last.view_is ∙ ap (λ (z : Part). with_part who z v) done;
        known = last.known;
        is_head = last.is_head;
        words = last.words ∙ ap (λ (z : Part). own_words (next_install z).own) there ∙ ap (λ (w : Claim). own_words w.own) (new_there 8)
            ∙ sym (ap (λ (w : Claim). own_words (with_own_head x.current w w.own)) next_is);
      }
