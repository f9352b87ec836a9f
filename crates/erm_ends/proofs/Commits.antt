-- All claims of a commit are installed, and its end.
use Rattle.std.proofs.Common.{◌≡◌, ℕ, add-one, ◌+◌, ◌<◌, List, length, get_or, Some, refl, sym, ap, ◌∙◌, subst, arith}
use Rattle.erm_machine.specs.declared.attempt.Claim.{Claim}
use Rattle.erm_machine.specs.declared.attempt.Decision.{Decision}
use Rattle.erm_machine.specs.declared.attempt.Decision.TheVariants.{Commit}
use Rattle.erm_machine.specs.declared.part.Part.{Part}
use Rattle.erm_machine.specs.declared.task.Task.{Task}
use Rattle.erm_machine.specs.declared.task.Task.TheVariants as task
use Rattle.erm_machine.specs.Back.{GoesBack}
use Rattle.erm_machine.specs.Core.{claim_at}
use Rattle.erm_machine.specs.Seat.{is_decided, with_task}
use Rattle.erm_model.specs.RowTransaction.{Law}
use Rattle.erm_rule.specs.declared.view.Book.{Book}
use Rattle.erm_rule.specs.declared.view.View.{View}
use Rattle.erm_rule.specs.Hands.{IsKnown}
use Rattle.erm_rule.specs.Views.{part_in, part_of, with_part}
use Rattle.erm_rule.proofs.Parts.{with_part-same}
use Rattle.erm_rule.proofs.Telling.{changed_here, held_part, part_of-changed}
use Rattle.erm_entries.specs.Ends.{installed_part, next_install}
use Rattle.erm_precommit.specs.declared.pre.KeptClaim.{KeptClaim}
use Rattle.erm_precommit.specs.declared.pre.Pre.{Pre}
use Rattle.erm_precommit.specs.Pre.{IsClaimKept, IsPre, no_claim_kept}
use Rattle.erm_ends.specs.Commits.{DidCommit, DidGoBack, DidInstallClaim, DidInstallClaims, DidRaiseReads, installed_all, installed_to, IsNextCommit, MayCommit, MayGoBack, MayInstallClaims, MayRaiseReads, with_back}
use Rattle.erm_ends.specs.Ends.{claims_over, DidClearReads, DidLeave, left_part, MayClearReads, MayLeave}
use Rattle.erm_ends.specs.Took.{TookBack, TookBitClears, TookCommit, TookInstalls, TookLeave, TookRaises, WasInstalled}
use Rattle.erm_ends.proofs.Back.{back_there}
use Rattle.erm_ends.proofs.Going.{chain, ending_taken}
use Rattle.erm_ends.proofs.Installed.{installed_for}
use Rattle.erm_ends.proofs.Leaves.{decided_ends}
use Rattle.erm_ends.proofs.Over.{over_length, over_more, over_next}

-- so many claims are installed
abbrev pub come_to : ℕ → Part → Part
come_to n x = with_task (task.Ends (length x.current.reads) n 0 0) (installed_to n x)

pub record InstallLoop (v : View) (who n : ℕ) (u : View) : Type 0 where
  pub view_is : u ≡ with_part who (come_to n (part_of v who)) v
  pub known : IsKnown u

module _ (v : View) (who : ℕ) (kept : List KeptClaim) (stamp succ : ℕ) (known : IsKnown v) (may : MayInstallClaims kept stamp succ (part_of v who)) where
  abbrev x : Part
  x = part_of v who

  has : part_in v who ≡ Some x
  has = held_part v who (ending_taken x.place (decided_ends x.place may.decided))

  pub installs_start : (u : View) → u ≡ v → InstallLoop v who 0 u
  installs_start u same = record {
    view_is = same ∙ sym (ap (λ (t : Task). with_part who (with_task t x) v) (sym may.ends) ∙ with_part-same who x v known.in_order has);
    known = subst IsKnown (sym same) known;
  }

  module _ (u : View) (n : ℕ) (low : n < length kept) (loop : InstallLoop v who n u) where
    abbrev y : Part
    y = come_to n x

    abbrev claim : KeptClaim
    claim = get_or kept n no_claim_kept

    within : n < length x.current.writes
    within = let count = may.claims.count in omega (arith, count, low)

    here : part_of u who ≡ y
    here = part_of-changed v who u y x has loop.view_is

    next_claim : claim_at y.current n ≡ claim_at x.current n
    next_claim = over_next n x.current.writes

    is_kept : IsClaimKept claim (claim_at x.current n)
    is_kept = may.claims.each n within

    pub install_next_claim : IsNextCommit claim stamp succ (part_of u who)
    install_next_claim =
        subst (IsNextCommit claim stamp succ) (sym here)
        (record {
          ended = n;
          cleared = 0;
          decided = may.decided;
          committed = may.committed;
          ends = refl;
          within = let more = over_length n x.current.writes in let w = within in omega (arith, more, w);
          claim = subst (IsClaimKept claim) (sym next_claim) is_kept;
          stamp_is = may.stamp_is;
          succ_is = may.succ_is;
        })

    goes : installed_part y ≡ come_to (n + 1) x
    goes =
        ap (λ (ws : List Claim). record x { task = task.Ends (length x.current.reads) (n + 1) 0 0; current = record x.current { writes = ws } }) (over_more n x.current.writes within)
        ∙ ap (λ (m : ℕ). record x { task = task.Ends (length x.current.reads) (n + 1) 0 0; current = record x.current { writes = claims_over m x.current.writes } }) (sym (add-one n))

    pub installs_go_on : (w : View) → DidInstallClaim u who claim.oid claim.own w → InstallLoop v who (n + 1) w
    installs_go_on w did = record {
      view_is = chain v who u w x y installed_part has loop.view_is did.view_is ∙ ap (λ (z : Part). with_part who z v) goes;
      known = did.known;
    }

    -- the install is of the claim at this place
    pub installed_next : (law : Law) (m e : Book) → WasInstalled law who (part_of u who).current (next_install (part_of u who)) m e → WasInstalled law who x.current (claim_at x.current n) m e
    installed_next law m e was =
        installed_for law who x.current y.current (claim_at x.current n) m e refl refl refl
        (subst (λ (w : Claim). WasInstalled law who y.current w m e) next_claim (subst (λ (z : Part). WasInstalled law who z.current (next_install z) m e) here was))

  pub did_install_all : (u : View) (n : ℕ) → n ≡ length kept → InstallLoop v who n u → DidInstallClaims v who u
  did_install_all u n all loop =
      let same : n ≡ length x.current.writes = all ∙ may.claims.count in
      record {
        view_is = subst (λ (m : ℕ). u ≡ with_part who (come_to m x) v) same loop.view_is;
        known = loop.known;
      }

-- THE END
pub may_raise : (pre : Pre) (x : Part) → IsPre pre x → MayCommit x → MayRaiseReads pre.reads.value.items pre.stamp x
may_raise pre x kept may = record {
  decided = may.decided;
  committed = may.committed;
  ends = may.ends;
  reads = record { count = kept.read_count; each = kept.reads };
  stamp_is = sym kept.stamp;
}

module _ (v : View) (who : ℕ) (pre : Pre) (kept : IsPre pre (part_of v who)) (may : MayCommit (part_of v who)) (u : View) (raised : DidRaiseReads v who u) where
  abbrev z : Part
  z = part_of v who

  has_z : part_in v who ≡ Some z
  has_z = held_part v who (ending_taken z.place (decided_ends z.place may.decided))

  abbrev after_raise : Part
  after_raise = with_task (task.Ends (length z.current.reads) 0 0 0) z

  in_u : part_of u who ≡ after_raise
  in_u = part_of-changed v who u after_raise z has_z raised.view_is

  pub may_install : MayInstallClaims pre.claims.value.items pre.stamp pre.succ (part_of u who)
  may_install =
      subst (MayInstallClaims pre.claims.value.items pre.stamp pre.succ) (sym in_u)
      (record {
        decided = may.decided;
        committed = may.committed;
        ends = refl;
        claims = record { count = kept.claim_count; each = kept.claims };
        stamp_is = sym kept.stamp;
        succ_is = sym kept.succ;
      })

  module _ (w : View) (installed : DidInstallClaims u who w) where
    abbrev after_install : Part
    after_install = come_to (length z.current.writes) z

    install_view : w ≡ with_part who after_install v
    install_view = chain v who u w z after_raise (λ y. come_to (length y.current.writes) y) has_z raised.view_is installed.view_is

    in_w : part_of w who ≡ after_install
    in_w = part_of-changed v who w after_install z has_z install_view

    -- the back word
    pub may_go_back : MayGoBack pre.stamp pre.succ (part_of w who)
    may_go_back =
        subst (MayGoBack pre.stamp pre.succ) (sym in_w)
        (record { decided = may.decided; committed = may.committed; stamp_is = sym kept.stamp; succ_is = sym kept.succ })

    module _ (r : View) (backed : DidGoBack w who r) where
      abbrev after_back : Part
      after_back = with_back after_install

      back_view : r ≡ with_part who after_back v
      back_view = chain v who w r z after_install with_back has_z install_view backed.view_is

      in_r : part_of r who ≡ after_back
      in_r = part_of-changed v who r after_back z has_z back_view

      pub may_clear_committed : MayClearReads pre.reads.value.items (part_of r who)
      may_clear_committed =
          subst (MayClearReads pre.reads.value.items) (sym in_r)
          (record {
            raised = length z.current.reads;
            step = 0;
            place = decided_ends z.place may.decided;
            ends = ap (λ (m : ℕ). Some (length z.current.reads, m, 0, 0)) (sym (over_length (length z.current.writes) z.current.writes));
            all_raised = λ e. refl;
            reads = record { count = kept.read_count; each = kept.reads };
          })

      module _ (t : View) (cleared : DidClearReads r who t) where
        has_r : part_in r who ≡ Some after_back
        has_r = changed_here v who r after_back z has_z back_view

        has_here : part_in r who ≡ Some (part_of r who)
        has_here = has_r ∙ ap (λ (y : Part). Some y) (sym in_r)

        part_t : part_of t who ≡ with_task cleared.come.task (part_of r who)
        part_t = part_of-changed r who t (with_task cleared.come.task (part_of r who)) (part_of r who) has_here cleared.come.view_is

        pub may_leave_committed : MayLeave (part_of t who)
        may_leave_committed =
            subst MayLeave (sym part_t)
            (record {
              raised = cleared.raised;
              step = cleared.step;
              decided = ap (λ (y : Part). is_decided y.place) in_r ∙ may.decided;
              ends = cleared.come.ends;
              back = subst (λ (y : Part). GoesBack y.current → y.back ≡ y.current.stamp) (sym in_r) (back_there after_install);
            })

        module _ (s : View) (left : DidLeave t who s) where
          from_r : s ≡ with_part who (left_part (part_of r who).current.decision (part_of r who)) r
          from_r = chain r who t s (part_of r who) (with_task cleared.come.task (part_of r who)) (λ y. left_part y.current.decision y) has_here cleared.come.view_is left.view_is

          committed_view : s ≡ with_part who (left_part Commit (with_back (installed_all z))) v
          committed_view =
              chain v who r s z after_back (λ y. left_part y.current.decision y) has_z back_view from_r
              ∙ ap (λ (d : Decision). with_part who (left_part d (with_back (installed_all z))) v) may.committed

          pub did_commit : DidCommit v who s
          did_commit = record { view_is = committed_view; known = left.known }

      -- the steps, one after another
      pub took_commit : (law : Law) (b raising installing backing clearing e : Book) → b.view ≡ v → TookRaises law who z.current b raising
          → TookInstalls law who (part_of u who).current raising installing → TookBack law who (part_of w who).current installing backing
          → TookBitClears law who (part_of r who).current backing clearing → TookLeave law who clearing e → TookCommit law who b e
      took_commit law b raising installing backing clearing e is_v raises installs backs clears leaves =
          let part : z ≡ part_of b.view who = ap (λ (q : View). part_of q who) (sym is_v) in
          record {
            raised = raising;
            raises = subst (λ (y : Part). TookRaises law who y.current b raising) part raises;
            installed = installing;
            installs = subst (λ (y : Part). TookInstalls law who y.current raising installing) part (subst (λ (y : Part). TookInstalls law who y.current raising installing) in_u installs);
            backed = backing;
            backs = subst (λ (y : Part). TookBack law who y.current installing backing) part (subst (λ (y : Part). TookBack law who y.current installing backing) in_w backs);
            cleared = clearing;
            clears = subst (λ (y : Part). TookBitClears law who y.current backing clearing) part (subst (λ (y : Part). TookBitClears law who y.current backing clearing) in_r clears);
            leaves = leaves;
          }
