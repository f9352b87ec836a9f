-- What a follower knows after one more item.
use Rattle.std.proofs.Common.{◌≡◌, ℕ, ◌<◌, ◌≤◌, ◌⊎◌, ⊎_elim, inl, inr, List, [], ◌∷◌, length, drop, Option, Some, None, refl, sym, ap, ◌∙◌, subst, arith}
use Rattle.std.specs.List.Sorted.{IsStrictlySortedBy}
use Rattle.std.proofs.lemmas.List.{length-map}
use Rattle.std.specs.BTreeSet.{insert_key}
use Rattle.std.proofs.lemmas.Bool.Decides.{nat_tests}
use Rattle.erm_model.specs.declared.history.Commit.{Commit}
use Rattle.erm_model.specs.Member.{◌∈◌}
use Rattle.erm_model.specs.SerialOrder.{rank_of_commit}
use Rattle.erm_model.proofs.Members.{none_in_nil, ∈-behind}
use Rattle.erm_machine.proofs.Listed.{∈-cons, ∈-head, ∈-map, ∈-map_from}
use Rattle.erm_core_ssn.proofs.Orders.{Ascends}
use Rattle.erm_core_ssn.proofs.OneOrder.{AllPairs-from_Ascends}
use Rattle.erm_follow.specs.declared.seen.Seen.TheVariants as seen
use Rattle.erm_follow.specs.declared.seen.Broken.{Broken}
use Rattle.erm_follow.specs.declared.turn.Turn.{Turn}
use Rattle.erm_follow.specs.Follow.{Followed, GivesNext, BreaksNow, Breaks, MayTake, IsInOrder, greatest, start}
use Rattle.erm_follow.specs.Waiting.{commit_of, commits_of_turns, IsKept, IsLeastFrom}
use Rattle.erm_follow.proofs.Waits.{turn_cmp, rank_of_turn, in_inserted, inserted_in, ascends_from_sorted, due, left, in_due, due_in, in_left, left_in, ascends_due, ascends_commits}

-- ---- the greatest safe stamp
pub greatest-passed : (base safe b : ℕ) → (b < base) ⊎ (b ≤ safe) → greatest base safe (seen.Safe b) ≡ safe
greatest-passed base safe b which = grind (arith, nat_tests)

pub greatest-raised : (base safe b : ℕ) → base ≤ b → safe < b → greatest base safe (seen.Safe b) ≡ b
greatest-raised base safe b low less = grind (arith, nat_tests)

-- a follower that was given nothing may be given any commit
pub may_begin : (base : ℕ) (c : Commit) (f : Followed) → f ≡ start base → c.succ ≤ c.stamp → MayTake f (seen.Commit c)
may_begin base c f is within =
    subst (λ g. MayTake g (seen.Commit c)) (sym is) ((λ w there. absurd (none_in_nil w there)), within, omega arith)

nothing_in_order : IsInOrder []
nothing_in_order i j d before within = absurd (omega arith)

module _ (base safe : ℕ) (turns : List Turn) (kept : IsKept safe turns) where
  -- what a follower with these turns knows
  abbrev pub knows : Followed
  knows = record { base = base; safe = safe; waiting = commits_of_turns turns; broken = None }

  -- what is known of a commit that waits
  of_waiting : (c : Commit) → c ∈ commits_of_turns turns → (safe ≤ c.succ) × (c.succ ≤ c.stamp)
  of_waiting c there =
      let found = ∈-map commit_of turns c there in
      subst (λ (v : Commit). (safe ≤ v.succ) × (v.succ ≤ v.stamp)) found.2 (kept.safe found.0 found.1, kept.within found.0 found.1)

  -- a safe stamp that is passed over changes nothing
  pub passed_over : (b : ℕ) → greatest base safe (seen.Safe b) ≡ safe → GivesNext knows (seen.Safe b) [] knows
  passed_over b same = record {
    base = refl;
    safe = sym same;
    whole = refl;
    still = refl;
    order = nothing_in_order;
    given = λ c there. absurd (none_in_nil c there);
    all = λ c there low. let of = of_waiting c there in absurd (omega (arith, of, low));
    waits = λ c there. let of = of_waiting c there in (there, omega (arith, of));
    rest = λ c there high. there;
    clean = λ c there breaks. let of = of_waiting c there in absurd (omega (arith, of, breaks.1));
  }

  module _ (c : Commit) (t : Turn) (is : commit_of t ≡ c) (may : MayTake knows (seen.Commit c)) (high : safe ≤ c.succ) where
    stamp_is : t.stamp.0 ≡ c.stamp
    stamp_is = ap (λ (v : Commit). v.stamp) is

    less : (y : Turn) → y ∈ turns → y.stamp.0 < t.stamp.0
    less y there = let low = may.0 (commit_of y) (∈-map_from commit_of turns y there) in omega (arith, low, stamp_is)

    abbrev more : List Turn
    more = insert_key turn_cmp turns t

    new_facts : (safe ≤ t.succ) × (t.succ ≤ t.stamp.0)
    new_facts = subst (λ (v : Commit). (safe ≤ v.succ) × (v.succ ≤ v.stamp)) (sym is) (high, may.1)

    -- with one more turn, turns are kept
    pub kept_more : IsKept safe more
    kept_more = record {
      safe = λ x there.
          ⊎_elim
          (λ (e : x ≡ t). subst (λ (v : Turn). safe ≤ v.succ) (sym e) new_facts.0)
          (λ (h : x ∈ turns). kept.safe x h)
          (in_inserted t x turns there);
      within = λ x there.
          ⊎_elim
          (λ (e : x ≡ t). subst (λ (v : Turn). v.succ ≤ v.stamp.0) (sym e) new_facts.1)
          (λ (h : x ∈ turns). kept.within x h)
          (in_inserted t x turns there);
      apart = λ x y at_x at_y same.
          ⊎_elim
          (λ (e : x ≡ t).
          ⊎_elim
          (λ (f : y ≡ t). e ∙ sym f)
          (λ (h : y ∈ turns). let low = less y h in let eq : x.stamp.0 ≡ t.stamp.0 = ap (λ (v : Turn). v.stamp.0) e in absurd (omega (arith, low, same, eq)))
          (in_inserted t y turns at_y))
          (λ (h : x ∈ turns).
          ⊎_elim
          (λ (f : y ≡ t). let low = less x h in let eq : y.stamp.0 ≡ t.stamp.0 = ap (λ (v : Turn). v.stamp.0) f in absurd (omega (arith, low, same, eq)))
          (λ (k : y ∈ turns). kept.apart x y h k same)
          (in_inserted t y turns at_y))
          (in_inserted t x turns at_x);
    }

    of_heard : (d : Commit) → d ∈ (c ∷ commits_of_turns turns) → (safe ≤ d.succ) × (d.succ ≤ d.stamp)
    of_heard d there =
        ⊎_elim
        (λ (e : c ≡ d). subst (λ (v : Commit). (safe ≤ v.succ) × (v.succ ≤ v.stamp)) e (high, may.1))
        (λ (h : d ∈ commits_of_turns turns). of_waiting d h)
        (∈-cons d c (commits_of_turns turns) there)

    waits_there : (d : Commit) → d ∈ commits_of_turns more → d ∈ (c ∷ commits_of_turns turns)
    waits_there d there =
        let found = ∈-map commit_of more d there in
        ⊎_elim
        (λ (e : found.0 ≡ t).
        let same : c ≡ d = sym is ∙ sym (ap commit_of e) ∙ found.2 in
        subst (λ v. v ∈ (c ∷ commits_of_turns turns)) same (∈-head c (commits_of_turns turns)))
        (λ (h : found.0 ∈ turns).
        ∈-behind c (commits_of_turns turns) d (subst (λ v. v ∈ commits_of_turns turns) found.2 (∈-map_from commit_of turns found.0 h)))
        (in_inserted t found.0 turns found.1)

    there_waits : (d : Commit) → d ∈ (c ∷ commits_of_turns turns) → d ∈ commits_of_turns more
    there_waits d there =
        ⊎_elim
        (λ (e : c ≡ d). subst (λ v. v ∈ commits_of_turns more) (is ∙ e) (∈-map_from commit_of more t (inserted_in t t turns less (inl refl))))
        (λ (h : d ∈ commits_of_turns turns).
        let found = ∈-map commit_of turns d h in
        subst (λ v. v ∈ commits_of_turns more) found.2 (∈-map_from commit_of more found.0 (inserted_in t found.0 turns less (inr found.1))))
        (∈-cons d c (commits_of_turns turns) there)

    -- a commit that breaks nothing waits
    pub waits_too : GivesNext knows (seen.Commit c) [] (record knows { waiting = commits_of_turns more })
    waits_too = record {
      base = refl;
      safe = refl;
      whole = refl;
      still = refl;
      order = nothing_in_order;
      given = λ d there. absurd (none_in_nil d there);
      all = λ d there low. let of = of_heard d there in absurd (omega (arith, of, low));
      waits = λ d there. let of = of_heard d (waits_there d there) in (waits_there d there, omega (arith, of));
      rest = λ d there above. there_waits d there;
      clean = λ d there breaks. let of = of_heard d there in absurd (omega (arith, of, breaks.1));
    }

  -- a commit below the safe stamp's promise breaks it, and none that waits does
  pub breaks_by_commit : (c : Commit) → MayTake knows (seen.Commit c) → c.succ < safe → BreaksNow knows (seen.Commit c) (record { safe = safe; stamp = c.stamp; succ = c.succ }) (record knows { broken = Some (record { safe = safe; stamp = c.stamp; succ = c.succ }) })
  breaks_by_commit c may low = record {
    whole = refl;
    safe = refl;
    by = c;
    there = ∈-head c (commits_of_turns turns);
    breaks = (may.2, low);
    told = (refl, refl);
    least = λ d there breaks.
        ⊎_elim
        (λ (e : c ≡ d). subst (λ (v : Commit). c.stamp ≤ v.stamp) e (omega arith))
        (λ (h : d ∈ commits_of_turns turns). let of = of_waiting d h in absurd (omega (arith, of, breaks.1)))
        (∈-cons d c (commits_of_turns turns) there);
    stays = refl;
  }

  module _ (b : ℕ) (sorted : IsStrictlySortedBy turn_cmp turns) (raised : greatest base safe (seen.Safe b) ≡ b) where
    ascends : Ascends rank_of_turn turns
    ascends = ascends_from_sorted turns sorted kept.apart

    abbrev lines : List Commit
    lines = commits_of_turns (due b turns)

    in_lines : (c : Commit) → c ∈ lines → (c ∈ commits_of_turns turns) × (c.succ < b)
    in_lines c there =
        let found = ∈-map commit_of (due b turns) c there in
        let of = in_due b found.0 turns found.1 in
        (subst (λ v. v ∈ commits_of_turns turns) found.2 (∈-map_from commit_of turns found.0 of.0), subst (λ (v : Commit). v.succ < b) found.2 of.1)

    lines_in : (c : Commit) → c ∈ commits_of_turns turns → c.succ < b → c ∈ lines
    lines_in c there low =
        let found = ∈-map commit_of turns c there in
        let less : found.0.succ < b = subst (λ (v : Commit). v.succ < b) (sym found.2) low in
        subst (λ v. v ∈ lines) found.2 (∈-map_from commit_of (due b turns) found.0 (due_in b found.0 turns ascends found.1 less))

    -- the least of those due that lies above the safe stamp breaks it
    pub breaks_by_safe : (k : Broken) → IsLeastFrom b lines (Some k) → BreaksNow knows (seen.Safe b) k (record knows { broken = Some k })
    breaks_by_safe k least = record {
      whole = refl;
      safe = least.3 ∙ sym raised;
      by = least.0;
      there = (in_lines least.0 least.1).0;
      breaks = subst (λ v. Breaks v least.0) (sym least.3) (least.2, (in_lines least.0 least.1).1);
      told = (least.4, least.5);
      least = λ c there breaks. let broken = subst (λ v. Breaks v c) least.3 breaks in least.6 c (lines_in c there broken.1) broken.0;
      stays = refl;
    }

    module _ (none : IsLeastFrom b lines None) where
      pub kept_left : IsKept b (left b turns)
      kept_left = record {
        safe = λ x there. (in_left b x turns ascends there).1;
        within = λ x there. kept.within x (in_left b x turns ascends there).0;
        apart = λ x y at_x at_y same. kept.apart x y (in_left b x turns ascends at_x).0 (in_left b y turns ascends at_y).0 same;
      }

      in_rest : (c : Commit) → c ∈ commits_of_turns (left b turns) → (c ∈ commits_of_turns turns) × (b ≤ c.stamp)
      in_rest c there =
          let found = ∈-map commit_of (left b turns) c there in
          let of = in_left b found.0 turns ascends found.1 in
          let high : b ≤ found.0.stamp.0 = omega (arith, of.1, kept.within found.0 of.0) in
          (subst (λ v. v ∈ commits_of_turns turns) found.2 (∈-map_from commit_of turns found.0 of.0), subst (λ (v : Commit). b ≤ v.stamp) found.2 high)

      high_succ : (c : Commit) → c ∈ commits_of_turns turns → b ≤ c.stamp → b ≤ c.succ
      high_succ c there high =
          ⊎_elim
          (λ (low : c.succ < b). let under = none c (lines_in c there low) in absurd (omega (arith, under, high)))
          (λ (up : b ≤ c.succ). up)
          (low_or_high c.succ b)
        where
          low_or_high : (n m : ℕ) → (n < m) ⊎ (m ≤ n)
          low_or_high n m = grind arith

      rest_in : (c : Commit) → c ∈ commits_of_turns turns → b ≤ c.stamp → c ∈ commits_of_turns (left b turns)
      rest_in c there high =
          let found = ∈-map commit_of turns c there in
          let up : b ≤ found.0.succ = subst (λ (v : Commit). b ≤ v.succ) (sym found.2) (high_succ c there high) in
          subst (λ v. v ∈ commits_of_turns (left b turns)) found.2 (∈-map_from commit_of (left b turns) found.0 (left_in b found.0 turns found.1 up))

      -- what lies below a safe stamp that nothing breaks is due
      pub are_due : GivesNext knows (seen.Safe b) lines (record { base = base; safe = b; waiting = commits_of_turns (left b turns); broken = None })
      are_due = record {
        base = refl;
        safe = sym raised;
        whole = refl;
        still = refl;
        order = AllPairs-from_Ascends rank_of_commit lines (ascends_commits (due b turns) (ascends_due b turns ascends));
        given = λ c there. ((in_lines c there).0, none c there);
        all = λ c there low. let of = of_waiting c there in lines_in c there (omega (arith, of, low));
        waits = λ c there. in_rest c there;
        rest = λ c there high. rest_in c there high;
        clean = λ c there breaks. let up = high_succ c there breaks.0 in absurd (omega (arith, up, breaks.1));
      }

-- ---- as a follower's fields show it
module _ (base safe : ℕ) (turns : List Turn) (kept : IsKept safe turns) (f : Followed) (broken : Option Broken) where
  abbrev shown : List Turn → Option Broken → Followed
  shown keys b = record { base = base; safe = safe; waiting = commits_of_turns keys; broken = b }

  module _ (is : shown turns broken ≡ f) (whole : f.broken ≡ None) where
    no_break : broken ≡ None
    no_break = ap (λ (g : Followed). g.broken) is ∙ whole

    known : knows base safe turns kept ≡ f
    known = subst (λ b. shown turns b ≡ f) no_break is

    pub passes : (b : ℕ) → (b < base) ⊎ (b ≤ safe) → GivesNext f (seen.Safe b) [] f
    passes b which =
        subst (λ g. GivesNext g (seen.Safe b) [] g) known (passed_over base safe turns kept b (greatest-passed base safe b which))

    module _ (c : Commit) (may : MayTake f (seen.Commit c)) where
      may_take : MayTake (knows base safe turns kept) (seen.Commit c)
      may_take = subst (λ g. MayTake g (seen.Commit c)) (sym known) may

      pub breaks_commit : c.succ < safe → BreaksNow f (seen.Commit c) (record { safe = safe; stamp = c.stamp; succ = c.succ }) (shown turns (Some (record { safe = safe; stamp = c.stamp; succ = c.succ })))
      breaks_commit low =
          subst (λ g. BreaksNow g (seen.Commit c) (record { safe = safe; stamp = c.stamp; succ = c.succ }) (shown turns (Some (record { safe = safe; stamp = c.stamp; succ = c.succ })))) known (breaks_by_commit base safe turns kept c may_take low)

      module _ (t : Turn) (of : commit_of t ≡ c) (high : safe ≤ c.succ) (keys : List Turn) (keys_are : keys ≡ insert_key turn_cmp turns t) where
        pub kept_with : IsKept safe keys
        kept_with = subst (λ l. IsKept safe l) (sym keys_are) (kept_more base safe turns kept c t of may_take high)

        pub waits_with : GivesNext f (seen.Commit c) [] (shown keys broken)
        waits_with =
            subst (λ g. GivesNext g (seen.Commit c) [] (shown keys broken)) known
            (subst (λ l. GivesNext (knows base safe turns kept) (seen.Commit c) [] (shown l broken)) (sym keys_are)
            (subst (λ b. GivesNext (knows base safe turns kept) (seen.Commit c) [] (shown (insert_key turn_cmp turns t) b)) (sym no_break)
            (waits_too base safe turns kept c t of may_take high)))

    module _ (b : ℕ) (sorted : IsStrictlySortedBy turn_cmp turns) (low : base ≤ b) (less : safe < b) (lines : List Commit) (lines_are : lines ≡ commits_of_turns (due b turns)) where
      raised : greatest base safe (seen.Safe b) ≡ b
      raised = greatest-raised base safe b low less

      pub breaks_safe : (k : Broken) → IsLeastFrom b lines (Some k) → BreaksNow f (seen.Safe b) k (shown turns (Some k))
      breaks_safe k least =
          subst (λ g. BreaksNow g (seen.Safe b) k (shown turns (Some k))) known
          (breaks_by_safe base safe turns kept b sorted raised k (subst (λ l. IsLeastFrom b l (Some k)) lines_are least))

      module _ (none : IsLeastFrom b lines None) (keys : List Turn) (keys_are : keys ≡ drop (length lines) turns) where
        none_due : IsLeastFrom b (commits_of_turns (due b turns)) None
        none_due = subst (λ l. IsLeastFrom b l None) lines_are none

        left_are : keys ≡ left b turns
        left_are = keys_are ∙ ap (λ n. drop n turns) (ap length lines_are ∙ length-map (due b turns) commit_of)

        pub kept_rest : IsKept b keys
        kept_rest = subst (λ l. IsKept b l) (sym left_are) (kept_left base safe turns kept b sorted raised none_due)

        pub gives_due : GivesNext f (seen.Safe b) lines (record { base = base; safe = b; waiting = commits_of_turns keys; broken = broken })
        gives_due =
            subst (λ g. GivesNext g (seen.Safe b) lines (record { base = base; safe = b; waiting = commits_of_turns keys; broken = broken })) known
            (subst (λ l. GivesNext (knows base safe turns kept) (seen.Safe b) l (record { base = base; safe = b; waiting = commits_of_turns keys; broken = broken })) (sym lines_are)
            (subst (λ l. GivesNext (knows base safe turns kept) (seen.Safe b) (commits_of_turns (due b turns)) (record { base = base; safe = b; waiting = commits_of_turns l; broken = broken })) (sym left_are)
            (subst (λ k. GivesNext (knows base safe turns kept) (seen.Safe b) (commits_of_turns (due b turns)) (record { base = base; safe = b; waiting = commits_of_turns (left b turns); broken = k })) (sym no_break)
            (are_due base safe turns kept b sorted raised none_due))))
