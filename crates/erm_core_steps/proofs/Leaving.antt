-- The end of a decided transaction: each step is taken, and leaves the transaction as it was decided.
use Rattle.std.proofs.Common.{◌≡◌, ◌⊎◌, ⊎_elim, ℕ, ◌+◌, ◌<◌, true, false, List, [], ◌∷◌, ◌++◌, length, Option, Some, None, refl, sym, ap, ◌∙◌, subst, inl, inr, arith}
use Rattle.std.specs.Prelude.{if◌then◌else◌, nat_lt, ◌==◌, slice_index_or}
use Rattle.std.proofs.lemmas.Bool.{and_parts}
use Rattle.erm_machine.specs.declared.attempt.Attempt.{Attempt}
use Rattle.erm_machine.specs.declared.event.Kind.{Kind}
use Rattle.erm_machine.specs.declared.event.Kind.TheVariants as kind
use Rattle.erm_machine.specs.declared.part.Part.{Part}
use Rattle.erm_machine.specs.declared.place.Place.{Place}
use Rattle.erm_machine.specs.declared.place.Place.TheVariants.{Decided, Idle, Leaving}
use Rattle.erm_machine.specs.declared.task.Task.{Task}
use Rattle.erm_machine.specs.declared.task.Task.TheVariants as task
use Rattle.erm_machine.specs.declared.version.CellWord.{CellWord}
use Rattle.erm_machine.specs.declared.version.CellWord.TheVariants as word
use Rattle.erm_machine.specs.declared.version.VersionAt.{VersionAt}
use Rattle.erm_machine.specs.Core.{Core, Shared, claim_at, spot_of, word_at}
use Rattle.erm_machine.specs.Life.{store_back, store_begin, store_state}
use Rattle.erm_machine.specs.Seat.{end_of, is_active, is_commit, is_decided, last_claim, over, read_at, with_task}
use Rattle.erm_machine.specs.Settling.{adds_version, clear_reader, install, install_claim, install_new, mark_overwritten, raise_reader, release_old, store_cell, store_head_word, without_entry}
use Rattle.erm_machine.specs.Sound.{Sound}
use Rattle.erm_machine.specs.Step.{after_event, part_after}
use Rattle.erm_machine.specs.Tasks.{InEnd, TaskFits}
use Rattle.erm_machine.specs.Words.{is_session}
use Rattle.erm_machine.proofs.Guards.{either_way, if_then, when_then}
use Rattle.erm_machine.proofs.QuietKinds.{moves}
use Rattle.erm_core_calls.specs.Ending.{Ahead, IsLess, ahead, ahead_at, fewer_stages, less_left}
use Rattle.erm_core_calls.specs.Going.{FitsAt, IsInCall, MayWrite, IsUnsafe, MovesOn, Waits, for_begin, for_overwriter, for_owner, for_reader, head_words, next_back, next_clear, next_commit, next_end, next_head_word, next_install, next_kind, next_at, next_release, overwrites, own_at, wants_back}
use Rattle.erm_core_calls.proofs.Goes.{goes_from}
use Rattle.erm_core_calls.proofs.Moving.{below_way, same_way, stepped, taken}
use Rattle.erm_core_calls.proofs.Nearing.{comes_nearer}
use Rattle.erm_core_view.specs.Steps.{MeetsOne, RestsAt, drawn_by, flushed_by}
use Rattle.erm_core_view.proofs.Calm.{claim_same}
use Rattle.erm_core_view.proofs.Moved.{changes_one, own_after}
use Rattle.erm_core_steps.specs.Ends.{HasLeft, IsLeaving, OnlyAt, Remains, is_ending}
use Rattle.erm_core_steps.specs.Steps.{IsFree, IsTaken}
use Rattle.erm_core_steps.proofs.Passing.{some_block}
use Rattle.erm_core_steps.proofs.Unseen.{others_stay}
use Rattle.erm_core_turns.proofs.Turns.{one_after, part_stepped}
use Rattle.erm_core_view.proofs.Moved.{meets_one}

pub decided_ends : (pl : Place) → is_decided pl ≡ true → is_ending pl ≡ true
decided_ends (Decided tail stamp) e = refl
decided_ends _ e = absurd (cc)

decided_inactive : (pl : Place) → is_decided pl ≡ true → is_active pl ≡ false
decided_inactive (Decided tail stamp) e = refl
decided_inactive _ e = absurd (cc)

pub remains_same : (t : Attempt) → Remains t t
remains_same t = record { work = refl; stamp = refl; succ = refl; pred = refl; decision = refl }

pub remains_both : (t u v : Attempt) → Remains t u → Remains u v → Remains t v
remains_both t u v f g = record {
  work = g.work ∙ f.work;
  stamp = g.stamp ∙ f.stamp;
  succ = g.succ ∙ f.succ;
  pred = g.pred ∙ f.pred;
  decision = g.decision ∙ f.decision;
}

-- the steps of the end of a decided transaction, but for the last one
abbrev pub IsOfEnd : Kind → Type 0
IsOfEnd (kind.RaiseReader v value) = Unit {0}
IsOfEnd (kind.StoreCell place cell w value) = Unit {0}
IsOfEnd (kind.StoreSucc v value) = Unit {0}
IsOfEnd (kind.StoreOverwriter v value) = Unit {0}
IsOfEnd (kind.Install oid head) = Unit {0}
IsOfEnd (kind.ClearReader v) = Unit {0}
IsOfEnd (kind.StoreBack value) = Unit {0}
IsOfEnd (kind.StoreBegin value) = Unit {0}
IsOfEnd k = ⊥

-- they need no room, and move neither the end of the log nor the place flushed
pub record Ends (k : Kind) : Type 0 where
  pub free : IsFree k
  pub one : MeetsOne k
  pub drawn : drawn_by k ≡ 0
  pub flushed : (n : ℕ) → flushed_by k n ≡ n

pub ends_free : (k : Kind) → IsOfEnd k → Ends k
ends_free (kind.RaiseReader v value) e = record { free = record { one = tt; ranges = refl; none = tt }; one = tt; drawn = refl; flushed = λ n. refl }
ends_free (kind.StoreCell place cell w value) e = record { free = record { one = tt; ranges = refl; none = tt }; one = tt; drawn = refl; flushed = λ n. refl }
ends_free (kind.StoreSucc v value) e = record { free = record { one = tt; ranges = refl; none = tt }; one = tt; drawn = refl; flushed = λ n. refl }
ends_free (kind.StoreOverwriter v value) e = record { free = record { one = tt; ranges = refl; none = tt }; one = tt; drawn = refl; flushed = λ n. refl }
ends_free (kind.Install oid head) e = record { free = record { one = tt; ranges = refl; none = tt }; one = tt; drawn = refl; flushed = λ n. refl }
ends_free (kind.ClearReader v) e = record { free = record { one = tt; ranges = refl; none = tt }; one = tt; drawn = refl; flushed = λ n. refl }
ends_free (kind.StoreBack value) e = record { free = record { one = tt; ranges = refl; none = tt }; one = tt; drawn = refl; flushed = λ n. refl }
ends_free (kind.StoreBegin value) e = record { free = record { one = tt; ranges = refl; none = tt }; one = tt; drawn = refl; flushed = λ n. refl }
ends_free k e = absurd e

-- which steps these are
clear_kind : (t : Attempt) (cleared : ℕ) → IsOfEnd (next_clear t cleared)
clear_kind t cleared = below_way IsOfEnd cleared (length t.reads) (kind.ClearReader (read_at t cleared).version) (kind.StoreBegin 0) (λ _. tt) (λ _. tt)

release_kind : (t : Attempt) (ended cleared : ℕ) → IsOfEnd (next_release t ended cleared)
release_kind t ended cleared = below_way IsOfEnd ended (length t.writes) (kind.Install (overwrites t ended).oid (overwrites t ended).cell) (next_clear t cleared) (λ _. tt) (λ _. clear_kind t cleared)

install_kind : (t : Attempt) (ended step : ℕ) → IsOfEnd (next_install t ended step)
install_kind t ended step =
    let last = if step == 7 then kind.StoreOverwriter (overwrites t ended) t.stamp else kind.Install (overwrites t ended).oid (own_at t ended) in
    below_way IsOfEnd step 6 (next_head_word t ended (slice_index_or head_words step word.Stamp)) (if step == 6 then kind.StoreSucc (overwrites t ended) t.succ else last) (λ _. tt)
    (λ _. same_way IsOfEnd step 6 (kind.StoreSucc (overwrites t ended) t.succ) last (λ _. tt)
    (λ _. same_way IsOfEnd step 7 (kind.StoreOverwriter (overwrites t ended) t.stamp) (kind.Install (overwrites t ended).oid (own_at t ended)) (λ _. tt) (λ _. tt)))

back_kind : (t : Attempt) (back cleared : ℕ) → IsOfEnd (next_back t back cleared)
back_kind t back cleared = either_way IsOfEnd (wants_back t back) (kind.StoreBack t.stamp) (next_clear t cleared) (λ _. tt) (λ _. clear_kind t cleared)

commit_kind : (t : Attempt) (back raised ended step cleared : ℕ) → IsOfEnd (next_commit t back raised ended step cleared)
commit_kind t back raised ended step cleared =
    let later = if nat_lt ended (length t.writes) then next_install t ended step else next_back t back cleared in
    below_way IsOfEnd raised (length t.reads) (kind.RaiseReader (read_at t raised).version t.stamp) later (λ _. tt)
    (λ _. below_way IsOfEnd ended (length t.writes) (next_install t ended step) (next_back t back cleared) (λ _. install_kind t ended step) (λ _. back_kind t back cleared))

end_kind : (t : Attempt) (back : ℕ) (u : Task) → InEnd t u → IsOfEnd (next_end t back u)
end_kind t back (task.Ends raised ended step cleared) fits =
    either_way IsOfEnd (is_commit t.decision) (next_commit t back raised ended step cleared) (next_release t ended cleared)
    (λ _. commit_kind t back raised ended step cleared) (λ _. release_kind t ended cleared)
end_kind t back u fits = absurd fits

-- The part after one of them.
module _ (x : Part) (decided : is_decided x.place ≡ true) where
  pub record Goes (y : Part) : Type 0 where
    pub ending : is_ending y.place ≡ true
    pub over : y.over ≡ x.over
    pub remains : Remains x.current y.current

  stays : (u : Task) → Goes (with_task u x)
  stays u = record { ending = decided_ends x.place decided; over = refl; remains = remains_same x.current }

  g_raise : (v : VersionAt) (value : ℕ) (u : Task) (y : Part) → raise_reader v value x u ≡ Some y → Goes y
  g_raise v value (task.Ends raised ended step cleared) y e = when_then Goes _ _ y e (λ _. stays _)
  g_raise v value u y e = absurd (cc)

  g_head : (place cell : ℕ) (w : CellWord) (value : ℕ) (u : Task) (y : Part) → store_head_word place cell w value x u ≡ Some y → Goes y
  g_head place cell w value (task.Ends raised ended step cleared) y e =
      when_then Goes _ _ y e (λ _.
      record {
        ending = decided_ends x.place decided;
        over = refl;
        remains = record { work = claim_same x.current place _ refl; stamp = refl; succ = refl; pred = refl; decision = refl };
      })
  g_head place cell w value u y e = absurd (cc)

  g_store : (place cell : ℕ) (w : CellWord) (value : ℕ) (y : Part) → store_cell place cell w value x ≡ Some y → Goes y
  g_store place cell w value y e =
      if_then Goes (is_active x.place) _ _ y e (λ active _. absurd (let off = decided_inactive x.place decided in cc)) (λ _ e2. g_head place cell w value x.task y e2)

  g_mark : (nth : ℕ) (v : VersionAt) (value wanted : ℕ) (u : Task) (y : Part) → mark_overwritten nth v value wanted x u ≡ Some y → Goes y
  g_mark nth v value wanted (task.Ends raised ended step cleared) y e = when_then Goes _ _ y e (λ _. stays _)
  g_mark nth v value wanted u y e = absurd (cc)

  g_claim : (oid head : ℕ) (o : Option (ℕ × ℕ × ℕ × ℕ)) (y : Part) → install_claim oid head x o ≡ Some y → Goes y
  g_claim oid head None y e = absurd (cc)
  g_claim oid head (Some at) y e =
      if_then Goes (adds_version x) (install_new oid head x at) (release_old oid head x at) y e
      (λ _ e2. when_then Goes _ _ y e2 (λ _. record { ending = decided_ends x.place decided; over = refl; remains = dropped at.1 }))
      (λ _ e2. when_then Goes _ _ y e2 (λ _. record { ending = decided_ends x.place decided; over = refl; remains = dropped at.1 }))
    where
      dropped : (place : ℕ) → Remains x.current (without_entry place x.current)
      dropped place = record { work = claim_same x.current place _ refl; stamp = refl; succ = refl; pred = refl; decision = refl }

  g_install : (oid head : ℕ) (u : Task) (y : Part) → install oid head x u ≡ Some y → Goes y
  g_install oid head task.Refused y e =
      let claims = length x.current.writes in
      let v = (claim_at x.current (last_claim x.current)).version in
      when_then Goes _ _ y e (λ g.
      absurd (let off = decided_inactive x.place decided in
      let active : is_active x.place ≡ true =
      (and_parts _ _ (and_parts _ _ (and_parts _ _ g).0).0).0 in
      cc))
  g_install oid head u y e = g_claim oid head (end_of u) y e

  g_clear : (v : VersionAt) (o : Option (ℕ × ℕ × ℕ × ℕ)) (y : Part) → clear_reader v x o ≡ Some y → Goes y
  g_clear v None y e = absurd (cc)
  g_clear v (Some at) y e = when_then Goes _ _ y e (λ _. stays _)

  g_back : (value : ℕ) (pl : Place) (y : Part) → store_back value x pl ≡ Some y → Goes y
  g_back value (Decided tail stamp) y e = when_then Goes _ _ y e (λ _. record { ending = decided_ends x.place decided; over = refl; remains = remains_same x.current })
  g_back value _ y e = absurd (cc)

  g_begin : (seat value : ℕ) (pl : Place) (y : Part) → is_decided pl ≡ true → store_begin seat value x pl ≡ Some y → Goes y
  g_begin seat value (Decided tail stamp) y is e = when_then Goes _ _ y e (λ _. record { ending = refl; over = refl; remains = remains_same x.current })
  g_begin seat value _ y is e = absurd (cc)

  goes : (seat : ℕ) (k : Kind) (found : ℕ) (s : Shared) (y : Part) → IsOfEnd k → part_after seat k found s x ≡ Some y → Goes y
  goes seat (kind.RaiseReader v value) found s y of e = g_raise v value x.task y e
  goes seat (kind.StoreCell place cell w value) found s y of e = g_store place cell w value y e
  goes seat (kind.StoreSucc v value) found s y of e = g_mark 6 v value x.current.succ x.task y e
  goes seat (kind.StoreOverwriter v value) found s y of e = g_mark 7 v value x.current.stamp x.task y e
  goes seat (kind.Install oid head) found s y of e = g_install oid head x.task y e
  goes seat (kind.ClearReader v) found s y of e = g_clear v (end_of x.task) y e
  goes seat (kind.StoreBack value) found s y of e = g_back value x.place y e
  goes seat (kind.StoreBegin value) found s y of e = g_begin seat value x.place y decided e
  goes seat k found s y of e = absurd of

-- how much of an end is left before the begin word is cleared
abbrev pub end_weight_of : Ahead → ℕ
end_weight_of a = if nat_lt 1 a.stages then a.left + 1 else 0

abbrev pub end_weight : Part → ℕ
end_weight x = end_weight_of (ahead x)

less_weight : (stages left more left_more : ℕ) → more ≡ 2 → (stages < more) ⊎ ((stages ≡ more) × (left < left_more)) → (if nat_lt 1 stages then left + 1 else 0) < (if nat_lt 1 more then left_more + 1 else 0)
less_weight stages left more left_more two (inl fewer) = grind arith
less_weight stages left more left_more two (inr both) = let same = both.0 in let less = both.1 in grind arith

end_lighter : (a b : Ahead) → b.stages ≡ 2 → IsLess a b → end_weight_of a < end_weight_of b
end_lighter a b two (fewer_stages fewer) = less_weight a.stages a.left b.stages b.left two (inl fewer)
end_lighter a b two (less_left same less) = less_weight a.stages a.left b.stages b.left two (inr (same, less))

-- how far the end has come since it was decided
pub record Since (sessions seat : ℕ) (b c : Core) : Type 0 where
  pub only : OnlyAt sessions seat b c
  pub ending : is_ending (c.seats seat).place ≡ true
  pub over : (c.seats seat).over ≡ (b.seats seat).over
  pub remains : Remains (b.seats seat).current (c.seats seat).current

pub since_none : (sessions seat : ℕ) (b : Core) → is_ending (b.seats seat).place ≡ true → Since sessions seat b b
since_none sessions seat b ending = record {
  only = record { others = λ q other. refl; opening = refl; tail = refl; flushed = refl };
  ending = ending;
  over = refl;
  remains = remains_same (b.seats seat).current;
}

-- a step that moves neither the end of the log nor the place flushed
pub only_step : (sessions seat : ℕ) (b c d : Core) (k : Kind) → Sound c → MeetsOne k → drawn_by k ≡ 0 → ((n : ℕ) → flushed_by k n ≡ n) → OnlyAt sessions seat b c → after_event c seat k ≡ Some d
    → OnlyAt sessions seat b d
only_step sessions seat b c d k sound one none still only e =
    let change = changes_one sessions seat c d k sound one e in
    let before = only.tail in
    record {
      others = λ q other. others_stay c d seat k one e q other ∙ only.others q other;
      opening = change.opening ∙ only.opening;
      tail = (let h = change.tail in omega (arith, h, none, before));
      flushed = change.flushed ∙ still c.shared.flushed ∙ only.flushed;
    }

-- Of a decided transaction: what is said of the next step.
module _ (c : Core) (seat : ℕ) (sound : Sound c) (session : is_session seat ≡ true) (decided : is_decided (c.seats seat).place ≡ true) where
  abbrev x : Part
  x = c.seats seat

  abbrev k_next : Kind
  k_next = next_end x.current x.back x.task

  fits_at : (pl : Place) → is_decided pl ≡ true → TaskFits pl x.current x.task → InEnd x.current x.task
  fits_at (Decided tail stamp) e fits = fits
  fits_at _ e fits = absurd (cc)

  fits : InEnd x.current x.task
  fits = fits_at x.place decided (sound.own seat).task.fits

  pub of_end : IsOfEnd k_next
  of_end = end_kind x.current x.back x.task fits

  kind_at : (pl : Place) → is_decided pl ≡ true → next_at some_block x pl x.task ≡ k_next
  kind_at (Decided tail stamp) e = refl
  kind_at _ e = absurd (cc)

  call_at : (pl : Place) → is_decided pl ≡ true → IsInCall pl x.task
  call_at (Decided tail stamp) e = tt
  call_at _ e = absurd (cc)

  write_at : (pl : Place) → x.place ≡ pl → is_decided pl ≡ true → MayWrite some_block x
  write_at (Decided tail stamp) at e = subst (λ p. FitsAt some_block x.current x.run p x.task) (sym at) tt
  write_at _ at e = absurd (cc)

  no_wait : (u : Task) → x.task ≡ u → InEnd x.current u → Waits c seat → ⊥
  no_wait (task.Ends raised ended step cleared) at f (for_owner oid owner is none) = absurd (cc)
  no_wait (task.Ends raised ended step cleared) at f (for_overwriter read owner is none) = absurd (cc)
  no_wait (task.Ends raised ended step cleared) at f (for_reader write bits reader is least none) = absurd (cc)
  no_wait (task.Ends raised ended step cleared) at f (for_begin other is another some below) = absurd (cc)
  no_wait u at f w = absurd f

  no_unsafe : (u : Task) → x.task ≡ u → InEnd x.current u → IsUnsafe c seat → ⊥
  no_unsafe (task.Ends raised ended step cleared) at f unsafe = let behind = unsafe.behind in absurd (cc)
  no_unsafe u at f unsafe = absurd f

  on : MovesOn c seat (next_kind some_block x)
  on =
      ⊎_elim (λ (m : MovesOn c seat (next_kind some_block x)). m)
      (λ (stands : Waits c seat ⊎ IsUnsafe c seat).
      ⊎_elim (λ (w : Waits c seat). absurd (no_wait x.task refl fits w)) (λ (unsafe : IsUnsafe c seat). absurd (no_unsafe x.task refl fits unsafe)) stands)
      (goes_from c seat sound some_block (λ tail is. session) (λ numbers. session) (call_at x.place decided) (write_at x.place refl decided))

  pub end_taken : IsTaken c seat k_next
  end_taken = subst (IsTaken c seat) (kind_at x.place decided) (on.after, on.taken)

  two_at : (pl : Place) (u : Task) → is_decided pl ≡ true → InEnd x.current u → (ahead_at x.current x.back pl u).stages ≡ 2
  two_at (Decided tail stamp) (task.Ends raised ended step cleared) e f = refl
  two_at (Decided tail stamp) u e f = absurd f
  two_at _ u e f = absurd (cc)

  pub end_less : (d : Core) → after_event c seat k_next ≡ Some d → end_weight (d.seats seat) < end_weight x
  end_less d after =
      let nearer : IsLess (ahead (on.after.seats seat)) (ahead x) = comes_nearer c seat sound some_block (call_at x.place decided) on in
      let same : d ≡ on.after = one_after c d on.after seat k_next (subst (λ k. after_event c seat k ≡ Some on.after) (kind_at x.place decided) on.taken) after in
      end_lighter (ahead (d.seats seat)) (ahead x) (two_at x.place x.task decided fits) (subst (λ (to : Core). IsLess (ahead (to.seats seat)) (ahead x)) (sym same) nearer)

  pub end_since : (sessions : ℕ) (b d : Core) → Since sessions seat b c → after_event c seat k_next ≡ Some d → Since sessions seat b d
  end_since sessions b d since after =
      let of = ends_free k_next of_end in
      let step = moves c seat k_next d (meets_one k_next of.one) after in
      let own : d.seats seat ≡ step.part = own_after c seat k_next d step in
      let g = subst (λ y. Goes x decided y) (sym own) (goes x decided seat k_next (word_at c (spot_of seat k_next)) c.shared step.part of_end step.after) in
      record {
        only = only_step sessions seat b c d k_next sound of.one of.drawn of.flushed since.only after;
        ending = g.ending;
        over = g.over ∙ since.over;
        remains = remains_both (b.seats seat).current x.current (d.seats seat).current since.remains g.remains;
      }

-- The last step: the transaction is over.
module _ (c : Core) (seat : ℕ) (sound : Sound c) (leaving : IsLeaving (c.seats seat).place) where
  abbrev z : Part
  z = c.seats seat

  abbrev over_part : Part
  over_part = over z.current.decision (record z { place = Idle })

  stored_at : (pl : Place) → IsLeaving pl → store_state seat 0 z pl ≡ Some over_part
  stored_at (Leaving stamp) e = refl
  stored_at _ e = absurd e

  last_step : after_event c seat (kind.StoreState 0) ≡ Some (stepped c seat (kind.StoreState 0) over_part)
  last_step = taken c seat (kind.StoreState 0) over_part tt refl (stored_at z.place leaving)

  pub last_taken : IsTaken c seat (kind.StoreState 0)
  last_taken = (stepped c seat (kind.StoreState 0) over_part, last_step)

  rest_at : (pl : Place) → IsLeaving pl → TaskFits pl z.current z.task → z.task ≡ task.Rest
  rest_at (Leaving stamp) e fits = fits
  rest_at _ e fits = absurd e

  module _ (d : Core) (after : after_event c seat (kind.StoreState 0) ≡ Some d) where
    is : d.seats seat ≡ over_part
    is = part_stepped c d seat (kind.StoreState 0) over_part last_step after

    pub last_rests : RestsAt seat Idle d
    last_rests = record {
      place = ap (λ (y : Part). y.place) is;
      rests = ap (λ (y : Part). y.task) is ∙ rest_at z.place leaving (sound.own seat).task.fits;
    }

    pub last_left : (sessions : ℕ) (b : Core) → Since sessions seat b c → HasLeft sessions seat b d
    last_left sessions b since = record {
      only = only_step sessions seat b c d (kind.StoreState 0) sound tt refl (λ n. refl) since.only after;
      last = z.current;
      remains = since.remains;
      over = ap (λ (y : Part). y.over) is ∙ ap (λ (ts : List Attempt). ts ++ z.current ∷ []) since.over;
    }
