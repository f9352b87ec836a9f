-- What a step changes of its seat's begin, and of its horizon.
use Rattle.std.proofs.Common.{◌≡◌, ℕ, ◌+◌, ◌<◌, ◌≤◌, ◌⊎◌, Bool, Some, None, refl, sym, subst, inl, inr, arith}
use Rattle.std.specs.Prelude.{if◌then◌else◌}
use Rattle.std.proofs.lemmas.Bool.{and_parts, leb-true}
use Rattle.erm_machine.specs.declared.limits.TheConstants.{LEAST_BLOCK}
use Rattle.erm_machine.specs.declared.event.Kind.{Kind}
use Rattle.erm_machine.specs.declared.event.Kind.TheVariants as kind
use Rattle.erm_machine.specs.declared.event.TailUse.TheVariants as purpose
use Rattle.erm_machine.specs.declared.part.Part.{Part}
use Rattle.erm_machine.specs.declared.place.Place.{Place}
use Rattle.erm_machine.specs.declared.place.Place.TheVariants.{Vacant, Idle, Begun, Announced, Active, Sealing, Drawn, Sealed, Decided, Leaving}
use Rattle.erm_machine.specs.declared.task.Task.{Task}
use Rattle.erm_machine.specs.declared.task.Task.TheVariants as task
use Rattle.erm_machine.specs.Begins.{IsTail, IsBegin, IsSealedBegin, BeginsAt, horizon_of, OwnBegins}
use Rattle.erm_machine.specs.Core.{Core, spot_of, word_at}
use Rattle.erm_machine.specs.Facts.{HasBegun}
use Rattle.erm_machine.specs.Life.{load_tail_to_begin, load_tail_to_gather, add_tail, store_begin, store_state, after_passed, load_begin, load_state, after_clear, decide}
use Rattle.erm_machine.specs.Words.{state_of, is_flusher}
use Rattle.erm_machine.proofs.Backs.{active_begin_then}
use Rattle.erm_machine.proofs.Guards.{when_then, either_way}
use Rattle.erm_machine.proofs.Quiet.{KeepsHorizon, no_horizon, same_horizon, Quiet}
use Rattle.erm_machine.proofs.QuietKinds.{IsQuiet, Moves, quiet_kind}

-- a begin against a tail that has grown
pub begins_later : (pl : Place) (begin now later : ℕ) → now ≤ later → BeginsAt pl begin now → BeginsAt pl begin later
begins_later Vacant begin now later grows b = tt
begins_later Idle begin now later grows b = tt
begins_later (Begun tail) begin now later grows b = let h = b.1 in (b.0, omega (arith, h, grows))
begins_later (Announced tail) begin now later grows b = let h = b.1 in (b.0, omega (arith, h, grows))
begins_later (Active tail) begin now later grows b = record { positive = b.positive; announced = b.announced; past = let h = b.past in omega (arith, h, grows) }
begins_later (Sealing tail) begin now later grows b = record { positive = b.positive; announced = b.announced; past = let h = b.past in omega (arith, h, grows) }
begins_later (Drawn tail stamp) begin now later grows b = record {
  is_begin = record { positive = b.is_begin.positive; announced = b.is_begin.announced; past = let h = b.is_begin.past in omega (arith, h, grows) };
  sealed = b.sealed;
  drawn = let h = b.drawn in omega (arith, h, grows);
}
begins_later (Sealed tail stamp) begin now later grows b = record {
  is_begin = record { positive = b.is_begin.positive; announced = b.is_begin.announced; past = let h = b.is_begin.past in omega (arith, h, grows) };
  sealed = b.sealed;
  drawn = let h = b.drawn in omega (arith, h, grows);
}
begins_later (Decided tail stamp) begin now later grows b = record {
  is_begin = record { positive = b.is_begin.positive; announced = b.is_begin.announced; past = let h = b.is_begin.past in omega (arith, h, grows) };
  sealed = b.sealed;
  drawn = let h = b.drawn in omega (arith, h, grows);
}
begins_later (Leaving stamp) begin now later grows b = let h = b.1 in (b.0, omega (arith, h, grows))

keeps_if : (t : Task) (b : Bool) (u v : Task) → KeepsHorizon t u → KeepsHorizon t v → KeepsHorizon t (if b then u else v)
keeps_if t b u v f g = either_way (KeepsHorizon t) b u v (λ _. f) (λ _. g)

keeps_plain : (t u : Task) → horizon_of u ≡ None → KeepsHorizon t u
keeps_plain t u e = record { kept = inl e }

-- a step that leaves the horizon, or drops it: a new begin stamp is the tail
pub record Paces (now later : ℕ) (x y : Part) : Type 0 where
  pub begins : BeginsAt y.place y.current.begin later
  pub begun : HasBegun y.place → (HasBegun x.place × (y.current.begin ≡ x.current.begin)) ⊎ ((y.current.begin ≡ now) × (horizon_of y.task ≡ None))
  pub horizon : KeepsHorizon x.task y.task

paces_quiet : (now : ℕ) (x y : Part) → BeginsAt x.place x.current.begin now → Quiet x x.task y → Paces now now x y
paces_quiet now x y b q = record {
  begins = subst (λ pl. BeginsAt pl y.current.begin now) (sym q.steady.place) (subst (λ n. BeginsAt x.place n now) (sym q.steady.begin) b);
  begun = λ h. inl (subst HasBegun q.steady.place h, q.steady.begin);
  horizon = q.horizon;
}

module _ (now : ℕ) (positive : 0 < now) (x : Part) (b : BeginsAt x.place x.current.begin now) where
  at_place : (pl : Place) → x.place ≡ pl → BeginsAt pl x.current.begin now
  at_place pl at = subst (λ q. BeginsAt q x.current.begin now) at b

  has_begun : (pl : Place) → x.place ≡ pl → HasBegun pl → HasBegun x.place
  has_begun pl at h = subst HasBegun (sym at) h

  pub paces_begin : (p : ℕ) (pl : Place) (y : Part) → x.place ≡ pl → load_tail_to_begin p now x pl ≡ Some y → Paces now now x y
  paces_begin p Idle y at e =
      when_then (Paces now now x) _ _ y e (λ _. record {
        begins = either_way (λ pl. BeginsAt pl x.current.begin now) _ Idle (Begun now) (λ _. tt) (λ _. (positive, omega arith));
        begun = either_way (λ pl. HasBegun pl → (HasBegun x.place × (x.current.begin ≡ x.current.begin)) ⊎ ((x.current.begin ≡ now) × (horizon_of x.task ≡ None))) _ Idle (Begun now)
            (λ _ h. absurd h) (λ _ h. absurd h);
        horizon = same_horizon x.task;
      })
  paces_begin p (Announced tail) y at e =
      let old : IsTail tail now = at_place (Announced tail) at in
      when_then (Paces now now x) _ _ y e (λ _. record {
        begins = record { positive = old.0; announced = old.1; past = omega arith };
        begun = λ _. inr (refl, refl);
        horizon = no_horizon _ _ (record { plain = refl });
      })
  paces_begin p _ y at e = absurd (cc)

  pub paces_draw : (p size : ℕ) (pl : Place) (y : Part) → x.place ≡ pl → add_tail p size now x pl ≡ Some y → Paces now (now + size) x y
  paces_draw p size (Sealing tail) y at e =
      let old : IsBegin tail x.current.begin now = at_place (Sealing tail) at in
      when_then (Paces now (now + size) x) _ _ y e (λ g.
      let is = leb-true LEAST_BLOCK size (and_parts _ _ (and_parts _ _ g).0).1 in
      record {
        begins = record {
          is_begin = record { positive = old.positive; announced = old.announced; past = let h = old.past in omega (arith, h) };
          sealed = old.past;
          drawn = omega (arith, is);
        };
        begun = λ _. inl (has_begun (Sealing tail) at tt, refl);
        horizon = same_horizon x.task;
      })
  paces_draw p size _ y at e = absurd (cc)

  pub paces_store_begin : (p value : ℕ) (pl : Place) (y : Part) → x.place ≡ pl → store_begin p value x pl ≡ Some y → Paces now now x y
  paces_store_begin p value (Begun tail) y at e =
      when_then (Paces now now x) _ _ y e (λ _. record { begins = at_place (Begun tail) at; begun = λ h. absurd h; horizon = same_horizon x.task })
  paces_store_begin p value (Active tail) y at e =
      let old : IsBegin tail x.current.begin now = at_place (Active tail) at in
      active_begin_then (Paces now now x) p value tail x y e
      (λ _ _. either_way (Paces now now x) (is_flusher p) _ _
      (λ _. record { begins = tt; begun = λ h. absurd h; horizon = no_horizon _ _ (record { plain = refl }) })
      (λ _. record { begins = tt; begun = λ h. absurd h; horizon = no_horizon _ _ (record { plain = refl }) }))
      (λ _ is _ _. record {
        begins = record {
          positive = let a = old.positive in let b = old.announced in omega (arith, a, b, is);
          announced = omega (arith, is);
          past = old.past;
        };
        begun = λ _. inl (has_begun (Active tail) at tt, refl);
        horizon = no_horizon _ _ (record { plain = refl });
      })
  paces_store_begin p value (Decided tail stamp) y at e =
      let old : IsSealedBegin tail x.current.begin stamp now = at_place (Decided tail stamp) at in
      when_then (Paces now now x) _ _ y e (λ _. record { begins = (old.sealed, old.drawn); begun = λ h. absurd h; horizon = no_horizon _ _ (record { plain = refl }) })
  paces_store_begin p value _ y at e = absurd (cc)

  pub paces_store_state : (p value : ℕ) (pl : Place) (y : Part) → x.place ≡ pl → store_state p value x pl ≡ Some y → Paces now now x y
  paces_store_state p value (Active tail) y at e =
      when_then (Paces now now x) _ _ y e (λ _. record {
        begins = at_place (Active tail) at;
        begun = λ _. inl (has_begun (Active tail) at tt, refl);
        horizon = no_horizon _ _ (record { plain = refl });
      })
  paces_store_state p value (Drawn tail stamp) y at e =
      when_then (Paces now now x) _ _ y e (λ _. record {
        begins = at_place (Drawn tail stamp) at;
        begun = λ _. inl (has_begun (Drawn tail stamp) at tt, refl);
        horizon = same_horizon x.task;
      })
  paces_store_state p value (Leaving stamp) y at e =
      when_then (Paces now now x) _ _ y e (λ _. record { begins = tt; begun = λ h. absurd h; horizon = same_horizon x.task })
  paces_store_state p value _ y at e = absurd (cc)

  pub paces_decide : (stamp_at header : ℕ) (pl : Place) (t : Task) (y : Part) → x.place ≡ pl → decide stamp_at header x pl t ≡ Some y → Paces now now x y
  paces_decide stamp_at header (Sealed tail stamp) (task.Fills words) y at e =
      when_then (Paces now now x) _ _ y e (λ _. record {
        begins = at_place (Sealed tail stamp) at;
        begun = λ _. inl (has_begun (Sealed tail stamp) at tt, refl);
        horizon = no_horizon _ _ (record { plain = refl });
      })
  paces_decide stamp_at header _ _ y at e = absurd (cc)

  -- a step that leaves the place, the begin stamp and the task's horizon
  paces_same : (y : Part) → y.place ≡ x.place → y.current.begin ≡ x.current.begin → KeepsHorizon x.task y.task → Paces now now x y
  paces_same y place begin h = record {
    begins = subst (λ pl. BeginsAt pl y.current.begin now) (sym place) (subst (λ n. BeginsAt x.place n now) (sym begin) b);
    begun = λ begun. inl (subst HasBegun place begun, begin);
    horizon = h;
  }

  clear_horizon : (other bound : ℕ) (t : Task) → KeepsHorizon t (after_clear other bound x t)
  clear_horizon other bound (task.Owned oid owner) = search (keeps_if, keeps_plain)
  clear_horizon other bound (task.ReadOwned read owner) = search (keeps_if, keeps_plain)
  clear_horizon other bound (task.ReadersLeft write bits) = search (keeps_if, keeps_plain)
  clear_horizon other bound _ = record { kept = inr refl }

  passed_keeps : (t : Task) (next : ℕ) → KeepsHorizon t (after_passed next)
  passed_keeps t next = search (keeps_if, keeps_plain)

  pub paces_survey : (p other found next : ℕ) (y : Part) → load_begin p other found x (task.Surveys next) ≡ Some y → Paces now now x y
  paces_survey p other found next y e =
      when_then (Paces now now x) _ _ y e (λ _. paces_same _ refl refl (search (keeps_if, keeps_plain, passed_keeps)))

  pub paces_look : (p other bound found : ℕ) (y : Part) → load_state p other bound found x ≡ Some y → Paces now now x y
  paces_look p other bound found y e =
      when_then (Paces now now x) _ _ y e (λ _.
      paces_same _ refl refl (keeps_if x.task _ (after_clear other bound x x.task) x.task (clear_horizon other bound x.task) (same_horizon x.task)))

  pub paces_gather : (p : ℕ) (y : Part) → load_tail_to_gather p now x ≡ Some y → Paces now now x y
  paces_gather p y e = when_then (Paces now now x) _ _ y e (λ _. paces_same _ refl refl (same_horizon x.task))

-- kinds that leave the horizon, or drop it, and draw no range
abbrev pub KeepsPace : Kind → Type 0
KeepsPace (kind.LoadTail purpose.Horizon) = ⊥
KeepsPace (kind.LoadTail _) = Unit {0}
KeepsPace (kind.AddTail size) = ⊥
KeepsPace (kind.LoadBegin other) = ⊥
KeepsPace (kind.Split other) = ⊥
KeepsPace (kind.Join other) = ⊥
KeepsPace _ = Unit {0}

paces_when_quiet : (c : Core) (p : ℕ) (k : Kind) (d : Core) → IsQuiet k → OwnBegins c.shared p (c.seats p) → (m : Moves c p k d) →
    Paces c.shared.tail c.shared.tail (c.seats p) m.part
paces_when_quiet c p k d q own m =
    paces_quiet c.shared.tail (c.seats p) m.part own.begins (quiet_kind p k (word_at c (spot_of p k)) c.shared (c.seats p) m.part q m.after)

pub paces : (c : Core) (p : ℕ) (k : Kind) (d : Core) → KeepsPace k → 0 < c.shared.tail → OwnBegins c.shared p (c.seats p) → (m : Moves c p k d) →
    Paces c.shared.tail c.shared.tail (c.seats p) m.part
paces c p (kind.LoadTail purpose.Begin) d n positive own m = paces_begin c.shared.tail positive (c.seats p) own.begins p (c.seats p).place m.part refl m.after
paces c p (kind.LoadTail purpose.Horizon) d n positive own m = absurd n
paces c p (kind.LoadTail purpose.Gather) d n positive own m = paces_gather c.shared.tail positive (c.seats p) own.begins p m.part m.after
paces c p (kind.AddTail size) d n positive own m = absurd n
paces c p (kind.StoreBegin value) d n positive own m = paces_store_begin c.shared.tail positive (c.seats p) own.begins p value (c.seats p).place m.part refl m.after
paces c p (kind.StoreState value) d n positive own m = paces_store_state c.shared.tail positive (c.seats p) own.begins p value (c.seats p).place m.part refl m.after
paces c p (kind.LoadBegin other) d n positive own m = absurd n
paces c p (kind.LoadState other bound) d n positive own m = paces_look c.shared.tail positive (c.seats p) own.begins p other bound (state_of (c.seats other).place) m.part m.after
paces c p (kind.Split other) d n positive own m = absurd n
paces c p (kind.Join other) d n positive own m = absurd n
paces c p (kind.Decide at header) d n positive own m =
    paces_decide c.shared.tail positive (c.seats p) own.begins at header (c.seats p).place (c.seats p).task m.part refl m.after
paces c p k d n positive own m = paces_when_quiet c p k d tt own m
