-- What a step changes of what its seat has seen, and of its unfinished range.
use Rattle.std.proofs.Common.{◌≡◌, ℕ, ◌+◌, ◌≤◌, ◌⊎◌, Some, refl, inl, inr, arith}
use Rattle.erm_machine.specs.declared.event.Kind.{Kind}
use Rattle.erm_machine.specs.declared.event.Kind.TheVariants as kind
use Rattle.erm_machine.specs.declared.event.TailUse.{TailUse}
use Rattle.erm_machine.specs.declared.event.TailUse.TheVariants as purpose
use Rattle.erm_machine.specs.declared.part.Part.{Part}
use Rattle.erm_machine.specs.declared.place.Place.{Place}
use Rattle.erm_machine.specs.declared.place.Place.TheVariants.{Idle, Begun, Announced, Active, Sealing, Drawn, Sealed, Decided, Leaving}
use Rattle.erm_machine.specs.declared.task.Task.{Task}
use Rattle.erm_machine.specs.declared.task.Task.TheVariants as task
use Rattle.erm_machine.specs.Core.{Core, spot_of, word_at}
use Rattle.erm_machine.specs.Life.{load_tail, load_tail_to_begin, load_tail_for_horizon, add_tail, store_begin, store_state, load_begin, decide}
use Rattle.erm_machine.specs.Words.{is_flusher}
use Rattle.erm_machine.proofs.Backs.{active_begin_then}
use Rattle.erm_machine.proofs.Guards.{when_then, either_way}
use Rattle.erm_machine.proofs.Quiet.{Quiet}
use Rattle.erm_machine.proofs.QuietKinds.{IsQuiet, Moves, quiet_kind}

-- a step that notes no bound: what was seen is no more than the tail, and a range that is new starts at the tail
pub record Sees (now later : ℕ) (x y : Part) : Type 0 where
  pub seen : y.seen ≤ later
  pub clear : y.clear ≡ x.clear
  pub stamp : (y.current.stamp ≡ x.current.stamp) ⊎ ((y.current.stamp ≡ 0) ⊎ (y.current.stamp ≡ now))

sees_quiet : (now : ℕ) (x : Part) (t : Task) (y : Part) → x.seen ≤ now → Quiet x t y → Sees now now x y
sees_quiet now x t y seen q = record { seen = let e = q.seen in omega (arith, seen, e); clear = q.clear; stamp = inl q.steady.stamp }

module _ (now : ℕ) (x : Part) (seen : x.seen ≤ now) where
  sees_begin : (p : ℕ) (pl : Place) (y : Part) → load_tail_to_begin p now x pl ≡ Some y → Sees now now x y
  sees_begin p Idle y e = when_then (Sees now now x) _ _ y e (λ _. record { seen = omega arith; clear = refl; stamp = inl refl })
  sees_begin p (Announced tail) y e = when_then (Sees now now x) _ _ y e (λ _. record { seen = omega arith; clear = refl; stamp = inr (inl refl) })
  sees_begin p _ y e = absurd (cc)

  sees_horizon : (t : Task) (y : Part) → load_tail_for_horizon now x t ≡ Some y → Sees now now x y
  sees_horizon (task.Claimed version) y e = when_then (Sees now now x) _ _ y e (λ _. record { seen = omega arith; clear = refl; stamp = inl refl })
  sees_horizon _ y e = absurd (cc)

  pub sees_tail : (p : ℕ) (reason : TailUse) (y : Part) → load_tail p reason now x ≡ Some y → Sees now now x y
  sees_tail p purpose.Begin y e = sees_begin p x.place y e
  sees_tail p purpose.Horizon y e = sees_horizon x.task y e
  sees_tail p purpose.Gather y e = when_then (Sees now now x) _ _ y e (λ _. record { seen = omega arith; clear = refl; stamp = inl refl })

  pub sees_draw : (p size : ℕ) (pl : Place) (y : Part) → add_tail p size now x pl ≡ Some y → Sees now (now + size) x y
  sees_draw p size (Sealing tail) y e = when_then (Sees now (now + size) x) _ _ y e (λ _. record { seen = omega arith; clear = refl; stamp = inr (inr refl) })
  sees_draw p size _ y e = absurd (cc)

  pub sees_store_begin : (p value : ℕ) (pl : Place) (y : Part) → store_begin p value x pl ≡ Some y → Sees now now x y
  sees_store_begin p value (Begun tail) y e = when_then (Sees now now x) _ _ y e (λ _. record { seen = seen; clear = refl; stamp = inl refl })
  sees_store_begin p value (Active tail) y e =
      active_begin_then (Sees now now x) p value tail x y e
      (λ _ _. either_way (Sees now now x) (is_flusher p) _ _
      (λ _. record { seen = seen; clear = refl; stamp = inr (inl refl) }) (λ _. record { seen = seen; clear = refl; stamp = inr (inl refl) }))
      (λ _ _ _ _. record { seen = seen; clear = refl; stamp = inl refl })
  sees_store_begin p value (Decided tail stamp) y e = when_then (Sees now now x) _ _ y e (λ _. record { seen = seen; clear = refl; stamp = inl refl })
  sees_store_begin p value _ y e = absurd (cc)

  pub sees_store_state : (p value : ℕ) (pl : Place) (y : Part) → store_state p value x pl ≡ Some y → Sees now now x y
  sees_store_state p value (Active tail) y e = when_then (Sees now now x) _ _ y e (λ _. record { seen = seen; clear = refl; stamp = inl refl })
  sees_store_state p value (Drawn tail stamp) y e = when_then (Sees now now x) _ _ y e (λ _. record { seen = seen; clear = refl; stamp = inl refl })
  sees_store_state p value (Leaving stamp) y e = when_then (Sees now now x) _ _ y e (λ _. record { seen = seen; clear = refl; stamp = inr (inl refl) })
  sees_store_state p value _ y e = absurd (cc)

  pub sees_load_begin : (p other found : ℕ) (t : Task) (y : Part) → load_begin p other found x t ≡ Some y → Sees now now x y
  sees_load_begin p other found (task.Horizon version least next) y e = when_then (Sees now now x) _ _ y e (λ _. record { seen = seen; clear = refl; stamp = inl refl })
  sees_load_begin p other found (task.Surveys next) y e = when_then (Sees now now x) _ _ y e (λ _. record { seen = seen; clear = refl; stamp = inl refl })
  sees_load_begin p other found _ y e = absurd (cc)

  pub sees_decide : (at header : ℕ) (pl : Place) (t : Task) (y : Part) → decide at header x pl t ≡ Some y → Sees now now x y
  sees_decide at header (Sealed tail stamp) (task.Fills words) y e = when_then (Sees now now x) _ _ y e (λ _. record { seen = seen; clear = refl; stamp = inl refl })
  sees_decide at header _ _ y e = absurd (cc)

-- kinds that note no bound and draw no range
abbrev pub NotesNone : Kind → Type 0
NotesNone (kind.AddTail size) = ⊥
NotesNone (kind.LoadState other bound) = ⊥
NotesNone (kind.Split other) = ⊥
NotesNone (kind.Join other) = ⊥
NotesNone _ = Unit {0}

sees_when_quiet : (c : Core) (p : ℕ) (k : Kind) (d : Core) → IsQuiet k → (c.seats p).seen ≤ c.shared.tail → (m : Moves c p k d) →
    Sees c.shared.tail c.shared.tail (c.seats p) m.part
sees_when_quiet c p k d q seen m = sees_quiet c.shared.tail (c.seats p) (c.seats p).task m.part seen (quiet_kind p k (word_at c (spot_of p k)) c.shared (c.seats p) m.part q m.after)

pub sees : (c : Core) (p : ℕ) (k : Kind) (d : Core) → NotesNone k → (c.seats p).seen ≤ c.shared.tail → (m : Moves c p k d) →
    Sees c.shared.tail c.shared.tail (c.seats p) m.part
sees c p (kind.LoadTail reason) d n seen m = sees_tail c.shared.tail (c.seats p) seen p reason m.part m.after
sees c p (kind.AddTail size) d n seen m = absurd n
sees c p (kind.StoreBegin value) d n seen m = sees_store_begin c.shared.tail (c.seats p) seen p value (c.seats p).place m.part m.after
sees c p (kind.StoreState value) d n seen m = sees_store_state c.shared.tail (c.seats p) seen p value (c.seats p).place m.part m.after
sees c p (kind.LoadBegin other) d n seen m = sees_load_begin c.shared.tail (c.seats p) seen p other _ (c.seats p).task m.part m.after
sees c p (kind.LoadState other bound) d n seen m = absurd n
sees c p (kind.Split other) d n seen m = absurd n
sees c p (kind.Join other) d n seen m = absurd n
sees c p (kind.Decide at header) d n seen m = sees_decide c.shared.tail (c.seats p) seen at header (c.seats p).place (c.seats p).task m.part m.after
sees c p k d n seen m = sees_when_quiet c p k d tt seen m
