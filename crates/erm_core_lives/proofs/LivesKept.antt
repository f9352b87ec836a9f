-- Each event keeps what seats' transactions have in order.
use Rattle.std.proofs.Common.{◌≡◌, ℕ, Bool, true, false, Option, Some, None, refl, sym, subst}
use Rattle.std.specs.Prelude.{if◌then◌else◌}
use Rattle.std.proofs.lemmas.Option.{same_Some}
use Rattle.erm_machine.specs.declared.event.Counter.{Counter}
use Rattle.erm_machine.specs.declared.event.Counter.TheVariants.{Objects, Cells}
use Rattle.erm_machine.specs.declared.event.Kind.{Kind}
use Rattle.erm_machine.specs.declared.event.Kind.TheVariants as kind
use Rattle.erm_machine.specs.declared.event.TailUse.{TailUse}
use Rattle.erm_machine.specs.declared.event.TailUse.TheVariants as purpose
use Rattle.erm_machine.specs.declared.part.Part.{Part}
use Rattle.erm_machine.specs.Core.{Core, Shared, spot_of, word_at}
use Rattle.erm_machine.specs.Life.{split, join}
use Rattle.erm_machine.specs.Lives.{OwnLives}
use Rattle.erm_machine.specs.Sound.{Sound}
use Rattle.erm_machine.specs.Step.{after_event, shared_after, with_counter, with_part}
use Rattle.erm_machine.specs.Words.{put}
use Rattle.erm_machine.proofs.Frames.{each_seat}
use Rattle.erm_machine.proofs.Guards.{when_then}
use Rattle.erm_machine.proofs.QuietKinds.{IsQuiet, MeetsOne, Moves, moves, quiet_kind}
use Rattle.erm_core_lives.proofs.Lasting.{lasting_kind}
use Rattle.erm_core_lives.proofs.LivesLists.{end_to_end_ascends}
use Rattle.erm_core_lives.proofs.LivesMoved.{stays_lives, begins_lives, draws_lives, announces_lives, seals_lives, decides_lives, split_lives, calm_lives, join_lives, horizon_lives, load_begin_lives, load_state_lives}

-- the run that is written, and the place where its log begins, stay
pub record SameOpening (s t : Shared) : Type 0 where
  pub run : t.run ≡ s.run
  pub opening : t.opening ≡ s.opening

counter_opening : (c : Counter) (n : ℕ) (s : Shared) → SameOpening s (with_counter c n s)
counter_opening Objects n s = record { run = refl; opening = refl }
counter_opening Cells n s = record { run = refl; opening = refl }

pub same_opening : (p : ℕ) (k : Kind) (found : ℕ) (x : Part) (s : Shared) → SameOpening s (shared_after p k found x s)
same_opening p (kind.AddCounter counter) found x s = counter_opening counter _ s
same_opening p _ found x s = record { run = refl; opening = refl }

opened_lives : (s t : Shared) (p : ℕ) (x : Part) → SameOpening s t → OwnLives s p x → OwnLives t p x
opened_lives s t p x same own =
    stays_lives s t p x x same.run same.opening
    (record { run = refl; number = refl; over = refl; progress = refl; begin = refl; stamp = refl; current = refl; left = own.left; pinned = own.pinned }) own

-- a part of one seat changes, and of what is shared nothing that counts here
kept_from : (c : Core) (p : ℕ) (y : Part) (t : Shared) (d : Core) → Sound c → SameOpening c.shared t → OwnLives c.shared p y → record { shared = t; seats = put c.seats p y } ≡ d
    → (q : ℕ) → OwnLives d.shared q (d.seats q)
kept_from c p y t d sound same new is =
    subst_core (record { shared = t; seats = put c.seats p y }) d is
    (each_seat (λ q (z : Part). OwnLives t q z) c.seats p y (opened_lives c.shared t p y same new) (λ q _. opened_lives c.shared t q (c.seats q) same (sound.own q).lives))
  where
    subst_core : (a b : Core) → a ≡ b → ((q : ℕ) → OwnLives a.shared q (a.seats q)) → (q : ℕ) → OwnLives b.shared q (b.seats q)
    subst_core a b e f = subst (λ (z : Core). (q : ℕ) → OwnLives z.shared q (z.seats q)) e f

kept_moved : (c : Core) (p : ℕ) (k : Kind) (d : Core) → Sound c → (m : Moves c p k d) → OwnLives c.shared p m.part → (q : ℕ) → OwnLives d.shared q (d.seats q)
kept_moved c p k d sound m new =
    let found : ℕ = word_at c (spot_of p k) in kept_from c p m.part (shared_after p k found (c.seats p) c.shared) d sound (same_opening p k found (c.seats p) c.shared) new (sym m.is)

tail_kept : (c : Core) (p : ℕ) (reason : TailUse) (d : Core) → Sound c → Moves c p (kind.LoadTail reason) d → (q : ℕ) → OwnLives d.shared q (d.seats q)
tail_kept c p purpose.Begin d sound m =
    kept_moved c p (kind.LoadTail purpose.Begin) d sound m
    (begins_lives c.shared p (c.seats p) (sound.own p).lives (end_to_end_ascends c.shared.opening c.shared.tail c.shared.log sound.common.ranges.end_to_end) (sound.own p).decided.drawn
    (c.seats p).place m.part refl m.after)
tail_kept c p purpose.Horizon d sound m =
    kept_moved c p (kind.LoadTail purpose.Horizon) d sound m (horizon_lives c.shared p (c.seats p) (sound.own p).lives c.shared.tail (c.seats p).task m.part m.after)
tail_kept c p purpose.Gather d sound m =
    kept_moved c p (kind.LoadTail purpose.Gather) d sound m
    (when_then (OwnLives c.shared p) _ _ m.part m.after (λ _. calm_lives c.shared p (c.seats p) (sound.own p).lives _ refl refl refl refl refl refl refl))

split_kept : (c : Core) (p other : ℕ) (d : Core) → Sound c → after_event c p (kind.Split other) ≡ Some d → (q : ℕ) → OwnLives d.shared q (d.seats q)
split_kept c p other d sound e = by_test _ e
  where
    from : (o : Option Part) → split (c.seats p) (c.seats other) ≡ o → with_part c other o ≡ Some d → (q : ℕ) → OwnLives d.shared q (d.seats q)
    from None at e = absurd (cc)
    from (Some y) at e =
        kept_from c other y c.shared d sound (record { run = refl; opening = refl }) (split_lives c.shared other (c.seats other) (sound.own other).lives (c.seats p) y at) (same_Some _ _ e)

    by_test : (b : Bool) → (if b then with_part c other (split (c.seats p) (c.seats other)) else None) ≡ Some d → (q : ℕ) → OwnLives d.shared q (d.seats q)
    by_test true e = from _ refl e
    by_test false e = absurd (cc)

join_kept : (c : Core) (p other : ℕ) (d : Core) → Sound c → after_event c p (kind.Join other) ≡ Some d → (q : ℕ) → OwnLives d.shared q (d.seats q)
join_kept c p other d sound e = by_test _ e
  where
    from : (o : Option Part) → join (c.seats p) (c.seats other) ≡ o → with_part c p o ≡ Some d → (q : ℕ) → OwnLives d.shared q (d.seats q)
    from None at e = absurd (cc)
    from (Some y) at e =
        kept_from c p y c.shared d sound (record { run = refl; opening = refl }) (join_lives c.shared p (c.seats p) (sound.own p).lives (c.seats other) y at) (same_Some _ _ e)

    by_test : (b : Bool) → (if b then None else with_part c p (join (c.seats p) (c.seats other))) ≡ Some d → (q : ℕ) → OwnLives d.shared q (d.seats q)
    by_test true e = absurd (cc)
    by_test false e = from _ refl e

quiet_kept : (c : Core) (p : ℕ) (k : Kind) (d : Core) → IsQuiet k → MeetsOne k → Sound c → after_event c p k ≡ Some d → (q : ℕ) → OwnLives d.shared q (d.seats q)
quiet_kept c p k d quiet one sound e =
    let m = moves c p k d one e in
    let found : ℕ = word_at c (spot_of p k) in
    let steady = (quiet_kind p k found c.shared (c.seats p) m.part quiet m.after).steady in
    let lasting = lasting_kind p k found c.shared (c.seats p) m.part quiet m.after in
    kept_moved c p k d sound m
    (calm_lives c.shared p (c.seats p) (sound.own p).lives m.part lasting.run lasting.number steady.over steady.place steady.begin steady.stamp steady.number)

-- Each event keeps what seats' transactions have in order.
pub kept : (c : Core) (p : ℕ) (k : Kind) (d : Core) → Sound c → after_event c p k ≡ Some d → (q : ℕ) → OwnLives d.shared q (d.seats q)
kept c p (kind.LoadTail reason) d sound e = tail_kept c p reason d sound (moves c p (kind.LoadTail reason) d tt e)
kept c p (kind.AddTail size) d sound e =
    let m = moves c p (kind.AddTail size) d tt e in
    kept_moved c p (kind.AddTail size) d sound m (draws_lives c.shared p (c.seats p) (sound.own p).lives size (c.seats p).place m.part refl (sound.own p).begins.begins m.after)
kept c p (kind.StoreBegin value) d sound e =
    let m = moves c p (kind.StoreBegin value) d tt e in
    kept_moved c p (kind.StoreBegin value) d sound m (announces_lives c.shared p (c.seats p) (sound.own p).lives value (c.seats p).place m.part refl m.after)
kept c p (kind.StoreState value) d sound e =
    let m = moves c p (kind.StoreState value) d tt e in
    kept_moved c p (kind.StoreState value) d sound m (seals_lives c.shared p (c.seats p) (sound.own p).lives value (c.seats p).place m.part refl (sound.own p).ranges.current m.after)
kept c p (kind.LoadBegin other) d sound e =
    let m = moves c p (kind.LoadBegin other) d tt e in
    kept_moved c p (kind.LoadBegin other) d sound m
    (load_begin_lives c.shared p (c.seats p) (sound.own p).lives other (word_at c (spot_of p (kind.LoadBegin other))) (c.seats p).task m.part m.after)
kept c p (kind.LoadState other bound) d sound e =
    let m = moves c p (kind.LoadState other bound) d tt e in
    kept_moved c p (kind.LoadState other bound) d sound m
    (load_state_lives c.shared p (c.seats p) (sound.own p).lives other bound (word_at c (spot_of p (kind.LoadState other bound))) m.part m.after)
kept c p (kind.Split other) d sound e = split_kept c p other d sound e
kept c p (kind.Join other) d sound e = join_kept c p other d sound e
kept c p (kind.Decide at header) d sound e =
    let m = moves c p (kind.Decide at header) d tt e in
    kept_moved c p (kind.Decide at header) d sound m (decides_lives c.shared p (c.seats p) (sound.own p).lives at header (c.seats p).place (c.seats p).task m.part refl m.after)
kept c p k d sound e = quiet_kept c p k d tt tt sound e
