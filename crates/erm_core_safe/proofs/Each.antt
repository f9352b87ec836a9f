-- What each event makes of the transactions of each seat, as far as they begin, leave and are over.
use Rattle.std.proofs.Common.{◌≡◌, ℕ, Bool, true, false, Option, Some, None, refl, sym, subst}
use Rattle.std.specs.Prelude.{if◌then◌else◌}
use Rattle.std.proofs.lemmas.Option.{same_Some}
use Rattle.erm_machine.specs.declared.event.Kind.{Kind}
use Rattle.erm_machine.specs.declared.event.Kind.TheVariants as kind
use Rattle.erm_machine.specs.declared.part.Part.{Part}
use Rattle.erm_machine.specs.Core.{Core, Shared, spot_of, word_at}
use Rattle.erm_machine.specs.Life.{join, split}
use Rattle.erm_machine.specs.Sound.{Sound}
use Rattle.erm_machine.specs.Step.{after_event, shared_after, with_part}
use Rattle.erm_machine.specs.Words.{put, state_of}
use Rattle.erm_machine.proofs.Frames.{each_seat}
use Rattle.erm_machine.proofs.QuietKinds.{IsQuiet, MeetsOne, Moves, moves, quiet_kind}
use Rattle.erm_core_back.proofs.Goes.{Goes, goes_same, goes_steady}
use Rattle.erm_core_back.proofs.Turns.{turns_add_tail, turns_decide, turns_join, turns_load_back, turns_load_begin, turns_load_state, turns_load_tail, turns_split, turns_store_back, turns_store_begin, turns_store_state}

abbrev pub EachGoes : Core → Core → Type 0
EachGoes c d = (q : ℕ) → Goes c.shared.tail (c.seats q) (d.seats q)

goes_from : (c : Core) (p : ℕ) (y : Part) (t : Shared) (d : Core) → Goes c.shared.tail (c.seats p) y → record { shared = t; seats = put c.seats p y } ≡ d → EachGoes c d
goes_from c p y t d goes is =
    subst (EachGoes c) is
    (each_seat (λ q (z : Part). Goes c.shared.tail (c.seats q) z) c.seats p y goes (λ q _. goes_same c.shared.tail (c.seats q) (c.seats q) refl refl refl))

goes_moves : (c : Core) (p : ℕ) (k : Kind) (d : Core) → (m : Moves c p k d) → Goes c.shared.tail (c.seats p) m.part → EachGoes c d
goes_moves c p k d m goes = goes_from c p m.part (shared_after p k (word_at c (spot_of p k)) (c.seats p) c.shared) d goes (sym m.is)

quiet_goes : (c : Core) (p : ℕ) (k : Kind) (d : Core) → IsQuiet k → MeetsOne k → after_event c p k ≡ Some d → EachGoes c d
quiet_goes c p k d quiet one e =
    let m = moves c p k d one e in
    let steady = (quiet_kind p k (word_at c (spot_of p k)) c.shared (c.seats p) m.part quiet m.after).steady in
    goes_moves c p k d m (goes_steady c.shared.tail (c.seats p) m.part steady.place steady.over steady.begin steady.same)

split_goes : (c : Core) (p other : ℕ) (d : Core) → Sound c → after_event c p (kind.Split other) ≡ Some d → EachGoes c d
split_goes c p other d sound e = by_test _ e
  where
    from : (o : Option Part) → split (c.seats p) (c.seats other) ≡ o → with_part c other o ≡ Some d → EachGoes c d
    from None at e = absurd (cc)
    from (Some y) at e = goes_from c other y c.shared d (turns_split c other sound (c.seats p) y at).goes (same_Some _ _ e)

    by_test : (b : Bool) → (if b then with_part c other (split (c.seats p) (c.seats other)) else None) ≡ Some d → EachGoes c d
    by_test true e = from _ refl e
    by_test false e = absurd (cc)

join_goes : (c : Core) (p other : ℕ) (d : Core) → Sound c → after_event c p (kind.Join other) ≡ Some d → EachGoes c d
join_goes c p other d sound e = by_test _ e
  where
    from : (o : Option Part) → join (c.seats p) (c.seats other) ≡ o → with_part c p o ≡ Some d → EachGoes c d
    from None at e = absurd (cc)
    from (Some y) at e = goes_from c p y c.shared d (turns_join c p sound (c.seats other) y at).goes (same_Some _ _ e)

    by_test : (b : Bool) → (if b then None else with_part c p (join (c.seats p) (c.seats other))) ≡ Some d → EachGoes c d
    by_test true e = absurd (cc)
    by_test false e = from _ refl e

pub each_goes : (c : Core) (p : ℕ) (k : Kind) (d : Core) → Sound c → after_event c p k ≡ Some d → EachGoes c d
each_goes c p (kind.LoadTail reason) d sound e =
    let m = moves c p (kind.LoadTail reason) d tt e in goes_moves c p (kind.LoadTail reason) d m (turns_load_tail c p sound reason m.part m.after).goes
each_goes c p (kind.AddTail size) d sound e =
    let m = moves c p (kind.AddTail size) d tt e in goes_moves c p (kind.AddTail size) d m (turns_add_tail c p sound size (c.seats p).place m.part refl m.after).goes
each_goes c p (kind.StoreBegin value) d sound e =
    let m = moves c p (kind.StoreBegin value) d tt e in goes_moves c p (kind.StoreBegin value) d m (turns_store_begin c p sound value (c.seats p).place m.part refl m.after).goes
each_goes c p (kind.StoreState value) d sound e =
    let m = moves c p (kind.StoreState value) d tt e in goes_moves c p (kind.StoreState value) d m (turns_store_state c p sound value (c.seats p).place m.part refl m.after).goes
each_goes c p (kind.LoadBegin other) d sound e =
    let m = moves c p (kind.LoadBegin other) d tt e in goes_moves c p (kind.LoadBegin other) d m (turns_load_begin c p sound other (c.seats p).task m.part refl m.after).goes
each_goes c p (kind.LoadState other bound) d sound e =
    let m = moves c p (kind.LoadState other bound) d tt e in
    goes_moves c p (kind.LoadState other bound) d m (turns_load_state c p sound other bound (state_of (c.seats other).place) m.part m.after).goes
each_goes c p (kind.Split other) d sound e = split_goes c p other d sound e
each_goes c p (kind.Join other) d sound e = join_goes c p other d sound e
each_goes c p (kind.Decide at header) d sound e =
    let m = moves c p (kind.Decide at header) d tt e in
    goes_moves c p (kind.Decide at header) d m (turns_decide c p sound at header (c.seats p).place (c.seats p).task m.part refl m.after).goes
each_goes c p (kind.StoreBack value) d sound e =
    let m = moves c p (kind.StoreBack value) d tt e in goes_moves c p (kind.StoreBack value) d m (turns_store_back c p sound value (c.seats p).place m.part refl m.after).goes
each_goes c p (kind.LoadBack other) d sound e =
    let m = moves c p (kind.LoadBack other) d tt e in goes_moves c p (kind.LoadBack other) d m (turns_load_back c p sound other (c.seats p).task m.part refl m.after).goes
each_goes c p k d sound e = quiet_goes c p k d tt tt e
