-- Who owns an entry has claimed it.
use Rattle.std.proofs.Common.{◌≡◌, ℕ, ◌<◌, ◌≤◌, ◌⊎◌, ⊎_elim, true, ◌||◌, List, [], ◌∷◌, length, Option, Some, None, eqb-true, leb, ltb, inl, inr, refl, sym, ap, ◌∙◌, subst, arith}
use Rattle.std.specs.Prelude.{if◌then◌else◌, ◌==◌}
use Rattle.std.proofs.lemmas.Bool.{and_parts, cases_eq, leb-true, ltb-true, or_left}
use Rattle.std.proofs.lemmas.Option.{same_Some}
use Rattle.erm_model.specs.Member.{◌∈◌}
use Rattle.erm_model.proofs.Members.{∈-behind}
use Rattle.erm_machine.specs.declared.event.Counter.{Counter}
use Rattle.erm_machine.specs.declared.event.Counter.TheVariants.{Objects, Cells}
use Rattle.erm_machine.specs.declared.event.Event.{Event}
use Rattle.erm_machine.specs.declared.event.Kind.{Kind}
use Rattle.erm_machine.specs.declared.event.Kind.TheVariants as kind
use Rattle.erm_machine.specs.declared.limits.TheConstants.{OBJECT_LIMIT, SESSIONS}
use Rattle.erm_machine.specs.declared.part.Part.{Part}
use Rattle.erm_machine.specs.declared.place.Place.{Place}
use Rattle.erm_machine.specs.declared.place.Place.TheVariants.{Active, Decided}
use Rattle.erm_machine.specs.declared.task.Task.{Task}
use Rattle.erm_machine.specs.declared.task.Task.TheVariants as task
use Rattle.erm_machine.specs.Claims.{claims_over}
use Rattle.erm_machine.specs.Core.{Core, Object, Shared, claim_at, spot_of, word_at}
use Rattle.erm_machine.specs.Facts.{Holds, over_of}
use Rattle.erm_machine.specs.Reading.{claim}
use Rattle.erm_machine.specs.Seat.{end_of, is_active, is_decided, last_claim}
use Rattle.erm_machine.specs.Settling.{adds_version, install, install_claim, install_new, release_old, unclaim}
use Rattle.erm_machine.specs.Sound.{Sound}
use Rattle.erm_machine.specs.Step.{after_event, shared_after, with_counter}
use Rattle.erm_machine.specs.Words.{claimed, is_session, number_of, owner_of, put}
use Rattle.erm_machine.proofs.Frames.{at_cases, put_other, put_same}
use Rattle.erm_machine.proofs.Guards.{either_way, if_then, when_then}
use Rattle.erm_machine.proofs.Holders.{held_claim, held_once, holds_from}
use Rattle.erm_machine.proofs.Listed.{∈-head}
use Rattle.erm_machine.proofs.QuietKinds.{Moves, moves, quiet_kind}
use Rattle.erm_core_si.proofs.ClaimsObjects.{claimed_number, claimed_owner}
use Rattle.erm_core_stays.specs.Runs.{Runs}
use Rattle.erm_core_stays.specs.Staying.{HasClaimed, IsOwnedBy}
use Rattle.erm_core_stays.proofs.Numbers.{join_shared, split_shared}
use Rattle.erm_core_stays.proofs.Running.{KeepsSound}

-- kinds that leave each entry as it was
abbrev LeavesEntries : Kind → Type 0
LeavesEntries (kind.Claim oid seen number) = ⊥
LeavesEntries (kind.Install oid head) = ⊥
LeavesEntries _ = Unit {0}

entry_put : (f : ℕ → Object) (k : ℕ) (u : Object) → u.entry ≡ (f k).entry → (n : ℕ) → (put f k u n).entry ≡ (f n).entry
entry_put f k u e n = at_cases (λ z. z.entry ≡ (f n).entry) f k u n (λ is. e ∙ ap (λ m. (f m).entry) (sym is)) (λ _. refl)

counter_entries : (counter : Counter) (m : ℕ) (s : Shared) (n : ℕ) → ((with_counter counter m s).objects n).entry ≡ (s.objects n).entry
counter_entries Objects m s n = refl
counter_entries Cells m s n = refl

entries_left : (p : ℕ) (k : Kind) (found : ℕ) (x : Part) (s : Shared) → LeavesEntries k → (n : ℕ) → ((shared_after p k found x s).objects n).entry ≡ (s.objects n).entry
entries_left p (kind.Claim oid seen number) found x s q n = absurd q
entries_left p (kind.Install oid head) found x s q n = absurd q
entries_left p (kind.SetReader v) found x s q n = entry_put s.objects v.oid _ refl n
entries_left p (kind.ClearReader v) found x s q n = entry_put s.objects v.oid _ refl n
entries_left p (kind.RaiseReader v value) found x s q n = entry_put s.objects v.oid _ refl n
entries_left p (kind.StoreSucc v value) found x s q n = entry_put s.objects v.oid _ refl n
entries_left p (kind.StoreOverwriter v value) found x s q n = entry_put s.objects v.oid _ refl n
entries_left p (kind.SwapLink v) found x s q n = entry_put s.objects v.oid _ refl n
entries_left p (kind.AddCounter counter) found x s q n = counter_entries counter _ s n
entries_left p k found x s q n = refl

-- an entry as it was has the owner that it had
owned_same : (s t : Shared) (oid owner number : ℕ) → (t.objects oid).entry ≡ (s.objects oid).entry → IsOwnedBy t oid owner number → IsOwnedBy s oid owner number
owned_same s t oid owner number e owned = record { owner_is = ap owner_of (sym e) ∙ owned.owner_is; number_is = ap number_of (sym e) ∙ owned.number_is }

-- an exchange is a session's
claim_session : (seat oid seen number found : ℕ) (o : Object) (x : Part) (t : Task) (y : Part) → claim seat oid seen number found o x t ≡ Some y → is_session seat ≡ true
claim_session seat oid seen number found o x (task.Found version stamp (Some entry)) y e =
    when_then (λ _. is_session seat ≡ true) _ _ y e (λ g. (and_parts _ _ (and_parts _ _ (and_parts _ _ (and_parts _ _ (and_parts _ _ g).0).0).0).0).1)
claim_session seat oid seen number found o x _ y e = absurd (cc)

claim_taken : (c d : Core) (seat oid seen number : ℕ) → after_event c seat (kind.Claim oid seen number) ≡ Some d → is_session seat ≡ true
claim_taken c d seat oid seen number e =
    let m = moves c seat (kind.Claim oid seen number) d tt e in
    claim_session seat oid seen number (c.shared.objects oid).entry (c.shared.objects oid) (c.seats seat) (c.seats seat).task m.part m.after

-- an end has come to a claim that isn't over
ends_upto : (pl : Place) (t : Task) (n : ℕ × ℕ × ℕ × ℕ) (writes : ℕ) → (is_decided pl || is_active pl) ≡ true → end_of t ≡ Some n → over_of pl t writes ≤ n.1
ends_upto (Active tail) (task.Ends raised ended step cleared) n writes g at = let same = ap (λ (m : ℕ × ℕ × ℕ × ℕ). m.1) (same_Some _ _ at) in omega (arith, same)
ends_upto (Active tail) t n writes g at = omega arith
ends_upto (Decided tail stamp) (task.Ends raised ended step cleared) n writes g at = let same = ap (λ (m : ℕ × ℕ × ℕ × ℕ). m.1) (same_Some _ _ at) in omega (arith, same)
ends_upto (Decided tail stamp) t n writes g at = omega arith
ends_upto pl t n writes g at = absurd (cc)

refused_upto : (pl : Place) (t : Task) (writes : ℕ) → is_active pl ≡ true → t ≡ task.Refused → over_of pl t writes ≡ 0
refused_upto (Active tail) t writes g at = ap (λ u. over_of (Active tail) u writes) at
refused_upto pl t writes g at = absurd (cc)

-- whoever installs or releases an entry holds its object
module _ (c : Core) (p : ℕ) (sound : Sound c) (oid head : ℕ) where
  holds_by : (place : ℕ) → place < length (c.seats p).current.writes → claims_over (c.seats p) ≤ place → oid ≡ (claim_at (c.seats p).current place).version.oid → Holds (c.seats p) oid
  holds_by place within waits is = holds_from c p oid (record { place = place; within = within; held = (sound.own p).claims.held place within waits; oid_is = sym is })

  unclaims : (y : Part) → (c.seats p).task ≡ task.Refused → unclaim oid head (c.seats p) ≡ Some y → Holds (c.seats p) oid
  unclaims y at e =
      let x = c.seats p in
      when_then (λ _. Holds x oid) _ _ y e (λ g.
      let g1 = and_parts _ _ g in
      let g2 = and_parts _ _ g1.0 in
      let g3 = and_parts _ _ g2.0 in
      let some : 0 < length x.current.writes = ltb-true 0 (length x.current.writes) g3.1 in
      let none = refused_upto x.place x.task (length x.current.writes) g3.0 at in
      holds_by (last_claim x.current) (omega (arith, some)) (omega (arith, none)) (eqb-true oid _ g2.1))

  ends_claim : (n : ℕ × ℕ × ℕ × ℕ) (y : Part) → end_of (c.seats p).task ≡ Some n → (if adds_version (c.seats p) then install_new oid head (c.seats p) n else release_old oid head (c.seats p) n) ≡ Some y → Holds (c.seats p) oid
  ends_claim n y at e =
      let x = c.seats p in
      if_then (λ _. Holds x oid) (adds_version x) (install_new oid head x n) (release_old oid head x n) y e
      (λ _ h.
      when_then (λ _. Holds x oid) _ _ y h (λ g.
      let g1 = and_parts _ _ g in
      let g2 = and_parts _ _ g1.0 in
      let g3 = and_parts _ _ g2.0 in
      let g4 = and_parts _ _ g3.0 in
      let decided = (and_parts _ _ (and_parts _ _ g4.0).0).0 in
      holds_by n.1 (ltb-true n.1 (length x.current.writes) g4.1) (ends_upto x.place x.task n (length x.current.writes) (or_left (is_decided x.place) (is_active x.place) decided) at) (eqb-true oid _ g2.1)))
      (λ _ h.
      when_then (λ _. Holds x oid) _ _ y h (λ g.
      let g1 = and_parts _ _ g in
      let g2 = and_parts _ _ g1.0 in
      let g3 = and_parts _ _ g2.0 in
      holds_by n.1 (ltb-true n.1 (length x.current.writes) g3.1) (ends_upto x.place x.task n (length x.current.writes) g3.0 at) (eqb-true oid _ g2.1)))

  ends_some : (o : Option (ℕ × ℕ × ℕ × ℕ)) (y : Part) → end_of (c.seats p).task ≡ o → install_claim oid head (c.seats p) o ≡ Some y → Holds (c.seats p) oid
  ends_some None y at e = absurd (cc)
  ends_some (Some n) y at e = ends_claim n y at e

  ends_other : (t : Task) (y : Part) → (c.seats p).task ≡ t → install_claim oid head (c.seats p) (end_of t) ≡ Some y → Holds (c.seats p) oid
  ends_other t y at e = ends_some (end_of t) y (ap end_of at) e

  installs_held : (t : Task) (y : Part) → (c.seats p).task ≡ t → install oid head (c.seats p) t ≡ Some y → Holds (c.seats p) oid
  installs_held task.Refused y at e = unclaims y at e
  installs_held t y at e = ends_other t y at e

-- by one event: it was owned so, or this is the claim
abbrev FromClaim : (p : ℕ) → Kind → (oid owner number : ℕ) → Type 0
FromClaim p k oid owner number = (seen : ℕ) × (p ≡ owner) × (k ≡ kind.Claim oid seen number)

module _ (c d : Core) (p : ℕ) (sound : Sound c) (oid owner number : ℕ) where
  abbrev WasOrIs : Kind → Type 0
  WasOrIs k = IsOwnedBy c.shared oid owner number ⊎ FromClaim p k oid owner number

  from_claim : (at seen n : ℕ) → Moves c p (kind.Claim at seen n) d → IsOwnedBy d.shared oid owner number → WasOrIs (kind.Claim at seen n)
  from_claim at seen n m owned =
      let found = (c.shared.objects at).entry in
      let session = claim_session p at seen n found (c.shared.objects at) (c.seats p) (c.seats p).task m.part m.after in
      let few = leb-true p SESSIONS (and_parts (ltb 0 p) (leb p SESSIONS) session).1 in
      let u : Object = record (c.shared.objects at) { entry = if found == seen then claimed seen p n else found } in
      let there : d.shared.objects ≡ put c.shared.objects at u = ap (λ (e : Core). e.shared.objects) m.is in
      ⊎_elim
      (λ (same : oid ≡ at).
      let entry : (d.shared.objects oid).entry ≡ (if found == seen then claimed seen p n else found) = ap (λ (f : ℕ → Object). (f oid).entry) there ∙ ap (λ k. (put c.shared.objects at u k).entry) same ∙ ap (λ (o : Object). o.entry) (put_same c.shared.objects at u) in
      either_way (λ e. (d.shared.objects oid).entry ≡ e → WasOrIs (kind.Claim at seen n)) (found == seen) (claimed seen p n) found
      (λ _ is.
      let low : p < 256 = omega (arith, few) in
      inr (seen, sym (claimed_owner seen p n low) ∙ ap owner_of (sym is) ∙ owned.owner_is, ap (λ k. kind.Claim k seen n) (sym same) ∙ ap (kind.Claim oid seen) (sym (claimed_number seen p n low) ∙ ap number_of (sym is) ∙ owned.number_is)))
      (λ _ is. inl (owned_same c.shared d.shared oid owner number (is ∙ ap (λ k. (c.shared.objects k).entry) (sym same)) owned))
      entry)
      (λ (other : oid ≡ at → ⊥).
      inl (owned_same c.shared d.shared oid owner number (ap (λ (f : ℕ → Object). (f oid).entry) there ∙ ap (λ (o : Object). o.entry) (put_other c.shared.objects at u oid other)) owned))
      (cases_eq oid at)

  -- an install or a release leaves nobody's entry but where it was
  from_install : (at head : ℕ) → Sound d → oid < OBJECT_LIMIT → 0 < owner → Moves c p (kind.Install at head) d → IsOwnedBy d.shared oid owner number → IsOwnedBy c.shared oid owner number
  from_install at head sound_d known some m owned =
      let x = c.seats p in
      let own : d.seats p ≡ m.part = ap (λ (e : Core). e.seats p) m.is ∙ put_same c.seats p m.part in
      ⊎_elim
      (λ (same : oid ≡ at).
      let mine = subst (Holds x) (sym same) (installs_held c p sound at head x.task m.part refl m.after) in
      let theirs : Holds (d.seats owner) oid = (sound_d.own owner).claims.owned oid some known owned.owner_is in
      let here = (held_claim c p oid sound mine).fits in
      ⊎_elim
      (λ (is : owner ≡ p).
      let there = (held_claim d owner oid sound_d theirs).fits in
      let steady = (quiet_kind p (kind.Install at head) (word_at c (spot_of p (kind.Install at head))) c.shared x m.part tt m.after).steady in
      let number_same : (d.seats owner).current.number ≡ x.current.number = ap (λ n. (d.seats n).current.number) is ∙ ap (λ (y : Part). y.current.number) own ∙ steady.number in
      record { owner_is = here.owner ∙ sym is; number_is = here.numbered ∙ sym number_same ∙ sym there.numbered ∙ owned.number_is })
      (λ (other : owner ≡ p → ⊥).
      let stays : d.seats owner ≡ c.seats owner = ap (λ (e : Core). e.seats owner) m.is ∙ put_other c.seats p m.part owner other in
      absurd (other (sym (held_once c p owner oid sound mine (subst (λ (y : Part). Holds y oid) stays theirs)))))
      (cases_eq owner p))
      (λ (other : oid ≡ at → ⊥).
      owned_same c.shared d.shared oid owner number
      (ap (λ (e : Core). (e.shared.objects oid).entry) m.is ∙ ap (λ (o : Object). o.entry) (put_other c.shared.objects at _ oid other)) owned)
      (cases_eq oid at)

  from_left : (k : Kind) → LeavesEntries k → Moves c p k d → IsOwnedBy d.shared oid owner number → IsOwnedBy c.shared oid owner number
  from_left k leaves m owned =
      owned_same c.shared d.shared oid owner number (ap (λ (e : Core). (e.shared.objects oid).entry) m.is ∙ entries_left p k (word_at c (spot_of p k)) (c.seats p) c.shared leaves oid) owned

  same_shared : d.shared ≡ c.shared → IsOwnedBy d.shared oid owner number → IsOwnedBy c.shared oid owner number
  same_shared e owned = subst (λ (s : Shared). IsOwnedBy s oid owner number) e owned

  pub owned_from : (k : Kind) → Sound d → oid < OBJECT_LIMIT → 0 < owner → after_event c p k ≡ Some d → IsOwnedBy d.shared oid owner number → WasOrIs k
  owned_from (kind.Split other) sound_d known some e owned = inl (same_shared (split_shared c p other d _ e) owned)
  owned_from (kind.Join other) sound_d known some e owned = inl (same_shared (join_shared c p other d _ e) owned)
  owned_from (kind.Claim at seen n) sound_d known some e owned = from_claim at seen n (moves c p (kind.Claim at seen n) d tt e) owned
  owned_from (kind.Install at head) sound_d known some e owned = inl (from_install at head sound_d known some (moves c p (kind.Install at head) d tt e) owned)
  owned_from k sound_d known some e owned = inl (from_left k tt (moves c p k d tt e) owned)

-- an event of this seat and kind
event_of : ℕ → Kind → Event
event_of seat k = record { seat = seat; kind = k }

same_event : (e : Event) (seat : ℕ) (k : Kind) → e.seat ≡ seat → e.kind ≡ k → e ≡ event_of seat k
unfolding event_of
same_event e seat k s h = ap (λ n. event_of n e.kind) s ∙ ap (event_of seat) h

module _ (keeps : KeepsSound) (oid owner number : ℕ) (known : oid < OBJECT_LIMIT) (some : 0 < owner) where
  first_claim : (e : Event) (es : List Event) → FromClaim e.seat e.kind oid owner number → HasClaimed (e ∷ es) owner oid number
  unfolding event_of
  first_claim e es by = (by.0, subst (λ (f : Event). f ∈ (e ∷ es)) (same_event e owner (kind.Claim oid by.0 number) by.1 by.2) (∈-head e es))

  pub run_session : (es : List Event) (c d : Core) → Sound c → Runs es c d → IsOwnedBy d.shared oid owner number → IsOwnedBy c.shared oid owner number ⊎ (is_session owner ≡ true)
  run_session [] c d sound run owned = inl (subst (λ (f : Core). IsOwnedBy f.shared oid owner number) (sym run) owned)
  run_session (e ∷ es) c d sound run owned =
      let b = run.0 in
      let sound_b = keeps c b e.seat e.kind sound run.1 in
      ⊎_elim
      (λ (before : IsOwnedBy b.shared oid owner number).
      ⊎_elim (λ (first : IsOwnedBy c.shared oid owner number). inl first)
      (λ (by : FromClaim e.seat e.kind oid owner number).
      inr (subst (λ n. is_session n ≡ true) by.1 (claim_taken c b e.seat oid by.0 number (subst (λ (k : Kind). after_event c e.seat k ≡ Some b) by.2 run.1))))
      (owned_from c b e.seat sound oid owner number e.kind sound_b known some run.1 before))
      (λ (later : is_session owner ≡ true). inr later)
      (run_session es b d sound_b run.2 owned)

  pub run_owned : (es : List Event) (c d : Core) → Sound c → Runs es c d → IsOwnedBy d.shared oid owner number → IsOwnedBy c.shared oid owner number ⊎ HasClaimed es owner oid number
  run_owned [] c d sound run owned = inl (subst (λ (f : Core). IsOwnedBy f.shared oid owner number) (sym run) owned)
  run_owned (e ∷ es) c d sound run owned =
      let b = run.0 in
      let sound_b = keeps c b e.seat e.kind sound run.1 in
      ⊎_elim
      (λ (before : IsOwnedBy b.shared oid owner number).
      ⊎_elim (λ (first : IsOwnedBy c.shared oid owner number). inl first) (λ (by : FromClaim e.seat e.kind oid owner number). inr (first_claim e es by))
      (owned_from c b e.seat sound oid owner number e.kind sound_b known some run.1 before))
      (λ (later : HasClaimed es owner oid number). inr (later.0, ∈-behind e es _ later.1))
      (run_owned es b d sound_b run.2 owned)
