-- A claim: the version that it overwrites is the head, and attached.
use Rattle.std.proofs.Common.{◌≡◌, ℕ, ◌<◌, ◌≤◌, Bool, true, false, List, [], ◌∷◌, ◌++◌, length, get_or, Some, refl, sym, ap, ◌∙◌, subst, arith}
use Rattle.std.specs.Prelude.{if◌then◌else◌, ◌==◌}
use Rattle.std.proofs.lemmas.Bool.{and_parts, eqb-true}
use Rattle.std.proofs.lemmas.List.{length_push, get_or_push}
use Rattle.erm_machine.specs.declared.attempt.Attempt.{Attempt}
use Rattle.erm_machine.specs.declared.attempt.Claim.{Claim}
use Rattle.erm_machine.specs.declared.limits.TheConstants.{OBJECT_LIMIT}
use Rattle.erm_machine.specs.declared.part.Part.{Part}
use Rattle.erm_machine.specs.declared.task.Task.{Task}
use Rattle.erm_machine.specs.declared.task.Task.TheVariants as task
use Rattle.erm_machine.specs.declared.version.VersionAt.{VersionAt}
use Rattle.erm_machine.specs.Chains.{IsNamed, OwnChains}
use Rattle.erm_machine.specs.Core.{Core, Object, Shared, claim_at, no_claim, version_at}
use Rattle.erm_machine.specs.Facts.{Holds}
use Rattle.erm_machine.specs.Reading.{lost, new_claim, claim, set_reader}
use Rattle.erm_machine.specs.Sound.{Sound}
use Rattle.erm_machine.specs.Step.{with_object}
use Rattle.erm_machine.specs.Words.{claimed, is_session}
use Rattle.erm_machine.proofs.Guards.{when_then}
use Rattle.erm_machine.proofs.Holders.{stands_in}
use Rattle.erm_machine.proofs.Objects.{Extends, extends_refl}
use Rattle.erm_core_cells.proofs.ChainsFrames.{Grows, grows_refl, SameHead, same_head, put_object, name_kept, named_kept, cut_kept, head_kept, same_name}
use Rattle.erm_core_cells.proofs.ChainsRead.{Hand, hand_of, lost_hand}

-- what is shared, with another entry
abbrev pub with_entry : ℕ → ℕ → Shared → Shared
with_entry oid entry s = with_object oid (record (s.objects oid) { entry = entry }) s

entry_extends : (oid entry : ℕ) (s : Shared) (k : ℕ) → Extends (s.objects k) ((with_entry oid entry s).objects k)
entry_extends oid entry s k =
    put_object Extends s.objects oid (record (s.objects oid) { entry = entry }) extends_refl (record { grows = omega arith; stamp = λ k w. refl; row = λ k w. refl; cell = λ k w. refl }) k

entry_grows : (oid entry : ℕ) (s : Shared) (k : ℕ) → Grows (s.objects k) ((with_entry oid entry s).objects k)
entry_grows oid entry s k =
    put_object Grows s.objects oid (record (s.objects oid) { entry = entry }) grows_refl
    (record { cut = refl; grows = omega arith; cell = λ k w. refl; link = λ k w. refl; stamp = λ k w. refl }) k

entry_same : (oid : ℕ) (s : Shared) (k : ℕ) → SameHead (s.objects k) ((with_entry oid (s.objects oid).entry s).objects k)
entry_same oid s k = put_object SameHead s.objects oid (s.objects oid) same_head (same_head (s.objects oid)) k

-- a choice, by its two values
by_choice : (P : Bool → Type 0) (b : Bool) → (b ≡ true → P true) → (b ≡ false → P false) → P b
by_choice P true f g = f refl
by_choice P false f g = g refl

-- the seat's part after the exchange
abbrev exchanged : Part → Bool → VersionAt → Claim → Task → Part
exchanged x b version w other = record x {
  task = if b then task.Claimed version else other;
  current = record x.current {
    writes = if b then x.current.writes ++ w ∷ [] else x.current.writes;
  };
}

-- the claim pushed is held
pushed_holds : (t : Attempt) (ws : List Claim) (w : Claim) → t.writes ≡ ws ++ w ∷ [] → claim_at t (length ws) ≡ w
pushed_holds t ws w is = ap (λ (us : List Claim). get_or us (length ws) no_claim) is ∙ get_or_push ws w no_claim (length ws) refl

holds_pushed : (x : Part) (ws : List Claim) (w : Claim) → x.current.writes ≡ ws ++ w ∷ [] → w.held ≡ true → Holds x w.version.oid
holds_pushed x ws w is held =
    let at = pushed_holds x.current ws w is in
    let long = ap (λ (us : List Claim). length us) is in
    let one = length_push ws w in (
      claim_at x.current (length ws),
      stands_in x.current (length ws) (omega (arith, long, one)),
      ap (λ (u : Claim). u.held) at ∙ held,
      ap (λ (u : Claim). u.version.oid) at,
    )

module _ (c : Core) (p oid seen number : ℕ) (sound : Sound c) (known : oid < OBJECT_LIMIT) where
  abbrev pub entry_after : Bool → ℕ
  entry_after b = if b then claimed seen p number else (c.shared.objects oid).entry

  -- the head in hand is attached
  claimed_attached : (version : VersionAt) (stamp entry : ℕ) → (c.seats p).task ≡ task.Found version stamp (Some entry) → (c.shared.objects version.oid).entry ≡ entry →
      (c.shared.objects version.oid).cut ≤ version.place
  claimed_attached version stamp entry at same =
      let h = hand_of c.shared (c.seats p) (task.Found version stamp (Some entry)) at (sound.own p).chains in
      let place = h.head.2 same in
      let attached = (sound.common.chains.linked version.oid h.named.object).attached in
      omega (arith, place, attached)

  claimed_hand : (version : VersionAt) (stamp entry new : ℕ) (w : Claim) (other : Task) → (c.seats p).task ≡ task.Found version stamp (Some entry) →
      (c.shared.objects version.oid).entry ≡ entry → w.version.oid ≡ version.oid → w.held ≡ true →
      OwnChains (with_entry oid new c.shared) (exchanged (c.seats p) true version w other)
  claimed_hand version stamp entry new w other at same oid_is held =
      let x = c.seats p in
      let y = exchanged x true version w other in
      let h = hand_of c.shared x (task.Found version stamp (Some entry)) at (sound.own p).chains in
      let cut = (entry_grows oid new c.shared version.oid).cut in
      let attached = claimed_attached version stamp entry at same in
      record {
        named = name_kept c.shared (with_entry oid new c.shared) (entry_extends oid new c.shared) version h.named;
        cut = record {
          claimed = subst (Holds y) oid_is (holds_pushed y x.current.writes w refl held);
          attached = omega (arith, cut, attached);
        };
        head = tt;
      }

  -- an entry that is another by now
  lost_after : (version : VersionAt) (w : Claim) →
      OwnChains (with_entry oid (c.shared.objects oid).entry c.shared)
      (exchanged (c.seats p) false version w (lost p oid (c.shared.objects oid).entry version (c.shared.objects oid)))
  lost_after version w =
      let x = c.seats p in
      let u = lost p oid (c.shared.objects oid).entry version (c.shared.objects oid) in
      let y = exchanged x false version w u in
      let t = with_entry oid (c.shared.objects oid).entry c.shared in
      let h = lost_hand c p sound oid version known in
      record {
        named = named_kept c.shared t (entry_extends oid (c.shared.objects oid).entry c.shared) u h.named;
        cut = cut_kept c.shared t x y (λ _ g. g) (λ _ m. m) (λ k _. entry_grows oid (c.shared.objects oid).entry c.shared k) u h.named h.cut;
        head = head_kept c.shared t (entry_same oid c.shared) u h.head;
      }

  pub claim_hand : (t : Task) (y : Part) → (c.seats p).task ≡ t → claim p oid seen number (c.shared.objects oid).entry (c.shared.objects oid) (c.seats p) t ≡ Some y →
      OwnChains (with_entry oid (entry_after ((c.shared.objects oid).entry == seen)) c.shared) y
  claim_hand (task.Found version stamp (Some entry)) y at e =
      when_then (OwnChains (with_entry oid (entry_after ((c.shared.objects oid).entry == seen)) c.shared)) _ _ y e (λ g.
      let oid_is : oid ≡ version.oid = eqb-true _ _ (and_parts _ _ (and_parts _ _ (and_parts _ _ (and_parts _ _ g).0).0).0).1 in
      let seen_is : seen ≡ entry = eqb-true _ _ (and_parts _ _ (and_parts _ _ (and_parts _ _ g).0).0).1 in
      let w = new_claim version stamp (version_at (c.shared.objects oid) version.place).words.row in
      by_choice (λ b. OwnChains (with_entry oid (entry_after b) c.shared) (exchanged (c.seats p) b version w (lost p oid (c.shared.objects oid).entry version (c.shared.objects oid))))
      ((c.shared.objects oid).entry == seen)
      (λ found. claimed_hand version stamp entry (claimed seen p number) w (lost p oid (c.shared.objects oid).entry version (c.shared.objects oid)) at
      (ap (λ n. (c.shared.objects n).entry) (sym oid_is) ∙ eqb-true _ _ found ∙ seen_is) refl refl)
      (λ _. lost_after version w))
  claim_hand _ y at e = absurd (cc)

-- only a session claims
pub claim_session : (p oid seen number found : ℕ) (o : Object) (x : Part) (t : Task) (y : Part) → claim p oid seen number found o x t ≡ Some y → is_session p ≡ true
claim_session p oid seen number found o x (task.Found version stamp (Some entry)) y e =
    when_then (λ _. is_session p ≡ true) _ _ y e (λ g. (and_parts _ _ (and_parts _ _ (and_parts _ _ (and_parts _ _ (and_parts _ _ g).0).0).0).0).1)
claim_session p oid seen number found o x _ y e = absurd (cc)

-- READ: the version registered
pub set_reader_hand : (s : Shared) (p : ℕ) (v : VersionAt) (o : Object) (x : Part) (t : Task) (y : Part) → Hand s x t → set_reader p v o x t ≡ Some y → OwnChains s y
set_reader_hand s p v o x (task.Found found stamp head) y h e =
    when_then (OwnChains s) _ _ y e (λ g.
    let same = same_name v found (and_parts _ _ (and_parts _ _ (and_parts _ _ g).0).0).1 in
    record { named = subst (IsNamed s) (sym same) h.named; cut = tt; head = tt })
set_reader_hand s p v o x _ y h e = absurd (cc)
