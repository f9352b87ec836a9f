-- Each event keeps that claims stand alone.
use Rattle.std.proofs.Common.{◌≡◌, ℕ, ◌<◌, ◌≤◌, ◌⊎◌, ⊎_elim, Bool, true, false, map, Option, Some, None, refl, sym, ap, ◌∙◌, subst, inl, inr, arith}
use Rattle.std.specs.Prelude.{if◌then◌else◌}
use Rattle.std.proofs.lemmas.Option.{same_Some}
use Rattle.erm_model.specs.declared.history.VersionWritten.{VersionWritten}
use Rattle.erm_model.specs.History.{Makes, Overwrites}
use Rattle.erm_model.specs.Member.{◌∈◌}
use Rattle.erm_model.specs.Rows.{Rows}
use Rattle.erm_model.proofs.Members.{∈-push, none_in_nil}
use Rattle.erm_machine.specs.declared.attempt.Attempt.{Attempt}
use Rattle.erm_machine.specs.declared.attempt.Claim.{Claim}
use Rattle.erm_machine.specs.declared.event.Kind.{Kind}
use Rattle.erm_machine.specs.declared.event.Kind.TheVariants as kind
use Rattle.erm_machine.specs.declared.part.Part.{Part}
use Rattle.erm_machine.specs.declared.place.Place.{Place}
use Rattle.erm_machine.specs.declared.place.Place.TheVariants.{Sealing}
use Rattle.erm_machine.specs.Core.{Core, Shared, opening_state, spot_of, word_at}
use Rattle.erm_machine.specs.Decided.{bare, written_of}
use Rattle.erm_machine.specs.Facts.{all_of}
use Rattle.erm_machine.specs.Life.{add_tail, split, join}
use Rattle.erm_machine.specs.Sound.{Sound}
use Rattle.erm_machine.specs.Step.{after_event, shared_after, with_part}
use Rattle.erm_machine.specs.Words.{put}
use Rattle.erm_machine.proofs.Frames.{each_seat}
use Rattle.erm_machine.proofs.Guards.{when_then}
use Rattle.erm_machine.proofs.Listed.{∈-map}
use Rattle.erm_machine.proofs.QuietKinds.{IsQuiet, MeetsOne, Moves, moves, quiet_kind}
use Rattle.erm_core_lives.proofs.Lasting.{lasting_kind}
use Rattle.erm_core_alone.specs.Alone.{ClaimsStandAlone, MayStand, StandApart}
use Rattle.erm_core_alone.proofs.Drawn.{drawn_apart}
use Rattle.erm_core_alone.proofs.Recalls.{Recalled, Recalls, recalled_over, recalls_same, recalls_steady, r_load_tail, r_store_begin, r_store_state, r_load_begin, r_load_state, r_split, r_join, r_decide}

-- what has the same claims overwrites and makes the same
overwrites_so : (t u : Attempt) (oid stamp : ℕ) → map written_of u.writes ≡ map written_of t.writes → Overwrites (bare u) oid stamp → Overwrites (bare t) oid stamp
overwrites_so t u oid stamp same (w, m, of, is) = (w, subst (λ ws. w ∈ ws) same m, of, is)

makes_so : (t u : Attempt) (oid : ℕ) → map written_of u.writes ≡ map written_of t.writes → Makes (bare u) oid → Makes (bare t) oid
makes_so t u oid same (w, m, of) = (w, subst (λ ws. w ∈ ws) same m, of)

-- two seats' steps that recall
apart_recalled : (x y a b : Part) → Recalls x a → Recalls y b → StandApart x y → StandApart a b
apart_recalled x y a b first second old = record {
  apart = λ t u oid stamp at also overwrites makes may drawn less.
      ⊎_elim (λ (none : u.stamp ≡ 0). absurd (omega (arith, none, drawn)))
      (λ (v : Recalled y u).
      ⊎_elim (λ (none : t.stamp ≡ 0). absurd (omega (arith, none, less)))
      (λ (w : Recalled x t).
      let is = v.stamp in
      let was = w.stamp in
      let most = old.apart w.attempt v.attempt oid stamp w.stands v.stands (overwrites_so w.attempt t oid stamp w.writes overwrites) (makes_so v.attempt u oid v.writes makes) (v.stood may)
      (omega (arith, is, drawn)) (omega (arith, is, was, less)) in
      omega (arith, is, most))
      (first.recalls t at))
      (second.recalls u also);
}

-- each seat recalls
kept_recalled : (c : Core) (p : ℕ) (y : Part) (t : Shared) (d : Core) → ClaimsStandAlone c → Recalls (c.seats p) y → record { shared = t; seats = put c.seats p y } ≡ d → ClaimsStandAlone d
kept_recalled c p y t d old new is =
    subst ClaimsStandAlone is (λ q r. apart_recalled (c.seats q) (c.seats r) (put c.seats p y q) (put c.seats p y r) (each q) (each r) (old q r))
  where
    each : (q : ℕ) → Recalls (c.seats q) (put c.seats p y q)
    each = each_seat (λ q (z : Part). Recalls (c.seats q) z) c.seats p y new (λ q _. recalls_same (c.seats q) (c.seats q) refl refl)

kept_moved : (c : Core) (p : ℕ) (k : Kind) (d : Core) → ClaimsStandAlone c → (m : Moves c p k d) → Recalls (c.seats p) m.part → ClaimsStandAlone d
kept_moved c p k d old m new =
    kept_recalled c p m.part (shared_after p k (word_at c (spot_of p k)) (c.seats p) c.shared) d old new (sym m.is)

-- THE DRAW. A transaction after it was there before, or has drawn the tail.
record Draws (c : Core) (p : ℕ) (y : Part) : Type 0 where
  pub tail : ℕ
  pub sealing : (c.seats p).place ≡ Sealing tail
  pub over : y.over ≡ (c.seats p).over
  pub stamp : y.current.stamp ≡ c.shared.tail
  pub writes : y.current.writes ≡ (c.seats p).current.writes

draws_from : (c : Core) (p size : ℕ) (pl : Place) (y : Part) → (c.seats p).place ≡ pl → add_tail p size c.shared.tail (c.seats p) pl ≡ Some y → Draws c p y
draws_from c p size (Sealing tail) y is e = when_then (Draws c p) _ _ y e (λ _. record { tail = tail; sealing = is; over = refl; stamp = refl; writes = refl })
draws_from c p size _ y is e = absurd (cc)

-- the transaction of a seat that draws
record HasDrawn (c : Core) (p q : ℕ) (t : Attempt) : Type 0 where
  pub same : q ≡ p
  pub stamp : t.stamp ≡ c.shared.tail
  pub writes : t.writes ≡ (c.seats p).current.writes

module _ (c : Core) (p : ℕ) (y : Part) (sound : Sound c) (draws : Draws c p y) where
  abbrev later : ℕ → Part
  later = put c.seats p y

  after_draw : (t : Attempt) → t ∈ all_of y → Recalled (c.seats p) t ⊎ HasDrawn c p p t
  after_draw t m =
      ⊎_elim (λ (before : t ∈ y.over). inl (recalled_over (c.seats p) t (subst (λ ts. t ∈ ts) draws.over before)))
      (λ (now : t ≡ y.current). inr (record { same = refl; stamp = ap (λ (a : Attempt). a.stamp) now ∙ draws.stamp; writes = ap (λ (a : Attempt). a.writes) now ∙ draws.writes }))
      (∈-push y.over y.current t m)

  was_or_drew : (q : ℕ) (t : Attempt) → t ∈ all_of (later q) → Recalled (c.seats q) t ⊎ HasDrawn c p q t
  was_or_drew =
      each_seat (λ q (z : Part). (t : Attempt) → t ∈ all_of z → Recalled (c.seats q) t ⊎ HasDrawn c p q t) c.seats p y after_draw
      (λ q _ t m. inl (record { attempt = t; stands = m; stamp = refl; writes = refl; stood = λ may. may }))

  -- each stamp is the tail at most
  most_tail : (q : ℕ) (t : Attempt) → Recalled (c.seats q) t ⊎ HasDrawn c p q t → t.stamp ≤ c.shared.tail
  most_tail q t (inl was) = let low = (sound.own q).decided.drawn was.attempt was.stands in omega (arith, low, was.stamp)
  most_tail q t (inr drew) = omega (arith, drew.stamp)

  -- what was there before keeps apart from the one that draws
  apart_drawn : (r : ℕ) (t u : Attempt) (oid stamp : ℕ) → HasDrawn c p p t → (v : Recalled (c.seats r) u) → Overwrites (bare t) oid stamp → Makes (bare u) oid → MayStand u.decision → 0 < u.stamp
      → u.stamp ≤ stamp
  apart_drawn r t u oid stamp drew v (w, m, of, is) makes may drawn =
      let claim = ∈-map written_of t.writes w m in
      let (a, b, made_of) = makes_so v.attempt u oid v.writes makes in
      let made = ∈-map written_of v.attempt.writes a b in
      let w0 : Claim = claim.0 in
      let v0 : Claim = made.0 in
      let one : v0.version.oid ≡ w0.version.oid = ap (λ (n : VersionWritten). n.oid) made.2 ∙ made_of ∙ sym of ∙ ap (λ (n : VersionWritten). n.oid) (sym claim.2) in
      let most = drawn_apart c p sound draws.tail draws.sealing w0 (subst (λ ws. w0 ∈ ws) drew.writes claim.1) r v.attempt v0 v.stands made.1 one (omega (arith, v.stamp, drawn)) (v.stood may) in
      omega (arith, most, v.stamp, ap (λ (n : VersionWritten). n.stamp) claim.2, is)

  kept_drawn : ClaimsStandAlone c → (q r : ℕ) → StandApart (later q) (later r)
  kept_drawn old q r = record {
    apart = λ t u oid stamp at also overwrites makes may drawn less.
        let first = was_or_drew q t at in
        let second = was_or_drew r u also in
        let top = most_tail q t first in
        ⊎_elim
        (λ (v : Recalled (c.seats r) u).
        ⊎_elim
        (λ (w : Recalled (c.seats q) t).
        let most = (old q r).apart w.attempt v.attempt oid stamp w.stands v.stands (overwrites_so w.attempt t oid stamp w.writes overwrites) (makes_so v.attempt u oid v.writes makes) (v.stood may)
        (omega (arith, v.stamp, drawn)) (omega (arith, v.stamp, w.stamp, less)) in
        omega (arith, v.stamp, most))
        (λ (drew : HasDrawn c p q t). apart_drawn r t u oid stamp (record { same = refl; stamp = drew.stamp; writes = drew.writes }) v overwrites makes may drawn)
        first)
        (λ (drew : HasDrawn c p r u). absurd (omega (arith, drew.stamp, top, less)))
        second;
  }

draw_kept : (c : Core) (p size : ℕ) (d : Core) → Sound c → ClaimsStandAlone c → Moves c p (kind.AddTail size) d → ClaimsStandAlone d
draw_kept c p size d sound old m = subst ClaimsStandAlone (sym m.is) (kept_drawn c p m.part sound (draws_from c p size (c.seats p).place m.part refl m.after) old)

split_kept : (c : Core) (p other : ℕ) (d : Core) → ClaimsStandAlone c → after_event c p (kind.Split other) ≡ Some d → ClaimsStandAlone d
split_kept c p other d old e = by_test _ e
  where
    from : (o : Option Part) → split (c.seats p) (c.seats other) ≡ o → with_part c other o ≡ Some d → ClaimsStandAlone d
    from None at e = absurd (cc)
    from (Some y) at e = kept_recalled c other y c.shared d old (r_split (c.seats p) (c.seats other) y at) (same_Some _ _ e)

    by_test : (b : Bool) → (if b then with_part c other (split (c.seats p) (c.seats other)) else None) ≡ Some d → ClaimsStandAlone d
    by_test true e = from _ refl e
    by_test false e = absurd (cc)

join_kept : (c : Core) (p other : ℕ) (d : Core) → ClaimsStandAlone c → after_event c p (kind.Join other) ≡ Some d → ClaimsStandAlone d
join_kept c p other d old e = by_test _ e
  where
    from : (o : Option Part) → join (c.seats p) (c.seats other) ≡ o → with_part c p o ≡ Some d → ClaimsStandAlone d
    from None at e = absurd (cc)
    from (Some y) at e = kept_recalled c p y c.shared d old (r_join (c.seats p) (c.seats other) y at) (same_Some _ _ e)

    by_test : (b : Bool) → (if b then None else with_part c p (join (c.seats p) (c.seats other))) ≡ Some d → ClaimsStandAlone d
    by_test true e = absurd (cc)
    by_test false e = from _ refl e

quiet_kept : (c : Core) (p : ℕ) (k : Kind) (d : Core) → IsQuiet k → MeetsOne k → Sound c → ClaimsStandAlone c → after_event c p k ≡ Some d → ClaimsStandAlone d
quiet_kept c p k d quiet one sound old e =
    let m = moves c p k d one e in
    let found : ℕ = word_at c (spot_of p k) in
    kept_moved c p k d old m
    (recalls_steady (c.seats p) m.part (sound.own p).ranges.current (quiet_kind p k found c.shared (c.seats p) m.part quiet m.after).steady
    (lasting_kind p k found c.shared (c.seats p) m.part quiet m.after))

-- Each event keeps it.
pub kept : (c : Core) (p : ℕ) (k : Kind) (d : Core) → Sound c → ClaimsStandAlone c → after_event c p k ≡ Some d → ClaimsStandAlone d
kept c p (kind.LoadTail reason) d sound old e =
    let m = moves c p (kind.LoadTail reason) d tt e in kept_moved c p (kind.LoadTail reason) d old m (r_load_tail p reason c.shared.tail (c.seats p) m.part m.after)
kept c p (kind.AddTail size) d sound old e = draw_kept c p size d sound old (moves c p (kind.AddTail size) d tt e)
kept c p (kind.StoreBegin value) d sound old e =
    let m = moves c p (kind.StoreBegin value) d tt e in kept_moved c p (kind.StoreBegin value) d old m (r_store_begin p value (c.seats p) (c.seats p).place m.part m.after)
kept c p (kind.StoreState value) d sound old e =
    let m = moves c p (kind.StoreState value) d tt e in kept_moved c p (kind.StoreState value) d old m (r_store_state p value (c.seats p) (c.seats p).place m.part m.after)
kept c p (kind.LoadBegin other) d sound old e =
    let m = moves c p (kind.LoadBegin other) d tt e in
    kept_moved c p (kind.LoadBegin other) d old m (r_load_begin p other (word_at c (spot_of p (kind.LoadBegin other))) (c.seats p) (c.seats p).task m.part m.after)
kept c p (kind.LoadState other bound) d sound old e =
    let m = moves c p (kind.LoadState other bound) d tt e in
    kept_moved c p (kind.LoadState other bound) d old m (r_load_state p other bound (word_at c (spot_of p (kind.LoadState other bound))) (c.seats p) m.part m.after)
kept c p (kind.Split other) d sound old e = split_kept c p other d old e
kept c p (kind.Join other) d sound old e = join_kept c p other d old e
kept c p (kind.Decide at header) d sound old e =
    let m = moves c p (kind.Decide at header) d tt e in
    kept_moved c p (kind.Decide at header) d old m (r_decide at header (c.seats p) (c.seats p).place (c.seats p).task m.part (sound.own p).ranges.current m.after)
kept c p k d sound old e = quiet_kept c p k d tt tt sound old e

-- at an opening nothing is claimed
pub opening_alone : (sessions : ℕ) (rows : Rows) (tail run first cells : ℕ) → ClaimsStandAlone (opening_state sessions rows tail run first cells)
opening_alone sessions rows tail run first cells p q = record {
  apart = λ t u oid stamp at also overwrites makes may drawn less.
      let x = (opening_state sessions rows tail run first cells).seats q in
      ⊎_elim (λ (over : u ∈ x.over). absurd (none_in_nil u over)) (λ (now : u ≡ x.current). absurd (omega (arith, ap (λ (a : Attempt). a.stamp) now, drawn))) (∈-push x.over x.current u also);
}
