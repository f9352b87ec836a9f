-- A client that goes on, and goes on again, has gone on.
use Rattle.std.proofs.Common.{◌≡◌, ℕ, refl, sym, ap, ◌∙◌, subst}
use Rattle.erm_beside.specs.Onward.{onward_itself, onward_then}
use Rattle.erm_client.specs.Clients.{GoesOn, IsClient}
use Rattle.erm_client.specs.declared.client.Client.{Client}
use Rattle.erm_client.specs.declared.transcript.Standing.{Standing}
use Rattle.erm_client.specs.declared.transcript.Standing.TheVariants as standing
use Rattle.erm_world.specs.World.{View}

module _ {S T X : Type 0} (stands : X → S → Type 0) (seat : S → ℕ) (own : S → View) (ends : S → View → Type 0) (told : T → Type 0) where
  pub goes_itself : (c : Client S T X) → IsClient stands seat own c → GoesOn stands seat own ends told c c
  goes_itself c client = record {
    client = client;
    same = refl;
    onward = onward_itself (seat c.session) (ends c.session);
    ran = λ v ran f end. ran f end;
    stops = λ opened stopped. absurd (differ c.transcript.standing opened stopped);
    over = λ over. refl;
  }
    where
      differ : (s : Standing) → s ≡ standing.Open → s ≡ standing.Stopped → ⊥
      differ s opened stopped = cc

  stops_then : (c d e : Client S T X) → GoesOn stands seat own ends told c d → GoesOn stands seat own ends told d e → (s : Standing) → d.transcript.standing ≡ s
      → c.transcript.standing ≡ standing.Open → e.transcript.standing ≡ standing.Stopped → told e.turns
  stops_then c d e first second standing.Open is opened stopped = second.stops is stopped
  stops_then c d e first second standing.Stopped is opened stopped =
      let same : e ≡ d = second.over (λ (now : d.transcript.standing ≡ standing.Open). cc) in subst (λ (x : Client S T X). told x.turns) (sym same) (first.stops opened is)
  stops_then c d e first second standing.Starved is opened stopped =
      let same : e ≡ d = second.over (λ (now : d.transcript.standing ≡ standing.Open). cc) in
      let at = ap (λ (x : Client S T X). x.transcript.standing) same in cc

  pub goes_then : (c d e : Client S T X) → GoesOn stands seat own ends told c d → GoesOn stands seat own ends told d e → GoesOn stands seat own ends told c e
  goes_then c d e first second = record {
    client = second.client;
    same = second.same ∙ first.same;
    onward = onward_then (seat c.session) (seat d.session) (seat e.session) (ends c.session) (ends d.session) (ends e.session) first.onward second.onward;
    ran = λ v ran f end. second.ran v (λ g at. first.ran v ran g at) f end;
    stops = λ opened stopped. stops_then c d e first second d.transcript.standing refl opened stopped;
    over = λ over.
        let same : d ≡ c = first.over over in
        second.over (λ (now : d.transcript.standing ≡ standing.Open). over (sym (ap (λ (x : Client S T X). x.transcript.standing) same) ∙ now)) ∙ same;
  }
