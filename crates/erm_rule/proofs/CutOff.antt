-- The cells that a cut takes off a chain are those of its versions from the cut before to the new one.
use Rattle.std.proofs.Common.{◌≡◌, ℕ, ◌+◌, ◌<◌, ◌≤◌, length, length-take, drop, take, get_or, sym, ap, ◌∙◌, arith}
use Rattle.std.proofs.lemmas.List.{get_or-drop, get_or-take, length-drop}
use Rattle.std.proofs.lemmas.Option.{get_or_from_slice_get, slice_get_within}
use Rattle.erm_machine.specs.declared.attempt.OwnCell.{OwnCell}
use Rattle.erm_machine.specs.declared.version.Version.{Version}
use Rattle.erm_machine.specs.Core.{Object, version_at, no_version}
use Rattle.erm_machine.specs.Reading.{cut_off}
use Rattle.erm_machine.proofs.Listed.{∈-map}
use Rattle.erm_model.specs.Member.{◌∈◌}

-- a version that was attached below this place, with its cell and its words
pub record WasAttached (o : Object) (place : ℕ) (own : OwnCell) : Type 0 where
  pub at : ℕ
  pub attached : o.cut ≤ at
  pub below : at < place
  pub within : at < length o.versions
  pub cell : (version_at o at).cell ≡ own.cell
  pub words : (version_at o at).words ≡ own.words

pub was_attached : (o : Object) (place : ℕ) (own : OwnCell) → own ∈ cut_off place o → WasAttached o place own
was_attached o place own m =
    let from = ∈-map (λ (v : Version). record { cell = v.cell; words = v.words }) (drop o.cut (take place o.versions)) own m in
    let v : Version = from.0 in
    let k : ℕ = from.1.0 in
    let here : k < length (drop o.cut (take place o.versions)) = slice_get_within _ k v from.1.1 in
    let sizes = length-drop o.cut (take place o.versions) in
    let size = length-take place o.versions in
    let is : get_or (drop o.cut (take place o.versions)) k no_version ≡ v = get_or_from_slice_get _ k v no_version from.1.1 in
    let below : o.cut + k < place = omega (arith, here, sizes, size) in
    let at : version_at o (o.cut + k) ≡ v =
    sym (get_or-take place o.versions (o.cut + k) no_version below) ∙ sym (get_or-drop o.cut (take place o.versions) k no_version) ∙ is in
    record {
      at = o.cut + k;
      attached = omega arith;
      below = below;
      within = omega (arith, here, sizes, size);
      cell = ap (λ (u : Version). u.cell) at ∙ ap (λ (z : OwnCell). z.cell) from.2;
      words = ap (λ (u : Version). u.words) at ∙ ap (λ (z : OwnCell). z.words) from.2;
    }
