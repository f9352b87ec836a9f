-- Rows of versions stay, and so do the versions that a seat has read.
use Rattle.std.proofs.Common.{◌≡◌, ℕ, Bool, true, false, Option, Some, None, [], ◌∷◌, refl, sym, subst, arith}
use Rattle.std.specs.Prelude.{if◌then◌else◌}
use Rattle.std.proofs.lemmas.Option.{same_Some}
use Rattle.erm_model.specs.Member.{◌∈◌}
use Rattle.erm_machine.specs.declared.attempt.Read.{Read}
use Rattle.erm_machine.specs.declared.event.Kind.{Kind}
use Rattle.erm_machine.specs.declared.event.Kind.TheVariants as kind
use Rattle.erm_machine.specs.declared.part.Part.{Part}
use Rattle.erm_machine.specs.Core.{Core, Object, spot_of, word_at}
use Rattle.erm_machine.specs.Facts.{HasBegun}
use Rattle.erm_machine.specs.Life.{split, join}
use Rattle.erm_machine.specs.Sound.{Sound}
use Rattle.erm_machine.specs.Step.{after_event, with_part}
use Rattle.erm_machine.proofs.Holders.{begun_attached}
use Rattle.erm_machine.proofs.Listed.{∈-head, ∈-second}
use Rattle.erm_machine.proofs.Objects.{Extends, extends}
use Rattle.erm_machine.proofs.QuietKinds.{MeetsOne, moves}
use Rattle.erm_cells.specs.Reads.{ReadStands, SameRows}

extended : (o u : Object) → Extends o u → SameRows o u
extended o u e = record { count = e.grows; rows = e.row }

-- an object, in two states
abbrev Rows : Core → ℕ → Core → Type 0
Rows c oid d = SameRows (c.shared.objects oid) (d.shared.objects oid)

part_rows : (c : Core) (q : ℕ) (o : Option Part) (d : Core) (oid : ℕ) → with_part c q o ≡ Some d → Rows c oid d
part_rows c q None d oid e = absurd (cc)
part_rows c q (Some y) d oid e = subst (Rows c oid) (same_Some _ _ e) (record { count = omega arith; rows = λ place within. refl })

split_rows : (c : Core) (p other : ℕ) (d : Core) (oid : ℕ) → after_event c p (kind.Split other) ≡ Some d → Rows c oid d
split_rows c p other d oid e = by_test _ e
  where
    by_test : (b : Bool) → (if b then with_part c other (split (c.seats p) (c.seats other)) else None) ≡ Some d → Rows c oid d
    by_test true e = part_rows c other _ d oid e
    by_test false e = absurd (cc)

join_rows : (c : Core) (p other : ℕ) (d : Core) (oid : ℕ) → after_event c p (kind.Join other) ≡ Some d → Rows c oid d
join_rows c p other d oid e = by_test _ e
  where
    by_test : (b : Bool) → (if b then None else with_part c p (join (c.seats p) (c.seats other))) ≡ Some d → Rows c oid d
    by_test true e = absurd (cc)
    by_test false e = part_rows c p _ d oid e

step_rows : (c : Core) (p : ℕ) (k : Kind) (d : Core) (oid : ℕ) → MeetsOne k → after_event c p k ≡ Some d → Rows c oid d
step_rows c p k d oid one e =
    let m = moves c p k d one e in
    subst (Rows c oid) (sym m.is) (extended _ _ (extends p k (word_at c (spot_of p k)) (c.seats p) c.shared oid))

pub rows : (c d : Core) (p : ℕ) (k : Kind) (oid : ℕ) → after_event c p k ≡ Some d → Rows c oid d
rows c d p (kind.Split other) oid e = split_rows c p other d oid e
rows c d p (kind.Join other) oid e = join_rows c p other d oid e
rows c d p k oid e = step_rows c p k d oid tt e

pub read_stands : (c : Core) (p : ℕ) (r : Read) → Sound c → HasBegun (c.seats p).place → r ∈ (c.seats p).current.reads → ReadStands c (c.seats p).current.begin r
read_stands c p r sound begun m =
    let x = c.seats p in
    let fits = (sound.own p).snapshot.reads x.current r (∈-second x.over (x.current ∷ []) x.current (∈-head x.current [])) m in
    record {
      attached = begun_attached c p r.version.oid r.version.place sound fits.named.object begun fits.newest.newer;
      cell = fits.named.cell;
      newest = fits.newest;
      row = fits.row;
    }
