-- Who owns an entry, in a sound state.
use Rattle.std.proofs.Common.{◌≡◌, ℕ, ◌<◌, Option, subst}
use Rattle.erm_machine.specs.declared.limits.TheConstants.{OBJECT_LIMIT}
use Rattle.erm_machine.specs.declared.task.Task.{Task}
use Rattle.erm_machine.specs.declared.task.Task.TheVariants as task
use Rattle.erm_machine.specs.declared.version.VersionAt.{VersionAt}
use Rattle.erm_machine.specs.Chains.{IsNamed, NamedInHand}
use Rattle.erm_machine.specs.Core.{Core}
use Rattle.erm_machine.specs.Facts.{Holds}
use Rattle.erm_machine.specs.Snapshot.{NewerFrom, InHand, NoneInHand}
use Rattle.erm_machine.specs.Sound.{Sound}
use Rattle.erm_machine.specs.Words.{number_of, owner_of}
use Rattle.erm_machine.proofs.Holders.{held_claim}
use Rattle.erm_entries.specs.Calls.{LeadsToSnapshot}

pub owner_is : (c : Core) (q oid : ℕ) → Sound c → Holds (c.seats q) oid → owner_of (c.shared.objects oid).entry ≡ q
owner_is c q oid sound h = (held_claim c q oid sound h).fits.owner

pub number_is : (c : Core) (q oid : ℕ) → Sound c → Holds (c.seats q) oid → number_of (c.shared.objects oid).entry ≡ (c.seats q).current.number
number_is c q oid sound h = (held_claim c q oid sound h).fits.numbered

pub holder_is : (c : Core) (q oid : ℕ) → Sound c → oid < OBJECT_LIMIT → 0 < q → owner_of (c.shared.objects oid).entry ≡ q → Holds (c.seats q) oid
holder_is c q oid sound known positive is = (sound.own q).claims.owned oid positive known is

-- the version in hand of a walk
pub leads : (c : Core) (who : ℕ) (version : VersionAt) (head : Option ℕ) → Sound c → (c.seats who).task ≡ task.Walks version head → LeadsToSnapshot c who version
leads c who version head sound at =
    let named : IsNamed c.shared version = subst (λ (t : Task). NamedInHand c.shared t) at (sound.own who).chains.named in
    let newer : NewerFrom (c.shared.objects version.oid) version.place (c.seats who).current.begin =
    subst (λ (t : Task). InHand c.shared (c.seats who).current.begin t) at (sound.own who).snapshot.in_hand in
    record {
      named = named;
      newer = newer;
      unclaimed = λ q ne. subst (λ (t : Task). NoneInHand (c.seats who).current.begin t q (c.seats q)) at (sound.both who q ne).snapshot.in_hand;
    }
