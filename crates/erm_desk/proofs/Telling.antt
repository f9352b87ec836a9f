-- What a disk told goes on in what it tells later.
use Rattle.std.proofs.Common.{◌≡◌, ℕ, List, [], ◌++◌, Option, Some, None, refl, sym, ap, ◌∙◌, subst, append_assoc}
use Rattle.erm_log_disk.specs.Writes.{OnlyWrites}
use Rattle.erm_outside.specs.Disk.{Step, Tells}

-- what a disk told goes on in what it tells now
abbrev pub TellsOn : (before after : Option (List Step)) → Type 0
TellsOn before after = Tells (λ old new. (more : List Step) × (new ≡ more ++ old)) before after

pub tells_still : (told : Option (List Step)) → TellsOn told told
tells_still None = refl
tells_still (Some now) = (now, refl, ([], refl))

pub tells_more : (at : ℕ) (words : List ℕ) (began before after : Option (List Step)) → TellsOn began before → OnlyWrites at words before after → TellsOn began after
tells_more at words None before after told writes = subst (λ (x : Option (List Step)). OnlyWrites at words x after) told writes
tells_more at words (Some old) before after (now, is, on) writes =
    let here : OnlyWrites at words (Some now) after = subst (λ (x : Option (List Step)). OnlyWrites at words x after) is writes in
    let later = here.2 in (
      here.0,
      here.1,
      (later.0 ++ on.0, later.1 ∙ ap (λ (ss : List Step). later.0 ++ ss) on.1 ∙ sym (append_assoc later.0 on.0 old)),
    )
