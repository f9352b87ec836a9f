-- What a run acknowledges is kept by the next one.
use Rattle.std.proofs.Common.{◌≡◌, ℕ, ◌≤◌, ◌++◌, List, [], refl, sym, ap, ◌∙◌, subst, inl, inr, arith}
use Rattle.erm_model.specs.Committed.{Committed, IsStateBelow}
use Rattle.erm_model.specs.Database.{Database}
use Rattle.erm_model.specs.Rows.{Rows}
use Rattle.erm_model.specs.RowTransaction.{SameRows}
use Rattle.erm_block.specs.declared.block.Block.{Block}
use Rattle.erm_outside.specs.Disk.{Image, IsImage, Step, changes_of, contents}
use Rattle.erm_outside.proofs.Images.{reads_may_be}
use Rattle.erm_ckpt.specs.Recovered.{Pair, Recovers, State, base, state_behind}
use Rattle.erm_ckpt.specs.States.{SameState}
use Rattle.erm_crash.specs.Moments.{IsMoment, TearsApart}
use Rattle.erm_crash.proofs.Moments.{joined, weaker}
use Rattle.erm_node.specs.Sound.{IsSound, sound_law}
use Rattle.erm_node.specs.TreeMap.{map_of_rows}
use Rattle.erm_recover.specs.Waiting.{SinceSettled}
use Rattle.erm_recover.proofs.Waits.{images_stay, waits_before}
use Rattle.erm_report.specs.declared.answer.Answer.{Answer}
use Rattle.erm_disk_run.specs.Crashes.{KeepsCommits, KeepsSince, RecoversBelow}
use Rattle.erm_disk_run.specs.Found.{ReadsAs}
use Rattle.erm_disk_run.specs.TwoRuns.{HasCommits, KeepsOfBoth}

-- what an image recovers to is one
abbrev pub RecoversOnce : Type 0
RecoversOnce = (image : Image) (p q : Pair) (xs ys : List Block) → Recovers sound_law.meets image p xs → Recovers sound_law.meets image q ys → (p ≡ q) × (xs ≡ ys)

abbrev pub SameMaps : Type 0
SameMaps = (a b : Rows) → SameRows a b → IsSound a → map_of_rows a ≡ map_of_rows b

-- the last moment
last_moment : (mid entry more : List Step) → entry ≡ more ++ mid → IsMoment mid entry entry
last_moment mid entry more steps = record { before = more; since = steps; after = []; later = refl }

-- each image that the first run left recovers to what it acknowledged
pub left_images : (commits : List Committed) (from : State) (a : Answer) (place : ℕ) (old entry : List Step) → KeepsSince commits from a place old entry → (image : Image) → IsImage entry image
    → TearsApart sound_law.meets entry image → RecoversBelow commits from place entry image
left_images commits from a place old entry since image is tears =
    since.keeps.1 entry (last_moment since.mid entry since.keeps.0.0 since.keeps.0.1) image is tears

-- two states of one recovery
same_found : RecoversOnce → (found : State) (entry : List Step) (reads : ReadsAs found entry) (commits : List Committed) (from : State) (place : ℕ) (below : RecoversBelow commits from place entry (contents entry))
    → SameState found below.found
same_found one found entry reads commits from place below =
    let same = one (contents entry) reads.pair below.pair reads.blocks below.there.blocks reads.recovers below.there.recovers in
    let states : state_behind (base reads.pair) reads.blocks ≡ state_behind (base below.pair) below.there.blocks =
    ap (λ (p : Pair). state_behind (base p) reads.blocks) same.0 ∙ ap (λ (bs : List Block). state_behind (base below.pair) bs) same.1 in
    record {
      at = sym reads.is.at ∙ ap (λ (s : State). s.at) states ∙ below.there.is.at;
      run = sym reads.is.run ∙ ap (λ (s : State). s.run) states ∙ below.there.is.run;
      rows = λ oid less. sym (reads.is.rows oid less) ∙ ap (λ (s : State). s.rows oid) states ∙ below.there.is.rows oid less;
    }

pub is_found : RecoversOnce → SameMaps → (commits : List Committed) (from found : State) (a : Answer) (place : ℕ) (old entry : List Step) → KeepsSince commits from a place old entry
    → TearsApart sound_law.meets entry (contents entry) → ReadsAs found entry → IsSound found.rows → HasCommits commits from place found
is_found one maps commits from found a place old entry since tears reads sound =
    let below = left_images commits from a place old entry since (contents entry) (λ file. reads_may_be (changes_of file entry)) tears in
    let same = same_found one found entry reads commits from place below in
    let low = below.low in
    let at = same.at in
    record {
      low = omega (arith, low, at);
      map = subst (λ (n : ℕ). IsStateBelow commits (map_of_rows from.rows) n (map_of_rows found.rows)) (sym at)
          (subst (λ (m : Database). IsStateBelow commits (map_of_rows from.rows) below.found.at m) (sym (maps found.rows below.found.rows same.rows sound)) below.map);
    }

lower : (commits : List Committed) (from : State) (place later : ℕ) (now : List Step) (image : Image) → place ≤ later → RecoversBelow commits from later now image → RecoversBelow commits from place now image
lower commits from place later now image less is = let low = is.low in
    record { found = is.found; pair = is.pair; there = is.there; low = omega (arith, less, low); run = is.run; map = is.map; opens = is.opens; stops = is.stops }

pub keeps_both : (first second : List Committed) (from found : State) (a : Answer) (place : ℕ) (old entry new : List Step) → KeepsSince first from a place old entry
    → HasCommits first from place found → SinceSettled (KeepsCommits second found found.at) entry new → KeepsOfBoth first from place second found entry new
keeps_both first second from found a place old entry new since has (s, whole) =
    joined _ entry s.mid new (
      (s.waits.0, s.waits.1),
      λ now m image is left tears.
          let so_far = waits_before entry s.mid now s.waits m.before m.since m.after m.later in
          inl (left_images first from a place old entry since image (images_stay entry now so_far image is) left),
    )
    (weaker _ _ s.mid new (λ now image keeps left tears. inr (lower second found place found.at now image has.low (keeps tears))) s.since)
