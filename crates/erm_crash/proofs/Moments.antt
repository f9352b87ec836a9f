-- Moments between two lists of steps: they join, and what holds of each image at each of them.
use Rattle.std.proofs.Common.{◌≡◌, ℕ, ◌≤◌, ◌⊎◌, ◌++◌, List, [], ◌∷◌, refl, sym, ap, ◌∙◌, subst, arith, append_assoc, inl, inr}
use Rattle.std.proofs.lemmas.List.{append_cancel_right}
use Rattle.erm_model.specs.Rows.{Rows}
use Rattle.erm_block.specs.declared.block.Block.{Block}
use Rattle.erm_log_disk.specs.Writes.{AllWriteWords}
use Rattle.erm_outside.specs.Disk.{AtEachMoment, contents, EachImage, Image, IsImage, IsSettled, Step}
use Rattle.erm_ckpt.specs.Recovered.{State}
use Rattle.erm_crash.specs.Kept.{KeepsBlocks, RecoversStopped}
use Rattle.erm_crash.specs.Moments.{AtMoments, IsMoment}

-- ---- lists that are cut at two places

-- the first list ends within the second part, or the other way round
pub record CutsBefore (xs ys us vs : List Step) : Type 0 where
  pub between : List Step
  pub behind : vs ≡ between ++ ys
  pub front : xs ≡ us ++ between

pub two_cuts : (xs ys us vs : List Step) → xs ++ ys ≡ us ++ vs → CutsBefore xs ys us vs ⊎ CutsBefore us vs xs ys
two_cuts [] ys us vs same = inr (record { between = us; behind = same; front = refl })
two_cuts (x ∷ xs) ys [] vs same = inl (record { between = x ∷ xs; behind = sym same; front = refl })
two_cuts (x ∷ xs) ys (u ∷ us) vs same =
    let first : x ≡ u = cc in
    let rest : xs ++ ys ≡ us ++ vs = cc in
    elim (two_cuts xs ys us vs rest) [
      | inl cut ↦ inl (record { between = cut.between; behind = cut.behind; front = ap (λ (s : Step). s ∷ xs) first ∙ ap (λ (ss : List Step). u ∷ ss) cut.front })
      | inr cut ↦ inr (record { between = cut.between; behind = cut.behind; front = ap (λ (s : Step). s ∷ us) (sym first) ∙ ap (λ (ss : List Step). x ∷ ss) cut.front })
    ]

-- the steps done since the older ones are those done before a moment and those done after it
pub parts_of : (old new more now : List Step) (m : IsMoment old new now) → new ≡ more ++ old → more ≡ m.after ++ m.before
parts_of old new more now m steps =
    append_cancel_right more (m.after ++ m.before) old
    (sym steps ∙ m.later ∙ ap (λ (ss : List Step). m.after ++ ss) m.since ∙ sym (append_assoc m.after m.before old))

-- a moment lies on one side of a third list
pub on_one_side : (a b c now first second : List Step) → b ≡ first ++ a → c ≡ second ++ b → IsMoment a c now → IsMoment a b now ⊎ IsMoment b c now
on_one_side a b c now first second to_b to_c m =
    let parts : second ++ first ≡ m.after ++ m.before =
    parts_of a c (second ++ first) now m (to_c ∙ ap (λ (ss : List Step). second ++ ss) to_b ∙ sym (append_assoc second first a)) in
    elim (two_cuts m.after m.before second first (sym parts)) [
      | inl cut ↦ inl (record {
        before = m.before;
        since = m.since;
        after = cut.between;
        later = to_b ∙ ap (λ (ss : List Step). ss ++ a) cut.behind ∙ append_assoc cut.between m.before a ∙ ap (λ (ss : List Step). cut.between ++ ss) (sym m.since);
      })
      | inr cut ↦ inr (record {
        before = cut.between;
        since = m.since ∙ ap (λ (ss : List Step). ss ++ a) cut.behind ∙ append_assoc cut.between first a ∙ ap (λ (ss : List Step). cut.between ++ ss) (sym to_b);
        after = m.after;
        later = m.later;
      })
    ]

-- moments join
pub joined : (P : List Step → Image → Type 0) (a b c : List Step) → AtMoments P a b → AtMoments P b c → AtMoments P a c
joined P a b c (first, one) (second, other) = (
  (second.0 ++ first.0, second.1 ∙ ap (λ (ss : List Step). second.0 ++ ss) first.1 ∙ sym (append_assoc second.0 first.0 a)),
  λ now m image is. elim (on_one_side a b c now first.0 second.0 first.1 second.1 m) [
    | inl before ↦ one now before image is
    | inr after ↦ other now after image is
  ],
)

pub weaker : (P Q : List Step → Image → Type 0) (a b : List Step) → ((now : List Step) (image : Image) → P now image → Q now image) → AtMoments P a b → AtMoments Q a b
weaker P Q a b weaken (more, each) = (more, λ now m image is. weaken now image (each now m image is))

-- ---- no step, and one

none_before : (a now : List Step) → IsMoment a a now → now ≡ a
none_before a now m =
    let none : [] ≡ m.after ++ m.before = parts_of a a [] now m refl in
    m.since ∙ ap (λ (ss : List Step). ss ++ a) (nothing m.after m.before none)
  where
    nothing : (xs ys : List Step) → [] ≡ xs ++ ys → ys ≡ []
    nothing [] ys none = sym none
    nothing (x ∷ xs) ys none = absurd (cc)

one_before : (step : Step) (a now : List Step) → IsMoment a (step ∷ a) now → (now ≡ a) ⊎ (now ≡ step ∷ a)
one_before step a now m = cases m.after m.later
  where
    cases : (after : List Step) → step ∷ a ≡ after ++ now → (now ≡ a) ⊎ (now ≡ step ∷ a)
    cases [] later = inr (sym later)
    cases (s ∷ after) later =
        let rest : a ≡ after ++ now = cc in
        inl (none_before a now (record { before = m.before; since = m.since; after = after; later = rest }))

-- at one moment
pub at_once : (P : List Step → Image → Type 0) (a : List Step) → ((image : Image) → IsImage a image → P a image) → AtMoments P a a
at_once P a holds = (
  ([], refl),
  λ now m image is.
      let same = none_before a now m in
      subst (λ (ss : List Step). P ss image) (sym same) (holds image (subst (λ (ss : List Step). IsImage ss image) same is)),
)

-- before a step and behind it
pub at_both : (P : List Step → Image → Type 0) (step : Step) (a : List Step) → ((image : Image) → IsImage a image → P a image)
    → ((image : Image) → IsImage (step ∷ a) image → P (step ∷ a) image) → AtMoments P a (step ∷ a)
at_both P step a before behind = (
  (step ∷ [], refl),
  λ now m image is. elim (one_before step a now m) [
    | inl same ↦ subst (λ (ss : List Step). P ss image) (sym same) (before image (subst (λ (ss : List Step). IsImage ss image) same is))
    | inr same ↦ subst (λ (ss : List Step). P ss image) (sym same) (behind image (subst (λ (ss : List Step). IsImage ss image) same is))
  ],
)

-- ---- each image at a moment

at_moment : (P : Image → Type 0) (old after before : List Step) (image : Image) → EachImage P old (after ++ before) → IsImage (before ++ old) image → P image
at_moment P old [] [] image each is = each image is
at_moment P old [] (s ∷ before) image each is = each.0 image is
at_moment P old (s ∷ after) before image each is = at_moment P old after before image each.1 is

pub from_each : (P : Image → Type 0) (old new now : List Step) → AtEachMoment P old new → IsMoment old new now → (image : Image) → IsImage now image → P image
from_each P old new now (more, steps, each) m image is =
    at_moment P old m.after m.before image (subst (EachImage P old) (parts_of old new more now m steps) each) (subst (λ (ss : List Step). IsImage ss image) m.since is)

pub all_from_each : (P : Image → Type 0) (old new : List Step) → AtEachMoment P old new → AtMoments (λ now image. P image) old new
all_from_each P old new each = ((each.0, each.1), λ now m image is. from_each P old new now each m image is)

-- where nothing is pending, the image is what reads give
pub settled_image : (P : Image → Type 0) (steps : List Step) (image : Image) → IsSettled steps → IsImage steps image → P (contents steps) → P image
settled_image P steps image settled is holds =
    let same : image ≡ contents steps = λ i file. settled file (image file) (is file) i in
    subst P (sym same) holds

-- the steps done before a moment write these words too
pub last_write : (at : ℕ) (words : List ℕ) (after before : List Step) → AllWriteWords at words (after ++ before) → AllWriteWords at words before
last_write at words [] before all = all
last_write at words (s ∷ after) before all = last_write at words after before all.1

-- ---- more blocks, and a lower place

pub stopped_more : (sound : Rows → Type 0) (from : State) (blocks more : List Block) (place : ℕ) (now : List Step) (image : Image) → RecoversStopped sound from blocks place now image
    → RecoversStopped sound from (blocks ++ more) place now image
stopped_more sound from blocks more place now image is =
    let past = is.past in
    record {
      past = record {
        front = past.front;
        rest = past.rest ++ more;
        split = ap (λ (bs : List Block). bs ++ more) past.split ∙ append_assoc past.front past.rest more;
        low = past.low;
        pair = past.pair;
        there = past.there;
        meets = past.meets;
      };
      stops = is.stops;
    }

pub stopped_lower : (sound : Rows → Type 0) (from : State) (blocks : List Block) (place later : ℕ) (now : List Step) (image : Image) → place ≤ later → RecoversStopped sound from blocks later now image
    → RecoversStopped sound from blocks place now image
stopped_lower sound from blocks place later now image lower is =
    let past = is.past in
    let low = past.low in
    record {
      past = record {
        front = past.front;
        rest = past.rest;
        split = past.split;
        low = omega (arith, lower, low);
        pair = past.pair;
        there = past.there;
        meets = past.meets;
      };
      stops = is.stops;
    }

pub go_on : (sound : Rows → Type 0) (from : State) (blocks more : List Block) (place later : ℕ) (a b c : List Step) → place ≤ later → KeepsBlocks sound from blocks place a b
    → KeepsBlocks sound from (blocks ++ more) later b c → KeepsBlocks sound from (blocks ++ more) place a c
go_on sound from blocks more place later a b c lower first second =
    joined _ a b c
    (weaker _ _ a b (λ now image keeps tears. stopped_more sound from blocks more place now image (keeps tears)) first)
    (weaker _ _ b c (λ now image keeps tears. stopped_lower sound from (blocks ++ more) place later now image lower (keeps tears)) second)
