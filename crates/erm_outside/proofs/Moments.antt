-- What holds of each image at each moment.
use Rattle.std.proofs.Common.{◌≡◌, ◌++◌, List, [], ◌∷◌, sym, ap, ◌∙◌, subst, append_assoc}
use Rattle.erm_outside.specs.Disk.{Image, Step, IsImage, EachImage, AtEachMoment}

-- of the images after the older steps, and then of those after more steps
each_image-append : (P : Image → Type 0) (old first second : List Step) → EachImage P old first → EachImage P (first ++ old) second → EachImage P old (second ++ first)
each_image-append P old first [] before later = before
each_image-append P old first (step ∷ second) before later =
    let e : step ∷ (second ++ (first ++ old)) ≡ step ∷ ((second ++ first) ++ old) = ap (λ (steps : List Step). step ∷ steps) (sym (append_assoc second first old)) in
    (subst (λ steps. (image : Image) → IsImage steps image → P image) e later.0, each_image-append P old first second before later.1)

pub moments-joined : (P : Image → Type 0) (a b c : List Step) → AtEachMoment P a b → AtEachMoment P b c → AtEachMoment P a c
moments-joined P a b c before later = (
  later.0 ++ before.0,
  later.1 ∙ ap (λ steps. later.0 ++ steps) before.1 ∙ sym (append_assoc later.0 before.0 a),
  each_image-append P a before.0 later.0 before.2 (rw before.1 at later.2),
)

first_of : (P : Image → Type 0) (old more : List Step) (image : Image) → EachImage P old more → IsImage old image → P image
first_of P old [] image each is = each image is
first_of P old (step ∷ more) image each is = first_of P old more image each.1 is

last_of : (P : Image → Type 0) (old more : List Step) (image : Image) → EachImage P old more → IsImage (more ++ old) image → P image
last_of P old [] image each is = each image is
last_of P old (step ∷ more) image each is = each.0 image is

pub at_first : (P : Image → Type 0) (a b : List Step) (image : Image) → AtEachMoment P a b → IsImage a image → P image
at_first P a b image each is = first_of P a each.0 image each.2 is

pub at_last : (P : Image → Type 0) (a b : List Step) (image : Image) → AtEachMoment P a b → IsImage b image → P image
at_last P a b image each is = last_of P a each.0 image each.2 (rw each.1 at is)

weaker_each : (P Q : Image → Type 0) (old more : List Step) → ((image : Image) → P image → Q image) → EachImage P old more → EachImage Q old more
weaker_each P Q old [] weak each = λ image is. weak image (each image is)
weaker_each P Q old (step ∷ more) weak each = (λ image is. weak image (each.0 image is), weaker_each P Q old more weak each.1)

pub weaker_moments : (P Q : Image → Type 0) (a b : List Step) → ((image : Image) → P image → Q image) → AtEachMoment P a b → AtEachMoment Q a b
weaker_moments P Q a b weak each = (each.0, each.1, weaker_each P Q a each.0 weak each.2)
