-- What a disk tells before and after: what follows from it, and how it joins.
use Rattle.std.proofs.Common.{◌≡◌, List, Option, Some, None, IfSome, refl, sym, subst}
use Rattle.erm_desk.proofs.Turned.{all_some}
use Rattle.erm_outside.specs.Disk.{Step, Tells}

-- a relation of what is told before and after
abbrev pub Relation : Type 1
Relation = List Step → List Step → Type 0

pub if_both : {A : Type 0} (P Q R : A → Type 0) (o : Option A) → ((x : A) → P x → Q x → R x) → IfSome o P → IfSome o Q → IfSome o R
if_both P Q R None map one two = tt
if_both P Q R (Some x) map one two = map x one two

-- what was told before had H
module _ (H : List Step → Type 0) where
  pub tells_map : (P Q : Relation) (before after : Option (List Step)) → ((old new : List Step) → H old → P old new → Q old new) → IfSome before H → Tells P before after → Tells Q before after
  tells_map P Q None after map had told = told
  tells_map P Q (Some old) after map had (new, is, p) = (new, is, map old new had p)

  pub tells_if : (P : Relation) (R : List Step → Type 0) (before after : Option (List Step)) → ((old new : List Step) → H old → P old new → R new) → IfSome before H → Tells P before after → IfSome after R
  tells_if P R None after map had told = subst (λ (x : Option (List Step)). IfSome x R) (sym told) tt
  tells_if P R (Some old) after map had (new, is, p) = subst (λ (x : Option (List Step)). IfSome x R) (sym is) (map old new had p)

  pub tells_here : (P : Relation) (told : Option (List Step)) → ((now : List Step) → H now → P now now) → IfSome told H → Tells P told told
  tells_here P None map had = refl
  tells_here P (Some now) map had = (now, refl, map now had)

  -- what was so since something older was told, and what was done since
  pub since_then : (X Y P : Relation) (began before after : Option (List Step)) → ((old mid new : List Step) → H mid → X old mid → P mid new → Y old new)
      → IfSome before H → IfSome before (λ now. IfSome began (λ old. X old now)) → Tells P before after → IfSome after (λ now. IfSome began (λ old. Y old now))
  since_then X Y P began None after map had older told = subst (λ (x : Option (List Step)). IfSome x (λ now. IfSome began (λ old. Y old now))) (sym told) tt
  since_then X Y P began (Some mid) after map had older (new, is, p) =
      subst (λ (x : Option (List Step)). IfSome x (λ now. IfSome began (λ old. Y old now))) (sym is)
      (all_some (λ old. X old mid) (λ old. Y old new) began (λ old x. map old mid new had x p) older)

pub tells_join : (P Q R : Relation) (a b c : Option (List Step)) → ((x y z : List Step) → P x y → Q y z → R x z) → Tells P a b → Tells Q b c → Tells R a c
tells_join P Q R None b c join first second = subst (λ (x : Option (List Step)). Tells Q x c) first second
tells_join P Q R (Some old) b c join (mid, is, p) second =
    let here : Tells Q (Some mid) c = subst (λ (x : Option (List Step)). Tells Q x c) is second in
    (here.0, here.1, join old mid here.0 p here.2)

pub tells_two : (P Q : Relation) (a b : Option (List Step)) → Tells P a b → Tells Q a b → Tells (λ old new. P old new × Q old new) a b
tells_two P Q None b first second = first
tells_two P Q (Some old) b (new, is, p) (other, is_other, q) =
    let same : other ≡ new = cc in
    (new, is, (p, subst (Q old) same q))

-- the same, as far as both are told
pub tells_since : (R : Relation) (before after : Option (List Step)) → Tells R before after → IfSome after (λ now. IfSome before (λ old. R old now))
tells_since R None after told = subst (λ (x : Option (List Step)). IfSome x (λ now. Unit {0})) (sym told) tt
tells_since R (Some old) after (new, is, r) = subst (λ (x : Option (List Step)). IfSome x (λ now. R old now)) (sym is) r
