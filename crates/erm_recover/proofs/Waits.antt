-- Waiting leaves no more than before, and nothing pending.
use Rattle.std.proofs.Common.{◌≡◌, ℕ, suc, ◌+◌, ◌<◌, ◌≤◌, ◌⊎◌, ◌++◌, Bool, true, false, if◌then◌else◌, List, [], ◌∷◌, Option, Some, None, refl, sym, ap, ◌∙◌, subst, inl, inr, arith, append_assoc}
use Rattle.std.specs.Prelude.{IfSome, OnOk, Result, Ok, Err}
use Rattle.std.specs.Option.{option_map}
use Rattle.std.proofs.lemmas.Bool.{cases_lt}
use Rattle.std.proofs.lemmas.List.{append_cancel_right}
use Rattle.erm_outside.specs.declared.disk.File.{File}
use Rattle.erm_outside.specs.declared.disk.File.TheVariants.{Slot0, Slot1, Segment}
use Rattle.erm_outside.specs.Disk.{AllWait, Change, Does, Image, IsFileSettled, IsImage, IsSettled, MayBe, OnlyWaits, RemovalsLast, Step, Tells, changes_of, same_file}
use Rattle.erm_outside.specs.Disk.Change.{Synced}
use Rattle.erm_outside.proofs.Images.{changes-same, reads_may_be}
use Rattle.erm_outside.proofs.Waits.{removal_lasts, waited, waits_are}
use Rattle.erm_log_disk.specs.Writes.{AllWriteWords, WritesWords}
use Rattle.erm_log_disk.proofs.Trail.{pick}
use Rattle.erm_recover.specs.Waiting.{IsSettledBeyond, IsSettledIn, IsSettledOrRemoved, MaySettle, OnceSettled, Settles, SinceSettled, first_waited, last_waited}

-- ---- what a crash may leave

image_of_wait : (file other : File) (steps : List Step) (left : List ℕ) → MayBe (changes_of file (waited other ∷ steps)) left → MayBe (changes_of file steps) left
image_of_wait file other steps left = pick (λ changes. MayBe changes left → MayBe (changes_of file steps) left) (same_file other file) (Synced ∷ changes_of file steps) (changes_of file steps)
    (λ same is. subst (MayBe (changes_of file steps)) (sym is) (reads_may_be (changes_of file steps))) (λ not is. is)

images_wait : (more old : List Step) → AllWait more → (image : Image) → IsImage (more ++ old) image → IsImage old image
images_wait [] old waits image is = is
images_wait (step ∷ more) old (wait, others) image is =
    images_wait more old others image (λ file. image_of_wait file step.file (more ++ old) (image file) (subst (λ (s : Step). MayBe (changes_of file (s ∷ more ++ old)) (image file)) (waits_are step wait) (is file)))

pub images_stay : (old new : List Step) → OnlyWaits old new → (image : Image) → IsImage new image → IsImage old image
images_stay old new (more, split, waits) image is = images_wait more old waits image (subst (λ (s : List Step). IsImage s image) split is)

-- ---- what is pending

settled_wait : (file other : File) (steps : List Step) → IsFileSettled (changes_of file steps) → IsFileSettled (changes_of file (waited other ∷ steps))
settled_wait file other steps settled = pick IsFileSettled (same_file other file) (Synced ∷ changes_of file steps) (changes_of file steps) (λ same left is. is) (λ not. settled)

settled_here : (file : File) (steps : List Step) → IsFileSettled (changes_of file (waited file ∷ steps))
settled_here file steps = subst IsFileSettled (sym (changes-same file Synced steps)) (λ left is. is)

settled_stays : (more old : List Step) → AllWait more → (file : File) → IsFileSettled (changes_of file old) → IsFileSettled (changes_of file (more ++ old))
settled_stays [] old waits file settled = settled
settled_stays (step ∷ more) old (is, others) file settled =
    subst (λ (s : Step). IsFileSettled (changes_of file (s ∷ more ++ old))) (sym (waits_are step is)) (settled_wait file step.file (more ++ old) (settled_stays more old others file settled))

pub file_stays : (old new : List Step) → OnlyWaits old new → (file : File) → IsFileSettled (changes_of file old) → IsFileSettled (changes_of file new)
file_stays old new (more, split, waits) file settled = subst (λ (s : List Step). IsFileSettled (changes_of file s)) (sym split) (settled_stays more old waits file settled)

pub disk_stays : (old new : List Step) → OnlyWaits old new → IsSettled old → IsSettled new
disk_stays old new waits settled file = file_stays old new waits file (settled file)

-- ---- one wait after another

pub no_waits : (steps : List Step) → OnlyWaits steps steps
no_waits steps = ([], refl, tt)

pub one_wait : (file : File) (steps : List Step) → OnlyWaits steps (waited file ∷ steps)
one_wait file steps = (waited file ∷ [], refl, (refl, tt))

all_wait : (later more : List Step) → AllWait later → AllWait more → AllWait (later ++ more)
all_wait [] more first second = second
all_wait (step ∷ later) more (is, others) second = (is, all_wait later more others second)

pub waits_join : (a b c : List Step) → OnlyWaits a b → OnlyWaits b c → OnlyWaits a c
waits_join a b c (more, split, waits) (later, split_later, waits_later) =
    (later ++ more, split_later ∙ ap (λ (s : List Step). later ++ s) split ∙ sym (append_assoc later more a), all_wait later more waits_later waits)

wait_front : (after before : List Step) → AllWait (after ++ before) → AllWait before
wait_front [] before waits = waits
wait_front (step ∷ after) before (is, others) = wait_front after before others

-- at a moment on the way it was only waited so far
pub waits_before : (old mid now : List Step) → OnlyWaits old mid → (before : List Step) → now ≡ before ++ old → (after : List Step) → mid ≡ after ++ now → OnlyWaits old now
waits_before old mid now (more, split, waits) before since after later =
    let same : more ≡ after ++ before =
    append_cancel_right more (after ++ before) old (sym split ∙ later ∙ ap (λ (s : List Step). after ++ s) since ∙ sym (append_assoc after before old))
    in
    (before, since, wait_front after before (subst AllWait same waits))

-- waits write none of the words of the log but some of these
waits_write : (at : ℕ) (words : List ℕ) (more : List Step) → AllWait more → AllWriteWords at words more
waits_write at words [] waits = tt
waits_write at words (step ∷ more) (is, others) = (subst (λ (change : Change). WritesWords at words step.file change) (sym is) tt, waits_write at words more others)

write_all : (at : ℕ) (words : List ℕ) (later more : List Step) → AllWriteWords at words later → AllWriteWords at words more → AllWriteWords at words (later ++ more)
write_all at words [] more first second = second
write_all at words (step ∷ later) more (is, others) second = (is, write_all at words later more others second)

abbrev pub WritesSome : ℕ → List ℕ → List Step → List Step → Type 0
WritesSome at words old new = (more : List Step) × (new ≡ more ++ old) × AllWriteWords at words more

pub waits_write_some : (at : ℕ) (words : List ℕ) (old new : List Step) → OnlyWaits old new → WritesSome at words old new
waits_write_some at words old new (more, split, waits) = (more, split, waits_write at words more waits)

pub writes_behind : (at : ℕ) (words : List ℕ) (a b c : List Step) → OnlyWaits a b → WritesSome at words b c → WritesSome at words a c
writes_behind at words a b c (more, split, waits) (later, split_later, writes) =
    (later ++ more, split_later ∙ ap (λ (s : List Step). later ++ s) split ∙ sym (append_assoc later more a), write_all at words later more writes (waits_write at words more waits))

-- ---- as far as the disk tells

abbrev pub WaitsTold : Option (List Step) → Option (List Step) → Type 0
WaitsTold before after = Tells OnlyWaits before after

pub none_told : (told : Option (List Step)) → WaitsTold told told
none_told None = refl
none_told (Some steps) = (steps, refl, no_waits steps)

pub same_told : (a b c : Option (List Step)) → WaitsTold a b → c ≡ b → WaitsTold a c
same_told a b c waits same = subst (λ (x : Option (List Step)). WaitsTold a x) (sym same) waits

pub one_told : (file : File) (a b c : Option (List Step)) → WaitsTold a b → Does file Synced b c → WaitsTold a c
one_told file None b c waits does = does ∙ ap (option_map (λ (steps : List Step). waited file ∷ steps)) waits
one_told file (Some old) b c (mid, told, waits) does =
    (waited file ∷ mid, does ∙ ap (option_map (λ (steps : List Step). waited file ∷ steps)) told, waits_join old mid (waited file ∷ mid) waits (one_wait file mid))

pub told_join : (a b c : Option (List Step)) → WaitsTold a b → WaitsTold b c → WaitsTold a c
told_join None b c first second = subst (λ (x : Option (List Step)). WaitsTold x c) first second
told_join (Some old) b c (mid, told, waits) second =
    let here = subst (λ (x : Option (List Step)). WaitsTold x c) told second in
    (here.0, here.1, waits_join old mid here.0 waits here.2)

-- one segment more lasts
settled_next : (first n : ℕ) (steps : List Step) → IsSettledIn first n steps → IsSettledIn first (n + 1) (waited (Segment n) ∷ steps)
settled_next first n steps settled m low high = elim (cases_lt m n) [
  | inl less ↦ settled_wait (Segment m) (Segment n) steps (settled m low less)
  | inr last ↦ let e : n ≡ m = omega arith in subst (λ (k : ℕ). IsFileSettled (changes_of (Segment m) (waited (Segment k) ∷ steps))) (sym e) (settled_here (Segment m) steps)
]

pub next_told : (first n : ℕ) (before after : Option (List Step)) → IfSome before (IsSettledIn first n) → Does (Segment n) Synced before after → IfSome after (IsSettledIn first (n + 1))
next_told first n None after settled does = subst (λ (x : Option (List Step)). IfSome x (IsSettledIn first (n + 1))) (sym does) tt
next_told first n (Some steps) after settled does = subst (λ (x : Option (List Step)). IfSome x (IsSettledIn first (n + 1))) (sym does) (settled_next first n steps settled)

-- ---- removals

-- nothing is pending but of the slots and of these segments
abbrev IsSettledOff : ℕ → ℕ → List Step → Type 0
IsSettledOff from place steps = (n : ℕ) → (n < first_waited from) ⊎ (last_waited place < n) → IsFileSettled (changes_of (Segment n) steps)

either_wait : (file other : File) (steps : List Step) → IsSettledOrRemoved (changes_of file steps) → IsSettledOrRemoved (changes_of file (waited other ∷ steps))
either_wait file other steps either = pick IsSettledOrRemoved (same_file other file) (Synced ∷ changes_of file steps) (changes_of file steps) (λ same. inl (λ left is. is)) (λ not. either)

either_stays : (more old : List Step) → AllWait more → (file : File) → IsSettledOrRemoved (changes_of file old) → IsSettledOrRemoved (changes_of file (more ++ old))
either_stays [] old waits file either = either
either_stays (step ∷ more) old (is, others) file either =
    subst (λ (s : Step). IsSettledOrRemoved (changes_of file (s ∷ more ++ old))) (sym (waits_are step is)) (either_wait file step.file (more ++ old) (either_stays more old others file either))

-- while it is waited no more is pending than before
pub beyond_stays : (from place : ℕ) (old new : List Step) → OnlyWaits old new → IsSettledBeyond from place old → IsSettledBeyond from place new
beyond_stays from place old new (more, split, waits) beyond n out =
    subst (λ (s : List Step). IsSettledOrRemoved (changes_of (Segment n) s)) (sym split) (either_stays more old waits (Segment n) (beyond n out))

-- where removals were waited for, none of these segments has anything pending
removals_last : (from place : ℕ) (old new : List Step) → OnlyWaits old new → RemovalsLast new → IsSettledBeyond from place old → IsSettledOff from place new
removals_last from place old new waits last beyond n out = elim (beyond n out) [
  | inl settled ↦ file_stays old new waits (Segment n) settled
  | inr removed ↦ removal_lasts old new waits (Segment n) removed (last (Segment n))
]

-- and so the whole disk
settled_all : (from place end : ℕ) (a b c d : List Step) → IsSettledOff from place a → b ≡ waited Slot0 ∷ a → c ≡ waited Slot1 ∷ b → OnlyWaits c d
    → IsSettledIn (first_waited from) end d → last_waited place < end → IsSettled d
settled_all from place end a b c d beyond one other waits settled low Slot0 =
    file_stays c d waits Slot0 (subst (λ (s : List Step). IsFileSettled (changes_of Slot0 s)) (sym other)
    (settled_wait Slot0 Slot1 b (subst (λ (s : List Step). IsFileSettled (changes_of Slot0 s)) (sym one) (settled_here Slot0 a))))
settled_all from place end a b c d beyond one other waits settled low Slot1 =
    file_stays c d waits Slot1 (subst (λ (s : List Step). IsFileSettled (changes_of Slot1 s)) (sym other) (settled_here Slot1 b))
settled_all from place end a b c d beyond one other waits settled low (Segment n) =
    let outside : ((n < first_waited from) ⊎ (last_waited place < n)) → IsFileSettled (changes_of (Segment n) d) = λ where_it_is.
    file_stays c d waits (Segment n) (subst (λ (s : List Step). IsFileSettled (changes_of (Segment n) s)) (sym other)
    (settled_wait (Segment n) Slot1 b (subst (λ (s : List Step). IsFileSettled (changes_of (Segment n) s)) (sym one) (settled_wait (Segment n) Slot0 a (beyond n where_it_is)))))
    in
    elim (cases_lt n (first_waited from)) [
      | inl before ↦ outside (inl before)
      | inr at_least ↦ elim (cases_lt n end) [
        | inl within ↦ settled n at_least within
        | inr behind ↦ outside (inr (omega (arith, low, behind)))
      ]
    ]

pub all_told : (from place end : ℕ) (z a b c d : Option (List Step)) → IfSome z (IsSettledBeyond from place) → WaitsTold z a → IfSome a RemovalsLast → Does Slot0 Synced a b → Does Slot1 Synced b c
    → WaitsTold c d → IfSome d (IsSettledIn (first_waited from) end) → last_waited place < end → IfSome d IsSettled
all_told from place end None a b c d beyond first last one other waits settled low =
    let at_b : b ≡ None = one ∙ ap (option_map (λ (steps : List Step). waited Slot0 ∷ steps)) first in
    let at_c : c ≡ None = other ∙ ap (option_map (λ (steps : List Step). waited Slot1 ∷ steps)) at_b in
    let at_d : d ≡ None = subst (λ (x : Option (List Step)). WaitsTold x d) at_c waits in
    subst (λ (x : Option (List Step)). IfSome x IsSettled) (sym at_d) tt
all_told from place end (Some old) a b c d beyond (mid, told, first) last one other waits settled low =
    let at_b : b ≡ Some (waited Slot0 ∷ mid) = one ∙ ap (option_map (λ (steps : List Step). waited Slot0 ∷ steps)) told in
    let at_c : c ≡ Some (waited Slot1 ∷ waited Slot0 ∷ mid) = other ∙ ap (option_map (λ (steps : List Step). waited Slot1 ∷ steps)) at_b in
    let here = subst (λ (x : Option (List Step)). WaitsTold x d) at_c waits in
    let off = removals_last from place old mid first (subst (λ (x : Option (List Step)). IfSome x RemovalsLast) told last) beyond in
    subst (λ (x : Option (List Step)). IfSome x IsSettled) (sym here.1)
    (settled_all from place end mid (waited Slot0 ∷ mid) (waited Slot1 ∷ waited Slot0 ∷ mid) here.0 off refl refl here.2
    (subst (λ (x : Option (List Step)). IfSome x (IsSettledIn (first_waited from) end)) here.1 settled) low)

-- ---- what is so from the moment on at which nothing was pending

pub settles_weaker : (P Q : List Step → List Step → Type 0) (old new : List Step) → ((a b : List Step) → P a b → Q a b) → Settles P old new → Settles Q old new
settles_weaker P Q old new weaker s = record { mid = s.mid; waits = s.waits; settled = s.settled; since = weaker s.mid new s.since }

pub may_weaker : (P Q : List Step → List Step → Type 0) (old new : List Step) → ((a b : List Step) → P a b → Q a b) → MaySettle P old new → MaySettle Q old new
may_weaker P Q old new weaker (inl waits) = inl waits
may_weaker P Q old new weaker (inr s) = inr (settles_weaker P Q old new weaker s)

pub once_weaker : (P Q : List Step → List Step → Type 0) (old new : List Step) → ((a b : List Step) → P a b → Q a b) → OnceSettled P old new → OnceSettled Q old new
once_weaker P Q old new weaker (may, whole) = (may_weaker P Q old new weaker may, λ settled. weaker old new (whole settled))

pub once_since : (P : List Step → List Step → Type 0) (old new : List Step) → SinceSettled P old new → OnceSettled P old new
once_since P old new (settles, whole) = (inr settles, whole)

-- and goes on
pub since_then : (P Q : List Step → List Step → Type 0) (old mid new : List Step) → ((a : List Step) → P a mid → Q a new) → SinceSettled P old mid → SinceSettled Q old new
since_then P Q old mid new go (s, whole) = (record { mid = s.mid; waits = s.waits; settled = s.settled; since = go s.mid s.since }, λ settled. go old (whole settled))

-- what follows after `Ok`
pub on_ok_then : {T E : Type 0} (r : Result T E) (P Q : Type 0) → (P → Q) → OnOk r P → OnOk r Q
on_ok_then (Ok x) P Q then_so p = then_so p
on_ok_then (Err e) P Q then_so p = tt
