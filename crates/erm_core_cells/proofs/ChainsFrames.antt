-- What a step leaves of chains: an object's cut, and the cells, links and stamps of its versions.
use Rattle.std.proofs.Common.{◌≡◌, ℕ, ◌-◌, ◌<◌, ◌≤◌, true, length, Option, Some, None, refl, sym, ap, ◌∙◌, subst, arith, length-set, max}
use Rattle.std.proofs.lemmas.Bool.{and_parts, eqb-true}
use Rattle.erm_model.specs.Member.{◌∈◌}
use Rattle.erm_machine.specs.declared.attempt.OwnCell.{OwnCell}
use Rattle.erm_machine.specs.declared.event.Kind.{Kind}
use Rattle.erm_machine.specs.declared.event.Kind.TheVariants as kind
use Rattle.erm_machine.specs.declared.part.Part.{Part}
use Rattle.erm_machine.specs.declared.task.Task.{Task}
use Rattle.erm_machine.specs.declared.task.Task.TheVariants as task
use Rattle.erm_machine.specs.declared.version.Cell.{Cell}
use Rattle.erm_machine.specs.declared.version.CellWord.{CellWord}
use Rattle.erm_machine.specs.declared.version.CellWord.TheVariants as word
use Rattle.erm_machine.specs.declared.version.Version.{Version}
use Rattle.erm_machine.specs.declared.version.VersionAt.{VersionAt}
use Rattle.erm_machine.specs.Chains.{Linked, IsNamed, NamedInHand, IsAttached, IsDetached, CutInHand, IsHead, HeadInHand}
use Rattle.erm_machine.specs.Core.{Object, Shared, version_at, with_version}
use Rattle.erm_machine.specs.Facts.{Holds}
use Rattle.erm_machine.specs.Seat.{end_of, same_version}
use Rattle.erm_machine.specs.Step.{stored, installed, added, shared_after}
use Rattle.erm_machine.specs.Words.{put, set_word, with_bit, without_bit}
use Rattle.erm_machine.proofs.Frames.{at_cases}
use Rattle.erm_machine.proofs.Objects.{at_word, at_push-old, length_installed, Extends, same_objects}

-- the chain of the object stays: versions may be added
pub record Grows (o u : Object) : Type 0 where
  pub cut : u.cut ≡ o.cut
  pub grows : length o.versions ≤ length u.versions
  pub cell : (k : ℕ) → k < length o.versions → (version_at u k).cell ≡ (version_at o k).cell
  pub link : (k : ℕ) → k < length o.versions → (version_at u k).words.link ≡ (version_at o k).words.link
  pub stamp : (k : ℕ) → k < length o.versions → (version_at u k).words.stamp ≡ (version_at o k).words.stamp

pub grows_refl : (o : Object) → Grows o o
grows_refl o = record { cut = refl; grows = omega arith; cell = λ k w. refl; link = λ k w. refl; stamp = λ k w. refl }

-- the entry stays, and no version is added
pub record SameHead (o u : Object) : Type 0 where
  pub entry : u.entry ≡ o.entry
  pub as_long : length u.versions ≡ length o.versions

pub same_head : (o : Object) → SameHead o o
same_head o = record { entry = refl; as_long = refl }

-- words that chains don't speak of
abbrev pub Aside : CellWord → Type 0
Aside word.Stamp = ⊥
Aside word.Link = ⊥
Aside _ = Unit {0}

aside_link : (w : CellWord) (value : ℕ) (c : Cell) → Aside w → (set_word w value c).link ≡ c.link
aside_link word.Stamp value c a = absurd a
aside_link word.Link value c a = absurd a
aside_link _ value c a = refl

aside_stamp : (w : CellWord) (value : ℕ) (c : Cell) → Aside w → (set_word w value c).stamp ≡ c.stamp
aside_stamp word.Stamp value c a = absurd a
aside_stamp word.Link value c a = absurd a
aside_stamp _ value c a = refl

pub long_word : (o : Object) (place : ℕ) (words : Cell) → length (with_version o place words).versions ≡ length o.versions
long_word o place words = length-set o.versions place (record (version_at o place) { words = words })

grows_word : (o : Object) (place : ℕ) (w : CellWord) (value : ℕ) → Aside w → Grows o (with_version o place (set_word w value (version_at o place).words))
grows_word o place w value aside =
    let words = set_word w value (version_at o place).words in
    record {
      cut = refl;
      grows = let n = long_word o place words in omega (arith, n);
      cell = λ k _. at_word (λ v. v.cell ≡ (version_at o k).cell) o place words k (λ same. ap (λ n. (version_at o n).cell) (sym same)) refl;
      link = λ k _. at_word (λ v. v.words.link ≡ (version_at o k).words.link) o place words k
          (λ same. aside_link w value (version_at o place).words aside ∙ ap (λ n. (version_at o n).words.link) (sym same)) refl;
      stamp = λ k _. at_word (λ v. v.words.stamp ≡ (version_at o k).words.stamp) o place words k
          (λ same. aside_stamp w value (version_at o place).words aside ∙ ap (λ n. (version_at o n).words.stamp) (sym same)) refl;
    }

grows_installed : (head : ℕ) (v : Option Version) (o : Object) → Grows o (installed head v o)
grows_installed head None o = record { cut = refl; grows = omega arith; cell = λ k w. refl; link = λ k w. refl; stamp = λ k w. refl }
grows_installed head (Some v) o = record {
  cut = refl;
  grows = let n = length_installed head v o in omega (arith, n);
  cell = λ k w. ap (λ (u : Version). u.cell) (at_push-old head v o k w);
  link = λ k w. ap (λ (u : Version). u.words.link) (at_push-old head v o k w);
  stamp = λ k w. ap (λ (u : Version). u.words.stamp) (at_push-old head v o k w);
}

-- the objects with one of them changed
pub put_object : (R : Object → Object → Type 0) (f : ℕ → Object) (at : ℕ) (u : Object) → ((o : Object) → R o o) → R (f at) u → (oid : ℕ) → R (f oid) (put f at u oid)
put_object R f at u same r oid = at_cases (λ z. R (f oid) z) f at u oid (λ is. subst (λ n. R (f n) u) (sym is) r) (λ _. same (f oid))

grows_put : (f : ℕ → Object) (at : ℕ) (u : Object) → Grows (f at) u → (oid : ℕ) → Grows (f oid) (put f at u oid)
grows_put f at u g oid = put_object Grows f at u grows_refl g oid

-- kinds that cut no chain
abbrev pub CutsNone : Kind → Type 0
CutsNone (kind.SwapLink v) = ⊥
CutsNone _ = Unit {0}

pub grows_after : (p : ℕ) (k : Kind) (found : ℕ) (x : Part) (s : Shared) → CutsNone k → (oid : ℕ) → Grows (s.objects oid) ((shared_after p k found x s).objects oid)
grows_after p (kind.SwapLink v) found x s n oid = absurd n
grows_after p (kind.Claim at seen number) found x s n oid =
    grows_put s.objects at (record (s.objects at) { entry = stored p (kind.Claim at seen number) found })
    (record { cut = refl; grows = omega arith; cell = λ k w. refl; link = λ k w. refl; stamp = λ k w. refl }) oid
grows_after p (kind.Install at head) found x s n oid =
    grows_put s.objects at (installed head (added head x (end_of x.task)) (s.objects at)) (grows_installed head (added head x (end_of x.task)) (s.objects at)) oid
grows_after p (kind.SetReader v) found x s n oid = grows_put s.objects v.oid _ (grows_word (s.objects v.oid) v.place word.Readers (with_bit found p) tt) oid
grows_after p (kind.ClearReader v) found x s n oid = grows_put s.objects v.oid _ (grows_word (s.objects v.oid) v.place word.Readers (without_bit found p) tt) oid
grows_after p (kind.RaiseReader v value) found x s n oid = grows_put s.objects v.oid _ (grows_word (s.objects v.oid) v.place word.ReaderStamp (max found value) tt) oid
grows_after p (kind.StoreSucc v value) found x s n oid = grows_put s.objects v.oid _ (grows_word (s.objects v.oid) v.place word.OverwriterSucc value tt) oid
grows_after p (kind.StoreOverwriter v value) found x s n oid = grows_put s.objects v.oid _ (grows_word (s.objects v.oid) v.place word.Overwriter value tt) oid
grows_after p k found x s n oid = subst (λ (f : ℕ → Object). Grows (s.objects oid) (f oid)) (sym (same_objects p k found x s tt)) (grows_refl (s.objects oid))

-- kinds that change no entry and add no version
abbrev pub KeepsHeads : Kind → Type 0
KeepsHeads (kind.Claim oid seen number) = ⊥
KeepsHeads (kind.Install oid head) = ⊥
KeepsHeads _ = Unit {0}

head_put : (f : ℕ → Object) (at : ℕ) (u : Object) → SameHead (f at) u → (oid : ℕ) → SameHead (f oid) (put f at u oid)
head_put f at u g oid = put_object SameHead f at u same_head g oid

head_word : (f : ℕ → Object) (at place : ℕ) (words : Cell) (oid : ℕ) → SameHead (f oid) (put f at (with_version (f at) place words) oid)
head_word f at place words oid = head_put f at _ (record { entry = refl; as_long = long_word (f at) place words }) oid

pub heads_after : (p : ℕ) (k : Kind) (found : ℕ) (x : Part) (s : Shared) → KeepsHeads k → (oid : ℕ) → SameHead (s.objects oid) ((shared_after p k found x s).objects oid)
heads_after p (kind.Claim at seen number) found x s n oid = absurd n
heads_after p (kind.Install at head) found x s n oid = absurd n
heads_after p (kind.SetReader v) found x s n oid = head_word s.objects v.oid v.place _ oid
heads_after p (kind.ClearReader v) found x s n oid = head_word s.objects v.oid v.place _ oid
heads_after p (kind.RaiseReader v value) found x s n oid = head_word s.objects v.oid v.place _ oid
heads_after p (kind.StoreSucc v value) found x s n oid = head_word s.objects v.oid v.place _ oid
heads_after p (kind.StoreOverwriter v value) found x s n oid = head_word s.objects v.oid v.place _ oid
heads_after p (kind.SwapLink v) found x s n oid =
    head_put s.objects v.oid _ (record { entry = refl; as_long = long_word (s.objects v.oid) v.place (set_word word.Link 0 (version_at (s.objects v.oid) v.place).words) }) oid
heads_after p k found x s n oid = subst (λ (f : ℕ → Object). SameHead (s.objects oid) (f oid)) (sym (same_objects p k found x s tt)) (same_head (s.objects oid))

-- the links of an object whose chain stays, and to which no version is added
pub linked_kept : (o u : Object) → Grows o u → length u.versions ≡ length o.versions → Linked o → Linked u
linked_kept o u g as_long linked =
    let attached = linked.attached in
    let cut = g.cut in
    record {
      attached = omega (arith, attached, cut, as_long);
      older = λ k above below.
          let within : k < length o.versions = omega (arith, below, as_long) in
          let before : k - 1 < length o.versions = omega (arith, within) in
          let old = linked.older k (omega (arith, above, cut)) within in
          let link = g.link k within in
          let cell = g.cell (k - 1) before in
          omega (arith, old, link, cell);
      oldest = ap (λ n. (version_at u n).words.link) cut ∙ g.link o.cut attached ∙ linked.oldest;
    }

-- the versions in hand keep their names
module _ (s t : Shared) (e : (oid : ℕ) → Extends (s.objects oid) (t.objects oid)) where
  pub name_kept : (v : VersionAt) → IsNamed s v → IsNamed t v
  name_kept v n = record {
    object = n.object;
    within = let w = n.within in let g = (e v.oid).grows in omega (arith, w, g);
    cell = (e v.oid).cell v.place n.within ∙ n.cell;
  }

  pub named_kept : (u : Task) → NamedInHand s u → NamedInHand t u
  named_kept (task.Owned oid owner) n = n
  named_kept (task.Cleared oid) n = n
  named_kept (task.Walks version head) n = name_kept version n
  named_kept (task.Passed version) n = name_kept version n
  named_kept (task.Found version stamp head) n = name_kept version n
  named_kept (task.Registered version) n = name_kept version n
  named_kept (task.Overtaken version overwriter) n = name_kept version n
  named_kept (task.Rated version) n = name_kept version n
  named_kept (task.SafeWalks version) n = name_kept version n
  named_kept (task.SafePassed version) n = name_kept version n
  named_kept (task.SafeFound version) n = name_kept version n
  named_kept (task.Claimed version) n = name_kept version n
  named_kept (task.Horizon version least next) n = name_kept version n
  named_kept (task.CutWalks version horizon) n = name_kept version n
  named_kept (task.CutPassed version horizon) n = name_kept version n
  named_kept (task.CutFound version horizon) n = name_kept version n
  named_kept (task.Detaches version) n = name_kept version n
  named_kept _ n = tt

-- what a cutter has in hand is kept where the chains of the objects that it holds are, and so are its claims and its spare cells
module _ (s t : Shared) (x y : Part) (holds : (oid : ℕ) → Holds x oid → Holds y oid) (spares : (own : OwnCell) → own ∈ x.spare → own ∈ y.spare)
    (g : (oid : ℕ) → Holds x oid → Grows (s.objects oid) (t.objects oid)) where
  pub attached_kept : (v : VersionAt) → IsAttached s x v → IsAttached t y v
  attached_kept v a = record { claimed = holds v.oid a.claimed; attached = let c = (g v.oid a.claimed).cut in let h = a.attached in omega (arith, c, h) }

  pub detached_kept : (v : VersionAt) → IsNamed s v → IsDetached s x v → IsDetached t y v
  detached_kept v n a =
      let grows = g v.oid a.claimed in
      let within = n.within in
      let below = a.below in
      record {
        claimed = holds v.oid a.claimed;
        last = a.last;
        below = a.below;
        links = λ k above upto.
            let old = a.links k above upto in
            let link = grows.link k (omega (arith, within, upto)) in
            let cell = grows.cell (k - 1) (omega (arith, within, upto)) in
            omega (arith, old, link, cell);
        ends = grows.link a.last (omega (arith, within, below)) ∙ a.ends;
        off = let c = grows.cut in let h = a.off in omega (arith, c, h);
        spare = λ k from upto.
            let old = a.spare k from upto in
            let inside : k < length (s.objects v.oid).versions = omega (arith, within, upto) in
            record { own = old.own; spare = spares old.own old.spare; cell = old.cell ∙ sym (grows.cell k inside); link = old.link ∙ sym (grows.link k inside) };
      }

  pub cut_kept : (u : Task) → NamedInHand s u → CutInHand s x u → CutInHand t y u
  cut_kept (task.Claimed version) n a = attached_kept version a
  cut_kept (task.Horizon version least next) n a = attached_kept version a
  cut_kept (task.CutWalks version horizon) n a = attached_kept version a
  cut_kept (task.CutPassed version horizon) n a = attached_kept version a
  cut_kept (task.CutFound version horizon) n a =
      (attached_kept version a.0, let same = (g version.oid a.0.claimed).stamp version.place n.within in let h = a.1 in omega (arith, same, h))
  cut_kept (task.Detaches version) n a = detached_kept version n a
  cut_kept _ n a = tt

-- the entry in hand is kept where entries are, and no version is added
module _ (s t : Shared) (h : (oid : ℕ) → SameHead (s.objects oid) (t.objects oid)) where
  is_head_kept : (v : VersionAt) (e : Option ℕ) → IsHead (s.objects v.oid) v e → IsHead (t.objects v.oid) v e
  is_head_kept v None f = tt
  is_head_kept v (Some entry) f = (
    f.0,
    f.1,
    λ same.
        let old = f.2 (sym (h v.oid).entry ∙ same) in
        let as_long = (h v.oid).as_long in
        omega (arith, old, as_long),
  )

  pub head_kept : (u : Task) → HeadInHand s u → HeadInHand t u
  head_kept (task.Walks version head) f = is_head_kept version head f
  head_kept (task.Found version stamp head) f = is_head_kept version head f
  head_kept _ f = tt

same_fields : (a b c d e f : ℕ) → a ≡ d → b ≡ e → c ≡ f → ◌≡◌ {A = VersionAt} (record { oid = a; place = b; cell = c }) (record { oid = d; place = e; cell = f })
same_fields a b c d e f oid place cell = cc

-- two names of a version are one
pub same_name : (v w : VersionAt) → same_version v w ≡ true → v ≡ w
same_name v w e =
    let oid : v.oid ≡ w.oid = eqb-true _ _ (and_parts _ _ (and_parts _ _ e).0).0 in
    let place : v.place ≡ w.place = eqb-true _ _ (and_parts _ _ (and_parts _ _ e).0).1 in
    let cell : v.cell ≡ w.cell = eqb-true _ _ (and_parts _ _ e).1 in
    same_fields v.oid v.place v.cell w.oid w.place w.cell oid place cell
