-- A version is registered as read: the own bit is set.
use Rattle.std.proofs.Common.{◌≡◌, ◌≢◌, ℕ, ◌<◌, ◌≤◌, ⊎_elim, true, not, eqb, List, [], ◌∷◌, ◌++◌, length, get_or, Option, Some, refl, sym, ap, ◌∙◌, subst, arith}
use Rattle.std.proofs.lemmas.Bool.{and_parts, cases_lt, eq-eqb, not-true}
use Rattle.std.proofs.lemmas.List.{get_or_push, get_or_append_left, length_push}
use Rattle.std.proofs.lemmas.List.Folds.{list_any_at}
use Rattle.erm_machine.specs.declared.attempt.Attempt.{Attempt}
use Rattle.erm_machine.specs.declared.attempt.Read.{Read}
use Rattle.erm_machine.specs.declared.part.Part.{Part}
use Rattle.erm_machine.specs.declared.place.Place.{Place}
use Rattle.erm_machine.specs.declared.place.Place.TheVariants.{Active}
use Rattle.erm_machine.specs.declared.task.Task.{Task}
use Rattle.erm_machine.specs.declared.task.Task.TheVariants as task
use Rattle.erm_machine.specs.declared.version.CellWord.TheVariants as word
use Rattle.erm_machine.specs.declared.version.VersionAt.{VersionAt}
use Rattle.erm_machine.specs.Chains.{IsNamed, NamedInHand}
use Rattle.erm_machine.specs.Core.{Core, Shared, version_at}
use Rattle.erm_machine.specs.Reading.{has_read, set_reader}
use Rattle.erm_machine.specs.Readers.{OwnReaders, bit_of, cleared, cleared_of}
use Rattle.erm_machine.specs.Seat.{is_active, no_read, read_at}
use Rattle.erm_machine.specs.Sound.{Sound}
use Rattle.erm_machine.specs.Step.{with_version_word}
use Rattle.erm_machine.specs.Words.{with_bit}
use Rattle.erm_machine.proofs.Guards.{when_then}
use Rattle.erm_core_ssn.proofs.ReadersLists.{same_is}
use Rattle.erm_core_ssn.proofs.ReadersBits.{bit_set}
use Rattle.erm_core_ssn.proofs.ReadersSteps.{Left, Grown, old_bit, over_stays}
use Rattle.erm_core_ssn.proofs.ReadersWords.{rebit_grown, bit_there, bit_cases}
use Rattle.erm_core_ssn.proofs.ReadersCalm.{bits_cleared}
use Rattle.erm_core_ssn.proofs.ReadersOwn.{Once, Stands, Only, Over, Raises, raises_undecided, recalls_from}
use Rattle.erm_core_ssn.proofs.ReadersMoved.{undecided, clears}

-- an object that wasn't read is none of those that were
unread_before : (t : Attempt) (oid k : ℕ) → not (has_read oid t) ≡ true → k < length t.reads → (read_at t k).version.oid ≢ oid
unread_before t oid k none within same =
    let found = list_any_at (λ (r : Read). eqb r.version.oid oid) t.reads k no_read within (eq-eqb _ _ same) in
    let isnt = not-true (has_read oid t) none in
    absurd (cc)

active_is : (pl : Place) → is_active pl ≡ true → (tail : ℕ) × (pl ≡ Active tail)
active_is (Active tail) e = (tail, refl)
active_is _ e = absurd (cc)

-- the versions read with one more
module _ (rs : List Read) (new : Read) where
  at_old : (k : ℕ) → k < length rs → get_or (rs ++ new ∷ []) k no_read ≡ get_or rs k no_read
  at_old k within = get_or_append_left rs (new ∷ []) no_read k within

  at_new : (k : ℕ) → k ≡ length rs → get_or (rs ++ new ∷ []) k no_read ≡ new
  at_new k e = get_or_push rs new no_read k (sym e)

module _ (c : Core) (p : ℕ) (sound : Sound c) (v : VersionAt) (within_object : v.place < length (c.shared.objects v.oid).versions) where
  abbrev pub registered : Shared
  registered = with_version_word v word.Readers (with_bit (version_at (c.shared.objects v.oid) v.place).words.readers p) c.shared

  -- the own bit is set there, and bits that were set stay
  bit_new : bit_of registered p v.oid v.place ≡ 1
  bit_new = bit_there c.shared v (with_bit (version_at (c.shared.objects v.oid) v.place).words.readers p) p within_object ∙ bit_set (version_at (c.shared.objects v.oid) v.place).words.readers p

  bit_stays : (oid k : ℕ) → bit_of c.shared p oid k ≡ 1 → bit_of registered p oid k ≡ 1
  bit_stays oid k set =
      ⊎_elim
      (λ (here : (oid ≡ v.oid) × (k ≡ v.place)). ap (λ n. bit_of registered p n k) here.0 ∙ (ap (bit_of registered p v.oid) here.1 ∙ bit_new))
      (λ (same : bit_of registered p oid k ≡ bit_of c.shared p oid k). same ∙ set)
      (bit_cases c.shared v (with_bit (version_at (c.shared.objects v.oid) v.place).words.readers p) p oid k)

  registered_grown : Grown c.shared registered (c.seats p)
  registered_grown = rebit_grown c.shared v (with_bit (version_at (c.shared.objects v.oid) v.place).words.readers p) (c.seats p)

  -- the facts on the versions read with this one more
  module _ (new : Read) (is : new.version ≡ v) (unread : not (has_read v.oid (c.seats p).current) ≡ true) (none : cleared (c.seats p) ≡ 0) where
    abbrev longer : List Read
    longer = (c.seats p).current.reads ++ new ∷ []

    once_longer : Once longer
    once_longer j k less within =
        let many = length_push (c.seats p).current.reads new in
        let low : j < length (c.seats p).current.reads = omega (arith, less, within, many) in
        ⊎_elim
        (λ (old : k < length (c.seats p).current.reads) same.
        (sound.own p).readers.once j k less old (ap (λ (r : Read). r.version.oid) (sym (at_old (c.seats p).current.reads new j low))
        ∙ (same ∙ ap (λ (r : Read). r.version.oid) (at_old (c.seats p).current.reads new k old))))
        (λ (late : length (c.seats p).current.reads ≤ k) same.
        unread_before (c.seats p).current v.oid j unread low (ap (λ (r : Read). r.version.oid) (sym (at_old (c.seats p).current.reads new j low))
        ∙ (same ∙ (ap (λ (r : Read). r.version.oid) (at_new (c.seats p).current.reads new k (omega (arith, late, within, many))) ∙ ap (λ (n : VersionAt). n.oid) is))))
        (cases_lt k (length (c.seats p).current.reads))

    abbrev BitAt : Read → Type 0
    BitAt r = bit_of registered p r.version.oid r.version.place ≡ 1

    stands_longer : Stands registered p 0 longer
    stands_longer k from within =
        let many = length_push (c.seats p).current.reads new in
        ⊎_elim
        (λ (old : k < length (c.seats p).current.reads).
        subst BitAt (sym (at_old (c.seats p).current.reads new k old))
        (bit_stays (read_at (c.seats p).current k).version.oid (read_at (c.seats p).current k).version.place ((sound.own p).readers.stands k (omega (arith, none)) old)))
        (λ (late : length (c.seats p).current.reads ≤ k).
        subst BitAt (sym (at_new (c.seats p).current.reads new k (omega (arith, late, within, many))))
        (subst (λ (n : VersionAt). bit_of registered p n.oid n.place ≡ 1) (sym is) bit_new))
        (cases_lt k (length (c.seats p).current.reads))

    only_longer : Only registered p 0 longer
    only_longer oid place known within set =
        let many = length_push (c.seats p).current.reads new in
        ⊎_elim
        (λ (here : (oid ≡ v.oid) × (place ≡ v.place)).
        let at = ap (λ (r : Read). r.version) (at_new (c.seats p).current.reads new (length (c.seats p).current.reads) refl) ∙ is in (
          length (c.seats p).current.reads,
          omega arith,
          omega (arith, many),
          ap (λ (n : VersionAt). n.oid) at ∙ sym here.0,
          ap (λ (n : VersionAt). n.place) at ∙ sym here.1,
        ))
        (λ (same : bit_of registered p oid place ≡ bit_of c.shared p oid place).
        let b = old_bit c.shared registered (c.seats p) p oid place registered_grown within set in
        let was = (sound.own p).readers.only oid place known b.within (sym same ∙ set) in
        let low = was.2 in
        let at = at_old (c.seats p).current.reads new was.0 low in (
          was.0,
          omega arith,
          omega (arith, low, many),
          ap (λ (r : Read). r.version.oid) at ∙ was.3,
          ap (λ (r : Read). r.version.place) at ∙ was.4,
        ))
        (bit_cases c.shared v (with_bit (version_at (c.shared.objects v.oid) v.place).words.readers p) p oid place)

    pub own_registered : (y : Part) → y.over ≡ (c.seats p).over → y.current.reads ≡ longer → cleared y ≡ 0 → Raises registered y → OwnReaders registered p y
    own_registered y over reads start raises = record {
      once = subst Once (sym reads) once_longer;
      stands = subst (λ n. Stands registered p n y.current.reads) (sym start) (subst (Stands registered p 0) (sym reads) stands_longer);
      only = subst (λ n. Only registered p n y.current.reads) (sym start) (subst (Only registered p 0) (sym reads) only_longer);
      before = raises.before;
      raising = raises.raising;
      over = subst (Over registered) (sym over) (over_stays c registered (c.seats p) p sound registered_grown);
    }

-- the version in hand is one of its object's
found_within : (c : Core) (p : ℕ) (v found : VersionAt) (stamp : ℕ) (head : Option ℕ) → Sound c → (c.seats p).task ≡ task.Found found stamp head → found ≡ v → v.place < length (c.shared.objects v.oid).versions
found_within c p v found stamp head sound at same =
    let named : IsNamed c.shared found = subst (NamedInHand c.shared) at (sound.own p).chains.named in
    (subst (IsNamed c.shared) same named).within

abbrev pub registers : Core → ℕ → VersionAt → Shared
registers c p v = with_version_word v word.Readers (with_bit (version_at (c.shared.objects v.oid) v.place).words.readers p) c.shared

pub set_reader_left : (c : Core) (p : ℕ) (v : VersionAt) (u : Task) (y : Part) → Sound c → (c.seats p).task ≡ u → set_reader p v (c.shared.objects v.oid) (c.seats p) u ≡ Some y → Left c (registers c p v) p y
set_reader_left c p v (task.Found found stamp head) y sound at e =
    let x = c.seats p in
    when_then (Left c (registers c p v) p) _ _ y e (λ g.
    let unread = (and_parts _ _ g).1 in
    let front = and_parts _ _ (and_parts _ _ (and_parts _ _ g).0).0 in
    let active = (and_parts _ _ front.0).0 in
    let same : found ≡ v = sym (same_is v found front.1) in
    let new : Read = record { version = v; stamp = stamp; row = (version_at (c.shared.objects v.oid) v.place).words.row } in
    let place = active_is x.place active in
    let o : OwnReaders c.shared p x = (sound.own p).readers in
    let undecided = undecided c p sound c.shared o (Active place.0) place.1 tt in
    let none : cleared x ≡ 0 = clears c p sound c.shared o (Active place.0) place.1 tt ∙ ap bits_cleared at in
    let start : cleared_of x.place (task.Registered v) (length (x.current.reads ++ new ∷ [])) ≡ 0 =
    ap (λ l. cleared_of l (task.Registered v) (length (x.current.reads ++ new ∷ []))) place.1 in
    record {
      own = own_registered c p sound v (found_within c p v found stamp head sound at same) new refl unread none _ refl refl start (raises_undecided (registers c p v) _ undecided);
      recalls = recalls_from x _ refl (λ commit. absurd (undecided commit));
    })
set_reader_left c p v _ y sound at e = absurd (cc)
