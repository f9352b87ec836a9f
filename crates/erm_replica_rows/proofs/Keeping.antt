-- What a replica keeps from one piece of a stream to the next.
use Rattle.std.proofs.Common.{◌≡◌, ℕ, ◌+◌, ◌-◌, ◌*◌, ◌≤◌, true, false, List, [], ◌∷◌, ◌++◌, length, drop, Option, None, Some, Result, Ok, Err, refl, sym, ap, ◌∙◌, subst, arith, inl, inr, append_assoc, append-nil, drop-drop, length-drop}
use Rattle.std.specs.Prelude.{◌↔◌, IfSome, OnErr, vec_len}
use Rattle.std.specs.List.{All}
use Rattle.std.proofs.lemmas.Bool.{false≢true}
use Rattle.std.proofs.lemmas.List.{drop-append-le}
use Rattle.erm_model.specs.Rows.{Rows, rows_of}
use Rattle.erm_model.specs.RowTransaction.{SameRows}
use Rattle.erm_model.proofs.Members.{none_in_nil}
use Rattle.erm_ckpt.specs.Checkpoint.{zero_rows}
use Rattle.erm_node.specs.Sound.{IsSound}
use Rattle.erm_replica.specs.declared.item.LogPlace.{LogPlace}
use Rattle.erm_replica.specs.Cuts.{Reads}
use Rattle.erm_replica.specs.Ready.{IsReady}
use Rattle.erm_replica.specs.Stream.{IsShort, Part, StandsFirst, Streamed, behind, fed, part_words, start}
use Rattle.erm_replica.specs.Stream.Part.{base}
use Rattle.erm_replica.proofs.Cuts.{fed_twice, reads_more}
use Rattle.erm_replica_rows.specs.declared.reader.Reader.{Reader}
use Rattle.erm_replica_rows.specs.declared.snapshot.Snapshot.{Snapshot}
use Rattle.erm_replica_rows.specs.Keeping.{Fits, GoesOn, Holds, IsFirst, Keeps, Kept, Replicated, kept_of, with_more}
use Rattle.erm_replica_rows.specs.Moving.{IsFrom}
use Rattle.erm_replica_rows.specs.Reading.{CanRead, HasLawful, IsStuck, seen}
use Rattle.erm_replica_rows.specs.Replica.{IsBad, IsSafeOf, is_below, rows_after, rows_behind}
use Rattle.erm_replica_rows.proofs.Rows.{after_part, respects_sound, sound_behind, sound_front}

-- ---- at first

first_seen : (r : Reader) (bytes : List ℕ) → IsFirst r → bytes ≡ [] → seen r bytes ≡ fed start []
first_seen r bytes first none =
    let rest : drop r.index bytes ≡ [] = ap (λ (n : ℕ). drop n bytes) first.index ∙ none in
    same r.place r.log (drop r.index bytes) first.place first.log rest
  where
    same : (place : ℕ) (log : Option LogPlace) (rest : List ℕ) → place ≡ 0 → log ≡ None → rest ≡ [] → ◌≡◌ {A = Streamed} (record { place = place; log = log; rest = rest }) (fed start [])
    same place log rest p l r = cc

no_log : (log : Option LogPlace) (P : Type 0) → log ≡ None → IfSome log (λ _. P)
no_log None P none = tt
no_log (Some log) P none = absurd (cc)

pub first_holds : (e : Reader) (s : Snapshot) (bytes : List ℕ) → IsFirst e → IsFirst s.reader → s.safe ≡ None → bytes ≡ [] → Holds [] (kept_of e s bytes)
first_holds e s bytes first other safe none = record {
  below = [];
  others = [];
  reads = first_seen s.reader bytes other none;
  goes_on = first_seen e bytes first none ∙ sym (first_seen s.reader bytes other none);
  sound = tt;
  rows = no_log e.log (SameRows (rows_of e.rows.items) (rows_behind [])) first.log;
  safe_rows = no_log s.reader.log (SameRows (rows_of s.reader.rows.items) (rows_behind [])) other.log;
  base_is = λ c m. absurd (none_in_nil (base c) m);
  safe = subst (λ (o : Option ℕ). IsSafeOf [] o) (sym safe) (λ stamp names. none_in_nil names.part names.there);
  are_below = subst (λ (o : Option ℕ). IfSome o (λ b. All (λ part. is_below b part ≡ true) [])) (sym safe) tt;
  from = subst (λ (o : Option ℕ). IfSome o (λ b. IsFrom b s.reader.log)) (sym safe) tt;
  none = λ e. refl;
}

first_reads : (r : Reader) (count : ℕ) → IsFirst r → CanRead r count
first_reads r count first =
    subst (λ (log : Option LogPlace). IsReady r.index count 278535 (vec_len r.rows) r.place log) (sym first.log) (record {
      within = omega (arith, first.index);
      empty = λ e. absurd (omega (arith, e));
      room = λ some. refl;
      rows_are = λ some. first.rows;
      end = omega arith;
      near = omega (arith, first.place);
    })

pub first_fits : (e : Reader) (s : Snapshot) (bytes : List ℕ) (count words : ℕ) → words ≡ 278535 → IsFirst e → IsFirst s.reader → s.safe ≡ None → bytes ≡ [] → Fits count words e s (kept_of e s bytes)
first_fits e s bytes count words are first other safe none = record {
  words_are = are;
  end_reads = first_reads e count first;
  since_reads = first_reads s.reader count other;
  sound = no_log e.log (IsSound (rows_of e.rows.items)) first.log;
  some = ([], first_holds e s bytes first other safe none);
}

-- ---- bytes that are forgotten, and more that are kept

reads_shorter : (s t : Streamed) (parts : List Part) → Reads s parts t → length t.rest ≤ length s.rest
reads_shorter s t [] reads = omega (arith, ap (λ (x : Streamed). length x.rest) reads)
reads_shorter s t (p ∷ parts) reads = omega (arith, reads_shorter (behind p s) t parts reads.1, length-drop (8 * length (part_words p)) s.rest)

-- the reader that follows the safe stamp isn't in front of the other
pub in_order : (taken : List ℕ) (e : Reader) (s : Snapshot) (bytes : List ℕ) → Holds taken (kept_of e s bytes) → e.index ≤ length bytes → s.reader.index ≤ length bytes → s.reader.index ≤ e.index
in_order taken e s bytes holds within other =
    omega (arith, within, other, reads_shorter (seen s.reader bytes) (seen e bytes) holds.others holds.goes_on, length-drop e.index bytes, length-drop s.reader.index bytes)

-- a reader of bytes of which some in front were forgotten, and behind which there are more
rest_of : (old new more : List ℕ) (since index at : ℕ) → drop at new ≡ drop since old ++ more → at ≤ since → since ≤ index → index ≤ length old → drop (index - (since - at)) new ≡ drop index old ++ more
rest_of old new more since index at same near order within =
    let k : ℕ = index - since in
    let here : index - (since - at) ≡ at + k = omega (arith, near, order) in
    let there : since + k ≡ index = omega (arith, order) in
    ap (λ (n : ℕ). drop n new) here ∙ sym (drop-drop k at new) ∙ ap (drop k) same
    ∙ drop-append-le k (drop since old) more (omega (arith, within, order, length-drop since old))
    ∙ ap (λ (xs : List ℕ). xs ++ more) (drop-drop k since old ∙ ap (λ (n : ℕ). drop n old) there)

pub moved_kept : (e f : Reader) (s t : Snapshot) (old new more : List ℕ) (at : ℕ) → drop at new ≡ drop s.reader.index old ++ more → at ≤ s.reader.index → s.reader.index ≤ e.index → e.index ≤ length old
    → f ≡ record e { index = e.index - (s.reader.index - at) } → t ≡ record s { reader = record s.reader { index = at } } → kept_of f t new ≡ with_more (kept_of e s old) more
moved_kept e f s t old new more at same near order within f_is t_is =
    subst (λ (r : Reader). kept_of r t new ≡ with_more (kept_of e s old) more) (sym f_is)
    (subst (λ (x : Snapshot). kept_of (record e { index = e.index - (s.reader.index - at) }) x new ≡ with_more (kept_of e s old) more) (sym t_is)
    (both (drop (e.index - (s.reader.index - at)) new) (drop e.index old ++ more) (drop at new) (drop s.reader.index old ++ more) (rest_of old new more s.reader.index e.index at same near order within) same))
  where
    both : (a b c d : List ℕ) → a ≡ b → c ≡ d → ◌≡◌ {A = Kept}
        (record { stream = record { place = e.place; log = e.log; rest = a }; rows = e.rows.items; since = record { place = s.reader.place; log = s.reader.log; rest = c }; safe_rows = s.reader.rows.items; base = s.base; safe = s.safe })
        (record { stream = record { place = e.place; log = e.log; rest = b }; rows = e.rows.items; since = record { place = s.reader.place; log = s.reader.log; rest = d }; safe_rows = s.reader.rows.items; base = s.base; safe = s.safe })
    both a b c d p q = cc

with_nothing : (k : Kept) → with_more k [] ≡ k
with_nothing k = same k.stream.rest (k.stream.rest ++ []) k.since.rest (k.since.rest ++ []) (append-nil k.stream.rest) (append-nil k.since.rest)
  where
    same : (a b c d : List ℕ) → b ≡ a → d ≡ c → ◌≡◌ {A = Kept}
        (record { stream = record { place = k.stream.place; log = k.stream.log; rest = b }; rows = k.rows; since = record { place = k.since.place; log = k.since.log; rest = d }; safe_rows = k.safe_rows; base = k.base; safe = k.safe })
        (record { stream = record { place = k.stream.place; log = k.stream.log; rest = a }; rows = k.rows; since = record { place = k.since.place; log = k.since.log; rest = c }; safe_rows = k.safe_rows; base = k.base; safe = k.safe })
    same a b c d p q = cc

pub forgot_kept : (e f : Reader) (s t : Snapshot) (old new : List ℕ) (at : ℕ) → drop at new ≡ drop s.reader.index old → at ≤ s.reader.index → s.reader.index ≤ e.index → e.index ≤ length old
    → f ≡ record e { index = e.index - (s.reader.index - at) } → t ≡ record s { reader = record s.reader { index = at } } → kept_of f t new ≡ kept_of e s old
forgot_kept e f s t old new at same near order within f_is t_is =
    moved_kept e f s t old new [] at (same ∙ sym (append-nil (drop s.reader.index old))) near order within f_is t_is ∙ with_nothing (kept_of e s old)

still_reads : (r q : Reader) (count most : ℕ) → CanRead r count → q.index ≤ most → q.place ≡ r.place → q.log ≡ r.log → vec_len q.rows ≡ vec_len r.rows → CanRead q most
still_reads r q count most can within place log rows =
    subst (λ (l : Option LogPlace). IsReady q.index most 278535 (vec_len q.rows) q.place l) (sym log) (record {
      within = within;
      empty = λ e. absurd (omega (arith, e));
      room = λ some. refl;
      rows_are = λ some. rows ∙ can.rows_are some;
      end = can.end;
      near = omega (arith, place, can.near);
    })

pub moved_fits : (e f : Reader) (s t : Snapshot) (old new : List ℕ) (at count most words : ℕ) (k : Kept) (taken : List ℕ) → Fits count words e s (kept_of e s old) → count ≡ length old → most ≡ length new
    → length (drop s.reader.index old) ≤ length (drop at new) → at ≤ length new → at ≤ s.reader.index → s.reader.index ≤ e.index
    → f ≡ record e { index = e.index - (s.reader.index - at) } → t ≡ record s { reader = record s.reader { index = at } } → Holds taken k → Fits most words f t k
moved_fits e f s t old new at count most words k taken fits old_count new_count longer within near order f_is t_is holds = record {
  words_are = fits.words_are;
  end_reads =
      still_reads e f count most fits.end_reads
      (omega (arith, ap (λ (r : Reader). r.index) f_is, new_count, old_count, longer, within, near, order, length-drop s.reader.index old, length-drop at new, fits.end_reads.within, fits.since_reads.within))
      (ap (λ (r : Reader). r.place) f_is) (ap (λ (r : Reader). r.log) f_is) (ap (λ (r : Reader). vec_len r.rows) f_is);
  since_reads =
      still_reads s.reader t.reader count most fits.since_reads (omega (arith, ap (λ (x : Snapshot). x.reader.index) t_is, new_count, within)) (ap (λ (x : Snapshot). x.reader.place) t_is)
      (ap (λ (x : Snapshot). x.reader.log) t_is) (ap (λ (x : Snapshot). vec_len x.reader.rows) t_is);
  sound = subst (λ (r : Reader). HasLawful IsSound r) (sym f_is) fits.sound;
  some = (taken, holds);
}

module _ (stays : (log : Option LogPlace) (bytes more : List ℕ) (part : Part) → StandsFirst log bytes part → StandsFirst log (bytes ++ more) part)
    (within : (log : Option LogPlace) (bytes : List ℕ) (part : Part) → StandsFirst log bytes part → 8 * length (part_words part) ≤ length bytes) where
  -- what is held of bytes is held of more
  pub held_fed : (taken more : List ℕ) (k : Kept) → Holds taken k → Holds (taken ++ more) (with_more k more)
  held_fed taken more k holds = record {
    below = holds.below;
    others = holds.others;
    reads =
        subst (λ (s : Streamed). Reads s holds.below (fed k.since more)) (fed_twice start taken more)
        (reads_more stays within (fed start taken) k.since holds.below more holds.reads);
    goes_on = reads_more stays within k.since k.stream holds.others more holds.goes_on;
    sound = holds.sound;
    rows = holds.rows;
    safe_rows = holds.safe_rows;
    base_is = holds.base_is;
    safe = holds.safe;
    are_below = holds.are_below;
    from = holds.from;
    none = holds.none;
  }

-- ---- the rows at the safe stamp

pub safe_sound : (respects : (a b : Rows) → SameRows a b → IsSound a ↔ IsSound b) (taken : List ℕ) (k : Kept) (safe : ℕ) → Holds taken k → k.safe ≡ Some safe → IsSound (rows_of k.safe_rows)
safe_sound respects taken k safe holds is =
    at_log k.since.log (subst (λ (o : Option ℕ). IfSome o (λ b. IsFrom b k.since.log)) is holds.from)
    (respects_sound respects k.since.log (rows_of k.safe_rows) (rows_behind holds.below) holds.safe_rows
    (sound_behind (fed start taken) k.since holds.below zero_rows refl holds.reads (sound_front zero_rows holds.below holds.others holds.sound)))
  where
    at_log : (log : Option LogPlace) → IsFrom safe log → IfSome log (λ _. IsSound (rows_of k.safe_rows)) → IsSound (rows_of k.safe_rows)
    at_log None from sound = absurd from
    at_log (Some log) from sound = sound

-- ---- what stands next is no item

pub bad_next : (respects : (a b : Rows) → SameRows a b → IsSound a ↔ IsSound b) (taken : List ℕ) (e : Reader) (s : Snapshot) (bytes : List ℕ) (holds : Holds taken (kept_of e s bytes)) → IsStuck IsSound bytes e
    → IsBad (holds.below ++ holds.others) (seen e bytes)
bad_next respects taken e s bytes holds stuck = elim stuck [
  | inl unreadable ↦ inl unreadable
  | inr at ↦ inr (
    at.0,
    at.1,
    λ sound. at.2 ((respects (rows_after at.0 (rows_of e.rows.items)) (rows_after at.0 (rows_behind (holds.below ++ holds.others)))
        (after_part e.log at.0 (rows_of e.rows.items) (rows_behind (holds.below ++ holds.others)) at.1.may holds.rows)).1 sound),
  )
]

-- ---- a piece that was fed

-- all items were taken, and the next one isn't there yet
pub keeps_good : (bytes more : List ℕ) (r n : Replicated) → Keeps bytes r → r.is_bad ≡ false → n.is_bad ≡ false → ((taken : List ℕ) → Holds taken r.kept → Holds (taken ++ more) n.kept)
    → IsShort n.kept.stream.log n.kept.stream.rest → Keeps (bytes ++ more) n
keeps_good bytes more r n keeps was is goes short = record {
  taken = keeps.taken ++ more;
  passed = [];
  bytes_are = ap (λ (xs : List ℕ). xs ++ more) (keeps.bytes_are ∙ ap (λ (xs : List ℕ). keeps.taken ++ xs) (keeps.good was).0 ∙ append-nil keeps.taken) ∙ sym (append-nil (keeps.taken ++ more));
  holds = goes keeps.taken keeps.holds;
  good = λ e. (refl, short);
  bad = λ e. absurd (false≢true (sym is ∙ e));
}

-- or what stands next is none
pub keeps_bad : (bytes more : List ℕ) (r n : Replicated) → Keeps bytes r → r.is_bad ≡ false → n.is_bad ≡ true → ((taken : List ℕ) → Holds taken r.kept → Holds (taken ++ more) n.kept)
    → ((taken : List ℕ) (holds : Holds taken n.kept) → IsBad (holds.below ++ holds.others) n.kept.stream) → Keeps (bytes ++ more) n
keeps_bad bytes more r n keeps was is goes bad =
    let holds : Holds (keeps.taken ++ more) n.kept = goes keeps.taken keeps.holds in
    record {
      taken = keeps.taken ++ more;
      passed = [];
      bytes_are = ap (λ (xs : List ℕ). xs ++ more) (keeps.bytes_are ∙ ap (λ (xs : List ℕ). keeps.taken ++ xs) (keeps.good was).0 ∙ append-nil keeps.taken) ∙ sym (append-nil (keeps.taken ++ more));
      holds = holds;
      good = λ e. absurd (false≢true (sym e ∙ is));
      bad = λ e. bad (keeps.taken ++ more) holds;
    }

-- or it was none before, and more bytes are passed over
pub keeps_passing : (bytes more : List ℕ) (r : Replicated) → Keeps bytes r → r.is_bad ≡ true → Keeps (bytes ++ more) r
keeps_passing bytes more r keeps is = record {
  taken = keeps.taken;
  passed = keeps.passed ++ more;
  bytes_are = ap (λ (xs : List ℕ). xs ++ more) keeps.bytes_are ∙ append_assoc keeps.taken keeps.passed more;
  holds = keeps.holds;
  good = λ e. absurd (false≢true (sym e ∙ is));
  bad = keeps.bad;
}

-- a replica that was fed nothing
pub first_keeps : (e : Reader) (s : Snapshot) (bytes : List ℕ) (r : Replicated) → IsFirst e → IsFirst s.reader → s.safe ≡ None → bytes ≡ [] → r ≡ record { kept = kept_of e s bytes; is_bad = false } → Keeps [] r
first_keeps e s bytes r first other safe none is = subst (λ (x : Replicated). Keeps [] x) (sym is) (record {
  taken = [];
  passed = [];
  bytes_are = refl;
  holds = first_holds e s bytes first other safe none;
  good = λ so. (refl, subst (λ (x : Streamed). IsShort x.log x.rest) (sym (first_seen e bytes first none)) (inl (omega arith)));
  bad = λ so. absurd (false≢true so);
})

pub on_err : {T E : Type 0} (r : Result T E) (P : Type 0) → P → OnErr r P
on_err (Ok x) P p = tt
on_err (Err e) P p = p

-- ---- all items of a piece

pub drained_fits : (old now : List ℕ) (count words : ℕ) (e f : Reader) (s t : Snapshot) → Fits count words e s (kept_of e s old) → now ≡ old → length now ≡ count → GoesOn (kept_of e s now) (kept_of f t now)
    → CanRead f (length now) → CanRead t.reader (length now) → HasLawful IsSound f → Fits count words f t (kept_of f t old)
drained_fits old now count words e f s t fits same long goes end since sound = record {
  words_are = fits.words_are;
  end_reads = subst (λ (n : ℕ). CanRead f n) long end;
  since_reads = subst (λ (n : ℕ). CanRead t.reader n) long since;
  sound = sound;
  some = (
    fits.some.0,
    subst (λ (bytes : List ℕ). Holds fits.some.0 (kept_of f t bytes)) same
        (goes fits.some.0 (subst (λ (bytes : List ℕ). Holds fits.some.0 (kept_of e s bytes)) (sym same) fits.some.1)),
  );
}

module _ (stays : (log : Option LogPlace) (bytes more : List ℕ) (part : Part) → StandsFirst log bytes part → StandsFirst log (bytes ++ more) part)
    (within : (log : Option LogPlace) (bytes : List ℕ) (part : Part) → StandsFirst log bytes part → 8 * length (part_words part) ≤ length bytes) where
  -- what was held of bytes is held, with a piece more, when all its items were taken
  pub fed_goes : (k m : Kept) (piece old now : List ℕ) (e f : Reader) (s t : Snapshot) → m ≡ with_more k piece → kept_of e s old ≡ m → now ≡ old → GoesOn (kept_of e s now) (kept_of f t now)
      → (taken : List ℕ) → Holds taken k → Holds (taken ++ piece) (kept_of f t old)
  fed_goes k m piece old now e f s t more is same goes taken holds =
      let fed_now : Holds (taken ++ piece) (kept_of e s old) = subst (λ (x : Kept). Holds (taken ++ piece) x) (sym (is ∙ more)) (held_fed stays within taken piece k holds) in
      subst (λ (bytes : List ℕ). Holds (taken ++ piece) (kept_of f t bytes)) same
      (goes (taken ++ piece) (subst (λ (bytes : List ℕ). Holds (taken ++ piece) (kept_of e s bytes)) (sym same) fed_now))
