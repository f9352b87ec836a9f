-- The rows behind parts of a stream.
use Rattle.std.proofs.Common.{◌≡◌, ℕ, ◌≤◌, true, false, List, [], ◌∷◌, ◌++◌, Option, None, Some, refl, sym, ap, ◌∙◌, subst, arith, append-nil}
use Rattle.std.specs.Prelude.{◌↔◌, IfSome, filter}
use Rattle.std.specs.List.{All}
use Rattle.std.proofs.lemmas.Bool.Decides.{nat_tests}
use Rattle.std.proofs.lemmas.List.Elements.{All-cons, All-head, All-nil, All-tail, All-weaker, filter-append}
use Rattle.erm_model.specs.InTurn.{in_turn}
use Rattle.erm_model.specs.Rows.{Rows}
use Rattle.erm_model.specs.RowTransaction.{SameRows}
use Rattle.erm_ckpt.specs.Checkpoint.{zero_rows}
use Rattle.erm_node.specs.Sound.{IsSound}
use Rattle.erm_recover.proofs.Recovering.{same_after}
use Rattle.erm_replica.specs.declared.item.LogPlace.{LogPlace}
use Rattle.erm_replica.specs.Cuts.{Reads}
use Rattle.erm_replica.specs.Stream.{MayCome, Part, Streamed, behind, log_behind}
use Rattle.erm_replica.specs.Stream.Part.{base, block}
use Rattle.erm_replica_rows.specs.Moving.{IsFrom}
use Rattle.erm_replica_rows.specs.Replica.{AreSound, is_below, rows_after, rows_at, rows_behind}

pub same_trans : (a b c : Rows) → SameRows a b → SameRows b c → SameRows a c
same_trans a b c first second = λ oid few. first oid few ∙ second oid few

pub same_sym : (a b : Rows) → SameRows a b → SameRows b a
same_sym a b same = λ oid few. sym (same oid few)

pub if_some : (log : Option LogPlace) (P : Type 0) → P → IfSome log (λ _. P)
if_some None P p = tt
if_some (Some log) P p = p

-- ---- the rows after parts

pub after_part : (log : Option LogPlace) (part : Part) (a b : Rows) → MayCome log part → IfSome log (λ _. SameRows a b) → SameRows (rows_after part a) (rows_after part b)
after_part None (base c) a b may same = λ oid few. refl
after_part None (block x) a b may same = absurd may
after_part (Some log) (base c) a b may same = absurd may
after_part (Some log) (block x) a b may same = same_after x a b same

pub after_parts : (s t : Streamed) (parts : List Part) (a b : Rows) → Reads s parts t → IfSome s.log (λ _. SameRows a b)
    → IfSome t.log (λ _. SameRows (in_turn rows_after parts a) (in_turn rows_after parts b))
after_parts s t [] a b reads same = subst (λ (x : Streamed). IfSome x.log (λ _. SameRows a b)) (sym reads) same
after_parts s t (p ∷ parts) a b reads same =
    after_parts (behind p s) t parts (rows_after p a) (rows_after p b) reads.1 (after_part s.log p a b reads.0.may same)

pub in_turn_append : (xs ys : List Part) (rows : Rows) → in_turn rows_after (xs ++ ys) rows ≡ in_turn rows_after ys (in_turn rows_after xs rows)
in_turn_append [] ys rows = refl
in_turn_append (x ∷ xs) ys rows = in_turn_append xs ys (rows_after x rows)

pub behind_push : (parts : List Part) (part : Part) → rows_behind (parts ++ part ∷ []) ≡ rows_after part (rows_behind parts)
behind_push parts part = in_turn_append parts (part ∷ []) zero_rows

-- ---- sound rows

pub sound_push : (rows : Rows) (parts : List Part) (part : Part) → AreSound rows parts → IsSound (rows_after part (in_turn rows_after parts rows)) → AreSound rows (parts ++ part ∷ [])
sound_push rows [] part sound last = (last, tt)
sound_push rows (p ∷ parts) part sound last = (sound.0, sound_push (rows_after p rows) parts part sound.1 last)

pub sound_front : (rows : Rows) (xs ys : List Part) → AreSound rows (xs ++ ys) → AreSound rows xs
sound_front rows [] ys sound = tt
sound_front rows (x ∷ xs) ys sound = (sound.0, sound_front (rows_after x rows) xs ys sound.1)

pub sound_last : (rows : Rows) (part : Part) (parts : List Part) → AreSound rows (part ∷ parts) → IsSound (in_turn rows_after (part ∷ parts) rows)
sound_last rows part [] sound = sound.0
sound_last rows part (p ∷ parts) sound = sound_last (rows_after part rows) p parts sound.1

-- where a log goes on, parts were read, and the rows behind them are sound
pub sound_behind : (s t : Streamed) (parts : List Part) (rows : Rows) → s.log ≡ None → Reads s parts t → AreSound rows parts → IfSome t.log (λ _. IsSound (in_turn rows_after parts rows))
sound_behind s t [] rows none reads sound =
    subst (λ (log : Option LogPlace). IfSome log (λ _. IsSound rows)) (sym (ap (λ (x : Streamed). x.log) reads ∙ none)) tt
sound_behind s t (p ∷ parts) rows none reads sound = if_some t.log (IsSound (in_turn rows_after (p ∷ parts) rows)) (sound_last rows p parts sound)

pub respects_sound : (respects : (a b : Rows) → SameRows a b → IsSound a ↔ IsSound b) (log : Option LogPlace) (a b : Rows) → IfSome log (λ _. SameRows a b)
    → IfSome log (λ _. IsSound b) → IfSome log (λ _. IsSound a)
respects_sound respects None a b same sound = tt
respects_sound respects (Some log) a b same sound = (respects a b same).1 sound

-- ---- parts below a stamp

pub not_below : (stamp : ℕ) (log : Option LogPlace) (part : Part) → MayCome log part → IsFrom stamp log → (is_below stamp part ≡ false) × IsFrom stamp (Some (log_behind part))
not_below stamp None part may from = absurd from
not_below stamp (Some log) (base c) may from = absurd may
not_below stamp (Some log) (block x) may from =
    let at = may.stamp in (
      grind (arith, nat_tests),
      omega (arith, at, from),
    )

pub none_below : (stamp : ℕ) (s t : Streamed) (parts : List Part) → Reads s parts t → IsFrom stamp s.log → All (λ part. is_below stamp part ≡ false) parts
none_below stamp s t [] reads from = All-nil (λ (part : Part). is_below stamp part ≡ false)
none_below stamp s t (p ∷ parts) reads from =
    let first = not_below stamp s.log p reads.0.may from in
    All-cons (λ (part : Part). is_below stamp part ≡ false) p parts first.0 (none_below stamp (behind p s) t parts reads.1 first.1)

filter_all : (stamp : ℕ) (parts : List Part) → All (λ part. is_below stamp part ≡ true) parts → filter (is_below stamp) parts ≡ parts
filter_all stamp [] all = refl
filter_all stamp (p ∷ parts) all =
    let first : is_below stamp p ≡ true = All-head (λ (part : Part). is_below stamp part ≡ true) p parts all in
    rw first (ap (λ (ps : List Part). p ∷ ps) (filter_all stamp parts (All-tail (λ (part : Part). is_below stamp part ≡ true) p parts all)))

filter_none : (stamp : ℕ) (parts : List Part) → All (λ part. is_below stamp part ≡ false) parts → filter (is_below stamp) parts ≡ []
filter_none stamp [] none = refl
filter_none stamp (p ∷ parts) none =
    let first : is_below stamp p ≡ false = All-head (λ (part : Part). is_below stamp part ≡ false) p parts none in
    rw first (filter_none stamp parts (All-tail (λ (part : Part). is_below stamp part ≡ false) p parts none))

pub rows_at-split : (stamp : ℕ) (below others : List Part) → All (λ part. is_below stamp part ≡ true) below → All (λ part. is_below stamp part ≡ false) others
    → rows_at stamp (below ++ others) ≡ rows_behind below
rows_at-split stamp below others all none =
    ap rows_behind
    (filter-append (is_below stamp) below others
    ∙ ap (λ (ps : List Part). ps ++ filter (is_below stamp) others) (filter_all stamp below all)
    ∙ ap (λ (ps : List Part). below ++ ps) (filter_none stamp others none)
    ∙ append-nil below)

below_greater : (a b : ℕ) (part : Part) → a ≤ b → is_below a part ≡ true → is_below b part ≡ true
below_greater a b (base c) le is = refl
below_greater a b (block x) le is = grind (arith, nat_tests)

pub all_below_greater : (a b : ℕ) (parts : List Part) → a ≤ b → All (λ part. is_below a part ≡ true) parts → All (λ part. is_below b part ≡ true) parts
all_below_greater a b parts le all =
    All-weaker (λ (part : Part). is_below a part ≡ true) (λ (part : Part). is_below b part ≡ true) (λ part is. below_greater a b part le is) parts all
