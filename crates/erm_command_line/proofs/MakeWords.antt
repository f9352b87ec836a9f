-- The words behind `make` that the library takes are its options, written in either way.
use Rattle.std.proofs.Common.{◌≡◌, ◌≢◌, ◌⊎◌, Bool, true, false, List, [], ◌∷◌, ◌++◌, Option, Some, None, append-nil, append_assoc, refl, sym, ap, ◌∙◌, codes, inl, inr, subst}
use Rattle.std.specs.Str.{bytes_eq}
use Rattle.clap.specs.Kinds.{or_else}
use Rattle.clap.specs.Faults.{turn_fault, walk_fault}
use Rattle.clap.specs.Walk.{Held, Row, Text, Walk, has_row, idle, option, settled_rows, walked}
use Rattle.clap.proofs.OnLiterals.{clap_on_literals}
use Rattle.erm_command_line.specs.CommandLine.{AreWritten, MakeOption, apart, count, joined, sessions, text}
use Rattle.erm_command_line.proofs.Levels.{decide, holding, make, or_both, same_text, shape, trailing_refused, walking}
use Rattle.erm_command_line.proofs.MakeClasses.{Class, classify}
use Rattle.erm_command_line.proofs.MakeOptions.{AreFresh, IsFresh, Pending, after, id_of, name_of, option_of, pend, pending_kinds, row, rows_of, rules, settles, unvalued, use_is_fresh, use_kinds, use_of, used_last}
use Rattle.erm_command_line.proofs.MakeWalk.{apart_end, apart_turn, apart_word, at, end, end_kinds, faults, joined_end, joined_turn, joined_word, reacts, text_end, text_turn, value_end, value_faults, value_flag, wanting}

-- words that end here: options that were not given before, each written in one of the two ways; `--` may stand behind them
pub record Ended (rows : List Row) (p : Pending) (h : Held) (words : List Text) : Type 0 where
  pub options : List MakeOption
  pub more : List Text
  pub written : AreWritten options more
  pub spelled : (words ≡ more) ⊎ (words ≡ more ++ codes "--" ∷ [])
  pub fresh_pending : IsFresh rows p
  pub fresh : AreFresh (after rows p) options
  pub final : settled_rows rules h.pending h.rows ≡ after rows p ++ rows_of options

-- the same behind the name of an option that has a value
record Valued (b : Bool) (rows : List Row) (h : Held) (words : List Text) : Type 0 where
  value : Text
  rest : List Text
  is : words ≡ value ∷ rest
  ended : Ended rows (Some (b, value)) h rest

-- ---- one more option in front
joins : (o : MakeOption) (own rest : List Text) (rows : List Row) (p : Pending) (h : Held) → (own ≡ apart o) ⊎ (own ≡ joined o) → IsFresh rows p → has_row (id_of o) (after rows p) ≡ false
    → Ended (after rows p ++ row o) None h rest → Ended rows p h (own ++ rest)
unfolding rows_of
joins o own rest rows p h how fresh_pending fresh ends = record {
  options = o ∷ ends.options;
  more = own ++ ends.more;
  written = (ends.more, elim how [ inl is ↦ inl (ap (λ (w : List Text). w ++ ends.more) is) | inr is ↦ inr (ap (λ (w : List Text). w ++ ends.more) is) ], ends.written);
  spelled = elim ends.spelled [ inl is ↦ inl (ap (λ (w : List Text). own ++ w) is) | inr is ↦ inr (ap (λ (w : List Text). own ++ w) is ∙ sym (append_assoc own ends.more (codes "--" ∷ []))) ];
  fresh_pending = fresh_pending;
  fresh = (fresh, ends.fresh);
  final = ends.final ∙ append_assoc (after rows p) (row o) (rows_of ends.options);
}

-- an option whose value was pending is one in front
used_then : (b : Bool) (value : Text) (rows : List Row) (h : Held) (words : List Text) → Ended rows (Some (b, value)) h words → Ended (rows ++ row (option_of b value)) None h words
used_then b value rows h words ends = record {
  options = ends.options;
  more = ends.more;
  written = ends.written;
  spelled = ends.spelled;
  fresh_pending = tt;
  fresh = ends.fresh;
  final = ends.final;
}

-- ---- where the walk stands
data Place : Type 0 where
  steady : Pending → Place
  wants : Bool → Place

abbrev walk_at : Place → List Row → Walk
walk_at (steady p) rows = at rows (pend p)
walk_at (wants b) rows = wanting b rows

abbrev Result : Place → List Row → Held → List Text → Type 0
Result (steady p) rows h words = Ended rows p h words
Result (wants b) rows h words = Valued b rows h words

abbrev Inverts : Place → List Row → Walk → List Text → Type 0
Inverts place rows w words = faults w words ≡ [] → end_kinds (end w words) ≡ [] → Result place rows (end w words) words

abbrev InvertsAll : List Text → Type 0
InvertsAll words = (place : Place) (rows : List Row) → Inverts place rows (walk_at place rows) words

-- ---- each kind of word
none_left : (rows : List Row) (p : Pending) (h : Held) (words : List Text) → (words ≡ []) ⊎ (words ≡ codes "--" ∷ []) → h ≡ holding rows (pend p) → end_kinds h ≡ [] → Ended rows p h words
unfolding rows_of
none_left rows p h words are is none =
    let settled = settles rows p (sym (ap end_kinds is) ∙ none) in
    record {
      options = [];
      more = [];
      written = refl;
      spelled = are;
      fresh_pending = settled.0;
      fresh = tt;
      final = ap (λ (k : Held). settled_rows rules k.pending k.rows) is ∙ settled.1 ∙ sym (append-nil (after rows p));
    }

ends_step : (rest : List Text) (rows : List Row) (p : Pending) → Inverts (steady p) rows (at rows (pend p)) (codes "--" ∷ rest)
unfolding clap_on_literals
ends_step [] rows p = λ none settled. none_left rows p (end (at rows (pend p)) (codes "--" ∷ [])) (codes "--" ∷ []) (inr refl) refl settled
ends_step (word ∷ rest) rows p = λ none settled. absurd (trailing_refused make [] (holding rows (pend p)) idle word rest (or_both (turn_fault (shape make) [] (at rows (pend p)) (codes "--")) (walk_fault (shape make) [] (walking (holding rows (pend p)) idle true) (word ∷ rest)) none).1)

apart_own : (b : Bool) (value : Text) → apart_word b ∷ value ∷ [] ≡ apart (option_of b value)
apart_own true value = refl
apart_own false value = refl

joined_own : (b : Bool) (value : Text) → joined_word b value ∷ [] ≡ joined (option_of b value)
joined_own true value = refl
joined_own false value = refl

same_id : (b : Bool) (value : Text) → name_of b ≡ id_of (option_of b value)
same_id true value = refl
same_id false value = refl

apart_step : (b : Bool) (rest : List Text) (rows : List Row) (p : Pending) → InvertsAll rest → Inverts (steady p) rows (at rows (pend p)) (apart_word b ∷ rest)
apart_step b rest rows p inverts = λ none settled.
    let there = settled_rows rules (pend p) rows in
    let turn = or_both (or_else (pending_kinds rows (pend p)) []) (faults (wanting b there) rest) (sym (apart_turn b rest rows (pend p)) ∙ none) in
    let ready = settles rows p (or_both (pending_kinds rows (pend p)) [] turn.0).0 in
    let same_end = apart_end b rest rows (pend p) in
    let h = end (at rows (pend p)) (apart_word b ∷ rest) in
    let found : Valued b there (end (wanting b there) rest) rest = inverts (wants b) there turn.1 (sym (ap end_kinds same_end) ∙ settled) in
    let held : Valued b there h rest = subst (λ (k : Held). Valued b there k rest) (sym same_end) found in
    let here : Valued b (after rows p) h rest = subst (λ (r : List Row). Valued b r h rest) ready.1 held in
    subst (λ (r : List Text). Ended rows p h (apart_word b ∷ r)) (sym here.is)
    (joins (option_of b here.value) (apart_word b ∷ here.value ∷ []) here.rest rows p h (inl (apart_own b here.value)) ready.0
    (subst (λ (id : Text). has_row id (after rows p) ≡ false) (same_id b here.value) here.ended.fresh_pending)
    (used_then b here.value (after rows p) h here.rest here.ended))

-- an option that is used at once
use_step : (o : MakeOption) (word : Text) (rest : List Text) (rows : List Row) (p : Pending)
    → faults (at rows (pend p)) (word ∷ rest) ≡ or_else (or_else (reacts o rows (pend p)) []) (faults (at (use_of o (settled_rows rules (pend p) rows)) None) rest)
    → end (at rows (pend p)) (word ∷ rest) ≡ end (at (use_of o (settled_rows rules (pend p) rows)) None) rest → word ∷ [] ≡ joined o → InvertsAll rest → Inverts (steady p) rows (at rows (pend p)) (word ∷ rest)
use_step o word rest rows p same_turn same_end own inverts = λ none settled.
    let there = settled_rows rules (pend p) rows in
    let turn = or_both (or_else (reacts o rows (pend p)) []) (faults (at (use_of o there) None) rest) (sym same_turn ∙ none) in
    let both = or_both (pending_kinds rows (pend p)) (use_kinds o there) (or_both (reacts o rows (pend p)) [] turn.0).0 in
    let ready = settles rows p both.0 in
    let fresh = subst (λ (r : List Row). has_row (id_of o) r ≡ false) ready.1 (use_is_fresh o there both.1) in
    let used : use_of o there ≡ after rows p ++ row o = ap (use_of o) ready.1 ∙ used_last o (after rows p) fresh in
    let h = end (at rows (pend p)) (word ∷ rest) in
    let found : Ended (use_of o there) None (end (at (use_of o there) None) rest) rest = inverts (steady None) (use_of o there) turn.1 (sym (ap end_kinds same_end) ∙ settled) in
    let held : Ended (use_of o there) None h rest = subst (λ (k : Held). Ended (use_of o there) None k rest) (sym same_end) found in
    joins o (word ∷ []) rest rows p h (inr own) ready.0 fresh (subst (λ (r : List Row). Ended r None h rest) used held)

-- a word that is to be a value
no_value : (b : Bool) (rest : List Text) (rows : List Row) → faults (wanting b rows) (codes "--" ∷ rest) ≡ [] → end_kinds (end (wanting b rows) (codes "--" ∷ rest)) ≡ [] → ⊥
unfolding clap_on_literals
no_value b [] rows none settled = unvalued b rows settled
no_value b (word ∷ rest) rows none settled = trailing_refused make [] (holding rows (Some (name_of b, []))) (option (name_of b)) word rest
    (or_both (turn_fault (shape make) [] (wanting b rows) (codes "--")) (walk_fault (shape make) [] (walking (holding rows (Some (name_of b, []))) (option (name_of b)) true) (word ∷ rest)) none).1

first_turn : (b : Bool) (word : Text) (rest : List Text) (rows : List Row) → faults (wanting b rows) (word ∷ rest) ≡ [] → turn_fault (shape make) [] (wanting b rows) word ≡ []
unfolding clap_on_literals
first_turn b word rest rows none = (or_both (turn_fault (shape make) [] (wanting b rows) word) (walk_fault (shape make) [] (walked rules [] (wanting b rows) word) rest) none).0

value_step : (b : Bool) (word : Text) (rest : List Text) (rows : List Row) → InvertsAll rest → Inverts (wants b) rows (wanting b rows) (word ∷ rest)
value_step b word rest rows inverts = λ none settled. elim (decide (bytes_eq word (codes "--"))) [
  | inl is ↦
      let same = same_text word (codes "--") is in
      absurd (no_value b rest rows (subst (λ (w : Text). faults (wanting b rows) (w ∷ rest) ≡ []) same none) (subst (λ (w : Text). end_kinds (end (wanting b rows) (w ∷ rest)) ≡ []) same settled))
  | inr other ↦
      let flag = value_flag b word rows other (first_turn b word rest rows none) in
      let same_end = value_end b word rest rows other flag in
      let found : Ended rows (Some (b, word)) (end (at rows (Some (name_of b, word ∷ []))) rest) rest =
      inverts (steady (Some (b, word))) rows (sym (value_faults b word rest rows other flag) ∙ none) (sym (ap end_kinds same_end) ∙ settled) in
      record { value = word; rest = rest; is = refl; ended = subst (λ (k : Held). Ended rows (Some (b, word)) k rest) (sym same_end) found }
]

-- ---- all of them
steady_step : (word : Text) (rest : List Text) (rows : List Row) (p : Pending) → InvertsAll rest → Class word → Inverts (steady p) rows (at rows (pend p)) (word ∷ rest)
unfolding clap_on_literals
steady_step word rest rows p inverts class = elim class [
  | inl is ↦ subst (λ (w : Text). Inverts (steady p) rows (at rows (pend p)) (w ∷ rest)) (sym is) (ends_step rest rows p)
  | inr more ↦ elim more [
    | inl is ↦ subst (λ (w : Text). Inverts (steady p) rows (at rows (pend p)) (w ∷ rest)) (sym is.1) (apart_step is.0 rest rows p inverts)
    | inr more ↦ elim more [
      | inl is ↦ subst (λ (w : Text). Inverts (steady p) rows (at rows (pend p)) (w ∷ rest)) (sym is.2)
          (use_step (option_of is.0 is.1) (joined_word is.0 is.1) rest rows p (joined_turn is.0 is.1 rest rows (pend p)) (joined_end is.0 is.1 rest rows (pend p)) (joined_own is.0 is.1) inverts)
      | inr more ↦ elim more [
        | inl is ↦ subst (λ (w : Text). Inverts (steady p) rows (at rows (pend p)) (w ∷ rest)) (sym is)
            (use_step text (codes "--text") rest rows p (text_turn rest rows (pend p)) (text_end rest rows (pend p)) refl inverts)
        | inr other ↦ λ none settled. absurd (other rows (pend p) (or_both (turn_fault (shape make) [] (at rows (pend p)) word) (walk_fault (shape make) [] (walked rules [] (at rows (pend p)) word) rest) none).0)
      ]
    ]
  ]
]

inverts_all : (words : List Text) → InvertsAll words
unfolding clap_on_literals
inverts_all [] (steady p) rows none settled = none_left rows p (holding rows (pend p)) [] (inl refl) refl settled
inverts_all [] (wants b) rows none settled = absurd (unvalued b rows settled)
inverts_all (word ∷ rest) (steady p) rows none settled = steady_step word rest rows p (inverts_all rest) (classify word) none settled
inverts_all (word ∷ rest) (wants b) rows none settled = value_step b word rest rows (inverts_all rest) none settled

-- words behind `make` that pass the walk, with what is found at its end
pub passed_are_options : (words : List Text) → faults (at [] None) words ≡ [] → end_kinds (end (at [] None) words) ≡ [] → Ended [] None (end (at [] None) words) words
passed_are_options words none settled = inverts_all words (steady None) [] none settled
