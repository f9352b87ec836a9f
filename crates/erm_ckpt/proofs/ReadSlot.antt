-- What stands where in the words of a slot.
use Rattle.std.proofs.Common.{◌≡◌, ℕ, ◌+◌, ◌<◌, ◌≤◌, List, [], ◌∷◌, ◌++◌, length, get_or, take, drop, refl, sym, ap, ◌∙◌, subst, arith, length-append}
use Rattle.std.specs.List.{flat_map}
use Rattle.std.proofs.lemmas.List.{append_assoc, take_at}
use Rattle.std.proofs.Math.Seq.{get_or-append_seam}
use Rattle.erm_bytes.specs.Digest.{digest_of}
use Rattle.erm_block.specs.declared.block.Form.{Form}
use Rattle.erm_block.specs.Block.{Entry}
use Rattle.erm_block.specs.Spelling.{entry_words}
use Rattle.erm_ckpt.specs.declared.slot.Slot.{Slot}
use Rattle.erm_ckpt.specs.Checkpoint.{Checkpoint, IsSlot, StandsIn, format_of, slot_body}
use Rattle.erm_ckpt.specs.Reading.{BeginsWithRows, HasRows, IsSlotOf}

-- the words in front, and what is behind them
pub record HasHead (words : List ℕ) (checkpoint : Checkpoint) (behind : List ℕ) : Type 0 where
  pub format : get_or words 0 0 ≡ format_of checkpoint.form
  pub stamp : get_or words 1 0 ≡ checkpoint.slot.stamp
  pub run : get_or words 2 0 ≡ checkpoint.slot.run
  pub first : get_or words 3 0 ≡ checkpoint.slot.first
  pub count : get_or words 4 0 ≡ length checkpoint.entries
  pub rows : drop 5 words ≡ flat_map (entry_words checkpoint.form) checkpoint.entries ++ digest_of (slot_body checkpoint) ∷ behind

pub head_of : (words : List ℕ) (checkpoint : Checkpoint) (stands : StandsIn words checkpoint) → HasHead words checkpoint stands.spelled.0
head_of words checkpoint stands =
    let e = stands.spelled.1 in
    record {
      format = ap (λ (ws : List ℕ). get_or ws 0 0) e;
      stamp = ap (λ (ws : List ℕ). get_or ws 1 0) e;
      run = ap (λ (ws : List ℕ). get_or ws 2 0) e;
      first = ap (λ (ws : List ℕ). get_or ws 3 0) e;
      count = ap (λ (ws : List ℕ). get_or ws 4 0) e;
      rows = ap (drop 5) e ∙ append_assoc (flat_map (entry_words checkpoint.form) checkpoint.entries) (digest_of (slot_body checkpoint) ∷ []) stands.spelled.0;
    }

-- what the slot says
pub slot_is : (words : List ℕ) (checkpoint : Checkpoint) → StandsIn words checkpoint
    → (let slot : Slot = record { stamp = get_or words 1 0; run = get_or words 2 0; first = get_or words 3 0 } in slot) ≡ checkpoint.slot
slot_is words checkpoint stands =
    let head = head_of words checkpoint stands in
    let make : ℕ → ℕ → ℕ → Slot = λ stamp run first. record { stamp = stamp; run = run; first = first } in
    ap (λ (n : ℕ). make n (get_or words 2 0) (get_or words 3 0)) head.stamp
    ∙ ap (λ (n : ℕ). make checkpoint.slot.stamp n (get_or words 3 0)) head.run
    ∙ ap (λ (n : ℕ). make checkpoint.slot.stamp checkpoint.slot.run n) head.first

-- its rows stand behind the head
pub has_rows : (words : List ℕ) (checkpoint : Checkpoint) (form : Form) (count : ℕ) (stands : StandsIn words checkpoint) → form ≡ checkpoint.form → count ≡ length checkpoint.entries
    → HasRows form (drop 5 words) count (length (flat_map (entry_words checkpoint.form) checkpoint.entries))
has_rows words checkpoint form count stands form_is count_is =
    let head = head_of words checkpoint stands in
    subst (λ (f : Form). HasRows f (drop 5 words) count (length (flat_map (entry_words checkpoint.form) checkpoint.entries))) (sym form_is)
    (record {
      entries = checkpoint.entries;
      each = stands.is.each;
      ascending = stands.is.ascending;
      many = sym count_is;
      rest = digest_of (slot_body checkpoint) ∷ stands.spelled.0;
      words_are = head.rows;
      size_is = refl;
    })

-- the words before the digest, and the digest behind them
pub record HasDigest (words : List ℕ) (checkpoint : Checkpoint) (size : ℕ) : Type 0 where
  pub body : take size words ≡ slot_body checkpoint
  pub digest : get_or words size 0 ≡ digest_of (slot_body checkpoint)
  pub long : size < length words

pub has_digest : (words : List ℕ) (checkpoint : Checkpoint) (size : ℕ) → StandsIn words checkpoint → size ≡ 5 + length (flat_map (entry_words checkpoint.form) checkpoint.entries)
    → HasDigest words checkpoint size
has_digest words checkpoint size stands sized =
    let body : List ℕ = slot_body checkpoint in
    let last : ℕ = digest_of body in
    let e : words ≡ body ++ last ∷ stands.spelled.0 = stands.spelled.1 ∙ append_assoc body (last ∷ []) stands.spelled.0 in
    let long : length body ≡ size = omega (arith, sized) in
    record {
      body = ap (take size) e ∙ take_at body (last ∷ stands.spelled.0) size long;
      digest = ap (λ (ws : List ℕ). get_or ws size 0) e ∙ ap (λ (n : ℕ). get_or (body ++ last ∷ stands.spelled.0) n 0) (sym long) ∙ get_or-append_seam body last stands.spelled.0 0;
      long = omega (arith, ap length e, length-append body (last ∷ stands.spelled.0), long);
    }

-- words are the first five and those behind
pub five : (words : List ℕ) → 5 ≤ length words → words ≡ get_or words 0 0 ∷ get_or words 1 0 ∷ get_or words 2 0 ∷ get_or words 3 0 ∷ get_or words 4 0 ∷ drop 5 words
five [] room = absurd (omega arith)
five (a ∷ []) room = absurd (omega arith)
five (a ∷ b ∷ []) room = absurd (omega arith)
five (a ∷ b ∷ c ∷ []) room = absurd (omega arith)
five (a ∷ b ∷ c ∷ d ∷ []) room = absurd (omega arith)
five (a ∷ b ∷ c ∷ d ∷ e ∷ words) room = refl

-- the checkpoint of these parts
abbrev pub made : Form → Slot → List Entry → Checkpoint
made form slot entries = record { form = form; slot = slot; entries = entries }

-- what was read of words is the slot of a checkpoint
pub slot_found : (words : List ℕ) (rows : List (List ℕ)) (form : Form) (slot : Slot) (a b c d n size : ℕ) (tail : List ℕ)
    → words ≡ a ∷ b ∷ c ∷ d ∷ n ∷ tail → a ≡ format_of form → slot.stamp ≡ b → slot.run ≡ c → slot.first ≡ d → IsSlot slot → BeginsWithRows form tail rows n size
    → 5 + size < length words → digest_of (take (5 + size) words) ≡ get_or words (5 + size) 0 → IsSlotOf words rows slot
slot_found words rows form slot a b c d n size tail split format stamp run first is begins more digest =
    let entries : List Entry = begins.has.entries in
    let checkpoint : Checkpoint = made form slot entries in
    let body : List ℕ = slot_body checkpoint in
    let head : (a ∷ b ∷ c ∷ d ∷ n ∷ flat_map (entry_words form) entries) ≡ body =
    ap (λ (w : ℕ). w ∷ b ∷ c ∷ d ∷ n ∷ flat_map (entry_words form) entries) format
    ∙ ap (λ (w : ℕ). format_of form ∷ w ∷ c ∷ d ∷ n ∷ flat_map (entry_words form) entries) (sym stamp)
    ∙ ap (λ (w : ℕ). format_of form ∷ slot.stamp ∷ w ∷ d ∷ n ∷ flat_map (entry_words form) entries) (sym run)
    ∙ ap (λ (w : ℕ). format_of form ∷ slot.stamp ∷ slot.run ∷ w ∷ n ∷ flat_map (entry_words form) entries) (sym first)
    ∙ ap (λ (w : ℕ). format_of form ∷ slot.stamp ∷ slot.run ∷ slot.first ∷ w ∷ flat_map (entry_words form) entries) (sym begins.has.many) in
    let whole : words ≡ body ++ begins.has.rest = split ∙ ap (λ (ws : List ℕ). a ∷ b ∷ c ∷ d ∷ n ∷ ws) begins.has.words_are ∙ ap (λ (ws : List ℕ). ws ++ begins.has.rest) head in
    let long : length body ≡ 5 + size = omega (arith, begins.has.size_is) in
    let front : take (5 + size) words ≡ body = ap (take (5 + size)) whole ∙ take_at body begins.has.rest (5 + size) long in
    let rest : List ℕ = drop 1 begins.has.rest in
    let last : begins.has.rest ≡ digest_of body ∷ rest = ends begins.has.rest (digest_of body)
    (omega (arith, more, ap length whole, length-append body begins.has.rest, long))
    (ap digest_of (sym front) ∙ digest ∙ ap (λ (ws : List ℕ). get_or ws (5 + size) 0) whole ∙ seam body begins.has.rest (5 + size) long) in
    record {
      checkpoint = checkpoint;
      stands = record {
        is = record { slot = is; each = begins.has.each; ascending = begins.has.ascending };
        spelled = (rest, whole ∙ ap (λ (ws : List ℕ). body ++ ws) last ∙ sym (append_assoc body (digest_of body ∷ []) rest));
      };
      slot_is = refl;
      rows_are = begins.rows_are;
    }
  where
    seam : (xs ys : List ℕ) (k : ℕ) → length xs ≡ k → get_or (xs ++ ys) k 0 ≡ get_or ys 0 0
    seam [] ys k long = ap (λ (i : ℕ). get_or ys i 0) (sym long)
    seam (x ∷ xs) ys k long = ap (λ (i : ℕ). get_or (x ∷ (xs ++ ys)) i 0) (sym long) ∙ seam xs ys (length xs) refl

    ends : (ws : List ℕ) (d : ℕ) → 0 < length ws → d ≡ get_or ws 0 0 → ws ≡ d ∷ drop 1 ws
    ends [] d some e = absurd (omega (arith, some))
    ends (w ∷ ws) d some e = ap (λ (x : ℕ). x ∷ ws) (sym e)
