-- No slot's words begin another's.
use Rattle.std.proofs.Common.{◌≡◌, ℕ, List, [], ◌∷◌, ◌++◌, length, get_or, drop, refl, sym, ap, ◌∙◌, arith}
use Rattle.std.specs.List.{flat_map, All}
use Rattle.std.proofs.lemmas.List.{append_assoc, take_all}
use Rattle.erm_block.specs.declared.block.Form.{Form}
use Rattle.erm_block.specs.declared.block.Form.TheVariants.{Whole, Stored}
use Rattle.erm_block.specs.Block.{Entry}
use Rattle.erm_block.specs.Spelling.{entry_words}
use Rattle.erm_bytes.specs.Digest.{digest_of}
use Rattle.erm_ckpt.specs.Checkpoint.{Checkpoint, IsCheckpoint, IsSaved, StandsIn, format_of, slot_body, slot_words}
use Rattle.erm_ckpt.proofs.Fronts.{is_front}

-- formats have numbers of their own
same_form : (a b : Form) → format_of a ≡ format_of b → a ≡ b
same_form Whole Whole e = refl
same_form Whole Stored e = absurd (omega (arith, e))
same_form Stored Whole e = absurd (omega (arith, e))
same_form Stored Stored e = refl

-- the checkpoint of these parts
abbrev made : Form → ℕ → ℕ → ℕ → List Entry → Checkpoint
made form stamp run first entries = record { form = form; slot = record { stamp = stamp; run = run; first = first }; entries = entries }

-- rows with the same words, as many of the one as of the other
same_entries : (form : Form) (xs ys : List Entry) (p q : List ℕ) → All IsSaved xs → All IsSaved ys → length xs ≡ length ys
    → flat_map (entry_words form) xs ++ p ≡ flat_map (entry_words form) ys ++ q → xs ≡ ys
same_entries form xs ys p q each_x each_y count e =
    (is_front form xs ys p q each_x each_y (omega (arith, count)) e).front ∙ take_all (length xs) ys (omega (arith, count))

-- where two bodies stand at one place, they are of one checkpoint
pub same_from_body : (a b : Checkpoint) (x y : List ℕ) → IsCheckpoint a → IsCheckpoint b → slot_body a ++ x ≡ slot_body b ++ y → a ≡ b
same_from_body a b x y is_a is_b e =
    let form : a.form ≡ b.form = same_form a.form b.form (ap (λ (ws : List ℕ). get_or ws 0 0) e) in
    let stamp : a.slot.stamp ≡ b.slot.stamp = ap (λ (ws : List ℕ). get_or ws 1 0) e in
    let run : a.slot.run ≡ b.slot.run = ap (λ (ws : List ℕ). get_or ws 2 0) e in
    let first : a.slot.first ≡ b.slot.first = ap (λ (ws : List ℕ). get_or ws 3 0) e in
    let count : length a.entries ≡ length b.entries = ap (λ (ws : List ℕ). get_or ws 4 0) e in
    let rows : flat_map (entry_words a.form) a.entries ++ x ≡ flat_map (entry_words b.form) b.entries ++ y = ap (drop 5) e in
    let same_rows : flat_map (entry_words b.form) b.entries ++ y ≡ flat_map (entry_words a.form) b.entries ++ y = ap (λ (f : Form). flat_map (entry_words f) b.entries ++ y) (sym form) in
    let entries : a.entries ≡ b.entries = same_entries a.form a.entries b.entries x y is_a.each is_b.each count (rows ∙ same_rows) in
    let all : made a.form a.slot.stamp a.slot.run a.slot.first a.entries ≡ made b.form b.slot.stamp b.slot.run b.slot.first b.entries =
    ap (λ (f : Form). made f a.slot.stamp a.slot.run a.slot.first a.entries) form
    ∙ ap (λ (n : ℕ). made b.form n a.slot.run a.slot.first a.entries) stamp
    ∙ ap (λ (n : ℕ). made b.form b.slot.stamp n a.slot.first a.entries) run
    ∙ ap (λ (n : ℕ). made b.form b.slot.stamp b.slot.run n a.entries) first
    ∙ ap (λ (es : List Entry). made b.form b.slot.stamp b.slot.run b.slot.first es) entries in
    all

-- and so where two slots do
pub same_from_words : (a b : Checkpoint) (x y : List ℕ) → IsCheckpoint a → IsCheckpoint b → slot_words a ++ x ≡ slot_words b ++ y → a ≡ b
same_from_words a b x y is_a is_b e =
    let last_a : List ℕ = digest_of (slot_body a) ∷ [] in
    let last_b : List ℕ = digest_of (slot_body b) ∷ [] in
    same_from_body a b (last_a ++ x) (last_b ++ y) is_a is_b (sym (append_assoc (slot_body a) last_a x) ∙ e ∙ append_assoc (slot_body b) last_b y)

-- words have one slot in front
pub same_standing : (words : List ℕ) (a b : Checkpoint) → StandsIn words a → StandsIn words b → a ≡ b
same_standing words a b one other = same_from_words a b one.spelled.0 other.spelled.0 one.is other.is (sym one.spelled.1 ∙ other.spelled.1)
