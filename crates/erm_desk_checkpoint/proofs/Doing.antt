-- What a desk that takes checkpoints did to its disk: words of blocks, saves, and waits alone; how that goes on.
use Rattle.std.proofs.Common.{◌≡◌, ⊎_elim, ℕ, ◌+◌, ◌≤◌, ◌<◌, List, [], ◌∷◌, ◌++◌, length, inl, inr, refl, sym, ap, ◌∙◌, subst, append_assoc, arith}
use Rattle.std.specs.List.{All}
use Rattle.std.proofs.lemmas.List.Concat.{flat_map-append}
use Rattle.std.proofs.lemmas.List.Elements.{All-head, All-tail, All-weaker}
use Rattle.erm_block.specs.declared.block.Block.{Block}
use Rattle.erm_block.specs.Spelling.{spelling}
use Rattle.erm_bytes.specs.Bytes.{bytes_of}
use Rattle.erm_checkpoint.specs.Steps.{RemovesAll, RemovesPart, SavesAll, SavesPart, WritesPart, did, removals, slot_written}
use Rattle.erm_checkpoint.specs.Taken.{SavedLogPast, SavesLogPast}
use Rattle.erm_ckpt.specs.declared.slot.Slot.{Slot}
use Rattle.erm_ckpt.specs.declared.slot.Slots.{Slots}
use Rattle.erm_ckpt.specs.Checkpoint.{Checkpoint, IsCheckpoint, slot_words}
use Rattle.erm_ckpt.specs.Slots.{other_of, put_slot, removal_end}
use Rattle.erm_log_disk.specs.Writes.{AllWriteWords, WritesWords}
use Rattle.erm_model.specs.Rows.{Rows}
use Rattle.erm_outside.specs.declared.disk.File.{File}
use Rattle.erm_outside.specs.declared.disk.File.TheVariants.{Segment}
use Rattle.erm_outside.specs.Disk.{Step}
use Rattle.erm_outside.specs.Disk.Change.{Removed, Synced, Tried, Wrote}
use Rattle.erm_rule.specs.declared.view.Start.{Start}
use Rattle.erm_world.specs.Log.{Log, words_of}
use Rattle.erm_desk_checkpoint.specs.Does.{AllDo, DoesSince, DoesWith, IsSlotWrite, SavesStep}

-- words written one after another are words of all
abbrev pub Joins : Type 0
Joins = (at : ℕ) (xs ys : List ℕ) (first second : List Step) → AllWriteWords at xs first → AllWriteWords (at + length xs) ys second → AllWriteWords at (xs ++ ys) (second ++ first)

does_both : (at : ℕ) (words : List ℕ) (slots : Slots) (xs ys : List Step) → AllDo at words slots xs → AllDo at words slots ys → AllDo at words slots (xs ++ ys)
does_both at words slots [] ys one two = two
does_both at words slots (x ∷ xs) ys (here, one) two = (here, does_both at words slots xs ys one two)

module _ (join : Joins) (slots : Slots) (at : ℕ) (xs ys : List ℕ) where
  -- words of the first are words of all
  do_more : (steps : List Step) → AllDo at xs slots steps → AllDo at (xs ++ ys) slots steps
  do_more [] all = tt
  do_more (step ∷ steps) (one, rest) = (
    ⊎_elim (λ (w : WritesWords at xs step.file step.change). inl (join at xs ys (step ∷ []) [] (w, tt) tt).0) (λ (w : SavesStep slots step.file step.change). inr w) one,
    do_more steps rest,
  )

  -- and those behind them
  do_behind : (steps : List Step) → AllWriteWords (at + length xs) ys steps → AllDo at (xs ++ ys) slots steps
  do_behind [] all = tt
  do_behind (step ∷ steps) (one, rest) = (inl (join at xs ys [] (step ∷ []) tt (one, tt)).0, do_behind steps rest)

module _ (o : Start) where
  pub nothing_does : (bs : List Block) (slots : Slots) (now : List Step) → DoesWith o bs slots now now
  nothing_does bs slots now = ([], refl, tt)

  does_join : (bs : List Block) (slots : Slots) (x y z : List Step) → DoesWith o bs slots x y → DoesWith o bs slots y z → DoesWith o bs slots x z
  does_join bs slots x y z one two = (
    two.0 ++ one.0,
    two.1 ∙ ap (λ (ss : List Step). two.0 ++ ss) one.1 ∙ sym (append_assoc two.0 one.0 x),
    does_both o.tail (words_of bs) slots two.0 one.0 two.2 one.2,
  )

  -- it goes on with the same slots
  pub since_on : (bs : List Block) (slots : Slots) (earlier : List Slots) (x y z : List Step) → DoesSince o bs slots earlier x y → DoesWith o bs slots y z → DoesSince o bs slots earlier x z
  since_on bs slots [] x y z since more = does_join bs slots x y z since more
  since_on bs slots (before ∷ earlier) x y z (mid, since, put, on) more = (mid, since, put, does_join bs slots mid y z on more)

  -- and with the next ones
  pub since_put : (bs : List Block) (slots : Slots) (slot : Slot) (earlier : List Slots) (x y : List Step) → DoesSince o bs slots earlier x y → DoesSince o bs (put_slot slots slot) (slots ∷ earlier) x y
  since_put bs slots slot earlier x y since = (y, since, (slot, refl), nothing_does bs (put_slot slots slot) y)

  module _ (join : Joins) (bs more : List Block) where
    all_words : words_of bs ++ words_of more ≡ words_of (bs ++ more)
    all_words = sym (flat_map-append spelling bs more)

    with_more : (slots : Slots) (x y : List Step) → DoesWith o bs slots x y → DoesWith o (bs ++ more) slots x y
    with_more slots x y (steps, is, all) = (steps, is, subst (λ (ws : List ℕ). AllDo o.tail ws slots steps) all_words (do_more join slots o.tail (words_of bs) (words_of more) steps all))

    pub since_more : (slots : Slots) (earlier : List Slots) (x y : List Step) → DoesSince o bs slots earlier x y → DoesSince o (bs ++ more) slots earlier x y
    since_more slots [] x y since = with_more slots x y since
    since_more slots (before ∷ earlier) x y (mid, since, put, on) = (mid, since_more before earlier x mid since, put, with_more slots mid y on)

    -- blocks more were written
    pub flush_does : (slots : Slots) (x y : List Step) → ((later : List Step) × (y ≡ later ++ x) × AllWriteWords (o.tail + length (words_of bs)) (words_of more) later) → DoesWith o (bs ++ more) slots x y
    flush_does slots x y (later, is, all) = (later, is, subst (λ (ws : List ℕ). AllDo o.tail ws slots later) all_words (do_behind join slots o.tail (words_of bs) (words_of more) later all))

  -- A SAVE
  module _ (bs : List Block) (slots : Slots) where
    abbrev ws : List ℕ
    ws = words_of bs

    abbrev Low : ℕ → Type 0
    Low segment = segment < removal_end slots

    -- segments below the end of the removals were removed
    removals_do : (segments : List ℕ) → All Low segments → (x y : List Step) → DoesWith o bs slots x y → DoesWith o bs slots x (removals segments y)
    removals_do [] low x y on = on
    removals_do (segment ∷ before) low x y on =
        let (more, is, all) = removals_do before (All-tail Low segment before low) x y on in (
          record { file = Segment segment; change = Synced } ∷ record { file = Segment segment; change = Removed } ∷ more,
          ap (λ (ss : List Step). did (Segment segment) Synced (did (Segment segment) Removed ss)) is,
          (inr tt, (inr (segment, refl, All-head Low segment before low), all)),
        )

    removes_all_do : (from : ℕ) → from ≤ removal_end slots → (x y z : List Step) → DoesWith o bs slots x y → RemovesAll 0 from y z → DoesWith o bs slots x z
    removes_all_do from low x y z on r =
        let all : All Low r.segments = All-weaker (λ segment. (0 ≤ segment) × (segment < from)) Low (λ segment within. let less = within.1 in omega (arith, less, low)) r.segments r.are.within in
        subst (DoesWith o bs slots x) (sym r.steps) (removals_do r.segments all x y on)

    removes_part_do : (x y z : List Step) → DoesWith o bs slots x y → RemovesPart 0 (removal_end slots) y z → DoesWith o bs slots x z
    removes_part_do x y z on r =
        let most = r.most in
        let here = removes_all_do r.from (omega (arith, most)) x y r.mid on r.all in
        ⊎_elim (λ (same : z ≡ r.mid). subst (DoesWith o bs slots x) (sym same) here)
        (λ one. subst (DoesWith o bs slots x) (sym one.2)
        (record { file = Segment one.0; change = Removed } ∷ here.0, ap (did (Segment one.0) Removed) here.1, (inr (one.0, refl, one.1.1), here.2))) r.part

    module _ (checkpoint : Checkpoint) (is : IsCheckpoint checkpoint) (x : List Step) where
      abbrev bytes : List ℕ
      bytes = bytes_of (slot_words checkpoint)

      slot_write : IsSlotWrite slots (other_of slots) 0 bytes
      slot_write = record { file_is = refl; byte_is = refl; checkpoint = checkpoint; is = is; bytes_are = refl }

      written : DoesWith o bs slots x (slot_written (other_of slots) bytes x)
      written = (record { file = other_of slots; change = Synced } ∷ record { file = other_of slots; change = Wrote 0 bytes } ∷ [], refl, (inr tt, (inr slot_write, tt)))

      write_part : (z : List Step) → WritesPart (other_of slots) bytes x z → DoesWith o bs slots x z
      write_part z part =
          ⊎_elim (λ (same : z ≡ x). ([], same, tt))
          (λ some. ⊎_elim (λ tried. (record { file = other_of slots; change = Tried 0 bytes tried.0 } ∷ [], tried.2, (inr (slot_write, tried.1), tt)))
          (λ (wrote : z ≡ did (other_of slots) (Wrote 0 bytes) x). (record { file = other_of slots; change = Wrote 0 bytes } ∷ [], wrote, (inr slot_write, tt))) some) part

      save_all : (z : List Step) → SavesAll (other_of slots) bytes 0 (removal_end slots) x z → DoesWith o bs slots x z
      save_all z saves = removes_all_do (removal_end slots) (omega arith) x (slot_written (other_of slots) bytes x) z written saves

      save_part : (z : List Step) → SavesPart (other_of slots) bytes 0 (removal_end slots) x z → DoesWith o bs slots x z
      save_part z saves = ⊎_elim (write_part z) (λ removes. removes_part_do x (slot_written (other_of slots) bytes x) z written removes) saves

    module _ (sound : Rows → Type 0) (log : Log) (slot : Slot) (x z : List Step) where
      pub saved_does : SavedLogPast sound log slots slot x z → DoesWith o bs slots x z
      saved_does s =
          save_all s.checkpoint s.may.is x z
          (subst (λ (file : File). SavesAll file (bytes_of (slot_words s.checkpoint)) 0 (removal_end slots) x z) (sym (ap other_of s.holds.holds.names)) s.saves)

      pub saves_does : SavesLogPast sound log slots slot x z → DoesWith o bs slots x z
      saves_does s =
          let file = sym (ap other_of s.holds.holds.names) in
          ⊎_elim
          (λ part. save_part s.checkpoint s.may.is x z (subst (λ (f : File). SavesPart f (bytes_of (slot_words s.checkpoint)) 0 (removal_end slots) x z) file part))
          (λ all. save_all s.checkpoint s.may.is x z (subst (λ (f : File). SavesAll f (bytes_of (slot_words s.checkpoint)) 0 (removal_end slots) x z) file all)) s.saves
