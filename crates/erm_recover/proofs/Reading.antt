-- A reader of the log list goes on.
use Rattle.std.proofs.Common.{◌≡◌, ℕ, ◌-◌, ◌≤◌, List, [], ◌∷◌, ◌++◌, length, take, drop, Option, Some, None, refl, sym, ap, ◌∙◌, subst, arith, append_assoc, append-nil, length-drop}
use Rattle.std.proofs.Math.Seq.{take-length}
use Rattle.std.specs.Prelude.{IfSome}
use Rattle.erm_model.specs.Rows.{Rows, rows_of}
use Rattle.erm_model.specs.declared.history.Commit.{Commit}
use Rattle.erm_block.specs.declared.block.Block.{Block}
use Rattle.erm_block.specs.declared.block.TheConstants.{BLOCK_WORDS}
use Rattle.erm_block.specs.Block.{IsBlock}
use Rattle.erm_block.specs.Spelling.{spelling}
use Rattle.erm_block.specs.LogList.{Continues, End, IsChain, IsLogList, end_of}
use Rattle.erm_block.proofs.OneLogList.{IsChain-push}
use Rattle.erm_log_words.specs.Words.{log_words}
use Rattle.erm_outside.specs.Disk.{Image, Step, contents}
use Rattle.erm_ckpt.specs.Recovered.{State, end_at, state_behind}
use Rattle.erm_recover.specs.declared.tail.Tail.{Tail}
use Rattle.erm_recover.specs.Lists.{Goes, GoesOn, ListTold, PartTaken, Progress, Reaches, ReadsList, Stops, TakesBlocks, TakesOne, commits_in, commits_of, end_in, progress_at, state_with}
use Rattle.erm_recover.proofs.Chains.{IsChain-append, chain_front, commits_of-append, end_of-image, end_of-words, no_blocks, state_behind-append, stops_front}

-- a reader with the same rows and commits stands where it stood
still_at : (tail : Tail) (rows now : List (List ℕ)) (commits after : List Commit) → rows_of rows ≡ rows_of now → commits ≡ after → progress_at tail rows commits ≡ progress_at tail now after
still_at tail rows now commits after same_rows same_commits =
    ap (λ (array : Rows). let p : Progress = record { state = record { at = tail.at; run = tail.run; rows = array }; commits = commits } in p) same_rows
    ∙ ap (λ (cs : List Commit). let p : Progress = record { state = state_with tail now; commits = cs } in p) same_commits

-- before the first block
pub goes_nowhere : (sound : Rows → Type 0) (words : List ℕ) (start : Progress) → Goes sound words start start
goes_nowhere sound words start = record { blocks = []; chain = tt; state = refl; commits = sym (append-nil start.commits) }

-- the end of the blocks taken, by where the reader stands
end_here : (sound : Rows → Type 0) (words : List ℕ) (start mid : Progress) (goes : Goes sound words start mid)
    → end_of (end_in words start.state) goes.blocks ≡ end_in (drop (mid.state.at - start.state.at) words) mid.state
end_here sound words start mid goes =
    end_of-words words start.state goes.blocks ∙ ap (λ (s : State). end_in (drop (s.at - start.state.at) words) s) (sym goes.state)

-- one block more
pub goes_on : (sound : Rows → Type 0) (words : List ℕ) (start mid now : Progress)
    → Goes sound words start mid → GoesOn sound (drop (mid.state.at - start.state.at) words) mid now → Goes sound words start now
goes_on sound words start mid now goes on = record {
  blocks = goes.blocks ++ on.block ∷ [];
  chain = IsChain-push sound (end_in words start.state) goes.blocks on.block goes.chain
      (subst (λ (e : End). Continues sound e on.block) (sym (end_here sound words start mid goes)) on.next);
  state = on.state ∙ ap (λ (s : State). state_behind s (on.block ∷ [])) goes.state ∙ sym (state_behind-append start.state goes.blocks (on.block ∷ []));
  commits = on.commits ∙ ap (λ (cs : List Commit). cs ++ commits_in on.block) goes.commits
      ∙ append_assoc start.commits (commits_of goes.blocks) (commits_in on.block)
      ∙ ap (λ (cs : List Commit). start.commits ++ (commits_of goes.blocks ++ cs)) (sym (append-nil (commits_in on.block)))
      ∙ ap (λ (cs : List Commit). start.commits ++ cs) (sym (commits_of-append goes.blocks (on.block ∷ [])));
}

module _
    (size : (block : Block) (at run : ℕ) → IsBlock block at run → length (spelling block) ≡ block.size)
    (most : (block : Block) (at run : ℕ) → IsBlock block at run → block.size ≤ BLOCK_WORDS)
    (sound : Rows → Type 0) where
  -- where the place is as before, all is
  pub stays : (words : List ℕ) (start now : Progress) → Goes sound words start now → now.state.at ≡ start.state.at
      → (now.state ≡ start.state) × (now.commits ≡ start.commits)
  stays words start now goes same =
      let none : goes.blocks ≡ [] = no_blocks size most sound words start.state goes.blocks goes.chain (ap (λ (s : State). s.at) (sym goes.state) ∙ same) in (
        goes.state ∙ ap (λ (xs : List Block). state_behind start.state xs) none,
        goes.commits ∙ ap (λ (xs : List Block). start.commits ++ commits_of xs) none ∙ append-nil start.commits,
      )

  -- no block more
  pub goes_no_more : (words : List ℕ) (start : Progress) (tail : Tail) (rows now : List (List ℕ)) (commits after : List Commit)
      → Goes sound words start (progress_at tail rows commits)
      → TakesOne sound (drop (tail.at - start.state.at) words) (progress_at tail rows commits) None now after
      → TakesBlocks sound words start (progress_at tail now after)
  goes_no_more words start tail rows now commits after goes (stops, same_rows, same_commits) =
      let same : progress_at tail rows commits ≡ progress_at tail now after =
      still_at tail rows now commits after same_rows same_commits
      in
      record {
        goes = subst (λ (p : Progress). Goes sound words start p) same goes;
        stops = λ here.
            let still = stays words start (progress_at tail rows commits) goes here in
            let none : drop (tail.at - start.state.at) words ≡ words = ap (λ (n : ℕ). drop n words) (let e : tail.at - start.state.at ≡ 0 = omega (arith, here) in e) in
            let end : end_in (drop (tail.at - start.state.at) words) (state_with tail rows) ≡ end_in words start.state =
            ap (λ (ws : List ℕ). end_in ws (state_with tail rows)) none ∙ ap (λ (s : State). end_in words s) still.0
            in
            subst (λ (e : End). Stops sound e) end stops;
      }

  -- blocks that were taken from a front of an image's words
  pub reaches_front : (n : ℕ) (words : List ℕ) (image : Image) (start now : Progress) → words ≡ take n (log_words image start.state.at)
      → Goes sound words start now → Reaches sound image start now
  reaches_front n words image start now front goes = record {
    blocks = goes.blocks;
    chain = chain_front size most sound n (log_words image start.state.at) start.state goes.blocks
        (subst (λ (ws : List ℕ). IsChain sound (end_in ws start.state) goes.blocks) front goes.chain);
    state = goes.state;
    commits = goes.commits;
  }

  -- no block goes on in an image, where none does in a front of its words
  pub stops_image : (n : ℕ) (words : List ℕ) (image : Image) (start : Progress) → BLOCK_WORDS ≤ n → words ≡ take n (log_words image start.state.at)
      → Stops sound (end_in words start.state) → Stops sound (end_at image start.state)
  stops_image n words image start room front stops =
      stops_front size most sound n (log_words image start.state.at) start.state room
      (subst (λ (ws : List ℕ). Stops sound (end_in ws start.state)) front stops)

  -- before the first part
  pub reaches_nothing : (image : Image) (start : Progress) → Reaches sound image start start
  reaches_nothing image start = record { blocks = []; chain = tt; state = refl; commits = sym (append-nil start.commits) }

  -- one part more
  pub reaches_on : (image : Image) (start mid now : Progress) → Reaches sound image start mid → Reaches sound image mid now → Reaches sound image start now
  reaches_on image start mid now first behind =
      let end : end_of (end_at image start.state) first.blocks ≡ end_at image mid.state =
      end_of-image size most sound image start.state first.blocks first.chain ∙ ap (λ (s : State). end_at image s) (sym first.state)
      in
      record {
        blocks = first.blocks ++ behind.blocks;
        chain = IsChain-append sound (end_at image start.state) first.blocks behind.blocks first.chain
            (subst (λ (e : End). IsChain sound e behind.blocks) (sym end) behind.chain);
        state = behind.state ∙ ap (λ (s : State). state_behind s behind.blocks) first.state ∙ sym (state_behind-append start.state first.blocks behind.blocks);
        commits = behind.commits ∙ ap (λ (cs : List Commit). cs ++ commits_of behind.blocks) first.commits
            ∙ append_assoc start.commits (commits_of first.blocks) (commits_of behind.blocks)
            ∙ ap (λ (cs : List Commit). start.commits ++ cs) (sym (commits_of-append first.blocks behind.blocks));
      }

  -- where no block goes on, the list ends
  pub ends_list : ((end : End) (xs : List Block) → IsChain sound end xs → ((block : Block) → Continues sound (end_of end xs) block → ⊥) → IsLogList sound end xs)
      → (image : Image) (start now : Progress) → Reaches sound image start now → Stops sound (end_at image now.state) → ReadsList sound image start now
  ends_list longest image start now reaches stops =
      let end : end_of (end_at image start.state) reaches.blocks ≡ end_at image now.state =
      end_of-image size most sound image start.state reaches.blocks reaches.chain ∙ ap (λ (s : State). end_at image s) (sym reaches.state)
      in
      record {
        blocks = reaches.blocks;
        list = longest (end_at image start.state) reaches.blocks reaches.chain (subst (λ (e : End). Stops sound e) (sym end) stops);
        state = reaches.state;
        commits = reaches.commits;
      }

  -- what was taken from the words that were read of a disk's log: here a front, up to a place
  pub part_taken : (told : Option (List Step)) (start : Progress) (tail : Tail) (rows : List (List ℕ)) (commits : List Commit) (words : List ℕ) (n : ℕ)
      → IfSome told (λ steps. words ≡ take n (log_words (contents steps) start.state.at))
      → TakesBlocks sound words start (progress_at tail rows commits) → PartTaken sound told start (Some tail) rows commits
  part_taken None start tail rows commits words n read taken = tt
  part_taken (Some steps) start tail rows commits words n read taken = reaches_front n words (contents steps) start (progress_at tail rows commits) read taken.goes

  -- and here none, so that the list ends
  pub part_ended : (told : Option (List Step)) (start : Progress) (tail : Tail) (rows : List (List ℕ)) (commits : List Commit) (words : List ℕ) (n : ℕ) → BLOCK_WORDS ≤ n
      → IfSome told (λ steps. words ≡ take n (log_words (contents steps) start.state.at))
      → TakesBlocks sound words start (progress_at tail rows commits) → tail.at ≡ start.state.at → PartTaken sound told start None rows commits
  part_ended None start tail rows commits words n room read taken same = tt
  part_ended (Some steps) start tail rows commits words n room read taken same =
      let still = stays words start (progress_at tail rows commits) taken.goes same in
      (stops_image n words (contents steps) start room read (taken.stops same), ap (λ (s : State). s.rows) (sym still.0), sym still.1)

-- ---- what a call answered, by its variant

-- all words from a place on
pub rest_of : (words : List ℕ) (n : ℕ) → take (length words - n) (drop n words) ≡ drop n words
rest_of words n = ap (λ (k : ℕ). take k (drop n words)) (sym (length-drop n words)) ∙ take-length (drop n words)

pub took_some : (sound : Rows → Type 0) (given words : List ℕ) (start : Progress) (found : Option Tail) (tail : Tail) (rows : List (List ℕ)) (commits : List Commit)
    → given ≡ words → found ≡ Some tail → TakesOne sound given start found rows commits → GoesOn sound words start (progress_at tail rows commits)
took_some sound given words start found tail rows commits same is took =
    subst (λ (f : Option Tail). TakesOne sound words start f rows commits) is (subst (λ (ws : List ℕ). TakesOne sound ws start found rows commits) same took)

pub took_none : (sound : Rows → Type 0) (given words : List ℕ) (start : Progress) (found : Option Tail) (rows : List (List ℕ)) (commits : List Commit)
    → given ≡ words → found ≡ None → TakesOne sound given start found rows commits → TakesOne sound words start None rows commits
took_none sound given words start found rows commits same is took =
    subst (λ (f : Option Tail). TakesOne sound words start f rows commits) is (subst (λ (ws : List ℕ). TakesOne sound ws start found rows commits) same took)

pub some_is : (P : Tail → Type 0) (found : Option Tail) (tail : Tail) → found ≡ Some tail → IfSome found P → P tail
some_is P found tail is has = subst (λ (f : Option Tail). IfSome f P) is has

pub part_some : (sound : Rows → Type 0) (told : Option (List Step)) (start : Progress) (found : Option Tail) (tail : Tail) (rows : List (List ℕ)) (commits : List Commit)
    → found ≡ Some tail → PartTaken sound told start found rows commits → PartTaken sound told start (Some tail) rows commits
part_some sound told start found tail rows commits is took = subst (λ (f : Option Tail). PartTaken sound told start f rows commits) is took

pub part_none : (sound : Rows → Type 0) (told : Option (List Step)) (start : Progress) (found : Option Tail) (rows : List (List ℕ)) (commits : List Commit)
    → found ≡ None → PartTaken sound told start found rows commits → PartTaken sound told start None rows commits
part_none sound told start found rows commits is took = subst (λ (f : Option Tail). PartTaken sound told start f rows commits) is took

-- ---- the whole list, as far as the disk tells

module _
    (size : (block : Block) (at run : ℕ) → IsBlock block at run → length (spelling block) ≡ block.size)
    (most : (block : Block) (at run : ℕ) → IsBlock block at run → block.size ≤ BLOCK_WORDS)
    (sound : Rows → Type 0) where
  pub told_nothing : (told : Option (List Step)) (start : Progress) → IfSome told (λ steps. Reaches sound (contents steps) start start)
  told_nothing None start = tt
  told_nothing (Some steps) start = reaches_nothing size most sound (contents steps) start

  pub told_on : (told other : Option (List Step)) (start mid : Progress) (tail : Tail) (rows : List (List ℕ)) (commits : List Commit) → other ≡ told
      → IfSome told (λ steps. Reaches sound (contents steps) start mid) → PartTaken sound other mid (Some tail) rows commits
      → IfSome told (λ steps. Reaches sound (contents steps) start (progress_at tail rows commits))
  told_on None other start mid tail rows commits same first behind = tt
  told_on (Some steps) other start mid tail rows commits same first behind =
      let moved = subst (λ (t : Option (List Step)). PartTaken sound t mid (Some tail) rows commits) same behind in
      reaches_on size most sound (contents steps) start mid (progress_at tail rows commits) first moved

  pub told_ends : ((end : End) (xs : List Block) → IsChain sound end xs → ((block : Block) → Continues sound (end_of end xs) block → ⊥) → IsLogList sound end xs)
      → (told other : Option (List Step)) (start : Progress) (tail : Tail) (rows now : List (List ℕ)) (commits after : List Commit) → other ≡ told
      → IfSome told (λ steps. Reaches sound (contents steps) start (progress_at tail rows commits)) → PartTaken sound other (progress_at tail rows commits) None now after
      → ListTold sound told start (progress_at tail now after)
  told_ends longest None other start tail rows now commits after same first ended = tt
  told_ends longest (Some steps) other start tail rows now commits after same first ended =
      let moved = subst (λ (t : Option (List Step)). PartTaken sound t (progress_at tail rows commits) None now after) same ended in
      let still = still_at tail rows now commits after moved.1 moved.2 in
      subst (λ (p : Progress). ReadsList sound (contents steps) start p) still
      (ends_list size most sound longest (contents steps) start (progress_at tail rows commits) first moved.0)
