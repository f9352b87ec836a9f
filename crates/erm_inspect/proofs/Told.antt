-- From what was recovered to what its lines tell.
use Rattle.std.proofs.Common.{◌≡◌, ℕ, List, [], ◌∷◌, ◌++◌, length, Option, None, Some, sym, ap, ◌∙◌, subst}
use Rattle.std.specs.Prelude.{IfSome}
use Rattle.std.specs.List.{AllPairs, range_with_len}
use Rattle.std.specs.List.Sorted.{IsPermutation}
use Rattle.erm_audit.specs.Order.{HasTurnBefore, commits_at}
use Rattle.erm_model.specs.Database.{Database}
use Rattle.erm_model.specs.SerialOrder.{IsSerialOrder, StampsDiffer, rank_of_commit}
use Rattle.erm_model.specs.declared.history.Commit.{Commit}
use Rattle.erm_model.specs.Rows.{Rows, rows_of}
use Rattle.erm_model.specs.RowTransaction.{SameRows}
use Rattle.erm_outside.specs.Disk.{Step, contents}
use Rattle.erm_ckpt.specs.Recovered.{State, base, state_behind, end_at}
use Rattle.erm_ckpt.specs.States.{SameState}
use Rattle.erm_node.specs.Sound.{IsSound, sound_law}
use Rattle.erm_node.specs.TreeMap.{map_of_rows}
use Rattle.erm_recover.specs.declared.recovered.Recovered.{Recovered}
use Rattle.erm_recover.specs.Lists.{commits_of}
use Rattle.erm_recover.specs.Recovering.{RecoveredTold, state_recovered}
use Rattle.erm_report.specs.declared.line.Line.{Line}
use Rattle.erm_report.specs.declared.line.Line.TheVariants as line
use Rattle.erm_inspect.specs.Audits.{IsAudit, TellsAudit, order_lines}
use Rattle.erm_inspect.specs.Maps.{ArePairs, EndsWithMap, map_lines}
use Rattle.erm_inspect.specs.Recoveries.{IsRecovery, TellsRecovery}
use Rattle.erm_inspect.proofs.Stamps.{chain_stamps_differ}

-- the parts of an audit's lines, as they were added
pub tells_audit : (found : Recovered) (commits seen : List Commit) (rows : List (List ℕ)) (places order : List ℕ) (none first second third : List Line)
    → commits ≡ found.commits.items → seen ≡ found.commits.items → rows ≡ found.rows.items → order ≡ places
    → IsPermutation (range_with_len 0 (length commits)) places → AllPairs (HasTurnBefore commits) places
    → (StampsDiffer rank_of_commit commits → IsSerialOrder rank_of_commit commits (commits_at commits places))
    → none ≡ [] → first ≡ none ++ line.Audited found.base found.stamp found.run ∷ [] → second ≡ first ++ order_lines seen (commits_at seen order)
    → EndsWithMap (map_of_rows (rows_of rows)) second third → TellsAudit found.base (state_recovered found) found.commits.items third
tells_audit found commits seen rows places order none first second third commits_are seen_are rows_are order_is all turns serial empty head then ends =
    let audited = line.Audited found.base found.stamp found.run in
    record {
      places = places;
      all = subst (λ (cs : List Commit). IsPermutation (range_with_len 0 (length cs)) places) commits_are all;
      in_turn = subst (λ (cs : List Commit). AllPairs (HasTurnBefore cs) places) commits_are turns;
      serial = subst (λ (cs : List Commit). StampsDiffer rank_of_commit cs → IsSerialOrder rank_of_commit cs (commits_at cs places)) commits_are serial;
      pairs = ends.pairs;
      are = subst (λ (rs : List (List ℕ)). ArePairs (map_of_rows (rows_of rs)) ends.pairs) rows_are ends.are;
      lines_are =
          ends.lines
          ∙ ap (λ (ls : List Line). ls ++ map_lines ends.pairs)
          (then ∙ ap (λ (ls : List Line). ls ++ order_lines seen (commits_at seen order)) (head ∙ ap (λ (ls : List Line). ls ++ audited ∷ []) empty)
          ∙ ap (λ (cs : List Commit). audited ∷ order_lines cs (commits_at cs order)) seen_are
          ∙ ap (λ (ps : List ℕ). audited ∷ order_lines found.commits.items (commits_at found.commits.items ps)) order_is);
    }

module _ (same_map : (a b : Rows) → SameRows a b → IsSound a → map_of_rows a ≡ map_of_rows b) where
  map_is : (s t : State) → SameState s t → IsSound t.rows → map_of_rows t.rows ≡ map_of_rows s.rows
  map_is s t same sound = same_map t.rows s.rows (λ oid few. sym (same.rows oid few)) sound

  pub recovery_told : (told : Option (List Step)) (found : Recovered) (lines : List Line) → RecoveredTold sound_law.meets told found → IsSound (state_recovered found).rows
      → TellsRecovery (state_recovered found) lines → IfSome told (λ steps. IsRecovery steps lines)
  recovery_told None found lines is sound tells = tt
  recovery_told (Some steps) found lines is sound tells =
      let one = is.1 in
      let state = state_behind (base is.0) one.blocks in
      record {
        pair = is.0;
        blocks = one.blocks;
        recovers = one.recovers;
        tells = record {
          pairs = tells.pairs;
          are = subst (λ (m : Database). ArePairs m tells.pairs) (map_is state (state_recovered found) one.state sound) tells.are;
          lines_are =
              tells.lines_are
              ∙ ap (λ at. line.Recovered at found.run ∷ map_lines tells.pairs) (sym one.state.at)
              ∙ ap (λ run. line.Recovered state.at run ∷ map_lines tells.pairs) (sym one.state.run);
        };
      }

  pub audit_told : (told : Option (List Step)) (found : Recovered) (lines : List Line) → RecoveredTold sound_law.meets told found → IsSound (state_recovered found).rows
      → TellsAudit found.base (state_recovered found) found.commits.items lines → IfSome told (λ steps. IsAudit steps lines)
  audit_told None found lines is sound tells = tt
  audit_told (Some steps) found lines is sound tells =
      let one = is.1 in
      let start = base is.0 in
      let state = state_behind start one.blocks in
      let order = commits_at found.commits.items tells.places in
      let differ : StampsDiffer rank_of_commit (commits_of one.blocks) = chain_stamps_differ sound_law.meets (end_at (contents steps) start) one.blocks one.recovers.list.chain in
      let serial : IsSerialOrder rank_of_commit found.commits.items order =
      tells.serial (subst (λ (commits : List Commit). StampsDiffer rank_of_commit commits) (sym one.commits) differ) in
      record {
        pair = is.0;
        blocks = one.blocks;
        recovers = one.recovers;
        order = order;
        serial = subst (λ (commits : List Commit). IsSerialOrder rank_of_commit commits order) one.commits serial;
        pairs = tells.pairs;
        are = subst (λ (m : Database). ArePairs m tells.pairs) (map_is state (state_recovered found) one.state sound) tells.are;
        lines_are =
            tells.lines_are
            ∙ ap (λ (from : ℕ). line.Audited from found.stamp found.run ∷ (order_lines found.commits.items order ++ map_lines tells.pairs)) one.base_is
            ∙ ap (λ (at : ℕ). line.Audited start.at at found.run ∷ (order_lines found.commits.items order ++ map_lines tells.pairs)) (sym one.state.at)
            ∙ ap (λ (run : ℕ). line.Audited start.at state.at run ∷ (order_lines found.commits.items order ++ map_lines tells.pairs)) (sym one.state.run)
            ∙ ap (λ (commits : List Commit). line.Audited start.at state.at state.run ∷ (order_lines commits order ++ map_lines tells.pairs)) one.commits;
      }
