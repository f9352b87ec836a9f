-- The sessions that workers left in their jobs.
use Rattle.std.proofs.Common.{◌≡◌, ℕ, ◌++◌, List, length, get_or, ap, ◌∙◌, take, drop, arith}
use Rattle.std.specs.List.{All}
use Rattle.std.proofs.lemmas.List.Elements.{All-same}
use Rattle.std.proofs.lemmas.Option.{slice_get-get_or}
use Rattle.erm_world.specs.World.{View}
use Rattle.erm_threads.specs.declared.job.Job.{Job}
use Rattle.erm_threads.specs.Work.{AllWorked}
use Rattle.erm_run_beside.proofs.More.{put_back}

-- each stands, in the vector in whose place they were put
pub left_standing : {S T : Type 0} (stands : S → Type 0) (seat : S → ℕ) (own : S → View) (ends : S → View → Type 0) (n : ℕ) (js ys back : List (Job S T)) → js ≡ ys → length back ≡ length js
    → n ≡ length ys → AllWorked stands seat own ends js back → All (λ j. stands j.session) (take n (back ++ drop (length back) ys))
left_standing {S} {T} stands seat own ends n js ys back same long full worked =
    let is : Job S T → Type 0 = λ j. stands j.session in
    All-same is (take n (back ++ drop (length back) ys)) back (put_back n back ys (long ∙ ap (λ (l : List (Job S T)). length l) same) full)
    (λ k d less. (worked k (get_or js k d) (get_or back k d) (slice_get-get_or js k d (omega (arith, less, long))) (slice_get-get_or back k d less)).stands_so)
