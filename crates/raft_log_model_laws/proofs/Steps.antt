-- Records that Append takes step the map.
use Rattle.std.proofs.Common.{◌≡◌, ℕ, List, ◌++◌, ap, ◌∙◌}
use Rattle.raft_log_model_laws.specs.Item.{Record}
use Rattle.raft_log_model_laws.specs.Meaning.{Slot, directory, after}
use Rattle.raft_log_model_laws.specs.Groups.{Map, appended, rewritten, directory_meaning, taken}
use Rattle.raft_log_model_laws.proofs.Words.{directory_more, after_append}
use Rattle.raft_log_model_laws.proofs.Records.{appended_append}

pub append_step : {E V : Type 0} (g : ℕ) (s : Slot) (rewrite append more : List (Record E V))
    → directory_meaning rewrite (append ++ more) g s ≡ taken (directory_meaning rewrite append) more g s
append_step g s rewrite append more =
    ap (λ xs. directory s (rewritten g rewrite) xs) (appended_append g append more)
    ∙ directory_more s (rewritten g rewrite) (appended g append) (appended g more)

pub taken_append : {E V : Type 0} (m : Map E V) (g : ℕ) (s : Slot) (xs ys : List (Record E V)) → taken m (xs ++ ys) g s ≡ taken (taken m xs) ys g s
taken_append m g s xs ys =
    ap (λ zs. after (m g) zs s) (appended_append g xs ys) ∙ after_append (m g) (appended g xs) (appended g ys) s
