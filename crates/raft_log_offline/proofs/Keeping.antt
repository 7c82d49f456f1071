-- What is kept of runs, one behind the other.
use Rattle.std.proofs.Common.{◌≡◌, ℕ, ◌+◌, ◌==◌, Bool, true, false, if◌then◌else◌, nat_lt, List, [], ◌∷◌, ◌++◌, length, take, get_or, ◌<◌, Option, Some, None, refl, sym, ap, ap₂, ◌∙◌, arith, append_assoc, append-nil}
use Rattle.std.proofs.lemmas.List.{take_more}
use Rattle.std.proofs.lemmas.Grind.{flat_map-append}
use Rattle.std.specs.Option.{option_or}
use Rattle.raft_log_record_items.specs.declared.item.LogItem.{LogItem}
use Rattle.raft_log_replay.specs.Machines.{Batch, batch_in}
use Rattle.raft_log_record_base.specs.declared.pipe_log.FileId.{FileId}
use Rattle.raft_log_record_base.specs.declared.pipe_log.LogQueue.{LogQueue}
use Rattle.raft_log_offline.specs.declared.group_runs.GroupRuns.{GroupRuns}
use Rattle.raft_log_offline.specs.declared.checker.ConsistencyChecker.{ConsistencyChecker}
use Rattle.raft_log_offline.specs.Runs.{Run, finding, leaves_hole, run_of_content, run_of_item, runs_in, runs_of}
use Rattle.raft_log_offline.specs.Kept.{FollowsAll, KeepsRuns, TakesItem, TakesRuns, both_kept, kept, kept_of, last_end}
use Rattle.raft_log_offline.proofs.Holes.{some_is}

or_none : (b : Bool) (a : ℕ) (o : Option ℕ) → (if b then Some a else o) ≡ option_or (if b then Some a else None) o
or_none true a o = refl
or_none false a o = refl

or_deep : (b : Bool) (a : ℕ) (o p : Option ℕ) → (if b then Some a else option_or o p) ≡ option_or (if b then Some a else o) p
or_deep true a o p = refl
or_deep false a o p = refl

last_joined : (x : Run) (xs : List Run) (y : Run) (ys : List Run) → last_end x (xs ++ y ∷ ys) ≡ last_end y ys
last_joined x [] y ys = refl
last_joined x (z ∷ zs) y ys = last_joined z zs y ys

-- the finding of runs that stand behind others
finding_joined : (x : Run) (xs : List Run) (y : Run) (ys : List Run)
    → finding (x ∷ xs ++ y ∷ ys) ≡ option_or (finding (x ∷ xs)) (option_or (if nat_lt (last_end x xs + 1) y.first then Some (last_end x xs) else None) (finding (y ∷ ys)))
finding_joined x [] y ys = or_none (leaves_hole x y) x.last (finding (y ∷ ys))
finding_joined x (z ∷ zs) y ys =
    ap (λ o. if leaves_hole x z then Some x.last else o) (finding_joined z zs y ys)
    ∙ or_deep (leaves_hole x z) x.last (finding (z ∷ zs)) (option_or (if nat_lt (last_end z zs + 1) y.first then Some (last_end z zs) else None) (finding (y ∷ ys)))

pub nothing_behind : (o : Option GroupRuns) → both_kept o None ≡ o
nothing_behind None = refl
nothing_behind (Some k) = refl

pub kept_joined : (xs ys : List Run) → kept (xs ++ ys) ≡ both_kept (kept xs) (kept ys)
kept_joined [] ys = refl
kept_joined (x ∷ xs) [] = ap (λ rs. kept (x ∷ rs)) (append-nil xs)
kept_joined (x ∷ xs) (y ∷ ys) =
    ap₂ (λ end hole. Some (record { first = x.first; last = end; hole_after = hole })) (last_joined x xs y ys) (finding_joined x xs y ys)

-- One item.

pub equal_if : (a b : ℕ) → (a == b) ≡ true → a ≡ b
equal_if a b h = grind (arith, h)

none_kept : (runs : List Run) → kept runs ≡ None → runs ≡ []
none_kept [] none = refl
none_kept (run ∷ runs) none = some_is (sym none)

runs_more : (g : ℕ) (items : List LogItem) (item : LogItem) → runs_in g (items ++ item ∷ []) ≡ runs_in g items ++ run_of_item g item
runs_more g items item = flat_map-append (run_of_item g) items (item ∷ []) ∙ ap (λ rs. runs_in g items ++ rs) (append-nil (run_of_item g item))

kept_more : (before : List Run) (g : ℕ) (items : List LogItem) (item : LogItem)
    → kept (before ++ runs_in g (items ++ item ∷ [])) ≡ both_kept (kept (before ++ runs_in g items)) (kept (run_of_item g item))
kept_more before g items item =
    ap (λ rs. kept (before ++ rs)) (runs_more g items item)
    ∙ ap kept (sym (append_assoc before (runs_in g items) (run_of_item g item)))
    ∙ kept_joined (before ++ runs_in g items) (run_of_item g item)

pub takes_none : (old : ConsistencyChecker) → TakesRuns [] old old
takes_none old g before h = h ∙ ap kept (sym (append-nil before))

either : (b : Bool) (rs : List Run) → rs ≡ [] → (if b then rs else []) ≡ []
either true rs h = h
either false rs h = refl

-- an item without a run changes nothing
pub passes_item : (now : ConsistencyChecker) (item : LogItem) → kept (run_of_content item.content) ≡ None → TakesItem item now now
passes_item now item none g =
    sym (nothing_behind (kept_of now g))
    ∙ ap (λ o. both_kept (kept_of now g) o) (sym (ap kept (either (item.raft_group_id == g) (run_of_content item.content) (none_kept (run_of_content item.content) none))))

-- one more item is taken
pub takes_more : (old now next : ConsistencyChecker) (items : List LogItem) (i : ℕ) (d item : LogItem) → i < length items → item ≡ get_or items i d → TakesRuns (take i items) old now
    → TakesItem item now next → TakesRuns (take (i + 1) items) old next
takes_more old now next items i d item inside is h more g before kept_so =
    more g ∙ ap (λ o. both_kept o (kept (run_of_item g item))) (h g before kept_so) ∙ sym (kept_more before g (take i items) item)
    ∙ ap (λ xs. kept (before ++ runs_in g xs)) (ap (λ (x : LogItem). take i items ++ x ∷ []) is ∙ sym (take_more items i d inside))

-- Batches.

batch_more : (g : ℕ) (bs : List Batch) (file : FileId) (items : List LogItem) → runs_of g (bs ++ batch_in file items ∷ []) ≡ runs_of g bs ++ runs_in g items
batch_more g bs file items = flat_map-append (λ (b : Batch). runs_in g b.items) bs (batch_in file items ∷ []) ∙ ap (λ rs. runs_of g bs ++ rs) (append-nil (runs_in g items))

-- a batch is read behind others
pub reads_batch : (queue : LogQueue) (bs : List Batch) (file : FileId) (items taken : List LogItem) (old new : ConsistencyChecker) → taken ≡ items → TakesRuns taken old new
    → KeepsRuns queue bs old → KeepsRuns queue (bs ++ batch_in file items ∷ []) new
reads_batch queue bs file items taken old new same takes is g =
    takes g (runs_of g bs) (is g) ∙ ap (λ xs. kept (runs_of g bs ++ runs_in g xs)) same ∙ ap kept (sym (batch_more g bs file items))

-- batches are read behind others
pub reads_later : (queue : LogQueue) (xs ys : List Batch) (old later new : ConsistencyChecker) → FollowsAll old later new → KeepsRuns queue xs old → KeepsRuns queue ys later
    → KeepsRuns queue (xs ++ ys) new
reads_later queue xs ys old later new follows is next g =
    follows g ∙ ap₂ both_kept (is g) (next g) ∙ sym (kept_joined (runs_of g xs) (runs_of g ys))
    ∙ ap kept (sym (flat_map-append (λ (b : Batch). runs_in g b.items) xs ys))
