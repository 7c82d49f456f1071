-- What a call on other paths leaves of a queue.
use Rattle.std.proofs.Common.{◌≡◌, ℕ, ◌<◌, ◌≤◌, List, ◌∙◌, inl, inr, arith}
use Rattle.raft_log_fs.specs.Disk.{Disk}
use Rattle.raft_log_file_writer.specs.LogQueue.{LogFiles, HoldsLast, IsLeftover}
use Rattle.raft_log_fs.specs.Touching.{TouchesOnlyNames}
use Rattle.raft_log_active_file.proofs.Public.{stands_elsewhere}
use Rattle.raft_log_active_file.specs.Layout.{path_of}
use Rattle.raft_log_active_file.specs.Rotation.{StandsWithRecords}
use Rattle.raft_log_active_file.specs.LastFile.{IsActiveTo}
use Rattle.raft_log_file_pipe.specs.Files.{Listed, IsKeptForUse, IsPipe}
use Rattle.raft_log_file_pipe.specs.declared.pipe_files.PipeFiles.{PipeFiles}
use Rattle.raft_log_file_pipe.proofs.Public.{kept_all, kept_is_own, span_end, span_moved}
use Rattle.raft_log_dual_pipes.specs.Queues.{QueueLayout, IsQueueLayout}
use Rattle.raft_log_dual_pipes.specs.State.{Spanned, RunsQueue, HoldsQueue, IsStopped}
use Rattle.raft_log_dual_pipes.specs.Steps.{OtherQueueStays}

module _ {R : Type 0} (layout : QueueLayout R) (told : IsQueueLayout layout) (theirs : List ℕ → Type 0) (old new : Disk) (apart : (path : List ℕ) → layout.own path → theirs path → ⊥) (only : TouchesOnlyNames theirs old new) where
  -- the paths of the queue's numbers name what they named
  pub name_stays : (m : ℕ) (path : List ℕ) → m < layout.format.limit → layout.format.IsPath m path → new.names path ≡ old.names path
  name_stays m path less at = only.names path (apart path (told.lawful.owns m path less at))

  pub kept_stays : (first : ℕ) (g : Listed) → first ≤ layout.format.limit → IsKeptForUse layout.format layout.paths first old g → IsKeptForUse layout.format layout.paths first new g
  kept_stays first g most is =
      let mine = kept_is_own layout.format layout.own layout.paths told.lawful first old g is most in
      let usable = is.usable in
      record {
        named = only.names (path_of layout.paths g) (apart (path_of layout.paths g) mine) ∙ is.named;
        below = is.below;
        small = is.small;
        usable = record {
          file = usable.file;
          is = only.files (path_of layout.paths g) g.handle.file (apart (path_of layout.paths g) mine) is.named ∙ usable.is;
          has = usable.has;
        };
      }

  pub pipe_stays : (base : Disk) (files : PipeFiles) (q : LogFiles R) → IsPipe layout.format layout.own layout.paths base files q old → IsPipe layout.format layout.own layout.paths new files q new
  pipe_stays base files q is =
      let stands = is.active.stands in
      let bound = stands.bound in
      let ends = span_end layout.paths old.names files.first_seq q.last files.earlier.items is.span in
      record {
        active = record {
          permitted = is.active.permitted;
          written = is.active.written;
          stands = stands_elsewhere layout.format layout.own base told.lawful.owns theirs apart q (path_of layout.paths files.active) files.writer.handle.file (IsActiveTo layout.format files.writer.capacity q) old.names old new only stands;
        };
        number = is.number;
        listed = is.listed;
        header = is.header;
        handle = is.handle;
        span = span_moved layout.paths old.names new.names files.first_seq q.last files.earlier.items (λ directory n from less.
            (let small : n < layout.format.limit = omega (arith, less, bound) in name_stays n (layout.paths.numbered directory n) small (told.lawful.numbered directory n small))) is.span;
        kept = kept_all layout.format layout.paths files.first_seq files.first_seq old new files.recycled.items (λ g kept. kept_stays files.first_seq g (omega (arith, ends, bound)) kept) is.kept;
      }

  pub runs_stay : (files : PipeFiles) (q : Spanned R) → RunsQueue layout files q old → RunsQueue layout files q new
  runs_stay files q runs = record { first = runs.first; pipe = pipe_stays old files q.files runs.pipe }

  pub left_stays : (base : Disk) (q : LogFiles R) → StandsWithRecords layout.format layout.own base q old → StandsWithRecords layout.format layout.own new q new
  left_stays base q left = record {
    path = left.path;
    id = left.id;
    N = new.names;
    stands = stands_elsewhere layout.format layout.own base told.lawful.owns theirs apart q left.path left.id (HoldsLast layout.format q) left.N old new only left.stands;
  }

  pub stopped_stays : (q : LogFiles R) → IsStopped layout q old → IsStopped layout q new
  stopped_stays q left = record {
    path = left.path;
    id = left.id;
    N = new.names;
    stands = stands_elsewhere layout.format layout.own old told.lawful.owns theirs apart q left.path left.id (IsLeftover layout.format q) left.N old new only left.stands;
  }

  pub holds_stay : (q : LogFiles R) → HoldsQueue layout q old → HoldsQueue layout q new
  holds_stay q held = elim held [ inl left ↦ inl (left_stays old q left) | inr stopped ↦ inr (stopped_stays q stopped) ]

pub other_queue_stays : {R : Type 0} (layout : QueueLayout R) (theirs : List ℕ → Type 0) → OtherQueueStays layout theirs
other_queue_stays layout theirs told apart old new only = record {
  runs = λ files q runs. runs_stay layout told theirs old new apart only files q runs;
  holds = λ q held. holds_stay layout told theirs old new apart only q.files held;
}
