-- The pipes of a log are closed.
use Rattle.std.proofs.Common.{◌≡◌, ℕ, Some, None, List, refl, sym, ◌∙◌, subst, inl, inr, arith}
use Rattle.raft_log_model_laws.specs.Item.{Record}
use Rattle.raft_log_model_laws.specs.Groups.{Map, taken}
use Rattle.raft_log_fs.specs.Disk.{Disk}
use Rattle.raft_log_file_writer.specs.LogQueue.{LogFiles}
use Rattle.raft_log_active_file.specs.Queue.{settled}
use Rattle.raft_log_active_file.proofs.Public.{takes_numbered_steps}
use Rattle.raft_log_active_file.specs.Rotation.{StandsWithRecords}
use Rattle.raft_log_fs.specs.Touching.{TouchesOnlyNames}
use Rattle.raft_log_file_pipe.specs.Files.{Listed}
use Rattle.raft_log_file_pipe.specs.Closing.{AreBelow, IsSettledBy, LeavesClosed, StaysLeft}
use Rattle.raft_log_file_pipe.specs.declared.pipe_files.PipeFiles.{PipeFiles}
use Rattle.raft_log_file_pipe.proofs.Public.{pipe_below, pipe_below_first}
use Rattle.raft_log_machine_laws.specs.Model.{Files}
use Rattle.raft_log_machine_laws.specs.Calls.{Which, LeavesOut, Settles, FailsWhole, from_at, queue_at, put}
use Rattle.raft_log_machine_laws.specs.Calls.Which.{InAppend, InRewrite}
use Rattle.raft_log_machine_laws.specs.Log.{View, IsAt}
use Rattle.raft_log_machine_laws.proofs.Public.{append_left_out, rewrite_left_out}
use Rattle.raft_log_dual_pipes.specs.Queues.{QueueLayout, TwoQueues, AreTwoQueues, layout_at}
use Rattle.raft_log_dual_pipes.specs.State.{LogOnDisk, Pipes, spanned_at, RunsQueue, Run, Ties}
use Rattle.raft_log_dual_pipes.specs.Turning.{in_span}
use Rattle.raft_log_dual_pipes.specs.Quiet.{QuietTo}
use Rattle.raft_log_dual_pipes.specs.Steps.{next_log}
use Rattle.raft_log_dual_pipes.specs.OpenOrClosed.{OpenPipes, none_open, both_open, with_open, IsOpenOrClosed, LeavesQueue}
use Rattle.raft_log_dual_pipes.specs.Closing.{LeftAt, IsOrIsSettled, ClosesBeside, CloseIsAStep, NamesAreReserved, LiesClosed, LiesSettled, ClosedLogIsALog, SettledLogIsALog}
use Rattle.raft_log_dual_pipes.proofs.Aside.{left_stays}
use Rattle.raft_log_dual_pipes.proofs.Lifts.{told_at, tie_at}
use Rattle.raft_log_dual_pipes.proofs.Numbers.{quiet_same, quiet_settles, none_pending}
use Rattle.raft_log_dual_pipes.proofs.RefusedStep.{left_rebased}
use Rattle.raft_log_dual_pipes.proofs.OtherSteps.{put_same}
use Rattle.raft_log_dual_pipes.proofs.BesideSteps.{left_there, listed_there, tied}
use Rattle.raft_log_dual_pipes.proofs.ClosedQueues.{lies_at, lies_span, runs_at, leaves, ties_leave, back}
use Rattle.raft_log_dual_pipes.proofs.Spans.{there_moved}

module _ {R E V : Type 0} (log : TwoQueues R E V) (two : AreTwoQueues log) (which : Which) (o : OpenPipes) (files : PipeFiles) (s : LogOnDisk R) (is : IsOpenOrClosed log (with_open which o (Some files)) s) where
  abbrev layout : QueueLayout R
  layout = layout_at which log

  abbrev q : LogFiles R
  q = (spanned_at which s).files

  runs : RunsQueue layout files (spanned_at which s) s.disk
  runs = runs_at log two which o files s is

  -- the queue is held, behind quiet events
  quiet_left : (next : LogFiles R) (new : Disk) → StandsWithRecords layout.format layout.own s.disk next new → QuietTo log.says layout.format (spanned_at which s).first q s.disk next new → LeavesOut (Ties log) which s (next_log which s next new)
  quiet_left next new left quiet f ties =
      let (a, then) = quiet (from_at which f) (queue_at which f) (tie_at log two which s f ties) in
      (a, tied log two which o files s is (in_span (spanned_at which s) next) new f a.from a.queue left.stands.others ties then)

  closed : (new : Disk) → LeavesClosed layout.format layout.own layout.paths files s.disk new
      → LeavesQueue log which o None s new (λ next. IsOrIsSettled q next × LeftAt log which new next) (LeavesOut (Ties log) which)
  closed new closes =
      let (held, gaps, span) = closes s.disk q runs.pipe in elim held [
        | inl left ↦ (
          q,
          (inl refl, left_rebased layout s.disk q new left),
          left_there log two which o files s is (in_span (spanned_at which s) q) new left (listed_there log two which o files s is files (spanned_at which s).first q new runs.first left span),
          quiet_left q new left (quiet_same log.says layout.format (spanned_at which s).first q q s.disk new refl refl refl refl gaps),
        )
        | inr left ↦ (
          settled q,
          (inr refl, left_rebased layout s.disk (settled q) new left),
          left_there log two which o files s is (in_span (spanned_at which s) (settled q)) new left (listed_there log two which o files s is files (spanned_at which s).first (settled q) new runs.first left span),
          quiet_left (settled q) new left (quiet_settles log.says layout.format (spanned_at which s).first q s.disk new gaps),
        )
      ]

  all_settled : (new : Disk) → IsSettledBy layout.format layout.own layout.paths files s.disk new
      → LeavesQueue log which o None s new (λ next. (next ≡ settled q) × LeftAt log which new next) (Settles (Ties log) which)
  all_settled new settles =
      let (left, gaps, span) = settles s.disk q runs.pipe in
      let quiet = quiet_settles log.says layout.format (spanned_at which s).first q s.disk new gaps in (
        settled q,
        (refl, left_rebased layout s.disk (settled q) new left),
        left_there log two which o files s is (in_span (spanned_at which s) (settled q)) new left (listed_there log two which o files s is files (spanned_at which s).first (settled q) new runs.first left span),
        λ f ties.
            (let (a, then) = quiet (from_at which f) (queue_at which f) (tie_at log two which s f ties) in
            (a, none_pending log.says layout.format (spanned_at which s).first (settled q) a.from new a.queue refl then, tied log two which o files s is (in_span (spanned_at which s) (settled q)) new f a.from a.queue left.stands.others ties then)),
      )

  -- and no other path was touched
  pub closes_touch : (new : Disk) → LeavesClosed layout.format layout.own layout.paths files s.disk new → TouchesOnlyNames layout.own s.disk new
  closes_touch new closes = elim (closes s.disk q runs.pipe).0 [ inl left ↦ left.stands.others | inr left ↦ left.stands.others ]

  closes_beside : ClosesBeside log which o files s
  closes_beside = record {
    closes = closed;
    settles = all_settled;
    below = pipe_below layout.format layout.own layout.paths (told_at log two which).lawful s.disk files q s.disk runs.pipe;
    below_first = subst (λ (n : ℕ). AreBelow n files.recycled.items) runs.first (pipe_below_first layout.format layout.own layout.paths (told_at log two which).lawful s.disk files q s.disk runs.pipe);
  }

pub close_is_a_step : {R E V : Type 0} (log : TwoQueues R E V) → CloseIsAStep log
close_is_a_step log two which o files s is = closes_beside log two which o files s is

pub names_are_reserved : {R E V : Type 0} (log : TwoQueues R E V) → NamesAreReserved log
names_are_reserved log two which o kept s new is left below below_first stays =
    let layout = layout_at which log in
    let q = (spanned_at which s).files in
    let (then, gaps, stay) = stays s.disk q below left in
    let bound = then.stands.bound in
    let first = (spanned_at which s).first in
    let there = there_moved layout first q.last s.disk new (omega (arith, bound)) (stay first below_first) (lies_span layout (told_at log two which) (spanned_at which s) s.disk (lies_at log two which o s is)) in (
      left_rebased layout s.disk q new then,
      leaves log two which o None None s (in_span (spanned_at which s) q) new is then.stands.others (inl (inl (left_rebased layout s.disk q new then), there)),
      λ f ties.
          put_same log which f (Ties log (next_log which s q new))
          (ties_leave log two which o None s (in_span (spanned_at which s) q) new f (from_at which f) (queue_at which f) is then.stands.others ties
          ((takes_numbered_steps log.says layout.format q (from_at which f) (spanned_at which s).first s.disk (queue_at which f) (tie_at log two which s f ties)).elsewhere new gaps)),
    )

-- Both pipes.

-- the queue that is held has the same last number
below_still : {R : Type 0} (q next : LogFiles R) (fs : List Listed) → IsOrIsSettled q next → AreBelow q.last fs → AreBelow next.last fs
below_still {R} q next fs is below = elim is [
  | inl same ↦ subst (λ (x : LogFiles R). AreBelow x.last fs) (sym same) below
  | inr same ↦ subst (λ (x : LogFiles R). AreBelow x.last fs) (sym same) below
]

-- a queue whose last file was finished is held
held_settled : {R : Type 0} (l : QueueLayout R) (files : PipeFiles) (old new : Disk) → IsSettledBy l.format l.own l.paths files old new → LeavesClosed l.format l.own l.paths files old new
held_settled l files old new settles base q is = (let (left, gaps, span) = settles base q is in (inr left, gaps, span))

-- what is said of a queue that is settled is said of one that is left
left_settled : {R E V : Type 0} (log : TwoQueues R E V) (which : Which) (s t : LogOnDisk R) → Settles (Ties log) which s t → LeavesOut (Ties log) which s t
left_settled log which s t settles f ties = (let (moved, none, then) = settles f ties in (moved, then))

module _ {R E V : Type 0} (log : TwoQueues R E V) (two : AreTwoQueues log) (p : Pipes) (s : LogOnDisk R) (run : Run log p s) (one mid three new : Disk) (names_append : StaysLeft log.append.format log.append.own p.append.recycled.items mid three) (names_rewrite : StaysLeft log.rewrite.format log.rewrite.own p.rewrite.recycled.items three new) where
  abbrev second_open : OpenPipes
  second_open = record { append = None; rewrite = Some p.rewrite }

  began : IsOpenOrClosed log (both_open p) s
  began = record { append = run.append; rewrite = run.rewrite }

  -- the log once the first queue came to these files, and once both did
  abbrev s1 : LogFiles R → LogOnDisk R
  s1 a = next_log InAppend s a one

  abbrev s2 : LogFiles R → LogFiles R → LogOnDisk R
  s2 a r = next_log InRewrite (s1 a) r mid

  -- what is true of the files stays so
  same_view : (s t : LogOnDisk R) (v : View E V) (m : Map E V) (pending : List (Record E V)) → FailsWhole (Ties log) (Ties log) s t → IsAt (Ties log s) v m pending → IsAt (Ties log t) v m pending
  same_view s t v m pending call at = record { files = at.files; stands = at.stands; there = call at.files at.there }

  -- Both last files were finished or not, which left each queue these files; then the files kept for use were
  -- renamed.
  closed_from : (a r : LogFiles R) → IsOrIsSettled s.append.files a → LeftAt log InAppend one a → IsOpenOrClosed log second_open (s1 a) → LeavesOut (Ties log) InAppend s (s1 a) → LeavesClosed log.rewrite.format log.rewrite.own log.rewrite.paths p.rewrite one mid
      → IsOrIsSettled s.rewrite.files r → LeftAt log InRewrite mid r → IsOpenOrClosed log none_open (s2 a r) → LeavesOut (Ties log) InRewrite (s1 a) (s2 a r) → (lies : LiesClosed log s new) × (lies.append ≡ a) × (lies.rewrite ≡ r)
  closed_from a r a_is a_left one_stands one_ties finished r_is r_left two_stands two_ties =
      let first = close_is_a_step log two InAppend (both_open p) p.append s began in
      let second = close_is_a_step log two InRewrite second_open p.rewrite (s1 a) one_stands in
      let only_two = closes_touch log two InRewrite second_open p.rewrite (s1 a) one_stands mid finished in
      let a_two : LeftAt log InAppend mid a = left_stays log.append two.append log.rewrite.own one mid two.apart only_two one a a_left in
      let a_below = below_still s.append.files a p.append.recycled.items a_is first.below in
      let (a_three, three_stands, three_ties) = names_are_reserved log two InAppend none_open p.append.recycled.items (s2 a r) three two_stands a_two a_below first.below_first names_append in
      let s3 : LogOnDisk R = next_log InAppend (s2 a r) a three in
      let only_three = (names_append mid a a_below a_two).0.stands.others in
      let r_three : LeftAt log InRewrite three r = left_stays log.rewrite two.rewrite log.append.own mid three (back log two) only_three mid r r_left in
      let r_below = below_still s.rewrite.files r p.rewrite.recycled.items r_is second.below in
      let (r_four, four_stands, four_ties) = names_are_reserved log two InRewrite none_open p.rewrite.recycled.items s3 new three_stands r_three r_below second.below_first names_rewrite in
      let s4 : LogOnDisk R = next_log InRewrite s3 r new in
      let lies : LiesClosed log s new = record {
        append = a;
        rewrite = r;
        append_is = a_is;
        rewrite_is = r_is;
        lies = four_stands;
        moves = λ f ties.
            (let (m, one_next) = one_ties f ties in
            let g : Files E V = put InAppend f m.from m.queue in
            let (n, two_next) = two_ties g one_next in
            let h : Files E V = put InRewrite g n.from n.queue in
            (m, n, four_ties h (three_ties h two_next)));
        ends = λ v m pending at.
            (let ends = append_left_out (Ties log) (Ties log) s (s1 a) v m pending at one_ties in
            let then = rewrite_left_out (Ties log) (Ties log) (s1 a) (s2 a r) v (taken m ends.done) ends.rest ends.at two_ties in
            record {
              done = ends.done;
              rest = ends.rest;
              splits = ends.splits;
              at = same_view s3 s4 v (taken m ends.done) ends.rest four_ties (same_view (s2 a r) s3 v (taken m ends.done) ends.rest three_ties then);
            });
      } in
      (lies, refl, refl)

  pub closed_both : LeavesClosed log.append.format log.append.own log.append.paths p.append s.disk one → LeavesClosed log.rewrite.format log.rewrite.own log.rewrite.paths p.rewrite one mid → LiesClosed log s new
  closed_both append rewrite =
      let first = close_is_a_step log two InAppend (both_open p) p.append s began in
      let (a, (a_is, a_left), one_stands, one_ties) = first.closes one append in
      let second = close_is_a_step log two InRewrite second_open p.rewrite (s1 a) one_stands in
      let (r, (r_is, r_left), two_stands, two_ties) = second.closes mid rewrite in
      (closed_from a r a_is a_left one_stands one_ties rewrite r_is r_left two_stands two_ties).0

  pub settled_both : IsSettledBy log.append.format log.append.own log.append.paths p.append s.disk one → IsSettledBy log.rewrite.format log.rewrite.own log.rewrite.paths p.rewrite one mid → LiesSettled log s new
  settled_both append rewrite =
      let first = close_is_a_step log two InAppend (both_open p) p.append s began in
      let (a, (a_is, a_left), one_stands, one_ties) = first.settles one append in
      let second = close_is_a_step log two InRewrite second_open p.rewrite (s1 a) one_stands in
      let (r, (r_is, r_left), two_stands, two_ties) = second.settles mid rewrite in
      let (lies, append_is, rewrite_is) = closed_from a r (inr a_is) a_left one_stands (left_settled log InAppend s (s1 a) one_ties) (held_settled log.rewrite p.rewrite one mid rewrite) (inr r_is) r_left two_stands (left_settled log InRewrite (s1 a) (s2 a r) two_ties) in
      record { closed = lies; append_is = append_is ∙ a_is; rewrite_is = rewrite_is ∙ r_is }

pub closed_log_is_a_log : {R E V : Type 0} (log : TwoQueues R E V) → ClosedLogIsALog log
closed_log_is_a_log log two p s new run calls = closed_both log two p s run calls.one calls.two calls.three new calls.append_names calls.rewrite_names calls.append calls.rewrite

pub settled_log_is_a_log : {R E V : Type 0} (log : TwoQueues R E V) → SettledLogIsALog log
settled_log_is_a_log log two p s new run calls = settled_both log two p s run calls.one calls.two calls.three new calls.append_names calls.rewrite_names calls.append calls.rewrite
