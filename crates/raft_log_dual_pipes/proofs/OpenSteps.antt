-- A pipe is opened over what was found of its queue, seen from both queues.
use Rattle.std.proofs.Common.{◌≡◌, ℕ, ◌-◌, ◌<◌, ◌≤◌, suc, Option, Some, None, List, [], ◌∷◌, ◌++◌, length, refl, sym, ◌∙◌, ap, subst, inl, inr, arith, length-append}
use Rattle.std.proofs.lemmas.Bool.{cases_eq, cases_lt}
use Rattle.raft_log_model_laws.specs.Item.{Record}
use Rattle.raft_log_machine_laws.specs.Files.{FileQueue}
use Rattle.raft_log_fs.specs.Disk.{File, Disk}
use Rattle.raft_log_file_writer.specs.LogFormat.{HasHeader}
use Rattle.raft_log_fs.specs.Image.{IsSound}
use Rattle.raft_log_file_writer.specs.KeepsSynced.{kept_records}
use Rattle.raft_log_file_writer.specs.LogQueue.{Past, LogFiles, recent, IsLeftover, IsAbsent}
use Rattle.raft_log_fs.specs.Touching.{HasFile, TouchesOnlyNames}
use Rattle.raft_log_fs.proofs.Public.{names_same}
use Rattle.raft_log_record_base.specs.declared.errors.Error.{Error}
use Rattle.raft_log_record_base.specs.declared.errors.Error.TheVariants as errors
use Rattle.raft_log_file_format.specs.Header.{header_bytes}
use Rattle.raft_log_active_file.specs.Queue.{with_room}
use Rattle.raft_log_active_file.specs.Beginning.{fresh_queue}
use Rattle.raft_log_active_file.specs.Bridge.{IsFileQueue}
use Rattle.raft_log_active_file.specs.Reopening.{IsReadTo, reread}
use Rattle.raft_log_active_file.specs.Standing.{Names, Stands}
use Rattle.raft_log_active_file.specs.Layout.{FilePaths, path_of}
use Rattle.raft_log_active_file.specs.Opening.{IsHalfBegun}
use Rattle.raft_log_file_pipe.specs.Files.{Listed, IsSpan, AllKept, IsPipe}
use Rattle.raft_log_file_pipe.specs.Opening.{HasOwnHeader, IsFound, IsListedAs, IsListedFirst, BeginsPipe, BeginLeaves, TakesUpFound, TakeUpLeaves, OpensPipe, OpenLeaves, first_number, taken_up}
use Rattle.raft_log_file_pipe.specs.Opening.OpensPipe.{begins, takes_up}
use Rattle.raft_log_file_pipe.specs.Opening.OpenLeaves.{not_begun, not_taken_up}
use Rattle.raft_log_file_pipe.specs.declared.found_files.FoundFiles.{FoundFiles}
use Rattle.raft_log_file_pipe.specs.declared.new_files.NewFiles.{NewFiles}
use Rattle.raft_log_file_pipe.specs.declared.pipe_files.PipeFiles.{PipeFiles}
use Rattle.raft_log_file_pipe.proofs.Public.{kept_all, path_numbered, span_end, span_moved}
use Rattle.raft_log_machine_laws.specs.Calls.{Which}
use Rattle.raft_log_dual_pipes.specs.Queues.{QueueLayout, IsQueueLayout, TwoQueues, AreTwoQueues, layout_at}
use Rattle.raft_log_dual_pipes.specs.State.{Spanned, LogOnDisk, spanned_at, IsStopped, Ties}
use Rattle.raft_log_dual_pipes.specs.Steps.{next_log}
use Rattle.raft_log_dual_pipes.specs.Turning.{in_span}
use Rattle.raft_log_dual_pipes.specs.OpenOrClosed.{IsUnbegun, OpenPipes, with_open, IsOpenOrClosed}
use Rattle.raft_log_dual_pipes.specs.Reopening.{ReadsAgain, AreFound, GoesOnFound, IsFoundOf, found_log, LeavesUnopened, OpensBeside, OpenIsAStep}
use Rattle.raft_log_dual_pipes.specs.Reopening.IsFoundOf.{stopped, unbegun}
use Rattle.raft_log_dual_pipes.proofs.Lifts.{told_at}
use Rattle.raft_log_dual_pipes.proofs.AppendStep.{pipe_rebased}
use Rattle.raft_log_dual_pipes.proofs.RefusedStep.{left_rebased}
use Rattle.raft_log_dual_pipes.proofs.Aside.{name_stays, kept_stays, stopped_stays}
use Rattle.raft_log_dual_pipes.proofs.ClosedQueues.{unbegun_stays, leaves, lies_at, lies_span}
use Rattle.raft_log_dual_pipes.proofs.ReadingAgain.{read_on, all_records}
use Rattle.raft_log_dual_pipes.proofs.Spans.{gap_before, span_is_there, there_within}

-- Lists.

-- a list that ends with something isn't empty
ends_somewhere : {A : Type 0} (xs : List A) (x : A) → xs ++ x ∷ [] ≡ [] → ⊥
ends_somewhere xs x same = (let many = length-append xs (x ∷ []) in omega (arith, many, ap length same))

-- two lists that are the same end with the same
same_ends : {A : Type 0} (xs ys : List A) (x y : A) → xs ++ x ∷ [] ≡ ys ++ y ∷ [] → (xs ≡ ys) × (x ≡ y)
same_ends [] [] x y same = (refl, cc same)
same_ends [] (b ∷ ys) x y same = (let rest : ys ++ y ∷ [] ≡ [] = cc same in absurd (ends_somewhere ys y rest))
same_ends (a ∷ xs) [] x y same = (let rest : xs ++ x ∷ [] ≡ [] = cc same in absurd (ends_somewhere xs x rest))
same_ends {A} (a ∷ xs) (b ∷ ys) x y same =
    let rest : xs ++ x ∷ [] ≡ ys ++ y ∷ [] = cc same in
    let first : a ≡ b = cc same in
    let (all, last) = same_ends xs ys x y rest in
    ((λ i. first i ∷ all i), last)

-- a file of the span has its name
span_there : (paths : FilePaths) (N : Names) (first last m : ℕ) (fs : List Listed) → IsSpan paths N first fs last → first ≤ m → m < last → (directory id : ℕ) × (N (paths.numbered directory m) ≡ Some id)
span_there paths N first last m [] is from less = absurd (omega (arith, is, from, less))
span_there paths N first last m (f ∷ fs) (number, listed, named, rest) from less = elim (cases_eq m first) [
  | inl same ↦
      (let at : m ≡ f.seq = same ∙ sym number in
      (f.path_id, f.handle.file, ap (λ (n : ℕ). N (paths.numbered f.path_id n)) at ∙ ap N (sym (path_numbered paths f listed)) ∙ named))
  | inr apart ↦ span_there paths N (suc first) last m fs rest (omega (arith, from, apart)) less
]

-- the number of the first of them, however the last one is taken up
first_taken : (earlier : List Listed) (end : Option ℕ) (last : Listed) → first_number earlier (taken_up end last) ≡ first_number earlier last
first_taken [] (Some n) last = refl
first_taken [] None last = refl
first_taken (f ∷ fs) end last = refl

-- One queue.

module _ {R : Type 0} (layout : QueueLayout R) (told : IsQueueLayout layout) where
  -- a queue that rests, and was found so
  found_as : (q : LogFiles R) (d : Disk) (found : FoundFiles) (earlier : List Listed) (last : Listed) → IsSound d → IsStopped layout q d → AreFound layout found earlier last q.last d
      → IsFound layout.format layout.own layout.paths d earlier last found.end found.recycled.items q d
  found_as q d found earlier last sound left there =
      let F = layout.format in
      let paths = layout.paths in
      let stands = left.stands in
      let bound = stands.bound in
      let number = there.number_is in
      let at : F.IsPath q.last (path_of paths last) = subst (λ (n : ℕ). F.IsPath n (path_of paths last)) number
      (subst (F.IsPath last.seq) (sym (path_numbered paths last there.listed)) (told.lawful.numbered last.path_id last.seq (omega (arith, bound, number)))) in
      let is_there : left.N (path_of paths last) ≡ Some last.handle.file = ap (λ (f : Names). f (path_of paths last)) (sym stands.names) ∙ there.named in
      let file_is : last.handle.file ≡ left.id = stands.alone (path_of paths last) last.handle.file at is_there in
      let here : d.names left.path ≡ Some left.id = ap (λ (f : Names). f left.path) stands.names ∙ stands.named in
      let path_is : left.path ≡ path_of paths last = sound.one_name left.path (path_of paths last) left.id here (there.named ∙ ap Some file_is) in
      record {
        left = record {
          permitted = there.permitted;
          stands = subst (λ (M : Names). Stands F layout.own d q (path_of paths last) last.handle.file (IsLeftover F q) M d) (sym stands.names)
              (subst (λ (p : List ℕ). Stands F layout.own d q p last.handle.file (IsLeftover F q) left.N d) path_is (subst (λ (n : ℕ). Stands F layout.own d q left.path n (IsLeftover F q) left.N d) (sym file_is) stands));
          read = there.read;
        };
        number = there.number_is;
        listed = there.listed;
        headed = there.headed;
        span = there.span;
        spares = there.spares;
      }

  -- what is found of it goes down no further than to a gap
  found_above : {E V : Type 0} (says : R → Record E V) (q : Spanned R) (d : Disk) (to low : ℕ) (earlier : List Listed) (f : FileQueue E V) → q.files.last < layout.format.limit → IsSpan layout.paths d.names to earlier q.files.last
      → IsFileQueue says layout.format q.files low q.first d f → low ≤ to
  found_above says q d to low earlier f bound span all = elim (cases_lt to low) [
    | inl less ↦
        (let below = all.below in
        let above = all.above in
        let m = low - 1 in
        let small : m < q.files.last = omega (arith, less, below, above) in
        let (directory, id, named) = span_there layout.paths d.names to q.files.last m earlier span (omega (arith, less)) small in
        let gone = all.gap m (omega (arith, less)) (layout.paths.numbered directory m) (told.lawful.numbered directory m (omega (arith, small, bound))) in
        cc (gone, named))
    | inr more ↦ omega (arith, more)
  ]

  -- A call on other paths leaves what was found there.
  module _ (theirs : List ℕ → Type 0) (old new : Disk) (apart : (path : List ℕ) → layout.own path → theirs path → ⊥) (only : TouchesOnlyNames theirs old new) where
    file_stays : (path : List ℕ) (id : ℕ) (P : File → Type 0) → layout.own path → old.names path ≡ Some id → HasFile id P old → HasFile id P new
    file_stays path id P mine named has = record { file = has.file; is = only.files path id (apart path mine) named ∙ has.is; has = has.has }

    header_stays : (end : Option ℕ) (last : Listed) → layout.own (path_of layout.paths last) → old.names (path_of layout.paths last) ≡ Some last.handle.file → HasOwnHeader layout.format end last old → HasOwnHeader layout.format end last new
    header_stays (Some end) last mine named has = file_stays (path_of layout.paths last) last.handle.file (λ file. HasHeader layout.format (header_bytes last.format) file.content) mine named has
    header_stays None last mine named has = tt

    spares_stay : (first : ℕ) (fs : List Listed) → first ≤ layout.format.limit → AllKept layout.format layout.paths first old fs → AllKept layout.format layout.paths first new fs
    spares_stay first fs most are = kept_all layout.format layout.paths first first old new fs (λ g kept. kept_stays layout told theirs old new apart only first g most kept) are

    found_stays_so : (found : FoundFiles) (q : Spanned R) → IsFoundOf layout found q old → IsFoundOf layout found q new
    found_stays_so found q (unbegun none there spares) =
        let limit = told.lawful.limit in
        unbegun none (unbegun_stays layout told theirs old new apart only q there) (spares_stay 1 found.recycled.items (omega (arith, limit)) spares)
    found_stays_so found q (stopped earlier last items left there) =
        let paths = layout.paths in
        let bound = left.stands.bound in
        let number = there.number_is in
        let ends = span_end paths old.names (first_number earlier last) q.files.last earlier there.span in
        let mine : layout.own (path_of paths last) = told.lawful.owns last.seq (path_of paths last) (omega (arith, bound, number))
        (subst (layout.format.IsPath last.seq) (sym (path_numbered paths last there.listed)) (told.lawful.numbered last.path_id last.seq (omega (arith, bound, number)))) in
        stopped earlier last items (stopped_stays layout told theirs old new apart only q.files left) (record {
          number_is = there.number_is;
          listed = there.listed;
          permitted = there.permitted;
          named = only.names (path_of paths last) (apart (path_of paths last) mine) ∙ there.named;
          read = file_stays (path_of paths last) last.handle.file (IsReadTo layout.format q.files.last found.end) mine there.named there.read;
          headed = header_stays found.end last mine there.named there.headed;
          span = span_moved paths old.names new.names (first_number earlier last) q.files.last earlier (λ directory n from less.
              (let small : n < layout.format.limit = omega (arith, less, bound) in name_stays layout told theirs old new apart only n (paths.numbered directory n) small (told.lawful.numbered directory n small))) there.span;
          begins = λ m before path at. name_stays layout told theirs old new apart only m path (omega (arith, before, ends, bound)) at ∙ there.begins m before path at;
          spares = spares_stay (first_number earlier last) found.recycled.items (omega (arith, ends, bound)) there.spares;
        })

pub found_stays : {R : Type 0} (layout : QueueLayout R) (told : IsQueueLayout layout) (theirs : List ℕ → Type 0) (old new : Disk) → ((path : List ℕ) → layout.own path → theirs path → ⊥) → TouchesOnlyNames theirs old new
    → (found : FoundFiles) (q : Spanned R) → IsFoundOf layout found q old → IsFoundOf layout found q new
found_stays layout told theirs old new apart only found q is = found_stays_so layout told theirs old new apart only found q is

-- Both queues.

module _ {R E V : Type 0} (log : TwoQueues R E V) (two : AreTwoQueues log) (which : Which) (o : OpenPipes) (begin : NewFiles) (found : FoundFiles) (s : LogOnDisk R) (sound : IsSound s.disk) (is : IsOpenOrClosed log (with_open which o None) s) where
  abbrev layout : QueueLayout R
  layout = layout_at which log

  abbrev q : Spanned R
  q = spanned_at which s

  told : IsQueueLayout layout
  told = told_at log two which

  abbrev Answered : PipeFiles → Disk → Type 0
  Answered files new = (p : LogFiles R) × GoesOnFound files q.files p × IsOpenOrClosed log (with_open which o (Some files)) (found_log which s files.first_seq p new) × ReadsAgain (Ties log) which s (found_log which s files.first_seq p new)

  abbrev Refused : Disk → Type 0
  Refused new = (p : LogFiles R) × (p.pending ≡ []) × IsOpenOrClosed log (with_open which o None) (next_log which s p new) × ReadsAgain (Ties log) which s (next_log which s p new)

  -- its pipe runs
  runs_found : (files : PipeFiles) (p : LogFiles R) (new : Disk) → IsPipe layout.format layout.own layout.paths s.disk files p new → IsOpenOrClosed log (with_open which o (Some files)) (found_log which s files.first_seq p new)
  runs_found files p new pipe = leaves log two which o None (Some files) s (record { first = files.first_seq; files = p }) new is pipe.active.stands.others (record { first = refl; pipe = pipe_rebased layout s.disk files p new pipe })

  -- no further than the span's first file
  low_first : (low : ℕ) (f : FileQueue E V) → IsFileQueue log.says layout.format q.files low q.first s.disk f → low ≤ q.first
  low_first low f all = (let below = all.below in omega (arith, below))

  -- A queue that a stop left.
  module _ (earlier : List Listed) (last : Listed) (left : IsStopped layout q.files s.disk) (scanned : AreFound layout found earlier last q.files.last s.disk) where
    -- what was found of it begins no later than its span
    under : first_number earlier last ≤ q.first
    under =
        let ends = span_end layout.paths s.disk.names (first_number earlier last) q.files.last earlier scanned.span in
        gap_before layout q s.disk (first_number earlier last) (lies_span layout told q s.disk (lies_at log two which o s is)) (omega (arith, ends)) scanned.begins

    here : IsFound layout.format layout.own layout.paths s.disk earlier last found.end found.recycled.items q.files s.disk
    here = found_as layout told q.files s.disk found earlier last sound left scanned

    taken_so : (files : PipeFiles) (new : Disk) → TakesUpFound layout.format layout.own layout.paths earlier last found.end found.recycled.items files s.disk new → IsListedAs earlier (taken_up found.end last) found.recycled.items files → Answered files new
    taken_so files new takes listed =
        let (room, pipe, gaps, calls) = takes s.disk q.files here in
        let p = with_room room (reread (header_bytes files.active.format) [] q.files) in
        let first : files.first_seq ≡ first_number earlier last = listed.first ∙ first_taken earlier found.end last in
        let bound = left.stands.bound in (
          p,
          record { older = refl; last = refl; header = refl; durable = refl; pending = refl },
          runs_found files p new pipe,
          read_on log two which o None s p files.first_seq (length q.files.pending) new is pipe.active.stands.others gaps
              (λ low f all. (let above = found_above layout told log.says q s.disk (first_number earlier last) low earlier f bound scanned.span all in omega (arith, above, first)))
              (omega (arith, under, first)) refl refl (all_records q.files) refl,
        )

    not_taken : (error : Error) (new : Disk) → TakeUpLeaves layout.format layout.own layout.paths earlier last found.end found.recycled.items error s.disk new → LeavesUnopened log which o s error new
    not_taken errors.Memory new same = same
    not_taken (errors.InvalidArgument text) new (refusal, same) = same
    not_taken (errors.Io kind) new (makes, fails) =
        let (cause, gaps, span, half) = fails s.disk q.files here in
        let (front, stale, on, held, there) = half in
        let p = reread front stale q.files in (
          p,
          refl,
          leaves log two which o None None s (in_span q p) new is there.stands.others (inl (
            inl (left_rebased layout s.disk p new there),
            there_within layout (first_number earlier last) q.first q.files.last q.files.last new under (omega arith) (span_is_there layout told (first_number earlier last) q.files.last earlier new (let bound = left.stands.bound in omega (arith, bound)) span),
          )),
          read_on log two which o None s p q.first (length q.files.pending) new is there.stands.others gaps low_first (omega arith) refl refl (all_records q.files) refl,
        )
    not_taken _ new leaves = absurd leaves

  -- A queue without files.
  module _ (none : IsUnbegun layout q s.disk) (spares : AllKept layout.format layout.paths 1 s.disk found.recycled.items) where
    abbrev older : ℕ → Past R
    older = none.is.0

    -- it has neither numbers nor records
    only_first : q.first ≡ 1
    only_first = ap (λ (x : Spanned R). x.first) none.is.3

    -- the queue that began, or is to begin, is the one that was to begin
    same_queue : (p : LogFiles R) (to : ℕ) (new : Disk) → p.older ≡ older → p.last ≡ 1 → p.durable ≡ [] → p.pending ≡ [] → to ≡ 1 → TouchesOnlyNames layout.own s.disk new → IsAbsent layout.format 0 new → ReadsAgain (Ties log) which s (found_log which s to p new)
    same_queue p to new older_is last_is durable_is pending_is to_is only absent =
        let q_is = none.is.3 in
        let last : q.files.last ≡ 1 = ap (λ (x : Spanned R). x.files.last) q_is in
        let first = only_first in
        let nothing : kept_records q.files.durable q.files.pending 0 ≡ [] = ap (λ (x : Spanned R). kept_records x.files.durable x.files.pending 0) q_is in
        read_on log two which o None s p to 0 new is only
        (λ m less gone. (let zero_is : 0 ≡ m = omega (arith, less, last) in subst (λ (n : ℕ). IsAbsent layout.format n new) zero_is absent))
        (λ low f all. (let below = all.below in omega (arith, below, first, to_is))) (omega (arith, first, to_is))
        (older_is ∙ sym (ap (λ (x : Spanned R). x.files.older) q_is)) (last_is ∙ sym last) (durable_is ∙ sym nothing) pending_is

    begun_so : (files : PipeFiles) (new : Disk) → BeginsPipe layout.format layout.own layout.paths begin.format found.recycled.items files s.disk new → IsListedFirst begin.format found.recycled.items files → Answered files new
    begun_so files new begun listed =
        let (room, pipe, absent, calls) = begun s.disk older (record { fresh = none.fresh; spares = spares }) in
        let p = with_room room (fresh_queue older (header_bytes begin.format)) in
        let q_is = none.is.3 in
        let on : GoesOnFound files q.files p =
        record {
          older = sym (ap (λ (x : Spanned R). x.files.older) q_is);
          last = sym (ap (λ (x : Spanned R). x.files.last) q_is);
          header = ap header_bytes (sym listed.format_is);
          durable = sym (ap (λ (x : Spanned R). recent x.files) q_is);
          pending = refl;
        } in
        (p, on, runs_found files p new pipe, same_queue p files.first_seq new refl refl refl refl listed.first pipe.active.stands.others absent)

    half_so : (new : Disk) → IsHalfBegun layout.format layout.own s.disk (fresh_queue older (header_bytes begin.format)) new → IsAbsent layout.format 0 new → Refused new
    half_so new half absent = elim half [
      | inl fresh ↦
          (let q_is = none.is.3 in (
            q.files,
            ap (λ (x : Spanned R). x.files.pending) q_is,
            leaves log two which o None None s (in_span q q.files) new is fresh.others (inr (record {
              fresh = record { none = fresh.none; places = fresh.places; others = names_same layout.own new };
              is = none.is;
            })),
            same_queue q.files q.first new (ap (λ (x : Spanned R). x.files.older) q_is) (ap (λ (x : Spanned R). x.files.last) q_is) (ap (λ (x : Spanned R). x.files.durable) q_is) (ap (λ (x : Spanned R). x.files.pending) q_is) only_first fresh.others absent,
          ))
      | inr (room, there) ↦
          (let p = with_room room (fresh_queue older (header_bytes begin.format)) in (
            p,
            refl,
            leaves log two which o None None s (in_span q p) new is there.stands.others (inl (inl (left_rebased layout s.disk p new there), λ m from less. (let first = only_first in let small : m < 1 = less in absurd (omega (arith, first, from, small))))),
            same_queue p q.first new refl refl refl refl only_first there.stands.others absent,
          ))
    ]

    not_begun_so : (error : Error) (new : Disk) → BeginLeaves layout.format layout.own layout.paths begin.format found.recycled.items error s.disk new → LeavesUnopened log which o s error new
    not_begun_so errors.Memory new same = same
    not_begun_so (errors.Io kind) new (makes, fails) =
        let (cause, half, absent) = fails s.disk older (record { fresh = none.fresh; spares = spares }) in
        half_so new half absent
    not_begun_so _ new leaves = absurd leaves

  answered : IsFoundOf layout found q s.disk → (files : PipeFiles) (new : Disk) → OpensPipe layout.format layout.own layout.paths begin found files s.disk new → Answered files new
  answered (stopped earlier last items left scanned) files new (takes_up earlier' last' items' takes listed) =
      let (earlier_is, last_is) = same_ends earlier' earlier last' last (sym items' ∙ items) in
      taken_so earlier last left scanned files new
      (subst (λ (x : Listed). TakesUpFound layout.format layout.own layout.paths earlier x found.end found.recycled.items files s.disk new) last_is
      (subst (λ (xs : List Listed). TakesUpFound layout.format layout.own layout.paths xs last' found.end found.recycled.items files s.disk new) earlier_is takes))
      (subst (λ (x : Listed). IsListedAs earlier (taken_up found.end x) found.recycled.items files) last_is
      (subst (λ (xs : List Listed). IsListedAs xs (taken_up found.end last') found.recycled.items files) earlier_is listed))
  answered (stopped earlier last items left scanned) files new (begins none begun listed) = absurd (ends_somewhere earlier last (sym items ∙ none))
  answered (unbegun none there spares) files new (takes_up earlier last items takes listed) = absurd (ends_somewhere earlier last (sym items ∙ none))
  answered (unbegun none there spares) files new (begins none' begun listed) = begun_so there spares files new begun listed

  refused : IsFoundOf layout found q s.disk → (error : Error) (new : Disk) → OpenLeaves layout.format layout.own layout.paths begin found error s.disk new → LeavesUnopened log which o s error new
  refused (stopped earlier last items left scanned) error new (not_taken_up earlier' last' items' takes) =
      let (earlier_is, last_is) = same_ends earlier' earlier last' last (sym items' ∙ items) in
      not_taken earlier last left scanned error new
      (subst (λ (x : Listed). TakeUpLeaves layout.format layout.own layout.paths earlier x found.end found.recycled.items error s.disk new) last_is
      (subst (λ (xs : List Listed). TakeUpLeaves layout.format layout.own layout.paths xs last' found.end found.recycled.items error s.disk new) earlier_is takes))
  refused (stopped earlier last items left scanned) error new (not_begun none begun) = absurd (ends_somewhere earlier last (sym items ∙ none))
  refused (unbegun none there spares) error new (not_taken_up earlier last items takes) = absurd (ends_somewhere earlier last (sym items ∙ none))
  refused (unbegun none there spares) error new (not_begun none' begun) = not_begun_so there spares error new begun

  -- no other path was touched
  pub opens_touch : IsFoundOf layout found q s.disk → (files : PipeFiles) (new : Disk) → OpensPipe layout.format layout.own layout.paths begin found files s.disk new → TouchesOnlyNames layout.own s.disk new
  opens_touch (stopped earlier last items left scanned) files new (takes_up earlier' last' items' takes listed) =
      let (earlier_is, last_is) = same_ends earlier' earlier last' last (sym items' ∙ items) in
      let mine = subst (λ (x : Listed). TakesUpFound layout.format layout.own layout.paths earlier x found.end found.recycled.items files s.disk new) last_is
      (subst (λ (xs : List Listed). TakesUpFound layout.format layout.own layout.paths xs last' found.end found.recycled.items files s.disk new) earlier_is takes) in
      (mine s.disk q.files (here earlier last left scanned)).1.active.stands.others
  opens_touch (stopped earlier last items left scanned) files new (begins none begun listed) = absurd (ends_somewhere earlier last (sym items ∙ none))
  opens_touch (unbegun none there spares) files new (takes_up earlier last items takes listed) = absurd (ends_somewhere earlier last (sym items ∙ none))
  opens_touch (unbegun none there spares) files new (begins none' begun listed) = (begun s.disk there.is.0 (record { fresh = there.fresh; spares = spares })).1.active.stands.others

  opens_beside : IsFoundOf layout found q s.disk → OpensBeside log which o begin found s
  opens_beside there = record { answered = answered there; refused = refused there }

pub open_is_a_step : {R E V : Type 0} (log : TwoQueues R E V) → OpenIsAStep log
open_is_a_step log two which o begin found s sound is there = opens_beside log two which o begin found s sound is there
