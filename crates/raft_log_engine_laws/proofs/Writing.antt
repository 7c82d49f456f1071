-- Parts of an atomic group that don't end it.
use Rattle.std.proofs.Common.{ℕ, List, [], ◌∷◌, map, refl, sym, subst, arith, le_refl}
use Rattle.std.proofs.lemmas.List.{map-append}
use Rattle.raft_log_model_laws.specs.Item.{Tagged}
use Rattle.raft_log_model_laws.specs.Item.Mark.{Begin, Middle}
use Rattle.raft_log_model_laws.specs.Item.Record.{Part}
use Rattle.raft_log_file_writer.specs.LogQueue.{LogFiles}
use Rattle.raft_log_record_base.specs.declared.errors.Error.{Error}
use Rattle.raft_log_record_base.specs.declared.errors.Error.TheVariants as errors
use Rattle.raft_log_record_base.specs.declared.pipe_log.FileBlockHandle.{FileBlockHandle}
use Rattle.raft_log_record_base.specs.declared.pipe_log.LogQueue.TheVariants.{Rewrite}
use Rattle.raft_log_active_file.specs.declared.record.LogRecord.{LogRecord}
use Rattle.raft_log_active_file.specs.Queue.{synced}
use Rattle.raft_log_record_frames.specs.declared.marking.Marking.TheVariants as markings
use Rattle.raft_log_record_frames.specs.declared.status.AtomicGroupStatus.{AtomicGroupStatus}
use Rattle.raft_log_record_frames.specs.declared.status.AtomicGroupStatus.TheVariants as statuses
use Rattle.raft_log_record_frames.specs.Meaning.{part_of}
use Rattle.raft_log_record_batches.specs.Batch.{Batch}
use Rattle.raft_log_block_cache.specs.Signing.{signed_for}
use Rattle.raft_log_machine_laws.specs.Calls.{IsInGroup, LeavesOut, Syncs}
use Rattle.raft_log_machine_laws.specs.Calls.Which.{InRewrite}
use Rattle.raft_log_machine_laws.proofs.Public.{begin_may_be_there, group_begun, group_left_out, middle_answered, middle_may_be_there, sync_settles}
use Rattle.raft_log_block_cache.specs.raft_log_dual_pipes.specs.Crash.{AllowsIn}
use Rattle.raft_log_block_cache.specs.raft_log_dual_pipes.specs.Own.{log_layout}
use Rattle.raft_log_block_cache.specs.raft_log_dual_pipes.specs.Queues.{SaysRecord}
use Rattle.raft_log_block_cache.specs.raft_log_dual_pipes.specs.State.{Ties}
use Rattle.raft_log_block_cache.specs.raft_log_dual_pipes.specs.Steps.{next_log}
use Rattle.raft_log_memtable_index.specs.Noted.{FilesRise}
use Rattle.raft_log_block_cache.specs.Stored.{Each, KeepsLog}
use Rattle.raft_log_block_cache.proofs.Public.{calls_keep_bytes, calls_keep_log, stored_entries_stay}
use Rattle.raft_log_block_cache.specs.raft_log_memtables.specs.Views.{view_of}
use Rattle.raft_log_block_cache.specs.raft_log_dual_pipes.specs.Calls.{AppendsTo, FailsToAppendTo, LeavesOutOn, SyncsQueue}
use Rattle.raft_log_block_cache.specs.raft_log_dual_pipes.specs.Pipes.{RunsOn, State}
use Rattle.raft_log_engine_laws.specs.EngineState.{LogDirectories, LogMap, EngineState, log_in, said_by, sense}
use Rattle.raft_log_engine_laws.specs.Holding.{Represents}
use Rattle.raft_log_engine_laws.proofs.Keeping.{notes_on, rise_on, stays_cached}
use Rattle.raft_log_engine_laws.specs.Rewriting.{RewriteLeaves}
use Rattle.raft_log_engine_laws.specs.Settled.{SameTables}
use Rattle.raft_log_engine_laws.proofs.Rewriting.{left_out_keeps, record_taken, refusal_leaves, says_marked}
use Rattle.raft_log_engine_laws.specs.Parts.{FilesGoUp, HoldsInGroup, IsGroupPart, LiesInRewrite, UnendedGroup, WrittenPart, begun_by, gone_on_by, parts_of, said_items}
use Rattle.raft_log_engine_laws.specs.GroupWriting.{LeavesRecords}
use Rattle.raft_log_engine_laws.proofs.GroupLying.{each_more, later_file, one_more_file, part_lies, parts_stay}

-- its record says the part
pub says_part : (home : LogDirectories) (number : ℕ) (status : AtomicGroupStatus) (b : Batch) → IsGroupPart number status b
    → SaysRecord said_by (log_layout Rewrite home.rewrite) Rewrite (signed_for b) (Part (part_of number status) (said_items b))
says_part home number status b is = says_marked home b (markings.Part number status) (Part (part_of number status) (said_items b)) is.some is.part refl is.says is.laid

-- what the parts behind the first say
abbrev pub said_more : UnendedGroup → List (List (Tagged (List ℕ) (List ℕ)))
said_more o = map (λ p. said_items p.batch) o.more

-- the log's files with the group open
abbrev pub in_group : (home : LogDirectories) (e : EngineState) (m : LogMap) (o : UnendedGroup) (h : HoldsInGroup home e m o)
    → IsInGroup (Ties (log_in home) h.holds.state) (view_of e.tables h.holds.map) m [] o.first.block.id.seq o.number (said_items o.first.batch) (said_more o)
in_group home e m o h = record { files = h.holds.at.files; stands = h.holds.at.stands; there = h.holds.at.there; group = h.unended }

-- A group that stands open in a log with these files of Rewrite, which has what the log had.
module _ (home : LogDirectories) (e t : EngineState) (m : LogMap) (h : Represents home e m []) (same : SameTables e t) (files : LogFiles LogRecord) (keeps : KeepsLog h.state (next_log InRewrite h.state files t.pipes.disk))
    (runs : RunsOn (sense home) t.pipes (next_log InRewrite h.state files t.pipes.disk)) where
  abbrev next : State
  next = next_log InRewrite h.state files t.pipes.disk

  pub stands_open : (o : UnendedGroup) → IsInGroup (Ties (log_in home) next) (view_of e.tables h.map) m [] o.first.block.id.seq o.number (said_items o.first.batch) (said_more o)
      → Each (LiesInRewrite next) (parts_of o) → FilesGoUp o.first.block.id.seq files.last (parts_of o) → ((g : ℕ) → FilesRise h.state.append.files.last o.first.block.id.seq (e.tables g))
      → HoldsInGroup home t m o
  stands_open o g lie up rise =
      let stays = stored_entries_stay h.state next keeps e.tables h.stored in
      subst (λ v. HoldsInGroup home (record t { tables = v }) m o) (sym same.tables) (record {
        holds = record {
          state = next;
          map = h.map;
          runs = runs;
          stored = stays.0;
          rises = rise_on h.state next keeps e.tables h.rises;
          noted = notes_on h.state next keeps e.tables h.noted;
          meant = stays.1 h.map h.meant;
          cached = stays_cached h.state next keeps e.cache t.cache same.cache h.cached;
          at = record { files = g.files; stands = g.stands; there = g.there };
        };
        unended = g.group;
        parts = lie;
        files = up;
        rises = rise;
      })

-- Written.

pub part_begins : (home : LogDirectories) (e t : EngineState) (number : ℕ) (b : Batch) (block : FileBlockHandle) (m : LogMap) → Represents home e m [] → IsGroupPart number statuses.Begin b
    → AppendsTo InRewrite (signed_for b) block e.pipes t.pipes → SameTables e t → HoldsInGroup home t m (begun_by number (record { block = block; batch = b }))
part_begins home e t number b block m h is call same =
    let k = record_taken home e t m h (signed_for b) (Part (Begin number) (said_items b)) block (says_part home number statuses.Begin b is) call in
    let next : State = next_log InRewrite h.state k.files t.pipes.disk in
    let last = k.last.number in
    stands_open home e t m h same k.files k.keeps k.runs (begun_by number (record { block = block; batch = b }))
    (group_begun (Ties (log_in home)) (AllowsIn (log_in home)) h.state next (view_of e.tables h.map) m [] h.at number block.id.seq (said_items b) is.fits k.step)
    (part_lies next k.value block b k.spans is.some is.laid is.says k.last, tt) (le_refl block.id.seq, omega (arith, last))
    (λ g. subst (λ n. FilesRise h.state.append.files.last n (e.tables g)) (sym last) (rise_on h.state next k.keeps e.tables h.rises g))

pub part_goes_on : (home : LogDirectories) (e t : EngineState) (o : UnendedGroup) (b : Batch) (block : FileBlockHandle) (m : LogMap) → HoldsInGroup home e m o → IsGroupPart o.number statuses.Middle b
    → AppendsTo InRewrite (signed_for b) block e.pipes t.pipes → SameTables e t → HoldsInGroup home t m (gone_on_by o (record { block = block; batch = b }))
part_goes_on home e t o b block m h is call same =
    let k = record_taken home e t m h.holds (signed_for b) (Part (Middle o.number) (said_items b)) block (says_part home o.number statuses.Middle b is) call in
    let s = h.holds.state in
    let next : State = next_log InRewrite s k.files t.pipes.disk in
    let p : WrittenPart = record { block = block; batch = b } in
    let last = k.last.number in let later = k.keeps.rewrite.last in
    stands_open home e t m h.holds same k.files k.keeps k.runs (gone_on_by o p)
    (subst (λ l. IsInGroup (Ties (log_in home) next) (view_of e.tables h.holds.map) m [] o.first.block.id.seq o.number (said_items o.first.batch) l) (sym (map-append (λ q. said_items q.batch) o.more (p ∷ [])))
    (middle_answered (Ties (log_in home)) (AllowsIn (log_in home)) s next (view_of e.tables h.holds.map) m o.first.block.id.seq o.number (said_items o.first.batch) (said_more o) [] block.id.seq (said_items b) is.fits k.step
    (in_group home e m o h)))
    (each_more (LiesInRewrite next) (parts_of o) p (parts_stay s next k.keeps (parts_of o) h.parts) (part_lies next k.value block b k.spans is.some is.laid is.says k.last))
    (one_more_file o.first.block.id.seq s.rewrite.files.last k.files.last (parts_of o) p later last h.files) h.rises

-- Refused.

-- nothing was done to the records of Rewrite
pub left_open : (home : LogDirectories) (e t : EngineState) (o : UnendedGroup) (m : LogMap) (h : HoldsInGroup home e m o) → SameTables e t → LeavesOutOn (sense home) InRewrite h.holds.state e.pipes t.pipes → HoldsInGroup home t m o
left_open home e t o m h same call =
    let s = h.holds.state in
    let (files, left, runs, step) = call in
    let next : State = next_log InRewrite s files t.pipes.disk in
    let keeps = calls_keep_log InRewrite s files t.pipes.disk (left_out_keeps s e.pipes files left) in
    let later = keeps.rewrite.last in
    stands_open home e t m h.holds same files keeps runs o
    (group_left_out (Ties (log_in home)) (AllowsIn (log_in home)) s next (view_of e.tables h.holds.map) m o.first.block.id.seq o.number (said_items o.first.batch) (said_more o) [] step (in_group home e m o h))
    (parts_stay s next keeps (parts_of o) h.parts) (later_file o.first.block.id.seq s.rewrite.files.last files.last (parts_of o) later h.files) h.rises

pub part_left_out : (home : LogDirectories) (e t : EngineState) (o : UnendedGroup) (status : AtomicGroupStatus) (b : Batch) (m : LogMap) (error : Error) → HoldsInGroup home e m o → IsGroupPart o.number status b → SameTables e t
    → LeavesRecords error → FailsToAppendTo InRewrite (signed_for b) error e.pipes t.pipes → HoldsInGroup home t m o
part_left_out home e t o status b m errors.NumberRange h is same left call =
    left_open home e t o m h same (call (sense home) h.holds.state (Part (part_of o.number status) (said_items b)) h.holds.runs (says_part home o.number status b is))
part_left_out home e t o status b m errors.Memory h is same left call =
    left_open home e t o m h same (call (sense home) h.holds.state (Part (part_of o.number status) (said_items b)) h.holds.runs (says_part home o.number status b is))
part_left_out home e t o status b m _ h is same left call = absurd left

pub begin_refused : (home : LogDirectories) (e t : EngineState) (number : ℕ) (b : Batch) (m : LogMap) (error : Error) → Represents home e m [] → IsGroupPart number statuses.Begin b → SameTables e t
    → FailsToAppendTo InRewrite (signed_for b) error e.pipes t.pipes → RewriteLeaves home m t error
begin_refused home e t number b m error h is same call =
    refusal_leaves home e t m error h same (signed_for b) (Part (Begin number) (said_items b)) (says_part home number statuses.Begin b is)
    (λ next may. begin_may_be_there (Ties (log_in home)) (Ties (log_in home)) h.state next (view_of e.tables h.map) m [] h.at number (said_items b) is.fits may) call

pub middle_refused : (home : LogDirectories) (e t : EngineState) (o : UnendedGroup) (b : Batch) (m : LogMap) (error : Error) → HoldsInGroup home e m o → IsGroupPart o.number statuses.Middle b → SameTables e t
    → FailsToAppendTo InRewrite (signed_for b) error e.pipes t.pipes → RewriteLeaves home m t error
middle_refused home e t o b m error h is same call =
    refusal_leaves home e t m error h.holds same (signed_for b) (Part (Middle o.number) (said_items b)) (says_part home o.number statuses.Middle b is)
    (λ next may. middle_may_be_there (Ties (log_in home)) (Ties (log_in home)) h.holds.state next (view_of e.tables h.holds.map) m o.first.block.id.seq o.number (said_items o.first.batch) (said_more o) [] (said_items b) is.fits may
    (in_group home e m o h)) call

-- Synced.

-- a sync is a quiet event
quiet_sync : (home : LogDirectories) (s t : State) → Syncs (Ties (log_in home)) InRewrite s t → LeavesOut (Ties (log_in home)) InRewrite s t
quiet_sync home s t call f there = (let at_end = sync_settles (Ties (log_in home)) s t InRewrite call f there in (at_end.0, at_end.2))

pub sync_leaves_open : (home : LogDirectories) (e t : EngineState) (o : UnendedGroup) (m : LogMap) → HoldsInGroup home e m o → SameTables e t → SyncsQueue InRewrite e.pipes t.pipes → HoldsInGroup home t m o
sync_leaves_open home e t o m h same call =
    let s = h.holds.state in
    let files : LogFiles LogRecord = synced s.rewrite.files in
    let (runs, step) = call (sense home) s h.holds.runs in
    let next : State = next_log InRewrite s files t.pipes.disk in
    let keeps = calls_keep_log InRewrite s files t.pipes.disk ((calls_keep_bytes {R = LogRecord}).synced s.rewrite.files) in
    let later = keeps.rewrite.last in
    stands_open home e t m h.holds same files keeps runs o
    (group_left_out (Ties (log_in home)) (AllowsIn (log_in home)) s next (view_of e.tables h.holds.map) m o.first.block.id.seq o.number (said_items o.first.batch) (said_more o) [] (quiet_sync home s next step)
    (in_group home e m o h))
    (parts_stay s next keeps (parts_of o) h.parts) (later_file o.first.block.id.seq s.rewrite.files.last files.last (parts_of o) later h.files) h.rises
