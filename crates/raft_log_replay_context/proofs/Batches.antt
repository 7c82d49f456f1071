-- Batches that a context has read, as its records say it.
use Rattle.std.proofs.Common.{◌≡◌, ◌+◌, ◌-◌, ◌^◌, arith, List, [], ◌∷◌, ◌++◌, Option, Some, None, refl, sym, subst, ◌∙◌}
use Rattle.std.specs.Prelude.{min}
use Rattle.std.proofs.lemmas.List.Sums.{sum_by-append, sum_by_push}
use Rattle.raft_log_record_base.specs.declared.errors.Error.{Error}
use Rattle.raft_log_record_base.specs.declared.errors.Error.TheVariants as errors
use Rattle.raft_log_record_base.specs.declared.pipe_log.FileId.{FileId}
use Rattle.raft_log_record_base.specs.declared.pipe_log.LogQueue.{LogQueue}
use Rattle.raft_log_record_items.specs.declared.item.LogItem.{LogItem}
use Rattle.raft_log_replay.specs.Machines.{batch_in, Batch, DeclinesBatch, DeclinesLater, JoinsLater, TakesBatch}
use Rattle.raft_log_replay_context.specs.declared.context.MemTableRecoverContext.{MemTableRecoverContext}
use Rattle.raft_log_replay_context.specs.Records.{record_read, ReadRecord}
use Rattle.raft_log_replay_context.specs.Context.{written_to, HasRead, MergesInto, ContextReadsOn, ContextReadsOne}
use Rattle.raft_log_replay_context.specs.Written.{written_in}
use Rattle.raft_log_replay_context.specs.Batches.{StayApart, AreRecordsRead, Declines, HasReadBatches, IsBatchDeclined, MergeDeclined, ReplayDeclined}

told_both : (queue : LogQueue) (bs cs : List Batch) (rs ss : List ReadRecord) → AreRecordsRead queue bs rs → AreRecordsRead queue cs ss → AreRecordsRead queue (bs ++ cs) (rs ++ ss)
told_both queue [] cs [] ss h k = k
told_both queue [] cs (r ∷ rs) ss h k = absurd h
told_both queue (b ∷ bs) cs [] ss h k = absurd h
told_both queue (b ∷ bs) cs (r ∷ rs) ss h k = (h.0, told_both queue bs cs rs ss h.1 k)

one_read : (queue : LogQueue) (o : Option ReadRecord) (old new : MemTableRecoverContext) → ContextReadsOne queue o old new → (rs : List ReadRecord) → HasRead queue rs old
    → (r : ReadRecord) × (o ≡ Some r) × HasRead queue (rs ++ r ∷ []) new
one_read queue None old new reads rs h = absurd reads
one_read queue (Some r) old new reads rs h = (r, refl, reads rs h)

pub takes_batch : (file : FileId) (items : List LogItem) (old new : MemTableRecoverContext) → ContextReadsOn file items old new → written_to new ≡ min (written_to old + written_in items) (2 ^ 64 - 1)
    → TakesBatch HasReadBatches file items old new
takes_batch file items old new reads more before h =
    let one = one_read file.queue (record_read file.queue file.seq items) old new reads h.records h.read in
    record {
      records = h.records ++ one.0 ∷ [];
      told = told_both file.queue before (batch_in file items ∷ []) h.records (one.0 ∷ []) h.told (one.1, tt);
      read = one.2;
      written = let all = sum_by_push (λ b. written_in b.items) before (batch_in file items) in omega (arith, more, h.written, all);
    }

pub joins_later : (queue : LogQueue) (old later new : MemTableRecoverContext) → MergesInto queue old later new → written_to new ≡ min (written_to old + written_to later) (2 ^ 64 - 1)
    → JoinsLater (HasReadBatches queue) old later new
joins_later queue old later new merges more xs ys h k = record {
  records = h.records ++ k.records;
  told = told_both queue xs ys h.records k.records h.told k.told;
  read = merges h.records k.records h.read k.read;
  written = let all = sum_by-append (λ b. written_in b.items) xs ys in omega (arith, more, h.written, k.written, all);
}

abbrev IsAbsent : Option ReadRecord → Type 0
IsAbsent None = Unit {0}
IsAbsent (Some r) = ⊥

none_read : (queue : LogQueue) (bs : List Batch) (b : Batch) (ss : List ReadRecord) → record_read queue b.file b.items ≡ None → AreRecordsRead queue (bs ++ b ∷ []) ss → ⊥
none_read queue [] b [] is k = k
none_read queue [] b (s ∷ ss) is k = subst IsAbsent (sym is ∙ k.0) tt
none_read queue (c ∷ bs) b [] is k = k
none_read queue (c ∷ bs) b (s ∷ ss) is k = none_read queue bs b ss is k.1

declines_of : (queue : LogQueue) (bs : List Batch) (b : Batch) (rs : List ReadRecord) → AreRecordsRead queue bs rs → (o : Option ReadRecord) → record_read queue b.file b.items ≡ o
    → (e : Error) → IsBatchDeclined rs o e → Declines queue (bs ++ b ∷ []) e
declines_of queue bs b rs told None is errors.Hole d = absurd d
declines_of queue bs b rs told (Some r) is errors.Hole d =
    record { records = rs ++ r ∷ []; told = told_both queue bs (b ∷ []) rs (r ∷ []) told (is, tt); disorder = d }
declines_of queue bs b rs told o is (errors.Corruption text) d = (λ ss k. none_read queue bs b ss (is ∙ d.0) k, d.1)
declines_of queue bs b rs told o is errors.Memory d = tt
declines_of queue bs b rs told o is _ d = absurd d

pub declines_batch : (file : FileId) (items : List LogItem) (old : MemTableRecoverContext) (e : Error) → ReplayDeclined file items old e
    → DeclinesBatch HasReadBatches Declines file items old e
declines_batch file items old e declined before h =
    declines_of file.queue before (batch_in file items) h.records h.told (record_read file.queue file.seq items) refl e (declined h.records h.read)

disorderly : (queue : LogQueue) (bs : List Batch) (rs : List ReadRecord) → AreRecordsRead queue bs rs → (e : Error) → StayApart rs e → Declines queue bs e
disorderly queue bs rs told errors.Hole d = record { records = rs; told = told; disorder = d }
disorderly queue bs rs told errors.Memory d = tt
disorderly queue bs rs told _ d = absurd d

pub declines_later : (queue : LogQueue) (old later : MemTableRecoverContext) (e : Error) → MergeDeclined queue old later e
    → DeclinesLater (HasReadBatches queue) (Declines queue) old later e
declines_later queue old later e declined xs ys h k =
    disorderly queue (xs ++ ys) (h.records ++ k.records) (told_both queue xs ys h.records k.records h.told k.told) e (declined h.records k.records h.read k.read)
