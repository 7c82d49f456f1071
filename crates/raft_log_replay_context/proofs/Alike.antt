-- Two contexts that have read the same batches.
use Rattle.std.proofs.Common.{◌≡◌, ℕ, suc, List, [], ◌∷◌, length, Option, Some, refl, sym, ap, ap₂, subst, ◌∙◌, arith}
use Rattle.raft_log_record_base.specs.declared.pipe_log.LogQueue.{LogQueue}
use Rattle.raft_log_model_laws.specs.Table.{content}
use Rattle.raft_log_memtable_index.specs.Replayed.{standing}
use Rattle.raft_log_memtable_index.proofs.Public.{same_content}
use Rattle.raft_log_memtable.specs.Replays.{in_append}
use Rattle.raft_log_memtables.specs.Tables.{replayed_of}
use Rattle.raft_log_memtables.proofs.Public.{table_is}
use Rattle.raft_log_replay.specs.Machines.{Batch}
use Rattle.raft_log_replay.specs.Sources.{HoldEach}
use Rattle.raft_log_replay.specs.Segments.{all_batches, HasReadSegments, HaveReadSame, HoldsOne}
use Rattle.raft_log_replay_context.specs.declared.context.MemTableRecoverContext.{MemTableRecoverContext}
use Rattle.raft_log_replay_context.specs.Records.{counted, record_read, ReadRecord}
use Rattle.raft_log_replay_context.specs.Context.{HasRead}
use Rattle.raft_log_replay_context.specs.Batches.{AreRecordsRead, HasReadBatches, HaveReadAlike}

-- what the segments hold
module _ {E : Type 0} (holds : ℕ → List Batch → E → Type 0) (one : HoldsOne holds) where
  same_held : (k : ℕ) (bss css : List (List Batch)) (es fs : List E) → HoldEach holds k bss es → HoldEach holds k css fs → length bss ≡ length css
      → (bss ≡ css) × (es ≡ fs)
  same_held k [] [] [] [] h l same = (refl, refl)
  same_held k [] [] [] (f ∷ fs) h l same = absurd l
  same_held k [] [] (e ∷ es) fs h l same = absurd h
  same_held k [] (cs ∷ css) es fs h l same = absurd (omega arith)
  same_held k (bs ∷ bss) [] es fs h l same = absurd (omega arith)
  same_held k (bs ∷ bss) (cs ∷ css) [] fs h l same = absurd h
  same_held k (bs ∷ bss) (cs ∷ css) (e ∷ es) [] h l same = absurd l
  same_held k (bs ∷ bss) (cs ∷ css) (e ∷ es) (f ∷ fs) h l same =
      let first = one k bs cs e f h.0 l.0 in
      let rest = same_held (suc k) bss css es fs h.1 l.1 (omega arith) in
      (ap₂ (λ x xs. x ∷ xs) first.0 rest.0, ap₂ (λ x xs. x ∷ xs) first.1 rest.1)

  pub both_read : {M : Type 0} (reads : List Batch → M → Type 0) (count : ℕ) (m n : M) (es fs : List E) → HasReadSegments holds reads 0 count m es
      → HasReadSegments holds reads 0 count n fs → HaveReadSame reads m es n fs
  both_read reads count m n es fs h k =
      let all = h.all in
      let more = k.all in
      let both = same_held 0 h.batches k.batches es fs h.held k.held (omega arith) in
      ((all_batches h.batches, h.read, subst (λ bss. reads (all_batches bss) n) (sym both.0) k.read), both.1)

one_record : (o : Option ReadRecord) (r q : ReadRecord) → o ≡ Some r → o ≡ Some q → r ≡ q
one_record o r q h k = cc

same_records : (queue : LogQueue) (bs : List Batch) (rs qs : List ReadRecord) → AreRecordsRead queue bs rs → AreRecordsRead queue bs qs → rs ≡ qs
same_records queue [] [] [] h k = refl
same_records queue [] [] (q ∷ qs) h k = absurd k
same_records queue [] (r ∷ rs) qs h k = absurd h
same_records queue (b ∷ bs) [] qs h k = absurd h
same_records queue (b ∷ bs) (r ∷ rs) [] h k = absurd k
same_records queue (b ∷ bs) (r ∷ rs) (q ∷ qs) h k =
    ap₂ (λ x xs. x ∷ xs) (one_record (record_read queue b.file b.items) r q h.0 k.0) (same_records queue bs rs qs h.1 k.1)

pub read_alike : (queue : LogQueue) (bs : List Batch) (m n : MemTableRecoverContext) → HasReadBatches queue bs m → HasReadBatches queue bs n → HaveReadAlike queue m n
read_alike queue bs m n h k =
    let second = subst (λ rs. HasRead queue rs n) (sym (same_records queue bs h.records k.records h.told k.told)) k.read in
    record {
      records = h.records;
      first = h.read;
      second = second;
      shows = λ o g s.
          ap (λ v. content (standing v) s) (sym (table_is m.tables g))
          ∙ same_content (in_append queue) (counted g h.records) (replayed_of m.tables g) (replayed_of n.tables g)
          (h.read.tables o.tidy g (o.healthy g)) (second.tables o.tidy g (o.healthy g)) s
          ∙ ap (λ v. content (standing v) s) (table_is n.tables g);
      counting = λ o g. h.read.counting o.tidy g (o.healthy g) ∙ sym (second.counting o.tidy g (o.healthy g));
    }
