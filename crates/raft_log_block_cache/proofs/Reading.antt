-- What a running pipe reads of a block that lies in its queue is what was written there.
use Rattle.std.proofs.Common.{◌≡◌, ℕ, zero, suc, ◌+◌, ◌-◌, ◌<◌, ◌≤◌, Bool, true, false, cond, Some, List, [], ◌∷◌, ◌++◌, length, drop, inl, inr, refl, sym, ap, subst, ◌∙◌, arith, nat_eq}
use Rattle.std.specs.Prelude.{slice_index_or}
use Rattle.std.proofs.lemmas.Bool.{cases_Bool, cases_lt}
use Rattle.std.proofs.lemmas.Bool.Decides.{Decides-eqb}
use Rattle.raft_log_fs.proofs.Public.{same_file}
use Rattle.raft_log_fs.specs.Disk.{File, Disk}
use Rattle.raft_log_fs.specs.declared.handle.Handle.{Handle}
use Rattle.raft_log_file_writer.specs.LogQueue.{LogFiles}
use Rattle.raft_log_record_base.specs.declared.pipe_log.FileBlockHandle.{FileBlockHandle}
use Rattle.raft_log_active_file.specs.Queue.{past_bytes, whole}
use Rattle.raft_log_active_file.specs.Standing.{Names, Stands}
use Rattle.raft_log_active_file.specs.LastFile.{IsActiveTo}
use Rattle.raft_log_active_file.specs.Layout.{FilePaths, path_of}
use Rattle.raft_log_file_pipe.specs.Files.{IsPipe, IsSpan, Listed}
use Rattle.raft_log_file_pipe.specs.Reading.{IsListed, IsReadAt}
use Rattle.raft_log_file_pipe.specs.declared.pipe_files.PipeFiles.{PipeFiles}
use Rattle.raft_log_file_pipe.proofs.Public.{path_numbered, span_end}
use Rattle.raft_log_dual_pipes.specs.Queues.{QueueLayout, IsQueueLayout}
use Rattle.raft_log_dual_pipes.specs.State.{RunsQueue, Spanned}
use Rattle.raft_log_block_cache.specs.Stored.{BlockLiesIn, StoredBlockIsRead, block_at, file_bytes, part}
use Rattle.raft_log_block_cache.proofs.Parts.{part_front}

-- the file in this place of a span: its number, and its name
listed_at : (paths : FilePaths) (N : Names) (first last k : ℕ) (fs : List Listed) (f : Listed) → IsSpan paths N first fs last → k < length fs
    → f ≡ slice_index_or fs k f → (f.seq ≡ first + k) × (f.reserved ≡ false) × (N (path_of paths f) ≡ Some f.handle.file)
listed_at paths N first last k [] f span less is = absurd (omega (arith, less))
listed_at paths N first last zero (g ∷ gs) f (number, reserved, named, rest) less is =
    subst (λ (x : Listed). (x.seq ≡ first + 0) × (x.reserved ≡ false) × (N (path_of paths x) ≡ Some x.handle.file)) (sym is) (omega (arith, number), reserved, named)
listed_at paths N first last (suc k) (g ∷ gs) f (number, reserved, named, rest) less is =
    let (seq, other, path) = listed_at paths N (suc first) last k gs f rest (omega (arith, less)) is in
    (omega (arith, seq), other, path)

-- the file in a place of a span
file_in : (fs : List Listed) (k : ℕ) → k < length fs → (f : Listed) × (f ≡ slice_index_or fs k f)
file_in [] k less = absurd (omega (arith, less))
file_in (f ∷ fs) zero less = (f, refl)
file_in (f ∷ fs) (suc k) less = file_in fs k (omega (arith, less))

bytes_now : {R : Type 0} (q : LogFiles R) (n : ℕ) (b : Bool) → nat_eq n q.last ≡ b → file_bytes q n ≡ cond b (whole q) (past_bytes (q.older n))
bytes_now q n b is = ap (λ (c : Bool). cond c (whole q) (past_bytes (q.older n))) is

is_last : (n last : ℕ) → n ≡ last → nat_eq n last ≡ true
is_last n last is = (Decides-eqb n last).1 is

not_last : (n last : ℕ) → n < last → nat_eq n last ≡ false
not_last n last less = elim (cases_Bool (nat_eq n last)) [
  | inl hit ↦ absurd (let same : n ≡ last = (Decides-eqb n last).0 hit in omega (arith, less, same))
  | inr miss ↦ miss
]

module _ {R : Type 0} (layout : QueueLayout R) (lawful : IsQueueLayout layout) (files : PipeFiles) (q : Spanned R) (d : Disk) (runs : RunsQueue layout files q d) where
  pipe : IsPipe layout.format layout.own layout.paths d files q.files d
  pipe = runs.pipe

  stands : Stands layout.format layout.own d q.files (path_of layout.paths files.active) files.writer.handle.file (IsActiveTo layout.format files.writer.capacity q.files) d.names d
  stands = runs.pipe.active.stands

  -- the last file holds all that was written to it, and maybe more
  last_holds : (n id : ℕ) → n ≡ files.active.seq → id ≡ files.active.handle.file → (file : File) → d.files id ≡ Some file → (more : List ℕ) × (file.content ≡ file_bytes q.files n ++ more)
  last_holds n id number same file there =
      let active = stands.file in
      let one : active.file ≡ file = same_file d files.writer.handle.file active.file file active.is (ap d.files (sym (same ∙ pipe.handle)) ∙ there) in (
        drop (length (whole q.files)) q.files.stale,
        ap (λ (f : File). f.content) (sym one) ∙ active.has.active.all
            ∙ ap (λ (l : List ℕ). l ++ drop (length (whole q.files)) q.files.stale) (sym (bytes_now q.files n true (is_last n q.files.last (number ∙ pipe.number)))),
      )

  -- a file before the last holds what it had when it was finished
  earlier_holds : (n id k : ℕ) (f : Listed) → n ≡ files.first_seq + k → k < length files.earlier.items → f ≡ slice_index_or files.earlier.items k f → id ≡ f.handle.file
      → (file : File) → d.files id ≡ Some file → (more : List ℕ) × (file.content ≡ file_bytes q.files n ++ more)
  earlier_holds n id k f number less at same file there =
      let (seq, reserved, named) = listed_at layout.paths d.names files.first_seq q.files.last k files.earlier.items f pipe.span less at in
      let all = span_end layout.paths d.names files.first_seq q.files.last files.earlier.items pipe.span in
      let is : f.seq ≡ n = omega (arith, seq, number) in
      let below : n < q.files.last = omega (arith, number, less, all) in
      let bound : n < layout.format.limit = omega (arith, below, stands.bound) in
      let path : layout.format.IsPath n (path_of layout.paths f) =
      subst (layout.format.IsPath n) (ap (layout.paths.numbered f.path_id) (sym is) ∙ sym (path_numbered layout.paths f reserved)) (lawful.lawful.numbered f.path_id n bound) in
      let past = stands.older n f.handle.file (path_of layout.paths f) below path named in
      let one : past.file ≡ file = same_file d f.handle.file past.file file past.is (ap d.files (sym same) ∙ there) in (
        [],
        ap (λ (g : File). g.content) (sym one ∙ past.has.is) ∙ sym (bytes_now q.files n false (not_last n q.files.last below)) ∙ sym (append_none (file_bytes q.files n)),
      )
    where
      append_none : (l : List ℕ) → l ++ [] ≡ l
      append_none [] = refl
      append_none (x ∷ xs) = ap (λ (t : List ℕ). x ∷ t) (append_none xs)

  holds : (n id : ℕ) → IsListed n files id → (file : File) → d.files id ≡ Some file → (more : List ℕ) × (file.content ≡ file_bytes q.files n ++ more)
  holds n id (inl (number, same)) file there = last_holds n id number same file there
  holds n id (inr (f, other, from, less, at, same)) file there = earlier_holds n id (n - files.first_seq) f (omega (arith, from)) less at same file there

  -- each number of the span has a file
  pub told_in_span : (n : ℕ) → q.first ≤ n → n ≤ q.files.last → (n ≡ files.active.seq → ⊥) → (files.first_seq ≤ n → n - files.first_seq < length files.earlier.items → ⊥) → ⊥
  told_in_span n from upto other none =
      let all = span_end layout.paths d.names files.first_seq q.files.last files.earlier.items pipe.span in
      let first = runs.first in
      let number = pipe.number in
      elim (cases_lt n q.files.last) [
        | inl less ↦ none (omega (arith, from, first)) (omega (arith, less, all, first, from))
        | inr more ↦ other (omega (arith, upto, more, number))
      ]

  -- which one it is
  pub file_of_number : (n : ℕ) → q.first ≤ n → n ≤ q.files.last → (handle : Handle) × IsListed n files handle.file
  file_of_number n from upto =
      let all = span_end layout.paths d.names files.first_seq q.files.last files.earlier.items pipe.span in
      let first = runs.first in
      let number = pipe.number in
      elim (cases_lt n q.files.last) [
        | inl less ↦
            let (f, is) = file_in files.earlier.items (n - files.first_seq) (omega (arith, less, all, first, from)) in
            (f.handle, inr (f, (λ same. omega (arith, same, less, number)), omega (arith, from, first), omega (arith, less, all, first, from), is, refl))
        | inr more ↦ (files.active.handle, inl (omega (arith, upto, more, number), refl))
      ]

  pub block_is_read : (block : FileBlockHandle) → BlockLiesIn q block.id.seq block.offset block.len → (bytes : List ℕ) → IsReadAt files block bytes d
      → bytes ≡ block_at q.files block.id.seq block.offset block.len
  block_is_read block lies bytes (id, listed, file) =
      let (more, is) = holds block.id.seq id listed file.file file.is in
      file.has ∙ ap (part block.offset block.len) is ∙ part_front block.offset block.len (file_bytes q.files block.id.seq) more lies.inside

pub stored_block_is_read : {R : Type 0} (layout : QueueLayout R) → StoredBlockIsRead layout
stored_block_is_read layout lawful files q d runs block lies bytes read = block_is_read layout lawful files q d runs block lies bytes read
