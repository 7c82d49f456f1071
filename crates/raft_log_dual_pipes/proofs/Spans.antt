-- Each number of a queue's span has a file.
use Rattle.std.proofs.Common.{◌≡◌, ℕ, ◌-◌, ◌≤◌, suc, List, [], ◌∷◌, sym, ◌∙◌, ap, subst, inl, inr, arith}
use Rattle.std.proofs.lemmas.Bool.{cases_eq, cases_lt}
use Rattle.raft_log_fs.specs.Disk.{Disk}
use Rattle.raft_log_file_writer.specs.LogQueue.{IsAbsent}
use Rattle.raft_log_active_file.specs.Standing.{Names}
use Rattle.raft_log_active_file.specs.Layout.{path_of}
use Rattle.raft_log_file_pipe.specs.Closing.{NumbersStay}
use Rattle.raft_log_file_pipe.specs.Files.{Listed, IsSpan}
use Rattle.raft_log_file_pipe.specs.declared.pipe_files.PipeFiles.{PipeFiles}
use Rattle.raft_log_file_pipe.proofs.Public.{path_numbered}
use Rattle.raft_log_dual_pipes.specs.Queues.{QueueLayout, IsQueueLayout}
use Rattle.raft_log_dual_pipes.specs.State.{Spanned, RunsQueue, AreThere, HasSpan}

module _ {R : Type 0} (layout : QueueLayout R) where
  -- fewer of them are there too
  pub there_within : (a b stop end : ℕ) (d : Disk) → a ≤ b → stop ≤ end → AreThere layout.format a end d → AreThere layout.format b stop d
  there_within a b stop end d more fewer are m from less = are m (omega (arith, from, more)) (omega (arith, less, fewer))

  -- and on a disk with the same names
  pub there_same : (first end : ℕ) (old new : Disk) → new.names ≡ old.names → AreThere layout.format first end old → AreThere layout.format first end new
  there_same first end old new same are m from less =
      (let there = are m from less in record { path = there.path; at = there.at; id = there.id; named = ap (λ (N : Names). N there.path) same ∙ there.named })

  -- or where theirs are the same
  pub there_moved : (first end : ℕ) (old new : Disk) → end ≤ layout.format.limit → NumbersStay layout.format first old new → AreThere layout.format first end old → AreThere layout.format first end new
  there_moved first end old new most stay are m from less =
      (let there = are m from less in record { path = there.path; at = there.at; id = there.id; named = stay m there.path from (omega (arith, less, most)) there.at ∙ there.named })

  -- what begins behind a gap begins no later than the span
  pub gap_before : (q : Spanned R) (d : Disk) (to : ℕ) → HasSpan layout.format q d → to ≤ q.files.last → ((m : ℕ) → suc m ≡ to → IsAbsent layout.format m d) → to ≤ q.first
  gap_before q d to are within gap = elim (cases_lt q.first to) [
    | inl less ↦
        (let m = to - 1 in
        let there = are m (omega (arith, less)) (omega (arith, less, within)) in
        let none = gap m (omega (arith, less)) there.path there.at in
        let named = there.named in
        cc (none, named))
    | inr more ↦ omega (arith, more)
  ]

  module _ (told : IsQueueLayout layout) where
    -- the files that a pipe lists
    pub span_is_there : (first last : ℕ) (fs : List Listed) (d : Disk) → last ≤ layout.format.limit → IsSpan layout.paths d.names first fs last → AreThere layout.format first last d
    span_is_there first last [] d most is m from less = absurd (omega (arith, is, from, less))
    span_is_there first last (f ∷ fs) d most (number, listed, named, rest) m from less = elim (cases_eq m first) [
      | inl same ↦
          (let number_is : f.seq ≡ m = number ∙ sym same in
          record {
            path = path_of layout.paths f;
            at = subst (λ (n : ℕ). layout.format.IsPath n (path_of layout.paths f)) number_is
                (subst (layout.format.IsPath f.seq) (sym (path_numbered layout.paths f listed)) (told.lawful.numbered f.path_id f.seq (omega (arith, number_is, less, most))));
            id = f.handle.file;
            named = named;
          })
      | inr apart ↦ span_is_there (suc first) last fs d most rest m (omega (arith, from, apart)) less
    ]

    pub runs_span : (files : PipeFiles) (q : Spanned R) (d : Disk) → RunsQueue layout files q d → HasSpan layout.format q d
    runs_span files q d runs =
        let bound = runs.pipe.active.stands.bound in
        subst (λ (n : ℕ). AreThere layout.format n q.files.last d) runs.first (span_is_there files.first_seq q.files.last files.earlier.items d (omega (arith, bound)) runs.pipe.span)
