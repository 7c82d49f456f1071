-- What a write makes of a content that begins with a chain.
use Rattle.std.proofs.Common.{◌≡◌, ℕ, ◌+◌, ◌-◌, ◌≤◌, List, [], ◌∷◌, ◌++◌, length, take, drop, refl, sym, ◌∙◌, ap, arith}
use Rattle.std.proofs.lemmas.List.{append-nil, append_assoc, drop-append-le, drop-take, length-take-le, take-append-le, take_at}
use Rattle.raft_log_fs.specs.Disk.{grown, zeros, overwritten}
use Rattle.raft_log_file_writer.specs.LawsChains.{Written, IsSelfDelimiting, spelled, BeginsWith}
use Rattle.raft_log_file_writer.specs.KeepsSynced.{ChainGrows}
use Rattle.raft_log_fs.proofs.Public.{overwritten_some}
use Rattle.raft_log_file_writer.proofs.LawsChainLaws.{frame_filled, frames_append, spelled-append}

module _ {R : Type 0} (IsFrame : List ℕ → R → Type 0) (free : IsSelfDelimiting IsFrame) (start : ℕ) where
  -- a record written at the chain's end is the next one, whatever stood there
  pub begins_written : (ws : List (Written R)) (w : Written R) (content : List ℕ) → IsFrame w.bytes w.value → start + length (spelled ws) ≤ length content → BeginsWith IsFrame start ws content
      → BeginsWith IsFrame start (ws ++ w ∷ []) (overwritten (start + length (spelled ws)) w.bytes content)
  begins_written ws w content framed within begins =
      let n = length (spelled ws) in
      let at = start + n in
      let room : List ℕ = grown (at + length w.bytes) content in
      let back : List ℕ = drop (at + length w.bytes) room in
      let front : take at room ≡ take at content = take-append-le at content (zeros (at + length w.bytes - length content)) within in
      let long : length (take at room) ≡ at = ap length front ∙ length-take-le at content within in
      let chain : drop start (take at room) ≡ spelled ws =
      ap (λ (b : List ℕ). drop start b) front ∙ drop-take start n content ∙ ap (λ (b : List ℕ). take n b) begins.splits ∙ take_at (spelled ws) begins.rest n refl in
      let both : spelled ws ++ w.bytes ≡ spelled (ws ++ w ∷ []) = ap (λ (b : List ℕ). spelled ws ++ b) (sym (append-nil w.bytes)) ∙ sym (spelled-append ws (w ∷ [])) in
      record {
        rest = back;
        splits = ap (λ (b : List ℕ). drop start b) (overwritten_some at w.bytes content (frame_filled IsFrame free w.bytes w.value framed))
            ∙ drop-append-le start (take at room) (w.bytes ++ back) (omega (arith, long)) ∙ ap (λ (b : List ℕ). b ++ (w.bytes ++ back)) chain
            ∙ sym (append_assoc (spelled ws) w.bytes back) ∙ ap (λ (b : List ℕ). b ++ back) both;
        frames = frames_append IsFrame ws (w ∷ []) begins.frames (framed, tt);
      }

  pub chain_grows : ChainGrows IsFrame start
  chain_grows = begins_written
