use Rattle.std.proofs.Common.{◌≡◌, List, ℕ, ◌*◌, drop, ap, sym, ◌∙◌, append_assoc}
use Rattle.std.specs.Int.{w64, to_be_bytes}
use Rattle.std.proofs.lemmas.List.{drop-drop}
use Rattle.raft_log_record_base.specs.Number.{u64_bytes}
use Rattle.raft_log_record_frames.specs.Record.{header_bytes}
use Rattle.raft_log_record_frames.proofs.record.write_header.Goals as goal

pub returns : goal.returns
unfolding header_bytes u64_bytes
returns c =
    let first : c.copy_from_slice.new.self ≡ to_be_bytes w64 (256 * c.args.len) = c.copy_from_slice.ensures.after ∙ c.to_be_bytes.ensures in
    let second : c.copy_from_slice-2.new.self ≡ to_be_bytes w64 c.args.offset = c.copy_from_slice-2.ensures.after ∙ c.to_be_bytes-2.ensures in
    let rest : c.split_at_mut-second.result.1.now ≡ drop 16 c.args.bytes.now =
    c.split_at_mut-second.ensures.back ∙ ap (λ (l : List ℕ). drop 8 l) c.split_at_mut-first.ensures.back ∙ drop-drop 8 8 c.args.bytes.now in
    rw (first, second, rest) (sym (append_assoc (to_be_bytes w64 (256 * c.args.len)) (to_be_bytes w64 c.args.offset) (drop 16 c.args.bytes.now)))
