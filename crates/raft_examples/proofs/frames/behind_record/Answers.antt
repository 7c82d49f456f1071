use Rattle.std.proofs.Common.{ℕ, List, ◌++◌, take, sym, ap, ◌∙◌}
use Rattle.std.proofs.lemmas.List.{take-append-drop}
use Rattle.raft_log_record_frames.proofs.Public.{record_is_read}
use Rattle.raft_examples.proofs.frames.behind_record.Goals as goal

pub split_at-requires : goal.split_at-requires
split_at-requires c = ((record_is_read c.args.signature c.args.bytes.now _).0 c.in_ok-len.ensures.exact).0

pub returns : goal.returns
returns c =
    let bytes : List ℕ = c.args.bytes.now in
    let len : ℕ = c.in_ok-len.len in
    let read = (record_is_read c.args.signature bytes _).0 c.in_ok-len.ensures.exact in
    (take len bytes, c.in_ok-len.field-0-1.items, c.in_ok-len.field-0-2.now, read.1, sym (ap (λ (l : List ℕ). take len bytes ++ l) c.split_at.ensures.back ∙ take-append-drop len bytes))
