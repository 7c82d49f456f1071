use Rattle.raft_log_file_format.proofs.name.parse_seq_before.Goals as goal

-- src/name.rt:68:9
pub returns-then-has_suffix : goal.returns-then-has_suffix
returns-then-has_suffix c n =
    let suffix = c.has_suffix.ensures.0 c.if-has_suffix.true in
    ((λ same. ((c.parse_seq.ensures n).0 same, suffix)), λ named. (c.parse_seq.ensures n).1 named.0)
