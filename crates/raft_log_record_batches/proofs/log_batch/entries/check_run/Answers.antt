use Rattle.std.proofs.Common.{◌≡◌, ◌≢◌, ℕ, ◌++◌, length, map, arith, ap, sym, ◌∙◌, append_assoc, codes}
use Rattle.std.specs.Fmt.{decimal}
use Rattle.std.proofs.lemmas.Bool.{ne_eqb, cond-false}
use Rattle.std.proofs.lemmas.List.{length-map}
use Rattle.raft_log_record_items.specs.declared.entry.EntryIndex.{EntryIndex}
use Rattle.raft_log_record_batches.specs.Entries.{run_refusal}
use Rattle.raft_log_record_batches.proofs.log_batch.entries.check_run.Goals as goal

-- the text is told from left to right, and written from right to left
told : (n m : ℕ) → (n ≡ m → ⊥) → decimal n ++ (codes " indexes for " ++ (decimal m ++ codes " entries")) ≡ run_refusal n m
told n m other =
    sym (cond-false _ _ _ (ne_eqb n m other) ∙ append_assoc (decimal n ++ codes " indexes for ") (decimal m) (codes " entries")
    ∙ append_assoc (decimal n) (codes " indexes for ") (decimal m ++ codes " entries"))

pub returns-then-indexes-count-clause-errors : goal.returns-then-indexes-count-clause-errors
returns-then-indexes-count-clause-errors c =
    let given : ℕ = length c.args.entries.now in
    let count : length (map (λ (e : EntryIndex). e.index) c.args.entries.now) ≡ given = length-map c.args.entries.now (λ (e : EntryIndex). e.index) in
    let other : given ≢ c.args.count = λ p. omega (arith, p, c.if-indexes-count.true) in (
      λ p. other (sym count ∙ p.0),
      c.in_ok-format.ensures.ok ∙ told given c.args.count other ∙ ap (λ (n : ℕ). run_refusal n c.args.count) (sym count),
    )
