-- A voter's outline and its entries.
use Rattle.std.proofs.Common.{◌≡◌, ℕ, List, ap, refl}
use Rattle.std.specs.Prelude.{OnErr, Result, Ok, Err}
use Rattle.raft_voter_outline.specs.declared.outline.decision.Write.{Write}
use Rattle.raft_voter_outline.specs.declared.outline.decision.Write.TheVariants.{StateAlone, Entries, CompactTo, Clean}
use Rattle.raft_voter_outline.specs.Outlines.{log_written, without_bytes}
use Rattle.raft_voter_outline.specs.State.{State}
use Rattle.raft_voter.specs.Entries.{IsOutlineOf, laid, with_entries}

-- the outline is that of the voter
pub outline_is :
    (o : State) (log : List (ℕ × List ℕ)) → IsOutlineOf o log → without_bytes (with_entries o log) ≡ o
outline_is o log is = ap (λ (l : List (ℕ × List ℕ)). let w : State = record o { log = l } in w) is.bared

-- what is written depends on the base and the entries alone
pub written-laid :
    (w : Write) (sent : List (ℕ × List ℕ)) (v : State) → log_written w sent (laid v.base_index v.log) ≡ log_written w sent v
written-laid StateAlone sent v = refl
written-laid (Entries skipped index) sent v = refl
written-laid (CompactTo index) sent v = refl
written-laid Clean sent v = refl

-- what holds anyway holds where there is an error
pub on_err : {T E P : Type 0} (r : Result T E) → P → OnErr r P
on_err (Ok x) p = tt
on_err (Err e) p = p
