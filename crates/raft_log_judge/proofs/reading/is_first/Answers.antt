use Rattle.std.proofs.Common.{◌↔◌, ℕ, Option, arith, subst, sym}
use Rattle.std.specs.Prelude.{IsTrue}
use Rattle.raft_log_world.specs.Reads.{IsFirstIndex}
use Rattle.raft_log_judge.specs.Contents.{after_all}
use Rattle.raft_log_judge.proofs.Supporting.{to_not}
use Rattle.raft_log_judge.proofs.reading.is_first.Goals as goal

pub returns-else-entry_is_none : goal.returns-else-entry_is_none
returns-else-entry_is_none c =
    subst (λ (index : Option ℕ). IsTrue c.has_none.result ↔ IsFirstIndex (after_all c.args.batches.now) c.args.group index) (sym c.in-Some.is) (
      λ yes. (λ none. to_not c.entry_is_none.result c.if-entry_is_none.false (c.entry_is_none.ensures.1 none), c.has_none.ensures.0 yes),
      λ is. c.has_none.ensures.1 is.1,
    )

pub returns-in-None : goal.returns-in-None
returns-in-None c =
    subst (λ (index : Option ℕ). IsTrue c.has_none-in-None.result ↔ IsFirstIndex (after_all c.args.batches.now) c.args.group index) (sym c.in-None.is) (
      λ yes i. c.has_none-in-None.ensures.0 yes i (omega arith) tt,
      λ none. c.has_none-in-None.ensures.1 (λ i low before. none i),
    )
