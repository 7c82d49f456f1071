-- What a store answers behind a crash is what the voters owe that answered before it.
use Rattle.std.proofs.Common.{◌≡◌, ℕ, List, subst}
use Rattle.raft_voter_messages.specs.declared.reply.Reply.{Reply}
use Rattle.raft_voter_messages.specs.declared.request.Request.{Request}
use Rattle.raft_voter.specs.Rounds.{World, fresh_world}
use Rattle.raft_voter.specs.Service.{AnswersRound, IsOpenAt, MayFollow, Service, uncut}
use Rattle.raft_voter_world.specs.Stores.{Disk, FindsVoters, LeavesUnder}
use Rattle.raft_crash_examples.specs.Serving.{ServesAcrossACrash}

-- behind no round stand its voters alone
only : (W X : World) → MayFollow (uncut W) X → X ≡ W
only W X f = f.reached

pub served : {S F : Type 0} (v : Service S) (d : Disk S F) (files left : F) (opened now again last : S) (before behind : List (ℕ × Request)) (first second : List Reply)
    → FindsVoters v d files opened → AnswersRound v before first opened now → LeavesUnder v d now left → FindsVoters v d left again → AnswersRound v behind second again last
    → ServesAcrossACrash v d files before behind first second
served v d files left opened now again last before behind first second finds answers leaves finds_again answers_again = record {
  store = now;
  left = left;
  answers = λ known spared.
      let found = finds (uncut fresh_world) known spared in
      let at : IsOpenAt v opened fresh_world = subst (λ (W : World). IsOpenAt v opened W) (only fresh_world found.0 found.1) found.2 in
      let one = answers fresh_world at in
      let under = leaves (uncut one.0) one.2.left in (
        one.0,
        one.1,
        (
          under.0,
          λ spares.
              let still = under.1 under.0 spares in (
                still,
                λ chance.
                    let found_again = finds_again (uncut one.0) still chance in
                    let at_again : IsOpenAt v again one.0 = subst (λ (W : World). IsOpenAt v again W) (only one.0 found_again.0 found_again.1) found_again.2 in
                    let two = answers_again one.0 at_again in
                    (two.0, two.1),
              ),
        ),
      );
}
