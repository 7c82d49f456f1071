use Rattle.std.proofs.lemmas.Result.{on_ok_weaker}
use Rattle.raft_voter_store.proofs.Filling.{filled_says, filled_short, fresh_of}
use Rattle.raft_voter_store.proofs.saying.encode_change.Goals as goal

pub returns-clause-says : goal.returns-clause-says
returns-clause-says c =
    on_ok_weaker c.fill_change.result
    (filled_says _ _ c.args.group c.args.change.now c.args.request.now c.args.outline.now.voter (fresh_of _ _ _ c.clear.ensures.emptied) c.requires.bare c.requires.decided) c.fill_change.ensures.ok

pub returns-clause-short : goal.returns-clause-short
returns-clause-short c =
    on_ok_weaker c.fill_change.result
    (filled_short _ _ c.args.group c.args.change.now c.args.request.now c.args.outline.now.voter (fresh_of _ _ _ c.clear.ensures.emptied) c.requires.bare c.requires.decided) c.fill_change.ensures.ok
