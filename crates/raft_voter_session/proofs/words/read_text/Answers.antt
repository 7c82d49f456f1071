use Rattle.raft_voter_session.proofs.Texts.{text_known, text_unknown}
use Rattle.raft_voter_session.proofs.words.read_text.Goals as goal

pub returns-in-Ok : goal.returns-in-Ok
returns-in-Ok c = text_known _ _ c.in-Ok.ensures.cases

pub returns-in-Err : goal.returns-in-Err
returns-in-Err c = text_unknown _ c.in-Err.ensures.cases.0
