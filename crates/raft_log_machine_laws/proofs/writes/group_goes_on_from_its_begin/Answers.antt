use Rattle.raft_log_machine_laws.proofs.RewriteNotes.{group_begins, group_goes_on, group_moves_on}
use Rattle.raft_log_machine_laws.proofs.writes.group_goes_on_from_its_begin.Goals as goal

pub returns : goal.returns
returns g c = record {
  begin = λ f n xs. group_begins f.rewrite n xs;
  middle = λ f from n first more xs. group_goes_on f.rewrite from n first more xs;
  moves = λ f r. group_moves_on f.rewrite_from f.rewrite r;
}
