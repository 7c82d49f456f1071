use Rattle.std.proofs.Common.{[]}
use Rattle.raft_log_model_laws.proofs.Heads.{head_append}
use Rattle.raft_log_model_laws.proofs.LeftOpen.{unfinished_append}
use Rattle.raft_log_model_laws.proofs.segments.borders_of_two.Goals as goal

pub returns : goal.returns
returns g c = record { heads = λ n xs ys. head_append n [] xs ys; left_open = unfinished_append }
