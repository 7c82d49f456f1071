use Rattle.raft_log_model_laws.proofs.RenamedLaws.{says_renamed, appended_renamed, rewritten_renamed, directory_renamed, directory_meaning_renamed, taken_renamed}
use Rattle.raft_log_model_laws.proofs.renaming.meaning_of_renamed.Goals as goal

pub returns : goal.returns
returns g c = record {
  word = says_renamed;
  append = appended_renamed;
  rewrite = rewritten_renamed;
  items = directory_renamed;
  directory = directory_meaning_renamed;
  takes = taken_renamed;
}
