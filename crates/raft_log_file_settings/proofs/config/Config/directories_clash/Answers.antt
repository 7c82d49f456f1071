use Rattle.std.proofs.lemmas.Bool.{false≢true}
use Rattle.raft_log_file_settings.proofs.config.Config.directories_clash.Goals as goal

-- src/config.rt:165:5
pub returns-in-Some : goal.returns-in-Some
returns-in-Some c = rw (c.in-Some.is, ← c.as_str.ensures.value, ← c.as_str-in-Some.ensures.value) c.clash.ensures

-- src/config.rt:165:5
pub returns-in-None : goal.returns-in-None
returns-in-None c = rw c.in-None.is ((λ t. absurd (false≢true t)), λ none. absurd none)
