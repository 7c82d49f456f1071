use Rattle.std.proofs.Common.{rules, tests, bytes_eq}
use Rattle.std.proofs.lemmas.Iterator.{YieldsList-from_slice}
use Rattle.std.proofs.lemmas.Iterator.Search.{any_from_yields_List}
use Rattle.raft_log_file_settings.proofs.reading.is_setting.Goals as goal

pub returns : goal.returns
returns c =
    any_from_yields_List (λ setting. bytes_eq c.args.key.now setting.now) _ _ c.any.result c.any.ensures.ran
    (YieldsList-from_slice _ c.iter.ensures.rest) (λ x b q k. search (rules, tests))
