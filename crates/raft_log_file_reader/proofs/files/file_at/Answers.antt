use Rattle.std.proofs.Common.{◌∷◌, ◌++◌, [], List, refl, ap, ◌∙◌}
use Rattle.raft_log_file_reader.specs.declared.log_file.LogFile.{LogFile}
use Rattle.raft_log_file_reader.proofs.Telling.{other_file}
use Rattle.raft_log_file_reader.proofs.files.file_at.Goals as goal

pub returns-in_default-id_of-clause-err : goal.returns-in_default-id_of-clause-err
returns-in_default-id_of-clause-err g c =
    let opened = c.in_default.ensures.ok in
    other_file c.args.path.now (g.F.FileSystem.disk c.args.file_system.now) c.invalid.result c.invalid.ensures opened.runs
    (λ none. let there = opened.is in absurd cc)
    (λ id says. let told = (c.in_default-id_of.ensures id).1 says in absurd cc)

pub returns-clause-ok : goal.returns-clause-ok
returns-clause-ok g c =
    let opened = c.in_default.ensures.ok in
    let file : LogFile = record { id = c.in-Some.id; path = c.in_ok-path.path } in
    record {
      there = λ none. let there = opened.is in absurd cc;
      file = file;
      alone = c.in_ok-push.ensures.items ∙ ap (λ (l : List LogFile). l ++ file ∷ []) c.new-files.ensures.items;
      says = (c.in-Some.ensures c.in-Some.id).0 refl;
      by = c.in_ok-path.ensures.ok;
    }
