use Rattle.std.proofs.Common.{◌≡◌, List, refl, subst, string_bytes, sym}
use Rattle.std.specs.Prelude.{◌↔◌, IsTrue}
use Rattle.raft_log_machine_laws.specs.Fresh.{nothing_stands}
use Rattle.raft_log_engine.specs.raft_log_fs_memory.specs.Memory.{disk_of}
use Rattle.raft_log_engine.specs.raft_log_file_settings.specs.declared.config.Config.{Config}
use Rattle.raft_log_world.specs.declared.event.Answer.{Answer}
use Rattle.raft_log_world.specs.Model.ModelLog.{resting}
use Rattle.raft_log_judge.specs.Judging.{IsExplained}
use Rattle.raft_log_world_engine.specs.Instance.{IsFilesLog}
use Rattle.raftlog.specs.Playing.{transcript_text}
use Rattle.raftlog.proofs.Agreeing.{is_yes}
use Rattle.raftlog.proofs.playing.play.Goals as goal

pub returns : goal.returns
returns g c =
    let files = c.new-files.result in
    let report = c.in_ok-report.report in
    let empty = subst (λ (config : Config). IsFilesLog config (disk_of files.files) (resting nothing_stands)) (sym c.new-files.ensures.config) c.new-files.ensures.empty in
    let events = c.args.events.now in
    let verdict = c.in_ok-verdict.verdict in
    let judged = subst (λ (answers : List Answer). IsTrue verdict ↔ IsExplained events answers) c.as_slice-answers.ensures.value c.in_ok-verdict.ensures in
    let written = subst (λ (answers : List Answer). string_bytes c.in_ok-text.text ≡ transcript_text answers verdict) c.as_slice-answers.ensures.value c.in_ok-text.ensures in
    record {
      files = files;
      settings = c.new-files.ensures.config;
      empty = c.new-files.ensures.empty;
      played = c.in_ok-played.played.items;
      same = c.in_ok-played.ensures;
      report = report;
      ran = c.in_ok-report.ensures;
      judged = judged;
      written = written;
      agreed = λ spared. is_yes _ refl c.runs_are_explained.ensures files events c.in_ok-played.played.items report verdict c.in_ok-played.ensures c.in_ok-report.ensures (refl, empty) judged spared;
    }
