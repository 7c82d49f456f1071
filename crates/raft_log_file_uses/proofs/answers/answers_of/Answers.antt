use Rattle.std.proofs.Common.{sym, subst}
use Rattle.std.specs.Iterator.{Drains}
use Rattle.raft_log_file_reader.specs.Answers.{GivesFiles}
use Rattle.raft_log_file_reader.specs.ItemReader.{GivesFirst}
use Rattle.raft_log_file_reader.specs.declared.item_reader.LogItemReader.{LogItemReader}
use Rattle.raft_log_file_reader.proofs.Public.{calls_give_all_is}
use Rattle.raft_log_file_uses.proofs.answers.answers_of.Goals as goal

pub returns : goal.returns
returns g c =
    let disk = g.F.FileSystem.disk in
    let reads = c.in_ok-reader.ensures.ok in
    let came = c.loop-answer.yielded in
    let run : Drains (GivesFirst disk) c.into_iter-answer-iterator.result came = (c.next.new.self, (c.loop-answer.answer-iterator, c.loop-answer.yielded_by, c.in-None.ensures.steps)) in
    let run_of_reader = subst (λ (r : LogItemReader _). Drains (GivesFirst disk) r came) c.into_iter-answer-iterator.ensures.into_iter_gives run in
    record {
      files = reads.files;
      are = reads.are;
      gives = subst (GivesFiles (disk c.args.file_system.now) reads.files) (sym c.loop-answer.invariant) (reads.reads.gives came (calls_give_all_is disk c.in_ok-reader.reader came run_of_reader));
    }
