use Rattle.std.proofs.Common.{◌≡◌, [], refl, ◌∙◌}
use Rattle.std.specs.Vec.Iter.{into_iter_items}
use Rattle.raft_log_file_reader.specs.declared.item_reader.LogItemReader.{LogItemReader}
use Rattle.raft_log_file_reader.proofs.Items.{gives_files}
use Rattle.raft_log_file_reader.proofs.item_reader.LogItemReader.new.Goals as goal

pub returns : goal.returns
returns g c =
    let reader : LogItemReader _ = record { alloc = c.args.alloc; file_system = c.args.file_system; batches = c.new.result; items = c.into_iter.result } in
    let empty : into_iter_items c.into_iter.result ≡ [] = c.into_iter.ensures.rest ∙ c.new-2.ensures.items in
    record {
      lent = refl;
      work = c.new.ensures.reading (g.F.FileSystem.disk c.args.file_system.now);
      gives = λ answers still. gives_files g.F.FileSystem.disk reader c.args.files.items answers empty c.new.ensures.closed.file c.new.ensures.files still;
    }
