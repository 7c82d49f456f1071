use Rattle.std.proofs.Common.{[], ◌∷◌, ◌++◌, Some, refl}
use Rattle.raft_log_file_reader.specs.Source.{bytes_of}
use Rattle.raft_log_recovery_read.specs.Records.ReadsEarlier.{good, none, torn}
use Rattle.raft_log_recovery_read.proofs.WorkLemmas.{stops_there}
use Rattle.raft_log_recovery_read.proofs.behind.check_last.Goals as goal

pub returns-in-None-clause-ok : goal.returns-in-None-clause-ok
returns-in-None-clause-ok g c = λ file offset fault before start opened stands stops tells handed honest.
    let at = rw c.in-Some.is at stands in
    let noted = c.in-Some.record in
    let whole = rw c.in-None.is at (c.in_ok-check_block.ensures.ok file noted.start opened honest at.2) in
    record {
      batches = before ++ noted.items.items ∷ [];
      fault = fault;
      tells = tells;
      has = good (record {
        before = before;
        last = noted.items.items;
        between = noted.start;
        split = refl;
        first = at.0;
        record_last = record { batch = at.1; whole = whole };
      }) stops;
      bare = λ last. (let never : ⊥ = cc in absurd never);
      taken = c.take-declined.ensures start before handed;
    }

pub returns-in-Some-2-clause-ok : goal.returns-in-Some-2-clause-ok
returns-in-Some-2-clause-ok g c = λ file offset fault before start opened stands stops tells handed honest.
    let content = bytes_of file.source (g.F.FileSystem.disk c.args.file_system.now) in
    let at = rw c.in-Some.is at stands in
    let noted = c.in-Some.record in
    let found = rw c.in-Some-2.is at (c.in_ok-check_block.ensures.ok file noted.start opened honest at.2) in
    record {
      batches = before;
      fault = Some found.0;
      tells = (found.0, refl, found.1);
      has = torn noted.items.items c.args.read.end found.0 at.0 at.1 (stops_there file content c.args.read.end fault stops) found.2 refl;
      bare = λ last. (let never : ⊥ = cc in absurd never);
      taken = handed;
    }

pub returns-in_default-clause-ok : goal.returns-in_default-clause-ok
returns-in_default-clause-ok g c = λ file offset fault before start opened stands stops tells handed honest.
    let at = rw c.in_default.is at stands in
    record {
      batches = before;
      fault = fault;
      tells = tells;
      has = none at.0 at.1 stops;
      bare = λ last. (let never : ⊥ = cc in absurd never);
      taken = handed;
    }
