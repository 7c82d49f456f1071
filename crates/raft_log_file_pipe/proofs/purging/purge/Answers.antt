use Rattle.std.specs.String.{string_bytes}
use Rattle.std.proofs.Common.{rules, ◌≡◌, ℕ, ◌-◌, List, map, take, sym, ◌∙◌, ap, subst}
use Rattle.std.proofs.lemmas.List.{length-map}
use Rattle.raft_log_active_file.specs.Layout.{path_of}
use Rattle.raft_log_file_pipe.specs.declared.pipe_files.PipeFiles.{PipeFiles}
use Rattle.raft_log_file_pipe.specs.Calls.{DropsBy, DropsUntil}
use Rattle.raft_log_file_pipe.specs.Purging.{IsRaised, DropsTo, going, room_from, paths_going}
use Rattle.raft_log_file_pipe.proofs.Raising.{purges, purge_fails}
use Rattle.raft_log_file_pipe.proofs.purging.purge.Goals as goal

pub returns-in-Err-clause-err : goal.returns-in-Err-clause-err
returns-in-Err-clause-err g c =
    let D = g.F.FileSystem.disk in
    let before : PipeFiles = c.args.files.now in
    let after : PipeFiles = record before { first_seq = c.args.seq; earlier = c.drop-drain.new.self.0; recycled = c.append.new.self } in
    let paths = g.G.PipeFormat.file_paths c.args.layout.now in
    let room_is : c.saturating_sub-room.result ≡ room_from c.args.capacity c.args.seq c.args.files.now = search rules in
    let count_is : c.in_ok-count.count ≡ c.args.seq - before.first_seq = c.in_ok-count.ensures.ok.1 in
    let raises : IsRaised c.args.capacity c.args.seq before after = search rules in
    let spelled : map string_bytes c.deref.result.now ≡ paths_going paths c.args.capacity c.args.seq before =
    ap (map string_bytes) c.deref.ensures.value ∙ c.in_ok-parted.ensures.gone ∙ ap (λ (room : ℕ). map (path_of paths) (going room (take c.in_ok-count.count before.earlier.items))) room_is
    ∙ ap (λ (count : ℕ). map (path_of paths) (going (room_from c.args.capacity c.args.seq before) (take count before.earlier.items))) count_is in (
      raises,
      purge_fails (g.G.PipeFormat.format c.args.layout.now) (g.G.PipeFormat.own c.args.layout.now) paths (g.met.G.PipeFormat.lawful c.args.layout.now) before after c.args.capacity c.args.seq (map string_bytes c.deref.result.now)
          (D c.args.file_system.now) (D c.drop_files.new.file_system) c.in_ok-count.ensures.ok.0 raises spelled c.in-Err.ensures.err,
    )

pub returns-clause-ok : goal.returns-clause-ok
returns-clause-ok g c =
    let D = g.F.FileSystem.disk in
    let before : PipeFiles = c.args.files.now in
    let after : PipeFiles = record before { first_seq = c.args.seq; earlier = c.drop-drain.new.self.0; recycled = c.append.new.self } in
    let paths = g.G.PipeFormat.file_paths c.args.layout.now in
    let room_is : c.saturating_sub-room.result ≡ room_from c.args.capacity c.args.seq c.args.files.now = search rules in
    let count_is : c.in_ok-count.count ≡ c.args.seq - before.first_seq = c.in_ok-count.ensures.ok.1 in
    let raises : IsRaised c.args.capacity c.args.seq before after = search rules in
    let spelled : map string_bytes c.deref.result.now ≡ paths_going paths c.args.capacity c.args.seq before =
    ap (map string_bytes) c.deref.ensures.value ∙ c.in_ok-parted.ensures.gone ∙ ap (λ (room : ℕ). map (path_of paths) (going room (take c.in_ok-count.count before.earlier.items))) room_is
    ∙ ap (λ (count : ℕ). map (path_of paths) (going (room_from c.args.capacity c.args.seq before) (take count before.earlier.items))) count_is in
    purges (g.G.PipeFormat.format c.args.layout.now) (g.G.PipeFormat.own c.args.layout.now) paths (g.met.G.PipeFormat.lawful c.args.layout.now) before after c.args.capacity c.args.seq (map string_bytes c.deref.result.now)
    (D c.args.file_system.now) (D c.drop_files.new.file_system) c.in_ok-count.ensures.ok.0 raises spelled
    (subst (λ (n : ℕ). DropsTo (g.G.PipeFormat.format c.args.layout.now) (g.G.PipeFormat.own c.args.layout.now) (g.G.PipeFormat.file_paths c.args.layout.now) (map string_bytes c.deref.result.now) n (D c.args.file_system.now) (D c.drop_files.new.file_system))
    (sym (length-map c.deref.result.now string_bytes)) c.in_default.ensures.ok)

pub returns-in-Err-clause-refusal : goal.returns-in-Err-clause-refusal
returns-in-Err-clause-refusal g c =
    let D = g.F.FileSystem.disk in
    let before : PipeFiles = c.args.files.now in
    let paths = g.G.PipeFormat.file_paths c.args.layout.now in
    let room_is : c.saturating_sub-room.result ≡ room_from c.args.capacity c.args.seq c.args.files.now = search rules in
    let count_is : c.in_ok-count.count ≡ c.args.seq - before.first_seq = c.in_ok-count.ensures.ok.1 in
    let spelled : map string_bytes c.deref.result.now ≡ paths_going paths c.args.capacity c.args.seq before =
    ap (map string_bytes) c.deref.ensures.value ∙ c.in_ok-parted.ensures.gone ∙ ap (λ (room : ℕ). map (path_of paths) (going room (take c.in_ok-count.count before.earlier.items))) room_is
    ∙ ap (λ (count : ℕ). map (path_of paths) (going (room_from c.args.capacity c.args.seq before) (take count before.earlier.items))) count_is in
    subst (λ (ps : List (List ℕ)). DropsUntil ps (D c.args.file_system.now) (D c.drop_files.new.file_system)) spelled c.in-Err.ensures.refusal

pub returns-clause-calls : goal.returns-clause-calls
returns-clause-calls g c =
    let D = g.F.FileSystem.disk in
    let before : PipeFiles = c.args.files.now in
    let paths = g.G.PipeFormat.file_paths c.args.layout.now in
    let room_is : c.saturating_sub-room.result ≡ room_from c.args.capacity c.args.seq c.args.files.now = search rules in
    let count_is : c.in_ok-count.count ≡ c.args.seq - before.first_seq = c.in_ok-count.ensures.ok.1 in
    let spelled : map string_bytes c.deref.result.now ≡ paths_going paths c.args.capacity c.args.seq before =
    ap (map string_bytes) c.deref.ensures.value ∙ c.in_ok-parted.ensures.gone ∙ ap (λ (room : ℕ). map (path_of paths) (going room (take c.in_ok-count.count before.earlier.items))) room_is
    ∙ ap (λ (count : ℕ). map (path_of paths) (going (room_from c.args.capacity c.args.seq before) (take count before.earlier.items))) count_is in
    subst (λ (ps : List (List ℕ)). DropsBy ps (D c.args.file_system.now) (D c.drop_files.new.file_system)) spelled c.in_default.ensures.calls
