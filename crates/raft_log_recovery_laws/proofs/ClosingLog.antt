-- Both pipes of a log are closed properly: what their active files hold then, and the log that lies there.
use Rattle.std.proofs.Common.{◌≡◌, ℕ, Some, List, ◌++◌, reverse, refl, sym, ap, subst, ◌∙◌}
use Rattle.raft_log_record_base.specs.declared.pipe_log.LogQueue.TheVariants.{Append, Rewrite}
use Rattle.raft_log_fs.specs.Disk.{Disk, File, at_rest}
use Rattle.raft_log_fs.specs.Image.{IsSound}
use Rattle.raft_log_fs.specs.Touching.{TouchesOnlyNames}
use Rattle.raft_log_fs.proofs.Public.{names_file}
use Rattle.raft_log_file_writer.specs.LogQueue.{LogFiles}
use Rattle.raft_log_engine_laws.specs.raft_log_active_file.specs.declared.record.LogRecord.{LogRecord}
use Rattle.raft_log_engine_laws.specs.raft_log_active_file.specs.QueueFiles.{log_paths}
use Rattle.raft_log_engine_laws.specs.raft_log_active_file.specs.QueueFilesLaws.{files_are_told, is_layout, queues_are_apart}
use Rattle.raft_log_active_file.specs.Layout.{path_of}
use Rattle.raft_log_file_pipe.specs.Closing.{ReservesAll, greatest_reserved}
use Rattle.raft_log_file_pipe.specs.Files.{IsPipe}
use Rattle.raft_log_file_pipe.specs.declared.pipe_files.PipeFiles.{PipeFiles}
use Rattle.raft_log_dual_pipes.specs.Closing.{LiesSettled, SettlesBoth}
use Rattle.raft_log_dual_pipes.specs.Pipes.{LogPipes, LogSense, RunsOn, State, files_of, queues}
use Rattle.raft_log_dual_pipes.specs.Queues.{AreTwoQueues, QueueLayout}
use Rattle.raft_log_dual_pipes.proofs.Public.{pipe_stays, settled_log_is_a_log}
use Rattle.raft_log_recovery_laws.specs.Closed.{ClosesProperly}
use Rattle.raft_log_recovery_laws.specs.Running.{active_header, own_bytes}
use Rattle.raft_log_recovery_laws.proofs.ClosingCalls.{closes_sound, closes_touch, reserves_sound, reserves_stay, reserves_touch}
use Rattle.raft_log_recovery_laws.proofs.ClosingPipes.{IsAloneAt, active_own, alone_moved, finished_alone, finished_settles, kept_apart, kept_own, own_at_rest, reserved_apart}

module _ (log : LogSense) (v : LogPipes) (s : State) (d : Disk) (sound : IsSound v.disk) (runs : RunsOn log v s) (c : ClosesProperly v d) where
  abbrev A : QueueLayout LogRecord
  A = (queues log).append

  abbrev R : QueueLayout LogRecord
  R = (queues log).rewrite

  abbrev a : PipeFiles
  a = v.append.files

  abbrev r : PipeFiles
  r = v.rewrite.files

  abbrev qa : LogFiles LogRecord
  qa = s.append.files

  abbrev qr : LogFiles LogRecord
  qr = s.rewrite.files

  pub two : AreTwoQueues (queues log)
  two = record {
    append = record { lawful = is_layout Append log.append runs.append.some; told = files_are_told Append log.append };
    rewrite = record { lawful = is_layout Rewrite log.rewrite runs.rewrite.some; told = files_are_told Rewrite log.rewrite };
    apart = queues_are_apart log.append log.rewrite;
  }

  back : (path : List ℕ) → R.own path → A.own path → ⊥
  back path mine theirs = two.apart path theirs mine

  pub append_pipe : IsPipe A.format A.own A.paths v.disk a qa v.disk
  append_pipe = subst (λ (x : Disk). IsPipe A.format A.own A.paths x a qa x) runs.disk runs.run.append.pipe

  pub rewrite_pipe : IsPipe R.format R.own R.paths v.disk r qr v.disk
  rewrite_pipe = subst (λ (x : Disk). IsPipe R.format R.own R.paths x r qr x) runs.disk runs.run.rewrite.pipe

  abbrev pa : List ℕ
  pa = path_of A.paths a.active

  abbrev pr : List ℕ
  pr = path_of R.paths r.active

  pa_own : A.own pa
  pa_own = active_own A two.append a qa v.disk v.disk append_pipe

  pr_own : R.own pr
  pr_own = active_own R two.rewrite r qr v.disk v.disk rewrite_pipe

  -- The calls, one after the other, on sound disks.

  sound_one : IsSound c.one
  sound_one = closes_sound a.writer c.append.0 v.disk c.one sound c.append.1

  only_one : TouchesOnlyNames A.own v.disk c.one
  only_one = names_file A.own v.disk c.one pa a.writer.handle.file sound pa_own append_pipe.active.stands.named (closes_touch a.writer c.append.0 v.disk c.one c.append.1)

  rewrite_one : IsPipe R.format R.own R.paths c.one r qr c.one
  rewrite_one = pipe_stays R two.rewrite A.own v.disk c.one back only_one v.disk r qr rewrite_pipe

  sound_two : IsSound c.two
  sound_two = closes_sound r.writer c.rewrite.0 c.one c.two sound_one c.rewrite.1

  append_names : ReservesAll A.paths (reverse a.recycled.items) (greatest_reserved a.recycled.items) c.two c.three
  append_names = subst (λ (ds : List (List ℕ)). ReservesAll (log_paths Append ds) (reverse a.recycled.items) (greatest_reserved a.recycled.items) c.two c.three) runs.append.lies
      (subst (λ n. ReservesAll (log_paths n v.append.directories) (reverse a.recycled.items) (greatest_reserved a.recycled.items) c.two c.three) runs.append.named c.append_names)

  sound_three : IsSound c.three
  sound_three = reserves_sound A.paths (reverse a.recycled.items) (greatest_reserved a.recycled.items) c.two c.three sound_two append_names

  rewrite_names : ReservesAll R.paths (reverse r.recycled.items) (greatest_reserved r.recycled.items) c.three d
  rewrite_names = subst (λ (ds : List (List ℕ)). ReservesAll (log_paths Rewrite ds) (reverse r.recycled.items) (greatest_reserved r.recycled.items) c.three d) runs.rewrite.lies
      (subst (λ n. ReservesAll (log_paths n v.rewrite.directories) (reverse r.recycled.items) (greatest_reserved r.recycled.items) c.three d) runs.rewrite.named c.rewrite_names)

  pub closed_sound : IsSound d
  closed_sound = reserves_sound R.paths (reverse r.recycled.items) (greatest_reserved r.recycled.items) c.three d sound_three rewrite_names

  -- Append's active file.

  abbrev but_a : List ℕ → Type 0
  but_a path = path ≡ pa → ⊥

  not_a : (path : List ℕ) → R.own path → but_a path
  not_a path mine same = two.apart pa pa_own (subst R.own same mine)

  pub append_alone : IsAloneAt A.format qa pa a.writer.handle.file d
  append_alone =
      let other : but_a pa → ⊥ = λ apart. apart refl in
      let one = finished_alone A two.append a qa v.disk v.disk append_pipe c.append.0 c.one sound c.append.1 in
      let to_two : TouchesOnlyNames but_a c.one c.two = names_file but_a c.one c.two pr r.writer.handle.file sound_one (not_a pr pr_own) rewrite_one.active.stands.named (closes_touch r.writer c.rewrite.0 c.one c.two c.rewrite.1) in
      let to_three : TouchesOnlyNames but_a c.two c.three = reserves_touch A.paths but_a (reserved_apart A two.append a qa v.disk v.disk append_pipe) (reverse a.recycled.items) (greatest_reserved a.recycled.items) c.two c.three sound_two
      (kept_apart A two.append a qa v.disk v.disk append_pipe) append_names in
      let to_new : TouchesOnlyNames but_a c.three d = reserves_touch R.paths but_a (λ n. not_a (R.paths.reserved 0 n) (two.rewrite.lawful.kept 0 n)) (reverse r.recycled.items) (greatest_reserved r.recycled.items) c.three d sound_three
      (kept_own R two.rewrite r qr v.disk v.disk rewrite_pipe but_a not_a) rewrite_names in
      alone_moved A.format qa pa a.writer.handle.file but_a c.three d other to_new
      (alone_moved A.format qa pa a.writer.handle.file but_a c.two c.three other to_three (alone_moved A.format qa pa a.writer.handle.file but_a c.one c.two other to_two one))

  -- Rewrite's.

  abbrev but_r : List ℕ → Type 0
  but_r path = path ≡ pr → ⊥

  not_r : (path : List ℕ) → A.own path → but_r path
  not_r path mine same = two.apart pr (subst A.own same mine) pr_own

  pub rewrite_alone : IsAloneAt R.format qr pr r.writer.handle.file d
  rewrite_alone =
      let other : but_r pr → ⊥ = λ apart. apart refl in
      let second = finished_alone R two.rewrite r qr c.one c.one rewrite_one c.rewrite.0 c.two sound_one c.rewrite.1 in
      let to_three : TouchesOnlyNames but_r c.two c.three = reserves_touch A.paths but_r (λ n. not_r (A.paths.reserved 0 n) (two.append.lawful.kept 0 n)) (reverse a.recycled.items) (greatest_reserved a.recycled.items) c.two c.three sound_two
      (kept_own A two.append a qa v.disk v.disk append_pipe but_r not_r) append_names in
      let to_new : TouchesOnlyNames but_r c.three d = reserves_touch R.paths but_r (reserved_apart R two.rewrite r qr v.disk v.disk rewrite_pipe) (reverse r.recycled.items) (greatest_reserved r.recycled.items) c.three d sound_three
      (kept_apart R two.rewrite r qr v.disk v.disk rewrite_pipe) rewrite_names in
      alone_moved R.format qr pr r.writer.handle.file but_r c.three d other to_new (alone_moved R.format qr pr r.writer.handle.file but_r c.two c.three other to_three second)

  -- Their bytes.

  pub append_bytes : (before : File) → v.disk.files a.writer.handle.file ≡ Some before → d.files a.writer.handle.file ≡ Some (at_rest (active_header a ++ own_bytes a before))
  append_bytes before there = append_alone.file.is ∙ ap Some (own_at_rest A two.append a qa v.disk v.disk append_pipe before there append_alone.file.file append_alone.file.has)

  pub rewrite_bytes : (before : File) → v.disk.files r.writer.handle.file ≡ Some before → d.files r.writer.handle.file ≡ Some (at_rest (active_header r ++ own_bytes r before))
  rewrite_bytes before there = rewrite_alone.file.is ∙ ap Some (own_at_rest R two.rewrite r qr v.disk v.disk rewrite_pipe before there rewrite_alone.file.file rewrite_alone.file.has)

  -- The log.

  settles : SettlesBoth (queues log) (files_of v) v.disk d
  settles = record {
    one = c.one;
    two = c.two;
    three = c.three;
    append = finished_settles A two.append a c.append.0 v.disk c.one sound c.append.1;
    rewrite = finished_settles R two.rewrite r c.rewrite.0 c.one c.two sound_one c.rewrite.1;
    append_names = reserves_stay A.format A.own A.paths two.append.lawful a.recycled.items (greatest_reserved a.recycled.items) c.two c.three sound_two append_names;
    rewrite_names = reserves_stay R.format R.own R.paths two.rewrite.lawful r.recycled.items (greatest_reserved r.recycled.items) c.three d sound_three rewrite_names;
  }

  pub lies_settled : LiesSettled (queues log) s d
  lies_settled = settled_log_is_a_log (queues log) two (files_of v) s d runs.run (subst (λ (x : Disk). SettlesBoth (queues log) (files_of v) x d) (sym runs.disk) settles)
