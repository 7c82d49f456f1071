use Rattle.std.proofs.Common.{rules, ◌≡◌, refl}
use Rattle.std.specs.Option.{option_map}
use Rattle.std.specs.String.{string_bytes}
use Rattle.raft_voter_shared_log.proofs.store.copy_settings.Goals as goal

-- each setting is copied
pub returns : goal.returns
returns c =
    let new = c.in_ok-clone.field-0 in
    let old = c.args.config.now in
    let dir_limit : new.dir_limit ≡ old.dir_limit = search rules in
    let spill_dir : option_map string_bytes new.spill_dir ≡ option_map string_bytes old.spill_dir = search rules in
    let spill_dir_limit : new.spill_dir_limit ≡ old.spill_dir_limit = search rules in
    let recovery_mode : new.recovery_mode ≡ old.recovery_mode = search rules in
    let recovery_read_block_size : new.recovery_read_block_size ≡ old.recovery_read_block_size = search rules in
    let recovery_threads : new.recovery_threads ≡ old.recovery_threads = search rules in
    let bytes_per_sync : new.bytes_per_sync ≡ old.bytes_per_sync = search rules in
    let format_version : new.format_version ≡ old.format_version = search rules in
    let target_file_size : new.target_file_size ≡ old.target_file_size = search rules in
    let purge_threshold : new.purge_threshold ≡ old.purge_threshold = search rules in
    let purge_rewrite_threshold : new.purge_rewrite_threshold ≡ old.purge_rewrite_threshold = search rules in
    let purge_rewrite_garbage_ratio : new.purge_rewrite_garbage_ratio ≡ old.purge_rewrite_garbage_ratio = search rules in
    let memory_limit : new.memory_limit ≡ old.memory_limit = search rules in
    let enable_log_recycle : new.enable_log_recycle ≡ old.enable_log_recycle = search rules in
    let prefill_for_recycle : new.prefill_for_recycle ≡ old.prefill_for_recycle = search rules in
    let prefill_limit : new.prefill_limit ≡ old.prefill_limit = search rules in
    rw (
      c.in_ok-clone.ensures.cases.0,
      dir_limit,
      spill_dir,
      spill_dir_limit,
      recovery_mode,
      recovery_read_block_size,
      recovery_threads,
      bytes_per_sync,
      format_version,
      target_file_size,
      purge_threshold,
      purge_rewrite_threshold,
      purge_rewrite_garbage_ratio,
      memory_limit,
      enable_log_recycle,
      prefill_for_recycle,
      prefill_limit,
    ) refl
