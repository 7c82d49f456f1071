-- A recovery that tells an alignment has read all files, and cut none.
use Rattle.std.proofs.Common.{◌≡◌, ℕ, Bool, List, Result, Ok, Err, inl, inr, sym, subst}
use Rattle.std.specs.Prelude.{IfErr, IfOk}
use Rattle.std.specs.declared.alloc.Global.{Global}
use Rattle.std.specs.declared.string.String.{String}
use Rattle.raft_log_record_base.specs.declared.errors.Error.{Error}
use Rattle.raft_log_record_base.specs.declared.errors.Error.TheVariants as errors
use Rattle.raft_log_record_base.specs.declared.pipe_log.FileId.{FileId}
use Rattle.raft_log_fs.specs.Disk.{Disk}
use Rattle.raft_log_fs.specs.declared.handle.Handle.{Handle}
use Rattle.raft_log_file_settings.specs.Settings.{directories_of, settings_of}
use Rattle.raft_log_file_settings.specs.declared.config.Config.{Config}
use Rattle.raft_log_file_settings.specs.declared.recovery_mode.RecoveryMode.{RecoveryMode}
use Rattle.raft_log_active_file.specs.declared.format.File.{File}
use Rattle.raft_log_recovery_scan.specs.declared.recovery_config.RecoveryConfig.{RecoveryConfig}
use Rattle.raft_log_replay.specs.Segments.IsRefusedIn.{memory as no_memory, unread as unread_one, declined, apart}
use Rattle.raft_log_replay_context.specs.Batches.{Declines, HasReadBatches}
use Rattle.raft_log_replay_context.specs.declared.context.MemTableRecoverContext.{MemTableRecoverContext}
use Rattle.raft_log_recovery_read.specs.Tolerance.{FailsToReadFound}
use Rattle.raft_log_recovery.specs.Finding.{FindsLog}
use Rattle.raft_log_recovery.specs.Reading.{FilesAreUnread}
use Rattle.raft_log_recovery.specs.Recovering.{FailsToRecoverLog, append_config, append_files, rewrite_config, rewrite_files}
use Rattle.raft_log_recovery.specs.Recovering.FailsToRecoverLog.{aligned, append_uncut, append_unread, rewrite_uncut, rewrite_unread}
use Rattle.raft_log_recovery.specs.Scanning.{FailsToScanLog}
use Rattle.raft_log_recovery.specs.declared.builder.DualPipesBuilder.{DualPipesBuilder}
use Rattle.raft_log_open.specs.Unpadding.{Unpads}
use Rattle.raft_log_open.specs.Finding.{FailsToReadAnew, FindsPadding, HasPadding, ReadsAnew}
use Rattle.raft_log_open.specs.Finding.FailsToReadAnew.{unfound}
use Rattle.raft_log_open.specs.Finding.FindsUnpadded.{once_unpadded}
use Rattle.raft_log_open.specs.Opening.{FailsToOpenDirectory}
use Rattle.raft_log_open.specs.Opening.FailsToOpenDirectory.{unread_anew}
use Rattle.raft_log_open.specs.Reading.{ReadsQueues}
use Rattle.raft_log_open.specs.declared.reading.ReadQueues.{ReadQueues}
use Rattle.raft_log_open.proofs.Whole.{reads_queues}

-- no file is left unread for the reason `InvalidArgument`
not_refused : (text : String Global) (mode : RecoveryMode) (last : Bool) (id : FileId) (handle : Handle) (d : Disk) → FailsToReadFound mode last id handle d (errors.InvalidArgument text) → ⊥
not_refused text mode last id handle d (inl (inl never)) = never
not_refused text mode last id handle d (inl (inr foreign)) = foreign.told
not_refused text mode last id handle d (inr damaged) = damaged.names

not_unread : (text : String Global) (config : RecoveryConfig) (files : List File) (d : Disk) → FilesAreUnread Declines config files d (errors.InvalidArgument text) → ⊥
not_unread text config files d (no_memory is) = (let never : ⊥ = cc is in never)
not_unread text config files d (unread_one bss es held less refused) = not_refused text _ _ _ _ d refused.refused
not_unread text config files d (declined bss es held less more begins front read is never) = never
not_unread text config files d (apart bss es held le front read is never) = never

-- where an alignment is told, a file has one, and nothing was cut
only_padding : (b : DualPipesBuilder) (text : String Global) (old new : Disk) → FailsToRecoverLog HasReadBatches Declines b (errors.InvalidArgument text) old new → (new ≡ old) × HasPadding b old
only_padding b text old new (append_unread same why) = absurd (not_unread text (append_config b) (append_files b) old why)
only_padding b text old new (rewrite_unread append es read same why) = absurd (not_unread text (rewrite_config b) (rewrite_files b) old why)
only_padding b text old new (aligned append rewrite es fs one other same some tells) = (
  same,
  record { append = append; rewrite = rewrite; append_endings = es; rewrite_endings = fs; append_read = one; rewrite_read = other; aligned = some },
)
only_padding b text old new (append_uncut append rewrite es fs kind read is cut) = absurd (let never : ⊥ = cc is in never)
only_padding b text old new (rewrite_uncut append rewrite es fs kind between read is first cut) = absurd (let never : ⊥ = cc is in never)

-- so the log has padding, as it was found
pub padding : (config : Config) (b : DualPipesBuilder) (text : String Global) (old scanned new : Disk) → FindsLog config b old scanned → FailsToRecoverLog HasReadBatches Declines b (errors.InvalidArgument text) scanned new → FindsPadding config b old new
padding config b text old scanned new finds fails =
    let (same, has) = only_padding b text scanned new fails in
    subst (FindsPadding config b old) (sym same) (record { finds = finds; has = has })

-- and is read once that is out
pub reads_unpadded : (config : Config) (was : DualPipesBuilder) (append rewrite : MemTableRecoverContext) (b : DualPipesBuilder) (text : String Global) (old scanned padded new : Disk) → FindsLog config was old scanned
    → FailsToRecoverLog HasReadBatches Declines was (errors.InvalidArgument text) scanned padded → ReadsAnew was append rewrite b padded new → ReadsQueues config append rewrite b old new
reads_unpadded config was append rewrite b text old scanned padded new finds fails reads =
    reads_queues config append rewrite reads.found b old reads.scanned new (once_unpadded was padded (padding config was text old scanned padded finds fails) reads.anew) reads.recovers

-- refused behind that, the padding is out
pub not_found : (was : DualPipesBuilder) (written : List FileId) (old unpadded new : Disk) (result : Result (Unit {0}) Error) → Unpads (directories_of (settings_of was.config)) written old unpadded
    → IfErr result (λ error. FailsToScanLog was error unpadded new) → IfErr result (λ error. FailsToReadAnew was error old new)
not_found was written old unpadded new (Ok v) unpads fails = tt
not_found was written old unpadded new (Err error) unpads fails = unfound written unpadded unpads fails

-- the whole, from the first scan on
pub opened_unpadded : (config : Config) (was : DualPipesBuilder) (text : String Global) (old scanned padded new : Disk) (result : Result ReadQueues Error) → FindsLog config was old scanned → FailsToRecoverLog HasReadBatches Declines was (errors.InvalidArgument text) scanned padded
    → IfOk result (λ read. ReadsAnew was read.append read.rewrite read.builder padded new) → IfOk result (λ read. ReadsQueues config read.append read.rewrite read.builder old new)
opened_unpadded config was text old scanned padded new (Ok read) finds fails reads = reads_unpadded config was read.append read.rewrite read.builder text old scanned padded new finds fails reads
opened_unpadded config was text old scanned padded new (Err error) finds fails reads = tt

pub refused_unpadded : {F : Type 0} (disk : F → Disk) (tells : F → List ℕ → ℕ → Type 0) (config : Config) (was : DualPipesBuilder) (text : String Global) (old new : F) (scanned padded : Disk) (result : Result ReadQueues Error) → FindsLog config was (disk old) scanned
    → FailsToRecoverLog HasReadBatches Declines was (errors.InvalidArgument text) scanned padded → IfErr result (λ error. FailsToReadAnew was error padded (disk new)) → IfErr result (λ error. FailsToOpenDirectory disk tells config error old new)
refused_unpadded disk tells config was text old new scanned padded (Ok read) finds fails why = tt
refused_unpadded disk tells config was text old new scanned padded (Err error) finds fails why = unread_anew was padded (padding config was text (disk old) scanned padded finds fails) why
