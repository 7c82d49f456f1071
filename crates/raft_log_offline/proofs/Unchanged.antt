-- Finding a log's files changes none of them.
use Rattle.std.proofs.Common.{◌≡◌, ◌∙◌, ap}
use Rattle.raft_log_fs.specs.Disk.{Disk}
use Rattle.raft_log_file_settings.specs.declared.config.Config.{Config}
use Rattle.raft_log_recovery.specs.Finding.{FindsLog}
use Rattle.raft_log_recovery.specs.declared.builder.DualPipesBuilder.{DualPipesBuilder}
use Rattle.raft_log_offline.specs.Checking.{HaveSameFiles}

pub finding_keeps : (config : Config) (found : DualPipesBuilder) (old new : Disk) → FindsLog config found old new → HaveSameFiles old new
finding_keeps config found old new finds =
    let cleared = finds.scans.cleared.rest in
    let made = finds.scans.scans.made.rest in
    (ap (λ (d : Disk). d.files) cleared ∙ ap (λ (d : Disk). d.files) made, ap (λ (d : Disk). d.names) cleared ∙ ap (λ (d : Disk). d.names) made)
