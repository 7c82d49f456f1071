-- What is told of one file.
use Rattle.std.specs.Prelude.{ℕ, zero, suc, ◌<◌, ◌-◌, Result, Ok}
use Rattle.std.proofs.Common.{◌≡◌, sym, subst, ap₂, arith}
use Rattle.raft_log_record_base.specs.declared.errors.Error.{Error}
use Rattle.raft_log_record_base.specs.declared.pipe_log.FileId.{FileId}
use Rattle.raft_log_dual_pipes.specs.Telling.{BothHear, Hears, Told, files_purged}
use Rattle.raft_log_record_base.specs.declared.pipe_log.LogQueue.{LogQueue}
use Rattle.raft_log_dual_pipes.proofs.Public.{a_file, both_hear, hears_one}

-- files went, and the second is told of the last one
pub both_hear_purged : {L M : Type 0} (hears : Told → L → L → Type 0) (hears_too : Told → M → M → Type 0) (file : FileId)
    (a c : L) (b d : M) (answer : Result ℕ Error) (count : ℕ) → answer ≡ Ok count → 0 < count
    → Hears hears (files_purged file answer) a c
    → hears_too (Told.FilesPurged (record { queue = file.queue; seq = file.seq - 1 })) b d
    → Hears (BothHear hears hears_too) (files_purged file answer) (a, b) (c, d)
both_hear_purged hears hears_too file a c b d answer zero is some told then = absurd (omega (arith, some))
both_hear_purged hears hears_too file a c b d answer (suc count) is some told then =
    subst (λ r. Hears hears (files_purged file r) a c → Hears (BothHear hears hears_too) (files_purged file r) (a, b) (c, d)) (sym is)
    (λ told. both_hear hears hears_too (files_purged file (Ok (suc count))) a c b d told
    (hears_one hears_too (Told.FilesPurged (record { queue = file.queue; seq = file.seq - 1 })) b d then)) told

abbrev file_at : LogQueue → ℕ → FileId
file_at queue seq = record { queue = queue; seq = seq }

-- the file of this number was begun
pub hears_begun : {L : Type 0} (hears : Told → L → L → Type 0) (file : FileId) (queue : LogQueue) (seq : ℕ) (a b : L)
    → file.queue ≡ queue → file.seq ≡ seq → hears (Told.FileBegun file) a b → hears (a_file queue seq) a b
hears_begun hears file queue seq a b named numbered told =
    subst (λ (x : FileId). hears (Told.FileBegun x) a b) (ap₂ file_at named numbered) told

-- the files up to that of this number were purged
pub hears_purged : {L : Type 0} (hears : Told → L → L → Type 0) (file : FileId) (queue : LogQueue) (seq : ℕ) (a b : L)
    → file.queue ≡ queue → file.seq ≡ seq → hears (Told.FilesPurged file) a b
    → hears (Told.FilesPurged (record { queue = queue; seq = seq })) a b
hears_purged hears file queue seq a b named numbered told =
    subst (λ (x : FileId). hears (Told.FilesPurged x) a b) (ap₂ file_at named numbered) told
