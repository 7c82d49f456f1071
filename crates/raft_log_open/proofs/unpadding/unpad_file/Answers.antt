use Rattle.std.proofs.Common.{ℕ, List, refl, subst}
use Rattle.std.proofs.lemmas.Result.{err_from_is_err_and}
use Rattle.raft_log_fs.specs.Reading.{IsOpened}
use Rattle.raft_log_fs.specs.declared.handle.Permission.TheVariants.{ReadOnly}
use Rattle.raft_log_open.specs.Unpadding.FailsToUnpadOne.{unread, unreplaced}
use Rattle.raft_log_open.specs.Unpadding.LeavesAlone.{plain}
use Rattle.raft_log_open.proofs.Steps.{fails_at}
use Rattle.raft_log_open.proofs.unpadding.unpad_file.Goals as goal

pub returns-in_err-bytes-clause-err : goal.returns-in_err-bytes-clause-err
returns-in_err-bytes-clause-err g c =
    let d = g.F.FileSystem.disk c.args.file_system.now in
    let handle = c.in-Some.handle in
    let gave = err_from_is_err_and c.from_residual-in_err-bytes.result c.from_residual-in_err-bytes.ensures.1 in
    let found = rw c.in-Some.is at c.in_ok-handle.ensures.ok in
    let opened = subst (λ (l : List ℕ). IsOpened l ReadOnly handle d) c.as_str.ensures.value found in
    rw (gave.1, gave.2) (unread handle opened (c.in_err-bytes.ensures.err (c.in_err-bytes.ensures.receipts.stays g.met.F.FileSystem.truthful c.none-receipts.ensures)) refl)

pub returns-in_default-2-clause-ok : goal.returns-in_default-2-clause-ok
returns-in_default-2-clause-ok g c =
    let d = g.F.FileSystem.disk c.args.file_system.now in
    let handle = c.in-Some.handle in
    let found = rw c.in-Some.is at c.in_ok-handle.ensures.ok in
    let opened = subst (λ (l : List ℕ). IsOpened l ReadOnly handle d) c.as_str.ensures.value found in
    let honest = c.in_ok-bytes.ensures.receipts.stays g.met.F.FileSystem.truthful c.none-receipts.ensures in
    plain handle opened (rw c.in_default-2.is at (c.in_ok-bytes.ensures.ok honest)) refl

pub returns-in_err-replace-clause-err : goal.returns-in_err-replace-clause-err
returns-in_err-replace-clause-err g c =
    let D = g.F.FileSystem.disk in
    let d = D c.args.file_system.now in
    let handle = c.in-Some.handle in
    let kind = c.in_err-replace.field-0.0 in
    let gave = err_from_is_err_and c.from_residual-in_err-replace.result c.from_residual-in_err-replace.ensures.1 in
    let found = rw c.in-Some.is at c.in_ok-handle.ensures.ok in
    let opened = subst (λ (l : List ℕ). IsOpened l ReadOnly handle d) c.as_str.ensures.value found in
    let honest = c.in_ok-bytes.ensures.receipts.stays g.met.F.FileSystem.truthful c.none-receipts.ensures in
    rw (gave.1, gave.2) (unreplaced handle c.in-Some-2.bytes.items kind opened (rw c.in-Some-2.is at (c.in_ok-bytes.ensures.ok honest)) refl
    (fails_at c.as_str-2.result.now c.as_str-3.result.now c.as_slice.result.now _ _ _ kind d (D c.replace.new.file_system) c.as_str-2.ensures.value c.as_str-3.ensures.value c.as_slice.ensures.value
    c.in_err-replace.ensures.err))
