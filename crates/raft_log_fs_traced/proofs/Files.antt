-- What stands after the model changed or synced a file, and the device was asked to.
use Rattle.std.specs.Prelude.{◌≡◌, ℕ, Bool, true, false, Some, None, List, [], Result}
use Rattle.std.specs.Result.{OnOk, OnErr}
use Rattle.std.specs.declared.io.ErrorKind.{ErrorKind}
use Rattle.std.proofs.Common.{refl, ap, ◌∙◌}
use Rattle.raft_log_fs.specs.Disk.{Change, File, with_file}
use Rattle.raft_log_fs.specs.Calls.{Changes, after_change, flushed}
use Rattle.raft_log_fs.proofs.Public.{some_file}
use Rattle.raft_log_fs_state.specs.declared.storage.Storage.{Storage}
use Rattle.raft_log_fs_state.specs.Storage.{contents_of}
use Rattle.raft_log_fs_state.specs.Steps.{Makes, SyncsFile}
use Rattle.raft_log_fs_state.proofs.Public.{after_whole}
use Rattle.raft_log_fs_traced.specs.Device.{Changed, Synced, Trace, noted, MayBeMade}
use Rattle.raft_log_fs_traced.specs.Following.{Follows}
use Rattle.raft_log_fs_traced.specs.Directory.{with_failures}
use Rattle.raft_log_fs_traced.proofs.Made.{Made, made_of, did_change, did_sync, file_done, file_tried}

module _ (file : ℕ) (old new : Storage) (there : (contents_of old).files file ≡ None → ⊥) where
  -- the model's file, changed
  pub makes_change : (change : Change) (failures : ℕ) (kinds : List ErrorKind) → Makes file change [] old new → Changes file (after_change change) (with_failures failures kinds (contents_of old)) (with_failures failures kinds (contents_of new))
  makes_change change failures kinds makes =
      let got = some_file ((contents_of old).files file) there in
      record {
        runs = refl;
        file = got.0;
        is = got.1;
        done = ap (with_failures failures kinds) (makes.contents got.0 got.1 ∙ ap (λ (f : File). with_file file (Some f) (contents_of old)) (after_whole change got.0));
      }

  -- and synced
  pub makes_sync : (failures : ℕ) (kinds : List ErrorKind) → SyncsFile file old new → Changes file flushed (with_failures failures kinds (contents_of old)) (with_failures failures kinds (contents_of new))
  makes_sync failures kinds syncs =
      let got = some_file ((contents_of old).files file) there in
      record { runs = refl; file = got.0; is = got.1; done = ap (with_failures failures kinds) (syncs.contents got.0 got.1) }

  module _ (trace later : Trace) (made : Result (Unit {0}) ErrorKind) (was stopped : Bool) (runs : was ≡ false) (follows : Follows was old trace) (goes_on : OnOk made (stopped ≡ was)) (stop : OnErr made (stopped ≡ true)) where
    pub change_made : (change : Change) → Makes file change [] old new → OnOk made (later ≡ noted (Changed file change) trace) → OnErr made (MayBeMade (Changed file change) trace later)
        → Made (Changed file change) old new trace later made stopped
    change_made change makes ok err =
        let got = some_file ((contents_of old).files file) there in
        made_of (Changed file change) old new trace later made was stopped runs follows
        (did_change file change (contents_of old) (contents_of new) got.0 got.1 (makes.contents got.0 got.1 ∙ ap (λ (f : File). with_file file (Some f) (contents_of old)) (after_whole change got.0)))
        (file_done (Changed file change) trace later (λ held. refl) made ok) (file_tried (Changed file change) trace later (λ held. refl) made err) goes_on stop

    pub sync_made : SyncsFile file old new → OnOk made (later ≡ noted (Synced file) trace) → OnErr made (MayBeMade (Synced file) trace later) → Made (Synced file) old new trace later made stopped
    sync_made syncs ok err =
        let got = some_file ((contents_of old).files file) there in
        made_of (Synced file) old new trace later made was stopped runs follows
        (did_sync file (contents_of old) (contents_of new) got.0 got.1 (syncs.contents got.0 got.1))
        (file_done (Synced file) trace later (λ held. refl) made ok) (file_tried (Synced file) trace later (λ held. refl) made err) goes_on stop
