-- What a crash leaves of one queue, whether a pipe had it open or a stop had left it.
use Rattle.std.proofs.Common.{◌≡◌, ℕ, ◌≤◌, Option, Some, List, [], ◌++◌, length, take, refl, sym, ◌∙◌, ap, subst, inl, inr, arith}
use Rattle.std.proofs.lemmas.List.{append-nil, take_all}
use Rattle.raft_log_fs.specs.Disk.{File, Disk, at_rest}
use Rattle.raft_log_fs.specs.Image.{IsImage}
use Rattle.raft_log_file_writer.specs.LawsChains.{Written, spelled}
use Rattle.raft_log_file_writer.specs.LogFormat.{ReadsFile, NoChanceInFile}
use Rattle.raft_log_file_writer.specs.LogQueue.{LogFiles, HoldsLast, IsLeftover, NoChanceInLast, recent, kept_to}
use Rattle.raft_log_fs.specs.Touching.{HasFile}
use Rattle.raft_log_fs.proofs.Public.{left_at_rest, names_same, only_at_rest, same_file}
use Rattle.raft_log_file_writer.proofs.Public.{image_there, left_of_image, queue_restarts, synced_file_has_no_chance}
use Rattle.raft_log_active_file.specs.Standing.{Names}
use Rattle.raft_log_active_file.proofs.Public.{log_files, place_moved}
use Rattle.raft_log_active_file.specs.Rotation.{StandsWithRecords}
use Rattle.raft_log_dual_pipes.specs.Queues.{QueueLayout, IsQueueLayout}
use Rattle.raft_log_dual_pipes.specs.State.{IsStopped, HoldsQueue}

-- a file at rest is in each image what it is
rest_stays : (d image : Disk) (id : ℕ) (bytes : List ℕ) → IsImage d image → d.files id ≡ Some (at_rest bytes) → image.files id ≡ Some (at_rest bytes)
rest_stays d image id bytes is here =
    let (after, at) = image_there d image id (at_rest bytes) is here in
    let (found, same, left) = left_of_image d image id (at_rest bytes) after is here at in
    at ∙ ap Some (same ∙ ap at_rest (only_at_rest (at_rest bytes) found refl left))

module _ {R : Type 0} (layout : QueueLayout R) (told : IsQueueLayout layout) (q : LogFiles R) (d image : Disk) (is : IsImage d image) (chance : NoChanceInLast layout.format q d image) where
  left_stops : StandsWithRecords layout.format layout.own d q d → (count : ℕ) × (count ≤ length q.pending) × IsStopped layout (kept_to count q) image × ((later : Disk) → IsImage image later → NoChanceInLast layout.format (kept_to count q) image later)
  left_stops left =
      let F = layout.format in
      let s = left.stands in
      let (count, within, files, again) = queue_restarts F told.lawful.format told.told q d image (log_files F layout.own d q left.path left.id (HoldsLast F q) left.N d s) s.headed is chance in
      let named : (p : List ℕ) (o : Option ℕ) → left.N p ≡ o → image.names p ≡ o = λ p o at. ap (λ (f : Names). f p) (is.names ∙ s.names) ∙ at in
      let mine : left.id ≡ files.last.file.id = files.alone left.path left.id s.at (named left.path (Some left.id) s.named) in (
        count,
        within,
        record {
          path = left.path;
          id = left.id;
          N = left.N;
          stands = record {
            names = is.names ∙ s.names;
            bound = s.bound;
            at = s.at;
            named = s.named;
            alone = s.alone;
            none = s.none;
            headed = s.headed;
            places = λ m p less at. place_moved p d image is.directories (s.places m p less at);
            file = subst (λ (j : ℕ). HasFile j (IsLeftover F (kept_to count q)) image) (sym mine) files.last.file.file;
            older = λ m j p below at there. files.older m j p below at (named p (Some j) there);
            single = s.single;
            others = names_same layout.own image;
          };
        },
        again,
      )

  -- all records of a queue that a stop left are kept by a next one
  all_kept : recent (kept_to (length q.pending) q) ≡ recent q
  all_kept = append-nil (q.durable ++ take (length q.pending) q.pending) ∙ ap (λ (ws : List (Written R)). q.durable ++ ws) (take_all (length q.pending) q.pending (omega arith))

  stopped_stops : IsStopped layout q d
      → (count : ℕ) × (count ≤ length q.pending) × IsStopped layout (kept_to count q) image × ((later : Disk) → IsImage image later → NoChanceInLast layout.format (kept_to count q) image later)
  stopped_stops left =
      let F = layout.format in
      let s = left.stands in
      let bytes = s.file.has.bytes in
      let was : d.files left.id ≡ Some (at_rest bytes) = s.file.is ∙ ap Some s.file.has.is in
      let rests = rest_stays d image left.id bytes is was in
      let named : (p : List ℕ) (o : Option ℕ) → left.N p ≡ o → d.names p ≡ o = λ p o at. ap (λ (f : Names). f p) s.names ∙ at in
      let back : (p : List ℕ) (o : Option ℕ) → image.names p ≡ o → left.N p ≡ o = λ p o at. ap (λ (f : Names). f p) (sym (is.names ∙ s.names)) ∙ at in
      let meets : NoChanceInFile F q.last q.header q.stale (spelled (recent q)) (at_rest bytes) bytes = chance left.path left.id (at_rest bytes) (at_rest bytes) s.at (named left.path (Some left.id) s.named) was rests in (
        length q.pending,
        omega arith,
        record {
          path = left.path;
          id = left.id;
          N = left.N;
          stands = record {
            names = is.names ∙ s.names;
            bound = s.bound;
            at = s.at;
            named = s.named;
            alone = s.alone;
            none = s.none;
            headed = s.headed;
            places = λ m p less at. place_moved p d image is.directories (s.places m p less at);
            file = record {
              file = at_rest bytes;
              is = rests;
              has = record { bytes = bytes; is = refl; reads = subst (λ (ws : List (Written R)). ReadsFile F q.last ws bytes) (sym all_kept) s.file.has.reads; plain = s.file.has.plain };
            };
            older = λ m j p below at there.
                (let past = s.older m j p below at there in
                let rest : past.file ≡ at_rest ((q.older m).header ++ spelled (q.older m).records) = past.has.is in
                record {
                  file = at_rest ((q.older m).header ++ spelled (q.older m).records);
                  is = rest_stays d image j ((q.older m).header ++ spelled (q.older m).records) is (past.is ∙ ap Some rest);
                  has = record { is = refl; header = past.has.header; frames = past.has.frames };
                });
            single = s.single;
            others = names_same layout.own image;
          };
        },
        λ later is_later p other file next at_p at_last here there.
            (let one : other ≡ left.id = s.alone p other at_p (back p (Some other) at_last) in
            let here_id : image.files left.id ≡ Some file = ap image.files (sym one) ∙ here in
            let rest : file ≡ at_rest bytes = same_file image left.id file (at_rest bytes) here_id rests in
            let again = rest_stays image later left.id bytes is_later rests in
            let then_rest : next ≡ at_rest bytes = same_file later left.id next (at_rest bytes) (ap later.files (sym one) ∙ there) again in
            subst (λ (f : File). NoChanceInFile F q.last q.header [] (spelled (recent (kept_to (length q.pending) q))) f next.content) (sym rest)
            (subst (λ (f : File). NoChanceInFile F q.last q.header [] (spelled (recent (kept_to (length q.pending) q))) (at_rest bytes) f.content) (sym then_rest)
            (record {
              headers = λ x has. meets.headers x has;
              records = synced_file_has_no_chance (F.IsFrame q.last q.header) (told.lawful.format.free q.last q.header) (length q.header) (at_rest bytes) bytes refl (left_at_rest bytes) (spelled (recent (kept_to (length q.pending) q)));
              plain = meets.plain;
            }))),
      )

  -- either way
  pub held_stops : HoldsQueue layout q d → (count : ℕ) × (count ≤ length q.pending) × IsStopped layout (kept_to count q) image × ((later : Disk) → IsImage image later → NoChanceInLast layout.format (kept_to count q) image later)
  held_stops held = elim held [ inl left ↦ left_stops left | inr stopped ↦ stopped_stops stopped ]
