-- What a crash leaves of a log, however its queues stand.
use Rattle.std.proofs.Common.{◌≡◌, ℕ, ◌≤◌, length, refl, sym, ◌∙◌, ap, inl, inr, arith}
use Rattle.raft_log_model_laws.specs.Item.{Record}
use Rattle.raft_log_machine_laws.specs.Files.{FileQueue}
use Rattle.raft_log_fs.specs.Disk.{Disk}
use Rattle.raft_log_fs.specs.Image.{IsImage}
use Rattle.raft_log_file_writer.specs.LogQueue.{NoChanceInLast, kept_to}
use Rattle.raft_log_fs.proofs.Public.{names_same}
use Rattle.raft_log_active_file.specs.Standing.{Names}
use Rattle.raft_log_active_file.specs.Bridge.{IsFileQueue, GapsStay}
use Rattle.raft_log_active_file.proofs.Public.{place_moved}
use Rattle.raft_log_machine_laws.specs.Calls.{ReadAgain, read_files}
use Rattle.raft_log_dual_pipes.specs.Queues.{QueueLayout, IsQueueLayout, TwoQueues}
use Rattle.raft_log_dual_pipes.specs.State.{Spanned}
use Rattle.raft_log_dual_pipes.specs.Turning.{in_span}
use Rattle.raft_log_dual_pipes.specs.OpenOrClosed.{IsUnbegun, LiesQueue}
use Rattle.raft_log_dual_pipes.specs.Reopening.{RestsQueue, CrashIsAStep}
use Rattle.raft_log_dual_pipes.proofs.Stopped.{held_stops}
use Rattle.raft_log_dual_pipes.proofs.ClosedQueues.{lies}
use Rattle.raft_log_dual_pipes.proofs.ReadingAgain.{read_one}
use Rattle.raft_log_dual_pipes.proofs.Spans.{there_same}

module _ {R : Type 0} (layout : QueueLayout R) (told : IsQueueLayout layout) (q : Spanned R) (d image : Disk) (is : IsImage d image) where
  -- a name names in the image what it named
  same_gaps : GapsStay layout.format q.files d image
  same_gaps m less none path at = ap (λ (f : Names). f path) is.names ∙ none path at

  unbegun_rests : IsUnbegun layout q d → IsUnbegun layout (in_span q (kept_to 0 q.files)) image
  unbegun_rests unbegun =
      let (older, header, room, q_is) = unbegun.is in
      record {
        fresh = record {
          none = λ m less path at. ap (λ (f : Names). f path) is.names ∙ unbegun.fresh.none m less path at;
          places = λ m path less at. place_moved path d image is.directories (unbegun.fresh.places m path less at);
          others = names_same layout.own image;
        };
        is = (older, header, 0, ap (λ (x : Spanned R). in_span x (kept_to 0 x.files)) q_is);
      }

  -- a queue without files has none in which a checksum is met
  unbegun_again : IsUnbegun layout q d → (later : Disk) → NoChanceInLast layout.format (kept_to 0 q.files) image later
  unbegun_again unbegun later path id file after at named here there =
      let (older, header, room, q_is) = unbegun.is in
      let one : q.files.last ≡ 1 = ap (λ (x : Spanned R). x.files.last) q_is in
      let limit = told.lawful.limit in
      let none = unbegun.fresh.none q.files.last (omega (arith, one, limit)) path at in
      let there = ap (λ (f : Names). f path) (sym is.names) ∙ named in
      cc (none, there)

  pub lying_rests : LiesQueue layout q d → NoChanceInLast layout.format q.files d image
      → (count : ℕ) × (count ≤ length q.files.pending) × RestsQueue layout (in_span q (kept_to count q.files)) image × ((later : Disk) → IsImage image later → NoChanceInLast layout.format (kept_to count q.files) image later)
  lying_rests there chance = elim there [
    | inl held ↦
        (let (count, within, stopped, again) = held_stops layout told q.files d image is chance held.0 in
        (count, within, inl (stopped, there_same layout q.first q.files.last d image is.names held.1), again))
    | inr unbegun ↦ (0, omega arith, inr (unbegun_rests unbegun), λ later is_later. unbegun_again unbegun later)
  ]

  pub crash_reads : {E V : Type 0} (says : R → Record E V) (count low : ℕ) (f : FileQueue E V) → IsFileQueue says layout.format q.files low q.first d f → (r : ReadAgain f) × IsFileQueue says layout.format (kept_to count q.files) low q.first image (read_files f r)
  crash_reads says count low f all =
      let below = all.below in
      read_one says layout.format q.files (kept_to count q.files) low q.first q.first count d image f same_gaps (omega (arith, below)) (omega arith) refl refl refl refl all

-- what rests lies there
pub rests_lie : {R : Type 0} (layout : QueueLayout R) (q : Spanned R) (d : Disk) → RestsQueue layout q d → LiesQueue layout q d
rests_lie layout q d rests = elim rests [ inl stopped ↦ inl (inr stopped.0, stopped.1) | inr unbegun ↦ inr unbegun ]

pub crash_is_a_step : {R E V : Type 0} (log : TwoQueues R E V) → CrashIsAStep log
crash_is_a_step log two o s image is_so is append_chance rewrite_chance =
    let (a, a_within, a_rests, a_again) = lying_rests log.append two.append s.append s.disk image is (lies log.append two.append o.append s.append s.disk is_so.append) append_chance in
    let (r, r_within, r_rests, r_again) = lying_rests log.rewrite two.rewrite s.rewrite s.disk image is (lies log.rewrite two.rewrite o.rewrite s.rewrite s.disk is_so.rewrite) rewrite_chance in (
      a,
      r,
      a_within,
      r_within,
      record { append = a_rests; rewrite = r_rests },
      record {
        append = rests_lie log.append (in_span s.append (kept_to a s.append.files)) image a_rests;
        rewrite = rests_lie log.rewrite (in_span s.rewrite (kept_to r s.rewrite.files)) image r_rests;
      },
      λ f ties.
          (let (r_read, r_next) = crash_reads log.rewrite two.rewrite s.rewrite s.disk image is log.says r f.rewrite_from f.rewrite ties.rewrite in
          let (a_read, a_next) = crash_reads log.append two.append s.append s.disk image is log.says a f.append_from f.append ties.append in
          (r_read, a_read, record { append = a_next; rewrite = r_next })),
      record { disk = is; append = append_chance; rewrite = rewrite_chance; append_first = refl; rewrite_first = refl },
      λ later then_is append_first rewrite_first. record {
        disk = then_is;
        append = a_again later.disk then_is;
        rewrite = r_again later.disk then_is;
        append_first = append_first;
        rewrite_first = rewrite_first;
      },
    )
