-- The examples of crashes: what a stop leaves of a record that isn't synced.
use Rattle.std.proofs.Common.{◌≡◌, ℕ, ◌+◌, ◌-◌, ◌≤◌, List, [], ◌∷◌, ◌++◌, length, take, drop, get_or, refl, sym, ◌∙◌, ap, subst, inl, inr, arith, length-append, Contains}
use Rattle.std.proofs.lemmas.List.{append-nil, append_assoc, nil_from_length, drop_at, length-take, length-drop, get_or_append_left, get_or-append_right, get_or-drop}
use Rattle.std.proofs.lemmas.Bool.{cases_lt}
use Rattle.raft_log_fs.specs.Disk.{Change, Wrote}
use Rattle.raft_log_fs.specs.Image.{IsLeft}
use Rattle.raft_log_fs.proofs.Public.{only_at_rest}
use Rattle.raft_log_file_writer.specs.LawsChains.{Written, spelled, AreFrames, BeginsWith, LiesIn, Reads, Meets}
use Rattle.raft_log_file_writer.specs.KeepsSynced.WasWritten.{handed_in, own_record, synced_there}
use Rattle.raft_log_file_writer.specs.KeepsSynced.{NoChanceMatch, StandsBehind}
use Rattle.raft_log_file_writer.specs.CrashExamples.{one_unsynced, TornRecordIsLost, ForeignRecordIsChance, SyncedFileHasNoChance, ForeignRecordBehindIsRefused, RecycledFileMeetsIt}
use Rattle.raft_log_file_writer.proofs.LawsChainLaws.{spelled-append, frames_append, frame_filled, nothing_refuses, cut_off_refuses, reads_further, frames_back}
use Rattle.raft_log_file_writer.proofs.KeepsSyncedLaws.{none_stale, holds_synced, record_lies}

-- bytes behind the synced ones, no more than were written there, may be left
tail_is_left : {R : Type 0} (synced tail : List ℕ) (w : Written R) → length tail ≤ length w.bytes → IsLeft (one_unsynced synced w) (synced ++ tail)
tail_is_left synced tail w less = record {
  kept = λ place inside _. (omega (arith, length-append synced tail), get_or_append_left synced tail 0 place inside);
  within = λ size fits ends. omega (arith, length-append synced tail, ends 0 (Wrote (length synced) w.bytes) (omega arith));
}

only_member : (p q : Change) → Contains (p ∷ []) q → p ≡ q
only_member p q (k, less, is) = elim (cases_lt 0 k) [ inl more ↦ absurd (omega arith) | inr first ↦ (let none : k ≡ 0 = omega arith in sym (ap (λ (n : ℕ). get_or (p ∷ []) n q) none) ∙ is) ]

module _ {R : Type 0} (IsFrame : List ℕ → R → Type 0) where
  -- the synced chain is read, and then what stands behind it
  tail_splits : (front : List ℕ) (durable : List (Written R)) (tail : List ℕ) → drop (length front) ((front ++ spelled durable) ++ tail) ≡ spelled durable ++ tail
  tail_splits front durable tail = ap (λ (b : List ℕ). drop (length front) b) (append_assoc front (spelled durable) tail) ∙ drop_at front (spelled durable ++ tail) (length front) refl

  pub synced_file_has_no_chance : SyncedFileHasNoChance IsFrame
  synced_file_has_no_chance free start file bytes none left own at w meets =
      let framed = frames_back IsFrame meets.before (w ∷ []) meets.begins.frames in
      synced_there (subst (Meets IsFrame start at w) (only_at_rest file bytes none left) meets) (none_stale at w.bytes (frame_filled IsFrame free w.bytes w.value framed.0))

  -- one of the durable records is one of all
  lies_among : (start at : ℕ) (durable before more next : List (Written R)) (w : Written R) → durable ≡ (before ++ w ∷ []) ++ more → at ≡ start + length (spelled before) → LiesIn start (spelled (durable ++ next)) at w.bytes
  lies_among start at durable before more next w is place =
      subst (λ (n : ℕ). LiesIn start (spelled (durable ++ next)) n w.bytes) (sym place)
      (record_lies IsFrame start (durable ++ next) before (more ++ next) w (ap (λ (vs : List (Written R)). vs ++ next) is ∙ append_assoc (before ++ w ∷ []) more next))

  pub torn_record_is_lost : TornRecordIsLost IsFrame
  torn_record_is_lost free front stale durable w landed frames framed less =
      let synced = front ++ spelled durable in
      let torn = take landed w.bytes in
      let bytes = synced ++ torn in
      let start = length front in
      let reads : Reads IsFrame start durable bytes = record {
        rest = torn;
        splits = tail_splits front durable torn;
        frames = frames;
        ends = cut_off_refuses IsFrame free w landed framed less;
      } in
      let chance : NoChanceMatch IsFrame start stale (spelled (durable ++ w ∷ [])) (one_unsynced synced w) bytes = λ at v meets.
      (let more = reads_further IsFrame free start (meets.before ++ v ∷ []) durable bytes meets.begins reads in
      own_record (lies_among start at durable meets.before more.0 (w ∷ []) v more.1 meets.place)) in
      (tail_is_left synced torn w (omega (arith, length-take landed w.bytes)), chance, reads)

  -- a record right behind the synced ones is met there
  met_behind : (front tail : List ℕ) (durable : List (Written R)) (foreign : Written R) → AreFrames IsFrame durable → IsFrame foreign.bytes foreign.value
      → Meets IsFrame (length front) (length front + length (spelled durable)) foreign ((front ++ spelled durable) ++ (foreign.bytes ++ tail))
  met_behind front tail durable foreign frames other = record {
    before = durable;
    begins = record {
      rest = tail;
      splits = tail_splits front durable (foreign.bytes ++ tail) ∙ sym (append_assoc (spelled durable) foreign.bytes tail)
          ∙ ap (λ (b : List ℕ). b ++ tail) (sym (spelled-append durable (foreign ∷ []) ∙ ap (λ (b : List ℕ). spelled durable ++ b) (append-nil foreign.bytes)));
      frames = frames_append IsFrame durable (foreign ∷ []) frames (other, tt);
    };
    place = refl;
  }

  pub foreign_record_behind_is_refused : ForeignRecordBehindIsRefused IsFrame
  foreign_record_behind_is_refused free front stale behind durable pending foreign frames other fresh holds =
      let filled = frame_filled IsFrame free foreign.bytes foreign.value other in
      elim (holds.others (length front + length (spelled durable)) foreign (met_behind front behind durable foreign frames other)) [
        | inl old ↦ fresh old
        | inr inside ↦ absurd (omega (arith, filled, inside.place, ap length inside.splits, length-append inside.ahead (foreign.bytes ++ inside.behind), length-append foreign.bytes inside.behind))
      ]

  pub recycled_file_meets_it : RecycledFileMeetsIt IsFrame
  recycled_file_meets_it front stale durable free frames ends =
      let start = length front in
      let n = length (spelled durable) in
      let tail = drop (start + n) stale in
      let bytes = front ++ (spelled durable ++ tail) in
      let reads : Reads IsFrame start durable bytes = record { rest = tail; splits = drop_at front (spelled durable ++ tail) start refl; frames = frames; ends = ends } in
      let begins : BeginsWith IsFrame start durable bytes = record { rest = tail; splits = reads.splits; frames = frames } in
      let sizes : length bytes ≡ start + (n + length tail) = length-append front (spelled durable ++ tail) ∙ ap (λ (k : ℕ). start + k) (length-append (spelled durable) tail) in
      let stands : StandsBehind (start + n) stale bytes = λ place from less.
      (let shorter : length tail ≡ length stale - (start + n) = length-drop (start + n) stale in
      let back : start + n + (place - start - n) ≡ place = omega (arith, from) in (
        omega (arith, less, sizes, shorter, from),
        get_or-append_right front (spelled durable ++ tail) start place 0 refl (omega (arith, from)) ∙ get_or-append_right (spelled durable) tail n (place - start) 0 refl (omega (arith, from))
            ∙ get_or-drop (start + n) stale (place - start - n) 0 ∙ ap (λ (k : ℕ). get_or stale k 0) back,
      )) in (
        holds_synced IsFrame start free stale durable bytes begins stands,
        λ at w meets.
            (let more = reads_further IsFrame free start (meets.before ++ w ∷ []) durable bytes meets.begins reads in
            own_record (subst (λ (vs : List (Written R)). LiesIn start (spelled vs) at w.bytes) (append-nil durable) (lies_among start at durable meets.before more.0 [] w more.1 meets.place))),
        reads,
      )

  pub foreign_record_is_chance : ForeignRecordIsChance IsFrame
  foreign_record_is_chance free front stale durable w foreign frames framed other less apart =
      let synced = front ++ spelled durable in
      let bytes = synced ++ foreign.bytes in
      let start = length front in
      let at = start + length (spelled durable) in
      let filled = frame_filled IsFrame free foreign.bytes foreign.value other in
      let meets : Meets IsFrame start at foreign bytes = subst (λ (b : List ℕ). Meets IsFrame start at foreign (synced ++ b)) (append-nil foreign.bytes) (met_behind front [] durable foreign frames other) in
      let synced_reads : Reads IsFrame start durable synced = record {
        rest = [];
        splits = drop_at front (spelled durable) start refl ∙ sym (append-nil (spelled durable));
        frames = frames;
        ends = nothing_refuses IsFrame free;
      } in (
        tail_is_left synced foreign.bytes w less,
        λ chance. elim (chance at foreign meets) [
          | own_record inside ↦
              (let whole : spelled (durable ++ w ∷ []) ≡ spelled durable ++ w.bytes = spelled-append durable (w ∷ []) ∙ ap (λ (b : List ℕ). spelled durable ++ b) (append-nil w.bytes) in
              let long : length inside.ahead ≡ length (spelled durable) = omega (arith, inside.place) in
              let here : w.bytes ≡ foreign.bytes ++ inside.behind =
              sym (drop_at (spelled durable) w.bytes (length inside.ahead) (sym long)) ∙ ap (λ (b : List ℕ). drop (length inside.ahead) b) (sym whole ∙ inside.splits) ∙ drop_at inside.ahead (foreign.bytes ++ inside.behind) (length inside.ahead) refl in
              apart (free.apart foreign.bytes w.bytes inside.behind [] foreign.value w.value other framed (sym here ∙ sym (append-nil w.bytes))).0)
          | synced_there there fresh ↦
              (let more = reads_further IsFrame free start (there.before ++ foreign ∷ []) durable synced there.begins synced_reads in
              let sizes = ap length (ap spelled more.1 ∙ spelled-append (there.before ++ foreign ∷ []) more.0) in
              absurd (omega (
                arith,
                filled,
                sizes,
                there.place,
                length-append (spelled (there.before ++ foreign ∷ [])) (spelled more.0),
                ap length (spelled-append there.before (foreign ∷ [])),
                length-append (spelled there.before) (foreign.bytes ++ []),
                length-append foreign.bytes [],
              )))
          | handed_in handed ↦
              (let inside = handed.inside in
              let is : Wrote (length synced) w.bytes ≡ Wrote handed.from handed.all = only_member (Wrote (length synced) w.bytes) (Wrote handed.from handed.all) handed.is in
              let place : length synced ≡ handed.from = cc in
              let same : w.bytes ≡ handed.all = cc in
              let ahead : inside.ahead ≡ [] = nil_from_length inside.ahead (omega (arith, place, inside.place, length-append front (spelled durable))) in
              let whole : foreign.bytes ++ inside.behind ≡ w.bytes ++ [] =
              sym (same ∙ inside.splits ∙ ap (λ (b : List ℕ). b ++ (foreign.bytes ++ inside.behind)) ahead) ∙ sym (append-nil w.bytes) in
              apart (free.apart foreign.bytes w.bytes inside.behind [] foreign.value w.value other framed whole).0)
        ],
      )
