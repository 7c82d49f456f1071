use Rattle.std.specs.List.{AllZip}
use Rattle.std.proofs.Common.{◌<◌, ◌≤◌, ℕ, All, List, map, length, get_or, refl, subst, sym}
use Rattle.std.specs.String.{string_bytes}
use Rattle.std.proofs.lemmas.List.{length-map}
use Rattle.std.proofs.lemmas.List.Elements.{Contains-get_or}
use Rattle.std.proofs.lemmas.List.Sorted.{All-permutation}
use Rattle.raft_log_replay.specs.Segments.{all_batches}
use Rattle.raft_log_recovery_scan.specs.Runs.{IsConsecutive}
use Rattle.raft_log_recovery_scan.specs.declared.scanning.found.FoundFile.{FoundFile}
use Rattle.raft_log_inspection.specs.Intact.{IsIntactFile}
use Rattle.raft_log_inspection.proofs.inspecting.inspect_queue.Goals as goal

pub read_files-requires : goal.read_files-requires
read_files-requires g c =
    let paths = c.args.paths.now in
    let ordered = c.in_ok-found.ensures in
    let P = λ (file : FoundFile). file.path_id < length paths in
    let all : All P ordered.found = λ k e lt. subst (λ (n : ℕ). (get_or ordered.found k e).path_id < n) (length-map paths string_bytes) (ordered.all.found (get_or ordered.found k e) (Contains-get_or ordered.found k e lt)).listed in
    subst (All P) (sym c.as_slice-3.ensures.value) (All-permutation P ordered.found c.in_ok-found.found.items ordered.same all)

pub returns-clause-ok : goal.returns-clause-ok
returns-clause-ok g c = λ honest.
    let d = g.F.FileSystem.disk c.args.files.now in
    let queue = c.args.queue in
    let directories = map string_bytes c.args.paths.now in
    let newest = c.newest_of-newest.result in
    let ordered = c.in_ok-found.ensures in
    let hands = c.in_ok-damages.ensures.ok honest in
    record {
      batches = all_batches hands.segments;
      taken = hands.taken;
      intact = λ clean. record {
        found = ordered.found;
        all = ordered.all;
        files = c.in_ok-found.found.items;
        same = ordered.same;
        consecutive = subst IsConsecutive c.as_slice.ensures.value (c.in_ok-gaps.ensures clean.0);
        newest = newest;
        highest = subst (All (λ (file : FoundFile). file.seq ≤ newest)) c.as_slice-2.ensures.value c.newest_of-newest.ensures;
        segments = hands.segments;
        intact = subst (λ (l : List FoundFile). AllZip (IsIntactFile queue directories d newest) l hands.segments) c.as_slice-3.ensures.value (hands.intact clean.1);
        joined = refl;
      };
    }
