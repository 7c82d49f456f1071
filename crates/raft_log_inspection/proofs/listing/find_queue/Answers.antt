use Rattle.std.proofs.Common.{List, ℕ, Vec, String, Global, map, subst}
use Rattle.std.specs.String.{string_bytes}
use Rattle.raft_log_fs.specs.Reading.{IsListing}
use Rattle.raft_log_recovery_scan.specs.Found.{AreAmongAll}
use Rattle.raft_log_recovery_scan.specs.declared.file_kind.FileKind.{FileKind}
use Rattle.raft_log_recovery_scan.proofs.Public.{are_files_in, zip_map}
use Rattle.raft_log_inspection.specs.Intact.{kind_of}
use Rattle.raft_log_inspection.proofs.listing.find_queue.Goals as goal

abbrev names_of : Vec (String Global) Global → List (List ℕ)
names_of v = map string_bytes v.items

pub returns : goal.returns
returns g c =
    let d = g.F.FileSystem.disk c.args.files.now in
    let paths = c.args.paths.now in
    let listings = c.in_ok-listings.listings.items in
    let found = c.in_ok-found.found.items in
    let among = subst (λ (k : FileKind). AreAmongAll k 0 (map names_of listings) found) c.kind_of.ensures
    (subst (λ (l : List (Vec (String Global) Global)). AreAmongAll c.kind_of.result 0 (map names_of l) found) c.as_slice.ensures.value c.in_ok-found.ensures.ok) in
    record {
      found = found;
      all = are_files_in (kind_of c.args.queue) (map string_bytes paths) (map names_of listings) d found
          (zip_map (λ directory listed. IsListing directory d listed) string_bytes names_of paths listings c.in_ok-listings.ensures) among;
      same = c.in_ok-sort_by_key.ensures.permutation;
    }
