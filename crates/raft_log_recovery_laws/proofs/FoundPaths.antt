-- A file that was found lies where its queue has the file of its place and number.
use Rattle.std.proofs.Common.{◌≡◌, ℕ, ◌<◌, Bool, true, false, List, [], ◌∷◌, ◌++◌, length, get_or, ◌∙◌, ap}
use Rattle.std.proofs.lemmas.List.{get_or_default}
use Rattle.raft_log_record_base.specs.declared.pipe_log.LogQueue.{LogQueue}
use Rattle.raft_log_record_base.specs.declared.pipe_log.LogQueue.TheVariants as queues
use Rattle.raft_log_file_format.specs.Name.{number_text, suffix_of}
use Rattle.raft_log_active_file.specs.Layout.{has_sign, place_of, plain_place}
use Rattle.raft_log_active_file.specs.PlaceLaws.{no_sign, plain_first, plain_second, some_sign}
use Rattle.raft_log_engine_laws.specs.raft_log_active_file.specs.Paths.{numbered_path}
use Rattle.raft_log_recovery_scan.specs.Found.{found_path}
use Rattle.raft_log_recovery_scan.specs.declared.scanning.found.FoundFile.{FoundFile}
use Rattle.raft_log_recovery_laws.specs.Scanned.{kind_of}

-- a directory has both of its places
plain_of : (count place : ℕ) (signed : Bool) → place < count → plain_place count (place_of count place signed) ≡ place
plain_of count place true less = plain_second count place
plain_of count place false less = plain_first count place less

-- and the place says whether there is a sign
sign_of : (count place : ℕ) (signed : Bool) → place < count → has_sign count (place_of count place signed) ≡ signed
sign_of count place true less = some_sign count place
sign_of count place false less = no_sign count place less

-- the path that a queue has for the place of a file that was found
pub numbered_found : (queue : LogQueue) (directories : List (List ℕ)) (f : FoundFile) (n : ℕ) → f.path_id < length directories
    → numbered_path queue directories (place_of (length directories) f.path_id f.signed) n ≡ get_or directories f.path_id [] ++ 47 ∷ (number_text f.signed n ++ suffix_of queue)
numbered_found queue directories f n inside =
    let count : ℕ = length directories in
    let place : ℕ = place_of count f.path_id f.signed in
    let main : List ℕ = get_or directories 0 [] in
    ap (λ (k : ℕ). get_or directories k main ++ 47 ∷ (number_text (has_sign count place) n ++ suffix_of queue)) (plain_of count f.path_id f.signed inside)
    ∙ ap (λ (home : List ℕ). home ++ 47 ∷ (number_text (has_sign count place) n ++ suffix_of queue)) (get_or_default directories f.path_id main [] inside)
    ∙ ap (λ (b : Bool). get_or directories f.path_id [] ++ 47 ∷ (number_text b n ++ suffix_of queue)) (sign_of count f.path_id f.signed inside)

-- a file lies under a path of its number
pub path_found : (queue : LogQueue) (directories : List (List ℕ)) (f : FoundFile) → f.path_id < length directories
    → numbered_path queue directories (place_of (length directories) f.path_id f.signed) f.seq ≡ found_path (kind_of queue) directories f
path_found queues.Append directories f inside = numbered_found queues.Append directories f f.seq inside
path_found queues.Rewrite directories f inside = numbered_found queues.Rewrite directories f f.seq inside
