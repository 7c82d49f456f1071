use Rattle.std.proofs.Common.{sym, ap, subst, ◌∙◌, ◌≡◌, ◌<◌, ℕ, List, Option, Some}
use Rattle.std.specs.Prelude.{length, vec_len}
use Rattle.std.specs.List.{All}
use Rattle.std.specs.List.Sorted.{IsPermutation}
use Rattle.std.specs.Option.{option_map}
use Rattle.raft_log_fs.specs.Disk.{file_limit}
use Rattle.raft_log_fs.specs.Image.{end_of, IsImage}
use Rattle.raft_log_fs.proofs.Public.{image_is_sound}
use Rattle.raft_log_fs_state.specs.declared.files.Stored.{Stored}
use Rattle.raft_log_fs_state.specs.declared.storage.Storage.{Storage}
use Rattle.raft_log_fs_state.specs.Held.{Held, held_of, changes_in}
use Rattle.raft_log_fs_state.specs.Stamps.{stamps_of, place_in, left_held}
use Rattle.raft_log_fs_state.specs.Storage.{contents_of}
use Rattle.raft_log_fs_state.proofs.RemainsLaws.{cloned, ends_short, left_contents, left_is_image, left_stamped}
use Rattle.raft_log_fs_state.proofs.storage.Storage.left.Goals as goal

pub left_files-requires-clause-short : goal.left_files-requires-clause-short
left_files-requires-clause-short c =
    subst (λ (xs : List (Option Stored)). (id : ℕ) (file : Held) → held_of xs id ≡ Some file → All (λ k. end_of k < file_limit) (changes_in file.changes)) (sym c.deref-3.ensures.value)
    (ends_short c.args.self.now c.requires)

abbrev after : goal.After-drop-stamps-2 → Storage
after c = record { alloc = c.args.self.now.alloc; paths = c.in_ok-paths.paths; files = c.in_ok-files.files; made = 0 }

files_of : (c : goal.After-drop-stamps-2) → (q : ℕ) → held_of c.in_ok-files.files.items q ≡ option_map (left_held c.args.what.now (place_in c.in_ok-stamps.stamps.items)) (held_of c.args.self.now.files.items q)
files_of c q =
    c.in_ok-files.ensures.files q
    ∙ (ap (λ (ns : List ℕ). option_map (left_held c.args.what.now (place_in ns)) (held_of c.deref-3.result.now q)) c.deref-2.ensures.value
    ∙ ap (λ (xs : List (Option Stored)). option_map (left_held c.args.what.now (place_in c.in_ok-stamps.stamps.items)) (held_of xs q)) c.deref-3.ensures.value)

perm_of : (c : goal.After-drop-stamps-2) → IsPermutation (stamps_of (held_of c.args.self.now.files.items) (vec_len c.args.self.now.files)) c.in_ok-stamps.stamps.items
perm_of c =
    subst (λ (n : ℕ). IsPermutation (stamps_of (held_of c.args.self.now.files.items) n) c.in_ok-stamps.stamps.items) c.deref.ensures.len
    (subst (λ (xs : List (Option Stored)). IsPermutation (stamps_of (held_of xs) (length c.deref.result.now)) c.in_ok-stamps.stamps.items) c.deref.ensures.value c.in_ok-stamps.ensures.all)

pub returns-clause-contents : goal.returns-clause-contents
returns-clause-contents c =
    let old = c.args.self.now in
    left_contents c.args.what.now old (after c) c.in_ok-stamps.stamps.items c.requires (perm_of c)
    (λ q. cloned old.paths.entries c.in_ok-paths.paths.entries c.in_ok-paths.ensures.cases q) (files_of c)
    (c.in_ok-files.ensures.len ∙ c.deref-3.ensures.len)

pub returns-clause-image : goal.returns-clause-image
returns-clause-image c = subst (IsImage (contents_of c.args.self.now)) (sym (returns-clause-contents c)) (left_is_image c.args.what.now c.args.self.now c.requires)

pub returns-clause-whole : goal.returns-clause-whole
returns-clause-whole c = record {
  sound = image_is_sound (contents_of c.args.self.now) (contents_of (after c)) c.requires.sound (returns-clause-image c);
  stamped = left_stamped c.args.what.now (place_in c.in_ok-stamps.stamps.items) (held_of c.args.self.now.files.items) (held_of c.in_ok-files.files.items) (files_of c);
}
