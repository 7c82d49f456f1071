-- A change that was undone, beside one that was made and cut off.
use Rattle.std.specs.Prelude.{ℕ, ◌≤◌, List, [], ◌∷◌, ◌++◌, Some, length}
use Rattle.std.specs.List.{All}
use Rattle.std.proofs.Common.{refl, arith}
use Rattle.std.proofs.lemmas.List.Elements.{All-push, All-pop}
use Rattle.raft_log_fs.specs.Disk.{Change, ShortenedTo, File}
use Rattle.raft_log_fs.specs.Image.{Spares, end_of, IsLeft, IsSoundFile}
use Rattle.raft_log_fs.specs.Calls.{with_change}
use Rattle.raft_log_fs_traced.specs.Device.{undone_change}
use Rattle.raft_log_fs_traced.specs.Undoing.{UndoneIsAsCut}

front : (P : Change → Type 0) (changes : List Change) (last : Change) → All P (changes ++ last ∷ []) → All P changes
front P changes last all = (All-pop P (changes ++ last ∷ []) changes (Some last) refl all).0

module _ (file : File) (change : Change) (content bytes : List ℕ) (sound : IsSoundFile file) where
  abbrev tried : List Change
  tried = file.changes ++ change ∷ []

  abbrev cut : Change
  cut = ShortenedTo (length file.content)

  as_cut : IsLeft (undone_change change file) bytes → IsLeft (with_change cut file.content (with_change change content file)) bytes
  as_cut left = record {
    kept = λ place below spared. left.kept place below (front (Spares place) tried cut spared);
    within = λ size fits ends. left.within size fits (front (λ p. end_of p ≤ size) tried cut ends);
  }

  as_undone : IsLeft (with_change cut file.content (with_change change content file)) bytes → IsLeft (undone_change change file) bytes
  as_undone left = record {
    kept = λ place below spared.
        let inside = sound.stands.kept place below (front (Spares place) file.changes change spared) in
        left.kept place below (All-push (Spares place) tried cut spared (λ past. omega (arith, past, inside.0)));
    within = λ size fits ends. left.within size fits (All-push (λ p. end_of p ≤ size) tried cut ends (omega arith));
  }

pub undone_is_as_cut : UndoneIsAsCut
undone_is_as_cut file change content bytes sound = (as_cut file change content bytes sound, as_undone file change content bytes sound)
