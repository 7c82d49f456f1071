-- A queue begins in its file 1, on a disk on which it has no file.
use Rattle.std.specs.Map.{update}
use Rattle.std.specs.Str.{bytes_eq}
use Rattle.std.proofs.Common.{◌≡◌, ℕ, ◌<◌, Some, List, [], refl, sym, ◌∙◌, ap, subst, inl, inr, arith}
use Rattle.raft_log_model_laws.specs.Item.{Record}
use Rattle.raft_log_fs.specs.Disk.{Disk, at_rest}
use Rattle.raft_log_fs.specs.Image.{IsSound}
use Rattle.raft_log_fs.specs.Calls.{created, counted, at_stop}
use Rattle.raft_log_file_writer.specs.LogFormat.{Format, IsFormat}
use Rattle.raft_log_file_writer.specs.LogQueue.{Past, IsAbsent}
use Rattle.raft_log_fs.proofs.Public.{creation_leaves, file_apart, name_apart, name_case, name_here, named_is_used, names_then, IsCalm}
use Rattle.raft_log_active_file.specs.States.{IsNew}
use Rattle.raft_log_active_file.specs.Standing.{Names, OwnsPaths, Stands}
use Rattle.raft_log_active_file.specs.Beginning.{IsFresh, fresh_queue, BeginsNumbered}
use Rattle.raft_log_active_file.proofs.FileSteps.{new_over}
use Rattle.raft_log_active_file.proofs.Standing.{place_moved}

module _ {R : Type 0} (F : Format R) (own : List ℕ → Type 0) (base : Disk) where
  fresh_same : (d e : Disk) → e.names ≡ d.names → e.directories ≡ d.directories → e.files ≡ d.files → IsFresh F own base d → IsFresh F own base e
  fresh_same d e names directories files fresh = record {
    none = λ m less path at. ap (λ (f : Names). f path) names ∙ fresh.none m less path at;
    places = λ m path less at. place_moved path d e directories (fresh.places m path less at);
    others = record {
      directories = directories ∙ fresh.others.directories;
      names = λ p apart. ap (λ (f : Names). f p) names ∙ fresh.others.names p apart;
      files = λ p j apart named. ap (λ (f : ℕ → _). f j) files ∙ fresh.others.files p j apart named;
    };
  }

  pub fresh_calm : IsCalm (IsFresh F own base)
  fresh_calm = record {
    at_count = λ {error} d fresh. fresh_same d (counted error d) refl refl refl fresh;
    at_end = λ d fresh. fresh_same d (at_stop d) refl refl refl fresh;
  }

  module _ (lawful : IsFormat F) (owns : OwnsPaths F own) where
    -- its first file is made
    pub stands_first : (older : ℕ → Past R) (header to : List ℕ) (old : Disk) → IsSound old → 1 < F.limit → F.IsHeader header → F.IsPath 1 to → IsFresh F own base old
        → Stands F own base (fresh_queue older header) to old.unused (IsNew F (fresh_queue older header)) (update bytes_eq old.names to (Some old.unused)) (created to old)
    stands_first older header to old sound bound head at fresh =
        let leaves = creation_leaves old to sound in
        let next = fresh_queue older header in
        let other_number : (m : ℕ) (other : List ℕ) → m < F.limit → (m ≡ 1 → ⊥) → F.IsPath m other → other ≡ to → ⊥ = λ m other less apart there same.
        apart (lawful.paths m 1 to less bound (subst (F.IsPath m) same there) at) in
        record {
          names = refl;
          bound = bound;
          at = at;
          named = name_here old.names to (Some old.unused);
          alone = λ other j there here. elim (name_case old.names to (Some old.unused) other (Some j) here) [
            | inl (same, is) ↦ cc is
            | inr (apart, is) ↦ (let gone = fresh.none 1 bound other there in cc (gone, is))
          ];
          none = λ m other above less there. name_apart old.names to (Some old.unused) other (other_number m other less (λ e. omega (arith, above, e)) there) ∙ fresh.none m less other there;
          headed = head;
          places = λ m other less there. place_moved other old (created to old) refl (fresh.places m other less there);
          file = record { file = at_rest []; is = leaves.empty; has = new_over F header [] next };
          older = λ m j other below there here.
              (let less : m < F.limit = omega (arith, below, bound) in
              let apart = other_number m other less (λ e. omega (arith, below, e)) there in
              let gone = fresh.none m less other there in
              let was : old.names other ≡ Some j = sym (name_apart old.names to (Some old.unused) other apart) ∙ here in
              cc (gone, was));
          single = λ m i j a b below at_a at_b is_a is_b.
              (let less : m < F.limit = omega (arith, below, bound) in
              let apart = other_number m a less (λ e. omega (arith, below, e)) at_a in
              let gone = fresh.none m less a at_a in
              let was : old.names a ≡ Some i = sym (name_apart old.names to (Some old.unused) a apart) ∙ is_a in
              cc (gone, was));
          others = names_then own base old (created to old) fresh.others (record {
            directories = refl;
            names = λ p theirs. leaves.names p (λ same. theirs (subst own (sym same) (owns 1 to bound at)));
            files = λ p j theirs there. (let below = named_is_used old p j sound there in file_apart old.files old.unused (Some (at_rest [])) j (λ same. omega (arith, below, same)));
          });
        }

-- the numbered files of a queue that begins
pub begins_numbered : {R E V : Type 0} (says : R → Record E V) (F : Format R) → BeginsNumbered says F
begins_numbered says F older header room d absent = record {
  back = 0;
  forth = 0;
  below = omega arith;
  above = omega arith;
  gone = refl;
  full = refl;
  last = refl;
  synced = refl;
  pending = refl;
  behind = tt;
  gap = λ m next. (let zero_is : 0 ≡ m = omega (arith, next) in subst (λ (n : ℕ). IsAbsent F n d) zero_is absent);
}
