-- The keys of a table that aren't those of settings.
use Rattle.std.proofs.Common.{◌≡◌, ℕ, List, [], ◌∷◌, ◌++◌, String, Global, string_bytes, refl, ap}
use Rattle.std.specs.Prelude.{map, not, filter}
use Rattle.std.specs.Map.{keys_of as map_keys}
use Rattle.toml.specs.View.{members_view}
use Rattle.toml.specs.declared.value.Value.{Value}
use Rattle.raft_log_file_settings.specs.Reading.{dropped_keys, is_setting, keys_of}

abbrev pub Key : Type 0
Key = String Global

-- the dropped ones of some keys
abbrev pub dropped_of : List Key → List (List ℕ)
dropped_of keys = filter (λ key. not (is_setting key)) (map string_bytes keys)

-- the keys of a table are those of its map
pub same_keys : (es : List (Key × Value)) → map string_bytes (map_keys es) ≡ keys_of (members_view es)
same_keys [] = refl
same_keys (e ∷ es) = ap (λ (ks : List (List ℕ)). string_bytes e.0 ∷ ks) (same_keys es)

-- before the first key
pub none_dropped : (texts : List (List ℕ)) (left : List Key) (es : List (Key × Value)) → texts ≡ [] → left ≡ map_keys es
    → texts ++ dropped_of left ≡ dropped_keys (members_view es)
none_dropped texts left es none all = rw (none, all) (ap (filter (λ key. not (is_setting key))) (same_keys es))
