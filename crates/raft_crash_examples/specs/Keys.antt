-- Changes of keys, and the value of a key after them.
use Rattle.std.specs.Prelude.{◌≡◌, ◌==◌, ◌&&◌, ℕ, List, [], ◌∷◌, ◌++◌, Bool, true, false}
use Rattle.std.specs.Prelude.{Option, option_map, if◌then◌else◌, bytes_eq}
use Rattle.raft_crash_examples.specs.declared.changing.KeyChange.{KeyChange}

-- whether `c` changes this key of this group
abbrev pub is_of : ℕ → List ℕ → KeyChange → Bool
is_of group key c = (c.group == group) && bytes_eq c.key.items key

-- the value of a key after these changes, if it had `value` before: the value of the last change of this key, or
-- `value` if no change is of this key
abbrev pub value_behind : ℕ → List ℕ → List KeyChange → Option (List ℕ) → Option (List ℕ)
value_behind group key [] value = value
value_behind group key (c ∷ cs) value = value_behind group key cs
    (if is_of group key c then option_map (λ bytes. bytes.items) c.value else value)

-- If the last change is one of this key, the key has the value of this change, or none if the change deletes the key.
-- If the last change is one of another key, this key has the same value as without it.
pub record LastChangeCounts : Type 0 where
  pub own : (group : ℕ) (key : List ℕ) (cs : List KeyChange) (c : KeyChange) (value : Option (List ℕ))
      → is_of group key c ≡ true
      → value_behind group key (cs ++ c ∷ []) value ≡ option_map (λ bytes. bytes.items) c.value
  pub others : (group : ℕ) (key : List ℕ) (cs : List KeyChange) (c : KeyChange) (value : Option (List ℕ))
      → is_of group key c ≡ false → value_behind group key (cs ++ c ∷ []) value ≡ value_behind group key cs value
