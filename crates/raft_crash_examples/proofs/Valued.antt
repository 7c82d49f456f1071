-- The value that a key has behind changes is what stands under it in the map that took them.
use Rattle.std.proofs.Common.{◌≡◌, ◌==◌, ℕ, Bool, true, false, List, [], ◌∷◌, ◌++◌, map, Option, Some, None, refl, sym, ap, subst, ◌∙◌, if◌then◌else◌}
use Rattle.std.specs.Prelude.{◌&&◌, option_map, unwrap_or, bytes_eq}
use Rattle.std.specs.Global.{Vec}
use Rattle.raft_log_engine.specs.raft_log_model_laws.specs.Groups.{taken}
use Rattle.raft_log_engine.specs.raft_log_model_laws.specs.Meaning.{Content, says}
use Rattle.raft_log_engine.specs.raft_log_model_laws.specs.Meaning.Slot.{Key}
use Rattle.raft_log_engine.specs.raft_log_model_laws.specs.Meaning.Content.{Value}
use Rattle.raft_log_machine_laws.proofs.Public.{taken_twice}
use Rattle.raft_log_engine.specs.raft_log_engine_laws.specs.EngineState.{LogMap}
use Rattle.raft_log_engine.specs.raft_log_engine_laws.specs.Reading.{StandsUnder}
use Rattle.raft_crash_examples.specs.declared.changing.KeyChange.{KeyChange}
use Rattle.raft_crash_examples.specs.Changing.{said_by, word_of}
use Rattle.raft_crash_examples.specs.Keys.{LastChangeCounts, is_of, value_behind}

-- what may stand under a key
abbrev Stood : Type 0
Stood = Option (Content (List ℕ) (List ℕ))

gone : (b : Bool) (before : Stood) (was : Option (List ℕ)) → before ≡ option_map Value was
    → ◌≡◌ {A = Stood} (unwrap_or (if b then Some None else None) before) (option_map Value (if b then None else was))
gone true before was h = refl
gone false before was h = h

put : (b : Bool) (v : List ℕ) (before : Stood) (was : Option (List ℕ)) → before ≡ option_map Value was
    → ◌≡◌ {A = Stood} (unwrap_or (if b then Some (Some (Value v)) else None) before) (option_map Value (if b then Some v else was))
put true v before was h = refl
put false v before was h = h

told : (b : Bool) (l k : List ℕ) (value : Option (Vec ℕ)) (before : Stood) (was : Option (List ℕ)) → before ≡ option_map Value was
    → ◌≡◌ {A = Stood} (unwrap_or (says (Key k) (if b then word_of l value ∷ [] else [])) before)
    (option_map Value (if b && bytes_eq l k then option_map (λ (bytes : Vec ℕ). bytes.items) value else was))
told false l k value before was h = h
told true l k None before was h = gone (bytes_eq l k) before was h
told true l k (Some v) before was h = put (bytes_eq l k) v.items before was h

-- one change
pub changed : (m : LogMap) (c : KeyChange) (g : ℕ) (k : List ℕ) (was : Option (List ℕ)) → StandsUnder m g k was
    → StandsUnder (taken m (said_by c ∷ [])) g k (if is_of g k c then option_map (λ (bytes : Vec ℕ). bytes.items) c.value else was)
changed m c g k was h = told (c.group == g) c.key.items k c.value (m g (Key k)) was h

-- all of them
pub behind : (cs : List KeyChange) (m : LogMap) (g : ℕ) (k : List ℕ) (was : Option (List ℕ)) → StandsUnder m g k was
    → StandsUnder (taken m (map said_by cs)) g k (value_behind g k cs was)
behind [] m g k was h = h
behind (c ∷ cs) m g k was h =
    subst (λ (n : LogMap). StandsUnder n g k (value_behind g k (c ∷ cs) was)) (taken_twice m (said_by c ∷ []) (map said_by cs))
    (behind cs (taken m (said_by c ∷ [])) g k (if is_of g k c then option_map (λ (bytes : Vec ℕ). bytes.items) c.value else was) (changed m c g k was h))

abbrev value_in : Stood → Option (List ℕ)
value_in None = None
value_in (Some (Value v)) = Some v
value_in _ = None

back : (o : Option (List ℕ)) → value_in (option_map Value o) ≡ o
back None = refl
back (Some v) = refl

-- a key has one value
pub one_value : (m : LogMap) (g : ℕ) (k : List ℕ) (a b : Option (List ℕ)) → StandsUnder m g k a → StandsUnder m g k b → a ≡ b
one_value m g k a b one other = sym (back a) ∙ (ap value_in (sym one ∙ other) ∙ back b)

-- The last change.

last_own : (group : ℕ) (key : List ℕ) (cs : List KeyChange) (c : KeyChange) (value : Option (List ℕ)) → is_of group key c ≡ true → value_behind group key (cs ++ c ∷ []) value ≡ option_map (λ (bytes : Vec ℕ). bytes.items) c.value
last_own group key [] c value is = ap (λ (b : Bool). if b then option_map (λ (bytes : Vec ℕ). bytes.items) c.value else value) is
last_own group key (d ∷ ds) c value is = last_own group key ds c (if is_of group key d then option_map (λ (bytes : Vec ℕ). bytes.items) d.value else value) is

last_other : (group : ℕ) (key : List ℕ) (cs : List KeyChange) (c : KeyChange) (value : Option (List ℕ)) → is_of group key c ≡ false → value_behind group key (cs ++ c ∷ []) value ≡ value_behind group key cs value
last_other group key [] c value isnt = ap (λ (b : Bool). if b then option_map (λ (bytes : Vec ℕ). bytes.items) c.value else value) isnt
last_other group key (d ∷ ds) c value isnt = last_other group key ds c (if is_of group key d then option_map (λ (bytes : Vec ℕ). bytes.items) d.value else value) isnt

pub last_change_counts : LastChangeCounts
last_change_counts = record { own = last_own; others = last_other }
