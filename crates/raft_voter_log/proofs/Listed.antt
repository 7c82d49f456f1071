-- The voters that are listed of a map.
use Rattle.std.proofs.Common.{◌≡◌, ◌∙◌, ℕ, ◌<◌, ◌≤◌, ◌==◌, suc, true, false, List, [], ◌∷◌, None, IsTrue, refl, sym, ap, subst, inl, inr, arith}
use Rattle.std.specs.List.Sorted.{IsStrictlySortedBy}
use Rattle.std.specs.Map.{keys_of, lookup}
use Rattle.std.specs.Ordering.{nat_cmp}
use Rattle.std.proofs.lemmas.Bool.{cases_lt}
use Rattle.std.proofs.lemmas.Bool.Decides.{nat_tests}
use Rattle.std.proofs.lemmas.Map.Keys.{below_from_sorted, sorted_tail}
use Rattle.raft_log_model_laws.specs.Meaning.Slot.{Key}
use Rattle.raft_log_record_frames.specs.Key.{is_internal}
use Rattle.raft_voter_durability_laws.specs.raft_log_engine_laws.specs.EngineState.{LogMap}
use Rattle.raft_voter_outline.specs.State.{State}
use Rattle.raft_voter_records.specs.Voters.{Group, HoldsVoter, IsVoid, IsVoter, voter_key}
use Rattle.raft_voter_records.proofs.Public.{holders_same, one_world}
use Rattle.raft_voter_recovery.specs.Reading.{HoldEach, StoresVoters, world_in}
use Rattle.raft_voter_log.specs.Kept.{KeptVotersAreTold, VotersHaveNoOwnKey}

abbrev Voters : Type 0
Voters = List (ℕ × State)

-- groups that rise from one on
abbrev AreFrom : ℕ → Voters → Type 0
AreFrom low [] = Unit {0}
AreFrom low (e ∷ es) = (low ≤ e.0) × AreFrom (suc e.0) es

rising : (low : ℕ) (e : ℕ × State) (es : Voters) → low ≤ e.0 → IsStrictlySortedBy nat_cmp (keys_of (e ∷ es)) → AreFrom low (e ∷ es)
rising low e [] first sorted = (first, tt)
rising low e (f ∷ es) first sorted =
    let next : e.0 < f.0 = below_from_sorted (keys_of (e ∷ f ∷ es)) 0 1 0 sorted (omega arith) (omega arith) in
    (first, rising (suc e.0) f es (omega (arith, next)) (sorted_tail nat_cmp e.0 (keys_of (f ∷ es)) sorted))

rise : (es : Voters) → IsStrictlySortedBy nat_cmp (keys_of es) → AreFrom 0 es
rise [] sorted = tt
rise (e ∷ es) sorted = rising 0 e es (omega arith) sorted

-- a group below all that are listed isn't
none_below : (g low : ℕ) (es : Voters) → AreFrom low es → g < low → lookup (λ k. k == g) es ≡ None
none_below g low [] from less = refl
none_below g low (e ∷ es) from less =
    let apart : (e.0 == g) ≡ false = let first = from.0 in grind (arith, nat_tests) in
    rw apart (none_below g (suc e.0) es from.1 (let first = from.0 in omega (arith, first, less)))

-- a group that holds a voter isn't void
not_void : (grp : Group) (v : State) → HoldsVoter grp v → IsVoid grp → ⊥
not_void grp v h void = let none = void (Key voter_key) in let head = h.head in cc

-- from one group on nothing stands but in those that are listed
abbrev NoneElse : LogMap → ℕ → Voters → Type 0
NoneElse m low es = (g : ℕ) → low ≤ g → lookup (λ k. k == g) es ≡ None → IsVoid (m g)

none_else : (m : LogMap) (low : ℕ) (e : ℕ × State) (es : Voters) → AreFrom low (e ∷ es) → NoneElse m low (e ∷ es) → NoneElse m (suc e.0) es
none_else m low e es from others g high none =
    let apart : (e.0 == g) ≡ false = grind (arith, nat_tests) in
    let first = from.0 in
    others g (omega (arith, first, high)) (rw apart none)

-- one list alone is of a map
one_list : (m : LogMap) (low : ℕ) (vs ws : Voters) → AreFrom low vs → AreFrom low ws → HoldEach m vs → HoldEach m ws → NoneElse m low vs → NoneElse m low ws → vs ≡ ws
one_list m low [] [] fv fw hv hw nv nw = refl
one_list m low [] (w ∷ ws) fv fw hv hw nv nw = absurd (not_void (m w.0) w.1 hw.0 (nv w.0 fw.0 refl))
one_list m low (v ∷ vs) [] fv fw hv hw nv nw = absurd (not_void (m v.0) v.1 hv.0 (nw v.0 fv.0 refl))
one_list m low (v ∷ vs) (w ∷ ws) fv fw hv hw nv nw = elim (cases_lt v.0 w.0) [
  | inl less ↦ absurd (not_void (m v.0) v.1 hv.0 (nw v.0 fv.0 (none_below v.0 w.0 (w ∷ ws) (omega arith, fw.1) less)))
  | inr more ↦ elim (cases_lt w.0 v.0) [
    | inl less ↦ absurd (not_void (m w.0) w.1 hw.0 (nv w.0 fw.0 (none_below w.0 v.0 (v ∷ vs) (omega arith, fv.1) less)))
    | inr equal ↦
        let same : w.0 ≡ v.0 = omega (arith, more, equal) in
        let held : HoldsVoter (m v.0) w.1 = subst (λ (g : ℕ). HoldsVoter (m g) w.1) same hw.0 in
        let voter : v.1 ≡ w.1 = holders_same v.1 w.1 hv.0 held in
        let next : suc w.0 ≡ suc v.0 = ap suc same in
        let from : AreFrom (suc v.0) ws = subst (λ (n : ℕ). AreFrom n ws) next fw.1 in
        let others : NoneElse m (suc v.0) ws = subst (λ (n : ℕ). NoneElse m n ws) next (none_else m low w ws fw nw) in
        let rest : vs ≡ ws = one_list m (suc v.0) vs ws fv.1 from hv.1 hw.1 (none_else m low v vs fv nv) others in
        let one : v ≡ w = ap (λ (g : ℕ). (g, v.1)) (sym same) ∙ ap (λ (s : State). (w.0, s)) voter in
        ap (λ (e : ℕ × State). e ∷ vs) one ∙ ap (λ (es : Voters). w ∷ es) rest
  ]
]

pub listed_alike : (m : LogMap) (vs ws : Voters) → IsStrictlySortedBy nat_cmp (keys_of vs) → IsStrictlySortedBy nat_cmp (keys_of ws) → StoresVoters vs m → StoresVoters ws m → vs ≡ ws
listed_alike m vs ws one other a b =
    one_list m 0 vs ws (rise vs one) (rise ws other) a.held b.held (λ g low none. a.others g none) (λ g low none. b.others g none)

pub kept_voters_are_told : KeptVotersAreTold
kept_voters_are_told home s W voters keeps lists =
    one_world keeps.map (world_in voters) W (lists.stored home keeps.map keeps.holds).means keeps.means

-- the one key of a voter is none of the log's own
other_key : (k : List ℕ) → IsTrue (is_internal k) → voter_key ≡ k → ⊥
other_key k own is =
    let same : is_internal voter_key ≡ true = ap is_internal is ∙ own in
    absurd (let no : false ≡ true = same in cc)

no_own_key : (grp : Group) (v : State) (k : List ℕ) → IsVoter grp v → IsTrue (is_internal k) → grp (Key k) ≡ None
no_own_key grp v k (inl void) own = void.0 (Key k)
no_own_key grp v k (inr holds) own = holds.keys k (other_key k own)

pub voters_have_no_own_key : VotersHaveNoOwnKey
voters_have_no_own_key m W means g k own = no_own_key (m g) (W g) k (means g) own
