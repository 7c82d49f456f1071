-- The groups that a segment leaves open go on in the next one, group after group.
use Rattle.std.proofs.Common.{◌≡◌, ℕ, ◌==◌, false, if◌then◌else◌, List, [], ◌∷◌, ◌++◌, map, Option, Some, None, refl, sym, ap, ap₂, subst, ◌∙◌, append-nil, length, arith}
use Rattle.std.proofs.lemmas.List.{map-append}
use Rattle.std.proofs.Math.Path.{fun_ext}
use Rattle.raft_log_model_laws.specs.Item.{Record}
use Rattle.raft_log_model_laws.specs.Fragments.Head.{GoesOn, Ends, BeginsAnew}
use Rattle.raft_log_model_laws.specs.Fragments.{carried_on, completed, finish, go_on, head, then_head, unfinished, Head, Unfinished}
use Rattle.raft_log_model_laws.proofs.Public.{at_option, open_in}
use Rattle.raft_log_memtable_index.specs.Shown.{KeyValue}
use Rattle.raft_log_memtable_index.specs.Bridge.{Located}
use Rattle.std.specs.Global.{Vec}
use Rattle.raft_log_replay_context.specs.declared.part.GroupPart.{GroupPart}
use Rattle.raft_log_replay_context.specs.declared.head.GroupHead.{GroupHead}
use Rattle.raft_log_replay_context.specs.declared.head.GroupHead.TheVariants as code
use Rattle.raft_log_replay_context.specs.declared.open_groups.OpenGroup.{OpenGroup}
use Rattle.raft_log_replay_context.specs.OpenGroups.{Begun}
use Rattle.raft_log_replay_context.specs.Records.{ReadItem}
use Rattle.raft_log_replay_context.specs.Pieces.{groups_seen, head_in, parts_seen, unfinished_of, AllGroups, GoesToEnd, PassesOn, Reading}
use Rattle.raft_log_replay_context.proofs.Parts.{groups_push}
use Rattle.raft_log_replay_context.proofs.Fragments.{absent_before, absent_parts, carried_more, completed_more, known_where_open, open_at, AreDistinct}

abbrev pub Heads : Type 0
Heads = ℕ → Head Located KeyValue

module _ (φ : Reading) where
  -- a group that isn't among these and one more is no other, and isn't among these
  pub absent_last : (ys : List Begun) (u : Begun) (n : ℕ) → open_in (map (unfinished_of φ) (ys ++ u ∷ [])) n ≡ None
      → (open_in (map (unfinished_of φ) ys) n ≡ None) × ((u.0 == n) ≡ false)
  absent_last [] u n h = (refl, (absent_parts (u.0 == n) (parts_seen φ u.1) None h).0)
  absent_last (y ∷ ys) u n h =
      let parts = absent_parts (y.0 == n) (parts_seen φ y.1) (open_in (map (unfinished_of φ) (ys ++ u ∷ [])) n) h in
      let rest = absent_last ys u n parts.1 in
      (ap₂ (λ b o. if b then Some (parts_seen φ y.1) else o) parts.0 rest.0, rest.1)

  -- a group that is none of these is none of those of them that go on
  pub goes_on_absent : (us : List (Unfinished Located KeyValue)) (heads : Heads) (n : ℕ) → open_in us n ≡ None → open_in (carried_on us heads) n ≡ None
  goes_on_absent [] heads n h = refl
  goes_on_absent (u ∷ us) heads n h =
      let parts = absent_parts (u.number == n) u.items (open_in us n) h in
      behind (heads u.number) parts.0 (goes_on_absent us heads n parts.1)
    where
      behind : (k : Head Located KeyValue) → (u.number == n) ≡ false → open_in (carried_on us heads) n ≡ None
          → open_in (go_on u.number u.items k ++ carried_on us heads) n ≡ None
      behind (GoesOn ys) apart rest = ap₂ (λ b o. if b then Some (u.items ++ ys) else o) apart rest
      behind (Ends ys) apart rest = rest
      behind BeginsAnew apart rest = rest

  -- a group of those isn't among the ones before it
  pub absent_here : (ys rest all : List Begun) (u : Begun) → ys ++ u ∷ rest ≡ all → AreDistinct (map (unfinished_of φ) all)
      → open_in (map (unfinished_of φ) ys) u.0 ≡ None
  absent_here ys rest all u whole d =
      absent_before (map (unfinished_of φ) ys) ((unfinished_of φ) u) (map (unfinished_of φ) rest)
      (subst AreDistinct (ap (map (unfinished_of φ)) (sym whole) ∙ map-append (unfinished_of φ) ys (u ∷ rest)) d)

  module _ (ys rest all : List Begun) (u : Begun) (whole : ys ++ u ∷ rest ≡ all) (heads : Heads) (h : Head Located KeyValue)
      (same : open_in (map (unfinished_of φ) ys) u.0 ≡ None → h ≡ heads u.0) where
    told : AreDistinct (map (unfinished_of φ) all) → h ≡ heads u.0
    told d = same (absent_here ys rest all u whole d)

    pub left_more : (l k : List (Unfinished Located KeyValue)) → (AreDistinct (map (unfinished_of φ) all) → l ≡ carried_on (map (unfinished_of φ) ys) heads)
        → k ≡ l ++ go_on u.0 (parts_seen φ u.1) h
        → AreDistinct (map (unfinished_of φ) all) → k ≡ carried_on (map (unfinished_of φ) (ys ++ u ∷ [])) heads
    left_more l k so_far step d =
        step ∙ ap₂ (λ a b. a ++ go_on u.0 (parts_seen φ u.1) b) (so_far d) (told d)
        ∙ sym (carried_more (map (unfinished_of φ) ys) ((unfinished_of φ) u) heads)
        ∙ ap (λ a. carried_on a heads) (sym (map-append (unfinished_of φ) ys (u ∷ [])))

    pub done_more : (l k : List ReadItem) → (AreDistinct (map (unfinished_of φ) all) → l ≡ completed (map (unfinished_of φ) ys) heads)
        → k ≡ l ++ finish (parts_seen φ u.1) h
        → AreDistinct (map (unfinished_of φ) all) → k ≡ completed (map (unfinished_of φ) (ys ++ u ∷ [])) heads
    done_more l k so_far step d =
        step ∙ ap₂ (λ a b. a ++ finish (parts_seen φ u.1) b) (so_far d) (told d)
        ∙ sym (completed_more (map (unfinished_of φ) ys) ((unfinished_of φ) u) heads)
        ∙ ap (λ a. completed a heads) (sym (map-append (unfinished_of φ) ys (u ∷ [])))

-- What is handed out.
pub all_push : (P : List GroupPart → Type 0) (pss : List (Vec GroupPart)) (ps : Vec GroupPart) → AllGroups P pss → P ps.items → AllGroups P (pss ++ ps ∷ [])
all_push P [] ps h p = (p, tt)
all_push P (qs ∷ pss) ps h p = (h.0, all_push P pss ps h.1 p)

pub all_turned : (P Q : List GroupPart → Type 0) (pss : List (Vec GroupPart)) → ((ps : List GroupPart) → P ps → Q ps) → AllGroups P pss → AllGroups Q pss
all_turned P Q [] f h = tt
all_turned P Q (ps ∷ pss) f h = (f ps.items h.0, all_turned P Q pss f h.1)

-- what an open group brings is what is made of the group that is handed out for it
pub passed_seen : (φ : Reading) (u : OpenGroup) (h : Option GroupHead) (old new : List (Vec GroupPart)) → PassesOn u h old new
    → groups_seen φ new ≡ groups_seen φ old ++ finish (parts_seen φ u.parts.items) (head_in φ h)
passed_seen φ u None old new p = ap (groups_seen φ) p ∙ sym (append-nil (groups_seen φ old))
passed_seen φ u (Some (code.GoesOn more)) old new p = ap (groups_seen φ) p ∙ sym (append-nil (groups_seen φ old))
passed_seen φ u (Some (code.Ends more)) old new p =
    ap (groups_seen φ) p.1 ∙ groups_push φ old p.0 ∙ ap (λ l. groups_seen φ old ++ l) (p.2 φ)
passed_seen φ u (Some code.BeginsAnew) old new p = ap (groups_seen φ) p ∙ sym (append-nil (groups_seen φ old))

-- and each that is handed out ends there
pub passed_ends : (P : List GroupPart → Type 0) (u : OpenGroup) (h : Option GroupHead) (old new : List (Vec GroupPart)) → PassesOn u h old new → AllGroups P old
    → ((more : Vec GroupPart) → h ≡ Some (code.Ends more) → (ps : Vec GroupPart)
    → ((φ : Reading) → parts_seen φ ps.items ≡ parts_seen φ u.parts.items ++ parts_seen φ more.items) → P ps.items)
    → AllGroups P new
passed_ends P u None old new p all here = subst (AllGroups P) (sym p) all
passed_ends P u (Some (code.GoesOn more)) old new p all here = subst (AllGroups P) (sym p) all
passed_ends P u (Some (code.Ends more)) old new p all here = subst (AllGroups P) (sym p.1) (all_push P old p.0 all (here more refl p.0 p.2))
passed_ends P u (Some code.BeginsAnew) old new p all here = subst (AllGroups P) (sym p) all

-- these are the records of a group of those, up to its end in the next segment
abbrev pub IsHandedOut : List Begun → (Reading → Heads) → List GroupPart → Type 0
IsHandedOut all heads ps =
    (n : ℕ) × ((φ : Reading) → AreDistinct (map (unfinished_of φ) all) → GoesToEnd φ (open_in (map (unfinished_of φ) all) n) (heads φ n) ps)

pub ends_now : (ys rest all : List Begun) (u : Begun) → ys ++ u ∷ rest ≡ all → (heads : Reading → Heads) (h : Option GroupHead)
    → ((φ : Reading) → open_in (map (unfinished_of φ) ys) u.0 ≡ None → head_in φ h ≡ heads φ u.0)
    → (more : Vec GroupPart) → h ≡ Some (code.Ends more) → (ps : List GroupPart)
    → ((φ : Reading) → parts_seen φ ps ≡ parts_seen φ u.1 ++ parts_seen φ more.items) → IsHandedOut all heads ps
ends_now ys rest all u whole heads h same more is ps parts = (
  u.0,
  λ φ d.
      let split = ap (map (unfinished_of φ)) (sym whole) ∙ map-append (unfinished_of φ) ys (u ∷ rest) in
      let here = subst AreDistinct split d in
      record {
        so_far = parts_seen φ u.1;
        behind = parts_seen φ more.items;
        begun = ap (λ l. open_in l u.0) split ∙ open_at (map (unfinished_of φ) ys) (unfinished_of φ u) (map (unfinished_of φ) rest) here;
        ends = sym (same φ (absent_before (map (unfinished_of φ) ys) (unfinished_of φ u) (map (unfinished_of φ) rest) here)) ∙ ap (head_in φ) is;
        parts = parts φ;
      },
)

-- what is left of the next segment's heads says as much
pub left_says : (rs : List (Record Located KeyValue)) (us : List (Unfinished Located KeyValue)) (heads left : Heads) → us ≡ unfinished rs
    → ((n : ℕ) → open_in us n ≡ None → left n ≡ heads n)
    → (n : ℕ) → then_head (head n [] rs) (left n) ≡ then_head (head n [] rs) (heads n)
left_says rs us heads left all same n =
    at_option (open_in us n) (λ _. then_head (head n [] rs) (left n) ≡ then_head (head n [] rs) (heads n))
    (λ none. ap (then_head (head n [] rs)) (same n none))
    (λ y there.
    let known = known_where_open rs n y (ap (λ l. open_in l n) (sym all) ∙ there) in
    known (left n) ∙ sym (known (heads n)))

pub none_left : {A : Type 0} (xs : List A) → length xs ≡ 0 → xs ≡ []
none_left [] h = refl
none_left (x ∷ xs) h = absurd (omega arith)

pub all_came_of : {A : Type 0} (ys rest all : List A) → ys ++ rest ≡ all → rest ≡ [] → ys ≡ all
all_came_of ys rest all whole none = sym (append-nil ys) ∙ ap (λ l. ys ++ l) (sym none) ∙ whole

pub all_came : (ys rest all : List Begun) → ys ++ rest ≡ all → rest ≡ [] → ys ≡ all
all_came ys rest all whole none = sym (append-nil ys) ∙ ap (λ l. ys ++ l) (sym none) ∙ whole

pub same_heads : (h k : Heads) → ((n : ℕ) → h n ≡ k n) → h ≡ k
same_heads h k same = fun_ext same
