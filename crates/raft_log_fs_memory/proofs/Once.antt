-- The files of a directory have one size in all, and a file may grow by one number of bytes.
use Rattle.std.specs.Prelude.{⊤, ◌≡◌, ℕ, ◌+◌, ◌-◌, ◌<◌, ◌⊎◌, ◌++◌, Option, Some, None, List, [], ◌∷◌, length, suc, zero, sum_by}
use Rattle.std.specs.List.{Contains}
use Rattle.std.proofs.Common.{refl, sym, ◌∙◌, ap, subst, arith, inl, inr, get_or}
use Rattle.std.proofs.lemmas.List.Sums.{sum_by-cons}
use Rattle.raft_log_fs.specs.Disk.{Disk, IsPathIn}
use Rattle.raft_log_fs.proofs.Public.{path_directory}
use Rattle.raft_log_fs_memory.specs.Space.{size_at, HasUsed, unlimited, IsLeftFree, IsFree, MayGrowBy}

-- a name is one of these, by recursion
abbrev pub IsIn : List (List ℕ) → List ℕ → Type 0
IsIn [] n = ⊥
IsIn (m ∷ ms) n = (m ≡ n) ⊎ IsIn ms n

-- none of these stands twice
abbrev pub AreApart : List (List ℕ) → Type 0
AreApart [] = ⊤
AreApart (m ∷ ms) = (IsIn ms m → ⊥) × AreApart ms

place_of : (ms : List (List ℕ)) (n d : List ℕ) → IsIn ms n → (k : ℕ) × (k < length ms) × (get_or ms k d ≡ n)
place_of [] n d is = absurd is
place_of (m ∷ ms) n d (inl here) = (zero, omega arith, here)
place_of (m ∷ ms) n d (inr there) = let found = place_of ms n d there in (suc found.0, omega (arith, found.1), found.2)

in_at : (ms : List (List ℕ)) (n d : List ℕ) (k : ℕ) → k < length ms → get_or ms k d ≡ n → IsIn ms n
in_at [] n d k below is = absurd (omega (arith, below))
in_at (m ∷ ms) n d zero below is = inl is
in_at (m ∷ ms) n d (suc k) below is = inr (in_at ms n d k (omega (arith, below)) is)

contained : (ms : List (List ℕ)) (n : List ℕ) → IsIn ms n → Contains ms n
contained ms n is = place_of ms n n is

is_in : (ms : List (List ℕ)) (n : List ℕ) → Contains ms n → IsIn ms n
is_in ms n has = in_at ms n n has.0 has.1 has.2

all_apart : (ms : List (List ℕ)) → ((j k : ℕ) → j < k → k < length ms → get_or ms j [] ≡ get_or ms k [] → ⊥) → AreApart ms
all_apart [] once = tt
all_apart (m ∷ ms) once = (
  (λ there. let found = place_of ms m [] there in once zero (suc found.0) (omega arith) (omega (arith, found.1)) (sym found.2)),
  all_apart ms (λ j k before below same. once (suc j) (suc k) (omega (arith, before)) (omega (arith, below)) same),
)

-- names without one of them
record Without (f : List ℕ → ℕ) (n : List ℕ) (ms : List (List ℕ)) : Type 0 where
  pub rest : List (List ℕ)
  pub sum : sum_by f ms ≡ f n + sum_by f rest
  pub from : (q : List ℕ) → IsIn rest q → IsIn ms q
  pub to : (q : List ℕ) → IsIn ms q → (q ≡ n) ⊎ IsIn rest q
  pub apart : AreApart rest
  pub gone : IsIn rest n → ⊥

without : (f : List ℕ → ℕ) (n : List ℕ) (ms : List (List ℕ)) → IsIn ms n → AreApart ms → Without f n ms
without f n [] is apart = absurd is
without f n (m ∷ ms) (inl here) (fresh, apart) = record {
  rest = ms;
  sum = sum_by-cons f m ms ∙ ap (λ (q : List ℕ). f q + sum_by f ms) here;
  from = λ q is. inr is;
  to = λ q is. elim is [
    | inl same ↦ inl (sym same ∙ here)
    | inr rest ↦ inr rest
  ];
  apart = apart;
  gone = subst (λ (q : List ℕ). IsIn ms q → ⊥) here fresh;
}
without f n (m ∷ ms) (inr there) (fresh, apart) =
    let less = without f n ms there apart in
    let whole : sum_by f (m ∷ ms) ≡ f m + sum_by f ms = sum_by-cons f m ms in
    let kept : sum_by f (m ∷ less.rest) ≡ f m + sum_by f less.rest = sum_by-cons f m less.rest in
    let gone : sum_by f ms ≡ f n + sum_by f less.rest = less.sum in
    record {
      rest = m ∷ less.rest;
      sum = omega (arith, whole, kept, gone);
      from = λ q is. elim is [
        | inl same ↦ inl same
        | inr more ↦ inr (less.from q more)
      ];
      to = λ q is. elim is [
        | inl same ↦ inr (inl same)
        | inr more ↦ elim (less.to q more) [
          | inl same ↦ inl same
          | inr still ↦ inr (inr still)
        ]
      ];
      apart = ((λ is. fresh (less.from m is)), less.apart);
      gone = λ is. elim is [
        | inl same ↦ fresh (subst (IsIn ms) (sym same) there)
        | inr more ↦ less.gone more
      ];
    }

-- the same names, each once, have one sum
same_sum : (f : List ℕ → ℕ) (ms ns : List (List ℕ)) → AreApart ms → AreApart ns → ((q : List ℕ) → IsIn ms q → IsIn ns q) → ((q : List ℕ) → IsIn ns q → IsIn ms q)
    → sum_by f ms ≡ sum_by f ns
same_sum f [] [] a b to from = refl
same_sum f [] (n ∷ ns) a b to from = absurd (from n (inl refl))
same_sum f (m ∷ ms) ns (fresh, a) b to from =
    let less = without f m ns (to m (inl refl)) b in
    let rest : sum_by f ms ≡ sum_by f less.rest = same_sum f ms less.rest a less.apart
    (λ q is. elim (less.to q (to q (inr is))) [
      | inl same ↦ absurd (fresh (subst (IsIn ms) same is))
      | inr still ↦ still
    ])
    (λ q is. elim (from q (less.from q is)) [
      | inl same ↦ absurd (less.gone (subst (IsIn less.rest) (sym same) is))
      | inr still ↦ still
    ]) in
    let one : sum_by f (m ∷ ms) ≡ f m + sum_by f ms = sum_by-cons f m ms in
    let other : sum_by f ns ≡ f m + sum_by f less.rest = less.sum in
    omega (arith, one, other, rest)

used_once : (directory : List ℕ) (d : Disk) (a b : ℕ) → HasUsed directory d a → HasUsed directory d b → a ≡ b
used_once directory d a b one other =
    let f : List ℕ → ℕ = λ name. size_at d (directory ++ 47 ∷ name) in
    one.sum
    ∙ (same_sum f one.names other.names (all_apart one.names one.listed.once) (all_apart other.names other.listed.once)
    (λ q is. let there = one.listed.listed q (contained one.names q is) in is_in other.names q (other.listed.all q there.1 there.0))
    (λ q is. let there = other.listed.listed q (contained other.names q is) in is_in one.names q (one.listed.all q there.1 there.0))
    ∙ sym other.sum)

left_once : (space : Option ℕ) (directory : List ℕ) (d : Disk) (a b : ℕ) → IsLeftFree space directory d a → IsLeftFree space directory d b → a ≡ b
left_once None directory d a b one other = one ∙ sym other
left_once (Some space) directory d a b (used, has, is) (too, has_too, is_too) =
    is ∙ (ap (λ (n : ℕ). space - n) (used_once directory d used too has has_too) ∙ sym is_too)

no_limit : (space : Option ℕ) (directory : List ℕ) (d : Disk) (a : ℕ) → space ≡ None → IsLeftFree space directory d a → a ≡ unlimited
no_limit None directory d a none is = is
no_limit (Some space) directory d a none is = cc

-- a file may grow by one number of bytes, where no file has two names
pub grows_once : (spaces : List ℕ → Option ℕ) (id : ℕ) (d : Disk) (a b : ℕ) → ((p q : List ℕ) (file : ℕ) → d.names p ≡ Some file → d.names q ≡ Some file → p ≡ q)
    → MayGrowBy spaces id d a → MayGrowBy spaces id d b → a ≡ b
grows_once spaces id d a b one_name (inl (p, in_p, free_p)) (inl (q, in_q, free_q)) =
    let path : in_p.path ≡ in_q.path = one_name in_p.path in_q.path id in_p.named in_q.named in
    let same : p ≡ q = path_directory p q in_q.path (subst (IsPathIn p) path in_p.inside) in_q.inside in
    left_once (spaces q) q d a b (subst (λ (x : List ℕ). IsFree spaces x d a) same free_p) free_q
grows_once spaces id d a b one_name (inl (p, in_p, free_p)) (inr (none, is)) = no_limit (spaces p) p d a (none p in_p) free_p ∙ sym is
grows_once spaces id d a b one_name (inr (none, is)) (inl (q, in_q, free_q)) = is ∙ sym (no_limit (spaces q) q d b (none q in_q) free_q)
grows_once spaces id d a b one_name (inr (none, is)) (inr (none_too, is_too)) = is ∙ sym is_too
