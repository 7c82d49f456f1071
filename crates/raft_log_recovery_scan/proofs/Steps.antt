-- Lists one element further, and what is refused at one of them.
use Rattle.std.specs.Prelude.{Contains}
use Rattle.std.specs.List.{AllZip}
use Rattle.std.proofs.Common.{◌≡◌, ℕ, zero, suc, ◌+◌, ◌<◌, List, [], ◌∷◌, ◌++◌, length, map, take, drop, get_or, sym, ◌∙◌, ap, subst, arith}
use Rattle.std.proofs.lemmas.List.{take_more, map-append, drop_more, take-append-drop}
use Rattle.raft_log_record_base.specs.declared.errors.Error.{Error}
use Rattle.raft_log_record_base.specs.declared.errors.Error.TheVariants as errors
use Rattle.raft_log_recovery_scan.specs.Names.{FailsToName}
use Rattle.raft_log_recovery_scan.specs.Found.{FailsAmong, FailsAmongAll}
use Rattle.raft_log_recovery_scan.specs.declared.file_kind.FileKind.{FileKind}

pub so_far : {X Y : Type 0} (f : X → Y) (xs : List X) (i : ℕ) (x : X) → i < length xs → x ≡ get_or xs i x → map f (take (i + 1) xs) ≡ map f (take i xs) ++ f x ∷ []
so_far f xs i x lt is = ap (map f) (take_more xs i x lt) ∙ (map-append f (take i xs) (get_or xs i x ∷ []) ∙ ap (λ y. map f (take i xs) ++ f y ∷ []) (sym is))

pub split_at : {X Y : Type 0} (f : X → Y) (xs : List X) (i : ℕ) (x : X) → i < length xs → x ≡ get_or xs i x → map f xs ≡ map f (take i xs) ++ f x ∷ map f (drop (i + 1) xs)
split_at f xs i x lt is =
    ap (map f) (sym (take-append-drop i xs) ∙ ap (λ l. take i xs ++ l) (drop_more xs i x lt))
    ∙ (map-append f (take i xs) (get_or xs i x ∷ drop (i + 1) xs) ∙ ap (λ y. map f (take i xs) ++ f y ∷ map f (drop (i + 1) xs)) (sym is))

in_map : {X Y : Type 0} (f : X → Y) (xs : List X) (x : X) (k : ℕ) → k < length xs → get_or xs k x ≡ x → Contains (map f xs) (f x)
in_map f [] x k lt is = absurd (omega (arith, lt))
in_map f (y ∷ ys) x zero lt is = (0, omega arith, ap f is)
in_map f (y ∷ ys) x (suc k) lt is = let rest = in_map f ys x k (omega (arith, lt)) is in (suc rest.0, omega (arith, rest.1), rest.2)

pub mapped : {X Y : Type 0} (f : X → Y) (xs : List X) (i : ℕ) (x : X) → i < length xs → x ≡ get_or xs i x → Contains (map f xs) (f x)
mapped f xs i x lt is = in_map f xs x i lt (sym is)

pub zip_push : {A B : Type 0} (R : A → B → Type 0) (xs : List A) (ys : List B) (x : A) (y : B) → AllZip R xs ys → R x y → AllZip R (xs ++ x ∷ []) (ys ++ y ∷ [])
zip_push R [] [] x y zip is = (is, tt)
zip_push R [] (b ∷ bs) x y zip is = absurd zip
zip_push R (a ∷ as') [] x y zip is = absurd zip
zip_push R (a ∷ as') (b ∷ bs) x y zip is = (zip.0, zip_push R as' bs x y zip.1 is)

pub zip_map : {A B C D : Type 0} (R : C → D → Type 0) (f : A → C) (g : B → D) (xs : List A) (ys : List B) → AllZip (λ x y. R (f x) (g y)) xs ys → AllZip R (map f xs) (map g ys)
zip_map R f g [] [] zip = tt
zip_map R f g [] (b ∷ bs) zip = absurd zip
zip_map R f g (a ∷ as') [] zip = absurd zip
zip_map R f g (a ∷ as') (b ∷ bs) zip = (zip.0, zip_map R f g as' bs zip.1)

pub fails_among : (kind : FileKind) (names : List (List ℕ)) (name : List ℕ) (error : Error) → Contains names name → FailsToName kind name error → FailsAmong kind names error
fails_among kind names name (errors.Corruption text) there fails = (name, there, fails.0, fails.1)
fails_among kind names name errors.Memory there fails = tt
fails_among kind names name _ there fails = absurd fails

pub fails_among_all : (kind : FileKind) (listings : List (List (List ℕ))) (names : List (List ℕ)) (error : Error) → Contains listings names → FailsAmong kind names error
    → FailsAmongAll kind listings error
fails_among_all kind listings names (errors.Corruption text) there fails = (names, there, fails)
fails_among_all kind listings names errors.Memory there fails = tt
fails_among_all kind listings names _ there fails = absurd fails

pub at_map : {X Y : Type 0} (f : X → Y) (xs : List X) (i : ℕ) (x : X) (d : Y) → i < length xs → x ≡ get_or xs i x → get_or (map f xs) i d ≡ f x
at_map f [] i x d lt is = absurd (omega (arith, lt))
at_map f (y ∷ ys) zero x d lt is = ap f (sym is)
at_map f (y ∷ ys) (suc i) x d lt is = at_map f ys i x d (omega (arith, lt)) is

pub zip_more : {A B : Type 0} (R : A → B → Type 0) (xs : List A) (ys : List B) (i : ℕ) (d : A) (y : B) → i < length xs → AllZip R (take i xs) ys → R (get_or xs i d) y
    → AllZip R (take (i + 1) xs) (ys ++ y ∷ [])
zip_more R xs ys i d y lt zip is = subst (λ l. AllZip R l (ys ++ y ∷ [])) (sym (take_more xs i d lt)) (zip_push R (take i xs) ys (get_or xs i d) y zip is)
