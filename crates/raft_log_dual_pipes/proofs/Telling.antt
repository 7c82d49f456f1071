-- What whoever listens is told, one thing after another.
use Rattle.std.specs.Prelude.{ℕ, zero, suc, ◌+◌, ◌-◌, ◌≤◌, Result, Ok, Err, IfOk, OnErr, List, [], ◌∷◌, ◌++◌}
use Rattle.std.proofs.Common.{◌≡◌, refl, sym, subst, ap, ◌∙◌, arith}
use Rattle.std.proofs.lemmas.List.{append_assoc}
use Rattle.raft_log_record_base.specs.declared.pipe_log.LogQueue.{LogQueue}
use Rattle.raft_log_file_pipe.specs.Appending.{GoesOnBy}
use Rattle.raft_log_file_pipe.specs.declared.pipe_files.PipeFiles.{PipeFiles}
use Rattle.raft_log_dual_pipes.specs.Telling.{BothHear, Hears, Told, begun}

-- a file of a queue that was begun
abbrev pub a_file : LogQueue → ℕ → Told
a_file queue seq = Told.FileBegun (record { queue = queue; seq = seq })

-- who is told these, and then those, is told both, one after another
pub hears_on : {L : Type 0} (hears : Told → L → L → Type 0) (told more : List Told) (a b c : L)
    → Hears hears told a b → Hears hears more b c → Hears hears (told ++ more) a c
hears_on hears [] more a b c same then = subst (λ x. Hears hears more x c) same then
hears_on hears (one ∷ told) more a b c (between, first, rest) then =
    (between, first, hears_on hears told more between b c rest then)

-- who is told one thing
pub hears_one : {L : Type 0} (hears : Told → L → L → Type 0) (one : Told) (a b : L) → hears one a b
    → Hears hears (one ∷ []) a b
hears_one hears one a b at = (b, at, refl)

-- two who are told the same
pub both_hear : {L M : Type 0} (hears : Told → L → L → Type 0) (hears_too : Told → M → M → Type 0) (told : List Told)
    (a c : L) (b d : M) → Hears hears told a c → Hears hears_too told b d
    → Hears (BothHear hears hears_too) told (a, b) (c, d)
both_hear hears hears_too [] a c b d same alike = ap (λ x. (x, d)) same ∙ ap (λ y. (a, y)) alike
both_hear hears hears_too (one ∷ told) a c b d (x, first, rest) (y, second, more) =
    ((x, y), (first, second), both_hear hears hears_too told x c y d rest more)

-- what two are told, the second is
pub second_hears : {L M : Type 0} (hears : Told → L → L → Type 0) (hears_too : Told → M → M → Type 0) (told : List Told)
    (a b : L × M) → Hears (BothHear hears hears_too) told a b → Hears hears_too told a.1 b.1
second_hears {L} {M} hears hears_too [] a b same = ap (λ (x : L × M). x.1) same
second_hears hears hears_too (one ∷ told) a b (between, (first, second), rest) =
    (between.1, second, second_hears hears hears_too told between b rest)

-- nobody is told whatever it is
pub nobody_hears : (told : List Told) (a b : Unit {0}) → Hears (λ one old new. Unit {0}) told a b
nobody_hears [] a b = refl
nobody_hears (one ∷ told) a b = (a, tt, nobody_hears told a b)

pub nobody_hears_ok : {A E : Type 0} (answer : Result A E) (told : A → List Told) (a b : Unit {0})
    → IfOk answer (λ x. Hears (λ one old new. Unit {0}) (told x) a b)
nobody_hears_ok (Ok x) told a b = nobody_hears (told x) a b
nobody_hears_ok (Err e) told a b = tt

pub nobody_hears_err : {A E : Type 0} (answer : Result A E) (told : List Told) (a b : Unit {0})
    → OnErr answer (Hears (λ one old new. Unit {0}) told a b)
nobody_hears_err (Ok x) told a b = tt
nobody_hears_err (Err e) told a b = nobody_hears told a b

-- the files behind a number, one more of them
pub begun_more : (queue : LogQueue) (n count : ℕ) → begun queue n (suc count) ≡ begun queue n count ++ a_file queue (suc (n + count)) ∷ []
begun_more queue n zero = let e : n ≡ n + 0 = omega arith in ap (λ k. a_file queue (suc k) ∷ []) e
begun_more queue n (suc count) =
    let e : suc n + count ≡ n + suc count = omega arith in
    ap (λ ts. a_file queue (suc n) ∷ ts)
    (begun_more queue (suc n) count ∙ ap (λ k. begun queue (suc n) count ++ a_file queue (suc k) ∷ []) e)

-- the files behind a number, in two parts
pub begun_on : (queue : LogQueue) (n count more : ℕ) → begun queue n count ++ begun queue (n + count) more ≡ begun queue n (count + more)
begun_on queue n zero more =
    let e : n + 0 ≡ n = omega arith in let f : more ≡ 0 + more = omega arith in
    ap (λ k. begun queue k more) e ∙ ap (begun queue n) f
begun_on queue n (suc count) more =
    let e : n + suc count ≡ suc n + count = omega arith in
    let f : suc (count + more) ≡ suc count + more = omega arith in
    ap (λ ts. a_file queue (suc n) ∷ ts) (ap (λ k. begun queue (suc n) count ++ begun queue k more) e ∙ begun_on queue (suc n) count more)
    ∙ ap (begun queue n) f

-- one more file was begun
pub hears_more : {L : Type 0} (hears : Told → L → L → Type 0) (queue : LogQueue) (n m : ℕ) (a b c : L) → n ≤ m
    → Hears hears (begun queue n (m - n)) a b → hears (a_file queue (m + 1)) b c → Hears hears (begun queue n (m + 1 - n)) a c
hears_more hears queue n m a b c most so_far then =
    let e : m + 1 - n ≡ suc (m - n) = omega (arith, most) in
    let f : suc (n + (m - n)) ≡ m + 1 = omega (arith, most) in
    subst (λ ts. Hears hears ts a c) (sym (ap (begun queue n) e ∙ begun_more queue n (m - n)
    ∙ ap (λ k. begun queue n (m - n) ++ a_file queue k ∷ []) f))
    (hears_on hears (begun queue n (m - n)) _ a b c so_far (hears_one hears (a_file queue (m + 1)) b c then))

-- all were begun
pub hears_all : {L : Type 0} (hears : Told → L → L → Type 0) (queue : LogQueue) (before end seq n m : ℕ) (a b : L) → before ≡ n → end ≡ m
    → end ≤ seq → seq - before ≤ end - before → Hears hears (begun queue before (seq - before)) a b → Hears hears (begun queue n (m - n)) a b
hears_all hears queue before end seq n m a b is ends past most told =
    let e : seq - before ≡ end - before = omega (arith, past, most) in
    subst (λ k. Hears hears (begun queue k (m - k)) a b) is
    (subst (λ k. Hears hears (begun queue before (k - before)) a b) ends (subst (λ k. Hears hears (begun queue before k) a b) e told))

-- what both are told where a call answered
pub both_hear_ok : {L M A E : Type 0} (hears : Told → L → L → Type 0) (hears_too : Told → M → M → Type 0) (told : A → List Told)
    (a c : L) (b d : M) (answer : Result A E) (x : A) → answer ≡ Ok x → IfOk answer (λ y. Hears hears (told y) a c)
    → Hears hears_too (told x) b d → IfOk answer (λ y. Hears (BothHear hears hears_too) (told y) (a, b) (c, d))
both_hear_ok {L} {M} {A} {E} hears hears_too told a c b d answer x is at too =
    subst (λ (r : Result A E). IfOk r (λ y. Hears hears (told y) a c) → IfOk r (λ y. Hears (BothHear hears hears_too) (told y) (a, b) (c, d)))
    (sym is) (λ at. both_hear hears hears_too (told x) a c b d at too) at

-- what both are told where a call was refused
pub both_hear_err : {L M A E : Type 0} (hears : Told → L → L → Type 0) (hears_too : Told → M → M → Type 0) (told : List Told)
    (a c : L) (b d : M) (answer : Result A E) → OnErr answer (Hears hears told a c)
    → Hears hears_too told b d → OnErr answer (Hears (BothHear hears hears_too) told (a, b) (c, d))
both_hear_err hears hears_too told a c b d (Ok x) at too = tt
both_hear_err hears hears_too told a c b d (Err e) at too = both_hear hears hears_too told a c b d at too

-- a refused record may have the queue go on, and never back
pub grows_when : {A E : Type 0} (answer : Result A E) (count : ℕ) (before after : PipeFiles)
    → OnErr answer (GoesOnBy count before after) → OnErr answer (before.active.seq ≤ after.active.seq)
grows_when (Ok x) count before after near = tt
grows_when (Err e) count before after near = near.0

-- the files behind a number up to another one, and those behind that one
pub begun_through : (queue : LogQueue) (n m k : ℕ) → n ≤ m → m ≤ k
    → begun queue n (m - n) ++ begun queue m (k - m) ≡ begun queue n (k - n)
begun_through queue n m k first then =
    let e : m ≡ n + (m - n) = omega (arith, first) in
    let f : m - n + (k - m) ≡ k - n = omega (arith, first, then) in
    ap (λ x. begun queue n (m - n) ++ begun queue x (k - m)) e ∙ begun_on queue n (m - n) (k - m) ∙ ap (begun queue n) f

-- told of the files up to a number, and then of those behind it and of more
pub hears_further : {L : Type 0} (hears : Told → L → L → Type 0) (queue : LogQueue) (n m k : ℕ) (more : List Told) (a b c : L)
    → n ≤ m → m ≤ k → Hears hears (begun queue n (m - n)) a b → Hears hears (begun queue m (k - m) ++ more) b c
    → Hears hears (begun queue n (k - n) ++ more) a c
hears_further hears queue n m k more a b c first then told rest =
    subst (λ ts. Hears hears ts a c) (sym (append_assoc (begun queue n (m - n)) (begun queue m (k - m)) more)
    ∙ ap (λ ts. ts ++ more) (begun_through queue n m k first then))
    (hears_on hears (begun queue n (m - n)) (begun queue m (k - m) ++ more) a b c told rest)

pub hears_through : {L : Type 0} (hears : Told → L → L → Type 0) (queue : LogQueue) (n m k : ℕ) (a b c : L)
    → n ≤ m → m ≤ k → Hears hears (begun queue n (m - n)) a b → Hears hears (begun queue m (k - m)) b c
    → Hears hears (begun queue n (k - n)) a c
hears_through hears queue n m k a b c first then told rest =
    subst (λ ts. Hears hears ts a c) (begun_through queue n m k first then)
    (hears_on hears (begun queue n (m - n)) (begun queue m (k - m)) a b c told rest)

-- told of a list, and then of one thing more
pub hears_after : {L : Type 0} (hears : Told → L → L → Type 0) (told : List Told) (one next : Told) (a b c : L)
    → Hears hears (told ++ one ∷ []) a b → Hears hears (next ∷ []) b c → Hears hears (told ++ one ∷ next ∷ []) a c
hears_after hears told one next a b c first then =
    subst (λ ts. Hears hears ts a c) (append_assoc told (one ∷ []) (next ∷ []))
    (hears_on hears (told ++ one ∷ []) (next ∷ []) a b c first then)

-- where the queue stands as it stood, no file was begun
pub hears_none : {L : Type 0} (hears : Told → L → L → Type 0) (queue : LogQueue) (n : ℕ) (a : L) → Hears hears (begun queue n (n - n)) a a
hears_none hears queue n a = let e : 0 ≡ n - n = omega arith in subst (λ k. Hears hears (begun queue n k) a a) e refl
