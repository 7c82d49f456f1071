-- Records and requests that were compared with a history.
use Rattle.std.proofs.Common.{◌≡◌, ℕ, zero, suc, ◌+◌, ◌<◌, List, [], ◌∷◌, ◌++◌, length, take, set, get_or, slice_get, Option, None, Some, refl, sym, subst, ap, ◌∙◌, arith}
use Rattle.std.specs.List.{All}
use Rattle.std.proofs.Math.Seq.{take-length}
use Rattle.std.proofs.lemmas.List.{set-get_or}
use Rattle.std.proofs.lemmas.List.Elements.{All-more}
use Rattle.raft_log_shared.specs.declared.served.Served.{Served}
use Rattle.raft_log_shared.specs.History.{HasPart}
use Rattle.raft_log_shared.specs.Receipts.{IsIn, Stamp}
use Rattle.raft_log_shared.specs.Requests.{IsAsked, Wish, asked, batch_of, sync_of}

-- Receipts.

-- one receipt more was compared with the history, and is as it was
pub receipts_same : (rs now : List Stamp) (index : ℕ) (item after : Stamp) → now ≡ rs → after ≡ get_or now index item → set now index after ≡ rs
receipts_same rs now index item after same is = ap (set now index) is ∙ set-get_or now index item ∙ same

pub found_more : (history keeper : List Served) (rs now : List Stamp) (index : ℕ) (item : Stamp) → index < length rs → keeper ≡ history → now ≡ rs
    → All (λ r. IsIn history r) (take index rs) → IsIn keeper (get_or now index item) → All (λ r. IsIn history r) (take (index + 1) rs)
found_more history keeper rs now index item inside kept same so_far here =
    All-more (λ r. IsIn history r) rs index item inside so_far
    (subst (λ (h : List Served). IsIn h (get_or rs index item)) kept (subst (λ (l : List Stamp). IsIn keeper (get_or l index item)) same here))

pub found_all : (history : List Served) (rs : List Stamp) (index : ℕ) → index ≡ length rs → All (λ r. IsIn history r) (take index rs) → All (λ r. IsIn history r) rs
found_all history rs index all so_far =
    subst (λ (l : List Stamp). All (λ r. IsIn history r) l) (ap (λ (n : ℕ). take n rs) all ∙ take-length rs) so_far

-- Requests.

-- a part of one record is at its place
get_here : (before later : List Served) (r : Served) (place : ℕ) → length before ≡ place → slice_get (before ++ (r ∷ later)) place ≡ Some r
get_here [] later r zero at = refl
get_here [] later r (suc place) at = absurd (omega (arith, at))
get_here (x ∷ before) later r zero at = absurd (omega (arith, at))
get_here (x ∷ before) later r (suc place) at = get_here before later r place (omega (arith, at))

part_at : (history : List Served) (place : ℕ) (r : Served) → HasPart history place (r ∷ []) → slice_get history place ≡ Some r
part_at history place r h = ap (λ (l : List Served). slice_get l place) h.is ∙ get_here h.before h.later r place h.at

-- the record that there is, or another one
abbrev in_some : Served → Option Served → Served
in_some none None = none
in_some none (Some s) = s

-- two requests of one number are the same
pub same_wish : (asks : List Served) (a b : Wish) → IsAsked asks a → IsAsked asks b → b.number ≡ a.number → b ≡ a
same_wish asks a b first second same =
    let there : slice_get asks a.number ≡ Some (asked a.batch a.sync) = part_at asks a.number (asked a.batch a.sync) first in
    let here : slice_get asks b.number ≡ Some (asked b.batch b.sync) = part_at asks b.number (asked b.batch b.sync) second in
    let one : asked b.batch b.sync ≡ asked a.batch a.sync =
    ap (in_some (asked b.batch b.sync)) (sym here ∙ ap (slice_get asks) same ∙ there) in
    let batch : b.batch ≡ a.batch = ap (λ (s : Served). batch_of s.call) one in
    let sync : b.sync ≡ a.sync = ap (λ (s : Served). sync_of s.call) one in
    λ i. record { number = same i; batch = batch i; sync = sync i }
