-- The two places of a directory (`has_sign`): file names have no plus sign at the first one, and have one at the
-- second. (These lemmas are in `specs` because the law of an impl cites them.)
use Rattle.std.proofs.Common.{◌≡◌, ℕ, ◌+◌, ◌-◌, ◌<◌, Bool, true, false, cond, ◌∙◌, ap, arith}
use Rattle.std.proofs.lemmas.Bool.{lt-leb, le-leb}
use Rattle.raft_log_active_file.specs.Layout.{has_sign, plain_place}

-- at the first place of a directory, names have no sign
pub no_sign : (count place : ℕ) → place < count → has_sign count place ≡ false
no_sign count place less = lt-leb count place less

-- the first place of a directory is the directory's position
pub plain_first : (count place : ℕ) → place < count → plain_place count place ≡ place
plain_first count place less = ap (λ (b : Bool). cond b (place - count) place) (no_sign count place less)

-- at the second place of a directory, names have a sign
pub some_sign : (count place : ℕ) → has_sign count (count + place) ≡ true
some_sign count place = le-leb count (count + place) (omega arith)

-- the second place of a directory is the directory's position plus the number of directories
pub plain_second : (count place : ℕ) → plain_place count (count + place) ≡ place
plain_second count place =
    ap (λ (b : Bool). cond b (count + place - count) (count + place)) (some_sign count place) ∙ (let same : count + place - count ≡ place = omega arith in same)
