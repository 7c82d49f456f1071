-- Names of log files: a number in sixteen digits, and a suffix that gives the kind of file.
use Rattle.std.specs.Prelude.{◌≡◌, ℕ, ◌<◌, ◌≤◌, ◌-◌, ◌^◌, Bool, true, false, cond, nat_lt, List, ◌∷◌, ◌++◌, length, take, codes, replicate}
use Rattle.std.specs.Str.Parse.{IsNumeral, digits_value, without_leading_plus}
use Rattle.std.specs.Fmt.{decimal}
use Rattle.raft_log_record_base.specs.declared.errors.Error.{Error}
use Rattle.raft_log_record_base.specs.declared.errors.Error.TheVariants as errors
use Rattle.raft_log_record_base.specs.declared.pipe_log.FileId.{FileId}
use Rattle.raft_log_record_base.specs.declared.pipe_log.LogQueue.{LogQueue}
use Rattle.raft_log_record_base.specs.declared.pipe_log.LogQueue.TheVariants.{Append, Rewrite}

-- `bytes` end with `suffix`
abbrev pub EndsWith : List ℕ → List ℕ → Type 0
EndsWith suffix bytes = (front : List ℕ) × (bytes ≡ front ++ suffix)

-- `name` is longer than sixteen bytes, and its first sixteen are the number `n` in digits. The first of the sixteen may
-- be a plus sign.
pub record IsNumberText (name : List ℕ) (n : ℕ) : Type 0 where
  pub longer : 16 < length name
  pub digits : IsNumeral 10 (without_leading_plus (take 16 name))
  pub value : n ≡ digits_value 10 (without_leading_plus (take 16 name))

-- `name` begins with the number `n`, and ends with `suffix`; it may have more in between
abbrev pub IsNamed : List ℕ → List ℕ → ℕ → Type 0
IsNamed suffix name n = IsNumberText name n × EndsWith suffix name

-- the suffix of the names of a queue's files
abbrev pub suffix_of : LogQueue → List ℕ
suffix_of Append = codes ".raftlog"
suffix_of Rewrite = codes ".rewrite"

-- the suffix of the reserved names that Append gives to files that it keeps for recycling
abbrev pub reserved_suffix : List ℕ
reserved_suffix = codes ".raftlog.reserved"

-- a number in sixteen digits, with leading zeros
abbrev pub sixteen_digits : ℕ → List ℕ
sixteen_digits n = replicate (16 - length (decimal n)) 48 ++ decimal n

-- a plus sign, and a number in fifteen digits, with leading zeros
abbrev pub signed_digits : ℕ → List ℕ
signed_digits n = 43 ∷ (replicate (15 - length (decimal n)) 48 ++ decimal n)

-- The limit below which a number has a name. With `true` the name has a plus sign, which leaves fifteen digits for the
-- number.
abbrev pub name_limit : Bool → ℕ
name_limit true = 10 ^ 15
name_limit false = 10 ^ 16

-- the text of a number in a name: with `true` it has a plus sign, if fifteen digits are enough for the number
abbrev pub number_text : Bool → ℕ → List ℕ
number_text true n = cond (nat_lt n (10 ^ 15)) (signed_digits n) (sixteen_digits n)
number_text false n = sixteen_digits n

-- the name that `build_file_name` makes for a file
abbrev pub file_name : FileId → List ℕ
file_name id = sixteen_digits id.seq ++ suffix_of id.queue

-- why a number gets no name: it has more than sixteen digits, or memory ran out
abbrev pub IsNameRefusal : ℕ → Error → Type 0
IsNameRefusal n errors.NumberRange = 10 ^ 16 ≤ n
IsNameRefusal n errors.Memory = Unit {0}
IsNameRefusal _ _ = ⊥

-- `path` consists of the directory `dir`, a slash, and a name that satisfies `named`
abbrev pub IsPathTo : (List ℕ → Type 0) → List ℕ → List ℕ → Type 0
IsPathTo named dir path = (name : List ℕ) × named name × (path ≡ dir ++ 47 ∷ name)

-- `path` is one that the file `id` can have in the directory `dir`
abbrev pub IsFilePath : FileId → List ℕ → List ℕ → Type 0
IsFilePath id dir path = IsPathTo (λ name. IsNamed (suffix_of id.queue) name id.seq) dir path

-- no name has the suffixes of both queues
abbrev pub OneQueueAName : Type 0
OneQueueAName =
    (name : List ℕ) (p q : LogQueue) → EndsWith (suffix_of p) name → EndsWith (suffix_of q) name → p ≡ q
