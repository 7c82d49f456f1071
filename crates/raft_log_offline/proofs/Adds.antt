-- What is only added to leaves all that was there, one step further.
use Rattle.std.proofs.Common.{◌≡◌, ℕ, Option, Some, None, List, [], refl, sym, ◌∙◌, ap, subst, arith}
use Rattle.raft_log_fs.specs.Disk.{File, Disk, with_file, at_rest}
use Rattle.raft_log_fs.specs.Calls.{created}
use Rattle.raft_log_fs.proofs.Public.{file_apart, later_same, later_then, name_apart, IsCalm}
use Rattle.raft_log_offline.specs.Copies.{AddsOnly, HasCopy}

pub adds_none : (target : List ℕ) (own : List ℕ → Type 0) (d : Disk) → AddsOnly target own d d
adds_none target own d = record {
  directories = λ path other. refl;
  there = λ path is. is;
  names = λ path other. refl;
  named = λ path id is. is;
  files = λ id file is. is;
  unreadable = refl;
  later = later_same d;
}

pub adds_then : (target : List ℕ) (own : List ℕ → Type 0) (a b c : Disk) → AddsOnly target own a b → AddsOnly target own b c → AddsOnly target own a c
adds_then target own a b c first next = record {
  directories = λ path other. next.directories path other ∙ first.directories path other;
  there = λ path is. next.there path (first.there path is);
  names = λ path other. next.names path other ∙ first.names path other;
  named = λ path id is. next.named path id (first.named path id is);
  files = λ id file is. next.files id file (first.files id file is);
  unreadable = next.unreadable ∙ first.unreadable;
  later = later_then a b c first.later next.later;
}

pub adds_wider : (target : List ℕ) (own wider : List ℕ → Type 0) (a b : Disk) → ((path : List ℕ) → own path → wider path) → AddsOnly target own a b → AddsOnly target wider a b
adds_wider target own wider a b more adds = record {
  directories = adds.directories;
  there = adds.there;
  names = λ path other. adds.names path (λ is. other (more path is));
  named = adds.named;
  files = adds.files;
  unreadable = adds.unreadable;
  later = adds.later;
}

pub adds_calm : (target : List ℕ) (own : List ℕ → Type 0) (old : Disk) → IsCalm (AddsOnly target own old)
adds_calm target own old = record {
  at_count = λ d adds. record {
    directories = adds.directories;
    there = adds.there;
    names = adds.names;
    named = adds.named;
    files = adds.files;
    unreadable = adds.unreadable;
    later = record { failures = omega (arith, adds.later.failures); stopped = adds.later.stopped };
  };
  at_end = λ d adds. record {
    directories = adds.directories;
    there = adds.there;
    names = adds.names;
    named = adds.named;
    files = adds.files;
    unreadable = adds.unreadable;
    later = record { failures = adds.later.failures; stopped = λ is. refl };
  };
}

-- a file that wasn't there changes
pub adds_file : (target : List ℕ) (own : List ℕ → Type 0) (base d : Disk) (id : ℕ) (file : Option File) → AddsOnly target own base d → base.files id ≡ None
    → AddsOnly target own base (with_file id file d)
adds_file target own base d id file adds none = record {
  directories = adds.directories;
  there = adds.there;
  names = adds.names;
  named = adds.named;
  files = λ other was is. file_apart d.files id file other (λ same. let gone = none in absurd cc) ∙ adds.files other was is;
  unreadable = adds.unreadable;
  later = record { failures = adds.later.failures; stopped = adds.later.stopped };
}

-- a file is made under a name that is free
pub adds_created : (target : List ℕ) (own : List ℕ → Type 0) (base d : Disk) (path : List ℕ) → AddsOnly target own base d → own path → d.names path ≡ None → d.files d.unused ≡ None
    → AddsOnly target own base (created path d)
adds_created target own base d path adds is free fresh = record {
  directories = adds.directories;
  there = adds.there;
  names = λ other not. name_apart d.names path (Some d.unused) other (λ same. not (subst own (sym same) is)) ∙ adds.names other not;
  named = λ other id has. let now = adds.named other id has in
      name_apart d.names path (Some d.unused) other (λ same. absurd cc) ∙ now;
  files = λ id file has. let now = adds.files id file has in
      file_apart d.files d.unused (Some (at_rest [])) id (λ same. absurd cc) ∙ now;
  unreadable = adds.unreadable;
  later = record { failures = adds.later.failures; stopped = adds.later.stopped };
}

-- a copy stays while things are added
pub copy_stays : (target : List ℕ) (own : List ℕ → Type 0) (source : ℕ) (to : List ℕ) (old d new : Disk) → AddsOnly target own d new → HasCopy source to old d → HasCopy source to old new
copy_stays target own source to old d new adds has = record {
  file = has.file;
  is = has.is;
  copy = has.copy;
  named = adds.named to has.copy has.named;
  stands = adds.files has.copy _ has.stands;
}

-- a copy of a file that was there before is one of the file as it was then
pub copy_before : (target : List ℕ) (own : List ℕ → Type 0) (source : ℕ) (to : List ℕ) (old d new : Disk) (file : File) → AddsOnly target own old d → old.files source ≡ Some file
    → HasCopy source to d new → HasCopy source to old new
copy_before target own source to old d new file adds is has =
    let then_is = adds.files source file is in
    let now_is = has.is in
    let same : has.file ≡ file = cc in
    record { file = has.file; is = is ∙ ap (λ (f : File). Some f) (sym same); copy = has.copy; named = has.named; stands = has.stands }
