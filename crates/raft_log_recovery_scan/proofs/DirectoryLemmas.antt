-- Directories are made one after another.
use Rattle.std.proofs.Common.{◌≡◌, ℕ, Bool, true, false, cond, List, [], ◌∷◌, ◌++◌, refl, sym, ◌∙◌, ap, subst, inl, inr, arith}
use Rattle.std.specs.Prelude.{Contains}
use Rattle.std.specs.Str.{bytes_eq}
use Rattle.std.specs.declared.io.ErrorKind.{ErrorKind}
use Rattle.std.specs.declared.io.ErrorKind.TheVariants.{OutOfMemory, NotFound}
use Rattle.std.proofs.lemmas.Bool.{cases_Bool, false≢true}
use Rattle.std.proofs.lemmas.List.Elements.{Contains-push, Contains-push_cases, Contains-append_left}
use Rattle.std.proofs.lemmas.Slice.Eq.{bytes_eq-Decides}
use Rattle.raft_log_record_base.specs.declared.errors.Error.TheVariants as errors
use Rattle.raft_log_fs.specs.Disk.{Disk}
use Rattle.raft_log_fs.specs.Arguments.{WrongListing, IsAfterStop, IsDeclined}
use Rattle.raft_log_fs.specs.Calls.{with_directory}
use Rattle.raft_log_fs.specs.Reading.{IsNotListed}
use Rattle.raft_log_recovery_scan.specs.Directories.{IsFreePath, MakesIfAbsent, HasDirectories}

-- what is there, once one more was made

here : (path : List ℕ) (was : Bool) → cond (bytes_eq path path) true was ≡ true
here path was = ap (λ (b : Bool). cond b true was) ((bytes_eq-Decides path path).1 refl)

stays : (b was : Bool) → was ≡ true → cond b true was ≡ true
stays true was is = refl
stays false was is = is

apart : (path other : List ℕ) (was : Bool) → (path ≡ other → ⊥) → cond (bytes_eq path other) true was ≡ was
apart path other was differ = elim (cases_Bool (bytes_eq path other)) [
  | inl hit ↦ absurd (differ ((bytes_eq-Decides path other).0 hit))
  | inr miss ↦ ap (λ (b : Bool). cond b true was) miss
]

pub has_none : (d : Disk) → HasDirectories [] d d
has_none d = record { there = λ path there. absurd (omega (arith, there.1)); others = λ path not. refl; rest = refl }

was_there : (ps : List (List ℕ)) (p : List ℕ) (old mid : Disk) → HasDirectories ps old mid → mid.directories p ≡ true → HasDirectories (ps ++ p ∷ []) old mid
was_there ps p old mid has is = record {
  there = λ q there. elim (Contains-push_cases ps p q there) [ inl before ↦ has.there q before | inr same ↦ subst (λ (r : List ℕ). mid.directories r ≡ true) same is ];
  others = λ q not. has.others q (λ before. not (Contains-append_left ps (p ∷ []) q before));
  rest = has.rest;
}

is_made : (ps : List (List ℕ)) (p : List ℕ) (old mid new : Disk) → HasDirectories ps old mid → new ≡ with_directory p mid → HasDirectories (ps ++ p ∷ []) old new
is_made ps p old mid new has done =
    let at : (q : List ℕ) → new.directories q ≡ cond (bytes_eq p q) true (mid.directories q) = λ q. ap (λ (d : Disk). d.directories q) done in
    record {
      there = λ q there. elim (Contains-push_cases ps p q there) [
        | inl before ↦ at q ∙ stays (bytes_eq p q) (mid.directories q) (has.there q before)
        | inr same ↦ subst (λ (r : List ℕ). new.directories r ≡ true) same (at p ∙ here p (mid.directories p))
      ];
      others = λ q not. at q ∙ (apart p q (mid.directories q) (λ same. not (subst (Contains (ps ++ p ∷ [])) same (Contains-push ps p)))
          ∙ has.others q (λ before. not (Contains-append_left ps (p ∷ []) q before)));
      rest = done ∙ (ap (λ (d : Disk). record d { directories = λ q. cond (bytes_eq p q) true (mid.directories q) }) has.rest
          ∙ sym (ap (λ (ds : List ℕ → Bool). record old { directories = ds }) (ap (λ (d : Disk). d.directories) done)));
    }

pub has_more : (ps : List (List ℕ)) (p : List ℕ) (old mid new : Disk) → HasDirectories ps old mid → MakesIfAbsent p mid new → HasDirectories (ps ++ p ∷ []) old new
has_more ps p old mid new has (inl (is, same)) = subst (HasDirectories (ps ++ p ∷ []) old) (sym same) (was_there ps p old mid has is)
has_more ps p old mid new has (inr made) = is_made ps p old mid new has made.done

-- why a listing was refused

-- after a stop it is told as `Other`
pub after_stop : {wrong : Type 0} {d : Disk} {kind told : ErrorKind} → IsDeclined wrong d kind → d.stopped ≡ true → told ≡ kind → IsAfterStop d told
after_stop (IsDeclined.stopped stop tells) is same = (stop, same ∙ tells)
after_stop (IsDeclined.wrong_argument runs why) is same = absurd (false≢true (sym runs ∙ is))
after_stop (IsDeclined.no_memory runs memory) is same = absurd (false≢true (sym runs ∙ is))

wrong_or_memory : (path : List ℕ) (d : Disk) (kind : ErrorKind) → d.stopped ≡ false → (kind ≡ OutOfMemory → ⊥) → IsNotListed path d kind → WrongListing path d kind
wrong_or_memory path d kind runs other (IsDeclined.stopped is told) = absurd (false≢true (sym runs ∙ is))
wrong_or_memory path d kind runs other (IsDeclined.wrong_argument going why) = why
wrong_or_memory path d kind runs other (IsDeclined.no_memory going is) = absurd (other is)

pub lists_none : (path : List ℕ) (d : Disk) (kind : ErrorKind) → d.stopped ≡ false → (kind ≡ OutOfMemory → ⊥) → kind ≡ NotFound → IsNotListed path d kind → IsFreePath path d
lists_none path d kind runs other is not = elim (wrong_or_memory path d kind runs other not) [ inl file ↦ absurd (let input = file.0 in cc) | inr absent ↦ (absent.1, absent.2) ]
