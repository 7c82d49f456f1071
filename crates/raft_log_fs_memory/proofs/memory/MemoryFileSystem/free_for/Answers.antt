use Rattle.std.proofs.Common.{rules, sym, subst, refl, ◌∙◌, ◌≡◌, ◌∷◌, [], List, ℕ, map, inl, inr, Global, String}
use Rattle.std.specs.Map.Iter.{deref_pair}
use Rattle.std.proofs.lemmas.Bool.{false≢true}
use Rattle.std.proofs.lemmas.List.{map-append}
use Rattle.std.proofs.lemmas.Map.Iter.{iter_end}
use Rattle.raft_log_fs_state.proofs.Public.{stands_pushed, Stands}
use Rattle.raft_log_fs_memory.specs.Memory.{disk_of}
use Rattle.raft_log_fs_memory.specs.Space.{LiesIn}
use Rattle.raft_log_fs_memory.proofs.Space.{no_space}
use Rattle.raft_log_fs_memory.proofs.memory.MemoryFileSystem.free_for.Goals as goal

pub loop-directory-preserved : goal.loop-directory-preserved
loop-directory-preserved c = λ directory space stands lies.
    let d = disk_of c.args.self.now in
    let so_far = map deref_pair c.loop-directory.yielded in
    let e : String Global × ℕ = (c.in-Some.directory.now, c.in-Some.field-0-1.now) in
    elim (stands_pushed so_far e directory space
    (subst (λ (es : List (String Global × ℕ)). Stands es directory space) (map-append deref_pair c.loop-directory.yielded ((c.in-Some.directory, c.in-Some.field-0-1) ∷ [])) stands)) [
      | inl before ↦ c.loop-directory.invariant directory space before lies
      | inr last ↦ false≢true (c.if-lies_in.ensures.1 (subst (λ (p : List ℕ). LiesIn c.args.file p d) (sym last ∙ sym c.deref.ensures) lies))
    ]

pub returns : goal.returns
returns c =
    let spaces = c.args.self.now.spaces in
    let d = disk_of c.args.self.now in
    let all : map deref_pair c.loop-directory.yielded ≡ spaces.entries = search (rules, iter_end) in
    inr (
      no_space spaces (λ (directory : List ℕ). LiesIn c.args.file directory d)
          (subst (λ (es : List (String Global × ℕ)). (directory : List ℕ) (space : ℕ) → Stands es directory space → LiesIn c.args.file directory d → ⊥) all c.loop-directory.invariant),
      refl,
    )
