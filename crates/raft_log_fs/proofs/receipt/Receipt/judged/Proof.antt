-- `judged` makes a value of no bytes, whose ghost field is what the trait says of the answer that the reference shows.
use mathlib.Core.Path.{refl, sym, subst}
use Prim.Native.Nat.{ℕ}
use mathlib.Core.List.{List, [], ◌∷◌, ◌++◌}
use seplogic.Ra.Ura.{Ura}
use mir.Syntax.{Fn, Dict, a_type, dcons, dnil}
use mir.Val.{Val, vptr, vstruct, vcons, vnil}
use mir.MapTy.{inst_fn}
use base.Logic.{SProp, ent, via, fst∗, snd∗}
use base.Fml.{Fml}
use prog.Memory.{Memory}
use prog.Routine.{Routine}
use prog.Wp.{Calls, Loops, WpFn, Tables}
use types.Logic.{Logic, sem}
use contract.Monad.{Fun, fact_use}
use contract.Running.{tables, tables_of}
use sound.WpLaws.{WpFn-mono}
use types.Kit.{‵, raw, ◌⊛◌, ◌$◌, ◌∵◌, !, qed, move, keep, split, join, fjoin, use0, suffices, done}
use types.Run.{no_more, and_then, returns, enter}
use types.Part.{agg}
use types.ByLocal.{alloc_all, pass_all, free_all, look_at, get, sets, env}
use denote.RattleType.{RattleType, owns}
use denote.Memory.{mem}
use denote.Exit.{yes}
use denote.Laws.{Are, Ises, owns_show, showss}
use denote.Param.{param, bounded}
use denote.Param.Laws.{Laws}
use denote.Shadow.{makes_shadow}
use denote.Builtin.{RefOf}
use denote.Signature.{types_at, type_at, plain}
use denote.Steps.{nothing}
use denote.Triple.Clauses.{Clauses, closing}
use denote.Triple.Entry.{on_entry, alive}
use denote.Triple.Spec.{Meets, triple_of}
use denote.Triple.Table.{entered}
use denote.Triple.Walked.{says, Stays, stay_dropped, walk_of, ends_at, Goes-dropped, walk_Meets}
use Rattle.raft_log_fs.specs.declared.receipt.Judged as Judged
use Rattle.raft_log_fs.specs.contracts.receipt.Receipt.judged.{ended, clauses}
use Rattle.raft_log_fs.specs.contracts.receipt.Receipt.judged.Key.{name as #self}
use Rattle.raft_log_fs.proofs.receipt.Receipt.judged.Statement as stated
use Rattle.raft_log_fs.proofs.receipt.Receipt.judged.Code as code

module _ (Y : RattleType) (J : Judged.Ghosts Y.Denot) (D : Dict) where
  abbrev R : RattleType
  R = param 0 Y

  abbrev function : Fn
  function = inst_fn (bounded (a_type ∷ []) (Y, tt) (dcons D dnil)) code.function

  abbrev stayed : Stays (ended Y J D).signature.params (ended Y J D).kept
  stayed = (stay_dropped (RefOf (0 ∷ []) tt (plain (λ _. R)) (λ _. tt)) yes, tt)

module _ (Y : RattleType) (J : Judged.Ghosts Y.Denot) (D : Dict) (L : Laws Y) {M : Type 1} {𝓤 : Ura M} (𝓛 : Logic 𝓤) (at_mem : Memory → SProp 𝓤) (run : Routine → Fun 𝓤) where
  open 𝓛 use {H}

  abbrev held : Clauses 𝓤 (ended Y J D)
  held = clauses Y J D 𝓛 at_mem run

  module _ (C : Calls 𝓤 H) (Λ : Loops 𝓤 H) (z : (walk_of 𝓛 (ended Y J D) (stayed Y J D) held).Ghost) where
    abbrev At : List Val → (walk_of 𝓛 (ended Y J D) (stayed Y J D) held).Ghost
    At us = ((z.0.0, z.0.1, z.0.2, z.0.3, (us, tt)), z.1)

    abbrev Post : List Val → Val → SProp 𝓤
    Post us = (walk_of 𝓛 (ended Y J D) (stayed Y J D) held).post (At us)

    abbrev Goes : List Val → Type 1
    Goes us = ent 𝓤 ((walk_of 𝓛 (ended Y J D) (stayed Y J D) held).pre (At us)) (WpFn 𝓤 H C Λ (function Y J D) (us ++ []) (Post us))

    abbrev b : ℕ
    b = z.0.3.0.ref_ptr.0

    abbrev o : ℕ
    o = z.0.3.0.ref_ptr.1

    abbrev toks : SProp 𝓤
    toks = alive 𝓛 (ended Y J D).signature z.0.0 z.0.1

    abbrev passed : Fml
    passed = owns (types_at (ended Y J D).signature.params z.0.0) z.0.3 (vptr b o ∷ [], tt)

    walks : Goes (vptr b o ∷ [])
    walks =
        let v : Val = vstruct (vcons (vstruct vnil) vnil) in let r : denote.Triple.Entry.Res (ended Y J D).signature z.0.0 = record { marker = record {}; honest = J.is_true z.0.3.0.now } in
        let O : Fml = (type_at (ended Y J D).signature.result z.0.0).own_val r (v ∷ []) in
        qed 𝓛 ((raw toks ⊛ ‵ passed) ∷ raw ((held z.0.0 z.0.3).requires z.1) ∷ []) ∵ split ! $ keep ! (0 ∷ []) $
        enter ! C Λ (function Y J D) (vptr b o ∷ []) _ $ alloc_all ! (λ l. pass_all ! refl ((tt, tt), tt) $
        sets ! (agg ! (no_more !)) refl (tt, tt) $ sets ! (agg ! (and_then ! (get ! refl) (no_more !))) refl (tt, (tt, tt)) $
        returns ! (look_at ! 0 refl) $ free_all ! refl $
        use0 𝓛 (‵ O) (makes_shadow 𝓛 O ((λ vss. (tt, ((λ uss. (tt, tt)), tt))), tt) (((vstruct vnil ∷ [], tt), (refl, ((tt, (refl, tt)), tt))), tt)) $
        suffices ! _ (ends_at 𝓛 (ended Y J D) (stayed Y J D) held (At (vptr b o ∷ [])) v r (tt, tt) (tt, tt)) $ says ! refl $
        nothing ! $ nothing ! $ fjoin ! $ join ! $ move ! (1 ∷ 0 ∷ []) $ join ! $ done !)

  meets : (𝓣 : Tables 𝓤 H) → Meets 𝓛 (ended Y J D).signature (WpFn 𝓤 H 𝓣.C 𝓣.Λ (function Y J D)) (closing 𝓛 (ended Y J D) held)
  meets 𝓣 =
      walk_Meets 𝓛 (ended Y J D) (stayed Y J D) (Goes-dropped 𝓛 2 (RefOf (0 ∷ []) tt (plain (λ _. R Y J D)) (λ _. tt)) yes (λ κs x f. refl), tt) held
      (WpFn 𝓤 H 𝓣.C 𝓣.Λ (function Y J D)) (WpFn-mono 𝓤 H 𝓛.laws 𝓣 (function Y J D))
      (λ z. let a = z.0.3 in let vss = z.0.4 in let Rs : List RattleType = types_at (ended Y J D).signature.params z.0.0 in
      fact_use 𝓤 (Are Rs (Ises Rs) a vss) (via 𝓤 (sem 𝓛 (owns Rs a vss)) (via 𝓤 (on_entry 𝓛 (ended Y J D).signature z.0.0 z.0.1 a vss) (fst∗ 𝓤 (on_entry 𝓛 (ended Y J D).signature z.0.0 z.0.1 a vss) ((held z.0.0 a).requires z.1)) (snd∗ 𝓤 (alive 𝓛 (ended Y J D).signature z.0.0 z.0.1) (sem 𝓛 (owns Rs a vss)))) (owns_show 𝓛 Rs (Ises Rs) (showss 𝓛 Rs) a vss)) (λ are.
      subst (Goes 𝓣.C 𝓣.Λ z) (sym are.0.0) (walks 𝓣.C 𝓣.Λ z)))

pub judged_spec : {M : Type 1} → stated.statement M
unfolding tables_of
judged_spec 𝓤 𝓛 𝓜 𝓡 wired Y laws J D _ =
    let A = 𝓛.A in
    let 𝓣 : Tables 𝓤 𝓛.H = tables_of 𝓤 𝓛.H 𝓜 (tables 𝓤 𝓛.H 𝓜 𝓡 𝓡.env) in
    entered 𝓤 𝓛.H (triple_of 𝓛 (ended Y J D).signature (closing 𝓛 (ended Y J D) (clauses Y J D 𝓛 𝓜.mem 𝓡.returns))) 𝓣.C 𝓣.Λ (#self (bounded (a_type ∷ []) (Y, tt) (dcons D dnil))) (function Y J D) (code.unfolded 𝓤 𝓛.H 𝓜 𝓡 wired (Y, tt) D)
    (meets Y J D laws 𝓛 𝓜.mem 𝓡.returns 𝓣)
