use Rattle.std.proofs.Common.{◌≡◌, true, [], inl, inr, refl, sym, subst, ◌∙◌, arith}
use Rattle.std.proofs.lemmas.Bool.{false≢true}
use Rattle.raft_log_purge.specs.raft_log_engine_laws.specs.EngineState.{shows}
use Rattle.raft_log_purge.specs.raft_log_engine_laws.specs.Writing.{WritesBytes}
use Rattle.raft_log_engine_core.specs.Touching.{WritesFiles}
use Rattle.raft_log_record_base.specs.declared.pipe_log.LogQueue.TheVariants.{Append}
use Rattle.raft_log_machine_laws.specs.Calls.Which.{InAppend}
use Rattle.raft_log_dual_pipes.specs.LastFile.{last_of}
use Rattle.raft_log_dual_pipes.proofs.Public.{hears_none}
use Rattle.raft_log_engine_core.proofs.Hearing.{heard_not_synced, heard_synced, heard_unsynced}
use Rattle.raft_log_engine_core.proofs.Put.{not_written as put_not_written, none_unsynced, none_unsynced_files, put_synced, put_synced_files, put_unsynced, put_unsynced_files, unsynced_made}
use Rattle.raft_log_engine_core.proofs.ModelCalls.{had_failed, not_written, written}
use Rattle.raft_log_engine_core.proofs.engine.LogEngine.write.Goals as goal

pub returns-in-Err-clause-err : goal.returns-in-Err-clause-err
returns-in-Err-clause-err g c =
    let s = shows (g.P.PipeLog.shown c.args.self.now.pipes) c.args.self.now.tables c.args.self.now.cache in
    let t = shows (g.P.PipeLog.shown c.sync.new.self.pipes) c.sync.new.self.tables c.sync.new.self.cache in
    none_unsynced c.args.batch.now c.in-Err.error s t c.in-Err.ensures.err

pub returns-in-Ok-sync-clause-ok : goal.returns-in-Ok-sync-clause-ok
returns-in-Ok-sync-clause-ok g c =
    let s = shows (g.P.PipeLog.shown c.args.self.now.pipes) c.args.self.now.tables c.args.self.now.cache in
    let mid = shows (g.P.PipeLog.shown c.put.new.self.pipes) c.put.new.self.tables c.put.new.self.cache in
    let t = shows (g.P.PipeLog.shown c.sync-in-Ok-put.new.self.pipes) c.sync-in-Ok-put.new.self.tables c.sync-in-Ok-put.new.self.cache in
    let asked : c.args.sync ≡ true = grind (arith, c.if-not-sync-2.false) in
    subst (λ k. WritesBytes c.args.batch.now k c.in-Ok-put.len s t) (sym asked)
    (put_synced c.args.batch.now c.in-Ok-put.len s mid t c.in-Ok-put.ensures.ok c.in-Ok-sync.ensures.ok)

pub returns-in-Err-sync-clause-err : goal.returns-in-Err-sync-clause-err
returns-in-Err-sync-clause-err g c =
    let s = shows (g.P.PipeLog.shown c.args.self.now.pipes) c.args.self.now.tables c.args.self.now.cache in
    let mid = shows (g.P.PipeLog.shown c.put.new.self.pipes) c.put.new.self.tables c.put.new.self.cache in
    let t = shows (g.P.PipeLog.shown c.sync-in-Ok-put.new.self.pipes) c.sync-in-Ok-put.new.self.tables c.sync-in-Ok-put.new.self.cache in
    put_unsynced c.args.batch.now c.in-Err-sync.error s mid t c.in-Ok-put.ensures.ok.1 c.in-Err-sync.ensures.err

pub returns-in-Ok-sync-clause-files : goal.returns-in-Ok-sync-clause-files
returns-in-Ok-sync-clause-files g c =
    let v = g.P.PipeLog.shown c.args.self.now.pipes in
    let mid = g.P.PipeLog.shown c.put.new.self.pipes in
    let w = g.P.PipeLog.shown c.sync-in-Ok-put.new.self.pipes in
    let asked : c.args.sync ≡ true = grind (arith, c.if-not-sync-2.false) in
    subst (λ k. WritesFiles c.args.batch.now k v w) (sym asked) (put_synced_files c.args.batch.now v mid w c.in-Ok-put.ensures.files c.in-Ok-sync.ensures.files)

pub returns-in-Err-sync-clause-left : goal.returns-in-Err-sync-clause-left
returns-in-Err-sync-clause-left g c =
    let v = g.P.PipeLog.shown c.args.self.now.pipes in
    let mid = g.P.PipeLog.shown c.put.new.self.pipes in
    let w = g.P.PipeLog.shown c.sync-in-Ok-put.new.self.pipes in
    let asked : c.args.sync ≡ true = grind (arith, c.if-not-sync-2.false) in
    put_unsynced_files c.args.batch.now c.args.sync c.in-Err-sync.error v mid w asked c.in-Ok-put.ensures.files c.in-Err-sync.ensures.left

pub returns-in-Err-clause-left : goal.returns-in-Err-clause-left
returns-in-Err-clause-left g c =
    let v = g.P.PipeLog.shown c.args.self.now.pipes in
    let w = g.P.PipeLog.shown c.sync.new.self.pipes in
    none_unsynced_files c.args.batch.now c.args.sync c.in-Err.error v w (c.if-is_empty.ensures.0 refl) c.if-not-sync.false c.in-Err.ensures.left

pub returns-then-not-sync-2-clause-files : goal.returns-then-not-sync-2-clause-files
returns-then-not-sync-2-clause-files g c =
    let v = g.P.PipeLog.shown c.args.self.now.pipes in
    let w = g.P.PipeLog.shown c.put.new.self.pipes in
    subst (λ k. WritesFiles c.args.batch.now k v w) (sym c.if-not-sync-2.true) (inr (w, c.in-Ok-put.ensures.files, refl))

pub returns-in-Err-put-clause-left : goal.returns-in-Err-put-clause-left
returns-in-Err-put-clause-left g c = inl c.in-Err-put.ensures.left

pub returns-in-Err-clause-made : goal.returns-in-Err-clause-made
returns-in-Err-clause-made g c =
    let s = shows (g.P.PipeLog.shown c.args.self.now.pipes) c.args.self.now.tables c.args.self.now.cache in
    let t = shows (g.P.PipeLog.shown c.sync.new.self.pipes) c.sync.new.self.tables c.sync.new.self.cache in
    unsynced_made c.args.batch.now c.args.batch.now c.in-Err.error s s t c.in-Err.ensures.err

pub returns-in-Err-put-clause-made : goal.returns-in-Err-put-clause-made
returns-in-Err-put-clause-made g c = inl c.in-Err-put.ensures.made

pub returns-in-Err-sync-clause-made : goal.returns-in-Err-sync-clause-made
returns-in-Err-sync-clause-made g c =
    let s = shows (g.P.PipeLog.shown c.args.self.now.pipes) c.args.self.now.tables c.args.self.now.cache in
    let mid = shows (g.P.PipeLog.shown c.put.new.self.pipes) c.put.new.self.tables c.put.new.self.cache in
    let t = shows (g.P.PipeLog.shown c.sync-in-Ok-put.new.self.pipes) c.sync-in-Ok-put.new.self.tables c.sync-in-Ok-put.new.self.cache in
    unsynced_made c.args.batch.now c.put.new.batch c.in-Err-sync.error s mid t c.in-Err-sync.ensures.err

pub returns-then-is_failed-clause-told_less : goal.returns-then-is_failed-clause-told_less
returns-then-is_failed-clause-told_less g c =
    let pipes = g.P.PipeLog in
    inl (inl (tt, refl), hears_none pipes.hears Append (last_of InAppend (pipes.shown c.args.self.now.pipes)) (pipes.listener c.args.self.now.pipes))

pub returns-then-not-sync-clause-told : goal.returns-then-not-sync-clause-told
returns-then-not-sync-clause-told g c =
    let pipes = g.P.PipeLog in
    let v = pipes.shown c.args.self.now.pipes in
    let old = pipes.listener c.args.self.now.pipes in
    heard_unsynced c.args.batch.now c.args.sync pipes.hears v v old old c.if-not-sync.true (inl (c.if-is_empty.ensures.0 refl, refl, refl))

pub returns-in-Ok-clause-told : goal.returns-in-Ok-clause-told
returns-in-Ok-clause-told g c =
    let pipes = g.P.PipeLog in
    let v = pipes.shown c.args.self.now.pipes in
    let old = pipes.listener c.args.self.now.pipes in
    let asked : c.args.sync ≡ true = grind (arith, c.if-not-sync.false) in
    heard_synced c.args.batch.now c.args.sync pipes.hears v v (pipes.shown c.sync.new.self.pipes) old old (pipes.listener c.sync.new.self.pipes)
    asked (inl (c.if-is_empty.ensures.0 refl, refl, refl)) c.sync.ensures.told c.in-Ok.ensures.files

pub returns-in-Err-clause-told_less : goal.returns-in-Err-clause-told_less
returns-in-Err-clause-told_less g c =
    let pipes = g.P.PipeLog in
    let v = pipes.shown c.args.self.now.pipes in
    let old = pipes.listener c.args.self.now.pipes in
    let asked : c.args.sync ≡ true = grind (arith, c.if-not-sync.false) in
    heard_not_synced c.args.batch.now c.args.sync pipes.hears c.in-Err.error v v (pipes.shown c.sync.new.self.pipes) old old (pipes.listener c.sync.new.self.pipes)
    asked c.in-Err.ensures.err.0 (sym c.is_failed.ensures ∙ c.if-is_failed.false) (inl (c.if-is_empty.ensures.0 refl, refl, refl)) c.sync.ensures.told c.in-Err.ensures.left

pub returns-then-not-sync-2-clause-told : goal.returns-then-not-sync-2-clause-told
returns-then-not-sync-2-clause-told g c =
    let pipes = g.P.PipeLog in
    let some : c.args.batch.now.items ≡ [] → ⊥ = λ none. false≢true (sym c.if-is_empty.false ∙ c.is_empty.ensures.1 none) in
    heard_unsynced c.args.batch.now c.args.sync pipes.hears (pipes.shown c.args.self.now.pipes) (pipes.shown c.put.new.self.pipes)
    (pipes.listener c.args.self.now.pipes) (pipes.listener c.put.new.self.pipes) c.if-not-sync-2.true (inr (some, c.in-Ok-put.ensures.told))

pub returns-in-Ok-sync-clause-told : goal.returns-in-Ok-sync-clause-told
returns-in-Ok-sync-clause-told g c =
    let pipes = g.P.PipeLog in
    let asked : c.args.sync ≡ true = grind (arith, c.if-not-sync-2.false) in
    let some : c.args.batch.now.items ≡ [] → ⊥ = λ none. false≢true (sym c.if-is_empty.false ∙ c.is_empty.ensures.1 none) in
    heard_synced c.args.batch.now c.args.sync pipes.hears (pipes.shown c.args.self.now.pipes) (pipes.shown c.put.new.self.pipes) (pipes.shown c.sync-in-Ok-put.new.self.pipes)
    (pipes.listener c.args.self.now.pipes) (pipes.listener c.put.new.self.pipes) (pipes.listener c.sync-in-Ok-put.new.self.pipes)
    asked (inr (some, c.in-Ok-put.ensures.told)) c.sync-in-Ok-put.ensures.told c.in-Ok-sync.ensures.files

pub returns-in-Err-sync-clause-told_less : goal.returns-in-Err-sync-clause-told_less
returns-in-Err-sync-clause-told_less g c =
    let pipes = g.P.PipeLog in
    let asked : c.args.sync ≡ true = grind (arith, c.if-not-sync-2.false) in
    let some : c.args.batch.now.items ≡ [] → ⊥ = λ none. false≢true (sym c.if-is_empty.false ∙ c.is_empty.ensures.1 none) in
    heard_not_synced c.args.batch.now c.args.sync pipes.hears c.in-Err-sync.error (pipes.shown c.args.self.now.pipes) (pipes.shown c.put.new.self.pipes) (pipes.shown c.sync-in-Ok-put.new.self.pipes)
    (pipes.listener c.args.self.now.pipes) (pipes.listener c.put.new.self.pipes) (pipes.listener c.sync-in-Ok-put.new.self.pipes)
    asked c.in-Err-sync.ensures.err.0 (sym c.is_failed.ensures ∙ c.if-is_failed.false) (inr (some, c.in-Ok-put.ensures.told)) c.sync-in-Ok-put.ensures.told c.in-Err-sync.ensures.left

pub returns-in-Err-put-clause-told_less : goal.returns-in-Err-put-clause-told_less
returns-in-Err-put-clause-told_less g c = inl (c.in-Err-put.ensures.left, c.in-Err-put.ensures.told_less)

pub returns-then-is_failed-clause-model : goal.returns-then-is_failed-clause-model
returns-then-is_failed-clause-model g c = had_failed _ _ (sym c.is_failed.ensures ∙ c.if-is_failed.true)

pub returns-then-not-sync-clause-model : goal.returns-then-not-sync-clause-model
returns-then-not-sync-clause-model g c =
    let s = shows (g.P.PipeLog.shown c.args.self.now.pipes) c.args.self.now.tables c.args.self.now.cache in
    let lives = sym c.is_failed.ensures ∙ c.if-is_failed.false in
    written c.args.batch.now c.args.sync s s lives 0
    (subst (λ k. WritesBytes c.args.batch.now k 0 s s) (sym c.if-not-sync.true) (inl (c.if-is_empty.ensures.0 refl, refl, (refl, lives))))

pub returns-in-Ok-clause-model : goal.returns-in-Ok-clause-model
returns-in-Ok-clause-model g c =
    let s = shows (g.P.PipeLog.shown c.args.self.now.pipes) c.args.self.now.tables c.args.self.now.cache in
    let t = shows (g.P.PipeLog.shown c.sync.new.self.pipes) c.sync.new.self.tables c.sync.new.self.cache in
    let asked : c.args.sync ≡ true = grind (arith, c.if-not-sync.false) in
    written c.args.batch.now c.args.sync s t (sym c.is_failed.ensures ∙ c.if-is_failed.false) 0
    (subst (λ k. WritesBytes c.args.batch.now k 0 s t) (sym asked) (inl (c.if-is_empty.ensures.0 refl, refl, c.in-Ok.ensures.ok)))

pub returns-in-Err-clause-model : goal.returns-in-Err-clause-model
returns-in-Err-clause-model g c = not_written c.args.batch.now c.args.sync _ _ (sym c.is_failed.ensures ∙ c.if-is_failed.false) c.in-Err.error (returns-in-Err-clause-err g c)

pub returns-then-not-sync-2-clause-model : goal.returns-then-not-sync-2-clause-model
returns-then-not-sync-2-clause-model g c =
    let s = shows (g.P.PipeLog.shown c.args.self.now.pipes) c.args.self.now.tables c.args.self.now.cache in
    let t = shows (g.P.PipeLog.shown c.put.new.self.pipes) c.put.new.self.tables c.put.new.self.cache in
    written c.args.batch.now c.args.sync s t (sym c.is_failed.ensures ∙ c.if-is_failed.false) c.in-Ok-put.len
    (subst (λ k. WritesBytes c.args.batch.now k c.in-Ok-put.len s t) (sym c.if-not-sync-2.true) (inr c.in-Ok-put.ensures.ok))

pub returns-in-Ok-sync-clause-model : goal.returns-in-Ok-sync-clause-model
returns-in-Ok-sync-clause-model g c = written c.args.batch.now c.args.sync _ _ (sym c.is_failed.ensures ∙ c.if-is_failed.false) c.in-Ok-put.len (returns-in-Ok-sync-clause-ok g c)

pub returns-in-Err-sync-clause-model : goal.returns-in-Err-sync-clause-model
returns-in-Err-sync-clause-model g c = not_written c.args.batch.now c.args.sync _ _ (sym c.is_failed.ensures ∙ c.if-is_failed.false) c.in-Err-sync.error (returns-in-Err-sync-clause-err g c)

pub returns-in-Err-put-clause-model : goal.returns-in-Err-put-clause-model
returns-in-Err-put-clause-model g c =
    let s = shows (g.P.PipeLog.shown c.args.self.now.pipes) c.args.self.now.tables c.args.self.now.cache in
    let t = shows (g.P.PipeLog.shown c.put.new.self.pipes) c.put.new.self.tables c.put.new.self.cache in
    not_written c.args.batch.now c.args.sync s t (sym c.is_failed.ensures ∙ c.if-is_failed.false) c.in-Err-put.error (put_not_written c.args.batch.now c.in-Err-put.error s t c.in-Err-put.ensures.err)
