-- What the table of a group shows is what the engine's tables show of the group.
use Rattle.std.proofs.Common.{◌≡◌, ℕ, List, Option, Some, None, option_map, unwrap_or, refl, sym, ap, subst, ◌∙◌}
use Rattle.std.specs.Prelude.{IfOk, Result, Ok, Err}
use Rattle.std.specs.BTreeMap.{get}
use Rattle.std.specs.Ordering.{nat_cmp}
use Rattle.raft_log_memtable_index.specs.Shown.{Shown, nothing_shown}
use Rattle.raft_log_memtable_index.specs.Bridge.{bytes_held}
use Rattle.raft_log_memtable.specs.Table.{Raw, shown}
use Rattle.raft_log_memtable.specs.Reads.{first_of, last_of}
use Rattle.raft_log_memtables.specs.declared.group_table.GroupTable.{GroupTable}
use Rattle.raft_log_memtables.specs.declared.mem_tables.MemTables.{MemTables}
use Rattle.raft_log_memtables.specs.Tables.{raw_of, shown_in, shown_of}
use Rattle.raft_log_purge.specs.raft_log_engine_laws.specs.EngineState.{EngineState}
use Rattle.raft_log_purge.specs.raft_log_engine_laws.specs.Reading.{ReadsFirst, ReadsLast, ReadsValue}
use Rattle.raft_log_purge.specs.raft_log_engine_laws.proofs.Public.{tables_tell}

raw_in : (o : Option GroupTable) (t : Raw) → Some t ≡ option_map (λ x. x.table) o → shown_in o ≡ shown t
raw_in None t is = absurd (let never : ⊥ = cc in never)
raw_in (Some x) t is = ap shown (sym (ap (λ (o : Option Raw). unwrap_or o t) is))

none_in : (o : Option GroupTable) → ◌≡◌ {A = Option Raw} None (option_map (λ x. x.table) o) → shown_in o ≡ nothing_shown
none_in None is = refl
none_in (Some x) is = absurd (let never : ⊥ = cc in never)

-- the group's table shows what is shown of the group
pub raw_shown : (m : MemTables) (g : ℕ) (t : Raw) → Some t ≡ raw_of m g → shown_of m g ≡ shown t
raw_shown m g t is = raw_in (get nat_cmp m.groups g) t is

-- where it has none, nothing shows
pub none_shown : (m : MemTables) (g : ℕ) → None ≡ raw_of m g → shown_of m g ≡ nothing_shown
none_shown m g is = none_in (get nat_cmp m.groups g) is

pub first_read : (e : EngineState) (g : ℕ) (v : Shown) (index : Option ℕ) → e.tables g ≡ v → index ≡ first_of v → ReadsFirst e g index
first_read e g v index same is = subst (λ i. ReadsFirst e g i) (ap first_of same ∙ sym is) (tables_tell.first e g)

pub last_read : (e : EngineState) (g : ℕ) (v : Shown) (index : Option ℕ) → e.tables g ≡ v → index ≡ last_of v → ReadsLast e g index
last_read e g v index same is = subst (λ i. ReadsLast e g i) (ap last_of same ∙ sym is) (tables_tell.last e g)

pub value_read : (e : EngineState) (g : ℕ) (key : List ℕ) (v : Shown) (value : Option (List ℕ)) → e.tables g ≡ v → value ≡ bytes_held (v.held key) → ReadsValue e g key value
value_read e g key v value same is = subst (λ o. ReadsValue e g key o) (ap (λ (u : Shown). bytes_held (u.held key)) same ∙ sym is) (tables_tell.value e g key)

pub if_ok_then : {A E : Type 0} (r : Result A E) (P Q : A → Type 0) → ((x : A) → P x → Q x) → IfOk r P → IfOk r Q
if_ok_then (Ok x) P Q goes h = goes x h
if_ok_then (Err e) P Q goes h = tt
