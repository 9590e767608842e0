-- The store of rank tables (document 02, E9; there the shelf, its built-in tables those of the house).
-- Assumes nothing.
use Rattle.std.specs.Prelude.{Bool, true, false, not, cond, ◌&&◌, ◌||◌, List, ℕ, ◌+◌, ◌-◌, ◌*◌, eqb, ltb, leb, get_or, take, drop, set, replicate}
use Rattle.std.specs.Prelude.{Option, Some, None, Result, Ok, Err}
use Rattle.std.proofs.Math.Seq.{paste}
use Rattle.answer.specs.declared.Reason.{Reason}
use Rattle.answer.specs.declared.Reason.TheVariants.{UnknownTable, UnwrittenTable}
use Rattle.answer.specs.declared.Refused.{Refused}
use Rattle.answer.specs.Limits.{table_length}
use Rattle.letters.specs.BuiltIn.{built_in_table}
use Rattle.table_store.specs.declared.store.TableStore.{TableStore}
use Rattle.table_store.specs.declared.store.TableName.{TableName}

-- Three tables of each group's own, numbers 0 to 2, and two built-in ones, numbers 0 and 1.
abbrev pub own_tables : ℕ
own_tables = 3

abbrev pub built_in_tables : ℕ
built_in_tables = 2

-- A group's own table, and a built-in one, as a call of the group names it.
abbrev pub own_name : ℕ → ℕ → TableName
own_name group number = record { group = group; builtin = false; number = number }

abbrev pub built_in_name : ℕ → ℕ → TableName
built_in_name group number = record { group = group; builtin = true; number = number }

-- The groups are 1 and 2.
abbrev pub group_exists : ℕ → Bool
group_exists group = leb 1 group && leb group 2

-- There is a table of this number: of the group's own or, where the call says so, of the built-in ones. The group must exist in either case.
abbrev pub table_exists : TableName → Bool
table_exists name = group_exists name.group && ltb name.number (cond name.builtin built_in_tables own_tables)

-- The place of a group's own table among the six.
abbrev pub table_place : ℕ → ℕ → ℕ
table_place group number = (group - 1) * own_tables + number

-- The place of a table that exists and is a group's own.
abbrev pub own_place : TableName → Option ℕ
own_place name = cond (name.builtin || not (table_exists name)) None (Some (table_place name.group name.number))

-- Where the bytes of the table at a place start.
abbrev pub table_start : ℕ → ℕ
table_start place = place * table_length

-- A new store: no table is written, and all its bytes are 0.
abbrev pub new_store : TableStore
new_store = record { tables = replicate 1536 0; written = replicate 6 0 }

-- The number that tells whether a group's own table is written: 0 where it is not.
abbrev pub written_flag : TableStore → ℕ → ℕ → ℕ
written_flag store group number = get_or store.written (table_place group number) 0

-- A table can be used: it is a built-in one, or an own one that exists and was written.
abbrev pub is_usable : TableStore → TableName → Bool
is_usable store name =
    name.builtin || table_exists (own_name name.group name.number) && not (eqb (written_flag store name.group name.number) 0)

-- The bytes of a group's own table.
abbrev pub own_table : TableStore → ℕ → ℕ → List ℕ
own_table store group number = take table_length (drop (table_start (table_place group number)) store.tables)

-- The bytes of a table.
abbrev pub table_at : TableStore → TableName → List ℕ
table_at store name = cond name.builtin (built_in_table name.number) (own_table store name.group name.number)

-- The store with a group's own table replaced; it is written now, and nothing else changes.
abbrev pub with_table : TableStore → ℕ → ℕ → List ℕ → TableStore
with_table store group number table =
    record {
      tables = paste store.tables (table_start (table_place group number)) table table_length;
      written = set store.written (table_place group number) 1;
    }

-- What a call that uses or reads a table finds: the bytes of the table, or nothing, with the refusal of the call.
abbrev pub Lookup : Type 0
Lookup = Result (List ℕ) Refused

abbrev pub missing : Reason → Lookup
missing reason = Err (record { reason = reason; position = 0 })

abbrev pub found : List ℕ → Lookup
found table = Ok table

-- Refusal 21 where there is no such table, then 22 where it cannot be used yet, else the table.
abbrev pub lookup_in : Bool → Bool → List ℕ → Lookup
lookup_in exists usable table = cond exists (cond usable (found table) (missing UnwrittenTable)) (missing UnknownTable)

abbrev pub lookup : TableStore → TableName → Lookup
lookup store name = lookup_in (table_exists name) (is_usable store name) (table_at store name)
