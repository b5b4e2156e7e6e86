-- What is known of a statement beyond its operands.
use Rattle.std.specs.Prelude.{ℕ, Bool, false, Option, Some, None}
use Rattle.yettuvam_wgsl_names.specs.Table.{Name}
use Rattle.yettuvam_wgsl_counts.specs.Locals.{local_at}
use Rattle.yettuvam_wgsl_lines.specs.Groups.{is_set}
use Rattle.yettuvam_wgsl_statements.specs.declared.simple.Simple.{Simple}
use Rattle.yettuvam_wgsl_statements.specs.declared.simple.Simple.TheVariants as statement
use Rattle.yettuvam_wgsl_write_blocks.specs.declared.parts.PartKind.{PartKind}
use Rattle.yettuvam_wgsl_write_blocks.specs.declared.parts.PartKind.TheVariants as kind
use Rattle.yettuvam_wgsl_write_statements.specs.Calls.{Given}
use Rattle.yettuvam_wgsl_write_statements.specs.Statements.{result_of}
use Rattle.yettuvam_wgsl_write_statements.specs.declared.calls.Store.{Store}
use Rattle.yettuvam_wgsl_write_statements.specs.declared.calls.Store.TheVariants as stores
use Rattle.yettuvam_wgsl_write_bodies.specs.Setting.{Setting, function_name, local_name, value_name}
use Rattle.yettuvam_wgsl_write_bodies.specs.Stores.{store_at}

abbrev pub name_of_local : Option ℕ → Setting → Option Name
name_of_local (Some local) s = local_name s local
name_of_local None s = None

-- the name of the local variable that is stored to
abbrev pub stored_name : Setting → ℕ → Option Name
stored_name s pointer = name_of_local (local_at s.function.expressions pointer) s

-- the name of the function that is called, or of the local variable that is stored to
abbrev pub item_name : Setting → Simple → Option Name
item_name s (statement.Call f count made) = function_name s f
item_name s (statement.Store pointer h) = stored_name s pointer
item_name s _ = None

abbrev pub store_of : Setting → ℕ → Simple → Store
store_of s at (statement.Store pointer h) = store_at s at pointer h
store_of s at _ = stores.Assignment

abbrev pub is_merged_at : Setting → Option ℕ → Bool
is_merged_at s (Some h) = is_set s.uses.merged h
is_merged_at s None = false

abbrev pub result_name : Setting → Option ℕ → Option Name
result_name s (Some h) = value_name s h
result_name s None = None

-- what is known of the statement at a place
abbrev pub given_at : Setting → ℕ → Simple → Given
given_at s at of = record {
  is_merged = is_merged_at s (result_of of);
  answer = result_name s (result_of of);
  item = item_name s of;
  store = store_of s at of;
}

abbrev pub stored_kind : Store → PartKind
stored_kind (stores.Declaration ty is_zero) = kind.Declaration
stored_kind _ = kind.Update

abbrev pub made_kind : Option Name → PartKind
made_kind (Some name) = kind.Declaration
made_kind None = kind.Update

-- what a statement without blocks is to the statements around it
abbrev pub kind_of : Simple → Given → PartKind
kind_of statement.Break g = kind.Break
kind_of statement.Continue g = kind.Other
kind_of statement.Discard g = kind.Other
kind_of (statement.Return h) g = kind.Other
kind_of (statement.Barrier f) g = kind.Update
kind_of (statement.ImageStore image coordinate array_index h) g = kind.Update
kind_of (statement.Store pointer h) g = stored_kind g.store
kind_of _ g = made_kind g.answer
