-- The names of arguments, local variables and values.
use Rattle.std.specs.Prelude.{ℕ, nat_le, nat_eq, Bool, false, List, [], ◌∷◌, ◌++◌, length, map, slice_get, slice_set, replicate, Option, Some, None, option_map, String, string_bytes, codes}
use Rattle.std.specs.Map.{lookup}
use Rattle.std.specs.Option.{option_and_then}
use Rattle.std.specs.declared.alloc.Global.{Global}
use Rattle.naga_oil_ir.specs.ModuleValue.{ArgumentValue, FunctionValue}
use Rattle.yettuvam_wgsl_lines.specs.Line.{Lines}
use Rattle.yettuvam_wgsl_names.specs.Table.{Name}
use Rattle.yettuvam_wgsl_requests.specs.Calls.{Groups, last}
use Rattle.yettuvam_wgsl_requests.specs.Requests.{top_requests, line_requests}
use Rattle.yettuvam_wgsl_requests.specs.declared.requests.Request.{Request}
use Rattle.yettuvam_wgsl_requests.specs.declared.requests.Subject.{Subject}
use Rattle.yettuvam_wgsl_requests.specs.declared.requests.Subject.TheVariants.{Local, Value}
use Rattle.yettuvam_wgsl_uses.specs.Uses.{Uses}
use Rattle.yettuvam_wgsl_written_names.specs.Taken.{Taken, Made, fresh_for}
use Rattle.yettuvam_wgsl_local_names.specs.declared.names.LocalNames.{LocalNames}

-- the names of arguments, local variables and expressions; None for what the text doesn't name
pub record Names : Type 0 where
  pub arguments : List Name
  pub locals : List (Option Name)
  pub values : List (Option Name)

abbrev pub texts_value : List (Option (String Global)) → List (Option Name)
texts_value ns = map (option_map string_bytes) ns

abbrev pub names_value : LocalNames → Names
names_value n = record {
  arguments = map string_bytes n.arguments.items;
  locals = texts_value n.locals.items;
  values = texts_value n.values.items;
}

-- the names so far, and the names that are taken
pub record State : Type 0 where
  pub names : Names
  pub taken : Taken

abbrev pub state_of : Names → Taken → State
state_of ns t = record { names = ns; taken = t }

-- ---- the names that the function has for what it declares

abbrev pub local_name : FunctionValue → ℕ → Option Name
local_name f k = option_and_then (λ l. l.0.name) (slice_get f.local_variables k)

abbrev pub value_name : FunctionValue → ℕ → Option Name
value_name f k = lookup (nat_eq k) f.named_expressions

-- ---- a free name

-- what is declared in a group may have the name of a built-in function that no later group calls
abbrev pub may_hide : Groups → Option Name → ℕ → Bool
may_hide cs None g = false
may_hide cs (Some n) g = nat_le (last cs n) g

-- a free name for what is declared in a group: its own or, if it has none, one that is made of another
unfoldable pub fresh : Groups → Taken → Option Name → Name → ℕ → Made
fresh cs t name other g = fresh_for t name other (may_hide cs name g)

-- ---- locals and values

abbrev pub put : List (Option Name) → ℕ → Name → List (Option Name)
put ns k n = slice_set ns k (Some n)

abbrev pub with_local : Names → ℕ → Made → State
with_local ns k m = state_of (record ns { locals = put ns.locals k m.name }) m.taken

abbrev pub with_value : Names → ℕ → Made → State
with_value ns k m = state_of (record ns { values = put ns.values k m.name }) m.taken

-- a local variable that is declared in a group has a name
unfoldable pub name_local : FunctionValue → Groups → ℕ → ℕ → State → State
name_local f cs k g s = with_local s.names k (fresh cs s.taken (local_name f k) (codes "local") g)

-- a value that is declared in a group has a name
unfoldable pub name_value : FunctionValue → Groups → ℕ → ℕ → State → State
name_value f cs k g s = with_value s.names k (fresh cs s.taken (value_name f k) (codes "value") g)

abbrev pub name_by : Subject → FunctionValue → Groups → ℕ → State → State
name_by (Local k) f cs g s = name_local f cs k g s
name_by (Value k) f cs g s = name_value f cs k g s

unfoldable pub name : FunctionValue → Groups → Request → State → State
name f cs r s = name_by r.subject f cs r.group s

unfoldable pub name_all : FunctionValue → Groups → List Request → State → State
name_all f cs [] s = s
name_all f cs (r ∷ rs) s = name_all f cs rs (name f cs r s)

-- ---- arguments

-- the names of arguments so far, and the names that are taken
pub record Naming : Type 0 where
  pub names : List Name
  pub taken : Taken

abbrev pub naming_of : List (String Global) → Taken → Naming
naming_of ns t = record { names = map string_bytes ns; taken = t }

abbrev pub add_made : List Name → Made → Naming
add_made ns m = record { names = ns ++ m.name ∷ []; taken = m.taken }

-- an argument is declared before the first group
unfoldable pub add_argument : Groups → ArgumentValue → Naming → Naming
add_argument cs a s = add_made s.names (fresh cs s.taken a.name (codes "argument") 0)

unfoldable pub add_arguments : Groups → List ArgumentValue → Naming → Naming
add_arguments cs [] s = s
add_arguments cs (a ∷ more) s = add_arguments cs more (add_argument cs a s)

-- ---- all names

abbrev pub no_names : ℕ → List (Option Name)
no_names n = replicate n None

abbrev pub started_by : FunctionValue → Naming → State
started_by f a = state_of record {
  arguments = a.names;
  locals = no_names (length f.local_variables);
  values = no_names (length f.expressions);
} a.taken

-- the arguments have names, and nothing else has
unfoldable pub started : FunctionValue → Groups → Taken → State
started f cs t = started_by f (add_arguments cs f.arguments record { names = []; taken = t })

-- the names of arguments, of the local variables before the first statement, and of what the lines declare, in this order
unfoldable pub local_names : FunctionValue → Uses → Groups → Lines → Taken → State
local_names f u cs ls t =
    name_all f cs (line_requests u f.expressions ls) (name_all f cs (top_requests u.locals) (started f cs t))
