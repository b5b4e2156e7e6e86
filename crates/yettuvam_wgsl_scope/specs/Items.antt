-- The items of a module.
use Rattle.std.specs.Prelude.{ℕ, ◌-◌, ◌==◌, Bool, true, false, if◌then◌else◌, nat_eq, List, [], ◌∷◌, ◌++◌, length, map, slice_get, Option, Some, None, Result, Ok, Err}
use Rattle.std.specs.Cmp.Lexicographic.{pointwise}
use Rattle.std.specs.Borrow.{Bor}
use Rattle.std.specs.HashMap.{HashMap, get_by}
use Rattle.yettuvam_wgsl_words.specs.Class.{Text}
use Rattle.yettuvam_wgsl_words.specs.declared.token.Span.{Span}
use Rattle.yettuvam_wgsl_machine.specs.Machine.{Node}
use Rattle.yettuvam_wgsl_machine.specs.declared.symbol.Form.{Form}
use Rattle.yettuvam_wgsl_machine.specs.declared.symbol.Form.TheVariants as form
use Rattle.yettuvam_wgsl_scope.specs.Refused.{Outcome, ◌>>=◌, done, fault_after}
use Rattle.yettuvam_wgsl_scope.specs.declared.refusal.Fault.{Fault}
use Rattle.yettuvam_wgsl_scope.specs.declared.refusal.Reason.TheVariants as reason
use Rattle.yettuvam_wgsl_scope.specs.declared.items.Name.{Name as NameOfCode}
use Rattle.yettuvam_wgsl_scope.specs.declared.items.Item.{Item as ItemOfCode}
use Rattle.yettuvam_wgsl_scope.specs.declared.items.ItemAct.{ItemAct}
use Rattle.yettuvam_wgsl_scope.specs.declared.items.ItemAct.TheVariants as does
use Rattle.yettuvam_wgsl_scope.specs.declared.items.Finder.{Finder}

-- ---- names and items

-- a name where it is declared
pub record Name : Type 0 where
  pub text : Text
  pub span : Span

abbrev pub name_view : NameOfCode → Name
name_view n = record { text = n.text.now; span = n.span }

abbrev pub name_of : Node → Name
name_of node = record { text = node.text; span = node.span }

abbrev pub no_name : Name
no_name = record { text = []; span = record { start = 0; end = 0 } }

-- an item: the name that it declares, and the places of its nodes, from the first to before the last
pub record Item : Type 0 where
  pub name : Name
  pub start : ℕ
  pub end : ℕ

abbrev pub item_view : ItemOfCode → Item
item_view i = record { name = name_view i.name; start = i.start; end = i.end }

abbrev pub items_view : List ItemOfCode → List Item
items_view items = map item_view items

-- what a node is for items
abbrev pub act_of : Form → ItemAct
act_of form.FunctionName = does.Function
act_of form.StructName = does.Name
act_of form.AliasName = does.Name
act_of form.Declared = does.Declared
act_of form.Function = does.End
act_of form.Const = does.End
act_of form.Var = does.End
act_of form.Override = does.End
act_of form.Alias = does.End
act_of form.Struct = does.End
act_of form.Enable = does.End
act_of form.Requires = does.End
act_of form.Diagnostic = does.End
act_of form.ConstAssert = does.Assertion
act_of _ = does.Nothing

-- ---- the state

pub record State : Type 0 where
  pub items : List Item
  -- the name of the item, and its first node
  pub name : Name
  pub start : ℕ
  pub is_in_function : Bool

abbrev pub state_of : Finder → State
state_of f = record { items = items_view f.items.items; name = name_view f.name; start = f.start; is_in_function = f.is_in_function }

abbrev pub Done : Type 0
Done = Outcome State (Unit {0})

-- the item ends before a node
unfoldable pub end : ℕ → State → Done
end at s = done (record { items = s.items ++ (record { name = s.name; start = s.start; end = at }) ∷ []; name = no_name; start = at; is_in_function = false })

unfoldable pub end_outside : ℕ → State → Done
end_outside at s = if s.is_in_function then done s else end at s

abbrev pub named : Node → State → State
named node s = record s { name = name_of node }

abbrev pub declared : Node → State → State
declared node s = if s.is_in_function then s else named node s

abbrev pub function : Node → State → State
function node s = record s { name = name_of node; is_in_function = true }

abbrev pub step_by : ItemAct → ℕ → Node → State → Done
step_by does.Nothing next node s = done s
step_by does.Function next node s = done (function node s)
step_by does.Name next node s = done (named node s)
step_by does.Declared next node s = done (declared node s)
step_by does.End next node s = end next s
step_by does.Assertion next node s = end_outside next s

-- a node, before the one at a place
unfoldable pub step : ℕ → Node → State → Done
step next node s = step_by (act_of node.form) next node s

unfoldable pub run : ℕ → List Node → State → Done
run total [] s = done s
run total (node ∷ nodes) s = step (total - length nodes) node s >>= (λ _. run total nodes)

abbrev pub start_state : State
start_state = record { items = []; name = no_name; start = 0; is_in_function = false }

abbrev pub items_in : Done → Result (List Item) Fault
items_in (Ok p) = Ok p.1.items
items_in (Err e) = Err e

-- the items of a module, in the order of the text
abbrev pub items_of : List Node → Result (List Item) Fault
items_of nodes = items_in (run (length nodes) nodes start_state)

-- ---- names

abbrev pub name_of_option : Option Item → Name
name_of_option None = no_name
name_of_option (Some i) = i.name

abbrev pub name_at : List Item → ℕ → Name
name_at items place = name_of_option (slice_get items place)

abbrev pub same_text : Text → Text → Bool
same_text a b = pointwise nat_eq a b

-- the value of a map at a name
abbrev pub item_in : {S : Type 0} → HashMap (Bor (List ℕ)) ℕ S → Text → Option ℕ
item_in m name = get_by (λ k. same_text name k.now) m

-- the place of the item that has a name
abbrev pub Places : Type 0
Places = Text → Option ℕ

abbrev pub no_places : Places
no_places name = None

-- the item at a place has a name
abbrev pub with_place : Places → Text → ℕ → Places
with_place places name place = λ other. if same_text name other then Some place else places other

abbrev pub Placed : Type 0
Placed = Outcome Places (Unit {0})

abbrev pub declare_after : Option ℕ → List Item → Name → ℕ → Places → Placed
declare_after None items name place places = done (with_place places name.text place)
declare_after (Some earlier) items name place places = Err (fault_after reason.DeclaredTwice name.span (name_at items earlier).span)

-- the item at a place declares a name, unless the name is empty
unfoldable pub declare : List Item → Name → ℕ → Places → Placed
declare items name place places =
    if length name.text == 0 then done places else declare_after (places name.text) items name place places

-- the rest of the items, one after the other
unfoldable pub declare_all : List Item → (rest : List Item) → Places → Placed
declare_all items [] places = done places
declare_all items (i ∷ more) places =
    declare items i.name (length items - length (i ∷ more)) places >>= (λ _. declare_all items more)

abbrev pub places_in : Placed → Result Places Fault
places_in (Ok p) = Ok p.1
places_in (Err e) = Err e

-- the names of the items of a module
abbrev pub names_of : List Item → Result Places Fault
names_of items = places_in (declare_all items items no_places)
