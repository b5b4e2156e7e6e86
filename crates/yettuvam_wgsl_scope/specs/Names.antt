-- What names mean.
use Rattle.std.specs.Prelude.{ℕ, ◌+◌, ◌-◌, ◌^◌, min, Bool, true, false, ◌||◌, nat_eq, if◌then◌else◌, List, [], ◌∷◌, ◌++◌, length, take, drop, map, slice_index_or, Option, Some, None, Err, codes}
use Rattle.std.specs.Cmp.Lexicographic.{pointwise}
use Rattle.yettuvam_wgsl_words.specs.Class.{Text}
use Rattle.yettuvam_wgsl_machine.specs.Machine.{Node, node_view}
use Rattle.yettuvam_wgsl_machine.specs.declared.symbol.Form.{Form}
use Rattle.yettuvam_wgsl_machine.specs.declared.symbol.Form.TheVariants as form
use Rattle.yettuvam_wgsl_scope.specs.Items.{item_in, Name, name_view, name_of, no_name}
use Rattle.yettuvam_wgsl_scope.specs.Refused.{Outcome, ◌>>=◌, done, fault_after}
use Rattle.yettuvam_wgsl_scope.specs.declared.refusal.Reason.TheVariants as reason
use Rattle.yettuvam_wgsl_scope.specs.declared.names.Binding.{Binding}
use Rattle.yettuvam_wgsl_scope.specs.declared.names.Binding.TheVariants as means
use Rattle.yettuvam_wgsl_scope.specs.declared.names.Bound.{Bound as BoundOfCode}
use Rattle.yettuvam_wgsl_scope.specs.declared.locals.Local.{Local as LocalOfCode}
use Rattle.yettuvam_wgsl_scope.specs.declared.names.NameAct.{NameAct}
use Rattle.yettuvam_wgsl_scope.specs.declared.names.NameAct.TheVariants as does
use Rattle.yettuvam_wgsl_scope.specs.declared.names.Names.{Names}

-- ---- the state

-- a node with what its name means
pub record Bound : Type 0 where
  pub node : Node
  pub binding : Binding

abbrev pub bound_view : BoundOfCode → Bound
bound_view b = record { node = node_view b.node; binding = b.binding }

abbrev pub bounds_view : List BoundOfCode → List Bound
bounds_view bs = map bound_view bs

-- a declaration of a function whose name is in scope
pub record Local : Type 0 where
  pub name : Name
  pub number : ℕ

abbrev pub local_view : LocalOfCode → Local
local_view l = record { name = name_view l.name; number = l.number }

abbrev pub locals_view : List LocalOfCode → List Local
locals_view ls = map local_view ls

pub record State : Type 0 where
  -- the item of each name
  pub items : Text → Option ℕ
  -- the declarations in scope, the innermost last, and their number at each open block
  pub locals : List Local
  pub marks : List ℕ
  -- the number of declarations of the function so far
  pub count : ℕ
  -- the name of what is declared
  pub declared : Name
  pub is_in_head : Bool
  pub is_in_words : Bool
  pub nodes : List Bound
  -- the items that the nodes name
  pub uses : List ℕ

abbrev pub state_of : Names → State
state_of n = record { items = item_in n.items.now; locals = locals_view n.locals; marks = n.marks.items; count = n.count; declared = name_view n.declared; is_in_head = n.is_in_head; is_in_words = n.is_in_words; nodes = bounds_view n.nodes.items; uses = n.uses.items }

abbrev pub Done : Type 0
Done = Outcome State (Unit {0})

abbrev pub act_of : Form → NameAct
act_of form.FunctionName = does.Function
act_of form.Block = does.Open
act_of form.BlockEnd = does.Close
act_of form.Declared = does.Named
act_of form.ParameterName = does.Named
act_of form.Let = does.Declared
act_of form.LocalConst = does.Declared
act_of form.LocalVar = does.Declared
act_of form.Parameter = does.Declared
act_of form.Name = does.Name
act_of form.TypeName = does.Name
act_of form.AttributeName = does.Attribute
act_of form.DiagnosticStart = does.Attribute
act_of form.Attribute = does.AttributeEnd
act_of form.Diagnostic = does.AttributeEnd
act_of _ = does.Nothing

-- ---- lists and texts

abbrev pub last : List ℕ → ℕ
last xs = slice_index_or xs (length xs - 1) 0

abbrev pub front : {X : Type 0} → List X → List X
front xs = take (length xs - 1) xs

abbrev pub same_text : Text → Text → Bool
same_text a b = pointwise nat_eq a b

-- the attributes whose arguments are words, which no declaration shadows
abbrev pub takes_words : Text → Bool
takes_words name = (same_text name (codes "builtin") || same_text name (codes "interpolate")) || same_text name (codes "diagnostic")

-- the last of the declarations that has a name
unfoldable pub find_from : Option Local → List Local → Text → Option Local
find_from found [] name = found
find_from found (l ∷ ls) name = find_from (if same_text l.name.text name then Some l else found) ls name

abbrev pub find : List Local → Text → Option Local
find locals name = find_from None locals name

-- ---- steps

unfoldable pub give : Node → Binding → State → Done
give node binding s = done (record s { nodes = s.nodes ++ (record { node = node; binding = binding }) ∷ [] })

unfoldable pub mark : State → Done
mark s = done (record s { marks = s.marks ++ length s.locals ∷ [] })

-- a block; the first of a function shares the function's scope
unfoldable pub open_block : State → Done
open_block s = if s.is_in_head then done (record s { is_in_head = false }) else mark s

unfoldable pub close : State → State
close s = record s { locals = take (last s.marks) s.locals; marks = front s.marks }

abbrev pub closed : State → Done
closed s = done (close s)

unfoldable pub function : State → Done
function s = mark (record s { is_in_head = true; count = 0 })

-- the declaration of the innermost block that has the name of what is declared
unfoldable pub earlier : State → Option Local
earlier s = find (drop (last s.marks) s.locals) s.declared.text

unfoldable pub push : State → Done
push s = done (record s { locals = s.locals ++ (record { name = s.declared; number = s.count }) ∷ []; count = min (s.count + 1) (2 ^ 64 - 1) })

abbrev pub declare_after : Option Local → State → Done
declare_after None s = push s
declare_after (Some l) s = Err (fault_after reason.DeclaredTwice s.declared.span l.name.span)

unfoldable pub declare : State → Done
declare s = declare_after (earlier s) s

unfoldable pub local : Text → State → Option Local
local name s = if s.is_in_head then None else find s.locals name

abbrev pub item : Option ℕ → Binding
item None = means.Word
item (Some place) = means.Item place

abbrev pub meaning_of : Option Local → Binding → Binding
meaning_of None otherwise = otherwise
meaning_of (Some l) otherwise = means.Local l.number

-- what a name means: the innermost declaration of the function, else the item, else a word
unfoldable pub meaning : Text → State → Binding
meaning name s = if s.is_in_words then means.Word else meaning_of (local name s) (item (s.items name))

unfoldable pub note : Binding → State → Done
note (means.Item place) s = done (record s { uses = s.uses ++ place ∷ [] })
note _ s = done s

unfoldable pub name : Node → State → Done
name node s = note (meaning node.text s) s >>= (λ _. give node (meaning node.text s))

unfoldable pub act : NameAct → Node → State → Done
act does.Nothing node s = done s
act does.Name node s = done s
act does.Function node s = function s
act does.Open node s = open_block s
act does.Close node s = closed s
act does.Named node s = done (record s { declared = name_of node })
act does.Declared node s = declare s
act does.Attribute node s = done (record s { is_in_words = takes_words node.text })
act does.AttributeEnd node s = done (record s { is_in_words = false })

unfoldable pub other : NameAct → Node → State → Done
other a node s = act a node s >>= (λ _. give node means.Nothing)

abbrev pub step_by : NameAct → Node → State → Done
step_by does.Name node s = name node s
step_by a node s = other a node s

unfoldable pub step : Node → State → Done
step node s = step_by (act_of node.form) node s

unfoldable pub run : List Node → State → Done
run [] s = done s
run (node ∷ nodes) s = step node s >>= (λ _. run nodes)

abbrev pub taken : State → State
taken s = record s { nodes = []; uses = [] }

abbrev pub start : (Text → Option ℕ) → State
start items = record { items = items; locals = []; marks = []; count = 0; declared = no_name; is_in_head = false; is_in_words = false; nodes = []; uses = [] }
