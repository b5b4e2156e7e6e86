-- Which modules are well formed.
use Rattle.std.specs.Prelude.{◌≡◌, ◌<◌, ℕ, List, length, slice_get, Option, Some, [], option_to_list, All, IsSome, IfSome}
use Rattle.std.specs.List.{flat_map}
use Rattle.naga_oil_ir.specs.Body.{Tokens, block_tokens}
use Rattle.naga_oil_form.specs.ItemForm.{ItemForm}
use Rattle.naga_oil_form.specs.BodyForm.{named_of, kinds, callees, MayStand, IsSpanFine, IsTokenFine, operand_links}
use Rattle.naga_oil_form.specs.NameForm.{Name, AreNamed, AreNamesDistinct, NameForm}
use Rattle.naga_oil_ir.specs.declared.parts.Named.{Named}
use Rattle.naga_oil_ir.specs.declared.parts.Named.TheVariants.{Nothing, TypeOf, ConstantAt, OverrideAt, GlobalAt, LocalAt, ArgumentAt, FunctionAt}
use Rattle.naga_oil_ir.specs.declared.module.Module.{Module}
use Rattle.naga_oil_ir.specs.declared.module.Function.{Function}
use Rattle.naga_oil_ir.specs.declared.module.EntryPoint.{EntryPoint}
use Rattle.naga_oil_ir.specs.declared.module.MeshInfo.{MeshInfo}
use Rattle.naga_oil_ir.specs.declared.span.Span.{Span}
use Rattle.naga_oil_ir.specs.declared.types.LocalVariable.{LocalVariable}

-- the item that an expression of a function names exists
abbrev pub NamedThere : Module → Function → Named → Type 0
NamedThere m f Nothing = Unit {0}
NamedThere m f (TypeOf k) = k < length m.types
NamedThere m f (ConstantAt k) = k < length m.constants
NamedThere m f (OverrideAt k) = k < length m.overrides
NamedThere m f (GlobalAt k) = k < length m.global_variables
NamedThere m f (LocalAt k) = k < length f.local_variables
NamedThere m f (ArgumentAt n) = n < length f.arguments.items
NamedThere m f (FunctionAt k) = k < length m.functions

-- the initialiser of a local variable, if it has one
abbrev pub init_of : LocalVariable × Span → List ℕ
init_of l = option_to_list l.0.init

-- the initialisers of local variables in order
abbrev pub initialisers_of : List (LocalVariable × Span) → List ℕ
initialisers_of ls = flat_map init_of ls

abbrev pub initialisers : Function → List ℕ
initialisers f = initialisers_of f.local_variables

-- the spans of entries lie in a text of n bytes
abbrev pub AreSpansIn : {A : Type 0} → ℕ → List (A × Span) → Type 0
AreSpansIn {A} n es = All (λ e. IsSpanFine n e.1) es

-- the spans of the local variables and expressions of a function lie in a text of n bytes
pub record SpansWithin (n : ℕ) (f : Function) : Type 0 where
  pub locals : AreSpansIn n f.local_variables
  pub expressions : AreSpansIn n f.expressions

-- a function has neither local variables, expressions nor statements
abbrev pub IsBare : Function → Type 0
IsBare f = (f.local_variables ≡ []) × (f.expressions ≡ []) × (block_tokens f.body ≡ [])

-- ---- the clauses of the test of form of a function

abbrev pub AreArgumentsThere : Module → Function → Type 0
AreArgumentsThere m f = All (λ a. a.ty < length m.types) f.arguments.items

abbrev pub IsResultThere : Module → Function → Type 0
IsResultThere m f = IfSome f.result (λ r. r.ty < length m.types)

abbrev pub AreLocalsThere : Module → Function → Type 0
AreLocalsThere m f = All (λ l. l.0.ty < length m.types) f.local_variables

abbrev pub AreNamedExpressionsThere : Function → Type 0
AreNamedExpressionsThere f = All (λ e. e.0 < length f.expressions) f.named_expressions.entries

abbrev pub AreNamedThere : Module → Function → Type 0
AreNamedThere m f = All (NamedThere m f) (named_of f.expressions)

abbrev pub StandsWith : Function → Tokens → Type 0
StandsWith f ts = MayStand (kinds f.expressions) (callees f.expressions) (operand_links f.expressions) (initialisers f) ts

-- the types of arguments, result and local variables exist, and the named expressions exist
abbrev pub SignatureForm : Module → Function → Type 0
SignatureForm m f = AreArgumentsThere m f × IsResultThere m f × AreLocalsThere m f × AreNamedExpressionsThere f

-- the items that the expressions of a function name exist, and the expressions may stand with its initialisers and a body
abbrev pub ExpressionsForm : Module → Function → Tokens → Type 0
ExpressionsForm m f ts = AreNamedThere m f × StandsWith f ts

-- the test of form of a function that calls only the first c functions, in a text of n bytes
pub record FunctionForm (m : Module) (c n : ℕ) (f : Function) : Type 0 where
  pub arguments : AreArgumentsThere m f
  pub result : IsResultThere m f
  pub locals : AreLocalsThere m f
  pub named_expressions : AreNamedExpressionsThere f
  pub expressions : AreNamedThere m f
  pub statements : All (IsTokenFine c n) (block_tokens f.body)
  pub body : StandsWith f (block_tokens f.body)
  pub spans : SpansWithin n f

-- functions pass the test of form, where each calls only those before it
unfoldable pub FunctionsForm : Module → ℕ → List (Function × Span) → Type 0
FunctionsForm m n fs = (k : ℕ) (e : Function × Span) → slice_get fs k ≡ Some e → FunctionForm m k n e.0

-- a function is named, passes the test of form and calls only the first c functions
abbrev pub NamedForm : Module → ℕ → ℕ → Function × Span → Type 0
NamedForm m c n e = IsSome e.0.name × FunctionForm m c n e.0

-- functions are named and pass the test of form, and their decorated names are distinct
pub record FunctionListForm (m : Module) (d : Name) (n : ℕ) : Type 0 where
  pub named : AreNamed m.functions
  pub functions : FunctionsForm m n m.functions
  pub distinct : AreNamesDistinct d m.functions

abbrev pub IsExpressionThere : Module → Option ℕ → Type 0
IsExpressionThere m o = IfSome o (λ k. k < length m.global_expressions)

-- the items that the output of a mesh shader names exist
pub record MeshForm (m : Module) (i : MeshInfo) : Type 0 where
  pub vertex : i.vertex_output_type < length m.types
  pub primitive : i.primitive_output_type < length m.types
  pub output : i.output < length m.global_variables
  pub max_vertices : IsExpressionThere m i.max_vertices
  pub max_primitives : IsExpressionThere m i.max_primitives

-- the test of form of an entry point
pub record EntryForm (m : Module) (n : ℕ) (e : EntryPoint) : Type 0 where
  pub function : FunctionForm m (length m.functions) n e.function
  pub workgroup_size : IfSome e.workgroup_size_overrides (λ os. All (IsExpressionThere m) os)
  pub mesh_info : IfSome e.mesh_info (MeshForm m)
  pub task_payload : IfSome e.task_payload (λ k. k < length m.global_variables)

-- the spans of the items of a module lie in a text of n bytes
pub record SpanForm (m : Module) (n : ℕ) : Type 0 where
  pub types : AreSpansIn n m.types
  pub constants : AreSpansIn n m.constants
  pub overrides : AreSpansIn n m.overrides
  pub globals : AreSpansIn n m.global_variables
  pub expressions : AreSpansIn n m.global_expressions
  pub functions : AreSpansIn n m.functions

-- a module is well formed under a decoration, over a text of n bytes
pub record WellFormed (m : Module) (d : Name) (n : ℕ) : Type 0 where
  pub items : ItemForm m
  pub spans : SpanForm m n
  pub names : NameForm m d
  pub functions : FunctionsForm m n m.functions
  pub entry_points : All (EntryForm m n) m.entry_points.items
