-- An expression as its kind, its plain values, the item that it names and its operands.
use Rattle.std.specs.Prelude.{◌≡◌, ℕ, List, [], ◌∷◌, map, Option, Some, None}
use Rattle.naga_oil_ir.specs.declared.expression.Expression.{Expression}
use Rattle.naga_oil_ir.specs.declared.expression.Expression.TheVariants.{Literal, ZeroValue, Constant, Override, GlobalVariable, LocalVariable, FunctionArgument, CallResult, AtomicResult, WorkGroupUniformLoadResult, RayQueryProceedResult, SubgroupBallotResult, SubgroupOperationResult, Compose, Access, AccessIndex, Splat, Swizzle, Load, ImageSample, ImageLoad, ImageQuery, Unary, Binary, Select, Derivative, Relational, Math, As, ArrayLength, RayQueryGetIntersection, RayQueryVertexPositions}
use Rattle.naga_oil_ir.specs.declared.expression.SampleLevel.{SampleLevel}
use Rattle.naga_oil_ir.specs.declared.expression.SampleLevel.TheVariants.{Auto, Zero, Exact, Bias, Gradient}
use Rattle.naga_oil_ir.specs.declared.expression.ImageQuery.{ImageQuery as Query}
use Rattle.naga_oil_ir.specs.declared.expression.ImageSample.{ImageSample as Sample}
use Rattle.naga_oil_ir.specs.declared.expression.ImageLoad.{ImageLoad as Texel}
use Rattle.naga_oil_ir.specs.declared.expression.Math.{Math as Function}
use Rattle.naga_oil_ir.specs.declared.expression.ImageQuery.TheVariants.{Size, Other}
use Rattle.naga_oil_ir.specs.declared.parts.Named.{Named}
use Rattle.naga_oil_ir.specs.declared.parts.Named.TheVariants.{Nothing, TypeOf, ConstantAt, OverrideAt, GlobalAt, LocalAt, ArgumentAt, FunctionAt}
use Rattle.naga_oil_ir.specs.declared.parts.ExpressionParts.{ExpressionParts}

-- the parts of an expression: its kind, its plain values, the item that it names, and its operands in the order of copying;
-- absent ones are None
pub record Parts : Type 0 where
  pub kind : ℕ
  pub plain : List ℕ
  pub named : Named
  pub operands : List (Option ℕ)

-- parts from their four fields
abbrev pub expr : ℕ → List ℕ → Named → List (Option ℕ) → Parts
expr k p n o = record { kind = k; plain = p; named = n; operands = o }

-- the variant of a level
abbrev pub level_code : SampleLevel → ℕ
level_code Auto = 0
level_code Zero = 1
level_code (Exact e) = 2
level_code (Bias e) = 3
level_code (Gradient x y) = 4

-- the operand of a level, the first for a gradient
abbrev pub level_x : SampleLevel → Option ℕ
level_x Auto = None
level_x Zero = None
level_x (Exact e) = Some e
level_x (Bias e) = Some e
level_x (Gradient x y) = Some x

-- the second operand of a gradient
abbrev pub level_y : SampleLevel → Option ℕ
level_y Auto = None
level_y Zero = None
level_y (Exact e) = None
level_y (Bias e) = None
level_y (Gradient x y) = Some y

-- the variant of a query with its plain value, and its operand
abbrev pub query_code : Query → List ℕ
query_code (Size l) = 0 ∷ []
query_code (Other c) = 1 ∷ c ∷ []

abbrev pub query_level : Query → Option ℕ
query_level (Size l) = l
query_level (Other c) = None

-- the parts of a sample of an image, of a texel and of a mathematical function
abbrev pub sample_parts : Sample → Parts
sample_parts s =
    expr 19 (s.gather ∷ level_code s.level ∷ []) Nothing (Some s.image ∷ Some s.sampler ∷ Some s.coordinate ∷ s.array_index ∷ s.offset ∷ level_x s.level ∷ level_y s.level ∷ s.depth_ref ∷ [])

abbrev pub load_parts : Texel → Parts
load_parts l = expr 20 [] Nothing (Some l.image ∷ Some l.coordinate ∷ l.array_index ∷ l.sample ∷ l.level ∷ [])

abbrev pub math_parts : Function → Parts
math_parts m = expr 27 (m.fun ∷ []) Nothing (Some m.arg ∷ m.arg1 ∷ m.arg2 ∷ m.arg3 ∷ [])

-- the one list of the 32 kinds of expressions
abbrev pub parts : Expression → Parts
parts (Literal kind bits) = expr 0 (kind ∷ bits ∷ []) Nothing []
parts (ZeroValue ty) = expr 1 [] (TypeOf ty) []
parts (Constant c) = expr 2 [] (ConstantAt c) []
parts (Override c) = expr 3 [] (OverrideAt c) []
parts (GlobalVariable g) = expr 4 [] (GlobalAt g) []
parts (LocalVariable l) = expr 5 [] (LocalAt l) []
parts (FunctionArgument n) = expr 6 [] (ArgumentAt n) []
parts (CallResult f) = expr 7 [] (FunctionAt f) []
parts (AtomicResult ty comparison) = expr 8 (comparison ∷ []) (TypeOf ty) []
parts (WorkGroupUniformLoadResult ty) = expr 9 [] (TypeOf ty) []
parts RayQueryProceedResult = expr 10 [] Nothing []
parts SubgroupBallotResult = expr 11 [] Nothing []
parts (SubgroupOperationResult ty) = expr 12 [] (TypeOf ty) []
parts (Compose ty components) = expr 13 [] (TypeOf ty) (map Some components.items)
parts (Access base index) = expr 14 [] Nothing (Some base ∷ Some index ∷ [])
parts (AccessIndex base index) = expr 15 (index ∷ []) Nothing (Some base ∷ [])
parts (Splat size value) = expr 16 (size ∷ []) Nothing (Some value ∷ [])
parts (Swizzle size vector pattern) = expr 17 (size ∷ pattern ∷ []) Nothing (Some vector ∷ [])
parts (Load pointer) = expr 18 [] Nothing (Some pointer ∷ [])
parts (ImageSample b) = sample_parts b.value
parts (ImageLoad b) = load_parts b.value
parts (ImageQuery image query) = expr 21 (query_code query) Nothing (Some image ∷ query_level query ∷ [])
parts (Unary op e) = expr 22 (op ∷ []) Nothing (Some e ∷ [])
parts (Binary op left right) = expr 23 (op ∷ []) Nothing (Some left ∷ Some right ∷ [])
parts (Select condition accept reject) = expr 24 [] Nothing (Some condition ∷ Some accept ∷ Some reject ∷ [])
parts (Derivative axis e) = expr 25 (axis ∷ []) Nothing (Some e ∷ [])
parts (Relational fun argument) = expr 26 (fun ∷ []) Nothing (Some argument ∷ [])
parts (Math b) = math_parts b.value
parts (As e kind convert) = expr 28 (kind ∷ convert ∷ []) Nothing (Some e ∷ [])
parts (ArrayLength e) = expr 29 [] Nothing (Some e ∷ [])
parts (RayQueryGetIntersection query committed) = expr 30 (committed ∷ []) Nothing (Some query ∷ [])
parts (RayQueryVertexPositions query committed) = expr 31 (committed ∷ []) Nothing (Some query ∷ [])

-- the parts that the code read of an expression are its kind, what it names and its operands
abbrev pub ReadsAs : ExpressionParts → Parts → Type 0
ReadsAs r p = (r.kind ≡ p.kind) × (r.named ≡ p.named) × (r.operands.items ≡ p.operands)
