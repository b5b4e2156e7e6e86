use Rattle.std.proofs.Common.{◌≡◌, ℕ, ◌<◌, List, [], ◌∷◌, map, length, Option, Some, None, option_map, slice_get, refl, ap, sym, ◌∙◌, arith, Vec, Global}
use Rattle.std.proofs.lemmas.Option.{slice_get_within}
use Rattle.std.specs.Option.{option_copied}
use Rattle.std.specs.Borrow.{Bor}
use Rattle.std.specs.Vec.{vec_len}
use Rattle.naga_oil_ir.specs.Parts.{Parts}
use Rattle.naga_oil_ir.specs.Rows.{Row, ExpressionKind, row, type_row, constant_row, override_row, global_row, expression_row, parts_row, named_place, named_rest}
use Rattle.naga_oil_ir.specs.declared.module.Module.{Module}
use Rattle.naga_oil_ir.specs.declared.span.Span.{Span}
use Rattle.naga_oil_ir.specs.declared.types.Type.{«Type» as TypeOfShader}
use Rattle.naga_oil_ir.specs.declared.types.Constant.{Constant as ConstantItself}
use Rattle.naga_oil_ir.specs.declared.types.Override.{Override as OverrideItself}
use Rattle.naga_oil_ir.specs.declared.types.GlobalVariable.{GlobalVariable as GlobalItself}
use Rattle.naga_oil_ir.specs.declared.expression.Expression.{Expression}
use Rattle.naga_oil_ir.specs.declared.parts.Named.{Named}
use Rattle.naga_oil_ir.specs.declared.parts.Named.TheVariants.{Nothing, TypeOf, ConstantAt, OverrideAt, GlobalAt, LocalAt, ArgumentAt, FunctionAt}
use Rattle.naga_oil_ir.specs.declared.names.ItemPlace.TheVariants.{TypeItem, ConstantItem, OverrideItem, GlobalItem, ExpressionItem}
use Rattle.naga_oil_rename.specs.Renames.{Renames, rename, rename_named, rename_place, rename_row}
use Rattle.naga_oil_derive.specs.Copying.{IsThere}
use Rattle.naga_oil_derive.proofs.WorldLemmas.{world_type, world_constant, world_override, world_global, world_expression}

-- ---- the row of a renamed expression

option_step : (r : Renames) (o : Option ℕ) → option_map ExpressionItem (option_map r.expression o) ≡ option_map (rename_place r) (option_map ExpressionItem o)
option_step r None = refl
option_step r (Some h) = refl

operands_step : (r : Renames) (os : List (Option ℕ)) → map (option_map ExpressionItem) (map (option_map r.expression) os) ≡ map (option_map (rename_place r)) (map (option_map ExpressionItem) os)
operands_step r [] = refl
operands_step r (o ∷ os) = let h = option_step r o in let t = operands_step r os in cc

named_step : (r : Renames) (n : Named) → named_place (rename_named r n) ≡ option_map (rename_place r) (named_place n)
named_step r Nothing = refl
named_step r (TypeOf h) = refl
named_step r (ConstantAt h) = refl
named_step r (OverrideAt h) = refl
named_step r (GlobalAt h) = refl
named_step r (LocalAt h) = refl
named_step r (ArgumentAt h) = refl
named_step r (FunctionAt h) = refl

rest_step : (r : Renames) → ((h : ℕ) → r.function h ≡ h) → (n : Named) → named_rest (rename_named r n) ≡ named_rest n
rest_step r f Nothing = refl
rest_step r f (TypeOf h) = refl
rest_step r f (ConstantAt h) = refl
rest_step r f (OverrideAt h) = refl
rest_step r f (GlobalAt h) = refl
rest_step r f (LocalAt h) = refl
rest_step r f (ArgumentAt h) = refl
rest_step r f (FunctionAt h) = ap FunctionAt (f h)

pub parts_row-rename : (r : Renames) (p : Parts) → ((h : ℕ) → r.function h ≡ h) → parts_row (rename r p) ≡ rename_row r (parts_row p)
parts_row-rename r p f =
    let n = named_step r p.named in
    let o = operands_step r p.operands in
    let l = rest_step r f p.named in
    ap (λ v. row (ExpressionKind p.kind v) None (map Some p.plain) [] (named_place (rename_named r p.named) ∷ map (option_map ExpressionItem) (map (option_map r.expression) p.operands))) l ∙ ap (λ v. row (ExpressionKind p.kind (named_rest p.named)) None (map Some p.plain) [] (v ∷ map (option_map ExpressionItem) (map (option_map r.expression) p.operands))) n ∙ ap (λ v. row (ExpressionKind p.kind (named_rest p.named)) None (map Some p.plain) [] (option_map (rename_place r) (named_place p.named) ∷ v)) o

-- ---- what is read of a source

-- the row of what a look-up gives
pub row_found : {X : Type 0} (f : X → Row) (o : Option (X × Span)) (v : Option X) (w : Option Row) → v ≡ option_map (λ e. e.0) o → w ≡ option_map (λ e. f e.0) o → option_map f v ≡ w
row_found f None v w e h = ap (option_map f) e ∙ sym h
row_found f (Some x) v w e h = ap (option_map f) e ∙ sym h

nothing_there : {X : Type 0} (f : X → Row) (o : Option (X × Span)) (r : Row) → ((x : X) → option_map (λ e. e.0) o ≡ Some x → ⊥) → option_map (λ e. f e.0) o ≡ Some r → ⊥
nothing_there f None r n e = cc
nothing_there f (Some y) r n e = n y.0 refl

inside : {X : Type 0} (xs : List (X × Span)) (k : ℕ) (x : X) (o : Option (X × Span)) → slice_get xs k ≡ o → option_map (λ e. e.0) o ≡ Some x → k < length xs
inside xs k x None e h = cc
inside xs k x (Some y) e h = slice_get_within xs k y e

-- there is a place for what an arena of the source has
pub fits : {X : Type 0} (xs : List (X × Span)) (v : Vec (Option ℕ) Global) (k : ℕ) (x : X) → option_map (λ e. e.0) (slice_get xs k) ≡ Some x → length v.items ≡ length xs → k < vec_len v
fits xs v k x e l =
    let w = inside xs k x (slice_get xs k) refl e in
    let n = v.ok.0 in
    omega (arith, w, n, l)

-- what a look-up gives is what the arena has
pub found : {X : Type 0} (o : Option (Bor X)) (v : Option X) (x : Bor X) → option_copied o ≡ v → o ≡ Some x → v ≡ Some x.now
found o v x e h = sym e ∙ ap option_copied h

pub not_found : {X : Type 0} (o : Option (Bor X)) (v : Option X) → option_copied o ≡ v → ((x : Bor X) → o ≡ Some x → ⊥) → (x : X) → v ≡ Some x → ⊥
not_found None v e n x h = let q : None ≡ Some x = e ∙ h in cc
not_found (Some y) v e n x h = n y refl

-- ---- what is there is found

pub type_absent : (source : Module) (k : ℕ) → ((x : TypeOfShader) → option_map (λ e. e.0) (slice_get source.types k) ≡ Some x → ⊥) → IsThere source (TypeItem k) → ⊥
type_absent source k n t = nothing_there type_row (slice_get source.types k) t.0 n (sym (world_type source k) ∙ t.1)

pub constant_absent : (source : Module) (k : ℕ) → ((x : ConstantItself) → option_map (λ e. e.0) (slice_get source.constants k) ≡ Some x → ⊥) → IsThere source (ConstantItem k) → ⊥
constant_absent source k n t = nothing_there constant_row (slice_get source.constants k) t.0 n (sym (world_constant source k) ∙ t.1)

pub override_absent : (source : Module) (k : ℕ) → ((x : OverrideItself) → option_map (λ e. e.0) (slice_get source.overrides k) ≡ Some x → ⊥) → IsThere source (OverrideItem k) → ⊥
override_absent source k n t = nothing_there override_row (slice_get source.overrides k) t.0 n (sym (world_override source k) ∙ t.1)

pub global_absent : (source : Module) (k : ℕ) → ((x : GlobalItself) → option_map (λ e. e.0) (slice_get source.global_variables k) ≡ Some x → ⊥) → IsThere source (GlobalItem k) → ⊥
global_absent source k n t = nothing_there global_row (slice_get source.global_variables k) t.0 n (sym (world_global source k) ∙ t.1)

pub expression_absent : (source : Module) (k : ℕ) → ((x : Expression) → option_map (λ e. e.0) (slice_get source.global_expressions k) ≡ Some x → ⊥) → IsThere source (ExpressionItem k) → ⊥
expression_absent source k n t = nothing_there expression_row (slice_get source.global_expressions k) t.0 n (sym (world_expression source k) ∙ t.1)
