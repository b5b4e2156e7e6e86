-- Modules with other functions.
use Rattle.std.proofs.Common.{◌≡◌, ℕ, List, slice_get, Option, unwrap_or, refl, ap, sym, subst}
use Rattle.naga_oil_ir.specs.ModuleValue.{ModuleValue, FunctionValue}
use Rattle.naga_oil_ir.specs.declared.module.Module.{Module}
use Rattle.naga_oil_ir.specs.declared.module.Function.{Function}
use Rattle.naga_oil_ir.specs.declared.names.ItemPlace.{ItemPlace}
use Rattle.naga_oil_ir.specs.declared.names.ItemPlace.TheVariants.{TypeItem, ConstantItem, OverrideItem, GlobalItem, ExpressionItem}
use Rattle.naga_oil_ir.specs.declared.span.Span.{Span}
use Rattle.naga_oil_derive.specs.Tree.{World}
use Rattle.naga_oil_derive.specs.World.{value_of, world, named_world}
use Rattle.naga_oil_derive.specs.Copying.{IsSound, AreCopied, IsCopying, goes_under, source_world, kept_between}
use Rattle.naga_oil_derive.specs.Went.{went_by}
use Rattle.naga_oil_derive.specs.Imported.{meanings}
use Rattle.naga_oil_derive.specs.DerivedFunctions.{meant_at, going, having}
use Rattle.naga_oil_derive.specs.declared.maps.Maps.{Maps}
use Rattle.naga_oil_derive.specs.declared.import.Functions.{Functions}
use Rattle.naga_oil_derive.proofs.CopyLemmas.{kept_same}
use Rattle.naga_oil_derive.proofs.DeriveLemmas.{source_at}
use Rattle.naga_oil_derive.proofs.FunctionValues.{callee_same}

-- ---- a module with other functions

abbrev pub given : ModuleValue → List (FunctionValue × Span) → ModuleValue
given m fs = record m { functions = fs }

pub world_given_at : (m : ModuleValue) (fs : List (FunctionValue × Span)) (p : ItemPlace) → world (given m fs) p ≡ world m p
unfolding world
world_given_at m fs (TypeItem k) = refl
world_given_at m fs (ConstantItem k) = refl
world_given_at m fs (OverrideItem k) = refl
world_given_at m fs (GlobalItem k) = refl
world_given_at m fs (ExpressionItem k) = refl

pub world_given : (m : ModuleValue) (fs : List (FunctionValue × Span)) → world (given m fs) ≡ world m
world_given m fs = λ i p. world_given_at m fs p i

-- ---- the items of a module don't depend on its functions

world_at : (t : Module) (fs : List (Function × Span)) (p : ItemPlace) → world (value_of (having t fs)) p ≡ world (value_of t) p
unfolding world value_of
world_at t fs (TypeItem k) = refl
world_at t fs (ConstantItem k) = refl
world_at t fs (OverrideItem k) = refl
world_at t fs (GlobalItem k) = refl
world_at t fs (ExpressionItem k) = refl

pub world_having : (t : Module) (fs : List (Function × Span)) → world (value_of (having t fs)) ≡ world (value_of t)
world_having t fs = λ i p. world_at t fs p i

pub source_having : (source t : Module) (m : Maps) (fs : List (Function × Span)) → source_world source (having t fs) m ≡ source_world source t m
unfolding source_world
source_having source t m fs = ap (λ (v : World). named_world (world (value_of source)) v (goes_under m)) (world_having t fs)

-- the state between calls stays one
pub copying_having : (source t : Module) (m : Maps) (fs : List (Function × Span)) → IsCopying source t m → IsCopying source (having t fs) m
copying_having source t m fs i =
    let w = world_having t fs in
    let a : AreCopied (source_world source t m) (world (value_of (having t fs))) (kept_between source t) (goes_under m) = subst (λ (v : World). AreCopied (source_world source t m) v (kept_between source t) (goes_under m)) (sym w) i.copied in
    let b = subst (λ (v : World). AreCopied v (world (value_of (having t fs))) (kept_between source t) (goes_under m)) (sym (source_having source t m fs)) a in
    record {
      long = i.long;
      sound = subst IsSound (sym w) i.sound;
      copied = subst (λ k. AreCopied (source_world source (having t fs) m) (world (value_of (having t fs))) k (goes_under m)) (sym (kept_same source t (having t fs) refl)) b;
    }

-- ---- what items map to

function_goes : (source : Module) (m : Maps) (fs : Functions) → (h : ℕ) → unwrap_or (meant_at (meanings fs.names.entries) (slice_get (value_of source).functions h)) h ≡ (went_by m source fs.names).function h
unfolding value_of
function_goes source m fs h = ap (λ (o : Option ℕ). unwrap_or o h) (sym (callee_same fs.names source.functions h))

pub going_same : (source : Module) (m : Maps) (fs : Functions) → went_by m source fs.names ≡ going (source_at source m) (meanings fs.names.entries)
going_same source m fs = ap (λ (f : ℕ → ℕ). record (went_by m source fs.names) { function = f }) (λ i h. sym (function_goes source m fs h) i)
