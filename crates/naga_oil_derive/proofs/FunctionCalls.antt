-- Calls that copy functions, as their callers see them.
use Rattle.std.proofs.Common.{◌≡◌, ℕ, [], length, slice_get, Option, Some, None, option_map, refl, ap, sym, ◌∙◌, subst, IfSome, Result, Ok, Err, OnOk, IfOk, String, string_bytes, Global}
use Rattle.std.specs.declared.borrow.CowStr.{CowStr}
use Rattle.std.specs.Borrow.{Bor}
use Rattle.indexmap.specs.IndexMap.{IndexMap}
use Rattle.naga_oil_ir.specs.ModuleValue.{FunctionValue, function_value}
use Rattle.naga_oil_ir.specs.declared.module.Module.{Module}
use Rattle.naga_oil_ir.specs.declared.module.Function.{Function}
use Rattle.naga_oil_ir.specs.declared.span.Span.{Span}
use Rattle.naga_oil_derive.specs.declared.maps.Maps.{Maps}
use Rattle.naga_oil_derive.specs.declared.import.Functions.{Functions}
use Rattle.naga_oil_walk.specs.declared.walk.Request.TheVariants.{Call}
use Rattle.naga_oil_derive.specs.World.{value_of}
use Rattle.naga_oil_rename.specs.Renames.{Renames}
use Rattle.naga_oil_derive.specs.Copying.{IsCopying}
use Rattle.naga_oil_derive.specs.Callees.{known_as, callee_at}
use Rattle.naga_oil_derive.specs.Went.{went_by}
use Rattle.naga_oil_derive.specs.CopiedFunction.{copy_function}
use Rattle.naga_oil_derive.specs.Imported.{meanings, IsAnswerable, IsImportable}
use Rattle.naga_oil_derive.specs.Derived.{Source, Derived}
use Rattle.naga_oil_derive.specs.DerivedView.{source_of, derived_of, IsDerived}
use Rattle.naga_oil_derive.specs.DerivedFunctions.{Meanings, meant, meant_at, going, having, MayAsk, MayCopy, MayCall, MayReach, KeepsFunctions, MeansAt}
use Rattle.naga_oil_derive.specs.DerivedValue.{by_source, importing_of, after_importing, localize_function}
use Rattle.naga_oil_derive.specs.DerivedLaw.{kept_by}
use Rattle.naga_oil_derive.specs.Answered.{ImportState, import_state}
use Rattle.naga_oil_derive.specs.AnsweredLaw.{HasCopies, HaveCopies, AddsOnly}
use Rattle.naga_oil_derive.specs.Putting.{Adding}
use Rattle.naga_oil_derive.proofs.DeriveLemmas.{source_at}
use Rattle.naga_oil_derive.proofs.DeriveCalls.{Shader, FunctionNames, source_in}
use Rattle.naga_oil_derive.proofs.Derivations.{derived_by}
use Rattle.naga_oil_derive.proofs.DerivedValues.{before, after, imported_value}
use Rattle.naga_oil_derive.proofs.ViewLaws.{view_derived}
use Rattle.naga_oil_derive.proofs.AddingLaws.{adding_law}
use Rattle.naga_oil_derive.proofs.FunctionLaws.{alone, copies}
use Rattle.naga_oil_derive.proofs.FunctionValues.{known_same, callee_means, may_copy_all, may_call, function_at}
use Rattle.naga_oil_derive.proofs.HavingLemmas.{copying_having, going_same}

-- ---- what is asked of a caller

pub copying_in : (o : Shader) (s : Bor Module) (t a : Module) (m : Maps) → o ≡ Some s → IsDerived o m t → a ≡ having t [] → IsCopying s.now a m
copying_in o s t a m e d ta = subst (λ (y : Module). IsCopying s.now y m) (sym ta) (copying_having s.now t m [] (source_in o s m t e d).0)

-- what a caller says of its source and of names holds of the fields
in_source : (P : Source → Meanings → Type 0) (o : Shader) (s : Bor Module) (m : Maps) (t : Module) (ns : FunctionNames) (d : Derived) → o ≡ Some s → derived_of o m t ns ≡ d → IfSome d.source (λ x. P x d.function_names) → P (source_at s.now m) (meanings ns)
in_source P o s m t ns d e v h =
    let w = subst (λ (x : Derived). IfSome x.source (λ y. P y x.function_names)) (sym v) h in
    subst (λ (x : Shader). IfSome (option_map (source_of m) x) (λ y. P y (meanings ns))) e w

pub one_in : (o : Shader) (s : Bor Module) (m : Maps) (t : Module) (fs : Functions) (ns : FunctionNames) (d : Derived) (n : ℕ) (g : Function) → o ≡ Some s → derived_of o m t ns ≡ d → fs.names.entries ≡ ns → n ≡ length s.now.functions → IfSome d.source (λ x. MayCopy x.value (MayReach d.function_names x) (function_value g)) → IsImportable s.now fs n g
one_in o s m t fs ns d n g e v f l h =
    may_copy_all s.now fs n g l (subst (λ (q : FunctionNames). MayCopy (value_of s.now) (MayCall (value_of s.now) (meanings q) (length (value_of s.now).functions)) (function_value g)) (sym f) (in_source (λ x q. MayCopy x.value (MayReach q x) (function_value g)) o s m t ns d e v h))

pub call_in : (o : Shader) (s : Bor Module) (m : Maps) (t : Module) (fs : Functions) (ns : FunctionNames) (d : Derived) (n k : ℕ) → o ≡ Some s → derived_of o m t ns ≡ d → fs.names.entries ≡ ns → n ≡ length s.now.functions → IfSome d.source (λ x. MayAsk x.value (MayReach d.function_names x) (Call k)) → IsAnswerable s.now fs n (Call k)
call_in o s m t fs ns d n k e v f l h =
    may_call s.now fs n k l (subst (λ (q : FunctionNames). MayAsk (value_of s.now) (MayCall (value_of s.now) (meanings q) (length (value_of s.now).functions)) (Call k)) (sym f) (in_source (λ x q. MayAsk x.value (MayReach q x) (Call k)) o s m t ns d e v h))

-- ---- a call

-- functions are taken out of the target of copying, and put back
pub record IsCall (o : Shader) (s : Bor Module) (t x y u : Module) (m n : Maps) (f g : Functions) (ns qs : FunctionNames) (d : Derived) : Type 0 where
  pub is : o ≡ Some s
  pub view : derived_of o m t ns ≡ d
  pub holds : IsDerived o m t
  pub left : x ≡ having t []
  pub taken : f.copies ≡ t.functions
  pub names : f.names.entries ≡ ns
  pub offset : n.offset ≡ m.offset
  pub put : u ≡ having y g.copies
  pub seen : qs ≡ g.names.entries
  pub adding : Adding (value_of s.now) m.offset (import_state m x f) (import_state n y g)

adds : (o : Shader) (s : Bor Module) (t x y u : Module) (m n : Maps) (f g : Functions) (ns qs : FunctionNames) (d : Derived) → IsCall o s t x y u m n f g ns qs d → AddsOnly (kept_by (derived_of (Some s) m t ns)) (derived_of (Some s) m t ns) (derived_of (Some s) n u qs)
adds o s t x y u m n f g ns qs d c =
    let e = derived_of (Some s) m t ns in
    let i = import_state n y g in
    let start = subst (λ (k : ImportState). Adding (value_of s.now) m.offset k i) (before s t x m f ns c.left c.taken c.names) c.adding in
    subst (AddsOnly (kept_by e) e) (sym (after s y u m n g qs c.offset c.put c.seen)) (adding_law (kept_by e) e (source_of m s) i (view_derived (Some s) m t ns (subst (λ (q : Shader). IsDerived q m t) c.is c.holds)) refl start)

-- what holds of a derived module holds after the call, also if memory ran out
pub call_holds : (o : Shader) (s : Bor Module) (t x y u : Module) (m n : Maps) (f g : Functions) (ns qs : FunctionNames) (d : Derived) → IsCall o s t x y u m n f g ns qs d → IsDerived o n u
call_holds o s t x y u m n f g ns qs d c =
    subst (λ (q : Shader). IsDerived q n u) (sym c.is) (derived_by (kept_by (derived_of (Some s) m t ns)) s n u qs (source_in o s m t c.is c.holds).1 (adds o s t x y u m n f g ns qs d c).derivation)

-- the call keeps what is there
pub call_keeps : (o : Shader) (s : Bor Module) (t x y u : Module) (m n : Maps) (f g : Functions) (ns qs : FunctionNames) (d : Derived) → IsCall o s t x y u m n f g ns qs d → KeepsFunctions d (derived_of o n u qs)
call_keeps o s t x y u m n f g ns qs d c =
    let own = subst (λ (q : Shader). KeepsFunctions (derived_of q m t ns) (derived_of q n u qs)) (sym c.is) (adds o s t x y u m n f g ns qs d c).keeps in
    subst (λ (e : Derived). KeepsFunctions e (derived_of o n u qs)) c.view own

-- the state after the call, as a value
pub call_value : {A B : Type 0} (r : Result A B) (o : Shader) (s : Bor Module) (t x y u : Module) (m n : Maps) (f g : Functions) (ns qs : FunctionNames) (d : Derived) (F : Source → ImportState → ImportState) → IsCall o s t x y u m n f g ns qs d → OnOk r (import_state n y g ≡ F (source_of m s) (import_state m x f)) → OnOk r (derived_of o n u qs ≡ by_source d (λ z. after_importing z (F z (importing_of d z))) d.source)
call_value r o s t x y u m n f g ns qs d F c h = imported_value r o s t x y u m n f g ns qs d F c.is c.view c.left c.taken c.names c.offset c.put c.seen h

-- ---- what the laws require

-- copy_function of a function is a copy of it, whatever its items and functions map to
function_copies : (f : Function) → HasCopies (function_value f)
function_copies f = λ r h. copies r (function_value f) (record { form = h; alone = alone f })

pub have_copies : (o : Shader) (m : Maps) (t : Module) (ns : FunctionNames) → HaveCopies (derived_of o m t ns)
have_copies None m t ns = tt
have_copies (Some s) m t ns = λ k x e. (let y = function_at s.now k x e in subst HasCopies (ap (λ (z : FunctionValue × Span). z.0) y.2) (function_copies y.0.0))

-- ---- copies

-- the same as a value
pub copied_value : {B : Type 0} (r : Result Function B) (o : Shader) (s : Bor Module) (n : Maps) (u : Module) (g : Functions) (qs : FunctionNames) (f : Function) → o ≡ Some s → qs ≡ g.names.entries → IfOk r (λ w. function_value w ≡ copy_function (went_by n s.now g.names) (function_value f)) → IfOk r (λ w. function_value w ≡ localize_function (derived_of o n u qs).source (derived_of o n u qs).function_names (function_value f))
copied_value (Ok w) o s n u g qs f e q h =
    subst (λ (x : Shader). function_value w ≡ localize_function (derived_of x n u qs).source (derived_of x n u qs).function_names (function_value f)) (sym e) (subst (λ (x : FunctionNames). function_value w ≡ copy_function (going (source_at s.now n) (meanings x)) (function_value f)) (sym q) (h ∙ ap (λ (r : Renames). copy_function r (function_value f)) (going_same s.now n g)))
copied_value (Err x) o s n u g qs f e q h = tt

-- ---- names

pub name_ok : {B : Type 0} (r : Result ℕ B) (g : Functions) (qs : FunctionNames) (f : Function) → qs ≡ g.names.entries → IfOk r (λ h. known_as g.names f.name ≡ Some h) → IfOk r (λ h. meant (meanings qs) (function_value f).name ≡ Some h)
name_ok (Ok h) g qs f q i = ap (λ (x : FunctionNames). meant (meanings x) (function_value f).name) q ∙ sym (known_same g.names f.name) ∙ i
name_ok (Err y) g qs f q i = tt

pub means_ok : {B : Type 0} (r : Result ℕ B) (o : Shader) (s : Bor Module) (n : Maps) (u : Module) (g : Functions) (qs : FunctionNames) (k : ℕ) → o ≡ Some s → qs ≡ g.names.entries → IfOk r (λ h. callee_at g.names s.now.functions k ≡ Some h) → IfOk r (MeansAt (derived_of o n u qs) k)
means_ok (Ok h) o s n u g qs k e q i =
    subst (λ (y : Shader). MeansAt (derived_of y n u qs) k h) (sym e) (subst (λ (y : FunctionNames). meant_at (meanings y) (slice_get (value_of s.now).functions k) ≡ Some h) (sym q) (callee_means s.now g k h i))
means_ok (Err y) o s n u g qs k e q i = tt

pub meant_in : {S : Type 0} (o : Shader) (m : Maps) (t : Module) (names : IndexMap (CowStr Global) ℕ S) (d : Derived) (p : Option (String Global)) → derived_of o m t names.entries ≡ d → known_as names p ≡ meant d.function_names (option_map string_bytes p)
meant_in o m t names d p v = known_same names p ∙ ap (λ (x : Derived). meant x.function_names (option_map string_bytes p)) v
