-- Which functions a function of the small make may copy.
use Rattle.std.proofs.Common.{◌≡◌, ◌⊎◌, inl, inr, ℕ, zero, suc, ◌*◌, [], length, take, refl, Some, None, Result, Ok, ap, sym, ◌∙◌, subst, slice_get}
use Rattle.std.proofs.lemmas.Option.{none-some, same_Some}
use Rattle.naga_oil_ir.specs.ModuleValue.{ModuleValue, FunctionValue, EntryValue}
use Rattle.naga_oil_ir.specs.Rows.{Row, Text}
use Rattle.naga_oil_ir.specs.declared.backend.Capabilities.{Capabilities}
use Rattle.naga_oil_ir.specs.declared.names.ItemPlace.{ItemPlace}
use Rattle.naga_oil_ir.specs.declared.span.Span.{Span}
use Rattle.naga_oil_ir.specs.Spans.{span_stride, undefined}
use Rattle.naga_oil_derive.specs.Tree.{World}
use Rattle.naga_oil_derive.specs.CopiedLaw.{HasAt}
use Rattle.naga_oil_derive.specs.World.{world, shifted}
use Rattle.naga_oil_copy_laws.specs.EntryByTree.{EntryAlike}
use Rattle.naga_oil_copy_laws.specs.Scope.{ReadAlike, scope_of}
use Rattle.naga_oil_link_laws.specs.HeldBuild.{DecoratesTypes}
use Rattle.naga_oil_link_laws.specs.KeptAlike.{scope_alike}
use Rattle.naga_oil_words.specs.Marks.{has_module_mark}
use Rattle.naga_oil_registry.specs.Registered.{Registered, Defs}
use Rattle.naga_oil_link.specs.BuiltModule.{BuiltModule, Builds}
use Rattle.naga_oil_link.specs.Linked.{link_header}
use Rattle.naga_oil_link.specs.Owned.{own_places}
use Rattle.naga_oil_link_laws.specs.Headers.{HasNamed}
use Rattle.naga_oil_build.specs.Build.{WholeText, begin_build, write_whole, build}
use Rattle.naga_oil_build.specs.Held.{Settings, parse_whole}
use Rattle.naga_oil_form.specs.Form.{is_formed}
use Rattle.naga_oil_form_laws.specs.ShapeTest.{has_shape}
use Rattle.naga_oil.specs.CallsSent.{call_goes}
use Rattle.naga_oil.specs.Shader.{read_shader}
use Rattle.naga_oil.specs.Faithful.{IsBuiltOf, IsBuiltModule, IsBuiltShader, IsBuilt, ParseOf, header_of, made_builds, owned_parse, CopiesParsed, FunctionComes, ItemComes, EntryComes, IsFaithful}
use Rattle.naga_oil_faithful_laws.specs.SmallMake.{function, span, small_settings, registry, shader, module_definition, module_parse, shader_parse, module_text, shader_text, helper_name, base_name, override_name, kill, base, override_of}
use Rattle.naga_oil_faithful_laws.proofs.Texts.{source_read, described, shader_read, module_read, shader_definition, shader_output, module_output, used}
use Rattle.naga_oil_faithful_laws.proofs.Builds.{copies, keywords, module_build, shader_build, module_is_built, shader_is_built}
use Rattle.naga_oil_faithful_laws.proofs.Answered.{builds, defs_made, answered}

-- ---- the two builds

-- a text is built in one way
one_built : (s : Settings) (defs : Defs) (d : Registered) (before : Builds) (b c : BuiltModule) (p q : ModuleValue) → IsBuiltOf s defs d before b p → IsBuiltOf s defs d before c q → (b ≡ c) × (p ≡ q)
one_built s defs d before b c p q h k =
    let e : h.output ≡ k.output = same_ok _ _ (sym h.preprocessed ∙ k.preprocessed) in
    let f : b ≡ c = same_ok _ _ (sym h.built ∙ ap (λ o. build s d o before) e ∙ k.built) in
    let w : h.whole ≡ k.whole = same_ok _ _ (sym h.written ∙ ap (λ o. write_whole s d before o.text (begin_build before d o.uses)) e ∙ k.written) in
    (f, same_ok _ _ (sym h.parsed ∙ ap (λ (w : WholeText). parse_whole s.front d.language w.text b.decoration) w ∙ ap (λ (b : BuiltModule). parse_whole s.front d.language k.whole.text b.decoration) f ∙ k.parsed))
  where
    same_ok : {X F : Type 0} (x y : X) → ◌≡◌ {A = Result X F} (Ok x) (Ok y) → x ≡ y
    same_ok x y e = cc

pub module_is : (c : Capabilities) → IsBuiltOf (small_settings c) [] module_definition [] module_build module_parse
unfolding write_whole parse_whole is_formed has_shape copies keywords
module_is c = record {
  output = module_output;
  preprocessed = module_read;
  built = module_is_built c;
  whole = record { text = module_text; built = begin_build [] module_definition [] };
  written = refl;
  parsed = refl;
}

pub shader_is : (c : Capabilities) → IsBuiltOf (small_settings c) [] shader_definition builds shader_build shader_parse
unfolding write_whole parse_whole is_formed has_shape copies keywords
shader_is c = record {
  output = shader_output;
  preprocessed = shader_read;
  built = shader_is_built c;
  whole = record { text = shader_text; built = record (begin_build builds shader_definition used) { overriding = shader_build.overriding } };
  written = refl;
  parsed = refl;
}

-- ---- which build a build of the make is

abbrev pub IsModule : BuiltModule → ModuleValue → Type 0
IsModule b p = (b ≡ module_build) × (p ≡ module_parse)

abbrev pub IsShader : BuiltModule → ModuleValue → Type 0
IsShader b p = (b ≡ shader_build) × (p ≡ shader_parse)

module_only : (c : Capabilities) (b : BuiltModule) (p : ModuleValue) → IsBuiltModule (small_settings c) registry [] builds b p → IsModule b p
module_only c b p h = one h.place h.registered h.definition h.known h.at h.is
  where
    one : (place registered : ℕ) (d : Registered) → slice_get registry registered ≡ Some d → slice_get builds place ≡ Some (d.name, b) → IsBuiltOf (small_settings c) [] d (take place builds) b p → IsModule b p
    one zero zero d k a i =
        let e : module_definition ≡ d = same_Some module_definition d k in
        one_built (small_settings c) [] module_definition [] b module_build p module_parse (subst (λ d. IsBuiltOf (small_settings c) [] d [] b p) (sym e) i) (module_is c)
    one (suc place) registered d k a i = absurd (none-some (d.name, b) a)
    one zero (suc registered) d k a i = absurd (none-some d k)

pub shader_only : (c : Capabilities) (b : BuiltModule) (p : ModuleValue) → IsBuiltShader (small_settings c) registry 0 shader b p → IsShader b p
shader_only c b p h =
    let e : (shader.source, 0) ≡ h.read = (let x = sym source_read ∙ h.source in cc) in
    let d : shader_definition ≡ h.definition = (let x = sym described ∙ ap (λ r. read_shader shader r.0) e ∙ h.described in cc) in
    let i = subst (λ bs. IsBuiltOf (small_settings c) [] h.definition bs b p) (ap (λ o. o.builds) (answered c)) (subst (λ defs. IsBuiltOf (small_settings c) defs h.definition (made_builds (small_settings c) registry 0 shader) b p) defs_made h.is) in
    one_built (small_settings c) [] shader_definition builds b shader_build p shader_parse (subst (λ d. IsBuiltOf (small_settings c) [] d builds b p) (sym d) i) (shader_is c)

-- the header that stands before the shader's source: it declares the function that it imports
abbrev pub shader_header : ModuleValue
shader_header = link_header builds shader_build.imports

base_declared : HasNamed shader_header (Some base_name)
unfolding copies
base_declared = (0, _, refl, refl)

-- the header declares no other function
pub only_base : (n : Text) → HasNamed shader_header n → Some base_name ≡ n
unfolding copies
only_base n h = one h.0 h.1 h.2 h.3
  where
    one : (k : ℕ) (e : FunctionValue × Span) → slice_get shader_header.functions k ≡ Some e → e.0.name ≡ n → Some base_name ≡ n
    one zero e at name = ap (λ (x : FunctionValue × Span). x.0.name) (same_Some _ e at) ∙ name
    one (suc k) e at name = absurd (none-some e at)

-- a parse is that of the module, or of the shader after its header
abbrev pub IsOfTwo : (c : Capabilities) → ParseOf (small_settings c) registry 0 shader → Type 0
IsOfTwo c o = IsModule o.b o.parse ⊎ (IsShader o.b o.parse × (header_of (small_settings c) registry 0 shader o ≡ shader_header))

pub which : (c : Capabilities) (o : ParseOf (small_settings c) registry 0 shader) → IsOfTwo c o
which c o = one o.is
  where
    one : (is : IsBuilt (small_settings c) registry 0 shader o.b o.parse) → IsOfTwo c (record { b = o.b; parse = o.parse; is = is })
    one (inl h) = inl (module_only c o.b o.parse (subst (λ bs. IsBuiltModule (small_settings c) registry [] bs o.b o.parse) (ap (λ o. o.builds) (answered c)) (subst (λ defs. IsBuiltModule (small_settings c) registry defs (made_builds (small_settings c) registry 0 shader) o.b o.parse) defs_made h)))
    one (inr h) =
        let only = shader_only c o.b o.parse h in
        inr (only, ap (λ (bs : Builds). link_header bs o.b.imports) (ap (λ o. o.builds) (answered c)) ∙ ap (λ (b : BuiltModule). link_header builds b.imports) only.0)

-- ---- which functions may be copied

abbrev pub own_helper : FunctionValue
own_helper = function helper_name [] [] [] kill

abbrev pub own_base : FunctionValue
own_base = record base { name = Some base_name }

-- where the calls of a function are redirected
abbrev pub calls_go : Text → Text → Text
calls_go = call_goes shader_build.overriding

-- g copies one of the functions of the two parses, and not the shader's declaration of another
pub data Comes (made : ModuleValue) (g : FunctionValue × Span) : Type 0 where
  OfHelper : CopiesParsed module_build module_parse (calls_go (Some helper_name)) made own_helper g.0 → g.1 ≡ undefined → Comes made g
  OfBase : CopiesParsed module_build module_parse (calls_go (Some base_name)) made own_base g.0 → g.1 ≡ span 2097152 2097161 → Comes made g
  OfOverride : CopiesParsed shader_build shader_parse (calls_go (Some override_name)) made (override_of 0) g.0 → g.1 ≡ undefined → Comes made g

abbrev Copied : BuiltModule → ModuleValue → ModuleValue → FunctionValue × Span → FunctionValue × Span → Type 0
Copied b p made g f = CopiesParsed b p (calls_go f.0.name) made f.0 g.0 × (g.1 ≡ shifted (b.index * span_stride) f.1)

of_module : (made : ModuleValue) (g : FunctionValue × Span) (place : ℕ) (f : FunctionValue × Span) → slice_get (owned_parse module_build module_parse).functions place ≡ Some f → Copied module_build module_parse made g f → Comes made g
unfolding has_module_mark
of_module made g zero f at k = let z = subst (Copied module_build module_parse made g) (sym (same_Some (own_helper, undefined) f at)) k in OfHelper z.0 z.1
of_module made g (suc zero) f at k = let z = subst (Copied module_build module_parse made g) (sym (same_Some (own_base, span 0 9) f at)) k in OfBase z.0 z.1
of_module made g (suc (suc place)) f at k = absurd (none-some f at)

of_shader : (made : ModuleValue) (g : FunctionValue × Span) (place : ℕ) (f : FunctionValue × Span) → slice_get (owned_parse shader_build shader_parse).functions place ≡ Some f → (HasNamed shader_header f.0.name → ⊥) → Copied shader_build shader_parse made g f → Comes made g
unfolding has_module_mark
of_shader made g zero f at new k = absurd (new (subst (λ (x : FunctionValue × Span). HasNamed shader_header x.0.name) (same_Some _ f at) base_declared))
of_shader made g (suc zero) f at new k = let z = subst (Copied shader_build shader_parse made g) (sym (same_Some (override_of 0, undefined) f at)) k in OfOverride z.0 z.1
of_shader made g (suc (suc place)) f at new k = absurd (none-some f at)

of_parse : (b d : BuiltModule) (p q : ModuleValue) (made : ModuleValue) (g : FunctionValue × Span) → b ≡ d → p ≡ q → (place : ℕ) (f : FunctionValue × Span) → slice_get (owned_parse b p).functions place ≡ Some f → Copied b p made g f → (slice_get (owned_parse d q).functions place ≡ Some f) × Copied d q made g f
of_parse b d p q made g e i place f at k =
    subst (λ q. (slice_get (owned_parse d q).functions place ≡ Some f) × Copied d q made g f) i
    (subst (λ d. (slice_get (owned_parse d p).functions place ≡ Some f) × Copied d p made g f) e (at, k))

module _ (c : Capabilities) (made : ModuleValue) (g : FunctionValue × Span) (s : BuiltModule) (x : FunctionComes (small_settings c) registry 0 shader s made g) where
  comes_by : s ≡ shader_build → IsOfTwo c x.of → Comes made g
  comes_by e (inl i) = let z = of_parse x.of.b module_build x.of.parse module_parse made g i.0 i.1 x.place x.function x.at (subst (λ (b : BuiltModule). CopiesParsed x.of.b x.of.parse (call_goes b.overriding x.function.0.name) made x.function.0 g.0) e x.copies, x.span) in of_module made g x.place x.function z.0 z.1
  comes_by e (inr two) = let i = two.0 in let z = of_parse x.of.b shader_build x.of.parse shader_parse made g i.0 i.1 x.place x.function x.at (subst (λ (b : BuiltModule). CopiesParsed x.of.b x.of.parse (call_goes b.overriding x.function.0.name) made x.function.0 g.0) e x.copies, x.span) in of_shader made g x.place x.function z.0 (λ h. x.undeclared (subst (λ (v : ModuleValue). HasNamed v x.function.0.name) (sym two.1) h)) z.1

-- each function of a faithful module copies one of these
pub each_comes : (c : Capabilities) (made : ModuleValue) (h : IsFaithful (small_settings c) registry 0 shader made) (k : ℕ) (g : FunctionValue × Span) → slice_get made.functions k ≡ Some g → Comes made g
each_comes c made h k g at =
    let x = h.functions k g at in
    comes_by c made g h.shader x (shader_only c h.shader h.parse h.is).0 (which c x.of)

entry_at : (c : Capabilities) (made : ModuleValue) (h : IsFaithful (small_settings c) registry 0 shader made) (i : ℕ) (y : EntryValue) → slice_get made.entry_points i ≡ Some y → EntryComes shader_build shader_parse (λ s. s) made i y
entry_at c made h i y at =
    let e = shader_only c h.shader h.parse h.is in
    subst (λ b. EntryComes b shader_parse (λ s. s) made i y) e.0 (subst (λ p. EntryComes h.shader p (λ s. s) made i y) e.1 (h.entry_points i y at))

-- ---- items

-- the item at q reads as one of a parse
pub record ReadsItem (b : BuiltModule) (p made : ModuleValue) (q : ItemPlace) : Type 0 where
  pub reads : World
  pub decorated : DecoratesTypes (owned_parse b p) (own_places p) b.decoration reads
  pub place : ItemPlace
  pub stands : HasAt (owned_parse b p) place
  pub alike : ReadAlike (scope_alike reads (owned_parse b p) made) (scope_of made) place q

abbrev pub ReadsEither : ModuleValue → ItemPlace → Type 0
ReadsEither made q = ReadsItem module_build module_parse made q ⊎ ReadsItem shader_build shader_parse made q

item_either : (c : Capabilities) (made : ModuleValue) (q : ItemPlace) (x : ItemComes (small_settings c) registry 0 shader made q) → ReadsEither made q
item_either c made q x = one (which c x.of)
  where
    here : ReadsItem x.of.b x.of.parse made q
    here = record { reads = x.reads; decorated = x.decorated; place = x.place; stands = x.stands; alike = x.alike }

    at_parse : (b : BuiltModule) (p : ModuleValue) → x.of.b ≡ b → x.of.parse ≡ p → ReadsItem b p made q
    at_parse b p e i = subst (λ p. ReadsItem b p made q) i (subst (λ b. ReadsItem b x.of.parse made q) e here)

    one : IsOfTwo c x.of → ReadsEither made q
    one (inl i) = inl (at_parse module_build module_parse i.0 i.1)
    one (inr i) = inr (at_parse shader_build shader_parse i.0.0 i.0.1)

-- each item of a faithful module reads as one of the two parses
pub item_reads : (c : Capabilities) (made : ModuleValue) (h : IsFaithful (small_settings c) registry 0 shader made) (q : ItemPlace) (r : Row) → world made q ≡ Some r → ReadsEither made q
item_reads c made h q r at = item_either c made q (h.items q r at)

-- ---- entry points

-- the entry points are as many as the shader's
pub entries_counted : (c : Capabilities) (made : ModuleValue) (h : IsFaithful (small_settings c) registry 0 shader made) → length made.entry_points ≡ 2
unfolding has_module_mark
entries_counted c made h =
    let e = shader_only c h.shader h.parse h.is in
    subst (λ (b : BuiltModule). length made.entry_points ≡ length (owned_parse b shader_parse).entry_points) e.0 (subst (λ (p : ModuleValue). length made.entry_points ≡ length (owned_parse h.shader p).entry_points) e.1 h.as_many)

-- the function of the first entry point copies that of the shader's first entry point
pub entry_comes : (c : Capabilities) (made : ModuleValue) (h : IsFaithful (small_settings c) registry 0 shader made) (i : ℕ) (y x : EntryValue) → slice_get made.entry_points i ≡ Some y → slice_get (owned_parse shader_build shader_parse).entry_points i ≡ Some x → CopiesParsed shader_build shader_parse (calls_go None) made x.function y.function
entry_comes c made h i y x at there =
    let k = entry_at c made h i y at in
    subst (λ (x : EntryValue). CopiesParsed shader_build shader_parse (calls_go None) made x.function y.function) (same_Some k.entry x (sym k.at ∙ there)) k.copies

-- and everything else of it
pub entry_whole : (c : Capabilities) (made : ModuleValue) (h : IsFaithful (small_settings c) registry 0 shader made) (i : ℕ) (y x : EntryValue) → slice_get made.entry_points i ≡ Some y → slice_get (owned_parse shader_build shader_parse).entry_points i ≡ Some x → (reads : World) × EntryAlike (λ s. s) (scope_alike reads (owned_parse shader_build shader_parse) made) (scope_of made) x y
entry_whole c made h i y x at there =
    let k = entry_at c made h i y at in
    (k.copies.reads, subst (λ (x : EntryValue). EntryAlike (λ s. s) (scope_alike k.copies.reads (owned_parse shader_build shader_parse) made) (scope_of made) x y) (same_Some k.entry x (sym k.at ∙ there)) k.whole)
