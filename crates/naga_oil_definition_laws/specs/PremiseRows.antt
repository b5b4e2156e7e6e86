-- Worked rows: a make that answers, though its shader overrides a function that overrides another; and values that aren't its own.
use Rattle.std.proofs.Common.{◌≡◌, inr, ℕ, List, [], ◌∷◌, ◌++◌, false, true, Result, Ok, Err, All, length, if◌then◌else◌, refl, ap, sym, subst, ◌∙◌}
use Rattle.std.proofs.lemmas.List.Elements.{All-head}
use Rattle.std.specs.Prelude.{codes, bytes_eq}
use Rattle.std.specs.Str.{trim_start, trim_end}
use Rattle.naga_oil_words.specs.Texts.{in_order}
use Rattle.naga_oil_form.specs.Form.{is_formed}
use Rattle.naga_oil_form_laws.specs.ShapeTest.{has_shape}
use Rattle.naga_oil_ir.specs.Kinds.{call_head}
use Rattle.naga_oil_ir.specs.Backend.{FrontEnd}
use Rattle.naga_oil_ir.specs.Body.{Tokens}
use Rattle.naga_oil_ir.specs.ModuleValue.{ModuleValue, FunctionValue, module_value, no_items}
use Rattle.naga_oil_ir.specs.Spans.{undefined}
use Rattle.naga_oil_ir.specs.declared.backend.Capabilities.{Capabilities}
use Rattle.naga_oil_ir.specs.declared.language.ShaderLanguage.TheVariants.{Wgsl}
use Rattle.naga_oil_ir.specs.declared.module.Module.{Module}
use Rattle.naga_oil_ir.specs.declared.tokens.Token.TheVariants.{At, Head, Absent, Callee}
use Rattle.naga_oil_lines.specs.Decorate.{letters}
use Rattle.naga_oil_lines.specs.Directives.{no_directives}
use Rattle.naga_oil_lines.specs.Text.{past_word}
use Rattle.naga_oil_imports.specs.Uses.{Import, Use}
use Rattle.naga_oil_conditions.specs.Fault.{Fault}
use Rattle.naga_oil_conditions.specs.Replaced.{name_at, name_in_braces, hash_name, pieces, replaced_from, replaced, hash_names}
use Rattle.naga_oil_pre.specs.DirectiveLines.{cut_at, listed, treated, directive_of}
use Rattle.naga_oil_pre.specs.Extracted.{taken_out, extracted}
use Rattle.naga_oil_pre.specs.Metadata.{metadata}
use Rattle.naga_oil_pre.specs.Preprocessed.{Output, preprocessed}
use Rattle.naga_oil_pre.specs.Reading.{reading, read_block, read_arms}
use Rattle.naga_oil_pre.specs.Recorded.{names_from, names_of}
use Rattle.naga_oil_registry.specs.Added.{read_source}
use Rattle.naga_oil_registry.specs.Descriptor.{ShaderSource, no_shader}
use Rattle.naga_oil_registry.specs.Keywords.{MarkedFunction}
use Rattle.naga_oil_registry.specs.Registered.{Registered}
use Rattle.naga_oil_registry.specs.Sanitized.{first_decoration, sanitized}
use Rattle.naga_oil_link.specs.BuiltModule.{BuiltModule, Builds, nothing_built}
use Rattle.naga_oil_link.specs.Linked.{link_whole}
use Rattle.naga_oil_redirect.specs.Level.{level_below}
use Rattle.naga_oil_redirect.specs.PutInOrder.{in_turn}
use Rattle.naga_oil_build.specs.Build.{write_whole, build}
use Rattle.naga_oil_build.specs.Built.{preprocessed_of}
use Rattle.naga_oil_build.specs.Held.{Settings, settings, parse_whole, hold}
use Rattle.naga_oil_build.specs.OverridingForm.{LacksOverrideMark, OverridesOriginals}
use Rattle.naga_oil_build.specs.Virtuals.{overrides_in}
use Rattle.naga_oil.specs.Answer.{read_and_build_first, read_and_build_second, module_of_text, answer}
use Rattle.naga_oil.specs.Chain.{sent_down, all_sent_down, chain_all}
use Rattle.naga_oil.specs.ChainsLaw.{TextsOverrideOriginals}
use Rattle.naga_oil.specs.Faithful.{IsBuiltShader}
use Rattle.naga_oil.specs.Finish.{compose, finish}
use Rattle.naga_oil.specs.MakeDefs.{make_defs}
use Rattle.naga_oil.specs.Makes.{settings_of}
use Rattle.naga_oil.specs.Reach.{defined, reach_each, reach_module, reach}
use Rattle.naga_oil.specs.Refused.{Place, Refused}
use Rattle.naga_oil.specs.RunLaw.{IsOneValue}
use Rattle.naga_oil.specs.Shader.{read_shader}
use Rattle.naga_oil.specs.State.{State}
use Rattle.naga_oil.specs.declared.compose.command.Command.{Command}
use Rattle.naga_oil.specs.declared.compose.command.Reply.{Reply}
use Rattle.naga_oil.proofs.FaithfulLemmas.{calls_go_down}
use Rattle.naga_oil_faithful_laws.specs.PromiseLaw.{overriding_name, tricky_text}
use Rattle.naga_oil_faithful_laws.specs.SmallMake.{function, kill, entry, module_definition, module_text}
use Rattle.naga_oil_faithful_laws.proofs.Builds.{copies, keywords}
use Rattle.naga_oil_faithful_laws.proofs.Texts.{texts}

-- ---- the parses

-- the name, in its own text, of the function of `B` that overrides `f` of `A`
abbrev own_name : List ℕ
own_name = codes "fX_naga_oil_vrt_XIEX"

-- the name of the shader's function that overrides that one
abbrev second_name : List ℕ
second_name = codes "fX_naga_oil_vrt_XIEXX_naga_oil_vrt_XIIX"

abbrev call : ℕ → Tokens
call callee = At undefined ∷ Head call_head ∷ Callee callee ∷ Absent ∷ []

abbrev bare : List ℕ → Tokens → FunctionValue
bare name body = function name [] [] [] body

abbrev module_parse : ModuleValue
module_parse = record no_items { functions = (bare own_name kill, undefined) ∷ [] }

-- the shader declares the function of `B`; the one that overrides it calls it, and so does the entry point
abbrev shader_parse : ModuleValue
shader_parse = record no_items {
  functions = (bare overriding_name [], undefined) ∷ (bare second_name (call 0), undefined) ∷ [];
  entry_points = entry (bare (codes "main") (call 0)) ∷ [];
}

-- ---- the make

-- a front end that parses the text of `B`, and any other text as the shader's
abbrev front : FrontEnd
front = record {
  parse = λ in_language text. Ok (if bytes_eq text module_text then module_parse else shader_parse);
  write = λ m in_language capabilities. Ok [];
  valid = λ m capabilities. Ok tt;
}

abbrev any_settings : Capabilities → Settings
any_settings c = settings front c false true

abbrev b : Registered
b = record module_definition { name = codes "B" }

abbrev registry : List Registered
registry = b ∷ []

abbrev asked : List Import
asked = record { import = codes "B"; items = own_name ∷ [] } ∷ []

-- in a comment `q` becomes both of its paths, and `w` an item that ends the comment
abbrev lines : List ℕ
lines = codes "#import fX as q\n#import B::_naga_oil_vrt_XIEX as q\n#import D::\"*/\" as w\n/* w override fn q(x) */"

abbrev pub shader : ShaderSource
shader = record no_shader { source = lines ++ 10 ∷ []; additional = asked }

-- ---- its texts

-- `unfolding names` lets `refl` compute the `#` names of a text
unfoldable names : Unit {0}
unfolding replaced replaced_from pieces name_at name_in_braces hash_name hash_names names_from names_of in_order
names = tt

source_read : read_source 0 shader.source ≡ Ok (shader.source, 0)
unfolding read_source first_decoration sanitized
source_read = refl

abbrev shader_definition : Registered
shader_definition = record {
  name = [];
  source = lines;
  language = Wgsl;
  file_path = [];
  defs = [];
  effective = [];
  imports = [];
  additional = asked;
  directives = no_directives;
  index = 0;
}

described : read_shader shader shader.source ≡ Ok shader_definition
unfolding texts names read_shader metadata extracted taken_out cut_at listed treated directive_of trim_start trim_end past_word
described = refl

abbrev used : List Use
used = record { import = record { import = codes "B"; items = own_name ∷ [] }; offset = 0 } ∷ []

abbrev shader_output : Output
shader_output = record { text = codes "               \n                                  \n                    \n" ++ tricky_text; uses = used }

shader_read : preprocessed_of (defined []) shader_definition ≡ Ok shader_output
unfolding texts names preprocessed reading read_block read_arms letters
shader_read = refl

abbrev module_output : Output
module_output = record { text = module_text; uses = [] }

module_read : preprocessed_of (defined []) b ≡ Ok module_output
unfolding texts names preprocessed reading read_block read_arms letters
module_read = refl

-- ---- its builds

abbrev module_build : BuiltModule
module_build = record (nothing_built (codes "X_naga_oil_mod_XIIX") 1) {
  functions = overriding_name ∷ [];
  value = record no_items { functions = (bare overriding_name kill, undefined) ∷ [] };
  header = record no_items { functions = (bare overriding_name [], undefined) ∷ [] };
}

abbrev builds : Builds
builds = (codes "B", module_build) ∷ []

abbrev shader_build : BuiltModule
shader_build = record (nothing_built [] 0) {
  imports = asked;
  functions = second_name ∷ [];
  overriding = (overriding_name, second_name ∷ []) ∷ [];
  value = shader_parse;
  header = record no_items { functions = (bare second_name [], undefined) ∷ [] };
}

-- the entry point calls the last function
abbrev made : ModuleValue
made = record no_items {
  functions = (bare overriding_name kill, undefined) ∷ (bare second_name (call 0), undefined) ∷ [];
  entry_points = entry (bare (codes "main") (call 1)) ∷ [];
}

module _ (c : Capabilities) where
  module_is_built : build (any_settings c) b module_output [] ≡ Ok module_build
  unfolding build write_whole parse_whole is_formed has_shape hold copies keywords
  module_is_built = refl

  shader_is_built : build (any_settings c) shader_definition shader_output builds ≡ Ok shader_build
  unfolding build write_whole parse_whole is_formed has_shape hold copies keywords
  shader_is_built = refl

  composed : (place : Place) → compose (any_settings c) [] builds shader_build shader.shader_type place ≡ Ok made
  unfolding compose link_whole chain_all sent_down all_sent_down level_below in_turn copies
  composed place = refl

-- ---- its answer

defs_made : make_defs registry 0 shader ≡ []
unfolding make_defs
defs_made = rw (source_read, described, shader_read) refl

module _ (c : Capabilities) where
  answered : answer (any_settings c) registry 0 shader ≡ record { counter = 0; builds = builds; result = Ok made }
  unfolding answer module_of_text read_and_build_first read_and_build_second reach_each reach_module reach finish
  answered = rw (source_read, described, shader_read, module_read, module_is_built c, shader_read, shader_is_built c, composed c) refl

  answers : (answer (any_settings c) registry 0 shader).result ≡ Ok made
  answers = ap (λ o. o.result) answered

-- ---- the premise

abbrev Original : MarkedFunction → Type 0
Original f = LacksOverrideMark f.name

abbrev in_text : MarkedFunction
in_text = record { keyword = 99; name = overriding_name; place = 111 }

overrides : overrides_in shader_output.text ≡ in_text ∷ []
unfolding keywords
overrides = refl

no_originals : OverridesOriginals shader_output.text → ⊥
no_originals h = All-head Original in_text [] (subst (All Original) overrides h) (codes "f") (codes "IEXX_naga_oil_mod_XIIX") refl

same_output : (r : Result Output Fault) (x y : Output) → r ≡ Ok x → r ≡ Ok y → y ≡ x
same_output r x y p q = same (sym p ∙ q)
  where
    same : (let u : Result Output Fault = Ok x in u) ≡ Ok y → y ≡ x
    same e = cc

module _ (c : Capabilities) where
  -- the text of each build of the shader is this one
  built_text : (parse : ModuleValue) (built : BuiltModule) (h : IsBuiltShader (any_settings c) registry 0 shader built parse) → h.is.output ≡ shader_output
  built_text parse built h =
      let e : (shader.source, 0) ≡ h.read = (let x = sym source_read ∙ h.source in cc) in
      let d : shader_definition ≡ h.definition = (let x = sym described ∙ ap (λ r. read_shader shader r.0) e ∙ h.described in cc) in
      let read = ap (λ defs. preprocessed_of (defined defs) h.definition) defs_made ∙ ap (preprocessed_of (defined [])) (sym d) ∙ shader_read in
      same_output (preprocessed_of (defined (make_defs registry 0 shader)) h.definition) shader_output h.is.output read h.is.preprocessed

  -- so the premise of all chains doesn't hold, though the make answers
  premise_is_broken : TextsOverrideOriginals (any_settings c) registry 0 shader → ⊥
  premise_is_broken h =
      let down = calls_go_down (any_settings c) registry 0 shader made (answers c) in
      no_originals (subst (λ (o : Output). OverridesOriginals o.text) (built_text down.parse down.shader down.is) (h down.shader down.parse (inr down.is)))

-- ---- its one value

abbrev as_it_is : FrontEnd → FrontEnd
as_it_is f = f

-- a composer over the front end with `B` registered
abbrev begun : Capabilities → State FrontEnd
begun c = record {
  settings = record { front = front; capabilities = c; validate = false; override_any = true };
  registry = registry;
  counter = 0;
  kept = [];
  builds = 0;
}

-- the number of functions of a made module
abbrev functions_in : Result ModuleValue Refused → ℕ
functions_in (Ok m) = length m.functions
functions_in (Err r) = 0

-- the first command makes the module above, and not one without items
another_value_is_refused : (c : Capabilities) (cs : List Command) (rs : List Reply) (m : Module) → module_value m ≡ no_items → IsOneValue as_it_is (begun c) cs rs 0 shader (Ok m) → ⊥
another_value_is_refused c cs rs m is h =
    let ran : h.before ≡ begun c = h.ran in
    let v = subst (λ (s : State FrontEnd). (answer (settings_of as_it_is s) s.registry s.counter shader).result ≡ Ok (module_value m)) ran h.value in
    let e : ◌≡◌ {A = ℕ} 2 0 = ap functions_in (sym (answers c) ∙ v ∙ ap (λ (x : ModuleValue). Ok x) is) in
    absurd cc
