-- How the builds of a make are built of texts.
use Rattle.std.proofs.Common.{◌≡◌, ℕ, ◌<◌, ◌≤◌, nat_lt, ◌&&◌, if◌then◌else◌, Bool, true, false, List, ◌++◌, length, Result, Ok, Err, refl, ap, sym, ◌∙◌, subst, arith}
use Rattle.std.proofs.lemmas.Bool.{and_parts, ltb-true}
use Rattle.naga_oil_ir.specs.Backend.{FrontEnd, FaultValue}
use Rattle.naga_oil_ir.specs.ModuleValue.{ModuleValue}
use Rattle.naga_oil_ir.specs.declared.language.ShaderLanguage.{ShaderLanguage}
use Rattle.naga_oil_derive.specs.CopiedEntry.{make_module}
use Rattle.naga_oil_conditions.specs.Fault.{Fault, text_too_large, wrong_form}
use Rattle.naga_oil_pre.specs.Preprocessed.{Output}
use Rattle.naga_oil_words.specs.ResultSteps.{◌>>=◌}
use Rattle.naga_oil_registry.specs.Registered.{Registered, Defs}
use Rattle.naga_oil_form_laws.specs.EntryForm.{IsModuleFormed}
use Rattle.naga_oil_link.specs.BuiltModule.{BuiltModule, Builds}
use Rattle.naga_oil_link.specs.CopiedBuild.{copy_build, copy_header, copy_whole}
use Rattle.naga_oil_form.specs.Form.{is_formed}
use Rattle.naga_oil_form_laws.specs.ShapeTest.{has_shape}
use Rattle.naga_oil_form_laws.proofs.ShapeTests.{shape_test}
use Rattle.naga_oil_link.specs.OwnPlaces.{OwnPlaces}
use Rattle.naga_oil_link.specs.Owned.{own_places, owned_module, owned_build, owning, owning_demoted, demotable, decorated_items}
use Rattle.naga_oil_link_laws.proofs.ParsedShapes.{parsed_shape}
use Rattle.naga_oil_link_laws.specs.ThroughBuilds.{Holds}
use Rattle.naga_oil_build.specs.Build.{WholeText, begin_build, write_heading, write_whole, from_offset, build}
use Rattle.naga_oil_build.specs.Virtuals.{Functions, functions_in}
use Rattle.naga_oil_build.specs.Built.{told, parse_fault, parsed_text, preprocessed_of}
use Rattle.naga_oil_build.specs.Held.{Settings, parse_whole, copy_tested, hold}
use Rattle.naga_oil.specs.Faithful.{IsBuiltOf, owned_parse}
use Rattle.naga_oil.specs.Reach.{defined}
use Rattle.naga_oil_ir.specs.Spans.{span_stride}

-- ---- parsing a whole text

told_back : {Y : Type 0} (tell : FaultValue → Fault) (r : Result Y FaultValue) (y : Y) → told tell r ≡ Ok y → r ≡ Ok y
told_back tell (Ok x) y e = cc
told_back tell (Err f) y e = absurd cc

small_back : (b : Bool) → (let r : Result (Unit {0}) Fault = if b then Ok tt else Err text_too_large in r) ≡ Ok tt → b ≡ true
small_back true e = refl
small_back false e = absurd cc

formed_back : (b : Bool) (m p : ModuleValue) → (let r : Result ModuleValue Fault = if b then Ok m else Err wrong_form in r) ≡ Ok p → (b ≡ true) × (m ≡ p)
formed_back true m p e = (refl, cc)
formed_back false m p e = absurd cc

-- a text that was parsed is short, and its parse passes the tests
pub record IsParse (front : FrontEnd) (in_language : ShaderLanguage) (text decoration : List ℕ) (m : ModuleValue) : Type 0 where
  pub short : length text < span_stride
  pub parse : front.parse in_language text ≡ Ok m
  pub formed : is_formed m decoration (length text) ≡ true
  pub shape : has_shape m ≡ true

pub parse_back : (front : FrontEnd) (l : ShaderLanguage) (text decoration : List ℕ) (m : ModuleValue) → parse_whole front l text decoration ≡ Ok m → IsParse front l text decoration m
unfolding parse_whole
parse_back front l text decoration m e = one (nat_lt (length text) span_stride) refl (parsed_text front l text) refl e
  where
    one : (b : Bool) → nat_lt (length text) span_stride ≡ b → (r : Result ModuleValue Fault) → parsed_text front l text ≡ r → ((let u : Result (Unit {0}) Fault = if b then Ok tt else Err text_too_large in u) >>= λ fits. (r >>= λ p. (let v : Result ModuleValue Fault = if is_formed p decoration (length text) && has_shape p then Ok p else Err wrong_form in v))) ≡ Ok m → IsParse front l text decoration m
    one true s (Ok p) t e =
        let f = formed_back (is_formed p decoration (length text) && has_shape p) p m e in
        let both = and_parts (is_formed p decoration (length text)) (has_shape p) f.0 in
        record { short = ltb-true (length text) span_stride s; parse = told_back (parse_fault l) (front.parse l text) m (t ∙ ap (λ (q : ModuleValue). Ok q) f.1); formed = ap (λ q. is_formed q decoration (length text)) (sym f.1) ∙ both.0; shape = ap has_shape (sym f.1) ∙ both.1 }
    one true s (Err f) t e = absurd cc
    one false s r t e = absurd cc

-- with its own items decorated, the parse is of good form
pub owned_is_formed : (front : FrontEnd) (l : ShaderLanguage) (text decoration : List ℕ) (m : ModuleValue) (index : ℕ) → IsParse front l text decoration m → IsModuleFormed (owned_module index decoration m)
owned_is_formed front l text decoration m index p =
    let short = p.short in
    parsed_shape m index decoration (length text) ((shape_test m).0 p.shape) (omega (arith, short)) p.formed

-- ---- what a build holds of the parse

done_back : (r : Result (Unit {0}) Fault) (c b : BuiltModule) → (r >>= λ done. (let k : Result BuiltModule Fault = Ok c in k)) ≡ Ok b → c ≡ b
done_back (Ok x) c b e = cc
done_back (Err f) c b e = absurd cc

-- a build that holds a parse
pub record HoldsParse (s : Settings) (l : ShaderLanguage) (text : List ℕ) (before b : BuiltModule) : Type 0 where
  pub parse : ModuleValue
  pub parsed : parse_whole s.front l text before.decoration ≡ Ok parse
  pub copies : copy_build (owned_module before.index before.decoration parse) (own_places parse) (owned_build before.index parse before) ≡ b

hold_back : (s : Settings) (l : ShaderLanguage) (text : List ℕ) (before b : BuiltModule) → hold s l text before ≡ Ok b → HoldsParse s l text before b
unfolding hold
hold_back s l text before b e = one (parse_whole s.front l text before.decoration) refl e
  where
    one : (r : Result ModuleValue Fault) → parse_whole s.front l text before.decoration ≡ r → (r >>= λ p. copy_tested s (owned_module before.index before.decoration p) (own_places p) (owned_build before.index p before) (length p.functions)) ≡ Ok b → HoldsParse s l text before b
    one (Ok p) t e = record { parse = p; parsed = t; copies = done_back _ _ b e }
    one (Err f) t e = absurd cc

-- the name and index of a build stay
abbrev Same : BuiltModule → BuiltModule → Type 0
Same b c = (c.decoration ≡ b.decoration) × (c.index ≡ b.index)

owned_same : (index : ℕ) (m : ModuleValue) (b : BuiltModule) → Same b (owned_build index m b)
owned_same index m b = one (nat_lt 0 index)
  where
    one : (k : Bool) → Same b (if k then owning_demoted (demotable b.decoration (decorated_items b.decoration m)) (owning m b) else owning m b)
    one true = (refl, refl)
    one false = (refl, refl)

copy_same : (m : ModuleValue) (own : OwnPlaces) (b : BuiltModule) → Same b (copy_build m own b) × ((copy_build m own b).value ≡ make_module (copy_whole m own b.decoration b.functions).derived) × ((copy_build m own b).header ≡ (copy_header m own b.decoration b.functions).derived.target)
unfolding copy_build
copy_same m own b = ((refl, refl), refl, refl)

-- a build that holds a parse holds it with its own items decorated
pub holds : (s : Settings) (l : ShaderLanguage) (text : List ℕ) (before b : BuiltModule) → (h : HoldsParse s l text before b) → (b.decoration ≡ before.decoration) × Holds b (owned_parse b h.parse) (own_places h.parse) × (b.index ≡ before.index)
holds s l text before b h =
    let p = h.parse in
    let own = own_places p in
    let c = owned_build before.index p before in
    let m = owned_module before.index before.decoration p in
    let same = owned_same before.index p before in
    let copy = copy_same m own c in
    let decoration : b.decoration ≡ before.decoration = ap (λ (x : BuiltModule). x.decoration) (sym h.copies) ∙ copy.0.0 ∙ same.0 in
    let index : b.index ≡ before.index = ap (λ (x : BuiltModule). x.index) (sym h.copies) ∙ copy.0.1 ∙ same.1 in
    let module_same : owned_parse b p ≡ m = ap (λ k. owned_module k b.decoration p) index ∙ ap (λ d. owned_module before.index d p) decoration in
    let value : b.value ≡ make_module (copy_whole m own c.decoration c.functions).derived = ap (λ (x : BuiltModule). x.value) (sym h.copies) ∙ copy.1 in
    let named : make_module (copy_whole m own c.decoration c.functions).derived ≡ make_module (copy_whole (owned_parse b p) own b.decoration c.functions).derived = ap (λ d. make_module (copy_whole m own d c.functions).derived) (same.0 ∙ sym decoration) ∙ ap (λ x. make_module (copy_whole x own b.decoration c.functions).derived) (sym module_same) in
    let header : b.header ≡ (copy_header m own c.decoration c.functions).derived.target = ap (λ (x : BuiltModule). x.header) (sym h.copies) ∙ copy.2 in
    let declared : (copy_header m own c.decoration c.functions).derived.target ≡ (copy_header (owned_parse b p) own b.decoration c.functions).derived.target = ap (λ d. (copy_header m own d c.functions).derived.target) (same.0 ∙ sym decoration) ∙ ap (λ x. (copy_header x own b.decoration c.functions).derived.target) (sym module_same) in (
      decoration,
      record {
        form = subst IsModuleFormed (sym module_same) (owned_is_formed s.front l text before.decoration p before.index (parse_back s.front l text before.decoration p h.parsed));
        functions = c.functions;
        value = value ∙ named;
        header = header ∙ declared;
      },
      index,
    )

-- ---- a build

offset_back : {Y : Type 0} (offset : ℕ) (r : Result Y Fault) (y : Y) → from_offset offset r ≡ Ok y → r ≡ Ok y
offset_back offset (Ok x) y e = cc
offset_back offset (Err f) y e = absurd cc

-- the whole text belongs to the build that begins it
written_index : (s : Settings) (d : Registered) (builds : Builds) (text : List ℕ) (b : BuiltModule) (whole : WholeText) → write_whole s d builds text b ≡ Ok whole → whole.built.index ≡ b.index
unfolding write_whole
written_index s d builds text b whole e = one (functions_in s.override_any builds b.imports b.decoration b.overriding text) (write_heading s d builds b.imports) e
  where
    one : (f : Result Functions Fault) (h : Result (List ℕ) Fault) → (f >>= λ functions. (h >>= λ heading. (let r : Result WholeText Fault = Ok (record { text = heading ++ functions.text; built = record b { virtuals = functions.virtuals; overriding = functions.overriding; offset = length heading } }) in r))) ≡ Ok whole → whole.built.index ≡ b.index
    one (Ok f) (Ok h) q = let same : (record { text = h ++ f.text; built = record b { virtuals = f.virtuals; overriding = f.overriding; offset = length h } }) ≡ whole = cc in ap (λ (w : WholeText). w.built.index) (sym same)
    one (Ok f) (Err x) q = absurd cc
    one (Err x) h q = absurd cc

-- a build, its whole text, and what it holds of that text's parse
pub record Comes (s : Settings) (d : Registered) (out : Output) (before : Builds) (b : BuiltModule) : Type 0 where
  pub whole : WholeText
  pub written : write_whole s d before out.text (begin_build before d out.uses) ≡ Ok whole
  pub holding : HoldsParse s d.language whole.text whole.built b

pub build_back : (s : Settings) (d : Registered) (out : Output) (before : Builds) (b : BuiltModule) → build s d out before ≡ Ok b → Comes s d out before b
unfolding build
build_back s d out before b e = one (write_whole s d before out.text (begin_build before d out.uses)) refl e
  where
    one : (r : Result WholeText Fault) → write_whole s d before out.text (begin_build before d out.uses) ≡ r → (from_offset 0 r >>= λ whole. from_offset whole.built.offset (hold s d.language whole.text whole.built)) ≡ Ok b → Comes s d out before b
    one (Ok whole) t e = record { whole = whole; written = t; holding = hold_back s d.language whole.text whole.built b (offset_back whole.built.offset (hold s d.language whole.text whole.built) b e) }
    one (Err f) t e = absurd cc

-- the build with its parse
pub record BuiltOf (s : Settings) (defs : Defs) (d : Registered) (before : Builds) (b : BuiltModule) : Type 0 where
  pub parse : ModuleValue
  pub is : IsBuiltOf s defs d before b parse
  pub holding : Holds b (owned_parse b parse) (own_places parse)

pub built_of : (s : Settings) (defs : Defs) (d : Registered) (out : Output) (before : Builds) (b : BuiltModule) → preprocessed_of (defined defs) d ≡ Ok out → build s d out before ≡ Ok b → BuiltOf s defs d before b × (b.index ≡ d.index)
built_of s defs d out before b p e =
    let c = build_back s d out before b e in
    let h = holds s d.language c.whole.text c.whole.built b c.holding in (
      record {
        parse = c.holding.parse;
        is = record { output = out; preprocessed = p; built = e; whole = c.whole; written = c.written; parsed = ap (parse_whole s.front d.language c.whole.text) h.0 ∙ c.holding.parsed };
        holding = h.1;
      },
      h.2 ∙ written_index s d before out.text (begin_build before d out.uses) c.whole c.written,
    )
