-- The special types of a made module are those of the parses that it comes from.
use Rattle.std.proofs.Common.{◌≡◌, inl, inr, ℕ, ◌*◌, suc, List, take, Option, Some, None, Ok, option_map, slice_get, refl, ap, sym, ◌∙◌, subst}
use Rattle.std.proofs.lemmas.Option.{none-some, same_Some}
use Rattle.naga_oil_ir.specs.ModuleValue.{ModuleValue, FunctionValue}
use Rattle.naga_oil_ir.specs.Spans.{span_stride}
use Rattle.naga_oil_ir.specs.declared.names.ItemPlace.TheVariants.{TypeItem}
use Rattle.naga_oil_derive.specs.CopiedLaw.{HasAt}
use Rattle.naga_oil_derive.specs.Tree.{World, Cut, tree, row_tree}
use Rattle.naga_oil_derive.specs.World.{world, shifted, special_at}
use Rattle.naga_oil_derive.specs.declared.special.SpecialKey.{SpecialKey}
use Rattle.naga_oil_registry.specs.Added.{read_source}
use Rattle.naga_oil_registry.specs.Registered.{Registered, Defs}
use Rattle.naga_oil_registry.specs.Descriptor.{ShaderSource}
use Rattle.naga_oil_registry.specs.declared.descriptor.ShaderType.{ShaderType}
use Rattle.naga_oil_form_laws.specs.EntryForm.{IsModuleFormed}
use Rattle.naga_oil_redirect.specs.Chain.{HasNamedCalls}
use Rattle.naga_oil_link.specs.BuiltModule.{BuiltModule, Builds}
use Rattle.naga_oil_link.specs.Linked.{link_whole}
use Rattle.naga_oil_link.specs.Owned.{own_places}
use Rattle.naga_oil_link.proofs.GoodFormLemmas.{whole_formed}
use Rattle.naga_oil_copy_laws.specs.Scope.{scope_of, scope_by}
use Rattle.naga_oil_copy_laws.specs.ByTreeLaw.{IsAsCopied}
use Rattle.naga_oil_copy_laws.proofs.ComposeLaws.{as_copied}
use Rattle.naga_oil_link_laws.specs.KeptAlike.{scope_alike}
use Rattle.naga_oil_link_laws.specs.LinkedCopies.{IsOneOrLast, header_before, IsBuildOf, CopiesBuilds}
use Rattle.naga_oil_link_laws.specs.OrderedCopies.{KeepsSpecialTypes}
use Rattle.naga_oil_link_laws.specs.SpecialComes.{IsTypeFrom, SpecialComes}
use Rattle.naga_oil_link_laws.specs.ThroughBuilds.{Holds, CopiesHeld}
use Rattle.naga_oil_link_laws.proofs.Declared.{declarations}
use Rattle.naga_oil_link_laws.proofs.KeptScopes.{kept_scope}
use Rattle.naga_oil_link_laws.proofs.Specials.{CarriesKey, Carries, carried}
use Rattle.naga_oil_link_laws.proofs.Throughs.{held_keys, through_law}
use Rattle.naga_oil_link_laws.proofs.Wholes.{linked_copies}
use Rattle.naga_oil_build.specs.Held.{Settings}
use Rattle.naga_oil.specs.Chain.{with_stages, chain}
use Rattle.naga_oil.specs.Faithful.{owned_parse, IsBuilt, made_builds}
use Rattle.naga_oil.specs.MakeDefs.{make_defs}
use Rattle.naga_oil.specs.Shader.{read_shader}
use Rattle.naga_oil.proofs.BuiltOfLemmas.{BuiltOf, built_of}
use Rattle.naga_oil.proofs.ChainsLaws.{formed_named}
use Rattle.naga_oil.proofs.EachBuiltLemmas.{AllBuilt, answer_made}
use Rattle.naga_oil.proofs.FaithfulLemmas.{Chained, chained}
use Rattle.naga_oil.proofs.FinishedLemmas.{shader_index}
use Rattle.naga_oil.proofs.SentDownLemmas.{AllAsCopied}
use Rattle.naga_oil.proofs.StageFormLemmas.{stages_formed}
use Rattle.naga_oil_faithful_laws.specs.SpecialTypes.{IsParseOf, HasParsedSpecialTypes, SpecialTypesLaw}

-- ---- types of the linked module, in the made one

-- what reads as a type that is there is there
read_there : (u v : ModuleValue) (q r : ℕ) → HasAt u (TypeItem q) → tree 1 (world v) (TypeItem r) ≡ tree 1 (world u) (TypeItem q) → HasAt v (TypeItem r)
unfolding tree
read_there u v q r h e = one (world v (TypeItem r)) refl (e ∙ ap (row_tree (λ x. Cut)) h.1)
  where
    one : (o : Option _) → world v (TypeItem r) ≡ o → row_tree (λ x. Cut) (world v (TypeItem r)) ≡ row_tree (λ x. Cut) (Some h.0) → HasAt v (TypeItem r)
    one (Some x) i f = (x, i)
    one None i f = let g : row_tree (λ x. Cut) None ≡ row_tree (λ x. Cut) (Some h.0) = ap (row_tree (λ x. Cut)) (sym i) ∙ f in absurd cc

-- a special type that is a copy in one module is one in another that keeps the special types
kept_copy : (w : World) (p t n : ModuleValue) (h : KeepsSpecialTypes t n) (key : SpecialKey) (k q : ℕ) → special_at t.special_types key ≡ Some q → IsTypeFrom w (scope_alike w p t) t k q → IsTypeFrom w (scope_alike w p n) n k (h.places q)
kept_copy w p t n h key k q at z = record {
  there = read_there t n q (h.places q) z.there (h.alike key q at 1);
  reads = λ d.
      let below : (λ x. (scope_alike w p n).reads x d) ≡ (λ x. (scope_alike w p t).reads x d) = λ i x. (kept_scope w p t n h).reads x d i in
      h.alike key q at (suc d) ∙ z.reads d ∙ sym (ap (λ f. row_tree f (w (TypeItem k))) below);
}

module _ (s : Settings) (ds : List Registered) (counter : ℕ) (source : ShaderSource) (a : AllBuilt s ds (make_defs ds counter source) (made_builds s ds counter source)) where
  abbrev defs : Defs
  defs = make_defs ds counter source

  abbrev bs : Builds
  bs = made_builds s ds counter source

  module _ (read : List ℕ × ℕ) (is_read : read_source counter source.source ≡ Ok read) (d : Registered) (described : read_shader source read.0 ≡ Ok d) (b : BuiltModule) (own : BuiltOf s defs d bs b) (zero_index : b.index ≡ 0) where
    abbrev t : ModuleValue
    t = link_whole bs b

    abbrev P : BuiltModule → Type 0
    P = IsOneOrLast bs b

    -- a build with its parse
    record Parsed (c : BuiltModule) : Type 0 where
      parse : ModuleValue
      is : IsBuilt s ds counter source c parse
      holding : Holds c (owned_parse c parse) (own_places parse)

    entry_parsed : (i : ℕ) (e : List ℕ × BuiltModule) → slice_get bs i ≡ Some e → Parsed e.1
    entry_parsed i e at =
        let h = a i e at in
        let x = (built_of s defs h.definition h.output (take i bs) e.1 h.preprocessed h.built).0 in
        record {
          parse = x.parse;
          is = inl (record { place = i; registered = h.registered; definition = h.definition; known = h.known; at = at ∙ ap (λ (n : List ℕ). Some (n, e.1)) (sym h.name); is = x.is });
          holding = x.holding;
        }

    parsed : (c : BuiltModule) → P c → Parsed c
    parsed c (inl x) = subst Parsed x.3 (entry_parsed x.0 x.1 x.2)
    parsed c (inr e) = subst Parsed (sym e) (record { parse = own.parse; is = inr (record { read = read; source = is_read; definition = d; described = described; is = own.is }); holding = own.holding })

    formed_of : (c : BuiltModule) (p : ModuleValue) → Holds c (owned_parse c p) (own_places p) → IsModuleFormed c.value
    formed_of c p h = subst IsModuleFormed (sym h.value) (whole_formed (owned_parse c p) (own_places p) c.decoration h.functions h.form)

    linked : CopiesBuilds P (header_before bs b) b t × IsModuleFormed t
    linked = linked_copies bs b zero_index
        (λ i e at. let h = entry_parsed i e at in formed_of e.1 h.parse h.holding)
        (λ i e at. let h = entry_parsed i e at in declarations e.1 (owned_parse e.1 h.parse) (own_places h.parse) h.holding)
        (λ i e at. (a i e at).new)
        (formed_of b own.parse own.holding)

    -- before calls are redirected, functions have names of their own, and called functions are there
    pub linked_named : (k : ShaderType) → HasNamedCalls (with_stages k t)
    linked_named k = formed_named (with_stages k t) (stages_formed k t linked.1)

    held_as_copied : (c : BuiltModule) (p : ModuleValue) (o : _) (f g : FunctionValue) → CopiesHeld c p o t f g → IsAsCopied g
    held_as_copied c p o f g h = as_copied (shifted (c.index * span_stride)) (λ n. n) (scope_alike h.reads p t) (scope_of t) f g h.source_earlier h.earlier h.copies

    start : AllAsCopied t
    start = record {
      functions = λ k x at.
          let f = linked.0.functions k x at in
          let p = parsed f.build f.among in
          let h = (through_law f.build (owned_parse f.build p.parse) (own_places p.parse) t p.holding).function x f.copies in
          held_as_copied f.build _ _ h.function.0 x.0 h.copies;
      entry_points = λ i x at.
          let h = (through_law b (owned_parse b own.parse) (own_places own.parse) t own.holding).entry_point i x (linked.0.entry_points i x at) in
          held_as_copied b _ _ h.entry.function x.function h.copies;
    }

    module _ (k : ShaderType) (made : ModuleValue) (c : Chained t linked.1 start k b.overriding made) where
      kept : KeepsSpecialTypes t made
      kept =
          let h = c.ends.special in
          record {
            places = h.places;
            keys = λ key. h.keys key ∙ ap (λ v. option_map h.places (special_at v key)) c.is.special;
            alike = λ key k e j. h.alike key k (ap (λ v. special_at v key) c.is.special ∙ e) j ∙ ap (λ (w : World). tree j w (TypeItem k)) c.is.same_world;
          }

      -- a build's parse says of the special types of the made module what the build does of those of the linked one
      parse_carries : (key : SpecialKey) (q : ℕ) → special_at t.special_types key ≡ Some q → (w : World) (m : ModuleValue) → IsBuildOf P t w m → Carries (IsParseOf s ds counter source) (scope_by t) (λ w p. scope_alike w p made) t made q (kept.places q) w m
      parse_carries key q there w m build =
          let x = parsed build.build build.among in
          let p = owned_parse build.build x.parse in
          let h = held_keys build.build p (own_places x.parse) t q x.holding in
          let Later = λ (w : World) (m : ModuleValue) (key : SpecialKey) (k : ℕ). CarriesKey (scope_by t w m) (scope_alike h.reads p made) t made q (kept.places q) w h.reads p key k in
          let each = λ (key2 : SpecialKey) (k : ℕ) (at : special_at build.build.value.special_types key2 ≡ Some k). (
          let e = h.each key2 k at in
          let later : Later (world build.build.value) build.build.value key2 k = record {
            place = e.place;
            at = e.at;
            same = e.same;
            copied = λ z. kept_copy h.reads p t made kept key e.place q there (e.copied z);
          } in
          later) in
          let at_value = subst (λ (v : ModuleValue). (key2 : SpecialKey) (k : ℕ) → special_at v.special_types key2 ≡ Some k → Later (world v) v key2 k) build.value each in
          record {
            reads = h.reads;
            value = p;
            of = record { of = record { b = build.build; parse = x.parse; is = x.is }; value = refl; decorated = h.decorated };
            each = subst (λ (w : World). (key2 : SpecialKey) (k : ℕ) → special_at m.special_types key2 ≡ Some k → Later w m key2 k) build.reads at_value;
          }

      all_come : HasParsedSpecialTypes s ds counter source made
      all_come key r at = one (special_at t.special_types key) refl (sym (kept.keys key) ∙ at)
        where
          one : (o : Option ℕ) → special_at t.special_types key ≡ o → option_map kept.places o ≡ Some r → SpecialComes (IsParseOf s ds counter source) (λ w p. scope_alike w p made) made key r
          one None p g = absurd (none-some r g)
          one (Some q) p g =
              let come = carried (IsBuildOf P t) (IsParseOf s ds counter source) (scope_by t) (λ w p. scope_alike w p made) t made q (kept.places q) (parse_carries key q p) (λ key2 e. kept.keys key2 ∙ ap (option_map kept.places) e) key (linked.0.special key q p) in
              subst (SpecialComes (IsParseOf s ds counter source) (λ w p. scope_alike w p made) made key) (same_Some (kept.places q) r g) come

    pub come_over : (k : ShaderType) (made : ModuleValue) → chain b.overriding (with_stages k t) ≡ Ok made → HasParsedSpecialTypes s ds counter source made
    come_over k made e = all_come k made (chained t linked.1 start b.overriding k made e)

-- the special types of a made module come from those of the parses
pub special_types_come : SpecialTypesLaw
special_types_come s ds counter m made e =
    let a = answer_made s ds counter m made e in
    let f = a.shader in
    let own = built_of s (make_defs ds counter m) a.definition a.output (made_builds s ds counter m) f.shader a.preprocessed f.built in
    come_over s ds counter m a.all a.read a.source a.definition a.described f.shader own.0 (own.1 ∙ shader_index m a.read.0 a.definition a.described) m.shader_type made f.chained
