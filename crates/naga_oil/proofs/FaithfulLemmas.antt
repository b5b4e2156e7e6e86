-- Each module that a make answers is faithful, and its calls are redirected along its chains.
use Rattle.std.proofs.Common.{◌≡◌, inl, inr, ℕ, ◌+◌, ◌*◌, List, length, take, [], ◌∷◌, Option, Some, None, Ok, Err, Result, option_map, is_some, IsSome, slice_get, refl, ap, sym, ◌∙◌, subst, arith}
use Rattle.std.proofs.lemmas.List.{length-map}
use Rattle.std.proofs.lemmas.List.Elements.{All-weaker}
use Rattle.std.proofs.lemmas.Option.{none-some, same_Some, slice_get-map}
use Rattle.naga_oil_ir.specs.ModuleValue.{ModuleValue, FunctionValue, EntryValue}
use Rattle.naga_oil_ir.specs.RedirectFault.{RedirectFault}
use Rattle.naga_oil_ir.specs.Rows.{Row, Text}
use Rattle.naga_oil_ir.specs.declared.names.ItemPlace.{ItemPlace}
use Rattle.naga_oil_ir.specs.declared.names.ItemPlace.TheVariants.{TypeItem}
use Rattle.naga_oil_ir.specs.declared.span.Span.{Span}
use Rattle.naga_oil_derive.specs.CopiedLaw.{HasAt}
use Rattle.naga_oil_derive.specs.Tree.{World, Cut, tree, row_tree}
use Rattle.naga_oil_derive.specs.declared.special.SpecialKey.{SpecialKey}
use Rattle.naga_oil_derive.specs.World.{world, special_at, special_entries, shifted}
use Rattle.naga_oil_conditions.specs.Fault.{Fault}
use Rattle.naga_oil_pre.specs.Preprocessed.{Output}
use Rattle.naga_oil_words.specs.ResultSteps.{◌>>=◌}
use Rattle.naga_oil_registry.specs.Added.{read_source}
use Rattle.naga_oil_registry.specs.Registered.{Registered, Defs}
use Rattle.naga_oil_registry.specs.Descriptor.{ShaderSource}
use Rattle.naga_oil_registry.specs.declared.descriptor.ShaderType.{ShaderType}
use Rattle.naga_oil_registry.specs.declared.descriptor.ShaderType.TheVariants as shader
use Rattle.naga_oil_form_laws.specs.EntryForm.{IsModuleFormed}
use Rattle.naga_oil_form_laws.proofs.SpecialLemmas.{at_key}
use Rattle.naga_oil_redirect.specs.PutInOrder.{put_in_order}
use Rattle.naga_oil_link.specs.BuiltModule.{BuiltModule, Builds, Overriding}
use Rattle.naga_oil_link.specs.Linked.{link_header, link_whole}
use Rattle.naga_oil_link.specs.Owned.{own_places}
use Rattle.naga_oil_link.proofs.GoodFormLemmas.{whole_formed}
use Rattle.naga_oil_copy_laws.specs.Scope.{ReadAlike, scope_of}
use Rattle.naga_oil_copy_laws.specs.ByTree.{CopiesByTree}
use Rattle.naga_oil_copy_laws.specs.ByTreeLaw.{HasEarlierOperands, IsAsCopied}
use Rattle.naga_oil_copy_laws.proofs.ComposeLaws.{reflexive, compose, as_copied}
use Rattle.naga_oil_copy_laws.specs.EntryByTree.{EntryAlike}
use Rattle.naga_oil_copy_laws.proofs.EntryLaws.{entry_on, entry_same, entry_then}
use Rattle.naga_oil_copy_laws.proofs.FrameLaws.{alike, item_alike}
use Rattle.naga_oil_link_laws.specs.Headers.{HasNamed}
use Rattle.naga_oil_link_laws.specs.KeptAlike.{scope_alike}
use Rattle.naga_oil_link_laws.specs.ReadIn.{HasKeysOf}
use Rattle.naga_oil_link_laws.specs.LinkedCopies.{IsOneOrLast, header_before, CopiesFunctionOf, CopiesEntryOf, CopiesBuilds}
use Rattle.naga_oil_link_laws.specs.OrderedCopies.{KeepsSpecialTypes}
use Rattle.naga_oil_link_laws.specs.ThroughBuilds.{Holds, CopiesHeld, CopiesHeldFunction, CopiesHeldEntry}
use Rattle.naga_oil_link_laws.proofs.Declared.{declarations}
use Rattle.naga_oil_link_laws.proofs.KeptScopes.{kept_scope}
use Rattle.naga_oil_link_laws.proofs.Orders.{ordered_copies}
use Rattle.naga_oil_link_laws.proofs.Scopes.{alike_same, entries_of, entries_world}
use Rattle.naga_oil_link_laws.proofs.SentForms.{formed_calls}
use Rattle.naga_oil_link_laws.proofs.Throughs.{shifted_twice, through_law}
use Rattle.naga_oil_link_laws.proofs.Wholes.{linked_copies}
use Rattle.naga_oil_build.specs.Built.{preprocessed_of}
use Rattle.naga_oil_build.specs.Held.{Settings}
use Rattle.naga_oil_build.specs.OverridingForm.{OverridesOriginals}
use Rattle.naga_oil_build.proofs.OverridingFormLemmas.{none_overrides}
use Rattle.naga_oil.specs.CallsSent.{call_goes}
use Rattle.naga_oil.specs.Chain.{all_sent_down, staged, stage_in, with_stages, put_in_order_as, chain_all, chain}
use Rattle.naga_oil.specs.ChainsLaw.{GoDownChains, NoneIsBoth, TextsOverrideOriginals, CallsGoDownLaw}
use Rattle.naga_oil.specs.Faithful.{owned_parse, IsBuilt, IsBuiltShader, header_of, made_builds, CopiesParsed, FunctionComes, ItemComes, EntryComes, IsFaithful, FaithfulLaw}
use Rattle.naga_oil.specs.MakeDefs.{make_defs}
use Rattle.naga_oil.specs.Reach.{defined}
use Rattle.naga_oil.specs.Shader.{read_shader}
use Rattle.naga_oil.proofs.BuiltOfLemmas.{BuiltOf, built_of}
use Rattle.naga_oil.proofs.ChainsLaws.{chains_law}
use Rattle.naga_oil.proofs.EachBuiltLemmas.{AllBuilt, answer_made}
use Rattle.naga_oil.proofs.FinishedLemmas.{shader_index}
use Rattle.naga_oil.proofs.MadeOverridingLemmas.{stands_apart, shader_lacks, shader_once, shader_shares}
use Rattle.naga_oil.proofs.SentDownLemmas.{IsSent, AllAsCopied, all_down_sent}
use Rattle.naga_oil.proofs.StageFormLemmas.{stages_formed}
use Rattle.naga_oil_ir.specs.Spans.{span_stride}

-- ---- the end of a chain

-- n is m at the end of a chain, with spans moved
pub record Ends (moves : Span → Span) (m n : ModuleValue) : Type 0 where
  pub moved : (k : ℕ) (s : Span) → moves (shifted k s) ≡ shifted k s
  pub special : KeepsSpecialTypes m n
  pub functions : (k : ℕ) (g : FunctionValue × Span) → slice_get n.functions k ≡ Some g → (j : ℕ) × (x : FunctionValue × Span) × (slice_get m.functions j ≡ Some x) × CopiesByTree moves (λ c. c) (scope_of m) x.0 (scope_of n) g.0 × (g.1 ≡ moves x.1)
  pub items : (q : ItemPlace) (r : Row) → world n q ≡ Some r → (p : ItemPlace) × HasAt m p × ReadAlike (scope_of m) (scope_of n) p q
  pub entry_points : (i : ℕ) (y : EntryValue) → slice_get n.entry_points i ≡ Some y → (x : EntryValue) × (slice_get m.entry_points i ≡ Some x) × CopiesByTree moves (λ c. c) (scope_of m) x.function (scope_of n) y.function × EntryAlike (λ s. s) (scope_of m) (scope_of n) x y
  pub as_many : length n.entry_points ≡ length m.entry_points

map_same : (o : Option ℕ) → o ≡ option_map (λ k. k) o
map_same None = refl
map_same (Some k) = refl

-- nothing is sorted
ends_here : (t m : ModuleValue) (sends : Text → Text → Text) (stages : ℕ → ℕ) → IsSent t m sends stages → Ends (λ s. s) m m
ends_here t m sends stages h = record {
  moved = λ k s. refl;
  special = record { places = λ k. k; keys = λ key. map_same (special_at m.special_types key); alike = λ key k e n. refl };
  functions = λ k g at. (k, g, at, reflexive (scope_of m) g.0 (h.functions k g at).4, refl);
  items = λ q r at. (q, (r, at), λ n. refl);
  entry_points = λ i y at. (y, at, reflexive (scope_of m) y.function (h.entry_points i y at).3, entry_same (scope_of m) (scope_of m) (λ p n. refl) (λ s. s) y y.function);
  as_many = refl;
}

-- functions are sorted
ends_ordered : (t m n : ModuleValue) (sends : Text → Text → Text) (stages : ℕ → ℕ) → IsSent t m sends stages → put_in_order m ≡ Ok n → Ends (shifted 0) m n
ends_ordered t m n sends stages h e =
    let c = ordered_copies m n h.calls e in
    record {
      moved = λ k s. shifted_twice k 0 s ∙ ap (λ j. shifted j s) (let z : k + 0 ≡ k = omega arith in z);
      special = c.1;
      functions = λ k g at. (let x = c.0.functions k g at in (x.place, x.function, x.at, x.copies.copies, x.span));
      items = c.0.items;
      entry_points = λ i y at. (let x = c.0.entry_points i y at in (x.entry, x.at, x.copies.copies, x.whole));
      as_many = c.0.as_many;
    }

-- ---- stages

module _ (t : ModuleValue) (form : IsModuleFormed t) (start : AllAsCopied t) where
  staged_sent : (stage : ℕ) → IsModuleFormed (staged stage t) → IsSent t (staged stage t) (λ caller c. c) (λ s. stage)
  staged_sent stage f =
      let n = staged stage t in
      let at_stage = λ (e : EntryValue). record e { stage = stage } in
      let into = λ (g : FunctionValue) (s : IsAsCopied g). alike (λ s. s) (λ c. c) (scope_of t) (scope_of t) (scope_of t) (scope_of n) g g (alike_same (scope_of t)) (entries_of t n.entry_points) (reflexive (scope_of t) g s) in
      let entry = λ (i : ℕ) (o : Option EntryValue) (y : EntryValue) (p : slice_get t.entry_points i ≡ o) (e : option_map at_stage o ≡ Some y). staged_entry stage i o y p e in
      record {
        calls = formed_calls n f;
        same_world = entries_world t n.entry_points;
        special = refl;
        functions = λ k g at. (let s = start.functions k g at in (g, at, refl, into g.0 s, s, refl));
        as_many = length-map t.entry_points at_stage;
        entry_points = λ i y at. entry i (slice_get t.entry_points i) y refl (sym (slice_get-map at_stage t.entry_points i) ∙ at);
      }
    where
      staged_entry : (stage i : ℕ) (o : Option EntryValue) (y : EntryValue) → slice_get t.entry_points i ≡ o → option_map (λ (e : EntryValue). record e { stage = stage }) o ≡ Some y → (x : EntryValue) × (slice_get t.entry_points i ≡ Some x) × CopiesByTree (λ s. s) (λ c. c) (scope_of t) x.function (scope_of (staged stage t)) y.function × IsAsCopied y.function × EntryAlike (λ s. stage) (scope_of t) (scope_of (staged stage t)) x y
      staged_entry stage i None y p e = absurd (none-some y e)
      staged_entry stage i (Some x) y p e =
          let n = staged stage t in
          let s = start.entry_points i x p in
          let own : CopiesByTree (λ s. s) (λ c. c) (scope_of t) x.function (scope_of n) x.function = alike (λ s. s) (λ c. c) (scope_of t) (scope_of t) (scope_of t) (scope_of n) x.function x.function (alike_same (scope_of t)) (entries_of t n.entry_points) (reflexive (scope_of t) x.function s) in
          let same : x.function ≡ y.function = ap (λ (z : EntryValue). z.function) (same_Some (record x { stage = stage }) y e) in
          let pair = subst (λ (f : FunctionValue). CopiesByTree (λ s. s) (λ c. c) (scope_of t) x.function (scope_of n) f × IsAsCopied f) same (own, s) in
          let whole = entry_same (scope_of t) (scope_of n) ((entries_of t n.entry_points).reads) (λ s. stage) x x.function in
          (x, p, pair.0, pair.1, subst (EntryAlike (λ s. stage) (scope_of t) (scope_of n) x) (same_Some (record x { stage = stage }) y e) whole)

  plain_sent : IsSent t t (λ caller c. c) (λ s. s)
  plain_sent = record {
    calls = formed_calls t form;
    same_world = refl;
    special = refl;
    functions = λ k g at. (let s = start.functions k g at in (g, at, refl, reflexive (scope_of t) g.0 s, s, refl));
    as_many = refl;
    entry_points = λ i y at. (let s = start.entry_points i y at in (y, at, reflexive (scope_of t) y.function s, s, entry_same (scope_of t) (scope_of t) (λ p n. refl) (λ s. s) y y.function));
  }

  stages_sent : (k : ShaderType) → IsSent t (with_stages k t) (λ caller c. c) (stage_in k)
  stages_sent shader.Wgsl = plain_sent
  stages_sent shader.GlslVertex = staged_sent 0 (stages_formed shader.GlslVertex t form)
  stages_sent shader.GlslFragment = staged_sent 1 (stages_formed shader.GlslFragment t form)

  -- the whole chain
  pub record Chained (k : ShaderType) (all : Overriding) (made : ModuleValue) : Type 0 where
    pub sent : ModuleValue
    pub is : IsSent t sent (call_goes all) (stage_in k)
    pub moves : Span → Span
    pub ends : Ends moves sent made

  order_back : (r : Result ModuleValue RedirectFault) (n : ModuleValue) → put_in_order_as r ≡ Ok n → r ≡ Ok n
  order_back (Ok m) n e = cc
  order_back (Err f) n e = absurd cc

  all_chained : (all : Overriding) (k : ShaderType) (made : ModuleValue) → chain_all all (with_stages k t) ≡ Ok made → Chained k all made
  unfolding chain_all
  all_chained all k made e = one (all_sent_down (with_stages k t) all) refl e
    where
      one : (r : Result ModuleValue Fault) → all_sent_down (with_stages k t) all ≡ r → (r >>= λ sent. put_in_order_as (put_in_order sent)) ≡ Ok made → Chained k all made
      one (Ok m) p q =
          let h = all_down_sent t start all (with_stages k t) m (λ caller c. c) (stages_sent k) p in
          record { sent = m; is = h; moves = shifted 0; ends = ends_ordered t m made (call_goes all) (stage_in k) h (order_back (put_in_order m) made q) }
      one (Err f) p q = absurd cc

  pub chained : (all : Overriding) (k : ShaderType) (made : ModuleValue) → chain all (with_stages k t) ≡ Ok made → Chained k all made
  chained [] k made e =
      let same : with_stages k t ≡ made = cc in
      let h : IsSent t made (call_goes []) (stage_in k) = subst (λ m. IsSent t m (λ caller c. c) (stage_in k)) same (stages_sent k) in
      record { sent = made; is = h; moves = λ s. s; ends = ends_here t made (call_goes []) (stage_in k) h }
  chained (o ∷ more) k made e = all_chained (o ∷ more) k made e

-- ---- from the parse on

mapped_some : (f : ℕ → ℕ) (o : Option ℕ) → IsSome o → IsSome (option_map f o)
mapped_some f None h = h
mapped_some f (Some k) h = refl

-- what reads as an item is one
read_there : (w v : World) (p q : ItemPlace) (r : Row) → w p ≡ Some r → tree 1 v q ≡ tree 1 w p → (x : Row) × (v q ≡ Some x)
unfolding tree
read_there w v p q r at e = one (v q) refl (e ∙ ap (λ o. row_tree (λ x. Cut) o) at)
  where
    one : (o : Option Row) → v q ≡ o → row_tree (λ x. Cut) (v q) ≡ row_tree (λ x. Cut) (Some r) → (x : Row) × (v q ≡ Some x)
    one (Some x) i f = (x, i)
    one None i f = let g : row_tree (λ x. Cut) None ≡ row_tree (λ x. Cut) (Some r) = ap (row_tree (λ x. Cut)) (sym i) ∙ f in absurd cc

-- special types stay when calls are redirected
special_kept : (t m n : ModuleValue) → world m ≡ world t → m.special_types ≡ t.special_types → KeepsSpecialTypes m n → KeepsSpecialTypes t n
special_kept t m n same special h = record {
  places = h.places;
  keys = λ key. h.keys key ∙ ap (λ v. option_map h.places (special_at v key)) special;
  alike = λ key k e j. h.alike key k (ap (λ v. special_at v key) special ∙ e) j ∙ ap (λ (w : World). tree j w (TypeItem k)) same;
}

module _ (s : Settings) (ds : List Registered) (counter : ℕ) (source : ShaderSource) (a : AllBuilt s ds (make_defs ds counter source) (made_builds s ds counter source)) where
  abbrev defs : Defs
  defs = make_defs ds counter source

  abbrev bs : Builds
  bs = made_builds s ds counter source

  module _ (read : List ℕ × ℕ) (is_read : read_source counter source.source ≡ Ok read) (d : Registered) (described : read_shader source read.0 ≡ Ok d) (b : BuiltModule) (own : BuiltOf s defs d bs b) (zero_index : b.index ≡ 0) where
    abbrev t : ModuleValue
    t = link_whole bs b

    -- the shader's build
    shader_is : IsBuiltShader s ds counter source b own.parse
    shader_is = record { read = read; source = is_read; definition = d; described = described; is = own.is }

    -- a build with its parse, and the header of that
    record Parsed (c : BuiltModule) (header : ModuleValue) : Type 0 where
      parse : ModuleValue
      is : IsBuilt s ds counter source c parse
      holding : Holds c (owned_parse c parse) (own_places parse)
      heading : header_of s ds counter source (record { b = c; parse = parse; is = is }) ≡ header

    entry_parsed : (i : ℕ) (e : List ℕ × BuiltModule) → slice_get bs i ≡ Some e → Parsed e.1 (link_header (take i bs) e.1.imports)
    entry_parsed i e at =
        let h = a i e at in
        let x = (built_of s defs h.definition h.output (take i bs) e.1 h.preprocessed h.built).0 in
        record {
          parse = x.parse;
          is = inl (record { place = i; registered = h.registered; definition = h.definition; known = h.known; at = at ∙ ap (λ (n : List ℕ). Some (n, e.1)) (sym h.name); is = x.is });
          holding = x.holding;
          heading = refl;
        }

    -- a text is preprocessed in one way
    one_output : (r : Result Output Fault) (x y : Output) → r ≡ Ok x → r ≡ Ok y → OverridesOriginals x.text → OverridesOriginals y.text
    one_output r x y p q h = let same : (let u : Result Output Fault = Ok x in u) ≡ Ok y = sym p ∙ q in subst (λ (o : Output). OverridesOriginals o.text) (same_output x y same) h
      where
        same_output : (x y : Output) → (let u : Result Output Fault = Ok x in u) ≡ Ok y → x ≡ y
        same_output x y e = cc

    -- what holds of the texts of a make holds of those of its builds
    pub reached_texts : TextsOverrideOriginals s ds counter source → (i : ℕ) (e : List ℕ × BuiltModule) (at : slice_get bs i ≡ Some e) → OverridesOriginals (a i e at).output.text
    unfolding entry_parsed
    reached_texts texts i e at =
        let h = a i e at in
        let x = (built_of s defs h.definition h.output (take i bs) e.1 h.preprocessed h.built).0 in
        let p = entry_parsed i e at in
        one_output (preprocessed_of (defined defs) h.definition) x.is.output h.output x.is.preprocessed h.preprocessed (texts e.1 p.parse p.is)

    pub shader_text : TextsOverrideOriginals s ds counter source → (out : Output) → preprocessed_of (defined defs) d ≡ Ok out → OverridesOriginals out.text
    unfolding shader_is
    shader_text texts out e = one_output (preprocessed_of (defined defs) d) own.is.output out own.is.preprocessed e (texts b own.parse (inr shader_is))

    parsed : (c : BuiltModule) (among : IsOneOrLast bs b c) → Parsed c (header_before bs b c among)
    parsed c (inl x) = subst (λ (d : BuiltModule). Parsed d (link_header (take x.0 bs) d.imports)) x.3 (entry_parsed x.0 x.1 x.2)
    parsed c (inr e) = subst (λ (d : BuiltModule). Parsed d (link_header bs d.imports)) (sym e) (record { parse = own.parse; is = inr shader_is; holding = own.holding; heading = refl })

    formed_of : (c : BuiltModule) (p : ModuleValue) → Holds c (owned_parse c p) (own_places p) → IsModuleFormed c.value
    formed_of c p h = subst IsModuleFormed (sym h.value) (whole_formed (owned_parse c p) (own_places p) c.decoration h.functions h.form)

    linked : CopiesBuilds (IsOneOrLast bs b) (header_before bs b) b t × IsModuleFormed t
    linked = linked_copies bs b zero_index
        (λ i e at. let h = entry_parsed i e at in formed_of e.1 h.parse h.holding)
        (λ i e at. let h = entry_parsed i e at in declarations e.1 (owned_parse e.1 h.parse) (own_places h.parse) h.holding)
        (λ i e at. (a i e at).new)
        (formed_of b own.parse own.holding)

    function_held : (c : BuiltModule) (header : ModuleValue) (h : Parsed c header) (g : FunctionValue × Span) → CopiesFunctionOf c t g → CopiesHeldFunction c (owned_parse c h.parse) (own_places h.parse) t g
    function_held c header h g f = (through_law c (owned_parse c h.parse) (own_places h.parse) t h.holding).function g f

    entry_held : (i : ℕ) (y : EntryValue) → CopiesEntryOf b t i y → CopiesHeldEntry b (owned_parse b own.parse) (own_places own.parse) t i y
    entry_held i y f = (through_law b (owned_parse b own.parse) (own_places own.parse) t own.holding).entry_point i y f

    held_as_copied : (c : BuiltModule) (p : ModuleValue) (o : _) (f g : FunctionValue) → CopiesHeld c p o t f g → IsAsCopied g
    held_as_copied c p o f g h = as_copied (shifted (c.index * span_stride)) (λ n. n) (scope_alike h.reads p t) (scope_of t) f g h.source_earlier h.earlier h.copies

    start : AllAsCopied t
    start = record {
      functions = λ k x at.
          let f = linked.0.functions k x at in
          let h = function_held f.build (header_before bs b f.build f.among) (parsed f.build f.among) x f.copies in
          held_as_copied f.build _ _ h.function.0 x.0 h.copies;
      entry_points = λ i x at.
          let h = entry_held i x (linked.0.entry_points i x at) in
          held_as_copied b _ _ h.entry.function x.function h.copies;
    }

    module _ (k : ShaderType) (typed : source.shader_type ≡ k) (made : ModuleValue) (c : Chained t linked.1 start k b.overriding made) where
      abbrev m : ModuleValue
      m = c.sent

      kept : KeepsSpecialTypes t made
      kept = special_kept t m made c.is.same_world c.is.special c.ends.special

      -- keys stay too
      keys_kept : (v : ModuleValue) → HasKeysOf v t → HasKeysOf v made
      keys_kept v keys = All-weaker (λ (e : SpecialKey × ℕ). IsSome (special_at t.special_types e.0)) (λ (e : SpecialKey × ℕ). IsSome (special_at made.special_types e.0)) (λ e there. ap is_some (kept.keys e.0) ∙ mapped_some kept.places (special_at t.special_types e.0) there) (special_entries v.special_types) keys

      -- a copy of a copy of a copy
      copies_through : (d : BuiltModule) (p : ModuleValue) (f z x g : FunctionValue) (sends : Text → Text) → (h : CopiesHeld d (owned_parse d p) (own_places p) t f z) → CopiesByTree (λ s. s) sends (scope_of t) z (scope_of m) x → HasEarlierOperands x → CopiesByTree c.moves (λ n. n) (scope_of m) x (scope_of made) g → CopiesParsed d p sends made f g
      copies_through d p f z x g sends h second earlier third =
          let k = d.index * span_stride in
          let w = h.reads in
          let v = owned_parse d p in
          let a = compose (shifted k) (λ s. s) (λ n. n) sends (scope_alike w v t) (scope_of t) (scope_of m) f z x h.source_earlier h.earlier h.copies second in
          let e = compose (shifted k) c.moves sends (λ n. n) (scope_alike w v t) (scope_of m) (scope_of made) f x g h.source_earlier earlier a third in
          let moves : (λ s. c.moves (shifted k s)) ≡ shifted k = λ i s. c.ends.moved k s i in
          let moved : CopiesByTree (shifted k) sends (scope_alike w v t) f (scope_of made) g = subst (λ r. CopiesByTree r sends (scope_alike w v t) f (scope_of made) g) moves e in
          record {
            reads = w;
            decorated = h.decorated;
            copies = alike (shifted k) sends (scope_alike w v t) (scope_of made) (scope_alike w v made) (scope_of made) f g (kept_scope w v t made kept) (alike_same (scope_of made)) moved;
          }

      function_comes : (k : ℕ) (g : FunctionValue × Span) → slice_get made.functions k ≡ Some g → FunctionComes s ds counter source b made g
      function_comes k g at =
          let x = c.ends.functions k g at in
          let z = c.is.functions x.0 x.1 x.2 in
          let f = linked.0.functions x.0 z.0 z.1 in
          let d = f.build in
          let header = header_before bs b d f.among in
          let p = parsed d f.among in
          let h = function_held d header p z.0 f.copies in
          let name : z.0.0.name ≡ h.function.0.name = h.copies.copies.name in
          let second = subst (λ n. CopiesByTree (λ s. s) (call_goes b.overriding n) (scope_of t) z.0.0 (scope_of m) x.1.0) name z.3 in
          record {
            of = record { b = d; parse = p.parse; is = p.is };
            special = keys_kept (owned_parse d p.parse) h.keys;
            place = h.place;
            function = h.function;
            at = h.at;
            undeclared = λ named. f.undeclared (subst (HasNamed header) (sym name) (subst (λ (v : ModuleValue). HasNamed v h.function.0.name) p.heading named));
            copies = copies_through d p.parse h.function.0 z.0.0 x.1.0 g.0 (call_goes b.overriding h.function.0.name) h.copies second z.4.earlier x.3;
            span = x.4 ∙ ap c.moves (z.5 ∙ h.span) ∙ c.ends.moved (d.index * span_stride) h.function.1;
          }

      entry_comes : (i : ℕ) (y : EntryValue) → slice_get made.entry_points i ≡ Some y → EntryComes b own.parse (stage_in source.shader_type) made i y
      unfolding copies_through
      entry_comes i y at =
          let x = c.ends.entry_points i y at in
          let z = c.is.entry_points i x.0 x.1 in
          let h = entry_held i z.0 (linked.0.entry_points i z.0 z.1) in
          let v = owned_parse b own.parse in
          let a = scope_alike h.copies.reads v t in
          let first = entry_then a (scope_of t) (scope_of m) (λ n. n) (stage_in k) h.entry z.0 x.0 h.whole z.4 in
          let second = entry_then a (scope_of m) (scope_of made) (stage_in k) (λ n. n) h.entry x.0 y first x.3 in
          let scopes = kept_scope h.copies.reads v t made kept in
          let lifted = entry_on a (scope_of made) (scope_alike h.copies.reads v made) (scope_of made) (λ p q r. item_alike a (scope_of made) (scope_alike h.copies.reads v made) (scope_of made) p q scopes (alike_same (scope_of made)) r) (stage_in k) h.entry y second in
          record {
            entry = h.entry;
            at = h.at;
            copies = copies_through b own.parse h.entry.function z.0.function x.0.function y.function (call_goes b.overriding None) h.copies z.2 z.3.earlier x.2;
            whole = subst (λ j. EntryAlike (stage_in j) (scope_alike h.copies.reads v made) (scope_of made) h.entry y) (sym typed) lifted;
          }

      item_comes : (q : ItemPlace) (r : Row) → world made q ≡ Some r → ItemComes s ds counter source made q
      item_comes q r at =
          let x = c.ends.items q r at in
          let stands : world t x.0 ≡ Some x.1.0 = ap (λ (w : World). w x.0) (sym c.is.same_world) ∙ x.1.1 in
          let f = linked.0.items x.0 x.1.0 stands in
          let p = parsed f.0 f.1 in
          let v = owned_parse f.0 p.parse in
          let h = (through_law f.0 v (own_places p.parse) t p.holding).item x.0 f.2 in
          let scopes = kept_scope h.reads v t made kept in
          record {
            of = record { b = f.0; parse = p.parse; is = p.is };
            reads = h.reads;
            decorated = h.decorated;
            place = h.place;
            stands = h.stands;
            alike = λ n. x.2 n ∙ ap (λ (w : World). tree n w x.0) c.is.same_world ∙ h.alike n ∙ sym (scopes.reads h.place n);
          }

      -- what a special key names is there
      special_there : (key : SpecialKey) (q : ℕ) → special_at made.special_types key ≡ Some q → HasAt made (TypeItem q)
      special_there key q e = one (special_at t.special_types key) refl (sym (kept.keys key) ∙ e)
        where
          one : (o : Option ℕ) → special_at t.special_types key ≡ o → option_map kept.places o ≡ Some q → HasAt made (TypeItem q)
          one None p g = absurd (none-some q g)
          one (Some j) p g =
              let there = at_key (λ (x : SpecialKey × ℕ). HasAt t (TypeItem x.1)) t.special_types key j (formed_calls t linked.1).special.there p in
              subst (λ i. HasAt made (TypeItem i)) (same_Some (kept.places j) q g) (read_there (world t) (world made) (TypeItem j) (TypeItem (kept.places j)) there.0 there.1 (kept.alike key j p 1))

      all_comes : IsFaithful s ds counter source made
      all_comes =
          let through = through_law b (owned_parse b own.parse) (own_places own.parse) t own.holding in
          record {
            shader = b;
            parse = own.parse;
            is = shader_is;
            special = keys_kept (owned_parse b own.parse) (through.keys linked.0.keys);
            special_there = special_there;
            functions = function_comes;
            items = item_comes;
            entry_points = entry_comes;
            as_many = c.ends.as_many ∙ c.is.as_many ∙ linked.0.as_many ∙ through.as_many;
          }

    pub faithful_over : (k : ShaderType) → source.shader_type ≡ k → (made : ModuleValue) → chain b.overriding (with_stages k t) ≡ Ok made → IsFaithful s ds counter source made
    faithful_over k typed made e = all_comes k typed made (chained t linked.1 start b.overriding k made e)

    pub chains_over : (k : ShaderType) (made : ModuleValue) → chain b.overriding (with_stages k t) ≡ Ok made → GoDownChains b.overriding (with_stages k t) made
    chains_over k made e = chains_law b.overriding (with_stages k t) made (stages_formed k t linked.1) e

pub faithful : FaithfulLaw
faithful s ds counter m made e =
    let a = answer_made s ds counter m made e in
    let f = a.shader in
    let own = built_of s (make_defs ds counter m) a.definition a.output (made_builds s ds counter m) f.shader a.preprocessed f.built in
    faithful_over s ds counter m a.all a.read a.source a.definition a.described f.shader own.0 (own.1 ∙ shader_index m a.read.0 a.definition a.described) m.shader_type refl made f.chained

pub calls_go_down : CallsGoDownLaw
calls_go_down s ds counter m made e =
    let a = answer_made s ds counter m made e in
    let f = a.shader in
    let own = built_of s (make_defs ds counter m) a.definition a.output (made_builds s ds counter m) f.shader a.preprocessed f.built in
    let first = own.1 ∙ shader_index m a.read.0 a.definition a.described in
    let shares = shader_shares s ds (make_defs ds counter m) (made_builds s ds counter m) a.definition a.output f.shader a.all f.built in
    let down = λ (i : ℕ) (e : List ℕ × List (List ℕ)) (at : slice_get f.shader.overriding i ≡ Some e) (both : NoneIsBoth f.shader.overriding e). chains_over s ds counter m a.all a.read a.source a.definition a.described f.shader own.0 first m.shader_type made f.chained i e at (stands_apart f.shader.overriding i e shares at both) in
    let none_is_both = λ (texts : TextsOverrideOriginals s ds counter m) (i : ℕ) (e : List ℕ × List (List ℕ)) (at : slice_get f.shader.overriding i ≡ Some e). (
    let defs = make_defs ds counter m in
    let bs = made_builds s ds counter m in
    let reached = reached_texts s ds counter m a.all a.read a.source a.definition a.described f.shader own.0 first texts in
    let own_text = shader_text s ds counter m a.all a.read a.source a.definition a.described f.shader own.0 first texts a.output a.preprocessed in
    let lacks = shader_lacks s ds defs bs a.definition a.output f.shader a.all reached own_text f.built in
    let once = shader_once s ds defs bs a.definition a.output f.shader a.all f.built in
    let both : NoneIsBoth f.shader.overriding e = λ j b there. none_overrides f.shader.overriding once lacks i j e b at there in
    both) in
    record {
      shader = f.shader;
      parse = own.0.parse;
      is = shader_is s ds counter m a.all a.read a.source a.definition a.described f.shader own.0 first;
      shares = shares;
      chains = λ texts i e at. down i e at (none_is_both texts i e at);
      one_chain = down;
    }
