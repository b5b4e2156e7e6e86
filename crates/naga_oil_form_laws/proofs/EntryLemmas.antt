-- The module that is made passes the test of form, with its entry points.
use Rattle.std.proofs.Common.{◌≡◌, ℕ, ◌<◌, ◌≤◌, List, [], ◌∷◌, ◌++◌, length, map, Option, Some, None, IsSome, option_map, slice_get, unwrap_or, codes, refl, ap, sym, ◌∙◌, subst, arith, All, IfSome}
use Rattle.std.proofs.lemmas.Bool.{false≢true}
use Rattle.std.proofs.lemmas.List.{append_assoc, append-nil}
use Rattle.std.proofs.lemmas.List.Elements.{All-nil, All-cons, All-head, All-tail, All-weaker, All-append, All-map}
use Rattle.std.proofs.lemmas.Option.{same_Some, slice_get-map}
use Rattle.naga_oil_form.specs.BodyForm.{IsTokenFine}
use Rattle.naga_oil_ir.specs.ModuleValue.{ModuleValue, FunctionValue, EntryValue}
use Rattle.naga_oil_ir.specs.Rows.{Row, Text}
use Rattle.naga_oil_ir.specs.declared.module.MeshInfo.{MeshInfo}
use Rattle.naga_oil_ir.specs.declared.names.ItemPlace.{ItemPlace}
use Rattle.naga_oil_ir.specs.declared.names.ItemPlace.TheVariants.{TypeItem, ConstantItem, OverrideItem, GlobalItem, ExpressionItem}
use Rattle.naga_oil_ir.specs.declared.tokens.Token.{Token}
use Rattle.naga_oil_ir.specs.declared.tokens.Token.TheVariants.{At, Head, Plain, Flag, Absent, Open, Close, Use, Give, GiveCall, Emitted, Callee}
use Rattle.naga_oil_derive.specs.Tree.{Kept}
use Rattle.naga_oil_derive.specs.World.{goes, world, span_at, special_entries}
use Rattle.naga_oil_derive.specs.Copied.{copy_item}
use Rattle.naga_oil_derive.specs.CopiedFunction.{copy_function}
use Rattle.naga_oil_derive.specs.CopiedEntry.{sizes_names, mesh_names, entry_names, import_items, place_expression, place_mesh, place_entry, entry_last, copy_entry, copy_entries, entries_state, module_of, make_module}
use Rattle.naga_oil_derive.specs.CopiedLaw.{HasAt}
use Rattle.naga_oil_derive.specs.Derived.{Source, Derived}
use Rattle.naga_oil_derive.specs.DerivedFunctions.{Meanings, requests_of, going}
use Rattle.naga_oil_derive.specs.DerivedValue.{place_by, importing_of, after_importing}
use Rattle.naga_oil_derive.specs.Answered.{answer_one, answer_by, import_callee}
use Rattle.naga_oil_derive.proofs.CopiedLaws.{copied_item}
use Rattle.naga_oil_derive.proofs.DerivedLaws.{Collects-extends}
use Rattle.naga_oil_derive.proofs.PutLaws.{goes_renamed}
use Rattle.naga_oil_derive.proofs.WorldLemmas.{Extends-stays}
use Rattle.naga_oil_form_laws.specs.DerivedForm.{IsFormed}
use Rattle.naga_oil_form_laws.specs.EntryForm.{IsExpressionIn, IsMeshFormed, IsEntryFormed, entry_name, AreEntriesFormed, IsModuleFormed}
use Rattle.naga_oil_form_laws.specs.FunctionForm.{IsFunctionFormed, AreFunctionsFormed}
use Rattle.naga_oil_form_laws.specs.ItemsStand.{ItemsStand, IsIn, IsUnsized, IsPlain, AllReached, MayBeSpecial, AreFormed}
use Rattle.naga_oil_derive.proofs.SpecialLemmas.{Entry}
use Rattle.naga_oil_form_laws.proofs.CopyFormLemmas.{c as copies_of}
use Rattle.naga_oil_form_laws.proofs.FormedLemmas.{imported, has_more, import_begins, import_ends}
use Rattle.naga_oil_form_laws.proofs.FunctionFormLemmas.{Answered, mapped_at, copy_formed}
use Rattle.naga_oil_form_laws.proofs.ImportLemmas.{HasMore, more_same, more_both, form_later, AnsweredIn, answered_given, all_import, calls_before}
use Rattle.naga_oil_form_laws.proofs.RequestLemmas.{type_there, global_there, expression_there, type_within, global_within, expression_within, function_there, all_left, all_right, all_at}

abbrev derivation : Source → ModuleValue → Meanings → Derived
derivation s t ns = record { source = Some s; target = t; function_names = ns }

-- ---- more items leave entry points formed

token_more : (c d n : ℕ) → c ≤ d → (t : Token) → IsTokenFine c n t → IsTokenFine d n t
token_more c d n l (Callee g) h = omega (arith, h, l)
token_more c d n l (At s) h = h
token_more c d n l (Head x) h = tt
token_more c d n l (Plain x) h = tt
token_more c d n l (Flag x) h = tt
token_more c d n l Absent h = tt
token_more c d n l (Use x) h = tt
token_more c d n l (Give x) h = tt
token_more c d n l (GiveCall f x) h = tt
token_more c d n l (Emitted x) h = tt
token_more c d n l Open h = tt
token_more c d n l Close h = tt

pub calls_more : (m : ModuleValue) (c d n : ℕ) (v : FunctionValue) → c ≤ d → IsFunctionFormed m c n v → IsFunctionFormed m d n v
calls_more m c d n v l f = record {
  arguments = f.arguments;
  result = f.result;
  locals = f.locals;
  named_expressions = f.named_expressions;
  expressions = f.expressions;
  statements = All-weaker (IsTokenFine c n) (IsTokenFine d n) (token_more c d n l) v.body f.statements;
  callees = f.callees;
  results = f.results;
  body = f.body;
  local_spans = f.local_spans;
  expression_spans = f.expression_spans;
}

expression_later : (m n : ModuleValue) → HasMore m n → (o : Option ℕ) → IsExpressionIn m o → IsExpressionIn n o
expression_later m n h None i = tt
expression_later m n h (Some k) i = let l = h.expressions in omega (arith, i, l)

sizes_later : (m n : ModuleValue) → HasMore m n → (o : Option (List (Option ℕ))) → IfSome o (λ os. All (IsExpressionIn m) os) → IfSome o (λ os. All (IsExpressionIn n) os)
sizes_later m n h None i = tt
sizes_later m n h (Some os) i = All-weaker (IsExpressionIn m) (IsExpressionIn n) (expression_later m n h) os i

mesh_later : (m n : ModuleValue) → HasMore m n → (o : Option MeshInfo) → IfSome o (IsMeshFormed m) → IfSome o (IsMeshFormed n)
mesh_later m n h None i = tt
mesh_later m n h (Some x) i = record {
  vertex = (let l = h.types in let a = i.vertex in omega (arith, a, l));
  primitive = (let l = h.types in let a = i.primitive in omega (arith, a, l));
  output = (let l = h.globals in let a = i.output in omega (arith, a, l));
  max_vertices = expression_later m n h x.max_vertices i.max_vertices;
  max_primitives = expression_later m n h x.max_primitives i.max_primitives;
}

payload_later : (m n : ModuleValue) → HasMore m n → (o : Option ℕ) → IfSome o (λ k. k < length m.global_variables) → IfSome o (λ k. k < length n.global_variables)
payload_later m n h None i = tt
payload_later m n h (Some k) i = let l = h.globals in omega (arith, i, l)

pub entry_later : (m n : ModuleValue) → HasMore m n → (e : EntryValue) → IsEntryFormed m 4294967295 e → IsEntryFormed n 4294967295 e
entry_later m n h e f = record {
  function = calls_more n (length m.functions) (length n.functions) 4294967295 e.function h.functions (form_later m n (length m.functions) 4294967295 e.function h f.function);
  workgroup_size = sizes_later m n h e.workgroup_size_overrides f.workgroup_size;
  mesh_info = mesh_later m n h e.mesh_info f.mesh_info;
  task_payload = payload_later m n h e.task_payload f.task_payload;
}

-- ---- items that may be absent are imported

-- an item that is named maps to one that is there
abbrev WentThere : Source → ModuleValue → Option ItemPlace → Type 0
WentThere s t o = IfSome o (λ p. (q : ItemPlace) × (goes s.places p ≡ Some q) × HasAt t q)

record ItemsCame (first : Kept) (s : Source) (t : ModuleValue) (ns : Meanings) (ps : List (Option ItemPlace)) : Type 0 where
  source : Source
  target : ModuleValue
  is : import_items (derivation s t ns) ps ≡ derivation source target ns
  formed : IsFormed first (derivation source target ns)
  value : source.value ≡ s.value
  went : (p q : ItemPlace) → goes s.places p ≡ Some q → goes source.places p ≡ Some q
  stays : (p : ItemPlace) (r : Row) → world t p ≡ Some r → world target p ≡ Some r
  more : HasMore t target
  entries : target.entry_points ≡ t.entry_points
  named : All (WentThere source target) ps

items_come : (first : Kept) (s : Source) (t : ModuleValue) (ns : Meanings) (ps : List (Option ItemPlace)) → IsFormed first (derivation s t ns) → All (λ o. IfSome o (HasAt s.value)) ps → ItemsCame first s t ns ps
items_come first s t ns [] f a = record { source = s; target = t; is = refl; formed = f; value = refl; went = λ p q e. e; stays = λ p r e. e; more = more_same t; entries = refl; named = All-nil (WentThere s t) }
items_come first s t ns (None ∷ ps) f a =
    let g = items_come first s t ns ps f (All-tail (λ o. IfSome o (HasAt s.value)) None ps a) in
    record { source = g.source; target = g.target; is = g.is; formed = g.formed; value = g.value; went = g.went; stays = g.stays; more = g.more; entries = g.entries; named = All-cons (WentThere g.source g.target) None ps tt g.named }
items_come first s t ns (Some p ∷ ps) f a =
    let c = copy_item s.value s.offset (record { places = s.places; target = t }) p in
    let s1 : Source = record { value = s.value; offset = s.offset; places = c.places } in
    let at : HasAt s.value p = All-head (λ o. IfSome o (HasAt s.value)) (Some p) ps a in
    let d = f.items.derivation in
    let one = copied_item s.value s.offset first (record { places = s.places; target = t }) p d.source.copyable d.source.midway at in
    let ext = Collects-extends one.0.collects in
    let g = items_come first s1 c.target ns ps (imported first (derivation s t ns) p f (refl, at)) (All-tail (λ o. IfSome o (HasAt s.value)) (Some p) ps a) in
    let here = one.0.midway.copied.there p one.1.0 one.1.1 in
    record {
      source = g.source;
      target = g.target;
      is = g.is;
      formed = g.formed;
      value = g.value;
      went = λ x q e. g.went x q (one.0.went x q e);
      stays = λ x r e. g.stays x r (Extends-stays t c.target ext x r e);
      more = more_both t c.target g.target (has_more t c.target ext) g.more;
      entries = g.entries ∙ ap (λ (v : ModuleValue). v.entry_points) ext.rest;
      named = All-cons (WentThere g.source g.target) (Some p) ps (one.1.0, g.went p one.1.0 one.1.1, (here.0, g.stays one.1.0 here.0 here.1)) g.named;
    }

-- ---- what an entry point names is there

module _ (m : ModuleValue) where
  expression_asked : (o : Option ℕ) → IsExpressionIn m o → IfSome (option_map ExpressionItem o) (HasAt m)
  expression_asked None h = tt
  expression_asked (Some k) h = expression_there m k h

  sizes_asked : (o : Option (List (Option ℕ))) → IfSome o (λ os. All (IsExpressionIn m) os) → All (λ x. IfSome x (HasAt m)) (sizes_names o)
  sizes_asked None h = All-nil (λ x. IfSome x (HasAt m))
  sizes_asked (Some os) h = All-map (λ x. IfSome x (HasAt m)) (option_map ExpressionItem) os (All-weaker (IsExpressionIn m) (λ o. IfSome (option_map ExpressionItem o) (HasAt m)) expression_asked os h)

  mesh_asked : (o : Option MeshInfo) → IfSome o (IsMeshFormed m) → All (λ x. IfSome x (HasAt m)) (mesh_names o)
  mesh_asked None h = All-nil (λ x. IfSome x (HasAt m))
  mesh_asked (Some i) h =
      let P : Option ItemPlace → Type 0 = λ x. IfSome x (HasAt m) in
      let last = option_map ExpressionItem i.max_primitives ∷ [] in
      let sizes = option_map ExpressionItem i.max_vertices ∷ last in
      let output = Some (GlobalItem i.output) ∷ sizes in
      let primitive = Some (TypeItem i.primitive_output_type) ∷ output in
      All-cons P (Some (TypeItem i.vertex_output_type)) primitive (type_there m i.vertex_output_type h.vertex) (All-cons P (Some (TypeItem i.primitive_output_type)) output (type_there m i.primitive_output_type h.primitive) (All-cons P (Some (GlobalItem i.output)) sizes (global_there m i.output h.output) (All-cons P (option_map ExpressionItem i.max_vertices) last (expression_asked i.max_vertices h.max_vertices) (All-cons P (option_map ExpressionItem i.max_primitives) [] (expression_asked i.max_primitives h.max_primitives) (All-nil P)))))

  payload_asked : (o : Option ℕ) → IfSome o (λ k. k < length m.global_variables) → IfSome (option_map GlobalItem o) (HasAt m)
  payload_asked None h = tt
  payload_asked (Some k) h = global_there m k h

  names_asked : (v : EntryValue) → IsEntryFormed m 4294967295 v → All (λ x. IfSome x (HasAt m)) (entry_names v)
  names_asked v f =
      let P : Option ItemPlace → Type 0 = λ x. IfSome x (HasAt m) in
      All-append P (sizes_names v.workgroup_size_overrides) (mesh_names v.mesh_info ++ option_map GlobalItem v.task_payload ∷ []) (sizes_asked v.workgroup_size_overrides f.workgroup_size) (All-append P (mesh_names v.mesh_info) (option_map GlobalItem v.task_payload ∷ []) (mesh_asked v.mesh_info f.mesh_info) (All-cons P (option_map GlobalItem v.task_payload) [] (payload_asked v.task_payload f.task_payload) (All-nil P)))

-- ---- what an entry point names maps to what is there

module _ (s : Source) (t : ModuleValue) where
  gone : (p : ItemPlace) → WentThere s t (Some p) → (x : ItemPlace) → goes s.places p ≡ Some x → HasAt t x
  gone p h x g = let same : h.0 ≡ x = same_Some h.0 x (sym h.1 ∙ g) in subst (HasAt t) same h.2

  abbrev expression_to : ℕ → ℕ
  expression_to = place_by (λ p. p.global_expressions) (Some s)

  abbrev global_to : ℕ → ℕ
  global_to = place_by (λ p. p.global_variables) (Some s)

  abbrev type_to : ℕ → ℕ
  type_to = place_by (λ p. p.types) (Some s)

  type_gone : (k : ℕ) → WentThere s t (Some (TypeItem k)) → type_to k < length t.types
  type_gone k h = type_within t (type_to k) (gone (TypeItem k) h (TypeItem (type_to k)) (goes_renamed 0 s.places (TypeItem k) h.0 h.1))

  global_gone : (k : ℕ) → WentThere s t (Some (GlobalItem k)) → global_to k < length t.global_variables
  global_gone k h = global_within t (global_to k) (gone (GlobalItem k) h (GlobalItem (global_to k)) (goes_renamed 0 s.places (GlobalItem k) h.0 h.1))

  expression_gone : (o : Option ℕ) → WentThere s t (option_map ExpressionItem o) → IsExpressionIn t (place_expression (Some s) o)
  expression_gone None h = tt
  expression_gone (Some k) h = expression_within t (expression_to k) (gone (ExpressionItem k) h (ExpressionItem (expression_to k)) (goes_renamed 0 s.places (ExpressionItem k) h.0 h.1))

  map_of : (os : List (Option ℕ)) → All (WentThere s t) (map (option_map ExpressionItem) os) → All (λ o. IsExpressionIn t (place_expression (Some s) o)) os
  map_of [] a = All-nil (λ o. IsExpressionIn t (place_expression (Some s) o))
  map_of (o ∷ os) a = All-cons (λ x. IsExpressionIn t (place_expression (Some s) x)) o os (expression_gone o (All-head (WentThere s t) (option_map ExpressionItem o) (map (option_map ExpressionItem) os) a)) (map_of os (All-tail (WentThere s t) (option_map ExpressionItem o) (map (option_map ExpressionItem) os) a))

  sizes_gone : (o : Option (List (Option ℕ))) → All (WentThere s t) (sizes_names o) → IfSome (option_map (map (place_expression (Some s))) o) (λ os. All (IsExpressionIn t) os)
  sizes_gone None a = tt
  sizes_gone (Some os) a = All-map (IsExpressionIn t) (place_expression (Some s)) os (map_of os a)

  mesh_gone : (o : Option MeshInfo) → All (WentThere s t) (mesh_names o) → IfSome (option_map (place_mesh (Some s)) o) (IsMeshFormed t)
  mesh_gone None a = tt
  mesh_gone (Some i) a =
      let at = λ (k : ℕ) (x : Option ItemPlace) (e : slice_get (mesh_names (Some i)) k ≡ Some x). all_at (WentThere s t) (mesh_names (Some i)) k x a e in
      record {
        vertex = type_gone i.vertex_output_type (at 0 (Some (TypeItem i.vertex_output_type)) refl);
        primitive = type_gone i.primitive_output_type (at 1 (Some (TypeItem i.primitive_output_type)) refl);
        output = global_gone i.output (at 2 (Some (GlobalItem i.output)) refl);
        max_vertices = expression_gone i.max_vertices (at 3 (option_map ExpressionItem i.max_vertices) refl);
        max_primitives = expression_gone i.max_primitives (at 4 (option_map ExpressionItem i.max_primitives) refl);
      }

  payload_gone : (o : Option ℕ) → WentThere s t (option_map GlobalItem o) → IfSome (option_map global_to o) (λ k. k < length t.global_variables)
  payload_gone None h = tt
  payload_gone (Some k) h = global_gone k h

-- ---- an entry point

record EntryCame (first : Kept) (s : Source) (t : ModuleValue) (ns : Meanings) (done : List EntryValue) (v : EntryValue) : Type 0 where
  source : Source
  target : ModuleValue
  names : Meanings
  entry : EntryValue
  is : copy_entry (entries_state (derivation s t ns) done) v ≡ entries_state (derivation source target names) (done ++ entry ∷ [])
  formed : IsFormed first (derivation source target names)
  value : source.value ≡ s.value
  more : HasMore t target
  fine : IsEntryFormed target 4294967295 entry
  name : entry.function.name ≡ v.function.name

entry_comes : (first : Kept) (s : Source) (t : ModuleValue) (ns : Meanings) (done : List EntryValue) (v : EntryValue) → IsFormed first (derivation s t ns) → IsEntryFormed s.value 4294967295 v → EntryCame first s t ns done v
entry_comes first s t ns done v f h =
    let size = length s.value.functions in
    let i = importing_of (derivation s t ns) s in
    let rs = requests_of v.function in
    let asks = function_there s.value (λ k. k < size) size 4294967295 v.function (λ g l. (l, l)) h.function in
    let all = all_import first s size (import_callee size s.value s.offset) (calls_before first s f.source size size (omega arith)) rs i (import_begins first s t ns f) asks in
    let u = answer_by (answer_one (import_callee size s.value s.offset) s.value s.offset) i rs in
    let e = after_importing s u in
    let s1 : Source = record { value = s.value; offset = s.offset; places = u.copying.places } in
    let formed : IsFormed first e = import_ends first s u f.source all.0.importing in
    let w = copy_function (going s1 u.names) v.function in
    let n = length u.functions in
    let own : IsFunctionFormed e.target n 4294967295 w = copy_formed s.value e.target s.offset u.copying.places u.names n size (omega arith) v.function h.function (All-weaker (AnsweredIn s u) (Answered s.value e.target u.copying.places u.names n) (answered_given s u u.functions) rs all.1) in
    let g = items_come first s1 e.target u.names (entry_names v) formed (names_asked s.value v h) in
    let target = g.target in
    let entry = place_entry (Some g.source) w v in
    let sizes = sizes_names v.workgroup_size_overrides in
    let meshes = mesh_names v.mesh_info in
    let payload = option_map GlobalItem v.task_payload ∷ [] in
    let rest = all_right (WentThere g.source target) sizes (meshes ++ payload) g.named in
    let grown = g.more in
    let long = grown.functions in
    record {
      source = g.source;
      target = target;
      names = u.names;
      entry = entry;
      is = ap (λ x. entry_last done x w v) g.is;
      formed = g.formed;
      value = g.value;
      more = more_both t e.target target all.0.later.more g.more;
      fine = record {
        function = calls_more target n (length target.functions) 4294967295 w long (form_later e.target target n 4294967295 w g.more own);
        workgroup_size = sizes_gone g.source target v.workgroup_size_overrides (all_left (WentThere g.source target) sizes (meshes ++ payload) g.named);
        mesh_info = mesh_gone g.source target v.mesh_info (all_left (WentThere g.source target) meshes payload rest);
        task_payload = payload_gone g.source target v.task_payload (All-head (WentThere g.source target) (option_map GlobalItem v.task_payload) [] (all_right (WentThere g.source target) meshes payload rest));
      };
      name = (copies_of (going s1 u.names) v.function h.function.body).name;
    }

-- ---- entry points one after another

abbrev names_in : List EntryValue → List Text
names_in es = map (λ (e : EntryValue). e.function.name) es

record EntriesCame (first : Kept) (s : Source) (t : ModuleValue) (ns : Meanings) (done : List EntryValue) (vs : List EntryValue) : Type 0 where
  source : Source
  target : ModuleValue
  names : Meanings
  entries : List EntryValue
  is : copy_entries (entries_state (derivation s t ns) done) vs ≡ entries_state (derivation source target names) (done ++ entries)
  formed : IsFormed first (derivation source target names)
  more : HasMore t target
  fine : All (IsEntryFormed target 4294967295) entries
  same : names_in entries ≡ names_in vs

entries_come : (first : Kept) (s : Source) (t : ModuleValue) (ns : Meanings) (done vs : List EntryValue) → IsFormed first (derivation s t ns) → All (IsEntryFormed s.value 4294967295) vs → EntriesCame first s t ns done vs
entries_come first s t ns done [] f a = record { source = s; target = t; names = ns; entries = []; is = ap (entries_state (derivation s t ns)) (sym (append-nil done)); formed = f; more = more_same t; fine = All-nil (IsEntryFormed t 4294967295); same = refl }
entries_come first s t ns done (v ∷ vs) f a =
    let one = entry_comes first s t ns done v f (All-head (IsEntryFormed s.value 4294967295) v vs a) in
    let rest = entries_come first one.source one.target one.names (done ++ one.entry ∷ []) vs one.formed (subst (λ (m : ModuleValue). All (IsEntryFormed m 4294967295) vs) (sym one.value) (All-tail (IsEntryFormed s.value 4294967295) v vs a)) in
    record {
      source = rest.source;
      target = rest.target;
      names = rest.names;
      entries = one.entry ∷ rest.entries;
      is = ap (λ x. copy_entries x vs) one.is ∙ rest.is ∙ ap (entries_state (derivation rest.source rest.target rest.names)) (append_assoc done (one.entry ∷ []) rest.entries);
      formed = rest.formed;
      more = more_both t one.target rest.target one.more rest.more;
      fine = All-cons (IsEntryFormed rest.target 4294967295) one.entry rest.entries (entry_later one.target rest.target rest.more one.entry one.fine) rest.fine;
      same = ap (λ x. x ∷ names_in rest.entries) one.name ∙ ap (λ xs. v.function.name ∷ xs) rest.same;
    }

-- ---- the module that is made

abbrev with_entries : ModuleValue → List EntryValue → ModuleValue
with_entries t es = record t { entry_points = es }

more_entries : (t : ModuleValue) (es : List EntryValue) → HasMore t (with_entries t es)
more_entries t es = record { types = omega arith; constants = omega arith; overrides = omega arith; globals = omega arith; expressions = omega arith; functions = omega arith }

world_entries_at : (t : ModuleValue) (es : List EntryValue) (p : ItemPlace) → world (with_entries t es) p ≡ world t p
unfolding world
world_entries_at t es (TypeItem k) = refl
world_entries_at t es (ConstantItem k) = refl
world_entries_at t es (OverrideItem k) = refl
world_entries_at t es (GlobalItem k) = refl
world_entries_at t es (ExpressionItem k) = refl

world_entries : (t : ModuleValue) (es : List EntryValue) → world (with_entries t es) ≡ world t
world_entries t es = λ i p. world_entries_at t es p i

span_entries : (t : ModuleValue) (es : List EntryValue) (p : ItemPlace) → span_at (with_entries t es) p ≡ span_at t p
unfolding span_at
span_entries t es (TypeItem k) = refl
span_entries t es (ConstantItem k) = refl
span_entries t es (OverrideItem k) = refl
span_entries t es (GlobalItem k) = refl
span_entries t es (ExpressionItem k) = refl

special_entries_of : (t : ModuleValue) (es : List EntryValue) (k : ℕ) → MayBeSpecial t k → MayBeSpecial (with_entries t es) k
special_entries_of t es k h = record {
  there = subst (λ w. IsIn w (TypeItem k)) (sym (world_entries t es)) h.there;
  unsized = subst (λ w. IsUnsized w k) (sym (world_entries t es)) h.unsized;
  plain = subst (λ w. AllReached w (IsPlain t.special_types) k) (sym (world_entries t es)) h.plain;
}

items_with_entries : (t : ModuleValue) (es : List EntryValue) → AreFormed t → AreFormed (with_entries t es)
items_with_entries t es h = record {
  kinds = λ p r e. h.kinds p r (sym (world_entries_at t es p) ∙ e);
  keys = h.keys;
  items = subst ItemsStand (sym (world_entries t es)) h.items;
  special = All-weaker (λ (e : Entry). MayBeSpecial t e.1) (λ (e : Entry). MayBeSpecial (with_entries t es) e.1) (λ e i. special_entries_of t es e.1 i) (special_entries t.special_types) h.special;
  spans = λ p s e. h.spans p s (sym (span_entries t es p) ∙ e);
}

functions_with_entries : (t : ModuleValue) (es : List EntryValue) → AreFunctionsFormed t 4294967295 → AreFunctionsFormed (with_entries t es) 4294967295
functions_with_entries t es f = record {
  named = f.named;
  distinct = f.distinct;
  forms = λ k e at. form_later t (with_entries t es) k 4294967295 e.0 (more_entries t es) (f.forms k e at);
  spans = f.spans;
}

name_at : (vs : List EntryValue) (es : List EntryValue) → names_in es ≡ names_in vs → (k : ℕ) (e : EntryValue) → slice_get es k ≡ Some e → (v : EntryValue) × (slice_get vs k ≡ Some v) × (entry_name v ≡ entry_name e)
name_at vs es same k e at =
    let here : slice_get (names_in vs) k ≡ Some e.function.name = ap (λ xs. slice_get xs k) (sym same) ∙ slice_get-map (λ (x : EntryValue). x.function.name) es k ∙ ap (option_map (λ (x : EntryValue). x.function.name)) at in
    let v = mapped_at (λ (x : EntryValue). x.function.name) vs k e.function.name here in
    (v.0, v.1, ap (λ n. unwrap_or n (codes "main")) v.2)

made_by : (first : Kept) (s : Source) (t : ModuleValue) (ns : Meanings) → IsFormed first (derivation s t ns) → AreEntriesFormed s.value 4294967295 → IsModuleFormed (make_module (derivation s t ns))
made_by first s t ns f h =
    let g = entries_come first s t ns [] s.value.entry_points f h.forms in
    let made = with_entries g.target g.entries in
    let is : make_module (derivation s t ns) ≡ made = ap module_of g.is in
    subst IsModuleFormed (sym is) (record {
      items = items_with_entries g.target g.entries g.formed.items.target;
      functions = functions_with_entries g.target g.entries g.formed.functions;
      entry_points = record {
        forms = All-weaker (IsEntryFormed g.target 4294967295) (IsEntryFormed made 4294967295) (entry_later g.target made (more_entries g.target g.entries)) g.entries g.fine;
        distinct = λ j k x y a b same. (let p = name_at s.value.entry_points g.entries g.same j x a in let q = name_at s.value.entry_points g.entries g.same k y b in h.distinct j k p.0 q.0 p.1 q.1 (p.2 ∙ same ∙ sym q.2));
      };
    })

made_any : (first : Kept) (o : Option Source) (t : ModuleValue) (ns : Meanings) → IsFormed first (record { source = o; target = t; function_names = ns }) → IsSome o → IfSome o (λ s. AreEntriesFormed s.value 4294967295) → IsModuleFormed (make_module (record { source = o; target = t; function_names = ns }))
made_any first None t ns f h e = absurd (false≢true h)
made_any first (Some s) t ns f h e = made_by first s t ns f e

pub module_made : (first : Kept) (d : Derived) → IsFormed first d → IsSome d.source → IfSome d.source (λ s. AreEntriesFormed s.value 4294967295) → IsModuleFormed (make_module d)
module_made first d f h e = made_any first d.source d.target d.function_names f h e
