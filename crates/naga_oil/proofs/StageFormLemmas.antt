-- A whole of good form, with the stages of its entry points: its calls can be redirected.
use Rattle.std.proofs.Common.{◌≡◌, ◌∙◌, ℕ, ◌<◌, ◌≤◌, List, length, map, get_or, slice_get, Some, refl, ap, sym, subst, arith, All}
use Rattle.std.proofs.lemmas.List.Elements.{All-map, All-weaker}
use Rattle.std.proofs.lemmas.Option.{slice_get-get_or}
use Rattle.naga_oil_ir.specs.Body.{block_tokens}
use Rattle.naga_oil_form.specs.BodyForm.{IsTokenFine}
use Rattle.naga_oil_ir.specs.ModuleValue.{ModuleValue, EntryValue, module_value}
use Rattle.naga_oil_form.specs.WellFormed.{FunctionForm, FunctionsForm}
use Rattle.naga_oil_ir.specs.declared.module.Function.{Function}
use Rattle.naga_oil_ir.specs.declared.module.Module.{Module}
use Rattle.naga_oil_ir.specs.declared.names.ItemPlace.{ItemPlace}
use Rattle.naga_oil_ir.specs.declared.names.ItemPlace.TheVariants.{TypeItem, ConstantItem, OverrideItem, GlobalItem, ExpressionItem}
use Rattle.naga_oil_ir.specs.declared.span.Span.{Span}
use Rattle.naga_oil_ir.specs.declared.tokens.Token.{Token}
use Rattle.naga_oil_ir.specs.declared.tokens.Token.TheVariants.{At, Head, Plain, Flag, Absent, Open, Close, Use, Give, GiveCall, Emitted, Callee}
use Rattle.naga_oil_derive.specs.World.{value_of, world, span_at, special_entries}
use Rattle.naga_oil_derive.proofs.SpecialLemmas.{Entry}
use Rattle.naga_oil_form_laws.specs.EntryForm.{IsEntryFormed, AreEntriesFormed, IsModuleFormed, entry_name}
use Rattle.naga_oil_form_laws.specs.FunctionForm.{AreFunctionsFormed}
use Rattle.naga_oil_form_laws.specs.ItemsStand.{IsUnsized, AllReached, IsIn, ItemsStand, IsPlain, MayBeSpecial, AreFormed}
use Rattle.naga_oil_form_laws.proofs.EntryLemmas.{entry_later}
use Rattle.naga_oil_form_laws.proofs.FormedModules.{copied_from}
use Rattle.naga_oil_form_laws.proofs.FunctionFormLemmas.{mapped_at}
use Rattle.naga_oil_form_laws.proofs.ImportLemmas.{HasMore, form_later}
use Rattle.naga_oil_redirect.specs.Redirectable.{Redirectable}
use Rattle.naga_oil_registry.specs.declared.descriptor.ShaderType.{ShaderType}
use Rattle.naga_oil_registry.specs.declared.descriptor.ShaderType.TheVariants as shader
use Rattle.naga_oil.specs.Chain.{staged, with_stages}

-- ---- stages

module _ (stage : ℕ) (m : ModuleValue) where
  abbrev n : ModuleValue
  n = staged stage m

  abbrev at_stage : EntryValue → EntryValue
  at_stage e = record e { stage = stage }

  world_at : (p : ItemPlace) → world n p ≡ world m p
  unfolding world
  world_at (TypeItem k) = refl
  world_at (ConstantItem k) = refl
  world_at (OverrideItem k) = refl
  world_at (GlobalItem k) = refl
  world_at (ExpressionItem k) = refl

  one_world : world n ≡ world m
  one_world = λ i p. world_at p i

  spans_stay : (p : ItemPlace) → span_at n p ≡ span_at m p
  unfolding span_at
  spans_stay (TypeItem k) = refl
  spans_stay (ConstantItem k) = refl
  spans_stay (OverrideItem k) = refl
  spans_stay (GlobalItem k) = refl
  spans_stay (ExpressionItem k) = refl

  special_stays : (k : ℕ) → MayBeSpecial m k → MayBeSpecial n k
  special_stays k h = record {
    there = subst (λ w. IsIn w (TypeItem k)) (sym one_world) h.there;
    unsized = subst (λ w. IsUnsized w k) (sym one_world) h.unsized;
    plain = subst (λ w. AllReached w (IsPlain m.special_types) k) (sym one_world) h.plain;
  }

  items_stay : AreFormed m → AreFormed n
  items_stay h = record {
    kinds = λ p r e. h.kinds p r (sym (world_at p) ∙ e);
    keys = h.keys;
    items = subst ItemsStand (sym one_world) h.items;
    special = All-weaker (λ (e : Entry). MayBeSpecial m e.1) (λ (e : Entry). MayBeSpecial n e.1) (λ e i. special_stays e.1 i) (special_entries m.special_types) h.special;
    spans = λ p s e. h.spans p s (sym (spans_stay p) ∙ e);
  }

  more : HasMore m n
  more = record { types = omega arith; constants = omega arith; overrides = omega arith; globals = omega arith; expressions = omega arith; functions = omega arith }

  functions_stay : AreFunctionsFormed m 4294967295 → AreFunctionsFormed n 4294967295
  functions_stay f = record {
    named = f.named;
    distinct = f.distinct;
    forms = λ k e at. form_later m n k 4294967295 e.0 more (f.forms k e at);
    spans = f.spans;
  }

  entry_stays : (e : EntryValue) → IsEntryFormed m 4294967295 e → IsEntryFormed n 4294967295 (at_stage e)
  entry_stays e h = let l = entry_later m n more e h in record { function = l.function; workgroup_size = l.workgroup_size; mesh_info = l.mesh_info; task_payload = l.task_payload }

  entries_stay : AreEntriesFormed m 4294967295 → AreEntriesFormed n 4294967295
  entries_stay f = record {
    forms = All-map (IsEntryFormed n 4294967295) at_stage m.entry_points (All-weaker (IsEntryFormed m 4294967295) (λ e. IsEntryFormed n 4294967295 (at_stage e)) entry_stays m.entry_points f.forms);
    distinct = λ j k e g p q same. (let x = mapped_at at_stage m.entry_points j e p in let y = mapped_at at_stage m.entry_points k g q in f.distinct j k x.0 y.0 x.1 y.1 (ap (λ (z : EntryValue). entry_name z) x.2 ∙ same ∙ sym (ap (λ (z : EntryValue). entry_name z) y.2)));
  }

  staged_formed : IsModuleFormed m → IsModuleFormed n
  staged_formed f = record { items = items_stay f.items; functions = functions_stay f.functions; entry_points = entries_stay f.entry_points }

-- a whole of good form is of good form with the stages of its entry points
pub stages_formed : (t : ShaderType) (m : ModuleValue) → IsModuleFormed m → IsModuleFormed (with_stages t m)
stages_formed shader.Wgsl m f = f
stages_formed shader.GlslVertex m f = staged_formed 0 m f
stages_formed shader.GlslFragment m f = staged_formed 1 m f

-- ---- calls that can be redirected

calls_any : (c d : ℕ) → c ≤ d → (t : Token) → IsTokenFine c 4294967295 t → IsTokenFine d 4294967295 t
calls_any c d l (Callee f) h = omega (arith, l, h)
calls_any c d l (At s) h = h
calls_any c d l _ h = h

function_any : (m : Module) (c d : ℕ) (f : Function) → c ≤ d → FunctionForm m c 4294967295 f → FunctionForm m d 4294967295 f
function_any m c d f l h = record {
  arguments = h.arguments;
  result = h.result;
  locals = h.locals;
  named_expressions = h.named_expressions;
  expressions = h.expressions;
  statements = All-weaker (IsTokenFine c 4294967295) (IsTokenFine d 4294967295) (calls_any c d l) (block_tokens f.body) h.statements;
  body = h.body;
  spans = h.spans;
}

functions_any : (m : Module) → FunctionsForm m 4294967295 m.functions → All (λ e. FunctionForm m (length m.functions) 4294967295 e.0) m.functions
unfolding FunctionsForm
functions_any m h k d l = function_any m k (length m.functions) (get_or m.functions k d).0 (omega (arith, l)) (h k (get_or m.functions k d) (slice_get-get_or m.functions k d l))

-- the calls of a module of good form can be redirected
pub formed_redirectable : (m : Module) → IsModuleFormed (module_value m) → Redirectable m
unfolding value_of
formed_redirectable m f =
    let c = copied_from m f in
    record { items = c.items; names = c.names; functions = functions_any m c.functions; entry_points = c.entry_points }
