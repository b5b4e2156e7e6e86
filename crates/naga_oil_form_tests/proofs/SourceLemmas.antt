-- What may be copied from a source that passes the test of form.
use Rattle.std.proofs.Common.{◌≡◌, ℕ, ◌<◌, length, slice_get, Option, Some, None, IsSome, IfSome, option_map, refl, sym, subst, arith}
use Rattle.std.specs.Borrow.{Bor}
use Rattle.std.proofs.lemmas.Option.{none-some, same_Some}
use Rattle.naga_oil_form.specs.ItemForm.{IsThere}
use Rattle.naga_oil_ir.specs.ModuleValue.{ModuleValue, function_value}
use Rattle.naga_oil_form.specs.NameForm.{Name}
use Rattle.naga_oil_form.specs.WellFormed.{WellFormed}
use Rattle.naga_oil_ir.specs.declared.module.Function.{Function}
use Rattle.naga_oil_ir.specs.declared.module.Module.{Module}
use Rattle.naga_oil_ir.specs.declared.names.ItemPlace.{ItemPlace}
use Rattle.naga_oil_ir.specs.declared.span.Span.{Span}
use Rattle.naga_oil_walk.specs.declared.walk.Request.TheVariants.{Call}
use Rattle.naga_oil_derive.specs.World.{value_of}
use Rattle.naga_oil_derive.specs.Derived.{Source, Derived, HasItem}
use Rattle.naga_oil_derive.specs.DerivedEntries.{CanCopyEntries}
use Rattle.naga_oil_derive.specs.DerivedFunctions.{Meanings, MayAsk, MayCall, MayReach, CanImport, CanCall}
use Rattle.naga_oil_derive.proofs.FormEntries.{HasSource, item_in, source_copy, entries_can}
use Rattle.naga_oil_derive.proofs.FormFunctions.{form_body, form_reach, one_form}
use Rattle.naga_oil_derive.proofs.FunctionValues.{functions_length}
use Rattle.naga_oil_derive.proofs.RankLemmas.{place_there}

-- ---- the source that is set

is_of : (v : ModuleValue) (o : Option Source) → Some v ≡ option_map (λ (s : Source). s.value) o → IsSome o × IfSome o (λ s. s.value ≡ v)
is_of v None e = absurd (none-some v (sym e))
is_of v (Some s) e = (refl, sym (same_Some v s.value e))

pub own_source : (b : Bor Module) (a : Option (Bor Module)) (d : Derived) → option_map (λ (x : Bor Module). value_of x.now) a ≡ option_map (λ (s : Source). s.value) d.source → a ≡ Some b → HasSource (value_of b.now) d
own_source b a d e is = is_of (value_of b.now) d.source (subst (λ (x : Option (Bor Module)). option_map (λ (y : Bor Module). value_of y.now) x ≡ option_map (λ (s : Source). s.value) d.source) is e)

call_in : (m : Module) (o : Option Source) (ns : Meanings) (k : ℕ) → IsSome o × IfSome o (λ s. s.value ≡ value_of m) → (k < length (value_of m).functions) × MayCall (value_of m) ns (length (value_of m).functions) k → IsSome o × IfSome o (λ s. MayAsk s.value (MayReach ns s) (Call k))
call_in m None ns k h i = (h.0, tt)
call_in m (Some s) ns k h i = (h.0, subst (λ (w : ModuleValue). (k < length w.functions) × MayCall w ns (length w.functions) k) (sym h.1) i)

-- ---- what it has

module _ (m : Module) (d : Derived) (own : HasSource (value_of m) d) where
  pub has_item : (p : ItemPlace) → IsThere m p → HasItem d p
  has_item p h = item_in m d.source p own (place_there m p h)

  -- where it passes the test of form, each function can be imported
  pub form_import : (dn : Name) (n k : ℕ) (f : Function) → WellFormed m dn n → Some f ≡ option_map (λ (x : Function × Span). x.0) (slice_get m.functions k) → CanImport d (function_value f)
  form_import dn n k f w at =
      let one = one_form m dn n d.function_names k f w at in
      (source_copy m d (function_value f) own one.0, one.1)

  -- and called
  pub form_call : (dn : Name) (n k : ℕ) → WellFormed m dn n → k < length m.functions → CanCall d k
  form_call dn n k w l =
      let size = functions_length m in
      let there : k < length (value_of m).functions = omega (arith, l, size) in
      call_in m d.source d.function_names k own (there, form_reach m dn n d.function_names w k l)

  -- and so can all entry points
  pub form_entries : (dn : Name) (n : ℕ) → WellFormed m dn n → CanCopyEntries d
  form_entries dn n w = entries_can m d n own (λ f h. source_copy m d (function_value f) own (form_body m dn n d.function_names (length m.functions) f (omega arith) w h)) w.entry_points
