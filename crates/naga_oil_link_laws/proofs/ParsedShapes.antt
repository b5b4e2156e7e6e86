-- Plain data with the shape of a module that passes the test of form is of good form.
use Rattle.std.proofs.Common.{◌≡◌, ℕ, ◌≤◌, nat_lt, true, List, option_map}
use Rattle.std.specs.List.{list_all, enumerate_from}
use Rattle.naga_oil_words.specs.Marks.{with_decoration}
use Rattle.naga_oil_ir.specs.ModuleValue.{ModuleValue, FunctionValue}
use Rattle.naga_oil_ir.specs.declared.span.Span.{Span}
use Rattle.naga_oil_form_laws.specs.EntryForm.{IsModuleFormed}
use Rattle.naga_oil_form_laws.specs.OwnedForm.{KeepsNames}
use Rattle.naga_oil_form_laws.proofs.OwnedLemmas.{module_named}
use Rattle.naga_oil_form_laws.specs.Shape.{HasModuleShape}
use Rattle.naga_oil_form.specs.Form.{are_items_formed, are_spans_formed, are_function_names_formed, is_entry_formed, is_formed}
use Rattle.naga_oil_form.specs.FormParts.{is_function_formed, is_span_fine}
use Rattle.naga_oil_form.proofs.DecisionLemmas.{both, itself}
use Rattle.naga_oil_link.proofs.OwnedFormLemmas.{owned_by}
use Rattle.naga_oil_link_laws.specs.ParsedShape.{ParsedShapeLaw}
use Rattle.naga_oil_link_laws.proofs.ShapedFunctions.{functions_formed, keeps_names, entries_formed}
use Rattle.naga_oil_link_laws.proofs.ShapedItems.{items_formed}

module _ (m : ModuleValue) (n : ℕ) (d : List ℕ) (shape : HasModuleShape m) (l : n ≤ 4294967295) (formed : is_formed m d n ≡ true) where
  -- what the test of form says
  pub record Told : Type 0 where
    pub items : are_items_formed m ≡ true
    pub spans : are_spans_formed m n ≡ true
    pub names : are_function_names_formed m d ≡ true
    pub functions : list_all (λ (e : ℕ × (FunctionValue × Span)). is_function_formed m e.0 n e.1.0) (enumerate_from 0 m.functions) ≡ true
    pub entry_points : list_all (is_entry_formed m n) m.entry_points ≡ true

  told : Told
  unfolding is_formed
  told =
      let h = (both _ _ (both _ _ (both _ _ (both _ _ (itself (are_items_formed m)) (itself (are_spans_formed m n))) (itself (are_function_names_formed m d))) (itself (list_all (λ (e : ℕ × (FunctionValue × Span)). is_function_formed m e.0 n e.1.0) (enumerate_from 0 m.functions)))) (itself (list_all (is_entry_formed m n) m.entry_points))).0 formed in
      record { items = h.0.0.0.0; spans = h.0.0.0.1; names = h.0.0.1; functions = h.0.1; entry_points = h.1 }

  function_spans : list_all (λ (e : FunctionValue × Span). is_span_fine n e.1) m.functions ≡ true
  function_spans = ((both _ _ (itself _) (itself (list_all (λ (e : FunctionValue × Span). is_span_fine n e.1) m.functions))).0 told.spans).1

  module_formed : IsModuleFormed m
  module_formed = record {
    items = items_formed m shape told.items n l told.spans;
    functions = functions_formed m n l d told.names shape.functions function_spans told.functions;
    entry_points = entries_formed m n l d told.names shape.entry_points told.entry_points;
  }

  names_kept : KeepsNames (option_map (with_decoration d)) m
  names_kept = keeps_names m n l d told.names

pub parsed_shape : ParsedShapeLaw
parsed_shape m index d n shape l formed = owned_by m d (module_named (option_map (with_decoration d)) m (names_kept m n d shape l formed) (module_formed m n d shape l formed)) (nat_lt 0 index)
