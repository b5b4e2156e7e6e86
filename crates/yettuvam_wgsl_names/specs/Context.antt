-- The names in attributes, and the operators, by their codes.
use Rattle.std.specs.Prelude.{ℕ, List, map}
use Rattle.yettuvam_wgsl_names.specs.Table.{Name}
use Rattle.yettuvam_wgsl_names.specs.declared.context.TheConstants.{BUILT_IN_VALUES, INTERPOLATION_TYPES, SAMPLINGS, ATTRIBUTES, SEVERITIES}
use Rattle.yettuvam_wgsl_names.specs.declared.operators.TheConstants.{UNARY_OPERATORS, BINARY_OPERATORS}

abbrev pub built_in_value_rows : List (ℕ × Name)
built_in_value_rows = map (λ e. (e.0, e.1.now)) BUILT_IN_VALUES

abbrev pub interpolation_type_rows : List (ℕ × Name)
interpolation_type_rows = map (λ e. (e.0, e.1.now)) INTERPOLATION_TYPES

abbrev pub sampling_rows : List (ℕ × Name)
sampling_rows = map (λ e. (e.0, e.1.now)) SAMPLINGS

abbrev pub attribute_rows : List (ℕ × Name)
attribute_rows = map (λ e. (e.0, e.1.now)) ATTRIBUTES

abbrev pub severity_rows : List (ℕ × Name)
severity_rows = map (λ e. (e.0, e.1.now)) SEVERITIES

abbrev pub unary_operator_rows : List (ℕ × Name)
unary_operator_rows = map (λ e. (e.0, e.1.now)) UNARY_OPERATORS

abbrev pub binary_operator_rows : List (ℕ × Name)
binary_operator_rows = map (λ e. (e.0, e.1.now)) BINARY_OPERATORS
