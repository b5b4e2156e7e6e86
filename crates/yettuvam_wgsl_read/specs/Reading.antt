-- The module of a text in WGSL, or its fault.
use Rattle.std.specs.Prelude.{List, [], Result, Ok, Err}
use Rattle.naga_oil_ir.specs.Backend.{FaultValue}
use Rattle.naga_oil_ir.specs.ModuleValue.{ModuleValue}
use Rattle.yettuvam_wgsl_attribute_rules.specs.Fault.{attribute_fault}
use Rattle.yettuvam_wgsl_attribute_rules.specs.Testing.{attributes_ruled}
use Rattle.yettuvam_wgsl_attribute_rules.specs.declared.refusal.Fault.{Fault as AttributeFault}
use Rattle.yettuvam_wgsl_faults.specs.Fault.{meaning_fault, syntax_fault}
use Rattle.yettuvam_wgsl_grammar.specs.Module.{parse}
use Rattle.yettuvam_wgsl_items.specs.Lowered.{module_of}
use Rattle.yettuvam_wgsl_machine.specs.Machine.{Node}
use Rattle.yettuvam_wgsl_machine.specs.Refused.{fault_of_words}
use Rattle.yettuvam_wgsl_machine.specs.declared.refusal.Fault.{Fault as SyntaxFault}
use Rattle.yettuvam_wgsl_scope.specs.declared.refusal.Fault.{Fault as MeaningFault}
use Rattle.yettuvam_wgsl_scope.specs.Stages.{◌>>=◌}
use Rattle.yettuvam_wgsl_scope.specs.Scope.{scoped}
use Rattle.yettuvam_wgsl_templates.specs.Finder.{with_templates}
use Rattle.yettuvam_wgsl_words.specs.Class.{Text}
use Rattle.yettuvam_wgsl_words.specs.Scan.{Token, tokens}
use Rattle.yettuvam_wgsl_words.specs.declared.refusal.Fault.{Fault as WordsFault}

-- a value, or what is wrong with the tokens of a text as a fault of its syntax
abbrev pub or_words_fault : {A : Type 0} → Result A WordsFault → Result A SyntaxFault
or_words_fault (Ok a) = Ok a
or_words_fault (Err fault) = Err (fault_of_words fault)

-- a value, or the fault of a text whose syntax is wrong, as a front end reports it
abbrev pub or_syntax_fault : {A : Type 0} → Text → List Token → Result A SyntaxFault → Result A FaultValue
or_syntax_fault text found (Ok a) = Ok a
or_syntax_fault text found (Err fault) = Err (syntax_fault text found fault)

-- a value, or the fault of an attribute, as a front end reports it
abbrev pub or_attribute_fault : {A : Type 0} → Result A AttributeFault → Result A FaultValue
or_attribute_fault (Ok a) = Ok a
or_attribute_fault (Err fault) = Err (attribute_fault fault)

-- a value, or the fault of a text without a meaning, as a front end reports it
abbrev pub or_meaning_fault : {A : Type 0} → Text → Result A MeaningFault → Result A FaultValue
or_meaning_fault text (Ok a) = Ok a
or_meaning_fault text (Err fault) = Err (meaning_fault text fault)

-- the tokens of a text, in which the brackets of template arguments are marked
unfoldable pub marked_tokens : Text → Result (List Token) SyntaxFault
marked_tokens text = do
  found ← or_words_fault (tokens text)
  or_words_fault (with_templates found)

-- the tokens of a text, or its fault, which has no token before it
unfoldable pub tokens_of : Text → Result (List Token) FaultValue
tokens_of text = or_syntax_fault text [] (marked_tokens text)

-- the nodes of a text with its tokens, or its fault
unfoldable pub nodes_of : Text → (found : List Token) → Result (List Node) FaultValue
nodes_of text found = or_syntax_fault text found (parse found)

-- the attributes of a text by its nodes: nothing, or the first fault
unfoldable pub attributes_tested : List Node → Result (Unit {0}) FaultValue
attributes_tested nodes = or_attribute_fault (attributes_ruled nodes)

-- the module of nodes: names are resolved, items are sorted, and each is lowered
unfoldable pub lowered : List Node → Result ModuleValue MeaningFault
lowered nodes = do
  scopes ← scoped nodes
  module_of scopes.items scopes.nodes scopes.order scopes.ranks

-- the module of a text with its nodes, or its fault
unfoldable pub module_of_nodes : Text → List Node → Result ModuleValue FaultValue
module_of_nodes text nodes = or_meaning_fault text (lowered nodes)

-- the module of a text, or its fault
unfoldable pub parsed : Text → Result ModuleValue FaultValue
parsed text = do
  found ← tokens_of text
  nodes ← nodes_of text found
  _ ← attributes_tested nodes
  module_of_nodes text nodes
