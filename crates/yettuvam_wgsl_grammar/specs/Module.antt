-- The grammar of WGSL, and the nodes of a module.
use Rattle.std.specs.Prelude.{ℕ, ◌+◌, ◌*◌, min, List, ◌++◌, length, map, Result, Ok, Err}
use Rattle.yettuvam_wgsl_words.specs.declared.refusal.Fault.{Fault as WordsFault}
use Rattle.yettuvam_wgsl_words.specs.Class.{Text}
use Rattle.yettuvam_wgsl_words.specs.Scan.{Token, tokens}
use Rattle.yettuvam_wgsl_templates.specs.Finder.{with_templates}
use Rattle.yettuvam_wgsl_machine.specs.declared.refusal.Fault.{Fault}
use Rattle.yettuvam_wgsl_machine.specs.Machine.{Node, Row, Table, run, start, table}
use Rattle.yettuvam_wgsl_machine.specs.Refused.{fault_of_words}
use Rattle.yettuvam_wgsl_expression_rows.specs.declared.expressions.TheConstants.{EXPRESSIONS}
use Rattle.yettuvam_wgsl_grammar.specs.declared.items.TheConstants.{ITEMS}
use Rattle.yettuvam_wgsl_grammar.specs.declared.places.TheConstants.{PLACES}
use Rattle.yettuvam_wgsl_grammar.specs.declared.statements.TheConstants.{STATEMENTS}
use Rattle.yettuvam_wgsl_grammar.specs.declared.module_.TheConstants.{MODULE, TURNS_AT_LEAST, TURNS_PER_TOKEN}

unfoldable pub item_rows : List Row
item_rows = map (λ r. (r.0, r.1, r.2.now)) ITEMS

unfoldable pub statement_rows : List Row
statement_rows = map (λ r. (r.0, r.1, r.2.now)) STATEMENTS

unfoldable pub expression_rows : List Row
expression_rows = map (λ r. (r.0, r.1, r.2.now)) EXPRESSIONS

-- the rows of the grammar
abbrev pub rows : List Row
rows = item_rows ++ statement_rows ++ expression_rows

-- the place of the first row of each rule
unfoldable pub places : List ℕ
places = PLACES

abbrev pub grammar : Table
grammar = table rows places

-- the greatest number of the code
abbrev pub greatest : ℕ
greatest = 18446744073709551615

-- the most turns of the machine that a number of tokens takes
unfoldable pub turns : (count : ℕ) → ℕ
turns count = min (min (count * TURNS_PER_TOKEN) greatest + TURNS_AT_LEAST) greatest

-- the nodes of a module that is all of the tokens
unfoldable pub parse : List Token → Result (List Node) Fault
parse tokens = run grammar (turns (length tokens)) (start tokens MODULE)

-- the tokens of a text with their brackets marked
abbrev pub and_mark : Result (List Token) WordsFault → Result (List Token) WordsFault
and_mark (Ok tokens) = with_templates tokens
and_mark (Err fault) = Err fault

unfoldable pub marked_tokens : Text → Result (List Token) WordsFault
marked_tokens text = and_mark (tokens text)

abbrev pub and_parse : Result (List Token) WordsFault → Result (List Node) Fault
and_parse (Ok tokens) = parse tokens
and_parse (Err fault) = Err (fault_of_words fault)

-- the nodes of a text
unfoldable pub nodes_of : Text → Result (List Node) Fault
nodes_of text = and_parse (marked_tokens text)
