-- Statements with blocks, worked by hand.
use Rattle.std.specs.Prelude.{◌≡◌, refl, true, false, List, [], ◌∷◌, Some, None, codes, Ok, Err}
use Rattle.naga_oil_ir.specs.Body.{Tokens}
use Rattle.naga_oil_ir.specs.Spans.{undefined}
use Rattle.naga_oil_ir.specs.declared.tokens.Token.TheVariants.{Absent, Flag, Plain, Use}
use Rattle.yettuvam_wgsl_pieces.specs.Pieces.{Piece, Word, Literal, Sign}
use Rattle.yettuvam_wgsl_pieces.specs.declared.sign.Sign.TheVariants as sign
use Rattle.yettuvam_wgsl_statements.specs.Selectors.{selector_of}
use Rattle.yettuvam_wgsl_written.specs.Outcomes.{◌>>=◌}
use Rattle.yettuvam_wgsl_written.specs.Written.{Written, name}
use Rattle.yettuvam_wgsl_written.specs.declared.written.Role.TheVariants as written
use Rattle.yettuvam_wgsl_write_blocks.specs.Blocks.{Done, State, started, add, add_loop, begin, begin_arm, begin_if, begin_statement, begin_switch}
use Rattle.yettuvam_wgsl_write_blocks.specs.Blocks.{close, closed, end_arm, end_switch, ended, fall_through, next_arm, open_, without_frame}
use Rattle.yettuvam_wgsl_write_blocks.specs.Branches.{if_part, if_text}
use Rattle.yettuvam_wgsl_write_blocks.specs.Loops.{block_part, continuing_block, endless_loop, for_head, for_text, head_loop, loop_part, loop_text, while_text}
use Rattle.yettuvam_wgsl_write_blocks.specs.Parts.{Part, other_part, simple_part}
use Rattle.yettuvam_wgsl_write_blocks.specs.Switches.{arm_body, arm_selector, switch_head}
use Rattle.yettuvam_wgsl_write_blocks.specs.declared.parts.PartKind.TheVariants as kind

abbrev c : List Piece
c = Word (codes "c") ∷ []

-- `s;` and `i;`, for an assignment and a declaration
abbrev s : Part
s = simple_part kind.Update (Word (codes "s") ∷ [])

abbrev i : Part
i = simple_part kind.Declaration (Word (codes "i") ∷ [])

abbrev break_ : Part
break_ = simple_part kind.Break (Sign sign.BreakWord ∷ [])

abbrev return_ : Part
return_ = simple_part kind.Other (Sign sign.ReturnWord ∷ [])

-- ---- `if`

-- `if c {}`, `if c { s; } else { s; s; }`, and `if c {} else if c { s; }`
if_rows :
    ((if_part c [] []).text ≡ Sign sign.IfWord ∷ Word (codes "c") ∷ Sign sign.LeftBrace ∷ Sign sign.RightBrace ∷ [])
    × ((if_part c (s ∷ []) (s ∷ s ∷ [])).text
    ≡ Sign sign.IfWord ∷ Word (codes "c") ∷ Sign sign.LeftBrace ∷ Word (codes "s") ∷ Sign sign.Semicolon ∷ Sign sign.RightBrace ∷ Sign sign.ElseWord
    ∷ Sign sign.LeftBrace ∷ Word (codes "s") ∷ Sign sign.Semicolon ∷ Word (codes "s") ∷ Sign sign.Semicolon ∷ Sign sign.RightBrace ∷ [])
    × ((if_part c [] (if_part c (s ∷ []) [] ∷ [])).text
    ≡ Sign sign.IfWord ∷ Word (codes "c") ∷ Sign sign.LeftBrace ∷ Sign sign.RightBrace ∷ Sign sign.ElseWord
    ∷ Sign sign.IfWord ∷ Word (codes "c") ∷ Sign sign.LeftBrace ∷ Word (codes "s") ∷ Sign sign.Semicolon ∷ Sign sign.RightBrace ∷ [])
unfolding if_part if_text
if_rows = (refl, refl, refl)

-- only an `if` that does nothing but leave the loop is a guard
guard_rows :
    ((if_part c [] (break_ ∷ [])).kind ≡ kind.Guard)
    × ((if_part c (s ∷ []) (break_ ∷ [])).kind ≡ kind.If)
    × ((if_part c [] (s ∷ break_ ∷ [])).kind ≡ kind.If)
    × ((if_part c [] (return_ ∷ [])).kind ≡ kind.If)
unfolding if_part
guard_rows = (refl, refl, refl, refl)

-- ---- loops

abbrev guard : Part
guard = if_part c [] (break_ ∷ [])

abbrev body : Part
body = block_part (s ∷ [])

-- `while c { s; }`, `for (; c; s) { s; }`, and `for (;;) { s; }`
loop_rows :
    ((loop_part (guard ∷ body ∷ []) [] None).text
    ≡ Sign sign.WhileWord ∷ Word (codes "c") ∷ Sign sign.LeftBrace ∷ Word (codes "s") ∷ Sign sign.Semicolon ∷ Sign sign.RightBrace ∷ [])
    × ((loop_part (guard ∷ body ∷ []) (s ∷ []) None).text
    ≡ Sign sign.ForWord ∷ Sign sign.LeftParen ∷ Sign sign.HeadSemicolon ∷ Word (codes "c") ∷ Sign sign.HeadSemicolon ∷ Word (codes "s") ∷ Sign sign.RightParen
    ∷ Sign sign.LeftBrace ∷ Word (codes "s") ∷ Sign sign.Semicolon ∷ Sign sign.RightBrace ∷ [])
    × ((loop_part (body ∷ []) [] None).text
    ≡ Sign sign.ForWord ∷ Sign sign.LeftParen ∷ Sign sign.HeadSemicolon ∷ Sign sign.HeadSemicolon ∷ Sign sign.RightParen
    ∷ Sign sign.LeftBrace ∷ Word (codes "s") ∷ Sign sign.Semicolon ∷ Sign sign.RightBrace ∷ [])
unfolding if_part endless_loop head_loop while_text for_head for_text
loop_rows = (refl, refl, refl)

-- `for (i; c; s) { s; }`, and a block with another statement
for_rows :
    ((block_part (i ∷ loop_part (guard ∷ body ∷ []) (s ∷ []) None ∷ [])).text
    ≡ Sign sign.ForWord ∷ Sign sign.LeftParen ∷ Word (codes "i") ∷ Sign sign.HeadSemicolon ∷ Word (codes "c") ∷ Sign sign.HeadSemicolon ∷ Word (codes "s") ∷ Sign sign.RightParen
    ∷ Sign sign.LeftBrace ∷ Word (codes "s") ∷ Sign sign.Semicolon ∷ Sign sign.RightBrace ∷ [])
    × ((block_part (i ∷ s ∷ [])).text
    ≡ Sign sign.LeftBrace ∷ Word (codes "i") ∷ Sign sign.Semicolon ∷ Word (codes "s") ∷ Sign sign.Semicolon ∷ Sign sign.RightBrace ∷ [])
unfolding if_part endless_loop head_loop for_head for_text
for_rows = (refl, refl)

-- a declaration is no step, a loop that has a condition after its last block is no `for`, and other statements may stand in no head
plain_rows :
    ((loop_part (guard ∷ body ∷ []) (i ∷ []) None).kind ≡ kind.Other)
    × ((loop_part (guard ∷ body ∷ []) [] (Some c)).kind ≡ kind.Other)
    × ((loop_part (s ∷ body ∷ []) [] None).kind ≡ kind.Other)
    × ((block_part (return_ ∷ loop_part (body ∷ []) [] None ∷ [])).text
    ≡ Sign sign.LeftBrace ∷ Sign sign.ReturnWord ∷ Sign sign.Semicolon
    ∷ Sign sign.ForWord ∷ Sign sign.LeftParen ∷ Sign sign.HeadSemicolon ∷ Sign sign.HeadSemicolon ∷ Sign sign.RightParen
    ∷ Sign sign.LeftBrace ∷ Word (codes "s") ∷ Sign sign.Semicolon ∷ Sign sign.RightBrace ∷ Sign sign.RightBrace ∷ [])
unfolding if_part endless_loop head_loop for_head for_text
plain_rows = (refl, refl, refl, refl)

-- `loop { s; continuing { s; break if c; } }`, and `loop { s; }`
plain_texts :
    ((loop_part (s ∷ []) (s ∷ []) (Some c)).text
    ≡ Sign sign.LoopWord ∷ Sign sign.LeftBrace ∷ Word (codes "s") ∷ Sign sign.Semicolon ∷ Sign sign.ContinuingWord ∷ Sign sign.LeftBrace ∷ Word (codes "s") ∷ Sign sign.Semicolon
    ∷ Sign sign.BreakWord ∷ Sign sign.IfWord ∷ Word (codes "c") ∷ Sign sign.Semicolon ∷ Sign sign.RightBrace ∷ Sign sign.RightBrace ∷ [])
    × ((loop_part (s ∷ []) [] None).text
    ≡ Sign sign.LoopWord ∷ Sign sign.LeftBrace ∷ Word (codes "s") ∷ Sign sign.Semicolon ∷ Sign sign.RightBrace ∷ [])
unfolding endless_loop loop_text continuing_block
plain_texts = (refl, refl)

-- ---- the blocks of a body

-- the expression 0 is `c`
abbrev known : List Written
known = name (codes "c") written.Value ∷ []

-- `s;` in a block of its own, which ends before these tokens
abbrev with_block : Part → Tokens → State → Done
with_block p ts t = close known ts (add p (open_ t))

abbrev parts_in : Done → List Part
parts_in (Ok t) = t.parts
parts_in (Err span) = []

-- `if c { s; } else { i; }` among the statements of the body
if_run :
    parts_in (begin_statement known undefined 2 (Use 0 ∷ []) started >>= (λ t. with_block s [] t >>= (λ u. with_block i [] u)))
    ≡ if_part c (s ∷ []) (i ∷ []) ∷ []
unfolding begin_statement begin_if begin close closed add open_ ended without_frame
if_run = refl

-- a loop with the condition `c` after its blocks, and without one
loop_runs :
    (parts_in (begin_statement known undefined 4 [] started >>= (λ t. with_block s [] t >>= (λ u. with_block i (Use 0 ∷ []) u)))
    ≡ loop_part (s ∷ []) (i ∷ []) (Some c) ∷ [])
    × (parts_in (begin_statement known undefined 4 [] started >>= (λ t. with_block s [] t >>= (λ u. with_block i (Absent ∷ []) u)))
    ≡ loop_part (s ∷ []) (i ∷ []) None ∷ [])
unfolding begin_statement begin add_loop close closed add open_ ended without_frame
loop_runs = (refl, refl)

-- `switch c { case 1, default: { s; } }`, of which the first selector falls through
switch_run :
    parts_in (begin_statement known undefined 3 (Use 0 ∷ Plain 4294967297 ∷ Flag true ∷ []) started
    >>= (λ t. close known (Plain 0 ∷ Flag false ∷ []) (open_ t) >>= (λ u. with_block s [] u)))
    ≡ other_part (Sign sign.SwitchWord ∷ Word (codes "c") ∷ Sign sign.LeftBrace ∷ Sign sign.CaseWord ∷ Literal 1 1 ∷ Sign sign.Comma ∷ Sign sign.DefaultWord ∷ Sign sign.CaseColon
    ∷ Sign sign.LeftBrace ∷ Word (codes "s") ∷ Sign sign.Semicolon ∷ Sign sign.RightBrace ∷ Sign sign.RightBrace ∷ []) ∷ []
unfolding begin_statement begin_switch switch_head next_arm begin_arm arm_selector selector_of begin close closed
    fall_through end_arm arm_body end_switch add open_ ended without_frame
switch_run = refl

-- `default` alone has no `case`; a selector that falls through has no statements and isn't the last one; no operand; no kind
refused_rows :
    (arm_selector false (record { value = 0; falls_through = false }) undefined ≡ Ok (Sign sign.DefaultWord ∷ []))
    × ((begin_statement known undefined 3 (Use 0 ∷ Plain 0 ∷ Flag true ∷ []) started >>= (λ t. with_block s (Plain 0 ∷ Flag false ∷ []) t)) ≡ Err undefined)
    × ((begin_statement known undefined 3 (Use 0 ∷ Plain 0 ∷ Flag true ∷ []) started >>= (λ t. close known [] (open_ t))) ≡ Err undefined)
    × (begin_statement known undefined 2 (Use 1 ∷ []) started ≡ Err undefined)
    × (begin_statement known undefined 5 [] started ≡ Err undefined)
unfolding begin_statement begin_if begin_switch switch_head next_arm begin_arm arm_selector selector_of begin close
    closed fall_through add open_ ended without_frame
refused_rows = (refl, refl, refl, refl, refl)
