-- Worked rows: selectors, and statements that are read.
use Rattle.std.specs.Prelude.{◌≡◌, refl, [], ◌∷◌, ◌++◌, Some, None, Ok, Err, codes}
use Rattle.naga_oil_ir.specs.Spans.{undefined}
use Rattle.naga_oil_ir.specs.declared.tokens.Token.TheVariants.{At, Head, Plain, Absent, Use, Give, GiveCall, Callee, Open, Close}
use Rattle.yettuvam_wgsl_pieces.specs.Pieces.{Word, Literal, Sign}
use Rattle.yettuvam_wgsl_pieces.specs.declared.sign.Sign.TheVariants as sign
use Rattle.yettuvam_wgsl_statements.specs.Selectors.{selector, selector_of, signed, negative, least_i32}
use Rattle.yettuvam_wgsl_statements.specs.Simple.{simple_at}
use Rattle.yettuvam_wgsl_statements.specs.declared.simple.Simple.TheVariants as simple

-- ---- selectors

-- `unfolding rows_unfold` lets `refl` compute a selector
unfoldable rows_unfold : Unit {0}
unfolding selector_of signed negative least_i32
rows_unfold = tt

default : selector 0 undefined ≡ Ok (Sign sign.DefaultWord ∷ [])
unfolding rows_unfold
default = refl

-- `7`
integer : selector 4294967303 undefined ≡ Ok (Literal 1 7 ∷ [])
unfolding rows_unfold
integer = refl

-- `-1`
negative_integer : selector 12884901887 undefined ≡ Ok (Sign sign.Negate ∷ Literal 1 1 ∷ [])
unfolding rows_unfold
negative_integer = refl

-- `-2i`
negative_i32 : selector 17179869182 undefined ≡ Ok (Sign sign.Negate ∷ Literal 2 2 ∷ [])
unfolding rows_unfold
negative_i32 = refl

least : selector 15032385536 undefined ≡ Ok (Word (codes "i32") ∷ Sign sign.LeftParen ∷ Sign sign.Negate ∷ Literal 1 2147483648 ∷ Sign sign.RightParen ∷ [])
unfolding rows_unfold
least = refl

-- `7u`
unsigned : selector 17179869191 undefined ≡ Ok (Literal 3 7 ∷ [])
unfolding rows_unfold
unsigned = refl

unknown_class : selector 21474836480 undefined ≡ Err undefined
unfolding rows_unfold
unknown_class = refl

-- ---- statements, among the expressions of a function by their places

-- `return e4;`
return_a_value : simple_at (Head 10 ∷ Use 4 ∷ []) ≡ Some (simple.Return (Some 4), 2)
return_a_value = refl

-- `return;`, and what follows it
return_nothing : simple_at (Head 10 ∷ Absent ∷ Close ∷ []) ≡ Some (simple.Return None, 2)
return_nothing = refl

-- `*e4 = e7;`
store : simple_at (Head 11 ∷ Use 4 ∷ Use 7 ∷ []) ≡ Some (simple.Store 4 7, 3)
store = refl

-- `textureStore(e1, e2, e3);`
store_without_layer : simple_at (Head 12 ∷ Use 1 ∷ Use 2 ∷ Absent ∷ Use 3 ∷ []) ≡ Some (simple.ImageStore 1 2 None 3, 5)
store_without_layer = refl

-- `let e9 = atomicCompareExchangeWeak(e4, e3, e7);`
exchange : simple_at (Head 13 ∷ Plain 7 ∷ Use 3 ∷ Use 4 ∷ Use 7 ∷ Give 9 ∷ []) ≡ Some (simple.Atomic 7 (Some 3) 4 7 (Some 9), 6)
exchange = refl

-- `let e9 = f2(e4, e7);`
call_with_result : simple_at (Head 16 ∷ Callee 2 ∷ Use 4 ∷ Use 7 ∷ GiveCall 2 9 ∷ []) ≡ Some (simple.Call 2 2 (Some 9), 5)
call_with_result = refl

-- `f2(e4); return e4;`
call_without_result : simple_at (Head 16 ∷ Callee 2 ∷ Use 4 ∷ Absent ∷ At undefined ∷ Head 10 ∷ Use 4 ∷ []) ≡ Some (simple.Call 2 1 None, 4)
call_without_result = refl

-- `let e9 = subgroupBallot();`
ballot : simple_at (Head 18 ∷ Give 9 ∷ Absent ∷ []) ≡ Some (simple.Ballot 9 None, 3)
ballot = refl

-- `if e3 { }`
an_if_has_blocks : simple_at (Head 2 ∷ Use 3 ∷ Open ∷ Close ∷ Open ∷ Close ∷ []) ≡ None
an_if_has_blocks = refl

no_operands : simple_at (Head 11 ∷ []) ≡ None
no_operands = refl
