-- Maps of handles, ranges and spans, and how they rename expressions, items and bodies.
use Rattle.std.specs.Prelude.{ℕ, map, Option, Some, None, option_map}
use Rattle.naga_oil_ir.specs.Parts.{Parts}
use Rattle.naga_oil_ir.specs.Rows.{Row, Text}
use Rattle.naga_oil_ir.specs.Body.{Tokens}
use Rattle.naga_oil_ir.specs.declared.parts.Named.{Named}
use Rattle.naga_oil_ir.specs.declared.parts.Named.TheVariants.{Nothing, TypeOf, ConstantAt, OverrideAt, GlobalAt, LocalAt, ArgumentAt, FunctionAt}
use Rattle.naga_oil_ir.specs.declared.names.ItemPlace.{ItemPlace}
use Rattle.naga_oil_ir.specs.declared.names.ItemPlace.TheVariants.{TypeItem, ConstantItem, OverrideItem, GlobalItem, ExpressionItem}
use Rattle.naga_oil_ir.specs.declared.span.Span.{Span}
use Rattle.naga_oil_ir.specs.declared.tokens.Token.{Token}
use Rattle.naga_oil_ir.specs.declared.tokens.Token.TheVariants.{At, Head, Plain, Flag, Absent, Use, Give, GiveCall, Emitted, Callee, Open, Close}

-- the maps of handles, emitted ranges and spans
pub record Renames : Type 0 where
  pub ty : ℕ → ℕ
  pub constant : ℕ → ℕ
  pub pipeline_override : ℕ → ℕ
  pub global : ℕ → ℕ
  pub function : ℕ → ℕ
  pub expression : ℕ → ℕ
  pub range : ℕ × ℕ → ℕ × ℕ
  pub span : Span → Span

-- what an expression names, renamed; locals and arguments stay
abbrev pub rename_named : Renames → Named → Named
rename_named r Nothing = Nothing
rename_named r (TypeOf h) = TypeOf (r.ty h)
rename_named r (ConstantAt h) = ConstantAt (r.constant h)
rename_named r (OverrideAt h) = OverrideAt (r.pipeline_override h)
rename_named r (GlobalAt h) = GlobalAt (r.global h)
rename_named r (LocalAt h) = LocalAt h
rename_named r (ArgumentAt n) = ArgumentAt n
rename_named r (FunctionAt h) = FunctionAt (r.function h)

-- the parts of an expression, renamed
abbrev pub rename : Renames → Parts → Parts
rename r p = record {
  kind = p.kind;
  plain = p.plain;
  named = rename_named r p.named;
  operands = map (option_map r.expression) p.operands;
}

-- the place of an item, renamed
abbrev pub rename_place : Renames → ItemPlace → ItemPlace
rename_place r (TypeItem h) = TypeItem (r.ty h)
rename_place r (ConstantItem h) = ConstantItem (r.constant h)
rename_place r (OverrideItem h) = OverrideItem (r.pipeline_override h)
rename_place r (GlobalItem h) = GlobalItem (r.global h)
rename_place r (ExpressionItem h) = ExpressionItem (r.expression h)

-- the row of an item, renamed
abbrev pub rename_row : Renames → Row → Row
rename_row r w = record { label = w.label; names = map (option_map (rename_place r)) w.names }

-- a row with another name, if one is given
abbrev pub under_name : Option Text → Row → Row
under_name None r = r
under_name (Some n) r = record { label = record { kind = r.label.kind; name = n; plain = r.label.plain; members = r.label.members }; names = r.names }

-- a token of a body, renamed
abbrev pub rename_token : Renames → Token → Token
rename_token r (At s) = At (r.span s)
rename_token r (Head k) = Head k
rename_token r (Plain c) = Plain c
rename_token r (Flag b) = Flag b
rename_token r Absent = Absent
rename_token r (Use h) = Use (r.expression h)
rename_token r (Give h) = Give (r.expression h)
rename_token r (GiveCall f h) = GiveCall (r.function f) (r.expression h)
rename_token r (Emitted e) = Emitted (r.range e)
rename_token r (Callee f) = Callee (r.function f)
rename_token r Open = Open
rename_token r Close = Close

-- a body, renamed
abbrev pub rename_tokens : Renames → Tokens → Tokens
rename_tokens r ts = map (rename_token r) ts
