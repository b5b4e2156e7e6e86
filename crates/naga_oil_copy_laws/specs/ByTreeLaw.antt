-- Laws of copies by tree.
use Rattle.std.specs.Prelude.{ℕ, ◌≡◌, ◌<◌, length}
use Rattle.naga_oil_form.specs.BodyForm.{places}
use Rattle.naga_oil_form.specs.Links.{AreEarlier}
use Rattle.naga_oil_ir.specs.ModuleValue.{FunctionValue}
use Rattle.naga_oil_ir.specs.Rows.{Text}
use Rattle.naga_oil_ir.specs.declared.span.Span.{Span}
use Rattle.naga_oil_derive.specs.CopiedFunctionLaw.{EmitsAt}
use Rattle.naga_oil_derive.specs.Copies.{value_links}
use Rattle.naga_oil_derive.specs.Functions.{begun}
use Rattle.naga_oil_walk.specs.Walk.{others}
use Rattle.naga_oil_copy_laws.specs.Scope.{Scope}
use Rattle.naga_oil_copy_laws.specs.ByTree.{IsReached, HasNothingElse, CopiesByTree}

-- each operand stands before the expression that it belongs to
abbrev pub HasEarlierOperands : FunctionValue → Type 0
HasEarlierOperands f = AreEarlier (value_links f.expressions)

-- f is in the form of copies: each operand stands before its expression, what is reached is there, nothing is emitted that
-- initialisers reach, and there is nothing else
pub record IsAsCopied (f : FunctionValue) : Type 0 where
  pub earlier : HasEarlierOperands f
  pub there : (k : ℕ) → IsReached f k → k < length f.expressions
  pub apart : (i : ℕ) (p : ℕ × ℕ) → EmitsAt f i p → others (begun f) (places p) ≡ places p
  pub nothing_else : HasNothingElse f

-- LAW: a function in the form of copies is a copy of itself
abbrev pub ReflexiveLaw : Type 0
ReflexiveLaw = (a : Scope) (f : FunctionValue) → IsAsCopied f → CopiesByTree (λ s. s) (λ n. n) a f a f

-- LAW: a copy of a copy is a copy
abbrev pub ComposeLaw : Type 0
ComposeLaw = (m n : Span → Span) (p q : Text → Text) (a b c : Scope) (f g h : FunctionValue) →
    HasEarlierOperands f → HasEarlierOperands g →
    CopiesByTree m p a f b g → CopiesByTree n q b g c h →
    CopiesByTree (λ s. n (m s)) (λ t. q (p t)) a f c h

-- LAW: a copy is in the form of copies, if its operands stand before their expressions
abbrev pub AsCopiedLaw : Type 0
AsCopiedLaw = (m : Span → Span) (p : Text → Text) (a b : Scope) (f g : FunctionValue) →
    HasEarlierOperands f → HasEarlierOperands g → CopiesByTree m p a f b g → IsAsCopied g
