use Rattle.std.proofs.Common.{List, sym, subst}
use Rattle.naga_oil_ir.specs.ModuleValue.{module_value}
use Rattle.naga_oil_ir.specs.declared.module.Function.{Function}
use Rattle.naga_oil_ir.specs.declared.span.Span.{Span}
use Rattle.naga_oil_redirect.specs.Level.{StayWithin}
use Rattle.naga_oil_redirect.specs.Ordered.{calls_of}
use Rattle.naga_oil_redirect.specs.Redirected.{function_values}
use Rattle.naga_oil_redirect.proofs.NamedCalls.{keeps_order}
use Rattle.naga_oil_redirect.proofs.RedirectForm.{stay_within}
use Rattle.naga_oil_redirect.proofs.TurnForm.{put_in_order_ok}
use Rattle.naga_oil_redirect.proofs.redirect.Redirector.into_module.Goals as goal

pub ordered-requires : goal.ordered-requires
ordered-requires c = subst (λ (fs : List (Function × Span)). StayWithin (calls_of (function_values fs))) (sym c.as_slice.ensures) (stay_within c.self.inside.module c.self.invariant)

pub returns-clause-order : goal.returns-clause-order
returns-clause-order c =
    put_in_order_ok c.self.inside.module c.in_ok-in_order.field-0 c.args.self c.as_slice.result.now c.in_ok-order.order.items c.deref.result.now c.self.view_is c.as_slice.ensures c.in_ok-order.ensures.order c.deref.ensures.value c.in_ok-in_order.ensures

pub returns-clause-chain : goal.returns-clause-chain
returns-clause-chain c =
    keeps_order c.self.inside.module c.args.self (module_value c.in_ok-in_order.field-0) c.self.invariant c.self.view_is (put_in_order_ok c.self.inside.module c.in_ok-in_order.field-0 c.args.self c.as_slice.result.now c.in_ok-order.order.items c.deref.result.now c.self.view_is c.as_slice.ensures c.in_ok-order.ensures.order c.deref.ensures.value c.in_ok-in_order.ensures)
