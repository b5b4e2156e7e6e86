-- One renaming after another.
use Rattle.std.proofs.Common.{◌≡◌, ℕ, List, [], ◌∷◌, map, Option, Some, None, option_map, refl, ap, ◌∙◌}
use Rattle.naga_oil_ir.specs.Body.{Tokens}
use Rattle.naga_oil_ir.specs.ModuleValue.{ArgumentValue, LocalValue}
use Rattle.naga_oil_ir.specs.Parts.{Parts, expr}
use Rattle.naga_oil_ir.specs.declared.module.FunctionResult.{FunctionResult}
use Rattle.naga_oil_ir.specs.declared.parts.Named.{Named}
use Rattle.naga_oil_ir.specs.declared.parts.Named.TheVariants.{Nothing, TypeOf, ConstantAt, OverrideAt, GlobalAt, LocalAt, ArgumentAt, FunctionAt}
use Rattle.naga_oil_ir.specs.declared.span.Span.{Span}
use Rattle.naga_oil_ir.specs.declared.tokens.Token.{Token}
use Rattle.naga_oil_ir.specs.declared.tokens.Token.TheVariants.{At, Head, Plain, Flag, Absent, Use, Give, GiveCall, Emitted, Callee, Open, Close}
use Rattle.naga_oil_derive.specs.Functions.{argument_under, result_under, local_under}
use Rattle.naga_oil_rename.specs.Renames.{Renames, rename_named, rename, rename_token, rename_tokens}

-- what is renamed by c, and then by d
abbrev pub after : Renames → Renames → Renames
after d c = record {
  ty = λ h. d.ty (c.ty h);
  constant = λ h. d.constant (c.constant h);
  pipeline_override = λ h. d.pipeline_override (c.pipeline_override h);
  global = λ h. d.global (c.global h);
  function = λ h. d.function (c.function h);
  expression = λ h. d.expression (c.expression h);
  range = λ r. d.range (c.range r);
  span = λ s. d.span (c.span s);
}

-- nothing is renamed
abbrev pub unchanged : Renames
unchanged = record { ty = λ h. h; constant = λ h. h; pipeline_override = λ h. h; global = λ h. h; function = λ h. h; expression = λ h. h; range = λ r. r; span = λ s. s }

-- ---- lists and options

pub map-after : {A B C : Type 0} (f : B → C) (g : A → B) (k : A → C) → ((x : A) → f (g x) ≡ k x) → (xs : List A) → map f (map g xs) ≡ map k xs
map-after f g k e [] = refl
map-after f g k e (x ∷ xs) = ap (λ y. y ∷ map f (map g xs)) (e x) ∙ ap (λ ys. k x ∷ ys) (map-after f g k e xs)

pub map-same : {A : Type 0} (f : A → A) → ((x : A) → f x ≡ x) → (xs : List A) → map f xs ≡ xs
map-same f e [] = refl
map-same f e (x ∷ xs) = ap (λ y. y ∷ map f xs) (e x) ∙ ap (λ ys. x ∷ ys) (map-same f e xs)

pub option-after : {A B C : Type 0} (f : B → C) (g : A → B) (o : Option A) → option_map f (option_map g o) ≡ option_map (λ x. f (g x)) o
option-after f g None = refl
option-after f g (Some x) = refl

pub option-same : {A : Type 0} (o : Option A) → option_map (λ x. x) o ≡ o
option-same None = refl
option-same (Some x) = refl

-- ---- the parts of a function

named-after : (d c : Renames) (n : Named) → rename_named d (rename_named c n) ≡ rename_named (after d c) n
named-after d c Nothing = refl
named-after d c (TypeOf h) = refl
named-after d c (ConstantAt h) = refl
named-after d c (OverrideAt h) = refl
named-after d c (GlobalAt h) = refl
named-after d c (LocalAt h) = refl
named-after d c (ArgumentAt n) = refl
named-after d c (FunctionAt h) = refl

pub parts-after : (d c : Renames) (p : Parts) → rename d (rename c p) ≡ rename (after d c) p
parts-after d c p =
    ap (λ n. expr p.kind p.plain n (map (option_map d.expression) (map (option_map c.expression) p.operands))) (named-after d c p.named) ∙ ap (λ o. expr p.kind p.plain (rename_named (after d c) p.named) o) (map-after (option_map d.expression) (option_map c.expression) (option_map (after d c).expression) (option-after d.expression c.expression) p.operands)

named-same : (n : Named) → rename_named unchanged n ≡ n
named-same Nothing = refl
named-same (TypeOf h) = refl
named-same (ConstantAt h) = refl
named-same (OverrideAt h) = refl
named-same (GlobalAt h) = refl
named-same (LocalAt h) = refl
named-same (ArgumentAt n) = refl
named-same (FunctionAt h) = refl

pub parts-same : (p : Parts) → rename unchanged p ≡ p
parts-same p =
    ap (λ n. expr p.kind p.plain n (map (option_map (λ h. h)) p.operands)) (named-same p.named) ∙ ap (expr p.kind p.plain p.named) (map-same (option_map (λ h. h)) option-same p.operands)

token-after : (d c : Renames) (t : Token) → rename_token d (rename_token c t) ≡ rename_token (after d c) t
token-after d c (At s) = refl
token-after d c (Head k) = refl
token-after d c (Plain n) = refl
token-after d c (Flag b) = refl
token-after d c Absent = refl
token-after d c (Use h) = refl
token-after d c (Give h) = refl
token-after d c (GiveCall f h) = refl
token-after d c (Emitted r) = refl
token-after d c (Callee f) = refl
token-after d c Open = refl
token-after d c Close = refl

pub tokens-after : (d c : Renames) (ts : Tokens) → rename_tokens d (rename_tokens c ts) ≡ rename_tokens (after d c) ts
tokens-after d c ts = map-after (rename_token d) (rename_token c) (rename_token (after d c)) (token-after d c) ts

token-same : (t : Token) → rename_token unchanged t ≡ t
token-same (At s) = refl
token-same (Head k) = refl
token-same (Plain n) = refl
token-same (Flag b) = refl
token-same Absent = refl
token-same (Use h) = refl
token-same (Give h) = refl
token-same (GiveCall f h) = refl
token-same (Emitted r) = refl
token-same (Callee f) = refl
token-same Open = refl
token-same Close = refl

pub tokens-same : (ts : Tokens) → rename_tokens unchanged ts ≡ ts
tokens-same ts = map-same (rename_token unchanged) token-same ts

pub arguments-after : (d c : Renames) (xs : List ArgumentValue) → map (argument_under d) (map (argument_under c) xs) ≡ map (argument_under (after d c)) xs
arguments-after d c xs = map-after (argument_under d) (argument_under c) (argument_under (after d c)) (λ x. refl) xs

pub result-after : (d c : Renames) (o : Option FunctionResult) → option_map (result_under d) (option_map (result_under c) o) ≡ option_map (result_under (after d c)) o
result-after d c None = refl
result-after d c (Some x) = refl

abbrev local_with : LocalValue → (ty : ℕ) → Span → Option ℕ → LocalValue × Span
local_with l t s o = (record { name = l.name; ty = t; init = o }, s)

pub locals-after : (d c : Renames) (xs : List (LocalValue × Span)) → map (local_under d) (map (local_under c) xs) ≡ map (local_under (after d c)) xs
locals-after d c xs = map-after (local_under d) (local_under c) (local_under (after d c)) (λ x. ap (local_with x.0 (d.ty (c.ty x.0.ty)) (d.span (c.span x.1))) (option-after d.expression c.expression x.0.init)) xs

pub locals-same : (xs : List (LocalValue × Span)) → map (local_under unchanged) xs ≡ xs
locals-same xs = map-same (local_under unchanged) (λ x. ap (local_with x.0 x.0.ty x.1) (option-same x.0.init)) xs
