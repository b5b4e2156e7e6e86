-- Types and bodies that are seen as values.
use Rattle.std.proofs.Common.{◌≡◌, ℕ, zero, suc, ◌+◌, ◌≤◌, Bool, true, false, ◌&&◌, eqb, reverse, List, [], ◌∷◌, ◌++◌, length, map, drop, replicate, Option, Some, None, IsSome, option_map, Result, Ok, Err, refl, sym, ap, subst, ◌∙◌, arith, cond, codes, if◌then◌else◌}
use Rattle.std.specs.Option.{IfSome}
use Rattle.std.proofs.Math.Seq.{drop-length}
use Rattle.std.proofs.lemmas.Option.{none-some, same_Some}
use Rattle.std.specs.List.{flat_map}
use Rattle.std.proofs.lemmas.Bool.Decides.{nat_tests}
use Rattle.std.proofs.lemmas.List.{append_assoc, append-nil}
use Rattle.naga_oil_ir.specs.Body.{block_tokens, spanned_tokens}
use Rattle.naga_oil_ir.specs.Rows.{Row, type_row}
use Rattle.naga_oil_ir.specs.declared.span.Span.{Span}
use Rattle.naga_oil_ir.specs.declared.statement.Block.{Block, out-Block}
use Rattle.naga_oil_ir.specs.declared.statement.Statement.{Statement}
use Rattle.naga_oil_ir.specs.declared.types.Type.{«Type» as TypeItself}
use Rattle.naga_oil_ir.proofs.BodyLemmas.{block_tokens-out}
use Rattle.naga_oil_ir.specs.ModuleValue.{FunctionValue, ModuleValue}
use Rattle.naga_oil_mini_writer.specs.NotWritten.{Lacks, Becomes, Writes}
use Rattle.naga_oil_words.specs.OptionSteps.{◌>>=◌}
use Rattle.naga_oil_ir.specs.Body.{Tokens}
use Rattle.naga_oil_mini_symbols.specs.Symbols.{Symbol}
use Rattle.naga_oil_mini_writer.specs.BodyReader.{NamedInitialiser, context, end_of}
use Rattle.naga_oil_mini_writer.specs.Order.{anywhere, greatest_count, has_order}
use Rattle.naga_oil_mini_writer.specs.declared.order.Items.{Items}
use Rattle.naga_oil_mini_writer.specs.declared.order.Room.{Room}
use Rattle.naga_oil_mini_writer.specs.Writer.{when, fits_types, is_scalar, is_empty, is_plain_function, valid_name, cons_some, parameter_words, parameters_text, body_words, with_header, body_text, body_line, header_text, function_text, Lines, following, before, functions_text, functions_after, stub_text, counted, one_more, stubs_text, function_words, entries_text, is_plain_module, ends_with_stubs, begin_text, items_text, rest_text, module_text, local_words, opening, symbols_text, end_text}
use Rattle.naga_oil_mini_writer.proofs.OrderLemmas.{anywhere_has_order}
use Rattle.naga_oil_mini_writer.specs.declared.not_written.NotWritten.{NotWritten}
use Rattle.naga_oil_mini_writer.specs.declared.not_written.NotWritten.TheVariants.{NotInMini, Memory}

-- types alone
abbrev pub fits : Bool → List TypeItself → Bool
fits b [] = b
fits b (t ∷ []) = is_scalar (type_row t)
fits b (t ∷ u ∷ ts) = false

pub fits_types_value : (b : Bool) (ts : List (TypeItself × Span)) → fits_types b (map {A = TypeItself × Span} {B = Row × Span} (λ e. (type_row e.0, e.1)) ts) ≡ fits b (map {A = TypeItself × Span} {B = TypeItself} (λ e. e.0) ts)
fits_types_value b [] = refl
fits_types_value b (t ∷ []) = refl
fits_types_value b (t ∷ u ∷ ts) = refl

above_none : (n : ℕ) → eqb (suc n) 0 ≡ false
above_none n = grind (arith, nat_tests)

pub has_none : {A : Type 0} (xs : List A) → is_empty xs ≡ true → xs ≡ []
has_none [] e = refl
has_none (x ∷ xs) e = let other : false ≡ true = sym (above_none (length xs)) ∙ e in cc

no_statements : (ss : List (Statement × Span)) → eqb (length (flat_map spanned_tokens ss)) 0 ≡ eqb (length ss) 0
no_statements [] = refl
no_statements (s ∷ ss) = above_none _ ∙ sym (above_none (length ss))

-- a body has no tokens where it has no statements
pub block_is_empty : (b : Block) → eqb (length (block_tokens b)) 0 ≡ eqb (length (out-Block b).body.items) 0
block_is_empty b = ap (λ ts. eqb (length ts) 0) (block_tokens-out b) ∙ no_statements (out-Block b).body.items

no_text : (i : Items) (ps : List (List ℕ)) (f : FunctionValue) (ts : Tokens) → is_empty ts ≡ true → body_text i ps f ts ≡ when (is_empty f.local_variables) (10 ∷ [], anywhere)
no_text i ps f [] e = refl
no_text i ps f (t ∷ ts) e = let other : false ≡ true = sym (above_none (length ts)) ∙ e in cc

-- the text after the header where there is no body
pub no_body : (i : Items) (ps : List (List ℕ)) (f : FunctionValue) → is_empty f.body ≡ true → is_plain_function f ≡ true → body_line i ps f ≡ when (is_empty f.local_variables) (10 ∷ [], anywhere)
unfolding body_line
no_body i ps f none plain = rw plain (no_text i ps f f.body none)

-- and where there is one
pub some_body : (i : Items) (ps : List (List ℕ)) (f : FunctionValue) → is_empty f.body ≡ false → is_plain_function f ≡ true → body_line i ps f ≡ end_text i ps f (reverse f.body)
unfolding body_line
some_body i ps f some plain = rw plain (by f.body some)
  where
    by : (ts : Tokens) → is_empty ts ≡ false → body_text i ps f ts ≡ end_text i ps f (reverse ts)
    by [] e = let other : true ≡ false = e in cc
    by (t ∷ ts) e = refl

-- ---- parameters
-- parameters after the first, each after its `, `
abbrev pub past_first : List ℕ → Option (List (List ℕ)) → Option (List ℕ)
past_first text o = option_map (λ ps. text ++ flat_map (λ p. codes ", " ++ p) ps) o

pub first_parameter : (text more w : List ℕ) (o : Option (List (List ℕ))) → more ≡ text ++ w → past_first more o ≡ option_map (λ ps. text ++ parameters_text ps) (cons_some (Some w) o)
first_parameter text more w None e = refl
first_parameter text more w (Some ps) e = let rest = flat_map (λ (p : List ℕ). codes ", " ++ p) ps in ap Some (ap (λ t. t ++ rest) e ∙ append_assoc text w rest)

pub next_parameter : (text more w : List ℕ) (o : Option (List (List ℕ))) → more ≡ (text ++ codes ", ") ++ w → past_first more o ≡ past_first text (cons_some (Some w) o)
next_parameter text more w None e = refl
next_parameter text more w (Some ps) e =
    let rest = flat_map (λ (p : List ℕ). codes ", " ++ p) ps in
    ap Some (ap (λ t. t ++ rest) e ∙ append_assoc (text ++ codes ", ") w rest ∙ append_assoc text (codes ", ") (w ++ rest) ∙ ap (λ t. text ++ t) (sym (append_assoc (codes ", ") w rest)))

pub last_parameter : (text : List ℕ) → past_first text (Some []) ≡ Some text
last_parameter text = ap Some (append-nil text)

-- a parameter that can't be written
pub parameter_lacks : (text : List ℕ) (o : Option (List ℕ)) (os : Option (List (List ℕ))) (e : NotWritten) → Lacks e o → Lacks e (past_first text (cons_some o os))
parameter_lacks text o os NotInMini h = ap (λ p. past_first text (cons_some p os)) h
parameter_lacks text o os Memory h = tt

-- ---- a function's line
-- no body uses no parameters
body_same : (i : Items) (f : FunctionValue) (ps qs : List (List ℕ)) (ts : Tokens) → (if is_empty ts then Some [] else Some ps) ≡ Some qs
    → (if is_plain_function f then body_text i qs f ts else None) ≡ (if is_plain_function f then body_text i ps f ts else None)
body_same i f ps qs [] e = refl
body_same i f ps qs (t ∷ ts) e =
    let same : ps ≡ qs = let some : Some ps ≡ Some qs = sym (ap (λ b. cond b (Some []) (Some ps)) (above_none (length ts))) ∙ e in cc in
    ap (λ l. cond (is_plain_function f) (body_text i l f (t ∷ ts)) None) (sym same)

-- the header of a function is written, and its body after it
module _ (i : Items) (f : FunctionValue) (n : List ℕ) (named : valid_name f.name ≡ Some n) (qs : List (List ℕ)) (used : body_words f ≡ Some qs) (old mid new : List ℕ) (header : with_header old n f.arguments ≡ Some mid) where
  abbrev line_of : List (List ℕ) → Option (List ℕ × Room) → Option (List ℕ × Room)
  line_of ps o = o >>= λ b. Some (header_text n ps ++ b.0, b.1)

  is_line : (ps : List (List ℕ)) → parameter_words f.arguments ≡ Some ps → function_text i f ≡ line_of ps (body_line i qs f)
  unfolding function_text body_line
  is_line ps words =
      let same = body_same i f ps qs f.body (ap (λ o. cond (is_empty f.body) (Some []) o) (sym words) ∙ used) in
      rw (named, words) (ap (line_of ps) (sym same))

  written : (ps : List (List ℕ)) → parameter_words f.arguments ≡ Some ps → mid ≡ old ++ header_text n ps → (r : Result Room NotWritten) → Writes (λ r. r) r (body_line i qs f) mid new → Writes (λ r. r) r (function_text i f) old new
  written ps words is (Ok room) w =
      (header_text n ps ++ w.0, is_line ps words ∙ ap (line_of ps) w.1, w.2 ∙ ap (λ t. t ++ w.0) is ∙ append_assoc old (header_text n ps) w.0)
  written ps words is (Err NotInMini) w = is_line ps words ∙ ap (line_of ps) w
  written ps words is (Err Memory) w = w

  pub line_written : (r : Result Room NotWritten) → Writes (λ r. r) r (body_line i qs f) mid new → Writes (λ r. r) r (function_text i f) old new
  line_written r w = by (parameter_words f.arguments) refl header
    where
      by : (o : Option (List (List ℕ))) → parameter_words f.arguments ≡ o → option_map (λ ps. old ++ header_text n ps) o ≡ Some mid → Writes (λ r. r) r (function_text i f) old new
      by None words e = absurd (let no : None ≡ Some mid = e in cc)
      by (Some ps) words e = written ps words (let same : Some (old ++ header_text n ps) ≡ Some mid = e in cc) r w

-- ---- locals and a sum

-- locals and a sum are read, with the names of locals apart
pub end_written : (i : Items) (ps : List (List ℕ)) (f : FunctionValue) (ts : Tokens) (ls : List NamedInitialiser) (ns : List (List ℕ)) (ss : List Symbol) (room : Room)
    → local_words f.local_variables ≡ Some ls → ns ≡ map (λ l. l.0) ls
    → end_of (record { expressions = f.expressions; names = record { parameters = ps; locals = ns }; items = i }) ls ts ≡ Some (ss, room)
    → end_text i ps f ts ≡ Some (opening ls ++ symbols_text ss ++ 10 ∷ [], room)
end_written i ps f ts ls ns ss room words named read =
    let with_names = λ (l : List (List ℕ)). end_of (record { expressions = f.expressions; names = record { parameters = ps; locals = l }; items = i }) ls ts in
    let known : end_of (context f.expressions ps ls i) ls ts ≡ Some (ss, room) = sym (ap with_names named) ∙ read in
    rw (words, known) refl

-- names of all functions are names of the last ones
pub named_after : (n : ℕ) (fs : List (FunctionValue × Span)) → IsSome (function_words fs) → IsSome (function_words (drop n fs))
named_after zero fs h = h
named_after (suc n) [] h = h
named_after (suc n) (f ∷ fs) h = named_after n fs (rest (valid_name f.0.name) (function_words fs) h)
  where
    rest : (o : Option (List ℕ)) (os : Option (List (List ℕ))) → IsSome (cons_some o os) → IsSome os
    rest None os h = let no : false ≡ true = h in cc
    rest (Some n) None h = let no : false ≡ true = h in cc
    rest (Some n) (Some ns) h = refl

-- ---- stubs
-- a line after its header
abbrev pub headed : List ℕ → List (List ℕ) → List ℕ × Room → Option (List ℕ × Room)
headed n ps b = Some (header_text n ps ++ b.0, b.1)

stub_parts : (on : Option (List ℕ)) (ops : Option (List (List ℕ))) (plain none : Bool)
    → (on >>= λ n. ops >>= λ ps. cond plain (when {A = List ℕ × Room} none (10 ∷ [], anywhere)) None >>= headed n ps)
    ≡ option_map (λ t. (t, anywhere)) (on >>= λ n. ops >>= λ ps. when (plain && none) (header_text n ps ++ 10 ∷ []))
stub_parts None ops plain none = refl
stub_parts (Some n) None plain none = refl
stub_parts (Some n) (Some ps) false none = refl
stub_parts (Some n) (Some ps) true false = refl
stub_parts (Some n) (Some ps) true true = refl

-- without body a function's line is a stub's, whatever the items
pub stub_line : (i : Items) (f : FunctionValue) → is_empty f.body ≡ true → function_text i f ≡ option_map (λ t. (t, anywhere)) (stub_text f)
unfolding function_text stub_text body_line
stub_line i f none =
    ap (λ (body : List (List ℕ) → Option (List ℕ × Room)). valid_name f.name >>= λ n. parameter_words f.arguments >>= λ ps. cond (is_plain_function f) (body ps) None >>= headed n ps) (λ j ps. no_text i ps f f.body none j)
    ∙ stub_parts (valid_name f.name) (parameter_words f.arguments) (is_plain_function f) (is_empty f.local_variables)

-- what is written as a function's line is a stub's
becomes_stub : (o : Option (List ℕ)) (old new : List ℕ) (r : Result Room NotWritten) → Writes (λ r. r) r (option_map (λ t. (t, anywhere)) o) old new → Becomes r (option_map (λ t. old ++ t) o) new
becomes_stub None old new (Ok room) w = absurd (none-some (w.0, room) w.1)
becomes_stub (Some t) old new (Ok room) w = ap (λ l. Some (old ++ l.0)) (same_Some (t, anywhere) (w.0, room) w.1) ∙ ap Some (sym w.2)
becomes_stub None old new (Err NotInMini) w = refl
becomes_stub (Some t) old new (Err NotInMini) w = absurd (none-some (t, anywhere) (sym w))
becomes_stub o old new (Err Memory) w = tt

pub stub_written : (i : Items) (f : FunctionValue) (old new : List ℕ) → is_empty f.body ≡ true → (r : Result Room NotWritten) → Writes (λ r. r) r (function_text i f) old new → Becomes r (option_map (λ t. old ++ t) (stub_text f)) new
stub_written i f old new none r w = becomes_stub (stub_text f) old new r (subst (λ o. Writes (λ r. r) r o old new) (stub_line i f none) w)

-- ---- stubs that stand first
pub stubs_end : (f : FunctionValue × Span) (fs : List (FunctionValue × Span)) → is_empty f.0.body ≡ false → stubs_text (f ∷ fs) ≡ Some ([], 0)
stubs_end f fs some = ap (λ b. cond b (one_more (stub_text f.0) (stubs_text fs)) (Some ([], 0))) some

pub stubs_more : (f : FunctionValue × Span) (fs : List (FunctionValue × Span)) → is_empty f.0.body ≡ true → stubs_text (f ∷ fs) ≡ one_more (stub_text f.0) (stubs_text fs)
stubs_more f fs none = ap (λ b. cond b (one_more (stub_text f.0) (stubs_text fs)) (Some ([], 0))) none

-- no more stubs stand first than there are functions
pub stubs_within : (fs : List (FunctionValue × Span)) → IfSome (stubs_text fs) (λ s. s.1 ≤ length fs)
stubs_within [] = omega arith
stubs_within (f ∷ fs) = by (is_empty f.0.body) (stub_text f.0) (stubs_text fs) (stubs_within fs)
  where
    by : (b : Bool) (o : Option (List ℕ)) (os : Option (List ℕ × ℕ)) → IfSome os (λ s. s.1 ≤ length fs) → IfSome (cond b (one_more o os) (Some ([], 0))) (λ s. s.1 ≤ suc (length fs))
    by false o os h = omega arith
    by true None os h = tt
    by true (Some t) None h = tt
    by true (Some t) (Some s) h = let more : s.1 ≤ length fs = h in omega arith

-- a stub is written after others
pub next_stub : (text new : List ℕ) (n : ℕ) (o : Option (List ℕ)) (os : Option (List ℕ × ℕ)) → option_map (λ t. text ++ t) o ≡ Some new → option_map (counted (new, n + 1)) os ≡ option_map (counted (text, n)) (one_more o os)
next_stub text new n None os e = absurd (none-some new e)
next_stub text new n (Some t) None e = refl
next_stub text new n (Some t) (Some s) e =
    let count : n + 1 + s.1 ≡ n + (1 + s.1) = omega arith in
    ap (λ k. Some (new ++ s.0, k)) count ∙ ap (λ u. Some (u, n + (1 + s.1))) (ap (λ u. u ++ s.0) (sym (same_Some (text ++ t) new e)) ∙ append_assoc text t s.0)

-- a stub that can't be written
pub stub_lacks : (text old : List ℕ) (n : ℕ) (o : Option (List ℕ)) (os whole : Option (List ℕ × ℕ)) → option_map (counted (text, n)) (one_more o os) ≡ option_map (counted (old, 0)) whole → (e : NotWritten) → Lacks e (option_map (λ t. text ++ t) o) → Lacks e whole
stub_lacks text old n o os whole h Memory l = tt
stub_lacks text old n (Some t) os whole h NotInMini l = absurd (none-some (text ++ t) (sym l))
stub_lacks text old n None os None h NotInMini l = refl
stub_lacks text old n None os (Some s) h NotInMini l = absurd (none-some (old ++ s.0, 0 + s.1) h)

nothing_after : (o : Option (Lines Room)) → option_map (following ([], [])) o ≡ o
nothing_after None = refl
nothing_after (Some r) = refl

one_after : (t u : List ℕ) (n : ℕ) (o : Option (Lines Room)) → option_map (following (t, anywhere ∷ [])) (option_map (following (u, replicate n anywhere)) o) ≡ option_map (following (t ++ u, replicate (suc n) anywhere)) o
one_after t u n None = refl
one_after t u n (Some r) = ap (λ x. Some (x, anywhere ∷ (replicate n anywhere ++ r.1))) (sym (append_assoc t u r.0))

-- the lines of functions after those of stubs
abbrev pub after_stubs : Items → List (FunctionValue × Span) → Option (List ℕ × ℕ) → Option (Lines Room)
after_stubs i fs o = o >>= λ s. option_map (following (s.0, replicate s.1 anywhere)) (functions_text i (drop s.1 fs))

stub_after : (i : Items) (f : FunctionValue × Span) (fs : List (FunctionValue × Span)) (o : Option (List ℕ)) (os : Option (List ℕ × ℕ)) → before (option_map (λ t. (t, anywhere)) o) (after_stubs i fs os) ≡ after_stubs i (f ∷ fs) (one_more o os)
stub_after i f fs None os = refl
stub_after i f fs (Some t) None = refl
stub_after i f fs (Some t) (Some s) =
    let next : suc s.1 ≡ 1 + s.1 = omega arith in
    one_after t s.0 s.1 (functions_text i (drop s.1 fs)) ∙ ap (λ n. option_map (following (t ++ s.0, replicate n anywhere)) (functions_text i (drop n (f ∷ fs)))) next

stubs_first : (i : Items) (fs : List (FunctionValue × Span)) → functions_text i fs ≡ after_stubs i fs (stubs_text fs)
stubs_first i [] = refl
stubs_first i (f ∷ fs) = by (is_empty f.0.body) refl (stubs_first i fs)
  where
    by : (b : Bool) → is_empty f.0.body ≡ b → functions_text i fs ≡ after_stubs i fs (stubs_text fs) → functions_text i (f ∷ fs) ≡ after_stubs i (f ∷ fs) (cond b (one_more (stub_text f.0) (stubs_text fs)) (Some ([], 0)))
    by false e rest = sym (nothing_after (functions_text i (f ∷ fs)))
    by true e rest = ap (λ l. before l (functions_text i fs)) (stub_line i f.0 e) ∙ ap (before (option_map (λ t. (t, anywhere)) (stub_text f.0))) rest ∙ stub_after i f fs (stub_text f.0) (stubs_text fs)

stub_name : (f : FunctionValue) (t : List ℕ) → stub_text f ≡ Some t → IsSome (valid_name f.name)
unfolding stub_text
stub_name f t e = by (valid_name f.name) e
  where
    by : (o : Option (List ℕ)) → (o >>= λ n. parameter_words f.arguments >>= λ ps. when (is_plain_function f && is_empty f.local_variables) (header_text n ps ++ 10 ∷ [])) ≡ Some t → IsSome o
    by None h = absurd (none-some t h)
    by (Some n) h = refl

named_too : (o : Option (List ℕ)) (os : Option (List (List ℕ))) → IsSome o → IsSome os → IsSome (cons_some o os)
named_too None os h hs = h
named_too (Some n) None h hs = hs
named_too (Some n) (Some ns) h hs = refl

-- where all functions are stubs they have names
stubs_named : (fs : List (FunctionValue × Span)) (t : List ℕ) → stubs_text fs ≡ Some (t, length fs) → IsSome (function_words fs)
stubs_named [] t e = refl
stubs_named (f ∷ fs) t e = by (is_empty f.0.body) (stub_text f.0) (stubs_text fs) refl refl (stubs_named fs) e
  where
    by : (b : Bool) (o : Option (List ℕ)) (os : Option (List ℕ × ℕ)) → stub_text f.0 ≡ o → stubs_text fs ≡ os → ((u : List ℕ) → stubs_text fs ≡ Some (u, length fs) → IsSome (function_words fs)) → cond b (one_more o os) (Some ([], 0)) ≡ Some (t, suc (length fs))
        → IsSome (cons_some (valid_name f.0.name) (function_words fs))
    by false o os oe se rest h = absurd (let none : 0 ≡ suc (length fs) = ap (λ s. s.1) (same_Some ([], 0) (t, suc (length fs)) h) in omega arith)
    by true None os oe se rest h = absurd (none-some (t, suc (length fs)) h)
    by true (Some u) None oe se rest h = absurd (none-some (t, suc (length fs)) h)
    by true (Some u) (Some s) oe se rest h =
        let count : 1 + s.1 ≡ suc (length fs) = ap (λ s. s.1) (same_Some (u ++ s.0, 1 + s.1) (t, suc (length fs)) h) in
        let all : s.1 ≡ length fs = omega arith in
        named_too (valid_name f.0.name) (function_words fs) (stub_name f.0 u oe) (rest s.0 (se ∙ ap (λ n. Some (s.0, n)) all))

-- the lines after the first stubs, where names may be missing
abbrev pub rest_named : ModuleValue → Items → Option (List (List ℕ)) → ℕ → Option (List ℕ)
rest_named m i o n = do
  ns ← o
  fs ← functions_after (record i { functions = ns }) n (drop n m.functions)
  es ← entries_text (record i { functions = ns }) m.entry_points
  when (has_order fs.1 es.1) (fs.0 ++ es.0)

-- after stubs alone there is nothing
nothing_left : (i : Items) (m : ModuleValue) (t : List ℕ) (n : ℕ) → stubs_text m.functions ≡ Some (t, n) → ends_with_stubs m n ≡ true → n ≤ greatest_count → rest_text i m n ≡ Some []
unfolding rest_text
nothing_left i m t n first ends few = by (function_words m.functions) (stubs_named m.functions t (first ∙ ap (λ k. Some (t, k)) all))
  where
    all : n ≡ length m.functions
    all = grind (arith, nat_tests)

    no_entries : m.entry_points ≡ []
    no_entries = has_none m.entry_points (grind (arith, nat_tests))

    past : drop n m.functions ≡ []
    past = ap (λ k. drop k m.functions) all ∙ drop-length m.functions

    order : has_order (replicate n anywhere ++ []) [] ≡ true
    order = ap (λ rs. has_order rs []) (append-nil (replicate n anywhere)) ∙ anywhere_has_order n few

    by : (o : Option (List (List ℕ))) → IsSome o → rest_named m i o n ≡ Some []
    by None h = absurd (let other : false ≡ true = h in cc)
    by (Some ns) h = rw (past, no_entries, order) refl

-- ---- a module
-- items with names of functions
abbrev pub with_words : List ℕ × Items → List (List ℕ) → Option (List ℕ × Items)
with_words c ns = Some (c.0, record c.1 { functions = ns })

-- a text with the lines of functions and entry points after it
abbrev pub lines_after : ModuleValue → List ℕ → Items → Option (Lines Room) → Option (List ℕ)
lines_after m t i o = do
  fs ← o
  es ← entries_text i m.entry_points
  when (has_order fs.1 es.1) ((t ++ fs.0) ++ es.0)

-- the text of a module, with the functions that stand first without bodies apart
pub module_parts : (m : ModuleValue) → is_plain_module m ≡ true → module_text m ≡ (begin_text m >>= λ c. stubs_text m.functions >>= λ s. option_map (λ t. (c.0 ++ s.0) ++ t) (rest_text c.1 m s.1))
unfolding module_text items_text rest_text
module_parts m plain = rw plain (begin (begin_text m))
  where
    chosen : (b : Bool) (t s r e : List ℕ) → when b ((t ++ (s ++ r)) ++ e) ≡ option_map (λ u. (t ++ s) ++ u) (when b (r ++ e))
    chosen false t s r e = refl
    chosen true t s r e = ap Some (ap (λ u. u ++ e) (sym (append_assoc t s r)) ∙ append_assoc (t ++ s) r e)

    ending : (t s : List ℕ) (rs : List Room) (o : Option (Lines Room)) (os : Option (Lines Room))
        → (option_map (following (s, rs)) o >>= λ fs. os >>= λ es. when (has_order fs.1 es.1) ((t ++ fs.0) ++ es.0))
        ≡ option_map (λ u. (t ++ s) ++ u) (option_map (following ([], rs)) o >>= λ fs. os >>= λ es. when (has_order fs.1 es.1) (fs.0 ++ es.0))
    ending t s rs None os = refl
    ending t s rs (Some r) None = refl
    ending t s rs (Some r) (Some e) = chosen (has_order (rs ++ r.1) e.1) t s r.0 e.0

    stubs : (c : List ℕ × Items) (ns : List (List ℕ)) (o : Option (List ℕ × ℕ))
        → lines_after m c.0 (record c.1 { functions = ns }) (after_stubs (record c.1 { functions = ns }) m.functions o) ≡ (o >>= λ s. option_map (λ t. (c.0 ++ s.0) ++ t) (rest_named m c.1 (Some ns) s.1))
    stubs c ns None = refl
    stubs c ns (Some s) = ending c.0 s.0 (replicate s.1 anywhere) (functions_text (record c.1 { functions = ns }) (drop s.1 m.functions)) (entries_text (record c.1 { functions = ns }) m.entry_points)

    none : (t : List ℕ) (i : Items) (o : Option (List ℕ × ℕ)) → None ≡ (o >>= λ s. option_map (λ u. (t ++ s.0) ++ u) (rest_named m i None s.1))
    none t i None = refl
    none t i (Some s) = refl

    words : (c : List ℕ × Items) (o : Option (List (List ℕ)))
        → (o >>= λ ns. lines_after m c.0 (record c.1 { functions = ns }) (functions_text (record c.1 { functions = ns }) m.functions)) ≡ (stubs_text m.functions >>= λ s. option_map (λ t. (c.0 ++ s.0) ++ t) (rest_named m c.1 o s.1))
    words c None = none c.0 c.1 (stubs_text m.functions)
    words c (Some ns) = let i : Items = record c.1 { functions = ns } in ap (lines_after m c.0 i) (stubs_first i m.functions) ∙ stubs c ns (stubs_text m.functions)

    begin : (o : Option (List ℕ × Items))
        → ((o >>= λ c. function_words m.functions >>= λ ns. with_words c ns) >>= λ cs. lines_after m cs.0 cs.1 (functions_text cs.1 m.functions))
        ≡ (o >>= λ c. stubs_text m.functions >>= λ s. option_map (λ t. (c.0 ++ s.0) ++ t) (rest_named m c.1 (function_words m.functions) s.1))
    begin None = refl
    begin (Some c) = joined (function_words m.functions) ∙ words c (function_words m.functions)
      where
        joined : (o : Option (List (List ℕ)))
            → ((o >>= λ ns. with_words c ns) >>= λ cs. lines_after m cs.0 cs.1 (functions_text cs.1 m.functions))
            ≡ (o >>= λ ns. lines_after m c.0 (record c.1 { functions = ns }) (functions_text (record c.1 { functions = ns }) m.functions))
        joined None = refl
        joined (Some ns) = refl

-- a module whose first lines are known
pub module_told : (m : ModuleValue) (c : List ℕ × Items) (t : List ℕ) (n : ℕ) → is_plain_module m ≡ true → begin_text m ≡ Some c → stubs_text m.functions ≡ Some (t, n) → module_text m ≡ option_map (λ u. (c.0 ++ t) ++ u) (rest_text c.1 m n)
module_told m c t n plain begun first = module_parts m plain ∙ rw (begun, first) refl

-- a module of stubs alone
pub module_stubs : (m : ModuleValue) (c : List ℕ × Items) (t : List ℕ) (n : ℕ) → is_plain_module m ≡ true → begin_text m ≡ Some c → stubs_text m.functions ≡ Some (t, n) → ends_with_stubs m n ≡ true → n ≤ greatest_count → module_text m ≡ Some (c.0 ++ t)
module_stubs m c t n plain begun first ends few = module_told m c t n plain begun first ∙ ap (option_map (λ u. (c.0 ++ t) ++ u)) (nothing_left c.1 m t n first ends few) ∙ ap Some (append-nil (c.0 ++ t))

-- a module whose first lines can't be written
pub begin_lacks : (m : ModuleValue) → is_plain_module m ≡ true → (e : NotWritten) → Lacks e (begin_text m) → Lacks e (module_text m)
begin_lacks m plain Memory l = tt
begin_lacks m plain NotInMini l = module_parts m plain ∙ rw l refl

pub stubs_lack : (m : ModuleValue) → is_plain_module m ≡ true → (e : NotWritten) → Lacks e (stubs_text m.functions) → Lacks e (module_text m)
stubs_lack m plain Memory l = tt
stubs_lack m plain NotInMini l = module_parts m plain ∙ rw l (by (begin_text m))
  where
    by : (o : Option (List ℕ × Items)) → ◌≡◌ {A = Option (List ℕ)} (o >>= λ c. None) None
    by None = refl
    by (Some c) = refl
