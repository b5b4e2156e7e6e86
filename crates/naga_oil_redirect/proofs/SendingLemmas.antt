-- Calls redirected to another function, by the kinds of statements.
use Rattle.std.proofs.Common.{◌≡◌, ◌∙◌, ℕ, ◌+◌, ◌<◌, List, [], ◌∷◌, ◌++◌, map, take, length, get_or, option_map, set, Option, Some, None, Vec, Global, refl, ap, sym, arith}
use Rattle.std.specs.List.{flat_map}
use Rattle.std.proofs.lemmas.List.{map-append, map-id, take_more, take_more_set}
use Rattle.std.proofs.lemmas.List.Concat.{flat_map-append}
use Rattle.naga_oil_ir.specs.Parts.{Parts, parts}
use Rattle.naga_oil_ir.specs.Body.{Tokens, inside, used, given_by, block_tokens, statement_tokens, case_tokens}
use Rattle.naga_oil_ir.specs.declared.tokens.Token.TheVariants.{Head, Use, Callee, Open, Close}
use Rattle.naga_oil_ir.specs.declared.statement.Block.{Block}
use Rattle.naga_oil_ir.specs.declared.statement.SwitchCase.{SwitchCase}
use Rattle.naga_oil_ir.specs.declared.statement.Statement.{Loop, Call, If, Switch, Block as Inner}
use Rattle.naga_oil_ir.specs.declared.expression.Expression.{Expression}
use Rattle.naga_oil_ir.specs.declared.expression.Expression.TheVariants.{CallResult}
use Rattle.naga_oil_ir.proofs.BodyLemmas.{switch_tokens}
use Rattle.naga_oil_rename.specs.Renames.{Renames, rename, rename_token, rename_tokens, rename_named}
use Rattle.naga_oil_redirect.specs.Redirected.{sent}
use Rattle.naga_oil_rename.proofs.RenamingLemmas.{map-Use-rename, loop_tokens, call_tokens, block_inside_tokens, if_tokens}

inside-rename : (r : Renames) (ts us : Tokens) → us ≡ rename_tokens r ts → inside us ≡ rename_tokens r (inside ts)
inside-rename r ts us e = ap inside e ∙ sym (map-append (rename_token r) (Open ∷ ts) (Close ∷ []))

pub sent_inner : (f t : ℕ) (a b : Block) → block_tokens a ≡ rename_tokens (sent f t) (block_tokens b) → statement_tokens (Inner a) ≡ rename_tokens (sent f t) (statement_tokens (Inner b))
sent_inner f t a b e =
    let r = sent f t in
    block_inside_tokens a ∙ ap (λ ts. Head 1 ∷ ts) (inside-rename r (block_tokens b) (block_tokens a) e) ∙ ap (rename_tokens r) (sym (block_inside_tokens b))

two-rename : (r : Renames) (ts us vs ws : Tokens) → us ≡ rename_tokens r ts → ws ≡ rename_tokens r vs → inside us ++ inside ws ≡ rename_tokens r (inside ts ++ inside vs)
two-rename r ts us vs ws e f =
    ap (λ xs. xs ++ inside ws) (inside-rename r ts us e) ∙ ap (λ xs. rename_tokens r (inside ts) ++ xs) (inside-rename r vs ws f) ∙ sym (map-append (rename_token r) (inside ts) (inside vs))

pub sent_if : (f t k : ℕ) (a b c d : Block) → block_tokens a ≡ rename_tokens (sent f t) (block_tokens b) → block_tokens c ≡ rename_tokens (sent f t) (block_tokens d) → statement_tokens (If k a c) ≡ rename_tokens (sent f t) (statement_tokens (If k b d))
sent_if f t k a b c d e g =
    let r = sent f t in
    if_tokens k a c ∙ ap (λ ts. Head 2 ∷ Use k ∷ ts) (two-rename r (block_tokens b) (block_tokens a) (block_tokens d) (block_tokens c) e g) ∙ ap (rename_tokens r) (sym (if_tokens k b d))

used-sent : (f t : ℕ) (k : Option ℕ) → rename_token (sent f t) (used k) ≡ used k
used-sent f t None = refl
used-sent f t (Some h) = refl

pub sent_loop : (f t : ℕ) (k : Option ℕ) (a b c d : Block) → block_tokens a ≡ rename_tokens (sent f t) (block_tokens b) → block_tokens c ≡ rename_tokens (sent f t) (block_tokens d) → statement_tokens (Loop a c k) ≡ rename_tokens (sent f t) (statement_tokens (Loop b d k))
sent_loop f t k a b c d e g =
    let r = sent f t in
    let both = two-rename r (block_tokens b) (block_tokens a) (block_tokens d) (block_tokens c) e g in
    let last = ap (λ u. rename_tokens r (inside (block_tokens b) ++ inside (block_tokens d)) ++ u ∷ []) (sym (used-sent f t k)) ∙ sym (map-append (rename_token r) (inside (block_tokens b) ++ inside (block_tokens d)) (used k ∷ [])) in
    loop_tokens a c k ∙ ap (λ ts. Head 4 ∷ (ts ++ used k ∷ [])) both ∙ ap (λ ts. Head 4 ∷ ts) last ∙ ap (rename_tokens r) (sym (loop_tokens b d k))

pub sent_switch : (f t h : ℕ) (cs ds : Vec SwitchCase Global) → flat_map case_tokens cs.items ≡ rename_tokens (sent f t) (flat_map case_tokens ds.items) → statement_tokens (Switch h cs) ≡ rename_tokens (sent f t) (statement_tokens (Switch h ds))
sent_switch f t h cs ds e =
    let r = sent f t in
    switch_tokens h cs ∙ ap (λ ts. Head 3 ∷ Use h ∷ ts) e ∙ ap (rename_tokens r) (sym (switch_tokens h ds))

given_by-sent : (f t g : ℕ) (k : Option ℕ) → rename_token (sent f t) (given_by g k) ≡ given_by ((sent f t).function g) k
given_by-sent f t g None = refl
given_by-sent f t g (Some h) = refl

pub sent_call : (f t g g' : ℕ) (hs : Vec ℕ Global) (k : Option ℕ) → g' ≡ (sent f t).function g → statement_tokens (Call g' hs k) ≡ rename_tokens (sent f t) (statement_tokens (Call g hs k))
sent_call f t g g' hs k e =
    let r = sent f t in
    let uses = ap (map Use) (sym (map-id hs.items)) ∙ map-Use-rename r hs.items in
    let last = ap (λ u. rename_tokens r (map Use hs.items) ++ u ∷ []) (sym (given_by-sent f t g k)) ∙ sym (map-append (rename_token r) (map Use hs.items) (given_by g k ∷ [])) in
    ap (λ n. statement_tokens (Call n hs k)) e ∙ call_tokens (r.function g) hs k ∙ ap (λ ts. Head 16 ∷ Callee (r.function g) ∷ (ts ++ given_by (r.function g) k ∷ [])) uses ∙ ap (λ ts. Head 16 ∷ Callee (r.function g) ∷ ts) last ∙ ap (rename_tokens r) (sym (call_tokens g hs k))

-- ---- one element more of a list that is written

pub sent_more : {X : Type 0} (tokens : X → Tokens) (r : Renames) (old now : List X) (i : ℕ) (x d : X) → i < length now → length now ≡ length old → tokens x ≡ rename_tokens r (tokens (get_or old i d)) → flat_map tokens (take i now) ≡ rename_tokens r (flat_map tokens (take i old)) → flat_map tokens (take (i + 1) (set now i x)) ≡ rename_tokens r (flat_map tokens (take (i + 1) old))
sent_more tokens r old now i x d h long e so_far =
    let front = ap (flat_map tokens) (take_more_set now i x h) ∙ flat_map-append tokens (take i now) (x ∷ []) in
    let joined = ap (λ ts. ts ++ flat_map tokens (x ∷ [])) so_far ∙ ap (λ ts. rename_tokens r (flat_map tokens (take i old)) ++ (ts ++ [])) e in
    let last = ap (λ ts. rename_tokens r (flat_map tokens (take i old)) ++ ts) (sym (map-append (rename_token r) (tokens (get_or old i d)) [])) ∙ sym (map-append (rename_token r) (flat_map tokens (take i old)) (flat_map tokens (get_or old i d ∷ []))) in
    front ∙ joined ∙ last ∙ ap (rename_tokens r) (sym (flat_map-append tokens (take i old) (get_or old i d ∷ [])) ∙ ap (flat_map tokens) (sym (take_more old i d (omega (arith, h, long)))))

-- ---- expressions

pub options-sent : (f t : ℕ) (os : List (Option ℕ)) → map (option_map (sent f t).expression) os ≡ os
options-sent f t [] = refl
options-sent f t (None ∷ os) = ap (λ xs. None ∷ xs) (options-sent f t os)
options-sent f t (Some h ∷ os) = ap (λ xs. Some h ∷ xs) (options-sent f t os)

rename-sent : (f t : ℕ) (p : Parts) → rename_named (sent f t) p.named ≡ p.named → p ≡ rename (sent f t) p
rename-sent f t p e = ap (λ n. record p { named = n }) (sym e) ∙ ap (λ os. record p { named = rename_named (sent f t) p.named; operands = os }) (sym (options-sent f t p.operands))

named-sent : (f t : ℕ) (e : Expression) → ((g : ℕ) → e ≡ CallResult g → ⊥) → rename_named (sent f t) (parts e).named ≡ (parts e).named
named-sent f t (CallResult g) h = absurd (h g refl)
named-sent f t _ h = refl

-- an expression that is no result of a call stays
pub parts-sent : (f t : ℕ) (e : Expression) → ((g : ℕ) → e ≡ CallResult g → ⊥) → parts e ≡ rename (sent f t) (parts e)
parts-sent f t e h = rename-sent f t (parts e) (named-sent f t e h)

-- ---- elements that are written one after another

pub map_more_sent : {X Y : Type 0} (f : X → Y) (g : Y → Y) (old now : List X) (i : ℕ) (x d : X) → i < length now → length now ≡ length old → f x ≡ g (f (get_or old i d)) → map f (take i now) ≡ map g (map f (take i old)) → map f (take (i + 1) (set now i x)) ≡ map g (map f (take (i + 1) old))
map_more_sent f g old now i x d h long e so_far =
    let front = ap (map f) (take_more_set now i x h) ∙ map-append f (take i now) (x ∷ []) in
    let joined = ap (λ ys. ys ++ f x ∷ []) so_far ∙ ap (λ y. map g (map f (take i old)) ++ y ∷ []) e in
    let last = sym (map-append g (map f (take i old)) (f (get_or old i d) ∷ [])) ∙ ap (map g) (sym (map-append f (take i old) (get_or old i d ∷ []))) in
    front ∙ joined ∙ last ∙ ap (λ xs. map g (map f xs)) (sym (take_more old i d (omega (arith, h, long))))
