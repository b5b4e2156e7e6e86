-- The functions of a made module have names of their own: calls are redirected, and functions sorted, under their names.
use Rattle.std.proofs.Common.{◌≡◌, ℕ, List, [], ◌∷◌, Result, Ok, Err, refl, ◌∙◌, subst}
use Rattle.naga_oil_ir.specs.ModuleValue.{ModuleValue}
use Rattle.naga_oil_ir.specs.RedirectFault.{RedirectFault}
use Rattle.naga_oil_conditions.specs.Fault.{Fault}
use Rattle.naga_oil_words.specs.ResultSteps.{◌>>=◌}
use Rattle.naga_oil_words.specs.Texts.{is_among}
use Rattle.naga_oil_redirect.specs.Chain.{HasNamedCalls}
use Rattle.naga_oil_redirect.specs.PutInOrder.{put_in_order}
use Rattle.naga_oil_redirect.specs.Redirected.{matched, redirected}
use Rattle.naga_oil_redirect.proofs.ChainLemmas.{step_law}
use Rattle.naga_oil_link.specs.BuiltModule.{Overriding}
use Rattle.naga_oil.specs.Chain.{redirected_to, sent_down, all_sent_down, put_in_order_as, chain_all, chain}
use Rattle.naga_oil.proofs.BuiltOfLemmas.{built_of}
use Rattle.naga_oil.proofs.EachBuiltLemmas.{answer_made}
use Rattle.naga_oil.proofs.FinishedLemmas.{shader_index}
use Rattle.naga_oil.specs.Faithful.{made_builds}
use Rattle.naga_oil.specs.MakeDefs.{make_defs}
use Rattle.naga_oil_faithful_laws.specs.OwnNames.{HaveOwnNames, OwnNamesLaw}
use Rattle.naga_oil_faithful_laws.proofs.SortedNames.{sorted_own_names}
use Rattle.naga_oil_faithful_laws.proofs.SpecialTypes.{linked_named}

-- ---- redirected calls

down_named : (m : ModuleValue) (original : List ℕ) (others omitted : List (List ℕ)) (n : ModuleValue) → HasNamedCalls m → sent_down m original others omitted ≡ Ok n → HasNamedCalls n
unfolding sent_down
down_named m original [] omitted n h e = let same : m ≡ n = cc in subst HasNamedCalls same h
down_named m original (other ∷ more) omitted n h e = one (λ p k q. down_named p other more (other ∷ omitted) n k q) (matched m.functions original other) refl e
  where
    one : ((p : ModuleValue) → HasNamedCalls p → sent_down p other more (other ∷ omitted) ≡ Ok n → HasNamedCalls n) → (r : Result (ℕ × ℕ) RedirectFault) → matched m.functions original other ≡ r → (redirected_to m omitted r >>= λ p. sent_down p other more (other ∷ omitted)) ≡ Ok n → HasNamedCalls n
    one rest (Ok pair) p q = rest (redirected m pair.0 pair.1 (is_among omitted)) (step_law m original other (is_among omitted) pair h p).2 q
    one rest (Err f) p q = absurd cc

all_named : (m : ModuleValue) (all : Overriding) (n : ModuleValue) → HasNamedCalls m → all_sent_down m all ≡ Ok n → HasNamedCalls n
unfolding all_sent_down
all_named m [] n h e = let same : m ≡ n = cc in subst HasNamedCalls same h
all_named m (o ∷ more) n h e = one (λ p k q. all_named p more n k q) (sent_down m o.0 o.1 []) refl e
  where
    one : ((p : ModuleValue) → HasNamedCalls p → all_sent_down p more ≡ Ok n → HasNamedCalls n) → (r : Result ModuleValue Fault) → sent_down m o.0 o.1 [] ≡ r → (r >>= λ p. all_sent_down p more) ≡ Ok n → HasNamedCalls n
    one rest (Ok p) at q = rest p (down_named m o.0 o.1 [] p h at) q
    one rest (Err f) at q = absurd cc

-- ---- the whole chain

sorted_back : (r : Result ModuleValue RedirectFault) (n : ModuleValue) → put_in_order_as r ≡ Ok n → r ≡ Ok n
sorted_back (Ok m) n e = cc
sorted_back (Err f) n e = absurd cc

all_own_names : (all : Overriding) (m n : ModuleValue) → HasNamedCalls m → chain_all all m ≡ Ok n → HaveOwnNames n
unfolding chain_all
all_own_names all m n h e = one (all_sent_down m all) refl e
  where
    one : (r : Result ModuleValue Fault) → all_sent_down m all ≡ r → (r >>= λ sent. put_in_order_as (put_in_order sent)) ≡ Ok n → HaveOwnNames n
    one (Ok sent) p q = sorted_own_names sent n (all_named m all sent h p) (sorted_back (put_in_order sent) n q)
    one (Err f) p q = absurd cc

chain_own_names : (all : Overriding) (m n : ModuleValue) → HasNamedCalls m → chain all m ≡ Ok n → HaveOwnNames n
chain_own_names [] m n h e = let same : m ≡ n = cc in subst HaveOwnNames same h.distinct
chain_own_names (o ∷ more) m n h e = all_own_names (o ∷ more) m n h e

pub own_names : OwnNamesLaw
own_names s ds counter m made e =
    let a = answer_made s ds counter m made e in
    let f = a.shader in
    let own = built_of s (make_defs ds counter m) a.definition a.output (made_builds s ds counter m) f.shader a.preprocessed f.built in
    let named = linked_named s ds counter m a.all a.read a.source a.definition a.described f.shader own.0 (own.1 ∙ shader_index m a.read.0 a.definition a.described) m.shader_type in
    chain_own_names f.shader.overriding _ made named f.chained
