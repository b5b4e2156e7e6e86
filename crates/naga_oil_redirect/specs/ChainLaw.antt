-- What holds of all chains of replacements: the laws of this crate.
use Rattle.std.specs.Prelude.{ℕ, ◌≡◌, Bool, false, List, [], ◌∷◌, ◌++◌, Ok, bytes_eq}
use Rattle.std.specs.List.{list_any}
use Rattle.naga_oil_ir.specs.ModuleValue.{ModuleValue}
use Rattle.naga_oil_form.specs.NameForm.{Name}
use Rattle.naga_oil_redirect.specs.Chain.{last_of, SentInTurn, none_omitted, IsSentDown, HasNamedCalls}
use Rattle.naga_oil_redirect.specs.PutInOrder.{put_in_order}
use Rattle.naga_oil_redirect.specs.Redirected.{matched, redirected}

-- LAW: redirections of a base to any number of replacements, one after another, redirect each call of the base to its destination
abbrev pub ChainLaw : Type 0
ChainLaw = (m n : ModuleValue) (base : Name) (rs : List Name) →
    HasNamedCalls m → SentInTurn m base rs none_omitted n →
    IsSentDown base rs m n × HasNamedCalls n

-- a test passes just these names
abbrev pub PassesJust : List Name → (Name → Bool) → Type 0
PassesJust names test = (n : Name) → test n ≡ list_any (bytes_eq n) names

-- calls of a base that were redirected along omitted replacements, the last of them the original, are redirected along one more
abbrev pub SendsOn : (original replacement : Name) → (omitted : Name → Bool) → (old new : ModuleValue) → Type 0
SendsOn original replacement omitted old new = (base : Name) (rs : List Name) (m : ModuleValue) →
    last_of rs base ≡ original → PassesJust rs omitted →
    IsSentDown base rs m old → IsSentDown base (rs ++ replacement ∷ []) m new

-- a chain has a name
abbrev pub is_in_chain : (base : Name) → (rs : List Name) → Name → Bool
is_in_chain base rs n = list_any (bytes_eq n) (base ∷ rs)

-- calls that were redirected along a chain without the original stay as they are
abbrev pub SendsApart : (original : Name) → (old new : ModuleValue) → Type 0
SendsApart original old new = (base : Name) (rs : List Name) (m : ModuleValue) →
    is_in_chain base rs original ≡ false →
    IsSentDown base rs m old → IsSentDown base rs m new

-- calls that were redirected along any chain stay as they are
abbrev pub KeepsSent : (old new : ModuleValue) → Type 0
KeepsSent old new = (base : Name) (rs : List Name) (m : ModuleValue) →
    IsSentDown base rs m old → IsSentDown base rs m new

-- LAW: each redirection extends the chain of its original and keeps others, and functions still have names of their own
abbrev pub StepLaw : Type 0
StepLaw = (m : ModuleValue) (original replacement : Name) (omitted : Name → Bool) (pair : ℕ × ℕ) →
    HasNamedCalls m → matched m.functions original replacement ≡ Ok pair →
    let n = redirected m pair.0 pair.1 omitted in
    SendsOn original replacement omitted m n × SendsApart original m n × HasNamedCalls n

-- LAW: without replacements nothing is redirected
abbrev pub StartLaw : Type 0
StartLaw = (m : ModuleValue) (base : Name) → HasNamedCalls m → IsSentDown base [] m m

-- no call of any base was redirected yet: its chain has no replacements
abbrev pub BeginsChains : ModuleValue → Type 0
BeginsChains m = (base : Name) → IsSentDown base [] m m

-- LAW: sorting functions keeps redirected calls
abbrev pub OrderLaw : Type 0
OrderLaw = (m n : ModuleValue) → HasNamedCalls m → put_in_order m ≡ Ok n → KeepsSent m n
