-- Modules with other items, functions or results, and calls of other chains, aren't faithful.
use Rattle.std.proofs.Common.{◌≡◌, ⊎_elim, ℕ, zero, suc, false, true, Bool, if◌then◌else◌, List, [], Some, None, option_map, refl, ap, sym, ◌∙◌}
use Rattle.std.proofs.lemmas.Option.{none-some}
use Rattle.std.specs.Option.{option_eq}
use Rattle.std.specs.Prelude.{codes, bytes_eq}
use Rattle.naga_oil_ir.specs.ModuleValue.{ModuleValue}
use Rattle.naga_oil_ir.specs.Rows.{Text}
use Rattle.naga_oil_ir.specs.declared.names.ItemPlace.{ItemPlace}
use Rattle.naga_oil_ir.specs.declared.names.ItemPlace.TheVariants.{TypeItem, ConstantItem, OverrideItem, GlobalItem, ExpressionItem}
use Rattle.naga_oil_ir.specs.declared.tokens.Token.TheVariants.{Callee}
use Rattle.naga_oil_words.specs.Marks.{has_module_mark}
use Rattle.naga_oil_derive.specs.Tree.{World, Tree, Item, tree, reading, row_tree, kept_tree}
use Rattle.naga_oil_derive.specs.World.{world, or_option}
use Rattle.naga_oil_rename.specs.Renames.{under_name}
use Rattle.naga_oil_link.specs.CopiedBuild.{decorated_type}
use Rattle.naga_oil_link.specs.OwnPlaces.{OwnPlaces}
use Rattle.naga_oil_link.specs.Owned.{own_places}
use Rattle.naga_oil_copy_laws.specs.Scope.{name_of_function}
use Rattle.naga_oil_link_laws.specs.HeldBuild.{HasDecoratedName, DecoratesTypes}
use Rattle.naga_oil_link_laws.specs.KeptAlike.{kept_alike}
use Rattle.naga_oil.specs.CallsSent.{call_goes}
use Rattle.naga_oil.specs.Faithful.{owned_parse}
use Rattle.naga_oil_faithful_laws.specs.SmallMake.{mark, module_parse, shader_parse, base_name, override_name, base_copy, right, first_entry, second_entry, call_with_first}
use Rattle.naga_oil_faithful_laws.specs.SmallMakeLaw.{IsUnfaithful, two_chains, OtherChainLaw}
use Rattle.naga_oil_faithful_laws.specs.WrongModules.{with_base, base_span, calling_another, with_number_argument, without_helper, with_other_type, with_first, calling_base, without_result}
use Rattle.naga_oil_faithful_laws.proofs.Builds.{module_build, shader_build}
use Rattle.naga_oil_faithful_laws.proofs.Comes.{Comes, OfHelper, OfBase, OfOverride, ReadsItem, each_comes, entry_comes, item_reads}
use Rattle.naga_oil_faithful_laws.proofs.Refused.{never, not_base, not_override, first_callee, first_type, ray_row, ray_stays}

-- ---- calls

abbrev no_override : Some base_name ≡ Some override_name → ⊥
no_override e = not_override (sym e)

-- the first function of the module is the one that calls the missing one
pub without_helper_refused : IsUnfaithful without_helper
unfolding has_module_mark
without_helper_refused c h = one (each_comes c without_helper h 0 _ refl)
  where
    one : Comes without_helper (base_copy right, base_span) → ⊥
    one (OfHelper k at) = not_base (sym k.copies.name)
    one (OfBase k at) =
        let e : 0 ≡ k.copies.goes.function 0 = ap first_callee k.copies.body in
        not_base (sym (ap (name_of_function without_helper) e ∙ k.copies.alike.callees 2 (Callee 0) refl))
    one (OfOverride k at) = not_override (sym k.copies.name)

pub calling_base_refused : IsUnfaithful (with_first calling_base)
unfolding has_module_mark
calling_base_refused c h =
    let k = entry_comes c (with_first calling_base) h 0 calling_base (first_entry (call_with_first 0)) refl refl in
    let e : 1 ≡ k.copies.goes.function 0 = ap first_callee k.copies.body in
    no_override (ap (name_of_function (with_first calling_base)) e ∙ k.copies.alike.callees 2 (Callee 0) refl)

pub other_chain_refused : OtherChainLaw
other_chain_refused moves a name k =
    let e : 2 ≡ k.goes.function 0 = ap first_callee k.body in
    let called = ap (name_of_function (with_base calling_another)) e ∙ k.alike.callees 2 (Callee 0) refl in
    let there : Some override_name ≡ Some (codes "hX_naga_oil_vrt_XNUX") = called ∙ ap (call_goes two_chains (Some base_name)) name in
    never (ap (option_eq bytes_eq (Some (codes "hX_naga_oil_vrt_XNUX"))) there)

-- ---- a result

pub without_result_refused : IsUnfaithful without_result
unfolding has_module_mark
without_result_refused c h = none-some _ (entry_comes c without_result h 1 _ second_entry refl refl).copies.outcome

-- ---- names of items that are read

unfoldable pub name_of : Tree → Text
name_of (Item l ts) = l.name
name_of _ = None

-- what is read of two special types, or of another item, passes a test
pub either_kept : (test : Text → Bool) (g : ItemPlace → Tree) (hit ray : Bool) (t : Tree) → test (name_of (g (TypeItem 1))) ≡ false → test (name_of (g (TypeItem 2))) ≡ false → test (name_of t) ≡ false →
    test (name_of (kept_tree g (option_map TypeItem (or_option (or_option None (if hit then Some 2 else None)) (if ray then Some 1 else None))) t)) ≡ false
either_kept test g true ray t a b c = b
either_kept test g false true t a b c = a
either_kept test g false false t a b c = c

pub one_kept : (test : Text → Bool) (g : ItemPlace → Tree) (ray : Bool) (t : Tree) → test (name_of (g (TypeItem 1))) ≡ false → test (name_of t) ≡ false →
    test (name_of (kept_tree g (option_map TypeItem (or_option None (if ray then Some 1 else None))) t)) ≡ false
one_kept test g true t a c = a
one_kept test g false t a c = c

abbrev pub own_module : ModuleValue
own_module = owned_parse module_build module_parse

abbrev pub own_shader : ModuleValue
own_shader = owned_parse shader_build shader_parse

-- ---- the type of an argument

abbrev pub has_no_name : Text → Bool
has_no_name None = true
has_no_name (Some n) = false

number_unnamed : has_no_name (name_of (tree 1 (world (with_base with_number_argument)) (TypeItem 0))) ≡ true
unfolding tree world name_of
number_unnamed = refl

argument_named : (w : World) → DecoratesTypes own_module (own_places module_parse) mark w → has_no_name (name_of (reading 1 w (world (with_base with_number_argument)) (kept_alike w own_module (with_base with_number_argument)) (TypeItem 2))) ≡ false
unfolding tree world name_of reading kept_alike has_module_mark ray_row
argument_named w d =
    let t = tree 1 (world (with_base with_number_argument)) in
    let f = reading 0 w (world (with_base with_number_argument)) (kept_alike w own_module (with_base with_number_argument)) in
    either_kept has_no_name t _ _ (row_tree f (w (TypeItem 2))) refl refl (ap (λ o. has_no_name (name_of (row_tree f o))) (sym (ray_stays w d.each)))

pub number_argument_refused : IsUnfaithful (with_base with_number_argument)
number_argument_refused c h = one (each_comes c (with_base with_number_argument) h 1 _ refl)
  where
    one : Comes (with_base with_number_argument) with_number_argument → ⊥
    one (OfHelper k at) = not_base (sym k.copies.name)
    one (OfBase k at) =
        let made = with_base with_number_argument in
        let e : 0 ≡ k.copies.goes.ty 2 = ap first_type k.copies.arguments in
        let reads = ap (λ (n : ℕ). tree 1 (world made) (TypeItem n)) e ∙ k.copies.alike.types 2 refl 1 in
        never (sym (argument_named k.reads k.decorated) ∙ ap (λ t. has_no_name (name_of t)) (sym reads) ∙ number_unnamed)
    one (OfOverride k at) = not_override (sym k.copies.name)

-- ---- a type that no parse has

abbrev is_other : Text → Bool
is_other t = option_eq bytes_eq (Some (codes "Other")) t

module_others : (f : ItemPlace → Tree) (p : ItemPlace) → is_other (name_of (row_tree f (world own_module p))) ≡ false
unfolding world name_of has_module_mark
module_others f (TypeItem zero) = refl
module_others f (TypeItem (suc zero)) = refl
module_others f (TypeItem (suc (suc zero))) = refl
module_others f (TypeItem (suc (suc (suc zero)))) = refl
module_others f (TypeItem (suc (suc (suc (suc k))))) = refl
module_others f (ConstantItem k) = refl
module_others f (OverrideItem k) = refl
module_others f (GlobalItem k) = refl
module_others f (ExpressionItem k) = refl

decorated_others : (f : ItemPlace → Tree) (p : ItemPlace) → is_other (name_of (row_tree f (option_map (under_name (option_map Some (decorated_type own_module mark p))) (world own_module p)))) ≡ false
unfolding world name_of has_module_mark
decorated_others f (TypeItem zero) = refl
decorated_others f (TypeItem (suc zero)) = refl
decorated_others f (TypeItem (suc (suc zero))) = refl
decorated_others f (TypeItem (suc (suc (suc zero)))) = refl
decorated_others f (TypeItem (suc (suc (suc (suc k))))) = refl
decorated_others f (ConstantItem k) = refl
decorated_others f (OverrideItem k) = refl
decorated_others f (GlobalItem k) = refl
decorated_others f (ExpressionItem k) = refl

shader_others : (f : ItemPlace → Tree) (p : ItemPlace) → is_other (name_of (row_tree f (world own_shader p))) ≡ false
unfolding world name_of has_module_mark
shader_others f (TypeItem zero) = refl
shader_others f (TypeItem (suc zero)) = refl
shader_others f (TypeItem (suc (suc k))) = refl
shader_others f (ConstantItem k) = refl
shader_others f (OverrideItem k) = refl
shader_others f (GlobalItem k) = refl
shader_others f (ExpressionItem k) = refl

undecorated_others : (f : ItemPlace → Tree) (p : ItemPlace) → is_other (name_of (row_tree f (option_map (under_name (option_map Some (decorated_type own_shader [] p))) (world own_shader p)))) ≡ false
unfolding world name_of has_module_mark
undecorated_others f (TypeItem zero) = refl
undecorated_others f (TypeItem (suc zero)) = refl
undecorated_others f (TypeItem (suc (suc k))) = refl
undecorated_others f (ConstantItem k) = refl
undecorated_others f (OverrideItem k) = refl
undecorated_others f (GlobalItem k) = refl
undecorated_others f (ExpressionItem k) = refl

-- under its own name or its decorated one, no item is that one
reads_others : (m : ModuleValue) (own : OwnPlaces) (decoration : List ℕ) (w : World) → DecoratesTypes m own decoration w → (f : ItemPlace → Tree) (p : ItemPlace) → is_other (name_of (row_tree f (world m p))) ≡ false → is_other (name_of (row_tree f (option_map (under_name (option_map Some (decorated_type m decoration p))) (world m p)))) ≡ false → is_other (name_of (row_tree f (w p))) ≡ false
reads_others m own decoration w d f p plain decorated =
    ⊎_elim
    (λ (e : w p ≡ world m p). ap (λ o. is_other (name_of (row_tree f o))) e ∙ plain)
    (λ (h : HasDecoratedName m own decoration w p). ap (λ o. is_other (name_of (row_tree f o))) h.row ∙ decorated)
    (d.each p)

from_module : ReadsItem module_build module_parse with_other_type (TypeItem 4) → ⊥
unfolding tree world name_of reading kept_alike has_module_mark
from_module x =
    let t = tree 1 (world with_other_type) in
    let f = reading 0 x.reads (world with_other_type) (kept_alike x.reads own_module with_other_type) in
    let reads = either_kept is_other t _ _ (row_tree f (x.reads x.place)) refl refl (reads_others own_module (own_places module_parse) mark x.reads x.decorated f x.place (module_others f x.place) (decorated_others f x.place)) in
    never (sym reads ∙ ap (λ t. is_other (name_of t)) (sym (x.alike 1)))

from_shader : ReadsItem shader_build shader_parse with_other_type (TypeItem 4) → ⊥
unfolding tree world name_of reading kept_alike has_module_mark
from_shader x =
    let t = tree 1 (world with_other_type) in
    let f = reading 0 x.reads (world with_other_type) (kept_alike x.reads own_shader with_other_type) in
    let reads = one_kept is_other t _ (row_tree f (x.reads x.place)) refl (reads_others own_shader (own_places shader_parse) [] x.reads x.decorated f x.place (shader_others f x.place) (undecorated_others f x.place)) in
    never (sym reads ∙ ap (λ t. is_other (name_of t)) (sym (x.alike 1)))

pub other_type_refused : IsUnfaithful with_other_type
unfolding world
other_type_refused c h = ⊎_elim from_module from_shader (item_reads c with_other_type h (TypeItem 4) _ refl)
