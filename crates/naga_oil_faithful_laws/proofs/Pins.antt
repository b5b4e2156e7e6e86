-- Modules that are refused by one part alone of what a copy is: names of expressions, what an expression names, and where calls go.
use Rattle.std.proofs.Common.{◌≡◌, ⊎_elim, ℕ, zero, suc, false, true, [], None, refl, ap, sym, ◌∙◌, subst, slice_get}
use Rattle.std.proofs.lemmas.Option.{none-some, same_Some}
use Rattle.naga_oil_form.specs.Links.{trail}
use Rattle.naga_oil_ir.specs.ModuleValue.{FunctionValue, EntryValue}
use Rattle.naga_oil_ir.specs.Parts.{Parts}
use Rattle.naga_oil_ir.specs.declared.names.ItemPlace.TheVariants.{TypeItem}
use Rattle.naga_oil_ir.specs.declared.parts.Named.{Named}
use Rattle.naga_oil_ir.specs.declared.parts.Named.TheVariants.{TypeOf}
use Rattle.naga_oil_ir.specs.declared.span.Span.{Span}
use Rattle.naga_oil_rename.specs.Renames.{rename}
use Rattle.naga_oil_words.specs.Marks.{has_module_mark}
use Rattle.naga_oil_derive.specs.Tree.{World, tree, reading, row_tree}
use Rattle.naga_oil_derive.specs.World.{world}
use Rattle.naga_oil_redirect.specs.Chain.{AreSent, called}
use Rattle.naga_oil_link.specs.Owned.{own_places}
use Rattle.naga_oil_copy_laws.specs.ByTree.{HasCopy}
use Rattle.naga_oil_link_laws.specs.HeldBuild.{HasDecoratedName, DecoratesTypes}
use Rattle.naga_oil_link_laws.specs.KeptAlike.{kept_alike}
use Rattle.naga_oil_faithful_laws.specs.PromiseLaw.{UnsentLaw}
use Rattle.naga_oil_faithful_laws.specs.SmallMake.{shader_parse, base_name, override_name, zero_of, first_entry, call_with_first}
use Rattle.naga_oil_faithful_laws.specs.SmallMakeLaw.{IsUnfaithful}
use Rattle.naga_oil_faithful_laws.specs.WrongModules.{with_base, with_another_name, with_first, of_number, calling_base}
use Rattle.naga_oil.specs.Faithful.{CopiesParsed}
use Rattle.naga_oil_faithful_laws.proofs.Builds.{shader_build}
use Rattle.naga_oil_faithful_laws.proofs.Comes.{Comes, OfHelper, OfBase, OfOverride, each_comes, entry_comes, calls_go}
use Rattle.naga_oil_faithful_laws.proofs.Refused.{never, not_base, not_override}
use Rattle.naga_oil_faithful_laws.proofs.WrongItems.{name_of, one_kept, has_no_name, own_shader}

-- ---- a name of an expression

pub another_name_refused : IsUnfaithful (with_base with_another_name)
unfolding trail
another_name_refused c h = one (each_comes c (with_base with_another_name) h 1 _ refl)
  where
    one : Comes (with_base with_another_name) with_another_name → ⊥
    one (OfHelper k at) = not_base (sym k.copies.name)
    one (OfBase k at) = none-some _ (k.copies.names.each 1 _ refl (0, refl)).named.1
    one (OfOverride k at) = not_override (sym k.copies.name)

-- ---- what an expression names

type_named : Named → ℕ
type_named (TypeOf k) = k
type_named _ = 0

number_unnamed : has_no_name (name_of (tree 1 (world (with_first of_number)) (TypeItem 0))) ≡ true
unfolding tree world name_of
number_unnamed = refl

ray_named : (w : World) → DecoratesTypes own_shader (own_places shader_parse) [] w → has_no_name (name_of (reading 1 w (world (with_first of_number)) (kept_alike w own_shader (with_first of_number)) (TypeItem 1))) ≡ false
unfolding tree world name_of reading kept_alike has_module_mark
ray_named w d =
    let t = tree 1 (world (with_first of_number)) in
    let f = reading 0 w (world (with_first of_number)) (kept_alike w own_shader (with_first of_number)) in
    let named : has_no_name (name_of (row_tree f (w (TypeItem 1)))) ≡ false =
    ⊎_elim
    (λ (e : w (TypeItem 1) ≡ world own_shader (TypeItem 1)). ap (λ o. has_no_name (name_of (row_tree f o))) e)
    (λ (x : HasDecoratedName own_shader (own_places shader_parse) [] w (TypeItem 1)). (let e : false ≡ true = x.own_item in absurd cc))
    (d.each (TypeItem 1)) in
    one_kept has_no_name t _ (row_tree f (w (TypeItem 1))) refl named

abbrev source : FunctionValue
source = (first_entry (call_with_first 0)).function

module _ (k : CopiesParsed shader_build shader_parse (calls_go None) (with_first of_number) source of_number.function) where
  copied : HasCopy k.copies.goes source of_number.function 0
  unfolding trail
  copied = k.copies.expressions.copies 0 refl

  -- the type of the zero is that of the number
  goes_to_number : (n : ℕ) → k.copies.goes.expression 0 ≡ n → 0 ≡ k.copies.goes.ty 1
  unfolding type_named
  goes_to_number zero e =
      let same : copied.copy ≡ zero_of 0 = same_Some copied.copy (zero_of 0) (sym copied.at_copy ∙ ap (slice_get of_number.function.expressions) e) in
      let from : copied.source ≡ zero_of 1 = same_Some copied.source (zero_of 1) (sym copied.at_source) in
      ap (λ (x : Parts × Span). type_named x.0.named) (sym same) ∙ ap (λ (p : Parts). type_named p.named) copied.reads ∙ ap (λ (x : Parts × Span). type_named (rename k.copies.goes x.0).named) from
  goes_to_number (suc n) e = absurd (none-some copied.copy (sym (ap (slice_get of_number.function.expressions) e) ∙ copied.at_copy))

  zero_wrong : ⊥
  unfolding trail
  zero_wrong =
      let made = with_first of_number in
      let reads = ap (λ (n : ℕ). tree 1 (world made) (TypeItem n)) (goes_to_number (k.copies.goes.expression 0) refl) ∙ (k.copies.alike.expressions 0 (zero_of 1) refl refl).0 1 in
      never (sym (ray_named k.reads k.decorated) ∙ ap (λ t. has_no_name (name_of t)) (sym reads) ∙ number_unnamed)

pub number_refused : IsUnfaithful (with_first of_number)
unfolding has_module_mark
number_refused c h = zero_wrong (entry_comes c (with_first of_number) h 0 of_number (first_entry (call_with_first 0)) refl refl)

-- ---- where calls go

pub unsent_refused : UnsentLaw
unsent_refused h =
    let m = with_first calling_base in
    let k = h.entry_points 0 calling_base refl in
    let Sent = λ (s : EntryValue). AreSent base_name override_name (called m.functions s.function) (called m.functions calling_base.function) in
    let sent : Sent calling_base = subst Sent (sym (same_Some calling_base k.source k.at)) k.calls in
    not_override (sym (sent 0 refl))
