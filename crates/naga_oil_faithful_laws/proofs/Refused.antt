-- Modules that aren't faithful.
use Rattle.std.proofs.Common.{◌≡◌, ◌⊎◌, inl, inr, ℕ, zero, suc, true, false, Bool, if◌then◌else◌, List, [], ◌∷◌, refl, Option, Some, None, option_map, IsSome, ap, sym, ◌∙◌, subst, slice_get, arith}
use Rattle.std.proofs.lemmas.List.Elements.{All-head}
use Rattle.std.proofs.lemmas.Option.{none-some, same_Some}
use Rattle.std.specs.Option.{option_eq}
use Rattle.std.specs.Prelude.{codes, bytes_eq}
use Rattle.naga_oil_ir.specs.Body.{Tokens}
use Rattle.naga_oil_form.specs.Links.{trail}
use Rattle.naga_oil_ir.specs.ModuleValue.{ModuleValue, FunctionValue, ArgumentValue}
use Rattle.naga_oil_ir.specs.Parts.{Parts}
use Rattle.naga_oil_ir.specs.Spans.{undefined}
use Rattle.naga_oil_ir.specs.Rows.{Row}
use Rattle.naga_oil_ir.specs.declared.names.ItemPlace.{ItemPlace}
use Rattle.naga_oil_ir.specs.declared.names.ItemPlace.TheVariants.{TypeItem}
use Rattle.naga_oil_ir.specs.declared.span.Span.{Span}
use Rattle.naga_oil_ir.specs.declared.tokens.Token.TheVariants.{Callee}
use Rattle.naga_oil_words.specs.Marks.{has_module_mark}
use Rattle.naga_oil_rename.specs.Renames.{Renames, rename}
use Rattle.naga_oil_derive.specs.Collected.{depth}
use Rattle.naga_oil_derive.specs.Tree.{World, Tree, Item, tree, reading, row_tree, kept_tree}
use Rattle.naga_oil_derive.specs.declared.special.SpecialKey.{SpecialKey}
use Rattle.naga_oil_derive.specs.declared.special.SpecialKey.TheVariants.{RayDesc}
use Rattle.naga_oil_derive.specs.World.{world, or_option, special_at}
use Rattle.naga_oil_link.specs.BuiltModule.{BuiltModule}
use Rattle.naga_oil_link.specs.Owned.{own_places}
use Rattle.naga_oil_copy_laws.specs.Scope.{name_of_function}
use Rattle.naga_oil_copy_laws.specs.ByTree.{HasCopy}
use Rattle.naga_oil_link_laws.specs.HeldBuild.{HasDecoratedName}
use Rattle.naga_oil_link_laws.specs.KeptAlike.{same_tree, kept_alike}
use Rattle.naga_oil_link_laws.specs.ReadIn.{HasKeysOf}
use Rattle.naga_oil.specs.Faithful.{CopiesParsed, owned_parse}
use Rattle.naga_oil_faithful_laws.specs.SmallMake.{function, zero_of, literal, negated, span, struct, mark, helper_name, base_name, override_name, override_of, stub, module_parse, shader_parse, made_with, base_copy}
use Rattle.naga_oil_faithful_laws.specs.SmallMakeLaw.{IsRefused, IsUnfaithful, unmapped, of_another_key, of_another_entry, calling_itself, without_body, with_declaration, without_special}
use Rattle.naga_oil_faithful_laws.proofs.Builds.{module_build}
use Rattle.naga_oil_faithful_laws.proofs.Comes.{Comes, OfHelper, OfBase, OfOverride, shader_only, each_comes, entry_comes, own_base, calls_go}

-- ---- functions differ by their names

pub not_base : Some helper_name ≡ Some base_name → ⊥
not_base e = let f : false ≡ true = ap (option_eq bytes_eq (Some base_name)) e in cc

pub not_override : Some override_name ≡ Some base_name → ⊥
not_override e = let f : false ≡ true = ap (option_eq bytes_eq (Some base_name)) e in cc

pub helper_overrides : Some helper_name ≡ Some override_name → ⊥
helper_overrides e = let f : false ≡ true = ap (option_eq bytes_eq (Some override_name)) e in cc

-- ---- what bodies and arguments say of a copy

pub never : false ≡ true → ⊥
never e = cc

abbrev is_empty : Tokens → Bool
is_empty [] = true
is_empty (t ∷ ts) = false

-- a body that begins with a call, and what it calls
abbrev begins_with_call : Tokens → Bool
begins_with_call (a ∷ t ∷ Callee f ∷ ts) = true
begins_with_call _ = false

abbrev pub first_callee : Tokens → ℕ
first_callee (a ∷ t ∷ Callee f ∷ ts) = f
first_callee _ = 0

abbrev pub first_type : List ArgumentValue → ℕ
first_type [] = 0
first_type (a ∷ more) = a.ty

abbrev first_operand : List (Option ℕ) → Option ℕ
first_operand [] = None
first_operand (o ∷ more) = o

abbrev or_zero : Option ℕ → ℕ
or_zero None = 0
or_zero (Some n) = n

-- ---- an operand

-- the item at the place of a copy reads as its source
pub reads_at : (r : Renames) (f g : FunctionValue) (k n : ℕ) (s y : Parts × Span) → HasCopy r f g k → slice_get f.expressions k ≡ Some s → r.expression k ≡ n → slice_get g.expressions n ≡ Some y → y.0 ≡ rename r s.0
reads_at r f g k n s y h at goes there =
    let copy : h.copy ≡ y = same_Some h.copy y (sym h.at_copy ∙ ap (slice_get g.expressions) goes ∙ there) in
    let source : h.source ≡ s = same_Some h.source s (sym h.at_source ∙ at) in
    ap (λ (e : Parts × Span). e.0) (sym copy) ∙ h.reads ∙ ap (λ (e : Parts × Span). rename r e.0) source

module _ (k : CopiesParsed module_build module_parse (calls_go (Some base_name)) (made_with unmapped) own_base (base_copy unmapped)) where
  abbrev goes : Renames
  goes = k.copies.goes

  -- there is no copy after the three expressions
  copy_at : (j : ℕ) → HasCopy goes own_base (base_copy unmapped) j → (n : ℕ) → goes.expression j ≡ suc (suc (suc n)) → ⊥
  copy_at j h n e = absurd (none-some h.copy (sym (ap (slice_get (base_copy unmapped).expressions) e) ∙ h.at_copy))

  literal_copy : HasCopy goes own_base (base_copy unmapped) 2
  unfolding trail
  literal_copy = k.copies.expressions.copies 2 refl

  negated_copy : HasCopy goes own_base (base_copy unmapped) 3
  unfolding trail
  negated_copy = k.copies.expressions.copies 3 refl

  -- there is no literal at the place of the operand
  operand_wrong : goes.expression 2 ≡ unmapped.operand → ⊥
  operand_wrong e = let q : 22 ≡ 0 = ap (λ (p : Parts). p.kind) (reads_at goes own_base (base_copy unmapped) 2 unmapped.operand (literal 7) (negated unmapped.operand (span 2097157 2097160)) literal_copy refl e refl) in absurd (omega (arith, q))

  negated_wrong : (n : ℕ) → goes.expression 3 ≡ n → ⊥
  negated_wrong zero e = let q : 1 ≡ 22 = ap (λ (p : Parts). p.kind) (reads_at goes own_base (base_copy unmapped) 3 0 (negated 2 (span 5 8)) (zero_of 3) negated_copy refl e refl) in absurd (omega (arith, q))
  negated_wrong (suc zero) e = let q : 0 ≡ 22 = ap (λ (p : Parts). p.kind) (reads_at goes own_base (base_copy unmapped) 3 1 (negated 2 (span 5 8)) (literal 7) negated_copy refl e refl) in absurd (omega (arith, q))
  negated_wrong (suc (suc zero)) e =
      let q : unmapped.operand ≡ goes.expression 2 = ap (λ (p : Parts). or_zero (first_operand p.operands)) (reads_at goes own_base (base_copy unmapped) 3 2 (negated 2 (span 5 8)) (negated unmapped.operand (span 2097157 2097160)) negated_copy refl e refl) in
      operand_wrong (sym q)
  negated_wrong (suc (suc (suc n))) e = copy_at 3 negated_copy n e

pub unmapped_refused : IsRefused unmapped
unmapped_refused c h = one (each_comes c (made_with unmapped) h 1 _ refl)
  where
    one : Comes (made_with unmapped) (base_copy unmapped, span 2097152 2097161) → ⊥
    one (OfHelper k at) = not_base (sym k.copies.name)
    one (OfBase k at) = negated_wrong k (k.copies.goes.expression 3) refl
    one (OfOverride k at) = not_override (sym k.copies.name)

-- ---- bodies

pub without_body_refused : IsRefused without_body
without_body_refused c h = one (each_comes c (made_with without_body) h 0 _ refl)
  where
    one : Comes (made_with without_body) (function helper_name [] [] [] [], undefined) → ⊥
    one (OfHelper k at) = never (sym (ap is_empty k.copies.body))
    one (OfBase k at) = not_base k.copies.name
    one (OfOverride k at) = helper_overrides k.copies.name

-- a function with the name of the one that is imported, and without a body
pub with_declaration_refused : IsUnfaithful with_declaration
with_declaration_refused c h = one (each_comes c with_declaration h 1 _ refl)
  where
    one : Comes with_declaration (stub, undefined) → ⊥
    one (OfHelper k at) = not_base (sym k.copies.name)
    one (OfBase k at) = never (sym (ap is_empty k.copies.body))
    one (OfOverride k at) = not_override (sym k.copies.name)

pub of_another_entry_refused : IsRefused of_another_entry
unfolding has_module_mark
of_another_entry_refused c h = never (ap begins_with_call (entry_comes c (made_with of_another_entry) h 0 _ _ refl refl).copies.body)

-- ---- a call

pub calling_itself_refused : IsRefused calling_itself
unfolding has_module_mark
calling_itself_refused c h = one (each_comes c (made_with calling_itself) h 2 _ refl)
  where
    one : Comes (made_with calling_itself) (override_of 2, undefined) → ⊥
    one (OfHelper k at) = helper_overrides (sym k.copies.name)
    one (OfBase k at) = not_override k.copies.name
    one (OfOverride k at) =
        let e : calling_itself.callee ≡ k.copies.goes.function 0 = ap first_callee k.copies.body in
        let called : name_of_function (made_with calling_itself) (k.copies.goes.function 0) ≡ Some base_name = k.copies.alike.callees 2 (Callee 0) refl in
        not_override (ap (name_of_function (made_with calling_itself)) e ∙ called)

-- ---- a special type

-- the name of an item that is read
name_read : Tree → Option (List ℕ)
name_read (Item l ts) = l.name
name_read _ = None

hit_row : Row
hit_row = (struct (codes "Hit")).0

unfoldable pub ray_row : Row
ray_row = (struct (codes "Ray")).0

differ : (f : ItemPlace → Tree) (o p : Option Row) → Some hit_row ≡ o → Some ray_row ≡ p → same_tree (row_tree f o) (row_tree f p) ≡ false
unfolding hit_row ray_row
differ f o p e i = subst (λ o. same_tree (row_tree f o) (row_tree f p) ≡ false) e (subst (λ p. same_tree (row_tree f (Some hit_row)) (row_tree f p) ≡ false) i refl)

no_hit : Some (codes "Hit") ≡ Some (codes "Ray") → ⊥
no_hit e = let f : false ≡ true = ap (option_eq bytes_eq (Some (codes "Ray"))) e in cc

module _ (w : World) (each : (p : ItemPlace) → (w p ≡ world (owned_parse module_build module_parse) p) ⊎ HasDecoratedName (owned_parse module_build module_parse) (own_places module_parse) mark w p) where
  pub ray_stays : Some ray_row ≡ w (TypeItem 2)
  unfolding world has_module_mark ray_row
  ray_stays = one (each (TypeItem 2))
    where
      one : (w (TypeItem 2) ≡ world (owned_parse module_build module_parse) (TypeItem 2)) ⊎ HasDecoratedName (owned_parse module_build module_parse) (own_places module_parse) mark w (TypeItem 2) → Some ray_row ≡ w (TypeItem 2)
      one (inl e) = sym e
      one (inr h) = let e : false ≡ true = h.own_item in absurd cc

  hit_stays : Some hit_row ≡ w (TypeItem 3)
  unfolding world has_module_mark hit_row
  hit_stays = one (each (TypeItem 3))
    where
      one : (w (TypeItem 3) ≡ world (owned_parse module_build module_parse) (TypeItem 3)) ⊎ HasDecoratedName (owned_parse module_build module_parse) (own_places module_parse) mark w (TypeItem 3) → Some hit_row ≡ w (TypeItem 3)
      one (inl e) = sym e
      one (inr h) = let e : false ≡ true = h.own_item in absurd cc

  -- whether the special types read alike, seen from a ray's
  abbrev is_alike : ℕ → Bool
  is_alike k = same_tree (tree (depth (owned_parse module_build module_parse)) w (TypeItem k)) (tree (depth (owned_parse module_build module_parse)) w (TypeItem 2))

  not_alike : is_alike 3 ≡ false
  unfolding tree has_module_mark
  not_alike = differ _ (w (TypeItem 3)) (w (TypeItem 2)) hit_stays ray_stays

  kept_right : (hit ray : Bool) (o : Option Row) (f : ItemPlace → Tree) → hit ≡ false → Some ray_row ≡ o →
      tree 1 (world (made_with of_another_key)) (TypeItem 2) ≡ kept_tree (tree 1 (world (made_with of_another_key))) (option_map TypeItem (or_option (or_option None (if hit then Some 2 else None)) (if ray then Some 1 else None))) (row_tree f o) → ⊥
  unfolding tree world name_read ray_row hit_row
  kept_right true ray o f e i h = absurd cc
  kept_right false true o f e i h = no_hit (ap name_read h)
  kept_right false false o f e i h = no_hit (ap name_read (h ∙ ap (row_tree f) (sym i)))

  type_wrong : tree 1 (world (made_with of_another_key)) (TypeItem 2) ≡ reading 1 w (world (made_with of_another_key)) (kept_alike w (owned_parse module_build module_parse) (made_with of_another_key)) (TypeItem 2) → ⊥
  unfolding reading kept_alike has_module_mark
  type_wrong h = kept_right (is_alike 3) (is_alike 2) (w (TypeItem 2)) _ not_alike ray_stays h

pub of_another_key_refused : IsRefused of_another_key
of_another_key_refused c h = one (each_comes c (made_with of_another_key) h 1 _ refl)
  where
    one : Comes (made_with of_another_key) (base_copy of_another_key, span 2097152 2097161) → ⊥
    one (OfHelper k at) = not_base (sym k.copies.name)
    one (OfBase k at) =
        let e : 2 ≡ k.copies.goes.ty 2 = ap first_type k.copies.arguments in
        type_wrong k.reads k.decorated.each (ap (λ (n : ℕ). tree 1 (world (made_with of_another_key)) (TypeItem n)) e ∙ k.copies.alike.types 2 refl 1)
    one (OfOverride k at) = not_override (sym k.copies.name)

-- the shader's parse has a special type of a ray
pub without_special_refused : IsUnfaithful without_special
unfolding has_module_mark
without_special_refused c h =
    let e = shader_only c h.shader h.parse h.is in
    let keys = subst (λ (b : BuiltModule). HasKeysOf (owned_parse b shader_parse) without_special) e.0 (subst (λ (p : ModuleValue). HasKeysOf (owned_parse h.shader p) without_special) e.1 h.special) in
    never (All-head (λ (e : SpecialKey × ℕ). IsSome (special_at without_special.special_types e.0)) (RayDesc, 1) [] keys)
