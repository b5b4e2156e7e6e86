-- The items of a derived module stay formed.
use Rattle.std.proofs.Common.{◌≡◌, inl, inr, ℕ, nat_eq, List, map, Option, Some, None, refl, ap, sym, ◌∙◌, subst, All}
use Rattle.std.specs.List.{IsDistinct}
use Rattle.std.proofs.lemmas.Bool.{false≢true}
use Rattle.std.proofs.lemmas.List.Elements.{All-weaker}
use Rattle.naga_oil_ir.specs.Rows.{Row, Text}
use Rattle.naga_oil_ir.specs.ModuleValue.{ModuleValue, SpecialValue}
use Rattle.naga_oil_ir.specs.declared.names.ItemPlace.{ItemPlace}
use Rattle.naga_oil_ir.specs.declared.names.ItemPlace.TheVariants.{TypeItem, ConstantItem, OverrideItem, GlobalItem, ExpressionItem}
use Rattle.naga_oil_derive.specs.Tree.{World, Kept}
use Rattle.naga_oil_derive.specs.World.{goes, world, span_at, kept_of, kept_in, special_at, special_entries, with_specials}
use Rattle.naga_oil_derive.specs.Copying.{WentSomewhere, special_names}
use Rattle.naga_oil_derive.specs.Copied.{CopyState, copy_item, copy_named_type}
use Rattle.naga_oil_derive.specs.CopiedLaw.{HasAt, IsCopyable, AreSpecial, reads_now, IsMidway}
use Rattle.naga_oil_derive.specs.Derived.{Source, Derived, nothing, cleared, HasItem, type_under}
use Rattle.naga_oil_derive.specs.DerivedValue.{import_item, rename_type, set_source, copy_special}
use Rattle.naga_oil_derive.specs.DerivedLaw.{IsDerivation, Settles, SetsOnly}
use Rattle.naga_oil_derive.specs.Putting.{Putting, TypePutting}
use Rattle.naga_oil_derive.proofs.WorldLemmas.{Extends-stays, named_none, named_names}
use Rattle.naga_oil_derive.proofs.CopyLemmas.{same_rows}
use Rattle.naga_oil_derive.proofs.SpecialLemmas.{Entry}
use Rattle.naga_oil_derive.proofs.DeriveLemmas.{kept_key, some_mapped}
use Rattle.naga_oil_derive.proofs.PutLaws.{goes_renamed}
use Rattle.naga_oil_derive.proofs.PuttingLemmas.{IsLater, putting_later, type_putting_later}
use Rattle.naga_oil_derive.proofs.CopiedLaws.{copied_all}
use Rattle.naga_oil_derive.proofs.DerivedLaws.{nothing_derived, cleared_derived, special_same, import_law, rename_law}
use Rattle.naga_oil_derive.proofs.SetLaws.{as_names, from_names, start, midway_first, having, world_having, set_law}
use Rattle.naga_oil_form_laws.specs.ItemsStand.{IsUnsized, IsIn, ItemsStand, IsSpecial, IsPlain, MayBeSpecial, AreSpansFine, AreFormed}
use Rattle.naga_oil_form_laws.specs.DerivedForm.{HasFormedItems}
use Rattle.naga_oil_form_laws.proofs.ItemLemmas.{Stays, all_both, nothing_formed}
use Rattle.naga_oil_form_laws.proofs.PutLemmas.{KeptReach, CopiesHave, NamesAs, keeps_kinds, reach_copied, unsized_here}
use Rattle.naga_oil_form_laws.proofs.PuttingLemmas.{item_puts, all_puts, type_puts}
use Rattle.naga_oil_form_laws.proofs.RankLemmas.{formed_copyable}
use Rattle.naga_oil_form_laws.proofs.SpecialLemmas.{with_all, without_all, key_special, special_entry_of, specials_among, special_more, special_later, kept_special, keys_all}
use Rattle.naga_oil_form_laws.proofs.StateLemmas.{IsStateFormed, putting_formed, type_putting_formed}

abbrev derivation : Option Source → ModuleValue → List (List ℕ × ℕ) → Derived
derivation o t ns = record { source = o; target = t; function_names = ns }

abbrev AreSpecialIn : ModuleValue → Entry → Type 0
AreSpecialIn t e = MayBeSpecial t e.1

-- ---- items are imported

module _ (first : Kept) (s : Source) (t : ModuleValue) (ns : List (List ℕ × ℕ)) (i : IsDerivation first (derivation (Some s) t ns)) (target : AreFormed t) (source : AreFormed s.value) where
  abbrev pub now : CopyState
  now = record { places = s.places; target = t }

  pub state_formed : IsStateFormed first now
  state_formed = record {
    items = target.items;
    unsized = λ p j e. (kept_special s.value.special_types t target.special p j (i.source.still p (TypeItem j) e)).unsized;
    spans = target.spans;
  }

  -- imported items leave the items formed
  later_formed : (u : CopyState) → IsLater s.value first now u → IsStateFormed first u → AreFormed u.target
  later_formed u l f =
      let stays = Extends-stays t u.target l.extends in
      let same : t.special_types ≡ u.target.special_types = sym (special_same t u.target l.extends) in
      let more = λ (k : ℕ) (h : IsSpecial t.special_types k). subst (λ x. IsSpecial x k) same h in
      record {
        kinds = l.midway.kinds;
        keys = subst (λ (x : SpecialValue). IsDistinct nat_eq (map (λ e. e.0) x.predeclared_types)) same target.keys;
        items = f.items;
        special = subst (λ x. All (AreSpecialIn u.target) (special_entries x)) same (All-weaker (AreSpecialIn t) (AreSpecialIn u.target) (λ e h. special_later t u.target stays target.items more e.1 h) (special_entries t.special_types) target.special);
        spans = f.spans;
      }

  pub put_items : (u : CopyState) → Putting s.value s.offset now u → AreFormed u.target
  put_items u p = later_formed u (putting_later s.value s.offset first now u i.source.copyable.kinds i.source.midway p) (putting_formed s.value s.offset first i.source.copyable.kinds source.items source.spans now u i.source.midway p state_formed)

  pub put_types : (name : Option Text) (k : ℕ) (u : CopyState) → TypePutting s.value s.offset name k now u → AreFormed u.target
  put_types name k u p = later_formed u (type_putting_later s.value s.offset first name k now u i.source.copyable.kinds i.source.midway p) (type_putting_formed s.value s.offset first i.source.copyable.kinds source.items source.spans name k now u i.source.midway p state_formed)

import_any : (first : Kept) (o : Option Source) (t : ModuleValue) (ns : List (List ℕ × ℕ)) (p : ItemPlace) → HasFormedItems first (derivation o t ns) → HasItem (derivation o t ns) p → HasFormedItems first (import_item (derivation o t ns) p)
import_any first None t ns p f h = absurd (false≢true h.0)
import_any first (Some s) t ns p f h = record {
  derivation = (import_law first (derivation (Some s) t ns) p f.derivation h).derivation;
  target = put_items first s t ns f.derivation f.target f.source (copy_item s.value s.offset (record { places = s.places; target = t }) p) (item_puts s.value s.offset first f.derivation.source.copyable p h.1 (record { places = s.places; target = t }) f.derivation.source.midway);
  source = f.source;
}

pub import_formed : (first : Kept) (d : Derived) (p : ItemPlace) → HasFormedItems first d → HasItem d p → HasFormedItems first (import_item d p)
import_formed first d p f h = import_any first d.source d.target d.function_names p f h

rename_any : (first : Kept) (o : Option Source) (t : ModuleValue) (ns : List (List ℕ × ℕ)) (k : ℕ) (name : Option Text) → HasFormedItems first (derivation o t ns) → HasItem (derivation o t ns) (TypeItem k) → HasFormedItems first (rename_type (derivation o t ns) k name)
rename_any first None t ns k name f h = absurd (false≢true h.0)
rename_any first (Some s) t ns k name f h = record {
  derivation = (rename_law first (derivation (Some s) t ns) k name f.derivation h).derivation;
  target = put_types first s t ns f.derivation f.target f.source name k (copy_named_type s.value s.offset name (record { places = s.places; target = t }) k) (type_puts s.value s.offset first f.derivation.source.copyable k name h.1 (record { places = s.places; target = t }) f.derivation.source.midway);
  source = f.source;
}

pub rename_formed : (first : Kept) (d : Derived) (k : ℕ) (name : Option Text) → HasFormedItems first d → HasItem d (TypeItem k) → HasFormedItems first (rename_type d k name)
rename_formed first d k name f h = rename_any first d.source d.target d.function_names k name f h

pub nothing_has : (first : Kept) → HasFormedItems first nothing
nothing_has first = record { derivation = nothing_derived first; target = nothing_formed; source = tt }

pub cleared_has : (first later : Kept) (d : Derived) → HasFormedItems first d → HasFormedItems later (cleared d)
cleared_has first later d f = record { derivation = cleared_derived first later d f.derivation; target = f.target; source = tt }

-- ---- a source is set

span_having : (t : ModuleValue) (x : SpecialValue) (p : ItemPlace) → span_at (having t x) p ≡ span_at t p
unfolding span_at
span_having t x (TypeItem k) = refl
span_having t x (ConstantItem k) = refl
span_having t x (OverrideItem k) = refl
span_having t x (GlobalItem k) = refl
span_having t x (ExpressionItem k) = refl

spans_having : (t : ModuleValue) (x : SpecialValue) → AreSpansFine t 4294967295 → AreSpansFine (having t x) 4294967295
spans_having t x h p s e = h p s (sym (span_having t x p) ∙ e)

same_handle : (o : Option ItemPlace) (a b : ℕ) → o ≡ Some (TypeItem a) → o ≡ Some (TypeItem b) → a ≡ b
same_handle o a b e f = let g : Some (TypeItem a) ≡ Some (TypeItem b) = sym e ∙ f in cc

is_key_special : (m x : SpecialValue) (p : ItemPlace) (j : ℕ) → kept_of m x p ≡ Some (TypeItem j) → IsSpecial x j
unfolding kept_of
is_key_special m x (TypeItem k) j e =
    let o = some_mapped (kept_in (special_at x) (special_entries m) k) (TypeItem j) e in
    let is : j ≡ o.0 = (let g : TypeItem j ≡ TypeItem o.0 = o.2 in cc) in
    let key = kept_key (special_at x) (special_entries m) k o.0 o.1 in
    subst (IsSpecial x) (sym is) (key_special x key.0 o.0 key.1)
is_key_special m x (ConstantItem k) j e = cc
is_key_special m x (OverrideItem k) j e = cc
is_key_special m x (GlobalItem k) j e = cc
is_key_special m x (ExpressionItem k) j e = cc

module _ (first : Kept) (d : Derived) (m : ModuleValue) (shift : ℕ) (f : HasFormedItems first d) (source : AreFormed m) where
  c : IsCopyable m
  c = (formed_copyable m source).0

  a : AreSpecial m
  a = (formed_copyable m source).1

  abbrev es : List Entry
  es = special_entries m.special_types

  abbrev kept_first : Kept
  kept_first = kept_of m.special_types d.target.special_types

  abbrev copied : CopyState
  copied = copy_special d m shift

  abbrev specials : SpecialValue
  specials = with_specials copied.target.special_types (type_under copied.places) es

  abbrev ended : ModuleValue
  ended = having copied.target specials

  midway : IsMidway m kept_first (start d m)
  midway = midway_first first d m f.derivation a

  putting : Putting m shift (start d m) copied
  putting = all_puts m shift kept_first c (special_names es) (as_names (HasAt m) es a.there) (start d m) midway

  later : IsLater m kept_first (start d m) copied
  later = putting_later m shift kept_first (start d m) copied c.kinds midway putting

  begins_formed : IsStateFormed kept_first (start d m)
  begins_formed = record {
    items = f.target.items;
    unsized = λ p j e. (kept_special m.special_types d.target f.target.special p j e).unsized;
    spans = f.target.spans;
  }

  ends_formed : IsStateFormed kept_first copied
  ends_formed = putting_formed m shift kept_first c.kinds source.items source.spans (start d m) copied midway putting begins_formed

  worlds : world ended ≡ world copied.target
  worlds = world_having copied.target specials

  same : d.target.special_types ≡ copied.target.special_types
  same = sym (special_same d.target copied.target later.extends)

  items_ended : ItemsStand (world ended)
  items_ended = subst ItemsStand (sym worlds) ends_formed.items

  stays : Stays (world d.target) (world ended)
  stays = subst (Stays (world d.target)) (sym worlds) (Extends-stays d.target copied.target later.extends)

  special_still : (k : ℕ) → IsSpecial d.target.special_types k → IsSpecial specials k
  special_still k h =
      let among = without_all (λ (e : Entry). IsSpecial specials e.1) copied.target.special_types (type_under copied.places) es (specials_among specials) in
      special_more d.target.special_types specials (subst (λ x. All (λ (e : Entry). IsSpecial specials e.1) (special_entries x)) (sym same) among) k h

  old_special : (k : ℕ) → MayBeSpecial d.target k → MayBeSpecial ended k
  old_special k h = special_later d.target ended stays f.target.items special_still k h

  sets : SetsOnly m shift d (set_source d m shift)
  sets = set_law first d m shift f.derivation c a

  went : All (λ (e : Entry). WentSomewhere (goes copied.places) (Some (TypeItem e.1))) es
  went = from_names (λ p. (q : ItemPlace) × (goes copied.places p ≡ Some q)) es (copied_all m shift kept_first (start d m) (special_names es) c midway (as_names (HasAt m) es a.there)).1

  abbrev last : CopyState
  last = record { places = copied.places; target = ended }

  -- a special type of the source maps to a special one
  gone_special : (k j : ℕ) → goes copied.places (TypeItem k) ≡ Some (TypeItem j) → IsSpecial m.special_types k → IsSpecial specials j
  gone_special k j g h =
      let e = special_entry_of (Settles d (set_source d m shift) (record { value = m; offset = shift; places = copied.places })) es k sets.settles h in
      let at : goes copied.places (TypeItem k) ≡ Some (TypeItem e.2.at) = subst (λ x. goes copied.places (TypeItem x) ≡ Some (TypeItem e.2.at)) e.1 e.2.went in
      subst (IsSpecial specials) (same_handle (goes copied.places (TypeItem k)) e.2.at j at g) (is_key_special m.special_types specials (TypeItem e.0.1) e.2.at e.2.stands)

  plain_copy : (k j : ℕ) (r copy : Row) → goes copied.places (TypeItem k) ≡ Some (TypeItem j) → copy.label ≡ r.label → IsPlain m.special_types k r → IsPlain specials j copy
  plain_copy k j r copy g l (inl e) = inl (ap (λ x. x.name) l ∙ e)
  plain_copy k j r copy g l (inr h) = inr (gone_special k j g h)

  plain_copies : CopiesHave (reads_now m last) (world m) kept_first (goes copied.places) (IsPlain m.special_types) (IsPlain specials)
  plain_copies k j source_row r copy g n at e names is h =
      let reads : reads_now m last (TypeItem k) ≡ world m (TypeItem k) = ap (λ (w : World). w (TypeItem k)) sets.set.1.reads ∙ named_none (world m) (world d.target) kept_first (TypeItem k) n in
      let row : source_row ≡ r = same_rows source_row r (reads_now m last (TypeItem k)) (reads ∙ at) e in
      plain_copy k j r copy g is.label (subst (IsPlain m.special_types k) row h)

  names_last : NamesAs (reads_now m last) (world m)
  names_last = record { names = named_names (world m) (world ended) (goes copied.places) }

  kept_plain : KeptReach (world ended) kept_first (IsPlain specials)
  kept_plain p j e = (old_special j (kept_special m.special_types d.target f.target.special p j e)).plain

  new_special : (e : Entry) → MayBeSpecial m e.1 → WentSomewhere (goes copied.places) (Some (TypeItem e.1)) → MayBeSpecial ended (type_under copied.places e.1)
  new_special e h w =
      let j = type_under copied.places e.1 in
      let g : goes copied.places (TypeItem e.1) ≡ Some (TypeItem j) = goes_renamed shift copied.places (TypeItem e.1) w.0 w.1 in
      let unsized = unsized_here m kept_first copied later.midway source.items ends_formed.items ends_formed.unsized e.1 j g h.unsized in
      record {
        there = subst (λ v. IsIn v (TypeItem j)) (sym worlds) (later.midway.copied.there (TypeItem e.1) (TypeItem j) g);
        unsized = subst (λ v. IsUnsized v j) (sym worlds) unsized;
        plain = reach_copied (reads_now m last) (world m) (world ended) kept_first (goes copied.places) (IsPlain m.special_types) (IsPlain specials) sets.derivation.source.midway.copied names_last (keeps_kinds copied.places) plain_copies kept_plain e.1 j g h.plain;
      }

  new_specials : All (λ (e : Entry). MayBeSpecial ended (type_under copied.places e.1)) es
  new_specials = all_both (AreSpecialIn m) (λ (e : Entry). WentSomewhere (goes copied.places) (Some (TypeItem e.1))) (λ (e : Entry). MayBeSpecial ended (type_under copied.places e.1)) new_special es source.special went

  ended_formed : AreFormed ended
  ended_formed = record {
    kinds = sets.derivation.kinds;
    keys = keys_all copied.target.special_types (type_under copied.places) es (subst (λ (x : SpecialValue). IsDistinct nat_eq (map (λ e. e.0) x.predeclared_types)) same f.target.keys);
    items = items_ended;
    special = with_all (AreSpecialIn ended) copied.target.special_types (type_under copied.places) es (subst (λ x. All (AreSpecialIn ended) (special_entries x)) same (All-weaker (AreSpecialIn d.target) (AreSpecialIn ended) (λ e h. old_special e.1 h) (special_entries d.target.special_types) f.target.special)) new_specials;
    spans = spans_having copied.target specials ends_formed.spans;
  }

  pub set_formed : HasFormedItems kept_first (set_source d m shift)
  set_formed = record { derivation = sets.derivation; target = ended_formed; source = source }
