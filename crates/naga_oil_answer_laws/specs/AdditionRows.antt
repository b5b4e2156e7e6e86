-- Worked rows: additions, made and refused, and what they change of a composer.
use Rattle.std.proofs.Common.{◌≡◌, inl, ℕ, List, [], ◌∷◌, length, Option, Some, None, Result, Ok, Err, MatchOption, refl, ap, sym, subst, ◌∙◌}
use lib.Utf8.{encode}
use Rattle.std.specs.Prelude.{codes}
use Rattle.std.specs.Str.{chars, trim_start, trim_end}
use Rattle.ucd_perl.proofs.Computing.{ucd_perl}
use Rattle.unicode_ident.specs.Ident.{is_xid_start, is_xid_continue}
use Rattle.unicode_ident.proofs.Computing.{unicode_ident}
use Rattle.naga_oil_ir.specs.declared.language.ShaderLanguage.TheVariants.{Wgsl}
use Rattle.naga_oil_lines.specs.Cover.{cover}
use Rattle.naga_oil_lines.specs.Directives.{no_directives}
use Rattle.naga_oil_lines.specs.Text.{past_word}
use Rattle.naga_oil_lines.specs.Tokens.{lexemes, more_in_token, tail_len}
use Rattle.naga_oil_words.specs.Texts.{in_order}
use Rattle.naga_oil_imports.specs.Leaves.{parts, leaves_of, line_leaves}
use Rattle.naga_oil_imports.specs.Substituted.{paths_for, path_text, mentions_at}
use Rattle.naga_oil_conditions.specs.Computing.{line_kinds}
use Rattle.naga_oil_conditions.specs.Fault.{no_module_name}
use Rattle.naga_oil_conditions.specs.Replaced.{name_at, name_in_braces, hash_name, pieces, replaced_from, replaced, hash_names}
use Rattle.naga_oil_conditions.specs.View.{fault_of}
use Rattle.naga_oil_pre.specs.DirectiveLines.{cut_at, listed, treated, directive_of}
use Rattle.naga_oil_pre.specs.Extracted.{taken_out, extracted}
use Rattle.naga_oil_pre.specs.Metadata.{metadata}
use Rattle.naga_oil_pre.specs.Recorded.{names_from, names_of}
use Rattle.naga_oil_registry.specs.Added.{counter_after, read_source, described, new_definition, shown_by}
use Rattle.naga_oil_registry.specs.Descriptor.{ModuleSource, no_module}
use Rattle.naga_oil_registry.specs.Registered.{Registered}
use Rattle.naga_oil_registry.specs.Registry.{reaches, free_among, free_index}
use Rattle.naga_oil_registry.specs.Sanitized.{first_decoration, sanitized}
use Rattle.naga_oil_link.specs.BuiltModule.{nothing_built}
use Rattle.naga_oil_build.specs.declared.settings.Settings.{Settings as CodeSettings}
use Rattle.naga_oil.specs.Addition.{addition}
use Rattle.naga_oil.specs.Refused.{Refused, in_given, nowhere, place_of, refused_of}
use Rattle.naga_oil.specs.State.{State, Adds, forget_with, nothing_registered}
use Rattle.naga_oil.specs.Store.{Kept}
use Rattle.naga_oil.specs.declared.compose.error.ComposerError.{ComposerError}

-- `unfolding texts` lets `refl` compute what is found in a text
unfoldable pub texts : Unit {0}
unfolding cover line_kinds chars encode ucd_perl unicode_ident is_xid_start is_xid_continue lexemes more_in_token tail_len line_leaves leaves_of parts paths_for path_text mentions_at read_source first_decoration sanitized described metadata extracted taken_out cut_at listed treated directive_of trim_start trim_end in_order names_from names_of past_word replaced replaced_from pieces name_at name_in_braces hash_name hash_names
texts = tt

-- ---- definitions

abbrev pub text : List ℕ
text = codes "fn f() {}"

-- a module `m`, as it is added
abbrev pub added : ModuleSource
added = record no_module { source = text; as_name = Some (codes "m") }

-- one without a name
abbrev pub unnamed : ModuleSource
unnamed = record no_module { source = text }

abbrev pub definition : Registered
definition = record {
  name = codes "m";
  source = text;
  language = Wgsl;
  file_path = [];
  defs = [];
  effective = [];
  imports = [];
  additional = [];
  directives = no_directives;
  index = 1;
}

pub first_addition : addition [] 0 added ≡ Ok definition
unfolding addition texts new_definition free_index free_among
first_addition = refl

-- where it is registered already, it comes in place of itself
pub second_addition : addition (definition ∷ []) 0 added ≡ Ok definition
unfolding addition reaches texts new_definition free_index free_among
second_addition = refl

-- without a name it is refused, whatever is registered
pub no_name : (ds : List Registered) → addition ds 0 unnamed ≡ Err (record { fault = no_module_name; place = in_given [] text })
unfolding addition texts
no_name ds = refl

pub counter_is : counter_after 0 text ≡ 0
unfolding read_source first_decoration sanitized
counter_is = refl

pub same_definition : (r : Result Registered Refused) (d : Registered) → r ≡ Ok definition → r ≡ Ok d → definition ≡ d
same_definition r d p q = same (sym p ∙ q)
  where
    same : ◌≡◌ {A = Result Registered Refused} (Ok definition) (Ok d) → definition ≡ d
    same e = cc

-- ---- additions to a composer

-- an addition replies an index
abbrev pub AddsTo : {B : Type 0} → State B → ModuleSource → Result ℕ ComposerError → State B → Type 0
AddsTo old m result new = Adds (λ i. i) (λ d. d.index) old m result new

-- a kept build of `m`
abbrev one_kept : Kept
one_kept = (record { name = codes "m"; defs = [] }, nothing_built [] 1) ∷ []

module _ {B : Type 0} (settings : CodeSettings B) where
  abbrev pub empty : State B
  empty = nothing_registered settings

  abbrev pub with_kept : Kept → (count : ℕ) → State B
  with_kept kept count = record { settings = settings; registry = definition ∷ []; counter = 0; kept = kept; builds = count }

  -- `m` is registered
  pub adds : AddsTo empty added (Ok 1) (with_kept [] 0)
  adds = record {
    reply = ap (shown_by (λ (d : Registered). d.index)) first_addition;
    counter = record { exact = sym counter_is; either = inl refl };
    registry = (definition, first_addition, refl);
    kept = (definition, first_addition, refl);
    refused = tt;
    rest = refl;
  }

  -- a composer to which nothing comes
  adds_nothing_is_refused : AddsTo empty added (Ok 1) empty → ⊥
  adds_nothing_is_refused h = let e : ◌≡◌ {A = ℕ} 0 1 = ap length h.registry.2 in absurd cc

  another_index_is_refused : (new : State B) → AddsTo empty added (Ok 2) new → ⊥
  another_index_is_refused new h = other (sym (ap (shown_by (λ (d : Registered). d.index)) first_addition) ∙ h.reply)
    where
      other : ◌≡◌ {A = Result ℕ Refused} (Ok 1) (Ok 2) → ⊥
      other e = absurd cc

  -- `m` is added again: its kept build is forgotten, and the number of builds ever kept stays
  adds_again : AddsTo (with_kept one_kept 1) added (Ok 1) (with_kept [] 1)
  unfolding reaches
  adds_again = record {
    reply = ap (shown_by (λ (d : Registered). d.index)) second_addition;
    counter = record { exact = sym counter_is; either = inl refl };
    registry = (definition, second_addition, refl);
    kept = (definition, second_addition, refl);
    refused = tt;
    rest = refl;
  }

  keeps_its_build_is_refused : AddsTo (with_kept one_kept 1) added (Ok 1) (with_kept one_kept 1) → ⊥
  unfolding reaches
  keeps_its_build_is_refused h = forgotten h.kept.0 (same_definition (addition (definition ∷ []) 0 added) h.kept.0 second_addition h.kept.1) h.kept.2
    where
      forgotten : (d : Registered) → definition ≡ d → one_kept ≡ forget_with (definition ∷ []) d.name one_kept → ⊥
      forgotten d e k = let n : ◌≡◌ {A = ℕ} 1 0 = ap length (k ∙ ap (λ (x : Registered). forget_with (definition ∷ []) x.name one_kept) (sym e)) in absurd cc

  -- ---- a refused addition

  module _ (e : ComposerError) (told : refused_of e ≡ Some (record { fault = no_module_name; place = in_given [] text })) where
    -- it leaves all as it is
    adds_none : AddsTo (with_kept one_kept 1) unnamed (Err e) (with_kept one_kept 1)
    adds_none = record {
      reply = subst (λ (o : Option Refused). MatchOption o (place_of e.source ≡ nowhere) (λ r. shown_by (λ (d : Registered). d.index) (addition (definition ∷ []) 0 unnamed) ≡ Err r)) (sym told) (ap (shown_by (λ (d : Registered). d.index)) (no_name (definition ∷ [])));
      counter = record { exact = anyhow (fault_of e.inner); either = inl refl };
      registry = tt;
      kept = tt;
      refused = refl;
      rest = refl;
    }
      where
        anyhow : {F : Type 0} (o : Option F) → MatchOption o (Unit {0}) (λ f. 0 ≡ counter_after 0 text)
        anyhow None = tt
        anyhow (Some f) = sym counter_is

    forgets_is_refused : AddsTo (with_kept one_kept 1) unnamed (Err e) (with_kept [] 1) → ⊥
    forgets_is_refused h = let n : ◌≡◌ {A = ℕ} 0 1 = ap (λ (s : State B). length s.kept) h.refused in absurd cc

  -- what has no name isn't added
  adds_unnamed_is_refused : (index : ℕ) (new : State B) → AddsTo (with_kept one_kept 1) unnamed (Ok index) new → ⊥
  adds_unnamed_is_refused index new h = never index (sym (ap (shown_by (λ (d : Registered). d.index)) (no_name (definition ∷ []))) ∙ h.reply)
    where
      never : (index : ℕ) {f : Refused} → ◌≡◌ {A = Result ℕ Refused} (Err f) (Ok index) → ⊥
      never index e = absurd cc
