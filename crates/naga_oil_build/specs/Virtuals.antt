-- Functions that may be overridden, and those that override them: a text marks both with keywords.
use Rattle.std.specs.Prelude.{◌≡◌, ◌<◌, ℕ, Bool, not, ◌&&◌, ◌||◌, ◌==◌, nat_eq, ◌+◌, ◌-◌, if◌then◌else◌, Option, Some, None, option_map, Result, Ok, Err, List, [], ◌∷◌, ◌++◌, length, take, drop, map, fold, bytes_eq, codes}
use Rattle.std.specs.List.{list_any, list_all, starts_with, ends_with}
use Rattle.std.specs.Option.{option_or}
use Rattle.std.specs.Str.{chars}
use Rattle.ucd_perl.specs.Perl.{is_word_char}
use Rattle.naga_oil_lines.specs.Decorate.{decoded}
use Rattle.naga_oil_words.specs.Marks.{module_mark, override_mark}
use Rattle.naga_oil_words.specs.Texts.{with_name, is_among}
use Rattle.naga_oil_words.specs.OptionSteps.{◌>>=◌}
use Rattle.naga_oil_imports.specs.Uses.{Import}
use Rattle.naga_oil_conditions.specs.Fault.{Fault, import_not_found, not_virtual}
use Rattle.naga_oil_link.specs.BuiltModule.{BuiltModule, Overriding, Builds}
use Rattle.naga_oil_registry.specs.Keywords.{MarkedFunction, covered_text, marked_in, put, with_edits}
use Rattle.naga_oil_build.specs.Overriding.{build_named, overridden}

-- the names of functions, each once, in byte order
abbrev pub names_of : List MarkedFunction → List (List ℕ)
names_of fs = fold with_name [] (map (λ f. f.name) fs)

-- edits with other characters in place of each keyword
abbrev pub blanked : (blank : List ℕ) → (edits : ℕ → Option ℕ) → List MarkedFunction → ℕ → Option ℕ
blanked blank edits fs = fold (λ es f. put es f.keyword blank) edits fs

-- a decorated name is an item, the mark of a module, its code and an `X`
pub record AreItemAndCode (name item code : List ℕ) : Type 0 where
  pub parts : name ≡ item ++ (module_mark ++ (code ++ codes "X"))
  pub named : 0 < length item
  pub coded : 0 < length code

-- the name, in a build with this decoration, of a function that overrides an item of a module with this code
abbrev pub override_name : (item code decoration : List ℕ) → List ℕ
override_name item code decoration = item ++ override_mark ++ code ++ codes "X" ++ decoration

-- edits that blank the keyword of a function, and put the mark of an override after the item's name
abbrev pub marked_override : (edits : ℕ → Option ℕ) → MarkedFunction → (item : List ℕ) → ℕ → Option ℕ
marked_override edits f item = put (put edits f.keyword (codes "        ")) (f.place + length item) override_mark

-- the build of an imported module
abbrev pub imported_build : Builds → List Import → (module_name : List ℕ) → Option BuiltModule
imported_build builds imports module_name = if list_any (λ i. bytes_eq i.import module_name) imports then build_named builds module_name else None

abbrev pub unless_virtual : (any : Bool) → (module_name item : List ℕ) → (place : ℕ) → Option BuiltModule → Option Fault
unless_virtual any module_name item place None = Some (import_not_found module_name (place + length item + 16))
unless_virtual any module_name item place (Some b) = if any || is_among b.virtuals item then None else Some (not_virtual item place)

-- why an item of a module can't be overridden by the function whose name is at the place: the module isn't imported, or the item
-- isn't virtual there and not every function may be overridden
abbrev pub override_fault : (any : Bool) → Builds → List Import → (module_name item : List ℕ) → (place : ℕ) → Option Fault
override_fault any builds imports module_name item place = unless_virtual any module_name item place (imported_build builds imports module_name)

-- what precedes the last mark in a text, and what follows it
unfoldable pub around_last : (mark text : List ℕ) → Option (List ℕ × List ℕ)
around_last mark [] = None
around_last mark (b ∷ more) = option_or (option_map (λ p. (b ∷ p.0, p.1)) (around_last mark more)) (if starts_with nat_eq (b ∷ more) mark then Some ([], drop (length mark) (b ∷ more)) else None)

-- a name without the `X` at its end
abbrev pub without_end : List ℕ → Option (List ℕ)
without_end name = if ends_with nat_eq name (codes "X") then Some (take (length name - 1) name) else None

-- whether these may be an item and a code: neither is empty, and the code consists of word characters
abbrev pub are_parts : (item code : List ℕ) → Bool
are_parts item code = not (length item == 0) && not (length code == 0) && list_all is_word_char (chars code)

-- the item and the code of its module in a decorated name
unfoldable pub item_and_code : List ℕ → Option (List ℕ × List ℕ)
item_and_code name = without_end name >>= around_last module_mark >>= λ p. if are_parts p.0 p.1 then Some p else None

-- what a text says of the functions that override others: its edits, what they override, and the last fault
pub record Overrides : Type 0 where
  pub edits : ℕ → Option ℕ
  pub overriding : Overriding
  pub fault : Option Fault

-- the item, the code and the module of a decorated name
abbrev pub item_and_module : List ℕ → Option (List ℕ × List ℕ × List ℕ)
item_and_module name = item_and_code name >>= λ p. option_map (λ module_name. (p.0, p.1, module_name)) (decoded p.1)

abbrev pub noted : (any : Bool) → Builds → List Import → (decoration : List ℕ) → Overrides → MarkedFunction → Option (List ℕ × List ℕ × List ℕ) → Overrides
noted any builds imports decoration o f None = o
noted any builds imports decoration o f (Some p) = record {
  edits = marked_override o.edits f p.0;
  overriding = overridden o.overriding f.name (override_name p.0 p.1 decoration);
  fault = option_or (override_fault any builds imports p.2 p.0 f.place) o.fault;
}

-- one more function: only one with a decorated name overrides another
abbrev pub with_override : (any : Bool) → Builds → List Import → (decoration : List ℕ) → Overrides → MarkedFunction → Overrides
with_override any builds imports decoration o f = noted any builds imports decoration o f (item_and_module f.name)

-- all of these functions
abbrev pub with_overrides : (any : Bool) → Builds → List Import → (decoration : List ℕ) → Overrides → List MarkedFunction → Overrides
with_overrides any builds imports decoration o fs = fold (with_override any builds imports decoration) o fs

-- ---- what a text says of functions by keywords
-- the functions that may be overridden
abbrev pub virtuals_in : (text : List ℕ) → List MarkedFunction
virtuals_in text = marked_in (codes "virtual") (covered_text text)

-- the edits that blank their keywords
abbrev pub virtual_edits : (text : List ℕ) → ℕ → Option ℕ
virtual_edits text = blanked (codes "       ") (λ at. None) (virtuals_in text)

-- the functions after the keyword of an override
abbrev pub overrides_in : (text : List ℕ) → List MarkedFunction
overrides_in text = marked_in (codes "override") (with_edits (virtual_edits text) (covered_text text))

abbrev pub told_in : (any : Bool) → Builds → List Import → (decoration : List ℕ) → Overriding → (text : List ℕ) → Overrides
told_in any builds imports decoration overriding text = with_overrides any builds imports decoration (record { edits = virtual_edits text; overriding = overriding; fault = None }) (overrides_in text)

-- the names of the functions that may be overridden, what is overridden by what, and the text without the keywords
pub record Functions : Type 0 where
  pub virtuals : List (List ℕ)
  pub overriding : Overriding
  pub text : List ℕ

abbrev pub unless_fault : {X : Type 0} → Option Fault → X → Result X Fault
unless_fault None x = Ok x
unless_fault (Some f) x = Err f

abbrev pub functions_told : (text : List ℕ) → Overrides → Result Functions Fault
functions_told text told = unless_fault told.fault (record { virtuals = names_of (virtuals_in text); overriding = told.overriding; text = with_edits told.edits text })

-- what a text says of its functions over what is imported, where some functions are overridden already; or the last fault
unfoldable pub functions_in : (any : Bool) → Builds → List Import → (decoration : List ℕ) → Overriding → (text : List ℕ) → Result Functions Fault
functions_in any builds imports decoration overriding text = functions_told text (told_in any builds imports decoration overriding text)
