-- The laws of the tables, by computing each row.
use Rattle.std.proofs.Common.{◌≡◌, ℕ, List, map, Option, Some, None, refl, sym, ap, codes}
use Rattle.std.proofs.lemmas.Option.{same_Some}
use Rattle.yettuvam_wgsl_names.specs.Table.{Name, meaning}
use Rattle.yettuvam_wgsl_names.specs.Codes.{name_of, code_of}
use Rattle.yettuvam_wgsl_names.specs.Names.{predeclared_rows}
use Rattle.yettuvam_wgsl_names.specs.Words.{word_rows, keyword_rows}
use Rattle.yettuvam_wgsl_names.specs.Spelled.{spelled, scalar_rows, vector_rows, matrix_rows, sampler_rows, texture_rows, texel_format_rows, address_space_rows, access_mode_rows}
use Rattle.yettuvam_wgsl_names.specs.Functions.{functions}
use Rattle.yettuvam_wgsl_names.specs.Context.{built_in_value_rows, interpolation_type_rows, sampling_rows, attribute_rows, severity_rows, unary_operator_rows, binary_operator_rows}
use Rattle.yettuvam_wgsl_names.specs.Laws.{PredeclaredLaw, KeywordLaw, IsInverse, ContextLaw, OperatorLaw, ApartLaw, OrderLaw}
use Rattle.yettuvam_wgsl_names.specs.declared.names.Predeclared.{Predeclared}
use Rattle.yettuvam_wgsl_names.specs.declared.names.Predeclared.TheVariants.{Scalar, Vector, Matrix, Array, BindingArray, Atomic, Pointer, Sampler, Texture, TexelFormat, AddressSpace, Access, Function}
use Rattle.yettuvam_wgsl_names.specs.declared.words.Word.{Word}
use Rattle.yettuvam_wgsl_names.specs.declared.words.Word.TheVariants.{Keyword, Reserved}
use Rattle.yettuvam_wgsl_names.proofs.NameLemmas.{name_fact, code_fact, function_back}

abbrev read : Name → Option Predeclared
read n = meaning predeclared_rows n

all_spelled : map (λ e. spelled e.1) predeclared_rows ≡ map (λ e. Some e.0) predeclared_rows
all_spelled = refl

-- each row of a table of codes is read as it stands
abbrev AreNamesRead : List (ℕ × Name) → (ℕ → Predeclared) → Type 0
AreNamesRead es k = map (λ e. read e.1) es ≡ map (λ e. Some (k e.0)) es

table : (es : List (ℕ × Name)) (k : ℕ → Predeclared) (c : ℕ) (n : Name) → AreNamesRead es k → name_of es c ≡ Some n → read n ≡ Some (k c)
table es k c n s h = code_fact (λ c n. read n) (λ c n. Some (k c)) es c n s h

scalars : AreNamesRead scalar_rows Scalar
scalars = refl

vectors : AreNamesRead vector_rows Vector
vectors = refl

matrices : AreNamesRead matrix_rows Matrix
matrices = refl

samplers : AreNamesRead sampler_rows Sampler
samplers = refl

textures : AreNamesRead texture_rows Texture
textures = refl

formats : AreNamesRead texel_format_rows TexelFormat
formats = refl

spaces : AreNamesRead address_space_rows AddressSpace
spaces = refl

modes : AreNamesRead access_mode_rows Access
modes = refl

all_functions : map (λ e. read e.1.0) functions ≡ map (λ e. Some (Function e.0)) functions
all_functions = refl

back : (v : Predeclared) (n : Name) → spelled v ≡ Some n → read n ≡ Some v
back (Scalar c) n h = table scalar_rows Scalar c n scalars h
back (Vector c) n h = table vector_rows Vector c n vectors h
back (Matrix c) n h = table matrix_rows Matrix c n matrices h
back Array n h = ap read (sym (same_Some (codes "array") n h))
back BindingArray n h = ap read (sym (same_Some (codes "binding_array") n h))
back Atomic n h = ap read (sym (same_Some (codes "atomic") n h))
back Pointer n h = ap read (sym (same_Some (codes "ptr") n h))
back (Sampler c) n h = table sampler_rows Sampler c n samplers h
back (Texture c) n h = table texture_rows Texture c n textures h
back (TexelFormat c) n h = table texel_format_rows TexelFormat c n formats h
back (AddressSpace c) n h = table address_space_rows AddressSpace c n spaces h
back (Access c) n h = table access_mode_rows Access c n modes h
back (Function c) n h = function_back read Function functions c n all_functions h

pub predeclared_law : PredeclaredLaw
predeclared_law n v = (name_fact (λ n v. spelled v) (λ n v. Some n) predeclared_rows n v all_spelled, back v n)

-- the text of a keyword; of a reserved word the text itself
abbrev text_of : Name → Word → Option Name
text_of n (Keyword c) = name_of keyword_rows c
text_of n Reserved = Some n

texts : map (λ e. text_of e.0 e.1) word_rows ≡ map (λ e. Some e.0) word_rows
texts = refl

keywords : map (λ e. meaning word_rows e.1) keyword_rows ≡ map (λ e. Some (Keyword e.0)) keyword_rows
keywords = refl

pub keyword_law : KeywordLaw
keyword_law n c = (
  name_fact text_of (λ n w. Some n) word_rows n (Keyword c) texts,
  code_fact (λ c n. meaning word_rows n) (λ c n. Some (Keyword c)) keyword_rows c n keywords,
)

unread : map (λ e. read e.0) word_rows ≡ map (λ e. None) word_rows
unread = refl

pub apart_law : ApartLaw
apart_law n w h = name_fact (λ n w. read n) (λ n w. None) word_rows n w unread h

-- a table by its names
abbrev by_name : List (ℕ × Name) → List (Name × ℕ)
by_name es = map (λ e. (e.1, e.0)) es

-- each row of a table is read and named as it stands
inverse : (es : List (ℕ × Name)) → map (λ e. name_of es e.1) (by_name es) ≡ map (λ e. Some e.0) (by_name es) → map (λ e. code_of es e.1) es ≡ map (λ e. Some e.0) es → IsInverse es
inverse es names codes n c = (
  name_fact (λ n c. name_of es c) (λ n c. Some n) (by_name es) n c names,
  code_fact (λ c n. code_of es n) (λ c n. Some c) es c n codes,
)

pub context_law : ContextLaw
context_law = record {
  built_in_values = inverse built_in_value_rows refl refl;
  interpolation_types = inverse interpolation_type_rows refl refl;
  samplings = inverse sampling_rows refl refl;
  attributes = inverse attribute_rows refl refl;
  severities = inverse severity_rows refl refl;
}

pub operator_law : OperatorLaw
operator_law = record {
  unary = inverse unary_operator_rows refl refl;
  binary = inverse binary_operator_rows refl refl;
}

pub order_law : OrderLaw
order_law = record { predeclared = refl; words = refl }
