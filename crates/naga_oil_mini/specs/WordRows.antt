-- Worked rows: the words of `oil`.
use lib.Utf8.{encode}
use Rattle.std.specs.Prelude.{◌≡◌, refl, negsuc, true, false, Some, None, [], ◌∷◌, Ok, Err, codes}
use Rattle.std.specs.Str.{chars}
use Rattle.ucd_perl.proofs.Computing.{ucd_perl}
use Rattle.naga_oil_conditions.specs.DefineValue.{defined_value}
use Rattle.naga_oil_conditions.specs.LineKinds.{is_name}
use Rattle.naga_oil_conditions.specs.Values.{read_u32, read_i32, read_bool}
use Rattle.naga_oil_conditions.specs.declared.shader_def.ShaderDefValue.TheVariants as def
use Rattle.naga_oil_mini.specs.Defined.{definition_word, definitions_among}
use Rattle.naga_oil_mini.specs.Words.{added_import, asked}
use Rattle.naga_oil_mini.specs.declared.mini.words.Task.TheVariants.{Preprocess, Make}

-- `unfolding words_unfold` lets `refl` compute the definitions of words
unfoldable words_unfold : Unit {0}
unfolding is_name defined_value read_u32 read_i32 read_bool chars encode ucd_perl
words_unfold = tt

-- ---- words
pub pre_of_a_file : asked (codes "pre" ∷ codes "K=2" ∷ codes "t.txt" ∷ []) ≡ Some (record { task = Preprocess; override_any = false; files = codes "t.txt" ∷ []; imports = [] })
pre_of_a_file = refl

pub pre_of_two_files : asked (codes "pre" ∷ codes "t.txt" ∷ codes "t.txt" ∷ []) ≡ None
pre_of_two_files = refl

pub pre_with_an_import : asked (codes "pre" ∷ codes "t.txt" ∷ codes "+a" ∷ []) ≡ None
pre_with_an_import = refl

pub make_of_files : asked (codes "make" ∷ codes "top.txt" ∷ codes "+b" ∷ codes "a.txt" ∷ codes "X=" ∷ codes "+c" ∷ []) ≡ Some (record { task = Make; override_any = false; files = codes "top.txt" ∷ codes "a.txt" ∷ []; imports = codes "b" ∷ codes "c" ∷ [] })
make_of_files = refl

pub make_of_no_file : asked (codes "make" ∷ codes "+a" ∷ codes "A=" ∷ []) ≡ None
make_of_no_file = refl

pub make_with_the_option : asked (codes "make" ∷ codes "--override-any" ∷ codes "top.txt" ∷ []) ≡ Some (record { task = Make; override_any = true; files = codes "top.txt" ∷ []; imports = [] })
make_with_the_option = refl

-- elsewhere the option is the name of a file
pub option_after_a_file : asked (codes "make" ∷ codes "top.txt" ∷ codes "--override-any" ∷ []) ≡ Some (record { task = Make; override_any = false; files = codes "top.txt" ∷ codes "--override-any" ∷ []; imports = [] })
option_after_a_file = refl

pub pre_of_the_option : asked (codes "pre" ∷ codes "--override-any" ∷ []) ≡ Some (record { task = Preprocess; override_any = false; files = codes "--override-any" ∷ []; imports = [] })
pre_of_the_option = refl

pub make_of_the_option_alone : asked (codes "make" ∷ codes "--override-any" ∷ []) ≡ None
make_of_the_option_alone = refl

pub other_command : asked (codes "post" ∷ codes "t.txt" ∷ []) ≡ None
other_command = refl

pub definition_first : added_import (codes "+a=1") ≡ None
definition_first = refl

-- ---- definitions
pub number_given : definition_word (codes "K=2") ≡ Some (codes "K", def.UInt 2)
unfolding words_unfold
number_given = refl

pub nothing_given : definition_word (codes "K=") ≡ Some (codes "K", def.Bool true)
unfolding words_unfold
nothing_given = refl

pub below_zero : definition_word (codes "K=-2") ≡ Some (codes "K", def.Int (negsuc 1))
unfolding words_unfold
below_zero = refl

pub sign_plus : definition_word (codes "A=+1") ≡ None
unfolding words_unfold
sign_plus = refl

pub no_name : definition_word (codes "=1") ≡ None
unfolding words_unfold
no_name = refl

pub later_equals : definition_word (codes "A=1=2") ≡ None
unfolding words_unfold
later_equals = refl

-- the last with a name counts
pub one_after_the_other : definitions_among (codes "K=2" ∷ codes "t.txt" ∷ codes "K=" ∷ []) ≡ Ok ((codes "K", def.Bool true) ∷ [])
unfolding words_unfold
one_after_the_other = refl

pub in_order_of_names : definitions_among (codes "B=2" ∷ codes "A=1" ∷ []) ≡ Ok ((codes "A", def.UInt 1) ∷ (codes "B", def.UInt 2) ∷ [])
unfolding words_unfold
in_order_of_names = refl

pub first_bad : definitions_among (codes "A=" ∷ codes "B=x1" ∷ codes "C=x2" ∷ []) ≡ Err (codes "B=x1")
unfolding words_unfold
first_bad = refl
