-- Worked rows: the words of the program.
use lib.Utf8.{encode}
use Rattle.std.specs.Prelude.{◌≡◌, refl, negsuc, true, false, Some, None, [], ◌∷◌, Ok, Err, codes}
use Rattle.std.specs.Str.{chars}
use Rattle.ucd_perl.proofs.Computing.{ucd_perl}
use Rattle.naga_oil_conditions.specs.DefineValue.{defined_value}
use Rattle.naga_oil_conditions.specs.LineKinds.{is_name}
use Rattle.naga_oil_conditions.specs.Values.{read_u32, read_i32, read_bool}
use Rattle.naga_oil_conditions.specs.declared.shader_def.ShaderDefValue.TheVariants as def
use Rattle.naga_oil_lines.specs.Text.{past_word}
use Rattle.yettuvam_build.specs.Defined.{definition_word, definitions_of}
use Rattle.yettuvam_build.specs.Words.{build, collected, command_of, is_request, no_request, own_text}
use Rattle.yettuvam_build.specs.declared.help.TheConstants.{HELP, VERSION}

-- ---- words

-- the first file is the shader's; options stand anywhere, and the word after an option belongs to it
requested_rows :
    (command_of (codes "build" ∷ codes "top" ∷ []) ≡ Some (build (record no_request { files = codes "top" ∷ [] })))
    × (command_of (codes "build" ∷ codes "-D" ∷ codes "K=2" ∷ codes "top" ∷ codes "--with" ∷ codes "b" ∷ codes "a" ∷ codes "-DL" ∷ codes "--override-any" ∷ [])
    ≡ Some (build (record { files = codes "top" ∷ codes "a" ∷ []; definitions = codes "K=2" ∷ codes "L" ∷ []; imports = codes "b" ∷ []; override_any = true })))
    × (command_of (codes "build" ∷ codes "-" ∷ codes "-D" ∷ codes "-x" ∷ []) ≡ Some (build (record no_request { files = codes "-" ∷ []; definitions = codes "-x" ∷ [] })))
    × (command_of (codes "build" ∷ codes "top" ∷ codes "--" ∷ codes "-D" ∷ codes "--" ∷ []) ≡ Some (build (record no_request { files = codes "top" ∷ codes "-D" ∷ codes "--" ∷ [] })))
    × (command_of (codes "--version" ∷ []) ≡ Some (own_text VERSION.now))
    × (command_of (codes "build" ∷ codes "-h" ∷ []) ≡ Some (own_text HELP.now))
unfolding is_request collected past_word
requested_rows = (refl, refl, refl, refl, refl, refl)

-- no file, an option without its word, an unknown option, another command
wrong_rows :
    (command_of [] ≡ None)
    × (command_of (codes "build" ∷ []) ≡ None)
    × (command_of (codes "build" ∷ codes "-D" ∷ codes "K" ∷ []) ≡ None)
    × (command_of (codes "build" ∷ codes "top" ∷ codes "-D" ∷ []) ≡ None)
    × (command_of (codes "build" ∷ codes "top" ∷ codes "--with" ∷ []) ≡ None)
    × (command_of (codes "build" ∷ codes "top" ∷ codes "--override" ∷ []) ≡ None)
    × (command_of (codes "build" ∷ codes "top" ∷ codes "--help" ∷ []) ≡ None)
    × (command_of (codes "make" ∷ codes "top" ∷ []) ≡ None)
unfolding is_request collected past_word
wrong_rows = (refl, refl, refl, refl, refl, refl, refl, refl)

-- ---- definitions

-- `unfolding words_unfold` lets `refl` compute the definitions of words
unfoldable words_unfold : Unit {0}
unfolding is_name defined_value read_u32 read_i32 read_bool chars encode ucd_perl
words_unfold = tt

defined_rows :
    (definition_word (codes "K=2") ≡ Some (codes "K", def.UInt 2))
    × (definition_word (codes "K=-2") ≡ Some (codes "K", def.Int (negsuc 1)))
    × (definition_word (codes "K=") ≡ Some (codes "K", def.Bool true))
    × (definition_word (codes "K") ≡ Some (codes "K", def.Bool true))
    × (definition_word (codes "K=false") ≡ Some (codes "K", def.Bool false))
unfolding words_unfold
defined_rows = (refl, refl, refl, refl, refl)

undefined_rows :
    (definition_word [] ≡ None)
    × (definition_word (codes "=1") ≡ None)
    × (definition_word (codes "A=+1") ≡ None)
    × (definition_word (codes "A=1=2") ≡ None)
    × (definition_word (codes "-x") ≡ None)
unfolding words_unfold
undefined_rows = (refl, refl, refl, refl, refl)

-- the last with a name counts; the first that isn't valid is reported
all_defined_rows :
    (definitions_of (codes "B=2" ∷ codes "A" ∷ codes "B=3" ∷ []) ≡ Ok ((codes "A", def.Bool true) ∷ (codes "B", def.UInt 3) ∷ []))
    × (definitions_of (codes "A" ∷ codes "B=x1" ∷ codes "C=x2" ∷ []) ≡ Err (codes "B=x1"))
unfolding words_unfold
all_defined_rows = (refl, refl)
