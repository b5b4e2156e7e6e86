-- Rows of lines with their `#` names replaced, computed.
use Rattle.std.proofs.Common.{◌≡◌, true, [], ◌∷◌, refl, cond, Some, None}
use lib.Utf8.{encode}
use Rattle.std.specs.Prelude.{codes, bytes_eq}
use Rattle.std.specs.Str.{chars}
use Rattle.ucd_perl.proofs.Computing.{ucd_perl}
use Rattle.naga_oil_conditions.specs.declared.shader_def.ShaderDefValue.TheVariants as def
use Rattle.naga_oil_conditions.specs.Fault.{Definitions}
use Rattle.naga_oil_conditions.specs.Replaced.{replaced, replaced_from, pieces, hash_name, name_at, name_in_braces, hash_names}

first_is_true : Definitions
first_is_true name = cond (bytes_eq name (codes "FIRST")) (Some (def.Bool true)) None

row : replaced first_is_true (codes "#MISSING * #FIRST") ≡ codes "#MISSING * true"
unfolding replaced replaced_from pieces hash_name name_at name_in_braces first_is_true chars encode ucd_perl
row = refl

braces : replaced first_is_true (codes "a#{FIRST}b # FIRST #{FIRST# FIRSTS##FIRST}") ≡ codes "atrueb true #{FIRST# FIRSTS#true}"
unfolding replaced replaced_from pieces hash_name name_at name_in_braces first_is_true chars encode ucd_perl
braces = refl

names : hash_names (codes "#A #{B|} ##{C} #{D# D") ≡ codes "A" ∷ codes "B|" ∷ codes "C" ∷ codes "D" ∷ []
unfolding hash_names pieces hash_name name_at name_in_braces chars encode ucd_perl
names = refl
