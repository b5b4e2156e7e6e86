-- Numbers and texts, worked by hand.
use Rattle.std.specs.Prelude.{◌≡◌, refl, ℕ, List, [], ◌∷◌, ◌*◌, ◌+◌, ◌-◌, map, codes}
use Rattle.std.specs.Fmt.{digits}
use Rattle.yettuvam_wgsl_pieces.specs.Layout.{spell, spell_from}
use Rattle.yettuvam_wgsl_pieces.specs.Numbers.{literal_text, bias}
use Rattle.yettuvam_wgsl_pieces.specs.Pieces.{Word, Letters, Sign, text}
use Rattle.yettuvam_wgsl_pieces.specs.declared.sign.Sign.TheVariants as sign

-- a decimal float of a class without an exponent of its own: the kind that keeps an exponent e below 0
abbrev pub places : ℕ → ℕ → ℕ
places class e = class + (bias - e) * 4294967296

-- the kind of a float with a greater exponent
abbrev pub powers : ℕ → ℕ → ℕ
powers class e = class + (bias + e) * 4294967296

-- each literal has the text beside it
abbrev pub Spelled : List ((ℕ × ℕ) × List ℕ) → Type 0
Spelled es = map (λ e. literal_text e.0.0 e.0.1) es ≡ map (λ e. e.1) es

literal_rows : Spelled (((0, 1), codes "true") ∷ ((0, 0), codes "false") ∷ ((1, 42), codes "42") ∷ ((3, 7), codes "7u") ∷ ((19, 255), codes "0xffu") ∷ ((2, 5), codes "5i") ∷ [])
unfolding literal_text digits
literal_rows = refl

float_rows : Spelled (((powers 4 0, 1), codes "1.") ∷ ((powers 5 0, 1), codes "1f") ∷ ((places 4 2, 150), codes "1.50") ∷ ((places 6 1, 5), codes "0.5h") ∷ ((places 4 3, 5), codes "0.005") ∷ ((powers 4 5, 12), codes "12e5") ∷ ((places 5 41, 12), codes "12e-41f") ∷ [])
unfolding literal_text digits
float_rows = refl

hexadecimal_rows : Spelled (((powers 4 3 + 16, 1), codes "0x1p3") ∷ ((places 5 4 + 16, 24), codes "0x18p-4f") ∷ [])
unfolding literal_text digits
hexadecimal_rows = refl

letters_row : text (Letters 3 36) ≡ codes "xyz"
letters_row = refl

colors_row : text (Letters 2 265) ≡ codes "gb"
colors_row = refl

-- an `if` in a function: lines are indented by their depth, and `else` follows the brace on its line
if_row : spell
    (Sign sign.FnWord ∷ Word (codes "f") ∷ Sign sign.LeftParen ∷ Sign sign.RightParen ∷ Sign sign.LeftBrace
    ∷ Sign sign.IfWord ∷ Sign sign.Not ∷ Word (codes "a") ∷ Sign sign.LeftBrace ∷ Sign sign.ReturnWord ∷ Sign sign.Semicolon ∷ Sign sign.RightBrace
    ∷ Sign sign.ElseWord ∷ Sign sign.LeftBrace ∷ Sign sign.RightBrace ∷ Sign sign.RightBrace ∷ [])
    ≡ codes "fn f() {\n    if !a {\n        return;\n    } else {}\n}\n"
unfolding spell_from
if_row = refl

-- an empty line stands between two items
items_row : spell
    (Sign sign.AliasWord ∷ Word (codes "A") ∷ Sign sign.Equal ∷ Word (codes "vec4") ∷ Sign sign.TemplateOpen ∷ Word (codes "f32") ∷ Sign sign.TemplateClose ∷ Sign sign.Semicolon
    ∷ Sign sign.At ∷ Word (codes "vertex") ∷ Sign sign.FnWord ∷ Word (codes "g") ∷ Sign sign.LeftParen ∷ Sign sign.RightParen ∷ Sign sign.LeftBrace ∷ Sign sign.RightBrace ∷ [])
    ≡ codes "alias A = vec4<f32>;\n\n@vertex\nfn g() {}\n"
unfolding spell_from
items_row = refl
