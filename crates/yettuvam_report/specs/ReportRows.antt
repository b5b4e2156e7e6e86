-- Worked rows: reports.
use lib.Utf8.{encode}
use Rattle.std.specs.Prelude.{◌≡◌, refl, List, ℕ, ◌++◌, ◌∷◌, [], codes}
use Rattle.std.specs.Fmt.{digits}
use Rattle.std.specs.Str.{chars}
use Rattle.yettuvam_report.specs.Report.{Mark, report}

abbrev mark : (start end : ℕ) (label : List ℕ) → Mark
mark start end label = record { start = start; end = end; label = label }

abbrev water : List ℕ
water = codes "fn f() {\nlet x = ripple(at);\n}\n"

-- a mark with a label, and a note
report_row :
    report (codes "no declaration of `ripple`") (codes "water.wgsl") water (mark 17 23 (codes "not declared") ∷ []) (codes "declare it" ∷ [])
    ≡ codes "error: no declaration of `ripple`\n"
    ++ (codes "  --> water.wgsl:2:9\n"
    ++ (codes "   |\n"
    ++ (codes " 2 | let x = ripple(at);\n"
    ++ (codes "   |         ^^^^^^ not declared\n"
    ++ codes "   = note: declare it\n"))))
unfolding report chars encode digits
report_row = refl

-- without a mark, the path alone
pathless_row : report (codes "too many modules") (codes "a.wgsl") water [] (codes "n" ∷ []) ≡ codes "error: too many modules\n" ++ (codes "  --> a.wgsl\n" ++ codes "   = note: n\n")
unfolding report chars encode digits
pathless_row = refl

-- two marks, each with its line; the gutter is as wide as the larger number; an empty mark has one `^`
two_row :
    report (codes "m") (codes "a") (codes "1\n2\n3\n4\n5\n6\n7\n8\n9\nten") (mark 18 20 (codes "x") ∷ mark 0 0 [] ∷ []) []
    ≡ codes "error: m\n"
    ++ (codes "   --> a:10:1\n" ++ (codes "    |\n" ++ (codes " 10 | ten\n" ++ (codes "    | ^^ x\n"
    ++ (codes "   --> a:1:1\n" ++ (codes "    |\n" ++ (codes "  1 | 1\n" ++ codes "    | ^\n")))))))
unfolding report chars encode digits
two_row = refl

-- a character of two bytes before the mark and one in it; a tab is shown as a space
wide_row :
    report (codes "m") (codes "a") (9 ∷ 195 ∷ 169 ∷ 32 ∷ 195 ∷ 169 ∷ []) (mark 4 6 [] ∷ []) []
    ≡ codes "error: m\n" ++ (codes "  --> a:1:4\n" ++ (codes "   |\n" ++ ((codes " 1 |  " ++ (195 ∷ 169 ∷ 32 ∷ 195 ∷ 169 ∷ 10 ∷ [])) ++ codes "   |    ^\n")))
unfolding report chars encode digits
wide_row = refl

-- the empty text
empty_row : report (codes "m") (codes "a") [] (mark 0 5 [] ∷ []) [] ≡ codes "error: m\n" ++ (codes "  --> a:1:1\n" ++ (codes "   |\n" ++ (codes " 1 | \n" ++ codes "   | ^\n")))
unfolding report chars encode digits
empty_row = refl
